use Rattle.pushctl_commands.proofs.dialling.dial_on.Given as goal

abbrev pub decreases-connections : goal.decreases-connections
decreases-connections g l = l.left
