use Rattle.pushctl_commands.proofs.dialling.wait.Given as goal

abbrev pub decreases-ticks : goal.decreases-ticks
decreases-ticks g l = l.left
