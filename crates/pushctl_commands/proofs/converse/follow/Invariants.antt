use Rattle.pushctl_commands.proofs.converse.follow.Given as goal

abbrev pub decreases-reads : goal.decreases-reads
decreases-reads g l = l.left
