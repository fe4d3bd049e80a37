use Rattle.pushctl_commands.proofs.writing.strings_of.Given as goal

abbrev pub decreases-strings : goal.decreases-strings
decreases-strings l = l.left
