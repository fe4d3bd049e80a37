use Rattle.pushctl_commands.proofs.wording.cut_place.Given as goal

abbrev pub decreases-octets : goal.decreases-octets
decreases-octets l = l.count
