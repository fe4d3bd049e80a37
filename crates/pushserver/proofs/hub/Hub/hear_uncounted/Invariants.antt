use Rattle.pushserver.proofs.hub.Hub.hear_uncounted.Given as goal

abbrev pub ghosts-hear_under : goal.ghosts-hear_under
ghosts-hear_under a = record { name = a.blank.name; parts = a.blank.parts }
