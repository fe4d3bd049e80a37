use Rattle.pushserver.proofs.hub.Hub.update_uncounted.Given as goal

abbrev pub ghosts-update_under : goal.ghosts-update_under
ghosts-update_under a = record { name = a.blank.name; parts = a.blank.parts }
