use Rattle.pushserver.proofs.hub.Hub.moment_uncounted.Given as goal

abbrev pub ghosts-moment_under : goal.ghosts-moment_under
ghosts-moment_under a = record { name = a.blank.name; parts = a.blank.parts }
