use Rattle.pushserver.proofs.hub.Hub.give_uncounted.Given as goal

abbrev pub ghosts-give_under : goal.ghosts-give_under
ghosts-give_under a = record { name = a.blank.name; parts = a.blank.parts }
