use Rattle.pushserver.proofs.hub.Hub.link_gone_uncounted.Given as goal

abbrev pub ghosts-link_gone_under : goal.ghosts-link_gone_under
ghosts-link_gone_under a = record { name = a.blank.name; parts = a.blank.parts }
