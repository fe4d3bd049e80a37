use Rattle.vectors.proofs.names.are_read_so.Given as goal

abbrev pub ghosts-pointed_name : goal.ghosts-pointed_name
ghosts-pointed_name a = record { name = a.blank.name; parts = a.blank.parts }
