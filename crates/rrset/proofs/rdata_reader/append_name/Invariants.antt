use Rattle.rrset.proofs.rdata_reader.append_name.Given as goal

abbrev pub ghosts-name_under : goal.ghosts-name_under
ghosts-name_under a = record { name = a.blank.name; parts = a.blank.parts }
