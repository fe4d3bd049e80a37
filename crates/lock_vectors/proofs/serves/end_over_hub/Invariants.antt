use Rattle.hublock.specs.Ledgers.{names_of}
use Rattle.lock_vectors.proofs.serves.end_over_hub.Given as goal

abbrev pub ghosts-end_of : goal.ghosts-end_of
ghosts-end_of g a = record { names = names_of a.blanks }
