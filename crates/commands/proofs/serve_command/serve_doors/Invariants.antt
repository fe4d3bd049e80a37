use Rattle.hublock.specs.Ledgers.{names_of}
use Rattle.commands.proofs.serve_command.serve_doors.Given as goal

abbrev pub ghosts-serve_setup : goal.ghosts-serve_setup
ghosts-serve_setup g a = record { names = names_of a.blanks }
