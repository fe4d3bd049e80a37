-- How a program ends, as numbers.
--     status_of outcome      the status of an outcome
--     HasRead status      what it was to read was read
use Rattle.std.specs.Prelude.{◌≡◌, ◌⊎◌, ℕ}
use Rattle.scripts.specs.declared.outcome.Outcome.{Outcome}
use Rattle.scripts.specs.declared.outcome.Outcome.TheVariants.{Done, Outside, ReadFault, NoMemory, WriteFault}

abbrev pub status_of : Outcome → ℕ
status_of Done = 0
status_of Outside = 2
status_of ReadFault = 3
status_of NoMemory = 4
status_of WriteFault = 5

-- the status says that the script was read
abbrev pub HasRead : ℕ → Type 0
HasRead status = (status ≡ status_of Done) ⊎ (status ≡ status_of Outside)
