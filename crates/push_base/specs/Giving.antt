-- What a call gives that may run out of memory.
--     GivesUnless      what is read, the fault too, but for some faults, which are free
use Rattle.std.specs.Prelude.{◌≡◌, Result, Ok, Err}

-- what is read; a fault that `unless` frees, as want of memory, says nothing of what is read
abbrev pub GivesUnless : {X E : Type 0} → ((E → Type 0) → E → Type 0) → Result X E → Result X E → Type 0
GivesUnless unless (Ok x) read = read ≡ Ok x
GivesUnless unless (Err fault) read = unless (λ told. read ≡ Err told) fault
