-- What the readers inside the adapters have left.
--     left_in      what the one of two readers that is there has left
--     LineConsumes      what a line takes from the reader inside
use Rattle.std.specs.Prelude.{ℕ, List, Result, Ok, Err}
use Rattle.std.specs.declared.option.Option.{Option}
use Rattle.std.specs.Io.KnownBytes.{ReadConsumes}
use Rattle.push_base.specs.declared.got.Got.{Got}
use Rattle.push_base.specs.declared.got.Got.TheVariants.{Bytes, Quiet, End}
use Rattle.push_outside.specs.declared.origin.Origin.{Origin}
use Rattle.push_outside.specs.declared.origin.Origin.TheVariants.{Input, File}

-- what the reader that is there has left, where it tells that
abbrev pub left_in : {I F : Type 0} → (I → Option (List ℕ)) → (F → Option (List ℕ)) → Origin I F → Option (List ℕ)
left_in of_input of_file (Input input) = of_input input
left_in of_input of_file (File file) = of_file file

-- a call takes from the reader exactly the octets that it answers; it answers that there are no more where the reader
-- gave none; where it was quiet or failed, it took none
abbrev pub LineConsumes : {E : Type 0} → Option (List ℕ) → Option (List ℕ) → Result Got E → List ℕ → Type 0
LineConsumes before now (Ok (Bytes n)) buf = ReadConsumes {E = Got} before now (Ok n) buf
LineConsumes before now (Ok End) buf = ReadConsumes {E = Got} before now (Ok 0) buf
LineConsumes before now (Ok Quiet) buf = ReadConsumes {E = Got} before now (Err Quiet) buf
LineConsumes before now (Err e) buf = ReadConsumes {E = Got} before now (Err Quiet) buf
