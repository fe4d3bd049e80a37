-- The steps of reading a name with pointers. A step is one length octet or pointer that is looked at, also where the
-- message ends in its place.
--     name_steps message at      how many there are, up to the end of the name or the first fault
--     steps_up_to end message at      the same, where what stands at the place reaches no further than end
--     CountsAll result steps old new      so many were counted, unless memory ran out
use Rattle.std.specs.Prelude.{◌≡◌, ℕ, zero, suc, ◌+◌, List, take, slice_get, Result, Ok, Err, MatchResult}
use Rattle.dnsname.specs.declared.name.NameFault.{NameFault}
use Rattle.dnsname.specs.declared.part.Part.{Part}
use Rattle.dnsname.specs.declared.part.Part.TheVariants as part
use Rattle.dnsname.specs.Reading.{IsMemoryOr, part_of, target_before}

-- the steps behind a part: those behind the label, or where the pointer leads, if it leads back
abbrev pub steps_behind : Result Part NameFault → Result ℕ NameFault → (ℕ → ℕ) → (ℕ → ℕ) → ℕ
steps_behind (Ok part.Root) target label pointer = 0
steps_behind (Ok (part.Label n)) target label pointer = label n
steps_behind (Ok part.Pointer) (Ok target) label pointer = pointer target
steps_behind (Ok part.Pointer) (Err fault) label pointer = 0
steps_behind (Err fault) target label pointer = 0

-- at most so many, in the piece that began at begin; a pointer leads into the whole message
abbrev pub steps_from : ℕ → List ℕ → List ℕ → ℕ → ℕ → ℕ → ℕ
steps_from zero message piece begin place size = 0
steps_from (suc more) message piece begin place size = 1 + steps_behind (part_of piece place size (slice_get piece place)) (target_before begin piece place)
    (λ n. steps_from more message piece begin (place + (1 + n)) (size + (1 + n)))
    (λ target. steps_from more message message target target size)

-- The steps of the name at a place, its first piece in these octets.
abbrev pub steps_in : List ℕ → List ℕ → ℕ → ℕ
steps_in piece message at = steps_from (at + 128) message piece at at 0

abbrev pub name_steps : List ℕ → ℕ → ℕ
name_steps message at = steps_in message message at

-- the same, where what stands at the place reaches no further than end
abbrev pub steps_up_to : ℕ → List ℕ → ℕ → ℕ
steps_up_to end message at = steps_in (take end message) message at

-- a call counted so many steps, unless memory ran out
abbrev pub CountsAll : {X : Type 0} → Result X NameFault → ℕ → ℕ → ℕ → Type 0
CountsAll result steps old new = MatchResult result (λ read. new ≡ old + steps) (IsMemoryOr (λ fault. new ≡ old + steps))
