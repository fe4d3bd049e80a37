-- The steps of reading a name with pointers, as they are counted part by part.
use Rattle.std.proofs.Common.{◌≡◌, ℕ, zero, suc, ◌+◌, ◌-◌, ◌*◌, ◌/◌, ◌%◌, ◌<◌, ◌≤◌, List, [], ◌∷◌, ◌++◌, length, take, drop, Result, Ok, Err, refl, ap, ◌∙◌, arith, inl, inr}
use Rattle.std.proofs.lemmas.List.{length-append, length-drop, length-take}
use Rattle.dnsname.specs.declared.name.NameFault.{NameFault}
use Rattle.dnsname.specs.declared.name.NameFault.TheVariants.{Short, LongLabel, Pointer, TooLong, NoMemory}
use Rattle.dnsname.specs.declared.part.Part.{Part}
use Rattle.dnsname.specs.declared.part.Part.TheVariants as part
use Rattle.dnsname.specs.Spelling.{StandsAt, IsLength, IsFault, IsPartFault, pointer_octets}
use Rattle.dnsname.specs.Reading.{target_before}
use Rattle.dnsname.specs.NameSteps.{steps_behind, steps_from, steps_in}
use Rattle.dnsname.proofs.Parts.{part_here, part_root, part_label, part_pointer, part_fault}
use Rattle.dnsname.proofs.PlainReading.{StandsAt-front}
use Rattle.dnsname.proofs.PointerReading.{leads_back, leads_nowhere, cut_short}

-- ---- what is counted at one part

by_part : (more : ℕ) (message piece : List ℕ) (begin place size : ℕ) (found : Result Part NameFault) → part_here piece place size ≡ found
    → steps_from (suc more) message piece begin place size ≡ 1 + steps_behind found (target_before begin piece place) (λ n. steps_from more message piece begin (place + (1 + n)) (size + (1 + n))) (λ target. steps_from more message message target target size)
by_part more message piece begin place size found e =
    ap (λ (p : Result Part NameFault). 1 + steps_behind p (target_before begin piece place) (λ n. steps_from more message piece begin (place + (1 + n)) (size + (1 + n))) (λ target. steps_from more message message target target size)) e

at_pointer : (more : ℕ) (message piece : List ℕ) (begin place size n : ℕ) (target : Result ℕ NameFault) → StandsAt piece place (n ∷ []) → 192 ≤ n → target_before begin piece place ≡ target
    → steps_from (suc more) message piece begin place size ≡ 1 + steps_behind (Ok part.Pointer) target (λ n. steps_from more message piece begin (place + (1 + n)) (size + (1 + n))) (λ target. steps_from more message message target target size)
at_pointer more message piece begin place size n target h high leads =
    by_part more message piece begin place size (Ok part.Pointer) (part_pointer piece place size n h high)
    ∙ ap (λ (t : Result ℕ NameFault). 1 + steps_behind (Ok part.Pointer) t (λ n. steps_from more message piece begin (place + (1 + n)) (size + (1 + n))) (λ target. steps_from more message message target target size)) leads

root_step : (more : ℕ) (message piece : List ℕ) (begin place size : ℕ) → StandsAt piece place (0 ∷ []) → steps_from (suc more) message piece begin place size ≡ 1
root_step more message piece begin place size ends = by_part more message piece begin place size (Ok part.Root) (part_root piece place size ends)

label_step : (more : ℕ) (message piece : List ℕ) (begin place size n next grown : ℕ) → StandsAt piece place (n ∷ []) → IsLength size n → place + 1 + n ≤ length piece → next ≡ place + 1 + n → grown ≡ size + 1 + n
    → steps_from (suc more) message piece begin place size ≡ 1 + steps_from more message piece begin next grown
label_step more message piece begin place size n next grown stands len within next-is grown-is =
    let next-at : place + (1 + n) ≡ next = omega (arith, next-is) in
    let grown-at : size + (1 + n) ≡ grown = omega (arith, grown-is) in
    by_part more message piece begin place size (Ok (part.Label n)) (part_label piece place size n stands len within)
    ∙ ap (λ (p : ℕ). 1 + steps_from more message piece begin p (size + (1 + n))) next-at
    ∙ ap (λ (s : ℕ). 1 + steps_from more message piece begin next s) grown-at

pointer_step : (more : ℕ) (message piece : List ℕ) (begin place size target : ℕ) → StandsAt piece place (pointer_octets target) → target < begin
    → steps_from (suc more) message piece begin place size ≡ 1 + steps_from more message message target target size
pointer_step more message piece begin place size target h back =
    at_pointer more message piece begin place size (192 + target / 256) (Ok target) (StandsAt-front piece place ((192 + target / 256) ∷ []) (target % 256 ∷ []) h) (omega arith) (leads_back piece begin place target h back)

met : (more : ℕ) (message piece : List ℕ) (begin place size : ℕ) (fault : NameFault) → IsFault piece place size fault → steps_from (suc more) message piece begin place size ≡ 1
met more message piece begin place size fault h = by_part more message piece begin place size (Err fault) (part_fault piece place size fault h)

fault_step : (more : ℕ) (message piece : List ℕ) (begin place size : ℕ) (fault : NameFault) → IsPartFault piece begin place size fault → steps_from (suc more) message piece begin place size ≡ 1
fault_step more message piece begin place size (Short p) (inl h) = met more message piece begin place size (Short p) h
fault_step more message piece begin place size (Short p) (inr (p-is, cut, n, h, high)) =
    at_pointer more message piece begin place size n (Err (Short (length piece))) h high (cut_short piece begin place cut)
fault_step more message piece begin place size (Pointer p) (p-is, target, h, small, forward) =
    at_pointer more message piece begin place size (192 + target / 256) (Err (Pointer place)) (StandsAt-front piece place ((192 + target / 256) ∷ []) (target % 256 ∷ []) h) (omega arith) (leads_nowhere piece begin place target h forward)
fault_step more message piece begin place size (LongLabel p) h = met more message piece begin place size (LongLabel p) h
fault_step more message piece begin place size (TooLong p) h = met more message piece begin place size (TooLong p) h
fault_step more message piece begin place size NoMemory h = met more message piece begin place size NoMemory h

-- ---- what was counted so far

-- so many of the name's steps were counted; as many may still come as octets fit the name and pointers lead back
pub record CountedSoFar (message first piece : List ℕ) (at begin place size old now : ℕ) : Type 0 where
  pub taken : ℕ
  pub more : ℕ
  pub is_counted : now ≡ old + taken
  pub enough : 2 * begin + 255 < 2 * more + size
  pub few : taken + more ≤ at + 128
  pub rest : steps_in first message at ≡ taken + steps_from more message piece begin place size

none_taken : (n : ℕ) → n ≡ 0 + n
none_taken n = omega arith

pub count_begins : (message first : List ℕ) (at old : ℕ) → CountedSoFar message first first at at at 0 old old
count_begins message first at old = record { taken = 0; more = at + 128; is_counted = omega arith; enough = omega arith; few = omega arith; rest = none_taken (steps_in first message at) }

-- a step is still to come
one_more : (message first piece : List ℕ) (at begin place size taken more : ℕ) → size ≤ 254 → 2 * begin + 255 < 2 * more + size → taken + more ≤ at + 128 → steps_in first message at ≡ taken + steps_from more message piece begin place size
    → (m : ℕ) × (2 * begin + 253 < 2 * m + size) × (taken + 1 + m ≤ at + 128) × (steps_in first message at ≡ taken + steps_from (suc m) message piece begin place size)
one_more message first piece at begin place size taken zero fits enough few rest = absurd (omega arith)
one_more message first piece at begin place size taken (suc more) fits enough few rest = (more, omega (arith, enough), omega (arith, few), rest)

-- the one step at a label
pub count_label : (message first piece : List ℕ) (at begin place size old now later n grown : ℕ) → size ≤ 254 → CountedSoFar message first piece at begin place size old now → later ≡ now + 1 → StandsAt piece place (n ∷ []) → IsLength size n → place + 1 + n ≤ length piece → grown ≡ size + 1 + n
    → CountedSoFar message first piece at begin (place + 1 + n) grown old later
count_label message first piece at begin place size old now later n grown fits so_far one stands len within grown-is =
    let m = one_more message first piece at begin place size so_far.taken so_far.more fits so_far.enough so_far.few so_far.rest in
    let step = label_step m.0 message piece begin place size n (place + 1 + n) grown stands len within refl grown-is in
    record {
      taken = so_far.taken + 1;
      more = m.0;
      is_counted = omega (arith, one, so_far.is_counted);
      enough = omega (arith, m.1, len.some, grown-is);
      few = m.2;
      rest = omega (arith, m.3, step);
    }

-- the one step at a pointer back
pub count_pointer : (message first piece : List ℕ) (at begin place size old now later target : ℕ) → size ≤ 254 → CountedSoFar message first piece at begin place size old now → later ≡ now + 1 → StandsAt piece place (pointer_octets target) → target < begin
    → CountedSoFar message first message at target target size old later
count_pointer message first piece at begin place size old now later target fits so_far one stands back =
    let m = one_more message first piece at begin place size so_far.taken so_far.more fits so_far.enough so_far.few so_far.rest in
    let step = pointer_step m.0 message piece begin place size target stands back in
    record {
      taken = so_far.taken + 1;
      more = m.0;
      is_counted = omega (arith, one, so_far.is_counted);
      enough = omega (arith, m.1);
      few = m.2;
      rest = omega (arith, m.3, step);
    }

-- the last step is at the end of the name, or at a fault
pub count_root : (message first piece : List ℕ) (at begin place size old now later : ℕ) → size ≤ 254 → CountedSoFar message first piece at begin place size old now → later ≡ now + 1 → StandsAt piece place (0 ∷ []) → later ≡ old + steps_in first message at
count_root message first piece at begin place size old now later fits so_far one ends =
    let m = one_more message first piece at begin place size so_far.taken so_far.more fits so_far.enough so_far.few so_far.rest in
    let step = root_step m.0 message piece begin place size ends in
    omega (arith, one, so_far.is_counted, m.3, step)

pub count_fault : (message first piece : List ℕ) (at begin place size old now later : ℕ) (fault : NameFault) → size ≤ 254 → CountedSoFar message first piece at begin place size old now → later ≡ now + 1 → IsPartFault piece begin place size fault → later ≡ old + steps_in first message at
count_fault message first piece at begin place size old now later fault fits so_far one met =
    let m = one_more message first piece at begin place size so_far.taken so_far.more fits so_far.enough so_far.few so_far.rest in
    let step = fault_step m.0 message piece begin place size fault met in
    omega (arith, one, so_far.is_counted, m.3, step)

-- so many octets a label adds
pub label_grows : (piece bytes now : List ℕ) (place n : ℕ) → place + 1 + n ≤ length piece → now ≡ bytes ++ take (place + 1 + n - place) (drop place piece) → length now ≡ length bytes + 1 + n
label_grows piece bytes now place n within now-is =
    omega (arith, within, ap length now-is, length-append bytes (take (place + 1 + n - place) (drop place piece)), length-take (place + 1 + n - place) (drop place piece), length-drop place piece)

-- ---- the bound

few_steps : (more : ℕ) (message piece : List ℕ) (begin place size : ℕ) (found : Result Part NameFault) (target : Result ℕ NameFault) → ((b at s : ℕ) (o : List ℕ) → steps_from more message o b at s ≤ more) → 1 + steps_behind found target (λ n. steps_from more message piece begin (place + (1 + n)) (size + (1 + n))) (λ target. steps_from more message message target target size) ≤ suc more
few_steps more message piece begin place size (Ok part.Root) target few = omega arith
few_steps more message piece begin place size (Ok (part.Label n)) target few = omega (arith, few begin (place + (1 + n)) (size + (1 + n)) piece)
few_steps more message piece begin place size (Ok part.Pointer) (Ok target) few = omega (arith, few target target size message)
few_steps more message piece begin place size (Ok part.Pointer) (Err fault) few = omega arith
few_steps more message piece begin place size (Err fault) target few = omega arith

few_from : (more : ℕ) (message piece : List ℕ) (begin place size : ℕ) → steps_from more message piece begin place size ≤ more
few_from zero message piece begin place size = omega arith
few_from (suc more) message piece begin place size =
    few_steps more message piece begin place size (part_here piece place size) (target_before begin piece place) (λ b at s o. few_from more message o b at s)

-- there are no more steps than there may be
pub steps_in-few : (piece message : List ℕ) (at : ℕ) → steps_in piece message at ≤ at + 128
steps_in-few piece message at = few_from (at + 128) message piece at at 0
