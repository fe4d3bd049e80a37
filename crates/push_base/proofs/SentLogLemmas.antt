-- Datagrams that stand one behind the other.
use Rattle.std.proofs.Common.{◌≡◌, ℕ, zero, suc, ◌+◌, ◌-◌, ◌<◌, ◌≤◌, Bool, true, Some, Result, Ok, Err, OnErr, List, [], ◌∷◌, ◌++◌, length, option_map, take, drop, refl, sym, ◌∙◌, ap, subst, arith}
use Rattle.std.specs.Prelude.{get_or, nat_lt, if◌then◌else◌}
use Rattle.std.specs.List.{slice_get}
use Rattle.std.proofs.lemmas.Bool.Decides.{nat_tests}
use Rattle.std.proofs.lemmas.List.{length-append, length-drop, length-take-le, take_all, take-append-le, drop-append-le, map_push}
use Rattle.std.proofs.Math.Seq.{drop-append_seam}
use Rattle.std.proofs.lemmas.Option.{slice_get-map, slice_get-get_or}
use Rattle.push_base.specs.declared.sent_log.Part.{Part}
use Rattle.push_base.specs.SentLog.{room_taken}
use Rattle.push_base.specs.SentLogInside.{octets_at, datagrams_of, AreParts}

pub room_taken-push : (ds : List (List ℕ)) (d : List ℕ) → room_taken (ds ++ d ∷ []) ≡ room_taken ds + (length d + 2)
room_taken-push [] d = omega arith
room_taken-push (x ∷ ds) d = let more = room_taken-push ds d in omega (arith, more)

later : (start : ℕ) (parts : List Part) (end : ℕ) → AreParts start parts end → start ≤ end
later start [] end are = omega (arith, are)
later start (p ∷ parts) end are = let rest = later p.end parts end are.2 in let here = are.1 in omega (arith, here, rest)

octets_at-length : (octets : List ℕ) (p : Part) → p.end ≤ length octets → length (octets_at octets p) ≡ p.end - p.start
octets_at-length octets p within = let long = length-drop p.start octets in length-take-le (p.end - p.start) (drop p.start octets) (omega (arith, long, within))

-- how much room is taken
takes_from : (octets : List ℕ) (start : ℕ) (parts : List Part) (end : ℕ) → end ≤ length octets → AreParts start parts end
    → start + room_taken (datagrams_of octets parts) ≡ end + (length parts + length parts)
takes_from octets start [] end within are = omega (arith, are)
takes_from octets start (p ∷ parts) end within are =
    let last = later p.end parts end are.2 in
    let within_here : p.end ≤ length octets = omega (arith, last, within) in
    let long = octets_at-length octets p within_here in
    let rest = takes_from octets p.end parts end within are.2 in
    let begins = are.0 in
    let ends = are.1 in
    omega (arith, long, rest, begins, ends)

pub takes : (octets : List ℕ) (parts : List Part) → AreParts 0 parts (length octets) → room_taken (datagrams_of octets parts) ≡ length octets + (length parts + length parts)
takes octets parts are = let all = takes_from octets 0 parts (length octets) (omega arith) are in omega (arith, all)

-- each part ends where it began or later, and within the whole
abbrev pub IsWithin : ℕ → Part → Type 0
IsWithin end p = (p.start ≤ p.end) × (p.end ≤ end)

within_from : (start : ℕ) (parts : List Part) (end : ℕ) (i : ℕ) (d : Part) → i < length parts → AreParts start parts end → IsWithin end (get_or parts i d)
within_from start [] end i d lt are = absurd (omega (arith, lt))
within_from start (p ∷ parts) end zero d lt are =
    let last = later p.end parts end are.2 in
    let begins = are.0 in
    let ends = are.1 in
    (omega (arith, begins, ends), last)
within_from start (p ∷ parts) end (suc i) d lt are = within_from p.end parts end i d (omega (arith, lt)) are.2

-- one more part
pub parts_more : (start : ℕ) (parts : List Part) (end last : ℕ) → end ≤ last → AreParts start parts end → AreParts start (parts ++ record { start = end; end = last } ∷ []) last
parts_more start [] end last le are = (sym are, omega (arith, are, le), refl)
parts_more start (p ∷ parts) end last le are = (are.0, are.1, parts_more p.end parts end last le are.2)

octets_at-more : (octets more : List ℕ) (p : Part) → p.start ≤ p.end → p.end ≤ length octets → octets_at (octets ++ more) p ≡ octets_at octets p
octets_at-more octets more p begins within =
    let long = length-drop p.start octets in
    ap (take (p.end - p.start)) (drop-append-le p.start octets more (omega (arith, begins, within)))
    ∙ take-append-le (p.end - p.start) (drop p.start octets) more (omega (arith, long, within))

stay : (octets more : List ℕ) (start : ℕ) (parts : List Part) (end : ℕ) → end ≤ length octets → AreParts start parts end → datagrams_of (octets ++ more) parts ≡ datagrams_of octets parts
stay octets more start [] end within are = refl
stay octets more start (p ∷ parts) end within are =
    let last = later p.end parts end are.2 in
    let begins = are.0 in
    let ends = are.1 in
    let here : octets_at (octets ++ more) p ≡ octets_at octets p = octets_at-more octets more p (omega (arith, begins, ends)) (omega (arith, last, within)) in
    let rest = stay octets more p.end parts end within are.2 in
    λ k. here k ∷ rest k

last_part : (octets more : List ℕ) → octets_at (octets ++ more) (record { start = length octets; end = length (octets ++ more) }) ≡ more
last_part octets more =
    let long = length-append octets more in
    ap (take (length (octets ++ more) - length octets)) (drop-append_seam octets more)
    ∙ take_all (length (octets ++ more) - length octets) more (omega (arith, long))

pub added : (octets more : List ℕ) (parts : List Part) → AreParts 0 parts (length octets)
    → datagrams_of (octets ++ more) (parts ++ record { start = length octets; end = length (octets ++ more) } ∷ []) ≡ datagrams_of octets parts ++ more ∷ []
added octets more parts are =
    let front = stay octets more 0 parts (length octets) (omega arith) are in
    let last = last_part octets more in
    map_push (octets_at (octets ++ more)) parts (record { start = length octets; end = length (octets ++ more) })
    ∙ (λ k. front k ++ last k ∷ [])

-- what a part at an index says
pub within_at : (parts seen : List Part) (end i : ℕ) (d p : Part) → seen ≡ parts → true ≡ nat_lt i (length seen) → p ≡ get_or seen i d → AreParts 0 parts end → IsWithin end p
within_at parts seen end i d p same lt is are =
    let within : i < length seen = grind (arith, nat_tests) in
    let holds : AreParts 0 seen end = subst (λ ps. AreParts 0 ps end) (sym same) are in
    subst (IsWithin end) (sym is) (within_from 0 seen end i d within holds)

pub datagram_at : (octets : List ℕ) (parts seen : List Part) (i : ℕ) (d p : Part) → seen ≡ parts → true ≡ nat_lt i (length seen) → p ≡ get_or seen i d → Some (octets_at octets p) ≡ slice_get (datagrams_of octets parts) i
datagram_at octets parts seen i d p same lt is =
    let within : i < length seen = grind (arith, nat_tests) in
    sym (ap (λ ps. slice_get (datagrams_of octets ps) i) (sym same) ∙ slice_get-map (octets_at octets) seen i ∙ ap (option_map (octets_at octets)) (slice_get-get_or seen i d within ∙ ap Some (sym is)))

pub on_err : {T E P : Type 0} (result : Result T E) → P → OnErr result P
on_err (Ok done) p = tt
on_err (Err e) p = p

-- memory can run out only past the room
pub full_at_parts : (octets : List ℕ) (parts : List Part) (more : List ℕ) (room capacity : ℕ) → AreParts 0 parts (length octets) → room ≤ capacity + capacity + 1 → capacity < length parts + 1
    → room < room_taken (datagrams_of octets parts ++ more ∷ [])
full_at_parts octets parts more room capacity are fits full =
    let now = takes octets parts are in
    let then_taken = room_taken-push (datagrams_of octets parts) more in
    omega (arith, now, then_taken, fits, full)

pub full_at_octets : (octets : List ℕ) (parts : List Part) (more : List ℕ) (room capacity : ℕ) → AreParts 0 parts (length octets) → room ≤ capacity → capacity < length octets + length more
    → room < room_taken (datagrams_of octets parts ++ more ∷ [])
full_at_octets octets parts more room capacity are fits full =
    let now = takes octets parts are in
    let then_taken = room_taken-push (datagrams_of octets parts) more in
    omega (arith, now, then_taken, fits, full)

-- after one more
pub record IsAdded (octets octets_now more : List ℕ) (parts parts_now : List Part) : Type 0 where
  pub are : AreParts 0 parts_now (length octets_now)
  pub datagrams : datagrams_of octets_now parts_now ≡ datagrams_of octets parts ++ more ∷ []

pub is_added : (octets octets_now more : List ℕ) (parts parts_then parts_now : List Part) (start end : ℕ) (ok : Bool) → parts_then ≡ parts → ok ≡ true
    → parts_now ≡ (if ok then parts_then ++ record { start = start; end = end } ∷ [] else parts_then) → octets_now ≡ octets ++ more → start ≡ length octets → end ≡ length octets_now
    → AreParts 0 parts (length octets) → IsAdded octets octets_now more parts parts_now
is_added octets octets_now more parts parts_then parts_now start end ok same is_ok now is starts ends are =
    let part : Part = record { start = length octets; end = length (octets ++ more) } in
    let found : Part = record { start = start; end = end } in
    let is_part : found ≡ part = λ k. record { start = starts k; end = (ends ∙ ap length is) k } in
    let is_now : parts_now ≡ parts ++ part ∷ [] = now ∙ ap (λ t. if t then parts_then ++ record { start = start; end = end } ∷ [] else parts_then) is_ok ∙ (λ k. same k ++ is_part k ∷ []) in
    let long = length-append octets more in
    let there : IsAdded octets (octets ++ more) more parts (parts ++ part ∷ []) =
    record { are = parts_more 0 parts (length octets) (length (octets ++ more)) (omega (arith, long)) are; datagrams = added octets more parts are } in
    subst (λ ps. IsAdded octets octets_now more parts ps) (sym is_now) (subst (λ os. IsAdded octets os more parts (parts ++ part ∷ [])) (sym is) there)
