-- A name that was read from octets is read again from its own.
--     CanStand size name      each label has a length, and with so many octets before them the name has at most 255
use Rattle.std.proofs.Common.{◌≡◌, ℕ, zero, suc, ◌+◌, ◌-◌, ◌<◌, ◌≤◌, List, [], ◌∷◌, ◌++◌, length, take, drop, Result, Ok, Err, refl, sym, ap, subst, ◌∙◌, arith}
use Rattle.std.specs.Prelude.{slice_range}
use Rattle.std.specs.List.{AllByRecursion}
use Rattle.std.proofs.lemmas.List.{length-append, length-take-le, length-drop}
use Rattle.dnsname.specs.declared.name.NameFault.{NameFault}
use Rattle.dnsname.specs.declared.name.NameFault.TheVariants.{Pointer}
use Rattle.dnsname.specs.declared.part.Part.{Part}
use Rattle.dnsname.specs.declared.part.Part.TheVariants as part
use Rattle.dnsname.specs.Names.{Labels, IsLabel, IsName, octets}
use Rattle.dnsname.specs.Spelling.{StandsAt, IsLength}
use Rattle.dnsname.specs.Reading.{Read, with_labels, on_part, plain_labels_from, plain_name_at}
use Rattle.dnsname.proofs.Octets.{octets-cons}
use Rattle.dnsname.proofs.Standing.{StandsAt-length}
use Rattle.dnsname.proofs.FoundNames.{here_found}
use Rattle.dnsname.proofs.Parts.{part_here, part_root, part_label}
use Rattle.dnsname.proofs.PlainReading.{StandsAt-front, StandsAt-back, StandsAt-range}

abbrev pub CanStand : ℕ → Labels → Type 0
CanStand size [] = Unit {0}
CanStand size (label ∷ name) = IsLength size (length label) × CanStand (size + (1 + length label)) name

-- ---- what is read can stand

abbrev pub IsPart : List ℕ → ℕ → ℕ → ℕ → Type 0
IsPart message place size n = IsLength size n × (place + 1 + n ≤ length message)

abbrev pub read_as : Labels → ℕ → Read
read_as name after = Ok (name, after)

pub same_name_read : (a b : Labels) (p q : ℕ) → read_as a p ≡ read_as b q → a ≡ b
same_name_read a b p q e = let both : (a, p) ≡ (b, q) = cc in ap (λ (x : Labels × ℕ). x.0) both

pub not_read : (f : NameFault) (name : Labels) (after : ℕ) → Err f ≡ read_as name after → ⊥
not_read f name after e = cc

pub range_length : (message : List ℕ) (place n : ℕ) → place + 1 + n ≤ length message → length (slice_range message (place + 1) (place + 1 + n)) ≡ n
range_length message place n within =
    let cut : place + 1 + n - (place + 1) ≡ n = omega arith in
    let left = length-drop (place + 1) message in
    ap (λ (k : ℕ). length (take k (drop (place + 1) message))) cut ∙ length-take-le n (drop (place + 1) message) (omega arith)

abbrev pub Finds : List ℕ → ℕ → Type 0
Finds message fuel = (place size after : ℕ) (name : Labels) → plain_labels_from fuel message place size ≡ read_as name after → CanStand size name

pub first_can : (message : List ℕ) (fuel place size after n : ℕ) (name : Labels) → Finds message fuel → IsPart message place size n → (r : Read) → plain_labels_from fuel message (place + (1 + n)) (size + (1 + n)) ≡ r
    → with_labels (slice_range message (place + 1) (place + 1 + n) ∷ []) r ≡ read_as name after → CanStand size name
first_can message fuel place size after n name finds is (Err f) rest e = absurd (not_read f name after e)
first_can message fuel place size after n name finds is (Ok found) rest e =
    let label = slice_range message (place + 1) (place + 1 + n) in
    let long : length label ≡ n = range_length message place n is.1 in
    let others : CanStand (size + (1 + n)) found.0 = finds (place + (1 + n)) (size + (1 + n)) found.1 found.0 rest in
    subst (CanStand size) (same_name_read (label ∷ found.0) name found.1 after e)
    (subst (IsLength size) (sym long) is.0, subst (λ (k : ℕ). CanStand (size + (1 + k)) found.0) (sym long) others)

pub part_can : (message : List ℕ) (fuel place size after : ℕ) (name : Labels) → Finds message fuel → (p : Result Part NameFault) → part_here message place size ≡ p
    → on_part p (Err (Pointer place)) (Ok ([], place + 1)) (λ n. with_labels (slice_range message (place + 1) (place + 1 + n) ∷ []) (plain_labels_from fuel message (place + (1 + n)) (size + (1 + n)))) (λ target. Err (Pointer place)) ≡ read_as name after
    → CanStand size name
part_can message fuel place size after name finds (Err f) p e = absurd (not_read f name after e)
part_can message fuel place size after name finds (Ok part.Root) p e = let none : Labels = [] in subst (CanStand size) (same_name_read none name (place + 1) after e) tt
part_can message fuel place size after name finds (Ok part.Pointer) p e = absurd (not_read _ name after e)
part_can message fuel place size after name finds (Ok (part.Label n)) p e =
    first_can message fuel place size after n name finds (let found = here_found message place size (part.Label n) p in (found.1, found.2)) (plain_labels_from fuel message (place + (1 + n)) (size + (1 + n))) refl e

pub read_can : (message : List ℕ) (fuel : ℕ) → Finds message fuel
read_can message zero place size after name e = absurd (not_read _ name after e)
read_can message (suc fuel) place size after name e = part_can message fuel place size after name (read_can message fuel) (part_here message place size) refl e

pub plain_name_at-can : (message : List ℕ) (at after : ℕ) (name : Labels) → plain_name_at message at ≡ Ok (name, after) → CanStand 0 name
plain_name_at-can message at after name e = read_can message (length message + 1) at 0 after name e

-- ---- what can stand is read

pub stands_read : (fuel : ℕ) (message : List ℕ) (place size : ℕ) (name : Labels) → CanStand size name → StandsAt message place (octets name) → length name < fuel
    → plain_labels_from fuel message place size ≡ Ok (name, place + length (octets name))
stands_read zero message place size name can h few = absurd (omega arith)
stands_read (suc fuel) message place size [] can h few =
    ap (λ (p : Result Part NameFault). on_part p (Err (Pointer place)) (Ok ([], place + 1)) (λ n. with_labels (slice_range message (place + 1) (place + 1 + n) ∷ []) (plain_labels_from fuel message (place + (1 + n)) (size + (1 + n)))) (λ target. Err (Pointer place))) (part_root message place size h)
stands_read (suc fuel) message place size (label ∷ name) can h few =
    let n = length label in
    let whole : StandsAt message place (n ∷ (label ++ octets name)) = subst (StandsAt message place) (octets-cons label name) h in
    let first = StandsAt-front message place (n ∷ []) (label ++ octets name) whole in
    let one = StandsAt-front message place (n ∷ label) (octets name) whole in
    let others = StandsAt-back message place (place + (1 + n)) (n ∷ label) (octets name) whole (omega arith) in
    let within = StandsAt-length message place (n ∷ label) one in
    let is = part_label message place size n first can.0 (omega (arith, within, can.0.some)) in
    let range : slice_range message (place + 1) (place + 1 + n) ≡ label = StandsAt-range message place (place + 1) (place + 1 + n) n label one refl refl in
    let rest = stands_read fuel message (place + (1 + n)) (size + (1 + n)) name can.1 others (omega arith) in
    let end : place + (1 + n) + length (octets name) ≡ place + length (octets (label ∷ name)) = omega (arith, ap (λ (t : List ℕ). length t) (octets-cons label name), length-append label (octets name)) in
    ap (λ (p : Result Part NameFault). on_part p (Err (Pointer place)) (Ok ([], place + 1)) (λ n. with_labels (slice_range message (place + 1) (place + 1 + n) ∷ []) (plain_labels_from fuel message (place + (1 + n)) (size + (1 + n)))) (λ target. Err (Pointer place))) is
    ∙ ap (λ (l : List ℕ). with_labels (l ∷ []) (plain_labels_from fuel message (place + (1 + n)) (size + (1 + n)))) range
    ∙ ap (with_labels (label ∷ [])) rest
    ∙ ap (λ (k : ℕ). Ok (label ∷ name, k)) end

-- each label takes an octet or more
pub fewer_labels : (name : Labels) → length name < length (octets name)
fewer_labels [] = omega arith
fewer_labels (label ∷ name) = omega (arith, ap (λ (t : List ℕ). length t) (octets-cons label name), length-append label (octets name), fewer_labels name)

pub plain_name_at-stands : (message : List ℕ) (at : ℕ) (name : Labels) → CanStand 0 name → StandsAt message at (octets name) → plain_name_at message at ≡ Ok (name, at + length (octets name))
plain_name_at-stands message at name can h = stands_read (length message + 1) message at 0 name can h (omega (arith, fewer_labels name, StandsAt-length message at (octets name) h))

-- a name can stand
pub labels-can : (size : ℕ) (name : Labels) → AllByRecursion IsLabel name → size + length (octets name) ≤ 255 → CanStand size name
labels-can size [] is fits = tt
labels-can size (label ∷ name) is fits =
    let long : length (octets (label ∷ name)) ≡ suc (length label + length (octets name)) = ap (λ (t : List ℕ). length t) (octets-cons label name) ∙ ap suc (length-append label (octets name)) in
    let more = fewer_labels name in
    (record { some = is.0.some; few = is.0.few; fits = omega arith }, labels-can (size + (1 + length label)) name is.1 (omega arith))

pub name-can : (name : Labels) → IsName name → CanStand 0 name
name-can name is = labels-can 0 name is.labels (omega (arith, is.size))
