-- What reading gives stands there.
use Rattle.std.proofs.Common.{◌≡◌, ℕ, zero, suc, ◌+◌, ◌-◌, ◌*◌, ◌<◌, ◌≤◌, Bool, true, false, cond, eqb, ltb, Option, Some, None, List, [], ◌∷◌, ◌++◌, length, get_or, Result, Ok, Err, refl, sym, ap, subst, ◌∙◌, arith}
use Rattle.std.specs.Prelude.{slice_get, slice_range}
use Rattle.std.specs.List.{AllByRecursion}
use Rattle.std.proofs.lemmas.Bool.{eqb-true, ltb-true}
use Rattle.std.proofs.lemmas.Bool.Decides.{nat_tests}
use Rattle.std.proofs.lemmas.List.{length-append}
use Rattle.dnsname.specs.declared.name.NameFault.{NameFault}
use Rattle.dnsname.specs.declared.name.NameFault.TheVariants.{Short, LongLabel, Pointer, TooLong}
use Rattle.dnsname.specs.declared.part.Part.{Part}
use Rattle.dnsname.specs.declared.part.Part.TheVariants as part
use Rattle.dnsname.specs.Names.{Labels, IsLabel, label_octets, labels_octets, octets}
use Rattle.dnsname.specs.Spelling.{StandsAt, IsLength, NameFrom, SpellsNameIn, SpellsPlainNameAt, pointer_octets}
use Rattle.dnsname.specs.Spelling as spelling
use Rattle.dnsname.specs.Part.{PartAt}
use Rattle.dnsname.specs.Reading.{Read, with_labels, with_end, on_part, part_of, target_at, target_before, labels_from, name_in, plain_labels_from, plain_name_at}
use Rattle.dnsname.proofs.Standing.{StandsAt-append}
use Rattle.dnsname.proofs.Octets.{octets-cons}
use Rattle.dnsname.proofs.Labels.{label_behind}
use Rattle.dnsname.proofs.Parts.{part_here}
use Rattle.dnsname.proofs.PlainReading.{StandsAt-range}
use Rattle.dnsname.proofs.Pointers.{first_is, pointer_stands}

-- each octet is below 256
abbrev pub AreOctetsBelow : List ℕ → Type 0
AreOctetsBelow xs = (i : ℕ) → i < length xs → get_or xs i 0 < 256

pub below_at : (xs : List ℕ) → AllByRecursion (λ o. o < 256) xs → AreOctetsBelow xs
below_at [] h i lt = absurd (omega arith)
below_at (x ∷ xs) h zero lt = h.0
below_at (x ∷ xs) h (suc i) lt = below_at xs h.1 i (omega arith)

-- ---- one part

slice_get_found : (message : List ℕ) (place n : ℕ) → slice_get message place ≡ Some n → StandsAt message place (n ∷ [])
slice_get_found [] zero n e = absurd cc
slice_get_found [] (suc place) n e = absurd cc
slice_get_found (x ∷ message) zero n e = let same : x ≡ n = cc in (message, ap (λ (k : ℕ). k ∷ message) same)
slice_get_found (x ∷ message) (suc place) n e = slice_get_found message place n e

abbrev done : Part → Result Part NameFault
done p = Ok p

same_part : (p q : Part) → done p ≡ done q → p ≡ q
same_part p q e = cc

no_part : (f : NameFault) (q : Part) → Err f ≡ done q → ⊥
no_part f q e = cc

ltb_false : (a b : ℕ) → ltb a b ≡ false → b ≤ a
ltb_false a b h = grind (arith, nat_tests)

part_found : (message : List ℕ) (place size n : ℕ) (p : Part) → StandsAt message place (n ∷ []) → part_of message place size (Some n) ≡ done p → PartAt message place size p
part_found message place size n p stands e = by_tests (eqb n 0) (ltb n 64) (ltb 255 (size + n + 2)) (ltb (length message) (place + 1 + n)) (ltb n 192) refl refl refl refl refl e
  where
    by_tests : (root short long cut low : Bool) → eqb n 0 ≡ root → ltb n 64 ≡ short → ltb 255 (size + n + 2) ≡ long → ltb (length message) (place + 1 + n) ≡ cut → ltb n 192 ≡ low
        → cond {A = Result Part NameFault} root (Ok part.Root) (cond short (cond long (Err (TooLong place)) (cond cut (Err (Short (length message))) (Ok (part.Label n)))) (cond low (Err (LongLabel place)) (Ok part.Pointer))) ≡ done p → PartAt message place size p
    by_tests true short long cut low r s l c w e = subst (PartAt message place size) (same_part part.Root p e) (subst (λ (k : ℕ). StandsAt message place (k ∷ [])) (eqb-true n 0 r) stands)
    by_tests false true true cut low r s l c w e = absurd (no_part _ p e)
    by_tests false true false true low r s l c w e = absurd (no_part _ p e)
    by_tests false true false false low r s l c w e =
        let some : 1 ≤ n = grind (arith, nat_tests) in
        let is : IsLength size n = record { some = some; few = omega (arith, ltb-true n 64 s); fits = ltb_false _ _ l } in
        subst (PartAt message place size) (same_part (part.Label n) p e) (stands, is, ltb_false _ _ c)
    by_tests false false long cut true r s l c w e = absurd (no_part _ p e)
    by_tests false false long cut false r s l c w e = subst (PartAt message place size) (same_part part.Pointer p e) (n, stands, ltb_false _ _ w)

pub here_found : (message : List ℕ) (place size : ℕ) (p : Part) → part_here message place size ≡ done p → PartAt message place size p
here_found message place size p e = by_octet (slice_get message place) refl e
  where
    by_octet : (o : Option ℕ) → slice_get message place ≡ o → part_of message place size o ≡ done p → PartAt message place size p
    by_octet None g e = absurd (no_part _ p e)
    by_octet (Some n) g e = part_found message place size n p (slice_get_found message place n g) e

-- ---- what is read

abbrev read_as : Labels × ℕ → Read
read_as found = Ok found

same_read : (x y : Labels × ℕ) → read_as x ≡ read_as y → x ≡ y
same_read x y e = cc

not_read : (f : NameFault) (x : Labels × ℕ) → Err f ≡ read_as x → ⊥
not_read f x e = cc

with_labels_found : (front : Labels) (r : Read) (name : Labels) (after : ℕ) → with_labels front r ≡ read_as (name, after) → (rest : Labels) × (r ≡ read_as (rest, after)) × (name ≡ front ++ rest)
with_labels_found front (Ok (rest, end)) name after e =
    let both = same_read (front ++ rest, end) (name, after) e in
    (rest, ap (λ (x : Labels × ℕ). read_as (rest, x.1)) both, sym (ap (λ (x : Labels × ℕ). x.0) both))
with_labels_found front (Err f) name after e = absurd (not_read f (name, after) e)

with_end_found : (end : ℕ) (r : Read) (name : Labels) (after : ℕ) → with_end end r ≡ read_as (name, after) → (behind : ℕ) × (r ≡ read_as (name, behind)) × (after ≡ end)
with_end_found end (Ok (labels, behind)) name after e =
    let both = same_read (labels, end) (name, after) e in
    (behind, ap (λ (x : Labels × ℕ). read_as (x.0, behind)) both, sym (ap (λ (x : Labels × ℕ). x.1) both))
with_end_found end (Err f) name after e = absurd (not_read f (name, after) e)

abbrev target_done : ℕ → Result ℕ NameFault
target_done t = Ok t

same_target : (a b : ℕ) → target_done a ≡ target_done b → a ≡ b
same_target a b e = cc

no_target : (f : NameFault) (t : ℕ) → Err f ≡ target_done t → ⊥
no_target f t e = cc

target_found : (piece : List ℕ) (begin place t : ℕ) → target_before begin piece place ≡ target_done t → (place + 1 < length piece) × (target_at piece place ≡ t) × (target_at piece place < begin)
target_found piece begin place t e = by_tests (ltb (place + 1) (length piece)) (ltb (target_at piece place) begin) refl refl e
  where
    by_tests : (within back : Bool) → ltb (place + 1) (length piece) ≡ within → ltb (target_at piece place) begin ≡ back
        → cond {A = Result ℕ NameFault} within (cond back (Ok (target_at piece place)) (Err (Pointer place))) (Err (Short (length piece))) ≡ target_done t → (place + 1 < length piece) × (target_at piece place ≡ t) × (target_at piece place < begin)
    by_tests false back w b e = absurd (no_target _ t e)
    by_tests true false w b e = absurd (no_target _ t e)
    by_tests true true w b e = (ltb-true _ _ w, same_target _ t e, ltb-true _ _ b)

-- the labels that stand there, and that they stay within 255 octets
pub record Found (message piece : List ℕ) (begin place size after : ℕ) (name : Labels) : Type 0 where
  pub stands : NameFrom message piece begin place name after
  pub labels : AllByRecursion IsLabel name
  pub fits : size + length (labels_octets name) ≤ 254

abbrev Finds : List ℕ → ℕ → Type 0
Finds message fuel = (piece : List ℕ) (begin place size after : ℕ) (name : Labels) → AreOctetsBelow piece → size ≤ 254 → labels_from fuel message piece begin place size ≡ read_as (name, after) → Found message piece begin place size after name

found_label : (message piece : List ℕ) (fuel begin place size after n : ℕ) (name : Labels) → Finds message fuel → AreOctetsBelow piece → StandsAt piece place (n ∷ []) → IsLength size n → place + 1 + n ≤ length piece
    → with_labels (slice_range piece (place + 1) (place + 1 + n) ∷ []) (labels_from fuel message piece begin (place + (1 + n)) (size + (1 + n))) ≡ read_as (name, after) → Found message piece begin place size after name
found_label message piece fuel begin place size after n name finds below first len within e =
    let l = label_behind piece place size n below first len within in
    let range : slice_range piece (place + 1) (place + 1 + n) ≡ l.0 = StandsAt-range piece place (place + 1) (place + 1 + n) (length l.0) l.0 l.3 refl (omega (arith, l.2)) in
    let rest = with_labels_found (slice_range piece (place + 1) (place + 1 + n) ∷ []) _ name after e in
    let others = finds piece begin (place + (1 + n)) (size + (1 + n)) after rest.0 below (omega (arith, len.fits)) rest.1 in
    let name-is : name ≡ l.0 ∷ rest.0 = rest.2 ∙ ap (λ (x : List ℕ). x ∷ rest.0) range in
    let next : place + (1 + n) ≡ place + 1 + length l.0 = omega (arith, l.2) in
    let stands : NameFrom message piece begin place (l.0 ∷ rest.0) after = spelling.NameFrom.label l.1 l.3 (subst (λ (k : ℕ). NameFrom message piece begin k rest.0 after) next others.stands) in
    subst (Found message piece begin place size after) (sym name-is) (record { stands = stands; labels = (l.1, others.labels); fits = omega (arith, others.fits, l.2, length-append (label_octets l.0) (labels_octets rest.0)) })

found_pointer : (message piece : List ℕ) (fuel begin place size after n t : ℕ) (name : Labels) → Finds message fuel → AreOctetsBelow message → AreOctetsBelow piece → size ≤ 254 → StandsAt piece place (n ∷ []) → 192 ≤ n → get_or piece place 0 ≡ n
    → target_before begin piece place ≡ target_done t → with_end (place + 2) (labels_from fuel message message t t size) ≡ read_as (name, after) → Found message piece begin place size after name
found_pointer message piece fuel begin place size after n t name finds below_m below small first high octet leads e =
    let target = target_found piece begin place t leads in
    let rest = with_end_found (place + 2) _ name after e in
    let others = finds message t t size rest.0 name below_m small rest.1 in
    let high_below : get_or piece place 0 < 256 = below place (omega (arith, target.0)) in
    let low_below : get_or piece (place + 1) 0 < 256 = below (place + 1) target.0 in
    let there = pointer_stands piece place (get_or piece place 0 - 192) (get_or piece (place + 1) 0) (omega (arith, target.0)) (omega (arith, octet, high)) refl low_below in
    let t-is : (get_or piece place 0 - 192) * 256 + get_or piece (place + 1) 0 ≡ t = target.1 in
    let pointer = subst (λ (k : ℕ). StandsAt piece place (pointer_octets k)) t-is there in
    let stands : NameFrom message piece begin place name (place + 2) = spelling.NameFrom.pointer pointer (omega (arith, t-is, high_below, low_below)) (omega (arith, target.1, target.2)) others.stands in
    record { stands = subst (NameFrom message piece begin place name) (sym rest.2) stands; labels = others.labels; fits = others.fits }

found_part : (message piece : List ℕ) (fuel begin place size after : ℕ) (name : Labels) → Finds message fuel → AreOctetsBelow message → AreOctetsBelow piece → size ≤ 254
    → (found : Result Part NameFault) → part_here piece place size ≡ found → (target : Result ℕ NameFault) → target_before begin piece place ≡ target
    → on_part found target (Ok ([], place + 1)) (λ n. with_labels (slice_range piece (place + 1) (place + 1 + n) ∷ []) (labels_from fuel message piece begin (place + (1 + n)) (size + (1 + n)))) (λ t. with_end (place + 2) (labels_from fuel message message t t size)) ≡ read_as (name, after)
    → Found message piece begin place size after name
found_part message piece fuel begin place size after name finds below_m below small (Err f) p target leads e = absurd (not_read f (name, after) e)
found_part message piece fuel begin place size after name finds below_m below small (Ok part.Root) p target leads e =
    let none : Labels = [] in
    let both = same_read (none, place + 1) (name, after) e in
    let root = here_found piece place size part.Root p in
    let stands : NameFrom message piece begin place none (place + 1) = spelling.NameFrom.root root in
    let is : Found message piece begin place size (place + 1) none = record { stands = stands; labels = tt; fits = omega (arith, small) } in
    subst (λ (x : Labels × ℕ). Found message piece begin place size x.1 x.0) both is
found_part message piece fuel begin place size after name finds below_m below small (Ok (part.Label n)) p target leads e =
    let label = here_found piece place size (part.Label n) p in
    found_label message piece fuel begin place size after n name finds below label.0 label.1 label.2 e
found_part message piece fuel begin place size after name finds below_m below small (Ok part.Pointer) p (Err f) leads e = absurd (not_read f (name, after) e)
found_part message piece fuel begin place size after name finds below_m below small (Ok part.Pointer) p (Ok t) leads e =
    let pointer = here_found piece place size part.Pointer p in
    found_pointer message piece fuel begin place size after pointer.0 t name finds below_m below small pointer.1 pointer.2 (first_is piece place pointer.0 pointer.1.0 pointer.1.1) leads e

found_from : (message : List ℕ) (fuel : ℕ) → AreOctetsBelow message → Finds message fuel
found_from message zero below_m piece begin place size after name below small e = absurd (not_read _ (name, after) e)
found_from message (suc fuel) below_m piece begin place size after name below small e =
    found_part message piece fuel begin place size after name (found_from message fuel below_m) below_m below small (part_here piece place size) refl (target_before begin piece place) refl e

pub name_in-found : (piece message : List ℕ) (at after : ℕ) (name : Labels) → AreOctetsBelow piece → AreOctetsBelow message → name_in piece message at ≡ Ok (name, after) → SpellsNameIn piece message at name after
name_in-found piece message at after name below below_m e =
    let found = found_from message (at + 128) below_m piece at at 0 after name below (omega arith) e in
    record { is_name = record { labels = found.labels; size = omega (arith, found.fits, length-append (labels_octets name) (0 ∷ [])) }; stands = found.stands }

-- ---- names without pointers

-- the labels that stand there without pointers, and that they stay within 255 octets
record PlainFound (bytes : List ℕ) (place size after : ℕ) (name : Labels) : Type 0 where
  pub stands : StandsAt bytes place (octets name)
  pub labels : AllByRecursion IsLabel name
  pub fits : size + length (labels_octets name) ≤ 254
  pub ends : after ≡ place + length (octets name)

abbrev FindsPlain : List ℕ → ℕ → Type 0
FindsPlain bytes fuel = (place size after : ℕ) (name : Labels) → size ≤ 254 → plain_labels_from fuel bytes place size ≡ read_as (name, after) → PlainFound bytes place size after name

plain_label : (bytes : List ℕ) (fuel place size after n : ℕ) (name : Labels) → FindsPlain bytes fuel → AreOctetsBelow bytes → StandsAt bytes place (n ∷ []) → IsLength size n → place + 1 + n ≤ length bytes
    → with_labels (slice_range bytes (place + 1) (place + 1 + n) ∷ []) (plain_labels_from fuel bytes (place + (1 + n)) (size + (1 + n))) ≡ read_as (name, after) → PlainFound bytes place size after name
plain_label bytes fuel place size after n name finds below first len within e =
    let l = label_behind bytes place size n below first len within in
    let range : slice_range bytes (place + 1) (place + 1 + n) ≡ l.0 = StandsAt-range bytes place (place + 1) (place + 1 + n) (length l.0) l.0 l.3 refl (omega (arith, l.2)) in
    let rest = with_labels_found (slice_range bytes (place + 1) (place + 1 + n) ∷ []) _ name after e in
    let others = finds (place + (1 + n)) (size + (1 + n)) after rest.0 (omega (arith, len.fits)) rest.1 in
    let name-is : name ≡ l.0 ∷ rest.0 = rest.2 ∙ ap (λ (x : List ℕ). x ∷ rest.0) range in
    let whole : octets (l.0 ∷ rest.0) ≡ label_octets l.0 ++ octets rest.0 = octets-cons l.0 rest.0 in
    let stands = StandsAt-append bytes place (place + (1 + n)) (label_octets l.0) (octets rest.0) l.3 others.stands (omega (arith, l.2)) in
    let is : PlainFound bytes place size after (l.0 ∷ rest.0) = record {
      stands = subst (StandsAt bytes place) (sym whole) stands;
      labels = (l.1, others.labels);
      fits = omega (arith, others.fits, l.2, length-append (label_octets l.0) (labels_octets rest.0));
      ends = omega (arith, others.ends, l.2, ap length whole, length-append (label_octets l.0) (octets rest.0));
    } in
    subst (PlainFound bytes place size after) (sym name-is) is

plain_part : (bytes : List ℕ) (fuel place size after : ℕ) (name : Labels) → FindsPlain bytes fuel → AreOctetsBelow bytes → size ≤ 254 → (found : Result Part NameFault) → part_here bytes place size ≡ found
    → on_part found (Err (Pointer place)) (Ok ([], place + 1)) (λ n. with_labels (slice_range bytes (place + 1) (place + 1 + n) ∷ []) (plain_labels_from fuel bytes (place + (1 + n)) (size + (1 + n)))) (λ t. Err (Pointer place)) ≡ read_as (name, after)
    → PlainFound bytes place size after name
plain_part bytes fuel place size after name finds below small (Err f) p e = absurd (not_read f (name, after) e)
plain_part bytes fuel place size after name finds below small (Ok part.Root) p e =
    let none : Labels = [] in
    let both = same_read (none, place + 1) (name, after) e in
    let is : PlainFound bytes place size (place + 1) none = record { stands = here_found bytes place size part.Root p; labels = tt; fits = omega (arith, small); ends = refl } in
    subst (λ (x : Labels × ℕ). PlainFound bytes place size x.1 x.0) both is
plain_part bytes fuel place size after name finds below small (Ok (part.Label n)) p e =
    let label = here_found bytes place size (part.Label n) p in
    plain_label bytes fuel place size after n name finds below label.0 label.1 label.2 e
plain_part bytes fuel place size after name finds below small (Ok part.Pointer) p e = absurd (not_read _ (name, after) e)

plain_from : (bytes : List ℕ) (fuel : ℕ) → AreOctetsBelow bytes → FindsPlain bytes fuel
plain_from bytes zero below place size after name small e = absurd (not_read _ (name, after) e)
plain_from bytes (suc fuel) below place size after name small e = plain_part bytes fuel place size after name (plain_from bytes fuel below) below small (part_here bytes place size) refl e

pub plain_name_at-found : (bytes : List ℕ) (at after : ℕ) (name : Labels) → AreOctetsBelow bytes → plain_name_at bytes at ≡ Ok (name, after) → SpellsPlainNameAt bytes at name after
plain_name_at-found bytes at after name below e =
    let found = plain_from bytes (length bytes + 1) below at 0 after name (omega arith) e in
    record { is_name = record { labels = found.labels; size = omega (arith, found.fits, length-append (labels_octets name) (0 ∷ [])) }; spelled = found.stands; ends = found.ends }
