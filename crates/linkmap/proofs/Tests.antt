-- Names in octets and inside rdata: what the code's tests of them stand for.
use Rattle.std.proofs.Common.{◌≡◌, ℕ, ◌+◌, ◌-◌, ◌≤◌, ◌<◌, Bool, true, false, cond, not, ◌&&◌, ◌||◌, List, [], ◌∷◌, ◌++◌, length, take, drop, get_or, map, Option, Some, None, Result, Ok, Err, is_ok, refl, sym, ap, subst, ◌∙◌, arith}
use Rattle.std.specs.Prelude.{nat_le, flat_map}
use Rattle.std.specs.List.{list_any, list_all}
use Rattle.std.proofs.lemmas.List.{take_at, at_drop_more}
use Rattle.dnsname.specs.Names.{Labels, SpellsName, max_name, octets, ends_in, swapped_suffix}
use Rattle.dnsname.specs.Octets.{labels_of}
use Rattle.dnsname.specs.Spelling.{SpellsPlainNameAt}
use Rattle.dnsname.specs.Reading.{Read, plain_name_at, place_of}
use Rattle.dnsname.proofs.Spellings.{spells, view_of}
use Rattle.dnsname.proofs.Endings.{spells_view}
use Rattle.dnsname.proofs.Decisions.{and_true, ends_in-Decides}
use Rattle.dnsname.proofs.Swaps.{swaps}
use Rattle.dnsname.proofs.PlainReading.{plain_name_at-name}
use Rattle.rrset.specs.Rdata.{Field, named, field_names, with_field, fields_from, rdata_fields, rdata_names, with_names, with_suffix}
use Rattle.rrset.specs.Parts.{part_of, field_at}
use Rattle.rrset.specs.declared.shape.ShapePart.{ShapePart}
use Rattle.rrset.specs.declared.shape.ShapePart.TheVariants as code
use Rattle.rrset.specs.declared.record.Rr.{Rr}
use Rattle.rrset.proofs.Shapes.{fields-first, onto_field}
use Rattle.linkmap.specs.Translation.{local, renamed, fits_a_name, names_fit, is_of_link, is_translatable, is_usable}
use Rattle.linkmap.specs.Names.{is_renamable, tested_of, tested_at, all_pass}
use Rattle.linkmap.proofs.Changed.{names_map, with_names-agree}
use Rattle.linkmap.proofs.Shown.{inside_all}

-- ---- octets

pub record Fits (name old new : List ℕ) : Type 0 where
  pub short : length old ≤ length name
  pub test : nat_le (length name - length old + length new) max_name ≡ fits_a_name (renamed (labels_of old) (labels_of new) (labels_of name))

pub fits : (name old new : List ℕ) → SpellsName name (labels_of name) → SpellsName old (labels_of old) → SpellsName new (labels_of new) → ends_in (labels_of name) (labels_of old) ≡ true → Fits name old new
fits name old new of_name of_old of_new ends =
    let s = swaps (labels_of name) (labels_of old) (labels_of new) name old new ((ends_in-Decides (labels_of name) (labels_of old)).0 ends) (spells_view name (labels_of name) of_name refl) (spells_view old (labels_of old) of_old refl) (spells_view new (labels_of new) of_new refl) in
    record {
      short = s.short;
      test = sym (
          ap (λ (b : Bool). nat_le (length (octets (cond b (swapped_suffix (labels_of name) (labels_of old) (labels_of new)) (labels_of name)))) max_name) ends
          ∙ ap (λ (ls : Labels). nat_le (length (octets ls)) max_name) s.is
          ∙ ap (λ (k : ℕ). nat_le k max_name) s.size);
    }

pub name_there : (rdata : List ℕ) (place after : ℕ) (name : Labels) → SpellsPlainNameAt rdata place name after
    → SpellsName (take (after - place) (drop place rdata)) (labels_of (take (after - place) (drop place rdata))) × (labels_of (take (after - place) (drop place rdata)) ≡ name)
name_there rdata place after name s =
    let cut : after - place ≡ length (octets name) = omega (arith, s.ends) in
    let is : take (after - place) (drop place rdata) ≡ octets name = ap (λ (k : ℕ). take k (drop place rdata)) cut ∙ ap (take (length (octets name))) s.spelled.1 ∙ take_at (octets name) s.spelled.0 (length (octets name)) refl in
    (spells (take (after - place) (drop place rdata)) name s.is_name is, view_of (take (after - place) (drop place rdata)) name s.is_name.labels is)

and_same : (b : Bool) → (b && true) ≡ b
and_same true = refl
and_same false = refl

abbrev named_read : Read → Result (Field × ℕ) ℕ
named_read (Ok found) = Ok (named found.0, found.1)
named_read (Err fault) = Err (place_of fault)

name_field : (rdata : List ℕ) (place : ℕ) → field_at plain_name_at code.Name rdata place ≡ named_read (plain_name_at rdata place)
name_field rdata place = by (plain_name_at rdata place)
  where
    by : (r : Read) → elim r [ Err fault ↦ Err (place_of fault) | Ok found ↦ Ok (named found.0, found.1) ] ≡ named_read r
    by (Ok found) = refl
    by (Err fault) = refl

pub name_tested : (p : Labels → Bool) (rdata : List ℕ) (place after : ℕ) (name : Labels) (passes : Bool) → SpellsPlainNameAt rdata place name after → passes ≡ p (labels_of (take (after - place) (drop place rdata)))
    → Some (after, passes) ≡ tested_at p code.Name rdata place
name_tested p rdata place after name passes s is =
    let read : named_read (plain_name_at rdata place) ≡ Ok (named name, after) = ap named_read (plain_name_at-name rdata place after name s) in
    let same : passes ≡ (p name && true) = is ∙ ap p (name_there rdata place after name s).1 ∙ sym (and_same (p name)) in
    (λ i. Some (after, same i)) ∙ sym (ap (tested_of p) (name_field rdata place ∙ read))

-- ---- parts, one after the other

abbrev pub fields_at : List ShapePart → List ℕ → ℕ → Result (List Field) ℕ
fields_at parts rdata place = fields_from plain_name_at (map part_of parts) rdata place

pub record Turn (p : Labels → Bool) (parts : List ShapePart) (rdata : List ℕ) (after : ℕ) (passes whole : Bool) : Type 0 where
  pub read : is_ok (fields_at parts rdata after) ≡ true
  pub rest : (passes && all_pass p (fields_at parts rdata after)) ≡ whole

all-append : (p : Labels → Bool) (xs ys : List Labels) → list_all p (xs ++ ys) ≡ (list_all p xs && list_all p ys)
all-append p [] ys = refl
all-append p (x ∷ xs) ys = by (p x) (all-append p xs ys)
  where
    by : (b : Bool) → list_all p (xs ++ ys) ≡ (list_all p xs && list_all p ys) → (b && list_all p (xs ++ ys)) ≡ ((b && list_all p xs) && list_all p ys)
    by true rest = rest
    by false rest = refl

step : (p : Labels → Bool) (part : ShapePart) (parts : List ShapePart) (rdata : List ℕ) (place after : ℕ) (passes : Bool) → tested_at p part rdata place ≡ Some (after, passes) → is_ok (fields_at (part ∷ parts) rdata place) ≡ true
    → Turn p parts rdata after passes (all_pass p (fields_at (part ∷ parts) rdata place))
step p part parts rdata place after passes tested ok = by_field (field_at plain_name_at part rdata place) refl tested
  where
    first : fields_at (part ∷ parts) rdata place ≡ onto_field plain_name_at (map part_of parts) rdata (field_at plain_name_at part rdata place)
    first = fields-first plain_name_at part (map part_of parts) rdata place

    by_rest : (field : Field) (next : ℕ) (r : Result (List Field) ℕ) → fields_at parts rdata next ≡ r → is_ok (with_field field r) ≡ true → list_all p (field_names field) ≡ passes
        → (is_ok r ≡ true) × ((passes && all_pass p r) ≡ all_pass p (with_field field r))
    by_rest field next (Err q) is read same = absurd cc
    by_rest field next (Ok fields) is read same = (refl, ap (λ (b : Bool). b && list_all p (flat_map field_names fields)) (sym same) ∙ sym (all-append p (field_names field) (flat_map field_names fields)))

    by_field : (f : Result (Field × ℕ) ℕ) → field_at plain_name_at part rdata place ≡ f → tested_of p f ≡ Some (after, passes) → Turn p parts rdata after passes (all_pass p (fields_at (part ∷ parts) rdata place))
    by_field (Err q) is e = absurd cc
    by_field (Ok (field, next)) is e =
        let both : (next, list_all p (field_names field)) ≡ (after, passes) = cc in
        let onto : fields_at (part ∷ parts) rdata place ≡ with_field field (fields_at parts rdata next) = first ∙ ap (onto_field plain_name_at (map part_of parts) rdata) is in
        let rest = by_rest field next (fields_at parts rdata next) refl (ap (λ (r : Result (List Field) ℕ). is_ok r) (sym onto) ∙ ok) (ap (λ (x : ℕ × Bool). x.1) both) in
        let here : next ≡ after = ap (λ (x : ℕ × Bool). x.0) both in
        subst (λ (k : ℕ). Turn p parts rdata k passes (all_pass p (fields_at (part ∷ parts) rdata place))) here
        (record { read = rest.0; rest = rest.1 ∙ ap (all_pass p) (sym onto) })

unfit : (p : Labels → Bool) (part : ShapePart) (parts : List ShapePart) (rdata : List ℕ) (place : ℕ) → tested_at p part rdata place ≡ None → is_ok (fields_at (part ∷ parts) rdata place) ≡ true → ⊥
unfit p part parts rdata place none ok = by (field_at plain_name_at part rdata place) refl none
  where
    by : (f : Result (Field × ℕ) ℕ) → field_at plain_name_at part rdata place ≡ f → tested_of p f ≡ None → ⊥
    by (Ok field) is e = absurd cc
    by (Err q) is e =
        let wrong : false ≡ true = ap (λ (r : Result (List Field) ℕ). is_ok r) (sym (fields-first plain_name_at part (map part_of parts) rdata place ∙ ap (onto_field plain_name_at (map part_of parts) rdata) is)) ∙ ok in
        absurd cc

-- a list of parts that is gone through
pub turn : (p : Labels → Bool) (parts : List ShapePart) (d : ShapePart) (rdata : List ℕ) (i place after : ℕ) (passes whole : Bool) (o : Option (ℕ × Bool)) → i < length parts → o ≡ tested_at p (get_or parts i d) rdata place → o ≡ Some (after, passes)
    → is_ok (fields_at (drop i parts) rdata place) ≡ true → all_pass p (fields_at (drop i parts) rdata place) ≡ whole → Turn p (drop (i + 1) parts) rdata after passes whole
turn p parts d rdata i place after passes whole o within tested is ok so_far =
    let first = at_drop_more (λ ps. fields_at ps rdata place) parts i d within in
    let t = step p (get_or parts i d) (drop (i + 1) parts) rdata place after passes (sym tested ∙ is) (ap (λ (r : Result (List Field) ℕ). is_ok r) (sym first) ∙ ok) in
    record { read = t.read; rest = t.rest ∙ ap (all_pass p) (sym first) ∙ so_far }

pub no_turn : (p : Labels → Bool) (parts : List ShapePart) (d : ShapePart) (rdata : List ℕ) (i place : ℕ) (o : Option (ℕ × Bool)) → i < length parts → o ≡ tested_at p (get_or parts i d) rdata place → o ≡ None
    → is_ok (fields_at (drop i parts) rdata place) ≡ true → ⊥
no_turn p parts d rdata i place o within tested is ok =
    let first = at_drop_more (λ ps. fields_at ps rdata place) parts i d within in
    unfit p (get_or parts i d) (drop (i + 1) parts) rdata place (sym tested ∙ is) (ap (λ (r : Result (List Field) ℕ). is_ok r) (sym first) ∙ ok)

-- ---- all names inside

pub all_names : (p : Labels → Bool) (kind : ℕ) (rdata : List ℕ) → list_all p (rdata_names kind rdata) ≡ all_pass p (rdata_fields kind rdata)
all_names p kind rdata = by (rdata_fields kind rdata)
  where
    by : (r : Result (List Field) ℕ) → list_all p (elim r [ Err q ↦ [] | Ok fields ↦ flat_map field_names fields ]) ≡ all_pass p r
    by (Ok fields) = refl
    by (Err q) = refl

pub unread_names : (p : Labels → Bool) (kind : ℕ) (rdata : List ℕ) → is_ok (rdata_fields kind rdata) ≡ false → true ≡ list_all p (rdata_names kind rdata)
unread_names p kind rdata unread = sym (all_names p kind rdata ∙ by (rdata_fields kind rdata) unread)
  where
    by : (r : Result (List Field) ℕ) → is_ok r ≡ false → all_pass p r ≡ true
    by (Ok fields) e = absurd cc
    by (Err q) e = refl

-- no name inside ends in the new labels and all fit, as one test and as two
pub renamable_all : (old new : Labels) (names : List Labels) → list_all (is_renamable old new) names ≡ (not (list_any (λ name. ends_in name new) names) && list_all (λ name. fits_a_name (renamed old new name)) names)
renamable_all old new [] = refl
renamable_all old new (name ∷ names) = by (ends_in name new) (fits_a_name (renamed old new name)) (list_any (λ name. ends_in name new) names) (list_all (λ name. fits_a_name (renamed old new name)) names) (renamable_all old new names)
  where
    by : (a b c d : Bool) → list_all (is_renamable old new) names ≡ (not c && d) → ((not a && b) && list_all (is_renamable old new) names) ≡ (not (a || c) && (b && d))
    by true b c d rest = refl
    by false true c d rest = rest
    by false false true d rest = refl
    by false false false d rest = refl

pub translatable : (old new : Labels) (rr : Rr) (owner inside : Bool) → owner ≡ fits_a_name (renamed old new rr.owner) → inside ≡ list_all (is_renamable old new) (rdata_names rr.kind rr.rdata) → (owner && inside) ≡ is_translatable old new rr
translatable old new rr owner inside owner-is inside-is =
    (λ i. owner-is i && (inside-is ∙ renamable_all old new (rdata_names rr.kind rr.rdata)) i)
    ∙ by (fits_a_name (renamed old new rr.owner)) (not (list_any (λ name. ends_in name new) (rdata_names rr.kind rr.rdata))) (list_all (λ name. fits_a_name (renamed old new name)) (rdata_names rr.kind rr.rdata))
  where
    by : (a b c : Bool) → (a && (b && c)) ≡ (b && (a && c))
    by true true c = refl
    by true false c = refl
    by false true c = refl
    by false false c = refl

-- ---- records whose names fit

pub translatable-fit : (old new : Labels) (rr : Rr) → is_translatable old new rr ≡ true → names_fit old new rr ≡ true
translatable-fit old new rr e = (and_true (not (list_any (λ name. ends_in name new) (rdata_names rr.kind rr.rdata))) (names_fit old new rr) e).1

pub usable-fit : (domain : Labels) (rr : Rr) → is_usable domain rr ≡ true → names_fit local domain rr ≡ true
usable-fit domain rr e = translatable-fit local domain rr (and_true (is_of_link rr) (is_translatable local domain rr) e).1

suffix_agrees : (old new name : Labels) → fits_a_name (renamed old new name) ≡ true → with_suffix old new name ≡ renamed old new name
suffix_agrees old new name fits = by (ends_in name old) refl
  where
    by : (b : Bool) → ends_in name old ≡ b
        → cond (b && nat_le (length (octets (swapped_suffix name old new))) max_name) (swapped_suffix name old new) name ≡ cond b (swapped_suffix name old new) name
    by false is = refl
    by true is =
        let short : nat_le (length (octets (swapped_suffix name old new))) max_name ≡ true = ap (λ (b : Bool). nat_le (length (octets (cond b (swapped_suffix name old new) name))) max_name) (sym is) ∙ fits in
        ap (λ (b : Bool). cond b (swapped_suffix name old new) name) short

pub rdata_agrees : (old new : Labels) (rr : Rr) → names_fit old new rr ≡ true → with_names (with_suffix old new) rr.kind rr.rdata ≡ with_names (renamed old new) rr.kind rr.rdata
rdata_agrees old new rr fit =
    let inside = (and_true (fits_a_name (renamed old new rr.owner)) (list_all (λ name. fits_a_name (renamed old new name)) (rdata_names rr.kind rr.rdata)) fit).1 in
    with_names-agree (with_suffix old new) (renamed old new) rr.kind rr.rdata
    (λ fields e. names_map (λ name. fits_a_name (renamed old new name) ≡ true) (λ name. with_suffix old new name ≡ renamed old new name) (λ name f. suffix_agrees old new name f) fields
    (inside_all (λ name. fits_a_name (renamed old new name)) rr.kind rr.rdata inside fields e))

pub turn_fails : (p : Labels → Bool) (parts : List ShapePart) (rdata : List ℕ) (after : ℕ) (passes whole : Bool) → Turn p parts rdata after passes whole → passes ≡ false → false ≡ whole
turn_fails p parts rdata after passes whole t is = ap (λ (b : Bool). b && all_pass p (fields_at parts rdata after)) (sym is) ∙ t.rest

pub turn_passes : (p : Labels → Bool) (parts : List ShapePart) (rdata : List ℕ) (after : ℕ) (passes whole : Bool) → Turn p parts rdata after passes whole → passes ≡ true → all_pass p (fields_at parts rdata after) ≡ whole
turn_passes p parts rdata after passes whole t is = ap (λ (b : Bool). b && all_pass p (fields_at parts rdata after)) (sym is) ∙ t.rest
