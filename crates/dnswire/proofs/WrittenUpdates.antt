-- What is written of an update is read as that update.
--     question-there, record-there      entries that stand at a place are spelled there
--     written-read      the whole message
use Rattle.std.proofs.Common.{◌≡◌, ℕ, zero, suc, ◌+◌, ◌-◌, ◌*◌, ◌^◌, ◌<◌, ◌≤◌, Bool, true, false, cond, eqb, ltb, List, [], ◌∷◌, ◌++◌, length, take, drop, Option, Some, None, Result, Ok, Err, refl, sym, ap, subst, ◌∙◌, append_assoc, arith}
use Rattle.std.specs.Prelude.{slice_range, flat_map, is_ok, MatchBool}
use Rattle.std.specs.Int.{w16, w32, to_be_bytes, from_be_bytes}
use Rattle.std.specs.List.{AllByRecursion}
use Rattle.std.proofs.lemmas.Bool.{eqb-true, ltb-false}
use Rattle.std.proofs.lemmas.List.{length-append, length-drop, take_at, drop_at, drop-drop, append-nil}
use Rattle.std.proofs.lemmas.List.Concat.{flat_map-append}
use Rattle.std.proofs.lemmas.List.Folds.{drop_split}
use Rattle.std.proofs.lemmas.Nat.{from_be_bytes-to_be_bytes_2, from_be_bytes-to_be_bytes_4}
use Rattle.dnsname.specs.Names.{Labels, IsName, IsLabel, octets, label_octets, labels_octets}
use Rattle.dnsname.specs.Reading.{Read, plain_name_at}
use Rattle.dnsname.specs.Spelling.{StandsAt, NameFrom, root, label, SpellsNameAt, SpellsPlainNameAt}
use Rattle.dnsname.proofs.Standing.{StandsAt-length}
use Rattle.dnsname.proofs.PlainReading.{StandsAt-front, StandsAt-back}
use Rattle.dnsname.proofs.FoundNames.{below_at, plain_name_at-found}
use Rattle.dnsname.proofs.Standing.{AreOctets-drop}
use Rattle.rrset.specs.Rdata.{Part, some_octets, one_name, strings, Field, raw, named, are_strings, with_field, fields_from, field_octets, shape, shape_fits}
use Rattle.rrset.specs.Spelling.{SpellsFields, SpellsShape}
use Rattle.rrset.proofs.ReadBack.{fields_done, not_done, same_done, named_then, name_first}
use Rattle.rrset.specs.declared.record.Rr.{Rr}
use Rattle.rrset.specs.declared.record.Question.{Question}
use Rattle.rrset.specs.Header.{two_octets, flags_of, is_response, opcode_of, update_opcode}
use Rattle.dnswire.specs.declared.message.Update.{Update}
use Rattle.dnswire.specs.Reading.{update_shape, update_of}
use Rattle.dnswire.specs.Spelling.{SpellsNumber, SpellsQuestion, SpellsRecord, SpellsSeveral}
use Rattle.dnswire.proofs.Messages.{update-spelled}
use Rattle.dnswire.proofs.Strings.{strings_found}
use Rattle.dnswire.specs.Writing.{IsWritableQuestion, IsWritableRecord, CanBeWritten, question_octets, record_octets, update_octets}

-- ---- what stands at a place

range : (message : List ℕ) (at end : ℕ) (a : List ℕ) → StandsAt message at a → end ≡ at + length a → slice_range message at end ≡ a
range message at end a h e =
    let size : end - at ≡ length a = omega (arith, e) in
    ap (λ (n : ℕ). take n (drop at message)) size ∙ ap (take (length a)) h.1 ∙ take_at a h.0 (length a) refl

-- what stands in something that stands
within : (message whole part : List ℕ) (at p : ℕ) → StandsAt message at whole → StandsAt whole p part → p ≤ length whole → StandsAt message (at + p) part
within message whole part at p h g le = (
  g.0 ++ h.0,
  sym (drop-drop p at message) ∙ ap (drop p) h.1 ∙ drop-front whole h.0 p le ∙ ap (λ (l : List ℕ). l ++ h.0) g.1 ∙ append_assoc part g.0 h.0,
)
  where
    drop-front : (a b : List ℕ) (n : ℕ) → n ≤ length a → drop n (a ++ b) ≡ drop n a ++ b
    drop-front a b zero le = refl
    drop-front [] b (suc n) le = absurd (omega (arith, le))
    drop-front (x ∷ a) b (suc n) le = drop-front a b n (omega (arith, le))

-- ---- names and numbers

name-from : (message : List ℕ) (begin at : ℕ) (name : Labels) → AllByRecursion IsLabel name → StandsAt message at (octets name) → NameFrom message message begin at name (at + length (octets name))
name-from message begin at [] all h = root h
name-from message begin at (l ∷ ls) all h =
    let stands : StandsAt message at (label_octets l ++ octets ls) = subst (StandsAt message at) (append_assoc (label_octets l) (labels_octets ls) (0 ∷ [])) h in
    let back = StandsAt-back message at (at + 1 + length l) (label_octets l) (octets ls) stands (omega arith) in
    let rest = name-from message begin (at + 1 + length l) ls all.1 back in
    let long : length (octets (l ∷ ls)) ≡ length (label_octets l) + length (octets ls) = ap length (append_assoc (label_octets l) (labels_octets ls) (0 ∷ [])) ∙ length-append (label_octets l) (octets ls) in
    let ends : at + 1 + length l + length (octets ls) ≡ at + length (octets (l ∷ ls)) = omega (arith, long) in
    subst (NameFrom message message begin at (l ∷ ls)) ends (label all.0 (StandsAt-front message at (label_octets l) (octets ls) stands) rest)

name-there : (message : List ℕ) (at : ℕ) (name : Labels) → IsName name → StandsAt message at (octets name) → SpellsNameAt message at name (at + length (octets name))
name-there message at name is h = record { is_name = is; stands = name-from message at at name is.labels h }

-- something that stands ends within the message
ends_in : (message : List ℕ) (at : ℕ) (a : List ℕ) → StandsAt message at a → 1 ≤ length a → at + length a ≤ length message
ends_in message at a h some = omega (arith, StandsAt-length message at a h, some)

two-there : (message : List ℕ) (at after n : ℕ) → n < 2 ^ 16 → StandsAt message at (to_be_bytes w16 n) → after ≡ at + 2 → SpellsNumber w16 message at n after
two-there message at after n small h e = (e, subst (λ k. k ≤ length message) (sym e) (ends_in message at (to_be_bytes w16 n) h (omega arith)), sym (ap (from_be_bytes w16) (range message at after (to_be_bytes w16 n) h e) ∙ from_be_bytes-to_be_bytes_2 n small))

four-there : (message : List ℕ) (at after n : ℕ) → n < 2 ^ 32 → StandsAt message at (to_be_bytes w32 n) → after ≡ at + 4 → SpellsNumber w32 message at n after
four-there message at after n small h e = (e, subst (λ k. k ≤ length message) (sym e) (ends_in message at (to_be_bytes w32 n) h (omega arith)), sym (ap (from_be_bytes w32) (range message at after (to_be_bytes w32 n) h e) ∙ from_be_bytes-to_be_bytes_4 n small))

-- ---- rdata

abbrev Octets : List ℕ → Type 0
Octets bytes = AllByRecursion (λ o. o < 256) bytes

-- rdata that stands in a message from at to end
record Standing (message : List ℕ) (at end : ℕ) (rdata : List ℕ) : Type 0 where
  pub stands : StandsAt message at rdata
  pub ends : end ≡ at + length rdata
  pub inside : end ≤ length message
  pub below : Octets rdata

-- the fields are spelled there, and are the octets behind a place of the rdata
abbrev Spelled : List ℕ → ℕ → ℕ → List ℕ → List Part → ℕ → List Field → Type 0
Spelled message at end rdata parts p fields = SpellsFields message end (at + p) parts fields × (drop p rdata ≡ flat_map field_octets fields)

pub field-done : (field : Field) (r : Result (List Field) ℕ) (fields : List Field) → with_field field r ≡ fields_done fields → (rest : List Field) × (r ≡ fields_done rest) × (field ∷ rest ≡ fields)
field-done field (Ok rest) fields e = (rest, refl, same_done (field ∷ rest) fields e)
field-done field (Err p) fields e = absurd (not_done p fields e)

drop-whole : (bytes : List ℕ) → drop (length bytes) bytes ≡ []
drop-whole [] = refl
drop-whole (b ∷ bytes) = drop-whole bytes

abbrev Reads : List ℕ → ℕ → ℕ → List ℕ → List Part → Type 0
Reads message at end rdata parts = (p : ℕ) (fields : List Field) → p ≤ length rdata → fields_from plain_name_at parts rdata p ≡ fields_done fields → Spelled message at end rdata parts p fields

no-parts : (message : List ℕ) (at end : ℕ) (rdata : List ℕ) → Standing message at end rdata → Reads message at end rdata []
no-parts message at end rdata st p fields le e = by (eqb p (length rdata)) refl e
  where
    by : (b : Bool) → eqb p (length rdata) ≡ b → cond {A = Result (List Field) ℕ} b (Ok []) (Err p) ≡ fields_done fields → Spelled message at end rdata [] p fields
    by false is e = absurd (not_done p fields e)
    by true is e =
        let place = eqb-true p (length rdata) is in
        subst (λ (fs : List Field). Spelled message at end rdata [] p fs) (same_done [] fields e) (omega (arith, place, st.ends), ap (λ n. drop n rdata) place ∙ drop-whole rdata)

some-octets : (message : List ℕ) (at end : ℕ) (rdata : List ℕ) (n : ℕ) (parts : List Part) → Standing message at end rdata → Reads message at end rdata parts → Reads message at end rdata (some_octets n ∷ parts)
some-octets message at end rdata n parts st more p fields le e = by (ltb (length rdata) (p + n)) refl e
  where
    by : (b : Bool) → ltb (length rdata) (p + n) ≡ b → cond b (Err (length rdata)) (with_field (raw (slice_range rdata p (p + n))) (fields_from plain_name_at parts rdata (p + n))) ≡ fields_done fields → Spelled message at end rdata (some_octets n ∷ parts) p fields
    by true is e = absurd (not_done _ fields e)
    by false is e =
        let fits : p + n ≤ length rdata = ltb-false (length rdata) (p + n) is in
        let bytes = slice_range rdata p (p + n) in
        let o = field-done (raw bytes) (fields_from plain_name_at parts rdata (p + n)) fields e in
        let rest = more (p + n) o.0 fits o.1 in
        let split : drop p rdata ≡ bytes ++ drop (p + n) rdata = drop_split rdata p (p + n) (omega arith) in
        let long : length bytes ≡ n = omega (arith, ap length split, length-append bytes (drop (p + n) rdata), length-drop p rdata, length-drop (p + n) rdata, fits) in
        let here : slice_range message (at + p) (at + p + n) ≡ bytes = range message (at + p) (at + p + n) bytes (within message rdata bytes at p st.stands (drop (p + n) rdata, split) le) (omega (arith, long)) in
        let place : at + (p + n) ≡ at + p + n = omega arith in
        subst (λ (fs : List Field). Spelled message at end rdata (some_octets n ∷ parts) p fs) o.2
        ((omega (arith, fits, st.ends), sym here, subst (λ q. SpellsFields message end q parts o.0) place rest.0), split ∙ ap (λ (l : List ℕ). bytes ++ l) rest.1)

one-name : (message : List ℕ) (at end : ℕ) (rdata : List ℕ) (parts : List Part) → Standing message at end rdata → Reads message at end rdata parts → Reads message at end rdata (one_name ∷ parts)
one-name message at end rdata parts st more p fields le e = by (plain_name_at rdata p) refl (sym (name_first parts rdata p) ∙ e)
  where
    by : (r : Read) → plain_name_at rdata p ≡ r → named_then parts rdata r ≡ fields_done fields → Spelled message at end rdata (one_name ∷ parts) p fields
    by (Err fault) is e = absurd (not_done _ fields e)
    by (Ok found) is e =
        let o = field-done (named found.0) (fields_from plain_name_at parts rdata found.1) fields e in
        let spelled : SpellsPlainNameAt rdata p found.0 found.1 = plain_name_at-found rdata p found.1 found.0 (below_at rdata st.below) is in
        let fits : p + length (octets found.0) ≤ length rdata = ends_in rdata p (octets found.0) spelled.spelled (omega (arith, length-append (labels_octets found.0) (0 ∷ []))) in
        let rest = more found.1 o.0 (omega (arith, fits, spelled.ends)) o.1 in
        let here = name-there message (at + p) found.0 spelled.is_name (within message rdata (octets found.0) at p st.stands spelled.spelled le) in
        let place : at + found.1 ≡ at + p + length (octets found.0) = omega (arith, spelled.ends) in
        let behind : drop found.1 rdata ≡ spelled.spelled.0 = ap (λ n. drop n rdata) spelled.ends ∙ sym (drop-drop (length (octets found.0)) p rdata) ∙ ap (drop (length (octets found.0))) spelled.spelled.1 ∙ drop_at (octets found.0) spelled.spelled.0 (length (octets found.0)) refl in
        subst (λ (fs : List Field). Spelled message at end rdata (one_name ∷ parts) p fs) o.2
        ((at + p + length (octets found.0), here, omega (arith, fits, st.ends), subst (λ q. SpellsFields message end q parts o.0) place rest.0), spelled.spelled.1 ∙ ap (λ (l : List ℕ). octets found.0 ++ l) (sym behind ∙ rest.1))

some-strings : (message : List ℕ) (at end : ℕ) (rdata : List ℕ) (parts : List Part) → Standing message at end rdata → Reads message at end rdata parts → Reads message at end rdata (strings ∷ parts)
some-strings message at end rdata parts st more p fields le e = by (are_strings 0 (drop p rdata)) refl e
  where
    by : (b : Bool) → are_strings 0 (drop p rdata) ≡ b → cond b (with_field (raw (drop p rdata)) (fields_from plain_name_at parts rdata (length rdata))) (Err (length rdata)) ≡ fields_done fields → Spelled message at end rdata (strings ∷ parts) p fields
    by false is e = absurd (not_done _ fields e)
    by true is e =
        let bytes = drop p rdata in
        let o = field-done (raw bytes) (fields_from plain_name_at parts rdata (length rdata)) fields e in
        let rest = more (length rdata) o.0 (omega arith) o.1 in
        let whole : bytes ≡ bytes ++ [] = sym (append-nil bytes) in
        let here : slice_range message (at + p) end ≡ bytes = range message (at + p) end bytes (within message rdata bytes at p st.stands ([], whole) le) (omega (arith, st.ends, length-drop p rdata, le)) in
        subst (λ (fs : List Field). Spelled message at end rdata (strings ∷ parts) p fs) o.2
        ((omega (arith, st.ends, le), sym here, strings_found bytes (AreOctets-drop p rdata (below_at rdata st.below)) is, subst (λ q. SpellsFields message end q parts o.0) (sym st.ends) rest.0), whole ∙ ap (λ (l : List ℕ). bytes ++ l) (sym (drop-whole rdata) ∙ rest.1))

fields-there : (message : List ℕ) (at end : ℕ) (rdata : List ℕ) → Standing message at end rdata → (parts : List Part) → Reads message at end rdata parts
fields-there message at end rdata st [] = no-parts message at end rdata st
fields-there message at end rdata st (some_octets n ∷ parts) = some-octets message at end rdata n parts st (fields-there message at end rdata st parts)
fields-there message at end rdata st (one_name ∷ parts) = one-name message at end rdata parts st (fields-there message at end rdata st parts)
fields-there message at end rdata st (strings ∷ parts) = some-strings message at end rdata parts st (fields-there message at end rdata st parts)

rdata-there : (message : List ℕ) (at end kind : ℕ) (rdata : List ℕ) → Standing message at end rdata → shape_fits kind rdata ≡ true → SpellsShape (shape kind) message at end rdata
rdata-there message at end kind rdata st fits = by (shape kind) fits
  where
    by : (o : Option (List Part)) → is_ok (elim o [ None ↦ Ok (raw rdata ∷ []) | Some parts ↦ fields_from plain_name_at parts rdata 0 ]) ≡ true → SpellsShape o message at end rdata
    by None is = sym (range message at end rdata st.stands st.ends)
    by (Some parts) is = one (fields_from plain_name_at parts rdata 0) refl is
      where
        one : (r : Result (List Field) ℕ) → fields_from plain_name_at parts rdata 0 ≡ r → is_ok r ≡ true → SpellsShape (Some parts) message at end rdata
        one (Err q) read is = absurd cc
        one (Ok fields) read is =
            let there = fields-there message at end rdata st parts 0 fields (omega arith) read in
            let place : at + 0 ≡ at = omega arith in
            (fields, subst (λ q. SpellsFields message end q parts fields) place there.0, there.1)

-- ---- entries

pub question-split : (q : Question) → question_octets q ≡ octets q.name ++ (to_be_bytes w16 q.kind ++ to_be_bytes w16 q.class)
question-split q = append_assoc (octets q.name) (to_be_bytes w16 q.kind) (to_be_bytes w16 q.class)

pub record-split : (rr : Rr) → record_octets rr ≡ octets rr.owner ++ (to_be_bytes w16 rr.kind ++ (to_be_bytes w16 rr.class ++ (to_be_bytes w32 rr.ttl ++ (to_be_bytes w16 (length rr.rdata) ++ rr.rdata))))
record-split rr = by (octets rr.owner) (to_be_bytes w16 rr.kind) (to_be_bytes w16 rr.class) (to_be_bytes w32 rr.ttl) (to_be_bytes w16 (length rr.rdata)) rr.rdata
  where
    by : (o k c t z d : List ℕ) → o ++ k ++ c ++ t ++ z ++ d ≡ o ++ (k ++ (c ++ (t ++ (z ++ d))))
    by o k c t z d = append_assoc (o ++ k ++ c ++ t) z d ∙ append_assoc (o ++ k ++ c) t (z ++ d) ∙ append_assoc (o ++ k) c (t ++ (z ++ d)) ∙ append_assoc o k (c ++ (t ++ (z ++ d)))

question-there : (message : List ℕ) (at : ℕ) (q : Question) → IsWritableQuestion q → StandsAt message at (question_octets q) → SpellsQuestion message at q (at + length (question_octets q))
question-there message at q is stands =
    let h = subst (StandsAt message at) (question-split q) stands in
    let name = octets q.name in
    let k = to_be_bytes w16 q.kind in
    let c = to_be_bytes w16 q.class in
    let end = at + length name in
    let back = StandsAt-back message at end name (k ++ c) h refl in
    let last = StandsAt-back message end (end + 2) k c back refl in
    record {
      name_end = end;
      name = name-there message at q.name is.name (StandsAt-front message at name (k ++ c) h);
      kind = two-there message end (end + 2) q.kind is.kind (StandsAt-front message end k c back) refl;
      class = two-there message (end + 2) (at + length (question_octets q)) q.class is.class last (omega (arith, ap length (question-split q), length-append name (k ++ c)));
    }

record-there : (message : List ℕ) (at : ℕ) (rr : Rr) → IsWritableRecord rr → StandsAt message at (record_octets rr) → SpellsRecord update_shape message at rr (at + length (record_octets rr))
record-there message at rr is stands =
    record {
      owner_end = end;
      size = length rr.rdata;
      owner = name-there message at rr.owner is.owner (StandsAt-front message at owner behind_owner h);
      kind = two-there message end (end + 2) rr.kind is.kind (StandsAt-front message end k behind_kind one) refl;
      class = two-there message (end + 2) (end + 4) rr.class is.class (StandsAt-front message (end + 2) c behind_class two) (omega arith);
      ttl = four-there message (end + 4) (end + 8) rr.ttl is.ttl (StandsAt-front message (end + 4) t behind_ttl three) (omega arith);
      length_field = two-there message (end + 8) (end + 10) (length rr.rdata) is.few (StandsAt-front message (end + 8) z rr.rdata four) (omega arith);
      whole = (place, inside);
      rdata = shaped (update_shape rr.class (length rr.rdata)) is.fits;
    }
  where
    owner : List ℕ
    owner = octets rr.owner

    k : List ℕ
    k = to_be_bytes w16 rr.kind

    c : List ℕ
    c = to_be_bytes w16 rr.class

    t : List ℕ
    t = to_be_bytes w32 rr.ttl

    z : List ℕ
    z = to_be_bytes w16 (length rr.rdata)

    behind_ttl : List ℕ
    behind_ttl = z ++ rr.rdata

    behind_class : List ℕ
    behind_class = t ++ behind_ttl

    behind_kind : List ℕ
    behind_kind = c ++ behind_class

    behind_owner : List ℕ
    behind_owner = k ++ behind_kind

    end : ℕ
    end = at + length owner

    h : StandsAt message at (owner ++ behind_owner)
    h = subst (StandsAt message at) (record-split rr) stands

    one : StandsAt message end behind_owner
    one = StandsAt-back message at end owner behind_owner h refl

    two : StandsAt message (end + 2) behind_kind
    two = StandsAt-back message end (end + 2) k behind_kind one refl

    three : StandsAt message (end + 4) behind_class
    three = StandsAt-back message (end + 2) (end + 4) c behind_class two (omega arith)

    four : StandsAt message (end + 8) behind_ttl
    four = StandsAt-back message (end + 4) (end + 8) t behind_ttl three (omega arith)

    five : StandsAt message (end + 10) rr.rdata
    five = StandsAt-back message (end + 8) (end + 10) z rr.rdata four (omega arith)

    place : at + length (record_octets rr) ≡ end + 10 + length rr.rdata
    place = omega (arith, ap length (record-split rr), length-append owner behind_owner)

    inside : at + length (record_octets rr) ≤ length message
    inside = ends_in message at (record_octets rr) stands (omega (arith, ap length (record-split rr), length-append owner behind_owner))

    shaped : (b : Bool) → MatchBool b (shape_fits rr.kind rr.rdata ≡ true) (rr.rdata ≡ [])
        → MatchBool b (SpellsShape (shape rr.kind) message (end + 10) (at + length (record_octets rr)) rr.rdata) (rr.rdata ≡ slice_range message (end + 10) (at + length (record_octets rr)))
    shaped true fits = rdata-there message (end + 10) (at + length (record_octets rr)) rr.kind rr.rdata (record { stands = five; ends = place; inside = inside; below = is.octets }) fits
    shaped false none = sym (range message (end + 10) (at + length (record_octets rr)) rr.rdata five place)

several-there : {X : Type 0} (octets_of : X → List ℕ) (Ok_to_write : X → Type 0) (spells : List ℕ → ℕ → X → ℕ → Type 0) (message : List ℕ)
    → ((at : ℕ) (x : X) → Ok_to_write x → StandsAt message at (octets_of x) → spells message at x (at + length (octets_of x)))
    → (xs : List X) (at : ℕ) → AllByRecursion Ok_to_write xs → StandsAt message at (flat_map octets_of xs) → SpellsSeveral spells message at xs (at + length (flat_map octets_of xs))
several-there octets_of Ok_to_write spells message each [] at all h = omega arith
several-there octets_of Ok_to_write spells message each (x ∷ xs) at all h =
    let here = octets_of x in
    let behind = flat_map octets_of xs in
    let next = at + length here in
    let rest = several-there octets_of Ok_to_write spells message each xs next all.1 (StandsAt-back message at next here behind h refl) in
    let place : next + length behind ≡ at + length (here ++ behind) = omega (arith, length-append here behind) in
    (next, each at x all.0 (StandsAt-front message at here behind h), subst (SpellsSeveral spells message next xs) place rest)

-- ---- messages

two-is : (message : List ℕ) (at n : ℕ) → n < 2 ^ 16 → StandsAt message at (to_be_bytes w16 n) → two_octets message at ≡ n
two-is message at n small h = ap (from_be_bytes w16) (range message at (at + 2) (to_be_bytes w16 n) h refl) ∙ from_be_bytes-to_be_bytes_2 n small

pub written-read : (update : Update) → CanBeWritten update → update_of (update_octets update) ≡ Ok update
written-read update is = update-spelled message update (record {
  header = omega (arith, size);
  request = (ap is_response flags, ap opcode_of flags);
  id = sym (two-is message 0 update.id is.id (StandsAt-front message 0 (w update.id) after_id start));
  others = [];
  sections = record {
    questions_end = zones_end;
    answers_end = prereqs_end;
    authority_end = changes_end;
    questions = (
      sym (two-is message 4 (length update.zones) is.few_zones (StandsAt-front message 4 (w (length update.zones)) after_zones four)),
      several-there question_octets IsWritableQuestion SpellsQuestion message (λ at q ok h. question-there message at q ok h) update.zones 12 is.zones (StandsAt-front message 12 zones records twelve),
    );
    answers = (
      sym (two-is message 6 (length update.prereqs) is.few_prereqs (StandsAt-front message 6 (w (length update.prereqs)) after_prereqs six)),
      several-there record_octets IsWritableRecord (SpellsRecord update_shape) message (λ at rr ok h. record-there message at rr ok h) update.prereqs zones_end is.prereqs (StandsAt-front message zones_end prereqs changes entries),
    );
    authority = (
      sym (two-is message 8 (length update.changes) is.few_changes (StandsAt-front message 8 (w (length update.changes)) after_changes eight)),
      several-there record_octets IsWritableRecord (SpellsRecord update_shape) message (λ at rr ok h. record-there message at rr ok h) update.changes prereqs_end is.changes (StandsAt-back message zones_end prereqs_end prereqs changes entries refl),
    );
    additional = (sym (two-is message 10 0 (omega arith) (StandsAt-front message 10 (w 0) body ten)), ends);
  };
})
  where
    w : ℕ → List ℕ
    w n = to_be_bytes w16 n

    message : List ℕ
    message = update_octets update

    zones : List ℕ
    zones = flat_map question_octets update.zones

    prereqs : List ℕ
    prereqs = flat_map record_octets update.prereqs

    changes : List ℕ
    changes = flat_map record_octets update.changes

    records : List ℕ
    records = flat_map record_octets (update.prereqs ++ update.changes)

    body : List ℕ
    body = zones ++ records

    after_changes : List ℕ
    after_changes = w 0 ++ body

    after_prereqs : List ℕ
    after_prereqs = w (length update.changes) ++ after_changes

    after_zones : List ℕ
    after_zones = w (length update.prereqs) ++ after_prereqs

    after_flags : List ℕ
    after_flags = w (length update.zones) ++ after_zones

    after_id : List ℕ
    after_id = w (update_opcode * 2 ^ 11) ++ after_flags

    zones_end : ℕ
    zones_end = 12 + length zones

    prereqs_end : ℕ
    prereqs_end = zones_end + length prereqs

    changes_end : ℕ
    changes_end = prereqs_end + length changes

    start : StandsAt message 0 (w update.id ++ after_id)
    start = ([], sym (append-nil message))

    two : StandsAt message 2 after_id
    two = StandsAt-back message 0 2 (w update.id) after_id start refl

    four : StandsAt message 4 after_flags
    four = StandsAt-back message 2 4 (w (update_opcode * 2 ^ 11)) after_flags two refl

    six : StandsAt message 6 after_zones
    six = StandsAt-back message 4 6 (w (length update.zones)) after_zones four refl

    eight : StandsAt message 8 after_prereqs
    eight = StandsAt-back message 6 8 (w (length update.prereqs)) after_prereqs six refl

    ten : StandsAt message 10 after_changes
    ten = StandsAt-back message 8 10 (w (length update.changes)) after_changes eight refl

    twelve : StandsAt message 12 body
    twelve = StandsAt-back message 10 12 (w 0) body ten refl

    flags : flags_of message ≡ update_opcode * 2 ^ 11
    flags = two-is message 2 (update_opcode * 2 ^ 11) (omega arith) (StandsAt-front message 2 (w (update_opcode * 2 ^ 11)) after_flags two)

    size : length message ≡ 12 + length body
    size = omega arith

    split : records ≡ prereqs ++ changes
    split = flat_map-append record_octets update.prereqs update.changes

    entries : StandsAt message zones_end (prereqs ++ changes)
    entries = subst (StandsAt message zones_end) split (StandsAt-back message 12 zones_end zones records twelve refl)

    ends : length message ≡ changes_end
    ends = omega (arith, size, length-append zones records, ap length split, length-append prereqs changes)
