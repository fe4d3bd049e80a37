-- The fields of rdata that are read are those that are spelled.
use Rattle.std.proofs.Common.{◌≡◌, ℕ, ◌+◌, ◌-◌, ◌<◌, ◌≤◌, Bool, true, false, cond, eqb, ltb, List, [], ◌∷◌, length, take, drop, Result, Ok, Err, refl, sym, ap, subst, ◌∙◌, arith}
use Rattle.std.specs.Prelude.{slice_range}
use Rattle.std.specs.List.{AllByRecursion}
use Rattle.std.proofs.lemmas.Bool.{eqb-true, eq-eqb, ltb-false, le-ltb}
use Rattle.std.proofs.lemmas.List.{length-take, take-take, drop-take}
use Rattle.dnsname.specs.Names.{Labels}
use Rattle.dnsname.specs.Reading.{name_up_to, place_of}
use Rattle.dnsname.specs.Spelling.{SpellsNameAt}
use Rattle.dnsname.specs.declared.name.NameFault.{NameFault}
use Rattle.dnsname.proofs.Standing.{AreOctets-drop, below-take}
use Rattle.dnsname.proofs.PointerReading.{name_in-name}
use Rattle.dnsname.proofs.FoundNames.{below_at, name_in-found}
use Rattle.dnsname.proofs.UpTo.{in_front, in_whole}
use Rattle.rrset.specs.Rdata.{Part, some_octets, one_name, strings, Field, raw, named, are_strings, with_field, fields_from}
use Rattle.rrset.specs.Spelling.{SpellsFields}
use Rattle.dnswire.proofs.Strings.{are_strings-spelled, strings_found}

abbrev reader : ℕ → List ℕ → List ℕ → ℕ → Result (Labels × ℕ) NameFault
reader end message = λ _. name_up_to end message

abbrev pub fields_of : List Field → Result (List Field) ℕ
fields_of fields = Ok fields

abbrev pub name_read : Labels → ℕ → Result (Labels × ℕ) NameFault
name_read name after = Ok (name, after)

-- ---- octets of the front

front-drop : (message : List ℕ) (end p : ℕ) → p ≤ end → drop p (take end message) ≡ take (end - p) (drop p message)
front-drop message end p h =
    let whole : end ≡ p + (end - p) = omega arith in
    ap (λ (n : ℕ). drop p (take n message)) whole ∙ drop-take p (end - p) message

front-range : (message : List ℕ) (end p n : ℕ) → p + n ≤ end → slice_range (take end message) p (p + n) ≡ slice_range message p (p + n)
front-range message end p n h = ap (take (p + n - p)) (front-drop message end p (omega arith)) ∙ take-take (p + n - p) (end - p) (drop p message) (omega arith)

front-length : (message : List ℕ) (end : ℕ) → end ≤ length message → length (take end message) ≡ end
front-length message end h = omega (arith, length-take end message)

-- ---- what is spelled is read

read_octets : (message : List ℕ) (end p n : ℕ) (parts : List Part) (bytes : List ℕ) (fields : List Field) → end ≤ length message → p + n ≤ end → bytes ≡ slice_range message p (p + n)
    → fields_from (reader end message) parts (take end message) (p + n) ≡ fields_of fields
    → fields_from (reader end message) (some_octets n ∷ parts) (take end message) p ≡ fields_of (raw bytes ∷ fields)
read_octets message end p n parts bytes fields h within is rest =
    let whole : ltb (length (take end message)) (p + n) ≡ false = le-ltb _ _ (omega (arith, front-length message end h)) in
    let range : slice_range (take end message) p (p + n) ≡ bytes = front-range message end p n within ∙ sym is in
    ap (λ (b : Bool). cond {A = Result (List Field) ℕ} b (Err (length (take end message))) (with_field (raw (slice_range (take end message) p (p + n))) (fields_from (reader end message) parts (take end message) (p + n)))) whole
    ∙ ap (with_field (raw (slice_range (take end message) p (p + n)))) rest
    ∙ ap (λ (x : List ℕ). fields_of (raw x ∷ fields)) range

read_name : (message : List ℕ) (end p after : ℕ) (parts : List Part) (name : Labels) (fields : List Field) → SpellsNameAt message p name after → after ≤ end
    → fields_from (reader end message) parts (take end message) after ≡ fields_of fields
    → fields_from (reader end message) (one_name ∷ parts) (take end message) p ≡ fields_of (named name ∷ fields)
read_name message end p after parts name fields is within rest =
    let read : name_up_to end message p ≡ name_read name after = name_in-name _ _ _ _ _ (in_front message end p after name is within) in
    ap (λ (r : Result (Labels × ℕ) NameFault). elim r [ Err fault ↦ Err (place_of fault) | Ok found ↦ with_field (named found.0) (fields_from (reader end message) parts (take end message) found.1) ]) read
    ∙ ap (with_field (named name)) rest

read_strings : (message : List ℕ) (end p : ℕ) (parts : List Part) (bytes : List ℕ) (fields : List Field) → end ≤ length message → p ≤ end → bytes ≡ slice_range message p end → are_strings 0 bytes ≡ true
    → fields_from (reader end message) parts (take end message) end ≡ fields_of fields
    → fields_from (reader end message) (strings ∷ parts) (take end message) p ≡ fields_of (raw bytes ∷ fields)
read_strings message end p parts bytes fields h within is are rest =
    let range : drop p (take end message) ≡ bytes = front-drop message end p within ∙ sym is in
    let test : are_strings 0 (drop p (take end message)) ≡ true = ap (are_strings 0) range ∙ are in
    ap (λ (b : Bool). cond {A = Result (List Field) ℕ} b (with_field (raw (drop p (take end message))) (fields_from (reader end message) parts (take end message) (length (take end message)))) (Err (length (take end message)))) test
    ∙ ap (λ (e : ℕ). with_field (raw (drop p (take end message))) (fields_from (reader end message) parts (take end message) e)) (front-length message end h)
    ∙ ap (with_field (raw (drop p (take end message)))) rest
    ∙ ap (λ (x : List ℕ). fields_of (raw x ∷ fields)) range

read_end : (message : List ℕ) (end p : ℕ) → end ≤ length message → p ≡ end → fields_from (reader end message) [] (take end message) p ≡ fields_of []
read_end message end p h e =
    let same : eqb p (length (take end message)) ≡ true = eq-eqb p _ (e ∙ sym (front-length message end h)) in
    ap (λ (b : Bool). cond {A = Result (List Field) ℕ} b (Ok []) (Err p)) same

pub fields-spelled : (message : List ℕ) (end : ℕ) → end ≤ length message → (parts : List Part) (p : ℕ) (fields : List Field) → SpellsFields message end p parts fields
    → fields_from (reader end message) parts (take end message) p ≡ fields_of fields
fields-spelled message end h [] p [] s = read_end message end p h s
fields-spelled message end h [] p (f ∷ fields) s = absurd s
fields-spelled message end h (some_octets n ∷ parts) p [] s = absurd s
fields-spelled message end h (some_octets n ∷ parts) p (raw bytes ∷ fields) s = read_octets message end p n parts bytes fields h s.0 s.1 (fields-spelled message end h parts (p + n) fields s.2)
fields-spelled message end h (some_octets n ∷ parts) p (named name ∷ fields) s = absurd s
fields-spelled message end h (one_name ∷ parts) p [] s = absurd s
fields-spelled message end h (one_name ∷ parts) p (raw bytes ∷ fields) s = absurd s
fields-spelled message end h (one_name ∷ parts) p (named name ∷ fields) s = read_name message end p s.0 parts name fields s.1 s.2 (fields-spelled message end h parts s.0 fields s.3)
fields-spelled message end h (strings ∷ parts) p [] s = absurd s
fields-spelled message end h (strings ∷ parts) p (raw bytes ∷ fields) s = read_strings message end p parts bytes fields h s.0 s.1 (are_strings-spelled bytes s.2) (fields-spelled message end h parts end fields s.3)
fields-spelled message end h (strings ∷ parts) p (named name ∷ fields) s = absurd s

-- ---- what is read is spelled

onto_fields : (field : Field) (r : Result (List Field) ℕ) (fields : List Field) → with_field field r ≡ fields_of fields → (others : List Field) × (r ≡ fields_of others) × (fields ≡ field ∷ others)
onto_fields field (Ok others) fields e = (others, refl, let same : field ∷ others ≡ fields = cc in sym same)
onto_fields field (Err q) fields e = absurd cc

no_fields : (q : ℕ) (fields : List Field) → Err q ≡ fields_of fields → ⊥
no_fields q fields e = cc

-- what fields that are read from parts say
abbrev Finds : List ℕ → ℕ → List Part → Type 0
Finds message end parts = (p : ℕ) (fields : List Field) → p ≤ end → fields_from (reader end message) parts (take end message) p ≡ fields_of fields → SpellsFields message end p parts fields

found_end : (message : List ℕ) (end : ℕ) → end ≤ length message → Finds message end []
found_end message end h p fields within e = by_test (eqb p (length (take end message))) refl e
  where
    by_test : (b : Bool) → eqb p (length (take end message)) ≡ b → cond {A = Result (List Field) ℕ} b (Ok []) (Err p) ≡ fields_of fields → SpellsFields message end p [] fields
    by_test true t e =
        let none : fields_of [] ≡ fields_of fields = e in
        let same : [] ≡ fields = cc in
        subst (SpellsFields message end p []) same (eqb-true _ _ t ∙ front-length message end h)
    by_test false t e = absurd (no_fields p fields e)

found_octets : (message : List ℕ) (end n : ℕ) (parts : List Part) → end ≤ length message → Finds message end parts → Finds message end (some_octets n ∷ parts)
found_octets message end n parts h finds p fields within e = by_test (ltb (length (take end message)) (p + n)) refl e
  where
    by_test : (b : Bool) → ltb (length (take end message)) (p + n) ≡ b
        → cond {A = Result (List Field) ℕ} b (Err (length (take end message))) (with_field (raw (slice_range (take end message) p (p + n))) (fields_from (reader end message) parts (take end message) (p + n))) ≡ fields_of fields
        → SpellsFields message end p (some_octets n ∷ parts) fields
    by_test true t e = absurd (no_fields _ fields e)
    by_test false t e =
        let fits : p + n ≤ end = omega (arith, ltb-false _ _ t, front-length message end h) in
        let o = onto_fields _ _ fields e in
        subst (SpellsFields message end p (some_octets n ∷ parts)) (sym o.2) (fits, front-range message end p n fits, finds (p + n) o.0 fits o.1)

found_name : (message : List ℕ) (end : ℕ) (parts : List Part) → AllByRecursion (λ o. o < 256) message → Finds message end parts → Finds message end (one_name ∷ parts)
found_name message end parts below finds p fields within e = by_name (name_up_to end message p) refl e
  where
    by_name : (r : Result (Labels × ℕ) NameFault) → name_up_to end message p ≡ r
        → elim r [ Err fault ↦ Err (place_of fault) | Ok found ↦ with_field (named found.0) (fields_from (reader end message) parts (take end message) found.1) ] ≡ fields_of fields
        → SpellsFields message end p (one_name ∷ parts) fields
    by_name (Err fault) t e = absurd (no_fields _ fields e)
    by_name (Ok (name, after)) t e =
        let o = onto_fields (named name) _ fields e in
        let is = name_in-found (take end message) message p after name (below_at (take end message) (below-take end message below)) (below_at message below) t in
        let whole = in_whole message end p after name is in
        subst (SpellsFields message end p (one_name ∷ parts)) (sym o.2) (after, whole.0, whole.1, finds after o.0 whole.1 o.1)

found_strings : (message : List ℕ) (end : ℕ) (parts : List Part) → end ≤ length message → AllByRecursion (λ o. o < 256) message → Finds message end parts → Finds message end (strings ∷ parts)
found_strings message end parts h below finds p fields within e = by_test (are_strings 0 (drop p (take end message))) refl e
  where
    by_test : (b : Bool) → are_strings 0 (drop p (take end message)) ≡ b
        → cond {A = Result (List Field) ℕ} b (with_field (raw (drop p (take end message))) (fields_from (reader end message) parts (take end message) (length (take end message)))) (Err (length (take end message))) ≡ fields_of fields
        → SpellsFields message end p (strings ∷ parts) fields
    by_test false t e = absurd (no_fields _ fields e)
    by_test true t e =
        let o = onto_fields _ _ fields e in
        let octets_below = AreOctets-drop p (take end message) (below_at (take end message) (below-take end message below)) in
        let at_end : fields_from (reader end message) parts (take end message) end ≡ fields_of o.0 = ap (λ (n : ℕ). fields_from (reader end message) parts (take end message) n) (sym (front-length message end h)) ∙ o.1 in
        subst (SpellsFields message end p (strings ∷ parts)) (sym o.2) (within, front-drop message end p within, strings_found _ octets_below t, finds end o.0 (omega arith) at_end)

pub fields-found : (message : List ℕ) (end : ℕ) → end ≤ length message → AllByRecursion (λ o. o < 256) message → (parts : List Part) → Finds message end parts
fields-found message end h below [] = found_end message end h
fields-found message end h below (some_octets n ∷ parts) = found_octets message end n parts h (fields-found message end h below parts)
fields-found message end h below (one_name ∷ parts) = found_name message end parts below (fields-found message end h below parts)
fields-found message end h below (strings ∷ parts) = found_strings message end parts h below (fields-found message end h below parts)
