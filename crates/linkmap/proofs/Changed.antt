-- Rdata whose names are changed: it is read as the changed fields.
--     OnNames P fields      P holds of each name in the fields
--     Changes f kind rdata fields      rdata is read as fields; with its names changed by f it is read as these changed
use Rattle.std.proofs.Common.{◌≡◌, ℕ, Bool, true, false, ◌||◌, List, [], ◌∷◌, ◌++◌, map, Option, Some, None, Result, Ok, Err, refl, sym, ap, subst, ◌∙◌}
use Rattle.std.specs.Prelude.{flat_map}
use Rattle.std.specs.List.{AllByRecursion, list_any, list_all}
use Rattle.std.proofs.lemmas.List.{append-nil}
use Rattle.dnsname.specs.Names.{Labels, octets}
use Rattle.dnsname.specs.Reading.{plain_name_at}
use Rattle.dnsname.proofs.Decisions.{and_true}
use Rattle.dnsname.proofs.ReadAgain.{CanStand}
use Rattle.rrset.specs.Rdata.{Part, some_octets, one_name, strings, Field, raw, named, field_octets, field_names, field_with, fields_from, shape, rdata_fields, with_names}
use Rattle.rrset.proofs.ReadBack.{HasParts, AreLast, shape-last, fields_done, same_done, fields-have, fields-again}

-- ---- what holds of each name

abbrev pub OnName : (Labels → Type 0) → Field → Type 0
OnName P (raw bytes) = Unit {0}
OnName P (named name) = P name

abbrev pub OnNames : (Labels → Type 0) → List Field → Type 0
OnNames P fields = AllByRecursion (OnName P) fields

pub names_map : (P Q : Labels → Type 0) → ((name : Labels) → P name → Q name) → (fields : List Field) → OnNames P fields → OnNames Q fields
names_map P Q f [] h = tt
names_map P Q f (raw bytes ∷ fields) h = (tt, names_map P Q f fields h.1)
names_map P Q f (named name ∷ fields) h = (f name h.0, names_map P Q f fields h.1)

pub names_both : (P Q : Labels → Type 0) (fields : List Field) → OnNames P fields → OnNames Q fields → OnNames (λ name. P name × Q name) fields
names_both P Q [] h k = tt
names_both P Q (raw bytes ∷ fields) h k = (tt, names_both P Q fields h.1 k.1)
names_both P Q (named name ∷ fields) h k = ((h.0, k.0), names_both P Q fields h.1 k.1)

or_false : (a b : Bool) → (a || b) ≡ false → (a ≡ false) × (b ≡ false)
or_false true b h = absurd cc
or_false false b h = (refl, h)

pub names_none : (p : Labels → Bool) (fields : List Field) → list_any p (flat_map field_names fields) ≡ false → OnNames (λ name. p name ≡ false) fields
names_none p [] h = tt
names_none p (raw bytes ∷ fields) h = (tt, names_none p fields h)
names_none p (named name ∷ fields) h = let both = or_false (p name) (list_any p (flat_map field_names fields)) h in (both.0, names_none p fields both.1)

pub names_all : (p : Labels → Bool) (fields : List Field) → list_all p (flat_map field_names fields) ≡ true → OnNames (λ name. p name ≡ true) fields
names_all p [] h = tt
names_all p (raw bytes ∷ fields) h = (tt, names_all p fields h)
names_all p (named name ∷ fields) h = let both = and_true (p name) (list_all p (flat_map field_names fields)) h in (both.0, names_all p fields both.1)

pub names_can : (parts : List Part) (fields : List Field) → HasParts parts fields → OnNames (CanStand 0) fields
names_can [] [] h = tt
names_can [] (field ∷ fields) h = absurd h
names_can (part ∷ parts) [] h = absurd (by part h)
  where
    by : (part : Part) → HasParts (part ∷ parts) [] → ⊥
    by (some_octets n) h = h
    by one_name h = h
    by strings h = h
names_can (some_octets n ∷ parts) (raw bytes ∷ fields) h = (tt, names_can parts fields h.1)
names_can (some_octets n ∷ parts) (named name ∷ fields) h = absurd h
names_can (one_name ∷ parts) (raw bytes ∷ fields) h = absurd h
names_can (one_name ∷ parts) (named name ∷ fields) h = (h.0, names_can parts fields h.1)
names_can (strings ∷ parts) (raw bytes ∷ fields) h = (tt, names_can parts fields h.1)
names_can (strings ∷ parts) (named name ∷ fields) h = absurd h

parts_changed : (f : Labels → Labels) (parts : List Part) (fields : List Field) → HasParts parts fields → OnNames (λ name. CanStand 0 (f name)) fields → HasParts parts (map (field_with f) fields)
parts_changed f [] [] h can = tt
parts_changed f [] (field ∷ fields) h can = absurd h
parts_changed f (some_octets n ∷ parts) [] h can = absurd h
parts_changed f (one_name ∷ parts) [] h can = absurd h
parts_changed f (strings ∷ parts) [] h can = absurd h
parts_changed f (some_octets n ∷ parts) (raw bytes ∷ fields) h can = (h.0, parts_changed f parts fields h.1 can.1)
parts_changed f (some_octets n ∷ parts) (named name ∷ fields) h can = absurd h
parts_changed f (one_name ∷ parts) (raw bytes ∷ fields) h can = absurd h
parts_changed f (one_name ∷ parts) (named name ∷ fields) h can = (can.0, parts_changed f parts fields h.1 can.1)
parts_changed f (strings ∷ parts) (raw bytes ∷ fields) h can = (h.0, parts_changed f parts fields h.1 can.1)
parts_changed f (strings ∷ parts) (named name ∷ fields) h can = absurd h

-- ---- fields of a shape

abbrev pub fields_as : Option (List Part) → List ℕ → Result (List Field) ℕ
fields_as None rdata = Ok (raw rdata ∷ [])
fields_as (Some parts) rdata = fields_from plain_name_at parts rdata 0

pub fields_as-is : (kind : ℕ) (rdata : List ℕ) → rdata_fields kind rdata ≡ fields_as (shape kind) rdata
fields_as-is kind rdata = by (shape kind)
  where
    by : (o : Option (List Part)) → elim o [ None ↦ Ok (raw rdata ∷ []) | Some parts ↦ fields_from plain_name_at parts rdata 0 ] ≡ fields_as o rdata
    by None = refl
    by (Some parts) = refl

octets_map : (f : Labels → Labels) (fields : List Field) → flat_map field_octets (map (field_with f) fields) ≡ flat_map (λ field. field_octets (field_with f field)) fields
octets_map f [] = refl
octets_map f (field ∷ fields) = ap (λ (l : List ℕ). field_octets (field_with f field) ++ l) (octets_map f fields)

again : (o : Option (List Part)) → AreLast o → (f : Labels → Labels) (rdata : List ℕ) (fields : List Field) → fields_as o rdata ≡ fields_done fields → OnNames (λ name. CanStand 0 (f name)) fields
    → fields_as o (flat_map (λ field. field_octets (field_with f field)) fields) ≡ fields_done (map (field_with f) fields)
again None last f rdata fields e can =
    let one : raw rdata ∷ [] ≡ fields = same_done (raw rdata ∷ []) fields e in
    subst (λ (fs : List Field). fields_done (raw (flat_map (λ field. field_octets (field_with f field)) fs) ∷ []) ≡ fields_done (map (field_with f) fs)) one (ap (λ (l : List ℕ). fields_done (raw l ∷ [])) (append-nil rdata))
again (Some parts) last f rdata fields e can =
    ap (λ (l : List ℕ). fields_from plain_name_at parts l 0) (sym (octets_map f fields))
    ∙ fields-again parts last (map (field_with f) fields) (parts_changed f parts fields (fields-have parts rdata 0 fields e) can)

can_stand : (o : Option (List Part)) (rdata : List ℕ) (fields : List Field) → fields_as o rdata ≡ fields_done fields → OnNames (CanStand 0) fields
can_stand None rdata fields e = subst (OnNames (CanStand 0)) (same_done (raw rdata ∷ []) fields e) (tt, tt)
can_stand (Some parts) rdata fields e = names_can parts fields (fields-have parts rdata 0 fields e)

pub can-names : (kind : ℕ) (rdata : List ℕ) (fields : List Field) → rdata_fields kind rdata ≡ fields_done fields → OnNames (CanStand 0) fields
can-names kind rdata fields e = can_stand (shape kind) rdata fields (sym (fields_as-is kind rdata) ∙ e)

-- ---- rdata with changed names

abbrev pub changed_octets : (Labels → Labels) → List ℕ → Result (List Field) ℕ → List ℕ
changed_octets f rdata (Ok fields) = flat_map (λ field. field_octets (field_with f field)) fields
changed_octets f rdata (Err p) = rdata

pub with_names-is : (f : Labels → Labels) (kind : ℕ) (rdata : List ℕ) → with_names f kind rdata ≡ changed_octets f rdata (rdata_fields kind rdata)
with_names-is f kind rdata = by (rdata_fields kind rdata)
  where
    by : (r : Result (List Field) ℕ) → elim r [ Err p ↦ rdata | Ok fields ↦ flat_map (λ field. field_octets (field_with f field)) fields ] ≡ changed_octets f rdata r
    by (Ok fields) = refl
    by (Err p) = refl

pub with_names-Ok : (f : Labels → Labels) (kind : ℕ) (rdata : List ℕ) (fields : List Field) → rdata_fields kind rdata ≡ fields_done fields → with_names f kind rdata ≡ flat_map (λ field. field_octets (field_with f field)) fields
with_names-Ok f kind rdata fields e = with_names-is f kind rdata ∙ ap (changed_octets f rdata) e

pub with_names-Err : (f : Labels → Labels) (kind : ℕ) (rdata : List ℕ) (p : ℕ) → rdata_fields kind rdata ≡ Err p → with_names f kind rdata ≡ rdata
with_names-Err f kind rdata p e = with_names-is f kind rdata ∙ ap (changed_octets f rdata) e

pub read_changed : (f : Labels → Labels) (kind : ℕ) (rdata : List ℕ) (fields : List Field) → rdata_fields kind rdata ≡ fields_done fields → OnNames (λ name. CanStand 0 (f name)) fields
    → rdata_fields kind (with_names f kind rdata) ≡ fields_done (map (field_with f) fields)
read_changed f kind rdata fields e can =
    ap (rdata_fields kind) (with_names-Ok f kind rdata fields e)
    ∙ fields_as-is kind (flat_map (λ field. field_octets (field_with f field)) fields)
    ∙ again (shape kind) (shape-last kind) f rdata fields (sym (fields_as-is kind rdata) ∙ e) can

-- the names that a function gives, where another one gives the same
pub octets-agree : (f g : Labels → Labels) (fields : List Field) → OnNames (λ name. f name ≡ g name) fields
    → flat_map (λ field. field_octets (field_with f field)) fields ≡ flat_map (λ field. field_octets (field_with g field)) fields
octets-agree f g [] h = refl
octets-agree f g (raw bytes ∷ fields) h = ap (λ (l : List ℕ). bytes ++ l) (octets-agree f g fields h.1)
octets-agree f g (named name ∷ fields) h = (λ i. octets (h.0 i) ++ octets-agree f g fields h.1 i)

pub with_names-agree : (f g : Labels → Labels) (kind : ℕ) (rdata : List ℕ) → ((fields : List Field) → rdata_fields kind rdata ≡ fields_done fields → OnNames (λ name. f name ≡ g name) fields) → with_names f kind rdata ≡ with_names g kind rdata
with_names-agree f g kind rdata agree = by (rdata_fields kind rdata) refl
  where
    by : (r : Result (List Field) ℕ) → rdata_fields kind rdata ≡ r → with_names f kind rdata ≡ with_names g kind rdata
    by (Ok fields) e = with_names-Ok f kind rdata fields e ∙ octets-agree f g fields (agree fields e) ∙ sym (with_names-Ok g kind rdata fields e)
    by (Err p) e = with_names-Err f kind rdata p e ∙ sym (with_names-Err g kind rdata p e)

-- fields changed twice
pub fields-twice : (f g : Labels → Labels) (fields : List Field) → map (field_with g) (map (field_with f) fields) ≡ map (field_with (λ name. g (f name))) fields
fields-twice f g [] = refl
fields-twice f g (raw bytes ∷ fields) = ap (λ (l : List Field). raw bytes ∷ l) (fields-twice f g fields)
fields-twice f g (named name ∷ fields) = ap (λ (l : List Field). named (g (f name)) ∷ l) (fields-twice f g fields)

pub twice : (f g : Labels → Labels) (kind : ℕ) (rdata : List ℕ) (fields : List Field) → rdata_fields kind rdata ≡ fields_done fields → OnNames (λ name. CanStand 0 (f name)) fields
    → with_names g kind (with_names f kind rdata) ≡ with_names (λ name. g (f name)) kind rdata
twice f g kind rdata fields e can =
    with_names-Ok g kind (with_names f kind rdata) (map (field_with f) fields) (read_changed f kind rdata fields e can)
    ∙ sym (octets_map g (map (field_with f) fields))
    ∙ ap (λ (l : List Field). flat_map field_octets l) (fields-twice f g fields)
    ∙ octets_map (λ name. g (f name)) fields
    ∙ sym (with_names-Ok (λ name. g (f name)) kind rdata fields e)

-- the same octets are made of the same fields
pub same_changed : (f g : Labels → Labels) (kind : ℕ) (rdata other : List ℕ) (fields others : List Field) → rdata_fields kind rdata ≡ fields_done fields → rdata_fields kind other ≡ fields_done others
    → OnNames (λ name. CanStand 0 (f name)) fields → OnNames (λ name. CanStand 0 (g name)) others → with_names f kind rdata ≡ with_names g kind other → map (field_with f) fields ≡ map (field_with g) others
same_changed f g kind rdata other fields others e o can may same =
    same_done (map (field_with f) fields) (map (field_with g) others) (sym (read_changed f kind rdata fields e can) ∙ ap (rdata_fields kind) same ∙ read_changed g kind other others o may)
