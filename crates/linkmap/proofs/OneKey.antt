-- Records with one key are usable, shown and heard as one.
use Rattle.std.proofs.Common.{◌≡◌, ℕ, Bool, true, false, cond, not, ◌&&◌, ◌||◌, List, [], ◌∷◌, ◌++◌, map, Option, Some, None, Result, Ok, Err, refl, sym, ap, subst, ◌∙◌}
use Rattle.std.specs.Prelude.{◌==◌, flat_map, option_map, if◌then◌else◌}
use Rattle.std.specs.List.{list_any, list_all}
use Rattle.std.proofs.lemmas.Bool.{eqb-true}
use Rattle.dnsname.specs.Names.{Labels, IsName, octets, lower, ends_in}
use Rattle.dnsname.proofs.Decisions.{and_true}
use Rattle.dnsname.proofs.ReadAgain.{CanStand}
use Rattle.rrset.specs.Kinds.{in_class, nsec_kind, is_meta, a_kind, aaaa_kind}
use Rattle.rrset.specs.Records.{key_of}
use Rattle.rrset.specs.Rdata.{Field, raw, named, field_octets, field_names, field_with, rdata_fields, rdata_names, with_names, lowered_rdata, shape_fits}
use Rattle.rrset.specs.declared.record.Rr.{Rr}
use Rattle.rrset.specs.declared.record.Key.{Key}
use Rattle.rrset.proofs.ReadBack.{fields_done, not_done}
use Rattle.linkmap.specs.Translation.{local, renamed, renamed_rr, fits_a_name, names_fit, is_translatable, is_usable, is_link_local, is_link_local_v4, is_link_local_v6, shown_as, heard_as}
use Rattle.linkmap.proofs.Suffixes.{renamed_alike, ends-as, fits-as, can-lower}
use Rattle.linkmap.proofs.Changed.{OnNames, names_map, can-names, with_names-Ok, with_names-Err, read_changed, twice, same_changed}
use Rattle.linkmap.proofs.Shown.{Inside, names_in, inside_can, local_name, usable-parts, heads, tails, raw_of, name_of, apart, v4_kept, v6_kept, and_none}

-- fields that are one but for case
abbrev pub Alike : List Field → List Field → Type 0
Alike fields others = map (field_with lower) fields ≡ map (field_with lower) others

any_alike : (p : Labels → Bool) → ((a b : Labels) → lower a ≡ lower b → p a ≡ p b) → (fields others : List Field) → Alike fields others → list_any p (flat_map field_names fields) ≡ list_any p (flat_map field_names others)
any_alike p alike [] [] e = refl
any_alike p alike [] (other ∷ others) e = absurd cc
any_alike p alike (field ∷ fields) [] e = absurd cc
any_alike p alike (raw bytes ∷ fields) (raw more ∷ others) e = any_alike p alike fields others (tails _ _ _ _ e)
any_alike p alike (raw bytes ∷ fields) (named name ∷ others) e = absurd (apart bytes (lower name) (heads _ _ _ _ e))
any_alike p alike (named name ∷ fields) (raw bytes ∷ others) e = absurd (apart bytes (lower name) (sym (heads _ _ _ _ e)))
any_alike p alike (named name ∷ fields) (named other ∷ others) e =
    let same : p name ≡ p other = alike name other (ap (name_of (lower name)) (heads _ _ _ _ e)) in
    (λ i. same i || any_alike p alike fields others (tails _ _ _ _ e) i)

all_alike : (p : Labels → Bool) → ((a b : Labels) → lower a ≡ lower b → p a ≡ p b) → (fields others : List Field) → Alike fields others → list_all p (flat_map field_names fields) ≡ list_all p (flat_map field_names others)
all_alike p alike [] [] e = refl
all_alike p alike [] (other ∷ others) e = absurd cc
all_alike p alike (field ∷ fields) [] e = absurd cc
all_alike p alike (raw bytes ∷ fields) (raw more ∷ others) e = all_alike p alike fields others (tails _ _ _ _ e)
all_alike p alike (raw bytes ∷ fields) (named name ∷ others) e = absurd (apart bytes (lower name) (heads _ _ _ _ e))
all_alike p alike (named name ∷ fields) (raw bytes ∷ others) e = absurd (apart bytes (lower name) (sym (heads _ _ _ _ e)))
all_alike p alike (named name ∷ fields) (named other ∷ others) e =
    let same : p name ≡ p other = alike name other (ap (name_of (lower name)) (heads _ _ _ _ e)) in
    (λ i. same i && all_alike p alike fields others (tails _ _ _ _ e) i)

octets_alike : (f : Labels → Labels) → ((a b : Labels) → lower a ≡ lower b → lower (f a) ≡ lower (f b)) → (fields others : List Field) → Alike fields others
    → flat_map (λ field. field_octets (field_with (λ name. lower (f name)) field)) fields ≡ flat_map (λ field. field_octets (field_with (λ name. lower (f name)) field)) others
octets_alike f alike [] [] e = refl
octets_alike f alike [] (other ∷ others) e = absurd cc
octets_alike f alike (field ∷ fields) [] e = absurd cc
octets_alike f alike (raw bytes ∷ fields) (raw more ∷ others) e =
    let same : bytes ≡ more = ap (raw_of bytes) (heads _ _ _ _ e) in
    (λ i. same i ++ octets_alike f alike fields others (tails _ _ _ _ e) i)
octets_alike f alike (raw bytes ∷ fields) (named name ∷ others) e = absurd (apart bytes (lower name) (heads _ _ _ _ e))
octets_alike f alike (named name ∷ fields) (raw bytes ∷ others) e = absurd (apart bytes (lower name) (sym (heads _ _ _ _ e)))
octets_alike f alike (named name ∷ fields) (named other ∷ others) e =
    let same : lower (f name) ≡ lower (f other) = alike name other (ap (name_of (lower name)) (heads _ _ _ _ e)) in
    (λ i. octets (same i) ++ octets_alike f alike fields others (tails _ _ _ _ e) i)

-- rdata with one key is read as fields that are one but for case
record ReadAlike (kind : ℕ) (other : List ℕ) (fields : List Field) : Type 0 where
  pub others : List Field
  pub is : rdata_fields kind other ≡ fields_done others
  pub alike : Alike fields others

pub low : (kind : ℕ) (rdata : List ℕ) (fields : List Field) → rdata_fields kind rdata ≡ fields_done fields → OnNames (λ name. CanStand 0 (lower name)) fields
low kind rdata fields e = names_map (CanStand 0) (λ name. CanStand 0 (lower name)) (λ name c. can-lower name c) fields (can-names kind rdata fields e)

pub unread : (kind : ℕ) (rdata other : List ℕ) (fields : List Field) (p : ℕ) → lowered_rdata kind rdata ≡ lowered_rdata kind other → rdata_fields kind rdata ≡ fields_done fields → rdata_fields kind other ≡ Err p → ⊥
unread kind rdata other fields p same e o =
    not_done p (map (field_with lower) fields)
    (sym o ∙ ap (rdata_fields kind) (sym (same ∙ with_names-Err lower kind other p o)) ∙ read_changed lower kind rdata fields e (low kind rdata fields e))

read_alike : (kind : ℕ) (rdata other : List ℕ) (fields : List Field) → lowered_rdata kind rdata ≡ lowered_rdata kind other → rdata_fields kind rdata ≡ fields_done fields → ReadAlike kind other fields
read_alike kind rdata other fields same e = by (rdata_fields kind other) refl
  where
    by : (r : Result (List Field) ℕ) → rdata_fields kind other ≡ r → ReadAlike kind other fields
    by (Ok others) o = record { others = others; is = o; alike = same_changed lower lower kind rdata other fields others e o (low kind rdata fields e) (low kind other others o) same }
    by (Err p) o = absurd (unread kind rdata other fields p same e o)

pub names_any : (p : Labels → Bool) → ((a b : Labels) → lower a ≡ lower b → p a ≡ p b) → (kind : ℕ) (rdata other : List ℕ) → lowered_rdata kind rdata ≡ lowered_rdata kind other → list_any p (rdata_names kind rdata) ≡ list_any p (rdata_names kind other)
unfolding names_in
names_any p alike kind rdata other same = by (rdata_fields kind rdata) (rdata_fields kind other) refl refl
  where
    by : (r q : Result (List Field) ℕ) → rdata_fields kind rdata ≡ r → rdata_fields kind other ≡ q → list_any p (names_in (rdata_fields kind rdata)) ≡ list_any p (names_in (rdata_fields kind other))
    by (Ok fields) (Ok others) e o =
        ap (λ (r : Result (List Field) ℕ). list_any p (names_in r)) e
        ∙ any_alike p alike fields others (same_changed lower lower kind rdata other fields others e o (low kind rdata fields e) (low kind other others o) same)
        ∙ sym (ap (λ (r : Result (List Field) ℕ). list_any p (names_in r)) o)
    by (Ok fields) (Err p_) e o = absurd (unread kind rdata other fields p_ same e o)
    by (Err p_) (Ok others) e o = absurd (unread kind other rdata others p_ (sym same) o e)
    by (Err p_) (Err q) e o = ap (λ (r : Result (List Field) ℕ). list_any p (names_in r)) e ∙ sym (ap (λ (r : Result (List Field) ℕ). list_any p (names_in r)) o)

pub names_every : (p : Labels → Bool) → ((a b : Labels) → lower a ≡ lower b → p a ≡ p b) → (kind : ℕ) (rdata other : List ℕ) → lowered_rdata kind rdata ≡ lowered_rdata kind other → list_all p (rdata_names kind rdata) ≡ list_all p (rdata_names kind other)
unfolding names_in
names_every p alike kind rdata other same = by (rdata_fields kind rdata) (rdata_fields kind other) refl refl
  where
    by : (r q : Result (List Field) ℕ) → rdata_fields kind rdata ≡ r → rdata_fields kind other ≡ q → list_all p (names_in (rdata_fields kind rdata)) ≡ list_all p (names_in (rdata_fields kind other))
    by (Ok fields) (Ok others) e o =
        ap (λ (r : Result (List Field) ℕ). list_all p (names_in r)) e
        ∙ all_alike p alike fields others (same_changed lower lower kind rdata other fields others e o (low kind rdata fields e) (low kind other others o) same)
        ∙ sym (ap (λ (r : Result (List Field) ℕ). list_all p (names_in r)) o)
    by (Ok fields) (Err p_) e o = absurd (unread kind rdata other fields p_ same e o)
    by (Err p_) (Ok others) e o = absurd (unread kind other rdata others p_ (sym same) o e)
    by (Err p_) (Err q) e o = ap (λ (r : Result (List Field) ℕ). list_all p (names_in r)) e ∙ sym (ap (λ (r : Result (List Field) ℕ). list_all p (names_in r)) o)

-- the names of a record fit where those of one with its key do
pub translatable_alike : (old new owner again : Labels) (class kind ttl later : ℕ) (rdata other : List ℕ) → lower owner ≡ lower again → lowered_rdata kind rdata ≡ lowered_rdata kind other
    → is_translatable old new (record { owner = owner; class = class; kind = kind; ttl = ttl; rdata = rdata }) ≡ is_translatable old new (record { owner = again; class = class; kind = kind; ttl = later; rdata = other })
translatable_alike old new owner again class kind ttl later rdata other owners same =
    let none = names_any (λ name. ends_in name new) (λ a b e. ends-as a b new e) kind rdata other same in
    let one = fits-as (renamed old new owner) (renamed old new again) (renamed_alike old new owner again owners) in
    let all = names_every (λ name. fits_a_name (renamed old new name)) (λ a b e. fits-as (renamed old new a) (renamed old new b) (renamed_alike old new a b e)) kind rdata other same in
    (λ i. not (none i) && (one i && all i))

-- a record is usable where one with its key is
usable_alike : (domain owner again : Labels) (class kind ttl later : ℕ) (rdata other : List ℕ) → lower owner ≡ lower again → lowered_rdata kind rdata ≡ lowered_rdata kind other
    → is_usable domain (record { owner = owner; class = class; kind = kind; ttl = ttl; rdata = rdata }) ≡ is_usable domain (record { owner = again; class = class; kind = kind; ttl = later; rdata = other })
usable_alike domain owner again class kind ttl later rdata other owners same =
    let ends = ends-as owner again local owners in
    let fit = translatable_alike local domain owner again class kind ttl later rdata other owners same in
    (λ i. (class == in_class && not (kind == nsec_kind) && not (is_meta kind) && ends i) && fit i)

-- rdata with one key, renamed, has one key
pub renamed_rdata : (old new : Labels) (kind : ℕ) (rdata other : List ℕ) → lowered_rdata kind rdata ≡ lowered_rdata kind other
    → Inside (λ name. CanStand 0 (renamed old new name)) kind rdata → Inside (λ name. CanStand 0 (renamed old new name)) kind other
    → lowered_rdata kind (with_names (renamed old new) kind rdata) ≡ lowered_rdata kind (with_names (renamed old new) kind other)
renamed_rdata old new kind rdata other same can may = by (rdata_fields kind rdata) (rdata_fields kind other) refl refl
  where
    changed : (text : List ℕ) (fields : List Field) → rdata_fields kind text ≡ fields_done fields → Inside (λ name. CanStand 0 (renamed old new name)) kind text
        → lowered_rdata kind (with_names (renamed old new) kind text) ≡ flat_map (λ field. field_octets (field_with (λ name. lower (renamed old new name)) field)) fields
    changed text fields e can = twice (renamed old new) lower kind text fields e (can fields e) ∙ with_names-Ok (λ name. lower (renamed old new name)) kind text fields e

    by : (r q : Result (List Field) ℕ) → rdata_fields kind rdata ≡ r → rdata_fields kind other ≡ q → lowered_rdata kind (with_names (renamed old new) kind rdata) ≡ lowered_rdata kind (with_names (renamed old new) kind other)
    by (Ok fields) (Ok others) e o =
        changed rdata fields e can
        ∙ octets_alike (renamed old new) (λ a b e. renamed_alike old new a b e) fields others (same_changed lower lower kind rdata other fields others e o (low kind rdata fields e) (low kind other others o) same)
        ∙ sym (changed other others o may)
    by (Ok fields) (Err p) e o = absurd (unread kind rdata other fields p same e o)
    by (Err p) (Ok others) e o = absurd (unread kind other rdata others p (sym same) o e)
    by (Err p) (Err q) e o = ap (lowered_rdata kind) (with_names-Err (renamed old new) kind rdata p e) ∙ same ∙ sym (ap (lowered_rdata kind) (with_names-Err (renamed old new) kind other q o))

-- an address of its link alone
abbrev is_hidden : ℕ → List ℕ → Bool
is_hidden kind text = shape_fits kind text && ((kind == a_kind && is_link_local_v4 text) || (kind == aaaa_kind && is_link_local_v6 text))

-- records with one key are addresses of their link alone, or aren't
local_alike : (kind : ℕ) (rdata other : List ℕ) → lowered_rdata kind rdata ≡ lowered_rdata kind other
    → is_hidden kind rdata ≡ is_hidden kind other
local_alike kind rdata other same = by (kind == a_kind) (kind == aaaa_kind) refl refl
  where
    none : (text : List ℕ) → (kind == a_kind) ≡ false → (kind == aaaa_kind) ≡ false → is_hidden kind text ≡ false
    none text e g = (λ i. shape_fits kind text && ((e i && is_link_local_v4 text) || (g i && is_link_local_v6 text))) ∙ and_none (shape_fits kind text)

    by : (a b : Bool) → (kind == a_kind) ≡ a → (kind == aaaa_kind) ≡ b → is_hidden kind rdata ≡ is_hidden kind other
    by true b e g = let is = eqb-true kind a_kind e in ap (is_hidden kind) (sym (v4_kept lower kind rdata is) ∙ same ∙ v4_kept lower kind other is)
    by false true e g = let is = eqb-true kind aaaa_kind g in ap (is_hidden kind) (sym (v6_kept lower kind rdata is) ∙ same ∙ v6_kept lower kind other is)
    by false false e g = none rdata e g ∙ sym (none other e g)

shown_alike : (domain owner again : Labels) (class kind ttl later : ℕ) (rdata other : List ℕ) → IsName domain → lower owner ≡ lower again → lowered_rdata kind rdata ≡ lowered_rdata kind other
    → is_usable domain (record { owner = owner; class = class; kind = kind; ttl = ttl; rdata = rdata }) ≡ true → is_usable domain (record { owner = again; class = class; kind = kind; ttl = later; rdata = other }) ≡ true
    → option_map key_of (shown_as domain (record { owner = owner; class = class; kind = kind; ttl = ttl; rdata = rdata })) ≡ option_map key_of (shown_as domain (record { owner = again; class = class; kind = kind; ttl = later; rdata = other }))
shown_alike domain owner again class kind ttl later rdata other is owners same usable useful =
    let mine = usable-parts domain (record { owner = owner; class = class; kind = kind; ttl = ttl; rdata = rdata }) usable in
    let its = usable-parts domain (record { owner = again; class = class; kind = kind; ttl = later; rdata = other }) useful in
    let names = renamed_alike local domain owner again owners in
    let texts = renamed_rdata local domain kind rdata other same (inside_can local domain is kind rdata mine.fit) (inside_can local domain is kind other its.fit) in
    let key : key_of (renamed_rr local domain (record { owner = owner; class = class; kind = kind; ttl = ttl; rdata = rdata })) ≡ key_of (renamed_rr local domain (record { owner = again; class = class; kind = kind; ttl = later; rdata = other })) =
    (λ i. record { owner = names i; class = class; kind = kind; rdata = texts i }) in
    of _ _ (renamed_rr local domain (record { owner = owner; class = class; kind = kind; ttl = ttl; rdata = rdata })) (renamed_rr local domain (record { owner = again; class = class; kind = kind; ttl = later; rdata = other })) (local_alike kind rdata other same) key
  where
    by : (b : Bool) (x y : Rr) → key_of x ≡ key_of y → option_map key_of (cond {A = Option Rr} b None (Some x)) ≡ option_map key_of (cond {A = Option Rr} b None (Some y))
    by true x y e = refl
    by false x y e = ap Some e

    of : (a b : Bool) (x y : Rr) → a ≡ b → key_of x ≡ key_of y → option_map key_of (cond {A = Option Rr} a None (Some x)) ≡ option_map key_of (cond {A = Option Rr} b None (Some y))
    of a b x y e k = ap (λ (c : Bool). option_map key_of (cond {A = Option Rr} c None (Some x))) e ∙ by b x y k

-- two records with one key
pub shown_as_one : (domain : Labels) (rr other : Rr) → IsName domain → key_of rr ≡ key_of other → is_usable domain rr ≡ true → (is_usable domain other ≡ true) × (option_map key_of (shown_as domain rr) ≡ option_map key_of (shown_as domain other))
shown_as_one domain rr other is same usable =
    let kinds : rr.kind ≡ other.kind = ap (λ (k : Key). k.kind) same in
    let classes : rr.class ≡ other.class = ap (λ (k : Key). k.class) same in
    let owners : lower rr.owner ≡ lower other.owner = ap (λ (k : Key). k.owner) same in
    let texts : lowered_rdata rr.kind rr.rdata ≡ lowered_rdata other.kind other.rdata = ap (λ (k : Key). k.rdata) same in
    by rr.class other.class rr.kind other.kind classes kinds owners texts usable
  where
    of_one : (class kind : ℕ) → lower rr.owner ≡ lower other.owner → lowered_rdata kind rr.rdata ≡ lowered_rdata kind other.rdata → is_usable domain (record rr { class = class; kind = kind }) ≡ true
        → (is_usable domain (record other { class = class; kind = kind }) ≡ true) × (option_map key_of (shown_as domain (record rr { class = class; kind = kind })) ≡ option_map key_of (shown_as domain (record other { class = class; kind = kind })))
    of_one class kind owners texts usable =
        let useful = sym (usable_alike domain rr.owner other.owner class kind rr.ttl other.ttl rr.rdata other.rdata owners texts) ∙ usable in
        (useful, shown_alike domain rr.owner other.owner class kind rr.ttl other.ttl rr.rdata other.rdata is owners texts usable useful)

    by : (class class_again kind kind_again : ℕ) → class ≡ class_again → kind ≡ kind_again → lower rr.owner ≡ lower other.owner → lowered_rdata kind rr.rdata ≡ lowered_rdata kind_again other.rdata → is_usable domain (record rr { class = class; kind = kind }) ≡ true
        → (is_usable domain (record other { class = class_again; kind = kind_again }) ≡ true) × (option_map key_of (shown_as domain (record rr { class = class; kind = kind })) ≡ option_map key_of (shown_as domain (record other { class = class_again; kind = kind_again })))
    by class class_again kind kind_again classes kinds =
        subst (λ (c : ℕ). lower rr.owner ≡ lower other.owner → lowered_rdata kind rr.rdata ≡ lowered_rdata kind_again other.rdata → is_usable domain (record rr { class = class; kind = kind }) ≡ true
        → (is_usable domain (record other { class = c; kind = kind_again }) ≡ true) × (option_map key_of (shown_as domain (record rr { class = class; kind = kind })) ≡ option_map key_of (shown_as domain (record other { class = c; kind = kind_again })))) classes
        (subst (λ (k : ℕ). lower rr.owner ≡ lower other.owner → lowered_rdata kind rr.rdata ≡ lowered_rdata k other.rdata → is_usable domain (record rr { class = class; kind = kind }) ≡ true
        → (is_usable domain (record other { class = class; kind = k }) ≡ true) × (option_map key_of (shown_as domain (record rr { class = class; kind = kind })) ≡ option_map key_of (shown_as domain (record other { class = class; kind = k })))) kinds (of_one class kind))

-- ---- heard as one

-- the record that is heard, by the three tests
abbrev heard_by : Bool → Bool → Bool → Rr → Option Rr
heard_by under fits hidden rr = if not under then None else if not fits then None else if hidden then None else Some rr

heard_by-keys : (under fits hidden : Bool) (rr other : Rr) → (fits ≡ true → key_of rr ≡ key_of other) → option_map key_of (heard_by under fits hidden rr) ≡ option_map key_of (heard_by under fits hidden other)
heard_by-keys false fits hidden rr other same = refl
heard_by-keys true false hidden rr other same = refl
heard_by-keys true true true rr other same = refl
heard_by-keys true true false rr other same = ap Some (same refl)

pub translatable-names : (old new : Labels) (rr : Rr) → is_translatable old new rr ≡ true → list_all (λ name. fits_a_name (renamed old new name)) (rdata_names rr.kind rr.rdata) ≡ true
translatable-names old new rr e =
    let fit = and_true (not (list_any (λ name. ends_in name new) (rdata_names rr.kind rr.rdata))) (names_fit old new rr) e in
    (and_true (fits_a_name (renamed old new rr.owner)) (list_all (λ name. fits_a_name (renamed old new name)) (rdata_names rr.kind rr.rdata)) fit.1).1

heard_alike : (domain owner again : Labels) (class kind ttl later : ℕ) (rdata other : List ℕ) → lower owner ≡ lower again → lowered_rdata kind rdata ≡ lowered_rdata kind other
    → option_map key_of (heard_as domain (record { owner = owner; class = class; kind = kind; ttl = ttl; rdata = rdata })) ≡ option_map key_of (heard_as domain (record { owner = again; class = class; kind = kind; ttl = later; rdata = other }))
heard_alike domain owner again class kind ttl later rdata other owners same =
    let under = ends-as owner again domain owners in
    let fits = translatable_alike domain local owner again class kind ttl later rdata other owners same in
    let hidden = local_alike kind rdata other same in
    let names = renamed_alike domain local owner again owners in
    (λ i. option_map key_of (heard_by (under i) (fits i) (hidden i) (renamed_rr domain local (record { owner = owner; class = class; kind = kind; ttl = ttl; rdata = rdata }))))
    ∙ heard_by-keys (ends_in again domain) (is_translatable domain local (record { owner = again; class = class; kind = kind; ttl = later; rdata = other })) (is_link_local (record { owner = again; class = class; kind = kind; ttl = later; rdata = other })) (renamed_rr domain local (record { owner = owner; class = class; kind = kind; ttl = ttl; rdata = rdata })) (renamed_rr domain local (record { owner = again; class = class; kind = kind; ttl = later; rdata = other }))
    (λ fit.
    let mine = translatable-names domain local (record { owner = owner; class = class; kind = kind; ttl = ttl; rdata = rdata }) (fits ∙ fit) in
    let its = translatable-names domain local (record { owner = again; class = class; kind = kind; ttl = later; rdata = other }) fit in
    let texts = renamed_rdata domain local kind rdata other same (inside_can domain local local_name kind rdata mine) (inside_can domain local local_name kind other its) in
    (λ i. record { owner = names i; class = class; kind = kind; rdata = texts i }))

-- records with one key are heard as records with one key, or none of them is
pub heard_as_one : (domain : Labels) (rr other : Rr) → key_of rr ≡ key_of other → option_map key_of (heard_as domain rr) ≡ option_map key_of (heard_as domain other)
heard_as_one domain rr other same =
    let kinds : rr.kind ≡ other.kind = ap (λ (k : Key). k.kind) same in
    let classes : rr.class ≡ other.class = ap (λ (k : Key). k.class) same in
    let owners : lower rr.owner ≡ lower other.owner = ap (λ (k : Key). k.owner) same in
    let texts : lowered_rdata rr.kind rr.rdata ≡ lowered_rdata other.kind other.rdata = ap (λ (k : Key). k.rdata) same in
    by other.class other.kind classes kinds owners texts
  where
    by : (class kind : ℕ) → rr.class ≡ class → rr.kind ≡ kind → lower rr.owner ≡ lower other.owner → lowered_rdata rr.kind rr.rdata ≡ lowered_rdata kind other.rdata
        → option_map key_of (heard_as domain rr) ≡ option_map key_of (heard_as domain (record other { class = class; kind = kind }))
    by class kind classes kinds owners texts =
        subst (λ (c : ℕ). option_map key_of (heard_as domain rr) ≡ option_map key_of (heard_as domain (record other { class = c; kind = kind }))) classes
        (subst (λ (k : ℕ). lowered_rdata rr.kind rr.rdata ≡ lowered_rdata k other.rdata → option_map key_of (heard_as domain rr) ≡ option_map key_of (heard_as domain (record other { class = rr.class; kind = k }))) kinds
        (λ same. heard_alike domain rr.owner other.owner rr.class rr.kind rr.ttl other.ttl rr.rdata other.rdata owners same) texts)
