-- What is heard is shown with its key, and what is shown with one key was heard with one.
use Rattle.std.proofs.Common.{◌≡◌, ℕ, ◌+◌, ◌-◌, Bool, true, false, cond, eqb, ltb, not, ◌&&◌, ◌||◌, List, [], ◌∷◌, ◌++◌, length, take, map, Option, Some, None, Result, Ok, Err, refl, sym, ap, subst, ◌∙◌, arith}
use Rattle.std.specs.Prelude.{◌==◌, slice_range, flat_map, option_map}
use Rattle.std.specs.List.{list_any, list_all}
use Rattle.std.proofs.lemmas.Bool.{eqb-true}
use Rattle.std.proofs.lemmas.List.{append-nil, take_all}
use Rattle.dnsname.specs.Names.{Labels, IsName, octets, lower, ends_in}
use Rattle.dnsname.specs.Reading.{plain_name_at}
use Rattle.dnsname.proofs.Decisions.{and_true, ends_in-Decides, is_name-Decides}
use Rattle.dnsname.proofs.ReadAgain.{CanStand}
use Rattle.rrset.specs.Kinds.{a_kind, aaaa_kind}
use Rattle.rrset.specs.Records.{key_of}
use Rattle.rrset.specs.Rdata.{Field, raw, named, some_octets, with_field, field_octets, field_names, field_with, fields_from, rdata_fields, rdata_names, with_names, lowered_rdata, shape_fits}
use Rattle.rrset.specs.declared.record.Rr.{Rr}
use Rattle.rrset.specs.declared.record.Key.{Key}
use Rattle.rrset.proofs.ReadBack.{fields_done, not_done}
use Rattle.linkmap.specs.Translation.{local, renamed, renamed_rr, fits_a_name, names_fit, is_of_link, is_translatable, is_usable, is_link_local, is_link_local_v4, is_link_local_v6, shown_as, heard_as}
use Rattle.linkmap.proofs.Suffixes.{there_and_back, renamed_ends, both_renamed, each_renamed, can-renamed, can-lower, can-as}
use Rattle.linkmap.proofs.Changed.{OnNames, names_map, names_both, names_none, names_all, can-names, with_names-Ok, with_names-Err, with_names-agree, read_changed, twice, same_changed}

pub not_true : (b : Bool) → not b ≡ true → b ≡ false
not_true true h = absurd cc
not_true false h = refl

-- ---- names inside

-- what is known of the names inside, if the rdata is read
abbrev pub Inside : (Labels → Type 0) → ℕ → List ℕ → Type 0
Inside P kind rdata = (fields : List Field) → rdata_fields kind rdata ≡ fields_done fields → OnNames P fields

unfoldable pub names_in : Result (List Field) ℕ → List Labels
names_in r = elim r [ Err p ↦ [] | Ok fields ↦ flat_map field_names fields ]

pub inside_none : (p : Labels → Bool) (kind : ℕ) (rdata : List ℕ) → list_any p (rdata_names kind rdata) ≡ false → Inside (λ name. p name ≡ false) kind rdata
unfolding names_in
inside_none p kind rdata none fields e = names_none p fields (ap (λ (r : Result (List Field) ℕ). list_any p (names_in r)) (sym e) ∙ none)

pub inside_all : (p : Labels → Bool) (kind : ℕ) (rdata : List ℕ) → list_all p (rdata_names kind rdata) ≡ true → Inside (λ name. p name ≡ true) kind rdata
unfolding names_in
inside_all p kind rdata all fields e = names_all p fields (ap (λ (r : Result (List Field) ℕ). list_all p (names_in r)) (sym e) ∙ all)

-- each name inside that is renamed can stand
pub inside_can : (old new : Labels) → IsName new → (kind : ℕ) (rdata : List ℕ) → list_all (λ name. fits_a_name (renamed old new name)) (rdata_names kind rdata) ≡ true → Inside (λ name. CanStand 0 (renamed old new name)) kind rdata
inside_can old new is kind rdata fit fields e =
    names_map (λ name. CanStand 0 name × (fits_a_name (renamed old new name) ≡ true)) (λ name. CanStand 0 (renamed old new name)) (λ name h. can-renamed old new name is h.0 h.1) fields
    (names_both (CanStand 0) (λ name. fits_a_name (renamed old new name) ≡ true) fields (can-names kind rdata fields e) (inside_all (λ name. fits_a_name (renamed old new name)) kind rdata fit fields e))

-- ---- there and back

pub rdata_back : (first second : Labels) (kind : ℕ) (rdata : List ℕ) → Inside (λ name. CanStand 0 (renamed first second name)) kind rdata → Inside (λ name. CanStand 0 (renamed second first (renamed first second name))) kind rdata
    → Inside (λ name. ends_in name second ≡ false) kind rdata → lowered_rdata kind (with_names (renamed second first) kind (with_names (renamed first second) kind rdata)) ≡ lowered_rdata kind rdata
rdata_back first second kind rdata can_there can_back none = by (rdata_fields kind rdata) refl
  where
    there : Labels → Labels
    there = renamed first second

    back : Labels → Labels
    back = renamed second first

    by : (r : Result (List Field) ℕ) → rdata_fields kind rdata ≡ r → lowered_rdata kind (with_names (renamed second first) kind (with_names (renamed first second) kind rdata)) ≡ lowered_rdata kind rdata
    by (Err p) e =
        ap (λ (l : List ℕ). lowered_rdata kind (with_names (renamed second first) kind l)) (with_names-Err (renamed first second) kind rdata p e)
        ∙ ap (lowered_rdata kind) (with_names-Err (renamed second first) kind rdata p e)
    by (Ok fields) e =
        ap (lowered_rdata kind) (twice (renamed first second) (renamed second first) kind rdata fields e (can_there fields e))
        ∙ twice (λ name. renamed second first (renamed first second name)) lower kind rdata fields e (can_back fields e)
        ∙ with_names-agree (λ name. lower (renamed second first (renamed first second name))) lower kind rdata
        (λ fields e. names_map (λ name. ends_in name second ≡ false) (λ name. lower (renamed second first (renamed first second name)) ≡ lower name) (λ name other. there_and_back first second name (λ _. other)) fields (none fields e))

-- ---- addresses that aren't shown

raw_whole : (f : Labels → Labels) (n : ℕ) (rdata : List ℕ) (fields : List Field) → fields_from plain_name_at (some_octets n ∷ []) rdata 0 ≡ fields_done fields → flat_map (λ field. field_octets (field_with f field)) fields ≡ rdata
raw_whole f n rdata fields e = by (ltb (length rdata) (0 + n)) e
  where
    end : (b : Bool) → eqb (0 + n) (length rdata) ≡ b → with_field (raw (slice_range rdata 0 (0 + n))) (cond {A = Result (List Field) ℕ} b (Ok []) (Err (0 + n))) ≡ fields_done fields → flat_map (λ field. field_octets (field_with f field)) fields ≡ rdata
    end true is e =
        let long : 0 + n ≡ length rdata = eqb-true (0 + n) (length rdata) is in
        let cut : 0 + n - 0 ≡ n = omega arith in
        let one : raw (slice_range rdata 0 (0 + n)) ∷ [] ≡ fields = cc in
        ap (λ (fs : List Field). flat_map (λ field. field_octets (field_with f field)) fs) (sym one)
        ∙ append-nil (slice_range rdata 0 (0 + n))
        ∙ ap (λ (k : ℕ). take k rdata) cut
        ∙ take_all n rdata (omega (arith, long))
    end false is e = absurd (not_done (0 + n) fields e)

    by : (b : Bool) → cond b (Err (length rdata)) (with_field (raw (slice_range rdata 0 (0 + n))) (fields_from plain_name_at [] rdata (0 + n))) ≡ fields_done fields → flat_map (λ field. field_octets (field_with f field)) fields ≡ rdata
    by true e = absurd (not_done (length rdata) fields e)
    by false e = end (eqb (0 + n) (length rdata)) refl e

address_kept : (f : Labels → Labels) (kind n : ℕ) (rdata : List ℕ) → ((fields : List Field) → rdata_fields kind rdata ≡ fields_done fields → fields_from plain_name_at (some_octets n ∷ []) rdata 0 ≡ fields_done fields) → with_names f kind rdata ≡ rdata
address_kept f kind n rdata shape = by (rdata_fields kind rdata) refl
  where
    by : (r : Result (List Field) ℕ) → rdata_fields kind rdata ≡ r → with_names f kind rdata ≡ rdata
    by (Err p) e = with_names-Err f kind rdata p e
    by (Ok fields) e = with_names-Ok f kind rdata fields e ∙ raw_whole f n rdata fields (shape fields e)

pub v4_kept : (f : Labels → Labels) (kind : ℕ) (rdata : List ℕ) → kind ≡ a_kind → with_names f kind rdata ≡ rdata
v4_kept f kind rdata is = address_kept f kind 4 rdata (λ fields e. ap (λ (k : ℕ). rdata_fields k rdata) (sym is) ∙ e)

pub v6_kept : (f : Labels → Labels) (kind : ℕ) (rdata : List ℕ) → kind ≡ aaaa_kind → with_names f kind rdata ≡ rdata
v6_kept f kind rdata is = address_kept f kind 16 rdata (λ fields e. ap (λ (k : ℕ). rdata_fields k rdata) (sym is) ∙ e)

pub and_none : (a : Bool) → (a && false) ≡ false
and_none true = refl
and_none false = refl

-- an address keeps its rdata, so it is shown where it is heard
pub local_kept : (f : Labels → Labels) (rr : Rr) → is_link_local rr ≡ false → is_link_local (record rr { rdata = with_names f rr.kind rr.rdata }) ≡ false
local_kept f rr out = by (rr.kind == a_kind) (rr.kind == aaaa_kind) refl refl
  where
    changed : List ℕ
    changed = with_names f rr.kind rr.rdata

    by : (a b : Bool) → (rr.kind == a_kind) ≡ a → (rr.kind == aaaa_kind) ≡ b
        → (shape_fits rr.kind (with_names f rr.kind rr.rdata) && (((rr.kind == a_kind) && is_link_local_v4 (with_names f rr.kind rr.rdata)) || ((rr.kind == aaaa_kind) && is_link_local_v6 (with_names f rr.kind rr.rdata)))) ≡ false
    by true b e g = ap (λ (l : List ℕ). is_link_local (record rr { rdata = l })) (v4_kept f rr.kind rr.rdata (eqb-true rr.kind a_kind e)) ∙ out
    by false true e g = ap (λ (l : List ℕ). is_link_local (record rr { rdata = l })) (v6_kept f rr.kind rr.rdata (eqb-true rr.kind aaaa_kind g)) ∙ out
    by false false e g =
        (λ i. shape_fits rr.kind (with_names f rr.kind rr.rdata) && ((e i && is_link_local_v4 (with_names f rr.kind rr.rdata)) || (g i && is_link_local_v6 (with_names f rr.kind rr.rdata))))
        ∙ and_none (shape_fits rr.kind (with_names f rr.kind rr.rdata))

-- ---- what is heard is shown

shown-is : (domain : Labels) (rr : Rr) → is_link_local rr ≡ false → shown_as domain rr ≡ Some (renamed_rr local domain rr)
shown-is domain rr out = ap (λ (b : Bool). cond {A = Option Rr} b None (Some (renamed_rr local domain rr))) out

pub record Hears (domain : Labels) (rr heard : Rr) : Type 0 where
  pub owner : ends_in rr.owner domain ≡ true
  pub none : list_any (λ name. ends_in name local) (rdata_names rr.kind rr.rdata) ≡ false
  pub shown : is_link_local rr ≡ false
  pub fit : names_fit domain local rr ≡ true
  pub is : renamed_rr domain local rr ≡ heard

pub hears : (domain : Labels) (rr heard : Rr) → heard_as domain rr ≡ Some heard → Hears domain rr heard
hears domain rr heard e = by (ends_in rr.owner domain) (is_translatable domain local rr) (is_link_local rr) refl refl refl e
  where
    by : (a b c : Bool) → ends_in rr.owner domain ≡ a → is_translatable domain local rr ≡ b → is_link_local rr ≡ c
        → cond {A = Option Rr} (not a) None (cond (not b) None (cond c None (Some (renamed_rr domain local rr)))) ≡ Some heard → Hears domain rr heard
    by false b c ea eb ec e = absurd cc
    by true false c ea eb ec e = absurd cc
    by true true true ea eb ec e = absurd cc
    by true true false ea eb ec e =
        let both = and_true (not (list_any (λ name. ends_in name local) (rdata_names rr.kind rr.rdata))) (names_fit domain local rr) eb in
        record { owner = ea; none = not_true _ both.0; shown = ec; fit = both.1; is = cc }

-- the record that comes back fits, as it is the one that was heard but for case
pub local_name : IsName local
local_name = (is_name-Decides local).0 refl

pub heard_is_shown : (domain : Labels) (rr heard : Rr) → heard_as domain rr ≡ Some heard → option_map key_of (shown_as domain heard) ≡ Some (key_of rr)
heard_is_shown domain rr heard e =
    let h = hears domain rr heard e in
    let fit = and_true (fits_a_name (renamed domain local rr.owner)) (list_all (λ name. fits_a_name (renamed domain local name)) (rdata_names rr.kind rr.rdata)) h.fit in
    let there = inside_can domain local local_name rr.kind rr.rdata fit.1 in
    let back : Inside (λ name. CanStand 0 (renamed local domain (renamed domain local name))) rr.kind rr.rdata =
    λ fields e. names_map (λ name. CanStand 0 name × (ends_in name local ≡ false)) (λ name. CanStand 0 (renamed local domain (renamed domain local name)))
    (λ name k. comes_back name k.0 k.1) fields
    (names_both (CanStand 0) (λ name. ends_in name local ≡ false) fields (can-names rr.kind rr.rdata fields e)
    (inside_none (λ name. ends_in name local) rr.kind rr.rdata h.none fields e)) in
    let owner : lower (renamed local domain (renamed domain local rr.owner)) ≡ lower rr.owner = there_and_back domain local rr.owner (λ no_. let yes_ = h.owner in absurd cc) in
    let rdata = rdata_back domain local rr.kind rr.rdata there back (inside_none (λ name. ends_in name local) rr.kind rr.rdata h.none) in
    let kept : is_link_local (renamed_rr domain local rr) ≡ false = local_kept (renamed domain local) rr h.shown in
    ap (λ x. option_map key_of (shown_as domain x)) (sym h.is)
    ∙ ap (option_map key_of) (shown-is domain (renamed_rr domain local rr) kept)
    ∙ (λ i. Some (record { owner = owner i; class = rr.class; kind = rr.kind; rdata = rdata i }))
  where
    comes_back : (name : Labels) → CanStand 0 name → ends_in name local ≡ false → CanStand 0 (renamed local domain (renamed domain local name))
    comes_back name can other = can-as (renamed local domain (renamed domain local name)) name (there_and_back domain local name (λ _. other)) can

-- ---- each row is shown by itself

abbrev pub raw_of : List ℕ → Field → List ℕ
raw_of d (raw bytes) = bytes
raw_of d (named name) = d

abbrev pub name_of : Labels → Field → Labels
name_of d (raw bytes) = d
name_of d (named name) = name

pub apart : (bytes : List ℕ) (name : Labels) → raw bytes ≡ named name → ⊥
apart bytes name e = cc

pub heads : (x y : Field) (xs ys : List Field) → x ∷ xs ≡ y ∷ ys → x ≡ y
heads x y xs ys e = cc

pub tails : (x y : Field) (xs ys : List Field) → x ∷ xs ≡ y ∷ ys → xs ≡ ys
tails x y xs ys e = cc

field_lower : (first second : Labels) (fields others : List Field) → OnNames (λ name. ends_in name second ≡ false) fields → OnNames (λ name. ends_in name second ≡ false) others
    → map (field_with (λ name. lower (renamed first second name))) fields ≡ map (field_with (λ name. lower (renamed first second name))) others
    → flat_map (λ field. field_octets (field_with lower field)) fields ≡ flat_map (λ field. field_octets (field_with lower field)) others
field_lower first second [] [] h k e = refl
field_lower first second [] (other ∷ others) h k e = absurd cc
field_lower first second (field ∷ fields) [] h k e = absurd cc
field_lower first second (raw bytes ∷ fields) (raw more ∷ others) h k e =
    let rest : map (field_with (λ name. lower (renamed first second name))) fields ≡ map (field_with (λ name. lower (renamed first second name))) others = tails _ _ _ _ e in
    let same : bytes ≡ more = ap (raw_of bytes) (heads _ _ _ _ e) in
    (λ i. same i ++ field_lower first second fields others h.1 k.1 rest i)
field_lower first second (raw bytes ∷ fields) (named name ∷ others) h k e = absurd (apart bytes (lower (renamed first second name)) (heads _ _ _ _ e))
field_lower first second (named name ∷ fields) (raw bytes ∷ others) h k e = absurd (apart bytes (lower (renamed first second name)) (sym (heads _ _ _ _ e)))
field_lower first second (named name ∷ fields) (named other ∷ others) h k e =
    let rest : map (field_with (λ name. lower (renamed first second name))) fields ≡ map (field_with (λ name. lower (renamed first second name))) others = tails _ _ _ _ e in
    let same : lower name ≡ lower other = each_renamed first second name other h.0 k.0 (ap (name_of (lower (renamed first second name))) (heads _ _ _ _ e)) in
    (λ i. octets (same i) ++ field_lower first second fields others h.1 k.1 rest i)

-- rdata whose shown forms have one key has one key
pub rdata_apart : (first second : Labels) (kind : ℕ) (rdata other : List ℕ) → Inside (λ name. CanStand 0 (renamed first second name)) kind rdata → Inside (λ name. CanStand 0 (renamed first second name)) kind other
    → Inside (λ name. ends_in name second ≡ false) kind rdata → Inside (λ name. ends_in name second ≡ false) kind other
    → lowered_rdata kind (with_names (renamed first second) kind rdata) ≡ lowered_rdata kind (with_names (renamed first second) kind other) → lowered_rdata kind rdata ≡ lowered_rdata kind other
rdata_apart first second kind rdata other can may none never same = by (rdata_fields kind rdata) (rdata_fields kind other) refl refl
  where
    low : (text : List ℕ) (fields : List Field) → rdata_fields kind text ≡ fields_done fields → Inside (λ name. CanStand 0 (renamed first second name)) kind text
        → (lowered_rdata kind (with_names (renamed first second) kind text) ≡ with_names (λ name. lower (renamed first second name)) kind text) × OnNames (λ name. CanStand 0 (lower (renamed first second name))) fields
    low text fields e can = (
      twice (renamed first second) lower kind text fields e (can fields e),
      names_map (λ name. CanStand 0 (renamed first second name)) (λ name. CanStand 0 (lower (renamed first second name))) (λ name c. can-lower (renamed first second name) c) fields (can fields e),
    )

    plain : (text : List ℕ) (p : ℕ) → rdata_fields kind text ≡ Err p → lowered_rdata kind (with_names (renamed first second) kind text) ≡ text
    plain text p e = ap (lowered_rdata kind) (with_names-Err (renamed first second) kind text p e) ∙ with_names-Err lower kind text p e

    unread : (text bad : List ℕ) (fields : List Field) (p : ℕ) → rdata_fields kind text ≡ fields_done fields → rdata_fields kind bad ≡ Err p → Inside (λ name. CanStand 0 (renamed first second name)) kind text
        → lowered_rdata kind (with_names (renamed first second) kind text) ≡ lowered_rdata kind (with_names (renamed first second) kind bad) → ⊥
    unread text bad fields p e o can same =
        let l = low text fields e can in
        not_done p (map (field_with (λ name. lower (renamed first second name))) fields)
        (sym o ∙ ap (rdata_fields kind) (sym (sym l.0 ∙ same ∙ plain bad p o)) ∙ read_changed (λ name. lower (renamed first second name)) kind text fields e l.1)

    by : (r q : Result (List Field) ℕ) → rdata_fields kind rdata ≡ r → rdata_fields kind other ≡ q → lowered_rdata kind rdata ≡ lowered_rdata kind other
    by (Ok fields) (Ok others) e o =
        let l = low rdata fields e can in
        let m = low other others o may in
        with_names-Ok lower kind rdata fields e
        ∙ field_lower first second fields others (none fields e) (never others o)
        (same_changed (λ name. lower (renamed first second name)) (λ name. lower (renamed first second name)) kind rdata other fields others e o l.1 m.1 (sym l.0 ∙ same ∙ m.0))
        ∙ sym (with_names-Ok lower kind other others o)
    by (Ok fields) (Err p) e o = absurd (unread rdata other fields p e o can same)
    by (Err p) (Ok others) e o = absurd (unread other rdata others p o e may (sym same))
    by (Err p) (Err q) e o = ap (lowered_rdata kind) (sym (plain rdata p e) ∙ same ∙ plain other q o)

pub record IsUsable (domain : Labels) (rr : Rr) : Type 0 where
  pub owner : ends_in rr.owner local ≡ true
  pub none : list_any (λ name. ends_in name domain) (rdata_names rr.kind rr.rdata) ≡ false
  pub fit : list_all (λ name. fits_a_name (renamed local domain name)) (rdata_names rr.kind rr.rdata) ≡ true
  pub owner_fits : fits_a_name (renamed local domain rr.owner) ≡ true

pub usable-parts : (domain : Labels) (rr : Rr) → is_usable domain rr ≡ true → IsUsable domain rr
usable-parts domain rr e =
    let both = and_true (is_of_link rr) (is_translatable local domain rr) e in
    let owner = and_true _ (ends_in rr.owner local) both.0 in
    let fit = and_true (not (list_any (λ name. ends_in name domain) (rdata_names rr.kind rr.rdata))) (names_fit local domain rr) both.1 in
    let names = and_true (fits_a_name (renamed local domain rr.owner)) (list_all (λ name. fits_a_name (renamed local domain name)) (rdata_names rr.kind rr.rdata)) fit.1 in
    record { owner = owner.1; none = not_true _ fit.0; fit = names.1; owner_fits = names.0 }

pub shows : (domain : Labels) (rr shown : Rr) → shown_as domain rr ≡ Some shown → renamed_rr local domain rr ≡ shown
shows domain rr shown e = by (is_link_local rr) e
  where
    by : (b : Bool) → cond {A = Option Rr} b None (Some (renamed_rr local domain rr)) ≡ Some shown → renamed_rr local domain rr ≡ shown
    by true e = absurd cc
    by false e = cc

pub shown_by_itself : (domain : Labels) (rr other shown again : Rr) → IsName domain → is_usable domain rr ≡ true → is_usable domain other ≡ true
    → shown_as domain rr ≡ Some shown → shown_as domain other ≡ Some again → key_of shown ≡ key_of again → key_of rr ≡ key_of other
shown_by_itself domain rr other shown again is usable useful e o same =
    let mine = usable-parts domain rr usable in
    let its = usable-parts domain other useful in
    let keys : key_of (renamed_rr local domain rr) ≡ key_of (renamed_rr local domain other) = ap key_of (shows domain rr shown e) ∙ same ∙ sym (ap key_of (shows domain other again o)) in
    let kinds : rr.kind ≡ other.kind = ap (λ (k : Key). k.kind) keys in
    let classes : rr.class ≡ other.class = ap (λ (k : Key). k.class) keys in
    let owners : lower rr.owner ≡ lower other.owner = both_renamed local domain rr.owner other.owner mine.owner its.owner (ap (λ (k : Key). k.owner) keys) in
    let rdata = of_kind domain rr.kind other.kind rr.rdata other.rdata is kinds mine.fit its.fit mine.none its.none (ap (λ (k : Key). k.rdata) keys) in
    (λ i. record { owner = owners i; class = classes i; kind = kinds i; rdata = rdata i })
  where
    of_one : (domain : Labels) (kind : ℕ) (rdata other : List ℕ) → IsName domain
        → list_all (λ name. fits_a_name (renamed local domain name)) (rdata_names kind rdata) ≡ true → list_all (λ name. fits_a_name (renamed local domain name)) (rdata_names kind other) ≡ true
        → list_any (λ name. ends_in name domain) (rdata_names kind rdata) ≡ false → list_any (λ name. ends_in name domain) (rdata_names kind other) ≡ false
        → lowered_rdata kind (with_names (renamed local domain) kind rdata) ≡ lowered_rdata kind (with_names (renamed local domain) kind other) → lowered_rdata kind rdata ≡ lowered_rdata kind other
    of_one domain kind rdata other is fit fits none never same =
        rdata_apart local domain kind rdata other (inside_can local domain is kind rdata fit) (inside_can local domain is kind other fits)
        (inside_none (λ name. ends_in name domain) kind rdata none) (inside_none (λ name. ends_in name domain) kind other never) same

    of_kind : (domain : Labels) (kind others : ℕ) (rdata other : List ℕ) → IsName domain → kind ≡ others
        → list_all (λ name. fits_a_name (renamed local domain name)) (rdata_names kind rdata) ≡ true → list_all (λ name. fits_a_name (renamed local domain name)) (rdata_names others other) ≡ true
        → list_any (λ name. ends_in name domain) (rdata_names kind rdata) ≡ false → list_any (λ name. ends_in name domain) (rdata_names others other) ≡ false
        → lowered_rdata kind (with_names (renamed local domain) kind rdata) ≡ lowered_rdata others (with_names (renamed local domain) others other) → lowered_rdata kind rdata ≡ lowered_rdata others other
    of_kind domain kind others rdata other is kinds =
        subst (λ (k : ℕ). list_all (λ name. fits_a_name (renamed local domain name)) (rdata_names kind rdata) ≡ true → list_all (λ name. fits_a_name (renamed local domain name)) (rdata_names k other) ≡ true
        → list_any (λ name. ends_in name domain) (rdata_names kind rdata) ≡ false → list_any (λ name. ends_in name domain) (rdata_names k other) ≡ false
        → lowered_rdata kind (with_names (renamed local domain) kind rdata) ≡ lowered_rdata k (with_names (renamed local domain) k other) → lowered_rdata kind rdata ≡ lowered_rdata k other) kinds (of_one domain kind rdata other is)

-- ---- what is shown lies under the domain

pub shown_under : (domain : Labels) (rr shown : Rr) → is_usable domain rr ≡ true → shown_as domain rr ≡ Some shown → ends_in shown.owner domain ≡ true
shown_under domain rr shown usable e =
    let mine = usable-parts domain rr usable in
    ap (λ (x : Rr). ends_in x.owner domain) (sym (shows domain rr shown e)) ∙ (ends_in-Decides (renamed local domain rr.owner) domain).1 (renamed_ends local domain rr.owner mine.owner)
