-- What is shown of a record is heard as one with the record's key, if the domain doesn't end in `local.`
--     stays_apart      a name that doesn't end in the domain doesn't end in `local.` under it
--     heard_of_shown      what is shown is heard
use Rattle.std.proofs.Common.{◌≡◌, ℕ, suc, ◌≤◌, Bool, true, false, cond, not, ◌&&◌, ◌||◌, List, [], ◌∷◌, ◌++◌, length, map, Option, Some, None, Result, Ok, Err, refl, sym, ap, subst, ◌∙◌, arith}
use Rattle.std.specs.Prelude.{flat_map, option_map}
use Rattle.std.specs.List.{list_any, list_all}
use Rattle.std.specs.Char.{to_ascii_lowercase}
use Rattle.std.proofs.lemmas.Bool.{le-leb}
use Rattle.std.proofs.lemmas.List.{append-nil, length-append, length-map}
use Rattle.dnsname.specs.Names.{Labels, IsName, EndsIn, max_name, octets, lower, ends_in}
use Rattle.dnsname.proofs.Decisions.{ends_in-Decides}
use Rattle.dnsname.proofs.ReadAgain.{CanStand}
use Rattle.rrset.specs.Records.{key_of}
use Rattle.rrset.specs.Rdata.{Field, raw, named, field_names, field_with, rdata_fields, rdata_names, with_names}
use Rattle.rrset.specs.declared.record.Rr.{Rr}
use Rattle.linkmap.specs.Translation.{local, renamed, renamed_rr, fits_a_name, is_translatable, is_usable, is_link_local, shown_as, heard_as}
use Rattle.linkmap.proofs.Suffixes.{renamed-front, renamed-other, there_and_back, renamed_ends, can-size, can-as, fits-as}
use Rattle.linkmap.proofs.Changed.{OnNames, names_map, names_both, can-names, with_names-Err, read_changed}
use Rattle.linkmap.proofs.Shown.{Inside, names_in, inside_none, inside_can, rdata_back, local_kept, usable-parts, shows}
use Rattle.linkmap.proofs.OneKey.{heard_as_one}

-- ---- names under the domain

-- a name of two labels or more ends in `local.` only if its rest does
shorter : (first : List ℕ) (rest front last : Labels) → 1 ≤ length rest → first ∷ rest ≡ front ++ last → lower last ≡ lower local → EndsIn rest local
shorter first rest [] last some parts same =
    let one : length last ≡ 1 = sym (length-map last (map to_ascii_lowercase)) ∙ ap length same in
    let more : suc (length rest) ≡ length last = ap length parts in
    let never : ⊥ = omega (arith, some, one, more) in
    absurd never
shorter first rest (label ∷ front) last some parts same =
    let left : rest ≡ front ++ last = cc in
    (front, last, left, same)

last_ends : (front : Labels) (label : List ℕ) (rest : Labels) → EndsIn (front ++ label ∷ rest) local → EndsIn (label ∷ rest) local
last_ends [] label rest ends = ends
last_ends (first ∷ front) label rest ends =
    let some : 1 ≤ length (front ++ label ∷ rest) = omega (arith, length-append front (label ∷ rest)) in
    last_ends front label rest (shorter first (front ++ label ∷ rest) ends.0 ends.1 some ends.2 ends.3)

-- no name that is under the domain ends in `local.`; every name ends in the root
outside : (domain front name : Labels) → ends_in domain local ≡ false → ends_in name domain ≡ false → EndsIn (front ++ domain) local → ⊥
outside [] front name apart other ends =
    let every = (ends_in-Decides name []).1 (name, [], sym (append-nil name), refl) in
    cc
outside (label ∷ domain) front name apart other ends =
    let same = (ends_in-Decides (label ∷ domain) local).1 (last_ends front label domain ends) in
    cc

pub stays_apart : (domain name : Labels) → ends_in domain local ≡ false → ends_in name domain ≡ false → ends_in (renamed local domain name) local ≡ false
stays_apart domain name apart other = by (ends_in name local) refl
  where
    moved : ends_in name local ≡ true → (b : Bool) → ends_in (renamed local domain name) local ≡ b → b ≡ false
    moved is false e = refl
    moved is true e =
        let a = (ends_in-Decides name local).0 is in
        let there : renamed local domain name ≡ a.0 ++ domain = ap (renamed local domain) a.2 ∙ renamed-front local domain a.0 a.1 a.3 in
        absurd (outside domain a.0 name apart other (subst (λ n. EndsIn n local) there ((ends_in-Decides (renamed local domain name) local).0 e)))

    by : (b : Bool) → ends_in name local ≡ b → ends_in (renamed local domain name) local ≡ false
    by true is = moved is (ends_in (renamed local domain name) local) refl
    by false is = ap (λ n. ends_in n local) (renamed-other local domain name is) ∙ is

-- ---- tests of the names inside changed rdata

any_changed : (p : Labels → Bool) (f : Labels → Labels) (fields : List Field) → OnNames (λ name. p (f name) ≡ false) fields → list_any p (flat_map field_names (map (field_with f) fields)) ≡ false
any_changed p f [] h = refl
any_changed p f (raw bytes ∷ fields) h = any_changed p f fields h.1
any_changed p f (named name ∷ fields) h = (λ i. h.0 i || any_changed p f fields h.1 i)

all_changed : (p : Labels → Bool) (f : Labels → Labels) (fields : List Field) → OnNames (λ name. p (f name) ≡ true) fields → list_all p (flat_map field_names (map (field_with f) fields)) ≡ true
all_changed p f [] h = refl
all_changed p f (raw bytes ∷ fields) h = all_changed p f fields h.1
all_changed p f (named name ∷ fields) h = (λ i. h.0 i && all_changed p f fields h.1 i)

module _ (p : Labels → Bool) (f : Labels → Labels) (kind : ℕ) (rdata : List ℕ) (can : Inside (λ name. CanStand 0 (f name)) kind rdata) where
  pub none_changed : Inside (λ name. p (f name) ≡ false) kind rdata → list_any p (rdata_names kind (with_names f kind rdata)) ≡ false
  unfolding names_in
  none_changed none = by (rdata_fields kind rdata) refl
    where
      by : (r : Result (List Field) ℕ) → rdata_fields kind rdata ≡ r → list_any p (names_in (rdata_fields kind (with_names f kind rdata))) ≡ false
      by (Ok fields) e = ap (λ (r : Result (List Field) ℕ). list_any p (names_in r)) (read_changed f kind rdata fields e (can fields e)) ∙ any_changed p f fields (none fields e)
      by (Err q) e = ap (λ (r : Result (List Field) ℕ). list_any p (names_in r)) (ap (rdata_fields kind) (with_names-Err f kind rdata q e) ∙ e)

  pub each_changed : Inside (λ name. p (f name) ≡ true) kind rdata → list_all p (rdata_names kind (with_names f kind rdata)) ≡ true
  unfolding names_in
  each_changed each = by (rdata_fields kind rdata) refl
    where
      by : (r : Result (List Field) ℕ) → rdata_fields kind rdata ≡ r → list_all p (names_in (rdata_fields kind (with_names f kind rdata))) ≡ true
      by (Ok fields) e = ap (λ (r : Result (List Field) ℕ). list_all p (names_in r)) (read_changed f kind rdata fields e (can fields e)) ∙ all_changed p f fields (each fields e)
      by (Err q) e = ap (λ (r : Result (List Field) ℕ). list_all p (names_in r)) (ap (rdata_fields kind) (with_names-Err f kind rdata q e) ∙ e)

-- ---- what is shown is heard

not_hidden : (domain : Labels) (rr shown : Rr) → shown_as domain rr ≡ Some shown → is_link_local rr ≡ false
not_hidden domain rr shown e = by (is_link_local rr) e
  where
    by : (b : Bool) → cond {A = Option Rr} b None (Some (renamed_rr local domain rr)) ≡ Some shown → b ≡ false
    by true e = absurd cc
    by false e = refl

heard-is : (domain : Labels) (rr : Rr) → ends_in rr.owner domain ≡ true → is_translatable domain local rr ≡ true → is_link_local rr ≡ false → heard_as domain rr ≡ Some (renamed_rr domain local rr)
heard-is domain rr under fits out = (λ i. cond {A = Option Rr} (not (under i)) None (cond {A = Option Rr} (not (fits i)) None (cond {A = Option Rr} (out i) None (Some (renamed_rr domain local rr)))))

heard_of_shown : (domain : Labels) (rr : Rr) → IsName domain → ends_in domain local ≡ false → fits_a_name rr.owner ≡ true → is_usable domain rr ≡ true → is_link_local rr ≡ false
    → option_map key_of (heard_as domain (renamed_rr local domain rr)) ≡ Some (key_of rr)
heard_of_shown domain rr is apart fits usable out =
    let u = usable-parts domain rr usable in
    let there : Inside (λ name. CanStand 0 (renamed local domain name)) rr.kind rr.rdata = inside_can local domain is rr.kind rr.rdata u.fit in
    let other : Inside (λ name. ends_in name domain ≡ false) rr.kind rr.rdata = inside_none (λ name. ends_in name domain) rr.kind rr.rdata u.none in
    let back : Inside (λ name. CanStand 0 (renamed domain local (renamed local domain name))) rr.kind rr.rdata =
    λ fields e. names_map (λ name. CanStand 0 name × (ends_in name domain ≡ false)) (λ name. CanStand 0 (renamed domain local (renamed local domain name))) (λ name k. comes_back name k.0 k.1) fields (known other fields e) in
    let fit : Inside (λ name. fits_a_name (renamed domain local (renamed local domain name)) ≡ true) rr.kind rr.rdata =
    λ fields e. names_map (λ name. CanStand 0 name × (ends_in name domain ≡ false)) (λ name. fits_a_name (renamed domain local (renamed local domain name)) ≡ true) (λ name k. fits_back name k.0 k.1) fields (known other fields e) in
    let outer : Inside (λ name. ends_in (renamed local domain name) local ≡ false) rr.kind rr.rdata =
    λ fields e. names_map (λ name. ends_in name domain ≡ false) (λ name. ends_in (renamed local domain name) local ≡ false) (λ name k. stays_apart domain name apart k) fields (other fields e) in
    let owner : lower (renamed domain local (renamed local domain rr.owner)) ≡ lower rr.owner = there_and_back local domain rr.owner (λ no_. let yes_ = u.owner in absurd cc) in
    let owner_fits : fits_a_name (renamed domain local (renamed local domain rr.owner)) ≡ true = fits-as (renamed domain local (renamed local domain rr.owner)) rr.owner owner ∙ fits in
    let none = none_changed (λ name. ends_in name local) (renamed local domain) rr.kind rr.rdata there outer in
    let all = each_changed (λ name. fits_a_name (renamed domain local name)) (renamed local domain) rr.kind rr.rdata there fit in
    let under : ends_in (renamed local domain rr.owner) domain ≡ true = (ends_in-Decides (renamed local domain rr.owner) domain).1 (renamed_ends local domain rr.owner u.owner) in
    let rdata = rdata_back local domain rr.kind rr.rdata there back other in
    let kept : is_link_local (renamed_rr local domain rr) ≡ false = local_kept (renamed local domain) rr out in
    ap (option_map key_of) (heard-is domain (renamed_rr local domain rr) under (λ i. not (none i) && (owner_fits i && all i)) kept)
    ∙ (λ i. Some (record { owner = owner i; class = rr.class; kind = rr.kind; rdata = rdata i }))
  where
    known : Inside (λ name. ends_in name domain ≡ false) rr.kind rr.rdata → Inside (λ name. CanStand 0 name × (ends_in name domain ≡ false)) rr.kind rr.rdata
    known other fields e = names_both (CanStand 0) (λ name. ends_in name domain ≡ false) fields (can-names rr.kind rr.rdata fields e) (other fields e)

    comes_back : (name : Labels) → CanStand 0 name → ends_in name domain ≡ false → CanStand 0 (renamed domain local (renamed local domain name))
    comes_back name can other = can-as (renamed domain local (renamed local domain name)) name (there_and_back local domain name (λ _. other)) can

    fits_back : (name : Labels) → CanStand 0 name → ends_in name domain ≡ false → fits_a_name (renamed domain local (renamed local domain name)) ≡ true
    fits_back name can other =
        fits-as (renamed domain local (renamed local domain name)) name (there_and_back local domain name (λ _. other))
        ∙ le-leb (length (octets name)) max_name (omega (arith, can-size 0 name (omega arith) can))

pub shown_is_heard : (domain : Labels) (rr shown back : Rr) → IsName domain → ends_in domain local ≡ false → fits_a_name rr.owner ≡ true → is_usable domain rr ≡ true
    → shown_as domain rr ≡ Some shown → key_of back ≡ key_of shown → option_map key_of (heard_as domain back) ≡ Some (key_of rr)
shown_is_heard domain rr shown back is apart fits usable e same =
    let keys : key_of back ≡ key_of (renamed_rr local domain rr) = same ∙ sym (ap key_of (shows domain rr shown e)) in
    heard_as_one domain back (renamed_rr local domain rr) keys ∙ heard_of_shown domain rr is apart fits usable (not_hidden domain rr shown e)
