-- A record that is whole stays so under the domain: its owner is a name, and its rdata has the shape of its kind and fewer than 2^16 octets.
--     renamed-name      a renamed name is a name if it fits
--     most parts, shape-sort      the most octets of parts without strings; the shapes by whether they have strings
--     renamed-short, renamed-fits      renamed rdata is short, and has its shape
--     IsWhole rr      the record is whole
--     shown-whole      what is shown of a usable record that is whole is whole, of class IN and of its kind and TTL (IsShownSo)
use Rattle.std.proofs.Common.{◌≡◌, ℕ, ◌+◌, ◌^◌, ◌<◌, ◌≤◌, Bool, true, false, cond, eqb, not, ◌&&◌, List, [], ◌∷◌, ◌++◌, length, Option, Some, None, Result, Ok, Err, is_ok, refl, sym, ap, subst, ◌∙◌, arith}
use Rattle.std.specs.Prelude.{◌==◌, flat_map}
use Rattle.std.specs.List.{AllByRecursion, list_all}
use Rattle.std.proofs.lemmas.Bool.{leb-true}
use Rattle.std.proofs.lemmas.List.{append-nil, length-append}
use Rattle.push_base.specs.Cases.{chosen}
use Rattle.dnsname.specs.Names.{Labels, IsLabel, IsName, max_name, octets, ends_in}
use Rattle.dnsname.specs.Reading.{plain_name_at}
use Rattle.dnsname.proofs.Decisions.{and_true, ends_in-Decides}
use Rattle.rrset.specs.Kinds.{in_class, a_kind, ns_kind, cname_kind, soa_kind, ptr_kind, mx_kind, txt_kind, aaaa_kind, srv_kind, nsec_kind, is_meta}
use Rattle.rrset.specs.Rdata.{Part, some_octets, one_name, strings, are_strings, Field, raw, named, with_field, field_octets, field_with, fields_from, shape, rdata_fields, rdata_names, with_names, shape_fits}
use Rattle.rrset.specs.declared.record.Rr.{Rr}
use Rattle.rrset.proofs.ReadBack.{HasParts, fields_done, same_done, not_done, fields-have}
use Rattle.linkmap.specs.Translation.{local, renamed, fits_a_name, is_of_link, is_translatable, is_usable, shown_as}
use Rattle.linkmap.proofs.Suffixes.{renamed-front, renamed-other}
use Rattle.linkmap.proofs.Changed.{OnNames, fields_as, fields_as-is, with_names-Ok, with_names-Err, read_changed}
use Rattle.linkmap.proofs.Shown.{inside_all, inside_can, usable-parts, shows}

-- ---- names

labels-front : (front last : Labels) → AllByRecursion IsLabel (front ++ last) → AllByRecursion IsLabel front
labels-front [] last h = tt
labels-front (label ∷ front) last h = (h.0, labels-front front last h.1)

labels-both : (front last : Labels) → AllByRecursion IsLabel front → AllByRecursion IsLabel last → AllByRecursion IsLabel (front ++ last)
labels-both [] last h k = k
labels-both (label ∷ front) last h k = (h.0, labels-both front last h.1 k)

pub renamed-name : (old new name : Labels) → IsName new → IsName name → fits_a_name (renamed old new name) ≡ true → IsName (renamed old new name)
renamed-name old new name is_new is fits = record { labels = by (ends_in name old) refl; size = leb-true (length (octets (renamed old new name))) max_name fits }
  where
    by : (b : Bool) → ends_in name old ≡ b → AllByRecursion IsLabel (renamed old new name)
    by false other = subst (AllByRecursion IsLabel) (sym (renamed-other old new name other)) is.labels
    by true ends =
        let a = (ends_in-Decides name old).0 ends in
        subst (AllByRecursion IsLabel) (sym (ap (renamed old new) a.2 ∙ renamed-front old new a.0 a.1 a.3))
        (labels-both a.0 new (labels-front a.0 a.1 (subst (AllByRecursion IsLabel) a.2 is.labels)) is_new.labels)

-- ---- the most octets of a shape

abbrev pub most : List Part → ℕ
most [] = 0
most (some_octets n ∷ parts) = n + most parts
most (one_name ∷ parts) = max_name + most parts
most (strings ∷ parts) = most parts

-- parts without strings, or strings alone
abbrev pub IsPlain : List Part → Type 0
IsPlain [] = Unit {0}
IsPlain (some_octets n ∷ parts) = IsPlain parts
IsPlain (one_name ∷ parts) = IsPlain parts
IsPlain (strings ∷ parts) = ⊥

-- no shape; no strings, and at most two names of 255 octets with 20 others; or strings alone
pub data Sort (o : Option (List Part)) : Type 0 where
  opaque : o ≡ None → Sort o
  plain : (parts : List Part) → o ≡ Some parts → IsPlain parts → most parts ≤ 530 → Sort o
  text : o ≡ Some (strings ∷ []) → Sort o

abbrev Sorts : List (Bool × Option (List Part)) → Type 0
Sorts [] = Unit {0}
Sorts (c ∷ cases) = Sort c.1 × Sorts cases

chosen_sort : (cases : List (Bool × Option (List Part))) → Sorts cases → Sort (chosen cases None)
chosen_sort [] h = opaque refl
chosen_sort ((true, o) ∷ cases) h = h.0
chosen_sort ((false, o) ∷ cases) h = chosen_sort cases h.1

pub shape-sort : (kind : ℕ) → Sort (shape kind)
shape-sort kind =
    let v4 : Sort (Some (some_octets 4 ∷ [])) = plain _ refl tt (omega arith) in
    let v6 : Sort (Some (some_octets 16 ∷ [])) = plain _ refl tt (omega arith) in
    let name : Sort (Some (one_name ∷ [])) = plain _ refl tt (omega arith) in
    let mx : Sort (Some (some_octets 2 ∷ one_name ∷ [])) = plain _ refl tt (omega arith) in
    let srv : Sort (Some (some_octets 6 ∷ one_name ∷ [])) = plain _ refl tt (omega arith) in
    let soa : Sort (Some (one_name ∷ one_name ∷ some_octets 20 ∷ [])) = plain _ refl tt (omega arith) in
    chosen_sort (
    (kind == a_kind, Some (some_octets 4 ∷ []))
    ∷ (kind == aaaa_kind, Some (some_octets 16 ∷ []))
    ∷ (kind == ns_kind, Some (one_name ∷ []))
    ∷ (kind == cname_kind, Some (one_name ∷ []))
    ∷ (kind == ptr_kind, Some (one_name ∷ []))
    ∷ (kind == mx_kind, Some (some_octets 2 ∷ one_name ∷ []))
    ∷ (kind == srv_kind, Some (some_octets 6 ∷ one_name ∷ []))
    ∷ (kind == soa_kind, Some (one_name ∷ one_name ∷ some_octets 20 ∷ []))
    ∷ (kind == txt_kind, Some (strings ∷ []))
    ∷ []) (v4, (v6, (name, (name, (name, (mx, (srv, (soa, (text refl, tt)))))))))

-- ---- rdata with changed names

abbrev changed : (Labels → Labels) → List Field → List ℕ
changed f fields = flat_map (λ field. field_octets (field_with f field)) fields

-- names that fit, in parts without strings
few-octets : (f : Labels → Labels) (parts : List Part) (fields : List Field) → IsPlain parts → HasParts parts fields → OnNames (λ name. fits_a_name (f name) ≡ true) fields → length (changed f fields) ≤ most parts
few-octets f [] [] is h fit = omega arith
few-octets f [] (field ∷ fields) is h fit = absurd h
few-octets f (some_octets n ∷ parts) [] is h fit = absurd h
few-octets f (one_name ∷ parts) [] is h fit = absurd h
few-octets f (strings ∷ parts) fields is h fit = absurd is
few-octets f (some_octets n ∷ parts) (raw bytes ∷ fields) is h fit =
    let rest = few-octets f parts fields is h.1 fit.1 in
    omega (arith, rest, h.0, length-append bytes (changed f fields))
few-octets f (some_octets n ∷ parts) (named name ∷ fields) is h fit = absurd h
few-octets f (one_name ∷ parts) (raw bytes ∷ fields) is h fit = absurd h
few-octets f (one_name ∷ parts) (named name ∷ fields) is h fit =
    let rest = few-octets f parts fields is h.1 fit.1 in
    let one = leb-true (length (octets (f name))) max_name fit.0 in
    omega (arith, rest, one, length-append (octets (f name)) (changed f fields))

-- strings stay as they are
text-kept : (f : Labels → Labels) (rdata : List ℕ) (fields : List Field) → fields_from plain_name_at (strings ∷ []) rdata 0 ≡ fields_done fields → changed f fields ≡ rdata
text-kept f rdata fields e = by (are_strings 0 rdata) (eqb (length rdata) (length rdata)) e
  where
    by : (a b : Bool) → cond a (with_field (raw rdata) (cond {A = Result (List Field) ℕ} b (Ok []) (Err (length rdata)))) (Err (length rdata)) ≡ fields_done fields → changed f fields ≡ rdata
    by true true e = ap (changed f) (sym (same_done (raw rdata ∷ []) fields e)) ∙ append-nil rdata
    by true false e = absurd (not_done (length rdata) fields e)
    by false b e = absurd (not_done (length rdata) fields e)

short-as : (o : Option (List Part)) → Sort o → (f : Labels → Labels) (rdata : List ℕ) (fields : List Field) → fields_as o rdata ≡ fields_done fields → OnNames (λ name. fits_a_name (f name) ≡ true) fields → length rdata < 2 ^ 16
    → length (changed f fields) < 2 ^ 16
short-as o (opaque is) f rdata fields e fit short =
    let whole : fields_done (raw rdata ∷ []) ≡ fields_done fields = ap (λ (o : Option (List Part)). fields_as o rdata) (sym is) ∙ e in
    let kept : changed f fields ≡ rdata = ap (changed f) (sym (same_done (raw rdata ∷ []) fields whole)) ∙ append-nil rdata in
    subst (λ (l : List ℕ). length l < 2 ^ 16) (sym kept) short
short-as o (plain parts is no_strings few) f rdata fields e fit short =
    let read : fields_from plain_name_at parts rdata 0 ≡ fields_done fields = ap (λ (o : Option (List Part)). fields_as o rdata) (sym is) ∙ e in
    let octets_few = few-octets f parts fields no_strings (fields-have parts rdata 0 fields read) fit in
    omega (arith, octets_few, few)
short-as o (text is) f rdata fields e fit short =
    let read : fields_from plain_name_at (strings ∷ []) rdata 0 ≡ fields_done fields = ap (λ (o : Option (List Part)). fields_as o rdata) (sym is) ∙ e in
    subst (λ (l : List ℕ). length l < 2 ^ 16) (sym (text-kept f rdata fields read)) short

module _ (old new : Labels) (is : IsName new) (kind : ℕ) (rdata : List ℕ) (fit : list_all (λ name. fits_a_name (renamed old new name)) (rdata_names kind rdata) ≡ true) where
  -- renamed rdata is short where it was
  pub renamed-short : length rdata < 2 ^ 16 → length (with_names (renamed old new) kind rdata) < 2 ^ 16
  renamed-short short = by (rdata_fields kind rdata) refl
    where
      by : (r : Result (List Field) ℕ) → rdata_fields kind rdata ≡ r → length (with_names (renamed old new) kind rdata) < 2 ^ 16
      by (Err p) e = subst (λ (l : List ℕ). length l < 2 ^ 16) (sym (with_names-Err (renamed old new) kind rdata p e)) short
      by (Ok fields) e =
          subst (λ (l : List ℕ). length l < 2 ^ 16) (sym (with_names-Ok (renamed old new) kind rdata fields e))
          (short-as (shape kind) (shape-sort kind) (renamed old new) rdata fields (sym (fields_as-is kind rdata) ∙ e) (inside_all (λ name. fits_a_name (renamed old new name)) kind rdata fit fields e) short)

  -- and has the shape of its kind
  pub renamed-fits : shape_fits kind rdata ≡ true → shape_fits kind (with_names (renamed old new) kind rdata) ≡ true
  renamed-fits fits = by (rdata_fields kind rdata) refl fits
    where
      by : (r : Result (List Field) ℕ) → rdata_fields kind rdata ≡ r → is_ok r ≡ true → shape_fits kind (with_names (renamed old new) kind rdata) ≡ true
      by (Err p) e ok = absurd cc
      by (Ok fields) e ok = ap (λ (r : Result (List Field) ℕ). is_ok r) (read_changed (renamed old new) kind rdata fields e (inside_can old new is kind rdata fit fields e))

-- ---- what is shown of a record

pub record IsWhole (rr : Rr) : Type 0 where
  pub owner : IsName rr.owner
  pub shape : shape_fits rr.kind rr.rdata ≡ true
  pub short : length rr.rdata < 2 ^ 16

pub record IsShownSo (rr shown : Rr) : Type 0 where
  pub whole : IsWhole shown
  pub class : (shown.class == in_class) ≡ true
  pub no_meta : is_meta shown.kind ≡ false
  pub kind : shown.kind ≡ rr.kind
  pub ttl : shown.ttl ≡ rr.ttl

not_meta : (b : Bool) → not b ≡ true → b ≡ false
not_meta true e = absurd cc
not_meta false e = refl

pub shown-whole : (domain : Labels) (rr shown : Rr) → IsName domain → is_usable domain rr ≡ true → IsWhole rr → shown_as domain rr ≡ Some shown → IsShownSo rr shown
shown-whole domain rr shown is usable whole e =
    let parts = usable-parts domain rr usable in
    let of_link = (and_true (is_of_link rr) (is_translatable local domain rr) usable).0 in
    let kinds = (and_true (rr.class == in_class && not (rr.kind == nsec_kind) && not (is_meta rr.kind)) (ends_in rr.owner local) of_link).0 in
    let meta = and_true (rr.class == in_class && not (rr.kind == nsec_kind)) (not (is_meta rr.kind)) kinds in
    let class = (and_true (rr.class == in_class) (not (rr.kind == nsec_kind)) meta.0).0 in
    subst (IsShownSo rr) (shows domain rr shown e) (record {
      whole = record {
        owner = renamed-name local domain rr.owner is whole.owner parts.owner_fits;
        shape = renamed-fits local domain is rr.kind rr.rdata parts.fit whole.shape;
        short = renamed-short local domain is rr.kind rr.rdata parts.fit whole.short;
      };
      class = class;
      no_meta = not_meta (is_meta rr.kind) meta.1;
      kind = refl;
      ttl = refl;
    })
