-- The touched part of a zone, change by change.
use Rattle.std.proofs.Common.{◌≡◌, ℕ, ◌+◌, ◌<◌, Bool, true, false, cond, ◌&&◌, ◌||◌, List, [], ◌∷◌, length, get_or, take, filter, refl, sym, ap, ◌∙◌}
use Rattle.std.specs.List.{list_any}
use Rattle.std.specs.Str.{bytes_eq}
use Rattle.std.proofs.lemmas.List.Folds.{list_any_more}
use Rattle.push_base.specs.Cases.{is_empty}
use Rattle.dnsname.specs.Names.{Labels, octets, lower, same_name}
use Rattle.rrset.specs.RecordSet.{RecordSet, at_name, union}
use Rattle.rrset.specs.declared.record.Rr.{Rr}
use Rattle.rrset.specs.declared.record.Key.{Key}
use Rattle.rrset.specs.declared.record.Shown.{Shown}
use Rattle.rrset.proofs.InOrder.{InOrder}
use Rattle.zoneupdate.specs.Touched.{is_touched, part_of}
use Rattle.zoneupdate.proofs.Filters.{and-left, and-right, filter_same, filter_twice, none_pass}
use Rattle.zoneupdate.proofs.Owners.{same_lower}
use Rattle.zoneupdate.proofs.Unions.{union-parts}

or_assoc : (a b c : Bool) → (a || (b || c)) ≡ ((a || b) || c)
or_assoc true b c = refl
or_assoc false b c = refl

or_false : (b : Bool) → (b || false) ≡ b
or_false true = refl
or_false false = refl

-- with no change, the apex alone is touched
pub touched-none : (apex : Labels) (rows : RecordSet) → InOrder rows → union [] (at_name apex rows) ≡ part_of apex [] rows
touched-none apex rows order =
    ap (λ (set : RecordSet). union set (at_name apex rows)) (sym (none_pass (λ (e : Key × Shown). false) (λ e. refl) rows))
    ∙ union-parts (λ key. false) (λ key. same_name apex key.owner) rows order
    ∙ filter_same (λ e. same_name apex e.0.owner) (λ e. is_touched apex [] e.0) (λ e. sym (or_false (same_name apex e.0.owner))) rows

module _ (apex : Labels) (changes : List Rr) (i : ℕ) (rr : Rr) (h : i < length changes) (is : rr ≡ get_or changes i rr) where
  pub is_touched-more : (key : Key) → is_touched apex (take (i + 1) changes) key ≡ (is_touched apex (take i changes) key || same_name rr.owner key.owner)
  is_touched-more key =
      ap (λ b. same_name apex key.owner || b) (list_any_more (λ (x : Rr). same_name x.owner key.owner) changes i rr h)
      ∙ ap (λ (x : Rr). same_name apex key.owner || (list_any (λ (y : Rr). same_name y.owner key.owner) (take i changes) || same_name x.owner key.owner)) (sym is)
      ∙ or_assoc (same_name apex key.owner) (list_any (λ (x : Rr). same_name x.owner key.owner) (take i changes)) (same_name rr.owner key.owner)

  -- the records of the next change's owner are copied
  pub touched-copied : (rows part now : RecordSet) → InOrder rows → part ≡ part_of apex (take i changes) rows → now ≡ union part (at_name rr.owner rows)
      → now ≡ part_of apex (take (i + 1) changes) rows
  touched-copied rows part now order so_far copied =
      copied ∙ ap (λ (set : RecordSet). union set (at_name rr.owner rows)) so_far
      ∙ union-parts (is_touched apex (take i changes)) (λ key. same_name rr.owner key.owner) rows order
      ∙ filter_same (λ e. is_touched apex (take i changes) e.0 || same_name rr.owner e.0.owner) (λ e. is_touched apex (take (i + 1) changes) e.0) (λ e. sym (is_touched-more e.0)) rows

-- what is touched goes by the owner in lower case
abbrev pub is_touched_low : Labels → List Rr → Labels → Bool
is_touched_low apex changes low = bytes_eq (octets (lower apex)) (octets low) || list_any (λ rr. bytes_eq (octets (lower rr.owner)) (octets low)) changes

touched-alike : (apex : Labels) (changes : List Rr) (name : Labels) (k l : Key) → same_name name k.owner ≡ true → same_name name l.owner ≡ true → is_touched apex changes k ≡ is_touched apex changes l
touched-alike apex changes name k l e f = ap (is_touched_low apex changes) (sym (same_lower name k.owner e) ∙ same_lower name l.owner f)

some_of : (p : Key × Shown → Bool) (set : RecordSet) → is_empty (filter p set) ≡ false → (e : Key × Shown) × (p e ≡ true)
some_of p [] h = absurd cc
some_of p (e ∷ es) h = by (p e) refl h (some_of p es)
  where
    by : (b : Bool) → p e ≡ b → is_empty (cond b (e ∷ filter p es) (filter p es)) ≡ false → (is_empty (filter p es) ≡ false → (e : Key × Shown) × (p e ≡ true)) → (e : Key × Shown) × (p e ≡ true)
    by true is h rest = (e, is)
    by false is h rest = rest h

module _ (apex : Labels) (changes : List Rr) (i : ℕ) (rr : Rr) (h : i < length changes) (is : rr ≡ get_or changes i rr) where
  -- the records of the next change's owner are there already
  pub touched-there : (rows part : RecordSet) → part ≡ part_of apex (take i changes) rows → is_empty (at_name rr.owner part) ≡ false
      → part ≡ part_of apex (take (i + 1) changes) rows
  touched-there rows part so_far some =
      so_far ∙ filter_same (λ e. is_touched apex (take i changes) e.0) (λ e. is_touched apex (take (i + 1) changes) e.0) (λ e. sym (is_touched-more apex changes i rr h is e.0 ∙ covered e.0 (same_name rr.owner e.0.owner) refl)) rows
    where
      one : (e : Key × Shown) × ((same_name rr.owner e.0.owner && is_touched apex (take i changes) e.0) ≡ true)
      one = some_of (λ e. same_name rr.owner e.0.owner && is_touched apex (take i changes) e.0) rows
          (ap is_empty (sym (filter_twice (λ (e : Key × Shown). same_name rr.owner e.0.owner) (λ e. is_touched apex (take i changes) e.0) rows))
          ∙ ap (λ (set : RecordSet). is_empty (at_name rr.owner set)) (sym so_far) ∙ some)

      covered : (key : Key) (b : Bool) → same_name rr.owner key.owner ≡ b → (is_touched apex (take i changes) key || b) ≡ is_touched apex (take i changes) key
      covered key true same =
          let there = touched-alike apex (take i changes) rr.owner key one.0.0 same (and-left _ _ one.1) ∙ and-right _ _ one.1 in
          ap (λ b. b || true) there ∙ sym there
      covered key false same = or_false (is_touched apex (take i changes) key)
