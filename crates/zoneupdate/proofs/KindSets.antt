-- The records of a kind among those of a name, and the sets that prerequisites of class IN name.
use Rattle.std.proofs.Common.{◌≡◌, ℕ, Bool, true, false, cond, not, ◌&&◌, ◌||◌, List, [], ◌∷◌, filter, refl, sym, ap, ◌∙◌}
use Rattle.std.specs.Prelude.{◌==◌}
use Rattle.std.specs.List.{list_any}
use Rattle.std.proofs.lemmas.Bool.{eq-eqb, eqb-true}
use Rattle.push_base.specs.Cases.{is_empty}
use Rattle.dnsname.specs.Names.{Labels, octets, lower, same_name}
use Rattle.std.specs.Str.{bytes_eq}
use Rattle.rrset.specs.Kinds.{in_class}
use Rattle.rrset.specs.Records.{key_of}
use Rattle.rrset.specs.RecordSet.{RecordSet, only, at_name, set_of, is_of_rrset}
use Rattle.rrset.specs.declared.record.Rr.{Rr}
use Rattle.rrset.specs.declared.record.Key.{Key}
use Rattle.rrset.proofs.Selected.{only-set_of}
use Rattle.zoneupdate.specs.Zones.{set_at}
use Rattle.zoneupdate.specs.Checking.{is_in, is_of_kind}
use Rattle.zoneupdate.specs.Updates.{set_wanted}
use Rattle.zoneupdate.proofs.Filters.{filter_same, filter_twice, same_truth}
use Rattle.zoneupdate.proofs.Owners.{same_name-back}
use Rattle.rrset.proofs.LowerNames.{lower-twice}

pub set_at-named : (owner : Labels) (kind : ℕ) (rows : RecordSet) → set_at owner kind rows ≡ only (is_of_kind kind) (at_name owner rows)
set_at-named owner kind [] = refl
set_at-named owner kind (e ∷ es) = by (set_at-named owner kind es) (same_name owner e.0.owner)
  where
    by : set_at owner kind es ≡ only (is_of_kind kind) (at_name owner es) → (a : Bool) → cond ((a && in_class == e.0.class) && kind == e.0.kind) (e ∷ set_at owner kind es) (set_at owner kind es) ≡ only (is_of_kind kind) (cond a (e ∷ at_name owner es) (at_name owner es))
    by rest true = ap (λ set. cond (is_of_kind kind e.0) (e ∷ set) set) rest
    by rest false = rest

pub any-only : (p : Key → Bool) (rows : RecordSet) → list_any (λ e. p e.0) rows ≡ not (is_empty (only p rows))
any-only p [] = refl
any-only p (e ∷ es) = by (any-only p es) (p e.0)
  where
    by : list_any (λ e. p e.0) es ≡ not (is_empty (only p es)) → (b : Bool) → (b || list_any (λ e. p e.0) es) ≡ not (is_empty (cond b (e ∷ only p es) (only p es)))
    by rest true = refl
    by rest false = rest

-- ---- what prerequisites of class IN ask for

pub equal-turned : (m n : ℕ) → (m == n) ≡ (n == m)
equal-turned m n = same_truth (m == n) (n == m) (λ h. eq-eqb n m (sym (eqb-true m n h))) (λ h. eq-eqb m n (sym (eqb-true n m h)))

owner-turned : (a b : Labels) → same_name a (lower b) ≡ same_name b a
owner-turned a b =
    ap (λ (n : Labels). bytes_eq (octets (lower a)) (octets n)) (lower-twice b)
    ∙ same_truth (same_name a b) (same_name b a) (same_name-back a b) (same_name-back b a)

four : (a a' b b' c c' : Bool) → a ≡ a' → b ≡ b' → c ≡ c' → (((a && b) && c) && b') ≡ ((b' && a') && c')
four a a' b b' c c' e f g =
    ap (λ x. ((x && b) && c) && b') e ∙ ap (λ x. ((a' && x) && c) && b') f ∙ ap (λ x. ((a' && b') && x) && b') g ∙ by a' b' c'
  where
    by : (a b c : Bool) → (((a && b) && c) && b) ≡ ((b && a) && c)
    by true true true = refl
    by true true false = refl
    by true false c = refl
    by false true c = refl
    by false false c = refl

-- the set of an owner and kind among all that they ask for is what those of this owner and kind ask for
pub wanted-set : (prereqs : List Rr) (rr : Rr) → set_at rr.owner rr.kind (set_of (filter is_in prereqs)) ≡ set_wanted prereqs rr
wanted-set prereqs rr =
    only-set_of (is_of_rrset rr.owner in_class rr.kind) (filter is_in prereqs)
    ∙ ap set_of (filter_twice (λ p. is_of_rrset rr.owner in_class rr.kind (key_of p)) is_in prereqs
    ∙ filter_same (λ p. is_of_rrset rr.owner in_class rr.kind (key_of p) && is_in p) (λ p. p.class == in_class && same_name p.owner rr.owner && p.kind == rr.kind)
    (λ p. four (same_name rr.owner (lower p.owner)) (same_name p.owner rr.owner) (in_class == p.class) (p.class == in_class) (rr.kind == p.kind) (p.kind == rr.kind)
    (owner-turned rr.owner p.owner) (equal-turned in_class p.class) (equal-turned rr.kind p.kind)) prereqs)
