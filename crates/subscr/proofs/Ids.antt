-- A set of IDs, one more and one less.
use Rattle.std.proofs.Common.{◌≡◌, ℕ, Bool, true, false, cond, refl, sym, ap, ◌∙◌}
use Rattle.std.specs.Prelude.{◌==◌}
use Rattle.std.specs.List.{list_any}
use Rattle.std.specs.Ordering.{nat_cmp}
use Rattle.std.specs.Cmp.{unsigned_tied}
use Rattle.std.specs.BTreeMap.{is_at}
use Rattle.std.specs.BTreeSet.{BTreeSet, UpdatesBy, contains}
use Rattle.std.proofs.lemmas.Bool.{eq-eqb, eqb-true}
use Rattle.subscr.specs.Watching.{is_in}

both_ways : (s t : Bool) → (s ≡ true → t ≡ true) → (t ≡ true → s ≡ true) → s ≡ t
both_ways true t f g = sym (f refl)
both_ways false true f g = g refl
both_ways false false f g = refl

turned : (a b : ℕ) → (a == b) ≡ (b == a)
turned a b = both_ways (a == b) (b == a) (λ h. eq-eqb b a (sym (eqb-true a b h))) (λ h. eq-eqb a b (sym (eqb-true b a h)))

key-same : (q k : ℕ) → is_at (nat_cmp q) k ≡ (k == q)
key-same q k = unsigned_tied q k ∙ turned q k

pub in_set : (q : ℕ) (ids : BTreeSet ℕ) → contains nat_cmp ids q ≡ is_in q ids.keys
in_set q ids = λ i. list_any (λ k. key-same q k i) ids.keys

pub ids-set : (id : ℕ) (b : Bool) (old new : BTreeSet ℕ) → UpdatesBy nat_cmp (nat_cmp id) old new b → (q : ℕ) → is_in q new.keys ≡ cond (id == q) b (is_in q old.keys)
ids-set id b old new h q =
    sym (in_set q new)
    ∙ h.0 q
    ∙ ap (λ (t : Bool). cond t b (contains nat_cmp old q)) (unsigned_tied id q)
    ∙ ap (λ (c : Bool). cond (id == q) b c) (in_set q old)

pub undone : (id : ℕ) (old mid new : BTreeSet ℕ) → is_in id old.keys ≡ false → UpdatesBy nat_cmp (nat_cmp id) old mid true → UpdatesBy nat_cmp (nat_cmp id) mid new false → (q : ℕ) → is_in q new.keys ≡ is_in q old.keys
undone id old mid new none more less q =
    ids-set id false mid new less q
    ∙ ap (λ (c : Bool). cond (id == q) false c) (ids-set id true old mid more q)
    ∙ by (id == q) refl
  where
    by : (b : Bool) → (id == q) ≡ b → cond b false (cond b true (is_in q old.keys)) ≡ is_in q old.keys
    by true is = sym (ap (λ (n : ℕ). is_in n old.keys) (sym (eqb-true id q is)) ∙ none)
    by false is = refl
