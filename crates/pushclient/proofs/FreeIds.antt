-- The next ID is from 1 to 65,535 and not in use: of 1,026 IDs one after the other no two are the same, and at most 1,025 are in use.
--     next_is_free      where at most 1,025 are in use
--     fewer, one_more      lists of IDs of which none is there twice
use Rattle.std.proofs.Common.{◌≡◌, ◌⊎◌, inl, inr, ℕ, zero, suc, ◌+◌, ◌<◌, ◌≤◌, Bool, true, false, cond, ◌||◌, List, [], ◌∷◌, ◌++◌, length, refl, sym, ap, subst, ◌∙◌, arith}
use Rattle.std.specs.Prelude.{◌==◌, if◌then◌else◌, Option, Some, None, option_to_list}
use Rattle.std.specs.Cmp.{IsEquivalence}
use Rattle.std.specs.List.{IsDistinct, AllByRecursion, list_any, flat_map}
use Rattle.std.proofs.lemmas.Bool.{eqb-true, eqb-false, eq-eqb, ne_eqb}
use Rattle.std.proofs.lemmas.List.{length-append}
use Rattle.std.proofs.lemmas.List.Sums.{sum_by-append, sum_by-cons}
use Rattle.std.proofs.lemmas.Map.Made.{length-le_from_is_member}
use Rattle.pushclient.specs.Clients.{Connection, Wish, RequestState, not_asked, unanswered, refused, answered, free_id, id_after, id_in_use, ids_in_use, next_id}
use Rattle.pushclient.specs.SoundClients.{IsId, AreIds, count_of}

-- ---- IDs one after the other

-- so many IDs from one on
abbrev run : ℕ → ℕ → List ℕ
run zero id = []
run (suc n) id = id ∷ run n (id_after id)

length_run : (n id : ℕ) → length (run n id) ≡ n
length_run zero id = refl
length_run (suc n) id = ap (λ m. suc m) (length_run n (id_after id))

-- b comes so many places after a
abbrev IsBehind : ℕ → ℕ → ℕ → Type 0
IsBehind gap a b = (b ≡ a + gap) ⊎ (b + 65535 ≡ a + gap)

after_is_id : (b : ℕ) → b ≤ 65535 → IsId (id_after b)
after_is_id b h = by (b == 65535) refl
  where
    by : (t : Bool) → (b == 65535) ≡ t → IsId (if t then 1 else b + 1)
    by true e = (omega arith, omega arith)
    by false e = (omega arith, omega (arith, h, eqb-false b 65535 e))

after_is_behind : (gap a b : ℕ) → IsId a → IsId b → gap + 1 ≤ 65535 → IsBehind gap a b → IsBehind (gap + 1) a (id_after b)
after_is_behind gap a b ha hb near behind = by (b == 65535) refl behind
  where
    by : (t : Bool) → (b == 65535) ≡ t → IsBehind gap a b → IsBehind (gap + 1) a (if t then 1 else b + 1)
    by true e (inl is) = let last : b ≡ 65535 = eqb-true b 65535 e in inr (omega (arith, is, last))
    by true e (inr is) = let last : b ≡ 65535 = eqb-true b 65535 e in absurd (omega (arith, is, last, ha.1, near))
    by false e (inl is) = inl (omega (arith, is))
    by false e (inr is) = inr (omega (arith, is))

not_behind : (gap a b : ℕ) → 1 ≤ gap → gap + 1 ≤ 65535 → IsBehind gap a b → a ≡ b → ⊥
not_behind gap a b some near (inl is) same = omega (arith, is, same, some)
not_behind gap a b some near (inr is) same = omega (arith, is, same, near)

none_again : (n gap a b : ℕ) → IsId a → IsId b → 1 ≤ gap → gap + n ≤ 65535 → IsBehind gap a b → AllByRecursion (λ y. (a == y) ≡ false) (run n b)
none_again zero gap a b ha hb some near behind = tt
none_again (suc n) gap a b ha hb some near behind = (
  ne_eqb a b (not_behind gap a b some (omega (arith, near)) behind),
  none_again n (gap + 1) a (id_after b) ha (after_is_id b hb.1) (omega (arith, some)) (omega (arith, near)) (after_is_behind gap a b ha hb (omega (arith, near)) behind),
)

all_different : (n id : ℕ) → IsId id → n ≤ 65535 → IsDistinct ◌==◌ (run n id)
unfolding IsDistinct
all_different zero id h near = tt
all_different (suc n) id h near = (
  none_again n 1 id (id_after id) h (after_is_id id h.1) (omega arith) (omega (arith, near)) (after_is_behind 0 id id h h (omega arith) (inl (omega arith))),
  all_different n (id_after id) (after_is_id id h.1) (omega (arith, near)),
)

-- ---- the first free one

abbrev is_used : List ℕ → ℕ → Bool
is_used used id = list_any (λ u. u == id) used

all_used : (n : ℕ) (used : List ℕ) (id : ℕ) → is_used used (free_id n used id) ≡ true → AllByRecursion (λ y. is_used used y ≡ true) (run (suc n) id)
all_used zero used id h = (h, tt)
all_used (suc n) used id h = by (is_used used id) refl h (all_used n used (id_after id))
  where
    by : (b : Bool) → is_used used id ≡ b → is_used used (elim b [ false ↦ id | true ↦ free_id n used (id_after id) ]) ≡ true
        → (is_used used (free_id n used (id_after id)) ≡ true → AllByRecursion (λ y. is_used used y ≡ true) (run (suc n) (id_after id))) → AllByRecursion (λ y. is_used used y ≡ true) (run (suc (suc n)) id)
    by true is h rest = (is, rest h)
    by false is h rest = absurd cc

free_is_id : (n : ℕ) (used : List ℕ) (id : ℕ) → IsId id → IsId (free_id n used id)
free_is_id zero used id h = h
free_is_id (suc n) used id h = by (is_used used id) (free_is_id n used (id_after id) (after_is_id id h.1))
  where
    by : (b : Bool) → IsId (free_id n used (id_after id)) → IsId (elim b [ false ↦ id | true ↦ free_id n used (id_after id) ])
    by true rest = rest
    by false rest = h

equals : IsEquivalence ◌==◌
equals = record { refl = λ x. eq-eqb x x refl; symm = flips; congr = alike }
  where
    flips : (x y : ℕ) → (x == y) ≡ (y == x)
    flips x y = by (x == y) (y == x) refl refl
      where
        by : (s t : Bool) → (x == y) ≡ s → (y == x) ≡ t → s ≡ t
        by true true e f = refl
        by false false e f = refl
        by true false e f = let other : (y == x) ≡ true = eq-eqb y x (sym (eqb-true x y e)) in absurd cc
        by false true e f = let other : (x == y) ≡ true = eq-eqb x y (sym (eqb-true y x f)) in absurd cc

    alike : (x y z : ℕ) → (x == y) ≡ true → (x == z) ≡ (y == z)
    alike x y z e = ap (λ n. n == z) (eqb-true x y e)

any_flips : (used : List ℕ) (id : ℕ) → list_any (λ u. id == u) used ≡ is_used used id
any_flips [] id = refl
any_flips (u ∷ used) id = ap (λ (b : Bool). b || list_any (λ v. id == v) used) (equals.symm id u) ∙ ap (λ (b : Bool). (u == id) || b) (any_flips used id)

any_of_all : (used ids : List ℕ) → AllByRecursion (λ y. is_used used y ≡ true) ids → (id : ℕ) → list_any (λ u. id == u) ids ≡ true → list_any (λ u. id == u) used ≡ true
any_of_all used [] all id h = absurd cc
any_of_all used (y ∷ ids) all id h = by (id == y) refl h (any_of_all used ids all.1 id)
  where
    by : (b : Bool) → (id == y) ≡ b → (b || list_any (λ u. id == u) ids) ≡ true → (list_any (λ u. id == u) ids ≡ true → list_any (λ u. id == u) used ≡ true) → list_any (λ u. id == u) used ≡ true
    by true is h rest = any_flips used id ∙ ap (is_used used) (eqb-true id y is) ∙ all.0
    by false is h rest = rest h

free_is_free : (n : ℕ) (used : List ℕ) (id : ℕ) → IsId id → n + 1 ≤ 65535 → length used ≤ n → is_used used (free_id n used id) ≡ false
free_is_free n used id h near few = by (is_used used (free_id n used id)) refl
  where
    by : (b : Bool) → is_used used (free_id n used id) ≡ b → b ≡ false
    by true is =
        let short = length-le_from_is_member equals (run (suc n) id) used (all_different (suc n) id h (omega (arith, near))) (any_of_all used (run (suc n) id) (all_used n used id is)) in
        absurd (omega (arith, short, length_run (suc n) id, few))
    by false is = refl

-- ---- how often an ID is in a list

pub counts : (id : ℕ) (xs ys : List ℕ) → count_of id (xs ++ ys) ≡ count_of id xs + count_of id ys
counts id xs ys = sum_by-append (λ m. cond (m == id) 1 0) xs ys

count_more : (id u : ℕ) (used : List ℕ) → count_of id (u ∷ used) ≡ cond (u == id) 1 0 + count_of id used
count_more id u used = sum_by-cons (λ m. cond (m == id) 1 0) u used

none_counted : (id : ℕ) (used : List ℕ) → is_used used id ≡ false → count_of id used ≡ 0
none_counted id [] h = refl
none_counted id (u ∷ used) h = count_more id u used ∙ by (u == id) h (none_counted id used)
  where
    by : (b : Bool) → (b || is_used used id) ≡ false → (is_used used id ≡ false → count_of id used ≡ 0) → cond b 1 0 + count_of id used ≡ 0
    by true h rest = absurd cc
    by false h rest = omega (arith, rest h)

each_counted : (ids : List ℕ) → AllByRecursion IsId ids → (id : ℕ) → 0 < count_of id ids → IsId id
each_counted [] all id some = absurd (omega (arith, some))
each_counted (u ∷ ids) all id some = by (u == id) refl (subst (λ (n : ℕ). 0 < n) (count_more id u ids) some) (each_counted ids all.1 id)
  where
    by : (b : Bool) → (u == id) ≡ b → 0 < cond b 1 0 + count_of id ids → (0 < count_of id ids → IsId id) → IsId id
    by true is some rest = subst IsId (eqb-true u id is) all.0
    by false is some rest = rest (omega (arith, some))

all_counted : (ids : List ℕ) → ((id : ℕ) → 0 < count_of id ids → IsId id) → AllByRecursion IsId ids
all_counted [] each = tt
all_counted (u ∷ ids) each =
    let here : cond (u == u) 1 0 ≡ 1 = ap (λ (b : Bool). cond {A = ℕ} b 1 0) (eq-eqb u u refl) in
    (each u (omega (arith, count_more u u ids, here)), all_counted ids (λ id some. each id (omega (arith, some, count_more id u ids))))

pub fewer : (old new : List ℕ) → AreIds old → ((id : ℕ) → count_of id new ≤ count_of id old) → AreIds new
fewer old new are less = record {
  each = all_counted new (λ id some. each_counted old are.each id (omega (arith, some, less id)));
  once = λ id. omega (arith, less id, are.once id);
}

pub one_more : (old new : List ℕ) (i : ℕ) → AreIds old → IsId i → count_of i old ≡ 0 → ((id : ℕ) → count_of id new ≤ cond (i == id) 1 0 + count_of id old) → AreIds new
one_more old new i are is_id free more = record {
  each = all_counted new (λ id some. by_each id (i == id) refl (omega (arith, some, more id)));
  once = λ id. by_once id (i == id) refl (more id);
}
  where
    by_each : (id : ℕ) (b : Bool) → (i == id) ≡ b → 0 < cond b 1 0 + count_of id old → IsId id
    by_each id true is some = subst IsId (eqb-true i id is) is_id
    by_each id false is some = each_counted old are.each id (omega (arith, some))

    by_once : (id : ℕ) (b : Bool) → (i == id) ≡ b → count_of id new ≤ cond b 1 0 + count_of id old → count_of id new ≤ 1
    by_once id true is some = omega (arith, some, subst (λ (n : ℕ). count_of n old ≡ 0) (eqb-true i id is) free)
    by_once id false is some = omega (arith, some, are.once id)

-- ---- of a client

length_in_use : (s : RequestState) → length (id_in_use s) ≤ 1
length_in_use not_asked = omega arith
length_in_use (unanswered id) = omega arith
length_in_use (refused rcode) = omega arith
length_in_use (answered id) = omega arith

few_in_use : (ws : List Wish) → length (flat_map (λ w. id_in_use w.standing) ws) ≤ length ws
few_in_use [] = omega arith
few_in_use (w ∷ ws) = omega (arith, length-append (id_in_use w.standing) (flat_map (λ v. id_in_use v.standing) ws), length_in_use w.standing, few_in_use ws)

length_option : (o : Option ℕ) → length (option_to_list o) ≤ 1
length_option None = omega arith
length_option (Some id) = omega arith

module _ (ws : List Wish) (c : Connection) (last : c.last_id ≤ 65535) where
  pub next_is_id : IsId (next_id ws c)
  next_is_id = free_is_id 1025 (ids_in_use ws c) (id_after c.last_id) (after_is_id c.last_id last)

  pub next_is_free : length ws ≤ 1024 → count_of (next_id ws c) (ids_in_use ws c) ≡ 0
  next_is_free few = none_counted (next_id ws c) (ids_in_use ws c)
      (free_is_free 1025 (ids_in_use ws c) (id_after c.last_id) (after_is_id c.last_id last) (omega arith)
      (omega (arith, few, length-append (flat_map (λ w. id_in_use w.standing) ws) (option_to_list c.keepalive_out), few_in_use ws, length_option c.keepalive_out)))
