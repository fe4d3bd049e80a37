-- A message takes the first names of a queue, each with its whole net.
use Rattle.std.proofs.Common.{◌≡◌, ℕ, zero, suc, ◌+◌, ◌<◌, ◌≤◌, Bool, true, false, cond, ◌||◌, List, [], ◌∷◌, ◌++◌, map, length, ◌⊎◌, inl, inr, sym, ap, subst, refl, arith}
use Rattle.std.specs.Prelude.{nat_le, ◌==◌}
use Rattle.std.specs.List.{AllByRecursion}
use Rattle.std.proofs.lemmas.Bool.{eqb-false, ne_eqb, leb-true, leb-false, or_parts, or_cases}
use Rattle.push_base.specs.Cases.{is_empty}
use Rattle.dnsname.specs.Names.{Labels}
use Rattle.dsotlv.specs.declared.message.Notice.{Notice}
use Rattle.dsotlv.specs.Answers.{push_message}
use Rattle.coalesce.specs.Net.{size_of_notices, max_push, packed_behind, packed, max_net_message, Nets}
use Rattle.coalesce.specs.Laws.{all_notices, telling, StopsBefore, PacksTheFront, PacksNothingOfNothing, PackedFitsOneMessage}
use Rattle.coalesce.proofs.NetSizes.{length-push_message, size_of_notices-append, net-takes}

-- Behind so many octets: at most one of the names that go tells something, where nothing stands there, and else none; or the message isn't too long.
abbrev Fits : ℕ → Nets → Type 0
Fits size gone = (length (telling gone) ≤ cond (size == 0) 1 0) ⊎ (16 + (size + size_of_notices (all_notices gone)) ≤ max_push)

abbrev Stops : ℕ → Nets → Type 0
Stops size [] = Unit {0}
Stops size (e ∷ left) = (0 < size) × (is_empty e.1 ≡ false) × (max_push < 16 + (size + size_of_notices e.1))

-- what is packed behind so many octets
pub record PackedBehind (size : ℕ) (names : Nets) (result : List Notice × List Labels) : Type 0 where
  pub gone : Nets
  pub left : Nets
  pub split : names ≡ gone ++ left
  pub whole_nets : result.0 ≡ all_notices gone
  pub stay : result.1 ≡ map (λ e. e.0) left
  pub stops : Stops (size + size_of_notices (all_notices gone)) left
  pub fits : Fits size gone

none_tells : (gone : Nets) → length (telling gone) ≡ 0 → size_of_notices (all_notices gone) ≡ 0
none_tells [] e = refl
none_tells ((name, []) ∷ rest) e = none_tells rest e
none_tells ((name, n ∷ ns) ∷ rest) e = absurd (omega (arith, e))

-- a net that goes in front of others that fit behind it
fits-cons : (size : ℕ) (name : Labels) (n : Notice) (ns : List Notice) (gone : Nets) → (size == 0 || nat_le (16 + size + size_of_notices (n ∷ ns)) max_push) ≡ true
    → Fits (size + size_of_notices (n ∷ ns)) gone → Fits size ((name, n ∷ ns) ∷ gone)
fits-cons size name n ns gone test fit = by fit
  where
    sizes : size_of_notices ((n ∷ ns) ++ all_notices gone) ≡ size_of_notices (n ∷ ns) + size_of_notices (all_notices gone)
    sizes = size_of_notices-append (n ∷ ns) (all_notices gone)

    behind : ◌≡◌ {A = ℕ} (cond ((size + size_of_notices (n ∷ ns)) == 0) 1 0) 0
    behind = let some = net-takes n ns in ap {A = Bool} {B = ℕ} (λ b. cond b 1 0) (ne_eqb (size + size_of_notices (n ∷ ns)) 0 (λ e. omega (arith, e, some)))

    alone : length (telling gone) ≡ 0 → ((size == 0) ≡ true) ⊎ (nat_le (16 + size + size_of_notices (n ∷ ns)) max_push ≡ true) → Fits size ((name, n ∷ ns) ∷ gone)
    alone none (inl first) = inl (subst (λ (b : Bool). suc (length (telling gone)) ≤ cond b 1 0) (sym first) (omega (arith, none)))
    alone none (inr fits) =
        let small = leb-true (16 + size + size_of_notices (n ∷ ns)) max_push fits in
        let nothing = none_tells gone none in
        let sum = sizes in
        inr (omega (arith, small, nothing, sum))

    by : Fits (size + size_of_notices (n ∷ ns)) gone → Fits size ((name, n ∷ ns) ∷ gone)
    by (inl few) = let none = behind in alone (omega (arith, few, none)) (or_cases _ _ test)
    by (inr small) = let sum = sizes in inr (omega (arith, small, sum))

packed_first : (size : ℕ) (name : Labels) (n : Notice) (ns : List Notice) (rest : Nets) → (b : Bool) → (size == 0 || nat_le (16 + size + size_of_notices (n ∷ ns)) max_push) ≡ b
    → PackedBehind (size + size_of_notices (n ∷ ns)) rest (packed_behind (size + size_of_notices (n ∷ ns)) rest)
    → PackedBehind size ((name, n ∷ ns) ∷ rest) (elim b [ true ↦ ((n ∷ ns) ++ (packed_behind (size + size_of_notices (n ∷ ns)) rest).0, (packed_behind (size + size_of_notices (n ∷ ns)) rest).1) | false ↦ ([], name ∷ map (λ e. e.0) rest) ])
packed_first size name n ns rest true test r = record {
  gone = (name, n ∷ ns) ∷ r.gone;
  left = r.left;
  split = ap (λ es. (name, n ∷ ns) ∷ es) r.split;
  whole_nets = ap (λ os. (n ∷ ns) ++ os) r.whole_nets;
  stay = r.stay;
  stops = subst (λ k. Stops k r.left) (sum size (size_of_notices (n ∷ ns)) (size_of_notices (all_notices r.gone)) _ (size_of_notices-append (n ∷ ns) (all_notices r.gone))) r.stops;
  fits = fits-cons size name n ns r.gone test r.fits;
}
  where
    sum : (a b c d : ℕ) → d ≡ b + c → a + b + c ≡ a + d
    sum a b c d e = omega (arith, e)
packed_first size name n ns rest false test r = record {
  gone = [];
  left = (name, n ∷ ns) ∷ rest;
  split = refl;
  whole_nets = refl;
  stay = refl;
  stops = (some, refl, large);
  fits = inl (omega arith);
}
  where
    positive : (k : ℕ) → (k ≡ 0 → ⊥) → 0 < k + 0
    positive zero h = absurd (h refl)
    positive (suc k) h = omega arith

    some : 0 < size + 0
    some = positive size (eqb-false size 0 (or_parts (size == 0) (nat_le (16 + size + size_of_notices (n ∷ ns)) max_push) test).0)

    large : max_push < 16 + (size + 0 + size_of_notices (n ∷ ns))
    large = let e = leb-false (16 + size + size_of_notices (n ∷ ns)) max_push (or_parts (size == 0) (nat_le (16 + size + size_of_notices (n ∷ ns)) max_push) test).1 in omega (arith, e)

pub is_packed_behind : (size : ℕ) (names : Nets) → PackedBehind size names (packed_behind size names)
is_packed_behind size [] = record { gone = []; left = []; split = refl; whole_nets = refl; stay = refl; stops = tt; fits = inl (omega arith) }
is_packed_behind size ((name, []) ∷ rest) =
    let r = is_packed_behind size rest in
    record { gone = (name, []) ∷ r.gone; left = r.left; split = ap (λ es. (name, []) ∷ es) r.split; whole_nets = r.whole_nets; stay = r.stay; stops = r.stops; fits = r.fits }
is_packed_behind size ((name, n ∷ ns) ∷ rest) = packed_first size name n ns rest (size == 0 || nat_le (16 + size + size_of_notices (n ∷ ns)) max_push) refl (is_packed_behind (size + size_of_notices (n ∷ ns)) rest)

-- ---- a whole message

stops_there : (message : List Notice) (left : Nets) → Stops (size_of_notices message) left → StopsBefore message left
stops_there message [] h = tt
stops_there [] (e ∷ left) h = let some = h.0 in absurd (omega (arith, some))
stops_there (n ∷ ns) (e ∷ left) h =
    let large = h.2 in
    let sum = size_of_notices-append (n ∷ ns) e.1 in
    let whole = length-push_message ((n ∷ ns) ++ e.1) in
    (refl, h.1, omega (arith, large, sum, whole))

pub packs_the_front : PacksTheFront
packs_the_front names =
    let p = is_packed_behind 0 names in
    record {
      gone = p.gone;
      left = p.left;
      split = p.split;
      whole_nets = p.whole_nets;
      stay = p.stay;
      stops = subst (λ message. StopsBefore message p.left) (sym p.whole_nets) (stops_there (all_notices p.gone) p.left (subst (λ k. Stops k p.left) (plain (size_of_notices (all_notices p.gone))) p.stops));
      size = by p.gone (packed names).0 p.whole_nets p.fits;
    }
  where
    plain : (k : ℕ) → 0 + k ≡ k
    plain k = omega arith

    by : (gone : Nets) (message : List Notice) → message ≡ all_notices gone → Fits 0 gone → (length (telling gone) ≤ 1) ⊎ (length (push_message message) ≤ max_push)
    by gone message is (inl few) = inl few
    by gone message is (inr small) =
        let whole = length-push_message (all_notices gone) in
        let same : length (push_message message) ≡ length (push_message (all_notices gone)) = ap (λ ns. length (push_message ns)) is in
        inr (omega (arith, small, whole, same))

pub packs_nothing_of_nothing : PacksNothingOfNothing
packs_nothing_of_nothing [] = refl
packs_nothing_of_nothing ((name, []) ∷ rest) = packs_nothing_of_nothing rest
packs_nothing_of_nothing ((name, n ∷ ns) ∷ rest) = refl

-- ---- how long it is

abbrev FitsAlone : Labels × List Notice → Type 0
FitsAlone e = length (push_message e.1) ≤ max_net_message

pub each-front : {X : Type 0} (P : X → Type 0) (xs ys : List X) → AllByRecursion P (xs ++ ys) → AllByRecursion P xs
each-front P [] ys h = tt
each-front P (x ∷ xs) ys h = (h.0, each-front P xs ys h.1)

-- where one name tells something, all notices are those of its net
one_tells : (gone : Nets) → length (telling gone) ≤ 1 → AllByRecursion FitsAlone gone → length (push_message (all_notices gone)) ≤ max_net_message
one_tells [] few fit = omega arith
one_tells ((name, []) ∷ rest) few fit = one_tells rest few fit.1
one_tells ((name, n ∷ ns) ∷ rest) few fit =
    let nothing = none_tells rest (omega (arith, few)) in
    let sum = size_of_notices-append (n ∷ ns) (all_notices rest) in
    let alone = fit.0 in
    let its = length-push_message (n ∷ ns) in
    let whole = length-push_message ((n ∷ ns) ++ all_notices rest) in
    omega (arith, nothing, sum, alone, its, whole)

pub packed_fits_one_message : PackedFitsOneMessage
packed_fits_one_message names fit =
    let p = packs_the_front names in
    by p.gone (packed names).0 p.whole_nets (each-front FitsAlone p.gone p.left (subst (AllByRecursion FitsAlone) p.split fit)) p.size
  where
    by : (gone : Nets) (message : List Notice) → message ≡ all_notices gone → AllByRecursion FitsAlone gone → (length (telling gone) ≤ 1) ⊎ (length (push_message message) ≤ max_push) → length (push_message message) ≤ max_net_message
    by gone message is fit (inl few) = subst (λ ns. length (push_message ns) ≤ max_net_message) (sym is) (one_tells gone few fit)
    by gone message is fit (inr small) = omega (arith, small)
