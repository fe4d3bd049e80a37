-- Where a PUSH is packed, a name waits no longer.
--     packs-no-more, packs-fewer      no name comes to wait; one less waits where there are notices
use Rattle.std.proofs.Common.{◌≡◌, ℕ, ◌+◌, ◌<◌, ◌≤◌, Bool, true, false, cond, ◌||◌, List, [], ◌∷◌, ◌++◌, map, length, refl, sym, ◌∙◌, arith, true≢false}
use Rattle.std.specs.Prelude.{filter, nat_le, ◌==◌}
use Rattle.std.specs.List.{list_any, AllByRecursion, IsDistinct}
use Rattle.dnsname.specs.Names.{Labels, same_name}
use Rattle.dnsname.proofs.Decisions.{same_name-Decides}
use Rattle.dsotlv.specs.declared.message.Notice.{Notice}
use Rattle.coalesce.specs.Net.{net, size_of_notices, message_head, max_push, packed_behind}
use Rattle.pushserver.specs.Hubs.{tells_now}
use Rattle.pushserver.specs.PlainHubs.{Hub, Subscription, Queue, sent_of, shown_of}
use Rattle.script_laws.proofs.turns.Shorter.{filter-short}

abbrev Names : Type 0
Names = List (Labels × List Notice)

-- ---- what stays is of the names

or-rest : (a b : Bool) → (a || b) ≡ false → b ≡ false
or-rest true b is = absurd (true≢false is)
or-rest false b is = is

-- a test that none of the names passes is passed by none that stays
none-stays : (t : Labels → Bool) (size : ℕ) (names : Names) → list_any t (map (λ e. e.0) names) ≡ false → list_any t (packed_behind size names).1 ≡ false
none-stays t size [] none = refl
none-stays t size ((name, []) ∷ rest) none = none-stays t size rest (or-rest (t name) (list_any t (map (λ e. e.0) rest)) none)
none-stays t size ((name, n ∷ ns) ∷ rest) none =
    by (size == 0 || nat_le (message_head + size + size_of_notices (n ∷ ns)) max_push)
    (none-stays t (size + size_of_notices (n ∷ ns)) rest (or-rest (t name) (list_any t (map (λ e. e.0) rest)) none))
  where
    further : List Notice × List Labels
    further = packed_behind (size + size_of_notices (n ∷ ns)) rest

    by : (b : Bool) → list_any t further.1 ≡ false
        → list_any t (elim b as (λ _. List Notice × List Labels) [ true ↦ ((n ∷ ns) ++ further.0, further.1) | false ↦ ([], name ∷ map (λ e. e.0) rest) ]).1 ≡ false
    by true others = others
    by false others = none

-- ---- one goes

module _ (told : Labels × ℕ → List Notice) where
  abbrev nets : Queue → Names
  nets queue = map (λ e. (e.0, told e)) queue

  abbrev stays : List Labels → Labels × ℕ → Bool
  stays left e = list_any (same_name e.0) left

  same-back : (a b : Labels) → same_name a b ≡ false → same_name b a ≡ false
  same-back a b other = by (same_name b a) refl
    where
      by : (t : Bool) → same_name b a ≡ t → t ≡ false
      by false is = refl
      by true is = absurd (true≢false (sym ((same_name-Decides a b).1 (sym ((same_name-Decides b a).0 is))) ∙ other))

  -- a name that is no other one isn't among them
  apart : (name : Labels) (queue : Queue) → AllByRecursion (λ (e : Labels × ℕ). same_name e.0 name ≡ false) queue → list_any (same_name name) (map (λ e. e.0) (nets queue)) ≡ false
  apart name [] all = refl
  apart name (e ∷ es) all = by (same_name name e.0) (same-back e.0 name all.0) (apart name es all.1)
    where
      by : (b : Bool) → b ≡ false → list_any (same_name name) (map (λ e. e.0) (nets es)) ≡ false → (b || list_any (same_name name) (map (λ e. e.0) (nets es))) ≡ false
      by false is rest = rest
      by true is rest = absurd (true≢false is)

  more : (p : Labels × ℕ → Bool) (e : Labels × ℕ) (es : Queue) → length (filter p es) < length es → length (filter p (e ∷ es)) < length (e ∷ es)
  more p e es less = by (p e)
    where
      by : (b : Bool) → length (cond {A = Queue} b (e ∷ filter p es) (filter p es)) < length (e ∷ es)
      by true = omega (arith, less)
      by false = omega (arith, less)

  gone : (p : Labels × ℕ → Bool) (e : Labels × ℕ) (es : Queue) → p e ≡ false → length (filter p (e ∷ es)) < length (e ∷ es)
  gone p e es leaves = by (p e) leaves (filter-short p es)
    where
      by : (b : Bool) → b ≡ false → length (filter p es) ≤ length es → length (cond {A = Queue} b (e ∷ filter p es) (filter p es)) < length (e ∷ es)
      by true is short = absurd (true≢false is)
      by false is short = omega (arith, short)

  fewer : (queue : Queue) → IsDistinct (λ (d e : Labels × ℕ). same_name e.0 d.0) queue → (n : Notice) (ns : List Notice) → (packed_behind 0 (nets queue)).0 ≡ n ∷ ns
      → length (filter (stays (packed_behind 0 (nets queue)).1) queue) < length queue
  unfolding IsDistinct
  fewer [] once n ns some = absurd cc
  fewer (e ∷ es) once n ns some = by (told e) some (fewer es once.1 n ns)
    where
      by : (notices : List Notice) → (packed_behind 0 ((e.0, notices) ∷ nets es)).0 ≡ n ∷ ns → ((packed_behind 0 (nets es)).0 ≡ n ∷ ns → length (filter (stays (packed_behind 0 (nets es)).1) es) < length es)
          → length (filter (stays (packed_behind 0 ((e.0, notices) ∷ nets es)).1) (e ∷ es)) < length (e ∷ es)
      by [] some others = more (stays (packed_behind 0 (nets es)).1) e es (others some)
      by (k ∷ ks) some others =
          let left = (packed_behind (0 + size_of_notices (k ∷ ks)) (nets es)).1 in
          gone (stays left) e es (none-stays (same_name e.0) (0 + size_of_notices (k ∷ ks)) (nets es) (apart e.0 es once.0))

module _ (hub : Hub) (subscriptions : List Subscription) (queue : Queue) where
  pub packs-no-more : length ((tells_now hub).packed subscriptions queue).1 ≤ length queue
  packs-no-more = filter-short _ queue

  pub packs-fewer : IsDistinct (λ (d e : Labels × ℕ). same_name e.0 d.0) queue → (n : Notice) (ns : List Notice) → ((tells_now hub).packed subscriptions queue).0 ≡ n ∷ ns
      → length ((tells_now hub).packed subscriptions queue).1 < length queue
  packs-fewer once n ns some = fewer (λ (e : Labels × ℕ). net (sent_of hub.start hub.history subscriptions queue e.0) (shown_of hub.start hub.history subscriptions e.0)) queue once n ns some
