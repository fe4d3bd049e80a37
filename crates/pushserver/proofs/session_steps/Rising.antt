-- Names wait in the order of their points, whatever goes, and behind a change.
--     rises-filter, rises-drop      of those that stay
--     rises-fold      behind changes at a later point
use Rattle.std.proofs.Common.{ℕ, ◌≤◌, Bool, true, false, cond, List, [], ◌∷◌, ◌++◌, map, is_some}
use Rattle.std.specs.Prelude.{filter}
use Rattle.std.specs.List.{AllByRecursion}
use Rattle.dnsname.specs.Names.{Labels}
use Rattle.rrset.proofs.Places.{all_filter}
use Rattle.coalesce.proofs.ReadBack.{each-append}
use Rattle.pushserver.specs.PlainHubs.{Queue, point_in}
use Rattle.pushserver.specs.SoundHubs.{PointsRise}
use Rattle.pushserver.proofs.session_steps.Lists.{each-map}
use Rattle.livesessions.proofs.SessionLists.{all-map}

-- the points since which names wait
abbrev pub points_of : Queue → List ℕ
points_of queue = map (λ e. e.1) queue

pub rises-filter : (test : Labels × ℕ → Bool) (queue : Queue) → PointsRise (points_of queue) → PointsRise (points_of (filter test queue))
rises-filter test [] rises = tt
rises-filter test (e ∷ queue) rises = by (test e) (rises-filter test queue rises.1)
  where
    by : (b : Bool) → PointsRise (points_of (filter test queue)) → PointsRise (points_of (cond b (e ∷ filter test queue) (filter test queue)))
    by true rest = (all-map (λ (d : Labels × ℕ). d.1) (λ q. e.1 ≤ q) (filter test queue) (all_filter (λ (d : Labels × ℕ). e.1 ≤ d.1) test queue (each-map (λ (d : Labels × ℕ). d.1) (λ q. e.1 ≤ q) queue rises.0)), rest)
    by false rest = rest

-- one more, at no earlier point
rises-push : (queue : Queue) (name : Labels) (point : ℕ) → AllByRecursion (λ (e : Labels × ℕ). e.1 ≤ point) queue → PointsRise (points_of queue) → PointsRise (points_of (queue ++ (name, point) ∷ []))
rises-push [] name point early rises = (tt, tt)
rises-push (e ∷ queue) name point early rises = (
  all-map (λ (d : Labels × ℕ). d.1) (λ q. e.1 ≤ q) (queue ++ (name, point) ∷ [])
      (each-append (λ (d : Labels × ℕ). e.1 ≤ d.1) queue ((name, point) ∷ []) (each-map (λ (d : Labels × ℕ). d.1) (λ q. e.1 ≤ q) queue rises.0) (early.0, tt)),
  rises-push queue name point early.1 rises.1,
)

-- where a name isn't queued yet, it is behind the others
pub rises-queued : (queue : Queue) (name : Labels) (point : ℕ) → AllByRecursion (λ (e : Labels × ℕ). e.1 ≤ point) queue → PointsRise (points_of queue)
    → PointsRise (points_of (cond (is_some (point_in queue name)) queue (queue ++ (name, point) ∷ [])))
rises-queued queue name point early rises = by (is_some (point_in queue name))
  where
    by : (b : Bool) → PointsRise (points_of (cond b queue (queue ++ (name, point) ∷ [])))
    by true = rises
    by false = rises-push queue name point early rises
