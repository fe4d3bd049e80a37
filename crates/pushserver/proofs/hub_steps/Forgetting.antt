-- Where the oldest entries are forgotten, the same plain hub is stood for.
--     forgetting_stands
use Rattle.std.proofs.Common.{◌≡◌, ℕ, zero, suc, ◌+◌, ◌≤◌, length, refl, sym, subst, arith}
use Rattle.std.specs.List.{AllByRecursion}
use Rattle.pushserver.specs.KeptHubs.{KeptHub, StandsFor, WaitSince, past_of}
use Rattle.pushserver.specs.Simulation.{ForgettingStands}
use Rattle.pushserver.proofs.hub_steps.Pasts.{past-forgotten}

pub forgetting_stands : ForgettingStands
forgetting_stands k new hub h less = subst (λ (k : KeptHub). StandsFor k hub) (sym less.is) (record {
  sound = h.sound;
  timers = h.timers;
  numbers_given = h.numbers_given;
  past = past-forgotten hub.start hub.history (past_of k) less.count h.past within;
  state = h.state;
  newest = h.newest;
  since = since less.count refl;
  sessions = h.sessions;
})
  where
    -- nothing is forgotten, or what is left is there
    within : k.seen.number + less.count ≤ length hub.history
    within = by less.count refl
      where
        by : (count : ℕ) → less.count ≡ count → k.seen.number + less.count ≤ length hub.history
        by zero none = omega (arith, none, h.past.begins)
        by (suc n) some = omega (arith, less.within (omega (arith, some)), h.newest)

    since : (count : ℕ) → less.count ≡ count → AllByRecursion (WaitSince (k.seen.number + less.count)) k.sessions
    since zero none = let same : k.seen.number ≡ k.seen.number + less.count = omega (arith, none) in subst (λ n. AllByRecursion (WaitSince n) k.sessions) same h.since
    since (suc n) some = less.since (omega (arith, some))
