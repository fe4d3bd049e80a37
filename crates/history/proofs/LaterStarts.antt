-- A start goes on by the plan of the oldest entry.
use Rattle.std.proofs.Common.{◌≡◌, ℕ, ◌+◌, ◌<◌, List, length, take, get_or, Option, sym, ap, ◌∙◌}
use Rattle.std.specs.Prelude.{IfSome, option_map, fold}
use Rattle.std.proofs.lemmas.List.Sums.{fold_more}
use Rattle.history.specs.Forgetting.{LeadsTo}
use Rattle.history.specs.HeldPlans.{IsReady, led_by, led_to}
use Rattle.history.specs.Kept.{HomesKept, at_moment, held_for, state_of}
use Rattle.history.specs.States.{State, after, state_at}
use Rattle.history.specs.declared.entry.Entry.{Entry}
use Rattle.history.specs.declared.past.Later.TheVariants as laters
use Rattle.history.specs.declared.planning.HeldPlan.{HeldPlan}
use Rattle.history.proofs.IdleEntries.{led-after}
use Rattle.history.proofs.Present.{same_moment}

-- the state behind one entry more
state_at-more : (start : State) (entries : List Entry) (i : ℕ) (entry : Entry) → i < length entries → entry ≡ get_or entries i entry → state_at start entries (i + 1) ≡ after (state_at start entries i) entry
state_at-more start entries i entry within is = fold_more after start entries i entry within ∙ ap (after (fold after start (take i entries))) (sym is)

-- the plan of the oldest entry leads to the state behind it
pub leads-planned : (old new : HomesKept) (moment count : ℕ) (entries : List Entry) (entry : Entry) (held : Option HeldPlan) → state_of new ≡ state_of old → option_map (led_to (at_moment old moment)) held ≡ held_for (at_moment old moment) entry
    → IfSome held (IsReady new) → 0 < length entries → entry ≡ get_or entries 0 entry → count ≡ 1 → LeadsTo new moment (state_at (at_moment old moment) entries count) (laters.Planned held)
leads-planned old new moment count entries entry held same is ready some first one = (
  ready,
  ap (λ s. led_by s held) (same_moment new old moment same) ∙ led-after (at_moment old moment) entry held is ∙ sym (state_at-more (at_moment old moment) entries 0 entry some first) ∙ ap (state_at (at_moment old moment) entries) (sym one),
)
