use Rattle.std.proofs.Common.{◌≡◌, ℕ, ◌≤◌, ◌+◌, ◌∷◌, [], drop}
use Rattle.coalesce.specs.Waiting.{old_value}
use Rattle.pushsession.specs.Sessions.{noted}
use Rattle.pushsession.specs.Kept.{keeping, taken_back}
use Rattle.livesessions.specs.NumberedSessions.{all_sessions}
use Rattle.livesessions.proofs.NotedSessions.{in_turn}
use Rattle.livesessions.proofs.noting.note_each.Given as goal

abbrev pub invariant-numbers : goal.invariant-numbers
invariant-numbers g l = ((point : ℕ) → l.old ≡ (l.change.key, old_value point l.change)
    → (in_turn (noted keeping (l.change ∷ []) point) l.sessions (drop l.number-index l.numbers) ≡ in_turn (noted keeping (l.change ∷ []) point) l.fn.sessions l.numbers)
    × (all_sessions (taken_back point) l.sessions ≡ all_sessions (taken_back point) l.fn.sessions))
    × (l.fn.steps ≤ l.steps)
    × (l.steps ≤ l.fn.steps + l.number-index)
