-- The states of a history stay tellable when an entry is appended.
--     state_at-last, states-more      the newest state; each state of the longer history
use Rattle.std.proofs.Common.{◌≡◌, ℕ, ◌≤◌, Bool, true, false, leb, List, [], ◌∷◌, ◌++◌, length, fold, refl, sym, ap, subst, ◌∙◌, arith}
use Rattle.std.proofs.lemmas.Bool.{leb-true, leb-false}
use Rattle.std.proofs.lemmas.List.{length-append, take_all}
use Rattle.std.proofs.lemmas.List.Sums.{fold-append}
use Rattle.history.specs.States.{State, after, state_at}
use Rattle.history.specs.declared.entry.Entry.{Entry}
use Rattle.history.proofs.LongerHistory.{state_at-append}
use Rattle.pushserver.specs.Rows.{IsTellable}

-- the state at the newest point
state_at-all : (start : State) (history : List Entry) (point : ℕ) → length history ≤ point → state_at start history point ≡ fold after start history
state_at-all start history point h = ap (fold after start) (take_all point history h)

pub state_at-last : (start : State) (history : List Entry) (entry : Entry) → state_at start (history ++ entry ∷ []) (length (history ++ entry ∷ [])) ≡ after (state_at start history (length history)) entry
state_at-last start history entry =
    state_at-all start (history ++ entry ∷ []) (length (history ++ entry ∷ [])) (omega arith)
    ∙ fold-append after start history (entry ∷ [])
    ∙ ap (λ (s : State). after s entry) (sym (state_at-all start history (length history) (omega arith)))

-- each state was tellable, and that after the new entry is
pub states-more : (start : State) (history : List Entry) (entry : Entry) → ((point : ℕ) → point ≤ length history → IsTellable (state_at start history point)) → IsTellable (after (state_at start history (length history)) entry)
    → (point : ℕ) → point ≤ length (history ++ entry ∷ []) → IsTellable (state_at start (history ++ entry ∷ []) point)
states-more start history entry old new point within = by (leb point (length history)) refl
  where
    by : (b : Bool) → leb point (length history) ≡ b → IsTellable (state_at start (history ++ entry ∷ []) point)
    by true is =
        let early = leb-true point (length history) is in
        subst IsTellable (sym (state_at-append start history (entry ∷ []) point early)) (old point early)
    by false is =
        let late = leb-false point (length history) is in
        let last : point ≡ length (history ++ entry ∷ []) = omega (arith, late, within, length-append history (entry ∷ [])) in
        subst IsTellable (sym (ap (state_at start (history ++ entry ∷ [])) last ∙ state_at-last start history entry)) new
