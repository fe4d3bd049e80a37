-- A session that is kept falls behind where the plain one does.
--     behind-keeps      those that fall behind by an entry end, others stay
use Rattle.std.proofs.Common.{◌≡◌, ℕ, ◌-◌, ◌≤◌, cond, not, ◌&&◌, List, [], ◌∷◌, map, drop, min, Option, Some, None, refl, ap, subst, ◌∙◌, arith}
use Rattle.std.specs.Prelude.{IfSome, option_map}
use Rattle.std.specs.List.{AllByRecursion}
use Rattle.std.proofs.lemmas.List.{drop-drop}
use Rattle.dsosession.specs.declared.session.EndReason.TheVariants as ends
use Rattle.history.specs.States.{entry_size, journal_has_room}
use Rattle.history.specs.declared.entry.Entry.{Entry}
use Rattle.coalesce.specs.Waiting.{WaitingName}
use Rattle.pushsession.specs.Kept.{KeptSession, keeping}
use Rattle.pushsession.specs.Sessions.{is_open, least_of, ended_where}
use Rattle.pushsession.specs.declared.session_status.SessionStatus.{SessionStatus}
use Rattle.pushserver.specs.PlainHubs.{Hub, Session, plain_keeps}
use Rattle.pushserver.specs.Hubs.{newest, behind_at, ended_behind}
use Rattle.pushserver.specs.KeptHubs.{WaitSince, queue_of}
use Rattle.livesessions.proofs.SessionLists.{all-map}
use Rattle.pushserver.proofs.hub_steps.Standing.{kept_of}
use Rattle.pushserver.proofs.session_steps.Parts.{SessionFits}
use Rattle.pushserver.proofs.session_steps.Rising.{points_of}
use Rattle.pushserver.proofs.session_steps.Standing.{ended_where-keeps}

-- by the entries from the least point on
abbrev behind_by : (ℕ → List Entry) → Entry → SessionStatus → Option ℕ → Option ℕ
behind_by since entry standing None = None
behind_by since entry standing (Some point) = cond (is_open standing && not (journal_has_room (since point) (entry_size entry))) (Some point) None

-- the least of some points is none before them
least-from : (from : ℕ) (points : List ℕ) → AllByRecursion (λ point. from ≤ point) points → IfSome (least_of points) (λ least. from ≤ least)
least-from from [] all = tt
least-from from (p ∷ ps) all = by (least_of ps) (least-from from ps all.1)
  where
    by : (o : Option ℕ) → IfSome o (λ least. from ≤ least) → IfSome (elim o as (λ _. Option ℕ) [ None ↦ Some p | Some least ↦ Some (min p least) ]) (λ least. from ≤ least)
    by None low = all.0
    by (Some least) low = omega (arith, all.0, low)

points-kept : (queue : List WaitingName) → map (λ w. w.point) queue ≡ points_of (queue_of queue)
points-kept [] = refl
points-kept (w ∷ ws) = ap (λ ps. w.point ∷ ps) (points-kept ws)

-- from a point that is kept on the same entries are there
since-alike : (from : ℕ) (history : List Entry) (entry : Entry) (standing : SessionStatus) (o : Option ℕ) → IfSome o (λ point. from ≤ point)
    → behind_by (λ point. drop (point - from) (drop from history)) entry standing o ≡ behind_by (λ point. drop point history) entry standing o
since-alike from history entry standing None low = refl
since-alike from history entry standing (Some point) low =
    let same : drop (point - from) (drop from history) ≡ drop point history = drop-drop (point - from) from history ∙ ap (λ n. drop n history) (omega (arith, low)) in
    ap (λ es. cond (is_open standing && not (journal_has_room es (entry_size entry))) (Some point) None) same

module _ (hub : Hub) (from : ℕ) (ks : List (ℕ × KeptSession)) (entry : Entry) (k : ℕ × KeptSession) (p : ℕ × Session) (since : WaitSince from k) (s : SessionFits hub k p) where
  points-alike : map (λ w. w.point) k.1.queue ≡ points_of p.1.queue
  points-alike = points-kept k.1.queue ∙ ap points_of s.stands.queue

  behind-alike : behind_at (kept_of hub from ks) entry k.1 ≡ behind_at hub entry p.1
  behind-alike =
      since-alike from hub.history entry k.1.standing (least_of (map (λ w. w.point) k.1.queue))
      (least-from from (map (λ w. w.point) k.1.queue) (all-map (λ (w : WaitingName). w.point) (λ point. from ≤ point) k.1.queue since))
      ∙ (λ i. behind_by (λ point. drop point hub.history) entry (s.stands.standing i) (least_of (points-alike i)))

  pub behind-keeps : SessionFits hub (k.0, ended_behind (kept_of hub from ks) entry k.1) (p.0, ended_behind hub entry p.1)
  behind-keeps =
      subst (λ (o : Option ℕ). SessionFits hub (k.0, ended_where keeping (option_map (λ point. ends.Behind point) (behind_at (kept_of hub from ks) entry k.1)) k.1) (p.0, ended_where (plain_keeps (newest hub)) (option_map (λ point. ends.Behind point) o) p.1)) behind-alike
      (ended_where-keeps hub (newest hub) (option_map (λ point. ends.Behind point) (behind_at (kept_of hub from ks) entry k.1)) k p s)
