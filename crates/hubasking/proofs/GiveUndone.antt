-- Where a call of `give` has no memory, what was made ready is taken back.
--     undone      what is kept, and what is asked, are as before
use Rattle.std.proofs.Common.{◌≡◌, ℕ, List, refl, sym, ap, subst, ◌∙◌}
use Rattle.linkask.specs.Reasons.{LinkAsking}
use Rattle.linkreasons.specs.AllReasons.{AllReasons, AreFollowed, KeepsBounds, askings_of, but_last, doubted_less, in_session, only_from}
use Rattle.push_base.specs.Cases.{changed_at}
use Rattle.linkreasons.specs.Laws.{FewerThenFewer, FollowsReasons, NoneGoes}
use Rattle.pushserver.specs.Hubs.{state_now}
use Rattle.pushserver.specs.KeptHubs.{KeptHub}
use Rattle.hubasking.specs.KeptReasons.{AreKept}
use Rattle.hubasking.specs.Turns.{Drops, HasReason, IsDoubted, IsReady, IsStill, TakesBack, Undoes}
use Rattle.hubasking.specs.declared.giving.Ready.{Ready}
use Rattle.hubasking.specs.declared.giving.Ready.TheVariants as readies
use Rattle.hubasking.proofs.Leading.{Sessions, want-all}
use Rattle.hubasking.proofs.Seated.{again-matched}
use Rattle.hubasking.proofs.TakenBack.{back-again, same-again, same-undoubted}

module _ (fewer : FewerThenFewer) (follows : FollowsReasons) (none_goes : NoneGoes) (k : KeptHub) (number : ℕ) (before : AllReasons) (kept : AreKept k before) (told : AreFollowed before) where
  abbrev Undone : AllReasons → Type 0
  Undone new = AreKept k new × (askings_of new ≡ askings_of before)

  again : (new : AllReasons) → new.sessions ≡ before.sessions → askings_of new ≡ askings_of before → KeepsBounds before new → Undone new
  again new sessions asked bounds = (
    record {
      plain = kept.plain;
      stands = kept.stands;
      timely = kept.timely;
      sessions = sessions ∙ kept.sessions;
      links = again-matched (state_now k).links before new kept.links asked bounds;
    },
    asked,
  )

  reason-undone : (made new : AllReasons) → HasReason k number before made → Drops number but_last made new → Undone new
  reason-undone made new has drops =
      let sessions : new.sessions ≡ before.sessions = drops.sessions ∙ ap (λ (s : Sessions). in_session number but_last s) has.sessions ∙ back-again number has.reason before.sessions in
      again new sessions
      (drops.askings ∙ (λ i. only_from 0 (sessions i) (has.askings i)) ∙ same-again fewer follows none_goes before.sessions 0 has.reason.link has.reason.question (askings_of before) (want-all before.sessions before.links told))
      (λ rows link b. drops.bounds rows link (has.bounds rows link b))

  doubt-undone : (link : ℕ) (made new : AllReasons) → IsDoubted k number link before made → TakesBack link made new → Undone new
  doubt-undone link made new doubts takes =
      let sessions : new.sessions ≡ before.sessions = takes.sessions ∙ doubts.sessions in
      again new sessions
      (takes.askings ∙ (λ i. only_from 0 (sessions i) (changed_at link doubted_less (doubts.askings i))) ∙ same-undoubted fewer follows none_goes before.sessions 0 link doubts.key doubts.heard (askings_of before) (want-all before.sessions before.links told))
      (λ rows at b. takes.bounds rows at (doubts.bounds rows at b))

  pub undone : (ready : Ready) (made new : AllReasons) → IsReady k number ready before made → Undoes number ready made new → Undone new
  undone readies.Nothing made new still same = subst Undone (sym (same ∙ still.same)) (kept, refl)
  undone readies.Reason made new has drops = reason-undone made new has drops
  undone (readies.Doubt link) made new doubts takes = doubt-undone link made new doubts takes
