-- A kept session and the plain one: the reaction to a message for which nothing else of the server is needed.
use Rattle.std.proofs.Common.{◌≡◌, ℕ, Bool, true, false, List, [], Option, Some, None, sym, subst, arith}
use Rattle.std.specs.Int.{w16, from_be_bytes}
use Rattle.rrset.specs.Header.{id_of}
use Rattle.dsotlv.specs.Messages.{head_of, primary_data}
use Rattle.dsotlv.specs.Answers.{answer_to, grant_to, not_implemented}
use Rattle.dsotlv.specs.declared.message.DsoHead.{DsoHead}
use Rattle.dsosession.specs.Reactions.{server_reaction}
use Rattle.dsosession.specs.declared.session.EndReason.TheVariants as ends
use Rattle.dsosession.specs.declared.session.Timers.{Timers}
use Rattle.dsosession.specs.declared.session.Reaction.{Reaction}
use Rattle.dsosession.specs.declared.session.Reaction.TheVariants.{Answer, Grant, Abort, Subscribe, Unsubscribe, Reconfirm, Update, Query, NotImplemented}
use Rattle.pushsession.specs.Kept.{KeptSession, keeping}
use Rattle.pushsession.specs.Reactions.{by_itself, reacts_itself}
use Rattle.pushserver.specs.PlainHubs.{Hub, Session, plain_keeps}
use Rattle.pushserver.proofs.session_steps.Standing.{ended-keeps}
use Rattle.pushserver.proofs.session_steps.Saying.{answers-keeps, grants-keeps, unsubscribes-keeps}
use Rattle.pushserver.proofs.session_steps.Parts.{SessionFits}
use Rattle.pushserver.proofs.hub_steps.Cases.{itself_as}

module _ (hub : Hub) (n : ℕ) where
  pub by_itself-keeps : (reaction : Reaction) (timers : Timers) (now : ℕ) (message : List ℕ) (k : ℕ × KeptSession) (p : ℕ × Session) → p.1.output ≡ []
      → SessionFits hub k p → SessionFits hub (k.0, by_itself keeping reaction timers now message k.1) (p.0, by_itself (plain_keeps n) reaction timers now message p.1)
  by_itself-keeps (Answer rcode) timers now message k p silent s = answers-keeps hub n false now (answer_to (id_of message) rcode) k p silent (omega arith) s
  by_itself-keeps Grant timers now message k p silent s = grants-keeps hub timers _ _ (answers-keeps hub n true now (grant_to (id_of message) timers.inactivity timers.keepalive) k p silent (omega arith) s)
  by_itself-keeps (Abort reason) timers now message k p silent s = ended-keeps hub n reason k p s
  by_itself-keeps Unsubscribe timers now message k p silent s = unsubscribes-keeps hub n (from_be_bytes w16 (primary_data message)) k p s
  by_itself-keeps NotImplemented timers now message k p silent s = answers-keeps hub n false now (not_implemented message) k p silent (omega arith) s
  by_itself-keeps Subscribe timers now message k p silent s = s
  by_itself-keeps Reconfirm timers now message k p silent s = s
  by_itself-keeps Update timers now message k p silent s = s
  by_itself-keeps Query timers now message k p silent s = s

  pub itself-keeps : (timers : Timers) (now : ℕ) (message : List ℕ) (k : ℕ × KeptSession) (p : ℕ × Session) → p.1.output ≡ []
      → SessionFits hub k p → SessionFits hub (k.0, reacts_itself keeping timers now message k.1) (p.0, reacts_itself (plain_keeps n) timers now message p.1)
  itself-keeps timers now message k p silent s = by (head_of message)
    where
      by : (o : Option DsoHead) → SessionFits hub (k.0, itself_as keeping timers now message k.1 o) (p.0, itself_as (plain_keeps n) timers now message p.1 o)
      by None = ended-keeps hub n ends.Short k p s
      by (Some head) =
          subst (λ (b : Bool). SessionFits hub (k.0, by_itself keeping (server_reaction head b) timers now message k.1) (p.0, itself_as (plain_keeps n) timers now message p.1 (Some head))) (sym s.stands.established)
          (by_itself-keeps (server_reaction head p.1.established) timers now message k p silent s)
