-- An update that is offered.
use Rattle.std.proofs.Common.{List, Option, ℕ, ◌≤◌, sym, ap, subst, ◌∙◌}
use Rattle.push_base.specs.Counted.{CountsUpTo}
use Rattle.rrset.specs.declared.record.Changed.{Changed}
use Rattle.pushserver.specs.Watched.{allowed, update_changes}
use Rattle.livesessions.proofs.NotedSessions.{counts-nothing}
use Rattle.pushserver.proofs.Stepping.{update-changes}
use Rattle.std.specs.Prelude.{ok_or, IfSome}
use Rattle.history.specs.States.{entry_size, max_journal_octets}
use Rattle.history.specs.declared.entry.Entry.TheVariants as entries
use Rattle.rrset.specs.Rcodes.{formerr}
use Rattle.dnswire.specs.declared.message.Update.{Update}
use Rattle.pushserver.specs.HubState.{kept_of}
use Rattle.pushserver.specs.KeptHubs.{KeptHub, Forgets}
use Rattle.pushserver.specs.Offering.{code_of}
use Rattle.pushserver.specs.Hubs.{update}
use Rattle.pushserver.proofs.ForgottenEntries.{forgets-same}
use Rattle.pushserver.proofs.Offering.{update-offered, update-unread}
use Rattle.pushserver.proofs.hub_state.HubState.judge.Goals as goal

pub returns-clause-code : goal.returns-clause-code
returns-clause-code g c = λ message reads.
    c.code_of.ensures ∙ ap code_of c.in_ok-offered.ensures.offered
    ∙ sym (ap (λ (r : ℕ × KeptHub). r.0) (update-offered (kept_of c.args.self.now) message c.in-Some.update (reads ∙ ap (λ (o : Option Update). ok_or o formerr) c.in-Some.is)))

pub returns-clause-hub : goal.returns-clause-hub
returns-clause-hub g c = λ message reads.
    subst (λ (k : KeptHub). Forgets k (kept_of c.offer.new.self))
    (sym (ap (λ (r : ℕ × KeptHub). r.1) (update-offered (kept_of c.args.self.now) message c.in-Some.update (reads ∙ ap (λ (o : Option Update). ok_or o formerr) c.in-Some.is))))
    c.in_ok-offered.ensures.hub

pub returns-in_default-clause-steps : goal.returns-in_default-clause-steps
returns-in_default-clause-steps g c = λ message reads. counts-nothing (allowed (kept_of c.args.self.now) (update_changes (kept_of c.args.self.now) message)) c.args.steps.now

pub returns-in_err-offered-clause-steps : goal.returns-in_err-offered-clause-steps
returns-in_err-offered-clause-steps g c = λ message reads.
    subst (λ (cs : List Changed). CountsUpTo (allowed (kept_of c.args.self.now) cs) c.args.steps.now c.offer.new.steps) (update-changes (kept_of c.args.self.now) message c.in-Some.update (reads ∙ ap (λ (o : Option Update). ok_or o formerr) c.in-Some.is)) c.offer.ensures.steps

pub returns-clause-steps : goal.returns-clause-steps
returns-clause-steps g c = λ message reads.
    subst (λ (cs : List Changed). CountsUpTo (allowed (kept_of c.args.self.now) cs) c.args.steps.now c.offer.new.steps) (update-changes (kept_of c.args.self.now) message c.in-Some.update (reads ∙ ap (λ (o : Option Update). ok_or o formerr) c.in-Some.is)) c.offer.ensures.steps

pub offer-requires-clause-fits : goal.offer-requires-clause-fits
offer-requires-clause-fits g c = subst (λ (o : Option Update). IfSome o (λ u. entry_size (entries.Update u) ≤ max_journal_octets)) c.in-Some.is c.requires.fits

pub returns-in_default-clause-code : goal.returns-in_default-clause-code
returns-in_default-clause-code g c = λ message reads. sym (ap (λ (r : ℕ × KeptHub). r.0) (update-unread (kept_of c.args.self.now) message formerr (reads ∙ ap (λ (o : Option Update). ok_or o formerr) c.in_default.is)))

pub returns-in_default-clause-hub : goal.returns-in_default-clause-hub
returns-in_default-clause-hub g c = λ message reads.
    forgets-same (update (kept_of c.args.self.now) message).1 (kept_of c.args.self.now)
    (sym (ap (λ (r : ℕ × KeptHub). r.1) (update-unread (kept_of c.args.self.now) message formerr (reads ∙ ap (λ (o : Option Update). ok_or o formerr) c.in_default.is))))
