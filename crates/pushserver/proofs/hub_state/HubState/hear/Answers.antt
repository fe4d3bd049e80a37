-- A datagram that can't be read is ignored.
use Rattle.std.proofs.Common.{◌≡◌, ℕ, ◌≤◌, List, Result, Ok, sym, ap, subst, ◌∙◌, arith}
use Rattle.dnswire.specs.Reading.{hearing_of}
use Rattle.pushserver.specs.declared.given.Heard.{Heard}
use Rattle.pushserver.specs.KeptHubs.{KeptHub, Forgets}
use Rattle.pushserver.specs.HubState.{kept_of}
use Rattle.pushserver.specs.Watched.{allowed, hear_changes}
use Rattle.pushserver.proofs.GiveSteps.{on_each_ok}
use Rattle.livesessions.proofs.NotedSessions.{counts-nothing}
use Rattle.rrset.specs.declared.record.Hearing.{Hearing}
use Rattle.history.specs.States.{entry_size, max_journal_octets}
use Rattle.history.specs.declared.entry.Entry.TheVariants as entries
use Rattle.pushserver.specs.declared.given.Why.{Why}
use Rattle.std.specs.Prelude.{IfOk}
use Rattle.pushserver.specs.Hubs.{hear}
use Rattle.pushserver.proofs.ForgottenEntries.{forgets-same}
use Rattle.pushserver.proofs.Observed.{are_octets}
use Rattle.pushserver.proofs.Offering.{read-fits, read-is, unread-is}
use Rattle.pushserver.proofs.hub_state.HubState.hear.Goals as goal

pub enter_hearing-requires-clause-fits : goal.enter_hearing-requires-clause-fits
enter_hearing-requires-clause-fits g c =
    (subst (λ (r : Result Hearing Why). IfOk r (λ hearing. (link : ℕ) → entry_size (entries.Heard link hearing) ≤ max_journal_octets)) c.in-Ok.is
    (read-fits c.args.datagram.now (are_octets c.args.datagram.now (λ i h. omega (arith, c.type_inv.datagram i))) c.args.read c.requires.read)) c.args.link

pub returns-in-Err-clause-heard : goal.returns-in-Err-clause-heard
returns-in-Err-clause-heard g c = sym (ap (λ (r : Heard × KeptHub). r.0) (unread-is (kept_of c.args.self.now) c.args.link c.args.datagram.now c.in-Err.why (c.requires.read ∙ c.in-Err.is)))

pub returns-in-Err-clause-hub : goal.returns-in-Err-clause-hub
returns-in-Err-clause-hub g c =
    forgets-same (hear (kept_of c.args.self.now) c.args.link c.args.datagram.now).1 (kept_of c.args.self.now)
    (sym (ap (λ (r : Heard × KeptHub). r.1) (unread-is (kept_of c.args.self.now) c.args.link c.args.datagram.now c.in-Err.why (c.requires.read ∙ c.in-Err.is))))

pub returns-in-Err-clause-steps : goal.returns-in-Err-clause-steps
returns-in-Err-clause-steps g c = counts-nothing (allowed (kept_of c.args.self.now) (hear_changes (kept_of c.args.self.now) c.args.link c.args.datagram.now)) c.args.steps.now

pub returns-in-Ok-clause-steps : goal.returns-in-Ok-clause-steps
returns-in-Ok-clause-steps g c = c.enter_hearing.ensures.steps c.args.datagram.now (read-is (hearing_of c.args.datagram.now) c.in-Ok.hearing (c.requires.read ∙ c.in-Ok.is))

pub returns-in-Ok-clause-hub : goal.returns-in-Ok-clause-hub
returns-in-Ok-clause-hub g c =
    on_each_ok c.enter_hearing.result (λ (all : (datagram : List ℕ) → hearing_of datagram ≡ Ok c.in-Ok.hearing → Forgets (hear (kept_of c.args.self.now) c.args.link datagram).1 (kept_of c.enter_hearing.new.self)).
    all c.args.datagram.now (read-is (hearing_of c.args.datagram.now) c.in-Ok.hearing (c.requires.read ∙ c.in-Ok.is))) c.enter_hearing.ensures.hub
