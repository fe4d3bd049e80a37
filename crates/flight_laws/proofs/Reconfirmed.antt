-- An entry of a reconfirmation changes no record, and so nothing of any session.
--     session-reconfirmed      a session behind it
use Rattle.std.proofs.Common.{◌≡◌, ℕ, List, [], ap, ◌∙◌}
use Rattle.rrset.specs.RecordSet.{changes}
use Rattle.rrset.specs.declared.record.Changed.{Changed}
use Rattle.rrset.specs.declared.record.Key.{Key}
use Rattle.rrset.proofs.SameRows.{changes-self}
use Rattle.history.specs.States.{records}
use Rattle.history.specs.declared.entry.Entry.TheVariants as entries
use Rattle.pushsession.specs.Sessions.{noted}
use Rattle.pushserver.specs.Hubs.{newest, state_now, records_now, keeps_now, with_entry, entry_changes}
use Rattle.pushserver.specs.PlainHubs.{Session, Hub}
use Rattle.pushserver.proofs.told_rows.Histories.{state_at-last}
use Rattle.history.proofs.Reconfirmed.{records-reconfirmed}

module _ (hub : Hub) (link : ℕ) (key : Key) where
  changes-nothing : entry_changes (entries.Reconfirm link key) hub ≡ []
  changes-nothing =
      let same : records_now (with_entry (entries.Reconfirm link key) hub) ≡ records_now hub = ap records (state_at-last hub.start hub.history (entries.Reconfirm link key)) ∙ records-reconfirmed (state_now hub) link key in
      ap (changes (records_now hub)) same ∙ changes-self (records_now hub)

  pub session-reconfirmed : (s : Session) → noted (keeps_now hub) (entry_changes (entries.Reconfirm link key) hub) (newest hub) s ≡ s
  session-reconfirmed s = ap (λ (changed : List Changed). noted (keeps_now hub) changed (newest hub) s) changes-nothing
