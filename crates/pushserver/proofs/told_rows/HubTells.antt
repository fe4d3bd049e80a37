-- What a server keeps can be told: the records now, and those that names which wait in its sessions had.
--     StatesTell hub      each state of its history is tellable
--     hub_told, session_packable, hubs_tell
use Rattle.std.proofs.Common.{◌≡◌, ℕ, ◌≤◌, Bool, true, List, [], ◌∷◌, Option, Some, None, sym, ap, subst, arith}
use Rattle.std.specs.Prelude.{IfSome, IsTrue, not}
use Rattle.std.specs.List.{AllByRecursion, list_all}
use Rattle.rrset.specs.RecordSet.{RecordSet}
use Rattle.coalesce.specs.Laws.{is_side, is_sent_so}
use Rattle.rrset.specs.KeyedRows.{Rows}
use Rattle.rrset.specs.Records.{same_key}
use Rattle.rrset.specs.RecordSet.{is_in_order, is_record_set, shows_its_key, at_name, put, without, with_values}
use Rattle.rrset.specs.declared.record.Key.{Key}
use Rattle.rrset.specs.declared.record.Shown.{Shown}
use Rattle.rrset.proofs.OldValues.{in_order-with_values}
use Rattle.zoneupdate.proofs.Filters.{holds, is_true, and-left, and-right, and-both}
use Rattle.zoneupdate.proofs.SomeAndAll.{all-filter}
use Rattle.zoneupdate.proofs.RecordSets.{all-put}
use Rattle.dnsname.specs.Names.{Labels}
use Rattle.coalesce.specs.Waiting.{WaitingName, OldValue, IsPackable, CanBePacked, records_then, values_of}
use Rattle.history.specs.States.{state_at, records}
use Rattle.pushsession.specs.Kept.{KeptSession}
use Rattle.pushserver.specs.PlainHubs.{Session, Hub}
use Rattle.pushserver.specs.Hubs.{newest, state_now, records_now, session_of}
use Rattle.pushserver.specs.KeptHubs.{KeptHub, IsOldOf, KeepsSent, StandsFor}
use Rattle.pushserver.specs.Rows.{AreTold, IsTellable, is_tellable}
use Rattle.pushserver.specs.Simulation.{HubsTell}
use Rattle.subscr.specs.Asked.{Asked}
use Rattle.pushserver.proofs.session_steps.Parts.{SessionFits}
use Rattle.pushserver.proofs.hub_steps.Standing.{FoundBoth, both_found, fitting}
use Rattle.pushserver.proofs.told_rows.Told.{tellable-told, sent-from}

-- each state of the history is tellable
abbrev pub StatesTell : Hub → Type 0
StatesTell hub = (point : ℕ) → point ≤ newest hub → IsTellable (state_at hub.start hub.history point)

pub hub_told : (hub : Hub) → StatesTell hub → AreTold (records_now hub)
hub_told hub states = tellable-told (state_now hub) (states (newest hub) (omega arith))

-- ---- names that wait

-- what all records and all old values pass, the records that a name had pass
passed-then : (f : Key × Shown → Bool) (values : Rows OldValue) (set : RecordSet) → AllByRecursion (λ e. IfSome e.1.before (λ shown. f (e.0, shown) ≡ true)) values → list_all f set ≡ true → list_all f (with_values (values_of values) set) ≡ true
passed-then f [] set old all = all
passed-then f (e ∷ es) set old all = passed-then f es _ old.1 (by e.1.before old.0)
  where
    by : (o : Option Shown) → IfSome o (λ shown. f (e.0, shown) ≡ true) → list_all f (elim o as (λ _. RecordSet) [ None ↦ without (same_key e.0) set | Some shown ↦ put e.0 shown set ]) ≡ true
    by None passes = all-filter f (λ d. not (same_key e.0 d.0)) set all
    by (Some shown) passes = all-put f e.0 shown set all passes

old-sent : (name : Labels) (values : Rows OldValue) → AllByRecursion (IsOldOf name) values → AllByRecursion (λ e. IfSome e.1.before (λ shown. is_sent_so name (e.0, shown) ≡ true)) values
old-sent name [] old = tt
old-sent name (e ∷ es) old = (by e.1.before old.0.1, old-sent name es old.1)
  where
    by : (o : Option Shown) → IfSome o (λ shown. IsTrue (is_tellable (e.0, shown)) × IsTrue (shows_its_key (e.0, shown))) → IfSome o (λ shown. is_sent_so name (e.0, shown) ≡ true)
    by None is = tt
    by (Some shown) is = sent-from name (e.0, shown) old.0.0 is.0

old-shows : (name : Labels) (values : Rows OldValue) → AllByRecursion (IsOldOf name) values → AllByRecursion (λ e. IfSome e.1.before (λ shown. shows_its_key (e.0, shown) ≡ true)) values
old-shows name [] old = tt
old-shows name (e ∷ es) old = (by e.1.before old.0.1, old-shows name es old.1)
  where
    by : (o : Option Shown) → IfSome o (λ shown. IsTrue (is_tellable (e.0, shown)) × IsTrue (shows_its_key (e.0, shown))) → IfSome o (λ shown. shows_its_key (e.0, shown) ≡ true)
    by None is = tt
    by (Some shown) is = is.1

side-then : (rows : RecordSet) (w : WaitingName) → AllByRecursion (IsOldOf w.name) w.values → is_side w.name (at_name w.name rows) ≡ true → is_side w.name (records_then rows w) ≡ true
side-then rows w old side =
    let there = at_name w.name rows in
    let set = and-left (is_record_set there) (list_all (is_sent_so w.name) there) side in
    and-both (is_record_set (records_then rows w)) (list_all (is_sent_so w.name) (records_then rows w))
    (and-both (is_in_order (records_then rows w)) (list_all shows_its_key (records_then rows w))
    (is_true _ (in_order-with_values (values_of w.values) there (holds _ (and-left (is_in_order there) (list_all shows_its_key there) set))))
    (passed-then shows_its_key w.values there (old-shows w.name w.values old) (and-right (is_in_order there) (list_all shows_its_key there) set)))
    (passed-then (is_sent_so w.name) w.values there (old-sent w.name w.values old) (and-right (is_record_set there) (list_all (is_sent_so w.name) there) side))

pub waiting_packable : (hub : Hub) (asked : Asked) → StatesTell hub → (w : WaitingName) → KeepsSent hub.start hub.history asked w → IsPackable (records_now hub) w
waiting_packable hub asked states w keeps =
    let now = hub_told hub states w.name in
    ((w.name, side-then (records_now hub) w keeps.values now.0, now.0), now.1)

each_packable : (hub : Hub) (asked : Asked) → StatesTell hub → (queue : List WaitingName) → AllByRecursion (KeepsSent hub.start hub.history asked) queue → CanBePacked (records_now hub) queue
each_packable hub asked states [] keeps = tt
each_packable hub asked states (w ∷ queue) keeps = (waiting_packable hub asked states w keeps.0, each_packable hub asked states queue keeps.1)

-- the names that wait in a session that is kept
pub session_packable : (hub : Hub) → StatesTell hub → (k : ℕ × KeptSession) (p : ℕ × Session) → SessionFits hub k p → CanBePacked (records_now hub) k.1.queue
session_packable hub states k p stands = each_packable hub k.1.subscriptions.asked states k.1.queue stands.stands.keeps

-- ---- all sessions

-- the records now of what is kept
kept_now : (k : KeptHub) (hub : Hub) → StandsFor k hub → records_now hub ≡ records_now k
kept_now k hub stands = sym (ap records stands.state)

pub hubs_tell : HubsTell
hubs_tell k hub stands = (
  subst AreTold (kept_now k hub stands) (hub_told hub stands.sound.states),
  λ number session is. subst (λ (rows : RecordSet). CanBePacked rows session.queue) (kept_now k hub stands)
      (packable number session (session_of hub number) (subst (λ (o : Option KeptSession). FoundBoth hub number o (session_of hub number)) is (both_found hub number k.sessions hub.sessions (fitting stands)))),
)
  where
    packable : (number : ℕ) (session : KeptSession) (o : Option Session) → FoundBoth hub number (Some session) o → CanBePacked (records_now hub) session.queue
    packable number session None both = absurd both
    packable number session (Some p) both = session_packable hub stands.sound.states (number, session) (number, p) both
