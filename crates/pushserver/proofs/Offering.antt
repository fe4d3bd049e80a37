-- What becomes of an entry that is offered, and of the calls that offer one.
--     offered-refused, offered-idle, offered-accepted      by the answer to its plan
--     plan-held, plan-changes, offered-room      what is entered from a plan that is held
--     update-offered, hear-offered, gone-offered, reconfirm-offered, moment-offered      each call that makes an entry offers it
--     update-unread, reconfirm-none      no update; no key to reconfirm
--     found-fits, read-fits      what is made of one message fits an empty journal
--     moment-early, moment-last, moment-made      an earlier moment; one at the last point; a later one, which is one for each session, too
--     unread-is, read-is      a datagram that can't be read, and one that can
use Rattle.std.proofs.Common.{◌≡◌, ℕ, ◌<◌, ◌≤◌, Bool, true, false, cond, not, ◌&&◌, List, Option, Some, None, Result, Ok, Err, refl, sym, ap, ◌∙◌, nat_lt, lt-ltb, arith}
use Rattle.std.specs.Prelude.{IfOk, IfSome, is_some, ok_or}
use Rattle.rrset.specs.Rcodes.{formerr}
use Rattle.history.proofs.MessageSizes.{updates-fit, hearings-fit}
use Rattle.push_base.specs.Cases.{◌>>=◌, fault_as}
use Rattle.rrset.specs.RecordSet.{changes}
use Rattle.rrset.specs.declared.record.Changed.{Changed}
use Rattle.rrset.specs.declared.record.Hearing.{Hearing}
use Rattle.rrset.specs.declared.record.Key.{Key}
use Rattle.rrset.specs.declared.record.Rr.{Rr}
use Rattle.dsotlv.specs.Laws.{AreOctets}
use Rattle.dnswire.specs.Reading.{hearing_of}
use Rattle.dnswire.specs.declared.message.HearFault.{HearFault}
use Rattle.dnswire.specs.declared.message.Update.{Update}
use Rattle.history.specs.Kept as pasts
use Rattle.history.specs.Kept.{Past, PointsKept, IsHeld, held_for, told_plan}
use Rattle.history.specs.Plans.{Plan, refuse, idle, accept, planned}
use Rattle.history.specs.States.{State, accepts, after, records, reconfirm_key, update_in, updated, entry_size, max_journal_octets}
use Rattle.history.specs.declared.entry.Entry.{Entry}
use Rattle.history.specs.declared.entry.Entry.TheVariants as entries
use Rattle.history.specs.declared.plan.Planned.TheVariants as plans
use Rattle.pushserver.specs.declared.entering.Offered.{Offered}
use Rattle.pushserver.specs.declared.entering.Offered.TheVariants as offers
use Rattle.pushserver.specs.declared.given.Heard.{Heard}
use Rattle.pushserver.specs.declared.given.Heard.TheVariants.{Ignored}
use Rattle.pushserver.specs.declared.given.Why.{Why}
use Rattle.pushsession.specs.Kept.{keeping}
use Rattle.pushsession.specs.Sessions.{timed}
use Rattle.pushserver.specs.Giving.{reconfirm}
use Rattle.pushserver.specs.KeptHubs.{KeptHub}
use Rattle.pushserver.specs.Hubs.{SessionKind, HubOf, now, state_now, each_session, entry_changes, entered_keeping, can_enter, why_not, update, hear, link_gone, moment}
use Rattle.pushserver.specs.HubState.{kept_of}
use Rattle.pushserver.specs.declared.hub_state.HubState.{HubState}
use Rattle.pushserver.specs.Offering.{offered_by, offered, code_of, heard_of, is_made}
use Rattle.history.proofs.ToldPlans.{changes-told, held-told}
use Rattle.pushserver.proofs.EntrySteps.{same_past, with_past}
use Rattle.pushserver.proofs.hub_steps.Cases.{enters_update, update_as, enters_hearing, hear_as, enters_going, key_as}

module _ {A Q M S : Type 0} {kind : SessionKind A Q M S} (hub : HubOf kind) (entry : Entry) where
  -- what an accepted one becomes, where one more may be made
  abbrev pub by_room : Bool → Offered × HubOf kind
  by_room room = cond room (offers.Made, entered_keeping entry hub) (offers.Last, hub)

  pub offered-refused : (code : ℕ) → plans.Refuse code ≡ told_plan (planned (state_now hub) entry) → offered entry hub ≡ (offers.Refused code, hub)
  offered-refused code = by (planned (state_now hub) entry)
    where
      same : (a : ℕ) → plans.Refuse code ≡ plans.Refuse a → a ≡ code
      same a e = cc

      by : (plan : Plan) → plans.Refuse code ≡ told_plan plan → offered_by plan entry hub ≡ (offers.Refused code, hub)
      by (refuse a) e = ap (λ (c : ℕ). (offers.Refused c, hub)) (same a e)
      by idle e = cc
      by (accept changed) e = cc

  pub offered-idle : plans.Idle ≡ told_plan (planned (state_now hub) entry) → offered entry hub ≡ (offers.Idle, hub)
  offered-idle = by (planned (state_now hub) entry)
    where
      by : (plan : Plan) → plans.Idle ≡ told_plan plan → offered_by plan entry hub ≡ (offers.Idle, hub)
      by (refuse a) e = cc
      by idle e = refl
      by (accept changed) e = cc

  pub offered-accepted : (changed : List Changed) (room : Bool) → plans.Accept changed ≡ told_plan (planned (state_now hub) entry) → can_enter hub ≡ room → offered entry hub ≡ by_room room
  offered-accepted changed room told is = by (planned (state_now hub) entry) told ∙ ap by_room is
    where
      by : (plan : Plan) → plans.Accept changed ≡ told_plan plan → offered_by plan entry hub ≡ by_room (can_enter hub)
      by (refuse a) e = cc
      by idle e = cc
      by (accept new) e = refl

  -- an entry that isn't refused
  abbrev pub by_test : Bool → Offered × HubOf kind
  by_test accepted = offered_by (cond accepted (accept (changes (records (state_now hub)) (records (after (state_now hub) entry)))) idle) entry hub

-- ---- from a plan that is held

module _ (keeping : HubState) (past : Past) (same : past ≡ keeping.points.past) (entry : Entry) (changed : List Changed) (told : plans.Accept changed ≡ told_plan (planned (state_now (kept_of keeping)) entry)) where
  pub plan-held : (points : PointsKept) → points.past ≡ past → points.held ≡ held_for (state_now (kept_of keeping)) entry → IsHeld points entry
  plan-held points here held = (held ∙ ap (λ (p : Past). held_for (pasts.state_now p) entry) (sym (here ∙ same)), ap is_some held ∙ held-told (state_now (kept_of keeping)) entry changed told)

  pub plan-changes : changed ≡ entry_changes entry (with_past past (kept_of keeping))
  plan-changes = changes-told (pasts.state_now past) entry changed (told ∙ ap (λ (p : Past). told_plan (planned (pasts.state_now p) entry)) (sym same))

  pub offered-room : (room : Bool) → room ≡ can_enter (with_past past (kept_of keeping)) → offered entry (kept_of keeping) ≡ by_room (kept_of keeping) entry room
  offered-room room is = offered-accepted (kept_of keeping) entry changed room told (ap can_enter (sym (same_past keeping past same)) ∙ sym is)

-- ---- the calls

module _ {A Q M S : Type 0} {kind : SessionKind A Q M S} (hub : HubOf kind) where
  abbrev pub as_update : Offered × HubOf kind → ℕ × HubOf kind
  as_update o = (code_of o.0, o.1)

  abbrev pub as_hearing : Offered × HubOf kind → Heard × HubOf kind
  as_hearing o = (heard_of o.0, o.1)

  abbrev pub as_going : Offered × HubOf kind → Bool × HubOf kind
  as_going o = (is_made o.0, o.1)

  pub update-offered : (message : List ℕ) (u : Update) → update_in message ≡ Ok u → update hub message ≡ as_update (offered (entries.Update u) hub)
  update-offered message u reads = ap (λ (r : Result Update ℕ). update_as hub (r >>= λ v. updated (state_now hub) v >>= λ _. Ok v)) reads ∙ by (updated (state_now hub) u)
    where
      by_room_of : (room : Bool) → enters_update hub u room ≡ as_update (by_room hub (entries.Update u) room)
      by_room_of true = refl
      by_room_of false = refl

      by : (r : Result State ℕ) → update_as hub (r >>= λ _. Ok u) ≡ as_update (offered_by (elim r as (λ _. Plan) [ Err code ↦ refuse code | Ok later ↦ accept (changes (records (state_now hub)) (records later)) ]) (entries.Update u) hub)
      by (Err code) = refl
      by (Ok later) = by_room_of (can_enter hub)

  -- a message that is no update
  pub update-unread : (message : List ℕ) (code : ℕ) → update_in message ≡ Err code → update hub message ≡ (code, hub)
  update-unread message code reads = ap (λ (r : Result Update ℕ). update_as hub (r >>= λ v. updated (state_now hub) v >>= λ _. Ok v)) reads

  pub hearing-offered : (link : ℕ) (hearing : Hearing) → hear_as hub link (Ok hearing) ≡ as_hearing (offered (entries.Heard link hearing) hub)
  hearing-offered link hearing = by (accepts (state_now hub) (entries.Heard link hearing))
    where
      by_room_of : (room : Bool) → enters_hearing hub link hearing true room ≡ as_hearing (by_room hub (entries.Heard link hearing) room)
      by_room_of true = refl
      by_room_of false = refl

      by : (accepted : Bool) → enters_hearing hub link hearing accepted (can_enter hub) ≡ as_hearing (by_test hub (entries.Heard link hearing) accepted)
      by true = by_room_of (can_enter hub)
      by false = refl

  pub hear-offered : (link : ℕ) (datagram : List ℕ) (hearing : Hearing) → hearing_of datagram ≡ Ok hearing → hear hub link datagram ≡ as_hearing (offered (entries.Heard link hearing) hub)
  hear-offered link datagram hearing reads = ap (hear_as hub link) reads ∙ hearing-offered link hearing

  pub gone-offered : (link : ℕ) → link_gone hub link ≡ as_going (offered (entries.LinkGone link) hub)
  gone-offered link = by (accepts (state_now hub) (entries.LinkGone link))
    where
      by_room_of : (room : Bool) → enters_going hub link room ≡ as_going (by_room hub (entries.LinkGone link) room)
      by_room_of true = refl
      by_room_of false = refl

      by : (accepted : Bool) → enters_going hub link (accepted && can_enter hub) ≡ as_going (by_test hub (entries.LinkGone link) accepted)
      by true = by_room_of (can_enter hub)
      by false = refl

  pub key-offered : (link : ℕ) (key : Key) → key_as hub (Some (link, key)) ≡ (offered (entries.Reconfirm link key) hub).1
  key-offered link key = by (accepts (state_now hub) (entries.Reconfirm link key))
    where
      by_room_of : (room : Bool) → cond room (entered_keeping (entries.Reconfirm link key) hub) hub ≡ (by_room hub (entries.Reconfirm link key) room).1
      by_room_of true = refl
      by_room_of false = refl

      by : (accepted : Bool) → cond (accepted && can_enter hub) (entered_keeping (entries.Reconfirm link key) hub) hub ≡ (by_test hub (entries.Reconfirm link key) accepted).1
      by true = by_room_of (can_enter hub)
      by false = refl

  pub reconfirm-offered : (rr : Rr) (link : ℕ) (key : Key) → reconfirm_key (state_now hub) rr ≡ Some (link, key) → reconfirm hub rr ≡ (offered (entries.Reconfirm link key) hub).1
  reconfirm-offered rr link key found = ap (key_as hub) found ∙ key-offered link key

  pub reconfirm-none : (rr : Rr) → reconfirm_key (state_now hub) rr ≡ None → reconfirm hub rr ≡ hub
  reconfirm-none rr none = ap (key_as hub) none

  pub moment-offered : (t : ℕ) → nat_lt (now hub) t ≡ true → can_enter hub ≡ true → (offered (entries.Moment t) hub).1 ≡ entered_keeping (entries.Moment t) hub
  moment-offered t later room = ap (λ (b : Bool). (by_test hub (entries.Moment t) b).1) later ∙ ap (λ (b : Bool). (by_room hub (entries.Moment t) b).1) room

  -- a datagram that can't be read
  pub unread-is : (link : ℕ) (datagram : List ℕ) (why : Why) → fault_as why_not (hearing_of datagram) ≡ Err why → hear hub link datagram ≡ (Ignored why, hub)
  unread-is link datagram why = by (hearing_of datagram)
    where
      same_why : (a : Why) → ◌≡◌ {A = Result Hearing Why} (Err a) (Err why) → a ≡ why
      same_why a e = cc

      by : (r : Result Hearing HearFault) → fault_as why_not r ≡ Err why → hear_as hub link r ≡ (Ignored why, hub)
      by (Err fault) e = ap (λ (w : Why). (Ignored w, hub)) (same_why (why_not fault) e)
      by (Ok hearing) e = cc

pub read-is : (r : Result Hearing HearFault) (hearing : Hearing) → fault_as why_not r ≡ Ok hearing → r ≡ Ok hearing
read-is (Ok h) hearing e = ap (λ (x : Hearing). Ok x) (same h e)
  where
    same : (h : Hearing) → ◌≡◌ {A = Result Hearing Why} (Ok h) (Ok hearing) → h ≡ hearing
    same h e = cc
read-is (Err fault) hearing e = absurd cc

-- what is made of one message fits an empty journal
pub found-fits : (message : List ℕ) → AreOctets message → (found : Option Update) → update_in message ≡ ok_or found formerr → IfSome found (λ u. entry_size (entries.Update u) ≤ max_journal_octets)
found-fits message octets None reads = tt
found-fits message octets (Some u) reads = updates-fit message u octets reads

pub read-fits : (datagram : List ℕ) → AreOctets datagram → (read : Result Hearing Why) → fault_as why_not (hearing_of datagram) ≡ read → IfOk read (λ hearing. (link : ℕ) → entry_size (entries.Heard link hearing) ≤ max_journal_octets)
read-fits datagram octets (Ok hearing) reads = λ link. hearings-fit datagram link hearing octets (read-is (hearing_of datagram) hearing reads)
read-fits datagram octets (Err why) reads = tt

-- ---- a moment

abbrev moment_by : KeptHub → ℕ → Bool → KeptHub
moment_by k t goes = cond goes (each_session (timed keeping t) (entered_keeping (entries.Moment t) k)) k

pub moment-early : (k : KeptHub) (t : ℕ) → t ≤ now k → moment k t ≡ k
moment-early k t early = ap (λ (b : Bool). moment_by k t (b && can_enter k)) (not-later (now k) t early)
  where
    not-later : (a b : ℕ) → b ≤ a → nat_lt a b ≡ false
    not-later a b low = grind arith

pub moment-last : (k : KeptHub) (t : ℕ) → can_enter k ≡ false → moment k t ≡ k
moment-last k t last = ap (λ (b : Bool). moment_by k t (accepts (state_now k) (entries.Moment t) && b)) last ∙ by (accepts (state_now k) (entries.Moment t))
  where
    by : (a : Bool) → moment_by k t (a && false) ≡ k
    by true = refl
    by false = refl

pub moment-made : (k : KeptHub) (t : ℕ) → now k < t → can_enter k ≡ true → each_session (timed keeping t) (offered (entries.Moment t) k).1 ≡ moment k t
moment-made k t later room =
    let goes = lt-ltb (now k) t later in
    ap (each_session (timed keeping t)) (moment-offered k t goes room) ∙ sym (ap (λ b. moment_by k t (b && can_enter k)) goes ∙ ap (moment_by k t) room)
