-- What the notices after the answer to a SUBSCRIBE lead to.
--     before, after      the note before and after it
--     leads, leads-itself      each subscriber to what is noted after it
--     first_is_read      the notices are read from their message
use Rattle.std.proofs.Common.{◌≡◌, ℕ, ◌≤◌, Bool, true, false, cond, not, List, [], ◌∷◌, length, map, suc, Option, Some, None, IsTrue, sym, ◌∙◌, ap, subst, refl, arith, Ok}
use Rattle.std.specs.Prelude.{unwrap_or, flat_map}
use Rattle.std.specs.List.{AllByRecursion, Contains}
use Rattle.std.specs.Str.{bytes_eq}
use Rattle.push_base.specs.Cases.{is_empty}
use Rattle.dnsname.specs.Names.{Labels, same_name, octets, lower, is_name}
use Rattle.rrset.specs.KeyedRows.{Rows}
use Rattle.rrset.specs.RecordSet.{RecordSet, only, at_name, changes, matching, same_rows, shown_at, with_values}
use Rattle.rrset.specs.declared.record.Key.{Key}
use Rattle.rrset.specs.declared.record.Question.{Question}
use Rattle.rrset.specs.declared.record.Shown.{Shown}
use Rattle.rrset.proofs.InOrder.{in_order-only, same_sets}
use Rattle.rrset.proofs.OldValues.{Values, first-changes, in_order-with_values, keep_all, keep_all-told, shown_at-with_values}
use Rattle.zoneupdate.proofs.Owners.{same_name-itself}
use Rattle.history.proofs.Together.{same_name-turned}
use Rattle.dsotlv.specs.Answers.{push_message}
use Rattle.dsotlv.specs.Notices.{applied_all, notice_octets, notices_of}
use Rattle.dsotlv.specs.declared.message.Notice.{Notice}
use Rattle.subscr.specs.Asked.{wants}
use Rattle.coalesce.specs.Laws.{is_side, can_be_sent}
use Rattle.coalesce.specs.Net.{max_net_message}
use Rattle.coalesce.specs.Waiting.{OldValue, WaitingName, records_then, values_of}
use Rattle.coalesce.specs.FirstAnswers.{first_notices, told_first}
use Rattle.coalesce.proofs.FirstLeads.{first_fills_the_new, first_leads_the_others, first_leaves_other_names, first_fits_one_message, first_is_read_back}
use Rattle.coalesce.proofs.SameNames.{same_name-swapped, same_name-joined}
use Rattle.coalesce.proofs.Sides.{matching-only}
use Rattle.history.specs.States.{state_at, records_at}
use Rattle.history.proofs.Present.{matching-at_name}
use Rattle.pushserver.specs.PlainHubs.{Hub, Session, Subscription, Note, told, note_of, point_in, asks_for, leaves_queue, first_answer, asked_of}
use Rattle.pushserver.specs.Hubs.{newest, records_now}
use Rattle.pushserver.proofs.AskedFor.{matches-name}
use Rattle.pushserver.proofs.hub_steps.Pairs.{all-weaken}
use Rattle.pushserver.proofs.Queues.{in_order-records, point_in-same, same_name-octets}
use Rattle.pushserver.proofs.session_steps.Nets.{asked-alike}
use Rattle.pushserver.proofs.told_rows.HubTells.{StatesTell}
use Rattle.pushserver.proofs.told_rows.Told.{tellable-told}
use Rattle.pushtelling.proofs.Messages.{noted_records}
use Rattle.pushtelling.proofs.Notes.{AnswersAlike, point_in-left, told-below}
use Rattle.pushtelling.proofs.Tells.{IsReadBack}
use Rattle.pushtelling.proofs.Reading.{push_read}

-- ---- records at a point

pub side-at : (hub : Hub) → StatesTell hub → (point : ℕ) → point ≤ newest hub → (name : Labels)
    → IsTrue (is_side name (at_name name (records_at hub.start hub.history point))) × IsTrue (can_be_sent (at_name name (records_at hub.start hub.history point)))
side-at hub states point low name = tellable-told (state_at hub.start hub.history point) (states point low) name

-- ---- what the subscriptions ask

abbrev pub IsAmong : List Subscription → Subscription → Type 0
IsAmong subscriptions s = Contains (asked_of subscriptions) (s.id, s.question)

contains-more : {X : Type 0} (y : X) (xs : List X) (x : X) → Contains xs x → Contains (y ∷ xs) x
contains-more y xs x at = (suc at.0, omega (arith, at.1), at.2)

pub all_among : (subscriptions : List Subscription) → AllByRecursion (IsAmong subscriptions) subscriptions
all_among [] = tt
all_among (s ∷ ss) = ((0, omega arith, refl), all-weaken (IsAmong ss) (IsAmong (s ∷ ss)) (λ t among. contains-more (s.id, s.question) (asked_of ss) (t.id, t.question) among) ss (all_among ss))

asks-wants : (subscriptions : List Subscription) (key : Key) → asks_for subscriptions key ≡ wants key (asked_of subscriptions)
asks-wants subscriptions key = sym (asked-alike subscriptions key)

-- ---- old values of one point

abbrev with_point : ℕ → Values → Rows OldValue
with_point point values = map (λ (e : Key × Option Shown). (e.0, record { before = e.1; point = point })) values

without-point : (point : ℕ) (values : Values) → values_of (with_point point values) ≡ values
without-point point [] = refl
without-point point (e ∷ es) = ap (λ (l : Values). e ∷ l) (without-point point es)

-- ---- the notices, as they are made of what was sent

module _ (hub : Hub) (session : Session) (question : Question) where
  abbrev pub before : Note
  before = note_of (newest hub) session

  abbrev pub there : RecordSet
  there = at_name question.name (records_now hub)

  -- the records of the name up to which it was told
  abbrev pub old : RecordSet
  old = at_name question.name (records_at hub.start hub.history (told before question.name))

  -- old values from which it is made of the records now
  abbrev pub kept : Values
  kept = keep_all (changes old there) []

  abbrev pub waiting : WaitingName
  waiting = record { name = question.name; point = told before question.name; values = with_point (told before question.name) kept }

  pub was-old : records_then (records_now hub) waiting ≡ old
  was-old =
      let now_order = in_order-only (λ key. same_name question.name key.owner) (records_now hub) (in_order-records (state_at hub.start hub.history (newest hub))) in
      let old_order = in_order-only (λ key. same_name question.name key.owner) (records_at hub.start hub.history (told before question.name)) (in_order-records (state_at hub.start hub.history (told before question.name))) in
      ap (λ values. with_values values there) (without-point (told before question.name) kept)
      ∙ same_sets (with_values kept there) old (in_order-with_values kept there now_order) old_order
      (λ q. shown_at-with_values q kept there ∙ keep_all-told q (changes old there) [] (shown_at q there) ∙ first-changes q old there)

  abbrev pub notices : List Notice
  notices = first_notices question (asked_of session.subscriptions) (records_now hub) (Some waiting)

  pub first-is : first_answer hub session question ≡ notices
  first-is = λ i.
      let wanted : Key → Bool = (λ key. asks-wants session.subscriptions key i) in
      told_first (not (same_rows (only wanted (sym was-old i)) (only wanted there))) question wanted there

  -- ---- the note after it

  abbrev pub after : Note
  after = record { queue = leaves_queue question.name session.queue; newest = newest hub }

  abbrev pub stays : Labels → Bool
  stays name = not (same_name question.name name)

  pub stays-alike : AnswersAlike stays
  stays-alike a b e = ap not (same_name-turned question.name a ∙ alike ∙ same_name-turned b question.name)
    where
      alike : same_name a question.name ≡ same_name b question.name
      alike = ap (λ o. bytes_eq o (octets (lower question.name))) (same_name-octets a b e)

  module _ (states : StatesTell hub) (points : AllByRecursion (λ e. e.1 ≤ newest hub) session.queue) where
    now-side : IsTrue (is_side question.name there)
    now-side = (side-at hub states (newest hub) (omega arith) question.name).0

    now-sent : IsTrue (can_be_sent there)
    now-sent = (side-at hub states (newest hub) (omega arith) question.name).1

    old-side : IsTrue (is_side question.name old)
    old-side = (side-at hub states (told before question.name) (told-below (newest hub) session.queue points question.name) question.name).0

    was-side : IsTrue (is_side question.name (records_then (records_now hub) waiting))
    was-side = subst (λ (set : RecordSet). IsTrue (is_side question.name set)) (sym was-old) old-side

    -- what matches a question for the same name has this name
    named : (other : Question) → same_name other.name question.name ≡ true → (set : RecordSet) → matching other (at_name question.name set) ≡ matching other set
    named other same set = matching-only (λ key. same_name question.name key.owner) other (λ key m. same_name-joined question.name other.name key.owner (same_name-swapped other.name question.name same) (matches-name other key m)) set

    -- a subscriber to the name has what is there now
    leads-there : (id : ℕ) (other : Question) → Contains (asked_of session.subscriptions) (id, other) → same_name other.name question.name ≡ true
        → applied_all (first_answer hub session question) other (noted_records hub.start hub.history before other) ≡ matching other (records_now hub)
    leads-there id other among same =
        ap (λ ns. applied_all ns other (noted_records hub.start hub.history before other)) first-is
        ∙ ap (λ set. applied_all notices other set)
        (ap (λ o. matching other (records_at hub.start hub.history (unwrap_or o (newest hub)))) (point_in-same other.name question.name session.queue same) ∙ sym (named other same (records_at hub.start hub.history (told before question.name))))
        ∙ ap (λ set. applied_all notices other (matching other set)) (sym was-old)
        ∙ first_leads_the_others question (asked_of session.subscriptions) (records_now hub) (Some waiting) id other (question.name, now-side) (same_name-itself question.name, was-side) among
        ∙ named other same (records_now hub)

    -- the new subscriber has it, too
    leads-new : applied_all (first_answer hub session question) question [] ≡ matching question (records_now hub)
    leads-new =
        ap (λ ns. applied_all ns question []) first-is
        ∙ first_fills_the_new question (asked_of session.subscriptions) (records_now hub) (Some waiting) (question.name, now-side)
        ∙ matching-at_name question (records_now hub)

    -- a subscriber to another name has what it had
    leads-away : (other : Question) → same_name other.name question.name ≡ false
        → applied_all (first_answer hub session question) other (noted_records hub.start hub.history before other) ≡ noted_records hub.start hub.history before other
    leads-away other differ =
        ap (λ ns. applied_all ns other (noted_records hub.start hub.history before other)) first-is
        ∙ first_leaves_other_names question (asked_of session.subscriptions) (records_now hub) (Some waiting) other (records_at hub.start hub.history (told before other.name)) (question.name, now-side) (ap not differ)

    -- all of the subscribers are led to the note after it
    pub leads : (id : ℕ) (other : Question) → Contains (asked_of session.subscriptions) (id, other)
        → applied_all (first_answer hub session question) other (noted_records hub.start hub.history before other) ≡ noted_records hub.start hub.history after other
    leads id other among = by (same_name question.name other.name) refl
      where
        by : (b : Bool) → same_name question.name other.name ≡ b → applied_all (first_answer hub session question) other (noted_records hub.start hub.history before other) ≡ noted_records hub.start hub.history after other
        by true e = leads-there id other among (same_name-swapped question.name other.name e)
            ∙ sym (ap (λ o. matching other (records_at hub.start hub.history (unwrap_or o (newest hub)))) (point_in-left stays stays-alike session.queue other.name ∙ ap (λ b. cond (not b) (point_in session.queue other.name) None) e))
        by false e = leads-away other (same_name-turned other.name question.name ∙ e)
            ∙ sym (ap (λ o. matching other (records_at hub.start hub.history (unwrap_or o (newest hub)))) (point_in-left stays stays-alike session.queue other.name ∙ ap (λ b. cond (not b) (point_in session.queue other.name) None) e))

    pub leads-itself : applied_all (first_answer hub session question) question [] ≡ noted_records hub.start hub.history after question
    leads-itself = leads-new
        ∙ sym (ap (λ o. matching question (records_at hub.start hub.history (unwrap_or o (newest hub)))) (point_in-left stays stays-alike session.queue question.name ∙ ap (λ b. cond (not b) (point_in session.queue question.name) None) (same_name-itself question.name)))

    -- ---- the message

    -- what is written for the notices is read as them, and a frame holds it
    pub first_can_be_read : IsTrue (is_name question.name) → (n : Notice) (ns : List Notice) → first_answer hub session question ≡ n ∷ ns
        → (notices_of (flat_map notice_octets (n ∷ ns)) ≡ Ok (n ∷ ns)) × (length (push_message (n ∷ ns)) ≤ max_net_message)
    first_can_be_read is n ns e =
        let same : notices ≡ n ∷ ns = sym first-is ∙ e in (
          subst (λ (all : List Notice). notices_of (flat_map notice_octets all) ≡ Ok all) same
              (first_is_read_back question (asked_of session.subscriptions) (records_now hub) (Some waiting) is (question.name, now-side) now-sent (subst (λ (all : List Notice). IsTrue (not (is_empty all))) (sym same) refl)),
          subst (λ (all : List Notice). length (push_message all) ≤ max_net_message) same (first_fits_one_message question (asked_of session.subscriptions) (records_now hub) (Some waiting) is (question.name, now-side) now-sent),
        )

    pub first_is_read : IsTrue (is_name question.name) → (n : Notice) (ns : List Notice) → first_answer hub session question ≡ n ∷ ns → IsReadBack (n ∷ ns)
    first_is_read is n ns e = let can = first_can_be_read is n ns e in push_read (n ∷ ns) can.0 can.1
