-- That a session tells the history is kept where its queue packs a PUSH.
use Rattle.std.proofs.Common.{◌≡◌, ℕ, ◌+◌, ◌≤◌, Bool, true, false, cond, not, ◌&&◌, ◌||◌, List, [], ◌∷◌, ◌++◌, map, length, Option, Some, None, IsTrue, sym, ◌∙◌, ap, subst, refl, arith, Ok}
use Rattle.std.specs.Prelude.{find, unwrap_or, option_map, flat_map}
use Rattle.std.specs.List.{list_any, AllByRecursion, IsDistinct}
use Rattle.std.specs.Str.{bytes_eq}
use Rattle.push_base.specs.Cases.{is_empty}
use Rattle.dnsname.specs.Names.{Labels, same_name, octets, lower}
use Rattle.rrset.specs.RecordSet.{RecordSet, only, at_name, matching}
use Rattle.rrset.specs.declared.record.Question.{Question}
use Rattle.dsotlv.specs.Messages.{frame}
use Rattle.dsotlv.specs.Notices.{applied_all, notice_octets, notices_of}
use Rattle.dsotlv.specs.declared.message.Notice.{Notice}
use Rattle.dsotlv.specs.Answers.{push_message}
use Rattle.coalesce.specs.Net.{net, packed, max_net_message, Nets}
use Rattle.coalesce.specs.Laws.{is_side, can_be_sent, is_named_in, are_apart, nets_of, HaveSides, IsAlike}
use Rattle.coalesce.proofs.Sides.{parts_stay_sides}
use Rattle.coalesce.proofs.NetSizes.{net_fits_one_message}
use Rattle.coalesce.proofs.Packing.{packed_fits_one_message}
use Rattle.coalesce.proofs.PackedNames.{packed_leads, packed_is_read_back}
use Rattle.history.specs.States.{records_at}
use Rattle.pushsession.specs.Subscribing.{says_notices, with_next_push}
use Rattle.pushserver.specs.PlainHubs.{Hub, Session, Subscription, Queue, Note, told, note_of, point_in, asks_for, wanted, written, sent, stays_queued}
use Rattle.pushserver.specs.PlainHubs.{nets_of as nets_from}
use Rattle.pushserver.specs.Hubs.{newest, now, keeps_now, tells_now, records_now}
use Rattle.pushserver.proofs.AskedFor.{IsAsked, all_asked, matching-sent}
use Rattle.pushserver.proofs.hub_steps.Pairs.{all-weaken}
use Rattle.history.proofs.Together.{same_name-turned}
use Rattle.pushserver.proofs.session_steps.Lists.{each-both}
use Rattle.pushserver.proofs.session_steps.Names.{AreApart}
use Rattle.pushserver.specs.ToldMessages.{set_after}
use Rattle.pushserver.proofs.Queues.{point_in-same, same_name-octets}
use Rattle.pushserver.proofs.told_rows.HubTells.{StatesTell}
use Rattle.pushtelling.proofs.Messages.{LeadsTo, noted_records, set_after-append}
use Rattle.pushtelling.proofs.Notes.{AnswersAlike, left_by, point_in-left, told-below}
use Rattle.pushtelling.proofs.Leading.{side-at}
use Rattle.pushtelling.proofs.Tells.{Tells, Almost, almost-left, tells-with_frame, made_now, IsReadBack}
use Rattle.pushtelling.proofs.Reading.{push_read}
use Rattle.pushtelling.proofs.Quiet.{other_flags}

-- ---- the names of a queue

abbrev pub names_in : Queue → List Labels
names_in queue = map (λ e. e.0) queue

-- no name stands twice
pub apart : (queue : Queue) → AreApart queue → are_apart (names_in queue) ≡ true
unfolding IsDistinct
apart [] once = refl
apart (e ∷ es) once = ap (λ b. not b && are_apart (names_in es)) (unnamed es once.0) ∙ apart es once.1
  where
    unnamed : (fs : Queue) → AllByRecursion (λ (f : Labels × ℕ). same_name f.0 e.0 ≡ false) fs → is_named_in e.0 (names_in fs) ≡ false
    unnamed [] other = refl
    unnamed (f ∷ fs) other = ap (λ b. b || is_named_in e.0 (names_in fs)) (same_name-turned e.0 f.0 ∙ other.0) ∙ unnamed fs other.1

-- a name that isn't among them has no point
pub no_point : (queue : Queue) (name : Labels) → is_named_in name (names_in queue) ≡ false → point_in queue name ≡ None
no_point [] name none = refl
no_point (e ∷ es) name none = by (same_name name e.0) none (no_point es name)
  where
    by : (b : Bool) → (b || is_named_in name (names_in es)) ≡ false → (is_named_in name (names_in es) ≡ false → point_in es name ≡ None)
        → option_map (λ (q : Labels × ℕ). q.1) (cond b (Some e) (find (λ (q : Labels × ℕ). same_name name q.0) es)) ≡ None
    by true none rest = absurd cc
    by false none rest = rest none

-- the records of a name are those of the same name in another spelling
pub at_name-same : (a b : Labels) (set : RecordSet) → same_name a b ≡ true → at_name a set ≡ at_name b set
at_name-same a b set same = ap (λ o. only (λ key. bytes_eq o (octets (lower key.owner))) set) (same_name-octets a b same)

module _ (hub : Hub) (session : Session) where
  abbrev pub note : Note
  note = note_of (newest hub) session

  abbrev pub pack : List Notice × List Labels
  pack = packed (nets_from hub.start hub.history session.subscriptions session.queue)

  abbrev pub wanted_now : Labels → RecordSet
  wanted_now name = wanted session.subscriptions (at_name name (records_now hub))

  abbrev pub stays : Labels → Bool
  stays name = list_any (same_name name) pack.1

  pub stays-alike : AnswersAlike stays
  stays-alike a b e = ap (λ o. list_any (λ n. bytes_eq o (octets (lower n))) pack.1) (same_name-octets a b e)

  abbrev pub after : Note
  after = record { queue = left_by stays session.queue; newest = newest hub }

  -- ---- the nets are those of the names of the queue

  nets-are : (queue : Queue) → map (λ (e : Labels × ℕ). (e.0, net (sent hub session e.0) (wanted_now e.0))) queue ≡ nets_of (sent hub session) wanted_now (names_in queue)
  nets-are [] = refl
  nets-are (e ∷ es) = ap (λ (more : Nets). (e.0, net (sent hub session e.0) (wanted_now e.0)) ∷ more) (nets-are es)

  pub nets_are : nets_from hub.start hub.history session.subscriptions session.queue ≡ nets_of (sent hub session) wanted_now (names_in session.queue)
  nets_are = nets-are session.queue

  -- a name in another spelling
  pub sent-alike : (question : Question) → IsAlike (sent hub session) question
  sent-alike question name same =
      ap (λ (o : Option ℕ). wanted session.subscriptions (at_name name (records_at hub.start hub.history (unwrap_or o (newest hub))))) (sym (point_in-same question.name name session.queue same))
      ∙ ap (wanted session.subscriptions) (sym (at_name-same question.name name (records_at hub.start hub.history (told note question.name)) same))

  pub now-alike : (question : Question) → IsAlike wanted_now question
  now-alike question name same = ap (wanted session.subscriptions) (sym (at_name-same question.name name (records_now hub) same))

  module _ (states : StatesTell hub) (points : AllByRecursion (λ e. e.1 ≤ newest hub) session.queue) where
    sent-side : (name : Labels) → IsTrue (is_side name (sent hub session name))
    sent-side name =
        (parts_stay_sides name (asks_for session.subscriptions) (at_name name (records_at hub.start hub.history (told note name))) (side-at hub states (told note name) (told-below (newest hub) session.queue points name) name).0).0

    now-side : (name : Labels) → IsTrue (is_side name (wanted_now name))
    now-side name = (parts_stay_sides name (asks_for session.subscriptions) (at_name name (records_now hub)) (side-at hub states (newest hub) (omega arith) name).0).0

    now-sent : (name : Labels) → IsTrue (can_be_sent (wanted_now name))
    now-sent name =
        let now_told = side-at hub states (newest hub) (omega arith) name in
        (parts_stay_sides name (asks_for session.subscriptions) (at_name name (records_now hub)) now_told.0).1 now_told.1

    have_sides : (names : List Labels) → HaveSides (sent hub session) wanted_now names
    have_sides [] = tt
    have_sides (n ∷ ns) = ((sent-side n, now-side n), have_sides ns)

    all_sent : (names : List Labels) → AllByRecursion (λ n. IsTrue (can_be_sent (wanted_now n))) names
    all_sent [] = tt
    all_sent (n ∷ ns) = (now-sent n, all_sent ns)

    all_fit : (names : List Labels) → AllByRecursion (λ (e : Labels × List Notice). length (push_message e.1) ≤ max_net_message) (nets_of (sent hub session) wanted_now names)
    all_fit [] = tt
    all_fit (n ∷ ns) = (net_fits_one_message n (sent hub session n) (wanted_now n) (sent-side n) (now-side n) (now-sent n), all_fit ns)

    -- ---- the pack leads each subscriber to the note after it

    pub leads : AreApart session.queue → (question : Question) → IsAsked session.subscriptions question
        → applied_all pack.0 question (noted_records hub.start hub.history note question) ≡ noted_records hub.start hub.history after question
    leads once question asked =
        ap (λ set. applied_all pack.0 question set) (sym (matching-sent session.subscriptions question (records_at hub.start hub.history (told note question.name)) asked))
        ∙ ap (λ (named : Nets). applied_all (packed named).0 question (matching question (sent hub session question.name))) nets_are
        ∙ packed_leads (sent hub session) wanted_now (names_in session.queue) question (have_sides (names_in session.queue)) (apart session.queue once) (sent-alike question) (now-alike question)
        ∙ ap (λ (named : Nets). matching question (cond (is_named_in question.name (names_in session.queue) && not (is_named_in question.name (packed named).1)) (wanted_now question.name) (sent hub session question.name))) (sym nets_are)
        ∙ by (is_named_in question.name (names_in session.queue)) refl (stays question.name)
        ∙ sym (ap (λ o. matching question (records_at hub.start hub.history (unwrap_or o (newest hub)))) (point_in-left stays stays-alike session.queue question.name))
      where
        by : (a : Bool) → is_named_in question.name (names_in session.queue) ≡ a → (b : Bool)
            → matching question (cond (a && not b) (wanted_now question.name) (sent hub session question.name))
            ≡ matching question (records_at hub.start hub.history (unwrap_or (cond b (point_in session.queue question.name) None) (newest hub)))
        by true e true = matching-sent session.subscriptions question (records_at hub.start hub.history (told note question.name)) asked
        by true e false = matching-sent session.subscriptions question (records_now hub) asked
        by false e true = matching-sent session.subscriptions question (records_at hub.start hub.history (told note question.name)) asked
        by false e false =
            matching-sent session.subscriptions question (records_at hub.start hub.history (told note question.name)) asked
            ∙ ap (λ (o : Option ℕ). matching question (records_at hub.start hub.history (unwrap_or o (newest hub)))) (no_point session.queue question.name e)

    -- ---- the message

    -- what is written for the notices is read as them, and a frame holds it
    pub pack_can_be_read : (n : Notice) (ns : List Notice) → pack.0 ≡ n ∷ ns → (notices_of (flat_map notice_octets (n ∷ ns)) ≡ Ok (n ∷ ns)) × (length (push_message (n ∷ ns)) ≤ max_net_message)
    pack_can_be_read n ns e =
        let same : (packed (nets_of (sent hub session) wanted_now (names_in session.queue))).0 ≡ n ∷ ns = ap (λ (named : Nets). (packed named).0) (sym nets_are) ∙ e in (
          subst (λ (all : List Notice). notices_of (flat_map notice_octets all) ≡ Ok all) same
              (packed_is_read_back (sent hub session) wanted_now (names_in session.queue) (have_sides (names_in session.queue)) (all_sent (names_in session.queue)) (subst (λ (all : List Notice). IsTrue (not (is_empty all))) (sym same) refl)),
          subst (λ (all : List Notice). length (push_message all) ≤ max_net_message) same (packed_fits_one_message (nets_of (sent hub session) wanted_now (names_in session.queue)) (all_fit (names_in session.queue))),
        )

    pub pack_is_read : (n : Notice) (ns : List Notice) → pack.0 ≡ n ∷ ns → IsReadBack (n ∷ ns)
    pack_is_read n ns e = let can = pack_can_be_read n ns e in push_read (n ∷ ns) can.0 can.1

  -- the session without the names that leave
  abbrev pub lighter : Session
  lighter = record session { queue = stays_queued pack.1 session.queue }

  -- a session that packs a PUSH tells the history
  pub tells-with_next_push : StatesTell hub → Tells hub.start hub.history session → Tells hub.start hub.history (with_next_push (keeps_now hub) (tells_now hub) (now hub) session)
  tells-with_next_push states h = by pack.0 refl
    where
      base : Almost hub.start hub.history lighter
      base = almost-left hub.start hub.history session stays stays-alike h.most

      led : AllByRecursion (λ (s : Subscription). applied_all pack.0 s.question (set_after session.made s) ≡ noted_records hub.start hub.history after s.question) session.subscriptions
      led = each-both (LeadsTo hub.start hub.history session.made note) (λ (s : Subscription). IsAsked session.subscriptions s.question)
          (λ (s : Subscription). applied_all pack.0 s.question (set_after session.made s) ≡ noted_records hub.start hub.history after s.question)
          (λ s e asked. ap (applied_all pack.0 s.question) e ∙ leads states h.most.points h.most.names s.question asked) session.subscriptions h.all (all_asked session.subscriptions)

      by : (notices : List Notice) → pack.0 ≡ notices → Tells hub.start hub.history (says_notices (keeps_now hub) (now hub) notices lighter)
      by [] none = record {
        most = base;
        all = all-weaken (λ (s : Subscription). applied_all pack.0 s.question (set_after session.made s) ≡ noted_records hub.start hub.history after s.question)
            (LeadsTo hub.start hub.history session.made after) (λ s e. sym (ap (λ ns. applied_all ns s.question (set_after session.made s)) none) ∙ e) session.subscriptions
            led;
        whole = h.whole;
        octets = h.octets;
      }
      by (n ∷ ns) some =
          tells-with_frame hub.start hub.history lighter false (now hub) (push_message (n ∷ ns)) base h.octets
          (all-weaken (λ (s : Subscription). s.filled ≤ written session) (λ (s : Subscription). s.filled ≤ written session + length (frame (push_message (n ∷ ns)))) (λ s low. omega (arith, low)) session.subscriptions h.whole)
          (all-weaken (λ (s : Subscription). applied_all pack.0 s.question (set_after session.made s) ≡ noted_records hub.start hub.history after s.question)
          (LeadsTo hub.start hub.history (session.made ++ made_now hub.start hub.history lighter (push_message (n ∷ ns)) ∷ []) after) (λ s e. pushed s n ns some ∙ e)
          session.subscriptions led)
        where
          pushed : (s : Subscription) (n : Notice) (ns : List Notice) → pack.0 ≡ n ∷ ns
              → set_after (session.made ++ made_now hub.start hub.history lighter (push_message (n ∷ ns)) ∷ []) s ≡ applied_all pack.0 s.question (set_after session.made s)
          pushed s n ns some =
              set_after-append session.made (made_now hub.start hub.history lighter (push_message (n ∷ ns))) s (other_flags (push_message (n ∷ ns)) s.id refl)
              ∙ ap (λ all. applied_all all s.question (set_after session.made s)) (pack_is_read states h.most.points n ns some ∙ sym some)
