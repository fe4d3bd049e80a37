-- That a session tells the history is kept where it takes a subscription.
use Rattle.std.proofs.Common.{◌≡◌, ℕ, ◌+◌, ◌≤◌, ◌<◌, Bool, true, false, not, List, [], ◌∷◌, ◌++◌, length, length-append, sym, ◌∙◌, ap, subst, refl, arith}
use Rattle.std.specs.Prelude.{◌==◌}
use Rattle.std.specs.List.{list_any, AllByRecursion}
use Rattle.std.specs.Str.{bytes_eq}
use Rattle.dnsname.specs.Names.{Labels, same_name}
use Rattle.rrset.specs.Rcodes.{noerror}
use Rattle.rrset.specs.Records.{same_question}
use Rattle.rrset.specs.declared.record.Question.{Question}
use Rattle.dsotlv.specs.Answers.{answer_to, push_message}
use Rattle.dsotlv.specs.Messages.{frame}
use Rattle.dsotlv.specs.Notices.{applied_all}
use Rattle.dsotlv.specs.declared.message.Notice.{Notice}
use Rattle.coalesce.specs.Net.{push_frame}
use Rattle.history.specs.States.{State}
use Rattle.history.specs.declared.entry.Entry.{Entry}
use Rattle.coalesce.proofs.ReadBack.{each-append}
use Rattle.pushsession.specs.Sessions.{with_frame, answers}
use Rattle.pushsession.specs.Subscribing.{subscribed, says_first_answer, first_answer_size, with_accepted}
use Rattle.pushserver.specs.PlainHubs.{Hub, Session, Subscription, Made, note_of, size_of_made, written, first_answer, plain_keeps}
use Rattle.pushserver.specs.Hubs.{newest, now, keeps_now, tells_now}
use Rattle.rrset.proofs.Distinct.{or_false, distinct_push}
use Rattle.pushserver.proofs.hub_steps.Pairs.{all-weaken}
use Rattle.pushserver.proofs.session_steps.Lists.{each-both}
use Rattle.pushserver.specs.ToldMessages.{set_after, notices_in}
use Rattle.pushserver.proofs.told_rows.HubTells.{StatesTell}
use Rattle.pushtelling.proofs.Messages.{LeadsTo, LeadsIfFilled, noted_records, each_right-append, set_after-append, set_after-quiet, set_after-answer, size_of_made-append}
use Rattle.pushtelling.proofs.Notes.{told-left, notes-says}
use Rattle.pushtelling.proofs.Tells.{Tells, Almost, almost-left, tells-with_frame, made_now, IsReadBack}
use Rattle.pushtelling.proofs.Quiet.{answer-itself, answer-other, other_flags}
use Rattle.pushtelling.proofs.Leading.{before, after, stays, stays-alike, leads, leads-itself, IsAmong, all_among}

none_passes : {X : Type 0} (test : X → Bool) (xs : List X) → list_any test xs ≡ false → AllByRecursion (λ x. test x ≡ false) xs
none_passes test [] none = tt
none_passes test (x ∷ xs) none = let both = or_false (test x) (list_any test xs) none in (both.0, none_passes test xs both.1)

pub frame-positive : (message : List ℕ) → 0 < length (frame message)
frame-positive message = omega arith

abbrev pub stays_for : Question → Labels → Bool
stays_for question name = not (same_name question.name name)

-- a new subscription, with an ID and a question of its own
pub almost-subscribed : (start : State) (history : List Entry) (session : Session) (new : Subscription) → Almost start history session → new.id < 65536
    → list_any (λ s. s.id == new.id) session.subscriptions ≡ false → list_any (λ s. same_question s.question new.question) session.subscriptions ≡ false
    → ((a b : Labels) → same_name a b ≡ true → stays_for new.question a ≡ stays_for new.question b)
    → Almost start history (subscribed (plain_keeps (length history)) new.id new.question new.filled session)
almost-subscribed start history session new h small other_ids other_questions alike =
    let left = almost-left start history session (stays_for new.question) alike h in
    record {
      each = left.each;
      notes = left.notes;
      names = left.names;
      points = left.points;
      asked = record {
        ids = distinct_push (λ (s t : Subscription). s.id == t.id) session.subscriptions new h.asked.ids other_ids;
        id_sizes = each-append (λ (s : Subscription). s.id < 65536) session.subscriptions (new ∷ []) h.asked.id_sizes (small, tt);
        questions = distinct_push (λ (s t : Subscription). same_question s.question t.question) session.subscriptions new h.asked.questions other_questions;
      };
    }

module _ (hub : Hub) (session : Session) (id : ℕ) (question : Question) where
  abbrev pub answer : List ℕ
  answer = answer_to id noerror

  abbrev pub new_for : List Notice → Subscription
  new_for notices = record { id = id; question = question; filled = written session + first_answer_size answer notices }

  -- the end of its first answer by the sizes of both messages
  filled_at : (notices : List Notice) → (new_for notices).filled ≡ written session + (length (frame answer) + length (push_frame notices))
  filled_at notices = ap (λ n. written session + n) (length-append (frame answer) (push_frame notices))

  -- the session with the subscription, before anything is said
  abbrev pub taken : List Notice → Session
  taken notices = subscribed (keeps_now hub) id question (new_for notices).filled session

  -- a subscription with another ID
  abbrev pub IsOther : Subscription → Type 0
  IsOther s = ((s.id == id) ≡ false) × (s.id < 65536)

  -- the answer with the note before it
  abbrev pub answered : List Notice → Made
  answered notices = record { message = answer; note = before hub session question; subscribed = (taken notices).subscriptions }

  -- the session behind an answer that a PUSH follows
  abbrev pub behind : List Notice → Session
  behind notices = with_frame (keeps_now hub) false (now hub) answer session.queue (taken notices)

  module _ (states : StatesTell hub) (small : id < 65536)
      (fresh_id : list_any (λ s. s.id == id) session.subscriptions ≡ false)
      (fresh_question : list_any (λ s. same_question s.question question) session.subscriptions ≡ false)
      (h : Tells hub.start hub.history session) where
    pub almost-taken : (notices : List Notice) → Almost hub.start hub.history (taken notices)
    almost-taken notices = almost-subscribed hub.start hub.history session (new_for notices) h.most small fresh_id fresh_question (stays-alike hub session question)

    -- for the other subscriptions the answer is quiet
    pub quiet-others : (m : Made) → m.message ≡ answer → AllByRecursion (LeadsTo hub.start hub.history (session.made ++ m ∷ []) (before hub session question)) session.subscriptions
    quiet-others m same = each-both IsOther (LeadsTo hub.start hub.history session.made (before hub session question))
        (LeadsTo hub.start hub.history (session.made ++ m ∷ []) (before hub session question))
        (λ s other e. set_after-quiet session.made m s (ap (λ o. bytes_eq o (answer_to s.id noerror)) same ∙ answer-other id s.id small other.1 (flip id s.id other.0)) (ap notices_in same) ∙ e) session.subscriptions
        (each-both (λ (s : Subscription). (s.id == id) ≡ false) (λ (s : Subscription). s.id < 65536) IsOther (λ s fresh low. (fresh, low)) session.subscriptions
        (none_passes (λ (s : Subscription). s.id == id) session.subscriptions fresh_id) h.most.asked.id_sizes) h.all
      where
        flip : (a b : ℕ) → (b == a) ≡ false → (a == b) ≡ false
        flip a b e = grind (arith, e)

    -- the new one begins with nothing
    pub nothing-new : (m : Made) (s : Subscription) → m.message ≡ answer → s.id ≡ id → set_after (session.made ++ m ∷ []) s ≡ []
    nothing-new m s same named = set_after-answer session.made m s (ap (λ n. bytes_eq m.message (answer_to n noerror)) named ∙ ap (λ o. bytes_eq o (answer_to id noerror)) same ∙ answer-itself id)

    -- the answer alone
    pub tells-alone : first_answer hub session question ≡ [] → Tells hub.start hub.history (answers (keeps_now hub) false (now hub) answer (taken []))
    tells-alone none =
        tells-with_frame hub.start hub.history (taken []) false (now hub) answer (almost-taken []) h.octets
        (each-append (λ (s : Subscription). s.filled ≤ written session + length (frame answer)) session.subscriptions (new_for [] ∷ [])
        (all-weaken (λ (s : Subscription). s.filled ≤ written session) (λ (s : Subscription). s.filled ≤ written session + length (frame answer)) (λ s low. omega (arith, low)) session.subscriptions h.whole) (omega arith, tt))
        (each-append (LeadsTo hub.start hub.history (session.made ++ m ∷ []) (after hub session question)) session.subscriptions (new_for [] ∷ [])
        (each-both (LeadsTo hub.start hub.history (session.made ++ m ∷ []) (before hub session question)) (IsAmong session.subscriptions)
        (LeadsTo hub.start hub.history (session.made ++ m ∷ []) (after hub session question))
        (λ s e among. e ∙ sym (ap (λ ns. applied_all ns s.question (noted_records hub.start hub.history (before hub session question) s.question)) none) ∙ leads hub session question states h.most.points s.id s.question among)
        session.subscriptions (quiet-others m refl) (all_among session.subscriptions))
        (nothing-new m (new_for []) refl refl ∙ sym (ap (λ ns. applied_all ns question []) none) ∙ leads-itself hub session question states h.most.points, tt))
      where
        m : Made
        m = made_now hub.start hub.history (taken []) answer

    -- ---- an answer that a PUSH follows

    abbrev pub size_of_push : List Notice → ℕ
    size_of_push notices = length (frame (push_message notices))

    pub almost-behind : (n : Notice) (ns : List Notice) → Almost hub.start hub.history (behind (n ∷ ns))
    almost-behind n ns =
        let base = almost-taken (n ∷ ns) in
        record {
          each = each_right-append hub.start hub.history [] session.made (answered (n ∷ ns)) h.most.each
              (each-append (LeadsIfFilled hub.start hub.history (session.made ++ answered (n ∷ ns) ∷ []) (before hub session question))
              session.subscriptions (new_for (n ∷ ns) ∷ [])
              (all-weaken (LeadsTo hub.start hub.history (session.made ++ answered (n ∷ ns) ∷ []) (before hub session question)) (LeadsIfFilled hub.start hub.history (session.made ++ answered (n ∷ ns) ∷ []) (before hub session question))
              (λ s e filled. e) session.subscriptions (quiet-others (answered (n ∷ ns)) refl)) (
                λ filled. absurd (too_early (written session) (length (frame answer)) (size_of_push (n ∷ ns)) (frame-positive (push_message (n ∷ ns)))
                    (subst (λ k. written session + (length (frame answer) + size_of_push (n ∷ ns)) ≤ k) (size_of_made-append session.made (answered (n ∷ ns)))
                    (subst (λ f. f ≤ size_of_made (session.made ++ answered (n ∷ ns) ∷ [])) (filled_at (n ∷ ns)) filled))),
                tt,
              ));
          notes = notes-says session.made (answered (n ∷ ns)) (note_of (newest hub) (taken (n ∷ ns))) h.most.notes (told-left (stays hub session question) (stays-alike hub session question) (newest hub) session.queue h.most.points);
          names = base.names;
          points = base.points;
          asked = base.asked;
        }
      where
        too_early : (w a p : ℕ) → 0 < p → w + (a + p) ≤ w + a → ⊥
        too_early w a p positive filled = omega (arith, positive, filled)

    pub tells-followed : (n : Notice) (ns : List Notice) → first_answer hub session question ≡ n ∷ ns → IsReadBack (n ∷ ns)
        → Tells hub.start hub.history (answers (keeps_now hub) false (now hub) (push_message (n ∷ ns)) (behind (n ∷ ns)))
    tells-followed n ns some read =
        tells-with_frame hub.start hub.history (behind (n ∷ ns)) false (now hub) (push_message (n ∷ ns)) (almost-behind n ns) h.octets
        (each-append (λ (s : Subscription). s.filled ≤ written (behind (n ∷ ns)) + size_of_push (n ∷ ns)) session.subscriptions (new_for (n ∷ ns) ∷ [])
        (all-weaken (λ (s : Subscription). s.filled ≤ written session) (λ (s : Subscription). s.filled ≤ written (behind (n ∷ ns)) + size_of_push (n ∷ ns)) (λ s low. subst (λ k. s.filled ≤ k + size_of_push (n ∷ ns)) (sym grown) (omega (arith, low))) session.subscriptions h.whole) (
          subst (λ f. f ≤ written (behind (n ∷ ns)) + size_of_push (n ∷ ns)) (sym (filled_at (n ∷ ns)))
              (subst (λ k. written session + (length (frame answer) + size_of_push (n ∷ ns)) ≤ k + size_of_push (n ∷ ns)) (sym grown) (omega arith)),
          tt,
        ))
        (each-append (LeadsTo hub.start hub.history ((session.made ++ answered (n ∷ ns) ∷ []) ++ m ∷ []) (after hub session question)) session.subscriptions (new_for (n ∷ ns) ∷ [])
        (each-both (LeadsTo hub.start hub.history (session.made ++ answered (n ∷ ns) ∷ []) (before hub session question)) (IsAmong session.subscriptions)
        (LeadsTo hub.start hub.history ((session.made ++ answered (n ∷ ns) ∷ []) ++ m ∷ []) (after hub session question))
        (λ s e among. pushed s ∙ ap (applied_all (first_answer hub session question) s.question) e ∙ leads hub session question states h.most.points s.id s.question among) session.subscriptions
        (quiet-others (answered (n ∷ ns)) refl) (all_among session.subscriptions))
        (pushed (new_for (n ∷ ns)) ∙ ap (applied_all (first_answer hub session question) question) (nothing-new (answered (n ∷ ns)) (new_for (n ∷ ns)) refl refl) ∙ leads-itself hub session question states h.most.points, tt))
      where
        m : Made
        m = made_now hub.start hub.history (behind (n ∷ ns)) (push_message (n ∷ ns))

        grown : written (behind (n ∷ ns)) ≡ written session + length (frame answer)
        grown = size_of_made-append session.made (answered (n ∷ ns))

        pushed : (s : Subscription) → set_after ((session.made ++ answered (n ∷ ns) ∷ []) ++ m ∷ []) s ≡ applied_all (first_answer hub session question) s.question (set_after (session.made ++ answered (n ∷ ns) ∷ []) s)
        pushed s = set_after-append (session.made ++ answered (n ∷ ns) ∷ []) m s (other_flags (push_message (n ∷ ns)) s.id refl) ∙ ap (λ all. applied_all all s.question (set_after (session.made ++ answered (n ∷ ns) ∷ []) s)) (read ∙ sym some)

    -- A session that takes a subscription tells the history, where the notices of its first answer are read back from their message.
    pub tells-with_accepted : ((n : Notice) (ns : List Notice) → first_answer hub session question ≡ n ∷ ns → IsReadBack (n ∷ ns))
        → Tells hub.start hub.history (with_accepted (keeps_now hub) (tells_now hub) (now hub) id question session)
    tells-with_accepted read = by (first_answer hub session question) refl
      where
        by : (notices : List Notice) → first_answer hub session question ≡ notices
            → Tells hub.start hub.history (says_first_answer (keeps_now hub) (now hub) answer notices session.queue (taken notices))
        by [] e = tells-alone e
        by (n ∷ ns) e = tells-followed n ns e (read n ns e)
