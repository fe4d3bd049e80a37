-- A kept session and the plain one: the reaction to a SUBSCRIBE.
--     verdict-alike      the verdict
--     answered-keeps      what each verdict does
use Rattle.std.proofs.Common.{◌≡◌, ℕ, ◌+◌, ◌-◌, ◌≤◌, ◌^◌, Bool, true, false, cond, not, ◌||◌, List, [], ◌∷◌, ◌++◌, length, min, Option, Some, None, refl, sym, ◌∙◌, ap, subst, arith}
use Rattle.std.specs.List.{AllByRecursion}
use Rattle.std.specs.Prelude.{IsTrue, find, option_map, nat_le, ◌==◌}
use Rattle.std.proofs.lemmas.Bool.{leb-false}
use Rattle.zoneupdate.proofs.Filters.{and-both, and-left}
use Rattle.zoneupdate.proofs.Owners.{same_name-on}
use Rattle.std.proofs.lemmas.List.{length-append, length-map, map-append}
use Rattle.push_base.specs.Limits.{max_questions, max_number}
use Rattle.dnsname.specs.Names.{Labels, is_name, same_name}
use Rattle.rrset.specs.Records.{matches}
use Rattle.rrset.specs.declared.record.Key.{Key}
use Rattle.rrset.specs.Rcodes.{noerror, notauth, refused}
use Rattle.rrset.specs.declared.record.Question.{Question}
use Rattle.rrset.proofs.Distinct.{distinct_filter}
use Rattle.rrset.proofs.Places.{all_filter}
use Rattle.dsotlv.specs.Messages.{frame}
use Rattle.dsotlv.specs.Answers.{answer_to, refusal_to, push_message}
use Rattle.dsotlv.specs.declared.message.Notice.{Notice}
use Rattle.dsosession.specs.declared.session.EndReason.TheVariants as ends
use Rattle.subscr.specs.Asked.{Asked, AreAsked, has, is_id, is_question, id_of, wants}
use Rattle.subscr.proofs.Asking.{added}
use Rattle.coalesce.specs.FirstAnswers.{first_notices}
use Rattle.coalesce.specs.Net.{max_net_message}
use Rattle.coalesce.specs.Waiting.{WaitingName, is_named, without_name}
use Rattle.coalesce.proofs.FirstLeads.{first_fits_one_message}
use Rattle.coalesce.proofs.KindsOf.{any-map}
use Rattle.coalesce.proofs.ReadBack.{each-append}
use Rattle.history.proofs.Together.{same_name-turned}
use Rattle.pushsession.specs.Kept.{KeptSession, Filled, keeping, telling}
use Rattle.pushsession.specs.Subscribing as subscribing
use Rattle.pushsession.specs.Subscribing.{Verdict, is_served, may_be_served, verdict_on, subscribed, says_first_answer, first_answer_size, with_accepted, decided, answered}
use Rattle.pushsession.proofs.Passing.{Passed, passed}
use Rattle.history.specs.States.{State}
use Rattle.history.specs.declared.entry.Entry.{Entry}
use Rattle.pushserver.specs.PlainHubs.{Hub, Session, Subscription, Queue, size_of_made, asked_of, subscription_for, leaves_queue, plain_keeps, plain_tells}
use Rattle.pushserver.specs.Hubs.{state_now, records_now}
use Rattle.pushserver.specs.Giving.{has_home}
use Rattle.pushserver.specs.KeptHubs.{KeepsSent}
use Rattle.pushserver.specs.Rows.{AreTold}
use Rattle.pushserver.proofs.session_steps.Rising.{rises-filter}
use Rattle.pushsession.specs.Sessions.{is_open}
use Rattle.pushserver.proofs.session_steps.Parts.{SessionFits, Asks, Waits, kept_asked, reads, writes, stands}
use Rattle.pushserver.proofs.session_steps.Lists.{find-map, some-find, any-append}
use Rattle.pushserver.proofs.session_steps.OldValues.{keeps-fewer}
use Rattle.pushserver.proofs.session_steps.Standing.{ended-keeps}
use Rattle.pushserver.proofs.session_steps.Saying.{with_frame-keeps, answers-keeps}
use Rattle.pushserver.proofs.session_steps.FirstAnswers.{first-alike}
use Rattle.pushserver.proofs.session_steps.LettingGo.{leaves_alike}
use Rattle.pushserver.proofs.WaitingNames.{watched-fewer, watched-more}

-- ---- the verdict

-- the tests of a question, whether its ID is in use, which ID it has, and how many there are
abbrev pub tested : Question → Bool → ℕ → Bool → Option ℕ → ℕ → Verdict
tested question has_home id used active count =
    cond used (subscribing.Abort (ends.IdInUse id)) (elim active as (λ _. Verdict) [
      | Some other ↦ subscribing.Abort (ends.Twice other)
      | None ↦ cond (not (may_be_served question has_home)) (subscribing.Refuse notauth) (cond (nat_le max_questions count) (subscribing.Refuse refused) (subscribing.Accept question))
    ])

module _ (hub : Hub) (n : ℕ) (k : ℕ × KeptSession) (p : ℕ × Session) (s : SessionFits hub k p) where
  has_alike : (id : ℕ) → keeping.has_id id k.1.subscriptions ≡ (plain_keeps n).has_id id p.1.subscriptions
  has_alike id = ap (λ (a : Asked). has id a) s.stands.asked ∙ any-map (is_id id) (λ (q : Subscription). (q.id, q.question)) p.1.subscriptions ∙ sym (some-find (λ q. q.id == id) p.1.subscriptions)

  active_alike : (question : Question) → keeping.id_of question k.1.subscriptions ≡ (plain_keeps n).id_of question p.1.subscriptions
  active_alike question =
      ap (λ (a : Asked). id_of question a) s.stands.asked
      ∙ ap (λ (o : Option (ℕ × Question)). option_map (λ (e : ℕ × Question). e.0) o) (find-map (λ (q : Subscription). (q.id, q.question)) (is_question question) p.1.subscriptions)
      ∙ both (subscription_for p.1.subscriptions question)
    where
      both : (o : Option Subscription) → option_map (λ (e : ℕ × Question). e.0) (option_map (λ (q : Subscription). (q.id, q.question)) o) ≡ option_map (λ (q : Subscription). q.id) o
      both None = refl
      both (Some q) = refl

  count_alike : length k.1.subscriptions.asked ≡ length p.1.subscriptions
  count_alike = ap length s.stands.asked ∙ length-map p.1.subscriptions (λ (q : Subscription). (q.id, q.question))

  verdict-alike : (id : ℕ) (question : Option Question) (has_home : Bool) → verdict_on keeping id question has_home k.1.subscriptions ≡ verdict_on (plain_keeps n) id question has_home p.1.subscriptions
  verdict-alike id None has_home = refl
  verdict-alike id (Some question) has_home = λ i. tested question has_home id (has_alike id i) (active_alike question i) (count_alike i)

-- ---- one subscription more

-- a question asks for no keys of other names
asks-elsewhere : (asked : Asked) (id : ℕ) (question : Question) (name : Labels) (q : Key) → same_name name question.name ≡ false → same_name name q.owner ≡ true → wants q (asked ++ (id, question) ∷ []) ≡ true → wants q asked ≡ true
asks-elsewhere asked id question name q other at wanted = by (matches question q) refl (wants q asked) (sym (any-append (λ (e : ℕ × Question). matches e.1 q) asked ((id, question) ∷ [])) ∙ wanted)
  where
    by : (b : Bool) → matches question q ≡ b → (a : Bool) → (a || (b || false)) ≡ true → a ≡ true
    by true is a e =
        let named : same_name question.name q.owner ≡ true = and-left (same_name question.name q.owner) _ (and-left _ _ is) in
        let wrong : true ≡ false = sym (same_name-on name q.owner question.name at (sym (same_name-turned question.name q.owner) ∙ named)) ∙ other in absurd cc
    by false is true e = refl
    by false is false e = absurd cc

-- what is kept of the other names tells what was sent where the question is asked, too
others-keep : (start : State) (history : List Entry) (asked : Asked) (id : ℕ) (question : Question) (queue : List WaitingName) → AllByRecursion (KeepsSent start history asked) queue → AllByRecursion (KeepsSent start history (asked ++ (id, question) ∷ [])) (without_name question.name queue)
others-keep start history asked id question [] all = tt
others-keep start history asked id question (w ∷ ws) all = by (is_named question.name w) refl (others-keep start history asked id question ws all.1)
  where
    by : (b : Bool) → is_named question.name w ≡ b → AllByRecursion (KeepsSent start history (asked ++ (id, question) ∷ [])) (without_name question.name ws)
        → AllByRecursion (KeepsSent start history (asked ++ (id, question) ∷ [])) (cond (not b) (w ∷ without_name question.name ws) (without_name question.name ws))
    by true is rest = rest
    by false is rest = (keeps-fewer start history asked (asked ++ (id, question) ∷ []) w (λ q wanted at. asks-elsewhere asked id question w.name q is at wanted) all.0, rest)

module _ (hub : Hub) (n : ℕ) (k : ℕ × KeptSession) (p : ℕ × Session) (s : SessionFits hub k p) where
  subscribed-keeps : is_open p.1.standing ≡ true → (id : ℕ) (question : Question) (end : ℕ) → Passed (plain_keeps n) id question (has_home hub (Some question)) p.1.subscriptions
      → SessionFits hub (k.0, subscribed keeping id question (min end max_number) k.1) (p.0, subscribed (plain_keeps n) id question end p.1)
  subscribed-keeps opens id question end can =
      stands hub k p s (subscribed keeping id question (min end max_number) k.1) (subscribed (plain_keeps n) id question end p.1) one_more others
      (watched-more p.1.subscriptions new (leaves_queue question.name p.1.queue) (watched-fewer p.1.subscriptions (λ e. not (same_name question.name e.0)) p.1.queue s.sound.watched)) (reads hub k p s) (writes hub k p s) s.stands.clocks refl s.stands.standing
      (λ closed. let wrong : true ≡ false = sym opens ∙ closed in absurd cc)
    where
      new : Subscription
      new = record { id = id; question = question; filled = end }

      is_more : k.1.subscriptions.asked ++ (id, question) ∷ [] ≡ asked_of (p.1.subscriptions ++ new ∷ [])
      is_more = ap (λ (a : Asked). a ++ (id, question) ∷ []) s.stands.asked ∙ sym (map-append (λ (q : Subscription). (q.id, q.question)) p.1.subscriptions (new ∷ []))

      one_more : Asks (state_now hub) (keeping.with_question id question (min end max_number) k.1.subscriptions) (p.1.subscriptions ++ new ∷ [])
      one_more = record {
        asked = is_more;
        filled = ap (λ (f : Filled). f ++ (id, min end max_number) ∷ []) s.stands.filled ∙ sym (map-append (λ (q : Subscription). (q.id, min q.filled max_number)) p.1.subscriptions (new ∷ []));
        are_asked = subst AreAsked is_more
            (added id question k.1.subscriptions.asked (kept_asked hub k p s) (has_alike hub n k p s id ∙ can.new_id) (active_alike hub n k p s question ∙ can.new_question) (omega (arith, leb-false max_questions (length p.1.subscriptions) can.room, count_alike hub n k p s)));
        homes = each-append _ p.1.subscriptions (new ∷ []) s.sound.homes (and-both (is_served question.class) (has_home hub (Some question)) can.class can.home, tt);
      }

      others : Waits hub.start hub.history (keeping.with_question id question (min end max_number) k.1.subscriptions).asked (without_name question.name k.1.queue) (leaves_queue question.name p.1.queue)
      others = record {
        queue = leaves_alike hub k p s question.name;
        keeps = others-keep hub.start hub.history k.1.subscriptions.asked id question k.1.queue s.stands.keeps;
        points = all_filter _ (λ e. not (same_name question.name e.0)) p.1.queue s.sound.points;
        rises = rises-filter (λ e. not (same_name question.name e.0)) p.1.queue s.sound.rises;
        names = distinct_filter _ (λ e. not (same_name question.name e.0)) p.1.queue s.sound.names;
      }

-- ---- the answer, and the PUSH behind it

-- where an answer ends: octets are counted up to the last number
end_alike : (made all size : ℕ) → made ≡ min all max_number → min (made + size) (2 ^ 64 - 1) ≡ min (all + size) max_number
end_alike made all size is = omega (arith, is)

module _ (hub : Hub) (n t id : ℕ) (question : Question) where
  said-keeps : (notices : List Notice) (waiting : List WaitingName) (queue : Queue) (k : ℕ × KeptSession) (p : ℕ × Session) → p.1.output ≡ [] → length (push_message notices) ≤ max_net_message → SessionFits hub k p
      → SessionFits hub (k.0, says_first_answer keeping t (answer_to id noerror) notices waiting k.1) (p.0, says_first_answer (plain_keeps n) t (answer_to id noerror) notices queue p.1)
  said-keeps [] waiting queue k p silent fits s = answers-keeps hub n false t (answer_to id noerror) k p silent (omega arith) s
  said-keeps (x ∷ xs) waiting queue k p silent fits s =
      with_frame-keeps hub n false t (push_message (x ∷ xs)) k.1.queue p.1.queue _ _ (omega (arith, ap length silent, fits, length-append p.1.output (frame (answer_to id noerror))))
      (with_frame-keeps hub n false t (answer_to id noerror) waiting queue k p (omega (arith, ap length silent)) s)

  -- an accepted question, and what follows the answer to it
  abbrev plain_accepts : List Notice → Session → Session
  plain_accepts notices p = says_first_answer (plain_keeps n) t (answer_to id noerror) notices p.queue (subscribed (plain_keeps n) id question (size_of_made p.made + first_answer_size (answer_to id noerror) notices) p)

  with_accepted-keeps : (k : ℕ × KeptSession) (p : ℕ × Session) → is_open p.1.standing ≡ true → p.1.output ≡ [] → AreTold (records_now hub) → IsTrue (is_name question.name) → SessionFits hub k p
      → Passed (plain_keeps n) id question (has_home hub (Some question)) p.1.subscriptions
      → SessionFits hub (k.0, with_accepted keeping (telling (records_now hub)) t id question k.1) (p.0, with_accepted (plain_keeps n) (plain_tells hub.start hub.history) t id question p.1)
  with_accepted-keeps k p opens silent told named s new =
      subst (λ (notices : List Notice). SessionFits hub (k.0, with_accepted keeping (telling (records_now hub)) t id question k.1) (p.0, plain_accepts notices p.1)) (first-alike hub k p s question)
      (subst (λ (end : ℕ). SessionFits hub (k.0, says_first_answer keeping t (answer_to id noerror) notices k.1.queue (subscribed keeping id question end k.1)) (p.0, plain_accepts notices p.1))
      (sym (end_alike k.1.made (size_of_made p.1.made) (first_answer_size (answer_to id noerror) notices) s.stands.written))
      (said-keeps notices k.1.queue p.1.queue _ _ silent (first_fits_one_message question k.1.subscriptions.asked (records_now hub) (find (is_named question.name) k.1.queue) named (question.name, (told question.name).0) (told question.name).1)
      (subscribed-keeps hub n k p s opens id question (size_of_made p.1.made + first_answer_size (answer_to id noerror) notices) new)))
    where
      notices : List Notice
      notices = first_notices question k.1.subscriptions.asked (records_now hub) (find (is_named question.name) k.1.queue)

-- ---- all verdicts

pub answered-keeps : (hub : Hub) (n t id : ℕ) (question : Option Question) (k : ℕ × KeptSession) (p : ℕ × Session) → is_open p.1.standing ≡ true → p.1.output ≡ [] → AreTold (records_now hub)
    → ((q : Question) → question ≡ Some q → IsTrue (is_name q.name)) → SessionFits hub k p
    → SessionFits hub (k.0, answered keeping (telling (records_now hub)) t id question (has_home hub question) k.1) (p.0, answered (plain_keeps n) (plain_tells hub.start hub.history) t id question (has_home hub question) p.1)
answered-keeps hub n t id question k p opens silent told named s =
    subst (λ (v : Verdict). SessionFits hub (k.0, decided keeping (telling (records_now hub)) t id v k.1) (p.0, answered (plain_keeps n) (plain_tells hub.start hub.history) t id question (has_home hub question) p.1))
    (sym (verdict-alike hub n k p s id question (has_home hub question)))
    (by (verdict_on (plain_keeps n) id question (has_home hub question) p.1.subscriptions) refl)
  where
    by : (v : Verdict) → verdict_on (plain_keeps n) id question (has_home hub question) p.1.subscriptions ≡ v
        → SessionFits hub (k.0, decided keeping (telling (records_now hub)) t id v k.1) (p.0, decided (plain_keeps n) (plain_tells hub.start hub.history) t id v p.1)
    by (subscribing.Refuse rcode) is = answers-keeps hub n false t (refusal_to id rcode) k p silent (omega arith) s
    by (subscribing.Abort reason) is = ended-keeps hub n reason k p s
    by (subscribing.Accept q) is =
        let both = passed (plain_keeps n) id (has_home hub question) p.1.subscriptions question q is in
        with_accepted-keeps hub n t id q k p opens silent told (named q both.0) s (subst (λ (o : Option Question). Passed (plain_keeps n) id q (has_home hub o) p.1.subscriptions) both.0 both.1)
