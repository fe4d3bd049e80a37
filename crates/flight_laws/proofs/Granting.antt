-- The session answers a Keepalive, takes a RECONFIRM, or gives a PUSH: none changes its subscriptions.
--     keepalives-granted, reconfirms-taken, pushes-given, names-leave      what is under way fits together behind it
use Rattle.std.proofs.Common.{◌≡◌, ℕ, ◌+◌, ◌<◌, ◌≤◌, Bool, true, false, not, ◌&&◌, ◌||◌, List, [], ◌∷◌, ◌++◌, length, Option, Some, None, sym, subst, refl, true≢false, arith}
use Rattle.std.specs.Prelude.{IsTrue, IsSome, filter, nat_le, ◌==◌}
use Rattle.std.specs.List.{list_any, AllByRecursion}
use Rattle.std.proofs.lemmas.Bool.{and_parts, or_left, or_right}
use Rattle.std.proofs.lemmas.List.Folds.{list_any-append}
use Rattle.dnsname.specs.Names.{is_name}
use Rattle.rrset.specs.Records.{same_question}
use Rattle.rrset.specs.declared.record.Question.{Question}
use Rattle.rrset.specs.declared.record.Rr.{Rr}
use Rattle.dsotlv.specs.declared.message.Notice.{Notice}
use Rattle.pushserver.specs.PlainHubs.{Made, Note, Subscription, asked_of}
use Rattle.pushserver.proofs.hub_steps.Pairs.{all-weaken}
use Rattle.pushclient.specs.Clients.{Wish, RequestState, not_asked, unanswered, refused, answered, reconfirm_message}
use Rattle.pushclient.specs.ServerMessages.{ServerMessage, accepts, refuses, grants, tells, delays}
use Rattle.pushclient.specs.FittingMessages.{is_delay}
use Rattle.pushclient.specs.SoundClients.{count_of}
use Rattle.pushclient.specs.Steps.{is_answered}
use Rattle.pushclient.proofs.SoundWishes.{all_behind}
use Rattle.inflight.specs.Messages.{ClientMessage, subscribes, unsubscribes, reconfirms, requests_keepalive, request_ids, unsubscribed_ids, unsubscribes_id, Flying, CanBeRead, answer_ids, accepts_id, is_refusal}
use Rattle.inflight.specs.Ends.{BothEnds, is_id, is_held_with, is_answered_as, unanswered_ids, fits_request, taken_up, all_taken_up}
use Rattle.inflight.specs.Flight.{IsSoundClient, Downward, Upward, FitsTogether, is_active_answer, is_let_go, is_accounted_for}
use Rattle.flight_laws.specs.Laws.{Active, flies}
use Rattle.flight_laws.specs.Reacting.{with_made, KeepalivesAreGranted, ReconfirmsAreTaken, PushesAreGiven, NamesLeaveUnsent}
use Rattle.flight_laws.proofs.TakenUp.{goes_on, where_allowed, part-itself, all_taken_up-part}
use Rattle.flight_laws.proofs.MoreDown.{seen-more, more-answer, more-silent, enough-wait, first-answer, first-still, let-go-more}

-- ---- what goes up

-- the first message is taken up, and then the others
pub first-taken : (established : Bool) (active : Active) (m : ClientMessage) (ups : List ClientMessage) → IsSome (all_taken_up established active (m ∷ ups))
    → (later : Active) × (taken_up established active m ≡ Some later) × IsSome (all_taken_up established later ups)
first-taken established active m ups h = by (taken_up established active m) refl h
  where
    by : (o : Option Active) → taken_up established active m ≡ o → IsSome (goes_on established ups o) → (later : Active) × (taken_up established active m ≡ Some later) × IsSome (all_taken_up established later ups)
    by None is h = absurd (true≢false (sym h))
    by (Some later) is h = (later, is, h)

-- what is accounted for still is when a message more comes down
pub accounted-down : (e : BothEnds) (flying : List Flying) (f : Flying) (ups : List ClientMessage) (s : Subscription) → IsTrue (is_accounted_for e flying ups s) → IsTrue (is_accounted_for e (flying ++ f ∷ []) ups s)
accounted-down e flying f ups s h =
    let more = list_any-append (λ (g : Flying). accepts_id s.id g.says) flying (f ∷ []) in
    subst (λ b. (list_any (is_answered_as s.id s.question) e.wishes || b || list_any (unsubscribes_id s.id) ups) ≡ true) (sym more)
    (by (list_any (is_answered_as s.id s.question) e.wishes) (list_any (λ (g : Flying). accepts_id s.id g.says) flying) (list_any (λ (g : Flying). accepts_id s.id g.says) (f ∷ [])) (list_any (unsubscribes_id s.id) ups) h)
  where
    by : (a b x u : Bool) → (a || b || u) ≡ true → (a || (b || x) || u) ≡ true
    by true b x u h = refl
    by false true x u h = refl
    by false false true u h = refl
    by false false false u h = h

-- ---- a Keepalive

module _ (e : BothEnds) (taken : List Made) (flying : List Flying) (ups : List ClientMessage) (id : ℕ) (note : Note)
    (going : IsTrue e.goes_on) (fit : FitsTogether e taken flying (requests_keepalive id ∷ ups)) where
  abbrev the_grant : Flying
  the_grant = flies (grants id) note e.subscriptions

  abbrev granted : BothEnds
  granted = with_made the_grant (record e { established = true })

  grant-client : IsSoundClient granted
  grant-client = (let c = fit.client in record { wishes = c.wishes; ids = c.ids; distinct = c.distinct; last = c.last; asked = c.asked; begun = c.begun })

  grant-once : (n : ℕ) → count_of n (unanswered_ids e) ≡ count_of n (request_ids ups) + count_of n (answer_ids (flying ++ the_grant ∷ []))
  grant-once n = more-answer n id (unanswered_ids e) (request_ids ups) flying the_grant refl ((fit.up going).once n)

  grant-answers : AllByRecursion (λ g. IsTrue (is_active_answer e g)) (flying ++ the_grant ∷ [])
  grant-answers = all_behind (λ g. IsTrue (is_active_answer e g)) flying the_grant (fit.up going).answers refl

  grant-down : Downward granted taken (flying ++ the_grant ∷ [])
  grant-down =
      let d = fit.down in
      let u = fit.up going in
      record {
        readable = all_behind (CanBeRead e.timers) flying the_grant d.readable (tt, omega arith);
        fits = all_behind (λ (g : Flying). IsTrue (fits_request e g.says)) flying the_grant d.fits u.requests.0;
        awaited = λ n. enough-wait (count_of n (unanswered_ids e)) (count_of n (request_ids ups)) (count_of n (answer_ids (flying ++ the_grant ∷ []))) (grant-once n);
        notices = d.notices;
        seen = seen-more e taken flying the_grant fit.client refl d.told u.held grant-answers d.seen;
        told = d.told;
        homeless = d.homeless;
        established = or_right (not e.client_established) true refl;
        speaks = all_behind (λ (g : Flying). IsTrue (true || is_refusal g.says)) flying the_grant (all-weaken (λ (g : Flying). IsTrue (e.established || is_refusal g.says)) (λ (g : Flying). IsTrue (true || is_refusal g.says)) (λ g h. refl) flying d.speaks) refl;
        first = first-answer e.established e.client_established flying the_grant refl d.speaks d.first;
      }

  grant-up : Upward granted (flying ++ the_grant ∷ []) ups
  grant-up =
      let u = fit.up going in
      let active : Active = asked_of e.subscriptions in
      let one = first-taken e.established active (requests_keepalive id) ups u.accepted in
      let same = where_allowed (is_id id) active one.0 one.1 in
      let left : IsSome (all_taken_up e.established active ups) = subst (λ l. IsSome (all_taken_up e.established l ups)) (sym same.1) one.2 in
      record {
        once = grant-once;
        requests = u.requests.1;
        answers = grant-answers;
        let_go = all-weaken (λ n. IsTrue (is_let_go e flying n)) (λ n. IsTrue (is_let_go e (flying ++ the_grant ∷ []) n)) (λ n h. let-go-more e flying the_grant n refl h) (unsubscribed_ids ups) u.let_go;
        let_go_once = u.let_go_once;
        held = u.held;
        active = all-weaken (λ s. IsTrue (is_accounted_for e flying ups s)) (λ s. IsTrue (is_accounted_for e (flying ++ the_grant ∷ []) ups s)) (λ s h. accounted-down e flying the_grant ups s h) e.subscriptions u.active;
        accepted = all_taken_up-part e.established true (λ was. refl) active active (part-itself active) ups left;
        no_delay = all_behind (λ (g : Flying). IsTrue (not (is_delay g.says))) flying the_grant u.no_delay refl;
      }

  pub keepalive-granted : FitsTogether granted taken (flying ++ the_grant ∷ []) ups
  keepalive-granted = record { timers = fit.timers; client = grant-client; down = grant-down; up = λ goes_on. grant-up }

pub keepalives-granted : KeepalivesAreGranted
keepalives-granted e taken flying ups id note going fit = keepalive-granted e taken flying ups id note going fit

-- ---- a RECONFIRM

module _ (e : BothEnds) (flying : List Flying) (ups : List ClientMessage) (rr : Rr) where
  reconfirm-up : Upward e flying (reconfirms rr ∷ ups) → Upward e flying ups
  reconfirm-up u =
      let active : Active = asked_of e.subscriptions in
      let one = first-taken e.established active (reconfirms rr) ups u.accepted in
      let same = where_allowed (e.established && is_name rr.owner && nat_le (length (reconfirm_message rr)) 65535) active one.0 one.1 in
      record {
        once = u.once;
        requests = u.requests.1;
        answers = u.answers;
        let_go = u.let_go;
        let_go_once = u.let_go_once;
        held = u.held;
        active = u.active;
        accepted = subst (λ l. IsSome (all_taken_up e.established l ups)) (sym same.1) one.2;
        no_delay = u.no_delay;
      }

pub reconfirms-taken : ReconfirmsAreTaken
reconfirms-taken e taken flying ups rr fit = record { timers = fit.timers; client = fit.client; down = fit.down; up = λ goes_on. reconfirm-up e flying ups rr (fit.up goes_on) }

-- ---- a PUSH

-- where something that an UNSUBSCRIBE ends goes up, the session is established
behind-unsubscribe : (established : Bool) (id : ℕ) (active : Active) (ups : List ClientMessage) → list_any (unsubscribes_id id) ups ≡ true → IsSome (all_taken_up established active ups) → established ≡ true
behind-unsubscribe established id active [] some h = absurd (true≢false (sym some))
behind-unsubscribe established id active (m ∷ ups) some h =
    let one = first-taken established active m ups h in
    by m one.1 some (λ rest. behind-unsubscribe established id one.0 ups rest one.2)
  where
    by : (m : ClientMessage) {later : Active} → taken_up established active m ≡ Some later → (unsubscribes_id id m || list_any (unsubscribes_id id) ups) ≡ true → (list_any (unsubscribes_id id) ups ≡ true → established ≡ true) → established ≡ true
    by (subscribes other question) is some rest = rest some
    by (unsubscribes other) {later = later} is some rest =
        let parts = where_allowed (established && is_id other) (filter (λ a. not (a.0 == other)) active) later is in
        (and_parts established (is_id other) parts.0).0
    by (reconfirms rr) is some rest = rest some
    by (requests_keepalive other) is some rest = rest some

-- where an answer comes down, the session is established
behind-answer : (established : Bool) (id : ℕ) (flying : List Flying) → AllByRecursion (λ g. IsTrue (established || is_refusal g.says)) flying → list_any (λ g. accepts_id id g.says) flying ≡ true → established ≡ true
behind-answer established id [] speaks h = absurd (true≢false (sym h))
behind-answer established id (f ∷ flying) speaks h = by f.says speaks.0 h (behind-answer established id flying speaks.1)
  where
    alone : (b : Bool) → (b || false) ≡ true → b ≡ true
    alone true h = refl
    alone false h = absurd (true≢false (sym h))

    by : (m : ServerMessage) → (established || is_refusal m) ≡ true → (accepts_id id m || list_any (λ (g : Flying). accepts_id id g.says) flying) ≡ true
        → (list_any (λ (g : Flying). accepts_id id g.says) flying ≡ true → established ≡ true) → established ≡ true
    by (accepts other) speaks h rest = alone established speaks
    by (refuses other) speaks h rest = rest h
    by (grants other) speaks h rest = rest h
    by (tells notices) speaks h rest = rest h
    by (delays rcode delay) speaks h rest = rest h

-- where the client holds something, it is established
behind-held : (e : BothEnds) (id : ℕ) (question : Question) (ws : List Wish) → AllByRecursion (λ w. IsTrue (not (is_answered w.standing) || e.client_established)) ws → list_any (is_answered_as id question) ws ≡ true → e.client_established ≡ true
behind-held e id question [] begun h = absurd (true≢false (sym h))
behind-held e id question (w ∷ ws) begun h = by w.standing begun.0 h (behind-held e id question ws begun.1)
  where
    by : (s : RequestState) → (not (is_answered s) || e.client_established) ≡ true → ((is_held_with id s && same_question question w.question) || list_any (is_answered_as id question) ws) ≡ true
        → (list_any (is_answered_as id question) ws ≡ true → e.client_established ≡ true) → e.client_established ≡ true
    by not_asked begun h rest = rest h
    by (unanswered other) begun h rest = rest h
    by (refused rcode) begun h rest = rest h
    by (answered other) begun h rest = begun

is-established : (client session : Bool) → client ≡ true → (not client || session) ≡ true → session ≡ true
is-established true session is h = h
is-established false session is h = absurd (true≢false (sym is))

module _ (e : BothEnds) (taken : List Made) (flying : List Flying) (ups : List ClientMessage) (c : IsSoundClient e) (d : Downward e taken flying) (u : Upward e flying ups) where
  behind-asked : (s : Subscription) → IsTrue (is_accounted_for e flying ups s) → e.established ≡ true
  behind-asked s h = by (list_any (is_answered_as s.id s.question) e.wishes) refl (list_any (λ (g : Flying). accepts_id s.id g.says) flying) refl (list_any (unsubscribes_id s.id) ups) refl h
    where
      by : (a : Bool) → list_any (is_answered_as s.id s.question) e.wishes ≡ a → (f : Bool) → list_any (λ (g : Flying). accepts_id s.id g.says) flying ≡ f → (b : Bool) → list_any (unsubscribes_id s.id) ups ≡ b
          → (a || f || b) ≡ true → e.established ≡ true
      by true held f accepted b ended h = is-established e.client_established e.established (behind-held e s.id s.question e.wishes c.begun held) d.established
      by false held true accepted b ended h = behind-answer e.established s.id flying d.speaks accepted
      by false held false accepted true ended h = behind-unsubscribe e.established s.id (asked_of e.subscriptions) ups ended u.accepted
      by false held false accepted false ended h = absurd (true≢false (sym h))

  -- a session of which something is asked is established
  asked-established : (subscriptions : List Subscription) → AllByRecursion (λ s. IsTrue (is_accounted_for e flying ups s)) subscriptions → 0 < length subscriptions → e.established ≡ true
  asked-established [] all some = absurd (omega (arith, some))
  asked-established (s ∷ ss) all some = behind-asked s all.0

module _ (e : BothEnds) (taken : List Made) (flying : List Flying) (ups : List ClientMessage) (notices : List Notice) (note : Note) (going : IsTrue e.goes_on) (some : 0 < length e.subscriptions) where
  abbrev the_push : Flying
  the_push = flies (tells notices) note e.subscriptions

  abbrev pushed : BothEnds
  pushed = with_made the_push e

  module _ (readable : CanBeRead e.timers the_push) (fit : FitsTogether e taken flying ups) where
    push-ids : answer_ids (flying ++ the_push ∷ []) ≡ answer_ids flying
    push-ids = more-silent flying the_push refl

    push-client : IsSoundClient pushed
    push-client = (let c = fit.client in record { wishes = c.wishes; ids = c.ids; distinct = c.distinct; last = c.last; asked = c.asked; begun = c.begun })

    push-answers : AllByRecursion (λ g. IsTrue (is_active_answer e g)) (flying ++ the_push ∷ [])
    push-answers = all_behind (λ g. IsTrue (is_active_answer e g)) flying the_push (fit.up going).answers refl

    push-down : Downward pushed taken (flying ++ the_push ∷ [])
    push-down =
        let d = fit.down in
        let u = fit.up going in
        let begun : e.established ≡ true = asked-established e taken flying ups fit.client d u e.subscriptions u.active some in
        record {
          readable = all_behind (CanBeRead e.timers) flying the_push d.readable readable;
          fits = all_behind (λ (g : Flying). IsTrue (fits_request e g.says)) flying the_push d.fits refl;
          awaited = λ n. subst (λ ids. count_of n ids ≤ count_of n (unanswered_ids e)) (sym push-ids) (d.awaited n);
          notices = d.notices;
          seen = seen-more e taken flying the_push fit.client refl d.told u.held push-answers d.seen;
          told = d.told;
          homeless = d.homeless;
          established = d.established;
          speaks = all_behind (λ (g : Flying). IsTrue (e.established || is_refusal g.says)) flying the_push d.speaks (or_left e.established false begun);
          first = first-still e.established e.client_established flying the_push d.first;
        }

    push-up : Upward pushed (flying ++ the_push ∷ []) ups
    push-up =
        let u = fit.up going in
        record {
          once = λ n. subst (λ ids. count_of n (unanswered_ids e) ≡ count_of n (request_ids ups) + count_of n ids) (sym push-ids) (u.once n);
          requests = u.requests;
          answers = push-answers;
          let_go = all-weaken (λ n. IsTrue (is_let_go e flying n)) (λ n. IsTrue (is_let_go e (flying ++ the_push ∷ []) n)) (λ n h. let-go-more e flying the_push n refl h) (unsubscribed_ids ups) u.let_go;
          let_go_once = u.let_go_once;
          held = u.held;
          active = all-weaken (λ s. IsTrue (is_accounted_for e flying ups s)) (λ s. IsTrue (is_accounted_for e (flying ++ the_push ∷ []) ups s)) (λ s h. accounted-down e flying the_push ups s h) e.subscriptions u.active;
          accepted = u.accepted;
          no_delay = all_behind (λ (g : Flying). IsTrue (not (is_delay g.says))) flying the_push u.no_delay refl;
        }

    pub push-given : FitsTogether pushed taken (flying ++ the_push ∷ []) ups
    push-given = record { timers = fit.timers; client = push-client; down = push-down; up = λ goes_on. push-up }

pub pushes-given : PushesAreGiven
pushes-given e taken flying ups notices note going some readable fit = push-given e taken flying ups notices note going some readable fit

-- neither end knows which names wait
pub names-leave : NamesLeaveUnsent
names-leave hub queue told session client c up_wire down_wire i = i
