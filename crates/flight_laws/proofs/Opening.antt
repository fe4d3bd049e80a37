-- A client is connected to a new session, and asks all that it wants.
--     connections-open      what is under way fits together
use Rattle.std.proofs.Common.{◌≡◌, ℕ, ◌+◌, ◌≤◌, Bool, false, cond, List, [], ◌∷◌, ◌++◌, map, length, Option, Some, None, sym, ap, ◌∙◌, subst, refl, arith, append_assoc, append-nil}
use Rattle.std.specs.Prelude.{IsTrue, find, fold, is_some, ◌==◌}
use Rattle.std.specs.List.{AllByRecursion, IsDistinct}
use Rattle.std.proofs.lemmas.Grind.{flat_map-append}
use Rattle.push_base.specs.Limits.{max_questions}
use Rattle.rrset.specs.Records.{same_question}
use Rattle.rrset.specs.declared.record.Question.{Question}
use Rattle.rrset.proofs.Distinct.{distinct_none}
use Rattle.dsotlv.specs.Messages.{frame}
use Rattle.dsosession.specs.declared.session.CloseReason.{CloseReason}
use Rattle.pushsession.specs.Sessions.{new_session}
use Rattle.pushserver.specs.Hubs.{keeps_now}
use Rattle.pushserver.specs.PlainHubs.{Session, Subscription, Hub}
use Rattle.pushclient.specs.Clients.{Client, Connection, Wish, next_id, new_connection, open_connection, asks, wanted_questions}
use Rattle.pushclient.specs.SoundClients.{question_of}
use Rattle.pushclient.proofs.SoundCalls.{asks_questions, asks_length}
use Rattle.pushclient.proofs.SoundWishes.{all_at}
use Rattle.inflight.specs.Messages.{ClientMessage, message_octets, subscribes}
use Rattle.inflight.specs.Ends.{is_question}
use Rattle.flight_laws.specs.Taking.{written, question_asked, ConnectionsOpen}
use Rattle.flight_laws.proofs.Beginning.{fits-new}
use Rattle.flight_laws.proofs.CallsOnOctets.{asked-behind}
use Rattle.inflight.specs.Flight.{IsUnderWay}

-- of questions that differ, no wish has the next
next-is-new : (ws : List Wish) (q : Question) (qs : List Question) → IsDistinct same_question (map question_of ws ++ q ∷ qs) → find (λ w. same_question w.question q) ws ≡ None
unfolding IsDistinct
next-is-new [] q qs h = refl
next-is-new (w ∷ ws) q qs h =
    let own = all_at (λ y. same_question w.question y ≡ false) (map question_of ws) q qs h.0 in
    ap (λ (b : Bool). cond b (Some w) (find (λ (v : Wish). same_question v.question q) ws)) own ∙ next-is-new ws q qs h.1

pub still-open : (p : Client) (d : Connection) → p.connection ≡ Some d → d.closed ≡ None → open_connection p ≡ Some d
still-open p d there closed =
    ap (λ (o : Option Connection). elim o as (λ _. Option Connection) [ None ↦ None | Some c ↦ cond (is_some c.closed) None (Some c) ]) there ∙ ap (λ (r : Option CloseReason). cond (is_some r) None (Some d)) closed

module _ (hub : Hub) (opened : ℕ) where
  abbrev session : Session
  session = new_session (keeps_now hub) opened

  -- behind some that were asked, these are asked in their order
  record AllAsked (p : Client) (d : Connection) (before : IsUnderWay hub [] session p d [] []) (qs : List Question) : Type 0 where
    last : Connection
    there : (fold asks p qs).connection ≡ Some last
    after : IsUnderWay hub [] session (fold asks p qs) last [] []
    taken : after.taken ≡ before.taken
    flying : after.flying ≡ before.flying
    more : List ClientMessage
    ups : after.ups ≡ before.ups ++ more
    asked : map question_asked more ≡ map (λ q. Some q) qs
    output : last.output ≡ d.output ++ written more
    closed : last.closed ≡ None

  all-asked : (qs : List Question) (p : Client) (d : Connection) → p.connection ≡ Some d → d.closed ≡ None → (before : IsUnderWay hub [] session p d [] []) → length p.wishes + length qs ≤ max_questions
      → IsDistinct same_question (map question_of p.wishes ++ qs) → AllByRecursion (λ q. IsTrue (is_question q)) qs → AllAsked p d before qs
  all-asked [] p d there closed before room different fits =
      record { last = d; there = there; after = before; taken = refl; flying = refl; more = []; ups = sym (append-nil before.ups); asked = refl; output = sym (append-nil d.output); closed = closed }
  all-asked (q ∷ qs) p d there closed before room different fits =
      let go = asked-behind hub [] session p d [] [] (still-open p d there closed) before q fits.0 (distinct_none (λ (s t : Subscription). s.id == t.id)) (next-is-new p.wishes q qs different) (omega (arith, room)) in
      let longer = asks_length p q in
      let regrouped = subst (IsDistinct same_question) (sym (append_assoc (map question_of p.wishes) (q ∷ []) qs) ∙ ap (λ l. l ++ qs) (sym (asks_questions p q))) different in
      let rest = all-asked qs (asks p q) go.connection go.there go.closed go.after (omega (arith, room, longer)) regrouped fits.1 in
      let m = subscribes (next_id p.wishes d) q in
      record {
        last = rest.last;
        there = rest.there;
        after = rest.after;
        taken = rest.taken ∙ go.taken;
        flying = rest.flying ∙ go.flying;
        more = m ∷ rest.more;
        ups = rest.ups ∙ ap (λ l. l ++ rest.more) go.ups ∙ append_assoc before.ups (m ∷ []) rest.more;
        asked = ap (λ l. Some q ∷ l) rest.asked;
        output = rest.output ∙ ap (λ l. l ++ written rest.more) go.output ∙ append_assoc d.output (written (m ∷ [])) (written rest.more)
            ∙ ap (λ l. d.output ++ l) (sym (flat_map-append (λ n. frame (message_octets n)) (m ∷ []) rest.more));
        closed = rest.closed;
      }

pub connections-open : ConnectionsOpen
connections-open hub opened t client granted few different fits =
    let start : Client = record { wishes = []; connection = Some (new_connection t); now = t } in
    let before : IsUnderWay hub [] (session hub opened) start (new_connection t) [] [] =
    record { taken = []; flying = []; ups = []; made = refl; whole_down = refl; whole_up = λ goes_on. refl; fit = fits-new hub opened t granted } in
    let all = all-asked hub opened (wanted_questions client) start (new_connection t) refl refl before (omega (arith, few)) different fits in
    record {
      connection = all.last;
      there = all.there;
      after = all.after;
      taken = all.taken;
      flying = all.flying;
      asked = ap (map question_asked) all.ups ∙ all.asked;
      output = all.output ∙ ap written (sym all.ups);
      closed = all.closed;
    }
