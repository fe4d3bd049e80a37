-- A client that is joined to its session is asked for something, or comes to a moment: it stays joined.
--     written-behind      octets written behind others are octets, too
--     asks-stay, moments-stay
use Rattle.std.proofs.Common.{◌≡◌, ℕ, ◌+◌, ◌≤◌, Bool, true, false, List, [], ◌∷◌, ◌++◌, length, Option, Some, None, sym, ap, ◌∙◌, subst, refl, append_assoc}
use Rattle.std.specs.Prelude.{◌&&◌, is_some, nat_le, option_map, if◌then◌else◌}
use Rattle.std.specs.List.{list_any, AllByRecursion}
use Rattle.std.proofs.lemmas.List.{append_cancel_right}
use Rattle.push_base.specs.Limits.{max_questions, max_input}
use Rattle.rrset.specs.declared.record.Question.{Question}
use Rattle.rrset.specs.declared.record.Rr.{Rr}
use Rattle.dsotlv.specs.Laws.{AreOctets}
use Rattle.dsosession.specs.Timing.{client_due}
use Rattle.dsosession.specs.declared.session.CloseReason.{CloseReason}
use Rattle.dsosession.specs.declared.session.CloseReason.TheVariants as closes
use Rattle.dsosession.specs.declared.session.Due.{Due}
use Rattle.dsosession.specs.declared.session.Due.TheVariants as dues
use Rattle.pushserver.specs.PlainHubs.{Hub, Session, size_of_made}
use Rattle.pushclient.specs.declared.client.Asked.{Asked}
use Rattle.pushclient.specs.declared.client.Asked.TheVariants as asked
use Rattle.pushclient.specs.Clients.{Client, Connection, Wish, RequestState, not_asked, unanswered, refused, answered, next_id, writes, unsubscribe_message, reconfirm_message, open_connection, with_connection, asks, subscribe, unsubscribe, reconfirm, drops, wish_for, without_wish, closed_as}
use Rattle.pushclient.specs.Steps.{is_active, does, at_later, moment}
use Rattle.inflight.specs.Messages.{ClientMessage, flying_octets}
use Rattle.inflight.specs.Flight.{IsUnderWay}
use Rattle.flight_laws.specs.Taking.{written, GoesUp, asked_by, dropped_by, reconfirmed_by, due_at, due_message, due_close}
use Rattle.flight_laws.proofs.CallsOnOctets.{subscribes-go-up, unsubscribes-go-up, reconfirms-go-up, moments-go-up}
use Rattle.flight_laws.proofs.Opening.{still-open}
use Rattle.scripts.specs.declared.line.Call.{Call}
use Rattle.scripts.specs.declared.line.Call.TheVariants as calls
use Rattle.replay.specs.World.{Seat}
use Rattle.replay.specs.Text.{called}
use Rattle.replay.specs.Promises.{ShownPoints, ShowsNoLater, point_taken}
use Rattle.replay.proofs.rest.RestingStreams.{octets-both}
use Rattle.script_laws.specs.Reached.{ReachedSessions}
use Rattle.script_laws.specs.Joined.{ClosedByDelay, IsJoined}
use Rattle.script_laws.specs.Lines.{IsCallWithin}
use Rattle.script_laws.specs.Walk.{StaysJoined, KeepsJoined, AsksStay, MomentsStay}
use Rattle.pushclient.proofs.SoundWishes.{some_is}
use Rattle.script_laws.proofs.downs.Wishes.{asked_on, reconfirmed_on, moment_on}
use Rattle.script_laws.proofs.downs.Octets.{WritesOctets, octets-written, asked-octets, dropped-octets, reconfirmed-octets, due-octets}
use Rattle.script_laws.proofs.downs.Stops.{IsNoStop}

pub written-behind : (wire output later : List ℕ) (more : List ClientMessage) → later ≡ output ++ written more → AllByRecursion WritesOctets more → AreOctets (wire ++ output) → AreOctets (wire ++ later)
written-behind wire output later more is all below =
    subst AreOctets (append_assoc wire output (written more) ∙ ap (λ os. wire ++ os) (sym is)) (octets-both (wire ++ output) (written more) below (octets-written more all))

module _ (hub : Hub) (shown : ShownPoints) (seat : Seat) (number : ℕ) (session : Session) (c : Connection) (j : IsJoined hub shown seat number session c) where
  abbrev Before : Type 0
  Before = IsUnderWay hub seat.filled session seat.client c seat.up_wire seat.down_wire

  -- as many octets wait at the client as before
  same-input : (later : Client) (d : Connection) (after : IsUnderWay hub seat.filled session later d seat.up_wire seat.down_wire) → after.flying ≡ j.flight.flying → d.input ≡ c.input
  same-input later d after same = append_cancel_right d.input c.input (seat.down_wire ++ session.output) (after.whole_down ∙ ap (flying_octets hub.timers) same ∙ sym j.flight.whole_down)

  stays : c.closed ≡ None → (later : Client) (more : List ClientMessage) (reason : Option CloseReason) → AllByRecursion WritesOctets more → GoesUp hub seat.filled session seat.client c seat.up_wire seat.down_wire j.flight later more reason
      → StaysJoined hub shown seat number session c later
  stays was_open later more reason all up =
      let same = same-input later up.connection up.after up.flying in
      record {
        connection = up.connection;
        there = up.there;
        input = same;
        joined = λ unclosed. record {
          there = j.there;
          connected = up.there;
          flight = up.after;
          reached = j.reached ∙ (λ i. size_of_made (sym up.taken i) + length (sym same i));
          up_wire = j.up_wire;
          down_wire = j.down_wire;
          input = subst (λ os. length os ≤ max_input) (sym same) j.input;
          octets = written-behind seat.up_wire c.output up.connection.output more up.output all j.octets;
          ended = j.ended;
          closed = subst (ClosedByDelay session.standing) (sym unclosed) tt;
          unstopped = λ still. subst (AllByRecursion IsNoStop) (sym up.taken) (j.unstopped was_open);
          start = j.start;
          began = j.began;
          shown_before = subst (λ taken. ShowsNoLater shown (point_taken j.start taken)) (sym up.taken) j.shown_before;
        };
      }

-- ---- whether it stays open

module _ (client : Client) (c : Connection) (there : client.connection ≡ Some c) (unclosed : c.closed ≡ None) where
  abbrev closed_in : Option Connection → Option CloseReason
  closed_in o = elim o as (λ _. Option CloseReason) [ None ↦ None | Some d ↦ d.closed ]

  abbrev StaysOpen : Client → Type 0
  StaysOpen later = closed_as later ≡ None

  opened-here : open_connection client ≡ Some c
  opened-here = still-open client c there unclosed

  as-it-was : StaysOpen client
  as-it-was = ap closed_in there ∙ unclosed

  asks-open : (question : Question) → StaysOpen (asks client question)
  asks-open question = ap (λ (o : Option Connection). closed_as (asked_on client question o)) opened-here ∙ unclosed

  subscribe-open : (question : Question) → StaysOpen (subscribe client question).1
  subscribe-open question = by (wish_for client question)
    where
      wanted : (wish : Wish) (b : Bool) → (let r : Asked × Client = if b then (asked.Already, client) else (asked.New, record client { wishes = without_wish question client.wishes ++ (record wish { wanted = true }) ∷ [] }) in StaysOpen r.1)
      wanted wish true = as-it-was
      wanted wish false = as-it-was

      room : (b : Bool) → (let r : Asked × Client = if b then (asked.Many, client) else (asked.New, asks client question) in StaysOpen r.1)
      room true = as-it-was
      room false = asks-open question

      by : (o : Option Wish) → (let r : Asked × Client = elim o as (λ _. Asked × Client) [
        | Some wish ↦ if wish.wanted then (asked.Already, client) else (asked.New, record client { wishes = without_wish question client.wishes ++ (record wish { wanted = true }) ∷ [] })
        | None ↦ if nat_le max_questions (length client.wishes) then (asked.Many, client) else (asked.New, asks client question)
      ] in StaysOpen r.1)
      by (Some wish) = wanted wish wish.wanted
      by None = room (nat_le max_questions (length client.wishes))

  ended-open : (gone : Client) (id : ℕ) → gone.connection ≡ client.connection → StaysOpen (elim (open_connection client) as (λ _. Client) [ None ↦ gone | Some d ↦ with_connection (writes false client.now (unsubscribe_message id) d) gone ])
  ended-open gone id same = ap (λ (o : Option Connection). closed_as (elim o as (λ _. Client) [ None ↦ gone | Some d ↦ with_connection (writes false client.now (unsubscribe_message id) d) gone ])) opened-here ∙ unclosed

  drops-open : (wish : Wish) (s : RequestState) → StaysOpen (drops s wish client)
  drops-open wish (answered id) = ended-open (record client { wishes = without_wish wish.question client.wishes }) id refl
  drops-open wish (unanswered id) = as-it-was
  drops-open wish (refused rcode) = as-it-was
  drops-open wish not_asked = as-it-was

  unsubscribe-open : (question : Question) → StaysOpen (unsubscribe client question).1
  unsubscribe-open question = by (wish_for client question)
    where
      wanted : (wish : Wish) (b : Bool) → (let r : Bool × Client = if b then (true, drops wish.standing wish client) else (false, client) in StaysOpen r.1)
      wanted wish true = drops-open wish wish.standing
      wanted wish false = as-it-was

      by : (o : Option Wish) → (let r : Bool × Client = elim o as (λ _. Bool × Client) [ None ↦ (false, client) | Some wish ↦ if wish.wanted then (true, drops wish.standing wish client) else (false, client) ] in StaysOpen r.1)
      by None = as-it-was
      by (Some wish) = wanted wish wish.wanted

  reconfirm-open : (rr : Rr) → StaysOpen (reconfirm client rr).1
  reconfirm-open rr = ap (λ (o : Option Connection). closed_as (reconfirmed_on client rr o).1) opened-here ∙ said (c.established && nat_le (length (reconfirm_message rr)) 65535)
    where
      said : (b : Bool) → (let r : Bool × Client = if b then (true, with_connection (writes false client.now (reconfirm_message rr) c) client) else (false, client) in StaysOpen r.1)
      said true = unclosed
      said false = as-it-was

  -- at a moment an open client closes by its own timer alone
  moment-closes : (t : ℕ) (reason : CloseReason) → closed_as (moment client t) ≡ Some reason → reason ≡ closes.Idle
  moment-closes t reason closed = by (client_due c.clocks t (list_any (λ w. is_active w.standing) client.wishes) (is_some c.keepalive_out)) (sym (ap (λ (o : Option Connection). closed_as (moment_on client t o)) opened-here) ∙ closed)
    where
      never : None ≡ Some reason → reason ≡ closes.Idle
      never both = absurd cc

      by : (due : Due) → closed_as (does due c (at_later t client)) ≡ Some reason → reason ≡ closes.Idle
      by dues.Nothing h = never (sym as-it-was ∙ h)
      by dues.Keepalive h = never (sym unclosed ∙ h)
      by dues.Idle h = some_is reason closes.Idle (sym h ∙ ap (λ (o : Option Connection). closed_in (option_map (λ (d : Connection). record d { closed = Some closes.Idle }) o)) there)

-- ---- the laws

call-open : (call : Call) (client : Client) (c : Connection) → client.connection ≡ Some c → c.closed ≡ None → closed_as (called call client).1 ≡ None
call-open (calls.Ask question) client c there unclosed = subscribe-open client c there unclosed question
call-open (calls.Drop question) client c there unclosed = unsubscribe-open client c there unclosed question
call-open (calls.Reconfirm rr) client c there unclosed = reconfirm-open client c there unclosed rr

module _ (sessions : ReachedSessions) where
  call-joined : (call : Call) → IsCallWithin call → KeepsJoined (λ client. (called call client).1)
  call-joined (calls.Ask question) within hub shown seat number session c reached j unclosed =
      stays hub shown seat number session c j unclosed (subscribe seat.client question).1 (asked_by seat.client c question) None (asked-octets seat.client c question within)
      (subscribes-go-up hub seat.filled session seat.client c seat.up_wire seat.down_wire question within (sessions hub number session reached j.there).ids (still-open seat.client c j.connected unclosed) j.flight)
  call-joined (calls.Drop question) within hub shown seat number session c reached j unclosed =
      stays hub shown seat number session c j unclosed (unsubscribe seat.client question).1 (dropped_by seat.client question) None (dropped-octets seat.client question)
      (unsubscribes-go-up hub seat.filled session seat.client c seat.up_wire seat.down_wire question (still-open seat.client c j.connected unclosed) j.flight)
  call-joined (calls.Reconfirm rr) within hub shown seat number session c reached j unclosed =
      stays hub shown seat number session c j unclosed (reconfirm seat.client rr).1 (reconfirmed_by c rr) None (reconfirmed-octets c rr within.0 within.1.0)
      (reconfirms-go-up hub seat.filled session seat.client c seat.up_wire seat.down_wire rr within.0 (still-open seat.client c j.connected unclosed) j.flight)

  pub asks-stay : AsksStay
  asks-stay = record { joined = call-joined; unclosed = call-open }

pub moments-stay : MomentsStay
moments-stay = record {
  joined = λ t hub shown seat number session c reached j unclosed.
      let due = due_at seat.client c t in
      let id = next_id seat.client.wishes c in
      stays hub shown seat number session c j unclosed (moment seat.client t) (due_message due id) (due_close due) (due-octets due id)
      (moments-go-up hub seat.filled session seat.client c seat.up_wire seat.down_wire t (still-open seat.client c j.connected unclosed) j.flight);
  closes_so = λ t client c reason there unclosed closed. moment-closes client c there unclosed t reason closed;
}
