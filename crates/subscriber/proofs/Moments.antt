-- A client at a moment, and one that is connected.
--     does-moment      what is due doesn't look at the input
--     passes      what is said and sent at a moment
--     IsOpen, open-connected      a client that is open where a message has just passed, as one is that was just connected
--     begins      what is sent at first
use Rattle.std.proofs.Common.{◌≡◌, ℕ, ◌<◌, Bool, true, false, Option, Some, None, List, [], ◌∷◌, ◌++◌, length, drop, refl, sym, ◌∙◌, ap, subst, append-nil, arith}
use Rattle.std.specs.Prelude.{fold, is_some}
use Rattle.std.specs.List.{list_any}
use Rattle.std.proofs.lemmas.List.Elements.{All-nil}
use Rattle.rrset.specs.declared.record.Question.{Question}
use Rattle.dsosession.specs.Timing.{client_due}
use Rattle.dsosession.specs.declared.session.CloseReason.{CloseReason}
use Rattle.dsosession.specs.declared.session.CloseReason.TheVariants as closes
use Rattle.dsosession.specs.declared.session.Due.{Due}
use Rattle.dsosession.specs.declared.session.Due.TheVariants as dues
use Rattle.pushclient.specs.Clients.{Client, Connection, Wish, not_asked, unanswered, new_connection, next_id, writes, subscribe_message, asks, connected, wanted_questions, open_connection, closed_as}
use Rattle.pushclient.specs.Pieces.{with_input}
use Rattle.pushclient.specs.Rule.{KeptClient, StandsFor}
use Rattle.pushclient.specs.Steps.{moment, does, is_active, keepalive_message, at_later}
use Rattle.pushclient.proofs.EveryCut.{IsAt, is-at}
use Rattle.pushclient.proofs.MessageSteps.{bare, is-open}
use Rattle.pushclient.proofs.Reactions.{at, with_octets}
use Rattle.pushclient.specs.HandedOut.{without_output, HandsOut}
use Rattle.configurations.specs.Configurations.{Subscribing}
use Rattle.subscriber.specs.Said.{Saying, text_of, closed_line, ends_with, writes_out, closed_by_moment, capped, at_moment, asking}
use Rattle.subscriber.specs.Standing.{Waits, IsPassed, Passes, IsClosing, Begins}
use Rattle.subscriber.proofs.Fresh.{IsFresh}
use Rattle.subscriber.proofs.Steps.{said-more}

-- ---- what is due

-- what a client is at a moment, whatever is in its input
pub record Moves (ws : List Wish) (now t : ℕ) (c : Connection) : Type 0 where
  pub later : Connection
  pub is : (x : List ℕ) → moment (at ws now (with_octets x c)) t ≡ at ws t (with_octets x later)

abbrev by_open : ℕ → Client → Option Connection → Client
by_open t client None = at_later t client
by_open t client (Some c) = does (client_due c.clocks t (list_any (λ w. is_active w.standing) client.wishes) (is_some c.keepalive_out)) c (at_later t client)

does-due : (ws : List Wish) (t : ℕ) (c : Connection) (due : Due) → (later : Connection) × ((x : List ℕ) → does due (with_octets x c) (at ws t (with_octets x c)) ≡ at ws t (with_octets x later))
does-due ws t c dues.Nothing = (c, λ x. refl)
does-due ws t c dues.Keepalive = (let id = next_id ws c in (writes true t (keepalive_message id) (record c { last_id = id; keepalive_out = Some id }), λ x. refl))
does-due ws t c dues.Idle = (record c { closed = Some closes.Idle }, λ x. refl)

pub does-moment : (ws : List Wish) (now t : ℕ) (c : Connection) → c.closed ≡ None → Moves ws now t c
does-moment ws now t c unclosed =
    let due = does-due ws t c (client_due c.clocks t (list_any (λ w. is_active w.standing) ws) (is_some c.keepalive_out)) in
    record { later = due.0; is = λ x. ap (by_open t (at ws now (with_octets x c))) (is-open ws now (with_octets x c) unclosed) ∙ due.1 x }

-- ---- what is said then

abbrev pub closing_by : Saying → Option CloseReason → Saying
closing_by s None = s
closing_by s (Some reason) = ends_with (closed_line reason) s

abbrev pub moved_by : ℕ → Saying → Bool → Saying
moved_by t s true = s
moved_by t s false = closed_by_moment (writes_out (record s { client = moment s.client (capped t) }))

module _ (t : ℕ) (s : Saying) (kept between later : KeptClient) (messages : Option ℕ) (octets : List ℕ) (w : Waits s kept messages)
    (moves : (plain : Client) → StandsFor kept plain → StandsFor between (moment plain (capped t))) (hands : HandsOut between octets later) where
  abbrev c : Connection
  c = w.stands.connection

  abbrev ws : List Wish
  ws = s.client.wishes

  abbrev now : ℕ
  now = s.client.now

  is : IsAt s.client c
  is = is-at s.client c w.stands.there

  m : Moves ws now (capped t) c
  m = does-moment ws now (capped t) c is.unclosed

  -- without what it had to send
  abbrev silent : Connection
  silent = record m.later { output = drop (length m.later.output) m.later.output }

  here : moment (with_input s.left s.client) (capped t) ≡ at ws (capped t) (with_octets s.left m.later)
  here = ap (λ (x : Client). moment (with_input s.left x) (capped t)) is.same ∙ m.is s.left

  alone : moment s.client (capped t) ≡ at ws (capped t) (bare m.later)
  alone = ap (λ (x : Client). moment x (capped t)) (is.same ∙ ap (λ (i : List ℕ). at ws now (with_octets i c)) w.stands.bare) ∙ m.is []

  stands-moved : StandsFor between (at ws (capped t) (with_octets s.left m.later))
  stands-moved = subst (StandsFor between) here (moves (with_input s.left s.client) w.stands.stands)

  abbrev sent : Saying
  sent = record s { wire = s.wire ++ m.later.output; client = at ws (capped t) (bare silent) }

  sent-is : writes_out (record s { client = moment s.client (capped t) }) ≡ sent
  sent-is = ap (λ (x : Client). writes_out (record s { client = x })) alone

  end-is : at_moment t s ≡ closing_by sent m.later.closed
  end-is = ap (moved_by t s) w.stands.going ∙ ap closed_by_moment sent-is

  handed : (octets ≡ m.later.output) × StandsFor later (at ws (capped t) (with_octets s.left silent))
  unfolding HandsOut
  handed = (let h = hands (at ws (capped t) (with_octets s.left m.later)) stands-moved in (h.all, h.stands))

  waits-sent : m.later.closed ≡ None → Waits sent later messages
  waits-sent unclosed = record {
    stands = record {
      connection = bare silent;
      there = is-open ws (capped t) (bare silent) unclosed;
      bare = refl;
      stands = handed.1;
      octets = w.stands.octets;
      going = w.stands.going;
      messages_left = w.stands.messages_left;
    };
    none = w.none;
  }

  by_closed : (closed : Option CloseReason) (text : List ℕ) (over : Bool) → m.later.closed ≡ closed → IsClosing closed text over → IsPassed s (closing_by sent closed) later messages octets text over
  by_closed None text over e says = record {
    said = record { says = ap (λ (l : List ℕ). text_of s ++ l) says.0 ∙ append-nil (text_of s); ends = says.1 ∙ sym w.stands.going; waits = λ still. waits-sent e };
    wire = ap (λ (o : List ℕ). s.wire ++ o) handed.0;
  }
  by_closed (Some reason) text over e says = record {
    said = record {
      says = said-more s.lines (closed_line reason ∷ []) (text_of s) text (text_of s ++ text) refl says.0 refl;
      ends = says.1;
      waits = λ still. absurd (both still);
    };
    wire = ap (λ (o : List ℕ). s.wire ++ o) handed.0;
  }
    where
      both : true ≡ false → ⊥
      both h = absurd cc

  pub is-passed : (closed : Option CloseReason) (text : List ℕ) (over : Bool) → ((plain : Client) → StandsFor later plain → closed ≡ closed_as plain) → IsClosing closed text over → IsPassed s (at_moment t s) later messages octets text over
  is-passed closed text over tells says =
      let closed-is : closed ≡ m.later.closed = tells (at ws (capped t) (with_octets s.left silent)) handed.1 in
      subst (λ (e : Saying). IsPassed s e later messages octets text over) (sym (end-is ∙ ap (closing_by sent) (sym closed-is))) (by_closed closed text over (sym closed-is) says)

pub passes : (t : ℕ) (kept between later : KeptClient) (messages : Option ℕ) (octets text : List ℕ) (over : Bool) (closed : Option CloseReason)
    → ((plain : Client) → StandsFor kept plain → StandsFor between (moment plain (capped t))) → HandsOut between octets later → ((plain : Client) → StandsFor later plain → closed ≡ closed_as plain) → IsClosing closed text over
    → Passes kept messages t later octets text over
unfolding Passes
passes t kept between later messages octets text over closed moves hands tells says s w = is-passed t s kept between later messages octets w moves hands closed text over tells says

-- ---- connected

-- a client that is open at a moment at which a message has passed, with nothing in its input
pub record IsOpen (t : ℕ) (client : Client) : Type 0 where
  pub wishes : List Wish
  pub connection : Connection
  pub is : client ≡ at wishes t (bare connection)
  pub unclosed : connection.closed ≡ None
  pub fresh : IsFresh t connection.clocks

abbrev asks_by : Client → Question → Option Connection → Client
asks_by client question None = record client { wishes = client.wishes ++ (record { question = question; wanted = true; standing = not_asked; notices = [] }) ∷ [] }
asks_by client question (Some c) = (let id = next_id client.wishes c in record client {
  wishes = client.wishes ++ (record { question = question; wanted = true; standing = unanswered id; notices = [] }) ∷ [];
  connection = Some (writes false client.now (subscribe_message id question) (record c { last_id = id }));
})

open-asks : (t : ℕ) (client : Client) (question : Question) → IsOpen t client → IsOpen t (asks client question)
open-asks t client question o =
    let c = bare o.connection in
    let id = next_id o.wishes c in
    let asked : asks (at o.wishes t c) question ≡ asks_by (at o.wishes t c) question (Some c) = ap (asks_by (at o.wishes t c) question) (is-open o.wishes t c o.unclosed) in
    record {
      wishes = o.wishes ++ (record { question = question; wanted = true; standing = unanswered id; notices = [] }) ∷ [];
      connection = writes false t (subscribe_message id question) (record c { last_id = id });
      is = ap (λ (x : Client). asks x question) o.is ∙ asked;
      unclosed = o.unclosed;
      fresh = record { last = refl; long = o.fresh.long };
    }

open-all : (t : ℕ) (questions : List Question) (client : Client) → IsOpen t client → IsOpen t (fold asks client questions)
open-all t [] client o = o
open-all t (q ∷ qs) client o = open-all t qs (asks client q) (open-asks t client q o)

pub open-connected : (t : ℕ) (client : Client) → IsOpen t (connected t client)
open-connected t client =
    open-all t (wanted_questions client) (record { wishes = []; connection = Some (new_connection t); now = t })
    (record { wishes = []; connection = new_connection t; is = refl; unclosed = refl; fresh = record { last = refl; long = omega arith } })

pub begins : (configuration : Subscribing) (t : ℕ) (kept later : KeptClient) (octets : List ℕ) → StandsFor kept (connected (capped t) (asking configuration.questions)) → HandsOut kept octets later → Begins configuration t later octets
unfolding HandsOut Begins
begins configuration t kept later octets stands hands =
    let client = connected (capped t) (asking configuration.questions) in
    let o = open-connected (capped t) (asking configuration.questions) in
    let h = hands client stands in
    let c = bare o.connection in
    let silent : Connection = record c { output = drop (length c.output) c.output } in
    let silent-is : without_output client ≡ at o.wishes (capped t) silent = ap without_output o.is in
    record {
      waits = record {
        stands = record {
          connection = silent;
          there = ap open_connection silent-is ∙ is-open o.wishes (capped t) silent o.unclosed;
          bare = refl;
          stands = subst (StandsFor later) (silent-is ∙ sym (ap (with_input []) silent-is)) h.stands;
          octets = All-nil (λ n. n < 256);
          going = refl;
          messages_left = refl;
        };
        none = refl;
      };
      wire = h.all;
    }
