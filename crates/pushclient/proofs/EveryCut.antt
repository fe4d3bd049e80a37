-- A client answers the whole messages in its octets, in whatever pieces they come.
--     answers-every-cut, same-for-every-cut, has-room-while-it-waits      the laws
use Rattle.std.proofs.Common.{◌≡◌, ℕ, ◌<◌, ◌≤◌, cond, Option, Some, None, List, [], ◌++◌, length, refl, sym, ◌∙◌, ap, subst}
use Rattle.std.specs.Prelude.{flat_map, is_some, IsSome}
use Rattle.std.specs.List.{concat}
use Rattle.dsotlv.specs.Laws.{AreOctets}
use Rattle.dsotlv.specs.Messages.{frame, first_message, messages_in}
use Rattle.dsotlv.proofs.FrameLaws.{Split}
use Rattle.dsosession.specs.declared.session.CloseReason.{CloseReason}
use Rattle.pushclient.specs.Clients.{Client, Connection, open_connection, room_of, closed_as}
use Rattle.pushclient.specs.Pieces.{OnMessages, on_messages, OnOctets, on_pieces, with_input, input_of, AnswersAsMessages, AnswersEveryCut, AreAlike, SameForEveryCut, HasRoomWhileItWaits}
use Rattle.pushclient.proofs.Reactions.{at, with_octets}
use Rattle.pushclient.proofs.MessageSteps.{bare, is-closed, Ran}
use Rattle.pushclient.proofs.PieceSteps.{all-taken, ran-pieces, room-while-waiting}
use Rattle.pushclient.proofs.Streams.{whole-again}

-- ---- an open client is one on this connection

pub record IsAt (client : Client) (c : Connection) : Type 0 where
  pub same : client ≡ at client.wishes client.now c
  pub unclosed : c.closed ≡ None

abbrev opened_by : Option Connection → Option Connection
opened_by None = None
opened_by (Some c) = cond (is_some c.closed) None (Some c)

pub is-at : (client : Client) (c : Connection) → open_connection client ≡ Some c → IsAt client c
is-at client c there = let parts = by client.connection there in record { same = ap (λ (x : Option Connection). record client { connection = x }) parts.0; unclosed = parts.1 }
  where
    same_some : (d : Connection) → Some d ≡ Some c → d ≡ c
    same_some d e = cc

    by_closed : (d : Connection) (closed : Option CloseReason) → d.closed ≡ closed → cond {A = Option Connection} (is_some closed) None (Some d) ≡ Some c → (Some d ≡ Some c) × (c.closed ≡ None)
    by_closed d None e h = (h, sym (ap (λ (x : Connection). x.closed) (same_some d h)) ∙ e)
    by_closed d (Some reason) e h = absurd cc

    by : (x : Option Connection) → opened_by x ≡ Some c → (x ≡ Some c) × (c.closed ≡ None)
    by None h = absurd cc
    by (Some d) h = by_closed d d.closed refl h

-- ---- what was done is what is done with the messages

module _ (now : ℕ) (start : Client) (stream : List ℕ) (s : OnOctets) (a : Ran now start stream s) where
  abbrev messages : OnMessages
  messages = on_messages (messages_in stream).0 start

  abbrev later : Client
  later = at a.wishes now (with_octets a.input a.later)

  some_open : (closed : Option CloseReason) → a.later.closed ≡ closed → IsSome (open_connection s.client) → a.later.closed ≡ None
  some_open None e there = e
  some_open (Some reason) e there = absurd (none_there (open_connection s.client) (ap open_connection a.client ∙ is-closed a.wishes now (with_octets a.input a.later) reason e) there)
    where
      none_there : (o : Option Connection) → o ≡ None → IsSome o → ⊥
      none_there None e h = absurd cc
      none_there (Some c) e h = absurd cc

  pub as-messages : AnswersAsMessages (messages_in stream).1 s messages
  as-messages = record {
    steps = sym (ap (λ (m : OnMessages). m.steps) a.answered);
    client = a.client ∙ sym (λ i. with_input (input_of (a.client i)) (a.answered i).client);
    octets = ap (λ (client : Client). input_of client ++ s.left) a.client ∙ whole-again (a.input ++ s.left) a.below
        ∙ ap (λ (split : Split). flat_map frame split.0 ++ split.1) a.messages
        ∙ ap (λ (m : OnMessages). flat_map frame m.left ++ (messages_in stream).1) (sym a.answered);
    while_open = λ there. (let all = all-taken now start stream [] s a (some_open a.later.closed refl there) in (
      all.none,
      ap (λ (m : OnMessages). m.left) a.answered ∙ all.left,
      ap (λ (client : Client). first_message (input_of client)) a.client ∙ all.waits,
    ));
  }

  module _ (t : OnOctets) (b : Ran now start stream t) where
    both : ◌≡◌ {A = OnMessages} (record { steps = s.steps; client = at a.wishes now (bare a.later); left = a.left }) (record { steps = t.steps; client = at b.wishes now (bare b.later); left = b.left })
    both = sym a.answered ∙ b.answered

    bares : at a.wishes now (bare a.later) ≡ at b.wishes now (bare b.later)
    bares = ap (λ (m : OnMessages). m.client) both

    pub alike : AreAlike s t
    alike = record {
      steps = ap (λ (m : OnMessages). m.steps) both;
      client = ap (with_input []) a.client ∙ bares ∙ sym (ap (with_input []) b.client);
      octets = ap (λ (client : Client). input_of client ++ s.left) a.client
          ∙ whole-again (a.input ++ s.left) a.below
          ∙ ap (λ (split : Split). flat_map frame split.0 ++ split.1) a.messages
          ∙ ap (λ (m : OnMessages). flat_map frame m.left ++ (messages_in stream).1) both
          ∙ sym (ap (λ (split : Split). flat_map frame split.0 ++ split.1) b.messages)
          ∙ sym (whole-again (b.input ++ t.left) b.below)
          ∙ sym (ap (λ (client : Client). input_of client ++ t.left) b.client);
      while_open = λ there. (
          let first = all-taken now start stream [] s a (some_open a.later.closed refl there) in
          let second = all-taken now start stream [] t b (sym (ap (λ (client : Client). closed_as client) bares) ∙ some_open a.later.closed refl there) in
          let clients : s.client ≡ t.client = a.client ∙ (λ i. with_input ((first.input ∙ sym second.input) i) (bares i)) ∙ sym b.client in
          λ i. record { steps = (ap (λ (m : OnMessages). m.steps) both) i; client = clients i; left = (first.none ∙ sym second.none) i });
    }

-- ---- the laws

pub answers-every-cut : AnswersEveryCut
answers-every-cut turns pieces client c waits below enough =
    let is = is-at client c waits.there in
    let ran = ran-pieces client.now turns pieces client.wishes c is.unclosed waits.waits below enough in
    let split = messages_in (c.input ++ concat pieces) in
    subst (λ (x : Client). AnswersAsMessages split.1 (on_pieces turns pieces x) (on_messages split.0 (with_input [] x))) (sym is.same)
    (as-messages client.now (at client.wishes client.now (bare c)) (c.input ++ concat pieces) (on_pieces turns pieces (at client.wishes client.now c)) ran)

pub same-for-every-cut : SameForEveryCut
same-for-every-cut turns first second client c waits below enough same =
    let is = is-at client c waits.there in
    let here = at client.wishes client.now c in
    let start = at client.wishes client.now (bare c) in
    let stream = c.input ++ concat first in
    let other : c.input ++ concat second ≡ stream = ap (λ (l : List ℕ). c.input ++ l) (sym same) in
    let one = ran-pieces client.now turns first client.wishes c is.unclosed waits.waits below enough in
    let two = ran-pieces client.now turns second client.wishes c is.unclosed waits.waits (subst AreOctets (sym other) below) (subst (λ (l : List ℕ). length l < turns) (sym other) enough) in
    let both = alike client.now start stream (on_pieces turns first here) one (on_pieces turns second here) (subst (λ (l : List ℕ). Ran client.now start l (on_pieces turns second here)) other two) in
    subst (λ (x : Client). AreAlike (on_pieces turns first x) (on_pieces turns second x)) (sym is.same) both

pub has-room-while-it-waits : HasRoomWhileItWaits
has-room-while-it-waits client c waits below =
    let is = is-at client c waits.there in
    subst (λ (x : Client). 4097 ≤ room_of x) (sym is.same) (room-while-waiting client.wishes client.now c is.unclosed waits.waits below)
