-- What a client that waits does with octets that come: it is what it does with the whole messages in its input and these, one after the other.
--     IsFed stream client later      so it is of a later client, and while that is open the rest waits in its input
--     fed-as      the law
use Rattle.std.proofs.Common.{◌≡◌, ℕ, ◌+◌, ◌<◌, ◌≤◌, true, cond, List, [], ◌∷◌, ◌++◌, length, Option, Some, None, refl, sym, ◌∙◌, ap, subst, true≢false, arith, append-nil, length-append}
use Rattle.std.specs.Prelude.{is_some}
use Rattle.dsotlv.specs.Laws.{AreOctets}
use Rattle.dsotlv.specs.Messages.{messages_in}
use Rattle.dsosession.specs.declared.session.CloseReason.{CloseReason}
use Rattle.pushclient.specs.Clients.{Client, Connection, Wish, open_connection, is_connected}
use Rattle.pushclient.specs.Pieces.{OnMessages, on_messages, OnOctets, on_pieces, with_input, input_of}
use Rattle.pushclient.proofs.EveryCut.{is-at}
use Rattle.pushclient.proofs.MessageSteps.{bare, Ran}
use Rattle.pushclient.proofs.PieceSteps.{all-taken, ran-pieces}
use Rattle.pushclient.proofs.Reactions.{at, with_octets}
use Rattle.pushclient.proofs.Streams.{octets-front, octets-both, short-rest}
use Rattle.replay.specs.PassedOctets.{enough, reached_by}
use Rattle.replay.proofs.ClientPieces.{delivers-pieces}
use Rattle.replay.proofs.feeding.WaitingCalls.{Waits, WaitsIn, IsWaiting}

pub record IsFed (stream : List ℕ) (client later : Client) : Type 0 where
  pub wishes : List Wish
  pub connection : Connection
  pub input : List ℕ
  pub reached : later ≡ at wishes client.now (with_octets input connection)
  pub said : (on_messages (messages_in stream).0 (with_input [] client)).client ≡ at wishes client.now (bare connection)
  pub waits : connection.closed ≡ None → (input ≡ (messages_in stream).1) × Waits (with_octets input connection)

module _ (octets : List ℕ) (client : Client) (c : Connection) (there : open_connection client ≡ Some c) (w : Waits c) (below : AreOctets octets) (few : length octets ≤ 65537) where
  abbrev stream : List ℕ
  stream = c.input ++ (octets ++ [])

  whole : stream ≡ c.input ++ octets
  whole = ap (λ (o : List ℕ). c.input ++ o) (append-nil octets)

  all-below : AreOctets stream
  all-below = subst AreOctets (sym whole) (octets-both c.input octets w.below below)

  short : length stream < enough
  short = omega (arith, few, short-rest c.input w.below w.none, length-append c.input octets, ap (λ (o : List ℕ). length o) whole)

  abbrev here : Client
  here = at client.wishes client.now c

  abbrev done : OnOctets
  done = on_pieces enough (octets ∷ []) here

  ran : Ran client.now (at client.wishes client.now (bare c)) stream done
  ran = ran-pieces client.now enough (octets ∷ []) client.wishes c w.unclosed w.none all-below short

  is-fed : IsFed (c.input ++ octets) client (reached_by octets client)
  is-fed =
      let is = is-at client c there in
      record {
        wishes = ran.wishes;
        connection = ran.later;
        input = ran.input;
        reached = ap (λ (p : Client × List ℕ). p.0) (delivers-pieces (octets ∷ []) client c (record { there = there; waits = w.none }) all-below short)
            ∙ ap (λ (x : Client). (on_pieces enough (octets ∷ []) x).client) is.same ∙ ran.client;
        said = ap (λ (x : Client). (on_messages (messages_in (c.input ++ octets)).0 (with_input [] x)).client) is.same
            ∙ ap (λ (o : List ℕ). (on_messages (messages_in o).0 (at client.wishes client.now (bare c))).client) (sym whole)
            ∙ ap (λ (m : OnMessages). m.client) ran.answered;
        waits = λ unclosed. (
            let all = all-taken client.now (at client.wishes client.now (bare c)) stream [] done ran unclosed in
            (all.input ∙ ap (λ (o : List ℕ). (messages_in o).1) whole, record { unclosed = unclosed; none = all.waits; below = octets-front ran.input done.left ran.below }));
      }

-- so it is of every client that waits and is connected
pub fed-as : (octets : List ℕ) (p : Client) → AreOctets octets → length octets ≤ 65537 → IsWaiting p → is_connected p ≡ true → IsFed (input_of p ++ octets) p (reached_by octets p)
fed-as octets p below few w connects = by p.connection refl
  where
    by : (o : Option Connection) → p.connection ≡ o → IsFed (input_of p ++ octets) p (reached_by octets p)
    by None e = absurd (true≢false (sym connects ∙ ap (λ (o : Option Connection). is_some o) e))
    by (Some c) e =
        let v : Waits c = subst WaitsIn e w in
        let there : open_connection p ≡ Some c = ap (λ (o : Option Connection). elim o as (λ _. Option Connection) [ None ↦ None | Some d ↦ cond (is_some d.closed) None (Some d) ]) e ∙ ap (λ (o : Option CloseReason). cond {A = Option Connection} (is_some o) None (Some c)) v.unclosed in
        subst (λ (input : List ℕ). IsFed (input ++ octets) p (reached_by octets p)) (sym (ap (λ (o : Option Connection). elim o as (λ _. List ℕ) [ None ↦ [] | Some d ↦ d.input ]) e)) (is-fed octets p c there v below few)
