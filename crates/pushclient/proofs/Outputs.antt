-- What a client has to send already changes nothing of what it does: more is said behind it.
--     same-reacted      a reaction, where others stand before what is to be sent
--     takes-before      octets that go in, where others stand before what is to be sent
--     given-away      all that a client has to send stands before nothing
--     says-the-same      what is given away between pieces changes nothing
use Rattle.std.proofs.Common.{◌≡◌, ℕ, zero, suc, Bool, true, false, cond, not, List, [], ◌∷◌, ◌++◌, length, take, drop, ◌-◌, Option, Some, None, Result, Ok, Err, refl, sym, ◌∙◌, ap, append_assoc, append-nil, arith}
use Rattle.std.proofs.lemmas.List.{drop_all}
use Rattle.std.specs.Prelude.{◌==◌, nat_lt, option_map, is_some}
use Rattle.rrset.specs.Header.{id_of, flags_of, rcode_of}
use Rattle.rrset.specs.Rcodes.{noerror, dsotypeni}
use Rattle.dsotlv.specs.Answers.{answer_to}
use Rattle.dsotlv.specs.Messages.{frame, head_of, primary_data, first_message}
use Rattle.dsotlv.specs.Notices.{notices_of}
use Rattle.dsotlv.specs.declared.message.DsoHead.{DsoHead}
use Rattle.dsotlv.specs.declared.message.Notice.{Notice}
use Rattle.dsotlv.specs.declared.message.PushFault.{PushFault}
use Rattle.dsosession.specs.Reactions.{client_reaction}
use Rattle.dsosession.specs.Timing.{least_keepalive, restarted}
use Rattle.dsosession.specs.declared.session.ClientReaction.{ClientReaction}
use Rattle.dsosession.specs.declared.session.ClientReaction.TheVariants.{Answered, Typeless, Keepalive, Delay, Push, Close}
use Rattle.dsosession.specs.declared.session.CloseReason.{CloseReason}
use Rattle.pushclient.specs.declared.client.Step.{Step}
use Rattle.pushclient.specs.declared.client.Step.TheVariants as steps
use Rattle.pushclient.specs.Clients.{Client, Connection, Wish, in_connection, writes, without_wish, unsubscribe_message, open_connection, room_of, take_octets, output_of, give_octets}
use Rattle.pushclient.specs.Pieces.{OnOctets, leaves, followed_by, steps_over, on_octets, on_pieces, sends_before, says_to, SaysTheSame}
use Rattle.pushclient.specs.Steps.{step, request_of, subscribe_answered, timers_of, adopts, keepalive_answered, is_keepalive_out, answer_taken, push_taken, by_reaction, counts_as_keepalive, reacted}
use Rattle.pushclient.proofs.MessageSteps.{over, unclosed_by, step_by}
use Rattle.pushclient.proofs.PieceSteps.{offered, takes_by}
use Rattle.pushclient.proofs.Reactions.{at, adopts_by, answer_by, push_by, reacted_by}

abbrev pub before_step : List ℕ → Step × Client → Step × Client
before_step octets r = (r.0, sends_before octets r.1)

-- a step, or a client, with these octets before what is to be sent
pub record IsBefore (y : List ℕ) (r s : Step × Client) : Type 0 where
  pub is : r ≡ before_step y s

record StandsBefore (y : List ℕ) (a b : Client) : Type 0 where
  pub is : a ≡ sends_before y b

either_step : {y : List ℕ} {f g h k : Step × Client} (t : Bool) → IsBefore y f h → IsBefore y g k → IsBefore y (cond t f g) (cond t h k)
either_step true first second = first
either_step false first second = second

either_client : {y : List ℕ} {f g h k : Client} (t : Bool) → StandsBefore y f h → StandsBefore y g k → StandsBefore y (cond t f g) (cond t h k)
either_client true first second = first
either_client false first second = second

module _ (now : ℕ) (y : List ℕ) where
  abbrev pub said : Connection → Connection
  said c = record c { output = y ++ c.output }

  -- a call does the same
  abbrev pub Same : (Client → Step × Client) → List Wish → Connection → Type 0
  Same f ws c = IsBefore y (f (at ws now (said c))) (f (at ws now c))

  -- a message is written behind
  writes-behind : (is_keepalive : Bool) (message : List ℕ) (ws : List Wish) (c : Connection) → at ws now (writes is_keepalive now message (said c)) ≡ sends_before y (at ws now (writes is_keepalive now message c))
  writes-behind is_keepalive message ws c = λ i. at ws now (record (writes is_keepalive now message c) { output = append_assoc y c.output (frame message) i })

  same-answered : (wish : Wish) (id rcode : ℕ) (ws : List Wish) (c : Connection) → StandsBefore y (subscribe_answered wish id rcode (at ws now (said c))) (subscribe_answered wish id rcode (at ws now c))
  same-answered wish id rcode ws c = either_client (rcode == noerror)
      (either_client wish.wanted (record { is = refl }) (record { is = writes-behind false (unsubscribe_message id) (without_wish wish.question ws) (record c { established = true }) }))
      (either_client wish.wanted (record { is = refl }) (record { is = refl }))

  same-adopts : (message : List ℕ) (ws : List Wish) (c : Connection) → Same (adopts message) ws c
  same-adopts message ws c = by (timers_of message)
    where
      by : (numbers : Option (ℕ × ℕ)) → IsBefore y (adopts_by (at ws now (said c)) numbers) (adopts_by (at ws now c) numbers)
      by None = record { is = refl }
      by (Some numbers) = either_step (nat_lt numbers.1 least_keepalive) (record { is = refl }) (record { is = refl })

  same-keepalive_answered : (message : List ℕ) (rcode : ℕ) (ws : List Wish) (c : Connection) → Same (keepalive_answered message rcode) ws c
  same-keepalive_answered message rcode ws c = either_step (not (rcode == noerror)) (record { is = refl }) (same-adopts message ws (record c { keepalive_out = None }))

  same-answer_taken : (message : List ℕ) (id rcode : ℕ) (ws : List Wish) (c : Connection) → Same (answer_taken message id rcode) ws c
  same-answer_taken message id rcode ws c = by (request_of (at ws now c) id)
    where
      by : (found : Option Wish) → IsBefore y (answer_by message id rcode (at ws now (said c)) found) (answer_by message id rcode (at ws now c) found)
      by None = either_step (is_keepalive_out id (at ws now c)) (same-keepalive_answered message rcode ws c) (record { is = refl })
      by (Some wish) = record { is = ap (λ (x : Client). (steps.Answered id rcode, x)) (same-answered wish id rcode ws c).is }

  same-push_taken : (octets : List ℕ) (ws : List Wish) (c : Connection) → Same (push_taken octets) ws c
  same-push_taken octets ws c = by (notices_of octets)
    where
      by : (read : Result (List Notice) PushFault) → IsBefore y (push_by (at ws now (said c)) read) (push_by (at ws now c) read)
      by (Err fault) = record { is = refl }
      by (Ok notices) = record { is = refl }

  same-by_reaction : (reaction : ClientReaction) (message : List ℕ) (id rcode : ℕ) (ws : List Wish) (c : Connection) → Same (by_reaction reaction message id rcode) ws c
  same-by_reaction Answered message id rcode ws c = same-answer_taken message id rcode ws c
  same-by_reaction Typeless message id rcode ws c = record { is = ap (λ (x : Client). (steps.Typeless id, x)) (writes-behind false (answer_to id dsotypeni) ws c) }
  same-by_reaction Keepalive message id rcode ws c = same-adopts message ws c
  same-by_reaction Delay message id rcode ws c = record { is = refl }
  same-by_reaction Push message id rcode ws c = same-push_taken (primary_data message) ws c
  same-by_reaction (Close reason) message id rcode ws c = record { is = refl }

  pub same-reacted : (message : List ℕ) (before : Connection) (ws : List Wish) (c : Connection) → Same (reacted message before) ws c
  same-reacted message before ws c = by (head_of message)
    where
      by : (head : Option DsoHead) → IsBefore y (reacted_by message before (at ws now (said c)) head) (reacted_by message before (at ws now c) head)
      by None = record { is = refl }
      by (Some head) = same-by_reaction (client_reaction head before.established) message (id_of message) (rcode_of (flags_of message)) ws
          (record c { clocks = restarted (counts_as_keepalive (at ws now c) head) now c.clocks })

  same-step : (ws : List Wish) (c : Connection) → step (at ws now (said c)) ≡ before_step y (step (at ws now c))
  same-step ws c = by c.closed
    where
      by_first : (first : Option (List ℕ × List ℕ)) → step_by (at ws now (said c)) (said c) first ≡ before_step y (step_by (at ws now c) c first)
      by_first None = refl
      by_first (Some found) = (same-reacted found.0 c ws (record c { input = found.1 })).is

      by : (closed : Option CloseReason) → unclosed_by (at ws now (said c)) (said c) closed ≡ before_step y (unclosed_by (at ws now c) c closed)
      by (Some reason) = refl
      by None = by_first (first_message c.input)

-- ---- any client

abbrev Before : List ℕ → OnOctets → OnOctets
Before y s = record { steps = s.steps; client = sends_before y s.client; left = s.left }

step-before : (y : List ℕ) (client : Client) → step (sends_before y client) ≡ before_step y (step client)
step-before y client = by client.connection
  where
    by : (x : Option Connection) → step (sends_before y (record client { connection = x })) ≡ before_step y (step (record client { connection = x }))
    by None = refl
    by (Some c) = same-step client.now y client.wishes c

steps-before : (y : List ℕ) (turns : ℕ) (client : Client) → steps_over turns (sends_before y client) ≡ Before y (steps_over turns client)
steps-before y zero client = refl
steps-before y (suc turns) client = ap (over turns (sends_before y client)) (step-before y client) ∙ by (steps-before y turns) (step client).0 (step client).1
  where
    by : ((later : Client) → steps_over turns (sends_before y later) ≡ Before y (steps_over turns later)) → (answer : Step) (later : Client)
        → over turns (sends_before y client) (answer, sends_before y later) ≡ Before y (over turns client (answer, later))
    by others steps.Waiting later = refl
    by others (steps.Closed reason) later = refl
    by others (steps.Answered id rcode) later = ap (λ (s : OnOctets). record { steps = steps.Answered id rcode ∷ s.steps; client = s.client; left = s.left }) (others later)
    by others (steps.Kept inactivity keepalive) later = ap (λ (s : OnOctets). record { steps = steps.Kept inactivity keepalive ∷ s.steps; client = s.client; left = s.left }) (others later)
    by others (steps.Pushed notices) later = ap (λ (s : OnOctets). record { steps = steps.Pushed notices ∷ s.steps; client = s.client; left = s.left }) (others later)
    by others (steps.Typeless id) later = ap (λ (s : OnOctets). record { steps = steps.Typeless id ∷ s.steps; client = s.client; left = s.left }) (others later)

-- what the client has to send stands in no test
abbrev saying : List ℕ → Option Connection → Option Connection
saying y o = option_map (λ (c : Connection). record c { output = y ++ c.output }) o

open-before : (y : List ℕ) (client : Client) → open_connection (sends_before y client) ≡ saying y (open_connection client)
open-before y client = by client.connection
  where
    by_closed : (c : Connection) (closed : Option CloseReason) → cond {A = Option Connection} (is_some closed) None (Some (record c { output = y ++ c.output })) ≡ saying y (cond (is_some closed) None (Some c))
    by_closed c None = refl
    by_closed c (Some reason) = refl

    by : (x : Option Connection) → open_connection (sends_before y (record client { connection = x })) ≡ saying y (open_connection (record client { connection = x }))
    by None = refl
    by (Some c) = by_closed c c.closed

abbrev room_by : Option Connection → ℕ
room_by None = 0
room_by (Some c) = 69633 - length c.input

room-before : (y : List ℕ) (client : Client) → room_of (sends_before y client) ≡ room_of client
room-before y client = ap room_by (open-before y client) ∙ by (open_connection client)
  where
    by : (o : Option Connection) → room_by (saying y o) ≡ room_by o
    by None = refl
    by (Some c) = refl

take-before : (y octets : List ℕ) (client : Client) → take_octets octets (sends_before y client) ≡ sends_before y (take_octets octets client)
take-before y octets client = ap (λ (n : ℕ). in_connection (λ c. record c { input = c.input ++ take n octets }) (sends_before y client)) (room-before y client) ∙ by client.connection
  where
    by : (x : Option Connection) → in_connection (λ c. record c { input = c.input ++ take (room_of client) octets }) (sends_before y (record client { connection = x }))
        ≡ sends_before y (in_connection (λ c. record c { input = c.input ++ take (room_of client) octets }) (record client { connection = x }))
    by None = refl
    by (Some c) = refl

pub takes-before : (y : List ℕ) (turns times : ℕ) (octets : List ℕ) (client : Client) → on_octets turns times octets (sends_before y client) ≡ Before y (on_octets turns times octets client)
takes-before y turns zero octets client = refl
takes-before y turns (suc times) octets client = ap (takes_by turns times octets (sends_before y client)) (open-before y client) ∙ by (takes-before y turns times) (open_connection client)
  where
    first-before : steps_over turns (take_octets octets (sends_before y client)) ≡ Before y (steps_over turns (take_octets octets client))
    first-before = ap (steps_over turns) (take-before y octets client) ∙ steps-before y turns (take_octets octets client)

    by_left : ((more : List ℕ) (later : Client) → on_octets turns times more (sends_before y later) ≡ Before y (on_octets turns times more later)) → (left : List ℕ)
        → offered turns times octets (sends_before y client) left ≡ Before y (offered turns times octets client left)
    by_left others [] = first-before
    by_left others (o ∷ os) = ap (λ (first : OnOctets). followed_by first (on_octets turns times (o ∷ os) first.client)) first-before
        ∙ ap (λ (s : OnOctets). followed_by (steps_over turns (take_octets octets client)) s) (others (o ∷ os) (steps_over turns (take_octets octets client)).client)

    by : ((more : List ℕ) (later : Client) → on_octets turns times more (sends_before y later) ≡ Before y (on_octets turns times more later)) → (o : Option Connection)
        → takes_by turns times octets (sends_before y client) (saying y o) ≡ Before y (takes_by turns times octets client o)
    by others None = refl
    by others (Some c) = ap (λ (n : ℕ). offered turns times octets (sends_before y client) (drop n octets)) (room-before y client) ∙ by_left others (drop (room_of client) octets)

-- ---- pieces

pieces-before : (y : List ℕ) (turns : ℕ) (pieces : List (List ℕ)) (client : Client) → on_pieces turns pieces (sends_before y client) ≡ Before y (on_pieces turns pieces client)
pieces-before y turns [] client = refl
pieces-before y turns (p ∷ ps) client =
    ap (λ (first : OnOctets). followed_by first (on_pieces turns ps first.client)) (takes-before y turns turns p client)
    ∙ ap (λ (s : OnOctets). followed_by (on_octets turns turns p client) s) (pieces-before y turns ps (on_octets turns turns p client).client)

-- all that a client has to send is given away
pub given-away : (client : Client) → client ≡ sends_before (output_of client) (give_octets (length (output_of client)) client)
given-away client = by client.connection
  where
    by : (x : Option Connection) → record client { connection = x } ≡ sends_before (output_of (record client { connection = x })) (give_octets (length (output_of (record client { connection = x }))) (record client { connection = x }))
    by None = refl
    by (Some c) = ap (λ (l : List ℕ). record client { connection = Some (record c { output = l }) }) (sym (append-nil c.output) ∙ ap (λ (l : List ℕ). c.output ++ l) (sym (drop_all (length c.output) c.output (omega arith))))

before-both : (y z : List ℕ) (client : Client) → sends_before y (sends_before z client) ≡ sends_before (y ++ z) client
before-both y z client = by client.connection
  where
    by : (x : Option Connection) → sends_before y (sends_before z (record client { connection = x })) ≡ sends_before (y ++ z) (record client { connection = x })
    by None = refl
    by (Some c) = ap (λ (l : List ℕ). record client { connection = Some (record c { output = l }) }) (sym (append_assoc y z c.output))

before-none : (client : Client) → client ≡ sends_before [] client
before-none client = by client.connection
  where
    by : (x : Option Connection) → record client { connection = x } ≡ sends_before [] (record client { connection = x })
    by None = refl
    by (Some c) = refl

pub says-the-same : SaysTheSame
says-the-same turns [] client = ap (leaves []) (before-none client)
says-the-same turns (p ∷ ps) client =
    let first = on_octets turns turns p client in
    let said = output_of first.client in
    let given = give_octets (length said) first.client in
    let later = says_to turns ps given in
    ap (λ (s : OnOctets). followed_by first s)
    (ap (on_pieces turns ps) (given-away first.client) ∙ pieces-before said turns ps given ∙ ap (Before said) (says-the-same turns ps given)
    ∙ ap (λ (x : Client). record { steps = later.1.steps; client = x; left = later.1.left }) (before-both said later.0 later.1.client))
