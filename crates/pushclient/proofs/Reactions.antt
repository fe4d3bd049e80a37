-- A reaction doesn't look at the octets in the input, and it is Closed exactly where the client has closed.
--     at wishes now c, with_octets octets c      a client on this connection; a connection with these octets in its input
--     Does now f      what a client does, whatever is in its input: one answer, and the same client later
--     adopts_by, answer_by, push_by, reacted_by      reactions, by what was read
--     does-reacted      so is each reaction to a message
use Rattle.std.proofs.Common.{◌≡◌, ℕ, Bool, true, false, cond, not, List, ◌++◌, map, Option, Some, None, Result, Ok, Err, refl}
use Rattle.std.specs.Prelude.{◌==◌, nat_lt}
use Rattle.std.specs.Int.{w32, from_be_bytes}
use Rattle.rrset.specs.Header.{id_of, flags_of, rcode_of}
use Rattle.rrset.specs.Rcodes.{noerror, dsotypeni}
use Rattle.dsotlv.specs.Answers.{answer_to}
use Rattle.dsotlv.specs.Messages.{head_of, primary_data}
use Rattle.dsotlv.specs.Notices.{notices_of}
use Rattle.dsotlv.specs.TlvKinds.{keepalive_tlv, push_tlv}
use Rattle.dsotlv.specs.declared.message.DsoHead.{DsoHead}
use Rattle.dsotlv.specs.declared.message.Notice.{Notice}
use Rattle.dsotlv.specs.declared.message.PushFault.{PushFault}
use Rattle.dsosession.specs.Reactions.{client_reaction}
use Rattle.dsosession.specs.Timing.{least_keepalive, restarted}
use Rattle.dsosession.specs.declared.session.ClientReaction.{ClientReaction}
use Rattle.dsosession.specs.declared.session.ClientReaction.TheVariants.{Answered, Typeless, Keepalive, Delay, Push, Close}
use Rattle.dsosession.specs.declared.session.CloseReason.{CloseReason}
use Rattle.dsosession.specs.declared.session.CloseReason.TheVariants as closes
use Rattle.pushclient.specs.declared.client.Step.{Step}
use Rattle.pushclient.specs.declared.client.Step.TheVariants as steps
use Rattle.pushclient.specs.Clients.{Client, Connection, Wish, refused, answered, unsubscribe_message, writes, in_connection, without_wish}
use Rattle.pushclient.specs.Rule.{stood_wish}
use Rattle.pushclient.specs.Steps.{closes_as, establishes, request_of, subscribe_answered, timers_of, adopts, keepalive_answered, is_keepalive_out, answer_taken, is_answered, notices_taken, push_taken, by_reaction, counts_as_keepalive, reacted}

abbrev pub at : List Wish → ℕ → Connection → Client
at wishes now c = record { wishes = wishes; connection = Some c; now = now }

abbrev pub with_octets : List ℕ → Connection → Connection
with_octets octets c = record c { input = octets }

-- the answer tells whether the connection is open
abbrev pub Told : Step → Connection → Type 0
Told (steps.Closed reason) c = c.closed ≡ Some reason
Told steps.Waiting c = ⊥
Told (steps.Answered id rcode) c = c.closed ≡ None
Told (steps.Kept inactivity keepalive) c = c.closed ≡ None
Told (steps.Pushed notices) c = c.closed ≡ None
Told (steps.Typeless id) c = c.closed ≡ None

-- what a client does, whatever octets are in its input
pub record Does (now : ℕ) (f : List ℕ → Step × Client) : Type 0 where
  pub answer : Step
  pub wishes : List Wish
  pub later : Connection
  pub is : (x : List ℕ) → f x ≡ (answer, at wishes now (with_octets x later))
  pub told : Told answer later

-- what becomes of one that stays open
record Stays (now : ℕ) (g : List ℕ → Client) : Type 0 where
  pub wishes : List Wish
  pub later : Connection
  pub is : (x : List ℕ) → g x ≡ at wishes now (with_octets x later)
  pub unclosed : later.closed ≡ None

either : {now : ℕ} {f g : List ℕ → Step × Client} (t : Bool) → Does now f → Does now g → Does now (λ x. cond t (f x) (g x))
either true first second = first
either false first second = second

either_stays : {now : ℕ} {f g : List ℕ → Client} (t : Bool) → Stays now f → Stays now g → Stays now (λ x. cond t (f x) (g x))
either_stays true first second = first
either_stays false first second = second

-- ---- what is done, by what was read

-- by the two numbers that were read
abbrev pub adopts_by : Client → Option (ℕ × ℕ) → Step × Client
adopts_by client None = closes_as (closes.BadData keepalive_tlv) client
adopts_by client (Some numbers) = cond (nat_lt numbers.1 least_keepalive) (closes_as (closes.Interval numbers.1) client)
    (steps.Kept numbers.0 numbers.1, establishes (in_connection (λ c. record c { clocks = record c.clocks { timers = record { inactivity = numbers.0; keepalive = numbers.1 } } }) client))

-- by the wish that waits
abbrev pub answer_by : List ℕ → ℕ → ℕ → Client → Option Wish → Step × Client
answer_by message id rcode client (Some wish) = (steps.Answered id rcode, subscribe_answered wish id rcode client)
answer_by message id rcode client None = cond (is_keepalive_out id client) (keepalive_answered message rcode client) (closes_as (closes.Stranger id) client)

-- by the notices that were read
abbrev pub push_by : Client → Result (List Notice) PushFault → Step × Client
push_by client (Err fault) = closes_as (closes.BadData push_tlv) client
push_by client (Ok notices) = (steps.Pushed notices, notices_taken notices client)

-- by the head that was read
abbrev pub reacted_by : List ℕ → Connection → Client → Option DsoHead → Step × Client
reacted_by message c client None = closes_as closes.Short client
reacted_by message c client (Some head) = by_reaction (client_reaction head c.established) message (id_of message) (rcode_of (flags_of message))
    (in_connection (λ d. record d { clocks = restarted (counts_as_keepalive client head) client.now d.clocks }) client)

-- ---- each reaction

module _ (now : ℕ) where
  does-closes : (reason : CloseReason) (ws : List Wish) (c : Connection) → Does now (λ x. closes_as reason (at ws now (with_octets x c)))
  does-closes reason ws c = record { answer = steps.Closed reason; wishes = ws; later = record c { closed = Some reason }; is = λ x. refl; told = refl }

  stays-answered : (wish : Wish) (id rcode : ℕ) (ws : List Wish) (c : Connection) → c.closed ≡ None → Stays now (λ x. subscribe_answered wish id rcode (at ws now (with_octets x c)))
  stays-answered wish id rcode ws c unclosed =
      let established : Connection = record c { established = true } in
      let gone : List Wish = without_wish wish.question ws in
      either_stays (rcode == noerror)
      (either_stays wish.wanted
      (record { wishes = map (stood_wish wish.question (answered id)) ws; later = established; is = λ x. refl; unclosed = unclosed })
      (record { wishes = gone; later = writes false now (unsubscribe_message id) established; is = λ x. refl; unclosed = unclosed }))
      (either_stays wish.wanted
      (record { wishes = map (stood_wish wish.question (refused rcode)) ws; later = c; is = λ x. refl; unclosed = unclosed })
      (record { wishes = gone; later = c; is = λ x. refl; unclosed = unclosed }))

  does-answered : {g : List ℕ → Client} (id rcode : ℕ) → Stays now g → Does now (λ x. (steps.Answered id rcode, g x))
  does-answered id rcode s = record { answer = steps.Answered id rcode; wishes = s.wishes; later = s.later; is = λ x. λ i. (steps.Answered id rcode, s.is x i); told = s.unclosed }

  does-adopts : (message : List ℕ) (ws : List Wish) (c : Connection) → c.closed ≡ None → Does now (λ x. adopts message (at ws now (with_octets x c)))
  does-adopts message ws c unclosed = by (timers_of message)
    where
      by : (numbers : Option (ℕ × ℕ)) → Does now (λ x. adopts_by (at ws now (with_octets x c)) numbers)
      by None = does-closes (closes.BadData keepalive_tlv) ws c
      by (Some numbers) = either (nat_lt numbers.1 least_keepalive) (does-closes (closes.Interval numbers.1) ws c) (record {
        answer = steps.Kept numbers.0 numbers.1;
        wishes = ws;
        later = record c { established = true; clocks = record c.clocks { timers = record { inactivity = numbers.0; keepalive = numbers.1 } } };
        is = λ x. refl;
        told = unclosed;
      })

  does-keepalive_answered : (message : List ℕ) (rcode : ℕ) (ws : List Wish) (c : Connection) → c.closed ≡ None → Does now (λ x. keepalive_answered message rcode (at ws now (with_octets x c)))
  does-keepalive_answered message rcode ws c unclosed = either (not (rcode == noerror)) (does-closes (closes.Kept rcode) ws c) (does-adopts message ws (record c { keepalive_out = None }) unclosed)

  does-answer_taken : (message : List ℕ) (id rcode : ℕ) (ws : List Wish) (c : Connection) → c.closed ≡ None → Does now (λ x. answer_taken message id rcode (at ws now (with_octets x c)))
  does-answer_taken message id rcode ws c unclosed = by (request_of (at ws now c) id)
    where
      by : (found : Option Wish) → Does now (λ x. answer_by message id rcode (at ws now (with_octets x c)) found)
      by None = either (is_keepalive_out id (at ws now c)) (does-keepalive_answered message rcode ws c unclosed) (does-closes (closes.Stranger id) ws c)
      by (Some wish) = does-answered id rcode (stays-answered wish id rcode ws c unclosed)

  does-push_taken : (octets : List ℕ) (ws : List Wish) (c : Connection) → c.closed ≡ None → Does now (λ x. push_taken octets (at ws now (with_octets x c)))
  does-push_taken octets ws c unclosed = by (notices_of octets)
    where
      by : (read : Result (List Notice) PushFault) → Does now (λ x. push_by (at ws now (with_octets x c)) read)
      by (Err fault) = does-closes (closes.BadData push_tlv) ws c
      by (Ok notices) = record { answer = steps.Pushed notices; wishes = map (λ w. cond (is_answered w.standing) (record w { notices = w.notices ++ notices }) w) ws; later = c; is = λ x. refl; told = unclosed }

  does-by_reaction : (reaction : ClientReaction) (message : List ℕ) (id rcode : ℕ) (ws : List Wish) (c : Connection) → c.closed ≡ None → Does now (λ x. by_reaction reaction message id rcode (at ws now (with_octets x c)))
  does-by_reaction Answered message id rcode ws c unclosed = does-answer_taken message id rcode ws c unclosed
  does-by_reaction Typeless message id rcode ws c unclosed = record { answer = steps.Typeless id; wishes = ws; later = writes false now (answer_to id dsotypeni) c; is = λ x. refl; told = unclosed }
  does-by_reaction Keepalive message id rcode ws c unclosed = does-adopts message ws c unclosed
  does-by_reaction Delay message id rcode ws c unclosed = does-closes (closes.Delay (from_be_bytes w32 (primary_data message)) rcode) ws c
  does-by_reaction Push message id rcode ws c unclosed = does-push_taken (primary_data message) ws c unclosed
  does-by_reaction (Close reason) message id rcode ws c unclosed = does-closes reason ws c

  pub does-reacted : (message : List ℕ) (before : Connection) (ws : List Wish) (c : Connection) → c.closed ≡ None → Does now (λ x. reacted message before (at ws now (with_octets x c)))
  does-reacted message before ws c unclosed = by (head_of message)
    where
      by : (head : Option DsoHead) → Does now (λ x. reacted_by message before (at ws now (with_octets x c)) head)
      by None = does-closes closes.Short ws c
      by (Some head) = does-by_reaction (client_reaction head before.established) message (id_of message) (rcode_of (flags_of message)) ws
          (record c { clocks = restarted (counts_as_keepalive (at ws now c) head) now c.clocks }) unclosed
