-- A client that has just reacted to a message isn't quiet: at the moment that it has, no Keepalive is due.
--     fresh-reacted      a reaction restarts the keepalive timer
--     no-keepalive      then none is due
use Rattle.std.proofs.Common.{◌≡◌, ℕ, ◌+◌, ◌≤◌, ◌<◌, Bool, true, false, cond, not, ◌&&◌, Option, Some, None, Result, Ok, Err, List, map, ◌++◌, refl, ◌∙◌, ap, arith}
use Rattle.std.specs.Prelude.{◌==◌, nat_lt, nat_le}
use Rattle.std.proofs.lemmas.Bool.Decides.{nat_tests}
use Rattle.rrset.specs.Header.{id_of, flags_of, rcode_of}
use Rattle.rrset.specs.Rcodes.{noerror, dsotypeni}
use Rattle.dsotlv.specs.Answers.{answer_to}
use Rattle.dsotlv.specs.Messages.{head_of, primary_data}
use Rattle.dsotlv.specs.Notices.{notices_of}
use Rattle.dsotlv.specs.TlvKinds.{keepalive_tlv, push_tlv}
use Rattle.dsotlv.specs.declared.message.DsoHead.{DsoHead}
use Rattle.dsotlv.specs.declared.message.Notice.{Notice}
use Rattle.dsotlv.specs.declared.message.PushFault.{PushFault}
use Rattle.dsosession.specs.Reactions.{client_reaction}
use Rattle.dsosession.specs.Timing.{Clocks, least_keepalive, restarted, client_due, is_inactive, is_quiet, infinite}
use Rattle.dsosession.specs.declared.session.ClientReaction.{ClientReaction}
use Rattle.dsosession.specs.declared.session.ClientReaction.TheVariants.{Answered, Typeless, Keepalive, Delay, Push, Close}
use Rattle.dsosession.specs.declared.session.CloseReason.{CloseReason}
use Rattle.dsosession.specs.declared.session.CloseReason.TheVariants as closes
use Rattle.dsosession.specs.declared.session.Due.{Due}
use Rattle.dsosession.specs.declared.session.Due.TheVariants as dues
use Rattle.std.specs.Int.{w32, from_be_bytes}
use Rattle.pushclient.specs.declared.client.Step.{Step}
use Rattle.pushclient.specs.declared.client.Step.TheVariants as steps
use Rattle.pushclient.specs.Clients.{Client, Connection, Wish, refused, answered, unsubscribe_message, writes, in_connection, without_wish}
use Rattle.pushclient.specs.Rule.{stood_wish}
use Rattle.pushclient.specs.Steps.{closes_as, establishes, request_of, subscribe_answered, timers_of, adopts, keepalive_answered, is_keepalive_out, answer_taken, is_answered, push_taken, by_reaction, counts_as_keepalive, reacted}
use Rattle.pushclient.proofs.Reactions.{at, adopts_by, answer_by, push_by, reacted_by}

-- a message has passed at the moment that it is, and the keepalive interval isn't 0
pub record IsFresh (now : ℕ) (clocks : Clocks) : Type 0 where
  pub last : clocks.last_message ≡ now
  pub long : 1 ≤ clocks.timers.keepalive

pub record StaysFresh (now : ℕ) (client : Client) : Type 0 where
  pub wishes : List Wish
  pub connection : Connection
  pub is : client ≡ at wishes now connection
  pub fresh : IsFresh now connection.clocks

either_fresh : {now : ℕ} {a b : Client} (t : Bool) → StaysFresh now a → StaysFresh now b → StaysFresh now (cond t a b)
either_fresh true first second = first
either_fresh false first second = second

either_step : {now : ℕ} (a b : Step × Client) (t : Bool) → StaysFresh now a.1 → StaysFresh now b.1 → StaysFresh now (cond t a b).1
either_step a b true first second = first
either_step a b false first second = second

module _ (now : ℕ) where
  fresh-closes : (reason : CloseReason) (ws : List Wish) (c : Connection) → IsFresh now c.clocks → StaysFresh now (closes_as reason (at ws now c)).1
  fresh-closes reason ws c f = record { wishes = ws; connection = record c { closed = Some reason }; is = refl; fresh = f }

  fresh-answered : (wish : Wish) (id rcode : ℕ) (ws : List Wish) (c : Connection) → IsFresh now c.clocks → StaysFresh now (subscribe_answered wish id rcode (at ws now c))
  fresh-answered wish id rcode ws c f =
      let established : Connection = record c { established = true } in
      let gone : List Wish = without_wish wish.question ws in
      either_fresh (rcode == noerror)
      (either_fresh wish.wanted
      (record { wishes = map (stood_wish wish.question (answered id)) ws; connection = established; is = refl; fresh = f })
      (record { wishes = gone; connection = writes false now (unsubscribe_message id) established; is = refl; fresh = record { last = refl; long = f.long } }))
      (either_fresh wish.wanted
      (record { wishes = map (stood_wish wish.question (refused rcode)) ws; connection = c; is = refl; fresh = f })
      (record { wishes = gone; connection = c; is = refl; fresh = f }))

  long_enough : (n : ℕ) → nat_lt n least_keepalive ≡ false → 1 ≤ n
  long_enough n e = (let m : least_keepalive ≤ n = grind (arith, nat_tests) in omega (arith, m))

  fresh-adopts : (message : List ℕ) (ws : List Wish) (c : Connection) → IsFresh now c.clocks → StaysFresh now (adopts message (at ws now c)).1
  fresh-adopts message ws c f = by (timers_of message)
    where
      by_short : (numbers : ℕ × ℕ) (short : Bool) → nat_lt numbers.1 least_keepalive ≡ short → StaysFresh now (cond short (closes_as (closes.Interval numbers.1) (at ws now c))
          (steps.Kept numbers.0 numbers.1, establishes (in_connection (λ c. record c { clocks = record c.clocks { timers = record { inactivity = numbers.0; keepalive = numbers.1 } } }) (at ws now c)))).1
      by_short numbers true e = fresh-closes (closes.Interval numbers.1) ws c f
      by_short numbers false e = record {
        wishes = ws;
        connection = record c { established = true; clocks = record c.clocks { timers = record { inactivity = numbers.0; keepalive = numbers.1 } } };
        is = refl;
        fresh = record { last = f.last; long = long_enough numbers.1 e };
      }

      by : (numbers : Option (ℕ × ℕ)) → StaysFresh now (adopts_by (at ws now c) numbers).1
      by None = fresh-closes (closes.BadData keepalive_tlv) ws c f
      by (Some numbers) = by_short numbers (nat_lt numbers.1 least_keepalive) refl

  fresh-keepalive_answered : (message : List ℕ) (rcode : ℕ) (ws : List Wish) (c : Connection) → IsFresh now c.clocks → StaysFresh now (keepalive_answered message rcode (at ws now c)).1
  fresh-keepalive_answered message rcode ws c f =
      either_step (closes_as (closes.Kept rcode) (at ws now c)) (adopts message (at ws now (record c { keepalive_out = None }))) (not (rcode == noerror)) (fresh-closes (closes.Kept rcode) ws c f) (fresh-adopts message ws (record c { keepalive_out = None }) f)

  fresh-answer_taken : (message : List ℕ) (id rcode : ℕ) (ws : List Wish) (c : Connection) → IsFresh now c.clocks → StaysFresh now (answer_taken message id rcode (at ws now c)).1
  fresh-answer_taken message id rcode ws c f = by (request_of (at ws now c) id)
    where
      by : (found : Option Wish) → StaysFresh now (answer_by message id rcode (at ws now c) found).1
      by None =
          either_step (keepalive_answered message rcode (at ws now c)) (closes_as (closes.Stranger id) (at ws now c)) (is_keepalive_out id (at ws now c)) (fresh-keepalive_answered message rcode ws c f) (fresh-closes (closes.Stranger id) ws c f)
      by (Some wish) = fresh-answered wish id rcode ws c f

  fresh-push_taken : (octets : List ℕ) (ws : List Wish) (c : Connection) → IsFresh now c.clocks → StaysFresh now (push_taken octets (at ws now c)).1
  fresh-push_taken octets ws c f = by (notices_of octets)
    where
      by : (read : Result (List Notice) PushFault) → StaysFresh now (push_by (at ws now c) read).1
      by (Err fault) = fresh-closes (closes.BadData push_tlv) ws c f
      by (Ok notices) = record { wishes = map (λ w. cond (is_answered w.standing) (record w { notices = w.notices ++ notices }) w) ws; connection = c; is = refl; fresh = f }

  fresh-by_reaction : (reaction : ClientReaction) (message : List ℕ) (id rcode : ℕ) (ws : List Wish) (c : Connection) → IsFresh now c.clocks → StaysFresh now (by_reaction reaction message id rcode (at ws now c)).1
  fresh-by_reaction Answered message id rcode ws c f = fresh-answer_taken message id rcode ws c f
  fresh-by_reaction Typeless message id rcode ws c f = record { wishes = ws; connection = writes false now (answer_to id dsotypeni) c; is = refl; fresh = record { last = refl; long = f.long } }
  fresh-by_reaction Keepalive message id rcode ws c f = fresh-adopts message ws c f
  fresh-by_reaction Delay message id rcode ws c f = fresh-closes (closes.Delay (from_be_bytes w32 (primary_data message)) rcode) ws c f
  fresh-by_reaction Push message id rcode ws c f = fresh-push_taken (primary_data message) ws c f
  fresh-by_reaction (Close reason) message id rcode ws c f = fresh-closes reason ws c f

  pub fresh-reacted : (message : List ℕ) (before : Connection) (ws : List Wish) (c : Connection) → 1 ≤ c.clocks.timers.keepalive → IsFresh now c.clocks → StaysFresh now (reacted message before (at ws now c)).1
  fresh-reacted message before ws c long f = by (head_of message)
    where
      by : (head : Option DsoHead) → StaysFresh now (reacted_by message before (at ws now c) head).1
      by None = fresh-closes closes.Short ws c f
      by (Some head) = fresh-by_reaction (client_reaction head before.established) message (id_of message) (rcode_of (flags_of message)) ws
          (record c { clocks = restarted (counts_as_keepalive (at ws now c) head) now c.clocks }) (record { last = refl; long = long })

  -- ---- nothing but the end of an idle client is due

  not_quiet : (clocks : Clocks) → IsFresh now clocks → is_quiet clocks now ≡ false
  not_quiet clocks f = and_false (not (clocks.timers.keepalive == infinite)) (nat_le (clocks.last_message + clocks.timers.keepalive) now) late
    where
      late : nat_le (clocks.last_message + clocks.timers.keepalive) now ≡ false
      late = (let m : now < clocks.last_message + clocks.timers.keepalive = omega (arith, f.last, f.long) in grind (arith, nat_tests))

      and_false : (a b : Bool) → b ≡ false → (a && b) ≡ false
      and_false true b e = e
      and_false false b e = refl

  pub data Still (due : Due) : Type 0 where
    idle : due ≡ dues.Idle → Still due
    nothing : due ≡ dues.Nothing → Still due

  pub no-keepalive : (clocks : Clocks) (active out : Bool) → IsFresh now clocks → Still (client_due clocks now active out)
  no-keepalive clocks active out f = by (not active && is_inactive clocks now) refl
    where
      none : (not out && is_quiet clocks now) ≡ false
      none = ap (λ (q : Bool). not out && q) (not_quiet clocks f) ∙ with_false (not out)
        where
          with_false : (a : Bool) → (a && false) ≡ false
          with_false true = refl
          with_false false = refl

      by : (inactive : Bool) → (not active && is_inactive clocks now) ≡ inactive → Still (client_due clocks now active out)
      by true e = idle (ap (λ (t : Bool). cond {A = Due} t dues.Idle (cond (not out && is_quiet clocks now) dues.Keepalive dues.Nothing)) e)
      by false e = nothing (ap (λ (t : Bool). cond {A = Due} t dues.Idle (cond (not out && is_quiet clocks now) dues.Keepalive dues.Nothing)) e ∙ ap (λ (t : Bool). cond {A = Due} t dues.Keepalive dues.Nothing) none)
