-- Which calls leave a client with a connection where it has one, and without where it has none.
--     subscribe-connected, unsubscribe-connected, moment-connected      these leave it so
use Rattle.std.proofs.Common.{◌≡◌, ℕ, Bool, true, false, cond, [], ◌∷◌, ◌++◌, Option, Some, None, option_map, refl, sym, ap}
use Rattle.std.specs.Prelude.{nat_le, length, is_some}
use Rattle.std.specs.List.{list_any}
use Rattle.push_base.specs.Limits.{max_questions}
use Rattle.rrset.specs.declared.record.Question.{Question}
use Rattle.dsosession.specs.Timing.{client_due}
use Rattle.dsosession.specs.declared.session.Due.{Due}
use Rattle.dsosession.specs.declared.session.Due.TheVariants as dues
use Rattle.pushclient.specs.declared.client.Asked.{Asked}
use Rattle.pushclient.specs.declared.client.Asked.TheVariants as asked
use Rattle.pushclient.specs.Clients.{Client, Connection, Wish, RequestState, not_asked, unanswered, refused, answered, next_id, writes, subscribe_message, unsubscribe_message, open_connection, with_connection, asks, wish_for, without_wish, subscribe, unsubscribe, drops, is_connected}
use Rattle.pushclient.specs.Steps as steps
use Rattle.pushclient.specs.Steps.{does, at_later, is_active}

abbrev Keeps : Client → Client → Type 0
Keeps client later = is_connected later ≡ is_connected client

-- by the open connection of a client
by-open : (client : Client) (without : Client) (with_it : Connection → Client) → Keeps client without → ((c : Connection) → is_connected client ≡ true → Keeps client (with_it c))
    → Keeps client (elim (open_connection client) as (λ _. Client) [ None ↦ without | Some c ↦ with_it c ])
by-open client without with_it keeps has = by client.connection refl
  where
    by_closed : (c : Connection) (b : Bool) → client.connection ≡ Some c → Keeps client (elim (cond {A = Option Connection} b None (Some c)) as (λ _. Client) [ None ↦ without | Some d ↦ with_it d ])
    by_closed c true e = keeps
    by_closed c false e = has c (ap (λ (o : Option Connection). is_some o) e)

    by : (o : Option Connection) → client.connection ≡ o → Keeps client (elim (elim o as (λ _. Option Connection) [ None ↦ None | Some c ↦ cond (is_some c.closed) None (Some c) ]) as (λ _. Client) [ None ↦ without | Some c ↦ with_it c ])
    by None e = keeps
    by (Some c) e = by_closed c (is_some c.closed) e

asks-connected : (client : Client) (question : Question) → Keeps client (asks client question)
asks-connected client question = by-open client (record client { wishes = client.wishes ++ (record { question = question; wanted = true; standing = not_asked; notices = [] }) ∷ [] }) (λ c. (let id = next_id client.wishes c in record client {
  wishes = client.wishes ++ (record { question = question; wanted = true; standing = unanswered id; notices = [] }) ∷ [];
  connection = Some (writes false client.now (subscribe_message id question) (record c { last_id = id }));
})) refl (λ c h. sym h)

pub subscribe-connected : (question : Question) (client : Client) → Keeps client (subscribe client question).1
subscribe-connected question client = by (wish_for client question)
  where
    by_wanted : (wish : Wish) (b : Bool) → Keeps client (cond {A = Asked × Client} b (asked.Already, client) (asked.New, record client { wishes = without_wish question client.wishes ++ (record wish { wanted = true }) ∷ [] })).1
    by_wanted wish true = refl
    by_wanted wish false = refl

    by_many : (b : Bool) → Keeps client (cond {A = Asked × Client} b (asked.Many, client) (asked.New, asks client question)).1
    by_many true = refl
    by_many false = asks-connected client question

    by : (o : Option Wish) → Keeps client (elim o as (λ _. Asked × Client) [
      | Some wish ↦ cond wish.wanted (asked.Already, client) (asked.New, record client { wishes = without_wish question client.wishes ++ (record wish { wanted = true }) ∷ [] })
      | None ↦ cond (nat_le max_questions (length client.wishes)) (asked.Many, client) (asked.New, asks client question)
    ]).1
    by (Some wish) = by_wanted wish wish.wanted
    by None = by_many (nat_le max_questions (length client.wishes))

drops-connected : (standing : RequestState) (wish : Wish) (client : Client) → Keeps client (drops standing wish client)
drops-connected (answered id) wish client =
    let gone : Client = record client { wishes = without_wish wish.question client.wishes } in
    by-open client gone (λ c. with_connection (writes false client.now (unsubscribe_message id) c) gone) refl (λ c h. sym h)
drops-connected (unanswered id) wish client = refl
drops-connected not_asked wish client = refl
drops-connected (refused rcode) wish client = refl

pub unsubscribe-connected : (question : Question) (client : Client) → Keeps client (unsubscribe client question).1
unsubscribe-connected question client = by (wish_for client question)
  where
    by_wanted : (wish : Wish) (b : Bool) → Keeps client (cond {A = Bool × Client} b (true, drops wish.standing wish client) (false, client)).1
    by_wanted wish true = drops-connected wish.standing wish client
    by_wanted wish false = refl

    by : (o : Option Wish) → Keeps client (elim o as (λ _. Bool × Client) [ None ↦ (false, client) | Some wish ↦ cond wish.wanted (true, drops wish.standing wish client) (false, client) ]).1
    by None = refl
    by (Some wish) = by_wanted wish wish.wanted

mapped : (f : Connection → Connection) (o : Option Connection) → is_some (option_map f o) ≡ is_some o
mapped f None = refl
mapped f (Some c) = refl

does-connected : (due : Due) (c : Connection) (client : Client) → is_connected client ≡ true → Keeps client (does due c client)
does-connected dues.Nothing c client h = refl
does-connected dues.Keepalive c client h = sym h
does-connected dues.Idle c client h = mapped _ client.connection

pub moment-connected : (t : ℕ) (client : Client) → Keeps client (steps.moment client t)
moment-connected t client = by-open client (at_later t client) (λ c. does (client_due c.clocks t (list_any (λ w. is_active w.standing) client.wishes) (is_some c.keepalive_out)) c (at_later t client)) refl
    (λ c h. does-connected (client_due c.clocks t (list_any (λ w. is_active w.standing) client.wishes) (is_some c.keepalive_out)) c (at_later t client) h)
