-- A client that waits for octets: its connection, if it has one, hasn't closed, no whole message is in its input, and that are octets.
--     Waits connection, IsWaiting client      it does so
--     same      so does another connection of the same input
--     waits-subscribe, waits-unsubscribe, waits-reconfirm, waits-connected      so it does behind these calls
--     waits-moment      behind a moment, unless it has closed
use Rattle.std.proofs.Common.{◌≡◌, ℕ, ◌<◌, Bool, true, false, cond, ◌&&◌, List, [], ◌∷◌, ◌++◌, length, fold, Option, Some, None, option_map, refl, sym, ◌∙◌, ap, subst}
use Rattle.std.specs.Prelude.{if◌then◌else◌, is_some, nat_le}
use Rattle.std.specs.List.{list_any}
use Rattle.std.proofs.lemmas.List.Elements.{All-nil}
use Rattle.push_base.specs.Limits.{max_questions}
use Rattle.rrset.specs.Header.{max_message}
use Rattle.rrset.specs.declared.record.Question.{Question}
use Rattle.rrset.specs.declared.record.Rr.{Rr}
use Rattle.dsotlv.specs.Laws.{AreOctets}
use Rattle.dsotlv.specs.Messages.{first_message}
use Rattle.dsosession.specs.Timing.{client_due}
use Rattle.dsosession.specs.declared.session.Due.{Due}
use Rattle.dsosession.specs.declared.session.Due.TheVariants as dues
use Rattle.dsosession.specs.declared.session.CloseReason.{CloseReason}
use Rattle.dsosession.specs.declared.session.CloseReason.TheVariants as closes
use Rattle.pushclient.specs.declared.client.Asked.{Asked}
use Rattle.pushclient.specs.declared.client.Asked.TheVariants as asked
use Rattle.pushclient.specs.Clients.{Client, Connection, Wish, RequestState, not_asked, unanswered, refused, answered, new_connection, next_id, writes, subscribe_message, unsubscribe_message, reconfirm_message, open_connection, with_connection, asks, unasked, wanted_questions, connected, wish_for, without_wish, subscribe, drops, unsubscribe, reconfirm, closed_as}
use Rattle.pushclient.specs.Steps.{is_active, keepalive_message, does, at_later, moment}
use Rattle.pushclient.proofs.EveryCut.{is-at}

pub record Waits (c : Connection) : Type 0 where
  pub unclosed : c.closed ≡ None
  pub none : first_message c.input ≡ None
  pub below : AreOctets c.input

abbrev pub WaitsIn : Option Connection → Type 0
WaitsIn None = Unit {0}
WaitsIn (Some c) = Waits c

abbrev pub IsWaiting : Client → Type 0
IsWaiting p = WaitsIn p.connection

-- another connection of the same input, which hasn't closed either
pub same : (c d : Connection) → Waits c → d.closed ≡ c.closed → d.input ≡ c.input → Waits d
same c d w closed input = record { unclosed = closed ∙ w.unclosed; none = ap first_message input ∙ w.none; below = subst AreOctets (sym input) w.below }

-- an open connection waits
pub opened : (p : Client) (c : Connection) → open_connection p ≡ Some c → IsWaiting p → Waits c
opened p c there w = (let is = is-at p c there in subst WaitsIn (ap (λ (x : Client). x.connection) is.same) w)

-- by the open connection
by-open : (p without : Client) (with_it : Connection → Client) → IsWaiting without → ((c : Connection) → Waits c → IsWaiting (with_it c)) → IsWaiting p → IsWaiting (elim (open_connection p) as (λ _. Client) [ None ↦ without | Some c ↦ with_it c ])
by-open p without with_it none some w = by (open_connection p) refl
  where
    by : (o : Option Connection) → open_connection p ≡ o → IsWaiting (elim o as (λ _. Client) [ None ↦ without | Some c ↦ with_it c ])
    by None e = none
    by (Some c) e = some c (opened p c e w)

-- a message is written on it
abbrev asking : Client → Question → Connection → Client
asking p q c = (let id = next_id p.wishes c in record p {
  wishes = p.wishes ++ (record { question = q; wanted = true; standing = unanswered id; notices = [] }) ∷ [];
  connection = Some (writes false p.now (subscribe_message id q) (record c { last_id = id }));
})

waits-asks : (p : Client) (q : Question) → IsWaiting p → IsWaiting (asks p q)
waits-asks p q w = by-open p (record p { wishes = p.wishes ++ unasked q ∷ [] }) (asking p q) w (λ c v. same c _ v refl refl) w

waits-asked : (qs : List Question) (p : Client) → IsWaiting p → IsWaiting (fold asks p qs)
waits-asked [] p w = w
waits-asked (q ∷ qs) p w = waits-asked qs (asks p q) (waits-asks p q w)

pub waits-connected : (t : ℕ) (p : Client) → IsWaiting (connected t p)
waits-connected t p = waits-asked (wanted_questions p) (record { wishes = []; connection = Some (new_connection t); now = t }) (record { unclosed = refl; none = refl; below = All-nil (λ (o : ℕ). o < 256) })

pub waits-subscribe : (p : Client) (q : Question) → IsWaiting p → IsWaiting (subscribe p q).1
waits-subscribe p q w = by (wish_for p q)
  where
    tested : (t : Bool) (wish : Wish) → (let r : Asked × Client = if t then (asked.Already, p) else (asked.New, record p { wishes = without_wish q p.wishes ++ (record wish { wanted = true }) ∷ [] }) in IsWaiting r.1)
    tested true wish = w
    tested false wish = w

    counted : (t : Bool) → (let r : Asked × Client = if t then (asked.Many, p) else (asked.New, asks p q) in IsWaiting r.1)
    counted true = w
    counted false = waits-asks p q w

    by : (o : Option Wish) → (let r : Asked × Client = elim o [
      | Some wish ↦ if wish.wanted then (asked.Already, p) else (asked.New, record p { wishes = without_wish q p.wishes ++ (record wish { wanted = true }) ∷ [] })
      | None ↦ if nat_le max_questions (length p.wishes) then (asked.Many, p) else (asked.New, asks p q)
    ] in IsWaiting r.1)
    by None = counted (nat_le max_questions (length p.wishes))
    by (Some wish) = tested wish.wanted wish

waits-drops : (wish : Wish) (standing : RequestState) (p : Client) → IsWaiting p → IsWaiting (drops standing wish p)
waits-drops wish (answered id) p w =
    let gone : Client = record p { wishes = without_wish wish.question p.wishes } in
    by-open p gone (λ c. with_connection (writes false p.now (unsubscribe_message id) c) gone) w (λ c v. same c _ v refl refl) w
waits-drops wish (unanswered id) p w = w
waits-drops wish (refused rcode) p w = w
waits-drops wish not_asked p w = w

pub waits-unsubscribe : (p : Client) (q : Question) → IsWaiting p → IsWaiting (unsubscribe p q).1
waits-unsubscribe p q w = by (wish_for p q)
  where
    tested : (t : Bool) (wish : Wish) → (let r : Bool × Client = if t then (true, drops wish.standing wish p) else (false, p) in IsWaiting r.1)
    tested true wish = waits-drops wish wish.standing p w
    tested false wish = w

    by : (o : Option Wish) → (let r : Bool × Client = elim o [ None ↦ (false, p) | Some wish ↦ if wish.wanted then (true, drops wish.standing wish p) else (false, p) ] in IsWaiting r.1)
    by None = w
    by (Some wish) = tested wish.wanted wish

pub waits-reconfirm : (p : Client) (rr : Rr) → IsWaiting p → IsWaiting (reconfirm p rr).1
waits-reconfirm p rr w = by (open_connection p) refl
  where
    said : (c : Connection) → Waits c → (b : Bool) → IsWaiting (cond {A = Bool × Client} b (true, with_connection (writes false p.now (reconfirm_message rr) c) p) (false, p)).1
    said c v true = same c _ v refl refl
    said c v false = w

    by : (o : Option Connection) → open_connection p ≡ o → IsWaiting (elim o as (λ _. Bool × Client) [
      | None ↦ (false, p)
      | Some c ↦ cond {A = Bool × Client} (c.established && nat_le (length (reconfirm_message rr)) max_message) (true, with_connection (writes false p.now (reconfirm_message rr) c) p) (false, p)
    ]).1
    by None e = w
    by (Some c) e = said c (opened p c e w) (c.established && nat_le (length (reconfirm_message rr)) max_message)

-- one that may have closed
abbrev pub MayWait : Client → Type 0
MayWait p = closed_as p ≡ None → IsWaiting p

pub waits-moment : (p : Client) (t : ℕ) → IsWaiting p → MayWait (moment p t)
waits-moment p t w = by (open_connection p) refl
  where
    closing : Connection → Connection
    closing c = record c { closed = Some closes.Idle }

    idle : (o : Option Connection) → elim (option_map closing o) as (λ _. Option CloseReason) [ None ↦ None | Some c ↦ c.closed ] ≡ None → WaitsIn (option_map closing o)
    idle None e = tt
    idle (Some c) e = absurd cc

    due : (d : Due) (c : Connection) → Waits c → MayWait (does d c (at_later t p))
    due dues.Nothing c v e = w
    due dues.Keepalive c v e = same c _ v refl refl
    due dues.Idle c v e = idle p.connection e

    by : (o : Option Connection) → open_connection p ≡ o → MayWait (elim o as (λ _. Client) [
      | None ↦ at_later t p
      | Some c ↦ does (client_due c.clocks t (list_any (λ w. is_active w.standing) p.wishes) (is_some c.keepalive_out)) c (at_later t p)
    ])
    by None e none = w
    by (Some c) e none = due (client_due c.clocks t (list_any (λ w. is_active w.standing) p.wishes) (is_some c.keepalive_out)) c (opened p c e w) none
