-- A wish is for a question that `subscribe` was given: what a test says of those it says of these.
use Rattle.std.proofs.Common.{◌≡◌, ℕ, Bool, true, false, cond, not, ◌&&◌, ◌==◌, List, [], ◌∷◌, ◌++◌, length, map, Option, Some, None, Result, Ok, Err, refl, sym, subst}
use Rattle.std.specs.Prelude.{IsTrue, if◌then◌else◌, filter, fold, is_some, nat_le, nat_lt}
use Rattle.std.specs.List.{AllByRecursion, list_any}
use Rattle.push_base.specs.Limits.{max_questions}
use Rattle.rrset.specs.Rcodes.{noerror}
use Rattle.rrset.specs.Header.{id_of, flags_of, rcode_of}
use Rattle.rrset.specs.Records.{same_question}
use Rattle.rrset.specs.declared.record.Rr.{Rr}
use Rattle.rrset.specs.declared.record.Question.{Question}
use Rattle.dsotlv.specs.Messages.{first_message, head_of, primary_data}
use Rattle.dsotlv.specs.Notices.{notices_of}
use Rattle.dsotlv.specs.declared.message.DsoHead.{DsoHead}
use Rattle.dsotlv.specs.declared.message.Notice.{Notice}
use Rattle.dsotlv.specs.declared.message.PushFault.{PushFault}
use Rattle.dsotlv.specs.TlvKinds.{keepalive_tlv, push_tlv}
use Rattle.dsosession.specs.Reactions.{client_reaction}
use Rattle.dsosession.specs.Timing.{client_due, least_keepalive, restarted}
use Rattle.dsosession.specs.declared.session.Due.{Due}
use Rattle.dsosession.specs.declared.session.Due.TheVariants as dues
use Rattle.dsosession.specs.declared.session.CloseReason.{CloseReason}
use Rattle.dsosession.specs.declared.session.CloseReason.TheVariants as closes
use Rattle.dsosession.specs.declared.session.ClientReaction.{ClientReaction}
use Rattle.dsosession.specs.declared.session.ClientReaction.TheVariants.{Answered, Typeless, Keepalive, Delay, Push, Close}
use Rattle.rrset.proofs.Places.{all_filter}
use Rattle.pushclient.specs.declared.client.Asked.{Asked}
use Rattle.pushclient.specs.declared.client.Asked.TheVariants as asked
use Rattle.pushclient.specs.declared.client.Step.{Step}
use Rattle.pushclient.specs.declared.client.Step.TheVariants as steps
use Rattle.pushclient.specs.Clients.{Client, Connection, Wish, RequestState, not_asked, unanswered, refused, answered, next_id, writes, subscribe_message, unsubscribe_message, reconfirm_message, open_connection, with_connection, in_connection, asks, unasked, wanted_questions, connected, cut, wish_for, without_wish, subscribe, drops, unsubscribe, reconfirm}
use Rattle.pushclient.specs.Steps.{closes_as, establishes, is_answered, is_active, request_of, with_standing, forgets, subscribe_answered, timers_of, adopts, keepalive_answered, is_keepalive_out, answer_taken, notices_taken, push_taken, by_reaction, counts_as_keepalive, reacted, step, does, at_later, moment}
use Rattle.pushclient.specs.SoundClients.{Call, connects, is_cut, subscribes, unsubscribes, reconfirms, takes, gives, comes_to, reacts, called, passes}
use Rattle.pushclient.proofs.SoundWishes.{all_behind, all_map, all_found}
use Rattle.pushclient.proofs.SoundCalls.{fresh_client}

module _ (test : Question → Bool) where
  abbrev Passes : Wish → Type 0
  Passes w = IsTrue (test w.question)

  abbrev AllPass : Client → Type 0
  AllPass p = AllByRecursion Passes p.wishes

  abbrev AllAsked : List Question → Type 0
  AllAsked qs = AllByRecursion (λ q. IsTrue (test q)) qs

  -- some wishes stand otherwise
  changed_pass : (t : Wish → Bool) (f : Wish → Wish) → ((w : Wish) → (f w).question ≡ w.question) → (ws : List Wish) → AllByRecursion Passes ws → AllByRecursion Passes (map (λ v. cond (t v) (f v) v) ws)
  changed_pass t f same = all_map Passes Passes (λ v. cond (t v) (f v) v) (λ v h. by v h (t v))
    where
      by : (v : Wish) → Passes v → (b : Bool) → Passes (cond b (f v) v)
      by v h true = subst (λ (q : Question). IsTrue (test q)) (sym (same v)) h
      by v h false = h

  asks_pass : (p : Client) (q : Question) → IsTrue (test q) → AllPass p → AllPass (asks p q)
  asks_pass p q own all = by (open_connection p)
    where
      by : (o : Option Connection) → AllPass (elim o [
        | None ↦ record p { wishes = p.wishes ++ unasked q ∷ [] }
        | Some c ↦ (let id = next_id p.wishes c in record p {
          wishes = p.wishes ++ (record { question = q; wanted = true; standing = unanswered id; notices = [] }) ∷ [];
          connection = Some (writes false p.now (subscribe_message id q) (record c { last_id = id }));
        })
      ])
      by None = all_behind Passes p.wishes (unasked q) all own
      by (Some c) = all_behind Passes p.wishes (record { question = q; wanted = true; standing = unanswered (next_id p.wishes c); notices = [] }) all own

  all_asked_pass : (qs : List Question) (p : Client) → AllAsked qs → AllPass p → AllPass (fold asks p qs)
  all_asked_pass [] p first all = all
  all_asked_pass (q ∷ qs) p first all = all_asked_pass qs (asks p q) first.1 (asks_pass p q first.0 all)

  module _ (p : Client) (all : AllPass p) where
    wanted_pass : AllAsked (wanted_questions p)
    wanted_pass = all_map Passes (λ q. IsTrue (test q)) (λ w. w.question) (λ w h. h) (filter (λ w. w.wanted) p.wishes) (all_filter Passes (λ w. w.wanted) p.wishes all)

    connected_pass : (t : ℕ) → AllPass (connected t p)
    connected_pass t = all_asked_pass (wanted_questions p) (fresh_client t) wanted_pass tt

    cut_pass : AllPass (cut p)
    cut_pass = all_map (λ q. IsTrue (test q)) Passes unasked (λ q h. h) (wanted_questions p) wanted_pass

    left_pass : (q : Question) → AllByRecursion Passes (without_wish q p.wishes)
    left_pass q = all_filter Passes (λ w. not (same_question w.question q)) p.wishes all

    subscribe_pass : (q : Question) → IsTrue (test q) → AllPass (subscribe p q).1
    subscribe_pass q own = by (wish_for p q) refl
      where
        tested : (t : Bool) (w : Wish) → wish_for p q ≡ Some w → (let r : Asked × Client = if t then (asked.Already, p) else (asked.New, record p { wishes = without_wish q p.wishes ++ (record w { wanted = true }) ∷ [] }) in AllPass r.1)
        tested true w e = all
        tested false w e = all_behind Passes (without_wish q p.wishes) (record w { wanted = true }) (left_pass q) (all_found Passes (λ v. same_question v.question q) p.wishes w all e)

        counted : (t : Bool) → (let r : Asked × Client = if t then (asked.Many, p) else (asked.New, asks p q) in AllPass r.1)
        counted true = all
        counted false = asks_pass p q own all

        by : (o : Option Wish) → wish_for p q ≡ o → (let r : Asked × Client = elim o [
          | Some wish ↦ if wish.wanted then (asked.Already, p) else (asked.New, record p { wishes = without_wish q p.wishes ++ (record wish { wanted = true }) ∷ [] })
          | None ↦ if nat_le max_questions (length p.wishes) then (asked.Many, p) else (asked.New, asks p q)
        ] in AllPass r.1)
        by None e = counted (nat_le max_questions (length p.wishes))
        by (Some w) e = tested w.wanted w e

    drops_pass : (w : Wish) (standing : RequestState) → AllPass (drops standing w p)
    drops_pass w (answered id) = by (open_connection p)
      where
        gone : Client
        gone = record p { wishes = without_wish w.question p.wishes }

        by : (o : Option Connection) → AllPass (elim o [ None ↦ gone | Some c ↦ with_connection (writes false p.now (unsubscribe_message id) c) gone ])
        by None = left_pass w.question
        by (Some c) = left_pass w.question
    drops_pass w (unanswered id) = changed_pass (λ v. same_question v.question w.question) (λ v. record v { wanted = false }) (λ v. refl) p.wishes all
    drops_pass w (refused rcode) = left_pass w.question
    drops_pass w not_asked = left_pass w.question

    unsubscribe_pass : (q : Question) → AllPass (unsubscribe p q).1
    unsubscribe_pass q = by (wish_for p q)
      where
        tested : (t : Bool) (w : Wish) → (let r : Bool × Client = if t then (true, drops w.standing w p) else (false, p) in AllPass r.1)
        tested true w = drops_pass w w.standing
        tested false w = all

        by : (o : Option Wish) → (let r : Bool × Client = elim o [ None ↦ (false, p) | Some wish ↦ if wish.wanted then (true, drops wish.standing wish p) else (false, p) ] in AllPass r.1)
        by None = all
        by (Some w) = tested w.wanted w

    reconfirm_pass : (rr : Rr) → AllPass (reconfirm p rr).1
    reconfirm_pass rr = by (open_connection p)
      where
        tested : (t : Bool) (c : Connection) → (let r : Bool × Client = if t then (true, with_connection (writes false p.now (reconfirm_message rr) c) p) else (false, p) in AllPass r.1)
        tested true c = all
        tested false c = all

        by : (o : Option Connection) → (let r : Bool × Client = elim o [
          | None ↦ (false, p)
          | Some c ↦ if c.established && nat_le (length (reconfirm_message rr)) 65535 then (true, with_connection (writes false p.now (reconfirm_message rr) c) p) else (false, p)
        ] in AllPass r.1)
        by None = all
        by (Some c) = tested (c.established && nat_le (length (reconfirm_message rr)) 65535) c

    moment_pass : (t : ℕ) → AllPass (moment p t)
    moment_pass t = by (open_connection p)
      where
        due : (d : Due) (c : Connection) → AllPass (does d c (at_later t p))
        due dues.Nothing c = all
        due dues.Keepalive c = all
        due dues.Idle c = all

        by : (o : Option Connection) → AllPass (elim o [ None ↦ at_later t p | Some c ↦ does (client_due c.clocks t (list_any (λ w. is_active w.standing) p.wishes) (is_some c.keepalive_out)) c (at_later t p) ])
        by None = all
        by (Some c) = due (client_due c.clocks t (list_any (λ w. is_active w.standing) p.wishes) (is_some c.keepalive_out)) c

    -- ---- a step

    adopts_pass : (message : List ℕ) → AllPass (adopts message p).1
    adopts_pass message = by (timers_of message)
      where
        tested : (t : Bool) (numbers : ℕ × ℕ) → (let r : Step × Client = if t then closes_as (closes.Interval numbers.1) p
            else (steps.Kept numbers.0 numbers.1, establishes (in_connection (λ c. record c { clocks = record c.clocks { timers = record { inactivity = numbers.0; keepalive = numbers.1 } } }) p)) in AllPass r.1)
        tested true numbers = all
        tested false numbers = all

        by : (o : Option (ℕ × ℕ)) → (let r : Step × Client = elim o [
          | None ↦ closes_as (closes.BadData keepalive_tlv) p
          | Some numbers ↦ if nat_lt numbers.1 least_keepalive then closes_as (closes.Interval numbers.1) p
              else (steps.Kept numbers.0 numbers.1, establishes (in_connection (λ c. record c { clocks = record c.clocks { timers = record { inactivity = numbers.0; keepalive = numbers.1 } } }) p))
        ] in AllPass r.1)
        by None = all
        by (Some numbers) = tested (nat_lt numbers.1 least_keepalive) numbers

    stood_pass : (w : Wish) (standing : RequestState) → AllPass (with_standing w standing p)
    stood_pass w standing = changed_pass (λ v. same_question v.question w.question) (λ v. record v { standing = standing; notices = [] }) (λ v. refl) p.wishes all

    subscribed_pass : (w : Wish) (id rcode : ℕ) → AllPass (subscribe_answered w id rcode p)
    subscribed_pass w id rcode = by (rcode == noerror) w.wanted
      where
        by : (good wanted : Bool) → AllPass (if good then
            (if wanted then establishes (with_standing w (answered id) p)
            else in_connection (writes false p.now (unsubscribe_message id)) (establishes (forgets w p)))
            else if wanted then with_standing w (refused rcode) p
            else forgets w p)
        by true true = stood_pass w (answered id)
        by true false = left_pass w.question
        by false true = stood_pass w (refused rcode)
        by false false = left_pass w.question

    push_pass : (data' : List ℕ) → AllPass (push_taken data' p).1
    push_pass data' = by (notices_of data')
      where
        by : (r : Result (List Notice) PushFault) → (let s : Step × Client = elim r [ Err fault ↦ closes_as (closes.BadData push_tlv) p | Ok notices ↦ (steps.Pushed notices, notices_taken notices p) ] in AllPass s.1)
        by (Err fault) = all
        by (Ok notices) = changed_pass (λ w. is_answered w.standing) (λ w. record w { notices = w.notices ++ notices }) (λ w. refl) p.wishes all

  keepalive_pass : (message : List ℕ) (rcode : ℕ) (p : Client) → AllPass p → AllPass (keepalive_answered message rcode p).1
  keepalive_pass message rcode p all = by (not (rcode == noerror))
    where
      by : (t : Bool) → (let r : Step × Client = if t then closes_as (closes.Kept rcode) p else adopts message (in_connection (λ c. record c { keepalive_out = None }) p) in AllPass r.1)
      by true = all
      by false = adopts_pass (in_connection (λ c. record c { keepalive_out = None }) p) all message

  answer_pass : (message : List ℕ) (id rcode : ℕ) (p : Client) → AllPass p → AllPass (answer_taken message id rcode p).1
  answer_pass message id rcode p all = by (request_of p id)
    where
      tested : (out : Bool) → (let r : Step × Client = if out then keepalive_answered message rcode p else closes_as (closes.Stranger id) p in AllPass r.1)
      tested true = keepalive_pass message rcode p all
      tested false = all

      by : (o : Option Wish) → (let r : Step × Client = elim o [
        | Some wish ↦ (steps.Answered id rcode, subscribe_answered wish id rcode p)
        | None ↦ if is_keepalive_out id p then keepalive_answered message rcode p else closes_as (closes.Stranger id) p
      ] in AllPass r.1)
      by None = tested (is_keepalive_out id p)
      by (Some w) = subscribed_pass p all w id rcode

  reaction_pass : (reaction : ClientReaction) (message : List ℕ) (id rcode : ℕ) (p : Client) → AllPass p → AllPass (by_reaction reaction message id rcode p).1
  reaction_pass Answered message id rcode p all = answer_pass message id rcode p all
  reaction_pass Typeless message id rcode p all = all
  reaction_pass Keepalive message id rcode p all = adopts_pass p all message
  reaction_pass Delay message id rcode p all = all
  reaction_pass Push message id rcode p all = push_pass p all (primary_data message)
  reaction_pass (Close reason) message id rcode p all = all

  reacted_pass : (message : List ℕ) (c : Connection) (p : Client) → AllPass p → AllPass (reacted message c p).1
  reacted_pass message c p all = by (head_of message)
    where
      by : (o : Option DsoHead) → (let r : Step × Client = elim o [
        | None ↦ closes_as closes.Short p
        | Some head ↦ by_reaction (client_reaction head c.established) message (id_of message) (rcode_of (flags_of message)) (in_connection (λ d. record d { clocks = restarted (counts_as_keepalive p head) p.now d.clocks }) p)
      ] in AllPass r.1)
      by None = all
      by (Some head) = reaction_pass (client_reaction head c.established) message (id_of message) (rcode_of (flags_of message)) _ all

  step_at : (p : Client) (x : Option Connection) → AllPass p → AllPass (step (record p { connection = x })).1
  step_at p None all = all
  step_at p (Some c) all = by c.closed (first_message c.input)
    where
      client : Client
      client = record p { connection = Some c }

      by : (y : Option CloseReason) (o : Option (List ℕ × List ℕ)) → (let r : Step × Client = elim y [
        | Some reason ↦ (steps.Closed reason, client)
        | None ↦ elim o [ None ↦ (steps.Waiting, client) | Some found ↦ reacted found.0 c (with_connection (record c { input = found.1 }) client) ]
      ] in AllPass r.1)
      by (Some reason) o = all
      by None None = all
      by None (Some found) = reacted_pass found.0 c (record p { connection = Some (record c { input = found.1 }) }) all

  pub called_pass : (p : Client) (call : Call) → IsTrue (passes test call) → AllPass p → AllPass (called p call)
  called_pass p (connects t) h all = connected_pass p all t
  called_pass p is_cut h all = cut_pass p all
  called_pass p (subscribes q) h all = subscribe_pass p all q h
  called_pass p (unsubscribes q) h all = unsubscribe_pass p all q
  called_pass p (reconfirms rr) h all = reconfirm_pass p all rr
  called_pass p (takes piece) h all = all
  called_pass p (gives n) h all = all
  called_pass p (comes_to t) h all = moment_pass p all t
  called_pass p reacts h all = step_at p p.connection all
