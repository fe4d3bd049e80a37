-- What a client has to send are octets, whatever it is called and told, if the names that it asks for are.
--     HasOctets connection, SaysOctets client      what a connection has to send are octets; so are the names of all wishes
--     so-subscribe, so-unsubscribe, so-reconfirm, so-connected, so-cut, so-moment      so it is behind these calls
--     so-takes, so-gives, so-delivered      behind octets in and out
--     output-octets      what the client has to send
use Rattle.std.proofs.Common.{◌≡◌, ℕ, zero, suc, ◌<◌, ◌==◌, Bool, true, false, cond, not, ◌&&◌, List, [], ◌∷◌, ◌++◌, length, take, drop, min, fold, filter, Option, Some, None, option_map, Result, Ok, Err, refl, subst, arith}
use Rattle.std.specs.Prelude.{IsTrue, if◌then◌else◌, is_some, nat_le, nat_lt}
use Rattle.std.specs.Int.{w16, w32, to_be_bytes}
use Rattle.std.specs.List.{AllByRecursion, list_any, list_all}
use Rattle.std.proofs.lemmas.Bool.{ltb-true}
use Rattle.std.proofs.lemmas.List.Elements.{All-nil, All-cons, All-append, All-drop, All-from_recursion}
use Rattle.rrset.proofs.Places.{all_filter}
use Rattle.dnsname.proofs.Decisions.{and_true}
use Rattle.pushclient.proofs.SoundWishes.{all_map}
use Rattle.push_base.specs.Limits.{max_questions}
use Rattle.dnsname.specs.Names.{octets}
use Rattle.rrset.specs.Rcodes.{noerror, dsotypeni}
use Rattle.rrset.specs.Header.{answer_octets, id_of, flags_of, rcode_of, max_message}
use Rattle.rrset.specs.declared.record.Question.{Question}
use Rattle.rrset.specs.declared.record.Rr.{Rr}
use Rattle.dsotlv.specs.Laws.{AreOctets}
use Rattle.dsotlv.specs.Messages.{frame, first_message, head_of, primary_data, dso_flags, tlv_octets}
use Rattle.dsotlv.specs.Answers.{answer_to, keepalive_octets}
use Rattle.dsotlv.specs.Notices.{notices_of}
use Rattle.dsotlv.specs.declared.message.Tlv.{Tlv}
use Rattle.dsotlv.specs.declared.message.DsoHead.{DsoHead}
use Rattle.dsotlv.specs.declared.message.Notice.{Notice}
use Rattle.dsotlv.specs.declared.message.PushFault.{PushFault}
use Rattle.dsotlv.specs.TlvKinds.{keepalive_tlv, push_tlv, reconfirm_tlv, subscribe_tlv, unsubscribe_tlv}
use Rattle.dsosession.specs.Reactions.{client_reaction}
use Rattle.dsosession.specs.Timing.{default_timers, client_due, least_keepalive, restarted}
use Rattle.dsosession.specs.declared.session.Due.{Due}
use Rattle.dsosession.specs.declared.session.Due.TheVariants as dues
use Rattle.dsosession.specs.declared.session.CloseReason.{CloseReason}
use Rattle.dsosession.specs.declared.session.CloseReason.TheVariants as closes
use Rattle.dsosession.specs.declared.session.ClientReaction.{ClientReaction}
use Rattle.dsosession.specs.declared.session.ClientReaction.TheVariants.{Answered, Typeless, Keepalive, Delay, Push, Close}
use Rattle.pushclient.specs.declared.client.Asked.{Asked}
use Rattle.pushclient.specs.declared.client.Asked.TheVariants as asked
use Rattle.pushclient.specs.declared.client.Step.{Step}
use Rattle.pushclient.specs.declared.client.Step.TheVariants as steps
use Rattle.pushclient.specs.Clients.{Client, Connection, Wish, RequestState, not_asked, unanswered, refused, answered, new_client, new_connection, next_id, writes, question_octets, subscribe_message, unsubscribe_message, reconfirm_message, open_connection, with_connection, in_connection, asks, unasked, wanted_questions, connected, cut, wish_for, without_wish, subscribe, drops, unsubscribe, reconfirm, take_octets, give_octets, output_of, room_of}
use Rattle.pushclient.specs.Steps.{closes_as, establishes, is_active, request_of, with_standing, forgets, subscribe_answered, timers_of, adopts, keepalive_answered, is_keepalive_out, answer_taken, notices_taken, push_taken, by_reaction, counts_as_keepalive, reacted, step, keepalive_message, does, at_later, moment}
use Rattle.pushclient.specs.SoundClients.{connects, is_cut, subscribes, unsubscribes, reconfirms, comes_to, reacts}
use Rattle.pushclient.proofs.AskedFor.{called_pass}
use Rattle.replay.specs.PassedOctets.{Delivered, stepped, delivered, enough}
use Rattle.replay.proofs.ClientPieces.{stepped_by, later_of, delivered_by, stops_at}

abbrev IsOctet : ℕ → Type 0
IsOctet o = o < 256

-- ---- messages

two_octets : (n : ℕ) → AreOctets (to_be_bytes w16 n)
two_octets n = All-from_recursion IsOctet (to_be_bytes w16 n) (omega arith, (omega arith, tt))

four_octets : (n : ℕ) → AreOctets (to_be_bytes w32 n)
four_octets n = All-from_recursion IsOctet (to_be_bytes w32 n) (omega arith, (omega arith, (omega arith, (omega arith, tt))))

both : (xs ys : List ℕ) → AreOctets xs → AreOctets ys → AreOctets (xs ++ ys)
both xs ys p q = All-append IsOctet xs ys p q

zero_octet : IsOctet 0
zero_octet = omega arith

counts : AreOctets (0 ∷ 0 ∷ 0 ∷ 0 ∷ 0 ∷ 0 ∷ 0 ∷ 0 ∷ [])
counts = All-from_recursion IsOctet (0 ∷ 0 ∷ 0 ∷ 0 ∷ 0 ∷ 0 ∷ 0 ∷ 0 ∷ []) (zero_octet, (zero_octet, (zero_octet, (zero_octet, (zero_octet, (zero_octet, (zero_octet, (zero_octet, tt))))))))

header : (id flags : ℕ) → AreOctets (answer_octets id flags)
header id flags = both (to_be_bytes w16 id ++ to_be_bytes w16 flags) (0 ∷ 0 ∷ 0 ∷ 0 ∷ 0 ∷ 0 ∷ 0 ∷ 0 ∷ []) (both (to_be_bytes w16 id) (to_be_bytes w16 flags) (two_octets id) (two_octets flags)) counts

framed : (message : List ℕ) → AreOctets message → AreOctets (frame message)
framed message below = both (to_be_bytes w16 (length message)) message (two_octets (length message)) below

tlv : (t : Tlv) → AreOctets t.octets → AreOctets (tlv_octets t)
tlv t below = both (to_be_bytes w16 t.kind ++ to_be_bytes w16 (length t.octets)) t.octets (both (to_be_bytes w16 t.kind) (to_be_bytes w16 (length t.octets)) (two_octets t.kind) (two_octets (length t.octets))) below

abbrev HasName : Question → Type 0
HasName q = AreOctets (octets q.name)

subscribing : (id : ℕ) (q : Question) → HasName q → AreOctets (subscribe_message id q)
subscribing id q name =
    both (answer_octets id (dso_flags false 0)) (tlv_octets (record { kind = subscribe_tlv; octets = question_octets q })) (header id (dso_flags false 0))
    (tlv (record { kind = subscribe_tlv; octets = question_octets q }) (both (octets q.name ++ to_be_bytes w16 q.kind) (to_be_bytes w16 q.class) (both (octets q.name) (to_be_bytes w16 q.kind) name (two_octets q.kind)) (two_octets q.class)))

unsubscribing : (id : ℕ) → AreOctets (unsubscribe_message id)
unsubscribing id = both (answer_octets 0 (dso_flags false 0)) (tlv_octets (record { kind = unsubscribe_tlv; octets = to_be_bytes w16 id })) (header 0 (dso_flags false 0)) (tlv (record { kind = unsubscribe_tlv; octets = to_be_bytes w16 id }) (two_octets id))

doubting : (rr : Rr) → AreOctets (octets rr.owner) → AreOctets rr.rdata → AreOctets (reconfirm_message rr)
doubting rr name rdata =
    let kind = both (octets rr.owner) (to_be_bytes w16 rr.kind) name (two_octets rr.kind) in
    let class = both (octets rr.owner ++ to_be_bytes w16 rr.kind) (to_be_bytes w16 rr.class) kind (two_octets rr.class) in
    let data' = both (octets rr.owner ++ to_be_bytes w16 rr.kind ++ to_be_bytes w16 rr.class) rr.rdata class rdata in
    let t : Tlv = record { kind = reconfirm_tlv; octets = octets rr.owner ++ to_be_bytes w16 rr.kind ++ to_be_bytes w16 rr.class ++ rr.rdata } in
    both (answer_octets 0 (dso_flags false 0)) (tlv_octets t) (header 0 (dso_flags false 0)) (tlv t data')

keeping : (id : ℕ) → AreOctets (keepalive_message id)
keeping id =
    both (answer_octets id (dso_flags false 0)) (keepalive_octets default_timers.inactivity default_timers.keepalive) (header id (dso_flags false 0))
    (tlv (record { kind = keepalive_tlv; octets = to_be_bytes w32 default_timers.inactivity ++ to_be_bytes w32 default_timers.keepalive }) (both (to_be_bytes w32 default_timers.inactivity) (to_be_bytes w32 default_timers.keepalive) (four_octets default_timers.inactivity) (four_octets default_timers.keepalive)))

-- ---- a connection, and a client

abbrev pub HasOctets : Option Connection → Type 0
HasOctets None = Unit {0}
HasOctets (Some c) = AreOctets c.output

abbrev Says : Client → Type 0
Says p = HasOctets p.connection

abbrev Keeps : (Connection → Connection) → Type 0
Keeps f = (c : Connection) → AreOctets c.output → AreOctets (f c).output

within : (f : Connection → Connection) → Keeps f → (o : Option Connection) → HasOctets o → HasOctets (option_map f o)
within f keeps None h = tt
within f keeps (Some c) h = keeps c h

in-says : (f : Connection → Connection) → Keeps f → (p : Client) → Says p → Says (in_connection f p)
in-says f keeps p h = within f keeps p.connection h

written : (is_keepalive : Bool) (t : ℕ) (message : List ℕ) → AreOctets message → Keeps (writes is_keepalive t message)
written is_keepalive t message below c h = both c.output (frame message) h (framed message below)

-- what an open connection has to say
opened : (p : Client) (c : Connection) → open_connection p ≡ Some c → Says p → AreOctets c.output
opened p c e h = by p.connection h e
  where
    same : (a b : Connection) → Some a ≡ Some b → a ≡ b
    same a b e = cc

    by : (o : Option Connection) → HasOctets o → elim o as (λ _. Option Connection) [ None ↦ None | Some d ↦ cond (is_some d.closed) None (Some d) ] ≡ Some c → AreOctets c.output
    by None h e = absurd cc
    by (Some d) h e = by_closed (is_some d.closed) e
      where
        by_closed : (b : Bool) → cond {A = Option Connection} b None (Some d) ≡ Some c → AreOctets c.output
        by_closed true e = absurd cc
        by_closed false e = subst (λ (x : Connection). AreOctets x.output) (same d c e) h

-- by the open connection
by-open : (p without : Client) (with_it : Connection → Client) → Says without → ((c : Connection) → AreOctets c.output → Says (with_it c)) → Says p → Says (elim (open_connection p) as (λ _. Client) [ None ↦ without | Some c ↦ with_it c ])
by-open p without with_it none some h = by (open_connection p) refl
  where
    by : (o : Option Connection) → open_connection p ≡ o → Says (elim o as (λ _. Client) [ None ↦ without | Some c ↦ with_it c ])
    by None e = none
    by (Some c) e = some c (opened p c e h)

says-asks : (p : Client) (q : Question) → HasName q → Says p → Says (asks p q)
says-asks p q name h = by-open p (record p { wishes = p.wishes ++ unasked q ∷ [] }) (λ c. (let id = next_id p.wishes c in record p {
  wishes = p.wishes ++ (record { question = q; wanted = true; standing = unanswered id; notices = [] }) ∷ [];
  connection = Some (writes false p.now (subscribe_message id q) (record c { last_id = id }));
})) h (λ c below. written false p.now (subscribe_message (next_id p.wishes c) q) (subscribing (next_id p.wishes c) q name) (record c { last_id = next_id p.wishes c }) below) h

all-asked : (qs : List Question) (p : Client) → AllByRecursion HasName qs → Says p → Says (fold asks p qs)
all-asked [] p names h = h
all-asked (q ∷ qs) p names h = all-asked qs (asks p q) names.1 (says-asks p q names.0 h)

says-subscribe : (p : Client) (q : Question) → HasName q → Says p → Says (subscribe p q).1
says-subscribe p q name h = by (wish_for p q)
  where
    tested : (t : Bool) (w : Wish) → (let r : Asked × Client = if t then (asked.Already, p) else (asked.New, record p { wishes = without_wish q p.wishes ++ (record w { wanted = true }) ∷ [] }) in Says r.1)
    tested true w = h
    tested false w = h

    counted : (t : Bool) → (let r : Asked × Client = if t then (asked.Many, p) else (asked.New, asks p q) in Says r.1)
    counted true = h
    counted false = says-asks p q name h

    by : (o : Option Wish) → (let r : Asked × Client = elim o [
      | Some wish ↦ if wish.wanted then (asked.Already, p) else (asked.New, record p { wishes = without_wish q p.wishes ++ (record wish { wanted = true }) ∷ [] })
      | None ↦ if nat_le max_questions (length p.wishes) then (asked.Many, p) else (asked.New, asks p q)
    ] in Says r.1)
    by None = counted (nat_le max_questions (length p.wishes))
    by (Some w) = tested w.wanted w

says-drops : (w : Wish) (standing : RequestState) (p : Client) → Says p → Says (drops standing w p)
says-drops w (answered id) p h =
    let gone : Client = record p { wishes = without_wish w.question p.wishes } in
    by-open p gone (λ c. with_connection (writes false p.now (unsubscribe_message id) c) gone) h (λ c below. written false p.now (unsubscribe_message id) (unsubscribing id) c below) h
says-drops w (unanswered id) p h = h
says-drops w (refused rcode) p h = h
says-drops w not_asked p h = h

says-unsubscribe : (p : Client) (q : Question) → Says p → Says (unsubscribe p q).1
says-unsubscribe p q h = by (wish_for p q)
  where
    tested : (t : Bool) (w : Wish) → (let r : Bool × Client = if t then (true, drops w.standing w p) else (false, p) in Says r.1)
    tested true w = says-drops w w.standing p h
    tested false w = h

    by : (o : Option Wish) → (let r : Bool × Client = elim o [ None ↦ (false, p) | Some wish ↦ if wish.wanted then (true, drops wish.standing wish p) else (false, p) ] in Says r.1)
    by None = h
    by (Some w) = tested w.wanted w

says-reconfirm : (p : Client) (rr : Rr) → AreOctets (octets rr.owner) → AreOctets rr.rdata → Says p → Says (reconfirm p rr).1
says-reconfirm p rr name rdata h = by (open_connection p) refl
  where
    said : (c : Connection) → AreOctets c.output → (b : Bool) → Says (cond {A = Bool × Client} b (true, with_connection (writes false p.now (reconfirm_message rr) c) p) (false, p)).1
    said c below true = written false p.now (reconfirm_message rr) (doubting rr name rdata) c below
    said c below false = h

    by : (o : Option Connection) → open_connection p ≡ o → Says (elim o as (λ _. Bool × Client) [
      | None ↦ (false, p)
      | Some c ↦ cond {A = Bool × Client} (c.established && nat_le (length (reconfirm_message rr)) max_message) (true, with_connection (writes false p.now (reconfirm_message rr) c) p) (false, p)
    ]).1
    by None e = h
    by (Some c) e = said c (opened p c e h) (c.established && nat_le (length (reconfirm_message rr)) max_message)

says-moment : (p : Client) (t : ℕ) → Says p → Says (moment p t)
says-moment p t h = by-open p (at_later t p) (λ c. does (client_due c.clocks t (list_any (λ w. is_active w.standing) p.wishes) (is_some c.keepalive_out)) c (at_later t p)) h
    (λ c below. due (client_due c.clocks t (list_any (λ w. is_active w.standing) p.wishes) (is_some c.keepalive_out)) c below) h
  where
    due : (d : Due) (c : Connection) → AreOctets c.output → Says (does d c (at_later t p))
    due dues.Nothing c below = h
    due dues.Keepalive c below = (let id = next_id p.wishes c in written true t (keepalive_message id) (keeping id) (record c { last_id = id; keepalive_out = Some id }) below)
    due dues.Idle c below = in-says (λ d. record d { closed = Some closes.Idle }) (λ d i. i) (at_later t p) h

-- ---- a step

says-closes : (reason : CloseReason) (p : Client) → Says p → Says (closes_as reason p).1
says-closes reason p h = in-says (λ c. record c { closed = Some reason }) (λ c i. i) p h

says-establishes : (p : Client) → Says p → Says (establishes p)
says-establishes p h = in-says (λ c. record c { established = true }) (λ c i. i) p h

says-adopts : (message : List ℕ) (p : Client) → Says p → Says (adopts message p).1
says-adopts message p h = by (timers_of message)
  where
    adopted : ℕ × ℕ → Client
    adopted numbers = in_connection (λ c. record c { clocks = record c.clocks { timers = record { inactivity = numbers.0; keepalive = numbers.1 } } }) p

    tested : (t : Bool) (numbers : ℕ × ℕ) → (let r : Step × Client = if t then closes_as (closes.Interval numbers.1) p else (steps.Kept numbers.0 numbers.1, establishes (adopted numbers)) in Says r.1)
    tested true numbers = says-closes (closes.Interval numbers.1) p h
    tested false numbers = says-establishes (adopted numbers) (in-says (λ c. record c { clocks = record c.clocks { timers = record { inactivity = numbers.0; keepalive = numbers.1 } } }) (λ c i. i) p h)

    by : (o : Option (ℕ × ℕ)) → (let r : Step × Client = elim o [
      | None ↦ closes_as (closes.BadData keepalive_tlv) p
      | Some numbers ↦ if nat_lt numbers.1 least_keepalive then closes_as (closes.Interval numbers.1) p
          else (steps.Kept numbers.0 numbers.1, establishes (in_connection (λ c. record c { clocks = record c.clocks { timers = record { inactivity = numbers.0; keepalive = numbers.1 } } }) p))
    ] in Says r.1)
    by None = says-closes (closes.BadData keepalive_tlv) p h
    by (Some numbers) = tested (nat_lt numbers.1 least_keepalive) numbers

says-subscribed : (w : Wish) (id rcode : ℕ) (p : Client) → Says p → Says (subscribe_answered w id rcode p)
says-subscribed w id rcode p h = by (rcode == noerror) w.wanted
  where
    by : (good wanted : Bool) → Says (if good then
        (if wanted then establishes (with_standing w (answered id) p)
        else in_connection (writes false p.now (unsubscribe_message id)) (establishes (forgets w p)))
        else if wanted then with_standing w (refused rcode) p
        else forgets w p)
    by true true = says-establishes (with_standing w (answered id) p) h
    by true false = in-says (writes false p.now (unsubscribe_message id)) (written false p.now (unsubscribe_message id) (unsubscribing id)) (establishes (forgets w p)) (says-establishes (forgets w p) h)
    by false true = h
    by false false = h

says-push : (data' : List ℕ) (p : Client) → Says p → Says (push_taken data' p).1
says-push data' p h = by (notices_of data')
  where
    by : (r : Result (List Notice) PushFault) → (let s : Step × Client = elim r [ Err fault ↦ closes_as (closes.BadData push_tlv) p | Ok notices ↦ (steps.Pushed notices, notices_taken notices p) ] in Says s.1)
    by (Err fault) = says-closes (closes.BadData push_tlv) p h
    by (Ok notices) = h

says-keepalive : (message : List ℕ) (rcode : ℕ) (p : Client) → Says p → Says (keepalive_answered message rcode p).1
says-keepalive message rcode p h = by (not (rcode == noerror))
  where
    by : (t : Bool) → (let r : Step × Client = if t then closes_as (closes.Kept rcode) p else adopts message (in_connection (λ c. record c { keepalive_out = None }) p) in Says r.1)
    by true = says-closes (closes.Kept rcode) p h
    by false = says-adopts message (in_connection (λ c. record c { keepalive_out = None }) p) (in-says (λ c. record c { keepalive_out = None }) (λ c i. i) p h)

says-answer : (message : List ℕ) (id rcode : ℕ) (p : Client) → Says p → Says (answer_taken message id rcode p).1
says-answer message id rcode p h = by (request_of p id)
  where
    tested : (t : Bool) → (let r : Step × Client = if t then keepalive_answered message rcode p else closes_as (closes.Stranger id) p in Says r.1)
    tested true = says-keepalive message rcode p h
    tested false = says-closes (closes.Stranger id) p h

    by : (o : Option Wish) → (let r : Step × Client = elim o [
      | Some wish ↦ (steps.Answered id rcode, subscribe_answered wish id rcode p)
      | None ↦ if is_keepalive_out id p then keepalive_answered message rcode p else closes_as (closes.Stranger id) p
    ] in Says r.1)
    by (Some wish) = says-subscribed wish id rcode p h
    by None = tested (is_keepalive_out id p)

says-reaction : (reaction : ClientReaction) (message : List ℕ) (id rcode : ℕ) (p : Client) → Says p → Says (by_reaction reaction message id rcode p).1
says-reaction Answered message id rcode p h = says-answer message id rcode p h
says-reaction Typeless message id rcode p h = in-says (writes false p.now (answer_to id dsotypeni)) (written false p.now (answer_to id dsotypeni) (header id (dso_flags true dsotypeni))) p h
says-reaction Keepalive message id rcode p h = says-adopts message p h
says-reaction Delay message id rcode p h = says-closes _ p h
says-reaction Push message id rcode p h = says-push (primary_data message) p h
says-reaction (Close reason) message id rcode p h = says-closes reason p h

says-reacted : (message : List ℕ) (c : Connection) (p : Client) → Says p → Says (reacted message c p).1
says-reacted message c p h = by (head_of message)
  where
    by : (o : Option DsoHead) → (let r : Step × Client = elim o [
      | None ↦ closes_as closes.Short p
      | Some head ↦ by_reaction (client_reaction head c.established) message (id_of message) (rcode_of (flags_of message)) (in_connection (λ d. record d { clocks = restarted (counts_as_keepalive p head) p.now d.clocks }) p)
    ] in Says r.1)
    by None = says-closes closes.Short p h
    by (Some head) = says-reaction (client_reaction head c.established) message (id_of message) (rcode_of (flags_of message)) _ (in-says (λ d. record d { clocks = restarted (counts_as_keepalive p head) p.now d.clocks }) (λ d i. i) p h)

says-step_at : (p : Client) (x : Option Connection) → HasOctets x → Says (step (record p { connection = x })).1
says-step_at p None h = tt
says-step_at p (Some c) h = by c.closed (first_message c.input)
  where
    client : Client
    client = record p { connection = Some c }

    by : (y : Option CloseReason) (o : Option (List ℕ × List ℕ)) → (let r : Step × Client = elim y [
      | Some reason ↦ (steps.Closed reason, client)
      | None ↦ elim o [ None ↦ (steps.Waiting, client) | Some found ↦ reacted found.0 c (with_connection (record c { input = found.1 }) client) ]
    ] in Says r.1)
    by (Some reason) o = h
    by None None = h
    by None (Some found) = says-reacted found.0 c (record p { connection = Some (record c { input = found.1 }) }) h

-- ---- what is known of a client between its calls

-- whether the name of a question is octets
abbrev pub named_octets : Question → Bool
named_octets q = list_all (λ o. nat_lt o 256) (octets q.name)

-- what a client has to send are octets, and so are the names of its wishes
pub record SaysOctets (client : Client) : Type 0 where
  pub says : HasOctets client.connection
  pub names : AllByRecursion (λ w. IsTrue (named_octets w.question)) client.wishes

pub all_octets : (os : List ℕ) → list_all (λ o. nat_lt o 256) os ≡ true → AreOctets os
all_octets [] h = All-nil IsOctet
all_octets (o ∷ os) h = let parts = and_true (nat_lt o 256) (list_all (λ o. nat_lt o 256) os) h in All-cons IsOctet o os (ltb-true o 256 parts.0) (all_octets os parts.1)

pub says-new : SaysOctets new_client
says-new = record { says = tt; names = tt }

pub so-subscribe : (client : Client) (q : Question) → IsTrue (named_octets q) → SaysOctets client → SaysOctets (subscribe client q).1
so-subscribe client q name s = record { says = says-subscribe client q (all_octets (octets q.name) name) s.says; names = called_pass named_octets client (subscribes q) name s.names }

pub so-unsubscribe : (client : Client) (q : Question) → SaysOctets client → SaysOctets (unsubscribe client q).1
so-unsubscribe client q s = record { says = says-unsubscribe client q s.says; names = called_pass named_octets client (unsubscribes q) refl s.names }

pub so-reconfirm : (client : Client) (rr : Rr) → AreOctets (octets rr.owner) → AreOctets rr.rdata → SaysOctets client → SaysOctets (reconfirm client rr).1
so-reconfirm client rr name rdata s = record { says = says-reconfirm client rr name rdata s.says; names = called_pass named_octets client (reconfirms rr) refl s.names }

abbrev IsNamed : Wish → Type 0
IsNamed w = IsTrue (named_octets w.question)

pub so-connected : (client : Client) (t : ℕ) → SaysOctets client → SaysOctets (connected t client)
so-connected client t s = record {
  says = all-asked (wanted_questions client) (record { wishes = []; connection = Some (new_connection t); now = t })
      (all_map IsNamed HasName (λ w. w.question) (λ w name. all_octets (octets w.question.name) name) (filter (λ w. w.wanted) client.wishes) (all_filter IsNamed (λ w. w.wanted) client.wishes s.names)) (All-nil IsOctet);
  names = called_pass named_octets client (connects t) refl s.names;
}

pub so-cut : (client : Client) → SaysOctets client → SaysOctets (cut client)
so-cut client s = record { says = tt; names = called_pass named_octets client is_cut refl s.names }

pub so-moment : (client : Client) (t : ℕ) → SaysOctets client → SaysOctets (moment client t)
so-moment client t s = record { says = says-moment client t s.says; names = called_pass named_octets client (comes_to t) refl s.names }

pub so-takes : (client : Client) (piece : List ℕ) → SaysOctets client → SaysOctets (take_octets piece client)
so-takes client piece s = record { says = in-says (λ c. record c { input = c.input ++ take (room_of client) piece }) (λ c i. i) client s.says; names = s.names }

pub so-gives : (client : Client) (n : ℕ) → SaysOctets client → SaysOctets (give_octets n client)
so-gives client n s = record { says = in-says (λ c. record c { output = drop n c.output }) (λ c i. All-drop IsOctet n c.output i) client s.says; names = s.names }

so-step : (client : Client) → SaysOctets client → SaysOctets (step client).1
so-step client s = record { says = says-step_at client client.connection s.says; names = called_pass named_octets client reacts refl s.names }

so-stepped : (turns : ℕ) (client : Client) → SaysOctets client → SaysOctets (stepped turns client)
so-stepped zero client s = s
so-stepped (suc turns) client s = by (so-stepped turns) (step client).0 (step client).1 (so-step client s)
  where
    by : ((later : Client) → SaysOctets later → SaysOctets (stepped turns later)) → (answer : Step) (later : Client) → SaysOctets later → SaysOctets (stepped_by turns client (answer, later))
    by others steps.Waiting later h = s
    by others (steps.Closed reason) later h = h
    by others (steps.Answered id rcode) later h = others later h
    by others (steps.Kept inactivity keepalive) later h = others later h
    by others (steps.Pushed notices) later h = others later h
    by others (steps.Typeless id) later h = others later h

pub so-delivered : (turns : ℕ) (piece : List ℕ) (so_far : Delivered) → SaysOctets so_far.client → SaysOctets (delivered turns piece so_far).client
so-delivered zero piece so_far s = s
so-delivered (suc turns) piece so_far s = by (so-delivered turns) (stops_at piece count)
  where
    count : ℕ
    count = min (length piece) (room_of so_far.client)

    first : SaysOctets (later_of piece so_far count).client
    first = so-stepped enough (take_octets (take count piece) so_far.client) (so-takes so_far.client (take count piece) s)

    by : ((rest : List ℕ) (later : Delivered) → SaysOctets later.client → SaysOctets (delivered turns rest later).client) → (b : Bool) → SaysOctets (delivered_by turns piece so_far count b).client
    by others true = first
    by others false = others (drop count piece) (later_of piece so_far count) first

-- what it has to send
pub output-octets : (client : Client) → SaysOctets client → AreOctets (output_of client)
output-octets client s = by client.connection s.says
  where
    by : (o : Option Connection) → HasOctets o → AreOctets (elim o as (λ _. List ℕ) [ None ↦ [] | Some c ↦ c.output ])
    by None h = All-nil IsOctet
    by (Some c) h = h
