-- A step leaves a sound client, whatever octets came; and so do all calls.
use Rattle.std.proofs.Common.{◌≡◌, ℕ, ◌+◌, ◌≤◌, length, Bool, true, false, cond, not, ◌==◌, List, [], ◌∷◌, ◌++◌, map, Option, Some, None, refl, sym, ap, subst, ◌∙◌, arith}
use Rattle.std.specs.Prelude.{drop, slice_range, Result, Ok, Err, if◌then◌else◌, fold, option_map, nat_lt}
use Rattle.std.specs.List.{IsDistinct}
use Rattle.std.proofs.lemmas.Bool.{eqb-true}
use Rattle.std.proofs.lemmas.List.{length-map, length-drop}
use Rattle.rrset.specs.Rcodes.{noerror, dsotypeni}
use Rattle.rrset.specs.Header.{two_octets, id_of, flags_of, rcode_of}
use Rattle.rrset.specs.Records.{same_question}
use Rattle.dsotlv.specs.Messages.{first_message, head_of, primary_data}
use Rattle.dsotlv.specs.Answers.{answer_to}
use Rattle.dsotlv.specs.Notices.{notices_of}
use Rattle.dsotlv.specs.declared.message.DsoHead.{DsoHead}
use Rattle.dsotlv.specs.declared.message.Notice.{Notice}
use Rattle.dsotlv.specs.declared.message.PushFault.{PushFault}
use Rattle.dsotlv.specs.TlvKinds.{keepalive_tlv, push_tlv}
use Rattle.dsosession.specs.Reactions.{client_reaction}
use Rattle.dsosession.specs.Timing.{least_keepalive, restarted}
use Rattle.dsosession.specs.declared.session.CloseReason.{CloseReason}
use Rattle.dsosession.specs.declared.session.CloseReason.TheVariants as closes
use Rattle.dsosession.specs.declared.session.ClientReaction.{ClientReaction}
use Rattle.dsosession.specs.declared.session.ClientReaction.TheVariants.{Answered, Typeless, Keepalive, Delay, Push, Close}
use Rattle.pushclient.specs.declared.client.Step.{Step}
use Rattle.pushclient.specs.declared.client.Step.TheVariants as steps
use Rattle.pushclient.specs.Clients.{Client, Connection, Wish, RequestState, not_asked, unanswered, refused, answered, id_in_use, ids_in_use, writes, with_connection, in_connection, unsubscribe_message, new_client}
use Rattle.pushclient.specs.Steps.{closes_as, establishes, is_unanswered, is_answered, request_of, with_standing, forgets, subscribe_answered, timers_of, adopts, keepalive_answered, is_keepalive_out, answer_taken, notices_taken, push_taken, by_reaction, counts_as_keepalive, reacted, step}
use Rattle.pushclient.specs.SoundClients.{IsSound, IsSoundOn, StandsSoundly, IsAsked, IsUnasked, IsRightlyDropped, is_waiting, question_of, count_of, Call, connects, is_cut, subscribes, unsubscribes, reconfirms, takes, gives, comes_to, reacts, called, CallsStaySound, ClientsAreSound}
use Rattle.pushclient.proofs.FreeIds.{fewer}
use Rattle.pushclient.proofs.SoundWishes.{Apart, apart, found_own, some_is, find_holds, all_map, all_as, all_at, map_kept, own_use, used_map, in_use_counts, ids_fewer}
use Rattle.pushclient.proofs.SoundCalls.{new_sound, moved_sound, IsKeptBy, connection_sound, closed_sound, taken_sound, given_sound, reconfirm_sound, moment_sound, left_sound, replaced_sound, replaced_on, no_wait, subscribe_sound, unsubscribe_sound, connected_sound, cut_sound}

-- ---- what changes the connection alone

written_on : (is_keepalive : Bool) (now : ℕ) (message : List ℕ) → IsKeptBy (writes is_keepalive now message)
written_on is_keepalive now message ws c s = record { last = s.last; ids = s.ids; asked = s.asked; begun = s.begun; input = s.input }

established_sound : (p : Client) → IsSound p → IsSound (establishes p)
established_sound = connection_sound (λ c. record c { established = true }) (λ ws c s. record { last = s.last; ids = s.ids; asked = s.asked; begun = all_as (λ w. is_answered w.standing ≡ true → c.established ≡ true) (λ w. is_answered w.standing ≡ true → true ≡ true) (λ w f a. refl) ws s.begun; input = s.input })

timed_sound : (t i : ℕ) (p : Client) → IsSound p → IsSound (in_connection (λ c. record c { clocks = record c.clocks { timers = record { inactivity = t; keepalive = i } } }) p)
timed_sound t i = connection_sound (λ c. record c { clocks = record c.clocks { timers = record { inactivity = t; keepalive = i } } }) (λ ws c s. record { last = s.last; ids = s.ids; asked = s.asked; begun = s.begun; input = s.input })

restarted_sound : (is_keepalive : Bool) (now : ℕ) (p : Client) → IsSound p → IsSound (in_connection (λ c. record c { clocks = restarted is_keepalive now c.clocks }) p)
restarted_sound is_keepalive now = connection_sound (λ c. record c { clocks = restarted is_keepalive now c.clocks }) (λ ws c s. record { last = s.last; ids = s.ids; asked = s.asked; begun = s.begun; input = s.input })

-- the Keepalive is answered
free_sound : (p : Client) → IsSound p → IsSound (in_connection (λ c. record c { keepalive_out = None }) p)
free_sound = connection_sound (λ c. record c { keepalive_out = None }) (λ ws c s. record {
  last = s.last;
  ids = fewer (ids_in_use ws c) (ids_in_use ws (record c { keepalive_out = None })) s.ids (λ id. omega (arith, in_use_counts id ws c, in_use_counts id ws (record c { keepalive_out = None })));
  asked = s.asked;
  begun = s.begun;
  input = s.input;
})

module _ (message : List ℕ) (p : Client) (s : IsSound p) where
  abbrev adopting : Option (ℕ × ℕ) → Step × Client
  adopting o = elim o [
    | None ↦ closes_as (closes.BadData keepalive_tlv) p
    | Some numbers ↦ if nat_lt numbers.1 least_keepalive then closes_as (closes.Interval numbers.1) p
        else (steps.Kept numbers.0 numbers.1, establishes (in_connection (λ c. record c { clocks = record c.clocks { timers = record { inactivity = numbers.0; keepalive = numbers.1 } } }) p))
  ]

  adopts_sound : IsSound (adopts message p).1
  adopts_sound = by (timers_of message)
    where
      tested : (t : Bool) (numbers : ℕ × ℕ) → (let r : Step × Client = if t then closes_as (closes.Interval numbers.1) p
          else (steps.Kept numbers.0 numbers.1, establishes (in_connection (λ c. record c { clocks = record c.clocks { timers = record { inactivity = numbers.0; keepalive = numbers.1 } } }) p)) in IsSound r.1)
      tested true numbers = closed_sound (closes.Interval numbers.1) p s
      tested false numbers = established_sound _ (timed_sound numbers.0 numbers.1 p s)

      by : (o : Option (ℕ × ℕ)) → IsSound (adopting o).1
      by None = closed_sound (closes.BadData keepalive_tlv) p s
      by (Some numbers) = tested (nat_lt numbers.1 least_keepalive) numbers

keepalive_sound : (message : List ℕ) (rcode : ℕ) (p : Client) → IsSound p → IsSound (keepalive_answered message rcode p).1
keepalive_sound message rcode p s = by (not (rcode == noerror))
  where
    by : (t : Bool) → (let r : Step × Client = if t then closes_as (closes.Kept rcode) p else adopts message (in_connection (λ c. record c { keepalive_out = None }) p) in IsSound r.1)
    by true = closed_sound (closes.Kept rcode) p s
    by false = adopts_sound message (in_connection (λ c. record c { keepalive_out = None }) p) (free_sound p s)

-- ---- the answer to a SUBSCRIBE

waits_with : (id : ℕ) (standing : RequestState) → is_unanswered id standing ≡ true → standing ≡ unanswered id
waits_with id not_asked e = absurd cc
waits_with id (unanswered other) e = ap unanswered (sym (eqb-true id other e))
waits_with id (refused rcode) e = absurd cc
waits_with id (answered other) e = absurd cc

module _ (p : Client) (s : IsSound p) (id rcode : ℕ) (w : Wish) (found : request_of p id ≡ Some w) where
  others : Apart w.question w p.wishes
  others = apart w.question w p.wishes s.questions (found_own (λ v. is_unanswered id v.standing) p.wishes w s.questions found)

  waits : w.standing ≡ unanswered id
  waits = waits_with id w.standing (find_holds (λ v. is_unanswered id v.standing) p.wishes w found)

  uses : (i : ℕ) → own_use i w ≡ count_of i (id ∷ [])
  uses i = ap (λ (t : RequestState). count_of i (id_in_use t)) waits

  abbrev stood : RequestState → Wish
  stood standing = record w { standing = standing; notices = [] }

  -- the one wish is changed, and the connection with it
  stood_sound : (standing : RequestState) (x : Option Connection) → w.wanted ≡ true → (StandsSoundly (others.before ++ w ∷ others.behind) p.connection → StandsSoundly (others.before ++ stood standing ∷ others.behind) x)
      → IsSound (record p { wishes = (with_standing w standing p).wishes; connection = x })
  stood_sound standing x wanted keeps = subst (λ (ws : List Wish). IsSound (record p { wishes = ws; connection = x })) (sym (others.changed (λ v. record v { standing = standing; notices = [] })))
      (replaced_sound p others.before w (stood standing) others.behind x others.is refl (λ e. let no : true ≡ false = sym wanted ∙ e in absurd cc) (keeps (subst (λ (ws : List Wish). StandsSoundly ws p.connection) others.is s.stands)) s)

  no_connection : StandsSoundly (others.before ++ w ∷ others.behind) None → ⊥
  no_connection h = no_wait w (all_at IsUnasked others.before w others.behind h) (ap is_waiting waits)

  answered_sound : w.wanted ≡ true → IsSound (establishes (with_standing w (answered id) p))
  answered_sound wanted = stood_sound (answered id) _ wanted (by p.connection)
    where
      by : (x : Option Connection) → StandsSoundly (others.before ++ w ∷ others.behind) x → StandsSoundly (others.before ++ stood (answered id) ∷ others.behind) (option_map (λ (c : Connection). record c { established = true }) x)
      by None h = let no : ⊥ = no_connection h in absurd no
      by (Some c) h = replaced_on others.before w (stood (answered id)) others.behind c true h (λ i. omega (arith, uses i)) refl (λ e. refl) (λ e. refl)

  refused_sound : w.wanted ≡ true → IsSound (with_standing w (refused rcode) p)
  refused_sound wanted = stood_sound (refused rcode) p.connection wanted (by p.connection)
    where
      by : (x : Option Connection) → StandsSoundly (others.before ++ w ∷ others.behind) x → StandsSoundly (others.before ++ stood (refused rcode) ∷ others.behind) x
      by None h = let no : ⊥ = no_connection h in absurd no
      by (Some c) h = replaced_on others.before w (stood (refused rcode)) others.behind c c.established h (λ i. omega arith) refl (λ e. absurd cc) (λ e. e)

  forgotten_sound : IsSound (forgets w p)
  forgotten_sound = left_sound (λ v. not (same_question v.question w.question)) p s

  abbrev answering : Bool → Bool → Client
  answering good wanted = if good then
      (if wanted then establishes (with_standing w (answered id) p)
      else in_connection (writes false p.now (unsubscribe_message id)) (establishes (forgets w p)))
      else if wanted then with_standing w (refused rcode) p
      else forgets w p

  subscribed_sound : IsSound (subscribe_answered w id rcode p)
  subscribed_sound = by (rcode == noerror) w.wanted refl
    where
      by : (good wanted : Bool) → w.wanted ≡ wanted → IsSound (answering good wanted)
      by true true is = answered_sound is
      by true false is = connection_sound (writes false p.now (unsubscribe_message id)) (written_on false p.now (unsubscribe_message id)) (establishes (forgets w p)) (established_sound (forgets w p) forgotten_sound)
      by false true is = refused_sound is
      by false false is = forgotten_sound

module _ (message : List ℕ) (id rcode : ℕ) (p : Client) (s : IsSound p) where
  abbrev unasked_for : Bool → Step × Client
  unasked_for out = if out then keepalive_answered message rcode p else closes_as (closes.Stranger id) p

  abbrev answer_for : Option Wish → Step × Client
  answer_for o = elim o [ Some wish ↦ (steps.Answered id rcode, subscribe_answered wish id rcode p) | None ↦ unasked_for (is_keepalive_out id p) ]

  answer_sound : IsSound (answer_taken message id rcode p).1
  answer_sound = by (request_of p id) refl
    where
      tested : (out : Bool) → IsSound (unasked_for out).1
      tested true = keepalive_sound message rcode p s
      tested false = closed_sound (closes.Stranger id) p s

      by : (o : Option Wish) → request_of p id ≡ o → IsSound (answer_for o).1
      by None e = tested (is_keepalive_out id p)
      by (Some w) e = subscribed_sound p s id rcode w e

-- ---- a PUSH

module _ (notices : List Notice) where
  abbrev told : Wish → Wish
  told w = cond (is_answered w.standing) (record w { notices = w.notices ++ notices }) w

  -- what doesn't look at notices stays
  stays : (P : Wish → Type 0) → ((w : Wish) (l : List Notice) → P w → P (record w { notices = l })) → (w : Wish) → P w → P (told w)
  stays P moves w h = by (is_answered w.standing)
    where
      by : (b : Bool) → P (cond b (record w { notices = w.notices ++ notices }) w)
      by true = moves w (w.notices ++ notices) h
      by false = h

  still_unasked : (w : Wish) → IsUnasked w → IsUnasked (told w)
  still_unasked w is = by (is_answered w.standing) refl
    where
      by : (b : Bool) → is_answered w.standing ≡ b → IsUnasked (cond b (record w { notices = w.notices ++ notices }) w)
      by true e = let none : is_answered w.standing ≡ false = ap (λ (v : Wish). is_answered v.standing) is in absurd cc
      by false e = is

  told_question : (w : Wish) → question_of (told w) ≡ question_of w
  told_question w = by (is_answered w.standing)
    where
      by : (b : Bool) → question_of (cond b (record w { notices = w.notices ++ notices }) w) ≡ w.question
      by true = refl
      by false = refl

  told_use : (id : ℕ) (w : Wish) → own_use id (told w) ≤ own_use id w
  told_use id w = stays (λ v. own_use id v ≤ own_use id w) (λ v l h. h) w (omega arith)

  told_stands : (ws : List Wish) (x : Option Connection) → StandsSoundly ws x → StandsSoundly (map told ws) x
  told_stands ws None h = all_map IsUnasked IsUnasked told still_unasked ws h
  told_stands ws (Some c) h = record {
    last = h.last;
    ids = ids_fewer ws (map told ws) c c h.ids (used_map told told_use ws) refl;
    asked = λ e. all_map IsAsked IsAsked told (stays IsAsked (λ v l a. a)) ws (h.asked e);
    begun = all_map (λ w. is_answered w.standing ≡ true → c.established ≡ true) (λ w. is_answered w.standing ≡ true → c.established ≡ true) told (stays (λ w. is_answered w.standing ≡ true → c.established ≡ true) (λ v l a. a)) ws h.begun;
    input = h.input;
  }

  told_sound : (p : Client) → IsSound p → IsSound (notices_taken notices p)
  told_sound p s = record {
    few = omega (arith, s.few, length-map p.wishes told);
    questions = subst (IsDistinct same_question) (sym (map_kept question_of told told_question p.wishes)) s.questions;
    dropped = all_map IsRightlyDropped IsRightlyDropped told (stays IsRightlyDropped (λ v l a. a)) p.wishes s.dropped;
    stands = told_stands p.wishes p.connection s.stands;
  }

module _ (p : Client) (s : IsSound p) where
  abbrev pushing : Result (List Notice) PushFault → Step × Client
  pushing r = elim r [ Err fault ↦ closes_as (closes.BadData push_tlv) p | Ok notices ↦ (steps.Pushed notices, notices_taken notices p) ]

  push_sound : (data' : List ℕ) → IsSound (push_taken data' p).1
  push_sound data' = by (notices_of data')
    where
      by : (r : Result (List Notice) PushFault) → IsSound (pushing r).1
      by (Err fault) = closed_sound (closes.BadData push_tlv) p s
      by (Ok notices) = told_sound notices p s

  -- ---- one message

  reaction_sound : (reaction : ClientReaction) (message : List ℕ) (id rcode : ℕ) → IsSound (by_reaction reaction message id rcode p).1
  reaction_sound Answered message id rcode = answer_sound message id rcode p s
  reaction_sound Typeless message id rcode = connection_sound (writes false p.now (answer_to id dsotypeni)) (written_on false p.now (answer_to id dsotypeni)) p s
  reaction_sound Keepalive message id rcode = adopts_sound message p s
  reaction_sound Delay message id rcode = closed_sound _ p s
  reaction_sound Push message id rcode = push_sound (primary_data message)
  reaction_sound (Close reason) message id rcode = closed_sound reason p s

reacted_sound : (message : List ℕ) (c : Connection) (p : Client) → IsSound p → IsSound (reacted message c p).1
reacted_sound message c p s = by (head_of message)
  where
    by : (o : Option DsoHead) → (let r : Step × Client = elim o [
      | None ↦ closes_as closes.Short p
      | Some head ↦ by_reaction (client_reaction head c.established) message (id_of message) (rcode_of (flags_of message)) (in_connection (λ d. record d { clocks = restarted (counts_as_keepalive p head) p.now d.clocks }) p)
    ] in IsSound r.1)
    by None = closed_sound closes.Short p s
    by (Some head) = reaction_sound _ (restarted_sound (counts_as_keepalive p head) p.now p s) (client_reaction head c.established) message (id_of message) (rcode_of (flags_of message))

abbrev stepping : Client → Connection → Option CloseReason → Option (List ℕ × List ℕ) → Step × Client
stepping p c y o = elim y [
  | Some reason ↦ (steps.Closed reason, p)
  | None ↦ elim o [ None ↦ (steps.Waiting, p) | Some found ↦ reacted found.0 c (with_connection (record c { input = found.1 }) p) ]
]

-- what is left behind a message is no longer than the whole
left_within : (stream : List ℕ) (found : List ℕ × List ℕ) → first_message stream ≡ Some found → length found.1 ≤ length stream
left_within stream found e = by (nat_lt (length stream) (2 + two_octets stream 0)) e
  where
    by : (t : Bool) → (if t then None else Some (slice_range stream 2 (2 + two_octets stream 0), drop (2 + two_octets stream 0) stream)) ≡ Some found → length found.1 ≤ length stream
    by true is = absurd cc
    by false is =
        let rest : drop (2 + two_octets stream 0) stream ≡ found.1 = ap (λ (f : List ℕ × List ℕ). f.1) (some_is _ found is) in
        omega (arith, length-drop (2 + two_octets stream 0) stream, ap length rest)

step_at : (p : Client) (x : Option Connection) → IsSound (record p { connection = x }) → IsSound (step (record p { connection = x })).1
step_at p None s = s
step_at p (Some c) s = by c.closed (first_message c.input) refl
  where
    h : IsSoundOn p.wishes c
    h = s.stands

    read_sound : (rest : List ℕ) → length rest ≤ length c.input → IsSound (record p { connection = Some (record c { input = rest }) })
    read_sound rest shorter = moved_sound (record p { connection = Some c }) _ p.now s (record { last = h.last; ids = h.ids; asked = h.asked; begun = h.begun; input = omega (arith, h.input, shorter) })

    by : (y : Option CloseReason) (o : Option (List ℕ × List ℕ)) → first_message c.input ≡ o → IsSound (stepping (record p { connection = Some c }) c y o).1
    by (Some reason) o e = s
    by None None e = s
    by None (Some found) e = reacted_sound found.0 c _ (read_sound found.1 (left_within c.input found e))

pub step_sound : (p : Client) → IsSound p → IsSound (step p).1
step_sound p s = step_at p p.connection s

-- ---- any call

pub called_sound : CallsStaySound
called_sound p (connects t) s = connected_sound p s t
called_sound p is_cut s = cut_sound p s
called_sound p (subscribes q) s = subscribe_sound p s q
called_sound p (unsubscribes q) s = unsubscribe_sound p s q
called_sound p (reconfirms rr) s = reconfirm_sound rr p s
called_sound p (takes piece) s = taken_sound piece p s
called_sound p (gives n) s = given_sound n p s
called_sound p (comes_to t) s = moment_sound t p s
called_sound p reacts s = step_sound p s

all_called : (calls : List Call) (p : Client) → IsSound p → IsSound (fold called p calls)
all_called [] p s = s
all_called (call ∷ calls) p s = all_called calls (called p call) (called_sound p call s)

pub clients_sound : ClientsAreSound
clients_sound calls = all_called calls new_client new_sound
