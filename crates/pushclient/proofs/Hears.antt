-- A step by what the message tells is that of the client that is kept, where no wish was told anything.
use Rattle.std.proofs.Common.{◌≡◌, ℕ, Bool, true, false, cond, not, ◌&&◌, ◌==◌, List, [], ◌∷◌, ◌++◌, map, Option, Some, None, Result, Ok, Err, refl, sym, ap, subst, ◌∙◌}
use Rattle.std.specs.Prelude.{if◌then◌else◌, find, filter, nat_lt}
use Rattle.std.specs.Int.{w32, from_be_bytes}
use Rattle.rrset.specs.Rcodes.{noerror, dsotypeni}
use Rattle.rrset.specs.Header.{id_of, flags_of, rcode_of}
use Rattle.rrset.specs.Records.{same_question}
use Rattle.dsotlv.specs.Messages.{first_message, head_of, primary_data}
use Rattle.dsotlv.specs.Answers.{answer_to}
use Rattle.dsotlv.specs.Notices.{notices_of}
use Rattle.dsotlv.specs.TlvKinds.{keepalive_tlv, push_tlv}
use Rattle.dsotlv.specs.declared.message.DsoHead.{DsoHead}
use Rattle.dsotlv.specs.declared.message.Notice.{Notice}
use Rattle.dsotlv.specs.declared.message.PushFault.{PushFault}
use Rattle.dsosession.specs.Reactions.{client_reaction}
use Rattle.dsosession.specs.SessionStates.{SessionState}
use Rattle.dsosession.specs.Timing.{least_keepalive, restarted}
use Rattle.dsosession.specs.declared.session.CloseReason.{CloseReason}
use Rattle.dsosession.specs.declared.session.CloseReason.TheVariants as closes
use Rattle.dsosession.specs.declared.session.ClientReaction.{ClientReaction}
use Rattle.dsosession.specs.declared.session.ClientReaction.TheVariants as clients
use Rattle.mirror.specs.Held.{Held as Sets, applied_to, begun}
use Rattle.pushclient.specs.declared.client.Step.{Step}
use Rattle.pushclient.specs.declared.client.Step.TheVariants as steps
use Rattle.pushclient.specs.declared.told.Answer.{Answer}
use Rattle.pushclient.specs.declared.told.Told.{Told}
use Rattle.pushclient.specs.declared.told.Told.TheVariants as tells
use Rattle.pushclient.specs.Clients.{Client, Connection, Wish, RequestState, answered, refused, in_connection, unsubscribe_message, with_connection, without_wish, writes}
use Rattle.pushclient.specs.Rule.{KeptClient, StandsFor, BothAnswer, stood_wish, without_told}
use Rattle.pushclient.specs.Steps.{adopts, answer_taken, by_reaction, closes_as, counts_as_keepalive, establishes, forgets, is_answered, is_keepalive_out, is_unanswered, keepalive_answered, notices_taken, push_taken, reacted, step, subscribe_answered, timers_of, with_standing}
use Rattle.pushclient.specs.Kept.{kept_step, sets_after}
use Rattle.pushclient.specs.HeardMessages.{IsUntold, adopted_on, answer_heard, closed_by, counts_on, heard, is_keepalive_of, kept_heard, other_answer_on, pushed, told_of, told_on, wish_answered, with_both}
use Rattle.pushclient.proofs.SoundWishes.{map_kept}
use Rattle.pushclient.proofs.Standing.{filter_map}
use Rattle.pushclient.proofs.Stepping.{step_stands}

-- ---- lists

still_through : {A : Type 0} (g f : A → A) → ((x : A) → g (f (g x)) ≡ f (g x)) → (xs : List A) → map g (map f (map g xs)) ≡ map f (map g xs)
still_through g f same [] = refl
still_through g f same (x ∷ xs) = ap (λ y. y ∷ map g (map f (map g xs))) (same x) ∙ ap (λ l. f (g x) ∷ l) (still_through g f same xs)

pub told_twice : (ws : List Wish) → IsUntold (map without_told ws)
told_twice ws = map_kept without_told without_told (λ w. refl) ws

still_left : (p : Wish → Bool) (ws : List Wish) → map without_told (filter p (map without_told ws)) ≡ filter p (map without_told ws)
still_left p ws = ap (map without_told) (filter_map p without_told ws) ∙ told_twice (filter (λ w. p (without_told w)) ws) ∙ sym (filter_map p without_told ws)

module _ (ws : List Wish) (now : ℕ) (sets : Sets) (untold : IsUntold ws) where
  abbrev kept : Option Connection → KeptClient
  kept x = record { wishes = ws; connection = x; now = now; sets = sets }

  abbrev bare : Option Connection → Client
  bare x = record { wishes = ws; connection = x; now = now }

  abbrev one_of : Step → List Wish → Option Connection → Sets → Step × KeptClient
  one_of one l x s = (one, record { wishes = l; connection = x; now = now; sets = s })

  -- what is kept of a plain step
  abbrev after : Step × Client → Step × KeptClient
  after r = (r.0, record { wishes = map without_told r.1.wishes; connection = r.1.connection; now = r.1.now; sets = sets_after r.0 ws sets })

  -- ---- where the connection alone changes

  stays : (one : Step) (x : Option Connection) → sets_after one ws sets ≡ sets → after (one, bare x) ≡ one_of one ws x sets
  stays one x same = ap (λ (l : List Wish). one_of one l x (sets_after one ws sets)) untold ∙ ap (one_of one ws x) same

  closed : (reason : CloseReason) (c : Connection) (y : Option Connection) → after (closes_as reason (bare (Some c))) ≡ with_both (closed_by reason c) (kept y)
  closed reason c y = stays (steps.Closed reason) (Some (record c { closed = Some reason })) refl

  abbrev timed : Client → ℕ × ℕ → Bool → Step × Client
  timed client numbers short = if short then closes_as (closes.Interval numbers.1) client
      else (steps.Kept numbers.0 numbers.1, establishes (in_connection (λ c. record c { clocks = record c.clocks { timers = record { inactivity = numbers.0; keepalive = numbers.1 } } }) client))

  abbrev adopting : Client → Option (ℕ × ℕ) → Step × Client
  adopting client u = elim u [ None ↦ closes_as (closes.BadData keepalive_tlv) client | Some numbers ↦ timed client numbers (nat_lt numbers.1 least_keepalive) ]

  abbrev timed_on : Connection → ℕ × ℕ → Bool → Step × Connection
  timed_on c numbers short = if short then closed_by (closes.Interval numbers.1) c
      else (steps.Kept numbers.0 numbers.1, record c { established = true; clocks = record c.clocks { timers = record { inactivity = numbers.0; keepalive = numbers.1 } } })

  adopts_so : (message : List ℕ) (c : Connection) (y : Option Connection) → after (adopts message (bare (Some c))) ≡ with_both (adopted_on (timers_of message) c) (kept y)
  adopts_so message c y = by (timers_of message)
    where
      tested : (short : Bool) (numbers : ℕ × ℕ) → after (timed (bare (Some c)) numbers short) ≡ with_both (timed_on c numbers short) (kept y)
      tested true numbers = closed (closes.Interval numbers.1) c y
      tested false numbers = stays (steps.Kept numbers.0 numbers.1) (Some (record c { established = true; clocks = record c.clocks { timers = record { inactivity = numbers.0; keepalive = numbers.1 } } })) refl

      by : (u : Option (ℕ × ℕ)) → after (adopting (bare (Some c)) u) ≡ with_both (adopted_on u c) (kept y)
      by None = closed (closes.BadData keepalive_tlv) c y
      by (Some numbers) = tested (nat_lt numbers.1 least_keepalive) numbers

  -- ---- an answer to no wish

  abbrev answer_in : List ℕ → ℕ → ℕ → Answer
  answer_in message id rcode = record { id = id; rcode = rcode; timers = timers_of message }

  abbrev other_taken : List ℕ → ℕ → ℕ → Bool → Bool → Client → Step × Client
  other_taken message id rcode own good client =
      if own then (if not good then closes_as (closes.Kept rcode) client else adopts message (in_connection (λ c. record c { keepalive_out = None }) client))
      else closes_as (closes.Stranger id) client

  abbrev other_on : List ℕ → ℕ → ℕ → Bool → Bool → Connection → Step × Connection
  other_on message id rcode own good c =
      if own then (if good then adopted_on (timers_of message) (record c { keepalive_out = None }) else closed_by (closes.Kept rcode) c)
      else closed_by (closes.Stranger id) c

  other_so : (message : List ℕ) (id rcode : ℕ) (c : Connection) (y : Option Connection) (own good : Bool) → after (other_taken message id rcode own good (bare (Some c))) ≡ with_both (other_on message id rcode own good c) (kept y)
  other_so message id rcode c y true true = adopts_so message (record c { keepalive_out = None }) y
  other_so message id rcode c y true false = closed (closes.Kept rcode) c y
  other_so message id rcode c y false good = closed (closes.Stranger id) c y

  -- ---- the answer to a wish

  module _ (id rcode : ℕ) (w : Wish) (c : Connection) where
    abbrev wish_taken : Bool → Bool → Client → Client
    wish_taken good wanted client = if good then
        (if wanted then establishes (with_standing w (answered id) client)
        else in_connection (writes false client.now (unsubscribe_message id)) (establishes (forgets w client)))
        else if wanted then with_standing w (refused rcode) client
        else forgets w client

    abbrev wish_on : Bool → Bool → Option Connection → KeptClient
    wish_on good wanted y =
        if wanted then record { wishes = map (stood_wish w.question (if good then answered id else refused rcode)) ws; connection = Some (if good then record c { established = true } else c); now = now; sets = if good then begun w.question sets else sets }
        else record { wishes = without_wish w.question ws; connection = Some (if good then writes false now (unsubscribe_message id) (record c { established = true }) else c); now = now; sets = sets }

    abbrev with_sets : Sets → Client → Step × KeptClient
    with_sets s client = (steps.Answered id rcode, record { wishes = map without_told client.wishes; connection = client.connection; now = client.now; sets = s })

    stands : (standing : RequestState) → map without_told (map (stood_wish w.question standing) ws) ≡ map (stood_wish w.question standing) ws
    stands standing = subst (λ (l : List Wish). map without_told (map (stood_wish w.question standing) l) ≡ map (stood_wish w.question standing) l) untold (still_through without_told (stood_wish w.question standing) (λ v. seen v (same_question v.question w.question)) ws)
      where
        seen : (v : Wish) (b : Bool) → without_told (cond b (record v { standing = standing; notices = [] }) (without_told v)) ≡ cond b (record v { standing = standing; notices = [] }) (without_told v)
        seen v true = refl
        seen v false = refl

    leaves : map without_told (without_wish w.question ws) ≡ without_wish w.question ws
    leaves = subst (λ (l : List Wish). map without_told (without_wish w.question l) ≡ without_wish w.question l) untold (still_left (λ v. not (same_question v.question w.question)) ws)

    wish_so : (y : Option Connection) (good wanted : Bool) → with_sets (if good && wanted then begun w.question sets else sets) (wish_taken good wanted (bare (Some c))) ≡ (steps.Answered id rcode, wish_on good wanted y)
    wish_so y true true = ap (λ (l : List Wish). one_of (steps.Answered id rcode) l (Some (record c { established = true })) (begun w.question sets)) (stands (answered id))
    wish_so y true false = ap (λ (l : List Wish). one_of (steps.Answered id rcode) l (Some (writes false now (unsubscribe_message id) (record c { established = true }))) sets) leaves
    wish_so y false true = ap (λ (l : List Wish). one_of (steps.Answered id rcode) l (Some c) sets) (stands (refused rcode))
    wish_so y false false = ap (λ (l : List Wish). one_of (steps.Answered id rcode) l (Some c) sets) leaves

  abbrev sets_for : ℕ → Option Wish → Sets
  sets_for rcode o = elim o [ None ↦ sets | Some wish ↦ if rcode == noerror && wish.wanted then begun wish.question sets else sets ]

  abbrev answering : List ℕ → ℕ → ℕ → Client → Option Wish → Step × Client
  answering message id rcode client o = elim o [ Some wish ↦ (steps.Answered id rcode, subscribe_answered wish id rcode client) | None ↦ if is_keepalive_out id client then keepalive_answered message rcode client else closes_as (closes.Stranger id) client ]

  abbrev answering_on : Answer → Connection → KeptClient → Option Wish → Step × KeptClient
  answering_on answer c k o = elim o [ None ↦ with_both (other_answer_on answer c) k | Some wish ↦ (steps.Answered answer.id answer.rcode, wish_answered wish answer c k) ]

  answer_so : (message : List ℕ) (id rcode : ℕ) (c : Connection) (y : Option Connection) → after (answer_taken message id rcode (bare (Some c))) ≡ answer_heard (answer_in message id rcode) c (kept y)
  answer_so message id rcode c y = by (find (λ w. is_unanswered id w.standing) ws) refl
    where
      by : (o : Option Wish) → find (λ w. is_unanswered id w.standing) ws ≡ o → after (answering message id rcode (bare (Some c)) o) ≡ answering_on (answer_in message id rcode) c (kept y) o
      by None e = other_so message id rcode c y (is_keepalive_of id c) (rcode == noerror)
      by (Some w) e = ap (λ (o : Option Wish). with_sets id rcode w c (sets_for rcode o) (subscribe_answered w id rcode (bare (Some c)))) e
          ∙ wish_so id rcode w c y (rcode == noerror) w.wanted

  -- ---- a PUSH

  taken_so : (notices : List Notice) (c : Connection) → after (steps.Pushed notices, notices_taken notices (bare (Some c))) ≡ one_of (steps.Pushed notices) ws (Some c) (applied_to notices sets)
  taken_so notices c = ap (λ (l : List Wish). one_of (steps.Pushed notices) l (Some c) (applied_to notices sets)) (map_kept without_told (λ (w : Wish). cond (is_answered w.standing) (record w { notices = w.notices ++ notices }) w) (λ w. seen w (is_answered w.standing)) ws ∙ untold)
    where
      seen : (w : Wish) (b : Bool) → without_told (cond b (record w { notices = w.notices ++ notices }) w) ≡ without_told w
      seen w true = refl
      seen w false = refl

  abbrev pushing : Client → Result (List Notice) PushFault → Step × Client
  pushing client u = elim u [ Err fault ↦ closes_as (closes.BadData push_tlv) client | Ok notices ↦ (steps.Pushed notices, notices_taken notices client) ]

  abbrev pushed_as : Result (List Notice) PushFault → Told
  pushed_as u = elim u [ Err fault ↦ tells.Close (closes.BadData push_tlv) | Ok notices ↦ tells.Push notices ]

  push_so : (data' : List ℕ) (c : Connection) (y : Option Connection) → after (push_taken data' (bare (Some c))) ≡ told_on (pushed data') c (kept y)
  push_so data' c y = by (notices_of data')
    where
      by : (u : Result (List Notice) PushFault) → after (pushing (bare (Some c)) u) ≡ told_on (pushed_as u) c (kept y)
      by (Err fault) = closed (closes.BadData push_tlv) c y
      by (Ok notices) = taken_so notices c

  -- ---- one message

  reaction_so : (reaction : ClientReaction) (message : List ℕ) (id rcode : ℕ) (c : Connection) (y : Option Connection) → after (by_reaction reaction message id rcode (bare (Some c))) ≡ told_on (told_of reaction message id rcode) c (kept y)
  reaction_so clients.Answered message id rcode c y = answer_so message id rcode c y
  reaction_so clients.Typeless message id rcode c y = stays (steps.Typeless id) (Some (writes false now (answer_to id dsotypeni) c)) refl
  reaction_so clients.Keepalive message id rcode c y = adopts_so message c y
  reaction_so clients.Delay message id rcode c y = closed (closes.Delay (from_be_bytes w32 (primary_data message)) rcode) c y
  reaction_so clients.Push message id rcode c y = push_so (primary_data message) c y
  reaction_so (clients.Close reason) message id rcode c y = closed reason c y

  -- the connection behind the first message, before the reaction
  abbrev behind : Connection → List ℕ → SessionState → Connection
  behind c rest session = record c { input = rest; clocks = session.clocks; established = session.established }

  abbrev reacting : List ℕ → Connection → Client → Option DsoHead → Step × Client
  reacting message c client o = elim o [
    | None ↦ closes_as closes.Short client
    | Some head ↦ by_reaction (client_reaction head c.established) message (id_of message) (rcode_of (flags_of message))
        (in_connection (λ d. record d { clocks = restarted (counts_as_keepalive client head) client.now d.clocks }) client)
  ]

  abbrev hearing : Connection → List ℕ → Option DsoHead → Told × SessionState
  hearing c message o = elim o [
    | None ↦ (tells.Close closes.Short, record { clocks = c.clocks; established = c.established })
    | Some head ↦ (told_of (client_reaction head c.established) message (id_of message) (rcode_of (flags_of message)), record { clocks = restarted (counts_on c head) now c.clocks; established = c.established })
  ]

  reacted_so : (message rest : List ℕ) (c : Connection) (y : Option Connection) → after (reacted message c (bare (Some (record c { input = rest })))) ≡ (let h : Told × SessionState = heard now c message in told_on h.0 (behind c rest h.1) (kept y))
  reacted_so message rest c y = by (head_of message)
    where
      by : (u : Option DsoHead) → after (reacting message c (bare (Some (record c { input = rest }))) u) ≡ (let h : Told × SessionState = hearing c message u in told_on h.0 (behind c rest h.1) (kept y))
      by None = closed closes.Short (record c { input = rest }) y
      by (Some head) = reaction_so (client_reaction head c.established) message (id_of message) (rcode_of (flags_of message)) (record c { input = rest; clocks = restarted (counts_on c head) now c.clocks }) y

  abbrev stepping : Client → Connection → Option CloseReason → Option (List ℕ × List ℕ) → Step × Client
  stepping client c y u = elim y [
    | Some reason ↦ (steps.Closed reason, client)
    | None ↦ elim u [
      | None ↦ (steps.Waiting, client)
      | Some found ↦ reacted found.0 c (with_connection (record c { input = found.1 }) client)
    ]
  ]

  abbrev stepping_on : Connection → KeptClient → Option CloseReason → (u v : Option (List ℕ × List ℕ)) → Step × KeptClient
  stepping_on c k y u v = elim y [
    | Some reason ↦ (steps.Closed reason, k)
    | None ↦ elim u [
      | None ↦ (steps.Waiting, k)
      | Some found ↦ (let h : Told × SessionState = heard k.now c found.0 in told_on h.0 (behind c (elim v [ None ↦ c.input | Some other ↦ other.1 ]) h.1) k)
    ]
  ]

  pub step_so : (x : Option Connection) → after (step (bare x)) ≡ kept_heard (kept x)
  step_so None = stays steps.Waiting None refl
  step_so (Some c) = by c.closed (first_message c.input)
    where
      by : (y : Option CloseReason) (u : Option (List ℕ × List ℕ)) → after (stepping (bare (Some c)) c y u) ≡ stepping_on c (kept (Some c)) y u u
      by (Some reason) u = stays (steps.Closed reason) (Some c) refl
      by None None = stays steps.Waiting (Some c) refl
      by None (Some found) = reacted_so found.0 found.1 c (Some c)

pub step_heard : (k : KeptClient) → IsUntold k.wishes → kept_step k ≡ kept_heard k
step_heard k untold = step_so k.wishes k.now k.sets untold k.connection

pub heard_stands : (k : KeptClient) (p : Client) → StandsFor k p → BothAnswer (kept_heard k) (step p)
heard_stands k p s = subst (λ (r : Step × KeptClient). BothAnswer r (step p)) (step_heard k (subst IsUntold (sym s.wishes) (told_twice p.wishes))) (step_stands k p s)
