-- A step of the client that is kept is that of the plain one, and the sets follow.
use Rattle.std.proofs.Common.{◌≡◌, ℕ, Bool, true, false, cond, not, ◌&&◌, ◌==◌, List, [], ◌∷◌, ◌++◌, map, Option, Some, None, Result, Ok, Err, refl, sym, ap, subst, ◌∙◌}
use Rattle.std.specs.Prelude.{if◌then◌else◌, find, option_map, nat_lt}
use Rattle.std.specs.Int.{w32, from_be_bytes}
use Rattle.rrset.specs.Rcodes.{noerror, dsotypeni}
use Rattle.rrset.specs.Header.{id_of, flags_of, rcode_of}
use Rattle.rrset.specs.Records.{same_question}
use Rattle.rrset.specs.declared.record.Question.{Question}
use Rattle.dsotlv.specs.Messages.{first_message, head_of, primary_data}
use Rattle.dsotlv.specs.Answers.{answer_to}
use Rattle.dsotlv.specs.Notices.{notices_of}
use Rattle.dsotlv.specs.declared.message.DsoHead.{DsoHead}
use Rattle.dsotlv.specs.declared.message.Notice.{Notice}
use Rattle.dsotlv.specs.declared.message.PushFault.{PushFault}
use Rattle.dsotlv.specs.TlvKinds.{keepalive_tlv, push_tlv}
use Rattle.dsosession.specs.Reactions.{client_reaction}
use Rattle.dsosession.specs.Timing.{least_keepalive, restarted}
use Rattle.dsosession.specs.declared.session.CloseReason.{CloseReason}
use Rattle.dsosession.specs.declared.session.CloseReason.TheVariants as closes
use Rattle.dsosession.specs.declared.session.ClientReaction.{ClientReaction}
use Rattle.dsosession.specs.declared.session.ClientReaction.TheVariants.{Answered, Typeless, Keepalive, Delay, Push, Close}
use Rattle.mirror.specs.Held.{Held as Sets, is_of, begun}
use Rattle.pushclient.specs.declared.client.Step.{Step}
use Rattle.pushclient.specs.declared.client.Step.TheVariants as steps
use Rattle.pushclient.specs.Clients.{Client, Connection, Wish, RequestState, refused, answered, writes, with_connection, in_connection, unsubscribe_message, without_wish}
use Rattle.pushclient.specs.Rule.{KeptClient, StandsFor, BothAnswer, without_told, set_told, is_answered_for, stood_wish}
use Rattle.pushclient.specs.Steps.{closes_as, establishes, is_answered, is_unanswered, with_standing, forgets, subscribe_answered, timers_of, adopts, keepalive_answered, is_keepalive_out, answer_taken, notices_taken, push_taken, by_reaction, counts_as_keepalive, reacted, step}
use Rattle.pushclient.specs.Kept.{sets_after, kept_step}
use Rattle.pushclient.proofs.Standing.{find_map, filter_map}
use Rattle.pushclient.proofs.SoundWishes.{find_holds, found_own, map_kept}
use Rattle.pushclient.proofs.SoundSteps.{step_sound}
use Rattle.pushclient.proofs.AskingAgain.{none_answered_for, left_there}
use Rattle.pushclient.proofs.Answering.{not_answered, stood_others, none_stood, answered_there, begun_others, begun_empty, told_more, sets_told}

-- ---- lists

-- a change that doesn't look at what h leaves out
map_seen : {A B : Type 0} (g : A → B) (f h : A → A) → ((x : A) → g (f (h x)) ≡ g (f x)) → (xs : List A) → map g (map f (map h xs)) ≡ map g (map f xs)
map_seen g f h same [] = refl
map_seen g f h same (x ∷ xs) = ap (λ y. y ∷ map g (map f (map h xs))) (same x) ∙ ap (λ l. g (f x) ∷ l) (map_seen g f h same xs)

left_seen : (q : Question) (ws : List Wish) → map without_told (without_wish q (map without_told ws)) ≡ map without_told (without_wish q ws)
left_seen q ws = ap (map without_told) (filter_map (λ v. not (same_question v.question q)) without_told ws) ∙ map_kept without_told without_told (λ w. refl) (without_wish q ws)

-- what a step of the client that is kept has to do with one of the plain client
record Follows (r : Step × KeptClient) (plain : Step × Client) : Type 0 where
  pub answer : r.0 ≡ plain.0
  pub wishes : r.1.wishes ≡ map without_told plain.1.wishes
  pub connection : r.1.connection ≡ plain.1.connection
  pub now : r.1.now ≡ plain.1.now
  pub sets : (question : Question) → find (is_of question) r.1.sets ≡ option_map set_told (find (is_answered_for question) plain.1.wishes)

module _ (k : KeptClient) (p : Client) (s : StandsFor k p) where
  -- the plain client on any connection, and the same with no notices
  abbrev plain : Option Connection → Client
  plain x = record p { connection = x }

  abbrev bare : Option Connection → Client
  bare x = record { wishes = map without_told p.wishes; connection = x; now = p.now }

  -- what is kept of a plain step
  abbrev kept_of : Sets → Step × Client → Step × KeptClient
  kept_of sets r = (r.0, record { wishes = map without_told r.1.wishes; connection = r.1.connection; now = r.1.now; sets = sets })

  abbrev after : Step × Client → Step × KeptClient
  after r = kept_of (sets_after r.0 (map without_told p.wishes) k.sets) r

  -- ---- where the connection alone changes

  stays : (one : Step) (x : Option Connection) → sets_after one (map without_told p.wishes) k.sets ≡ k.sets → Follows (after (one, bare x)) (one, plain x)
  stays one x same = record {
    answer = refl;
    wishes = map_kept without_told without_told (λ w. refl) p.wishes;
    connection = refl;
    now = refl;
    sets = λ q. ap (find (is_of q)) same ∙ s.sets q;
  }

  closed : (reason : CloseReason) (x : Option Connection) → Follows (after (closes_as reason (bare x))) (closes_as reason (plain x))
  closed reason x = stays (steps.Closed reason) (option_map (λ (c : Connection). record c { closed = Some reason }) x) refl

  abbrev timed : Client → ℕ × ℕ → Bool → Step × Client
  timed client numbers short = if short then closes_as (closes.Interval numbers.1) client
      else (steps.Kept numbers.0 numbers.1, establishes (in_connection (λ c. record c { clocks = record c.clocks { timers = record { inactivity = numbers.0; keepalive = numbers.1 } } }) client))

  abbrev adopting : Client → Option (ℕ × ℕ) → Step × Client
  adopting client u = elim u [ None ↦ closes_as (closes.BadData keepalive_tlv) client | Some numbers ↦ timed client numbers (nat_lt numbers.1 least_keepalive) ]

  adopts_follows : (message : List ℕ) (x : Option Connection) → Follows (after (adopts message (bare x))) (adopts message (plain x))
  adopts_follows message x = by (timers_of message)
    where
      tested : (short : Bool) (numbers : ℕ × ℕ) → Follows (after (timed (bare x) numbers short)) (timed (plain x) numbers short)
      tested true numbers = closed (closes.Interval numbers.1) x
      tested false numbers = stays (steps.Kept numbers.0 numbers.1) (option_map (λ (c : Connection). record c { established = true }) (option_map (λ (c : Connection). record c { clocks = record c.clocks { timers = record { inactivity = numbers.0; keepalive = numbers.1 } } }) x)) refl

      by : (u : Option (ℕ × ℕ)) → Follows (after (adopting (bare x) u)) (adopting (plain x) u)
      by None = closed (closes.BadData keepalive_tlv) x
      by (Some numbers) = tested (nat_lt numbers.1 least_keepalive) numbers

  abbrev granting : List ℕ → ℕ → Client → Bool → Step × Client
  granting message rcode client refuses = if refuses then closes_as (closes.Kept rcode) client else adopts message (in_connection (λ c. record c { keepalive_out = None }) client)

  keepalive_follows : (message : List ℕ) (rcode : ℕ) (x : Option Connection) → Follows (after (keepalive_answered message rcode (bare x))) (keepalive_answered message rcode (plain x))
  keepalive_follows message rcode x = by (not (rcode == noerror))
    where
      by : (refuses : Bool) → Follows (after (granting message rcode (bare x) refuses)) (granting message rcode (plain x) refuses)
      by true = closed (closes.Kept rcode) x
      by false = adopts_follows message (option_map (λ (c : Connection). record c { keepalive_out = None }) x)

  -- ---- where a wish is answered

  module _ (id rcode : ℕ) (w : Wish) (found : find (λ v. is_unanswered id v.standing) p.wishes ≡ Some w) where
    own : find (λ v. same_question v.question w.question) p.wishes ≡ Some w
    own = found_own (λ v. is_unanswered id v.standing) p.wishes w s.sound.questions found

    no_answer : is_answered w.standing ≡ false
    no_answer = not_answered id w.standing (find_holds (λ v. is_unanswered id v.standing) p.wishes w found)

    no_set : (x : Question) → same_question w.question x ≡ true → find (is_of x) k.sets ≡ None
    no_set x same = s.sets x ∙ ap (option_map set_told) (none_answered_for w.question x w p.wishes same s.sound.questions own no_answer)

    stood : (standing : RequestState) (sets : Sets) (x : Option Connection) → ((q : Question) → find (is_of q) sets ≡ option_map set_told (find (is_answered_for q) (map (stood_wish w.question standing) p.wishes)))
        → Follows (kept_of sets (steps.Answered id rcode, with_standing w standing (bare x))) (steps.Answered id rcode, with_standing w standing (plain x))
    stood standing sets x are = record {
      answer = refl;
      wishes = map_seen without_told (stood_wish w.question standing) without_told (λ v. seen v (same_question v.question w.question)) p.wishes;
      connection = refl;
      now = refl;
      sets = are;
    }
      where
        seen : (v : Wish) (b : Bool) → without_told (cond b (record v { standing = standing; notices = [] }) (without_told v)) ≡ without_told (cond b (record v { standing = standing; notices = [] }) v)
        seen v true = refl
        seen v false = refl

    -- a set that begins
    begins : (x : Question) → find (is_of x) (begun w.question k.sets) ≡ option_map set_told (find (is_answered_for x) (map (stood_wish w.question (answered id)) p.wishes))
    begins x = by (same_question w.question x) refl
      where
        by : (b : Bool) → same_question w.question x ≡ b → find (is_of x) (begun w.question k.sets) ≡ option_map set_told (find (is_answered_for x) (map (stood_wish w.question (answered id)) p.wishes))
        by true is = begun_empty w.question x k.sets is (no_set x is) ∙ sym (ap (option_map set_told) (answered_there w.question x id p.wishes w is own))
        by false is = begun_others w.question x k.sets is ∙ s.sets x ∙ sym (ap (option_map set_told) (stood_others w.question x (answered id) p.wishes is))

    -- none begins
    begins_none : (x : Question) → find (is_of x) k.sets ≡ option_map set_told (find (is_answered_for x) (map (stood_wish w.question (refused rcode)) p.wishes))
    begins_none x = by (same_question w.question x) refl
      where
        by : (b : Bool) → same_question w.question x ≡ b → find (is_of x) k.sets ≡ option_map set_told (find (is_answered_for x) (map (stood_wish w.question (refused rcode)) p.wishes))
        by true is = no_set x is ∙ sym (ap (option_map set_told) (none_stood w.question x (refused rcode) p.wishes is refl))
        by false is = s.sets x ∙ sym (ap (option_map set_told) (stood_others w.question x (refused rcode) p.wishes is))

    forgotten : (x : Option Connection) → Follows (kept_of k.sets (steps.Answered id rcode, forgets w (bare x))) (steps.Answered id rcode, forgets w (plain x))
    forgotten x = record {
      answer = refl;
      wishes = left_seen w.question p.wishes;
      connection = refl;
      now = refl;
      sets = λ q. s.sets q ∙ sym (ap (option_map set_told) (left_there k p s w.question w own no_answer q));
    }

    abbrev taken : Client → Bool → Bool → Client
    taken client good wanted = if good then
        (if wanted then establishes (with_standing w (answered id) client)
        else in_connection (writes false client.now (unsubscribe_message id)) (establishes (forgets w client)))
        else if wanted then with_standing w (refused rcode) client
        else forgets w client

    taken_follows : (x : Option Connection) (good wanted : Bool) → w.wanted ≡ wanted
        → Follows (kept_of (if good && wanted then begun w.question k.sets else k.sets) (steps.Answered id rcode, taken (bare x) good wanted)) (steps.Answered id rcode, taken (plain x) good wanted)
    taken_follows x true true is = stood (answered id) (begun w.question k.sets) (option_map (λ (c : Connection). record c { established = true }) x) begins
    taken_follows x true false is = forgotten (option_map (writes false p.now (unsubscribe_message id)) (option_map (λ (c : Connection). record c { established = true }) x))
    taken_follows x false true is = stood (refused rcode) k.sets x begins_none
    taken_follows x false false is = forgotten x

    sets_are : sets_after (steps.Answered id rcode) (map without_told p.wishes) k.sets ≡ (if rcode == noerror && w.wanted then begun w.question k.sets else k.sets)
    sets_are = ap (λ (o : Option Wish). elim o [ None ↦ k.sets | Some wish ↦ if rcode == noerror && wish.wanted then begun wish.question k.sets else k.sets ])
        (find_map (λ v. is_unanswered id v.standing) without_told p.wishes ∙ ap (option_map without_told) found)

    subscribed_follows : (x : Option Connection) → Follows (after (steps.Answered id rcode, subscribe_answered (without_told w) id rcode (bare x))) (steps.Answered id rcode, subscribe_answered w id rcode (plain x))
    subscribed_follows x = subst (λ (sets : Sets). Follows (kept_of sets (steps.Answered id rcode, subscribe_answered (without_told w) id rcode (bare x))) (steps.Answered id rcode, subscribe_answered w id rcode (plain x)))
        (sym sets_are) (taken_follows x (rcode == noerror) w.wanted refl)

  abbrev unasked_for : List ℕ → ℕ → ℕ → Client → Bool → Step × Client
  unasked_for message id rcode client out = if out then keepalive_answered message rcode client else closes_as (closes.Stranger id) client

  abbrev answering : List ℕ → ℕ → ℕ → Client → Option Wish → Step × Client
  answering message id rcode client o = elim o [ Some wish ↦ (steps.Answered id rcode, subscribe_answered wish id rcode client) | None ↦ unasked_for message id rcode client (is_keepalive_out id client) ]

  answer_follows : (message : List ℕ) (id rcode : ℕ) (x : Option Connection) → Follows (after (answer_taken message id rcode (bare x))) (answer_taken message id rcode (plain x))
  answer_follows message id rcode x = subst (λ (o : Option Wish). Follows (after (answering message id rcode (bare x) o)) (answer_taken message id rcode (plain x)))
      (sym (find_map (λ v. is_unanswered id v.standing) without_told p.wishes)) (by (find (λ v. is_unanswered id v.standing) p.wishes) refl)
    where
      tested : (out : Bool) → Follows (after (unasked_for message id rcode (bare x) out)) (unasked_for message id rcode (plain x) out)
      tested true = keepalive_follows message rcode x
      tested false = closed (closes.Stranger id) x

      by : (u : Option Wish) → find (λ v. is_unanswered id v.standing) p.wishes ≡ u → Follows (after (answering message id rcode (bare x) (option_map without_told u))) (answering message id rcode (plain x) u)
      by None e = tested (is_keepalive_out id (plain x))
      by (Some w) e = subscribed_follows id rcode w e x

  -- ---- where a PUSH is taken

  pushed : (notices : List Notice) (x : Option Connection) → Follows (after (steps.Pushed notices, notices_taken notices (bare x))) (steps.Pushed notices, notices_taken notices (plain x))
  pushed notices x = record {
    answer = refl;
    wishes = map_seen without_told (told_more notices) without_told (λ v. seen v (is_answered v.standing)) p.wishes;
    connection = refl;
    now = refl;
    sets = sets_told notices k.sets p.wishes s.sets;
  }
    where
      seen : (v : Wish) (b : Bool) → without_told (cond b (record v { notices = notices }) (without_told v)) ≡ without_told (cond b (record v { notices = v.notices ++ notices }) v)
      seen v true = refl
      seen v false = refl

  abbrev pushing : Client → Result (List Notice) PushFault → Step × Client
  pushing client u = elim u [ Err fault ↦ closes_as (closes.BadData push_tlv) client | Ok notices ↦ (steps.Pushed notices, notices_taken notices client) ]

  push_follows : (data' : List ℕ) (x : Option Connection) → Follows (after (push_taken data' (bare x))) (push_taken data' (plain x))
  push_follows data' x = by (notices_of data')
    where
      by : (u : Result (List Notice) PushFault) → Follows (after (pushing (bare x) u)) (pushing (plain x) u)
      by (Err fault) = closed (closes.BadData push_tlv) x
      by (Ok notices) = pushed notices x

  -- ---- one message

  reaction_follows : (reaction : ClientReaction) (message : List ℕ) (id rcode : ℕ) (x : Option Connection) → Follows (after (by_reaction reaction message id rcode (bare x))) (by_reaction reaction message id rcode (plain x))
  reaction_follows Answered message id rcode x = answer_follows message id rcode x
  reaction_follows Typeless message id rcode x = stays (steps.Typeless id) (option_map (writes false p.now (answer_to id dsotypeni)) x) refl
  reaction_follows Keepalive message id rcode x = adopts_follows message x
  reaction_follows Delay message id rcode x = closed (closes.Delay (from_be_bytes w32 (primary_data message)) rcode) x
  reaction_follows Push message id rcode x = push_follows (primary_data message) x
  reaction_follows (Close reason) message id rcode x = closed reason x

  abbrev reacting : List ℕ → Connection → Client → Option DsoHead → Step × Client
  reacting message c client o = elim o [
    | None ↦ closes_as closes.Short client
    | Some head ↦ by_reaction (client_reaction head c.established) message (id_of message) (rcode_of (flags_of message))
        (in_connection (λ d. record d { clocks = restarted (counts_as_keepalive client head) client.now d.clocks }) client)
  ]

  reacted_follows : (message : List ℕ) (c : Connection) (x : Option Connection) → Follows (after (reacted message c (bare x))) (reacted message c (plain x))
  reacted_follows message c x = by (head_of message)
    where
      by : (u : Option DsoHead) → Follows (after (reacting message c (bare x) u)) (reacting message c (plain x) u)
      by None = closed closes.Short x
      by (Some head) = reaction_follows (client_reaction head c.established) message (id_of message) (rcode_of (flags_of message))
          (option_map (λ (d : Connection). record d { clocks = restarted (counts_as_keepalive (plain x) head) p.now d.clocks }) x)

  abbrev stepping : Client → Connection → Option CloseReason → Option (List ℕ × List ℕ) → Step × Client
  stepping client c y u = elim y [
    | Some reason ↦ (steps.Closed reason, client)
    | None ↦ elim u [
      | None ↦ (steps.Waiting, client)
      | Some found ↦ reacted found.0 c (with_connection (record c { input = found.1 }) client)
    ]
  ]

  step_follows : (x : Option Connection) → Follows (after (step (bare x))) (step (plain x))
  step_follows None = stays steps.Waiting None refl
  step_follows (Some c) = by c.closed (first_message c.input)
    where
      by : (y : Option CloseReason) (u : Option (List ℕ × List ℕ)) → Follows (after (stepping (bare (Some c)) c y u)) (stepping (plain (Some c)) c y u)
      by (Some reason) u = stays (steps.Closed reason) (Some c) refl
      by None None = stays steps.Waiting (Some c) refl
      by None (Some found) = reacted_follows found.0 c (Some (record c { input = found.1 }))

  abbrev stepped : List Wish → Option Connection → ℕ → Step × KeptClient
  stepped ws x t = let r : Step × Client = step (record { wishes = ws; connection = x; now = t }) in kept_of (sets_after r.0 ws k.sets) r

  kept_follows : Follows (kept_step k) (step p)
  kept_follows = subst (λ (ws : List Wish). Follows (stepped ws k.connection k.now) (step p)) (sym s.wishes)
      (subst (λ (x : Option Connection). Follows (stepped (map without_told p.wishes) x k.now) (step p)) (sym s.connection)
      (subst (λ (t : ℕ). Follows (stepped (map without_told p.wishes) p.connection t) (step p)) (sym s.now) (step_follows p.connection)))

  pub step_stands : BothAnswer (kept_step k) (step p)
  step_stands = let f : Follows (kept_step k) (step p) = kept_follows in (
    f.answer,
    record {
      wishes = f.wishes;
      connection = f.connection;
      now = f.now;
      sets = f.sets;
      sound = step_sound p s.sound;
    },
  )
