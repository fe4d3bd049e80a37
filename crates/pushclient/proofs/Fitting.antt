-- A client takes the messages of this project's server that fit, and closes on strangers and on what comes early.
--     meets-the-first, takes-what-fits, only-delay-closes, closes-on-stranger, closes-on-early      the laws
use Rattle.std.proofs.Common.{◌≡◌, ℕ, ◌<◌, ◌^◌, Bool, true, false, cond, not, ◌&&◌, eqb, Option, Some, None, List, [], ◌∷◌, ◌++◌, map, length, Result, Ok, Err, refl, sym, ap, subst, ◌∙◌, arith, append-nil}
use Rattle.std.specs.Prelude.{flat_map, ◌==◌}
use Rattle.std.specs.Int.{w32, to_be_bytes, from_be_bytes}
use Rattle.std.specs.List.{All}
use Rattle.std.proofs.lemmas.Bool.{eqb-true, eq-eqb, le-ltb, lt-leb}
use Rattle.std.proofs.lemmas.List.Elements.{All-nil, All-cons}
use Rattle.std.proofs.lemmas.Nat.{from_be_bytes-to_be_bytes_4}
use Rattle.push_base.specs.Cases.{chosen}
use Rattle.rrset.specs.Header.{is_response, opcode_of, rcode_of, answer_octets}
use Rattle.rrset.specs.Rcodes.{noerror, notauth}
use Rattle.dsotlv.specs.Answers.{refusal_delay, push_message}
use Rattle.dsotlv.specs.Laws.{HasSize}
use Rattle.dsotlv.specs.Messages.{first_message, dso_opcode, dso_flags, tlv_octets, data_of_first}
use Rattle.dsotlv.specs.Notices.{notice_octets}
use Rattle.dsotlv.specs.TlvKinds.{keepalive_tlv, retry_delay_tlv, push_tlv}
use Rattle.dsotlv.specs.declared.message.DsoFault.{DsoFault}
use Rattle.dsotlv.specs.declared.message.Notice.{Notice}
use Rattle.dsotlv.specs.declared.message.Tlv.{Tlv}
use Rattle.dsosession.specs.Reactions.{client_reaction, told_reaction, close}
use Rattle.dsosession.specs.Timing.{least_keepalive, restarted}
use Rattle.dsosession.specs.declared.session.ClientReaction.{ClientReaction}
use Rattle.dsosession.specs.declared.session.ClientReaction.TheVariants as clients
use Rattle.dsosession.specs.declared.session.CloseReason.TheVariants as closes
use Rattle.dsosession.specs.declared.session.Timers.{Timers}
use Rattle.pushclient.specs.declared.client.Step.{Step}
use Rattle.pushclient.specs.declared.client.Step.TheVariants as steps
use Rattle.pushclient.specs.Clients.{Client, Connection, Wish, refused, answered, writes, unsubscribe_message, without_wish, open_connection, closed_as}
use Rattle.pushclient.specs.Rule.{stood_wish}
use Rattle.pushclient.specs.Steps.{step, request_of, is_keepalive_out, by_reaction, answer_taken, keepalive_answered, timers_in, counts_as_keepalive, closes_as, push_taken}
use Rattle.pushclient.specs.ServerMessages.{ServerMessage, accepts, refuses, grants, tells, delays, server_octets}
use Rattle.pushclient.specs.FittingMessages.{HasFirst, IsAwaited, IsStranger, Fits, behind_first, StepIs, Closes, IsTaken, TakesWhatFits, OnlyDelayCloses, ClosesOnStranger, ClosesOnEarly, MeetsTheFirst}
use Rattle.pushclient.proofs.EveryCut.{is-at}
use Rattle.pushclient.proofs.MessageSteps.{step-first}
use Rattle.pushclient.proofs.Reactions.{at, with_octets, adopts_by, answer_by, push_by, reacted_by}
use Rattle.pushclient.proofs.Streams.{first-of-frames}
use Rattle.pushclient.proofs.WrittenHeads.{Written, written_head, dso_text, written}

-- ---- what was written

one_size : (tlv : Tlv) → HasSize tlv → All HasSize (tlv ∷ [])
one_size tlv size = All-cons HasSize tlv [] size (All-nil HasSize)

-- a header alone, and one with one TLV
bare_is : (id flags : ℕ) → answer_octets id flags ≡ dso_text id flags []
bare_is id flags = sym (append-nil (answer_octets id flags))

one_is : (id flags : ℕ) (tlv : Tlv) → answer_octets id flags ++ tlv_octets tlv ≡ dso_text id flags (tlv ∷ [])
one_is id flags tlv = ap (λ (l : List ℕ). answer_octets id flags ++ l) (sym (append-nil (tlv_octets tlv)))

-- ---- a step on a message that was written

module _ (client : Client) (c : Connection) (rest message : List ℕ) (there : open_connection client ≡ Some c) (first : first_message c.input ≡ Some (message, rest)) where
  abbrev ws : List Wish
  ws = client.wishes

  abbrev now : ℕ
  now = client.now

  -- the client behind the message
  abbrev pub listening : Bool → Client
  listening is_keepalive = at ws now (behind_first is_keepalive now rest c)

  pub steps-on : (id flags : ℕ) (tlvs : List Tlv) (reaction : ClientReaction) → Written message id flags tlvs → client_reaction (written_head id flags tlvs) c.established ≡ reaction
      → step client ≡ by_reaction reaction message id (rcode_of flags) (listening (counts_as_keepalive (at ws now c) (written_head id flags tlvs)))
  steps-on id flags tlvs reaction w is =
      let at-it = is-at client c there in
      let head = written_head id flags tlvs in
      ap step at-it.same
      ∙ step-first ws now c message rest at-it.unclosed first
      ∙ ap (reacted_by message c (at ws now (with_octets rest c))) w.head
      ∙ λ i. by_reaction (is i) message (w.id_is i) (rcode_of (w.flags_are i)) (listening (counts_as_keepalive (at ws now c) head))

-- ---- which answer it is

not-out : (c : Connection) (id : ℕ) (client : Client) → (c.keepalive_out ≡ Some id → ⊥) → is_keepalive_out id (at client.wishes client.now c) ≡ false
not-out c id client other = by c.keepalive_out refl
  where
    by_number : (out : ℕ) (same : Bool) → eqb out id ≡ same → c.keepalive_out ≡ Some out → same ≡ false
    by_number out false e is = refl
    by_number out true e is = absurd (other (is ∙ ap (λ (n : ℕ). Some n) (eqb-true out id e)))

    by : (out : Option ℕ) → c.keepalive_out ≡ out → elim out as (λ _. Bool) [ None ↦ false | Some n ↦ n == id ] ≡ false
    by None is = refl
    by (Some out) is = by_number out (eqb out id) refl is

is-out : (c : Connection) (id : ℕ) (client : Client) → c.keepalive_out ≡ Some id → is_keepalive_out id (at client.wishes client.now c) ≡ true
is-out c id client is = ap (λ (o : Option ℕ). elim o as (λ _. Bool) [ None ↦ false | Some n ↦ n == id ]) is ∙ eq-eqb id id refl

-- ---- each kind

module _ (timers : Timers) (client : Client) (c : Connection) (rest : List ℕ) where
  abbrev here : Bool → Client
  here is_keepalive = at client.wishes client.now (behind_first is_keepalive client.now rest c)

  -- an answer with an RCODE, which the client's Keepalive doesn't wait for
  abbrev AnswersAs : ℕ → ℕ → Type 0
  AnswersAs id rcode = (message : List ℕ) × (step client ≡ answer_taken message id rcode (here (is_keepalive_out id (at client.wishes client.now c))))

  abbrev delay_tlv : Tlv
  delay_tlv = record { kind = retry_delay_tlv; octets = to_be_bytes w32 refusal_delay }

  abbrev grant_tlv : Tlv
  grant_tlv = record { kind = keepalive_tlv; octets = to_be_bytes w32 timers.inactivity ++ to_be_bytes w32 timers.keepalive }

  -- the first message is this text
  first-is : (message : ServerMessage) (text : List ℕ) → HasFirst timers message client c rest → server_octets timers message ≡ text → first_message c.input ≡ Some (text, rest)
  first-is message text h is = h.first ∙ ap (λ (m : List ℕ). Some (m, rest)) is

  accepts-step : (id : ℕ) → HasFirst timers (accepts id) client c rest → id < 2 ^ 16 → AnswersAs id noerror
  accepts-step id h small = (
    dso_text id 0xb000 [],
    steps-on client c rest (dso_text id 0xb000 []) h.there (first-is (accepts id) (dso_text id 0xb000 []) h (bare_is id 0xb000)) id 0xb000 [] clients.Answered
        (written id 0xb000 [] small (omega arith) (All-nil HasSize)) refl,
  )

  refuses-step : (id : ℕ) → HasFirst timers (refuses id) client c rest → id < 2 ^ 16 → AnswersAs id notauth
  refuses-step id h small = (
    dso_text id 0xb009 (delay_tlv ∷ []),
    steps-on client c rest (dso_text id 0xb009 (delay_tlv ∷ [])) h.there (first-is (refuses id) (dso_text id 0xb009 (delay_tlv ∷ [])) h (one_is id 0xb009 delay_tlv)) id 0xb009 (delay_tlv ∷ []) clients.Answered
        (written id 0xb009 (delay_tlv ∷ []) small (omega arith) (one_size delay_tlv (omega arith, omega arith))) refl,
  )

  grants-written : (id : ℕ) → id < 2 ^ 16 → Written (dso_text id 0xb000 (grant_tlv ∷ [])) id 0xb000 (grant_tlv ∷ [])
  grants-written id small = written id 0xb000 (grant_tlv ∷ []) small (omega arith) (one_size grant_tlv (omega arith, omega arith))

  grants-step : (id : ℕ) → HasFirst timers (grants id) client c rest → id < 2 ^ 16
      → step client ≡ answer_taken (dso_text id 0xb000 (grant_tlv ∷ [])) id noerror (here (is_keepalive_out id (at client.wishes client.now c)))
  grants-step id h small =
      steps-on client c rest (dso_text id 0xb000 (grant_tlv ∷ [])) h.there (first-is (grants id) (dso_text id 0xb000 (grant_tlv ∷ [])) h (one_is id 0xb000 grant_tlv)) id 0xb000 (grant_tlv ∷ []) clients.Answered
      (grants-written id small) refl

  -- a wish waits for it
  answered-step : (id rcode : ℕ) (wish : Wish) → AnswersAs id rcode → request_of client id ≡ Some wish → (c.keepalive_out ≡ Some id → ⊥) → (message : List ℕ) × (step client ≡ answer_by message id rcode (here false) (Some wish))
  answered-step id rcode wish steps found other =
      (steps.0, steps.1 ∙ ap (λ (b : Bool). answer_taken steps.0 id rcode (here b)) (not-out c id client other) ∙ ap (answer_by steps.0 id rcode (here false)) found)

  stranger-step : (id rcode : ℕ) → AnswersAs id rcode → IsStranger id client c → Closes client c rest (closes.Stranger id)
  stranger-step id rcode steps stranger =
      steps.1 ∙ ap (λ (b : Bool). answer_taken steps.0 id rcode (here b)) (not-out c id client stranger.2) ∙ ap (answer_by steps.0 id rcode (here false)) stranger.1
      ∙ ap (λ (b : Bool). cond {A = Step × Client} b (keepalive_answered steps.0 rcode (here false)) (closes_as (closes.Stranger id) (here false))) (not-out c id client stranger.2)

  accepts-taken : (id : ℕ) → HasFirst timers (accepts id) client c rest → IsAwaited id client c → IsTaken timers (accepts id) client c rest
  accepts-taken id h fits wish found =
      let stepped = answered-step id noerror wish (accepts-step id h fits.0) found fits.3 in
      let established : Connection = record (behind_first false client.now rest c) { established = true } in
      let by : Bool → Client = λ wanted. cond wanted (at (map (stood_wish wish.question (answered id)) client.wishes) client.now established)
      (at (without_wish wish.question client.wishes) client.now (writes false client.now (unsubscribe_message id) established)) in
      (λ wanted. stepped.1 ∙ ap (λ (b : Bool). (steps.Answered id noerror, by b)) wanted, λ dropped. stepped.1 ∙ ap (λ (b : Bool). (steps.Answered id noerror, by b)) dropped)

  refuses-taken : (id : ℕ) → HasFirst timers (refuses id) client c rest → IsAwaited id client c → IsTaken timers (refuses id) client c rest
  refuses-taken id h fits wish found =
      let stepped = answered-step id notauth wish (refuses-step id h fits.0) found fits.3 in
      let by : Bool → Client = λ wanted. cond wanted (at (map (stood_wish wish.question (refused notauth)) client.wishes) client.now (behind_first false client.now rest c))
      (at (without_wish wish.question client.wishes) client.now (behind_first false client.now rest c)) in
      (λ wanted. stepped.1 ∙ ap (λ (b : Bool). (steps.Answered id notauth, by b)) wanted, λ dropped. stepped.1 ∙ ap (λ (b : Bool). (steps.Answered id notauth, by b)) dropped)

  grants-taken : (id : ℕ) → HasFirst timers (grants id) client c rest → Fits timers (grants id) client c → IsTaken timers (grants id) client c rest
  grants-taken id h fits =
      let text = dso_text id 0xb000 (grant_tlv ∷ []) in
      let out = is-out c id client fits.2 in
      let quiet = record (behind_first true client.now rest c) { keepalive_out = None } in
      let numbers : timers_in (grant_tlv ∷ []) ≡ Some (timers.inactivity, timers.keepalive) =
      (λ i. Some (from_be_bytes-to_be_bytes_4 timers.inactivity fits.3.0 i, from_be_bytes-to_be_bytes_4 timers.keepalive fits.3.2 i)) in
      let kept : Client = at client.wishes client.now (record quiet { established = true; clocks = record (restarted true client.now c.clocks) { timers = timers } }) in
      grants-step id h fits.0
      ∙ ap (λ (b : Bool). answer_taken text id noerror (here b)) out
      ∙ ap (answer_by text id noerror (here true)) fits.1
      ∙ ap (λ (b : Bool). cond {A = Step × Client} b (keepalive_answered text noerror (here true)) (closes_as (closes.Stranger id) (here true))) out
      ∙ ap (λ (r : Result (List Tlv) DsoFault). adopts_by (at client.wishes client.now quiet) (elim r as (λ _. Option (ℕ × ℕ)) [ Err fault ↦ None | Ok tlvs ↦ timers_in tlvs ])) (grants-written id fits.0).tlvs_are
      ∙ ap (adopts_by (at client.wishes client.now quiet)) numbers
      ∙ ap (λ (b : Bool). cond {A = Step × Client} b (closes_as (closes.Interval timers.keepalive) (at client.wishes client.now quiet)) (steps.Kept timers.inactivity timers.keepalive, kept)) (le-ltb timers.keepalive least_keepalive fits.3.1)

  -- what is no answer
  abbrev push_tlv_of : List Notice → Tlv
  push_tlv_of notices = record { kind = push_tlv; octets = flat_map notice_octets notices }

  abbrev PushStep : List Notice → ClientReaction → Type 0
  PushStep notices reaction = step client ≡ by_reaction reaction (dso_text 0 0x3000 (push_tlv_of notices ∷ [])) 0 0 (here false)

  push-written : (notices : List Notice) → length (push_message notices) < 2 ^ 16 → Written (dso_text 0 0x3000 (push_tlv_of notices ∷ [])) 0 0x3000 (push_tlv_of notices ∷ [])
  push-written notices small = written 0 0x3000 (push_tlv_of notices ∷ []) (omega arith) (omega arith) (one_size (push_tlv_of notices) (omega arith, omega (arith, small)))

  push-step : (notices : List Notice) (established : Bool) (reaction : ClientReaction) → HasFirst timers (tells notices) client c rest → c.established ≡ established
      → client_reaction (written_head 0 0x3000 (push_tlv_of notices ∷ [])) established ≡ reaction → PushStep notices reaction
  push-step notices established reaction h is e =
      steps-on client c rest (dso_text 0 0x3000 (push_tlv_of notices ∷ [])) h.there (first-is (tells notices) (dso_text 0 0x3000 (push_tlv_of notices ∷ [])) h (one_is 0 0x3000 (push_tlv_of notices))) 0 0x3000 (push_tlv_of notices ∷ []) reaction
      (push-written notices h.small) (ap (client_reaction (written_head 0 0x3000 (push_tlv_of notices ∷ []))) is ∙ e)

  tells-taken : (notices : List Notice) → HasFirst timers (tells notices) client c rest → c.established ≡ true → IsTaken timers (tells notices) client c rest
  tells-taken notices h established =
      push-step notices true clients.Push h established refl
      ∙ ap (λ (r : Result (List Tlv) DsoFault). push_taken (elim r as (λ _. List ℕ) [ Err fault ↦ [] | Ok tlvs ↦ data_of_first tlvs ]) (here false)) (push-written notices h.small).tlvs_are
      ∙ ap (push_by (here false)) h.readable

  tells-early : (notices : List Notice) → HasFirst timers (tells notices) client c rest → c.established ≡ false → Closes client c rest closes.Early
  tells-early notices h early = push-step notices false (clients.Close closes.Early) h early refl

  abbrev stop_tlv : ℕ → Tlv
  stop_tlv delay = record { kind = retry_delay_tlv; octets = to_be_bytes w32 delay }

  abbrev stop_flags : ℕ → ℕ
  stop_flags rcode = dso_flags false rcode

  abbrev stop_text : ℕ → ℕ → List ℕ
  stop_text rcode delay = dso_text 0 (stop_flags rcode) (stop_tlv delay ∷ [])

  stop-written : (rcode delay : ℕ) → rcode < 16 → Written (stop_text rcode delay) 0 (stop_flags rcode) (stop_tlv delay ∷ [])
  stop-written rcode delay low = written 0 (stop_flags rcode) (stop_tlv delay ∷ []) (omega arith) (omega (arith, low)) (one_size (stop_tlv delay) (omega arith, omega arith))

  -- what a client makes of a Retry Delay, by what its flags say
  abbrev stop_by : Bool → ℕ → Bool → ClientReaction
  stop_by established opcode response = chosen ((not (opcode == dso_opcode), close closes.Opcode) ∷ (false, close closes.Counts) ∷ (false, close closes.Tlvs) ∷ (response, clients.Answered) ∷ [])
      (told_reaction (written_head 0 0x3000 (stop_tlv 0 ∷ [])) established retry_delay_tlv 4)

  delays-step : (rcode delay : ℕ) (established : Bool) (reaction : ClientReaction) → HasFirst timers (delays rcode delay) client c rest → c.established ≡ established
      → stop_by established dso_opcode false ≡ reaction → step client ≡ by_reaction reaction (stop_text rcode delay) 0 (rcode_of (stop_flags rcode)) (here false)
  delays-step rcode delay established reaction h is e =
      let opcode : opcode_of (stop_flags rcode) ≡ dso_opcode = omega (arith, h.readable.0) in
      let response : is_response (stop_flags rcode) ≡ false = lt-leb 0x8000 (stop_flags rcode) (omega (arith, h.readable.0)) in
      let chosen-is : client_reaction (written_head 0 (stop_flags rcode) (stop_tlv delay ∷ [])) c.established ≡ reaction =
      (λ i. stop_by (is i) (opcode i) (response i)) ∙ e in
      let other : counts_as_keepalive (at client.wishes client.now c) (written_head 0 (stop_flags rcode) (stop_tlv delay ∷ [])) ≡ false =
      (λ i. cond {A = Bool} (response i) (is_keepalive_out 0 (at client.wishes client.now c)) (not (response i) && (opcode i == dso_opcode) && false)) in
      steps-on client c rest (stop_text rcode delay) h.there (first-is (delays rcode delay) (stop_text rcode delay) h (one_is 0 (stop_flags rcode) (stop_tlv delay))) 0 (stop_flags rcode) (stop_tlv delay ∷ []) reaction
      (stop-written rcode delay h.readable.0) chosen-is
      ∙ ap (λ (b : Bool). by_reaction reaction (stop_text rcode delay) 0 (rcode_of (stop_flags rcode)) (here b)) other

  delays-taken : (rcode delay : ℕ) → HasFirst timers (delays rcode delay) client c rest → c.established ≡ true → IsTaken timers (delays rcode delay) client c rest
  delays-taken rcode delay h established =
      let rcode-is : rcode_of (stop_flags rcode) ≡ rcode = omega (arith, h.readable.0) in
      delays-step rcode delay true clients.Delay h established refl
      ∙ ap (λ (r : Result (List Tlv) DsoFault). closes_as (closes.Delay (from_be_bytes w32 (elim r as (λ _. List ℕ) [ Err fault ↦ [] | Ok tlvs ↦ data_of_first tlvs ])) (rcode_of (stop_flags rcode))) (here false))
      (stop-written rcode delay h.readable.0).tlvs_are
      ∙ (λ i. closes_as (closes.Delay (from_be_bytes-to_be_bytes_4 delay h.readable.1 i) (rcode-is i)) (here false))

  delays-early : (rcode delay : ℕ) → HasFirst timers (delays rcode delay) client c rest → c.established ≡ false → Closes client c rest closes.Early
  delays-early rcode delay h early = delays-step rcode delay false (clients.Close closes.Early) h early refl

-- ---- the laws

pub meets-the-first : MeetsTheFirst
meets-the-first timers message client c whole rest behind others there first e readable small =
    let both = first-of-frames c.input whole rest behind (server_octets timers message) others first e small in
    (record { there = there; first = first ∙ ap (λ (m : List ℕ). Some (m, rest)) both.0; readable = readable; small = small }, both.1)

pub takes-what-fits : TakesWhatFits
takes-what-fits timers (accepts id) client c rest h fits = accepts-taken timers client c rest id h fits
takes-what-fits timers (refuses id) client c rest h fits = refuses-taken timers client c rest id h fits
takes-what-fits timers (grants id) client c rest h fits = grants-taken timers client c rest id h fits
takes-what-fits timers (tells notices) client c rest h fits = tells-taken timers client c rest notices h fits
takes-what-fits timers (delays rcode delay) client c rest h fits = delays-taken timers client c rest rcode delay h fits

-- the connection after a step that is told so
stays_open : (client : Client) (answer : Step) (wishes : List Wish) (later : Connection) → StepIs client answer wishes later → later.closed ≡ None → closed_as (step client).1 ≡ None
stays_open client answer wishes later is unclosed = ap (λ (r : Step × Client). closed_as r.1) is ∙ unclosed

either_way : {P : Type 0} (wanted : Bool) → (wanted ≡ true → P) → (wanted ≡ false → P) → P
either_way true if_wanted if_dropped = if_wanted refl
either_way false if_wanted if_dropped = if_dropped refl

pub only-delay-closes : OnlyDelayCloses
only-delay-closes timers (accepts id) client c rest h fits other =
    let taken = accepts-taken timers client c rest id h fits fits.1 fits.2 in
    let unclosed = (is-at client c h.there).unclosed in
    either_way fits.1.wanted (λ wanted. stays_open client _ _ _ (taken.0 wanted) unclosed) (λ dropped. stays_open client _ _ _ (taken.1 dropped) unclosed)
only-delay-closes timers (refuses id) client c rest h fits other =
    let taken = refuses-taken timers client c rest id h fits fits.1 fits.2 in
    let unclosed = (is-at client c h.there).unclosed in
    either_way fits.1.wanted (λ wanted. stays_open client _ _ _ (taken.0 wanted) unclosed) (λ dropped. stays_open client _ _ _ (taken.1 dropped) unclosed)
only-delay-closes timers (grants id) client c rest h fits other = stays_open client _ _ _ (grants-taken timers client c rest id h fits) (is-at client c h.there).unclosed
only-delay-closes timers (tells notices) client c rest h fits other = stays_open client _ _ _ (tells-taken timers client c rest notices h fits) (is-at client c h.there).unclosed
only-delay-closes timers (delays rcode delay) client c rest h fits other = absurd cc

same_id : (other id : ℕ) → Some other ≡ Some id → other ≡ id
same_id other id e = cc

-- an answer with this very ID
accepts-stranger : (timers : Timers) (id : ℕ) (client : Client) (c : Connection) (rest : List ℕ) → HasFirst timers (accepts id) client c rest → IsStranger id client c → Closes client c rest (closes.Stranger id)
accepts-stranger timers id client c rest h stranger = stranger-step timers client c rest id noerror (accepts-step timers client c rest id h stranger.0) stranger

refuses-stranger : (timers : Timers) (id : ℕ) (client : Client) (c : Connection) (rest : List ℕ) → HasFirst timers (refuses id) client c rest → IsStranger id client c → Closes client c rest (closes.Stranger id)
refuses-stranger timers id client c rest h stranger = stranger-step timers client c rest id notauth (refuses-step timers client c rest id h stranger.0) stranger

grants-stranger : (timers : Timers) (id : ℕ) (client : Client) (c : Connection) (rest : List ℕ) → HasFirst timers (grants id) client c rest → IsStranger id client c → Closes client c rest (closes.Stranger id)
grants-stranger timers id client c rest h stranger = stranger-step timers client c rest id noerror (dso_text id 0xb000 (grant_tlv timers client c rest ∷ []), grants-step timers client c rest id h stranger.0) stranger

pub closes-on-stranger : ClosesOnStranger
closes-on-stranger timers (accepts other) id client c rest h is stranger = subst (λ n. Closes client c rest (closes.Stranger n)) (same_id other id is) (accepts-stranger timers other client c rest h (subst (λ n. IsStranger n client c) (sym (same_id other id is)) stranger))
closes-on-stranger timers (refuses other) id client c rest h is stranger = subst (λ n. Closes client c rest (closes.Stranger n)) (same_id other id is) (refuses-stranger timers other client c rest h (subst (λ n. IsStranger n client c) (sym (same_id other id is)) stranger))
closes-on-stranger timers (grants other) id client c rest h is stranger = subst (λ n. Closes client c rest (closes.Stranger n)) (same_id other id is) (grants-stranger timers other client c rest h (subst (λ n. IsStranger n client c) (sym (same_id other id is)) stranger))
closes-on-stranger timers (tells notices) id client c rest h is stranger = absurd cc
closes-on-stranger timers (delays rcode delay) id client c rest h is stranger = absurd cc

pub closes-on-early : ClosesOnEarly
closes-on-early timers (accepts id) client c rest h is early = absurd cc
closes-on-early timers (refuses id) client c rest h is early = absurd cc
closes-on-early timers (grants id) client c rest h is early = absurd cc
closes-on-early timers (tells notices) client c rest h is early = tells-early timers client c rest notices h early
closes-on-early timers (delays rcode delay) client c rest h is early = delays-early timers client c rest rcode delay h early
