-- Datagrams, one behind the other, and what a link is asked between them.
use Rattle.std.proofs.Common.{◌≡◌, ℕ, ◌+◌, ◌-◌, ◌<◌, ◌≤◌, inl, inr, Bool, true, false, List, [], ◌∷◌, ◌++◌, length, take, refl, sym, ap, ◌∙◌, subst, append_assoc, append-nil, length-append, arith}
use Rattle.std.specs.Prelude.{None, Some, Result, Ok, Err}
use Rattle.std.specs.declared.option.Option.{Option}
use Rattle.std.proofs.lemmas.Grind.{flat_map-append}
use Rattle.push_base.specs.Limits.{max_datagram}
use Rattle.push_base.specs.Causes.{CountsOne}
use Rattle.push_base.specs.Told.{TellsMore}
use Rattle.push_base.specs.Datagrams.{AreOver}
use Rattle.pushserver.specs.declared.given.Heard.{Heard}
use Rattle.pushserver.specs.declared.fault.HubFault.{HubFault}
use Rattle.hubloops.specs.declared.loop_end.LoopEnd.{LoopEnd}
use Rattle.hubloops.specs.declared.loop_end.LoopEnd.TheVariants as ends
use Rattle.hubloops.specs.Calls.{HubCall, Received, Asked}
use Rattle.hubloops.specs.Gates.{GateState, DoesTurn, Answers, GoesOn, WasDone, LeadsTo}
use Rattle.hubloops.specs.Loops.{CountsMore, UsesTurns}
use Rattle.hubloops.specs.Rounds.{Stage, Waiting, ToAsk, ToSend, Over, behind_ask, made_at, made_before, next_stage, stage_behind, datagrams_in, datagrams_handed, asked_in, datagrams_asked}
use Rattle.hubloops.specs.LinkReader.{LinkSeen, IsLinkCall, Sends, HearRun, EndsGone, CallsCause, HearCause, HearsFrom, HearsUntil, GoesOnAt, HearsOn, TurnsOn, pending}
use Rattle.hubloops.proofs.Leading.{tells_none, tells_join, counts_none, counts_one, counts_join, ran_none, ran_one, ran_join, uses_join, still_on, stops_now, WentOn, stops_join}

abbrev Datagrams : Type 0
Datagrams = List (List ℕ)

abbrev Told : Type 0
Told = Option (List (List ℕ))

-- ---- what was sent

sends_none : (a b : Told) → b ≡ a → Sends a b [] []
sends_none a b e = subst (λ (t : Told). Sends a t [] []) (sym e) ([], refl, tells_none a)

sends_join : (a b c : Told) (xs ys : List HubCall) (unsent : Datagrams) → Sends a b xs [] → Sends b c ys unsent → Sends a c (xs ++ ys) unsent
sends_join a b c xs ys unsent (front, e, p) (more, f, q) =
    let first : datagrams_asked xs ≡ front = e ∙ append-nil front in
    let whole : datagrams_asked (xs ++ ys) ≡ (front ++ more) ++ unsent =
    flat_map-append asked_in xs ys ∙ (ap (λ (os : Datagrams). os ++ datagrams_asked ys) first ∙ (ap (λ (os : Datagrams). front ++ os) f ∙ sym (append_assoc front more unsent))) in
    (front ++ more, whole, tells_join a b c front more p q)

-- ---- rounds

stages_join : (from : Option Stage) (stage : Stage) (later : Option Stage) (xs ys : List HubCall) → stage_behind from xs ≡ Some stage → stage_behind (Some stage) ys ≡ later → stage_behind from (xs ++ ys) ≡ later
stages_join from stage later [] ys e f = subst (λ (s : Option Stage). stage_behind s ys ≡ later) (sym e) f
stages_join None stage later (x ∷ xs) ys e f = absurd cc
stages_join (Some from) stage later (x ∷ xs) ys e f = stages_join (next_stage from x) stage later xs ys e f

none_first : (n m : ℕ) → n ≡ m → n ≡ 0 + m
none_first n m e = omega (arith, e)

made_join : (from : Option Stage) (stage : Stage) (xs ys : List HubCall) → stage_behind from xs ≡ Some stage → made_before from (xs ++ ys) ≡ made_before from xs + made_before (Some stage) ys
made_join from stage [] ys e = none_first (made_before from ys) (made_before (Some stage) ys) (ap (λ (s : Option Stage). made_before s ys) e)
made_join None stage (x ∷ xs) ys e = absurd cc
made_join (Some from) stage (x ∷ xs) ys e = omega (arith, made_join (next_stage from x) stage xs ys e)

-- ---- runs

-- calls that gave no datagram, and sent none
run_silent : (link : ℕ) (a b : LinkSeen) (others : ℕ) → b.gate ≡ a.gate → b.given ≡ a.given → b.sent ≡ a.sent → CountsMore others a.calls b.calls → HearRun link a b [] [] [] others
run_silent link a b others e same sent counts = record {
  ran = ran_none (IsLinkCall link) a.gate b.gate e;
  datagrams = subst (λ (o : Told). TellsMore a.given o []) (sym same) (tells_none a.given);
  sends = sends_none a.sent b.sent sent;
  counted = counts;
}

run_still : (link : ℕ) (a b : LinkSeen) → b.gate ≡ a.gate → b.given ≡ a.given → b.sent ≡ a.sent → b.calls ≡ a.calls → HearRun link a b [] [] [] 0
run_still link a b e same sent calls = run_silent link a b 0 e same sent (subst (λ (n : Option ℕ). CountsMore 0 a.calls n) (sym calls) (counts_none a.calls))

run_join : (link : ℕ) (a b c : LinkSeen) (rest unsent : Datagrams) (xs ys : List HubCall) (i j : ℕ) → HearRun link a b [] [] xs i → HearRun link b c rest unsent ys j → HearRun link a c rest unsent (xs ++ ys) (i + j)
run_join link a b c rest unsent xs ys i j p q =
    let P : Datagrams → Type 0 = λ os. TellsMore a.given b.given os in
    let Q : Datagrams → Type 0 = λ os. TellsMore a.given c.given os in
    let same : datagrams_handed xs ++ (datagrams_handed ys ++ rest) ≡ datagrams_handed (xs ++ ys) ++ rest =
    sym (append_assoc (datagrams_handed xs) (datagrams_handed ys) rest) ∙ ap (λ (os : Datagrams). os ++ rest) (sym (flat_map-append datagrams_in xs ys)) in
    record {
      ran = ran_join (IsLinkCall link) xs ys a.gate b.gate c.gate p.ran q.ran;
      datagrams = subst Q same (tells_join a.given b.given c.given (datagrams_handed xs) (datagrams_handed ys ++ rest) (subst P (append-nil (datagrams_handed xs)) p.datagrams) q.datagrams);
      sends = sends_join a.sent b.sent c.sent xs ys unsent p.sends q.sends;
      counted = counts_join i j a.calls b.calls c.calls p.counted q.counted;
    }

-- a datagram that was not handed on
run_kept : (link : ℕ) (a b : LinkSeen) (datagram : List ℕ) → b.gate ≡ a.gate → TellsMore a.given b.given (datagram ∷ []) → b.sent ≡ a.sent → CountsOne a.calls b.calls → HearRun link a b (datagram ∷ []) [] [] 1
run_kept link a b datagram e more sent one = record {
  ran = ran_none (IsLinkCall link) a.gate b.gate e;
  datagrams = more;
  sends = sends_none a.sent b.sent sent;
  counted = counts_one a.calls b.calls one;
}

-- one that was
run_heard : (link : ℕ) (a b : LinkSeen) (gate : Option GateState) (datagram : List ℕ) (answer : Result Heard HubFault)
    → gate ≡ a.gate → TellsMore a.given b.given (datagram ∷ []) → b.sent ≡ a.sent → CountsOne a.calls b.calls → DoesTurn (Received link datagram answer) gate b.gate → HearRun link a b [] [] (Received link datagram answer ∷ []) 1
run_heard link a b gate datagram answer e more sent one turn = record {
  ran = ran_one (IsLinkCall link) (Received link datagram answer) a.gate gate b.gate refl e turn;
  datagrams = more;
  sends = subst (λ (t : Told). Sends a.sent t (Received link datagram answer ∷ []) []) (sym sent) ([], refl, tells_none a.sent);
  counted = counts_one a.calls b.calls one;
}

-- the link was asked
run_asked : (link : ℕ) (a b : LinkSeen) (before after : List ℕ) (answer : Result (Option ℕ) HubFault) (unsent : Datagrams) (others : ℕ)
    → max_datagram ≤ length before → DoesTurn (Asked link before after answer) a.gate b.gate → b.given ≡ a.given → Sends a.sent b.sent (Asked link before after answer ∷ []) unsent → CountsMore others a.calls b.calls
    → HearRun link a b [] unsent (Asked link before after answer ∷ []) others
run_asked link a b before after answer unsent others room turn same sends counts = record {
  ran = ran_one (IsLinkCall link) (Asked link before after answer) a.gate a.gate b.gate (refl, room) refl turn;
  datagrams = subst (λ (o : Told). TellsMore a.given o []) (sym same) (tells_none a.given);
  sends = sends;
  counted = counts;
}

none_more : (a b : Option ℕ) → b ≡ a → CountsMore 0 a b
none_more a b e = subst (λ (n : Option ℕ). CountsMore 0 a n) (sym e) (counts_none a)

-- ---- the ends of a turn that receives

pub done_at_once : (link : ℕ) (failed : Type 0) (a b : LinkSeen) (left : Told) (turns : ℕ) (answer : Bool)
    → b.gate ≡ a.gate → b.given ≡ a.given → b.sent ≡ a.sent → b.calls ≡ a.calls → Answers a.gate answer → answer ≡ true → HearsUntil link failed a b left turns ends.Finished
done_at_once link failed a b left turns answer e same sent calls says is =
    let done : WasDone a.gate = subst (λ (t : Bool). Answers a.gate t) is says in
    (b.gate, [], 0, Waiting, 0, [], [], run_still link a b e same sent calls, refl, refl, omega arith, inl (refl, (inl (stops_now b.gate (subst (λ (s : Option GateState). WasDone s) (sym e) done), refl), refl, (refl, refl))))

pub turns_at_once : (link : ℕ) (failed : Type 0) (a b : LinkSeen) (left : Told) (turns : ℕ)
    → b.gate ≡ a.gate → b.given ≡ a.given → b.sent ≡ a.sent → b.calls ≡ a.calls → turns ≡ 0 → GoesOn b.gate → HearsUntil link failed a b left turns ends.Turns
turns_at_once link failed a b left turns e same sent calls none on = (b.gate, [], 0, Waiting, 0, [], [], run_still link a b e same sent calls, refl, refl, omega arith, inl (refl, (on, (omega arith, omega arith, refl))))

pub ended_by_link : (link : ℕ) (failed : Type 0) (a b : LinkSeen) (left : Told) (turns : ℕ)
    → b.gate ≡ a.gate → b.given ≡ a.given → b.sent ≡ a.sent → CountsOne a.calls b.calls → 0 < turns → AreOver left → GoesOn b.gate → HearsUntil link failed a b left turns ends.Finished
ended_by_link link failed a b left turns e same sent one more over on =
    (b.gate, [], 1, Waiting, 1, [], [], run_silent link a b 1 e same sent (counts_one a.calls b.calls one), refl, refl, omega arith, inl (refl, (inr (on, over, refl), refl, (refl, refl))))

-- the call that tells that the link is gone is no turn
uses_gone : (link : ℕ) (before after : Option GateState) (end : LoopEnd) (used turns : ℕ) → used ≤ turns → EndsGone link before after end → UsesTurns end used turns
uses_gone link before after ends.LinkFault used turns few gone = few
uses_gone link before after ends.NoMemory used turns few gone = few
uses_gone link before after ends.Finished used turns few gone = absurd gone
uses_gone link before after ends.Turns used turns few gone = absurd gone
uses_gone link before after ends.ReadFault used turns few gone = absurd gone
uses_gone link before after ends.WriteFault used turns few gone = absurd gone

pub failed_by_link : (link : ℕ) (failed : Type 0) (a b : LinkSeen) (gate : Option GateState) (left : Told) (turns : ℕ) (end : LoopEnd)
    → gate ≡ a.gate → b.given ≡ a.given → b.sent ≡ a.sent → CountsOne a.calls b.calls → 0 < turns → GoesOn gate → failed → EndsGone link gate b.gate end → HearsUntil link failed a b left turns end
failed_by_link link failed a b gate left turns end e same sent one more on fault gone = (
  gate,
  [],
  1,
  Waiting,
  1,
  [],
  [],
  run_silent link a (record b { gate = gate }) 1 e same sent (counts_one a.calls b.calls one),
  refl,
  refl,
  uses_gone link gate b.gate end 1 turns (omega arith) gone,
  inr (fault, on, refl, (refl, refl), gone),
)

pub quiet_turn : (link : ℕ) (failed : Type 0) (a b : LinkSeen) (left : Told) (turns : ℕ)
    → b.gate ≡ a.gate → b.given ≡ a.given → b.sent ≡ a.sent → CountsOne a.calls b.calls → 0 < turns → GoesOn b.gate → HearsOn false Waiting link failed a b left turns (Ok (true, turns - 1))
quiet_turn link failed a b left turns e same sent one more on = ([], 1, Waiting, run_silent link a b 1 e same sent (counts_one a.calls b.calls one), refl, refl, on, omega arith, omega arith, on)

pub turns_at_datagram : (link : ℕ) (failed : Type 0) (a b : LinkSeen) (left : Told) (datagram : List ℕ) (turns : ℕ)
    → b.gate ≡ a.gate → TellsMore a.given b.given (datagram ∷ []) → b.sent ≡ a.sent → CountsOne a.calls b.calls → turns ≡ 1 → GoesOn b.gate → HearsUntil link failed a b left turns ends.Turns
turns_at_datagram link failed a b left datagram turns e more sent one last on = (b.gate, [], 1, Waiting, 1, datagram ∷ [], [], run_kept link a b datagram e more sent one, refl, refl, omega arith, inl (refl, (on, (omega arith, omega arith, refl))))

pub heard_on : (link : ℕ) (failed : Type 0) (a b : LinkSeen) (gate : Option GateState) (left : Told) (datagram : List ℕ) (heard : Heard) (turns : ℕ)
    → gate ≡ a.gate → TellsMore a.given b.given (datagram ∷ []) → b.sent ≡ a.sent → CountsOne a.calls b.calls → 1 < turns → DoesTurn (Received link datagram (Ok heard)) gate b.gate → GoesOn gate → HearsOn false Waiting link failed a b left turns (Ok (true, turns - 2))
heard_on link failed a b gate left datagram heard turns e more sent one some turn on =
    let call : HubCall = Received link datagram (Ok heard) in
    let still : GoesOn b.gate = still_on call gate b.gate turn on in
    (call ∷ [], 1, ToAsk, run_heard link a b gate datagram (Ok heard) e more sent one turn, refl, refl, still, omega arith, omega arith, still)

pub starved_at_hearing : (link : ℕ) (failed : Type 0) (a b : LinkSeen) (gate : Option GateState) (left : Told) (datagram : List ℕ) (turns : ℕ) (fault : HubFault)
    → gate ≡ a.gate → TellsMore a.given b.given (datagram ∷ []) → b.sent ≡ a.sent → CountsOne a.calls b.calls → 1 < turns → DoesTurn (Received link datagram (Err fault)) gate b.gate → GoesOn gate → HearsUntil link failed a b left turns ends.NoMemory
starved_at_hearing link failed a b gate left datagram turns fault e more sent one some turn on =
    let call : HubCall = Received link datagram (Err fault) in
    (b.gate, call ∷ [], 1, Over, 0, [], [], run_heard link a b gate datagram (Err fault) e more sent one turn, refl, refl, omega arith, inl (refl, (still_on call gate b.gate turn on, refl, refl, (refl, refl))))

-- ---- the ends of a turn that asks

on_at : (from : Stage) (gate : Option GateState) → GoesOnAt true from gate → GoesOn gate
on_at Waiting gate on = on
on_at ToAsk gate on = on
on_at ToSend gate on = on
on_at Over gate on = absurd on

asked_from : (from : Stage) (gate : Option GateState) (link : ℕ) (before after : List ℕ) (answer : Result (Option ℕ) HubFault) → GoesOnAt true from gate → stage_behind (Some from) (Asked link before after answer ∷ []) ≡ Some (behind_ask answer)
asked_from Waiting gate link before after answer on = refl
asked_from ToAsk gate link before after answer on = refl
asked_from ToSend gate link before after answer on = refl
asked_from Over gate link before after answer on = absurd on

none_behind : (stage : Option Stage) → made_before stage [] ≡ 0
none_behind None = refl
none_behind (Some stage) = refl

turned : (n : ℕ) → n + 0 ≡ 0 + n
turned n = omega arith

made_one : (n more : ℕ) → more ≡ 0 → n + more ≡ n
made_one n more none = omega arith

-- all calls of the datagrams before the ask were made before the turn, and one may be behind it
made_from : (from : Stage) (gate : Option GateState) (call : HubCall) (last : ℕ) → GoesOnAt true from gate → pending true from + last ≡ made_before (Some from) (call ∷ []) + last
made_from from gate call last on = ap (λ (n : ℕ). n + last) (sym (made_one (made_at from) (made_before (next_stage from call) []) (none_behind (next_stage from call))))

-- where the turns were used before the link was asked
leaves_at : (from : Stage) (gate : Option GateState) (left : Told) → GoesOnAt true from gate → CallsCause gate left from (made_at from) [] [] 0 ends.Turns
leaves_at Waiting gate left on = (on, (omega arith, omega arith, refl))
leaves_at ToAsk gate left on = (on, (refl, (refl, refl)))
leaves_at ToSend gate left on = (on, (refl, refl))
leaves_at Over gate left on = absurd on

pub turns_before_ask : (link : ℕ) (failed : Type 0) (a : LinkSeen) (left : Told) (turns : ℕ) → turns ≡ 0 → TurnsOn true link failed a a left turns (Err ends.Turns)
turns_before_ask link failed a left turns none from on = (a.gate, [], 0, from, made_at from, [], [], run_still link a a refl refl refl refl, refl, turned (made_at from), omega arith, inl (refl, leaves_at from a.gate left on))

pub asked_none : (link : ℕ) (failed : Type 0) (a b : LinkSeen) (left : Told) (before after : List ℕ) (turns : ℕ)
    → max_datagram ≤ length before → DoesTurn (Asked link before after (Ok None)) a.gate b.gate → b.given ≡ a.given → b.sent ≡ a.sent → b.calls ≡ a.calls → 0 < turns → TurnsOn true link failed a b left turns (Ok (false, turns - 1))
asked_none link failed a b left before after turns room turn same sent calls more from on =
    let call : HubCall = Asked link before after (Ok None) in
    let silent : Sends a.sent b.sent (call ∷ []) [] = subst (λ (t : Told). Sends a.sent t (call ∷ []) []) (sym sent) ([], refl, tells_none a.sent) in
    (call ∷ [], 0, Waiting, run_asked link a b before after (Ok None) [] 0 room turn same silent (none_more a.calls b.calls calls), asked_from from a.gate link before after (Ok None) on, made_from from a.gate call 0 on, tt, omega arith, omega arith, still_on call a.gate b.gate turn (on_at from a.gate on))

pub starved_at_ask : (link : ℕ) (failed : Type 0) (a b : LinkSeen) (left : Told) (before after : List ℕ) (turns : ℕ) (fault : HubFault)
    → max_datagram ≤ length before → DoesTurn (Asked link before after (Err fault)) a.gate b.gate → b.given ≡ a.given → b.sent ≡ a.sent → b.calls ≡ a.calls → 0 < turns → TurnsOn true link failed a b left turns (Err ends.NoMemory)
starved_at_ask link failed a b left before after turns fault room turn same sent calls more from on =
    let call : HubCall = Asked link before after (Err fault) in
    let silent : Sends a.sent b.sent (call ∷ []) [] = subst (λ (t : Told). Sends a.sent t (call ∷ []) []) (sym sent) ([], refl, tells_none a.sent) in
    (b.gate, call ∷ [], 0, Over, 0, [], [], run_asked link a b before after (Err fault) [] 0 room turn same silent (none_more a.calls b.calls calls), asked_from from a.gate link before after (Err fault) on, made_from from a.gate call 0 on, omega arith, inl (refl, (still_on call a.gate b.gate turn (on_at from a.gate on), refl, refl, (refl, refl))))

pub turns_before_send : (link : ℕ) (failed : Type 0) (a b : LinkSeen) (left : Told) (before after : List ℕ) (count turns : ℕ)
    → max_datagram ≤ length before → DoesTurn (Asked link before after (Ok (Some count))) a.gate b.gate → b.given ≡ a.given → b.sent ≡ a.sent → b.calls ≡ a.calls → turns ≡ 1 → TurnsOn true link failed a b left turns (Err ends.Turns)
turns_before_send link failed a b left before after count turns room turn same sent calls last from on =
    let call : HubCall = Asked link before after (Ok (Some count)) in
    let kept : Datagrams = take count after ∷ [] in
    let unsent : Sends a.sent b.sent (call ∷ []) kept = subst (λ (t : Told). Sends a.sent t (call ∷ []) kept) (sym sent) ([], refl, tells_none a.sent) in
    (b.gate, call ∷ [], 0, ToSend, 0, [], kept, run_asked link a b before after (Ok (Some count)) kept 0 room turn same unsent (none_more a.calls b.calls calls), asked_from from a.gate link before after (Ok (Some count)) on, made_from from a.gate call 0 on, omega arith, inl (refl, (still_on call a.gate b.gate turn (on_at from a.gate on), (refl, refl))))

pub sent_on : (link : ℕ) (failed : Type 0) (a b : LinkSeen) (left : Told) (before after : List ℕ) (count turns : ℕ)
    → max_datagram ≤ length before → DoesTurn (Asked link before after (Ok (Some count))) a.gate b.gate → b.given ≡ a.given → TellsMore a.sent b.sent (take count after ∷ []) → CountsOne a.calls b.calls → 1 < turns → TurnsOn true link failed a b left turns (Ok (true, turns - 2))
sent_on link failed a b left before after count turns room turn same more one some from on =
    let call : HubCall = Asked link before after (Ok (Some count)) in
    let still : GoesOn b.gate = still_on call a.gate b.gate turn (on_at from a.gate on) in
    let all : Sends a.sent b.sent (call ∷ []) [] = (take count after ∷ [], refl, more) in
    (call ∷ [], 1, ToSend, run_asked link a b before after (Ok (Some count)) [] 1 room turn same all (counts_one a.calls b.calls one), asked_from from a.gate link before after (Ok (Some count)) on, made_from from a.gate call 1 on, still, omega arith, omega arith, still)

pub failed_by_send : (link : ℕ) (failed : Type 0) (a b : LinkSeen) (gate : Option GateState) (left : Told) (before after : List ℕ) (count turns : ℕ) (end : LoopEnd)
    → max_datagram ≤ length before → DoesTurn (Asked link before after (Ok (Some count))) a.gate gate → b.given ≡ a.given → b.sent ≡ a.sent → CountsOne a.calls b.calls → 1 < turns → failed → EndsGone link gate b.gate end → TurnsOn true link failed a b left turns (Err end)
failed_by_send link failed a b gate left before after count turns end room turn same sent one some fault gone from on =
    let call : HubCall = Asked link before after (Ok (Some count)) in
    let kept : Datagrams = take count after ∷ [] in
    let unsent : Sends a.sent b.sent (call ∷ []) kept = subst (λ (t : Told). Sends a.sent t (call ∷ []) kept) (sym sent) ([], refl, tells_none a.sent) in (
      gate,
      call ∷ [],
      1,
      ToSend,
      1,
      [],
      kept,
      run_asked link a (record b { gate = gate }) before after (Ok (Some count)) kept 1 room turn same unsent (counts_one a.calls b.calls one),
      asked_from from a.gate link before after (Ok (Some count)) on,
      made_from from a.gate call 1 on,
      uses_gone link gate b.gate end 2 turns (omega arith) gone,
      inr (fault, still_on call a.gate gate turn (on_at from a.gate on), refl, (refl, refl), gone),
    )

-- ---- a turn

-- a round begins where a datagram is waited for
pub from_begin : (link : ℕ) (failed : Type 0) (a b : LinkSeen) (left : Told) (turns : ℕ) (result : Result (Bool × ℕ) LoopEnd) → HearsOn false Waiting link failed a b left turns result → TurnsOn false link failed a b left turns result
from_begin link failed a b left turns result h Waiting on = h
from_begin link failed a b left turns result h ToAsk on = absurd on
from_begin link failed a b left turns result h ToSend on = absurd on
from_begin link failed a b left turns result h Over on = absurd on

pub turn_of : (asks turn : Bool) (link : ℕ) (failed : Type 0) (a b : LinkSeen) (left : Told) (turns : ℕ) (result : Result (Bool × ℕ) LoopEnd) → asks ≡ turn → TurnsOn turn link failed a b left turns result → TurnsOn asks link failed a b left turns result
turn_of asks turn link failed a b left turns result is h = subst (λ (t : Bool). TurnsOn t link failed a b left turns result) (sym is) h

-- ---- the loop

abbrev pub HeardSoFar : ℕ → LinkSeen → LinkSeen → Bool → ℕ → ℕ → Type 0
HeardSoFar link a b asks left turns = (calls : List HubCall) × (others : ℕ) × (stage : Stage)
    × HearRun link a b [] [] calls others × (stage_behind (Some Waiting) calls ≡ Some stage) × (others ≡ made_before (Some Waiting) calls + pending asks stage) × GoesOnAt asks stage b.gate
    × (left + (length calls + others) ≡ turns) × WentOn b.gate (length calls + others)

pub heard_begun : (link : ℕ) (a : LinkSeen) (turns : ℕ) → HeardSoFar link a a false turns turns
heard_begun link a turns = ([], 0, Waiting, run_still link a a refl refl refl refl, refl, refl, tt, omega arith, inl refl)

pub heard_more : (link : ℕ) (failed : Type 0) (a b c : LinkSeen) (rest : Told) (asks : Bool) (left : ℕ) (next : Bool × ℕ) (turns : ℕ)
    → HeardSoFar link a b asks left turns → TurnsOn asks link failed b c rest left (Ok next) → HeardSoFar link a c next.0 next.1 turns
heard_more link failed a b c rest asks left next turns (xs, i, stage, p, at, made, on, e, _) step = joined (step stage on)
  where
    joined : HearsOn asks stage link failed b c rest left (Ok next) → HeardSoFar link a c next.0 next.1 turns
    joined (ys, j, later, q, behind, more, goes, f, _, still) =
        (xs ++ ys, i + j, later, run_join link a b c [] [] xs ys i j p q, stages_join (Some Waiting) stage (Some later) xs ys at behind, omega (arith, made_join (Some Waiting) stage xs ys at, made, more), goes, omega (arith, length-append xs ys, e, f), inr still)

calls_join : (gate : Option GateState) (rest : Told) (before : Option GateState) (ys : List HubCall) (stage : Stage) (last : ℕ) (kept unsent : Datagrams) (used more all : ℕ) (end : LoopEnd)
    → all ≡ used + more → LeadsTo ys before gate → WentOn before used → CallsCause gate rest stage last kept unsent more end → CallsCause gate rest stage last kept unsent all end
calls_join gate rest before ys stage last kept unsent used more all ends.Finished e leads on (inl (stop, still), begins, none) = (inl (stops_join ys before gate used more all e leads on stop, still), begins, none)
calls_join gate rest before ys stage last kept unsent used more all ends.Finished e leads on (inr over, begins, none) = (inr over, begins, none)
calls_join gate rest before ys stage last kept unsent used more all ends.Turns e leads on p = p
calls_join gate rest before ys stage last kept unsent used more all ends.NoMemory e leads on p = p
calls_join gate rest before ys stage last kept unsent used more all ends.LinkFault e leads on p = absurd p
calls_join gate rest before ys stage last kept unsent used more all ends.ReadFault e leads on p = absurd p
calls_join gate rest before ys stage last kept unsent used more all ends.WriteFault e leads on p = absurd p

cause_join : (link : ℕ) (failed ever : Type 0) → (failed → ever) → (gate after : Option GateState) (rest : Told) (before : Option GateState) (ys : List HubCall) (stage : Stage) (last : ℕ) (kept unsent : Datagrams) (used more all : ℕ) (end : LoopEnd)
    → all ≡ used + more → LeadsTo ys before gate → WentOn before used → HearCause link failed gate after rest stage last kept unsent more end → HearCause link ever gate after rest stage last kept unsent all end
cause_join link failed ever still gate after rest before ys stage last kept unsent used more all end e leads on (inl (same, cause)) = inl (same, calls_join gate rest before ys stage last kept unsent used more all end e leads on cause)
cause_join link failed ever still gate after rest before ys stage last kept unsent used more all end e leads on (inr (fault, goes, one, breaks, gone)) = inr (still fault, goes, one, breaks, gone)

-- datagrams that failed in the last turn did so in the loop
pub heard_ended : (link : ℕ) (failed ever : Type 0) → (failed → ever) → (a b c : LinkSeen) (rest : Told) (asks : Bool) (left turns : ℕ) (end : LoopEnd)
    → HeardSoFar link a b asks left turns → TurnsOn asks link failed b c rest left (Err end) → HearsUntil link ever a c rest turns end
heard_ended link failed ever still a b c rest asks left turns end (xs, i, stage, p, at, made, on, e, went) step = joined (step stage on)
  where
    joined : HearsFrom asks stage link failed b c rest left end → HearsUntil link ever a c rest turns end
    joined (gate, ys, j, later, last, kept, unsent, q, behind, more, used, cause) = (
      gate,
      xs ++ ys,
      i + j,
      later,
      last,
      kept,
      unsent,
      run_join link a b (record c { gate = gate }) kept unsent xs ys i j p q,
      stages_join (Some Waiting) stage (Some later) xs ys at behind,
      omega (arith, made_join (Some Waiting) stage xs ys at, made, more),
      uses_join end xs ys i j left turns e used,
      cause_join link failed ever still gate c.gate rest b.gate ys later last kept unsent (length xs + i) (length ys + j) (length (xs ++ ys) + (i + j)) end (omega (arith, length-append xs ys)) q.ran.leads went cause,
    )
