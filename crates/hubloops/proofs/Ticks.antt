-- Ticks, one behind the other.
use Rattle.std.proofs.Common.{◌≡◌, ℕ, ◌+◌, ◌-◌, ◌<◌, ◌≤◌, ◌⊎◌, inl, inr, Bool, true, List, [], ◌∷◌, ◌++◌, length, map, refl, sym, ap, ◌∙◌, subst, append_assoc, append-nil, length-append, arith}
use Rattle.std.specs.Prelude.{None, Some, Ok, Err}
use Rattle.std.specs.declared.option.Option.{Option}
use Rattle.std.specs.List.{AllByRecursion}
use Rattle.std.proofs.lemmas.Grind.{flat_map-append}
use Rattle.std.proofs.lemmas.List.{map-append}
use Rattle.push_base.specs.Causes.{CountsOne}
use Rattle.push_base.specs.Told.{TellsMore}
use Rattle.pushserver.specs.declared.fault.HubFault.{HubFault}
use Rattle.pushserver.specs.declared.fault.HubFault.TheVariants as faults
use Rattle.hubloops.specs.declared.loop_end.LoopEnd.{LoopEnd}
use Rattle.hubloops.specs.declared.loop_end.LoopEnd.TheVariants as ends
use Rattle.hubloops.specs.Calls.{HubCall, Passed}
use Rattle.hubloops.specs.Gates.{GateState, DoesTurn, Answers, GoesOn, WasDone, LeadsTo}
use Rattle.hubloops.specs.Loops.{Observed, CountsMore}
use Rattle.hubloops.specs.Ticker.{timely, IsPass, IsTakenPass, moments_in, moments_passed, TickRun, IsRefusedPass, TickCause, TicksUntil, TicksOn}
use Rattle.hubloops.proofs.Leading.{tells_none, tells_join, counts_none, counts_one, counts_join, ran_none, ran_one, ran_join, uses_join, still_on, stops_now, WentOn, stops_join, all_join, at_one, at_join}

abbrev Told : Type 0
Told = Option (List ℕ)

run_none : (a b : Observed ℕ) → b.gate ≡ a.gate → b.told ≡ a.told → b.calls ≡ a.calls → TickRun a b [] [] 0
run_none a b e told calls = record {
  ran = ran_none IsPass a.gate b.gate e;
  moments = ([], subst (λ (t : Told). TellsMore a.told t []) (sym told) (tells_none a.told), refl);
  counted = subst (λ (n : Option ℕ). CountsMore 0 a.calls n) (sym calls) (counts_none a.calls);
}

run_join : (a b c : Observed ℕ) (rest : List ℕ) (xs ys : List HubCall) (i j : ℕ) → TickRun a b [] xs i → TickRun b c rest ys j → TickRun a c rest (xs ++ ys) (i + j)
run_join a b c rest xs ys i j p q =
    let (t, told, pe) = p.moments in
    let (u, later, qe) = q.moments in
    let same : map timely (t ++ u) ≡ moments_passed (xs ++ ys) ++ rest =
    map-append timely t u ∙ ap (λ (l : List ℕ). l ++ map timely u) (pe ∙ append-nil (moments_passed xs))
    ∙ ap (λ (l : List ℕ). moments_passed xs ++ l) qe ∙ sym (append_assoc (moments_passed xs) (moments_passed ys) rest)
    ∙ ap (λ (l : List ℕ). l ++ rest) (sym (flat_map-append moments_in xs ys)) in
    record {
      ran = ran_join IsPass xs ys a.gate b.gate c.gate p.ran q.ran;
      moments = (t ++ u, tells_join a.told b.told c.told t u told later, same);
      counted = counts_join i j a.calls b.calls c.calls p.counted q.counted;
    }

-- one tick, whose moment was not handed on
run_tick : (a b : Observed ℕ) (moment : ℕ) → b.gate ≡ a.gate → TellsMore a.told b.told (moment ∷ []) → CountsOne a.calls b.calls → TickRun a b (timely moment ∷ []) [] 1
run_tick a b moment e more one = record { ran = ran_none IsPass a.gate b.gate e; moments = (moment ∷ [], more, refl); counted = counts_one a.calls b.calls one }

-- one tick, whose moment was handed on
run_pass : (a b : Observed ℕ) (gate : Option GateState) (moment at : ℕ) (fault : Option HubFault)
    → gate ≡ a.gate → TellsMore a.told b.told (moment ∷ []) → CountsOne a.calls b.calls → at ≡ timely moment → DoesTurn (Passed at fault) gate b.gate → TickRun a b [] (Passed at fault ∷ []) 1
run_pass a b gate moment at fault e more one is turn = record {
  ran = ran_one IsPass (Passed at fault) a.gate gate b.gate tt e turn;
  moments = (moment ∷ [], more, ap (λ (m : ℕ). m ∷ []) (sym is));
  counted = counts_one a.calls b.calls one;
}

-- ---- the ends of one turn

pub done_at_once : (a b : Observed ℕ) (turns : ℕ) (answer : Bool) → b.gate ≡ a.gate → b.told ≡ a.told → b.calls ≡ a.calls → Answers a.gate answer → answer ≡ true → TicksUntil a b turns ends.Finished
done_at_once a b turns answer e told calls says is =
    let done : WasDone a.gate = subst (λ (t : Bool). Answers a.gate t) is says in
    ([], 0, [], run_none a b e told calls, omega arith, refl, omega arith, (stops_now b.gate (subst (λ (s : Option GateState). WasDone s) (sym e) done), tt))

pub turns_at_once : (a b : Observed ℕ) (turns : ℕ) → b.gate ≡ a.gate → b.told ≡ a.told → b.calls ≡ a.calls → turns ≡ 0 → GoesOn b.gate → TicksUntil a b turns ends.Turns
turns_at_once a b turns e told calls none on = ([], 0, [], run_none a b e told calls, omega arith, tt, omega arith, (on, tt))

pub turns_at_tick : (a b : Observed ℕ) (moment turns : ℕ) → b.gate ≡ a.gate → TellsMore a.told b.told (moment ∷ []) → CountsOne a.calls b.calls → turns ≡ 1 → GoesOn b.gate → TicksUntil a b turns ends.Turns
turns_at_tick a b moment turns e more one last on = ([], 1, timely moment ∷ [], run_tick a b moment e more one, omega arith, tt, omega arith, (on, tt))

pub starved_at_pass : (a b : Observed ℕ) (gate : Option GateState) (moment at turns : ℕ) (fault : HubFault)
    → gate ≡ a.gate → TellsMore a.told b.told (moment ∷ []) → CountsOne a.calls b.calls → at ≡ timely moment → 1 < turns → DoesTurn (Passed at (Some fault)) gate b.gate → GoesOn gate → TicksUntil a b turns ends.NoMemory
starved_at_pass a b gate moment at turns faults.NoMemory e more one is some turn on =
    let call : HubCall = Passed at (Some faults.NoMemory) in
    (call ∷ [], 1, [], run_pass a b gate moment at (Some faults.NoMemory) e more one is turn, omega arith, refl, omega arith, (still_on call gate b.gate turn on, at_one IsTakenPass (IsRefusedPass faults.NoMemory) call refl))

pub passed_on : (a b : Observed ℕ) (gate : Option GateState) (moment at turns : ℕ)
    → gate ≡ a.gate → TellsMore a.told b.told (moment ∷ []) → CountsOne a.calls b.calls → at ≡ timely moment → 1 < turns → DoesTurn (Passed at None) gate b.gate → GoesOn gate → TicksOn a b turns (Ok (turns - 2))
passed_on a b gate moment at turns e more one is some turn on =
    (Passed at None ∷ [], 1, run_pass a b gate moment at None e more one is turn, omega arith, omega arith, still_on (Passed at None) gate b.gate turn on, (tt, tt))

-- ---- the loop

abbrev pub TickedSoFar : Observed ℕ → Observed ℕ → ℕ → ℕ → Type 0
TickedSoFar a b left turns = (calls : List HubCall) × (ticks : ℕ) × TickRun a b [] calls ticks × (left + (length calls + ticks) ≡ turns) × WentOn b.gate (length calls + ticks) × AllByRecursion IsTakenPass calls

pub ticks_begun : (a : Observed ℕ) (turns : ℕ) → TickedSoFar a a turns turns
ticks_begun a turns = ([], 0, run_none a a refl refl refl, omega arith, inl refl, tt)

pub ticks_more : (a b c : Observed ℕ) (left less turns : ℕ) → TickedSoFar a b left turns → TicksOn b c left (Ok less) → TickedSoFar a c less turns
ticks_more a b c left less turns (xs, i, p, e, _, taken) (ys, j, q, f, _, on, more) =
    (xs ++ ys, i + j, run_join a b c [] xs ys i j p q, omega (arith, length-append xs ys), inr on, all_join IsTakenPass xs ys taken more)

cause_join : (after : Observed ℕ) (before : Option GateState) (xs ys : List HubCall) (used more all : ℕ) (end : LoopEnd)
    → all ≡ used + more → LeadsTo ys before after.gate → WentOn before used → AllByRecursion IsTakenPass xs → TickCause after ys more end → TickCause after (xs ++ ys) all end
cause_join after before xs ys used more all ends.Finished e leads on taken (stop, rest) = (stops_join ys before after.gate used more all e leads on stop, all_join IsTakenPass xs ys taken rest)
cause_join after before xs ys used more all ends.Turns e leads on taken (still, rest) = (still, all_join IsTakenPass xs ys taken rest)
cause_join after before xs ys used more all ends.NoMemory e leads on taken (still, last) = (still, at_join IsTakenPass (IsRefusedPass faults.NoMemory) xs ys taken last)
cause_join after before xs ys used more all ends.ReadFault e leads on taken p = absurd p
cause_join after before xs ys used more all ends.WriteFault e leads on taken p = absurd p
cause_join after before xs ys used more all ends.LinkFault e leads on taken p = absurd p

pub ticks_ended : (a b c : Observed ℕ) (left turns : ℕ) (end : LoopEnd) → TickedSoFar a b left turns → TicksUntil b c left end → TicksUntil a c turns end
ticks_ended a b c left turns end (xs, i, p, e, on, taken) (ys, j, rest, q, few, leaves, used, cause) = (
  xs ++ ys,
  i + j,
  rest,
  run_join a b c rest xs ys i j p q,
  few,
  leaves,
  uses_join end xs ys i j left turns e used,
  cause_join c b.gate xs ys (length xs + i) (length ys + j) (length (xs ++ ys) + (i + j)) end (omega (arith, length-append xs ys)) q.ran.leads on taken cause,
)
