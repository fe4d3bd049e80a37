-- Octets of a line, read and handed on one behind the other.
use Rattle.std.proofs.Common.{◌≡◌, ℕ, ◌+◌, ◌-◌, ◌<◌, ◌≤◌, ◌⊎◌, inl, inr, Bool, true, false, List, [], ◌∷◌, ◌++◌, length, take, drop, refl, sym, ap, ◌∙◌, subst, append_assoc, append-nil, length-append, arith}
use Rattle.std.specs.Prelude.{None, Some, Result, Ok, Err}
use Rattle.std.specs.declared.option.Option.{Option}
use Rattle.std.specs.Io.KnownBytes.{append_known, IsAtEnd}
use Rattle.std.proofs.lemmas.Grind.{flat_map-append}
use Rattle.std.proofs.lemmas.List.{take-append-drop}
use Rattle.push_base.specs.Causes.{CountsOne}
use Rattle.hubloops.specs.declared.loop_end.LoopEnd.{LoopEnd}
use Rattle.hubloops.specs.declared.loop_end.LoopEnd.TheVariants as ends
use Rattle.hubloops.specs.Calls.{HubCall, Took}
use Rattle.hubloops.specs.Gates.{GateState, DoesTurn, Answers, GoesOn, WasDone, Waits, LeadsTo}
use Rattle.hubloops.specs.Loops.{Observed, CountsMore, UsesTurns, LeavesRest}
use Rattle.hubloops.specs.Reader.{IsTake, taken_in, octets_taken, HandsOn, MayLeave, IsStop, Offers, HandsAll, ReadRun, ReadCause, ReadsUntil, ReadsOn, max_read}
use Rattle.hubloops.proofs.Leading.{known_none, known_join, counts_none, counts_one, counts_join, answers_after, turn_waits, ran_none, ran_one, ran_join, uses_more, uses_join, leaves_none, goes_on_by, done_by, stops_now, stops_where_on, WentOn, stops_join}

-- ---- octets that are handed on

hands_none : (session : ℕ) (a b : Option GateState) (octets : List ℕ) → b ≡ a → HandsOn session a b octets octets []
hands_none session a b octets e = record { ran = ran_none (IsTake session) a b e; octets_are = refl }

hands_one : (session : ℕ) (a b c : Option GateState) (piece : List ℕ) (count : ℕ)
    → 0 < length piece → b ≡ a → DoesTurn (Took session piece count) b c → HandsOn session a c piece (drop count piece) (Took session piece count ∷ [])
hands_one session a b c piece count some e turn = record {
  ran = ran_one (IsTake session) (Took session piece count) a b c (refl, some) e turn;
  octets_are = sym (ap (λ (os : List ℕ). os ++ drop count piece) (append-nil (take count piece)) ∙ take-append-drop count piece);
}

hands_join : (session : ℕ) (a b c : Option GateState) (octets middle rest : List ℕ) (xs ys : List HubCall)
    → HandsOn session a b octets middle xs → HandsOn session b c middle rest ys → HandsOn session a c octets rest (xs ++ ys)
hands_join session a b c octets middle rest xs ys p q = record {
  ran = ran_join (IsTake session) xs ys a b c p.ran q.ran;
  octets_are = p.octets_are ∙ (ap (λ (os : List ℕ). octets_taken xs ++ os) q.octets_are ∙ (sym (append_assoc (octets_taken xs) (octets_taken ys) rest) ∙ ap (λ (os : List ℕ). os ++ rest) (sym (flat_map-append taken_in xs ys))));
}

may_at_turns : (s : Option GateState) (rest : List ℕ) → MayLeave s ends.Turns rest
may_at_turns None rest = tt
may_at_turns (Some s) rest = tt

pub may_none : (s : Option GateState) (end : LoopEnd) → MayLeave s end []
may_none None end = tt
may_none (Some s) end = leaves_none ℕ end

-- a gate that tells isn't done where it goes on
may_where_done : (s : Option GateState) (rest : List ℕ) → WasDone s → GoesOn s → MayLeave s ends.Finished rest
may_where_done None rest done on = tt
may_where_done (Some s) rest done on = absurd (true_not_false (done ∙ sym on))
  where
    true_not_false : true ≡ false → ⊥
    true_not_false e = absurd cc

pub ended_at_once : (session : ℕ) (a b : Option GateState) (piece : List ℕ) (turns : ℕ) (answer : Bool)
    → b ≡ a → Answers a answer → answer ≡ true → GoesOn a → Offers a b session piece turns (Err ends.Finished)
ended_at_once session a b piece turns answer e told is on =
    let P : Option GateState → Type 0 = λ s. Offers a s session piece turns (Err ends.Finished) in
    let done : WasDone a = done_by a answer told is in
    subst P (sym e) ([], hands_none session a a piece refl, may_where_done a piece done on, omega arith, done)

pub ended_at_turns : (session : ℕ) (a b : Option GateState) (piece : List ℕ) (turns : ℕ) → b ≡ a → turns ≡ 0 → GoesOn b → Offers a b session piece turns (Err ends.Turns)
ended_at_turns session a b piece turns e none on = ([], hands_none session a b piece e, may_at_turns b piece, omega arith, on)

pub ended_after_none : (session : ℕ) (a b m c : Option GateState) (piece : List ℕ) (turns count : ℕ) (answer : Bool)
    → 0 < length piece → 0 < turns → count ≡ 0 → b ≡ a → DoesTurn (Took session piece count) b m → c ≡ m → Answers m answer → answer ≡ true → GoesOn a
    → Offers a c session piece turns (Err ends.Finished)
ended_after_none session a b m c piece turns count answer some more none same turn e told is on =
    let one : HandsOn session a m piece (drop count piece) (Took session piece count ∷ []) = hands_one session a b m piece count some same turn in
    let R : ℕ → Type 0 = λ n. HandsOn session a m piece (drop n piece) (Took session piece count ∷ []) in
    let P : Option GateState → Type 0 = λ s. Offers a s session piece turns (Err ends.Finished) in
    let done : WasDone m = done_by m answer told is in
    let still : GoesOn m = answers_after (Took session piece count ∷ []) a m false one.ran.leads on in
    subst P (sym e) (Took session piece count ∷ [], subst R none one, may_where_done m piece done still, omega arith, done)

-- nothing was taken, and the loop waited
pub offered_none : (session : ℕ) (a b m d c : Option GateState) (piece : List ℕ) (turns count : ℕ)
    → count ≡ 0 → 0 < turns → b ≡ a → DoesTurn (Took session piece count) b m → d ≡ m → Waits d c → Offers a c session piece turns (Ok 0)
offered_none session a b m d c piece turns count none more same turn e w =
    let call : HubCall = Took session piece count in
    let there : DoesTurn call b d = subst (λ (s : Option GateState). DoesTurn call b s) (sym e) turn in
    let here : DoesTurn call a c = subst (λ (s : Option GateState). DoesTurn call s c) same (turn_waits call b d c there w) in
    (subst (λ (n : ℕ). DoesTurn (Took session piece n) a c) none here, omega arith, more)

-- the loop has handed on these octets
abbrev pub HandedSoFar : Option GateState → Option GateState → ℕ → List ℕ → List ℕ → ℕ → ℕ → Type 0
HandedSoFar a b session octets rest left turns = (calls : List HubCall) × HandsOn session a b octets rest calls × (left + length calls ≡ turns)

pub all_begun : (session : ℕ) (a : Option GateState) (octets : List ℕ) (turns : ℕ) → HandedSoFar a a session octets octets turns turns
all_begun session a octets turns = ([], hands_none session a a octets refl, omega arith)

pub all_ended : (session : ℕ) (a b c : Option GateState) (octets rest : List ℕ) (left turns : ℕ) (end : LoopEnd)
    → HandedSoFar a b session octets rest left turns → Offers b c session rest left (Err end) → HandsAll a c session octets turns (Err end)
all_ended session a b c octets rest left turns end (xs, p, e) (ys, q, r, n, stop) = (
  xs ++ ys,
  rest,
  hands_join session a b c octets rest rest xs ys p q,
  r,
  subst (λ (k : ℕ). UsesTurns end k turns) (sym (length-append xs ys)) (uses_more end (length xs) (length ys) left turns n e),
  stop,
)

pub all_more : (session : ℕ) (a b c : Option GateState) (octets rest next : List ℕ) (left turns count : ℕ)
    → 0 < length rest → HandedSoFar a b session octets rest left turns → Offers b c session rest left (Ok count) → next ≡ drop count rest
    → HandedSoFar a c session octets next (left - 1) turns
all_more session a b c octets rest next left turns count some (xs, p, e) (turn, _, more) is =
    let one : HandsOn session b c rest (drop count rest) (Took session rest count ∷ []) = hands_one session b b c rest count some refl turn in
    let P : List ℕ → Type 0 = λ os. HandsOn session a c octets os (xs ++ Took session rest count ∷ []) in (
      xs ++ Took session rest count ∷ [],
      subst P (sym is) (hands_join session a b c octets rest (drop count rest) xs (Took session rest count ∷ []) p one),
      omega (arith, length-append xs (Took session rest count ∷ [])),
    )

pub goes_on_so_far : (session : ℕ) (a b : Option GateState) (octets rest : List ℕ) (left turns : ℕ) → HandedSoFar a b session octets rest left turns → GoesOn a → GoesOn b
goes_on_so_far session a b octets rest left turns (xs, p, e) on = answers_after xs a b false p.ran.leads on

-- ---- reads

run_none : (session : ℕ) (a b : Observed ℕ) → b.gate ≡ a.gate → b.told ≡ a.told → b.calls ≡ a.calls → ReadRun session a b [] [] 0
run_none session a b e told calls = record {
  ran = ran_none (IsTake session) a.gate b.gate e;
  octets = told ∙ known_none a.told;
  counted = subst (λ (n : Option ℕ). CountsMore 0 a.calls n) (sym calls) (counts_none a.calls);
}

run_join : (session : ℕ) (a b c : Observed ℕ) (rest : List ℕ) (xs ys : List HubCall) (i j : ℕ) → ReadRun session a b [] xs i → ReadRun session b c rest ys j → ReadRun session a c rest (xs ++ ys) (i + j)
run_join session a b c rest xs ys i j p q = record {
  ran = ran_join (IsTake session) xs ys a.gate b.gate c.gate p.ran q.ran;
  octets = q.octets
      ∙ (ap (λ (o : Option (List ℕ)). append_known o (octets_taken ys ++ rest)) (p.octets ∙ ap (λ (os : List ℕ). append_known a.told os) (append-nil (octets_taken xs)))
      ∙ (known_join a.told (octets_taken xs) (octets_taken ys ++ rest)
      ∙ ap (λ (os : List ℕ). append_known a.told os) (sym (append_assoc (octets_taken xs) (octets_taken ys) rest) ∙ ap (λ (os : List ℕ). os ++ rest) (sym (flat_map-append taken_in xs ys)))));
  counted = counts_join i j a.calls b.calls c.calls p.counted q.counted;
}

-- one read that gave no octets
run_quiet : (session : ℕ) (a b : Observed ℕ) → b.gate ≡ a.gate → b.told ≡ append_known a.told [] → CountsOne a.calls b.calls → ReadRun session a b [] [] 1
run_quiet session a b e quiet one = record { ran = ran_none (IsTake session) a.gate b.gate e; octets = quiet; counted = counts_one a.calls b.calls one }

-- one read, whose octets were handed on
run_read : (session : ℕ) (a b : Observed ℕ) (gate : Option GateState) (octets rest : List ℕ) (calls : List HubCall)
    → gate ≡ a.gate → b.told ≡ append_known a.told octets → CountsOne a.calls b.calls → HandsOn session gate b.gate octets rest calls → ReadRun session a b rest calls 1
run_read session a b gate octets rest calls e read one hands = record {
  ran = ran_join (IsTake session) [] calls a.gate gate b.gate (ran_none (IsTake session) a.gate gate e) hands.ran;
  octets = read ∙ ap (λ (os : List ℕ). append_known a.told os) hands.octets_are;
  counted = counts_one a.calls b.calls one;
}

-- ---- the ends of one turn

pub done_at_once : (session : ℕ) (a b : Observed ℕ) (left : Option (List ℕ)) (turns : ℕ) (answer : Bool)
    → b.gate ≡ a.gate → b.told ≡ a.told → b.calls ≡ a.calls → Answers a.gate answer → answer ≡ true → ReadsUntil session a b left turns ends.Finished
done_at_once session a b left turns answer e told calls says is =
    let done : WasDone b.gate = subst (λ (s : Option GateState). WasDone s) (sym e) (done_by a.gate answer says is) in
    ([], 0, [], run_none session a b e told calls, omega arith, may_none b.gate ends.Finished, omega arith, inl (stops_now b.gate done))

pub turns_at_once : (session : ℕ) (a b : Observed ℕ) (left : Option (List ℕ)) (turns : ℕ) → b.gate ≡ a.gate → b.told ≡ a.told → b.calls ≡ a.calls → turns ≡ 0 → GoesOn b.gate → ReadsUntil session a b left turns ends.Turns
turns_at_once session a b left turns e told calls none on = ([], 0, [], run_none session a b e told calls, omega arith, may_at_turns b.gate [], omega arith, on)

pub finished_by_line : (session : ℕ) (a b : Observed ℕ) (left : Option (List ℕ)) (turns : ℕ)
    → b.gate ≡ a.gate → b.told ≡ append_known a.told [] → CountsOne a.calls b.calls → 0 < turns → IsAtEnd left → GoesOn b.gate → ReadsUntil session a b left turns ends.Finished
finished_by_line session a b left turns e quiet one more over on = ([], 1, [], run_quiet session a b e quiet one, omega arith, may_none b.gate ends.Finished, omega arith, inr (on, over))

pub failed_by_line : (session : ℕ) (a b : Observed ℕ) (left : Option (List ℕ)) (turns : ℕ)
    → b.gate ≡ a.gate → b.told ≡ a.told → CountsOne a.calls b.calls → 0 < turns → GoesOn b.gate → ReadsUntil session a b left turns ends.ReadFault
failed_by_line session a b left turns e quiet one more on = ([], 1, [], run_quiet session a b e (quiet ∙ known_none a.told) one, omega arith, may_none b.gate ends.ReadFault, omega arith, on)

pub quiet_turn : (session : ℕ) (a b : Observed ℕ) (left : Option (List ℕ)) (turns : ℕ)
    → b.gate ≡ a.gate → b.told ≡ append_known a.told [] → CountsOne a.calls b.calls → 0 < turns → GoesOn b.gate → ReadsOn session a b left turns (Ok (turns - 1))
quiet_turn session a b left turns e quiet one more on = ([], 1, run_quiet session a b e quiet one, omega arith, omega arith, on)

one_more : (end : LoopEnd) (k turns : ℕ) → 0 < turns → UsesTurns end k (turns - 1) → UsesTurns end (k + 1) turns
one_more ends.Turns k turns more p = omega arith
one_more ends.Finished k turns more p = omega arith
one_more ends.ReadFault k turns more p = omega arith
one_more ends.WriteFault k turns more p = omega arith
one_more ends.LinkFault k turns more p = omega arith
one_more ends.NoMemory k turns more p = omega arith

-- over a gate that tells the octets that were read are handed on without a stop
cause_by_stop : (b : Observed ℕ) (left : Option (List ℕ)) (used : ℕ) (end : LoopEnd) → GoesOn b.gate → IsStop b.gate end → ReadCause b left used end
cause_by_stop b left used ends.Finished on stop = inl (stops_where_on b.gate used stop on)
cause_by_stop b left used ends.Turns on stop = stop
cause_by_stop b left used ends.ReadFault on stop = on
cause_by_stop b left used ends.WriteFault on stop = absurd stop
cause_by_stop b left used ends.LinkFault on stop = absurd stop
cause_by_stop b left used ends.NoMemory on stop = absurd stop

-- a rest is no more than what was handed on
rest_fits : (session : ℕ) (a b : Option GateState) (octets rest : List ℕ) (calls : List HubCall) → HandsOn session a b octets rest calls → length octets ≤ max_read → length rest ≤ max_read
rest_fits session a b octets rest calls hands few = omega (arith, ap (λ (os : List ℕ). length os) hands.octets_are, length-append (octets_taken calls) rest, few)

pub read_turn : (session : ℕ) (a b : Observed ℕ) (gate : Option GateState) (left : Option (List ℕ)) (octets : List ℕ) (turns : ℕ) (result : Result ℕ LoopEnd)
    → gate ≡ a.gate → b.told ≡ append_known a.told octets → CountsOne a.calls b.calls → 0 < turns → length octets ≤ max_read → GoesOn gate → HandsAll gate b.gate session octets (turns - 1) result → ReadsOn session a b left turns result
read_turn session a b gate left octets turns (Ok less) e read one more few on (calls, hands, used) =
    (calls, 1, run_read session a b gate octets [] calls e read one hands, omega arith, omega arith, answers_after calls gate b.gate false hands.ran.leads on)
read_turn session a b gate left octets turns (Err end) e read one more few on (calls, rest, hands, may, used, stop) = (
  calls,
  1,
  rest,
  run_read session a b gate octets rest calls e read one hands,
  rest_fits session gate b.gate octets rest calls hands few,
  may,
  one_more end (length calls) turns more used,
  cause_by_stop b left (length calls + 1) end (answers_after calls gate b.gate false hands.ran.leads on) stop,
)

-- ---- the loop

abbrev pub ReadSoFar : ℕ → Observed ℕ → Observed ℕ → ℕ → ℕ → Type 0
ReadSoFar session a b left turns = (calls : List HubCall) × (reads : ℕ) × ReadRun session a b [] calls reads × (left + (length calls + reads) ≡ turns) × WentOn b.gate (length calls + reads)

pub read_begun : (session : ℕ) (a : Observed ℕ) (turns : ℕ) → ReadSoFar session a a turns turns
read_begun session a turns = ([], 0, run_none session a a refl refl refl, omega arith, inl refl)

pub read_more : (session : ℕ) (a b c : Observed ℕ) (rest : Option (List ℕ)) (left less turns : ℕ) → ReadSoFar session a b left turns → ReadsOn session b c rest left (Ok less) → ReadSoFar session a c less turns
read_more session a b c rest left less turns (xs, i, p, e, _) (ys, j, q, f, _, on) = (xs ++ ys, i + j, run_join session a b c [] xs ys i j p q, omega (arith, length-append xs ys), inr on)

cause_join : (after : Observed ℕ) (rest : Option (List ℕ)) (before : Option GateState) (ys : List HubCall) (used more all : ℕ) (end : LoopEnd)
    → all ≡ used + more → LeadsTo ys before after.gate → WentOn before used → ReadCause after rest more end → ReadCause after rest all end
cause_join after rest before ys used more all ends.Finished e leads on (inl stop) = inl (stops_join ys before after.gate used more all e leads on stop)
cause_join after rest before ys used more all ends.Finished e leads on (inr over) = inr over
cause_join after rest before ys used more all ends.Turns e leads on still = still
cause_join after rest before ys used more all ends.ReadFault e leads on still = still
cause_join after rest before ys used more all ends.WriteFault e leads on p = absurd p
cause_join after rest before ys used more all ends.LinkFault e leads on p = absurd p
cause_join after rest before ys used more all ends.NoMemory e leads on p = absurd p

pub read_ended : (session : ℕ) (a b c : Observed ℕ) (rest : Option (List ℕ)) (left turns : ℕ) (end : LoopEnd) → ReadSoFar session a b left turns → ReadsUntil session b c rest left end → ReadsUntil session a c rest turns end
read_ended session a b c rest left turns end (xs, i, p, e, on) (ys, j, octets, q, few, may, used, cause) = (
  xs ++ ys,
  i + j,
  octets,
  run_join session a b c octets xs ys i j p q,
  few,
  may,
  uses_join end xs ys i j left turns e used,
  cause_join c rest b.gate ys (length xs + i) (length ys + j) (length (xs ++ ys) + (i + j)) end (omega (arith, length-append xs ys)) q.ran.leads on cause,
)
