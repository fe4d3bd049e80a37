-- Writes, one behind the other.
use Rattle.std.proofs.Common.{◌≡◌, ℕ, ◌+◌, ◌-◌, ◌≤◌, ◌<◌, ◌⊎◌, inl, inr, Bool, true, false, cond, List, [], ◌∷◌, ◌++◌, length, take, drop, refl, sym, ap, ◌∙◌, subst, append_assoc, append-nil, length-append, arith}
use Rattle.std.specs.Prelude.{Result, Ok, Err}
use Rattle.std.specs.declared.option.Option.{Option}
use Rattle.std.specs.List.{AllByRecursion}
use Rattle.std.specs.Io.KnownBytes.{append_known}
use Rattle.std.proofs.lemmas.Grind.{flat_map-append}
use Rattle.std.proofs.lemmas.List.{take-append-drop}
use Rattle.push_base.specs.Causes.{CountsOne}
use Rattle.pushserver.specs.declared.given.Given.{Given}
use Rattle.pushserver.specs.declared.given.Given.TheVariants as givens
use Rattle.pushserver.specs.declared.fault.HubFault.{HubFault}
use Rattle.pushserver.specs.declared.fault.HubFault.TheVariants as faults
use Rattle.hubloops.specs.declared.loop_end.LoopEnd.{LoopEnd}
use Rattle.hubloops.specs.declared.loop_end.LoopEnd.TheVariants as ends
use Rattle.hubloops.specs.Calls.{HubCall, Took, Gave, Received, Asked, Went, Passed, Left, Connected}
use Rattle.hubloops.specs.Gates.{GateState, DoesTurn, Answers, GoesOn, WasDone, WaitsUnless, LeadsTo}
use Rattle.hubloops.specs.Loops.{Observed, CountsMore, UsesTurns, LeavesRest, LastWas, IsEndOf}
use Rattle.hubloops.specs.Writer.{IsGive, octets_of, given_in, octets_given, WriteRun, GoesOnWith, IsPassingGive, EndsWith, IsLastGive, IsStarvedGive, WriteCause, WritesUntil, WritesOn, TakesPiece}
use Rattle.hubloops.proofs.Leading.{known_none, known_join, counts_none, counts_one, counts_join, answers_after, turn_may_wait, ran_none, ran_one, ran_join, last_one, last_join, uses_join, all_join, at_one, at_join}

-- ---- writes of one piece

abbrev pub WrittenSoFar : List ℕ → Option (List ℕ) → Option (List ℕ) → Option ℕ → Option ℕ → List ℕ → ℕ → ℕ → Type 0
WrittenSoFar piece taken now n m rest left turns =
    (writes : ℕ) × (front : List ℕ) × (piece ≡ front ++ rest) × (now ≡ append_known taken front) × CountsMore writes n m × (left + writes ≡ turns)

pub written_begun : (piece : List ℕ) (taken : Option (List ℕ)) (n : Option ℕ) (turns : ℕ) → WrittenSoFar piece taken taken n n piece turns turns
written_begun piece taken n turns = (0, [], refl, known_none taken, counts_none n, omega arith)

pub written_more : (piece : List ℕ) (taken middle now : Option (List ℕ)) (n m k : Option ℕ) (rest next : List ℕ) (left turns count : ℕ)
    → WrittenSoFar piece taken middle n m rest left turns → 0 < left → now ≡ append_known middle (take count rest) → CountsOne m k → next ≡ drop count rest
    → WrittenSoFar piece taken now n k next (left - 1) turns
written_more piece taken middle now n m k rest next left turns count (writes, front, e, is, counts, used) more took one behind =
    let P : Option (List ℕ) → Type 0 = λ o. now ≡ append_known o (take count rest) in
    let whole : front ++ rest ≡ (front ++ take count rest) ++ next =
    ap (λ (os : List ℕ). front ++ os) (sym (take-append-drop count rest) ∙ ap (λ (os : List ℕ). take count rest ++ os) (sym behind)) ∙ sym (append_assoc front (take count rest) next) in
    (writes + 1, front ++ take count rest, e ∙ whole, subst P is took ∙ known_join taken front (take count rest), counts_join writes 1 n m k counts (counts_one m k one), omega arith)

pub written_turns : (piece : List ℕ) (taken middle : Option (List ℕ)) (n m : Option ℕ) (rest : List ℕ) (left turns : ℕ)
    → WrittenSoFar piece taken middle n m rest left turns → left ≡ 0 → TakesPiece piece taken middle n m turns (Err ends.Turns)
written_turns piece taken middle n m rest left turns (writes, front, e, is, counts, used) none = (writes, front, rest, e, is, counts, omega arith, inl refl)

pub written_fault : (piece : List ℕ) (taken middle now : Option (List ℕ)) (n m k : Option ℕ) (rest : List ℕ) (left turns : ℕ)
    → WrittenSoFar piece taken middle n m rest left turns → 0 < left → now ≡ middle → CountsOne m k → TakesPiece piece taken now n k turns (Err ends.WriteFault)
written_fault piece taken middle now n m k rest left turns (writes, front, e, is, counts, used) more same one =
    (writes + 1, front, rest, e, same ∙ is, counts_join writes 1 n m k counts (counts_one m k one), omega arith, inr refl)

pub written_none : (piece : List ℕ) (taken middle now : Option (List ℕ)) (n m k : Option ℕ) (rest : List ℕ) (left turns count : ℕ)
    → WrittenSoFar piece taken middle n m rest left turns → 0 < left → now ≡ append_known middle (take count rest) → count ≡ 0 → CountsOne m k → TakesPiece piece taken now n k turns (Err ends.WriteFault)
written_none piece taken middle now n m k rest left turns count so_far more took none one =
    written_fault piece taken middle now n m k rest left turns so_far more (took ∙ (ap (λ (i : ℕ). append_known middle (take i rest)) none ∙ sym (known_none middle))) one

pub written_all : (piece : List ℕ) (taken middle : Option (List ℕ)) (n m : Option ℕ) (rest : List ℕ) (left turns : ℕ)
    → WrittenSoFar piece taken middle n m rest left turns → rest ≡ [] → TakesPiece piece taken middle n m turns (Ok left)
written_all piece taken middle n m rest left turns (writes, front, e, is, counts, used) none =
    let P : List ℕ → Type 0 = λ os. piece ≡ front ++ os in
    let whole : front ≡ piece = sym (append-nil front) ∙ sym (subst P none e) in
    (writes, is ∙ ap (λ (os : List ℕ). append_known taken os) whole, counts, used)

-- ---- calls of the hub

run_none : (session : ℕ) (a b : Observed ℕ) → b.gate ≡ a.gate → b.told ≡ a.told → b.calls ≡ a.calls → WriteRun session a b [] [] 0
run_none session a b e told calls = record {
  ran = ran_none (IsGive session) a.gate b.gate e;
  octets = ([], refl, told ∙ known_none a.told);
  counted = subst (λ (n : Option ℕ). CountsMore 0 a.calls n) (sym calls) (counts_none a.calls);
}

run_join : (session : ℕ) (a b c : Observed ℕ) (rest : List ℕ) (xs ys : List HubCall) (i j : ℕ) → WriteRun session a b [] xs i → WriteRun session b c rest ys j → WriteRun session a c rest (xs ++ ys) (i + j)
run_join session a b c rest xs ys i j p q =
    let (f, e, s) = p.octets in
    let (h, d, t) = q.octets in
    let same : octets_given (xs ++ ys) ≡ (f ++ h) ++ rest =
    flat_map-append given_in xs ys ∙ ap (λ (os : List ℕ). os ++ octets_given ys) (e ∙ append-nil f)
    ∙ ap (λ (os : List ℕ). f ++ os) d ∙ sym (append_assoc f h rest) in
    record {
      ran = ran_join (IsGive session) xs ys a.gate b.gate c.gate p.ran q.ran;
      octets = (f ++ h, same, t ∙ (ap (λ (o : Option (List ℕ)). append_known o h) s ∙ known_join a.told f h));
      counted = counts_join i j a.calls b.calls c.calls p.counted q.counted;
    }

-- one call, and writes of what it gave
run_gave : (session : ℕ) (a b : Observed ℕ) (gate : Option GateState) (before after : List ℕ) (answer : Result Given HubFault) (front rest : List ℕ) (writes : ℕ)
    → 0 < length before → gate ≡ a.gate → DoesTurn (Gave session before after answer) gate b.gate → octets_of answer after ≡ front ++ rest → b.told ≡ append_known a.told front → CountsMore writes a.calls b.calls
    → WriteRun session a b rest (Gave session before after answer ∷ []) writes
run_gave session a b gate before after answer front rest writes room same turn e is counts = record {
  ran = ran_one (IsGive session) (Gave session before after answer) a.gate gate b.gate (refl, room) same turn;
  octets = (front, append-nil (octets_of answer after) ∙ e, is);
  counted = counts;
}

-- ---- the ends of one turn

pub turns_at_once : (session : ℕ) (a b : Observed ℕ) (turns : ℕ) → b.gate ≡ a.gate → b.told ≡ a.told → b.calls ≡ a.calls → turns ≡ 0 → WritesUntil session a b turns ends.Turns
turns_at_once session a b turns e told calls none = ([], 0, [], run_none session a b e told calls, tt, inl refl, omega arith, tt)

-- nothing was given
silent : (session : ℕ) (a b : Observed ℕ) (gate : Option GateState) (before after : List ℕ) (answer : Result Given HubFault)
    → 0 < length before → gate ≡ a.gate → DoesTurn (Gave session before after answer) gate b.gate → octets_of answer after ≡ [] → b.told ≡ a.told → b.calls ≡ a.calls → WriteRun session a b [] (Gave session before after answer ∷ []) 0
silent session a b gate before after answer room same turn none told calls =
    let counts : CountsMore 0 a.calls b.calls = subst (λ (n : Option ℕ). CountsMore 0 a.calls n) (sym calls) (counts_none a.calls) in
    run_gave session a b gate before after answer [] [] 0 room same turn none (told ∙ known_none a.told) counts

pub silent_on : (session : ℕ) (a b : Observed ℕ) (gate : Option GateState) (before after : List ℕ) (answer : Result Given HubFault) (turns : ℕ)
    → 0 < length before → gate ≡ a.gate → DoesTurn (Gave session before after answer) gate b.gate → octets_of answer after ≡ [] → b.told ≡ a.told → b.calls ≡ a.calls → 0 < turns → GoesOnWith b.gate answer → WritesOn session a b turns (Ok (turns - 1))
silent_on session a b gate before after answer turns room same turn none told calls more on =
    (Gave session before after answer ∷ [], 0, silent session a b gate before after answer room same turn none told calls, omega arith, omega arith, (on, tt))

pub finished : (session : ℕ) (a b : Observed ℕ) (gate : Option GateState) (before after : List ℕ) (answer : Result Given HubFault) (turns : ℕ)
    → 0 < length before → gate ≡ a.gate → DoesTurn (Gave session before after answer) gate b.gate → octets_of answer after ≡ [] → b.told ≡ a.told → b.calls ≡ a.calls → 0 < turns → EndsWith b.gate answer → WritesUntil session a b turns ends.Finished
finished session a b gate before after answer turns room same turn none told calls more ends_so =
    (Gave session before after answer ∷ [], 0, [], silent session a b gate before after answer room same turn none told calls, refl, inl refl, omega arith, at_one (IsPassingGive b.gate) (IsLastGive b.gate) (Gave session before after answer) ends_so)

pub starved_at_give : (session : ℕ) (a b : Observed ℕ) (gate : Option GateState) (before after : List ℕ) (turns : ℕ) (fault : HubFault)
    → 0 < length before → gate ≡ a.gate → DoesTurn (Gave session before after (Err fault)) gate b.gate → b.told ≡ a.told → b.calls ≡ a.calls → 0 < turns → WritesUntil session a b turns ends.NoMemory
starved_at_give session a b gate before after turns faults.NoMemory room same turn told calls more =
    let answer : Result Given HubFault = Err faults.NoMemory in
    (Gave session before after answer ∷ [], 0, [], silent session a b gate before after answer room same turn refl told calls, refl, inl refl, omega arith, at_one (IsPassingGive b.gate) IsStarvedGive (Gave session before after answer) refl)

-- nothing was given, and the loop waits, or ends where all was done before the call
pub waited : (session : ℕ) (a b : Observed ℕ) (gate middle : Option GateState) (before after : List ℕ) (answer : Result Given HubFault) (turns : ℕ) (idle : Bool) (result : Result ℕ LoopEnd)
    → 0 < length before → gate ≡ a.gate → DoesTurn (Gave session before after answer) gate middle → WaitsUnless idle middle b.gate → octets_of answer after ≡ [] → b.told ≡ a.told → b.calls ≡ a.calls → 0 < turns
    → (WasDone b.gate → EndsWith b.gate answer) → (GoesOn b.gate → GoesOnWith b.gate answer) → Answers a.gate idle → result ≡ cond idle (Err ends.Finished) (Ok (turns - 1)) → WritesOn session a b turns result
waited session a b gate middle before after answer turns true result room same turn later none told calls more ends_so goes_so idle is =
    let now : DoesTurn (Gave session before after answer) gate b.gate = turn_may_wait true (Gave session before after answer) gate middle b.gate turn later in
    let done : WasDone b.gate = answers_after (Gave session before after answer ∷ []) a.gate b.gate true (ran_one (IsGive session) (Gave session before after answer) a.gate gate b.gate (refl, room) same now).leads idle in
    subst (λ (r : Result ℕ LoopEnd). WritesOn session a b turns r) (sym is) (finished session a b gate before after answer turns room same now none told calls more (ends_so done))
waited session a b gate middle before after answer turns false result room same turn later none told calls more ends_so goes_so idle is =
    let now : DoesTurn (Gave session before after answer) gate b.gate = turn_may_wait false (Gave session before after answer) gate middle b.gate turn later in
    let on : GoesOn b.gate = answers_after (Gave session before after answer ∷ []) a.gate b.gate false (ran_one (IsGive session) (Gave session before after answer) a.gate gate b.gate (refl, room) same now).leads idle in
    subst (λ (r : Result ℕ LoopEnd). WritesOn session a b turns r) (sym is) (silent_on session a b gate before after answer turns room same now none told calls more (goes_so on))

-- a piece that was given was written, or the loop ended
pub gave_and_wrote : (session : ℕ) (a b : Observed ℕ) (gate : Option GateState) (before after piece : List ℕ) (answer : Result Given HubFault) (turns : ℕ) (result : Result ℕ LoopEnd)
    → 0 < length before → gate ≡ a.gate → DoesTurn (Gave session before after answer) gate b.gate → octets_of answer after ≡ piece → 0 < turns → GoesOnWith b.gate answer
    → TakesPiece piece a.told b.told a.calls b.calls (turns - 1) result → WritesOn session a b turns result
gave_and_wrote session a b gate before after piece answer turns (Ok left) room same turn is more on (writes, took, counts, used) =
    (Gave session before after answer ∷ [], writes, run_gave session a b gate before after answer piece [] writes room same turn (is ∙ sym (append-nil piece)) took counts, omega arith, omega arith, (on, tt))
gave_and_wrote session a b gate before after piece answer turns (Err end) room same turn is more on (writes, front, rest, whole, took, counts, used, how) =
    let call : HubCall = Gave session before after answer in (
      call ∷ [],
      writes,
      rest,
      run_gave session a b gate before after answer front rest writes room same turn (is ∙ whole) took counts,
      leaves end how,
      inr (last_one (IsEndOf given_in rest) call (front, is ∙ whole)),
      one_more end writes turns more used,
      cause end how,
    )
  where
    leaves : (end : LoopEnd) → (end ≡ ends.Turns) ⊎ (end ≡ ends.WriteFault) → LeavesRest end rest
    leaves end (inl e) = subst (λ (s : LoopEnd). LeavesRest s rest) (sym e) tt
    leaves end (inr e) = subst (λ (s : LoopEnd). LeavesRest s rest) (sym e) tt

    cause : (end : LoopEnd) → (end ≡ ends.Turns) ⊎ (end ≡ ends.WriteFault) → WriteCause b (Gave session before after answer ∷ []) end
    cause end (inl e) = subst (λ (s : LoopEnd). WriteCause b (Gave session before after answer ∷ []) s) (sym e) (on, tt)
    cause end (inr e) = subst (λ (s : LoopEnd). WriteCause b (Gave session before after answer ∷ []) s) (sym e) (on, tt)

    one_more : (end : LoopEnd) (k turns : ℕ) → 0 < turns → UsesTurns end k (turns - 1) → UsesTurns end (1 + k) turns
    one_more ends.Turns k turns more p = omega arith
    one_more ends.Finished k turns more p = omega arith
    one_more ends.WriteFault k turns more p = omega arith
    one_more ends.NoMemory k turns more p = omega arith
    one_more ends.ReadFault k turns more p = omega arith
    one_more ends.LinkFault k turns more p = omega arith

-- ---- the loop

abbrev pub WroteSoFar : ℕ → Observed ℕ → Observed ℕ → ℕ → ℕ → Type 0
WroteSoFar session a b left turns = (calls : List HubCall) × (writes : ℕ) × WriteRun session a b [] calls writes × (left + (length calls + writes) ≡ turns) × AllByRecursion (IsPassingGive b.gate) calls

pub wrote_begun : (session : ℕ) (a : Observed ℕ) (turns : ℕ) → WroteSoFar session a a turns turns
wrote_begun session a turns = ([], 0, run_none session a a refl refl refl, omega arith, tt)

-- an answer behind which a loop goes on is one at another gate, too, if that goes on where the first does
with_moved : (b c : Option GateState) (answer : Result Given HubFault) → (GoesOn b → GoesOn c) → GoesOnWith b answer → GoesOnWith c answer
with_moved b c (Ok (givens.Bytes n)) f p = tt
with_moved b c (Ok givens.Worked) f p = tt
with_moved b c (Ok givens.Nothing) f p = f p
with_moved b c (Ok givens.Ending) f p = f p
with_moved b c (Ok (givens.End reason)) f p = absurd p
with_moved b c (Err fault) f p = absurd p

give_moved : (b c : Option GateState) (call : HubCall) → (GoesOn b → GoesOn c) → IsPassingGive b call → IsPassingGive c call
give_moved b c (Gave session before after answer) f p = with_moved b c answer f p
give_moved b c (Took session piece count) f p = absurd p
give_moved b c (Received link datagram answer) f p = absurd p
give_moved b c (Asked link before after answer) f p = absurd p
give_moved b c (Went link answer) f p = absurd p
give_moved b c (Passed at fault) f p = absurd p
give_moved b c (Left session) f p = absurd p
give_moved b c (Connected answer) f p = absurd p

all_moved : (b c : Option GateState) (xs : List HubCall) → (GoesOn b → GoesOn c) → AllByRecursion (IsPassingGive b) xs → AllByRecursion (IsPassingGive c) xs
all_moved b c [] f p = tt
all_moved b c (x ∷ xs) f p = (give_moved b c x f p.0, all_moved b c xs f p.1)

-- the calls of earlier turns, as the gate is behind later ones
moved_by : (b c : Option GateState) (xs ys : List HubCall) → LeadsTo ys b c → AllByRecursion (IsPassingGive b) xs → AllByRecursion (IsPassingGive c) xs
moved_by b c xs ys leads all = all_moved b c xs (answers_after ys b c false leads) all

pub wrote_more : (session : ℕ) (a b c : Observed ℕ) (left less turns : ℕ) → WroteSoFar session a b left turns → WritesOn session b c left (Ok less) → WroteSoFar session a c less turns
wrote_more session a b c left less turns (xs, i, p, e, on) (ys, j, q, f, _, more) = (
  xs ++ ys,
  i + j,
  run_join session a b c [] xs ys i j p q,
  omega (arith, length-append xs ys),
  all_join (IsPassingGive c.gate) xs ys (moved_by b.gate c.gate xs ys q.ran.leads on) more,
)

cause_join : (after : Observed ℕ) (xs ys : List HubCall) (end : LoopEnd) → AllByRecursion (IsPassingGive after.gate) xs → WriteCause after ys end → WriteCause after (xs ++ ys) end
cause_join after xs ys ends.Finished on p = at_join (IsPassingGive after.gate) (IsLastGive after.gate) xs ys on p
cause_join after xs ys ends.Turns on p = all_join (IsPassingGive after.gate) xs ys on p
cause_join after xs ys ends.WriteFault on p = all_join (IsPassingGive after.gate) xs ys on p
cause_join after xs ys ends.NoMemory on p = at_join (IsPassingGive after.gate) IsStarvedGive xs ys on p
cause_join after xs ys ends.ReadFault on p = absurd p
cause_join after xs ys ends.LinkFault on p = absurd p

end_join : (rest : List ℕ) (xs ys : List HubCall) → (rest ≡ []) ⊎ LastWas (IsEndOf given_in rest) ys → (rest ≡ []) ⊎ LastWas (IsEndOf given_in rest) (xs ++ ys)
end_join rest xs ys (inl e) = inl e
end_join rest xs ys (inr l) = inr (last_join (IsEndOf given_in rest) xs ys l)

pub wrote_ended : (session : ℕ) (a b c : Observed ℕ) (left turns : ℕ) (end : LoopEnd) → WroteSoFar session a b left turns → WritesUntil session b c left end → WritesUntil session a c turns end
wrote_ended session a b c left turns end (xs, i, p, e, on) (ys, j, rest, q, leaves, of_last, used, cause) = (
  xs ++ ys,
  i + j,
  rest,
  run_join session a b c rest xs ys i j p q,
  leaves,
  end_join rest xs ys of_last,
  uses_join end xs ys i j left turns e used,
  cause_join c xs ys end (moved_by b.gate c.gate xs ys q.ran.leads on) cause,
)
