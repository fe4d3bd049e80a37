-- Lists of calls, one behind the other.
use Rattle.std.proofs.Common.{◌≡◌, ℕ, ◌+◌, ◌-◌, ◌^◌, ◌≤◌, ◌<◌, ◌⊎◌, inl, inr, Bool, true, false, List, [], ◌∷◌, ◌++◌, length, refl, sym, ap, ◌∙◌, subst, append_assoc, append-nil, length-append, arith}
use Rattle.std.specs.Prelude.{None, Some, Ok, Err, ◌==◌}
use Rattle.std.specs.declared.option.Option.{Option}
use Rattle.std.specs.List.{AllByRecursion}
use Rattle.std.specs.Io.KnownBytes.{append_known}
use Rattle.push_base.specs.Causes.{next_count, CountsOne}
use Rattle.push_base.specs.Told.{TellsMore}
use Rattle.hubasking.specs.AskingHubs.{AskingHub}
use Rattle.hubloops.specs.declared.loop_end.LoopEnd.{LoopEnd}
use Rattle.hubloops.specs.declared.loop_end.LoopEnd.TheVariants as ends
use Rattle.hubloops.specs.Calls.{HubCall}
use Rattle.hubloops.specs.Gates.{GateState, DoesTurn, Answers, GoesOn, WasDone, StopsAtOnce, IsIdle, Waits, WaitsUnless, Leads, LeadsTo, RoseBy}
use Rattle.hubloops.specs.Loops.{Ran, CountsMore, UsesTurns, LeavesRest, LastWas, EndsAt}

-- ---- counts

pub rose_none : (n : ℕ) → RoseBy 0 n n
rose_none n = inl (omega arith)

next_or_last : (now next : ℕ) → next ≡ next_count now → (next ≡ now + 1) ⊎ (2 ^ 64 - 1 ≤ next)
next_or_last now next h = search (arith, h)

pub rose_more : (k before now next : ℕ) → RoseBy k before now → next ≡ next_count now → RoseBy (k + 1) before next
rose_more k before now next (inl e) h = elim (next_or_last now next h) [ inl f ↦ inl (omega arith) | inr f ↦ inr f ]
rose_more k before now next (inr e) h = inr (omega arith)

pub rose_join : (j k a b c : ℕ) → RoseBy j a b → RoseBy k b c → RoseBy (j + k) a c
rose_join j k a b c p (inr e) = inr e
rose_join j k a b c (inl d) (inl e) = inl (omega arith)
rose_join j k a b c (inr d) (inl e) = inr (omega arith)

pub counts_none : (a : Option ℕ) → CountsMore 0 a a
counts_none None = tt
counts_none (Some n) = rose_none n

pub counts_one : (a b : Option ℕ) → CountsOne a b → CountsMore 1 a b
counts_one None b p = tt
counts_one (Some n) None p = absurd p
counts_one (Some n) (Some m) p = rose_more 0 n n m (rose_none n) p

pub counts_join : (j k : ℕ) (a b c : Option ℕ) → CountsMore j a b → CountsMore k b c → CountsMore (j + k) a c
counts_join j k None b c p q = tt
counts_join j k (Some n) None c p q = absurd p
counts_join j k (Some n) (Some m) None p q = absurd q
counts_join j k (Some n) (Some m) (Some l) p q = rose_join j k n m l p q

-- ---- what is told

pub known_none : (given : Option (List ℕ)) → given ≡ append_known given []
known_none None = refl
known_none (Some bs) = ap (λ (os : List ℕ). Some os) (sym (append-nil bs))

pub known_join : (given : Option (List ℕ)) (xs ys : List ℕ) → append_known (append_known given xs) ys ≡ append_known given (xs ++ ys)
known_join None xs ys = refl
known_join (Some bs) xs ys = ap (λ (os : List ℕ). Some os) (append_assoc bs xs ys)

pub tells_none : {A : Type 0} (a : Option (List A)) → TellsMore a a []
tells_none None = refl
tells_none (Some x) = sym (append-nil x)

pub tells_join : {A : Type 0} (a b c : Option (List A)) (xs ys : List A) → TellsMore a b xs → TellsMore b c ys → TellsMore a c (xs ++ ys)
tells_join {A} None b c xs ys p q = subst (λ (s : Option (List A)). TellsMore s c ys) p q
tells_join (Some x) None None xs ys p q = tt
tells_join (Some x) None (Some z) xs ys p q = absurd cc
tells_join (Some x) (Some y) None xs ys p q = tt
tells_join {A} (Some x) (Some y) (Some z) xs ys p q = q ∙ (ap (λ (s : List A). s ++ ys) p ∙ append_assoc x xs ys)

-- ---- calls

leads_join : (a b c : AskingHub) (xs ys : List HubCall) → Leads a xs b → Leads b ys c → Leads a (xs ++ ys) c
leads_join a b c [] ys p q = subst (λ (h : AskingHub). Leads h ys c) p q
leads_join a b c (x ∷ xs) ys p q = (p.0, p.1, leads_join p.0 b c xs ys p.2 q)

pub to_none : (s : Option GateState) → LeadsTo [] s s
unfolding LeadsTo
to_none None = tt
to_none (Some s) = record { leads = refl; quit = refl; counted = rose_none s.calls; over = refl }

pub to_one : (call : HubCall) (a b : Option GateState) → DoesTurn call a b → LeadsTo (call ∷ []) a b
unfolding LeadsTo
to_one call None None m = tt
to_one call None (Some b) m = absurd m
to_one call (Some a) None m = absurd m
to_one call (Some a) (Some b) m = record {
  leads = (b.hub, m.does, refl);
  quit = m.quit;
  counted = rose_more 0 a.calls a.calls b.calls (rose_none a.calls) m.counted;
  over = m.over;
}

pub to_join : (xs ys : List HubCall) (a b c : Option GateState) → LeadsTo xs a b → LeadsTo ys b c → LeadsTo (xs ++ ys) a c
unfolding LeadsTo
to_join xs ys None None None p q = tt
to_join xs ys None None (Some c) p q = absurd q
to_join xs ys None (Some b) c p q = absurd p
to_join xs ys (Some a) None c p q = absurd p
to_join xs ys (Some a) (Some b) None p q = absurd q
to_join xs ys (Some a) (Some b) (Some c) p q = record {
  leads = leads_join a.hub b.hub c.hub xs ys p.leads q.leads;
  quit = q.quit ∙ p.quit;
  counted = subst (λ (n : ℕ). RoseBy n a.calls c.calls) (sym (length-append xs ys)) (rose_join (length xs) (length ys) a.calls b.calls c.calls p.counted q.counted);
  over = q.over ∙ p.over;
}

-- a call behind which the caller waited
pub turn_waits : (call : HubCall) (a b c : Option GateState) → DoesTurn call a b → Waits b c → DoesTurn call a c
turn_waits call a None c p w = subst (λ (s : Option GateState). DoesTurn call a s) (sym w) p
turn_waits call None (Some b) c p w = absurd p
turn_waits call (Some a) (Some b) c p w = subst (λ (s : Option GateState). DoesTurn call (Some a) s) (sym w) (record { does = p.does; quit = p.quit; counted = p.counted; over = p.over })

pub turn_may_wait : (idle : Bool) (call : HubCall) (a b c : Option GateState) → DoesTurn call a b → WaitsUnless idle b c → DoesTurn call a c
turn_may_wait true call a b c p w = subst (λ (s : Option GateState). DoesTurn call a s) (sym w) p
turn_may_wait false call a b c p w = turn_waits call a b c p w

-- where nothing was taken the caller may wait, behind a test that changed nothing
pub idle_after_none : (a b : Option GateState) (count : ℕ) → count ≡ 0 → b ≡ a → IsIdle (count == 0) a → IsIdle true b
idle_after_none a b count none e idle = subst (λ (s : Option GateState). IsIdle true s) (sym e) (subst (λ (n : ℕ). IsIdle (n == 0) a) none idle)

-- whether it is to stop stays
pub answers_after : (xs : List HubCall) (a b : Option GateState) (answer : Bool) → LeadsTo xs a b → Answers a answer → Answers b answer
unfolding LeadsTo
answers_after xs None None answer p h = tt
answers_after xs None (Some b) answer p h = absurd p
answers_after xs (Some a) None answer p h = absurd p
answers_after xs (Some a) (Some b) answer p h = h ∙ sym p.quit

pub still_on : (call : HubCall) (a b : Option GateState) → DoesTurn call a b → GoesOn a → GoesOn b
still_on call a b turn on = answers_after (call ∷ []) a b false (to_one call a b turn) on

pub goes_on_by : (a b : Option GateState) (answer : Bool) → b ≡ a → Answers a answer → answer ≡ false → GoesOn b
goes_on_by a b answer same told is = subst (λ (s : Option GateState). GoesOn s) (sym same) (subst (λ (c : Bool). Answers a c) is told)

pub done_by : (s : Option GateState) (answer : Bool) → Answers s answer → answer ≡ true → WasDone s
done_by s answer told is = subst (λ (b : Bool). Answers s b) is told

pub stops_now : (s : Option GateState) → WasDone s → StopsAtOnce s 0
stops_now None done = tt
stops_now (Some s) done = (sym done, refl)

true_is_false : (a b : Bool) → b ≡ true → b ≡ a → false ≡ a → ⊥
true_is_false a b is same on = absurd cc

-- a gate that tells isn't done where it goes on
pub stops_where_on : (s : Option GateState) (used : ℕ) → WasDone s → GoesOn s → StopsAtOnce s used
stops_where_on None used done on = tt
stops_where_on (Some s) used done on = absurd (true_is_false s.quit true refl done on)

-- no turn was used so far, or a gate that tells isn't to stop
abbrev pub WentOn : Option GateState → ℕ → Type 0
WentOn gate used = (used ≡ 0) ⊎ GoesOn gate

pub stops_join : (ys : List HubCall) (b c : Option GateState) (used more all : ℕ) → all ≡ used + more → LeadsTo ys b c → WentOn b used → StopsAtOnce c more → StopsAtOnce c all
unfolding LeadsTo
stops_join ys b None used more all e p on stop = tt
stops_join ys None (Some c) used more all e p on stop = absurd p
stops_join ys (Some b) (Some c) used more all e p (inl none) stop = (stop.0, omega (arith, stop.1))
stops_join ys (Some b) (Some c) used more all e p (inr on) stop = absurd (true_is_false b.quit c.quit stop.0 p.quit on)

pub all_join : {A : Type 0} (P : A → Type 0) (xs ys : List A) → AllByRecursion P xs → AllByRecursion P ys → AllByRecursion P (xs ++ ys)
all_join P [] ys p q = q
all_join P (x ∷ xs) ys p q = (p.0, all_join P xs ys p.1 q)

pub ran_none : (P : HubCall → Type 0) (a b : Option GateState) → b ≡ a → Ran P [] a b
ran_none P a b e = subst (λ (s : Option GateState). Ran P [] a s) (sym e) (record { kinds = tt; leads = to_none a })

-- one call, behind a test that changed nothing
pub ran_one : (P : HubCall → Type 0) (call : HubCall) (a b c : Option GateState) → P call → b ≡ a → DoesTurn call b c → Ran P (call ∷ []) a c
ran_one P call a b c kind e turn = subst (λ (s : Option GateState). Ran P (call ∷ []) s c) e (record { kinds = (kind, tt); leads = to_one call b c turn })

pub ran_join : (P : HubCall → Type 0) (xs ys : List HubCall) (a b c : Option GateState) → Ran P xs a b → Ran P ys b c → Ran P (xs ++ ys) a c
ran_join P xs ys a b c p q = record { kinds = all_join P xs ys p.kinds q.kinds; leads = to_join xs ys a b c p.leads q.leads }

pub last_one : (P : HubCall → Type 0) (call : HubCall) → P call → LastWas P (call ∷ [])
last_one P call p = ([], call, refl, p)

pub last_join : (P : HubCall → Type 0) (xs ys : List HubCall) → LastWas P ys → LastWas P (xs ++ ys)
last_join P xs ys (front, call, e, p) = (xs ++ front, call, ap (λ (os : List HubCall). xs ++ os) e ∙ sym (append_assoc xs front (call ∷ [])), p)

pub at_one : (G P : HubCall → Type 0) (call : HubCall) → P call → EndsAt G P (call ∷ [])
at_one G P call p = ([], call, refl, tt, p)

pub at_join : (G P : HubCall → Type 0) (xs ys : List HubCall) → AllByRecursion G xs → EndsAt G P ys → EndsAt G P (xs ++ ys)
at_join G P xs ys all (front, call, e, before, p) =
    (xs ++ front, call, ap (λ (os : List HubCall). xs ++ os) e ∙ sym (append_assoc xs front (call ∷ [])), all_join G xs front all before, p)

-- ---- turns

pub uses_more : (end : LoopEnd) (used more left turns : ℕ) → UsesTurns end more left → left + used ≡ turns → UsesTurns end (used + more) turns
uses_more ends.Turns used more left turns p e = omega arith
uses_more ends.Finished used more left turns p e = omega arith
uses_more ends.ReadFault used more left turns p e = omega arith
uses_more ends.WriteFault used more left turns p e = omega arith
uses_more ends.LinkFault used more left turns p e = omega arith
uses_more ends.NoMemory used more left turns p e = omega arith

-- the same where the numbers of calls of both sides are counted apart
pub uses_join : (end : LoopEnd) (xs ys : List HubCall) (i j left turns : ℕ) → left + (length xs + i) ≡ turns → UsesTurns end (length ys + j) left → UsesTurns end (length (xs ++ ys) + (i + j)) turns
uses_join end xs ys i j left turns e p =
    let same : (length xs + i) + (length ys + j) ≡ length (xs ++ ys) + (i + j) = omega (arith, length-append xs ys) in
    subst (λ (u : ℕ). UsesTurns end u turns) same (uses_more end (length xs + i) (length ys + j) left turns p e)

pub leaves_none : (A : Type 0) (end : LoopEnd) → LeavesRest {A = A} end []
leaves_none A ends.Turns = tt
leaves_none A ends.WriteFault = tt
leaves_none A ends.Finished = refl
leaves_none A ends.ReadFault = refl
leaves_none A ends.LinkFault = refl
leaves_none A ends.NoMemory = refl
