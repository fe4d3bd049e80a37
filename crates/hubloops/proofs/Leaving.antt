-- What is left of a gate tells what the gate did.
use Rattle.std.proofs.Common.{◌≡◌, ℕ, ◌⊎◌, List, sym, subst}
use Rattle.std.specs.declared.option.Option.{Option}
use Rattle.hubloops.specs.declared.loop_end.LoopEnd.{LoopEnd}
use Rattle.hubloops.specs.Calls.{Left}
use Rattle.hubloops.specs.Gates.{GateState, DoesApart, Tells, with_session}
use Rattle.hubloops.specs.Loops.{Observed, observed, Starves}
use Rattle.hubloops.specs.Writer.{WritesUntil}
use Rattle.hubloops.specs.LinkReader.{LinkSeen, seen}
use Rattle.hubloops.specs.Ticker.{TicksUntil}
use Rattle.hubloops.specs.Runs.{ReadsSession, WritesSession, HearsLink}

pub reads_left : (session : ℕ) (before : Observed ℕ) (a b : Option GateState) (told : Option (List ℕ)) (calls : Option ℕ) (rest : Option (List ℕ)) (turns : ℕ) (end : LoopEnd)
    → b ≡ a → ReadsSession session before (observed a told calls) rest turns end → ReadsSession session before (observed b told calls) rest turns end
reads_left session before a b told calls rest turns end e p = subst (λ (s : Option GateState). ReadsSession session before (observed s told calls) rest turns end) (sym e) p

pub writes_left : (session : ℕ) (before : Observed ℕ) (a b : Option GateState) (told : Option (List ℕ)) (calls : Option ℕ) (turns : ℕ) (end : LoopEnd)
    → b ≡ a → WritesSession session before (observed a told calls) turns end → WritesSession session before (observed b told calls) turns end
writes_left session before a b told calls turns end e p = subst (λ (s : Option GateState). WritesSession session before (observed s told calls) turns end) (sym e) p

pub hears_left : (link : ℕ) (failed : Type 0) (before : LinkSeen) (a b : Option GateState) (given sent : Option (List (List ℕ))) (calls : Option ℕ) (rest : Option (List (List ℕ))) (turns : ℕ) (end : LoopEnd)
    → b ≡ a → HearsLink link failed before (seen a given sent calls) rest turns end → HearsLink link failed before (seen b given sent calls) rest turns end
hears_left link failed before a b given sent calls rest turns end e p = subst (λ (s : Option GateState). HearsLink link failed before (seen s given sent calls) rest turns end) (sym e) p

pub ticks_left : (before : Observed ℕ) (a b : Option GateState) (told : Option (List ℕ)) (calls : Option ℕ) (turns : ℕ) (end : LoopEnd)
    → b ≡ a → TicksUntil before (observed a told calls) turns end → TicksUntil before (observed b told calls) turns end
ticks_left before a b told calls turns end e p = subst (λ (s : Option GateState). TicksUntil before (observed s told calls) turns end) (sym e) p

-- a wire that is flushed behind the loop tells what it told
pub writes_flushed : (session : ℕ) (before : Observed ℕ) (gate gone after : Option GateState) (told now : Option (List ℕ)) (calls calls_now : Option ℕ) (turns : ℕ) (end : LoopEnd)
    → now ≡ told → calls_now ≡ calls → Starves before (observed gate told calls) end ⊎ WritesUntil session before (observed gate told calls) turns end
    → DoesApart (Left session) gate gone → Tells with_session gone after → WritesSession session before (observed after now calls_now) turns end
writes_flushed session before gate gone after told now calls calls_now turns end e f run left tells =
    let P : Option (List ℕ) → Type 0 = λ t. WritesSession session before (observed after t calls_now) turns end in
    let Q : Option ℕ → Type 0 = λ n. WritesSession session before (observed after told n) turns end in
    subst P (sym e) (subst Q (sym f) (gate, gone, run, left, tells))
