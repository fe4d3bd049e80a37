-- What jobs do over any gate.
--     ReadsSession, WritesSession      the loop of a session's line or wire, and what others are told then
--     HearsLink      the loop of a link
--     DoesWork      what a job does, by its work
use Rattle.std.specs.Prelude.{◌≡◌, ◌⊎◌, ℕ, List, None, Some}
use Rattle.std.specs.declared.option.Option.{Option}
use Rattle.push_base.specs.Causes.{Rose}
use Rattle.hubloops.specs.declared.loop_end.LoopEnd.{LoopEnd}
use Rattle.hubloops.specs.declared.jobs.Work.{Work}
use Rattle.hubloops.specs.declared.jobs.Work.TheVariants as works
use Rattle.hubloops.specs.Calls.{Left}
use Rattle.hubloops.specs.Gates.{GateState, DoesApart, Tells, with_line, with_session}
use Rattle.hubloops.specs.Loops.{Observed, observed, Starves}
use Rattle.hubloops.specs.Reader.{ReadsUntil}
use Rattle.hubloops.specs.Writer.{WritesUntil}
use Rattle.hubloops.specs.LinkReader.{LinkSeen, HearsUntil}
use Rattle.hubloops.specs.Ticker.{TicksUntil}

-- the loop of a session's line ended so, and then others were told that the line is over
abbrev pub ReadsSession : ℕ → Observed ℕ → Observed ℕ → Option (List ℕ) → ℕ → LoopEnd → Type 0
ReadsSession session before after left turns end =
    (gate : Option GateState)
    × (Starves before (record after { gate = gate }) end ⊎ ReadsUntil session before (record after { gate = gate }) left turns end)
    × Tells (with_line session) gate after.gate

-- the loop of a session's wire ended so, then the session's connection was gone, and then others were told that it has ended
abbrev pub WritesSession : ℕ → Observed ℕ → Observed ℕ → ℕ → LoopEnd → Type 0
WritesSession session before after turns end =
    (gate : Option GateState) × (gone : Option GateState)
    × (Starves before (record after { gate = gate }) end ⊎ WritesUntil session before (record after { gate = gate }) turns end)
    × DoesApart (Left session) gate gone × Tells with_session gone after.gate

-- the loop of a link ended so; the datagrams may have failed
abbrev pub HearsLink : ℕ → Type 0 → LinkSeen → LinkSeen → Option (List (List ℕ)) → ℕ → LoopEnd → Type 0
HearsLink link failed before after left turns end = Starves before after end ⊎ HearsUntil link failed before after left turns end

-- what a job did, by its work: how its object is observed with a gate is given for each kind. Lines, wires and clocks aren't
-- given back
abbrev pub DoesWork : {L K D T : Type 0} → (Option GateState → L → Observed ℕ) → (Option GateState → K → Observed ℕ) → (Option GateState → D → LinkSeen) → (D → Option (List (List ℕ))) → (D → ℕ) → (Option GateState → T → Observed ℕ) → Work L K D T → Option D → Option GateState → Option GateState → ℕ → LoopEnd → Type 0
DoesWork line wire datagrams left faults clock (works.Read session l) links before after turns end =
    (told : Option (List ℕ)) × (calls : Option ℕ) × (rest : Option (List ℕ)) × ReadsSession session (line before l) (observed after told calls) rest turns end
DoesWork line wire datagrams left faults clock (works.Write session w) links before after turns end =
    (told : Option (List ℕ)) × (calls : Option ℕ) × WritesSession session (wire before w) (observed after told calls) turns end
DoesWork line wire datagrams left faults clock (works.Hear link d) None before after turns end = ⊥
DoesWork line wire datagrams left faults clock (works.Hear link d) (Some e) before after turns end =
    HearsLink link (Rose (faults d) (faults e)) (datagrams before d) (datagrams after e) (left e) turns end
DoesWork line wire datagrams left faults clock (works.Tick c) links before after turns end =
    (told : Option (List ℕ)) × (calls : Option ℕ) × TicksUntil (clock before c) (observed after told calls) turns end
