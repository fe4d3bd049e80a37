-- What a job did, of a link whose datagrams are given back.
use Rattle.std.proofs.Common.{ℕ, List}
use Rattle.std.specs.Prelude.{None, Some, IsSomeAnd}
use Rattle.std.specs.declared.option.Option.{Option}
use Rattle.push_base.specs.Causes.{Rose}
use Rattle.hubloops.specs.declared.loop_end.LoopEnd.{LoopEnd}
use Rattle.hubloops.specs.declared.jobs.Work.TheVariants as works
use Rattle.hubloops.specs.Gates.{GateState}
use Rattle.hubloops.specs.Loops.{Observed}
use Rattle.hubloops.specs.LinkReader.{LinkSeen}
use Rattle.hubloops.specs.Runs.{HearsLink, DoesWork}

pub does_hear : {L K D T : Type 0} (line : Option GateState → L → Observed ℕ) (wire : Option GateState → K → Observed ℕ) (datagrams : Option GateState → D → LinkSeen) (left : D → Option (List (List ℕ))) (faults : D → ℕ) (clock : Option GateState → T → Observed ℕ) (link : ℕ) (d : D) (links : Option D) (before after : Option GateState) (turns : ℕ) (end : LoopEnd)
    → IsSomeAnd links (λ e. HearsLink link (Rose (faults d) (faults e)) (datagrams before d) (datagrams after e) (left e) turns end) → DoesWork line wire datagrams left faults clock (works.Hear link d) links before after turns end
does_hear line wire datagrams left faults clock link d None before after turns end p = absurd p
does_hear line wire datagrams left faults clock link d (Some e) before after turns end p = p
