use Rattle.std.proofs.Common.{refl, sym, inl, inr}
use Rattle.serving.specs.declared.serve_end.ServeEnd.TheVariants as ends
use Rattle.scripts.specs.declared.outcome.Outcome.{Outcome}
use Rattle.scripts.specs.declared.outcome.Outcome.TheVariants as outcomes
use Rattle.scripts.specs.Outcomes.{status_of}
use Rattle.commands.specs.Status.{code_of}
use Rattle.commands.specs.declared.status.Status.{Status}
use Rattle.commands.specs.declared.status.Status.TheVariants as statuses
use Rattle.commands.proofs.Serving.{tells_end}
use Rattle.commands.proofs.Sharing.{gives_up, told_not}
use Rattle.commands.proofs.serve_command.tell_end.Goals as goal

pub returns-in-OutsideFault-clause-told : goal.returns-in-OutsideFault-clause-told
returns-in-OutsideFault-clause-told g c = tells_end Status code_of statuses.OutsideFault (statuses.Ended outcomes.WriteFault) _ _ _ _ _ ends.OutsideFault _ refl refl refl (inl (sym c.in-OutsideFault.is)) c.tell_status.ensures.told

pub returns-in-NoMemory-clause-told : goal.returns-in-NoMemory-clause-told
returns-in-NoMemory-clause-told g c = tells_end Outcome status_of outcomes.NoMemory outcomes.WriteFault _ _ _ _ _ ends.NoMemory _ refl refl refl (inr refl) c.tell.ensures.told

pub returns-in-OutsideFault-clause-full_run : goal.returns-in-OutsideFault-clause-full_run
returns-in-OutsideFault-clause-full_run g c = told_not _ _ (gives_up Status code_of statuses.OutsideFault (statuses.Ended outcomes.WriteFault) c.tell_status.result _ refl refl c.tell_status.ensures.cause)

pub returns-in-NoMemory-clause-full_run : goal.returns-in-NoMemory-clause-full_run
returns-in-NoMemory-clause-full_run g c = told_not _ _ (gives_up Outcome status_of outcomes.NoMemory outcomes.WriteFault c.tell.result _ refl refl c.tell.ensures.cause)
