use Rattle.std.proofs.Common.{refl, inl, inr, ◌∙◌}
use Rattle.serving.specs.declared.serve_end.ServeEnd.TheVariants as ends
use Rattle.scripts.specs.declared.outcome.Outcome.{Outcome}
use Rattle.scripts.specs.declared.outcome.Outcome.TheVariants as outcomes
use Rattle.scripts.specs.Outcomes.{status_of}
use Rattle.commands.proofs.Serving.{tells_end}
use Rattle.commands.proofs.serve_command.tell_totals.Goals as goal

pub returns-in-Ok-clause-told : goal.returns-in-Ok-clause-told
returns-in-Ok-clause-told g c = tells_end Outcome status_of outcomes.Done outcomes.WriteFault _ _ _ _ _ (ends.Served c.args.totals) _ refl refl (c.as_bytes.ensures.value ∙ c.in-Ok.ensures) (inl refl) c.tell.ensures.told

pub returns-in-Err-clause-told : goal.returns-in-Err-clause-told
returns-in-Err-clause-told g c = tells_end Outcome status_of outcomes.NoMemory outcomes.WriteFault _ _ _ _ _ ends.NoMemory _ refl refl refl (inr refl) c.tell-in-Err.ensures.told
