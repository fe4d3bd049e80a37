use Rattle.std.proofs.Common.{Ok, Err, refl, subst}
use Rattle.configurations.specs.Configurations.{serving_of}
use Rattle.configurations.specs.Kept.{ReadsServing, head_kept, serving_kept}
use Rattle.scripts.specs.Outcomes.{status_of}
use Rattle.scripts.specs.declared.outcome.Outcome.{Outcome}
use Rattle.scripts.specs.declared.outcome.Outcome.TheVariants as outcomes
use Rattle.serving.specs.Serving.{is_full_run}
use Rattle.commands.specs.Serving.{first_hub, tells_full_run}
use Rattle.commands.specs.Status.{code_of}
use Rattle.commands.proofs.Serving.{ended_read, numbered, starved, unserved}
use Rattle.commands.proofs.Sharing.{begins_told, gives_up, shares_nothing, shares_read}
use Rattle.commands.proofs.serve_command.serve_text.Goals as goal

pub returns-in-Ok-Whole-clause-served : goal.returns-in-Ok-Whole-clause-served
returns-in-Ok-Whole-clause-served g c =
    ended_read _ _ _ _ (serving_kept c.in-Ok-Whole.configuration) _ _ (subst (ReadsServing c.args.octets.now) c.in-Ok-Whole.field-0-is c.in-Ok-Whole.ensures).0
    tt c.serve_configured-end.ensures.counts c.serve_configured-end.ensures.served c.serve_configured-end.ensures.back c.serve_configured-end.ensures.cause c.tell_end.ensures.told

pub returns-in-Ok-Outside-clause-served : goal.returns-in-Ok-Outside-clause-served
returns-in-Ok-Outside-clause-served g c = numbered _ _ _ _ _ _ refl (subst (ReadsServing c.args.octets.now) c.in-Ok-Outside.field-0-is c.in-Ok-Outside.ensures) c.tell_line.ensures.told

pub returns-in-Err-clause-served : goal.returns-in-Err-clause-served
returns-in-Err-clause-served g c = starved _ _ _ _ _ (unserved _ _ refl) c.tell.ensures.told

pub returns-in-Ok-Whole-clause-shared : goal.returns-in-Ok-Whole-clause-shared
returns-in-Ok-Whole-clause-shared g c =
    shares_read (serving_of c.args.octets.now) (Ok (serving_kept c.in-Ok-Whole.configuration)) (code_of c.tell_end.result) (g.W.Register.hubs c.args.register.now) (g.W.Register.hubs c.serve_configured-end.new.register)
    (subst (ReadsServing c.args.octets.now) c.in-Ok-Whole.field-0-is c.in-Ok-Whole.ensures).0
    (begins_told (tells_full_run (code_of c.tell_end.result)) (is_full_run c.serve_configured-end.result) (first_hub (head_kept c.in-Ok-Whole.configuration)) (g.W.Register.hubs c.args.register.now) (g.W.Register.hubs c.serve_configured-end.new.register)
    c.tell_end.ensures.full_run c.serve_configured-end.ensures.shared)

pub returns-in-Ok-Outside-clause-shared : goal.returns-in-Ok-Outside-clause-shared
returns-in-Ok-Outside-clause-shared g c =
    shares_read (serving_of c.args.octets.now) (Err c.in-Ok-Outside.number) (status_of c.tell_line.result) (g.W.Register.hubs c.args.register.now) (g.W.Register.hubs c.args.register.now)
    (subst (ReadsServing c.args.octets.now) c.in-Ok-Outside.field-0-is c.in-Ok-Outside.ensures) refl

pub returns-in-Err-clause-shared : goal.returns-in-Err-clause-shared
returns-in-Err-clause-shared g c =
    shares_nothing (serving_of c.args.octets.now) (status_of c.tell.result) (g.W.Register.hubs c.args.register.now) (g.W.Register.hubs c.args.register.now)
    (gives_up Outcome status_of outcomes.NoMemory outcomes.WriteFault c.tell.result _ refl refl c.tell.ensures.cause) refl
