use Rattle.std.proofs.Common.{Bool, Err, refl, sym, subst}
use Rattle.push_outside.specs.Opening.{TellsWords}
use Rattle.push_outside.specs.Outside.{Adds}
use Rattle.scripts.specs.Lines.{Word}
use Rattle.configurations.specs.Kept.{head_kept, serving_kept}
use Rattle.serving.specs.Serving.{is_full_run}
use Rattle.hubasking.specs.AskingHubs.{AskingHub}
use Rattle.commands.specs.Serving.{BeginsBy, GivesBack, ServesBy, first_hub}
use Rattle.commands.proofs.Serving.{addresses_kept, links_kept, serves_listening, serves_through}
use Rattle.commands.proofs.Returning.{gives_all, gives_failed, gives_nothing}
use Rattle.commands.proofs.Sharing.{begins_none}
use Rattle.commands.proofs.serve_command.serve_configured.Goals as goal

pub returns-in-Ok-doors-clause-served : goal.returns-in-Ok-doors-clause-served
returns-in-Ok-doors-clause-served g c =
    serves_through (is_full_run c.serve_doors-end.result) (g.O.Outside.told c.args.outside.now) (g.O.Outside.told c.doors.new.self) (g.O.Outside.told c.serve_doors-end.new.outside) (g.O.Outside.told c.back_doors.new.self)
    (g.O.Doors.Doors.accepted c.in-Ok-doors.doors) (g.O.Doors.Doors.accepted c.serve_doors-end.new.doors) (serving_kept c.args.configuration) _ _
    c.in-Ok-doors.ensures.told (subst (λ (w : Word). Adds (g.O.Outside.told c.args.outside.now).listened (g.O.Outside.told c.doors.new.self).listened w) c.as_str.ensures.value c.in-Ok-doors.ensures.listened)
    c.serve_doors-end.ensures.told c.back_doors.ensures.told
    (addresses_kept c.args.configuration c.as_slice-feeds.result.now c.as_slice-feeds.ensures.value) (links_kept c.args.configuration c.as_slice-feeds.result.now c.as_slice-feeds.ensures.value)
    c.serve_doors-end.ensures.few c.in-Ok-doors.ensures.fresh c.serve_doors-end.ensures.heard c.serve_doors-end.ensures.accepted c.serve_doors-end.ensures.started c.back_doors.ensures.accepted

pub returns-clause-served : goal.returns-clause-served
returns-clause-served g c =
    subst (λ (t : Bool). ServesBy t (g.O.Outside.told c.args.outside.now) (g.O.Outside.told c.doors.new.self) (serving_kept c.args.configuration)) (sym c.end_of.ensures.less)
    (serves_listening g.row.O-Doors.Denot (g.O.Outside.told c.args.outside.now) (g.O.Outside.told c.doors.new.self) (serving_kept c.args.configuration) c.in-Err.fault
    c.in-Err.ensures.told
    (subst (λ (w : Word). TellsWords {A = g.row.O-Doors.Denot} (g.O.Outside.told c.args.outside.now).listened (g.O.Outside.told c.doors.new.self).listened (Err c.in-Err.fault) w) c.as_str.ensures.value c.in-Err.ensures.listened))

pub returns-in-Ok-doors-clause-shared : goal.returns-in-Ok-doors-clause-shared
returns-in-Ok-doors-clause-shared g c =
    subst (λ (h : AskingHub). BeginsBy (is_full_run c.serve_doors-end.result) h (g.W.Register.hubs c.args.register.now) (g.W.Register.hubs c.serve_doors-end.new.register)) c.in-Ok.ensures.kept c.serve_doors-end.ensures.shared

pub returns-clause-shared : goal.returns-clause-shared
returns-clause-shared g c = begins_none (is_full_run c.end_of.result) (first_hub (head_kept c.args.configuration)) (g.W.Register.hubs c.args.register.now) (g.W.Register.hubs c.args.register.now) c.end_of.ensures.less refl

pub returns-in_default-clause-back : goal.returns-in_default-clause-back
returns-in_default-clause-back g c = gives_nothing _ _ _ _ (serving_kept c.args.configuration) refl

pub returns-in-Ok-doors-clause-back : goal.returns-in-Ok-doors-clause-back
returns-in-Ok-doors-clause-back g c =
    gives_all (is_full_run c.serve_doors-end.result) (g.O.Outside.told c.args.outside.now) (g.O.Outside.told c.doors.new.self) (g.O.Outside.told c.serve_doors-end.new.outside) (g.O.Outside.told c.back_doors.new.self)
    (g.O.Outside.others c.args.outside.now) (g.O.Outside.others c.back_doors.new.self) (g.O.Doors.Doors.accepted c.serve_doors-end.new.doors) _ (serving_kept c.args.configuration)
    c.in-Ok-doors.ensures.told c.serve_doors-end.ensures.told c.back_doors.ensures.told
    (addresses_kept c.args.configuration c.as_slice-feeds.result.now c.as_slice-feeds.ensures.value) c.serve_doors-end.ensures.back c.back_doors.ensures.accepted

pub returns-clause-back : goal.returns-clause-back
returns-clause-back g c =
    subst (λ (t : Bool). GivesBack t (g.O.Outside.told c.args.outside.now) (g.O.Outside.told c.doors.new.self) (g.O.Outside.others c.args.outside.now) (g.O.Outside.others c.doors.new.self) (serving_kept c.args.configuration)) (sym c.end_of.ensures.less)
    (gives_failed g.row.O-Doors.Denot (g.O.Outside.told c.args.outside.now) (g.O.Outside.told c.doors.new.self) (g.O.Outside.others c.args.outside.now) (g.O.Outside.others c.doors.new.self) (serving_kept c.args.configuration) c.in-Err.fault
    c.in-Err.ensures.told c.in-Err.ensures.others
    (subst (λ (w : Word). TellsWords {A = g.row.O-Doors.Denot} (g.O.Outside.told c.args.outside.now).listened (g.O.Outside.told c.doors.new.self).listened (Err c.in-Err.fault) w) c.as_str.ensures.value c.in-Err.ensures.listened))
