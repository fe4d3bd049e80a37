use Rattle.std.proofs.Common.{ap, subst, sym}
use Rattle.push_outside.specs.Outside.{Adds, Telling}
use Rattle.commands.specs.Runs.{UsesAtMost}
use Rattle.commands.proofs.Returning.{on_ok, source_back, source_failed, source_one, source_starved}
use Rattle.commands.proofs.Running.{used_most, used_none}
use Rattle.commands.proofs.configured.read_path.Goals as goal

pub returns-in-Ok-clause-used : goal.returns-in-Ok-clause-used
returns-in-Ok-clause-used g c =
    subst (λ before. UsesAtMost before (g.O.Outside.told c.back_in.new.self).used) (ap (λ (t : Telling). t.used) c.in-Ok.ensures.told)
    (used_most _ _ _ _ _ _ c.in-Ok.ensures.fresh c.read_script-read.ensures.gave c.read_script-read.ensures.most c.back_in.ensures.used)

pub returns-in-Err-Failed-clause-used : goal.returns-in-Err-Failed-clause-used
returns-in-Err-Failed-clause-used g c = subst (UsesAtMost (g.O.Outside.told c.args.outside.now).used) (sym (ap (λ (t : Telling). t.used) c.in-Err-Failed.ensures.told)) (used_none _)

pub returns-in-Err-NoMemory-clause-used : goal.returns-in-Err-NoMemory-clause-used
returns-in-Err-NoMemory-clause-used g c = subst (UsesAtMost (g.O.Outside.told c.args.outside.now).used) (sym (ap (λ (t : Telling). t.used) c.in-Err-NoMemory.ensures.told)) (used_none _)

pub returns-in-Ok-clause-returned : goal.returns-in-Ok-clause-returned
returns-in-Ok-clause-returned g c =
    source_back c.args.path.now _ _ _ _ _ _ _ _ _ (subst (λ o. Adds (g.O.Outside.told c.args.outside.now).opened o c.args.path.now) (sym (ap (λ (t : Telling). t.opened) c.back_in.ensures.told)) c.in-Ok.ensures.opened)
    (ap (λ (t : Telling). t.used) c.in-Ok.ensures.told) c.back_in.ensures.used

pub returns-in-Err-Failed-clause-returned : goal.returns-in-Err-Failed-clause-returned
returns-in-Err-Failed-clause-returned g c = source_failed c.args.path.now _ _ _ _ _ _ (rw c.in-Err-Failed.field-0-is at c.in-Err-Failed.ensures.opened) (ap (λ (t : Telling). t.used) c.in-Err-Failed.ensures.told) (rw c.in-Err-Failed.field-0-is at c.in-Err-Failed.ensures.reads).1

pub returns-in-Err-NoMemory-clause-returned : goal.returns-in-Err-NoMemory-clause-returned
returns-in-Err-NoMemory-clause-returned g c = source_starved c.args.path.now _ _ _ _ _ _ (rw c.in-Err-NoMemory.field-0-is at c.in-Err-NoMemory.ensures.opened) (ap (λ (t : Telling). t.used) c.in-Err-NoMemory.ensures.told)

pub returns-in-Ok-clause-back : goal.returns-in-Ok-clause-back
returns-in-Ok-clause-back g c =
    on_ok c.read_script-read.result _ (
      subst (λ o. Adds (g.O.Outside.told c.args.outside.now).opened o c.args.path.now) (sym (ap (λ (t : Telling). t.opened) c.back_in.ensures.told)) c.in-Ok.ensures.opened,
      source_one _ _ _ _ _ (ap (λ (t : Telling). t.used) c.in-Ok.ensures.told) c.back_in.ensures.used,
    )
