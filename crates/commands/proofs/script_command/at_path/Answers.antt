use Rattle.std.proofs.Common.{subst, sym, ap}
use Rattle.push_outside.specs.Outside.{Adds, Telling}
use Rattle.commands.specs.Runs.{MayHaveGiven, UsesAtMost}
use Rattle.replay.specs.TextWords.{by_notices}
use Rattle.scripts.specs.Sources.{front_read}
use Rattle.scripts.proofs.Written.{answered, unread_is, starved_is}
use Rattle.commands.specs.ScriptCommands.{task_reply}
use Rattle.commands.proofs.Returning.{source_back, source_failed, source_starved}
use Rattle.commands.proofs.Running.{replied_back, brought, failed_open, used_most, used_none}
use Rattle.commands.proofs.script_command.at_path.Goals as goal

pub returns-in-Ok-clause-replied : goal.returns-in-Ok-clause-replied
returns-in-Ok-clause-replied g c = λ octets may.
    replied_back c.args.task _ _ _ _ _ _ _ _ _ _ _ (brought _ _ _ _ _ c.in-Ok.ensures.faults c.in-Ok.ensures.reads c.back_in.ensures.reads) c.in-Ok.ensures.fresh c.on_source-outcome.ensures.gave c.on_source-outcome.ensures.replied c.back_in.ensures.used octets
    (subst (λ before. MayHaveGiven before (g.O.Outside.told c.back_in.new.self).used octets) (sym (ap (λ (t : Telling). t.used) c.in-Ok.ensures.told)) may)

pub returns-in-Err-Failed-clause-replied : goal.returns-in-Err-Failed-clause-replied
returns-in-Err-Failed-clause-replied g c = λ octets may.
    let reply = task_reply by_notices c.args.task (front_read octets) in
    answered _ reply _ _ _ _ _ (unread_is _ reply (failed_open g.row.O-In.Denot _ _ _ c.in-Err-Failed.field-0-is c.in-Err-Failed.ensures.reads)) c.tell.ensures.told

pub returns-in-Err-NoMemory-clause-replied : goal.returns-in-Err-NoMemory-clause-replied
returns-in-Err-NoMemory-clause-replied g c = λ octets may.
    let reply = task_reply by_notices c.args.task (front_read octets) in
    answered _ reply _ _ _ _ _ (starved_is _ reply) c.tell-in-Err-NoMemory.ensures.told

pub returns-in-Ok-clause-used : goal.returns-in-Ok-clause-used
returns-in-Ok-clause-used g c =
    subst (λ before. UsesAtMost before (g.O.Outside.told c.back_in.new.self).used) (ap (λ (t : Telling). t.used) c.in-Ok.ensures.told)
    (used_most _ _ _ _ _ _ c.in-Ok.ensures.fresh c.on_source-outcome.ensures.gave c.on_source-outcome.ensures.most c.back_in.ensures.used)

pub returns-in-Err-Failed-clause-used : goal.returns-in-Err-Failed-clause-used
returns-in-Err-Failed-clause-used g c = subst (UsesAtMost (g.O.Outside.told c.args.outside.now).used) (sym (ap (λ (t : Telling). t.used) c.in-Err-Failed.ensures.told)) (used_none _)

pub returns-in-Err-NoMemory-clause-used : goal.returns-in-Err-NoMemory-clause-used
returns-in-Err-NoMemory-clause-used g c = subst (UsesAtMost (g.O.Outside.told c.args.outside.now).used) (sym (ap (λ (t : Telling). t.used) c.in-Err-NoMemory.ensures.told)) (used_none _)

pub returns-in-Ok-clause-returned : goal.returns-in-Ok-clause-returned
returns-in-Ok-clause-returned g c =
    source_back c.args.path.now _ _ _ _ _ _ _ _ _ (subst (λ o. Adds (g.O.Outside.told c.args.outside.now).opened o c.args.path.now) (sym (ap (λ (t : Telling). t.opened) c.back_in.ensures.told)) c.in-Ok.ensures.opened)
    (ap (λ (t : Telling). t.used) c.in-Ok.ensures.told) c.back_in.ensures.used

pub returns-in-Err-Failed-clause-returned : goal.returns-in-Err-Failed-clause-returned
returns-in-Err-Failed-clause-returned g c = source_failed c.args.path.now _ _ _ _ _ _ (rw c.in-Err-Failed.field-0-is at c.in-Err-Failed.ensures.opened) (ap (λ (t : Telling). t.used) c.in-Err-Failed.ensures.told) (rw c.in-Err-Failed.field-0-is at c.in-Err-Failed.ensures.reads).1

pub returns-in-Err-NoMemory-clause-returned : goal.returns-in-Err-NoMemory-clause-returned
returns-in-Err-NoMemory-clause-returned g c = source_starved c.args.path.now _ _ _ _ _ _ (rw c.in-Err-NoMemory.field-0-is at c.in-Err-NoMemory.ensures.opened) (ap (λ (t : Telling). t.used) c.in-Err-NoMemory.ensures.told)
