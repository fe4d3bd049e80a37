use Rattle.std.proofs.Common.{Err, ◌∙◌, ap, subst, sym}
use Rattle.push_outside.specs.Outside.{Telling}
use Rattle.scripts.specs.declared.read.ReadError.{ReadError}
use Rattle.commands.specs.Runs.{MayHaveGiven, UsesAtMost}
use Rattle.commands.proofs.Returning.{source_later}
use Rattle.commands.proofs.Following.{follows-read, starved, not-read}
use Rattle.commands.proofs.subscribe_command.subscribe_at.Goals as goal

pub returns-in-Ok-clause-followed : goal.returns-in-Ok-clause-followed
returns-in-Ok-clause-followed g c = λ octets may.
    follows-read _ _ _ _ _ _ _ _ _ _ _ c.deref.result.now octets _ c.read_path.ensures.told c.read_path.ensures.later c.read_path.ensures.others
    (c.deref.ensures.value ∙ c.in-Ok.ensures.octets octets (subst (λ u. MayHaveGiven (g.O.Outside.told c.args.outside.now).used u octets) (ap (λ (t : Telling). t.used) c.follow.ensures.told) may)) c.follow.ensures.followed

pub returns-in-Err-Failed-clause-followed : goal.returns-in-Err-Failed-clause-followed
returns-in-Err-Failed-clause-followed g c = λ octets may.
    not-read _ _ _ _ (ap (λ (t : Telling). t.dialled) c.read_path.ensures.told) (ap (λ (t : Telling). t.lines) c.read_path.ensures.told) (ap (λ (t : Telling). t.wires) c.read_path.ensures.told) (ap (λ (t : Telling). t.moments) c.read_path.ensures.told)
    (c.in-Err-Failed.ensures.failed (ap (λ (fault : ReadError). Err fault) c.in-Err-Failed.field-0-is)) c.tell.ensures.told

pub returns-in-Err-NoMemory-clause-followed : goal.returns-in-Err-NoMemory-clause-followed
returns-in-Err-NoMemory-clause-followed g c = λ octets may.
    starved _ _ _ _ (ap (λ (t : Telling). t.dialled) c.read_path.ensures.told) (ap (λ (t : Telling). t.lines) c.read_path.ensures.told) (ap (λ (t : Telling). t.wires) c.read_path.ensures.told) (ap (λ (t : Telling). t.moments) c.read_path.ensures.told)
    c.tell-in-Err-NoMemory.ensures.told

pub returns-in-Ok-clause-used : goal.returns-in-Ok-clause-used
returns-in-Ok-clause-used g c = subst (UsesAtMost (g.O.Outside.told c.args.outside.now).used) (sym (ap (λ (t : Telling). t.used) c.follow.ensures.told)) c.read_path.ensures.used

pub returns-in-Ok-clause-returned : goal.returns-in-Ok-clause-returned
returns-in-Ok-clause-returned g c =
    source_later c.args.path.now _ _ _ _ _ _ _ _ (ap (λ (t : Telling). t.opened) c.follow.ensures.told) (ap (λ (t : Telling). t.used) c.follow.ensures.told) c.in-Ok.ensures.back.0 c.in-Ok.ensures.back.1
