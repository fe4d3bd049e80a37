use Rattle.std.proofs.Common.{ℕ, List, Err, refl, ◌∙◌, ap, subst, sym}
use Rattle.push_outside.specs.Outside.{Telling}
use Rattle.scripts.specs.declared.read.ReadError.{ReadError}
use Rattle.scripts.specs.Outcomes.{status_of}
use Rattle.scripts.specs.Sources.{front_read}
use Rattle.scripts.specs.declared.outcome.Outcome.{Outcome}
use Rattle.scripts.specs.declared.outcome.Outcome.TheVariants as outcomes
use Rattle.configurations.specs.Configurations.{serving_of}
use Rattle.commands.specs.Runs.{MayHaveGiven, UsesAtMost}
use Rattle.commands.specs.Serving.{Shares}
use Rattle.commands.specs.Status.{code_of}
use Rattle.commands.proofs.Returning.{source_later}
use Rattle.commands.proofs.Serving.{serves-read, starved, unread, unserved_reading}
use Rattle.commands.proofs.Sharing.{gives_up, shares_nothing}
use Rattle.commands.proofs.serve_command.serve_at.Goals as goal

pub returns-in-Ok-clause-served : goal.returns-in-Ok-clause-served
returns-in-Ok-clause-served g c = λ octets may.
    serves-read _ _ _ _ _ _ _ _ _ _ _ _ c.deref.result.now octets _ c.read_path.ensures.told c.read_path.ensures.later c.read_path.ensures.others
    (c.deref.ensures.value ∙ c.in-Ok.ensures.octets octets (subst (λ u. MayHaveGiven (g.O.Outside.told c.args.outside.now).used u octets) (ap (λ (t : Telling). t.used) c.serve_text.ensures.told) may)) c.serve_text.ensures.served

pub returns-in-Err-Failed-clause-served : goal.returns-in-Err-Failed-clause-served
returns-in-Err-Failed-clause-served g c = λ octets may.
    unread _ _ _ _ _ (unserved_reading _ _ c.read_path.ensures.told) (c.in-Err-Failed.ensures.failed (ap (λ (fault : ReadError). Err fault) c.in-Err-Failed.field-0-is)) c.tell.ensures.told

pub returns-in-Err-NoMemory-clause-served : goal.returns-in-Err-NoMemory-clause-served
returns-in-Err-NoMemory-clause-served g c = λ octets may.
    starved _ _ _ _ _ (unserved_reading _ _ c.read_path.ensures.told) c.tell-in-Err-NoMemory.ensures.told

pub returns-in-Ok-clause-shared : goal.returns-in-Ok-clause-shared
returns-in-Ok-clause-shared g c = λ octets may.
    subst (λ (t : List ℕ). Shares (serving_of t) (code_of c.serve_text.result) (g.W.Register.hubs c.args.register.now) (g.W.Register.hubs c.serve_text.new.register))
    (c.deref.ensures.value ∙ c.in-Ok.ensures.octets octets (subst (λ u. MayHaveGiven (g.O.Outside.told c.args.outside.now).used u octets) (ap (λ (t : Telling). t.used) c.serve_text.ensures.told) may)) c.serve_text.ensures.shared

pub returns-in-Err-Failed-clause-shared : goal.returns-in-Err-Failed-clause-shared
returns-in-Err-Failed-clause-shared g c = λ octets may.
    shares_nothing (serving_of (front_read octets)) (status_of c.tell.result) (g.W.Register.hubs c.args.register.now) (g.W.Register.hubs c.args.register.now)
    (gives_up Outcome status_of outcomes.ReadFault outcomes.WriteFault c.tell.result _ refl refl c.tell.ensures.cause) refl

pub returns-in-Err-NoMemory-clause-shared : goal.returns-in-Err-NoMemory-clause-shared
returns-in-Err-NoMemory-clause-shared g c = λ octets may.
    shares_nothing (serving_of (front_read octets)) (status_of c.tell-in-Err-NoMemory.result) (g.W.Register.hubs c.args.register.now) (g.W.Register.hubs c.args.register.now)
    (gives_up Outcome status_of outcomes.NoMemory outcomes.WriteFault c.tell-in-Err-NoMemory.result _ refl refl c.tell-in-Err-NoMemory.ensures.cause) refl

pub returns-in-Ok-clause-used : goal.returns-in-Ok-clause-used
returns-in-Ok-clause-used g c = subst (UsesAtMost (g.O.Outside.told c.args.outside.now).used) (sym (ap (λ (t : Telling). t.used) c.serve_text.ensures.told)) c.read_path.ensures.used

pub returns-in-Ok-clause-returned : goal.returns-in-Ok-clause-returned
returns-in-Ok-clause-returned g c =
    source_later c.args.path.now _ _ _ _ _ _ _ _ (ap (λ (t : Telling). t.opened) c.serve_text.ensures.told) (ap (λ (t : Telling). t.used) c.serve_text.ensures.told) c.in-Ok.ensures.back.0 c.in-Ok.ensures.back.1
