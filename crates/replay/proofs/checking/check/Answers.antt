use Rattle.std.proofs.Common.{Err, ◌∙◌, ap, refl}
use Rattle.replay.specs.WholeTexts.{whole_checked}
use Rattle.scripts.specs.Sources.{front_read}
use Rattle.scripts.specs.Outcomes.{status_of}
use Rattle.scripts.proofs.Written.{answered, always, unread_is, starved_is, replied}
use Rattle.replay.proofs.checking.check.Goals as goal

pub returns-in-Err-Failed-clause-replied : goal.returns-in-Err-Failed-clause-replied
returns-in-Err-Failed-clause-replied g c =
    always _ _ (λ octets. let reply = whole_checked (front_read octets) in answered _ reply _ _ _ _ _ (unread_is _ reply (c.in-Err-Failed.ensures.failed (ap Err c.in-Err-Failed.field-0-is))) c.tell.ensures.told)

pub returns-in-Err-NoMemory-clause-replied : goal.returns-in-Err-NoMemory-clause-replied
returns-in-Err-NoMemory-clause-replied g c =
    always _ _ (λ octets. let reply = whole_checked (front_read octets) in answered _ reply _ _ _ _ _ (starved_is _ reply) c.tell-in-Err-NoMemory.ensures.told)

pub returns-in-Ok-check_reply-clause-replied : goal.returns-in-Ok-check_reply-clause-replied
returns-in-Ok-check_reply-clause-replied g c =
    let told = c.in-Ok-check_reply.field-0.outcome in
    replied whole_checked _ _ _ _ c.in-Ok.script.items _ _ told _ c.in-Ok.ensures.octets
    (ap (λ t. record { status = status_of told; text = t }) c.as_bytes.ensures.value ∙ c.in-Ok-check_reply.ensures.exact ∙ ap whole_checked c.deref.ensures.value)
    refl c.tell-in-Ok-check_reply.ensures.told

pub returns-clause-replied : goal.returns-clause-replied
returns-clause-replied g c =
    always _ _ (λ octets. let reply = whole_checked (front_read octets) in answered _ reply _ _ _ _ _ (starved_is _ reply) c.tell-in-Err.ensures.told)
