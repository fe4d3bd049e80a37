use Rattle.std.proofs.Common.{◌≡◌, List, ℕ, Err, IfSome, ◌∙◌, ap, refl, subst}
use Rattle.replay.specs.TextWords.{by_notices}
use Rattle.scripts.specs.Sources.{front_read}
use Rattle.replay.specs.WholeTexts.{whole_reply}
use Rattle.replay.specs.KeptEnds.{AreEnds, ends_with}
use Rattle.scripts.specs.Outcomes.{status_of}
use Rattle.scripts.proofs.Written.{answered, always, unread_is, starved_is, replied, replied_as}
use Rattle.replay.proofs.endings.EndsKept.{left-there, left-none, left-are, none-are}
use Rattle.replay.proofs.replaying.replay.Goals as goal

-- ---- what was written

pub returns-in-Err-Failed-clause-replied : goal.returns-in-Err-Failed-clause-replied
returns-in-Err-Failed-clause-replied g c =
    replied_as (whole_reply by_notices) _ _ _ _ _ _ c.without_ends.ensures.outcome
    (always _ _ (λ octets. let reply = whole_reply by_notices (front_read octets) in answered _ reply _ _ _ _ _ (unread_is _ reply (c.in-Err-Failed.ensures.failed (ap Err c.in-Err-Failed.field-0-is))) c.tell.ensures.told))

pub returns-in-Err-NoMemory-clause-replied : goal.returns-in-Err-NoMemory-clause-replied
returns-in-Err-NoMemory-clause-replied g c =
    replied_as (whole_reply by_notices) _ _ _ _ _ _ c.without_ends-in-Err-NoMemory.ensures.outcome
    (always _ _ (λ octets. let reply = whole_reply by_notices (front_read octets) in answered _ reply _ _ _ _ _ (starved_is _ reply) c.tell-in-Err-NoMemory.ensures.told))

pub returns-in-Ok-reply_to-clause-replied : goal.returns-in-Ok-reply_to-clause-replied
returns-in-Ok-reply_to-clause-replied g c =
    let told = c.in-Ok-reply_to.field-0.outcome in
    replied_as (whole_reply by_notices) _ _ _ _ _ _ c.with_ends.ensures.outcome
    (replied (whole_reply by_notices) _ _ _ _ c.in-Ok.script.items _ _ told _ c.in-Ok.ensures.octets
    (ap (λ t. record { status = status_of told; text = t }) c.as_bytes.ensures.value ∙ c.in-Ok-reply_to.ensures.exact)
    refl c.tell-in-Ok-reply_to.ensures.told)

pub returns-in-Err-clause-replied : goal.returns-in-Err-clause-replied
returns-in-Err-clause-replied g c =
    replied_as (whole_reply by_notices) _ _ _ _ _ _ c.without_ends-in-Err.ensures.outcome
    (always _ _ (λ octets. let reply = whole_reply by_notices (front_read octets) in answered _ reply _ _ _ _ _ (starved_is _ reply) c.tell-in-Err.ensures.told))

-- ---- what is left

pub returns-in-Err-Failed-clause-there : goal.returns-in-Err-Failed-clause-there
returns-in-Err-Failed-clause-there g c = left-none _ _ _ _ _ tt c.tell.ensures.cause c.without_ends.ensures.outcome c.without_ends.ensures.ends

pub returns-in-Err-Failed-clause-ends : goal.returns-in-Err-Failed-clause-ends
returns-in-Err-Failed-clause-ends g c = none-are _ _ c.without_ends.ensures.ends

pub returns-in-Err-NoMemory-clause-there : goal.returns-in-Err-NoMemory-clause-there
returns-in-Err-NoMemory-clause-there g c = left-none _ _ _ _ _ tt c.tell-in-Err-NoMemory.ensures.cause c.without_ends-in-Err-NoMemory.ensures.outcome c.without_ends-in-Err-NoMemory.ensures.ends

pub returns-in-Err-NoMemory-clause-ends : goal.returns-in-Err-NoMemory-clause-ends
returns-in-Err-NoMemory-clause-ends g c = none-are _ _ c.without_ends-in-Err-NoMemory.ensures.ends

pub returns-in-Ok-reply_to-clause-there : goal.returns-in-Ok-reply_to-clause-there
returns-in-Ok-reply_to-clause-there g c =
    let ends = c.in-Ok-reply_to.field-0.ends in
    let left : c.with_ends.result.ends ≡ ends_with c.tell-in-Ok-reply_to.result ends = c.with_ends.ensures.ends in
    left-there c.in-Ok-reply_to.field-0.outcome _ _ ends _ _ c.in-Ok-reply_to.ensures.there c.tell-in-Ok-reply_to.ensures.cause c.with_ends.ensures.outcome left

pub returns-in-Ok-reply_to-clause-ends : goal.returns-in-Ok-reply_to-clause-ends
returns-in-Ok-reply_to-clause-ends g c =
    let ends = c.in-Ok-reply_to.field-0.ends in
    let left : c.with_ends.result.ends ≡ ends_with c.tell-in-Ok-reply_to.result ends = c.with_ends.ensures.ends in
    left-are _ c.in-Ok.script.items _ ends _ c.in-Ok.ensures.octets c.in-Ok-reply_to.ensures.ends left

pub returns-in-Err-clause-there : goal.returns-in-Err-clause-there
returns-in-Err-clause-there g c = left-none _ _ _ _ _ tt c.tell-in-Err.ensures.cause c.without_ends-in-Err.ensures.outcome c.without_ends-in-Err.ensures.ends

pub returns-in-Err-clause-ends : goal.returns-in-Err-clause-ends
returns-in-Err-clause-ends g c = none-are _ _ c.without_ends-in-Err.ensures.ends
