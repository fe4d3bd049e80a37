use Rattle.std.proofs.Common.{◌≡◌, ◌∙◌, sym}
use Rattle.reversemap.specs.BothKinds.{shown_of}
use Rattle.reversemap.proofs.UsedRecords.{used-local, shown-local}
use Rattle.linkcache.proofs.PlanRoom.{if_ok}
use Rattle.linkmap.specs.Translation.{lessened, shown_as}
use Rattle.linkcache.proofs.kinds.show.Goals as goal

pub show-requires : goal.show-requires
show-requires c = used-local c.args.rules.now.domain c.args.rules.now.reverses c.args.rr.now c.requires (sym c.is_local.ensures ∙ c.if-is_local.true)

pub returns-then-is_local : goal.returns-then-is_local
returns-then-is_local c =
    if_ok (λ shown. shown ≡ shown_as c.args.rules.now.domain (lessened c.args.rules.now.cap c.args.rr.now)) (λ shown. shown ≡ shown_of c.args.rules.now.domain c.args.rules.now.cap c.args.rr.now) c.show.result c.show.ensures
    (λ shown is. is ∙ shown-local c.args.rules.now.domain c.args.rules.now.cap c.args.rr.now (sym c.is_local.ensures ∙ c.if-is_local.true))
