use Rattle.std.proofs.Common.{◌∙◌, sym, ap, not}
use Rattle.push_base.specs.Cases.{is_empty}
use Rattle.linkcache.proofs.HeardSteps.{usable-more}
use Rattle.linkcache.proofs.heard_rows.some_usable.Goals as goal

pub returns-then-usable : goal.returns-then-usable
returns-then-usable c =
    ap (λ l. not (is_empty l)) (sym (usable-more c.args.rules.now c.args.hearing.now c.hearing.heard-index c.heard-item.result c.hearing-test.true c.heard-item.is (sym c.usable.ensures ∙ c.if-usable.true)))
    ∙ ap not c.hearing.invariant
