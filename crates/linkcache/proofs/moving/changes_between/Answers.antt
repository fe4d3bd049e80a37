use Rattle.std.proofs.Common.{◌∙◌, sym}
use Rattle.linkcache.proofs.AlikeRows.{alike-changes}
use Rattle.linkcache.proofs.moving.changes_between.Goals as goal

pub returns-then-are_alike : goal.returns-then-are_alike
returns-then-are_alike c = c.new.ensures.items ∙ alike-changes c.args.rules.now c.args.part.now c.args.work.now (sym c.are_alike.ensures ∙ c.if-are_alike.true)
