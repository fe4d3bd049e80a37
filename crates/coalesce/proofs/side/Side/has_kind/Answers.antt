use Rattle.std.proofs.Common.{◌∙◌, ap, not}
use Rattle.push_base.specs.Cases.{is_empty}
use Rattle.rrset.specs.RecordSet.{only}
use Rattle.coalesce.specs.Net.{of_kind}
use Rattle.coalesce.specs.Sides.{is_asked}
use Rattle.coalesce.proofs.OneSide.{some_of_kind}
use Rattle.coalesce.proofs.side.Side.has_kind.Goals as goal

pub returns : goal.returns
returns c =
    c.any_of_kind.ensures
    ∙ some_of_kind (is_asked c.self.inside.asking) c.args.kind c.new.result
    ∙ ap (λ rows. not (is_empty (of_kind c.args.kind (only (is_asked c.self.inside.asking) rows)))) c.new.ensures
    ∙ ap (λ rows. not (is_empty (of_kind c.args.kind rows))) c.self.view_is
