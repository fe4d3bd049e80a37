use Rattle.std.proofs.Common.{◌≡◌, ◌∙◌, ap, sym, subst}
use Rattle.std.specs.Prelude.{Option, Some, None, MatchOption}
use Rattle.rrset.specs.RecordSet.{shown_at, with_values}
use Rattle.rrset.specs.declared.record.Shown.{Shown}
use Rattle.coalesce.specs.Sides.{is_asked}
use Rattle.coalesce.specs.Waiting.{values_of}
use Rattle.coalesce.proofs.OneSide.{not_asked, asked}
use Rattle.coalesce.proofs.side.Side.shown_at.Goals as goal

pub returns-then-not-is_asked : goal.returns-then-not-is_asked
returns-then-not-is_asked c =
    ap (shown_at c.args.key.now) (sym c.self.view_is)
    ∙ not_asked (is_asked c.self.inside.asking) c.args.key.now (with_values (values_of c.self.inside.values.now) c.self.inside.rows.now) (sym c.is_asked.ensures ∙ c.if-not-is_asked.true)

pub returns : goal.returns
returns c =
    let rows = with_values (values_of c.self.inside.values.now) c.self.inside.rows.now in
    subst (λ (o : Option Shown). MatchOption c.shown_before.result (o ≡ None) (λ s. o ≡ Some s.now))
    (sym (ap (shown_at c.args.key.now) (sym c.self.view_is) ∙ asked (is_asked c.self.inside.asking) c.args.key.now rows (sym c.is_asked.ensures ∙ c.if-not-is_asked.false)))
    c.shown_before.ensures
