use Rattle.std.proofs.Common.{List, sym, ap, subst, ◌∙◌}
use Rattle.std.specs.Prelude.{IfSome, slice_get}
use Rattle.linkcache.specs.Rows.{heard}
use Rattle.linkask.specs.Bounds.{AreBounds}
use Rattle.linkreasons.specs.AllReasons.{AllReasons, AreBoundsAt, ReasonsOfLink, askings_of}
use Rattle.linkreasons.specs.Changing.{heard_by}
use Rattle.linkreasons.proofs.Calls.{is-heard, these}
use Rattle.linkreasons.proofs.OneAsked.{changed-others, hears-bounds, lowers-keep}
use Rattle.linkreasons.proofs.link_reasons.LinkReasons.heard.Goals as goal

pub invariant_of-self : goal.invariant_of-self
invariant_of-self c = ((is-heard c.self.inside.most (these c.self.inside.links.items c.self.inside.sessions.items) c.self.invariant.0 c.args.link c.args.now c.args.hearing.now c.hear_on.new.links.items c.hear_on.ensures).counted, c.self.invariant.1)

pub returns-clause-askings : goal.returns-clause-askings
returns-clause-askings c = (is-heard c.self.inside.most (these c.self.inside.links.items c.self.inside.sessions.items) c.self.invariant.0 c.args.link c.args.now c.args.hearing.now c.hear_on.new.links.items c.hear_on.ensures).askings ∙ ap askings_of c.self.view_is

pub returns-clause-bounds : goal.returns-clause-bounds
returns-clause-bounds c = λ rules rows bounds.
    subst (λ (ls : List ReasonsOfLink). IfSome (slice_get ls c.args.link) (λ l. AreBounds (heard rules rows c.args.now c.args.hearing.now) l.kept)) (sym c.hear_on.ensures)
    (hears-bounds c.bounds.ensures.hearing rules rows c.args.now c.args.hearing.now c.args.link c.self.inside.links.items (subst (AreBoundsAt rows c.args.link) (sym c.self.view_is) bounds))

pub returns-clause-others : goal.returns-clause-others
returns-clause-others c = λ other apart.
    ap (λ (ls : List ReasonsOfLink). slice_get ls other) c.hear_on.ensures
    ∙ changed-others (heard_by c.args.now c.args.hearing.now) c.args.link other c.self.inside.links.items apart
    ∙ ap (λ (a : AllReasons). slice_get a.links other) c.self.view_is

pub returns-clause-keeps : goal.returns-clause-keeps
returns-clause-keeps c = λ rows other bounds.
    subst (λ (ls : List ReasonsOfLink). IfSome (slice_get ls other) (λ l. AreBounds rows l.kept)) (sym c.hear_on.ensures)
    (lowers-keep rows c.args.now c.args.hearing.now c.args.link other c.self.inside.links.items (subst (AreBoundsAt rows other) (sym c.self.view_is) bounds))
