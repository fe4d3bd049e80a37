use Rattle.std.proofs.Common.{ap, ◌∙◌}
use Rattle.std.specs.Prelude.{slice_get}
use Rattle.linkreasons.specs.AllReasons.{AllReasons}
use Rattle.linkreasons.proofs.Calls.{is-asked, these}
use Rattle.linkreasons.proofs.OneAsked.{asked-bounds, asked-others}
use Rattle.linkreasons.proofs.link_reasons.LinkReasons.ask.Goals as goal

pub invariant_of-self : goal.invariant_of-self
invariant_of-self c = (is-asked c.self.inside.most (these c.self.inside.links.items c.self.inside.sessions.items) c.self.invariant.0 c.args.cache.now.state.rows c.args.link c.ask_on.new.links.items c.ask_on.ensures.links, c.self.invariant.1)

pub returns-clause-bounds : goal.returns-clause-bounds
returns-clause-bounds c = asked-bounds c.args.cache.now.state.rows c.args.link c.self.inside.links.items c.ask_on.new.links.items c.ask_on.ensures.links

pub returns-clause-others : goal.returns-clause-others
returns-clause-others c = λ other apart.
    asked-others c.args.cache.now.state.rows c.args.link other c.self.inside.links.items c.ask_on.new.links.items c.ask_on.ensures.links apart
    ∙ ap (λ (a : AllReasons). slice_get a.links other) c.self.view_is
