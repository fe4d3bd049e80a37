use Rattle.std.proofs.Common.{length, ap, ◌∙◌, subst}
use Rattle.push_outside.specs.Outside.{AddsSome, Telling}
use Rattle.serving.specs.Serving.{is_full_run, numbers_of}
use Rattle.commands.proofs.Serving.{counted_as, started_through}
use Rattle.commands.proofs.Returning.{Links, links_given}
use Rattle.commands.proofs.serve_command.serve_setup.Goals as goal

pub returns-clause-started : goal.returns-clause-started
returns-clause-started g c =
    started_through (is_full_run c.serve-end.result.end) c.args.setup.turns (numbers_of c.args.setup.links.items) c.args.setup.sessions _ _ (g.O.Outside.told c.args.outside.now) (g.O.Outside.told c.starter-starter.new.self) (g.O.Outside.told c.back_starter.new.self) (g.O.Outside.told c.give_back.new.outside)
    c.starter-starter.ensures.told c.give_back.ensures.told c.starter-starter.ensures.fresh c.serve-end.ensures.started c.back_starter.ensures.started

pub returns-clause-counts : goal.returns-clause-counts
returns-clause-counts g c = counted_as c.serve-end.result.end c.serve-end.result.ends.items _ _ _ c.serve-end.ensures.told c.serve-end.ensures.ended

pub returns-clause-back : goal.returns-clause-back
returns-clause-back g c =
    links_given (is_full_run c.serve-end.result.end) c.args.setup.links.items c.serve-end.result.links.items (g.O.Outside.told c.args.outside.now).links (g.O.Outside.told c.give_back.new.outside).links c.serve-end.ensures.links
    (subst (λ (l : Links). AddsSome l (g.O.Outside.told c.give_back.new.outside).links (length c.serve-end.result.links.items))
    (ap (λ (t : Telling). t.links) c.back_starter.ensures.told ∙ ap (λ (t : Telling). t.links) c.starter-starter.ensures.told) c.give_back.ensures.back)
