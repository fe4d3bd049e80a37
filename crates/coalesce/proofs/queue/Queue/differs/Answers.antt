use Rattle.std.proofs.Common.{◌∙◌, ap, sym}
use Rattle.std.specs.Prelude.{find}
use Rattle.coalesce.specs.Waiting.{differs, is_named}
use Rattle.coalesce.proofs.Entries.{find-waiting, none-waiting}
use Rattle.coalesce.proofs.Telling.{differs_tells}
use Rattle.coalesce.proofs.queue.Queue.differs.Goals as goal

pub returns-in-Some-clause-changed : goal.returns-in-Some-clause-changed
returns-in-Some-clause-changed g c =
    c.is_changed.ensures.changed
    ∙ ap (differs c.args.questions.now c.args.index.now.rows)
    (sym (ap (find (is_named c.args.name.now)) (sym c.self.view_is) ∙ find-waiting c.args.name.now c.self.inside.names.entries c.in-Some.stored.now c.in-Some.waiting.now (sym c.in-Some.ensures.key) (sym c.in-Some.ensures.value)))

pub returns-in-Some-clause-net : goal.returns-in-Some-clause-net
returns-in-Some-clause-net g c can = returns-in-Some-clause-changed g c ∙ differs_tells c.args.questions.now c.args.index.now.rows c.args.name.now c.args.self.now can

pub returns-in-None-clause-changed : goal.returns-in-None-clause-changed
returns-in-None-clause-changed g c =
    ap (differs c.args.questions.now c.args.index.now.rows) (sym (ap (find (is_named c.args.name.now)) (sym c.self.view_is) ∙ none-waiting c.args.name.now c.self.inside.names.entries (sym c.in-None.ensures.key)))

pub returns-in-None-clause-net : goal.returns-in-None-clause-net
returns-in-None-clause-net g c can = returns-in-None-clause-changed g c ∙ differs_tells c.args.questions.now c.args.index.now.rows c.args.name.now c.args.self.now can
