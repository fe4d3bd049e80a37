use Rattle.std.proofs.Common.{ap, ◌∙◌}
use Rattle.std.specs.Prelude.{Option, Some, option_map}
use Rattle.coalesce.specs.Waiting.{OldValues, since}
use Rattle.coalesce.proofs.Entries.{found-since}
use Rattle.coalesce.proofs.queue.Queue.since.Goals as goal

pub returns-in-Some : goal.returns-in-Some
returns-in-Some c = ap (λ (w : OldValues). Some w.point) c.waiting.view_is ∙ ap (λ (o : Option OldValues). option_map (λ w. w.point) o) c.in-Some.ensures.value ∙ found-since c.args.name.now c.self.inside.names.entries ∙ ap (λ q. since q c.args.name.now) c.self.view_is

pub returns-in-None : goal.returns-in-None
returns-in-None c = ap (λ (o : Option OldValues). option_map (λ w. w.point) o) c.in-None.ensures.value ∙ found-since c.args.name.now c.self.inside.names.entries ∙ ap (λ q. since q c.args.name.now) c.self.view_is
