use Rattle.std.proofs.Common.{ap, ◌∙◌}
use Rattle.std.specs.Prelude.{Option, Some, option_map}
use Rattle.dnsname.specs.Names.{Labels}
use Rattle.coalesce.specs.Waiting.{OldValues}
use Rattle.coalesce.proofs.Entries.{first-waiting}
use Rattle.coalesce.proofs.queue.first_point_of.Goals as goal

pub returns-in-Some : goal.returns-in-Some
returns-in-Some c = ap (λ (w : OldValues). Some w.point) c.waiting.view_is
    ∙ ap (λ (o : Option (Labels × OldValues)). option_map (λ (e : Labels × OldValues). e.1.point) o) c.in-Some.ensures.entry
    ∙ first-waiting c.args.names.now.entries
