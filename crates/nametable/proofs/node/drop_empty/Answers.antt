use Rattle.std.proofs.Common.{◌∙◌, rules, of_calls}
use Rattle.std.proofs.lemmas.Fn.{filter_same}
use Rattle.nametable.specs.Nodes.{has_rows}
use Rattle.nametable.proofs.node.drop_empty.Goals as goal

pub returns : goal.returns
returns g c = c.shrink_to_fit.ensures.items ∙ filter_same _ has_rows _ (λ x b f k. search (rules, of_calls)) c.args.nodes.now.items c.retain.new.self.items c.retain.ensures.filtered
