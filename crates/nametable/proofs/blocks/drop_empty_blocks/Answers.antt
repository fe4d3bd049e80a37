use Rattle.std.proofs.Common.{◌∙◌, ap, map, rules, of_calls}
use Rattle.std.specs.List.{filter}
use Rattle.std.proofs.lemmas.Fn.{filter_same}
use Rattle.std.proofs.lemmas.List.{with_items_is}
use Rattle.nametable.specs.Nodes.{has_rows}
use Rattle.nametable.proofs.BlockSets.{is_filled, nodes-dropped, filled-dropped}
use Rattle.nametable.proofs.blocks.drop_empty_blocks.Goals as goal

pub returns-clause-nodes : goal.returns-clause-nodes
returns-clause-nodes g c =
    nodes-dropped c.args.blocks.now.items _ c.retain.new.self.items
    (with_items_is c.args.blocks.now c.empty_blocks.new.blocks (c.empty_blocks.auto.blocks ∙ c.deref_mut.ensures.len) ∙ c.empty_blocks.ensures ∙ ap (map (filter has_rows)) c.deref_mut.ensures.value)
    (filter_same _ is_filled _ (λ x b f k. search (rules, of_calls)) _ c.retain.new.self.items c.retain.ensures.filtered)

pub returns-clause-filled : goal.returns-clause-filled
returns-clause-filled g c =
    filled-dropped c.args.blocks.now.items _ c.retain.new.self.items
    (with_items_is c.args.blocks.now c.empty_blocks.new.blocks (c.empty_blocks.auto.blocks ∙ c.deref_mut.ensures.len) ∙ c.empty_blocks.ensures ∙ ap (map (filter has_rows)) c.deref_mut.ensures.value)
    (filter_same _ is_filled _ (λ x b f k. search (rules, of_calls)) _ c.retain.new.self.items c.retain.ensures.filtered)
