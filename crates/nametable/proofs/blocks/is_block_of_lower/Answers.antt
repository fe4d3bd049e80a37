use Rattle.std.proofs.Common.{◌∙◌, ◌+◌, refl, ap, sym, arith}
use Rattle.dnsname.specs.Names.{lower}
use Rattle.nametable.specs.Blocks.{begins_by}
use Rattle.nametable.proofs.BlockPlaces.{here-is}
use Rattle.nametable.proofs.blocks.is_block_of_lower.Goals as goal

pub returns : goal.returns
returns g c = λ true-result first.
    here-is (lower c.args.name.now) c.args.blocks.now c.args.place (c.args.place + 1) c.index-blocks-place.result c.requires (omega (arith, c.if-place-blocks.false)) refl
    (sym (ap (begins_by (lower c.args.name.now)) c.index-blocks-place.is) ∙ sym (c.begins_by_lower.ensures first) ∙ c.if-not-begins_by_lower.false)
    (c.is_behind_lower.ensures true-result first)
