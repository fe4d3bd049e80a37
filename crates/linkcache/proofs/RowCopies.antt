-- Copies of the rows of blocks, one behind the other.
use Rattle.std.proofs.Common.{◌≡◌, ℕ, ◌+◌, ◌<◌, ◌++◌, length, get_or, drop, sym, ap, ◌∙◌}
use Rattle.std.proofs.lemmas.List.{append_assoc, drop_more}
use Rattle.nametable.specs.Nodes.{Nodes, all_rows}
use Rattle.nametable.specs.Blocks.{Blocks, nodes_in}
use Rattle.nametable.proofs.BlockParts.{all_rows-append}
use Rattle.linkcache.specs.declared.row.HeardRow.{HeardRow}
use Rattle.linkcache.specs.Rows.{LinkRows}

-- behind the rows that were copied stand those of the next block, and before those of the blocks that are left
pub next-block : (front now target : LinkRows) (bs : Blocks HeardRow) (index : ℕ) (block : Nodes HeardRow) → index < length bs → block ≡ get_or bs index block → now ≡ front ++ all_rows block
    → front ++ all_rows (nodes_in (drop index bs)) ≡ target → now ++ all_rows (nodes_in (drop (index + 1) bs)) ≡ target
next-block front now target bs index block within is now-is so_far =
    let rest = nodes_in (drop (index + 1) bs) in
    ap (λ (l : LinkRows). l ++ all_rows rest) now-is
    ∙ append_assoc front (all_rows block) (all_rows rest)
    ∙ ap (λ (l : LinkRows). front ++ l) (sym (all_rows-append block rest))
    ∙ ap (λ (b : Nodes HeardRow). front ++ all_rows (b ++ rest)) is
    ∙ ap (λ (l : Blocks HeardRow). front ++ all_rows (nodes_in l)) (sym (drop_more bs index block within))
    ∙ so_far
