use Rattle.std.proofs.Common.{◌≡◌, ◌∙◌, ◌%◌, ◌^◌, ℕ, sym, ap, subst, is_some, inl, inr, arith}
use Rattle.std.proofs.lemmas.List.{with_items_is}
use Rattle.std.specs.Prelude.{IsTrue}
use Rattle.std.specs.Result.{IfOk}
use Rattle.rrset.specs.KeyedRows.{Rows, row_at}
use Rattle.nametable.specs.Nodes.{Nodes, all_rows, names_in, room_at}
use Rattle.nametable.specs.Blocks.{Blocks, nodes_in}
use Rattle.nametable.proofs.NameCounts.{names-same}
use Rattle.nametable.proofs.blocks.put_in_blocks.Goals as goal

pub returns-in_err-begin-clause-names : goal.returns-in_err-begin-clause-names
returns-in_err-begin-clause-names g c =
    c.requires.names ∙ ap (λ (n : ℕ). n % 2 ^ 64) (names-same (nodes_in c.args.blocks.now.items) (nodes_in c.begin.new.blocks.items) c.requires.blocks.0 c.in_err-begin.ensures.blocks.0 (sym c.in_err-begin.ensures.rows))

pub put_in_block-before-requires-clause-names : goal.put_in_block-before-requires-clause-names
put_in_block-before-requires-clause-names g c =
    c.requires.names
    ∙ ap (λ (n : ℕ). n % 2 ^ 64) (names-same (nodes_in c.args.blocks.now.items) (nodes_in c.begin.new.blocks.items) c.requires.blocks.0 c.in_ok-begin.ensures.blocks.0 (sym c.in_ok-begin.ensures.rows))
    ∙ ap (λ (bs : Blocks _). names_in (nodes_in bs) % 2 ^ 64) (sym c.deref_mut.ensures.value)

same_rows : (g : _) (c : goal.After-keep_small g) → all_rows (nodes_in c.deref_mut.result.now) ≡ all_rows (nodes_in c.args.blocks.now.items)
same_rows g c = ap (λ (bs : Blocks _). all_rows (nodes_in bs)) c.deref_mut.ensures.value ∙ c.in_ok-begin.ensures.rows

pub returns-clause-value : goal.returns-clause-value
returns-clause-value g c = subst (λ (l : Rows _). IfOk c.put_in_block-before.result (λ before. before ≡ row_at c.args.key l)) (same_rows g c) c.put_in_block-before.ensures.value

pub returns-clause-succeeds : goal.returns-clause-succeeds
returns-clause-succeeds g c = λ either.
    c.put_in_block-before.ensures.succeeds (elim either [
      | inl more ↦ inl (
          let kept = c.in_ok-begin.ensures.kept c.args.key.owner in
          let same = ap (λ (bs : Blocks _). room_at (nodes_in bs) c.args.key.owner) c.deref_mut.ensures.value in
          omega (arith, more, kept, same)
          )
      | inr there ↦ inr (subst (λ (l : Rows _). IsTrue (is_some (row_at c.args.key l))) (sym (same_rows g c)) there)
    ])

pub returns-clause-kept : goal.returns-clause-kept
returns-clause-kept g c = λ there.
    let more = c.put_in_block-before.ensures.kept (subst (λ (l : Rows _). IsTrue (is_some (row_at c.args.key l))) (sym (same_rows g c)) there) in
    let begun = c.in_ok-begin.ensures.kept c.args.key.owner in
    let was = ap (λ (bs : Blocks _). room_at (nodes_in bs) c.args.key.owner) c.deref_mut.ensures.value in
    let now =
    ap (λ (ns : Nodes _). room_at ns c.args.key.owner)
    (c.keep_small.ensures.nodes ∙ ap nodes_in (with_items_is c.begin.new.blocks c.put_in_block-before.new.blocks (c.put_in_block-before.auto.blocks ∙ c.deref_mut.ensures.len))) in
    omega (arith, more, begun, was, now)
