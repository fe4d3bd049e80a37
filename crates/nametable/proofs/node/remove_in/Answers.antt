use Rattle.std.proofs.Common.{◌∙◌, sym, ap, subst, Option, is_some, arith}
use Rattle.std.proofs.lemmas.List.{with_items_is}
use Rattle.std.specs.Prelude.{IsTrue}
use Rattle.rrset.specs.KeyedRows.{row_at}
use Rattle.nametable.specs.Nodes.{Nodes, IsNameGap, all_rows, room_at}
use Rattle.nametable.specs.Blocks.{BeginsAt}
use Rattle.nametable.proofs.NodeChanges.{gone, nothing_taken}
use Rattle.nametable.proofs.node.remove_in.Goals as goal

gap : (g : _) (c : goal.In-Err g) → IsNameGap c.args.key.now.owner c.args.nodes.now.items c.in-Err.field-0
gap g c = subst (λ (ns : Nodes _). IsNameGap c.args.key.now.owner ns c.in-Err.field-0) c.deref.ensures.value c.in-Err.ensures.absent

pub returns-in-Err-clause-value : goal.returns-in-Err-clause-value
returns-in-Err-clause-value g c = sym (gone c.args.key.now c.args.nodes.now.items c.in-Err.field-0 c.requires.nodes (gap g c))

pub returns-in-Err-clause-rows : goal.returns-in-Err-clause-rows
returns-in-Err-clause-rows g c = nothing_taken c.args.key.now c.args.nodes.now.items c.in-Err.field-0 c.requires.nodes (gap g c)

pub returns-in-Ok-clause-first : goal.returns-in-Ok-clause-first
returns-in-Ok-clause-first g c = λ first at.
    subst (λ (ns : Nodes _). BeginsAt first ns) (sym (with_items_is c.args.nodes.now c.remove_at.new.nodes (c.remove_at.auto.nodes ∙ c.deref_mut.ensures.len)))
    (c.remove_at.ensures.first first (subst (λ (ns : Nodes _). BeginsAt first ns) (sym c.deref_mut.ensures.value) at))

pub returns-in-Ok-clause-freed : goal.returns-in-Ok-clause-freed
returns-in-Ok-clause-freed g c = λ there.
    let more = c.remove_at.ensures.freed (subst (λ (ns : Nodes _). IsTrue (is_some (row_at c.args.key.now (all_rows ns)))) (sym c.deref_mut.ensures.value) there) in
    let was = ap (λ (ns : Nodes _). room_at ns c.args.key.now.owner) c.deref_mut.ensures.value in
    let now = ap (λ (ns : Nodes _). room_at ns c.args.key.now.owner) (with_items_is c.args.nodes.now c.remove_at.new.nodes (c.remove_at.auto.nodes ∙ c.deref_mut.ensures.len)) in
    omega (arith, more, was, now)

pub returns-in-Err-clause-freed : goal.returns-in-Err-clause-freed
returns-in-Err-clause-freed g c = λ there.
    let no = ap (λ (o : Option _). is_some o) (gone c.args.key.now c.args.nodes.now.items c.in-Err.field-0 c.requires.nodes (gap g c)) in
    absurd cc
