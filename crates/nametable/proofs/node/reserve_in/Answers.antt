use Rattle.std.proofs.Common.{◌≡◌, ◌≤◌, ◌∙◌, false, sym, subst, Result, Ok, Err}
use Rattle.std.specs.Result.{OnOk}
use Rattle.std.proofs.lemmas.List.{with_items_is}
use Rattle.nametable.specs.Nodes.{Nodes, has_row, room_at}
use Rattle.nametable.specs.Blocks.{BeginsAt}
use Rattle.nametable.proofs.node.reserve_in.Goals as goal

anyway : {A E : Type 0} (P R : Type 0) (r : Result A E) → OnOk r R → OnOk r (P → R)
anyway P R (Ok a) h = λ p. h
anyway P R (Err e) h = tt

pub returns-in-Ok-clause-first : goal.returns-in-Ok-clause-first
returns-in-Ok-clause-first g c =
    subst (λ (ns : Nodes _). BeginsAt c.args.first.now ns) (sym (with_items_is c.args.nodes.now c.reserve_at.new.nodes (c.reserve_at.auto.nodes ∙ c.deref_mut.ensures.len)))
    (c.reserve_at.ensures.first c.args.first.now (subst (λ (ns : Nodes _). BeginsAt c.args.first.now ns) (sym c.deref_mut.ensures.value) c.requires.first))

pub returns-in-Ok-clause-room : goal.returns-in-Ok-clause-room
returns-in-Ok-clause-room g c =
    subst (λ (ns : Nodes _). OnOk c.reserve_at.result (has_row c.args.nodes.now.items c.args.key.now ≡ false → c.args.keys ≤ room_at ns c.args.key.now.owner))
    (sym (with_items_is c.args.nodes.now c.reserve_at.new.nodes (c.reserve_at.auto.nodes ∙ c.deref_mut.ensures.len)))
    (subst (λ (ns : Nodes _). OnOk c.reserve_at.result (has_row ns c.args.key.now ≡ false → c.args.keys ≤ room_at c.reserve_at.new.nodes c.args.key.now.owner)) c.deref_mut.ensures.value c.reserve_at.ensures.room)
