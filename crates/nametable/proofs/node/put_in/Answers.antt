use Rattle.std.proofs.Common.{ℕ, ◌+◌, ◌%◌, ◌^◌, ◌≡◌, ◌≤◌, ◌∙◌, ap, sym, subst, is_some, ◌⊎◌, inr, arith}
use Rattle.std.proofs.lemmas.List.{with_items_is}
use Rattle.std.specs.Prelude.{IsTrue}
use Rattle.std.specs.Result.{IfOk, IsOk, OnOk}
use Rattle.rrset.specs.KeyedRows.{Rows, put_row, row_at}
use Rattle.nametable.specs.Nodes.{Nodes, IsNameGap, all_rows, names_in, room_at}
use Rattle.dnsname.specs.Names.{Labels}
use Rattle.nametable.specs.Blocks.{AddsNoOther, BeginsAt}
use Rattle.nametable.proofs.NameCounts.{names-same}
use Rattle.nametable.proofs.NodeChanges.{no_room, adds-both}
use Rattle.nametable.proofs.node.put_in.Goals as goal

pub returns-in_err-copy-in-Err-clause-succeeds : goal.returns-in_err-copy-in-Err-clause-succeeds
returns-in_err-copy-in-Err-clause-succeeds g c = λ either.
    absurd (no_room c.args.key c.args.nodes.now.items c.in-Err.index c.requires.nodes (subst (λ (ns : Nodes _). IsNameGap c.args.key.owner ns c.in-Err.index) c.deref.ensures.value c.in-Err.ensures.absent) either)

pub returns-in_err-add_name-in-Err-clause-succeeds : goal.returns-in_err-add_name-in-Err-clause-succeeds
returns-in_err-add_name-in-Err-clause-succeeds g c = λ either.
    absurd (no_room c.args.key c.args.nodes.now.items c.in-Err.index c.requires.nodes (subst (λ (ns : Nodes _). IsNameGap c.args.key.owner ns c.in-Err.index) c.deref.ensures.value c.in-Err.ensures.absent) either)

pub returns-in-Ok-clause-succeeds : goal.returns-in-Ok-clause-succeeds
returns-in-Ok-clause-succeeds g c =
    subst (λ (ns : Nodes _). (1 ≤ room_at ns c.args.key.owner) ⊎ IsTrue (is_some (row_at c.args.key (all_rows ns))) → IsOk c.put_at.result) c.deref_mut.ensures.value c.put_at.ensures.succeeds

pub returns-in_ok-add_name-in-Err-clause-value : goal.returns-in_ok-add_name-in-Err-clause-value
returns-in_ok-add_name-in-Err-clause-value g c =
    subst (λ (l : Rows _). IfOk c.put_at-in-Err.result (λ before. before ≡ row_at c.args.key l)) (ap all_rows c.deref_mut-in-Err.ensures.value ∙ c.in_ok-add_name-in-Err.ensures.rows) c.put_at-in-Err.ensures.value

pub returns-in_ok-add_name-in-Err-clause-succeeds : goal.returns-in_ok-add_name-in-Err-clause-succeeds
returns-in_ok-add_name-in-Err-clause-succeeds g c = λ either.
    absurd (no_room c.args.key c.args.nodes.now.items c.in-Err.index c.requires.nodes (subst (λ (ns : Nodes _). IsNameGap c.args.key.owner ns c.in-Err.index) c.deref.ensures.value c.in-Err.ensures.absent) either)

pub returns-in-Ok-clause-rows : goal.returns-in-Ok-clause-rows
returns-in-Ok-clause-rows g c =
    let later = with_items_is c.args.nodes.now c.put_at.new.nodes (c.put_at.auto.nodes ∙ c.deref_mut.ensures.len) in
    subst (λ (l : Nodes _). OnOk c.put_at.result (all_rows l ≡ put_row c.args.key c.args.value (all_rows c.args.nodes.now.items))) (sym later)
    (subst (λ (l : Nodes _). OnOk c.put_at.result (all_rows c.put_at.new.nodes ≡ put_row c.args.key c.args.value (all_rows l))) c.deref_mut.ensures.value c.put_at.ensures.rows)

pub returns-in_err-add_name-in-Err-clause-names : goal.returns-in_err-add_name-in-Err-clause-names
returns-in_err-add_name-in-Err-clause-names g c = λ others is.
    is ∙ ap (λ (n : ℕ). (others + n) % 2 ^ 64) (names-same c.args.nodes.now.items c.add_name.new.nodes.items c.requires.nodes c.in_err-add_name-in-Err.ensures.nodes (sym c.in_err-add_name-in-Err.ensures.rows))

pub returns-in_ok-add_name-in-Err-clause-names : goal.returns-in_ok-add_name-in-Err-clause-names
returns-in_ok-add_name-in-Err-clause-names g c = λ others is.
    c.put_at-in-Err.ensures.names others
    (is
    ∙ ap (λ (n : ℕ). (others + n) % 2 ^ 64) (names-same c.args.nodes.now.items c.add_name.new.nodes.items c.requires.nodes c.in_ok-add_name-in-Err.ensures.nodes (sym c.in_ok-add_name-in-Err.ensures.rows))
    ∙ ap (λ (ns : Nodes _). (others + names_in ns) % 2 ^ 64) (sym c.deref_mut-in-Err.ensures.value))
    ∙ ap (λ (ns : Nodes _). (others + names_in ns) % 2 ^ 64) (sym (with_items_is c.add_name.new.nodes c.put_at-in-Err.new.nodes (c.put_at-in-Err.auto.nodes ∙ c.deref_mut-in-Err.ensures.len)))

pub returns-in_ok-add_name-in-Err-clause-only : goal.returns-in_ok-add_name-in-Err-clause-only
returns-in_ok-add_name-in-Err-clause-only g c =
    subst (λ (ns : Nodes _). AddsNoOther c.args.key.owner c.args.nodes.now.items ns) (sym (with_items_is c.add_name.new.nodes c.put_at-in-Err.new.nodes (c.put_at-in-Err.auto.nodes ∙ c.deref_mut-in-Err.ensures.len)))
    (adds-both c.args.key.owner c.args.nodes.now.items c.add_name.new.nodes.items c.put_at-in-Err.new.nodes
    (subst (λ (l : Labels). AddsNoOther l c.args.nodes.now.items c.add_name.new.nodes.items) c.in_ok-copy-in-Err.ensures c.in_ok-add_name-in-Err.ensures.only)
    (subst (λ (ns : Nodes _). AddsNoOther c.args.key.owner ns c.put_at-in-Err.new.nodes) c.deref_mut-in-Err.ensures.value c.put_at-in-Err.ensures.only))

pub returns-in-Ok-clause-value : goal.returns-in-Ok-clause-value
returns-in-Ok-clause-value g c =
    subst (λ (ns : Nodes _). IfOk c.put_at.result (λ before. before ≡ row_at c.args.key (all_rows ns))) c.deref_mut.ensures.value c.put_at.ensures.value

pub returns-in-Ok-clause-first : goal.returns-in-Ok-clause-first
returns-in-Ok-clause-first g c =
    subst (λ (ns : Nodes _). BeginsAt c.args.first.now ns) (sym (with_items_is c.args.nodes.now c.put_at.new.nodes (c.put_at.auto.nodes ∙ c.deref_mut.ensures.len)))
    (c.put_at.ensures.first c.args.first.now (subst (λ (ns : Nodes _). BeginsAt c.args.first.now ns) (sym c.deref_mut.ensures.value) c.requires.first))

pub returns-in_ok-add_name-in-Err-clause-first : goal.returns-in_ok-add_name-in-Err-clause-first
returns-in_ok-add_name-in-Err-clause-first g c =
    subst (λ (ns : Nodes _). BeginsAt c.add_name.new.first ns) (sym (with_items_is c.add_name.new.nodes c.put_at-in-Err.new.nodes (c.put_at-in-Err.auto.nodes ∙ c.deref_mut-in-Err.ensures.len)))
    (c.put_at-in-Err.ensures.first c.add_name.new.first (subst (λ (ns : Nodes _). BeginsAt c.add_name.new.first ns) (sym c.deref_mut-in-Err.ensures.value) c.in_ok-add_name-in-Err.ensures.first))

pub returns-in-Ok-clause-kept : goal.returns-in-Ok-clause-kept
returns-in-Ok-clause-kept g c = λ there.
    let more = c.put_at.ensures.kept (subst (λ (ns : Nodes _). IsTrue (is_some (row_at c.args.key (all_rows ns)))) (sym c.deref_mut.ensures.value) there) in
    let was = ap (λ (ns : Nodes _). room_at ns c.args.key.owner) c.deref_mut.ensures.value in
    let now = ap (λ (ns : Nodes _). room_at ns c.args.key.owner) (with_items_is c.args.nodes.now c.put_at.new.nodes (c.put_at.auto.nodes ∙ c.deref_mut.ensures.len)) in
    omega (arith, more, was, now)

pub returns-in_ok-add_name-in-Err-clause-kept : goal.returns-in_ok-add_name-in-Err-clause-kept
returns-in_ok-add_name-in-Err-clause-kept g c = λ there.
    absurd (no_room c.args.key c.args.nodes.now.items c.in-Err.index c.requires.nodes (subst (λ (ns : Nodes _). IsNameGap c.args.key.owner ns c.in-Err.index) c.deref.ensures.value c.in-Err.ensures.absent) (inr there))
