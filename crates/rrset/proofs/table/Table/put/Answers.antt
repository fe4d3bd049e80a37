use Rattle.std.proofs.Common.{◌≡◌, ◌∙◌, sym, ap, subst, get_or, set, Option, Some, is_some, inl, inr, arith}
use Rattle.std.specs.List.{insert}
use Rattle.rrset.specs.KeyedRows.{Rows, rows_of}
use Rattle.rrset.specs.Tables.{TableState}
use Rattle.rrset.specs.declared.record.Key.{Key}
use Rattle.rrset.proofs.Rows.{AreRows, Puts, row_stands, no_row, replaced, inserted}
use Rattle.rrset.proofs.table.Table.put.Goals as goal

puts_there : (g : _) (c : goal.After-drop-key-in-Ok-1 g) → Puts c.args.key c.args.value c.args.self.now.rows (set c.self.inside.entries.items c.in-Ok.index (c.index_mut.result.now.0, c.replace.new.dest))
puts_there g c =
    let seen : c.self.inside.entries.items ≡ c.args.self.now.rows = ap (λ (t : TableState _). t.rows) c.self.view_is in
    let entry = c.index_mut.result.now in
    replaced c.args.key c.args.value c.replace.new.dest c.args.self.now.rows _ c.in-Ok.index entry (subst AreRows seen c.self.invariant) c.requires c.in-Ok.ensures.found
    (c.index_mut.ensures.value ∙ ap (λ (l : Rows _). get_or l c.in-Ok.index entry) seen) c.replace.ensures.after
    (ap (λ (l : Rows _). set l c.in-Ok.index (entry.0, c.replace.new.dest)) seen)

puts_new : (g : _) (c : goal.In_ok-insert-in-Err g) → Puts c.args.key c.args.value c.args.self.now.rows c.insert.new.self.items
puts_new g c =
    let seen : c.self.inside.entries.items ≡ c.args.self.now.rows = ap (λ (t : TableState _). t.rows) c.self.view_is in
    inserted c.args.key c.args.value c.args.self.now.rows _ c.in-Err.index (subst AreRows seen c.self.invariant) c.requires c.in-Err.ensures.absent
    (c.in_ok-insert-in-Err.ensures.items ∙ ap (λ (l : Rows _). insert l c.in-Err.index (c.args.key, c.args.value)) seen)

pub invariant_of-self : goal.invariant_of-self
invariant_of-self g c = (puts_there g c).are

pub returns-in_err-insert-in-Err-clause-succeeds :
    goal.returns-in_err-insert-in-Err-clause-succeeds
returns-in_err-insert-in-Err-clause-succeeds g c =
    let none = ap (λ (o : Option _). is_some o) (no_row c.args.key c.args.self.now.rows c.in-Err.index c.in-Err.ensures.absent).none in
    let spare = ap (λ (t : TableState _). t.spare) c.self.view_is in
    λ either. elim either [ inl room ↦ absurd (omega (arith, spare, c.in_err-insert-in-Err.ensures.full)) | inr some ↦ absurd cc ]

pub invariant_of-self-in-Err : goal.invariant_of-self-in-Err
invariant_of-self-in-Err g c = (puts_new g c).are

pub returns-in-Ok-clause-value : goal.returns-in-Ok-clause-value
returns-in-Ok-clause-value g c =
    let seen : c.self.inside.entries.items ≡ c.args.self.now.rows = ap (λ (t : TableState _). t.rows) c.self.view_is in
    let entry = c.index_mut.result.now in
    sym ((row_stands c.args.key c.args.self.now.rows c.in-Ok.index entry (subst AreRows seen c.self.invariant) c.in-Ok.ensures.found).found
    ∙ ap (λ (e : Key × _). Some e.1) (sym (c.index_mut.ensures.value ∙ ap (λ (l : Rows _). get_or l c.in-Ok.index entry) seen))
    ∙ ap (λ (s : _). Some s) (sym c.replace.ensures.value))

pub returns-in-Ok-clause-rows : goal.returns-in-Ok-clause-rows
returns-in-Ok-clause-rows g c = (puts_there g c).is

pub returns-in_ok-insert-in-Err-clause-value : goal.returns-in_ok-insert-in-Err-clause-value
returns-in_ok-insert-in-Err-clause-value g c = sym (no_row c.args.key c.args.self.now.rows c.in-Err.index c.in-Err.ensures.absent).none

pub returns-in_ok-insert-in-Err-clause-rows : goal.returns-in_ok-insert-in-Err-clause-rows
returns-in_ok-insert-in-Err-clause-rows g c = (puts_new g c).is

pub returns-in_ok-insert-in-Err-clause-kept : goal.returns-in_ok-insert-in-Err-clause-kept
returns-in_ok-insert-in-Err-clause-kept g c =
    let none = ap (λ (o : Option _). is_some o) (no_row c.args.key c.args.self.now.rows c.in-Err.index c.in-Err.ensures.absent).none in
    λ some. absurd cc
