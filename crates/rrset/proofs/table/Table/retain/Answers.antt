use Rattle.std.proofs.Common.{◌∙◌, sym, ap, subst}
use Rattle.std.specs.Fn.{CalledAt}
use denote.Param.Always.{always_mut, mut_by}
use Rattle.rrset.specs.KeyedRows.{only_rows}
use Rattle.rrset.specs.Tables.{TableState}
use Rattle.rrset.specs.declared.record.Key.{Key}
use Rattle.rrset.proofs.Retaining.{kept_by_calls}
use Rattle.rrset.proofs.Rows.{AreRows, rows_chosen}
use Rattle.rrset.proofs.table.Table.retain.Goals as goal

pub retain-requires : goal.retain-requires
retain-requires g c = mut_by _ (λ s. always_mut g.F.FnMut s.0.now) (λ s a i. i) (λ s a r t i e. e.met.1.1) _ c.requires

pub invariant_of-self : goal.invariant_of-self
invariant_of-self g c = subst AreRows (sym c.retain.ensures.filtered.4) (rows_chosen c.retain.ensures.filtered.0 c.self.inside.entries.items c.self.invariant)

pub returns-clause-rows : goal.returns-clause-rows
returns-clause-rows g c = λ p h.
    kept_by_calls g.F.FnMut p _ (λ s. s.0.now) (λ s e b t call. subst (λ (x : Key × _). CalledAt g.F.FnMut s.0.now x.0 b t.0.now) call.shows call.called.met.1.0) c.self.inside.entries.items c.retain.new.self.items _ c.retain.ensures.filtered h
    ∙ ap (λ (t : TableState _). only_rows p t.rows) c.self.view_is
