use Rattle.std.proofs.Common.{◌≡◌, length, take, drop, ◌++◌, None, Some, refl, sym, ◌∙◌, ap, subst}
use Rattle.linkask.specs.Asking.{next}
use Rattle.linkask.specs.Bounds.{Kept, IsFirstDue, IsLeast, all_reasons, wanted_in}
use Rattle.linkask.proofs.Asking.{AskedAt, Searched, asked_there, least-zero, none_next, on_err, one_next, searched}
use Rattle.linkask.proofs.FirstDue.{none-early, same-wanted}
use Rattle.linkask.proofs.asker.Asker.next.Goals as goal

pub returns-then-now-self-clause-ok : goal.returns-then-now-self-clause-ok
returns-then-now-self-clause-ok c =
    none_next c.args.now c.args.cache.now.state.rows c.args.self.now c.args.self.now
    (none-early c.args.cache.now.state.rows c.args.now c.self.inside.least c.args.self.now c.if-now-self.true (subst (IsLeast c.self.inside.least) c.self.view_is c.self.invariant.1) c.requires.bounds) refl

found_none : (c : goal.After-self-in_default-1) → Searched c.self.inside.entries.items (take c.self.inside.entries.len (c.first_due.new.entries ++ drop (length c.first_due.new.entries) c.self.inside.entries.items))
found_none c = searched c.self.inside.entries.items c.deref_mut.result.now c.first_due.new.entries c.self.inside.entries.len c.deref_mut.ensures.value (sym c.deref_mut.ensures.len) c.first_due.ensures.same c.self.invariant.0

pub invariant_of-self : goal.invariant_of-self
invariant_of-self c = ((found_none c).sorted, subst (IsLeast c.least_of-self-inside.result) c.deref.ensures.value c.least_of-self-inside.ensures)

pub returns-in_default-clause-ok : goal.returns-in_default-clause-ok
returns-in_default-clause-ok c =
    subst (λ (k : Kept). next c.args.cache.now.state.rows c.args.now (wanted_in k) ≡ (None, wanted_in (take c.self.inside.entries.len (c.first_due.new.entries ++ drop (length c.first_due.new.entries) c.self.inside.entries.items)))) c.self.view_is
    (none_next c.args.now c.args.cache.now.state.rows c.self.inside.entries.items _
    (subst (λ (k : Kept). IsFirstDue c.args.cache.now.state.rows c.args.now (wanted_in k) None) c.deref_mut.ensures.value (subst (IsFirstDue c.args.cache.now.state.rows c.args.now (wanted_in c.deref_mut.result.now)) c.in_default.is c.first_due.ensures.first))
    (found_none c).same)

found_err : (c : goal.After-from_residual) → Searched c.self.inside.entries.items (take c.self.inside.entries.len (c.first_due.new.entries ++ drop (length c.first_due.new.entries) c.self.inside.entries.items))
found_err c = searched c.self.inside.entries.items c.deref_mut.result.now c.first_due.new.entries c.self.inside.entries.len c.deref_mut.ensures.value (sym c.deref_mut.ensures.len) c.first_due.ensures.same c.self.invariant.0

pub invariant_of-self-in_err-out : goal.invariant_of-self-in_err-out
invariant_of-self-in_err-out c = ((found_err c).sorted, least-zero _)

pub returns-in_err-out-clause-err : goal.returns-in_err-out-clause-err
returns-in_err-out-clause-err c =
    on_err c.from_residual.result
    (same-wanted c.args.cache.now.state.rows c.args.now c.self.inside.entries.items _ (found_err c).same ∙ ap wanted_in c.self.view_is)

found_some : (c : goal.After-self-3-1) → Searched c.self.inside.entries.items (take c.self.inside.entries.len (c.first_due.new.entries ++ drop (length c.first_due.new.entries) c.self.inside.entries.items))
found_some c = searched c.self.inside.entries.items c.deref_mut.result.now c.first_due.new.entries c.self.inside.entries.len c.deref_mut.ensures.value (sym c.deref_mut.ensures.len) c.first_due.ensures.same c.self.invariant.0

asked_some : (c : goal.After-self-3-1)
    → AskedAt c.args.now c.in-Some.place (take c.self.inside.entries.len (c.first_due.new.entries ++ drop (length c.first_due.new.entries) c.self.inside.entries.items))
    (take c.self.inside.entries.len (c.ask_at.new.entries ++ drop (length c.ask_at.new.entries) (take c.self.inside.entries.len (c.first_due.new.entries ++ drop (length c.first_due.new.entries) c.self.inside.entries.items))))
asked_some c =
    asked_there c.args.now c.in-Some.place _ c.deref_mut-2.result.now c.ask_at.new.entries c.self.inside.entries.len c.deref_mut-2.ensures.value
    (sym c.deref_mut.ensures.len ∙ ap length c.deref_mut.ensures.value ∙ sym (found_some c).long) c.ask_at.ensures.asked (found_some c).sorted

pub invariant_of-self-2 : goal.invariant_of-self-2
invariant_of-self-2 c = ((asked_some c).sorted, least-zero _)

pub returns-clause-ok : goal.returns-clause-ok
returns-clause-ok c =
    subst (λ (k : Kept). next c.args.cache.now.state.rows c.args.now (wanted_in k) ≡ (Some c.in_ok-out.field-0.items, wanted_in (take c.self.inside.entries.len (c.ask_at.new.entries ++ drop (length c.ask_at.new.entries) (take c.self.inside.entries.len (c.first_due.new.entries ++ drop (length c.first_due.new.entries) c.self.inside.entries.items)))))) c.self.view_is
    (one_next c.args.now c.args.cache.now.state.rows c.self.inside.entries.items _ _ c.in-Some.place c.index.result.now c.rows_at.result.now c.in_ok-out.field-0.items c.self.invariant.0
    (found_some c).same c.index.ensures
    (subst (λ (k : Kept). IsFirstDue c.args.cache.now.state.rows c.args.now (wanted_in k) (Some c.in-Some.place)) c.deref_mut.ensures.value (subst (IsFirstDue c.args.cache.now.state.rows c.args.now (wanted_in c.deref_mut.result.now)) c.in-Some.is c.first_due.ensures.first))
    c.rows_at.ensures c.in_ok-out.ensures.octets (asked_some c).same)

pub returns-in_default-clause-reasons : goal.returns-in_default-clause-reasons
returns-in_default-clause-reasons c = (found_none c).reasons ∙ ap all_reasons c.self.view_is

pub returns-in_err-out-clause-reasons : goal.returns-in_err-out-clause-reasons
returns-in_err-out-clause-reasons c = (found_err c).reasons ∙ ap all_reasons c.self.view_is

pub returns-clause-reasons : goal.returns-clause-reasons
returns-clause-reasons c = (asked_some c).reasons ∙ (found_some c).reasons ∙ ap all_reasons c.self.view_is

pub returns-clause-size : goal.returns-clause-size
returns-clause-size c = λ found. c.in_ok-out.ensures.size
