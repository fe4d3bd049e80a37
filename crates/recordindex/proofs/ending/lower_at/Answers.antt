use Rattle.std.proofs.Common.{ℕ, sym, ap, ◌∙◌, Vec, Global}
use Rattle.std.specs.BTreeMap.{BTreeMap}
use Rattle.recordindex.specs.Endings.{is_used, once_less, used_at}
use Rattle.recordindex.proofs.Changes.{none-changed, set-changed}
use Rattle.recordindex.proofs.Using.{used-changed, used-none}
use Rattle.recordindex.proofs.ending.lower_at.Goals as goal

pub returns-in-Some-clause-entries : goal.returns-in-Some-clause-entries
returns-in-Some-clause-entries c =
    (c.get_mut.follows.holds c.saturating_sub.result).0
    ∙ set-changed c.args.name.now once_less c.in-Some.count.now c.saturating_sub.result c.saturating_sub.ensures c.args.endings.now.entries (sym c.in-Some.ensures.value)

pub returns-in-None-clause-entries : goal.returns-in-None-clause-entries
returns-in-None-clause-entries c =
    ap (λ (m : BTreeMap (Vec ℕ Global) ℕ). m.entries) c.get_mut.follows.holds-at-none
    ∙ none-changed c.args.name.now once_less c.args.endings.now.entries (sym c.in-None.ensures.value)

pub returns-in-Some-clause-is : goal.returns-in-Some-clause-is
returns-in-Some-clause-is c =
    ap is_used c.saturating_sub.ensures
    ∙ used-changed c.args.name.now once_less c.args.endings.now.entries _ c.in-Some.count.now c.in-Some.ensures.value (returns-in-Some-clause-entries c)

pub returns-in-None-clause-is : goal.returns-in-None-clause-is
returns-in-None-clause-is c =
    used-none c.args.name.now c.args.endings.now.entries c.in-None.ensures.value
    ∙ ap (λ (m : BTreeMap (Vec ℕ Global) ℕ). used_at c.args.name.now m.entries) (sym c.get_mut.follows.holds-at-none)
