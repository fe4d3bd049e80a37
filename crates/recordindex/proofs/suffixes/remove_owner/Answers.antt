use Rattle.std.proofs.Common.{◌+◌, ◌≤◌, ℕ, List, length, get_or, sym, subst, ap, ◌∙◌}
use Rattle.recordindex.specs.Endings.{Exceeds, IsLeft, above_of, names_above}
use Rattle.recordindex.proofs.Keeping.{exceeds-above}
use Rattle.recordindex.proofs.Using.{left-above-name, within-name}
use Rattle.recordindex.proofs.suffixes.remove_owner.Goals as goal

pub above-requires : goal.above-requires
above-requires c = subst (λ (o : List ℕ). get_or o 0 0 + 1 ≤ length o) (sym c.octets.ensures.octets) (within-name c.args.owner.now)

pub lower-requires : goal.lower-requires
lower-requires c = subst IsLeft (sym (c.above.ensures ∙ ap above_of c.octets.ensures.octets)) (left-above-name c.args.owner.now)

pub returns-clause-counts : goal.returns-clause-counts
returns-clause-counts c = λ owners agrees.
    c.lower.ensures.counts (names_above owners)
    (subst (λ (o : List ℕ). Exceeds o (names_above owners) c.args.endings.now.entries) (sym (c.above.ensures ∙ ap above_of c.octets.ensures.octets)) (exceeds-above c.args.owner.now owners c.args.endings.now.entries agrees))
