use Rattle.std.proofs.Common.{◌∙◌, sym, ap}
use Rattle.rrset.specs.Records.{key_cmp}
use Rattle.rrset.specs.declared.record.Key.{Key}
use Rattle.linkcache.proofs.FirstKeys.{first-less, first-greater}
use Rattle.linkcache.proofs.end_key.EndKey.compare.Goals as goal

pub returns-then-self-other : goal.returns-then-self-other
returns-then-self-other c =
    sym (first-less c.self.inside.first c.other.inside.first c.self.inside.key.value c.other.inside.key.value c.self.invariant c.other.invariant c.if-self-other.true)
    ∙ ap (λ (k : Key). key_cmp k c.other.inside.key.value) c.self.view_is
    ∙ ap (λ (k : Key). key_cmp c.args.self.now k) c.other.view_is

pub returns-then-other-self : goal.returns-then-other-self
returns-then-other-self c =
    sym (first-greater c.self.inside.first c.other.inside.first c.self.inside.key.value c.other.inside.key.value c.self.invariant c.other.invariant c.if-other-self.true)
    ∙ ap (λ (k : Key). key_cmp k c.other.inside.key.value) c.self.view_is
    ∙ ap (λ (k : Key). key_cmp c.args.self.now k) c.other.view_is
