use Rattle.std.proofs.Common.{◌≡◌, ◌∙◌, sym, ap, subst, true}
use Rattle.std.specs.Arc.{arc_value}
use Rattle.dnsname.specs.Names.{Labels, lower}
use Rattle.dnsname.specs.declared.name.Spelling.{Spelling}
use Rattle.dnsname.proofs.LowerCase.{lower_is}
use Rattle.dnsname.proofs.name.Name.is_lower.Goals as goal

pub returns : goal.returns
returns c = λ e.
    let is : (arc_value c.self.inside.spelling).is_lower ≡ true = sym (ap (λ (s : Spelling). s.is_lower) c.as_ref.ensures) ∙ e in
    subst (λ (name : Labels). lower name ≡ name) c.self.view_is (lower_is _ _ c.self.invariant is)
