use Rattle.std.proofs.Common.{◌≡◌, ℕ, ◌+◌, drop, ap, ◌∙◌, arith}
use Rattle.rrset.specs.Rdata.{are_strings}
use Rattle.rrset.proofs.Shapes.{strings-begin, strings-go_on}
use Rattle.rrset.proofs.shape.are_strings.Goals.{then-wanted-eq0, else-wanted-eq0}
use Rattle.rrset.proofs.shape.are_strings.Goals as goal

pub octets-preserved : goal.octets-preserved
octets-preserved c =
    let octets = c.args.octets.now in
    let i = c.octets.octet-index in
    elim c.if-wanted-eq0.branch [
      | then-wanted-eq0 w ↦ ap (λ (n : ℕ). are_strings n (drop (i + 1) octets)) w.wanted-is ∙ strings-begin octets i (omega arith) ∙ (let none : 0 ≡ c.octets.wanted = omega (arith, w.if-wanted-eq0.true) in ap (λ (n : ℕ). are_strings n (drop i octets)) none) ∙ c.octets.invariant
      | else-wanted-eq0 w ↦ ap (λ (n : ℕ). are_strings n (drop (i + 1) octets)) w.wanted-is ∙ strings-go_on c.octets.wanted octets i (omega arith) (omega (arith, w.if-wanted-eq0.false)) ∙ c.octets.invariant
    ]
