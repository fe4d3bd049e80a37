use Rattle.std.proofs.Common.{List, ℕ, ◌∷◌, [], ◌-◌, ◌≤◌, ◌∙◌, ◌++◌, ap, length, append_assoc, arith}
use Rattle.dnsname.specs.Text.{dot}
use Rattle.readable.specs.Shown.{shown, shown_labels}
use Rattle.readable.specs.declared.characters.Dots.TheVariants as dots
use Rattle.readable.proofs.Showing.{label_more}
use Rattle.readable.proofs.naming.push_labels.Goals as goal

pub labels-preserved : goal.labels-preserved
labels-preserved c =
    let some : 1 ≤ length c.first_label.result.0.now = grind arith in
    label_more c.labels.out.items c.push.new.self.items (c.args.out.now.items ++ shown_labels c.args.octets.now) c.labels.rest.now c.first_label.result.1.now c.first_label.result.0.now c.labels.left (c.labels.left - 1)
    (omega (arith, c.labels-test.true)) c.first_label.ensures.label some c.first_label.ensures.rest
    (c.in_ok-push.ensures.items ∙ ap (λ (t : List ℕ). t ++ dot ∷ []) c.in_ok-push_shown.ensures ∙ append_assoc c.labels.out.items (shown dots.Escaped c.first_label.result.0.now) (dot ∷ []))
    c.labels.invariant
