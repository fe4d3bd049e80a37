use Rattle.std.proofs.Common.{◌≡◌, ◌++◌, ◌∙◌, List, ℕ, OnOk, ap, subst}
use Rattle.readable.specs.Shown.{shown_labels}
use Rattle.readable.proofs.Showing.{labels_shown}
use Rattle.readable.proofs.naming.push_name.Goals as goal

pub returns : goal.returns
returns c = subst (λ (t : List ℕ). OnOk c.push_labels.result (c.push_labels.new.out.items ≡ c.args.out.now.items ++ t)) (ap shown_labels c.octets.ensures.octets ∙ labels_shown c.args.name.now c.octets.ensures.name) c.push_labels.ensures
