use Rattle.std.proofs.Common.{◌≡◌, ◌∙◌, sym}
use Rattle.dnsname.specs.Names.{ends_in}
use Rattle.dnsname.specs.Octets.{labels_of}
use Rattle.dnsname.proofs.Spellings.{spells, view_of}
use Rattle.dnsname.proofs.Decisions.{ends_in-Decides}
use Rattle.dnsname.proofs.name.Name.ends_in.Goals as goal

pub spelled_ends_in-requires-clause-name : goal.spelled_ends_in-requires-clause-name
spelled_ends_in-requires-clause-name c = spells _ _ c.octets.ensures.name c.octets.ensures.octets

pub spelled_ends_in-requires-clause-suffix : goal.spelled_ends_in-requires-clause-suffix
spelled_ends_in-requires-clause-suffix c = spells _ _ c.octets-2.ensures.name c.octets-2.ensures.octets

pub returns-clause-exact : goal.returns-clause-exact
returns-clause-exact c =
    let mine : labels_of c.octets.result.now ≡ c.args.self.now = view_of _ _ c.octets.ensures.name.labels c.octets.ensures.octets in
    let other : labels_of c.octets-2.result.now ≡ c.args.suffix.now = view_of _ _ c.octets-2.ensures.name.labels c.octets-2.ensures.octets in
    c.spelled_ends_in.ensures ∙ (λ i. ends_in (mine i) (other i))

pub returns-clause-ends : goal.returns-clause-ends
returns-clause-ends c =
    let is : c.spelled_ends_in.result ≡ ends_in c.args.self.now c.args.suffix.now = returns-clause-exact c in
    let decides = ends_in-Decides c.args.self.now c.args.suffix.now in
    (λ t. decides.0 (sym is ∙ t), λ e. is ∙ decides.1 e)
