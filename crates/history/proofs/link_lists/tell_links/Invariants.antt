use Rattle.std.proofs.Common.{drop}
use Rattle.std.specs.List.{AllByRecursion}
use Rattle.linkcache.specs.Links.{LinkKept}
use Rattle.history.proofs.TellingNames.{AreLinkNames}
use Rattle.history.proofs.link_lists.tell_links.Given as goal

abbrev pub invariant-links : goal.invariant-links
invariant-links l = AllByRecursion (λ (k : LinkKept). AreLinkNames k.state.rules) (drop l.link-index l.links) → AllByRecursion (λ (k : LinkKept). AreLinkNames k.state.rules) l.links
