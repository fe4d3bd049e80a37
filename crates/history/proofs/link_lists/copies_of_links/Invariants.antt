use Rattle.std.proofs.Common.{◌≡◌, map, take}
use Rattle.history.proofs.link_lists.copies_of_links.Given as goal

abbrev pub invariant-links : goal.invariant-links
invariant-links l = map (λ k. k.state) l.copy.items ≡ map (λ k. k.state) (take l.link-index l.links)
