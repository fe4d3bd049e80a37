use Rattle.std.proofs.Common.{◌≡◌, ◌+◌, ◌≤◌, length, map, vec_len, vec_capacity}
use Rattle.hublock.specs.Feeds.{added, each}
use Rattle.serving.proofs.Finishing.{LinksBack}
use Rattle.serving.proofs.closing.finish_links.Given as goal

abbrev pub invariant-hearings : goal.invariant-hearings
invariant-hearings g l = record {
  parts : added l.feed.parts (each (length l.hearing-iterator.rest.items)) ≡ added l.fn.feed.parts (each (vec_len l.fn.hearings));
  back : LinksBack g.O.Links.Datagrams.faults (map (λ h. h.link) l.fn.hearings.items) (map (λ h. h.link) l.hearing-iterator.rest.items) l.fn.links.items l.links.items l.place l.noted.starved l.noted.ends.items;
  place : l.place ≤ vec_len l.links;
  room : vec_len l.links + length l.hearing-iterator.rest.items ≤ vec_capacity l.links;
}
