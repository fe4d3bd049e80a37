use Rattle.std.proofs.Common.{◌≡◌, ◌+◌, ◌≤◌, length, vec_len, vec_capacity}
use Rattle.serving.specs.Serving.{numbers_of}
use Rattle.serving.proofs.Opening.{LinksSoFar}
use Rattle.serving.proofs.server.Server.start_links.Given as goal

abbrev pub invariant-links : goal.invariant-links
invariant-links g l = record {
  so_far : LinksSoFar l.fn.self.turns (numbers_of l.fn.links.items) (numbers_of l.links.items) (g.O.Starter.Starter.started l.fn.starter) (g.O.Starter.Starter.started l.starter) l.self;
  count : length l.self.links + vec_len l.links ≡ vec_len l.fn.links;
  room : vec_len l.fn.links ≤ vec_capacity l.links;
  later : g.O.Starter.Starter.faults l.fn.starter ≤ g.O.Starter.Starter.faults l.starter;
}

abbrev pub decreases-links : goal.decreases-links
decreases-links g l = vec_len l.links
