use Rattle.std.proofs.Common.{◌≡◌, ◌≤◌, map, take, string_bytes}
use Rattle.serving.specs.Serving.{numbers_of}
use Rattle.commands.specs.Serving.{AddsAll}
use Rattle.commands.proofs.serve_command.open_links.Given as goal

abbrev pub invariant-feeds : goal.invariant-feeds
invariant-feeds g l = record {
  numbers : numbers_of l.links.items ≡ map (λ f. f.link) (take l.feed-index l.feeds);
  heard : AddsAll (g.O.Outside.told l.fn.outside).heard (g.O.Outside.told l.outside).heard (map (λ f. string_bytes f.address) (take l.feed-index l.feeds));
  later : g.O.Outside.others l.fn.outside ≤ g.O.Outside.others l.outside;
  reads : g.O.Outside.reads l.outside ≡ g.O.Outside.reads l.fn.outside;
  told : g.O.Outside.told l.outside ≡ (let t = g.O.Outside.told l.fn.outside in record t { heard = (g.O.Outside.told l.outside).heard });
}
