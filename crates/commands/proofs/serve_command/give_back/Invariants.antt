use Rattle.std.proofs.Common.{◌≡◌, ◌⊎◌, ◌≤◌, true, length}
use Rattle.push_base.specs.Causes.{Rose}
use Rattle.serving.specs.Serving.{has_fault}
use Rattle.commands.proofs.Returning.{BackSoFar}
use Rattle.commands.proofs.serve_command.give_back.Given as goal

abbrev pub invariant-links : goal.invariant-links
invariant-links g l = record {
  raised : has_fault g.O.Links.Datagrams.faults l.fn.links.items ≡ true
      → (has_fault g.O.Links.Datagrams.faults l.fed-iterator.rest.items ≡ true) ⊎ Rose (g.O.Outside.others l.fn.outside) (g.O.Outside.others l.outside);
  later : g.O.Outside.others l.fn.outside ≤ g.O.Outside.others l.outside;
  reads : g.O.Outside.reads l.outside ≡ g.O.Outside.reads l.fn.outside;
  back : BackSoFar (g.O.Outside.told l.fn.outside).links (g.O.Outside.told l.outside).links (length l.fed-iterator.rest.items) (length l.fn.links.items);
  told : g.O.Outside.told l.outside ≡ (let t = g.O.Outside.told l.fn.outside in record t { links = (g.O.Outside.told l.outside).links });
}
