use Rattle.std.proofs.Common.{◌≡◌, ◌++◌, filter, take}
use Rattle.std.specs.Prelude.{flat_map}
use Rattle.linkcache.specs.Rows.{names_of}
use Rattle.zoneupdate.specs.KeptZones.{lies_under}
use Rattle.history.proofs.updating.put_links_under.Given as goal

abbrev pub invariant-links : goal.invariant-links
invariant-links l = l.names.items ≡ l.fn.names.items ++ filter (lies_under l.apex) (flat_map (λ k. names_of k.state.rules) (take l.link-index l.links))
