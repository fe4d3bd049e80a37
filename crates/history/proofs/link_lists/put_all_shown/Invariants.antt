use Rattle.std.proofs.Common.{◌≡◌, fold, map, take}
use Rattle.rrset.specs.RecordSet.{union}
use Rattle.linkcache.specs.Rows.{shown_rows}
use Rattle.history.proofs.link_lists.put_all_shown.Given as goal

abbrev pub invariant-links : goal.invariant-links
invariant-links l = l.all.rows ≡ fold union l.fn.all.rows (map (λ k. shown_rows k.state.rules k.state.rows) (take l.link-index l.links))
