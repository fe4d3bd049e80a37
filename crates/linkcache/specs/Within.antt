-- What fits a link: few enough rows, and few enough octets of each owner (this project's own).
use Rattle.std.specs.Prelude.{◌≤◌, length}
use Rattle.push_base.specs.Limits.{max_octets_at_name}
use Rattle.dnsname.specs.Names.{Labels}
use Rattle.linkcache.specs.Rows.{LinkRows, max_rows, size_under}
use Rattle.linkcache.specs.declared.rules.LinkRules.{LinkRules}

-- the octets are those under the domain, of rows that aren't shown, too
pub record IsWithin (rules : LinkRules) (rows : LinkRows) : Type 0 where
  pub few : length rows ≤ max_rows
  pub owners : (owner : Labels) → size_under rules owner rows ≤ max_octets_at_name
