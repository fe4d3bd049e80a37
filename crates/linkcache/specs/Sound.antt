-- What a row of a link is: a record that the link shows, or an address that it doesn't, with its key.
use Rattle.std.specs.Prelude.{◌≡◌, true}
use Rattle.std.specs.List.{AllByRecursion}
use Rattle.rrset.specs.Records.{key_of}
use Rattle.rrset.specs.declared.record.Key.{Key}
use Rattle.reversemap.specs.BothKinds.{is_used}
use Rattle.linkcache.specs.Rows.{LinkRows, rr_of_row}
use Rattle.linkcache.specs.declared.row.HeardRow.{HeardRow}
use Rattle.linkcache.specs.declared.rules.LinkRules.{LinkRules}

-- the record is used under the domain or a reverse domain, and has the row's key
pub record IsLinkRow (rules : LinkRules) (row : Key × HeardRow) : Type 0 where
  pub usable : is_used rules.domain rules.reverses (rr_of_row row) ≡ true
  pub key : key_of (rr_of_row row) ≡ row.0

abbrev pub AreLinkRows : LinkRules → LinkRows → Type 0
AreLinkRows rules rows = AllByRecursion (IsLinkRow rules) rows
