-- What a link's rows take while a hearing is laid over them.
--     owner_key owner      the key under which an owner's octets are kept
--     IsTaken rules rows count sizes      the count is that of the rows, and each owner whose octets are kept has so many
--     IsTakenBy room rules rows h count sizes      so it is once the record is put, where there is room, and with the rows as they are, where there is none
use Rattle.std.specs.Prelude.{◌≡◌, ℕ, Bool, true, false, [], length, IfSome}
use Rattle.dnsname.specs.Names.{Labels, lower}
use Rattle.rrset.specs.KeyedRows.{Rows, put_row, row_at}
use Rattle.rrset.specs.Records.{key_of}
use Rattle.rrset.specs.Tables.{counted}
use Rattle.rrset.specs.declared.record.Key.{Key}
use Rattle.rrset.specs.declared.record.HeardRr.{HeardRr}
use Rattle.linkcache.specs.Rows.{LinkRows, heard_at, size_under}
use Rattle.linkcache.specs.declared.rules.LinkRules.{LinkRules}

abbrev pub owner_key : Labels → Key
owner_key owner = record { owner = lower owner; class = 0; kind = 0; rdata = [] }

pub record IsTaken (rules : LinkRules) (rows : LinkRows) (count : ℕ) (sizes : Rows ℕ) : Type 0 where
  pub counts : count ≡ length rows
  pub sized : (owner : Labels) → IfSome (row_at (owner_key owner) sizes) (λ size. size ≡ counted (size_under rules owner rows))

abbrev pub IsTakenBy : Bool → LinkRules → LinkRows → HeardRr → ℕ → Rows ℕ → Type 0
IsTakenBy true rules rows h count sizes = (now : ℕ) → IsTaken rules (put_row (key_of h.rr) (heard_at now h) rows) count sizes
IsTakenBy false rules rows h count sizes = IsTaken rules rows count sizes
