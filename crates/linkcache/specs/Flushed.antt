-- RRsets that a hearing has flushed already.
--     set_key rr      the key of a record's RRset, which has no rdata
--     AreFlushed now sets rows      the cache-flush bit of a record of such a set changes none of the rows any more
use Rattle.std.specs.Prelude.{◌≡◌, ℕ, true, [], is_some}
use Rattle.dnsname.specs.Names.{lower}
use Rattle.rrset.specs.KeyedRows.{Rows, row_at}
use Rattle.rrset.specs.declared.record.Rr.{Rr}
use Rattle.rrset.specs.declared.record.Key.{Key}
use Rattle.rrset.specs.declared.record.HeardRr.{HeardRr}
use Rattle.linkcache.specs.Rows.{LinkRows, flushed_by}

abbrev pub set_key : Rr → Key
set_key rr = record { owner = lower rr.owner; class = rr.class; kind = rr.kind; rdata = [] }

abbrev pub AreFlushed : {X : Type 0} → ℕ → Rows X → LinkRows → Type 0
AreFlushed now sets rows = (h : HeardRr) → is_some (row_at (set_key h.rr) sets) ≡ true → flushed_by now rows h ≡ rows
