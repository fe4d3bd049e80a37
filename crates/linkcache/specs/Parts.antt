-- The rows that a step looks at and changes.
--     is_touched usable key      the key's owner is that of a usable record
--     fails p key      the key doesn't pass
--     copied rows part key      a part with what rows have of the key
--     laid over rows      rows laid over others: a key of both has the former's
--     with_flushed now h over row      rows over others, with this one as a record's cache-flush bit leaves it
use Rattle.std.specs.Prelude.{ℕ, ◌+◌, Bool, not, ◌&&◌, cond, nat_lt, List, [], ◌∷◌, Some, None}
use Rattle.std.specs.List.{list_any}
use Rattle.dnsname.specs.Names.{same_name}
use Rattle.rrset.specs.declared.record.Key.{Key}
use Rattle.rrset.specs.declared.record.HeardRr.{HeardRr}
use Rattle.rrset.specs.KeyedRows.{put_row, row_at}
use Rattle.linkcache.specs.declared.row.HeardRow.{HeardRow}
use Rattle.linkcache.specs.Rows.{LinkRows, second, ending_by, has_key, is_of_set}

-- the owner is that of a record
abbrev pub is_touched : List HeardRr → Key → Bool
is_touched usable key = list_any (λ h. same_name h.rr.owner key.owner) usable

abbrev pub fails : (Key → Bool) → Key → Bool
fails p key = not (p key)

-- a part with what rows have of a key, if anything
abbrev pub copied : LinkRows → LinkRows → Key → LinkRows
copied rows part key = elim (row_at key rows) [ None ↦ part | Some row ↦ put_row key row part ]

-- rows laid over others; a key of both has what it has in the former
abbrev pub laid : LinkRows → LinkRows → LinkRows
laid [] rows = rows
laid (e ∷ es) rows = put_row e.0 e.1 (laid es rows)

-- rows over others, with one of the others as the cache-flush bit of a record leaves it, where it changes and none of its key is over it
abbrev pub with_flushed : ℕ → HeardRr → LinkRows → Key × HeardRow → LinkRows
with_flushed now h over row = cond ((is_of_set h.rr row && nat_lt (row.1.heard + second) now) && not (has_key row.0 over)) (put_row row.0 (ending_by (now + second) row).1 over) over
