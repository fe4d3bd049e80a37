-- Finite maps from keys to values: lists of both, each key once, in key order (by owner, kind, rdata and class).
--     is_rising rows      keys rise strictly
--     row_at, put_row      the value of a key; a value put in place of any that the key had
--     without_rows, only_rows      the rows whose keys don't pass a test; those whose keys pass
--     rows_of owner rows      the rows of an owner
use Rattle.std.specs.Prelude.{Bool, not, List, filter, Option}
use Rattle.std.specs.FinMap.{put as map_put, find as map_find, is_sorted as map_is_sorted}
use Rattle.dnsname.specs.Names.{Labels, same_name}
use Rattle.rrset.specs.Records.{key_cmp}
use Rattle.rrset.specs.declared.record.Key.{Key}

abbrev pub Rows : Type 0 → Type 0
Rows X = List (Key × X)

module _ {X : Type 0} where
  abbrev pub is_rising : Rows X → Bool
  is_rising rows = map_is_sorted key_cmp rows

  abbrev pub row_at : Key → Rows X → Option X
  row_at key rows = map_find key_cmp key rows

  abbrev pub put_row : Key → X → Rows X → Rows X
  put_row key value rows = map_put key_cmp key value rows

  abbrev pub without_rows : (Key → Bool) → Rows X → Rows X
  without_rows test rows = filter (λ e. not (test e.0)) rows

  abbrev pub only_rows : (Key → Bool) → Rows X → Rows X
  only_rows test rows = filter (λ e. test e.0) rows

  abbrev pub rows_of : Labels → Rows X → Rows X
  rows_of owner rows = only_rows (λ key. same_name owner key.owner) rows
