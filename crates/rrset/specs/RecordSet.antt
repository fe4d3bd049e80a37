-- A record set: from each key what is shown of it, as the list of both in key order, each key once. It is no RRset of
-- RFC 2181, 5, but holds records of any names, and each keeps its own TTL (this project's own).
--     put, without, shown_at      a record put, keys taken out, what is shown of a key
--     is_of_rrset owner class kind key      the key is of this owner, class and kind
--     at_name, size_at      the records of a name, and their size
--     matching      the part that a question asks for
--     changes      what is shown otherwise in one set than in another
--     with_changes      a set with such changes made to it
--     with_values      a set with some keys as they were
use Rattle.std.specs.Prelude.{◌≡◌, ℕ, ◌<◌, Bool, not, ◌&&◌, List, [], map, length, take, Option, Some, None, fold, sum_by, ◌==◌}
use Rattle.std.specs.Option.{option_eq}
use Rattle.std.specs.Cmp.Lexicographic.{pointwise}
use Rattle.std.specs.List.{list_all}
use Rattle.dnsname.specs.Names.{Labels, same_name}
use Rattle.rrset.specs.KeyedRows.{Rows, is_rising, row_at, put_row, without_rows, only_rows, rows_of}
use Rattle.rrset.specs.declared.record.Rr.{Rr}
use Rattle.rrset.specs.declared.record.Key.{Key}
use Rattle.rrset.specs.declared.record.Shown.{Shown}
use Rattle.rrset.specs.declared.record.Question.{Question}
use Rattle.rrset.specs.declared.record.Changed.{Changed}
use Rattle.rrset.specs.Records.{key_of, shown_of, rr_of, rr_size, same_key, same_shown, matches}

abbrev pub RecordSet : Type 0
RecordSet = Rows Shown

-- keys rise strictly
abbrev pub is_in_order : RecordSet → Bool
is_in_order set = is_rising set

-- what is shown at a key has that key
abbrev pub shows_its_key : Key × Shown → Bool
shows_its_key e = same_key (key_of (rr_of e.0 e.1)) e.0

abbrev pub is_record_set : RecordSet → Bool
is_record_set set = is_in_order set && list_all shows_its_key set

abbrev pub put : Key → Shown → RecordSet → RecordSet
put key shown set = put_row key shown set

-- the records whose keys don't pass
abbrev pub without : (Key → Bool) → RecordSet → RecordSet
without test set = without_rows test set

abbrev pub only : (Key → Bool) → RecordSet → RecordSet
only test set = only_rows test set

abbrev pub shown_at : Key → RecordSet → Option Shown
shown_at key set = row_at key set

-- the keys of one owner, class and kind (RFC 2181, 5)
abbrev pub is_of_rrset : Labels → ℕ → ℕ → Key → Bool
is_of_rrset owner class kind key = same_name owner key.owner && class == key.class && kind == key.kind

abbrev pub at_name : Labels → RecordSet → RecordSet
at_name name set = rows_of name set

abbrev pub size_of : RecordSet → ℕ
size_of set = sum_by (λ e. rr_size (rr_of e.0 e.1)) set

abbrev pub size_at : Labels → RecordSet → ℕ
size_at name set = size_of (at_name name set)

-- the part whose keys the question matches
abbrev pub matching : Question → RecordSet → RecordSet
matching question set = only (matches question) set

abbrev pub put_rr : RecordSet → Rr → RecordSet
put_rr set rr = put (key_of rr) (shown_of rr) set

-- the last of several records with one key is the one that is shown
abbrev pub set_of : List Rr → RecordSet
set_of rrs = fold put_rr [] rrs

-- all records of both sets; at a key of both, the second's
abbrev pub union : RecordSet → RecordSet → RecordSet
union first second = fold (λ set e. put e.0 e.1 set) first second

-- the union with the first entries of a list, and not with the last
abbrev pub IsUnionWithFront : RecordSet → RecordSet → RecordSet → Type 0
IsUnionWithFront set entries all = (count : ℕ) × (count < length entries) × (all ≡ union set (take count entries))

abbrev pub same_keys : RecordSet → RecordSet → Bool
same_keys xs ys = pointwise (λ e f. same_key e.0 f.0) xs ys

-- the same keys, shown the same
abbrev pub same_rows : RecordSet → RecordSet → Bool
same_rows xs ys = pointwise (λ e f. same_key e.0 f.0 && same_shown e.1 f.1) xs ys

abbrev pub shown_the_same : Option Shown → Option Shown → Bool
shown_the_same a b = option_eq same_shown a b

-- the keys of either that are shown otherwise, in key order, with both values
abbrev pub changes : RecordSet → RecordSet → List Changed
changes old new = map (λ e. record { key = e.0; before = shown_at e.0 old; after = shown_at e.0 new })
    (only (λ key. not (shown_the_same (shown_at key old) (shown_at key new))) (union old new))

-- a set with one key shown as it is after a change
abbrev pub with_changed : RecordSet → Changed → RecordSet
with_changed set c = elim c.after [ None ↦ without (same_key c.key) set | Some shown ↦ put c.key shown set ]

-- a set with one key as it was: shown so, or not there
abbrev pub with_value : RecordSet → Key × Option Shown → RecordSet
with_value set e = elim e.1 [ None ↦ without (same_key e.0) set | Some shown ↦ put e.0 shown set ]

-- a set with several keys as they were, each given once
abbrev pub with_values : Rows (Option Shown) → RecordSet → RecordSet
with_values values set = fold with_value set values

-- a set with changes made to it, one after the other
abbrev pub with_changes : List Changed → RecordSet → RecordSet
with_changes cs set = fold with_changed set cs
