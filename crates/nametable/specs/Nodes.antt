-- Rows in tables by name: each name once, in the order of names, with a table of its rows. A name with its rows is a
-- node (RFC 1034, 3.1), and may have none.
--     Node, Nodes      a name in lower case and its table; several of them
--     all_rows      the rows of all nodes, in key order
--     AreNodes      what such nodes are
--     AreAlike, has_rows      nodes that are one but for their room; a node that isn't empty
--     names_in      how many names have rows
--     room_at, HasRoomFor keys nodes      the further keys of a name that take no memory; these keys take none
--     is_one_of key keys, unless taken key keys      whether a key is among others; these with it, unless it is taken
--     lacking has keys      those of the keys that fail a test, each once
--     has_row nodes      whether a key has a row
--     keys_put, HaveRisingKeys      the keys at which changes put something; the keys of changes rise strictly
--     keys_of      the keys of rows
--     IsNameAt, IsNameGap      where a name is, and where it would go
use Rattle.std.specs.Prelude.{◌≡◌, ℕ, ◌≤◌, ◌<◌, ◌||◌, Bool, List, [], ◌∷◌, ◌++◌, map, Option, Some, None, is_some, length, true, false, nat_lt}
use Rattle.std.specs.List.{AllByRecursion, HoldsAt, filter, list_any}
use Rattle.std.specs.List.Sorted.{IsPartitionPoint}
use Rattle.std.specs.declared.cmp.Ordering.TheVariants.{Less, Equal, Greater}
use Rattle.std.specs.Ordering.{is_eq}
use Rattle.std.specs.FinMap.{find as map_find, is_sorted as map_is_sorted}
use Rattle.std.specs.declared.cmp.Ordering.{Ordering}
use Rattle.dnsname.specs.Names.{Labels, octets, lower}
use Rattle.rrset.specs.Records.{octets_cmp, same_key}
use Rattle.rrset.specs.KeyedRows.{Rows, is_rising, row_at}
use Rattle.rrset.specs.Tables.{TableState}
use Rattle.rrset.specs.declared.record.Key.{Key}
use Rattle.rrset.specs.declared.record.Shown.{Shown}
use Rattle.rrset.specs.declared.record.Changed.{Changed}

-- a name with its table
abbrev pub Node : Type 0 → Type 0
Node X = Labels × TableState X

abbrev pub Nodes : Type 0 → Type 0
Nodes X = List (Node X)

-- the order of names that keys have
abbrev pub name_cmp : Labels → Labels → Ordering
name_cmp a b = octets_cmp (octets a) (octets b)

-- the rows, and the nodes in which they stand, of which callers need the room alone
pub record NodesState (X : Type 0) : Type 0 where
  pub rows : Rows X
  pub nodes : Nodes X

-- how many of the keys are at a name
abbrev pub count_at : Labels → List Key → ℕ
count_at name keys = length (filter (λ key. is_eq (name_cmp name key.owner)) keys)

-- a key is one of others
abbrev pub is_one_of : Key → List Key → Bool
is_one_of key keys = list_any (same_key key) keys

-- a key before others, but where a test tells it
abbrev pub unless : Bool → Key → List Key → List Key
unless true key keys = keys
unless false key keys = key ∷ keys

-- those of the keys that fail a test, each once
abbrev pub lacking : (Key → Bool) → List Key → List Key
lacking has [] = []
lacking has (key ∷ keys) = unless (has key || is_one_of key keys) key (lacking has keys)

-- the keys at which changes put something
abbrev pub keys_put : List Changed → List Key
keys_put changed = map (λ c. c.key) (filter (λ c. is_some c.after) changed)

-- the rows that changes lead to, each at its key
abbrev pub rows_after : List Changed → Rows (Option Shown)
rows_after changed = map (λ c. (c.key, c.after)) changed

-- the keys of changes rise strictly
abbrev pub HaveRisingKeys : List Changed → Type 0
HaveRisingKeys changed = is_rising (rows_after changed) ≡ true

module _ {X : Type 0} where
  -- the keys of rows
  abbrev pub keys_of : Rows X → List Key
  keys_of rows = map (λ e. e.0) rows

  abbrev pub table_at : Labels → Nodes X → Option (TableState X)
  table_at name nodes = map_find name_cmp name nodes

  -- all rows
  abbrev pub all_rows : Nodes X → Rows X
  all_rows [] = []
  all_rows (node ∷ nodes) = node.1.rows ++ all_rows nodes

  -- a name in lower case, and rows in key order that have this owner
  abbrev pub IsNode : Node X → Type 0
  IsNode node = (is_rising node.1.rows ≡ true) × (lower node.0 ≡ node.0) × AllByRecursion (λ e. e.0.owner ≡ node.0) node.1.rows

  -- names rise strictly
  abbrev pub AreNodes : Nodes X → Type 0
  AreNodes nodes = (map_is_sorted name_cmp nodes ≡ true) × AllByRecursion IsNode nodes

  -- the same names and rows, whatever the room
  abbrev pub AreAlike : Nodes X → Nodes X → Type 0
  AreAlike [] [] = Unit {0}
  AreAlike (g ∷ ns) (h ∷ ms) = (g.0 ≡ h.0) × (g.1.rows ≡ h.1.rows) × AreAlike ns ms
  AreAlike _ _ = ⊥

  -- a node that has rows
  abbrev pub has_rows : Node X → Bool
  has_rows node = nat_lt 0 (length node.1.rows)

  -- how many names have rows
  abbrev pub names_in : Nodes X → ℕ
  names_in nodes = length (filter has_rows nodes)

  abbrev pub spare_of : Option (TableState X) → ℕ
  spare_of None = 0
  spare_of (Some table) = table.spare

  abbrev pub room_at : Nodes X → Labels → ℕ
  room_at nodes name = spare_of (table_at name nodes)

  -- whether a key has a row
  abbrev pub has_row : Nodes X → Key → Bool
  has_row nodes key = is_some (row_at key (all_rows nodes))

  -- there is room for all of these keys that have no row, each counted once
  abbrev pub HasRoomFor : List Key → Nodes X → Type 0
  HasRoomFor keys nodes = (name : Labels) → count_at name (lacking (has_row nodes) keys) ≤ room_at nodes name

  -- the name is that of the node with this index
  pub record IsNameAt (name : Labels) (nodes : Nodes X) (index : ℕ) : Type 0 where
    pub within : index < length nodes
    pub equal : HoldsAt (λ node. name_cmp node.0 name ≡ Equal) nodes index

  -- the names before the index are less than the name, and those from there on are greater
  pub record IsNameGap (name : Labels) (nodes : Nodes X) (index : ℕ) : Type 0 where
    pub within : index ≤ length nodes
    pub between : IsPartitionPoint (λ node. name_cmp node.0 name ≡ Less) (λ node. name_cmp node.0 name ≡ Greater) nodes index
