-- Names with their rows in blocks, of which each has those behind the one before it.
--     Blocks, nodes_in      several blocks; all their nodes
--     AreBlocks      what such blocks are: none is empty
--     begins_by name block      its first name is at most the name
--     BeginsAt number block      the number is that of its first name's first octets, or 0 where it has no name
--     IsBehind name blocks place      there is no block at the place, or it begins behind the name
--     IsBlockOf name blocks place      the name is in the block at the place, if anywhere, and may be put there
--     AddsNoOther name nodes new      no other name is new, and where there were nodes, there are some
use Rattle.std.specs.Prelude.{◌≡◌, ℕ, suc, ◌<◌, Bool, true, false, List, [], ◌∷◌, ◌++◌, length, get_or, take, drop}
use Rattle.std.specs.List.{AllByRecursion}
use Rattle.std.specs.Ordering.{is_le}
use Rattle.std.specs.declared.cmp.Ordering.TheVariants.{Less, Greater}
use Rattle.dnsname.specs.Names.{Labels}
use Rattle.nametable.specs.FirstOctets.{HasFirst}
use Rattle.nametable.specs.Nodes.{Nodes, AreNodes, name_cmp}

abbrev pub Blocks : Type 0 → Type 0
Blocks X = List (Nodes X)

module _ {X : Type 0} where
  abbrev pub nodes_in : Blocks X → Nodes X
  nodes_in [] = []
  nodes_in (block ∷ blocks) = block ++ nodes_in blocks

  abbrev pub AreFilled : Blocks X → Type 0
  AreFilled blocks = AllByRecursion (λ block. 0 < length block) blocks

  abbrev pub AreBlocks : Blocks X → Type 0
  AreBlocks blocks = AreNodes (nodes_in blocks) × AreFilled blocks

  abbrev pub begins_by : Labels → Nodes X → Bool
  begins_by name [] = true
  begins_by name (node ∷ nodes) = is_le (name_cmp node.0 name)

  abbrev pub BeginsAt : ℕ → Nodes X → Type 0
  BeginsAt number [] = number ≡ 0
  BeginsAt number (node ∷ nodes) = HasFirst number node.0

  abbrev pub AreLess : Labels → Nodes X → Type 0
  AreLess name nodes = AllByRecursion (λ node. name_cmp node.0 name ≡ Less) nodes

  abbrev pub AreGreater : Labels → Nodes X → Type 0
  AreGreater name nodes = AllByRecursion (λ node. name_cmp node.0 name ≡ Greater) nodes

  -- there is no block at the place, or it begins behind the name
  abbrev pub IsBehind : Labels → Blocks X → ℕ → Type 0
  IsBehind name blocks place = (d : Nodes X) → place < length blocks → begins_by name (get_or blocks place d) ≡ false

  pub record IsBlockOf (name : Labels) (blocks : Blocks X) (place : ℕ) : Type 0 where
    pub within : place < length blocks
    pub before : AreLess name (nodes_in (take place blocks))
    pub behind : AreGreater name (nodes_in (drop (suc place) blocks))

  -- the names of all nodes pass a test
  abbrev pub HaveNames : (Labels → Bool) → Nodes X → Type 0
  HaveNames test nodes = AllByRecursion (λ node. test node.0 ≡ true) nodes

  pub record AddsNoOther (name : Labels) (nodes new : Nodes X) : Type 0 where
    pub names : (test : Labels → Bool) → test name ≡ true → HaveNames test nodes → HaveNames test new
    pub filled : 0 < length nodes → 0 < length new
