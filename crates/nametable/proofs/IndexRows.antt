-- The rows of an owner are in key order.
use Rattle.std.proofs.Common.{◌≡◌, true, sym, subst}
use Rattle.std.specs.FinMap.Entries.{is_sorted-where_key}
use Rattle.dnsname.specs.Names.{Labels, same_name}
use Rattle.rrset.specs.Records.{key_cmp}
use Rattle.rrset.specs.KeyedRows.{Rows, is_rising, rows_of}
use Rattle.nametable.specs.Nodes.{Nodes, AreNodes, all_rows}
use Rattle.nametable.proofs.AllRows.{rising-all_rows}
use Rattle.nametable.proofs.RisingRows.{Rising, is_true}

pub rising-rows_of : {X : Type 0} (name : Labels) (rows : Rows X) → Rising rows → Rising (rows_of name rows)
rising-rows_of name rows h = is_sorted-where_key key_cmp (λ key. same_name name key.owner) rows h

-- as they are found in nodes
pub rising-found : {X : Type 0} (name : Labels) (nodes : Nodes X) (rows found : Rows X) → AreNodes nodes → all_rows nodes ≡ rows → found ≡ rows_of name rows → is_rising found ≡ true
rising-found name nodes rows found are all is =
    let rising : Rising rows = subst (λ (rs : Rows _). Rising rs) all (rising-all_rows nodes are) in
    is_true (is_rising found) (subst (λ (rs : Rows _). Rising rs) (sym is) (rising-rows_of name rows rising))
