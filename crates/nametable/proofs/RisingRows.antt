-- Rows in key order, whatever they hold: what keeps them so, and that two are one where they have the same at each key.
use Rattle.std.proofs.Common.{◌≡◌, Bool, true, false, cond, not, T, None, refl, sym, ap, subst}
use Rattle.std.specs.Ordering.{is_eq}
use Rattle.std.specs.FinMap.Entries.{same_entries, is_sorted-where_key, is_sorted-put, find-where_key}
use Rattle.std.specs.declared.cmp.Ordering.{Ordering}
use Rattle.std.specs.declared.cmp.Ordering.TheVariants.{Equal}
use Rattle.std.proofs.lemmas.Cmp.{alike_right}
use Rattle.rrset.specs.Records.{key_cmp, same_key}
use Rattle.rrset.specs.KeyedRows.{Rows, is_rising, row_at, put_row, without_rows}
use Rattle.rrset.specs.declared.record.Key.{Key}
use Rattle.rrset.proofs.KeyOrder.{key_cmp_total, key_cmp-IsAntisymmetric}

pub is_T : (b : Bool) → b ≡ true → T b
is_T b e = subst T (sym e) tt

pub is_true : (b : Bool) → T b → b ≡ true
is_true true h = refl
is_true false h = absurd h

module _ {X : Type 0} where
  abbrev pub Rising : Rows X → Type 0
  Rising rows = T (is_rising rows)

  pub rising-put : (key : Key) (value : X) (rows : Rows X) → Rising rows → Rising (put_row key value rows)
  rising-put key value rows h = is_sorted-put key_cmp key_cmp_total key value rows h

  pub rising-without : (test : Key → Bool) (rows : Rows X) → Rising rows → Rising (without_rows test rows)
  rising-without test rows h = is_sorted-where_key key_cmp (λ key. not (test key)) rows h

  pub same_maps : (a b : Rows X) → Rising a → Rising b → ((q : Key) → row_at q a ≡ row_at q b) → a ≡ b
  same_maps a b h g same = same_entries key_cmp key_cmp_total key_cmp-IsAntisymmetric a b h g same

  -- taking a key out leaves what stands at the others
  pub row_at-without : (key q : Key) (rows : Rows X) → row_at q (without_rows (same_key key) rows) ≡ cond (not (same_key key q)) (row_at q rows) None
  row_at-without key q rows = find-where_key key_cmp (λ k. not (same_key key k)) q (λ x e. ap not (alike x e)) rows
    where
      alike : (x : Key) → key_cmp q x ≡ Equal → same_key key x ≡ same_key key q
      alike x e = ap (λ (r : Ordering). is_eq r) (sym (right key q x e))
        where
          right : (k a b : Key) → key_cmp a b ≡ Equal → key_cmp k a ≡ key_cmp k b
          right k a b e = alike_right key_cmp_total a b k e
