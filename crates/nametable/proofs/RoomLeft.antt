-- What a key that is put or taken out leaves of the room for others.
use Rattle.std.proofs.Common.{◌≡◌, ◌+◌, ◌≤◌, ◌||◌, Bool, true, false, cond, not, List, ◌∷◌, Option, Some, None, is_some, Result, Ok, Err, refl, sym, ap, subst, ◌∙◌, arith, Ordering, Less, Equal, Greater}
use Rattle.std.specs.Result.{IsOk, OnOk}
use Rattle.std.specs.Ordering.{is_eq}
use Rattle.std.specs.Cmp.{eq_by_cmp_equiv}
use Rattle.std.specs.FinMap.Entries.{find-put}
use Rattle.dnsname.specs.Names.{Labels}
use Rattle.rrset.specs.Records.{key_cmp, same_key}
use Rattle.rrset.specs.KeyedRows.{Rows, put_row, without_rows, row_at}
use Rattle.rrset.specs.declared.record.Key.{Key}
use Rattle.rrset.proofs.KeyOrder.{key_cmp_total}
use Rattle.nametable.specs.Nodes.{Nodes, all_rows, count_at, has_row, name_cmp, room_at, HasRoomFor}
use Rattle.nametable.proofs.RisingRows.{row_at-without}
use Rattle.nametable.proofs.AllRows.{same_names}
use Rattle.nametable.proofs.KeyRoom.{has-more, lacking-rest, lacking-same, room-first, same-is, same-sym}
use Rattle.nametable.proofs.NodeChanges.{TakesKey, DropsKey}

same-itself : (k : Key) → same_key k k ≡ true
same-itself k = (eq_by_cmp_equiv key_cmp_total).refl k

module _ {X : Type 0} where
  -- ---- a key put

  has-put : (k q : Key) (value : X) (old new : Rows X) → new ≡ put_row k value old → is_some (row_at q new) ≡ (same_key q k || is_some (row_at q old))
  has-put k q value old new is =
      ap (λ (l : Rows X). is_some (row_at q l)) is ∙ ap (λ (o : Option X). is_some o) (find-put key_cmp key_cmp_total q k value old) ∙ by (same_key q k)
    where
      by : (b : Bool) → is_some (cond b (Some value) (row_at q old)) ≡ (b || is_some (row_at q old))
      by true = refl
      by false = refl

  -- all keys had rows that have them, where one that had one is put
  has-again : (k : Key) (value : X) (old new : Nodes X) → all_rows new ≡ put_row k value (all_rows old) → has_row old k ≡ true → (q : Key) → has_row new q ≡ has_row old q
  has-again k value old new rows had q = has-put k q value (all_rows old) (all_rows new) rows ∙ by (same_key q k) refl
    where
      by : (b : Bool) → same_key q k ≡ b → (b || has_row old q) ≡ has_row old q
      by true is = sym (ap (has_row old) (same-is q k is) ∙ had)
      by false is = refl

  less-room : (k : Key) (old new : Nodes X) → room_at old k.owner ≤ room_at new k.owner + 1 → ((name : Labels) → is_eq (name_cmp name k.owner) ≡ false → room_at old name ≤ room_at new name)
      → (name : Labels) → room_at old name ≤ room_at new name + cond (is_eq (name_cmp name k.owner)) 1 0
  less-room k old new here others name = by (name_cmp name k.owner) refl
    where
      by : (r : Ordering) → name_cmp name k.owner ≡ r → room_at old name ≤ room_at new name + cond (is_eq r) 1 0
      by Less e = let more = others name (ap is_eq e) in omega (arith, more)
      by Greater e = let more = others name (ap is_eq e) in omega (arith, more)
      by Equal e = subst (λ (l : Labels). room_at old l ≤ room_at new l + 1) (sym (same_names name k.owner e)) here

  kept-room : (k : Key) (old new : Nodes X) → room_at old k.owner ≤ room_at new k.owner → ((name : Labels) → is_eq (name_cmp name k.owner) ≡ false → room_at old name ≤ room_at new name)
      → (name : Labels) → room_at old name ≤ room_at new name
  kept-room k old new here others name = by (name_cmp name k.owner) refl
    where
      by : (r : Ordering) → name_cmp name k.owner ≡ r → room_at old name ≤ room_at new name
      by Less e = others name (ap is_eq e)
      by Greater e = others name (ap is_eq e)
      by Equal e = subst (λ (l : Labels). room_at old l ≤ room_at new l) (sym (same_names name k.owner e)) here

  same-left : (old new : Nodes X) → ((q : Key) → has_row new q ≡ has_row old q) → ((name : Labels) → room_at old name ≤ room_at new name) → (ks : List Key) → HasRoomFor ks old → HasRoomFor ks new
  same-left old new same kept ks room name =
      let was = room name in
      let now = ap (λ (l : List Key). count_at name l) (lacking-same (has_row new) (has_row old) same ks) in
      let more = kept name in
      omega (arith, was, now, more)

  pub put-fits : {E : Type 0} (k : Key) (value : X) (old new : Nodes X) (r : Result (Option X) E) → TakesKey k value old new r → (ks : List Key) → HasRoomFor (k ∷ ks) old → IsOk r
  put-fits k value old new r takes ks room = takes.succeeds (room-first k ks old room)

  pub put-left : {E : Type 0} (k : Key) (value : X) (old new : Nodes X) (r : Result (Option X) E) → TakesKey k value old new r → (ks : List Key) → HasRoomFor (k ∷ ks) old → HasRoomFor ks new
  put-left {E} k value old new r takes ks room = by r (put-fits k value old new r takes ks room) takes.rows
    where
      fresh : all_rows new ≡ put_row k value (all_rows old) → has_row old k ≡ false → HasRoomFor ks new
      fresh rows none name =
          let fewer = has-more name (has_row old) (has_row new) k none (λ q. has-put k q value (all_rows old) (all_rows new) rows) ks in
          let was = room name in
          let now = less-room k old new takes.here takes.others name in
          omega (arith, fewer, was, now)

      again : all_rows new ≡ put_row k value (all_rows old) → has_row old k ≡ true → HasRoomFor ks new
      again rows had =
          same-left old new (has-again k value old new rows had) (kept-room k old new (takes.kept had) takes.others) ks (λ name. let was = room name in let rest = lacking-rest name (has_row old) k ks in omega (arith, was, rest))

      cases : all_rows new ≡ put_row k value (all_rows old) → (b : Bool) → has_row old k ≡ b → HasRoomFor ks new
      cases rows true had = again rows had
      cases rows false none = fresh rows none

      by : (r : Result (Option X) E) → IsOk r → OnOk r (all_rows new ≡ put_row k value (all_rows old)) → HasRoomFor ks new
      by (Ok before) ok rows = cases rows (has_row old k) refl
      by (Err e) ok rows = absurd cc

  -- ---- a key taken out

  has-without : (k q : Key) (old new : Rows X) → new ≡ without_rows (same_key k) old → is_some (row_at q new) ≡ is_some (cond (not (same_key k q)) (row_at q old) None)
  has-without k q old new is = ap (λ (l : Rows X). is_some (row_at q l)) is ∙ ap (λ (o : Option X). is_some o) (row_at-without k q old)

  pub drop-left : (k : Key) (old new : Nodes X) (result : Option X) → DropsKey k old new result → (ks : List Key) → HasRoomFor ks old → HasRoomFor ks new
  drop-left k old new result drops ks room = by (has_row old k) refl
    where
      same : has_row old k ≡ false → (q : Key) → has_row new q ≡ has_row old q
      same none q = has-without k q (all_rows old) (all_rows new) drops.rows ∙ at (same_key k q) refl
        where
          at : (b : Bool) → same_key k q ≡ b → is_some (cond (not b) (row_at q (all_rows old)) None) ≡ has_row old q
          at true is = sym (ap (has_row old) (sym (same-is k q is)) ∙ none)
          at false is = refl

      gone : has_row new k ≡ false
      gone = has-without k k (all_rows old) (all_rows new) drops.rows ∙ ap (λ (b : Bool). is_some (cond (not b) (row_at k (all_rows old)) None)) (same-itself k)

      had : has_row old k ≡ true → (q : Key) → has_row old q ≡ (same_key q k || has_row new q)
      had there q = at (same_key q k) refl
        where
          at : (b : Bool) → same_key q k ≡ b → has_row old q ≡ (b || has_row new q)
          at true is = ap (has_row old) (same-is q k is) ∙ there
          at false is = sym (has-without k q (all_rows old) (all_rows new) drops.rows ∙ ap (λ (b : Bool). is_some (cond (not b) (row_at q (all_rows old)) None)) (same-sym k q ∙ is))

      more : has_row old k ≡ true → (name : Labels) → room_at old name + cond (is_eq (name_cmp name k.owner)) 1 0 ≤ room_at new name
      more there name = at (name_cmp name k.owner) refl
        where
          at : (r : Ordering) → name_cmp name k.owner ≡ r → room_at old name + cond (is_eq r) 1 0 ≤ room_at new name
          at Less e = let kept = drops.room name in omega (arith, kept)
          at Greater e = let kept = drops.room name in omega (arith, kept)
          at Equal e = subst (λ (l : Labels). room_at old l + 1 ≤ room_at new l) (sym (same_names name k.owner e)) (drops.freed there)

      by : (b : Bool) → has_row old k ≡ b → HasRoomFor ks new
      by false none = same-left old new (same none) drops.room ks room
      by true there = λ name.
          let fewer = has-more name (has_row new) (has_row old) k gone (had there) ks in
          let rest = lacking-rest name (has_row new) k ks in
          let was = room name in
          let now = more there name in
          omega (arith, fewer, rest, was, now)
