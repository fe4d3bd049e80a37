-- The owners of rows, where a row is put or taken out.
use Rattle.std.proofs.Common.{◌≡◌, ℕ, zero, suc, ◌+◌, ◌<◌, Bool, true, false, cond, T, List, [], ◌∷◌, ◌++◌, length, get_or, take, refl, sym, ap, subst, ◌∙◌, arith}
use Rattle.std.specs.Prelude.{not, ◌&&◌, Option, Some, None, is_some}
use Rattle.std.specs.FinMap.Entries.{below_all, by_order}
use Rattle.std.specs.List.{AllByRecursion}
use Rattle.std.specs.Ordering.{is_eq, is_lt}
use Rattle.std.specs.declared.cmp.Ordering.{Ordering}
use Rattle.std.specs.declared.cmp.Ordering.TheVariants.{Less, Equal, Greater}
use Rattle.std.proofs.lemmas.List.{take_more}
use Rattle.dnsname.specs.Names.{Labels, lower}
use Rattle.rrset.specs.KeyedRows.{Rows, is_rising, put_row, row_at, without_rows}
use Rattle.rrset.specs.Records.{key_cmp, same_key}
use Rattle.rrset.specs.Tables.{HaveLowerOwners}
use Rattle.rrset.specs.declared.record.Changed.{Changed}
use Rattle.rrset.specs.declared.record.Key.{Key}
use Rattle.rrset.specs.declared.record.Shown.{Shown}
use Rattle.rrset.proofs.KeyOrder.{key_cmp-IsAntisymmetric}
use Rattle.nametable.specs.Nodes.{IsNode, Nodes, all_rows}
use Rattle.nametable.proofs.RisingRows.{rising-put}
use Rattle.recordindex.specs.Endings.{AreCounted, SuffixesState, above_name, names_above, times, using, HasRoomFor as HasPlacesFor}
use Rattle.recordindex.specs.Owners.{AreOwners, HasPlacesToPut, owners_in}

tied : (o : Ordering) → is_eq o ≡ true → o ≡ Equal
tied Less is = absurd cc
tied Equal is = refl
tied Greater is = absurd cc

-- a key that is the same is this one
same-is : (key other : Key) → same_key key other ≡ true → key ≡ other
same-is key other is = key_cmp-IsAntisymmetric key other (tied (key_cmp key other) is)

-- ---- lists of owners that weigh the same

abbrev pub weighed : (Labels → ℕ) → List Labels → ℕ
weighed w [] = 0
weighed w (owner ∷ owners) = w owner + weighed w owners

abbrev pub Alike : List Labels → List Labels → Type 0
Alike a b = (w : Labels → ℕ) → weighed w a ≡ weighed w b

counted-above : (os : List ℕ) (owners : List Labels) → times os (names_above owners) ≡ weighed (λ owner. times os (above_name owner [])) owners
counted-above os [] = refl
counted-above os ([] ∷ owners) = omega (arith, counted-above os owners)
counted-above os ((label ∷ name) ∷ owners) = omega (arith, counted-above os owners)

counted-all : (owners : List Labels) → length owners ≡ weighed (λ _. 1) owners
counted-all [] = refl
counted-all (owner ∷ owners) = omega (arith, counted-all owners)

pub alike : (a b : List Labels) (s : SuffixesState) → Alike a b → AreCounted a s → AreCounted b s
alike a b s same are = record {
  counts = λ os some.
      are.counts os some
      ∙ ap (λ (n : ℕ). n + using os s.kept) (counted-above os a ∙ same (λ owner. times os (above_name owner [])) ∙ sym (counted-above os b));
  total = counted-all b ∙ sym (same (λ _. 1)) ∙ sym (counted-all a) ∙ are.total;
}

-- ---- rows in order

and_left : (a b : Bool) → T (a && b) → T a
and_left true b h = tt
and_left false b h = absurd h

and_right : (a b : Bool) → T (a && b) → T b
and_right true b h = h
and_right false b h = absurd h

-- a key below all others has no row
none-below : (key : Key) (rows : Rows Shown) → T (below_all key_cmp key rows) → row_at key rows ≡ None
none-below key [] h = refl
none-below key (e ∷ es) h = by (key_cmp key e.0) (and_left (is_lt (key_cmp key e.0)) (below_all key_cmp key es) h) (none-below key es (and_right (is_lt (key_cmp key e.0)) (below_all key_cmp key es) h))
  where
    by : (o : Ordering) → T (is_lt o) → row_at key es ≡ None → cond (is_eq o) (Some e.1) (row_at key es) ≡ None
    by Less less rest = rest
    by Equal less rest = absurd less
    by Greater less rest = absurd less

behind : (e : Key × Shown) (es : Rows Shown) → T (is_rising (e ∷ es)) → T (is_rising es)
behind e es h = and_right (below_all key_cmp e.0 es) (is_rising es) h

-- one that wasn't there leaves the rows
nothing_taken : (key : Key) (rows : Rows Shown) → is_some (row_at key rows) ≡ false → without_rows (same_key key) rows ≡ rows
nothing_taken key [] none = refl
nothing_taken key (e ∷ es) none = by (same_key key e.0) none (nothing_taken key es)
  where
    by : (t : Bool) → is_some (cond t (Some e.1) (row_at key es)) ≡ false → (is_some (row_at key es) ≡ false → without_rows (same_key key) es ≡ es)
        → cond (not t) (e ∷ without_rows (same_key key) es) (without_rows (same_key key) es) ≡ e ∷ es
    by true none others = absurd cc
    by false none others = ap (λ (r : Rows Shown). e ∷ r) (others none)

-- ---- a row is put

put-new : (w : Labels → ℕ) (key : Key) (shown : Shown) (rows : Rows Shown) → is_some (row_at key rows) ≡ false → weighed w (key.owner ∷ owners_in rows) ≡ weighed w (owners_in (put_row key shown rows))
put-new w key shown [] none = refl
put-new w key shown (e ∷ es) none = by (key_cmp key e.0) none (put-new w key shown es)
  where
    swapped : (a b c d : ℕ) → a + c ≡ d → a + (b + c) ≡ b + d
    swapped a b c d is = omega (arith, is)

    by : (o : Ordering) → is_some (cond (is_eq o) (Some e.1) (row_at key es)) ≡ false
        → (is_some (row_at key es) ≡ false → weighed w (key.owner ∷ owners_in es) ≡ weighed w (owners_in (put_row key shown es)))
        → weighed w (key.owner ∷ owners_in (e ∷ es)) ≡ weighed w (owners_in (by_order o ((key, shown) ∷ e ∷ es) ((e.0, shown) ∷ es) (e ∷ put_row key shown es)))
    by Less none rest = refl
    by Equal none rest = absurd cc
    by Greater none rest = swapped (w key.owner) (w e.0.owner) (weighed w (owners_in es)) (weighed w (owners_in (put_row key shown es))) (rest none)

put-again : (w : Labels → ℕ) (key : Key) (shown : Shown) (rows : Rows Shown) → T (is_rising rows) → is_some (row_at key rows) ≡ true → weighed w (owners_in rows) ≡ weighed w (owners_in (put_row key shown rows))
put-again w key shown [] rising there = absurd cc
put-again w key shown (e ∷ es) rising there = by (key_cmp key e.0) refl there (rising-put key shown (e ∷ es) rising) (put-again w key shown es (behind e es rising))
  where
    by : (o : Ordering) → key_cmp key e.0 ≡ o → is_some (cond (is_eq o) (Some e.1) (row_at key es)) ≡ true
        → T (is_rising (by_order o ((key, shown) ∷ e ∷ es) ((e.0, shown) ∷ es) (e ∷ put_row key shown es)))
        → (is_some (row_at key es) ≡ true → weighed w (owners_in es) ≡ weighed w (owners_in (put_row key shown es)))
        → weighed w (owners_in (e ∷ es)) ≡ weighed w (owners_in (by_order o ((key, shown) ∷ e ∷ es) ((e.0, shown) ∷ es) (e ∷ put_row key shown es)))
    by Less is there put rest =
        let below = and_left (below_all key_cmp key (e ∷ es)) (is_rising (e ∷ es)) put in
        let none : row_at key es ≡ None = none-below key es (and_right (is_lt (key_cmp key e.0)) (below_all key_cmp key es) below) in
        let never : false ≡ true = sym (ap (λ (o : Option Shown). is_some o) none) ∙ there in
        absurd cc
    by Equal is there put rest = refl
    by Greater is there put rest = ap (λ (n : ℕ). w e.0.owner + n) (rest there)

without-one : (w : Labels → ℕ) (key : Key) (rows : Rows Shown) → T (is_rising rows) → is_some (row_at key rows) ≡ true → weighed w (owners_in rows) ≡ weighed w (key.owner ∷ owners_in (without_rows (same_key key) rows))
without-one w key [] rising there = absurd cc
without-one w key (e ∷ es) rising there = by (same_key key e.0) refl there (without-one w key es (behind e es rising))
  where
    swapped : (a b c d : ℕ) → c ≡ a + d → b + c ≡ a + (b + d)
    swapped a b c d is = omega (arith, is)

    by : (t : Bool) → same_key key e.0 ≡ t → is_some (cond t (Some e.1) (row_at key es)) ≡ true
        → (is_some (row_at key es) ≡ true → weighed w (owners_in es) ≡ weighed w (key.owner ∷ owners_in (without_rows (same_key key) es)))
        → weighed w (owners_in (e ∷ es)) ≡ weighed w (key.owner ∷ owners_in (cond (not t) (e ∷ without_rows (same_key key) es) (without_rows (same_key key) es)))
    by true is there rest =
        let key-is : key ≡ e.0 = same-is key e.0 is in
        let none : row_at key es ≡ None = ap (λ (k : Key). row_at k es) key-is ∙ none-below e.0 es (and_left (below_all key_cmp e.0 es) (is_rising es) rising) in
        ap (λ (k : Key). w k.owner + weighed w (owners_in es)) (sym key-is)
        ∙ ap (λ (r : Rows Shown). w key.owner + weighed w (owners_in r)) (sym (nothing_taken key es (ap (λ (o : Option Shown). is_some o) none)))
    by false is there rest = swapped (w key.owner) (w e.0.owner) (weighed w (owners_in es)) (weighed w (owners_in (without_rows (same_key key) es))) (rest there)

-- ---- what the changes leave

pub owners-new : (s : SuffixesState) (key : Key) (shown : Shown) (rows now : Rows Shown) → is_some (row_at key rows) ≡ false → AreCounted (key.owner ∷ owners_in rows) s → now ≡ put_row key shown rows → AreOwners s now
owners-new s key shown rows now none are now-is =
    subst (AreOwners s) (sym now-is) (alike (key.owner ∷ owners_in rows) (owners_in (put_row key shown rows)) s (λ w. put-new w key shown rows none) are)

pub owners-again : (s : SuffixesState) (key : Key) (shown : Shown) (rows now : Rows Shown) → T (is_rising rows) → is_some (row_at key rows) ≡ true → AreOwners s rows → now ≡ put_row key shown rows → AreOwners s now
owners-again s key shown rows now rising there are now-is =
    subst (AreOwners s) (sym now-is) (alike (owners_in rows) (owners_in (put_row key shown rows)) s (λ w. put-again w key shown rows rising there) are)

pub owners-less : (s : SuffixesState) (key : Key) (rows now : Rows Shown) → T (is_rising rows) → is_some (row_at key rows) ≡ true → AreOwners s rows → now ≡ without_rows (same_key key) rows → AreCounted (key.owner ∷ owners_in now) s
owners-less s key rows now rising there are now-is =
    subst (λ (r : Rows Shown). AreCounted (key.owner ∷ owners_in r) s) (sym now-is)
    (alike (owners_in rows) (key.owner ∷ owners_in (without_rows (same_key key) rows)) s (λ w. without-one w key rows rising there) are)

pub owners-same : (s : SuffixesState) (key : Key) (rows now : Rows Shown) → AreOwners s rows → is_some (row_at key rows) ≡ false → now ≡ without_rows (same_key key) rows → AreOwners s now
owners-same s key rows now are none now-is = subst (AreOwners s) (sym (now-is ∙ nothing_taken key rows none)) are

-- ---- rows with lower owners

lows-owner : (name : Labels) (rows : Rows Shown) → lower name ≡ name → AllByRecursion (λ e. e.0.owner ≡ name) rows → HaveLowerOwners rows
lows-owner name [] low of = tt
lows-owner name (e ∷ es) low of = (ap lower of.0 ∙ low ∙ sym of.0, lows-owner name es low of.1)

lows-append : (front back : Rows Shown) → HaveLowerOwners front → HaveLowerOwners back → HaveLowerOwners (front ++ back)
lows-append [] back first last = last
lows-append (e ∷ es) back first last = (first.0, lows-append es back first.1 last)

pub lows-nodes : (nodes : Nodes Shown) → AllByRecursion IsNode nodes → HaveLowerOwners (all_rows nodes)
lows-nodes [] are = tt
lows-nodes (node ∷ nodes) are = lows-append node.1.rows (all_rows nodes) (lows-owner node.0 node.1.rows are.0.1 are.0.2) (lows-nodes nodes are.1)

-- ---- owners counted one after another

last-alike : (w : Labels → ℕ) (e : Key × Shown) (rows : Rows Shown) → weighed w (e.0.owner ∷ owners_in rows) ≡ weighed w (owners_in (rows ++ e ∷ []))
last-alike w e [] = refl
last-alike w e (f ∷ fs) = omega (arith, last-alike w e fs)

pub owners-more : (s : SuffixesState) (rows : Rows Shown) (i : ℕ) (e : Key × Shown) → i < length rows → e ≡ get_or rows i e → AreCounted (e.0.owner ∷ owners_in (take i rows)) s → AreOwners s (take (i + 1) rows)
owners-more s rows i e within is are =
    let split : take (i + 1) rows ≡ take i rows ++ e ∷ [] = take_more rows i e within ∙ ap (λ (x : Key × Shown). take i rows ++ x ∷ []) (sym is) in
    subst (AreOwners s) (sym split) (alike (e.0.owner ∷ owners_in (take i rows)) (owners_in (take i rows ++ e ∷ [])) s (λ w. last-alike w e (take i rows)) are)

-- ---- places and owners one after another

pub all-at : {X : Type 0} (P : X → Type 0) (xs : List X) (i : ℕ) (x : X) → i < length xs → x ≡ get_or xs i x → AllByRecursion P xs → P x
all-at P [] i x within is all = absurd (omega (arith, within))
all-at P (y ∷ ys) zero x within is all = subst P (sym is) all.0
all-at P (y ∷ ys) (suc i) x within is all = all-at P ys i x (omega (arith, within)) is all.1

all-push : {X : Type 0} (P : X → Type 0) (xs : List X) (x : X) → AllByRecursion P xs → P x → AllByRecursion P (xs ++ x ∷ [])
all-push P [] x all here = (here, tt)
all-push P (y ∷ ys) x all here = (all.0, all-push P ys x all.1 here)

all-kept : {X : Type 0} (P Q : X → Type 0) → ((x : X) → P x → Q x) → (xs : List X) → AllByRecursion P xs → AllByRecursion Q xs
all-kept P Q f [] all = tt
all-kept P Q f (x ∷ xs) all = (f x all.0, all-kept P Q f xs all.1)

-- there are places for the owners of what changes put
abbrev pub HavePlaces : List (List ℕ) → List Changed → Type 0
HavePlaces room changed = AllByRecursion (HasPlacesToPut room) changed

pub places-more : (was now : List (List ℕ)) (changed : List Changed) (i : ℕ) (c : Changed) → i < length changed → c ≡ get_or changed i c
    → ((name : Labels) → HasPlacesFor name was → HasPlacesFor name now) → HavePlaces was (take i changed) → HasPlacesToPut now c → HavePlaces now (take (i + 1) changed)
places-more was now changed i c within is kept before here =
    subst (HavePlaces now) (sym (take_more changed i c within))
    (subst (λ (d : Changed). HavePlaces now (take i changed ++ d ∷ [])) is
    (all-push (HasPlacesToPut now) (take i changed) c
    (all-kept (HasPlacesToPut was) (HasPlacesToPut now) (λ d there puts. kept d.key.owner (there puts)) (take i changed) before) here))
