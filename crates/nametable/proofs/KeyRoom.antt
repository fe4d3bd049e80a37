-- Room for keys: that of the first, and what is left of it for the others.
use Rattle.std.proofs.Common.{◌≡◌, ℕ, ◌+◌, ◌≤◌, ◌<◌, ◌||◌, take, get_or, Bool, true, false, cond, List, [], ◌∷◌, ◌++◌, ◌⊎◌, inl, inr, Option, Some, None, is_some, length, map, refl, sym, ap, subst, ◌∙◌, arith, Ordering, Less, Equal, Greater}
use Rattle.std.proofs.lemmas.List.{take_more}
use Rattle.std.specs.Ordering.{is_eq, ordering_reverse}
use Rattle.std.specs.Cmp.{eq_by_cmp_equiv}
use Rattle.std.specs.List.{AllByRecursion, filter}
use Rattle.dnsname.specs.Names.{Labels, lower}
use Rattle.rrset.specs.Records.{key_cmp, same_key}
use Rattle.rrset.specs.KeyedRows.{Rows, row_at, rows_of}
use Rattle.rrset.specs.Tables.{HaveLowerOwners}
use Rattle.nametable.specs.Nodes.{Nodes, all_rows, name_cmp, room_at, count_at, has_row, is_one_of, keys_of, keys_put, lacking, unless, HasRoomFor}
use Rattle.rrset.specs.declared.record.Key.{Key}
use Rattle.rrset.specs.declared.record.Shown.{Shown}
use Rattle.rrset.specs.declared.record.Changed.{Changed}
use Rattle.rrset.proofs.KeyOrder.{key_cmp_total, key_cmp-IsAntisymmetric}
use Rattle.nametable.proofs.AllRows.{name_cmp_total, same_name-is, same_names}

pub count_at-cons : (name : Labels) (k : Key) (ks : List Key) (b : Bool) → is_eq (name_cmp name k.owner) ≡ b → count_at name (k ∷ ks) ≡ cond b 1 0 + count_at name ks
count_at-cons name k ks b is = ap (λ (b : Bool). length (cond b (k ∷ filter (λ (d : Key). is_eq (name_cmp name d.owner)) ks) (filter (λ (d : Key). is_eq (name_cmp name d.owner)) ks))) is ∙ by b
  where
    by : (b : Bool) → length (cond b (k ∷ filter (λ (d : Key). is_eq (name_cmp name d.owner)) ks) (filter (λ (d : Key). is_eq (name_cmp name d.owner)) ks)) ≡ cond b 1 0 + count_at name ks
    by true = omega arith
    by false = omega arith

-- ---- the keys that changes put

pub keys_put-some : (c : Changed) (cs : List Changed) (s : Shown) → c.after ≡ Some s → keys_put (c ∷ cs) ≡ c.key ∷ keys_put cs
keys_put-some c cs s is = ap (λ (o : Option Shown). map (λ (d : Changed). d.key) (cond (is_some o) (c ∷ filter (λ (d : Changed). is_some d.after) cs) (filter (λ (d : Changed). is_some d.after) cs))) is

pub keys_put-none : (c : Changed) (cs : List Changed) → c.after ≡ None → keys_put (c ∷ cs) ≡ keys_put cs
keys_put-none c cs is = ap (λ (o : Option Shown). map (λ (d : Changed). d.key) (cond (is_some o) (c ∷ filter (λ (d : Changed). is_some d.after) cs) (filter (λ (d : Changed). is_some d.after) cs))) is

pub keys-cons : (name : Labels) (c : Changed) (cs : List Changed) (o : Option Shown) (b : Bool) → c.after ≡ o → is_eq (name_cmp name c.key.owner) ≡ b
    → count_at name (keys_put (c ∷ cs)) ≡ cond b (cond (is_some o) 1 0) 0 + count_at name (keys_put cs)
keys-cons name c cs None true is e = ap (count_at name) (keys_put-none c cs is) ∙ omega arith
keys-cons name c cs None false is e = ap (count_at name) (keys_put-none c cs is) ∙ omega arith
keys-cons name c cs (Some s) true is e = ap (count_at name) (keys_put-some c cs s is) ∙ count_at-cons name c.key (keys_put cs) true e
keys-cons name c cs (Some s) false is e = ap (count_at name) (keys_put-some c cs s is) ∙ count_at-cons name c.key (keys_put cs) false e

-- ---- those of some keys that a test doesn't tell

left_false : (a b : Bool) → (a || b) ≡ false → a ≡ false
left_false true b is = is
left_false false b is = refl

pub count-unless : (name : Labels) (b : Bool) (k : Key) (ks : List Key) → count_at name (unless b k ks) ≡ cond b 0 (cond (is_eq (name_cmp name k.owner)) 1 0) + count_at name ks
count-unless name true k ks = omega arith
count-unless name false k ks = count_at-cons name k ks (is_eq (name_cmp name k.owner)) refl

lacking-first : (name : Labels) (has : Key → Bool) (k : Key) (ks : List Key)
    → count_at name (lacking has (k ∷ ks)) ≡ cond (has k || is_one_of k ks) 0 (cond (is_eq (name_cmp name k.owner)) 1 0) + count_at name (lacking has ks)
lacking-first name has k ks = count-unless name (has k || is_one_of k ks) k (lacking has ks)

lacking-new : (name : Labels) (has : Key → Bool) (k : Key) (ks : List Key) (b : Bool) → has k ≡ b
    → count_at name (lacking has (k ∷ ks)) ≡ cond (b || is_one_of k ks) 0 (cond (is_eq (name_cmp name k.owner)) 1 0) + count_at name (lacking has ks)
lacking-new name has k ks b is =
    lacking-first name has k ks ∙ ap (λ (t : Bool). cond (t || is_one_of k ks) 0 (cond (is_eq (name_cmp name k.owner)) 1 0) + count_at name (lacking has ks)) is

pub lacking-same : (f g : Key → Bool) → ((q : Key) → f q ≡ g q) → (ks : List Key) → lacking f ks ≡ lacking g ks
lacking-same f g same ks = λ i. lacking (λ q. same q i) ks

lacking-fewer : (name : Labels) (has : Key → Bool) (ks : List Key) → count_at name (lacking has ks) ≤ count_at name ks
lacking-fewer name has [] = omega arith
lacking-fewer name has (k ∷ ks) = by (has k || is_one_of k ks) (lacking-fewer name has ks)
  where
    by : (b : Bool) → count_at name (lacking has ks) ≤ count_at name ks → count_at name (unless b k (lacking has ks)) ≤ count_at name (k ∷ ks)
    by true rest = let all = count_at-cons name k ks (is_eq (name_cmp name k.owner)) refl in omega (arith, all, rest)
    by false rest =
        let all = count_at-cons name k ks (is_eq (name_cmp name k.owner)) refl in
        let some = count_at-cons name k (lacking has ks) (is_eq (name_cmp name k.owner)) refl in
        omega (arith, all, some, rest)

-- the others are among all
pub lacking-rest : (name : Labels) (has : Key → Bool) (k : Key) (ks : List Key) → count_at name (lacking has ks) ≤ count_at name (lacking has (k ∷ ks))
lacking-rest name has k ks = let first = lacking-first name has k ks in omega (arith, first)

pub same-sym : (a b : Key) → same_key a b ≡ same_key b a
same-sym a b = ap (λ (r : Ordering). is_eq r) (key_cmp_total.antisymm a b) ∙ back (key_cmp b a)
  where
    back : (r : Ordering) → is_eq (ordering_reverse r) ≡ is_eq r
    back Less = refl
    back Equal = refl
    back Greater = refl

pub same-is : (a b : Key) → same_key a b ≡ true → a ≡ b
same-is a b is = key_cmp-IsAntisymmetric a b (tied (key_cmp a b) is)
  where
    tied : (r : Ordering) → is_eq r ≡ true → r ≡ Equal
    tied Less e = cc
    tied Equal e = refl
    tied Greater e = cc

-- where a test tells one key more, the others lack as much less
module _ (name : Labels) (had has : Key → Bool) (k : Key) (none : had k ≡ false) (more : (q : Key) → has q ≡ (same_key q k || had q)) where
  pub has-more : (ks : List Key) → count_at name (lacking has ks) + cond (is_eq (name_cmp name k.owner)) 1 0 ≡ count_at name (lacking had (k ∷ ks))
  has-more [] = let whole = lacking-new name had k [] false none in omega (arith, whole)
  has-more (q ∷ qs) = by (same_key k q) refl (has-more qs)
    where
      by : (b : Bool) → same_key k q ≡ b → count_at name (lacking has qs) + cond (is_eq (name_cmp name k.owner)) 1 0 ≡ count_at name (lacking had (k ∷ qs))
          → count_at name (lacking has (q ∷ qs)) + cond (is_eq (name_cmp name k.owner)) 1 0 ≡ count_at name (lacking had (k ∷ q ∷ qs))
      by true is rest =
          let there : has q ≡ true = more q ∙ ap (λ (b : Bool). b || had q) (same-sym q k ∙ is) in
          let step : count_at name (lacking has (q ∷ qs)) ≡ 0 + count_at name (lacking has qs) = lacking-new name has q qs true there in
          let whole : count_at name (lacking had (k ∷ q ∷ qs)) ≡ 0 + count_at name (lacking had (q ∷ qs)) =
          lacking-new name had k (q ∷ qs) false none ∙ ap (λ (b : Bool). cond (b || is_one_of k qs) 0 (cond (is_eq (name_cmp name k.owner)) 1 0) + count_at name (lacking had (q ∷ qs))) is in
          let other = ap (λ (x : Key). count_at name (lacking had (x ∷ qs))) (same-is k q is) in
          omega (arith, rest, step, whole, other)
      by false is rest =
          let unlike : has q ≡ had q = more q ∙ ap (λ (b : Bool). b || had q) (same-sym q k ∙ is) in
          let step : count_at name (lacking has (q ∷ qs)) ≡ cond (had q || is_one_of q qs) 0 (cond (is_eq (name_cmp name q.owner)) 1 0) + count_at name (lacking has qs) = lacking-new name has q qs (had q) unlike in
          let before = lacking-first name had q qs in
          let whole : count_at name (lacking had (k ∷ q ∷ qs)) ≡ cond (is_one_of k qs) 0 (cond (is_eq (name_cmp name k.owner)) 1 0) + count_at name (lacking had (q ∷ qs)) =
          lacking-new name had k (q ∷ qs) false none ∙ ap (λ (b : Bool). cond (b || is_one_of k qs) 0 (cond (is_eq (name_cmp name k.owner)) 1 0) + count_at name (lacking had (q ∷ qs))) is in
          let front : count_at name (lacking had (k ∷ qs)) ≡ cond (is_one_of k qs) 0 (cond (is_eq (name_cmp name k.owner)) 1 0) + count_at name (lacking had qs) = lacking-new name had k qs false none in
          omega (arith, rest, step, before, whole, front)

-- ---- what holds of each of a list

push : {A : Type 0} (P : A → Type 0) (xs : List A) (x : A) → AllByRecursion P xs → P x → AllByRecursion P (xs ++ x ∷ [])
push P [] x all one = (one, tt)
push P (y ∷ ys) x all one = (all.0, push P ys x all.1 one)

each : {A : Type 0} (P R : A → Type 0) (xs : List A) → ((x : A) → P x → R x) → AllByRecursion P xs → AllByRecursion R xs
each P R [] makes all = tt
each P R (x ∷ xs) makes all = (makes x all.0, each P R xs makes all.1)

next : {A : Type 0} (P R : A → Type 0) (all : List A) (index : ℕ) (x : A) → index < length all → x ≡ get_or all index x → ((y : A) → P y → R y) → AllByRecursion P (take index all) → R x
    → AllByRecursion R (take (index + 1) all)
next {A} P R all index x within is makes so_far one =
    subst (λ (l : List A). AllByRecursion R l) (ap (λ (y : A). take index all ++ y ∷ []) is ∙ sym (take_more all index x within)) (push R (take index all) x (each P R (take index all) makes so_far) one)

module _ {X : Type 0} where
  -- room for several keys is room for the first of them
  pub room-one : (k : Key) (ks : List Key) (ns : Nodes X) → HasRoomFor (k ∷ ks) ns → HasRoomFor (k ∷ []) ns
  room-one k ks ns room name = by (has_row ns k) refl
    where
      by : (b : Bool) → has_row ns k ≡ b → count_at name (lacking (has_row ns) (k ∷ [])) ≤ room_at ns name
      by true is = let alone = lacking-new name (has_row ns) k [] true is in omega (arith, alone)
      by false is =
          let alone = lacking-new name (has_row ns) k [] false is in
          let among = has-more name (has_row ns) (λ q. same_key q k || has_row ns q) k is (λ q. refl) ks in
          let all = room name in
          omega (arith, alone, among, all)

  -- a key has a row, or there is room for it
  pub room-first : (k : Key) (ks : List Key) (ns : Nodes X) → HasRoomFor (k ∷ ks) ns → (1 ≤ room_at ns k.owner) ⊎ (has_row ns k ≡ true)
  room-first k ks ns room = by (has_row ns k) refl
    where
      by : (b : Bool) → has_row ns k ≡ b → (1 ≤ room_at ns k.owner) ⊎ (has_row ns k ≡ true)
      by true is = inr is
      by false is =
          let among = has-more k.owner (has_row ns) (λ q. same_key q k || has_row ns q) k is (λ q. refl) ks in
          let one = ap {B = ℕ} (λ (b : Bool). cond b 1 0) ((eq_by_cmp_equiv name_cmp_total).refl k.owner) in
          let all = room k.owner in
          inl (omega (arith, among, one, all))

  -- room for some changes is room for the first of them
  pub room-front : (c : Changed) (cs : List Changed) (ns : Nodes X) → HasRoomFor (keys_put (c ∷ cs)) ns → HasRoomFor (keys_put (c ∷ [])) ns
  room-front c cs ns room = by c.after refl
    where
      by : (o : Option Shown) → c.after ≡ o → HasRoomFor (keys_put (c ∷ [])) ns
      by None is = subst (λ (ks : List Key). HasRoomFor ks ns) (sym (keys_put-none c [] is)) (λ name. omega arith)
      by (Some s) is =
          subst (λ (ks : List Key). HasRoomFor ks ns) (sym (keys_put-some c [] s is))
          (room-one c.key (keys_put cs) ns (subst (λ (ks : List Key). HasRoomFor ks ns) (keys_put-some c cs s is) room))

  -- ---- room made name by name

  pub no_row : (k : Key) (old new : Nodes X) → all_rows new ≡ all_rows old → has_row new k ≡ false → has_row old k ≡ false
  no_row k old new rows none = ap (λ (l : Rows X). is_some (row_at k l)) (sym rows) ∙ none

  -- there is room for all keys at the owners of those changes that put something where there is no row
  abbrev pub HasRoomAtOwners : List Key → List Changed → Nodes X → Type 0
  HasRoomAtOwners keys some ns = AllByRecursion (λ c. is_some c.after ≡ true → has_row ns c.key ≡ false → count_at c.key.owner keys ≤ room_at ns c.key.owner) some

  -- room made for one more change
  pub owners-next : (keys : List Key) (all : List Changed) (index : ℕ) (c : Changed) (old new : Nodes X) → index < length all → c ≡ get_or all index c → all_rows new ≡ all_rows old
      → ((name : Labels) → room_at old name ≤ room_at new name) → HasRoomAtOwners keys (take index all) old
      → (is_some c.after ≡ true → has_row old c.key ≡ false → count_at c.key.owner keys ≤ room_at new c.key.owner) → HasRoomAtOwners keys (take (index + 1) all) new
  owners-next keys all index c old new within is rows kept so_far room =
      next (λ (d : Changed). is_some d.after ≡ true → has_row old d.key ≡ false → count_at d.key.owner keys ≤ room_at old d.key.owner)
      (λ (d : Changed). is_some d.after ≡ true → has_row new d.key ≡ false → count_at d.key.owner keys ≤ room_at new d.key.owner) all index c within is
      (λ d has puts none. let was = has puts (no_row d.key old new rows none) in let more = kept d.key.owner in omega (arith, was, more)) so_far (λ puts none. room puts (no_row c.key old new rows none))

  -- there is room for all keys at the owners of those rows whose keys have none
  abbrev pub HasRoomAtRows : List Key → Rows X → Nodes X → Type 0
  HasRoomAtRows keys some ns = AllByRecursion (λ e. has_row ns e.0 ≡ false → count_at e.0.owner keys ≤ room_at ns e.0.owner) some

  -- room made for one more row
  pub rows-next : (keys : List Key) (all : Rows X) (index : ℕ) (e : Key × X) (old new : Nodes X) → index < length all → e ≡ get_or all index e → all_rows new ≡ all_rows old
      → ((name : Labels) → room_at old name ≤ room_at new name) → HasRoomAtRows keys (take index all) old
      → (has_row old e.0 ≡ false → count_at e.0.owner keys ≤ room_at new e.0.owner) → HasRoomAtRows keys (take (index + 1) all) new
  rows-next keys all index e old new within is rows kept so_far room =
      next (λ (d : Key × X). has_row old d.0 ≡ false → count_at d.0.owner keys ≤ room_at old d.0.owner) (λ (d : Key × X). has_row new d.0 ≡ false → count_at d.0.owner keys ≤ room_at new d.0.owner) all index e within is
      (λ d has none. let was = has (no_row d.0 old new rows none) in let more = kept d.0.owner in omega (arith, was, more)) so_far (λ none. room (no_row e.0 old new rows none))

  -- there is room for all keys at the owners of those of some that have no row
  abbrev HasRoomAtKeys : List Key → List Key → Nodes X → Type 0
  HasRoomAtKeys keys some ns = AllByRecursion (λ k. has_row ns k ≡ false → count_at k.owner keys ≤ room_at ns k.owner) some

  none-or-room : (name : Labels) (keys some : List Key) (ns : Nodes X) → HasRoomAtKeys keys some ns → (count_at name (lacking (has_row ns) some) ≡ 0) ⊎ (count_at name keys ≤ room_at ns name)
  none-or-room name keys [] ns h = inl refl
  none-or-room name keys (k ∷ ks) ns h = by (has_row ns k || is_one_of k ks) refl (none-or-room name keys ks ns h.1)
    where
      passes : is_eq (name_cmp name k.owner) ≡ false → (count_at name (lacking (has_row ns) ks) ≡ 0) ⊎ (count_at name keys ≤ room_at ns name)
          → (count_at name (k ∷ lacking (has_row ns) ks) ≡ 0) ⊎ (count_at name keys ≤ room_at ns name)
      passes other rest = elim rest [
        | inl none ↦ inl (let first = count_at-cons name k (lacking (has_row ns) ks) false other in omega (arith, first, none))
        | inr there ↦ inr there
      ]

      put : (r : Ordering) → name_cmp name k.owner ≡ r → has_row ns k ≡ false → (count_at name (lacking (has_row ns) ks) ≡ 0) ⊎ (count_at name keys ≤ room_at ns name)
          → (count_at name (k ∷ lacking (has_row ns) ks) ≡ 0) ⊎ (count_at name keys ≤ room_at ns name)
      put Less e none rest = passes (ap is_eq e) rest
      put Greater e none rest = passes (ap is_eq e) rest
      put Equal e none rest = inr (subst (λ (l : Labels). count_at l keys ≤ room_at ns l) (sym (same_names name k.owner e)) (h.0 none))

      by : (b : Bool) → (has_row ns k || is_one_of k ks) ≡ b → (count_at name (lacking (has_row ns) ks) ≡ 0) ⊎ (count_at name keys ≤ room_at ns name)
          → (count_at name (unless b k (lacking (has_row ns) ks)) ≡ 0) ⊎ (count_at name keys ≤ room_at ns name)
      by true is rest = rest
      by false is rest = put (name_cmp name k.owner) refl (left_false (has_row ns k) (is_one_of k ks) is) rest

  all-fit : (keys : List Key) (ns : Nodes X) → HasRoomAtKeys keys keys ns → HasRoomFor keys ns
  all-fit keys ns h name = elim (none-or-room name keys keys ns h) [
    | inl none ↦ omega (arith, none)
    | inr there ↦ (let few = lacking-fewer name (has_row ns) keys in omega (arith, few, there))
  ]

  owners-keys : (keys : List Key) (some : List Changed) (ns : Nodes X) → HasRoomAtOwners keys some ns → HasRoomAtKeys keys (keys_put some) ns
  owners-keys keys [] ns h = tt
  owners-keys keys (c ∷ cs) ns h = by c.after refl (owners-keys keys cs ns h.1)
    where
      by : (o : Option Shown) → c.after ≡ o → HasRoomAtKeys keys (keys_put cs) ns → HasRoomAtKeys keys (keys_put (c ∷ cs)) ns
      by None is rest = subst (λ (ks : List Key). HasRoomAtKeys keys ks ns) (sym (keys_put-none c cs is)) rest
      by (Some s) is rest = subst (λ (ks : List Key). HasRoomAtKeys keys ks ns) (sym (keys_put-some c cs s is)) (h.0 (ap (λ (o : Option Shown). is_some o) is), rest)

  rows-keys : (keys : List Key) (some : Rows X) (ns : Nodes X) → HasRoomAtRows keys some ns → HasRoomAtKeys keys (keys_of some) ns
  rows-keys keys [] ns h = tt
  rows-keys keys (e ∷ es) ns h = (h.0, rows-keys keys es ns h.1)

  pub room-all : (changed : List Changed) (ns : Nodes X) → HasRoomAtOwners (keys_put changed) changed ns → HasRoomFor (keys_put changed) ns
  room-all changed ns h = all-fit (keys_put changed) ns (owners-keys (keys_put changed) changed ns h)

  pub room-rows : (rows : Rows X) (ns : Nodes X) → HasRoomAtRows (keys_of rows) rows ns → HasRoomFor (keys_of rows) ns
  room-rows rows ns h = all-fit (keys_of rows) ns (rows-keys (keys_of rows) rows ns h)

  -- the rows of a name in lower case are counted to the letter
  pub count_at-rows : (name : Labels) (rows : Rows X) → lower name ≡ name → HaveLowerOwners rows → length (rows_of name rows) ≡ count_at name (keys_of rows)
  count_at-rows name [] low h = refl
  count_at-rows name (e ∷ es) low h =
      ap (λ (b : Bool). length (cond b (e ∷ rows_of name es) (rows_of name es))) (same_name-is name e.0.owner h.0 ∙ ap (λ (l : Labels). is_eq (name_cmp l e.0.owner)) low)
      ∙ by (is_eq (name_cmp name e.0.owner)) refl (count_at-rows name es low h.1)
    where
      by : (b : Bool) → is_eq (name_cmp name e.0.owner) ≡ b → length (rows_of name es) ≡ count_at name (keys_of es) → length (cond b (e ∷ rows_of name es) (rows_of name es)) ≡ count_at name (keys_of (e ∷ es))
      by true is rest = let first = count_at-cons name e.0 (keys_of es) true is in omega (arith, first, rest)
      by false is rest = let first = count_at-cons name e.0 (keys_of es) false is in omega (arith, first, rest)
