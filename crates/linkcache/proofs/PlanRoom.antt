-- Room for the rows that a plan puts, by the names of their keys.
use Rattle.std.proofs.Common.{◌≡◌, Bool, true, false, cond, not, List, [], ◌∷◌, ◌++◌, Option, Some, None, is_some, Result, Ok, Err, map, refl, sym, ap, subst, ◌∙◌, arith}
use Rattle.std.specs.Result.{IfOk}
use Rattle.std.specs.Cmp.{eq_by_cmp_equiv}
use Rattle.std.specs.List.{AllByRecursion, filter}
use Rattle.rrset.specs.declared.record.Key.{Key}
use Rattle.rrset.specs.Records.{same_key}
use Rattle.rrset.specs.KeyedRows.{only_rows, row_at}
use Rattle.rrset.proofs.KeyOrder.{key_cmp_total}
use Rattle.nametable.specs.Nodes.{Nodes, HasRoomFor, keys_of}
use Rattle.nametable.proofs.KeyRoom.{room-one}
use Rattle.linkcache.specs.declared.plan.RowChange.{RowChange}
use Rattle.linkcache.specs.declared.row.HeardRow.{HeardRow}
use Rattle.linkcache.specs.Rows.{LinkRows}
use Rattle.linkcache.specs.Plans.{LinkPlan, IsPlanBetween, change_to, keys_put, moves}
use Rattle.linkcache.specs.declared.rules.LinkRules.{LinkRules}

-- what holds of a call's plan, if it gives one, by another fact of it
pub if_ok : {A E : Type 0} (P R : A → Type 0) (r : Result A E) → IfOk r P → ((a : A) → P a → R a) → IfOk r R
if_ok P R (Ok a) p makes = makes a p
if_ok P R (Err e) p makes = tt

-- ---- the first of several changes

pub keys_put-some : (c : RowChange) (cs : List RowChange) (row : HeardRow) → c.after ≡ Some row → keys_put (c ∷ cs) ≡ c.key ∷ keys_put cs
keys_put-some c cs row is = ap (λ (o : Option HeardRow). map (λ (d : RowChange). d.key) (cond (is_some o) (c ∷ filter (λ (d : RowChange). is_some d.after) cs) (filter (λ (d : RowChange). is_some d.after) cs))) is

pub keys_put-none : (c : RowChange) (cs : List RowChange) → c.after ≡ None → keys_put (c ∷ cs) ≡ keys_put cs
keys_put-none c cs is = ap (λ (o : Option HeardRow). map (λ (d : RowChange). d.key) (cond (is_some o) (c ∷ filter (λ (d : RowChange). is_some d.after) cs) (filter (λ (d : RowChange). is_some d.after) cs))) is

-- room for some changes is room for the first of them
pub room-front : (c : RowChange) (cs : List RowChange) (ns : Nodes HeardRow) → HasRoomFor (keys_put (c ∷ cs)) ns → HasRoomFor (keys_put (c ∷ [])) ns
room-front c cs ns room = by c.after refl
  where
    by : (o : Option HeardRow) → c.after ≡ o → HasRoomFor (keys_put (c ∷ [])) ns
    by None is = subst (λ (ks : List Key). HasRoomFor ks ns) (sym (keys_put-none c [] is)) (λ name. omega arith)
    by (Some row) is =
        subst (λ (ks : List Key). HasRoomFor ks ns) (sym (keys_put-some c [] row is))
        (room-one c.key (keys_put cs) ns (subst (λ (ks : List Key). HasRoomFor ks ns) (keys_put-some c cs row is) room))

-- ---- the keys that the changes from one part to another put

puts-all : (work es : LinkRows) → AllByRecursion (λ e. is_some (row_at e.0 work) ≡ true) es → keys_put (map (change_to work) es) ≡ keys_of es
puts-all work [] h = refl
puts-all work (e ∷ es) h = ap (λ (b : Bool). map (λ (d : RowChange). d.key) (cond b (change_to work e ∷ filter (λ (d : RowChange). is_some d.after) (map (change_to work) es)) (filter (λ (d : RowChange). is_some d.after) (map (change_to work) es)))) h.0
    ∙ ap (λ (ks : List Key). e.0 ∷ ks) (puts-all work es h.1)

-- those that go put nothing
puts-rest : (work es : LinkRows) (cs : List RowChange) → keys_put (map (change_to work) (only_rows (λ key. not (is_some (row_at key work))) es) ++ cs) ≡ keys_put cs
puts-rest work [] cs = refl
puts-rest work (e ∷ es) cs = by (is_some (row_at e.0 work)) refl (puts-rest work es cs)
  where
    gone : LinkRows
    gone = only_rows (λ key. not (is_some (row_at key work))) es

    by : (b : Bool) → is_some (row_at e.0 work) ≡ b → keys_put (map (change_to work) gone ++ cs) ≡ keys_put cs → keys_put (map (change_to work) (cond (not b) (e ∷ gone) gone) ++ cs) ≡ keys_put cs
    by true is rest = rest
    by false is rest = ap (λ (b : Bool). map (λ (d : RowChange). d.key) (cond b (change_to work e ∷ filter (λ (d : RowChange). is_some d.after) (map (change_to work) gone ++ cs)) (filter (λ (d : RowChange). is_some d.after) (map (change_to work) gone ++ cs)))) is ∙ rest

still-there : (x : Key × HeardRow) (es work : LinkRows) → AllByRecursion (λ e. is_some (row_at e.0 work) ≡ true) es → AllByRecursion (λ e. is_some (row_at e.0 (x ∷ work)) ≡ true) es
still-there x [] work h = tt
still-there x (e ∷ es) work h = (by (same_key e.0 x.0) h.0, still-there x es work h.1)
  where
    by : (b : Bool) → is_some (row_at e.0 work) ≡ true → is_some (cond b (Some x.1) (row_at e.0 work)) ≡ true
    by true there = refl
    by false there = there

all-there : (work : LinkRows) → AllByRecursion (λ e. is_some (row_at e.0 work) ≡ true) work
all-there [] = tt
all-there (e ∷ es) = (ap (λ (b : Bool). is_some (cond b (Some e.1) (row_at e.0 es))) ((eq_by_cmp_equiv key_cmp_total).refl e.0), still-there e es es (all-there es))

map-append : (work xs ys : LinkRows) → map (change_to work) (xs ++ ys) ≡ map (change_to work) xs ++ map (change_to work) ys
map-append work [] ys = refl
map-append work (x ∷ xs) ys = ap (λ (cs : List RowChange). change_to work x ∷ cs) (map-append work xs ys)

pub keys-moves : (part work : LinkRows) → keys_put (moves part work) ≡ keys_of work
keys-moves part work =
    ap keys_put (map-append work (only_rows (λ key. not (is_some (row_at key work))) part) work)
    ∙ puts-rest work part (map (change_to work) work)
    ∙ puts-all work work (all-there work)

-- ---- plans with room

pub room-nothing : (cs : List RowChange) (ns : Nodes HeardRow) → cs ≡ [] → HasRoomFor (keys_put cs) ns
room-nothing cs ns is = subst (λ (l : List RowChange). HasRoomFor (keys_put l) ns) (sym is) (λ name. omega arith)

pub room-planned : {E : Type 0} (rules : LinkRules) (part work : LinkRows) (ns : Nodes HeardRow) (r : Result LinkPlan E) → HasRoomFor (keys_of work) ns → IfOk r (IsPlanBetween rules part work) → IfOk r (λ plan. HasRoomFor (keys_put plan.rows) ns)
room-planned rules part work ns r room between =
    if_ok (IsPlanBetween rules part work) (λ plan. HasRoomFor (keys_put plan.rows) ns) r between
    (λ plan is. subst (λ (ks : List Key). HasRoomFor ks ns) (sym (ap keys_put is.moved ∙ keys-moves part work)) room)

pub room-empty : (work : LinkRows) (ns : Nodes HeardRow) → work ≡ [] → HasRoomFor (keys_of work) ns
room-empty work ns is = subst (λ (l : LinkRows). HasRoomFor (keys_of l) ns) (sym is) (λ name. omega arith)
