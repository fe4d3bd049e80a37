-- The owner of a row ends in a name properly, or it is that name.
use Rattle.std.proofs.Common.{◌≡◌, ℕ, suc, Bool, true, false, cond, List, [], ◌∷◌, ◌++◌, length, nat_lt, refl, sym, ap, ◌∙◌, arith}
use Rattle.std.proofs.lemmas.Bool.{ltb-false}
use Rattle.std.specs.Prelude.{◌||◌}
use Rattle.std.specs.List.{list_any}
use Rattle.dnsname.specs.Names.{Labels, ends_in, lower, same_name}
use Rattle.dnsname.proofs.Decisions.{same_name-Decides}
use Rattle.dnsname.proofs.Suffixes.{EndsIn-true, true-EndsIn}
use Rattle.rrset.specs.KeyedRows.{Rows, rows_of}
use Rattle.rrset.specs.Tables.{HaveLowerOwners}
use Rattle.rrset.specs.declared.record.Shown.{Shown}
use Rattle.recordindex.specs.Endings.{AreLow, names_above}
use Rattle.recordindex.specs.Owners.{owners_in}

or_mixed : (x s a t : Bool) → ((x || s) || (a || t)) ≡ ((x || a) || (s || t))
or_mixed true s a t = refl
or_mixed false true true t = refl
or_mixed false true false t = refl
or_mixed false false a t = refl

or_moved : (s a t : Bool) → (s || (a || t)) ≡ (a || (s || t))
or_moved true true t = refl
or_moved true false t = refl
or_moved false a t = refl

tails-is : (x y : List ℕ) (a b : Labels) → x ∷ a ≡ y ∷ b → a ≡ b
tails-is x y a b e = cc

-- the root ends in itself alone
ends-root : (name : Labels) → ends_in [] name ≡ same_name name []
ends-root name = by (ends_in [] name) (same_name name []) refl refl
  where
    by : (a b : Bool) → ends_in [] name ≡ a → same_name name [] ≡ b → a ≡ b
    by true true a-is b-is = refl
    by false false a-is b-is = refl
    by true false a-is b-is =
        let e = EndsIn-true [] name a-is in
        let same : same_name name [] ≡ true = (same_name-Decides name []).1 (sym (none e.0 e.1 e.2 e.3)) in
        absurd cc
      where
        none : (front last : Labels) → [] ≡ front ++ last → lower last ≡ lower name → lower [] ≡ lower name
        none [] last is same = ap lower is ∙ same
        none (label ∷ front) last is same = absurd cc
    by false true a-is b-is =
        let ends : ends_in [] name ≡ true = true-EndsIn [] name ([], [], refl, sym ((same_name-Decides name []).0 b-is)) in
        absurd cc

-- a longer name ends in what is behind its first label, or in itself
ends-step : (label : List ℕ) (rest name : Labels) → ends_in (label ∷ rest) name ≡ (ends_in rest name || same_name name (label ∷ rest))
ends-step label rest name = by (ends_in (label ∷ rest) name) (ends_in rest name) (same_name name (label ∷ rest)) refl refl refl
  where
    split : (front last : Labels) → label ∷ rest ≡ front ++ last → lower last ≡ lower name → ends_in rest name ≡ false → same_name name (label ∷ rest) ≡ true
    split [] last is same none = (same_name-Decides name (label ∷ rest)).1 (sym (ap lower is ∙ same))
    split (first ∷ front) last is same none =
        let ends : ends_in rest name ≡ true = true-EndsIn rest name (front, last, tails-is label first rest (front ++ last) is, same) in
        absurd cc

    by : (a b c : Bool) → ends_in (label ∷ rest) name ≡ a → ends_in rest name ≡ b → same_name name (label ∷ rest) ≡ c → a ≡ (b || c)
    by true true c a-is b-is c-is = refl
    by true false true a-is b-is c-is = refl
    by true false false a-is b-is c-is =
        let e = EndsIn-true (label ∷ rest) name a-is in
        let same : same_name name (label ∷ rest) ≡ true = split e.0 e.1 e.2 e.3 b-is in
        absurd cc
    by false false false a-is b-is c-is = refl
    by false true c a-is b-is c-is =
        let e = EndsIn-true rest name b-is in
        let ends : ends_in (label ∷ rest) name ≡ true = true-EndsIn (label ∷ rest) name (label ∷ e.0, e.1, ap (λ (n : Labels). label ∷ n) e.2, e.3) in
        absurd cc
    by false false true a-is b-is c-is =
        let ends : ends_in (label ∷ rest) name ≡ true = true-EndsIn (label ∷ rest) name ([], label ∷ rest, refl, sym ((same_name-Decides name (label ∷ rest)).0 c-is)) in
        absurd cc

-- of several owners one ends in a name properly, or is it
below-or : (name : Labels) (owners : List Labels) → list_any (λ owner. ends_in owner name) owners ≡ (list_any (λ above. ends_in above name) (names_above owners) || list_any (same_name name) owners)
below-or name [] = refl
below-or name ([] ∷ owners) =
    ap (λ (t : Bool). t || list_any (λ owner. ends_in owner name) owners) (ends-root name)
    ∙ ap (λ (r : Bool). same_name name [] || r) (below-or name owners)
    ∙ or_moved (same_name name []) (list_any (λ above. ends_in above name) (names_above owners)) (list_any (same_name name) owners)
below-or name ((label ∷ rest) ∷ owners) =
    ap (λ (t : Bool). t || list_any (λ owner. ends_in owner name) owners) (ends-step label rest name)
    ∙ ap (λ (r : Bool). (ends_in rest name || same_name name (label ∷ rest)) || r) (below-or name owners)
    ∙ or_mixed (ends_in rest name) (same_name name (label ∷ rest)) (list_any (λ above. ends_in above name) (names_above owners)) (list_any (same_name name) owners)

-- ---- the owners of rows

has-rows : (name : Labels) (rows : Rows Shown) → nat_lt 0 (length (rows_of name rows)) ≡ list_any (same_name name) (owners_in rows)
has-rows name [] = refl
has-rows name (e ∷ es) = by (same_name name e.0.owner) (has-rows name es)
  where
    by : (t : Bool) → nat_lt 0 (length (rows_of name es)) ≡ list_any (same_name name) (owners_in es) → nat_lt 0 (length (cond t (e ∷ rows_of name es) (rows_of name es))) ≡ (t || list_any (same_name name) (owners_in es))
    by true rest = some (nat_lt 0 (suc (length (rows_of name es)))) refl
      where
        some : (t : Bool) → nat_lt 0 (suc (length (rows_of name es))) ≡ t → t ≡ true
        some true is = refl
        some false is = absurd (omega (arith, ltb-false 0 (suc (length (rows_of name es))) is))
    by false rest = rest

-- a test holds of one of the owners where it holds of that of a row
owners-any : (test : Labels → Bool) (rows : Rows Shown) → list_any test (owners_in rows) ≡ list_any (λ e. test e.0.owner) rows
owners-any test [] = refl
owners-any test (e ∷ es) = ap (λ (r : Bool). test e.0.owner || r) (owners-any test es)

pub owners-low : (rows : Rows Shown) → HaveLowerOwners rows → AreLow (owners_in rows)
owners-low [] lows = tt
owners-low (e ∷ es) lows = (lows.0, owners-low es lows.1)

pub below-rows : (name : Labels) (rows : Rows Shown) (t : Bool) → t ≡ list_any (λ above. ends_in above name) (names_above (owners_in rows))
    → (t || nat_lt 0 (length (rows_of name rows))) ≡ list_any (λ e. ends_in e.0.owner name) rows
below-rows name rows t t-is =
    ap (λ (a : Bool). a || nat_lt 0 (length (rows_of name rows))) t-is
    ∙ ap (λ (r : Bool). list_any (λ above. ends_in above name) (names_above (owners_in rows)) || r) (has-rows name rows)
    ∙ sym (below-or name (owners_in rows))
    ∙ owners-any (λ owner. ends_in owner name) rows
