-- The items of a line, and where it stands among them.
use Rattle.std.proofs.Common.{◌≡◌, inl, inr, ℕ, ◌+◌, ◌<◌, ◌≤◌, Bool, true, Some, List, [], ◌∷◌, ◌++◌, length, take, drop, get_or, map, All, refl, sym, ◌∙◌, ap, subst, arith, append_assoc, length-drop}
use Rattle.std.specs.Prelude.{min}
use Rattle.std.specs.List.{concat}
use Rattle.std.proofs.Math.Seq.{take-add}
use Rattle.std.proofs.lemmas.List.{append-nil, take-append-drop, drop-drop, take_all, drop_more, map-append}
use Rattle.std.proofs.lemmas.List.Folds.{concat-append}
use Rattle.std.proofs.lemmas.List.Elements.{All-tail, All-cons}
use Rattle.std.proofs.lemmas.Bool.{cases_lt}
use Rattle.std.proofs.lemmas.Bool.Decides.{nat_tests}
use Rattle.push_base.specs.declared.mem_item.MemItem.{MemItem}
use Rattle.push_base.specs.declared.mem_item.MemItem.TheVariants.{Bytes, Quiet}
use Rattle.push_base.specs.Line.{octets_of, EndsAtEnd}
use Rattle.push_base.specs.Items.{octets_in, HasOctets, first_octets, got_for}
use Rattle.push_base.specs.LineSupply.{LineSupplied, Stands, given_octets, left_octets, giving, after_giving, receiving}
use Rattle.push_base.specs.LineSupplyInside.{without, standing}

-- ---- where it stands

without_none : (items : List MemItem) → without 0 items ≡ items
without_none [] = refl
without_none (Bytes octets ∷ items) = refl
without_none (Quiet ∷ items) = refl

filled_whole : (items : List MemItem) → All HasOctets items → All HasOctets (without 0 items)
filled_whole items filled = subst (λ l. All HasOctets l) (sym (without_none items)) filled

not_empty : {X : Type 0} (x : X) (xs : List X) → x ∷ xs ≡ [] → ⊥
not_empty x xs e = cc

-- behind the first item
behind : (over behind items : List MemItem) (x : MemItem) (p : ℕ) (ended lost : Bool) → Stands (standing over (x ∷ items) p ended lost) → Stands (standing behind items 0 ended lost)
behind over after items (Bytes octets) p ended lost s = record {
  filled = filled_whole items (All-tail HasOctets _ items s.filled);
  whole = λ told. refl;
  at_end = λ told. absurd (not_empty (Bytes (drop p octets)) items (s.at_end told));
}
behind over after items Quiet p ended lost s = record {
  filled = filled_whole items (All-tail HasOctets _ items s.filled);
  whole = λ told. refl;
  at_end = λ told. absurd (not_empty Quiet items (s.at_end told));
}

pub stands_behind : (xs : List MemItem) (i p : ℕ) (ended lost : Bool) → i < length xs → Stands (standing (take i xs) (drop i xs) p ended lost) → Stands (standing (take (i + 1) xs) (drop (i + 1) xs) 0 ended lost)
stands_behind xs i p ended lost inside s =
    behind (take i xs) (take (i + 1) xs) (drop (i + 1) xs) (get_or xs i Quiet) p ended lost
    (subst (λ l. Stands (standing (take i xs) l p ended lost)) (drop_more xs i Quiet inside) s)

-- inside an item
inside_item : (over items : List MemItem) (octets : List ℕ) (p n : ℕ) (ended lost : Bool) → n < length (drop p octets) → Stands (standing over (Bytes octets ∷ items) p ended lost) → Stands (standing over (Bytes octets ∷ items) (p + n) ended true)
inside_item over items octets p n ended lost part s = record {
  filled =
      let some : 0 < length (drop (p + n) octets) = omega (arith, part, length-drop p octets, length-drop (p + n) octets) in
      All-cons HasOctets (Bytes (drop (p + n) octets)) items some (All-tail HasOctets _ items s.filled);
  whole = λ told. absurd cc;
  at_end = λ told. absurd (not_empty (Bytes (drop p octets)) items (s.at_end told));
}

pub stands_inside : (xs : List MemItem) (i p n : ℕ) (octets : List ℕ) (ended lost : Bool) → i < length xs → Bytes octets ≡ get_or xs i Quiet → n < length (drop p octets) → Stands (standing (take i xs) (drop i xs) p ended lost) → Stands (standing (take i xs) (drop i xs) (p + n) ended true)
stands_inside xs i p n octets ended lost inside is part s =
    let split = drop_more xs i Quiet inside ∙ ap (λ x. x ∷ drop (i + 1) xs) (sym is) in
    subst (λ l. Stands (standing (take i xs) l (p + n) ended true)) (sym split)
    (inside_item (take i xs) (drop (i + 1) xs) octets p n ended lost part (subst (λ l. Stands (standing (take i xs) l p ended lost)) split s))

pub place_inside : (xs : List MemItem) (i p n : ℕ) (octets : List ℕ) → i < length xs → Bytes octets ≡ get_or xs i Quiet → n < length (drop p octets) → p + n ≤ length (first_octets (drop i xs))
place_inside xs i p n octets inside is part =
    let split = drop_more xs i Quiet inside ∙ ap (λ x. x ∷ drop (i + 1) xs) (sym is) in
    let fits : p + n ≤ length octets = omega (arith, part, length-drop p octets) in
    subst (λ l. p + n ≤ length (first_octets l)) (sym split) fits

pub most_left : (xs : List MemItem) (i p n : ℕ) (octets : List ℕ) → i < length xs → Bytes octets ≡ get_or xs i Quiet → n ≤ length (first_octets (without p (drop i xs))) → n ≤ length (drop p octets)
most_left xs i p n octets inside is most =
    let split = drop_more xs i Quiet inside ∙ ap (λ x. x ∷ drop (i + 1) xs) (sym is) in
    subst (λ l. n ≤ length (first_octets (without p l))) split most

-- a part of an item was given
part_at : (over items : List MemItem) (octets : List ℕ) (p n : ℕ) (ended lost : Bool) → n < length (drop p octets)
    → standing over (Bytes octets ∷ items) (p + n) ended true ≡ after_giving n (standing over (Bytes octets ∷ items) p ended lost)
part_at over items octets p n ended lost part =
    let s = standing over (Bytes octets ∷ items) p ended lost in
    let stepped : after_giving n s ≡ record s { part = take p octets ++ take n (drop p octets); left = Bytes (drop n (drop p octets)) ∷ items; lost = true } = grind (arith, nat_tests) in
    (λ j. record s { part = take-add p n octets j; left = Bytes (sym (drop-drop n p octets) j) ∷ items; lost = true }) ∙ sym stepped

pub part_given : (xs : List MemItem) (i p n : ℕ) (octets : List ℕ) (ended lost : Bool) → i < length xs → Bytes octets ≡ get_or xs i Quiet → n < length (drop p octets)
    → standing (take i xs) (drop i xs) (p + n) ended true ≡ after_giving n (standing (take i xs) (drop i xs) p ended lost)
part_given xs i p n octets ended lost inside is part =
    let split = drop_more xs i Quiet inside ∙ ap (λ x. x ∷ drop (i + 1) xs) (sym is) in
    ap (λ l. standing (take i xs) l (p + n) ended true) split
    ∙ part_at (take i xs) (drop (i + 1) xs) octets p n ended lost part
    ∙ sym (ap (λ l. after_giving n (standing (take i xs) l p ended lost)) split)

-- ---- what is told

-- what was given of one item, and what is left of it
concat_one : (items : List MemItem) (item : MemItem) → concat (map octets_in (items ++ item ∷ [])) ≡ concat (map octets_in items) ++ octets_in item
concat_one items item =
    ap concat (map-append octets_in items (item ∷ [])) ∙ concat-append (map octets_in items) (octets_in item ∷ [])
    ∙ ap (λ l. concat (map octets_in items) ++ l) (append-nil (octets_in item))

given_by : (n : ℕ) (items : List MemItem) (s : LineSupplied) → n ≤ length (first_octets items) → given_octets (giving n items s) ≡ given_octets s ++ take n (first_octets items)
given_by n [] s le = sym (ap (λ l. given_octets s ++ l) (take_all n [] (omega arith)) ∙ append-nil (given_octets s))
given_by n (Quiet ∷ items) s le = sym (ap (λ l. given_octets s ++ l) (take_all n [] (omega arith)) ∙ append-nil (given_octets s))
given_by n (Bytes octets ∷ items) s le = elim (cases_lt n (length octets)) [
  | inl part ↦
      let stepped : giving n (Bytes octets ∷ items) s ≡ record s { part = s.part ++ take n octets; left = Bytes (drop n octets) ∷ items; lost = true } = grind (arith, nat_tests) in
      ap given_octets stepped ∙ sym (append_assoc (concat (map octets_in s.over)) s.part (take n octets))
  | inr all ↦
      let stepped : giving n (Bytes octets ∷ items) s ≡ record s { over = s.over ++ Bytes (s.part ++ octets) ∷ []; part = []; left = items } = grind (arith, nat_tests) in
      ap given_octets stepped
      ∙ append-nil (concat (map octets_in (s.over ++ Bytes (s.part ++ octets) ∷ [])))
      ∙ concat_one s.over (Bytes (s.part ++ octets))
      ∙ sym (append_assoc (concat (map octets_in s.over)) s.part octets)
      ∙ ap (λ l. given_octets s ++ l) (sym (take_all n octets all))
]

left_by : (n : ℕ) (items : List MemItem) (s : LineSupplied) → s.left ≡ items → n ≤ length (first_octets items) → left_octets s ≡ take n (first_octets items) ++ left_octets (giving n items s)
left_by n [] s is le = sym (ap (λ l. l ++ left_octets s) (take_all n [] (omega arith)))
left_by n (Quiet ∷ items) s is le = sym (ap (λ l. l ++ left_octets s) (take_all n [] (omega arith)))
left_by n (Bytes octets ∷ items) s is le = elim (cases_lt n (length octets)) [
  | inl part ↦
      let stepped : giving n (Bytes octets ∷ items) s ≡ record s { part = s.part ++ take n octets; left = Bytes (drop n octets) ∷ items; lost = true } = grind (arith, nat_tests) in
      ap (λ l. concat (map octets_in l)) is
      ∙ sym (ap (λ l. l ++ concat (map octets_in items)) (take-append-drop n octets))
      ∙ append_assoc (take n octets) (drop n octets) (concat (map octets_in items))
      ∙ sym (ap (λ v. take n octets ++ left_octets v) stepped)
  | inr all ↦
      let stepped : giving n (Bytes octets ∷ items) s ≡ record s { over = s.over ++ Bytes (s.part ++ octets) ∷ []; part = []; left = items } = grind (arith, nat_tests) in
      ap (λ l. concat (map octets_in l)) is
      ∙ sym (ap (λ l. l ++ concat (map octets_in items)) (take_all n octets all))
      ∙ sym (ap (λ v. take n octets ++ left_octets v) stepped)
]

-- so it is with a call
pub given_for : (room : ℕ) (items : List MemItem) (s : LineSupplied) → given_octets (receiving room items s) ≡ given_octets s ++ octets_of (got_for room items) (first_octets items)
given_for room [] s = sym (append-nil (given_octets s))
given_for room (Bytes octets ∷ items) s = given_by (min (length octets) room) (Bytes octets ∷ items) s (omega arith)
given_for room (Quiet ∷ items) s = ap (λ l. l ++ s.part) (concat_one s.over Quiet ∙ append-nil (concat (map octets_in s.over))) ∙ sym (append-nil (given_octets s))

pub left_for : (room : ℕ) (items : List MemItem) (s : LineSupplied) → s.left ≡ items → left_octets s ≡ octets_of (got_for room items) (first_octets items) ++ left_octets (receiving room items s)
left_for room [] s is = refl
left_for room (Bytes octets ∷ items) s is = left_by (min (length octets) room) (Bytes octets ∷ items) s is (omega arith)
left_for room (Quiet ∷ items) s is = ap (λ l. concat (map octets_in l)) is

pub end_for : (room : ℕ) (items : List MemItem) (s : LineSupplied) → s.left ≡ items → EndsAtEnd (Some (left_octets (receiving room items s))) (got_for room items)
end_for room [] s is = ap (λ l. concat (map octets_in l)) is
end_for room (Bytes octets ∷ items) s is = tt
end_for room (Quiet ∷ items) s is = tt
