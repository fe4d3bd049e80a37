-- Tables by name: blocks without the names that have no rows, and blocks that are copied.
use Rattle.std.proofs.Common.{◌≡◌, ℕ, ◌+◌, ◌<◌, Bool, true, false, cond, [], ◌∷◌, ◌++◌, length, take, get_or, map, refl, sym, ap, subst, ◌∙◌, arith, nat_lt}
use Rattle.std.proofs.lemmas.Bool.{lt-ltb, ltb-true}
use Rattle.std.proofs.lemmas.List.{append_assoc, append-nil, take_more}
use Rattle.std.proofs.lemmas.List.Elements.{filter-append}
use Rattle.std.specs.List.{filter}
use Rattle.nametable.specs.Nodes.{Nodes, AreAlike, has_rows}
use Rattle.nametable.specs.Blocks.{Blocks, nodes_in, AreFilled}
use Rattle.nametable.proofs.Between.{all-append}
use Rattle.nametable.proofs.BlockPlaces.{filled-at}

module _ {X : Type 0} where
  -- ---- names without rows left out

  abbrev pub is_filled : Nodes X → Bool
  is_filled b = nat_lt 0 (length b)

  empty : (b : Nodes X) → is_filled b ≡ false → b ≡ []
  empty [] h = refl
  empty (g ∷ gs) h = let no : true ≡ false = sym (lt-ltb 0 (length (g ∷ gs)) (omega arith)) ∙ h in absurd cc

  nodes-emptied : (bs : Blocks X) → nodes_in (map (filter has_rows) bs) ≡ filter has_rows (nodes_in bs)
  nodes-emptied [] = refl
  nodes-emptied (b ∷ bs) = ap (λ (l : Nodes X). filter has_rows b ++ l) (nodes-emptied bs) ∙ sym (filter-append has_rows b (nodes_in bs))

  nodes-filled : (bs : Blocks X) → nodes_in (filter is_filled bs) ≡ nodes_in bs
  nodes-filled [] = refl
  nodes-filled (b ∷ bs) = by (is_filled b) refl (nodes-filled bs)
    where
      by : (t : Bool) → is_filled b ≡ t → nodes_in (filter is_filled bs) ≡ nodes_in bs → nodes_in (cond t (b ∷ filter is_filled bs) (filter is_filled bs)) ≡ b ++ nodes_in bs
      by true e rest = ap (λ (l : Nodes X). b ++ l) rest
      by false e rest = rest ∙ ap (λ (l : Nodes X). l ++ nodes_in bs) (sym (empty b e))

  pub nodes-dropped : (bs mid new : Blocks X) → mid ≡ map (filter has_rows) bs → new ≡ filter is_filled mid → nodes_in new ≡ filter has_rows (nodes_in bs)
  nodes-dropped bs mid new mid-is new-is = ap nodes_in new-is ∙ nodes-filled mid ∙ ap nodes_in mid-is ∙ nodes-emptied bs

  all-filled : (bs : Blocks X) → AreFilled (filter is_filled bs)
  all-filled [] = tt
  all-filled (b ∷ bs) = by (is_filled b) refl (all-filled bs)
    where
      by : (t : Bool) → is_filled b ≡ t → AreFilled (filter is_filled bs) → AreFilled (cond t (b ∷ filter is_filled bs) (filter is_filled bs))
      by true e rest = (ltb-true 0 (length b) e, rest)
      by false e rest = rest

  pub filled-dropped : (bs mid new : Blocks X) → mid ≡ map (filter has_rows) bs → new ≡ filter is_filled mid → AreFilled new
  filled-dropped bs mid new mid-is is = subst AreFilled (sym is) (all-filled mid)

  -- ---- copies

  alike-append : (ks bs ms ns : Nodes X) → AreAlike ks bs → AreAlike ms ns → AreAlike (ks ++ ms) (bs ++ ns)
  alike-append [] [] ms ns h g = g
  alike-append [] (b ∷ bs) ms ns h g = absurd h
  alike-append (k ∷ ks) [] ms ns h g = absurd h
  alike-append (k ∷ ks) (b ∷ bs) ms ns h g = (h.0, h.1, alike-append ks bs ms ns h.2 g)

  alike-some : (ks bs : Nodes X) → AreAlike ks bs → 0 < length bs → 0 < length ks
  alike-some [] [] h some = absurd (omega (arith, some))
  alike-some [] (b ∷ bs) h some = absurd h
  alike-some (k ∷ ks) [] h some = absurd h
  alike-some (k ∷ ks) (b ∷ bs) h some = omega arith

  nodes-push : (bs : Blocks X) (b : Nodes X) → nodes_in (bs ++ b ∷ []) ≡ nodes_in bs ++ b
  nodes-push [] b = append-nil b
  nodes-push (c ∷ bs) b = ap (λ (l : Nodes X). c ++ l) (nodes-push bs b) ∙ sym (append_assoc c (nodes_in bs) b)

  pub alike-block : (copies now all : Blocks X) (index : ℕ) (copy block : Nodes X) → index < length all → block ≡ get_or all index block → AreAlike (nodes_in copies) (nodes_in (take index all))
      → AreAlike copy block → now ≡ copies ++ copy ∷ [] → AreAlike (nodes_in now) (nodes_in (take (index + 1) all))
  alike-block copies now all index copy block within is so_far alike now-is =
      subst (λ (l : Nodes X). AreAlike l (nodes_in (take (index + 1) all))) (sym (ap nodes_in now-is ∙ nodes-push copies copy))
      (subst (λ (l : Nodes X). AreAlike (nodes_in copies ++ copy) l)
      (sym (ap nodes_in (take_more all index block within ∙ ap (λ (b : Nodes X). take index all ++ b ∷ []) (sym is)) ∙ nodes-push (take index all) block))
      (alike-append (nodes_in copies) (nodes_in (take index all)) copy block so_far alike))

  pub filled-block : (copies now all : Blocks X) (index : ℕ) (copy block : Nodes X) → index < length all → block ≡ get_or all index block → AreFilled all → AreFilled copies
      → AreAlike copy block → now ≡ copies ++ copy ∷ [] → AreFilled now
  filled-block copies now all index copy block within is filled so_far alike now-is =
      subst AreFilled (sym now-is)
      (all-append (λ (b : Nodes X). 0 < length b) copies (copy ∷ []) so_far
      (alike-some copy block alike (subst (λ (b : Nodes X). 0 < length b) (sym is) (filled-at all index block filled within)), tt))
