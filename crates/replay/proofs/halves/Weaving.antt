-- Two lists as one.
--     takes-far, takes-near      the next of one is taken off
--     weaves-turn, weaves-there      one turn more
--     at-alike      an element that is there is the same for each default
use Rattle.std.proofs.Common.{◌≡◌, ℕ, zero, suc, ◌+◌, ◌<◌, Bool, true, false, List, [], ◌∷◌, ◌++◌, length, drop, get_or, Option, Some, None, option_to_list, sym, ◌∙◌, ap, refl, arith, append_assoc}
use Rattle.std.proofs.lemmas.List.{at_drop_more}
use Rattle.replay.specs.TwoWorlds.{woven}

module _ {X : Type 0} where
  no-items : (xs : List X) → (0 < length xs → ⊥) → xs ≡ []
  no-items [] none = refl
  no-items (x ∷ xs) none = absurd (none (omega arith))

  weaves-far : (order : List Bool) (near far later : List X) (found : Option X) → far ≡ option_to_list found ++ later → (found ≡ None → far ≡ []) → woven (true ∷ order) near far ≡ option_to_list found ++ woven order near later
  weaves-far order near far later (Some x) is none = ap (woven (true ∷ order) near) is
  weaves-far order near far later None is none =
      let here : far ≡ [] = none refl in
      ap (woven (true ∷ order) near) here ∙ ap (woven order near) (sym here ∙ is)

  weaves-near : (order : List Bool) (near later far : List X) (found : Option X) → near ≡ option_to_list found ++ later → (found ≡ None → near ≡ []) → woven (false ∷ order) near far ≡ option_to_list found ++ woven order later far
  weaves-near order near later far (Some x) is none = ap (λ (xs : List X). woven (false ∷ order) xs far) is
  weaves-near order near later far None is none =
      let here : near ≡ [] = none refl in
      ap (λ (xs : List X). woven (false ∷ order) xs far) here ∙ ap (λ (xs : List X). woven order xs far) (sym here ∙ is)

  -- one turn more
  pub weaves-turn : (order : List Bool) (i : ℕ) (is_far : Bool) (so_far next : List X) (found : Option X) (near far near_later far_later whole : List X) → i < length order → is_far ≡ get_or order i is_far
      → ((rest : List Bool) → woven (is_far ∷ rest) near far ≡ option_to_list found ++ woven rest near_later far_later) → next ≡ so_far ++ option_to_list found
      → so_far ++ woven (drop i order) near far ≡ whole → next ++ woven (drop (i + 1) order) near_later far_later ≡ whole
  weaves-turn order i is_far so_far next found near far near_later far_later whole within is takes put so =
      let rest : List Bool = drop (i + 1) order in
      ap (λ (l : List X). l ++ woven rest near_later far_later) put
      ∙ append_assoc so_far (option_to_list found) (woven rest near_later far_later)
      ∙ ap (λ (l : List X). so_far ++ l) (sym (takes rest))
      ∙ ap (λ (b : Bool). so_far ++ woven (b ∷ rest) near far) is
      ∙ ap (λ (l : List X). so_far ++ l) (sym (at_drop_more (λ (o : List Bool). woven o near far) order i is_far within))
      ∙ so

-- an element that is there is the same for each default
pub at-alike : {X : Type 0} (order : List X) (i : ℕ) (d e : X) → i < length order → get_or order i d ≡ get_or order i e
at-alike [] i d e within = absurd (omega (arith, within))
at-alike (x ∷ xs) zero d e within = refl
at-alike (x ∷ xs) (suc i) d e within = at-alike xs i d e (omega (arith, within))

-- one turn more, of the element there
pub weaves-there : {X : Type 0} (order : List Bool) (i : ℕ) (d : Bool) (so_far next : List X) (found : Option X) (near far near_later far_later whole : List X) → i < length order
    → ((rest : List Bool) → woven (get_or order i d ∷ rest) near far ≡ option_to_list found ++ woven rest near_later far_later) → next ≡ so_far ++ option_to_list found
    → so_far ++ woven (drop i order) near far ≡ whole → next ++ woven (drop (i + 1) order) near_later far_later ≡ whole
weaves-there order i d so_far next found near far near_later far_later whole within takes put so =
    weaves-turn order i (get_or order i d) so_far next found near far near_later far_later whole within (at-alike order i d (get_or order i d) within) takes put so
