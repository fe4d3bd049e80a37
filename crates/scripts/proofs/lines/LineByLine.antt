-- A text that is taken line by line, whatever its lines say.
--     kept      what each line keeps
--     SoFar      the lines before those that are left
--     begins, more      at first, and behind a further line
--     outside, unfit, ends      the line that is outside; one that may not stand there; the end of all lines
--     count      how many lines were taken
--     holds      a draft that holds what stands in it
use Rattle.std.proofs.Common.{◌≡◌, ℕ, ◌+◌, ◌≤◌, ◌<◌, ◌==◌, Bool, true, false, cond, ◌&&◌, Option, Some, None, Result, Ok, Err, List, [], ◌∷◌, length, IfOk, refl, ◌∙◌, ap, subst, arith}
use Rattle.std.specs.List.{onto_first}
use Rattle.push_base.specs.Cases.{is_empty}
use Rattle.scripts.specs.Scripts.{lines_in}
use Rattle.scripts.specs.TextLines.{is_too_long, lines_taken, taken_from, Takes, TakesHeld}

-- no lines are left exactly where no octets are
is-empty-lines : (rest : List ℕ) → is_empty (lines_in rest) ≡ is_empty rest
is-empty-lines [] = refl
is-empty-lines (o ∷ os) = by (o == 10) (lines_in os)
  where
    first : (lines : List (List ℕ)) → is_empty (onto_first o lines) ≡ false
    first [] = refl
    first (l ∷ ls) = refl

    by : (ends : Bool) (lines : List (List ℕ)) → is_empty (cond {A = List (List ℕ)} ends ([] ∷ lines) (onto_first o lines)) ≡ false
    by true lines = refl
    by false lines = first lines

none_of : (rest : List ℕ) → length rest ≡ 0 → rest ≡ []
none_of [] e = refl
none_of (o ∷ os) e = absurd (omega (arith, e))

module _ {D : Type 0} (line : D → List ℕ → Option D) where
  abbrev pub fits_by : Bool → ℕ → List (List ℕ) → Option D → Result (D × ℕ) ℕ
  fits_by too_long n texts None = Err n
  fits_by too_long n texts (Some later) = taken_from line too_long (n + 1) later texts

  abbrev pub inside_by : Bool → ℕ → D → List ℕ → List (List ℕ) → Bool → Result (D × ℕ) ℕ
  inside_by too_long n draft text texts true = Err n
  inside_by too_long n draft text texts false = fits_by too_long n texts (line draft text)

  abbrev draft_or : D → Result (D × ℕ) ℕ → D
  draft_or draft (Ok all) = all.0
  draft_or draft (Err n) = draft

  abbrev number_or : ℕ → Result (D × ℕ) ℕ → ℕ
  number_or n (Ok all) = all.1
  number_or n (Err k) = n

  -- what each line keeps holds of what all lines make
  module _ (P : D → Type 0) (keeps : (draft later : D) (text : List ℕ) → P draft → line draft text ≡ Some later → P later) where
    kept_from : (too_long : Bool) (n : ℕ) (draft : D) (texts : List (List ℕ)) → P draft → (all : D × ℕ) → taken_from line too_long n draft texts ≡ Ok all → P all.0
    kept_from too_long n draft [] p all e = subst P (ap (draft_or draft) e) p
    kept_from too_long n draft (text ∷ texts) p all e = inside (too_long && is_empty texts) e (λ later. kept_from too_long (n + 1) later texts)
      where
        fitting : (o : Option D) → line draft text ≡ o → fits_by too_long n texts o ≡ Ok all → ((later : D) → P later → (more : D × ℕ) → taken_from line too_long (n + 1) later texts ≡ Ok more → P more.0) → P all.0
        fitting None none e more = absurd cc
        fitting (Some later) some e more = more later (keeps draft later text p some) all e

        inside : (last : Bool) → inside_by too_long n draft text texts last ≡ Ok all → ((later : D) → P later → (more : D × ℕ) → taken_from line too_long (n + 1) later texts ≡ Ok more → P more.0) → P all.0
        inside true e more = absurd cc
        inside false e more = fitting (line draft text) refl e more

    pub kept : (draft : D) (text : List ℕ) → P draft → (all : D × ℕ) → lines_taken line draft text ≡ Ok all → P all.0
    kept draft text p all e = kept_from (is_too_long text) 1 draft (lines_in text) p all e

  -- what the lines so far make of a start, which is held
  pub record Reaches (start : D) (IsHeld : D → Type 0) (text : List ℕ) (number : ℕ) (rest : List ℕ) : Type 0 where
    pub made : D
    pub held : IsHeld made
    pub same : lines_taken line start text ≡ taken_from line (is_too_long text) number made (lines_in rest)

  pub record SoFar (IsStart IsHeld : D → Type 0) (text : List ℕ) (number : ℕ) (rest : List ℕ) : Type 0 where
    pub counted : number + length rest ≤ length text + 1
    pub reaches : (start : D) → IsStart start → Reaches start IsHeld text number rest

  pub begins : (IsStart : D → Type 0) (text : List ℕ) → SoFar IsStart IsStart text 1 text
  begins IsStart text = record { counted = omega arith; reaches = λ start held. record { made = start; held = held; same = refl } }

  module _ (IsStart IsHeld : D → Type 0) (text : List ℕ) (number : ℕ) (rest here after : List ℕ) (so : SoFar IsStart IsHeld text number rest) (lines : lines_in rest ≡ here ∷ lines_in after) where
    -- by whether it is the last line of a text that is too long
    first-is : (start : D) (starts : IsStart start) (last : Bool) → (is_too_long text && is_empty after) ≡ last
        → lines_taken line start text ≡ inside_by (is_too_long text) number (so.reaches start starts).made here (lines_in after) last
    first-is start starts last e =
        let now = so.reaches start starts in
        now.same
        ∙ ap (taken_from line (is_too_long text) number now.made) lines
        ∙ ap (inside_by (is_too_long text) number now.made here (lines_in after)) (ap (λ (b : Bool). is_too_long text && b) (is-empty-lines after) ∙ e)

    pub outside : (is_too_long text && is_empty after) ≡ true → (start : D) → IsStart start → lines_taken line start text ≡ Err number
    outside e start starts = first-is start starts true e

    module _ (IsHeldThen : D → Type 0) (inside : (is_too_long text && is_empty after) ≡ false) where
      by-fit : (start : D) (starts : IsStart start) (fit : Option D) → line (so.reaches start starts).made here ≡ fit → lines_taken line start text ≡ fits_by (is_too_long text) number (lines_in after) fit
      by-fit start starts fit e = first-is start starts false inside ∙ ap (fits_by (is_too_long text) number (lines_in after)) e

      pub unfit : ((made : D) → IsHeld made → TakesHeld (line made here) IsHeldThen false) → (start : D) → IsStart start → lines_taken line start text ≡ Err number
      unfit refused start starts = (let now = so.reaches start starts in by-fit start starts None (refused now.made now.held))

      pub more : ((made : D) → IsHeld made → TakesHeld (line made here) IsHeldThen true) → length after < length rest → SoFar IsStart IsHeldThen text (number + 1) after
      more taken shorter = record {
        counted = omega (arith, so.counted, shorter);
        reaches = λ start starts. (
            let now = so.reaches start starts in
            let later = taken now.made now.held in
            record { made = later.0; held = later.1; same = by-fit start starts (Some later.0) later.2 });
      }

  pub ends : (IsStart IsHeld : D → Type 0) (text : List ℕ) (number : ℕ) (rest : List ℕ) → SoFar IsStart IsHeld text number rest → length rest ≡ 0 → (start : D) → IsStart start
      → (made : D) × IsHeld made × (lines_taken line start text ≡ Ok (made, number))
  ends IsStart IsHeld text number rest so none start starts =
      let now = so.reaches start starts in
      (now.made, now.held, now.same ∙ ap (λ (r : List ℕ). taken_from line (is_too_long text) number now.made (lines_in r)) (none_of rest none))

  -- so many lines
  pub count : (too_long : Bool) (n : ℕ) (draft : D) (texts : List (List ℕ)) (all : D × ℕ) → taken_from line too_long n draft texts ≡ Ok all → all.1 ≡ n + length texts
  count too_long n draft [] all e = (let same : n ≡ all.1 = ap (number_or n) e in omega (arith, same))
  count too_long n draft (text ∷ texts) all e = inside (too_long && is_empty texts) e (λ later. count too_long (n + 1) later texts all)
    where
      fitting : (o : Option D) → fits_by too_long n texts o ≡ Ok all → ((later : D) → taken_from line too_long (n + 1) later texts ≡ Ok all → all.1 ≡ n + 1 + length texts) → all.1 ≡ n + length (text ∷ texts)
      fitting None e more = absurd cc
      fitting (Some later) e more = (let rest = more later e in omega (arith, rest))

      inside : (last : Bool) → inside_by too_long n draft text texts last ≡ Ok all → ((later : D) → taken_from line too_long (n + 1) later texts ≡ Ok all → all.1 ≡ n + 1 + length texts) → all.1 ≡ n + length (text ∷ texts)
      inside true e more = absurd cc
      inside false e more = fitting (line draft text) e more

  -- what is held of a draft may be what stands in it
  pub holds : {E : Type 0} (made : D) (text : List ℕ) (later : D) (result : Result Bool E) → IfOk result (λ taken. Takes (line made text) later taken)
      → IfOk result (λ taken. (draft : D) → draft ≡ made → TakesHeld (line draft text) (λ then. then ≡ later) taken)
  holds made text later (Err e) took = tt
  holds made text later (Ok true) took = λ draft same. (later, refl, ap (λ (d : D). line d text) same ∙ took)
  holds made text later (Ok false) took = λ draft same. ap (λ (d : D). line d text) same ∙ took
