-- A configuration, by the lines that were taken.
--     or_missing      what was read, or the line behind the last
--     outside      a line is outside
--     ends, misses      all were taken, and nothing is missing, or something is
--     takes_with      a line of which a part was taken
use Rattle.std.proofs.Common.{◌≡◌, ℕ, Bool, true, false, Option, Some, None, Result, Ok, Err, List, sym, ◌∙◌, ap}
use Rattle.std.specs.Prelude.{option_map}
use Rattle.scripts.specs.TextLines.{lines_taken, Takes}
use Rattle.configurations.specs.Configurations.{read_lines, unless_missing}

abbrev pub or_missing : {X : Type 0} → ℕ → Option X → Result X ℕ
or_missing behind None = Err behind
or_missing behind (Some x) = Ok x

-- a part of what was taken
pub takes_with : {A D : Type 0} (f : A → D) (later : Option A) (part : A) (taken : Bool) → Takes later part taken → Takes (option_map f later) (f part) taken
takes_with f later part true took = ap (option_map f) took
takes_with f later part false took = ap (option_map f) took

module _ {D X : Type 0} (line : D → List ℕ → Option D) (whole : D → Option X) (start : D) (text : List ℕ) where
  pub outside : (n : ℕ) → lines_taken line start text ≡ Err n → read_lines line whole start text ≡ Err n
  outside n e = ap (unless_missing whole) e

  module _ (draft : D) (behind : ℕ) (all : (made : D) × (made ≡ draft) × (lines_taken line start text ≡ Ok (made, behind))) where
    by-whole : (o : Option X) → whole draft ≡ o → read_lines line whole start text ≡ or_missing behind o
    by-whole o e = ap (unless_missing whole) (all.2 ∙ ap (λ (d : D). Ok (d, behind)) all.1) ∙ ap (or_missing behind) e

    pub ends : (x : X) → whole draft ≡ Some x → read_lines line whole start text ≡ Ok x
    ends x e = by-whole (Some x) e

    pub misses : (n : ℕ) → n ≡ behind → whole draft ≡ None → read_lines line whole start text ≡ Err n
    misses n same none = by-whole None none ∙ ap (λ (k : ℕ). Err k) (sym same)
