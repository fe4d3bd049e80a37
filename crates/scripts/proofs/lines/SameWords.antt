-- Whether two words are one.
use Rattle.std.proofs.Common.{◌≡◌, Bool, true, false, refl, sym, ◌∙◌, ap}
use Rattle.std.specs.Str.{bytes_eq}
use Rattle.std.proofs.lemmas.Slice.Eq.{bytes_eq-Decides}
use Rattle.scripts.specs.Lines.{Word}

pub same_word : (v w : Word) → bytes_eq v w ≡ true → v ≡ w
same_word v w h = (bytes_eq-Decides v w).0 h

pub word_itself : (w : Word) → bytes_eq w w ≡ true
word_itself w = (bytes_eq-Decides w w).1 refl

pub other_way : (v w : Word) → bytes_eq v w ≡ false → bytes_eq w v ≡ false
other_way v w h = by (bytes_eq w v) refl
  where
    by : (b : Bool) → bytes_eq w v ≡ b → b ≡ false
    by true e = (let wrong : true ≡ false = sym (word_itself v) ∙ ap (bytes_eq v) (sym (same_word w v e)) ∙ h in absurd cc)
    by false e = refl
