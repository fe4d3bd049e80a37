-- One word that is an address, or none.
use Rattle.std.proofs.Common.{◌≡◌, ◌<◌, Bool, not, cond, Option, Some, None, [], ◌∷◌, length, refl, sym, ◌∙◌, ap, inl, inr, arith}
use Rattle.std.specs.Str.{is_utf8, IsUtf8}
use Rattle.std.proofs.lemmas.Str.{is_utf8-from_IsUtf8, IsUtf8-from_is_utf8}
use Rattle.std.proofs.lemmas.Bool.{cases_Bool}
use Rattle.scripts.specs.Lines.{Word}
use Rattle.configurations.specs.Configurations.{address}

-- by whether it is UTF-8
abbrev of_text : Word → Bool → Option Word
of_text w is = cond (not is) None (Some w)

pub some_address : (w copy : Word) → 0 < length w → IsUtf8 w → copy ≡ w → Some copy ≡ address w
some_address [] copy some is same = absurd (omega (arith, some))
some_address (c ∷ cs) copy some is same = ap (λ (v : Word). Some v) same ∙ sym (ap (of_text (c ∷ cs)) (is_utf8-from_IsUtf8 (c ∷ cs) is))

pub no_address : (w : Word) → (IsUtf8 w → ⊥) → None ≡ address w
no_address [] never = refl
no_address (c ∷ cs) never = elim (cases_Bool (is_utf8 (c ∷ cs))) [
  | inl is ↦ absurd (never (IsUtf8-from_is_utf8 (c ∷ cs) is))
  | inr other ↦ sym (ap (of_text (c ∷ cs)) other)
]
