use Rattle.std.proofs.Common.{◌≡◌, ℕ, ◌++◌, ◌∷◌, [], codes, decimal, refl, sym, ap, ◌∙◌}
use Rattle.std.proofs.lemmas.Result.{IfOk-weaker}
use Rattle.std.specs.Fmt.{digits}
use Rattle.replay.proofs.printed.update_text.Goals as goal

made_text : codes "update 0\n" ≡ codes "update " ++ (decimal 0 ++ 10 ∷ [])
unfolding digits
made_text = refl

pub returns-in-0 : goal.returns-in-0
returns-in-0 c =
    IfOk-weaker c.from_str.result _ _ (λ text is. is ∙ made_text ∙ ap (λ (code : ℕ). codes "update " ++ (decimal code ++ 10 ∷ [])) (sym c.in-0.is)) c.from_str.ensures.ok
