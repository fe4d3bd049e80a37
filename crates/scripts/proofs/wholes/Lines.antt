-- What a further line makes of the two scripts of one hub that a script is.
--     near-more, far-more, fars-more, turns-more      it stands behind, as what it is to each hub
--     apex-kept, apex-new      the name of the second hub's zone
use Rattle.std.proofs.Common.{◌≡◌, ℕ, Some, None, List, [], ◌∷◌, ◌++◌, refl, ◌∙◌, sym, ap, append_assoc}
use Rattle.std.proofs.lemmas.List.{append-nil}
use Rattle.dnsname.specs.Names.{Labels}
use Rattle.scripts.specs.Lines.{Word, ScriptLine}
use Rattle.scripts.specs.WholeLines.{WholeLine, one, far_zone, far_client, carry, near_of, far_of, fars_behind, is_far_in}
use Rattle.scripts.specs.WholeScripts.{apex_in, fars_of, near_lines_from, far_heads_from}
use Rattle.scripts.specs.KeptWhole.{turns_here, turns_from}
use Rattle.scripts.specs.declared.whole_script.Turn.{Turn}

pub near-more : (fars : List Word) (front : List WholeLine) (line : WholeLine) → near_lines_from fars (front ++ line ∷ []) ≡ near_lines_from fars front ++ near_of (is_far_in (fars_of fars front)) line ∷ []
near-more fars [] line = refl
near-more fars (l ∷ ls) line = ap (λ (more : List ScriptLine). near_of (is_far_in fars) l ∷ more) (near-more (fars_behind fars l) ls line)

pub far-more : (fars : List Word) (front : List WholeLine) (line : WholeLine) → far_heads_from fars (front ++ line ∷ []) ≡ far_heads_from fars front ++ far_of (is_far_in (fars_of fars front)) line ∷ []
far-more fars [] line = refl
far-more fars (l ∷ ls) line = ap (λ (more : List ScriptLine). far_of (is_far_in fars) l ∷ more) (far-more (fars_behind fars l) ls line)

pub fars-more : (fars : List Word) (front : List WholeLine) (line : WholeLine) → fars_of fars (front ++ line ∷ []) ≡ fars_behind (fars_of fars front) line
fars-more fars [] line = refl
fars-more fars (l ∷ ls) line = fars-more (fars_behind fars l) ls line

-- the turns of a further line
turns-last : (fars : List Word) (line : WholeLine) → turns_here (is_far_in fars) line ++ [] ≡ turns_here (is_far_in fars) line
turns-last fars line = append-nil (turns_here (is_far_in fars) line)

pub turns-more : (fars : List Word) (front : List WholeLine) (line : WholeLine) → turns_from fars (front ++ line ∷ []) ≡ turns_from fars front ++ turns_here (is_far_in (fars_of fars front)) line
turns-more fars [] line = turns-last fars line
turns-more fars (l ∷ ls) line =
    ap (λ (more : List Turn). turns_here (is_far_in fars) l ++ more) (turns-more (fars_behind fars l) ls line)
    ∙ sym (append_assoc (turns_here (is_far_in fars) l) (turns_from (fars_behind fars l) ls) (turns_here (is_far_in (fars_of fars (l ∷ ls))) line))

pub apex-kept : (front : List WholeLine) (line : WholeLine) → apex_in (line ∷ []) ≡ None → apex_in (front ++ line ∷ []) ≡ apex_in front
apex-kept [] line none = none
apex-kept (far_zone apex serial ∷ ls) line none = refl
apex-kept (one l ∷ ls) line none = apex-kept ls line none
apex-kept (far_client w ∷ ls) line none = apex-kept ls line none
apex-kept (carry w name written ∷ ls) line none = apex-kept ls line none

pub apex-new : (front : List WholeLine) (apex : Labels) (serial : ℕ) → apex_in front ≡ None → apex_in (front ++ far_zone apex serial ∷ []) ≡ Some apex
apex-new [] apex serial none = refl
apex-new (far_zone a s ∷ ls) apex serial none = absurd cc
apex-new (one l ∷ ls) apex serial none = apex-new ls apex serial none
apex-new (far_client w ∷ ls) apex serial none = apex-new ls apex serial none
apex-new (carry w name written ∷ ls) apex serial none = apex-new ls apex serial none
