-- The replies to scripts.
--     one-reply      each is the same, told from the history or from the notices taken
use Rattle.std.proofs.Common.{◌≡◌, ℕ, List, Result, Ok, Err, refl, ap, sym}
use Rattle.scripts.specs.Lines.{ScriptLine}
use Rattle.scripts.specs.Scripts.{script_of}
use Rattle.replay.specs.TextWords.{HeldRecords, by_history, by_notices}
use Rattle.replay.specs.ScriptTexts.{text_by, text_with, outside_text}
use Rattle.replay.specs.ScriptReplies.{reply_to_script}
use Rattle.replay.specs.Promises.{EveryScriptTellsOneText}
use Rattle.script_laws.specs.Replies.{RepliesAreOne}

abbrev told_as : HeldRecords → Result (List ScriptLine) ℕ → ℕ × List ℕ
told_as records read = elim read as (λ _. ℕ × List ℕ) [ Ok script ↦ (0, text_by records script) | Err n ↦ (2, outside_text n) ]

module _ (one : EveryScriptTellsOneText) where
  texts-one : (octets : List ℕ) → text_with by_notices octets ≡ text_with by_history octets
  texts-one octets = by (script_of octets) refl
    where
      by : (read : Result (List ScriptLine) ℕ) → script_of octets ≡ read → told_as by_notices read ≡ told_as by_history read
      by (Ok script) read = ap (λ (text : List ℕ). (0, text)) (sym (one octets script read))
      by (Err n) read = refl

  pub one-reply : RepliesAreOne
  unfolding reply_to_script
  one-reply octets = ap (λ (p : ℕ × List ℕ). record { status = p.0; text = p.1 }) (texts-one octets)
