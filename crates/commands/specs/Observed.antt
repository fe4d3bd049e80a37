-- What is told of a run whose text isn't a script's.
--     Observed      what is told of a run, before it and behind it
--     IsTold P status wrote      a text that P allows was written with its status, or the output failed in the midst of one
--     TellsNumber before now number result      that this line is the first outside was told
use Rattle.std.specs.Prelude.{◌≡◌, ◌⊎◌, ℕ, List, codes}
use Rattle.std.specs.declared.option.Option.{Option}
use Rattle.push_outside.specs.Outside.{Telling}
use Rattle.scripts.specs.declared.outcome.Outcome.{Outcome}
use Rattle.scripts.specs.declared.outcome.Outcome.TheVariants as outcomes
use Rattle.scripts.specs.Outcomes.{status_of}
use Rattle.push_base.specs.Written.{IsFrontOf, Took}
use Rattle.scripts.specs.Words.{line}
use Rattle.replay.specs.ScriptTexts.{outside_text}

-- what the outside tells, what the output took, and two of the outside's counts of faults
pub record Observed : Type 0 where
  pub told : Telling
  pub printed : Option (List ℕ)
  pub reads : ℕ
  pub others : ℕ

-- a text that P allows was written with its status, or the output failed in the midst of one
abbrev pub IsTold : (ℕ → List ℕ → Type 0) → ℕ → List ℕ → Type 0
IsTold P status wrote = P status wrote ⊎ ((status ≡ status_of outcomes.WriteFault) × (told : ℕ) × (text : List ℕ) × P told text × IsFrontOf wrote text)

-- that this line is the first outside was told, or that memory ran out
abbrev pub TellsNumber : Option (List ℕ) → Option (List ℕ) → ℕ → Outcome → Type 0
TellsNumber before now number result = (told : Outcome) × (text : List ℕ)
    × (((told ≡ outcomes.Outside) × (text ≡ outside_text number)) ⊎ ((told ≡ outcomes.NoMemory) × (text ≡ line (codes "no memory"))))
    × Took before now (λ wrote. ((result ≡ told) × (wrote ≡ text)) ⊎ ((result ≡ outcomes.WriteFault) × IsFrontOf wrote text))
