-- What a program answers and writes.
--     Reply      a status, and the text that is written for it
--     Tells, Answers      the whole texts for a reply, and what a sink that failed took of one
use Rattle.std.specs.Prelude.{◌≡◌, ◌⊎◌, ℕ, List, ◌++◌, codes}
use Rattle.push_base.specs.Written.{IsFrontOf}
use Rattle.scripts.specs.declared.outcome.Outcome.TheVariants as outcomes
use Rattle.scripts.specs.Outcomes.{status_of}
use Rattle.scripts.specs.Words.{line}

-- a status, and the text that is written for it
pub record Reply : Type 0 where
  pub status : ℕ
  pub text : List ℕ

-- the whole texts for a reply, each with its status: the reply itself, or what a fault leaves of it. That it wasn't read
-- is told only with its cause
pub data Tells (cause : Type 0) (reply : Reply) (status : ℕ) (text : List ℕ) : Type 0 where
  In_full : status ≡ reply.status → text ≡ reply.text → Tells cause reply status text
  Unread : cause → status ≡ status_of outcomes.ReadFault → text ≡ line (codes "read fault") → Tells cause reply status text
  Starved : (front : List ℕ) → IsFrontOf front reply.text → status ≡ status_of outcomes.NoMemory → text ≡ front ++ line (codes "no memory") → Tells cause reply status text

-- such a text was written with its status, or the sink failed in the midst of one
abbrev pub Answers : Type 0 → Reply → ℕ → List ℕ → Type 0
Answers cause reply status wrote =
    Tells cause reply status wrote
    ⊎ ((status ≡ status_of outcomes.WriteFault) × (told : ℕ) × (text : List ℕ) × Tells cause reply told text × IsFrontOf wrote text)
