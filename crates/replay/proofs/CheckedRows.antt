-- Worked scripts that are only read, by computation.
use Rattle.std.proofs.Common.{◌≡◌, ℕ, List, [], ◌∷◌, ◌++◌, codes, refl}
use Rattle.std.specs.Fmt.{digits}
use Rattle.scripts.specs.Reply.{Reply}
use Rattle.scripts.specs.Words.{line, ended_lines}
use Rattle.replay.specs.Checks.{checked}

-- the octets are a script: this is written, with status 0
abbrev pub IsGood : List ℕ → List ℕ → Type 0
IsGood octets words = checked octets ≡ record { status = 0; text = line words }

-- the first line outside is told, with status 2
abbrev pub IsOutside : List ℕ → List ℕ → Type 0
IsOutside octets words = checked octets ≡ record { status = 2; text = line words }

pub nothing : IsGood [] (codes "good 0")
unfolding checked digits
nothing = refl

pub empty_line : IsGood (10 ∷ []) (codes "good 1")
unfolding checked digits
empty_line = refl

-- the last line without its end counts
pub no_end : IsGood (codes "point" ++ 10 ∷ 10 ∷ codes "point") (codes "good 3")
unfolding checked digits
no_end = refl

abbrev eight_lines : List (List ℕ)
eight_lines =
    codes "zone example.com. 1 open"
    ∷ codes "client c"
    ∷ codes "ask c a.example.com. 1 1"
    ∷ codes "open c"
    ∷ codes "settle c"
    ∷ codes "update 000128000001000000010000076578616d706c6503636f6d00000600010161c00c000100010000003c0004c0000201"
    ∷ codes "settle c"
    ∷ codes "show c a.example.com. 1 1"
    ∷ []

pub eight : IsGood (ended_lines eight_lines) (codes "good 8")
unfolding checked digits
eight = refl

-- the last line lacks its class
pub no_class : IsOutside (ended_lines (codes "client c" ∷ []) ++ codes "ask c example.com. 6") (codes "line 2")
unfolding checked digits
no_class = refl

-- a client's line behind its octets as a peer
pub late_client : IsOutside (ended_lines (codes "point" ∷ codes "send c -" ∷ codes "client c" ∷ [])) (codes "line 2")
unfolding checked digits
late_client = refl
