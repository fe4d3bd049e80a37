-- Worked rows, by computation.
use Rattle.std.proofs.Common.{◌≡◌, [], ◌∷◌, refl}
use Rattle.std.specs.Fmt.{digits}
use Rattle.replay.specs.ScriptReplies.{reply_to_script}
use Rattle.replay.specs.TextWords.{by_history}
use Rattle.big_scripts.specs.Scripts.{rounds_of}
use Rattle.big_scripts.specs.Replies.{sums_of}

pub all_but_the_last_have_a_thousand : rounds_of 2500 ≡ 1000 ∷ 1000 ∷ 500 ∷ []
all_but_the_last_have_a_thousand = refl

pub a_thousand_are_one_script : rounds_of 1000 ≡ 1000 ∷ []
a_thousand_are_one_script = refl

-- one update and one hearing, and the client holds both addresses
pub one_round : sums_of by_history 1 ≡ record { points = 2; held = 2; lines = 14 }
unfolding digits reply_to_script
one_round = refl
