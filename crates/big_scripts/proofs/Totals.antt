-- The sums over the texts of several scripts.
use Rattle.std.proofs.Common.{◌≡◌, ℕ, ◌+◌, ◌-◌, ◌*◌, ◌/◌, ◌%◌, ◌^◌, ◌<◌, ◌≤◌, List, [], ◌∷◌, ◌++◌, refl, sym, ◌∙◌, ap, subst, arith}
use Rattle.std.specs.Prelude.{fold, replicate}
use Rattle.std.proofs.lemmas.List.{replicate-append-replicate}
use Rattle.std.proofs.lemmas.List.Sums.{fold-append}
use Rattle.replay.specs.TextWords.{by_notices}
use Rattle.big_scripts.specs.Scripts.{most_rounds}
use Rattle.big_scripts.specs.Sums.{no_sums, added}
use Rattle.big_scripts.specs.Replies.{sums_of_script, sums_of_scripts, sums_of}
use Rattle.big_scripts.specs.declared.sums.Sums.{Sums}

-- the sums over so many scripts of most rounds
pub record IsSummed (turns : ℕ) (sums : Sums) : Type 0 where
  pub exact : sums ≡ sums_of_scripts by_notices (replicate turns most_rounds)
  pub points : sums.points ≤ turns * 2 ^ 32
  pub held : sums.held ≤ turns * 2 ^ 96
  pub lines : sums.lines ≤ turns * 2 ^ 64

-- of one script
pub record IsSmall (sums : Sums) : Type 0 where
  pub points : sums.points < 2 ^ 32
  pub held : sums.held < 2 ^ 96
  pub lines : sums.lines < 2 ^ 64

pub begins : IsSummed 0 no_sums
begins = record { exact = refl; points = omega arith; held = omega arith; lines = omega arith }

one_further : (scripts : List ℕ) (rounds : ℕ) → sums_of_scripts by_notices (scripts ++ rounds ∷ []) ≡ added (sums_of_scripts by_notices scripts) (sums_of_script by_notices rounds)
one_further scripts rounds = fold-append (λ sums r. added sums (sums_of_script by_notices r)) no_sums scripts (rounds ∷ [])

pub further : (turns : ℕ) (sums more now : Sums) → IsSummed turns sums → IsSmall more → more ≡ sums_of_script by_notices most_rounds → now ≡ added sums more → IsSummed (turns + 1) now
further turns sums more now so_far small is now_is = subst (IsSummed (turns + 1)) (sym now_is) (record {
  exact =
      ap (λ (s : Sums). added s more) so_far.exact
      ∙ ap (added (sums_of_scripts by_notices (replicate turns most_rounds))) is
      ∙ sym (one_further (replicate turns most_rounds) most_rounds)
      ∙ ap (sums_of_scripts by_notices) (replicate-append-replicate turns 1 most_rounds);
  points = omega (arith, so_far.points, small.points);
  held = omega (arith, so_far.held, small.held);
  lines = omega (arith, so_far.lines, small.lines);
})

pub ends : (number before turns rest : ℕ) (sums more now : Sums) → IsSummed turns sums → before ≡ number - 1 → turns ≡ before / 1000 → rest ≡ before % 1000 + 1
    → more ≡ sums_of_script by_notices rest → now ≡ added sums more → now ≡ sums_of by_notices number
ends number before turns rest sums more now so_far before_is turns_is rest_is is now_is =
    now_is
    ∙ ap (λ (s : Sums). added s more) so_far.exact
    ∙ ap (added (sums_of_scripts by_notices (replicate turns most_rounds))) is
    ∙ sym (one_further (replicate turns most_rounds) rest)
    ∙ ap (λ n. sums_of_scripts by_notices (replicate n most_rounds ++ rest ∷ [])) (turns_is ∙ ap (λ n. n / 1000) before_is)
    ∙ ap (λ n. sums_of_scripts by_notices (replicate ((number - 1) / 1000) most_rounds ++ n ∷ [])) (rest_is ∙ ap (λ n. n % 1000 + 1) before_is)
