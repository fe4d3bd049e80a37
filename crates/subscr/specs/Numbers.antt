-- The sessions that watch one name, as they are kept: each number once, rising, and once more for each further time.
--     again_of again      the numbers of those that watch it more than once, one for each further time
--     AreKept numbers again      the numbers rise, and none comes again that isn't there
use Rattle.std.specs.Prelude.{◌≡◌, ℕ, true, List, [], ◌∷◌, ◌++◌, replicate}
use Rattle.subscr.specs.Watching.{is_in, are_rising}
use Rattle.subscr.specs.declared.sessions.Again.{Again}

abbrev pub again_of : List Again → List ℕ
again_of [] = []
again_of (a ∷ others) = a.session ∷ (replicate a.besides a.session ++ again_of others)

pub record AreKept (numbers again : List ℕ) : Type 0 where
  pub rising : are_rising numbers ≡ true
  pub known : (session : ℕ) → is_in session again ≡ true → is_in session numbers ≡ true
