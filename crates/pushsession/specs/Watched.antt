-- What a session's calls do to who watches which names.
--     IsWatched number watching asked      the session watches each name as often as its questions have it
--     Rewatches number before after old new      so it does after a call, and all others watch as before
use Rattle.std.specs.Prelude.{◌≡◌, ℕ, ◌==◌, false}
use Rattle.dnsname.specs.Names.{Labels}
use Rattle.subscr.specs.Asked.{Asked}
use Rattle.subscr.specs.Watching.{Watching, questions_of}
use Rattle.pushsession.specs.Kept.{KeptSession}

abbrev pub IsWatched : ℕ → Watching → Asked → Type 0
IsWatched number watching asked = (name : Labels) → watching name number ≡ questions_of name asked

-- where what is asked before is watched, what is asked behind is
pub record MovesWatches (number : ℕ) (before after : Watching) (old new : Asked) : Type 0 where
  pub own : IsWatched number before old → IsWatched number after new
  pub others : (name : Labels) (another : ℕ) → (another == number) ≡ false → after name another ≡ before name another

abbrev pub Rewatches : ℕ → Watching → Watching → KeptSession → KeptSession → Type 0
Rewatches number before after old new = MovesWatches number before after old.subscriptions.asked new.subscriptions.asked
