-- Who watches a name in a list of sessions, and how many steps are taken where they note changes.
--     watched_by name session, Watches watching sessions      each session watches each name as often as its questions have it
--     watching_in name sessions      how many sessions watch a name
--     noting_steps changed sessions      how many steps are taken where sessions note changes
use Rattle.std.specs.Prelude.{◌≡◌, ℕ, ◌+◌, ◌*◌, List, Option, Some, None, count_by, sum_by}
use Rattle.dnsname.specs.Names.{Labels}
use Rattle.rrset.specs.declared.record.Changed.{Changed}
use Rattle.subscr.specs.Asked.{watches}
use Rattle.subscr.specs.Watching.{Watching, questions_of}
use Rattle.pushsession.specs.Kept.{KeptSession}
use Rattle.livesessions.specs.NumberedSessions.{Numbered, session_in}

-- none of a session that isn't there
abbrev pub watched_by : Labels → Option KeptSession → ℕ
watched_by name None = 0
watched_by name (Some session) = questions_of name session.subscriptions.asked

abbrev pub Watches : Watching → Numbered KeptSession → Type 0
Watches watching sessions = (name : Labels) (number : ℕ) → watching name number ≡ watched_by name (session_in number sessions)

abbrev pub watching_in : Labels → Numbered KeptSession → ℕ
watching_in name sessions = count_by (λ e. watches name e.1.subscriptions.asked) sessions

-- one for each key, and for each session that watches its name one as it is found and one as it is asked
abbrev pub noting_steps : List Changed → Numbered KeptSession → ℕ
noting_steps changed sessions = sum_by (λ c. 1 + 2 * watching_in c.key.owner sessions) changed
