-- What holds of each plain hub to which calls of the server lead.
--     IsSoundHub hub      of the hub
--     PointsRise points      none is greater than one behind it
--     IsSoundSession hub numbered      of a session in it
use Rattle.std.specs.Prelude.{◌≡◌, ℕ, ◌<◌, ◌≤◌, Bool, true, false, List, [], ◌∷◌, map, length, IsTrue}
use Rattle.std.specs.List.{list_any, AllByRecursion, IsDistinct}
use Rattle.push_base.specs.Limits.{max_input}
use Rattle.dnsname.specs.Names.{Labels, same_name}
use Rattle.dsotlv.specs.Laws.{AreOctets}
use Rattle.subscr.specs.Asked.{AreAsked}
use Rattle.coalesce.specs.Sides.{frame_octets}
use Rattle.history.specs.Plans.{IsStart}
use Rattle.history.specs.States.{State, state_at}
use Rattle.pushsession.specs.Sessions.{is_open}
use Rattle.pushserver.specs.Hubs.{newest, state_now, max_sessions}
use Rattle.pushserver.specs.Rows.{IsTellable}
use Rattle.pushserver.specs.Giving.{is_served_at}
use Rattle.pushserver.specs.PlainHubs.{Hub, Session, Subscription, Queue, asked_of}
use Rattle.livesessions.specs.NumberedSessions.{AreApart}

-- the points of names that wait are of the past
abbrev pub ArePast : ℕ → Queue → Type 0
ArePast newest queue = AllByRecursion (λ e. e.1 < newest) queue

-- none is greater than one behind it
abbrev pub PointsRise : List ℕ → Type 0
PointsRise [] = Unit {0}
PointsRise (p ∷ ps) = AllByRecursion (λ q. p ≤ q) ps × PointsRise ps

-- a question has the name
abbrev pub is_watched : List Subscription → Labels → Bool
is_watched subscriptions name = list_any (λ s. same_name s.question.name name) subscriptions

-- each name that waits is that of a question; so no more wait than there are questions
abbrev pub AreWatched : List Subscription → Queue → Type 0
AreWatched subscriptions queue = AllByRecursion (λ e. is_watched subscriptions e.0 ≡ true) queue

-- its class is served, and its name has a home
abbrev pub HasHome : State → Subscription → Type 0
HasHome state s = IsTrue (is_served_at state s.question)

-- its number was given out; each name waits once, behind those that wait longer, since a point of the past; where it is stopped or has
-- ended it asks nothing; it asks as a session may, and each question is served; what came are octets, and what came and what waits to go
-- are within bounds
pub record IsSoundSession (hub : Hub) (numbered : ℕ × Session) : Type 0 where
  pub below : numbered.0 < hub.numbers_given
  pub points : ArePast (newest hub) numbered.1.queue
  pub rises : PointsRise (map (λ e. e.1) numbered.1.queue)
  pub names : IsDistinct (λ d e. same_name e.0 d.0) numbered.1.queue
  pub watched : AreWatched numbered.1.subscriptions numbered.1.queue
  pub rests : is_open numbered.1.standing ≡ false → numbered.1.subscriptions ≡ []
  pub asked : AreAsked (asked_of numbered.1.subscriptions)
  pub homes : AllByRecursion (HasHome (state_now hub)) numbered.1.subscriptions
  pub octets : AreOctets numbered.1.input
  pub input_fits : length numbered.1.input ≤ max_input
  pub output_fits : length numbered.1.output ≤ frame_octets

-- it began with homes in which nothing had changed, and what it has at each point can be told; no number is there twice, and there are not too many sessions
pub record IsSoundHub (hub : Hub) : Type 0 where
  pub begins : IsStart hub.start
  pub states : (point : ℕ) → point ≤ newest hub → IsTellable (state_at hub.start hub.history point)
  pub sessions : AllByRecursion (IsSoundSession hub) hub.sessions
  pub numbers : AreApart hub.sessions
  pub few : length hub.sessions ≤ max_sessions
