-- That a session answers its octets the same in whatever pieces they come (RFC 7766, 8; RFC 8490, 5.4).
--     given_for number pieces hub      what a session gives for pieces of octets that come one after the other
--     answers_to number messages hub      what a live session without output answers to whole messages, one after the other, until it ends
--     AnswersInTurn      what it gives for pieces is what it answers to the whole messages in its input and all pieces
--     OneOutputForEveryCut      so it gives one output for the same octets, however they are cut into pieces
--     AnswersEveryCutIn script      of each session between any two lines of a script
use Rattle.std.specs.Prelude.{◌≡◌, ℕ, ◌<◌, ◌≤◌, List, [], ◌∷◌, ◌++◌, length, All, Option, Some, None, option_map, Ok}
use Rattle.std.specs.List.{concat}
use Rattle.dsotlv.specs.Messages.{first_message, messages_in}
use Rattle.pushsession.specs.declared.session_status.SessionStatus.{SessionStatus}
use Rattle.pushsession.specs.declared.session_status.SessionStatus.TheVariants.{Live}
use Rattle.pushserver.specs.declared.given.Given.TheVariants.{End}
use Rattle.pushserver.specs.PlainHubs.{Session, Hub}
use Rattle.pushserver.specs.Hubs.{session_of, connect}
use Rattle.pushsession.specs.Sessions.{without_first}
use Rattle.pushserver.specs.Giving.{reacted, after_reaction}
use Rattle.scripts.specs.Lines.{ScriptLine}
use Rattle.scripts.specs.Scripts.{script_of}
use Rattle.replay.specs.World.{start_world}
use Rattle.replay.specs.PassedOctets.{exchanged, enough}
use Rattle.replay.specs.Text.{world_after}

-- the octets that a session gives for pieces that come one after the other, and the hub after them
abbrev pub given_for : ℕ → List (List ℕ) → Hub → List ℕ × Hub
given_for number [] hub = ([], hub)
given_for number (piece ∷ pieces) hub = (let x = exchanged enough number piece hub [] in let later = given_for number pieces x.hub in (x.octets ++ later.0, later.1))

-- What a live session without output answers to messages that it reacts to one after the other, until it ends, and the hub after
-- them; no reaction writes as much as there is room for.
abbrev pub answers_to : ℕ → List (List ℕ) → Hub → List ℕ × Hub
answers_to number [] hub = ([], hub)
answers_to number (message ∷ messages) hub =
    let one = after_reaction number enough (reacted message number hub) in
    elim one.given [
      | End reason ↦ (one.octets, one.hub)
      | _ ↦ (let later = answers_to number messages one.hub in (one.octets ++ later.0, later.1))
    ]

-- a live session: no name is queued, nothing is to be written, and no whole message waits
pub record IsAtRest (hub : Hub) (number : ℕ) (session : Session) : Type 0 where
  pub there : session_of hub number ≡ Some session
  pub standing : session.standing ≡ Live
  pub queue : session.queue ≡ []
  pub output : session.output ≡ []
  pub waits : first_message session.input ≡ None

-- numbers below 256, as many as a run can pass
abbrev pub ArePassable : List ℕ → Type 0
ArePassable octets = All (λ o. o < 256) octets × (length octets ≤ enough)

abbrev pub standing_of : Hub → ℕ → Option SessionStatus
standing_of hub number = option_map (λ s. s.standing) (session_of hub number)

-- The octets given are those answered, and the session is left alike: it lives, or has ended for the same reason; and where it lives, the octets behind the last whole message wait in its input.
pub record GivesAsAnswered (number : ℕ) (rest : List ℕ) (given answered : List ℕ × Hub) : Type 0 where
  pub octets : given.0 ≡ answered.0
  pub history : given.1.history ≡ answered.1.history
  pub standing : standing_of given.1 number ≡ standing_of answered.1 number
  pub session : standing_of answered.1 number ≡ Some Live → session_of given.1 number ≡ option_map (without_first rest) (session_of answered.1 number)

-- Where no whole message in its input and all pieces makes an entry, they are answered one after the other.
abbrev pub AnswersInTurn : Hub → ℕ → Type 0
AnswersInTurn hub number = (session : Session) (pieces : List (List ℕ)) → IsAtRest hub number session → ArePassable (concat pieces)
    → let split = messages_in (session.input ++ concat pieces) in
    (answers_to number split.0 hub).1.history ≡ hub.history → GivesAsAnswered number split.1 (given_for number pieces hub) (answers_to number split.0 hub)

-- Where pieces come and no entry is made, all other pieces of the same octets give the same output.
abbrev pub OneOutputForEveryCut : Hub → ℕ → Type 0
OneOutputForEveryCut hub number = (session : Session) (first second : List (List ℕ)) → IsAtRest hub number session → ArePassable (concat first) → concat first ≡ concat second
    → (given_for number first hub).1.history ≡ hub.history
    → (given_for number first hub).0 ≡ (given_for number second hub).0

-- of each session of a hub
abbrev pub AnswersEveryCut : Hub → Type 0
AnswersEveryCut hub = (number : ℕ) → AnswersInTurn hub number × OneOutputForEveryCut hub number

-- of each session that is there, and of the one that would come next
abbrev pub AnswersEveryCutNow : Hub → Type 0
AnswersEveryCutNow hub = AnswersEveryCut hub × AnswersEveryCut (connect hub).1

-- Where a live session has no name queued and nothing to say, and no entry is made until the last piece is answered: the whole
-- messages in its input and all pieces are answered one after the other, until it ends, and all pieces of the same octets give
-- the same output.
unfoldable pub AnswersEveryCutIn : List ℕ → Type 0
AnswersEveryCutIn script = (before behind : List ScriptLine) → script_of script ≡ Ok (before ++ behind)
    → AnswersEveryCutNow (world_after before (start_world (before ++ behind))).hub
