-- What any calls do to one session: what goes out of it is what was made for it, and what goes into it is reacted to, in order.
--     hands_out, takes_in, reacts_to      what one call does to the session of a number
--     handed_out, taken_in, reacted_to      what calls do, one behind the other
--     MadeGoesOut, EachIsReactedToOnce      the laws
--     GiveReacts      what counts as reacted to is what `give` reacts to
--     ClosedOnesRest      sessions that were stopped or have ended
--     NotesLieBetween, LaterOnesAreNoEarlier      the points of the notes of a connection, and of one behind it
use Rattle.std.specs.Prelude.{◌≡◌, ℕ, ◌<◌, ◌≤◌, Bool, true, false, ◌&&◌, List, [], ◌∷◌, ◌++◌, map, take, flat_map, Some, None, ◌==◌, if◌then◌else◌}
use Rattle.std.specs.List.{AllByRecursion}
use Rattle.push_base.specs.Cases.{is_empty}
use Rattle.dnsname.specs.Names.{Labels}
use Rattle.dsotlv.specs.Laws.{AreOctets}
use Rattle.dsotlv.specs.Messages.{first_message, frame}
use Rattle.pushsession.specs.Sessions.{is_open, without_first}
use Rattle.pushsession.specs.declared.session_status.SessionStatus.{SessionStatus}
use Rattle.pushsession.specs.declared.session_status.SessionStatus.TheVariants.{Live}
use Rattle.pushserver.specs.PlainHubs.{Hub, Session, Made, Note, told, note_of, frame_of}
use Rattle.pushserver.specs.Hubs.{newest, session_of, in_session, taken_by}
use Rattle.pushserver.specs.Giving.{give, reacted, after_reaction}
use Rattle.pushserver.specs.Calls.{HubCall, takes, gives, called, after_calls, BringsOctets}
use Rattle.pushserver.specs.ToldMessages.{IsNoEarlier}

-- ---- what one call does to the session of a number

-- the octets of its output that are handed out
abbrev pub hands_out : ℕ → Hub → HubCall → List ℕ
hands_out number hub (gives other room) = if number == other then (give hub other room).octets else []
hands_out number hub _ = []

-- the octets of a piece that go into its input
abbrev pub takes_in : ℕ → Hub → HubCall → List ℕ
takes_in number hub (takes other piece) = if number == other then take (taken_by hub other piece) piece else []
takes_in number hub _ = []

abbrev pub is_live : SessionStatus → Bool
is_live Live = true
is_live _ = false

-- `give` takes up the first whole message of the input, where the session goes on, is not asked to stop, and has nothing to hand out
abbrev pub first_of : Session → List (List ℕ)
first_of session = if is_live session.standing && is_empty session.output then (elim (first_message session.input) [ None ↦ [] | Some found ↦ found.0 ∷ [] ]) else []

abbrev pub message_up : Hub → ℕ → List (List ℕ)
message_up hub number = elim (session_of hub number) [ None ↦ [] | Some session ↦ first_of session ]

abbrev pub reacts_to : ℕ → Hub → HubCall → List (List ℕ)
reacts_to number hub (gives other room) = if number == other then message_up hub other else []
reacts_to number hub _ = []

-- ---- what calls do, one behind the other

abbrev pub in_calls : {X : Type 0} → (Hub → HubCall → List X) → List HubCall → Hub → List X
in_calls does [] hub = []
in_calls does (call ∷ calls) hub = does hub call ++ in_calls does calls (called call hub)

abbrev pub handed_out : ℕ → List HubCall → Hub → List ℕ
handed_out number calls hub = in_calls (hands_out number) calls hub

abbrev pub taken_in : ℕ → List HubCall → Hub → List ℕ
taken_in number calls hub = in_calls (takes_in number) calls hub

abbrev pub reacted_to : ℕ → List HubCall → Hub → List (List ℕ)
reacted_to number calls hub = in_calls (reacts_to number) calls hub

-- ---- the laws

-- what was handed out and what waits to be are what waited before, and the frames of the messages made since
pub record WentOut (handed : List ℕ) (before after : Session) : Type 0 where
  pub more : List Made
  pub made : after.made ≡ before.made ++ more
  pub octets : handed ++ after.output ≡ before.output ++ flat_map frame_of more

-- of a session whose number was given before the calls, and of one that was connected in them
abbrev pub MadeGoesOut : Type 0
MadeGoesOut = (hub : Hub) (calls : List HubCall) (number : ℕ) (after : Session) → session_of (after_calls calls hub) number ≡ Some after
    → ((before : Session) → number < hub.numbers_given → session_of hub number ≡ Some before → WentOut (handed_out number calls hub) before after)
    × (session_of hub number ≡ None → handed_out number calls hub ++ after.output ≡ flat_map frame_of after.made)

-- what was taken in behind the input is the frames of the messages that were reacted to, and the input that is left
abbrev pub EachIsReactedToOnce : Type 0
EachIsReactedToOnce = (hub : Hub) (calls : List HubCall) (number : ℕ) (after : Session) → AllByRecursion BringsOctets calls → session_of (after_calls calls hub) number ≡ Some after
    → ((before : Session) → number < hub.numbers_given → session_of hub number ≡ Some before → AreOctets before.input
    → before.input ++ taken_in number calls hub ≡ flat_map frame (reacted_to number calls hub) ++ after.input)
    × (session_of hub number ≡ None → taken_in number calls hub ≡ flat_map frame (reacted_to number calls hub) ++ after.input)

-- a message that is taken up leaves the input, and is reacted to, before anything is handed out
abbrev pub GiveReacts : Type 0
GiveReacts = (hub : Hub) (number room : ℕ) (session : Session) (message : List ℕ) → session_of hub number ≡ Some session → message_up hub number ≡ message ∷ []
    → (rest : List ℕ) × (first_message session.input ≡ Some (message, rest))
    × (give hub number room ≡ after_reaction number room (reacted message number (in_session number (without_first rest) hub)))

-- a session that was stopped or has ended takes nothing in and reacts to nothing
abbrev pub ClosedOnesRest : Type 0
ClosedOnesRest = (hub : Hub) (calls : List HubCall) (number : ℕ) (session : Session) → number < hub.numbers_given → session_of hub number ≡ Some session → is_open session.standing ≡ false
    → (taken_in number calls hub ≡ []) × (reacted_to number calls hub ≡ [])

-- ---- the points that a session is told of

-- the notes of the messages that were made for it, and its note now
abbrev pub notes_of : Hub → Session → List Note
notes_of hub session = map (λ m. m.note) session.made ++ note_of (newest hub) session ∷ []

abbrev pub LiesBetween : ℕ → ℕ → Note → Type 0
LiesBetween low high note = (name : Labels) → (low ≤ told note name) × (told note name ≤ high)

-- a session that was connected in the calls is told of no point before the newest one when they began, and of none behind the newest one now;
-- where the first of the calls connects it, the newest one when they began is the one at its connecting
abbrev pub NotesLieBetween : Type 0
NotesLieBetween = (hub : Hub) (calls : List HubCall) (number : ℕ) (after : Session) → session_of hub number ≡ None → session_of (after_calls calls hub) number ≡ Some after
    → AllByRecursion (LiesBetween (newest hub) (newest (after_calls calls hub))) (notes_of (after_calls calls hub) after)

-- a session that was connected after some calls is told of no earlier point than one that was connected in them
abbrev pub LaterOnesAreNoEarlier : Type 0
LaterOnesAreNoEarlier = (hub : Hub) (calls more : List HubCall) (first second : ℕ) (earlier later : Session)
    → session_of hub first ≡ None → session_of (after_calls calls hub) first ≡ Some earlier
    → session_of (after_calls calls hub) second ≡ None → session_of (after_calls more (after_calls calls hub)) second ≡ Some later
    → AllByRecursion (λ n. AllByRecursion (λ m. IsNoEarlier n m) (notes_of (after_calls more (after_calls calls hub)) later)) (notes_of (after_calls calls hub) earlier)
