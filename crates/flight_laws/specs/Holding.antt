-- Where what is under way fits, the client holds the history at the points of the notes that came with it.
--     EndsBeforeNextWhereNoneWaits      how far the octets reach that have arrived
--     HoldsAtLast      what it holds now, at the note of the last message that it took
--     HoldsAlong      what it will hold after each message that comes down, at that message's note
--     HoldsAllSent      what it will hold after all of them, while the session goes on
--     HeldIsHistory      all of these of a client and its session, on octets
use Rattle.std.specs.Prelude.{◌≡◌, ℕ, ◌+◌, ◌≤◌, ◌<◌, List, [], ◌∷◌, ◌++◌, map, length, Some, None, IsSome, IsTrue}
use Rattle.std.specs.List.{AllByRecursion}
use Rattle.rrset.specs.RecordSet.{RecordSet, matching}
use Rattle.rrset.specs.declared.record.Question.{Question}
use Rattle.dsosession.specs.declared.session.Timers.{Timers}
use Rattle.dsotlv.specs.Messages.{first_message}
use Rattle.dsotlv.specs.Notices.{applied_all}
use Rattle.pushsession.specs.Sessions.{is_open}
use Rattle.pushserver.specs.PlainHubs.{Hub, Session, Made, frame_of, size_of_made, sent}
use Rattle.pushserver.specs.ToldMessages.{TellsHistory, records_noted}
use Rattle.pushclient.specs.Clients.{Client, Connection, Wish, answered}
use Rattle.inflight.specs.Messages.{ClientMessage, Flying, made_of, flying_octets, CanBeRead}
use Rattle.inflight.specs.Ends.{BothEnds, told_end}
use Rattle.inflight.specs.Flight.{FitsTogether, IsUnderWay, FirstAnswersEnd}
use Rattle.inflight.specs.Holding.{will_hold, HoldsThen}

-- so many octets of the session's have reached the client, and the first message that comes down isn't among them whole
abbrev pub EndsBeforeNext : Timers → List Made → List Flying → ℕ → Type 0
EndsBeforeNext timers taken [] reached = Unit {0}
EndsBeforeNext timers taken (f ∷ fs) reached = reached < size_of_made taken + length (frame_of (made_of timers f))

-- so it is where what has reached the client beyond the messages that it took has no whole message
abbrev pub EndsBeforeNextWhereNoneWaits : Type 0
EndsBeforeNextWhereNoneWaits = (timers : Timers) (taken : List Made) (flying : List Flying) (input more : List ℕ) → AllByRecursion (CanBeRead timers) flying → input ++ more ≡ flying_octets timers flying
    → first_message input ≡ None → EndsBeforeNext timers taken flying (size_of_made taken + length input)

-- what is under way fits, between the client and a session of the hub that was told what the history says
pub record FitsHistory (hub : Hub) (session : Session) (e : BothEnds) (taken : List Made) (flying : List Flying) : Type 0 where
  pub ups : List ClientMessage
  pub fit : FitsTogether e taken flying ups
  pub history : TellsHistory hub session
  pub made : session.made ≡ taken ++ map (made_of e.timers) flying
  pub subscriptions : session.subscriptions ≡ e.subscriptions

-- the set is what the history has at the note of the last of these messages
abbrev pub IsHeldAtLast : Hub → List Made → Question → RecordSet → Type 0
IsHeldAtLast hub taken question set = (before : List Made) × (last : Made) × (taken ≡ before ++ last ∷ []) × (set ≡ records_noted hub last.note question)

-- the notices taken lead each question that is held, and whose first answer is among the octets that arrived, to the history at the last note
abbrev pub AreHeldAtLast : Hub → List (ℕ × ℕ) → List Made → ℕ → List Wish → Type 0
AreHeldAtLast hub told taken reached wishes =
    AllByRecursion (λ w. (id n : ℕ) → w.standing ≡ answered id → told_end told id ≡ Some n → n ≤ reached → IsHeldAtLast hub taken w.question (applied_all w.notices w.question [])) wishes

abbrev pub HoldsAtLast : Type 0
HoldsAtLast = (hub : Hub) (session : Session) (e : BothEnds) (taken : List Made) (flying : List Flying) (reached : ℕ)
    → FitsHistory hub session e taken flying → FirstAnswersEnd session → EndsBeforeNext e.timers taken flying reached
    → AreHeldAtLast hub e.told taken reached e.wishes

-- once further messages are taken, each question that is held by then, and whose first answer has arrived by then, has this set
abbrev pub WillHold : List (ℕ × ℕ) → List Made → List Flying → (Question → RecordSet) → List Wish → Type 0
WillHold told made more set wishes = AllByRecursion (λ w. (id : ℕ) → will_hold more w ≡ Some id → HoldsThen told made id w.question (set w.question)) wishes

-- after each message that comes down, by its note
abbrev pub HoldsAlong : Type 0
HoldsAlong = (hub : Hub) (session : Session) (e : BothEnds) (taken : List Made) (flying front back : List Flying) (f : Flying)
    → FitsHistory hub session e taken flying → flying ≡ front ++ f ∷ back
    → WillHold e.told (taken ++ map (made_of e.timers) (front ++ f ∷ [])) (front ++ f ∷ []) (λ question. records_noted hub f.note question) e.wishes

-- after all of them, what counts as sent
abbrev pub HoldsAllSent : Type 0
HoldsAllSent = (hub : Hub) (session : Session) (e : BothEnds) (taken : List Made) (flying : List Flying) → FitsHistory hub session e taken flying → IsTrue e.goes_on
    → WillHold e.told session.made flying (λ question. matching question (sent hub session question.name)) e.wishes

-- ---- of both ends on octets

-- what the client holds is the history
pub record HoldsHistory (hub : Hub) (told : List (ℕ × ℕ)) (session : Session) (client : Client) (c : Connection) (up_wire down_wire : List ℕ) (i : IsUnderWay hub told session client c up_wire down_wire) : Type 0 where
  -- of each question that is held it was told where its first answer ends
  pub known : AllByRecursion (λ w. (id : ℕ) → w.standing ≡ answered id → IsSome (told_end told id)) client.wishes
  -- and once that has arrived, it has the records that the history has at the note of the last message taken
  pub last : AreHeldAtLast hub told i.taken (size_of_made i.taken + length c.input) client.wishes
  -- so it will after each message that comes down, at that message's note, and, while the session goes on, after all of them with what counts as sent
  pub along : (front back : List Flying) (f : Flying) → i.flying ≡ front ++ f ∷ back
      → WillHold told (i.taken ++ map (made_of hub.timers) (front ++ f ∷ [])) (front ++ f ∷ []) (λ question. records_noted hub f.note question) client.wishes
  pub sent_all : IsTrue (is_open session.standing) → WillHold told session.made i.flying (λ question. matching question (sent hub session question.name)) client.wishes

-- where the session was told what the history says, and the client has taken every message that arrived whole
abbrev pub HeldIsHistory : Type 0
HeldIsHistory = (hub : Hub) (told : List (ℕ × ℕ)) (session : Session) (client : Client) (c : Connection) (up_wire down_wire : List ℕ)
    → TellsHistory hub session → FirstAnswersEnd session → first_message c.input ≡ None
    → (i : IsUnderWay hub told session client c up_wire down_wire) → HoldsHistory hub told session client c up_wire down_wire i
