-- The client asks.
--     QuestionsAreAsked      a question that no wish has is asked with a free ID
--     DroppedOnesAreWantedAgain      one that was dropped before its answer is wanted again
--     NextIdIsFree      the ID that the client takes is one, and free
use Rattle.std.specs.Prelude.{◌≡◌, ℕ, ◌<◌, true, List, [], ◌∷◌, ◌++◌, length, find, None, Some, IsTrue, ◌==◌}
use Rattle.std.specs.List.{IsDistinct}
use Rattle.push_base.specs.Limits.{max_questions}
use Rattle.rrset.specs.Records.{same_question}
use Rattle.rrset.specs.declared.record.Question.{Question}
use Rattle.pushserver.specs.PlainHubs.{Session, Made, Hub}
use Rattle.pushclient.specs.Clients.{Client, Connection, Wish, unanswered, without_wish, next_id}
use Rattle.pushclient.specs.SoundClients.{count_of}
use Rattle.inflight.specs.Messages.{ClientMessage, subscribes, Flying}
use Rattle.inflight.specs.Ends.{BothEnds, ends_of, is_id, is_question, used_ids}
use Rattle.inflight.specs.Flight.{IsSoundClient, FitsTogether}

-- a wish for a question, which waits with this ID, stands last, and it is the last ID that was taken
abbrev pub with_asked : ℕ → Question → BothEnds → BothEnds
with_asked id question e = record e { wishes = e.wishes ++ (record { question = question; wanted = true; standing = unanswered id; notices = [] }) ∷ []; last_id = id }

-- With a free ID, a question that no wish has, and fewer than 1,024 wishes (RFC 8765, 6.2). The IDs of active subscriptions differ.
abbrev pub QuestionsAreAsked : Type 0
QuestionsAreAsked = (e : BothEnds) (taken : List Made) (flying : List Flying) (ups : List ClientMessage) (id : ℕ) (question : Question)
    → IsTrue (is_id id) → count_of id (used_ids e) ≡ 0 → IsTrue (is_question question) → find (λ w. same_question w.question question) e.wishes ≡ None → length e.wishes < max_questions
    → IsDistinct (λ s t. s.id == t.id) e.subscriptions → FitsTogether e taken flying ups → FitsTogether (with_asked id question e) taken flying (ups ++ subscribes id question ∷ [])

-- the wish for a question goes to the end, and is wanted
abbrev pub with_again : Question → Wish → BothEnds → BothEnds
with_again question wish e = record e { wishes = without_wish question e.wishes ++ (record wish { wanted = true }) ∷ [] }

-- nothing is written (RFC 8765, 6.2)
abbrev pub DroppedOnesAreWantedAgain : Type 0
DroppedOnesAreWantedAgain = (e : BothEnds) (taken : List Made) (flying : List Flying) (ups : List ClientMessage) (question : Question) (wish : Wish)
    → find (λ w. same_question w.question question) e.wishes ≡ Some wish → FitsTogether e taken flying ups → FitsTogether (with_again question wish e) taken flying ups

-- the next ID of a sound client is from 1 to 65,535, and nothing waits or is held with it (RFC 8490, 5.4.1)
abbrev pub NextIdIsFree : Type 0
NextIdIsFree = (hub : Hub) (told : List (ℕ × ℕ)) (session : Session) (client : Client) (c : Connection) → let e = ends_of hub told session client c in
    IsSoundClient e → let id = next_id client.wishes c in IsTrue (is_id id) × (count_of id (used_ids e) ≡ 0)
