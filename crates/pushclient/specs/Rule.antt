-- What the client keeps, and the plain client that it stands for.
--     KeptClient      wishes and connection without notices, and a set for each answered question
--     standing_of, dropped_wish, stood_wish      how a wish stands, and what becomes of it
--     without_told      a wish of whose notices nothing is known
--     set_told      what the notices taken since the answer lead to
--     StandsFor kept plain      each set kept is what the notices taken since the answer lead to
--     IsClient kept      some plain client is stood for
--     BothAnswer      one answer, and what is kept stands for the plain client
use Rattle.std.specs.Prelude.{◌≡◌, ℕ, Bool, false, cond, ◌&&◌, List, [], map, find, Option, option_map}
use Rattle.rrset.specs.Records.{same_question}
use Rattle.rrset.specs.RecordSet.{RecordSet}
use Rattle.rrset.specs.declared.record.Question.{Question}
use Rattle.dsotlv.specs.Notices.{applied_all}
use Rattle.mirror.specs.Held.{Held as Sets, is_of}
use Rattle.pushclient.specs.declared.wish.WishStatus.{WishStatus}
use Rattle.pushclient.specs.declared.wish.WishStatus.TheVariants as standings
use Rattle.pushclient.specs.Clients.{Client, Connection, Wish, RequestState, not_asked, unanswered, refused, answered}
use Rattle.pushclient.specs.Steps.{is_answered}
use Rattle.pushclient.specs.SoundClients.{IsSound}

abbrev pub standing_of : WishStatus → RequestState
standing_of standings.NotAsked = not_asked
standing_of (standings.Unanswered id) = unanswered id
standing_of (standings.Refused rcode) = refused rcode
standing_of (standings.Answered id) = answered id

-- a wish for a question is wanted no more
abbrev pub dropped_wish : Question → Wish → Wish
dropped_wish question w = cond (same_question w.question question) (record w { wanted = false }) w

-- a wish for a question stands otherwise
abbrev pub stood_wish : Question → RequestState → Wish → Wish
stood_wish question standing w = cond (same_question w.question question) (record w { standing = standing; notices = [] }) w

abbrev pub without_told : Wish → Wish
without_told w = record w { notices = [] }

-- wishes without notices, and in their place the sets that these lead to
pub record KeptClient : Type 0 where
  pub wishes : List Wish
  pub connection : Option Connection
  pub now : ℕ
  pub sets : Sets

-- what the notices taken since the answer lead to
abbrev pub set_told : Wish → Question × RecordSet
set_told w = (w.question, applied_all w.notices w.question [])

abbrev pub is_answered_for : Question → Wish → Bool
is_answered_for question w = is_answered w.standing && same_question w.question question

-- each set kept is that of an answered wish
pub record StandsFor (kept : KeptClient) (plain : Client) : Type 0 where
  pub wishes : kept.wishes ≡ map without_told plain.wishes
  pub connection : kept.connection ≡ plain.connection
  pub now : kept.now ≡ plain.now
  pub sets : (question : Question) → find (is_of question) kept.sets ≡ option_map set_told (find (is_answered_for question) plain.wishes)
  pub sound : IsSound plain

-- some plain client is stood for
abbrev pub IsClient : KeptClient → Type 0
IsClient kept = (plain : Client) × StandsFor kept plain

-- one answer, and what is kept stands for the plain client
abbrev pub BothAnswer : {X : Type 0} → X × KeptClient → X × Client → Type 0
BothAnswer k p = (k.0 ≡ p.0) × StandsFor k.1 p.1
