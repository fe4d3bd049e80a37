-- What a client will hold once further messages are taken.
--     will_hold more wish      what a wish is held by then
--     HoldsThen told taken id question set      and the set of its question, once its first answer is among the messages taken
use Rattle.std.specs.Prelude.{◌≡◌, ℕ, ◌≤◌, List, [], Option, Some, None, if◌then◌else◌}
use Rattle.std.specs.List.{list_any}
use Rattle.rrset.specs.RecordSet.{RecordSet}
use Rattle.rrset.specs.declared.record.Question.{Question}
use Rattle.dsotlv.specs.Notices.{applied_all}
use Rattle.pushserver.specs.PlainHubs.{Made, size_of_made}
use Rattle.pushserver.specs.ToldMessages.{notices_since}
use Rattle.pushclient.specs.Clients.{Wish, unanswered, answered}
use Rattle.inflight.specs.Messages.{Flying, accepts_id}
use Rattle.inflight.specs.Ends.{told_end}

-- by the ID of its subscription, if it waits for one of their answers or is held already
abbrev pub will_hold : List Flying → Wish → Option ℕ
will_hold more w = elim w.standing [ answered id ↦ Some id | unanswered id ↦ if list_any (λ f. accepts_id id f.says) more then Some id else None | _ ↦ None ]

-- the notices of the messages taken lead to it, where the end of the first answer, as it was told, is among them
abbrev pub HoldsThen : List (ℕ × ℕ) → List Made → ℕ → Question → RecordSet → Type 0
HoldsThen told taken id question set = (n : ℕ) → told_end told id ≡ Some n → n ≤ size_of_made taken → applied_all (notices_since id taken) question [] ≡ set
