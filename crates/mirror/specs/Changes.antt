-- What notices change in a set by a key, made of them beforehand, and what they take out besides. The set has keys alone
-- for which its question asks.
--     owner_of notice      the owner that it names
--     has_change question notice      whether a notice changes something by a key in the set of a question
--     change_by notice      what a notice changes by a key, where a question asks for that
--     change_of question notice      what a notice changes by a key in the set of a question
--     changes_of question notices      what several change by keys
--     changed set change      the set behind a change
--     remains question notice set      the set without what a notice takes out but by a key
--     remains_here notice set      the same of a notice whose owner is the question's name
--     first_changed changes set, behind_first changes      the set behind the first change; the changes behind it
--     behind question notice changes set      the set behind a notice, by the first change if it has one
--     left_of question notice changes      the changes for the notices that follow
--     performed question notices changes set      the set behind notices
--     Fits change      a key that is put is in lower case
--     is_put, room_of, room_for      whether a change puts a key; how many keys a change puts, and how many several put
use Rattle.std.specs.Prelude.{⊤, ℕ, Bool, true, false, List, [], ◌∷◌, length, filter, Option, None, Some, if◌then◌else◌}
use Rattle.std.specs.List.{filter_map}
use Rattle.dnsname.specs.Names.{Labels, same_name}
use Rattle.rrset.specs.Records.{key_of, matches, shown_of, same_key}
use Rattle.rrset.specs.RecordSet.{RecordSet, put, without}
use Rattle.rrset.specs.Tables.{HasLowerOwner}
use Rattle.rrset.specs.declared.record.Question.{Question}
use Rattle.dsotlv.specs.Notices.{removed_by}
use Rattle.dsotlv.specs.declared.message.Notice.{Notice}
use Rattle.dsotlv.specs.declared.message.Notice.TheVariants.{Add, RemoveOne, RemoveSet, RemoveClass, RemoveAll, Odd}
use Rattle.mirror.specs.declared.notices.Change.{Change}
use Rattle.mirror.specs.declared.notices.Change.TheVariants.{Put, Take}

abbrev pub owner_of : Notice → Labels
owner_of (Add rr) = rr.owner
owner_of (RemoveOne rr) = rr.owner
owner_of (RemoveSet owner class kind) = owner
owner_of (RemoveClass owner class) = owner
owner_of (RemoveAll owner) = owner
owner_of (Odd owner ttl) = owner

abbrev pub has_change : Question → Notice → Bool
has_change question (Add rr) = matches question (key_of rr)
has_change question (RemoveOne rr) = matches question (key_of rr)
has_change question (RemoveSet owner class kind) = false
has_change question (RemoveClass owner class) = false
has_change question (RemoveAll owner) = false
has_change question (Odd owner ttl) = false

abbrev pub change_by : Notice → Option Change
change_by (Add rr) = Some (Put (key_of rr) (shown_of rr))
change_by (RemoveOne rr) = Some (Take (key_of rr))
change_by (RemoveSet owner class kind) = None
change_by (RemoveClass owner class) = None
change_by (RemoveAll owner) = None
change_by (Odd owner ttl) = None

abbrev pub change_of : Question → Notice → Option Change
change_of question notice = if has_change question notice then change_by notice else None

abbrev pub changes_of : Question → List Notice → List Change
changes_of question notices = filter_map (change_of question) notices

abbrev pub changed : RecordSet → Change → RecordSet
changed set (Put key shown) = put key shown set
changed set (Take key) = without (same_key key) set

-- of a notice whose owner is the question's name
abbrev pub remains_here : Notice → RecordSet → RecordSet
remains_here (Add rr) set = set
remains_here (RemoveOne rr) set = set
remains_here (RemoveSet owner class kind) set = without (removed_by (RemoveSet owner class kind)) set
remains_here (RemoveClass owner class) set = without (removed_by (RemoveClass owner class)) set
remains_here (RemoveAll owner) set = without (removed_by (RemoveAll owner)) set
remains_here (Odd owner ttl) set = set

-- a notice of another owner says nothing of the question's keys
abbrev pub remains : Question → Notice → RecordSet → RecordSet
remains question notice set = if same_name question.name (owner_of notice) then remains_here notice set else set

abbrev pub first_changed : List Change → RecordSet → RecordSet
first_changed [] set = set
first_changed (change ∷ changes) set = changed set change

abbrev pub behind_first : List Change → List Change
behind_first [] = []
behind_first (change ∷ changes) = changes

abbrev pub behind : Question → Notice → List Change → RecordSet → RecordSet
behind question notice changes set = if has_change question notice then first_changed changes set else remains question notice set

abbrev pub left_of : Question → Notice → List Change → List Change
left_of question notice changes = if has_change question notice then behind_first changes else changes

abbrev pub performed : Question → List Notice → List Change → RecordSet → RecordSet
performed question [] changes set = set
performed question (n ∷ notices) changes set = performed question notices (left_of question n changes) (behind question n changes set)

abbrev pub Fits : Change → Type 0
Fits (Put key shown) = HasLowerOwner key
Fits (Take key) = ⊤

abbrev pub is_put : Change → Bool
is_put (Put key shown) = true
is_put (Take key) = false

abbrev pub room_of : Change → ℕ
room_of change = if is_put change then 1 else 0

abbrev pub room_for : List Change → ℕ
room_for changes = length (filter is_put changes)
