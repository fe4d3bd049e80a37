-- What nets promise: a subscriber that applies the net to the old set of any of its questions has the new one.
--     is_side name set      a set as nets are made of: of one name, of class IN, as records are sent
--     NetLeadsToNew, NetLeadsEachQuestion      the promise; and for the net of what several questions ask for
--     NothingToTell      where a net is empty
--     NetFitsOneMessage, NetIsReadBack      the message of one net
--     IsPacked names      what a message takes of a queue
--     OneOfSeveral, PackedLeads      several names in one message don't meet; what the message does to a question's set
use Rattle.std.specs.Prelude.{◌≡◌, ◌⊎◌, Bool, true, false, List, [], ◌∷◌, ◌++◌, map, filter, ◌<◌, not, ◌&&◌, IsTrue, nat_le, nat_lt, ◌^◌, ◌≤◌, length, flat_map, Ok, ◌==◌, if◌then◌else◌}
use Rattle.std.specs.List.{list_all, list_any, Contains, AllByRecursion}
use Rattle.push_base.specs.Cases.{is_empty}
use Rattle.push_base.specs.Limits.{max_octets_at_name}
use Rattle.dnsname.specs.Names.{Labels, is_name, same_name}
use Rattle.rrset.specs.Kinds.{in_class, any_kind}
use Rattle.rrset.specs.Rdata.{shape_fits}
use Rattle.rrset.specs.RecordSet.{RecordSet, is_record_set, only, matching, same_rows, size_of}
use Rattle.rrset.specs.declared.record.Key.{Key}
use Rattle.rrset.specs.declared.record.Shown.{Shown}
use Rattle.rrset.specs.declared.record.Question.{Question}
use Rattle.subscr.specs.Asked.{one_asks}
use Rattle.dsotlv.specs.Notices.{applied_all, last_ttl, notice_octets, notices_of}
use Rattle.dsotlv.specs.declared.message.Notice.{Notice}
use Rattle.dsotlv.specs.declared.message.Notice.TheVariants.{Add, RemoveOne, RemoveSet, RemoveClass, RemoveAll, Odd}
use Rattle.dsotlv.specs.Answers.{push_message}
use Rattle.coalesce.specs.Net.{Nets, net, each_net, max_push, packed, max_net_message}

-- a record of the name and of class IN, with fields as wide as those of a message, no meta kind 255, and rdata that fits
abbrev pub is_sent_so : Labels → Key × Shown → Bool
is_sent_so name e = same_name name e.0.owner && is_name e.1.owner && e.0.class == in_class
    && nat_lt e.0.kind (2 ^ 16) && not (e.0.kind == any_kind) && shape_fits e.0.kind e.1.rdata && nat_lt (length e.1.rdata) (2 ^ 16)

abbrev pub is_side : Labels → RecordSet → Bool
is_side name set = is_record_set set && list_all (is_sent_so name) set

-- records that can be added: TTLs without the top bit, and at most 60,000 octets
abbrev pub can_be_sent : RecordSet → Bool
can_be_sent set = list_all (λ e. nat_le e.1.ttl last_ttl) set && nat_le (size_of set) max_octets_at_name

abbrev pub NetLeadsToNew : Type 0
NetLeadsToNew = (name : Labels) (old new : RecordSet) (question : Question) → IsTrue (is_side name old) → IsTrue (is_side name new)
    → applied_all (net old new) question (matching question old) ≡ matching question new

-- what one of several questions asks for
abbrev pub is_wanted : List Question → Key → Bool
is_wanted questions key = one_asks (λ question. question) questions key

abbrev pub wanted_of : List Question → RecordSet → RecordSet
wanted_of questions set = only (is_wanted questions) set

-- the net of what several questions ask for leads each of them to the new set
abbrev pub NetLeadsEachQuestion : Type 0
NetLeadsEachQuestion = (name : Labels) (old new : RecordSet) (questions : List Question) (question : Question) → IsTrue (is_side name old) → IsTrue (is_side name new) → Contains questions question
    → applied_all (net (wanted_of questions old) (wanted_of questions new)) question (matching question old) ≡ matching question new

-- the part of a set that passes a test of keys is a set as nets are made of, too
abbrev pub PartsStaySides : Type 0
PartsStaySides = (name : Labels) (test : Key → Bool) (set : RecordSet) → IsTrue (is_side name set)
    → (IsTrue (is_side name (only test set))) × (IsTrue (can_be_sent set) → IsTrue (can_be_sent (only test set)))

-- nothing is told exactly where both sets show the same
abbrev pub NothingToTell : Type 0
NothingToTell = (name : Labels) (old new : RecordSet) → IsTrue (is_side name old) → IsTrue (is_side name new) → is_empty (net old new) ≡ same_rows old new

-- one name's net, alone in a PUSH
abbrev pub NetFitsOneMessage : Type 0
NetFitsOneMessage = (name : Labels) (old new : RecordSet) → IsTrue (is_side name old) → IsTrue (is_side name new) → IsTrue (can_be_sent new)
    → length (push_message (net old new)) ≤ max_net_message

-- what is written for it is read back
abbrev pub NetIsReadBack : Type 0
NetIsReadBack = (name : Labels) (old new : RecordSet) → IsTrue (is_side name old) → IsTrue (is_side name new) → IsTrue (can_be_sent new) → IsTrue (not (is_empty (net old new)))
    → notices_of (flat_map notice_octets (net old new)) ≡ Ok (net old new)

-- ---- packing

abbrev pub all_notices : Nets → List Notice
all_notices names = flat_map (λ e. e.1) names

-- the names that have something to tell
abbrev pub telling : Nets → Nets
telling names = filter (λ e. not (is_empty e.1)) names

-- nothing is left, or first a net that would make the message too long, which has something already
abbrev pub StopsBefore : List Notice → Nets → Type 0
StopsBefore message [] = Unit {0}
StopsBefore message (e ∷ left) = (is_empty message ≡ false) × (is_empty e.1 ≡ false) × (max_push < length (push_message (message ++ e.1)))

-- The first names of a queue go, each with its whole net and nothing else; the others stay, in order. The message has the
-- net of one name alone, or at most `max_push` octets.
pub record IsPacked (names : Nets) : Type 0 where
  pub gone : Nets
  pub left : Nets
  pub split : names ≡ gone ++ left
  pub whole_nets : (packed names).0 ≡ all_notices gone
  pub stay : (packed names).1 ≡ map (λ e. e.0) left
  pub stops : StopsBefore (packed names).0 left
  pub size : (length (telling gone) ≤ 1) ⊎ (length (push_message (packed names).0) ≤ max_push)

abbrev pub PacksTheFront : Type 0
PacksTheFront = (names : Nets) → IsPacked names

-- nothing is told exactly where no name has anything to tell
abbrev pub PacksNothingOfNothing : Type 0
PacksNothingOfNothing = (names : Nets) → is_empty (packed names).0 ≡ list_all (λ e. is_empty e.1) names

-- where each net alone takes at most `max_net_message` octets, the message does
abbrev pub PackedFitsOneMessage : Type 0
PackedFitsOneMessage = (names : Nets) → AllByRecursion (λ e. length (push_message e.1) ≤ max_net_message) names → length (push_message (packed names).0) ≤ max_net_message

-- ---- several names in one message

-- the name that a notice speaks of
abbrev pub speaks_of : Labels → Notice → Bool
speaks_of name (Add rr) = same_name name rr.owner
speaks_of name (RemoveOne rr) = same_name name rr.owner
speaks_of name (RemoveSet owner class kind) = same_name name owner
speaks_of name (RemoveClass owner class) = same_name name owner
speaks_of name (RemoveAll owner) = same_name name owner
speaks_of name (Odd owner ttl) = same_name name owner

abbrev pub NetSpeaksOfItsName : Type 0
NetSpeaksOfItsName = (name : Labels) (old new : RecordSet) → IsTrue (is_side name old) → IsTrue (is_side name new) → IsTrue (list_all (speaks_of name) (net old new))

-- names other than the question's, each with notices that speak of it
abbrev pub are_others : Question → Nets → Bool
are_others question names = list_all (λ e. not (same_name question.name e.0) && list_all (speaks_of e.0) e.1) names

abbrev pub OthersChangeNothing : Type 0
OthersChangeNothing = (names : Nets) (question : Question) (set : RecordSet) → IsTrue (are_others question names)
    → applied_all (all_notices names) question (matching question set) ≡ matching question set

-- what a message of several names does to the set of a question is what the net of its name does
abbrev pub OneOfSeveral : Type 0
OneOfSeveral = (front back : Nets) (name : Labels) (notices : List Notice) (question : Question) (set : RecordSet)
    → IsTrue (are_others question front) → IsTrue (are_others question back)
    → applied_all (all_notices (front ++ (name, notices) ∷ back)) question (matching question set) ≡ applied_all notices question (matching question set)

abbrev pub is_named_in : Labels → List Labels → Bool
is_named_in name names = list_any (λ n. same_name name n) names

-- no name stands twice
abbrev pub are_apart : List Labels → Bool
are_apart [] = true
are_apart (n ∷ ns) = not (is_named_in n ns) && are_apart ns

-- the nets of some names, from what was sent of each to what is there now
abbrev pub nets_of : (Labels → RecordSet) → (Labels → RecordSet) → List Labels → Nets
nets_of sent now names = each_net (λ n. n) sent now names

abbrev pub HaveSides : (Labels → RecordSet) → (Labels → RecordSet) → List Labels → Type 0
HaveSides sent now names = AllByRecursion (λ n. IsTrue (is_side n (sent n)) × IsTrue (is_side n (now n))) names

-- other spellings of the question's name have the same records
abbrev pub IsAlike : (Labels → RecordSet) → Question → Type 0
IsAlike of question = (n : Labels) → IsTrue (same_name question.name n) → of n ≡ of question.name

-- A message leads a question whose name goes to what is there now, and leaves the set of any other question.
abbrev pub PackedLeads : Type 0
PackedLeads = (sent now : Labels → RecordSet) (names : List Labels) (question : Question)
    → HaveSides sent now names → IsTrue (are_apart names) → IsAlike sent question → IsAlike now question
    → applied_all (packed (nets_of sent now names)).0 question (matching question (sent question.name))
    ≡ matching question (if is_named_in question.name names && not (is_named_in question.name (packed (nets_of sent now names)).1) then now question.name else sent question.name)

-- what is written for such a message is read back
abbrev pub PackedIsReadBack : Type 0
PackedIsReadBack = (sent now : Labels → RecordSet) (names : List Labels) → HaveSides sent now names → AllByRecursion (λ n. IsTrue (can_be_sent (now n))) names
    → IsTrue (not (is_empty (packed (nets_of sent now names)).0))
    → notices_of (flat_map notice_octets (packed (nets_of sent now names)).0) ≡ Ok (packed (nets_of sent now names)).0
