-- The words of a script's text.
--     end_words, why_words      reasons
--     bytes_words, open_words, noseat_words      the words of such lines
--     bytes_line, end_line, closed_line, shown_lines      the line on octets, on an end, on a close, and those on a question
--     show_at records world seat question      what `show` tells behind the question
use Rattle.std.specs.Prelude.{ℕ, Bool, true, List, [], ◌∷◌, map, length, Option, Some, None, nat_lt, codes, decimal, if◌then◌else◌}
use Rattle.dnsname.specs.Text.{name_text}
use Rattle.rrset.specs.RecordSet.{RecordSet}
use Rattle.rrset.specs.declared.record.Key.{Key}
use Rattle.rrset.specs.declared.record.Shown.{Shown}
use Rattle.rrset.specs.declared.record.Question.{Question}
use Rattle.dsosession.specs.declared.session.EndReason.{EndReason}
use Rattle.dsosession.specs.declared.session.EndReason.TheVariants as ends
use Rattle.dsosession.specs.declared.session.CloseReason.{CloseReason}
use Rattle.pushserver.specs.declared.given.Why.{Why}
use Rattle.pushserver.specs.declared.given.Why.TheVariants as whys
use Rattle.pushserver.specs.PlainHubs.{Note, Hub}
use Rattle.pushserver.specs.Hubs.{session_of}
use Rattle.pushserver.specs.ToldMessages.{records_noted}
use Rattle.pushclient.specs.Clients.{Held, off, asked_only, refused_with, set_held, held}
use Rattle.scripts.specs.Lines.{Word}
use Rattle.scripts.specs.Words.{spaced, close_words, octets_text}
use Rattle.replay.specs.World.{Seat, World, last_note, filled_of}

abbrev pub end_words : EndReason → List ℕ
end_words ends.Short = codes "short"
end_words ends.Answer = codes "answer"
end_words ends.Counts = codes "counts"
end_words ends.Tlvs = codes "tlvs"
end_words ends.Early = codes "early"
end_words (ends.Misuse kind) = spaced (codes "misuse" ∷ decimal kind ∷ [])
end_words (ends.BadData kind) = spaced (codes "data" ∷ decimal kind ∷ [])
end_words (ends.Unknown kind) = spaced (codes "type" ∷ decimal kind ∷ [])
end_words (ends.IdInUse id) = spaced (codes "id" ∷ decimal id ∷ [])
end_words (ends.Twice id) = spaced (codes "twice" ∷ decimal id ∷ [])
end_words ends.Silent = codes "silent"
end_words ends.Idle = codes "idle"
end_words ends.Stopped = codes "stopped"
end_words (ends.Behind point) = spaced (codes "behind" ∷ decimal point ∷ [])
end_words ends.Gone = codes "gone"

abbrev pub why_words : Why → List ℕ
why_words whys.Long = codes "long"
why_words whys.Short = codes "short"
why_words whys.Query = codes "query"
why_words whys.Coded = codes "coded"
why_words (whys.Unreadable place) = spaced (codes "unreadable" ∷ decimal place ∷ [])
why_words whys.Nothing = codes "nothing"
why_words whys.Last = codes "last"

abbrev pub record_line : Key × Shown → List ℕ
record_line e = spaced (codes "rr" ∷ name_text e.1.owner ∷ decimal e.1.ttl ∷ decimal e.0.class ∷ decimal e.0.kind ∷ octets_text e.1.rdata ∷ [])

-- ---- lines

abbrev pub bytes_words : Word → List ℕ → List (List ℕ)
bytes_words w octets = codes "bytes" ∷ w ∷ octets_text octets ∷ []

abbrev pub bytes_line : Word → List ℕ → List ℕ
bytes_line w octets = spaced (bytes_words w octets)

abbrev pub open_words : Word → List (List ℕ)
open_words w = codes "open" ∷ w ∷ []

abbrev pub noseat_words : Word → List (List ℕ)
noseat_words w = codes "noseat" ∷ w ∷ []

abbrev pub end_line : Word → EndReason → List ℕ
end_line w reason = spaced (codes "end" ∷ w ∷ end_words reason ∷ [])

abbrev pub closed_line : Word → CloseReason → List ℕ
closed_line w reason = spaced (codes "closed" ∷ w ∷ close_words reason ∷ [])

-- ---- what is shown of a question

-- what show tells: a state with its words, and the records that follow
abbrev pub ShowTold : Type 0
ShowTold = List ℕ × RecordSet

-- behind the question as it is written the state, and a line for each record
abbrev pub shown_lines : Word → Question → List ℕ → ShowTold → List (List ℕ)
shown_lines w question written told = spaced (codes "show" ∷ w ∷ written ∷ decimal question.kind ∷ decimal question.class ∷ told.0 ∷ []) ∷ map record_line told.1

abbrev pub with_records : List ℕ → RecordSet → ShowTold
with_records state set = (spaced (state ∷ decimal (length set) ∷ []), set)

-- the records of the history at the point that the last whole frame's note gives for the name
abbrev pub records_told : Hub → Option Note → Question → RecordSet
records_told hub None question = []
records_told hub (Some note) question = records_noted hub note question

-- Which records a held question shows: those of the history, or the set that the notices taken since the answer lead to.
abbrev pub HeldRecords : Type 0
HeldRecords = Hub → Seat → Question → RecordSet → RecordSet

abbrev pub is_filling : Seat → ℕ → Bool
is_filling seat id = elim (filled_of seat id) [ None ↦ true | Some n ↦ nat_lt seat.reached n ]

abbrev pub note_in : Hub → Seat → Option Note
note_in hub seat = elim seat.session [ None ↦ None | Some number ↦ elim (session_of hub number) [ None ↦ None | Some session ↦ last_note seat session ] ]

abbrev pub by_history : HeldRecords
by_history hub seat question set = records_told hub (note_in hub seat) question

abbrev pub by_notices : HeldRecords
by_notices hub seat question set = set

abbrev pub told_of : HeldRecords → Held → Hub → Seat → Question → ShowTold
told_of records off hub seat question = (codes "off", [])
told_of records asked_only hub seat question = (codes "asked", [])
told_of records (refused_with rcode) hub seat question = (spaced (codes "refused" ∷ decimal rcode ∷ []), [])
told_of records (set_held id set) hub seat question =
    if seat.is_lone then with_records (codes "answered") set
    else if is_filling seat id then (codes "filling", [])
    else with_records (codes "held") (records hub seat question set)

abbrev pub show_at : HeldRecords → World → Seat → Question → ShowTold
show_at records world seat question = told_of records (held seat.client question) world.hub seat question
