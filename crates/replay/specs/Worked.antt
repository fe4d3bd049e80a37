-- Words for worked rows: the rules on what is under way as tests, after each line of a script.
--     unmet_in so_far world      which sentences of a world aren't so, by name
--     holds_throughout script      after each line, of each client of the hub, all are
use Rattle.std.specs.Prelude.{ℕ, ◌+◌, ◌-◌, Bool, true, false, not, ◌&&◌, ◌||◌, List, [], ◌∷◌, ◌++◌, map, length, drop, find, count_by, flat_map, Option, Some, None, Ok, Err, is_none, nat_le, nat_lt, ◌==◌, filter_map, codes, if◌then◌else◌, filter}
use Rattle.std.specs.List.{list_any, list_all, starts_with}
use Rattle.std.specs.Str.{bytes_eq}
use Rattle.push_base.specs.Cases.{is_empty}
use Rattle.push_base.specs.Limits.{max_input}
use Rattle.rrset.specs.RecordSet.{same_rows, matching}
use Rattle.rrset.specs.declared.record.Question.{Question}
use Rattle.dsotlv.specs.Messages.{messages_in, first_message}
use Rattle.pushserver.specs.PlainHubs.{Session, Made, Note, told, note_of, size_of_made, written, Hub, sent}
use Rattle.pushserver.specs.Hubs.{newest, session_of, state_now, records_now}
use Rattle.pushserver.specs.declared.given.Given.TheVariants.{Nothing}
use Rattle.pushserver.specs.Giving.{is_served_at, give}
use Rattle.pushserver.specs.ToldMessages.{set_after, records_noted}
use Rattle.pushclient.specs.Clients.{Connection, is_connected}
use Rattle.pushsession.specs.Sessions.{is_open}
use Rattle.dsosession.specs.declared.session.Timers.{Timers}
use Rattle.dsosession.specs.declared.session.EndReason.{EndReason}
use Rattle.dsosession.specs.declared.session.EndReason.TheVariants as ends
use Rattle.dsosession.specs.declared.session.CloseReason.{CloseReason}
use Rattle.dsosession.specs.declared.session.CloseReason.TheVariants as closes
use Rattle.inflight.specs.Messages.{flying_octets}
use Rattle.inflight.specs.Ends.{ends_of, going_up, going_down}
use Rattle.inflight.specs.Worked.{client_message, server_message, flying_of, unmet, unmet_together, unmet_of_wishes, count_together, none_twice, first_answers_end}
use Rattle.scripts.specs.Lines.{Word, ScriptLine, client_call, client_passing, client_event, settle}
use Rattle.scripts.specs.declared.line.Call.TheVariants as calls
use Rattle.scripts.specs.declared.line.Way.TheVariants as ways
use Rattle.scripts.specs.declared.line.ClientEvent.TheVariants as client_events
use Rattle.replay.specs.HeldPoints.{held_points, point_at, settles_alone, leaves_settled}
use Rattle.replay.specs.Promises.{is_wanted, numbers_of, point_taken, is_end_by_itself, is_close_by_itself}
use Rattle.replay.specs.World.{seat_of, Seat, World, start_world, whole_within}
use Rattle.scripts.specs.Words.{spaced, close_words}
use Rattle.replay.specs.TextWords.{end_words, ShowTold, show_at, with_records, by_history}
use Rattle.scripts.specs.Scripts.{script_of}
use Rattle.replay.specs.PassedOctets.{max_wire}
use Rattle.replay.specs.Text.{line_does}
use Rattle.replay.specs.ScriptTexts.{text_of_script, text_by_notices}
use Rattle.pushclient.specs.ServerMessages.{server_octets}

abbrev pub is_right_after : Hub → List Made → Made → Bool
is_right_after hub before m = list_all (λ s. not (nat_le s.filled (size_of_made (before ++ m ∷ []))) || same_rows (set_after (before ++ m ∷ []) s) (records_noted hub m.note s.question)) m.subscribed

abbrev pub each_is_right : Hub → List Made → List Made → Bool
each_is_right hub before [] = true
each_is_right hub before (m ∷ ms) = is_right_after hub before m && each_is_right hub (before ++ m ∷ []) ms

abbrev pub points_rise : Question → List Note → Bool
points_rise q [] = true
points_rise q (n ∷ []) = true
points_rise q (n ∷ m ∷ notes) = nat_le (told n q.name) (told m q.name) && points_rise q (m ∷ notes)

abbrev pub unmet_of_history : Hub → Session → List (List ℕ)
unmet_of_history hub session = unmet (
    (codes "each", each_is_right hub [] session.made)
    ∷ (codes "all", list_all (λ s. same_rows (set_after session.made s) (matching s.question (sent hub session s.question.name))) session.subscriptions)
    ∷ (codes "notes", list_all (λ s. points_rise s.question (map (λ m. m.note) session.made ++ note_of (newest hub) session ∷ [])) session.subscriptions)
    ∷ (codes "whole", list_all (λ s. nat_le s.filled (written session)) session.subscriptions)
    ∷ (codes "ends", first_answers_end session)
    ∷ [])

-- What lines have shown so far: the points of each client and question; and the newest point when each client was connected, the last one first.
pub record Observed : Type 0 where
  pub points : List (Word × Question × ℕ)
  pub starts : List (Word × ℕ)

abbrev pub start_of : Observed → Word → ℕ
start_of so_far w = elim (find (λ s. bytes_eq s.0 w) so_far.starts) [ None ↦ 0 | Some s ↦ s.1 ]

abbrev pub point_shown : Word → Question → Option ℕ → List (Word × Question × ℕ)
point_shown w question None = []
point_shown w question (Some p) = (w, question, p) ∷ []

abbrev pub connecting : Word → World → List (Word × ℕ)
connecting w world = elim (seat_of world w) [ None ↦ [] | Some seat ↦ if is_connected seat.client then [] else (w, newest world.hub) ∷ [] ]

abbrev pub observed_line : ScriptLine → World → Observed → Observed
observed_line (client_event w (client_events.Show question written)) world so_far = record so_far { points = so_far.points ++ point_shown w question (point_at world w question) }
observed_line (client_event w client_events.Open) world so_far = record so_far { starts = connecting w world ++ so_far.starts }
observed_line _ world so_far = so_far

-- each point of a client that was shown is at most this one of its question
abbrev pub shows_no_later : Observed → Word → (Question → ℕ) → Bool
shows_no_later so_far w point = list_all (λ p. not (bytes_eq p.0 w) || nat_le p.2 (point p.1)) so_far.points

abbrev pub is_since : ℕ → Note → Bool
is_since start n = nat_le start n.newest && list_all (λ e. nat_le start e.1) n.queue

abbrev pub is_from_server : Timers → Made → Bool
is_from_server timers m = elim (server_message m.message) [ None ↦ false | Some s ↦ bytes_eq m.message (server_octets timers s) ]

abbrev pub is_within_bounds : Seat → Session → Connection → Bool
is_within_bounds seat session c = nat_le (length seat.up_wire) max_wire && nat_le (length seat.down_wire) max_wire && nat_le (length c.input) max_input && nat_le (length session.input) max_input

abbrev pub unmet_of_connection : Observed → Hub → Seat → Session → Connection → List (List ℕ)
unmet_of_connection so_far hub seat session c =
    let taken = whole_within (seat.reached - length c.input) session.made in
    let rest = drop (length taken) session.made in
    let flying = filter_map flying_of rest in
    let up = messages_in (going_up session c seat.up_wire) in
    let ups = filter_map client_message up.0 in
    let start = start_of so_far seat.word in
    unmet_together (ends_of hub seat.filled session seat.client c) taken flying ups ++ unmet (
    (codes "made", list_all (is_from_server hub.timers) rest)
    ∷ (codes "whole_down", bytes_eq (going_down session c seat.down_wire) (flying_octets hub.timers flying))
    ∷ (codes "whole_up", not (is_open session.standing) || (is_empty up.1 && length ups == length up.0))
    ∷ (codes "reached", size_of_made taken + length c.input == seat.reached)
    ∷ (codes "waits", is_none (first_message c.input))
    ∷ (codes "unclosed", is_none c.closed)
    ∷ (codes "bounds", is_within_bounds seat session c)
    ∷ (codes "since", list_all (is_since start) (map (λ m. m.note) session.made ++ note_of (newest hub) session ∷ []))
    ∷ (codes "shown_before", shows_no_later so_far seat.word (point_taken start taken))
    ∷ [])

abbrev pub unmet_unconnected : Observed → Hub → Seat → List (List ℕ)
unmet_unconnected so_far hub seat = (if seat.is_lone then [] else unmet_of_wishes seat.client.wishes) ++ unmet (
    (codes "client", seat.is_lone || is_none seat.client.connection)
    ∷ (codes "wires", is_empty seat.up_wire && is_empty seat.down_wire && seat.reached == 0 && is_empty seat.filled)
    ∷ (codes "shown_before", shows_no_later so_far seat.word (λ question. newest hub))
    ∷ [])

abbrev pub unmet_of_seat : Observed → Hub → Seat → List (List ℕ)
unmet_of_seat so_far hub seat = elim seat.session [
  | None ↦ unmet_unconnected so_far hub seat
  | Some number ↦ elim (session_of hub number) [
    | None ↦ codes "there" ∷ []
    | Some session ↦ elim seat.client.connection [ None ↦ codes "connected" ∷ [] | Some c ↦ unmet_of_connection so_far hub seat session c ]
  ]
]

abbrev pub unmet_of_numbers : World → List (List ℕ)
unmet_of_numbers world =
    let words = map (λ s. s.word) world.seats ++ map (λ p. p.0) world.peers in
    unmet (
    (codes "numbers distinct", none_twice (numbers_of world))
    ∷ (codes "numbers below", list_all (λ n. nat_lt n world.hub.numbers_given) (numbers_of world))
    ∷ (codes "numbers all", count_together (numbers_of world) (map (λ e. e.0) world.hub.sessions) [])
    ∷ (codes "words", list_all (λ w. count_by (bytes_eq w) words == 1) words)
    ∷ [])

-- which sentences of a world aren't so, by name
abbrev pub unmet_in : Observed → World → List (List ℕ)
unmet_in so_far world = unmet_of_numbers world ++ flat_map (λ e. unmet_of_history world.hub e.1) world.hub.sessions ++ flat_map (unmet_of_seat so_far world.hub) world.seats

abbrev pub holds_from : List ScriptLine → World → Observed → Bool
holds_from [] world so_far = is_empty (unmet_in so_far world)
holds_from (line ∷ lines) world so_far = is_empty (unmet_in so_far world) && holds_from lines (line_does by_history line world).0 (observed_line line world so_far)

abbrev pub nothing_observed : Observed
nothing_observed = record { points = []; starts = [] }

abbrev pub holds_throughout : List ℕ → Bool
holds_throughout text = elim (script_of text) [ Err n ↦ false | Ok script ↦ holds_from script (start_world script) nothing_observed ]

-- both ways of telling what is held give one text
abbrev pub tells_one_text : List ℕ → Bool
tells_one_text text = elim (script_of text) [ Err n ↦ false | Ok script ↦ bytes_eq (text_of_script script) (text_by_notices script) ]

-- the clients and questions of a script
abbrev pub asked_in : List ScriptLine → List (Word × Question)
asked_in [] = []
asked_in (client_call w (calls.Ask q) ∷ lines) = (w, q) ∷ asked_in lines
asked_in (line ∷ lines) = asked_in lines

abbrev pub rises : List ℕ → Bool
rises [] = true
rises (n ∷ []) = true
rises (n ∷ m ∷ ns) = nat_le n m && rises (m ∷ ns)

abbrev pub same_told : ShowTold → ShowTold → Bool
same_told a b = bytes_eq a.0 b.0 && same_rows a.1 b.1

-- right after a settle a wanted question that is served shows the newest records
abbrev pub is_newest : World → Seat → Question → Bool
is_newest world seat q =
    not (is_wanted seat.client q) || not (is_served_at (state_now world.hub) q)
    || same_told (show_at by_history world seat q) (with_records (codes "held") (matching q (records_now world.hub)))

abbrev pub newest_if : Bool → World → Word → Question → Bool
newest_if settled world w q = not settled || (elim (seat_of world w) [ None ↦ true | Some seat ↦ is_newest world seat q ])

abbrev pub newest_from : Word → Question → Bool → List ScriptLine → World → Bool
newest_from w q settled [] world = newest_if settled world w q
newest_from w q settled (line ∷ lines) world =
    newest_if settled world w q && newest_from w q (settles_alone w line world || (settled && leaves_settled line)) lines (line_does by_history line world).0

abbrev pub says_nothing : Hub → ℕ → Bool
says_nothing hub number = elim (give hub number 1).given [ Nothing ↦ true | _ ↦ false ]

-- nothing is under way, and the session has nothing to say
abbrev pub is_quiet : Hub → Seat → Bool
is_quiet hub seat = elim seat.session [
  | None ↦ true
  | Some number ↦ elim (session_of hub number) [
    | None ↦ false
    | Some session ↦ elim seat.client.connection [ None ↦ false | Some c ↦ is_empty (going_up session c seat.up_wire) && is_empty (going_down session c seat.down_wire) && says_nothing hub number ]
  ]
]

abbrev pub quiet_at : World → Word → Bool
quiet_at world w = elim (seat_of world w) [ None ↦ true | Some seat ↦ is_quiet world.hub seat ]

abbrev pub quiet_behind : ScriptLine → World → World → Bool
quiet_behind (client_passing w ways.Settle) before after = not (settles_alone w (settle w) before) || quiet_at after w
quiet_behind line before after = true

-- each settle that prints its line alone leaves nothing under way
abbrev pub quiet_after_settles : List ScriptLine → World → Bool
quiet_after_settles [] world = true
quiet_after_settles (line ∷ lines) world = (let later = (line_does by_history line world).0 in quiet_behind line world later && quiet_after_settles lines later)

-- every reason of an end, and of a close, each that has a number with some number
abbrev pub end_reasons : List EndReason
end_reasons = ends.Short ∷ ends.Answer ∷ ends.Counts ∷ ends.Tlvs ∷ ends.Early ∷ ends.Misuse 0 ∷ ends.BadData 0 ∷ ends.Unknown 0 ∷ ends.IdInUse 0 ∷ ends.Twice 0
    ∷ ends.Silent ∷ ends.Idle ∷ ends.Stopped ∷ ends.Behind 0 ∷ ends.Gone ∷ []

abbrev pub close_reasons : List CloseReason
close_reasons = closes.Short ∷ closes.Opcode ∷ closes.Counts ∷ closes.Tlvs ∷ closes.Early ∷ closes.Idle ∷ closes.Stranger 0 ∷ closes.Misuse 0 ∷ closes.BadData 0 ∷ closes.Unknown 0
    ∷ closes.Interval 0 ∷ closes.Kept 0 ∷ closes.Delay 0 0 ∷ []

abbrev pub first_word : List ℕ → List ℕ
first_word [] = []
first_word (c ∷ cs) = if c == 32 then [] else c ∷ first_word cs

-- the ends and closes of a hub's client that no message makes, by the first words of their reasons
abbrev pub own_ends : Word → List (List ℕ)
own_ends w = map (λ reason. spaced (codes "end" ∷ w ∷ first_word (end_words reason) ∷ [])) (filter is_end_by_itself end_reasons)
    ++ map (λ reason. spaced (codes "closed" ∷ w ∷ first_word (close_words reason) ∷ [])) (filter is_close_by_itself close_reasons)

abbrev pub begins_with : List ℕ → List ℕ → Bool
begins_with line front = starts_with (λ a b. a == b) line front

abbrev pub tells_an_end : Word → List ℕ → Bool
tells_an_end w line = begins_with line (codes "end " ++ w ++ 32 ∷ []) || begins_with line (codes "closed " ++ w ++ 32 ∷ [])

-- each end and close that is told of a hub's client is one of these
abbrev pub ends_by_itself : List (List ℕ) → Seat → Bool
ends_by_itself lines seat = seat.is_lone || list_all (λ l. not (tells_an_end seat.word l) || list_any (begins_with l) (own_ends seat.word)) lines

abbrev pub no_message_ends : List ScriptLine → World → Bool
no_message_ends [] world = true
no_message_ends (line ∷ lines) world = (let one = line_does by_history line world in list_all (ends_by_itself one.1) world.seats && no_message_ends lines one.0)

-- no point falls, what is shown right after a settle is the newest, a settle leaves nothing under way, and no message ends or closes
abbrev pub keeps_promises : List ℕ → Bool
keeps_promises text = elim (script_of text) [
  | Err n ↦ false
  | Ok script ↦ quiet_after_settles script (start_world script) && no_message_ends script (start_world script) && list_all (λ a. rises (held_points script a.0 a.1) && newest_from a.0 a.1 false script (start_world script)) (asked_in script)
]
