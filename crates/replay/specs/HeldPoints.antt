-- What the text says of one client and question, over a whole script.
--     held_points script w question      the points of the `held` lines, in order
--     settled_from w so_far lines world      whether the client has settled after these lines, and only lines that change nothing came since
--     NeverEarlier      no `held` line shows an earlier point than one before it
use Rattle.std.specs.Prelude.{ℕ, Bool, true, false, not, ◌&&◌, ◌||◌, List, [], ◌∷◌, ◌++◌, length, Option, Some, None, ◌==◌, option_map, option_to_list, if◌then◌else◌}
use Rattle.std.specs.List.Sorted.{IsNonDecreasing}
use Rattle.std.specs.Str.{bytes_eq}
use Rattle.rrset.specs.Records.{same_question}
use Rattle.rrset.specs.declared.record.Question.{Question}
use Rattle.pushserver.specs.PlainHubs.{Note, told}
use Rattle.pushclient.specs.Clients.{Held, set_held, held, is_connected}
use Rattle.scripts.specs.Lines.{Word, ScriptLine, silent, hub_event, client_passing, client_event, settle}
use Rattle.scripts.specs.declared.line.HubEvent.TheVariants as hub_events
use Rattle.scripts.specs.declared.line.Way.TheVariants as ways
use Rattle.scripts.specs.declared.line.ClientEvent.TheVariants as client_events
use Rattle.replay.specs.World.{Seat, World, seat_of, start_world}
use Rattle.replay.specs.TextWords.{by_history, note_in, is_filling}
use Rattle.replay.specs.Text.{line_does}

-- the point that a client's `held` line shows, where it would show one
abbrev pub point_of_note : Question → Option Note → Option ℕ
point_of_note question note = option_map (λ n. told n question.name) note

abbrev pub point_of_held : Held → World → Seat → Question → Option ℕ
point_of_held (set_held id set) world seat question = if seat.is_lone || is_filling seat id then None else point_of_note question (note_in world.hub seat)
point_of_held _ world seat question = None

abbrev pub point_at : World → Word → Question → Option ℕ
point_at world w question = elim (seat_of world w) [ None ↦ None | Some seat ↦ point_of_held (held seat.client question) world seat question ]

abbrev pub is_show_of : Word → Question → ScriptLine → Bool
is_show_of w question (client_event v (client_events.Show q written)) = bytes_eq w v && same_question question q
is_show_of w question _ = false

abbrev pub held_points_from : Word → Question → List ScriptLine → World → List ℕ
held_points_from w question [] world = []
held_points_from w question (line ∷ lines) world =
    (if is_show_of w question line then option_to_list (point_at world w question) else []) ++ held_points_from w question lines (line_does by_history line world).0

abbrev pub held_points : List ScriptLine → Word → Question → List ℕ
held_points script w question = held_points_from w question script (start_world script)

-- no `held` line shows an earlier point than one before it
abbrev pub NeverEarlier : List ScriptLine → Word → Question → Type 0
NeverEarlier script w question = IsNonDecreasing (held_points script w question)

-- a settle of the connected client that printed its line alone
abbrev pub settles_alone : Word → ScriptLine → World → Bool
settles_alone w (client_passing v ways.Settle) world = bytes_eq w v && length (line_does by_history (settle v) world).1 == 1 && (elim (seat_of world v) [ None ↦ false | Some seat ↦ not seat.is_lone && is_connected seat.client ])
settles_alone w _ world = false

abbrev pub leaves_settled : ScriptLine → Bool
leaves_settled silent = true
leaves_settled (hub_event hub_events.Point) = true
leaves_settled (client_event v (client_events.Show question written)) = true
leaves_settled _ = false

abbrev pub settled_from : Word → Bool → List ScriptLine → World → Bool
settled_from w so_far [] world = so_far
settled_from w so_far (line ∷ lines) world = settled_from w (settles_alone w line world || (so_far && leaves_settled line)) lines (line_does by_history line world).0
