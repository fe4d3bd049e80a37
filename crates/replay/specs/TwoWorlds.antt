-- Two worlds side by side: each line goes to the one that it concerns, a moment to both, and a carry reads the first and is an update of the second.
--     Worlds, start_worlds script      the two worlds, and the order of their clients; those behind the head lines
--     held_of records world w name      what a client is shown to hold of all at a name
--     carry_of records worlds w name      what becomes of it
--     far_line_at records worlds line      what a line is to the second hub
--     woven order xs ys      two lists as one, by turns
--     lines_do records line worlds      the worlds after a line, and the lines that it prints
--     worlds_after records lines worlds, far_lines_after records lines worlds      the worlds after lines, and what the lines are to the second hub
use Rattle.std.specs.Prelude.{ℕ, Bool, true, false, List, [], ◌∷◌, ◌++◌, flat_map, Option, Some, None, codes, decimal, if◌then◌else◌}
use Rattle.dnsname.specs.Names.{Labels}
use Rattle.rrset.specs.RecordSet.{RecordSet}
use Rattle.rrset.specs.declared.record.Question.{Question}
use Rattle.pushserver.specs.Hubs as hubs
use Rattle.pushserver.specs.Hubs.{now}
use Rattle.pushclient.specs.Clients.{Held, set_held, held}
use Rattle.relay.specs.Relay.{relayed}
use Rattle.relay.specs.declared.relay.Relayed.{Relayed}
use Rattle.relay.specs.declared.relay.Relayed.TheVariants.{Apex, Outside, Unfit, Message}
use Rattle.scripts.specs.Lines.{Word, ScriptLine, silent, joining, hub_event}
use Rattle.scripts.specs.declared.line.HubEvent.TheVariants.{At, Update}
use Rattle.scripts.specs.Words.{spaced}
use Rattle.scripts.specs.WholeLines.{WholeLine, one, far_zone, far_client, carry, near_of, far_of, all_at, fars_behind, is_far_in}
use Rattle.scripts.specs.WholeScripts.{apex_in, near_lines, far_heads}
use Rattle.replay.specs.World.{World, Seat, start_world, seat_of}
use Rattle.replay.specs.TextWords.{HeldRecords, is_filling}
use Rattle.replay.specs.Text.{closes_of, line_does}

-- the name of the second hub's zone, if there is a second hub, the words of its clients, the two worlds, and of each client in the order of all whether it is one of the second hub
pub record Worlds : Type 0 where
  pub apex : Option Labels
  pub fars : List Word
  pub near : World
  pub far : World
  pub order : List Bool

abbrev pub start_worlds : List WholeLine → Worlds
start_worlds script = record { apex = apex_in script; fars = []; near = start_world (near_lines script); far = start_world (far_heads script); order = [] }

-- what a line is to the first hub
abbrev pub near_line_at : Worlds → WholeLine → ScriptLine
near_line_at worlds line = near_of (is_far_in worlds.fars) line

-- ---- a carry

-- where a question is shown as held, the records that are shown
abbrev pub set_of_held : HeldRecords → World → Seat → Question → Held → Option RecordSet
set_of_held records world seat question (set_held id set) = if seat.is_lone then None else if is_filling seat id then None else Some (records world.hub seat question set)
set_of_held records world seat question _ = None

abbrev pub held_of : HeldRecords → World → Word → Labels → Option RecordSet
held_of records world w name = elim (seat_of world w) [ None ↦ None | Some seat ↦ set_of_held records world seat (all_at name) (held seat.client (all_at name)) ]

abbrev pub relayed_of : Option Labels → Labels → Option RecordSet → Option Relayed
relayed_of (Some apex) name (Some set) = Some (relayed apex name set 0)
relayed_of _ name _ = None

abbrev pub carry_of : HeldRecords → Worlds → Word → Labels → Option Relayed
carry_of records worlds w name = relayed_of worlds.apex name (held_of records worlds.near w name)

abbrev pub line_of_relayed : Option Relayed → ScriptLine
line_of_relayed (Some (Message octets)) = hub_event (Update octets)
line_of_relayed _ = silent

-- the words of what becomes of it; with an RCODE of the second hub's, where it answers
abbrev pub relayed_words : Option Relayed → World → List ℕ
relayed_words None far = codes "off"
relayed_words (Some Apex) far = codes "apex"
relayed_words (Some Outside) far = codes "outside"
relayed_words (Some (Unfit kind)) far = spaced (codes "unfit" ∷ decimal kind ∷ [])
relayed_words (Some (Message octets)) far = decimal (hubs.update far.hub octets).0

abbrev pub carry_words : HeldRecords → Worlds → Word → Labels → List ℕ → List (List ℕ)
carry_words records worlds w name written = codes "carry" ∷ w ∷ written ∷ relayed_words (carry_of records worlds w name) worlds.far ∷ []

-- what the line is to the second hub
abbrev pub far_line_at : HeldRecords → Worlds → WholeLine → ScriptLine
far_line_at records worlds (carry w name written) = line_of_relayed (carry_of records worlds w name)
far_line_at records worlds line = far_of (is_far_in worlds.fars) line

-- ---- what is printed

-- two lists as one: where the order has true, the next of the second, if there is one, and else that of the first; what is left of either stands behind
abbrev pub woven : {X : Type 0} → List Bool → List X → List X → List X
woven [] xs ys = xs ++ ys
woven (true ∷ order) xs [] = woven order xs []
woven (true ∷ order) xs (y ∷ ys) = y ∷ woven order xs ys
woven (false ∷ order) [] ys = woven order [] ys
woven (false ∷ order) (x ∷ xs) ys = x ∷ woven order xs ys

-- of each client in its order the line of its close at a moment, if it closes
abbrev pub closes_at : ℕ → World → List (List (List ℕ))
closes_at t world = closes_of (now (hubs.moment world.hub t)) world.seats

-- the closes of both hubs' clients, in the order of all clients
abbrev pub closes_of_both : ℕ → Worlds → List (List ℕ)
closes_of_both t worlds = flat_map (λ (lines : List (List ℕ)). lines) (woven worlds.order (closes_at t worlds.near) (closes_at t worlds.far))

abbrev pub printed_of_one : ScriptLine → Worlds → List (List ℕ) → List (List ℕ)
printed_of_one (hub_event (At t)) worlds printed = closes_of_both t worlds
printed_of_one line worlds printed = printed

abbrev pub printed_of : HeldRecords → WholeLine → Worlds → List (List ℕ) → List (List ℕ) → List (List ℕ)
printed_of records (one line) worlds near far = printed_of_one line worlds (near ++ far)
printed_of records (far_zone apex serial) worlds near far = []
printed_of records (far_client w) worlds near far = []
printed_of records (carry w name written) worlds near far = spaced (carry_words records worlds w name written) ∷ []

abbrev pub order_behind_one : List Bool → ScriptLine → List Bool
order_behind_one order (joining w is_lone) = order ++ false ∷ []
order_behind_one order line = order

abbrev pub order_behind : List Bool → WholeLine → List Bool
order_behind order (one line) = order_behind_one order line
order_behind order (far_client w) = order ++ true ∷ []
order_behind order _ = order

abbrev pub lines_do : HeldRecords → WholeLine → Worlds → Worlds × List (List ℕ)
lines_do records line worlds =
    let near = line_does records (near_line_at worlds line) worlds.near in
    let far = line_does records (far_line_at records worlds line) worlds.far in
    (record worlds { fars = fars_behind worlds.fars line; near = near.0; far = far.0; order = order_behind worlds.order line }, printed_of records line worlds near.1 far.1)

-- ---- lines one behind another

abbrev pub worlds_after : HeldRecords → List WholeLine → Worlds → Worlds
worlds_after records [] worlds = worlds
worlds_after records (line ∷ lines) worlds = worlds_after records lines (lines_do records line worlds).0

-- what the lines are to the second hub, carries among them
abbrev pub far_lines_after : HeldRecords → List WholeLine → Worlds → List ScriptLine
far_lines_after records [] worlds = []
far_lines_after records (line ∷ lines) worlds = far_line_at records worlds line ∷ far_lines_after records lines (lines_do records line worlds).0
