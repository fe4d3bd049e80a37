-- What the links of a server are asked while a script runs: what its sessions ask, and rows that are reconfirmed (RFC 8766, 5.6; RFC 8765, 6.5).
-- It stands beside the world, which it doesn't change; only a line `asks WORD` tells it, and asks what is due at that moment.
--     calls_asks calls hub askings      behind calls of this hub
--     link_asks event w world askings, line_asks line world askings, lines_asks lines world askings      behind an event on a link, a line, and lines
--     start_askings script      before all events
--     AreOrdered askings      the questions of each link stand in their order
--     asked_words w datagrams, asked_lines line world askings      what is printed where a link is asked these; what a line prints of what a link is asked
use Rattle.std.specs.Prelude.{ℕ, List, [], ◌∷◌, map, length, IsTrue, codes, decimal}
use Rattle.std.specs.List.{AllByRecursion}
use Rattle.linkask.specs.Asking.{are_in_order}
use Rattle.pushserver.specs.Calls.{HubCall, called}
use Rattle.pushserver.specs.Hubs.{state_now}
use Rattle.pushserver.specs.PlainHubs.{Hub}
use Rattle.hubasking.specs.LinkAskings.{Askings, new_askings, plain_questions, asking_after, asks_all}
use Rattle.scripts.specs.Heads.{empty_head, head_behind}
use Rattle.scripts.specs.Lines.{Word, ScriptLine, link_event}
use Rattle.scripts.specs.Words.{spaced, octets_text}
use Rattle.scripts.specs.declared.line.LinkEvent.{LinkEvent}
use Rattle.scripts.specs.declared.line.LinkEvent.TheVariants as link_events
use Rattle.replay.specs.World.{World}
use Rattle.replay.specs.TextWords.{by_history}
use Rattle.replay.specs.Text.{link_number, link_calls, line_does}
use Rattle.replay.specs.LineCalls.{line_calls}

-- one call of the hub after the other
abbrev pub calls_asks : List HubCall → Hub → Askings → Askings
calls_asks [] hub askings = askings
calls_asks (call ∷ calls) hub askings = calls_asks calls (called call hub) (asking_after plain_questions call hub askings)

abbrev pub start_askings : List ScriptLine → Askings
start_askings script = new_askings (head_behind empty_head script).start

-- a line that asks makes no call of the hub
abbrev pub link_asks : LinkEvent → Word → World → Askings → Askings
link_asks link_events.Asks w world askings = (asks_all (state_now world.hub) askings (link_number w world)).1
link_asks event w world askings = calls_asks (link_calls event w world) world.hub askings

abbrev pub line_asks : ScriptLine → World → Askings → Askings
line_asks (link_event w event) world askings = link_asks event w world askings
line_asks line world askings = calls_asks (line_calls line world) world.hub askings

abbrev pub lines_asks : List ScriptLine → World → Askings → Askings
lines_asks [] world askings = askings
lines_asks (line ∷ lines) world askings = lines_asks lines (line_does by_history line world).0 (line_asks line world askings)

-- the questions of each link stand in their order
abbrev pub AreOrdered : Askings → Type 0
AreOrdered askings = AllByRecursion (λ a. IsTrue (are_in_order a.wanted)) askings

-- the number of datagrams, and each of them
abbrev pub asked_words : Word → List (List ℕ) → List (List ℕ)
asked_words w datagrams = spaced (codes "asks" ∷ w ∷ decimal (length datagrams) ∷ []) ∷ map (λ o. spaced (codes "out" ∷ octets_text o ∷ [])) datagrams

abbrev pub told_on_link : LinkEvent → Word → World → Askings → List (List ℕ)
told_on_link link_events.Asks w world askings = asked_words w (asks_all (state_now world.hub) askings (link_number w world)).0
told_on_link event w world askings = []

abbrev pub asked_lines : ScriptLine → World → Askings → List (List ℕ)
asked_lines (link_event w event) world askings = told_on_link event w world askings
asked_lines line world askings = []
