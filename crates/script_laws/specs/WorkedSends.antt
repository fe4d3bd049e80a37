-- A script in which a peer's second SUBSCRIBE comes in a later line, behind an update, and is answered there.
use Rattle.std.specs.Prelude.{ℕ, true, List, [], ◌∷◌, ◌++◌, codes}
use Rattle.push_base.specs.Hexadecimal.{hex}
use Rattle.dnsname.specs.Text.{name}
use Rattle.dsotlv.specs.Messages.{frame}
use Rattle.pushserver.specs.Worked.{named, subscribe}
use Rattle.scripts.specs.Lines.{Word, zone, ScriptLine, head_line, hub_event, send}
use Rattle.scripts.specs.declared.line.HubEvent.TheVariants as hub_events
use Rattle.replay.specs.World.{World, start_world}
use Rattle.replay.specs.TextWords.{by_history}
use Rattle.replay.specs.Text.{line_does, world_after}

abbrev pub peer : Word
peer = codes "p"

-- an address for `a.example.com.` (RFC 2136)
abbrev pub address : List ℕ
address = hex (codes "000128000001000000010000076578616d706c6503636f6d00000600010161c00c000100010000003c0004c0000201")

-- a SUBSCRIBE for the addresses of `a.example.com.`, of which there are none yet, and one for the SOA
abbrev pub first_sent : List ℕ
first_sent = frame (subscribe 1 (named (codes "a.example.com.")) 1)

abbrev pub second_sent : List ℕ
second_sent = frame (subscribe 2 (named (codes "example.com.")) 6)

abbrev pub lines_before : List ScriptLine
lines_before = head_line (zone (name (codes "example.com.")) 1 true) ∷ send peer first_sent ∷ hub_event (hub_events.Update address) ∷ []

abbrev pub world_before : World
world_before = world_after lines_before (start_world (lines_before ++ send peer second_sent ∷ []))

abbrev pub second_line : List (List ℕ)
second_line = (line_does by_history (send peer second_sent) world_before).1
