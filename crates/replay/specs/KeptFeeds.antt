-- Octets to a client where it stands.
--     fed_seat octets closing seat      the seat behind octets, where its client has closed, or hasn't
--     fed_text w told closing      what was handed out, and why the client closed, if it did, as text
--     HasFed octets told closing before later seat      what the client handed out, why it closed, if it did, and the hub then
use Rattle.std.specs.Prelude.{◌≡◌, ℕ, cond, List, [], ◌∷◌, Option, None}
use Rattle.dsosession.specs.declared.session.CloseReason.{CloseReason}
use Rattle.pushserver.specs.PlainHubs.{Hub}
use Rattle.hubasking.specs.AskingHubs.{AskingHub}
use Rattle.pushclient.specs.Clients.{closed_as, output_of}
use Rattle.scripts.specs.Lines.{Word}
use Rattle.replay.specs.World.{Seat, with_client, is_over, cut_if, hub_cut_if}
use Rattle.replay.specs.PassedOctets.{reached_by, fed_client}
use Rattle.replay.specs.TextWords.{bytes_line}
use Rattle.replay.specs.LineCalls.{end_calls}
use Rattle.replay.specs.KeptAskings.{StandsFor, AsksAfter}
use Rattle.replay.specs.Text.{close_lines}
use Rattle.scripts.specs.Words.{ended_lines}

-- where the client has closed, its connection is cut
abbrev pub fed_seat : List ℕ → Option CloseReason → Seat → Seat
fed_seat octets closing seat = cut_if (is_over None closing) (with_client (fed_client octets) seat)

-- this was handed out; the client has closed, or hasn't, and its session is gone where it has
pub record HasFed (octets told : List ℕ) (closing : Option CloseReason) (before later : AskingHub) (seat : Seat) : Type 0 where
  pub handed_out : told ≡ output_of (reached_by octets seat.client)
  pub closes : closing ≡ closed_as (fed_client octets seat.client)
  pub hub : (hub : Hub) → StandsFor before hub → StandsFor later (hub_cut_if (is_over None closing) seat hub) × AsksAfter (cond (is_over None closing) (end_calls seat.session) []) hub before.askings later.askings

-- the lines of what was handed out, and of a client that has closed
abbrev pub fed_text : Word → List ℕ → Option CloseReason → List ℕ
fed_text w told closing = ended_lines (bytes_line w told ∷ close_lines w closing)
