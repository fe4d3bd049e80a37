-- The promise to who sends its octets in pieces has scripts of which it speaks: one with a zone and a peer whose SUBSCRIBE comes in two lines, cut in the midst of its header; between them stand a comment, a point, and a line of another peer.
-- And one whose message of a single octet, too short for a header, comes in two lines with a point between, so that the second ends the session.
use Rattle.std.proofs.Common.{◌≡◌, ℕ, Bool, true, cond, List, [], ◌∷◌, ◌++◌, map, take, drop, codes, Option, Some, None, refl, ap, arith}
use Rattle.std.specs.Fmt.{digits}
use Rattle.std.specs.Str.{is_utf8}
use Rattle.std.proofs.lemmas.Str.{is_utf8-from_IsUtf8}
use Rattle.push_base.specs.Hexadecimal.{hex}
use Rattle.dnsname.specs.Text.{name}
use Rattle.dsosession.specs.declared.session.EndReason.TheVariants as ends
use Rattle.pushsession.specs.Sessions.{new_session}
use Rattle.pushserver.specs.PlainHubs.{plain_keeps}
use Rattle.pushserver.specs.Hubs.{connect}
use Rattle.hubasking.specs.LinkAskings.{Askings}
use Rattle.scripts.specs.Lines.{ScriptLine, silent, zone, head_line, hub_event, send}
use Rattle.scripts.specs.declared.line.HubEvent.TheVariants as hub_events
use Rattle.scripts.specs.Scripts.{nothing_known, lines_from, client_words, lines_read}
use Rattle.replay.specs.World.{World, start_world}
use Rattle.replay.specs.TextWords.{by_notices}
use Rattle.replay.specs.Text.{world_after}
use Rattle.replay.specs.Askings.{lines_asks, start_askings}
use Rattle.replay.specs.ScriptPieces.{Turn, SentInPieces, sent_between, answered_to_first, SendsPieces, printed_turns}
use Rattle.replay.specs.Between.{lines_of}
use Rattle.replay.proofs.worlds.ClientOutputs.{all_octets}
use Rattle.scripts.proofs.lines.LineWords.{word_utf8}
use Rattle.replay.proofs.serving.WorkedServing.{frame_sent}

abbrev script : List ℕ
script =
    codes "zone example.com. 1 open" ++ 10 ∷ (codes "send p 00210001300000" ++ 10 ∷ (codes "#others" ++ 10 ∷ (codes "point" ++ 10 ∷ (codes "send q 002100" ++ 10 ∷ (codes "send p 0000000000000000400011076578616d706c6503636f6d0000060001" ++ 10 ∷ [])))))

abbrev before : List ScriptLine
before = head_line (zone (name (codes "example.com.")) 1 true) ∷ []

abbrev turns : List Turn
turns = (take 7 frame_sent, silent ∷ hub_event hub_events.Point ∷ send (codes "q") (take 3 frame_sent) ∷ []) ∷ (drop 7 frame_sent, []) ∷ []

-- the world behind the zone, what links are asked there, and the world with the peer's session
abbrev earlier : World
earlier = world_after before (start_world before)

abbrev asked : Askings
asked = lines_asks before (start_world before) (start_askings before)

abbrev connected : World
connected = record earlier { hub = (connect earlier.hub).1; peers = (codes "p", 0) ∷ [] }

abbrev sent : SentInPieces
sent = record { before = before; word = codes "p"; turns = turns; over = None; behind = []; number = 0; world = connected; session = new_session (plain_keeps 0) 0 }

-- NOERROR, and the zone's SOA
abbrev answers_text : List ℕ
answers_text =
    codes "000c0001b000000000000000000000630000300000000000000000000041005307" ++ codes "6578616d706c6503636f6d000006000100000e10003c026e73076578616d706c65"
    ++ codes "03636f6d000a686f73746d6173746572076578616d706c6503636f6d00000000" ++ codes "0100000e1000000258000151800000003c"

abbrev answers : List ℕ
answers = hex answers_text

-- the comment is text, so its line is read
is_text : is_utf8 (codes "others") ≡ true
is_text = is_utf8-from_IsUtf8 (codes "others") (word_utf8 (codes "others") refl)

abbrev with_comment : Bool → List (Option ScriptLine)
with_comment is_inside =
    Some (head_line (zone (name (codes "example.com.")) 1 true)) ∷ Some (send (codes "p") (take 7 frame_sent)) ∷ cond is_inside (Some silent) None ∷ Some (hub_event hub_events.Point) ∷ Some (send (codes "q") (take 3 frame_sent)) ∷ Some (send (codes "p") (drop 7 frame_sent)) ∷ []

lines : lines_read script ≡ map Some (lines_of (sent_between sent))
lines = ap with_comment is_text

sends : SendsPieces script sent
sends = record {
  read = ap (λ (os : List (Option ScriptLine)). lines_from (client_words os) nothing_known 1 os) lines;
  place = refl;
  rest = record { there = refl; standing = refl; queue = refl; output = refl; waits = refl };
  passable = (all_octets frame_sent refl, omega arith);
  others = (refl, (refl, tt));
  no_entry = refl;
  over = refl;
  not_before = λ over. absurd cc;
}

-- nothing is told of the first piece, and the whole answer of the second
first_told : (answered_to_first 1 sent).0 ≡ []
first_told = refl

both_told : (answered_to_first 2 sent).0 ≡ answers
both_told = refl

-- the line of the other peer stands between these two, behind the point
printed : printed_turns by_notices (codes "p") None turns ([] ∷ answers ∷ []) earlier asked ≡ codes "bytes p -" ∷ codes "point 0 0" ∷ codes "bytes q -" ∷ (codes "bytes p " ++ answers_text) ∷ []
unfolding digits
printed = refl

-- ---- a session that ends

abbrev short_script : List ℕ
short_script = codes "zone example.com. 1 open" ++ 10 ∷ (codes "send p 0001" ++ 10 ∷ (codes "point" ++ 10 ∷ (codes "send p 00" ++ 10 ∷ [])))

abbrev short_turns : List Turn
short_turns = (0 ∷ 1 ∷ [], hub_event hub_events.Point ∷ []) ∷ (0 ∷ [], []) ∷ []

abbrev sent_short : SentInPieces
sent_short = record { before = before; word = codes "p"; turns = short_turns; over = Some ends.Short; behind = []; number = 0; world = connected; session = new_session (plain_keeps 0) 0 }

sends_short : SendsPieces short_script sent_short
sends_short = record {
  read = refl;
  place = refl;
  rest = record { there = refl; standing = refl; queue = refl; output = refl; waits = refl };
  passable = (all_octets (0 ∷ 1 ∷ 0 ∷ []) refl, omega arith);
  others = (refl, (refl, tt));
  no_entry = refl;
  over = refl;
  not_before = λ over. refl;
}

-- nothing is told of its octets, and the end behind the second
printed_short : printed_turns by_notices (codes "p") (Some ends.Short) short_turns ([] ∷ [] ∷ []) earlier asked ≡ codes "bytes p -" ∷ codes "point 0 0" ∷ codes "bytes p -" ∷ codes "end p short" ∷ []
unfolding digits
printed_short = refl
