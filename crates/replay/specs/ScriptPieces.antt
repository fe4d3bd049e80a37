-- What a script tells of the pieces in which a peer sends its octets, as long as no entry is made.
--     SentInPieces      a peer's word, the pieces that it sends in lines with those of others between them, its session, and the lines before and behind
--     sent_between sent      these lines between the others
--     SendsPieces script sent      these are the lines of the script, no entry is made, and the session goes on, or ends with the last piece
--     TellsInTurn sent told      what is told of each piece answers the messages that it completes
--     pieces_reply records sent told      the status and the text, where this is told
--     LeavesPeer sent over      how the peer's session is left: as it has answered all messages, or gone
--     OneTextForEveryCut      as long as no entry is made, the same octets to the same session are told the same, and leave it alike, however they are cut and whatever others do
use Rattle.std.specs.Prelude.{◌≡◌, ℕ, ◌-◌, ◌≤◌, Bool, true, not, List, [], ◌∷◌, ◌++◌, map, take, length, flat_map, Option, Some, None, IsSome, option_map, Ok}
use Rattle.std.specs.List.{concat, list_all, AllByRecursion}
use Rattle.std.specs.Str.{bytes_eq}
use Rattle.dsosession.specs.declared.session.EndReason.{EndReason}
use Rattle.dsotlv.specs.Messages.{messages_in}
use Rattle.pushsession.specs.declared.session_status.SessionStatus.{SessionStatus}
use Rattle.pushsession.specs.declared.session_status.SessionStatus.TheVariants.{Live, Ended}
use Rattle.pushsession.specs.Sessions.{without_first}
use Rattle.pushserver.specs.PlainHubs.{Session, Hub}
use Rattle.pushserver.specs.Hubs.{session_of}
use Rattle.scripts.specs.Lines.{Word, ScriptLine, session_event, send}
use Rattle.scripts.specs.Scripts.{script_of}
use Rattle.replay.specs.World.{World, session_number}
use Rattle.replay.specs.TextWords.{bytes_line, HeldRecords, by_history}
use Rattle.replay.specs.Text.{end_lines, placed, line_does, world_after}
use Rattle.hubasking.specs.LinkAskings.{Askings}
use Rattle.replay.specs.Askings.{line_asks, lines_asks}
use Rattle.replay.specs.ScriptTexts.{printed_by}
use Rattle.replay.specs.SessionPieces.{IsAtRest, ArePassable, answers_to, standing_of}
use Rattle.scripts.specs.Reply.{Reply}
use Rattle.replay.specs.Between.{Between, lines_of, world_then, world_behind, askings_then, reply_between}

-- whether a line neither sends a peer's octets, nor stops its session, nor cuts its connection
abbrev pub is_of_others : Word → ScriptLine → Bool
is_of_others w (session_event v event) = not (bytes_eq v w)
is_of_others w _ = true

-- a piece, and the lines of others behind it
abbrev pub Turn : Type 0
Turn = List ℕ × List ScriptLine

-- The number of the peer's session, the world with it, and the session are those behind the lines before: its own, or a new one. Why
-- it ends with the last piece, if it does.
pub record SentInPieces : Type 0 where
  pub before : List ScriptLine
  pub word : Word
  pub turns : List Turn
  pub over : Option EndReason
  pub behind : List ScriptLine
  pub number : ℕ
  pub world : World
  pub session : Session

abbrev pub pieces_of : SentInPieces → List (List ℕ)
pieces_of sent = map (λ t. t.0) sent.turns

-- a line for each piece, and behind it those of others
abbrev pub lines_sent : SentInPieces → List ScriptLine
lines_sent sent = flat_map (λ t. send sent.word t.0 ∷ t.1) sent.turns

-- these lines, between the others
abbrev pub sent_between : SentInPieces → Between
sent_between sent = record { before = sent.before; lines = lines_sent sent; behind = sent.behind }

-- what the session answers to the whole messages in its input and the first pieces, and the hub after them
abbrev pub answered_to_first : ℕ → SentInPieces → List ℕ × Hub
answered_to_first n sent = answers_to sent.number (messages_in (sent.session.input ++ concat (take n (pieces_of sent)))).0 sent.world.hub

-- the whole messages in its input and all pieces, and the octets behind them
abbrev pub messages_sent : SentInPieces → List (List ℕ) × List ℕ
messages_sent sent = messages_in (sent.session.input ++ concat (pieces_of sent))

-- what it answers to these, and the hub after them
abbrev pub answered_to_all : SentInPieces → List ℕ × Hub
answered_to_all sent = answers_to sent.number (messages_sent sent).0 sent.world.hub

-- a session that goes on, and one that has ended
abbrev pub standing_with : Option EndReason → SessionStatus
standing_with None = Live
standing_with (Some reason) = Ended reason

-- The peer's session is at rest; the lines between are of others; no entry is made until the last of them is done; and behind the
-- whole messages in its input and all pieces the session goes on, or has ended so, and not before the last piece.
pub record SendsPieces (script : List ℕ) (sent : SentInPieces) : Type 0 where
  pub read : script_of script ≡ Ok (lines_of (sent_between sent))
  pub place : placed sent.word (world_then (sent_between sent)) ≡ Some (sent.number, sent.world)
  pub rest : IsAtRest sent.world.hub sent.number sent.session
  pub passable : ArePassable (concat (pieces_of sent))
  pub others : AllByRecursion (λ t. list_all (is_of_others sent.word) t.1 ≡ true) sent.turns
  pub no_entry : (world_behind (sent_between sent)).hub.history ≡ sent.world.hub.history
  pub over : standing_of (answered_to_all sent).1 sent.number ≡ Some (standing_with sent.over)
  pub not_before : IsSome sent.over → standing_of (answered_to_first (length sent.turns - 1) sent).1 sent.number ≡ Some Live

-- for each piece something is told; and what is told of the first pieces, together, is the answers to the whole messages in the input and these
pub record TellsInTurn (sent : SentInPieces) (told : List (List ℕ)) : Type 0 where
  pub count : length told ≡ length sent.turns
  pub turns : (n : ℕ) → concat (take n told) ≡ (answered_to_first n sent).0

-- the end is told behind the last piece
abbrev pub end_behind : List Turn → Option EndReason → Option EndReason
end_behind [] over = over
end_behind (turn ∷ turns) over = None

-- a line with each of these, behind the last the line of the end, if there is one, and then what the lines of others print
abbrev pub printed_turns : HeldRecords → Word → Option EndReason → List Turn → List (List ℕ) → World → Askings → List (List ℕ)
printed_turns records w over [] told world askings = []
printed_turns records w over (turn ∷ turns) [] world askings = []
printed_turns records w over (turn ∷ turns) (octets ∷ told) world askings =
    let later = (line_does by_history (send w turn.0) world).0 in
    let asked = line_asks (send w turn.0) world askings in
    bytes_line w octets ∷ (end_lines w (end_behind turns over) ++ (printed_by records turn.1 later asked ++ printed_turns records w over turns told (world_after turn.1 later) (lines_asks turn.1 later asked)))

abbrev pub pieces_reply : HeldRecords → SentInPieces → List (List ℕ) → Reply
pieces_reply records sent told = reply_between records (sent_between sent) (printed_turns records sent.word sent.over sent.turns told (world_then (sent_between sent)) (askings_then (sent_between sent)))

-- Behind its lines the peer has the session that has answered all messages, with the octets behind them in its input; or, where that
-- has ended, it has none, and the session is gone.
abbrev pub LeavesPeer : SentInPieces → Option EndReason → Type 0
LeavesPeer sent None = (session_number (world_behind (sent_between sent)) sent.word ≡ Some sent.number)
    × (session_of (world_behind (sent_between sent)).hub sent.number ≡ option_map (without_first (messages_sent sent).1) (session_of (answered_to_all sent).1 sent.number))
LeavesPeer sent (Some reason) = (session_number (world_behind (sent_between sent)) sent.word ≡ None) × (session_of (world_behind (sent_between sent)).hub sent.number ≡ None)

abbrev pub PiecesLeavePeers : Type 0
PiecesLeavePeers = (script : List ℕ) (sent : SentInPieces) → SendsPieces script sent → 1 ≤ length sent.turns → LeavesPeer sent sent.over

-- The same octets to the same session of the same hub, in whatever pieces, with whatever lines of others between. Where the first
-- pieces end the session, the last of the second may bring more behind that end.
pub record SendTheSame (first second : SentInPieces) : Type 0 where
  pub some : (1 ≤ length first.turns) × (1 ≤ length second.turns)
  pub hub : first.world.hub ≡ second.world.hub
  pub number : first.number ≡ second.number
  pub more : List ℕ
  pub octets : concat (pieces_of first) ++ more ≡ concat (pieces_of second)
  pub none_more : first.over ≡ None → more ≡ []

-- the same octets are told, the session ends for the same reason or goes on in both, and is left the same
pub record TellTheSame (first second : SentInPieces) (told others : List (List ℕ)) : Type 0 where
  pub octets : concat told ≡ concat others
  pub over : first.over ≡ second.over
  pub session : session_of (world_behind (sent_between first)).hub first.number ≡ session_of (world_behind (sent_between second)).hub second.number

abbrev pub OneTextForEveryCut : Type 0
OneTextForEveryCut = (script other : List ℕ) (first second : SentInPieces) (told others : List (List ℕ)) → SendsPieces script first → SendsPieces other second → SendTheSame first second
    → TellsInTurn first told → TellsInTurn second others → TellTheSame first second told others
