-- The lines of a script, and what is known of a world behind some of them.
--     IsWord w      digits and lower-case letters
--     AreWithin line      its octets are octets, its names are names, the words of its clients and peers are words, and its numbers fit
--     IsNamed all line      a client that it makes has one of these words
--     Follow all known lines      each line may stand where it stands
--     AreLines script      lines that were read, each of which may stand where it stands, and not too many
--     KnownFits all known world      the clients that are known are those of the world, and no peer has a client's word
use Rattle.std.specs.Prelude.{◌≡◌, ℕ, ◌<◌, ◌≤◌, ◌^◌, Bool, List, [], ◌∷◌, length, Some, IsTrue, option_map}
use Rattle.std.specs.List.{AllByRecursion, list_all}
use Rattle.push_base.specs.Limits.{max_moment}
use Rattle.dnsname.specs.Names.{is_name}
use Rattle.dsotlv.specs.Laws.{AreOctets}
use Rattle.dsotlv.specs.Messages.{max_frame}
use Rattle.pushclient.specs.ServerMessages.{CanBeGranted}
use Rattle.inflight.specs.Ends.{is_question}
use Rattle.scripts.specs.Lines.{Word, is_word_octet, HeadLine, timers, zone, link, reverse, ScriptLine, silent, head_line, joining, hub_event, link_event, client_call, client_passing, client_event, session_event}
use Rattle.scripts.specs.declared.line.HubEvent.{HubEvent}
use Rattle.scripts.specs.declared.line.HubEvent.TheVariants as hub_events
use Rattle.scripts.specs.declared.line.LinkEvent.{LinkEvent}
use Rattle.scripts.specs.declared.line.LinkEvent.TheVariants as link_events
use Rattle.scripts.specs.declared.line.Call.{Call}
use Rattle.scripts.specs.declared.line.Call.TheVariants as calls
use Rattle.scripts.specs.declared.line.ClientEvent.{ClientEvent}
use Rattle.scripts.specs.declared.line.ClientEvent.TheVariants as client_events
use Rattle.scripts.specs.declared.line.SessionEvent.{SessionEvent}
use Rattle.scripts.specs.declared.line.SessionEvent.TheVariants as session_events
use Rattle.scripts.specs.Scripts.{Known, nothing_known, max_script, lone_of, client_word, is_among, is_peer, fits}
use Rattle.replay.specs.World.{World, seat_of}

-- ---- lines by themselves

-- the octets that a word of a script stands for
abbrev pub AreWritten : List ℕ → Type 0
AreWritten octets = AreOctets octets × (length octets ≤ max_frame)

-- digits and lower-case letters alone, so no space
abbrev pub IsWord : Word → Type 0
IsWord w = IsTrue (list_all is_word_octet w)

-- what is read of a line is within bounds: of the head, and of what happens
abbrev pub IsHeadWithin : HeadLine → Type 0
IsHeadWithin (timers inactivity keepalive) = CanBeGranted (record { inactivity = inactivity; keepalive = keepalive })
IsHeadWithin (zone apex serial mode) = IsTrue (is_name apex) × (serial < 2 ^ 32)
IsHeadWithin (link w domain most) = IsTrue (is_name domain)
IsHeadWithin (reverse w domain) = IsTrue (is_name domain)

abbrev pub IsHubWithin : HubEvent → Type 0
IsHubWithin (hub_events.At t) = t ≤ max_moment
IsHubWithin (hub_events.Update message) = AreWritten message
IsHubWithin hub_events.Point = Unit {0}

abbrev pub IsLinkWithin : LinkEvent → Type 0
IsLinkWithin (link_events.Hear datagram) = AreWritten datagram
IsLinkWithin link_events.Gone = Unit {0}
IsLinkWithin link_events.Asks = Unit {0}

abbrev pub IsCallWithin : Call → Type 0
IsCallWithin (calls.Ask question) = IsTrue (is_question question)
IsCallWithin (calls.Drop question) = IsTrue (is_question question)
IsCallWithin (calls.Reconfirm rr) = IsTrue (is_name rr.owner) × AreWritten rr.rdata

abbrev pub IsClientWithin : ClientEvent → Type 0
IsClientWithin client_events.Open = Unit {0}
IsClientWithin (client_events.Feed octets) = AreWritten octets
IsClientWithin (client_events.Show question written) = IsTrue (is_question question)

abbrev pub IsSessionWithin : Word → SessionEvent → Type 0
IsSessionWithin w (session_events.Send octets) = IsWord w × AreWritten octets
IsSessionWithin w (session_events.Stop rcode delay) = (rcode < 16) × (delay < 2 ^ 32)
IsSessionWithin w session_events.Cut = Unit {0}

abbrev pub AreWithin : ScriptLine → Type 0
AreWithin silent = Unit {0}
AreWithin (head_line line) = IsHeadWithin line
AreWithin (joining w is_lone) = IsWord w
AreWithin (hub_event event) = IsHubWithin event
AreWithin (link_event w event) = IsLinkWithin event
AreWithin (client_call w call) = IsCallWithin call
AreWithin (client_passing w way) = Unit {0}
AreWithin (client_event w event) = IsClientWithin event
AreWithin (session_event w event) = IsSessionWithin w event

-- the word of a client that a line makes is among those of all clients
abbrev pub IsNamed : List Word → ScriptLine → Type 0
IsNamed all line = (w : Word) → client_word line ≡ Some w → IsTrue (is_among all w)

-- a line that was read
pub record IsRead (all : List Word) (line : ScriptLine) : Type 0 where
  pub within : AreWithin line
  pub named : IsNamed all line

-- ---- lines one behind another

-- each may stand where it stands
abbrev pub Follow : List Word → Known → List ScriptLine → Type 0
Follow all known [] = Unit {0}
Follow all known (line ∷ lines) = (later : Known) × (fits all known line ≡ Some later) × Follow all later lines

-- lines that were read, each of which may stand where it stands, and not too many; and the words of all their clients
pub record AreLines (script : List ScriptLine) : Type 0 where
  pub all : List Word
  pub words : AllByRecursion IsWord all
  pub follow : Follow all nothing_known script
  pub read : AllByRecursion (IsRead all) script
  pub few : length script ≤ max_script

-- the clients that the lines so far have made are those of the world, lone where they are, and among those of the whole script, of which no peer has a word
pub record KnownFits (all : List Word) (known : Known) (world : World) : Type 0 where
  pub clients : (w : Word) → lone_of known w ≡ option_map (λ s. s.is_lone) (seat_of world w)
  pub named : (w : Word) (is_lone : Bool) → lone_of known w ≡ Some is_lone → IsTrue (is_among all w)
  pub peers : AllByRecursion (λ p. IsTrue (is_peer all p.0)) world.peers
