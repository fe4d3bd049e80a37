-- What a subscriber keeps, and what its calls say: of all that may have been said so far for which it stands.
--     StandsAs s input kept messages      what is kept stands for what was said, with these octets in its input
--     most_read      octets that are asked for at a time
--     Waits s kept messages      so it stands between two reads
--     Reacts, Hears, Passes      what it says to whole messages, to a read, and at a moment
--     Begins configuration t kept octets      it is connected, and these octets are to go out
use Rattle.std.specs.Prelude.{◌≡◌, ℕ, Bool, true, false, List, [], ◌∷◌, ◌++◌, Option, Some, None}
use Rattle.push_base.specs.Line.{Read}
use Rattle.dsotlv.specs.Laws.{AreOctets}
use Rattle.dsotlv.specs.Messages.{first_message}
use Rattle.pushclient.specs.Clients.{Connection, open_connection}
use Rattle.pushclient.specs.Pieces.{with_input}
use Rattle.pushclient.specs.Rule.{KeptClient, StandsFor}
use Rattle.dsosession.specs.declared.session.CloseReason.{CloseReason}
use Rattle.scripts.specs.Words.{ended_lines}
use Rattle.configurations.specs.Configurations.{Subscribing}
use Rattle.subscriber.specs.declared.reacting.TheConstants as reading
use Rattle.subscriber.specs.Said.{Saying, text_of, closed_line, reacts_to, takes_read, at_moment, writes_out, connected_at}

-- the octets that are asked for at a time
abbrev pub most_read : ℕ
most_read = reading.MOST_READ

-- the client that is kept stands for the one of which was said so much, with these octets in its input
pub record StandsAs (s : Saying) (input : List ℕ) (kept : KeptClient) (messages : Option ℕ) : Type 0 where
  pub connection : Connection
  pub there : open_connection s.client ≡ Some connection
  pub bare : connection.input ≡ []
  pub stands : StandsFor kept (with_input input s.client)
  pub octets : AreOctets input
  pub going : s.over ≡ false
  pub messages_left : messages ≡ s.messages_left

-- no message is whole
pub record Waits (s : Saying) (kept : KeptClient) (messages : Option ℕ) : Type 0 where
  pub stands : StandsAs s s.left kept messages
  pub none : first_message s.left ≡ None

-- a text that leads from what was said to what is said then; while no ending was said, what is kept stands for that
pub record IsSaid (before end : Saying) (kept : KeptClient) (messages : Option ℕ) (text : List ℕ) (over : Bool) : Type 0 where
  pub says : text_of before ++ text ≡ text_of end
  pub ends : over ≡ end.over
  pub waits : end.over ≡ false → Waits end kept messages

unfoldable pub Reacts : KeptClient → Option ℕ → KeptClient → Option ℕ → List ℕ → Bool → Type 0
Reacts kept messages later messages_later text over =
    (s : Saying) (input : List ℕ) → StandsAs s input kept messages → IsSaid s (reacts_to input s) later messages_later text over

unfoldable pub Hears : KeptClient → Option ℕ → Read → KeptClient → Option ℕ → List ℕ → Bool → Type 0
Hears kept messages read later messages_later text over = (s : Saying) → Waits s kept messages → IsSaid s (takes_read read s) later messages_later text over

-- these octets went out, too
pub record IsPassed (before end : Saying) (kept : KeptClient) (messages : Option ℕ) (octets text : List ℕ) (over : Bool) : Type 0 where
  pub said : IsSaid before end kept messages text over
  pub wire : before.wire ++ octets ≡ end.wire

unfoldable pub Passes : KeptClient → Option ℕ → ℕ → KeptClient → List ℕ → List ℕ → Bool → Type 0
Passes kept messages t later octets text over = (s : Saying) → Waits s kept messages → IsPassed s (at_moment t s) later messages octets text over

-- what is said of a client that has closed, if it has
abbrev pub IsClosing : Option CloseReason → List ℕ → Bool → Type 0
IsClosing None text over = (text ≡ []) × (over ≡ false)
IsClosing (Some reason) text over = (text ≡ ended_lines (closed_line reason ∷ [])) × (over ≡ true)

-- it waits behind what it asked, which is to go out
pub record IsBegun (s : Saying) (kept : KeptClient) (messages : Option ℕ) (octets : List ℕ) : Type 0 where
  pub waits : Waits s kept messages
  pub wire : octets ≡ s.wire

unfoldable pub Begins : Subscribing → ℕ → KeptClient → List ℕ → Type 0
Begins configuration t kept octets = IsBegun (writes_out (connected_at configuration t)) kept configuration.messages octets
