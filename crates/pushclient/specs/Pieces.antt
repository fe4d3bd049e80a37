-- What a client does with octets that come in pieces, and with the whole messages in them (RFC 7766, 8; RFC 8490, 5.4).
--     on_messages messages client      its steps over whole messages, one after the other, until it has closed
--     on_octets, on_pieces      its steps over octets, as many as have room at a time; over pieces of them, one after the other
--     AnswersAsMessages      the steps over pieces are those over the messages in its input and all pieces, and no octet is lost
--     AnswersEveryCut, SameForEveryCut      so it is for every list of pieces; all pieces of the same octets give the same steps and client
--     SaysTheSame      so it is where what the client has to send is given away between the pieces
--     HasRoomWhileItWaits      an open client without a whole message in its input has room for at least 4,097 octets
use Rattle.std.specs.Prelude.{◌≡◌, ℕ, zero, suc, ◌<◌, ◌≤◌, List, [], ◌∷◌, ◌++◌, length, drop, flat_map, Some, None, IsSome}
use Rattle.std.specs.List.{concat}
use Rattle.dsotlv.specs.Laws.{AreOctets}
use Rattle.dsotlv.specs.Messages.{frame, first_message, messages_in}
use Rattle.pushclient.specs.declared.client.Step.{Step}
use Rattle.pushclient.specs.declared.client.Step.TheVariants.{Waiting, Closed}
use Rattle.pushclient.specs.Clients.{Client, Connection, in_connection, open_connection, room_of, take_octets, output_of, give_octets}
use Rattle.pushclient.specs.Steps.{step, reacted}

abbrev pub with_input : List ℕ → Client → Client
with_input octets client = in_connection (λ c. record c { input = octets }) client

abbrev pub input_of : Client → List ℕ
input_of client = elim client.connection [ None ↦ [] | Some c ↦ c.input ]

-- what a client answers to whole messages, what it is afterwards, and the messages that came behind one on which it closed
pub record OnMessages : Type 0 where
  pub steps : List Step
  pub client : Client
  pub left : List (List ℕ)

-- one reaction after the other; a client that has closed reacts to nothing
abbrev pub on_messages : List (List ℕ) → Client → OnMessages
on_messages [] client = record { steps = []; client = client; left = [] }
on_messages (message ∷ messages) client = elim (open_connection client) [
  | None ↦ record { steps = []; client = client; left = message ∷ messages }
  | Some c ↦ (let one = reacted message c client in let later = on_messages messages one.1 in record { steps = one.0 ∷ later.steps; client = later.client; left = later.left })
]

-- what a client answers to octets, what it is afterwards, and the octets that it didn't take into its input
pub record OnOctets : Type 0 where
  pub steps : List Step
  pub client : Client
  pub left : List ℕ

abbrev pub leaves : List ℕ → Client → OnOctets
leaves octets client = record { steps = []; client = client; left = octets }

-- one behind the other
abbrev pub followed_by : OnOctets → OnOctets → OnOctets
followed_by first second = record { steps = first.steps ++ second.steps; client = second.client; left = first.left ++ second.left }

-- steps until one is Waiting or Closed, at most so many; Closed is one of them
abbrev pub steps_over : ℕ → Client → OnOctets
steps_over zero client = leaves [] client
steps_over (suc turns) client = (let one = step client in elim one.0 [
  | Waiting ↦ leaves [] client
  | Closed reason ↦ record { steps = one.0 ∷ []; client = one.1; left = [] }
  | _ ↦ (let later = steps_over turns one.1 in record { steps = one.0 ∷ later.steps; client = later.client; left = later.left })
])

-- Octets that have room go in, and the client steps; then those that had none, at most so many times. One that has closed takes none.
abbrev pub on_octets : ℕ → ℕ → List ℕ → Client → OnOctets
on_octets turns zero octets client = leaves octets client
on_octets turns (suc times) octets client = elim (open_connection client) [
  | None ↦ leaves octets client
  | Some c ↦ (let first = steps_over turns (take_octets octets client) in elim (drop (room_of client) octets) [
    | [] ↦ first
    | o ∷ os ↦ followed_by first (on_octets turns times (o ∷ os) first.client)
  ])
]

abbrev pub on_pieces : ℕ → List (List ℕ) → Client → OnOctets
on_pieces turns [] client = leaves [] client
on_pieces turns (piece ∷ pieces) client = (let first = on_octets turns turns piece client in followed_by first (on_pieces turns pieces first.client))

-- a connection that hasn't closed, and no whole message in its input
pub record WaitsForOctets (client : Client) (c : Connection) : Type 0 where
  pub there : open_connection client ≡ Some c
  pub waits : first_message c.input ≡ None

-- The steps are those over the messages, and the client is the same but for its input. No octet is lost: what is in its input
-- and what it didn't take are the messages behind the one on which it closed and the rest behind them. While it is open that is the
-- rest alone, in its input, and it waits again.
pub record AnswersAsMessages (rest : List ℕ) (pieces : OnOctets) (messages : OnMessages) : Type 0 where
  pub steps : pieces.steps ≡ messages.steps
  pub client : pieces.client ≡ with_input (input_of pieces.client) messages.client
  pub octets : input_of pieces.client ++ pieces.left ≡ flat_map frame messages.left ++ rest
  pub while_open : IsSome (open_connection pieces.client) → (pieces.left ≡ []) × (messages.left ≡ []) × (first_message (input_of pieces.client) ≡ None)

-- Turns are enough where they are more than all octets: each takes an octet in or reacts to a message.
abbrev pub AnswersEveryCut : Type 0
AnswersEveryCut = (turns : ℕ) (pieces : List (List ℕ)) (client : Client) (c : Connection) → WaitsForOctets client c
    → AreOctets (c.input ++ concat pieces) → length (c.input ++ concat pieces) < turns
    → let split = messages_in (c.input ++ concat pieces) in
    AnswersAsMessages split.1 (on_pieces turns pieces client) (on_messages split.0 (with_input [] client))

-- The same steps, and the same client but for what stands unread at one that has closed; and that with what wasn't taken is the same, too.
pub record AreAlike (first second : OnOctets) : Type 0 where
  pub steps : first.steps ≡ second.steps
  pub client : with_input [] first.client ≡ with_input [] second.client
  pub octets : input_of first.client ++ first.left ≡ input_of second.client ++ second.left
  pub while_open : IsSome (open_connection first.client) → first ≡ second

abbrev pub SameForEveryCut : Type 0
SameForEveryCut = (turns : ℕ) (first second : List (List ℕ)) (client : Client) (c : Connection) → WaitsForOctets client c
    → AreOctets (c.input ++ concat first) → length (c.input ++ concat first) < turns → concat first ≡ concat second
    → AreAlike (on_pieces turns first client) (on_pieces turns second client)

abbrev pub HasRoomWhileItWaits : Type 0
HasRoomWhileItWaits = (client : Client) (c : Connection) → WaitsForOctets client c → AreOctets c.input → 4097 ≤ room_of client

-- these octets stand before what the client has to send
abbrev pub sends_before : List ℕ → Client → Client
sends_before octets client = in_connection (λ c. record c { output = octets ++ c.output }) client

-- pieces, where all that the client has to send is given away after each: what was given, and what the client did
abbrev pub says_to : ℕ → List (List ℕ) → Client → List ℕ × OnOctets
says_to turns [] client = ([], leaves [] client)
says_to turns (piece ∷ pieces) client = (
    let first = on_octets turns turns piece client in
    let said = output_of first.client in
    let later = says_to turns pieces (give_octets (length said) first.client) in
    (said ++ later.0, followed_by first later.1))

-- So what is given away between the pieces changes nothing, and all of it is what the client would have to send.
abbrev pub SaysTheSame : Type 0
SaysTheSame = (turns : ℕ) (pieces : List (List ℕ)) (client : Client)
    → (let given = says_to turns pieces client in on_pieces turns pieces client ≡ record { steps = given.1.steps; client = sends_before given.0 given.1.client; left = given.1.left })
