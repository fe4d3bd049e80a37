-- A client is asked for something, and its seat still stands.
--     calls-stand      the lines that ask
use Rattle.std.proofs.Common.{◌≡◌, ℕ, Bool, true, false, not, ◌||◌, List, [], Option, Some, None, refl, sym, ◌∙◌, ap, subst}
use Rattle.std.specs.Prelude.{is_none, IsTrue}
use Rattle.dsotlv.specs.Messages.{first_message}
use Rattle.dsosession.specs.declared.session.CloseReason.{CloseReason}
use Rattle.inflight.specs.Flight.{AreSoundWishes}
use Rattle.pushserver.specs.PlainHubs.{Hub}
use Rattle.pushclient.specs.Clients.{Client, Connection, closed_as}
use Rattle.scripts.specs.Lines.{Word}
use Rattle.scripts.specs.declared.line.Call.{Call}
use Rattle.replay.specs.World.{World, Seat}
use Rattle.replay.specs.Text.{called, asks}
use Rattle.replay.specs.Promises.{ShownPoints, IsUnconnected}
use Rattle.replay.proofs.worlds.LinesDoing.{ask-does}
use Rattle.script_laws.specs.Reached.{IsReached}
use Rattle.script_laws.specs.Lines.{IsCallWithin}
use Rattle.script_laws.specs.Joined.{SeatStands, StandsWith, ShownToEach, WorldStands}
use Rattle.script_laws.specs.Walk.{KeepsJoined}
use Rattle.script_laws.proofs.lines.Premises.{LineLaws}
use Rattle.script_laws.proofs.lines.Cutting.{stands-with, with-stands, stands-alone, alone-stands}
use Rattle.script_laws.proofs.lines.Knowing.{same-put, LeadsTo, leads-none}
use Rattle.script_laws.proofs.texts.Along.{seat-stands}

-- ---- a seat with another client

-- a lone one, whatever the client is
pub lone-other : (hub : Hub) (shown : ShownPoints) (seat : Seat) (client : Client) → seat.is_lone ≡ true → IsUnconnected hub shown seat → IsUnconnected hub shown (record seat { client = client })
lone-other hub shown seat client lone h = record {
  client = ap (λ (b : Bool). b || is_none client.connection) lone;
  wishes = λ own. (let wrong : not true ≡ true = subst (λ (b : Bool). not b ≡ true) lone own in absurd cc);
  up_wire = h.up_wire;
  down_wire = h.down_wire;
  reached = h.reached;
  filled = h.filled;
  shown_before = h.shown_before;
}

-- one of the hub, without a connection
pub no-connection : (hub : Hub) (shown : ShownPoints) (seat : Seat) → seat.is_lone ≡ false → IsUnconnected hub shown seat → seat.client.connection ≡ None
no-connection hub shown seat lone h = by seat.client.connection (subst (λ (b : Bool). IsTrue (b || is_none seat.client.connection)) lone h.client)
  where
    by : (o : Option Connection) → IsTrue (is_none o) → o ≡ None
    by None h = refl
    by (Some c) h = absurd cc

sound-wishes : (hub : Hub) (shown : ShownPoints) (seat : Seat) → seat.is_lone ≡ false → IsUnconnected hub shown seat → AreSoundWishes seat.client.wishes
sound-wishes hub shown seat lone h = h.wishes (ap not lone)

pub unconnected-other : (hub : Hub) (shown : ShownPoints) (seat : Seat) (client : Client) → seat.is_lone ≡ false → client.connection ≡ None → AreSoundWishes client.wishes → IsUnconnected hub shown seat
    → IsUnconnected hub shown (record seat { client = client })
unconnected-other hub shown seat client lone none sound h = record {
  client = λ i. lone i || is_none (none i);
  wishes = λ own. sound;
  up_wire = h.up_wire;
  down_wire = h.down_wire;
  reached = h.reached;
  filled = h.filled;
  shown_before = h.shown_before;
}

-- what a call does to any client
record IsAsked (next : Client → Client) : Type 0 where
  joined : KeepsJoined next
  unclosed : (client : Client) (c : Connection) → client.connection ≡ Some c → c.closed ≡ None → closed_as (next client) ≡ None
  none : (client : Client) → client.connection ≡ None → (next client).connection ≡ None
  sound : (client : Client) → client.connection ≡ None → AreSoundWishes client.wishes → AreSoundWishes (next client).wishes

pub closed-is : (client : Client) (c : Connection) → client.connection ≡ Some c → closed_as client ≡ c.closed
closed-is client c e = ap (λ (o : Option Connection). elim o as (λ _. Option CloseReason) [ None ↦ None | Some d ↦ d.closed ]) e

module _ (next : Client → Client) (asked : IsAsked next) where
  asked-joined : (hub : Hub) (shown : ShownPoints) (seat : Seat) (number : ℕ) → IsReached hub → StandsWith hub shown seat number → StandsWith hub shown (record seat { client = next seat.client }) number
  asked-joined hub shown seat number reached h =
      let s = asked.joined hub shown seat number h.session h.connection reached h.joined h.unclosed in
      let unclosed : s.connection.closed ≡ None = sym (closed-is (next seat.client) s.connection s.there) ∙ asked.unclosed seat.client h.connection h.joined.connected h.unclosed in
      record {
        lone = h.lone;
        session = h.session;
        connection = s.connection;
        joined = s.joined unclosed;
        waits = ap first_message s.input ∙ h.waits;
        unclosed = unclosed;
      }

  asked-alone : (hub : Hub) (shown : ShownPoints) (seat : Seat) → IsUnconnected hub shown seat → IsUnconnected hub shown (record seat { client = next seat.client })
  asked-alone hub shown seat h = by seat.is_lone refl
    where
      by : (b : Bool) → seat.is_lone ≡ b → IsUnconnected hub shown (record seat { client = next seat.client })
      by true lone = lone-other hub shown seat (next seat.client) lone h
      by false own =
          let none = no-connection hub shown seat own h in
          unconnected-other hub shown seat (next seat.client) own (asked.none seat.client none) (asked.sound seat.client none (sound-wishes hub shown seat own h)) h

  asked-stands : (hub : Hub) (shown : ShownPoints) (seat : Seat) → IsReached hub → SeatStands hub shown seat → SeatStands hub shown (record seat { client = next seat.client })
  asked-stands hub shown seat reached h = by seat.session refl
    where
      later : Seat
      later = record seat { client = next seat.client }

      by : (o : Option ℕ) → seat.session ≡ o → SeatStands hub shown later
      by None none = alone-stands hub shown later none (asked-alone hub shown seat (stands-alone hub shown seat none h))
      by (Some number) has = with-stands hub shown later number has (asked-joined hub shown seat number reached (stands-with hub shown seat number has h))

-- ---- the lines

module _ (laws : LineLaws) where
  call-asks : (call : Call) → IsCallWithin call → IsAsked (λ client. (called call client).1)
  call-asks call within = record {
    joined = laws.asks.joined call within;
    unclosed = laws.asks.unclosed call;
    none = laws.wishes.unconnected call;
    sound = λ client none sound. laws.wishes.asked call client none within sound;
  }

  pub calls-stand : (all : List Word) (shown : ShownToEach) (world : World) → WorldStands shown world → (call : Call) (w : Word) → IsCallWithin call → LeadsTo all shown world (asks call w world).0
  calls-stand all shown world stands call w within =
      ask-does world (LeadsTo all shown world) w call (leads-none all shown world stands)
      (λ seat found.
      let later : Seat = record seat { client = (called call seat.client).1 } in
      record {
        stands = laws.seats_pass shown world w seat later [] stands found refl refl tt tt tt
            (asked-stands (λ client. (called call client).1) (call-asks call within) world.hub (shown seat.word) seat stands.reached (seat-stands shown world w seat stands found));
        clients = same-put world w seat later found refl refl;
        peers = λ h. h;
      })
