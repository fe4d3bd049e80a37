-- Connections open and are cut, and clients and peers come.
--     opens-stand, cuts-stand      lines on connections
--     feeds-stand      octets to a lone client
use Rattle.std.proofs.Common.{◌≡◌, ℕ, Bool, true, false, not, cond, List, [], ◌∷◌, length, Option, Some, None, option_map, refl, sym, ◌∙◌, ap}
use Rattle.std.specs.Prelude.{is_some, IsTrue, codes}
use Rattle.std.specs.Str.{bytes_eq}
use Rattle.rrset.proofs.Places.{all_filter}
use Rattle.dsotlv.proofs.Results.{same_found}
use Rattle.pushserver.specs.PlainHubs.{Hub}
use Rattle.pushserver.specs.Hubs.{now, connect}
use Rattle.pushclient.specs.Clients.{Client, Connection, is_connected, connected, output_of, give_octets}
use Rattle.scripts.specs.Lines.{Word}
use Rattle.scripts.specs.Scripts.{is_peer}
use Rattle.replay.specs.World.{World, Seat, seat_of, with_seat, cut_seat, cut_connection, cut_peer, without, hub_without}
use Rattle.replay.specs.PassedOctets.{to_client}
use Rattle.replay.specs.Text.{Printed, quietly, printing, opens_lone, opens_hub, opens, cuts, feeds_connected, feeds}
use Rattle.replay.specs.Promises.{ShownPoints, IsUnconnected}
use Rattle.replay.proofs.worlds.LinesDoing.{cut-does, feed-does}
use Rattle.script_laws.specs.Joined.{SeatStands, ShownToEach, WorldStands}
use Rattle.script_laws.proofs.texts.Along.{seat-stands}
use Rattle.script_laws.proofs.lines.Premises.{LineLaws}
use Rattle.script_laws.proofs.lines.Cutting.{stands-with, stands-alone, alone-stands, cut-alone, joined-cut}
use Rattle.script_laws.proofs.lines.Knowing.{lone_at, same-put, ArePeers, LeadsTo, leads-none}
use Rattle.script_laws.proofs.lines.Passing.{finished-alone}
use Rattle.script_laws.proofs.lines.Asking.{lone-other}

-- a lone client has no session
lone-unjoined : (hub : Hub) (shown : ShownPoints) (seat : Seat) → seat.is_lone ≡ true → SeatStands hub shown seat → seat.session ≡ None
lone-unjoined hub shown seat lone h = by seat.session refl
  where
    by : (o : Option ℕ) → seat.session ≡ o → o ≡ None
    by None e = refl
    by (Some number) e = (let wrong : true ≡ false = sym lone ∙ (stands-with hub shown seat number e h).lone in absurd cc)

module _ (laws : LineLaws) (all : List Word) (shown : ShownToEach) (world : World) (stands : WorldStands shown world) where
  abbrev Leads : World → Type 0
  Leads later = LeadsTo all shown world later

  -- the connection of a seat is cut
  pub seat-cut : (w : Word) (seat : Seat) → seat_of world w ≡ Some seat → Leads (cut_connection seat world)
  seat-cut w seat found = record {
    stands = laws.seats_are_cut shown world w seat seat stands found refl refl (by seat.session refl);
    clients = same-put world w seat (cut_seat seat) found refl refl;
    peers = λ h. h;
  }
    where
      here : SeatStands world.hub (shown seat.word) seat
      here = seat-stands shown world w seat stands found

      by : (o : Option ℕ) → seat.session ≡ o → IsUnconnected (hub_without seat.session world.hub) (shown seat.word) (cut_seat seat)
      by None none = cut-alone world.hub (shown seat.word) seat none (stands-alone world.hub (shown seat.word) seat none here)
      by (Some number) has =
          let s = stands-with world.hub (shown seat.word) seat number has here in
          joined-cut laws.cuts world.hub (shown seat.word) seat number s.session s.connection seat.session stands.reached s.joined

  -- a lone client is another one
  lone-put : (w : Word) (seat : Seat) (client : Client) → seat_of world w ≡ Some seat → seat.is_lone ≡ true → Leads (with_seat (record seat { client = client }) world)
  lone-put w seat client found lone =
      let later : Seat = record seat { client = client } in
      let here = seat-stands shown world w seat stands found in
      let none = lone-unjoined world.hub (shown seat.word) seat lone here in
      record {
        stands = laws.seats_pass shown world w seat later [] stands found refl refl tt tt tt
            (alone-stands world.hub (shown seat.word) later none (lone-other world.hub (shown seat.word) seat client lone (stands-alone world.hub (shown seat.word) seat none here)));
        clients = same-put world w seat later found refl refl;
        peers = λ h. h;
      }

  -- ---- open

  connected_some : (c : Connection) (client : Client) → client.connection ≡ Some c → is_connected client ≡ true
  connected_some c client e = ap (λ (o : Option Connection). is_some o) e

  hub-opens : (w : Word) (seat : Seat) → seat_of world w ≡ Some seat → is_connected seat.client ≡ false → seat.is_lone ≡ false → Leads (opens_hub seat world).0
  hub-opens w seat found closed own = by (connect world.hub).0 refl
    where
      here : SeatStands world.hub (shown seat.word) seat
      here = seat-stands shown world w seat stands found

      none : seat.session ≡ None
      none = by_session seat.session refl
        where
          by_session : (o : Option ℕ) → seat.session ≡ o → o ≡ None
          by_session None e = refl
          by_session (Some number) e =
              let s = stands-with world.hub (shown seat.word) seat number e here in
              let wrong : true ≡ false = sym (connected_some s.connection seat.client s.joined.connected) ∙ closed in
              absurd cc

      by : (o : Option ℕ) → (connect world.hub).0 ≡ o → Leads (elim o as (λ _. Printed) [
        | None ↦ printing (codes "noseat" ∷ seat.word ∷ []) world
        | Some number ↦ printing (codes "open" ∷ seat.word ∷ []) (with_seat (record seat { client = connected (now world.hub) seat.client; session = Some number }) (record world { hub = (connect world.hub).1 }))
      ]).0
      by None is = leads-none all shown world stands
      by (Some number) is =
          let later : Seat = record seat { client = connected (now world.hub) seat.client; session = Some number } in
          record {
            stands = laws.seats_open shown world w seat later number stands found none is refl refl
                (laws.new_ones world.hub (shown seat.word) seat number stands.reached own (stands-alone world.hub (shown seat.word) seat none here) is);
            clients = same-put world w seat later found refl refl;
            peers = λ h. h;
          }

  pub opens-stand : (w : Word) → Leads (opens w world).0
  opens-stand w = by (seat_of world w) refl
    where
      by_kind : (seat : Seat) → seat_of world w ≡ Some seat → is_connected seat.client ≡ false → (b : Bool) → seat.is_lone ≡ b → Leads (cond b (opens_lone seat world) (opens_hub seat world)).0
      by_kind seat found closed true lone = lone-put w seat (connected (now world.hub) seat.client) found lone
      by_kind seat found closed false own = hub-opens w seat found closed own

      by_open : (seat : Seat) → seat_of world w ≡ Some seat → (b : Bool) → is_connected seat.client ≡ b
          → Leads (cond b (printing (codes "already" ∷ w ∷ []) world) (cond seat.is_lone (opens_lone seat world) (opens_hub seat world))).0
      by_open seat found true is = leads-none all shown world stands
      by_open seat found false is = by_kind seat found is seat.is_lone refl

      by : (o : Option Seat) → seat_of world w ≡ o → Leads (elim o as (λ _. Printed) [
        | None ↦ quietly world
        | Some seat ↦ cond (is_connected seat.client) (printing (codes "already" ∷ w ∷ []) world) (cond seat.is_lone (opens_lone seat world) (opens_hub seat world))
      ]).0
      by None is = leads-none all shown world stands
      by (Some seat) is = by_open seat is (is_connected seat.client) refl

  -- ---- cut

  peers-left : (w : Word) (peers : List (Word × ℕ)) → ArePeers all peers → ArePeers all (without w peers)
  peers-left w peers h = all_filter (λ (p : Word × ℕ). IsTrue (is_peer all p.0)) (λ (p : Word × ℕ). not (bytes_eq p.0 w)) peers h

  pub peer-cut : (w : Word) → Leads (cut_peer w world)
  peer-cut w = record { stands = laws.peers_are_cut shown world w stands; clients = λ v. refl; peers = peers-left w world.peers }

  pub cuts-stand : (w : Word) → Leads (cuts w world).0
  cuts-stand w = cut-does world Leads w (seat-cut w) (peer-cut w)

  -- ---- feed

  feeds-seat : (w : Word) (octets : List ℕ) (seat : Seat) → seat_of world w ≡ Some seat → seat.is_lone ≡ true → Leads (feeds_connected octets world seat).0
  feeds-seat w octets seat found lone =
      let d = to_client octets seat.client in
      let later : Seat = record seat { client = give_octets (length (output_of d.client)) d.client } in
      let here = seat-stands shown world w seat stands found in
      let none = lone-unjoined world.hub (shown seat.word) seat lone here in
      finished-alone laws all shown world w seat stands found later none refl refl refl
      (lone-other world.hub (shown seat.word) seat later.client lone (stands-alone world.hub (shown seat.word) seat none here))

  pub feeds-stand : (w : Word) (octets : List ℕ) → lone_at world w ≡ Some true → Leads (feeds w octets world).0
  feeds-stand w octets lone =
      feed-does world Leads w octets (leads-none all shown world stands)
      (λ seat found connects. feeds-seat w octets seat found (same_found seat.is_lone true (sym (ap (option_map (λ (s : Seat). s.is_lone)) found) ∙ lone)))
