-- Octets pass between a client and its session, and an end or a close that is told cuts the connection.
--     passes-stand      lines by which octets pass
--     finished-alone      a client without a session that passes nothing
--     told-none      where nothing is told
use Rattle.std.proofs.Common.{◌≡◌, ℕ, List, [], ◌++◌, length, Option, Some, None, refl, sym, ◌∙◌, ap, subst, arith}
use Rattle.dsosession.specs.declared.session.EndReason.{EndReason}
use Rattle.dsosession.specs.declared.session.CloseReason.{CloseReason}
use Rattle.pushserver.specs.PlainHubs.{Hub}
use Rattle.pushserver.specs.Calls.{after_calls}
use Rattle.pushclient.specs.Clients.{Connection, closed_as}
use Rattle.scripts.specs.Lines.{Word}
use Rattle.scripts.specs.declared.line.Way.{Way}
use Rattle.replay.specs.World.{World, Seat, seat_of, with_seat, cut_seat, cut_connection, hub_without, is_over, world_cut_if}
use Rattle.replay.specs.PassedOctets.{Passed, passed}
use Rattle.replay.specs.Text.{Printed, quietly, end_lines, close_lines, finished, passing_of, way_words, passes}
use Rattle.replay.specs.Promises.{IsUnconnected}
use Rattle.script_laws.specs.Reached.{IsReached}
use Rattle.script_laws.specs.Numbers.{KeepNumbers, AreForNoOther}
use Rattle.script_laws.specs.Joined.{IsJoined, SeatStands, StandsWith, ShownToEach, WorldStands, PassesSo}
use Rattle.script_laws.specs.Walk.{Keeps}
use Rattle.script_laws.proofs.texts.Along.{seat-stands}
use Rattle.script_laws.proofs.lines.Premises.{LineLaws, way-keeps}
use Rattle.script_laws.proofs.lines.Cutting.{stands-with, with-stands, stands-alone, alone-stands, cut-alone, joined-cut}
use Rattle.replay.proofs.worlds.SeatsFound.{put-found}
use Rattle.script_laws.proofs.lines.Knowing.{same-put, AreSameClients, LeadsTo, leads-none}

-- what ends or closes is cut
pub cut-where-over : (P : World → Type 0) (over : Option EndReason) (closing : Option CloseReason) (seat : Seat) (world : World)
    → (over ≡ None → closing ≡ None → P world) → P (cut_connection seat world) → P (world_cut_if (is_over over closing) seat world)
cut-where-over P None None seat world stays cuts = stays refl refl
cut-where-over P None (Some reason) seat world stays cuts = cuts
cut-where-over P (Some end) closing seat world stays cuts = cuts

-- where nothing else is printed no end and no close are told
pub told-none : (v : Word) (over : Option EndReason) (closing : Option CloseReason) → length (end_lines v over ++ close_lines v closing) ≡ 0 → (over ≡ None) × (closing ≡ None)
told-none v None None none = (refl, refl)
told-none v None (Some reason) none = absurd (omega (arith, none))
told-none v (Some reason) closing none = absurd (omega (arith, none))

-- the clients are the same behind a passing, and behind a cut with it
pub same-cut : (world : World) (hub : Hub) (w : Word) (seat x : Seat) → seat_of world w ≡ Some seat → x.word ≡ seat.word → x.is_lone ≡ seat.is_lone → AreSameClients world (cut_connection x (with_seat x (record world { hub = hub })))
same-cut world hub w seat x found word lone v =
    let middle : World = record world { hub = hub } in
    same-put (with_seat x middle) w x (cut_seat x) (put-found middle w seat x found word) refl refl v ∙ same-put middle w seat x found word lone v

module _ (laws : LineLaws) (all : List Word) (shown : ShownToEach) (world : World) (w : Word) (seat : Seat) (stands : WorldStands shown world) (found : seat_of world w ≡ Some seat) where
  abbrev Leads : World → Type 0
  Leads later = LeadsTo all shown world later

  -- ---- without a session

  -- it has another client, which has closed or not
  pub finished-alone : (later : Seat) → seat.session ≡ None → later.word ≡ seat.word → later.is_lone ≡ seat.is_lone → later.session ≡ seat.session → IsUnconnected world.hub (shown seat.word) later
      → Leads (world_cut_if (is_over None (closed_as later.client)) later (with_seat later world))
  finished-alone later none word lone session alone =
      cut-where-over Leads None (closed_as later.client) later (with_seat later world)
      (λ over closing. record {
        stands = laws.seats_pass shown world w seat later [] stands found word session tt tt tt (alone-stands world.hub (shown seat.word) later (session ∙ none) alone);
        clients = same-put world w seat later found word lone;
        peers = λ h. h;
      })
      (record {
        stands = laws.seats_pass_and_are_cut shown world w seat later [] stands found word session tt tt tt
            (subst (λ (o : Option ℕ). SeatStands (hub_without o world.hub) (shown seat.word) (cut_seat later)) session (cut-alone world.hub (shown seat.word) later (session ∙ none) alone));
        clients = same-cut world world.hub w seat later found word lone;
        peers = λ h. h;
      })

  -- ---- with a session

  module _ (number : ℕ) (has : seat.session ≡ Some number) where
    here : StandsWith world.hub (shown seat.word) seat number
    here = stands-with world.hub (shown seat.word) seat number has (seat-stands shown world w seat stands found)

    finishes : (p : Passed) → PassesSo number world (shown seat.word) seat here.connection p
        → Leads (world_cut_if (is_over p.over (closed_as p.seat.client)) p.seat (with_seat p.seat p.world))
    finishes p so =
        subst (λ (v : World). Leads (world_cut_if (is_over p.over (closed_as x.client)) x (with_seat x v))) (sym so.world_is)
        (cut-where-over Leads p.over (closed_as x.client) x (with_seat x middle)
        (λ over closing. record {
          stands = laws.seats_pass shown world w seat x so.calls stands found so.word so.session so.fit own.1 (subst (λ (o : Option ℕ). AreForNoOther o so.calls) (sym has) own.0) (goes_on closing);
          clients = same-put middle w seat x found so.word so.lone;
          peers = λ h. h;
        })
        (record {
          stands = laws.seats_pass_and_are_cut shown world w seat x so.calls stands found so.word so.session so.fit own.1 (subst (λ (o : Option ℕ). AreForNoOther o so.calls) (sym has) own.0)
              (joined-cut laws.cuts later_hub (shown seat.word) x number so.later so.connection seat.session reached joined);
          clients = same-cut world later_hub w seat x found so.word so.lone;
          peers = λ h. h;
        }))
      where
        x : Seat
        x = p.seat

        later_hub : Hub
        later_hub = after_calls so.calls world.hub

        middle : World
        middle = record world { hub = later_hub }

        own : AreForNoOther (Some number) so.calls × KeepNumbers so.calls
        own = laws.own number so.calls so.own

        reached : IsReached later_hub
        reached = laws.go_on world.hub so.calls stands.reached so.fit

        joined : IsJoined later_hub (shown seat.word) x number so.later so.connection
        joined = subst (λ (v : World). IsJoined v.hub (shown seat.word) x number so.later so.connection) so.world_is so.joined

        goes_on : closed_as x.client ≡ None → SeatStands later_hub (shown seat.word) x
        goes_on closing =
            let unclosed : so.connection.closed ≡ None = sym (ap (λ (o : Option Connection). elim o as (λ _. Option CloseReason) [ None ↦ None | Some c ↦ c.closed ]) so.joined.connected) ∙ closing in
            with-stands later_hub (shown seat.word) x number (so.session ∙ has) (record {
              lone = so.lone ∙ here.lone;
              session = so.later;
              connection = so.connection;
              joined = joined;
              waits = so.waits (λ e. here.waits) unclosed;
              unclosed = unclosed;
            })

    kept-finishes : (passing : World → Seat → Passed) → Keeps passing number
        → Leads (world_cut_if (is_over (passing world seat).over (closed_as (passing world seat).seat.client)) (passing world seat).seat (with_seat (passing world seat).seat (passing world seat).world))
    kept-finishes passing keeps = finishes (passing world seat) (keeps world (shown seat.word) seat here.session here.connection stands.reached here.joined)

  -- ---- either

  abbrev passed_by : (ℕ → World → Seat → Passed) → Option ℕ → Passed
  passed_by passing o = elim o as (λ _. Passed) [ None ↦ passed world seat 0 | Some number ↦ passing number world seat ]

  leads-finished : (words : Passed → List (List ℕ)) (passing : ℕ → World → Seat → Passed) → ((number : ℕ) → Keeps (passing number) number) → (o : Option ℕ) → seat.session ≡ o → Leads (finished (words (passed_by passing o)) (passed_by passing o)).0
  leads-finished words passing keeps None none =
      finished-alone seat none refl refl refl (stands-alone world.hub (shown seat.word) seat none (seat-stands shown world w seat stands found))
  leads-finished words passing keeps (Some number) has = kept-finishes number has (passing number) (keeps number)

module _ (laws : LineLaws) (all : List Word) (shown : ShownToEach) (world : World) (stands : WorldStands shown world) where
  abbrev finished_by : Word → (Passed → List (List ℕ)) → (ℕ → World → Seat → Passed) → Option Seat → Printed
  finished_by w words passing o = elim o as (λ _. Printed) [
    | None ↦ quietly world
    | Some seat ↦ (let p : Passed = elim seat.session as (λ _. Passed) [ None ↦ passed world seat 0 | Some number ↦ passing number world seat ] in finished (words p) p)
  ]

  leads-by : (w : Word) (words : Passed → List (List ℕ)) (passing : ℕ → World → Seat → Passed) → ((number : ℕ) → Keeps (passing number) number) → (o : Option Seat) → seat_of world w ≡ o → LeadsTo all shown world (finished_by w words passing o).0
  leads-by w words passing keeps None none = leads-none all shown world stands
  leads-by w words passing keeps (Some seat) found = leads-finished laws all shown world w seat stands found words passing keeps seat.session refl

  pub passes-stand : (way : Way) (w : Word) → LeadsTo all shown world (passes way w world).0
  passes-stand way w = leads-by w (λ p. way_words way w p.count) (passing_of way) (way-keeps laws way) (seat_of world w) refl
