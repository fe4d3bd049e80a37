-- The hub behind octets that pass between a client and its session is that behind these calls.
--     no_calls      of a passing that makes none
--     outs-by, rounds-by, settles-by      from a session, a round, and rounds until nothing moves
--     ways-by, sessions-by      the passing of a way, with a session, and with one or without
use Rattle.std.proofs.Common.{◌≡◌, ℕ, zero, suc, Bool, true, false, not, ◌&&◌, ◌==◌, List, [], ◌++◌, Option, Some, None, refl, sym, ◌∙◌, ap}
use Rattle.std.specs.Prelude.{is_some, if◌then◌else◌}
use Rattle.dsosession.specs.declared.session.EndReason.{EndReason}
use Rattle.pushserver.specs.Calls.{HubCall, after_calls}
use Rattle.pushserver.specs.PlainHubs.{Hub}
use Rattle.scripts.specs.declared.line.Way.{Way}
use Rattle.scripts.specs.declared.line.Way.TheVariants as ways
use Rattle.replay.specs.World.{World, Seat}
use Rattle.replay.specs.PassedOctets as passing
use Rattle.replay.specs.PassedOctets.{Passed, enough, max_wire, round, settled, nothing_emitted}
use Rattle.replay.specs.Text.{passing_of, passes_way}
use Rattle.replay.specs.LineCalls.{up_calls, out_calls, round_calls, settle_calls, way_calls, with_session}
use Rattle.replay.proofs.calls.Behind.{calls-append}
use Rattle.replay.proofs.calls.Emitted.{emits-by}
use Rattle.replay.proofs.worlds.PassedWorlds.{passed_as}

abbrev pub no_calls : World → Seat → List HubCall
no_calls world seat = []

pub outs-by : (number n : ℕ) (world : World) (seat : Seat) → (passing.emit number n world seat).world.hub ≡ after_calls (out_calls number n world seat) world.hub
outs-by number n world seat = emits-by enough number _ (nothing_emitted world.hub seat.filled)

pub rounds-by : (number : ℕ) (world : World) (seat : Seat) → (round number world seat).world.hub ≡ after_calls (round_calls number world seat) world.hub
rounds-by number world seat =
    let said = passing.say max_wire world seat in
    let risen = passing.up number max_wire said.world said.seat in
    outs-by number max_wire risen.world risen.seat ∙ sym (calls-append (up_calls number max_wire said.world said.seat) (out_calls number max_wire risen.world risen.seat) world.hub)

pub settles-by : (turns number : ℕ) (world : World) (seat : Seat) (over : Option EndReason) → (settled turns number world seat over).world.hub ≡ after_calls (settle_calls turns number world seat) world.hub
settles-by zero number world seat over = refl
settles-by (suc turns) number world seat over = by (settles-by turns number r.world r.seat so_far) (r.count == 0 && not r.reacted)
  where
    r : Passed
    r = round number world seat

    so_far : Option EndReason
    so_far = if is_some over then over else r.over

    by : (settled turns number r.world r.seat so_far).world.hub ≡ after_calls (settle_calls turns number r.world r.seat) r.world.hub → (b : Bool)
        → (elim b as (λ _. Passed) [ true ↦ record r { over = so_far } | false ↦ settled turns number r.world r.seat so_far ]).world.hub
        ≡ after_calls (elim b as (λ _. List HubCall) [ true ↦ round_calls number world seat | false ↦ round_calls number world seat ++ settle_calls turns number r.world r.seat ]) world.hub
    by rest true = rounds-by number world seat
    by rest false =
        rest ∙ ap (λ (h : Hub). after_calls (settle_calls turns number r.world r.seat) h) (rounds-by number world seat)
        ∙ sym (calls-append (round_calls number world seat) (settle_calls turns number r.world r.seat) world.hub)

pub ways-by : (way : Way) (number : ℕ) (world : World) (seat : Seat) → (passing_of way number world seat).world.hub ≡ after_calls (way_calls way number world seat) world.hub
ways-by (ways.Say n) number world seat = refl
ways-by (ways.Up n) number world seat = refl
ways-by (ways.Emit n) number world seat = outs-by number n world seat
ways-by (ways.Down n) number world seat = refl
ways-by ways.Settle number world seat = settles-by enough number world seat None

pub sessions-by : (way : Way) (world : World) (seat : Seat) → (passes_way way world seat).world.hub ≡ after_calls (with_session (way_calls way) world seat) world.hub
sessions-by way world seat = own seat.session
  where
    own : (o : Option ℕ) → (passed_as way world seat o).world.hub ≡ after_calls (elim o as (λ _. List HubCall) [ None ↦ [] | Some number ↦ way_calls way number world seat ]) world.hub
    own None = refl
    own (Some number) = ways-by way number world seat
