-- A client owes no more behind octets that pass.
--     OwesNoMore passing number
--     lowers-owe, settles-owe      behind what leaves less to do, and behind a settle
use Rattle.std.proofs.Common.{ℕ, zero, suc, ◌≤◌, ◌==◌, ◌&&◌, not, Bool, true, false, Option, is_some, arith, le_trans}
use Rattle.std.specs.Prelude.{if◌then◌else◌}
use Rattle.dsosession.specs.declared.session.EndReason.{EndReason}
use Rattle.pushserver.specs.PlainHubs.{Session}
use Rattle.pushclient.specs.Clients.{Connection}
use Rattle.replay.specs.World.{World, Seat}
use Rattle.replay.specs.PassedOctets.{Passed, round, settled}
use Rattle.replay.specs.Promises.{ShownPoints}
use Rattle.script_laws.specs.Reached.{IsReached, ReachedOnesGoOn}
use Rattle.script_laws.specs.Joined.{IsJoined, PassesSo}
use Rattle.script_laws.specs.Turns.{owes, LowersAlways}
use Rattle.script_laws.specs.Walk.{RoundsPass}
use Rattle.script_laws.proofs.emits.Passing.{reached-behind}

abbrev pub OwesNoMore : (World → Seat → Passed) → ℕ → Type 0
OwesNoMore passing number = (world : World) (shown : ShownPoints) (seat : Seat) (session : Session) (c : Connection) → IsReached world.hub → IsJoined world.hub shown seat number session c → owes (passing world seat).seat.client ≤ owes seat.client

pub lowers-owe : (passing : World → Seat → Passed) (number : ℕ) → LowersAlways passing number → OwesNoMore passing number
lowers-owe passing number low world shown seat session c reached j = (low world shown seat session c reached j).owed

module _ (reached-on : ReachedOnesGoOn) (rounds : RoundsPass) (rounds-low : (number : ℕ) → LowersAlways (round number) number) where
  pub settles-owe : (turns number : ℕ) (over : Option EndReason) → OwesNoMore (λ world seat. settled turns number world seat over) number
  settles-owe zero number over world shown seat session c reached j = omega arith
  settles-owe (suc turns) number over world shown seat session c reached j =
      by (r.count == 0 && not r.reacted) (settles-owe turns number so_far r.world shown r.seat one.later one.connection (reached-behind reached-on number world shown seat c r reached one) one.joined)
    where
      r : Passed
      r = round number world seat

      one : PassesSo number world shown seat c r
      one = rounds number world shown seat session c reached j

      less : owes r.seat.client ≤ owes seat.client
      less = (rounds-low number world shown seat session c reached j).owed

      so_far : Option EndReason
      so_far = if is_some over then over else r.over

      by : (b : Bool) → owes (settled turns number r.world r.seat so_far).seat.client ≤ owes r.seat.client
          → owes (elim b as (λ _. Passed) [ true ↦ record r { over = so_far } | false ↦ settled turns number r.world r.seat so_far ]).seat.client ≤ owes seat.client
      by true others = less
      by false others = le_trans others less
