-- A client whose connection is cut stands alone.
--     cuts-stand-alone
use Rattle.std.proofs.Common.{◌≤◌, Bool, true, false, ◌||◌, refl, le_trans}
use Rattle.std.specs.Prelude.{IsTrue, map}
use Rattle.pushserver.specs.Hubs.{newest}
use Rattle.pushserver.proofs.hub_steps.Pairs.{all-weaken}
use Rattle.inflight.specs.Messages.{made_of}
use Rattle.replay.specs.Promises.{point_taken}
use Rattle.script_laws.specs.Walk.{CutsStandAlone}
use Rattle.script_laws.proofs.downs.Points.{lies, taken-below}
use Rattle.script_laws.proofs.downs.Wishes.{sound-cut}

or-true : (b : Bool) → IsTrue (b || true)
or-true true = refl
or-true false = refl

pub cuts-stand-alone : CutsStandAlone
cuts-stand-alone hub shown seat number session c later reached j rises = record {
  client = or-true seat.is_lone;
  wishes = λ own. sound-cut seat.client j.flight.fit.client.wishes;
  up_wire = refl;
  down_wire = refl;
  reached = refl;
  filled = refl;
  shown_before = λ question.
      let most = taken-below hub j.start session question j.flight.taken (map (made_of hub.timers) j.flight.flying) j.flight.made (lies hub number j.start session j.began j.there) in
      all-weaken (λ p. p ≤ point_taken j.start j.flight.taken question) (λ p. p ≤ newest later) (λ p low. le_trans low (le_trans most rises)) (shown question) (j.shown_before question);
}
