-- What the walk over lines stands on.
--     way-keeps      of each way by which octets pass
use Rattle.std.proofs.Common.{ℕ, None}
use Rattle.scripts.specs.declared.line.Way.{Way}
use Rattle.scripts.specs.declared.line.Way.TheVariants as ways
use Rattle.replay.specs.PassedOctets.{enough}
use Rattle.replay.specs.Text.{passing_of}
use Rattle.script_laws.specs.Reached.{ReachedOnesGoOn, ReachedOnesAreSound, ReachedSessions, BegunOnesTellSince, PointsRise}
use Rattle.script_laws.specs.Numbers.{OwnCallsAreForNoOther, SeatsComeFit}
use Rattle.script_laws.specs.Worlds.{SeatsPass, HubsGoOn, SeatsOpen, PeersOpen, SeatsAreCut, SeatsPassAndAreCut, PeersAreCut}
use Rattle.script_laws.specs.Walk.{Keeps, OfSays, OfUps, OfEmits, OfDowns, SettlesPass, ExchangesAreCalls, AsksStay, MomentsStay, WishesStaySound, NewOnesAreJoined, CutsStandAlone}

pub record LineLaws : Type 0 where
  pub go_on : ReachedOnesGoOn
  pub sound : ReachedOnesAreSound
  pub sessions : ReachedSessions
  pub since : BegunOnesTellSince
  pub rise : PointsRise
  pub own : OwnCallsAreForNoOther
  -- the world behind a change
  pub seats_pass : SeatsPass
  pub hubs_go_on : HubsGoOn
  pub seats_open : SeatsOpen
  pub peers_open : PeersOpen
  pub seats_are_cut : SeatsAreCut
  pub seats_pass_and_are_cut : SeatsPassAndAreCut
  pub seats_come : SeatsComeFit
  pub peers_are_cut : PeersAreCut
  -- a seat behind a change
  pub says : OfSays Keeps
  pub ups : OfUps Keeps
  pub emits : OfEmits Keeps
  pub downs : OfDowns Keeps
  pub settles : SettlesPass
  pub exchanges : ExchangesAreCalls
  pub asks : AsksStay
  pub moments : MomentsStay
  pub wishes : WishesStaySound
  pub new_ones : NewOnesAreJoined
  pub cuts : CutsStandAlone

pub way-keeps : LineLaws → (way : Way) (number : ℕ) → Keeps (passing_of way number) number
way-keeps laws (ways.Say n) number = laws.says n number
way-keeps laws (ways.Up n) number = laws.ups n number
way-keeps laws (ways.Emit n) number = laws.emits n number
way-keeps laws (ways.Down n) number = laws.downs n number
way-keeps laws ways.Settle number = laws.settles enough number None (λ reason none. absurd cc)
