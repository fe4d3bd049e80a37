-- A new connection, on which nothing was asked yet, fits together.
use Rattle.std.proofs.Common.{ℕ, [], refl, arith}
use Rattle.std.specs.List.{IsDistinct}
use Rattle.pushserver.specs.PlainHubs.{Hub}
use Rattle.flight_laws.specs.Laws.{new_ends}
use Rattle.inflight.specs.Flight.{IsSoundClient, Downward, Upward, FitsTogether, InFlight}
use Rattle.pushclient.specs.ServerMessages.{CanBeGranted}

module _ (hub : Hub) (opened connected : ℕ) where
  client : IsSoundClient (new_ends hub opened connected)
  unfolding IsDistinct
  client = record {
    wishes = record { few = omega arith; questions = tt; fit = tt };
    ids = tt;
    distinct = λ id. omega arith;
    last = omega arith;
    asked = tt;
    begun = tt;
  }

  down : Downward (new_ends hub opened connected) [] []
  down = record {
    readable = tt;
    fits = tt;
    awaited = λ id. omega arith;
    notices = tt;
    seen = tt;
    told = tt;
    homeless = tt;
    established = refl;
    speaks = tt;
    first = refl;
  }

  up : Upward (new_ends hub opened connected) [] []
  up = record {
    once = λ id. refl;
    requests = tt;
    answers = tt;
    let_go = tt;
    let_go_once = λ id. omega arith;
    held = tt;
    active = tt;
    accepted = refl;
    no_delay = tt;
  }

  pub fits-new : CanBeGranted hub.timers → FitsTogether (new_ends hub opened connected) [] [] []
  fits-new timers = record { timers = timers; client = client; down = down; up = λ goes_on. up }

  pub begins : CanBeGranted hub.timers → InFlight (new_ends hub opened connected) [] []
  begins timers = record {
    taken = [];
    flying = [];
    ups = [];
    made = refl;
    whole_down = refl;
    whole_up = λ goes_on. refl;
    fit = fits-new timers;
  }
