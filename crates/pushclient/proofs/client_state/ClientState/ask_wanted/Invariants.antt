use Rattle.std.proofs.Common.{◌≡◌, drop}
use Rattle.pushclient.specs.Kept.{asked_wanted}
use Rattle.pushclient.proofs.client_state.ClientState.ask_wanted.Given as goal

abbrev pub invariant-wishes : goal.invariant-wishes
invariant-wishes l = asked_wanted (drop l.wish-index l.wishes) l.self ≡ asked_wanted l.wishes l.fn.self
