-- Octets into a client, and its steps.
--     ends_steps step      whether no step follows: the client waits, or has closed
--     Steps kept later      steps until the client waits or has closed
--     IsDelivered d later went_in, Delivers kept octets later went_in      octets went into a client
use Rattle.std.specs.Prelude.{◌≡◌, ℕ, Bool, true, false, List}
use Rattle.pushclient.specs.declared.client.Step.{Step}
use Rattle.pushclient.specs.declared.client.Step.TheVariants.{Waiting, Closed}
use Rattle.pushclient.specs.Clients.{Client}
use Rattle.pushclient.specs.Rule.{KeptClient, StandsFor}
use Rattle.replay.specs.PassedOctets.{Delivered, to_client, stepped, enough}

-- whether no step follows one: the client waits, or has closed
abbrev pub ends_steps : Step → Bool
ends_steps Waiting = true
ends_steps (Closed reason) = true
ends_steps _ = false

-- of every plain client that is stood for, what is kept later stands for the one behind its steps
unfoldable pub Steps : KeptClient → KeptClient → Type 0
Steps kept later = (plain : Client) → StandsFor kept plain → StandsFor later (stepped enough plain)

-- so many octets went in, and what is kept stands for the client behind them
pub record IsDelivered (d : Delivered) (later : KeptClient) (went_in : ℕ) : Type 0 where
  pub counts : went_in ≡ d.count
  pub stands : StandsFor later d.client

unfoldable pub Delivers : KeptClient → List ℕ → KeptClient → ℕ → Type 0
Delivers kept octets later went_in = (plain : Client) → StandsFor kept plain → IsDelivered (to_client octets plain) later went_in
