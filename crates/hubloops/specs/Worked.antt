-- Calls for examples of rounds.
use Rattle.std.specs.Prelude.{[], ◌∷◌, Some, None, Ok, Err}
use Rattle.pushserver.specs.declared.given.Heard.TheVariants.{Entered}
use Rattle.pushserver.specs.declared.fault.HubFault.TheVariants as faults
use Rattle.hubloops.specs.Calls.{HubCall, Received, Asked}

abbrev pub hears_one : HubCall
hears_one = Received 0 (1 ∷ []) (Ok Entered)

abbrev pub hears_none : HubCall
hears_none = Received 0 (1 ∷ []) (Err faults.NoMemory)

abbrev pub asks_one : HubCall
asks_one = Asked 0 (9 ∷ 9 ∷ []) (2 ∷ 9 ∷ []) (Ok (Some 1))

abbrev pub asks_nothing : HubCall
asks_nothing = Asked 0 (9 ∷ 9 ∷ []) (9 ∷ 9 ∷ []) (Ok None)

abbrev pub asks_none : HubCall
asks_none = Asked 0 (9 ∷ 9 ∷ []) (9 ∷ 9 ∷ []) (Err faults.NoMemory)
