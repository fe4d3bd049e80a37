-- What the calls of a hub add to its entries, and what `give` hands on.
--     MayAddChange, MayAddMoment      at most one entry of the group more, and no other
--     AddsHearing, AddsGoing      one hearing more exactly where a datagram was entered; where a link's rows went
--     octets_of given      how many octets were copied
use Rattle.std.specs.Prelude.{◌≡◌, ◌⊎◌, ℕ, ◌+◌, Bool, true, false, Result, Ok, Err}
use Rattle.pushserver.specs.KeptHubs.{KeptHub}
use Rattle.pushserver.specs.declared.fault.HubFault.{HubFault}
use Rattle.pushserver.specs.declared.given.Given.{Given}
use Rattle.pushserver.specs.declared.given.Given.TheVariants.{Bytes}
use Rattle.pushserver.specs.declared.given.Heard.{Heard}
use Rattle.pushserver.specs.declared.given.Heard.TheVariants.{Entered, Ignored}

-- no session is made, and at most one change
abbrev pub MayAddChange : KeptHub → KeptHub → Type 0
MayAddChange old new = (new.numbers_given ≡ old.numbers_given)
    × ((new.seen.counts ≡ old.seen.counts) ⊎ (new.seen.counts ≡ record old.seen.counts { changes = old.seen.counts.changes + 1 }))

-- no session is made, and at most one moment
abbrev pub MayAddMoment : KeptHub → KeptHub → Type 0
MayAddMoment old new = (new.numbers_given ≡ old.numbers_given)
    × ((new.seen.counts ≡ old.seen.counts) ⊎ (new.seen.counts ≡ record old.seen.counts { moments = old.seen.counts.moments + 1 }))

-- no session is made, and one hearing exactly where the datagram was entered
abbrev pub AddsHearing : Result Heard HubFault → KeptHub → KeptHub → Type 0
AddsHearing (Ok Entered) old new = (new.numbers_given ≡ old.numbers_given) × (new.seen.counts ≡ record old.seen.counts { heard = old.seen.counts.heard + 1 })
AddsHearing (Ok (Ignored why)) old new = (new.numbers_given ≡ old.numbers_given) × (new.seen.counts ≡ old.seen.counts)
AddsHearing (Err fault) old new = (new.numbers_given ≡ old.numbers_given) × (new.seen.counts ≡ old.seen.counts)

-- no session is made, and one hearing exactly where the link's rows went
abbrev pub AddsGoing : Result Bool HubFault → KeptHub → KeptHub → Type 0
AddsGoing (Ok true) old new = (new.numbers_given ≡ old.numbers_given) × (new.seen.counts ≡ record old.seen.counts { heard = old.seen.counts.heard + 1 })
AddsGoing (Ok false) old new = (new.numbers_given ≡ old.numbers_given) × (new.seen.counts ≡ old.seen.counts)
AddsGoing (Err fault) old new = (new.numbers_given ≡ old.numbers_given) × (new.seen.counts ≡ old.seen.counts)

abbrev pub octets_of : Given → ℕ
octets_of (Bytes count) = count
octets_of _ = 0
