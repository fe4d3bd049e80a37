-- What a call gives, unless memory runs out.
--     GivesWire, GivesHearing      what reading gives, the fault with its place
--     shape_test      which records' rdata is read by shape
use Rattle.std.specs.Prelude.{ℕ, Bool, Result}
use Rattle.push_base.specs.Giving.{GivesUnless}
use Rattle.dnswire.specs.declared.message.WireFault.{WireFault}
use Rattle.dnswire.specs.declared.message.WireFault.TheVariants as wire
use Rattle.dnswire.specs.declared.message.HearFault.{HearFault}
use Rattle.dnswire.specs.declared.message.HearFault.TheVariants as hear
use Rattle.dnswire.specs.declared.record.Shaped.{Shaped}
use Rattle.dnswire.specs.declared.record.Shaped.TheVariants as shaped
use Rattle.dnswire.specs.Reading.{update_shape, heard_shape, query_shape}

-- a fault of a message that is want of memory, or else one of these; so of a datagram
abbrev pub IsWireMemoryOr : (WireFault → Type 0) → WireFault → Type 0
IsWireMemoryOr P wire.NoMemory = Unit {0}
IsWireMemoryOr P fault = P fault

abbrev pub IsHearMemoryOr : (HearFault → Type 0) → HearFault → Type 0
IsHearMemoryOr P hear.NoMemory = Unit {0}
IsHearMemoryOr P fault = P fault

-- what is read of a message
abbrev pub GivesWire : {X : Type 0} → Result X WireFault → Result X WireFault → Type 0
GivesWire result read = GivesUnless IsWireMemoryOr result read

-- what is read of a datagram
abbrev pub GivesHearing : {X : Type 0} → Result X HearFault → Result X HearFault → Type 0
GivesHearing result read = GivesUnless IsHearMemoryOr result read

abbrev pub shape_test : Shaped → ℕ → ℕ → Bool
shape_test shaped.Update = update_shape
shape_test shaped.Hearing = heard_shape
shape_test shaped.Query = query_shape
