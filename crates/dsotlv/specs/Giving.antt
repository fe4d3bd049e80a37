-- What calls give unless memory runs out, by cases on their results; and what a notice that is written has.
--     GivesDso, GivesPush      what is read, or the very fault
--     FitsARecord      a notice whose rdata has a length that fits its field
use Rattle.std.specs.Prelude.{◌<◌, ◌^◌, length, Result}
use Rattle.push_base.specs.Giving.{GivesUnless}
use Rattle.dsotlv.specs.declared.message.DsoFault.{DsoFault}
use Rattle.dsotlv.specs.declared.message.DsoFault.TheVariants as dso
use Rattle.dsotlv.specs.declared.message.PushFault.{PushFault}
use Rattle.dsotlv.specs.declared.message.PushFault.TheVariants as push
use Rattle.dsotlv.specs.declared.message.Notice.{Notice}
use Rattle.dsotlv.specs.declared.message.Notice.TheVariants.{Add, RemoveOne}

-- a fault of a message that is want of memory, or else one of these; so of data of a TLV
abbrev pub IsDsoMemoryOr : (DsoFault → Type 0) → DsoFault → Type 0
IsDsoMemoryOr P dso.NoMemory = Unit {0}
IsDsoMemoryOr P fault = P fault

abbrev pub IsPushMemoryOr : (PushFault → Type 0) → PushFault → Type 0
IsPushMemoryOr P push.NoMemory = Unit {0}
IsPushMemoryOr P fault = P fault

-- what is read of a DSO message
abbrev pub GivesDso : {X : Type 0} → Result X DsoFault → Result X DsoFault → Type 0
GivesDso result read = GivesUnless IsDsoMemoryOr result read

-- what is read of the data of a TLV
abbrev pub GivesPush : {X : Type 0} → Result X PushFault → Result X PushFault → Type 0
GivesPush result read = GivesUnless IsPushMemoryOr result read

-- rdata that is written has a length that fits its field (RFC 1035, 3.2.1)
abbrev pub FitsARecord : Notice → Type 0
FitsARecord (Add rr) = length rr.rdata < 2 ^ 16
FitsARecord (RemoveOne rr) = length rr.rdata < 2 ^ 16
FitsARecord notice = Unit {0}
