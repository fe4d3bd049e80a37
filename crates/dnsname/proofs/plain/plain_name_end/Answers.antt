use Rattle.std.proofs.Common.{◌≡◌, ℕ, ◌≤◌, List, length, Result, Ok, Err, arith}
use Rattle.std.specs.Prelude.{IfOk, IfErr}
use Rattle.dnsname.specs.Names.{Labels, octets}
use Rattle.dnsname.specs.Spelling.{SpellsPlainNameAt, PlainFaultAt}
use Rattle.dnsname.specs.Reading.{plain_name_at}
use Rattle.dnsname.specs.declared.name.NameFault.{NameFault}
use Rattle.dnsname.proofs.Octets.{length-octets}
use Rattle.dnsname.proofs.Standing.{StandsAt-length}
use Rattle.dnsname.proofs.PlainReading.{plain_name_at-name, plain_name_at-fault}
use Rattle.dnsname.proofs.plain.plain_name_end.Goals as goal

end_read : (bytes : List ℕ) (at : ℕ) (result : Result ℕ NameFault) → IfOk result (λ after. (name : Labels) × SpellsPlainNameAt bytes at name after) → IfOk result (λ after. (name : Labels) × (plain_name_at bytes at ≡ Ok (name, after)))
end_read bytes at (Ok after) h = (h.0, plain_name_at-name bytes at after h.0 h.1)
end_read bytes at (Err fault) h = tt

fault_read : (bytes : List ℕ) (at : ℕ) (result : Result ℕ NameFault) → IfErr result (PlainFaultAt bytes at) → IfErr result (λ fault. plain_name_at bytes at ≡ Err fault)
fault_read bytes at (Ok after) h = tt
fault_read bytes at (Err fault) h = plain_name_at-fault bytes at fault h

ends_within : (bytes : List ℕ) (at : ℕ) (result : Result ℕ NameFault) → IfOk result (λ after. (name : Labels) × SpellsPlainNameAt bytes at name after) → IfOk result (λ after. after ≤ length bytes)
ends_within bytes at (Ok after) h = omega (arith, h.1.ends, StandsAt-length bytes at (octets h.0) h.1.spelled, length-octets h.0)
ends_within bytes at (Err fault) h = tt

pub returns-clause-name : goal.returns-clause-name
returns-clause-name c = end_read _ _ _ c.plain_end.ensures.name

pub returns-clause-fault : goal.returns-clause-fault
returns-clause-fault c = fault_read _ _ _ c.plain_end.ensures.fault

pub returns-clause-within : goal.returns-clause-within
returns-clause-within c = ends_within _ _ _ c.plain_end.ensures.name
