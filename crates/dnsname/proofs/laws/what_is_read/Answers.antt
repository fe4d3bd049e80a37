use Rattle.dnsname.proofs.PlainReading.{plain_name_at-name, plain_name_at-fault}
use Rattle.dnsname.proofs.PointerReading.{name_in-name, name_in-fault}
use Rattle.dnsname.proofs.FoundNames.{below_at, name_in-found, plain_name_at-found}
use Rattle.dnsname.proofs.TextFunctions.{name_found, name_there}
use Rattle.dnsname.proofs.laws.what_is_read.Goals as goal

pub returns-clause-name : goal.returns-clause-name
returns-clause-name c = name_in-name

pub returns-clause-fault : goal.returns-clause-fault
returns-clause-fault c = name_in-fault

pub returns-clause-found : goal.returns-clause-found
returns-clause-found c = λ piece message at after name below below_m. name_in-found piece message at after name (below_at piece below) (below_at message below_m)

pub returns-clause-plain_name : goal.returns-clause-plain_name
returns-clause-plain_name c = plain_name_at-name

pub returns-clause-plain_found : goal.returns-clause-plain_found
returns-clause-plain_found c = λ bytes at after name below. plain_name_at-found bytes at after name (below_at bytes below)

pub returns-clause-plain_fault : goal.returns-clause-plain_fault
returns-clause-plain_fault c = plain_name_at-fault

pub returns-clause-text : goal.returns-clause-text
returns-clause-text c = λ text name. (name_found text name, name_there text name)
