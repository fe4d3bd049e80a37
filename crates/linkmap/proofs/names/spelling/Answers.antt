use Rattle.dnsname.proofs.Spellings.{spells, view_of}
use Rattle.linkmap.proofs.names.spelling.Goals as goal

pub returns-clause-spells : goal.returns-clause-spells
returns-clause-spells c = spells _ _ c.octets.ensures.name c.octets.ensures.octets

pub returns-clause-labels : goal.returns-clause-labels
returns-clause-labels c = view_of _ _ c.octets.ensures.name.labels c.octets.ensures.octets
