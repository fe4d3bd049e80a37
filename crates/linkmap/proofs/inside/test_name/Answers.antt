use Rattle.dnsname.specs.Octets.{labels_of}
use Rattle.linkmap.specs.Names.{is_renamable}
use Rattle.linkmap.proofs.Tests.{name_there, name_tested}
use Rattle.linkmap.proofs.inside.test_name.Goals as goal

pub is_renamable-requires-clause-name : goal.is_renamable-requires-clause-name
is_renamable-requires-clause-name c = (name_there c.args.rdata.now c.args.place c.in-Ok.after c.in-Ok.ensures.spelled.0 c.in-Ok.ensures.spelled.1).0

pub returns-in-Ok-clause-tested : goal.returns-in-Ok-clause-tested
returns-in-Ok-clause-tested c =
    name_tested (is_renamable (labels_of c.args.old.now) (labels_of c.args.new.now)) c.args.rdata.now c.args.place c.in-Ok.after c.in-Ok.ensures.spelled.0 c.is_renamable.result c.in-Ok.ensures.spelled.1 c.is_renamable.ensures
