use Rattle.std.proofs.Common.{sym}
use Rattle.linkmap.proofs.Tests.{fits}
use Rattle.linkmap.proofs.names.fits_renamed.Goals as goal

pub overflow_sub-result : goal.overflow_sub-result
overflow_sub-result c = (fits c.args.name.now c.args.old.now c.args.new.now c.requires.name c.requires.old c.requires.new (sym c.if-spelled_ends_in.ensures)).short

pub returns-then-spelled_ends_in : goal.returns-then-spelled_ends_in
returns-then-spelled_ends_in c = (fits c.args.name.now c.args.old.now c.args.new.now c.requires.name c.requires.old c.requires.new (sym c.if-spelled_ends_in.ensures)).test
