use Rattle.std.proofs.Common.{sym, ◌∙◌}
use Rattle.recordindex.specs.Owners.{owners_in}
use Rattle.recordindex.proofs.OwnerChanges.{owners-less, owners-same}
use Rattle.recordindex.proofs.changing.take_out.Goals as goal

pub returns-then-not-remove_key-clause-owners : goal.returns-then-not-remove_key-clause-owners
returns-then-not-remove_key-clause-owners g c =
    owners-same c.args.suffixes.now c.args.key.now c.args.index.now.rows c.remove_key.new.index.rows c.requires (sym c.remove_key.ensures.found ∙ c.if-not-remove_key.true) c.remove_key.ensures.rows

pub returns-clause-owners : goal.returns-clause-owners
returns-clause-owners g c =
    c.remove.ensures.owners (owners_in c.remove_key.new.index.rows)
    (owners-less c.args.suffixes.now c.args.key.now c.args.index.now.rows c.remove_key.new.index.rows c.tell_order.ensures.order (sym c.remove_key.ensures.found ∙ c.if-not-remove_key.false) c.requires c.remove_key.ensures.rows)
