use Rattle.std.proofs.Common.{refl, sym, ◌∙◌}
use Rattle.rrset.specs.RecordSet.{put}
use Rattle.recordindex.specs.Owners.{owners_in}
use Rattle.recordindex.proofs.OwnerChanges.{owners-again, owners-new}
use Rattle.recordindex.proofs.changing.count_ahead.Goals as goal

pub returns-then-is_shown-clause-owners : goal.returns-then-is_shown-clause-owners
returns-then-is_shown-clause-owners c = λ shown.
    owners-again c.args.suffixes.now c.args.key.now shown c.args.index.now.rows (put c.args.key.now shown c.args.index.now.rows) c.tell_order.ensures.order (sym c.is_shown.ensures ∙ c.if-is_shown.true)
    c.requires.owners refl

pub returns-clause-owners : goal.returns-clause-owners
returns-clause-owners c = λ shown.
    owners-new c.put.new.self c.args.key.now shown c.args.index.now.rows (put c.args.key.now shown c.args.index.now.rows) (sym c.is_shown.ensures ∙ c.if-is_shown.false)
    (c.put.ensures.owners (owners_in c.args.index.now.rows) c.requires.owners) refl
