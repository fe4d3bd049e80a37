use Rattle.std.proofs.Common.{not, rules, of_calls}
use Rattle.dsotlv.specs.Notices.{removed_by}
use Rattle.dsotlv.specs.declared.message.Notice.TheVariants.{RemoveClass}
use Rattle.mirror.proofs.AfterNotices.{kept-from_clause}
use Rattle.mirror.proofs.notices.remove_class.Goals as goal

pub returns-clause-rows : goal.returns-clause-rows
returns-clause-rows c = kept-from_clause (λ key. not (removed_by (RemoveClass c.args.owner.now c.args.class) key)) _ _ c.retain.ensures.rows (λ a b f k. search (rules, of_calls))
