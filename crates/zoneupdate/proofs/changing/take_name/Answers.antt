use Rattle.std.proofs.Common.{rules, not}
use Rattle.std.proofs.lemmas.Fn.{always_returns_same}
use Rattle.zoneupdate.specs.Changing.{goes}
use Rattle.zoneupdate.proofs.changing.take_name.Goals as goal

pub returns : goal.returns
returns c = c.retain.ensures.rows (λ key. not (goes c.args.apex.now c.args.owner.now key)) (always_returns_same _ _ _ (λ a r f' k. search rules))
