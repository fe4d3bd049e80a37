use Rattle.std.proofs.Common.{sym, subst}
use Rattle.linkcache.specs.Sound.{IsLinkRow}
use Rattle.linkcache.proofs.SoundSteps.{all_at}
use Rattle.linkcache.proofs.showing.put_shown_rows.Goals as goal

pub put_shown-requires : goal.put_shown-requires
put_shown-requires c = subst (IsLinkRow c.args.rules.now) (sym c.rows-item.is) (all_at (IsLinkRow c.args.rules.now) c.args.rows.now c.rows.key-index c.rows-item.result c.requires c.rows-test.true)
