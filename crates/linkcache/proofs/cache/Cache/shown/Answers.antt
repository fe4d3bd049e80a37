use Rattle.std.proofs.Common.{sym, subst}
use Rattle.linkcache.specs.Rows.{LinkRows}
use Rattle.linkcache.specs.Sound.{AreLinkRows}
use Rattle.linkcache.proofs.cache.Cache.shown.Goals as goal

pub shown_blocks-requires : goal.shown_blocks-requires
shown_blocks-requires c = subst (λ (l : LinkRows). AreLinkRows c.self.inside.rules l) (sym c.blocks-2.ensures.rows) c.self.invariant.sound.sound
