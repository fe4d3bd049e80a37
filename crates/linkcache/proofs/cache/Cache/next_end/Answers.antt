use Rattle.std.proofs.Common.{◌∙◌, T, sym, ap, subst}
use Rattle.linkcache.specs.Links.{LinkKept}
use Rattle.linkcache.specs.Rows.{next_end}
use Rattle.linkcache.proofs.NextEnd.{next_is}
use Rattle.linkcache.proofs.cache.Cache.next_end.Goals as goal

pub returns : goal.returns
returns c =
    c.next.ensures.moment
    ∙ sym (next_is c.self.inside.ends.deadlines c.self.inside.rows.rows c.next.ensures.order (subst T (sym c.self.invariant.sound.order) tt) c.self.invariant.ends)
    ∙ ap (λ (k : LinkKept). next_end k.state.rows) c.self.view_is
