-- The homes may stand together with one link more.
use Rattle.std.proofs.Common.{◌∷◌, [], ◌++◌, sym, ap, ◌∙◌}
use Rattle.history.specs.Homes.{home_fault}
use Rattle.history.specs.Kept.{HomesKept}
use Rattle.history.specs.declared.entry.HomeKind.TheVariants as kinds
use Rattle.history.proofs.KeptHomes.{kept-link-as}
use Rattle.history.proofs.homes.Homes.add_link.Goals as goal

pub invariant_of-self-2 : goal.invariant_of-self-2
invariant_of-self-2 c =
    let kept : HomesKept = record { zones = c.self.inside.zones.items; links = c.self.inside.links.items; names = c.self.inside.names.items } in
    let none = ap (λ hs. home_fault hs (c.args.domain, kinds.Link)) (sym c.deref.ensures.value) ∙ sym c.fault_of.ensures ∙ c.in_default.is in
    kept-link-as kept c.push_reserved.new.self.items c.put_behind.new.homes.items c.new.result c.args.domain c.args.cap c.self.invariant none c.new.ensures.rules
    (c.push_reserved.ensures.items ∙ ap (λ ls. ls ++ c.new.result ∷ []) c.reserve.ensures.items) c.in_ok-put_behind.ensures.ok
