-- The homes may stand together with one zone more.
use Rattle.std.proofs.Common.{[], ◌∷◌, ◌++◌, sym, ap, ◌∙◌}
use Rattle.history.specs.Homes.{home_fault}
use Rattle.history.specs.Kept.{HomesKept}
use Rattle.history.specs.declared.entry.HomeKind.TheVariants as kinds
use Rattle.history.proofs.KeptHomes.{kept-zone-as}
use Rattle.history.proofs.homes.Homes.add_zone.Goals as goal

pub invariant_of-self-2 : goal.invariant_of-self-2
invariant_of-self-2 c =
    let kept : HomesKept = record { zones = c.self.inside.zones.items; links = c.self.inside.links.items; names = c.self.inside.names.items } in
    let none = ap (λ hs. home_fault hs (c.args.zone.state.apex, kinds.Zone)) (sym c.deref.ensures.value) ∙ ap (λ n. home_fault c.deref.result.now (n, kinds.Zone)) (sym c.apex.ensures) ∙ sym c.fault_of.ensures ∙ c.in_default.is in
    kept-zone-as kept c.push_reserved.new.self.items c.put_behind.new.homes.items c.args.zone c.self.invariant none (c.push_reserved.ensures.items ∙ ap (λ zs. zs ++ c.args.zone ∷ []) c.reserve.ensures.items)
    (c.in_ok-put_behind.ensures.ok ∙ ap (λ n. c.self.inside.names.items ++ (n, kinds.Zone) ∷ []) c.apex-2.ensures)

pub returns-clause-ok : goal.returns-clause-ok
returns-clause-ok c =
    let zones = c.push_reserved.ensures.items ∙ ap (λ zs. zs ++ c.args.zone ∷ []) c.reserve.ensures.items in
    let names = c.in_ok-put_behind.ensures.ok ∙ ap (λ n. c.self.inside.names.items ++ (n, kinds.Zone) ∷ []) c.apex-2.ensures in
    (λ i. record { zones = zones i; links = c.self.inside.links.items; names = names i })
    ∙ ap (λ (h : HomesKept). record h { zones = h.zones ++ c.args.zone ∷ []; names = h.names ++ (c.args.zone.state.apex, kinds.Zone) ∷ [] }) c.self.view_is
