-- The homes may stand together with one reverse domain more.
use Rattle.std.proofs.Common.{◌∷◌, [], ◌++◌, map, sym, ap, subst, ◌∙◌}
use Rattle.std.specs.Prelude.{slice_get}
use Rattle.std.proofs.lemmas.List.{with_items_is}
use Rattle.push_base.specs.Cases.{changed_at}
use Rattle.linkcache.specs.Links.{LinkKept}
use Rattle.history.specs.Homes.{home_fault}
use Rattle.history.specs.HeldPlans.{AreKept}
use Rattle.history.specs.Kept.{HomesKept, HasNoRow, state_of}
use Rattle.history.specs.States.{with_reverse}
use Rattle.history.specs.declared.entry.HomeKind.TheVariants as kinds
use Rattle.history.proofs.KeptHomes.{apart-kept, kept-reverse}
use Rattle.history.proofs.LinkSlots.{link_states}
use Rattle.history.proofs.homes.Homes.add_reverse.Goals as goal

pub add_reverse_to-requires-clause-apart : goal.add_reverse_to-requires-clause-apart
add_reverse_to-requires-clause-apart c = λ link at.
    let kept : HomesKept = record { zones = c.self.inside.zones.items; links = c.self.inside.links.items; names = c.self.inside.names.items } in
    let none = ap (λ hs. home_fault hs (c.args.domain, kinds.Reverse)) (sym c.deref.ensures.value) ∙ sym c.fault_of.ensures ∙ c.in_default.is in
    apart-kept kept c.args.domain c.self.invariant none c.args.link link (ap (λ ls. slice_get (link_states ls) c.args.link) (sym c.deref_mut.ensures.value) ∙ at)

pub invariant_of-self-2 : goal.invariant_of-self-2
invariant_of-self-2 c =
    let kept : HomesKept = record { zones = c.self.inside.zones.items; links = c.self.inside.links.items; names = c.self.inside.names.items } in
    let none = ap (λ hs. home_fault hs (c.args.domain, kinds.Reverse)) (sym c.deref.ensures.value) ∙ sym c.fault_of.ensures ∙ c.in_default.is in
    let there = subst (λ (h : HomesKept). HasNoRow (slice_get (state_of h).links c.args.link)) (sym c.self.view_is) c.requires in
    let links = with_items_is c.self.inside.links c.add_reverse_to.new.links (c.add_reverse_to.auto.links ∙ c.deref_mut.ensures.len) in
    let names = c.push_reserved.ensures.items ∙ ap (λ ns. ns ++ (c.in_ok-name.name, kinds.Reverse) ∷ []) c.reserve.ensures.items ∙ ap (λ n. c.self.inside.names.items ++ (n, kinds.Reverse) ∷ []) c.in_ok-name.ensures in
    let made = c.in_ok-add_reverse_to.ensures.ok ∙ ap (λ ls. changed_at c.args.link (with_reverse c.args.domain) (link_states ls)) c.deref_mut.ensures.value in
    subst (λ ls. AreKept (record { zones = c.self.inside.zones.items; links = ls; names = c.push_reserved.new.self.items })) (sym links)
    (kept-reverse kept c.args.link c.args.domain c.add_reverse_to.new.links c.push_reserved.new.self.items c.self.invariant there none made names)
