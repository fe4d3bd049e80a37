use Rattle.std.proofs.Common.{◌≡◌, ◌<◌, ◌≤◌, length, drop, get_or, subst, ap, ◌∙◌, sym, arith, length-drop}
use Rattle.push_base.specs.declared.mem_item.MemItem.TheVariants.{Bytes, Quiet}
use Rattle.push_base.specs.LineSupply.{after_giving}
use Rattle.push_base.specs.Items.{first_octets}
use Rattle.push_base.proofs.LineSupplyLemmas.{stands_behind, stands_inside, place_inside, part_given, most_left}
use Rattle.push_base.proofs.line_supply.LineSupply.give.Goals as goal

pub invariant_of-self : goal.invariant_of-self
invariant_of-self c =
    let s = c.self.inside in
    let inside : s.item < length s.items.items = subst (λ l. s.item < length l) c.deref.ensures.value c.in-Some-Bytes.ensures.lookup.3.0 in
    record {
      item = omega arith;
      place = omega arith;
      stands = stands_behind s.items.items s.item s.place s.ended s.lost inside c.self.invariant.stands;
    }

pub invariant_of-self-else-count-len : goal.invariant_of-self-else-count-len
invariant_of-self-else-count-len c =
    let s = c.self.inside in
    let inside : s.item < length s.items.items = subst (λ l. s.item < length l) c.deref.ensures.value c.in-Some-Bytes.ensures.lookup.3.0 in
    let is : Bytes c.in-Some-Bytes.octets ≡ get_or s.items.items s.item Quiet =
    sym c.in-Some-Bytes.field-0-is ∙ c.in-Some-Bytes.ensures.lookup.3.1 Quiet ∙ ap (λ l. get_or l s.item Quiet) c.deref.ensures.value in
    let at_most : c.args.count ≤ length (drop s.place c.in-Some-Bytes.octets) =
    most_left s.items.items s.item s.place c.args.count c.in-Some-Bytes.octets inside is (subst (λ v. c.args.count ≤ length (first_octets v.left)) (sym c.self.view_is) c.requires.most) in
    let part : c.args.count < length (drop s.place c.in-Some-Bytes.octets) = omega (arith, at_most, length-drop s.place c.in-Some-Bytes.octets) in
    record {
      item = c.self.invariant.item;
      place = place_inside s.items.items s.item s.place c.args.count c.in-Some-Bytes.octets inside is part;
      stands = stands_inside s.items.items s.item s.place c.args.count c.in-Some-Bytes.octets s.ended s.lost inside is part c.self.invariant.stands;
    }

pub returns-else-count-len : goal.returns-else-count-len
returns-else-count-len c =
    let s = c.self.inside in
    let inside : s.item < length s.items.items = subst (λ l. s.item < length l) c.deref.ensures.value c.in-Some-Bytes.ensures.lookup.3.0 in
    let is : Bytes c.in-Some-Bytes.octets ≡ get_or s.items.items s.item Quiet =
    sym c.in-Some-Bytes.field-0-is ∙ c.in-Some-Bytes.ensures.lookup.3.1 Quiet ∙ ap (λ l. get_or l s.item Quiet) c.deref.ensures.value in
    let at_most : c.args.count ≤ length (drop s.place c.in-Some-Bytes.octets) =
    most_left s.items.items s.item s.place c.args.count c.in-Some-Bytes.octets inside is (subst (λ v. c.args.count ≤ length (first_octets v.left)) (sym c.self.view_is) c.requires.most) in
    let part : c.args.count < length (drop s.place c.in-Some-Bytes.octets) = omega (arith, at_most, length-drop s.place c.in-Some-Bytes.octets) in
    part_given s.items.items s.item s.place c.args.count c.in-Some-Bytes.octets s.ended s.lost inside is part
    ∙ ap (after_giving c.args.count) c.self.view_is
