use Rattle.std.proofs.Common.{◌≡◌, ℕ, suc, List, ◌∷◌, length, map, sym, ap, ◌∙◌, subst, arith}
use Rattle.std.proofs.lemmas.List.{length-map}
use Rattle.hublock.specs.Feeds.{added, each}
use Rattle.serving.proofs.Finishing.{LinksBack, back_begun, back_count, back_ended, back_failed, back_more, none_mapped, part_back}
use Rattle.serving.proofs.closing.finish_links.Goals as goal

pub hearings-preserved : goal.hearings-preserved
hearings-preserved g c =
    let steps : map (λ h. h.link) c.hearings.hearing-iterator.rest.items ≡ c.in-Some.hearing.link ∷ map (λ h. h.link) c.next.new.self.rest.items =
    ap (λ hs. map (λ h. h.link) hs) c.in-Some.ensures.steps.0 in
    let fewer : length c.hearings.hearing-iterator.rest.items ≡ suc (length c.next.new.self.rest.items) = ap (λ hs. length hs) c.in-Some.ensures.steps.0 in
    record {
      parts = part_back c.hearings.feed.parts c.finish_link-end.result.1.parts _ (length c.hearings.hearing-iterator.rest.items) (length c.next.new.self.rest.items) c.finish_link-end.ensures.parts fewer c.hearings.invariant.parts;
      back = back_more g.O.Links.Datagrams.faults (map (λ h. h.link) c.args.hearings.items) (map (λ h. h.link) c.next.new.self.rest.items) (record { link = c.in-Some.hearing.link; datagrams = c.finish_link-end.result.2 })
          c.finish_link-end.result.0 c.args.links.now.items c.hearings.links.items c.put_back.new.links.items c.hearings.place c.hearings.noted.starved c.note.new.noted.starved c.hearings.noted.ends.items c.note.new.noted.ends.items
          (subst (λ (ns : List ℕ). LinksBack g.O.Links.Datagrams.faults (map (λ h. h.link) c.args.hearings.items) ns c.args.links.now.items c.hearings.links.items c.hearings.place c.hearings.noted.starved c.hearings.noted.ends.items) steps c.hearings.invariant.back)
          c.put_back.ensures.items c.note.ensures c.finish_link-end.ensures.failed;
      place = omega (arith, c.put_back.ensures.len, c.hearings.invariant.place);
      room = omega (arith, c.put_back.ensures.len, c.put_back.ensures.room, c.hearings.invariant.room, fewer);
    }

pub hearings-init : goal.hearings-init
hearings-init g c =
    let steps : map (λ h. h.link) c.into_iter-hearing-iterator.result.rest.items ≡ map (λ h. h.link) c.args.hearings.items =
    ap (λ hs. map (λ h. h.link) hs) c.into_iter-hearing-iterator.ensures.into_iter_gives.0 in
    let many : length c.into_iter-hearing-iterator.result.rest.items ≡ c.args.hearings.len = ap (λ hs. length hs) c.into_iter-hearing-iterator.ensures.into_iter_gives.0 ∙ sym c.args.hearings.ok.0 in
    record {
      parts = ap (λ (n : ℕ). added c.args.feed.parts (each n)) many;
      back = subst (λ (ns : List ℕ). LinksBack g.O.Links.Datagrams.faults (map (λ h. h.link) c.args.hearings.items) ns c.args.links.now.items c.args.links.now.items 0 c.args.noted.now.starved c.args.noted.now.ends.items) (sym steps)
          (back_begun g.O.Links.Datagrams.faults (map (λ h. h.link) c.args.hearings.items) c.args.links.now.items c.args.noted.now.starved c.args.noted.now.ends.items c.requires.none);
      place = omega arith;
      room = omega (arith, many, c.requires.room);
    }

pub returns-clause-count : goal.returns-clause-count
returns-clause-count g c = λ fresh.
    let none : length c.hearings.hearing-iterator.rest.items ≡ 0 = sym c.hearings.hearing-iterator.rest.ok.0 ∙ c.in-None.ensures.steps.0 in
    back_count g.O.Links.Datagrams.faults (map (λ h. h.link) c.args.hearings.items) c.args.links.now.items c.hearings.links.items c.hearings.place c.hearings.noted.starved c.hearings.noted.ends.items
    (subst (λ (ns : List ℕ). LinksBack g.O.Links.Datagrams.faults (map (λ h. h.link) c.args.hearings.items) ns c.args.links.now.items c.hearings.links.items c.hearings.place c.hearings.noted.starved c.hearings.noted.ends.items)
    (none_mapped (λ h. h.link) c.hearings.hearing-iterator.rest.items none) c.hearings.invariant.back) fresh
    ∙ (length-map c.args.hearings.items (λ h. h.link) ∙ sym c.args.hearings.ok.0)

pub returns-clause-failed : goal.returns-clause-failed
returns-clause-failed g c = λ fresh any.
    back_failed g.O.Links.Datagrams.faults (map (λ h. h.link) c.args.hearings.items) (map (λ h. h.link) c.hearings.hearing-iterator.rest.items) c.args.links.now.items c.hearings.links.items c.hearings.place c.hearings.noted.starved c.hearings.noted.ends.items c.hearings.invariant.back fresh any

pub returns-clause-links : goal.returns-clause-links
returns-clause-links g c =
    let none : length c.hearings.hearing-iterator.rest.items ≡ 0 = sym c.hearings.hearing-iterator.rest.ok.0 ∙ c.in-None.ensures.steps.0 in
    back_ended g.O.Links.Datagrams.faults (map (λ h. h.link) c.args.hearings.items) c.args.links.now.items c.hearings.links.items c.hearings.place c.hearings.noted.starved c.hearings.noted.ends.items
    (subst (λ (ns : List ℕ). LinksBack g.O.Links.Datagrams.faults (map (λ h. h.link) c.args.hearings.items) ns c.args.links.now.items c.hearings.links.items c.hearings.place c.hearings.noted.starved c.hearings.noted.ends.items)
    (none_mapped (λ h. h.link) c.hearings.hearing-iterator.rest.items none) c.hearings.invariant.back)
