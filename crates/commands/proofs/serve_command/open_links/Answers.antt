use Rattle.std.proofs.Common.{◌≡◌, ℕ, Option, length, List, ◌∷◌, [], ◌++◌, ◌+◌, false, map, take, drop, string_bytes, sym, ◌∙◌, ap, subst, arith}
use Rattle.std.proofs.lemmas.List.{length-map}
use Rattle.push_outside.specs.Outside.{Telling}
use Rattle.scripts.specs.Lines.{Word}
use Rattle.configurations.specs.declared.server_config.FedLink.{FedLink}
use Rattle.commands.specs.Serving.{AddsAll, HearsBy}
use Rattle.commands.proofs.Serving.{hears_more, mapped_parts, mapped_turn}
use Rattle.commands.proofs.Returning.{adds_one, links_failed}
use Rattle.commands.proofs.serve_command.open_links.Goals as goal

pub feeds-preserved : goal.feeds-preserved
feeds-preserved g c = record {
  numbers = c.in_default.ensures.numbers ∙ ap (λ (ns : List ℕ). ns ++ c.feed-item.result.link ∷ []) c.feeds.invariant.numbers
      ∙ sym (mapped_turn (λ (f : FedLink). f.link) c.args.feeds.now c.feeds.feed-index c.feed-item.result c.feeds-test.true c.feed-item.is);
  heard = subst (λ (words : List Word). AddsAll (g.O.Outside.told c.args.outside.now).heard (g.O.Outside.told c.open_link.new.outside).heard words)
      (sym (mapped_turn (λ (f : FedLink). string_bytes f.address) c.args.feeds.now c.feeds.feed-index c.feed-item.result c.feeds-test.true c.feed-item.is))
      (adds_one (g.O.Outside.told c.args.outside.now).heard (g.O.Outside.told c.feeds.outside).heard (g.O.Outside.told c.open_link.new.outside).heard
      (map (λ (f : FedLink). string_bytes f.address) (take c.feeds.feed-index c.args.feeds.now)) (string_bytes c.feed-item.result.address) c.feeds.invariant.heard c.in_default.ensures.heard);
  later = omega (arith, c.open_link.ensures.later, c.feeds.invariant.later);
  reads = c.open_link.ensures.reads ∙ c.feeds.invariant.reads;
  told = c.open_link.ensures.told ∙ ap (λ (t : Telling). record t { heard = (g.O.Outside.told c.open_link.new.outside).heard }) c.feeds.invariant.told;
}

pub returns-in-Err-clause-heard : goal.returns-in-Err-clause-heard
returns-in-Err-clause-heard g c =
    subst (λ (h : Option (List Word)). HearsBy false (map (λ (f : FedLink). string_bytes f.address) c.args.feeds.now) (g.O.Outside.told c.args.outside.now).heard h) (sym (ap (λ (t : Telling). t.heard) c.give_back.ensures.told))
    (hears_more (map (λ (f : FedLink). string_bytes f.address) c.args.feeds.now) (map (λ (f : FedLink). string_bytes f.address) (take c.feeds.feed-index c.args.feeds.now))
    (map (λ (f : FedLink). string_bytes f.address) (drop (c.feeds.feed-index + 1) c.args.feeds.now)) (string_bytes c.feed-item.result.address)
    (g.O.Outside.told c.args.outside.now).heard (g.O.Outside.told c.feeds.outside).heard (g.O.Outside.told c.open_link.new.outside).heard
    (mapped_parts (λ (f : FedLink). string_bytes f.address) c.args.feeds.now c.feeds.feed-index c.feed-item.result c.feeds-test.true c.feed-item.is)
    c.feeds.invariant.heard c.in-Err.ensures.refused)

pub returns-in-Err-clause-back : goal.returns-in-Err-clause-back
returns-in-Err-clause-back g c =
    let front = map (λ (f : FedLink). string_bytes f.address) (take c.feeds.feed-index c.args.feeds.now) in
    let opened : length front ≡ length c.open_link.new.links.items =
    length-map (take c.feeds.feed-index c.args.feeds.now) (λ (f : FedLink). string_bytes f.address) ∙ (sym (length-map (take c.feeds.feed-index c.args.feeds.now) (λ (f : FedLink). f.link))
    ∙ ap (λ (ns : List ℕ). length ns) (sym (c.in-Err.ensures.kept ∙ c.feeds.invariant.numbers)) ∙ length-map c.open_link.new.links.items (λ f. f.link)) in
    links_failed (map (λ (f : FedLink). string_bytes f.address) c.args.feeds.now) front
    (map (λ (f : FedLink). string_bytes f.address) (drop (c.feeds.feed-index + 1) c.args.feeds.now)) (string_bytes c.feed-item.result.address) (length c.open_link.new.links.items)
    (g.O.Outside.told c.args.outside.now) (g.O.Outside.told c.feeds.outside) (g.O.Outside.told c.open_link.new.outside) (g.O.Outside.told c.give_back.new.outside)
    (mapped_parts (λ (f : FedLink). string_bytes f.address) c.args.feeds.now c.feeds.feed-index c.feed-item.result c.feeds-test.true c.feed-item.is)
    opened c.feeds.invariant.heard c.in-Err.ensures.refused c.give_back.ensures.told
    (ap (λ (t : Telling). t.links) c.open_link.ensures.told ∙ ap (λ (t : Telling). t.links) c.feeds.invariant.told) c.give_back.ensures.back
