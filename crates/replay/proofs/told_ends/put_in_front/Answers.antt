use Rattle.std.proofs.Common.{◌≡◌, ◌∙◌, List, ℕ, drop, filter, take, ap}
use Rattle.replay.specs.KeptExchanges.{not_told}
use Rattle.replay.proofs.exchanges.Filling.{front-again, front-whole, front-rest, put-then}
use Rattle.replay.proofs.told_ends.put_in_front.Goals as goal

pub returns-then-same-told : goal.returns-then-same-told
returns-then-same-told c =
    let told = c.args.told.now in
    let filled = c.args.filled.now.items in
    let alike : take c.same_front-same.result told ≡ take c.same_front-same.result filled = c.same_front-same.ensures.same ∙ ap (λ (l : List (ℕ × ℕ)). take c.same_front-same.result l) c.deref.ensures.value in
    front-again told filled (front-whole told filled c.same_front-same.result c.if-same-told.true alike)

pub returns : goal.returns
returns c =
    let told = c.args.told.now in
    let filled = c.args.filled.now.items in
    let same = c.same_front-same.result in
    let alike : take same told ≡ take same filled = c.same_front-same.ensures.same ∙ ap (λ (l : List (ℕ × ℕ)). take same l) c.deref.ensures.value in
    let kept : c.take_out.new.filled.items ≡ filter (not_told (drop same told)) (drop same filled) =
    c.take_out.ensures ∙ ap (λ (l : List (ℕ × ℕ)). filter (not_told l) c.drop_front.new.list.items) (front-rest told same) ∙ ap (λ (l : List (ℕ × ℕ)). filter (not_told (drop same told)) l) c.drop_front.ensures in
    put-then told filled same c.take_out.new.filled.items c.push_front.new.filled.items c.push_front.result alike kept c.push_front.ensures
