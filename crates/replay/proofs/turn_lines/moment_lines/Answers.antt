use Rattle.std.proofs.Common.{◌≡◌, List, ℕ, Bool, Global, ◌∙◌, ap, refl, string_bytes}
use Rattle.std.specs.Prelude.{flat_map}
use Rattle.std.specs.declared.string.String.{String}
use Rattle.replay.specs.TwoWorlds.{woven}
use Rattle.replay.specs.KeptTwoWorlds.{RunsMoment}
use Rattle.replay.proofs.worlds.Doing.{if_each}
use Rattle.replay.proofs.halves.Closing.{moves-both}
use Rattle.replay.proofs.turn_lines.moment_lines.Goals as goal

pub returns : goal.returns
returns c =
    let near = c.in_ok-near.near.items in
    let far = c.in_ok-far.far.items in
    let all = c.in_ok-closes.closes.items in
    if_each (λ (told : List ℕ). told ≡ flat_map (λ (t : String Global). string_bytes t) c.deref-2.result.now) (λ (told : List ℕ). RunsMoment c.args.moment c.args.worlds.now told _) c.joined_lines.result
    (λ told is. moves-both c.args.moment c.args.worlds.now _ near far all told c.in_ok-near.ensures c.in_ok-far.ensures
    (c.in_ok-closes.ensures ∙ ap (λ (order : List Bool). woven order near far) c.deref.ensures.value)
    (is ∙ ap (λ (ts : List (String Global)). flat_map (λ (t : String Global). string_bytes t) ts) c.deref-2.ensures.value) refl refl) c.joined_lines.ensures
