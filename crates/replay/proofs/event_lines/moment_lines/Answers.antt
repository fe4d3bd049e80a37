use Rattle.std.proofs.Common.{◌≡◌, List, ℕ, Global, ◌∙◌, ap, string_bytes}
use Rattle.std.specs.Prelude.{flat_map}
use Rattle.std.specs.declared.string.String.{String}
use Rattle.replay.specs.Text.{moments}
use Rattle.scripts.specs.declared.line.HubEvent.TheVariants as hub_events
use Rattle.replay.specs.LineCalls.{hub_calls}
use Rattle.replay.specs.KeptWorlds.{parties_of, Acts}
use Rattle.replay.proofs.worlds.Doing.{if_each}
use Rattle.replay.proofs.halves.Closing.{closes-print}
use Rattle.replay.proofs.event_lines.moment_lines.Goals as goal

pub returns : goal.returns
returns c =
    let hub = c.args.world.now.hub in
    let known = parties_of c.args.world.now in
    let later = c.moment_closes.new.world.hub in
    let known_later = parties_of c.moment_closes.new.world in
    let texts = c.in_ok-closes.closes.items in
    if_each (λ (told : List ℕ). told ≡ flat_map (λ (t : String Global). string_bytes t) c.deref.result.now) (λ (told : List ℕ). Acts (moments c.args.moment) (hub_calls (hub_events.At c.args.moment)) hub known told later known_later) c.joined_lines.result
    (λ told is. closes-print hub later known known_later c.args.moment texts told c.in_ok-closes.ensures (is ∙ ap (λ (ts : List (String Global)). flat_map (λ (t : String Global). string_bytes t) ts) c.deref.ensures.value)) c.joined_lines.ensures
