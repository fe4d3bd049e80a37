use Rattle.std.proofs.Common.{ℕ, List, sym, subst, string_bytes, IfOk}
use Rattle.scripts.specs.declared.line.ClientEvent.{ClientEvent}
use Rattle.scripts.specs.declared.line.ClientEvent.TheVariants as client_events
use Rattle.replay.specs.TextWords.{by_notices}
use Rattle.replay.specs.Text.{client_does}
use Rattle.replay.specs.LineCalls.{client_calls}
use Rattle.replay.specs.KeptWorlds.{Does}
use Rattle.replay.proofs.event_lines.client_line.Goals as goal

pub returns-in-Feed : goal.returns-in-Feed
returns-in-Feed c =
    let world = c.args.world.now in
    let later = c.feed_lines.new.world in
    let w = c.args.word.now in
    let does = subst (λ (o : List ℕ). IfOk c.feed_lines.result (λ text. Does (client_does by_notices (client_events.Feed o) w) (client_calls (client_events.Feed o) w) world (string_bytes text) later)) c.as_slice.ensures c.feed_lines.ensures in
    subst (λ (e : ClientEvent). IfOk c.feed_lines.result (λ text. Does (client_does by_notices e w) (client_calls e w) world (string_bytes text) later)) (sym c.in-Feed.is) does
