use Rattle.std.proofs.Common.{ℕ, List, sym, subst, string_bytes, IfOk}
use Rattle.scripts.specs.declared.line.SessionEvent.{SessionEvent}
use Rattle.scripts.specs.declared.line.SessionEvent.TheVariants as session_events
use Rattle.replay.specs.Text.{session_does}
use Rattle.replay.specs.LineCalls.{session_calls}
use Rattle.replay.specs.KeptWorlds.{Does}
use Rattle.replay.proofs.event_lines.session_line.Goals as goal

pub returns-in-Send : goal.returns-in-Send
returns-in-Send c =
    let world = c.args.world.now in
    let later = c.send_lines.new.world in
    let w = c.args.word.now in
    let does = subst (λ (o : List ℕ). IfOk c.send_lines.result (λ text. Does (session_does (session_events.Send o) w) (session_calls (session_events.Send o) w) world (string_bytes text) later)) c.as_slice.ensures c.send_lines.ensures in
    subst (λ (e : SessionEvent). IfOk c.send_lines.result (λ text. Does (session_does e w) (session_calls e w) world (string_bytes text) later)) (sym c.in-Send.is) does
