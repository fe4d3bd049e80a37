use Rattle.std.proofs.Common.{◌++◌, ◌∷◌, [], codes}
use Rattle.replay.specs.Text.{stops}
use Rattle.scripts.specs.declared.line.SessionEvent.TheVariants as session_events
use Rattle.replay.specs.LineCalls.{session_calls}
use Rattle.replay.specs.KeptWorlds.{parties_of}
use Rattle.replay.proofs.worlds.Doing.{if_acts, stops-act}
use Rattle.replay.proofs.event_lines.stop_line.Goals as goal

pub returns : goal.returns
returns c =
    let w = c.args.word.now in
    let world = c.args.world.now in
    let known = parties_of world in
    if_acts (stops w c.args.rcode c.args.delay) (session_calls (session_events.Stop c.args.rcode c.args.delay) w) world.hub c.stop_session.new.hub known known (codes "stop " ++ (w ++ 10 ∷ [])) c.stop_text.result
    (λ written is. stops-act world.hub c.stop_session.new.hub known w c.args.rcode c.args.delay c.session_of_word-session.result written c.session_of_word-session.ensures c.stop_session.ensures is) c.stop_text.ensures
