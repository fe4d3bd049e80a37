use Rattle.std.proofs.Common.{ℕ, List, refl, sym, subst, string_bytes, IfOk}
use Rattle.scripts.specs.Lines.{link_event}
use Rattle.scripts.specs.declared.line.LinkEvent.{LinkEvent}
use Rattle.scripts.specs.declared.line.LinkEvent.TheVariants as link_events
use Rattle.replay.specs.TextWords.{by_notices}
use Rattle.replay.specs.Text.{hears, link_calls}
use Rattle.replay.specs.KeptWorlds.{Does, RunsLine, parties_of}
use Rattle.replay.proofs.asking.Lines.{if_runs}
use Rattle.replay.proofs.event_lines.link_line.Goals as goal

pub returns-in-Hear : goal.returns-in-Hear
returns-in-Hear c = λ w at.
    let world = c.args.world.now in
    let later = c.hear_line.new.world in
    let datagram = c.in-Hear.datagram in
    let does = subst (λ (o : List ℕ). IfOk c.hear_line.result (λ text. Does (hears w o) (link_calls (link_events.Hear o) w) world (string_bytes text) later)) c.as_slice.ensures (c.hear_line.ensures w at) in
    subst (λ (e : LinkEvent). IfOk c.hear_line.result (λ text. RunsLine by_notices (link_event w e) world (string_bytes text) later)) (sym c.in-Hear.is)
    (if_runs by_notices (link_event w (link_events.Hear datagram)) (link_calls (link_events.Hear datagram) w) world.hub later.hub (parties_of world) (parties_of later) c.hear_line.result (λ v a. refl) (λ v a. refl) does)

pub returns-in-Gone : goal.returns-in-Gone
returns-in-Gone c = λ w at.
    let world = c.args.world.now in
    let later = c.gone_line.new.world in
    subst (λ (e : LinkEvent). IfOk c.gone_line.result (λ text. RunsLine by_notices (link_event w e) world (string_bytes text) later)) (sym c.in-Gone.is)
    (if_runs by_notices (link_event w link_events.Gone) (link_calls link_events.Gone w) world.hub later.hub (parties_of world) (parties_of later) c.gone_line.result (λ v a. refl) (λ v a. refl) (c.gone_line.ensures w at))
