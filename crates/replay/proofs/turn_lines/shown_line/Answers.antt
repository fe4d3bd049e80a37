use Rattle.replay.proofs.halves.FirstEvents.{carries-shown}
use Rattle.replay.proofs.turn_lines.shown_line.Goals as goal

pub returns : goal.returns
returns c = carries-shown c.args.word.now c.args.event.now c.in-Show.question c.in-Show.written c.as_str.result.now c.args.worlds.now _ c.carried_line.result c.in-Show.is c.as_str.ensures c.carried_line.ensures
