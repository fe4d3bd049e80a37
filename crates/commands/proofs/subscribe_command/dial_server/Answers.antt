use Rattle.std.proofs.Common.{ap}
use Rattle.push_outside.specs.Outside.{Telling}
use Rattle.commands.proofs.Following.{connected, unreached, undialled}
use Rattle.commands.proofs.subscribe_command.dial_server.Goals as goal

pub returns-in-Ok-clause-followed : goal.returns-in-Ok-clause-followed
returns-in-Ok-clause-followed g c =
    connected _ _ _ _ _ _ _ _ _ _ _ _ _ _ c.in-Ok.ensures.told c.in-Ok.ensures.reads c.as_str.ensures.value c.in-Ok.ensures.dialled
    (ap (λ (t : Telling). t.dialled) c.converse.ensures.told) c.converse.ensures.conversed

pub returns-in-Err-Failed-clause-followed : goal.returns-in-Err-Failed-clause-followed
returns-in-Err-Failed-clause-followed g c =
    unreached (g.row.O-Line.Denot × g.row.O-Wire.Denot) c.in-Err-Failed.field-0 _ _ _ _ _ _ _ _ _ _ _ c.in-Err-Failed.field-0-is c.in-Err-Failed.ensures.told c.in-Err-Failed.ensures.others c.in-Err-Failed.ensures.dialled c.as_str.ensures.value c.tell_status.ensures.told

pub returns-in-Err-NoMemory-clause-followed : goal.returns-in-Err-NoMemory-clause-followed
returns-in-Err-NoMemory-clause-followed g c =
    undialled (g.row.O-Line.Denot × g.row.O-Wire.Denot) c.in-Err-NoMemory.field-0 _ _ _ _ _ _ _ _ _ _ _ c.in-Err-NoMemory.field-0-is c.in-Err-NoMemory.ensures.told c.in-Err-NoMemory.ensures.dialled c.tell.ensures.told
