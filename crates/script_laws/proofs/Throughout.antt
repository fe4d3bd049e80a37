-- What holds throughout every script, put together.
--     lines-hold-throughout, scripts-hold      all of it, of lines and of a text
--     mirrors-history      what a replay hands back
use Rattle.std.proofs.Common.{refl}
use Rattle.replay.specs.World.{start_world}
use Rattle.replay.specs.Text.{world_after}
use Rattle.script_laws.specs.Throughout.{LinesHoldThroughout, EveryScriptHolds, ReplaysMirrorHistory}
use Rattle.script_laws.proofs.hubs.Sessions.{reached-sessions}
use Rattle.script_laws.proofs.calls.EachTurn.{each-has-its-turn}
use Rattle.script_laws.proofs.calls.InTurn.{made-in-turn}
use Rattle.script_laws.proofs.calls.Fits.{are-within}
use Rattle.script_laws.proofs.calls.Reacted.{lines-are-reacted-to}
use Rattle.script_laws.proofs.calls.Sends.{lines-sends-answered}
use Rattle.script_laws.proofs.Reading.{are-lines}
use Rattle.script_laws.proofs.Scripts.{stands-after, lines-hold, lines-end, lines-settle, lines-keep, turns-are-enough}
use Rattle.script_laws.proofs.texts.Mirrors.{mirrors-of-history, replays-mirror}
use Rattle.script_laws.proofs.texts.WhatIsHeld.{holds-the-history}

pub lines-hold-throughout : LinesHoldThroughout
lines-hold-throughout script are =
    let hub = (start_world script).hub in
    record {
      promises = lines-keep script are;
      fits = lines-hold script are;
      held = λ before after shown seat session c split holds. holds-the-history (world_after before (start_world script)).hub shown seat session c holds;
      mirrors = mirrors-of-history reached-sessions stands-after script are;
      ends = lines-end script are;
      sessions = λ calls number session first there. record {
        messages = lines-are-reacted-to script calls number session (are-within script are) first there;
        turns = each-has-its-turn number calls hub;
        made = (made-in-turn hub calls number session there).1 refl;
      };
      sends = lines-sends-answered stands-after script are;
      turns = turns-are-enough script are;
      settles = lines-settle script are;
    }

pub scripts-hold : EveryScriptHolds
scripts-hold text script read = lines-hold-throughout script (are-lines text script read)

pub mirrors-history : ReplaysMirrorHistory
mirrors-history = replays-mirror reached-sessions stands-after
