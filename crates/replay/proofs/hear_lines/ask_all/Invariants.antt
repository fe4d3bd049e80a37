use Rattle.std.proofs.Common.{◌≤◌, length, string_bytes}
use Rattle.linkask.specs.Laws.{AskedOnce, NotDueAtOnce}
use Rattle.pushserver.specs.Hubs.{state_now}
use Rattle.hubasking.specs.LinkAskings.{asks_all}
use Rattle.replay.proofs.asking.Loop.{Asking}
use Rattle.replay.proofs.hear_lines.ask_all.Given as goal

-- those that are due
abbrev pub decreases-questions : goal.decreases-questions
decreases-questions l = length (asks_all (state_now l.hub.hub) l.hub.askings l.fn.link).0

-- what was asked so far leads to all
abbrev pub invariant-questions : goal.invariant-questions
invariant-questions l = record {
  once : AskedOnce;
  not_due : NotDueAtOnce;
  counted : l.count ≤ length (string_bytes l.lines);
  asking : Asking l.fn.hub l.fn.link l.hub l.count (string_bytes l.lines);
}
