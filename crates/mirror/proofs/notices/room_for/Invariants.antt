use Rattle.std.proofs.Common.{◌≡◌, ◌+◌, ◌≤◌, drop}
use Rattle.mirror.specs.Changes.{room_for}
use Rattle.mirror.proofs.notices.room_for.Given as goal

-- no more than were looked at, and with those ahead as many as all
abbrev pub invariant-changes : goal.invariant-changes
invariant-changes l = record {
  few : l.room ≤ l.change-index;
  all : l.room + room_for (drop l.change-index l.changes) ≡ room_for l.changes;
}
