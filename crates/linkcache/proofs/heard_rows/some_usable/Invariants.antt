use Rattle.std.proofs.Common.{◌≡◌, drop}
use Rattle.push_base.specs.Cases.{is_empty}
use Rattle.linkcache.specs.Rows.{usable_of}
use Rattle.linkcache.proofs.heard_rows.some_usable.Given as goal

abbrev pub invariant-hearing : goal.invariant-hearing
invariant-hearing l = is_empty (usable_of l.rules (drop l.heard-index l.hearing)) ≡ is_empty (usable_of l.rules l.hearing)
