use Rattle.std.proofs.Common.{◌≡◌, ◌++◌, drop}
use Rattle.mirror.specs.Changes.{changes_of}
use Rattle.mirror.proofs.notices.changes_of.Given as goal

abbrev pub invariant-notices : goal.invariant-notices
invariant-notices l = l.changes.items ++ changes_of l.question (drop l.notice-index l.notices) ≡ changes_of l.question l.notices
