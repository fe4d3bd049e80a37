-- A row of old values as it is kept: a key that showed nothing, or a record.
--     old_row before point      the key, with what it showed before a point
use Rattle.std.specs.Prelude.{ℕ, Some, None}
use Rattle.rrset.specs.declared.record.Key.{Key}
use Rattle.coalesce.specs.Waiting.{OldValue}
use Rattle.coalesce.specs.declared.before.Before.{Before}
use Rattle.coalesce.specs.declared.before.Before.TheVariants.{Nothing, Row}

abbrev pub old_row : Before → ℕ → Key × OldValue
old_row (Nothing key) point = (key, record { before = None; point = point })
old_row (Row entry) point = (entry.0, record { before = Some entry.1; point = point })
