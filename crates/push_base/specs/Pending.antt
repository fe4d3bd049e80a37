-- How a job was started.
--     IsStarted      kept, or in a thread of its own
use Rattle.std.specs.Prelude.{◌≡◌, ⊤, Bool, true, false}
use Rattle.push_base.specs.declared.pending.Pending.{Pending}
use Rattle.push_base.specs.declared.pending.Pending.TheVariants.{Running, Kept}

-- a job runs in a thread where each gets one of its own, and else this very job is kept
abbrev pub IsStarted : {J Out : Type 0} → Bool → J → Pending J Out → Type 0
IsStarted true job (Running thread) = ⊤
IsStarted true job (Kept kept) = ⊥
IsStarted false job (Running thread) = ⊥
IsStarted false job (Kept kept) = kept ≡ job
