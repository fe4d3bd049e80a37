-- What a register tells of the hubs that go behind locks, and of the servers that finish.
--     Ending      how all loops of a server ended, and the counts with which it finished
--     entered      one more is told
use Rattle.std.specs.Prelude.{None, Some, List, [], ◌∷◌, ◌++◌}
use Rattle.std.specs.declared.option.Option.{Option}
use Rattle.history.specs.declared.entry.Totals.{Totals}
use Rattle.hubloops.specs.declared.loop_end.LoopEnd.{LoopEnd}

pub record Ending : Type 0 where
  pub loops : List LoopEnd
  pub counts : Totals

-- a register that tells these has this one more
abbrev pub entered : {A : Type 0} → Option (List A) → A → Option (List A)
entered None one = None
entered (Some all) one = Some (all ++ one ∷ [])
