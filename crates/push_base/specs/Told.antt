-- What an object tells of its answers, in order.
--     TellsMore      what is told grows by these
use Rattle.std.specs.Prelude.{◌≡◌, ⊤, None, Some, List, ◌++◌}
use Rattle.std.specs.declared.option.Option.{Option}

-- what is told grows by these. An object that can't tell them tells none from then on, and one that tells none
-- never does
abbrev pub TellsMore : {A : Type 0} → Option (List A) → Option (List A) → List A → Type 0
TellsMore None now more = now ≡ None
TellsMore (Some before) None more = ⊤
TellsMore (Some before) (Some now) more = now ≡ before ++ more
