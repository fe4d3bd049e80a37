-- One call of a hub that is held alone.
use Rattle.std.specs.Prelude.{◌≡◌, ℕ, Bool, refl}
use Rattle.push_base.specs.Causes.{next_count}
use Rattle.hubasking.specs.AskingHubs.{AskingHub}
use Rattle.hubloops.specs.Calls.{HubCall, Does}
use Rattle.hubloops.specs.Gates.{GateState, Made}
use Rattle.hubloops.specs.declared.overs.Overs.{Overs}

abbrev state : AskingHub → Bool → ℕ → Bool → Overs → GateState
state hub quit calls idle over = record { hub = hub; quit = quit; calls = calls; idle = idle; over = over }

-- the gate's state before is that of its parts
pub made_of : (call : HubCall) (before : GateState) (hub : AskingHub) (quit : Bool) (calls : ℕ) (idle : Bool) (over : Overs) (count : ℕ) (after : AskingHub) (idle_now : Bool)
    → state hub quit calls idle over ≡ before → count ≡ next_count calls → Does hub call after → Made call before (state after quit count idle_now over) (next_count before.calls)
made_of call before hub quit calls idle over count after idle_now e counted does = rw (← e) (record { does = does; quit = refl; counted = counted; over = refl })

pub made_apart : (call : HubCall) (before : GateState) (hub : AskingHub) (quit : Bool) (calls : ℕ) (idle : Bool) (over : Overs) (after : AskingHub) (idle_now : Bool)
    → state hub quit calls idle over ≡ before → Does hub call after → Made call before (state after quit calls idle_now over) before.calls
made_apart call before hub quit calls idle over after idle_now e does = rw (← e) (record { does = does; quit = refl; counted = refl; over = refl })
