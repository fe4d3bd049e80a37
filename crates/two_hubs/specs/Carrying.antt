-- What was carried.
--     Good, goods_in name script      a carry that was taken: the second hub's point behind it, and the point of the first history that it carried
--     carried_at goods point      the last one that lies at or before a point of the second hub, or none
--     last_carried goods      the last one
--     states_shown w question script      the points of the first history that the `held` lines of a far client and question show, in order
--     CarriesAreWritten      messages that carries make are octets, and short
use Rattle.std.specs.Prelude.{◌≡◌, ℕ, ◌+◌, Bool, false, ◌&&◌, List, [], ◌∷◌, ◌++◌, map, filter, Option, Some, None, nat_le, ◌==◌, option_to_list, if◌then◌else◌}
use Rattle.dnsname.specs.Names.{Labels, same_name}
use Rattle.rrset.specs.RecordSet.{RecordSet, matching}
use Rattle.rrset.specs.declared.record.Question.{Question}
use Rattle.history.specs.States.{records_at}
use Rattle.pushserver.specs.PlainHubs.{Hub}
use Rattle.pushserver.specs.Hubs as hubs
use Rattle.pushserver.specs.Hubs.{newest}
use Rattle.relay.specs.declared.relay.Relayed.TheVariants.{Message}
use Rattle.scripts.specs.Lines.{Word, ScriptLine, hub_event}
use Rattle.scripts.specs.declared.line.HubEvent.TheVariants.{Update}
use Rattle.replay.specs.World.{last_of}
use Rattle.replay.specs.TextWords.{by_history}
use Rattle.replay.specs.HeldPoints.{is_show_of, point_at}
use Rattle.script_laws.specs.Lines.{AreWritten}
use Rattle.scripts.specs.WholeLines.{WholeLine, carry, all_at}
use Rattle.replay.specs.TwoWorlds.{Worlds, start_worlds, lines_do, far_line_at, carry_of, line_of_relayed}

pub record Good : Type 0 where
  pub far_point : ℕ
  pub near_point : ℕ

abbrev pub is_taken : Worlds → ScriptLine → Bool
is_taken worlds (hub_event (Update octets)) = (hubs.update worlds.far.hub octets).0 == 0
is_taken worlds _ = false

abbrev pub good_with : Worlds → Option ℕ → List Good
good_with worlds None = []
good_with worlds (Some point) = (record { far_point = newest worlds.far.hub + 1; near_point = point }) ∷ []

-- the carry of a name by a line, if it is one and was taken
abbrev pub goods_of : Labels → Worlds → WholeLine → List Good
goods_of name worlds (carry w other written) =
    if same_name other name && is_taken worlds (line_of_relayed (carry_of by_history worlds w other)) then good_with worlds (point_at worlds.near w (all_at other)) else []
goods_of name worlds _ = []

abbrev pub goods_from : Labels → List WholeLine → Worlds → List Good
goods_from name [] worlds = []
goods_from name (line ∷ lines) worlds = goods_of name worlds line ++ goods_from name lines (lines_do by_history line worlds).0

abbrev pub goods_in : Labels → List WholeLine → List Good
goods_in name script = goods_from name script (start_worlds script)

-- the point of the first history that was carried last, as of a point of the second hub
abbrev pub carried_at : List Good → ℕ → Option ℕ
carried_at goods point = last_of (map (λ g. g.near_point) (filter (λ g. nat_le g.far_point point) goods))

abbrev pub last_carried : List Good → Option ℕ
last_carried goods = last_of (map (λ g. g.near_point) goods)

-- what a question asks for at a point of a hub's history, and nothing before the first carry
abbrev pub matching_at : Hub → Question → Option ℕ → RecordSet
matching_at hub question None = []
matching_at hub question (Some point) = matching question (records_at hub.start hub.history point)

-- ---- what is shown

-- where each `held` line shows a point of the second history, that of the first which was carried last at or before it
abbrev pub states_from : Word → Question → List Good → List WholeLine → Worlds → List (Option ℕ)
states_from w question goods [] worlds = []
states_from w question goods (line ∷ lines) worlds =
    (if is_show_of w question (far_line_at by_history worlds line) then map (carried_at goods) (option_to_list (point_at worlds.far w question)) else [])
    ++ states_from w question (goods ++ goods_of question.name worlds line) lines (lines_do by_history line worlds).0

abbrev pub states_shown : Word → Question → List WholeLine → List (Option ℕ)
states_shown w question script = states_from w question [] script (start_worlds script)

-- the state before the first carry is earlier than every other one
abbrev pub state_number : Option ℕ → ℕ
state_number None = 0
state_number (Some point) = point + 1

-- ---- messages

-- the message that a carry makes, if the line is one and makes one
abbrev pub MakesWritten : Worlds → WholeLine → Type 0
MakesWritten worlds (carry w name written) = (octets : List ℕ) → carry_of by_history worlds w name ≡ Some (Message octets) → AreWritten octets
MakesWritten worlds _ = Unit {0}

abbrev pub CarriesAreWritten : List WholeLine → Worlds → Type 0
CarriesAreWritten [] worlds = Unit {0}
CarriesAreWritten (line ∷ lines) worlds = MakesWritten worlds line × CarriesAreWritten lines (lines_do by_history line worlds).0
