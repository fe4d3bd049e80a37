-- The second hub's lines begin with the same head, whether or not they have the updates that carries make.
--     far-starts
use Rattle.std.proofs.Common.{◌≡◌, List, [], ◌∷◌, Option, Some, None, refl, ap, ◌∙◌}
use Rattle.relay.specs.declared.relay.Relayed.{Relayed}
use Rattle.relay.specs.declared.relay.Relayed.TheVariants.{Apex, Outside, Unfit, Message}
use Rattle.scripts.specs.Heads.{Head, empty_head, with_head_line, head_behind}
use Rattle.scripts.specs.WholeLines.{WholeLine, one, far_zone, far_client, carry, far_of, is_far_in, fars_behind}
use Rattle.scripts.specs.WholeScripts.{far_heads, far_heads_from}
use Rattle.replay.specs.TextWords.{HeldRecords}
use Rattle.replay.specs.TwoWorlds.{Worlds, start_worlds, lines_do, far_line_at, carry_of, line_of_relayed, far_lines_after}
use Rattle.replay.specs.World.{start_world, world_of}

-- what a carry is to the second hub is no line of its head
carried-head : (head : Head) (o : Option Relayed) → with_head_line head (line_of_relayed o) ≡ head
carried-head head None = refl
carried-head head (Some Apex) = refl
carried-head head (Some Outside) = refl
carried-head head (Some (Unfit kind)) = refl
carried-head head (Some (Message octets)) = refl

line-head : (records : HeldRecords) (head : Head) (worlds : Worlds) (line : WholeLine) → with_head_line head (far_line_at records worlds line) ≡ with_head_line head (far_of (is_far_in worlds.fars) line)
line-head records head worlds (one line) = refl
line-head records head worlds (far_zone apex serial) = refl
line-head records head worlds (far_client w) = refl
line-head records head worlds (carry w name written) = carried-head head (carry_of records worlds w name)

heads-are : (records : HeldRecords) (head : Head) (lines : List WholeLine) (worlds : Worlds) → head_behind head (far_lines_after records lines worlds) ≡ head_behind head (far_heads_from worlds.fars lines)
heads-are records head [] worlds = refl
heads-are records head (line ∷ lines) worlds =
    heads-are records (with_head_line head (far_line_at records worlds line)) lines (lines_do records line worlds).0
    ∙ ap (λ (h : Head). head_behind h (far_heads_from (fars_behind worlds.fars line) lines)) (line-head records head worlds line)

pub far-starts : (records : HeldRecords) (script : List WholeLine) → start_world (far_lines_after records script (start_worlds script)) ≡ start_world (far_heads script)
far-starts records script = ap world_of (heads-are records empty_head script (start_worlds script))
