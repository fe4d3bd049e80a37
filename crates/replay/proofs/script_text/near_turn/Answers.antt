use Rattle.std.proofs.Common.{List, ℕ, refl}
use Rattle.scripts.specs.declared.event.Event.{Event}
use Rattle.scripts.specs.declared.whole_script.Turn.TheVariants as of_turn
use Rattle.replay.specs.KeptTurns.{left_of}
use Rattle.replay.specs.KeptTwoWorlds.{IsNamedIn, RunsNear, TurnRuns}
use Rattle.replay.proofs.worlds.Doing.{if_each}
use Rattle.replay.proofs.halves.FirstEvents.{some-first, first-is, takes-first}
use Rattle.replay.proofs.script_text.near_turn.Goals as goal

pub first_of-requires : goal.first_of-requires
first_of-requires c = some-first (λ (event : Event). IsNamedIn c.args.worlds.now.near c.args.left.now.near_clients.now event) c.args.left.now.near.now c.requires

pub near_line-requires : goal.near_line-requires
near_line-requires c = first-is (λ (event : Event). IsNamedIn c.args.worlds.now.near c.args.left.now.near_clients.now event) c.args.left.now.near.now c.first_of.result.1.now c.first_of.result.0.now c.first_of.ensures c.requires

pub returns-clause-runs : goal.returns-clause-runs
returns-clause-runs c =
    let event = c.first_of.result.0.now in
    let rest = c.first_of.result.1.now in
    let clients = c.args.left.now.near_clients.now in
    let before = c.args.worlds.now in
    let after = c.near_line.new.worlds in
    if_each (λ (text : List ℕ). RunsNear clients event before text after) (λ (text : List ℕ). TurnRuns of_turn.Near before (left_of c.args.left.now) text after (record (left_of c.args.left.now) { near = rest })) c.near_line.result
    (λ text runs. (takes-first (λ (e : Event). RunsNear clients e before text after) c.args.left.now.near.now rest rest event c.first_of.ensures refl runs, refl)) c.near_line.ensures
