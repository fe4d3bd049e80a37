use Rattle.std.proofs.Common.{◌≡◌, true, List, ℕ, refl}
use Rattle.scripts.specs.declared.event.Event.{Event}
use Rattle.scripts.specs.declared.whole_script.Turn.TheVariants as of_turn
use Rattle.replay.specs.KeptTurns.{left_of}
use Rattle.replay.specs.KeptTwoWorlds.{IsNamedIn, RunsCarry, TurnRuns, is_show}
use Rattle.replay.proofs.worlds.Doing.{if_each}
use Rattle.replay.proofs.halves.FirstEvents.{some-first, first-is, takes-first}
use Rattle.replay.proofs.script_text.carry_turn.Goals as goal

pub first_of-requires : goal.first_of-requires
first_of-requires c = some-first (λ (event : Event). IsNamedIn c.args.worlds.now.near c.args.left.now.near_clients.now event × (is_show event ≡ true)) c.args.left.now.near.now c.requires

pub carry_line-requires-clause-named : goal.carry_line-requires-clause-named
carry_line-requires-clause-named c =
    (first-is (λ (event : Event). IsNamedIn c.args.worlds.now.near c.args.left.now.near_clients.now event × (is_show event ≡ true)) c.args.left.now.near.now c.first_of.result.1.now c.first_of.result.0.now c.first_of.ensures c.requires).0

pub carry_line-requires-clause-show : goal.carry_line-requires-clause-show
carry_line-requires-clause-show c =
    (first-is (λ (event : Event). IsNamedIn c.args.worlds.now.near c.args.left.now.near_clients.now event × (is_show event ≡ true)) c.args.left.now.near.now c.first_of.result.1.now c.first_of.result.0.now c.first_of.ensures c.requires).1

pub returns-clause-runs : goal.returns-clause-runs
returns-clause-runs c =
    let event = c.first_of.result.0.now in
    let rest = c.first_of.result.1.now in
    let clients = c.args.left.now.near_clients.now in
    let before = c.args.worlds.now in
    let after = c.carry_line.new.worlds in
    if_each (λ (text : List ℕ). RunsCarry clients event before text after) (λ (text : List ℕ). TurnRuns of_turn.Carry before (left_of c.args.left.now) text after (record (left_of c.args.left.now) { near = rest })) c.carry_line.result
    (λ text runs. (takes-first (λ (e : Event). RunsCarry clients e before text after) c.args.left.now.near.now rest rest event c.first_of.ensures refl runs, refl)) c.carry_line.ensures
