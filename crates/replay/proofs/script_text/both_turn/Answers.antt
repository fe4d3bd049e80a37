use Rattle.std.proofs.Common.{◌≡◌, true, List, ℕ, refl}
use Rattle.scripts.specs.declared.event.Event.{Event}
use Rattle.scripts.specs.declared.whole_script.Turn.TheVariants as of_turn
use Rattle.replay.specs.KeptTurns.{left_of}
use Rattle.replay.specs.KeptTwoWorlds.{RunsBoth, TurnRuns, is_at}
use Rattle.replay.proofs.worlds.Doing.{if_each}
use Rattle.replay.proofs.halves.FirstEvents.{some-first, first-is, takes-first}
use Rattle.replay.proofs.script_text.both_turn.Goals as goal

pub first_of-requires : goal.first_of-requires
first_of-requires c = some-first (λ (event : Event). is_at event ≡ true) c.args.left.now.near.now c.requires.0

pub first_of-requires-2 : goal.first_of-requires-2
first_of-requires-2 c = some-first (λ (event : Event). Unit {0}) c.args.left.now.far.now c.requires.1

pub both_lines-requires : goal.both_lines-requires
both_lines-requires c = first-is (λ (event : Event). is_at event ≡ true) c.args.left.now.near.now c.first_of.result.1.now c.first_of.result.0.now c.first_of.ensures c.requires.0

pub returns-clause-runs : goal.returns-clause-runs
returns-clause-runs c =
    let event = c.first_of.result.0.now in
    let rest = c.first_of.result.1.now in
    let far_rest = c.first_of-2.result.1.now in
    let before = c.args.worlds.now in
    let after = c.both_lines.new.worlds in
    if_each (λ (text : List ℕ). RunsBoth event before text after) (λ (text : List ℕ). TurnRuns of_turn.Both before (left_of c.args.left.now) text after (record (left_of c.args.left.now) { near = rest; far = far_rest })) c.both_lines.result
    (λ text runs. (
      takes-first (λ (e : Event). RunsBoth e before text after) c.args.left.now.near.now rest rest event c.first_of.ensures refl runs,
      takes-first (λ (e : Event). Unit {0}) c.args.left.now.far.now far_rest far_rest c.first_of-2.result.0.now c.first_of-2.ensures refl tt,
    )) c.both_lines.ensures
