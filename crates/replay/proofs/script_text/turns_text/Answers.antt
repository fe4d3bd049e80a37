use Rattle.std.proofs.Common.{◌++◌, ap, sym, subst, ◌∙◌, List, ℕ, get_or, string_bytes}
use Rattle.std.proofs.lemmas.List.{drop_all}
use Rattle.scripts.specs.declared.whole_script.Turn.{Turn}
use Rattle.replay.specs.KeptTurns.{left_of}
use Rattle.replay.specs.KeptPlays.{Plays}
use Rattle.replay.proofs.halves.Starting.{play-comes, play-turns}
use Rattle.replay.proofs.halves.Weaving.{at-alike}
use Rattle.replay.proofs.script_text.turns_text.Goals as goal

pub turns-init : goal.turns-init
turns-init c = λ script plays. subst (λ (t : List ℕ). Plays script c.args.worlds.now (left_of c.args.left.now) c.args.turns.now t) (sym c.new-text.ensures.bytes) plays

pub turn_lines-requires : goal.turn_lines-requires
turn_lines-requires c =
    let turns = c.args.turns.now in
    let i = c.turns.turn-index in
    play-comes c.requires.0 c.turns.worlds (left_of c.turns.left) turns i (get_or turns i _) (string_bytes c.turns.text) (c.requires.1, c.requires.2) c.turns-test.true (at-alike turns i _ _ c.turns-test.true) (c.turns.invariant c.requires.0 c.requires.3)

pub turns-preserved : goal.turns-preserved
turns-preserved c = λ script plays.
    let turns = c.args.turns.now in
    let i = c.turns.turn-index in
    play-turns script c.turns.worlds c.turn_lines.new.worlds (left_of c.turns.left) (left_of c.turn_lines.new.left) turns i (get_or turns i _) (string_bytes c.turns.text) (string_bytes c.push_str.new.self) (string_bytes c.in_ok-lines.lines)
    c.turns-test.true (at-alike turns i _ _ c.turns-test.true) c.in_ok-lines.ensures.clients c.in_ok-lines.ensures.runs (c.in_ok-push_str.ensures.bytes ∙ ap (λ l. string_bytes c.turns.text ++ l) c.as_str.ensures.value) (c.turns.invariant script plays)

pub returns : goal.returns
returns c = λ script plays. subst (λ (ts : List Turn). Plays script c.turns.worlds (left_of c.turns.left) ts (string_bytes c.turns.text)) (drop_all c.turns.turn-index c.args.turns.now c.turns-test.false) (c.turns.invariant script plays)
