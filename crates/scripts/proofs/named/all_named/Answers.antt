use Rattle.std.proofs.Common.{◌≡◌, Bool, ◌&&◌, ◌++◌, List, length, sym, ap, ◌∙◌, arith}
use Rattle.push_base.specs.Cases.{is_empty}
use Rattle.scripts.specs.Lines.{Word}
use Rattle.scripts.specs.TextLines.{is_too_long}
use Rattle.scripts.specs.WholeScripts.{made_by, all_made}
use Rattle.scripts.proofs.wholes.Carried.{carried-begin, carried-more, carried-outside, carried-end}
use Rattle.scripts.proofs.wholes.Named.{named-more, named-outside, named-none}
use Rattle.scripts.proofs.named.all_named.Goals as goal

pub lines-init : goal.lines-init
lines-init c =
    let octets = c.args.octets.now in
    (ap (λ (ws : List Word). ws ++ all_made octets) c.new-clients.ensures, carried-begin (is_too_long octets) octets _ c.new-carriers.ensures)

pub returns-then-is_outside-clause-clients : goal.returns-then-is_outside-clause-clients
returns-then-is_outside-clause-clients c =
    let after = c.split_line.result.1.now in
    let outside = ap (λ (b : Bool). b && is_empty after) (sym c.is_too_long-too_long.ensures) ∙ sym c.is_outside.ensures ∙ c.if-is_outside.true in
    named-outside made_by (is_too_long c.args.octets.now) c.lines.rest.now c.split_line.result.0.now after _ _ c.split_line.ensures.lines outside c.lines.invariant.0

pub returns-then-is_outside-clause-carriers : goal.returns-then-is_outside-clause-carriers
returns-then-is_outside-clause-carriers c =
    let after = c.split_line.result.1.now in
    let outside = ap (λ (b : Bool). b && is_empty after) (sym c.is_too_long-too_long.ensures) ∙ sym c.is_outside.ensures ∙ c.if-is_outside.true in
    carried-outside (is_too_long c.args.octets.now) c.lines.rest.now c.split_line.result.0.now after _ _ c.split_line.ensures.lines outside c.lines.invariant.1

pub lines-preserved : goal.lines-preserved
lines-preserved c =
    let after = c.split_line.result.1.now in
    let line = c.split_line.result.0.now in
    let rest = c.lines.rest.now in
    let long = is_too_long c.args.octets.now in
    let inside = ap (λ (b : Bool). b && is_empty after) (sym c.is_too_long-too_long.ensures) ∙ sym c.is_outside.ensures ∙ c.if-is_outside.false in (
      named-more made_by long rest line after _ _ _ c.split_line.ensures.lines inside c.in_ok-add_client.ensures c.lines.invariant.0,
      carried-more long rest line after _ _ _ c.split_line.ensures.lines inside c.in_ok-add_carrier.ensures c.lines.invariant.1,
    )

pub returns-clause-clients : goal.returns-clause-clients
returns-clause-clients c =
    let none : length c.lines.rest.now ≡ 0 = grind arith in
    named-none made_by (is_too_long c.args.octets.now) c.lines.rest.now _ _ none c.lines.invariant.0

pub returns-clause-carriers : goal.returns-clause-carriers
returns-clause-carriers c =
    let none : length c.lines.rest.now ≡ 0 = grind arith in
    carried-end (is_too_long c.args.octets.now) c.lines.rest.now _ _ none c.lines.invariant.1
