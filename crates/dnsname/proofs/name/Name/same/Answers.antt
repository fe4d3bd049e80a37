use Rattle.std.proofs.Common.{Decides}
use Rattle.std.proofs.lemmas.Bool.Decides.{same_from_decides}
use Rattle.dnsname.specs.Names.{same_name, IsSame}
use Rattle.dnsname.proofs.Decisions.{same_name-Decides}
use Rattle.dnsname.proofs.Endings.{spells_octets, same_octets}
use Rattle.dnsname.proofs.LowerCase.{same_as_spelled}
use Rattle.dnsname.proofs.name.Name.same.Goals as goal

pub returns : goal.returns
returns c =
    let mine = spells_octets _ _ c.octets-mine.ensures.name c.octets-mine.ensures.octets in
    let other = spells_octets _ _ c.octets-others.ensures.name c.octets-others.ensures.octets in
    let agree = same_octets _ _ _ _ mine other in
    let test = c.eq_ignore_ascii_case.ensures.test in
    let is : Decides c.eq_ignore_ascii_case.result (IsSame c.args.self.now c.args.other.now) = (λ t. agree.0 (test.0 t), λ e. test.1 (agree.1 e)) in
    record { same = is; exact = same_from_decides _ (same_name c.args.self.now c.args.other.now) is (same_name-Decides c.args.self.now c.args.other.now) }

pub returns-then-is_lower-2-clause-same : goal.returns-then-is_lower-2-clause-same
returns-then-is_lower-2-clause-same c =
    same_as_spelled _ _ _ _ c.octets-mine.ensures.octets c.octets-others.ensures.octets (c.is_lower.ensures c.if-is_lower.true) (c.is_lower-then-is_lower.ensures c.if-is_lower-2.true) _ c.eq.ensures

pub returns-then-is_lower-2-clause-exact : goal.returns-then-is_lower-2-clause-exact
returns-then-is_lower-2-clause-exact c =
    let is = returns-then-is_lower-2-clause-same c in
    same_from_decides _ (same_name c.args.self.now c.args.other.now) is (same_name-Decides c.args.self.now c.args.other.now)
