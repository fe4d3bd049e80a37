use Rattle.std.proofs.Common.{ℕ, ◌≤◌, List, length, sym, subst}
use Rattle.dnsname.specs.Names.{octets}
use Rattle.history.proofs.LongestHomes.{lies-longer}
use Rattle.history.proofs.updating.lies_under.Goals as goal

pub returns-then-octets : goal.returns-then-octets
returns-then-octets c =
    sym (lies-longer c.args.apex.now c.args.name.now
    (subst (λ (os : List ℕ). length os ≤ length (octets c.args.apex.now)) c.octets.ensures.octets
    (subst (λ (os : List ℕ). length c.octets.result.now ≤ length os) c.octets-2.ensures.octets c.if-octets.true)))
