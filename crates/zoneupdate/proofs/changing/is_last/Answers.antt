use Rattle.std.proofs.Common.{◌≡◌, ◌&&◌, ◌==◌, ◌∙◌, Bool, false, sym, ap, arith}
use Rattle.std.specs.Prelude.{is_some}
use Rattle.std.proofs.lemmas.Bool.Decides.{nat_tests}
use Rattle.rrset.specs.RecordSet.{shown_at}
use Rattle.zoneupdate.specs.Updates.{with_counted_ttl}
use Rattle.zoneupdate.proofs.OneName.{last-at_name}
use Rattle.zoneupdate.proofs.changing.is_last.Goals as goal

pub returns-then-count_of_rrset-eq1 : goal.returns-then-count_of_rrset-eq1
returns-then-count_of_rrset-eq1 c =
    let shows : Bool = is_some (shown_at c.args.key.now c.args.work.now.rows) in
    c.shows.ensures ∙ sym (ap (λ n. n == 1 && shows) (sym c.count_of_rrset.ensures ∙ c.if-count_of_rrset-eq1.true))
    ∙ last-at_name c.args.work.now.rows c.at.result.now (with_counted_ttl c.args.rr.now) c.args.key.now c.requires.ns c.requires.key c.at.ensures

pub returns-else-count_of_rrset-eq1 : goal.returns-else-count_of_rrset-eq1
returns-else-count_of_rrset-eq1 c =
    let shows : Bool = is_some (shown_at c.args.key.now c.args.work.now.rows) in
    let other : (c.count_of_rrset.result == 1) ≡ false = grind (arith, nat_tests, c.if-count_of_rrset-eq1.false) in
    other ∙ sym (ap (λ b. b && shows) other) ∙ ap (λ n. n == 1 && shows) c.count_of_rrset.ensures
    ∙ last-at_name c.args.work.now.rows c.at.result.now (with_counted_ttl c.args.rr.now) c.args.key.now c.requires.ns c.requires.key c.at.ensures
