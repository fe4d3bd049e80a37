use Rattle.std.proofs.Common.{◌≡◌, ◌==◌, OnOk, ap, subst}
use Rattle.zoneupdate.specs.Updates.{with_counted_ttl}
use Rattle.zoneupdate.proofs.ByClass.{adds}
use Rattle.zoneupdate.proofs.changing.change.Goals as goal

pub returns-in-1 : goal.returns-in-1
returns-in-1 c =
    subst (λ rows. OnOk c.add.result (c.add.new.work.rows ≡ rows)) (adds c.args.apex.now c.args.work.now.rows (with_counted_ttl c.args.rr.now) (ap (λ n. n == 1) c.in-1.is)) c.add.ensures
