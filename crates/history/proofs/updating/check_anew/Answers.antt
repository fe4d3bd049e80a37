-- Giving back changes no record.
use Rattle.std.proofs.Common.{List, subst}
use Rattle.std.specs.Prelude.{IfOk}
use Rattle.dnsname.specs.Names.{Labels}
use Rattle.zoneupdate.specs.Zones.{ZoneState}
use Rattle.zoneupdate.specs.Updates.{judged}
use Rattle.zoneupdate.specs.KeptZones.{IsUnder, Judges}
use Rattle.history.proofs.updating.check_anew.Goals as goal

pub returns-clause-verdict : goal.returns-clause-verdict
returns-clause-verdict c =
    subst (λ (s : ZoneState). IfOk c.check.result (λ verdict. (homes : List Labels) → IsUnder homes s.apex c.args.under.now → Judges s verdict (judged homes s c.args.update.now))) c.give_back.ensures c.check.ensures.verdict
