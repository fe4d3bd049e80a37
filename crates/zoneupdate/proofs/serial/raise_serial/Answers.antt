use Rattle.std.proofs.Common.{◌≡◌, OnOk, ap, subst, true, false, ◌∙◌}
use Rattle.std.specs.List.{list_all}
use Rattle.rrset.specs.RecordSet.{RecordSet, shows_its_key}
use Rattle.zoneupdate.proofs.NextSerial.{tested, same_soas, soa_changed, put_soas}
use Rattle.zoneupdate.proofs.RisenEntry.{risen-lower}
use Rattle.zoneupdate.proofs.serial.raise_serial.Goals as goal

pub returns-then-not-have_same_rows : goal.returns-then-not-have_same_rows
returns-then-not-have_same_rows c =
    let apex = c.args.apex.now in
    let old = c.args.before.now.rows in
    let new = c.args.work.now.rows in
    let differ = tested c.entries.result.now c.entries-2.result.now old new c.same_rows.result false c.entries.ensures.rows c.entries-2.ensures.rows c.same_rows.ensures c.if-same_rows.false in
    soa_changed apex old new differ (same_soas apex old new c.entries-3.result.now c.entries-4.result.now c.have_same_rows.result false c.entries-3.ensures.rows c.entries-4.ensures.rows c.have_same_rows.ensures c.if-not-have_same_rows.true)

pub put_entries-requires : goal.put_entries-requires
put_entries-requires c = risen-lower c.args.apex.now c.entries-5.result.now c.in_ok-soas.soas.items (ap (list_all shows_its_key) c.entries-5.ensures.rows ∙ c.requires) c.in_ok-soas.ensures

pub returns : goal.returns
returns c =
    let apex = c.args.apex.now in
    let old = c.args.before.now.rows in
    let new = c.args.work.now.rows in
    let differ = tested c.entries.result.now c.entries-2.result.now old new c.same_rows.result false c.entries.ensures.rows c.entries-2.ensures.rows c.same_rows.ensures c.if-same_rows.false in
    let same = same_soas apex old new c.entries-3.result.now c.entries-4.result.now c.have_same_rows.result true c.entries-3.ensures.rows c.entries-4.ensures.rows c.have_same_rows.ensures c.if-not-have_same_rows.false in
    subst (λ (rows : RecordSet). OnOk c.put_entries.result (c.put_entries.new.work.rows ≡ rows))
    (put_soas apex old new c.take_set.new.work.rows c.entries-5.result.now c.in_ok-soas.soas.items c.requires differ same c.take_set.ensures c.entries-5.ensures.rows c.in_ok-soas.ensures) c.put_entries.ensures
