-- All records are those of the zones, and behind them those of the links.
use Rattle.history.proofs.AllRecords.{records-united}
use Rattle.history.proofs.homes.united.Goals as goal

pub returns : goal.returns
returns c = records-united c.args.zones.now c.args.links.now c.new-all.result.rows c.put_all_rows.new.all.rows c.put_all_shown.new.all.rows c.new-all.ensures c.in_ok-put_all_rows.ensures c.in_ok-put_all_shown.ensures
