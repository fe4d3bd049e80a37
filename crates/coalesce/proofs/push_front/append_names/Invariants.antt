use Rattle.std.proofs.Common.{◌≡◌, ◌+◌, ◌++◌, length}
use Rattle.std.specs.Prelude.{flat_map}
use Rattle.dsotlv.specs.Notices.{notice_octets}
use Rattle.coalesce.specs.Laws.{all_notices}
use Rattle.coalesce.specs.Waiting.{CanBePacked, names_waiting, nets_in}
use Rattle.coalesce.proofs.push_front.append_names.Given as goal

abbrev pub invariant-names : goal.invariant-names
invariant-names g l = record {
  can : CanBePacked l.index.rows (names_waiting l.rest);
  written : l.out ++ flat_map notice_octets (all_notices (nets_in l.questions l.index.rows (names_waiting l.rest))) ≡ l.fn.out ++ flat_map notice_octets (all_notices (nets_in l.questions l.index.rows (names_waiting l.fn.names)));
  counted : l.steps + length l.rest ≡ l.fn.steps + length l.fn.names;
}

abbrev pub decreases-names : goal.decreases-names
decreases-names g l = length l.rest
