use Rattle.std.proofs.Common.{◌∙◌}
use Rattle.big_scripts.proofs.Making.{appended}
use Rattle.big_scripts.proofs.rounds.push_round.Goals as goal

pub returns : goal.returns
returns c = appended _ _ _ _ _ _ _ c.in_ok-extend_from_slice.ensures.items c.in_ok-extend_from_slice-2.ensures.items c.in_ok-extend_from_slice-3.ensures.items _ _ c.update_line.ensures (c.as_bytes.ensures.value ∙ c.in_ok-hearing.ensures)
