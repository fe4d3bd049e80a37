use Rattle.replay.specs.TextWords.{by_history}
use Rattle.script_laws.proofs.Scripts.{lines-keep}
use Rattle.scripts.specs.WholeScripts.{near_lines}
use Rattle.replay.specs.TwoWorlds.{start_worlds, far_lines_after}
use Rattle.two_hubs.proofs.Halved.{near-lines}
use Rattle.two_hubs.proofs.FarHalf.{far-lines}
use Rattle.two_hubs.proofs.Written.{carries-written}
use Rattle.two_hubs.proofs.halves_keep_promises.Goals as goal

pub returns : goal.returns
returns c = record {
  near = λ script are. lines-keep (near_lines script) (near-lines script are);
  far = λ script are. lines-keep (far_lines_after by_history script (start_worlds script)) (far-lines script are (carries-written script are));
}
