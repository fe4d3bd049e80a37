use Rattle.two_hubs.proofs.Halved.{halves, near-lines, far-follows}
use Rattle.two_hubs.proofs.FarHalf.{far-lines}
use Rattle.two_hubs.proofs.Written.{carries-written}
use Rattle.two_hubs.proofs.halves_are_scripts.Goals as goal

pub returns : goal.returns
returns c = record { worlds = halves; near = near-lines; far = λ script are. far-lines script are (carries-written script are); heads = far-follows }
