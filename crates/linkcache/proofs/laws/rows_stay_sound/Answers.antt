use Rattle.linkcache.proofs.SoundSteps.{sound-heard, sound-moment, sound-reconfirmed}
use Rattle.linkcache.proofs.laws.rows_stay_sound.Goals as goal

pub returns : goal.returns
returns c rules now rows sound = ((λ hearing. sound-heard rules now hearing rows sound), sound-moment rules now rows sound, (λ key. sound-reconfirmed rules key now rows sound))
