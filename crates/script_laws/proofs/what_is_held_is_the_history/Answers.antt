use Rattle.script_laws.proofs.texts.WhatIsHeld.{holds-the-history}
use Rattle.script_laws.proofs.what_is_held_is_the_history.Goals as goal

pub returns : goal.returns
returns c = record { held = holds-the-history }
