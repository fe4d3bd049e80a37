-- What a check answers, as the program holds it.
--     checked_of checked      what it stands for
use Rattle.std.specs.Prelude.{string_bytes}
use Rattle.scripts.specs.Outcomes.{status_of}
use Rattle.scripts.specs.Reply.{Reply}
use Rattle.replay.specs.declared.checking.Checked.{Checked}

abbrev pub checked_of : Checked → Reply
checked_of checked = record { status = status_of checked.outcome; text = string_bytes checked.text }
