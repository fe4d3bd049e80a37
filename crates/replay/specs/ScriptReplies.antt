-- What a script is answered.
--     reply_of reply      what a reply of the program stands for
--     reply_to_script records octets      the status and the text for the octets that were read
use Rattle.std.specs.Prelude.{ℕ, List, string_bytes}
use Rattle.replay.specs.TextWords.{HeldRecords}
use Rattle.replay.specs.ScriptTexts.{text_with}
use Rattle.scripts.specs.Outcomes.{status_of}
use Rattle.scripts.specs.Reply.{Reply}
use Rattle.replay.specs.declared.reply.Reply as program

abbrev pub reply_of : program.Reply → Reply
reply_of reply = record { status = status_of reply.outcome; text = string_bytes reply.text }

-- status 0 and the text of the script, or status 2 and the number of the first line outside
unfoldable pub reply_to_script : HeldRecords → List ℕ → Reply
reply_to_script records octets = record { status = (text_with records octets).0; text = (text_with records octets).1 }
