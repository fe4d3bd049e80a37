use Rattle.std.proofs.lemmas.Str.{is_utf8-from_IsUtf8}
use Rattle.scripts.proofs.lines.Readers.{comment_inside, comment_outside}
use Rattle.scripts.proofs.line.comment_line.Goals as goal

pub returns-in-Ok : goal.returns-in-Ok
returns-in-Ok c = record { exact = comment_inside c.args.comment.now (is_utf8-from_IsUtf8 c.args.comment.now c.in-Ok.ensures.cases.1) }

pub returns-in-Err : goal.returns-in-Err
returns-in-Err c = record { exact = comment_outside c.args.comment.now c.in-Err.ensures.cases.0 }
