use Rattle.std.proofs.Common.{List, ◌++◌, ◌∙◌, ap, sym, subst, length}
use Rattle.dsotlv.specs.declared.message.Notice.{Notice}
use Rattle.dnsname.specs.Names.{Labels}
use Rattle.coalesce.specs.Net.{push_frame}
use Rattle.coalesce.specs.Waiting.{CanBePacked, names_waiting, waiting_of}
use Rattle.coalesce.proofs.Entries.{Entry, count-waiting}
use Rattle.coalesce.proofs.Pushing.{lone_goes}
use Rattle.coalesce.proofs.push_front.append_lone.Goals as goal

pub append_push-requires-clause-sides : goal.append_push-requires-clause-sides
append_push-requires-clause-sides g c = (subst (λ (q : List Entry). CanBePacked c.args.index.now.rows (names_waiting q)) c.in-Some.ensures.parts c.requires.sides).0

pub returns-in-Some-clause-written : goal.returns-in-Some-clause-written
returns-in-Some-clause-written g c =
    let goes = lone_goes c.args.questions.now c.args.index.now.rows (names_waiting c.args.names) (waiting_of (c.in-Some.name.now, c.in-Some.waiting.now)) _ (ap names_waiting c.in-Some.ensures.parts) (count-waiting c.args.names ∙ c.requires.lone) in
    c.append_push.ensures.written ∙ ap (λ (p : List Notice × List Labels). c.args.out.now ++ push_frame p.0) (sym goes)

pub returns-in-Some-clause-size : goal.returns-in-Some-clause-size
returns-in-Some-clause-size g c =
    let goes = lone_goes c.args.questions.now c.args.index.now.rows (names_waiting c.args.names) (waiting_of (c.in-Some.name.now, c.in-Some.waiting.now)) _ (ap names_waiting c.in-Some.ensures.parts) (count-waiting c.args.names ∙ c.requires.lone) in
    c.append_push.ensures.size ∙ ap (λ (p : List Notice × List Labels). length (push_frame p.0)) (sym goes)
