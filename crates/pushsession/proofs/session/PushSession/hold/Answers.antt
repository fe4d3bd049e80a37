use Rattle.std.proofs.Common.{◌∙◌, ◌<◌, true, length, sym, ap, subst, rules}
use Rattle.std.specs.Prelude.{find}
use Rattle.std.proofs.lemmas.Bool.{leb-false}
use Rattle.push_base.specs.Limits.{max_questions}
use Rattle.coalesce.specs.FirstAnswers.{first_notices}
use Rattle.coalesce.specs.Net.{push_frame}
use Rattle.coalesce.specs.Waiting.{is_named}
use Rattle.subscr.specs.Asked.{has, id_of}
use Rattle.pushsession.specs.Kept.{KeptSession, keeping}
use Rattle.pushsession.proofs.Accepting.{held_is}
use Rattle.pushsession.proofs.Passing.{passed_own}
use Rattle.pushsession.proofs.session.PushSession.hold.Goals as goal

pub ask-requires-clause-id : goal.ask-requires-clause-id
ask-requires-clause-id g c =
    ap (λ (s : KeptSession). has c.args.id s.subscriptions.asked) c.self.view_is
    ∙ (passed_own keeping c.args.id true c.args.self.now.subscriptions c.args.question c.requires.accepted).new_id

pub ask-requires-clause-question : goal.ask-requires-clause-question
ask-requires-clause-question g c =
    ap (λ (s : KeptSession). id_of c.args.question s.subscriptions.asked) c.self.view_is
    ∙ (passed_own keeping c.args.id true c.args.self.now.subscriptions c.args.question c.requires.accepted).new_question

pub ask-requires-clause-room : goal.ask-requires-clause-room
ask-requires-clause-room g c =
    let room = (passed_own keeping c.args.id true c.args.self.now.subscriptions c.args.question c.requires.accepted).room in
    subst (λ (s : KeptSession). length s.subscriptions.asked < max_questions) (sym c.self.view_is) (leb-false max_questions (length c.args.self.now.subscriptions.asked) room)

pub returns-clause-ok : goal.returns-clause-ok
returns-clause-ok g c =
    held_is c.args.id c.args.question (first_notices c.args.question c.args.self.now.subscriptions.asked c.args.index.now.rows (find (is_named c.args.question.name) c.args.self.now.queue)) c.args.self.now _ c.append_first_answer-size.result
    (search rules) (search rules) (search rules) (search rules)
    (c.append_first_answer-size.ensures.size
    ∙ ap (λ (s : KeptSession). length (push_frame (first_notices c.args.question s.subscriptions.asked c.args.index.now.rows (find (is_named c.args.question.name) s.queue)))) c.self.view_is)
    (search rules) (search rules) (search rules) (search rules) (search rules)
