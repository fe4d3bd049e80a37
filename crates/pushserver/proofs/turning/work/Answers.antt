-- A session that goes on: it reacts to its first message, or packs a PUSH.
use Rattle.std.proofs.Common.{Option, Some, length, sym, ap, subst, ◌∙◌}
use Rattle.rrset.specs.declared.record.Rr.{Rr}
use Rattle.history.specs.Kept.{state_now as past_state}
use Rattle.history.specs.States.{records}
use Rattle.pushsession.specs.declared.request.Request.{Request}
use Rattle.pushsession.specs.declared.request.Request.TheVariants as requests
use Rattle.pushserver.specs.Giving.{given_after}
use Rattle.pushserver.specs.Rows.{AreTold}
use Rattle.subscr.specs.Watching.{watching_of}
use Rattle.pushserver.proofs.Replying.{watches-so}
use Rattle.pushserver.proofs.SessionTurns.{HandsOn, moment-is, can_be_told, packed-gave, itself-gave, subscribe-gave, query-gave, no_record-gave}
use Rattle.pushserver.proofs.turning.work.Goals as goal
use Rattle.pushserver.proofs.turning.work.Goals.{in-Itself, in-Reconfirm-None, in-Query+in_ok-answer_query-in-Query, in-Subscribe+in_ok-subscribe-in-Subscribe}

pub returns-in_default-clause-ok : goal.returns-in_default-clause-ok
returns-in_default-clause-ok g c = λ kept number seat.
    packed-gave number kept c.args.session.now seat.there seat.apart c.requires.live c.requires.silent c.index-rows.result.now.rows c.now-now.result c.copy_output.result c.args.buf.now c.copy_output.new.buf c.pack.new.self c.copy_output.new.session
    (sym c.in_ok-request.ensures.request ∙ c.in_default.is) (c.index-rows.ensures ∙ seat.rows_is) (moment-is kept (past_state c.args.points.now.past) c.now-now.result seat.state_is c.now-now.ensures) c.pack.ensures
    (record { given_is = c.copy_output.ensures.given; octets = c.copy_output.ensures.octets; session = c.copy_output.ensures.session })

pub subscribe-requires-clause-told : goal.subscribe-requires-clause-told
subscribe-requires-clause-told g c = can_be_told c.in-Subscribe.question c.has_home-has_home.result c.index-rows.result.now.rows (subst AreTold (sym c.index-rows.ensures) c.requires.told)

pub returns-clause-ok : goal.returns-clause-ok
returns-clause-ok g c = λ kept number seat.
    let on : HandsOn c.match-request.session (given_after c.match-request.session.standing) c.after_reaction.result c.args.buf.now c.after_reaction.new.buf c.after_reaction.new.session = record { given_is = c.after_reaction.ensures.given; octets = c.after_reaction.ensures.octets; session = c.after_reaction.ensures.session } in
    let moment = moment-is kept (past_state c.args.points.now.past) c.now-now.result seat.state_is c.now-now.ensures in
    elim c.match-request.branch [
      | in-Itself w ↦
          itself-gave number kept c.args.session.now seat.there seat.apart c.requires.live c.requires.silent c.args.timers c.now-now.result c.after_reaction.result c.args.buf.now c.after_reaction.new.buf c.match-request.session c.after_reaction.new.session
          (sym c.in_ok-request.ensures.request ∙ c.in-Some.is ∙ ap (λ (r : Request). Some r) w.in-Itself.is) seat.timers_is moment (w.session-is ∙ w.react.ensures.session) on
      | in-Reconfirm-None w ↦
          no_record-gave number kept c.args.session.now seat.there seat.apart c.requires.live c.requires.silent c.now-now.result c.after_reaction.result c.args.buf.now c.after_reaction.new.buf c.match-request.session c.after_reaction.new.session
          (sym c.in_ok-request.ensures.request ∙ c.in-Some.is ∙ ap (λ (r : Request). Some r) (w.in-Reconfirm-None.is ∙ ap (λ (o : Option Rr). requests.Reconfirm o) w.in-Reconfirm-None.field-0-is)) moment (w.session-is ∙ w.reconfirm.ensures.session) on
      | in-Query+in_ok-answer_query-in-Query w ↦
          query-gave number kept c.args.session.now seat.there seat.apart c.requires.live c.requires.silent (past_state c.args.points.now.past) c.after_reaction.result c.args.buf.now c.after_reaction.new.buf c.match-request.session c.after_reaction.new.session
          (sym c.in_ok-request.ensures.request ∙ c.in-Some.is ∙ ap (λ (r : Request). Some r) w.in-Query.is) seat.state_is (w.session-is ∙ w.in_ok-answer_query-in-Query.ensures.ok (seat.rows_is ∙ ap records seat.state_is)) on
      | in-Subscribe+in_ok-subscribe-in-Subscribe w ↦
          subscribe-gave number kept c.args.session.now seat.there seat.apart c.requires.live c.requires.silent w.in-Subscribe.question w.has_home-has_home.result c.index-rows.result.now.rows c.now-now.result c.after_reaction.result c.args.buf.now c.after_reaction.new.buf c.match-request.session c.after_reaction.new.session
          (sym c.in_ok-request.ensures.request ∙ c.in-Some.is ∙ ap (λ (r : Request). Some r) w.in-Subscribe.is) (w.has_home-has_home.ensures kept seat.state_is) (c.index-rows.ensures ∙ seat.rows_is) moment (w.session-is ∙ w.in_ok-subscribe-in-Subscribe.ensures.ok) on
    ]

pub returns-clause-watched : goal.returns-clause-watched
returns-clause-watched g c =
    let before = watching_of c.args.watchers.now in
    let room = length c.args.buf.now in
    elim c.match-request.branch [
      | in-Itself w ↦ watches-so c.args.number room before w.react.new.watchers c.match-request.watchers c.args.session.now w.react.new.self c.match-request.session c.after_reaction.new.session w.react.ensures.watched w.watchers-is w.session-is c.after_reaction.ensures.session
      | in-Reconfirm-None w ↦
          watches-so c.args.number room before w.reconfirm.new.watchers c.match-request.watchers c.args.session.now w.reconfirm.new.self c.match-request.session c.after_reaction.new.session w.reconfirm.ensures.watched w.watchers-is w.session-is c.after_reaction.ensures.session
      | in-Query+in_ok-answer_query-in-Query w ↦
          watches-so c.args.number room before c.args.watchers.now c.match-request.watchers c.args.session.now w.answer_query.new.session c.match-request.session c.after_reaction.new.session
          (w.answer_query.ensures.watched c.args.number before) w.watchers-is w.session-is c.after_reaction.ensures.session
      | in-Subscribe+in_ok-subscribe-in-Subscribe w ↦
          watches-so c.args.number room before w.subscribe.new.watchers c.match-request.watchers c.args.session.now w.subscribe.new.self c.match-request.session c.after_reaction.new.session w.subscribe.ensures.watched w.watchers-is w.session-is c.after_reaction.ensures.session
    ]
