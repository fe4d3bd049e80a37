-- A session says the reply at the newest point, and asks what it asked.
use Rattle.std.proofs.Common.{List, length, ◌≤◌, ℕ, sym, subst}
use Rattle.rrset.specs.Header.{header_octets}
use Rattle.history.specs.Kept.{state_now as past_state}
use Rattle.pushserver.proofs.Replying.{query-whole, replied-is, replied-watches}
use Rattle.pushserver.proofs.querying.answer_query.Goals as goal

pub reply_at-requires-clause-header : goal.reply_at-requires-clause-header
reply_at-requires-clause-header c = subst (λ (message : List ℕ). header_octets ≤ length message) (sym c.message.ensures) (query-whole c.args.session.now c.requires.request)

pub returns-clause-ok : goal.returns-clause-ok
returns-clause-ok c = λ same.
    replied-is (past_state c.args.points.now.past) c.message.result.now c.in_ok-reply.reply.items c.deref.result.now c.now.result c.args.session.now c.answer_query.new.self
    c.answer_query.ensures c.deref.ensures.value (c.in_ok-reply.ensures.octets same) c.message.ensures c.now.ensures

pub returns-clause-watched : goal.returns-clause-watched
returns-clause-watched c = λ number watching. replied-watches number watching c.deref.result.now c.now.result c.args.session.now c.answer_query.new.self c.answer_query.ensures
