-- Links follow the call.
use Rattle.std.proofs.Common.{◌≡◌, ℕ, length, sym, ap, subst, ◌∙◌}
use Rattle.linkreasons.specs.AllReasons.{askings_of}
use Rattle.pushserver.specs.Calls.{gives}
use Rattle.pushserver.specs.Giving.{give}
use Rattle.pushserver.specs.KeptHubs.{KeptHub}
use Rattle.hubasking.specs.LinkAskings.{behind, confirms_by_turn, kept_questions}
use Rattle.pushserver.specs.Hubs.{session_of}
use Rattle.hubasking.specs.Turns.{Settles}
use Rattle.hubasking.proofs.GiveSettles.{settles-ends}
use Rattle.hubasking.proofs.HubCalls.{asked-alike, asked-seen, both-same, kept-same, on_err, stood}
use Rattle.hubasking.proofs.GiveUndone.{undone}
use Rattle.pushserver.proofs.Wanting.{may-want}
use Rattle.hubasking.proofs.GiveStill.{settles-still}
use Rattle.hubasking.proofs.hub.Hub.give_uncounted.Goals as goal

pub follow-requires-clause-follows : goal.follow-requires-clause-follows
follow-requires-clause-follows c =
    (settles-ends c.reasons_are_followed.ensures.fewer c.reasons_are_followed.ensures.follows c.reasons_are_followed.ensures.anew c.bounds.ensures.reconfirming c.self.inside.hub c.give_uncounted.new.self c.args.session (length c.args.buf.now)
    (give c.self.invariant.plain c.args.session (length c.args.buf.now)).hub c.self.inside.reasons c.self.invariant c.tell.ensures.follows c.in-Ok.ensures.kept (c.in-Ok.ensures.ok c.self.invariant.plain c.self.invariant.stands).2
    c.in_ok-ready.ready c.make_ready.new.reasons c.settle.new.reasons c.in_ok-ready.ensures.ready
    (subst (λ (n : ℕ × ℕ). Settles c.give_uncounted.new.self c.args.session c.in_ok-ready.ready n.0 n.1 c.make_ready.new.reasons c.settle.new.reasons) (λ i. (c.count_of-count.ensures i, c.point-point.ensures.kept i)) c.settle.ensures)).0

pub follow-requires-clause-still : goal.follow-requires-clause-still
follow-requires-clause-still c =
    settles-still c.self.inside.hub c.give_uncounted.new.self c.args.session (length c.args.buf.now) c.self.inside.reasons c.self.invariant c.in-Ok.ensures.kept c.in_ok-ready.ready c.make_ready.new.reasons c.settle.new.reasons c.count_of-count.result c.point-point.result c.in_ok-ready.ensures.ready c.settle.ensures

pub returns-in-Ok-clause-asking : goal.returns-in-Ok-clause-asking
returns-in-Ok-clause-asking c =
    asked-seen (gives c.args.session (length c.args.buf.now)) c.self.inside.hub c.self.inside.reasons c.args.self.now (askings_of c.follow.new.reasons) c.self.view_is
    (c.follow.ensures.askings
    ∙ (settles-ends c.reasons_are_followed.ensures.fewer c.reasons_are_followed.ensures.follows c.reasons_are_followed.ensures.anew c.bounds.ensures.reconfirming c.self.inside.hub c.give_uncounted.new.self c.args.session (length c.args.buf.now)
    (give c.self.invariant.plain c.args.session (length c.args.buf.now)).hub c.self.inside.reasons c.self.invariant c.tell.ensures.follows c.in-Ok.ensures.kept (c.in-Ok.ensures.ok c.self.invariant.plain c.self.invariant.stands).2
    c.in_ok-ready.ready c.make_ready.new.reasons c.settle.new.reasons c.in_ok-ready.ensures.ready
    (subst (λ (n : ℕ × ℕ). Settles c.give_uncounted.new.self c.args.session c.in_ok-ready.ready n.0 n.1 c.make_ready.new.reasons c.settle.new.reasons) (λ i. (c.count_of-count.ensures i, c.point-point.ensures.kept i)) c.settle.ensures)).1
    ∙ ap (λ (k : KeptHub). behind kept_questions (confirms_by_turn c.self.inside.hub (session_of c.self.inside.hub c.args.session)) k (askings_of c.self.inside.reasons)) c.in-Ok.ensures.kept.is)

pub returns-in-Ok-clause-asks : goal.returns-in-Ok-clause-asks
returns-in-Ok-clause-asks c =
    asked-alike (gives c.args.session (length c.args.buf.now)) c.self.inside.hub c.give_uncounted.new.self c.self.inside.reasons c.args.self.now (askings_of c.follow.new.reasons) c.self.view_is
    (c.follow.ensures.askings
    ∙ (settles-ends c.reasons_are_followed.ensures.fewer c.reasons_are_followed.ensures.follows c.reasons_are_followed.ensures.anew c.bounds.ensures.reconfirming c.self.inside.hub c.give_uncounted.new.self c.args.session (length c.args.buf.now)
    (give c.self.invariant.plain c.args.session (length c.args.buf.now)).hub c.self.inside.reasons c.self.invariant c.tell.ensures.follows c.in-Ok.ensures.kept (c.in-Ok.ensures.ok c.self.invariant.plain c.self.invariant.stands).2
    c.in_ok-ready.ready c.make_ready.new.reasons c.settle.new.reasons c.in_ok-ready.ensures.ready
    (subst (λ (n : ℕ × ℕ). Settles c.give_uncounted.new.self c.args.session c.in_ok-ready.ready n.0 n.1 c.make_ready.new.reasons c.settle.new.reasons) (λ i. (c.count_of-count.ensures i, c.point-point.ensures.kept i)) c.settle.ensures)).1
    ∙ ap (λ (k : KeptHub). behind kept_questions (confirms_by_turn c.self.inside.hub (session_of c.self.inside.hub c.args.session)) k (askings_of c.self.inside.reasons)) c.in-Ok.ensures.kept.is)
    c.in-Ok.ensures.kept (λ hub stands. (c.in-Ok.ensures.ok hub stands).2)

pub invariant_of-self-in-Err : goal.invariant_of-self-in-Err
invariant_of-self-in-Err c =
    kept-same c.self.inside.hub c.give_uncounted.new.self c.undo.new.reasons c.in-Err.ensures.same
    (undone c.reasons_are_followed.ensures.fewer c.reasons_are_followed.ensures.follows c.reasons_are_followed.ensures.none c.self.inside.hub c.args.session c.self.inside.reasons c.self.invariant c.tell.ensures.follows c.in_ok-ready.ready c.make_ready.new.reasons c.undo.new.reasons c.in_ok-ready.ensures.ready c.undo.ensures).0

pub returns-in-Err-clause-same : goal.returns-in-Err-clause-same
returns-in-Err-clause-same c =
    both-same c.self.inside.hub c.give_uncounted.new.self c.self.inside.reasons c.undo.new.reasons c.args.self.now c.self.view_is c.in-Err.ensures.same
    (undone c.reasons_are_followed.ensures.fewer c.reasons_are_followed.ensures.follows c.reasons_are_followed.ensures.none c.self.inside.hub c.args.session c.self.inside.reasons c.self.invariant c.tell.ensures.follows c.in_ok-ready.ready c.make_ready.new.reasons c.undo.new.reasons c.in_ok-ready.ensures.ready c.undo.ensures).1

pub returns-in_err-ready-clause-memory : goal.returns-in_err-ready-clause-memory
returns-in_err-ready-clause-memory c =
    on_err c.from_residual.result (λ hub stands. may-want c.self.inside.hub hub c.args.session c.in_err-ready.ensures.memory (stood c.self.inside.hub c.self.inside.reasons c.args.self.now hub c.self.view_is stands))
