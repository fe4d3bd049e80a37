use Rattle.std.proofs.Common.{◌≡◌, ◌≤◌, ◌||◌, ℕ, Bool, length, min, sym, ap, ◌∙◌, subst, arith, take, length-take}
use Rattle.coalesce.specs.Sides.{frame_octets}
use Rattle.pushserver.specs.Counting.{octets_of}
use Rattle.replay.specs.KeptExchanges.{has_worked, noted_if, Gives, Emits}
use Rattle.replay.proofs.exchanges.Emitting.{Turning, room_in, stepped, turning-begins, turning-more, emits-last, emits-used_up, emits-used_up_budget, is_zero, not_zero, narrower}
use Rattle.replay.proofs.exchanging.emit.Goals as goal

pub turns-init : goal.turns-init
turns-init c = record { law = c.kept_hubs_stand.ensures.gives; turning = turning-begins c.args.most c.args.hub.now c.args.session c.args.octets.now.items (noted_if c.args.notes c.args.filled.now.items) }

pub returns-then-is_used_up : goal.returns-then-is_used_up
returns-then-is_used_up c = emits-used_up_budget c.turns.invariant.law c.args.most c.args.hub.now c.turns.hub c.args.session c.turns.left c.turns.budget c.args.octets.now.items c.turns.octets.items (noted_if c.args.notes c.args.filled.now.items) (noted_if c.args.notes c.turns.filled.items) c.turns.reacted
    c.turns.invariant.turning c.is_used_up.ensures.short (is_zero c.turns.budget (sym c.is_used_up.ensures.test ∙ c.if-is_used_up.true))

pub returns-in-Last : goal.returns-in-Last
returns-in-Last c =
    let size = length c.turns.buffer in
    let wide : frame_octets ≤ size = omega (arith, c.requires, c.turns.auto.buffer) in
    let given = c.in_ok-given.given in
    let room : length (take c.room_for-room.result c.turns.buffer) ≡ room_in c.turns.budget size = length-take c.room_for-room.result c.turns.buffer ∙ ap (λ (n : ℕ). min n size) c.room_for-room.ensures ∙ narrower c.turns.budget size in
    let gives : Gives (room_in c.turns.budget size) c.turns.hub c.args.session c.turns.octets.items (noted_if c.args.notes c.turns.filled.items) c.give.new.hub c.give.new.octets.items (noted_if c.args.notes c.give.new.filled.items) given =
    subst (λ (n : ℕ). Gives n c.turns.hub c.args.session c.turns.octets.items (noted_if c.args.notes c.turns.filled.items) c.give.new.hub c.give.new.octets.items (noted_if c.args.notes c.give.new.filled.items) given) room c.in_ok-given.ensures.given in
    let some = not_zero c.turns.budget (sym c.is_used_up.ensures.test ∙ c.if-is_used_up.false) in
    let reacts : c.either-reacted.result ≡ (c.turns.reacted || has_worked given) = c.either-reacted.ensures ∙ ap (λ (b : Bool). c.turns.reacted || b) c.has_worked.ensures in
    subst (λ (b : Bool). Emits c.args.most c.args.hub.now c.args.session c.args.octets.now.items (noted_if c.args.notes c.args.filled.now.items) c.give.new.hub c.give.new.octets.items (noted_if c.args.notes c.give.new.filled.items) (record { reacted = b; over = c.in-Last.over })) (sym reacts)
    (emits-last c.turns.invariant.law c.args.most c.args.hub.now c.turns.hub c.give.new.hub c.args.session c.turns.left c.turns.budget c.args.octets.now.items c.turns.octets.items c.give.new.octets.items (noted_if c.args.notes c.args.filled.now.items) (noted_if c.args.notes c.turns.filled.items) (noted_if c.args.notes c.give.new.filled.items) c.turns.reacted size given c.in-Last.over
    c.turns.invariant.turning c.is_used_up.ensures.short wide some gives (sym c.turn_of.ensures ∙ c.in-Last.is))

pub returns-then-left-eq0 : goal.returns-then-left-eq0
returns-then-left-eq0 c =
    let size = length c.turns.buffer in
    let wide : frame_octets ≤ size = omega (arith, c.requires, c.turns.auto.buffer) in
    let given = c.in_ok-given.given in
    let room : length (take c.room_for-room.result c.turns.buffer) ≡ room_in c.turns.budget size = length-take c.room_for-room.result c.turns.buffer ∙ ap (λ (n : ℕ). min n size) c.room_for-room.ensures ∙ narrower c.turns.budget size in
    let gives : Gives (room_in c.turns.budget size) c.turns.hub c.args.session c.turns.octets.items (noted_if c.args.notes c.turns.filled.items) c.give.new.hub c.give.new.octets.items (noted_if c.args.notes c.give.new.filled.items) given =
    subst (λ (n : ℕ). Gives n c.turns.hub c.args.session c.turns.octets.items (noted_if c.args.notes c.turns.filled.items) c.give.new.hub c.give.new.octets.items (noted_if c.args.notes c.give.new.filled.items) given) room c.in_ok-given.ensures.given in
    let some = not_zero c.turns.budget (sym c.is_used_up.ensures.test ∙ c.if-is_used_up.false) in
    let reacts : c.either-reacted.result ≡ (c.turns.reacted || has_worked given) = c.either-reacted.ensures ∙ ap (λ (b : Bool). c.turns.reacted || b) c.has_worked.ensures in
    let more : Turning c.args.most c.args.hub.now c.args.session c.turns.left c.left_of-budget.result c.args.octets.now.items (noted_if c.args.notes c.args.filled.now.items) c.give.new.hub c.give.new.octets.items (noted_if c.args.notes c.give.new.filled.items) c.either-reacted.result =
    subst (λ (b : Bool). Turning c.args.most c.args.hub.now c.args.session c.turns.left c.left_of-budget.result c.args.octets.now.items (noted_if c.args.notes c.args.filled.now.items) c.give.new.hub c.give.new.octets.items (noted_if c.args.notes c.give.new.filled.items) b) (sym reacts)
    (subst (λ (n : ℕ). Turning c.args.most c.args.hub.now c.args.session c.turns.left n c.args.octets.now.items (noted_if c.args.notes c.args.filled.now.items) c.give.new.hub c.give.new.octets.items (noted_if c.args.notes c.give.new.filled.items) (c.turns.reacted || has_worked given)) (sym c.left_of-budget.ensures)
    (turning-more c.turns.invariant.law c.args.most c.args.hub.now c.turns.hub c.give.new.hub c.args.session c.turns.left c.turns.budget c.args.octets.now.items c.turns.octets.items c.give.new.octets.items (noted_if c.args.notes c.args.filled.now.items) (noted_if c.args.notes c.turns.filled.items) (noted_if c.args.notes c.give.new.filled.items) c.turns.reacted size given
    c.turns.invariant.turning c.is_used_up.ensures.short wide some gives (subst (λ (n : ℕ). octets_of given ≤ n) room c.in_ok-given.ensures.bound) (sym c.turn_of.ensures ∙ c.in_default.is))) in
    emits-used_up c.args.most c.args.hub.now c.give.new.hub c.args.session c.left_of-budget.result c.turns.left c.args.octets.now.items c.give.new.octets.items (noted_if c.args.notes c.args.filled.now.items) (noted_if c.args.notes c.give.new.filled.items) c.either-reacted.result c.if-left-eq0.true more

pub turns-preserved : goal.turns-preserved
turns-preserved c =
    let size = length c.turns.buffer in
    let wide : frame_octets ≤ size = omega (arith, c.requires, c.turns.auto.buffer) in
    let given = c.in_ok-given.given in
    let room : length (take c.room_for-room.result c.turns.buffer) ≡ room_in c.turns.budget size = length-take c.room_for-room.result c.turns.buffer ∙ ap (λ (n : ℕ). min n size) c.room_for-room.ensures ∙ narrower c.turns.budget size in
    let gives : Gives (room_in c.turns.budget size) c.turns.hub c.args.session c.turns.octets.items (noted_if c.args.notes c.turns.filled.items) c.give.new.hub c.give.new.octets.items (noted_if c.args.notes c.give.new.filled.items) given =
    subst (λ (n : ℕ). Gives n c.turns.hub c.args.session c.turns.octets.items (noted_if c.args.notes c.turns.filled.items) c.give.new.hub c.give.new.octets.items (noted_if c.args.notes c.give.new.filled.items) given) room c.in_ok-given.ensures.given in
    let some = not_zero c.turns.budget (sym c.is_used_up.ensures.test ∙ c.if-is_used_up.false) in
    let reacts : c.either-reacted.result ≡ (c.turns.reacted || has_worked given) = c.either-reacted.ensures ∙ ap (λ (b : Bool). c.turns.reacted || b) c.has_worked.ensures in
    let more : Turning c.args.most c.args.hub.now c.args.session c.turns.left c.left_of-budget.result c.args.octets.now.items (noted_if c.args.notes c.args.filled.now.items) c.give.new.hub c.give.new.octets.items (noted_if c.args.notes c.give.new.filled.items) c.either-reacted.result =
    subst (λ (b : Bool). Turning c.args.most c.args.hub.now c.args.session c.turns.left c.left_of-budget.result c.args.octets.now.items (noted_if c.args.notes c.args.filled.now.items) c.give.new.hub c.give.new.octets.items (noted_if c.args.notes c.give.new.filled.items) b) (sym reacts)
    (subst (λ (n : ℕ). Turning c.args.most c.args.hub.now c.args.session c.turns.left n c.args.octets.now.items (noted_if c.args.notes c.args.filled.now.items) c.give.new.hub c.give.new.octets.items (noted_if c.args.notes c.give.new.filled.items) (c.turns.reacted || has_worked given)) (sym c.left_of-budget.ensures)
    (turning-more c.turns.invariant.law c.args.most c.args.hub.now c.turns.hub c.give.new.hub c.args.session c.turns.left c.turns.budget c.args.octets.now.items c.turns.octets.items c.give.new.octets.items (noted_if c.args.notes c.args.filled.now.items) (noted_if c.args.notes c.turns.filled.items) (noted_if c.args.notes c.give.new.filled.items) c.turns.reacted size given
    c.turns.invariant.turning c.is_used_up.ensures.short wide some gives (subst (λ (n : ℕ). octets_of given ≤ n) room c.in_ok-given.ensures.bound) (sym c.turn_of.ensures ∙ c.in_default.is))) in
    record {
      law = c.turns.invariant.law;
      turning = subst (λ (n : ℕ). Turning c.args.most c.args.hub.now c.args.session n c.left_of-budget.result c.args.octets.now.items (noted_if c.args.notes c.args.filled.now.items) c.give.new.hub c.give.new.octets.items (noted_if c.args.notes c.give.new.filled.items) c.either-reacted.result) (stepped c.turns.left c.if-left-eq0.false) more;
    }
