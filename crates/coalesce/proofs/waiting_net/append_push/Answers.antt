use Rattle.std.proofs.Common.{◌≡◌, ℕ, ◌+◌, ◌++◌, ◌∙◌, ap, sym, length, append_assoc, append-nil, arith}
use Rattle.std.specs.Prelude.{flat_map}
use Rattle.std.proofs.lemmas.List.{length-append}
use Rattle.rrset.specs.RecordSet.{RecordSet}
use Rattle.dsotlv.specs.Notices.{notice_octets}
use Rattle.coalesce.specs.Net.{net, size_of_notices}
use Rattle.coalesce.specs.Steps.{head_of, notices_as}
use Rattle.coalesce.specs.Touched.{new_rows, old_rows}
use Rattle.coalesce.proofs.Forms.{net_frame-none, net_frame-some, net_small, length-head}
use Rattle.coalesce.proofs.waiting_net.append_push.Goals as goal

-- the net of the sides is that of the rows
of_rows : (old new left right : RecordSet) (size : ℕ) → left ≡ old → right ≡ new → size ≡ size_of_notices (net left right) → size ≡ size_of_notices (net old new)
of_rows old new left right size old-is new-is size-is = size-is ∙ (λ i. size_of_notices (net (old-is i) (new-is i)))

pub returns-then-plan-eq0-clause-written : goal.returns-then-plan-eq0-clause-written
returns-then-plan-eq0-clause-written c =
    let size = of_rows (old_rows c.args.touched.now) (new_rows c.args.touched.now) c.old_side-old.result c.new_side-new.result c.plan_of-plan.result.size c.old_side-old.ensures c.new_side-new.ensures c.plan_of-plan.ensures.size in
    sym (append-nil c.args.out.now) ∙ ap (λ l. c.args.out.now ++ l) (sym (net_frame-none (old_rows c.args.touched.now) (new_rows c.args.touched.now) (sym size ∙ c.if-plan-eq0.true)))

pub returns-then-plan-eq0-clause-size : goal.returns-then-plan-eq0-clause-size
returns-then-plan-eq0-clause-size c =
    let size = of_rows (old_rows c.args.touched.now) (new_rows c.args.touched.now) c.old_side-old.result c.new_side-new.result c.plan_of-plan.result.size c.old_side-old.ensures c.new_side-new.ensures c.plan_of-plan.ensures.size in
    sym (ap (λ l. length l) (net_frame-none (old_rows c.args.touched.now) (new_rows c.args.touched.now) (sym size ∙ c.if-plan-eq0.true)))

pub append_head-requires-clause-size : goal.append_head-requires-clause-size
append_head-requires-clause-size c =
    let size = of_rows (old_rows c.args.touched.now) (new_rows c.args.touched.now) c.old_side-old.result c.new_side-new.result c.plan_of-plan.result.size c.old_side-old.ensures c.new_side-new.ensures c.plan_of-plan.ensures.size in
    omega (arith, size, net_small (old_rows c.args.touched.now) (new_rows c.args.touched.now) c.requires.sides c.requires.sent)

pub append_form-requires-clause-room : goal.append_form-requires-clause-room
append_form-requires-clause-room c =
    let size = of_rows (old_rows c.args.touched.now) (new_rows c.args.touched.now) c.old_side-old.result c.new_side-new.result c.plan_of-plan.result.size c.old_side-old.ensures c.new_side-new.ensures c.plan_of-plan.ensures.size in
    let told = ap size_of_notices c.plan_of-plan.ensures.form in
    let head = ap (λ l. length l) c.append_head.ensures ∙ length-append c.args.out.now (head_of c.plan_of-plan.result.size) in
    omega (arith, size, told, head, c.plan_of-plan.ensures.size, net_small (old_rows c.args.touched.now) (new_rows c.args.touched.now) c.requires.sides c.requires.sent)

pub overflow_add-result : goal.overflow_add-result
overflow_add-result c =
    let size = of_rows (old_rows c.args.touched.now) (new_rows c.args.touched.now) c.old_side-old.result c.new_side-new.result c.plan_of-plan.result.size c.old_side-old.ensures c.new_side-new.ensures c.plan_of-plan.ensures.size in
    omega (arith, size, net_small (old_rows c.args.touched.now) (new_rows c.args.touched.now) c.requires.sides c.requires.sent)

pub returns-clause-written : goal.returns-clause-written
returns-clause-written c =
    let size = of_rows (old_rows c.args.touched.now) (new_rows c.args.touched.now) c.old_side-old.result c.new_side-new.result c.plan_of-plan.result.size c.old_side-old.ensures c.new_side-new.ensures c.plan_of-plan.ensures.size in
    c.append_form.ensures
    ∙ ap (λ l. l ++ flat_map notice_octets (notices_as c.plan_of-plan.result.form c.in-Some.name.now c.old_side-old.result c.new_side-new.result)) c.append_head.ensures
    ∙ append_assoc c.args.out.now (head_of c.plan_of-plan.result.size) (flat_map notice_octets (notices_as c.plan_of-plan.result.form c.in-Some.name.now c.old_side-old.result c.new_side-new.result))
    ∙ ap (λ l. c.args.out.now ++ (head_of c.plan_of-plan.result.size ++ flat_map notice_octets l)) (c.plan_of-plan.ensures.form ∙ (λ i. net (c.old_side-old.ensures i) (c.new_side-new.ensures i)))
    ∙ ap (λ l. c.args.out.now ++ l) (sym (net_frame-some (old_rows c.args.touched.now) (new_rows c.args.touched.now) c.plan_of-plan.result.size size c.if-plan-eq0.false))

pub returns-clause-size : goal.returns-clause-size
returns-clause-size c =
    let size = of_rows (old_rows c.args.touched.now) (new_rows c.args.touched.now) c.old_side-old.result c.new_side-new.result c.plan_of-plan.result.size c.old_side-old.ensures c.new_side-new.ensures c.plan_of-plan.ensures.size in
    ap (λ n. 18 + n) size
    ∙ sym (length-head c.plan_of-plan.result.size (flat_map notice_octets (net (old_rows c.args.touched.now) (new_rows c.args.touched.now))))
    ∙ sym (ap (λ l. length l) (net_frame-some (old_rows c.args.touched.now) (new_rows c.args.touched.now) c.plan_of-plan.result.size size c.if-plan-eq0.false))
