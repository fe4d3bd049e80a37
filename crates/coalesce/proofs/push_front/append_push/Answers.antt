use Rattle.std.proofs.Common.{ℕ, ◌-◌, length, ap, subst, sym, ◌∙◌}
use Rattle.coalesce.specs.Waiting.{CanBePacked, names_waiting, packed_of}
use Rattle.coalesce.proofs.Entries.{names-taken, count-waiting, can-first}
use Rattle.coalesce.proofs.Pushing.{push_written, push_room}
use Rattle.coalesce.proofs.push_front.append_push.Goals as goal

pub append_names-requires-clause-sides : goal.append_names-requires-clause-sides
append_names-requires-clause-sides g c =
    subst (CanBePacked c.args.index.now.rows) (sym (ap names_waiting c.split_at-first.ensures.front ∙ names-taken c.args.front.names c.args.names))
    (can-first c.args.index.now.rows c.args.front.names (names_waiting c.args.names) c.requires.sides)

pub append_names-requires-clause-room : goal.append_names-requires-clause-room
append_names-requires-clause-room g c =
    push_room c.args.questions.now c.args.index.now.rows (names_waiting c.args.names) (names_waiting c.split_at-first.result.0) c.args.front.names c.args.front.size c.args.out.now c.append_head.new.out
    (c.requires.names ∙ ap (λ (n : ℕ). n - length (packed_of c.args.questions.now c.args.index.now.rows (names_waiting c.args.names)).1) (sym (count-waiting c.args.names)))
    (ap names_waiting c.split_at-first.ensures.front ∙ names-taken c.args.front.names c.args.names) c.requires.size c.requires.most c.requires.room c.append_head.ensures

pub returns-clause-written : goal.returns-clause-written
returns-clause-written g c =
    push_written c.args.questions.now c.args.index.now.rows (names_waiting c.args.names) (names_waiting c.split_at-first.result.0) c.args.front.names c.args.front.size c.args.out.now c.append_head.new.out c.append_names.new.out
    (c.requires.names ∙ ap (λ (n : ℕ). n - length (packed_of c.args.questions.now c.args.index.now.rows (names_waiting c.args.names)).1) (sym (count-waiting c.args.names)))
    (ap names_waiting c.split_at-first.ensures.front ∙ names-taken c.args.front.names c.args.names) c.requires.size c.if-front-eq0.false c.append_head.ensures c.append_names.ensures.written
