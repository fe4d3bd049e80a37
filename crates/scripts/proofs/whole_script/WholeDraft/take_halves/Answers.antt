use Rattle.std.proofs.Common.{◌&&◌, Bool, ap, subst, ◌∙◌}
use Rattle.scripts.specs.KeptLines.{said}
use Rattle.scripts.specs.Drafts.{TakesLine, known_of, may_stand, taken_of}
use Rattle.scripts.proofs.wholes.Growing.{and_none}
use Rattle.scripts.proofs.whole_script.WholeDraft.take_halves.Goals as goal

pub returns-then-not-branch-2 : goal.returns-then-not-branch-2
returns-then-not-branch-2 c =
    let draft = c.args.self.now in
    let all = draft.clients in
    let wrong = subst (λ (taken : Bool). TakesLine all draft.far c.args.far c.take_among-2.new.self taken) c.if-not-branch-2.true c.in_ok-take_among-2.ensures in
    ap (λ (b : Bool). may_stand all (known_of (taken_of draft.near)) (said c.args.near) && b) wrong ∙ and_none (may_stand all (known_of (taken_of draft.near)) (said c.args.near))
