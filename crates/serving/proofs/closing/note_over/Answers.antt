use Rattle.serving.proofs.Finishing.{noted_on}
use Rattle.serving.proofs.closing.note_over.Goals as goal

pub over-preserved : goal.over-preserved
over-preserved c = λ fresh.
    let here = c.note.ensures fresh in
    let before = c.over.invariant here.0 in
    (before.0, noted_on c.over.noted.ends.items c.note.new.noted.ends.items c.over.end-iterator.rest.items c.next.new.self.rest.items _ _ here.1 c.in-Some.ensures.steps.0 before.1)
