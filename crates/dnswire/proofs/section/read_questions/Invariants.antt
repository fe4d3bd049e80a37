use Rattle.std.proofs.Common.{◌≡◌, ◌-◌}
use Rattle.dnswire.specs.Reading.{question_at, several}
use Rattle.dnswire.proofs.Sections.{ahead}
use Rattle.dnswire.proofs.section.read_questions.Given as goal

abbrev pub invariant-questions : goal.invariant-questions
invariant-questions l = ahead l.questions (several question_at (l.count - l._done) l.message l.place) ≡ several question_at l.count l.message l.at
