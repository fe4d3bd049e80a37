use Rattle.std.proofs.Common.{◌≡◌, ◌+◌, suc, length, sym, ap, ◌∙◌, arith}
use Rattle.serving.proofs.Finishing.{count_as, failed_as, part_back}
use Rattle.serving.proofs.closing.finish_jobs.Goals as goal

pub jobs-preserved : goal.jobs-preserved
jobs-preserved g c =
    let fewer : length c.jobs.job-iterator.rest.items ≡ suc (length c.next.new.self.rest.items) = ap (λ js. length js) c.in-Some.ensures.steps.0 in
    record {
      parts = part_back c.jobs.feed.parts c.finish_job-end.result.1.parts _ (length c.jobs.job-iterator.rest.items) (length c.next.new.self.rest.items) c.finish_job-end.ensures.parts fewer c.jobs.invariant.parts;
      starved = λ fresh. c.jobs.invariant.starved (c.note.ensures fresh).0;
      count = λ fresh.
          let more : length c.note.new.noted.ends.items ≡ length c.jobs.noted.ends.items + 1 = count_as c.jobs.noted.ends.items c.note.new.noted.ends.items c.finish_job-end.result.0 (c.note.ensures fresh).1 in
          omega (arith, more, fewer, c.jobs.invariant.count (c.note.ensures fresh).0);
      failed = λ fresh.
          failed_as c.jobs.noted.ends.items c.note.new.noted.ends.items c.finish_job-end.result.0 (c.note.ensures fresh).1 c.finish_job-end.ensures.linkless ∙ c.jobs.invariant.failed (c.note.ensures fresh).0;
    }

pub returns-clause-count : goal.returns-clause-count
returns-clause-count g c = λ fresh.
    let none : length c.jobs.job-iterator.rest.items ≡ 0 = sym c.jobs.job-iterator.rest.ok.0 ∙ c.in-None.ensures.steps.0 in
    omega (arith, none, c.jobs.invariant.count fresh)
