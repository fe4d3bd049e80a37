use Rattle.std.proofs.Common.{◌≡◌, ◌+◌, length, vec_len}
use Rattle.std.specs.Prelude.{false}
use Rattle.std.specs.List.{list_any}
use Rattle.hublock.specs.Feeds.{added, each}
use Rattle.serving.specs.Ends.{is_link_fault}
use Rattle.serving.proofs.closing.finish_jobs.Given as goal

abbrev pub invariant-jobs : goal.invariant-jobs
invariant-jobs g l = record {
  parts : added l.feed.parts (each (length l.job-iterator.rest.items)) ≡ added l.fn.feed.parts (each (vec_len l.fn.jobs));
  starved : l.noted.starved ≡ false → l.fn.noted.starved ≡ false;
  count : l.noted.starved ≡ false → length l.noted.ends.items + length l.job-iterator.rest.items ≡ length l.fn.noted.ends.items + vec_len l.fn.jobs;
  failed : l.noted.starved ≡ false → list_any is_link_fault l.noted.ends.items ≡ list_any is_link_fault l.fn.noted.ends.items;
}
