-- A moment before the least end.
use Rattle.std.proofs.Common.{sym, ◌∙◌}
use Rattle.hubasking.proofs.Touching.{later-end, no-end}
use Rattle.hubasking.proofs.following.ends_by.Goals as goal

pub returns-in-Some : goal.returns-in-Some
returns-in-Some c = λ later. later-end c.args.at c.in-Some.end c.args.cache.now.state.rows (sym c.next_end.ensures ∙ c.in-Some.is) later

pub returns-in-None : goal.returns-in-None
returns-in-None c = λ none. no-end c.args.at c.args.cache.now.state.rows (sym c.next_end.ensures ∙ c.in-None.is)
