use Rattle.std.proofs.Common.{ℕ, rules, of_calls}
use Rattle.std.proofs.lemmas.Fn.{filter_same}
use Rattle.rrset.specs.KeyedRows.{row_at}
use Rattle.rrset.specs.declared.record.Key.{Key}
use Rattle.linkask.specs.Reasons.{was_heard_at}
use Rattle.linkreasons.proofs.asked_link.keep_doubted.Goals as goal

pub returns : goal.returns
returns c = filter_same _ (λ (r : Key × ℕ). was_heard_at r.1 (row_at r.0 c.args.cache.now.state.rows)) _ (λ x b f k. search (rules, of_calls)) c.args.rows.now.items c.retain.new.self.items c.retain.ensures.filtered
