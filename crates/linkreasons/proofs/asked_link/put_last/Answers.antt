use Rattle.std.proofs.Common.{ℕ, ◌∷◌, ◌++◌, [], not, rules, of_calls, ap, ◌∙◌}
use Rattle.std.proofs.lemmas.Fn.{filter_same}
use Rattle.rrset.specs.Records.{same_key}
use Rattle.rrset.specs.declared.record.Key.{Key}
use Rattle.linkask.specs.Reasons.{Reconfirmed}
use Rattle.linkreasons.proofs.asked_link.put_last.Goals as goal

pub returns : goal.returns
returns c =
    c.push_reserved.ensures.items
    ∙ ap (λ (l : Reconfirmed). l ++ c.args.row ∷ []) (filter_same _ (λ (r : Key × ℕ). not (same_key c.args.row.0 r.0)) _ (λ x b f k. search (rules, of_calls)) c.args.rows.now.items c.retain.new.self.items c.retain.ensures.filtered)
