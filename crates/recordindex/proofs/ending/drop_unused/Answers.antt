use Rattle.std.proofs.Common.{ℕ, rules, Vec, Global}
use Rattle.std.proofs.lemmas.Map.Made.{filter_same_pairs}
use Rattle.recordindex.specs.Endings.{is_used}
use Rattle.recordindex.proofs.ending.drop_unused.Goals as goal

pub returns : goal.returns
returns c = filter_same_pairs _ (λ (e : Vec ℕ Global × ℕ). is_used e.1) _ (λ k v b w f' t. search rules) _ _ c.retain.ensures.filtered
