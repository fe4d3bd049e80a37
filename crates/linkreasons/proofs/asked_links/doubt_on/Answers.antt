use Rattle.std.proofs.Common.{ℕ, ap, ◌∙◌}
use Rattle.rrset.specs.declared.record.Key.{Key}
use Rattle.linkreasons.specs.Changing.{doubted}
use Rattle.linkreasons.proofs.OneAsked.{changed-set, on-ok}
use Rattle.linkreasons.proofs.asked_links.doubt_on.Goals as goal

pub returns-clause-ok : goal.returns-clause-ok
returns-clause-ok c =
    on-ok c.doubt.result
    (λ is. changed-set (doubted (c.args.key, c.args.heard)) c.args.links.now.items c.args.link c.index_mut.result.now c.doubt.new.self c.requires
    (is ∙ ap (λ (r : Key × ℕ). doubted r c.index_mut.result.now) c.in_ok-row.ensures ∙ ap (doubted (c.args.key, c.args.heard)) c.index_mut.ensures.value))
    c.doubt.ensures.ok
