use Rattle.std.proofs.Common.{[], ◌∷◌, ◌++◌, List, sym, ap, ◌∙◌}
use Rattle.linkreasons.specs.Changing.{have_reasons, is_there}
use Rattle.linkreasons.specs.declared.reason.Reason.{Reason}
use Rattle.linkreasons.proofs.Calls.{none-more, session-comes, these}
use Rattle.linkreasons.proofs.link_reasons.LinkReasons.connect.Goals as goal

pub invariant_of-self-2 : goal.invariant_of-self-2
invariant_of-self-2 c =
    let items = c.in_ok-push.ensures.items ∙ ap (λ (rs : List Reason). c.self.inside.sessions.items ++ (c.args.number, rs) ∷ []) c.new-reasons.ensures in (
      session-comes c.self.inside.most (these c.self.inside.links.items c.self.inside.sessions.items) c.args.number _ c.self.invariant.0 (sym (c.if-is_there.ensures ∙ ap (is_there c.args.number) c.deref.ensures.value)) items,
      c.self.invariant.1 ∙ sym (ap have_reasons items ∙ none-more c.self.inside.sessions.items c.args.number),
    )
