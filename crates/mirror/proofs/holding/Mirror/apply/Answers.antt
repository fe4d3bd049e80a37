use Rattle.std.proofs.Common.{◌≡◌, ◌∙◌, OnOk, OnErr, List, sym, subst}
use Rattle.std.proofs.lemmas.List.{with_items_is}
use Rattle.rrset.specs.Tables.{TableState}
use Rattle.rrset.specs.declared.record.Shown.{Shown}
use Rattle.rrset.specs.declared.record.Question.{Question}
use Rattle.mirror.specs.Held.{AreHeld, AreAsked, applied_to, held_of}
use Rattle.mirror.proofs.AfterNotices.{held_either}
use Rattle.mirror.proofs.holding.Mirror.apply.Goals as goal

pub invariant_of-self : goal.invariant_of-self
invariant_of-self c =
    let after = c.apply_all.new.entries in
    let result = c.apply_all.result in
    let notices = c.args.notices.now in
    subst (λ (entries : List (Question × TableState Shown)). AreHeld entries × AreAsked (held_of entries)) (sym (with_items_is c.self.inside.entries after (c.apply_all.auto.entries ∙ c.deref_mut.ensures.len)))
    (held_either result notices c.self.inside.entries.items after
    (subst (λ (l : List (Question × TableState Shown)). OnOk result (held_of after ≡ applied_to notices (held_of l))) c.deref_mut.ensures.value c.apply_all.ensures.ok)
    (subst (λ (l : List (Question × TableState Shown)). OnErr result (held_of after ≡ held_of l)) c.deref_mut.ensures.value c.apply_all.ensures.err) c.self.invariant)

pub apply_all-requires : goal.apply_all-requires
apply_all-requires c = subst (λ (entries : List (Question × TableState Shown)). AreAsked (held_of entries)) (sym c.deref_mut.ensures.value) c.self.invariant.1
