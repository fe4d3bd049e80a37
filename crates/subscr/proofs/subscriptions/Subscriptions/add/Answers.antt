use Rattle.std.proofs.Common.{◌≡◌, ◌<◌, ◌∙◌, false, None, [], ◌∷◌, ◌++◌, length, ap, sym, subst}
use Rattle.push_base.specs.Limits.{max_questions}
use Rattle.subscr.specs.Asked.{Asked, AreAsked, has, id_of}
use Rattle.subscr.specs.Named.{IsKept}
use Rattle.subscr.proofs.Asking.{added}
use Rattle.subscr.proofs.AskedAt.{kept-added}
use Rattle.subscr.proofs.subscriptions.Subscriptions.add.Goals as goal

pub invariant_of-self-2 : goal.invariant_of-self-2
invariant_of-self-2 c =
    let now = sym c.self.view_is in
    let items = sym (c.push_reserved.ensures.items ∙ ap (λ (l : Asked). l ++ (c.args.id, c.args.question) ∷ []) c.in_ok-reserve.ensures.items) in (
      subst AreAsked items (added c.args.id c.args.question c.self.inside.entries.items c.self.invariant.0
          (subst (λ (l : Asked). has c.args.id l ≡ false) now c.requires.id)
          (subst (λ (l : Asked). id_of c.args.question l ≡ None) now c.requires.question)
          (subst (λ (l : Asked). length l < max_questions) now c.requires.room)),
      subst (λ (l : Asked). IsKept c.add.new.self l) items
          (kept-added c.args.id c.args.question c.self.inside.entries.items c.self.inside.keeping c.add.new.self c.self.invariant.1 c.in_ok-add.ensures.ok),
    )
