use Rattle.std.proofs.Common.{◌≡◌, ◌∷◌, ◌∙◌, List, sym, ap, subst}
use Rattle.rrset.specs.RecordSet.{RecordSet}
use Rattle.rrset.specs.Tables.{TableState}
use Rattle.rrset.specs.declared.record.Shown.{Shown}
use Rattle.rrset.specs.declared.record.Question.{Question}
use Rattle.dsotlv.specs.Notices.{applied_all}
use Rattle.mirror.specs.Held.{Held, AreAsked, AsksFor, applied_to, held_of}
use Rattle.mirror.specs.Changes.{performed}
use Rattle.mirror.proofs.Changing.{all_fit, all_done}
use Rattle.mirror.proofs.notices.+apply_all.Goals as goal

-- what is known of all entries is known of the first
asked : (entries rest : List (Question × TableState Shown)) (first : Question × TableState Shown) → entries ≡ first ∷ rest → AreAsked (held_of entries) → AsksFor first.0 first.1.rows
asked entries rest first are all = (subst (λ (l : List (Question × TableState Shown)). AreAsked (held_of l)) are all).0

pub perform_all-requires-clause-fits : goal.perform_all-requires-clause-fits
perform_all-requires-clause-fits t c = all_fit c.in-Some.first.now.0 c.args.notices.now c.in_ok-changes.changes.items c.in_ok-changes.ensures

pub returns-clause-ok : goal.returns-clause-ok
returns-clause-ok t c =
    let question = c.in-Some.first.now.0 in
    let notices = c.args.notices.now in
    let changes = c.in_ok-changes.changes.items in
    let rows : c.perform_all.new.set.rows ≡ applied_all notices question c.in-Some.first.now.1.rows =
    c.perform_all.ensures ∙ ap (λ (s : RecordSet). performed question notices changes s) c.reserve.ensures.rows ∙ all_done question notices changes c.in-Some.first.now.1.rows (asked _ _ _ c.in-Some.ensures.cases.0 c.requires) c.in_ok-changes.ensures in
    let rest : held_of c.apply_all.new.entries ≡ applied_to notices (held_of c.in-Some.rest.now) = c.in_ok-apply_all.ensures.ok in
    ap (λ (s : RecordSet). (question, s) ∷ held_of c.apply_all.new.entries) rows
    ∙ ap (λ (l : Held). (question, applied_all notices question c.in-Some.first.now.1.rows) ∷ l) rest
    ∙ ap (λ (l : List (Question × TableState Shown)). applied_to notices (held_of l)) (sym c.in-Some.ensures.cases.0)
