-- Sets after notices: what a test of keys keeps, what leaves a set as it is, and that the questions stay.
use Rattle.std.proofs.Common.{◌≡◌, Result, Ok, Err, OnOk, OnErr, Bool, false, List, [], ◌∷◌, refl, sym, ap, ◌∙◌, subst, Bor}
use Rattle.std.specs.Fn.{ComputesKey}
use denote.Param.Members.{Mut, Called}
use Rattle.std.proofs.lemmas.Fn.{always_returns_same}
use Rattle.rrset.specs.RecordSet.{RecordSet, only, without}
use Rattle.rrset.specs.Tables.{TableState}
use Rattle.rrset.specs.declared.record.Shown.{Shown}
use Rattle.rrset.specs.declared.record.Key.{Key}
use Rattle.rrset.specs.declared.record.Question.{Question}
use Rattle.dsotlv.specs.declared.message.Notice.{Notice}
use Rattle.mirror.specs.Held.{Held, AreHeld, AreAsked, held_of, applied_to}
use Rattle.mirror.proofs.Asked.{asked_after}
use Rattle.mirror.proofs.Questions.{questions_of, same_questions}

-- from the clause `rows` of `retain`, where each call gives p of the key
pub kept-from_clause : {F : Type 0} {g : Mut F (Bor Key × Unit {0}) Bool} {f : F} (p : Key → Bool) (old new : RecordSet)
    → ((q : Key → Bool) → ComputesKey g q f → new ≡ only q old)
    → ((a : Bor Key × Unit {0}) (b : Bool) (f' : F) → Called g f a b f' → (b ≡ p a.0.now) × (f' ≡ f)) → new ≡ only p old
kept-from_clause {g = g} {f = f} p old new clause h = clause p (always_returns_same g (λ a b. b ≡ p a.0.now) f h)

-- no key goes
pub all_stay : (set : RecordSet) → set ≡ without (λ key. false) set
all_stay [] = refl
all_stay (e ∷ set) = ap (λ (l : RecordSet). e ∷ l) (all_stay set)

-- the questions stay as they are
held_questions : (entries : List (Question × TableState Shown)) → questions_of (held_of entries) ≡ questions_of entries
held_questions [] = refl
held_questions (e ∷ entries) = ap (λ (l : List Question). e.0 ∷ l) (held_questions entries)

applied_questions : (notices : List Notice) (held : Held) → questions_of (applied_to notices held) ≡ questions_of held
applied_questions notices [] = refl
applied_questions notices (e ∷ held) = ap (λ (l : List Question). e.0 ∷ l) (applied_questions notices held)

still_held : (notices : List Notice) (entries after : List (Question × TableState Shown)) → held_of after ≡ applied_to notices (held_of entries) → AreHeld entries → AreHeld after
still_held notices entries after is =
    same_questions entries after (sym (held_questions entries) ∙ sym (applied_questions notices (held_of entries)) ∙ ap (λ (held : Held). questions_of held) (sym is) ∙ held_questions after)

-- so they do where want of memory left the sets as they were
pub held_either : {E : Type 0} (r : Result (Unit {0}) E) (notices : List Notice) (entries after : List (Question × TableState Shown))
    → OnOk r (held_of after ≡ applied_to notices (held_of entries)) → OnErr r (held_of after ≡ held_of entries)
    → AreHeld entries × AreAsked (held_of entries) → AreHeld after × AreAsked (held_of after)
held_either (Ok u) notices entries after done same are =
    (still_held notices entries after done are.0, subst AreAsked (sym done) (asked_after notices (held_of entries) are.1))
held_either (Err e) notices entries after done same are = (
  same_questions entries after (sym (held_questions entries) ∙ ap (λ (held : Held). questions_of held) (sym same) ∙ held_questions after) are.0,
  subst AreAsked (sym same) are.1,
)
