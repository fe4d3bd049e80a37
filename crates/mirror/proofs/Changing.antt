-- What is made of notices beforehand does what they say, in a set with keys alone for which its question asks.
use Rattle.std.proofs.Common.{◌≡◌, Bool, true, false, List, [], ◌∷◌, None, Some, refl, sym, ap, ◌∙◌, subst}
use Rattle.std.specs.Prelude.{if◌then◌else◌}
use Rattle.std.specs.List.{AllByRecursion, cons_option}
use Rattle.dnsname.specs.Names.{same_name}
use Rattle.rrset.specs.Records.{key_of, matches, shown_of}
use Rattle.rrset.specs.RecordSet.{RecordSet, put, without}
use Rattle.rrset.specs.declared.record.Question.{Question}
use Rattle.rrset.proofs.LowerNames.{key_is_lower}
use Rattle.dsotlv.specs.Notices.{applied, applied_all}
use Rattle.dsotlv.specs.declared.message.Notice.{Notice}
use Rattle.dsotlv.specs.declared.message.Notice.TheVariants.{Add, RemoveOne, RemoveSet, RemoveClass, RemoveAll, Odd}
use Rattle.mirror.specs.Held.{AsksFor}
use Rattle.mirror.specs.declared.notices.Change.{Change}
use Rattle.mirror.specs.declared.notices.Change.TheVariants.{Put, Take}
use Rattle.mirror.specs.Changes.{behind, change_by, change_of, changes_of, first_changed, has_change, behind_first, left_of, owner_of, performed, remains, remains_here, Fits}
use Rattle.mirror.proofs.AfterNotices.{all_stay}
use Rattle.mirror.proofs.Asked.{elsewhere, none_taken, still_asks}

-- ---- each change fits

fit-made : (notice : Notice) (changes : List Change) → AllByRecursion Fits changes → AllByRecursion Fits (cons_option (change_by notice) changes)
fit-made (Add rr) changes all = (key_is_lower (key_of rr) rr.owner refl, all)
fit-made (RemoveOne rr) changes all = (tt, all)
fit-made (RemoveSet owner class kind) changes all = all
fit-made (RemoveClass owner class) changes all = all
fit-made (RemoveAll owner) changes all = all
fit-made (Odd owner ttl) changes all = all

fit-first : (question : Question) (notice : Notice) (changes : List Change) → AllByRecursion Fits changes → AllByRecursion Fits (cons_option (change_of question notice) changes)
fit-first question notice changes all = by (has_change question notice)
  where
    by : (b : Bool) → AllByRecursion Fits (cons_option (if b then change_by notice else None) changes)
    by true = fit-made notice changes all
    by false = all

fit-each : (question : Question) (notices : List Notice) → AllByRecursion Fits (changes_of question notices)
fit-each question [] = tt
fit-each question (n ∷ notices) = fit-first question n (changes_of question notices) (fit-each question notices)

pub all_fit : (question : Question) (notices : List Notice) (changes : List Change) → changes ≡ changes_of question notices → AllByRecursion Fits changes
all_fit question notices changes are = subst (AllByRecursion Fits) (sym are) (fit-each question notices)

-- ---- a notice whose change is the first does what it says, and leaves the others

stays-here : (question : Question) (set : RecordSet) (notice : Notice) → has_change question notice ≡ false → AsksFor question set → remains_here notice set ≡ applied question set notice
stays-here question set (Add rr) none asked = all_stay set ∙ sym (ap (λ (b : Bool). if b then put (key_of rr) (shown_of rr) (without (λ key. false) set) else without (λ key. false) set) none)
stays-here question set (RemoveOne rr) none asked = none_taken question rr set none asked
stays-here question set (RemoveSet owner class kind) none asked = refl
stays-here question set (RemoveClass owner class) none asked = refl
stays-here question set (RemoveAll owner) none asked = refl
stays-here question set (Odd owner ttl) none asked = all_stay set

stays : (question : Question) (set : RecordSet) (notice : Notice) → has_change question notice ≡ false → AsksFor question set → remains question notice set ≡ applied question set notice
stays question set notice none asked = by (same_name question.name (owner_of notice)) refl
  where
    by : (b : Bool) → same_name question.name (owner_of notice) ≡ b → (if b then remains_here notice set else set) ≡ applied question set notice
    by true is = stays-here question set notice none asked
    by false is = elsewhere question notice set is asked

leaves : (question : Question) (notice : Notice) (changes : List Change) → left_of question notice (cons_option (change_of question notice) changes) ≡ changes
leaves question (Add rr) changes = by (matches question (key_of rr))
  where
    by : (b : Bool) → (if b then behind_first (cons_option (if b then Some (Put (key_of rr) (shown_of rr)) else None) changes) else cons_option (if b then Some (Put (key_of rr) (shown_of rr)) else None) changes) ≡ changes
    by true = refl
    by false = refl
leaves question (RemoveOne rr) changes = by (matches question (key_of rr))
  where
    by : (b : Bool) → (if b then behind_first (cons_option (if b then Some (Take (key_of rr)) else None) changes) else cons_option (if b then Some (Take (key_of rr)) else None) changes) ≡ changes
    by true = refl
    by false = refl
leaves question (RemoveSet owner class kind) changes = refl
leaves question (RemoveClass owner class) changes = refl
leaves question (RemoveAll owner) changes = refl
leaves question (Odd owner ttl) changes = refl

does : (question : Question) (set : RecordSet) (notice : Notice) (changes : List Change) → AsksFor question set → behind question notice (cons_option (change_of question notice) changes) set ≡ applied question set notice
does question set (Add rr) changes asked = by (matches question (key_of rr)) refl
  where
    by : (b : Bool) → matches question (key_of rr) ≡ b
        → (if b then first_changed (cons_option (if b then Some (Put (key_of rr) (shown_of rr)) else None) changes) set else remains question (Add rr) set) ≡ applied question set (Add rr)
    by true is = ap (put (key_of rr) (shown_of rr)) (all_stay set) ∙ sym (ap (λ (b : Bool). if b then put (key_of rr) (shown_of rr) (without (λ key. false) set) else without (λ key. false) set) is)
    by false is = stays question set (Add rr) is asked
does question set (RemoveOne rr) changes asked = by (matches question (key_of rr)) refl
  where
    by : (b : Bool) → matches question (key_of rr) ≡ b
        → (if b then first_changed (cons_option (if b then Some (Take (key_of rr)) else None) changes) set else remains question (RemoveOne rr) set) ≡ applied question set (RemoveOne rr)
    by true is = refl
    by false is = stays question set (RemoveOne rr) is asked
does question set (RemoveSet owner class kind) changes asked = stays question set (RemoveSet owner class kind) refl asked
does question set (RemoveClass owner class) changes asked = stays question set (RemoveClass owner class) refl asked
does question set (RemoveAll owner) changes asked = stays question set (RemoveAll owner) refl asked
does question set (Odd owner ttl) changes asked = stays question set (Odd owner ttl) refl asked

does-each : (question : Question) (notices : List Notice) (set : RecordSet) → AsksFor question set → performed question notices (changes_of question notices) set ≡ applied_all notices question set
does-each question [] set asked = refl
does-each question (n ∷ notices) set asked =
    ap (λ (changes : List Change). performed question notices changes (behind question n (changes_of question (n ∷ notices)) set)) (leaves question n (changes_of question notices))
    ∙ ap (performed question notices (changes_of question notices)) (does question set n (changes_of question notices) asked)
    ∙ does-each question notices (applied question set n) (still_asks question n set asked)

pub all_done : (question : Question) (notices : List Notice) (changes : List Change) (set : RecordSet) → AsksFor question set → changes ≡ changes_of question notices → performed question notices changes set ≡ applied_all notices question set
all_done question notices changes set asked are = ap (λ (cs : List Change). performed question notices cs set) are ∙ does-each question notices set asked
