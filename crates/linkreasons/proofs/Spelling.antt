-- What is gained is spelled as it is later, where that was asked before, is plain, or is the same.
--     all-but, all-among      what is owed of those alone that weren't asked before
--     spelled-before      all was asked before
--     plain-spelled, spelled-reasons      plain questions; with rows that are asked for already
--     spelled-doubted      the question of a row
use Rattle.std.proofs.Common.{◌≡◌, Bool, true, false, ◌||◌, List, [], ◌∷◌, ◌++◌, map, refl, ap}
use Rattle.std.specs.List.{AllByRecursion, flat_map, list_any}
use Rattle.dnsname.specs.Names.{Labels}
use Rattle.rrset.specs.declared.record.Key.{Key}
use Rattle.rrset.specs.declared.record.Question.{Question}
use Rattle.linkask.specs.Asking.{same_asked}
use Rattle.linkask.specs.Reasons.{Reconfirmed, question_for, question_on, reasons}
use Rattle.linkask.proofs.Order.{same-itself}
use Rattle.linkreasons.specs.Laws.{AreAmong, AreSpelledAs, IsPlain}
use Rattle.linkreasons.proofs.PlainQuestions.{all-on-plain, all_append, plain_are_one}

pub all-among : (before these : List Question) → AreAmong these before → AllByRecursion (λ r. list_any (same_asked r) before ≡ true) these
all-among before [] among = tt
all-among before (r ∷ rs) among = (among r (ap (λ b. b || list_any (same_asked r) rs) (same-itself r)), all-among before rs (λ q there. among q (later q (same_asked q r) there)))
  where
    later : (q : Question) (b : Bool) → list_any (same_asked q) rs ≡ true → (b || list_any (same_asked q) rs) ≡ true
    later q true there = refl
    later q false there = there

pub all-but : (P : Question → Type 0) (before these : List Question) → AreAmong these before → AllByRecursion (λ r. list_any (same_asked r) before ≡ false → P r) these
all-but P before these among = each these (all-among before these among)
  where
    each : (rs : List Question) → AllByRecursion (λ r. list_any (same_asked r) before ≡ true) rs → AllByRecursion (λ r. list_any (same_asked r) before ≡ false → P r) rs
    each [] there = tt
    each (r ∷ rs) there = ((λ absent. let no = there.0 in absurd cc), each rs there.1)

pub spelled-before : (before gained later : List Question) → AreAmong later before → AreSpelledAs before gained later
spelled-before before [] later among = tt
spelled-before before (q ∷ qs) later among = (all-but (λ r. same_asked q r ≡ true → q ≡ r) before later among, spelled-before before qs later among)

pub plain-spelled : (before gained later : List Question) → AllByRecursion IsPlain gained → AllByRecursion (λ r. list_any (same_asked r) before ≡ false → IsPlain r) later → AreSpelledAs before gained later
plain-spelled before [] later plain is_plain = tt
plain-spelled before (q ∷ qs) later plain is_plain = (one later is_plain, plain-spelled before qs later plain.1 is_plain)
  where
    one : (rs : List Question) → AllByRecursion (λ r. list_any (same_asked r) before ≡ false → IsPlain r) rs → AllByRecursion (λ r. list_any (same_asked r) before ≡ false → same_asked q r ≡ true → q ≡ r) rs
    one [] each = tt
    one (r ∷ rs) each = ((λ absent same. plain_are_one q r plain.0 (each.0 absent) same), one rs each.1)

pub spelled-reasons : (domain : Labels) (questions : List Question) (left : Reconfirmed) (before gained : List Question) → AllByRecursion IsPlain gained → AreAmong (map (λ r. question_for r.0) left) before
    → AreSpelledAs before gained (reasons domain questions left)
spelled-reasons domain questions left before gained plain among =
    plain-spelled before gained (reasons domain questions left) plain
    (all_append (λ r. list_any (same_asked r) before ≡ false → IsPlain r) (flat_map (question_on domain) questions) (map (λ r. question_for r.0) left) (each (flat_map (question_on domain) questions) (all-on-plain domain questions)) (all-but IsPlain before (map (λ r. question_for r.0) left) among))
  where
    each : (rs : List Question) → AllByRecursion IsPlain rs → AllByRecursion (λ r. list_any (same_asked r) before ≡ false → IsPlain r) rs
    each [] is = tt
    each (r ∷ rs) is = ((λ absent. is.0), each rs is.1)

-- all others were asked before
pub spelled-doubted : (before questions : List Question) (left : Reconfirmed) (key : Key) → AreAmong questions before → AllByRecursion (λ r. list_any (same_asked (question_for r.0)) before ≡ false → question_for key ≡ question_for r.0) left
    → AreSpelledAs before (question_for key ∷ []) (questions ++ map (λ r. question_for r.0) left)
spelled-doubted before questions left key among others =
    (all_append (λ r. list_any (same_asked r) before ≡ false → same_asked (question_for key) r ≡ true → question_for key ≡ r) questions (map (λ r. question_for r.0) left) (all-but (λ r. same_asked (question_for key) r ≡ true → question_for key ≡ r) before questions among) (each left others), tt)
  where
    each : (rs : Reconfirmed) → AllByRecursion (λ r. list_any (same_asked (question_for r.0)) before ≡ false → question_for key ≡ question_for r.0) rs
        → AllByRecursion (λ r. list_any (same_asked r) before ≡ false → same_asked (question_for key) r ≡ true → question_for key ≡ r) (map (λ r. question_for r.0) rs)
    each [] h = tt
    each (r ∷ rs) h = ((λ absent same. h.0 absent), each rs h.1)
