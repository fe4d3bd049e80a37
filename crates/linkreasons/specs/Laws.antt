-- What holds where reasons come and go.
--     AreAmong these those      each of these is one of those
--     IsPlain      its name is in lower case, its class is IN
--     AreSpelledAs before gained later      what is gained, and wasn't asked before, is spelled as it is later
--     all_wanted      several questions are wanted more
--     FollowsReasons      where questions were gained, and then those go for which there is no reason, that is what there is reason to ask
--     FewerThenFewer      those that go in two steps go in one
--     NoneGoes      none goes where there is reason for all
--     ReasonsAreWanted      just the questions are wanted behind that for which there is a reason
--     AnewCommutes, AnewWantsTheSame      a question begins anew before others go or behind; just the same are wanted then
--     PlainAreOne, ReasonsArePlain      plain questions that ask for one are equal; all that there is reason to ask is plain
use Rattle.std.specs.Prelude.{◌≡◌, true, false, List, fold, IsTrue, ◌||◌}
use Rattle.std.specs.List.{AllByRecursion, list_any}
use Rattle.dnsname.specs.Names.{Labels, lower}
use Rattle.rrset.specs.Tables.{HasLowerOwner}
use Rattle.rrset.specs.declared.record.Question.{Question}
use Rattle.linkask.specs.Asking.{Wanted, anew, are_in_order, asked_for, same_asked, wanted}
use Rattle.linkask.specs.Reasons.{Reconfirmed, reasons, with_reasons}
use Rattle.linkreasons.specs.AllReasons.{WantsReasons, with_any_of}

-- each of these is one of those
abbrev pub AreAmong : List Question → List Question → Type 0
AreAmong these those = (question : Question) → list_any (same_asked question) these ≡ true → list_any (same_asked question) those ≡ true

abbrev pub IsPlain : Question → Type 0
IsPlain question = question ≡ asked_for (lower question.name) question.kind

abbrev pub AreSpelledAs : List Question → List Question → List Question → Type 0
AreSpelledAs before gained later = AllByRecursion (λ q. AllByRecursion (λ r. list_any (same_asked r) before ≡ false → same_asked q r ≡ true → q ≡ r) later) gained

abbrev pub all_wanted : List Question → Wanted → Wanted
all_wanted questions all = fold (λ w q. wanted q w) all questions

-- a question that is wanted keeps the spelling with which it came
abbrev pub FollowsReasons : Type 0
FollowsReasons = (before gained later : List Question) (all : Wanted) → WantsReasons before all
    → ((question : Question) → list_any (same_asked question) later ≡ true → (list_any (same_asked question) before || list_any (same_asked question) gained) ≡ true)
    → AreSpelledAs before gained later
    → with_any_of later (all_wanted gained all) ≡ with_reasons later all

abbrev pub FewerThenFewer : Type 0
FewerThenFewer = (some fewer : List Question) (all : Wanted) → AreAmong fewer some → with_any_of fewer (with_any_of some all) ≡ with_any_of fewer all

abbrev pub NoneGoes : Type 0
NoneGoes = (questions more : List Question) (all : Wanted) → WantsReasons questions all → AreAmong questions more → with_any_of more all ≡ all

abbrev pub ReasonsAreWanted : Type 0
ReasonsAreWanted = (questions : List Question) (all : Wanted) → IsTrue (are_in_order all) → WantsReasons questions (with_reasons questions all)

-- beginning anew changes neither order nor what is wanted, and goes before or behind
abbrev pub AnewCommutes : Type 0
AnewCommutes = (question : Question) (questions : List Question) (all : Wanted) → with_any_of questions (anew question all) ≡ anew question (with_any_of questions all)

abbrev pub AnewWantsTheSame : Type 0
AnewWantsTheSame = (question : Question) (questions : List Question) (all : Wanted) → WantsReasons questions all → WantsReasons questions (anew question all)

-- ---- spelling

abbrev pub PlainAreOne : Type 0
PlainAreOne = (one other : Question) → IsPlain one → IsPlain other → same_asked one other ≡ true → one ≡ other

-- whatever the link's domain is
abbrev pub ReasonsArePlain : Type 0
ReasonsArePlain = (domain : Labels) (questions : List Question) (reconfirmed : Reconfirmed) → AllByRecursion (λ r. HasLowerOwner r.0) reconfirmed → AllByRecursion IsPlain (reasons domain questions reconfirmed)
