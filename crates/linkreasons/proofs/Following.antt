-- What is wanted follows the reasons for it.
--     follows_reasons, fewer_then_fewer, none_goes, reasons_wanted, anew_commutes, anew_wants
--     goes-again      what was gained goes again
--     same-stay, same-wants      by two lists of the same questions
use Rattle.std.proofs.Common.{◌≡◌, Bool, true, false, ◌||◌, T, List, [], refl, sym, ap, ◌∙◌}
use Rattle.std.specs.List.{list_any}
use Rattle.rrset.specs.declared.record.Question.{Question}
use Rattle.linkask.specs.Asking.{Wanted, asked_cmp, never_asked, same_asked}
use Rattle.linkask.proofs.KeptOrder.{as_T}
use Rattle.linkask.proofs.Order.{asked_cmp_total}
use Rattle.linkreasons.specs.AllReasons.{WantsReasons, with_any_of}
use Rattle.linkreasons.specs.Laws.{AnewCommutes, AnewWantsTheSame, FewerThenFewer, FollowsReasons, NoneGoes, ReasonsAreWanted, all_wanted}
use Rattle.linkreasons.proofs.FoundEntries.{sorted_all, sorted_left}
use Rattle.linkreasons.proofs.Spelling.{spelled-before}
use Rattle.linkreasons.proofs.GoingKeys.{begun_left, fewer_left, follows, is_some-begun, is_some-follows, left_alike, none_left_out, sorted_begun}

is_true : (b : Bool) → T b → b ≡ true
is_true true h = refl
is_true false h = absurd h

pub follows_reasons : FollowsReasons
follows_reasons before gained later all wants covered alike = follows asked_cmp asked_cmp_total never_asked before gained later all (as_T wants.order) wants.wants covered alike

pub fewer_then_fewer : FewerThenFewer
fewer_then_fewer some fewer all among = fewer_left asked_cmp some fewer among all

pub none_goes : NoneGoes
none_goes questions more all wants among = none_left_out asked_cmp asked_cmp_total more all (λ q there. among q (sym (wants.wants q) ∙ there))

pub reasons_wanted : ReasonsAreWanted
reasons_wanted questions all sorted = record {
  order = is_true _ (sorted_all asked_cmp asked_cmp_total never_asked questions _ (sorted_left asked_cmp asked_cmp_total questions all (as_T sorted)));
  wants = λ q. is_some-follows asked_cmp asked_cmp_total never_asked questions q all;
}

pub anew_commutes : AnewCommutes
anew_commutes question questions all = begun_left asked_cmp question never_asked questions all

pub anew_wants : AnewWantsTheSame
anew_wants question questions all wants = record {
  order = sorted_begun asked_cmp question never_asked all ∙ wants.order;
  wants = λ q. is_some-begun asked_cmp q question never_asked all ∙ wants.wants q;
}

-- ---- for callers

pub goes-again : (before gained : List Question) (all : Wanted) → WantsReasons before all → with_any_of before (all_wanted gained all) ≡ all
goes-again before gained all wants =
    follows_reasons before gained before all wants (λ q there. ap (λ b. b || list_any (same_asked q) gained) there) (spelled-before before gained before (λ q there. there))
    ∙ sym (follows_reasons before [] before all wants (λ q there. ap (λ b. b || false) there) tt)
    ∙ none_goes before before all wants (λ q there. there)

pub same-stay : (these those : List Question) → ((question : Question) → list_any (same_asked question) these ≡ list_any (same_asked question) those) → (all : Wanted) → with_any_of these all ≡ with_any_of those all
same-stay these those same all = left_alike asked_cmp these those same all

pub same-wants : (these those : List Question) → ((question : Question) → list_any (same_asked question) these ≡ list_any (same_asked question) those) → (all : Wanted) → WantsReasons these all → WantsReasons those all
same-wants these those same all wants = record { order = wants.order; wants = λ q. wants.wants q ∙ same q }
