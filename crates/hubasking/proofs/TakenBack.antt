-- What was made ready for a session's turn is taken back, or stands.
--     but-last-more, back-again      one more and then all but the last
--     lead-back, lead-undoubted      a reason that didn't come; a row that wasn't reconfirmed
--     same-again      so all is asked as before
--     more-behind      a reason that came
use Rattle.std.proofs.Common.{◌≡◌, ℕ, zero, suc, ◌+◌, Bool, true, false, cond, ◌||◌, List, [], ◌∷◌, ◌++◌, length, map, Option, Some, None, refl, sym, ap, subst, ◌∙◌, arith}
use Rattle.std.specs.Prelude.{◌==◌}
use Rattle.std.specs.List.{list_any}
use Rattle.push_base.specs.Cases.{changed_at}
use Rattle.rrset.specs.declared.record.Key.{Key}
use Rattle.rrset.specs.declared.record.Question.{Question}
use Rattle.linkcache.specs.Links.{LinkState}
use Rattle.linkask.specs.Asking.{Wanted, same_asked, wanted}
use Rattle.linkask.specs.Reasons.{LinkAsking, Reconfirmed, question_for, still_reconfirmed}
use Rattle.linkreasons.specs.AllReasons.{WantsReasons, but_last, doubted_less, doubted_more, in_session, only_from, reasons_on, with_any_of, with_reason, with_wanted}
use Rattle.linkreasons.specs.Laws.{AreAmong, FewerThenFewer, FollowsReasons, NoneGoes}
use Rattle.linkreasons.specs.declared.reason.Reason.{Reason}
use Rattle.linkreasons.proofs.Spelling.{spelled-before}
use Rattle.hubasking.specs.Following.{LeadsAt, LeadFrom}
use Rattle.hubasking.proofs.Leading.{AskFewer, Sessions, WantFrom, among-both, asked_with, lead-goes, leads-only}

pub but-last-more : {X : Type 0} (xs : List X) (x : X) → but_last (xs ++ x ∷ []) ≡ xs
but-last-more [] x = refl
but-last-more (y ∷ []) x = refl
but-last-more {X} (y ∷ z ∷ zs) x = ap (λ (l : List X). y ∷ l) (but-last-more (z ∷ zs) x)

pub back-again : (number : ℕ) (reason : Reason) (sessions : Sessions) → in_session number but_last (in_session number (with_reason reason) sessions) ≡ sessions
back-again number reason [] = refl
back-again number reason (e ∷ es) = λ i. (e.0, by (e.0 == number) i) ∷ back-again number reason es i
  where
    by : (b : Bool) → cond b (but_last (cond b (e.1 ++ reason ∷ []) e.1)) (cond b (e.1 ++ reason ∷ []) e.1) ≡ e.1
    by true = but-last-more e.1 reason
    by false = refl

or-first : (a b : Bool) → a ≡ true → (a || b) ≡ true
or-first true b is = refl
or-first false b is = absurd cc

-- ---- a question that was wanted more, and then not

module _ (fewer : FewerThenFewer) (follows : FollowsReasons) where
  wanted-back : (before some : List Question) (question : Question) (all : Wanted) → WantsReasons before all → AreAmong some before → with_any_of some (with_any_of before (wanted question all)) ≡ with_any_of some all
  wanted-back before some question all wants among =
      fewer before some (wanted question all) among
      ∙ follows before (question ∷ []) some all wants (λ q is. or-first (list_any (same_asked q) before) (list_any (same_asked q) (question ∷ [])) (among q is)) (spelled-before before (question ∷ []) some among)
      ∙ sym (follows before [] some all wants (λ q is. or-first (list_any (same_asked q) before) (list_any (same_asked q) []) (among q is)) tt)

  module _ (sessions before : Sessions) (among : AskFewer sessions before) where
    back-at : (link : ℕ) (l : LinkState) (a : LinkAsking) (question : Question) → WantsReasons (reasons_on link before a.reconfirmed) a.wanted → LeadsAt link sessions l a (record a { wanted = with_any_of (reasons_on link before a.reconfirmed) (wanted question a.wanted) })
    back-at link l a question wants = record {
      still = refl;
      wanted = wanted-back (reasons_on link before a.reconfirmed) (reasons_on link sessions (still_reconfirmed l.rows a.reconfirmed)) question a.wanted wants (among-both link sessions before l.rows a.reconfirmed among);
    }

    -- a reason that didn't come
    pub lead-back : (link place : ℕ) (question : Question) (ls : List LinkState) (asks : List LinkAsking) → length ls ≡ length asks → WantFrom link before asks → LeadFrom link sessions ls asks (only_from link before (with_wanted place question asks))
    lead-back link place question [] [] same want = tt
    lead-back link place question [] (a ∷ asks) same want = absurd cc
    lead-back link place question (l ∷ ls) [] same want = absurd cc
    lead-back link zero question (l ∷ ls) (a ∷ asks) same want = (back-at link l a question want.0, lead-goes fewer sessions before among (link + 1) ls asks (omega (arith, same)))
    lead-back link (suc place) question (l ∷ ls) (a ∷ asks) same want = (leads-only fewer sessions before among link l a, lead-back (link + 1) place question ls asks (omega (arith, same)) want.1)

    undoubted : (key : Key) (heard : ℕ) (a : LinkAsking) → doubted_less (doubted_more key heard a) ≡ record a { wanted = wanted (question_for key) a.wanted }
    undoubted key heard a = λ i. record { wanted = wanted (question_for key) a.wanted; reconfirmed = but-last-more a.reconfirmed (key, heard) i }

    -- a row that wasn't reconfirmed
    pub lead-undoubted : (link place : ℕ) (key : Key) (heard : ℕ) (ls : List LinkState) (asks : List LinkAsking) → length ls ≡ length asks → WantFrom link before asks
        → LeadFrom link sessions ls asks (only_from link before (changed_at place doubted_less (changed_at place (doubted_more key heard) asks)))
    lead-undoubted link place key heard [] [] same want = tt
    lead-undoubted link place key heard [] (a ∷ asks) same want = absurd cc
    lead-undoubted link place key heard (l ∷ ls) [] same want = absurd cc
    lead-undoubted link zero key heard (l ∷ ls) (a ∷ asks) same want = (
      subst (λ (b : LinkAsking). LeadsAt link sessions l a (record b { wanted = with_any_of (reasons_on link before b.reconfirmed) b.wanted })) (sym (undoubted key heard a)) (back-at link l a (question_for key) want.0),
      lead-goes fewer sessions before among (link + 1) ls asks (omega (arith, same)),
    )
    lead-undoubted link (suc place) key heard (l ∷ ls) (a ∷ asks) same want = (leads-only fewer sessions before among link l a, lead-undoubted (link + 1) place key heard ls asks (omega (arith, same)) want.1)

  -- ---- where nothing followed, all is asked as before

  among-itself : (questions : List Question) → AreAmong questions questions
  among-itself questions question is = is

  module _ (none_goes : NoneGoes) (before : Sessions) where
    goes-none : (link : ℕ) (a : LinkAsking) → WantsReasons (reasons_on link before a.reconfirmed) a.wanted → asked_with (with_any_of (reasons_on link before a.reconfirmed) a.wanted) a.reconfirmed ≡ a
    goes-none link a wants = λ i. record { wanted = none_goes (reasons_on link before a.reconfirmed) (reasons_on link before a.reconfirmed) a.wanted wants (among-itself (reasons_on link before a.reconfirmed)) i; reconfirmed = a.reconfirmed }

    pub only-none : (link : ℕ) (asks : List LinkAsking) → WantFrom link before asks → only_from link before asks ≡ asks
    only-none link [] want = refl
    only-none link (a ∷ asks) want = λ i. goes-none link a want.0 i ∷ only-none (link + 1) asks want.1 i

    same-at : (link : ℕ) (a : LinkAsking) (question : Question) → WantsReasons (reasons_on link before a.reconfirmed) a.wanted → asked_with (with_any_of (reasons_on link before a.reconfirmed) (wanted question a.wanted)) a.reconfirmed ≡ a
    same-at link a question wants =
        let some : List Question = reasons_on link before a.reconfirmed in
        λ i. record {
          wanted = (follows some (question ∷ []) some a.wanted wants (λ q is. or-first (list_any (same_asked q) some) (list_any (same_asked q) (question ∷ [])) is) (spelled-before some (question ∷ []) some (among-itself some))
              ∙ sym (follows some [] some a.wanted wants (λ q is. or-first (list_any (same_asked q) some) (list_any (same_asked q) []) is) tt) ∙ none_goes some some a.wanted wants (among-itself some)) i;
          reconfirmed = a.reconfirmed;
        }

    pub same-again : (link place : ℕ) (question : Question) (asks : List LinkAsking) → WantFrom link before asks → only_from link before (with_wanted place question asks) ≡ asks
    same-again link place question [] want = refl
    same-again link zero question (a ∷ asks) want = λ i. same-at link a question want.0 i ∷ only-none (link + 1) asks want.1 i
    same-again link (suc place) question (a ∷ asks) want = λ i. goes-none link a want.0 i ∷ same-again (link + 1) place question asks want.1 i

    pub same-undoubted : (link place : ℕ) (key : Key) (heard : ℕ) (asks : List LinkAsking) → WantFrom link before asks → only_from link before (changed_at place doubted_less (changed_at place (doubted_more key heard) asks)) ≡ asks
    same-undoubted link place key heard [] want = refl
    same-undoubted link zero key heard (a ∷ asks) want =
        λ i. (ap (λ (b : LinkAsking). asked_with (with_any_of (reasons_on link before b.reconfirmed) b.wanted) b.reconfirmed) (λ j. asked_with (wanted (question_for key) a.wanted) (but-last-more a.reconfirmed (key, heard) j)) ∙ same-at link a (question_for key) want.0) i ∷ only-none (link + 1) asks want.1 i
    same-undoubted link (suc place) key heard (a ∷ asks) want = λ i. goes-none link a want.0 i ∷ same-undoubted (link + 1) place key heard asks want.1 i
