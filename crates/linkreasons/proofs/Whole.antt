-- What is kept of all, behind each call.
--     follows      each link is asked what there is reason to
--     Leaves, leaves-session, leaves-link      some reasons go
--     connects, comes-last      a session comes; a reason comes
use Rattle.std.proofs.Common.{◌≡◌, ℕ, zero, suc, ◌+◌, Bool, true, false, cond, ◌||◌, List, [], ◌∷◌, ◌++◌, Option, Some, None, is_some, refl, sym, ap, subst, ◌∙◌, arith}
use Rattle.std.proofs.lemmas.Bool.Decides.{nat_tests}
use Rattle.std.specs.Prelude.{IfSome, nat_lt, option_map, slice_get, ◌==◌}
use Rattle.std.specs.FinMap.Entries.{find}
use Rattle.push_base.specs.Cases.{changed_at}
use Rattle.rrset.specs.declared.record.Question.{Question}
use Rattle.linkask.specs.Asking.{asked_cmp}
use Rattle.linkask.specs.Bounds.{Kept, asks_in, wanted_in}
use Rattle.linkask.specs.Laws.{ReasonsKeepBounds, UnwantingDrops}
use Rattle.linkask.specs.Reasons.{LinkAsking}
use Rattle.linkask.specs.declared.asks.KeptAsks.{KeptAsks}
use Rattle.linkask.proofs.Order.{asked_cmp_total}
use Rattle.linkreasons.specs.AllReasons.{AllReasons, AreFollowed, KeepsBounds, ReasonsOfLink, WantsReasons, asking_of, askings_of, in_session, only_reasons, questions_for, reasons_on, session_questions, with_reason}
use Rattle.linkreasons.specs.Changing.{all_gone, is_there}
use Rattle.linkreasons.specs.Counting.{AreCounted, AreDistinct, IsAllCounted, IsCounted}
use Rattle.linkreasons.specs.Tallies.{positive, times}
use Rattle.linkreasons.specs.declared.reason.Reason.{Reason}
use Rattle.linkreasons.proofs.Changes.{Comes}
use Rattle.linkreasons.proofs.ManyLinks.{Gone, GoesOn, Parts, Sessions, all-bounds, changed-is, changed_from, gone-is, gone_from, goes-all, link-goes, session-goes}
use Rattle.linkreasons.proofs.OneLink.{number}
use Rattle.linkreasons.proofs.Seats.{absent}
use Rattle.linkreasons.proofs.SessionParts.{times-for}
use Rattle.linkreasons.proofs.Tally.{any-times, find-mapped, positive-some, sorted-mapped, times-append}

-- ---- each link is asked what there is reason to

wants-one : (o : Option KeptAsks) (n : ℕ) → option_map number o ≡ positive n → is_some (option_map asks_in o) ≡ nat_lt 0 n
wants-one None zero e = refl
wants-one None (suc n) e = let some = positive-some (suc n) (omega arith) in absurd cc
wants-one (Some asks) zero e = absurd cc
wants-one (Some asks) (suc n) e = grind (arith, nat_tests)

wants : (most : ℕ) (questions : List Question) (kept : Kept) → IsCounted most questions kept → WantsReasons questions (wanted_in kept)
wants most questions kept h = record {
  order = sorted-mapped asked_cmp asks_in kept ∙ h.order;
  wants = λ q. ap is_some (find-mapped asked_cmp asks_in q kept)
      ∙ wants-one (find asked_cmp q kept) (times asked_cmp q questions) (sym (find-mapped asked_cmp number q kept) ∙ h.tally q)
      ∙ sym (any-times asked_cmp_total q questions);
}

follows-from : (most at : ℕ) (sessions : Sessions) (links : List ReasonsOfLink) → AreCounted most at sessions links → (n link : ℕ) → at + n ≡ link
    → IfSome (slice_get links n) (λ l. WantsReasons (reasons_on link sessions l.reconfirmed) (wanted_in l.kept))
follows-from most at sessions [] h n link is = tt
follows-from most at sessions (l ∷ links) h zero link is =
    let here : at ≡ link = omega (arith, is) in
    subst (λ k. WantsReasons (reasons_on k sessions l.reconfirmed) (wanted_in l.kept)) here (wants most (reasons_on at sessions l.reconfirmed) l.kept h.0)
follows-from most at sessions (l ∷ links) h (suc n) link is = follows-from most (at + 1) sessions links h.1 n link (omega (arith, is))

pub follows : (most : ℕ) (all : AllReasons) → IsAllCounted most all → AreFollowed all
follows most all h = λ link. follows-from most 0 all.sessions all.links h.links link link (omega arith)

-- ---- some reasons go

pub record Leaves (most : ℕ) (old new : AllReasons) (befores : List LinkAsking) : Type 0 where
  pub counted : IsAllCounted most new
  pub askings : askings_of new ≡ only_reasons new.sessions befores
  pub bounds : KeepsBounds old new

module _ (unwanting : UnwantingDrops) (keeps : ReasonsKeepBounds) where
  leaves : (most : ℕ) (old : AllReasons) (later : Sessions) (links : List ReasonsOfLink) (befores : List LinkAsking) → Gone most 0 later befores old.links links → AreDistinct later
      → Leaves most old (record { links = links; sessions = later }) befores
  leaves most old later links befores gone apart = record {
    counted = record { links = gone.counted; numbers = apart };
    askings = gone.askings;
    bounds = λ rows link. all-bounds old.links links gone.steps rows link;
  }

  pub leaves-session : (most : ℕ) (old : AllReasons) (later : Sessions) (reasons : List Reason) (links : List ReasonsOfLink) → IsAllCounted most old → links ≡ all_gone reasons old.links → Parts old.sessions later reasons → AreDistinct later
      → Leaves most old (record { links = links; sessions = later }) (askings_of old)
  leaves-session most old later reasons links h is parts apart =
      subst (λ (ls : List ReasonsOfLink). Leaves most old (record { links = ls; sessions = later }) (askings_of old)) (sym (is ∙ gone-is reasons old.links))
      (leaves most old later (gone_from 0 reasons old.links) (askings_of old)
      (goes-all unwanting keeps most 0 old.sessions later (askings_of old) old.links (gone_from 0 reasons old.links) h.links (session-goes old.sessions later reasons parts 0 old.links)) apart)

  pub leaves-link : (most : ℕ) (old : AllReasons) (link : ℕ) (f : LinkAsking → LinkAsking) (g : ReasonsOfLink → ReasonsOfLink) (links : List ReasonsOfLink) → IsAllCounted most old → links ≡ changed_at link g old.links
      → ((at : ℕ) (l : ReasonsOfLink) → GoesOn at old.sessions old.sessions (f (asking_of l)) l (g l))
      → Leaves most old (record { links = links; sessions = old.sessions }) (changed_at link f (askings_of old))
  leaves-link most old link f g links h is goes =
      subst (λ (ls : List ReasonsOfLink). Leaves most old (record { links = ls; sessions = old.sessions }) (changed_at link f (askings_of old))) (sym (is ∙ changed-is link g old.links))
      (subst (Leaves most old (record { links = changed_from link g 0 old.links; sessions = old.sessions })) (sym (changed-is link f (askings_of old)))
      (leaves most old old.sessions (changed_from link g 0 old.links) (changed_from link f 0 (askings_of old))
      (goes-all unwanting keeps most 0 old.sessions old.sessions (changed_from link f 0 (askings_of old)) old.links (changed_from link g 0 old.links) h.links (link-goes link f g old.sessions goes 0 old.links)) h.numbers))

-- ---- a session comes

pub new-session : (number : ℕ) (sessions : Sessions) (at : ℕ) (q : Question) → times asked_cmp q (session_questions at sessions) ≡ times asked_cmp q (session_questions at (sessions ++ (number, []) ∷ []))
new-session number [] at q = refl
new-session number (e ∷ sessions) at q =
    let a = times-append asked_cmp_total q (questions_for at e.1) (session_questions at sessions) in
    let b = times-append asked_cmp_total q (questions_for at e.1) (session_questions at (sessions ++ (number, []) ∷ [])) in
    let rest = new-session number sessions at q in
    omega (arith, a, b, rest)

-- ---- a reason comes

pub comes-last : (number : ℕ) (r : Reason) (sessions : Sessions) → AreDistinct sessions → is_there number sessions ≡ true → Comes sessions (in_session number (with_reason r) sessions) r
comes-last number r [] apart there at q = absurd cc
comes-last number r (e ∷ sessions) apart there at q = by (e.0 == number) refl there (comes-last number r sessions apart.1)
  where
    later : Sessions
    later = in_session number (with_reason r) sessions

    by : (b : Bool) → (e.0 == number) ≡ b → (b || is_there number sessions) ≡ true → (is_there number sessions ≡ true → Comes sessions later r)
        → times asked_cmp q (questions_for at (cond b (e.1 ++ r ∷ []) e.1) ++ session_questions at later) ≡ times asked_cmp q (questions_for at (r ∷ [])) + times asked_cmp q (questions_for at e.1 ++ session_questions at sessions)
    by true is some rest =
        let same : e.0 ≡ number = grind (arith, nat_tests) in
        let none = (absent number sessions (subst (λ n. is_there n sessions ≡ false) same apart.0)).left (with_reason r) in
        let others = ap (λ (s : Sessions). times asked_cmp q (session_questions at s)) none in
        let a = times-append asked_cmp_total q (questions_for at (e.1 ++ r ∷ [])) (session_questions at later) in
        let b = times-for q at e.1 (r ∷ []) in
        let c = times-append asked_cmp_total q (questions_for at e.1) (session_questions at sessions) in
        omega (arith, a, b, c, others)
    by false is some rest =
        let more = rest some at q in
        let a = times-append asked_cmp_total q (questions_for at e.1) (session_questions at later) in
        let c = times-append asked_cmp_total q (questions_for at e.1) (session_questions at sessions) in
        omega (arith, a, c, more)
