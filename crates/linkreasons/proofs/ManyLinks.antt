-- Links beside one another, counted from one on.
--     changed_from, changed-is      the link at a place changes
--     gone_from, gone-is      reasons of sessions go, each on its link
--     GoesOn, AllGo, goes-all      some reasons of each link go
--     Steps, all-bounds      bounds of each link
use Rattle.std.proofs.Common.{◌≡◌, ℕ, zero, suc, ◌+◌, ◌<◌, Bool, true, false, cond, List, [], ◌∷◌, ◌++◌, map, refl, sym, ap, subst, ◌∙◌, arith}
use Rattle.std.proofs.lemmas.Bool.Decides.{nat_tests}
use Rattle.std.specs.Prelude.{IfSome, filter, slice_get, ◌==◌, ⊤}
use Rattle.push_base.specs.Cases.{changed_at}
use Rattle.rrset.specs.declared.record.Question.{Question}
use Rattle.linkcache.specs.Rows.{LinkRows}
use Rattle.linkask.specs.Asking.{Wanted, asked_cmp}
use Rattle.linkask.specs.Bounds.{AreBounds, wanted_in}
use Rattle.linkask.specs.Laws.{ReasonsKeepBounds, UnwantingDrops}
use Rattle.linkask.specs.Reasons.{LinkAsking}
use Rattle.linkreasons.specs.AllReasons.{ReasonsOfLink, asking_of, only_from, questions_for, reasons_on, session_questions, with_any_of}
use Rattle.linkreasons.specs.Changing.{all_gone, one_gone, one_unwanted, questions_of_rows, unwanted_all}
use Rattle.linkreasons.specs.Counting.{AreCounted, IsCounted}
use Rattle.linkreasons.specs.Tallies.{times}
use Rattle.linkreasons.specs.declared.reason.Reason.{Reason}
use Rattle.linkask.proofs.Order.{asked_cmp_total}
use Rattle.linkreasons.proofs.OneLink.{Unwants, bounds-all, counted-all}
use Rattle.linkreasons.proofs.Tally.{times-append}

abbrev pub Sessions : Type 0
Sessions = List (ℕ × List Reason)

-- ---- the link at a place changes

module _ {X : Type 0} (link : ℕ) (f : X → X) where
  abbrev pub changed_from : ℕ → List X → List X
  changed_from at [] = []
  changed_from at (x ∷ xs) = cond (link == at) (f x) x ∷ changed_from (at + 1) xs

  same-from : (at : ℕ) (xs : List X) → link < at → changed_from at xs ≡ xs
  same-from at [] before = refl
  same-from at (x ∷ xs) before =
      let other : (link == at) ≡ false = grind (arith, nat_tests) in
      let rest = same-from (at + 1) xs (omega (arith, before)) in
      λ i. cond (other i) (f x) x ∷ rest i

  changed-there : (at n : ℕ) (xs : List X) → link ≡ at + n → changed_at n f xs ≡ changed_from at xs
  changed-there at n [] is = refl
  changed-there at zero (x ∷ xs) is =
      let here : (link == at) ≡ true = grind (arith, nat_tests) in
      let rest = same-from (at + 1) xs (omega (arith, is)) in
      λ i. cond (sym here i) (f x) x ∷ sym rest i
  changed-there at (suc n) (x ∷ xs) is =
      let other : (link == at) ≡ false = grind (arith, nat_tests) in
      let rest = changed-there (at + 1) n xs (omega (arith, is)) in
      λ i. cond (sym other i) (f x) x ∷ rest i

  pub changed-is : (xs : List X) → changed_at link f xs ≡ changed_from 0 xs
  changed-is xs = changed-there 0 link xs (omega arith)

-- ---- reasons of sessions go

abbrev gone_on : ℕ → List Reason → ReasonsOfLink → ReasonsOfLink
gone_on at reasons l = record l { kept = unwanted_all (questions_for at reasons) l.kept }

abbrev pub gone_from : ℕ → List Reason → List ReasonsOfLink → List ReasonsOfLink
gone_from at reasons [] = []
gone_from at reasons (l ∷ links) = gone_on at reasons l ∷ gone_from (at + 1) reasons links

none-gone : (at : ℕ) (links : List ReasonsOfLink) → gone_from at [] links ≡ links
none-gone at [] = refl
none-gone at (l ∷ links) = ap (λ (ls : List ReasonsOfLink). l ∷ ls) (none-gone (at + 1) links)

one-more-gone : (r : Reason) (reasons : List Reason) (at : ℕ) (links : List ReasonsOfLink) → gone_from at reasons (changed_from r.link (one_unwanted r.question) at links) ≡ gone_from at (r ∷ reasons) links
one-more-gone r reasons at [] = refl
one-more-gone r reasons at (l ∷ links) = let rest = one-more-gone r reasons (at + 1) links in λ i. by (r.link == at) i ∷ rest i
  where
    others : List Reason
    others = filter (λ (x : Reason). x.link == at) reasons

    by : (b : Bool) → gone_on at reasons (cond b (one_unwanted r.question l) l) ≡ record l { kept = unwanted_all (map (λ (x : Reason). x.question) (cond b (r ∷ others) others)) l.kept }
    by true = refl
    by false = refl

pub gone-is : (reasons : List Reason) (links : List ReasonsOfLink) → all_gone reasons links ≡ gone_from 0 reasons links
gone-is [] links = sym (none-gone 0 links)
gone-is (r ∷ reasons) links = gone-is reasons (one_gone r links) ∙ ap (gone_from 0 reasons) (changed-is r.link (one_unwanted r.question) links) ∙ one-more-gone r reasons 0 links

-- ---- some reasons of each link go

-- before is what is asked with the rows that are left
pub record GoesOn (at : ℕ) (sessions later : Sessions) (before : LinkAsking) (old new : ReasonsOfLink) : Type 0 where
  pub gone : List Question
  pub kept : new.kept ≡ unwanted_all gone old.kept
  pub counts : (q : Question) → times asked_cmp q (reasons_on at sessions old.reconfirmed) ≡ times asked_cmp q gone + times asked_cmp q (reasons_on at later new.reconfirmed)
  pub asking : before ≡ record { wanted = wanted_in old.kept; reconfirmed = new.reconfirmed }

abbrev pub AllGo : ℕ → Sessions → Sessions → List LinkAsking → List ReasonsOfLink → List ReasonsOfLink → Type 0
AllGo at sessions later [] [] [] = ⊤
AllGo at sessions later (b ∷ befores) (o ∷ olds) (n ∷ news) = GoesOn at sessions later b o n × AllGo (at + 1) sessions later befores olds news
AllGo at sessions later _ _ _ = ⊥

-- for bounds
abbrev pub Steps : List ReasonsOfLink → List ReasonsOfLink → Type 0
Steps [] [] = ⊤
Steps (o ∷ olds) (n ∷ news) = ((rows : LinkRows) → AreBounds rows o.kept → AreBounds rows n.kept) × Steps olds news
Steps _ _ = ⊥

pub all-bounds : (olds news : List ReasonsOfLink) → Steps olds news → (rows : LinkRows) (link : ℕ) → IfSome (slice_get olds link) (λ l. AreBounds rows l.kept) → IfSome (slice_get news link) (λ l. AreBounds rows l.kept)
all-bounds [] [] steps rows link bounds = tt
all-bounds [] (n ∷ news) steps rows link bounds = absurd steps
all-bounds (o ∷ olds) [] steps rows link bounds = tt
all-bounds (o ∷ olds) (n ∷ news) steps rows zero bounds = steps.0 rows bounds
all-bounds (o ∷ olds) (n ∷ news) steps rows (suc link) bounds = all-bounds olds news steps.1 rows link bounds

pub record Gone (most at : ℕ) (later : Sessions) (befores : List LinkAsking) (olds news : List ReasonsOfLink) : Type 0 where
  pub counted : AreCounted most at later news
  pub askings : map asking_of news ≡ only_from at later befores
  pub steps : Steps olds news

module _ (unwanting : UnwantingDrops) (keeps : ReasonsKeepBounds) where
  abbrev only_on : ℕ → Sessions → LinkAsking → LinkAsking
  only_on at later b = record b { wanted = with_any_of (reasons_on at later b.reconfirmed) b.wanted }

  goes-one : (most at : ℕ) (sessions later : Sessions) (b : LinkAsking) (o n : ReasonsOfLink) → GoesOn at sessions later b o n → IsCounted most (reasons_on at sessions o.reconfirmed) o.kept
      → Unwants most (reasons_on at later n.reconfirmed) o.kept n.kept
  goes-one most at sessions later b o n goes counted =
      subst (λ k. Unwants most (reasons_on at later n.reconfirmed) o.kept k) (sym goes.kept)
      (counted-all unwanting most goes.gone (reasons_on at sessions o.reconfirmed) (reasons_on at later n.reconfirmed) o.kept counted goes.counts)

  asks-one : (most at : ℕ) (sessions later : Sessions) (b : LinkAsking) (o n : ReasonsOfLink) → GoesOn at sessions later b o n → Unwants most (reasons_on at later n.reconfirmed) o.kept n.kept → asking_of n ≡ only_on at later b
  asks-one most at sessions later b o n goes unwants = ap (λ (w : Wanted). record { wanted = w; reconfirmed = n.reconfirmed }) unwants.wanted ∙ ap (only_on at later) (sym goes.asking)

  pub goes-all : (most at : ℕ) (sessions later : Sessions) (befores : List LinkAsking) (olds news : List ReasonsOfLink) → AreCounted most at sessions olds → AllGo at sessions later befores olds news → Gone most at later befores olds news
  goes-all most at sessions later [] [] [] counted go = record { counted = tt; askings = refl; steps = tt }
  goes-all most at sessions later [] [] (n ∷ news) counted go = absurd go
  goes-all most at sessions later [] (o ∷ olds) news counted go = absurd go
  goes-all most at sessions later (b ∷ befores) [] news counted go = absurd go
  goes-all most at sessions later (b ∷ befores) (o ∷ olds) [] counted go = absurd go
  goes-all most at sessions later (b ∷ befores) (o ∷ olds) (n ∷ news) counted go =
      let here = goes-one most at sessions later b o n go.0 counted.0 in
      let rest = goes-all most (at + 1) sessions later befores olds news counted.1 go.1 in
      let asks = asks-one most at sessions later b o n go.0 here in
      record {
        counted = (here.counted, rest.counted);
        askings = λ i. asks i ∷ rest.askings i;
        steps = ((λ rows bounds. subst (λ k. AreBounds rows k) (sym go.0.kept) (bounds-all keeps rows go.0.gone o.kept counted.0.order bounds)), rest.steps);
      }

-- ---- by the reasons of a session

abbrev pub Parts : Sessions → Sessions → List Reason → Type 0
Parts sessions later reasons = (at : ℕ) (q : Question) → times asked_cmp q (session_questions at sessions) ≡ times asked_cmp q (questions_for at reasons) + times asked_cmp q (session_questions at later)

parts-on : (q : Question) (a b c rows : List Question) → times asked_cmp q a ≡ times asked_cmp q b + times asked_cmp q c → times asked_cmp q (a ++ rows) ≡ times asked_cmp q b + times asked_cmp q (c ++ rows)
parts-on q a b c rows is =
    let first = times-append asked_cmp_total q a rows in
    let second = times-append asked_cmp_total q c rows in
    omega (arith, first, second, is)

pub session-goes : (sessions later : Sessions) (reasons : List Reason) → Parts sessions later reasons → (at : ℕ) (links : List ReasonsOfLink) → AllGo at sessions later (map asking_of links) links (gone_from at reasons links)
session-goes sessions later reasons parts at [] = tt
session-goes sessions later reasons parts at (l ∷ links) = (
  record {
    gone = questions_for at reasons;
    kept = refl;
    counts = λ q. parts-on q (session_questions at sessions) (questions_for at reasons) (session_questions at later) (questions_of_rows l.reconfirmed) (parts at q);
    asking = refl;
  },
  session-goes sessions later reasons parts (at + 1) links,
)

-- ---- at one link

pub none-goes : (at : ℕ) (sessions : Sessions) (l : ReasonsOfLink) → GoesOn at sessions sessions (asking_of l) l l
none-goes at sessions l = record { gone = []; kept = refl; counts = λ q. omega arith; asking = refl }

pub link-goes : (link : ℕ) (f : LinkAsking → LinkAsking) (g : ReasonsOfLink → ReasonsOfLink) (sessions : Sessions) → ((at : ℕ) (l : ReasonsOfLink) → GoesOn at sessions sessions (f (asking_of l)) l (g l))
    → (at : ℕ) (links : List ReasonsOfLink) → AllGo at sessions sessions (changed_from link f at (map asking_of links)) links (changed_from link g at links)
link-goes link f g sessions goes at [] = tt
link-goes link f g sessions goes at (l ∷ links) = (by (link == at), link-goes link f g sessions goes (at + 1) links)
  where
    by : (b : Bool) → GoesOn at sessions sessions (cond b (f (asking_of l)) (asking_of l)) l (cond b (g l) l)
    by true = goes at l
    by false = none-goes at sessions l
