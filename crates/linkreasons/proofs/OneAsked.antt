-- One link is asked, or heard.
--     asked-there, asked-nowhere      the link at a place, and where there is none
--     asked-counted, asked-bounds, asked-others      what that leaves
--     asks-there, asks-nowhere, asks-same      what is asked then
--     changed-others, changed-bounds, changed-set, changed-past      the link at a place changes
--     hears-bounds, lowers-keep      bounds of a link that is heard, and lowered ones
--     new-counted      nothing is asked
use Rattle.std.proofs.Common.{◌≡◌, ℕ, zero, suc, ◌+◌, ◌-◌, ◌<◌, ◌≤◌, Bool, true, false, cond, not, ◌&&◌, List, [], ◌∷◌, ◌++◌, Result, Ok, Err, length, map, replicate, get_or, set, Option, Some, None, refl, sym, ap, subst, ◌∙◌, arith}
use Rattle.std.proofs.lemmas.Bool.Decides.{nat_tests}
use Rattle.std.proofs.lemmas.List.{append-nil, append_assoc}
use Rattle.std.specs.Prelude.{IfOk, IfSome, OnErr, OnOk, min, slice_get, ◌==◌}
use Rattle.push_base.specs.Cases.{changed_at}
use Rattle.rrset.specs.declared.record.HeardRr.{HeardRr}
use Rattle.linkcache.specs.Rows.{LinkRows, heard, ttl_of}
use Rattle.linkcache.specs.declared.rules.LinkRules.{LinkRules}
use Rattle.linkask.specs.Asking.{Wanted, next}
use Rattle.linkask.specs.Bounds.{AreBounds, IsBound, Kept, all_heard, first_refresh, heard_again, is_asked_for, wanted_in}
use Rattle.linkask.specs.Laws.{HearingKeepsBounds}
use Rattle.linkask.specs.Reasons.{LinkAsking}
use Rattle.linkreasons.specs.AllReasons.{ReasonsOfLink, asking_of, reasons_on}
use Rattle.linkreasons.specs.Changing.{IsAsked, IsOneAsked, asked_on, heard_by}
use Rattle.linkreasons.specs.Counting.{AreCounted, IsCounted}
use Rattle.linkreasons.proofs.ManyLinks.{Sessions}
use Rattle.linkreasons.proofs.OneLink.{reasons-alone}

-- ---- a place

module _ {X : Type 0} (f : X → X) where
  pub changed-others : (link other : ℕ) (xs : List X) → (other == link) ≡ false → slice_get (changed_at link f xs) other ≡ slice_get xs other
  changed-others link other [] apart = refl
  changed-others zero zero (x ∷ xs) apart = let same : (zero == zero) ≡ true = grind (arith, nat_tests) in absurd cc
  changed-others zero (suc other) (x ∷ xs) apart = refl
  changed-others (suc link) zero (x ∷ xs) apart = refl
  changed-others (suc link) (suc other) (x ∷ xs) apart = let next : (other == link) ≡ false = grind (arith, nat_tests) in changed-others link other xs next

  pub changed-bounds : (P Q : X → Type 0) → ((x : X) → P x → Q (f x)) → (link : ℕ) (xs : List X) → IfSome (slice_get xs link) P → IfSome (slice_get (changed_at link f xs) link) Q
  changed-bounds P Q keeps link [] h = tt
  changed-bounds P Q keeps zero (x ∷ xs) h = keeps x h
  changed-bounds P Q keeps (suc link) (x ∷ xs) h = changed-bounds P Q keeps link xs h

  -- by what is read there
  pub changed-set : (xs : List X) (place : ℕ) (d n : X) → place < length xs → n ≡ f (get_or xs place d) → set xs place n ≡ changed_at place f xs
  changed-set [] place d n within is = refl
  changed-set (x ∷ xs) zero d n within is = ap (λ y. y ∷ xs) is
  changed-set (x ∷ xs) (suc place) d n within is = ap (λ l. x ∷ l) (changed-set xs place d n (omega (arith, within)) is)

  pub changed-past : (xs : List X) (place : ℕ) → length xs ≤ place → xs ≡ changed_at place f xs
  changed-past [] place past = refl
  changed-past (x ∷ xs) zero past = absurd (omega (arith, past))
  changed-past (x ∷ xs) (suc place) past = ap (λ l. x ∷ l) (changed-past xs place (omega (arith, past)))

pub set-same : {X : Type 0} (xs : List X) (place : ℕ) (d n : X) → place < length xs → n ≡ get_or xs place d → set xs place n ≡ xs
set-same [] place d n within is = refl
set-same (x ∷ xs) zero d n within is = ap (λ y. y ∷ xs) is
set-same (x ∷ xs) (suc place) d n within is = ap (λ l. x ∷ l) (set-same xs place d n (omega (arith, within)) is)

-- ---- a link is asked

module _ (rows : LinkRows) where
  pub asked-there : (olds : List ReasonsOfLink) (place : ℕ) (d n : ReasonsOfLink) → place < length olds → IsAsked rows (get_or olds place d) n → IsOneAsked rows place olds (set olds place n)
  asked-there [] place d n within is = absurd (omega (arith, within))
  asked-there (o ∷ olds) zero d n within is = (is, refl)
  asked-there (o ∷ olds) (suc place) d n within is = (refl, asked-there olds place d n (omega (arith, within)) is)

  pub asked-nowhere : (olds : List ReasonsOfLink) (place : ℕ) → length olds ≤ place → IsOneAsked rows place olds olds
  asked-nowhere [] place past = tt
  asked-nowhere (o ∷ olds) zero past = absurd (omega (arith, past))
  asked-nowhere (o ∷ olds) (suc place) past = (refl, asked-nowhere olds place (omega (arith, past)))

  pub asked-counted : (most : ℕ) (sessions : Sessions) (at link : ℕ) (olds news : List ReasonsOfLink) → IsOneAsked rows link olds news → AreCounted most at sessions olds → AreCounted most at sessions news
  asked-counted most sessions at link [] [] is h = tt
  asked-counted most sessions at link [] (n ∷ news) is h = absurd is
  asked-counted most sessions at zero (o ∷ olds) [] is h = absurd is
  asked-counted most sessions at (suc link) (o ∷ olds) [] is h = absurd is
  asked-counted most sessions at zero (o ∷ olds) (n ∷ news) is h = (
    subst (λ r. IsCounted most (reasons_on at sessions r) n.kept) (sym is.0.reconfirmed) (reasons-alone most (reasons_on at sessions o.reconfirmed) o.kept n.kept is.0.reasons h.0),
    subst (AreCounted most (at + 1) sessions) (sym is.1) h.1,
  )
  asked-counted most sessions at (suc link) (o ∷ olds) (n ∷ news) is h = (
    subst (λ (l : ReasonsOfLink). IsCounted most (reasons_on at sessions l.reconfirmed) l.kept) (sym is.0) h.0,
    asked-counted most sessions (at + 1) link olds news is.1 h.1,
  )

  pub asked-bounds : (link : ℕ) (olds news : List ReasonsOfLink) → IsOneAsked rows link olds news → IfSome (slice_get news link) (λ l. AreBounds rows l.kept)
  asked-bounds link [] [] is = tt
  asked-bounds link [] (n ∷ news) is = absurd is
  asked-bounds link (o ∷ olds) [] is = tt
  asked-bounds zero (o ∷ olds) (n ∷ news) is = is.0.bounds
  asked-bounds (suc link) (o ∷ olds) (n ∷ news) is = asked-bounds link olds news is.1

  pub asked-others : (link other : ℕ) (olds news : List ReasonsOfLink) → IsOneAsked rows link olds news → (other == link) ≡ false → slice_get news other ≡ slice_get olds other
  asked-others link other [] [] is apart = refl
  asked-others link other [] (n ∷ news) is apart = absurd is
  asked-others zero other (o ∷ olds) [] is apart = absurd is
  asked-others (suc link) other (o ∷ olds) [] is apart = absurd is
  asked-others zero zero (o ∷ olds) (n ∷ news) is apart = let same : (zero == zero) ≡ true = grind (arith, nat_tests) in absurd cc
  asked-others zero (suc other) (o ∷ olds) (n ∷ news) is apart = ap (λ l. slice_get l other) is.1
  asked-others (suc link) zero (o ∷ olds) (n ∷ news) is apart = ap Some is.0
  asked-others (suc link) (suc other) (o ∷ olds) (n ∷ news) is apart = let next : (other == link) ≡ false = grind (arith, nat_tests) in asked-others link other olds news is.1 next

  -- ---- what is asked then

  read-there : (olds : List ReasonsOfLink) (place : ℕ) (d : ReasonsOfLink) → place < length olds → slice_get (map asking_of olds) place ≡ Some (asking_of (get_or olds place d))
  read-there [] place d within = absurd (omega (arith, within))
  read-there (o ∷ olds) zero d within = refl
  read-there (o ∷ olds) (suc place) d within = read-there olds place d (omega (arith, within))

  read-nowhere : (olds : List ReasonsOfLink) (place : ℕ) → length olds ≤ place → slice_get (map asking_of olds) place ≡ None
  read-nowhere [] place past = refl
  read-nowhere (o ∷ olds) zero past = absurd (omega (arith, past))
  read-nowhere (o ∷ olds) (suc place) past = read-nowhere olds place (omega (arith, past))

  with-wanted : (olds : List ReasonsOfLink) (place : ℕ) (d n : ReasonsOfLink) (w : Wanted) → place < length olds → wanted_in n.kept ≡ w → n.reconfirmed ≡ (get_or olds place d).reconfirmed
      → map asking_of (set olds place n) ≡ changed_at place (λ b. record b { wanted = w }) (map asking_of olds)
  with-wanted [] place d n w within is same = refl
  with-wanted (o ∷ olds) zero d n w within is same = ap (λ (a : LinkAsking). a ∷ map asking_of olds) (λ i. record { wanted = is i; reconfirmed = same i })
  with-wanted (o ∷ olds) (suc place) d n w within is same = ap (λ (l : List LinkAsking). asking_of o ∷ l) (with-wanted olds place d n w (omega (arith, within)) is same)

  abbrev asks_at : ℕ → ℕ → List LinkAsking → Option LinkAsking → Option (List ℕ) × List LinkAsking
  asks_at now link askings None = (None, askings)
  asks_at now link askings (Some a) = (let r = next rows now a.wanted in (r.0, changed_at link (λ b. record b { wanted = r.1 }) askings))

  asks-at : (now link : ℕ) (askings : List LinkAsking) → asked_on rows now link askings ≡ asks_at now link askings (slice_get askings link)
  asks-at now link askings = by (slice_get askings link)
    where
      by : (o : Option LinkAsking)
          → (elim o as (λ _. Option (List ℕ) × List LinkAsking) [
            | None ↦ (None, askings)
            | Some a ↦ (let r = next rows now a.wanted in (r.0, changed_at link (λ b. record b { wanted = r.1 }) askings))
          ]) ≡ asks_at now link askings o
      by None = refl
      by (Some a) = refl

  pub asks-there : (now : ℕ) (olds : List ReasonsOfLink) (place : ℕ) (d n : ReasonsOfLink) (sent : Option (List ℕ)) → place < length olds → next rows now (wanted_in (get_or olds place d).kept) ≡ (sent, wanted_in n.kept)
      → n.reconfirmed ≡ (get_or olds place d).reconfirmed → (sent, map asking_of (set olds place n)) ≡ asked_on rows now place (map asking_of olds)
  asks-there now olds place d n sent within is same =
      let sends : sent ≡ (next rows now (wanted_in (get_or olds place d).kept)).0 = ap (λ (r : Option (List ℕ) × Wanted). r.0) (sym is) in
      let wants : wanted_in n.kept ≡ (next rows now (wanted_in (get_or olds place d).kept)).1 = ap (λ (r : Option (List ℕ) × Wanted). r.1) (sym is) in
      let asks = with-wanted olds place d n (next rows now (wanted_in (get_or olds place d).kept)).1 within wants same in
      (λ i. (sends i, asks i))
      ∙ sym (asks-at now place (map asking_of olds) ∙ ap (asks_at now place (map asking_of olds)) (read-there olds place d within))

  pub asks-nowhere : (now : ℕ) (olds : List ReasonsOfLink) (place : ℕ) → length olds ≤ place → (None, map asking_of olds) ≡ asked_on rows now place (map asking_of olds)
  asks-nowhere now olds place past = sym (asks-at now place (map asking_of olds) ∙ ap (asks_at now place (map asking_of olds)) (read-nowhere olds place past))

  pub asks-same : (olds : List ReasonsOfLink) (place : ℕ) (d n : ReasonsOfLink) → place < length olds → wanted_in n.kept ≡ wanted_in (get_or olds place d).kept → n.reconfirmed ≡ (get_or olds place d).reconfirmed
      → map asking_of (set olds place n) ≡ map asking_of olds
  asks-same [] place d n within is same = refl
  asks-same (o ∷ olds) zero d n within is same = ap (λ (a : LinkAsking). a ∷ map asking_of olds) (λ i. record { wanted = is i; reconfirmed = same i })
  asks-same (o ∷ olds) (suc place) d n within is same = ap (λ (l : List LinkAsking). asking_of o ∷ l) (asks-same olds place d n (omega (arith, within)) is same)

  -- by what is read there
  pub asked-read : (olds : List ReasonsOfLink) (place : ℕ) (d n : ReasonsOfLink) → place < length olds → d ≡ get_or olds place d → IsAsked rows d n → IsOneAsked rows place olds (set olds place n)
  asked-read olds place d n within read is = asked-there olds place d n within (subst (λ (l : ReasonsOfLink). IsAsked rows l n) read is)

  pub asks-read : {E : Type 0} (now : ℕ) (olds : List ReasonsOfLink) (place : ℕ) (d n : ReasonsOfLink) (sent : Bool → Option (List ℕ)) (result : Result Bool E) → place < length olds → d ≡ get_or olds place d → n.reconfirmed ≡ d.reconfirmed
      → IfOk result (λ found. next rows now (wanted_in d.kept) ≡ (sent found, wanted_in n.kept)) → IfOk result (λ found. (sent found, map asking_of (set olds place n)) ≡ asked_on rows now place (map asking_of olds))
  asks-read now olds place d n sent (Ok found) within read same is =
      asks-there now olds place d n (sent found) within (subst (λ (l : ReasonsOfLink). next rows now (wanted_in l.kept) ≡ (sent found, wanted_in n.kept)) read is) (same ∙ ap (λ (l : ReasonsOfLink). l.reconfirmed) read)
  asks-read now olds place d n sent (Err e) within read same is = tt

  pub same-read : {A E : Type 0} (olds : List ReasonsOfLink) (place : ℕ) (d n : ReasonsOfLink) (result : Result A E) → place < length olds → d ≡ get_or olds place d → n.reconfirmed ≡ d.reconfirmed
      → OnErr result (wanted_in n.kept ≡ wanted_in d.kept) → OnErr result (map asking_of (set olds place n) ≡ map asking_of olds)
  same-read olds place d n (Ok x) within read same is = tt
  same-read olds place d n (Err e) within read same is =
      asks-same olds place d n within (is ∙ ap (λ (l : ReasonsOfLink). wanted_in l.kept) read) (same ∙ ap (λ (l : ReasonsOfLink). l.reconfirmed) read)

-- what holds of the link at a place holds of what is read there
pub holds-read : {X : Type 0} (P : X → Type 0) (xs : List X) (place : ℕ) (d : X) → place < length xs → d ≡ get_or xs place d → IfSome (slice_get xs place) P → P d
holds-read P [] place d within read h = absurd (omega (arith, within))
holds-read P (x ∷ xs) zero d within read h = subst P (sym read) h
holds-read P (x ∷ xs) (suc place) d within read h = holds-read P xs place d (omega (arith, within)) read h

pub on-ok : {A E P Q : Type 0} (result : Result A E) → (P → Q) → OnOk result P → OnOk result Q
on-ok (Ok x) f h = f h
on-ok (Err e) f h = tt

pub on-err : {A E P Q : Type 0} (result : Result A E) → (P → Q) → OnErr result P → OnErr result Q
on-err (Ok x) f h = tt
on-err (Err e) f h = f h

-- ---- a link is heard

pub hears-bounds : HearingKeepsBounds → (rules : LinkRules) (rows : LinkRows) (now : ℕ) (hearing : List HeardRr) (link : ℕ) (links : List ReasonsOfLink) → IfSome (slice_get links link) (λ l. AreBounds rows l.kept)
    → IfSome (slice_get (changed_at link (heard_by now hearing) links) link) (λ l. AreBounds (heard rules rows now hearing) l.kept)
hears-bounds keeps rules rows now hearing link links h =
    changed-bounds (heard_by now hearing) (λ l. AreBounds rows l.kept) (λ l. AreBounds (heard rules rows now hearing) l.kept) (λ l bounds. keeps rules rows now hearing l.kept bounds) link links h

-- lowered bounds are bounds, too
lower-keeps : (rows : LinkRows) (now : ℕ) (h : HeardRr) (kept : Kept) → AreBounds rows kept → AreBounds rows (heard_again now kept h)
lower-keeps rows now h [] bounds = tt
lower-keeps rows now h (e ∷ es) bounds = (by (is_asked_for e.0 h && not (ttl_of h == 0)), lower-keeps rows now h es bounds.1)
  where
    by : (b : Bool) → IsBound rows (e.0, record e.1 { due = cond b (min e.1.due (first_refresh now h)) e.1.due })
    by true = let bound = bounds.0 in omega (arith, bound)
    by false = bounds.0

all-lower-keep : (rows : LinkRows) (now : ℕ) (hs : List HeardRr) (kept : Kept) → AreBounds rows kept → AreBounds rows (all_heard now hs kept)
all-lower-keep rows now [] kept bounds = bounds
all-lower-keep rows now (h ∷ hs) kept bounds = all-lower-keep rows now hs (heard_again now kept h) (lower-keeps rows now h kept bounds)

pub lowers-keep : (rows : LinkRows) (now : ℕ) (hearing : List HeardRr) (link other : ℕ) (links : List ReasonsOfLink) → IfSome (slice_get links other) (λ l. AreBounds rows l.kept)
    → IfSome (slice_get (changed_at link (heard_by now hearing) links) other) (λ l. AreBounds rows l.kept)
lowers-keep rows now hearing link other [] h = h
lowers-keep rows now hearing zero zero (l ∷ ls) h = all-lower-keep rows now hearing l.kept h
lowers-keep rows now hearing zero (suc other) (l ∷ ls) h = h
lowers-keep rows now hearing (suc link) zero (l ∷ ls) h = h
lowers-keep rows now hearing (suc link) (suc other) (l ∷ ls) h = lowers-keep rows now hearing link other ls h

-- ---- nothing is asked

pub new-begins : {X : Type 0} (x : X) (n : ℕ) → [] ++ replicate (n - 0) x ≡ replicate n x
new-begins x n = let all : n - 0 ≡ n = omega arith in ap (λ k. replicate k x) all

pub new-turn : {X : Type 0} (x y : X) (xs ys : List X) (n i : ℕ) → i < n → y ≡ x → ys ≡ xs ++ y ∷ [] → xs ++ replicate (n - i) x ≡ replicate n x → ys ++ replicate (n - (i + 1)) x ≡ replicate n x
new-turn x y xs ys n i more is next so_far =
    let count : suc (n - (i + 1)) ≡ n - i = omega (arith, more) in
    ap (λ l. l ++ replicate (n - (i + 1)) x) (next ∙ ap (λ z. xs ++ z ∷ []) is)
    ∙ append_assoc xs (x ∷ []) (replicate (n - (i + 1)) x)
    ∙ ap (λ k. xs ++ replicate k x) count ∙ so_far

pub new-ends : {X : Type 0} (x : X) (xs : List X) (n i : ℕ) → n ≤ i → xs ++ replicate (n - i) x ≡ replicate n x → xs ≡ replicate n x
new-ends x xs n i over so_far =
    let none : n - i ≡ 0 = omega (arith, over) in
    sym (append-nil xs) ∙ ap (λ k. xs ++ replicate k x) (sym none) ∙ so_far

pub new-counted : (n at : ℕ) → AreCounted 0 at [] (replicate n (record { kept = []; reconfirmed = [] }))
new-counted zero at = tt
new-counted (suc n) at = (record { order = refl; tally = λ q. refl; room = λ q. omega arith }, new-counted n (at + 1))
