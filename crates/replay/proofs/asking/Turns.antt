-- A link is asked until no question of it is due, turn by turn.
--     asks-none      none is due
--     AsksOne, asks-turn      the first that is due, and then the others
--     asks-fewer      each turn leaves fewer that are due
use Rattle.std.proofs.Common.{◌≡◌, ◌<◌, ◌≤◌, ℕ, suc, Bool, true, false, cond, List, [], ◌∷◌, length, Option, Some, None, refl, sym, ◌∙◌, ap, subst, arith}
use Rattle.std.specs.Prelude.{slice_get, filter, map, IsTrue}
use Rattle.std.proofs.lemmas.List.{length-map}
use Rattle.push_base.specs.Cases.{changed_at}
use Rattle.rrset.specs.declared.record.Question.{Question}
use Rattle.linkcache.specs.Links.{LinkState}
use Rattle.linkcache.specs.Rows.{LinkRows}
use Rattle.linkask.specs.Asking.{Asks, Wanted, all_asked, all_due, are_in_order, asked, asked_now, datagram, first_due, is_due, next, same_asked}
use Rattle.linkask.specs.Laws.{AskedOnce, AsksTheFirst, NotDueAtOnce}
use Rattle.linkask.specs.Reasons.{LinkAsking}
use Rattle.linkask.proofs.Order.{same-itself}
use Rattle.history.specs.States.{State}
use Rattle.hubasking.specs.LinkAskings.{Askings, ask, asks_all}
use Rattle.replay.specs.Askings.{AreOrdered}
use Rattle.replay.proofs.asking.Places.{wanting, there-then, twice-changed, itself-changed, changed-ordered, ordered-there, ordered-changed}

abbrev Asked : Type 0
Asked = Option (List ℕ) × Askings

abbrev All : Type 0
All = List (List ℕ) × Askings

abbrev nothing_sent : Option (List ℕ)
nothing_sent = None

-- by the link, and what it is asked
abbrev ask_as : ℕ → ℕ → Askings → Option LinkState → Option LinkAsking → Asked
ask_as now link askings o p = elim o as (λ _. Asked) [
  | None ↦ (None, askings)
  | Some l ↦ elim p as (λ _. Asked) [ None ↦ (None, askings) | Some a ↦ ((next l.rows now a.wanted).0, changed_at link (wanting (next l.rows now a.wanted).1) askings) ]
]

abbrev all_as : ℕ → ℕ → Askings → Option LinkState → Option LinkAsking → All
all_as now link askings o p = elim o as (λ _. All) [
  | None ↦ ([], askings)
  | Some l ↦ elim p as (λ _. All) [ None ↦ ([], askings) | Some a ↦ (all_due l.rows now a.wanted, changed_at link (wanting (all_asked l.rows now a.wanted)) askings) ]
]

-- ---- none is due

module _ (law : AskedOnce) (now link : ℕ) (askings : Askings) (ordered : AreOrdered askings) where
  none-due : (l : LinkState) (a : LinkAsking) → slice_get askings link ≡ Some a → (next l.rows now a.wanted).0 ≡ None → (due : List (List ℕ)) → all_due l.rows now a.wanted ≡ due
      → (all_as now link askings (Some l) (Some a) ≡ ([], askings)) × (changed_at link (wanting (next l.rows now a.wanted).1) askings ≡ askings)
  none-due l a there e [] is =
      let both = (law l.rows now a.wanted (ordered-there link a askings ordered there)).0 is in
      let none : next l.rows now a.wanted ≡ (None, a.wanted) = both.0 in (
        λ i. (is i, (ap (λ (w : Wanted). changed_at link (wanting w) askings) both.1 ∙ itself-changed link a askings there) i),
        ap (λ (r : Option (List ℕ) × Wanted). changed_at link (wanting r.1) askings) none ∙ itself-changed link a askings there,
      )
  none-due l a there e (d ∷ due) is =
      let one = (law l.rows now a.wanted (ordered-there link a askings ordered there)).1 d due is in
      let wrong : nothing_sent ≡ Some d = sym e ∙ one.first in absurd cc

  none-as : (o : Option LinkState) (p : Option LinkAsking) → slice_get askings link ≡ p → (ask_as now link askings o p).0 ≡ None → (all_as now link askings o p ≡ ([], askings)) × ((ask_as now link askings o p).1 ≡ askings)
  none-as None p there e = (refl, refl)
  none-as (Some l) None there e = (refl, refl)
  none-as (Some l) (Some a) there e = none-due l a there e (all_due l.rows now a.wanted) refl

pub asks-none : AskedOnce → (state : State) (askings : Askings) (link : ℕ) → AreOrdered askings → (ask state askings link).0 ≡ None → (asks_all state askings link ≡ ([], askings)) × ((ask state askings link).1 ≡ askings)
asks-none law state askings link ordered e = none-as law state.now link askings ordered (slice_get state.links link) (slice_get askings link) refl e

-- ---- the first that is due

-- this was sent, and what is left
pub record AsksOne (state : State) (askings : Askings) (link : ℕ) (sent : List ℕ) (then : Askings) : Type 0 where
  pub first : (asks_all state askings link).0 ≡ sent ∷ (asks_all state then link).0
  pub last : (asks_all state then link).1 ≡ (asks_all state askings link).1
  pub ordered : AreOrdered then

record OneAs (now link : ℕ) (askings : Askings) (o : Option LinkState) (p : Option LinkAsking) (sent : List ℕ) (then : Askings) : Type 0 where
  left : Option LinkAsking
  there : slice_get then link ≡ left
  first : (all_as now link askings o p).0 ≡ sent ∷ (all_as now link then o left).0
  last : (all_as now link then o left).1 ≡ (all_as now link askings o p).1
  ordered : AreOrdered then

next-ordered : (rows : LinkRows) (now : ℕ) (all : Wanted) (o : Option (Question × Asks))
    → are_in_order (elim o as (λ _. Option (List ℕ) × Wanted) [ None ↦ (None, all) | Some f ↦ (Some (datagram rows now f.0), asked (λ x. same_asked f.0 x.0) now all) ]).1 ≡ are_in_order all
next-ordered rows now all None = refl
next-ordered rows now all (Some f) = changed-ordered (λ x. same_asked f.0 x.0) (λ x. asked_now now x.1) all

module _ (law : AskedOnce) (now link : ℕ) (askings : Askings) (ordered : AreOrdered askings) (sent : List ℕ) where
  one-due : (l : LinkState) (a : LinkAsking) → slice_get askings link ≡ Some a → (next l.rows now a.wanted).0 ≡ Some sent → (due : List (List ℕ)) → all_due l.rows now a.wanted ≡ due
      → OneAs now link askings (Some l) (Some a) sent (changed_at link (wanting (next l.rows now a.wanted).1) askings)
  one-due l a there e [] is =
      let none = ((law l.rows now a.wanted (ordered-there link a askings ordered there)).0 is).0 in
      let wrong : nothing_sent ≡ Some sent = sym (ap (λ (r : Option (List ℕ) × Wanted). r.0) none) ∙ e in absurd cc
  one-due l a there e (d ∷ due) is =
      let order = ordered-there link a askings ordered there in
      let one = (law l.rows now a.wanted order).1 d due is in
      let both : Some d ≡ Some sent = sym one.first ∙ e in
      let same : d ≡ sent = cc in
      let then : Wanted = (next l.rows now a.wanted).1 in
      record {
        left = Some (wanting then a);
        there = there-then link then a askings there;
        first = is ∙ (λ i. same i ∷ sym one.rest i);
        last = twice-changed link then (all_asked l.rows now then) askings ∙ ap (λ (w : Wanted). changed_at link (wanting w) askings) one.asked;
        ordered = ordered-changed link then askings (next-ordered l.rows now a.wanted (first_due l.rows now a.wanted) ∙ order) ordered;
      }

  one-as : (o : Option LinkState) (p : Option LinkAsking) → slice_get askings link ≡ p → (ask_as now link askings o p).0 ≡ Some sent → OneAs now link askings o p sent (ask_as now link askings o p).1
  one-as None p there e = absurd cc
  one-as (Some l) None there e = absurd cc
  one-as (Some l) (Some a) there e = one-due l a there e (all_due l.rows now a.wanted) refl

pub asks-turn : AskedOnce → (state : State) (askings : Askings) (link : ℕ) → AreOrdered askings → (sent : List ℕ) (then : Askings) → (Some sent, then) ≡ ask state askings link → AsksOne state askings link sent then
asks-turn law state askings link ordered sent then is =
    let o = slice_get state.links link in
    let one : OneAs state.now link askings o (slice_get askings link) sent then =
    subst (OneAs state.now link askings o (slice_get askings link) sent) (ap (λ (r : Asked). r.1) (sym is)) (one-as law state.now link askings ordered sent o (slice_get askings link) refl (ap (λ (r : Asked). r.0) (sym is))) in
    record {
      first = one.first ∙ ap (λ (p : Option LinkAsking). sent ∷ (all_as state.now link then o p).0) (sym one.there);
      last = ap (λ (p : Option LinkAsking). (all_as state.now link then o p).1) one.there ∙ one.last;
      ordered = one.ordered;
    }

-- ---- each turn leaves fewer

module _ (not_due : NotDueAtOnce) (rows : LinkRows) (now : ℕ) where
  abbrev put : Question × Asks → Bool → Wanted → Wanted
  put e b rest = cond b (e ∷ rest) rest

  -- what was asked isn't due
  gone : (e : Question × Asks) (rest : Wanted) → put (e.0, asked_now now e.1) (is_due rows now (e.0, asked_now now e.1)) rest ≡ rest
  gone e rest = ap (λ (b : Bool). put (e.0, asked_now now e.1) b rest) (not_due rows now e.0 e.1)

  grows : (e : Question × Asks) (b : Bool) (xs ys : Wanted) → length xs ≤ length ys → length xs ≤ length (put e b ys)
  grows e true xs ys h = omega arith
  grows e false xs ys h = h

  both-grow : (e : Question × Asks) (b : Bool) (xs ys : Wanted) → length xs ≤ length ys → length (put e b xs) ≤ length (put e b ys)
  both-grow e true xs ys h = omega arith
  both-grow e false xs ys h = h

  few-asked : (test : Question × Asks → Bool) (all : Wanted) → length (filter (is_due rows now) (asked test now all)) ≤ length (filter (is_due rows now) all)
  few-asked test [] = omega arith
  few-asked test (e ∷ all) = by (test e) (filter (is_due rows now) (asked test now all)) (filter (is_due rows now) all) (few-asked test all)
    where
      by : (b : Bool) (xs ys : Wanted) → length xs ≤ length ys
          → length (put (cond b (e.0, asked_now now e.1) e) (is_due rows now (cond b (e.0, asked_now now e.1) e)) xs) ≤ length (put e (is_due rows now e) ys)
      by true xs ys h = subst (λ (zs : Wanted). length zs ≤ length (put e (is_due rows now e) ys)) (sym (gone e xs)) (grows e (is_due rows now e) xs ys h)
      by false xs ys h = both-grow e (is_due rows now e) xs ys h

  -- the first that is due is asked, so it isn't any more
  abbrev found_by : Question × Asks → Bool → Option (Question × Asks) → Option (Question × Asks)
  found_by e b rest = cond b (Some e) rest

  fewer-asked : (all : Wanted) (f : Question × Asks) → first_due rows now all ≡ Some f → length (filter (is_due rows now) (asked (λ x. same_asked f.0 x.0) now all)) < length (filter (is_due rows now) all)
  fewer-asked [] f e = absurd cc
  fewer-asked (x ∷ all) f e = by (is_due rows now x) refl e (fewer-asked all f)
    where
      rest : Wanted
      rest = filter (is_due rows now) (asked (λ y. same_asked f.0 y.0) now all)

      few : length rest ≤ length (filter (is_due rows now) all)
      few = few-asked (λ y. same_asked f.0 y.0) all

      head_of : Bool → Question × Asks
      head_of b = cond b (x.0, asked_now now x.1) x

      mine : x ≡ f → length (put (head_of (same_asked f.0 x.0)) (is_due rows now (head_of (same_asked f.0 x.0))) rest) ≡ length rest
      mine same =
          let itself : same_asked f.0 x.0 ≡ true = ap (λ (y : Question × Asks). same_asked f.0 y.0) same ∙ same-itself f.0 in
          ap (λ (b : Bool). length (put (head_of b) (is_due rows now (head_of b)) rest)) itself ∙ ap length (gone x rest)

      other : (b : Bool) → is_due rows now x ≡ false → length (put (head_of b) (is_due rows now (head_of b)) rest) ≡ length rest
      other true none = ap length (gone x rest)
      other false none = ap (λ (c : Bool). length (put x c rest)) none

      by : (c : Bool) → is_due rows now x ≡ c → found_by x c (first_due rows now all) ≡ Some f → (first_due rows now all ≡ Some f → length rest < length (filter (is_due rows now) all))
          → length (put (head_of (same_asked f.0 x.0)) (is_due rows now (head_of (same_asked f.0 x.0))) rest) < length (put x c (filter (is_due rows now) all))
      by true is found less =
          let same : x ≡ f = cc in
          let size = mine same in
          omega (arith, size, few)
      by false is found less =
          let size = other (same_asked f.0 x.0) is in
          let smaller = less found in
          omega (arith, size, smaller)

  next-fewer : (all : Wanted) (o : Option (Question × Asks)) (sent : List ℕ) → first_due rows now all ≡ o
      → (elim o as (λ _. Option (List ℕ) × Wanted) [ None ↦ (None, all) | Some f ↦ (Some (datagram rows now f.0), asked (λ x. same_asked f.0 x.0) now all) ]).0 ≡ Some sent
      → length (filter (is_due rows now) (elim o as (λ _. Option (List ℕ) × Wanted) [ None ↦ (None, all) | Some f ↦ (Some (datagram rows now f.0), asked (λ x. same_asked f.0 x.0) now all) ]).1) < length (filter (is_due rows now) all)
  next-fewer all None sent first e = absurd cc
  next-fewer all (Some f) sent first e = fewer-asked all f first

  all-fewer : (all : Wanted) (sent : List ℕ) → (next rows now all).0 ≡ Some sent → length (all_due rows now (next rows now all).1) < length (all_due rows now all)
  all-fewer all sent e =
      let fewer = next-fewer all (first_due rows now all) sent refl e in
      let size : (xs : Wanted) → length (all_due rows now xs) ≡ length (filter (is_due rows now) xs) = λ xs. length-map (filter (is_due rows now) xs) (λ (x : Question × Asks). datagram rows now x.0) in
      let one = size (next rows now all).1 in
      let two = size all in
      omega (arith, fewer, one, two)

module _ (not_due : NotDueAtOnce) (now link : ℕ) (askings : Askings) (sent : List ℕ) where
  fewer-as : (o : Option LinkState) (p : Option LinkAsking) → slice_get askings link ≡ p → (ask_as now link askings o p).0 ≡ Some sent
      → length (all_as now link (ask_as now link askings o p).1 o (slice_get (ask_as now link askings o p).1 link)).0 < length (all_as now link askings o p).0
  fewer-as None p there e = absurd cc
  fewer-as (Some l) None there e = absurd cc
  fewer-as (Some l) (Some a) there e =
      let then : Wanted = (next l.rows now a.wanted).1 in
      let later : Askings = changed_at link (wanting then) askings in
      subst (λ (p : Option LinkAsking). length (all_as now link later (Some l) p).0 < length (all_due l.rows now a.wanted)) (sym (there-then link then a askings there)) (all-fewer not_due l.rows now a.wanted sent e)

pub asks-fewer : NotDueAtOnce → (state : State) (askings : Askings) (link : ℕ) (sent : List ℕ) (then : Askings) → (Some sent, then) ≡ ask state askings link
    → length (asks_all state then link).0 < length (asks_all state askings link).0
asks-fewer not_due state askings link sent then is =
    subst (λ (x : Askings). length (asks_all state x link).0 < length (asks_all state askings link).0) (ap (λ (r : Asked). r.1) (sym is))
    (fewer-as not_due state.now link askings sent (slice_get state.links link) (slice_get askings link) refl (ap (λ (r : Asked). r.0) (sym is)))
