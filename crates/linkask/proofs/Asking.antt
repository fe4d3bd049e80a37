-- The first question that is due is asked, over what is kept.
--     written      a list that takes the place of one as long
--     Later, later_of      what changed bounds alone
--     none_next, one_next      what is asked next
use Rattle.std.proofs.Common.{◌≡◌, ℕ, zero, suc, ◌<◌, cond, ◌&&◌, T, List, [], ◌∷◌, ◌++◌, length, take, drop, get_or, map, Some, None, Result, Ok, Err, refl, sym, ◌∙◌, ap, subst, arith}
use Rattle.std.specs.Prelude.{IsTrue, OnErr, filter}
use Rattle.std.specs.Ordering.{is_lt}
use Rattle.std.specs.declared.cmp.Ordering.TheVariants.{Less}
use Rattle.std.specs.FinMap.Entries.{below_all, is_sorted}
use Rattle.push_base.specs.Cases.{changed_at}
use Rattle.rrset.specs.KeyedRows.{rows_of}
use Rattle.rrset.specs.declared.record.Question.{Question}
use Rattle.rrset.proofs.Places.{below_at}
use Rattle.dnswire.specs.Writing.{query_octets}
use Rattle.linkcache.specs.Rows.{LinkRows}
use Rattle.linkask.specs.Asking.{Asks, Wanted, asked, asked_cmp, asked_now, datagram, first_due, is_known, known_rr, next, same_asked}
use Rattle.linkask.specs.Bounds.{Kept, IsFirstDue, IsLeast, all_reasons, are_kept, asked_at, asks_in, unbounded, wanted_in}
use Rattle.linkask.specs.declared.asks.KeptAsks.{KeptAsks}
use Rattle.linkask.proofs.Asked.{asked-front, next-is, next_as}
use Rattle.linkask.proofs.FirstDue.{asked_rows, named-rows, length-wanted, same-wanted}
use Rattle.linkask.proofs.Order.{and-first, and-second, other-greater}

-- ---- lists

pub written : (old new : Kept) (n : ℕ) → n ≡ length old → length new ≡ length old → take n (new ++ drop (length new) old) ≡ new
written old new n n-is long = ap (λ m. take m (new ++ drop (length new) old)) n-is ∙ over old new long
  where
    over : (old new : Kept) → length new ≡ length old → take (length old) (new ++ drop (length new) old) ≡ new
    over [] [] long = refl
    over [] (x ∷ xs) long = absurd (omega (arith, long))
    over (o ∷ os) [] long = absurd (omega (arith, long))
    over (o ∷ os) (x ∷ xs) long = ap (λ l. x ∷ l) (over os xs (omega (arith, long)))

length-unbounded : (kept : Kept) → length (unbounded kept) ≡ length kept
length-unbounded [] = refl
length-unbounded (e ∷ es) = ap suc (length-unbounded es)

pub same-long : (old new : Kept) → unbounded new ≡ unbounded old → length new ≡ length old
same-long old new same = sym (length-unbounded new) ∙ ap length same ∙ length-unbounded old

length-asked : (place now : ℕ) (kept : Kept) → length (asked_at place now kept) ≡ length kept
length-asked place now [] = refl
length-asked zero now (e ∷ es) = refl
length-asked (suc place) now (e ∷ es) = ap suc (length-asked place now es)

pub asked-long : (place now : ℕ) (old new : Kept) → unbounded new ≡ unbounded (asked_at place now old) → length new ≡ length old
asked-long place now old new same = same-long (asked_at place now old) new same ∙ length-asked place now old

-- ---- reasons

reasons-unbounded : (kept : Kept) → all_reasons (unbounded kept) ≡ all_reasons kept
reasons-unbounded [] = refl
reasons-unbounded (e ∷ es) = ap (λ l. (e.0, e.1.reasons) ∷ l) (reasons-unbounded es)

same-reasons : (old new : Kept) → unbounded new ≡ unbounded old → all_reasons new ≡ all_reasons old
same-reasons old new same = sym (reasons-unbounded new) ∙ ap all_reasons same ∙ reasons-unbounded old

reasons-asked : (place now : ℕ) (kept : Kept) → all_reasons (asked_at place now kept) ≡ all_reasons kept
reasons-asked place now [] = refl
reasons-asked zero now (e ∷ es) = refl
reasons-asked (suc place) now (e ∷ es) = ap (λ l. (e.0, e.1.reasons) ∷ l) (reasons-asked place now es)

-- ---- order

below-unbounded : (x : Question) (kept : Kept) → below_all asked_cmp x (unbounded kept) ≡ below_all asked_cmp x kept
below-unbounded x [] = refl
below-unbounded x (e ∷ es) = ap (λ b. is_lt (asked_cmp x e.0) && b) (below-unbounded x es)

sorted-unbounded : (kept : Kept) → is_sorted asked_cmp (unbounded kept) ≡ is_sorted asked_cmp kept
sorted-unbounded [] = refl
sorted-unbounded (e ∷ es) = λ i. below-unbounded e.0 es i && sorted-unbounded es i

pub same-sorted : (old new : Kept) → unbounded new ≡ unbounded old → IsTrue (are_kept old) → IsTrue (are_kept new)
same-sorted old new same sorted = sym (sorted-unbounded new) ∙ ap (is_sorted asked_cmp) same ∙ sorted-unbounded old ∙ sorted

below-asked : (x : Question) (place now : ℕ) (kept : Kept) → below_all asked_cmp x (asked_at place now kept) ≡ below_all asked_cmp x kept
below-asked x place now [] = refl
below-asked x zero now (e ∷ es) = refl
below-asked x (suc place) now (e ∷ es) = ap (λ b. is_lt (asked_cmp x e.0) && b) (below-asked x place now es)

sorted-asked : (place now : ℕ) (kept : Kept) → is_sorted asked_cmp (asked_at place now kept) ≡ is_sorted asked_cmp kept
sorted-asked place now [] = refl
sorted-asked zero now (e ∷ es) = refl
sorted-asked (suc place) now (e ∷ es) = λ i. below-asked e.0 place now es i && sorted-asked place now es i

pub asked-sorted : (place now : ℕ) (old new : Kept) → unbounded new ≡ unbounded (asked_at place now old) → IsTrue (are_kept old) → IsTrue (are_kept new)
asked-sorted place now old new same sorted = same-sorted (asked_at place now old) new same (sorted-asked place now old ∙ sorted)

below-wanted : (x : Question) (kept : Kept) → below_all asked_cmp x (wanted_in kept) ≡ below_all asked_cmp x kept
below-wanted x [] = refl
below-wanted x (e ∷ es) = ap (λ b. is_lt (asked_cmp x e.0) && b) (below-wanted x es)

sorted-wanted : (kept : Kept) → is_sorted asked_cmp (wanted_in kept) ≡ is_sorted asked_cmp kept
sorted-wanted [] = refl
sorted-wanted (e ∷ es) = λ i. below-wanted e.0 es i && sorted-wanted es i

-- ---- the question at a place is asked

true_lt : (a b : Question) → asked_cmp a b ≡ Less → T (is_lt (asked_cmp a b))
true_lt a b e = subst T (sym (ap is_lt e)) tt

module _ (now : ℕ) where
  abbrev asks_one : Question × Asks → Question × Asks
  asks_one f = (f.0, asked_now now f.1)

  asked-there : (rows : LinkRows) (all : Wanted) → T (is_sorted asked_cmp all) → (place : ℕ) (d : Question × Asks) → place < length all
      → asked (λ f. same_asked (get_or all place d).0 f.0) now all ≡ changed_at place asks_one all
  asked-there rows [] sorted place d within = absurd (omega arith)
  asked-there rows (e ∷ es) sorted zero d within = asked-front rows now e es (and-first _ _ sorted)
  asked-there rows (e ∷ es) sorted (suc place) d within =
      let h : place < length es = omega arith in
      ap (λ b. cond b (e.0, asked_now now e.1) e ∷ asked (λ f. same_asked (get_or es place d).0 f.0) now es) (other-greater e.0 (get_or es place d).0 (true_lt e.0 (get_or es place d).0 (below_at asked_cmp e.0 es (and-first _ _ sorted) place d h)))
      ∙ ap (λ l. e ∷ l) (asked-there rows es (and-second _ _ sorted) place d h)

  wanted-asked : (place : ℕ) (kept : Kept) → wanted_in (asked_at place now kept) ≡ changed_at place asks_one (wanted_in kept)
  wanted-asked place [] = refl
  wanted-asked zero (e ∷ es) = refl
  wanted-asked (suc place) (e ∷ es) = ap (λ l. (e.0, asks_in e.1) ∷ l) (wanted-asked place es)

  at-wanted : (kept : Kept) (place : ℕ) (x : Question × KeptAsks) → place < length kept → get_or (wanted_in kept) place (x.0, asks_in x.1) ≡ ((get_or kept place x).0, asks_in (get_or kept place x).1)
  at-wanted [] place x within = absurd (omega arith)
  at-wanted (e ∷ es) zero x within = refl
  at-wanted (e ∷ es) (suc place) x within = at-wanted es place x (omega arith)

  module _ (rows : LinkRows) where
    pub none_next : (old later : Kept) → first_due rows now (wanted_in old) ≡ None → unbounded later ≡ unbounded old → next rows now (wanted_in old) ≡ (None, wanted_in later)
    none_next old later none same = next-is rows now (wanted_in old) ∙ ap (next_as rows now (wanted_in old)) none ∙ ap (λ (l : Wanted). (None, l)) (sym (same-wanted rows now old later same))

    sent : (question : Question) (at : LinkRows) (octets : List ℕ) → at ≡ rows_of question.name rows
        → octets ≡ query_octets question (map (known_rr now) (filter (is_known now) (asked_rows question at))) → octets ≡ datagram rows now question
    sent question at octets at-is is =
        is ∙ ap (λ (l : LinkRows). query_octets question (map (known_rr now) (filter (is_known now) l))) (ap (asked_rows question) at-is ∙ named-rows question rows)

    pub one_next : (old found later : Kept) (place : ℕ) (e : Question × KeptAsks) (at : LinkRows) (octets : List ℕ) → IsTrue (are_kept old)
        → unbounded found ≡ unbounded old → e ≡ get_or found place e → IsFirstDue rows now (wanted_in old) (Some place)
        → at ≡ rows_of e.0.name rows → octets ≡ query_octets e.0 (map (known_rr now) (filter (is_known now) (asked_rows e.0 at)))
        → unbounded later ≡ unbounded (asked_at place now found) → next rows now (wanted_in old) ≡ (Some octets, wanted_in later)
    one_next old found later place e at octets sorted same e-is first at-is is later-is =
        let all = wanted_in old in
        let d : Question × Asks = (e.0, asks_in e.1) in
        let within : place < length found = subst (λ n. place < n) (ap length (sym (same-wanted rows now old found same)) ∙ length-wanted rows now found) first.0 in
        let there : get_or all place d ≡ d = ap (λ (l : Wanted). get_or l place d) (sym (same-wanted rows now old found same)) ∙ at-wanted found place e within ∙ ap (λ (x : Question × KeptAsks). (x.0, asks_in x.1)) (sym e-is) in
        let rising : T (is_sorted asked_cmp all) = subst T (sym (sorted-wanted old ∙ sorted)) tt in
        let asked-is : asked (λ f. same_asked e.0 f.0) now all ≡ wanted_in later =
        ap (λ (x : Question × Asks). asked (λ f. same_asked x.0 f.0) now all) (sym there)
        ∙ asked-there rows all rising place d first.0
        ∙ ap (changed_at place asks_one) (sym (same-wanted rows now old found same))
        ∙ sym (wanted-asked place found)
        ∙ sym (same-wanted rows now (asked_at place now found) later later-is) in
        next-is rows now all
        ∙ ap (next_as rows now all) (first.1 d ∙ ap Some there)
        ∙ (λ i. (Some (sym (sent e.0 at octets at-is is) i), asked-is i))

pub on_err : {X E : Type 0} {P : Type 0} (r : Result X E) → P → OnErr r P
on_err (Ok x) p = tt
on_err (Err e) p = p

-- ---- what was searched, and what was asked, in place of what was there

pub least-zero : (kept : Kept) → IsLeast 0 kept
least-zero [] = tt
least-zero (e ∷ es) = (omega arith, least-zero es)

pub record Searched (old found : Kept) : Type 0 where
  pub same : unbounded found ≡ unbounded old
  pub sorted : IsTrue (are_kept found)
  pub reasons : all_reasons found ≡ all_reasons old
  pub long : length found ≡ length old

pub searched : (old start found : Kept) (n : ℕ) → start ≡ old → n ≡ length start → unbounded found ≡ unbounded start → IsTrue (are_kept old)
    → Searched old (take n (found ++ drop (length found) old))
searched old start found n start-is n-is same sorted =
    let as_was : unbounded found ≡ unbounded old = same ∙ ap unbounded start-is in
    subst (Searched old) (sym (written old found n (n-is ∙ ap length start-is) (same-long old found as_was)))
    (record { same = as_was; sorted = same-sorted old found as_was sorted; reasons = same-reasons old found as_was; long = same-long old found as_was })

pub record AskedAt (now place : ℕ) (old later : Kept) : Type 0 where
  pub same : unbounded later ≡ unbounded (asked_at place now old)
  pub sorted : IsTrue (are_kept later)
  pub reasons : all_reasons later ≡ all_reasons old

pub asked_there : (now place : ℕ) (old start later : Kept) (n : ℕ) → start ≡ old → n ≡ length old → unbounded later ≡ unbounded (asked_at place now start) → IsTrue (are_kept old)
    → AskedAt now place old (take n (later ++ drop (length later) old))
asked_there now place old start later n start-is n-is same sorted =
    let as_was : unbounded later ≡ unbounded (asked_at place now old) = same ∙ ap (λ (k : Kept). unbounded (asked_at place now k)) start-is in
    subst (AskedAt now place old) (sym (written old later n n-is (asked-long place now old later as_was)))
    (record { same = as_was; sorted = asked-sorted place now old later as_was sorted; reasons = same-reasons (asked_at place now old) later as_was ∙ reasons-asked place now old })
