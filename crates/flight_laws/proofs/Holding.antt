-- What the client holds is the history at the points of the notes that came with it.
--     holds_at_last, holds_along, holds_all_sent
use Rattle.std.proofs.Common.{◌≡◌, ℕ, ◌+◌, ◌≤◌, zero, suc, Bool, true, false, cond, not, ◌&&◌, ◌||◌, List, [], ◌∷◌, ◌++◌, map, length, take, ◌⊎◌, inl, inr, Option, Some, None, sym, ◌∙◌, ap, subst, refl, true≢false, arith}
use Rattle.std.specs.Prelude.{IsTrue, IsSome, ◌==◌}
use Rattle.std.specs.List.{list_any, AllByRecursion}
use Rattle.std.proofs.lemmas.List.{append_assoc, map-append}
use Rattle.std.proofs.lemmas.List.Sums.{sum_by-cons}
use Rattle.rrset.proofs.Sets.{both_true}
use Rattle.rrset.specs.Records.{same_question}
use Rattle.rrset.specs.declared.record.Question.{Question}
use Rattle.dsosession.specs.declared.session.Timers.{Timers}
use Rattle.dsotlv.specs.Notices.{applied_all}
use Rattle.pushserver.specs.PlainHubs.{Hub, Subscription, Made, frame_of, size_of_made}
use Rattle.pushserver.specs.ToldMessages.{IsRightAfter, set_after, notices_since, records_noted}
use Rattle.livesessions.proofs.SessionLists.{same-number}
use Rattle.pushserver.proofs.hub_steps.Pairs.{all-weaken}
use Rattle.pushserver.proofs.session_steps.Lists.{each-both}
use Rattle.pushtelling.proofs.Joining.{tells-taken}
use Rattle.pushclient.specs.Clients.{Wish, RequestState, not_asked, unanswered, refused, answered}
use Rattle.inflight.specs.Messages.{Flying, made_of, accepts_id}
use Rattle.inflight.specs.Ends.{is_active_as, told_end, is_told, subscribed_at_last}
use Rattle.inflight.specs.Flight.{TookNotices, is_listed, is_so_along, is_seen, EndsAMessage}
use Rattle.inflight.specs.Holding.{will_hold, HoldsThen}
use Rattle.flight_laws.specs.Holding.{EndsBeforeNext, IsHeldAtLast, HoldsAtLast, HoldsAlong}
use Rattle.flight_laws.proofs.Alike.{noted-alike, applied-alike}

-- ---- one of a list

pub picked : {X : Type 0} (p : X → Bool) (P : X → Type 0) (xs : List X) → list_any p xs ≡ true → AllByRecursion P xs → (x : X) × (p x ≡ true) × P x
picked p P [] any all = absurd (true≢false (sym any))
picked {X} p P (x ∷ xs) any all = by (p x) refl any (λ rest. picked p P xs rest all.1)
  where
    by : (b : Bool) → p x ≡ b → (b || list_any p xs) ≡ true → (list_any p xs ≡ true → (y : X) × (p y ≡ true) × P y) → (y : X) × (p y ≡ true) × P y
    by true is any rest = (x, is, all.0)
    by false is any rest = rest any

each-at : {X : Type 0} (P : X → Type 0) (front : List X) (x : X) (back : List X) → AllByRecursion P (front ++ x ∷ back) → P x
each-at P [] x back all = all.0
each-at P (y ∷ front) x back all = each-at P front x back all.1

-- ---- what a listed subscription leads to

-- it has the ID and the question, and its first answer ends where it was told
record Lists (told : List (ℕ × ℕ)) (id : ℕ) (question : Question) (P : Subscription → Type 0) : Type 0 where
  pub it : Subscription
  pub id_is : id ≡ it.id
  pub same : same_question question it.question ≡ true
  pub ends : (n : ℕ) → told_end told id ≡ Some n → n ≡ it.filled
  pub known : IsSome (told_end told id)
  pub has : P it

listed : (told : List (ℕ × ℕ)) (id : ℕ) (question : Question) (P : Subscription → Type 0) (subscribed : List Subscription) → is_listed told id question subscribed ≡ true → AllByRecursion P subscribed
    → Lists told id question P
listed told id question P subscribed any all =
    let one = picked (λ s. is_active_as id question s && is_told told s) P subscribed any all in
    let s = one.0 in
    let both = both_true (is_active_as id question s) (is_told told s) one.1 in
    let active = both_true (id == s.id) (same_question question s.question) both.0 in
    let same-id = same-number id s.id active.0 in
    record { it = s; id_is = same-id; same = active.1; known = subst (λ i. IsSome (told_end told i)) (sym same-id) (by_end s.filled (told_end told s.id) both.1); ends = λ n is. by n s (told_end told s.id) refl both.1 (ap (told_end told) (sym same-id) ∙ is); has = one.2 }
  where
    by_end : (filled : ℕ) (o : Option ℕ) → elim o as (λ _. Bool) [ None ↦ false | Some k ↦ k == filled ] ≡ true → IsSome o
    by_end filled None found = absurd (true≢false (sym found))
    by_end filled (Some n) found = refl

    by : (n : ℕ) (s : Subscription) (o : Option ℕ) → told_end told s.id ≡ o → elim o as (λ _. Bool) [ None ↦ false | Some k ↦ k == s.filled ] ≡ true → told_end told s.id ≡ Some n → n ≡ s.filled
    by n s None there is found = absurd (true≢false (sym is))
    by n s (Some k) there is found = let same : k ≡ n = cc in sym same ∙ same-number k s.filled is

-- of a listed one it was told where its first answer ends
pub listed-known : (told : List (ℕ × ℕ)) (id : ℕ) (question : Question) (subscribed : List Subscription) → is_listed told id question subscribed ≡ true → IsSome (told_end told id)
listed-known told id question subscribed any = (listed told id question (λ s. Unit {0}) subscribed any (each subscribed)).known
  where
    each : (ss : List Subscription) → AllByRecursion (λ s. Unit {0}) ss
    each [] = tt
    each (s ∷ ss) = (tt, each ss)

-- where it is right after these messages, their notices lead the question to the records at the note
leads : (hub : Hub) (made : List Made) (m : Made) (told : List (ℕ × ℕ)) (id : ℕ) (question : Question) (s : Subscription) → id ≡ s.id → same_question question s.question ≡ true
    → set_after made s ≡ records_noted hub m.note s.question → applied_all (notices_since id made) question [] ≡ records_noted hub m.note question
leads hub made m told id question s id_is same right =
    applied-alike question s.question same (notices_since id made) []
    ∙ ap (λ i. applied_all (notices_since i made) s.question []) id_is
    ∙ right
    ∙ sym (noted-alike question s.question same hub m.note)

-- ---- what is so along messages

-- it is so of what was active at first, where it holds by then
pub so-first : (so : List Subscription → Bool) (id : ℕ) (subscribed : List Subscription) (flying : List Flying) → is_so_along so id true subscribed flying ≡ true → so subscribed ≡ true
so-first so id subscribed [] is = is
so-first so id subscribed (f ∷ fs) is = (both_true (so subscribed) (is_so_along so id true f.subscribed fs) is).0

or-false : (b : Bool) → (b || false) ≡ b
or-false true = refl
or-false false = refl

or-three : (a b c : Bool) → (a || (b || c)) ≡ ((a || b) || c)
or-three true b c = refl
or-three false b c = refl

-- and of what was active when a message was made, where it holds by that message
so-at : (so : List Subscription → Bool) (id : ℕ) (holds : Bool) (subscribed : List Subscription) (front : List Flying) (f : Flying) (back : List Flying) → is_so_along so id holds subscribed (front ++ f ∷ back) ≡ true
    → (holds || list_any (λ g. accepts_id id g.says) (front ++ f ∷ [])) ≡ true → so f.subscribed ≡ true
so-at so id holds subscribed [] f back is by_then =
    let rest = (both_true (not holds || so subscribed) (is_so_along so id (holds || accepts_id id f.says) f.subscribed back) is).1 in
    let now : (holds || accepts_id id f.says) ≡ true = ap (λ b. holds || b) (sym (or-false (accepts_id id f.says))) ∙ by_then in
    so-first so id f.subscribed back (subst (λ b. is_so_along so id b f.subscribed back ≡ true) now rest)
so-at so id holds subscribed (g ∷ front) f back is by_then =
    let rest = (both_true (not holds || so subscribed) (is_so_along so id (holds || accepts_id id g.says) g.subscribed (front ++ f ∷ back)) is).1 in
    so-at so id (holds || accepts_id id g.says) g.subscribed front f back rest (sym (or-three holds (accepts_id id g.says) (list_any (λ (h : Flying). accepts_id id h.says) (front ++ f ∷ []))) ∙ by_then)

-- ---- the last message

record LastOf (made : List Made) : Type 0 where
  pub before : List Made
  pub last : Made
  pub whole : made ≡ before ++ last ∷ []
  pub subscribed : subscribed_at_last made ≡ last.subscribed

last-of : (made : List Made) (so : List Subscription → Bool) → so [] ≡ false → so (subscribed_at_last made) ≡ true → LastOf made
last-of [] so none is = absurd (true≢false (sym is ∙ none))
last-of (m ∷ []) so none is = record { before = []; last = m; whole = refl; subscribed = refl }
last-of (m ∷ n ∷ ms) so none is =
    let rest = last-of (n ∷ ms) so none is in
    record { before = m ∷ rest.before; last = rest.last; whole = ap (λ ms. m ∷ ms) rest.whole; subscribed = rest.subscribed }

-- ---- where messages end

pub size-first : (m : Made) (ms : List Made) → size_of_made (m ∷ ms) ≡ length (frame_of m) + size_of_made ms
size-first m ms = sum_by-cons (λ (x : Made). length (frame_of x)) m ms

abbrev LieWithin : List Made → List Made → ℕ → Type 0
LieWithin taken more k =
    (size_of_made (take k (taken ++ more)) ≤ size_of_made taken)
    ⊎ ((m : Made) × (ms : List Made) × (more ≡ m ∷ ms) × (size_of_made taken + length (frame_of m) ≤ size_of_made (take k (taken ++ more))))

-- so many messages lie within these, or with the next one
ends-where : (taken more : List Made) (k : ℕ) → LieWithin taken more k
ends-where [] more zero = inl (omega arith)
ends-where (t ∷ taken) more zero = inl (omega arith)
ends-where [] [] (suc k) = inl (omega arith)
ends-where [] (m ∷ more) (suc k) =
    let none : size_of_made [] ≡ 0 = refl in
    let with_it : size_of_made (take (suc k) ([] ++ m ∷ more)) ≡ length (frame_of m) + size_of_made (take k more) = size-first m (take k more) in
    inr (m, more, refl, omega (arith, none, with_it))
ends-where (t ∷ taken) more (suc k) = by (ends-where taken more k)
  where
    front : size_of_made (t ∷ taken) ≡ length (frame_of t) + size_of_made taken
    front = size-first t taken

    upto : size_of_made (take (suc k) ((t ∷ taken) ++ more)) ≡ length (frame_of t) + size_of_made (take k (taken ++ more))
    upto = size-first t (take k (taken ++ more))

    by : LieWithin taken more k → LieWithin (t ∷ taken) more (suc k)
    by (inl low) = inl (omega (arith, low, front, upto))
    by (inr (m, ms, is, high)) = inr (m, ms, is, omega (arith, high, front, upto))

-- a first answer that arrived is among the messages taken
arrived : (timers : Timers) (taken : List Made) (flying : List Flying) (made : List Made) (n reached : ℕ) → made ≡ taken ++ map (made_of timers) flying → EndsAMessage made n → n ≤ reached → EndsBeforeNext timers taken flying reached
    → n ≤ size_of_made taken
arrived timers taken flying made n reached made_is (k, ends) low next =
    by flying next (ends-where taken (map (made_of timers) flying) k) (ends ∙ ap (λ ms. size_of_made (take k ms)) made_is)
  where
    by : (flying : List Flying) → EndsBeforeNext timers taken flying reached
        → LieWithin taken (map (made_of timers) flying) k
        → n ≡ size_of_made (take k (taken ++ map (made_of timers) flying)) → n ≤ size_of_made taken
    by flying next (inl within) is = subst (λ x. x ≤ size_of_made taken) (sym is) within
    by [] next (inr (m, ms, none, high)) is = absurd cc
    by (f ∷ fs) next (inr (m, ms, some, high)) is =
        let same : made_of timers f ≡ m = cc in
        let beyond : size_of_made taken + length (frame_of (made_of timers f)) ≤ n = subst (λ x. size_of_made taken + length (frame_of (made_of timers f)) ≤ x) (sym is) (subst (λ x. size_of_made taken + length (frame_of x) ≤ size_of_made (take k (taken ++ map (made_of timers) (f ∷ fs)))) (sym same) high) in
        absurd (omega (arith, beyond, low, next))

-- ---- now

pub holds_at_last : HoldsAtLast
holds_at_last hub session e taken flying reached u ends next =
    each-both (TookNotices taken) (λ w. IsTrue (is_seen e.told taken flying w)) (λ w. (id n : ℕ) → w.standing ≡ answered id → told_end e.told id ≡ Some n → n ≤ reached → IsHeldAtLast hub taken w.question (applied_all w.notices w.question []))
    (λ w took seen. λ id n is told low. of_wish w id n is (subst (λ (s : RequestState). TookNotices taken (record w { standing = s })) is took) (subst (λ (s : RequestState). IsTrue (is_seen e.told taken flying (record w { standing = s }))) is seen) told low)
    e.wishes u.fit.down.notices u.fit.down.seen
  where
    of_wish : (w : Wish) (id n : ℕ) → w.standing ≡ answered id → w.notices ≡ notices_since id taken → is_so_along (is_listed e.told id w.question) id true (subscribed_at_last taken) flying ≡ true
        → told_end e.told id ≡ Some n → n ≤ reached → IsHeldAtLast hub taken w.question (applied_all w.notices w.question [])
    of_wish w id n is took seen told low =
        let now = so-first (is_listed e.told id w.question) id (subscribed_at_last taken) flying seen in
        let l = last-of taken (is_listed e.told id w.question) refl now in
        let flown = map (made_of e.timers) flying in
        let made_is : session.made ≡ (l.before ++ l.last ∷ []) ++ flown = u.made ∙ ap (λ ms. ms ++ flown) l.whole in
        let right : IsRightAfter hub l.before l.last = tells-taken hub session l.before l.last flown u.history made_is in
        let where_ends = each-at (λ (m : Made). AllByRecursion (λ s. EndsAMessage session.made s.filled) m.subscribed) l.before l.last flown
        (subst (AllByRecursion (λ (m : Made). AllByRecursion (λ s. EndsAMessage session.made s.filled) m.subscribed)) (made_is ∙ append_assoc l.before (l.last ∷ []) flown) ends.before) in
        let found = listed e.told id w.question (λ s. (s.filled ≤ size_of_made (l.before ++ l.last ∷ []) → set_after (l.before ++ l.last ∷ []) s ≡ records_noted hub l.last.note s.question) × EndsAMessage session.made s.filled)
        l.last.subscribed (subst (λ ss. is_listed e.told id w.question ss ≡ true) l.subscribed now)
        (each-both (λ (s : Subscription). s.filled ≤ size_of_made (l.before ++ l.last ∷ []) → set_after (l.before ++ l.last ∷ []) s ≡ records_noted hub l.last.note s.question) (λ (s : Subscription). EndsAMessage session.made s.filled)
        (λ s. (s.filled ≤ size_of_made (l.before ++ l.last ∷ []) → set_after (l.before ++ l.last ∷ []) s ≡ records_noted hub l.last.note s.question) × EndsAMessage session.made s.filled)
        (λ s r en. (r, en)) l.last.subscribed right where_ends) in
        let filled_low : found.it.filled ≤ reached = subst (λ x. x ≤ reached) (found.ends n told) low in
        let within : found.it.filled ≤ size_of_made taken = arrived e.timers taken flying session.made found.it.filled reached u.made found.has.1 filled_low next in
        let set = found.has.0 (subst (λ ms. found.it.filled ≤ size_of_made ms) l.whole within) in (
          l.before,
          l.last,
          l.whole,
          ap (λ ns. applied_all ns w.question []) (took ∙ ap (notices_since id) l.whole)
              ∙ leads hub (l.before ++ l.last ∷ []) l.last e.told id w.question found.it found.id_is found.same set,
        )

-- ---- after each message that comes down

pub holds_along : HoldsAlong
holds_along hub session e taken flying front back f u split =
    all-weaken (λ w. IsTrue (is_seen e.told taken flying w))
    (λ w. (id : ℕ) → will_hold (front ++ f ∷ []) w ≡ Some id → HoldsThen e.told (taken ++ map (made_of e.timers) (front ++ f ∷ [])) id w.question (records_noted hub f.note w.question))
    (λ w seen. λ id will. by w id w.standing will (subst (λ fs. is_seen e.told taken fs w ≡ true) split seen)) e.wishes u.fit.down.seen
  where
    upto : List Made
    upto = taken ++ map (made_of e.timers) (front ++ f ∷ [])

    upto_is : upto ≡ (taken ++ map (made_of e.timers) front) ++ made_of e.timers f ∷ []
    upto_is = ap (λ ms. taken ++ ms) (map-append (made_of e.timers) front (f ∷ [])) ∙ sym (append_assoc taken (map (made_of e.timers) front) (made_of e.timers f ∷ []))

    made_is : session.made ≡ ((taken ++ map (made_of e.timers) front) ++ made_of e.timers f ∷ []) ++ map (made_of e.timers) back
    made_is =
        u.made ∙ ap (λ fs. taken ++ map (made_of e.timers) fs) split ∙ ap (λ ms. taken ++ ms) (map-append (made_of e.timers) front (f ∷ back))
        ∙ sym (append_assoc taken (map (made_of e.timers) front) (made_of e.timers f ∷ map (made_of e.timers) back))
        ∙ sym (append_assoc (taken ++ map (made_of e.timers) front) (made_of e.timers f ∷ []) (map (made_of e.timers) back))

    right : IsRightAfter hub (taken ++ map (made_of e.timers) front) (made_of e.timers f)
    right = tells-taken hub session (taken ++ map (made_of e.timers) front) (made_of e.timers f) (map (made_of e.timers) back) u.history made_is

    -- it is listed when the message was made
    so_then : (id : ℕ) (question : Question) → is_listed e.told id question f.subscribed ≡ true → HoldsThen e.told (taken ++ map (made_of e.timers) (front ++ f ∷ [])) id question (records_noted hub f.note question)
    so_then id question now n told low =
        let before = taken ++ map (made_of e.timers) front in
        let m = made_of e.timers f in
        let found = listed e.told id question (λ s. s.filled ≤ size_of_made (before ++ m ∷ []) → set_after (before ++ m ∷ []) s ≡ records_noted hub m.note s.question) f.subscribed now right in
        let within : found.it.filled ≤ size_of_made (before ++ m ∷ []) = subst (λ x. x ≤ size_of_made (before ++ m ∷ [])) (found.ends n told) (subst (λ ms. n ≤ size_of_made ms) upto_is low) in
        ap (λ ms. applied_all (notices_since id ms) question []) upto_is ∙ leads hub (before ++ m ∷ []) m e.told id question found.it found.id_is found.same (found.has within)

    by : (w : Wish) (id : ℕ) (s : RequestState) → will_hold (front ++ f ∷ []) (record w { standing = s }) ≡ Some id → is_seen e.told taken (front ++ f ∷ back) (record w { standing = s }) ≡ true
        → HoldsThen e.told (taken ++ map (made_of e.timers) (front ++ f ∷ [])) id w.question (records_noted hub f.note w.question)
    by w id (answered other) will seen =
        let same : other ≡ id = cc in
        subst (λ i. HoldsThen e.told (taken ++ map (made_of e.timers) (front ++ f ∷ [])) i w.question (records_noted hub f.note w.question)) same
        (so_then other w.question (so-at (is_listed e.told other w.question) other true (subscribed_at_last taken) front f back seen refl))
    by w id (unanswered other) will seen = by_answer (list_any (λ g. accepts_id other g.says) (front ++ f ∷ [])) refl will
      where
        by_answer : (b : Bool) → list_any (λ g. accepts_id other g.says) (front ++ f ∷ []) ≡ b → cond b (Some other) None ≡ Some id
            → HoldsThen e.told (taken ++ map (made_of e.timers) (front ++ f ∷ [])) id w.question (records_noted hub f.note w.question)
        by_answer false is will = absurd cc
        by_answer true is will =
            let same : other ≡ id = cc in
            subst (λ i. HoldsThen e.told (taken ++ map (made_of e.timers) (front ++ f ∷ [])) i w.question (records_noted hub f.note w.question)) same
            (so_then other w.question (so-at (is_listed e.told other w.question) other false (subscribed_at_last taken) front f back seen is))
    by w id not_asked will seen = absurd cc
    by w id (refused rcode) will seen = absurd cc
