-- Bounds stay bounds.
--     Admits e row      the bound is no later than the moments at which the row is asked for anew
--     ending_keeps, reconfirming_keeps, hearing_keeps
use Rattle.std.proofs.Common.{◌≡◌, ℕ, ◌+◌, ◌*◌, ◌≤◌, Bool, true, false, cond, not, ◌&&◌, ◌||◌, List, [], ◌∷◌, ◌++◌, map, refl, sym, ◌∙◌, ap, arith}
use Rattle.std.specs.Prelude.{min, filter, fold, flat_map, nat_lt, ◌==◌}
use Rattle.std.specs.List.{AllByRecursion}
use Rattle.std.specs.Str.{bytes_eq}
use Rattle.std.specs.FinMap.Entries.{by_order, put}
use Rattle.std.specs.declared.cmp.Ordering.{Ordering}
use Rattle.std.specs.declared.cmp.Ordering.TheVariants.{Less, Equal, Greater}
use Rattle.dnsname.specs.Names.{Labels, lower, octets, same_name}
use Rattle.rrset.specs.Kinds.{any_kind, any_class}
use Rattle.rrset.specs.Records.{key_cmp, key_of, matches, same_key}
use Rattle.rrset.specs.declared.record.Key.{Key}
use Rattle.rrset.specs.declared.record.Question.{Question}
use Rattle.rrset.specs.declared.record.HeardRr.{HeardRr}
use Rattle.rrset.proofs.LowerNames.{lower-twice}
use Rattle.rrset.proofs.Places.{all_filter}
use Rattle.rrset.proofs.Sets.{alike}
use Rattle.linkcache.specs.Rows.{LinkRows, at_moment, ending_by, flushed_by, has_key, heard_at, heard_beside, is_of_set, put_heard, reconfirmation, reconfirmed, row_has_room, second, ttl_of, usable_of}
use Rattle.linkcache.specs.declared.row.HeardRow.{HeardRow}
use Rattle.reversemap.specs.BothKinds.{is_used}
use Rattle.linkask.specs.Asking.{pause_after, refreshes, rows_for}
use Rattle.linkask.specs.Bounds.{Kept, AreBounds, IsBound, all_heard, first_refresh, heard_again, is_asked_for, lowered_due}
use Rattle.linkask.specs.Laws.{EndingKeepsBounds, HearingKeepsBounds, ReconfirmingKeepsBounds}
use Rattle.linkask.specs.declared.asks.KeptAsks.{KeptAsks}
use Rattle.linkcache.specs.declared.rules.LinkRules.{LinkRules}

-- ---- lists

all-both : {X : Type 0} (P Q R : X → Type 0) → ((x : X) → P x → Q x → R x) → (xs : List X) → AllByRecursion P xs → AllByRecursion Q xs → AllByRecursion R xs
all-both P Q R f [] p q = tt
all-both P Q R f (x ∷ xs) p q = (f x p.0 q.0, all-both P Q R f xs p.1 q.1)

all-map : {X : Type 0} (P Q : X → Type 0) (f : X → X) → ((x : X) → P x → Q (f x)) → (xs : List X) → AllByRecursion P xs → AllByRecursion Q (map f xs)
all-map P Q f h [] p = tt
all-map P Q f h (x ∷ xs) p = (h x p.0, all-map P Q f h xs p.1)

all-front : {X : Type 0} (P : X → Type 0) (xs ys : List X) → AllByRecursion P (xs ++ ys) → AllByRecursion P xs
all-front P [] ys h = tt
all-front P (x ∷ xs) ys h = (h.0, all-front P xs ys h.1)

all-back : {X : Type 0} (P : X → Type 0) (xs ys : List X) → AllByRecursion P (xs ++ ys) → AllByRecursion P ys
all-back P [] ys h = h
all-back P (x ∷ xs) ys h = all-back P xs ys h.1

all-append : {X : Type 0} (P : X → Type 0) (xs ys : List X) → AllByRecursion P xs → AllByRecursion P ys → AllByRecursion P (xs ++ ys)
all-append P [] ys p q = q
all-append P (x ∷ xs) ys p q = (p.0, all-append P xs ys p.1 q)

-- ---- the least of some moments

lesser : (due a b : ℕ) → due ≤ min a b → (due ≤ a) × (due ≤ b)
lesser due a b h = (omega (arith, h), omega (arith, h))

least-all : (due p : ℕ) (xs : List ℕ) → due ≤ fold min p xs → (due ≤ p) × AllByRecursion (λ m. due ≤ m) xs
least-all due p [] h = (h, tt)
least-all due p (x ∷ xs) h =
    let rest = least-all due (min p x) xs h in
    let both = lesser due p x rest.0 in
    (both.0, (both.1, rest.1))

all-least : (due p : ℕ) (xs : List ℕ) → due ≤ p → AllByRecursion (λ m. due ≤ m) xs → due ≤ fold min p xs
all-least due p [] h all = h
all-least due p (x ∷ xs) h all = all-least due (min p x) xs (omega (arith, h, all.0)) all.1

-- those behind the last ask
behind-all : (due last : ℕ) (xs : List ℕ) → AllByRecursion (λ m. due ≤ m) (filter (nat_lt last) xs) → AllByRecursion (λ m. nat_lt last m ≡ true → due ≤ m) xs
behind-all due last [] h = tt
behind-all due last (x ∷ xs) h = by (nat_lt last x) refl (behind-all due last xs) h
  where
    by : (b : Bool) → nat_lt last x ≡ b → (AllByRecursion (λ m. due ≤ m) (filter (nat_lt last) xs) → AllByRecursion (λ m. nat_lt last m ≡ true → due ≤ m) xs)
        → AllByRecursion (λ m. due ≤ m) (cond b (x ∷ filter (nat_lt last) xs) (filter (nat_lt last) xs)) → AllByRecursion (λ m. nat_lt last m ≡ true → due ≤ m) (x ∷ xs)
    by true is rest h = ((λ e. h.0), rest h.1)
    by false is rest h = ((λ e. absurd (let no : true ≡ false = sym e ∙ is in cc)), rest h)

all-behind : (due last : ℕ) (xs : List ℕ) → AllByRecursion (λ m. nat_lt last m ≡ true → due ≤ m) xs → AllByRecursion (λ m. due ≤ m) (filter (nat_lt last) xs)
all-behind due last [] h = tt
all-behind due last (x ∷ xs) h = by (nat_lt last x) refl (all-behind due last xs h.1)
  where
    by : (b : Bool) → nat_lt last x ≡ b → AllByRecursion (λ m. due ≤ m) (filter (nat_lt last) xs) → AllByRecursion (λ m. due ≤ m) (cond b (x ∷ filter (nat_lt last) xs) (filter (nat_lt last) xs))
    by true is rest = (h.0 is, rest)
    by false is rest = rest

-- ---- rows

abbrev Later : KeptAsks → ℕ → Type 0
Later asks m = nat_lt asks.last m ≡ true → asks.due ≤ m

abbrev pub Admits : Question × KeptAsks → Key × HeardRow → Type 0
Admits e row = matches e.0 row.0 ≡ true → AllByRecursion (Later e.1) (refreshes row.1)

rows-admit : (e : Question × KeptAsks) (rows : LinkRows) → AllByRecursion (Later e.1) (flat_map (λ (row : Key × HeardRow). refreshes row.1) (rows_for e.0 rows)) → AllByRecursion (Admits e) rows
rows-admit e [] h = tt
rows-admit e (r ∷ rs) h = by (matches e.0 r.0) refl (rows-admit e rs) h
  where
    by : (b : Bool) → matches e.0 r.0 ≡ b → (AllByRecursion (Later e.1) (flat_map (λ (row : Key × HeardRow). refreshes row.1) (rows_for e.0 rs)) → AllByRecursion (Admits e) rs)
        → AllByRecursion (Later e.1) (flat_map (λ (row : Key × HeardRow). refreshes row.1) (cond b (r ∷ rows_for e.0 rs) (rows_for e.0 rs))) → AllByRecursion (Admits e) (r ∷ rs)
    by true is rest h =
        ((λ e. all-front _ (refreshes r.1) (flat_map (λ (row : Key × HeardRow). refreshes row.1) (rows_for _ rs)) h), rest (all-back _ (refreshes r.1) (flat_map (λ (row : Key × HeardRow). refreshes row.1) (rows_for _ rs)) h))
    by false is rest h = ((λ e. absurd (let no : true ≡ false = sym e ∙ is in cc)), rest h)

admit-rows : (e : Question × KeptAsks) (rows : LinkRows) → AllByRecursion (Admits e) rows → AllByRecursion (Later e.1) (flat_map (λ (row : Key × HeardRow). refreshes row.1) (rows_for e.0 rows))
admit-rows e [] h = tt
admit-rows e (r ∷ rs) h = by (matches e.0 r.0) refl (admit-rows e rs h.1)
  where
    by : (b : Bool) → matches e.0 r.0 ≡ b → AllByRecursion (Later e.1) (flat_map (λ (row : Key × HeardRow). refreshes row.1) (rows_for e.0 rs))
        → AllByRecursion (Later e.1) (flat_map (λ (row : Key × HeardRow). refreshes row.1) (cond b (r ∷ rows_for e.0 rs) (rows_for e.0 rs)))
    by true is rest = all-append (Later e.1) (refreshes r.1) (flat_map (λ (row : Key × HeardRow). refreshes row.1) (rows_for e.0 rs)) (h.0 is) rest
    by false is rest = rest

-- what a bound says
abbrev BoundBy : Bool → LinkRows → Question × KeptAsks → Type 0
BoundBy b rows e = e.1.due ≤ cond b 0 (fold min (e.1.last + pause_after e.1.count) (filter (nat_lt e.1.last) (flat_map (λ (row : Key × HeardRow). refreshes row.1) (rows_for e.0 rows))))

-- a bound, where rows change so that what it admits stays so, and it isn't raised
changes-by : (b : Bool) (rows later : LinkRows) (e : Question × KeptAsks) (due : ℕ) → due ≤ e.1.due
    → (AllByRecursion (Admits e) rows → AllByRecursion (Admits (e.0, record e.1 { due = due })) later) → BoundBy b rows e → BoundBy b later (e.0, record e.1 { due = due })
changes-by true rows later e due lower keeps h = omega (arith, lower, h)
changes-by false rows later e due lower keeps h =
    let now = least-all e.1.due (e.1.last + pause_after e.1.count) (filter (nat_lt e.1.last) (flat_map (λ (row : Key × HeardRow). refreshes row.1) (rows_for e.0 rows))) h in
    let admits = rows-admit e rows (behind-all e.1.due e.1.last (flat_map (λ (row : Key × HeardRow). refreshes row.1) (rows_for e.0 rows)) now.1) in
    all-least due (e.1.last + pause_after e.1.count) (filter (nat_lt e.1.last) (flat_map (λ (row : Key × HeardRow). refreshes row.1) (rows_for e.0 later))) (omega (arith, lower, now.0))
    (all-behind due e.1.last (flat_map (λ (row : Key × HeardRow). refreshes row.1) (rows_for e.0 later)) (admit-rows (e.0, record e.1 { due = due }) later (keeps admits)))

changes : (rows later : LinkRows) (e : Question × KeptAsks) (due : ℕ) → due ≤ e.1.due
    → (AllByRecursion (Admits e) rows → AllByRecursion (Admits (e.0, record e.1 { due = due })) later) → IsBound rows e → IsBound later (e.0, record e.1 { due = due })
changes rows later e due lower keeps h = changes-by (e.1.count == 0) rows later e due lower keeps h

same-due : (rows later : LinkRows) (kept : Kept) → ((e : Question × KeptAsks) → AllByRecursion (Admits e) rows → AllByRecursion (Admits e) later) → AreBounds rows kept → AreBounds later kept
same-due rows later [] keeps h = tt
same-due rows later (e ∷ es) keeps h = (changes rows later e e.1.due (omega arith) (keeps e) h.0, same-due rows later es keeps h.1)

-- ---- rows that end

ends-admit : (e : Question × KeptAsks) (test : Key × HeardRow → Bool) (moment : ℕ) (rows : LinkRows) → AllByRecursion (Admits e) rows → AllByRecursion (Admits e) (map (λ row. cond (test row) (ending_by moment row) row) rows)
ends-admit e test moment rows h = all-map (Admits e) (Admits e) (λ row. cond (test row) (ending_by moment row) row) (λ row. by row (test row)) rows h
  where
    by : (row : Key × HeardRow) (b : Bool) → Admits e row → Admits e (cond b (ending_by moment row) row)
    by row true h = h
    by row false h = h

pub ending_keeps : EndingKeepsBounds
ending_keeps rows now kept h = same-due rows (at_moment rows now) kept (λ e. all_filter (Admits e) (λ (row : Key × HeardRow). nat_lt now row.1.ends) rows) h

pub reconfirming_keeps : ReconfirmingKeepsBounds
reconfirming_keeps rows key now kept h = same-due rows (reconfirmed rows key now) kept (λ e. ends-admit e (λ row. same_key key row.0) (now + reconfirmation) rows) h

-- ---- what is heard

flushes-admit : (e : Question × KeptAsks) (now : ℕ) (hs : List HeardRr) (rows : LinkRows) → AllByRecursion (Admits e) rows → AllByRecursion (Admits e) (fold (flushed_by now) rows hs)
flushes-admit e now [] rows h = h
flushes-admit e now (g ∷ gs) rows h = flushes-admit e now gs (flushed_by now rows g) (ends-admit e (λ row. is_of_set g.rr row && nat_lt (row.1.heard + second) now) (now + second) rows h)

-- a record that the question asks for isn't asked for anew before the bound
abbrev pub Low : ℕ → HeardRr → Question × KeptAsks → Type 0
Low now h e = (ttl_of h == 0) ≡ false → is_asked_for e.0 h ≡ true → e.1.due ≤ first_refresh now h

-- the question asks for the record's key
abbrev by_tests : Bool → Bool → Bool → Bool
by_tests name kind class = (name && kind) && class

first-two : (name kind class : Bool) → by_tests name kind class ≡ true → (name && kind) ≡ true
first-two true true class e = refl
first-two true false class e = absurd cc
first-two false kind class e = absurd cc

asked-for : (question : Question) (h : HeardRr) → matches question (key_of h.rr) ≡ true → is_asked_for question h ≡ true
asked-for question h e =
    first-two (same_name question.name h.rr.owner) (question.kind == h.rr.kind || question.kind == any_kind) (question.class == h.rr.class || question.class == any_class)
    (ap (λ (low : Labels). by_tests (bytes_eq (octets (lower question.name)) (octets low)) (question.kind == h.rr.kind || question.kind == any_kind) (question.class == h.rr.class || question.class == any_class)) (sym (lower-twice h.rr.owner)) ∙ e)

at-80 : (due now ttl : ℕ) → due ≤ now + 800 * ttl → due ≤ now + 10 * ttl * 80
at-80 due now ttl h = omega (arith, h)

at-85 : (due now ttl : ℕ) → due ≤ now + 800 * ttl → due ≤ now + 10 * ttl * 85
at-85 due now ttl h = omega (arith, h)

at-90 : (due now ttl : ℕ) → due ≤ now + 800 * ttl → due ≤ now + 10 * ttl * 90
at-90 due now ttl h = omega (arith, h)

at-95 : (due now ttl : ℕ) → due ≤ now + 800 * ttl → due ≤ now + 10 * ttl * 95
at-95 due now ttl h = omega (arith, h)

heard-admits : (e : Question × KeptAsks) (now : ℕ) (h : HeardRr) (key : Key) → (ttl_of h == 0) ≡ false → Low now h e → matches e.0 key ≡ matches e.0 (key_of h.rr) → Admits e (key, heard_at now h)
heard-admits e now h key some low same m =
    let due : e.1.due ≤ now + 800 * ttl_of h = low some (asked-for e.0 h (sym same ∙ m)) in
    ((λ l. at-80 e.1.due now (ttl_of h) due), ((λ l. at-85 e.1.due now (ttl_of h) due), ((λ l. at-90 e.1.due now (ttl_of h) due), ((λ l. at-95 e.1.due now (ttl_of h) due), tt))))

put-admits : (e : Question × KeptAsks) (now : ℕ) (h : HeardRr) (rows : LinkRows) → (ttl_of h == 0) ≡ false → Low now h e → AllByRecursion (Admits e) rows → AllByRecursion (Admits e) (put key_cmp (key_of h.rr) (heard_at now h) rows)
put-admits e now h [] some low all = (heard-admits e now h (key_of h.rr) some low refl, tt)
put-admits e now h (r ∷ rs) some low all = by (key_cmp (key_of h.rr) r.0) refl (put-admits e now h rs some low all.1)
  where
    by : (o : Ordering) → key_cmp (key_of h.rr) r.0 ≡ o → AllByRecursion (Admits e) (put key_cmp (key_of h.rr) (heard_at now h) rs)
        → AllByRecursion (Admits e) (by_order o ((key_of h.rr, heard_at now h) ∷ r ∷ rs) ((r.0, heard_at now h) ∷ rs) (r ∷ put key_cmp (key_of h.rr) (heard_at now h) rs))
    by Less is rest = (heard-admits e now h (key_of h.rr) some low refl, all)
    by Equal is rest = (heard-admits e now h r.0 some low (alike (matches e.0) (key_of h.rr) r.0 is), all.1)
    by Greater is rest = (all.0, rest)

puts-admit : (e : Question × KeptAsks) (rules : LinkRules) (now others : ℕ) (hs : List HeardRr) (rows : LinkRows) → AllByRecursion (λ h. Low now h e) hs → AllByRecursion (Admits e) rows
    → AllByRecursion (Admits e) (fold (put_heard rules now others) rows hs)
puts-admit e rules now others [] rows low all = all
puts-admit e rules now others (h ∷ hs) rows low all = puts-admit e rules now others hs (put_heard rules now others rows h) low.1 (by (ttl_of h == 0) refl (has_key (key_of h.rr) rows || row_has_room rules others rows h.rr))
  where
    by : (gone : Bool) → (ttl_of h == 0) ≡ gone → (room : Bool)
        → AllByRecursion (Admits e) (cond gone (map (λ row. cond (same_key (key_of h.rr) row.0) (ending_by (now + second) row) row) rows) (cond room (put key_cmp (key_of h.rr) (heard_at now h) rows) rows))
    by true is room = ends-admit e (λ row. same_key (key_of h.rr) row.0) (now + second) rows all
    by false is true = put-admits e now h rows is low.0 all
    by false is false = all

-- ---- bounds are lowered

low-here : (now : ℕ) (h : HeardRr) (e : Question × KeptAsks) → Low now h (e.0, record e.1 { due = lowered_due e.0 e.1.due h (first_refresh now h) })
low-here now h e = by (is_asked_for e.0 h) refl (ttl_of h == 0) refl
  where
    by : (asks : Bool) → is_asked_for e.0 h ≡ asks → (gone : Bool) → (ttl_of h == 0) ≡ gone → Low now h (e.0, record e.1 { due = cond (asks && not gone) (min e.1.due (first_refresh now h)) e.1.due })
    by true a false g some asked = omega arith
    by true a true g some asked = absurd (let no : true ≡ false = sym g ∙ some in cc)
    by false a gone g some asked = absurd (let no : false ≡ true = sym a ∙ asked in cc)

low-stays : (now : ℕ) (h g : HeardRr) (e : Question × KeptAsks) → Low now h e → Low now h (e.0, record e.1 { due = lowered_due e.0 e.1.due g (first_refresh now g) })
low-stays now h g e low = by (is_asked_for e.0 g && not (ttl_of g == 0))
  where
    by : (b : Bool) → Low now h (e.0, record e.1 { due = cond b (min e.1.due (first_refresh now g)) e.1.due })
    by true = λ some asked. let bound = low some asked in omega (arith, bound)
    by false = low

low-all-here : (now : ℕ) (h : HeardRr) (kept : Kept) → AllByRecursion (Low now h) (heard_again now kept h)
low-all-here now h [] = tt
low-all-here now h (e ∷ es) = (low-here now h e, low-all-here now h es)

low-all-stays : (now : ℕ) (h g : HeardRr) (kept : Kept) → AllByRecursion (Low now h) kept → AllByRecursion (Low now h) (heard_again now kept g)
low-all-stays now h g [] low = tt
low-all-stays now h g (e ∷ es) low = (low-stays now h g e low.0, low-all-stays now h g es low.1)

low-through : (now : ℕ) (h : HeardRr) (hs : List HeardRr) (kept : Kept) → AllByRecursion (Low now h) kept → AllByRecursion (Low now h) (all_heard now hs kept)
low-through now h [] kept low = low
low-through now h (g ∷ gs) kept low = low-through now h gs (heard_again now kept g) (low-all-stays now h g kept low)

low-behind : (now : ℕ) (hs : List HeardRr) (kept : Kept) → AllByRecursion (λ h. AllByRecursion (Low now h) (all_heard now hs kept)) hs
low-behind now [] kept = tt
low-behind now (h ∷ hs) kept = (low-through now h hs (heard_again now kept h) (low-all-here now h kept), low-behind now hs (heard_again now kept h))

-- lowering keeps bounds
lower-keeps : (rows : LinkRows) (now : ℕ) (h : HeardRr) (kept : Kept) → AreBounds rows kept → AreBounds rows (heard_again now kept h)
lower-keeps rows now h [] bounds = tt
lower-keeps rows now h (e ∷ es) bounds = (by (is_asked_for e.0 h && not (ttl_of h == 0)), lower-keeps rows now h es bounds.1)
  where
    by : (b : Bool) → IsBound rows (e.0, record e.1 { due = cond b (min e.1.due (first_refresh now h)) e.1.due })
    by true = let bound = bounds.0 in omega (arith, bound)
    by false = bounds.0

all-lower-keeps : (rows : LinkRows) (now : ℕ) (hs : List HeardRr) (kept : Kept) → AreBounds rows kept → AreBounds rows (all_heard now hs kept)
all-lower-keeps rows now [] kept bounds = bounds
all-lower-keeps rows now (h ∷ hs) kept bounds = all-lower-keeps rows now hs (heard_again now kept h) (lower-keeps rows now h kept bounds)

-- ---- a hearing

-- the questions of each record, and the records of each question
turned : {X Y : Type 0} (P : X → Y → Type 0) (xs : List X) (y : Y) (ys : List Y) → AllByRecursion (λ x. AllByRecursion (P x) (y ∷ ys)) xs → AllByRecursion (λ x. P x y) xs × AllByRecursion (λ x. AllByRecursion (P x) ys) xs
turned P [] y ys h = (tt, tt)
turned P (x ∷ xs) y ys h = let rest = turned P xs y ys h.1 in ((h.0.0, rest.0), (h.0.1, rest.1))

hears : (rules : LinkRules) (rows : LinkRows) (now : ℕ) (usable : List HeardRr) (kept : Kept) → AllByRecursion (λ h. AllByRecursion (Low now h) kept) usable → AreBounds rows kept → AreBounds (heard_beside 0 rules rows now usable) kept
hears rules rows now usable [] low bounds = tt
hears rules rows now usable (e ∷ es) low bounds =
    let both = turned (Low now) usable e es low in (
      changes rows (heard_beside 0 rules rows now usable) e e.1.due (omega arith)
          (λ all. flushes-admit e now (filter (λ h. h.flush) usable) (fold (put_heard rules now 0) rows usable) (puts-admit e rules now 0 usable rows both.0 all)) bounds.0,
      hears rules rows now usable es both.1 bounds.1,
    )

pub hearing_keeps : HearingKeepsBounds
hearing_keeps rules rows now hearing kept bounds =
    hears rules rows now (usable_of rules hearing) (all_heard now hearing kept)
    (all_filter (λ h. AllByRecursion (Low now h) (all_heard now hearing kept)) (λ h. is_used rules.domain rules.reverses h.rr) hearing (low-behind now hearing kept)) (all-lower-keeps rows now hearing kept bounds)
