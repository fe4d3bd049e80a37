-- Notices that the data of a PUSH spells are what is read, and what is read is spelled.
use Rattle.std.proofs.Common.{◌≡◌, ℕ, zero, suc, ◌+◌, ◌<◌, ◌≤◌, Bool, true, false, not, ◌&&◌, ◌||◌, cond, ltb, eqb, List, [], ◌∷◌, ◌++◌, length, drop, Ok, inl, inr, refl, sym, ap, subst, ◌∙◌, arith}
use Rattle.std.specs.Bool.{IsTrue}
use Rattle.std.specs.Prelude.{nat_lt, ◌==◌}
use Rattle.std.proofs.lemmas.Bool.{eqb-true, eq-eqb, ne_eqb, le-leb, lt-leb, le-ltb, lt-ltb, cases_lt, and_parts, and_left, and_right, not-true}
use Rattle.std.proofs.lemmas.Bool.Decides.{nat_tests}
use Rattle.std.proofs.lemmas.List.{length-append, append-nil, length-drop}
use Rattle.rrset.specs.Kinds.{any_kind, any_class}
use Rattle.rrset.specs.Rdata.{shape_fits}
use Rattle.rrset.specs.declared.record.Rr.{Rr}
use Rattle.dsotlv.specs.declared.message.Notice.{Notice}
use Rattle.dsotlv.specs.declared.message.Notice.TheVariants.{Add, RemoveOne, RemoveSet, RemoveClass, RemoveAll, Odd}
use Rattle.dsotlv.specs.Notices.{is_single, last_ttl, remove_one_ttl, remove_many_ttl, notice_of, notice_at, notices_from, notices_of}
use Rattle.dsotlv.specs.Spelling.{SpellsPushRecord, SpellsNotice, SpellsPush, is_one_record}
use Rattle.dsotlv.specs.Spelling as spelling
use Rattle.dsotlv.specs.Laws.{AreOctets}
use Rattle.dsotlv.proofs.Results.{done, same_done, not_done, bind_done}
use Rattle.dsotlv.proofs.Numbers.{nothing, drop_next, room}
use Rattle.dsotlv.proofs.PushRecords.{record_octets, IsAllowed, RecordStands, length-record, record_read, record_found}
use Rattle.dsotlv.proofs.PushWalks.{before, by_end, notices-last, notices-more}

-- ---- one record

-- a record whose fields are allowed, and what it says
pub record Says (text : List ℕ) (notice : Notice) : Type 0 where
  pub rr : Rr
  pub spelled : SpellsPushRecord text rr
  pub allowed : IsAllowed rr
  pub says : notice_of rr ≡ notice

odd_ttl : (ttl : ℕ) → last_ttl < ttl → (ttl ≡ remove_one_ttl → ⊥) → is_single ttl ≡ false
odd_ttl ttl high other = ap (λ (b : Bool). b || ttl == remove_one_ttl) (lt-leb ttl last_ttl high) ∙ ne_eqb ttl remove_one_ttl other

low_ttl : (ttl : ℕ) → ttl ≤ last_ttl → is_single ttl ≡ true
low_ttl ttl low = ap (λ (b : Bool). b || ttl == remove_one_ttl) (le-leb ttl last_ttl low)

-- the parts of the test of one record
record IsOne (rr : Rr) : Type 0 where
  pub kind : (rr.kind == any_kind) ≡ false
  pub class : (rr.class == any_class) ≡ false
  pub rdata : shape_fits rr.kind rr.rdata ≡ true

one_parts : (rr : Rr) → IsTrue (is_one_record rr) → IsOne rr
one_parts rr is =
    let both = and_parts (not (rr.kind == any_kind) && not (rr.class == any_class)) (shape_fits rr.kind rr.rdata) is in
    let numbers = and_parts (not (rr.kind == any_kind)) (not (rr.class == any_class)) both.0 in
    record { kind = not-true (rr.kind == any_kind) numbers.0; class = not-true (rr.class == any_class) numbers.1; rdata = both.1 }

one_allowed : (rr : Rr) → IsOne rr → (rr.ttl ≡ remove_many_ttl → ⊥) → IsAllowed rr
one_allowed rr one other = record {
  kind = and_right (is_single rr.ttl) (rr.kind == any_kind) one.kind;
  class = and_right (is_single rr.ttl) (rr.class == any_class) one.class;
  size = and_left (rr.ttl == remove_many_ttl) (nat_lt 0 (length rr.rdata)) (ne_eqb rr.ttl remove_many_ttl other);
  rdata = and_right (is_single rr.ttl) (not (shape_fits rr.kind rr.rdata)) (ap not one.rdata);
}

-- where the TTL is of no single record all is allowed, but for rdata where many are removed
many_allowed : (rr : Rr) → is_single rr.ttl ≡ false → (rr.ttl == remove_many_ttl && nat_lt 0 (length rr.rdata)) ≡ false → IsAllowed rr
many_allowed rr many size = record {
  kind = and_left (is_single rr.ttl) (rr.kind == any_kind) many;
  class = and_left (is_single rr.ttl) (rr.class == any_class) many;
  size = size;
  rdata = and_left (is_single rr.ttl) (not (shape_fits rr.kind rr.rdata)) many;
}

removes_allowed : (rr : Rr) → rr.ttl ≡ remove_many_ttl → rr.rdata ≡ [] → IsAllowed rr
removes_allowed rr ttl none = many_allowed rr (ap is_single ttl) (and_right (rr.ttl == remove_many_ttl) (nat_lt 0 (length rr.rdata)) (ap (λ (xs : List ℕ). nat_lt 0 (length xs)) none))

-- what a record says, by its tests
abbrev says_by : Rr → Bool → Bool → Bool → Bool → Bool → Notice
says_by rr many class kind one high = cond (many && class) (RemoveAll rr.owner) (cond (many && kind) (RemoveClass rr.owner rr.class) (cond many (RemoveSet rr.owner rr.class rr.kind) (cond one (RemoveOne rr) (cond high (Odd rr.owner rr.ttl) (Add rr)))))

same_tests : (rr : Rr) → notice_of rr ≡ says_by rr (rr.ttl == remove_many_ttl) (rr.class == any_class) (rr.kind == any_kind) (rr.ttl == remove_one_ttl) (nat_lt last_ttl rr.ttl)
same_tests rr = refl

says_add : (rr : Rr) → rr.ttl ≤ last_ttl → notice_of rr ≡ Add rr
says_add rr low =
    let many = ne_eqb rr.ttl remove_many_ttl (λ e. omega (arith, e, low)) in
    let one = ne_eqb rr.ttl remove_one_ttl (λ e. omega (arith, e, low)) in
    let high = le-ltb last_ttl rr.ttl low in
    same_tests rr ∙ λ i. says_by rr (many i) (rr.class == any_class) (rr.kind == any_kind) (one i) (high i)

says_one : (rr : Rr) → rr.ttl ≡ remove_one_ttl → notice_of rr ≡ RemoveOne rr
says_one rr ttl =
    let many = ne_eqb rr.ttl remove_many_ttl (λ e. omega (arith, e, ttl)) in
    let one = eq-eqb rr.ttl remove_one_ttl ttl in
    same_tests rr ∙ λ i. says_by rr (many i) (rr.class == any_class) (rr.kind == any_kind) (one i) (nat_lt last_ttl rr.ttl)

says_odd : (rr : Rr) → last_ttl < rr.ttl → rr.ttl < remove_many_ttl → notice_of rr ≡ Odd rr.owner rr.ttl
says_odd rr above below =
    let many = ne_eqb rr.ttl remove_many_ttl (λ e. omega (arith, e, below)) in
    let one = ne_eqb rr.ttl remove_one_ttl (λ e. omega (arith, e, below)) in
    let high = lt-ltb last_ttl rr.ttl above in
    same_tests rr ∙ λ i. says_by rr (many i) (rr.class == any_class) (rr.kind == any_kind) (one i) (high i)

-- where many are removed, by class and kind
says_many : (rr : Rr) (class kind : Bool) → rr.ttl ≡ remove_many_ttl → (rr.class == any_class) ≡ class → (rr.kind == any_kind) ≡ kind
    → notice_of rr ≡ cond class (RemoveAll rr.owner) (cond kind (RemoveClass rr.owner rr.class) (RemoveSet rr.owner rr.class rr.kind))
says_many rr class kind ttl class-is kind-is =
    let many = eq-eqb rr.ttl remove_many_ttl ttl in
    same_tests rr ∙ λ i. says_by rr (many i) (class-is i) (kind-is i) (rr.ttl == remove_one_ttl) (nat_lt last_ttl rr.ttl)

-- what a record spells, its fields say
spelled_says : (text : List ℕ) (notice : Notice) → SpellsNotice text notice → Says text notice
spelled_says text notice (spelling.SpellsNotice.add rr spelled low one) = record { rr = rr; spelled = spelled; allowed = one_allowed rr (one_parts rr one) (λ e. omega (arith, e, low)); says = says_add rr low }
spelled_says text notice (spelling.SpellsNotice.remove_one rr spelled ttl one) = record { rr = rr; spelled = spelled; allowed = one_allowed rr (one_parts rr one) (λ e. omega (arith, e, ttl)); says = says_one rr ttl }
spelled_says text notice (spelling.SpellsNotice.remove_set rr spelled ttl none kept) =
    let both = and_parts (not (rr.kind == any_kind)) (not (rr.class == any_class)) kept in
    record { rr = rr; spelled = spelled; allowed = removes_allowed rr ttl none; says = says_many rr false false ttl (not-true (rr.class == any_class) both.1) (not-true (rr.kind == any_kind) both.0) }
spelled_says text notice (spelling.SpellsNotice.remove_class rr spelled ttl none kind kept) =
    record { rr = rr; spelled = spelled; allowed = removes_allowed rr ttl none; says = says_many rr false true ttl (not-true (rr.class == any_class) kept) (eq-eqb rr.kind any_kind kind) }
spelled_says text notice (spelling.SpellsNotice.remove_all rr spelled ttl none class) =
    record { rr = rr; spelled = spelled; allowed = removes_allowed rr ttl none; says = says_many rr true (rr.kind == any_kind) ttl (eq-eqb rr.class any_class class) refl }
spelled_says text notice (spelling.SpellsNotice.odd rr spelled high low) =
    record { rr = rr; spelled = spelled; allowed = many_allowed rr (odd_ttl rr.ttl high (λ e. omega (arith, e, low))) (and_left (rr.ttl == remove_many_ttl) (nat_lt 0 (length rr.rdata)) (ne_eqb rr.ttl remove_many_ttl (λ e. omega (arith, e, low)))); says = says_odd rr high low }

-- ---- what the fields of a record say is spelled

second_false : (a b : Bool) → a ≡ true → (a && b) ≡ false → b ≡ false
second_false true b t h = h
second_false false b t h = absurd cc

all_true : (kind class shape : Bool) → kind ≡ false → class ≡ false → not shape ≡ false → (not kind && not class && shape) ≡ true
all_true false false true k c s = refl
all_true true class shape k c s = absurd cc
all_true false true shape k c s = absurd cc
all_true false false false k c s = absurd cc

one_from : (rr : Rr) → is_single rr.ttl ≡ true → IsAllowed rr → IsTrue (is_one_record rr)
one_from rr single allowed = all_true (rr.kind == any_kind) (rr.class == any_class) (shape_fits rr.kind rr.rdata)
    (second_false (is_single rr.ttl) (rr.kind == any_kind) single allowed.kind)
    (second_false (is_single rr.ttl) (rr.class == any_class) single allowed.class)
    (second_false (is_single rr.ttl) (not (shape_fits rr.kind rr.rdata)) single allowed.rdata)

ltb_false : (a b : ℕ) → ltb a b ≡ false → b ≤ a
ltb_false a b h = grind (arith, nat_tests)

many_spelled : (text : List ℕ) (rr : Rr) → SpellsPushRecord text rr → IsAllowed rr → rr.ttl ≡ remove_many_ttl → SpellsNotice text (notice_of rr)
many_spelled text rr spelled allowed ttl = by_numbers (rr.class == any_class) (rr.kind == any_kind) refl refl
  where
    none : rr.rdata ≡ []
    none = let empty = ltb_false 0 (length rr.rdata) (second_false (rr.ttl == remove_many_ttl) (nat_lt 0 (length rr.rdata)) (eq-eqb rr.ttl remove_many_ttl ttl) allowed.size) in nothing rr.rdata (omega (arith, empty))

    not_other : (n k : ℕ) → (n == k) ≡ false → not (n == k) ≡ true
    not_other n k h = ap not h

    by_numbers : (class kind : Bool) → (rr.class == any_class) ≡ class → (rr.kind == any_kind) ≡ kind → SpellsNotice text (notice_of rr)
    by_numbers true kind c k = subst (SpellsNotice text) (sym (says_many rr true kind ttl c k)) (spelling.SpellsNotice.remove_all rr spelled ttl none (eqb-true rr.class any_class c))
    by_numbers false true c k = subst (SpellsNotice text) (sym (says_many rr false true ttl c k)) (spelling.SpellsNotice.remove_class rr spelled ttl none (eqb-true rr.kind any_kind k) (not_other rr.class any_class c))
    by_numbers false false c k = subst (SpellsNotice text) (sym (says_many rr false false ttl c k)) (spelling.SpellsNotice.remove_set rr spelled ttl none (neither (rr.kind == any_kind) (rr.class == any_class) k c))
      where
        neither : (a b : Bool) → a ≡ false → b ≡ false → (not a && not b) ≡ true
        neither false false h i = refl
        neither true b h i = absurd cc
        neither false true h i = absurd cc

says_spelled : (text : List ℕ) (rr : Rr) → SpellsPushRecord text rr → IsAllowed rr → SpellsNotice text (notice_of rr)
says_spelled text rr spelled allowed = elim (cases_lt last_ttl rr.ttl) [
  | inr low ↦ subst (SpellsNotice text) (sym (says_add rr low)) (spelling.SpellsNotice.add rr spelled low (one_from rr (low_ttl rr.ttl low) allowed))
  | inl above ↦ elim (cases_lt rr.ttl remove_many_ttl) [
    | inl below ↦ subst (SpellsNotice text) (sym (says_odd rr above below)) (spelling.SpellsNotice.odd rr spelled above below)
    | inr from_many ↦ elim (cases_lt remove_many_ttl rr.ttl) [
      | inl high ↦
          (let fits = spelled.ttl in
          let ttl : rr.ttl ≡ remove_one_ttl = omega (arith, high, fits) in
          subst (SpellsNotice text) (sym (says_one rr ttl)) (spelling.SpellsNotice.remove_one rr spelled ttl (one_from rr (ap is_single ttl) allowed)))
      | inr to_many ↦ many_spelled text rr spelled allowed (omega (arith, from_many, to_many))
    ]
  ]
]

-- ---- several records

abbrev FindsPush : List ℕ → ℕ → Type 0
FindsPush text more = (at : ℕ) (notices : List Notice) → at ≤ length text → notices_from more text at ≡ done notices → SpellsPush (drop at text) notices

-- a notice before others that are spelled
before_others : (text front back : List ℕ) (notice : Notice) (others : List Notice) → text ≡ front ++ back → SpellsNotice front notice → SpellsPush back others → SpellsPush text (notice ∷ others)
before_others text front back notice [] e first rest = absurd rest
before_others text front back notice (next ∷ others) e first rest = (front, back, e, first, rest)

one_found : (more : ℕ) (text : List ℕ) (at : ℕ) (notices : List Notice) (notice : Notice) (after : ℕ) → FindsPush text more → RecordStands text at notice after
    → (test : Bool) → eqb after (length text) ≡ test → by_end more text notice after test ≡ done notices → SpellsPush (drop at text) notices
one_found more text at notices notice after finds stands true t e =
    let none : drop after text ≡ [] = nothing (drop after text) (let last = eqb-true after (length text) t in omega (arith, last, length-drop after text)) in
    let whole : drop at text ≡ record_octets stands.rr = stands.whole ∙ ap (λ (xs : List ℕ). record_octets stands.rr ++ xs) none ∙ append-nil (record_octets stands.rr) in
    let spelled : SpellsNotice (record_octets stands.rr) notice = subst (SpellsNotice (record_octets stands.rr)) stands.says (says_spelled (record_octets stands.rr) stands.rr stands.spelled stands.allowed) in
    let is : notice ∷ [] ≡ notices = same_done (notice ∷ []) notices e in
    subst (SpellsPush (drop at text)) is (subst (λ (xs : List ℕ). SpellsNotice xs notice) (sym whole) spelled)
one_found more text at notices notice after finds stands false t e =
    let rest = bind_done (notices_from more text after) (λ others. done (notice ∷ others)) notices e in
    let spelled : SpellsNotice (record_octets stands.rr) notice = subst (SpellsNotice (record_octets stands.rr)) stands.says (says_spelled (record_octets stands.rr) stands.rr stands.spelled stands.allowed) in
    let is : notice ∷ rest.0 ≡ notices = same_done (notice ∷ rest.0) notices rest.2 in
    subst (SpellsPush (drop at text)) is (before_others (drop at text) (record_octets stands.rr) (drop after text) notice rest.0 stands.whole spelled (finds after rest.0 stands.within rest.1))

push_found : (more : ℕ) (text : List ℕ) → AreOctets text → FindsPush text more
push_found zero text below at notices within e = absurd (not_done _ notices e)
push_found (suc more) text below at notices within e =
    let first = bind_done (notice_at text at) (λ first. by_end more text first.0 first.1 (eqb first.1 (length text))) notices e in
    one_found more text at notices first.0.0 first.0.1 (push_found more text below) (record_found text at first.0.1 first.0.0 below within first.1) (eqb first.0.1 (length text)) refl first.2

pub push_spelled : (text : List ℕ) (notices : List Notice) → AreOctets text → notices_of text ≡ Ok notices → SpellsPush text notices
push_spelled text notices below e = push_found (length text + 1) text below 0 notices (omega arith) e

-- ---- what is spelled is read

says_read : (text : List ℕ) (at : ℕ) (front rest : List ℕ) (notice : Notice) → Says front notice → drop at text ≡ front ++ rest → notice_at text at ≡ done (notice, at + length front)
says_read text at front rest notice says e =
    let rr = says.rr in
    let front-is : front ≡ record_octets rr = says.spelled.whole in
    let written : SpellsPushRecord (record_octets rr) rr = record { owner = says.spelled.owner; kind = says.spelled.kind; class = says.spelled.class; ttl = says.spelled.ttl; rdata = says.spelled.rdata; whole = refl } in
    record_read rr text at (at + length front) rest written says.allowed (e ∙ ap (λ (xs : List ℕ). xs ++ rest) front-is) (ap (λ (xs : List ℕ). at + length xs) front-is)
    ∙ ap (λ (n : Notice). done (n, at + length front)) says.says

says_some : (front : List ℕ) (notice : Notice) → Says front notice → 0 < length front
says_some front notice says = let size = length-record says.rr in let same = ap length says.spelled.whole in omega (arith, size, same)

push_some : (text : List ℕ) (notices : List Notice) → SpellsPush text notices → 0 < length text
push_some text [] h = absurd h
push_some text (notice ∷ []) h = says_some text notice (spelled_says text notice h)
push_some text (notice ∷ next ∷ notices) (front, back, e, first, rest) =
    let some = says_some front notice (spelled_says front notice first) in
    let sum = length-append front back in
    let same = ap length e in
    omega (arith, some, sum, same)

push_there : (more : ℕ) (text : List ℕ) (at : ℕ) (notices : List Notice) → SpellsPush (drop at text) notices → at ≤ length text → length text ≤ at + more → notices_from (suc more) text at ≡ done notices
push_there more text at [] h within enough = absurd h
push_there more text at (notice ∷ []) h within enough =
    let says = spelled_says (drop at text) notice h in
    let read = says_read text at (drop at text) [] notice says (sym (append-nil (drop at text))) in
    notices-last more text at notice (at + length (drop at text)) read (omega (arith, within, length-drop at text))
push_there zero text at (notice ∷ next ∷ notices) (front, back, e, first, rest) within enough =
    let some = says_some front notice (spelled_says front notice first) in
    absurd (omega (arith, within, enough, some, room text at front back e))
push_there (suc more) text at (notice ∷ next ∷ notices) (front, back, e, first, rest) within enough =
    let says = spelled_says front notice first in
    let some = says_some front notice says in
    let left = room text at front back e in
    let behind : drop (at + length front) text ≡ back = drop_next text at (at + length front) front back e refl in
    let more_follows = push_some back (next ∷ notices) rest in
    let others = push_there more text (at + length front) (next ∷ notices) (subst (λ (xs : List ℕ). SpellsPush xs (next ∷ notices)) (sym behind) rest) (omega (arith, left, within, more_follows)) (omega (arith, enough, some)) in
    notices-more (suc more) text at notice (at + length front) (says_read text at front back notice says e) (λ ends. omega (arith, ends, left, more_follows, within))
    ∙ ap (before (notice ∷ [])) others

pub push_read : (text : List ℕ) (notices : List Notice) → SpellsPush text notices → notices_of text ≡ Ok notices
push_read text notices h =
    let one : length text + 1 ≡ suc (length text) = omega arith in
    ap (λ (n : ℕ). notices_from n text 0) one ∙ push_there (length text) text 0 notices h (omega arith) (omega arith)
