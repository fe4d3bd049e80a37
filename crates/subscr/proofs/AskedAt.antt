-- What is kept of questions beside their list answers as the list does, and follows it when one comes or goes.
use Rattle.std.proofs.Common.{◌≡◌, ℕ, ◌+◌, Bool, true, false, cond, not, ◌||◌, ◌&&◌, List, [], ◌∷◌, ◌++◌, map, Option, Some, None, refl, sym, ap, ◌∙◌, arith}
use Rattle.std.specs.Prelude.{◌==◌}
use Rattle.std.specs.Prelude.{nat_lt}
use Rattle.std.specs.List.{count_by, filter, find, list_any, position_or_len}
use Rattle.std.specs.Option.{option_map}
use Rattle.std.proofs.lemmas.Bool.{eq-eqb, eqb-true}
use Rattle.std.proofs.lemmas.List.Sums.{sum_by-cons, sum_by-insert, sum_by_push}
use Rattle.push_base.specs.Cases.{is_empty}
use Rattle.dnsname.specs.Names.{Labels, same_name}
use Rattle.rrset.specs.Kinds.{any_class, any_kind}
use Rattle.rrset.specs.declared.record.Key.{Key}
use Rattle.rrset.specs.declared.record.Question.{Question}
use Rattle.rrset.proofs.Distinct.{IsLone, any_found, lone, none_found, or_false}
use Rattle.rrset.proofs.SameQuestions.{one_question}
use Rattle.subscr.specs.Asked.{AreAsked, Asked, has, id_of, is_id, is_question, wants, watches, without}
use Rattle.subscr.specs.ByName.{noted_at}
use Rattle.subscr.specs.Named.{Adds, IsKept, IsSameKept, Kept, Removes, ask_of, asks_for, asks_of, comes_behind, has_id, is_asked, is_of, with_ask, without_ask}
use Rattle.subscr.specs.declared.named.Ask.{Ask}
use Rattle.subscr.proofs.Asking.{one_id, same_asked, same_id}
use Rattle.subscr.proofs.Counts.{one}
use Rattle.subscr.proofs.Questions.{count-some}

-- ---- the same questions in another order

-- as many pass any test
abbrev pub AreAlike : List Ask → List Ask → Type 0
AreAlike xs ys = (test : Ask → Bool) → count_by test xs ≡ count_by test ys

pub any-alike : (xs ys : List Ask) → AreAlike xs ys → (test : Ask → Bool) → list_any test xs ≡ list_any test ys
any-alike xs ys same test = sym (count-some test xs) ∙ ap (nat_lt 0) (same test) ∙ count-some test ys

pub some-any : {X : Type 0} (xs : List X) → not (is_empty xs) ≡ list_any (λ x. true) xs
some-any [] = refl
some-any (x ∷ xs) = refl

pub count-with : (test : Ask → Bool) (ask : Ask) (asks : List Ask) → count_by test (with_ask ask asks) ≡ count_by test asks + one (test ask)
count-with test ask asks = sum_by-insert (λ (a : Ask). one (test a)) asks (position_or_len (comes_behind ask) asks) ask

count-filter : {X : Type 0} (p q : X → Bool) (xs : List X) → count_by p (filter q xs) ≡ count_by (λ x. q x && p x) xs
count-filter p q [] = refl
count-filter {X} p q (x ∷ xs) = by (q x) (count-filter p q xs) ∙ sym (sum_by-cons (λ (y : X). one (q y && p y)) x xs)
  where
    by : (b : Bool) → count_by p (filter q xs) ≡ count_by (λ y. q y && p y) xs → count_by p (cond b (x ∷ filter q xs) (filter q xs)) ≡ one (b && p x) + count_by (λ y. q y && p y) xs
    by true rest = sum_by-cons (λ (y : X). one (p y)) x (filter q xs) ∙ ap (λ (n : ℕ). one (p x) + n) rest
    by false rest = omega (arith, rest)

-- ---- one question at most is found

any-and : {X : Type 0} (p q : X → Bool) (xs : List X) → list_any p xs ≡ false → list_any (λ x. p x && q x) xs ≡ false
any-and p q [] none = refl
any-and p q (x ∷ xs) none =
    let both = or_false (p x) (list_any p xs) none in
    ap (λ (b : Bool). (b && q x) || list_any (λ y. p y && q y) xs) both.0 ∙ any-and p q xs both.1

-- the one that passes has the number that one of them has
lone-number : {X : Type 0} (p : X → Bool) (number : X → ℕ) (n : ℕ) (xs : List X) → IsLone p xs → list_any (λ x. p x && (number x == n)) xs ≡ true → option_map number (find p xs) ≡ Some n
lone-number p number n [] alone some = absurd cc
lone-number {X} p number n (x ∷ xs) alone some = by (p x) refl some (lone-number p number n xs alone.1)
  where
    here : (b : Bool) → (number x == n) ≡ b → list_any p xs ≡ false → (b || list_any (λ y. p y && (number y == n)) xs) ≡ true → option_map number (Some x) ≡ Some n
    here true same none some = ap (λ (m : ℕ). Some m) (eqb-true (number x) n same)
    here false other none some = let no = any-and p (λ (y : X). number y == n) xs none in absurd cc

    by : (b : Bool) → p x ≡ b → ((b && (number x == n)) || list_any (λ y. p y && (number y == n)) xs) ≡ true
        → (list_any (λ y. p y && (number y == n)) xs ≡ true → option_map number (find p xs) ≡ Some n) → option_map number (cond b (Some x) (find p xs)) ≡ Some n
    by true is some rest = here (number x == n) refl (alone.0 is) some
    by false is some rest = rest some

found-any : {X : Type 0} (p : X → Bool) (number : X → ℕ) (xs : List X) (a : X) → find p xs ≡ Some a → list_any (λ x. p x && (number x == number a)) xs ≡ true
found-any p number [] a is = absurd cc
found-any {X} p number (x ∷ xs) a is = by (p x) is (found-any p number xs a)
  where
    any : (b : Bool) → (b || true) ≡ true
    any true = refl
    any false = refl

    by : (b : Bool) → cond b (Some x) (find p xs) ≡ Some a → (find p xs ≡ Some a → list_any (λ y. p y && (number y == number a)) xs ≡ true)
        → ((b && (number x == number a)) || list_any (λ y. p y && (number y == number a)) xs) ≡ true
    by true is rest = let same : x ≡ a = cc in ap (λ (t : Bool). t || list_any (λ y. p y && (number y == number a)) xs) (eq-eqb (number x) (number a) (ap number same))
    by false is rest = rest is

-- at the name of a question, with a number
asks-any : (question : Question) (n : ℕ) (asked : Asked) → list_any (λ a. is_asked question a && (a.id == n)) (asks_of question.name asked) ≡ list_any (λ e. is_question question e && (e.0 == n)) asked
asks-any question n [] = refl
asks-any question n (e ∷ es) = by (same_name e.1.name question.name) (asks-any question n es)
  where
    at : Asked
    at = filter (λ d. same_name d.1.name question.name) es

    by : (b : Bool) → list_any (λ a. is_asked question a && (a.id == n)) (map ask_of at) ≡ list_any (λ d. is_question question d && (d.0 == n)) es
        → list_any (λ a. is_asked question a && (a.id == n)) (map ask_of (cond b (e ∷ at) at))
        ≡ (((b && e.1.kind == question.kind && e.1.class == question.class) && (e.0 == n)) || list_any (λ d. is_question question d && (d.0 == n)) es)
    by true rest = ap (λ (r : Bool). (is_asked question (ask_of e) && (e.0 == n)) || r) rest
    by false rest = rest

-- ---- what is kept answers as the list does

pub wants-kept : (key : Key) (asked : Asked) → list_any (asks_for key) (asks_of key.owner asked) ≡ wants key asked
wants-kept key [] = refl
wants-kept key (e ∷ es) = by (same_name e.1.name key.owner) (wants-kept key es)
  where
    at : Asked
    at = filter (λ d. same_name d.1.name key.owner) es

    by : (b : Bool) → list_any (asks_for key) (map ask_of at) ≡ wants key es
        → list_any (asks_for key) (map ask_of (cond b (e ∷ at) at))
        ≡ ((b && (e.1.kind == key.kind || e.1.kind == any_kind) && (e.1.class == key.class || e.1.class == any_class)) || wants key es)
    by true rest = ap (λ (r : Bool). asks_for key (ask_of e) || r) rest
    by false rest = rest

pub watches-kept : (name : Labels) (asked : Asked) → not (is_empty (asks_of name asked)) ≡ watches name asked
watches-kept name [] = refl
watches-kept name (e ∷ es) = by (same_name e.1.name name) (watches-kept name es)
  where
    by : (b : Bool) → not (is_empty (asks_of name es)) ≡ watches name es
        → not (is_empty (map ask_of (cond b (e ∷ filter (λ d. same_name d.1.name name) es) (filter (λ d. same_name d.1.name name) es)))) ≡ (b || watches name es)
    by true rest = refl
    by false rest = rest

pub id-kept : (question : Question) (asked : Asked) → option_map (λ (a : Ask). a.id) (find (is_asked question) (asks_of question.name asked)) ≡ id_of question asked
id-kept question [] = refl
id-kept question (e ∷ es) = by (same_name e.1.name question.name) (id-kept question es)
  where
    at : Asked
    at = filter (λ d. same_name d.1.name question.name) es

    found : (t : Bool) → option_map (λ (a : Ask). a.id) (find (is_asked question) (map ask_of at)) ≡ id_of question es
        → option_map (λ (a : Ask). a.id) (cond t (Some (ask_of e)) (find (is_asked question) (map ask_of at))) ≡ option_map (λ (d : ℕ × Question). d.0) (cond t (Some e) (find (is_question question) es))
    found true rest = refl
    found false rest = rest

    by : (b : Bool) → option_map (λ (a : Ask). a.id) (find (is_asked question) (map ask_of at)) ≡ id_of question es
        → option_map (λ (a : Ask). a.id) (find (is_asked question) (map ask_of (cond b (e ∷ at) at)))
        ≡ option_map (λ (d : ℕ × Question). d.0) (cond (b && e.1.kind == question.kind && e.1.class == question.class) (Some e) (find (is_question question) es))
    by true rest = found (e.1.kind == question.kind && e.1.class == question.class) rest
    by false rest = rest

pub id-found : (question : Question) (asked : Asked) (asks : List Ask) → AreAsked asked → AreAlike asks (asks_of question.name asked)
    → option_map (λ (a : Ask). a.id) (find (is_asked question) asks) ≡ id_of question asked
id-found question asked asks are same = by (find (is_asked question) asks) refl
  where
    by : (found : Option Ask) → find (is_asked question) asks ≡ found → option_map (λ (a : Ask). a.id) found ≡ id_of question asked
    by (Some a) is =
        sym (lone-number (is_question question) (λ e. e.0) a.id asked (lone same_asked (is_question question) (λ e f. one_question e.1 f.1 question) asked are.questions)
        (sym (asks-any question a.id asked)
        ∙ sym (any-alike asks (asks_of question.name asked) same (λ b. is_asked question b && (b.id == a.id)))
        ∙ found-any (is_asked question) (λ b. b.id) asks a is))
    by None is =
        sym (ap (λ (o : Option Ask). option_map (λ (b : Ask). b.id) o)
        (none_found (is_asked question) (asks_of question.name asked) (sym (any-alike asks (asks_of question.name asked) same (is_asked question)) ∙ any_found (is_asked question) asks is)))
        ∙ id-kept question asked

-- ---- one more

ids-push : (id another : ℕ) (question : Question) (asked : Asked) → has another (asked ++ (id, question) ∷ []) ≡ cond (id == another) true (has another asked)
ids-push id another question [] = by (id == another)
  where
    by : (b : Bool) → (b || false) ≡ cond b true false
    by true = refl
    by false = refl
ids-push id another question (e ∷ es) = ap (λ (r : Bool). (e.0 == another) || r) (ids-push id another question es) ∙ by (e.0 == another) (id == another)
  where
    by : (a b : Bool) → (a || cond b true (has another es)) ≡ cond b true (a || has another es)
    by true true = refl
    by true false = refl
    by false b = refl

asks-push : (e : ℕ × Question) (other : Labels) (asked : Asked) → asks_of other (asked ++ e ∷ []) ≡ cond (same_name e.1.name other) (asks_of other asked ++ ask_of e ∷ []) (asks_of other asked)
asks-push e other [] = by (same_name e.1.name other)
  where
    by : (b : Bool) → map ask_of (cond b (e ∷ []) []) ≡ cond b (ask_of e ∷ []) []
    by true = refl
    by false = refl
asks-push e other (d ∷ ds) = by (same_name d.1.name other) (asks-push e other ds)
  where
    front : (b : Bool) → ask_of d ∷ cond b (asks_of other ds ++ ask_of e ∷ []) (asks_of other ds) ≡ cond b (ask_of d ∷ (asks_of other ds ++ ask_of e ∷ [])) (ask_of d ∷ asks_of other ds)
    front true = refl
    front false = refl

    at : Asked → Asked
    at es = filter (λ f. same_name f.1.name other) es

    by : (a : Bool) → asks_of other (ds ++ e ∷ []) ≡ cond (same_name e.1.name other) (asks_of other ds ++ ask_of e ∷ []) (asks_of other ds)
        → map ask_of (cond a (d ∷ at (ds ++ e ∷ [])) (at (ds ++ e ∷ []))) ≡ cond (same_name e.1.name other) (map ask_of (cond a (d ∷ at ds) (at ds)) ++ ask_of e ∷ []) (map ask_of (cond a (d ∷ at ds) (at ds)))
    by true rest = ap (λ (l : List Ask). ask_of d ∷ l) rest ∙ front (same_name e.1.name other)
    by false rest = rest

asks-more : (other : Labels) (id : ℕ) (question : Question) (asked : Asked) (asks : List Ask) → AreAlike asks (asks_of other asked)
    → AreAlike (cond (same_name question.name other) (with_ask (ask_of (id, question)) asks) asks) (asks_of other (asked ++ (id, question) ∷ []))
asks-more other id question asked asks same test = by (same_name question.name other) ∙ sym (ap (count_by test) (asks-push (id, question) other asked))
  where
    by : (b : Bool) → count_by test (cond b (with_ask (ask_of (id, question)) asks) asks) ≡ count_by test (cond b (asks_of other asked ++ ask_of (id, question) ∷ []) (asks_of other asked))
    by true =
        count-with test (ask_of (id, question)) asks
        ∙ ap (λ (n : ℕ). n + one (test (ask_of (id, question)))) (same test)
        ∙ sym (sum_by_push (λ (a : Ask). one (test a)) (asks_of other asked) (ask_of (id, question)))
    by false = same test

pub kept-added : (id : ℕ) (question : Question) (asked : Asked) (old new : Kept) → IsKept old asked → Adds id question old new → IsKept new (asked ++ (id, question) ∷ [])
kept-added id question asked old new is adds = record {
  ids = λ another. adds.ids another ∙ ap (λ (b : Bool). cond (id == another) true b) (is.ids another) ∙ sym (ids-push id another question asked);
  asks = λ other test. ap (count_by test) (adds.asks other) ∙ asks-more other id question asked (noted_at other old.asks) (is.asks other) test;
}

pub kept-same : (asked : Asked) (old new : Kept) → IsKept old asked → IsSameKept old new → IsKept new asked
kept-same asked old new is same = record { ids = λ id. same.ids id ∙ is.ids id; asks = λ name test. ap (count_by test) (same.asks name) ∙ is.asks name test }

pub kept-none : IsKept (record { ids = []; asks = [] }) []
kept-none = record { ids = λ id. refl; asks = λ name test. refl }

-- ---- one less

ids-left : (id another : ℕ) (asked : Asked) → cond (id == another) false (has another asked) ≡ has another (without id asked)
ids-left id another [] = by (id == another)
  where
    by : (b : Bool) → cond b false false ≡ false
    by true = refl
    by false = refl
ids-left id another (e ∷ es) = by (e.0 == id) (id == another) refl refl (ids-left id another es)
  where
    by : (t b : Bool) → (e.0 == id) ≡ t → (id == another) ≡ b → cond (id == another) false (has another es) ≡ has another (without id es)
        → cond (id == another) false ((e.0 == another) || has another es) ≡ has another (cond (not t) (e ∷ without id es) (without id es))
    by true b this is rest =
        ap (λ (n : ℕ). cond (id == another) false ((n == another) || has another es)) (eqb-true e.0 id this) ∙ hidden (id == another) ∙ rest
      where
        hidden : (c : Bool) → cond c false (c || has another es) ≡ cond c false (has another es)
        hidden true = refl
        hidden false = refl
    by false true other is rest =
        ap (λ (c : Bool). cond c false ((e.0 == another) || has another es)) is
        ∙ ap (λ (c : Bool). cond c false (has another es)) (sym is)
        ∙ rest
        ∙ ap (λ (c : Bool). c || has another (without id es)) (sym (ap (λ (n : ℕ). e.0 == n) (sym (eqb-true id another is)) ∙ other))
    by false false other is rest =
        ap (λ (c : Bool). cond c false ((e.0 == another) || has another es)) is
        ∙ ap (λ (r : Bool). (e.0 == another) || r) (ap (λ (c : Bool). cond c false (has another es)) (sym is) ∙ rest)

module _ {X : Type 0} where
  filter-swapped : (p q : X → Bool) (xs : List X) → filter p (filter q xs) ≡ filter q (filter p xs)
  filter-swapped p q [] = refl
  filter-swapped p q (x ∷ xs) = by (p x) (q x) refl refl (filter-swapped p q xs)
    where
      by : (b c : Bool) → p x ≡ b → q x ≡ c → filter p (filter q xs) ≡ filter q (filter p xs)
          → filter p (cond c (x ∷ filter q xs) (filter q xs)) ≡ filter q (cond b (x ∷ filter p xs) (filter p xs))
      by true true e f rest =
          ap (λ (t : Bool). cond t (x ∷ filter p (filter q xs)) (filter p (filter q xs))) e
          ∙ ap (λ (l : List X). x ∷ l) rest
          ∙ sym (ap (λ (t : Bool). cond t (x ∷ filter q (filter p xs)) (filter q (filter p xs))) f)
      by true false e f rest = rest ∙ sym (ap (λ (t : Bool). cond t (x ∷ filter q (filter p xs)) (filter q (filter p xs))) f)
      by false true e f rest = ap (λ (t : Bool). cond t (x ∷ filter p (filter q xs)) (filter p (filter q xs))) e ∙ rest
      by false false e f rest = rest

  -- what q passes p passes, too
  filter-within : (p q : X → Bool) (xs : List X) → list_any (λ x. not (p x) && q x) xs ≡ false → filter q xs ≡ filter q (filter p xs)
  filter-within p q [] none = refl
  filter-within p q (x ∷ xs) none = by (p x) (q x) refl none (filter-within p q xs)
    where
      by : (b c : Bool) → q x ≡ c → ((not b && c) || list_any (λ y. not (p y) && q y) xs) ≡ false → (list_any (λ y. not (p y) && q y) xs ≡ false → filter q xs ≡ filter q (filter p xs))
          → cond c (x ∷ filter q xs) (filter q xs) ≡ filter q (cond b (x ∷ filter p xs) (filter p xs))
      by true true f none rest = ap (λ (l : List X). x ∷ l) (rest none) ∙ sym (ap (λ (t : Bool). cond t (x ∷ filter q (filter p xs)) (filter q (filter p xs))) f)
      by true false f none rest = rest none ∙ sym (ap (λ (t : Bool). cond t (x ∷ filter q (filter p xs)) (filter q (filter p xs))) f)
      by false true f none rest = absurd cc
      by false false f none rest = rest none

filter-asks : (id : ℕ) (asked : Asked) → without_ask id (map ask_of asked) ≡ map ask_of (without id asked)
filter-asks id [] = refl
filter-asks id (e ∷ es) = by (e.0 == id) (filter-asks id es)
  where
    by : (t : Bool) → without_ask id (map ask_of es) ≡ map ask_of (without id es)
        → cond (not t) (ask_of e ∷ without_ask id (map ask_of es)) (without_ask id (map ask_of es)) ≡ map ask_of (cond (not t) (e ∷ without id es) (without id es))
    by true rest = rest
    by false rest = ap (λ (l : List Ask). ask_of e ∷ l) rest

asks-left : (id : ℕ) (name : Labels) (asked : Asked) → without_ask id (asks_of name asked) ≡ asks_of name (without id asked)
asks-left id name asked =
    filter-asks id (filter (λ e. same_name e.1.name name) asked)
    ∙ ap (λ (l : Asked). map ask_of l) (filter-swapped (λ e. not (is_id id e)) (λ e. same_name e.1.name name) asked)

-- the question of an ID has another name
apart : (id : ℕ) (other : Labels) (e : ℕ × Question) (asked : Asked) → IsLone (is_id id) asked → find (is_id id) asked ≡ Some e → same_name e.1.name other ≡ false
    → list_any (λ d. not (not (is_id id d)) && same_name d.1.name other) asked ≡ false
apart id other e [] alone is other_name = refl
apart id other e (d ∷ ds) alone is other_name = by (is_id id d) refl is (apart id other e ds alone.1)
  where
    none_of : (es : Asked) → list_any (is_id id) es ≡ false → list_any (λ f. not (not (is_id id f)) && same_name f.1.name other) es ≡ false
    none_of [] none = refl
    none_of (f ∷ fs) none =
        let both = or_false (is_id id f) (list_any (is_id id) fs) none in
        ap (λ (t : Bool). (not (not t) && same_name f.1.name other) || list_any (λ g. not (not (is_id id g)) && same_name g.1.name other) fs) both.0 ∙ none_of fs both.1

    by : (t : Bool) → is_id id d ≡ t → cond t (Some d) (find (is_id id) ds) ≡ Some e
        → (find (is_id id) ds ≡ Some e → same_name e.1.name other ≡ false → list_any (λ f. not (not (is_id id f)) && same_name f.1.name other) ds ≡ false)
        → ((not (not t) && same_name d.1.name other) || list_any (λ f. not (not (is_id id f)) && same_name f.1.name other) ds) ≡ false
    by true this is rest =
        let same : d ≡ e = cc in
        ap (λ (t : Bool). t || list_any (λ f. not (not (is_id id f)) && same_name f.1.name other) ds) (ap (λ (f : ℕ × Question). same_name f.1.name other) same ∙ other_name)
        ∙ none_of ds (alone.0 this)
    by false this is rest = rest is other_name

asks-less : (other : Labels) (id : ℕ) (e : ℕ × Question) (asked : Asked) (asks : List Ask) → AreAsked asked → find (is_id id) asked ≡ Some e → AreAlike asks (asks_of other asked)
    → AreAlike (cond (same_name e.1.name other) (without_ask id asks) asks) (asks_of other (without id asked))
asks-less other id e asked asks are there same test = by (same_name e.1.name other) refl
  where
    by : (b : Bool) → same_name e.1.name other ≡ b → count_by test (cond b (without_ask id asks) asks) ≡ count_by test (asks_of other (without id asked))
    by true at =
        count-filter test (λ a. not (has_id id a)) asks
        ∙ same (λ a. not (has_id id a) && test a)
        ∙ sym (count-filter test (λ a. not (has_id id a)) (asks_of other asked))
        ∙ ap (count_by test) (asks-left id other asked)
    by false at =
        same test
        ∙ ap (λ (l : Asked). count_by test (map ask_of l))
        (filter-within (λ d. not (is_id id d)) (λ d. same_name d.1.name other) asked
        (apart id other e asked (lone same_id (is_id id) (one_id id) asked are.ids) there at))

pub kept-left : (id : ℕ) (e : ℕ × Question) (asked : Asked) (old new : Kept) → AreAsked asked → IsKept old asked → find (is_id id) asked ≡ Some e → Removes id e.1.name old new
    → IsKept new (without id asked)
kept-left id e asked old new are is there removes = record {
  ids = λ another. removes.ids another ∙ ap (λ (b : Bool). cond (id == another) false b) (is.ids another) ∙ ids-left id another asked;
  asks = λ other test. ap (count_by test) (removes.asks other) ∙ asks-less other id e asked (noted_at other old.asks) are there (is.asks other) test;
}

-- ---- what asks for a key

-- one of four kinds of questions does
pub asks-four : (key : Key) (asks : List Ask)
    → ((list_any (is_of key.kind key.class) asks || list_any (is_of key.kind any_class) asks) || (list_any (is_of any_kind key.class) asks || list_any (is_of any_kind any_class) asks))
    ≡ list_any (asks_for key) asks
asks-four key [] = refl
asks-four key (a ∷ others) =
    spread (a.kind == key.kind) (a.kind == any_kind) (a.class == key.class) (a.class == any_class)
    (list_any (is_of key.kind key.class) others) (list_any (is_of key.kind any_class) others) (list_any (is_of any_kind key.class) others) (list_any (is_of any_kind any_class) others)
    ∙ ap (λ (r : Bool). asks_for key a || r) (asks-four key others)
  where
    second : (w rest : Bool) → ((w || true) || rest) ≡ true
    second true rest = refl
    second false rest = refl

    third : (b : Bool) → (b || true) ≡ true
    third true = refl
    third false = refl

    fourth : (b y : Bool) → (b || (y || true)) ≡ true
    fourth true y = refl
    fourth false true = refl
    fourth false false = refl

    spread : (k K c C w x y z : Bool) → ((((k && c) || w) || ((k && C) || x)) || (((K && c) || y) || ((K && C) || z))) ≡ (((k || K) && (c || C)) || ((w || x) || (y || z)))
    spread true K true C w x y z = refl
    spread true K false true w x y z = second w (((K && false) || y) || ((K && true) || z))
    spread true true false false w x y z = refl
    spread true false false false w x y z = refl
    spread false true true C w x y z = third (w || x)
    spread false true false true w x y z = fourth (w || x) y
    spread false true false false w x y z = refl
    spread false false c C w x y z = refl
