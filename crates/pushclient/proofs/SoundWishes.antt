-- Lists of wishes of which no two are for the same question: where one goes or stands otherwise, and how often an ID is in use.
--     Apart question wish ws      the wish for the question, and the others
--     used id ws      how often an ID is in use
use Rattle.std.proofs.Common.{◌≡◌, ℕ, ◌+◌, ◌≤◌, Bool, true, false, cond, not, ◌&&◌, ◌==◌, List, [], ◌∷◌, ◌++◌, map, Option, Some, refl, sym, ap, subst, ◌∙◌, arith}
use Rattle.std.specs.Prelude.{find, filter, option_to_list}
use Rattle.std.specs.List.{IsDistinct, AllByRecursion, flat_map}
use Rattle.std.proofs.lemmas.Bool.{eqb-true, eq-eqb}
use Rattle.std.proofs.lemmas.Grind.{flat_map-append}
use Rattle.dnsname.specs.Names.{same_name}
use Rattle.dnsname.proofs.Decisions.{and_true, same_name-Decides}
use Rattle.rrset.specs.Records.{same_question}
use Rattle.rrset.specs.declared.record.Question.{Question}
use Rattle.rrset.proofs.SameQuestions.{one_question}
use Rattle.pushclient.specs.Clients.{Connection, Wish, id_in_use, ids_in_use, without_wish}
use Rattle.pushclient.specs.SoundClients.{AreIds, question_of, count_of}
use Rattle.pushclient.proofs.FreeIds.{counts, fewer}

-- ---- questions that are one

pub question_itself : (q : Question) → same_question q q ≡ true
question_itself q =
    let names : same_name q.name q.name ≡ true = (same_name-Decides q.name q.name).1 refl in
    let kinds : (q.kind == q.kind) ≡ true = eq-eqb q.kind q.kind refl in
    let classes : (q.class == q.class) ≡ true = eq-eqb q.class q.class refl in
    rw (names, kinds, classes) refl

same_back : (a b : Question) → same_question a b ≡ true → same_question b a ≡ true
same_back a b h =
    let f = and_true (same_name a.name b.name && a.kind == b.kind) (a.class == b.class) h in
    let p = and_true (same_name a.name b.name) (a.kind == b.kind) f.0 in
    let names : same_name b.name a.name ≡ true = (same_name-Decides b.name a.name).1 (sym ((same_name-Decides a.name b.name).0 p.0)) in
    let kinds : (b.kind == a.kind) ≡ true = eq-eqb b.kind a.kind (sym (eqb-true a.kind b.kind p.1)) in
    let classes : (b.class == a.class) ≡ true = eq-eqb b.class a.class (sym (eqb-true a.class b.class f.1)) in
    rw (names, kinds, classes) refl

pub same_as : (a b w : Question) → same_question a b ≡ true → same_question w a ≡ same_question w b
same_as a b w h = by (same_question w a) (same_question w b) refl refl
  where
    by : (x y : Bool) → same_question w a ≡ x → same_question w b ≡ y → x ≡ y
    by true true e f = refl
    by false false e f = refl
    by true false e f = let other : same_question w b ≡ true = one_question w b a e (same_back a b h) in absurd cc
    by false true e f = let other : same_question w a ≡ true = one_question w a b f h in absurd cc

pub not_back : (a b : Question) → same_question a b ≡ false → same_question b a ≡ false
not_back a b h = by (same_question b a) refl
  where
    by : (t : Bool) → same_question b a ≡ t → t ≡ false
    by true e = let other : same_question a b ≡ true = same_back b a e in absurd cc
    by false e = refl

-- two that are not one have no third in common
pub not_both : (q x y : Question) → same_question q x ≡ false → same_question y x ≡ true → same_question y q ≡ false
not_both q x y h first = by (same_question y q) refl
  where
    by : (t : Bool) → same_question y q ≡ t → t ≡ false
    by true e = let other : same_question q x ≡ true = one_question q x y (same_back y q e) (same_back y x first) in absurd cc
    by false e = refl

-- ---- lists

pub some_is : {A : Type 0} (x y : A) → Some x ≡ Some y → x ≡ y
some_is x y e = cc

pub find_holds : {A : Type 0} (p : A → Bool) (xs : List A) (y : A) → find p xs ≡ Some y → p y ≡ true
find_holds p [] y e = absurd cc
find_holds p (x ∷ xs) y e = by (p x) refl e (find_holds p xs y)
  where
    by : (b : Bool) → p x ≡ b → cond b (Some x) (find p xs) ≡ Some y → (find p xs ≡ Some y → p y ≡ true) → p y ≡ true
    by true is e rest = subst (λ z. p z ≡ true) (some_is x y e) is
    by false is e rest = rest e

pub all_front : {A : Type 0} (P : A → Type 0) (xs ys : List A) → AllByRecursion P (xs ++ ys) → AllByRecursion P xs
all_front P [] ys all = tt
all_front P (x ∷ xs) ys all = (all.0, all_front P xs ys all.1)

all_rest : {A : Type 0} (P : A → Type 0) (xs ys : List A) → AllByRecursion P (xs ++ ys) → AllByRecursion P ys
all_rest P [] ys all = all
all_rest P (x ∷ xs) ys all = all_rest P xs ys all.1

all_both : {A : Type 0} (P : A → Type 0) (xs ys : List A) → AllByRecursion P xs → AllByRecursion P ys → AllByRecursion P (xs ++ ys)
all_both P [] ys first second = second
all_both P (x ∷ xs) ys first second = (first.0, all_both P xs ys first.1 second)

pub all_behind : {A : Type 0} (P : A → Type 0) (xs : List A) (y : A) → AllByRecursion P xs → P y → AllByRecursion P (xs ++ y ∷ [])
all_behind P xs y all last = all_both P xs (y ∷ []) all (last, tt)

pub all_map : {A B : Type 0} (P : A → Type 0) (Q : B → Type 0) (f : A → B) → ((x : A) → P x → Q (f x)) → (xs : List A) → AllByRecursion P xs → AllByRecursion Q (map f xs)
all_map P Q f each [] all = tt
all_map P Q f each (x ∷ xs) all = (each x all.0, all_map P Q f each xs all.1)

pub all_as : {A : Type 0} (P Q : A → Type 0) → ((x : A) → P x → Q x) → (xs : List A) → AllByRecursion P xs → AllByRecursion Q xs
all_as P Q each [] all = tt
all_as P Q each (x ∷ xs) all = (each x all.0, all_as P Q each xs all.1)

pub all_found : {A : Type 0} (P : A → Type 0) (p : A → Bool) (ws : List A) (w : A) → AllByRecursion P ws → find p ws ≡ Some w → P w
all_found P p [] w all e = absurd cc
all_found P p (v ∷ ws) w all e = by (p v) e (all_found P p ws w all.1)
  where
    by : (b : Bool) → cond b (Some v) (find p ws) ≡ Some w → (find p ws ≡ Some w → P w) → P w
    by true e rest = subst P (some_is v w e) all.0
    by false e rest = rest e

-- another element stands in the place of one
pub all_replaced : {A : Type 0} (P : A → Type 0) (before : List A) (x y : A) (behind : List A) → P y → AllByRecursion P (before ++ x ∷ behind) → AllByRecursion P (before ++ y ∷ behind)
all_replaced P before x y behind new all = all_both P before (y ∷ behind) (all_front P before (x ∷ behind) all) (new, (all_rest P before (x ∷ behind) all).1)

-- one element goes to the end
pub all_moved : {A : Type 0} (P : A → Type 0) (before : List A) (x y : A) (behind : List A) → P y → AllByRecursion P (before ++ x ∷ behind) → AllByRecursion P ((before ++ behind) ++ y ∷ [])
all_moved P before x y behind new all = all_behind P (before ++ behind) y (all_both P before behind (all_front P before (x ∷ behind) all) (all_rest P before (x ∷ behind) all).1) new

pub all_at : {A : Type 0} (P : A → Type 0) (before : List A) (x : A) (behind : List A) → AllByRecursion P (before ++ x ∷ behind) → P x
all_at P before x behind all = (all_rest P before (x ∷ behind) all).0

pub map_kept : {A B : Type 0} (g : A → B) (f : A → A) → ((x : A) → g (f x) ≡ g x) → (xs : List A) → map g (map f xs) ≡ map g xs
map_kept g f same [] = refl
map_kept g f same (x ∷ xs) = ap (λ (y : _). y ∷ map g (map f xs)) (same x) ∙ ap (λ (l : List _). g x ∷ l) (map_kept g f same xs)

-- ---- the wish for a question, and the others

pub record Apart (q : Question) (w : Wish) (ws : List Wish) : Type 0 where
  pub before : List Wish
  pub behind : List Wish
  pub is : ws ≡ before ++ w ∷ behind
  pub left : without_wish q ws ≡ before ++ behind
  pub changed : (f : Wish → Wish) → map (λ v. cond (same_question v.question q) (f v) v) ws ≡ before ++ f w ∷ behind

abbrev AreOthers : Question → List Wish → Type 0
AreOthers u ws = AllByRecursion (λ y. same_question u y ≡ false) (map question_of ws)

none_goes : (q u : Question) (ws : List Wish) → same_question u q ≡ true → AreOthers u ws → without_wish q ws ≡ ws
none_goes q u [] h all = refl
none_goes q u (w ∷ ws) h all =
    let other : same_question w.question q ≡ false = sym (same_as u q w.question h) ∙ not_back u w.question all.0 in
    ap (λ (t : Bool). cond (not t) (w ∷ without_wish q ws) (without_wish q ws)) other ∙ ap (λ (l : List Wish). w ∷ l) (none_goes q u ws h all.1)

none_changes : (f : Wish → Wish) (q u : Question) (ws : List Wish) → same_question u q ≡ true → AreOthers u ws → map (λ v. cond (same_question v.question q) (f v) v) ws ≡ ws
none_changes f q u [] h all = refl
none_changes f q u (w ∷ ws) h all =
    let other : same_question w.question q ≡ false = sym (same_as u q w.question h) ∙ not_back u w.question all.0 in
    ap (λ (t : Bool). cond t (f w) w ∷ map (λ v. cond (same_question v.question q) (f v) v) ws) other ∙ ap (λ (l : List Wish). w ∷ l) (none_changes f q u ws h all.1)

pub apart : (q : Question) (w : Wish) (ws : List Wish) → IsDistinct same_question (map question_of ws) → find (λ v. same_question v.question q) ws ≡ Some w → Apart q w ws
unfolding IsDistinct
apart q w [] different e = absurd cc
apart q w (v ∷ ws) different e = by (same_question v.question q) refl e (apart q w ws different.1)
  where
    by : (b : Bool) → same_question v.question q ≡ b → cond b (Some v) (find (λ u. same_question u.question q) ws) ≡ Some w → (find (λ u. same_question u.question q) ws ≡ Some w → Apart q w ws) → Apart q w (v ∷ ws)
    by true is e rest = record {
      before = [];
      behind = ws;
      is = ap (λ (u : Wish). u ∷ ws) (some_is v w e);
      left = ap (λ (t : Bool). cond (not t) (v ∷ without_wish q ws) (without_wish q ws)) is ∙ none_goes q v.question ws is different.0;
      changed = λ f. ap (λ (t : Bool). cond t (f v) v ∷ map (λ u. cond (same_question u.question q) (f u) u) ws) is
          ∙ ap (λ (l : List Wish). f v ∷ l) (none_changes f q v.question ws is different.0) ∙ ap (λ (u : Wish). f u ∷ ws) (some_is v w e);
    }
    by false is e rest = let a : Apart q w ws = rest e in record {
      before = v ∷ a.before;
      behind = a.behind;
      is = ap (λ (l : List Wish). v ∷ l) a.is;
      left = ap (λ (t : Bool). cond (not t) (v ∷ without_wish q ws) (without_wish q ws)) is ∙ ap (λ (l : List Wish). v ∷ l) a.left;
      changed = λ f. ap (λ (t : Bool). cond t (f v) v ∷ map (λ u. cond (same_question u.question q) (f u) u) ws) is ∙ ap (λ (l : List Wish). v ∷ l) (a.changed f);
    }

question_found : (P : Question → Type 0) (p : Wish → Bool) (ws : List Wish) (w : Wish) → AllByRecursion P (map question_of ws) → find p ws ≡ Some w → P w.question
question_found P p [] w all e = absurd cc
question_found P p (v ∷ ws) w all e = by (p v) e (question_found P p ws w all.1)
  where
    by : (b : Bool) → cond b (Some v) (find p ws) ≡ Some w → (find p ws ≡ Some w → P w.question) → P w.question
    by true e rest = subst (λ (z : Wish). P z.question) (some_is v w e) all.0
    by false e rest = rest e

-- a wish that is found in any way is the one for its question
pub found_own : (p : Wish → Bool) (ws : List Wish) (w : Wish) → IsDistinct same_question (map question_of ws) → find p ws ≡ Some w → find (λ v. same_question v.question w.question) ws ≡ Some w
unfolding IsDistinct
found_own p [] w different e = absurd cc
found_own p (v ∷ ws) w different e = by (p v) e (found_own p ws w different.1)
  where
    by : (b : Bool) → cond b (Some v) (find p ws) ≡ Some w → (find p ws ≡ Some w → find (λ u. same_question u.question w.question) ws ≡ Some w) → cond (same_question v.question w.question) (Some v) (find (λ u. same_question u.question w.question) ws) ≡ Some w
    by true e rest =
        let own : same_question v.question w.question ≡ true = ap (λ (z : Wish). same_question v.question z.question) (sym (some_is v w e)) ∙ question_itself v.question in
        ap (λ (t : Bool). cond t (Some v) (find (λ u. same_question u.question w.question) ws)) own ∙ e
    by false e rest = ap (λ (t : Bool). cond t (Some v) (find (λ u. same_question u.question w.question) ws)) (question_found (λ y. same_question v.question y ≡ false) p ws w different.0 e) ∙ rest e

-- ---- how often an ID is in use

abbrev pub used : ℕ → List Wish → ℕ
used id ws = count_of id (flat_map (λ w. id_in_use w.standing) ws)

abbrev pub own_use : ℕ → Wish → ℕ
own_use id w = count_of id (id_in_use w.standing)

used_more : (id : ℕ) (w : Wish) (ws : List Wish) → used id (w ∷ ws) ≡ own_use id w + used id ws
used_more id w ws = counts id (id_in_use w.standing) (flat_map (λ v. id_in_use v.standing) ws)

used_both : (id : ℕ) (vs ws : List Wish) → used id (vs ++ ws) ≡ used id vs + used id ws
used_both id vs ws = ap (count_of id) (flat_map-append (λ w. id_in_use w.standing) vs ws) ∙ counts id (flat_map (λ w. id_in_use w.standing) vs) (flat_map (λ w. id_in_use w.standing) ws)

used_at : (id : ℕ) (before : List Wish) (w : Wish) (behind : List Wish) → used id (before ++ w ∷ behind) ≡ used id before + (own_use id w + used id behind)
used_at id before w behind = used_both id before (w ∷ behind) ∙ ap (λ n. used id before + n) (used_more id w behind)

pub used_behind : (id : ℕ) (ws : List Wish) (w : Wish) → used id (ws ++ w ∷ []) ≡ used id ws + own_use id w
used_behind id ws w = omega (arith, used_both id ws (w ∷ []), used_more id w [])

pub used_left : (p : Wish → Bool) (ws : List Wish) (id : ℕ) → used id (filter p ws) ≤ used id ws
used_left p [] id = omega arith
used_left p (w ∷ ws) id = by (p w) (used_left p ws id)
  where
    by : (b : Bool) → used id (filter p ws) ≤ used id ws → used id (cond b (w ∷ filter p ws) (filter p ws)) ≤ used id (w ∷ ws)
    by true rest = omega (arith, used_more id w (filter p ws), used_more id w ws, rest)
    by false rest = omega (arith, used_more id w ws, rest)

pub used_map : (f : Wish → Wish) → ((id : ℕ) (w : Wish) → own_use id (f w) ≤ own_use id w) → (ws : List Wish) (id : ℕ) → used id (map f ws) ≤ used id ws
used_map f less [] id = omega arith
used_map f less (w ∷ ws) id = omega (arith, used_more id (f w) (map f ws), used_more id w ws, less id w, used_map f less ws id)

pub used_replaced : (before : List Wish) (w v : Wish) (behind : List Wish) → ((id : ℕ) → own_use id v ≤ own_use id w) → (id : ℕ) → used id (before ++ v ∷ behind) ≤ used id (before ++ w ∷ behind)
used_replaced before w v behind less id = omega (arith, used_at id before w behind, used_at id before v behind, less id)

pub used_moved : (before : List Wish) (w v : Wish) (behind : List Wish) → ((id : ℕ) → own_use id v ≤ own_use id w) → (id : ℕ) → used id ((before ++ behind) ++ v ∷ []) ≤ used id (before ++ w ∷ behind)
used_moved before w v behind less id = omega (arith, used_at id before w behind, used_behind id (before ++ behind) v, used_both id before behind, less id)

pub in_use_counts : (id : ℕ) (ws : List Wish) (c : Connection) → count_of id (ids_in_use ws c) ≡ used id ws + count_of id (option_to_list c.keepalive_out)
in_use_counts id ws c = counts id (flat_map (λ w. id_in_use w.standing) ws) (option_to_list c.keepalive_out)

-- where no ID is in use more often
pub ids_fewer : (ws vs : List Wish) (c d : Connection) → AreIds (ids_in_use ws c) → ((id : ℕ) → used id vs ≤ used id ws) → d.keepalive_out ≡ c.keepalive_out → AreIds (ids_in_use vs d)
ids_fewer ws vs c d are less same = fewer (ids_in_use ws c) (ids_in_use vs d) are
    (λ id. omega (arith, in_use_counts id ws c, in_use_counts id vs d, less id, ap (λ (o : Option ℕ). count_of id (option_to_list o)) same))
