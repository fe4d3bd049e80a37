-- Each name that waits for a session is that of a question: what each step does to that, and how many names wait at most.
--     watched-fewer, watched-more, watched-entered, watched-let_go      the steps
--     few-wait      no more names than questions
use Rattle.std.proofs.Common.{◌≡◌, ℕ, ◌≤◌, Bool, true, false, cond, not, ◌||◌, List, [], ◌∷◌, ◌++◌, map, length, Option, Some, None, is_some, refl, sym, ◌∙◌, ap, subst, arith}
use Rattle.std.specs.Prelude.{fold, filter, find, option_map, ◌==◌}
use Rattle.std.specs.Cmp.{IsEquivalence}
use Rattle.std.specs.Str.{bytes_eq}
use Rattle.std.specs.List.{list_any, AllByRecursion, IsDistinct}
use Rattle.std.proofs.lemmas.Bool.{eqb-true}
use Rattle.std.proofs.lemmas.Cmp.{nat_eq_equiv}
use Rattle.std.proofs.lemmas.List.{length-map}
use Rattle.std.proofs.lemmas.List.Folds.{list_any-append}
use Rattle.std.proofs.lemmas.Map.Made.{length-le_from_is_member}
use Rattle.dnsname.specs.Names.{Labels, octets, lower, same_name}
use Rattle.rrset.specs.Records.{matches}
use Rattle.rrset.specs.declared.record.Key.{Key}
use Rattle.rrset.specs.declared.record.Changed.{Changed}
use Rattle.rrset.specs.declared.record.Question.{Question}
use Rattle.rrset.proofs.Places.{all_filter}
use Rattle.zoneupdate.proofs.Owners.{same_name-itself, same_name-for}
use Rattle.history.proofs.Together.{same_name-turned}
use Rattle.pushsession.specs.Sessions.{touched}
use Rattle.pushsession.specs.Reactions.{let_go}
use Rattle.subscr.specs.Asked.{is_id}
use Rattle.pushserver.specs.PlainHubs.{Subscription, Queue, asked_of, asks_for, point_in, leaves_queue, subscription_of, plain_keeps}
use Rattle.pushserver.specs.SoundHubs.{is_watched, AreWatched}
use Rattle.pushserver.proofs.hub_steps.Pairs.{all-weaken}
use Rattle.pushserver.proofs.hub_steps.Queued.{plain_change}
use Rattle.pushserver.proofs.AskedFor.{matches-name}
use Rattle.pushserver.proofs.Queues.{same_name-octets}
use Rattle.pushserver.proofs.session_steps.Lists.{filter-each}

pub watched-fewer : (subscriptions : List Subscription) (p : Labels × ℕ → Bool) (queue : Queue) → AreWatched subscriptions queue → AreWatched subscriptions (filter p queue)
watched-fewer subscriptions p queue all = all_filter (λ (e : Labels × ℕ). is_watched subscriptions e.0 ≡ true) p queue all

pub watched-more : (subscriptions : List Subscription) (new : Subscription) (queue : Queue) → AreWatched subscriptions queue → AreWatched (subscriptions ++ new ∷ []) queue
watched-more subscriptions new queue all =
    all-weaken (λ (e : Labels × ℕ). is_watched subscriptions e.0 ≡ true) (λ (e : Labels × ℕ). is_watched (subscriptions ++ new ∷ []) e.0 ≡ true)
    (λ e h. list_any-append (λ (s : Subscription). same_name s.question.name e.0) subscriptions (new ∷ []) ∙ ap (λ b. b || is_watched (new ∷ []) e.0) h) queue all

-- ---- an entry

asked-watched : (subscriptions : List Subscription) (key : Key) → asks_for subscriptions key ≡ true → is_watched subscriptions key.owner ≡ true
asked-watched [] key asked = absurd cc
asked-watched (s ∷ ss) key asked = by (matches s.question key) refl asked (asked-watched ss key)
  where
    by : (b : Bool) → matches s.question key ≡ b → (b || asks_for ss key) ≡ true → (asks_for ss key ≡ true → is_watched ss key.owner ≡ true) → (same_name s.question.name key.owner || is_watched ss key.owner) ≡ true
    by true is asked rest = ap (λ b. b || is_watched ss key.owner) (matches-name s.question key is)
    by false is asked rest = or_true (same_name s.question.name key.owner) (is_watched ss key.owner) (rest asked)
      where
        or_true : (a b : Bool) → b ≡ true → (a || b) ≡ true
        or_true true b h = refl
        or_true false b h = h

-- the changes of names that are asked for
abbrev AreOfQuestions : List Subscription → List Changed → Type 0
AreOfQuestions subscriptions changed = AllByRecursion (λ (c : Changed). is_watched subscriptions c.key.owner ≡ true) changed

touched-watched : (n : ℕ) (subscriptions : List Subscription) (changed : List Changed) → AreOfQuestions subscriptions (touched (plain_keeps n) subscriptions changed)
touched-watched n subscriptions [] = tt
touched-watched n subscriptions (c ∷ cs) = by (asks_for subscriptions c.key) refl (touched-watched n subscriptions cs)
  where
    rest : List Changed
    rest = filter (λ (c : Changed). asks_for subscriptions c.key) cs

    by : (b : Bool) → asks_for subscriptions c.key ≡ b → AreOfQuestions subscriptions rest → AreOfQuestions subscriptions (cond b (c ∷ rest) rest)
    by true is all = (asked-watched subscriptions c.key is, all)
    by false is all = all

watched-behind : (subscriptions : List Subscription) (queue : Queue) (e : Labels × ℕ) → AreWatched subscriptions queue → is_watched subscriptions e.0 ≡ true → AreWatched subscriptions (queue ++ e ∷ [])
watched-behind subscriptions [] e all is = (is, tt)
watched-behind subscriptions (q ∷ qs) e all is = (all.0, watched-behind subscriptions qs e all.1 is)

watched-fold : (subscriptions : List Subscription) (point : ℕ) (cs : List Changed) (queue : Queue) → AreOfQuestions subscriptions cs → AreWatched subscriptions queue → AreWatched subscriptions (fold (plain_change point) queue cs)
watched-fold subscriptions point [] queue asked all = all
watched-fold subscriptions point (c ∷ cs) queue asked all = watched-fold subscriptions point cs (plain_change point queue c) asked.1 (by (is_some (point_in queue c.key.owner)))
  where
    by : (b : Bool) → AreWatched subscriptions (cond b queue (queue ++ (c.key.owner, point) ∷ []))
    by true = all
    by false = watched-behind subscriptions queue (c.key.owner, point) all asked.0

pub watched-entered : (n point : ℕ) (subscriptions : List Subscription) (changed : List Changed) (queue : Queue) → AreWatched subscriptions queue → AreWatched subscriptions (fold (plain_change point) queue (touched (plain_keeps n) subscriptions changed))
watched-entered n point subscriptions changed queue all = watched-fold subscriptions point (touched (plain_keeps n) subscriptions changed) queue (touched-watched n subscriptions changed) all

-- ---- a question goes

abbrev is_of_id : ℕ → Subscription → Bool
is_of_id id s = s.id == id

abbrev left_of : ℕ → List Subscription → List Subscription
left_of id subscriptions = filter (λ s. not (s.id == id)) subscriptions

-- no two have one ID
abbrev HaveOwn : List Subscription → Type 0
HaveOwn subscriptions = IsDistinct (λ s t. s.id == t.id) subscriptions

pub ids-own : (subscriptions : List Subscription) → IsDistinct (λ e f. is_id f.0 e) (asked_of subscriptions) → HaveOwn subscriptions
unfolding IsDistinct
ids-own [] apart = tt
ids-own (s ∷ ss) apart = (others ss apart.0, ids-own ss apart.1)
  where
    others : (ts : List Subscription) → AllByRecursion (λ (f : ℕ × Question). (s.id == f.0) ≡ false) (asked_of ts) → AllByRecursion (λ (t : Subscription). (s.id == t.id) ≡ false) ts
    others [] h = tt
    others (t ∷ ts) h = (h.0, others ts h.1)

others-stay : (id : ℕ) (s : Subscription) (ss : List Subscription) → (s.id == id) ≡ true → AllByRecursion (λ (t : Subscription). (s.id == t.id) ≡ false) ss → AllByRecursion (λ (t : Subscription). not (t.id == id) ≡ true) ss
others-stay id s [] is all = tt
others-stay id s (t ∷ ts) is all = (ap not (turned t.id ∙ all.0), others-stay id s ts is all.1)
  where
    turned : (other : ℕ) → (other == id) ≡ (s.id == other)
    turned other = subst (λ (i : ℕ). (other == i) ≡ (s.id == other)) (eqb-true s.id id is) (nat_eq_equiv.symm other s.id)

-- a name of a question is one of those that are left, or that of the question which goes
data Stays (id : ℕ) (subscriptions : List Subscription) (name : Labels) : Type 0 where
  still : is_watched (left_of id subscriptions) name ≡ true → Stays id subscriptions name
  last : (s : Subscription) → subscription_of subscriptions id ≡ Some s → same_name s.question.name name ≡ true → Stays id subscriptions name

stays-so : (id : ℕ) (subscriptions : List Subscription) (name : Labels) → HaveOwn subscriptions → is_watched subscriptions name ≡ true → Stays id subscriptions name
unfolding IsDistinct
stays-so id [] name own watched = absurd cc
stays-so id (s ∷ ss) name own watched = by (s.id == id) refl (same_name s.question.name name) refl watched (stays-so id ss name own.1)
  where
    or_true : (a b : Bool) → b ≡ true → (a || b) ≡ true
    or_true true b h = refl
    or_true false b h = h

    by : (b : Bool) → (s.id == id) ≡ b → (m : Bool) → same_name s.question.name name ≡ m → (m || is_watched ss name) ≡ true → (is_watched ss name ≡ true → Stays id ss name) → Stays id (s ∷ ss) name
    by true is true same w rest = last s (ap (λ b. cond b (Some s) (find (is_of_id id) ss)) is) same
    by true is false same w rest = still (ap (λ (l : List Subscription). is_watched l name) (ap (λ b. cond (not b) (s ∷ left_of id ss) (left_of id ss)) is ∙ filter-each (λ (t : Subscription). not (t.id == id)) ss (others-stay id s ss is own.0)) ∙ w)
    by false is true same w rest = still (ap (λ b. is_watched (cond (not b) (s ∷ left_of id ss) (left_of id ss)) name) is ∙ ap (λ b. b || is_watched (left_of id ss) name) same)
    by false is false same w rest = more (rest w)
      where
        more : Stays id ss name → Stays id (s ∷ ss) name
        more (still h) = still (ap (λ b. is_watched (cond (not b) (s ∷ left_of id ss) (left_of id ss)) name) is ∙ or_true (same_name s.question.name name) (is_watched (left_of id ss) name) h)
        more (last t at h) = last t (ap (λ b. cond b (Some s) (find (is_of_id id) ss)) is ∙ at) h

watched-alike : (subscriptions : List Subscription) (a b : Labels) → same_name a b ≡ true → is_watched subscriptions a ≡ is_watched subscriptions b
watched-alike subscriptions a b same = ap (λ o. list_any (λ (s : Subscription). bytes_eq (octets (lower s.question.name)) o) subscriptions) (same_name-octets a b same)

same-found : (s t : Subscription) → Some s ≡ Some t → s ≡ t
same-found s t e = ap (λ (o : Option Subscription). elim o [ None ↦ s | Some x ↦ x ]) e

module _ (id : ℕ) (subscriptions : List Subscription) (own : HaveOwn subscriptions) where
  unfound : (name : Labels) → subscription_of subscriptions id ≡ None → Stays id subscriptions name → is_watched (left_of id subscriptions) name ≡ true
  unfound name is (still h) = h
  unfound name is (last t at h) = let none : None ≡ Some t = sym is ∙ at in absurd cc

  none-goes : subscription_of subscriptions id ≡ None → (q : Queue) → AreWatched subscriptions q → AreWatched (left_of id subscriptions) q
  none-goes is [] h = tt
  none-goes is (e ∷ es) h = (unfound e.0 is (stays-so id subscriptions e.0 own h.0), none-goes is es h.1)

module _ (id : ℕ) (subscriptions : List Subscription) (own : HaveOwn subscriptions) (s : Subscription) (is : subscription_of subscriptions id ≡ Some s) where
  kept : is_watched (left_of id subscriptions) s.question.name ≡ true → (name : Labels) → Stays id subscriptions name → is_watched (left_of id subscriptions) name ≡ true
  kept there name (still h) = h
  kept there name (last t at h) = sym (watched-alike (left_of id subscriptions) s.question.name name (ap (λ (x : Subscription). same_name x.question.name name) (same-found s t (sym is ∙ at)) ∙ h)) ∙ there

  stays : is_watched (left_of id subscriptions) s.question.name ≡ true → (q : Queue) → AreWatched subscriptions q → AreWatched (left_of id subscriptions) q
  stays there [] h = tt
  stays there (e ∷ es) h = (kept there e.0 (stays-so id subscriptions e.0 own h.0), stays there es h.1)

  other : (name : Labels) → same_name s.question.name name ≡ false → Stays id subscriptions name → is_watched (left_of id subscriptions) name ≡ true
  other name differs (still h) = h
  other name differs (last t at h) = let both : true ≡ false = sym h ∙ ap (λ (x : Subscription). same_name x.question.name name) (same-found t s (sym at ∙ is)) ∙ differs in absurd cc

  goes : (q : Queue) → AreWatched subscriptions q → AreWatched (left_of id subscriptions) (leaves_queue s.question.name q)
  goes [] h = tt
  goes (e ∷ es) h = by (same_name s.question.name e.0) refl (goes es h.1)
    where
      by : (b : Bool) → same_name s.question.name e.0 ≡ b → AreWatched (left_of id subscriptions) (leaves_queue s.question.name es) → AreWatched (left_of id subscriptions) (cond (not b) (e ∷ leaves_queue s.question.name es) (leaves_queue s.question.name es))
      by true same rest = rest
      by false differs rest = (other e.0 differs (stays-so id subscriptions e.0 own h.0), rest)

  either : (queue : Queue) → AreWatched subscriptions queue → (b : Bool) → is_watched (left_of id subscriptions) s.question.name ≡ b → AreWatched (left_of id subscriptions) (cond b queue (leaves_queue s.question.name queue))
  either queue all true there = stays there queue all
  either queue all false there = goes queue all

pub watched-let_go : (n id : ℕ) (subscriptions : List Subscription) (queue : Queue) → HaveOwn subscriptions → AreWatched subscriptions queue
    → AreWatched (left_of id subscriptions) (let_go (plain_keeps n) ((plain_keeps n).question_of id subscriptions) (left_of id subscriptions) queue)
watched-let_go n id subscriptions queue own all = by (subscription_of subscriptions id) refl
  where
    by : (o : Option Subscription) → subscription_of subscriptions id ≡ o → AreWatched (left_of id subscriptions) (let_go (plain_keeps n) (option_map (λ (s : Subscription). s.question) o) (left_of id subscriptions) queue)
    by None is = none-goes id subscriptions own is queue all
    by (Some s) is = either id subscriptions own s is queue all (is_watched (left_of id subscriptions) s.question.name) refl

-- ---- no more names than questions

same_names : IsEquivalence same_name
same_names = record {
  refl = same_name-itself;
  symm = same_name-turned;
  congr = same_name-for;
}

names-apart : (queue : Queue) → IsDistinct (λ d e. same_name e.0 d.0) queue → IsDistinct same_name (map (λ (e : Labels × ℕ). e.0) queue)
unfolding IsDistinct
names-apart [] apart = tt
names-apart (e ∷ es) apart = (others es apart.0, names-apart es apart.1)
  where
    others : (q : Queue) → AllByRecursion (λ (d : Labels × ℕ). same_name d.0 e.0 ≡ false) q → AllByRecursion (λ (name : Labels). same_name e.0 name ≡ false) (map (λ (d : Labels × ℕ). d.0) q)
    others [] h = tt
    others (d ∷ ds) h = (same_name-turned e.0 d.0 ∙ h.0, others ds h.1)

named : (subscriptions : List Subscription) (name : Labels) → is_watched subscriptions name ≡ list_any (same_name name) (map (λ (s : Subscription). s.question.name) subscriptions)
named [] name = refl
named (s ∷ ss) name = λ i. same_name-turned s.question.name name i || named ss name i

member-watched : (subscriptions : List Subscription) (queue : Queue) (name : Labels) → AreWatched subscriptions queue → list_any (same_name name) (map (λ (e : Labels × ℕ). e.0) queue) ≡ true → is_watched subscriptions name ≡ true
member-watched subscriptions [] name all there = absurd cc
member-watched subscriptions (e ∷ es) name all there = by (same_name name e.0) refl there (member-watched subscriptions es name all.1)
  where
    by : (b : Bool) → same_name name e.0 ≡ b → (b || list_any (same_name name) (map (λ (e : Labels × ℕ). e.0) es)) ≡ true → (list_any (same_name name) (map (λ (e : Labels × ℕ). e.0) es) ≡ true → is_watched subscriptions name ≡ true) → is_watched subscriptions name ≡ true
    by true same there rest = watched-alike subscriptions name e.0 same ∙ all.0
    by false differs there rest = rest there

pub few-wait : (subscriptions : List Subscription) (queue : Queue) → IsDistinct (λ d e. same_name e.0 d.0) queue → AreWatched subscriptions queue → length queue ≤ length subscriptions
few-wait subscriptions queue apart all =
    let few = length-le_from_is_member same_names (map (λ (e : Labels × ℕ). e.0) queue) (map (λ (s : Subscription). s.question.name) subscriptions) (names-apart queue apart)
    (λ name there. sym (named subscriptions name) ∙ member-watched subscriptions queue name all there) in
    omega (arith, few, length-map queue (λ (e : Labels × ℕ). e.0), length-map subscriptions (λ (s : Subscription). s.question.name))
