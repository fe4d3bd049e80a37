-- Where first answers end, as it was told last.
--     told-append      of what is told first, and else of the rest
--     front-again, front-put      what is told already, and what is put in front of the others, where both begin alike
--     ends-kept      the ends that the code has are those of a session's subscriptions
use Rattle.std.proofs.Common.{T, eqb→eq, take_all, take-take, length-drop, ◌-◌, ◌≤◌, ◌≡◌, ℕ, ◌+◌, ◌<◌, ◌==◌, Bool, true, false, cond, not, ◌||◌, List, [], ◌∷◌, ◌++◌, length, take, drop, get_or, filter, find, min, Option, Some, None, option_map, refl, sym, ◌∙◌, ap, subst, arith}
use Rattle.std.specs.Prelude.{OnOk, Result, Ok, Err}
use Rattle.std.proofs.lemmas.List.{take-append-drop, take_more}
use Rattle.push_base.specs.Limits.{max_number}
use Rattle.pushserver.specs.PlainHubs.{Subscription, Session, Hub}
use Rattle.pushserver.specs.Hubs.{session_of}
use Rattle.pushserver.specs.KeptHubs.{filled_kept}
use Rattle.pushserver.specs.Observing.{all_filled_of, all_filled_in}
use Rattle.inflight.specs.Ends.{told_end, remembers}
use Rattle.replay.specs.PassedOctets.{subscriptions_in}
use Rattle.replay.specs.KeptExchanges.{has_end, not_told, Remembers}

abbrev Ends : Type 0
Ends = List (ℕ × ℕ)

abbrev first_or : Option ℕ → Option ℕ → Option ℕ
first_or None other = other
first_or (Some n) other = Some n

abbrev is_of : ℕ → ℕ × ℕ → Bool
is_of id e = e.0 == id

pub told-append : (xs ys : Ends) (id : ℕ) → told_end (xs ++ ys) id ≡ first_or (told_end xs id) (told_end ys id)
told-append [] ys id = refl
told-append (x ∷ xs) ys id = by (x.0 == id) (told-append xs ys id)
  where
    by : (b : Bool) → told_end (xs ++ ys) id ≡ first_or (told_end xs id) (told_end ys id)
        → option_map (λ (e : ℕ × ℕ). e.1) (cond b (Some x) (find (is_of id) (xs ++ ys))) ≡ first_or (option_map (λ (e : ℕ × ℕ). e.1) (cond b (Some x) (find (is_of id) xs))) (told_end ys id)
    by true h = refl
    by false h = h

first-twice : (a b : Option ℕ) → first_or a (first_or a b) ≡ first_or a b
first-twice None b = refl
first-twice (Some n) b = refl

-- what is the front already
pub front-again : (told filled : Ends) → filled ≡ told ++ drop (length told) filled → (id : ℕ) → told_end filled id ≡ told_end (told ++ filled) id
front-again told filled is id =
    let rest = drop (length told) filled in
    let whole : told_end filled id ≡ first_or (told_end told id) (told_end rest id) = ap (λ (l : Ends). told_end l id) is ∙ told-append told rest id in
    whole ∙ sym (first-twice (told_end told id) (told_end rest id)) ∙ ap (first_or (told_end told id)) (sym whole) ∙ sym (told-append told filled id)

-- an ID that isn't told is found among those that are left
left-over : (told filled : Ends) (id : ℕ) → has_end told id ≡ false → told_end (filter (not_told told) filled) id ≡ told_end filled id
left-over told [] id none = refl
left-over told (e ∷ es) id none = by (not (has_end told e.0)) refl (e.0 == id) refl (left-over told es id none)
  where
    found : Bool → Ends → Option ℕ
    found b rest = option_map (λ (x : ℕ × ℕ). x.1) (cond b (Some e) (find (is_of id) rest))

    by : (keep : Bool) → not (has_end told e.0) ≡ keep → (same : Bool) → (e.0 == id) ≡ same → told_end (filter (not_told told) es) id ≡ told_end es id
        → told_end (cond keep (e ∷ filter (not_told told) es) (filter (not_told told) es)) id ≡ found same es
    by true k true s h = ap (λ (b : Bool). found b (filter (not_told told) es)) s
    by true k false s h = ap (λ (b : Bool). found b (filter (not_told told) es)) s ∙ h
    by false k true s h = (let wrong : false ≡ true = sym k ∙ ap (λ (n : ℕ). not (has_end told n)) (eqb→eq e.0 id (subst T (sym s) tt)) ∙ ap not none in absurd cc)
    by false k false s h = h

-- an ID that is told is found there
told-there : (told : Ends) (id : ℕ) → has_end told id ≡ true → (a b : Option ℕ) → first_or (told_end told id) a ≡ first_or (told_end told id) b
told-there [] id is a b = absurd cc
told-there (e ∷ es) id is a b = by (e.0 == id) is (told-there es id)
  where
    by : (same : Bool) → (same || has_end es id) ≡ true → (has_end es id ≡ true → (a b : Option ℕ) → first_or (told_end es id) a ≡ first_or (told_end es id) b)
        → first_or (option_map (λ (x : ℕ × ℕ). x.1) (cond same (Some e) (find (is_of id) es))) a ≡ first_or (option_map (λ (x : ℕ × ℕ). x.1) (cond same (Some e) (find (is_of id) es))) b
    by true h rest = refl
    by false h rest = rest h a b

-- an ID that two lists together don't tell is told by neither
neither : (xs ys : Ends) (id : ℕ) → has_end (xs ++ ys) id ≡ false → (has_end xs id ≡ false) × (has_end ys id ≡ false)
neither [] ys id none = (refl, none)
neither (x ∷ xs) ys id none = by (x.0 == id) none (neither xs ys id)
  where
    by : (b : Bool) → (b || has_end (xs ++ ys) id) ≡ false → (has_end (xs ++ ys) id ≡ false → (has_end xs id ≡ false) × (has_end ys id ≡ false)) → ((b || has_end xs id) ≡ false) × (has_end ys id ≡ false)
    by true h rest = absurd cc
    by false h rest = rest h

absent : (xs : Ends) (id : ℕ) → has_end xs id ≡ false → (other : Option ℕ) → first_or (told_end xs id) other ≡ other
absent [] id none other = refl
absent (x ∷ xs) id none other = by (x.0 == id) none (absent xs id)
  where
    by : (b : Bool) → (b || has_end xs id) ≡ false → (has_end xs id ≡ false → (other : Option ℕ) → first_or (told_end xs id) other ≡ other)
        → first_or (option_map (λ (x : ℕ × ℕ). x.1) (cond b (Some x) (find (is_of id) xs))) other ≡ other
    by true h rest = absurd cc
    by false h rest = rest h other

-- both begin alike, and of what was told earlier behind that the IDs that are told now are taken out
pub front-put : (front rest back filled kept later : Ends) → filled ≡ front ++ back → kept ≡ filter (not_told rest) back → later ≡ (front ++ rest) ++ kept
    → (id : ℕ) → told_end later id ≡ told_end ((front ++ rest) ++ filled) id
front-put front rest back filled kept later filled_is kept_is later_is id =
    ap (λ (l : Ends). told_end l id) later_is ∙ told-append (front ++ rest) kept id ∙ by (has_end (front ++ rest) id) refl ∙ sym (told-append (front ++ rest) filled id)
  where
    same : has_end (front ++ rest) id ≡ false → told_end kept id ≡ told_end filled id
    same none =
        let apart = neither front rest id none in
        ap (λ (l : Ends). told_end l id) kept_is ∙ left-over rest back id apart.1
        ∙ sym (absent front id apart.0 (told_end back id)) ∙ sym (told-append front back id) ∙ ap (λ (l : Ends). told_end l id) (sym filled_is)

    by : (b : Bool) → has_end (front ++ rest) id ≡ b → first_or (told_end (front ++ rest) id) (told_end kept id) ≡ first_or (told_end (front ++ rest) id) (told_end filled id)
    by true is = told-there (front ++ rest) id is (told_end kept id) (told_end filled id)
    by false is = ap (first_or (told_end (front ++ rest) id)) (same is)

pub put-then : {E : Type 0} (told filled : Ends) (same : ℕ) (kept later : Ends) (r : Result (Unit {0}) E) → take same told ≡ take same filled → kept ≡ filter (not_told (drop same told)) (drop same filled)
    → OnOk r (later ≡ told ++ kept) → OnOk r ((id : ℕ) → told_end later id ≡ told_end (told ++ filled) id)
put-then told filled same kept later (Ok u) alike kept_is later_is =
    let whole : take same told ++ drop same told ≡ told = take-append-drop same told in
    let was : filled ≡ take same told ++ drop same filled = sym (take-append-drop same filled) ∙ ap (λ (l : Ends). l ++ drop same filled) (sym alike) in
    λ id. front-put (take same told) (drop same told) (drop same filled) filled kept later was kept_is (later_is ∙ ap (λ (l : Ends). l ++ kept) (sym whole)) id
    ∙ ap (λ (l : Ends). told_end (l ++ filled) id) whole
put-then told filled same kept later (Err e) alike kept_is later_is = tt

-- ---- a front, place by place

pub front-more : (told filled : Ends) (i : ℕ) (d : ℕ × ℕ) → i < length told → i < length filled → get_or told i d ≡ get_or filled i d → take i told ≡ take i filled → take (i + 1) told ≡ take (i + 1) filled
front-more told filled i d in_told in_filled same so_far = take_more told i d in_told ∙ (λ j. so_far j ++ same j ∷ []) ∙ sym (take_more filled i d in_filled)

-- so is a shorter one
pub front-less : (told filled : Ends) (n i : ℕ) → n ≤ i → take i told ≡ take i filled → take n told ≡ take n filled
front-less told filled n i all same = sym (take-take n i told all) ∙ ap (take n) same ∙ take-take n i filled all

pub front-whole : (told filled : Ends) (i : ℕ) → length told ≤ i → take i told ≡ take i filled → filled ≡ told ++ drop (length told) filled
front-whole told filled i all same =
    let fronts : told ≡ take (length told) filled = sym (take_all (length told) told (low (length told))) ∙ front-less told filled (length told) i all same in
    sym (take-append-drop (length told) filled) ∙ ap (λ (l : Ends). l ++ drop (length told) filled) (sym fronts)
  where
    low : (n : ℕ) → n ≤ n
    low n = omega arith

-- what is behind a front is as long as the whole without it
pub front-rest : (told : Ends) (n : ℕ) → take (length told - n) (drop n told) ≡ drop n told
front-rest told n = take_all (length told - n) (drop n told) (omega (arith, length-drop n told))

-- ---- the ends that are kept

counted-end : Option ℕ → Option ℕ
counted-end o = option_map (λ n. min n max_number) o

kept-told : (ss : List Subscription) (before : Ends) (plain : Ends) (id : ℕ) → told_end before id ≡ option_map (λ n. min n max_number) (told_end plain id)
    → told_end (filled_kept ss ++ before) id ≡ option_map (λ n. min n max_number) (told_end (remembers ss plain) id)
kept-told [] before plain id h = h
kept-told (s ∷ ss) before plain id h = by (s.id == id) (kept-told ss before plain id h)
  where
    by : (b : Bool) → told_end (filled_kept ss ++ before) id ≡ option_map (λ n. min n max_number) (told_end (remembers ss plain) id)
        → option_map (λ (e : ℕ × ℕ). e.1) (cond b (Some (s.id, min s.filled max_number)) (find (is_of id) (filled_kept ss ++ before)))
        ≡ option_map (λ n. min n max_number) (option_map (λ (e : ℕ × ℕ). e.1) (cond b (Some (s.id, s.filled)) (find (is_of id) (remembers ss plain))))
    by true rest = refl
    by false rest = rest

abbrev subscribed_in : Option Session → List Subscription
subscribed_in o = elim o as (λ _. List Subscription) [ None ↦ [] | Some session ↦ session.subscriptions ]

ends-of : (o : Option Session) → all_filled_of o ≡ filled_kept (subscribed_in o)
ends-of None = refl
ends-of (Some session) = refl

remembers-so : (hub : Hub) (number : ℕ) (told before later : Ends) → told ≡ all_filled_in hub number → ((id : ℕ) → told_end later id ≡ told_end (told ++ before) id) → Remembers hub number (Some before) (Some later)
remembers-so hub number told before later told_is is = λ plain ends id.
    is id ∙ ap (λ (l : Ends). told_end (l ++ before) id) (told_is ∙ ends-of (session_of hub number)) ∙ kept-told (subscriptions_in hub number) before plain id (ends id)

pub remembers-then : {E : Type 0} (hub : Hub) (number : ℕ) (told before later : Ends) (r : Result (Unit {0}) E) → told ≡ all_filled_in hub number → OnOk r ((id : ℕ) → told_end later id ≡ told_end (told ++ before) id) → OnOk r (Remembers hub number (Some before) (Some later))
remembers-then hub number told before later (Ok u) told_is is = remembers-so hub number told before later told_is is
remembers-then hub number told before later (Err e) told_is is = tt
