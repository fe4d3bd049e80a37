-- The reasons of a session whose question goes.
--     kept-reasons      those stay whose ID still asks
--     none-gone      where as many questions are there, none is gone
use Rattle.std.proofs.Common.{◌≡◌, ◌⊎◌, ℕ, ◌+◌, ◌≤◌, ◌<◌, Bool, true, false, cond, not, ◌&&◌, ◌||◌, List, [], ◌∷◌, ◌++◌, length, map, filter, Option, Some, None, refl, sym, ap, subst, ◌∙◌, arith}
use Rattle.std.specs.Prelude.{slice_get, flat_map, ◌==◌}
use Rattle.std.specs.List.{list_any}
use Rattle.rrset.specs.declared.record.Question.{Question}
use Rattle.subscr.specs.Asked.{Asked, has, without}
use Rattle.linkcache.specs.Links.{LinkState}
use Rattle.linkask.specs.Reasons.{question_on}
use Rattle.linkreasons.specs.AllReasons.{with_those}
use Rattle.linkreasons.specs.declared.reason.Reason.{Reason}
use Rattle.history.specs.States.{State, home_of}
use Rattle.history.specs.declared.entry.Home.{Home}
use Rattle.history.specs.declared.entry.Home.TheVariants as homes
use Rattle.livesessions.proofs.SessionLists.{same-number, number-itself}
use Rattle.hubasking.specs.KeptReasons.{reasons_at, reasons_for, reasons_of}

-- an ID is there afterwards where it was there and didn't go
has-left : (id gone : ℕ) (asked : Asked) → has id (without gone asked) ≡ (not (id == gone) && has id asked)
has-left id gone [] = by (id == gone)
  where
    by : (b : Bool) → false ≡ (not b && false)
    by true = refl
    by false = refl
has-left id gone (e ∷ es) = by (e.0 == gone) refl (e.0 == id) refl (id == gone) refl (has-left id gone es)
  where
    by : (a : Bool) → (e.0 == gone) ≡ a → (b : Bool) → (e.0 == id) ≡ b → (c : Bool) → (id == gone) ≡ c → has id (without gone es) ≡ (not c && has id es)
        → has id (cond (not a) (e ∷ without gone es) (without gone es)) ≡ (not c && (b || has id es))
    by true ga true gb true gc rest = rest
    by true ga true gb false gc rest =
        let wrong : false ≡ true = sym gc ∙ ap (λ (n : ℕ). n == gone) (sym (same-number e.0 id gb)) ∙ ga in absurd cc
    by true ga false gb true gc rest = rest
    by true ga false gb false gc rest = rest
    by false ga true gb true gc rest =
        let wrong : false ≡ true = sym ga ∙ ap (λ (n : ℕ). n == gone) (same-number e.0 id gb) ∙ gc in absurd cc
    by false ga true gb false gc rest = ap (λ (b : Bool). b || has id (without gone es)) gb
    by false ga false gb true gc rest = ap (λ (b : Bool). b || has id (without gone es)) gb ∙ rest
    by false ga false gb false gc rest = ap (λ (b : Bool). b || has id (without gone es)) gb ∙ rest

-- the reasons of one question have its ID
of-id : (later : Asked) (id i : ℕ) (qs : List Question) (b : Bool) → has id later ≡ b → with_those later (map (λ (q : Question). record { id = id; link = i; question = q }) qs) ≡ cond b (map (λ (q : Question). record { id = id; link = i; question = q }) qs) []
of-id later id i [] true is = refl
of-id later id i [] false is = refl
of-id later id i (q ∷ qs) true is =
    ap (λ (b : Bool). cond b ((record { id = id; link = i; question = q }) ∷ with_those later (map (λ (q : Question). record { id = id; link = i; question = q }) qs)) (with_those later (map (λ (q : Question). record { id = id; link = i; question = q }) qs))) is
    ∙ ap (λ (rs : List Reason). (record { id = id; link = i; question = q }) ∷ rs) (of-id later id i qs true is)
of-id later id i (q ∷ qs) false is =
    ap (λ (b : Bool). cond b ((record { id = id; link = i; question = q }) ∷ with_those later (map (λ (q : Question). record { id = id; link = i; question = q }) qs)) (with_those later (map (λ (q : Question). record { id = id; link = i; question = q }) qs))) is
    ∙ of-id later id i qs false is

none-of : (b : Bool) → ◌≡◌ {A = List Reason} [] (cond b [] [])
none-of true = refl
none-of false = refl

at-home : (later : Asked) (id : ℕ) (question : Question) (ls : List LinkState) (h : Option Home) → with_those later (reasons_at id question ls h) ≡ cond (has id later) (reasons_at id question ls h) []
at-home later id question ls None = none-of (has id later)
at-home later id question ls (Some (homes.Zone i)) = none-of (has id later)
at-home later id question ls (Some (homes.Link i)) = by (slice_get ls i)
  where
    by : (o : Option LinkState) → with_those later (elim o as (λ _. List Reason) [ None ↦ [] | Some l ↦ map (λ (q : Question). record { id = id; link = i; question = q }) (question_on l.rules.domain question) ])
        ≡ cond (has id later) (elim o as (λ _. List Reason) [ None ↦ [] | Some l ↦ map (λ (q : Question). record { id = id; link = i; question = q }) (question_on l.rules.domain question) ]) []
    by None = none-of (has id later)
    by (Some l) = of-id later id i (question_on l.rules.domain question) (has id later) refl

those-append : (later : Asked) (xs ys : List Reason) → with_those later (xs ++ ys) ≡ with_those later xs ++ with_those later ys
those-append later [] ys = refl
those-append later (x ∷ xs) ys = by (has x.id later) (those-append later xs ys)
  where
    by : (b : Bool) → with_those later (xs ++ ys) ≡ with_those later xs ++ with_those later ys → cond b (x ∷ with_those later (xs ++ ys)) (with_those later (xs ++ ys)) ≡ cond b (x ∷ with_those later xs) (with_those later xs) ++ with_those later ys
    by true rest = ap (λ (rs : List Reason). x ∷ rs) rest
    by false rest = rest

has-more : (id : ℕ) (e : ℕ × Question) (es : Asked) → has id es ≡ true → has id (e ∷ es) ≡ true
has-more id e es is = by (e.0 == id)
  where
    by : (b : Bool) → (b || has id es) ≡ true
    by true = refl
    by false = is

-- the questions of a part, all of which are there
part-reasons : (state : State) (all : Asked) (gone : ℕ) (part : Asked) → ((id : ℕ) → has id part ≡ true → has id all ≡ true) → with_those (without gone all) (reasons_of state part) ≡ reasons_of state (without gone part)
part-reasons state all gone [] there = refl
part-reasons state all gone (e ∷ es) there =
    those-append (without gone all) (reasons_for state e) (reasons_of state es)
    ∙ (λ i. (at-home (without gone all) e.0 e.1 state.links (home_of state e.1.name) ∙ ap (λ (b : Bool). cond b (reasons_for state e) []) left) i ++ part-reasons state all gone es (λ id is. there id (has-more id e es is)) i)
    ∙ by (e.0 == gone)
  where
    here : has e.0 (e ∷ es) ≡ true
    here = ap (λ (b : Bool). b || has e.0 es) (number-itself e.0)

    true-right : (b : Bool) → (b && true) ≡ b
    true-right true = refl
    true-right false = refl

    left : has e.0 (without gone all) ≡ not (e.0 == gone)
    left = has-left e.0 gone all ∙ ap (λ (b : Bool). not (e.0 == gone) && b) (there e.0 here) ∙ true-right (not (e.0 == gone))

    by : (b : Bool) → cond (not b) (reasons_for state e) [] ++ reasons_of state (without gone es) ≡ reasons_of state (cond (not b) (e ∷ without gone es) (without gone es))
    by true = refl
    by false = refl

pub kept-reasons : (state : State) (asked : Asked) (gone : ℕ) → with_those (without gone asked) (reasons_of state asked) ≡ reasons_of state (without gone asked)
kept-reasons state asked gone = part-reasons state asked gone asked (λ id is. is)

-- those of all questions that are there
all-part : (state : State) (all part : Asked) → ((id : ℕ) → has id part ≡ true → has id all ≡ true) → with_those all (reasons_of state part) ≡ reasons_of state part
all-part state all [] there = refl
all-part state all (e ∷ es) there =
    those-append all (reasons_for state e) (reasons_of state es)
    ∙ (λ i. (at-home all e.0 e.1 state.links (home_of state e.1.name) ∙ ap (λ (b : Bool). cond b (reasons_for state e) []) (there e.0 (ap (λ (b : Bool). b || has e.0 es) (number-itself e.0)))) i ++ all-part state all es (λ id is. there id (has-more id e es is)) i)

pub all-reasons : (state : State) (asked : Asked) → with_those asked (reasons_of state asked) ≡ reasons_of state asked
all-reasons state asked = all-part state asked asked (λ id is. is)

pub no-reasons : (reasons : List Reason) → with_those [] reasons ≡ []
no-reasons [] = refl
no-reasons (r ∷ rs) = no-reasons rs

-- as many or fewer
fewer-left : (gone : ℕ) (asked : Asked) → length (without gone asked) ≤ length asked
fewer-left gone [] = omega arith
fewer-left gone (e ∷ es) = by (e.0 == gone) (fewer-left gone es)
  where
    by : (b : Bool) → length (without gone es) ≤ length es → length (cond (not b) (e ∷ without gone es) (without gone es)) ≤ length (e ∷ es)
    by true rest = omega (arith, rest)
    by false rest = omega (arith, rest)

-- where as many are there, none is gone
pub none-gone : (gone : ℕ) (asked : Asked) → length asked ≤ length (without gone asked) → without gone asked ≡ asked
none-gone gone [] many = refl
none-gone gone (e ∷ es) many = by (e.0 == gone) (λ more. none-gone gone es more) many
  where
    by : (b : Bool) → (length es ≤ length (without gone es) → without gone es ≡ es) → length (e ∷ es) ≤ length (cond (not b) (e ∷ without gone es) (without gone es)) → cond (not b) (e ∷ without gone es) (without gone es) ≡ e ∷ es
    by true rest h = absurd (omega (arith, h, fewer-left gone es))
    by false rest h = ap (λ (l : Asked). e ∷ l) (rest (omega (arith, h)))
