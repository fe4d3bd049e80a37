-- The laws of sessions.
use Rattle.std.proofs.Common.{◌≡◌, ◌∙◌, ℕ, zero, suc, ◌-◌, Bool, true, false, cond, List, [], ◌∷◌, ◌++◌, map, length, take, Option, Some, is_some, refl, sym, ap, arith, append_assoc}
use Rattle.std.specs.Prelude.{◌||◌, ◌==◌, find, option_map}
use Rattle.std.specs.List.{list_any}
use Rattle.std.proofs.lemmas.List.{append-nil, length-append, length-take}
use Rattle.push_base.specs.Limits.{max_input}
use Rattle.coalesce.specs.Waiting.{WaitingName}
use Rattle.coalesce.proofs.GoingBack.{changes_go, older_stay}
use Rattle.pushsession.specs.Sessions.{SessionOf, is_open, with_piece, touched}
use Rattle.pushsession.specs.Kept.{Filled, filled_of, keeping}
use Rattle.pushsession.specs.Laws.{NotesGoBack, PiecesAreOne, EachQuestionHasItsEnd}

-- ---- what was noted

pub notes_go_back : NotesGoBack
notes_go_back changed point session older =
    ap (λ (q : List WaitingName). record session { queue = q }) (changes_go point (touched keeping session.subscriptions changed) session.queue ∙ older_stay point session.queue older)

-- ---- pieces

take_two : (n : ℕ) (first second : List ℕ) → take n first ++ take (n - length first) second ≡ take n (first ++ second)
take_two zero first second = let none : zero - length first ≡ zero = omega arith in ap (λ (k : ℕ). take k second) none
take_two (suc n) [] second = let all : suc n - zero ≡ suc n = omega arith in ap (λ (k : ℕ). take k second) all
take_two (suc n) (x ∷ first) second =
    let less : suc n - suc (length first) ≡ n - length first = omega arith in
    ap (λ (l : List ℕ). x ∷ l) (ap (λ (k : ℕ). take n first ++ take k second) less ∙ take_two n first second)

pieces_fit : (n : ℕ) (input first second : List ℕ)
    → (input ++ take (n - length input) first) ++ take (n - length (input ++ take (n - length input) first)) second ≡ input ++ take (n - length input) (first ++ second)
pieces_fit n input first second =
    let room = n - length input in
    let left : n - length (input ++ take room first) ≡ room - length first = omega (arith, length-append input (take room first), length-take room first) in
    ap (λ (k : ℕ). (input ++ take room first) ++ take k second) left
    ∙ append_assoc input (take room first) (take (room - length first) second)
    ∙ ap (λ (l : List ℕ). input ++ l) (take_two room first second)

pieces_in : (open' : Bool) (input first second : List ℕ)
    → (input ++ take (cond open' (max_input - length input) 0) first) ++ take (cond open' (max_input - length (input ++ take (cond open' (max_input - length input) 0) first)) 0) second
    ≡ input ++ take (cond open' (max_input - length input) 0) (first ++ second)
pieces_in true input first second = pieces_fit max_input input first second
pieces_in false input first second = append-nil (input ++ [])

-- whatever a session keeps
pub pieces_join : {A Q M : Type 0} (first second : List ℕ) (session : SessionOf A Q M) → with_piece second (with_piece first session) ≡ with_piece (first ++ second) session
pieces_join first second session = ap (λ (i : List ℕ). record session { input = i }) (pieces_in (is_open session.standing) session.input first second)

pub pieces_are_one : PiecesAreOne
pieces_are_one = pieces_join

-- ---- ends

any_id : {X : Type 0} (id : ℕ) (xs : List (ℕ × X)) → list_any (λ e. e.0 == id) xs ≡ list_any (λ n. n == id) (map (λ e. e.0) xs)
any_id id [] = refl
any_id id (x ∷ xs) = ap (λ (b : Bool). (x.0 == id) || b) (any_id id xs)

found_or : (b : Bool) (x : ℕ × ℕ) (rest : Option (ℕ × ℕ)) (any : Bool) → is_some (option_map (λ e. e.1) rest) ≡ any → is_some (option_map (λ (e : ℕ × ℕ). e.1) (cond b (Some x) rest)) ≡ (b || any)
found_or true x rest any e = refl
found_or false x rest any e = e

found_any : (id : ℕ) (filled : Filled) → is_some (filled_of id filled) ≡ list_any (λ e. e.0 == id) filled
found_any id [] = refl
found_any id (x ∷ xs) = found_or (x.0 == id) x (find (λ e. e.0 == id) xs) (list_any (λ e. e.0 == id) xs) (found_any id xs)

pub each_question_has_its_end : EachQuestionHasItsEnd
each_question_has_its_end id asked filled ends = found_any id filled ∙ any_id id filled ∙ ap (list_any (λ n. n == id)) ends ∙ sym (any_id id asked)
