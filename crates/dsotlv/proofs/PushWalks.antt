-- The walk over the records of a PUSH.
use Rattle.std.proofs.Common.{◌≡◌, ℕ, zero, suc, ◌+◌, ◌<◌, ◌≤◌, Bool, true, false, eqb, List, [], ◌∷◌, ◌++◌, length, Result, Ok, Err, refl, sym, ap, ◌∙◌, append_assoc, arith}
use Rattle.std.proofs.lemmas.Bool.{ne_eqb, eq-eqb}
use Rattle.push_base.specs.Cases.{◌>>=◌}
use Rattle.dsotlv.specs.declared.message.Notice.{Notice}
use Rattle.dsotlv.specs.declared.message.PushFault.{PushFault}
use Rattle.dsotlv.specs.Notices.{notice_at, notices_from, notices_of}
use Rattle.dsotlv.proofs.Results.{done}

-- what is read behind the notices that were read
abbrev pub before : List Notice → Result (List Notice) PushFault → Result (List Notice) PushFault
before front (Ok others) = Ok (front ++ others)
before front (Err fault) = Err fault

-- what is read, by whether the data ends behind the notice
abbrev pub by_end : ℕ → List ℕ → Notice → ℕ → Bool → Result (List Notice) PushFault
by_end more text notice after test = elim test [
  | true ↦ Ok (notice ∷ [])
  | false ↦ notices_from more text after >>= λ others. Ok (notice ∷ others)
]

abbrev pub on_notice : ℕ → List ℕ → Result (Notice × ℕ) PushFault → Result (List Notice) PushFault
on_notice more text r = r >>= λ first. by_end more text first.0 first.1 (eqb first.1 (length text))

-- one record, and then the others
pub notices-one : (more : ℕ) (text : List ℕ) (at : ℕ) → notices_from (suc more) text at ≡ on_notice more text (notice_at text at)
notices-one more text at = refl

pub notices-last : (more : ℕ) (text : List ℕ) (at : ℕ) (notice : Notice) (after : ℕ) → notice_at text at ≡ done (notice, after) → after ≡ length text → notices_from (suc more) text at ≡ Ok (notice ∷ [])
notices-last more text at notice after e ends = notices-one more text at ∙ ap (on_notice more text) e ∙ ap (by_end more text notice after) (eq-eqb after (length text) ends)

pub notices-more : (more : ℕ) (text : List ℕ) (at : ℕ) (notice : Notice) (after : ℕ) → notice_at text at ≡ done (notice, after) → (after ≡ length text → ⊥) → notices_from (suc more) text at ≡ before (notice ∷ []) (notices_from more text after)
notices-more more text at notice after e goes_on = notices-one more text at ∙ ap (on_notice more text) e ∙ ap (by_end more text notice after) (ne_eqb after (length text) goes_on) ∙ with_others notice (notices_from more text after)
  where
    with_others : (notice : Notice) (r : Result (List Notice) PushFault) → (r >>= λ others. Ok (notice ∷ others)) ≡ before (notice ∷ []) r
    with_others notice (Ok others) = refl
    with_others notice (Err fault) = refl

-- ---- as far as a loop has come

-- the notices that were read so far stand before what is read on
pub record ReadSoFar (text : List ℕ) (place : ℕ) (read : List Notice) : Type 0 where
  pub more : ℕ
  pub within : place ≤ length text
  pub enough : length text ≤ place + more
  pub same : notices_of text ≡ before read (notices_from (suc more) text place)

pub begins : (text : List ℕ) → ReadSoFar text 0 []
begins text = record { more = length text; within = omega arith; enough = omega arith; same = bound ∙ nothing_before (notices_from (suc (length text)) text 0) }
  where
    bound : notices_of text ≡ notices_from (suc (length text)) text 0
    bound = let one : length text + 1 ≡ suc (length text) = omega arith in ap (λ (n : ℕ). notices_from n text 0) one

    nothing_before : (r : Result (List Notice) PushFault) → r ≡ before [] r
    nothing_before (Ok others) = refl
    nothing_before (Err fault) = refl

before_both : (front : List Notice) (notice : Notice) (r : Result (List Notice) PushFault) → before front (before (notice ∷ []) r) ≡ before (front ++ notice ∷ []) r
before_both front notice (Ok others) = ap (λ (notices : List Notice). Ok notices) (sym (append_assoc front (notice ∷ []) others))
before_both front notice (Err fault) = refl

pub more : (text : List ℕ) (place : ℕ) (read : List Notice) (notice : Notice) (after : ℕ) → ReadSoFar text place read → notice_at text place ≡ done (notice, after) → place < after → after ≤ length text → (after ≡ length text → ⊥)
    → ReadSoFar text after (read ++ notice ∷ [])
more text place read notice after so_far e onward within goes_on = by_bound so_far.more so_far.enough so_far.same
  where
    by_bound : (bound : ℕ) → length text ≤ place + bound → notices_of text ≡ before read (notices_from (suc bound) text place) → ReadSoFar text after (read ++ notice ∷ [])
    by_bound zero enough same = absurd (omega (arith, enough, onward, within))
    by_bound (suc bound) enough same = record {
      more = bound;
      within = within;
      enough = omega (arith, enough, onward);
      same = same ∙ ap (before read) (notices-more (suc bound) text place notice after e goes_on) ∙ before_both read notice (notices_from (suc bound) text after);
    }
