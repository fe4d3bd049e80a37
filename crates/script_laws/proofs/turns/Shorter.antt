-- Lists that a filter makes shorter, and input without its first message.
--     filter-short, filter-less      no longer; shorter where one that is found isn't kept
--     rest-shorter      behind the first message
use Rattle.std.proofs.Common.{◌≡◌, ℕ, ◌+◌, ◌-◌, ◌<◌, ◌≤◌, Bool, true, false, cond, not, List, [], ◌∷◌, length, drop, ltb, Option, Some, None, refl, ◌∙◌, ap, subst, arith, length-drop}
use Rattle.std.specs.Prelude.{find, filter, slice_range}
use Rattle.std.proofs.lemmas.Bool.Decides.{nat_tests}
use Rattle.dnsname.specs.Names.{same_name}
use Rattle.rrset.specs.declared.record.Question.{Question}
use Rattle.pushsession.specs.Reactions.{let_go}
use Rattle.pushserver.specs.PlainHubs.{Subscription, Queue, plain_keeps}
use Rattle.pushserver.specs.SoundHubs.{is_watched}
use Rattle.rrset.specs.Header.{two_octets}
use Rattle.dsotlv.specs.Messages.{first_message}
use Rattle.dsotlv.proofs.Results.{same_found}

pub filter-short : {A : Type 0} (p : A → Bool) (xs : List A) → length (filter p xs) ≤ length xs
filter-short p [] = omega arith
filter-short {A} p (x ∷ xs) = by (p x) (filter-short p xs)
  where
    by : (b : Bool) → length (filter p xs) ≤ length xs → length (cond {A = List A} b (x ∷ filter p xs) (filter p xs)) ≤ length (x ∷ xs)
    by true short = omega (arith, short)
    by false short = omega (arith, short)

pub filter-less : {A : Type 0} (p q : A → Bool) (y : A) (xs : List A) → find q xs ≡ Some y → p y ≡ false → length (filter p xs) < length xs
filter-less p q y [] found gone = absurd cc
filter-less {A} p q y (x ∷ xs) found gone = by (q x) found (filter-less p q y xs)
  where
    kept : (b : Bool) → length (filter p xs) < length xs → length (cond {A = List A} b (x ∷ filter p xs) (filter p xs)) < length (x ∷ xs)
    kept true less = omega (arith, less)
    kept false less = omega (arith, less)

    dropped : (b : Bool) → b ≡ false → length (filter p xs) ≤ length xs → length (cond {A = List A} b (x ∷ filter p xs) (filter p xs)) < length (x ∷ xs)
    dropped true is short = absurd cc
    dropped false is short = omega (arith, short)

    by : (b : Bool) → cond b (Some x) (find q xs) ≡ Some y → (find q xs ≡ Some y → p y ≡ false → length (filter p xs) < length xs) → length (filter p (x ∷ xs)) < length (x ∷ xs)
    by true is others = dropped (p x) (ap p (same_found x y is) ∙ gone) (filter-short p xs)
    by false is others = kept (p x) (others is gone)

-- where a question goes, no further name waits
pub let_go-short : (n : ℕ) (o : Option Question) (left : List Subscription) (queue : Queue) → length (let_go (plain_keeps n) o left queue) ≤ length queue
let_go-short n None left queue = omega arith
let_go-short n (Some question) left queue = by (is_watched left question.name)
  where
    by : (b : Bool) → length (cond {A = Queue} b queue (filter (λ e. not (same_name question.name e.0)) queue)) ≤ length queue
    by true = omega arith
    by false = filter-short (λ e. not (same_name question.name e.0)) queue

not-below : (a b : ℕ) → ltb a b ≡ false → b ≤ a
not-below a b h = grind (arith, nat_tests)

pub rest-shorter : (input whole rest : List ℕ) → first_message input ≡ Some (whole, rest) → length rest < length input
rest-shorter input whole rest first = by (ltb (length input) (2 + n)) refl first
  where
    n : ℕ
    n = two_octets input 0

    by : (b : Bool) → ltb (length input) (2 + n) ≡ b → cond {A = Option (List ℕ × List ℕ)} b None (Some (slice_range input 2 (2 + n), drop (2 + n) input)) ≡ Some (whole, rest) → length rest < length input
    by true is found = absurd cc
    by false is found =
        second-is (slice_range input 2 (2 + n), drop (2 + n) input) (whole, rest) found (shorter (length input) n (length (drop (2 + n) input)) (length-drop (2 + n) input) (not-below (length input) (2 + n) is))
      where
        second-is : (x y : List ℕ × List ℕ) → Some x ≡ Some y → length x.1 < length input → length y.1 < length input
        second-is x y is less = subst (λ (z : List ℕ × List ℕ). length z.1 < length input) (same_found x y is) less

        shorter : (all size left : ℕ) → left ≡ all - (2 + size) → 2 + size ≤ all → left < all
        shorter all size left is fits = omega (arith, is, fits)
