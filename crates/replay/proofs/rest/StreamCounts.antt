-- The whole messages of a stream, one after the other: each leaves a shorter one, until none is left.
--     first-shorter      what is left behind a message is shorter by two octets or more
--     stream-induction      what holds where no message is whole, and stays where one is put in front, holds of every stream
--     rest-has-none      what is left has no whole message
use Rattle.std.proofs.Common.{◌≡◌, ℕ, zero, suc, ◌+◌, ◌≤◌, Bool, true, false, cond, ltb, ltb-false, Option, Some, None, List, length, drop, length-drop, refl, ap, ◌∙◌, arith}
use Rattle.std.specs.Prelude.{slice_range}
use Rattle.rrset.specs.Header.{two_octets}
use Rattle.dsotlv.specs.Messages.{first_message, messages_in}
use Rattle.dsotlv.proofs.Results.{found, same_found}
use Rattle.dsotlv.proofs.FrameLaws.{Split, no_frame}
use Rattle.dsotlv.proofs.StreamLaws.{none_found, one_by_one}

-- a message, and what is left behind it
abbrev pub Parts : Type 0
Parts = List ℕ × List ℕ

abbrev parts_of : ℕ → List ℕ → Parts
parts_of size stream = (slice_range stream 2 (2 + size), drop (2 + size) stream)

shorter-left : (size : ℕ) (stream : List ℕ) (parts : Parts) (cut : Bool) → ltb (length stream) (2 + size) ≡ cut → cond {A = Option Parts} cut None (Some (parts_of size stream)) ≡ found parts → length parts.1 + 2 ≤ length stream
shorter-left size stream parts true c e = absurd cc
shorter-left size stream parts false c e =
    let left : length (drop (2 + size) stream) ≡ length parts.1 = ap (λ (p : Parts). length p.1) (same_found (parts_of size stream) parts e) in
    omega (arith, ltb-false (length stream) (2 + size) c, left, length-drop (2 + size) stream)

-- what is left behind a message is shorter
pub first-shorter : (stream : List ℕ) (parts : Parts) → first_message stream ≡ Some parts → length parts.1 + 2 ≤ length stream
first-shorter stream parts e = shorter-left (two_octets stream 0) stream parts (ltb (length stream) (2 + two_octets stream 0)) refl e

module _ (P : List ℕ → Type 0) (none : (stream : List ℕ) → first_message stream ≡ None → P stream) (more : (stream message rest : List ℕ) → first_message stream ≡ Some (message, rest) → P rest → P stream) where
  upto : (most : ℕ) (stream : List ℕ) → length stream ≤ most → P stream
  upto zero stream few = none stream (no_frame stream (omega (arith, few)))
  upto (suc most) stream few = by (upto most) (first_message stream) refl
    where
      by : ((left : List ℕ) → length left ≤ most → P left) → (first : Option Parts) → first_message stream ≡ first → P stream
      by others None e = none stream e
      by others (Some parts) e = more stream parts.0 parts.1 e (others parts.1 (omega (arith, few, first-shorter stream parts e)))

  pub stream-induction : (stream : List ℕ) → P stream
  stream-induction stream = upto (length stream) stream (omega arith)

pub rest-has-none : (s : List ℕ) → first_message (messages_in s).1 ≡ None
rest-has-none s = stream-induction (λ s. first_message (messages_in s).1 ≡ None) none more s
  where
    none : (s : List ℕ) → first_message s ≡ None → first_message (messages_in s).1 ≡ None
    none s e = ap (λ (x : Split). first_message x.1) (none_found s e) ∙ e

    more : (s message rest : List ℕ) → first_message s ≡ Some (message, rest) → first_message (messages_in rest).1 ≡ None → first_message (messages_in s).1 ≡ None
    more s message rest e none_left = ap (λ (x : Split). first_message x.1) (one_by_one s message rest e) ∙ none_left
