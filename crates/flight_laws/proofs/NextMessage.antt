-- Where no whole message waits at the client, the next one hasn't arrived whole.
--     never_none, shorter      a stream that begins with a frame has a whole message; one without is shorter than its first frame
--     ends_before_next
use Rattle.std.proofs.Common.{◌≡◌, ℕ, ◌+◌, ◌≤◌, ◌<◌, ◌^◌, Bool, true, false, List, [], ◌∷◌, ◌++◌, length, take, drop, None, ltb, sym, ◌∙◌, ap, subst, refl, arith}
use Rattle.std.proofs.Math.Seq.{take-append_seam}
use Rattle.std.proofs.lemmas.Bool.{ltb-true, ltb-false}
use Rattle.std.proofs.lemmas.List.{append-nil, take-append-drop, take-append-le}
use Rattle.std.proofs.lemmas.List.Elements.{All-nil, All-cons}
use Rattle.dsotlv.specs.Laws.{with_piece}
use Rattle.dsotlv.specs.Messages.{frame, first_message, messages_in}
use Rattle.dsotlv.proofs.StreamLaws.{none_found, cut_anywhere, frames_again}
use Rattle.pushserver.specs.PlainHubs.{size_of_made}
use Rattle.pushclient.specs.ServerMessages.{server_octets}
use Rattle.inflight.specs.Messages.{flying_octets}
use Rattle.flight_laws.specs.Holding.{EndsBeforeNextWhereNoneWaits}

-- a stream that begins with a frame has a whole message
pub never_none : (m : List ℕ) → length m < 2 ^ 16 → (rest : List ℕ) → first_message (frame m ++ rest) ≡ None → ⊥
never_none m small rest none =
    let one : messages_in (frame m) ≡ (m ∷ [], []) = ap messages_in (sym (append-nil (frame m))) ∙ frames_again (m ∷ []) (All-cons (λ message. length message < 2 ^ 16) m [] small (All-nil (λ message. length message < 2 ^ 16))) in
    let whole : messages_in (frame m ++ rest) ≡ with_piece (m ∷ [], []) rest = cut_anywhere (frame m) rest ∙ ap (λ had. with_piece had rest) one in
    let both : m ∷ (messages_in rest).0 ≡ [] = ap (λ x. x.0) (sym whole ∙ none_found (frame m ++ rest) none) in
    absurd cc

-- a stream that begins with the front of a frame
module _ (m input more rest : List ℕ) (small : length m < 2 ^ 16) (begins : input ++ more ≡ frame m ++ rest) (none : first_message input ≡ None) where
  pub shorter : (b : Bool) → ltb (length input) (length (frame m)) ≡ b → length input < length (frame m)
  shorter true is = ltb-true (length input) (length (frame m)) is
  shorter false is =
      let enough : length (frame m) ≤ length input = ltb-false (length input) (length (frame m)) is in
      let front : take (length (frame m)) input ≡ frame m = sym (take-append-le (length (frame m)) input more enough) ∙ ap (take (length (frame m))) begins ∙ take-append_seam (frame m) rest in
      let whole : input ≡ frame m ++ drop (length (frame m)) input = sym (take-append-drop (length (frame m)) input) ∙ ap (λ os. os ++ drop (length (frame m)) input) front in
      absurd (never_none m small (drop (length (frame m)) input) (subst (λ s. first_message s ≡ None) whole none))

pub ends_before_next : EndsBeforeNextWhereNoneWaits
ends_before_next timers taken [] input more readable begins none = tt
ends_before_next timers taken (f ∷ fs) input more readable begins none =
    let m = server_octets timers f.says in
    let less : length input < length (frame m) = shorter m input more (flying_octets timers fs) readable.0.1 begins none (ltb (length input) (length (frame m))) refl in
    added (size_of_made taken) (length input) (length (frame m)) less
  where
    added : (a b c : ℕ) → b < c → a + b < a + c
    added a b c less = omega (arith, less)
