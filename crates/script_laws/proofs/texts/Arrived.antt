-- The frames that have reached a client whole are the messages that it took.
--     within-taken      of the octets of some messages, and fewer than those of the next
--     arrived-taken      a client that is joined
use Rattle.std.proofs.Common.{◌≡◌, ℕ, ◌+◌, ◌-◌, ◌<◌, Bool, true, false, List, [], ◌∷◌, ◌++◌, map, length, Some, refl, ap, ◌∙◌, arith}
use Rattle.std.specs.Prelude.{nat_le, if◌then◌else◌}
use Rattle.std.proofs.lemmas.Bool.{le-leb, lt-leb}
use Rattle.std.proofs.lemmas.List.Sums.{sum_by-cons}
use Rattle.dsosession.specs.declared.session.Timers.{Timers}
use Rattle.pushserver.specs.PlainHubs.{Made, frame_of, size_of_made}
use Rattle.inflight.specs.Messages.{Flying, made_of}
use Rattle.flight_laws.specs.Holding.{EndsBeforeNext}
use Rattle.flight_laws.proofs.NextMessage.{ends_before_next}
use Rattle.replay.specs.World.{whole_within, last_of}
use Rattle.script_laws.specs.Texts.{ArrivedAreTaken}

-- so many octets are fewer than those of the first of these messages, if there is one
abbrev pub StopsShort : ℕ → List Made → Type 0
StopsShort k [] = Unit {0}
StopsShort k (m ∷ ms) = k < length (frame_of m)

abbrev within_by : Bool → Made → List Made → List Made
within_by b m ms = if b then m ∷ ms else []

pub within-taken : (taken more : List Made) (k : ℕ) → StopsShort k more → whole_within (size_of_made taken + k) (taken ++ more) ≡ taken
within-taken [] [] k short = refl
within-taken [] (m ∷ ms) k short = ap (λ b. within_by b m (whole_within (0 + k - length (frame_of m)) ms)) (too_long (length (frame_of m)) k short)
  where
    too_long : (n k : ℕ) → k < n → nat_le n (0 + k) ≡ false
    too_long n k less = lt-leb n (0 + k) (omega (arith, less))
within-taken (t ∷ ts) more k short =
    ap (λ n. whole_within (n + k) (t ∷ (ts ++ more))) (sum_by-cons (λ m. length (frame_of m)) t ts)
    ∙ ap (λ b. within_by b t (whole_within (length (frame_of t) + size_of_made ts + k - length (frame_of t)) (ts ++ more))) (fits (length (frame_of t)) (size_of_made ts) k)
    ∙ ap (λ n. t ∷ whole_within n (ts ++ more)) (left (length (frame_of t)) (size_of_made ts) k)
    ∙ ap (λ ms. t ∷ ms) (within-taken ts more k short)
  where
    fits : (a b k : ℕ) → nat_le a (a + b + k) ≡ true
    fits a b k = le-leb a (a + b + k) (omega arith)

    left : (a b k : ℕ) → a + b + k - a ≡ b + k
    left a b k = omega arith

stops : (timers : Timers) (taken : List Made) (flying : List Flying) (k : ℕ) → EndsBeforeNext timers taken flying (size_of_made taken + k) → StopsShort k (map (made_of timers) flying)
stops timers taken [] k ends = tt
stops timers taken (f ∷ fs) k ends = less (size_of_made taken) k (length (frame_of (made_of timers f))) ends
  where
    less : (a k n : ℕ) → a + k < a + n → k < n
    less a k n e = omega (arith, e)

pub arrived-taken : ArrivedAreTaken
arrived-taken hub shown seat number session c j none =
    let i = j.flight in
    let ends : EndsBeforeNext hub.timers i.taken i.flying (size_of_made i.taken + length c.input) =
    ends_before_next hub.timers i.taken i.flying c.input (seat.down_wire ++ session.output) i.fit.down.readable i.whole_down none in
    ap (λ n. whole_within n session.made) j.reached ∙ ap (whole_within (size_of_made i.taken + length c.input)) i.made
    ∙ within-taken i.taken (map (made_of hub.timers) i.flying) (length c.input) (stops hub.timers i.taken i.flying (length c.input) ends)

pub last-behind : {X : Type 0} (before : List X) (last : X) → last_of (before ++ last ∷ []) ≡ Some last
last-behind [] last = refl
last-behind (x ∷ []) last = refl
last-behind (x ∷ y ∷ ys) last = last-behind (y ∷ ys) last
