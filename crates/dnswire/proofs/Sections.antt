-- Entries that are read one behind the other.
use Rattle.std.proofs.Common.{◌≡◌, ℕ, suc, ◌+◌, ◌-◌, ◌<◌, List, [], ◌∷◌, ◌++◌, Result, Ok, Err, refl, sym, ap, ◌∙◌, append_assoc, arith}
use Rattle.dnswire.specs.Reading.{several}
use Rattle.dnswire.specs.Gives.{GivesWire}
use Rattle.dnswire.specs.declared.message.WireFault.{WireFault}
use Rattle.dnswire.specs.declared.message.WireFault.TheVariants.{Short, Trailing, Name, Rdata, NoMemory}

abbrev pub Reader : Type 0 → Type 0
Reader X = List ℕ → ℕ → Result (X × ℕ) WireFault

abbrev pub ahead : {X : Type 0} → List X → Result (List X × ℕ) WireFault → Result (List X × ℕ) WireFault
ahead front (Ok found) = Ok (front ++ found.0, found.1)
ahead front (Err fault) = Err fault

abbrev pub entry : {X : Type 0} → X → ℕ → Result (X × ℕ) WireFault
entry x after = Ok (x, after)

-- the entries, where the first is what was read
abbrev first_and : {X : Type 0} → Reader X → ℕ → List ℕ → Result (X × ℕ) WireFault → Result (List X × ℕ) WireFault
first_and read n message (Ok first) = ahead (first.0 ∷ []) (several read n message first.1)
first_and read n message (Err fault) = Err fault

several-first : {X : Type 0} (read : Reader X) (n : ℕ) (message : List ℕ) (p : ℕ) → several read (suc n) message p ≡ first_and read n message (read message p)
several-first {X} read n message p = by_first (read message p) refl
  where
    by_others : (x : X) (at : ℕ) → (others : Result (List X × ℕ) WireFault) → several read n message at ≡ others → read message p ≡ entry x at → several read (suc n) message p ≡ ahead (x ∷ []) others
    by_others x at (Ok others) o e = rw (e, o) refl
    by_others x at (Err fault) o e = rw (e, o) refl

    by_first : (first : Result (X × ℕ) WireFault) → read message p ≡ first → several read (suc n) message p ≡ first_and read n message first
    by_first (Ok first) e = by_others first.0 first.1 (several read n message first.1) refl e
    by_first (Err fault) e = rw e refl

ahead-ahead : {X : Type 0} (a b : List X) (r : Result (List X × ℕ) WireFault) → ahead (a ++ b) r ≡ ahead a (ahead b r)
ahead-ahead {X} a b (Ok found) = ap (λ (x : List X). Ok (x, found.1)) (append_assoc a b found.0)
ahead-ahead a b (Err fault) = refl

pub section_turn : {X : Type 0} (read : Reader X) (message : List ℕ) (count i p after : ℕ) (front : List X) (x : X) (whole : Result (List X × ℕ) WireFault) → i < count → read message p ≡ entry x after
    → ahead front (several read (count - i) message p) ≡ whole → ahead (front ++ x ∷ []) (several read (count - (i + 1)) message after) ≡ whole
section_turn {X} read message count i p after front x whole h e so_far =
    let left : count - i ≡ suc (count - (i + 1)) = omega arith in
    ahead-ahead front (x ∷ []) (several read (count - (i + 1)) message after)
    ∙ ap (ahead front) (sym (ap (λ (n : ℕ). several read n message p) left ∙ several-first read (count - (i + 1)) message p ∙ ap (first_and read (count - (i + 1)) message) e))
    ∙ so_far

stop_at : {X : Type 0} (read : Reader X) (message : List ℕ) (count i p : ℕ) (front : List X) (fault : WireFault) (whole : Result (List X × ℕ) WireFault) → i < count → read message p ≡ Err fault
    → ahead front (several read (count - i) message p) ≡ whole → whole ≡ Err fault
stop_at {X} read message count i p front fault whole h e so_far =
    let left : count - i ≡ suc (count - (i + 1)) = omega arith in
    sym so_far ∙ ap (ahead front) (ap (λ (n : ℕ). several read n message p) left ∙ several-first read (count - (i + 1)) message p ∙ ap (first_and read (count - (i + 1)) message) e)

pub section_stop : {X : Type 0} (read : Reader X) (message : List ℕ) (count i p : ℕ) (front : List X) (fault : WireFault) (whole : Result (List X × ℕ) WireFault) → i < count
    → GivesWire {X = X × ℕ} (Err fault) (read message p) → ahead front (several read (count - i) message p) ≡ whole → GivesWire {X = List X × ℕ} (Err fault) whole
section_stop read message count i p front NoMemory whole h e so_far = tt
section_stop read message count i p front (Short q) whole h e so_far = stop_at read message count i p front (Short q) whole h e so_far
section_stop read message count i p front (Trailing q) whole h e so_far = stop_at read message count i p front (Trailing q) whole h e so_far
section_stop read message count i p front (Name f) whole h e so_far = stop_at read message count i p front (Name f) whole h e so_far
section_stop read message count i p front (Rdata q) whole h e so_far = stop_at read message count i p front (Rdata q) whole h e so_far
