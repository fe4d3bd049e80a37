-- A stream splits into the messages that are found in it.
use Rattle.std.proofs.Common.{◌≡◌, ℕ, zero, suc, ◌+◌, ◌<◌, ◌≤◌, ◌^◌, Bool, true, false, cond, ltb, Option, Some, None, List, [], ◌∷◌, ◌++◌, length, drop, refl, sym, ap, subst, ◌∙◌, append_assoc, arith}
use Rattle.std.specs.Prelude.{flat_map, slice_range}
use Rattle.std.specs.Int.{w16, to_be_bytes}
use Rattle.std.specs.List.{All}
use Rattle.std.proofs.lemmas.Bool.{le-ltb, lt-ltb, ltb-true}
use Rattle.std.proofs.lemmas.Bool.Decides.{nat_tests}
use Rattle.std.proofs.lemmas.List.{length-append}
use Rattle.std.proofs.lemmas.List.Elements.{All-nil, All-cons, All-head, All-tail, All-drop}
use Rattle.std.proofs.lemmas.List.Folds.{drop_split}
use Rattle.rrset.specs.Header.{two_octets}
use Rattle.dsotlv.specs.Messages.{frame, first_message, messages_from, messages_in}
use Rattle.dsotlv.specs.Spelling.{SplitsIntoFrames}
use Rattle.dsotlv.specs.Laws.{AreOctets}
use Rattle.dsotlv.proofs.Results.{found, same_found}
use Rattle.dsotlv.proofs.Numbers.{drop_next, range_at, length-range, two_read, two_there, two_below}

abbrev pub Split : Type 0
Split = List (List ℕ) × List ℕ

ltb_false : (a b : ℕ) → ltb a b ≡ false → b ≤ a
ltb_false a b h = grind (arith, nat_tests)

length-frame : (message : List ℕ) → length (frame message) ≡ 2 + length message
length-frame message = omega arith

-- ---- the first message

frame_read : (message rest stream : List ℕ) → length message < 2 ^ 16 → stream ≡ frame message ++ rest → first_message stream ≡ Some (message, rest)
frame_read message rest stream small e =
    let n : two_octets stream 0 ≡ length message = two_read (length message) stream 0 (message ++ rest) small e in
    let behind : drop 2 stream ≡ message ++ rest = ap (drop 2) e in
    let fits : 2 + length message ≤ length stream = omega (arith, ap length e, length-append (frame message) rest, length-frame message) in
    let taken : slice_range stream 2 (2 + length message) ≡ message = range_at stream 2 (2 + length message) message rest behind refl in
    let left : drop (2 + length message) stream ≡ rest = drop_next stream 2 (2 + length message) message rest behind refl in
    ap (λ (n : ℕ). cond {A = Option (List ℕ × List ℕ)} (ltb (length stream) (2 + n)) None (Some (slice_range stream 2 (2 + n), drop (2 + n) stream))) n
    ∙ ap (λ (t : Bool). cond {A = Option (List ℕ × List ℕ)} t None (Some (slice_range stream 2 (2 + length message), drop (2 + length message) stream))) (le-ltb (length stream) (2 + length message) fits)
    ∙ λ i. Some (taken i, left i)

pub no_frame : (rest : List ℕ) → length rest < 2 + two_octets rest 0 → first_message rest ≡ None
no_frame rest partial = ap (λ (t : Bool). cond {A = Option (List ℕ × List ℕ)} t None (Some (slice_range rest 2 (2 + two_octets rest 0), drop (2 + two_octets rest 0) rest))) (lt-ltb (length rest) (2 + two_octets rest 0) partial)

-- a message that is found, and what is left behind it
record FrameStands (stream message rest : List ℕ) : Type 0 where
  pub small : length message < 2 ^ 16
  pub whole : stream ≡ frame message ++ rest

frame_found : (stream message rest : List ℕ) → AreOctets stream → first_message stream ≡ found (message, rest) → FrameStands stream message rest
frame_found stream message rest below e = by_test (ltb (length stream) (2 + two_octets stream 0)) refl e
  where
    by_test : (cut : Bool) → ltb (length stream) (2 + two_octets stream 0) ≡ cut
        → cond {A = Option (List ℕ × List ℕ)} cut None (Some (slice_range stream 2 (2 + two_octets stream 0), drop (2 + two_octets stream 0) stream)) ≡ found (message, rest) → FrameStands stream message rest
    by_test true c e = absurd cc
    by_test false c e =
        let n = two_octets stream 0 in
        let fits : 2 + n ≤ length stream = ltb_false (length stream) (2 + n) c in
        let taken = slice_range stream 2 (2 + n) in
        let size : length taken ≡ n = omega (arith, length-range stream 2 (2 + n) (omega arith) fits) in
        let first : stream ≡ to_be_bytes w16 n ++ drop 2 stream = two_there stream 0 2 below (omega (arith, fits)) refl in
        let whole : stream ≡ frame taken ++ drop (2 + n) stream = first ∙ ap (λ (xs : List ℕ). to_be_bytes w16 n ++ xs) (drop_split stream 2 (2 + n) (omega arith)) ∙ ap (λ (k : ℕ). to_be_bytes w16 k ++ (taken ++ drop (2 + n) stream)) (sym size) in
        let is : FrameStands stream taken (drop (2 + n) stream) = record { small = subst (λ (k : ℕ). k < 2 ^ 16) (sym size) (two_below stream 0 below); whole = whole } in
        let pair : List ℕ × List ℕ = (taken, drop (2 + n) stream) in
        subst (λ (x : List ℕ × List ℕ). FrameStands stream x.0 x.1) (same_found pair (message, rest) e) is

pub no_frame_found : (stream : List ℕ) → first_message stream ≡ None → length stream < 2 + two_octets stream 0
no_frame_found stream e = by_test (ltb (length stream) (2 + two_octets stream 0)) refl e
  where
    by_test : (cut : Bool) → ltb (length stream) (2 + two_octets stream 0) ≡ cut
        → cond {A = Option (List ℕ × List ℕ)} cut None (Some (slice_range stream 2 (2 + two_octets stream 0), drop (2 + two_octets stream 0) stream)) ≡ None → length stream < 2 + two_octets stream 0
    by_test true c e = ltb-true (length stream) (2 + two_octets stream 0) c
    by_test false c e = absurd cc

-- ---- all messages

-- what is split, by the first message
abbrev pub on_first : ℕ → List ℕ → Option (List ℕ × List ℕ) → Split
on_first more stream None = ([], stream)
on_first more stream (Some found) = (let others = messages_from more found.1 in (found.0 ∷ others.0, others.1))

pub same_step : (more : ℕ) (stream : List ℕ) (first : Option (List ℕ × List ℕ)) → first_message stream ≡ first → messages_from (suc more) stream ≡ on_first more stream first
same_step more stream first e = ap (λ (o : Option (List ℕ × List ℕ)). elim o as (λ _. Split) [ None ↦ ([], stream) | Some found ↦ (let others = messages_from more found.1 in (found.0 ∷ others.0, others.1)) ]) e ∙ by_first first
  where
    by_first : (first : Option (List ℕ × List ℕ)) → elim first as (λ _. Split) [ None ↦ ([], stream) | Some found ↦ (let others = messages_from more found.1 in (found.0 ∷ others.0, others.1)) ] ≡ on_first more stream first
    by_first None = refl
    by_first (Some found) = refl

splits_nothing : (stream : List ℕ) → length stream < 2 + two_octets stream 0 → SplitsIntoFrames stream [] stream
splits_nothing stream partial = record { whole = refl; each = All-nil (λ message. length message < 2 ^ 16); partial = partial }

splits_first : (stream message left : List ℕ) (others : Split) → FrameStands stream message left → SplitsIntoFrames left others.0 others.1 → SplitsIntoFrames stream (message ∷ others.0) others.1
splits_first stream message left others first rest = record {
  whole = first.whole ∙ ap (λ (xs : List ℕ). frame message ++ xs) rest.whole ∙ sym (append_assoc (frame message) (flat_map frame others.0) others.1);
  each = All-cons (λ message. length message < 2 ^ 16) message others.0 first.small rest.each;
  partial = rest.partial;
}

abbrev FindsFrames : ℕ → Type 0
FindsFrames more = (stream : List ℕ) → AreOctets stream → length stream ≤ more → SplitsIntoFrames stream (messages_from more stream).0 (messages_from more stream).1

one_found : (more : ℕ) (stream : List ℕ) (first : Option (List ℕ × List ℕ)) → FindsFrames more → AreOctets stream → length stream ≤ suc more → first_message stream ≡ first
    → SplitsIntoFrames stream (messages_from (suc more) stream).0 (messages_from (suc more) stream).1
one_found more stream None finds below enough e = subst (λ (x : Split). SplitsIntoFrames stream x.0 x.1) (sym (same_step more stream None e)) (splits_nothing stream (no_frame_found stream e))
one_found more stream (Some (message, left)) finds below enough e =
    let first = frame_found stream message left below e in
    let left-is : drop (length (frame message)) stream ≡ left = drop_next stream 0 (length (frame message)) (frame message) left first.whole (omega arith) in
    let left_below : AreOctets left = subst AreOctets left-is (All-drop (λ o. o < 256) (length (frame message)) stream below) in
    let rest = finds left left_below (omega (arith, enough, ap length first.whole, length-append (frame message) left, length-frame message)) in
    subst (λ (x : Split). SplitsIntoFrames stream x.0 x.1) (sym (same_step more stream (Some (message, left)) e)) (splits_first stream message left (messages_from more left) first rest)

all_found : (more : ℕ) → FindsFrames more
all_found zero stream below enough = splits_nothing stream (omega (arith, enough))
all_found (suc more) stream below enough = one_found more stream (first_message stream) (all_found more) below enough refl

pub frames_found : (stream : List ℕ) (messages : List (List ℕ)) (rest : List ℕ) → AreOctets stream → messages_in stream ≡ (messages, rest) → SplitsIntoFrames stream messages rest
frames_found stream messages rest below e = subst (λ (x : Split). SplitsIntoFrames stream x.0 x.1) e (all_found (length stream) stream below (omega arith))

all_there : (more : ℕ) (stream : List ℕ) (messages : List (List ℕ)) (rest : List ℕ) → All (λ message. length message < 2 ^ 16) messages → length rest < 2 + two_octets rest 0 → stream ≡ flat_map frame messages ++ rest → length stream ≤ more
    → messages_from more stream ≡ (messages, rest)
all_there zero stream [] rest small partial e enough = ap (λ (xs : List ℕ). ([], xs)) e
all_there (suc more) stream [] rest small partial e enough = same_step more stream None (ap first_message e ∙ no_frame rest partial) ∙ ap (λ (xs : List ℕ). ([], xs)) e
all_there zero stream (m ∷ ms) rest small partial e enough =
    let whole : stream ≡ frame m ++ (flat_map frame ms ++ rest) = e ∙ append_assoc (frame m) (flat_map frame ms) rest in
    absurd (omega (arith, enough, ap length whole, length-append (frame m) (flat_map frame ms ++ rest), length-frame m))
all_there (suc more) stream (m ∷ ms) rest small partial e enough =
    let left = flat_map frame ms ++ rest in
    let whole : stream ≡ frame m ++ left = e ∙ append_assoc (frame m) (flat_map frame ms) rest in
    let first = frame_read m left stream (All-head (λ message. length message < 2 ^ 16) m ms small) whole in
    let others = all_there more left ms rest (All-tail (λ message. length message < 2 ^ 16) m ms small) partial refl (omega (arith, enough, ap length whole, length-append (frame m) left, length-frame m)) in
    same_step more stream (Some (m, left)) first ∙ ap (λ (x : Split). (m ∷ x.0, x.1)) others

pub frames_there : (stream : List ℕ) (messages : List (List ℕ)) (rest : List ℕ) → SplitsIntoFrames stream messages rest → messages_in stream ≡ (messages, rest)
frames_there stream messages rest splits = all_there (length stream) stream messages rest splits.each splits.partial splits.whole (omega arith)
