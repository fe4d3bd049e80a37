-- A stream that comes in pieces gives the messages of the whole.
use Rattle.std.proofs.Common.{◌≡◌, ℕ, zero, suc, ◌+◌, ◌-◌, ◌<◌, ◌≤◌, ◌^◌, Bool, true, false, cond, ltb, Option, Some, None, List, [], ◌∷◌, ◌++◌, length, take, drop, refl, sym, ap, subst, ◌∙◌, append_assoc, arith}
use Rattle.std.specs.Prelude.{flat_map, fold, option_map, slice_range, IsSome}
use Rattle.std.specs.Int.{w16, from_be_bytes}
use Rattle.std.specs.List.{All, concat}
use Rattle.std.proofs.lemmas.Bool.{le-ltb, ltb-false}
use Rattle.std.proofs.lemmas.List.{length-append, length-drop, take-append-le, drop-append-le, append-nil}
use Rattle.rrset.specs.Header.{two_octets}
use Rattle.dsotlv.specs.Messages.{frame, first_message, messages_from, messages_in}
use Rattle.dsotlv.specs.Laws.{AreOctets, with_piece}
use Rattle.dsotlv.proofs.FrameLaws.{Split, same_step, no_frame, frames_there}
use Rattle.dsotlv.proofs.Results.{found, same_found}
use Rattle.dsotlv.proofs.Numbers.{two_below}

abbrev Parts : Type 0
Parts = List ℕ × List ℕ

-- ---- the first message

-- the length that stands first
abbrev size_of : List ℕ → ℕ
size_of stream = two_octets stream 0

abbrev parts_of : ℕ → List ℕ → Parts
parts_of size stream = (slice_range stream 2 (2 + size), drop (2 + size) stream)

first_is : (stream : List ℕ) → 2 + size_of stream ≤ length stream → first_message stream ≡ found (parts_of (size_of stream) stream)
first_is stream fits = ap (λ (t : Bool). cond {A = Option Parts} t None (Some (parts_of (size_of stream) stream))) (le-ltb (length stream) (2 + size_of stream) fits)

-- where a first message is whole
record FirstStands (stream : List ℕ) (parts : Parts) : Type 0 where
  pub fits : 2 + size_of stream ≤ length stream
  pub same : parts_of (size_of stream) stream ≡ parts

first_stands : (stream : List ℕ) (parts : Parts) → first_message stream ≡ found parts → FirstStands stream parts
first_stands stream parts e = by_test (ltb (length stream) (2 + size_of stream)) refl e
  where
    by_test : (cut : Bool) → ltb (length stream) (2 + size_of stream) ≡ cut → cond {A = Option Parts} cut None (Some (parts_of (size_of stream) stream)) ≡ found parts → FirstStands stream parts
    by_test true c e = absurd cc
    by_test false c e = record { fits = ltb-false (length stream) (2 + size_of stream) c; same = same_found (parts_of (size_of stream) stream) parts e }

-- what is left is shorter
left_shorter : (stream : List ℕ) (parts : Parts) → first_message stream ≡ found parts → length parts.1 + 2 ≤ length stream
left_shorter stream parts e =
    let stands = first_stands stream parts e in
    let left : length (drop (2 + size_of stream) stream) ≡ length parts.1 = ap (λ (p : Parts). length p.1) stands.same in
    omega (arith, stands.fits, left, length-drop (2 + size_of stream) stream)

size-append : (stream behind : List ℕ) → 2 ≤ length stream → size_of (stream ++ behind) ≡ size_of stream
size-append stream behind long = ap (from_be_bytes w16) (take-append-le 2 stream behind long)

parts-append : (size : ℕ) (stream behind : List ℕ) → 2 + size ≤ length stream → parts_of size (stream ++ behind) ≡ ((parts_of size stream).0, (parts_of size stream).1 ++ behind)
parts-append size stream behind fits =
    let back : drop 2 (stream ++ behind) ≡ drop 2 stream ++ behind = drop-append-le 2 stream behind (omega (arith, fits)) in
    let fits_back : 2 + size - 2 ≤ length (drop 2 stream) = omega (arith, fits, length-drop 2 stream) in
    let message : slice_range (stream ++ behind) 2 (2 + size) ≡ slice_range stream 2 (2 + size) = ap (take (2 + size - 2)) back ∙ take-append-le (2 + size - 2) (drop 2 stream) behind fits_back in
    let left : drop (2 + size) (stream ++ behind) ≡ drop (2 + size) stream ++ behind = drop-append-le (2 + size) stream behind fits in
    λ i. (message i, left i)

-- a first message that is whole stays first, whatever follows
pub whole_stays : (stream behind message rest : List ℕ) → first_message stream ≡ Some (message, rest) → first_message (stream ++ behind) ≡ Some (message, rest ++ behind)
whole_stays stream behind message rest e =
    let stands = first_stands stream (message, rest) e in
    let size = size-append stream behind (omega (arith, stands.fits)) in
    let long : length stream ≤ length (stream ++ behind) = omega (arith, length-append stream behind) in
    let fits : 2 + size_of (stream ++ behind) ≤ length (stream ++ behind) = omega (arith, size, stands.fits, long) in
    let same : parts_of (size_of stream) (stream ++ behind) ≡ (message, rest ++ behind) = parts-append (size_of stream) stream behind stands.fits ∙ ap (λ (p : Parts). (p.0, p.1 ++ behind)) stands.same in
    first_is (stream ++ behind) fits ∙ ap (λ (n : ℕ). found (parts_of n (stream ++ behind))) size ∙ ap (λ (p : Parts). found p) same

-- a message, and what is left behind it
pub both_parts : (first : Option Parts) (message rest : List ℕ) → option_map (λ f. f.0) first ≡ found message → option_map (λ f. f.1) first ≡ found rest → first ≡ Some (message, rest)
both_parts None message rest m r = absurd cc
both_parts (Some parts) message rest m r = λ i. Some (same_found parts.0 message m i, same_found parts.1 rest r i)

-- octets of a longest frame have a whole message
pub long_is_whole : (stream : List ℕ) → AreOctets stream → 65537 ≤ length stream → IsSome (first_message stream)
long_is_whole stream below long = subst (λ (o : Option Parts). IsSome o) (sym (first_is stream (omega (arith, long, two_below stream 0 below)))) refl

-- ---- all messages

-- a bound that is long enough is as good as another
same_bound : (most other : ℕ) (stream : List ℕ) → length stream ≤ most → length stream ≤ other → messages_from most stream ≡ messages_from other stream
same_bound zero zero stream enough fits = refl
same_bound zero (suc other) stream enough fits = sym (same_step other stream None (no_frame stream (omega (arith, enough))))
same_bound (suc most) zero stream enough fits = same_step most stream None (no_frame stream (omega (arith, fits)))
same_bound (suc most) (suc other) stream enough fits = by_first (λ left few small. same_bound most other left few small) (first_message stream) refl
  where
    by_first : ((left : List ℕ) → length left ≤ most → length left ≤ other → messages_from most left ≡ messages_from other left) → (first : Option Parts) → first_message stream ≡ first
        → messages_from (suc most) stream ≡ messages_from (suc other) stream
    by_first others None e = same_step most stream None e ∙ sym (same_step other stream None e)
    by_first others (Some parts) e =
        let shorter = left_shorter stream parts e in
        same_step most stream (Some parts) e
        ∙ ap (λ (x : Split). (parts.0 ∷ x.0, x.1)) (others parts.1 (omega (arith, shorter, enough)) (omega (arith, shorter, fits)))
        ∙ sym (same_step other stream (Some parts) e)

pub none_found : (stream : List ℕ) → first_message stream ≡ None → messages_in stream ≡ ([], stream)
none_found stream e = by_length (length stream) refl
  where
    by_length : (n : ℕ) → length stream ≡ n → messages_from n stream ≡ ([], stream)
    by_length zero is = refl
    by_length (suc n) is = same_step n stream None e

pub one_by_one : (stream message rest : List ℕ) → first_message stream ≡ Some (message, rest) → messages_in stream ≡ (message ∷ (messages_in rest).0, (messages_in rest).1)
one_by_one stream message rest e =
    let shorter = left_shorter stream (message, rest) e in
    let others : messages_from (length stream) rest ≡ messages_in rest = same_bound (length stream) (length rest) rest (omega (arith, shorter)) (omega arith) in
    same_bound (length stream) (suc (length stream)) stream (omega arith) (omega arith)
    ∙ same_step (length stream) stream (Some (message, rest)) e
    ∙ ap (λ (x : Split). (message ∷ x.0, x.1)) others

-- what a reader that takes the first message out has read, and what it has still to read
pub taken_out : (stream message rest : List ℕ) → option_map (λ f. f.0) (first_message stream) ≡ Some message → option_map (λ f. f.1) (first_message stream) ≡ Some rest
    → messages_in stream ≡ (message ∷ (messages_in rest).0, (messages_in rest).1)
taken_out stream message rest m r = one_by_one stream message rest (both_parts (first_message stream) message rest m r)

-- ---- cuts

none_before : (front behind : List ℕ) → first_message front ≡ None → messages_in (front ++ behind) ≡ with_piece (messages_in front) behind
none_before front behind e = ap (λ (x : Split). with_piece x behind) (sym (none_found front e))

some_before : (front behind : List ℕ) (parts : Parts) → first_message front ≡ found parts → messages_in (parts.1 ++ behind) ≡ with_piece (messages_in parts.1) behind → messages_in (front ++ behind) ≡ with_piece (messages_in front) behind
some_before front behind parts e others =
    one_by_one (front ++ behind) parts.0 (parts.1 ++ behind) (whole_stays front behind parts.0 parts.1 e)
    ∙ ap (λ (x : Split). (parts.0 ∷ x.0, x.1)) others
    ∙ ap (λ (x : Split). with_piece x behind) (sym (one_by_one front parts.0 parts.1 e))

abbrev CutAt : List ℕ → List ℕ → Type 0
CutAt behind front = messages_in (front ++ behind) ≡ with_piece (messages_in front) behind

cut_before : (most : ℕ) (behind front : List ℕ) → length front ≤ most → CutAt behind front
cut_before zero behind front enough = none_before front behind (no_frame front (omega (arith, enough)))
cut_before (suc most) behind front enough = by_first (cut_before most behind) (first_message front) refl
  where
    by_first : ((left : List ℕ) → length left ≤ most → CutAt behind left) → (first : Option Parts) → first_message front ≡ first → CutAt behind front
    by_first others None e = none_before front behind e
    by_first others (Some parts) e = some_before front behind parts e (others parts.1 (omega (arith, enough, left_shorter front parts e)))

pub cut_anywhere : (front behind : List ℕ) → messages_in (front ++ behind) ≡ with_piece (messages_in front) behind
cut_anywhere front behind = cut_before (length front) behind front (omega arith)

pieces_behind : (pieces : List (List ℕ)) (front : List ℕ) → fold with_piece (messages_in front) pieces ≡ messages_in (front ++ concat pieces)
pieces_behind [] front = ap messages_in (sym (append-nil front))
pieces_behind (piece ∷ pieces) front =
    ap (λ (x : Split). fold with_piece x pieces) (sym (cut_anywhere front piece))
    ∙ pieces_behind pieces (front ++ piece)
    ∙ ap messages_in (append_assoc front piece (concat pieces))

pub all_pieces : (pieces : List (List ℕ)) → fold with_piece ([], []) pieces ≡ messages_in (concat pieces)
all_pieces pieces = pieces_behind pieces []

-- ---- frames

pub frames_again : (messages : List (List ℕ)) → All (λ message. length message < 2 ^ 16) messages → messages_in (flat_map frame messages) ≡ (messages, [])
frames_again messages small = frames_there (flat_map frame messages) messages [] (record { whole = sym (append-nil (flat_map frame messages)); each = small; partial = omega arith })
