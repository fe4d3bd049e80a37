-- What a stream of octets is to its whole messages and to the rest behind them.
--     whole-again, few-messages      the messages behind their lengths, and the rest, are the stream
--     rest-octets, rest-waits, short-rest      the rest is octets, and few, without a whole message
--     behind-first      behind the first message there are octets, too
--     first-of-frames      the first message of a front of frames is that of the first of them
use Rattle.std.proofs.Common.{◌≡◌, sym, ◌∙◌, ℕ, ◌+◌, ◌<◌, ◌≤◌, ◌^◌, Bool, true, false, cond, ltb, Option, Some, None, List, [], ◌∷◌, ◌++◌, length, drop, refl, ap, subst, arith}
use Rattle.std.specs.Prelude.{flat_map, slice_range}
use Rattle.std.proofs.lemmas.Bool.{le-ltb}
use Rattle.std.proofs.lemmas.List.{take_at, drop_at, length-append}
use Rattle.std.proofs.lemmas.List.Elements.{All-take, All-drop, All-append}
use Rattle.rrset.specs.Header.{two_octets}
use Rattle.dsotlv.specs.Laws.{AreOctets}
use Rattle.dsotlv.specs.Messages.{frame, first_message, messages_in}
use Rattle.dsotlv.proofs.FrameLaws.{no_frame, no_frame_found, frames_found}
use Rattle.dsotlv.proofs.Numbers.{two_below, two_read, drop_next, range_at}
use Rattle.dsotlv.proofs.Results.{same_found}
use Rattle.dsotlv.proofs.StreamLaws.{whole_stays}

-- ---- octets

pub octets-front : (front behind : List ℕ) → AreOctets (front ++ behind) → AreOctets front
octets-front front behind below = subst AreOctets (take_at front behind (length front) refl) (All-take (λ o. o < 256) (length front) (front ++ behind) below)

pub octets-behind : (front behind : List ℕ) → AreOctets (front ++ behind) → AreOctets behind
octets-behind front behind below = subst AreOctets (drop_at front behind (length front) refl) (All-drop (λ o. o < 256) (length front) (front ++ behind) below)

pub octets-both : (front behind : List ℕ) → AreOctets front → AreOctets behind → AreOctets (front ++ behind)
octets-both front behind first second = All-append (λ o. o < 256) front behind first second

-- ---- the messages and the rest

pub whole-again : (stream : List ℕ) → AreOctets stream → stream ≡ flat_map frame (messages_in stream).0 ++ (messages_in stream).1
whole-again stream below = (frames_found stream (messages_in stream).0 (messages_in stream).1 below refl).whole

pub rest-octets : (stream : List ℕ) → AreOctets stream → AreOctets (messages_in stream).1
rest-octets stream below = octets-behind (flat_map frame (messages_in stream).0) (messages_in stream).1 (subst AreOctets (whole-again stream below) below)

pub rest-waits : (stream : List ℕ) → AreOctets stream → first_message (messages_in stream).1 ≡ None
rest-waits stream below = no_frame (messages_in stream).1 (frames_found stream (messages_in stream).0 (messages_in stream).1 below refl).partial

-- octets without a whole message are fewer than a longest frame
pub short-rest : (stream : List ℕ) → AreOctets stream → first_message stream ≡ None → length stream ≤ 65536
short-rest stream below none = omega (arith, no_frame_found stream none, two_below stream 0 below)

pub length-rest : (stream : List ℕ) → AreOctets stream → length (messages_in stream).1 ≤ length stream
length-rest stream below = omega (arith, ap (λ (s : List ℕ). length s) (whole-again stream below), length-append (flat_map frame (messages_in stream).0) (messages_in stream).1)

few-framed : (messages : List (List ℕ)) → length messages ≤ length (flat_map frame messages)
few-framed [] = omega arith
few-framed (m ∷ ms) = omega (arith, few-framed ms, length-append (frame m) (flat_map frame ms))

pub few-messages : (stream : List ℕ) → AreOctets stream → length (messages_in stream).0 ≤ length stream
few-messages stream below =
    omega (arith, ap (λ (s : List ℕ). length s) (whole-again stream below), length-append (flat_map frame (messages_in stream).0) (messages_in stream).1, few-framed (messages_in stream).0)

pub behind-first : (stream message rest : List ℕ) → AreOctets stream → first_message stream ≡ Some (message, rest) → AreOctets rest
behind-first stream message rest below e = by (ltb (length stream) (2 + two_octets stream 0)) e
  where
    by : (cut : Bool) → cond {A = Option (List ℕ × List ℕ)} cut None (Some (slice_range stream 2 (2 + two_octets stream 0), drop (2 + two_octets stream 0) stream)) ≡ Some (message, rest) → AreOctets rest
    by true e = absurd cc
    by false e = subst (λ (p : List ℕ × List ℕ). AreOctets p.1) (same_found (slice_range stream 2 (2 + two_octets stream 0), drop (2 + two_octets stream 0) stream) (message, rest) e)
        (All-drop (λ o. o < 256) (2 + two_octets stream 0) stream below)

frame-first : (message others stream : List ℕ) → length message < 2 ^ 16 → stream ≡ frame message ++ others → first_message stream ≡ Some (message, others)
frame-first message others stream small e =
    let size : two_octets stream 0 ≡ length message = two_read (length message) stream 0 (message ++ others) small e in
    let behind : drop 2 stream ≡ message ++ others = ap (drop 2) e in
    let fits : 2 + length message ≤ length stream = omega (arith, ap (λ (s : List ℕ). length s) e, length-append (frame message) others) in
    let taken : slice_range stream 2 (2 + length message) ≡ message = range_at stream 2 (2 + length message) message others behind refl in
    let left : drop (2 + length message) stream ≡ others = drop_next stream 2 (2 + length message) message others behind refl in
    ap (λ (n : ℕ). cond {A = Option (List ℕ × List ℕ)} (ltb (length stream) (2 + n)) None (Some (slice_range stream 2 (2 + n), drop (2 + n) stream))) size
    ∙ ap (λ (t : Bool). cond {A = Option (List ℕ × List ℕ)} t None (Some (slice_range stream 2 (2 + length message), drop (2 + length message) stream))) (le-ltb (length stream) (2 + length message) fits)
    ∙ λ i. Some (taken i, left i)

pub first-of-frames : (input whole rest behind message others : List ℕ) → first_message input ≡ Some (whole, rest) → input ++ behind ≡ frame message ++ others → length message < 2 ^ 16 → (whole ≡ message) × (rest ++ behind ≡ others)
first-of-frames input whole rest behind message others first e small =
    let same : (whole, rest ++ behind) ≡ (message, others) = same_found (whole, rest ++ behind) (message, others) (sym (whole_stays input behind whole rest first) ∙ frame-first message others (input ++ behind) small e) in
    (ap (λ (p : List ℕ × List ℕ). p.0) same, ap (λ (p : List ℕ × List ℕ). p.1) same)
