-- What is left of a stream behind its whole messages: octets, and no whole message.
--     rest-octets      the octets that are left are octets
--     short-rest      octets without a whole message are few
--     cut_behind      a stream that is cut somewhere: the messages of the former part, and then those of its rest with the latter
use Rattle.std.proofs.Common.{◌≡◌, ℕ, ◌<◌, ◌≤◌, List, ◌++◌, length, None, refl, sym, ◌∙◌, ap, subst, arith, append_assoc}
use Rattle.std.specs.Prelude.{flat_map}
use Rattle.std.proofs.lemmas.List.{take_at, drop_at}
use Rattle.std.proofs.lemmas.List.Elements.{All-take, All-drop, All-append}
use Rattle.dsotlv.specs.Laws.{AreOctets}
use Rattle.dsotlv.specs.Messages.{frame, first_message, messages_in}
use Rattle.dsotlv.proofs.FrameLaws.{Split, no_frame_found, frames_found}
use Rattle.dsotlv.proofs.StreamLaws.{cut_anywhere}
use Rattle.dsotlv.proofs.Numbers.{two_below}

-- ---- octets

pub octets-front : (front behind : List ℕ) → AreOctets (front ++ behind) → AreOctets front
octets-front front behind below = subst AreOctets (take_at front behind (length front) refl) (All-take (λ o. o < 256) (length front) (front ++ behind) below)

pub octets-behind : (front behind : List ℕ) → AreOctets (front ++ behind) → AreOctets behind
octets-behind front behind below = subst AreOctets (drop_at front behind (length front) refl) (All-drop (λ o. o < 256) (length front) (front ++ behind) below)

pub octets-both : (front behind : List ℕ) → AreOctets front → AreOctets behind → AreOctets (front ++ behind)
octets-both front behind first second = All-append (λ o. o < 256) front behind first second

-- octets without a whole message are fewer than a longest frame
pub short-rest : (stream : List ℕ) → AreOctets stream → first_message stream ≡ None → length stream ≤ 65536
short-rest stream below none = omega (arith, no_frame_found stream none, two_below stream 0 below)

-- ---- what is left

pub rest-octets : (stream : List ℕ) → AreOctets stream → AreOctets (messages_in stream).1
rest-octets stream below =
    let split = frames_found stream (messages_in stream).0 (messages_in stream).1 below refl in
    octets-behind (flat_map frame (messages_in stream).0) (messages_in stream).1 (subst AreOctets split.whole below)

-- ---- a stream that is cut: a front, and a piece before what is behind

-- the messages of the front and the piece, and of what is left of them with what is behind
abbrev pub first_part : List ℕ → List ℕ → Split
first_part front piece = messages_in (front ++ piece)

abbrev pub second_part : List ℕ → List ℕ → List ℕ → Split
second_part front piece behind = messages_in ((first_part front piece).1 ++ behind)

pub cut_behind : (front piece behind whole : List ℕ) → piece ++ behind ≡ whole
    → messages_in (front ++ whole) ≡ ((first_part front piece).0 ++ (second_part front piece behind).0, (second_part front piece behind).1)
cut_behind front piece behind whole is = ap (λ (octets : List ℕ). messages_in octets) (ap (λ (octets : List ℕ). front ++ octets) (sym is) ∙ sym (append_assoc front piece behind)) ∙ cut_anywhere (front ++ piece) behind

-- octets of the whole are octets of the front with the piece, and of what is left of them with what is behind
pub first-octets : (front piece behind whole : List ℕ) → piece ++ behind ≡ whole → AreOctets (front ++ whole) → AreOctets (front ++ piece)
first-octets front piece behind whole is below = octets-front (front ++ piece) behind (subst AreOctets (ap (λ (octets : List ℕ). front ++ octets) (sym is) ∙ sym (append_assoc front piece behind)) below)

pub second-octets : (front piece behind whole : List ℕ) → piece ++ behind ≡ whole → AreOctets (front ++ whole) → AreOctets ((first_part front piece).1 ++ behind)
second-octets front piece behind whole is below =
    let all : AreOctets (front ++ piece ++ behind) = subst AreOctets (ap (λ (octets : List ℕ). front ++ octets) (sym is) ∙ sym (append_assoc front piece behind)) below in
    octets-both (first_part front piece).1 behind (rest-octets (front ++ piece) (octets-front (front ++ piece) behind all)) (octets-behind (front ++ piece) behind all)
