-- The datagrams that were sent in memory.
--     SentDatagrams      them, and the octets for which there is room
--     room_taken      how much of the room they take
--     after_adding      after one more
use Rattle.std.specs.Prelude.{ℕ, ◌+◌, List, [], ◌∷◌, ◌++◌, length}

-- the datagrams that were sent, and the octets for which there is room
pub record SentDatagrams : Type 0 where
  pub datagrams : List (List ℕ)
  pub room : ℕ

-- how much of the room these datagrams take: each its octets and two more
abbrev pub room_taken : List (List ℕ) → ℕ
room_taken [] = 0
room_taken (datagram ∷ datagrams) = length datagram + 2 + room_taken datagrams

-- after this datagram was added
abbrev pub after_adding : List ℕ → SentDatagrams → SentDatagrams
after_adding octets s = record s { datagrams = s.datagrams ++ octets ∷ [] }
