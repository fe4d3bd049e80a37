-- The first octets of a name as a number, by which names are told apart without a look at the octets themselves.
--     first_octets      the octets, eight at most, as a number, the greatest first, with zeros for those that aren't there
--     HasFirst number name      the number is that of the name, which is one (RFC 1035, 2.3.4)
use Rattle.std.specs.Prelude.{◌≡◌, ℕ, List, [], ◌∷◌, map, get_or}
use Rattle.std.specs.Int.{w64, from_be_bytes}
use Rattle.dnsname.specs.Names.{Labels, IsName, octets}

abbrev pub first_octets : List ℕ → ℕ
first_octets os = from_be_bytes w64 (map (λ i. get_or os i 0) (0 ∷ 1 ∷ 2 ∷ 3 ∷ 4 ∷ 5 ∷ 6 ∷ 7 ∷ []))

pub record HasFirst (number : ℕ) (name : Labels) : Type 0 where
  pub is_name : IsName name
  pub is : number ≡ first_octets (octets name)
