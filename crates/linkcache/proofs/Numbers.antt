-- Tests of numbers that stop at the greatest of 64 bits.
use Rattle.std.proofs.Common.{◌≡◌, ℕ, suc, ◌+◌, ◌≤◌, Bool, true, ◌&&◌, List, drop, length, min, nat_lt, nat_le, sym, ap, ◌∙◌, arith}
use Rattle.std.specs.Prelude.{sum_by}
use Rattle.std.proofs.lemmas.List.{at_drop_all}
use Rattle.std.proofs.lemmas.Bool.Decides.{leb_tells}
use Rattle.push_base.specs.Limits.{max_octets_at_name}
use Rattle.rrset.specs.Tables.{counted}
use Rattle.linkcache.specs.Rows.{second}

pub long_ago : (moment now later : ℕ) → now ≤ 18446744073709551615 → later ≡ min (moment + second) 18446744073709551615 → nat_lt later now ≡ nat_lt (moment + second) now
long_ago moment now later within is = grind (arith, is, leb_tells (suc later) now, leb_tells (suc (moment + second)) now)

pub size_done : {A : Type 0} (f : A → ℕ) (xs : List A) (i size : ℕ) → size ≤ 18446744073709551615 → length xs ≤ i → counted (size + sum_by f (drop i xs)) ≡ counted (sum_by f xs) → size ≡ counted (sum_by f xs)
size_done f xs i size within ends so_far =
    let rest = at_drop_all (λ l. counted (size + sum_by f l)) xs i ends in
    let same : size ≡ counted (size + 0) = omega arith in
    same ∙ sym rest ∙ so_far

pub within_is : (all size added : ℕ) → all ≡ min (size + added) 18446744073709551615 → nat_le all max_octets_at_name ≡ nat_le (size + added) max_octets_at_name
within_is all size added all-is = grind (arith, all-is, leb_tells all 60000, leb_tells (size + added) 60000)

pub room_is : (few : Bool) (size total added octets : ℕ) → few ≡ true → size ≡ counted total → added ≡ octets → nat_le (size + added) max_octets_at_name ≡ (few && nat_le (total + octets) max_octets_at_name)
room_is few size total added octets is-few size-is added-is = sums ∙ ap (λ b. b && nat_le (total + octets) max_octets_at_name) (sym is-few)
  where
    sums : nat_le (size + added) max_octets_at_name ≡ nat_le (total + octets) max_octets_at_name
    sums = grind (arith, size-is, added-is, leb_tells (size + added) 60000, leb_tells (total + octets) 60000)
