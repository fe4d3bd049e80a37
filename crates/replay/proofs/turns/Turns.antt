-- Turns of giving: octets came, or nothing is to be said; and one exchange takes all octets that have room.
use Rattle.std.proofs.Common.{◌≡◌, ℕ, suc, ◌-◌, Bool, true, false, ◌||◌, ◌==◌, List, [], ◌++◌, take, drop, length, eq-eqb, Some, ◌∙◌, ap, refl}
use Rattle.pushserver.specs.declared.given.Given.{Given}
use Rattle.pushserver.specs.declared.given.Given.TheVariants.{Bytes, Worked, Nothing, Ending, End}
use Rattle.pushserver.specs.Hubs.{taken_by, take_octets}
use Rattle.pushserver.specs.PlainHubs.{Hub, Giving}
use Rattle.pushserver.specs.Giving.{give}
use Rattle.replay.specs.PassedOctets.{Emitted, Exchanged, emitted, exchanged, with_giving, nothing_emitted, enough}

-- what follows a call of give, by what it did
abbrev pub turn : (ℕ → Emitted) → Emitted → Emitted → Given → Emitted
turn later worked done (Bytes n) = later n
turn later worked done Worked = worked
turn later worked done Nothing = done
turn later worked done Ending = done
turn later worked done (End reason) = record done { over = Some reason }

module _ (turns number budget : ℕ) (so_far : Emitted) where
  abbrev pub after_turn : Giving → Emitted
  after_turn g = turn (λ n. emitted turns number (budget - n) (with_giving g number so_far)) (emitted turns number budget (record (with_giving g number so_far) { reacted = true })) (with_giving g number so_far) g.given

  -- where octets are still wanted, one turn is one call of give
  pub emitted-turn : (budget == 0) ≡ false → (g : Giving) → give so_far.hub number budget ≡ g → emitted (suc turns) number budget so_far ≡ after_turn g
  emitted-turn some g e = ap (λ b. elim b as (λ _. Emitted) [ true ↦ so_far | false ↦ after_turn (give so_far.hub number budget) ]) some ∙ ap after_turn e

-- what one exchange made of all octets
abbrev pub exchanged_as : Emitted → List ℕ → Exchanged
exchanged_as e so_far = record { hub = e.hub; octets = so_far ++ e.octets; over = e.over }

module _ (turns number : ℕ) (octets : List ℕ) (hub : Hub) (so_far : List ℕ) where
  abbrev pub fed : ℕ → Emitted
  fed k = emitted enough number enough (nothing_emitted (take_octets hub number (take k octets)) [])

  -- octets that all have room go in at once
  pub exchanged-once : taken_by hub number octets ≡ length octets → exchanged (suc turns) number octets hub so_far ≡ exchanged_as (fed (length octets)) so_far
  exchanged-once all =
      ap (λ k. elim (k == 0 || k == length octets) as (λ _. Exchanged) [ true ↦ exchanged_as (fed k) so_far | false ↦ exchanged turns number (drop k octets) (fed k).hub (so_far ++ (fed k).octets) ]) all
      ∙ ap (λ b. elim b as (λ _. Exchanged) [ true ↦ exchanged_as (fed (length octets)) so_far | false ↦ exchanged turns number (drop (length octets) octets) (fed (length octets)).hub (so_far ++ (fed (length octets)).octets) ]) (is_all (length octets))
    where
      or_true : (b c : Bool) → c ≡ true → (b || c) ≡ true
      or_true true c e = refl
      or_true false c e = e

      is_all : (n : ℕ) → (n == 0 || n == n) ≡ true
      is_all n = or_true (n == 0) (n == n) (eq-eqb n n refl)
