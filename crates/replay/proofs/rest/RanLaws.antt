-- What a resting session makes of messages in two parts: what it makes of the former, and then, unless it has ended, of the latter.
--     followed hub messages o      the latter messages behind what was made of the former
--     ran-append      the law
use Rattle.std.proofs.Common.{◌≡◌, List, [], ◌∷◌, ◌++◌, ℕ, Option, Some, None, inl, inr, option_map, refl, sym, ◌∙◌, ap, append_assoc}
use Rattle.dsosession.specs.declared.session.EndReason.{EndReason}
use Rattle.pushserver.specs.PlainHubs.{Hub}
use Rattle.replay.proofs.rest.AtRest.{Core, Turned, Ran, behind_octets, turned, ran_by, ran}

-- octets before none are none before
pub behind-none : (o : Option Ran) → o ≡ option_map (behind_octets []) o
behind-none None = refl
behind-none (Some r) = refl

-- octets behind octets
pub behind-behind : (first second : List ℕ) (o : Option Ran) → option_map (behind_octets first) (option_map (behind_octets second) o) ≡ option_map (behind_octets (first ++ second)) o
behind-behind first second None = refl
behind-behind first second (Some r) = ap (λ (octets : List ℕ). Some (record r { octets = octets })) (sym (append_assoc first second r.octets))

module _ (hub : Hub) where
  -- a session that has ended reacts to nothing more
  abbrev pub followed_by : List (List ℕ) → Ran → Option EndReason → Option Ran
  followed_by messages r (Some reason) = Some r
  followed_by messages r None = option_map (behind_octets r.octets) (ran hub messages r.core)

  abbrev pub followed : List (List ℕ) → Option Ran → Option Ran
  followed messages None = None
  followed messages (Some r) = followed_by messages r r.over

  -- octets before both parts are octets before the former
  behind-followed_by : (messages : List (List ℕ)) (octets : List ℕ) (r : Ran) (over : Option EndReason)
      → option_map (behind_octets octets) (followed_by messages r over) ≡ followed_by messages (behind_octets octets r) over
  behind-followed_by messages octets r (Some reason) = refl
  behind-followed_by messages octets r None = behind-behind octets r.octets (ran hub messages r.core)

  behind-followed : (messages : List (List ℕ)) (octets : List ℕ) (o : Option Ran) → option_map (behind_octets octets) (followed messages o) ≡ followed messages (option_map (behind_octets octets) o)
  behind-followed messages octets None = refl
  behind-followed messages octets (Some r) = behind-followed_by messages octets r r.over

  turn-append : (first second : List (List ℕ)) (core : Core) (t : Turned) → ((left : Core) → ran hub (first ++ second) left ≡ followed second (ran hub first left))
      → ran_by hub (λ left. ran hub (first ++ second) left) core t ≡ followed second (ran_by hub (λ left. ran hub first left) core t)
  turn-append first second core None others = refl
  turn-append first second core (Some (inl reason)) others = refl
  turn-append first second core (Some (inr left)) others = ap (λ o. option_map (behind_octets left.1) o) (others left.0) ∙ behind-followed second left.1 (ran hub first left.0)

  pub ran-append : (first second : List (List ℕ)) (core : Core) → ran hub (first ++ second) core ≡ followed second (ran hub first core)
  ran-append [] second core = behind-none (ran hub second core)
  ran-append (message ∷ first) second core = turn-append first second core (turned hub message core) (λ left. ran-append first second left)
