-- One new zone, and links that have heard nothing, are a start.
use Rattle.std.proofs.Common.{◌≡◌, ℕ, zero, suc, [], ◌∷◌, ◌++◌, refl, sym, ap, subst, ◌∙◌, arith}
use Rattle.std.specs.Prelude.{All}
use Rattle.zoneupdate.specs.KeptZones.{ZoneKept}
use Rattle.zoneupdate.specs.Zones.{ZoneState, new_zone}
use Rattle.history.specs.Kept.{HomesKept, state_of}
use Rattle.history.specs.Plans.{IsStart}
use Rattle.history.specs.declared.entry.HomeKind.TheVariants as of_home
use Rattle.history.specs.States.{State, LinkState, LinkRules}
use Rattle.lock_vectors.proofs.hubs.homes_of.Goals as goal

all_one : {X : Type 0} (P : X → Type 0) (x : X) → P x → All P (x ∷ [])
all_one P x p zero d h = p
all_one P x p (suc k) d h = absurd (omega (arith, h))

all_two : {X : Type 0} (P : X → Type 0) (x y : X) → P x → P y → All P (x ∷ y ∷ [])
all_two P x y p q zero d h = p
all_two P x y p q (suc k) d h = all_one P y q k d (omega (arith, h))

zone_and_links : (empty homes : HomesKept) (first later : State) (zone : ZoneKept) (one_link other : LinkRules) → empty ≡ record { zones = []; links = []; names = [] }
    → homes ≡ record empty { zones = empty.zones ++ zone ∷ []; names = empty.names ++ (zone.state.apex, of_home.Zone) ∷ [] }
    → first ≡ record (state_of homes) { links = (state_of homes).links ++ (record { rules = one_link; rows = [] }) ∷ [] }
    → later ≡ record first { links = first.links ++ (record { rules = other; rows = [] }) ∷ [] } → (serial : ℕ) × (zone.state ≡ new_zone zone.state.apex serial zone.state.writable) → IsStart later
zone_and_links empty homes first later zone one_link other none one two three new =
    subst IsStart (sym same) (record {
      zones = all_one (λ (z : ZoneState). (serial : ℕ) × (z ≡ new_zone z.apex serial z.writable)) zone.state new;
      links = all_two (λ (l : LinkState). l.rows ≡ []) (record { rules = one_link; rows = [] }) (record { rules = other; rows = [] }) refl refl;
      now = refl;
    })
  where
    same : later ≡ record { zones = zone.state ∷ []; links = (record { rules = one_link; rows = [] }) ∷ (record { rules = other; rows = [] }) ∷ []; now = 0 }
    same =
        three
        ∙ ap (λ (s : State). record s { links = s.links ++ (record { rules = other; rows = [] }) ∷ [] })
        (two
        ∙ ap (λ (h : HomesKept). record (state_of h) { links = (state_of h).links ++ (record { rules = one_link; rows = [] }) ∷ [] })
        (one ∙ ap (λ (e : HomesKept). record e { zones = e.zones ++ zone ∷ []; names = e.names ++ (zone.state.apex, of_home.Zone) ∷ [] }) none))

pub returns : goal.returns
returns c = zone_and_links c.new-homes.result c.add_zone.new.self (state_of c.add_link.new.self) (state_of c.add_link-2.new.self) c.args.zone _ _ c.new-homes.ensures c.in_ok-add_zone.ensures.ok c.in_ok-add_link.ensures.ok c.in_ok-add_link-2.ensures.ok c.requires
