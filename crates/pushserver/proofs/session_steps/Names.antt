-- The names that wait in a session, as they are kept and as the plain session has them.
--     points-there      the point of each name that waits
--     stays-last      the names that stay are the last ones
use Rattle.std.proofs.Common.{◌≡◌, ℕ, zero, suc, Bool, true, false, cond, ◌||◌, List, [], ◌∷◌, map, drop, Some, refl, ◌∙◌, ap}
use Rattle.std.specs.Prelude.{find, option_map}
use Rattle.std.specs.List.{list_any, AllByRecursion, IsDistinct}
use Rattle.std.proofs.lemmas.List.Elements.{filter_agree}
use Rattle.dnsname.specs.Names.{Labels, same_name}
use Rattle.rrset.specs.RecordSet.{RecordSet, at_name}
use Rattle.zoneupdate.proofs.Owners.{same_name-itself, same_name-for}
use Rattle.history.proofs.Together.{same_name-turned}
use Rattle.pushserver.specs.PlainHubs.{Queue, point_in, stays_queued}
use Rattle.pushserver.proofs.session_steps.Lists.{each-both, filter-each}

pub at_name-alike : (a b : Labels) → same_name a b ≡ true → (set : RecordSet) → at_name a set ≡ at_name b set
at_name-alike a b same set = filter_agree (λ e. same_name a e.0.owner) (λ e. same_name b e.0.owner) (λ e. same_name-for a b e.0.owner same) set

abbrev pub same_queued : Labels × ℕ → Labels × ℕ → Bool
same_queued d e = same_name e.0 d.0

abbrev pub AreApart : Queue → Type 0
AreApart queue = IsDistinct same_queued queue

-- ---- the point of a name that waits

abbrev HasPoint : Queue → Labels × ℕ → Type 0
HasPoint queue e = point_in queue e.0 ≡ Some e.1

-- one more in front, of another name
behind_other : (d : Labels × ℕ) (queue : Queue) (e : Labels × ℕ) → same_queued d e ≡ false → HasPoint queue e → HasPoint (d ∷ queue) e
behind_other d queue e other has = ap (λ (b : Bool). option_map (λ (f : Labels × ℕ). f.1) (cond b (Some d) (find (λ (f : Labels × ℕ). same_name e.0 f.0) queue))) other ∙ has

pub points-there : (queue : Queue) → AreApart queue → AllByRecursion (HasPoint queue) queue
unfolding IsDistinct
points-there [] apart = tt
points-there (d ∷ queue) apart = (
  ap (λ (b : Bool). option_map (λ (f : Labels × ℕ). f.1) (cond b (Some d) (find (λ (f : Labels × ℕ). same_name d.0 f.0) queue))) (same_name-itself d.0),
  each-both (λ e. same_queued d e ≡ false) (HasPoint queue) (HasPoint (d ∷ queue)) (λ e other has. behind_other d queue e other has) queue apart.0 (points-there queue apart.1),
)

-- ---- the names that stay

abbrev pub names_of : Queue → List Labels
names_of queue = map (λ e. e.0) queue

abbrev IsNamed : List Labels → Labels × ℕ → Type 0
IsNamed names e = list_any (same_name e.0) names ≡ true

one_more : (d e : Labels × ℕ) (names : List Labels) → IsNamed names e → IsNamed (d.0 ∷ names) e
one_more d e names named = by (same_name e.0 d.0)
  where
    by : (b : Bool) → (b || list_any (same_name e.0) names) ≡ true
    by true = refl
    by false = named

all_named : (queue : Queue) → AllByRecursion (IsNamed (names_of queue)) queue
all_named [] = tt
all_named (d ∷ queue) = (
  ap (λ (b : Bool). b || list_any (same_name d.0) (names_of queue)) (same_name-itself d.0),
  each-both (IsNamed (names_of queue)) (IsNamed (names_of queue)) (IsNamed (d.0 ∷ names_of queue)) (λ e named same. one_more d e (names_of queue) named) queue (all_named queue) (all_named queue),
)

-- the first is none of the others
not_among : (d : Labels × ℕ) (n : ℕ) (queue : Queue) → AllByRecursion (λ e. same_queued d e ≡ false) queue → list_any (same_name d.0) (names_of (drop n queue)) ≡ false
not_among d zero [] others = refl
not_among d zero (e ∷ queue) others = ap (λ (b : Bool). b || list_any (same_name d.0) (names_of queue)) (same_name-turned d.0 e.0 ∙ others.0) ∙ not_among d zero queue others.1
not_among d (suc n) [] others = refl
not_among d (suc n) (e ∷ queue) others = not_among d n queue others.1

pub stays-last : (n : ℕ) (queue : Queue) → AreApart queue → stays_queued (names_of (drop n queue)) queue ≡ drop n queue
unfolding IsDistinct
stays-last zero queue apart = filter-each (λ e. list_any (same_name e.0) (names_of queue)) queue (all_named queue)
stays-last (suc n) [] apart = refl
stays-last (suc n) (d ∷ queue) apart =
    ap (λ (b : Bool). cond b (d ∷ stays_queued (names_of (drop n queue)) queue) (stays_queued (names_of (drop n queue)) queue)) (not_among d n queue apart.0)
    ∙ stays-last n queue apart.1
