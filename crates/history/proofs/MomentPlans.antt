-- Plans of moments: what all links show otherwise, and the links afterwards.
use Rattle.std.proofs.Common.{◌≡◌, ℕ, ◌<◌, cond, List, [], ◌∷◌, map, Some, refl, sym, ap, subst, ◌∙◌, lt-ltb}
use Rattle.std.specs.List.{AllByRecursion, AllZip}
use Rattle.rrset.specs.RecordSet.{changes}
use Rattle.nametable.specs.Nodes.{HaveRisingKeys}
use Rattle.rrset.specs.declared.record.Changed.{Changed}
use Rattle.zoneupdate.proofs.Plans.{rising-changes}
use Rattle.zoneupdate.proofs.RecordSets.{set-in_order}
use Rattle.linkcache.specs.Links.{LinkState}
use Rattle.linkcache.specs.Plans.{LinkPlan}
use Rattle.linkcache.specs.Rows.{shown_rows}
use Rattle.linkcache.specs.Rows as rows
use Rattle.history.specs.Kept.{held_for, told_plan}
use Rattle.history.specs.Plans.{idle, accept, planned}
use Rattle.history.specs.AtHome.{AreAtHome}
use Rattle.history.specs.Laws.{IsLater, each_changed, gathered}
use Rattle.history.specs.LinkSteps.{EndsBy}
use Rattle.history.specs.HeldPlans.{links_changed}
use Rattle.history.specs.States.{State, after, records, link_at_moment}
use Rattle.history.specs.declared.entry.Entry.TheVariants as entries
use Rattle.history.specs.declared.plan.Planned.TheVariants as told
use Rattle.history.proofs.HeldPlans.{held-made}
use Rattle.history.proofs.LinkChanges.{links_change-together}
use Rattle.history.proofs.LinkShown.{set-shown}

-- the keys that are shown otherwise by plans
abbrev pub keys_of : List LinkPlan → List (List Changed)
keys_of ps = map (λ p. p.changed) ps

are_later : (t : ℕ) (links : List LinkState) (ps : List LinkPlan) → AllZip (EndsBy t) links ps → AllZip IsLater links (map (link_at_moment t) links)
are_later t [] [] each = tt
are_later t [] (p ∷ ps) each = absurd each
are_later t (l ∷ links) [] each = absurd each
are_later t (l ∷ links) (p ∷ ps) each = (record { names = refl; sound = each.0.sound }, are_later t links ps each.1)

keys-changed : (t : ℕ) (links : List LinkState) (ps : List LinkPlan) → AllZip (EndsBy t) links ps → each_changed links (map (link_at_moment t) links) ≡ keys_of ps
keys-changed t [] [] each = refl
keys-changed t [] (p ∷ ps) each = absurd each
keys-changed t (l ∷ links) [] each = absurd each
keys-changed t (l ∷ links) (p ∷ ps) each = λ i. sym each.0.shown i ∷ keys-changed t links ps each.1 i

links-reached : (t : ℕ) (links : List LinkState) (ps : List LinkPlan) → AllZip (EndsBy t) links ps → links_changed ps links ≡ map (link_at_moment t) links
links-reached t [] [] each = refl
links-reached t [] (p ∷ ps) each = absurd each
links-reached t (l ∷ links) [] each = absurd each
links-reached t (l ∷ links) (p ∷ ps) each = λ i. record l { rows = each.0.reached i } ∷ links-reached t links ps each.1 i

after-later : (state : State) (t : ℕ) → state.now < t → after state (entries.Moment t) ≡ record state { now = t; links = map (link_at_moment t) state.links }
after-later state t later = ap (λ b. cond b (record state { now = t; links = map (link_at_moment t) state.links }) state) (lt-ltb state.now t later)

pub told-moment : (state : State) (t : ℕ) (ps : List LinkPlan) (keys : List Changed) → AreAtHome state → state.now < t → AllZip (EndsBy t) state.links ps → keys ≡ gathered (keys_of ps)
    → told.Accept keys ≡ told_plan (planned state (entries.Moment t))
told-moment state t ps keys home later each is =
    let together = links_change-together state (map (link_at_moment t) state.links) t home (are_later t state.links ps each) in
    let shown : keys ≡ changes (records state) (records (after state (entries.Moment t))) =
    is ∙ ap gathered (sym (keys-changed t state.links ps each)) ∙ sym together ∙ ap (λ s. changes (records state) (records s)) (sym (after-later state t later)) in
    ap (λ c. told.Accept c) shown ∙ sym (ap told_plan (ap (λ b. cond b (accept (changes (records state) (records (after state (entries.Moment t))))) idle) (lt-ltb state.now t later)))

pub held-moment : (state : State) (t : ℕ) (ps : List LinkPlan) → state.now < t → AllZip (EndsBy t) state.links ps → Some (record state { links = links_changed ps state.links; now = t }) ≡ held_for state (entries.Moment t)
held-moment state t ps later each =
    held-made state (entries.Moment t) (record state { links = links_changed ps state.links; now = t }) (lt-ltb state.now t later)
    ((λ i. record state { links = links-reached t state.links ps each i; now = t }) ∙ sym (after-later state t later))

-- ---- the changes of a plan are in key order

pub rising-each : (t : ℕ) (links : List LinkState) (ps : List LinkPlan) → AllZip (EndsBy t) links ps → AllByRecursion (λ p. HaveRisingKeys p.changed) ps
rising-each t [] [] each = tt
rising-each t [] (p ∷ ps) each = absurd each
rising-each t (l ∷ links) [] each = absurd each
rising-each t (l ∷ links) (p ∷ ps) each = (
  subst HaveRisingKeys (sym each.0.shown) (rising-changes (shown_rows l.rules l.rows) (shown_rows l.rules (rows.at_moment l.rows t)) (set-in_order (shown_rows l.rules l.rows) (set-shown l.rules l.rows))),
  rising-each t links ps each.1,
)
