-- An update of zones step by step: the zone that it names, what the zone's records become, and the plan.
use Rattle.std.proofs.Common.{◌≡◌, ℕ, Bool, List, ◌∷◌, Option, Some, None, Result, Ok, Err, refl, sym, ap, subst, ◌∙◌}
use Rattle.std.specs.Prelude.{position, find}
use Rattle.std.specs.List.{AllByRecursion}
use Rattle.push_base.specs.Cases.{◌>>=◌}
use Rattle.dnsname.specs.Names.{Labels, same_name}
use Rattle.dnswire.specs.declared.message.Update.{Update}
use Rattle.rrset.specs.Rcodes.{notauth}
use Rattle.rrset.specs.RecordSet.{RecordSet, changes, with_changes}
use Rattle.rrset.specs.declared.record.Changed.{Changed}
use Rattle.rrset.proofs.WithChanges.{with_changes-new}
use Rattle.zoneupdate.specs.KeptZones.{Leads}
use Rattle.zoneupdate.specs.Updates.{judged}
use Rattle.zoneupdate.specs.Zones.{ZoneState}
use Rattle.zoneupdate.proofs.RecordSets.{set-in_order}
use Rattle.history.specs.Plans.{Plan, refuse, accept, planned}
use Rattle.history.specs.AtHome.{IsAtHome, AreAtHome}
use Rattle.history.specs.States.{State, home_names, zone_of, zone_asked, with_rows, updated, after, records}
use Rattle.history.specs.declared.entry.Entry.TheVariants as entries
use Rattle.history.proofs.Positions.{Found, none_from, find-here, find-none}
use Rattle.history.proofs.RowsAtHome.{at_home-judged}
use Rattle.history.proofs.Distinct.{all-apart}
use Rattle.history.proofs.UpdatedHomes.{Placed, placed-found, with_zone, with_rows-placed, changes-placed, home-placed}

-- ---- by the zone that the update names

abbrev pub zone_step : State → Update → Option ZoneState → Result State ℕ
zone_step state update None = Err notauth
zone_step state update (Some zone) = judged (home_names state) zone update >>= λ rows. Ok (with_rows state zone.apex rows)

abbrev pub asked_step : State → Update → Result Labels ℕ → Result State ℕ
asked_step state update (Err code) = Err code
asked_step state update (Ok apex) = zone_step state update (zone_of state apex)

pub updated-steps : (state : State) (update : Update) → updated state update ≡ asked_step state update (zone_asked update.zones)
updated-steps state update = by (zone_asked update.zones)
  where
    zone : (o : Option ZoneState) → ((elim o as (λ _. Result ZoneState ℕ) [ None ↦ Err notauth | Some zone ↦ Ok zone ]) >>= λ zone. judged (home_names state) zone update >>= λ rows. Ok (with_rows state zone.apex rows)) ≡ zone_step state update o
    zone None = refl
    zone (Some z) = refl

    by : (r : Result Labels ℕ) → ((r >>= λ apex. elim (zone_of state apex) as (λ _. Result ZoneState ℕ) [ None ↦ Err notauth | Some zone ↦ Ok zone ]) >>= λ zone. judged (home_names state) zone update >>= λ rows. Ok (with_rows state zone.apex rows)) ≡ asked_step state update r
    by (Err code) = refl
    by (Ok apex) = zone (zone_of state apex)

abbrev pub named : Labels → ZoneState → Bool
named apex z = same_name z.apex apex

pub zone_of-found : (state : State) (apex : Labels) (i : ℕ) (f : Found (named apex) state.zones i) → zone_of state apex ≡ Some f.here
zone_of-found state apex i f = ap (find (named apex)) f.parts ∙ find-here (named apex) f.before f.here f.behind f.first f.passes

pub zone_of-none : (state : State) (apex : Labels) → position (named apex) state.zones ≡ None → zone_of state apex ≡ None
zone_of-none state apex none = find-none (named apex) state.zones (none_from (named apex) state.zones none)

-- ---- what is refused

pub planned-refused : (state : State) (update : Update) (code : ℕ) → updated state update ≡ Err code → planned state (entries.Update update) ≡ refuse code
planned-refused state update code e = ap (λ (r : Result State ℕ). elim r as (λ _. Plan) [ Err code ↦ refuse code | Ok later ↦ accept (changes (records state) (records later)) ]) e

pub refused-asked : (state : State) (update : Update) (code : ℕ) → zone_asked update.zones ≡ Err code → planned state (entries.Update update) ≡ refuse code
refused-asked state update code asked = planned-refused state update code (updated-steps state update ∙ ap (asked_step state update) asked)

pub refused-none : (state : State) (update : Update) (apex : Labels) → zone_asked update.zones ≡ Ok apex → position (named apex) state.zones ≡ None → planned state (entries.Update update) ≡ refuse notauth
refused-none state update apex asked none = planned-refused state update notauth (updated-steps state update ∙ ap (asked_step state update) asked ∙ ap (zone_step state update) (zone_of-none state apex none))

-- the step of the zone that the update names
pub updated-found : (state : State) (update : Update) (apex : Labels) (i : ℕ) (f : Found (named apex) state.zones i) → zone_asked update.zones ≡ Ok apex → updated state update ≡ zone_step state update (Some f.here)
updated-found state update apex i f asked = updated-steps state update ∙ ap (asked_step state update) asked ∙ ap (zone_step state update) (zone_of-found state apex i f)

pub refused-found : (state : State) (update : Update) (apex : Labels) (i : ℕ) (f : Found (named apex) state.zones i) (code : ℕ) → zone_asked update.zones ≡ Ok apex → judged (home_names state) f.here update ≡ Err code
    → planned state (entries.Update update) ≡ refuse code
refused-found state update apex i f code asked step = planned-refused state update code (updated-found state update apex i f asked ∙ ap (λ (r : Result RecordSet ℕ). r >>= λ rows. Ok (with_rows state f.here.apex rows)) step)

-- ---- what is accepted

pub record Accepted (state : State) (update : Update) (changed : List Changed) (i : ℕ) : Type 0 where
  pub at : Placed state.zones i
  pub rows : RecordSet
  pub leads : Leads at.zone changed rows
  pub reached : with_changes changed at.zone.rows ≡ rows
  pub later : after state (entries.Update update) ≡ with_zone state at.before (record at.zone { rows = rows }) at.behind
  pub home : AreAtHome (with_zone state at.before (record at.zone { rows = rows }) at.behind)
  pub plan : planned state (entries.Update update) ≡ accept changed

accepted : (state : State) (home : AreAtHome state) (update : Update) (i : ℕ) (at : Placed state.zones i) (rows : RecordSet) (changed : List Changed) → judged (home_names state) at.zone update ≡ Ok rows
    → updated state update ≡ Ok (with_rows state at.zone.apex rows) → changed ≡ changes at.zone.rows rows → Accepted state update changed i
accepted state home update i at rows changed step is keys =
    let each = all-apart (IsAtHome (home_names state)) at.before (at.zone ∷ at.behind) (subst (AllByRecursion (IsAtHome (home_names state))) at.parts home.zones) in
    let new = at_home-judged (home_names state) at.zone update rows step each.1.0 in
    let later = with_rows-placed state i at rows in
    record {
      at = at;
      rows = rows;
      leads = record { homes = home_names state; update = update; step = step; keys = keys };
      reached = ap (λ (cs : List Changed). with_changes cs at.zone.rows) keys ∙ with_changes-new at.zone.rows rows (set-in_order at.zone.rows each.1.0.set) (set-in_order rows new.set);
      later = ap (λ (r : Result State ℕ). elim r as (λ _. State) [ Err code ↦ state | Ok later ↦ later ]) is ∙ later;
      home = home-placed state home i at rows new;
      plan =
          ap (λ (r : Result State ℕ). elim r as (λ _. Plan) [ Err code ↦ refuse code | Ok later ↦ accept (changes (records state) (records later)) ]) is
          ∙ ap (λ (l : State). accept (changes (records state) (records l))) later
          ∙ ap accept (changes-placed state home i at rows new ∙ sym keys);
    }

pub accepted-found : (state : State) (home : AreAtHome state) (update : Update) (apex : Labels) (i : ℕ) (f : Found (named apex) state.zones i) (rows : RecordSet) (changed : List Changed) → zone_asked update.zones ≡ Ok apex
    → judged (home_names state) f.here update ≡ Ok rows → changed ≡ changes f.here.rows rows → Accepted state update changed i
accepted-found state home update apex i f rows changed asked step keys =
    accepted state home update i (placed-found (named apex) state i home f) rows changed step
    (updated-found state update apex i f asked ∙ ap (λ (r : Result RecordSet ℕ). r >>= λ rows. Ok (with_rows state f.here.apex rows)) step) keys
