-- Plans as they are held, and homes as they are kept beside them.
--     AreKept homes      the names are those of the homes, and may stand together
--     led_to homes moment plan      the state that a plan leads to
--     IsReady homes plan      the plan was made of these homes, and there is room for it
--     Checks, IsCheckReady      what an update of zones gets, and that there is room for that
--     IsTimely entry      its moment, if it is one, is no later than the last
--     IsStateOf homes moment state      homes at a moment are this state, in which each record is at home
--     IsSoundPast past octets      entries of so many octets within the two numbers, from a start in which each record is at home
--     IsPresent past homes moment held      homes are the state after all entries of a past
use Rattle.std.specs.Prelude.{◌≡◌, ℕ, ◌+◌, ◌≤◌, List, ◌∷◌, length, sum_by, Option, Some, None, slice_get, IsTrue, IfSome}
use Rattle.std.specs.List.{AllByRecursion, AllZip}
use Rattle.push_base.specs.Cases.{changed_at}
use Rattle.push_base.specs.Limits.{max_moment, max_number}
use Rattle.rrset.specs.RecordSet.{with_changes}
use Rattle.rrset.specs.declared.record.Changed.{Changed}
use Rattle.dnswire.specs.declared.message.Update.{Update}
use Rattle.nametable.specs.Nodes.{HasRoomFor, keys_put}
use Rattle.zoneupdate.specs.Zones.{ZoneState}
use Rattle.zoneupdate.specs.KeptZones.{ZoneKept, IsPlanOf}
use Rattle.linkcache.specs.Links.{LinkKept, HasRoom}
use Rattle.linkcache.specs.Plans as links
use Rattle.linkcache.specs.Plans.{LinkPlan, with_row_changes}
use Rattle.history.specs.Plans.{may_stand_together, planned, refuse, accept}
use Rattle.history.specs.Entries.{Concern, all_links, concern}
use Rattle.history.specs.States.{State, LinkState, after, entry_size, max_journal_entries, max_journal_octets}
use Rattle.history.specs.Kept.{HomesKept, Past, at_moment, state_of, state_now, point_of}
use Rattle.history.specs.AtHome.{AreNamesOf, AreAtHome}
use Rattle.history.specs.declared.entry.Entry.{Entry}
use Rattle.history.specs.declared.entry.Entry.TheVariants as entries
use Rattle.history.specs.declared.planning.HeldPlan.{HeldPlan}
use Rattle.history.specs.declared.planning.HeldPlan.TheVariants as plans
use Rattle.history.specs.declared.updating.Checked.{Checked}
use Rattle.history.specs.declared.updating.Checked.TheVariants as results

-- the names are those of the homes, which were added without a fault
pub record AreKept (homes : HomesKept) : Type 0 where
  pub names : AreNamesOf homes.names (state_of homes)
  pub together : IsTrue (may_stand_together homes.names)

-- ---- what a plan leads to

-- a zone with these changes made
abbrev pub zone_changed : List Changed → ZoneState → ZoneState
zone_changed changed zone = record zone { rows = with_changes changed zone.rows }

-- a link with the changes of a plan made
abbrev pub link_changed : LinkPlan → LinkState → LinkState
link_changed plan link = record link { rows = with_row_changes plan.rows link.rows }

-- each link with the changes of its own plan made
abbrev pub links_changed : List LinkPlan → List LinkState → List LinkState
links_changed (p ∷ ps) (l ∷ ls) = link_changed p l ∷ links_changed ps ls
links_changed _ ls = ls

-- the state that a plan leads to
abbrev pub led_to : State → HeldPlan → State
led_to state (plans.Zone index changed) = record state { zones = changed_at index (zone_changed changed) state.zones }
led_to state (plans.Link index plan) = record state { links = changed_at index (link_changed plan) state.links }
led_to state (plans.Moment later each) = record state { links = links_changed each.items state.links; now = later }

-- the same state where no plan is held
abbrev pub led_by : State → Option HeldPlan → State
led_by state None = state
led_by state (Some plan) = led_to state plan

-- ---- plans with room for them

-- there is such a zone, an update was accepted with these keys, and it has room for all that are put
abbrev pub IsZoneReady : Option ZoneKept → List Changed → Type 0
IsZoneReady None changed = ⊥
IsZoneReady (Some zone) changed = IsPlanOf zone.state changed × HasRoomFor (keys_put changed) zone.nodes

-- the plan was made of the link, and it has room for what it changes
pub record IsPlanIn (link : LinkKept) (plan : LinkPlan) : Type 0 where
  pub planned : links.IsPlanOf link.state.rules link.state.rows plan
  pub room : HasRoom plan.rows link

abbrev pub IsLinkReady : Option LinkKept → LinkPlan → Type 0
IsLinkReady None plan = ⊥
IsLinkReady (Some link) plan = IsPlanIn link plan

abbrev pub IsReady : HomesKept → HeldPlan → Type 0
IsReady homes (plans.Zone index changed) = IsZoneReady (slice_get homes.zones index) changed
IsReady homes (plans.Link index plan) = IsLinkReady (slice_get homes.links index) plan
IsReady homes (plans.Moment later each) = (later ≤ max_moment) × AllZip IsPlanIn homes.links each.items

-- what an update of zones gets: the RCODE of its plan, or the keys of that, and the zone that leads to the state after it
abbrev pub Checks : State → Update → Checked → Type 0
Checks state update (results.Refuse code) = planned state (entries.Update update) ≡ refuse code
Checks state update (results.Accept index changed) = (planned state (entries.Update update) ≡ accept changed)
    × (after state (entries.Update update) ≡ record state { zones = changed_at index (zone_changed changed) state.zones })

-- an accepted update's zone has room for all its keys
abbrev pub IsCheckReady : List ZoneKept → Checked → Type 0
IsCheckReady zones (results.Refuse code) = Unit {0}
IsCheckReady zones (results.Accept index changed) = IsZoneReady (slice_get zones index) changed

-- ---- the past

-- the moment at which it concerns all links, if it does, is no later than the last
abbrev pub IsInTime : Concern → Type 0
IsInTime (all_links t) = t ≤ max_moment
IsInTime _ = Unit {0}

abbrev pub IsTimely : Entry → Type 0
IsTimely entry = IsInTime (concern entry)

-- homes at a moment are this state, in which each record is at home
pub record IsStateOf (homes : HomesKept) (moment : ℕ) (state : State) : Type 0 where
  pub same : at_moment homes moment ≡ state
  pub home : AreAtHome state

-- a start in which each record is at home, entries of so many octets within the two numbers, and all that there ever were are counted
pub record IsSoundPast (past : Past) (octets : ℕ) : Type 0 where
  pub start : AreAtHome past.start
  pub begun : past.start.now ≤ max_moment
  pub timely : AllByRecursion IsTimely past.history
  pub size : octets ≡ sum_by entry_size past.history
  pub groups : past.counts.changes + past.counts.heard + past.counts.moments ≡ point_of past
  pub last : point_of past ≤ max_number
  pub few : length past.history ≤ max_journal_entries
  pub within : octets ≤ max_journal_octets

-- homes at a moment are the state after all entries, and a plan that is held is ready
pub record IsPresent (past : Past) (homes : HomesKept) (moment : ℕ) (held : Option HeldPlan) : Type 0 where
  pub present : IsStateOf homes moment (state_now past)
  pub now : moment ≤ max_moment
  pub ready : IfSome held (IsReady homes)
