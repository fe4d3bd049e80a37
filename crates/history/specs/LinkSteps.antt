-- What an entry gets of links.
--     StepsIn entry now link plan      what a link that it concerns gets of it
--     StepsTo entry now link plan      a plan that leads to the rows after the entry, exactly where there is such a link and it takes the entry up
--     EndsBy moment link plan      the plan leads to the rows of a moment
--     told_of plan      what is told of a link's plan
--     zone_rows zone, link_rows link      what a zone or a link shows, if there is one
use Rattle.std.specs.Prelude.{◌≡◌, ℕ, true, false, [], Option, Some, None}
use Rattle.rrset.specs.RecordSet.{RecordSet}
use Rattle.zoneupdate.specs.KeptZones.{ZoneKept}
use Rattle.linkcache.specs.Links.{LinkState, LinkKept}
use Rattle.linkcache.specs.Plans.{LinkPlan, Leads}
use Rattle.linkcache.specs.Rows.{at_moment, shown_rows}
use Rattle.history.specs.Entries.{is_taken, rows_after}
use Rattle.history.specs.declared.entry.Entry.{Entry}
use Rattle.history.specs.declared.plan.Planned.{Planned}
use Rattle.history.specs.declared.plan.Planned.TheVariants.{Idle, Accept}

-- what a link that it concerns gets of an entry at a moment
abbrev pub StepsIn : Entry → ℕ → LinkState → Option LinkPlan → Type 0
StepsIn entry now link None = is_taken entry link ≡ false
StepsIn entry now link (Some plan) = (is_taken entry link ≡ true) × Leads link.rules link.rows plan (rows_after entry now link)

abbrev pub StepsTo : Entry → ℕ → Option LinkState → Option LinkPlan → Type 0
StepsTo entry now None plan = plan ≡ None
StepsTo entry now (Some link) plan = StepsIn entry now link plan

abbrev pub EndsBy : ℕ → LinkState → LinkPlan → Type 0
EndsBy moment link plan = Leads link.rules link.rows plan (at_moment link.rows moment)

abbrev pub told_of : Option LinkPlan → Planned
told_of None = Idle
told_of (Some plan) = Accept plan.changed

-- the records of a zone that is kept, if there is one
abbrev pub zone_rows : Option ZoneKept → RecordSet
zone_rows None = []
zone_rows (Some zone) = zone.state.rows

-- what a link that is kept shows, if there is one
abbrev pub link_rows : Option LinkKept → RecordSet
link_rows None = []
link_rows (Some link) = shown_rows link.state.rules link.state.rows
