-- An entry as data: all that is said of its kind.
--     Concern, concern entry      the homes that it concerns: a zone, by an update; one link; or all links, at a moment
--     is_taken entry link      whether the one link that it concerns takes it up
--     rows_after entry now link      the rows that it makes of that link's
--     brought entry      the records that it brings to that link
--     entry_size entry      the journal's size of it
--     Group, group entry      the group in which it counts
use Rattle.std.specs.Prelude.{ℕ, ◌+◌, Bool, false, not, List, [], sum_by}
use Rattle.push_base.specs.Cases.{is_empty}
use Rattle.rrset.specs.Records.{rr_size}
use Rattle.rrset.specs.declared.record.HeardRr.{HeardRr}
use Rattle.dnswire.specs.declared.message.Update.{Update}
use Rattle.linkcache.specs.Links.{LinkState}
use Rattle.linkcache.specs.Rows.{LinkRows, heard, reconfirmed, has_key, usable_of}
use Rattle.history.specs.declared.entry.TheConstants as entry
use Rattle.history.specs.declared.entry.Entry.{Entry}
use Rattle.history.specs.declared.entry.Entry.TheVariants as entries

pub data Concern : Type 0 where
  a_zone : Update → Concern
  a_link : ℕ → Concern
  all_links : ℕ → Concern

abbrev pub concern : Entry → Concern
concern (entries.Update update) = a_zone update
concern (entries.Heard link hearing) = a_link link
concern (entries.Moment t) = all_links t
concern (entries.Reconfirm link key) = a_link link
concern (entries.LinkGone link) = a_link link

-- ---- what an entry does to the one link that it concerns

abbrev pub is_taken : Entry → LinkState → Bool
is_taken (entries.Heard link hearing) l = not (is_empty (usable_of l.rules hearing.rrs))
is_taken (entries.Reconfirm link key) l = has_key key l.rows
is_taken (entries.LinkGone link) l = not (is_empty l.rows)
is_taken _ l = false

abbrev pub rows_after : Entry → ℕ → LinkState → LinkRows
rows_after (entries.Heard link hearing) now l = heard l.rules l.rows now hearing.rrs
rows_after (entries.Reconfirm link key) now l = reconfirmed l.rows key now
rows_after (entries.LinkGone link) now l = []
rows_after _ now l = l.rows

abbrev pub brought : Entry → List HeardRr
brought (entries.Heard link hearing) = hearing.rrs
brought _ = []

-- ---- how it counts

-- the octets that the journal counts for an entry beside its records
abbrev pub entry_octets : ℕ
entry_octets = entry.ENTRY_OCTETS

abbrev pub entry_size : Entry → ℕ
entry_size (entries.Update update) = entry_octets + sum_by rr_size update.prereqs + sum_by rr_size update.changes
entry_size (entries.Heard link hearing) = entry_octets + sum_by (λ h. rr_size h.rr) hearing.rrs
entry_size _ = entry_octets

pub data Group : Type 0 where
  as_change : Group
  as_hearing : Group
  as_moment : Group

abbrev pub group : Entry → Group
group (entries.Update update) = as_change
group (entries.Reconfirm link key) = as_change
group (entries.Heard link hearing) = as_hearing
group (entries.LinkGone link) = as_hearing
group (entries.Moment t) = as_moment
