-- What a feed tells, and what the holder of the seats tells.
--     FeedState      its parts of the three ledgers, and what was accepted through it
--     each, added, less, IsBelow, HasAtLeast      counts of the three groups, one by one
--     one_part, with_one_less, joined      a feed that is split off, what stays, and two together
--     raised      after so many entries more
--     LedgerNames      which four ledgers
--     SeatState      the parts of the ledger of sessions, and how many were made
use Rattle.std.specs.Prelude.{◌≡◌, ℕ, ◌+◌, ◌-◌, ◌≤◌, Bool, true, false, Result, Ok, Err}
use Rattle.history.specs.declared.entry.Totals.{Totals}
use Rattle.pushserver.specs.declared.given.Heard.{Heard}
use Rattle.pushserver.specs.declared.given.Heard.TheVariants.{Entered, Ignored}
use Rattle.pushserver.specs.declared.fault.HubFault.{HubFault}
use Rattle.hublock.specs.declared.books.TheConstants as books

pub record FeedState : Type 0 where
  pub parts : Totals
  pub sums : Totals

abbrev pub each : ℕ → Totals
each n = record { changes = n; heard = n; moments = n }

abbrev pub added : Totals → Totals → Totals
added a b = record { changes = a.changes + b.changes; heard = a.heard + b.heard; moments = a.moments + b.moments }

abbrev pub less : Totals → Totals → Totals
less a b = record { changes = a.changes - b.changes; heard = a.heard - b.heard; moments = a.moments - b.moments }

pub record IsBelow (a b : Totals) : Type 0 where
  pub changes : a.changes ≤ b.changes
  pub heard : a.heard ≤ b.heard
  pub moments : a.moments ≤ b.moments

-- at least so many of each
pub record HasAtLeast (n : ℕ) (parts : Totals) : Type 0 where
  pub changes : n ≤ parts.changes
  pub heard : n ≤ parts.heard
  pub moments : n ≤ parts.moments

-- one part of each, through which nothing was accepted yet
abbrev pub one_part : FeedState
one_part = record { parts = each 1; sums = each 0 }

abbrev pub with_one_less : FeedState → FeedState
with_one_less feed = record feed { parts = less feed.parts (each 1) }

abbrev pub joined : FeedState → FeedState → FeedState
joined a b = record { parts = added a.parts b.parts; sums = added a.sums b.sums }

-- as many more were accepted as the totals rose
abbrev pub raised : Totals → Totals → FeedState → FeedState
raised before after feed = record feed { sums = added feed.sums (less after before) }

abbrev pub one_change_more : FeedState → FeedState
one_change_more feed = record feed { sums = record feed.sums { changes = feed.sums.changes + 1 } }

abbrev pub one_hearing_more : FeedState → FeedState
one_hearing_more feed = record feed { sums = record feed.sums { heard = feed.sums.heard + 1 } }

abbrev pub one_moment_more : FeedState → FeedState
one_moment_more feed = record feed { sums = record feed.sums { moments = feed.sums.moments + 1 } }

-- a hearing more exactly where the datagram was entered
abbrev pub RisesAsHeard : Result Heard HubFault → FeedState → FeedState → Type 0
RisesAsHeard (Ok Entered) feed now = now ≡ one_hearing_more feed
RisesAsHeard (Ok (Ignored why)) feed now = now ≡ feed
RisesAsHeard (Err fault) feed now = now ≡ feed

-- a hearing more exactly where the link's rows went
abbrev pub RisesAsGone : Result Bool HubFault → FeedState → FeedState → Type 0
RisesAsGone (Ok true) feed now = now ≡ one_hearing_more feed
RisesAsGone (Ok false) feed now = now ≡ feed
RisesAsGone (Err fault) feed now = now ≡ feed

-- the names of the ledgers of changes, hearings, moments and sessions
pub record LedgerNames : Type 0 where
  pub changes : ℕ
  pub heard : ℕ
  pub moments : ℕ
  pub made : ℕ

pub record SeatState : Type 0 where
  pub parts : ℕ
  pub made : ℕ

-- the parts of each ledger
abbrev pub parts_each : ℕ
parts_each = books.PARTS

-- every part, through which nothing was accepted yet
abbrev pub all_parts : FeedState
all_parts = record { parts = each parts_each; sums = each 0 }

abbrev pub whole_seats : SeatState
whole_seats = record { parts = parts_each; made = 0 }
