-- What entries make of homes and of all records.
--     NamesStandApart      homes that were added one by one stand apart, whichever kind is put first
--     StartsAreAtHome      a start of homes that stand apart has each record at home
--     EntriesKeepHomes      each entry leaves each record at home, and each name its home
--     KeysHaveOnePlace      no key comes from two homes
--     RecordsAreTheHomes      the records of a name are those of its home
--     UpdatesFit, HearingsFit      what is made of one message fits an empty journal
--     LinksChangeForThemselves, LinksChangeTogether      what is shown otherwise where one link changes; where each does
use Rattle.std.specs.Prelude.{◌≡◌, ℕ, ◌<◌, ◌≤◌, Bool, false, List, [], ◌∷◌, ◌++◌, map, fold, flat_map, Option, Some, None, Ok, slice_get, IsTrue, is_some, All}
use Rattle.std.specs.List.{list_any, AllByRecursion, AllZip, IsDistinct}
use Rattle.dnsname.specs.Names.{Labels, is_name}
use Rattle.rrset.specs.KeyedRows.{Rows, put_row}
use Rattle.rrset.specs.RecordSet.{RecordSet, is_record_set, at_name, changes, shown_at}
use Rattle.rrset.specs.declared.record.Changed.{Changed}
use Rattle.rrset.specs.declared.record.Hearing.{Hearing}
use Rattle.dnswire.specs.declared.message.Update.{Update}
use Rattle.dnswire.specs.Reading.{hearing_of}
use Rattle.zoneupdate.specs.Zones.{ZoneState}
use Rattle.reversemap.specs.Reverse.{is_under}
use Rattle.linkcache.specs.Rows.{LinkRows, shown_rows, names_of}
use Rattle.linkcache.specs.Sound.{AreLinkRows}
use Rattle.history.specs.Homes.{NamedHome}
use Rattle.history.specs.Plans.{may_stand_together, IsStart}
use Rattle.history.specs.States.{State, LinkState, home_of, after, records, update_in, entry_size, max_journal_octets}
use Rattle.history.specs.AtHome.{AreNamesOf, StandApart, AreAtHome, homes_in}
use Rattle.history.specs.declared.entry.Entry.{Entry}
use Rattle.history.specs.declared.entry.Entry.TheVariants as entries
use Rattle.history.specs.declared.entry.Home.{Home}
use Rattle.history.specs.declared.entry.Home.TheVariants as homes

abbrev pub NamesStandApart : Type 0
NamesStandApart = (names : List NamedHome) (state : State) → IsTrue (may_stand_together names) → AreNamesOf names state → StandApart (homes_in state)

abbrev pub StartsAreAtHome : Type 0
StartsAreAtHome = (state : State) → IsStart state → StandApart (homes_in state) → AllByRecursion (λ l. AllByRecursion (λ n. IsTrue (is_name n)) (names_of l.rules)) state.links → AreAtHome state

abbrev pub EntriesKeepHomes : Type 0
EntriesKeepHomes = (state : State) (entry : Entry) → AreAtHome state → AreAtHome (after state entry) × ((name : Labels) → home_of (after state entry) name ≡ home_of state name)

-- what each home shows
abbrev pub shown_by : List LinkState → List RecordSet
shown_by links = map (λ l. shown_rows l.rules l.rows) links

abbrev pub sets_of : State → List RecordSet
sets_of state = map (λ z. z.rows) state.zones ++ shown_by state.links

-- what a home shows, if there is one
abbrev pub set_at : State → Option Home → RecordSet
set_at state None = []
set_at state (Some (homes.Zone i)) = elim (slice_get state.zones i) [ None ↦ [] | Some z ↦ z.rows ]
set_at state (Some (homes.Link i)) = elim (slice_get state.links i) [ None ↦ [] | Some l ↦ shown_rows l.rules l.rows ]

-- both sets show a key
abbrev pub share_a_key : RecordSet → RecordSet → Bool
share_a_key a b = list_any (λ e. is_some (shown_at e.0 b)) a

abbrev pub KeysHaveOnePlace : Type 0
KeysHaveOnePlace = (state : State) → AreAtHome state → IsDistinct share_a_key (sets_of state)

abbrev pub RecordsAreTheHomes : Type 0
RecordsAreTheHomes = (state : State) → AreAtHome state → IsTrue (is_record_set (records state)) × ((name : Labels) → at_name name (records state) ≡ at_name name (set_at state (home_of state name)))

-- no owner of the sets lies under one of the names
abbrev pub AreElsewhere : List Labels → List RecordSet → Type 0
AreElsewhere names sets = AllByRecursion (λ set. list_any (λ e. is_under names e.0.owner) set ≡ false) sets

abbrev pub LinksChangeForThemselves : Type 0
LinksChangeForThemselves = (zones : List ZoneState) (first last : List LinkState) (link : LinkState) (later : LinkRows) (now later_now : ℕ) → AreLinkRows link.rules link.rows → AreLinkRows link.rules later
    → AreElsewhere (names_of link.rules) (map (λ z. z.rows) zones) → AreElsewhere (names_of link.rules) (shown_by first) → AreElsewhere (names_of link.rules) (shown_by last)
    → changes (records (record { zones = zones; links = first ++ link ∷ last; now = now })) (records (record { zones = zones; links = first ++ (record link { rows = later }) ∷ last; now = later_now }))
    ≡ changes (shown_rows link.rules link.rows) (shown_rows link.rules later)

-- changed keys, each with its change
abbrev pub with_change : Rows Changed → Changed → Rows Changed
with_change rows c = put_row c.key c rows

-- the changes of several homes as one list, in key order
abbrev pub gathered : List (List Changed) → List Changed
gathered each = map (λ e. e.1) (fold with_change [] (flat_map (λ changed. changed) each))

-- the link of the same names later
pub record IsLater (link later : LinkState) : Type 0 where
  pub names : names_of later.rules ≡ names_of link.rules
  pub sound : AreLinkRows later.rules later.rows

-- what each link shows otherwise
abbrev pub each_changed : List LinkState → List LinkState → List (List Changed)
each_changed (l ∷ ls) (m ∷ ms) = changes (shown_rows l.rules l.rows) (shown_rows m.rules m.rows) ∷ each_changed ls ms
each_changed _ _ = []

-- where links alone change, exactly that is shown otherwise which each of them shows otherwise
abbrev pub LinksChangeTogether : Type 0
LinksChangeTogether = (state : State) (later : List LinkState) (now : ℕ) → AreAtHome state → AllZip IsLater state.links later
    → changes (records state) (records (record state { links = later; now = now })) ≡ gathered (each_changed state.links later)

-- what is made of one message fits an empty journal
abbrev pub UpdatesFit : Type 0
UpdatesFit = (message : List ℕ) (update : Update) → All (λ o. o < 256) message → update_in message ≡ Ok update → entry_size (entries.Update update) ≤ max_journal_octets

abbrev pub HearingsFit : Type 0
HearingsFit = (datagram : List ℕ) (link : ℕ) (hearing : Hearing) → All (λ o. o < 256) datagram → hearing_of datagram ≡ Ok hearing → entry_size (entries.Heard link hearing) ≤ max_journal_octets
