-- The state of all homes, what an entry makes of it, and the records that it shows.
--     lacks_update_header, update_in      a message has no header of an update; the update that a message is
--     verdict state message      what an update gets: the update that is entered, or an RCODE
--     accepts state entry, after state entry      whether the entry is made; the state after it, each by the homes that it concerns
--     home_names state, home_of state name      the names of all homes, reverse domains among them; the zone or link that a name belongs to
--     state_at, records_at      the state and the records after the first entries of a history
use Rattle.std.specs.Prelude.{ℕ, ◌+◌, Bool, false, not, ◌&&◌, ◌||◌, cond, List, [], ◌∷◌, ◌++◌, map, flat_map, length, take, fold, find, position, sum_by, Option, Some, None, Result, Ok, Err, is_ok, nat_lt, nat_le, ◌==◌, slice_get, option_map, option_and_then, if◌then◌else◌}
use Rattle.std.specs.List.{list_any}
use Rattle.push_base.specs.Cases.{◌>>=◌, fault_as, changed_at}
use Rattle.dnsname.specs.Names.{Labels, same_name, home}
use Rattle.rrset.specs.Kinds.{in_class, soa_kind}
use Rattle.rrset.specs.Rcodes.{formerr, notauth}
use Rattle.rrset.specs.Header.{header_octets, max_message, flags_of, is_response, opcode_of, update_opcode}
use Rattle.rrset.specs.Records.{key_of}
use Rattle.rrset.specs.RecordSet.{RecordSet, union}
use Rattle.rrset.specs.declared.record.Rr.{Rr}
use Rattle.rrset.specs.declared.record.Key.{Key}
use Rattle.rrset.specs.declared.record.Question.{Question}
use Rattle.dnswire.specs.declared.message.Update.{Update}
use Rattle.dnswire.specs.Reading.{update_of}
use Rattle.zoneupdate.specs.Zones.{ZoneState}
use Rattle.zoneupdate.specs.Updates.{judged}
pub use Rattle.linkcache.specs.Links.{LinkState}
pub use Rattle.linkcache.specs.declared.rules.LinkRules.{LinkRules}
pub use Rattle.linkcache.specs.Rows.{no_cap}
use Rattle.linkcache.specs.Rows.{at_moment, shown_rows, names_of, heard_by}
pub use Rattle.history.specs.Entries.{entry_octets, entry_size}
use Rattle.history.specs.Entries.{Concern, a_zone, a_link, all_links, concern, is_taken, rows_after}
use Rattle.history.specs.declared.past.TheConstants as pasts
use Rattle.history.specs.declared.entry.Entry.{Entry}
use Rattle.history.specs.declared.entry.Home.{Home}
use Rattle.history.specs.declared.entry.Home.TheVariants as homes

-- zones and links, each in the order in which they were added, and the moment
pub record State : Type 0 where
  pub zones : List ZoneState
  pub links : List LinkState
  pub now : ℕ

-- the names of the zones, and behind them of each link its domain and its reverse domains
abbrev pub home_names : State → List Labels
home_names state = map (λ z. z.apex) state.zones ++ flat_map (λ l. names_of l.rules) state.links

-- a link with a reverse domain more
abbrev pub with_reverse : Labels → LinkState → LinkState
with_reverse domain link = record link { rules = record link.rules { reverses = link.rules.reverses ++ domain ∷ [] } }

-- the zone of an apex
abbrev pub zone_of : State → Labels → Option ZoneState
zone_of state apex = find (λ z. same_name z.apex apex) state.zones

abbrev pub with_rows : State → Labels → RecordSet → State
with_rows state apex rows = record state { zones = map (λ z. cond (same_name z.apex apex) (record z { rows = rows }) z) state.zones }

-- the home of a name: a zone, or the link of which the nearest home above is one of its names, counted from 0 among its kind
abbrev pub home_of : State → Labels → Option Home
home_of state name = elim (home (home_names state) name) [
  | None ↦ None
  | Some h ↦ elim (position (λ z. same_name z.apex h) state.zones) [
    | Some i ↦ Some (homes.Zone i)
    | None ↦ option_map (λ i. homes.Link i) (position (λ l. list_any (same_name h) (names_of l.rules)) state.links)
  ]
]

-- the one entry of the zone section (RFC 2136, 3.1.1)
abbrev pub zone_asked : List Question → Result Labels ℕ
zone_asked (q ∷ []) = if q.kind == soa_kind then (if q.class == in_class then Ok q.name else Err notauth) else Err formerr
zone_asked _ = Err formerr

abbrev pub zone_for : State → List Question → Result ZoneState ℕ
zone_for state zones = zone_asked zones >>= λ apex. elim (zone_of state apex) [ None ↦ Err notauth | Some zone ↦ Ok zone ]

-- the state after an update, or the RCODE that refuses it
abbrev pub updated : State → Update → Result State ℕ
updated state update = do
  zone ← zone_for state update.zones
  rows ← judged (home_names state) zone update
  Ok (with_rows state zone.apex rows)

-- a message doesn't have the length of one, or not the header of an update (RFC 2136, 2.2)
abbrev pub lacks_update_header : List ℕ → Bool
lacks_update_header message =
    nat_lt (length message) header_octets || nat_lt max_message (length message) || is_response (flags_of message) || not (opcode_of (flags_of message) == update_opcode)

-- a message that is no update is a format error (RFC 2136, 2.2)
abbrev pub update_in : List ℕ → Result Update ℕ
update_in message = if lacks_update_header message then Err formerr else fault_as (λ _. formerr) (update_of message)

abbrev pub verdict : State → List ℕ → Result Update ℕ
verdict state message = update_in message >>= λ update. updated state update >>= λ _. Ok update

abbrev pub link_after : Entry → ℕ → LinkState → LinkState
link_after entry now link = record link { rows = rows_after entry now link }

abbrev pub link_at_moment : ℕ → LinkState → LinkState
link_at_moment t link = record link { rows = at_moment link.rows t }

-- the state after an entry that concerns these homes
abbrev pub after_by : Entry → State → Concern → State
after_by entry state (a_zone update) = elim (updated state update) [ Err code ↦ state | Ok later ↦ later ]
after_by entry state (a_link link) = record state { links = changed_at link (link_after entry state.now) state.links }
after_by entry state (all_links t) = if nat_lt state.now t then record state { now = t; links = map (link_at_moment t) state.links } else state

abbrev pub after : State → Entry → State
after state entry = after_by entry state (concern entry)

abbrev pub link_meets : (LinkState → Bool) → State → ℕ → Bool
link_meets test state link = elim (slice_get state.links link) [ None ↦ false | Some l ↦ test l ]

abbrev pub accepts_by : Entry → State → Concern → Bool
accepts_by entry state (a_zone update) = is_ok (updated state update)
accepts_by entry state (a_link link) = link_meets (is_taken entry) state link
accepts_by entry state (all_links t) = nat_lt state.now t

-- which events are entered (this project's own)
abbrev pub accepts : State → Entry → Bool
accepts state entry = accepts_by entry state (concern entry)

abbrev pub records : State → RecordSet
records state = fold union [] (map (λ z. z.rows) state.zones ++ map (λ l. shown_rows l.rules l.rows) state.links)

-- the fold of the first entries over the start
abbrev pub state_at : State → List Entry → ℕ → State
state_at start history point = fold after start (take point history)

abbrev pub records_at : State → List Entry → ℕ → RecordSet
records_at start history point = records (state_at start history point)

-- the link and the key that a row would have of which a record is the shown form; whether there is such a row isn't tested
abbrev pub key_heard : State → Rr → Option Home → Option (ℕ × Key)
key_heard state rr (Some (homes.Link i)) = option_and_then (λ l. option_map (λ r. (i, key_of r)) (heard_by l.rules rr)) (slice_get state.links i)
key_heard state rr _ = None

abbrev pub reconfirm_key : State → Rr → Option (ℕ × Key)
reconfirm_key state rr = key_heard state rr (home_of state rr.owner)

abbrev pub max_journal_entries : ℕ
max_journal_entries = pasts.MAX_ENTRIES

abbrev pub max_journal_octets : ℕ
max_journal_octets = pasts.MAX_OCTETS

-- entries and one more of a size are within the two numbers (this project's own)
abbrev pub journal_has_room : List Entry → ℕ → Bool
journal_has_room entries size = nat_lt (length entries) max_journal_entries && nat_le (sum_by entry_size entries + size) max_journal_octets
