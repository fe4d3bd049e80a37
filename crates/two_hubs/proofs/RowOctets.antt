-- The records of zones and links have rdata of octets: of a start, and after each entry.
--     StateBelow state      of each zone and each link
--     records-below      so all that is shown
--     start-below, update-below, moment-below, link-below      of a start, and after entries
use Rattle.std.proofs.Common.{◌≡◌, ℕ, ◌+◌, ◌%◌, ◌^◌, ◌<◌, ◌≤◌, zero, suc, Bool, true, false, cond, not, ◌||◌, List, [], ◌∷◌, ◌++◌, map, fold, find, length, codes, Option, Some, None, Result, Ok, Err, refl, sym, ap, subst, ◌∙◌, arith, ltb, eqb}
use Rattle.std.specs.Prelude.{All}
use Rattle.std.specs.Int.{w32, to_be_bytes}
use Rattle.std.specs.List.{AllByRecursion}
use Rattle.std.proofs.lemmas.Bool.{eqb-true, ltb-false}
use Rattle.std.proofs.lemmas.List.Elements.{recursion_from_All}
use Rattle.push_base.specs.Cases.{fault_as, changed_at}
use Rattle.coalesce.proofs.ReadBack.{each-append}
use Rattle.dnsname.specs.Names.{Labels, IsLabel, IsName, octets, same_name}
use Rattle.rrset.specs.Header.{flags_of, is_response, opcode_of, update_opcode}
use Rattle.rrset.specs.Kinds.{soa_kind}
use Rattle.rrset.specs.Rcodes.{formerr}
use Rattle.rrset.specs.Records.{key_of, shown_of}
use Rattle.rrset.specs.RecordSet.{RecordSet, put, put_rr, without, only, union}
use Rattle.rrset.specs.declared.record.Rr.{Rr}
use Rattle.rrset.specs.declared.record.Key.{Key}
use Rattle.rrset.specs.declared.record.Shown.{Shown}
use Rattle.rrset.specs.declared.record.HeardRr.{HeardRr}
use Rattle.rrset.specs.declared.record.Hearing.{Hearing}
use Rattle.rrset.proofs.Places.{all_filter}
use Rattle.dnswire.specs.Reading.{update_of, update_shape, heard_shape, heard_rr, hearing_of}
use Rattle.dnswire.specs.Spelling.{SpellsRecord, SpellsSeveral}
use Rattle.dnswire.specs.declared.message.Update.{Update}
use Rattle.dnswire.proofs.Entries.{done_as, done_then, same_done}
use Rattle.dnswire.proofs.Messages.{update-found, hearing-found}
use Rattle.dsotlv.specs.Laws.{AreOctets}
use Rattle.zoneupdate.specs.Zones.{ZoneState, first_soa, first_ns, new_zone, set_at, serial_of, with_serial}
use Rattle.zoneupdate.specs.Updates.{with_counted_ttl, changed_by, risen_soa, with_risen_serial, judged}
use Rattle.zoneupdate.proofs.ChangedParts.{changed_by-outcome, of_set}
use Rattle.zoneupdate.proofs.KeptZone.{changes_of, judged-accepted}
use Rattle.zoneupdate.proofs.NewZone.{numbers_of}
use Rattle.zoneupdate.proofs.RisenParts.{with_soas, serial_stays}
use Rattle.linkmap.specs.Translation.{local, renamed}
use Rattle.reversemap.specs.BothKinds.{is_used, shown_of as shown_by}
use Rattle.reversemap.proofs.UsedRecords.{shown-one}
use Rattle.linkcache.specs.declared.rules.LinkRules.{LinkRules}
use Rattle.linkcache.specs.declared.row.HeardRow.{HeardRow}
use Rattle.linkcache.specs.Links.{LinkState}
use Rattle.linkcache.specs.Rows.{LinkRows, rr_of_row, usable_of, put_shown, shown_rows}
use Rattle.linkcache.proofs.SoundSteps.{KeepsEnds, Brings, all-put, kept-moment}
use Rattle.history.specs.Entries.{a_link, brought, concern, rows_after as link_rows_after}
use Rattle.history.specs.Plans.{IsStart}
use Rattle.history.specs.States.{State, home_names, zone_of, zone_asked, zone_for, updated, update_in, verdict, link_after, link_at_moment, after, after_by, records}
use Rattle.history.specs.declared.entry.Entry.{Entry}
use Rattle.history.specs.declared.entry.Entry.TheVariants as entries
use Rattle.history.proofs.OneLink.{kept-after}
use Rattle.pushserver.proofs.told_rows.HeardRows.{Brought, brings_nothing, brings_read}
use Rattle.relay.specs.Laws.{HaveOctets}
use Rattle.two_hubs.proofs.RdataOctets.{Below, below-both, number-below, name-below, record-below, renamed-labels, with_names-below, with_serial-below}

-- ---- rows

abbrev RrsBelow : List Rr → Type 0
RrsBelow rrs = AllByRecursion (λ rr. Below rr.rdata) rrs

abbrev EntryBelow : Key × Shown → Type 0
EntryBelow e = Below e.1.rdata

put-below : (key : Key) (shown : Shown) (rows : RecordSet) → Below shown.rdata → HaveOctets rows → HaveOctets (put key shown rows)
put-below key shown rows one h = all-put EntryBelow key shown rows one h

put_rr-below : (rr : Rr) (rows : RecordSet) → Below rr.rdata → HaveOctets rows → HaveOctets (put_rr rows rr)
put_rr-below rr rows one h = put-below (key_of rr) (shown_of rr) rows one h

without-below : (t : Key → Bool) (rows : RecordSet) → HaveOctets rows → HaveOctets (without t rows)
without-below t rows h = all_filter EntryBelow (λ e. not (t e.0)) rows h

pub only-below : (t : Key → Bool) (rows : RecordSet) → HaveOctets rows → HaveOctets (only t rows)
only-below t rows h = all_filter EntryBelow (λ e. t e.0) rows h

union-below : (first second : RecordSet) → HaveOctets first → HaveOctets second → HaveOctets (union first second)
union-below first [] h k = h
union-below first (e ∷ es) h k = union-below (put e.0 e.1 first) es (put-below e.0 e.1 first k.0 h) k.1

-- ---- an update of a zone

changed-below : (apex : Labels) (rr : Rr) (rows : RecordSet) → Below rr.rdata → HaveOctets rows → HaveOctets (changed_by apex rows rr)
changed-below apex rr rows one h =
    changed_by-outcome HaveOctets apex rr rows h (λ is. put_rr-below rr rows one h)
    (λ is. put_rr-below rr (without (of_set rr) rows) one (without-below (of_set rr) rows h))
    (λ t within. without-below t rows h)

changes-below : (apex : Labels) (rrs : List Rr) (rows : RecordSet) → RrsBelow rrs → HaveOctets rows → HaveOctets (fold (changed_by apex) rows rrs)
changes-below apex [] rows all h = h
changes-below apex (rr ∷ rrs) rows all h = changes-below apex rrs (changed_by apex rows rr) all.1 (changed-below apex rr rows all.0 h)

counted-below : (rrs : List Rr) → RrsBelow rrs → RrsBelow (map with_counted_ttl rrs)
counted-below [] all = tt
counted-below (rr ∷ rrs) all = (all.0, counted-below rrs all.1)

risen-rdata : (e : Key × Shown) → Below e.1.rdata → Below (risen_soa e).rdata
risen-rdata e h = by (serial_of e.1.rdata)
  where
    by : (o : Option ℕ) → Below (elim o as (λ _. List ℕ) [ None ↦ e.1.rdata | Some serial ↦ with_serial ((serial + 1) % 2 ^ 32) e.1.rdata ])
    by None = h
    by (Some serial) = with_serial-below ((serial + 1) % 2 ^ 32) e.1.rdata h

soas-below : (soas rows : RecordSet) → HaveOctets soas → HaveOctets rows → HaveOctets (fold put_rr rows (map risen_soa soas))
soas-below [] rows all h = h
soas-below (e ∷ soas) rows all h = soas-below soas (put_rr rows (risen_soa e)) all.1 (put_rr-below (risen_soa e) rows (risen-rdata e all.0) h)

risen-below : (apex : Labels) (old new : RecordSet) → HaveOctets new → HaveOctets (with_risen_serial apex old new)
risen-below apex old new h = by (serial_stays old new (set_at apex soa_kind old) (set_at apex soa_kind new))
  where
    soas : RecordSet
    soas = set_at apex soa_kind new

    by : (b : Bool) → HaveOctets (cond b new (with_soas apex soas new))
    by true = h
    by false = soas-below soas _ (only-below _ new h) (without-below _ new h)

rows-below : (homes : List Labels) (zone : ZoneState) (update : Update) (rows : RecordSet) → RrsBelow update.changes → judged homes zone update ≡ Ok rows → HaveOctets zone.rows → HaveOctets rows
rows-below homes zone update rows read step h =
    let made = judged-accepted homes zone update rows step in
    subst HaveOctets made.after (risen-below zone.apex zone.rows (fold (changed_by zone.apex) zone.rows (changes_of update)) (changes-below zone.apex (changes_of update) zone.rows (counted-below update.changes read) h))

-- ---- what a message brings

module _ (test : ℕ → ℕ → Bool) (message : List ℕ) (below : Below message) where
  several-below : (rrs : List Rr) (at after : ℕ) → SpellsSeveral (SpellsRecord test) message at rrs after → RrsBelow rrs
  several-below [] at after s = tt
  several-below (rr ∷ rrs) at after (next, first, others) = (record-below test message below at rr next first, several-below rrs next after others)

pub record IsUpdate (message : List ℕ) (update : Update) : Type 0 where
  pub long : 12 ≤ length message
  pub response : is_response (flags_of message) ≡ false
  pub opcode : opcode_of (flags_of message) ≡ update_opcode
  pub read : update_of message ≡ Ok update

pub is_update : (message : List ℕ) (update : Update) → update_in message ≡ Ok update → IsUpdate message update
is_update message update e = by (ltb (length message) 12) (ltb 65535 (length message)) (is_response (flags_of message)) (eqb (opcode_of (flags_of message)) update_opcode) refl refl refl e
  where
    by : (short long response opcode : Bool) → ltb (length message) 12 ≡ short → is_response (flags_of message) ≡ response → eqb (opcode_of (flags_of message)) update_opcode ≡ opcode
        → cond (short || long || response || not opcode) (Err formerr) (fault_as (λ _. formerr) (update_of message)) ≡ Ok update → IsUpdate message update
    by true long response opcode s r o f = absurd cc
    by false true response opcode s r o f = absurd cc
    by false false true opcode s r o f = absurd cc
    by false false false false s r o f = absurd cc
    by false false false true s r o f = record { long = ltb-false _ _ s; response = r; opcode = eqb-true _ _ o; read = done_as (λ _. formerr) (update_of message) update f }

changes-read : (message : List ℕ) (update : Update) → AreOctets message → update_in message ≡ Ok update → RrsBelow update.changes
changes-read message update below e =
    let is = is_update message update e in
    let each : Below message = recursion_from_All (λ o. o < 256) message below in
    let spelled = update-found message update each is.long (is.response, is.opcode) is.read in
    several-below update_shape message each update.changes spelled.sections.answers_end spelled.sections.authority_end spelled.sections.authority.1

abbrev HeardBelow : List HeardRr → Type 0
HeardBelow hs = AllByRecursion (λ h. Below h.rr.rdata) hs

heard-both : (front back : List Rr) → RrsBelow front → RrsBelow back → HeardBelow (map heard_rr (front ++ back))
heard-both [] [] h k = tt
heard-both [] (rr ∷ back) h k = (k.0, heard-both [] back h k.1)
heard-both (rr ∷ front) back h k = (h.0, heard-both front back h.1 k)

hearing-read : (datagram : List ℕ) (hearing : Hearing) → AreOctets datagram → hearing_of datagram ≡ Ok hearing → HeardBelow hearing.rrs
hearing-read datagram hearing below e =
    let each : Below datagram = recursion_from_All (λ o. o < 256) datagram below in
    let found = hearing-found datagram hearing each e in
    let spelled = found.spelled in
    subst HeardBelow (sym found.used)
    (heard-both found.sections.answers found.sections.additional
    (several-below heard_shape datagram each found.sections.answers spelled.questions_end spelled.answers_end spelled.answers.1)
    (several-below heard_shape datagram each found.sections.additional spelled.authority_end found.sections.end spelled.additional.1))

brought-below : (hs : List HeardRr) → Brought AreOctets hs → HeardBelow hs
brought-below hs brings_nothing = tt
brought-below hs (brings_read datagram hearing below read) = hearing-read datagram hearing below read

-- ---- the rows of a link

abbrev RowBelow : Key × HeardRow → Type 0
RowBelow row = Below row.1.shown.rdata

abbrev LinkBelow : LinkState → Type 0
LinkBelow l = AllByRecursion RowBelow l.rows

ends-alike : KeepsEnds RowBelow
ends-alike row moment h = h

brings-below : (now : ℕ) (hs : List HeardRr) → HeardBelow hs → Brings RowBelow now hs
brings-below now [] h = tt
brings-below now (x ∷ hs) h = (h.0, brings-below now hs h.1)

link-after-below : (entry : Entry) (now : ℕ) (l : LinkState) → Brought AreOctets (brought entry) → LinkBelow l → AllByRecursion RowBelow (link_rows_after entry now l)
link-after-below entry now l brings h =
    kept-after RowBelow ends-alike entry now l
    (brings-below now (usable_of l.rules (brought entry)) (all_filter (λ (x : HeardRr). Below x.rr.rdata) (λ (x : HeardRr). is_used l.rules.domain l.rules.reverses x.rr) (brought entry) (brought-below (brought entry) brings))) h

abbrev LinksBelow : List LinkState → Type 0
LinksBelow links = AllByRecursion LinkBelow links

links-after-below : (entry : Entry) (now : ℕ) → Brought AreOctets (brought entry) → (place : ℕ) (links : List LinkState) → LinksBelow links → LinksBelow (changed_at place (link_after entry now) links)
links-after-below entry now brings zero [] h = tt
links-after-below entry now brings (suc i) [] h = tt
links-after-below entry now brings zero (l ∷ links) h = (link-after-below entry now l brings h.0, h.1)
links-after-below entry now brings (suc i) (l ∷ links) h = (h.0, links-after-below entry now brings i links h.1)

links-moment-below : (t : ℕ) (links : List LinkState) → LinksBelow links → LinksBelow (map (link_at_moment t) links)
links-moment-below t [] h = tt
links-moment-below t (l ∷ links) h = (kept-moment RowBelow ends-alike t l.rows h.0, links-moment-below t links h.1)

-- what it shows
module _ (rules : LinkRules) (is : IsName rules.domain) where
  put_shown-below : (set : RecordSet) (row : Key × HeardRow) → RowBelow row → HaveOctets set → HaveOctets (put_shown rules set row)
  put_shown-below set row one h = by (shown_by rules.domain rules.cap (rr_of_row row)) refl
    where
      by : (o : Option Rr) → shown_by rules.domain rules.cap (rr_of_row row) ≡ o → HaveOctets (elim o as (λ _. RecordSet) [ None ↦ set | Some rr ↦ put_rr set rr ])
      by None e = h
      by (Some rr) e =
          put_rr-below rr set
          (subst (λ (shown : Rr). Below shown.rdata) (shown-one rules.domain rules.cap (rr_of_row row) rr e)
          (with_names-below (renamed local rules.domain) (λ name labels. renamed-labels local rules.domain name is.labels labels) row.0.kind row.1.shown.rdata one)) h

  shown-below : (rows : LinkRows) (set : RecordSet) → AllByRecursion RowBelow rows → HaveOctets set → HaveOctets (fold (put_shown rules) set rows)
  shown-below [] set all h = h
  shown-below (row ∷ rows) set all h = shown-below rows (put_shown rules set row) all.1 (put_shown-below set row all.0 h)

-- ---- states

pub record StateBelow (state : State) : Type 0 where
  pub zones : AllByRecursion (λ z. HaveOctets z.rows) state.zones
  pub links : LinksBelow state.links

unite : (sets : List RecordSet) (first : RecordSet) → AllByRecursion HaveOctets sets → HaveOctets first → HaveOctets (fold union first sets)
unite [] first all h = h
unite (s ∷ sets) first all h = unite sets (union first s) all.1 (union-below first s h all.0)

zone-sets : (zones : List ZoneState) → AllByRecursion (λ z. HaveOctets z.rows) zones → AllByRecursion HaveOctets (map (λ z. z.rows) zones)
zone-sets [] h = tt
zone-sets (z ∷ zones) h = (h.0, zone-sets zones h.1)

link-sets : (links : List LinkState) → AllByRecursion (λ (l : LinkState). IsName l.rules.domain) links → LinksBelow links → AllByRecursion HaveOctets (map (λ (l : LinkState). shown_rows l.rules l.rows) links)
link-sets [] names h = tt
link-sets (l ∷ links) names h = (shown-below l.rules names.0 l.rows [] h.0 tt, link-sets links names.1 h.1)

pub records-below : (state : State) → AllByRecursion (λ (l : LinkState). IsName l.rules.domain) state.links → StateBelow state → HaveOctets (records state)
records-below state names h =
    unite (map (λ (z : ZoneState). z.rows) state.zones ++ map (λ (l : LinkState). shown_rows l.rules l.rows) state.links) []
    (each-append HaveOctets (map (λ (z : ZoneState). z.rows) state.zones) (map (λ (l : LinkState). shown_rows l.rules l.rows) state.links) (zone-sets state.zones h.zones) (link-sets state.links names h.links)) tt

-- ---- an update

abbrev ZonesBelow : List ZoneState → Type 0
ZonesBelow zones = AllByRecursion (λ z. HaveOctets z.rows) zones

zone-found : (p : ZoneState → Bool) (zones : List ZoneState) → ZonesBelow zones → (z : ZoneState) → find p zones ≡ Some z → HaveOctets z.rows
zone-found p [] h z e = absurd cc
zone-found p (y ∷ zones) h z e = by (p y) (λ e. zone-found p zones h.1 z e) e
  where
    by : (b : Bool) → (find p zones ≡ Some z → HaveOctets z.rows) → cond b (Some y) (find p zones) ≡ Some z → HaveOctets z.rows
    by true others e = let same : y ≡ z = cc in subst (λ (y : ZoneState). HaveOctets y.rows) same h.0
    by false others e = others e

zone-asked : (state : State) → ZonesBelow state.zones → (apex : Labels) (z : ZoneState) → (o : Option ZoneState) → zone_of state apex ≡ o
    → ◌≡◌ {A = Result ZoneState ℕ} (elim o as (λ _. Result ZoneState ℕ) [ None ↦ Err 9 | Some zone ↦ Ok zone ]) (Ok z) → HaveOctets z.rows
zone-asked state h apex z None is e = absurd cc
zone-asked state h apex z (Some y) is e = let same : y ≡ z = cc in zone-found (λ z. same_name z.apex apex) state.zones h z (is ∙ ap (λ (y : ZoneState). Some y) same)

zones-with : (p : ZoneState → Bool) (rows : RecordSet) → HaveOctets rows → (zones : List ZoneState) → ZonesBelow zones → ZonesBelow (map (λ z. cond (p z) (record z { rows = rows }) z) zones)
zones-with p rows new [] h = tt
zones-with p rows new (z ∷ zones) h = (by (p z), zones-with p rows new zones h.1)
  where
    by : (b : Bool) → HaveOctets (cond b (record z { rows = rows }) z).rows
    by true = new
    by false = h.0

updated-below : (state : State) (update : Update) (later : State) → RrsBelow update.changes → StateBelow state → updated state update ≡ Ok later → StateBelow later
updated-below state update later read h e =
    let zone = done_then {A = ZoneState} (zone_for state update.zones) _ later e in
    let rows = done_then {A = RecordSet} (judged (home_names state) zone.0 update) _ later zone.2 in
    let asked = done_then {A = Labels} (zone_asked update.zones) _ zone.0 zone.1 in
    let old = zone-asked state h.zones asked.0 zone.0 (zone_of state asked.0) refl asked.2 in
    subst StateBelow (same_done _ later rows.2)
    (record { zones = zones-with (λ z. same_name z.apex zone.0.apex) rows.0 (rows-below (home_names state) zone.0 update rows.0 read rows.1 old) state.zones h.zones; links = h.links })

pub update-below : (state : State) (message : List ℕ) (update : Update) → StateBelow state → AreOctets message → verdict state message ≡ Ok update → StateBelow (after state (entries.Update update))
update-below state message update h octets e =
    let first = done_then {A = Update} (update_in message) _ update e in
    let second = done_then {A = State} (updated state first.0) _ update first.2 in
    let same : first.0 ≡ update = same_done first.0 update second.2 in
    let read : update_in message ≡ Ok update = first.1 ∙ ap (λ (u : Update). Ok u) same in
    let step : updated state update ≡ Ok second.0 = ap (updated state) (sym same) ∙ second.1 in
    let is : second.0 ≡ after state (entries.Update update) = sym (ap (λ (r : Result State ℕ). elim r as (λ _. State) [ Err code ↦ state | Ok later ↦ later ]) step) in
    subst StateBelow is (updated-below state update second.0 (changes-read message update octets read) h step)

-- ---- other entries

pub moment-below : (state : State) (t : ℕ) → StateBelow state → StateBelow (after state (entries.Moment t))
moment-below state t h = by (ltb state.now t)
  where
    by : (b : Bool) → StateBelow (cond b (record state { now = t; links = map (link_at_moment t) state.links }) state)
    by true = record { zones = h.zones; links = links-moment-below t state.links h.links }
    by false = h

pub link-below : (state : State) (entry : Entry) (link : ℕ) → concern entry ≡ a_link link → Brought AreOctets (brought entry) → StateBelow state → StateBelow (after state entry)
link-below state entry link one brings h = subst StateBelow (sym (ap (after_by entry state) one)) (record { zones = h.zones; links = links-after-below entry state.now brings link state.links h.links })

-- ---- a start

label-is : (label : List ℕ) → Below label → 1 ≤ length label → length label ≤ 63 → IsLabel label
label-is label below some few = record { octets = below; some = some; few = few }

numbers-below : (serial : ℕ) → Below (numbers_of serial)
numbers-below serial =
    let two : Below (to_be_bytes w32 serial ++ to_be_bytes w32 3600) = below-both (to_be_bytes w32 serial) (to_be_bytes w32 3600) (number-below w32 serial) (number-below w32 3600) in
    let three : Below (to_be_bytes w32 serial ++ to_be_bytes w32 3600 ++ to_be_bytes w32 600) = below-both (to_be_bytes w32 serial ++ to_be_bytes w32 3600) (to_be_bytes w32 600) two (number-below w32 600) in
    let four : Below (to_be_bytes w32 serial ++ to_be_bytes w32 3600 ++ to_be_bytes w32 600 ++ to_be_bytes w32 86400) =
    below-both (to_be_bytes w32 serial ++ to_be_bytes w32 3600 ++ to_be_bytes w32 600) (to_be_bytes w32 86400) three (number-below w32 86400) in
    below-both (to_be_bytes w32 serial ++ to_be_bytes w32 3600 ++ to_be_bytes w32 600 ++ to_be_bytes w32 86400) (to_be_bytes w32 60) four (number-below w32 60)

new-below : (apex : Labels) (serial : ℕ) (writable : Bool) → IsName apex → HaveOctets (new_zone apex serial writable).rows
new-below apex serial writable is =
    let ns : IsLabel (codes "ns") = label-is (codes "ns") (omega arith, (omega arith, tt)) (omega arith) (omega arith) in
    let master : IsLabel (codes "hostmaster") = label-is (codes "hostmaster") (omega arith, (omega arith, (omega arith, (omega arith, (omega arith, (omega arith, (omega arith, (omega arith, (omega arith, (omega arith, tt)))))))))) (omega arith) (omega arith) in
    let first : Below (octets (codes "ns" ∷ apex)) = name-below (codes "ns" ∷ apex) (ns, is.labels) in
    let second : Below (octets (codes "hostmaster" ∷ apex)) = name-below (codes "hostmaster" ∷ apex) (master, is.labels) in
    let soa : Below (first_soa apex serial).rdata =
    below-both (octets (codes "ns" ∷ apex) ++ octets (codes "hostmaster" ∷ apex)) (numbers_of serial) (below-both (octets (codes "ns" ∷ apex)) (octets (codes "hostmaster" ∷ apex)) first second) (numbers-below serial) in
    put_rr-below (first_ns apex) (put_rr [] (first_soa apex serial)) first (put_rr-below (first_soa apex serial) [] soa tt)

abbrev IsNew : ZoneState → Type 0
IsNew z = (serial : ℕ) × (z ≡ new_zone z.apex serial z.writable)

zones-start : (zones : List ZoneState) → All IsNew zones → AllByRecursion (λ z. IsName z.apex) zones → ZonesBelow zones
zones-start [] new names = tt
zones-start (z ∷ zones) new names =
    let (serial, is) = new 0 z (omega arith) in
    (subst (λ (z : ZoneState). HaveOctets z.rows) (sym is) (new-below z.apex serial z.writable names.0), zones-start zones (λ k d h. new (suc k) d (omega arith)) names.1)

links-start : (links : List LinkState) → All (λ l. l.rows ≡ []) links → LinksBelow links
links-start [] none = tt
links-start (l ∷ links) none = (subst (AllByRecursion RowBelow) (sym (none 0 l (omega arith))) tt, links-start links (λ k d h. none (suc k) d (omega arith)))

pub start-below : (state : State) → IsStart state → AllByRecursion (λ (z : ZoneState). IsName z.apex) state.zones → StateBelow state
start-below state start names = record { zones = zones-start state.zones start.zones names; links = links-start state.links start.links }
