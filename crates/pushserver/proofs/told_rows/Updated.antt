-- States stay tellable: a start, an update that is entered, a later moment, and an entry that concerns one link.
--     update-tellable, moment-tellable, link-tellable, start-tellable
use Rattle.std.proofs.Common.{◌≡◌, ℕ, suc, ◌+◌, ◌≤◌, Bool, true, false, cond, ltb, eqb, List, [], ◌∷◌, ◌++◌, map, fold, find, length, codes, Option, Some, None, Result, Ok, Err, is_ok, refl, sym, ap, subst, ◌∙◌, arith}
use Rattle.std.specs.Prelude.{All, IsTrue}
use Rattle.std.specs.List.{list_all, AllByRecursion}
use Rattle.std.proofs.lemmas.Bool.{eq-eqb}
use Rattle.std.proofs.lemmas.List.{append-nil}
use Rattle.push_base.specs.Limits.{max_home_octets, max_octets_at_name}
use Rattle.dnsname.specs.Names.{Labels, IsName, octets, is_name, same_name}
use Rattle.dnsname.proofs.Decisions.{is_name-Decides}
use Rattle.dnsname.proofs.ReadAgain.{plain_name_at-stands}
use Rattle.rrset.specs.Kinds.{ns_kind, soa_kind}
use Rattle.rrset.specs.Rdata.{Field, named, with_field, shape_fits}
use Rattle.rrset.specs.Records.{key_of, shown_of}
use Rattle.rrset.specs.RecordSet.{RecordSet, at_name, size_of}
use Rattle.dnswire.specs.declared.message.Update.{Update}
use Rattle.dnswire.proofs.Entries.{done_then, same_done}
use Rattle.zoneupdate.specs.Zones.{ZoneState, first_soa, first_ns, new_zone}
use Rattle.zoneupdate.specs.Updates.{judged, changed_by}
use Rattle.zoneupdate.proofs.KeptZone.{changes_of, judged-accepted, set-risen}
use Rattle.zoneupdate.proofs.NewZone.{label-can, numbers_of, soa_alone, new-size}
use Rattle.zoneupdate.proofs.RecordSets.{IsSet, set-put_rrs, set-changes}
use Rattle.zoneupdate.proofs.SoaRdata.{named_then, name_first, soa_fields}
use Rattle.linkcache.specs.Rows.{LinkRows}
use Rattle.history.specs.Entries.{a_link, brought, concern}
use Rattle.history.specs.Homes.{NamedHome}
use Rattle.history.specs.Plans.{IsStart}
use Rattle.history.specs.AtHome.{AreAtHome, named_zones, named_links, homes_in}
use Rattle.history.specs.States.{State, LinkState, home_names, zone_of, zone_asked, zone_for, with_rows, updated, update_in, verdict, link_at_moment, after, after_by}
use Rattle.history.specs.declared.entry.Entry.{Entry}
use Rattle.history.specs.declared.entry.Entry.TheVariants as entries
use Rattle.history.proofs.StatesAtHome.{home-after}
use Rattle.pushserver.specs.Rows.{is_tellable, is_heard_so, IsTellable}
use Rattle.dsotlv.specs.Laws.{AreOctets}
use Rattle.pushserver.proofs.told_rows.Entered.{IsRead, changes_read}
use Rattle.pushserver.proofs.told_rows.Fitting.{HaveRoom, AreFit, is_fit-from, fit-put_rr, fit-after, all-good, limits-room, all-tellable, all-fit}
use Rattle.pushserver.proofs.told_rows.HeardRows.{AreHeard, Brought, links-after, links-moment}
use Rattle.pushserver.proofs.told_rows.Told.{RowsTell, ZonesTell, told-zones, tell-rows, tell-sizes}

-- ---- an update

-- the zone is one of those that are told, and its rows after the update
record Step (state : State) (update : Update) (later : State) : Type 0 where
  pub zone : ZoneState
  pub rows : RecordSet
  pub step : judged (home_names state) zone update ≡ Ok rows
  pub tell : RowsTell zone.rows
  pub is : later ≡ with_rows state zone.apex rows

tell-found : (p : ZoneState → Bool) (zones : List ZoneState) → ZonesTell zones → (z : ZoneState) → find p zones ≡ Some z → RowsTell z.rows
tell-found p [] tell z e = absurd cc
tell-found p (y ∷ zones) tell z e = by (p y) (λ e. tell-found p zones tell.1 z e) e
  where
    by : (b : Bool) → (find p zones ≡ Some z → RowsTell z.rows) → cond b (Some y) (find p zones) ≡ Some z → RowsTell z.rows
    by true others e = let same : y ≡ z = cc in subst (λ (y : ZoneState). RowsTell y.rows) same tell.0
    by false others e = others e

zone-found : (state : State) → ZonesTell state.zones → (apex : Labels) (z : ZoneState) → (o : Option ZoneState) → zone_of state apex ≡ o
    → ◌≡◌ {A = Result ZoneState ℕ} (elim o as (λ _. Result ZoneState ℕ) [ None ↦ Err 9 | Some zone ↦ Ok zone ]) (Ok z) → RowsTell z.rows
zone-found state tell apex z None is e = absurd cc
zone-found state tell apex z (Some y) is e = let same : y ≡ z = cc in tell-found (λ z. same_name z.apex apex) state.zones tell z (is ∙ ap (λ (y : ZoneState). Some y) same)

step-of : (state : State) → ZonesTell state.zones → (update : Update) (later : State) → updated state update ≡ Ok later → Step state update later
step-of state tell update later e =
    let zone = done_then {A = ZoneState} (zone_for state update.zones) _ later e in
    let rows = done_then {A = RecordSet} (judged (home_names state) zone.0 update) _ later zone.2 in
    let asked = done_then {A = Labels} (zone_asked update.zones) _ zone.0 zone.1 in
    record { zone = zone.0; rows = rows.0; step = rows.1; tell = zone-found state tell asked.0 zone.0 (zone_of state asked.0) refl asked.2; is = sym (same_done _ later rows.2) }

-- the rows after it can be told
rows-tell : (homes : List Labels) (zone : ZoneState) (update : Update) (rows : RecordSet) → AllByRecursion IsRead update.changes → judged homes zone update ≡ Ok rows → RowsTell zone.rows → RowsTell rows
rows-tell homes zone update rows read step tell =
    let made = judged-accepted homes zone update rows step in
    let rrs = changes_of update in
    let good = all-good homes zone update.changes read made.passed in
    let fit = subst AreFit made.after (fit-after zone rrs good (all-fit zone.rows tell.tellable)) in
    let set = set-risen zone.apex zone.rows (fold (changed_by zone.apex) zone.rows rrs) (set-changes zone.apex rrs zone.rows tell.set) in
    let room = limits-room rows made.limits in
    record { set = subst IsSet made.after set; tellable = all-tellable rows fit room; room = room }

tell-with : (p : ZoneState → Bool) (rows : RecordSet) → RowsTell rows → (zones : List ZoneState) → ZonesTell zones → ZonesTell (map (λ z. cond (p z) (record z { rows = rows }) z) zones)
tell-with p rows new [] tell = tt
tell-with p rows new (z ∷ zones) tell = (by (p z), tell-with p rows new zones tell.1)
  where
    by : (b : Bool) → RowsTell (cond b (record z { rows = rows }) z).rows
    by true = new
    by false = tell.0

step-tells : (state : State) → ZonesTell state.zones → (update : Update) (later : State) → AllByRecursion IsRead update.changes → Step state update later → ZonesTell later.zones
step-tells state tell update later read s =
    subst (λ (l : State). ZonesTell l.zones) (sym s.is)
    (tell-with (λ z. same_name z.apex s.zone.apex) s.rows (rows-tell (home_names state) s.zone update s.rows read s.step s.tell) state.zones tell)

-- what the verdict takes is an update that is read, and leads to a state
record Taken (state : State) (message : List ℕ) (update : Update) : Type 0 where
  pub read : update_in message ≡ Ok update
  pub later : State
  pub step : updated state update ≡ Ok later

taken : (state : State) (message : List ℕ) (update : Update) → verdict state message ≡ Ok update → Taken state message update
taken state message update e =
    let first = done_then {A = Update} (update_in message) _ update e in
    let second = done_then {A = State} (updated state first.0) _ update first.2 in
    let same = same_done first.0 update second.2 in
    record { read = first.1 ∙ ap (λ (u : Update). Ok u) same; later = second.0; step = ap (updated state) (sym same) ∙ second.1 }

pub update-tellable : (state : State) (message : List ℕ) (update : Update) → IsTellable state → AreOctets message → verdict state message ≡ Ok update
    → IsTellable (after state (entries.Update update))
update-tellable state message update is octets e =
    let got = taken state message update e in
    let tell = told-zones state is in
    let read = changes_read message update octets got.read in
    let new = step-tells state tell update got.later read (step-of state tell update got.later got.step) in
    let same : got.later ≡ after state (entries.Update update) = sym (ap (λ (r : Result State ℕ). elim r as (λ _. State) [ Err code ↦ state | Ok later ↦ later ]) got.step) in
    let zones = subst (λ (s : State). ZonesTell s.zones) same new in
    let links : got.later.links ≡ state.links = ap (λ (s : State). s.links) (step-of state tell update got.later got.step).is in
    record {
      home = home-after state is.home (entries.Update update);
      rows = tell-rows _ zones;
      sizes = tell-sizes _ zones;
      heard = subst (λ (s : State). AreHeard s.links) same (subst AreHeard (sym links) is.heard);
    }

-- ---- a later moment

pub moment-tellable : (state : State) (t : ℕ) → IsTellable state → IsTellable (after state (entries.Moment t))
moment-tellable state t is =
    let zones = same_zones (ltb state.now t) in
    record {
      home = home-after state is.home (entries.Moment t);
      rows = subst (AllByRecursion (λ z. IsTrue (list_all is_tellable z.rows))) zones is.rows;
      sizes = subst (AllByRecursion (λ (z : ZoneState). (name : Labels) → size_of (at_name name z.rows) ≤ max_octets_at_name)) zones is.sizes;
      heard = links (ltb state.now t);
    }
  where
    same_zones : (b : Bool) → state.zones ≡ (cond b (record state { now = t; links = map (link_at_moment t) state.links }) state).zones
    same_zones true = refl
    same_zones false = refl

    links : (b : Bool) → AreHeard (cond b (record state { now = t; links = map (link_at_moment t) state.links }) state).links
    links true = links-moment t state.links is.heard
    links false = is.heard

-- ---- an entry that concerns one link

pub link-tellable : (state : State) (entry : Entry) (link : ℕ) → concern entry ≡ a_link link → Brought AreOctets (brought entry) → IsTellable state → IsTellable (after state entry)
link-tellable state entry link one brings is = subst IsTellable (sym (ap (after_by entry state) one)) (record {
  home = subst AreAtHome (ap (after_by entry state) one) (home-after state is.home entry);
  rows = is.rows;
  sizes = is.sizes;
  heard = links-after entry state.now link state.links brings is.heard;
})

-- ---- a start

-- what holds of each home's name holds of each zone's apex
of-zones : (P : Labels → Type 0) (zones : List ZoneState) (others : List NamedHome) → AllByRecursion (λ h. P h.0) (named_zones zones ++ others) → AllByRecursion (λ z. P z.apex) zones
of-zones P [] others h = tt
of-zones P (z ∷ zones) others h = (h.0, of-zones P zones others h.1)

soa-fits : (apex : Labels) (serial : ℕ) → IsName apex → length (octets apex) ≤ max_home_octets → shape_fits soa_kind (first_soa apex serial).rdata ≡ true
soa-fits apex serial is short =
    ap (λ (r : Result (List Field) ℕ). is_ok r)
    (soa_fields (codes "ns" ∷ apex) (codes "hostmaster" ∷ apex) (numbers_of serial) (label-can (codes "ns") apex is (omega arith) (omega arith) short) (label-can (codes "hostmaster") apex is (omega arith) (omega arith) short) refl)

ns-fits : (apex : Labels) → IsName apex → length (octets apex) ≤ max_home_octets → shape_fits ns_kind (first_ns apex).rdata ≡ true
ns-fits apex is short =
    let name : Labels = codes "ns" ∷ apex in
    let text = octets name in
    let at_end : eqb (0 + length text) (length text) ≡ true = eq-eqb _ _ (omega arith) in
    ap (λ (r : Result (List Field) ℕ). is_ok r)
    (name_first [] text 0
    ∙ ap (named_then [] text) (plain_name_at-stands text 0 name (label-can (codes "ns") apex is (omega arith) (omega arith) short) ([], sym (append-nil text)))
    ∙ ap (λ (b : Bool). with_field (named name) (cond {A = Result (List Field) ℕ} b (Ok []) (Err (0 + length text)))) at_end)

new-tells : (apex : Labels) (serial : ℕ) (writable : Bool) → IsName apex → length (octets apex) ≤ max_home_octets → RowsTell (new_zone apex serial writable).rows
new-tells apex serial writable is short =
    let owner = (is_name-Decides apex).1 is in
    let soa = is_fit-from (key_of (first_soa apex serial), shown_of (first_soa apex serial)) (record { owner = owner; class = refl; width = refl; kind = refl; shape = soa-fits apex serial is short; ttl = refl }) in
    let ns = is_fit-from (key_of (first_ns apex), shown_of (first_ns apex)) (record { owner = owner; class = refl; width = refl; kind = refl; shape = ns-fits apex is short; ttl = refl }) in
    let rows = (new_zone apex serial writable).rows in
    let fit : AreFit rows = fit-put_rr (first_ns apex) (soa_alone apex serial) ns (fit-put_rr (first_soa apex serial) [] soa refl) in
    let room : HaveRoom rows = λ name. let size = new-size apex name serial writable short in omega (arith, size) in
    record { set = set-put_rrs (first_soa apex serial ∷ first_ns apex ∷ []) [] refl; tellable = all-tellable rows fit room; room = room }

abbrev IsNew : ZoneState → Type 0
IsNew z = (serial : ℕ) × (z ≡ new_zone z.apex serial z.writable)

start-tells : (zones : List ZoneState) → All IsNew zones → AllByRecursion (λ z. IsTrue (is_name z.apex)) zones → AllByRecursion (λ z. length (octets z.apex) ≤ max_home_octets) zones → ZonesTell zones
start-tells [] new names short = tt
start-tells (z ∷ zones) new names short =
    let (serial, is) = new 0 z (omega arith) in (
      subst (λ (z : ZoneState). RowsTell z.rows) (sym is) (new-tells z.apex serial z.writable ((is_name-Decides z.apex).0 names.0) short.0),
      start-tells zones (λ k d h. new (suc k) d (omega arith)) names.1 short.1,
    )

no_rows : (links : List LinkState) → All (λ l. l.rows ≡ []) links → AreHeard links
no_rows [] none = tt
no_rows (l ∷ links) none = (ap (λ (rows : LinkRows). list_all is_heard_so rows) (none 0 l (omega arith)), no_rows links (λ k d h. none (suc k) d (omega arith)))

-- homes that stand apart, each with a name
pub start-tellable : (state : State) → IsStart state → AreAtHome state → AllByRecursion (λ h. IsTrue (is_name h.0)) (homes_in state) → IsTellable state
start-tellable state start home names =
    let short = of-zones (λ name. length (octets name) ≤ max_home_octets) state.zones (named_links state.links) home.apart.short in
    let zones = start-tells state.zones start.zones (of-zones (λ name. IsTrue (is_name name)) state.zones (named_links state.links) names) short in
    record { home = home; rows = tell-rows state.zones zones; sizes = tell-sizes state.zones zones; heard = no_rows state.links start.links }
