-- The records of a zone stay as they are told, through each change and the rise of the serial.
--     is_fit e      as `is_tellable`, but for the length of rdata, which follows from the size of all records of a name
--     fit-after      all changes and the serial; all-good      changes that were read and passed the prescan; all-tellable      with room at each name
--     tellable-from, tellable-parts      a record that is fit and short can be told; one that can be told is both
--     not_any, counted      a kind that isn't meta; a TTL as it counts
use Rattle.std.proofs.Common.{◌≡◌, ℕ, ◌+◌, ◌%◌, ◌^◌, ◌<◌, ◌≤◌, Bool, true, false, cond, not, ◌&&◌, ltb, leb, List, [], ◌∷◌, ◌++◌, map, fold, length, drop, Option, Some, None, Result, Ok, Err, is_ok, ◌==◌, refl, sym, ap, ◌∙◌, arith, w32}
use Rattle.std.specs.Int.{to_be_bytes}
use Rattle.std.specs.List.{list_all, AllByRecursion}
use Rattle.std.proofs.lemmas.Bool.{eqb-true, le-leb, leb-true, lt-ltb, ltb-true}
use Rattle.std.proofs.lemmas.List.{length-append, length-drop}
use Rattle.push_base.specs.Cases.{first_refused}
use Rattle.push_base.specs.Limits.{max_octets_at_name}
use Rattle.dnsname.specs.Names.{Labels, is_name, same_name}
use Rattle.rrset.specs.Kinds.{in_class, any_kind, soa_kind, is_meta}
use Rattle.rrset.specs.Rdata.{Field, rdata_fields, shape_fits}
use Rattle.rrset.specs.Records.{key_of, shown_of, rr_of, rr_size, counted_ttl}
use Rattle.rrset.specs.RecordSet.{RecordSet, is_of_rrset, put_rr, without, at_name, size_of}
use Rattle.rrset.specs.declared.record.Rr.{Rr}
use Rattle.rrset.specs.declared.record.Key.{Key}
use Rattle.rrset.specs.declared.record.Shown.{Shown}
use Rattle.rrset.proofs.Sizes.{size_of-cons}
use Rattle.dsotlv.specs.Notices.{last_ttl}
use Rattle.zoneupdate.specs.Zones.{ZoneState, set_at, serial_of, fields_with, with_serial}
use Rattle.zoneupdate.specs.Updates.{with_counted_ttl, change_refusal, changed_by, risen_soa, with_risen_serial, rows_after, is_within_limits}
use Rattle.zoneupdate.proofs.ChangedParts.{changed_by-outcome, of_set}
use Rattle.zoneupdate.proofs.Filters.{not_both, and-left, and-right, and-both}
use Rattle.zoneupdate.proofs.LimitedParts.{fits, fits-any}
use Rattle.zoneupdate.proofs.OneSoa.{soa-kind}
use Rattle.zoneupdate.proofs.Owners.{same_name-itself}
use Rattle.zoneupdate.proofs.RecordSets.{all-put}
use Rattle.zoneupdate.proofs.RisenParts.{with_soas, serial_stays}
use Rattle.zoneupdate.proofs.SoaRdata.{IsSoa, soa_found, soa_fields, serial_put, with_serial-put}
use Rattle.zoneupdate.proofs.SomeAndAll.{all-filter, all_itself}
use Rattle.pushserver.specs.Rows.{is_tellable}
use Rattle.pushserver.proofs.told_rows.Entered.{IsRead}

abbrev pub is_fit : Key × Shown → Bool
is_fit e = is_name e.1.owner && e.0.class == in_class && ltb e.0.kind (2 ^ 16) && not (e.0.kind == any_kind) && shape_fits e.0.kind e.1.rdata && leb e.1.ttl last_ttl

pub record Fit (e : Key × Shown) : Type 0 where
  pub owner : is_name e.1.owner ≡ true
  pub class : (e.0.class == in_class) ≡ true
  pub width : ltb e.0.kind (2 ^ 16) ≡ true
  pub kind : not (e.0.kind == any_kind) ≡ true
  pub shape : shape_fits e.0.kind e.1.rdata ≡ true
  pub ttl : leb e.1.ttl last_ttl ≡ true

pub fit : (e : Key × Shown) → is_fit e ≡ true → Fit e
fit e h =
    let owner = is_name e.1.owner in
    let class = e.0.class == in_class in
    let width = ltb e.0.kind (2 ^ 16) in
    let kind = not (e.0.kind == any_kind) in
    let shape = shape_fits e.0.kind e.1.rdata in
    let ttl = leb e.1.ttl last_ttl in
    let five = and-left (owner && class && width && kind && shape) ttl h in
    let four = and-left (owner && class && width && kind) shape five in
    let three = and-left (owner && class && width) kind four in
    let two = and-left (owner && class) width three in
    record {
      owner = and-left owner class two;
      class = and-right owner class two;
      width = and-right (owner && class) width three;
      kind = and-right (owner && class && width) kind four;
      shape = and-right (owner && class && width && kind) shape five;
      ttl = and-right (owner && class && width && kind && shape) ttl h;
    }

pub is_fit-from : (e : Key × Shown) → Fit e → is_fit e ≡ true
is_fit-from e is = and-both _ _ (and-both _ _ (and-both _ _ (and-both _ _ (and-both _ _ is.owner is.class) is.width) is.kind) is.shape) is.ttl

abbrev pub AreFit : RecordSet → Type 0
AreFit rows = list_all is_fit rows ≡ true

-- a record that may be added
abbrev pub CanBePut : Rr → Type 0
CanBePut rr = is_fit (key_of rr, shown_of rr) ≡ true

-- ---- one change

pub fit-put_rr : (rr : Rr) (rows : RecordSet) → CanBePut rr → AreFit rows → AreFit (put_rr rows rr)
fit-put_rr rr rows can h = all-put is_fit (key_of rr) (shown_of rr) rows h can

pub fit-without : (t : Key → Bool) (rows : RecordSet) → AreFit rows → AreFit (without t rows)
fit-without t rows h = all-filter is_fit (λ e. not (t e.0)) rows h

-- a change that puts its record only if it has class IN
abbrev pub IsGood : Rr → Type 0
IsGood rr = (rr.class == in_class) ≡ true → CanBePut rr

pub fit-changed_by : (apex : Labels) (rr : Rr) (rows : RecordSet) → IsGood rr → AreFit rows → AreFit (changed_by apex rows rr)
fit-changed_by apex rr rows good h =
    changed_by-outcome AreFit apex rr rows h (λ is. fit-put_rr rr rows (good is) h)
    (λ is. fit-put_rr rr (without (of_set rr) rows) (good is) (fit-without (of_set rr) rows h))
    (λ t within. fit-without t rows h)

pub fit-changes : (apex : Labels) (rrs : List Rr) (rows : RecordSet) → AllByRecursion IsGood rrs → AreFit rows → AreFit (fold (changed_by apex) rows rrs)
fit-changes apex [] rows good h = h
fit-changes apex (rr ∷ rrs) rows good h = fit-changes apex rrs (changed_by apex rows rr) good.1 (fit-changed_by apex rr rows good.0 h)

-- ---- the serial rises

fields-fit : (rdata : List ℕ) (r : Result (List Field) ℕ) → rdata_fields soa_kind rdata ≡ r → is_ok r ≡ true → (serial : ℕ) → shape_fits soa_kind (serial_put serial rdata r) ≡ true
fields-fit rdata (Err p) is ok serial = absurd cc
fields-fit rdata (Ok fields) is ok serial = with_fields (soa_found rdata fields is)
  where
    with_fields : IsSoa fields → shape_fits soa_kind (fields_with serial fields) ≡ true
    with_fields soa =
        let four : length (to_be_bytes w32 serial) ≡ 4 = refl in
        let long : length (to_be_bytes w32 serial ++ drop 4 soa.numbers) ≡ 20 = omega (arith, soa.many, length-append (to_be_bytes w32 serial) (drop 4 soa.numbers), four, length-drop 4 soa.numbers) in
        ap (λ (fs : List Field). shape_fits soa_kind (fields_with serial fs)) soa.fields_are
        ∙ ap (λ (r : Result (List Field) ℕ). is_ok r) (soa_fields soa.mname soa.rname (to_be_bytes w32 serial ++ drop 4 soa.numbers) soa.m_stands soa.r_stands long)

with_serial-fits : (serial : ℕ) (rdata : List ℕ) → shape_fits soa_kind rdata ≡ true → shape_fits soa_kind (with_serial serial rdata) ≡ true
with_serial-fits serial rdata fits = ap (shape_fits soa_kind) (with_serial-put serial rdata) ∙ fields-fit rdata (rdata_fields soa_kind rdata) refl fits serial

risen-fits : (rdata : List ℕ) → shape_fits soa_kind rdata ≡ true → (o : Option ℕ)
    → shape_fits soa_kind (elim o as (λ _. List ℕ) [ None ↦ rdata | Some serial ↦ with_serial ((serial + 1) % 2 ^ 32) rdata ]) ≡ true
risen-fits rdata fits None = fits
risen-fits rdata fits (Some serial) = with_serial-fits ((serial + 1) % 2 ^ 32) rdata fits

risen-can : (apex : Labels) (e : Key × Shown) → is_of_rrset apex in_class soa_kind e.0 ≡ true → is_fit e ≡ true → CanBePut (risen_soa e)
risen-can apex e is h =
    let parts = fit e h in
    let kind = soa-kind apex e.0 is in
    is_fit-from (key_of (risen_soa e), shown_of (risen_soa e)) (record {
      owner = parts.owner;
      class = parts.class;
      width = parts.width;
      kind = parts.kind;
      shape =
          ap (λ (k : ℕ). shape_fits k (risen_soa e).rdata) kind
          ∙ risen-fits e.1.rdata (ap (λ (k : ℕ). shape_fits k e.1.rdata) (sym kind) ∙ parts.shape) (serial_of e.1.rdata);
      ttl = parts.ttl;
    })

fit-risen_soas : (apex : Labels) (soas rows : RecordSet) → list_all (λ e. is_of_rrset apex in_class soa_kind e.0) soas ≡ true → AreFit soas → AreFit rows → AreFit (fold put_rr rows (map risen_soa soas))
fit-risen_soas apex [] rows are all h = h
fit-risen_soas apex (e ∷ soas) rows are all h =
    fit-risen_soas apex soas (put_rr rows (risen_soa e))
    (and-right (is_of_rrset apex in_class soa_kind e.0) (list_all (λ e. is_of_rrset apex in_class soa_kind e.0) soas) are)
    (and-right (is_fit e) (list_all is_fit soas) all)
    (fit-put_rr (risen_soa e) rows
    (risen-can apex e (and-left (is_of_rrset apex in_class soa_kind e.0) (list_all (λ e. is_of_rrset apex in_class soa_kind e.0) soas) are) (and-left (is_fit e) (list_all is_fit soas) all))
    h)

pub fit-risen : (apex : Labels) (old new : RecordSet) → AreFit new → AreFit (with_risen_serial apex old new)
fit-risen apex old new h = by (serial_stays old new (set_at apex soa_kind old) (set_at apex soa_kind new))
  where
    by : (b : Bool) → AreFit (cond b new (with_soas apex (set_at apex soa_kind new) new))
    by true = h
    by false =
        fit-risen_soas apex (set_at apex soa_kind new) (without (is_of_rrset apex in_class soa_kind) new) (all_itself (λ e. is_of_rrset apex in_class soa_kind e.0) new)
        (all-filter is_fit (λ e. is_of_rrset apex in_class soa_kind e.0) new h) (fit-without (is_of_rrset apex in_class soa_kind) new h)

pub fit-after : (zone : ZoneState) (rrs : List Rr) → AllByRecursion IsGood rrs → AreFit zone.rows → AreFit (rows_after zone rrs)
fit-after zone rrs good h = fit-risen zone.apex zone.rows (fold (changed_by zone.apex) zone.rows rrs) (fit-changes zone.apex rrs zone.rows good h)

-- ---- changes that passed the prescan

-- a change of class IN that isn't refused has no meta kind
not_meta : (homes : List Labels) (zone : ZoneState) (rr : Rr) → change_refusal homes zone rr ≡ None → (rr.class == in_class) ≡ true → is_meta rr.kind ≡ false
not_meta homes zone rr e is = by _ (rr.class == in_class) (is_meta rr.kind) _ e is
  where
    by : (a b c : Bool) (rest : Option ℕ) → cond a (Some 10) (cond (b && c) (Some 1) rest) ≡ None → b ≡ true → c ≡ false
    by true b c rest e is = absurd cc
    by false false c rest e is = absurd cc
    by false true true rest e is = absurd cc
    by false true false rest e is = refl

pub not_any : (kind : ℕ) → is_meta kind ≡ false → not (kind == any_kind) ≡ true
not_any kind no_meta = by (kind == any_kind) refl
  where
    by : (b : Bool) → (kind == any_kind) ≡ b → not b ≡ true
    by false e = refl
    by true e = absurd (not_both (is_meta kind) (ap is_meta (eqb-true kind any_kind e)) no_meta)

-- a TTL as it counts has no top bit
pub counted : (ttl : ℕ) → leb (counted_ttl ttl) last_ttl ≡ true
counted ttl = by (ltb ttl (2 ^ 31)) refl
  where
    by : (b : Bool) → ltb ttl (2 ^ 31) ≡ b → leb (cond b ttl 0) last_ttl ≡ true
    by true e = le-leb ttl last_ttl (let below = ltb-true ttl (2 ^ 31) e in omega arith)
    by false e = refl

pub good-read : (homes : List Labels) (zone : ZoneState) (rr : Rr) → IsRead rr → change_refusal homes zone (with_counted_ttl rr) ≡ None → IsGood (with_counted_ttl rr)
good-read homes zone rr read passed is = is_fit-from (key_of (with_counted_ttl rr), shown_of (with_counted_ttl rr)) (record {
  owner = read.owner;
  class = is;
  width = read.kind;
  kind = not_any rr.kind (not_meta homes zone (with_counted_ttl rr) passed is);
  shape = read.rdata is;
  ttl = counted rr.ttl;
})

pub all-good : (homes : List Labels) (zone : ZoneState) (rrs : List Rr) → AllByRecursion IsRead rrs → first_refused (change_refusal homes zone) (map with_counted_ttl rrs) ≡ None → AllByRecursion IsGood (map with_counted_ttl rrs)
all-good homes zone [] read passed = tt
all-good homes zone (rr ∷ rrs) read passed =
    let both = none_refused (change_refusal homes zone (with_counted_ttl rr)) (first_refused (change_refusal homes zone) (map with_counted_ttl rrs)) passed in
    (good-read homes zone rr read.0 both.0, all-good homes zone rrs read.1 both.1)
  where
    none_refused : (o rest : Option ℕ) → ◌≡◌ {A = Option ℕ} (elim o as (λ _. Option ℕ) [ Some code ↦ Some code | None ↦ rest ]) None → (o ≡ None) × (rest ≡ None)
    none_refused (Some code) rest e = absurd cc
    none_refused None rest e = (refl, e)

-- ---- sizes

abbrev pub HaveRoom : RecordSet → Type 0
HaveRoom rows = (name : Labels) → size_of (at_name name rows) ≤ max_octets_at_name

pub limits-room : (rows : RecordSet) → is_within_limits rows ≡ true → HaveRoom rows
limits-room rows h name = leb-true _ _ (fits-any rows (and-right _ (list_all (λ e. fits rows e.0.owner) rows) h) name)

-- at each name no rdata is longer than all its records
room-first : (e : Key × Shown) (rows : RecordSet) → HaveRoom (e ∷ rows) → ltb (length e.1.rdata) (2 ^ 16) ≡ true
room-first e rows room = lt-ltb _ _ (by (same_name e.0.owner e.0.owner) (same_name-itself e.0.owner) (room e.0.owner))
  where
    by : (b : Bool) → b ≡ true → size_of (cond b (e ∷ at_name e.0.owner rows) (at_name e.0.owner rows)) ≤ max_octets_at_name → length e.1.rdata < 2 ^ 16
    by true is most =
        let whole = size_of-cons e (at_name e.0.owner rows) in
        let one : length e.1.rdata ≤ rr_size (rr_of e.0 e.1) = omega arith in
        omega (arith, most, whole, one)
    by false is most = absurd cc

room-rest : (e : Key × Shown) (rows : RecordSet) → HaveRoom (e ∷ rows) → HaveRoom rows
room-rest e rows room name = by (same_name name e.0.owner) (room name)
  where
    by : (b : Bool) → size_of (cond b (e ∷ at_name name rows) (at_name name rows)) ≤ max_octets_at_name → size_of (at_name name rows) ≤ max_octets_at_name
    by true most = let whole = size_of-cons e (at_name name rows) in omega (arith, most, whole)
    by false most = most

pub tellable-from : (e : Key × Shown) → is_fit e ≡ true → ltb (length e.1.rdata) (2 ^ 16) ≡ true → is_tellable e ≡ true
tellable-from e h short =
    let is = fit e h in
    and-both _ _ (and-both _ _ (and-both _ _ (and-both _ _ (and-both _ _ (and-both _ _ (and-both _ _ (same_name-itself e.0.owner) is.owner) is.class) is.width) is.kind) is.shape) short) is.ttl

pub all-tellable : (rows : RecordSet) → AreFit rows → HaveRoom rows → list_all is_tellable rows ≡ true
all-tellable [] h room = refl
all-tellable (e ∷ rows) h room =
    and-both _ _ (tellable-from e (and-left (is_fit e) (list_all is_fit rows) h) (room-first e rows room))
    (all-tellable rows (and-right (is_fit e) (list_all is_fit rows) h) (room-rest e rows room))

-- the same the other way: a record that can be told is fit, and short enough
pub tellable-parts : (e : Key × Shown) → is_tellable e ≡ true → Fit e × (ltb (length e.1.rdata) (2 ^ 16) ≡ true)
tellable-parts e h =
    let own = same_name e.0.owner e.0.owner in
    let owner = is_name e.1.owner in
    let class = e.0.class == in_class in
    let width = ltb e.0.kind (2 ^ 16) in
    let kind = not (e.0.kind == any_kind) in
    let shape = shape_fits e.0.kind e.1.rdata in
    let short = ltb (length e.1.rdata) (2 ^ 16) in
    let ttl = leb e.1.ttl last_ttl in
    let seven = and-left (own && owner && class && width && kind && shape && short) ttl h in
    let six = and-left (own && owner && class && width && kind && shape) short seven in
    let five = and-left (own && owner && class && width && kind) shape six in
    let four = and-left (own && owner && class && width) kind five in
    let three = and-left (own && owner && class) width four in
    let two = and-left (own && owner) class three in (
      record {
        owner = and-right own owner two;
        class = and-right (own && owner) class three;
        width = and-right (own && owner && class) width four;
        kind = and-right (own && owner && class && width) kind five;
        shape = and-right (own && owner && class && width && kind) shape six;
        ttl = and-right (own && owner && class && width && kind && shape && short) ttl h;
      },
      and-right (own && owner && class && width && kind && shape) short seven,
    )

pub fit-tellable : (e : Key × Shown) → is_tellable e ≡ true → is_fit e ≡ true
fit-tellable e h = is_fit-from e (tellable-parts e h).0

pub all-fit : (rows : RecordSet) → list_all is_tellable rows ≡ true → AreFit rows
all-fit [] h = refl
all-fit (e ∷ rows) h =
    and-both _ _ (fit-tellable e (and-left (is_tellable e) (list_all is_tellable rows) h)) (all-fit rows (and-right (is_tellable e) (list_all is_tellable rows) h))
