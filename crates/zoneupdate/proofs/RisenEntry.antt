-- The key of an SOA with the serial that follows its own is its key with that serial.
use Rattle.std.proofs.Common.{◌≡◌, ℕ, ◌+◌, ◌%◌, ◌^◌, true, fold, Option, Some, None, List, [], ◌∷◌, ◌++◌, length, take, drop, map, Result, Ok, Err, refl, sym, ap, subst, ◌∙◌, arith, w32, append_assoc}
use Rattle.std.specs.Prelude.{flat_map}
use Rattle.std.specs.Char.{to_ascii_lowercase}
use Rattle.std.specs.Int.{to_be_bytes, from_be_bytes}
use Rattle.std.specs.List.{list_all}
use Rattle.std.proofs.lemmas.List.{length-append, length-drop, length-map, append-nil}
use Rattle.std.proofs.lemmas.Bool.{eqb-true}
use Rattle.dnsname.specs.Names.{Labels, octets, lower}
use Rattle.dnsname.specs.Spelling.{IsLength}
use Rattle.dnsname.proofs.ReadAgain.{CanStand}
use Rattle.rrset.specs.Kinds.{in_class, soa_kind}
use Rattle.rrset.specs.Rdata.{Field, raw, named, field_octets, field_with, rdata_fields, lowered_rdata}
use Rattle.rrset.specs.Records.{key_of, shown_of, rr_of}
use Rattle.rrset.specs.RecordSet.{RecordSet, is_of_rrset, shows_its_key, put_rr, union}
use Rattle.rrset.specs.Tables.{HaveLowerOwners}
use Rattle.rrset.specs.declared.record.Key.{Key}
use Rattle.rrset.specs.declared.record.Shown.{Shown}
use Rattle.rrset.proofs.SameRows.{same_key-same}
use Rattle.zoneupdate.specs.Zones.{set_at, soa_rdata, serial_of, with_serial}
use Rattle.zoneupdate.specs.Checking.{is_of_kind}
use Rattle.zoneupdate.specs.Changing.{risen_entry, risen_rdata}
use Rattle.zoneupdate.specs.Updates.{risen_soa}
use Rattle.zoneupdate.proofs.Filters.{and-left, and-right}
use Rattle.zoneupdate.proofs.SomeAndAll.{all-filter}
use Rattle.zoneupdate.proofs.RecordSets.{lower_owners}
use Rattle.zoneupdate.proofs.SoaRdata.{IsSoa, soa_found, soa_fields, serial_read, serial_of-read, serial_put, with_serial-put}

-- ---- a name that can stand can stand in lower case

can_stand-lower : (size : ℕ) (name : Labels) → CanStand size name → CanStand size (lower name)
can_stand-lower size [] h = tt
can_stand-lower size (l ∷ ls) h =
    let same : length (map to_ascii_lowercase l) ≡ length l = length-map l to_ascii_lowercase in (
      subst (λ (n : ℕ). IsLength size n) (sym same) h.0,
      subst (λ (n : ℕ). CanStand (size + (1 + n)) (lower ls)) (sym same) (can_stand-lower (size + (1 + length l)) ls h.1),
    )

-- ---- rdata by its fields

abbrev pub lowered_put : List ℕ → Result (List Field) ℕ → List ℕ
lowered_put rdata (Ok fields) = flat_map (λ field. field_octets (field_with lower field)) fields
lowered_put rdata (Err p) = rdata

lowered-put : (rdata : List ℕ) → lowered_rdata soa_kind rdata ≡ lowered_put rdata (rdata_fields soa_kind rdata)
lowered-put rdata = by (rdata_fields soa_kind rdata)
  where
    by : (r : Result (List Field) ℕ) → elim r [ Err p ↦ rdata | Ok fields ↦ flat_map (λ field. field_octets (field_with lower field)) fields ] ≡ lowered_put rdata r
    by (Ok fields) = refl
    by (Err p) = refl

abbrev pub risen_put : List ℕ → Option ℕ → List ℕ
risen_put rdata None = rdata
risen_put rdata (Some serial) = with_serial ((serial + 1) % 2 ^ 32) rdata

risen-put : (rdata : List ℕ) → risen_rdata rdata ≡ risen_put rdata (serial_of rdata)
risen-put rdata = by (serial_of rdata)
  where
    by : (o : Option ℕ) → elim o [ None ↦ rdata | Some serial ↦ with_serial ((serial + 1) % 2 ^ 32) rdata ] ≡ risen_put rdata o
    by None = refl
    by (Some serial) = refl

abbrev pub fields_of : Labels → Labels → List ℕ → List Field
fields_of m r numbers = named m ∷ named r ∷ raw numbers ∷ []

-- the numbers with the serial that follows their own
abbrev pub next_numbers : List ℕ → List ℕ
next_numbers numbers = to_be_bytes w32 ((from_be_bytes w32 (take 4 numbers) + 1) % 2 ^ 32) ++ drop 4 numbers

many-with : (serial : ℕ) (numbers : List ℕ) → length numbers ≡ 20 → length (to_be_bytes w32 serial ++ drop 4 numbers) ≡ 20
many-with serial numbers many =
    let four : length (to_be_bytes w32 serial) ≡ 4 = refl in
    omega (arith, many, length-append (to_be_bytes w32 serial) (drop 4 numbers), four, length-drop 4 numbers)

-- what is read as an SOA, with the next serial, and in lower case
risen-read : (rdata : List ℕ) (m r : Labels) (numbers : List ℕ) → rdata_fields soa_kind rdata ≡ Ok (fields_of m r numbers) → risen_rdata rdata ≡ soa_rdata m r (next_numbers numbers)
risen-read rdata m r numbers is =
    risen-put rdata ∙ ap (risen_put rdata) (serial_of-read rdata ∙ ap serial_read is)
    ∙ with_serial-put ((from_be_bytes w32 (take 4 numbers) + 1) % 2 ^ 32) rdata ∙ ap (serial_put ((from_be_bytes w32 (take 4 numbers) + 1) % 2 ^ 32) rdata) is

lowered-read : (rdata : List ℕ) (m r : Labels) (numbers : List ℕ) → rdata_fields soa_kind rdata ≡ Ok (fields_of m r numbers) → lowered_rdata soa_kind rdata ≡ soa_rdata (lower m) (lower r) numbers
lowered-read rdata m r numbers is =
    lowered-put rdata ∙ ap (lowered_put rdata) is
    ∙ ap (λ (l : List ℕ). octets (lower m) ++ (octets (lower r) ++ l)) (append-nil numbers)
    ∙ sym (append_assoc (octets (lower m)) (octets (lower r)) numbers)

-- rdata in lower case with the next serial is rdata with the next serial in lower case
lowered-risen : (rdata : List ℕ) → risen_rdata (lowered_rdata soa_kind rdata) ≡ lowered_rdata soa_kind (risen_rdata rdata)
lowered-risen rdata = by (rdata_fields soa_kind rdata) refl
  where
    by : (found : Result (List Field) ℕ) → rdata_fields soa_kind rdata ≡ found → risen_rdata (lowered_rdata soa_kind rdata) ≡ lowered_rdata soa_kind (risen_rdata rdata)
    by (Err p) is =
        let low : lowered_rdata soa_kind rdata ≡ rdata = lowered-put rdata ∙ ap (lowered_put rdata) is in
        let stays : risen_rdata rdata ≡ rdata = risen-put rdata ∙ ap (risen_put rdata) (serial_of-read rdata ∙ ap serial_read is) in
        ap risen_rdata low ∙ stays ∙ sym low ∙ ap (lowered_rdata soa_kind) (sym stays)
    by (Ok fields) is =
        let soa : IsSoa fields = soa_found rdata fields is in
        let m : Labels = soa.mname in
        let r : Labels = soa.rname in
        let read : rdata_fields soa_kind rdata ≡ Ok (fields_of m r soa.numbers) = is ∙ ap (λ (fs : List Field). Ok fs) soa.fields_are in
        ap risen_rdata (lowered-read rdata m r soa.numbers read)
        ∙ risen-read (soa_rdata (lower m) (lower r) soa.numbers) (lower m) (lower r) soa.numbers (soa_fields (lower m) (lower r) soa.numbers (can_stand-lower 0 m soa.m_stands) (can_stand-lower 0 r soa.r_stands) soa.many)
        ∙ sym (lowered-read (soa_rdata m r (next_numbers soa.numbers)) m r (next_numbers soa.numbers) (soa_fields m r (next_numbers soa.numbers) soa.m_stands soa.r_stands (many-with ((from_be_bytes w32 (take 4 soa.numbers) + 1) % 2 ^ 32) soa.numbers soa.many)))
        ∙ ap (lowered_rdata soa_kind) (sym (risen-read rdata m r soa.numbers read))

-- ---- entries

pub risen-is : (e : Key × Shown) → e.0.kind ≡ soa_kind → shows_its_key e ≡ true → risen_entry e ≡ (key_of (risen_soa e), shown_of (risen_soa e))
risen-is e kind shows =
    let own : key_of (rr_of e.0 e.1) ≡ e.0 = same_key-same (key_of (rr_of e.0 e.1)) e.0 shows in
    let owner : lower e.1.owner ≡ e.0.owner = ap (λ (k : Key). k.owner) own in
    let low : lowered_rdata e.0.kind e.1.rdata ≡ e.0.rdata = ap (λ (k : Key). k.rdata) own in
    let rdata : risen_rdata e.0.rdata ≡ lowered_rdata e.0.kind (risen_rdata e.1.rdata) =
    ap risen_rdata (sym low) ∙ ap (λ (k : ℕ). risen_rdata (lowered_rdata k e.1.rdata)) kind ∙ lowered-risen e.1.rdata ∙ ap (λ (k : ℕ). lowered_rdata k (risen_rdata e.1.rdata)) (sym kind) in
    let key : record e.0 { rdata = risen_rdata e.0.rdata } ≡ key_of (risen_soa e) = λ i. record { owner = sym owner i; class = e.0.class; kind = e.0.kind; rdata = rdata i } in
    λ i. (key i, shown_of (risen_soa e))

-- entries that are put are records that are put
pub risen-put_all : (soas rows : RecordSet) → list_all shows_its_key soas ≡ true → list_all (λ e. is_of_kind soa_kind e.0) soas ≡ true → union rows (map risen_entry soas) ≡ fold put_rr rows (map risen_soa soas)
risen-put_all [] rows shows kind = refl
risen-put_all (e ∷ es) rows shows kind =
    let is_soa : e.0.kind ≡ soa_kind = sym (eqb-true soa_kind e.0.kind (and-right _ _ (and-left (is_of_kind soa_kind e.0) (list_all (λ e. is_of_kind soa_kind e.0) es) kind))) in
    ap (λ (x : Key × Shown). union rows (x ∷ map risen_entry es)) (risen-is e is_soa (and-left (shows_its_key e) (list_all shows_its_key es) shows))
    ∙ risen-put_all es (put_rr rows (risen_soa e)) (and-right (shows_its_key e) (list_all shows_its_key es) shows) (and-right (is_of_kind soa_kind e.0) (list_all (λ e. is_of_kind soa_kind e.0) es) kind)

-- their owners are in lower case
lower_risen : (soas : RecordSet) → HaveLowerOwners soas → HaveLowerOwners (map risen_entry soas)
lower_risen [] h = tt
lower_risen (e ∷ es) h = (h.0, lower_risen es h.1)

pub risen-lower : (apex : Labels) (rows soas : RecordSet) → list_all shows_its_key rows ≡ true → soas ≡ map risen_entry (set_at apex soa_kind rows) → HaveLowerOwners soas
risen-lower apex rows soas shows is =
    subst (λ (s : RecordSet). HaveLowerOwners s) (sym is) (lower_risen (set_at apex soa_kind rows) (lower_owners (set_at apex soa_kind rows) (all-filter shows_its_key (λ e. is_of_rrset apex in_class soa_kind e.0) rows shows)))
