-- Rdata is octets: as a message spells it, and with other names in it.
--     Below octets      each is below 256
--     below-both, below-range, name-below      lists one behind the other, a part of a list, a name's octets
--     shape-below, record-below      what a message spells
--     fields-of      the fields of such rdata: octets, and names of labels
--     renamed-labels, with_names-below, with_serial-below      with other names, and with another serial
use Rattle.std.proofs.Common.{◌≡◌, ℕ, ◌+◌, ◌-◌, ◌<◌, ◌≤◌, zero, suc, Bool, true, false, cond, ◌==◌, List, [], ◌∷◌, ◌++◌, length, drop, Option, Some, None, Result, Ok, Err, refl, sym, ap, subst, ◌∙◌, arith}
use Rattle.std.specs.Prelude.{slice_range, flat_map, nat_lt, MatchBool}
use Rattle.std.specs.Int.{Width, w32, byte_at, byte_len, bytes_high_first, to_be_bytes}
use Rattle.std.specs.List.{AllByRecursion}
use Rattle.coalesce.proofs.ReadBack.{each-append}
use Rattle.dnsname.specs.Names.{Labels, IsLabel, label_octets, labels_octets, octets, ends_in}
use Rattle.dnsname.specs.Reading.{Read, plain_name_at}
use Rattle.dnsname.proofs.Decisions.{ends_in-Decides}
use Rattle.dnsname.proofs.FoundNames.{below_at, plain_name_at-found}
use Rattle.dnsname.proofs.Standing.{AreOctets-drop, below-take}
use Rattle.rrset.specs.Kinds.{soa_kind}
use Rattle.rrset.specs.Rdata.{Part, some_octets, one_name, strings, are_strings, Field, raw, named, with_field, field_octets, field_with, fields_from, shape, rdata_fields, with_names}
use Rattle.rrset.specs.Spelling.{SpellsFields, SpellsShape}
use Rattle.rrset.specs.declared.record.Rr.{Rr}
use Rattle.dnswire.specs.Spelling.{SpellsRecord}
use Rattle.linkmap.specs.Translation.{renamed}
use Rattle.linkmap.proofs.Changed.{fields_as, fields_as-is, with_names-Ok, with_names-Err}
use Rattle.linkmap.proofs.Suffixes.{renamed-front, renamed-other}
use Rattle.zoneupdate.specs.Zones.{fields_with, with_serial}
use Rattle.zoneupdate.proofs.SoaRdata.{IsSoa, fields_done, not_done, same_done, named_then, name_first, with_field_found, soa_found}

abbrev pub Below : List ℕ → Type 0
Below os = AllByRecursion (λ o. o < 256) os

pub below-both : (xs ys : List ℕ) → Below xs → Below ys → Below (xs ++ ys)
below-both xs ys h k = each-append (λ o. o < 256) xs ys h k

pub below-drop : (n : ℕ) (os : List ℕ) → Below os → Below (drop n os)
below-drop n os h = AreOctets-drop n os (below_at os h)

pub below-range : (message : List ℕ) (at end : ℕ) → Below message → Below (slice_range message at end)
below-range message at end h = below-take (end - at) (drop at message) (below-drop at message h)

-- ---- numbers and names

byte-below : (i n : ℕ) → byte_at i n < 256
byte-below zero n = omega arith
byte-below (suc i) n = omega arith

bytes-below : (k n : ℕ) → Below (bytes_high_first k n)
bytes-below zero n = tt
bytes-below (suc k) n = (byte-below k n, bytes-below k n)

pub number-below : (w : Width) (n : ℕ) → Below (to_be_bytes w n)
number-below w n = bytes-below (byte_len w) n

labels-below : (name : Labels) → AllByRecursion IsLabel name → Below (labels_octets name)
labels-below [] h = tt
labels-below (l ∷ ls) h = below-both (label_octets l) (labels_octets ls) (short (length l) h.0.few, h.0.octets) (labels-below ls h.1)
  where
    short : (n : ℕ) → n ≤ 63 → n < 256
    short n few = omega (arith, few)

pub name-below : (name : Labels) → AllByRecursion IsLabel name → Below (octets name)
name-below name h = below-both (labels_octets name) (0 ∷ []) (labels-below name h) (omega arith, tt)

-- ---- what a message spells

module _ (message : List ℕ) (below : Below message) (end : ℕ) where
  spelled-below : (parts : List Part) (at : ℕ) (fields : List Field) → SpellsFields message end at parts fields → Below (flat_map field_octets fields)
  spelled-below [] at [] s = tt
  spelled-below [] at (f ∷ fields) s = absurd s
  spelled-below (some_octets n ∷ parts) at [] s = absurd s
  spelled-below (some_octets n ∷ parts) at (raw bytes ∷ fields) s =
      below-both bytes (flat_map field_octets fields) (subst Below (sym s.1) (below-range message at (at + n) below)) (spelled-below parts (at + n) fields s.2)
  spelled-below (some_octets n ∷ parts) at (named name ∷ fields) s = absurd s
  spelled-below (one_name ∷ parts) at [] s = absurd s
  spelled-below (one_name ∷ parts) at (raw bytes ∷ fields) s = absurd s
  spelled-below (one_name ∷ parts) at (named name ∷ fields) s = below-both (octets name) (flat_map field_octets fields) (name-below name s.1.is_name.labels) (spelled-below parts s.0 fields s.3)
  spelled-below (strings ∷ parts) at [] s = absurd s
  spelled-below (strings ∷ parts) at (raw bytes ∷ fields) s = below-both bytes (flat_map field_octets fields) (subst Below (sym s.1) (below-range message at end below)) (spelled-below parts end fields s.3)
  spelled-below (strings ∷ parts) at (named name ∷ fields) s = absurd s

  pub shape-below : (o : Option (List Part)) (at : ℕ) (rdata : List ℕ) → SpellsShape o message at end rdata → Below rdata
  shape-below None at rdata s = subst Below (sym s) (below-range message at end below)
  shape-below (Some parts) at rdata s = subst Below (sym s.2) (spelled-below parts at s.0 s.1)

pub record-below : (test : ℕ → ℕ → Bool) (message : List ℕ) → Below message → (at : ℕ) (rr : Rr) (after : ℕ) → SpellsRecord test message at rr after → Below rr.rdata
record-below test message below at rr after s = by (test rr.class s.size) s.rdata
  where
    by : (b : Bool) → MatchBool b (SpellsShape (shape rr.kind) message (s.owner_end + 10) after rr.rdata) (rr.rdata ≡ slice_range message (s.owner_end + 10) after) → Below rr.rdata
    by true spelled = shape-below message below after (shape rr.kind) (s.owner_end + 10) rr.rdata spelled
    by false is = subst Below (sym is) (below-range message (s.owner_end + 10) after below)

-- ---- the fields of rdata

-- octets, or a name of labels
abbrev pub FieldIs : Field → Type 0
FieldIs (raw bytes) = Below bytes
FieldIs (named name) = AllByRecursion IsLabel name

abbrev pub FieldsAre : List Field → Type 0
FieldsAre fields = AllByRecursion FieldIs fields

module _ (text : List ℕ) (below : Below text) where
  fields-from : (parts : List Part) (p : ℕ) (fields : List Field) → fields_from plain_name_at parts text p ≡ fields_done fields → FieldsAre fields
  fields-from [] p fields e = by (p == length text) e
    where
      by : (b : Bool) → cond {A = Result (List Field) ℕ} b (Ok []) (Err p) ≡ fields_done fields → FieldsAre fields
      by true f = subst FieldsAre (same_done [] fields f) tt
      by false f = absurd (not_done p fields f)
  fields-from (some_octets n ∷ parts) p fields e = by (nat_lt (length text) (p + n)) e (λ rest f. fields-from parts (p + n) rest f)
    where
      by : (b : Bool) → cond b (Err (length text)) (with_field (raw (slice_range text p (p + n))) (fields_from plain_name_at parts text (p + n))) ≡ fields_done fields
          → ((rest : List Field) → fields_from plain_name_at parts text (p + n) ≡ fields_done rest → FieldsAre rest) → FieldsAre fields
      by true f others = absurd (not_done (length text) fields f)
      by false f others =
          let more = with_field_found (raw (slice_range text p (p + n))) (fields_from plain_name_at parts text (p + n)) fields f in
          subst FieldsAre more.2 (below-range text p (p + n) below, others more.0 more.1)
  fields-from (one_name ∷ parts) p fields e = by (plain_name_at text p) refl (sym (name_first parts text p) ∙ e) (λ after rest f. fields-from parts after rest f)
    where
      by : (r : Read) → plain_name_at text p ≡ r → named_then parts text r ≡ fields_done fields → ((after : ℕ) (rest : List Field) → fields_from plain_name_at parts text after ≡ fields_done rest → FieldsAre rest) → FieldsAre fields
      by (Err fault) is f others = absurd (not_done _ fields f)
      by (Ok found) is f others =
          let more = with_field_found (named found.0) (fields_from plain_name_at parts text found.1) fields f in
          let spelled = plain_name_at-found text p found.1 found.0 (below_at text below) is in
          subst FieldsAre more.2 (spelled.is_name.labels, others found.1 more.0 more.1)
  fields-from (strings ∷ parts) p fields e = by (are_strings 0 (drop p text)) e (λ rest f. fields-from parts (length text) rest f)
    where
      by : (b : Bool) → cond b (with_field (raw (drop p text)) (fields_from plain_name_at parts text (length text))) (Err (length text)) ≡ fields_done fields
          → ((rest : List Field) → fields_from plain_name_at parts text (length text) ≡ fields_done rest → FieldsAre rest) → FieldsAre fields
      by false f others = absurd (not_done (length text) fields f)
      by true f others =
          let more = with_field_found (raw (drop p text)) (fields_from plain_name_at parts text (length text)) fields f in
          subst FieldsAre more.2 (below-drop p text below, others more.0 more.1)

  pub fields-of : (kind : ℕ) (fields : List Field) → rdata_fields kind text ≡ fields_done fields → FieldsAre fields
  fields-of kind fields e = by (shape kind) (sym (fields_as-is kind text) ∙ e)
    where
      by : (o : Option (List Part)) → fields_as o text ≡ fields_done fields → FieldsAre fields
      by None f = subst FieldsAre (same_done (raw text ∷ []) fields f) (below, tt)
      by (Some parts) f = fields-from parts 0 fields f

-- ---- with other names

labels-front : (front last : Labels) → AllByRecursion IsLabel (front ++ last) → AllByRecursion IsLabel front
labels-front [] last h = tt
labels-front (label ∷ front) last h = (h.0, labels-front front last h.1)

pub renamed-labels : (old new name : Labels) → AllByRecursion IsLabel new → AllByRecursion IsLabel name → AllByRecursion IsLabel (renamed old new name)
renamed-labels old new name new_is is = by (ends_in name old) refl
  where
    by : (b : Bool) → ends_in name old ≡ b → AllByRecursion IsLabel (renamed old new name)
    by false other = subst (AllByRecursion IsLabel) (sym (renamed-other old new name other)) is
    by true ends =
        let a = (ends_in-Decides name old).0 ends in
        subst (AllByRecursion IsLabel) (sym (ap (renamed old new) a.2 ∙ renamed-front old new a.0 a.1 a.3))
        (each-append IsLabel a.0 new (labels-front a.0 a.1 (subst (AllByRecursion IsLabel) a.2 is)) new_is)

module _ (f : Labels → Labels) (keeps : (name : Labels) → AllByRecursion IsLabel name → AllByRecursion IsLabel (f name)) where
  changed-below : (fields : List Field) → FieldsAre fields → Below (flat_map (λ field. field_octets (field_with f field)) fields)
  changed-below [] are = tt
  changed-below (raw bytes ∷ fields) are = below-both bytes _ are.0 (changed-below fields are.1)
  changed-below (named name ∷ fields) are = below-both (octets (f name)) _ (name-below (f name) (keeps name are.0)) (changed-below fields are.1)

  pub with_names-below : (kind : ℕ) (rdata : List ℕ) → Below rdata → Below (with_names f kind rdata)
  with_names-below kind rdata below = by (rdata_fields kind rdata) refl
    where
      by : (r : Result (List Field) ℕ) → rdata_fields kind rdata ≡ r → Below (with_names f kind rdata)
      by (Err p) e = subst Below (sym (with_names-Err f kind rdata p e)) below
      by (Ok fields) e = subst Below (sym (with_names-Ok f kind rdata fields e)) (changed-below fields (fields-of rdata below kind fields e))

-- ---- with another serial

pub with_serial-below : (serial : ℕ) (rdata : List ℕ) → Below rdata → Below (with_serial serial rdata)
with_serial-below serial rdata below = by (rdata_fields soa_kind rdata) refl
  where
    of_soa : (fields : List Field) → FieldsAre fields → (soa : IsSoa fields) → Below (fields_with serial fields)
    of_soa fields are soa =
        let parts = subst FieldsAre soa.fields_are are in
        subst (λ (fs : List Field). Below (fields_with serial fs)) (sym soa.fields_are)
        (below-both (octets soa.mname ++ octets soa.rname) (to_be_bytes w32 serial ++ drop 4 soa.numbers)
        (below-both (octets soa.mname) (octets soa.rname) (name-below soa.mname parts.0) (name-below soa.rname parts.1.0))
        (below-both (to_be_bytes w32 serial) (drop 4 soa.numbers) (number-below w32 serial) (below-drop 4 soa.numbers parts.1.1.0)))

    by : (r : Result (List Field) ℕ) → rdata_fields soa_kind rdata ≡ r → Below (elim r as (λ _. List ℕ) [ Err p ↦ rdata | Ok fields ↦ fields_with serial fields ])
    by (Err p) e = below
    by (Ok fields) e = of_soa fields (fields-of rdata below soa_kind fields e) (soa_found rdata fields e)
