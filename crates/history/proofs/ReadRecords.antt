-- A record that is read has at most 255 times the octets that it is read from, so what is made of one message fits an empty journal.
use Rattle.std.proofs.Common.{◌≡◌, ℕ, zero, suc, ◌+◌, ◌-◌, ◌*◌, ◌<◌, ◌≤◌, Bool, true, false, cond, eqb, ltb, Option, Some, None, List, [], ◌∷◌, length, take, drop, sum_by, Result, Ok, Err, refl, arith, ltb-false}
use Rattle.std.specs.Prelude.{IfOk, slice_range, flat_map}
use Rattle.std.specs.Int.{Width, w16, w32, byte_len, from_be_bytes}
use Rattle.std.proofs.lemmas.List.{length-append, length-take, length-drop}
use Rattle.std.proofs.lemmas.List.Sums.{sum_by-cons}
use Rattle.push_base.specs.Cases.{◌>>=◌, fault_as}
use Rattle.dnsname.specs.Names.{Labels, octets}
use Rattle.dnsname.specs.Reading.{Read, name_at, name_up_to, place_of}
use Rattle.rrset.specs.Records.{rr_size}
use Rattle.rrset.specs.Rdata.{Part, some_octets, one_name, strings, Field, raw, named, are_strings, with_field, fields_from, field_octets, rdata_at, shape}
use Rattle.rrset.specs.declared.record.Rr.{Rr}
use Rattle.rrset.specs.declared.record.Question.{Question}
use Rattle.dnswire.specs.Reading.{number_at, question_at, several, rdata_of, record_at}
use Rattle.dnswire.specs.declared.message.WireFault.{WireFault}
use Rattle.dnswire.specs.declared.message.WireFault.TheVariants as wires
use Rattle.history.proofs.ReadNames.{AreOctets, IsShortName, octets-take, short-in}

-- ---- one step behind another

pub behind : {A B E : Type 0} (P : A → Type 0) (Q : B → Type 0) (r : Result A E) (next : A → Result B E) → IfOk r P → ((a : A) → P a → IfOk (next a) Q) → IfOk (r >>= next) Q
behind P Q (Err e) next h so = tt
behind P Q (Ok a) next h so = so a h

pub faulted : {A E F : Type 0} (P : A → Type 0) (f : E → F) (r : Result A E) → IfOk r P → IfOk (fault_as f r) P
faulted P f (Err e) h = tt
faulted P f (Ok a) h = h

-- ---- rdata

-- the octets of fields, each of which has at most 255 times those that it is read from
abbrev AreShort : List ℕ → ℕ → List Field → Type 0
AreShort text p fields = length (flat_map field_octets fields) + 255 * p ≤ 255 * length text

fields-octets : (field : Field) (fields : List Field) → length (flat_map field_octets (field ∷ fields)) ≡ length (field_octets field) + length (flat_map field_octets fields)
fields-octets field fields = length-append (field_octets field) (flat_map field_octets fields)

short-field : (text : List ℕ) (p q : ℕ) (field : Field) → length (field_octets field) + 255 * p ≤ 255 * q → (r : Result (List Field) ℕ) → IfOk r (AreShort text q) → IfOk (with_field field r) (AreShort text p)
short-field text p q field few (Err place) h = tt
short-field text p q field few (Ok fields) h = omega (arith, few, h, fields-octets field fields)

abbrev ReadsShort : (List ℕ → ℕ → Read) → List ℕ → Type 0
ReadsShort read text = (p : ℕ) → IfOk (read text p) (IsShortName text p)

short-fields : (read : List ℕ → ℕ → Read) (text : List ℕ) → ReadsShort read text → (parts : List Part) (p : ℕ) → p ≤ length text → IfOk (fields_from read parts text p) (AreShort text p)
short-fields read text short [] p within = by (eqb p (length text))
  where
    by : (b : Bool) → IfOk (cond {A = Result (List Field) ℕ} b (Ok []) (Err p)) (AreShort text p)
    by true = omega (arith, within)
    by false = tt
short-fields read text short (some_octets n ∷ parts) p within = by (ltb (length text) (p + n)) refl (λ fits. short-fields read text short parts (p + n) fits)
  where
    by : (b : Bool) → ltb (length text) (p + n) ≡ b → (p + n ≤ length text → IfOk (fields_from read parts text (p + n)) (AreShort text (p + n)))
        → IfOk (cond {A = Result (List Field) ℕ} b (Err (length text)) (with_field (raw (slice_range text p (p + n))) (fields_from read parts text (p + n)))) (AreShort text p)
    by true e rest = tt
    by false e rest =
        short-field text p (p + n) (raw (slice_range text p (p + n))) (omega (arith, length-take (p + n - p) (drop p text))) (fields_from read parts text (p + n)) (rest (ltb-false (length text) (p + n) e))
short-fields read text short (one_name ∷ parts) p within = by (read text p) (short p) (λ q fits. short-fields read text short parts q fits)
  where
    by : (r : Read) → IfOk r (IsShortName text p) → ((q : ℕ) → q ≤ length text → IfOk (fields_from read parts text q) (AreShort text q))
        → IfOk (elim r as (λ _. Result (List Field) ℕ) [ Err fault ↦ Err (place_of fault) | Ok found ↦ with_field (named found.0) (fields_from read parts text found.1) ]) (AreShort text p)
    by (Err fault) h rest = tt
    by (Ok found) h rest = short-field text p found.1 (named found.0) (omega (arith, h.0, h.2)) (fields_from read parts text found.1) (rest found.1 h.1)
short-fields read text short (strings ∷ parts) p within = by (are_strings 0 (drop p text)) (short-fields read text short parts (length text) (omega arith))
  where
    by : (b : Bool) → IfOk (fields_from read parts text (length text)) (AreShort text (length text))
        → IfOk (cond {A = Result (List Field) ℕ} b (with_field (raw (drop p text)) (fields_from read parts text (length text))) (Err (length text))) (AreShort text p)
    by true rest = short-field text p (length text) (raw (drop p text)) (omega (arith, within, length-drop p text)) (fields_from read parts text (length text)) rest
    by false rest = tt

short-rdata : (kind : ℕ) (message : List ℕ) (at n : ℕ) → AreOctets message → at + n ≤ length message → IfOk (rdata_at kind message at (at + n)) (λ rdata. length rdata ≤ 255 * n)
short-rdata kind message at n below within = by (shape kind)
  where
    text : List ℕ
    text = take (at + n) message

    size : length text ≡ at + n
    size = omega (arith, within, length-take (at + n) message)

    by : (o : Option (List Part)) → IfOk (elim o as (λ _. Result (List ℕ) ℕ) [ None ↦ Ok (slice_range message at (at + n)) | Some parts ↦ fields_from (λ _. name_up_to (at + n) message) parts (take (at + n) message) at >>= λ fields. Ok (flat_map field_octets fields) ])
        (λ rdata. length rdata ≤ 255 * n)
    by None = omega (arith, length-take (at + n - at) (drop at message))
    by (Some parts) =
        behind (AreShort text at) (λ rdata. length rdata ≤ 255 * n) (fields_from (λ _. name_up_to (at + n) message) parts text at) (λ fields. Ok (flat_map field_octets fields))
        (short-fields (λ _. name_up_to (at + n) message) text (λ p. short-in text message p (octets-take (at + n) message below) below) parts at (omega (arith, size))) (λ fields h. omega (arith, h, size))

-- ---- a record

abbrev RdataIs : List ℕ → ℕ → ℕ → List ℕ × ℕ → Type 0
RdataIs message at n r = (length r.0 ≤ 255 * n) × (r.1 ≡ at + n) × (at + n ≤ length message)

rdata-step : (by_shape : Bool) (kind : ℕ) (message : List ℕ) (at n : ℕ) → AreOctets message → IfOk (rdata_of by_shape kind message at n) (RdataIs message at n)
rdata-step by_shape kind message at n below = by (ltb (length message) (at + n)) refl
  where
    read : Bool → Result (List ℕ) WireFault
    read shaped = cond shaped (fault_as wires.Rdata (rdata_at kind message at (at + n))) (Ok (slice_range message at (at + n)))

    few : (shaped : Bool) → at + n ≤ length message → IfOk (read shaped) (λ rdata. length rdata ≤ 255 * n)
    few true within = faulted (λ rdata. length rdata ≤ 255 * n) wires.Rdata (rdata_at kind message at (at + n)) (short-rdata kind message at n below within)
    few false within = omega (arith, length-take (at + n - at) (drop at message))

    by : (b : Bool) → ltb (length message) (at + n) ≡ b → IfOk (cond {A = Result (List ℕ × ℕ) WireFault} b (Err (wires.Short (length message))) (read by_shape >>= λ rdata. Ok (rdata, at + n))) (RdataIs message at n)
    by true e = tt
    by false e =
        let within = ltb-false (length message) (at + n) e in
        behind (λ rdata. length rdata ≤ 255 * n) (RdataIs message at n) (read by_shape) (λ rdata. Ok (rdata, at + n)) (few by_shape within) (λ rdata h. (h, refl, within))

-- a number takes its octets
abbrev NumberIs : List ℕ → ℕ → ℕ → ℕ × ℕ → Type 0
NumberIs message at n r = (r.1 ≡ at + n) × (at + n ≤ length message)

number-step : (w : Width) (message : List ℕ) (at : ℕ) → IfOk (number_at w message at) (NumberIs message at (byte_len w))
number-step w message at = by (ltb (length message) (at + byte_len w)) refl
  where
    by : (b : Bool) → ltb (length message) (at + byte_len w) ≡ b → IfOk (cond {A = Result (ℕ × ℕ) WireFault} b (Err (wires.Short (length message))) (Ok (from_be_bytes w (slice_range message at (at + byte_len w)), at + byte_len w))) (NumberIs message at (byte_len w))
    by true e = tt
    by false e = (refl, ltb-false (length message) (at + byte_len w) e)

-- an entry that ends behind its place and within the message, of a size that is at most 255 times its octets
abbrev pub Takes : List ℕ → ℕ → ℕ → ℕ → Type 0
Takes message at size end = (size + 255 * at ≤ 255 * end) × (end ≤ length message)

module _ (by_shape : ℕ → ℕ → Bool) (message : List ℕ) (below : AreOctets message) where
  abbrev rr_of_fields : Labels → ℕ → ℕ → ℕ → List ℕ → Rr
  rr_of_fields owner kind class ttl rdata = record { owner = owner; class = class; kind = kind; ttl = ttl; rdata = rdata }

  abbrev from_size : Labels × ℕ → ℕ × ℕ → ℕ × ℕ → ℕ × ℕ → ℕ × ℕ → Result (Rr × ℕ) WireFault
  from_size owner kind class ttl size = rdata_of (by_shape class.0 size.0) kind.0 message size.1 size.0 >>= λ rdata. Ok (rr_of_fields owner.0 kind.0 class.0 ttl.0 rdata.0, rdata.1)

  abbrev from_ttl : Labels × ℕ → ℕ × ℕ → ℕ × ℕ → ℕ × ℕ → Result (Rr × ℕ) WireFault
  from_ttl owner kind class ttl = number_at w16 message ttl.1 >>= λ size. from_size owner kind class ttl size

  abbrev from_class : Labels × ℕ → ℕ × ℕ → ℕ × ℕ → Result (Rr × ℕ) WireFault
  from_class owner kind class = number_at w32 message class.1 >>= λ ttl. from_ttl owner kind class ttl

  abbrev from_kind : Labels × ℕ → ℕ × ℕ → Result (Rr × ℕ) WireFault
  from_kind owner kind = number_at w16 message kind.1 >>= λ class. from_class owner kind class

  abbrev from_owner : Labels × ℕ → Result (Rr × ℕ) WireFault
  from_owner owner = number_at w16 message owner.1 >>= λ kind. from_kind owner kind

  abbrev RecordIs : ℕ → Rr × ℕ → Type 0
  RecordIs at r = Takes message at (rr_size r.0) r.1

  record-sum : (at owner_end kind_end class_end ttl_end size_end end owner size rdata : ℕ) → at < owner_end → owner ≤ 255 → kind_end ≡ owner_end + 2 → class_end ≡ kind_end + 2 → ttl_end ≡ class_end + 4 → size_end ≡ ttl_end + 2 → end ≡ size_end + size
      → rdata ≤ 255 * size → owner + 10 + rdata + 255 * at ≤ 255 * end
  record-sum at owner_end kind_end class_end ttl_end size_end end owner size rdata low short k c t s e few = omega (arith, low, short, k, c, t, s, e, few)

  record-step : (at : ℕ) → IfOk (record_at by_shape message at) (RecordIs at)
  record-step at =
      behind (IsShortName message at) (RecordIs at) (fault_as wires.Name (name_at message at)) from_owner (faulted (IsShortName message at) wires.Name (name_at message at) (short-in message message at below below)) (λ owner o.
      behind (NumberIs message owner.1 2) (RecordIs at) (number_at w16 message owner.1) (from_kind owner) (number-step w16 message owner.1) (λ kind k.
      behind (NumberIs message kind.1 2) (RecordIs at) (number_at w16 message kind.1) (from_class owner kind) (number-step w16 message kind.1) (λ class c.
      behind (NumberIs message class.1 4) (RecordIs at) (number_at w32 message class.1) (from_ttl owner kind class) (number-step w32 message class.1) (λ ttl t.
      behind (NumberIs message ttl.1 2) (RecordIs at) (number_at w16 message ttl.1) (from_size owner kind class ttl) (number-step w16 message ttl.1) (λ size s.
      behind (RdataIs message size.1 size.0) (RecordIs at) (rdata_of (by_shape class.0 size.0) kind.0 message size.1 size.0) (λ rdata. Ok (rr_of_fields owner.0 kind.0 class.0 ttl.0 rdata.0, rdata.1)) (rdata-step (by_shape class.0 size.0) kind.0 message size.1 size.0 below) (λ rdata r.
      (record-sum at owner.1 kind.1 class.1 ttl.1 size.1 rdata.1 (length (octets owner.0)) size.0 (length rdata.0) o.0 o.2 k.0 c.0 t.0 s.0 r.1 r.0, omega (arith, r.1, r.2))))))))

-- ---- entries one behind the other

module _ {X : Type 0} (size : X → ℕ) (read : List ℕ → ℕ → Result (X × ℕ) WireFault) (message : List ℕ) where
  abbrev pub ReadsSo : Type 0
  ReadsSo = (at : ℕ) → IfOk (read message at) (λ r. Takes message at (size r.0) r.1)

  pub several-step : ReadsSo → (n at : ℕ) → at ≤ length message → IfOk (several read n message at) (λ r. Takes message at (sum_by size r.0) r.1)
  several-step so zero at within = (omega arith, within)
  several-step so (suc n) at within =
      behind (λ r. Takes message at (size r.0) r.1) (λ r. Takes message at (sum_by size r.0) r.1) (read message at) (λ first. several read n message first.1 >>= λ others. Ok (first.0 ∷ others.0, others.1)) (so at) (λ first f.
      behind (λ r. Takes message first.1 (sum_by size r.0) r.1) (λ r. Takes message at (sum_by size r.0) r.1) (several read n message first.1) (λ others. Ok (first.0 ∷ others.0, others.1)) (several-step so n first.1 f.1) (λ others o.
      (omega (arith, f.0, o.0, sum_by-cons size first.0 others.0), o.1)))

question-step : (message : List ℕ) → AreOctets message → (at : ℕ) → IfOk (question_at message at) (λ r. Takes message at 0 r.1)
question-step message below at =
    behind (IsShortName message at) (λ r. Takes message at 0 r.1) (fault_as wires.Name (name_at message at)) (λ name. number_at w16 message name.1 >>= λ kind. number_at w16 message kind.1 >>= λ class. Ok (made name.0 kind.0 class.0, class.1))
    (faulted (IsShortName message at) wires.Name (name_at message at) (short-in message message at below below)) (λ name n.
    behind (NumberIs message name.1 2) (λ r. Takes message at 0 r.1) (number_at w16 message name.1) (λ kind. number_at w16 message kind.1 >>= λ class. Ok (made name.0 kind.0 class.0, class.1)) (number-step w16 message name.1) (λ kind k.
    behind (NumberIs message kind.1 2) (λ r. Takes message at 0 r.1) (number_at w16 message kind.1) (λ class. Ok (made name.0 kind.0 class.0, class.1)) (number-step w16 message kind.1) (λ class c.
    (omega (arith, n.0, k.0, c.0), omega (arith, c.0, c.1)))))
  where
    made : Labels → ℕ → ℕ → Question
    made name kind class = record { name = name; kind = kind; class = class }

pub questions-step : (message : List ℕ) → AreOctets message → (n at : ℕ) → at ≤ length message → IfOk (several question_at n message at) (λ r. Takes message at 0 r.1)
questions-step message below n at within = by (several question_at n message at) (several-step {X = Question} (λ _. 0) question_at message (question-step message below) n at within)
  where
    by : (r : Result (List Question × ℕ) WireFault) → IfOk r (λ r. Takes message at (sum_by (λ (q : Question). 0) r.0) r.1) → IfOk r (λ r. Takes message at 0 r.1)
    by (Err e) h = tt
    by (Ok r) h = (omega (arith, h.0), h.1)

pub records-step : (by_shape : ℕ → ℕ → Bool) (message : List ℕ) → AreOctets message → (n at : ℕ) → at ≤ length message → IfOk (several (record_at by_shape) n message at) (λ r. Takes message at (sum_by rr_size r.0) r.1)
records-step by_shape message below n at within = several-step rr_size (record_at by_shape) message (record-step by_shape message below) n at within
