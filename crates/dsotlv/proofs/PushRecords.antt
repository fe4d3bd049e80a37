-- A record of a PUSH that stands at a place is what is read, and what is read stands there.
use Rattle.std.proofs.Common.{◌≡◌, ℕ, ◌+◌, ◌<◌, ◌≤◌, ◌^◌, Bool, true, false, not, ◌&&◌, ltb, List, ◌++◌, length, drop, Result, Ok, refl, sym, ap, subst, ◌∙◌, append_assoc, arith}
use Rattle.std.specs.Prelude.{slice_range, nat_lt, ◌==◌}
use Rattle.std.specs.Int.{w16, w32, to_be_bytes}
use Rattle.std.proofs.lemmas.Bool.{le-ltb}
use Rattle.std.proofs.lemmas.Bool.Decides.{nat_tests}
use Rattle.std.proofs.lemmas.List.{length-append}
use Rattle.std.proofs.lemmas.List.Folds.{drop_split}
use Rattle.push_base.specs.Cases.{◌>>=◌, fault_as}
use Rattle.dnsname.specs.Names.{octets}
use Rattle.dnsname.specs.Reading.{plain_name_at, place_of}
use Rattle.rrset.specs.Kinds.{any_kind, any_class}
use Rattle.rrset.specs.Header.{two_octets}
use Rattle.rrset.specs.Rdata.{shape_fits}
use Rattle.rrset.specs.declared.record.Rr.{Rr}
use Rattle.dsotlv.specs.declared.message.Notice.{Notice}
use Rattle.dsotlv.specs.declared.message.PushFault.{PushFault}
use Rattle.dsotlv.specs.declared.message.PushFault.TheVariants.{Data}
use Rattle.dsotlv.specs.Notices.{field_at, refused_where, is_single, remove_many_ttl, push_record, notice_of, notice_at}
use Rattle.dsotlv.specs.Spelling.{SpellsPushRecord}
use Rattle.dsotlv.specs.Laws.{AreOctets}
use Rattle.dsotlv.proofs.Results.{done, same_done, not_done, bind_done, fault_as_done}
use Rattle.dsotlv.proofs.Numbers.{four_octets, drop_next, range_at, room, length-range, two_there, four_there, two_below, four_below}
use Rattle.dsotlv.proofs.Fields.{two_field_read, four_field_read, two_field_done, four_field_done}
use Rattle.dsotlv.proofs.QuestionLaws.{NameStands, name_read, name_found}

abbrev pub record_octets : Rr → List ℕ
record_octets rr = push_record rr.owner rr.kind rr.class rr.ttl rr.rdata

-- the fields of a record are allowed
pub record IsAllowed (rr : Rr) : Type 0 where
  pub kind : (is_single rr.ttl && rr.kind == any_kind) ≡ false
  pub class : (is_single rr.ttl && rr.class == any_class) ≡ false
  pub size : (rr.ttl == remove_many_ttl && nat_lt 0 (length rr.rdata)) ≡ false
  pub rdata : (is_single rr.ttl && not (shape_fits rr.kind rr.rdata)) ≡ false

ltb_false : (a b : ℕ) → ltb a b ≡ false → b ≤ a
ltb_false a b h = grind (arith, nat_tests)

six_lengths : (a b c d e f : List ℕ) → length (a ++ b ++ c ++ d ++ e ++ f) ≡ length a + length b + length c + length d + length e + length f
six_lengths a b c d e f = simp length-append (omega arith)

pub length-record : (rr : Rr) → length (record_octets rr) ≡ length (octets rr.owner) + 10 + length rr.rdata
length-record rr = six_lengths (octets rr.owner) (to_be_bytes w16 rr.kind) (to_be_bytes w16 rr.class) (to_be_bytes w32 rr.ttl) (to_be_bytes w16 (length rr.rdata)) rr.rdata ∙ omega arith

-- ---- what stands there is read

pub record_read : (rr : Rr) (text : List ℕ) (at after : ℕ) (rest : List ℕ) → SpellsPushRecord (record_octets rr) rr → IsAllowed rr → drop at text ≡ record_octets rr ++ rest → after ≡ at + length (record_octets rr) → notice_at text at ≡ done (notice_of rr, after)
record_read rr text at after rest spelled ok e place-is =
    rw (name_read text at p rr.owner _ spelled.owner stands refl)
    (rw (two_field_read rr.kind text p _ spelled.kind kind)
    (rw (two_field_read rr.class text (p + 2) _ spelled.class class)
    (rw (four_field_read rr.ttl text (p + 4) _ spelled.ttl ttl)
    (rw ok.kind
    (rw ok.class
    (rw (two_field_read (length rr.rdata) text (p + 8) _ spelled.rdata size)
    (rw ok.size
    (rw (le-ltb (length text) (p + 10 + length rr.rdata) whole)
    (rw (range_at text (p + 10) (p + 10 + length rr.rdata) rr.rdata rest rdata refl)
    (rw ok.rdata
    (ap (λ n. done (notice_of rr, n)) end)))))))))))
  where
    p : ℕ
    p = at + length (octets rr.owner)

    s : List ℕ
    s = to_be_bytes w16 (length rr.rdata)

    stands : drop at text ≡ octets rr.owner ++ (to_be_bytes w16 rr.kind ++ (to_be_bytes w16 rr.class ++ (to_be_bytes w32 rr.ttl ++ (s ++ (rr.rdata ++ rest)))))
    stands = e ∙ simp append_assoc refl

    kind : drop p text ≡ to_be_bytes w16 rr.kind ++ (to_be_bytes w16 rr.class ++ (to_be_bytes w32 rr.ttl ++ (s ++ (rr.rdata ++ rest))))
    kind = drop_next text at p (octets rr.owner) _ stands refl

    class : drop (p + 2) text ≡ to_be_bytes w16 rr.class ++ (to_be_bytes w32 rr.ttl ++ (s ++ (rr.rdata ++ rest)))
    class = drop_next text p (p + 2) (to_be_bytes w16 rr.kind) _ kind refl

    ttl : drop (p + 4) text ≡ to_be_bytes w32 rr.ttl ++ (s ++ (rr.rdata ++ rest))
    ttl = drop_next text (p + 2) (p + 4) (to_be_bytes w16 rr.class) _ class (omega arith)

    size : drop (p + 8) text ≡ s ++ (rr.rdata ++ rest)
    size = drop_next text (p + 4) (p + 8) (to_be_bytes w32 rr.ttl) _ ttl (omega arith)

    rdata : drop (p + 10) text ≡ rr.rdata ++ rest
    rdata = drop_next text (p + 8) (p + 10) s _ size (omega arith)

    whole : p + 10 + length rr.rdata ≤ length text
    whole = let left = room text (p + 8) s (rr.rdata ++ rest) size in let sum = length-append rr.rdata rest in omega (arith, left, sum)

    end : p + 10 + length rr.rdata ≡ after
    end = let all = length-record rr in omega (arith, all, place-is)

-- ---- what is read stands there

-- a record that stands at a place, and what stands behind it
pub record RecordStands (text : List ℕ) (at : ℕ) (notice : Notice) (after : ℕ) : Type 0 where
  pub rr : Rr
  pub spelled : SpellsPushRecord (record_octets rr) rr
  pub allowed : IsAllowed rr
  pub says : notice_of rr ≡ notice
  pub whole : drop at text ≡ record_octets rr ++ drop after text
  pub within : after ≤ length text

regroup : (a b c d e f rest : List ℕ) → (a ++ b ++ c ++ d ++ e ++ f) ++ rest ≡ a ++ (b ++ (c ++ (d ++ (e ++ (f ++ rest)))))
regroup a b c d e f rest = simp append_assoc refl

-- six parts, one behind the other
joined : {t u v w x y : List ℕ} (a b c d e f rest : List ℕ) → t ≡ a ++ u → u ≡ b ++ v → v ≡ c ++ w → w ≡ d ++ x → x ≡ e ++ y → y ≡ f ++ rest → t ≡ (a ++ b ++ c ++ d ++ e ++ f) ++ rest
joined a b c d e f rest first second third fourth fifth sixth =
    first ∙ ap (λ (xs : List ℕ). a ++ xs) (second ∙ ap (λ (xs : List ℕ). b ++ xs) (third ∙ ap (λ (xs : List ℕ). c ++ xs) (fourth ∙ ap (λ (xs : List ℕ). d ++ xs) (fifth ∙ ap (λ (xs : List ℕ). e ++ xs) sixth))))
    ∙ sym (regroup a b c d e f rest)

refused_bind : {X : Type 0} (test : Bool) (place : ℕ) (r : Result X PushFault) (y : X) → (refused_where test place >>= λ n. r) ≡ done y → (test ≡ false) × (r ≡ done y)
refused_bind true place r y e = absurd (not_done (Data place) y e)
refused_bind false place r y e = (refl, e)

-- the record that these fields make, with its rdata from a place to another
abbrev read_as : List ℕ → List (List ℕ) → ℕ → ℕ → ℕ → ℕ → ℕ → Rr
read_as text owner kind class ttl begin end = record { owner = owner; class = class; kind = kind; ttl = ttl; rdata = slice_range text begin end }

-- reading from the rdata on, and from the TTL on
abbrev from_size : List ℕ → List (List ℕ) → ℕ → ℕ → ℕ → ℕ → ℕ → Result (Notice × ℕ) PushFault
from_size text owner p kind class ttl size =
    refused_where (ttl == remove_many_ttl && nat_lt 0 size) (p + 8) >>= λ size_allowed.
    (refused_where (nat_lt (length text) (p + 10 + size)) (length text) >>= λ whole.
    (refused_where (is_single ttl && not (shape_fits kind (slice_range text (p + 10) (p + 10 + size)))) (p + 10) >>= λ rdata_allowed.
    Ok (notice_of (read_as text owner kind class ttl (p + 10) (p + 10 + size)), p + 10 + size)))

abbrev from_ttl : List ℕ → List (List ℕ) → ℕ → ℕ → ℕ → ℕ → Result (Notice × ℕ) PushFault
from_ttl text owner p kind class ttl =
    refused_where (is_single ttl && kind == any_kind) p >>= λ kind_allowed.
    (refused_where (is_single ttl && class == any_class) (p + 2) >>= λ class_allowed.
    (field_at w16 text (p + 8) >>= from_size text owner p kind class ttl))

abbrev from_kind : List ℕ → List (List ℕ) → ℕ → Result (Notice × ℕ) PushFault
from_kind text owner p =
    field_at w16 text p >>= λ kind.
    (field_at w16 text (p + 2) >>= λ class.
    (field_at w32 text (p + 4) >>= from_ttl text owner p kind class))

-- what was tested from the rdata on
record Ended (text : List ℕ) (owner : List (List ℕ)) (p kind class ttl size : ℕ) (read : Notice × ℕ) : Type 0 where
  pub size_ok : (ttl == remove_many_ttl && nat_lt 0 size) ≡ false
  pub fits : p + 10 + size ≤ length text
  pub rdata_ok : (is_single ttl && not (shape_fits kind (slice_range text (p + 10) (p + 10 + size)))) ≡ false
  pub same : (notice_of (read_as text owner kind class ttl (p + 10) (p + 10 + size)), p + 10 + size) ≡ read

size_done : (text : List ℕ) (owner : List (List ℕ)) (p kind class ttl size : ℕ) (read : Notice × ℕ) → from_size text owner p kind class ttl size ≡ done read → Ended text owner p kind class ttl size read
size_done text owner p kind class ttl size read e =
    let last : Notice × ℕ = (notice_of (read_as text owner kind class ttl (p + 10) (p + 10 + size)), p + 10 + size) in
    let third : Result (Notice × ℕ) PushFault = refused_where (is_single ttl && not (shape_fits kind (slice_range text (p + 10) (p + 10 + size)))) (p + 10) >>= λ n. Ok last in
    let second : Result (Notice × ℕ) PushFault = refused_where (nat_lt (length text) (p + 10 + size)) (length text) >>= λ n. third in
    let size_ok = refused_bind (ttl == remove_many_ttl && nat_lt 0 size) (p + 8) second read e in
    let whole_ok = refused_bind (nat_lt (length text) (p + 10 + size)) (length text) third read size_ok.1 in
    let rdata_ok = refused_bind (is_single ttl && not (shape_fits kind (slice_range text (p + 10) (p + 10 + size)))) (p + 10) (done last) read whole_ok.1 in
    record { size_ok = size_ok.0; fits = ltb_false (length text) (p + 10 + size) whole_ok.0; rdata_ok = rdata_ok.0; same = same_done last read rdata_ok.1 }

-- what was tested from the TTL on
record Judged (text : List ℕ) (owner : List (List ℕ)) (p kind class ttl : ℕ) (read : Notice × ℕ) : Type 0 where
  pub kind_ok : (is_single ttl && kind == any_kind) ≡ false
  pub class_ok : (is_single ttl && class == any_class) ≡ false
  pub size : ℕ
  pub size_there : (p + 8 + 2 ≤ length text) × (two_octets text (p + 8) ≡ size)
  pub ended : Ended text owner p kind class ttl size read

ttl_done : (text : List ℕ) (owner : List (List ℕ)) (p kind class ttl : ℕ) (read : Notice × ℕ) → from_ttl text owner p kind class ttl ≡ done read → Judged text owner p kind class ttl read
ttl_done text owner p kind class ttl read e =
    let third : Result (Notice × ℕ) PushFault = field_at w16 text (p + 8) >>= from_size text owner p kind class ttl in
    let second : Result (Notice × ℕ) PushFault = refused_where (is_single ttl && class == any_class) (p + 2) >>= λ n. third in
    let kind_ok = refused_bind (is_single ttl && kind == any_kind) p second read e in
    let class_ok = refused_bind (is_single ttl && class == any_class) (p + 2) third read kind_ok.1 in
    let size = bind_done (field_at w16 text (p + 8)) (from_size text owner p kind class ttl) read class_ok.1 in
    record { kind_ok = kind_ok.0; class_ok = class_ok.0; size = size.0; size_there = two_field_done text (p + 8) size.0 size.1; ended = size_done text owner p kind class ttl size.0 read size.2 }

-- the numbers that were read
record Numbered (text : List ℕ) (owner : List (List ℕ)) (p : ℕ) (read : Notice × ℕ) : Type 0 where
  pub kind : ℕ
  pub kind_there : (p + 2 ≤ length text) × (two_octets text p ≡ kind)
  pub class : ℕ
  pub class_there : (p + 2 + 2 ≤ length text) × (two_octets text (p + 2) ≡ class)
  pub ttl : ℕ
  pub ttl_there : (p + 4 + 4 ≤ length text) × (four_octets text (p + 4) ≡ ttl)
  pub judged : Judged text owner p kind class ttl read

kind_done : (text : List ℕ) (owner : List (List ℕ)) (p : ℕ) (read : Notice × ℕ) → from_kind text owner p ≡ done read → Numbered text owner p read
kind_done text owner p read e =
    let kind = bind_done (field_at w16 text p) (λ kind. field_at w16 text (p + 2) >>= λ class. (field_at w32 text (p + 4) >>= from_ttl text owner p kind class)) read e in
    let class = bind_done (field_at w16 text (p + 2)) (λ class. field_at w32 text (p + 4) >>= from_ttl text owner p kind.0 class) read kind.2 in
    let ttl = bind_done (field_at w32 text (p + 4)) (from_ttl text owner p kind.0 class.0) read class.2 in
    record {
      kind = kind.0;
      kind_there = two_field_done text p kind.0 kind.1;
      class = class.0;
      class_there = two_field_done text (p + 2) class.0 class.1;
      ttl = ttl.0;
      ttl_there = four_field_done text (p + 4) ttl.0 ttl.1;
      judged = ttl_done text owner p kind.0 class.0 ttl.0 read ttl.2;
    }

-- the record whose numbers stand behind its owner's name
numbers_stand : (text : List ℕ) (at p kind class ttl size : ℕ) (owner : List (List ℕ)) → AreOctets text → NameStands text at owner p → (p + 2 ≤ length text) × (two_octets text p ≡ kind) → (p + 2 + 2 ≤ length text) × (two_octets text (p + 2) ≡ class)
    → (p + 4 + 4 ≤ length text) × (four_octets text (p + 4) ≡ ttl) → (p + 8 + 2 ≤ length text) × (two_octets text (p + 8) ≡ size) → (read : Notice × ℕ) → Ended text owner p kind class ttl size read
    → (is_single ttl && kind == any_kind) ≡ false → (is_single ttl && class == any_class) ≡ false → RecordStands text at (notice_of (read_as text owner kind class ttl (p + 10) (p + 10 + size))) (p + 10 + size)
numbers_stand text at p kind class ttl size owner below name kind_there class_there ttl_there size_there read ended kind_ok class_ok = record {
  rr = rr;
  spelled = record {
    owner = name.is;
    kind = subst (λ (n : ℕ). n < 2 ^ 16) kind_there.1 (two_below text p below);
    class = subst (λ (n : ℕ). n < 2 ^ 16) class_there.1 (two_below text (p + 2) below);
    ttl = subst (λ (n : ℕ). n < 2 ^ 32) ttl_there.1 (four_below text (p + 4) below);
    rdata = subst (λ (n : ℕ). n < 2 ^ 16) (size_there.1 ∙ sym long) (two_below text (p + 8) below);
    whole = refl;
  };
  allowed = record {
    kind = kind_ok;
    class = class_ok;
    size = ap (λ (n : ℕ). ttl == remove_many_ttl && nat_lt 0 n) long ∙ ended.size_ok;
    rdata = ended.rdata_ok;
  };
  says = refl;
  whole = joined (octets owner) (to_be_bytes w16 kind) (to_be_bytes w16 class) (to_be_bytes w32 ttl) (to_be_bytes w16 (length rdata)) rdata (drop end text) name.whole second third fourth fifth (drop_split text (p + 10) end (omega arith));
  within = ended.fits;
}
  where
    end : ℕ
    end = p + 10 + size

    rr : Rr
    rr = read_as text owner kind class ttl (p + 10) (p + 10 + size)

    rdata : List ℕ
    rdata = slice_range text (p + 10) (p + 10 + size)

    long : length rdata ≡ size
    long = let range = length-range text (p + 10) (p + 10 + size) (omega arith) ended.fits in omega (arith, range)

    fifth : drop (p + 8) text ≡ to_be_bytes w16 (length rdata) ++ drop (p + 10) text
    fifth = two_there text (p + 8) (p + 10) below size_there.0 (omega arith) ∙ ap (λ (n : ℕ). to_be_bytes w16 n ++ drop (p + 10) text) (size_there.1 ∙ sym long)

    fourth : drop (p + 4) text ≡ to_be_bytes w32 ttl ++ drop (p + 8) text
    fourth = four_there text (p + 4) (p + 8) below ttl_there.0 (omega arith) ∙ ap (λ (n : ℕ). to_be_bytes w32 n ++ drop (p + 8) text) ttl_there.1

    third : drop (p + 2) text ≡ to_be_bytes w16 class ++ drop (p + 4) text
    third = two_there text (p + 2) (p + 4) below class_there.0 (omega arith) ∙ ap (λ (n : ℕ). to_be_bytes w16 n ++ drop (p + 4) text) class_there.1

    second : drop p text ≡ to_be_bytes w16 kind ++ drop (p + 2) text
    second = two_there text p (p + 2) below kind_there.0 refl ∙ ap (λ (n : ℕ). to_be_bytes w16 n ++ drop (p + 2) text) kind_there.1

pub record_found : (text : List ℕ) (at after : ℕ) (notice : Notice) → AreOctets text → at ≤ length text → notice_at text at ≡ done (notice, after) → RecordStands text at notice after
record_found text at after notice below within e =
    let read : Notice × ℕ = (notice, after) in
    let named = fault_as {A = List (List ℕ) × ℕ} (λ f. Data (place_of f)) (plain_name_at text at) in
    let owner = bind_done named (λ owner. from_kind text owner.0 owner.1) read e in
    let name = name_found text at owner.0.1 owner.0.0 below within (fault_as_done (λ f. Data (place_of f)) (plain_name_at text at) owner.0 owner.1) in
    let numbers = kind_done text owner.0.0 owner.0.1 read owner.2 in
    let judged = numbers.judged in
    let is = numbers_stand text at owner.0.1 numbers.kind numbers.class numbers.ttl judged.size owner.0.0 below name numbers.kind_there numbers.class_there numbers.ttl_there judged.size_there read judged.ended judged.kind_ok judged.class_ok in
    subst (λ (x : Notice × ℕ). RecordStands text at x.0 x.1) judged.ended.same is
