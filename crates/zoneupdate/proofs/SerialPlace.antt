-- SOA rdata is its two names, then the serial, and then the other numbers.
use Rattle.std.proofs.Common.{◌≡◌, ℕ, ◌+◌, ◌-◌, Bool, true, false, cond, eqb, ltb, List, [], ◌∷◌, ◌++◌, length, take, drop, Option, Some, None, Result, Ok, Err, refl, sym, ap, ◌∙◌, append_assoc, arith}
use Rattle.std.specs.Prelude.{slice_range}
use Rattle.std.specs.Int.{w32, to_be_bytes}
use Rattle.std.proofs.lemmas.List.{take_at, drop-drop, take_rest, length-append}
use Rattle.std.proofs.lemmas.Bool.Decides.{nat_tests}
use Rattle.dnsname.specs.Names.{Labels, octets}
use Rattle.dnsname.specs.Reading.{plain_name_at, place_of}
use Rattle.dnsname.specs.Spelling.{StandsAt}
use Rattle.dnsname.specs.declared.name.NameFault.{NameFault}
use Rattle.dnsname.proofs.Standing.{StandsAt-append}
use Rattle.dnsname.proofs.FoundNames.{AreOctetsBelow, plain_name_at-found}
use Rattle.rrset.specs.Rdata.{Field, raw, named, some_octets, with_field, fields_from}
use Rattle.zoneupdate.specs.Zones.{with_serial, fields_with}
use Rattle.zoneupdate.specs.Changing.{numbers_place}

abbrev pub Read : Type 0
Read = Result (Labels × ℕ) NameFault

-- ---- the fields, and the place of the numbers, by what is read as the names

abbrev pub numbers : List ℕ → ℕ → Result (List Field) ℕ
numbers rdata p = fields_from plain_name_at (some_octets 20 ∷ []) rdata p

abbrev pub from_second : List ℕ → Read → Result (List Field) ℕ
from_second rdata (Err fault) = Err (place_of fault)
from_second rdata (Ok found) = with_field (named found.0) (numbers rdata found.1)

abbrev pub from_first : List ℕ → Read → Result (List Field) ℕ
from_first rdata (Err fault) = Err (place_of fault)
from_first rdata (Ok found) = with_field (named found.0) (from_second rdata (plain_name_at rdata found.1))

abbrev pub place_second : List ℕ → Read → Option ℕ
place_second rdata (Err fault) = None
place_second rdata (Ok found) = cond (eqb (found.1 + 20) (length rdata)) (Some found.1) None

abbrev pub place_first : List ℕ → Read → Option ℕ
place_first rdata (Err fault) = None
place_first rdata (Ok found) = place_second rdata (plain_name_at rdata found.1)

-- rdata with another serial, by its fields, and by the place of its numbers
abbrev pub by_fields : ℕ → List ℕ → Result (List Field) ℕ → List ℕ
by_fields serial rdata (Err p) = rdata
by_fields serial rdata (Ok fields) = fields_with serial fields

abbrev pub by_place : ℕ → List ℕ → Option ℕ → List ℕ
by_place serial rdata None = rdata
by_place serial rdata (Some p) = take p rdata ++ to_be_bytes w32 serial ++ drop (p + 4) rdata

-- ---- what stands before the numbers is the two names

names_front : (rdata : List ℕ) (m r : Labels) (p q : ℕ) → AreOctetsBelow rdata → plain_name_at rdata 0 ≡ Ok (m, p) → plain_name_at rdata p ≡ Ok (r, q) → take q rdata ≡ octets m ++ octets r
names_front rdata m r p q below first second =
    let m-is = plain_name_at-found rdata 0 p m below first in
    let r-is = plain_name_at-found rdata p q r below second in
    let both : StandsAt rdata 0 (octets m ++ octets r) = StandsAt-append rdata 0 p (octets m) (octets r) m-is.spelled r-is.spelled m-is.ends in
    let ends : q ≡ length (octets m ++ octets r) = omega (arith, m-is.ends, r-is.ends, length-append (octets m) (octets r)) in
    ap (take q) both.1 ∙ take_at (octets m ++ octets r) both.0 q (sym ends)

-- ---- the serial is replaced where it stands

pub with_serial-place : (serial : ℕ) (rdata : List ℕ) → AreOctetsBelow rdata → with_serial serial rdata ≡ by_place serial rdata (numbers_place rdata)
with_serial-place serial rdata below = whole (plain_name_at rdata 0) refl
  where
    numbers_there : (q : ℕ) → q + 20 ≡ length rdata → drop 4 (slice_range rdata q (q + 20)) ≡ drop (q + 4) rdata
    numbers_there q e =
        let size : q + 20 - q ≡ length rdata - q = omega (arith, e) in
        ap (λ n. drop 4 (take n (drop q rdata))) size ∙ ap (drop 4) (take_rest rdata q) ∙ drop-drop 4 q rdata

    last : (m r : Labels) (q : ℕ) → take q rdata ≡ octets m ++ octets r → (cut fits : Bool) → (ltb (length rdata) (q + 20) ≡ cut) → (eqb (q + 20) (length rdata) ≡ fits)
        → by_fields serial rdata (with_field (named m) (with_field (named r) (cond cut (Err (length rdata)) (with_field (raw (slice_range rdata q (q + 20))) (cond fits (Ok []) (Err (q + 20)))))))
        ≡ by_place serial rdata (cond fits (Some q) None)
    last m r q front true true e f = absurd (grind (arith, nat_tests))
    last m r q front true false e f = refl
    last m r q front false false e f = refl
    last m r q front false true e f =
        let size : q + 20 ≡ length rdata = grind (arith, nat_tests) in
        ap (λ more. (octets m ++ octets r) ++ (to_be_bytes w32 serial ++ more)) (numbers_there q size)
        ∙ sym (append_assoc (octets m ++ octets r) (to_be_bytes w32 serial) (drop (q + 4) rdata))
        ∙ ap (λ names. names ++ to_be_bytes w32 serial ++ drop (q + 4) rdata) (sym front)

    more : (m : Labels) (p : ℕ) → plain_name_at rdata 0 ≡ Ok (m, p) → (second : Read) → plain_name_at rdata p ≡ second
        → by_fields serial rdata (with_field (named m) (from_second rdata second)) ≡ by_place serial rdata (place_second rdata second)
    more m p e (Err fault) f = refl
    more m p e (Ok (r, q)) f = last m r q (names_front rdata m r p q below e f) (ltb (length rdata) (q + 20)) (eqb (q + 20) (length rdata)) refl refl

    whole : (first : Read) → plain_name_at rdata 0 ≡ first → by_fields serial rdata (from_first rdata first) ≡ by_place serial rdata (place_first rdata first)
    whole (Err fault) e = refl
    whole (Ok (m, p)) e = more m p e (plain_name_at rdata p) refl

pub joined_parts : (serial rdata : List ℕ) (p : ℕ) → take p rdata ++ serial ++ slice_range rdata (p + 4) (length rdata) ≡ take p rdata ++ serial ++ drop (p + 4) rdata
joined_parts serial rdata p = ap (λ back. take p rdata ++ serial ++ back) (take_rest rdata (p + 4))
