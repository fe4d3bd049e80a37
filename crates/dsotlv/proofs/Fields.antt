-- Fields of the data of a TLV, and octets that stand before others.
use Rattle.std.proofs.Common.{◌≡◌, ℕ, ◌+◌, ◌<◌, ◌≤◌, ◌^◌, false, ltb, List, ◌++◌, length, take, drop, refl, sym, ap, ◌∙◌, arith}
use Rattle.std.specs.Int.{w16, w32, to_be_bytes}
use Rattle.std.proofs.lemmas.Bool.{le-ltb}
use Rattle.std.proofs.lemmas.Bool.Decides.{nat_tests}
use Rattle.std.proofs.lemmas.List.{take_at, drop_at}
use Rattle.rrset.specs.Header.{two_octets}
use Rattle.dsotlv.specs.Messages.{frame, tlv_octets}
use Rattle.dsotlv.specs.Notices.{field_at}
use Rattle.dsotlv.specs.Laws.{NoFrameBeginsAnother, NoTlvBeginsAnother}
use Rattle.dsotlv.specs.declared.message.PushFault.TheVariants.{Data}
use Rattle.dsotlv.proofs.Results.{done, same_done, else_done}
use Rattle.dsotlv.proofs.Numbers.{four_octets, room, two_read, four_read}

ltb_false : (a b : ℕ) → ltb a b ≡ false → b ≤ a
ltb_false a b h = grind (arith, nat_tests)

-- ---- a field that is there

pub two_field_read : (n : ℕ) (text : List ℕ) (at : ℕ) (rest : List ℕ) → n < 2 ^ 16 → drop at text ≡ to_be_bytes w16 n ++ rest → field_at w16 text at ≡ done n
two_field_read n text at rest small e =
    let within : at + 2 ≤ length text = omega (arith, room text at (to_be_bytes w16 n) rest e) in
    rw (le-ltb (length text) (at + 2) within) (ap (λ (k : ℕ). done k) (two_read n text at rest small e))

pub four_field_read : (n : ℕ) (text : List ℕ) (at : ℕ) (rest : List ℕ) → n < 2 ^ 32 → drop at text ≡ to_be_bytes w32 n ++ rest → field_at w32 text at ≡ done n
four_field_read n text at rest small e =
    let within : at + 4 ≤ length text = omega (arith, room text at (to_be_bytes w32 n) rest e) in
    rw (le-ltb (length text) (at + 4) within) (ap (λ (k : ℕ). done k) (four_read n text at rest small e))

pub two_field_done : (text : List ℕ) (at n : ℕ) → field_at w16 text at ≡ done n → (at + 2 ≤ length text) × (two_octets text at ≡ n)
two_field_done text at n e =
    let both = else_done (ltb (length text) (at + 2)) (Data (length text)) (done (two_octets text at)) n e in
    (ltb_false (length text) (at + 2) both.0, same_done (two_octets text at) n both.1)

pub four_field_done : (text : List ℕ) (at n : ℕ) → field_at w32 text at ≡ done n → (at + 4 ≤ length text) × (four_octets text at ≡ n)
four_field_done text at n e =
    let both = else_done (ltb (length text) (at + 4)) (Data (length text)) (done (four_octets text at)) n e in
    (ltb_false (length text) (at + 4) both.0, same_done (four_octets text at) n both.1)

-- ---- no text begins another

same_length : (a b x y : List ℕ) → length a ≡ length b → a ++ x ≡ b ++ y → (a ≡ b) × (x ≡ y)
same_length a b x y size e = (
  sym (take_at a x (length a) refl) ∙ ap (take (length a)) e ∙ take_at b y (length a) (sym size),
  sym (drop_at a x (length a) refl) ∙ ap (drop (length a)) e ∙ drop_at b y (length a) (sym size),
)

pub no_frame : NoFrameBeginsAnother
no_frame first second behind after first_fits second_fits e =
    let one : two_octets (frame first ++ behind) 0 ≡ length first = two_read (length first) (frame first ++ behind) 0 (first ++ behind) first_fits refl in
    let other : two_octets (frame first ++ behind) 0 ≡ length second = two_read (length second) (frame first ++ behind) 0 (second ++ after) second_fits e in
    let tails : first ++ behind ≡ second ++ after = ap (drop 2) e in
    same_length first second behind after (sym one ∙ other) tails

pub no_tlv : NoTlvBeginsAnother
no_tlv first second behind after first_fits second_fits e =
    let text = tlv_octets first ++ behind in
    let kind_one : two_octets text 0 ≡ first.kind = two_read first.kind text 0 (to_be_bytes w16 (length first.octets) ++ (first.octets ++ behind)) first_fits.0 refl in
    let kind_other : two_octets text 0 ≡ second.kind = two_read second.kind text 0 (to_be_bytes w16 (length second.octets) ++ (second.octets ++ after)) second_fits.0 e in
    let size_one : two_octets text 2 ≡ length first.octets = two_read (length first.octets) text 2 (first.octets ++ behind) first_fits.1 refl in
    let size_other : two_octets text 2 ≡ length second.octets = two_read (length second.octets) text 2 (second.octets ++ after) second_fits.1 (ap (drop 2) e) in
    let tails : first.octets ++ behind ≡ second.octets ++ after = ap (drop 4) e in
    let rest = same_length first.octets second.octets behind after (sym size_one ∙ size_other) tails in
    let kinds : first.kind ≡ second.kind = sym kind_one ∙ kind_other in
    let bytes : first.octets ≡ second.octets = rest.0 in
    let same : first ≡ second = λ i. record { kind = kinds i; octets = bytes i } in
    (same, rest.1)
