-- What is read of a message that was written.
--     Written message id flags tlvs      its head and its TLVs
--     written      of a header and TLVs that fit their fields
use Rattle.std.proofs.Common.{◌≡◌, ℕ, ◌<◌, ◌≤◌, ◌^◌, Bool, true, false, cond, ltb, eqb, Option, Some, None, List, [], ◌∷◌, ◌++◌, length, take, drop, Result, Ok, Err, refl, ap, arith}
use Rattle.std.specs.Prelude.{flat_map, is_ok}
use Rattle.std.specs.Int.{w16, to_be_bytes}
use Rattle.std.specs.List.{list_all, All}
use Rattle.std.proofs.lemmas.Bool.{le-ltb}
use Rattle.rrset.specs.Header.{id_of, flags_of, answer_octets}
use Rattle.dsotlv.specs.Laws.{HasSize}
use Rattle.dsotlv.specs.Messages.{head_of, tlvs_of, has_zero_counts, primary_of, tlv_octets}
use Rattle.dsotlv.specs.declared.message.DsoFault.{DsoFault}
use Rattle.dsotlv.specs.declared.message.DsoHead.{DsoHead}
use Rattle.dsotlv.specs.declared.message.Tlv.{Tlv}
use Rattle.dsotlv.proofs.Numbers.{drop_next, room, two_read}
use Rattle.dsotlv.proofs.TlvLaws.{tlvs_there}

abbrev pub written_head : ℕ → ℕ → List Tlv → DsoHead
written_head id flags tlvs = record { id = id; flags = flags; zero_counts = true; tlvs_good = true; primary = primary_of tlvs }

pub record Written (message : List ℕ) (id flags : ℕ) (tlvs : List Tlv) : Type 0 where
  pub id_is : id_of message ≡ id
  pub flags_are : flags_of message ≡ flags
  pub tlvs_are : tlvs_of message ≡ Ok tlvs
  pub head : head_of message ≡ Some (written_head id flags tlvs)

abbrev head_by : Bool → ℕ → ℕ → Bool → Result (List Tlv) DsoFault → Option DsoHead
head_by short id flags counts read =
    cond short None (Some (record { id = id; flags = flags; zero_counts = counts; tlvs_good = is_ok read; primary = elim read as (λ _. Option (ℕ × ℕ)) [ Err fault ↦ None | Ok tlvs ↦ primary_of tlvs ] }))

abbrev zeros : List ℕ
zeros = 0 ∷ 0 ∷ 0 ∷ 0 ∷ 0 ∷ 0 ∷ 0 ∷ 0 ∷ []

-- the octets of a message with these flags and TLVs
abbrev pub dso_text : ℕ → ℕ → List Tlv → List ℕ
dso_text id flags tlvs = answer_octets id flags ++ flat_map tlv_octets tlvs

pub written : (id flags : ℕ) (tlvs : List Tlv) → id < 2 ^ 16 → flags < 2 ^ 16 → All HasSize tlvs → Written (dso_text id flags tlvs) id flags tlvs
written id flags tlvs small low sizes =
    let text = dso_text id flags tlvs in
    let body = flat_map tlv_octets tlvs in
    let first : drop 0 text ≡ to_be_bytes w16 id ++ (to_be_bytes w16 flags ++ (zeros ++ body)) = refl in
    let second : drop 2 text ≡ to_be_bytes w16 flags ++ (zeros ++ body) = drop_next text 0 2 (to_be_bytes w16 id) (to_be_bytes w16 flags ++ (zeros ++ body)) first refl in
    let third : drop 4 text ≡ zeros ++ body = drop_next text 2 4 (to_be_bytes w16 flags) (zeros ++ body) second refl in
    let fourth : drop 12 text ≡ body = drop_next text 4 12 zeros body third refl in
    let id_is : id_of text ≡ id = two_read id text 0 (to_be_bytes w16 flags ++ (zeros ++ body)) small first in
    let flags_are : flags_of text ≡ flags = two_read flags text 2 (zeros ++ body) low second in
    let long : 12 ≤ length text = omega (arith, room text 0 (to_be_bytes w16 id ++ (to_be_bytes w16 flags ++ zeros)) body first) in
    let short : ltb (length text) 12 ≡ false = le-ltb (length text) 12 long in
    let counts : has_zero_counts text ≡ true = ap (λ (xs : List ℕ). list_all (λ o. eqb o 0) (take 8 xs)) third in
    let tlvs_are : tlvs_of text ≡ Ok tlvs = tlvs_there (length text) text 12 tlvs sizes long (omega arith) fourth in
    record { id_is = id_is; flags_are = flags_are; tlvs_are = tlvs_are; head = λ i. head_by (short i) (id_is i) (flags_are i) (counts i) (tlvs_are i) }
