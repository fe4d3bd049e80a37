-- Which texts are no DSO messages, and by which fault (RFC 8490, 5.4).
--     HasDsoHeader      a whole header with the OPCODE and the counts of DSO
--     IsCutFrom      whole TLVs stand from one place to another, where no whole one begins
--     IsDsoFault      the fault of a text; the first of those that it has
--     NamesEachDsoFault      what is read is this fault exactly where the text has it
use Rattle.std.specs.Prelude.{◌≡◌, ◌≢◌, ℕ, ◌+◌, ◌<◌, ◌≤◌, List, ◌++◌, length, drop, All, flat_map, IsTrue, IsFalse, Err}
use Rattle.rrset.specs.Header.{header_octets, flags_of, opcode_of}
use Rattle.dsotlv.specs.declared.message.Tlv.{Tlv}
use Rattle.dsotlv.specs.declared.message.DsoFault.{DsoFault}
use Rattle.dsotlv.specs.declared.message.DsoFault.TheVariants.{Short, Opcode, Counts, Tlv as TlvAt, NoMemory}
use Rattle.dsotlv.specs.Messages.{tlv_octets, dso_opcode, has_zero_counts, dso_of}
use Rattle.dsotlv.specs.Laws.{AreOctets, HasSize}

-- a header with the OPCODE of DSO
pub record HasDsoOpcode (text : List ℕ) : Type 0 where
  pub long : header_octets ≤ length text
  pub opcode : opcode_of (flags_of text) ≡ dso_opcode

pub record HasDsoHeader (text : List ℕ) : Type 0 where
  pub first : HasDsoOpcode text
  pub counts : IsTrue (has_zero_counts text)

-- from a place whole TLVs stand, and where they end, before the end of the text, no whole TLV begins (RFC 8490, 5.4.4)
pub record IsCutFrom (text : List ℕ) (at place : ℕ) : Type 0 where
  pub tlvs : List Tlv
  pub sized : All HasSize tlvs
  pub whole : drop at text ≡ flat_map tlv_octets tlvs ++ drop place text
  pub place_is : place ≡ at + length (flat_map tlv_octets tlvs)
  pub before : place < length text
  pub none : (tlv : Tlv) (rest : List ℕ) → HasSize tlv → drop place text ≢ tlv_octets tlv ++ rest

-- a header first, then its OPCODE, then its counts, then TLVs to the last octet
abbrev pub IsDsoFault : List ℕ → DsoFault → Type 0
IsDsoFault text Short = length text < header_octets
IsDsoFault text Opcode = (header_octets ≤ length text) × (opcode_of (flags_of text) ≢ dso_opcode)
IsDsoFault text Counts = HasDsoOpcode text × IsFalse (has_zero_counts text)
IsDsoFault text (TlvAt place) = HasDsoHeader text × IsCutFrom text header_octets place
IsDsoFault text NoMemory = ⊥

abbrev pub NamesEachDsoFault : Type 0
NamesEachDsoFault = (text : List ℕ) (fault : DsoFault) → AreOctets text → (dso_of text ≡ Err fault → IsDsoFault text fault) × (IsDsoFault text fault → dso_of text ≡ Err fault)
