-- DSO messages and frames (RFC 8490, 5.4; RFC 7766, 8).
--     tlv_end, tlvs_of      the place after a TLV; all TLVs, or the first that isn't whole
--     dso_of      the whole message, or the first fault
--     head_of      what a reaction needs to know of a message, which may have any of these faults, but for a header that is cut off
--     dso_octets, frame, max_frame      the octets of a message; a message behind its length; the most octets of that
--     messages_in      the whole messages of a stream, and what is left
--     primary_data      the data of a message's primary TLV
use Rattle.std.specs.Prelude.{ℕ, zero, suc, ◌+◌, Bool, true, false, cond, List, [], ◌∷◌, ◌++◌, length, drop, Option, Some, None, Result, Ok, Err, nat_lt, ◌==◌, slice_range, flat_map, is_ok, if◌then◌else◌}
use Rattle.std.specs.Int.{w16, to_be_bytes}
use Rattle.std.specs.List.{list_all}
use Rattle.push_base.specs.Cases.{◌>>=◌}
use Rattle.rrset.specs.declared.header.TheConstants as header
use Rattle.rrset.specs.Header.{header_octets, two_octets, id_of, flags_of, is_response, opcode_of, rcode_of, answer_octets}
use Rattle.dsotlv.specs.declared.flags.TheConstants as flags
use Rattle.dsotlv.specs.declared.framer.TheConstants as framer
use Rattle.dsotlv.specs.declared.message.Tlv.{Tlv}
use Rattle.dsotlv.specs.declared.message.DsoMessage.{DsoMessage}
use Rattle.dsotlv.specs.declared.message.DsoHead.{DsoHead}
use Rattle.dsotlv.specs.declared.message.DsoFault.{DsoFault}
use Rattle.dsotlv.specs.declared.message.DsoFault.TheVariants.{Short, Opcode, Counts, Tlv as TlvAt}

-- kind, length and data (RFC 8490, 5.4.4)
abbrev pub tlv_octets : Tlv → List ℕ
tlv_octets tlv = to_be_bytes w16 tlv.kind ++ to_be_bytes w16 (length tlv.octets) ++ tlv.octets

-- the place after the TLV at a place, where it is whole (RFC 8490, 5.4.4)
abbrev pub tlv_end : List ℕ → ℕ → Option ℕ
tlv_end message at =
    if nat_lt (length message) (at + 4) then None
    else (if nat_lt (length message) (at + 4 + two_octets message (at + 2)) then None else Some (at + 4 + two_octets message (at + 2)))

-- Whole TLVs from a place to the end, at most so many; the fault is at the first that isn't whole.
abbrev pub tlvs_from : ℕ → List ℕ → ℕ → Result (List Tlv) DsoFault
tlvs_from zero message at = if at == length message then Ok [] else Err (TlvAt at)
tlvs_from (suc more) message at =
    elim (at == length message) [
      | true ↦ Ok []
      | false ↦ elim (tlv_end message at) [
        | None ↦ Err (TlvAt at)
        | Some end ↦ tlvs_from more message end >>= λ others. Ok ((record { kind = two_octets message at; octets = slice_range message (at + 4) end }) ∷ others)
      ]
    ]

abbrev pub tlvs_of : List ℕ → Result (List Tlv) DsoFault
tlvs_of message = tlvs_from (length message) message header_octets

-- RFC 8490, 5.4
abbrev pub dso_opcode : ℕ
dso_opcode = header.DSO_OPCODE

abbrev pub has_zero_counts : List ℕ → Bool
has_zero_counts message = list_all (λ o. o == 0) (slice_range message 4 header_octets)

-- header with OPCODE 6 and zero counts, then whole TLVs; the Z bits may have any value
abbrev pub dso_of : List ℕ → Result DsoMessage DsoFault
dso_of message =
    if nat_lt (length message) header_octets then Err Short
    else if opcode_of (flags_of message) == dso_opcode then (if has_zero_counts message then (tlvs_of message >>= λ tlvs.
    Ok (record { id = id_of message; response = is_response (flags_of message); rcode = rcode_of (flags_of message); tlvs = tlvs })) else Err Counts)
    else Err Opcode

abbrev pub primary_of : List Tlv → Option (ℕ × ℕ)
primary_of [] = None
primary_of (tlv ∷ tlvs) = Some (tlv.kind, length tlv.octets)

-- the primary TLV stands first (RFC 8490, 5.4.2)
abbrev pub head_of : List ℕ → Option DsoHead
head_of message =
    if nat_lt (length message) header_octets then None
    else Some (record {
      id = id_of message;
      flags = flags_of message;
      zero_counts = has_zero_counts message;
      tlvs_good = is_ok (tlvs_of message);
      primary = elim (tlvs_of message) [ Err fault ↦ None | Ok tlvs ↦ primary_of tlvs ];
    })

-- flags with OPCODE 6 and the Z bits 0
abbrev pub dso_flags : Bool → ℕ → ℕ
dso_flags response rcode = cond response flags.ANSWER flags.REQUEST + rcode

abbrev pub dso_octets : DsoMessage → List ℕ
dso_octets message = answer_octets message.id (dso_flags message.response message.rcode) ++ flat_map tlv_octets message.tlvs

-- two octets of length, and the message (RFC 7766, 8)
abbrev pub frame : List ℕ → List ℕ
frame message = to_be_bytes w16 (length message) ++ message

-- the octets of the longest frame
abbrev pub max_frame : ℕ
max_frame = framer.MAX_FRAME

-- the first whole message of a stream and what follows it
abbrev pub first_message : List ℕ → Option (List ℕ × List ℕ)
first_message stream = let n = two_octets stream 0 in if nat_lt (length stream) (2 + n) then None else Some (slice_range stream 2 (2 + n), drop (2 + n) stream)

-- The whole messages of a stream, at most so many, and what is left.
abbrev pub messages_from : ℕ → List ℕ → List (List ℕ) × List ℕ
messages_from zero stream = ([], stream)
messages_from (suc more) stream = elim (first_message stream) [
  | None ↦ ([], stream)
  | Some found ↦ (let others = messages_from more found.1 in (found.0 ∷ others.0, others.1))
]

abbrev pub messages_in : List ℕ → List (List ℕ) × List ℕ
messages_in stream = messages_from (length stream) stream

-- the data of the primary TLV
abbrev pub data_of_first : List Tlv → List ℕ
data_of_first [] = []
data_of_first (tlv ∷ tlvs) = tlv.octets

abbrev pub primary_data : List ℕ → List ℕ
primary_data message = elim (tlvs_of message) [ Err fault ↦ [] | Ok tlvs ↦ data_of_first tlvs ]
