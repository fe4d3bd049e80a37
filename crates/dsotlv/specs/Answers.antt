-- What a server writes: answers to requests, the TLVs that they carry, and messages without an ID (RFC 8490, 5.4.1, 7.1 and 7.2;
-- RFC 8765, 6.2.2 and 6.3).
--     answer_to id rcode      a header alone
--     keepalive_octets, retry_delay_octets      the TLV of two timers; of a Retry Delay
--     grant_to, refusal_to      an answer with the two timers; one with a Retry Delay
--     answer_to_update, not_implemented      the answers to an update, and to what isn't built
--     stop_message, push_message      the message that asks a client to stop; that of notices
use Rattle.std.specs.Prelude.{ℕ, true, false, List, ◌++◌, flat_map}
use Rattle.std.specs.Int.{w32, to_be_bytes}
use Rattle.rrset.specs.Rcodes.{noerror}
use Rattle.rrset.specs.Header.{id_of, flags_of, answer_octets, update_answer, not_implemented_flags}
use Rattle.dsotlv.specs.declared.delays.TheConstants as delays
use Rattle.dsotlv.specs.declared.message.Notice.{Notice}
use Rattle.dsotlv.specs.TlvKinds.{keepalive_tlv, push_tlv, retry_delay_tlv}
use Rattle.dsotlv.specs.Messages.{tlv_octets, dso_flags}
use Rattle.dsotlv.specs.Notices.{notice_octets}

abbrev pub answer_to : ℕ → ℕ → List ℕ
answer_to id rcode = answer_octets id (dso_flags true rcode)

-- inactivity timeout and keepalive interval (RFC 8490, 7.1)
abbrev pub keepalive_octets : ℕ → ℕ → List ℕ
keepalive_octets inactivity keepalive = tlv_octets (record { kind = keepalive_tlv; octets = to_be_bytes w32 inactivity ++ to_be_bytes w32 keepalive })

-- RFC 8490, 7.2.1
abbrev pub retry_delay_octets : ℕ → List ℕ
retry_delay_octets delay = tlv_octets (record { kind = retry_delay_tlv; octets = to_be_bytes w32 delay })

-- five minutes for what is refused; the number is this project's own (RFC 8490, 7.2.2; RFC 8765, 6.2.2)
abbrev pub refusal_delay : ℕ
refusal_delay = delays.REFUSAL

abbrev pub grant_to : ℕ → ℕ → ℕ → List ℕ
grant_to id inactivity keepalive = answer_to id noerror ++ keepalive_octets inactivity keepalive

abbrev pub refusal_to : ℕ → ℕ → List ℕ
refusal_to id rcode = answer_to id rcode ++ retry_delay_octets refusal_delay

-- the answer to an update, by its ID and the RCODE (RFC 2136, 3.8)
abbrev pub answer_to_update : ℕ → ℕ → List ℕ
answer_to_update id rcode = answer_octets id (update_answer rcode)

-- OPCODE and RD stay, and the RCODE is NOTIMP (RFC 1035, 4.1.1)
abbrev pub not_implemented : List ℕ → List ℕ
not_implemented message = answer_octets (id_of message) (not_implemented_flags (flags_of message))

-- QR 0, OPCODE DSO, the RCODE, and a Retry Delay (RFC 8490, 6.6.1 and 7.2.1)
abbrev pub stop_message : ℕ → ℕ → List ℕ
stop_message rcode delay = answer_octets 0 (dso_flags false rcode) ++ retry_delay_octets delay

-- header, the TLV's kind and length, and the records (RFC 8765, 6.3)
abbrev pub push_message : List Notice → List ℕ
push_message notices = answer_octets 0 (dso_flags false 0) ++ tlv_octets (record { kind = push_tlv; octets = flat_map notice_octets notices })
