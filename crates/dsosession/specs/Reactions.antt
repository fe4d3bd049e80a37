-- The first line that fits a message is the reaction to it (RFC 8490, 5.1 to 5.4, 6 and 7; RFC 8765, 6).
--     server_reaction head established      of the server, to a message of at least 12 octets
--     client_reaction head established      of the client
--     is_keepalive head, may_be_keepalive head      which timers the message restarts
use Rattle.std.specs.Prelude.{ℕ, Bool, false, not, ◌&&◌, ◌||◌, [], ◌∷◌, Some, None, nat_le, is_some, ◌==◌, if◌then◌else◌}
use Rattle.push_base.specs.Cases.{chosen}
use Rattle.rrset.specs.Rcodes.{formerr, dsotypeni}
use Rattle.rrset.specs.Header.{is_response, opcode_of, update_opcode}
use Rattle.dsotlv.specs.Messages.{dso_opcode}
use Rattle.dsotlv.specs.TlvKinds.{keepalive_tlv, retry_delay_tlv, padding_tlv, subscribe_tlv, push_tlv, unsubscribe_tlv, reconfirm_tlv, keepalive_size, retry_delay_size, unsubscribe_size}
use Rattle.dsotlv.specs.declared.message.DsoHead.{DsoHead}
use Rattle.dsosession.specs.declared.reaction.TheConstants as reaction
use Rattle.dsosession.specs.declared.session.EndReason.{EndReason}
use Rattle.dsosession.specs.declared.session.EndReason.TheVariants as ends
use Rattle.dsosession.specs.declared.session.CloseReason.{CloseReason}
use Rattle.dsosession.specs.declared.session.CloseReason.TheVariants as closes
use Rattle.dsosession.specs.declared.session.Reaction.{Reaction}
use Rattle.dsosession.specs.declared.session.Reaction.TheVariants.{Answer, Grant, Abort, Subscribe, Unsubscribe, Reconfirm, Update, Query, NotImplemented}
use Rattle.dsosession.specs.declared.session.ClientReaction.{ClientReaction}
use Rattle.dsosession.specs.declared.session.ClientReaction.TheVariants as clients

-- OPCODE of a query (RFC 1035, 4.1.1)
abbrev pub query_opcode : ℕ
query_opcode = reaction.QUERY_OPCODE

-- a Keepalive, as a request or without an answer: the primary TLV alone makes it one (RFC 8490, 7.1)
abbrev pub is_keepalive : DsoHead → Bool
is_keepalive head = not (is_response head.flags) && opcode_of head.flags == dso_opcode && (elim head.primary [ None ↦ false | Some primary ↦ primary.0 == keepalive_tlv ])

-- by its head alone an answer may be one to a Keepalive, too
abbrev pub may_be_keepalive : DsoHead → Bool
may_be_keepalive head = is_response head.flags || is_keepalive head

-- a request is answered, and what has no ID ends the session
abbrev pub answer_or_end : DsoHead → ℕ → EndReason → Reaction
answer_or_end head rcode reason = if head.id == 0 then Abort reason else Answer rcode

-- by the primary TLV, of which kind and length are given
abbrev pub primary_reaction : DsoHead → ℕ → ℕ → Reaction
primary_reaction head kind size = chosen (
    (kind == keepalive_tlv, if head.id == 0 then Abort (ends.Misuse kind) else if size == keepalive_size then Grant else Answer formerr)
    ∷ (kind == retry_delay_tlv, Abort (ends.Misuse kind))
    ∷ (kind == padding_tlv, answer_or_end head formerr (ends.Misuse kind))
    ∷ (kind == subscribe_tlv, if head.id == 0 then Abort (ends.Misuse kind) else Subscribe)
    ∷ (kind == push_tlv, Abort (ends.Misuse kind))
    ∷ (kind == unsubscribe_tlv, if not (head.id == 0) then Abort (ends.Misuse kind) else if size == unsubscribe_size then Unsubscribe else Abort (ends.BadData kind))
    ∷ (kind == reconfirm_tlv, if head.id == 0 then Reconfirm else Abort (ends.Misuse kind))
    ∷ []) (answer_or_end head dsotypeni (ends.Unknown kind))

-- by the rest of its form, of a message with OPCODE 6 and zero counts that is no response
abbrev pub dso_reaction : DsoHead → Bool → Reaction
dso_reaction head established = chosen (
    (not (head.tlvs_good && is_some head.primary), answer_or_end head formerr ends.Tlvs)
    ∷ (head.id == 0 && not established, Abort ends.Early)
    ∷ []) (elim head.primary [ None ↦ answer_or_end head formerr ends.Tlvs | Some primary ↦ primary_reaction head primary.0 primary.1 ])

abbrev pub server_reaction : DsoHead → Bool → Reaction
server_reaction head established = chosen (
    (is_response head.flags, Abort ends.Answer)
    ∷ (opcode_of head.flags == update_opcode, Update)
    ∷ (opcode_of head.flags == query_opcode, Query)
    ∷ (not (opcode_of head.flags == dso_opcode), NotImplemented)
    ∷ (not head.zero_counts, answer_or_end head formerr ends.Counts)
    ∷ []) (dso_reaction head established)

abbrev pub close : CloseReason → ClientReaction
close reason = clients.Close reason

abbrev pub is_known : ℕ → Bool
is_known kind = kind == keepalive_tlv || kind == retry_delay_tlv || kind == padding_tlv || (nat_le subscribe_tlv kind && nat_le kind reconfirm_tlv)

-- a message of the server that is no answer, by its primary TLV
abbrev pub told_reaction : DsoHead → Bool → ℕ → ℕ → ClientReaction
told_reaction head established kind size = chosen (
    (not (head.id == 0) && is_known kind, close (closes.Misuse kind))
    ∷ (not (head.id == 0), clients.Typeless)
    ∷ (not established, close closes.Early)
    ∷ (kind == keepalive_tlv, clients.Keepalive)
    ∷ (kind == retry_delay_tlv, if size == retry_delay_size then clients.Delay else close (closes.BadData kind))
    ∷ (kind == push_tlv, clients.Push)
    ∷ (is_known kind, close (closes.Misuse kind))
    ∷ []) (close (closes.Unknown kind))

abbrev pub client_reaction : DsoHead → Bool → ClientReaction
client_reaction head established = chosen (
    (not (opcode_of head.flags == dso_opcode), close closes.Opcode)
    ∷ (not head.zero_counts, close closes.Counts)
    ∷ (not head.tlvs_good, close closes.Tlvs)
    ∷ (is_response head.flags, clients.Answered)
    ∷ []) (elim head.primary [ None ↦ close closes.Tlvs | Some primary ↦ told_reaction head established primary.0 primary.1 ])
