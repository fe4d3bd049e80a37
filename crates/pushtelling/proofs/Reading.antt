-- The notices of a PUSH are read from its message.
--     push_read      where its data is read back, and is small
use Rattle.std.proofs.Common.{◌≡◌, ◌+◌, ◌≤◌, List, [], ◌∷◌, length, sym, ◌∙◌, ap, arith, Ok, Err, Result}
use Rattle.std.specs.Prelude.{flat_map}
use Rattle.std.proofs.lemmas.List.{append-nil}
use Rattle.std.proofs.lemmas.List.Elements.{All-nil, All-cons}
use Rattle.dsotlv.specs.Laws.{HasSize}
use Rattle.dsotlv.specs.Messages.{tlv_octets, tlvs_of}
use Rattle.dsotlv.specs.Notices.{notices_of, notice_octets}
use Rattle.dsotlv.specs.TlvKinds.{push_tlv}
use Rattle.dsotlv.specs.declared.message.DsoFault.{DsoFault}
use Rattle.dsotlv.specs.declared.message.Notice.{Notice}
use Rattle.dsotlv.specs.declared.message.PushFault.{PushFault}
use Rattle.dsotlv.specs.declared.message.Tlv.{Tlv}
use Rattle.dsotlv.proofs.TlvLaws.{tlvs_there}
use Rattle.dsotlv.specs.Answers.{push_message}
use Rattle.coalesce.specs.Net.{max_net_message}
use Rattle.coalesce.proofs.NetSizes.{length-push_message}
use Rattle.pushserver.specs.ToldMessages.{notices_in_tlvs}
use Rattle.pushtelling.proofs.Tells.{IsReadBack}

-- the one TLV of a PUSH
abbrev push_of : List Notice → Tlv
push_of notices = record { kind = push_tlv; octets = flat_map notice_octets notices }

pub push_read : (notices : List Notice) → notices_of (flat_map notice_octets notices) ≡ Ok notices → length (push_message notices) ≤ max_net_message → IsReadBack notices
push_read notices read small =
    ap (λ (r : Result (List Tlv) DsoFault). elim r as (λ _. List Notice) [ Err fault ↦ [] | Ok tlvs ↦ notices_in_tlvs tlvs ]) one
    ∙ ap (λ (r : Result (List Notice) PushFault). elim r as (λ _. List Notice) [ Err fault ↦ [] | Ok found ↦ found ]) read
  where
    whole : length (push_message notices) ≡ 16 + length (flat_map notice_octets notices)
    whole = length-push_message notices

    fits : HasSize (push_of notices)
    fits = (omega arith, omega (arith, whole, small))

    one : tlvs_of (push_message notices) ≡ Ok (push_of notices ∷ [])
    one = tlvs_there (length (push_message notices)) (push_message notices) 12 (push_of notices ∷ []) (All-cons HasSize (push_of notices) [] fits (All-nil HasSize)) (omega (arith, whole)) (omega arith)
        (sym (append-nil (tlv_octets (push_of notices))))
