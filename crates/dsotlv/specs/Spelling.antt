-- Which octets spell DSO messages, streams of frames, and the data of SUBSCRIBE, PUSH and RECONFIRM (RFC 8490, 5.4; RFC 7766, 8; RFC 8765, 6.2 to 6.5).
--     SpellsDso, SplitsIntoFrames      the text is the message; the stream is these messages and a rest
--     SpellsQuestionData, SpellsReconfirm      the data of SUBSCRIBE and of RECONFIRM
--     SpellsNotice, SpellsPush      a record of a PUSH; the data of a PUSH
use Rattle.std.specs.Prelude.{◌≡◌, ℕ, ◌+◌, ◌<◌, ◌≤◌, ◌^◌, Bool, not, ◌&&◌, ◌==◌, List, [], ◌∷◌, ◌++◌, length, All, flat_map, IsTrue}
use Rattle.std.specs.Int.{w16, to_be_bytes}
use Rattle.dnsname.specs.Names.{octets, is_name}
use Rattle.rrset.specs.Kinds.{any_kind, any_class}
use Rattle.rrset.specs.Rdata.{shape_fits}
use Rattle.rrset.specs.Header.{two_octets, is_response, opcode_of, rcode_of, answer_octets}
use Rattle.rrset.specs.declared.record.Rr.{Rr}
use Rattle.rrset.specs.declared.record.Question.{Question}
use Rattle.dsotlv.specs.Messages.{tlv_octets, dso_opcode, frame}
use Rattle.dsotlv.specs.Notices.{push_record, last_ttl, remove_one_ttl, remove_many_ttl}
use Rattle.dsotlv.specs.declared.message.DsoMessage.{DsoMessage}
use Rattle.dsotlv.specs.declared.message.Notice.{Notice}
use Rattle.dsotlv.specs.declared.message.Notice.TheVariants.{Add, RemoveOne, RemoveSet, RemoveClass, RemoveAll, Odd}

-- a header with any Z bits, zero counts, and whole TLVs
pub record SpellsDso (text : List ℕ) (message : DsoMessage) : Type 0 where
  pub flags : ℕ
  pub flags_fit : flags < 2 ^ 16
  pub id_fits : message.id < 2 ^ 16
  pub opcode : opcode_of flags ≡ dso_opcode
  pub response : message.response ≡ is_response flags
  pub rcode : message.rcode ≡ rcode_of flags
  pub tlvs_fit : All (λ tlv. (tlv.kind < 2 ^ 16) × (length tlv.octets < 2 ^ 16)) message.tlvs
  pub whole : text ≡ answer_octets message.id flags ++ flat_map tlv_octets message.tlvs

-- the stream is these messages, each behind its length, and then less than a whole one
pub record SplitsIntoFrames (stream : List ℕ) (messages : List (List ℕ)) (rest : List ℕ) : Type 0 where
  pub whole : stream ≡ flat_map frame messages ++ rest
  pub each : All (λ message. length message < 2 ^ 16) messages
  pub partial : length rest < 2 + two_octets rest 0

-- a plain name, a kind and a class (RFC 8765, 6.2.1)
pub record SpellsQuestionData (data' : List ℕ) (question : Question) : Type 0 where
  pub name : IsTrue (is_name question.name)
  pub kind : question.kind < 2 ^ 16
  pub class : question.class < 2 ^ 16
  pub whole : data' ≡ octets question.name ++ to_be_bytes w16 question.kind ++ to_be_bytes w16 question.class

-- a plain name, a kind and a class, and then rdata (RFC 8765, 6.5.1)
pub record SpellsReconfirm (data' : List ℕ) (rr : Rr) : Type 0 where
  pub owner : IsTrue (is_name rr.owner)
  pub kind : rr.kind < 2 ^ 16
  pub class : rr.class < 2 ^ 16
  pub ttl : rr.ttl ≡ 0
  pub whole : data' ≡ octets rr.owner ++ to_be_bytes w16 rr.kind ++ to_be_bytes w16 rr.class ++ rr.rdata

-- the octets are a record of a PUSH with these fields, names without pointers
pub record SpellsPushRecord (text : List ℕ) (rr : Rr) : Type 0 where
  pub owner : IsTrue (is_name rr.owner)
  pub kind : rr.kind < 2 ^ 16
  pub class : rr.class < 2 ^ 16
  pub ttl : rr.ttl < 2 ^ 32
  pub rdata : length rr.rdata < 2 ^ 16
  pub whole : text ≡ push_record rr.owner rr.kind rr.class rr.ttl rr.rdata

-- neither number is 255, and the rdata fits its kind
abbrev pub is_one_record : Rr → Bool
is_one_record rr = not (rr.kind == any_kind) && not (rr.class == any_class) && shape_fits rr.kind rr.rdata

-- what a record of a PUSH says (RFC 8765, 6.3.1)
pub data SpellsNotice (text : List ℕ) : Notice → Type 0 where
  add : (rr : Rr) → SpellsPushRecord text rr → rr.ttl ≤ last_ttl → IsTrue (is_one_record rr) → SpellsNotice text (Add rr)
  remove_one : (rr : Rr) → SpellsPushRecord text rr → rr.ttl ≡ remove_one_ttl → IsTrue (is_one_record rr) → SpellsNotice text (RemoveOne rr)
  remove_set : (rr : Rr) → SpellsPushRecord text rr → rr.ttl ≡ remove_many_ttl → rr.rdata ≡ [] → IsTrue (not (rr.kind == any_kind) && not (rr.class == any_class)) → SpellsNotice text (RemoveSet rr.owner rr.class rr.kind)
  remove_class : (rr : Rr) → SpellsPushRecord text rr → rr.ttl ≡ remove_many_ttl → rr.rdata ≡ [] → rr.kind ≡ any_kind → IsTrue (not (rr.class == any_class)) → SpellsNotice text (RemoveClass rr.owner rr.class)
  remove_all : (rr : Rr) → SpellsPushRecord text rr → rr.ttl ≡ remove_many_ttl → rr.rdata ≡ [] → rr.class ≡ any_class → SpellsNotice text (RemoveAll rr.owner)
  odd : (rr : Rr) → SpellsPushRecord text rr → last_ttl < rr.ttl → rr.ttl < remove_many_ttl → SpellsNotice text (Odd rr.owner rr.ttl)

-- the data of a PUSH: at least one record, one behind the other, to the last octet
abbrev pub SpellsPush : List ℕ → List Notice → Type 0
SpellsPush data' [] = ⊥
SpellsPush data' (notice ∷ []) = SpellsNotice data' notice
SpellsPush data' (notice ∷ next ∷ notices) = (front back : List ℕ) × (data' ≡ front ++ back) × SpellsNotice front notice × SpellsPush back (next ∷ notices)
