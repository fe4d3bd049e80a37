-- What is known of a message by the reaction to it.
--     number_stands      the data of an UNSUBSCRIBE is one number
--     number_of_taken, reacts_as      the same of a message that was taken up, and how the session reacts to it
use Rattle.std.proofs.Common.{◌≡◌, ◌∙◌, ℕ, ◌≤◌, Bool, true, false, List, [], ◌∷◌, length, Option, Some, None, Result, Ok, Err, refl, sym, subst, ap}
use Rattle.std.specs.Prelude.{nat_lt, is_some, is_ok, ◌==◌, option_map, if◌then◌else◌, not, ◌&&◌}
use Rattle.std.proofs.lemmas.Bool.{eqb-true, ltb-false}
use Rattle.push_base.specs.Cases.{chosen}
use Rattle.rrset.specs.Header.{is_response, opcode_of, update_opcode, id_of, flags_of}
use Rattle.rrset.specs.Rcodes.{formerr, dsotypeni}
use Rattle.dsotlv.specs.Messages.{dso_opcode, head_of, tlvs_of, primary_of, primary_data, data_of_first, has_zero_counts}
use Rattle.dsotlv.specs.TlvKinds.{keepalive_tlv, retry_delay_tlv, padding_tlv, subscribe_tlv, push_tlv, unsubscribe_tlv, reconfirm_tlv}
use Rattle.dsotlv.specs.declared.message.Tlv.{Tlv}
use Rattle.dsotlv.specs.declared.message.DsoHead.{DsoHead}
use Rattle.dsotlv.specs.declared.message.DsoFault.{DsoFault}
use Rattle.dsosession.specs.Reactions.{server_reaction, primary_reaction, answer_or_end, query_opcode}
use Rattle.dsosession.specs.declared.session.Timers.{Timers}
use Rattle.dsosession.specs.declared.session.EndReason.TheVariants as ends
use Rattle.dsosession.specs.declared.session.Reaction.{Reaction}
use Rattle.dsosession.specs.declared.session.Reaction.TheVariants.{Answer, Grant, Abort, Subscribe, Unsubscribe, Reconfirm, Update, Query, NotImplemented}
use Rattle.pushsession.specs.Sessions.{ended_with}
use Rattle.pushsession.specs.Reactions.{by_itself}
use Rattle.pushsession.specs.Kept.{KeptSession, keeping}
use Rattle.pushsession.specs.Requests.{message_of, reacted, taken_up}
use Rattle.pushsession.specs.declared.taking.Taken.{Taken}

abbrev is_unsubscribe : Reaction → Bool
is_unsubscribe Unsubscribe = true
is_unsubscribe _ = false

-- the table of primary TLVs by its tests
abbrev by_kind : Bool → Bool → Bool → Bool → Bool → Bool → Bool → Bool → Bool → Bool → ℕ → Reaction
by_kind a b c d e f g zero eight two kind = chosen (
    (a, if zero then Abort (ends.Misuse kind) else if eight then Grant else Answer formerr)
    ∷ (b, Abort (ends.Misuse kind))
    ∷ (c, if zero then Abort (ends.Misuse kind) else Answer formerr)
    ∷ (d, if zero then Abort (ends.Misuse kind) else Subscribe)
    ∷ (e, Abort (ends.Misuse kind))
    ∷ (f, if not zero then Abort (ends.Misuse kind) else if two then Unsubscribe else Abort (ends.BadData kind))
    ∷ (g, if zero then Reconfirm else Abort (ends.Misuse kind))
    ∷ []) (if zero then Abort (ends.Unknown kind) else Answer dsotypeni)

two_octets_there : (a b c d e f g zero eight two : Bool) (kind : ℕ) → is_unsubscribe (by_kind a b c d e f g zero eight two kind) ≡ true → two ≡ true
two_octets_there true b c d e f g true eight two kind said = absurd cc
two_octets_there true b c d e f g false true two kind said = absurd cc
two_octets_there true b c d e f g false false two kind said = absurd cc
two_octets_there false true c d e f g zero eight two kind said = absurd cc
two_octets_there false false true d e f g true eight two kind said = absurd cc
two_octets_there false false true d e f g false eight two kind said = absurd cc
two_octets_there false false false true e f g true eight two kind said = absurd cc
two_octets_there false false false true e f g false eight two kind said = absurd cc
two_octets_there false false false false true f g zero eight two kind said = absurd cc
two_octets_there false false false false false true g false eight two kind said = absurd cc
two_octets_there false false false false false true g true eight true kind said = refl
two_octets_there false false false false false true g true eight false kind said = absurd cc
two_octets_there false false false false false false true true eight two kind said = absurd cc
two_octets_there false false false false false false true false eight two kind said = absurd cc
two_octets_there false false false false false false false true eight two kind said = absurd cc
two_octets_there false false false false false false false false eight two kind said = absurd cc

primary_size : (head : DsoHead) (kind size : ℕ) → is_unsubscribe (primary_reaction head kind size) ≡ true → (size == 2) ≡ true
primary_size head kind size said =
    two_octets_there (kind == keepalive_tlv) (kind == retry_delay_tlv) (kind == padding_tlv) (kind == subscribe_tlv) (kind == push_tlv) (kind == unsubscribe_tlv) (kind == reconfirm_tlv)
    (head.id == 0) (size == 8) (size == 2) kind said

-- the table of headers by its tests
abbrev by_header : Bool → Bool → Bool → Bool → Bool → Bool → Bool → Bool → Reaction → Reaction
by_header response update query other counts tlvs early zero rest = chosen (
    (response, Abort ends.Answer)
    ∷ (update, Update)
    ∷ (query, Query)
    ∷ (other, NotImplemented)
    ∷ (counts, if zero then Abort ends.Counts else Answer formerr)
    ∷ (tlvs, if zero then Abort ends.Tlvs else Answer formerr)
    ∷ (early, Abort ends.Early)
    ∷ []) rest

by_rest : (response update query other counts tlvs early zero : Bool) (rest : Reaction) → is_unsubscribe (by_header response update query other counts tlvs early zero rest) ≡ true → is_unsubscribe rest ≡ true
by_rest true update query other counts tlvs early zero rest said = absurd cc
by_rest false true query other counts tlvs early zero rest said = absurd cc
by_rest false false true other counts tlvs early zero rest said = absurd cc
by_rest false false false true counts tlvs early zero rest said = absurd cc
by_rest false false false false true tlvs early true rest said = absurd cc
by_rest false false false false true tlvs early false rest said = absurd cc
by_rest false false false false false true early true rest said = absurd cc
by_rest false false false false false true early false rest said = absurd cc
by_rest false false false false false false true zero rest said = absurd cc
by_rest false false false false false false false zero rest said = said

-- the first TLV has two octets
abbrev HasTwo : Option (ℕ × ℕ) → Type 0
HasTwo primary = (first : ℕ × ℕ) × (primary ≡ Some first) × ((first.1 == 2) ≡ true)

by_primary : (head : DsoHead) (primary : Option (ℕ × ℕ)) → is_unsubscribe (elim primary [ None ↦ answer_or_end head formerr ends.Tlvs | Some primary ↦ primary_reaction head primary.0 primary.1 ]) ≡ true → HasTwo primary
by_primary head None said = absurd (none (head.id == 0) said)
  where
    none : (zero : Bool) → is_unsubscribe (if zero then Abort ends.Tlvs else Answer formerr) ≡ true → ⊥
    none true e = absurd cc
    none false e = absurd cc
by_primary head (Some first) said = (first, refl, primary_size head first.0 first.1 said)

unsubscribe_has_two : (head : DsoHead) (established : Bool) → server_reaction head established ≡ Unsubscribe → HasTwo head.primary
unsubscribe_has_two head established is =
    by_primary head head.primary (by_rest (is_response head.flags) (opcode_of head.flags == update_opcode) (opcode_of head.flags == query_opcode) (not (opcode_of head.flags == dso_opcode)) (not head.zero_counts) (not (head.tlvs_good && is_some head.primary))
    (head.id == 0 && not established) (head.id == 0) (elim head.primary [ None ↦ answer_or_end head formerr ends.Tlvs | Some primary ↦ primary_reaction head primary.0 primary.1 ]) (ap is_unsubscribe is))

-- ---- the message

pub record StandsAtHead (message : List ℕ) (head : DsoHead) : Type 0 where
  pub long : 12 ≤ length message
  pub id : head.id ≡ id_of message
  pub flags : head.flags ≡ flags_of message
  pub primary : head.primary ≡ (elim (tlvs_of message) [ Err fault ↦ None | Ok tlvs ↦ primary_of tlvs ])

pub head_stands : (message : List ℕ) (head : DsoHead) → head_of message ≡ Some head → StandsAtHead message head
head_stands message head is = by (nat_lt (length message) 12) refl is
  where
    read : DsoHead
    read = record {
      id = id_of message;
      flags = flags_of message;
      zero_counts = has_zero_counts message;
      tlvs_good = is_ok (tlvs_of message);
      primary = elim (tlvs_of message) [ Err fault ↦ None | Ok tlvs ↦ primary_of tlvs ];
    }

    by : (b : Bool) → nat_lt (length message) 12 ≡ b → (if b then None else Some read) ≡ Some head → StandsAtHead message head
    by true b-is e = absurd cc
    by false b-is e = let same : read ≡ head = cc in record { long = ltb-false (length message) 12 b-is; id = sym (ap (λ (h : DsoHead). h.id) same); flags = sym (ap (λ (h : DsoHead). h.flags) same); primary = sym (ap (λ (h : DsoHead). h.primary) same) }

first_two : (read : Result (List Tlv) DsoFault) (first : ℕ × ℕ) → (elim read [ Err fault ↦ None | Ok tlvs ↦ primary_of tlvs ]) ≡ Some first → (first.1 == 2) ≡ true → length {A = ℕ} (elim read [ Err fault ↦ [] | Ok tlvs ↦ data_of_first tlvs ]) ≡ 2
first_two (Err fault) first e two = absurd cc
first_two (Ok []) first e two = absurd cc
first_two (Ok (tlv ∷ tlvs)) first e two = let same : (tlv.kind, length tlv.octets) ≡ first = cc in ap (λ (p : ℕ × ℕ). p.1) same ∙ eqb-true first.1 2 two

pub record HasNumber (message : List ℕ) : Type 0 where
  pub long : 12 ≤ length message
  pub two : length (primary_data message) ≡ 2

pub number_stands : (message : List ℕ) (head : DsoHead) (established : Bool) → head_of message ≡ Some head → server_reaction head established ≡ Unsubscribe → HasNumber message
number_stands message head established is reaction =
    let stands = head_stands message head is in
    let two = unsubscribe_has_two head established reaction in
    record { long = stands.long; two = first_two (tlvs_of message) two.0 (sym stands.primary ∙ two.1) two.2 }

-- ---- a message that was taken up

abbrev pub taken_as : Bool → DsoHead → Taken
taken_as established head = record { head = head; reaction = server_reaction head established }

number_in : (message : List ℕ) (established : Bool) (taken : Taken) → Some taken ≡ option_map (taken_as established) (head_of message) → taken.reaction ≡ Unsubscribe → HasNumber message
number_in message established taken is reaction = by (head_of message) refl is
  where
    by : (head : Option DsoHead) → head_of message ≡ head → Some taken ≡ option_map (taken_as established) head → HasNumber message
    by None at e = absurd cc
    by (Some head) at e = let same : taken ≡ taken_as established head = cc in number_stands message head established at (sym (ap (λ (t : Taken). t.reaction) same) ∙ reaction)

pub number_of_taken : (message : List ℕ) (session : KeptSession) (result : Option Taken) (taken : Taken) → message ≡ message_of session
    → result ≡ option_map (taken_as session.established) (head_of (message_of session)) → result ≡ Some taken → taken.reaction ≡ Unsubscribe → HasNumber message
number_of_taken message session result taken at made is reaction = subst HasNumber (sym at) (number_in (message_of session) session.established taken (sym is ∙ made) reaction)

pub reacts_as : (timers : Timers) (now : ℕ) (session : KeptSession) (taken : Taken) → Some taken ≡ option_map (taken_as session.established) (head_of (message_of session))
    → reacted timers now session ≡ by_itself keeping taken.reaction timers now (message_of session) (taken_up now session)
reacts_as timers now session taken is = by (head_of (message_of session)) is
  where
    by : (head : Option DsoHead) → Some taken ≡ option_map (taken_as session.established) head → elim head [ None ↦ ended_with keeping ends.Short (taken_up now session) | Some head ↦ by_itself keeping (server_reaction head session.established) timers now (message_of session) (taken_up now session) ] ≡ by_itself keeping taken.reaction timers now (message_of session) (taken_up now session)
    by None e = absurd cc
    by (Some head) e =
        let same : taken ≡ taken_as session.established head = cc in
        ap (λ (r : Reaction). by_itself keeping r timers now (message_of session) (taken_up now session)) (sym (ap (λ (t : Taken). t.reaction) same))
