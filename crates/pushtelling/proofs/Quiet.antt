-- Which messages are quiet: no notices in them, and no NOERROR answer to a SUBSCRIBE.
--     other_flags, other_length      a message that isn't such an answer
--     quiet-response, quiet-reply      responses whose flags aren't those of such an answer, so the replies to queries
--     answer-itself, answer-other      one that is, by its ID
use Rattle.std.proofs.Common.{◌≡◌, ℕ, ◌+◌, ◌<◌, ◌≤◌, Bool, true, false, cond, List, [], ◌∷◌, length, sym, ◌∙◌, ap, refl, arith, Ok, Err, min, bit_and, eqb→eq, T, subst, nat_le}
use Rattle.std.specs.Prelude.{◌==◌}
use Rattle.std.specs.Int.{bit_at}
use Rattle.std.specs.Str.{bytes_eq}
use Rattle.std.proofs.lemmas.Nat.{from_be_bytes-to_be_bytes_2, and_le_r}
use Rattle.std.proofs.lemmas.Nat.Bits.{bit_at_and}
use Rattle.std.proofs.lemmas.Slice.Eq.{bytes_eq-Decides}
use Rattle.rrset.specs.Header.{id_of, flags_of, is_response, answer_octets}
use Rattle.rrset.specs.Rcodes.{noerror, formerr, refused, notauth, dsotypeni}
use Rattle.dnsquery.specs.Laws.{IsAnswer}
use Rattle.dsotlv.specs.Answers.{answer_to, not_implemented, answer_to_update, stop_message}
use Rattle.dsotlv.specs.Messages.{tlvs_of}
use Rattle.dsotlv.specs.declared.message.Notice.{Notice}
use Rattle.dsotlv.specs.Answers.{refusal_to, grant_to}
use Rattle.pushserver.specs.ToldMessages.{notices_in_tlvs}
use Rattle.pushtelling.proofs.Tells.{IsQuiet}

-- ---- what isn't the NOERROR answer

not_both : (b : Bool) → (b ≡ true → ⊥) → b ≡ false
not_both true never = absurd (never refl)
not_both false never = refl

same_octets : (message : List ℕ) (id : ℕ) → bytes_eq message (answer_to id noerror) ≡ true → message ≡ answer_to id noerror
same_octets message id e = (bytes_eq-Decides message (answer_to id noerror)).0 e

pub other_flags : (message : List ℕ) (id : ℕ) → (flags_of message == 0xb000) ≡ false → bytes_eq message (answer_to id noerror) ≡ false
other_flags message id other = not_both (bytes_eq message (answer_to id noerror)) (λ e. clash (sym (ap (λ m. flags_of m == 0xb000) (same_octets message id e)) ∙ other))
  where
    clash : true ≡ false → ⊥
    clash e = cc

pub other_length : (message : List ℕ) (id : ℕ) → (length message == 12) ≡ false → bytes_eq message (answer_to id noerror) ≡ false
other_length message id other = not_both (bytes_eq message (answer_to id noerror)) (λ e. clash (sym (ap (λ m. length m == 12) (same_octets message id e)) ∙ other))
  where
    clash : true ≡ false → ⊥
    clash e = cc

-- ---- answers by their flags or their length

pub quiet-formerr : (id : ℕ) → IsQuiet (answer_to id formerr)
quiet-formerr id = (refl, λ other. other_flags (answer_to id formerr) other refl)

pub quiet-dsotypeni : (id : ℕ) → IsQuiet (answer_to id dsotypeni)
quiet-dsotypeni id = (refl, λ other. other_flags (answer_to id dsotypeni) other refl)

pub quiet-refusal_formerr : (id : ℕ) → IsQuiet (refusal_to id formerr)
quiet-refusal_formerr id = (refl, λ other. other_flags (refusal_to id formerr) other refl)

pub quiet-refusal_refused : (id : ℕ) → IsQuiet (refusal_to id refused)
quiet-refusal_refused id = (refl, λ other. other_flags (refusal_to id refused) other refl)

pub quiet-refusal_notauth : (id : ℕ) → IsQuiet (refusal_to id notauth)
quiet-refusal_notauth id = (refl, λ other. other_flags (refusal_to id notauth) other refl)

-- also one with the ID of an active subscription
pub quiet-grant : (id inactivity keepalive : ℕ) → IsQuiet (grant_to id inactivity keepalive)
quiet-grant id inactivity keepalive = (refl, λ other. other_length (grant_to id inactivity keepalive) other refl)

pub quiet-stop : (rcode delay : ℕ) → IsQuiet (stop_message rcode delay)
quiet-stop rcode delay = (by (is_response (flags_of (stop_message rcode delay))), λ id. other_length (stop_message rcode delay) id refl)
  where
    by : (b : Bool) → cond b [] (notices_in_tlvs ((record { kind = 2; octets = [] }) ∷ [])) ≡ []
    by true = refl
    by false = refl

-- ---- answers whose flags are no literal

-- a message is quiet where its flags are those of a response and not those of a granted SUBSCRIBE
quiet-response : (message : List ℕ) → is_response (flags_of message) ≡ true → (flags_of message == 0xb000) ≡ false → IsQuiet message
quiet-response message response other =
    (ap (λ b. cond b [] (elim (tlvs_of message) as (λ _. List Notice) [ Err fault ↦ [] | Ok tlvs ↦ notices_in_tlvs tlvs ])) response, λ id. other_flags message id other)

-- so is the reply to a query
pub quiet-reply : (reply : List ℕ) → IsAnswer reply → IsQuiet reply
quiet-reply reply answer = quiet-response reply answer.response answer.no_session

pub flags_read : (id flags : ℕ) → flags < 65536 → flags_of (answer_octets id flags) ≡ flags
flags_read id flags small = from_be_bytes-to_be_bytes_2 flags small

-- so is an answer of a header alone, by its flags
pub quiet-header : (id flags : ℕ) → flags < 65536 → is_response flags ≡ true → (flags == 0xb000) ≡ false → IsQuiet (answer_octets id flags)
quiet-header id flags small response other = quiet-response (answer_octets id flags) (ap is_response (flags_read id flags small) ∙ response) (ap (λ f. f == 0xb000) (flags_read id flags small) ∙ other)

-- the answer to an update with a small RCODE
pub quiet-update : (id code : ℕ) → code < 2048 → IsQuiet (answer_to_update id code)
quiet-update id code small = quiet-header id (0xa800 + code) (omega (arith, small)) (grind (arith, small)) (grind (arith, small))

-- what another OPCODE gets is quiet: its RCODE is 4
pub quiet-not_implemented : (message : List ℕ) → IsQuiet (not_implemented message)
quiet-not_implemented message = quiet-header (id_of message) (0x8000 + bit_and (flags_of message) 0x7900 + 4)
    (small (bit_and (flags_of message) 0x7900) (and_le_r (flags_of message) 0x7900)) (large (bit_and (flags_of message) 0x7900)) (by ((0x8000 + bit_and (flags_of message) 0x7900 + 4) == 0xb000) refl)
  where
    small : (n : ℕ) → n ≤ 0x7900 → 0x8000 + n + 4 < 65536
    small n low = omega (arith, low)

    large : (n : ℕ) → nat_le 0x8000 (0x8000 + n + 4) ≡ true
    large n = grind arith

    rest : (n : ℕ) → 0x8000 + n + 4 ≡ 0xb000 → n ≡ 0x2ffc
    rest n e = omega (arith, e)

    none : (n : ℕ) → min n 0 ≡ 0
    none n = omega arith

    by : (b : Bool) → ((0x8000 + bit_and (flags_of message) 0x7900 + 4) == 0xb000) ≡ b → ((0x8000 + bit_and (flags_of message) 0x7900 + 4) == 0xb000) ≡ false
    by true e =
        let same : bit_and (flags_of message) 0x7900 ≡ 0x2ffc = rest (bit_and (flags_of message) 0x7900) (eqb→eq (0x8000 + bit_and (flags_of message) 0x7900 + 4) 0xb000 (subst T (sym e) tt)) in
        let bit : 1 ≡ 0 = sym (ap (λ n. bit_at n 2) same) ∙ bit_at_and (flags_of message) 0x7900 2 ∙ none (bit_at (flags_of message) 2) in
        absurd (omega (arith, bit))
    by false e = e

-- ---- the answer to a SUBSCRIBE

pub answer-itself : (id : ℕ) → bytes_eq (answer_to id noerror) (answer_to id noerror) ≡ true
answer-itself id = (bytes_eq-Decides (answer_to id noerror) (answer_to id noerror)).1 refl

pub answer-other : (first id : ℕ) → first < 65536 → id < 65536 → (first == id) ≡ false → bytes_eq (answer_to first noerror) (answer_to id noerror) ≡ false
answer-other first id small small_too other =
    not_both (bytes_eq (answer_to first noerror) (answer_to id noerror)) (λ e. clash first id (sym (id_read first small) ∙ ap id_of (same_octets (answer_to first noerror) id e) ∙ id_read id small_too) other)
  where
    id_read : (n : ℕ) → n < 65536 → id_of (answer_to n noerror) ≡ n
    id_read n low = from_be_bytes-to_be_bytes_2 n low

    clash : (a b : ℕ) → a ≡ b → (a == b) ≡ false → ⊥
    clash a b e other = grind (arith, e, other)
