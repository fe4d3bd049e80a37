-- What holds of every reply.
--     IsAnswer reply      a response with a whole header, whose flags aren't those of an answer without an error in a DSO session
--     RepliesAreAnswers      each reply is one
--     RepliesFit      no reply has more octets than so many
use Rattle.std.specs.Prelude.{◌≡◌, ℕ, ◌≤◌, true, false, List, length, ◌==◌}
use Rattle.rrset.specs.Header.{header_octets, flags_of, is_response}
use Rattle.dnsquery.specs.Replies.{Known, CanBeReplied, max_reply, reply_to}

pub record IsAnswer (reply : List ℕ) : Type 0 where
  pub whole : header_octets ≤ length reply
  pub response : is_response (flags_of reply) ≡ true
  -- QR and OPCODE 6 alone (RFC 8490, 5.4)
  pub no_session : (flags_of reply == 0xb000) ≡ false

abbrev pub RepliesAreAnswers : Type 0
RepliesAreAnswers = (known : Known) (message : List ℕ) → IsAnswer (reply_to known message)

abbrev pub RepliesFit : Type 0
RepliesFit = (known : Known) (message : List ℕ) → CanBeReplied known.records → length (reply_to known message) ≤ max_reply
