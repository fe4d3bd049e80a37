-- Which octets spell entries and whole messages (RFC 1035, 4.1; RFC 2136, 2).
--     SpellsQuestion, SpellsRecord, SpellsSeveral      from one place to another the message spells the entry; so many entries
--     SpellsSections      the four sections of a message
--     SpellsUpdate, SpellsHearing      the message is the update; the datagram says the hearing
use Rattle.std.specs.Prelude.{◌≡◌, ℕ, ◌+◌, ◌≤◌, Bool, false, MatchBool, List, [], ◌∷◌, ◌++◌, map, length, IsTrue, slice_range}
use Rattle.std.specs.Int.{Width, w16, w32, byte_len, from_be_bytes}
use Rattle.push_base.specs.Limits.{max_datagram}
use Rattle.dnsname.specs.Spelling.{SpellsNameAt}
use Rattle.rrset.specs.Rdata.{shape}
use Rattle.rrset.specs.Spelling.{SpellsShape}
use Rattle.rrset.specs.declared.record.Rr.{Rr}
use Rattle.rrset.specs.declared.record.Question.{Question}
use Rattle.rrset.specs.declared.record.Hearing.{Hearing}
use Rattle.dnswire.specs.declared.section.Sections.{Sections}
use Rattle.dnswire.specs.declared.message.Update.{Update}
use Rattle.rrset.specs.Header.{header_octets, id_of, flags_of, is_response, opcode_of, update_opcode, rcode_of, two_octets}
use Rattle.dnswire.specs.Reading.{update_shape, heard_shape, heard_rr}

abbrev pub SpellsNumber : Width → List ℕ → ℕ → ℕ → ℕ → Type 0
SpellsNumber w message at n after = (after ≡ at + byte_len w) × (after ≤ length message) × (n ≡ from_be_bytes w (slice_range message at after))

pub record SpellsQuestion (message : List ℕ) (at : ℕ) (question : Question) (after : ℕ) : Type 0 where
  pub name_end : ℕ
  pub name : SpellsNameAt message at question.name name_end
  pub kind : SpellsNumber w16 message name_end question.kind (name_end + 2)
  pub class : SpellsNumber w16 message (name_end + 2) question.class after

pub record SpellsRecord (by_shape : ℕ → ℕ → Bool) (message : List ℕ) (at : ℕ) (rr : Rr) (after : ℕ) : Type 0 where
  pub owner_end : ℕ
  pub size : ℕ
  pub owner : SpellsNameAt message at rr.owner owner_end
  pub kind : SpellsNumber w16 message owner_end rr.kind (owner_end + 2)
  pub class : SpellsNumber w16 message (owner_end + 2) rr.class (owner_end + 4)
  pub ttl : SpellsNumber w32 message (owner_end + 4) rr.ttl (owner_end + 8)
  pub length_field : SpellsNumber w16 message (owner_end + 8) size (owner_end + 10)
  pub whole : (after ≡ owner_end + 10 + size) × (after ≤ length message)
  pub rdata : MatchBool (by_shape rr.class size) (SpellsShape (shape rr.kind) message (owner_end + 10) after rr.rdata) (rr.rdata ≡ slice_range message (owner_end + 10) after)

abbrev pub SpellsSeveral : {X : Type 0} → (List ℕ → ℕ → X → ℕ → Type 0) → List ℕ → ℕ → List X → ℕ → Type 0
SpellsSeveral spells message at [] after = after ≡ at
SpellsSeveral spells message at (x ∷ xs) after = (next : ℕ) × spells message at x next × SpellsSeveral spells message next xs after

-- as many entries as the header counts
abbrev pub SpellsSection : {X : Type 0} → (List ℕ → ℕ → X → ℕ → Type 0) → List ℕ → ℕ → ℕ → List X → ℕ → Type 0
SpellsSection spells message count at xs after = (length xs ≡ two_octets message count) × SpellsSeveral spells message at xs after

-- the header is that of an update (RFC 2136, 2.2)
abbrev pub IsUpdateRequest : List ℕ → Type 0
IsUpdateRequest message = (is_response (flags_of message) ≡ false) × (opcode_of (flags_of message) ≡ update_opcode)

-- the four sections behind the header, each with as many entries as it counts (RFC 1035, 4.1)
pub record SpellsSections (by_shape : ℕ → ℕ → Bool) (message : List ℕ) (sections : Sections) : Type 0 where
  pub questions_end : ℕ
  pub answers_end : ℕ
  pub authority_end : ℕ
  pub questions : SpellsSection SpellsQuestion message 4 header_octets sections.questions questions_end
  pub answers : SpellsSection (SpellsRecord by_shape) message 6 questions_end sections.answers answers_end
  pub authority : SpellsSection (SpellsRecord by_shape) message 8 answers_end sections.authority authority_end
  pub additional : SpellsSection (SpellsRecord by_shape) message 10 authority_end sections.additional sections.end

-- the sections have zones, prerequisites and changes, and others that are dropped, to the last octet (RFC 2136, 2)
pub record SpellsUpdate (message : List ℕ) (update : Update) : Type 0 where
  pub header : header_octets ≤ length message
  pub request : IsUpdateRequest message
  pub id : update.id ≡ id_of message
  pub others : List Rr
  pub sections : SpellsSections update_shape message (record { questions = update.zones; answers = update.prereqs; authority = update.changes; additional = others; end = length message })

-- the counted entries of a datagram; octets may follow them
pub record SpellsHearing (datagram : List ℕ) (hearing : Hearing) : Type 0 where
  pub header : (header_octets ≤ length datagram) × (length datagram ≤ max_datagram)
  pub response : IsTrue (is_response (flags_of datagram))
  pub plain : (opcode_of (flags_of datagram) ≡ 0) × (rcode_of (flags_of datagram) ≡ 0)
  pub sections : Sections
  pub spelled : SpellsSections heard_shape datagram sections
  pub used : hearing.rrs ≡ map heard_rr (sections.answers ++ sections.additional)
