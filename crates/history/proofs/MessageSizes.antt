-- What is made of one message fits an empty journal: its records have at most 255 times the message's octets.
use Rattle.std.proofs.Common.{◌≡◌, ℕ, ◌+◌, ◌*◌, ◌≤◌, Bool, true, false, cond, eqb, ltb, List, [], ◌∷◌, ◌++◌, map, length, sum_by, Result, Ok, Err, refl, sym, ap, subst, ◌∙◌, arith, ltb-false}
use Rattle.std.specs.Prelude.{IfOk, not, ◌||◌, ◌&&◌, ◌==◌}
use Rattle.std.proofs.lemmas.List.Sums.{sum_by-cons, sum_by-append}
use Rattle.push_base.specs.Cases.{◌>>=◌, fault_as}
use Rattle.push_base.specs.Limits.{max_datagram}
use Rattle.rrset.specs.Header.{header_octets, max_message, two_octets, id_of, flags_of, is_response, opcode_of, rcode_of, update_opcode}
use Rattle.rrset.specs.Rcodes.{formerr}
use Rattle.rrset.specs.Records.{rr_size}
use Rattle.rrset.specs.declared.record.Rr.{Rr}
use Rattle.rrset.specs.declared.record.HeardRr.{HeardRr}
use Rattle.rrset.specs.declared.record.Hearing.{Hearing}
use Rattle.rrset.specs.declared.record.Question.{Question}
use Rattle.dnswire.specs.Reading.{question_at, record_at, several, sections_of, update_shape, update_of, heard_shape, heard_rr, entries_heard, hearing_of}
use Rattle.dnswire.specs.declared.message.Update.{Update}
use Rattle.dnswire.specs.declared.message.HearFault.{HearFault}
use Rattle.dnswire.specs.declared.message.HearFault.TheVariants as hear
use Rattle.dnswire.specs.declared.message.WireFault.{WireFault}
use Rattle.dnswire.specs.declared.message.WireFault.TheVariants as wires
use Rattle.dnswire.specs.declared.section.Sections.{Sections}
use Rattle.history.specs.Entries.{entry_size}
use Rattle.history.specs.Laws.{UpdatesFit, HearingsFit}
use Rattle.history.specs.States.{update_in, max_journal_octets}
use Rattle.history.specs.declared.entry.Entry.TheVariants as entries
use Rattle.history.proofs.ReadNames.{AreOctets}
use Rattle.history.proofs.ReadRecords.{Takes, behind, faulted, questions-step, records-step}

-- ---- the four sections

-- the records of all sections have at most 255 times the octets that they are read from
pub record AreSmall (message : List ℕ) (sections : Sections) : Type 0 where
  pub few : sum_by rr_size sections.answers + sum_by rr_size sections.authority + sum_by rr_size sections.additional ≤ 255 * sections.end
  pub within : sections.end ≤ length message

module _ (by_shape : ℕ → ℕ → Bool) (message : List ℕ) (below : AreOctets message) where
  abbrev QuestionsIn : List Question × ℕ → Type 0
  QuestionsIn r = Takes message header_octets 0 r.1

  abbrev RecordsIn : ℕ → List Rr × ℕ → Type 0
  RecordsIn at r = Takes message at (sum_by rr_size r.0) r.1

  abbrev all_sections : List Question × ℕ → List Rr × ℕ → List Rr × ℕ → List Rr × ℕ → Sections
  all_sections questions answers authority additional = record { questions = questions.0; answers = answers.0; authority = authority.0; additional = additional.0; end = additional.1 }

  abbrev from_authority : List Question × ℕ → List Rr × ℕ → List Rr × ℕ → Result Sections WireFault
  from_authority questions answers authority = several (record_at by_shape) (two_octets message 10) message authority.1 >>= λ additional. Ok (all_sections questions answers authority additional)

  abbrev from_answers : List Question × ℕ → List Rr × ℕ → Result Sections WireFault
  from_answers questions answers = several (record_at by_shape) (two_octets message 8) message answers.1 >>= λ authority. from_authority questions answers authority

  abbrev from_questions : List Question × ℕ → Result Sections WireFault
  from_questions questions = several (record_at by_shape) (two_octets message 6) message questions.1 >>= λ answers. from_answers questions answers

  pub sections-small : 12 ≤ length message → IfOk (sections_of by_shape message) (AreSmall message)
  sections-small long =
      behind QuestionsIn (AreSmall message) (several question_at (two_octets message 4) message header_octets) from_questions (questions-step message below (two_octets message 4) header_octets long) (λ questions q.
      behind (RecordsIn questions.1) (AreSmall message) (several (record_at by_shape) (two_octets message 6) message questions.1) (from_answers questions) (records-step by_shape message below (two_octets message 6) questions.1 q.1) (λ answers a.
      behind (RecordsIn answers.1) (AreSmall message) (several (record_at by_shape) (two_octets message 8) message answers.1) (from_authority questions answers) (records-step by_shape message below (two_octets message 8) answers.1 a.1) (λ authority u.
      behind (RecordsIn authority.1) (AreSmall message) (several (record_at by_shape) (two_octets message 10) message authority.1) (λ additional. Ok (all_sections questions answers authority additional)) (records-step by_shape message below (two_octets message 10) authority.1 u.1) (λ additional d.
      record { few = omega (arith, a.0, u.0, d.0); within = d.1 }))))

-- ---- updates

abbrev Fits : ℕ → Type 0
Fits size = size ≤ max_journal_octets

update-small : (message : List ℕ) → AreOctets message → 12 ≤ length message → length message ≤ 65535 → IfOk (update_of message) (λ update. Fits (entry_size (entries.Update update)))
update-small message below long few =
    behind (AreSmall message) (λ update. Fits (entry_size (entries.Update update))) (sections_of update_shape message) (λ sections. cond (eqb sections.end (length message)) (Ok (made sections)) (Err (wires.Trailing sections.end)))
    (sections-small update_shape message below long) (λ sections s. by sections s (eqb sections.end (length message)))
  where
    made : Sections → Update
    made sections = record { id = id_of message; zones = sections.questions; prereqs = sections.answers; changes = sections.authority }

    by : (sections : Sections) → AreSmall message sections → (b : Bool) → IfOk (cond {A = Result Update WireFault} b (Ok (made sections)) (Err (wires.Trailing sections.end))) (λ update. Fits (entry_size (entries.Update update)))
    by sections s true = omega (arith, s.few, s.within, few)
    by sections s false = tt

in-small : (message : List ℕ) → AreOctets message → IfOk (update_in message) (λ update. Fits (entry_size (entries.Update update)))
in-small message below = by (ltb (length message) header_octets) (ltb max_message (length message)) (is_response (flags_of message)) (not (opcode_of (flags_of message) == update_opcode)) refl refl
  where
    by : (short long response other : Bool) → ltb (length message) header_octets ≡ short → ltb max_message (length message) ≡ long
        → IfOk (cond {A = Result Update ℕ} (short || long || response || other) (Err formerr) (fault_as (λ _. formerr) (update_of message))) (λ update. Fits (entry_size (entries.Update update)))
    by true long response other s l = tt
    by false true response other s l = tt
    by false false true other s l = tt
    by false false false true s l = tt
    by false false false false s l =
        faulted (λ update. Fits (entry_size (entries.Update update))) (λ _. formerr) (update_of message) (update-small message below (ltb-false (length message) header_octets s) (ltb-false max_message (length message) l))

pub updates-fit : UpdatesFit
updates-fit message update below e = subst (λ r. IfOk r (λ update. Fits (entry_size (entries.Update update)))) e (in-small message below)

-- ---- hearings

-- the cache-flush bit has no size
heard-size : (rrs : List Rr) → sum_by (λ (h : HeardRr). rr_size h.rr) (map heard_rr rrs) ≡ sum_by rr_size rrs
heard-size [] = refl
heard-size (rr ∷ rrs) = sum_by-cons (λ (h : HeardRr). rr_size h.rr) (heard_rr rr) (map heard_rr rrs) ∙ ap (λ n. rr_size rr + n) (heard-size rrs) ∙ sym (sum_by-cons rr_size rr rrs)

heard-small : (link : ℕ) (datagram : List ℕ) → AreOctets datagram → 12 ≤ length datagram → length datagram ≤ 9000 → IfOk (entries_heard datagram) (λ hearing. Fits (entry_size (entries.Heard link hearing)))
heard-small link datagram below long few =
    behind (AreSmall datagram) (λ hearing. Fits (entry_size (entries.Heard link hearing))) (sections_of heard_shape datagram) (λ sections. Ok (record { rrs = map heard_rr (sections.answers ++ sections.additional) }))
    (sections-small heard_shape datagram below long) (λ sections s.
    omega (arith, s.few, s.within, few, heard-size (sections.answers ++ sections.additional), sum_by-append rr_size sections.answers sections.additional))

hearing-small : (link : ℕ) (datagram : List ℕ) → AreOctets datagram → IfOk (hearing_of datagram) (λ hearing. Fits (entry_size (entries.Heard link hearing)))
hearing-small link datagram below =
    by (ltb max_datagram (length datagram)) (ltb (length datagram) header_octets) (not (is_response (flags_of datagram))) (not (opcode_of (flags_of datagram) == 0 && rcode_of (flags_of datagram) == 0)) refl refl
  where
    by : (long short query coded : Bool) → ltb max_datagram (length datagram) ≡ long → ltb (length datagram) header_octets ≡ short
        → IfOk (cond {A = Result Hearing HearFault} long (Err hear.Long) (cond short (Err hear.Short) (cond query (Err hear.Query) (cond coded (Err hear.Coded) (fault_as hear.Wire (entries_heard datagram)))))) (λ hearing. Fits (entry_size (entries.Heard link hearing)))
    by true short query coded l s = tt
    by false true query coded l s = tt
    by false false true coded l s = tt
    by false false false true l s = tt
    by false false false false l s =
        faulted (λ hearing. Fits (entry_size (entries.Heard link hearing))) hear.Wire (entries_heard datagram) (heard-small link datagram below (ltb-false (length datagram) header_octets s) (ltb-false max_datagram (length datagram) l))

pub hearings-fit : HearingsFit
hearings-fit datagram link hearing below e = subst (λ r. IfOk r (λ hearing. Fits (entry_size (entries.Heard link hearing)))) e (hearing-small link datagram below)
