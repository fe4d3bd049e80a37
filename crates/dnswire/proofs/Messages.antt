-- Messages that are read are those that are spelled.
use Rattle.std.proofs.Common.{◌≡◌, ℕ, zero, suc, ◌<◌, ◌≤◌, Bool, true, false, cond, eqb, ltb, not, ◌&&◌, List, [], ◌∷◌, length, Result, Ok, Err, refl, sym, ap, subst, ◌∙◌}
use Rattle.std.specs.List.{AllByRecursion}
use Rattle.std.proofs.lemmas.Bool.{eqb-true, eq-eqb, ltb-false, le-ltb}
use Rattle.push_base.specs.Cases.{fault_as}
use Rattle.rrset.specs.Header.{two_octets, id_of, flags_of, is_response, opcode_of, rcode_of}
use Rattle.rrset.specs.declared.record.Rr.{Rr}
use Rattle.rrset.specs.declared.record.Question.{Question}
use Rattle.rrset.specs.declared.record.Hearing.{Hearing}
use Rattle.dnswire.specs.declared.section.Sections.{Sections}
use Rattle.dnswire.specs.declared.message.Update.{Update}
use Rattle.dnswire.specs.declared.message.WireFault.{WireFault}
use Rattle.dnswire.specs.declared.message.WireFault.TheVariants.{Trailing}
use Rattle.dnswire.specs.declared.message.HearFault.{HearFault}
use Rattle.dnswire.specs.declared.message.HearFault.TheVariants as hear
use Rattle.dnswire.specs.Spelling.{SpellsQuestion, SpellsRecord, SpellsSeveral, SpellsSection, SpellsSections, IsUpdateRequest, SpellsUpdate, SpellsHearing}
use Rattle.dnswire.specs.Reading.{several, question_at, record_at, sections_of, update_shape, heard_shape, update_of, entries_heard, hearing_of}
use Rattle.dnswire.proofs.Entries.{done, then_done, done_then, done_as, same_done, question-spelled, question-found, record-spelled, record-found}

-- ---- entries one behind the other

abbrev Reader : Type 0 → Type 0
Reader X = List ℕ → ℕ → Result (X × ℕ) WireFault

several-spelled : {X : Type 0} (read : Reader X) (spells : List ℕ → ℕ → X → ℕ → Type 0) (message : List ℕ) → ((at : ℕ) (x : X) (after : ℕ) → spells message at x after → read message at ≡ done (x, after))
    → (xs : List X) (at after : ℕ) → SpellsSeveral spells message at xs after → several read (length xs) message at ≡ done (xs, after)
several-spelled {X} read spells message each [] at after s = ap (λ (p : ℕ). done ([], p)) (sym s)
several-spelled {X} read spells message each (x ∷ xs) at after (next, first, others) =
    then_done _ _ (x, next) _ (each at x next first) (then_done _ _ (xs, after) _ (several-spelled read spells message each xs next after others) refl)

several-found : {X : Type 0} (read : Reader X) (spells : List ℕ → ℕ → X → ℕ → Type 0) (message : List ℕ) → ((at : ℕ) (found : X × ℕ) → read message at ≡ done found → spells message at found.0 found.1)
    → (n at : ℕ) (found : List X × ℕ) → several read n message at ≡ done found → (length found.0 ≡ n) × SpellsSeveral spells message at found.0 found.1
several-found {X} read spells message each zero at found e =
    let same = same_done _ found e in
    subst (λ (x : List X × ℕ). (length x.0 ≡ 0) × SpellsSeveral spells message at x.0 x.1) same (refl, refl)
several-found {X} read spells message each (suc n) at found e =
    let first = done_then {A = X × ℕ} _ _ found e in
    let others = done_then {A = List X × ℕ} _ _ found first.2 in
    let same = same_done _ found others.2 in
    let first-is = each at first.0 first.1 in
    let others-are = several-found read spells message each n first.0.1 others.0 others.1 in
    subst (λ (x : List X × ℕ). (length x.0 ≡ suc n) × SpellsSeveral spells message at x.0 x.1) same (ap (λ (k : ℕ). suc k) others-are.0, (first.0.1, first-is, others-are.1))

section-spelled : {X : Type 0} (read : Reader X) (spells : List ℕ → ℕ → X → ℕ → Type 0) (message : List ℕ) → ((at : ℕ) (x : X) (after : ℕ) → spells message at x after → read message at ≡ done (x, after))
    → (count at : ℕ) (xs : List X) (after : ℕ) → SpellsSection spells message count at xs after → several read (two_octets message count) message at ≡ done (xs, after)
section-spelled read spells message each count at xs after s = ap (λ (n : ℕ). several read n message at) (sym s.0) ∙ several-spelled read spells message each xs at after s.1

-- ---- the four sections

questions-spelled : (message : List ℕ) (count at : ℕ) (xs : List Question) (after : ℕ) → SpellsSection SpellsQuestion message count at xs after → several question_at (two_octets message count) message at ≡ done (xs, after)
questions-spelled message = section-spelled question_at SpellsQuestion message (question-spelled message)

records-spelled : (test : ℕ → ℕ → Bool) (message : List ℕ) (count at : ℕ) (xs : List Rr) (after : ℕ) → SpellsSection (SpellsRecord test) message count at xs after → several (record_at test) (two_octets message count) message at ≡ done (xs, after)
records-spelled test message = section-spelled (record_at test) (SpellsRecord test) message (record-spelled test message)

questions-found : (message : List ℕ) → AllByRecursion (λ o. o < 256) message → (count at : ℕ) (found : List Question × ℕ) → several question_at (two_octets message count) message at ≡ done found → SpellsSection SpellsQuestion message count at found.0 found.1
questions-found message below count at found e = several-found question_at SpellsQuestion message (question-found message below) (two_octets message count) at found e

records-found : (test : ℕ → ℕ → Bool) (message : List ℕ) → AllByRecursion (λ o. o < 256) message → (count at : ℕ) (found : List Rr × ℕ) → several (record_at test) (two_octets message count) message at ≡ done found → SpellsSection (SpellsRecord test) message count at found.0 found.1
records-found test message below count at found e = several-found (record_at test) (SpellsRecord test) message (record-found test message below) (two_octets message count) at found e

pub sections-spelled : (test : ℕ → ℕ → Bool) (message : List ℕ) (sections : Sections) → SpellsSections test message sections → sections_of test message ≡ done sections
sections-spelled test message sections s =
    then_done _ _ (sections.questions, s.questions_end) _ (questions-spelled message 4 12 sections.questions s.questions_end s.questions)
    (then_done _ _ (sections.answers, s.answers_end) _ (records-spelled test message 6 s.questions_end sections.answers s.answers_end s.answers)
    (then_done _ _ (sections.authority, s.authority_end) _ (records-spelled test message 8 s.answers_end sections.authority s.authority_end s.authority)
    (then_done _ _ (sections.additional, sections.end) _ (records-spelled test message 10 s.authority_end sections.additional sections.end s.additional) refl)))

pub sections-found : (test : ℕ → ℕ → Bool) (message : List ℕ) (sections : Sections) → AllByRecursion (λ o. o < 256) message → sections_of test message ≡ done sections → SpellsSections test message sections
sections-found test message sections below e =
    let questions = done_then {A = List Question × ℕ} _ _ sections e in
    let answers = done_then {A = List Rr × ℕ} _ _ sections questions.2 in
    let authority = done_then {A = List Rr × ℕ} _ _ sections answers.2 in
    let additional = done_then {A = List Rr × ℕ} _ _ sections authority.2 in
    subst (SpellsSections test message) (same_done _ sections additional.2) (record {
      questions_end = questions.0.1;
      answers_end = answers.0.1;
      authority_end = authority.0.1;
      questions = questions-found message below 4 12 questions.0 questions.1;
      answers = records-found test message below 6 questions.0.1 answers.0 answers.1;
      authority = records-found test message below 8 answers.0.1 authority.0 authority.1;
      additional = records-found test message below 10 authority.0.1 additional.0 additional.1;
    })

-- ---- updates

pub update-spelled : (message : List ℕ) (update : Update) → SpellsUpdate message update → update_of message ≡ Ok update
update-spelled message update s =
    let sections : Sections = record { questions = update.zones; answers = update.prereqs; authority = update.changes; additional = s.others; end = length message } in
    let whole : eqb (length message) (length message) ≡ true = eq-eqb _ _ refl in
    then_done _ _ sections _ (sections-spelled update_shape message sections s.sections)
    (ap (λ (b : Bool). cond {A = Result Update WireFault} b (Ok (record { id = id_of message; zones = update.zones; prereqs = update.prereqs; changes = update.changes })) (Err (Trailing (length message)))) whole
    ∙ ap (λ (n : ℕ). Ok (record { id = n; zones = update.zones; prereqs = update.prereqs; changes = update.changes })) (sym s.id))

to_the_end : (message : List ℕ) (place : ℕ) (made update : Update) → cond {A = Result Update WireFault} (eqb place (length message)) (Ok made) (Err (Trailing place)) ≡ done update → (place ≡ length message) × (made ≡ update)
to_the_end message place made update e = by_test (eqb place (length message)) refl e
  where
    by_test : (b : Bool) → eqb place (length message) ≡ b → cond {A = Result Update WireFault} b (Ok made) (Err (Trailing place)) ≡ done update → (place ≡ length message) × (made ≡ update)
    by_test true t e = (eqb-true _ _ t, same_done made update e)
    by_test false t e = absurd cc

pub update-found : (message : List ℕ) (update : Update) → AllByRecursion (λ o. o < 256) message → 12 ≤ length message → IsUpdateRequest message → update_of message ≡ Ok update → SpellsUpdate message update
update-found message update below header request e =
    let read = done_then {A = Sections} _ _ update e in
    let there = sections-found update_shape message read.0 below read.1 in
    let end = to_the_end message read.0.end _ update read.2 in
    subst (SpellsUpdate message) end.1 (record {
      header = header;
      request = request;
      id = refl;
      others = read.0.additional;
      sections = subst (λ (n : ℕ). SpellsSections update_shape message (record read.0 { end = n })) end.0 there;
    })

-- ---- hearings

abbrev after_tests : Bool → Bool → Bool → Bool → Bool → Result Hearing HearFault → Result Hearing HearFault
after_tests long short response opcode rcode r =
    cond long (Err hear.Long) (cond short (Err hear.Short) (cond (not response) (Err hear.Query) (cond (not (opcode && rcode)) (Err hear.Coded) r)))

tests_passed : (long short response opcode rcode : Bool) (r : Result Hearing HearFault) → long ≡ false → short ≡ false → response ≡ true → opcode ≡ true → rcode ≡ true → after_tests long short response opcode rcode r ≡ r
tests_passed long short response opcode rcode r a b c d e = rw (a, b, c, d, e) refl

record Passed (long short response opcode rcode : Bool) (r : Result Hearing HearFault) (hearing : Hearing) : Type 0 where
  pub long_is : long ≡ false
  pub short_is : short ≡ false
  pub response_is : response ≡ true
  pub opcode_is : opcode ≡ true
  pub rcode_is : rcode ≡ true
  pub read : r ≡ done hearing

passed : (long short response opcode rcode : Bool) (r : Result Hearing HearFault) (hearing : Hearing) → after_tests long short response opcode rcode r ≡ done hearing → Passed long short response opcode rcode r hearing
passed true short response opcode rcode r hearing e = absurd cc
passed false true response opcode rcode r hearing e = absurd cc
passed false false false opcode rcode r hearing e = absurd cc
passed false false true false rcode r hearing e = absurd cc
passed false false true true false r hearing e = absurd cc
passed false false true true true r hearing e = record { long_is = refl; short_is = refl; response_is = refl; opcode_is = refl; rcode_is = refl; read = e }

pub hearing-spelled : (datagram : List ℕ) (hearing : Hearing) → SpellsHearing datagram hearing → hearing_of datagram ≡ Ok hearing
hearing-spelled datagram hearing s =
    let entries : entries_heard datagram ≡ done hearing =
    then_done _ _ s.sections _ (sections-spelled heard_shape datagram s.sections s.spelled) (ap (λ rrs. Ok (record { rrs = rrs })) (sym s.used)) in
    let flags = flags_of datagram in
    tests_passed (ltb 9000 (length datagram)) (ltb (length datagram) 12) (is_response flags) (eqb (opcode_of flags) 0) (eqb (rcode_of flags) 0) _
    (le-ltb _ _ s.header.1) (le-ltb _ _ s.header.0) s.response (eq-eqb _ _ s.plain.0) (eq-eqb _ _ s.plain.1)
    ∙ ap (fault_as hear.Wire) entries

pub hearing-found : (datagram : List ℕ) (hearing : Hearing) → AllByRecursion (λ o. o < 256) datagram → hearing_of datagram ≡ Ok hearing → SpellsHearing datagram hearing
hearing-found datagram hearing below e =
    let flags = flags_of datagram in
    let tests = passed (ltb 9000 (length datagram)) (ltb (length datagram) 12) (is_response flags) (eqb (opcode_of flags) 0) (eqb (rcode_of flags) 0) _ hearing e in
    let entries = done_as hear.Wire (entries_heard datagram) hearing tests.read in
    let read = done_then {A = Sections} _ _ hearing entries in
    subst (SpellsHearing datagram) (same_done _ hearing read.2) (record {
      header = (ltb-false _ _ tests.short_is, ltb-false _ _ tests.long_is);
      response = tests.response_is;
      plain = (eqb-true _ _ tests.opcode_is, eqb-true _ _ tests.rcode_is);
      sections = read.0;
      spelled = sections-found heard_shape datagram read.0 below read.1;
      used = refl;
    })
