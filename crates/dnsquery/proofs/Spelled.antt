-- Queries that are read are those that are spelled.
--     query-spelled, query-found
use Rattle.std.proofs.Common.{◌≡◌, ℕ, ◌<◌, ◌≤◌, Bool, true, false, cond, eqb, ◌&&◌, List, [], ◌∷◌, length, Result, Ok, Err, refl, sym, ap, subst, ◌∙◌, arith}
use Rattle.std.specs.List.{AllByRecursion}
use Rattle.std.proofs.lemmas.Bool.{eqb-true, eq-eqb}
use Rattle.push_base.specs.Cases.{fault_as}
use Rattle.rrset.specs.Header.{two_octets, id_of, flags_of}
use Rattle.rrset.specs.declared.record.Question.{Question}
use Rattle.dnswire.specs.Reading.{query_shape}
use Rattle.dnswire.specs.Spelling.{SpellsSections}
use Rattle.dnswire.specs.declared.section.Sections.{Sections}
use Rattle.dnswire.specs.declared.message.WireFault.{WireFault}
use Rattle.dnswire.specs.declared.message.WireFault.TheVariants.{Trailing}
use Rattle.dnswire.proofs.Entries.{done, done_as, done_then, same_done, then_done}
use Rattle.dnswire.proofs.Messages.{sections-found, sections-spelled}
use Rattle.dnsquery.specs.Queries.{entries_asked, query_in, query_of}
use Rattle.dnsquery.specs.Spelling.{IsQueryRequest, SpellsQuery}
use Rattle.dnsquery.specs.declared.query.Query.{Query}
use Rattle.dnsquery.specs.declared.query.QueryFault.{QueryFault}
use Rattle.dnsquery.specs.declared.query.QueryFault.TheVariants.{Counts, Wire}

abbrev by_counts : Bool → Bool → Bool → Result Query QueryFault → Result Query QueryFault
by_counts a b c r = cond (a && b && c) r (Err Counts)

all-passed : (a b c : Bool) (r : Result Query QueryFault) → a ≡ true → b ≡ true → c ≡ true → by_counts a b c r ≡ r
all-passed a b c r p q s = rw (p, q, s) refl

record Passed (a b c : Bool) (r : Result Query QueryFault) (query : Query) : Type 0 where
  first : a ≡ true
  second : b ≡ true
  third : c ≡ true
  read : r ≡ Ok query

passed : (a b c : Bool) (r : Result Query QueryFault) (query : Query) → by_counts a b c r ≡ Ok query → Passed a b c r query
passed false b c r query e = absurd cc
passed true false c r query e = absurd cc
passed true true false r query e = absurd cc
passed true true true r query e = record { first = refl; second = refl; third = refl; read = e }

pub query-spelled : (message : List ℕ) (query : Query) → SpellsQuery message query → query_of message ≡ Ok query
query-spelled message query s =
    let sections : Sections = record { questions = query.question ∷ []; answers = []; authority = []; additional = s.others; end = length message } in
    let entries : entries_asked message ≡ done query =
    then_done _ _ sections _ (sections-spelled query_shape message sections s.sections)
    (ap (λ (b : Bool). cond {A = Result Query WireFault} b (query_in message (query.question ∷ [])) (Err (Trailing (length message)))) (eq-eqb (length message) (length message) refl)
    ∙ (λ i. Ok (record { id = sym s.id i; flags = sym s.flags i; question = query.question }))) in
    all-passed (eqb (two_octets message 4) 1) (eqb (two_octets message 6) 0) (eqb (two_octets message 8) 0) (fault_as Wire (entries_asked message))
    (eq-eqb _ _ (sym s.sections.questions.0)) (eq-eqb _ _ (sym s.sections.answers.0)) (eq-eqb _ _ (sym s.sections.authority.0))
    ∙ ap (fault_as Wire) entries

to_the_end : (message : List ℕ) (place : ℕ) (r : Result Query WireFault) (query : Query) → cond {A = Result Query WireFault} (eqb place (length message)) r (Err (Trailing place)) ≡ done query
    → (place ≡ length message) × (r ≡ done query)
to_the_end message place r query e = by (eqb place (length message)) refl e
  where
    by : (b : Bool) → eqb place (length message) ≡ b → cond {A = Result Query WireFault} b r (Err (Trailing place)) ≡ done query → (place ≡ length message) × (r ≡ done query)
    by true t e = (eqb-true _ _ t, e)
    by false t e = absurd cc

no-length : {X : Type 0} (xs : List X) → length xs ≡ 0 → xs ≡ []
no-length [] e = refl
no-length (x ∷ xs) e = absurd cc

record IsOne (message : List ℕ) (questions : List Question) (query : Query) : Type 0 where
  is : questions ≡ query.question ∷ []
  id : query.id ≡ id_of message
  flags : query.flags ≡ flags_of message

one-in : (message : List ℕ) (questions : List Question) (query : Query) → length questions ≡ 1 → query_in message questions ≡ Ok query → IsOne message questions query
one-in message [] query long e = absurd cc
one-in message (q ∷ []) query long e =
    let same : record { id = id_of message; flags = flags_of message; question = q } ≡ query = same_done {E = WireFault} (record { id = id_of message; flags = flags_of message; question = q }) query e in
    record {
      is = ap (λ (x : Query). x.question ∷ []) same;
      id = sym (ap (λ (x : Query). x.id) same);
      flags = sym (ap (λ (x : Query). x.flags) same);
    }
one-in message (q ∷ r ∷ rs) query long e = absurd (omega (arith, long))

pub query-found : (message : List ℕ) (query : Query) → AllByRecursion (λ o. o < 256) message → 12 ≤ length message → IsQueryRequest message → query_of message ≡ Ok query → SpellsQuery message query
query-found message query below header request e =
    let t = passed (eqb (two_octets message 4) 1) (eqb (two_octets message 6) 0) (eqb (two_octets message 8) 0) (fault_as Wire (entries_asked message)) query e in
    let read = done_then {A = Sections} _ _ query (done_as Wire (entries_asked message) query t.read) in
    let there = sections-found query_shape message read.0 below read.1 in
    let end = to_the_end message read.0.end (query_in message read.0.questions) query read.2 in
    let one = one-in message read.0.questions query (there.questions.0 ∙ eqb-true _ _ t.first) end.1 in
    let answers = no-length read.0.answers (there.answers.0 ∙ eqb-true _ _ t.second) in
    let authority = no-length read.0.authority (there.authority.0 ∙ eqb-true _ _ t.third) in
    record {
      header = header;
      request = request;
      id = one.id;
      flags = one.flags;
      others = read.0.additional;
      sections = subst (SpellsSections query_shape message) (λ i. record { questions = one.is i; answers = answers i; authority = authority i; additional = read.0.additional; end = end.0 i }) there;
    }
