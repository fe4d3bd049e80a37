-- A question that data spells is what is read, and what is read is spelled.
use Rattle.std.proofs.Common.{◌≡◌, ℕ, ◌+◌, ◌<◌, ◌≤◌, ◌^◌, eqb, List, [], ◌++◌, length, drop, refl, sym, ap, subst, ◌∙◌, append_assoc, arith}
use Rattle.std.specs.Bool.{IsTrue}
use Rattle.std.specs.Int.{w16, to_be_bytes}
use Rattle.std.proofs.lemmas.Bool.{eqb-true, eq-eqb}
use Rattle.std.proofs.lemmas.List.{append-nil, length-append, length-drop}
use Rattle.push_base.specs.Cases.{◌>>=◌, fault_as}
use Rattle.dnsname.specs.Names.{octets, is_name}
use Rattle.dnsname.specs.Reading.{plain_name_at, place_of}
use Rattle.dnsname.proofs.Decisions.{is_name-Decides}
use Rattle.dnsname.proofs.FoundNames.{plain_name_at-found}
use Rattle.dnsname.proofs.PlainReading.{plain_name_at-name}
use Rattle.rrset.specs.declared.record.Question.{Question}
use Rattle.dsotlv.specs.Notices.{field_at, question_first, question_of}
use Rattle.dsotlv.specs.Spelling.{SpellsQuestionData}
use Rattle.dsotlv.specs.Laws.{AreOctets}
use Rattle.dsotlv.specs.declared.message.PushFault.TheVariants.{Data}
use Rattle.dsotlv.proofs.Results.{done, found, same_done, bind_done, fault_as_done, result_ok_done, then_done}
use Rattle.dsotlv.proofs.Numbers.{drop_next, nothing, room, two_there, two_below, below_everywhere}
use Rattle.dsotlv.proofs.Fields.{two_field_read, two_field_done}

-- ---- names

-- a name without pointers that stands at a place, and what stands behind it
pub record NameStands (text : List ℕ) (at : ℕ) (name : List (List ℕ)) (after : ℕ) : Type 0 where
  pub is : IsTrue (is_name name)
  pub whole : drop at text ≡ octets name ++ drop after text
  pub after_is : after ≡ at + length (octets name)
  pub within : after ≤ length text

pub name_read : (text : List ℕ) (at after : ℕ) (name : List (List ℕ)) (rest : List ℕ) → IsTrue (is_name name) → drop at text ≡ octets name ++ rest → after ≡ at + length (octets name) → plain_name_at text at ≡ done (name, after)
name_read text at after name rest is e place = plain_name_at-name text at after name (record { is_name = (is_name-Decides name).0 is; spelled = (rest, e); ends = place })

pub name_found : (text : List ℕ) (at after : ℕ) (name : List (List ℕ)) → AreOctets text → at ≤ length text → plain_name_at text at ≡ done (name, after) → NameStands text at name after
name_found text at after name below within e =
    let stands = plain_name_at-found text at after name (λ i h. below_everywhere text below i) e in
    let behind : drop after text ≡ stands.spelled.0 = drop_next text at after (octets name) stands.spelled.0 stands.spelled.1 stands.ends in
    record {
      is = (is_name-Decides name).1 stands.is_name;
      whole = stands.spelled.1 ∙ ap (λ (xs : List ℕ). octets name ++ xs) (sym behind);
      after_is = stands.ends;
      within = omega (arith, room text at (octets name) stands.spelled.0 stands.spelled.1, stands.ends, within);
    }

-- ---- questions

-- a question that data begins with
pub record QuestionStands (text : List ℕ) (question : Question) (after : ℕ) : Type 0 where
  pub name : IsTrue (is_name question.name)
  pub kind : question.kind < 2 ^ 16
  pub class : question.class < 2 ^ 16
  pub whole : text ≡ octets question.name ++ (to_be_bytes w16 question.kind ++ (to_be_bytes w16 question.class ++ drop after text))
  pub after_is : after ≡ length (octets question.name) + 4
  pub within : after ≤ length text

pub question_read : (text : List ℕ) (question : Question) (rest : List ℕ) → IsTrue (is_name question.name) → question.kind < 2 ^ 16 → question.class < 2 ^ 16
    → text ≡ octets question.name ++ (to_be_bytes w16 question.kind ++ (to_be_bytes w16 question.class ++ rest)) → question_first text ≡ done (question, length (octets question.name) + 4)
question_read text question rest is kind class e =
    let place = length (octets question.name) in
    let behind : drop place text ≡ to_be_bytes w16 question.kind ++ (to_be_bytes w16 question.class ++ rest) = drop_next text 0 place (octets question.name) _ e (omega arith) in
    let last : drop (place + 2) text ≡ to_be_bytes w16 question.class ++ rest = drop_next text place (place + 2) (to_be_bytes w16 question.kind) _ behind refl in
    rw (name_read text 0 place question.name _ is e (omega arith))
    (rw (two_field_read question.kind text place (to_be_bytes w16 question.class ++ rest) kind behind)
    (rw (two_field_read question.class text (place + 2) rest class last) refl))

pub question_found : (text : List ℕ) (question : Question) (after : ℕ) → AreOctets text → question_first text ≡ done (question, after) → QuestionStands text question after
question_found text question after below e =
    let first = bind_done (fault_as (λ f. Data (place_of f)) (plain_name_at text 0)) _ (question, after) e in
    let name = first.0.0 in
    let place = first.0.1 in
    let name_stands = name_found text 0 place name below (omega arith) (fault_as_done (λ f. Data (place_of f)) (plain_name_at text 0) first.0 first.1) in
    let second = bind_done (field_at w16 text place) _ (question, after) first.2 in
    let kind = two_field_done text place second.0 second.1 in
    let third = bind_done (field_at w16 text (place + 2)) _ (question, after) second.2 in
    let class = two_field_done text (place + 2) third.0 third.1 in
    let read : Question = record { name = name; kind = second.0; class = third.0 } in
    let both = same_done (read, place + 4) (question, after) third.2 in
    let behind : drop place text ≡ to_be_bytes w16 second.0 ++ drop (place + 2) text = two_there text place (place + 2) below kind.0 refl ∙ ap (λ (n : ℕ). to_be_bytes w16 n ++ drop (place + 2) text) kind.1 in
    let last : drop (place + 2) text ≡ to_be_bytes w16 third.0 ++ drop (place + 4) text = two_there text (place + 2) (place + 4) below class.0 (omega arith) ∙ ap (λ (n : ℕ). to_be_bytes w16 n ++ drop (place + 4) text) class.1 in
    let is : QuestionStands text read (place + 4) = record {
      name = name_stands.is;
      kind = subst (λ (n : ℕ). n < 2 ^ 16) kind.1 (two_below text place below);
      class = subst (λ (n : ℕ). n < 2 ^ 16) class.1 (two_below text (place + 2) below);
      whole = name_stands.whole ∙ ap (λ (xs : List ℕ). octets name ++ xs) (behind ∙ ap (λ (xs : List ℕ). to_be_bytes w16 second.0 ++ xs) last);
      after_is = omega (arith, name_stands.after_is);
      within = omega (arith, class.0);
    } in
    subst (λ (x : Question × ℕ). QuestionStands text x.0 x.1) both is

-- ---- the whole data

pub question_there : (text : List ℕ) (question : Question) → SpellsQuestionData text question → question_of text ≡ found question
question_there text question spelled =
    let name = octets question.name in
    let kind = to_be_bytes w16 question.kind in
    let class = to_be_bytes w16 question.class in
    let whole : text ≡ name ++ (kind ++ (class ++ [])) = spelled.whole ∙ append_assoc name kind class ∙ ap (λ (xs : List ℕ). name ++ (kind ++ xs)) (sym (append-nil class)) in
    let size : length name + 4 ≡ length text = omega (arith, ap length whole, length-append name (kind ++ (class ++ []))) in
    rw (question_read text question [] spelled.name spelled.kind spelled.class whole) (rw (eq-eqb (length name + 4) (length text) size, ◌>>=◌) refl)

pub question_spelled : (text : List ℕ) (question : Question) → AreOctets text → question_of text ≡ found question → SpellsQuestionData text question
question_spelled text question below e =
    let first = bind_done (question_first text) _ question (result_ok_done _ question e) in
    let test = then_done (eqb first.0.1 (length text)) (Data first.0.1) (done first.0.0) question first.2 in
    let stands = question_found text first.0.0 first.0.1 below first.1 in
    let is : first.0.0 ≡ question = same_done first.0.0 question test.1 in
    let ends : first.0.1 ≡ length text = eqb-true first.0.1 (length text) test.0 in
    let none : drop first.0.1 text ≡ [] = nothing (drop first.0.1 text) (omega (arith, length-drop first.0.1 text, ends)) in
    let q = first.0.0 in
    let spelled : SpellsQuestionData text q = record {
      name = stands.name;
      kind = stands.kind;
      class = stands.class;
      whole = stands.whole ∙ ap (λ (xs : List ℕ). octets q.name ++ (to_be_bytes w16 q.kind ++ (to_be_bytes w16 q.class ++ xs))) none ∙ ap (λ (xs : List ℕ). octets q.name ++ (to_be_bytes w16 q.kind ++ xs)) (append-nil (to_be_bytes w16 q.class)) ∙ sym (append_assoc (octets q.name) (to_be_bytes w16 q.kind) (to_be_bytes w16 q.class));
    } in
    subst (SpellsQuestionData text) is spelled
