-- A record that the data of a RECONFIRM spells is what is read, and what is read is spelled.
use Rattle.std.proofs.Common.{◌≡◌, ℕ, ◌+◌, ◌++◌, List, length, drop, refl, sym, ap, subst, ◌∙◌, append_assoc, arith}
use Rattle.std.specs.Int.{w16, to_be_bytes}
use Rattle.push_base.specs.Cases.{◌>>=◌}
use Rattle.dnsname.specs.Names.{octets}
use Rattle.rrset.specs.declared.record.Question.{Question}
use Rattle.rrset.specs.declared.record.Rr.{Rr}
use Rattle.dsotlv.specs.Notices.{question_first, reconfirm_of}
use Rattle.dsotlv.specs.Spelling.{SpellsReconfirm}
use Rattle.dsotlv.specs.Laws.{AreOctets}
use Rattle.dsotlv.proofs.Results.{found, same_done, bind_done, result_ok_done}
use Rattle.dsotlv.proofs.Numbers.{drop_next}
use Rattle.dsotlv.proofs.QuestionLaws.{question_read, question_found}

-- the record that a question and rdata are
abbrev asked : Question → List ℕ → Rr
asked question rdata = record { owner = question.name; class = question.class; kind = question.kind; ttl = 0; rdata = rdata }

pub reconfirm_there : (text : List ℕ) (rr : Rr) → SpellsReconfirm text rr → reconfirm_of text ≡ found rr
reconfirm_there text rr spelled =
    let question : Question = record { name = rr.owner; kind = rr.kind; class = rr.class } in
    let name = octets rr.owner in
    let kind = to_be_bytes w16 rr.kind in
    let class = to_be_bytes w16 rr.class in
    let whole : text ≡ name ++ (kind ++ (class ++ rr.rdata)) = spelled.whole ∙ simp append_assoc refl in
    let place = length name in
    let first : drop place text ≡ kind ++ (class ++ rr.rdata) = drop_next text 0 place name (kind ++ (class ++ rr.rdata)) whole (omega arith) in
    let rest : drop (place + 4) text ≡ rr.rdata = drop_next text place (place + 4) (kind ++ class) rr.rdata first (omega arith) in
    let ttl = spelled.ttl in
    let is : asked question (drop (place + 4) text) ≡ rr = λ i. record { owner = rr.owner; class = rr.class; kind = rr.kind; ttl = sym ttl i; rdata = rest i } in
    rw (question_read text question rr.rdata spelled.owner spelled.kind spelled.class whole, ◌>>=◌) (ap (λ (r : Rr). found r) is)

pub reconfirm_spelled : (text : List ℕ) (rr : Rr) → AreOctets text → reconfirm_of text ≡ found rr → SpellsReconfirm text rr
reconfirm_spelled text rr below e =
    let first = bind_done (question_first text) _ rr (result_ok_done _ rr e) in
    let q = first.0.0 in
    let rdata = drop first.0.1 text in
    let stands = question_found text q first.0.1 below first.1 in
    let is : asked q rdata ≡ rr = same_done (asked q rdata) rr first.2 in
    let spelled : SpellsReconfirm text (asked q rdata) = record {
      owner = stands.name;
      kind = stands.kind;
      class = stands.class;
      ttl = refl;
      whole = stands.whole ∙ sym (simp append_assoc refl);
    } in
    subst (SpellsReconfirm text) is spelled
