-- Two questions that are one with a third are one.
use Rattle.std.proofs.Common.{◌≡◌, true, ◌&&◌, ◌==◌, refl, sym, ◌∙◌}
use Rattle.std.proofs.lemmas.Bool.{eqb-true, eq-eqb}
use Rattle.dnsname.specs.Names.{same_name}
use Rattle.dnsname.proofs.Decisions.{and_true, same_name-Decides}
use Rattle.rrset.specs.Records.{same_question}
use Rattle.rrset.specs.declared.record.Question.{Question}

pub one_question : (a b c : Question) → same_question a c ≡ true → same_question b c ≡ true → same_question a b ≡ true
one_question a b c first second =
    let f = and_true (same_name a.name c.name && a.kind == c.kind) (a.class == c.class) first in
    let g = and_true (same_name b.name c.name && b.kind == c.kind) (b.class == c.class) second in
    let p = and_true (same_name a.name c.name) (a.kind == c.kind) f.0 in
    let q = and_true (same_name b.name c.name) (b.kind == c.kind) g.0 in
    let names : same_name a.name b.name ≡ true = (same_name-Decides a.name b.name).1 ((same_name-Decides a.name c.name).0 p.0 ∙ sym ((same_name-Decides b.name c.name).0 q.0)) in
    let kinds : (a.kind == b.kind) ≡ true = eq-eqb a.kind b.kind (eqb-true a.kind c.kind p.1 ∙ sym (eqb-true b.kind c.kind q.1)) in
    let classes : (a.class == b.class) ≡ true = eq-eqb a.class b.class (eqb-true a.class c.class f.1 ∙ sym (eqb-true b.class c.class g.1)) in
    rw (names, kinds, classes) refl
