use Rattle.std.proofs.Common.{Some, ◌++◌, length, subst, ap, ◌∙◌, sym}
use Rattle.push_base.specs.Line.{octets_of, EndsAtEnd}
use Rattle.push_base.specs.Items.{first_octets}
use Rattle.push_base.specs.LineSupply.{given_octets, left_octets, after_receiving}
use Rattle.push_base.proofs.LineSupplyLemmas.{given_for, left_for, end_for}
use Rattle.push_base.proofs.mem_line.MemLineLine.recv.Goals as goal

pub returns-clause-given : goal.returns-clause-given
returns-clause-given c =
    let s = c.self.inside.items in
    let room = length c.args.buf.now in
    let gave = c.receive.ensures.octets ∙ ap (λ got. octets_of got (first_octets s.left)) c.receive.ensures.answer in
    ap Some (
    ap given_octets c.receive.ensures.after
    ∙ given_for room s.left s
    ∙ ap (λ l. given_octets s ++ l) (sym gave)
    ∙ ap (λ v. given_octets v.items ++ octets_of c.receive.result c.receive.new.buf) c.self.view_is
    )

pub returns-clause-left : goal.returns-clause-left
returns-clause-left c =
    let s = c.self.inside.items in
    let room = length c.args.buf.now in
    let gave = c.receive.ensures.octets ∙ ap (λ got. octets_of got (first_octets s.left)) c.receive.ensures.answer in (
      ap Some (
          sym (ap (λ v. left_octets v.items) c.self.view_is)
          ∙ left_for room s.left s (λ _. s.left)
          ∙ ap (λ l. l ++ left_octets (after_receiving room s)) (sym gave)
          ∙ ap (λ v. octets_of c.receive.result c.receive.new.buf ++ left_octets v) (sym c.receive.ensures.after)
          ),
      subst (λ v. EndsAtEnd (Some (left_octets v)) c.receive.result) (sym c.receive.ensures.after)
          (subst (λ got. EndsAtEnd (Some (left_octets (after_receiving room s))) got) (sym c.receive.ensures.answer) (end_for room s.left s (λ _. s.left))),
    )
