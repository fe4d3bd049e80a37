use Rattle.std.proofs.Common.{List, [], sym, ap, ◌∙◌}
use Rattle.std.specs.Prelude.{position, ◌==◌}
use Rattle.linkreasons.specs.Changing.{all_gone}
use Rattle.linkreasons.specs.declared.reason.Reason.{Reason}
use Rattle.linkreasons.proofs.ManyLinks.{Sessions}
use Rattle.linkreasons.proofs.Seats.{gone-seat, no-seat, set-seat}
use Rattle.linkreasons.proofs.leaving.clear_all.Goals as goal

pub returns-in_default-clause-sessions : goal.returns-in_default-clause-sessions
returns-in_default-clause-sessions c =
    let none = no-seat c.args.number c.args.sessions.now.items (c.in_default.ensures ∙ ap (λ (s : Sessions). position (λ e. e.0 == c.args.number) s) c.deref.ensures.value) in
    sym (none.left (λ _. []))

pub returns-in_default-clause-links : goal.returns-in_default-clause-links
returns-in_default-clause-links c =
    let none = no-seat c.args.number c.args.sessions.now.items (c.in_default.ensures ∙ ap (λ (s : Sessions). position (λ e. e.0 == c.args.number) s) c.deref.ensures.value) in
    ap (λ (rs : List Reason). all_gone rs c.args.links.now.items) (sym (none.gone (λ rs. rs)))

pub returns-clause-sessions : goal.returns-clause-sessions
returns-clause-sessions c =
    let at = c.in-Some.ensures ∙ ap (λ (s : Sessions). position (λ e. e.0 == c.args.number) s) c.deref.ensures.value in
    set-seat c.args.number c.args.sessions.now.items c.in-Some.place c.index_mut.result.now c.requires at c.index_mut.ensures.value (λ _. []) c.clear.new.self c.clear.ensures

pub returns-clause-links : goal.returns-clause-links
returns-clause-links c =
    let at = c.in-Some.ensures ∙ ap (λ (s : Sessions). position (λ e. e.0 == c.args.number) s) c.deref.ensures.value in
    c.drop_all.ensures
    ∙ ap (λ (rs : List Reason). all_gone rs c.args.links.now.items)
    (c.as_slice.ensures ∙ gone-seat c.args.number c.args.sessions.now.items c.in-Some.place c.index.result.now c.requires at c.index.ensures (λ rs. rs))
