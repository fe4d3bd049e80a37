use Rattle.std.proofs.Common.{List, sym, ap, ◌∙◌}
use Rattle.std.specs.Prelude.{option_to_list, position, ◌==◌}
use Rattle.linkreasons.specs.AllReasons.{but_last}
use Rattle.linkreasons.specs.Changing.{all_gone, last_of}
use Rattle.linkreasons.specs.declared.reason.Reason.{Reason}
use Rattle.linkreasons.proofs.ManyLinks.{Sessions}
use Rattle.linkreasons.proofs.Seats.{gone-seat, no-seat, set-seat}
use Rattle.linkreasons.proofs.leaving.take_back_last.Goals as goal

pub returns-in_default-clause-sessions : goal.returns-in_default-clause-sessions
returns-in_default-clause-sessions c =
    let none = no-seat c.args.number c.args.sessions.now.items (c.in_default.ensures ∙ ap (λ (s : Sessions). position (λ e. e.0 == c.args.number) s) c.deref.ensures.value) in
    sym (none.left but_last)

pub returns-in_default-clause-links : goal.returns-in_default-clause-links
returns-in_default-clause-links c =
    let none = no-seat c.args.number c.args.sessions.now.items (c.in_default.ensures ∙ ap (λ (s : Sessions). position (λ e. e.0 == c.args.number) s) c.deref.ensures.value) in
    ap (λ (rs : List Reason). all_gone rs c.args.links.now.items) (sym (none.gone last_of))

pub returns-in-Some-pop-clause-sessions : goal.returns-in-Some-pop-clause-sessions
returns-in-Some-pop-clause-sessions c =
    let at = c.in-Some.ensures ∙ ap (λ (s : Sessions). position (λ e. e.0 == c.args.number) s) c.deref.ensures.value in
    set-seat c.args.number c.args.sessions.now.items c.in-Some.place c.index_mut.result.now c.requires at c.index_mut.ensures.value but_last c.pop.new.self c.pop.ensures.left

pub returns-in-Some-pop-clause-links : goal.returns-in-Some-pop-clause-links
returns-in-Some-pop-clause-links c =
    let at = c.in-Some.ensures ∙ ap (λ (s : Sessions). position (λ e. e.0 == c.args.number) s) c.deref.ensures.value in
    c.drop_one.ensures
    ∙ ap (λ (rs : List Reason). all_gone rs c.args.links.now.items)
    (sym (ap option_to_list c.in-Some-pop.is) ∙ c.pop.ensures.last ∙ gone-seat c.args.number c.args.sessions.now.items c.in-Some.place c.index_mut.result.now c.requires at c.index_mut.ensures.value last_of)

pub returns-in_default-pop-clause-sessions : goal.returns-in_default-pop-clause-sessions
returns-in_default-pop-clause-sessions c =
    let at = c.in-Some.ensures ∙ ap (λ (s : Sessions). position (λ e. e.0 == c.args.number) s) c.deref.ensures.value in
    set-seat c.args.number c.args.sessions.now.items c.in-Some.place c.index_mut.result.now c.requires at c.index_mut.ensures.value but_last c.pop.new.self c.pop.ensures.left

pub returns-in_default-pop-clause-links : goal.returns-in_default-pop-clause-links
returns-in_default-pop-clause-links c =
    let at = c.in-Some.ensures ∙ ap (λ (s : Sessions). position (λ e. e.0 == c.args.number) s) c.deref.ensures.value in
    ap (λ (rs : List Reason). all_gone rs c.args.links.now.items)
    (sym (ap option_to_list c.in_default-pop.is) ∙ c.pop.ensures.last ∙ gone-seat c.args.number c.args.sessions.now.items c.in-Some.place c.index_mut.result.now c.requires at c.index_mut.ensures.value last_of)
