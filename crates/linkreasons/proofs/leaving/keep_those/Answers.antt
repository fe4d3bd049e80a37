use Rattle.std.proofs.Common.{List, not, sym, ap, ◌∙◌}
use Rattle.std.specs.Prelude.{filter, position, ◌==◌}
use Rattle.subscr.specs.Asked.{has}
use Rattle.linkreasons.specs.AllReasons.{with_those}
use Rattle.linkreasons.specs.Changing.{all_gone}
use Rattle.linkreasons.specs.declared.reason.Reason.{Reason}
use Rattle.linkreasons.proofs.ManyLinks.{Sessions}
use Rattle.linkreasons.proofs.Seats.{gone-seat, no-seat, set-seat}
use Rattle.linkreasons.proofs.leaving.keep_those.Goals as goal

pub returns-in_default-clause-sessions : goal.returns-in_default-clause-sessions
returns-in_default-clause-sessions c =
    let none = no-seat c.args.number c.args.sessions.now.items (c.in_default.ensures ∙ ap (λ (s : Sessions). position (λ e. e.0 == c.args.number) s) c.deref.ensures.value) in
    sym (none.left (with_those c.args.asked.now))

pub returns-in_default-clause-links : goal.returns-in_default-clause-links
returns-in_default-clause-links c =
    let none = no-seat c.args.number c.args.sessions.now.items (c.in_default.ensures ∙ ap (λ (s : Sessions). position (λ e. e.0 == c.args.number) s) c.deref.ensures.value) in
    ap (λ (rs : List Reason). all_gone rs c.args.links.now.items) (sym (none.gone (λ rs. filter (λ r. not (has r.id c.args.asked.now)) rs)))

pub returns-clause-sessions : goal.returns-clause-sessions
returns-clause-sessions c =
    let at = c.in-Some.ensures ∙ ap (λ (s : Sessions). position (λ e. e.0 == c.args.number) s) c.deref.ensures.value in
    set-seat c.args.number c.args.sessions.now.items c.in-Some.place c.index_mut.result.now c.requires at c.index_mut.ensures.value (with_those c.args.asked.now) c.keep.new.self c.keep.ensures

pub returns-clause-links : goal.returns-clause-links
returns-clause-links c =
    let at = c.in-Some.ensures ∙ ap (λ (s : Sessions). position (λ e. e.0 == c.args.number) s) c.deref.ensures.value in
    c.drop_others.ensures
    ∙ ap (λ (rs : List Reason). all_gone (filter (λ r. not (has r.id c.args.asked.now)) rs) c.args.links.now.items) c.as_slice.ensures
    ∙ ap (λ (rs : List Reason). all_gone rs c.args.links.now.items)
    (gone-seat c.args.number c.args.sessions.now.items c.in-Some.place c.index.result.now c.requires at c.index.ensures (λ rs. filter (λ r. not (has r.id c.args.asked.now)) rs))
