-- One session after the other is asked.
use Rattle.std.proofs.Common.{ℕ, ◌+◌, ◌∷◌, drop, sym, ap, ◌∙◌}
use Rattle.std.proofs.lemmas.List.{drop_more, drop_all}
use Rattle.pushsession.specs.Kept.{KeptSession}
use Rattle.livesessions.specs.Behind.{needed_by}
use Rattle.livesessions.proofs.behind.needed_by.Goals as goal

pub sessions-preserved : goal.sessions-preserved
sessions-preserved c =
    ap (λ n. needed_by c.args.floor n (drop (c.sessions.entry-index + 1) c.args.numbered.now)) c.needed_with-needed.ensures
    ∙ ap (needed_by c.args.floor c.sessions.needed)
    (sym (drop_more c.args.numbered.now c.sessions.entry-index c.entry-item.result c.sessions-test.true ∙ ap (λ (d : ℕ × KeptSession). d ∷ drop (c.sessions.entry-index + 1) c.args.numbered.now) (sym c.entry-item.is)))
    ∙ c.sessions.invariant

pub returns : goal.returns
returns c = ap (needed_by c.args.floor c.sessions.needed) (sym (drop_all c.sessions.entry-index c.args.numbered.now c.sessions-test.false)) ∙ c.sessions.invariant
