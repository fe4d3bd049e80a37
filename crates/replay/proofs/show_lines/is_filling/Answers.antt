use Rattle.std.proofs.Common.{ℕ, List, sym, ap, ◌∙◌}
use Rattle.inflight.specs.Ends.{told_end}
use Rattle.replay.specs.KeptWorlds.{seat_kept}
use Rattle.replay.proofs.shows.SeatShows.{filling-unasked, filling-untold, filling-told}
use Rattle.replay.proofs.show_lines.is_filling.Goals as goal

pub returns-in-None : goal.returns-in-None
returns-in-None c = filling-unasked (seat_kept c.args.seat.now) c.args.question.now (λ plain s. sym c.in-None.is ∙ c.id_of.ensures plain s)

pub returns-in-None-told_end : goal.returns-in-None-told_end
returns-in-None-told_end c =
    let id = c.in-Some.id in
    filling-untold (seat_kept c.args.seat.now) c.args.question.now id (λ plain s. sym c.in-Some.is ∙ c.id_of.ensures plain s)
    (sym c.in-None-told_end.is ∙ c.told_end.ensures ∙ ap (λ (l : List (ℕ × ℕ)). told_end l id) c.deref.ensures.value)

pub returns-in-Some-told_end : goal.returns-in-Some-told_end
returns-in-Some-told_end c =
    let id = c.in-Some.id in
    filling-told (seat_kept c.args.seat.now) c.args.question.now id (λ plain s. sym c.in-Some.is ∙ c.id_of.ensures plain s) c.in-Some-told_end.end
    (sym c.in-Some-told_end.is ∙ c.told_end.ensures ∙ ap (λ (l : List (ℕ × ℕ)). told_end l id) c.deref.ensures.value)
