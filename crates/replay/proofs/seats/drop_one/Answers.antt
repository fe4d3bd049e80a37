use Rattle.std.proofs.Common.{◌≡◌, ◌∙◌, ap, string_bytes}
use Rattle.replay.specs.Text.{unsubscribing, yes_or_no}
use Rattle.replay.specs.KeptWorlds.{seat_kept}
use Rattle.replay.proofs.worlds.Seats.{stays-makes}
use Rattle.replay.proofs.seats.drop_one.Goals as goal

pub returns : goal.returns
returns c =
    let q = c.args.question.now in
    let answer = string_bytes c.in_ok-answer.answer in
    stays-makes (λ p. answer ≡ (unsubscribing q p).0) (λ p. (unsubscribing q p).1) (seat_kept c.args.seat.now) c.unsubscribe.new.self
    (λ plain s. (let made = c.in_ok-wanted.ensures.ok plain s in (c.in_ok-answer.ensures ∙ ap yes_or_no made.0, made.1)))
