use Rattle.std.proofs.Common.{◌≡◌, ◌∙◌, ap, string_bytes}
use Rattle.replay.specs.Text.{reconfirming, yes_or_no}
use Rattle.replay.specs.KeptWorlds.{seat_kept}
use Rattle.replay.proofs.worlds.Seats.{stays-makes}
use Rattle.replay.proofs.seats.reconfirm_one.Goals as goal

pub returns : goal.returns
returns c =
    let rr = c.args.rr.now in
    let answer = string_bytes c.in_ok-answer.answer in
    stays-makes (λ p. answer ≡ (reconfirming rr p).0) (λ p. (reconfirming rr p).1) (seat_kept c.args.seat.now) c.reconfirm.new.self
    (λ plain s. (let made = c.in_ok-said.ensures.ok plain s in (c.in_ok-answer.ensures ∙ ap yes_or_no made.0, made.1)))
