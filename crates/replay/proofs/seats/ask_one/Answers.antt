use Rattle.std.proofs.Common.{◌≡◌, ◌∙◌, ap, subst, string_bytes}
use Rattle.rrset.specs.declared.record.Question.{Question}
use Rattle.pushclient.specs.Rule.{StandsFor}
use Rattle.replay.specs.Text.{asked_words, subscribing}
use Rattle.replay.specs.KeptWorlds.{seat_kept}
use Rattle.replay.proofs.worlds.Seats.{stays-makes}
use Rattle.replay.proofs.seats.ask_one.Goals as goal

pub returns : goal.returns
returns c =
    let q = c.args.question.now in
    let new = c.subscribe.new.self in
    let answer = string_bytes c.in_ok-answer.answer in
    stays-makes (λ p. answer ≡ (subscribing q p).0) (λ p. (subscribing q p).1) (seat_kept c.args.seat.now) new
    (λ plain s. subst (λ (x : Question). (answer ≡ (subscribing x plain).0) × StandsFor new (subscribing x plain).1) c.in_ok-question.ensures
    (let made = c.in_ok-asked.ensures.ok plain s in (c.in_ok-answer.ensures ∙ ap asked_words made.0, made.1)))
