use Rattle.std.proofs.Common.{ℕ, List, ap, ◌∙◌, arith}
use Rattle.std.specs.Prelude.{nat_lt}
use Rattle.std.specs.List.{position_or_len}
use Rattle.subscr.specs.Watching.{are_rising}
use Rattle.subscr.proofs.Counts.{place-le, rising-placed}
use Rattle.subscr.proofs.sessions.put_in.Goals as goal

pub insert-requires : goal.insert-requires
insert-requires c =
    let many = c.args.numbers.now.ok.0 in
    let within = place-le c.args.session c.args.numbers.now.items c.place_for-place.result
    (c.place_for-place.ensures ∙ ap (λ (l : List ℕ). position_or_len (λ n. nat_lt c.args.session n) l) c.deref.ensures.value) in
    omega (arith, many, within)

pub returns-clause-rising : goal.returns-clause-rising
returns-clause-rising c =
    ap are_rising c.in_ok-insert.ensures.items
    ∙ rising-placed c.args.session c.args.numbers.now.items c.place_for-place.result
    (c.place_for-place.ensures ∙ ap (λ (l : List ℕ). position_or_len (λ n. nat_lt c.args.session n) l) c.deref.ensures.value) c.requires.rising c.requires.new
