use Rattle.pushserver.proofs.laws.kept_hubs_count.Goals as goal

pub returns : goal.returns
returns c = record { counts = λ k hub stands. (stands.past.counts_are, stands.numbers_given) }
