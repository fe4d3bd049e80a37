use Rattle.pushclient.proofs.Fitting.{meets-the-first, takes-what-fits, only-delay-closes, closes-on-stranger, closes-on-early}
use Rattle.pushclient.proofs.laws_of_steps.clients_take_what_fits.Goals as goal

pub returns-clause-first : goal.returns-clause-first
returns-clause-first c = meets-the-first

pub returns-clause-taken : goal.returns-clause-taken
returns-clause-taken c = takes-what-fits

pub returns-clause-only_delay : goal.returns-clause-only_delay
returns-clause-only_delay c = only-delay-closes

pub returns-clause-stranger : goal.returns-clause-stranger
returns-clause-stranger c = closes-on-stranger

pub returns-clause-early : goal.returns-clause-early
returns-clause-early c = closes-on-early
