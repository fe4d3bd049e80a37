use Rattle.linkreasons.proofs.Following.{anew_commutes, anew_wants, fewer_then_fewer, follows_reasons, none_goes, reasons_wanted}
use Rattle.linkreasons.proofs.laws.reasons_are_followed.Goals as goal

pub returns-clause-follows : goal.returns-clause-follows
returns-clause-follows c = follows_reasons

pub returns-clause-fewer : goal.returns-clause-fewer
returns-clause-fewer c = fewer_then_fewer

pub returns-clause-none : goal.returns-clause-none
returns-clause-none c = none_goes

pub returns-clause-wanted : goal.returns-clause-wanted
returns-clause-wanted c = reasons_wanted

pub returns-clause-anew : goal.returns-clause-anew
returns-clause-anew c = anew_commutes

pub returns-clause-same : goal.returns-clause-same
returns-clause-same c = anew_wants
