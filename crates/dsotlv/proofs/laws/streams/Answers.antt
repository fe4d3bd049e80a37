use Rattle.dsotlv.proofs.StreamLaws.{cut_anywhere, all_pieces, one_by_one, none_found, whole_stays, long_is_whole, frames_again}
use Rattle.dsotlv.proofs.laws.streams.Goals as goal

pub returns-clause-cut : goal.returns-clause-cut
returns-clause-cut c = cut_anywhere

pub returns-clause-pieces : goal.returns-clause-pieces
returns-clause-pieces c = all_pieces

pub returns-clause-one : goal.returns-clause-one
returns-clause-one c = one_by_one

pub returns-clause-none : goal.returns-clause-none
returns-clause-none c = none_found

pub returns-clause-stays : goal.returns-clause-stays
returns-clause-stays c = whole_stays

pub returns-clause-long : goal.returns-clause-long
returns-clause-long c = long_is_whole

pub returns-clause-frames : goal.returns-clause-frames
returns-clause-frames c = frames_again
