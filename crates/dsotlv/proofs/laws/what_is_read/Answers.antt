use Rattle.dsotlv.proofs.DsoLaws.{dso_found, dso_there}
use Rattle.dsotlv.proofs.FrameLaws.{frames_found, frames_there}
use Rattle.dsotlv.proofs.QuestionLaws.{question_spelled, question_there}
use Rattle.dsotlv.proofs.ReconfirmLaws.{reconfirm_spelled, reconfirm_there}
use Rattle.dsotlv.proofs.PushLaws.{push_spelled, push_read}
use Rattle.dsotlv.proofs.laws.what_is_read.Goals as goal

pub returns-clause-dso : goal.returns-clause-dso
returns-clause-dso c = λ text message below. (dso_found text message below, dso_there text message)

pub returns-clause-question : goal.returns-clause-question
returns-clause-question c = λ text question below. (question_spelled text question below, question_there text question)

pub returns-clause-reconfirm : goal.returns-clause-reconfirm
returns-clause-reconfirm c = λ text rr below. (reconfirm_spelled text rr below, reconfirm_there text rr)

pub returns-clause-push : goal.returns-clause-push
returns-clause-push c = λ text notices below. (push_spelled text notices below, push_read text notices)

pub returns-clause-frames : goal.returns-clause-frames
returns-clause-frames c = λ stream messages rest below. (frames_found stream messages rest below, frames_there stream messages rest)
