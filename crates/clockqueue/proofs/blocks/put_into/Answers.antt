use Rattle.clockqueue.proofs.Sizes.{put-into}
use Rattle.clockqueue.proofs.blocks.put_into.Goals as goal

pub returns-clause-items : goal.returns-clause-items
returns-clause-items g c = put-into c.args.blocks.now c.args.len c.args.number c.args.entry c.insert.new.self c.index-blocks-place.result c.requires.hole c.requires.within c.insert.ensures
