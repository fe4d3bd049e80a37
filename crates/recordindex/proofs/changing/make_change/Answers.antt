use Rattle.std.proofs.Common.{List, [], subst}
use Rattle.rrset.specs.declared.record.Key.{Key}
use Rattle.nametable.specs.Nodes.{HasRoomFor, keys_put}
use Rattle.nametable.proofs.KeyRoom.{keys_put-some, keys_put-none}
use Rattle.recordindex.proofs.changing.make_change.Goals as goal

pub put_key-requires-clause-room : goal.put_key-requires-clause-room
put_key-requires-clause-room g c =
    subst (λ (ks : List Key). HasRoomFor ks c.args.index.now.nodes) (keys_put-some c.args.change [] c.in-Some.shown c.in-Some.is) c.requires.room

pub returns-in-Some-clause-left : goal.returns-in-Some-clause-left
returns-in-Some-clause-left g c = λ others room.
    c.put_key.ensures.left (keys_put others) (subst (λ (ks : List Key). HasRoomFor ks c.args.index.now.nodes) (keys_put-some c.args.change others c.in-Some.shown c.in-Some.is) room)

pub returns-clause-left : goal.returns-clause-left
returns-clause-left g c = λ others room.
    c.take_out.ensures.left (keys_put others) (subst (λ (ks : List Key). HasRoomFor ks c.args.index.now.nodes) (keys_put-none c.args.change others c.in-None.is) room)
