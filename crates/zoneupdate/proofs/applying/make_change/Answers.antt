use Rattle.std.proofs.Common.{List, [], subst}
use Rattle.rrset.specs.declared.record.Key.{Key}
use Rattle.nametable.specs.Nodes.{HasRoomFor, keys_put}
use Rattle.nametable.proofs.KeyRoom.{keys_put-some, keys_put-none}
use Rattle.zoneupdate.proofs.applying.make_change.Goals as goal

pub put_in_room-requires-clause-room : goal.put_in_room-requires-clause-room
put_in_room-requires-clause-room c =
    subst (λ (ks : List Key). HasRoomFor ks c.args.rows.now.nodes) (keys_put-some c.args.change [] c.in-Some.shown c.in-Some.is) c.requires.room

pub returns-in-Some-clause-left : goal.returns-in-Some-clause-left
returns-in-Some-clause-left c = λ others room.
    c.put_in_room.ensures.left (keys_put others) (subst (λ (ks : List Key). HasRoomFor ks c.args.rows.now.nodes) (keys_put-some c.args.change others c.in-Some.shown c.in-Some.is) room)

pub returns-clause-left : goal.returns-clause-left
returns-clause-left c = λ others room.
    c.remove.ensures.left (keys_put others) (subst (λ (ks : List Key). HasRoomFor ks c.args.rows.now.nodes) (keys_put-none c.args.change others c.in-None.is) room)
