use Rattle.std.proofs.Common.{List, [], subst}
use Rattle.rrset.specs.declared.record.Key.{Key}
use Rattle.nametable.specs.Nodes.{HasRoomFor}
use Rattle.linkcache.specs.Plans.{keys_put}
use Rattle.linkcache.proofs.PlanRoom.{keys_put-some, keys_put-none}
use Rattle.linkcache.proofs.apply_plan.change_row.Goals as goal

pub put_in_room-requires-clause-room : goal.put_in_room-requires-clause-room
put_in_room-requires-clause-room c =
    subst (λ (ks : List Key). HasRoomFor ks c.args.rows.now.nodes) (keys_put-some c.args.change [] c.in-Some.row c.in-Some.is) c.requires.room

pub returns-in-Some-clause-left : goal.returns-in-Some-clause-left
returns-in-Some-clause-left c = λ others room.
    c.put_in_room.ensures.left (keys_put others) (subst (λ (ks : List Key). HasRoomFor ks c.args.rows.now.nodes) (keys_put-some c.args.change others c.in-Some.row c.in-Some.is) room)

pub returns-in-None-clause-left : goal.returns-in-None-clause-left
returns-in-None-clause-left c = λ others room.
    c.remove.ensures.left (keys_put others) (subst (λ (ks : List Key). HasRoomFor ks c.args.rows.now.nodes) (keys_put-none c.args.change others c.in-None.is) room)
