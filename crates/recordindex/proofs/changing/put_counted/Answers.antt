use Rattle.std.proofs.Common.{◌∷◌, sym, subst, ◌∙◌}
use Rattle.dnsname.specs.Names.{Labels}
use Rattle.recordindex.specs.Endings.{AreCounted, room_of, HasRoomFor as HasPlacesFor}
use Rattle.recordindex.specs.Owners.{owners_in}
use Rattle.recordindex.proofs.OwnerChanges.{owners-again, owners-new}
use Rattle.recordindex.proofs.changing.put_counted.Goals as goal

pub returns-then-put_in_room-clause-owners : goal.returns-then-put_in_room-clause-owners
returns-then-put_in_room-clause-owners g c =
    owners-again c.args.suffixes.now c.args.key c.args.shown c.args.index.now.rows c.put_in_room.new.index.rows c.tell_order.ensures.order (sym c.put_in_room.ensures.found ∙ c.if-put_in_room.true)
    c.requires.owners c.put_in_room.ensures.rows

pub put-requires : goal.put-requires
put-requires g c = record {
  room = subst (λ (name : Labels). HasPlacesFor name (room_of c.args.suffixes.now.kept)) (sym c.requires.same) c.requires.places;
  few = c.requires.few;
}

pub returns-clause-owners : goal.returns-clause-owners
returns-clause-owners g c =
    owners-new c.put.new.self c.args.key c.args.shown c.args.index.now.rows c.put_in_room.new.index.rows (sym c.put_in_room.ensures.found ∙ c.if-put_in_room.false)
    (subst (λ (o : Labels). AreCounted (o ∷ owners_in c.args.index.now.rows) c.put.new.self) c.requires.same (c.put.ensures.owners (owners_in c.args.index.now.rows) c.requires.owners))
    c.put_in_room.ensures.rows
