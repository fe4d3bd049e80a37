use Rattle.std.proofs.Common.{List, ap, subst}
use Rattle.coalesce.specs.Laws.{all_notices}
use Rattle.coalesce.specs.Sides.{frame_octets}
use Rattle.coalesce.specs.Waiting.{CanBePacked, names_waiting, nets_in, asked_net, waiting_of}
use Rattle.coalesce.proofs.Entries.{Entry}
use Rattle.coalesce.proofs.Turns.{append_room}
use Rattle.coalesce.proofs.push_front.append_names.Goals as goal

pub append_to-requires-clause-sides : goal.append_to-requires-clause-sides
append_to-requires-clause-sides g c = (subst (λ (q : List Entry). CanBePacked c.args.index.now.rows (names_waiting q)) c.in-Some.ensures.parts c.names.invariant.can).0

pub append_to-requires-clause-room : goal.append_to-requires-clause-room
append_to-requires-clause-room g c =
    let nets = λ (q : List Entry). nets_in c.args.questions.now c.args.index.now.rows (names_waiting q) in
    append_room c.names.out c.args.out.now (asked_net c.args.questions.now c.args.index.now.rows (waiting_of (c.in-Some.name.now, c.in-Some.waiting.now))) (all_notices (nets c.in-Some.after)) (all_notices (nets c.names.rest)) (all_notices (nets c.args.names)) frame_octets
    (ap (λ (q : List Entry). all_notices (nets q)) c.in-Some.ensures.parts) c.requires.room c.names.invariant.written
