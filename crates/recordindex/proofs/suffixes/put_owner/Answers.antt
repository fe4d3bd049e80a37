use Rattle.std.proofs.Common.{◌+◌, ◌≤◌, ℕ, ◌∷◌, List, length, get_or, sym, subst, ap, ◌∙◌, arith}
use Rattle.recordindex.specs.Endings.{HasRoomFrom, IsLeft, Lacks, above_of, names_above, room_of}
use Rattle.recordindex.proofs.Keeping.{above-few, lacks-above}
use Rattle.recordindex.proofs.Using.{left-above-name, room-above-owner, within-name}
use Rattle.recordindex.proofs.suffixes.put_owner.Goals as goal

pub above-requires : goal.above-requires
above-requires c = subst (λ (o : List ℕ). get_or o 0 0 + 1 ≤ length o) (sym c.octets.ensures.octets) (within-name c.args.owner.now)

pub raise-requires : goal.raise-requires
raise-requires c =
    let over = c.above.ensures ∙ ap above_of c.octets.ensures.octets in
    record {
      left = subst IsLeft (sym over) (left-above-name c.args.owner.now);
      room = subst (λ (o : List ℕ). HasRoomFrom o (room_of c.args.endings.now.entries)) (sym over) (room-above-owner c.args.owner.now (room_of c.args.endings.now.entries) c.requires.room);
      few = omega (arith, c.len.ensures.len, c.len.ensures.small);
    }

pub returns-clause-counts : goal.returns-clause-counts
returns-clause-counts c = λ owners few agrees.
    let over = c.above.ensures ∙ ap above_of c.octets.ensures.octets in
    c.raise.ensures.counts (names_above (c.args.owner.now ∷ owners)) (omega (arith, few, above-few (c.args.owner.now ∷ owners)))
    (subst (λ (o : List ℕ). Lacks o (names_above (c.args.owner.now ∷ owners)) c.args.endings.now.entries) (sym over) (lacks-above c.args.owner.now owners c.args.endings.now.entries agrees))
