use Rattle.std.proofs.Common.{◌≡◌, ℕ, ◌-◌, length, min, Some, ap, subst, ◌∙◌, arith}
use Rattle.replay.specs.PassedOctets.{max_wire}
use Rattle.replay.specs.KeptExchanges.{Emits}
use Rattle.replay.specs.KeptWorlds.{seat_kept}
use Rattle.replay.proofs.passings.Passings.{emit-passes, room_on}
use Rattle.replay.proofs.settling.emit_down.Goals as goal

pub returns : goal.returns
returns c =
    let wire = c.args.seat.now.down_wire.items in
    let before : c.len-before.result ≡ length wire = grind arith in
    let behind : c.len.result ≡ length c.emit.new.octets.items = grind arith in
    let room : c.room_on-room.result ≡ room_on c.args.most wire = c.room_on-room.ensures ∙ ap (λ (n : ℕ). min c.args.most (max_wire - n)) before in
    emit-passes c.args.most c.args.hub.now c.emit.new.hub c.args.session (seat_kept c.args.seat.now) c.saturating_sub.result c.emit.new.octets.items c.emit.new.filled.items c.in_ok-emission.emission
    (subst (λ (n : ℕ). Emits n c.args.hub.now c.args.session wire (Some c.args.seat.now.filled.items) c.emit.new.hub c.emit.new.octets.items (Some c.emit.new.filled.items) c.in_ok-emission.emission) room c.in_ok-emission.ensures)
    (c.saturating_sub.ensures ∙ (λ i. behind i - before i))
