use Rattle.std.proofs.Common.{◌++◌, ◌∷◌, [], codes, refl, subst, sym, ◌∙◌}
use Rattle.replay.specs.Text.{exchanges, sends}
use Rattle.replay.specs.LineCalls.{exchanges_calls, send_calls}
use Rattle.replay.specs.KeptWorlds.{Named, Acts, parties_of, named}
use Rattle.replay.proofs.worlds.Doing.{is_err, if_acts, if_then, sends-known, sends-new, sends-refused}
use Rattle.replay.proofs.worlds.Naming.{named-push}
use Rattle.replay.proofs.event_lines.send_lines.Goals as goal

pub returns-in-Some : goal.returns-in-Some
returns-in-Some c =
    let known = parties_of c.args.world.now in
    let hub = c.args.world.now.hub in
    let w = c.args.word.now in
    let later = c.exchange_lines.new.world.hub in
    let known_later = parties_of c.exchange_lines.new.world in
    if_then (exchanges w c.in-Some.session c.args.octets.now) (sends w c.args.octets.now) (exchanges_calls w c.in-Some.session c.args.octets.now) (send_calls w c.args.octets.now) hub hub later known known known_later c.exchange_lines.result
    (λ written does. sends-known hub later known known_later w c.in-Some.session c.args.octets.now written (sym c.session.ensures ∙ c.in-Some.is) does) c.exchange_lines.ensures

pub returns-in_ok-push-in-Ok : goal.returns-in_ok-push-in-Ok
returns-in_ok-push-in-Ok c =
    let peers = c.args.world.now.peers.items in
    let known = parties_of c.args.world.now in
    let hub = c.args.world.now.hub in
    let w = c.args.word.now in
    let n = c.in-Ok.session in
    let known_then = record known { peers = named c.push.new.self.items } in
    let later = c.exchange_lines-in-Ok.new.world.hub in
    let known_later = parties_of c.exchange_lines-in-Ok.new.world in
    let pushed = named-push peers c.push.new.self.items (record { word = c.in_ok-from_str-in-Ok.field-0; session = n }) w n c.in_ok-push-in-Ok.ensures.items c.in_ok-from_str-in-Ok.ensures.ok refl in
    if_then (exchanges w n c.args.octets.now) (sends w c.args.octets.now) (exchanges_calls w n c.args.octets.now) (send_calls w c.args.octets.now) c.connect.new.self hub later known_then known known_later c.exchange_lines-in-Ok.result
    (λ written does. sends-new hub c.connect.new.self later known known_later w n c.args.octets.now written (sym c.session.ensures ∙ c.in_default.is) c.in-Ok.ensures.ok c.in-Ok.ensures.asking
    (subst (λ (k : Named). Acts (exchanges w n c.args.octets.now) (exchanges_calls w n c.args.octets.now) c.connect.new.self (record known { peers = k }) written later known_later) pushed does)) c.exchange_lines-in-Ok.ensures

pub returns-in-Err-NoSeat : goal.returns-in-Err-NoSeat
returns-in-Err-NoSeat c =
    let known = parties_of c.args.world.now in
    let hub = c.args.world.now.hub in
    let w = c.args.word.now in
    if_acts (sends w c.args.octets.now) (send_calls w c.args.octets.now) hub c.connect.new.self known known (codes "noseat " ++ (w ++ 10 ∷ [])) c.noseat_text.result
    (λ written is. sends-refused hub c.connect.new.self known w c.args.octets.now written (sym c.session.ensures ∙ c.in_default.is) (c.in-Err-NoSeat.ensures.no_seat (is_err _ _ c.in-Err-NoSeat.field-0-is)) c.in-Err-NoSeat.ensures.asking is) c.noseat_text.ensures
