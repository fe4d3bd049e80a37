use Rattle.std.proofs.Common.{◌<◌, ◌++◌, [], List, length, get_or, sym, ap, ◌∙◌, arith, codes, string_bytes}
use Rattle.std.proofs.lemmas.List.{length-map, with_items_is}
use Rattle.scripts.specs.Words.{octets_text}
use Rattle.replay.specs.Text.{feeds}
use Rattle.replay.specs.declared.seats.Seat.{Seat}
use Rattle.replay.specs.LineCalls.{feed_calls, of_seat}
use Rattle.replay.specs.KeptWorlds.{seat_kept, seated, parties_of}
use Rattle.replay.specs.KeptFeeds.{HasFed, fed_seat, fed_text}
use Rattle.replay.proofs.worlds.Doing.{if_acts, two_parts}
use Rattle.replay.proofs.worlds.Seats.{calls-moved, is-there}
use Rattle.replay.proofs.worlds.FedDoing.{feeds-shut, feeds-open}
use Rattle.replay.proofs.feed_lines.feed_lines.Goals as goal

-- it has no connection
pub returns-then-not-is_connected_at : goal.returns-then-not-is_connected_at
returns-then-not-is_connected_at c =
    let w = c.args.word.now in
    let world = c.args.world.now in
    let seats = world.seats.items in
    let known = parties_of world in
    let place = c.args.client in
    let at = c.requires.at in
    let within : place < length (seated seats) = omega (arith, c.requires.within, length-map seats seat_kept) in
    let here = is-there (seated seats) place within in
    if_acts (feeds w c.args.octets.now) (of_seat (feed_calls c.args.octets.now) w) world.hub world.hub known known (codes "bytes " ++ two_parts w (octets_text [])) c.bytes_line.result
    (λ written is. feeds-shut world.hub known w c.args.octets.now place here.kept written at here.there
    (λ k seat there stands. sym c.if-not-is_connected_at.true ∙ c.is_connected_at.ensures k seat (there ∙ ap (λ (l : List Seat). get_or (seated l) place k) (sym c.deref.ensures.value)) stands) is) c.bytes_line.ensures

-- octets go in
pub returns : goal.returns
returns c =
    let w = c.args.word.now in
    let octets = c.args.octets.now in
    let world = c.args.world.now in
    let seats = world.seats.items in
    let known = parties_of world in
    let place = c.args.client in
    let fed = c.in_ok-fed.fed in
    let changed = c.feed_at.new.seats in
    let at = c.requires.at in
    let within : place < length (seated seats) = omega (arith, c.requires.within, length-map seats seat_kept) in
    let here = is-there (seated seats) place within in
    let calls = calls-moved (HasFed octets fed.octets.items fed.closing world.hub c.feed_at.new.hub) (fed_seat octets fed.closing) seats c.deref_mut.result.now changed _ place c.deref_mut.ensures.value
    (with_items_is world.seats changed (c.feed_at.auto.seats ∙ c.deref_mut.ensures.len)) c.in_ok-fed.ensures in
    if_acts (feeds w octets) (of_seat (feed_calls octets) w) world.hub c.feed_at.new.hub known _ (fed_text w fed.octets.items fed.closing) c.fed_lines.result
    (λ written is. feeds-open world.hub c.feed_at.new.hub known _ w octets fed.octets.items fed.closing place here.kept written at here.there
    (λ k seat there stands. sym c.if-not-is_connected_at.false ∙ c.is_connected_at.ensures k seat (there ∙ ap (λ (l : List Seat). get_or (seated l) place k) (sym c.deref.ensures.value)) stands) calls is) c.fed_lines.ensures
