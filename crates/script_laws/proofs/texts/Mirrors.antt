-- The sets of the clients that ran a script are the history's records.
--     all-as-history      of clients that stand for those of a world that stands
--     mirrors-of-history      of a hub and clients that stand for those behind the last line
--     replays-mirror      of what a replay hands back
use Rattle.std.proofs.Common.{List, [], ◌∷◌, Some, sym, ◌∙◌, ap, append-nil}
use Rattle.std.specs.List.{AllByRecursion, AllZip}
use Rattle.pushclient.specs.Rule.{KeptClient}
use Rattle.scripts.specs.Lines.{ScriptLine}
use Rattle.replay.specs.World.{World, Seat, start_world}
use Rattle.replay.specs.TextWords.{ShowTold, by_history, by_notices}
use Rattle.replay.specs.Text.{world_after}
use Rattle.replay.specs.Promises.{ClientStandsFor}
use Rattle.replay.proofs.OneHub.{one-leaves}
use Rattle.script_laws.specs.Lines.{AreLines}
use Rattle.script_laws.specs.Reached.{ReachedSessions}
use Rattle.script_laws.specs.Joined.{ShownToEach, SeatStands, WorldStands}
use Rattle.script_laws.specs.Whole.{StandsAfterEachLine, shown_by}
use Rattle.script_laws.specs.Throughout.{AreMirrorsOfHistory, ReplaysMirrorHistory}
use Rattle.script_laws.proofs.Reading.{are-lines}
use Rattle.script_laws.proofs.texts.Shows.{shows-alike}

module _ (sessions : ReachedSessions) where
  module _ (shown : ShownToEach) (world : World) (stands : WorldStands shown world) where
    as-history : (kept : KeptClient) (seat : Seat) → SeatStands world.hub (shown seat.word) seat → ClientStandsFor by_notices world kept seat → ClientStandsFor by_history world kept seat
    as-history kept seat holds h = record {
      wishes = h.wishes;
      connection = h.connection;
      now = h.now;
      sets = λ question is. h.sets question is ∙ ap (λ (t : ShowTold). Some t.1) (sym (shows-alike sessions world (shown seat.word) seat question stands.reached holds));
    }

    pub all-as-history : (clients : List KeptClient) (seats : List Seat) → AllByRecursion (λ s. SeatStands world.hub (shown s.word) s) seats → AllZip (ClientStandsFor by_notices world) clients seats
        → AllZip (ClientStandsFor by_history world) clients seats
    all-as-history [] [] holds h = tt
    all-as-history [] (s ∷ ss) holds h = absurd h
    all-as-history (k ∷ ks) [] holds h = absurd h
    all-as-history (k ∷ ks) (s ∷ ss) holds h = (as-history k s holds.0 h.0, all-as-history ks ss holds.1 h.1)

  module _ (stand : StandsAfterEachLine) where
    pub mirrors-of-history : (script : List ScriptLine) → AreLines script → AreMirrorsOfHistory script
    mirrors-of-history script are kept clients h =
        let start = start_world script in
        let world = world_after script start in
        let stands : WorldStands (shown_by script start) world = stand script script [] are (sym (append-nil script)) in
        record { hub = h.hub; seats = all-as-history (shown_by script start) world stands clients world.seats stands.seats h.seats }

    pub replays-mirror : ReplaysMirrorHistory
    replays-mirror octets ends script are read = mirrors-of-history script (are-lines octets script read) ends.hub.hub ends.clients.items (one-leaves octets ends script are read).1
