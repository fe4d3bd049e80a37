-- What holds throughout a script of two hubs, put together.
--     worlds-alike      the worlds behind some lines are one, told from the history or from the notices taken
--     relays-truly      all of it
--     whole-replays-mirror      what a replay hands back
use Rattle.std.proofs.Common.{◌≡◌, ℕ, List, [], ◌∷◌, refl, ap, sym, subst, ◌∙◌, append-nil}
use Rattle.std.specs.Prelude.{IfSome}
use Rattle.std.specs.List.{AllZip}
use Rattle.scripts.specs.WholeLines.{WholeLine}
use Rattle.scripts.specs.WholeScripts.{near_lines, near_lines_from}
use Rattle.pushserver.specs.KeptHubs.{StandsFor}
use Rattle.replay.specs.KeptEnds.{AreEnds}
use Rattle.replay.specs.Promises.{ClientStandsFor, EndsStandFor}
use Rattle.replay.specs.Text.{world_after}
use Rattle.replay.specs.TextWords.{by_history, by_notices}
use Rattle.replay.specs.TwoWorlds.{Worlds, start_worlds, lines_do, worlds_after, far_lines_after, woven}
use Rattle.replay.specs.World.{start_world}
use Rattle.script_laws.proofs.Scripts.{stands-after}
use Rattle.script_laws.proofs.Throughout.{lines-hold-throughout}
use Rattle.script_laws.proofs.hubs.Sessions.{reached-sessions}
use Rattle.script_laws.proofs.texts.Mirrors.{mirrors-of-history, all-as-history}
use Rattle.two_hubs.specs.Relaying.{far_lines, AreHalves, EveryScriptRelays, WholeReplaysMirror}
use Rattle.two_hubs.proofs.Halved.{halves, near-lines}
use Rattle.two_hubs.proofs.FarHalf.{far-lines}
use Rattle.two_hubs.proofs.FarStarts.{far-starts}
use Rattle.two_hubs.proofs.Standing.{StandAlong}
use Rattle.two_hubs.proofs.WorldsAlong.{IsStanding, far-stands}
use Rattle.two_hubs.proofs.Telling.{lines-alike, near-along, far-along}
use Rattle.two_hubs.proofs.Answering.{carries-answer}
use Rattle.two_hubs.proofs.Rising.{carries-rise}
use Rattle.two_hubs.proofs.Showing.{shows-carried, never-earlier, newest-is-carried}
use Rattle.two_hubs.proofs.WholeReading.{are-whole-lines}
use Rattle.two_hubs.proofs.Written.{carries-written}

worlds-alike : (lines : List WholeLine) (worlds : Worlds) → StandAlong (near_lines_from worlds.fars lines) worlds.near → StandAlong (far_lines_after by_history lines worlds) worlds.far → worlds_after by_notices lines worlds ≡ worlds_after by_history lines worlds
worlds-alike [] worlds near far = refl
worlds-alike (line ∷ lines) worlds near far =
    let here : lines_do by_history line worlds ≡ lines_do by_notices line worlds = lines-alike line worlds near.0 far.0 in
    ap (λ (p : Worlds × List (List ℕ)). worlds_after by_notices lines p.0) (sym here) ∙ worlds-alike lines (lines_do by_history line worlds).0 near.1 far.1

are-halves : (script : List WholeLine) → AreHalves script
are-halves script before after split =
    let h = halves before (start_worlds script) in
    (h.0, h.1 ∙ ap (world_after (far_lines_after by_history before (start_worlds script))) (sym (far-starts by_history script)))

pub relays-truly : EveryScriptRelays
relays-truly octets script read =
    let are = are-whole-lines octets script read in
    record {
      near = lines-hold-throughout (near_lines script) (near-lines script are);
      far = lines-hold-throughout (far_lines script) (far-lines script are (carries-written script are));
      halves = are-halves script;
      answers = carries-answer script are;
      rise = carries-rise script are;
      shows = shows-carried script are;
      never = never-earlier script are;
      newest = newest-is-carried script are;
    }

pub whole-replays-mirror : WholeReplaysMirror
unfolding AreEnds
whole-replays-mirror octets ends script leaves read =
    let are = are-whole-lines octets script read in
    let all = (leaves script read).0 in
    let start : Worlds = start_worlds script in
    let behind : Worlds = worlds_after by_history script start in
    let near = near-along script are in
    let far = far-along script are (carries-written script are) in
    let same : worlds_after by_notices script start ≡ behind = worlds-alike script start near far in
    let h = halves script start in
    let first : EndsStandFor by_history ends.hub.hub all.near (world_after (near_lines script) (start_world (near_lines script))) =
    mirrors-of-history reached-sessions stands-after (near_lines script) (near-lines script are) ends.hub.hub all.near all.first in
    let others : AllZip (ClientStandsFor by_notices behind.far) all.far behind.far.seats = subst (λ (w : Worlds). AllZip (ClientStandsFor by_notices w.far) all.far w.far.seats) same all.others in
    let standing : IsStanding behind.far = far-stands script script [] are (carries-written script are) (sym (append-nil script)) in
    record {
      near = all.near;
      far = all.far;
      clients = all.clients ∙ ap (λ (w : Worlds). woven w.order all.near all.far) same;
      first = subst (EndsStandFor by_history ends.hub.hub all.near) (sym h.0) first;
      second = subst (λ (w : Worlds). IfSome ends.far (λ hub. StandsFor hub.hub w.far.hub)) same all.second;
      others = all-as-history reached-sessions standing.0 behind.far standing.1 all.far behind.far.seats standing.1.seats others;
    }
