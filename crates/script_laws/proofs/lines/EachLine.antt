-- After each line of a script the world stands, and what is under way holds.
--     stands-after-each-line, holds-after-each-line      the laws
use Rattle.std.proofs.Common.{◌≡◌, ℕ, ◌≤◌, Bool, true, false, cond, List, [], ◌∷◌, ◌++◌, find, length, Option, Some, None, option_map, refl, sym, ◌∙◌, ap, subst, append_assoc, append-nil}
use Rattle.std.specs.Prelude.{◌==◌, option_to_list}
use Rattle.std.specs.List.{AllByRecursion}
use Rattle.push_base.specs.Limits.{max_input}
use Rattle.coalesce.proofs.Packing.{each-front}
use Rattle.dsotlv.proofs.Results.{same_found}
use Rattle.pushserver.specs.PlainHubs.{Hub, Session}
use Rattle.pushserver.specs.Hubs.{session_of}
use Rattle.pushserver.specs.SoundHubs.{IsSoundHub, IsSoundSession}
use Rattle.pushserver.proofs.session_steps.Lists.{found-each}
use Rattle.pushserver.proofs.hub_steps.Pairs.{all-weaken}
use Rattle.pushclient.specs.Clients.{held}
use Rattle.scripts.specs.Lines.{Word, ScriptLine}
use Rattle.scripts.specs.Scripts.{Known, nothing_known}
use Rattle.replay.specs.World.{World, Seat, start_world}
use Rattle.replay.specs.TextWords.{by_history}
use Rattle.replay.specs.Text.{line_does, world_after}
use Rattle.replay.specs.HeldPoints.{point_at, point_of_held, held_points_from, is_show_of}
use Rattle.replay.specs.Promises.{ShownPoints, IsUnconnected, IsConnected, SeatHolds}
use Rattle.script_laws.specs.Reached.{IsReached}
use Rattle.script_laws.specs.Joined.{SeatStands, StandsWith, ShownToEach, WorldStands}
use Rattle.script_laws.specs.Texts.{ShownIsTaken}
use Rattle.script_laws.specs.Whole.{StandsAfterEachLine, LinesHold}
use Rattle.script_laws.specs.Lines.{IsRead, Follow}
use Rattle.script_laws.proofs.lines.Premises.{LineLaws}
use Rattle.script_laws.proofs.lines.Following.{follow-front}
use Rattle.script_laws.proofs.lines.Starting.{start-stands, start-fits}
use Rattle.script_laws.proofs.lines.Walking.{ShowsToClients, Walked, walked-line}
use Rattle.script_laws.proofs.lines.Growing.{shown_at, grown, grown-stands}

-- ---- the world stands

-- what a line shows it shows to a client that is there
pub grown-clients : (shown : ShownToEach) (line : ScriptLine) (world : World) → ShowsToClients shown world → ShowsToClients (grown shown line world) world
grown-clients shown line world h w none question = (λ i. h w none question i ++ shown_at line world w question) ∙ by (is_show_of w question line)
  where
    nothing : point_at world w question ≡ None
    nothing = ap (λ (o : Option Seat). elim o as (λ _. Option ℕ) [ None ↦ None | Some s ↦ point_of_held (held s.client question) world s question ]) none

    by : (b : Bool) → cond b (option_to_list (point_at world w question)) [] ≡ []
    by true = ap option_to_list nothing
    by false = refl

module _ (laws : LineLaws) (shows : ShownIsTaken) (all : List Word) where
  walked-lines : (known : Known) (lines : List ScriptLine) (shown : ShownToEach) (world : World) → Follow all known lines → AllByRecursion (IsRead all) lines → Walked all known shown world
      → WorldStands (λ w question. shown w question ++ held_points_from w question lines world) (world_after lines world)
  walked-lines known [] shown world f read h = subst (λ (s : ShownToEach). WorldStands s world) (λ i w question. sym (append-nil (shown w question)) i) h.stands
  walked-lines known (line ∷ lines) shown world f read h =
      let then : ShownToEach = grown shown line world in
      let before : Walked all known then world = record { stands = grown-stands shows shown line world h.stands; fits = h.fits; clients = grown-clients shown line world h.clients } in
      let later : World = (line_does by_history line world).0 in
      let next : Walked all f.0 then later = walked-line laws all known f.0 then world before line read.0 f.1 in
      subst (λ (s : ShownToEach). WorldStands s (world_after lines later)) (λ i w question. append_assoc (shown w question) (shown_at line world w question) (held_points_from w question lines later) i)
      (walked-lines f.0 lines then later f.2 read.1 next)

pub stands-after-each-line : LineLaws → ShownIsTaken → StandsAfterEachLine
stands-after-each-line laws shows script before after are split =
    let start : Walked are.all nothing_known (λ w question. []) (start_world script) = record { stands = start-stands are.all script are.follow are.read; fits = start-fits are.all script are.follow are.read; clients = λ w e question. refl } in
    walked-lines laws shows are.all nothing_known before (λ w question. []) (start_world script)
    (follow-front are.all nothing_known before after (subst (Follow are.all nothing_known) split are.follow)) (each-front (IsRead are.all) before after (subst (AllByRecursion (IsRead are.all)) split are.read)) start

-- ---- and what is under way holds

-- what a session has in its input
input-fits : (hub : Hub) (number : ℕ) (session : Session) → IsSoundHub hub → session_of hub number ≡ Some session → length session.input ≤ max_input
input-fits hub number session sound there = by (find (λ (e : ℕ × Session). e.0 == number) hub.sessions) refl there
  where
    Fits : ℕ × Session → Type 0
    Fits e = length e.1.input ≤ max_input

    by : (o : Option (ℕ × Session)) → find (λ (e : ℕ × Session). e.0 == number) hub.sessions ≡ o → option_map (λ (e : ℕ × Session). e.1) o ≡ Some session → length session.input ≤ max_input
    by None is e = absurd cc
    by (Some f) is e =
        subst (λ (s : Session). length s.input ≤ max_input) (same_found f.1 session e)
        (found-each (IsSoundSession hub) (λ (e : ℕ × Session). e.0 == number) hub.sessions f sound.sessions is).0.input_fits

module _ (laws : LineLaws) (hub : Hub) (reached : IsReached hub) where
  connection-holds : (shown : ShownPoints) (seat : Seat) (number : ℕ) → StandsWith hub shown seat number → IsConnected hub shown seat number
  connection-holds shown seat number h =
      let j = h.joined in
      let s = laws.sessions hub number h.session reached j.there in
      record {
        lone = h.lone;
        session = h.session;
        connection = h.connection;
        there = j.there;
        connected = j.connected;
        holds = record {
          flight = j.flight;
          history = s.history;
          ends = s.ends;
          reached = j.reached;
          waits = h.waits;
          unclosed = h.unclosed;
          ended = j.ended;
          bounds = record { up_wire = j.up_wire; down_wire = j.down_wire; client_input = j.input; session_input = input-fits hub number h.session (laws.sound hub reached) j.there };
          start = j.start;
          since = laws.since hub number j.start h.session j.began j.there;
          shown_before = j.shown_before;
        };
      }

  seat-holds : (shown : ShownToEach) (seat : Seat) → SeatStands hub (shown seat.word) seat → SeatHolds hub shown seat
  seat-holds shown seat = by seat.session
    where
      by : (o : Option ℕ) → (elim o as (λ _. Type 0) [ None ↦ IsUnconnected hub (shown seat.word) seat | Some number ↦ StandsWith hub (shown seat.word) seat number ])
          → elim o as (λ _. Type 0) [ None ↦ IsUnconnected hub (shown seat.word) seat | Some number ↦ IsConnected hub (shown seat.word) seat number ]
      by None h = h
      by (Some number) h = connection-holds (shown seat.word) seat number h

pub holds-after-each-line : LineLaws → StandsAfterEachLine → LinesHold
holds-after-each-line laws each script are before after split =
    let world = world_after before (start_world script) in
    let shown : ShownToEach = λ w question. held_points_from w question before (start_world script) in
    let stands = each script before after are split in
    record { numbers = stands.numbers; seats = all-weaken (λ (s : Seat). SeatStands world.hub (shown s.word) s) (SeatHolds world.hub shown) (λ s h. seat-holds laws world.hub stands.reached shown s h) world.seats stands.seats }
