-- What the clients of the hub owe after each line of a script, and so how much is to be done at a settle.
--     sized-after-lines      each line adds little
--     work-is-little      less than the turns of a settle
use Rattle.std.proofs.Common.{◌≡◌, ℕ, suc, ◌+◌, ◌*◌, ◌≤◌, ◌<◌, ◌^◌, Bool, true, false, List, [], ◌∷◌, find, length, Option, Some, None, option_map, refl, sym, ◌∙◌, ap, subst, arith, length-append}
use Rattle.std.specs.Prelude.{◌==◌}
use Rattle.std.specs.List.{AllByRecursion}
use Rattle.coalesce.proofs.Packing.{each-front}
use Rattle.coalesce.specs.Sides.{frame_octets}
use Rattle.dsotlv.proofs.Results.{same_found}
use Rattle.push_base.specs.Limits.{max_input, max_questions}
use Rattle.pushserver.specs.Hubs.{session_of}
use Rattle.pushserver.specs.PlainHubs.{Hub, Session}
use Rattle.pushserver.specs.SoundHubs.{IsSoundHub, IsSoundSession}
use Rattle.pushserver.proofs.session_steps.Lists.{found-each}
use Rattle.pushsession.specs.declared.session_status.SessionStatus.{SessionStatus}
use Rattle.pushsession.specs.declared.session_status.SessionStatus.TheVariants.{Live, AskedToStop, Stopped, Ended}
use Rattle.scripts.specs.Lines.{Word, ScriptLine, settle, feed}
use Rattle.scripts.specs.Scripts.{Known, nothing_known, lone_of, is_lone_client, in_events, fits}
use Rattle.replay.specs.PassedOctets.{max_wire}
use Rattle.replay.specs.TextWords.{by_history}
use Rattle.replay.specs.Text.{line_does, world_after}
use Rattle.replay.specs.World.{World, Seat, seat_of, start_world}
use Rattle.script_laws.specs.Joined.{ShownToEach}
use Rattle.script_laws.specs.Lines.{IsRead, Follow}
use Rattle.script_laws.specs.Reached.{ReachedOnesAreSound}
use Rattle.script_laws.specs.Settling.{IsLittleAtSettles}
use Rattle.script_laws.specs.Texts.{ShownIsTaken}
use Rattle.script_laws.specs.Turns.{reaction_cost, asked_stops, work_of, work_in, owes, work_left, QueuesAreShort, SizedAfterLines, LowersAlways}
use Rattle.script_laws.specs.Whole.{StandsAfterEachLine}
use Rattle.script_laws.proofs.lines.EachLine.{grown-clients}
use Rattle.script_laws.proofs.lines.Following.{follow-front}
use Rattle.script_laws.proofs.lines.Growing.{grown, grown-stands}
use Rattle.script_laws.proofs.lines.Cutting.{stands-with}
use Rattle.script_laws.proofs.lines.Premises.{LineLaws}
use Rattle.script_laws.proofs.lines.Starting.{start-stands, start-fits, is_allowed}
use Rattle.script_laws.proofs.lines.Walking.{Walked, walked-line}
use Rattle.script_laws.proofs.sizes.Lines.{AllSized, found-sized, sized-line}
use Rattle.script_laws.proofs.texts.Along.{seat-stands}
use Rattle.script_laws.specs.Walk.{OfDowns, OfEmits}

-- ---- lines one behind another

-- a client that is fed is a lone one
pub fed-lone : (all : List Word) (known next : Known) (shown : ShownToEach) (world : World) (line : ScriptLine) → Walked all known shown world → fits all known line ≡ Some next
    → (w : Word) (octets : List ℕ) (seat : Seat) → line ≡ feed w octets → seat_of world w ≡ Some seat → seat.is_lone ≡ true
fed-lone all known next shown world line h e w octets seat is found =
    let may = is_allowed (is_lone_client known w) (in_events known) next (ap (fits all known) (sym is) ∙ e) in
    let known_so : lone_of known w ≡ Some seat.is_lone = h.fits.clients w ∙ ap (option_map (λ (s : Seat). s.is_lone)) found in
    sym (ap (λ (o : Option Bool). elim o as (λ _. Bool) [ None ↦ false | Some is_lone ↦ is_lone ]) known_so) ∙ may.0

module _ (laws : LineLaws) (shows : ShownIsTaken) (emits-low : OfEmits LowersAlways) (downs-low : OfDowns LowersAlways) (all : List Word) where
  sized-lines : (m n : ℕ) (known : Known) (lines : List ScriptLine) (shown : ShownToEach) (world : World) → m ≡ n + length lines → Follow all known lines → AllByRecursion (IsRead all) lines → Walked all known shown world
      → AllSized n world.seats → AllSized m (world_after lines world).seats
  sized-lines m n known [] shown world count f read h sized = subst (λ k. AllSized k world.seats) (sym (none m n count)) sized
    where
      none : (m n : ℕ) → m ≡ n + 0 → m ≡ n
      none m n is = omega (arith, is)
  sized-lines m n known (line ∷ lines) shown world count f read h sized =
      let then : ShownToEach = grown shown line world in
      let before : Walked all known then world = record { stands = grown-stands shows shown line world h.stands; fits = h.fits; clients = grown-clients shown line world h.clients } in
      let later : World = (line_does by_history line world).0 in
      sized-lines m (suc n) f.0 lines then later (one-more m n (length lines) count) f.2 read.1 (walked-line laws all known f.0 then world before line read.0 f.1)
      (sized-line laws emits-low downs-low all n then world before.stands sized line read.0 (fed-lone all known f.0 then world line before f.1))
    where
      one-more : (m n k : ℕ) → m ≡ n + suc k → m ≡ suc n + k
      one-more m n k is = omega (arith, is)

pub sized-after-lines : LineLaws → ShownIsTaken → OfEmits LowersAlways → OfDowns LowersAlways → SizedAfterLines
sized-after-lines laws shows emits-low downs-low script before after are split =
    let start : Walked are.all nothing_known (λ w question. []) (start_world script) = record { stands = start-stands are.all script are.follow are.read; fits = start-fits are.all script are.follow are.read; clients = λ w e question. refl } in
    sized-lines laws shows emits-low downs-low are.all (length before) 0 nothing_known before (λ w question. []) (start_world script) (omega arith)
    (follow-front are.all nothing_known before after (subst (Follow are.all nothing_known) split are.follow)) (each-front (IsRead are.all) before after (subst (AllByRecursion (IsRead are.all)) split are.read)) start tt

-- ---- how much is to be done

-- a session of a sound hub
pub record IsWithinSession (session : Session) : Type 0 where
  pub input : length session.input ≤ max_input
  pub output : length session.output ≤ frame_octets

within-session : (hub : Hub) (number : ℕ) (session : Session) → IsSoundHub hub → session_of hub number ≡ Some session → IsWithinSession session
within-session hub number session sound there = by (find (λ (e : ℕ × Session). e.0 == number) hub.sessions) refl there
  where
    by : (o : Option (ℕ × Session)) → find (λ (e : ℕ × Session). e.0 == number) hub.sessions ≡ o → option_map (λ (e : ℕ × Session). e.1) o ≡ Some session → IsWithinSession session
    by None is e = absurd cc
    by (Some f) is e =
        let s = (found-each (IsSoundSession hub) (λ (e : ℕ × Session). e.0 == number) hub.sessions f sound.sessions is).0 in
        subst IsWithinSession (same_found f.1 session e) (record { input = s.input_fits; output = s.output_fits })

one-stop : (standing : SessionStatus) → asked_stops standing ≤ 1
one-stop Live = omega arith
one-stop (AskedToStop rcode delay) = omega arith
one-stop (Stopped since) = omega arith
one-stop (Ended reason) = omega arith

pub work-is-little : ReachedOnesAreSound → StandsAfterEachLine → SizedAfterLines → QueuesAreShort → IsLittleAtSettles work_left
work-is-little are-sound stand sizes queues script before after w seat number lines are found has =
    let world : World = world_after before (start_world script) in
    let stands = stand script before (settle w ∷ after) lines are in
    let here = stands-with world.hub _ seat number has (seat-stands _ world w seat stands found) in
    let session : Session = here.session in
    let within = within-session world.hub number session (are-sound world.hub stands.reached) here.joined.there in
    let owed = found-sized (length before) world w seat (sizes script before (settle w ∷ after) lines are) found here.lone in
    let few = fewer (length before) (length after) (length script) (ap length are ∙ length-append before (settle w ∷ after)) lines.few in
    let work : work_in (session_of world.hub number) ≡ work_of session = ap work_in here.joined.there in
    little (work_in (session_of world.hub number)) (length session.output) (length session.input) (length session.queue) (asked_stops session.standing) (length seat.down_wire) (length seat.up_wire) (owes seat.client) (length before)
    work within.output within.input (queues world.hub number session stands.reached here.joined.there) (one-stop session.standing) here.joined.down_wire here.joined.up_wire owed few
  where
    fewer : (before after script : ℕ) → script ≡ before + suc after → script ≤ 16777216 → before ≤ 16777216
    fewer before after script is short = omega (arith, is, short)

    little : (work output input queue stop down up owed lines : ℕ) → work ≡ 2 * output + reaction_cost * (input + queue + stop) → output ≤ frame_octets → input ≤ max_input → queue ≤ max_questions → stop ≤ 1
        → down ≤ max_wire → up ≤ max_wire → owed ≤ 2 ^ 27 + 2 ^ 17 * lines → lines ≤ 16777216 → work + down + (reaction_cost + 1) * up + (reaction_cost + 2) * owed < 2 ^ 64
    little work output input queue stop down up owed lines is out inp few one d u more short = omega (arith, is, out, inp, few, one, d, u, more, short)
