-- What a call of `give` does to a session's work: it becomes less by what is handed out, and less still where a message was reacted to.
--     Leaves g number s      the call hands on what a session has to say
--     TurnsTo hub number session s      so does each call, of this session
--     GivesLess g number session, gives-less      what is left to do
use Rattle.std.proofs.Common.{◌≡◌, ℕ, ◌+◌, ◌-◌, ◌*◌, ◌<◌, ◌==◌, ◌≤◌, Bool, true, false, List, [], ◌∷◌, ◌++◌, length, take, drop, Option, Some, None, refl, sym, ◌∙◌, ap, subst, arith, le_trans}
use Rattle.std.specs.Prelude.{find, option_map, min, if◌then◌else◌}
use Rattle.std.proofs.lemmas.List.{length-take, length-drop}
use Rattle.push_base.specs.Cases.{is_empty}
use Rattle.coalesce.specs.Sides.{frame_octets}
use Rattle.dsotlv.specs.Answers.{push_message, stop_message}
use Rattle.dsotlv.specs.Messages.{frame, first_message}
use Rattle.dsotlv.specs.declared.message.Notice.{Notice}
use Rattle.dsotlv.proofs.Results.{same_found}
use Rattle.dsosession.specs.declared.session.EndReason.TheVariants as ends
use Rattle.pushsession.specs.declared.session_status.SessionStatus.{SessionStatus}
use Rattle.pushsession.specs.declared.session_status.SessionStatus.TheVariants.{Live, AskedToStop, Stopped, Ended}
use Rattle.pushsession.specs.Sessions.{copied, stopped, says_stop, ended_with, ended_where, without_first}
use Rattle.pushsession.specs.Subscribing.{with_next_push, says_notices}
use Rattle.pushserver.specs.declared.given.Given.{Given}
use Rattle.pushserver.specs.declared.given.Given.TheVariants.{Worked, Nothing, Ending, End}
use Rattle.pushserver.specs.PlainHubs.{Session, Queue, Hub, Giving}
use Rattle.pushserver.specs.Hubs.{now, keeps_now, tells_now, session_of, in_session}
use Rattle.pushserver.specs.Giving.{did, copies, copies_or, given_after, by_standing, give}
use Rattle.pushserver.specs.SoundHubs.{IsSoundHub, IsSoundSession}
use Rattle.pushserver.specs.Calls.{gives}
use Rattle.livesessions.proofs.SessionLists.{found-in}
use Rattle.pushserver.proofs.session_steps.Lists.{found-each}
use Rattle.pushserver.proofs.hub_steps.Cases.{found_as, works_as, output_as, give_as}
use Rattle.pushclient.specs.Clients.{Client, Connection}
use Rattle.inflight.specs.Messages.{ClientMessage}
use Rattle.inflight.specs.Flight.{IsUnderWay}
use Rattle.flight_laws.specs.Meeting.{after, behind_for, after_entry}
use Rattle.flight_laws.proofs.EachGive.{first-met}
use Rattle.flight_laws.proofs.GivesSo.{after-is, gives-so}
use Rattle.script_laws.specs.Reached.{IsReached, ReachedOnesGoOn, ReachedOnesAreSound}
use Rattle.script_laws.specs.Turns.{reaction_cost, asked_stops, work_of}
use Rattle.script_laws.proofs.emits.Giving.{gives-short}
use Rattle.script_laws.proofs.turns.Shorter.{rest-shorter}
use Rattle.script_laws.proofs.turns.Packing.{packs-no-more, packs-fewer}
use Rattle.script_laws.proofs.turns.Reacting.{queue-after}

-- ---- what is handed on

-- a session that has something to say: the call hands a front of it out, and leaves the rest
pub record Leaves (g : Giving) (number : ℕ) (s : Session) : Type 0 where
  pub later : Session
  pub there : session_of g.hub number ≡ Some later
  pub output : length later.output + length g.octets ≡ length s.output
  pub input : later.input ≡ s.input
  pub queue : later.queue ≡ s.queue
  pub standing : later.standing ≡ s.standing

module _ (number room : ℕ) (hub : Hub) (s : Session) (there : session_of hub number ≡ Some s) where
  pub copies-leave : Leaves (copies number room s hub) number s
  copies-leave = record {
    later = copied room s;
    there = found-in number (copied room) hub.sessions ∙ ap (option_map (copied room)) there;
    output = sums room (length s.output) (length (drop room s.output)) (length (take room s.output)) (length-drop room s.output) (length-take room s.output);
    input = refl;
    queue = refl;
    standing = refl;
  }
    where
      sums : (room whole left front : ℕ) → left ≡ whole - room → front ≡ min room whole → left + front ≡ whole
      sums room whole left front is are = omega (arith, is, are)

  pub done-leaves : (given : Given) → Leaves (did given hub) number s
  done-leaves given = record { later = s; there = there; output = omega arith; input = refl; queue = refl; standing = refl }

  pub copies-or-leave : (given : Given) → Leaves (copies_or given number room s hub) number s
  copies-or-leave given = by (is_empty s.output)
    where
      by : (b : Bool) → Leaves (if b then did given hub else copies number room s hub) number s
      by true = done-leaves given
      by false = copies-leave

-- an answer that isn't Worked
abbrev NotWorked : Given → Type 0
NotWorked given = given ≡ Worked → ⊥

-- each call, with any room, leaves of this session what another one has to say, whose work is less where a frame holds what it says
pub record TurnsTo (hub : Hub) (number : ℕ) (session s : Session) : Type 0 where
  pub leaves : (room : ℕ) → Leaves (give hub number room) number s
  pub less : length s.output ≤ frame_octets → work_of s ≤ work_of session
  pub worked : (room : ℕ) → (give hub number room).given ≡ Worked → length s.output ≤ frame_octets → work_of s < work_of session

-- ---- numbers

lt_le : {a b : ℕ} → a < b → a ≤ b
lt_le less = omega (arith, less)

-- two octets for each that is written are less than one that came, one name, or one stop
less-by-one : (out before i j q r a b : ℕ) → out ≤ 65537 → i + q + a < j + r + b → 2 * out + 131075 * (i + q + a) < 2 * before + 131075 * (j + r + b)
less-by-one out before i j q r a b fits less = omega (arith, fits, less)

no-more : (out before i q r a : ℕ) → out ≡ before → q ≤ r → 2 * out + 131075 * (i + q + a) ≤ 2 * before + 131075 * (i + r + a)
no-more out before i q r a same short = omega (arith, same, short)

handed : (left front whole i q a : ℕ) → left + front ≡ whole → (2 * left + 131075 * (i + q + a)) + 2 * front ≡ 2 * whole + 131075 * (i + q + a)
handed left front whole i q a is = omega (arith, is)

-- ---- a sound hub's session

pub sound-session : (hub : Hub) (number : ℕ) (session : Session) → IsSoundHub hub → session_of hub number ≡ Some session → (n : ℕ) × IsSoundSession hub (n, session)
sound-session hub number session sound there = by (find (λ (e : ℕ × Session). e.0 == number) hub.sessions) refl there
  where
    by : (o : Option (ℕ × Session)) → find (λ (e : ℕ × Session). e.0 == number) hub.sessions ≡ o → option_map (λ (e : ℕ × Session). e.1) o ≡ Some session → (n : ℕ) × IsSoundSession hub (n, session)
    by None is e = absurd cc
    by (Some f) is e =
        (f.0, subst (λ (s : Session). IsSoundSession hub (f.0, s)) (same_found f.1 session e) (found-each (IsSoundSession hub) (λ (e : ℕ × Session). e.0 == number) hub.sessions f sound.sessions is).0)

-- ---- a session that may have fallen behind

record HasNoMore (before after : Session) : Type 0 where
  input : after.input ≡ before.input
  queue : length after.queue ≤ length before.queue
  stops : asked_stops after.standing ≤ asked_stops before.standing

no-more-fallen : (hub : Hub) (point : Option ℕ) (s : Session) → HasNoMore s (ended_where (keeps_now hub) (option_map (λ p. ends.Behind p) point) s)
no-more-fallen hub None s = record { input = refl; queue = omega arith; stops = omega arith }
no-more-fallen hub (Some p) s = record { input = refl; queue = omega arith; stops = omega arith }

-- ---- by cases

module _ (hub : Hub) (number : ℕ) (session : Session) (there : session_of hub number ≡ Some session) where
  turns-to : (g : ℕ → Giving) (s : Session) → ((room : ℕ) → give hub number room ≡ g room) → ((room : ℕ) → Leaves (g room) number s) → (length s.output ≤ frame_octets → work_of s ≤ work_of session)
      → ((room : ℕ) → (g room).given ≡ Worked → length s.output ≤ frame_octets → work_of s < work_of session) → TurnsTo hub number session s
  turns-to g s is leaves less worked = record {
    leaves = λ room. subst (λ (x : Giving). Leaves x number s) (sym (is room)) (leaves room);
    less = less;
    worked = λ room given fits. worked room (sym (ap (λ (x : Giving). x.given) (is room)) ∙ given) fits;
  }

  as-before : work_of session ≤ work_of session
  as-before = omega arith

  abbrev Turns : Type 0
  Turns = (s : Session) × TurnsTo hub number session s

  -- what waits to go is handed on
  hands-on : (o : ℕ) (os : List ℕ) → session.output ≡ o ∷ os → Turns
  hands-on o os some = (
    session,
    turns-to (λ room. copies number room session hub) session
        (λ room. ap (give_as hub number room) there ∙ ap (λ (l : List ℕ). output_as hub number room session (is_empty l)) some)
        (λ room. copies-leave number room hub session there) (λ fits. as-before) (λ room worked fits. absurd cc),
  )

  module _ (silent : session.output ≡ []) where
    reaches : (standing : SessionStatus) → session.standing ≡ standing → (room : ℕ) → give hub number room ≡ by_standing standing number room session hub
    reaches standing is room =
        ap (give_as hub number room) there ∙ ap (λ (l : List ℕ). output_as hub number room session (is_empty l)) silent ∙ ap (λ (st : SessionStatus). by_standing st number room session hub) is

    -- nothing is done
    does-nothing : (standing : SessionStatus) (given : Given) → session.standing ≡ standing → ((room : ℕ) → by_standing standing number room session hub ≡ did given hub) → (given ≡ Worked → ⊥) → Turns
    does-nothing standing given is same other = (
      session,
      turns-to (λ room. did given hub) session (λ room. reaches standing is room ∙ same room) (λ room. done-leaves number room hub session there given)
          (λ fits. as-before) (λ room worked fits. absurd (other worked)),
    )

    -- ---- a stop

    module _ (rcode delay : ℕ) (asked : session.standing ≡ AskedToStop rcode delay) where
      abbrev stopping : Session → Session
      stopping = stopped (keeps_now hub) rcode delay (now hub)

      abbrev stopped_hub : Hub
      stopped_hub = in_session number stopping hub

      stop-there : session_of stopped_hub number ≡ Some (stopping session)
      stop-there = found-in number stopping hub.sessions ∙ ap (option_map stopping) there

      stop-less : (b : Bool) → let s : Session = if b then says_stop (keeps_now hub) rcode delay (now hub) session else ended_with (keeps_now hub) ends.Stopped session in
          length s.output ≤ frame_octets → work_of s < work_of session
      stop-less true fits = costs (length (session.output ++ frame (stop_message rcode delay))) (length session.output) (length session.input) (length session.queue) (asked_stops session.standing) fits (ap asked_stops asked)
        where
          costs : (out before i q a : ℕ) → out ≤ 65537 → a ≡ 1 → 2 * out + 131075 * (i + 0 + 0) < 2 * before + 131075 * (i + q + a)
          costs out before i q a fits is = omega (arith, fits, is)
      stop-less false fits = costs (length session.output) (length session.input) (length session.queue) (asked_stops session.standing) (ap asked_stops asked)
        where
          costs : (out i q a : ℕ) → a ≡ 1 → 2 * out + 131075 * (i + 0 + 0) < 2 * out + 131075 * (i + q + a)
          costs out i q a is = omega (arith, is)

      stops : Turns
      stops = (
        stopping session,
        turns-to (λ room. copies_or (given_after (stopping session).standing) number room (stopping session) stopped_hub) (stopping session)
            (λ room. reaches (AskedToStop rcode delay) asked room ∙ ap (found_as stopped_hub number room Worked given_after) stop-there)
            (λ room. copies-or-leave number room stopped_hub (stopping session) stop-there (given_after (stopping session).standing))
            (λ fits. lt_le (stop-less session.established fits)) (λ room worked fits. stop-less session.established fits),
      )

    -- ---- names that wait

    module _ (live : session.standing ≡ Live) (sound : IsSoundHub hub) where
      abbrev packing : Session → Session
      packing = with_next_push (keeps_now hub) (tells_now hub) (now hub)

      abbrev packed_hub : Hub
      packed_hub = in_session number packing hub

      pack-there : session_of packed_hub number ≡ Some (packing session)
      pack-there = found-in number packing hub.sessions ∙ ap (option_map packing) there

      abbrev pack : List Notice × Queue
      pack = (tells_now hub).packed session.subscriptions session.queue

      packs-less : length (packing session).output ≤ frame_octets → work_of (packing session) ≤ work_of session
      packs-less = by pack.0 refl
        where
          by : (notices : List Notice) → pack.0 ≡ notices → let s : Session = says_notices (keeps_now hub) (now hub) notices (record session { queue = pack.1 }) in length s.output ≤ frame_octets → work_of s ≤ work_of session
          by [] none fits =
              no-more (length session.output) (length session.output) (length session.input) (length pack.1) (length session.queue) (asked_stops session.standing) refl
              (packs-no-more hub session.subscriptions session.queue)
          by (n ∷ ns) some fits =
              lt_le (less-by-one (length (session.output ++ frame (push_message (n ∷ ns)))) (length session.output) (length session.input) (length session.input) (length pack.1) (length session.queue)
              (asked_stops session.standing) (asked_stops session.standing) fits
              (fewer (length session.input) (length pack.1) (length session.queue) (asked_stops session.standing)
              (packs-fewer hub session.subscriptions session.queue (sound-session hub number session sound there).1.names n ns some)))
            where
              fewer : (i q r a : ℕ) → q < r → i + q + a < i + r + a
              fewer i q r a less = omega (arith, less)

      not-worked : (b : Bool) (room : ℕ) → (if b then did Nothing packed_hub else copies number room (packing session) packed_hub).given ≡ Worked → ⊥
      not-worked true room is = absurd cc
      not-worked false room is = absurd cc

      packs-names : first_message session.input ≡ None → Turns
      packs-names none = (
        packing session,
        turns-to (λ room. copies_or Nothing number room (packing session) packed_hub) (packing session)
            (λ room. reaches Live live room ∙ ap (works_as hub number room) none ∙ ap (found_as packed_hub number room Nothing (λ _. Nothing)) pack-there)
            (λ room. copies-or-leave number room packed_hub (packing session) pack-there Nothing) packs-less
            (λ room worked fits. absurd (not-worked (is_empty (packing session).output) room worked)),
      )

      -- ---- a message

      module _ (told : List (ℕ × ℕ)) (client : Client) (c : Connection) (up_wire down_wire : List ℕ) (i : IsUnderWay hub told session client c up_wire down_wire) (found : List ℕ × List ℕ)
          (first : first_message session.input ≡ Some found) where
        reacts : Turns
        reacts =
            let one = first-met hub number told session client c up_wire down_wire found there live silent first i in
            let m : ClientMessage = one.up.first in
            let before : Session = without_first found.1 session in
            let s : Session = after_entry hub m before in
            let is = after-is hub m before in
            let fell = no-more-fallen hub (behind_for m hub (after hub m before)) (after hub m before) in
            let cheap : length s.output ≤ frame_octets → work_of s < work_of session =
            λ fits. less-by-one (length s.output) (length session.output) (length s.input) (length session.input) (length s.queue) (length session.queue) (asked_stops s.standing) (asked_stops session.standing) fits
            (fewer (length s.input) (length session.input) (length s.queue) (length session.queue) (asked_stops s.standing) (asked_stops session.standing)
            (subst (λ (os : List ℕ). length os < length session.input) (sym (fell.input ∙ is.input)) (rest-shorter session.input found.0 found.1 first))
            (le_trans fell.queue (queue-after hub m before)) (subst (λ n. asked_stops s.standing ≤ n) (ap asked_stops is.standing) fell.stops)) in (
              s,
              record {
                leaves = λ room.
                    let gave = gives-so hub number room session m found.1 one.met in
                    record {
                      later = record s { output = drop room s.output };
                      there = gave.leaves.session;
                      output = sums room (length s.output) (length (drop room s.output)) (length (give hub number room).octets) (length-drop room s.output) (ap length gave.octets ∙ length-take room s.output);
                      input = refl;
                      queue = refl;
                      standing = refl;
                    };
                less = λ fits. lt_le (cheap fits);
                worked = λ room worked fits. cheap fits;
              },
            )
          where
            sums : (room whole left front : ℕ) → left ≡ whole - room → front ≡ min room whole → left + front ≡ whole
            sums room whole left front is are = omega (arith, is, are)

            fewer : (i j q r a b : ℕ) → i < j → q ≤ r → a ≤ b → i + q + a < j + r + b
            fewer i j q r a b less short few = omega (arith, less, short, few)

  -- ---- each call

  module _ (sound : IsSoundHub hub) (told : List (ℕ × ℕ)) (client : Client) (c : Connection) (up_wire down_wire : List ℕ) (i : IsUnderWay hub told session client c up_wire down_wire) where
    by_first : (o : Option (List ℕ × List ℕ)) → first_message session.input ≡ o → session.output ≡ [] → session.standing ≡ Live → Turns
    by_first None first silent live = packs-names silent live sound first
    by_first (Some found) first silent live = reacts silent live sound told client c up_wire down_wire i found first

    by_kind : (standing : SessionStatus) → session.standing ≡ standing → session.output ≡ [] → Turns
    by_kind Live is silent = by_first (first_message session.input) refl silent is
    by_kind (AskedToStop rcode delay) is silent = stops silent rcode delay is
    by_kind (Stopped since) is silent = does-nothing silent (Stopped since) Ending is (λ room. refl) (λ e. absurd cc)
    by_kind (Ended reason) is silent = does-nothing silent (Ended reason) (End reason) is (λ room. refl) (λ e. absurd cc)

    pub turns : Turns
    turns = by session.output refl
      where
        by : (output : List ℕ) → session.output ≡ output → Turns
        by [] silent = by_kind session.standing refl silent
        by (o ∷ os) some = hands-on o os some

-- ---- what is left to do

pub record GivesLess (g : Giving) (number : ℕ) (session : Session) : Type 0 where
  pub later : Session
  pub there : session_of g.hub number ≡ Some later
  pub less : work_of later + 2 * length g.octets ≤ work_of session
  pub worked : g.given ≡ Worked → work_of later + 2 * length g.octets < work_of session

module _ (reached-on : ReachedOnesGoOn) (are-sound : ReachedOnesAreSound) (hub : Hub) (number room : ℕ) (session : Session) (reached : IsReached hub) (there : session_of hub number ≡ Some session) where
  -- a frame holds what it says
  fits-frame : (s : Session) → TurnsTo hub number session s → length s.output ≤ frame_octets
  fits-frame s t =
      let l = t.leaves 0 in
      let later : Hub = (give hub number 0).hub in
      let sound : IsSoundHub later = are-sound later (reached-on hub (gives number 0 ∷ []) reached ((tt, tt), tt)) in
      let fits : length l.later.output ≤ frame_octets = (sound-session later number l.later sound l.there).1.output_fits in
      none-out (length l.later.output) (length (give hub number 0).octets) (length s.output) l.output (gives-short hub number 0) fits
    where
      none-out : (left front whole : ℕ) → left + front ≡ whole → front ≤ 0 → left ≤ 65537 → whole ≤ 65537
      none-out left front whole is none fits = omega (arith, is, none, fits)

  work-handed : (s : Session) (l : Leaves (give hub number room) number s) → work_of l.later + 2 * length (give hub number room).octets ≡ work_of s
  work-handed s l =
      handed (length l.later.output) (length (give hub number room).octets) (length s.output) (length l.later.input) (length l.later.queue) (asked_stops l.later.standing) l.output
      ∙ (λ k. 2 * length s.output + reaction_cost * (length (l.input k) + length (l.queue k) + asked_stops (l.standing k)))

  pub gives-less : (told : List (ℕ × ℕ)) (client : Client) (c : Connection) (up_wire down_wire : List ℕ) → IsUnderWay hub told session client c up_wire down_wire → GivesLess (give hub number room) number session
  gives-less told client c up_wire down_wire i =
      let t = turns hub number session there (are-sound hub reached) told client c up_wire down_wire i in
      let l = t.1.leaves room in
      let same = work-handed t.0 l in
      let fits = fits-frame t.0 t.1 in
      record {
        later = l.later;
        there = l.there;
        less = subst (λ n. n ≤ work_of session) (sym same) (t.1.less fits);
        worked = λ worked. subst (λ n. n < work_of session) (sym same) (t.1.worked room worked fits);
      }
