-- A hub without links makes no entry where octets pass between it and its clients.
--     give-still      no call of `give` for a client that is joined makes one
--     emit-still, round-still, settled-still, way-still      nor do passings
use Rattle.std.proofs.Common.{◌≡◌, ℕ, zero, suc, ◌+◌, ◌-◌, ◌≤◌, ◌==◌, Bool, true, false, List, [], ◌∷◌, ◌++◌, length, min, Option, Some, None, is_some, refl, sym, ◌∙◌, ap, subst, arith, length-append}
use Rattle.std.specs.Prelude.{if◌then◌else◌}
use Rattle.push_base.specs.Cases.{is_empty}
use Rattle.dsotlv.specs.Messages.{first_message}
use Rattle.dsosession.specs.declared.session.EndReason.{EndReason}
use Rattle.rrset.specs.declared.record.Key.{Key}
use Rattle.pushsession.specs.declared.session_status.SessionStatus.{SessionStatus}
use Rattle.pushsession.specs.declared.session_status.SessionStatus.TheVariants.{Live, AskedToStop, Stopped, Ended}
use Rattle.pushsession.specs.Sessions.{stopped}
use Rattle.pushsession.specs.Subscribing.{with_next_push}
use Rattle.pushserver.specs.declared.given.Given.{Given}
use Rattle.pushserver.specs.declared.given.Given.TheVariants.{Bytes, Worked, Nothing, Ending, End}
use Rattle.pushserver.specs.Calls.{gives}
use Rattle.pushserver.specs.Counting.{octets_of}
use Rattle.pushserver.specs.Giving.{give, given_after, did, copies, copies_or, by_standing}
use Rattle.pushserver.specs.Hubs.{newest, now, state_now, keeps_now, tells_now, session_of, in_session}
use Rattle.pushserver.specs.PlainHubs.{Hub, Session, Giving}
use Rattle.pushserver.proofs.hub_steps.Cases.{key_as, found_as, works_as, output_as, give_as}
use Rattle.pushclient.specs.Clients.{Client, Connection}
use Rattle.inflight.specs.Ends.{remembers}
use Rattle.inflight.specs.Flight.{IsUnderWay}
use Rattle.inflight.specs.Messages.{ClientMessage, subscribes, unsubscribes, reconfirms, requests_keepalive}
use Rattle.flight_laws.specs.Meeting.{as_carried, asks_hub}
use Rattle.flight_laws.proofs.EachGive.{first-met}
use Rattle.flight_laws.proofs.GivesSo.{gives-so}
use Rattle.scripts.specs.declared.line.Way.{Way}
use Rattle.scripts.specs.declared.line.Way.TheVariants as ways
use Rattle.replay.specs.World.{World, Seat}
use Rattle.replay.specs.PassedOctets.{Emitted, subscriptions_in, with_giving, emitted, nothing_emitted, enough, max_wire, Passed, say, up, emit, round, settled, is_still}
use Rattle.replay.specs.Promises.{ShownPoints}
use Rattle.replay.specs.Text.{passing_of}
use Rattle.replay.proofs.exchanges.Walks.{gives-counted}
use Rattle.script_laws.specs.Joined.{IsJoined, PassesSo}
use Rattle.script_laws.specs.Reached.{IsReached}
use Rattle.script_laws.specs.Walk.{RoundsPass}
use Rattle.script_laws.proofs.Scripts.{all-laws}
use Rattle.script_laws.proofs.hubs.Reaching.{reached-go-on, begun-go-on}
use Rattle.script_laws.proofs.hubs.Sessions.{reached-sessions}
use Rattle.script_laws.proofs.hubs.Sound.{reached-sound}
use Rattle.script_laws.proofs.emits.Emitting.{IsJoinedBehind, gives-pass}
use Rattle.script_laws.proofs.emits.Giving.{gives-short}
use Rattle.script_laws.proofs.emits.Passing.{reached-behind, rounds-pass}
use Rattle.two_hubs.proofs.Growing.{Unlinked, no-links, no-key, unlinked-on}

-- ---- one call of give

abbrev pub StillBy : Hub → Giving → Type 0
StillBy hub g = g.hub.history ≡ hub.history

module _ (hub : Hub) (number room : ℕ) where
  or-still : (given : Given) (s : Session) (h : Hub) → h.history ≡ hub.history → StillBy hub (copies_or given number room s h)
  or-still given s h is = by (is_empty s.output)
    where
      by : (b : Bool) → StillBy hub (if b then did given h else copies number room s h)
      by true = is
      by false = is

  found-still : (h : Hub) → h.history ≡ hub.history → (none : Given) (given : SessionStatus → Given) (o : Option Session) → StillBy hub (found_as h number room none given o)
  found-still h is none given None = is
  found-still h is none given (Some s) = or-still (given s.standing) s h is

  -- a RECONFIRM asks for a link's record
  asks-still : Unlinked hub → (m : ClientMessage) → (asks_hub m number hub).history ≡ hub.history
  asks-still unlinked (subscribes id question) = refl
  asks-still unlinked (unsubscribes id) = refl
  asks-still unlinked (reconfirms rr) = ap (λ (o : Option (ℕ × Key)). (key_as hub o).history) (no-key (state_now hub) (as_carried rr) (no-links hub (newest hub) unlinked))
  asks-still unlinked (requests_keepalive id) = refl

  module _ (session : Session) (there : session_of hub number ≡ Some session) (unlinked : Unlinked hub) (told : List (ℕ × ℕ)) (client : Client) (c : Connection) (up_wire down_wire : List ℕ) (i : IsUnderWay hub told session client c up_wire down_wire) where
    abbrev pub Still : Type 0
    Still = StillBy hub (give hub number room)

    by-first : session.output ≡ [] → session.standing ≡ Live → (o : Option (List ℕ × List ℕ)) → first_message session.input ≡ o → Still
    by-first silent live None first =
        let packed : Hub = in_session number (with_next_push (keeps_now hub) (tells_now hub) (now hub)) hub in
        let reaches : give hub number room ≡ works_as hub number room None =
        ap (give_as hub number room) there ∙ ap (λ (l : List ℕ). output_as hub number room session (is_empty l)) silent
        ∙ ap (λ (standing : SessionStatus). by_standing standing number room session hub) live ∙ ap (works_as hub number room) first in
        subst (StillBy hub) (sym reaches) (found-still packed refl Nothing (λ _. Nothing) (session_of packed number))
    by-first silent live (Some found) first =
        let one = first-met hub number told session client c up_wire down_wire found there live silent first i in
        let gave = gives-so hub number room session one.up.first found.1 one.met in
        gave.leaves.history ∙ asks-still unlinked one.up.first

    reaches : (standing : SessionStatus) → session.output ≡ [] → session.standing ≡ standing → give hub number room ≡ by_standing standing number room session hub
    reaches standing silent is =
        ap (give_as hub number room) there ∙ ap (λ (l : List ℕ). output_as hub number room session (is_empty l)) silent ∙ ap (λ (st : SessionStatus). by_standing st number room session hub) is

    by-kind : (standing : SessionStatus) → session.standing ≡ standing → session.output ≡ [] → Still
    by-kind Live is silent = by-first silent is (first_message session.input) refl
    by-kind (AskedToStop rcode delay) is silent =
        let stopping : Hub = in_session number (stopped (keeps_now hub) rcode delay (now hub)) hub in
        subst (StillBy hub) (sym (reaches (AskedToStop rcode delay) silent is)) (found-still stopping refl Worked given_after (session_of stopping number))
    by-kind (Stopped since) is silent = subst (StillBy hub) (sym (reaches (Stopped since) silent is)) refl
    by-kind (Ended reason) is silent = subst (StillBy hub) (sym (reaches (Ended reason) silent is)) refl

    pub give-still : Still
    give-still = by session.output refl
      where
        by : (output : List ℕ) → session.output ≡ output → Still
        by [] silent = by-kind session.standing refl silent
        by (o ∷ os) some =
            let hands : give hub number room ≡ copies number room session hub = ap (give_as hub number room) there ∙ ap (λ (l : List ℕ). output_as hub number room session (is_empty l)) some in
            subst (StillBy hub) (sym hands) refl

-- ---- calls of give one behind another

abbrev EmitsStill : ℕ → ShownPoints → Connection → ℕ → Type 0
EmitsStill number shown c turns = (budget : ℕ) (e : Emitted) (seat : Seat) (session : Session) → IsReached e.hub → Unlinked e.hub → IsJoined e.hub shown seat number session c → length seat.down_wire + budget ≤ max_wire
    → (emitted turns number budget e).hub.history ≡ e.hub.history

module _ (number : ℕ) (shown : ShownPoints) (c : Connection) where
  emitted-still : (turns budget : ℕ) (e : Emitted) (seat : Seat) (session : Session) → IsReached e.hub → Unlinked e.hub → IsJoined e.hub shown seat number session c → length seat.down_wire + budget ≤ max_wire
      → (emitted turns number budget e).hub.history ≡ e.hub.history
  emitted-still zero budget e seat session reached unlinked j room = refl
  emitted-still (suc turns) budget e seat session reached unlinked j room =
      by (λ n later same fits. others (λ k x y s r u i f. emitted-still turns k x y s r u i f) n later same fits) (budget == 0)
    where
      g : Giving
      g = give e.hub number budget

      made_then : Emitted
      made_then = with_giving g number e

      one : IsJoinedBehind g shown seat number session c
      one = gives-pass reached-go-on begun-go-on reached-sound reached-sessions e.hub shown seat number budget session c reached j room

      later_seat : Seat
      later_seat = record seat { down_wire = seat.down_wire ++ g.octets; filled = remembers (subscriptions_in g.hub number) seat.filled }

      still : g.hub.history ≡ e.hub.history
      still = give-still e.hub number budget session j.there unlinked seat.filled seat.client c seat.up_wire seat.down_wire j.flight

      reached_later : IsReached g.hub
      reached_later = reached-go-on e.hub (gives number budget ∷ []) reached ((tt, tt), tt)

      others : EmitsStill number shown c turns → (n : ℕ) (later : Emitted) → later.hub ≡ g.hub → length later_seat.down_wire + n ≤ max_wire → (emitted turns number n later).hub.history ≡ e.hub.history
      others still_then n later same fits =
          still_then n later later_seat one.later (subst IsReached (sym same) reached_later) (subst Unlinked (sym same) (unlinked-on e.hub (gives number budget ∷ []) unlinked))
          (subst (λ (h : Hub). IsJoined h shown later_seat number one.later c) (sym same) one.joined) fits
          ∙ ap (λ (h : Hub). h.history) same ∙ still

      counted : (n : ℕ) → octets_of g.given ≡ n → length later_seat.down_wire + (budget - n) ≤ max_wire
      counted n is = fewer max_wire (length seat.down_wire) (length g.octets) budget n (length later_seat.down_wire) room (length-append seat.down_wire g.octets) (sym is ∙ gives-counted e.hub number budget) (gives-short e.hub number budget)
        where
          fewer : (most wire more budget n after : ℕ) → wire + budget ≤ most → after ≡ wire + more → n ≡ more → more ≤ budget → after + (budget - n) ≤ most
          fewer most wire more budget n after fits is same short = omega (arith, fits, is, same, short)

      none-less : (n : ℕ) → n - 0 ≡ n
      none-less n = omega arith

      Others : Type 0
      Others = (n : ℕ) (later : Emitted) → later.hub ≡ g.hub → length later_seat.down_wire + n ≤ max_wire → (emitted turns number n later).hub.history ≡ e.hub.history

      by_given : Others → (given : Given) → g.given ≡ given → (elim given as (λ _. Emitted) [
        | Bytes n ↦ emitted turns number (budget - n) made_then
        | Worked ↦ emitted turns number budget (record made_then { reacted = true })
        | Nothing ↦ made_then
        | Ending ↦ made_then
        | End reason ↦ record made_then { over = Some reason }
      ]).hub.history ≡ e.hub.history
      by_given more (Bytes n) is = more (budget - n) made_then refl (counted n (ap octets_of is))
      by_given more Worked is = more budget (record made_then { reacted = true }) refl (subst (λ (n : ℕ). length later_seat.down_wire + n ≤ max_wire) (none-less budget) (counted 0 (ap octets_of is)))
      by_given more Nothing is = still
      by_given more Ending is = still
      by_given more (End reason) is = still

      by : Others → (b : Bool) → (elim b as (λ _. Emitted) [
        | true ↦ e
        | false ↦ elim g.given as (λ _. Emitted) [
          | Bytes n ↦ emitted turns number (budget - n) made_then
          | Worked ↦ emitted turns number budget (record made_then { reacted = true })
          | Nothing ↦ made_then
          | Ending ↦ made_then
          | End reason ↦ record made_then { over = Some reason }
        ]
      ]).hub.history ≡ e.hub.history
      by more true = refl
      by more false = by_given more g.given refl

-- ---- passings

abbrev pub PassesStill : World → Passed → Type 0
PassesStill world p = p.world.hub.history ≡ world.hub.history

rounds : RoundsPass
rounds = rounds-pass reached-go-on all-laws.says all-laws.ups all-laws.emits all-laws.downs

module _ (number : ℕ) (shown : ShownPoints) where
  emit-still : (n : ℕ) (world : World) (seat : Seat) (session : Session) (c : Connection) → IsReached world.hub → Unlinked world.hub → IsJoined world.hub shown seat number session c → PassesStill world (emit number n world seat)
  emit-still n world seat session c reached unlinked j =
      emitted-still number shown c enough (min n (max_wire - length seat.down_wire)) (nothing_emitted world.hub seat.filled) seat session reached unlinked j (fits max_wire (length seat.down_wire) n j.down_wire)
    where
      fits : (most wire n : ℕ) → wire ≤ most → wire + min n (most - wire) ≤ most
      fits most wire n short = omega (arith, short)

  round-still : (world : World) (seat : Seat) (session : Session) (c : Connection) → IsReached world.hub → Unlinked world.hub → IsJoined world.hub shown seat number session c → PassesStill world (round number world seat)
  round-still world seat session c reached unlinked j =
      let said : Passed = say max_wire world seat in
      let one : PassesSo number world shown seat c said = all-laws.says max_wire number world shown seat session c reached j in
      let risen : Passed = up number max_wire said.world said.seat in
      let two : PassesSo number said.world shown said.seat one.connection risen = all-laws.ups max_wire number said.world shown said.seat one.later one.connection reached one.joined in
      emit-still max_wire risen.world risen.seat two.later two.connection
      (reached-behind reached-go-on number said.world shown said.seat one.connection risen reached two)
      (subst Unlinked (sym (ap (λ (w : World). w.hub) two.world_is)) (unlinked-on said.world.hub two.calls unlinked)) two.joined

  settled-still : (turns : ℕ) (over : Option EndReason) (world : World) (seat : Seat) (session : Session) (c : Connection) → IsReached world.hub → Unlinked world.hub → IsJoined world.hub shown seat number session c
      → PassesStill world (settled turns number world seat over)
  settled-still zero over world seat session c reached unlinked j = refl
  settled-still (suc turns) over world seat session c reached unlinked j =
      by (is_still r) (settled-still turns so_far r.world r.seat one.later one.connection (reached-behind reached-go-on number world shown seat c r reached one)
      (subst Unlinked (sym (ap (λ (w : World). w.hub) one.world_is)) (unlinked-on world.hub one.calls unlinked)) one.joined)
    where
      r : Passed
      r = round number world seat

      one : PassesSo number world shown seat c r
      one = rounds number world shown seat session c reached j

      so_far : Option EndReason
      so_far = if is_some over then over else r.over

      still : PassesStill world r
      still = round-still world seat session c reached unlinked j

      by : (b : Bool) → PassesStill r.world (settled turns number r.world r.seat so_far) → PassesStill world (elim b as (λ _. Passed) [ true ↦ record r { over = so_far } | false ↦ settled turns number r.world r.seat so_far ])
      by true others = still
      by false others = others ∙ still

  pub way-still : (way : Way) (world : World) (seat : Seat) (session : Session) (c : Connection) → IsReached world.hub → Unlinked world.hub → IsJoined world.hub shown seat number session c → PassesStill world (passing_of way number world seat)
  way-still (ways.Say n) world seat session c reached unlinked j = refl
  way-still (ways.Up n) world seat session c reached unlinked j = refl
  way-still (ways.Emit n) world seat session c reached unlinked j = emit-still n world seat session c reached unlinked j
  way-still (ways.Down n) world seat session c reached unlinked j = refl
  way-still ways.Settle world seat session c reached unlinked j = settled-still enough None world seat session c reached unlinked j
