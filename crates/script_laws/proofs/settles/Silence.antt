-- Calls of `give` that hand out nothing and react to nothing.
--     bytes-some      where octets are told there are some
--     nothing-again      where it has nothing to say it says nothing again
--     ends-resting      it waits for its end where it was stopped
--     StaysStill, stays-still      of several calls the first answered so
use Rattle.std.proofs.Common.{◌≡◌, ℕ, zero, suc, ◌+◌, ◌-◌, ◌≤◌, ◌<◌, ◌==◌, Bool, true, false, List, [], ◌∷◌, ◌++◌, length, take, min, Option, Some, None, refl, sym, ◌∙◌, ap, subst, arith, true≢false, inl, inr, ◌⊎◌, length-take, length-append, ne_eqb}
use Rattle.std.specs.Prelude.{option_map}
use Rattle.std.specs.List.{list_all}
use Rattle.std.proofs.lemmas.Bool.{and_parts}
use Rattle.push_base.specs.Cases.{is_empty}
use Rattle.dnsname.specs.Names.{Labels}
use Rattle.dsotlv.specs.Messages.{first_message}
use Rattle.dsotlv.specs.declared.message.Notice.{Notice}
use Rattle.coalesce.specs.Net.{packed_behind}
use Rattle.dsosession.specs.declared.session.EndReason.{EndReason}
use Rattle.pushsession.specs.declared.session_status.SessionStatus.{SessionStatus}
use Rattle.pushsession.specs.declared.session_status.SessionStatus.TheVariants.{Live, AskedToStop, Stopped, Ended}
use Rattle.pushsession.specs.Sessions.{stopped, without_first}
use Rattle.pushsession.specs.Subscribing.{says_notices, with_next_push}
use Rattle.pushserver.specs.declared.given.Given.{Given}
use Rattle.pushserver.specs.declared.given.Given.TheVariants.{Bytes, Worked, Nothing, Ending, End}
use Rattle.pushserver.specs.PlainHubs.{Session, Hub, Giving, Queue, nets_of, stays_queued}
use Rattle.pushserver.specs.Hubs.{now, keeps_now, tells_now, session_of, in_session}
use Rattle.pushserver.specs.Giving.{did, copies_or, given_after, after_reaction, after_packing, by_standing, reacted, give}
use Rattle.livesessions.proofs.SessionLists.{found-in}
use Rattle.pushserver.proofs.hub_steps.Cases.{copies_as, found_as, works_as, output_as, give_as}
use Rattle.pushserver.proofs.promises.Answers.{quiet-given, given-quiet}
use Rattle.replay.specs.PassedOctets.{Emitted, with_giving, emitted}
use Rattle.replay.proofs.exchanges.Walks.{is_bytes, give-walk}
use Rattle.script_laws.specs.Settling.{is_stopped}

-- ---- octets that are told

-- a front of octets has some, where there is room
front-some : (room : ℕ) (os : List ℕ) → 0 < room → is_empty os ≡ false → 0 < length (take room os)
front-some room [] some none = absurd (true≢false none)
front-some room (o ∷ os) some is = counted room (length os) (length (take room (o ∷ os))) some (length-take room (o ∷ os))
  where
    counted : (room n front : ℕ) → 0 < room → front ≡ min room (suc n) → 0 < front
    counted room n front some is = omega (arith, some, is)

abbrev TellsSome : Giving → Type 0
TellsSome g = (n : ℕ) → g.given ≡ Bytes n → 0 < length g.octets

pub bytes-some : (hub : Hub) (number room : ℕ) → 0 < room → TellsSome (give hub number room)
bytes-some hub number room =
    give-walk number (λ f. (r : ℕ) → 0 < r → TellsSome (f r)) (λ given h is r some n told. absurd (true≢false (sym (ap is_bytes told) ∙ is))) (λ s h found full r some n told. front-some r s.output some full) hub room

-- ---- nothing is said

-- where no name has a net all of them go unsent
packed-none : (size : ℕ) (nets : List (Labels × List Notice)) → list_all (λ e. is_empty e.1) nets ≡ true → packed_behind size nets ≡ ([], [])
packed-none size [] none = refl
packed-none size (e ∷ nets) none =
    let both = and_parts (is_empty e.1) (list_all (λ (d : Labels × List Notice). is_empty d.1) nets) none in
    by e.0 e.1 both.0 (packed-none size nets both.1)
  where
    by : (name : Labels) (ns : List Notice) → is_empty ns ≡ true → packed_behind size nets ≡ ([], []) → packed_behind size ((name, ns) ∷ nets) ≡ ([], [])
    by name [] is others = others
    by name (n ∷ ns) is others = absurd (true≢false (sym is))

none-queued : (queue : Queue) → stays_queued [] queue ≡ []
none-queued [] = refl
none-queued (e ∷ queue) = none-queued queue

-- behind such a call the session has nothing to say still, and no name waits
pub record SaysNothing (hub later : Hub) (number : ℕ) (session : Session) : Type 0 where
  pub live : session.standing ≡ Live
  pub silent : session.output ≡ []
  pub none : first_message session.input ≡ None
  pub there : session_of later number ≡ Some (record session { queue = [] })
  pub again : (give later number 1).given ≡ Nothing

module _ (hub : Hub) (number room : ℕ) (session : Session) (there : session_of hub number ≡ Some session) where
  abbrev packing : Session → Session
  packing s = with_next_push (keeps_now hub) (tells_now hub) (now hub) s

  abbrev packed_hub : Hub
  packed_hub = in_session number packing hub

  abbrev says_pack : List Notice × List Labels → Session
  says_pack pack = says_notices (keeps_now hub) (now hub) pack.0 (record session { queue = stays_queued pack.1 session.queue })

  packs-none : list_all (λ e. is_empty e.1) (nets_of hub.start hub.history session.subscriptions session.queue) ≡ true → packing session ≡ record session { queue = [] }
  packs-none none = ap says_pack (packed-none 0 (nets_of hub.start hub.history session.subscriptions session.queue) none) ∙ ap (λ (queue : Queue). record session { queue = queue }) (none-queued session.queue)

  pub nothing-again : (give hub number room).given ≡ Nothing → SaysNothing hub (give hub number room).hub number session
  nothing-again is =
      let quiet = given-quiet hub number room session there is in
      let left : packing session ≡ record session { queue = [] } = packs-none quiet.3 in
      let found : session_of packed_hub number ≡ Some (record session { queue = [] }) = found-in number packing hub.sessions ∙ ap (option_map packing) there ∙ ap (λ (s : Session). Some s) left in
      let whole : give hub number room ≡ did Nothing packed_hub =
      ap (give_as hub number room) there ∙ ap (λ (o : List ℕ). output_as hub number room session (is_empty o)) quiet.1
      ∙ ap (λ (s : SessionStatus). by_standing s number room session hub) quiet.0 ∙ ap (works_as hub number room) quiet.2
      ∙ ap (λ (o : Option Session). found_as packed_hub number room Nothing (λ standing. Nothing) o) found
      ∙ ap (λ (o : List ℕ). copies_as packed_hub number room (record session { queue = [] }) Nothing (is_empty o)) quiet.1 in
      subst (λ (g : Giving). SaysNothing hub g.hub number session) (sym whole) (record {
        live = quiet.0;
        silent = quiet.1;
        none = quiet.2;
        there = found;
        again = quiet-given packed_hub number 1 (record session { queue = [] }) found (quiet.0, quiet.1, quiet.2, refl);
      })

-- ---- it waits for its end

module _ (number room : ℕ) where
  copies-other : (given : Given) (s : Session) (hub : Hub) → (given ≡ Ending → ⊥) → (copies_or given number room s hub).given ≡ Ending → ⊥
  copies-other given s hub other is = by (is_empty s.output) is
    where
      by : (b : Bool) → (copies_as hub number room s given b).given ≡ Ending → ⊥
      by true e = other e
      by false e = cc

  after-other : (standing : SessionStatus) → given_after standing ≡ Ending → ⊥
  after-other (Ended reason) is = cc
  after-other (AskedToStop rcode delay) is = cc
  after-other (Stopped since) is = cc
  after-other Live is = cc

  reaction-other : (hub : Hub) → (after_reaction number room hub).given ≡ Ending → ⊥
  reaction-other hub is = by (session_of hub number) is
    where
      by : (o : Option Session) → (found_as hub number room Worked given_after o).given ≡ Ending → ⊥
      by None e = cc
      by (Some s) e = copies-other (given_after s.standing) s hub (after-other s.standing) e

  packing-other : (hub : Hub) → (after_packing number room hub).given ≡ Ending → ⊥
  packing-other hub is = by (session_of hub number) is
    where
      by : (o : Option Session) → (found_as hub number room Nothing (λ standing. Nothing) o).given ≡ Ending → ⊥
      by None e = cc
      by (Some s) e = copies-other Nothing s hub (λ e. cc) e

-- the session was stopped, and all of it was handed out
pub record IsResting (hub : Hub) (g : Giving) (session : Session) : Type 0 where
  pub stopped : is_stopped session.standing ≡ true
  pub silent : session.output ≡ []
  pub same : g.hub ≡ hub

module _ (hub : Hub) (number room : ℕ) (session : Session) (there : session_of hub number ≡ Some session) where
  by-message : (o : Option (List ℕ × List ℕ)) → (works_as hub number room o).given ≡ Ending → ⊥
  by-message None is = packing-other number room (in_session number (with_next_push (keeps_now hub) (tells_now hub) (now hub)) hub) is
  by-message (Some found) is = reaction-other number room (reacted found.0 number (in_session number (without_first found.1) hub)) is

  by-standing : session.output ≡ [] → (s : SessionStatus) → session.standing ≡ s → (by_standing s number room session hub).given ≡ Ending → IsResting hub (by_standing s number room session hub) session
  by-standing silent (Ended reason) e is = cc
  by-standing silent (AskedToStop rcode delay) e is = absurd (reaction-other number room (in_session number (stopped (keeps_now hub) rcode delay (now hub)) hub) is)
  by-standing silent (Stopped since) e is = record { stopped = ap is_stopped e; silent = silent; same = refl }
  by-standing silent Live e is = absurd (by-message (first_message session.input) is)

  by-output : (o : List ℕ) → session.output ≡ o → (output_as hub number room session (is_empty o)).given ≡ Ending → IsResting hub (output_as hub number room session (is_empty o)) session
  by-output [] e is = by-standing e session.standing refl is
  by-output (x ∷ xs) e is = cc

  pub ends-resting : (give hub number room).given ≡ Ending → IsResting hub (give hub number room) session
  ends-resting is =
      let reaches : give hub number room ≡ output_as hub number room session (is_empty session.output) = ap (give_as hub number room) there in
      subst (λ (g : Giving). IsResting hub g session) (sym reaches) (by-output session.output refl (sym (ap (λ (g : Giving). g.given) reaches) ∙ is))

-- ---- several calls

module _ (P : Emitted → Type 0) (number : ℕ) (gives : (room : ℕ) (e : Emitted) → P e → P (with_giving (give e.hub number room) number e))
    (reacts : (e : Emitted) → P e → P (record e { reacted = true })) (tells : (e : Emitted) (reason : EndReason) → P e → P (record e { over = Some reason })) where
  -- what each turn keeps
  pub turns-keep : (turns budget : ℕ) (e : Emitted) → P e → P (emitted turns number budget e)
  turns-keep zero budget e h = h
  turns-keep (suc turns) budget e h = by (λ n later k. turns-keep turns n later k) (budget == 0)
    where
      g : Giving
      g = give e.hub number budget

      then : Emitted
      then = with_giving g number e

      behind : P then
      behind = gives budget e h

      Others : Type 0
      Others = (n : ℕ) (later : Emitted) → P later → P (emitted turns number n later)

      by_given : Others → (given : Given) → P (elim given as (λ _. Emitted) [
        | Bytes n ↦ emitted turns number (budget - n) then
        | Worked ↦ emitted turns number budget (record then { reacted = true })
        | Nothing ↦ then
        | Ending ↦ then
        | End reason ↦ record then { over = Some reason }
      ])
      by_given others (Bytes n) = others (budget - n) then behind
      by_given others Worked = others budget (record then { reacted = true }) (reacts then behind)
      by_given others Nothing = behind
      by_given others Ending = behind
      by_given others (End reason) = tells then reason behind

      by : Others → (b : Bool) → P (elim b as (λ _. Emitted) [
        | true ↦ e
        | false ↦ elim g.given as (λ _. Emitted) [
          | Bytes n ↦ emitted turns number (budget - n) then
          | Worked ↦ emitted turns number budget (record then { reacted = true })
          | Nothing ↦ then
          | Ending ↦ then
          | End reason ↦ record then { over = Some reason }
        ]
      ])
      by others true = h
      by others false = by_given others g.given

octets-stay : (number most turns budget : ℕ) (e : Emitted) → most ≤ length e.octets → most ≤ length (emitted turns number budget e).octets
octets-stay number most turns budget e h =
    turns-keep (λ d. most ≤ length d.octets) number
    (λ room d k. longer most (length d.octets) (length (give d.hub number room).octets) (length (d.octets ++ (give d.hub number room).octets)) k (length-append d.octets (give d.hub number room).octets))
    (λ d k. k) (λ d reason k. k) turns budget e h
  where
    longer : (most a b both : ℕ) → most ≤ a → both ≡ a + b → most ≤ both
    longer most a b both h is = omega (arith, h, is)

reacted-stays : (number turns budget : ℕ) (e : Emitted) → e.reacted ≡ true → (emitted turns number budget e).reacted ≡ true
reacted-stays number turns budget e h = turns-keep (λ d. d.reacted ≡ true) number (λ room d k. k) (λ d k. refl) (λ d reason k. k) turns budget e h

-- the first call had nothing to say, or waits for the end
pub record StaysStill (g : Giving) (number : ℕ) (start e : Emitted) : Type 0 where
  pub answers : (g.given ≡ Nothing) ⊎ (g.given ≡ Ending)
  pub is : e ≡ with_giving g number start

module _ (turns number budget : ℕ) (start : Emitted) (some : 0 < budget) where
  abbrev g : Giving
  g = give start.hub number budget

  abbrev then : Emitted
  then = with_giving g number start

  abbrev by_given : Given → Emitted
  by_given given = elim given as (λ _. Emitted) [
    | Bytes n ↦ emitted turns number (budget - n) then
    | Worked ↦ emitted turns number budget (record then { reacted = true })
    | Nothing ↦ then
    | Ending ↦ then
    | End reason ↦ record then { over = Some reason }
  ]

  -- no octet came, no message was reacted to, and no end was told
  abbrev IsStill : Emitted → Type 0
  IsStill e = (length e.octets ≡ 0) × (e.reacted ≡ false) × (e.over ≡ None)

  still-given : (given : Given) → g.given ≡ given → IsStill (by_given given) → StaysStill g number start (by_given given)
  still-given (Bytes n) is still =
      let some_octets : 0 < length g.octets = bytes-some start.hub number budget some n is in
      absurd (too-many (length start.octets) (length g.octets) (length then.octets) (length (emitted turns number (budget - n) then).octets) some_octets
      (length-append start.octets g.octets) (octets-stay number (length then.octets) turns (budget - n) then (omega arith)) still.0)
    where
      too-many : (a b both all : ℕ) → 0 < b → both ≡ a + b → both ≤ all → all ≡ 0 → ⊥
      too-many a b both all some is longer none = omega (arith, some, is, longer, none)
  still-given Worked is still = absurd (true≢false (sym (reacted-stays number turns budget (record then { reacted = true }) refl) ∙ still.1))
  still-given Nothing is still = record { answers = inl is; is = refl }
  still-given Ending is still = record { answers = inr is; is = refl }
  still-given (End reason) is still = absurd cc

  pub stays-still : IsStill (emitted (suc turns) number budget start) → StaysStill g number start (emitted (suc turns) number budget start)
  stays-still still = by (budget == 0) (not-zero budget some) still
    where
      not-zero : (n : ℕ) → 0 < n → (n == 0) ≡ false
      not-zero n some = ne_eqb n 0 (omega (arith, some))

      by : (b : Bool) → b ≡ false → IsStill (elim b as (λ _. Emitted) [ true ↦ start | false ↦ by_given g.given ]) → StaysStill g number start (elim b as (λ _. Emitted) [ true ↦ start | false ↦ by_given g.given ])
      by true is still = absurd (true≢false is)
      by false is still = still-given g.given refl still
