-- `give`, on the hub that is kept and on the plain one.
--     gives_stand
use Rattle.std.proofs.Common.{◌≡◌, ℕ, Bool, true, false, List, [], ◌∷◌, length, take, Option, Some, None, sym, ◌∙◌, ap, subst, refl}
use Rattle.std.specs.Prelude.{min}
use Rattle.push_base.specs.Cases.{is_empty}
use Rattle.dsotlv.specs.Messages.{first_message}
use Rattle.pushsession.specs.Kept.{KeptSession, keeping, telling}
use Rattle.pushsession.specs.Sessions.{is_open, copied, stopped, without_first}
use Rattle.pushsession.specs.Subscribing.{with_next_push}
use Rattle.pushsession.specs.declared.session_status.SessionStatus.{SessionStatus}
use Rattle.pushsession.specs.declared.session_status.SessionStatus.TheVariants.{Live, AskedToStop, Stopped, Ended}
use Rattle.pushserver.specs.declared.given.Given.{Given}
use Rattle.pushserver.specs.declared.given.Given.TheVariants.{Bytes, Worked, Nothing}
use Rattle.pushserver.specs.PlainHubs.{Hub, Session, plain_keeps, plain_tells}
use Rattle.livesessions.specs.NumberedSessions.{Numbered, session_in, in_sessions}
use Rattle.pushserver.specs.Hubs.{newest, now, records_now, session_of, in_session}
use Rattle.pushserver.specs.Giving.{reacted, copies, copies_or, given_after, after_reaction, after_packing, works, by_standing, give}
use Rattle.pushserver.specs.KeptHubs.{KeptHub, StandsFor}
use Rattle.pushserver.specs.Simulation.{BothGive, GivesStand}
use Rattle.livesessions.proofs.SessionLists.{found-in}
use Rattle.pushserver.proofs.session_steps.Standing.{copied-keeps}
use Rattle.pushserver.proofs.session_steps.Saying.{stops-keeps, without_first-keeps}
use Rattle.pushserver.proofs.session_steps.Parts.{SessionFits}
use Rattle.pushserver.proofs.session_steps.Octets.{first_octets}
use Rattle.pushserver.proofs.session_steps.Packing.{with_next_push-keeps}
use Rattle.pushserver.proofs.told_rows.HubTells.{session_packable}
use Rattle.pushserver.proofs.hub_steps.Standing.{kept_of, Stands, with_kept, fitting, in-stands, found-stands, FoundBoth, both_found}
use Rattle.pushserver.proofs.hub_steps.Cases.{copies_as, found_as, works_as, output_as, give_as}
use Rattle.pushserver.proofs.session_steps.Since.{stopped-since, with_next_push-since}
use Rattle.pushserver.proofs.hub_steps.Reacting.{IsQuiet, found-later, reacted-stands}

nothing_in : {X : Type 0} (xs : List X) → is_empty xs ≡ true → xs ≡ []
nothing_in [] e = refl
nothing_in (x ∷ xs) e = absurd cc

-- ---- what is copied

module _ (number room : ℕ) (hub : Hub) (from : ℕ) (ks : Numbered KeptSession) (h : Stands hub from ks) where
  copies-stands : (s : KeptSession) (p : Session) → SessionFits hub (number, s) (number, p) → BothGive (copies number room s (kept_of hub from ks)) (copies number room p hub)
  copies-stands s p pair = record {
    octets = ap (take room) pair.stands.output;
    given = ap (λ (o : List ℕ). Bytes (min room (length o))) pair.stands.output;
    hub = in-stands hub from ks (copied room) (copied room) (λ point session since. since) number (copied-keeps hub room) h;
  }

  copies_or-stands : (given : Given) (s : KeptSession) (p : Session) → SessionFits hub (number, s) (number, p) → BothGive (copies_or given number room s (kept_of hub from ks)) (copies_or given number room p hub)
  copies_or-stands given s p pair = subst (λ (o : List ℕ). BothGive (copies_or given number room s (kept_of hub from ks)) (copies_as hub number room p given (is_empty o))) pair.stands.output (by (is_empty s.output))
    where
      by : (b : Bool) → BothGive (copies_as (kept_of hub from ks) number room s given b) (copies_as hub number room p given b)
      by true = record { octets = refl; given = refl; hub = h }
      by false = copies-stands s p pair

  found-gives : (none : Given) (given : SessionStatus → Given) (k : Option KeptSession) (p : Option Session) → FoundBoth hub number k p → BothGive (found_as (kept_of hub from ks) number room none given k) (found_as hub number room none given p)
  found-gives none given None None both = record { octets = refl; given = refl; hub = h }
  found-gives none given None (Some p) both = absurd both
  found-gives none given (Some s) None both = absurd both
  found-gives none given (Some s) (Some p) both =
      subst (λ (st : SessionStatus). BothGive (copies_or (given s.standing) number room s (kept_of hub from ks)) (copies_or (given st) number room p hub)) both.stands.standing (copies_or-stands (given s.standing) s p both)

  packing-gives : BothGive (after_packing number room (kept_of hub from ks)) (after_packing number room hub)
  packing-gives = found-gives Nothing (λ standing. Nothing) (session_in number ks) (session_in number hub.sessions) (both_found hub number ks hub.sessions (fitting h))

  reaction-gives : BothGive (after_reaction number room (kept_of hub from ks)) (after_reaction number room hub)
  reaction-gives = found-gives Worked given_after (session_in number ks) (session_in number hub.sessions) (both_found hub number ks hub.sessions (fitting h))

after-gives : (number room : ℕ) (k : KeptHub) (hub : Hub) → StandsFor k hub → BothGive (after_reaction number room k) (after_reaction number room hub)
after-gives number room k hub h = with_kept (λ k. BothGive (after_reaction number room k) (after_reaction number room hub)) k hub h (reaction-gives number room hub k.seen.number k.sessions)

-- ---- a session without output

module _ (number room : ℕ) (hub : Hub) (from : ℕ) (ks : Numbered KeptSession) (h : Stands hub from ks) (s : KeptSession) (p : Session) (is : session_of hub number ≡ Some p) (pair : SessionFits hub (number, s) (number, p)) (silent : p.output ≡ []) where
  some_same : (q : Session) → session_of hub number ≡ Some q → p ≡ q
  some_same q found = let same : Some p ≡ Some q = sym is ∙ found in cc

  quiet : IsQuiet number hub
  quiet q found = ap (λ (r : Session). r.output) (sym (some_same q found)) ∙ silent

  packs-gives : BothGive (works_as (kept_of hub from ks) number room None) (works_as hub number room None)
  packs-gives =
      let f = with_next_push keeping (telling (records_now hub)) (now hub) in
      let g = with_next_push (plain_keeps (newest hub)) (plain_tells hub.start hub.history) (now hub) in
      packing-gives number room (in_session number g hub) from (in_sessions number f ks)
      (found-stands hub from ks f g (with_next_push-since (records_now hub) (now hub)) number (λ k q found t. with_next_push-keeps hub k q t (newest hub) (now hub) (quiet q.1 found) (session_packable hub h.sound.states k q t)) h)

  message-gives : is_open p.standing ≡ true → (found : List ℕ × List ℕ) → first_message p.input ≡ Some found → BothGive (works_as (kept_of hub from ks) number room (Some found)) (works_as hub number room (Some found))
  message-gives opens found first =
      after-gives number room (reacted found.0 number (in_session number (without_first found.1) (kept_of hub from ks))) (reacted found.0 number taken)
      (reacted-stands number taken from (in_sessions number (without_first found.1) ks) found.0
      (found-later (λ q. q.output ≡ []) number (without_first found.1) (λ q silent. silent) hub taken (found-in number (without_first found.1) hub.sessions) quiet)
      (found-later (λ q. is_open q.standing ≡ true) number (without_first found.1) (λ q opens. opens) hub taken (found-in number (without_first found.1) hub.sessions)
      (λ q at. ap (λ (r : Session). is_open r.standing) (sym (some_same q at)) ∙ opens))
      (first_octets p.input found first pair.sound.octets)
      (found-stands hub from ks (without_first found.1) (without_first found.1) (λ point session since. since) number
      (λ k q at t. without_first-keeps hub found k q (ap (λ (r : Session). first_message r.input) (sym (some_same q.1 at)) ∙ first) t) h))
    where
      taken : Hub
      taken = in_session number (without_first found.1) hub

  works-gives : is_open p.standing ≡ true → BothGive (works number room s (kept_of hub from ks)) (works number room p hub)
  works-gives opens = subst (λ (i : List ℕ). BothGive (works_as (kept_of hub from ks) number room (first_message i)) (works number room p hub)) (sym pair.stands.input) (by (first_message p.input) refl)
    where
      by : (o : Option (List ℕ × List ℕ)) → first_message p.input ≡ o → BothGive (works_as (kept_of hub from ks) number room o) (works_as hub number room o)
      by None first = packs-gives
      by (Some found) first = message-gives opens found first

  standing-gives : (standing : SessionStatus) → p.standing ≡ standing → BothGive (by_standing standing number room s (kept_of hub from ks)) (by_standing standing number room p hub)
  standing-gives (Ended reason) e = record { octets = refl; given = refl; hub = h }
  standing-gives (Stopped since) e = record { octets = refl; given = refl; hub = h }
  standing-gives Live e = works-gives (ap is_open e)
  standing-gives (AskedToStop rcode delay) e =
      let f = stopped keeping rcode delay (now hub) in
      let g = stopped (plain_keeps (newest hub)) rcode delay (now hub) in
      reaction-gives number room (in_session number g hub) from (in_sessions number f ks) (found-stands hub from ks f g (stopped-since rcode delay (now hub)) number (λ k q found t. stops-keeps hub (newest hub) rcode delay (now hub) k q (quiet q.1 found) t) h)

-- ---- `give`

give-stands : (number room : ℕ) (hub : Hub) (from : ℕ) (ks : Numbered KeptSession) → Stands hub from ks → BothGive (give (kept_of hub from ks) number room) (give hub number room)
give-stands number room hub from ks h = by (session_in number ks) (session_in number hub.sessions) refl (both_found hub number ks hub.sessions (fitting h))
  where
    by_output : (s : KeptSession) (p : Session) → session_of hub number ≡ Some p → SessionFits hub (number, s) (number, p) → (b : Bool) → is_empty p.output ≡ b
        → BothGive (output_as (kept_of hub from ks) number room s b) (output_as hub number room p b)
    by_output s p is pair false some = copies-stands number room hub from ks h s p pair
    by_output s p is pair true none =
        subst (λ (st : SessionStatus). BothGive (by_standing s.standing number room s (kept_of hub from ks)) (by_standing st number room p hub)) pair.stands.standing
        (standing-gives number room hub from ks h s p is pair (nothing_in p.output none) s.standing (sym pair.stands.standing))

    by : (s : Option KeptSession) (p : Option Session) → session_of hub number ≡ p → FoundBoth hub number s p → BothGive (give_as (kept_of hub from ks) number room s) (give_as hub number room p)
    by None None is both = record { octets = refl; given = refl; hub = h }
    by None (Some p) is both = absurd both
    by (Some s) None is both = absurd both
    by (Some s) (Some p) is both =
        subst (λ (o : List ℕ). BothGive (output_as (kept_of hub from ks) number room s (is_empty o)) (give_as hub number room (Some p))) (sym both.stands.output) (by_output s p is both (is_empty p.output) refl)

pub gives_stand : GivesStand
gives_stand k hub number room h = with_kept (λ k. BothGive (give k number room) (give hub number room)) k hub h (give-stands number room hub k.seen.number k.sessions)
