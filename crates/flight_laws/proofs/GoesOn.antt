-- No message ends a session, and none but a Retry Delay closes its client.
--     sessions-go-on, clients-go-on
use Rattle.std.proofs.Common.{◌≡◌, ℕ, Bool, true, false, List, [], ◌∷◌, Option, Some, None, sym, ap, ◌∙◌, subst, refl, true≢false}
use Rattle.std.specs.Prelude.{IsTrue, option_map, is_some, if◌then◌else◌}
use Rattle.push_base.specs.Cases.{is_empty}
use Rattle.dsotlv.specs.Messages.{first_message}
use Rattle.dsotlv.specs.declared.message.Notice.{Notice}
use Rattle.dsosession.specs.declared.session.CloseReason.{CloseReason}
use Rattle.dsosession.specs.declared.session.EndReason.TheVariants as ends
use Rattle.pushsession.specs.declared.session_status.SessionStatus.{SessionStatus}
use Rattle.pushsession.specs.declared.session_status.SessionStatus.TheVariants.{Live}
use Rattle.pushsession.specs.Sessions.{is_open, copied, ended_where, without_first}
use Rattle.pushsession.specs.Subscribing.{with_next_push, says_notices}
use Rattle.pushserver.specs.declared.given.Given.{Given}
use Rattle.pushserver.specs.declared.given.Given.TheVariants.{Worked, Nothing, End}
use Rattle.pushserver.specs.Giving.{did, bytes_of, given_of, given_after, copies, copies_or, by_standing, give}
use Rattle.pushserver.specs.Hubs.{now, keeps_now, tells_now, session_of, in_session}
use Rattle.pushserver.specs.PlainHubs.{Session, Hub, Giving}
use Rattle.livesessions.proofs.SessionLists.{found-in}
use Rattle.pushserver.proofs.hub_steps.Cases.{found_as, works_as, output_as, give_as}
use Rattle.pushclient.specs.Clients.{Client, Connection, closed_as}
use Rattle.pushclient.specs.ServerMessages.{ServerMessage, accepts, refuses, grants, tells, delays}
use Rattle.pushclient.specs.FittingMessages.{is_delay}
use Rattle.pushclient.specs.Steps.{step}
use Rattle.pushclient.proofs.EveryCut.{is-at}
use Rattle.inflight.specs.Messages.{ClientMessage, subscribes, unsubscribes, reconfirms, requests_keepalive, Flying}
use Rattle.inflight.specs.Flight.{IsUnderWay}
use Rattle.flight_laws.specs.GoesOn.{gives_on, GivesOn, GoesOn, SessionsGoOn, IsDelayed, ClientsGoOn}
use Rattle.flight_laws.specs.Meeting.{after, behind_for, after_entry}
use Rattle.flight_laws.specs.Taking.{closed_by, TakesFirst}
use Rattle.flight_laws.proofs.EachGive.{first-met}
use Rattle.flight_laws.proofs.GivesSo.{after-is, gives-so}
use Rattle.flight_laws.proofs.OnOctets.{steps-taken, steps-wait}

-- ---- the session

-- octets were written, or a message was reacted to without any
works-on : (room : ℕ) (s : Session) → IsTrue (gives_on (given_of Worked room s))
works-on room s = by (is_empty s.output)
  where
    by : (b : Bool) → IsTrue (gives_on (if b then Worked else bytes_of room s))
    by true = refl
    by false = refl

-- it goes on, where it goes on in this standing
goes-so : {g : Giving} {number : ℕ} (later : Session) → session_of g.hub number ≡ Some later → later.standing ≡ Live → IsTrue (gives_on g.given) → GoesOn g number
goes-so {g} later there live given = record { later = later; there = there; goes_on = subst (λ (s : SessionStatus). GivesOn s g.given) (sym live) given }

-- behind a message it goes on, or fell behind by the entry of a RECONFIRM, which has no answer
worked-on : (hub : Hub) (m : ClientMessage) (room : ℕ) (s : Session) → s.standing ≡ Live → s.output ≡ [] → (given : Given) → given ≡ given_of (given_after (after_entry hub m s).standing) room (after_entry hub m s)
    → GivesOn (after_entry hub m s).standing given
worked-on hub m room s live silent given is = by (behind_for m hub (after hub m s)) (quiet m) is
  where
    quiet : (k : ClientMessage) (p : ℕ) → behind_for k hub (after hub k s) ≡ Some p → (after hub k s).output ≡ []
    quiet (subscribes id question) p at = absurd cc
    quiet (unsubscribes id) p at = absurd cc
    quiet (reconfirms rr) p at = silent
    quiet (requests_keepalive id) p at = absurd cc

    fallen : Option ℕ → Session
    fallen o = ended_where (keeps_now hub) (option_map (λ p. ends.Behind p) o) (after hub m s)

    by : (o : Option ℕ) → ((p : ℕ) → o ≡ Some p → (after hub m s).output ≡ []) → given ≡ given_of (given_after (fallen o).standing) room (fallen o) → GivesOn (fallen o).standing given
    by None none is =
        let standing : (after hub m s).standing ≡ Live = (after-is hub m s).standing ∙ live in
        subst (λ (t : SessionStatus). GivesOn t given) (sym standing)
        (subst (λ (g : Given). IsTrue (gives_on g)) (sym (is ∙ ap (λ (t : SessionStatus). given_of (given_after t) room (after hub m s)) standing)) (works-on room (after hub m s)))
    by (Some p) none is = (p, refl, is ∙ ap (λ (b : Bool). if b then End (ends.Behind p) else bytes_of room (fallen (Some p))) (ap is_empty (none p refl)))

module _ (number room : ℕ) where
  abbrev On : Giving → Type 0
  On g = GoesOn g number

  module _ (hub : Hub) (session : Session) (there : session_of hub number ≡ Some session) (live : session.standing ≡ Live) where
    copies-on : On (copies number room session hub)
    copies-on = goes-so (copied room session) (found-in number (copied room) hub.sessions ∙ ap (option_map (copied room)) there) live refl

    nothing-or : On (copies_or Nothing number room session hub)
    nothing-or = by (is_empty session.output)
      where
        by : (b : Bool) → On (if b then did Nothing hub else copies number room session hub)
        by true = goes-so session there live refl
        by false = copies-on

  module _ (hub : Hub) (told : List (ℕ × ℕ)) (session : Session) (client : Client) (c : Connection) (up_wire down_wire : List ℕ)
      (there : session_of hub number ≡ Some session) (live : session.standing ≡ Live) (i : IsUnderWay hub told session client c up_wire down_wire) where
    -- a PUSH leaves it live
    packs-live : (with_next_push (keeps_now hub) (tells_now hub) (now hub) session).standing ≡ Live
    packs-live = by ((tells_now hub).packed session.subscriptions session.queue).0
      where
        by : (notices : List Notice) → (says_notices (keeps_now hub) (now hub) notices (record session { queue = ((tells_now hub).packed session.subscriptions session.queue).1 })).standing ≡ Live
        by [] = live
        by (n ∷ ns) = live

    by_first : (o : Option (List ℕ × List ℕ)) → first_message session.input ≡ o → session.output ≡ [] → On (works_as hub number room o)
    by_first None none silent =
        let pack : Session → Session = with_next_push (keeps_now hub) (tells_now hub) (now hub) in
        let packed : Hub = in_session number pack hub in
        let there_later : session_of packed number ≡ Some (pack session) = found-in number pack hub.sessions ∙ ap (option_map pack) there in
        subst (λ (o : Option Session). On (found_as packed number room Nothing (λ _. Nothing) o)) (sym there_later) (nothing-or packed (pack session) there_later packs-live)
    by_first (Some found) first silent =
        let one = first-met hub number told session client c up_wire down_wire found there live silent first i in
        let m = one.up.first in
        let s : Session = without_first found.1 session in
        let gave = gives-so hub number room session m found.1 one.met in
        let reaches : give hub number room ≡ works_as hub number room (Some found) =
        ap (give_as hub number room) there ∙ ap (λ (l : List ℕ). output_as hub number room session (is_empty l)) silent
        ∙ ap (λ (standing : SessionStatus). by_standing standing number room session hub) live ∙ ap (works_as hub number room) first in
        subst On reaches (record {
          later = _;
          there = gave.leaves.session;
          goes_on = worked-on hub m room s live silent (give hub number room).given gave.given;
        })

    by_output : (output : List ℕ) → session.output ≡ output → On (output_as hub number room session (is_empty output))
    by_output (o ∷ os) some = copies-on hub session there live
    by_output [] silent = subst (λ (standing : SessionStatus). On (by_standing standing number room session hub)) (sym live)
        (by_first (first_message session.input) refl silent)

    goes-on : On (give hub number room)
    goes-on = subst (λ (o : Option Session). On (give_as hub number room o)) (sym there) (by_output session.output refl)

pub sessions-go-on : SessionsGoOn
sessions-go-on hub number room told session client c up_wire down_wire there live i = goes-on number room hub told session client c up_wire down_wire there live i

-- ---- the client

-- what closes is a Retry Delay
delayed : (session : Session) (flying : List Flying) (f : Flying) (fs : List Flying) (reason : CloseReason) (says : ServerMessage) → flying ≡ f ∷ fs → f.says ≡ says → closed_by says ≡ Some reason
    → is_open session.standing ≡ false → IsDelayed session flying reason
delayed session flying f fs reason (delays rcode delay) comes is closed stopped =
    record { rcode = rcode; delay = delay; first = f; others = fs; comes = comes; says = is; closes_so = cc; stopped = stopped }
delayed session flying f fs reason (accepts id) comes is closed stopped = absurd cc
delayed session flying f fs reason (refuses id) comes is closed stopped = absurd cc
delayed session flying f fs reason (grants id) comes is closed stopped = absurd cc
delayed session flying f fs reason (tells notices) comes is closed stopped = absurd cc

pub clients-go-on : ClientsGoOn
clients-go-on hub told session client c up_wire down_wire reason different there before closes = by (first_message c.input) refl
  where
    by : (o : Option (List ℕ × List ℕ)) → first_message c.input ≡ o → IsDelayed session before.flying reason
    by None none =
        let is = is-at client c there in
        let unclosed : closed_as client ≡ None = ap closed_as is.same ∙ is.unclosed in
        absurd (true≢false (ap is_some (sym closes ∙ ap closed_as (steps-wait client c there none) ∙ unclosed)))
    by (Some (whole, rest)) first =
        let took : TakesFirst hub told session client c up_wire down_wire before (step client).1 = steps-taken hub told session client c up_wire down_wire whole rest different there first before in
        let closed : closed_by took.first.says ≡ Some reason = sym took.closed ∙ sym (ap (λ (x : Option Connection). closed_in x) took.there) ∙ closes in
        delayed session before.flying took.first took.others reason took.first.says took.comes refl closed (took.stopped (delay-only took.first.says closed))
      where
        closed_in : Option Connection → Option CloseReason
        closed_in x = elim x [ None ↦ None | Some d ↦ d.closed ]

        delay-only : (says : ServerMessage) → closed_by says ≡ Some reason → is_delay says ≡ true
        delay-only (delays rcode delay) is = refl
        delay-only (accepts id) is = absurd cc
        delay-only (refuses id) is = absurd cc
        delay-only (grants id) is = absurd cc
        delay-only (tells notices) is = absurd cc
