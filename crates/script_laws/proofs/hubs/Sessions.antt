-- What is so of the sessions of a hub to which calls lead.
--     reached-sessions, begun-tell-since
use Rattle.std.proofs.Common.{◌≡◌, ℕ, ◌<◌, ◌≤◌, Option, Some, None, sym, ◌∙◌, ap, subst, refl}
use Rattle.std.specs.Prelude.{find, option_map, ◌==◌}
use Rattle.std.specs.List.{AllByRecursion}
use Rattle.dnsname.specs.Names.{Labels}
use Rattle.inflight.specs.Flight.{FirstAnswersEnd}
use Rattle.pushserver.specs.Calls.{after_calls, BringsOctets}
use Rattle.pushserver.specs.Hubs.{newest, session_of}
use Rattle.pushserver.specs.PlainHubs.{Hub, Session, Note, told, new_hub}
use Rattle.pushserver.specs.SoundHubs.{IsSoundSession}
use Rattle.pushserver.specs.ToldMessages.{TellsHistory}
use Rattle.livesessions.proofs.SessionLists.{same-number, found-one}
use Rattle.pushserver.proofs.hub_steps.Pairs.{all-weaken}
use Rattle.pushserver.proofs.session_steps.Lists.{found-each}
use Rattle.pushtelling.specs.Runs.{LiesBetween, notes_of}
use Rattle.pushtelling.proofs.Between.{notes_lie_between}
use Rattle.pushtelling.proofs.Calls.{sessions_tell}
use Rattle.flight_laws.proofs.FirstEnds.{first_answers_end}
use Rattle.script_laws.specs.Reached.{FitsCall, IsReached, ReachedSessions, BegunOnesTellSince}
use Rattle.script_laws.proofs.hubs.Sound.{reached-sound}
use Rattle.script_laws.proofs.hubs.Stops.{HasFitStop, HaveFitStops, stops-fit}

-- a session that is found has a number that was given out
below-found : (hub : Hub) (number : ℕ) (session : Session) → session_of hub number ≡ Some session → AllByRecursion (IsSoundSession hub) hub.sessions → number < hub.numbers_given
below-found hub number session there all = by (find (λ (e : ℕ × Session). e.0 == number) hub.sessions) refl there
  where
    by : (o : Option (ℕ × Session)) → find (λ (e : ℕ × Session). e.0 == number) hub.sessions ≡ o → option_map (λ (e : ℕ × Session). e.1) o ≡ Some session → number < hub.numbers_given
    by None is found = absurd cc
    by (Some e) is found =
        let both = found-each (IsSoundSession hub) (λ (e : ℕ × Session). e.0 == number) hub.sessions e all is in
        subst (λ (n : ℕ). n < hub.numbers_given) (same-number e.0 number both.1) both.0.below

pub reached-below : (hub : Hub) (number : ℕ) (session : Session) → IsReached hub → session_of hub number ≡ Some session → number < hub.numbers_given
reached-below hub number session r there = below-found hub number session there (reached-sound hub r).sessions

reached-history : (hub : Hub) (number : ℕ) (session : Session) → IsReached hub → session_of hub number ≡ Some session → TellsHistory hub session
reached-history hub number session r there =
    let octets = all-weaken FitsCall BringsOctets (λ call fit. fit.0) r.calls r.fit in
    let all : AllByRecursion (λ e. TellsHistory hub e.1) hub.sessions = subst (λ (h : Hub). AllByRecursion (λ e. TellsHistory h e.1) h.sessions) (sym r.is) (sessions_tell r.start r.timers r.calls r.homes octets) in
    found-one (TellsHistory hub) number hub.sessions session there all

pub reached-sessions : ReachedSessions
reached-sessions hub number session r there = record {
  history = reached-history hub number session r there;
  ends = found-one FirstAnswersEnd number hub.sessions session there (subst (λ (h : Hub). AllByRecursion (λ e. FirstAnswersEnd e.1) h.sessions) (sym r.is) (first_answers_end r.start r.timers r.calls));
  stop = found-one HasFitStop number hub.sessions session there (subst HaveFitStops (sym r.is) (stops-fit r.calls (new_hub r.start r.timers) r.fit tt));
  below = reached-below hub number session r there;
  ids = (reached-history hub number session r there).ids;
}

-- ---- since it was connected

abbrev Since : ℕ → Note → Type 0
Since start n = (name : Labels) → start ≤ told n name

pub begun-tell-since : BegunOnesTellSince
begun-tell-since hub number start session b there =
    let last : Hub = after_calls b.calls b.first in
    let lies = notes_lie_between b.first b.calls number session b.fresh (ap (λ (h : Hub). session_of h number) (sym b.is) ∙ there) in
    subst (λ (h : Hub). AllByRecursion (Since start) (notes_of h session)) (sym b.is)
    (all-weaken (LiesBetween (newest b.first) (newest last)) (Since start) (λ n lie name. subst (λ (p : ℕ). p ≤ told n name) b.newest_then (lie name).0) (notes_of last session) lies)
