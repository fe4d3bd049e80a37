-- The hub that is kept for a plain one, and what a change of sessions leaves of that.
--     kept_of hub from sessions      the hub that is kept, of whose history all is known from a point on
--     Stands hub from sessions      it stands for the plain hub
--     with_kept      what holds of that hub holds of what is kept
--     fitting      each session fits its own
--     each-stands, in-stands      all sessions change, and one does
--     FoundBoth, both_found      the sessions of a number
use Rattle.std.proofs.Common.{◌≡◌, ℕ, ◌≤◌, Bool, true, false, cond, List, [], ◌∷◌, drop, length, Option, Some, None, sym, ◌∙◌, ap, subst, refl, arith}
use Rattle.std.proofs.lemmas.List.{length-map}
use Rattle.std.specs.Prelude.{find, option_map, ◌==◌}
use Rattle.std.specs.List.{AllZip, AllByRecursion}
use Rattle.pushsession.specs.Kept.{KeptSession}
use Rattle.pushserver.specs.PlainHubs.{Hub, Session}
use Rattle.history.specs.States.{state_at}
use Rattle.history.specs.Totals.{totals}
use Rattle.livesessions.specs.NumberedSessions.{session_in, in_sessions, all_sessions, AreApart}
use Rattle.pushserver.specs.Hubs.{newest, state_now, session_of, each_session, in_session, max_sessions}
use Rattle.pushserver.specs.KeptHubs.{KeptHub, SessionStandsFor, StandsFor, WaitSince}
use Rattle.pushserver.specs.SoundHubs.{IsSoundSession}
use Rattle.livesessions.proofs.SessionLists.{same-number, distinct-map}
use Rattle.pushserver.proofs.session_steps.Parts.{SessionFits, SessionKeeps, asks, waits, reads, writes, of_parts}
use Rattle.pushserver.proofs.session_steps.Since.{KeepsSince}
use Rattle.pushserver.proofs.hub_steps.Pairs.{zip-map, zip-all, zip-second, zip-first, zip-in, all-weaken, lone-number}
use Rattle.livesessions.proofs.SessionLists.{all-map}
use Rattle.pushserver.proofs.hub_steps.Pasts.{past-from}

abbrev pub kept_of : Hub → ℕ → List (ℕ × KeptSession) → KeptHub
kept_of hub from sessions = record {
  start = state_at hub.start hub.history from;
  timers = hub.timers;
  history = drop from hub.history;
  seen = record { state = state_now hub; newest = newest hub; counts = totals hub.history; number = from };
  sessions = sessions;
  numbers_given = hub.numbers_given;
}

-- what is kept is nothing else
is_kept_of : (k : KeptHub) (hub : Hub) → StandsFor k hub → k ≡ kept_of hub k.seen.number k.sessions
is_kept_of k hub h = λ i. record {
  start = h.past.start_is i;
  timers = h.timers i;
  history = h.past.entries i;
  seen = record { state = h.state i; newest = h.newest i; counts = h.past.counts_are i; number = k.seen.number };
  sessions = k.sessions;
  numbers_given = h.numbers_given i;
}

abbrev pub Stands : Hub → ℕ → List (ℕ × KeptSession) → Type 0
Stands hub from sessions = StandsFor (kept_of hub from sessions) hub

-- so what holds of that hub holds of what is kept
pub with_kept : (P : KeptHub → Type 0) (k : KeptHub) (hub : Hub) → StandsFor k hub → (Stands hub k.seen.number k.sessions → P (kept_of hub k.seen.number k.sessions)) → P k
with_kept P k hub h holds = let same = is_kept_of k hub h in subst P (sym same) (holds (subst (λ k. StandsFor k hub) same h))

-- ---- pairs of sessions

zip-fits : (hub : Hub) (ks : List (ℕ × KeptSession)) (ps : List (ℕ × Session)) → AllZip (SessionStandsFor hub) ks ps → AllByRecursion (IsSoundSession hub) ps → AllZip (SessionFits hub) ks ps
zip-fits hub [] [] stand sound = tt
zip-fits hub [] (p ∷ ps) stand sound = absurd stand
zip-fits hub (k ∷ ks) [] stand sound = absurd stand
zip-fits hub (k ∷ ks) (p ∷ ps) stand sound = (record { stands = stand.0; sound = sound.0 }, zip-fits hub ks ps stand.1 sound.1)

-- each session fits its own
pub fitting : {k : KeptHub} {hub : Hub} → StandsFor k hub → AllZip (SessionFits hub) k.sessions hub.sessions
fitting {k} {hub} h = zip-fits hub k.sessions hub.sessions h.sessions h.sound.sessions

pub fits-stand : (hub : Hub) (ks : List (ℕ × KeptSession)) (ps : List (ℕ × Session)) → AllZip (SessionFits hub) ks ps → AllZip (SessionStandsFor hub) ks ps
fits-stand hub = zip-all (SessionFits hub) (SessionStandsFor hub) (λ k p s. s.stands)

pub fits-sound : (hub : Hub) (ks : List (ℕ × KeptSession)) (ps : List (ℕ × Session)) → AllZip (SessionFits hub) ks ps → AllByRecursion (IsSoundSession hub) ps
fits-sound hub = zip-second (SessionFits hub) (IsSoundSession hub) (λ k p s. s.sound)

-- of the hub a session's rule needs all but the sessions; and its number may be further from the last
pub session-moved : (hub : Hub) (sessions : List (ℕ × Session)) (made : ℕ) → hub.numbers_given ≤ made → (k : ℕ × KeptSession) (p : ℕ × Session)
    → SessionFits hub k p → SessionFits (record hub { sessions = sessions; numbers_given = made }) k p
session-moved hub sessions made more k p s = of_parts (record hub { sessions = sessions; numbers_given = made }) k p s.stands.number (omega (arith, s.sound.below, more)) (asks hub k p s) (waits hub k p s) s.sound.watched (reads hub k p s) (writes hub k p s) s.stands.clocks s.stands.established s.stands.standing s.sound.rests

-- other sessions, each of which is kept
pub with_sessions-stands : (hub : Hub) (from : ℕ) (ks : List (ℕ × KeptSession)) (later : List (ℕ × KeptSession)) (sessions : List (ℕ × Session)) → Stands hub from ks
    → AllByRecursion (WaitSince from) later → AllZip (SessionFits hub) later sessions → AreApart sessions → length sessions ≤ max_sessions → Stands (record hub { sessions = sessions }) from later
with_sessions-stands hub from ks later sessions h since each once few = record {
  sound = record { begins = h.sound.begins; states = h.sound.states; sessions = fits-sound moved later sessions fit; numbers = once; few = few };
  timers = refl;
  numbers_given = refl;
  past = past-from hub.start hub.history from h.past.begins;
  state = refl;
  newest = refl;
  since = since;
  sessions = fits-stand moved later sessions fit;
}
  where
    moved : Hub
    moved = record hub { sessions = sessions }

    fit : AllZip (SessionFits moved) later sessions
    fit = zip-all (SessionFits hub) (SessionFits moved) (session-moved hub sessions hub.numbers_given (omega arith)) later sessions each

module _ (hub : Hub) (from : ℕ) (ks : List (ℕ × KeptSession)) (f : KeptSession → KeptSession) (g : Session → Session) (keeps_since : KeepsSince f) where
  -- each session changes, of which may be known since when its names wait
  pub each-stands : ((k : ℕ × KeptSession) (p : ℕ × Session) → WaitSince from k → SessionFits hub k p → SessionFits hub (k.0, f k.1) (p.0, g p.1)) → Stands hub from ks → Stands (each_session g hub) from (all_sessions f ks)
  each-stands keeps h =
      with_sessions-stands hub from ks (all_sessions f ks) (all_sessions g hub.sessions) h
      (all-map (λ (e : ℕ × KeptSession). (e.0, f e.1)) (WaitSince from) ks (all-weaken (WaitSince from) (λ e. WaitSince from (e.0, f e.1)) (λ e since. keeps_since from e.1 since) ks h.since))
      (zip-map (λ k p. WaitSince from k × SessionFits hub k p) (SessionFits hub) (λ (e : ℕ × KeptSession). (e.0, f e.1)) (λ (e : ℕ × Session). (e.0, g e.1)) (λ k p both. keeps k p both.0 both.1) ks hub.sessions
      (zip-first (WaitSince from) (SessionFits hub) ks hub.sessions h.since (fitting h)))
      (distinct-map (λ e. g e.1) hub.sessions h.sound.numbers)
      (subst (λ n. n ≤ max_sessions) (sym (length-map hub.sessions (λ (e : ℕ × Session). (e.0, g e.1)))) h.sound.few)

  -- the session of a number changes, of which may be known that it is the one that is found
  pub found-stands : (number : ℕ) → ((k : ℕ × KeptSession) (p : ℕ × Session) → session_of hub number ≡ Some p.1 → SessionFits hub k p → SessionFits hub (k.0, f k.1) (p.0, g p.1))
      → Stands hub from ks → Stands (in_session number g hub) from (in_sessions number f ks)
  found-stands number keeps h =
      with_sessions-stands hub from ks (in_sessions number f ks) (in_sessions number g hub.sessions) h
      (all-map (λ (e : ℕ × KeptSession). (e.0, cond (e.0 == number) (f e.1) e.1)) (WaitSince from) ks (all-weaken (WaitSince from) (λ e. WaitSince from (e.0, cond (e.0 == number) (f e.1) e.1)) (λ e since. one e since (e.0 == number)) ks h.since))
      (zip-in (SessionFits hub) (λ k p s. s.stands.number) number f g ks hub.sessions (lone-number number hub.sessions h.sound.numbers) keeps (fitting h))
      (distinct-map (λ (e : ℕ × Session). cond (e.0 == number) (g e.1) e.1) hub.sessions h.sound.numbers)
      (subst (λ n. n ≤ max_sessions) (sym (length-map hub.sessions (λ (e : ℕ × Session). (e.0, cond (e.0 == number) (g e.1) e.1)))) h.sound.few)
    where
      one : (e : ℕ × KeptSession) → WaitSince from e → (b : Bool) → WaitSince from (e.0, cond b (f e.1) e.1)
      one e since true = keeps_since from e.1 since
      one e since false = since

  pub in-stands : (number : ℕ) → SessionKeeps hub f g → Stands hub from ks → Stands (in_session number g hub) from (in_sessions number f ks)
  in-stands number keeps h = found-stands number (λ k p found s. keeps k p s) h

-- ---- the session of a number, as it is found

-- both are found, or none is
abbrev pub FoundBoth : Hub → ℕ → Option KeptSession → Option Session → Type 0
FoundBoth hub number None None = Unit {0}
FoundBoth hub number None (Some p) = ⊥
FoundBoth hub number (Some k) None = ⊥
FoundBoth hub number (Some k) (Some p) = SessionFits hub (number, k) (number, p)

-- a pair at its number
at_number : (hub : Hub) (number : ℕ) (k : ℕ × KeptSession) (p : ℕ × Session) → (k.0 == number) ≡ true → SessionFits hub k p → SessionFits hub (number, k.1) (number, p.1)
at_number hub number k p is s = let mine = same-number k.0 number is in subst (λ (n : ℕ × ℕ). SessionFits hub (n.0, k.1) (n.1, p.1)) (λ i. (mine i, (sym s.stands.number ∙ mine) i)) s

pub both_found : (hub : Hub) (number : ℕ) (ks : List (ℕ × KeptSession)) (ps : List (ℕ × Session)) → AllZip (SessionFits hub) ks ps → FoundBoth hub number (session_in number ks) (session_in number ps)
both_found hub number [] [] h = tt
both_found hub number [] (p ∷ ps) h = absurd h
both_found hub number (k ∷ ks) [] h = absurd h
both_found hub number (k ∷ ks) (p ∷ ps) h = by (k.0 == number) refl (p.0 == number) (ap (λ n. n == number) h.0.stands.number) (both_found hub number ks ps h.1)
  where
    by : (a : Bool) → (k.0 == number) ≡ a → (b : Bool) → (k.0 == number) ≡ b → FoundBoth hub number (session_in number ks) (session_in number ps)
        → FoundBoth hub number (option_map (λ (e : ℕ × KeptSession). e.1) (cond a (Some k) (find (λ (e : ℕ × KeptSession). e.0 == number) ks)))
        (option_map (λ (e : ℕ × Session). e.1) (cond b (Some p) (find (λ (e : ℕ × Session). e.0 == number) ps)))
    by true is true b r = at_number hub number k p is h.0
    by true is false b r = let wrong : true ≡ false = sym is ∙ b in absurd cc
    by false is true b r = let wrong : false ≡ true = sym is ∙ b in absurd cc
    by false is false b r = r
