-- A hub of which the oldest entries are forgotten.
--     forgets-same      none is
--     forgets-each, forgets-seat      sessions are changed afterwards: each, or one, so that no name waits since an earlier point
--     Enters, enters, keep-since, keep-within, keep-room      what is known before an entry is made, and what the journal asks for
--     forgets-entered      an entry was made, and the journal forgot what no session needs
use Rattle.std.proofs.Common.{◌≡◌, ℕ, ◌+◌, ◌<◌, ◌≤◌, Bool, true, false, cond, List, [], ◌∷◌, drop, take, Option, Some, None, refl, sym, ap, subst, ◌∙◌, arith}
use Rattle.std.specs.Prelude.{fold, nat_lt, nat_le, ◌==◌}
use Rattle.std.specs.List.{AllByRecursion}
use Rattle.std.proofs.lemmas.Bool.{ltb-true}
use Rattle.push_base.specs.Limits.{max_number}
use Rattle.coalesce.specs.Waiting.{WaitingName}
use Rattle.history.specs.Kept.{Past, Appends, has_room, point_of, state_now}
use Rattle.rrset.specs.Tables.{counted}
use Rattle.history.specs.States.{State, after, entry_size, max_journal_octets}
use Rattle.history.specs.declared.entry.Entry.{Entry}
use Rattle.pushsession.specs.Kept.{KeptSession, keeping}
use Rattle.dsosession.specs.declared.session.EndReason.{EndReason}
use Rattle.pushsession.specs.Sessions.{ended_where, due, timed, noted}
use Rattle.livesessions.specs.Behind.{ended_from, needed_by}
use Rattle.livesessions.specs.NumberedSessions.{Numbered, session_in, in_sessions, all_sessions}
use Rattle.pushserver.specs.Hubs.{each_session, in_session, can_enter, entry_changes, entered_keeping}
use Rattle.pushserver.specs.HubState.{IsSound, kept_of, seen_of}
use Rattle.pushserver.specs.KeptHubs.{KeptHub, Forgets, forgetting}
use Rattle.pushserver.specs.declared.hub_state.HubState.{HubState}
use Rattle.pushserver.proofs.Needed.{IsFloor, is-within, all_ended-noted, all_kept-since, needed-floor, needed-newest}
use Rattle.livesessions.proofs.SessionLists.{found-one, each-changed}

-- ---- none is

none-taken : (start : State) (history : List Entry) → fold after start (take 0 history) ≡ start
none-taken start [] = refl
none-taken start (e ∷ es) = refl

none-dropped : (history : List Entry) → drop 0 history ≡ history
none-dropped [] = refl
none-dropped (e ∷ es) = refl

none-more : (n : ℕ) → n + 0 ≡ n
none-more n = omega arith

pub forgetting-none : (k : KeptHub) → forgetting 0 k ≡ k
forgetting-none k = λ i. record k { start = none-taken k.start k.history i; history = none-dropped k.history i; seen = record k.seen { number = none-more k.seen.number i } }

pub forgets-same : (k new : KeptHub) → new ≡ k → Forgets k new
forgets-same k new same = record { count = 0; is = same ∙ sym (forgetting-none k); within = λ some. absurd (omega (arith, some)); since = λ some. absurd (omega (arith, some)) }

-- ---- sessions are changed afterwards

-- what waits of a session does so since a point or later
abbrev pub Since : ℕ → KeptSession → Type 0
Since n s = AllByRecursion (λ (w : WaitingName). n ≤ w.point) s.queue

-- a session that ends waits for nothing
pub timed-since : (t n : ℕ) (s : KeptSession) → Since n s → Since n (timed keeping t s)
timed-since t n s since = by (due keeping t s)
  where
    by : (o : Option EndReason) → Since n (ended_where keeping o s)
    by None = since
    by (Some reason) = tt

module _ (h new : KeptHub) (forgets : Forgets h new) where
  same_sessions : new.sessions ≡ h.sessions
  same_sessions = ap (λ (k : KeptHub). k.sessions) forgets.is

  pub forgets-each : (f : KeptSession → KeptSession) → ((n : ℕ) (s : KeptSession) → Since n s → Since n (f s)) → (ys : Numbered KeptSession) → ys ≡ all_sessions f new.sessions → Forgets (each_session f h) (record new { sessions = ys })
  forgets-each f later ys is = record {
    count = forgets.count;
    is = ap (λ (xs : Numbered KeptSession). record new { sessions = xs }) is ∙ ap (λ (k : KeptHub). record k { sessions = all_sessions f k.sessions }) forgets.is;
    within = forgets.within;
    since = λ some. each-changed (Since (h.seen.number + forgets.count)) (Since (h.seen.number + forgets.count)) (λ m s. f s) (λ m s. later (h.seen.number + forgets.count) s) h.sessions (forgets.since some);
  }

  pub forgets-seat : (number : ℕ) (s t : KeptSession) → session_in number new.sessions ≡ Some s → ((n : ℕ) → Since n s → Since n t) → (ys : Numbered KeptSession) → ys ≡ in_sessions number (λ _. t) new.sessions → Forgets (in_session number (λ _. t) h) (record new { sessions = ys })
  forgets-seat number s t there later ys is = record {
    count = forgets.count;
    is = ap (λ (xs : Numbered KeptSession). record new { sessions = xs }) is ∙ ap (λ (k : KeptHub). record k { sessions = in_sessions number (λ _. t) k.sessions }) forgets.is;
    within = forgets.within;
    since = λ some.
        each-changed (Since (h.seen.number + forgets.count)) (Since (h.seen.number + forgets.count)) (λ m x. cond (m == number) t x)
        (λ m x. by (m == number) x (later (h.seen.number + forgets.count) (found-one (Since (h.seen.number + forgets.count)) number h.sessions s (sym (ap (session_in number) same_sessions) ∙ there) (forgets.since some)))) h.sessions (forgets.since some);
  }
    where
      by : (b : Bool) (x : KeptSession) → Since (h.seen.number + forgets.count) t → Since (h.seen.number + forgets.count) x → Since (h.seen.number + forgets.count) (cond b t x)
      by true x here there = here
      by false x here there = there

-- ---- an entry was made

pub not-last : (k : KeptHub) → can_enter k ≡ true → k.seen.newest < max_number
not-last k room = ltb-true k.seen.newest max_number room

-- what is known before an entry is made
pub record Enters (keeping_now : HubState) (entry : Entry) (floor keep : ℕ) : Type 0 where
  pub is : IsFloor (kept_of keeping_now) entry floor
  pub from : keeping_now.points.past.number ≤ floor
  pub low : floor ≤ point_of keeping_now.points.past
  pub needed : keep ≡ needed_by floor (point_of keeping_now.points.past) keeping_now.sessions

size-is : (size n : ℕ) → size ≡ counted n → n ≤ max_journal_octets → size ≡ n
size-is size n is few = is ∙ within n few
  where
    within : (n : ℕ) → n ≤ 67108864 → counted n ≡ n
    within n few = omega (arith, few)

pub size-fits : (size n : ℕ) → size ≡ counted n → n ≤ max_journal_octets → size ≤ max_journal_octets
size-fits size n is few = subst (λ m. m ≤ max_journal_octets) (sym (size-is size n is few)) few

pub enters : (keeping_now : HubState) (entry : Entry) (size point floor keep : ℕ) → size ≡ counted (entry_size entry) → entry_size entry ≤ max_journal_octets → point ≡ point_of keeping_now.points.past → keeping_now.points.past.number ≤ floor → floor ≤ point_of keeping_now.points.past
    → ((from : ℕ) → keeping_now.points.past.number ≤ from → has_room keeping_now.points.past from size ≡ nat_le floor from) → keep ≡ needed_by floor point keeping_now.sessions → Enters keeping_now entry floor keep
enters keeping_now entry size point floor keep size_is few point_is from low room needed = record {
  is = subst (λ n. (p : ℕ) → keeping_now.points.past.number ≤ p → has_room keeping_now.points.past p n ≡ nat_le floor p) (size-is size (entry_size entry) size_is few) room;
  from = from;
  low = low;
  needed = needed ∙ ap (λ p. needed_by floor p keeping_now.sessions) point_is;
}

module _ (keeping_now : HubState) (entry : Entry) (floor keep : ℕ) (e : Enters keeping_now entry floor keep) where
  above : floor ≤ keep
  above = subst (λ n. floor ≤ n) (sym e.needed) (needed-floor floor (point_of keeping_now.points.past) keeping_now.sessions e.low)

  pub keep-since : keeping_now.points.past.number ≤ keep
  keep-since = let high = above in omega (arith, e.from, high)

  pub keep-within : keep ≤ point_of keeping_now.points.past
  keep-within = subst (λ n. n ≤ point_of keeping_now.points.past) (sym e.needed) (needed-newest floor (point_of keeping_now.points.past) keeping_now.sessions)

  pub keep-room : has_room keeping_now.points.past keep (entry_size entry) ≡ true
  keep-room = e.is keep keep-since ∙ is-within floor keep above

  pub forgets-entered : (new : Past) (ys : Numbered KeptSession) → IsSound keeping_now → Appends keep keeping_now.points.past entry new → state_now new ≡ after (state_now keeping_now.points.past) entry → point_of new ≡ point_of keeping_now.points.past + 1
      → ys ≡ all_sessions (ended_from floor) (all_sessions (noted keeping (entry_changes entry (kept_of keeping_now)) (point_of keeping_now.points.past)) keeping_now.sessions)
      → Forgets (entered_keeping entry (kept_of keeping_now)) (record (kept_of keeping_now) { start = new.start; history = new.history; seen = seen_of new; sessions = ys })
  forgets-entered new ys sound appends state point sessions =
      let hub = kept_of keeping_now in
      let newest = point_of keeping_now.points.past in
      let ended = sessions ∙ all_ended-noted hub entry floor e.is newest (entry_changes entry hub) keeping_now.sessions e.low sound.rises sound.since in
      let within = keep-within in
      record {
        count = appends.count;
        is = λ i. record {
          start = (appends.is i).start;
          timers = keeping_now.timers;
          history = (appends.is i).history;
          seen = record { state = state i; newest = point i; counts = (appends.is i).counts; number = (appends.is i).number };
          sessions = ended i;
          numbers_given = keeping_now.numbers_given;
        };
        within = λ some. omega (arith, appends.within, within);
        since = λ some.
            all_kept-since hub entry floor e.is (keeping_now.points.past.number + appends.count) newest newest (entry_changes entry hub) keeping_now.sessions (subst (λ n. keeping_now.points.past.number + appends.count ≤ n) e.needed appends.within)
            (omega (arith, appends.within, within)) sound.rises sound.since sound.rests;
      }
