-- Which sessions fall behind by an entry, and what the others need of the past, told by the journal's floor.
--     least-first      where points rise the first is the least
--     behind-same      the floor tells which sessions are behind
--     all_ended-noted      sessions that are behind end behind what they note, or before it
--     needed-floor, needed-newest, needed-spares      what is needed lies between the floor and the newest point, and each session that isn't behind needs no more
--     all_kept-since      so what waits does so since points that are kept
use Rattle.std.proofs.Common.{◌≡◌, ℕ, ◌+◌, ◌-◌, ◌≤◌, Bool, true, false, cond, not, ◌&&◌, min, List, [], ◌∷◌, map, drop, Option, Some, None, refl, sym, ap, subst, ◌∙◌, arith}
use Rattle.std.specs.Prelude.{fold, nat_lt, nat_le, option_map}
use Rattle.std.specs.List.{AllByRecursion}
use Rattle.std.proofs.lemmas.Bool.{ltb-true}
use Rattle.rrset.specs.declared.record.Changed.{Changed}
use Rattle.coalesce.specs.Waiting.{WaitingName, with_old, with_old_value, and_old_value, old_value, is_named, first_point}
use Rattle.dsosession.specs.declared.session.EndReason.TheVariants as ends
use Rattle.history.specs.Kept.{has_room}
use Rattle.history.specs.States.{entry_size, journal_has_room}
use Rattle.history.specs.declared.entry.Entry.{Entry}
use Rattle.pushsession.specs.Sessions.{least_of, is_open, ended_where, noted, touched}
use Rattle.pushsession.specs.Kept.{KeptSession, keeping}
use Rattle.pushsession.specs.declared.session_status.SessionStatus.TheVariants.{Ended}
use Rattle.livesessions.specs.Behind.{behind_from, ended_from, needed_with, needed_by}
use Rattle.pushserver.specs.HubState.{RisesWaiting, RestsClosed}
use Rattle.livesessions.specs.NumberedSessions.{Numbered, all_sessions}
use Rattle.pushserver.specs.Hubs.{behind_at, ended_behind}
use Rattle.pushserver.specs.KeptHubs.{KeptHub, WaitSince, past_of}
use Rattle.pushserver.specs.SoundHubs.{PointsRise}

-- ---- numbers

not-below : (a b : ℕ) → b ≤ a → nat_lt a b ≡ false
not-below a b low = by (nat_lt a b) refl
  where
    by : (t : Bool) → nat_lt a b ≡ t → t ≡ false
    by true is = absurd (omega (arith, ltb-true a b is, low))
    by false is = refl

no-less : (a b : ℕ) → nat_lt a b ≡ false → b ≤ a
no-less a b is = grind arith

pub is-within : (a b : ℕ) → a ≤ b → nat_le a b ≡ true
is-within a b low = grind arith

turned-test : (a b : ℕ) → not (nat_le a b) ≡ nat_lt b a
turned-test a b = grind arith

-- ---- points that rise

abbrev points_of : List WaitingName → List ℕ
points_of queue = map (λ w. w.point) queue

lower : (a b : ℕ) → a ≤ b → min a b ≡ a
lower a b low = omega (arith, low)

pub least-first : (queue : List WaitingName) → PointsRise (points_of queue) → least_of (points_of queue) ≡ first_point queue
least-first [] rise = refl
least-first (w ∷ []) rise = refl
least-first (w ∷ v ∷ ws) rise =
    ap (λ (o : Option ℕ). elim o as (λ _. Option ℕ) [ None ↦ Some w.point | Some least ↦ Some (min w.point least) ]) (least-first (v ∷ ws) rise.1)
    ∙ ap (λ n. Some n) (lower w.point v.point rise.0.0)

nothing-first : (queue : List WaitingName) → first_point queue ≡ None → queue ≡ []
nothing-first [] is = refl
nothing-first (w ∷ ws) is = cc

-- ---- what an entry makes wait

first-with : (point : ℕ) (c : Changed) (queue : List WaitingName) (p : ℕ) → first_point queue ≡ Some p → first_point (with_old point queue c) ≡ Some p
first-with point c [] p is = absurd cc
first-with point c (w ∷ ws) p is = by (is_named c.key.owner w)
  where
    by : (b : Bool) → first_point (cond b (and_old_value (c.key, old_value point c) w ∷ ws) (w ∷ with_old_value ws (c.key, old_value point c))) ≡ Some p
    by true = is
    by false = is

first-kept : (point : ℕ) (cs : List Changed) (queue : List WaitingName) (p : ℕ) → first_point queue ≡ Some p → first_point (fold (with_old point) queue cs) ≡ Some p
first-kept point [] queue p is = is
first-kept point (c ∷ cs) queue p is = first-kept point cs (with_old point queue c) p (first-with point c queue p is)

since-with : (m point : ℕ) (c : Changed) (queue : List WaitingName) → m ≤ point → AllByRecursion (λ w. m ≤ w.point) queue → AllByRecursion (λ w. m ≤ w.point) (with_old point queue c)
since-with m point c [] low all = (low, tt)
since-with m point c (w ∷ ws) low all = by (is_named c.key.owner w) (since-with m point c ws low all.1)
  where
    by : (b : Bool) → AllByRecursion (λ v. m ≤ v.point) (with_old point ws c) → AllByRecursion (λ v. m ≤ v.point) (cond b (and_old_value (c.key, old_value point c) w ∷ ws) (w ∷ with_old_value ws (c.key, old_value point c)))
    by true rest = all
    by false rest = (all.0, rest)

since-noted : (m point : ℕ) (cs : List Changed) (queue : List WaitingName) → m ≤ point → AllByRecursion (λ w. m ≤ w.point) queue → AllByRecursion (λ w. m ≤ w.point) (fold (with_old point) queue cs)
since-noted m point [] queue low all = all
since-noted m point (c ∷ cs) queue low all = since-noted m point cs (with_old point queue c) low (since-with m point c queue low all)

-- ---- who is behind

-- by the first point of a session, which goes on or not
abbrev behind_by : ℕ → Bool → Option ℕ → Option ℕ
behind_by floor goes None = None
behind_by floor goes (Some point) = cond (nat_lt point floor && goes) (Some point) None

abbrev behind_in : KeptHub → Entry → Bool → Option ℕ → Option ℕ
behind_in k entry goes None = None
behind_in k entry goes (Some point) = cond (goes && not (journal_has_room (drop (point - k.seen.number) k.history) (entry_size entry))) (Some point) None

-- the floor is the least point from which on one more has room
abbrev pub IsFloor : KeptHub → Entry → ℕ → Type 0
IsFloor k entry floor = (from : ℕ) → k.seen.number ≤ from → has_room (past_of k) from (entry_size entry) ≡ nat_le floor from

pub behind-same : (k : KeptHub) (entry : Entry) (floor : ℕ) (s : KeptSession) → IsFloor k entry floor → PointsRise (points_of s.queue) → AllByRecursion (λ w. k.seen.number ≤ w.point) s.queue → behind_at k entry s ≡ behind_from floor s
behind-same k entry floor s is rise since = ap (behind_in k entry (is_open s.standing)) (least-first s.queue rise) ∙ by s.queue since
  where
    joined : (goes low : Bool) (point : ℕ) → cond (goes && low) (Some point) None ≡ cond (low && goes) (Some point) None
    joined true true point = refl
    joined true false point = refl
    joined false true point = refl
    joined false false point = refl

    by : (queue : List WaitingName) → AllByRecursion (λ w. k.seen.number ≤ w.point) queue → behind_in k entry (is_open s.standing) (first_point queue) ≡ behind_by floor (is_open s.standing) (first_point queue)
    by [] since = refl
    by (w ∷ ws) since =
        ap (λ b. cond (is_open s.standing && not b) (Some w.point) None) (is w.point since.0)
        ∙ ap (λ b. cond (is_open s.standing && b) (Some w.point) None) (turned-test floor w.point)
        ∙ joined (is_open s.standing) (nat_lt w.point floor) w.point

-- what an entry makes wait does so since the newest point, which is never before the floor
behind-noted : (floor point : ℕ) (cs : List Changed) (s : KeptSession) → floor ≤ point → behind_from floor (noted keeping cs point s) ≡ behind_from floor s
behind-noted floor point cs s low = by (first_point s.queue) refl
  where
    added : List Changed
    added = touched keeping s.subscriptions cs

    fresh : (ts : List Changed) → behind_by floor (is_open s.standing) (first_point (fold (with_old point) [] ts)) ≡ None
    fresh [] = refl
    fresh (t ∷ ts) =
        ap (behind_by floor (is_open s.standing)) (first-kept point ts (with_old point [] t) point refl)
        ∙ ap (λ b. cond (b && is_open s.standing) (Some point) None) (not-below point floor low)

    by : (o : Option ℕ) → first_point s.queue ≡ o → behind_by floor (is_open s.standing) (first_point (fold (with_old point) s.queue added)) ≡ behind_by floor (is_open s.standing) (first_point s.queue)
    by (Some p) is = ap (behind_by floor (is_open s.standing)) (first-kept point added s.queue p is ∙ sym is)
    by None is =
        ap (λ q. behind_by floor (is_open s.standing) (first_point (fold (with_old point) q added))) (nothing-first s.queue is)
        ∙ fresh added ∙ sym (ap (behind_by floor (is_open s.standing)) is)

-- a session that asks for nothing notes nothing
silent : (cs : List Changed) → touched keeping keeping.no_questions cs ≡ []
silent [] = refl
silent (c ∷ cs) = silent cs

ended-noted : (floor point : ℕ) (cs : List Changed) (s : KeptSession) → floor ≤ point → ended_from floor (noted keeping cs point s) ≡ noted keeping cs point (ended_from floor s)
ended-noted floor point cs s low =
    ap (λ (o : Option ℕ). ended_where keeping (option_map (λ p. ends.Behind p) o) (noted keeping cs point s)) (behind-noted floor point cs s low) ∙ by (behind_from floor s)
  where
    by : (o : Option ℕ) → ended_where keeping (option_map (λ p. ends.Behind p) o) (noted keeping cs point s) ≡ noted keeping cs point (ended_where keeping (option_map (λ p. ends.Behind p) o) s)
    by None = refl
    by (Some p) = ap (λ (ts : List Changed). record s { subscriptions = keeping.no_questions; queue = fold (with_old point) [] ts; standing = Ended (ends.Behind p) }) (sym (silent cs))

-- ---- sessions

module _ (k : KeptHub) (entry : Entry) (floor : ℕ) (is : IsFloor k entry floor) where
  ended-same : (s : KeptSession) → PointsRise (points_of s.queue) → AllByRecursion (λ w. k.seen.number ≤ w.point) s.queue → ended_behind k entry s ≡ ended_from floor s
  ended-same s rise since = ap (λ (o : Option ℕ). ended_where keeping (option_map (λ p. ends.Behind p) o) s) (behind-same k entry floor s is rise since)

  pub all_ended-noted : (point : ℕ) (cs : List Changed) (xs : Numbered KeptSession) → floor ≤ point → RisesWaiting xs → AllByRecursion (WaitSince k.seen.number) xs
      → all_sessions (ended_from floor) (all_sessions (noted keeping cs point) xs) ≡ all_sessions (noted keeping cs point) (all_sessions (ended_behind k entry) xs)
  all_ended-noted point cs [] low rise since = refl
  all_ended-noted point cs (x ∷ xs) low rise since =
      let here : ended_from floor (noted keeping cs point x.1) ≡ noted keeping cs point (ended_behind k entry x.1) = ended-noted floor point cs x.1 low ∙ ap (noted keeping cs point) (sym (ended-same x.1 rise.0 since.0)) in
      λ i. (x.0, here i) ∷ all_ended-noted point cs xs low rise.1 since.1 i

-- ---- what is needed

module _ (floor : ℕ) where
  abbrev by_first : ℕ → Option ℕ → ℕ
  by_first needed None = needed
  by_first needed (Some point) = cond (nat_le floor point && nat_lt point needed) point needed

  one-newest : (n : ℕ) (o : Option ℕ) → by_first n o ≤ n
  one-newest n None = omega arith
  one-newest n (Some p) = by (nat_le floor p) (nat_lt p n) refl
    where
      by : (a b : Bool) → nat_lt p n ≡ b → cond (a && b) p n ≤ n
      by true true is = omega (arith, ltb-true p n is)
      by true false is = omega arith
      by false b is = omega arith

  one-floor : (n : ℕ) (o : Option ℕ) → floor ≤ n → floor ≤ by_first n o
  one-floor n None low = low
  one-floor n (Some p) low = by (nat_le floor p) refl (nat_lt p n)
    where
      by : (a : Bool) → nat_le floor p ≡ a → (b : Bool) → floor ≤ cond (a && b) p n
      by true is true = grind arith
      by true is false = low
      by false is b = low

  one-spares : (n p : ℕ) → floor ≤ p → by_first n (Some p) ≤ p
  one-spares n p low = ap_le (nat_le floor p) (is-within floor p low) (nat_lt p n) refl
    where
      ap_le : (a : Bool) → a ≡ true → (b : Bool) → nat_lt p n ≡ b → cond (a && b) p n ≤ p
      ap_le true e true is = omega arith
      ap_le true e false is = no-less p n is
      ap_le false e b is = absurd cc

  pub needed-newest : (n : ℕ) (xs : Numbered KeptSession) → needed_by floor n xs ≤ n
  needed-newest n [] = omega arith
  needed-newest n (x ∷ xs) =
      let here = one-newest n (first_point x.1.queue) in
      let rest = needed-newest (needed_with floor n x.1) xs in
      omega (arith, here, rest)

  pub needed-floor : (n : ℕ) (xs : Numbered KeptSession) → floor ≤ n → floor ≤ needed_by floor n xs
  needed-floor n [] low = low
  needed-floor n (x ∷ xs) low = needed-floor (needed_with floor n x.1) xs (one-floor n (first_point x.1.queue) low)

  -- the session needs nothing from before this point, unless it is behind
  abbrev Spares : ℕ → ℕ × KeptSession → Type 0
  Spares needed e = (point : ℕ) → first_point e.1.queue ≡ Some point → floor ≤ point → needed ≤ point

  needed-spares : (n : ℕ) (xs : Numbered KeptSession) → AllByRecursion (Spares (needed_by floor n xs)) xs
  needed-spares n [] = tt
  needed-spares n (x ∷ xs) = (here, needed-spares (needed_with floor n x.1) xs)
    where
      here : (point : ℕ) → first_point x.1.queue ≡ Some point → floor ≤ point → needed_by floor (needed_with floor n x.1) xs ≤ point
      here point is low =
          let least = needed-newest (needed_with floor n x.1) xs in
          let one : needed_with floor n x.1 ≤ point = subst (λ (o : Option ℕ). by_first n o ≤ point) (sym is) (one-spares n point low) in
          omega (arith, least, one)

  -- what waits in a session that isn't behind does so since what is needed
  kept-open : (m : ℕ) (s : KeptSession) → ((point : ℕ) → first_point s.queue ≡ Some point → floor ≤ point → m ≤ point) → PointsRise (points_of s.queue) → (is_open s.standing ≡ false → s.queue ≡ []) → AllByRecursion (λ w. m ≤ w.point) (ended_from floor s).queue
  kept-open m s spares rise rests = by (behind_from floor s) refl
    where
      later : (low : ℕ) (ws : List WaitingName) → m ≤ low → AllByRecursion (λ p. low ≤ p) (points_of ws) → AllByRecursion (λ w. m ≤ w.point) ws
      later low [] at all = tt
      later low (w ∷ ws) at all = (omega (arith, at, all.0), later low ws at all.1)

      stays : (queue : List WaitingName) → s.queue ≡ queue → PointsRise (points_of queue) → behind_by floor (is_open s.standing) (first_point queue) ≡ None → AllByRecursion (λ w. m ≤ w.point) queue
      stays [] at rise none = tt
      stays (w ∷ ws) at rise none = (here (nat_lt w.point floor) refl (is_open s.standing) refl none, later w.point ws (here (nat_lt w.point floor) refl (is_open s.standing) refl none) rise.0)
        where
          here : (a : Bool) → nat_lt w.point floor ≡ a → (b : Bool) → is_open s.standing ≡ b → cond (a && b) (Some w.point) None ≡ None → m ≤ w.point
          here false before b goes e = spares w.point (ap first_point at) (no-less w.point floor before)
          here true before true goes e = absurd cc
          here true before false goes e = let wrong : w ∷ ws ≡ [] = sym at ∙ rests goes in absurd cc

      by : (o : Option ℕ) → behind_from floor s ≡ o → AllByRecursion (λ w. m ≤ w.point) (ended_where keeping (option_map (λ p. ends.Behind p) o) s).queue
      by None none = stays s.queue refl rise none
      by (Some p) none = tt

module _ (k : KeptHub) (entry : Entry) (floor : ℕ) (is : IsFloor k entry floor) where
  pub all_kept-since : (m n point : ℕ) (cs : List Changed) (xs : Numbered KeptSession) → m ≤ needed_by floor n xs → m ≤ point → RisesWaiting xs → AllByRecursion (WaitSince k.seen.number) xs → RestsClosed xs
      → AllByRecursion (WaitSince m) (all_sessions (noted keeping cs point) (all_sessions (ended_behind k entry) xs))
  all_kept-since m n point cs xs below low rise since rests = each xs (needed-spares floor n xs) rise since rests
    where
      each : (ys : Numbered KeptSession) → AllByRecursion (Spares floor (needed_by floor n xs)) ys → RisesWaiting ys → AllByRecursion (WaitSince k.seen.number) ys → RestsClosed ys
          → AllByRecursion (WaitSince m) (all_sessions (noted keeping cs point) (all_sessions (ended_behind k entry) ys))
      each [] spares rise since rests = tt
      each (y ∷ ys) spares rise since rests = (here, each ys spares.1 rise.1 since.1 rests.1)
        where
          goes : AllByRecursion (λ w. m ≤ w.point) (ended_from floor y.1).queue
          goes = kept-open floor m y.1 (λ p at above. omega (arith, below, spares.0 p at above)) rise.0 rests.0

          here : AllByRecursion (λ w. m ≤ w.point) (noted keeping cs point (ended_behind k entry y.1)).queue
          here = subst (λ (t : KeptSession). AllByRecursion (λ w. m ≤ w.point) (noted keeping cs point t).queue) (sym (ended-same k entry floor is y.1 rise.0 since.0))
              (since-noted m point (touched keeping (ended_from floor y.1).subscriptions cs) (ended_from floor y.1).queue low goes)
