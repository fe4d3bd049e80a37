-- What was noted for an entry that isn't made is taken back; and what those who watch note is what all would.
--     back-noted, all_back-kept      what was noted goes, and where all is older nothing else does
--     noted-first, all_noted-first      the first of several changes, and then the others
--     each-of      sessions one after another
--     watching-note      those that watch a name note a change at it as all would
--     few-watch      they are no more than those that ask for the name
use Rattle.std.proofs.Common.{◌≡◌, ℕ, ◌+◌, ◌*◌, ◌<◌, ◌≤◌, Bool, true, false, cond, ◌||◌, ◌&&◌, List, [], ◌∷◌, map, length, drop, get_or, Option, Some, None, Result, Ok, Err, refl, sym, ap, ◌∙◌, arith}
use Rattle.std.specs.Prelude.{fold, find, filter, option_map, sum_by, nat_lt, OnErr, OnOk, ◌==◌}
use Rattle.std.specs.List.{AllByRecursion, IsDistinct, list_any}
use Rattle.std.specs.Set.{is_member}
use Rattle.std.proofs.lemmas.Bool.{ltb-true, or_left, or_right}
use Rattle.std.proofs.lemmas.Cmp.{nat_eq_equiv}
use Rattle.std.proofs.lemmas.List.{length-map, drop_more, drop_all}
use Rattle.std.proofs.lemmas.List.Sums.{length-filter, sum_by-cons}
use Rattle.std.proofs.lemmas.Map.Made.{length-le_from_is_member}
use Rattle.dnsname.specs.Names.{Labels, same_name}
use Rattle.push_base.specs.Counted.{CountsUpTo}
use Rattle.rrset.specs.declared.record.Key.{Key}
use Rattle.rrset.specs.declared.record.Changed.{Changed}
use Rattle.coalesce.specs.Waiting.{OldValue, old_value}
use Rattle.subscr.specs.Asked.{Asked, wants, watches}
use Rattle.subscr.specs.Watching.{Watching, AreWatching, are_rising}
use Rattle.subscr.proofs.Questions.{questions-some}
use Rattle.pushsession.specs.Sessions.{noted, touched}
use Rattle.pushsession.specs.Kept.{KeptSession, keeping, taken_back}
use Rattle.coalesce.proofs.GoingBack.{changes_go, older_stay}
use Rattle.livesessions.specs.NumberedSessions.{Numbered, session_in, in_sessions, all_sessions, AreApart, WaitBefore}
use Rattle.livesessions.specs.Watched.{Watches, watched_by, watching_in, noting_steps}
use Rattle.zoneupdate.proofs.Filters.{and-left, and-right}
use Rattle.livesessions.proofs.LentSessions.{as_before, lent-changed}
use Rattle.livesessions.proofs.SessionLists.{same-number, number-itself, other-number}

-- ---- what is taken back

pub back-noted : (changed : List Changed) (point : ℕ) (session : KeptSession) → taken_back point (noted keeping changed point session) ≡ taken_back point session
back-noted changed point session = ap (λ q. record session { queue = q }) (changes_go point (touched keeping session.subscriptions changed) session.queue)

pub all_back-noted : (changed : List Changed) (point : ℕ) (sessions : Numbered KeptSession) → all_sessions (taken_back point) (all_sessions (noted keeping changed point) sessions) ≡ all_sessions (taken_back point) sessions
all_back-noted changed point [] = refl
all_back-noted changed point (x ∷ xs) = λ i. (x.0, back-noted changed point x.1 i) ∷ all_back-noted changed point xs i

pub in_back-noted : (number : ℕ) (changed : List Changed) (point : ℕ) (sessions : Numbered KeptSession) → all_sessions (taken_back point) (in_sessions number (noted keeping changed point) sessions) ≡ all_sessions (taken_back point) sessions
in_back-noted number changed point [] = refl
in_back-noted number changed point (x ∷ xs) = λ i. (x.0, by (x.0 == number) i) ∷ in_back-noted number changed point xs i
  where
    by : (b : Bool) → taken_back point (cond b (noted keeping changed point x.1) x.1) ≡ taken_back point x.1
    by true = back-noted changed point x.1
    by false = refl

-- where all that waits is older nothing is taken back
pub all_back-kept : (point : ℕ) (sessions : Numbered KeptSession) → WaitBefore point sessions → all_sessions (taken_back point) sessions ≡ sessions
all_back-kept point [] all = refl
all_back-kept point (x ∷ xs) all = λ i. (x.0, record x.1 { queue = older_stay point x.1.queue all.0 i }) ∷ all_back-kept point xs all.1 i

pub on_err : {A E : Type 0} {P : Type 0} (r : Result A E) → P → OnErr r P
on_err (Ok x) p = tt
on_err (Err e) p = p

-- ---- several changes, one after the other

noted-first : (c : Changed) (cs : List Changed) (point : ℕ) (session : KeptSession) → noted keeping cs point (noted keeping (c ∷ []) point session) ≡ noted keeping (c ∷ cs) point session
noted-first c cs point session = by (keeping.wants session.subscriptions c.key)
  where
    later : List Changed
    later = touched keeping session.subscriptions cs

    by : (b : Bool) → record session { queue = fold (keeping.with_change point) (fold (keeping.with_change point) session.queue (cond b (c ∷ []) [])) later } ≡ record session { queue = fold (keeping.with_change point) session.queue (cond b (c ∷ later) later) }
    by true = refl
    by false = refl

pub all_noted-first : (c : Changed) (cs : List Changed) (point : ℕ) (xs : Numbered KeptSession) → all_sessions (noted keeping cs point) (all_sessions (noted keeping (c ∷ []) point) xs) ≡ all_sessions (noted keeping (c ∷ cs) point) xs
all_noted-first c cs point [] = refl
all_noted-first c cs point (x ∷ xs) = λ i. (x.0, noted-first c cs point x.1 i) ∷ all_noted-first c cs point xs i

-- ---- numbers that rise

number-turned : (a b : ℕ) → (a == b) ≡ (b == a)
number-turned a b = grind arith

rises-behind : (n : ℕ) (ns : List ℕ) → are_rising (n ∷ ns) ≡ true → are_rising ns ≡ true
rises-behind n [] rising = refl
rises-behind n (k ∷ ns) rising = and-right (nat_lt n k) (are_rising (k ∷ ns)) rising

all-above : (m n : ℕ) (ns : List ℕ) → m ≤ n → are_rising (n ∷ ns) ≡ true → AllByRecursion (λ y. (m == y) ≡ false) ns
all-above m n [] low rising = tt
all-above m n (k ∷ ns) low rising =
    let above : n < k = ltb-true n k (and-left (nat_lt n k) (are_rising (k ∷ ns)) rising) in
    (other-number m k (λ same. omega (arith, above, low, same)), all-above m k ns (omega (arith, above, low)) (and-right (nat_lt n k) (are_rising (k ∷ ns)) rising))

-- ---- sessions one after another

module _ (f : KeptSession → KeptSession) where
  abbrev pub in_turn : Numbered KeptSession → List ℕ → Numbered KeptSession
  in_turn xs numbers = fold (λ ys number. in_sessions number f ys) xs numbers

  -- what becomes of the session of a number
  abbrev times : List ℕ → ℕ → KeptSession → KeptSession
  times [] number s = s
  times (n ∷ ns) number s = times ns number (cond (number == n) (f s) s)

  abbrev at_times : List ℕ → ℕ × KeptSession → ℕ × KeptSession
  at_times numbers e = (e.0, times numbers e.0 e.1)

  each-of : (numbers : List ℕ) (xs : Numbered KeptSession) → in_turn xs numbers ≡ map (at_times numbers) xs
  each-of [] xs = same xs
    where
      same : (ys : Numbered KeptSession) → ys ≡ map (at_times []) ys
      same [] = refl
      same (y ∷ ys) = ap (λ l. y ∷ l) (same ys)
  each-of (n ∷ ns) xs = each-of ns (in_sessions n f xs) ∙ fused xs
    where
      fused : (ys : Numbered KeptSession) → map (at_times ns) (in_sessions n f ys) ≡ map (at_times (n ∷ ns)) ys
      fused [] = refl
      fused (y ∷ ys) = ap (λ l. (y.0, times ns y.0 (cond (y.0 == n) (f y.1) y.1)) ∷ l) (fused ys)

  abbrev is_among : ℕ → List ℕ → Bool
  is_among number numbers = list_any (λ n. n == number) numbers

  none-of : (numbers : List ℕ) (number : ℕ) (s : KeptSession) → is_among number numbers ≡ false → times numbers number s ≡ s
  none-of [] number s none = refl
  none-of (n ∷ ns) number s none = by (n == number) refl none (λ e. none-of ns number s e)
    where
      by : (b : Bool) → (n == number) ≡ b → (b || is_among number ns) ≡ false → (is_among number ns ≡ false → times ns number s ≡ s) → times ns number (cond (number == n) (f s) s) ≡ s
      by true is e rest = absurd cc
      by false is e rest = ap (λ c. times ns number (cond c (f s) s)) (number-turned number n ∙ is) ∙ rest e

  -- numbers that rise are apart
  rest-above : (n : ℕ) (ns : List ℕ) → are_rising (n ∷ ns) ≡ true → (m : ℕ) → m ≤ n → is_among m ns ≡ false
  rest-above n [] rising m low = refl
  rest-above n (k ∷ ns) rising m low =
      let above : n < k = ltb-true n k (and-left (nat_lt n k) (are_rising (k ∷ ns)) rising) in
      ap (λ b. b || is_among m ns) (other-number k m (λ same. omega (arith, above, low, same))) ∙ rest-above k ns (and-right (nat_lt n k) (are_rising (k ∷ ns)) rising) m (omega (arith, above, low))

  once-of : (numbers : List ℕ) (number : ℕ) (s : KeptSession) → are_rising numbers ≡ true → is_among number numbers ≡ true → times numbers number s ≡ f s
  once-of [] number s rising among = absurd cc
  once-of (n ∷ ns) number s rising among = by (n == number) refl among (λ e. once-of ns number s (rises-behind n ns rising) e)
    where
      by : (b : Bool) → (n == number) ≡ b → (b || is_among number ns) ≡ true → (is_among number ns ≡ true → times ns number s ≡ f s) → times ns number (cond (number == n) (f s) s) ≡ f s
      by true is e rest =
          let same = same-number n number is in
          ap (λ c. times ns number (cond c (f s) s)) (number-turned number n ∙ is) ∙ none-of ns number (f s) (rest-above n ns rising number (omega (arith, same)))
      by false is e rest = ap (λ c. times ns number (cond c (f s) s)) (number-turned number n ∙ is) ∙ rest e

-- ---- those that watch a name

-- who asks for a key asks for its name
wants-watched : (c : Changed) (asked : Asked) → watches c.key.owner asked ≡ false → wants c.key asked ≡ false
wants-watched c [] none = refl
wants-watched c (e ∷ asked) none = by (same_name e.1.name c.key.owner) none (λ h. wants-watched c asked h)
  where
    by : (b : Bool) → (b || watches c.key.owner asked) ≡ false → (watches c.key.owner asked ≡ false → wants c.key asked ≡ false) → ((b && (e.1.kind == c.key.kind || e.1.kind == 255) && (e.1.class == c.key.class || e.1.class == 255)) || wants c.key asked) ≡ false
    by true none rest = absurd cc
    by false none rest = rest none

silent-notes : (c : Changed) (point : ℕ) (s : KeptSession) → watches c.key.owner s.subscriptions.asked ≡ false → noted keeping (c ∷ []) point s ≡ s
silent-notes c point s none = ap (λ b. record s { queue = fold (keeping.with_change point) s.queue (cond b (c ∷ []) []) }) (wants-watched c s.subscriptions.asked none)

-- each session is found at its number
each-there : (xs : Numbered KeptSession) → AreApart xs → AllByRecursion (λ (e : ℕ × KeptSession). session_in e.0 xs ≡ Some e.1) xs
unfolding IsDistinct
each-there [] apart = tt
each-there (x ∷ xs) apart = (
  ap (λ b. option_one b x xs) (number-itself x.0),
  more xs (each-there xs apart.1) apart.0,
)
  where
    option_one : Bool → ℕ × KeptSession → Numbered KeptSession → Option KeptSession
    option_one b y ys = option_map (λ (e : ℕ × KeptSession). e.1) (cond b (Some y) (find (λ (e : ℕ × KeptSession). e.0 == y.0) ys))

    more : (ys : Numbered KeptSession) → AllByRecursion (λ (e : ℕ × KeptSession). session_in e.0 xs ≡ Some e.1) ys → AllByRecursion (λ (e : ℕ × KeptSession). (x.0 == e.0) ≡ false) ys → AllByRecursion (λ (e : ℕ × KeptSession). session_in e.0 (x ∷ xs) ≡ Some e.1) ys
    more [] all away = tt
    more (y ∷ ys) all away = (
      ap (λ b. option_map (λ (e : ℕ × KeptSession). e.1) (cond b (Some x) (find (λ (e : ℕ × KeptSession). e.0 == y.0) xs))) away.0 ∙ all.0,
      more ys all.1 away.1,
    )

module _ (watching : Watching) (xs : Numbered KeptSession) (apart : AreApart xs) (w : Watches watching xs) (name : Labels) (numbers : List ℕ) (are : AreWatching watching name numbers) where
  -- a number is among them where its session asks for the name
  among : (e : ℕ × KeptSession) → session_in e.0 xs ≡ Some e.1 → list_any (λ n. n == e.0) numbers ≡ watches name e.1.subscriptions.asked
  among e there = are.each e.0 ∙ ap (λ n. nat_lt 0 n) (w name e.0 ∙ ap (watched_by name) there) ∙ questions-some name e.1.subscriptions.asked

  pub watching-note : (c : Changed) (point : ℕ) → c.key.owner ≡ name → in_turn (noted keeping (c ∷ []) point) xs numbers ≡ all_sessions (noted keeping (c ∷ []) point) xs
  watching-note c point named = each-of (noted keeping (c ∷ []) point) numbers xs ∙ each xs (each-there xs apart)
    where
      one : (e : ℕ × KeptSession) → session_in e.0 xs ≡ Some e.1 → times (noted keeping (c ∷ []) point) numbers e.0 e.1 ≡ noted keeping (c ∷ []) point e.1
      one e there = by (watches name e.1.subscriptions.asked) refl
        where
          by : (b : Bool) → watches name e.1.subscriptions.asked ≡ b → times (noted keeping (c ∷ []) point) numbers e.0 e.1 ≡ noted keeping (c ∷ []) point e.1
          by true is = once-of (noted keeping (c ∷ []) point) numbers e.0 e.1 are.rising (among e there ∙ is)
          by false is = none-of (noted keeping (c ∷ []) point) numbers e.0 e.1 (among e there ∙ is) ∙ sym (silent-notes c point e.1 (ap (λ n. watches n e.1.subscriptions.asked) named ∙ is))

      each : (ys : Numbered KeptSession) → AllByRecursion (λ (e : ℕ × KeptSession). session_in e.0 xs ≡ Some e.1) ys
          → map (at_times (noted keeping (c ∷ []) point) numbers) ys ≡ all_sessions (noted keeping (c ∷ []) point) ys
      each [] all = refl
      each (y ∷ ys) all = λ i. (y.0, one y all.0 i) ∷ each ys all.1 i

  -- ---- how many watch it

  abbrev asks_for : ℕ × KeptSession → Bool
  asks_for e = watches name e.1.subscriptions.asked

  abbrev numbers_of : Numbered KeptSession → List ℕ
  numbers_of ys = map (λ (e : ℕ × KeptSession). e.0) (filter asks_for ys)

  -- a session that asks for the name has its number among those that do
  asks-among : (q : ℕ) (s : KeptSession) (ys : Numbered KeptSession) → session_in q ys ≡ Some s → watches name s.subscriptions.asked ≡ true → is_member ◌==◌ (numbers_of ys) q ≡ true
  asks-among q s [] there asks = absurd cc
  asks-among q s (y ∷ ys) there asks = by (y.0 == q) refl (asks_for y) refl there (asks-among q s ys)
    where
      by : (b : Bool) → (y.0 == q) ≡ b → (p : Bool) → asks_for y ≡ p → option_map (λ (e : ℕ × KeptSession). e.1) (cond b (Some y) (find (λ (e : ℕ × KeptSession). e.0 == q) ys)) ≡ Some s
          → (session_in q ys ≡ Some s → watches name s.subscriptions.asked ≡ true → is_member ◌==◌ (numbers_of ys) q ≡ true)
          → is_member ◌==◌ (map (λ (e : ℕ × KeptSession). e.0) (cond p (y ∷ filter asks_for ys) (filter asks_for ys))) q ≡ true
      by true is true passes at rest = or_left (q == y.0) (is_member ◌==◌ (numbers_of ys) q) (ap (λ n. q == n) (same-number y.0 q is) ∙ number-itself q)
      by true is false fails at rest =
          let same : y.1 ≡ s = cc in
          let wrong : false ≡ true = sym fails ∙ ap (λ (x : KeptSession). watches name x.subscriptions.asked) same ∙ asks in absurd cc
      by false is true passes at rest = or_right (q == y.0) (is_member ◌==◌ (numbers_of ys) q) (rest at asks)
      by false is false fails at rest = rest at asks

  member-turned : (q : ℕ) (ns : List ℕ) → is_member ◌==◌ ns q ≡ list_any (λ n. n == q) ns
  member-turned q [] = refl
  member-turned q (n ∷ ns) = λ i. number-turned q n i || member-turned q ns i

  each-asks : (q : ℕ) → is_member ◌==◌ numbers q ≡ true → is_member ◌==◌ (numbers_of xs) q ≡ true
  each-asks q m = by (session_in q xs) refl
    where
      some : nat_lt 0 (watched_by name (session_in q xs)) ≡ true
      some = ap (λ n. nat_lt 0 n) (sym (w name q)) ∙ sym (are.each q) ∙ sym (member-turned q numbers) ∙ m

      by : (o : Option KeptSession) → session_in q xs ≡ o → is_member ◌==◌ (numbers_of xs) q ≡ true
      by None is = let wrong : false ≡ true = sym (ap (λ (p : Option KeptSession). nat_lt 0 (watched_by name p)) is) ∙ some in absurd cc
      by (Some s) is = asks-among q s xs is (sym (questions-some name s.subscriptions.asked) ∙ sym (ap (λ (p : Option KeptSession). nat_lt 0 (watched_by name p)) is) ∙ some)

  rising-apart : (ns : List ℕ) → are_rising ns ≡ true → IsDistinct ◌==◌ ns
  unfolding IsDistinct
  rising-apart [] rising = tt
  rising-apart (n ∷ ns) rising = (all-above n n ns (omega arith) rising, rising-apart ns (rises-behind n ns rising))

  pub few-watch : length numbers ≤ watching_in name xs
  few-watch =
      let short = length-le_from_is_member nat_eq_equiv numbers (numbers_of xs) (rising-apart numbers are.rising) each-asks in
      let same : length (numbers_of xs) ≡ length (filter asks_for xs) = length-map (filter asks_for xs) (λ (e : ℕ × KeptSession). e.0) in
      let many : length (filter asks_for xs) ≡ watching_in name xs = length-filter asks_for xs in
      omega (arith, short, same, many)

-- ---- a loop over numbers, and one over changes

pub ok-noted : {A E : Type 0} (r : Result A E) (old : Key × OldValue) (c : Changed) (s new : KeptSession) (xs ys : Numbered KeptSession) (number : ℕ) → AreApart xs → session_in number xs ≡ Some s → ys ≡ in_sessions number (λ _. new) xs
    → OnOk r ((point : ℕ) → old ≡ (c.key, old_value point c) → new ≡ noted keeping (c ∷ []) point s) → OnOk r ((point : ℕ) → old ≡ (c.key, old_value point c) → ys ≡ in_sessions number (noted keeping (c ∷ []) point) xs)
ok-noted (Ok x) old c s new xs ys number apart there lent step = λ point is. lent-changed number xs ys (noted keeping (c ∷ []) point) s new there apart (step point is) lent
ok-noted (Err e) old c s new xs ys number apart there lent step = tt

pub err-noted : {A E : Type 0} (r : Result A E) (s new : KeptSession) (xs ys : Numbered KeptSession) (number : ℕ) → AreApart xs → session_in number xs ≡ Some s → ys ≡ in_sessions number (λ _. new) xs → OnErr r (new ≡ s) → OnErr r (ys ≡ xs)
err-noted (Ok x) s new xs ys number apart there lent same = tt
err-noted (Err e) s new xs ys number apart there lent same = as_before number xs ys s new there apart same lent

-- where those that watch a name noted a change at it, all did
pub ok-watching : {A E : Type 0} (r : Result A E) (watching : Watching) (xs ys : Numbered KeptSession) (numbers : List ℕ) (c : Changed) (point : ℕ) (old : Key × OldValue) → AreApart xs → Watches watching xs → AreWatching watching c.key.owner numbers
    → old ≡ (c.key, old_value point c) → OnOk r ((p : ℕ) → old ≡ (c.key, old_value p c) → ys ≡ in_turn (noted keeping (c ∷ []) p) xs numbers) → OnOk r (ys ≡ all_sessions (noted keeping (c ∷ []) point) xs)
ok-watching (Ok x) watching xs ys numbers c point old apart w are is step = step point is ∙ watching-note watching xs apart w c.key.owner numbers are c point refl
ok-watching (Err e) watching xs ys numbers c point old apart w are is step = tt

-- where nobody watches it, nothing is noted
pub none-watching : (watching : Watching) (xs : Numbered KeptSession) (numbers : List ℕ) (c : Changed) (point : ℕ) → AreApart xs → Watches watching xs → AreWatching watching c.key.owner numbers → length numbers ≡ 0 → xs ≡ all_sessions (noted keeping (c ∷ []) point) xs
none-watching watching xs [] c point apart w are none = watching-note watching xs apart w c.key.owner [] are c point refl
none-watching watching xs (n ∷ ns) c point apart w are none = absurd (omega (arith, none))

-- one number more
pub turn-next : (f : KeptSession → KeptSession) (xs now new : Numbered KeptSession) (numbers : List ℕ) (i d : ℕ) → i < length numbers → new ≡ in_sessions (get_or numbers i d) f now
    → in_turn f now (drop i numbers) ≡ in_turn f xs numbers → in_turn f new (drop (i + 1) numbers) ≡ in_turn f xs numbers
turn-next f xs now new numbers i d within step so_far = ap (λ ys. in_turn f ys (drop (i + 1) numbers)) step ∙ ap (λ l. in_turn f now l) (sym (drop_more numbers i d within)) ∙ so_far

-- one change more
pub change-next : (xs now new : Numbered KeptSession) (changed : List Changed) (point i : ℕ) (c : Changed) → i < length changed → c ≡ get_or changed i c → new ≡ all_sessions (noted keeping (c ∷ []) point) now
    → all_sessions (noted keeping (drop i changed) point) now ≡ all_sessions (noted keeping changed point) xs → all_sessions (noted keeping (drop (i + 1) changed) point) new ≡ all_sessions (noted keeping changed point) xs
change-next xs now new changed point i c within is step so_far =
    ap (all_sessions (noted keeping (drop (i + 1) changed) point)) step
    ∙ all_noted-first c (drop (i + 1) changed) point now
    ∙ ap (λ l. all_sessions (noted keeping l point) now) (sym (drop_more changed i c within ∙ ap (λ d. d ∷ drop (i + 1) changed) (sym is)))
    ∙ so_far

-- at the end nothing is left to note
pub change-ends : (xs now : Numbered KeptSession) (changed : List Changed) (point i : ℕ) → length changed ≤ i → all_sessions (noted keeping (drop i changed) point) now ≡ all_sessions (noted keeping changed point) xs → now ≡ all_sessions (noted keeping changed point) xs
change-ends xs now changed point i all so_far = sym (none now) ∙ ap (λ l. all_sessions (noted keeping l point) now) (sym (drop_all i changed all)) ∙ so_far
  where
    none : (ys : Numbered KeptSession) → all_sessions (noted keeping [] point) ys ≡ ys
    none [] = refl
    none (y ∷ ys) = ap (λ l. y ∷ l) (none ys)

-- no steps
pub counts-nothing : (bound n : ℕ) → CountsUpTo bound n n
counts-nothing bound n = record { later = omega arith; most = omega arith }

-- ---- how many steps

-- sessions that note are watched as before
pub watching-noted : (name : Labels) (changed : List Changed) (point : ℕ) (xs : Numbered KeptSession) → watching_in name (all_sessions (noted keeping changed point) xs) ≡ watching_in name xs
watching-noted name changed point [] = refl
watching-noted name changed point (x ∷ xs) =
    sum_by-cons (λ (e : ℕ × KeptSession). cond (watches name e.1.subscriptions.asked) 1 0) (x.0, noted keeping changed point x.1) (all_sessions (noted keeping changed point) xs)
    ∙ ap (λ n. cond (watches name x.1.subscriptions.asked) 1 0 + n) (watching-noted name changed point xs)
    ∙ sym (sum_by-cons (λ (e : ℕ × KeptSession). cond (watches name e.1.subscriptions.asked) 1 0) x xs)

pub steps-first : (c : Changed) (cs : List Changed) (xs : Numbered KeptSession) → noting_steps (c ∷ cs) xs ≡ (1 + 2 * watching_in c.key.owner xs) + noting_steps cs xs
steps-first c cs xs = sum_by-cons (λ (d : Changed). 1 + 2 * watching_in d.key.owner xs) c cs

pub steps-noted : (cs changed : List Changed) (point : ℕ) (xs : Numbered KeptSession) → noting_steps cs (all_sessions (noted keeping changed point) xs) ≡ noting_steps cs xs
steps-noted [] changed point xs = refl
steps-noted (c ∷ cs) changed point xs =
    steps-first c cs (all_sessions (noted keeping changed point) xs)
    ∙ (λ i. (1 + 2 * watching-noted c.key.owner changed point xs i) + steps-noted cs changed point xs i)
    ∙ sym (steps-first c cs xs)

-- with a step for the room of each key and one for each change
pub all-within : (changed : List Changed) (xs : Numbered KeptSession) → length changed + noting_steps changed xs + length changed ≤ sum_by (λ c. 8 + 4 * watching_in c.key.owner xs) changed
all-within [] xs = omega arith
all-within (c ∷ cs) xs =
    let rest = all-within cs xs in
    let here = steps-first c cs xs in
    let whole = sum_by-cons (λ (d : Changed). 8 + 4 * watching_in d.key.owner xs) c cs in
    omega (arith, rest, here, whole)

-- a change takes no more than its part
pub steps-next : (old now new : ℕ) (xs later : Numbered KeptSession) (first : Numbered KeptSession) (changed : List Changed) (point i : ℕ) (c : Changed) → i < length changed → c ≡ get_or changed i c → later ≡ all_sessions (noted keeping (c ∷ []) point) xs
    → CountsUpTo (1 + 2 * watching_in c.key.owner xs) now new → (old ≤ now) × (now + noting_steps (drop i changed) xs ≤ old + noting_steps changed first) → (old ≤ new) × (new + noting_steps (drop (i + 1) changed) later ≤ old + noting_steps changed first)
steps-next old now new xs later first changed point i c within is step counts (sooner, so_far) =
    let split : noting_steps (drop i changed) xs ≡ (1 + 2 * watching_in c.key.owner xs) + noting_steps (drop (i + 1) changed) xs = ap (λ l. noting_steps l xs) (drop_more changed i c within ∙ ap (λ d. d ∷ drop (i + 1) changed) (sym is)) ∙ steps-first c (drop (i + 1) changed) xs in
    let same : noting_steps (drop (i + 1) changed) later ≡ noting_steps (drop (i + 1) changed) xs = ap (noting_steps (drop (i + 1) changed)) step ∙ steps-noted (drop (i + 1) changed) (c ∷ []) point xs in
    (omega (arith, sooner, counts.later), omega (arith, so_far, split, same, counts.most))

-- where it fails, what was counted is within the whole
pub steps-fail : (old now new : ℕ) (xs first : Numbered KeptSession) (changed : List Changed) (i : ℕ) (c : Changed) → i < length changed → c ≡ get_or changed i c
    → CountsUpTo (1 + 2 * watching_in c.key.owner xs) now new → (old ≤ now) × (now + noting_steps (drop i changed) xs ≤ old + noting_steps changed first) → CountsUpTo (noting_steps changed first) old new
steps-fail old now new xs first changed i c within is counts (sooner, so_far) =
    let split : noting_steps (drop i changed) xs ≡ (1 + 2 * watching_in c.key.owner xs) + noting_steps (drop (i + 1) changed) xs = ap (λ l. noting_steps l xs) (drop_more changed i c within ∙ ap (λ d. d ∷ drop (i + 1) changed) (sym is)) ∙ steps-first c (drop (i + 1) changed) xs in
    record { later = omega (arith, sooner, counts.later); most = omega (arith, so_far, split, counts.most) }

-- one change: those that watch its name are found, and asked
pub change-found : (watching : Watching) (xs : Numbered KeptSession) (numbers : List ℕ) (name : Labels) (old new : ℕ) → AreApart xs → Watches watching xs → AreWatching watching name numbers → new ≡ old + 1 + length numbers → CountsUpTo (1 + 2 * watching_in name xs) old new
change-found watching xs numbers name old new apart w are is =
    let few = few-watch watching xs apart w name numbers are in
    record { later = omega (arith, is); most = omega (arith, is, few) }

pub change-asked : (watching : Watching) (xs : Numbered KeptSession) (numbers : List ℕ) (name : Labels) (old mid new : ℕ) → AreApart xs → Watches watching xs → AreWatching watching name numbers → mid ≡ old + 1 + length numbers → CountsUpTo (length numbers) mid new → CountsUpTo (1 + 2 * watching_in name xs) old new
change-asked watching xs numbers name old mid new apart w are is counts =
    let few = few-watch watching xs apart w name numbers are in
    record { later = omega (arith, is, counts.later); most = omega (arith, is, few, counts.most) }

pub steps-end : (old now : ℕ) (xs first : Numbered KeptSession) (changed : List Changed) (i : ℕ) → now + noting_steps (drop i changed) xs ≤ old + noting_steps changed first → now ≤ old + noting_steps changed first
steps-end old now xs first changed i so_far = omega (arith, so_far)

-- one change is made, and a step less is left
pub one-less : (now new whole : ℕ) (all : List Changed) (c : Changed) (rest : List Changed) → new ≡ now + 1 → all ≡ c ∷ rest → now + length all ≡ whole → new + length rest ≡ whole
one-less now new whole all c rest step is so_far = omega (arith, step, ap (λ (l : List Changed). length l) is, so_far)
