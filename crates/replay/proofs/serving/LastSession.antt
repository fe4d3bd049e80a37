-- A hub and its newest session, which stands last behind others of lower numbers: what is done in it leaves the others.
use Rattle.std.proofs.Common.{◌≡◌, ℕ, ◌+◌, ◌<◌, false, cond, ◌==◌, List, [], ◌∷◌, ◌++◌, map, Some, None, option_map, find, ◌∙◌, ap, eq-eqb, ne_eqb, refl, arith}
use Rattle.std.specs.List.{AllByRecursion}
use Rattle.pushserver.specs.PlainHubs.{Session, Hub}
use Rattle.pushserver.specs.Hubs.{session_of, in_session}

abbrev pub Sessions : Type 0
Sessions = List (ℕ × Session)

-- all numbers are lower
abbrev pub AreBelow : ℕ → Sessions → Type 0
AreBelow n sessions = AllByRecursion (λ e. e.0 < n) sessions

pub below-more : (n : ℕ) (sessions : Sessions) (s : Session) → AreBelow n sessions → AreBelow (n + 1) (sessions ++ (n, s) ∷ [])
below-more n [] s h = (omega arith, tt)
below-more n (e ∷ es) s h = (later e.0 n h.0, below-more n es s h.1)
  where
    later : (m n : ℕ) → m < n → m < n + 1
    later m n h = omega arith

pub not_last : (m n : ℕ) → m < n → (m == n) ≡ false
not_last m n h = ne_eqb m n (omega arith)

pub find-last : (n : ℕ) (earlier : Sessions) (s : Session) → AreBelow n earlier → find (λ e. e.0 == n) (earlier ++ (n, s) ∷ []) ≡ Some (n, s)
find-last n [] s h = ap (λ b. cond b (Some (n, s)) None) (eq-eqb n n refl)
find-last n (e ∷ es) s h = ap (λ b. cond b (Some e) (find (λ e. e.0 == n) (es ++ (n, s) ∷ []))) (not_last e.0 n h.0) ∙ find-last n es s h.1

abbrev pub changed : ℕ → (Session → Session) → Sessions → Sessions
changed n f sessions = map (λ e. (e.0, cond (e.0 == n) (f e.1) e.1)) sessions

pub changed-last : (n : ℕ) (f : Session → Session) (earlier : Sessions) (s : Session) → AreBelow n earlier → changed n f (earlier ++ (n, s) ∷ []) ≡ earlier ++ (n, f s) ∷ []
changed-last n f [] s h = ap (λ b. (n, cond b (f s) s) ∷ []) (eq-eqb n n refl)
changed-last n f (e ∷ es) s h = λ i. (e.0, cond (not_last e.0 n h.0 i) (f e.1) e.1) ∷ changed-last n f es s h.1 i

-- the numbers of a hub's sessions are below that of the next
abbrev pub IsBehind : Hub → Type 0
IsBehind hub = AreBelow hub.numbers_given hub.sessions

-- the hub with one session more
abbrev pub hub_at : Hub → Session → Hub
hub_at hub s = record hub { sessions = hub.sessions ++ (hub.numbers_given, s) ∷ []; numbers_given = hub.numbers_given + 1 }

module _ (hub : Hub) (below : IsBehind hub) where
  pub session_of-last : (s : Session) → session_of (hub_at hub s) hub.numbers_given ≡ Some s
  session_of-last s = ap (λ o. option_map (λ e. e.1) o) (find-last hub.numbers_given hub.sessions s below)

  pub in_session-last : (f : Session → Session) (s : Session) → in_session hub.numbers_given f (hub_at hub s) ≡ hub_at hub (f s)
  in_session-last f s = ap (λ sessions. record hub { sessions = sessions; numbers_given = hub.numbers_given + 1 }) (changed-last hub.numbers_given f hub.sessions s below)
