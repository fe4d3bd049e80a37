-- The jobs that a server hands to the starter.
--     is_link      a role is that of a link's job
--     link_jobs, session_jobs, jobs_of      those of the links, of the sessions that got a seat, and all in order
--     AreSeats      how many of the accepted sessions got a seat
--     HandsFront, HandsOver      the first of these jobs were handed over; all of them, unless the server is given up
use Rattle.std.specs.Prelude.{◌≡◌, ◌≤◌, ℕ, Bool, true, false, min, zero, suc, List, [], ◌∷◌, ◌++◌, map, Result, Ok, Err}
use Rattle.push_base.specs.Starter.{Jobs}
use Rattle.push_base.specs.Told.{TellsMore}
use Rattle.push_base.specs.declared.role.Role.{Role}
use Rattle.push_base.specs.declared.role.Role.TheVariants as roles
use Rattle.pushserver.specs.Hubs.{max_sessions}

abbrev pub is_link : Role → Bool
is_link (roles.Link link) = true
is_link _ = false

-- one for each link
abbrev pub link_jobs : ℕ → List ℕ → List (Role × ℕ)
link_jobs turns links = map (λ link. (roles.Link link, turns)) links

-- a reader and a writer of one session
abbrev pub pair_of : ℕ → ℕ → List (Role × ℕ)
pair_of turns session = (roles.Reader session, turns) ∷ (roles.Writer session, turns) ∷ []

-- those of the first sessions
abbrev pub session_jobs : ℕ → ℕ → List (Role × ℕ)
session_jobs turns zero = []
session_jobs turns (suc n) = session_jobs turns n ++ pair_of turns n

-- the links' jobs, the clock's, and those of so many sessions that got a seat
abbrev pub jobs_of : ℕ → List ℕ → ℕ → List (Role × ℕ)
jobs_of turns links seats = link_jobs turns links ++ ((roles.Clock, turns) ∷ session_jobs turns seats)

-- of so many accepted sessions the first got seats, as many as there are, and maybe later ones
abbrev pub AreSeats : ℕ → ℕ → Type 0
AreSeats sessions seats = (min sessions max_sessions ≤ seats) × (seats ≤ sessions)

-- the first of these jobs were handed over, and no others
abbrev pub HandsFront : List (Role × ℕ) → Jobs → Jobs → Type 0
HandsFront jobs told now = (front : List (Role × ℕ)) × (rest : List (Role × ℕ)) × (jobs ≡ front ++ rest) × TellsMore told now front

-- these jobs were handed over, unless the server is given up
abbrev pub HandsOver : {A E : Type 0} → List (Role × ℕ) → Jobs → Jobs → Result A E → Type 0
HandsOver jobs told now (Ok done) = TellsMore told now jobs
HandsOver jobs told now (Err e) = HandsFront jobs told now
