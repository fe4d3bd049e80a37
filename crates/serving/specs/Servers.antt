-- What a server holds while its jobs are started.
--     ServerState      the parts of its feed, its seats, and the jobs that were started
--     IsWhole      its feed and its jobs have all parts
--     SeatsOne      one session got a seat or not
--     SeatsAll      so many sessions were accepted, and the first of them got seats, each with two jobs
--     StartsFirst      the job of the first link was started
use Rattle.std.specs.Prelude.{◌≡◌, ◌⊎◌, ◌≤◌, ℕ, ◌+◌, ◌-◌, ◌*◌, List, [], ◌∷◌, ◌++◌, length, Result, Ok, Err}
use Rattle.push_base.specs.Starter.{Jobs}
use Rattle.push_base.specs.Told.{TellsMore}
use Rattle.push_base.specs.declared.role.Role.TheVariants as roles
use Rattle.pushserver.specs.Hubs.{max_sessions}
use Rattle.hublock.specs.Feeds.{parts_each}
use Rattle.serving.specs.Jobs.{AreSeats, HandsFront, pair_of, session_jobs}

-- the parts of each ledger that its feed has, how many sessions were made, the links whose jobs were started, how many other
-- jobs were, and the turns of each; a job that is over counts as if it still had its part
pub record ServerState : Type 0 where
  pub parts : ℕ
  pub made : ℕ
  pub links : List ℕ
  pub jobs : ℕ
  pub turns : ℕ

abbrev pub new_server : ℕ → ServerState
new_server turns = record { parts = parts_each; made = 0; links = []; jobs = 0; turns = turns }

abbrev pub with_part_less : ServerState → ServerState
with_part_less server = record server { parts = server.parts - 1 }

abbrev pub with_link : ServerState → ℕ → ServerState
with_link server link = record server { parts = server.parts - 1; links = server.links ++ link ∷ [] }

abbrev pub with_job : ServerState → ServerState
with_job server = record server { jobs = server.jobs + 1 }

-- so many jobs more, each with a part
abbrev pub with_jobs : ℕ → ServerState → ServerState
with_jobs n server = record server { parts = server.parts - n; jobs = server.jobs + n }

abbrev pub with_session : ServerState → ServerState
with_session server = record server { parts = server.parts - 2; made = server.made + 1; jobs = server.jobs + 2 }

-- each job has one part of each ledger, and the feed has the others
abbrev pub IsWhole : ServerState → Type 0
IsWhole server = server.parts + (length server.links + server.jobs) ≡ parts_each

-- a session got no seat, behind as many as there are; or it got the next number, its jobs were handed over, and a part is left
abbrev pub SeatsOne : {A E : Type 0} → Jobs → Jobs → ServerState → ServerState → Result A E → Type 0
SeatsOne told now before after (Ok done) =
    ((now ≡ told) × (after ≡ before) × (max_sessions ≤ before.made))
    ⊎ (TellsMore told now (pair_of before.turns before.made) × (after ≡ with_session before) × (3 ≤ before.parts))
SeatsOne told now before after (Err e) = HandsFront (pair_of before.turns before.made) told now

-- of so many sessions the first got seats, and their jobs were handed over; else the first of these jobs
abbrev pub SeatsAll : {A E : Type 0} → ℕ → ℕ → Jobs → Jobs → ServerState → ServerState → Result A E → Type 0
SeatsAll turns sessions told now before after (Ok done) =
    AreSeats sessions after.made × TellsMore told now (session_jobs turns after.made) × (after.jobs ≡ before.jobs + 2 * after.made)
SeatsAll turns sessions told now before after (Err e) = HandsFront (session_jobs turns sessions) told now

-- the job of the first link was handed over, the others and a part are left; where the server is given up, it may be among them
abbrev pub StartsFirst : {A E : Type 0} → List ℕ → List ℕ → Jobs → Jobs → ServerState → ServerState → Result A E → Type 0
StartsFirst [] left told now before after result = ⊥
StartsFirst (link ∷ others) left told now before after (Ok done) =
    TellsMore told now ((roles.Link link, before.turns) ∷ []) × (left ≡ others) × (after ≡ with_link before link) × (2 ≤ before.parts)
StartsFirst (link ∷ others) left told now before after (Err e) =
    HandsFront ((roles.Link link, before.turns) ∷ []) told now × ((left ≡ others) ⊎ (left ≡ link ∷ others)) × (after.links ≡ before.links)
