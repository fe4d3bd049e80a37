-- Jobs that are handed over, one behind the other.
use Rattle.std.proofs.Common.{◌≡◌, ℕ, ◌+◌, ◌-◌, ◌*◌, ◌≤◌, true, false, zero, suc, List, [], ◌∷◌, ◌++◌, length, refl, sym, ap, ◌∙◌, subst, append_assoc, append-nil, length-append, arith}
use Rattle.std.proofs.lemmas.List.{length-map}
use Rattle.std.specs.Prelude.{Result, Ok, Err, OnOk, is_ok}
use Rattle.push_base.specs.Starter.{Jobs}
use Rattle.push_base.specs.Told.{TellsMore}
use Rattle.push_base.specs.declared.role.Role.{Role}
use Rattle.push_base.specs.declared.role.Role.TheVariants as roles
use Rattle.hubloops.proofs.Leading.{tells_none, tells_join}
use Rattle.serving.specs.Jobs.{HandsFront, HandsOver, jobs_of, link_jobs, pair_of, session_jobs}
use Rattle.serving.specs.Servers.{SeatsAll, ServerState}
use Rattle.serving.specs.Serving.{Starts, StartsAll}

abbrev Handed : Type 0
Handed = List (Role × ℕ)

-- none of them
pub front_none : (jobs : Handed) (told : Jobs) → HandsFront jobs told told
front_none jobs told = ([], jobs, refl, tells_none told)

-- all of them, and more are to come
pub front_some : (jobs more : Handed) (told now : Jobs) → TellsMore told now jobs → HandsFront (jobs ++ more) told now
front_some jobs more told now handed = (jobs, more, refl, handed)

-- further ones are to come
pub front_longer : (jobs more : Handed) (told now : Jobs) → HandsFront jobs told now → HandsFront (jobs ++ more) told now
front_longer jobs more told now (front, rest, is, handed) =
    (front, rest ++ more, ap (λ (s : Handed). s ++ more) is ∙ append_assoc front rest more, handed)

-- behind others
pub front_behind : (jobs more : Handed) (told mid now : Jobs) → TellsMore told mid jobs → HandsFront more mid now → HandsFront (jobs ++ more) told now
front_behind jobs more told mid now handed (front, rest, is, behind) =
    (jobs ++ front, rest, ap (λ (s : Handed). jobs ++ s) is ∙ sym (append_assoc jobs front rest), tells_join told mid now jobs front handed behind)

-- the result of a `?` that ends a function
pub over_err : {A E : Type 0} (jobs : Handed) (told now : Jobs) (r : Result A E) (e : E) → r ≡ Err e → HandsFront jobs told now → HandsOver jobs told now r
over_err jobs told now (Ok done) e is front = absurd cc
over_err jobs told now (Err fault) e is front = front

-- a result that is handed on
pub over_then : {A E : Type 0} (jobs more : Handed) (told mid now : Jobs) (r : Result A E) → TellsMore told mid jobs → HandsOver more mid now r → HandsOver (jobs ++ more) told now r
over_then jobs more told mid now (Ok done) handed behind = tells_join told mid now jobs more handed behind
over_then jobs more told mid now (Err fault) handed behind = front_behind jobs more told mid now handed behind

-- the jobs of further sessions stand behind those of the first
session_rest : (turns n k : ℕ) → (rest : Handed) × (session_jobs turns (n + k) ≡ session_jobs turns n ++ rest)
session_rest turns n zero =
    let same : n + 0 ≡ n = omega arith in
    ([], ap (λ (m : ℕ). session_jobs turns m) same ∙ sym (append-nil (session_jobs turns n)))
session_rest turns n (suc k) =
    let next : n + suc k ≡ suc (n + k) = omega arith in
    let before : (rest : Handed) × (session_jobs turns (n + k) ≡ session_jobs turns n ++ rest) = session_rest turns n k in (
      before.0 ++ pair_of turns (n + k),
      ap (λ (m : ℕ). session_jobs turns m) next ∙ (ap (λ (s : Handed). s ++ pair_of turns (n + k)) before.1 ∙ append_assoc (session_jobs turns n) before.0 (pair_of turns (n + k))),
    )

pub sessions_front : (turns n m : ℕ) → n ≤ m → (rest : Handed) × (session_jobs turns m ≡ session_jobs turns n ++ rest)
sessions_front turns n m few =
    let whole : m ≡ n + (m - n) = omega arith in
    let rest : (rest : Handed) × (session_jobs turns (n + (m - n)) ≡ session_jobs turns n ++ rest) = session_rest turns n (m - n) in
    (rest.0, ap (λ (l : ℕ). session_jobs turns l) whole ∙ rest.1)

-- the front of the jobs of some sessions is that of the jobs of more
pub front_of_more : (turns n m : ℕ) (told now : Jobs) → n ≤ m → HandsFront (session_jobs turns n) told now → HandsFront (session_jobs turns m) told now
front_of_more turns n m told now few front =
    let rest : (rest : Handed) × (session_jobs turns m ≡ session_jobs turns n ++ rest) = sessions_front turns n m few in
    subst (λ (s : Handed). HandsFront s told now) (sym rest.1) (front_longer (session_jobs turns n) rest.0 told now front)

-- ---- all jobs

abbrev clock_job : ℕ → Handed
clock_job turns = (roles.Clock, turns) ∷ []

-- some sessions got no seat, so these jobs are the first of what might have been
pub starts_less : (turns : ℕ) (links : List ℕ) (sessions : ℕ) (told now : Jobs) → Starts true turns links sessions told now → Starts false turns links sessions told now
starts_less turns links sessions told now (seats, are, handed) =
    let rest : (rest : Handed) × (session_jobs turns sessions ≡ session_jobs turns seats ++ rest) = sessions_front turns seats sessions are.1 in
    let same : jobs_of turns links sessions ≡ jobs_of turns links seats ++ rest.0 =
    ap (λ (s : Handed). link_jobs turns links ++ (clock_job turns ++ s)) rest.1 ∙ sym (append_assoc (link_jobs turns links) (clock_job turns ++ session_jobs turns seats) rest.0) in
    (jobs_of turns links seats, rest.0, same, handed)

-- the server is given up among the links' jobs
pub starts_links : {A E : Type 0} (turns : ℕ) (links : List ℕ) (sessions : ℕ) (told now : Jobs) (r : Result A E) (e : E)
    → r ≡ Err e → HandsFront (link_jobs turns links) told now → Starts (is_ok r) turns links sessions told now
starts_links turns links sessions told now (Ok done) e is front = absurd cc
starts_links turns links sessions told now (Err fault) e is front = front_longer (link_jobs turns links) (clock_job turns ++ session_jobs turns sessions) told now front

-- at the clock's job
pub starts_clock : {A E : Type 0} (turns : ℕ) (links : List ℕ) (sessions : ℕ) (told mid now : Jobs) (r : Result A E) (e : E)
    → r ≡ Err e → TellsMore told mid (link_jobs turns links) → HandsFront (clock_job turns) mid now → Starts (is_ok r) turns links sessions told now
starts_clock turns links sessions told mid now (Ok done) e is handed front = absurd cc
starts_clock turns links sessions told mid now (Err fault) e is handed front =
    front_behind (link_jobs turns links) (clock_job turns ++ session_jobs turns sessions) told mid now handed (front_longer (clock_job turns) (session_jobs turns sessions) mid now front)

-- at a session, or nowhere
pub starts_all : {A E : Type 0} (turns : ℕ) (links : List ℕ) (sessions : ℕ) (told mid later now : Jobs) (before after : ServerState) (r : Result A E)
    → TellsMore told mid (link_jobs turns links) → TellsMore mid later (clock_job turns) → SeatsAll turns sessions later now before after r → Starts (is_ok r) turns links sessions told now
starts_all turns links sessions told mid later now before after (Ok done) handed clock (are, opened, jobs) =
    (after.made, are, tells_join told mid now (link_jobs turns links) (clock_job turns ++ session_jobs turns after.made) handed (tells_join mid later now (clock_job turns) (session_jobs turns after.made) clock opened))
starts_all turns links sessions told mid later now before after (Err fault) handed clock front =
    front_behind (link_jobs turns links) (clock_job turns ++ session_jobs turns sessions) told mid now handed (front_behind (clock_job turns) (session_jobs turns sessions) mid later now clock front)

sessions_length : (turns n : ℕ) → length (session_jobs turns n) ≡ 2 * n
sessions_length turns zero = refl
sessions_length turns (suc n) =
    let before : length (session_jobs turns n) ≡ 2 * n = sessions_length turns n in
    let more : length (session_jobs turns (suc n)) ≡ length (session_jobs turns n) + 2 = length-append (session_jobs turns n) (pair_of turns n) in
    omega (arith, before, more)

jobs_length : (turns : ℕ) (links : List ℕ) (seats : ℕ) → length (jobs_of turns links seats) ≡ length links + (1 + 2 * seats)
jobs_length turns links seats =
    let parted : length (jobs_of turns links seats) ≡ length (link_jobs turns links) + suc (length (session_jobs turns seats)) = length-append (link_jobs turns links) (clock_job turns ++ session_jobs turns seats) in
    let linked : length (link_jobs turns links) ≡ length links = length-map links (λ (link : ℕ). (roles.Link link, turns)) in
    let seated : length (session_jobs turns seats) ≡ 2 * seats = sessions_length turns seats in
    omega (arith, parted, linked, seated)

counted_jobs : (linked jobs first made many all : ℕ) → linked ≡ many → first ≡ 1 → jobs ≡ first + 2 * made → all ≡ many + (1 + 2 * made) → linked + jobs ≡ all
counted_jobs linked jobs first made many all same one is whole = omega arith

-- all jobs were started, as many as the server holds
pub starts_whole : {A E : Type 0} (turns : ℕ) (links : List ℕ) (sessions : ℕ) (told mid later now : Jobs) (before after : ServerState) (r : Result A E)
    → TellsMore told mid (link_jobs turns links) → TellsMore mid later (clock_job turns) → SeatsAll turns sessions later now before after r → before.jobs ≡ 1 → after.links ≡ links
    → OnOk r (StartsAll turns links sessions told now (length after.links + after.jobs))
starts_whole turns links sessions told mid later now before after (Ok done) handed clock (are, opened, jobs) one same = (
  after.made,
  are,
  tells_join told mid now (link_jobs turns links) (clock_job turns ++ session_jobs turns after.made) handed (tells_join mid later now (clock_job turns) (session_jobs turns after.made) clock opened),
  counted_jobs (length after.links) after.jobs before.jobs after.made (length links) (length (jobs_of turns links after.made)) (ap (λ (ls : List ℕ). length ls) same) one jobs (jobs_length turns links after.made),
)
starts_whole turns links sessions told mid later now before after (Err fault) handed clock front one same = tt

-- ---- a job by its role and its turns

pub tells_as : (told now : Jobs) (role other : Role) (turns count : ℕ) → role ≡ other → turns ≡ count → TellsMore told now ((role, turns) ∷ []) → TellsMore told now ((other, count) ∷ [])
tells_as told now role other turns count is same handed =
    subst (λ (r : Role). TellsMore told now ((r, count) ∷ [])) is (subst (λ (t : ℕ). TellsMore told now ((role, t) ∷ [])) same handed)

pub front_as : (told now : Jobs) (role other : Role) (turns count : ℕ) → role ≡ other → turns ≡ count → HandsFront ((role, turns) ∷ []) told now → HandsFront ((other, count) ∷ []) told now
front_as told now role other turns count is same handed =
    subst (λ (r : Role). HandsFront ((r, count) ∷ []) told now) is (subst (λ (t : ℕ). HandsFront ((role, t) ∷ []) told now) same handed)

pub over_as : {A E : Type 0} (told now : Jobs) (role other : Role) (turns count : ℕ) (r : Result A E) → role ≡ other → turns ≡ count → HandsOver ((role, turns) ∷ []) told now r → HandsOver ((other, count) ∷ []) told now r
over_as told now role other turns count r is same handed =
    subst (λ (k : Role). HandsOver ((k, count) ∷ []) told now r) is (subst (λ (t : ℕ). HandsOver ((role, t) ∷ []) told now r) same handed)
