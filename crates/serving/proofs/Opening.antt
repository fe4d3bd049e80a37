-- A server whose jobs are started, one behind the other.
use Rattle.std.proofs.Common.{◌≡◌, ℕ, ◌+◌, ◌-◌, ◌*◌, ◌≤◌, ◌<◌, ◌⊎◌, inl, inr, min, Bool, true, false, suc, None, Some, List, [], ◌∷◌, ◌++◌, length, refl, sym, ap, ◌∙◌, subst, append_assoc, append-nil, length-append, add-one, ◌==◌, arith}
use Rattle.std.proofs.lemmas.Bool.{eqb-true}
use Rattle.std.specs.Prelude.{⊤, Result, Ok, Err, OnOk, is_ok}
use Rattle.std.specs.declared.option.Option.{Option}
use Rattle.std.proofs.lemmas.List.{map-append}
use Rattle.push_base.specs.Starter.{Jobs}
use Rattle.push_base.specs.Told.{TellsMore}
use Rattle.push_base.specs.declared.role.Role.{Role}
use Rattle.push_base.specs.declared.role.Role.TheVariants as roles
use Rattle.pushserver.specs.Hubs.{max_sessions}
use Rattle.hublock.specs.Feeds.{parts_each}
use Rattle.push_base.specs.Causes.{CountsOne}
use Rattle.hubloops.proofs.Leading.{tells_none, tells_join}
use Rattle.serving.specs.Jobs.{HandsFront, HandsOver, link_jobs, pair_of, session_jobs}
use Rattle.serving.specs.Servers.{ServerState, IsWhole, SeatsAll, SeatsOne, StartsFirst, new_server, with_job, with_jobs, with_link, with_part_less, with_session}
use Rattle.serving.specs.Serving.{Accepts, CountsBy, Returns}
use Rattle.serving.proofs.Handing.{front_longer, front_behind, front_of_more}

abbrev Handed : Type 0
Handed = List (Role × ℕ)

-- ---- one link

pub first_done : (E : Type 0) (numbers : List ℕ) (link : ℕ) (others left : List ℕ) (told now : Jobs) (before after : ServerState)
    → numbers ≡ link ∷ others → left ≡ others → TellsMore told now ((roles.Link link, before.turns) ∷ []) → after ≡ with_link before link → 2 ≤ before.parts
    → StartsFirst {A = ⊤} {E = E} numbers left told now before after (Ok tt)
first_done E numbers link others left told now before after is same handed led enough =
    subst (λ (ns : List ℕ). StartsFirst {A = ⊤} {E = E} ns left told now before after (Ok tt)) (sym is) (handed, same, led, enough)

pub first_fault : {A E : Type 0} (numbers : List ℕ) (link : ℕ) (others left : List ℕ) (told now : Jobs) (before after : ServerState) (r : Result A E) (e : E)
    → r ≡ Err e → numbers ≡ link ∷ others → (left ≡ others) ⊎ (left ≡ link ∷ others) → HandsFront ((roles.Link link, before.turns) ∷ []) told now → after.links ≡ before.links
    → StartsFirst numbers left told now before after r
first_fault {A} {E} numbers link others left told now before after (Ok done) e fault is same front kept = absurd cc
first_fault {A} {E} numbers link others left told now before after (Err f) e fault is same front kept =
    subst (λ (ns : List ℕ). StartsFirst {A = A} {E = E} ns left told now before after (Err f)) (sym is) (front, same, kept)

-- ---- all links

pub record LinksSoFar (turns : ℕ) (numbers left : List ℕ) (told now : Jobs) (server : ServerState) : Type 0 where
  pub parted : server.links ++ left ≡ numbers
  pub handed : TellsMore told now (link_jobs turns server.links)
  pub whole : IsWhole server
  pub made : server.made ≡ 0
  pub jobs : server.jobs ≡ 0
  pub turns_are : server.turns ≡ turns

link_jobs_more : (turns : ℕ) (links : List ℕ) (link : ℕ) → link_jobs turns (links ++ link ∷ []) ≡ link_jobs turns links ++ (roles.Link link, turns) ∷ []
link_jobs_more turns links link = map-append (λ (n : ℕ). (roles.Link n, turns)) links (link ∷ [])

whole_more : (parts linked n jobs : ℕ) → 1 ≤ parts → parts + (linked + jobs) ≡ parts_each → n ≡ linked + 1 → (parts - 1) + (n + jobs) ≡ parts_each
whole_more parts linked n jobs some whole is = omega arith

pub links_more : (A E : Type 0) (turns : ℕ) (numbers left after : List ℕ) (told mid now : Jobs) (server next : ServerState) (done : A)
    → LinksSoFar turns numbers left told mid server → StartsFirst {E = E} left after mid now server next (Ok done)
    → LinksSoFar turns numbers after told now next
links_more A E turns numbers [] after told mid now server next done so_far step = absurd step
links_more A E turns numbers (link ∷ others) after told mid now server next done so_far (handed, same, is, enough) =
    let some : 1 ≤ server.parts = omega (arith, enough) in
    let one : (now_is : Jobs) → TellsMore mid now_is ((roles.Link link, server.turns) ∷ []) → TellsMore told now_is (link_jobs turns (server.links ++ link ∷ [])) =
    λ now_is more.
    subst (λ (s : Handed). TellsMore told now_is s) (sym (link_jobs_more turns server.links link))
    (tells_join told mid now_is (link_jobs turns server.links) ((roles.Link link, turns) ∷ []) so_far.handed (subst (λ (t : ℕ). TellsMore mid now_is ((roles.Link link, t) ∷ [])) so_far.turns_are more)) in
    let led : LinksSoFar turns numbers others told now (with_link server link) = record {
      parted = append_assoc server.links (link ∷ []) others ∙ so_far.parted;
      handed = one now handed;
      whole = whole_more server.parts (length server.links) (length (server.links ++ link ∷ [])) server.jobs some so_far.whole (length-append server.links (link ∷ []));
      made = so_far.made;
      jobs = so_far.jobs;
      turns_are = so_far.turns_are;
    } in
    let moved : LinksSoFar turns numbers others told now next = subst (λ (s : ServerState). LinksSoFar turns numbers others told now s) (sym is) led in
    subst (λ (ns : List ℕ). LinksSoFar turns numbers ns told now next) (sym same) moved

link_jobs_front : (turns : ℕ) (links : List ℕ) (link : ℕ) (others : List ℕ) → (rest : Handed) × (link_jobs turns (links ++ link ∷ others) ≡ (link_jobs turns links ++ (roles.Link link, turns) ∷ []) ++ rest)
link_jobs_front turns links link others =
    (link_jobs turns others, map-append (λ (n : ℕ). (roles.Link n, turns)) links (link ∷ others) ∙ sym (append_assoc (link_jobs turns links) ((roles.Link link, turns) ∷ []) (link_jobs turns others)))

-- a link's job couldn't be started
pub links_fault : (A E : Type 0) (turns : ℕ) (numbers left after : List ℕ) (told mid now : Jobs) (server next : ServerState) (fault : E)
    → LinksSoFar turns numbers left told mid server → StartsFirst {A = A} left after mid now server next (Err fault)
    → HandsFront (link_jobs turns numbers) told now
links_fault A E turns numbers [] after told mid now server next fault so_far step = absurd step
links_fault A E turns numbers (link ∷ others) after told mid now server next fault so_far (front, same, kept) =
    let more : HandsFront ((roles.Link link, turns) ∷ []) mid now = subst (λ (t : ℕ). HandsFront ((roles.Link link, t) ∷ []) mid now) so_far.turns_are front in
    let rest : (rest : Handed) × (link_jobs turns (server.links ++ link ∷ others) ≡ (link_jobs turns server.links ++ (roles.Link link, turns) ∷ []) ++ rest) = link_jobs_front turns server.links link others in
    let here : HandsFront (link_jobs turns (server.links ++ link ∷ others)) told now =
    subst (λ (s : Handed). HandsFront s told now) (sym rest.1)
    (front_longer (link_jobs turns server.links ++ (roles.Link link, turns) ∷ []) rest.0 told now (front_behind (link_jobs turns server.links) ((roles.Link link, turns) ∷ []) told mid now so_far.handed more)) in
    subst (λ (ns : List ℕ). HandsFront (link_jobs turns ns) told now) so_far.parted here

-- its datagrams are lost, or not even these
pub links_back : (A E : Type 0) (turns : ℕ) (numbers left after : List ℕ) (told mid now : Jobs) (server next : ServerState) (fault : E)
    → LinksSoFar turns numbers left told mid server → StartsFirst {A = A} left after mid now server next (Err fault)
    → Returns false numbers (next.links ++ after)
links_back A E turns numbers [] after told mid now server next fault so_far step = absurd step
links_back A E turns numbers (link ∷ others) after told mid now server next fault so_far (front, inl same, kept) =
    let led : next.links ++ after ≡ server.links ++ others = ap (λ (s : List ℕ). s ++ after) kept ∙ ap (λ (s : List ℕ). server.links ++ s) same in
    inr (server.links, link, others, sym so_far.parted, led)
links_back A E turns numbers (link ∷ others) after told mid now server next fault so_far (front, inr same, kept) =
    inl (ap (λ (s : List ℕ). s ++ after) kept ∙ (ap (λ (s : List ℕ). server.links ++ s) same ∙ so_far.parted))

pub returns_err : {A E : Type 0} (all some : List ℕ) (r : Result A E) (e : E) → r ≡ Err e → Returns false all some → Returns (is_ok r) all some
returns_err all some (Ok done) e is back = absurd cc
returns_err all some (Err f) e is back = back

pub returns_any : (t : Bool) (all some : List ℕ) → some ≡ all → Returns t all some
returns_any true all some is = is
returns_any false all some is = inl is

-- ---- sessions

pub record SessionsSoFar (turns sessions : ℕ) (told now : Jobs) (before server : ServerState) : Type 0 where
  pub handed : TellsMore told now (session_jobs turns server.made)
  pub few : min sessions max_sessions ≤ server.made
  pub most : server.made ≤ sessions
  pub parts : server.parts + 2 * server.made ≡ before.parts
  pub jobs : server.jobs ≡ before.jobs + 2 * server.made
  pub links : server.links ≡ before.links
  pub turns_are : server.turns ≡ turns

pub sessions_begun : (told : Jobs) (before : ServerState) → before.made ≡ 0 → SessionsSoFar before.turns 0 told told before before
sessions_begun told before made = record {
  handed = subst (λ (n : ℕ). TellsMore told told (session_jobs before.turns n)) (sym made) (tells_none told);
  few = omega arith;
  most = omega arith;
  parts = omega arith;
  jobs = omega arith;
  links = refl;
  turns_are = refl;
}

few_more : (k most made now : ℕ) → min k most ≤ made → now ≡ made + 1 → min (k + 1) most ≤ now
few_more k most made now few is = omega arith

few_full : (k most made : ℕ) → most ≤ made → min k most ≤ made
few_full k most made full = omega arith

pub sessions_more : (A E : Type 0) (turns k : ℕ) (told mid now : Jobs) (before server next : ServerState) (done : A)
    → SessionsSoFar turns k told mid before server → SeatsOne {E = E} mid now server next (Ok done)
    → SessionsSoFar turns (k + 1) told now before next
sessions_more A E turns k told mid now before server next done so_far (inl (same, is, full)) =
    let led : SessionsSoFar turns (k + 1) told mid before server = record {
      handed = so_far.handed;
      few = few_full (k + 1) max_sessions server.made full;
      most = omega (arith, so_far.most);
      parts = so_far.parts;
      jobs = so_far.jobs;
      links = so_far.links;
      turns_are = so_far.turns_are;
    } in
    subst (λ (s : ServerState). SessionsSoFar turns (k + 1) told now before s) (sym is) (subst (λ (o : Jobs). SessionsSoFar turns (k + 1) told o before server) (sym same) led)
sessions_more A E turns k told mid now before server next done so_far (inr (handed, is, enough)) =
    let some : 2 ≤ server.parts = omega (arith, enough) in
    let pair : TellsMore mid now (pair_of turns server.made) = subst (λ (t : ℕ). TellsMore mid now (pair_of t server.made)) so_far.turns_are handed in
    let both : TellsMore told now (session_jobs turns (server.made + 1)) =
    subst (λ (n : ℕ). TellsMore told now (session_jobs turns n)) (sym (add-one server.made)) (tells_join told mid now (session_jobs turns server.made) (pair_of turns server.made) so_far.handed pair) in
    let led : SessionsSoFar turns (k + 1) told now before (with_session server) = record {
      handed = both;
      few = few_more k max_sessions server.made (server.made + 1) so_far.few refl;
      most = omega (arith, so_far.most);
      parts = omega (arith, so_far.parts, some);
      jobs = omega (arith, so_far.jobs);
      links = so_far.links;
      turns_are = so_far.turns_are;
    } in
    subst (λ (s : ServerState). SessionsSoFar turns (k + 1) told now before s) (sym is) led

pub sessions_fault : (A E : Type 0) (turns k sessions : ℕ) (told mid now : Jobs) (before server next : ServerState) (fault : E)
    → k < sessions → SessionsSoFar turns k told mid before server → SeatsOne {A = A} mid now server next (Err fault)
    → HandsFront (session_jobs turns sessions) told now
sessions_fault A E turns k sessions told mid now before server next fault more so_far front =
    let pair : HandsFront (pair_of turns server.made) mid now = subst (λ (t : ℕ). HandsFront (pair_of t server.made) mid now) so_far.turns_are front in
    let few : suc server.made ≤ sessions = omega (arith, so_far.most, more) in
    front_of_more turns (suc server.made) sessions told now few (front_behind (session_jobs turns server.made) (pair_of turns server.made) told mid now so_far.handed pair)

pub seats_err : {A E : Type 0} (turns sessions : ℕ) (told now : Jobs) (before after : ServerState) (r : Result A E) (e : E) → r ≡ Err e → HandsFront (session_jobs turns sessions) told now → SeatsAll turns sessions told now before after r
seats_err turns sessions told now before after (Ok done) e is front = absurd cc
seats_err turns sessions told now before after (Err f) e is front = front

-- ---- one session

pub seats_err_one : {A E : Type 0} (told now : Jobs) (before after : ServerState) (r : Result A E) (e : E) → r ≡ Err e → HandsFront (pair_of before.turns before.made) told now → SeatsOne told now before after r
seats_err_one told now before after (Ok done) e is front = absurd cc
seats_err_one told now before after (Err f) e is front = front

-- ---- accepted sessions

pub counts_by_none : (a : Option ℕ) → CountsBy 0 a a
counts_by_none None = tt
counts_by_none (Some n) = λ within. omega (arith, within)

pub counts_by_one : (a b : Option ℕ) → CountsOne a b → CountsBy 1 a b
counts_by_one None b one = tt
counts_by_one (Some n) None one = absurd one
counts_by_one (Some n) (Some m) one = λ within. one

pub counts_by_join : (j k : ℕ) (a b c : Option ℕ) → CountsBy j a b → CountsBy k b c → CountsBy (j + k) a c
counts_by_join j k None b c first second = tt
counts_by_join j k (Some n) None c first second = absurd first
counts_by_join j k (Some n) (Some m) None first second = absurd second
counts_by_join j k (Some n) (Some m) (Some l) first second = λ within.
    let mid = first within in
    omega (arith, within, mid, second (omega (arith, mid)))

-- no session was accepted
pub accepts_not : (sessions : ℕ) (told : Option ℕ) → Accepts false sessions told told
accepts_not sessions told = (0, omega arith, counts_by_none told)

pub accepts_none : {A E : Type 0} (sessions : ℕ) (told : Option ℕ) (r : Result A E) (e : E) → r ≡ Err e → Accepts (is_ok r) sessions told told
accepts_none sessions told (Ok done) e is = absurd cc
accepts_none sessions told (Err f) e is = accepts_not sessions told

pub accepts_less : (sessions : ℕ) (told now : Option ℕ) → Accepts true sessions told now → Accepts false sessions told now
accepts_less sessions told now counts = (sessions, omega arith, counts)

-- one session was accepted, and what became of it
pub accepts_one : (t : Bool) (told now : Option ℕ) → CountsBy 1 told now → Accepts t 1 told now
accepts_one true told now one = one
accepts_one false told now one = (1, omega arith, one)

pub accepts_more : (k : ℕ) (told mid now : Option ℕ) → CountsBy k told mid → Accepts true 1 mid now → CountsBy (k + 1) told now
accepts_more k told mid now so_far one = counts_by_join k 1 told mid now so_far one

pub accepts_fault : {A E : Type 0} (k sessions : ℕ) (told mid now : Option ℕ) (r : Result A E) (e : E)
    → r ≡ Err e → k < sessions → CountsBy k told mid → Accepts false 1 mid now → Accepts (is_ok r) sessions told now
accepts_fault k sessions told mid now (Ok done) e is more so_far one = absurd cc
accepts_fault k sessions told mid now (Err f) e is more so_far (n, few, counts) = (k + n, omega arith, counts_by_join k n told mid now so_far counts)

-- ---- jobs that are counted

pub jobs_twice : (server : ServerState) → with_jobs 1 (with_jobs 1 server) ≡ with_jobs 2 server
jobs_twice server =
    let parts : (server.parts - 1) - 1 ≡ server.parts - 2 = omega arith in
    let jobs : (server.jobs + 1) + 1 ≡ server.jobs + 2 = omega arith in
    λ i. record server { parts = parts i; jobs = jobs i }

-- one job behind a part that was taken for it
pub job_of_part : (server : ServerState) → with_job (with_part_less server) ≡ with_jobs 1 server
job_of_part server = refl

-- a session that got a seat, and its jobs
pub seat_takes : {A E : Type 0} (session : ℕ) (told now : Jobs) (before mid after : ServerState) (r : Result A E)
    → session ≡ before.made → mid ≡ record before { made = before.made + 1 } → HandsOver (pair_of mid.turns session) told now r → OnOk r (after ≡ with_jobs 2 mid) → OnOk r (3 ≤ mid.parts)
    → SeatsOne told now before after r
seat_takes session told now before mid after (Ok done) is seated handed led enough =
    let turns : mid.turns ≡ before.turns = ap (λ (s : ServerState). s.turns) seated in
    let pair : TellsMore told now (pair_of before.turns before.made) = subst (λ (n : ℕ). TellsMore told now (pair_of before.turns n)) is (subst (λ (t : ℕ). TellsMore told now (pair_of t session)) turns handed) in
    let parts : mid.parts ≡ before.parts = ap (λ (s : ServerState). s.parts) seated in
    let some : 3 ≤ before.parts = subst (λ (n : ℕ). 3 ≤ n) parts enough in
    inr (pair, led ∙ ap (λ (s : ServerState). with_jobs 2 s) seated, some)
seat_takes session told now before mid after (Err f) is seated handed led enough =
    let turns : mid.turns ≡ before.turns = ap (λ (s : ServerState). s.turns) seated in
    subst (λ (n : ℕ). HandsFront (pair_of before.turns n) told now) is (subst (λ (t : ℕ). HandsFront (pair_of t session) told now) turns handed)

-- ---- the links' jobs from the first to the last

pub links_begun : (turns : ℕ) (numbers : List ℕ) (told : Jobs) (server : ServerState) → server ≡ new_server turns → LinksSoFar turns numbers numbers told told server
links_begun turns numbers told server is =
    subst (λ (s : ServerState). LinksSoFar turns numbers numbers told told s) (sym is) (record {
      parted = refl;
      handed = tells_none told;
      whole = refl;
      made = refl;
      jobs = refl;
      turns_are = refl;
    })

pub links_count : (A E : Type 0) (left after : List ℕ) (mid now : Jobs) (server next : ServerState) (done : A)
    → StartsFirst {E = E} left after mid now server next (Ok done) → length next.links ≡ length server.links + 1
links_count A E [] after mid now server next done step = absurd step
links_count A E (link ∷ others) after mid now server next done (handed, same, is, enough) =
    ap (λ (s : ServerState). length s.links) is ∙ length-append server.links (link ∷ [])

pub links_count_err : (A E : Type 0) (left after : List ℕ) (mid now : Jobs) (server next : ServerState) (fault : E)
    → StartsFirst {A = A} left after mid now server next (Err fault) → length next.links ≡ length server.links
links_count_err A E [] after mid now server next fault step = absurd step
links_count_err A E (link ∷ others) after mid now server next fault (front, same, kept) = ap (λ (ls : List ℕ). length ls) kept

pub links_all : (turns : ℕ) (numbers left : List ℕ) (told now : Jobs) (server : ServerState) → LinksSoFar turns numbers left told now server → left ≡ [] → server.links ≡ numbers
links_all turns numbers left told now server so_far over = sym (append-nil server.links) ∙ (ap (λ (ls : List ℕ). server.links ++ ls) (sym over) ∙ so_far.parted)

pub links_ended : (turns : ℕ) (numbers left : List ℕ) (told now : Jobs) (server : ServerState) → LinksSoFar turns numbers left told now server → left ≡ [] → TellsMore told now (link_jobs turns numbers)
links_ended turns numbers left told now server so_far over =
    subst (λ (ls : List ℕ). TellsMore told now (link_jobs turns ls)) (links_all turns numbers left told now server so_far over) so_far.handed

moved_part : (parts links jobs : ℕ) → 1 ≤ parts → parts + (links + jobs) ≡ parts_each → (parts - 1) + (links + (jobs + 1)) ≡ parts_each
moved_part parts links jobs some whole = omega arith

pub whole_with_job : (server next : ServerState) → next ≡ with_jobs 1 server → 1 ≤ server.parts → IsWhole server → IsWhole next
whole_with_job server next is some whole =
    subst (λ (s : ServerState). IsWhole s) (sym is) (moved_part server.parts (length server.links) server.jobs some whole)

-- ---- what holds where all went well

pub on_ok : {A E : Type 0} (r : Result A E) (X : Type 0) → X → OnOk r X
on_ok (Ok done) X is = is
on_ok (Err f) X is = tt

pub enough_twice : {A E : Type 0} (r : Result A E) (parts left : ℕ) → left ≡ parts - 1 → OnOk r (2 ≤ left) → OnOk r (3 ≤ parts)
enough_twice (Ok done) parts left is enough = omega (arith, is, enough)
enough_twice (Err f) parts left is enough = tt

pub over_tested : (len count : ℕ) → len ≡ count → true ≡ (len == 0) → count ≡ 0
over_tested len count is test = sym is ∙ eqb-true len 0 (sym test)
