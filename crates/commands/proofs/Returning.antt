-- What was opened is taken back.
--     adds_none, adds_one      no more is told; one more is
--     some_none, some_one      no object was taken back; one more was
--     source_back, source_failed, source_starved, source_later, source_one      the source at a path
--     back_more, back_all, links_given, opened_many, links_all, links_failed      the datagrams of links
--     gives_nothing, gives_failed, gives_all, less_back, back-by-later      all that a server opens
use Rattle.std.proofs.Common.{◌≡◌, ◌⊎◌, inl, inr, ℕ, ◌+◌, ◌-◌, Bool, true, false, Option, Some, None, Result, Ok, Err, List, [], ◌∷◌, ◌++◌, length, map, string_bytes, refl, sym, ◌∙◌, ap, subst, arith, append_assoc, append-nil, length-append, suc}
use Rattle.std.specs.Prelude.{OnOk}
use Rattle.push_base.specs.Causes.{Rose}
use Rattle.push_outside.specs.Outside.{Telling, Used, Adds, AddsTold, AddsUse, AddsSome, use_told}
use Rattle.push_outside.specs.Opening.{CountsFailure, TellsWords}
use Rattle.push_outside.specs.declared.outside.OpenFault.{OpenFault}
use Rattle.push_outside.specs.declared.outside.OpenFault.TheVariants.{Failed, NoMemory}
use Rattle.scripts.specs.Lines.{Word}
use Rattle.configurations.specs.Configurations.{Serving}
use Rattle.configurations.specs.declared.server_config.FedLink.{FedLink}
use Rattle.serving.specs.Serving.{Returns, numbers_of}
use Rattle.serving.specs.declared.setup.Fed.{Fed}
use Rattle.std.proofs.lemmas.List.{length-map}
use Rattle.commands.specs.Runs.{GivesSourceBack}
use Rattle.commands.specs.Serving.{AddsAll, GivesBack, GivesDoorsBack, GivesLinks, GivesLinksBack, addresses}

-- ---- words that are told

pub adds_none : {A : Type 0} (before : Option (List A)) → AddsAll before before []
adds_none None = refl
adds_none {A} (Some known) = ap (λ (xs : List A). Some xs) (sym (append-nil known))

pub adds_one : {A : Type 0} (before mid now : Option (List A)) (more : List A) (x : A) → AddsAll before mid more → Adds mid now x → AddsAll before now (more ++ x ∷ [])
adds_one None mid now more x so_far one = adds-none mid now x so_far one
  where
    adds-none : {A : Type 0} (mid now : Option (List A)) (x : A) → mid ≡ None → Adds mid now x → now ≡ None
    adds-none None now x is one = one
    adds-none (Some known) now x is one = absurd cc
adds_one {A} (Some known) None now more x so_far one = absurd cc
adds_one {A} (Some known) (Some mid) None more x so_far one = absurd one
adds_one {A} (Some known) (Some mid) (Some now) more x so_far one =
    let is : mid ≡ known ++ more = cc so_far in
    ap (λ (xs : List A). Some xs) (one ∙ ap (λ (xs : List A). xs ++ x ∷ []) is ∙ append_assoc known more (x ∷ []))

-- ---- objects that were taken back

pub some_none : {A : Type 0} (before : Option (List A)) → AddsSome before before 0
some_none None = refl
some_none (Some known) = ([], sym (append-nil known), refl)

pub some_one : {A : Type 0} (before mid now : Option (List A)) (count : ℕ) (told : Option A) → AddsSome before mid count → AddsTold mid now told → AddsSome before now (count + 1)
some_one None mid now count told so_far one = none-now mid now told so_far one
  where
    none-now : {A : Type 0} (mid now : Option (List A)) (told : Option A) → mid ≡ None → AddsTold mid now told → now ≡ None
    none-now None now told is one = one
    none-now (Some known) now told is one = absurd cc
some_one (Some known) None None count told so_far one = tt
some_one (Some known) None (Some now) count told so_far one = absurd cc
some_one (Some known) (Some mid) None count told so_far one = tt
some_one (Some known) (Some mid) (Some now) count None so_far one = absurd one
some_one {A} (Some known) (Some mid) (Some now) count (Some x) (more, is, many) one = (
  more ++ x ∷ [],
  one ∙ ap (λ (xs : List A). xs ++ x ∷ []) is ∙ append_assoc known more (x ∷ []),
  length-append more (x ∷ []) ∙ ap (λ (n : ℕ). n + 1) many,
)

-- ---- the source at a path

pub on_ok : {A E : Type 0} (r : Result A E) (X : Type 0) → X → OnOk r X
on_ok (Ok done) X is = is
on_ok (Err f) X is = tt

pub source_one : (used mid now : Option (List Used)) (gave left : Option (List ℕ)) → mid ≡ used → AddsUse mid now gave left → AddsSome used now 1
source_one used mid now gave left same one = some_one used used now 0 (use_told gave left) (some_none used) (subst (λ (u : Option (List Used)). AddsTold u now (use_told gave left)) same one)

pub source_back : (path : List ℕ) (opened opened_now : Option (List (List ℕ))) (used mid now : Option (List Used)) (gave left : Option (List ℕ)) (reads reads_now : ℕ)
    → Adds opened opened_now path → mid ≡ used → AddsUse mid now gave left → GivesSourceBack path opened opened_now used now reads reads_now
source_back path opened opened_now used mid now gave left reads reads_now adds same one =
    inr (inr (adds, source_one used mid now gave left same one))

pub source_failed : (path : List ℕ) (opened opened_now : Option (List (List ℕ))) (used now : Option (List Used)) (reads reads_now : ℕ)
    → Adds opened opened_now path → now ≡ used → Rose reads reads_now → GivesSourceBack path opened opened_now used now reads reads_now
source_failed path opened opened_now used now reads reads_now adds same rose = inr (inl (adds, same, rose))

pub source_starved : (path : List ℕ) (opened opened_now : Option (List (List ℕ))) (used now : Option (List Used)) (reads reads_now : ℕ)
    → opened_now ≡ opened → now ≡ used → GivesSourceBack path opened opened_now used now reads reads_now
source_starved path opened opened_now used now reads reads_now same still = inl (same, still)

-- nothing more was opened or taken back then
pub source_later : (path : List ℕ) (opened mid opened_now : Option (List (List ℕ))) (used back now : Option (List Used)) (reads reads_now : ℕ)
    → opened_now ≡ mid → now ≡ back → Adds opened mid path → AddsSome used back 1 → GivesSourceBack path opened opened_now used now reads reads_now
source_later path opened mid opened_now used back now reads reads_now same still adds one =
    inr (inr (subst (λ (o : Option (List (List ℕ))). Adds opened o path) (sym same) adds, subst (λ (u : Option (List Used)). AddsSome used u 1) (sym still) one))

-- ---- the datagrams of links

abbrev pub Links : Type 0
Links = Option (List (List (List ℕ)))

-- so many were taken back, and so many are left
abbrev pub BackSoFar : Links → Links → ℕ → ℕ → Type 0
BackSoFar before now left all = (count : ℕ) × AddsSome before now count × (count + left ≡ all)

pub back_begun : (before : Links) (left all : ℕ) → left ≡ all → BackSoFar before before left all
back_begun before left all is = (0, some_none before, omega (arith, is))

pub back_more : (before mid now : Links) (left less all : ℕ) (told : Option (List (List ℕ))) → BackSoFar before mid left all → AddsTold mid now told → left ≡ suc less → BackSoFar before now less all
back_more before mid now left less all told (count, so_far, are) one is = (count + 1, some_one before mid now count told so_far one, omega (arith, are, is))

pub back_all : (before now : Links) (left all : ℕ) → BackSoFar before now left all → left ≡ 0 → AddsSome before now all
back_all before now left all (count, so_far, are) none =
    let same : count ≡ all = omega (arith, are, none) in
    subst (λ (n : ℕ). AddsSome before now n) same so_far

-- all that were given back by a server, or all but one
pub links_given : {G : Type 0} (full : Bool) (all some : List (Fed G)) (before now : Links) → Returns full (numbers_of all) (numbers_of some) → AddsSome before now (length some) → GivesLinks full (length all) before now
links_given {G} true all some before now is back =
    let same : length some ≡ length all = sym (length-map some (λ (f : Fed G). f.link)) ∙ ap (λ (ns : List ℕ). length ns) is ∙ length-map all (λ (f : Fed G). f.link) in
    subst (λ (n : ℕ). AddsSome before now n) same back
links_given {G} false all some before now (inl is) back =
    let same : length some ≡ length all = sym (length-map some (λ (f : Fed G). f.link)) ∙ ap (λ (ns : List ℕ). length ns) is ∙ length-map all (λ (f : Fed G). f.link) in
    (length some, omega (arith, same), back)
links_given {G} false all some before now (inr (front, one, rest, all_is, some_is)) back =
    let many : length all ≡ length (front ++ one ∷ rest) = sym (length-map all (λ (f : Fed G). f.link)) ∙ ap (λ (ns : List ℕ). length ns) all_is in
    let less : length some ≡ length (front ++ rest) = sym (length-map some (λ (f : Fed G). f.link)) ∙ ap (λ (ns : List ℕ). length ns) some_is in
    let parts : length (front ++ one ∷ rest) ≡ length front + suc (length rest) = length-append front (one ∷ rest) in
    let others : length (front ++ rest) ≡ length front + length rest = length-append front rest in
    (length some, omega (arith, many, less, parts, others), back)

-- as many as there are in the configuration
pub opened_many : {G : Type 0} (opened : List (Fed G)) (feeds : List FedLink) → numbers_of opened ≡ map (λ (f : FedLink). f.link) feeds → length opened ≡ length (map (λ (f : FedLink). string_bytes f.address) feeds)
opened_many {G} opened feeds is =
    sym (length-map opened (λ (f : Fed G). f.link)) ∙ (ap (λ (ns : List ℕ). length ns) is ∙ (length-map feeds (λ (f : FedLink). f.link) ∙ sym (length-map feeds (λ (f : FedLink). string_bytes f.address))))

-- the sockets were opened, and what became of them then
pub links_all : (full : Bool) (all : List Word) (opened : ℕ) (t0 t1 t2 t3 : Telling) → AddsAll t0.heard t1.heard all → t1.links ≡ t0.links → t2 ≡ t1 → t3 ≡ record t2 { links = t3.links; started = t3.started }
    → opened ≡ length all → GivesLinks full opened t2.links t3.links → GivesLinksBack full all t0 t3
links_all true all opened t0 t1 t2 t3 adds kept same behind is back = (
  subst (λ (h : Option (List Word)). AddsAll t0.heard h all) (sym (ap (λ (t : Telling). t.heard) behind ∙ ap (λ (t : Telling). t.heard) same)) adds,
  subst (λ (l : Links). AddsSome l t3.links (length all)) (ap (λ (t : Telling). t.links) same ∙ kept) (subst (λ (n : ℕ). AddsSome t2.links t3.links n) is back),
)
links_all false all opened t0 t1 t2 t3 adds kept same behind is back = (
  all,
  [],
  sym (append-nil all),
  subst (λ (h : Option (List Word)). AddsAll t0.heard h all) (sym (ap (λ (t : Telling). t.heard) behind ∙ ap (λ (t : Telling). t.heard) same)) adds,
  subst (λ (l : Links). GivesLinks false (length all) l t3.links) (ap (λ (t : Telling). t.links) same ∙ kept) (subst (λ (n : ℕ). GivesLinks false n t2.links t3.links) is back),
)

-- where one couldn't be opened, those before it were given back
pub links_failed : (all front rest : List Word) (x : Word) (count : ℕ) (t0 t1 t2 t3 : Telling) → all ≡ front ++ x ∷ rest → length front ≡ count → AddsAll t0.heard t1.heard front
    → (t2.heard ≡ t1.heard) ⊎ Adds t1.heard t2.heard x → t3 ≡ record t2 { links = t3.links } → t2.links ≡ t0.links → AddsSome t2.links t3.links count → GivesLinksBack false all t0 t3
links_failed all front rest x count t0 t1 t2 t3 is many adds (inl same) behind kept back = (
  front,
  x ∷ rest,
  is,
  subst (λ (h : Option (List Word)). AddsAll t0.heard h front) (sym (ap (λ (t : Telling). t.heard) behind ∙ same)) adds,
  (count, omega (arith, many), subst (λ (l : Links). AddsSome l t3.links count) kept back),
)
links_failed all front rest x count t0 t1 t2 t3 is many adds (inr one) behind kept back = (
  front ++ x ∷ [],
  rest,
  is ∙ sym (append_assoc front (x ∷ []) rest),
  subst (λ (h : Option (List Word)). AddsAll t0.heard h (front ++ x ∷ [])) (sym (ap (λ (t : Telling). t.heard) behind)) (adds_one t0.heard t1.heard t2.heard front x adds one),
  (count, omega (arith, many, length-append front (x ∷ [])), subst (λ (l : Links). AddsSome l t3.links count) kept back),
)

-- ---- all that a server opens

links_none : (all : List Word) (before now : Telling) → now.heard ≡ before.heard → now.links ≡ before.links → GivesLinksBack false all before now
links_none all before now same still = (
  [],
  all,
  refl,
  subst (λ (h : Option (List Word)). AddsAll before.heard h []) (sym same) (adds_none before.heard),
  (0, omega arith, subst (λ (l : Links). AddsSome before.links l 0) (sym still) (some_none before.links)),
)

pub gives_nothing : (before now : Telling) (others others_now : ℕ) (configuration : Serving) → now ≡ before → GivesBack false before now others others_now configuration
gives_nothing before now others others_now configuration same = record {
  doors = inl (ap (λ (t : Telling). t.listened) same);
  links = links_none (addresses configuration) before now (ap (λ (t : Telling). t.heard) same) (ap (λ (t : Telling). t.links) same);
}

-- the doors couldn't be opened
pub gives_failed : (A : Type 0) (before now : Telling) (others others_now : ℕ) (configuration : Serving) (fault : OpenFault)
    → now ≡ record before { listened = now.listened } → CountsFailure {A = A} others others_now (Err fault) → TellsWords {A = A} before.listened now.listened (Err fault) configuration.listen
    → GivesBack false before now others others_now configuration
gives_failed A before now others others_now configuration fault same counts told = record {
  doors = doors-failed fault counts told;
  links = links_none (addresses configuration) before now (ap (λ (t : Telling). t.heard) same) (ap (λ (t : Telling). t.links) same);
}
  where
    doors-failed : (fault : OpenFault) → CountsFailure {A = A} others others_now (Err fault) → TellsWords {A = A} before.listened now.listened (Err fault) configuration.listen → GivesDoorsBack before now others others_now
    doors-failed Failed counts told = inr (inl (ap (λ (t : Telling). t.heard) same, ap (λ (t : Telling). t.started) same, counts.1))
    doors-failed NoMemory counts told = inl told

-- what the outside tells of these two alone counts
pub links-moved : (full : Bool) (all : List Word) (t0 t1 s0 s1 : Telling) → t0.heard ≡ s0.heard → t0.links ≡ s0.links → s1.heard ≡ t1.heard → s1.links ≡ t1.links → GivesLinksBack full all t0 t1 → GivesLinksBack full all s0 s1
links-moved true all t0 t1 s0 s1 h l h' l' (adds, back) = (
  subst (λ (a : Option (List Word)). AddsAll a s1.heard all) h (subst (λ (b : Option (List Word)). AddsAll t0.heard b all) (sym h') adds),
  subst (λ (a : Links). AddsSome a s1.links (length all)) l (subst (λ (b : Links). AddsSome t0.links b (length all)) (sym l') back),
)
links-moved false all t0 t1 s0 s1 h l h' l' (front, rest, is, adds, back) = (
  front,
  rest,
  is,
  subst (λ (a : Option (List Word)). AddsAll a s1.heard front) h (subst (λ (b : Option (List Word)). AddsAll t0.heard b front) (sym h') adds),
  subst (λ (a : Links). GivesLinks false (length front) a s1.links) l (subst (λ (b : Links). GivesLinks false (length front) t0.links b) (sym l') back),
)

-- the doors were opened, used and taken back
pub gives_all : (full : Bool) (t0 t1 t2 t3 : Telling) (others others_now : ℕ) (accepted : Option ℕ) (heard : List Word) (configuration : Serving)
    → t1 ≡ record t0 { listened = t1.listened } → t2 ≡ record t1 { heard = t2.heard; links = t2.links; started = t2.started } → t3 ≡ record t2 { accepted = t3.accepted }
    → addresses configuration ≡ heard → GivesLinksBack full heard t1 t2 → AddsTold t2.accepted t3.accepted accepted → GivesBack full t0 t3 others others_now configuration
gives_all full t0 t1 t2 t3 others others_now accepted heard configuration e1 e2 e3 is back adds =
    let first : t2.accepted ≡ t0.accepted = ap (λ (t : Telling). t.accepted) e2 ∙ ap (λ (t : Telling). t.accepted) e1 in
    record {
      doors = inr (inr (some_one t0.accepted t0.accepted t3.accepted 0 accepted (some_none t0.accepted) (subst (λ (a : Option (List ℕ)). AddsTold a t3.accepted accepted) first adds)));
      links = subst (λ (all : List Word). GivesLinksBack full all t0 t3) (sym is)
          (links-moved full heard t1 t2 t0 t3 (ap (λ (t : Telling). t.heard) e1) (ap (λ (t : Telling). t.links) e1) (ap (λ (t : Telling). t.heard) e3) (ap (λ (t : Telling). t.links) e3) back);
    }

-- what came back in full came back in part
pub less_back : (full : Bool) (before now : Telling) (others others_now : ℕ) (configuration : Serving) → GivesBack full before now others others_now configuration → GivesBack false before now others others_now configuration
less_back false before now others others_now configuration all = all
less_back true before now others others_now configuration all = record {
  doors = all.doors;
  links = (addresses configuration, [], sym (append-nil (addresses configuration)), all.links.0, (length (addresses configuration), omega arith, all.links.1));
}

-- where the configuration was read before
pub back-by-later : (full : Bool) (t0 t1 t : Telling) (o0 o1 o : ℕ) (configuration : Serving) → t1 ≡ record t0 { opened = t1.opened; used = t1.used } → o1 ≡ o0 → GivesBack full t1 t o1 o configuration → GivesBack full t0 t o0 o configuration
back-by-later full t0 t1 t o0 o1 o configuration e same back = record {
  doors = doors-later back.doors;
  links = links-moved full (addresses configuration) t1 t t0 t (ap (λ (x : Telling). x.heard) e) (ap (λ (x : Telling). x.links) e) refl refl back.links;
}
  where
    doors-later : GivesDoorsBack t1 t o1 o → GivesDoorsBack t0 t o0 o
    doors-later (inl still) = inl (still ∙ ap (λ (x : Telling). x.listened) e)
    doors-later (inr (inl (heard, started, rose))) = inr (inl (heard ∙ ap (λ (x : Telling). x.heard) e, started ∙ ap (λ (x : Telling). x.started) e, subst (λ (n : ℕ). Rose n o) same rose))
    doors-later (inr (inr back)) = inr (inr (subst (λ (a : Option (List ℕ)). AddsSome a t.accepted 1) (ap (λ (x : Telling). x.accepted) e) back))
