-- A server whose jobs are finished, one behind the other.
use Rattle.std.proofs.Common.{◌≡◌, ℕ, ◌+◌, ◌-◌, ◌≤◌, ◌<◌, ◌⊎◌, ◌||◌, inl, inr, suc, Bool, true, false, List, [], ◌∷◌, ◌++◌, length, map, refl, sym, ap, ◌∙◌, subst, append_assoc, append-nil, length-append, arith}
use Rattle.std.specs.Prelude.{Option, None, Some, Result, Ok, Err, is_ok, nat_lt, IsErrOf, OnOk}
use Rattle.std.specs.List.{insert, list_any}
use Rattle.std.proofs.lemmas.List.{length-map, map-append}
use Rattle.std.proofs.lemmas.List.Folds.{list_any-append}
use Rattle.history.specs.declared.entry.Totals.{Totals}
use Rattle.push_base.specs.Starter.{Jobs}
use Rattle.hublock.specs.Feeds.{FeedState, added, each, parts_each}
use Rattle.hubloops.specs.declared.loop_end.LoopEnd.{LoopEnd}
use Rattle.hubloops.specs.declared.loop_end.LoopEnd.TheVariants as loops
use Rattle.serving.specs.declared.setup.Fed.{Fed}
use Rattle.serving.specs.declared.serve_end.Cause.{Cause}
use Rattle.serving.specs.declared.serve_end.Cause.TheVariants as causes
use Rattle.serving.specs.declared.serve_end.Fault.{Fault}
use Rattle.serving.specs.declared.serve_end.Fault.TheVariants as faults
use Rattle.serving.specs.declared.serve_end.ServeEnd.{ServeEnd}
use Rattle.serving.specs.declared.serve_end.ServeEnd.TheVariants as ends
use Rattle.serving.specs.Ends.{CountsAs, CountsEnds, EndsAs, EndsFor, cause_of, end_for, fails_outside, is_link_fault, is_starved, lacks_memory, tells_fault, worst_cause}
use Rattle.serving.specs.Serving.{Finishes, StartsAll, StartsAllUnless, has_fault, is_full_run, numbers_of}

-- these datagrams were put back before the others, and as many loops ended; where one failed, so did some of these
pub record LinksBack {G : Type 0} (count : G → ℕ) (all rest : List ℕ) (before now : List (Fed G)) (place : ℕ) (starved : Bool) (told : List LoopEnd) : Type 0 where
  pub done : List (Fed G)
  pub now_is : now ≡ done ++ before
  pub place_is : length done ≡ place
  pub numbers : numbers_of done ++ rest ≡ all
  pub ended : starved ≡ false → length told ≡ length done
  pub failed : starved ≡ false → list_any is_link_fault told ≡ true → has_fault count done ≡ true

pub back_begun : {G : Type 0} (count : G → ℕ) (all : List ℕ) (before : List (Fed G)) (starved : Bool) (told : List LoopEnd) → told ≡ [] → LinksBack count all all before before 0 starved told
back_begun {G} count all before starved told none = record {
  done = [];
  now_is = refl;
  place_is = refl;
  numbers = refl;
  ended = λ noted. ap (λ (es : List LoopEnd). length es) none;
  failed = λ noted. subst (λ (es : List LoopEnd). list_any is_link_fault es ≡ true → has_fault {G = G} count [] ≡ true) (sym none) (λ is. absurd cc);
}

-- an element put behind the front of a list
insert_behind : {X : Type 0} (front rest : List X) (x : X) → insert (front ++ rest) (length front) x ≡ (front ++ x ∷ []) ++ rest
insert_behind [] rest x = refl
insert_behind {X} (f ∷ front) rest x = ap (λ (s : List X). f ∷ s) (insert_behind front rest x)

any_last : (t u : Bool) → (t ≡ true) ⊎ (u ≡ true) → (t || (u || false)) ≡ true
any_last true u any = refl
any_last false true any = refl
any_last false false (inl t) = absurd cc
any_last false false (inr u) = absurd cc

over_none : (n : ℕ) → 0 < n → nat_lt 0 n ≡ true
over_none n some = search (arith, some)

either : (t u : Bool) → (t || (u || false)) ≡ true → (t ≡ true) ⊎ (u ≡ true)
either true u is = inl refl
either false true is = inr refl
either false false is = absurd cc

counted : (end : LoopEnd) (n : ℕ) → is_link_fault end ≡ true → tells_fault end n ≡ true → nat_lt 0 n ≡ true
counted loops.LinkFault n is told = told
counted _ n is told = absurd cc

pub back_more : {G : Type 0} (count : G → ℕ) (all rest : List ℕ) (fed : Fed G) (end : LoopEnd) (before now next : List (Fed G)) (place : ℕ) (was later : Bool) (told more : List LoopEnd)
    → LinksBack count all (fed.link ∷ rest) before now place was told → next ≡ insert now place fed
    → (later ≡ false → (was ≡ false) × (more ≡ told ++ end ∷ [])) → tells_fault end (count fed.datagrams) ≡ true
    → LinksBack count all rest before next (place + 1) later more
back_more {G} count all rest fed end before now next place was later told more back is noted tells =
    let put : insert now place fed ≡ (back.done ++ fed ∷ []) ++ before =
    ap (λ (s : List (Fed G)). insert s place fed) back.now_is ∙ (ap (λ (n : ℕ). insert (back.done ++ before) n fed) (sym back.place_is) ∙ insert_behind back.done before fed) in
    let last : (has_fault count back.done ≡ true) ⊎ (nat_lt 0 (count fed.datagrams) ≡ true) → has_fault count (back.done ++ fed ∷ []) ≡ true =
    λ any. list_any-append (λ (f : Fed G). nat_lt 0 (count f.datagrams)) back.done (fed ∷ []) ∙ any_last (has_fault count back.done) (nat_lt 0 (count fed.datagrams)) any in
    record {
      done = back.done ++ fed ∷ [];
      now_is = is ∙ put;
      place_is = length-append back.done (fed ∷ []) ∙ ap (λ (n : ℕ). n + 1) back.place_is;
      numbers = ap (λ (s : List ℕ). s ++ rest) (map-append (λ (f : Fed G). f.link) back.done (fed ∷ [])) ∙ (append_assoc (numbers_of back.done) (fed.link ∷ []) rest ∙ back.numbers);
      ended = λ fresh.
          ap (λ (es : List LoopEnd). length es) (noted fresh).1 ∙ (length-append told (end ∷ [])
          ∙ (ap (λ (n : ℕ). n + 1) (back.ended (noted fresh).0) ∙ sym (length-append back.done (fed ∷ []))));
      failed = λ fresh any.
          let here : (list_any is_link_fault told || (is_link_fault end || false)) ≡ true =
          sym (list_any-append is_link_fault told (end ∷ [])) ∙ (sym (ap (λ (es : List LoopEnd). list_any is_link_fault es) (noted fresh).1) ∙ any) in
          elim (either (list_any is_link_fault told) (is_link_fault end) here) [
            | inl earlier ↦ last (inl (back.failed (noted fresh).0 earlier))
            | inr now_is ↦ last (inr (counted end (count fed.datagrams) now_is tells))
          ];
    }

any_front : (t u : Bool) → t ≡ true → (t || u) ≡ true
any_front true u is = refl
any_front false u is = absurd cc

pub back_ended : {G : Type 0} (count : G → ℕ) (all : List ℕ) (before now : List (Fed G)) (place : ℕ) (starved : Bool) (told : List LoopEnd)
    → LinksBack count all [] before now place starved told → numbers_of now ≡ all ++ numbers_of before
back_ended {G} count all before now place starved told back =
    ap (λ (s : List (Fed G)). numbers_of s) back.now_is ∙ (map-append (λ (f : Fed G). f.link) back.done before
    ∙ ap (λ (s : List ℕ). s ++ numbers_of before) (sym (append-nil (numbers_of back.done)) ∙ back.numbers))

pub back_count : {G : Type 0} (count : G → ℕ) (all : List ℕ) (before now : List (Fed G)) (place : ℕ) (starved : Bool) (told : List LoopEnd)
    → LinksBack count all [] before now place starved told → starved ≡ false → length told ≡ length all
back_count {G} count all before now place starved told back fresh =
    back.ended fresh ∙ (sym (length-map back.done (λ (f : Fed G). f.link)) ∙ ap (λ (ns : List ℕ). length ns) (sym (append-nil (numbers_of back.done)) ∙ back.numbers))

pub back_failed : {G : Type 0} (count : G → ℕ) (all rest : List ℕ) (before now : List (Fed G)) (place : ℕ) (starved : Bool) (told : List LoopEnd)
    → LinksBack count all rest before now place starved told → starved ≡ false → list_any is_link_fault told ≡ true → has_fault count now ≡ true
back_failed {G} count all rest before now place starved told back fresh any =
    ap (λ (s : List (Fed G)). has_fault count s) back.now_is
    ∙ (list_any-append (λ (f : Fed G). nat_lt 0 (count f.datagrams)) back.done before ∙ any_front (has_fault count back.done) (has_fault count before) (back.failed fresh any))

pub none_mapped : {X Y : Type 0} (f : X → Y) (xs : List X) → length xs ≡ 0 → map f xs ≡ []
none_mapped f [] none = refl
none_mapped f (x ∷ xs) none = absurd (omega (arith, none))

-- ---- jobs that aren't links'

none_behind : (t u : Bool) → u ≡ false → (t || u) ≡ t
none_behind true u is = refl
none_behind false true is = absurd cc
none_behind false false is = refl

none_last : (t u : Bool) → u ≡ false → (t || (u || false)) ≡ t
none_last true u is = refl
none_last false true is = absurd cc
none_last false false is = refl

-- one more of these failed no link
pub failed_as : (told more : List LoopEnd) (end : LoopEnd) → more ≡ told ++ end ∷ [] → is_link_fault end ≡ false → list_any is_link_fault more ≡ list_any is_link_fault told
failed_as told more end is quiet =
    ap (λ (es : List LoopEnd). list_any is_link_fault es) is ∙ (list_any-append is_link_fault told (end ∷ []) ∙ none_last (list_any is_link_fault told) (is_link_fault end) quiet)

pub count_as : (told more : List LoopEnd) (end : LoopEnd) → more ≡ told ++ end ∷ [] → length more ≡ length told + 1
count_as told more end is = ap (λ (es : List LoopEnd). length es) is ∙ length-append told (end ∷ [])

-- ---- the end

-- what was opened as it should, or the server was given up, shows in the end
pub by_end : {A : Type 0} (P : Bool → Type 0) → (P true → P false) → (opened : Result A Fault) (end : ServeEnd) → EndsAs opened end → P (is_ok opened) → P (is_full_run end)
by_end P less (Ok done) (ends.Served totals) how p = p
by_end P less (Ok done) ends.OutsideFault how p = less p
by_end P less (Ok done) ends.NoMemory how p = less p
by_end P less (Err faults.Outside) end (inl is) p = subst (λ (e : ServeEnd). P (is_full_run e)) (sym is) p
by_end P less (Err faults.Outside) end (inr is) p = subst (λ (e : ServeEnd). P (is_full_run e)) (sym is) p
by_end P less (Err faults.NoMemory) end is p = subst (λ (e : ServeEnd). P (is_full_run e)) (sym is) p

-- a server that isn't given up has started all
pub goes_on_by : {A : Type 0} (P : Bool → Type 0) (failed : Type 0) (opened : Result A Fault) (end : ServeEnd) → EndsAs opened end → (IsErrOf opened faults.Outside → failed) → P (is_ok opened) → StartsAllUnless end failed (P true)
goes_on_by P failed (Ok done) (ends.Served totals) how cause all = all
goes_on_by P failed (Ok done) ends.OutsideFault how cause all = inr all
goes_on_by P failed (Ok done) ends.NoMemory how cause all = tt
goes_on_by P failed (Err faults.Outside) end (inl is) cause all = subst (λ (e : ServeEnd). StartsAllUnless e failed (P true)) (sym is) (inl (cause refl))
goes_on_by P failed (Err faults.Outside) end (inr is) cause all = subst (λ (e : ServeEnd). StartsAllUnless e failed (P true)) (sym is) tt
goes_on_by P failed (Err faults.NoMemory) end is cause all = subst (λ (e : ServeEnd). StartsAllUnless e failed (P true)) (sym is) tt

outside_or_worse : (starved : Bool) (sums : Totals) → (end_for (worst_cause starved true) sums ≡ ends.OutsideFault) ⊎ (end_for (worst_cause starved true) sums ≡ ends.NoMemory)
outside_or_worse true sums = inr refl
outside_or_worse false sums = inl refl

worst_so : (starved failed : Bool) (sums : Totals) → end_for (worst_cause (starved || true) failed) sums ≡ ends.NoMemory
worst_so true failed sums = refl
worst_so false failed sums = refl

-- a server that is given up has a cause to end so
pub ends_as : {A : Type 0} (opened : Result A Fault) (starved : Bool) (told : List LoopEnd) (sums : Totals) → EndsAs opened (end_for (cause_of opened starved told) sums)
ends_as (Ok done) starved told sums = tt
ends_as (Err faults.Outside) starved told sums = outside_or_worse (starved || list_any is_starved told) sums
ends_as (Err faults.NoMemory) starved told sums = worst_so starved (list_any is_link_fault told) sums

-- the tests in their order: the list was lost, memory ran out while jobs were started, or for one; the outside failed then, or a link did
ends_by : (lost lacks starved fails failed : Bool) (told : List LoopEnd) (sums : Totals) (F : Type 0)
    → list_any is_starved told ≡ starved → list_any is_link_fault told ≡ failed → (fails ≡ true → F)
    → EndsFor (end_for (worst_cause (lost || (lacks || starved)) (fails || failed)) sums) told F
ends_by true lacks starved fails failed told sums F s l why = tt
ends_by false true starved fails failed told sums F s l why = tt
ends_by false false true fails failed told sums F s l why = tt
ends_by false false false true failed told sums F s l why = (s, inr (why refl))
ends_by false false false false true told sums F s l why = (s, inl l)
ends_by false false false false false told sums F s l why = (s, l)

failed_while_opened : {A : Type 0} (opened : Result A Fault) → fails_outside opened ≡ true → IsErrOf opened faults.Outside
failed_while_opened (Ok done) is = absurd cc
failed_while_opened (Err faults.Outside) is = refl
failed_while_opened (Err faults.NoMemory) is = absurd cc

pub ends_for : {A : Type 0} (opened : Result A Fault) (starved : Bool) (told : List LoopEnd) (sums : Totals) → EndsFor (end_for (cause_of opened starved told) sums) told (IsErrOf opened faults.Outside)
ends_for opened starved told sums =
    ends_by starved (lacks_memory opened) (list_any is_starved told) (fails_outside opened) (list_any is_link_fault told) told sums (IsErrOf opened faults.Outside)
    refl refl (λ is. failed_while_opened opened is)

-- what failed while the jobs were started, in other words
pub ends_map : (end : ServeEnd) (told : List LoopEnd) (F H : Type 0) → (F → H) → EndsFor end told F → EndsFor end told H
ends_map (ends.Served totals) told F H f is = is
ends_map ends.NoMemory told F H f is = is
ends_map ends.OutsideFault told F H f (s, inl link) = (s, inl link)
ends_map ends.OutsideFault told F H f (s, inr failed) = (s, inr (f failed))

-- a fault of the outside is that for which it was given up, or of datagrams
pub outside_of : {A : Type 0} (opened : Result A Fault) (starved : Bool) (told : List LoopEnd) (sums : Totals) (F : Type 0)
    → (starved ≡ false → list_any is_link_fault told ≡ true → F) → end_for (cause_of opened starved told) sums ≡ ends.OutsideFault → IsErrOf opened faults.Outside ⊎ F
outside_of opened true told sums F from is = absurd cc
outside_of opened false told sums F from is =
    let why : EndsFor ends.OutsideFault told (IsErrOf opened faults.Outside) = subst (λ (e : ServeEnd). EndsFor e told (IsErrOf opened faults.Outside)) is (ends_for opened false told sums) in
    elim why.1 [ inl link ↦ inr (from refl link) | inr failed ↦ inl failed ]

counts_any : (end : ServeEnd) (n m : ℕ) → n ≡ m → CountsEnds end n m
counts_any (ends.Served totals) n m is = is
counts_any ends.OutsideFault n m is = is
counts_any ends.NoMemory n m is = tt

pub counts_ends : {A : Type 0} (opened : Result A Fault) (starved : Bool) (told : List LoopEnd) (sums : Totals) (n m : ℕ) → (starved ≡ false → n ≡ m) → CountsEnds (end_for (cause_of opened starved told) sums) n m
counts_ends opened true told sums n m is = tt
counts_ends opened false told sums n m is = counts_any (end_for (cause_of opened false told) sums) n m (is refl)

-- where all jobs were started, as many loops ended
pub finishes : {A : Type 0} (opened : Result A Fault) (end : ServeEnd) (turns : ℕ) (links : List ℕ) (sessions : ℕ) (told now : Jobs) (n m : ℕ)
    → EndsAs opened end → CountsEnds end n m → OnOk opened (StartsAll turns links sessions told now m) → Finishes (is_full_run end) turns links sessions told now n
finishes (Ok done) (ends.Served totals) turns links sessions told now n m how is all = subst (λ (k : ℕ). StartsAll turns links sessions told now k) (sym is) all
finishes (Ok done) ends.OutsideFault turns links sessions told now n m how is all = tt
finishes (Ok done) ends.NoMemory turns links sessions told now n m how is all = tt
finishes (Err faults.Outside) end turns links sessions told now n m (inl same) is all = subst (λ (e : ServeEnd). Finishes (is_full_run e) turns links sessions told now n) (sym same) tt
finishes (Err faults.Outside) end turns links sessions told now n m (inr same) is all = subst (λ (e : ServeEnd). Finishes (is_full_run e) turns links sessions told now n) (sym same) tt
finishes (Err faults.NoMemory) end turns links sessions told now n m same is all = subst (λ (e : ServeEnd). Finishes (is_full_run e) turns links sessions told now n) (sym same) tt

-- ---- feeds

added_more : (a : Totals) (n : ℕ) → added (added a (each 1)) (each n) ≡ added a (each (suc n))
added_more a n =
    let one : (m : ℕ) → (m + 1) + n ≡ m + suc n = λ m. omega arith in
    λ i. record { changes = one a.changes i; heard = one a.heard i; moments = one a.moments i }

-- the part of a job that is over comes back
pub part_back : (a b whole : Totals) (m n : ℕ) → b ≡ added a (each 1) → m ≡ suc n → added a (each m) ≡ whole → added b (each n) ≡ whole
part_back a b whole m n is more all =
    ap (λ (t : Totals). added t (each n)) is ∙ (added_more a n ∙ (ap (λ (k : ℕ). added a (each k)) (sym more) ∙ all))

-- the feeds of all jobs, joined with the first, have every part
pub all_joined : (first second last : Totals) (n links jobs : ℕ) → first ≡ each n → second ≡ added first (each links) → last ≡ added second (each jobs) → n + (links + jobs) ≡ parts_each → last ≡ each parts_each
all_joined first second last n links jobs one two three all =
    let sum : (n + links) + jobs ≡ parts_each = omega (arith, all) in
    let here : second ≡ each (n + links) = two ∙ ap (λ (t : Totals). added t (each links)) one in
    three ∙ (ap (λ (t : Totals). added t (each jobs)) here ∙ ap (λ (k : ℕ). each k) sum)

-- what holds where all jobs were started
pub on_opened : {A : Type 0} (opened : Result A Fault) (W X : Type 0) → (W → X) → OnOk opened W → OnOk opened X
on_opened (Ok done) W X f is = f is
on_opened (Err e) W X f is = tt

counts_well : (cause : Option Cause) (all : Totals) (feed : FeedState) → feed.parts ≡ all → CountsAs all (end_for cause feed.sums) (Some feed)
counts_well None all feed whole = (whole, refl)
counts_well (Some causes.Outside) all feed whole = tt
counts_well (Some causes.NoMemory) all feed whole = tt

counts_up : {A : Type 0} (opened : Result A Fault) (cause : Option Cause) (all : Totals) (feed : FeedState)
    → EndsAs opened (end_for cause feed.sums) → OnOk opened (feed.parts ≡ all) → CountsAs all (end_for cause feed.sums) (Some feed)
counts_up (Ok done) cause all feed how whole = counts_well cause all feed whole
counts_up (Err faults.Outside) cause all feed (inl same) whole = subst (λ (e : ServeEnd). CountsAs all e (Some feed)) (sym same) tt
counts_up (Err faults.Outside) cause all feed (inr same) whole = subst (λ (e : ServeEnd). CountsAs all e (Some feed)) (sym same) tt
counts_up (Err faults.NoMemory) cause all feed same whole = subst (λ (e : ServeEnd). CountsAs all e (Some feed)) (sym same) tt

-- the counts are those of the feed, which is as it was before they were asked for
pub counts_as : {A : Type 0} (opened : Result A Fault) (starved : Bool) (told : List LoopEnd) (all : Totals) (feed now : FeedState) (end : ServeEnd)
    → now ≡ feed → end ≡ end_for (cause_of opened starved told) feed.sums → OnOk opened (feed.parts ≡ all) → CountsAs all end (Some now)
counts_as opened starved told all feed now end same is whole =
    let here : CountsAs all (end_for (cause_of opened starved told) feed.sums) (Some feed) = counts_up opened (cause_of opened starved told) all feed (ends_as opened starved told feed.sums) whole in
    subst (λ (f : FeedState). CountsAs all end (Some f)) (sym same) (subst (λ (e : ServeEnd). CountsAs all e (Some feed)) (sym is) here)

unworst : (starved : Bool) (X : Type 0) → worst_cause starved true ≡ None → X
unworst true X none = absurd cc
unworst false X none = absurd cc

-- a server that ends with counts has started all its jobs
pub well_opened : {A : Type 0} (opened : Result A Fault) (starved : Bool) (told : List LoopEnd) (X : Type 0) → OnOk opened X → cause_of opened starved told ≡ None → X
well_opened (Ok done) starved told X is none = is
well_opened (Err faults.Outside) true told X is none = absurd cc
well_opened (Err faults.Outside) false told X is none = unworst (list_any is_starved told) X none
well_opened (Err faults.NoMemory) true told X is none = absurd cc
well_opened (Err faults.NoMemory) false told X is none = absurd cc

-- a server in which every job has a part, by its lists
pub whole_of : {X Y : Type 0} (f : X → Y) (xs : List X) (n jobs len : ℕ) → len ≡ length xs → n + (length (map f xs) + jobs) ≡ parts_each → n + (len + jobs) ≡ parts_each
whole_of f xs n jobs len is whole =
    let same : length (map f xs) ≡ len = length-map xs f ∙ sym is in
    ap (λ (k : ℕ). n + (k + jobs)) (sym same) ∙ whole

-- the same where so many jobs are over, whose parts are back
pub whole_over : (n over links jobs all : ℕ) → over ≤ n → (n - over) + (links + (jobs + over)) ≡ all → n + (links + jobs) ≡ all
whole_over n over links jobs all within is = omega (arith, within, is)

one_of_three : {A D : Type 0} (F : Type 0) → A ⊎ D → A ⊎ (D ⊎ F)
one_of_three F (inl starter) = inl starter
one_of_three F (inr doors) = inr (inl doors)

-- one of the three has counted a fault
pub counts_from : {E A D F : Type 0} → (E → A ⊎ D) → E ⊎ F → A ⊎ (D ⊎ F)
counts_from {E} {A} {D} {F} opened (inl fault) = one_of_three F (opened fault)
counts_from opened (inr links) = inr (inr links)

-- ---- jobs that are over before the others

-- loops that failed no link, noted behind others
pub failed_behind : (told more over : List LoopEnd) → more ≡ told ++ over → list_any is_link_fault over ≡ false → list_any is_link_fault more ≡ list_any is_link_fault told
failed_behind told more over is quiet =
    ap (λ (es : List LoopEnd). list_any is_link_fault es) is ∙ (list_any-append is_link_fault told over ∙ none_behind (list_any is_link_fault told) (list_any is_link_fault over) quiet)

-- one more of them is noted
pub noted_on : (told more rest left all : List LoopEnd) (end : LoopEnd) → more ≡ told ++ end ∷ [] → rest ≡ end ∷ left → told ++ rest ≡ all → more ++ left ≡ all
noted_on told more rest left all end is step before =
    ap (λ (es : List LoopEnd). es ++ left) is ∙ (append_assoc told (end ∷ []) left ∙ (ap (λ (es : List LoopEnd). told ++ es) (sym step) ∙ before))

pub count_behind : (told more over : List LoopEnd) → more ≡ told ++ over → length more ≡ length told + length over
count_behind told more over is = ap (λ (es : List LoopEnd). length es) is ∙ length-append told over
