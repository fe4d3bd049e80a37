-- Rows that were reconfirmed and weren't heard since, as links change and as what is asked does.
--     Pass, to-pass, from-pass      each of them was heard at its moment
--     doubts-only, doubts-at, doubts-wanted      the rows behind what changes what is asked
--     still-beside, beside-changed, beside-here, beside-past, beside-to      all but those of one link
--     match-still      so links match
--     pass-reconfirmed      where a row is reconfirmed
--     pass-unnamed, pass-hearing      where a hearing says nothing of their names
use Rattle.std.proofs.Common.{◌≡◌, ℕ, zero, suc, ◌+◌, ◌≤◌, Bool, true, false, cond, not, ◌&&◌, ◌||◌, List, [], ◌∷◌, ◌++◌, length, map, filter, Option, Some, None, refl, sym, ap, subst, ◌∙◌, arith}
use Rattle.std.specs.Prelude.{bytes_eq, fold, nat_lt, slice_get, ◌==◌}
use Rattle.std.specs.List.{AllZip, AllByRecursion, list_any}
use Rattle.std.specs.Ordering.{eq_by_cmp}
use Rattle.std.specs.FinMap.{put}
use Rattle.std.specs.FinMap.Entries.{find-put}
use Rattle.std.proofs.lemmas.Slice.Eq.{bytes_eq-Decides}
use Rattle.push_base.specs.Cases.{changed_at}
use Rattle.rrset.specs.KeyedRows.{row_at}
use Rattle.dnsname.specs.Names.{Labels, lower, octets, same_name}
use Rattle.rrset.proofs.KeyOrder.{key_cmp_total, key_cmp-IsAntisymmetric}
use Rattle.rrset.proofs.LowerNames.{lower-twice}
use Rattle.rrset.proofs.Sets.{is_eq-Equal}
use Rattle.rrset.specs.Records.{key_cmp, key_of, same_key}
use Rattle.rrset.specs.declared.record.HeardRr.{HeardRr}
use Rattle.rrset.specs.declared.record.Key.{Key}
use Rattle.rrset.specs.declared.record.Question.{Question}
use Rattle.linkcache.specs.Links.{LinkState}
use Rattle.linkcache.specs.Rows.{LinkRows, ending_by, flushed_by, has_key, heard, heard_at, is_of_set, put_heard, reconfirmation, reconfirmed, row_has_room, second, ttl_of, usable_of}
use Rattle.linkcache.specs.declared.rules.LinkRules.{LinkRules}
use Rattle.linkcache.specs.declared.row.HeardRow.{HeardRow}
use Rattle.linkask.specs.Reasons.{LinkAsking, Reconfirmed, still_reconfirmed, was_heard_at}
use Rattle.linkreasons.specs.AllReasons.{AllReasons, ReasonsOfLink, asking_of, only_from, still_doubted, with_wanted}
use Rattle.linkreasons.specs.Changing.{names_any, names_at, names_owner}
use Rattle.hubasking.specs.Following.{AreStill, StillBeside, StillTo, doubts_in}
use Rattle.hubasking.specs.KeptReasons.{HasBounds, MatchesLink}
use Rattle.hubasking.proofs.Leading.{Sessions, still-twice}

-- ---- a test that all pass

filter-few : {X : Type 0} (test : X → Bool) (xs : List X) → length (filter test xs) ≤ length xs
filter-few test [] = omega arith
filter-few {X} test (x ∷ xs) = by (test x) (filter-few test xs)
  where
    by : (b : Bool) → length (filter test xs) ≤ length xs → length (cond b (x ∷ filter test xs) (filter test xs)) ≤ suc (length xs)
    by true few = omega (arith, few)
    by false few = omega (arith, few)

abbrev pub AllPass : {X : Type 0} → (X → Bool) → List X → Type 0
AllPass test xs = AllByRecursion (λ x. test x ≡ true) xs

all-pass : {X : Type 0} (test : X → Bool) (xs : List X) → filter test xs ≡ xs → AllPass test xs
all-pass test [] same = tt
all-pass {X} test (x ∷ xs) same = by (test x) refl (all-pass test xs) same
  where
    by : (b : Bool) → test x ≡ b → (filter test xs ≡ xs → AllPass test xs) → cond b (x ∷ filter test xs) (filter test xs) ≡ x ∷ xs → (test x ≡ true) × AllPass test xs
    by true is rest e = (is, rest (let tail : filter test xs ≡ xs = cc in tail))
    by false is rest e =
        let long : length (filter test xs) ≡ suc (length xs) = ap (λ (l : List X). length l) e in
        absurd (omega (arith, long, filter-few test xs))

passed-all : {X : Type 0} (test : X → Bool) (xs : List X) → AllPass test xs → filter test xs ≡ xs
passed-all test [] all = refl
passed-all {X} test (x ∷ xs) all = ap (λ (b : Bool). cond b (x ∷ filter test xs) (filter test xs)) all.0 ∙ ap (λ (l : List X). x ∷ l) (passed-all test xs all.1)

-- rows of a link that were heard when they were reconfirmed
abbrev pub RowsPass : LinkRows → Reconfirmed → Type 0
RowsPass rows doubts = AllPass (λ (r : Key × ℕ). was_heard_at r.1 (row_at r.0 rows)) doubts

abbrev pub Pass : List LinkState → List Reconfirmed → Type 0
Pass links doubts = AllZip (λ (l : LinkState) (d : Reconfirmed). RowsPass l.rows d) links doubts

pub to-pass : (ls : List LinkState) (ds : List Reconfirmed) → AreStill ls ds → Pass ls ds
to-pass [] [] still = tt
to-pass [] (d ∷ ds) still = absurd still
to-pass (l ∷ ls) [] still = absurd still
to-pass (l ∷ ls) (d ∷ ds) still = (all-pass (λ (r : Key × ℕ). was_heard_at r.1 (row_at r.0 l.rows)) d still.0, to-pass ls ds still.1)

pub from-pass : (ls : List LinkState) (ds : List Reconfirmed) → Pass ls ds → AreStill ls ds
from-pass [] [] pass = tt
from-pass [] (d ∷ ds) pass = absurd pass
from-pass (l ∷ ls) [] pass = absurd pass
from-pass (l ∷ ls) (d ∷ ds) pass = (passed-all (λ (r : Key × ℕ). was_heard_at r.1 (row_at r.0 l.rows)) d pass.0, from-pass ls ds pass.1)

-- ---- what changes what is asked

pub doubts-only : (link : ℕ) (more : Sessions) (asks : List LinkAsking) → doubts_in (only_from link more asks) ≡ doubts_in asks
doubts-only link more [] = refl
doubts-only link more (a ∷ asks) = ap (λ (ds : List Reconfirmed). a.reconfirmed ∷ ds) (doubts-only (link + 1) more asks)

pub doubts-at : (place : ℕ) (f : LinkAsking → LinkAsking) (g : Reconfirmed → Reconfirmed) → ((a : LinkAsking) → (f a).reconfirmed ≡ g a.reconfirmed) → (asks : List LinkAsking) → doubts_in (changed_at place f asks) ≡ changed_at place g (doubts_in asks)
doubts-at place f g same [] = refl
doubts-at zero f g same (a ∷ asks) = ap (λ (d : Reconfirmed). d ∷ doubts_in asks) (same a)
doubts-at (suc place) f g same (a ∷ asks) = ap (λ (ds : List Reconfirmed). a.reconfirmed ∷ ds) (doubts-at place f g same asks)

changed-not : (place : ℕ) (ds : List Reconfirmed) → changed_at place (λ (d : Reconfirmed). d) ds ≡ ds
changed-not place [] = refl
changed-not zero (d ∷ ds) = refl
changed-not (suc place) (d ∷ ds) = ap (λ (l : List Reconfirmed). d ∷ l) (changed-not place ds)

pub doubts-wanted : (place : ℕ) (question : Question) (asks : List LinkAsking) → doubts_in (with_wanted place question asks) ≡ doubts_in asks
doubts-wanted place question asks = doubts-at place _ (λ (d : Reconfirmed). d) (λ a. refl) asks ∙ changed-not place (doubts_in asks)

-- ---- all but those of one link

pub still-beside : (place : ℕ) (ls : List LinkState) (ds : List Reconfirmed) → AreStill ls ds → StillBeside place ls ds
still-beside zero [] ds still = tt
still-beside (suc place) [] ds still = tt
still-beside zero (l ∷ ls) [] still = tt
still-beside (suc place) (l ∷ ls) [] still = tt
still-beside zero (l ∷ ls) (d ∷ ds) still = still.1
still-beside (suc place) (l ∷ ls) (d ∷ ds) still = (still.0, still-beside place ls ds still.1)

pub beside-changed : (place : ℕ) (f : LinkState → LinkState) (ls : List LinkState) (ds : List Reconfirmed) → AreStill ls ds → StillBeside place (changed_at place f ls) ds
beside-changed zero f [] ds still = tt
beside-changed (suc place) f [] ds still = tt
beside-changed zero f (l ∷ ls) [] still = tt
beside-changed (suc place) f (l ∷ ls) [] still = tt
beside-changed zero f (l ∷ ls) (d ∷ ds) still = still.1
beside-changed (suc place) f (l ∷ ls) (d ∷ ds) still = (still.0, beside-changed place f ls ds still.1)

pub beside-here : (place : ℕ) (l : LinkState) (ls : List LinkState) (ds : List Reconfirmed) → slice_get ls place ≡ Some l → length ls ≡ length ds → StillBeside place ls ds → AreStill ls (changed_at place (still_reconfirmed l.rows) ds)
beside-here place l [] ds at same f = absurd cc
beside-here place l (k ∷ ls) [] at same f = absurd cc
beside-here zero l (k ∷ ls) (d ∷ ds) at same f =
    let one : k ≡ l = cc in (subst (λ (m : LinkState). still_reconfirmed k.rows (still_reconfirmed m.rows d) ≡ still_reconfirmed m.rows d) one (still-twice k.rows d), f)
beside-here (suc place) l (k ∷ ls) (d ∷ ds) at same f = (f.0, beside-here place l ls ds at (omega (arith, same)) f.1)

pub beside-past : (place : ℕ) (ls : List LinkState) (ds : List Reconfirmed) → slice_get ls place ≡ None → length ls ≡ length ds → StillBeside place ls ds → AreStill ls ds
beside-past place [] [] at same f = tt
beside-past place [] (d ∷ ds) at same f = absurd cc
beside-past place (k ∷ ls) [] at same f = absurd cc
beside-past zero (k ∷ ls) (d ∷ ds) at same f = absurd cc
beside-past (suc place) (k ∷ ls) (d ∷ ds) at same f = (f.0, beside-past place ls ds at (omega (arith, same)) f.1)

-- so those of the links before it weren't heard since
pub beside-to : (place : ℕ) (ls : List LinkState) (asks : List LinkAsking) → StillBeside place ls (doubts_in asks) → StillTo place ls asks
beside-to zero ls asks f = tt
beside-to (suc place) [] asks f = tt
beside-to (suc place) (l ∷ ls) [] f = tt
beside-to (suc place) (l ∷ ls) (a ∷ asks) f = (f.0, beside-to place ls asks f.1)

-- ---- links match

pub match-still : (ls : List LinkState) (rs : List ReasonsOfLink) → AllZip HasBounds ls rs → AreStill ls (doubts_in (map asking_of rs)) → AllZip MatchesLink ls rs
match-still [] [] bounds still = tt
match-still [] (r ∷ rs) bounds still = absurd bounds
match-still (l ∷ ls) [] bounds still = absurd bounds
match-still (l ∷ ls) (r ∷ rs) bounds still = (record { still = still.0; bounds = bounds.0 }, match-still ls rs bounds.1 still.1)

pub kept-still : (ls : List LinkState) (rs : List ReasonsOfLink) → AllZip MatchesLink ls rs → AreStill ls (doubts_in (map asking_of rs))
kept-still [] [] all = tt
kept-still [] (r ∷ rs) all = absurd all
kept-still (l ∷ ls) [] all = absurd all
kept-still (l ∷ ls) (r ∷ rs) all = (all.0.still, kept-still ls rs all.1)

-- ---- a row is reconfirmed, and so ends earlier, but wasn't heard again

heard-here : (moment : ℕ) (b : Bool) (x y : HeardRow) → x.heard ≡ y.heard → (u v : Option HeardRow) → was_heard_at moment u ≡ was_heard_at moment v → was_heard_at moment (cond b (Some x) u) ≡ was_heard_at moment (cond b (Some y) v)
heard-here moment true x y same u v rest = ap (λ (n : ℕ). n == moment) same
heard-here moment false x y same u v rest = rest

heard-ending : (moment : ℕ) (key : Key) (test : Key × HeardRow → Bool) (end : ℕ) (rows : LinkRows) → was_heard_at moment (row_at key (map (λ (row : Key × HeardRow). cond (test row) (ending_by end row) row) rows)) ≡ was_heard_at moment (row_at key rows)
heard-ending moment key test end [] = refl
heard-ending moment key test end (r ∷ rs) = by (test r) (heard-ending moment key test end rs)
  where
    rest : LinkRows
    rest = map (λ (row : Key × HeardRow). cond (test row) (ending_by end row) row) rs

    by : (b : Bool) → was_heard_at moment (row_at key rest) ≡ was_heard_at moment (row_at key rs) → was_heard_at moment (row_at key (cond b (ending_by end r) r ∷ rest)) ≡ was_heard_at moment (row_at key (r ∷ rs))
    by true same = heard-here moment (eq_by_cmp key_cmp key r.0) (ending_by end r).1 r.1 refl (row_at key rest) (row_at key rs) same
    by false same = heard-here moment (eq_by_cmp key_cmp key r.0) r.1 r.1 refl (row_at key rest) (row_at key rs) same

pass-alike : {X : Type 0} (test other : X → Bool) → ((x : X) → other x ≡ test x) → (xs : List X) → AllPass test xs → AllPass other xs
pass-alike test other same [] all = tt
pass-alike test other same (x ∷ xs) all = (same x ∙ all.0, pass-alike test other same xs all.1)

pub pass-reconfirmed : (rows : LinkRows) (key : Key) (now : ℕ) (doubts : Reconfirmed) → RowsPass rows doubts → RowsPass (reconfirmed rows key now) doubts
pass-reconfirmed rows key now doubts pass =
    pass-alike (λ (r : Key × ℕ). was_heard_at r.1 (row_at r.0 rows)) (λ (r : Key × ℕ). was_heard_at r.1 (row_at r.0 (reconfirmed rows key now))) (λ r. heard-ending r.1 r.0 (λ row. same_key key row.0) (now + reconfirmation) rows) doubts pass

pub pass-links : (place : ℕ) (f : LinkState → LinkState) → ((l : LinkState) (d : Reconfirmed) → RowsPass l.rows d → RowsPass (f l).rows d) → (ls : List LinkState) (ds : List Reconfirmed) → Pass ls ds → Pass (changed_at place f ls) ds
pass-links place f step [] [] pass = tt
pass-links place f step [] (d ∷ ds) pass = absurd pass
pass-links place f step (l ∷ ls) [] pass = absurd pass
pass-links zero f step (l ∷ ls) (d ∷ ds) pass = (step l d pass.0, pass.1)
pass-links (suc place) f step (l ∷ ls) (d ∷ ds) pass = (pass.0, pass-links place f step ls ds pass.1)

-- ---- a hearing that says nothing of a name

or-first : (a b : Bool) → (a || b) ≡ false → a ≡ false
or-first true b e = absurd cc
or-first false b e = refl

or-second : (a b : Bool) → (a || b) ≡ false → b ≡ false
or-second true b e = absurd cc
or-second false b e = e

named-itself : (owner : Labels) → same_name (lower owner) owner ≡ true
named-itself owner = ap (λ (low : Labels). bytes_eq (octets low) (octets (lower owner))) (lower-twice owner) ∙ (bytes_eq-Decides (octets (lower owner)) (octets (lower owner))).1 refl

other-key : (key : Key) (h : HeardRr) → same_name key.owner h.rr.owner ≡ false → eq_by_cmp key_cmp key (key_of h.rr) ≡ false
other-key key h other = by (eq_by_cmp key_cmp key (key_of h.rr)) refl
  where
    by : (b : Bool) → eq_by_cmp key_cmp key (key_of h.rr) ≡ b → b ≡ false
    by false is = refl
    by true is =
        let same : key ≡ key_of h.rr = key_cmp-IsAntisymmetric key (key_of h.rr) (is_eq-Equal (key_cmp key (key_of h.rr)) is) in
        let wrong : true ≡ false = sym (named-itself h.rr.owner) ∙ ap (λ (k : Key). same_name k.owner h.rr.owner) (sym same) ∙ other in absurd cc

flushed-alike : (moment now : ℕ) (key : Key) (hs : List HeardRr) (rows : LinkRows) → was_heard_at moment (row_at key (fold (flushed_by now) rows hs)) ≡ was_heard_at moment (row_at key rows)
flushed-alike moment now key [] rows = refl
flushed-alike moment now key (h ∷ hs) rows =
    flushed-alike moment now key hs (flushed_by now rows h) ∙ heard-ending moment key (λ (row : Key × HeardRow). is_of_set h.rr row && nat_lt (row.1.heard + second) now) (now + second) rows

put-alike : (moment now : ℕ) (rules : LinkRules) (key : Key) (hs : List HeardRr) (rows : LinkRows) → names_owner key.owner hs ≡ false → was_heard_at moment (row_at key (fold (put_heard rules now 0) rows hs)) ≡ was_heard_at moment (row_at key rows)
put-alike moment now rules key [] rows none = refl
put-alike moment now rules key (h ∷ hs) rows none =
    put-alike moment now rules key hs (put_heard rules now 0 rows h) (or-second (same_name key.owner h.rr.owner) (names_owner key.owner hs) none)
    ∙ by (ttl_of h == 0) (has_key (key_of h.rr) rows || row_has_room rules 0 rows h.rr)
  where
    by : (gone room : Bool) → was_heard_at moment (row_at key (cond gone (map (λ (row : Key × HeardRow). cond (same_key (key_of h.rr) row.0) (ending_by (now + second) row) row) rows) (cond room (put key_cmp (key_of h.rr) (heard_at now h) rows) rows))) ≡ was_heard_at moment (row_at key rows)
    by true room = heard-ending moment key (λ (row : Key × HeardRow). same_key (key_of h.rr) row.0) (now + second) rows
    by false true =
        ap (was_heard_at moment)
        (find-put key_cmp key_cmp_total key (key_of h.rr) (heard_at now h) rows
        ∙ ap (λ (b : Bool). cond b (Some (heard_at now h)) (row_at key rows)) (other-key key h (or-first (same_name key.owner h.rr.owner) (names_owner key.owner hs) none)))
    by false false = refl

filter-none : {X : Type 0} (test keep : X → Bool) (xs : List X) → list_any test xs ≡ false → list_any test (filter keep xs) ≡ false
filter-none test keep [] none = refl
filter-none {X} test keep (x ∷ xs) none = by (keep x) (filter-none test keep xs (or-second (test x) (list_any test xs) none))
  where
    by : (b : Bool) → list_any test (filter keep xs) ≡ false → list_any test (cond b (x ∷ filter keep xs) (filter keep xs)) ≡ false
    by true rest = ap (λ (b : Bool). b || list_any test (filter keep xs)) (or-first (test x) (list_any test xs) none) ∙ rest
    by false rest = rest

heard-alike : (moment now : ℕ) (rules : LinkRules) (key : Key) (hearing : List HeardRr) (rows : LinkRows) → names_owner key.owner hearing ≡ false → was_heard_at moment (row_at key (heard rules rows now hearing)) ≡ was_heard_at moment (row_at key rows)
heard-alike moment now rules key hearing rows none =
    flushed-alike moment now key (filter (λ (h : HeardRr). h.flush) (usable_of rules hearing)) (fold (put_heard rules now 0) rows (usable_of rules hearing))
    ∙ put-alike moment now rules key (usable_of rules hearing) rows (filter-none (λ (h : HeardRr). same_name key.owner h.rr.owner) _ hearing none)

pub pass-unnamed : (rules : LinkRules) (rows : LinkRows) (now : ℕ) (hearing : List HeardRr) (doubts : Reconfirmed) → names_any doubts hearing ≡ false → RowsPass rows doubts → RowsPass (heard rules rows now hearing) doubts
pass-unnamed rules rows now hearing [] none pass = tt
pass-unnamed rules rows now hearing (r ∷ rs) none pass = (
  heard-alike r.1 now rules r.0 hearing rows (or-first (names_owner r.0.owner hearing) (names_any rs hearing) none) ∙ pass.0,
  pass-unnamed rules rows now hearing rs (or-second (names_owner r.0.owner hearing) (names_any rs hearing) none) pass.1,
)

-- the link at a place hears nothing of a name of its rows
pub pass-hearing : (place : ℕ) (f : LinkState → LinkState) (now : ℕ) (hearing : List HeardRr) → ((l : LinkState) → (f l).rows ≡ heard l.rules l.rows now hearing) → (ls : List LinkState) (rs : List ReasonsOfLink) → names_at (slice_get rs place) hearing ≡ false
    → Pass ls (doubts_in (map asking_of rs)) → Pass (changed_at place f ls) (doubts_in (map asking_of rs))
pass-hearing place f now hearing is [] [] none pass = tt
pass-hearing place f now hearing is [] (r ∷ rs) none pass = absurd pass
pass-hearing place f now hearing is (l ∷ ls) [] none pass = absurd pass
pass-hearing zero f now hearing is (l ∷ ls) (r ∷ rs) none pass = (subst (λ (rows : LinkRows). RowsPass rows r.reconfirmed) (sym (is l)) (pass-unnamed l.rules l.rows now hearing r.reconfirmed none pass.0), pass.1)
pass-hearing (suc place) f now hearing is (l ∷ ls) (r ∷ rs) none pass = (pass.0, pass-hearing place f now hearing is ls rs none pass.1)

-- ---- rows come and go

pub pass-doubts : (place : ℕ) (g : Reconfirmed → Reconfirmed) → ((rows : LinkRows) (d : Reconfirmed) → RowsPass rows d → RowsPass rows (g d)) → (ls : List LinkState) (ds : List Reconfirmed) → Pass ls ds → Pass ls (changed_at place g ds)
pass-doubts place g step [] [] pass = tt
pass-doubts place g step [] (d ∷ ds) pass = absurd pass
pass-doubts place g step (l ∷ ls) [] pass = absurd pass
pass-doubts zero g step (l ∷ ls) (d ∷ ds) pass = (step l.rows d pass.0, pass.1)
pass-doubts (suc place) g step (l ∷ ls) (d ∷ ds) pass = (pass.0, pass-doubts place g step ls ds pass.1)

pub pass-append : {X : Type 0} (test : X → Bool) (xs ys : List X) → AllPass test xs → AllPass test ys → AllPass test (xs ++ ys)
pass-append test [] ys all more = more
pass-append test (x ∷ xs) ys all more = (all.0, pass-append test xs ys all.1 more)

pub pass-one : (place : ℕ) (one : Key × ℕ) (l : LinkState) (ls : List LinkState) (ds : List Reconfirmed) → slice_get ls place ≡ Some l → was_heard_at one.1 (row_at one.0 l.rows) ≡ true → Pass ls ds → Pass ls (changed_at place (λ (d : Reconfirmed). d ++ one ∷ []) ds)
pass-one place one l [] [] at is pass = tt
pass-one place one l [] (d ∷ ds) at is pass = absurd pass
pass-one place one l (k ∷ ls) [] at is pass = absurd pass
pass-one zero one l (k ∷ ls) (d ∷ ds) at is pass =
    let same : k ≡ l = cc in
    (pass-append (λ (r : Key × ℕ). was_heard_at r.1 (row_at r.0 k.rows)) d (one ∷ []) pass.0 (subst (λ (m : LinkState). was_heard_at one.1 (row_at one.0 m.rows) ≡ true) (sym same) is, tt), pass.1)
pass-one (suc place) one l (k ∷ ls) (d ∷ ds) at is pass = (pass.0, pass-one place one l ls ds at is pass.1)
