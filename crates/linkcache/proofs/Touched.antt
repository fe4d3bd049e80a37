-- What a hearing does to the rows of a link, it does to those of its owners.
use Rattle.std.proofs.Common.{◌≡◌, ℕ, ◌+◌, Bool, true, false, cond, not, ◌&&◌, ◌||◌, List, [], ◌∷◌, map, length, filter, fold, nat_lt, nat_le, refl, sym, ap, ◌∙◌, arith}
use Rattle.std.specs.Prelude.{◌==◌, if◌then◌else◌, sum_by}
use Rattle.std.specs.List.{AllByRecursion}
use Rattle.push_base.specs.Limits.{max_octets_at_name}
use Rattle.dnsname.specs.Names.{Labels, lower, same_name}
use Rattle.rrset.specs.declared.record.Rr.{Rr}
use Rattle.rrset.specs.declared.record.Key.{Key}
use Rattle.rrset.specs.declared.record.HeardRr.{HeardRr}
use Rattle.rrset.specs.Records.{key_of, same_key, rr_size}
use Rattle.rrset.proofs.Places.{all_filter}
use Rattle.dnsname.proofs.Decisions.{same_name-Decides}
use Rattle.rrset.proofs.LowerNames.{lower-twice}
use Rattle.linkmap.specs.Translation.{local, renamed_rr}
use Rattle.linkcache.specs.declared.row.HeardRow.{HeardRow}
use Rattle.rrset.specs.KeyedRows.{put_row, only_rows}
use Rattle.linkcache.specs.Rows.{LinkRows, ttl_of, second, max_rows, ending_by, has_key, size_under, row_has_room, heard_at, put_heard, is_of_set, flushed_by, usable_of, heard_beside, heard, rr_of_row}
use Rattle.linkcache.specs.Parts.{is_touched, fails}
use Rattle.linkcache.proofs.KeyedParts.{Rising, pass_alike, not_both, rising-put, rising-map, only-put-passed, only-put-failed, only-map, failed-map, length-parts, any-part, only-within, KeepsKeys}
use Rattle.linkcache.specs.declared.rules.LinkRules.{LinkRules}

and-left : (a b : Bool) → (a && b) ≡ true → a ≡ true
and-left true b e = refl
and-left false b e = absurd cc

or-left : (a b : Bool) → a ≡ true → (a || b) ≡ true
or-left true b e = refl
or-left false b e = absurd cc

or-right : (a b : Bool) → b ≡ true → (a || b) ≡ true
or-right true b e = refl
or-right false b e = e

-- ---- tests that hold of each key of an owner

abbrev pub Covers : (Key → Bool) → Labels → Type 0
Covers p owner = (key : Key) → same_name owner key.owner ≡ true → p key ≡ true

abbrev pub CoversAll : (Key → Bool) → List HeardRr → Type 0
CoversAll p hs = AllByRecursion (λ h. Covers p h.rr.owner) hs

covers-key_of : (p : Key → Bool) (rr : Rr) → Covers p rr.owner → p (key_of rr) ≡ true
covers-key_of p rr covers = covers (key_of rr) ((same_name-Decides rr.owner (lower rr.owner)).1 (sym (lower-twice rr.owner)))

pub covers-any : (p : Key → Bool) (hs : List HeardRr) → ((key : Key) → is_touched hs key ≡ true → p key ≡ true) → CoversAll p hs
covers-any p [] h = tt
covers-any p (x ∷ hs) h = (
  λ key same. h key (or-left (same_name x.rr.owner key.owner) (is_touched hs key) same),
  covers-any p hs (λ key some. h key (or-right (same_name x.rr.owner key.owner) (is_touched hs key) some)),
)

pub touched-covers : (usable : List HeardRr) → CoversAll (is_touched usable) usable
touched-covers usable = covers-any (is_touched usable) usable (λ key e. e)

-- ---- a step on a part

-- the later rows are the part in the one and the earlier rows in the other half
pub record OnPart (p : Key → Bool) (rows later part : LinkRows) : Type 0 where
  pub inside : only_rows p later ≡ part
  pub outside : only_rows (fails p) later ≡ only_rows (fails p) rows
  pub rising : Rising later

none : (p : Key → Bool) (rows : LinkRows) → Rising rows → OnPart p rows rows (only_rows p rows)
none p rows h = record { inside = refl; outside = refl; rising = h }

put : (p : Key → Bool) (k : Key) (v : HeardRow) (rows : LinkRows) → Rising rows → p k ≡ true → OnPart p rows (put_row k v rows) (put_row k v (only_rows p rows))
put p k v rows h passes = record { inside = only-put-passed p k v rows h passes; outside = only-put-failed (fails p) k v rows h (ap not passes); rising = rising-put k v rows h }

-- a row ends by a moment where a test holds, which holds in the part alone
ending : (test : Key × HeardRow → Bool) (moment : ℕ) → Key × HeardRow → Key × HeardRow
ending test moment row = cond (test row) (ending_by moment row) row

keeps : (test : Key × HeardRow → Bool) (moment : ℕ) → KeepsKeys (λ row. cond (test row) (ending_by moment row) row)
keeps test moment e = by (test e)
  where
    by : (b : Bool) → (cond b (ending_by moment e) e).0 ≡ e.0
    by true = refl
    by false = refl

ends : (p : Key → Bool) (test : Key × HeardRow → Bool) (moment : ℕ) → ((e : Key × HeardRow) → test e ≡ true → p e.0 ≡ true) → (rows : LinkRows) → Rising rows
    → OnPart p rows (map (λ row. cond (test row) (ending_by moment row) row) rows) (map (λ row. cond (test row) (ending_by moment row) row) (only_rows p rows))
ends p test moment within rows h = record {
  inside = only-map p (λ row. cond (test row) (ending_by moment row) row) (keeps test moment) rows;
  outside = failed-map p (λ row. cond (test row) (ending_by moment row) row) (keeps test moment) (λ e not_p. by e (test e) refl not_p) rows;
  rising = rising-map (λ row. cond (test row) (ending_by moment row) row) (keeps test moment) rows h;
}
  where
    by : (e : Key × HeardRow) (b : Bool) → test e ≡ b → p e.0 ≡ false → cond (test e) (ending_by moment e) e ≡ e
    by e true is not_p = absurd (not_both (p e.0) (within e is) not_p)
    by e false is not_p = ap (λ b. cond b (ending_by moment e) e) is

-- ---- the first pass

room-part : (p : Key → Bool) (rules : LinkRules) (others n : ℕ) (rows : LinkRows) (rr : Rr) → Covers p rr.owner → n ≡ others + length (only_rows (fails p) rows)
    → row_has_room rules others rows rr ≡ row_has_room rules n (only_rows p rows) rr
room-part p rules others n rows rr covers n-is =
    let parts = length-parts p rows in
    let count : length rows + others ≡ length (only_rows p rows) + n = omega arith in
    let sizes : size_under rules rr.owner rows ≡ size_under rules rr.owner (only_rows p rows) = ap (λ (l : LinkRows). sum_by (λ row. rr_size (renamed_rr local rules.domain (rr_of_row row))) l) (sym (only-within p (λ key. same_name rr.owner key.owner) covers rows)) in
    λ i. nat_lt (count i) max_rows && nat_le (sizes i + rr_size (renamed_rr local rules.domain rr)) max_octets_at_name

put_heard-part : (p : Key → Bool) (rules : LinkRules) (now others n : ℕ) (rows : LinkRows) (h : HeardRr) → Rising rows → Covers p h.rr.owner → n ≡ others + length (only_rows (fails p) rows)
    → OnPart p rows (put_heard rules now others rows h) (put_heard rules now n (only_rows p rows) h)
put_heard-part p rules now others n rows h rising covers n-is =
    by (ttl_of h == 0) (has_key k rows || row_has_room rules others rows h.rr) (has_key k (only_rows p rows) || row_has_room rules n (only_rows p rows) h.rr) (λ i. there i || room-part p rules others n rows h.rr covers n-is i)
  where
    k : Key
    k = key_of h.rr

    passes : p k ≡ true
    passes = covers-key_of p h.rr covers

    same : (key : Key) → same_key k key ≡ true → p key ≡ true
    same key e = sym (pass_alike p k key e) ∙ passes

    there : has_key k rows ≡ has_key k (only_rows p rows)
    there = sym (any-part p (same_key k) same rows)

    by : (t b c : Bool) → b ≡ c
        → OnPart p rows
        (if t then map (λ row. cond (same_key k row.0) (ending_by (now + second) row) row) rows else if b then put_row k (heard_at now h) rows else rows)
        (if t then map (λ row. cond (same_key k row.0) (ending_by (now + second) row) row) (only_rows p rows) else if c then put_row k (heard_at now h) (only_rows p rows) else only_rows p rows)
    by true b c e = ends p (λ row. same_key k row.0) (now + second) (λ row is. same row.0 is) rows rising
    by false true true e = put p k (heard_at now h) rows rising passes
    by false false false e = none p rows rising
    by false true false e = absurd cc
    by false false true e = absurd cc

first_pass : (p : Key → Bool) (rules : LinkRules) (now others n : ℕ) (hs : List HeardRr) (rows : LinkRows) → Rising rows → CoversAll p hs → n ≡ others + length (only_rows (fails p) rows)
    → OnPart p rows (fold (put_heard rules now others) rows hs) (fold (put_heard rules now n) (only_rows p rows) hs)
first_pass p rules now others n [] rows rising covers n-is = none p rows rising
first_pass p rules now others n (h ∷ hs) rows rising covers n-is =
    let one = put_heard-part p rules now others n rows h rising covers.0 n-is in
    let rest = first_pass p rules now others n hs (put_heard rules now others rows h) one.rising covers.1 (n-is ∙ ap (λ (l : LinkRows). others + length l) (sym one.outside)) in
    record {
      inside = rest.inside ∙ ap (λ (l : LinkRows). fold (put_heard rules now n) l hs) one.inside;
      outside = rest.outside ∙ one.outside;
      rising = rest.rising;
    }

-- ---- the second pass

flushed-part : (p : Key → Bool) (now : ℕ) (rows : LinkRows) (h : HeardRr) → Rising rows → Covers p h.rr.owner → OnPart p rows (flushed_by now rows h) (flushed_by now (only_rows p rows) h)
flushed-part p now rows h rising covers =
    ends p (λ row. is_of_set h.rr row && nat_lt (row.1.heard + second) now) (now + second) (λ row is. covers row.0 (and-left _ _ (and-left _ _ (and-left _ _ is)))) rows rising

second_pass : (p : Key → Bool) (now : ℕ) (hs : List HeardRr) (rows : LinkRows) → Rising rows → CoversAll p hs → OnPart p rows (fold (flushed_by now) rows hs) (fold (flushed_by now) (only_rows p rows) hs)
second_pass p now [] rows rising covers = none p rows rising
second_pass p now (h ∷ hs) rows rising covers =
    let one = flushed-part p now rows h rising covers.0 in
    let rest = second_pass p now hs (flushed_by now rows h) one.rising covers.1 in
    record {
      inside = rest.inside ∙ ap (λ (l : LinkRows). fold (flushed_by now) l hs) one.inside;
      outside = rest.outside ∙ one.outside;
      rising = rest.rising;
    }

-- ---- both

-- a hearing of usable records changes the rows of a part that has all their owners, as if the part were all but for a count of the others
pub heard_beside-part : (p : Key → Bool) (rules : LinkRules) (now others n : ℕ) (usable : List HeardRr) (rows : LinkRows) → Rising rows → CoversAll p usable → n ≡ others + length (only_rows (fails p) rows)
    → OnPart p rows (heard_beside others rules rows now usable) (heard_beside n rules (only_rows p rows) now usable)
heard_beside-part p rules now others n usable rows rising covers n-is =
    let one = first_pass p rules now others n usable rows rising covers n-is in
    let two = second_pass p now (filter (λ h. h.flush) usable) (fold (put_heard rules now others) rows usable) one.rising (all_filter (λ h. Covers p h.rr.owner) (λ h. h.flush) usable covers) in
    record {
      inside = two.inside ∙ ap (λ (l : LinkRows). fold (flushed_by now) l (filter (λ h. h.flush) usable)) one.inside;
      outside = two.outside ∙ one.outside;
      rising = two.rising;
    }

pub heard-part : (rules : LinkRules) (now : ℕ) (hearing : List HeardRr) (rows : LinkRows) → Rising rows
    → OnPart (is_touched (usable_of rules hearing)) rows (heard rules rows now hearing)
    (heard_beside (length (only_rows (fails (is_touched (usable_of rules hearing))) rows)) rules (only_rows (is_touched (usable_of rules hearing)) rows) now (usable_of rules hearing))
heard-part rules now hearing rows rising =
    let usable = usable_of rules hearing in
    heard_beside-part (is_touched usable) rules now 0 (length (only_rows (fails (is_touched usable)) rows)) usable rows rising (touched-covers usable) (omega arith)
