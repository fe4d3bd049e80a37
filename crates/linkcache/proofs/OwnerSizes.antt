-- The octets of an owner's rows under the domain, and how many rows there are, after each step.
use Rattle.std.proofs.Common.{◌≡◌, ℕ, suc, ◌+◌, ◌≤◌, Bool, true, false, cond, ◌&&◌, ◌||◌, T, List, [], ◌∷◌, map, length, filter, fold, nat_lt, nat_le, Option, Some, None, is_some, refl, sym, ap, subst, ◌∙◌, arith}
use Rattle.std.specs.Prelude.{◌==◌, if◌then◌else◌, sum_by}
use Rattle.std.specs.List.{AllByRecursion}
use Rattle.std.specs.Ordering.{is_eq, is_lt}
use Rattle.std.specs.Str.{bytes_eq}
use Rattle.std.specs.FinMap.Entries.{below_all, by_order}
use Rattle.std.specs.declared.cmp.Ordering.{Ordering}
use Rattle.std.specs.declared.cmp.Ordering.TheVariants.{Less, Equal, Greater}
use Rattle.std.proofs.lemmas.Bool.{leb-true}
use Rattle.std.proofs.lemmas.List.{length-map}
use Rattle.std.proofs.lemmas.List.Sums.{sum_by-cons}
use Rattle.push_base.specs.Limits.{max_octets_at_name}
use Rattle.dnsname.specs.Names.{Labels, octets, lower, same_name}
use Rattle.dnsname.proofs.Decisions.{same_name-Decides}
use Rattle.rrset.specs.declared.record.Key.{Key}
use Rattle.rrset.specs.declared.record.HeardRr.{HeardRr}
use Rattle.rrset.specs.Records.{key_of, key_cmp, same_key, rr_size}
use Rattle.rrset.specs.KeyedRows.{put_row, row_at}
use Rattle.rrset.proofs.KeyOrder.{key_cmp_total, key_cmp-IsAntisymmetric}
use Rattle.rrset.proofs.LowerNames.{lower-twice}
use Rattle.rrset.proofs.Places.{and_left, and_right}
use Rattle.rrset.proofs.SameRows.{same_key-same}
use Rattle.linkmap.specs.Translation.{local, renamed_rr}
use Rattle.reversemap.specs.BothKinds.{is_used}
use Rattle.linkmap.proofs.OneSize.{size_as_one}
use Rattle.linkcache.specs.declared.row.HeardRow.{HeardRow}
use Rattle.linkcache.specs.Rows.{LinkRows, rr_of_row, ttl_of, second, reconfirmation, max_rows, ending_by, has_key, size_under, row_has_room, heard_at, put_heard, is_of_set, flushed_by, usable_of, heard, at_moment, reconfirmed}
use Rattle.linkcache.specs.Sound.{AreLinkRows}
use Rattle.linkcache.specs.Within.{IsWithin}
use Rattle.linkcache.proofs.KeyedParts.{Rising}
use Rattle.linkcache.proofs.SoundSteps.{sound-put, usable-of}
use Rattle.linkcache.proofs.HeardSteps.{has-found, rising-put_heard}
use Rattle.linkcache.specs.declared.rules.LinkRules.{LinkRules}

abbrev pub row_size : LinkRules → Key × HeardRow → ℕ
row_size rules row = rr_size (renamed_rr local rules.domain (rr_of_row row))

-- what a row adds to the octets of an owner
abbrev pub size_if : LinkRules → Labels → Key × HeardRow → ℕ
size_if rules owner row = cond (same_name owner row.0.owner) (row_size rules row) 0

pub size-cons : (rules : LinkRules) (owner : Labels) (e : Key × HeardRow) (es : LinkRows) → size_under rules owner (e ∷ es) ≡ size_if rules owner e + size_under rules owner es
size-cons rules owner e es = by (same_name owner e.0.owner)
  where
    rest : LinkRows
    rest = filter (λ row. same_name owner row.0.owner) es

    by : (b : Bool) → sum_by (row_size rules) (cond b (e ∷ rest) rest) ≡ cond b (row_size rules e) 0 + sum_by (row_size rules) rest
    by true = sum_by-cons (row_size rules) e rest
    by false = omega arith

-- names that are one have one size
pub size-alike : (rules : LinkRules) (a b : Labels) (rows : LinkRows) → lower a ≡ lower b → size_under rules a rows ≡ size_under rules b rows
size-alike rules a b rows e = ap (λ low. sum_by (row_size rules) (filter (λ (row : Key × HeardRow). bytes_eq (octets low) (octets (lower row.0.owner))) rows)) e

-- ---- changes of the ends alone

abbrev ending : (Key × HeardRow → Bool) → ℕ → Key × HeardRow → Key × HeardRow
ending test moment row = cond (test row) (ending_by moment row) row

pub size-ending : (rules : LinkRules) (owner : Labels) (test : Key × HeardRow → Bool) (moment : ℕ) (rows : LinkRows) → size_under rules owner (map (λ row. cond (test row) (ending_by moment row) row) rows) ≡ size_under rules owner rows
size-ending rules owner test moment [] = refl
size-ending rules owner test moment (e ∷ es) =
    size-cons rules owner (ending test moment e) (map (ending test moment) es)
    ∙ (λ i. one (test e) i + size-ending rules owner test moment es i)
    ∙ sym (size-cons rules owner e es)
  where
    one : (b : Bool) → size_if rules owner (cond b (ending_by moment e) e) ≡ size_if rules owner e
    one true = refl
    one false = refl

within-ending : (rules : LinkRules) (test : Key × HeardRow → Bool) (moment : ℕ) (rows : LinkRows) → IsWithin rules rows → IsWithin rules (map (λ row. cond (test row) (ending_by moment row) row) rows)
within-ending rules test moment rows within = record {
  few = subst (λ n. n ≤ max_rows) (sym (length-map rows (ending test moment))) within.few;
  owners = λ owner. subst (λ n. n ≤ max_octets_at_name) (sym (size-ending rules owner test moment rows)) (within.owners owner);
}

-- ---- fewer rows

size-filter : (rules : LinkRules) (owner : Labels) (g : Key × HeardRow → Bool) (rows : LinkRows) → size_under rules owner (filter g rows) ≤ size_under rules owner rows
size-filter rules owner g [] = omega arith
size-filter rules owner g (e ∷ es) = by (g e) (size-filter rules owner g es)
  where
    by : (b : Bool) → size_under rules owner (filter g es) ≤ size_under rules owner es → size_under rules owner (cond b (e ∷ filter g es) (filter g es)) ≤ size_under rules owner (e ∷ es)
    by true rest = let mine = size-cons rules owner e (filter g es) in let all = size-cons rules owner e es in omega arith
    by false rest = let all = size-cons rules owner e es in omega arith

length-filter-le : (g : Key × HeardRow → Bool) (rows : LinkRows) → length (filter g rows) ≤ length rows
length-filter-le g [] = omega arith
length-filter-le g (e ∷ es) = by (g e) (length-filter-le g es)
  where
    by : (b : Bool) → length (filter g es) ≤ length es → length (cond b (e ∷ filter g es) (filter g es)) ≤ length (e ∷ es)
    by true rest = omega arith
    by false rest = omega arith

pub within-moment : (rules : LinkRules) (now : ℕ) (rows : LinkRows) → IsWithin rules rows → IsWithin rules (at_moment rows now)
within-moment rules now rows within = record {
  few = let less = length-filter-le (λ row. nat_lt now row.1.ends) rows in let few = within.few in omega arith;
  owners = λ owner. let less = size-filter rules owner (λ row. nat_lt now row.1.ends) rows in let fits = within.owners owner in omega arith;
}

-- ---- a row put

pub size-put : (rules : LinkRules) (owner : Labels) (k : Key) (v : HeardRow) (rows : LinkRows) → size_under rules owner (put_row k v rows) ≤ size_under rules owner rows + size_if rules owner (k, v)
size-put rules owner k v [] = let first = size-cons rules owner (k, v) [] in omega arith
size-put rules owner k v (e ∷ es) = by (key_cmp k e.0) refl (size-put rules owner k v es)
  where
    by : (o : Ordering) → key_cmp k e.0 ≡ o → size_under rules owner (put_row k v es) ≤ size_under rules owner es + size_if rules owner (k, v)
        → size_under rules owner (by_order o ((k, v) ∷ e ∷ es) ((e.0, v) ∷ es) (e ∷ put_row k v es)) ≤ size_under rules owner (e ∷ es) + size_if rules owner (k, v)
    by Less is h = let first = size-cons rules owner (k, v) (e ∷ es) in omega arith
    by Equal is h =
        let first = size-cons rules owner (e.0, v) es in
        let all = size-cons rules owner e es in
        let same : size_if rules owner (e.0, v) ≡ size_if rules owner (k, v) = ap (λ x. size_if rules owner (x, v)) (sym (key_cmp-IsAntisymmetric k e.0 is)) in
        omega arith
    by Greater is h =
        let first = size-cons rules owner e (put_row k v es) in
        let all = size-cons rules owner e es in
        omega arith

length-put : (k : Key) (v : HeardRow) (rows : LinkRows) → length (put_row k v rows) ≤ length rows + 1
length-put k v [] = omega arith
length-put k v (e ∷ es) = by (key_cmp k e.0) (length-put k v es)
  where
    by : (o : Ordering) → length (put_row k v es) ≤ length es + 1 → length (by_order o ((k, v) ∷ e ∷ es) ((e.0, v) ∷ es) (e ∷ put_row k v es)) ≤ length (e ∷ es) + 1
    by Less h = omega arith
    by Equal h = omega arith
    by Greater h = omega arith

-- a key before a row in order has no row behind it
is_less : (o : Ordering) → T (is_lt o) → o ≡ Less
is_less Less h = refl
is_less Equal h = absurd h
is_less Greater h = absurd h

pub behind_none : (k x : Key) (es : LinkRows) → key_cmp k x ≡ Less → T (below_all key_cmp x es) → row_at k es ≡ None
behind_none k x [] less below = refl
behind_none k x (e ∷ es) less below =
    ap (λ o. cond (is_eq o) (Some e.1) (row_at k es)) (key_cmp_total.trans k x e.0 less (is_less (key_cmp x e.0) (and_left _ _ below))) ∙ behind_none k x es less (and_right _ _ below)

-- a row in place of another with its key
pub record Replaces (rules : LinkRules) (owner : Labels) (rows later : LinkRows) : Type 0 where
  pub size : size_under rules owner later ≡ size_under rules owner rows
  pub count : length later ≡ length rows

pub replaces : (rules : LinkRules) (owner : Labels) (k : Key) (v old : HeardRow) (rows : LinkRows) → Rising rows → row_at k rows ≡ Some old → row_size rules (k, v) ≡ row_size rules (k, old) → Replaces rules owner rows (put_row k v rows)
replaces rules owner k v old [] h found same = absurd cc
replaces rules owner k v old (e ∷ es) h found same = by (key_cmp k e.0) refl found (λ there. replaces rules owner k v old es (and_right _ _ h) there same)
  where
    by : (o : Ordering) → key_cmp k e.0 ≡ o → cond (is_eq o) (Some e.1) (row_at k es) ≡ Some old → (row_at k es ≡ Some old → Replaces rules owner es (put_row k v es))
        → Replaces rules owner (e ∷ es) (by_order o ((k, v) ∷ e ∷ es) ((e.0, v) ∷ es) (e ∷ put_row k v es))
    by Less is at rest = let none : None ≡ Some old = sym (behind_none k e.0 es is (and_left _ _ h)) ∙ at in absurd cc
    by Equal is at rest =
        let key = key_cmp-IsAntisymmetric k e.0 is in
        let value : e.1 ≡ old = ap (λ (o : Option HeardRow). elim o [ None ↦ old | Some row ↦ row ]) at in
        let mine : row_size rules (e.0, v) ≡ row_size rules e = ap (λ x. row_size rules (x, v)) (sym key) ∙ same ∙ (λ i. row_size rules (key i, sym value i)) in
        record {
          size = size-cons rules owner (e.0, v) es ∙ (λ i. cond (same_name owner e.0.owner) (mine i) 0 + size_under rules owner es) ∙ sym (size-cons rules owner e es);
          count = refl;
        }
    by Greater is at rest =
        let behind = rest at in
        record {
          size = size-cons rules owner e (put_row k v es) ∙ ap (λ n. size_if rules owner e + n) behind.size ∙ sym (size-cons rules owner e es);
          count = ap (λ n. suc n) behind.count;
        }

-- ---- a record heard

-- the row of a key is one of a usable record with the key
pub found-key : (rules : LinkRules) (k : Key) (old : HeardRow) (rows : LinkRows) → AreLinkRows rules rows → row_at k rows ≡ Some old → key_of (rr_of_row (k, old)) ≡ k
found-key rules k old [] sound found = absurd cc
found-key rules k old (e ∷ es) sound found = by (same_key k e.0) refl found (found-key rules k old es sound.1)
  where
    by : (b : Bool) → same_key k e.0 ≡ b → cond b (Some e.1) (row_at k es) ≡ Some old → (row_at k es ≡ Some old → key_of (rr_of_row (k, old)) ≡ k) → key_of (rr_of_row (k, old)) ≡ k
    by true is at rest =
        let key = same_key-same k e.0 is in
        let value : e.1 ≡ old = ap (λ (o : Option HeardRow). elim o [ None ↦ old | Some row ↦ row ]) at in
        (λ i. key_of (rr_of_row (key i, sym value i))) ∙ sound.0.key ∙ sym key
    by false is at rest = rest at

-- a row that is there
pub record FoundRow (k : Key) (rows : LinkRows) : Type 0 where
  pub old : HeardRow
  pub is : row_at k rows ≡ Some old

pub found-row : (k : Key) (rows : LinkRows) → has_key k rows ≡ true → FoundRow k rows
found-row k rows there = by (row_at k rows) refl (has-found k rows ∙ there)
  where
    by : (o : Option HeardRow) → row_at k rows ≡ o → is_some o ≡ true → FoundRow k rows
    by None is e = absurd cc
    by (Some old) is e = record { old = old; is = is }

both_hold : (a b : Bool) → (a && b) ≡ true → (a ≡ true) × (b ≡ true)
both_hold true b e = (refl, e)
both_hold false b e = absurd cc

within-put : (rules : LinkRules) (now : ℕ) (rows : LinkRows) (h : HeardRr) → Rising rows → AreLinkRows rules rows → IsWithin rules rows → IsWithin rules (put_heard rules now 0 rows h)
within-put rules now rows h rising sound within = by (ttl_of h == 0) (has_key k rows) (row_has_room rules 0 rows h.rr) refl refl
  where
    k : Key
    k = key_of h.rr

    there : has_key k rows ≡ true → IsWithin rules (put_row k (heard_at now h) rows)
    there e =
        let found = found-row k rows e in
        let same = size_as_one rules.domain (rr_of_row (k, heard_at now h)) (rr_of_row (k, found.old)) (sym (found-key rules k found.old rows sound found.is)) in
        record {
          few = let r = replaces rules h.rr.owner k (heard_at now h) found.old rows rising found.is same in subst (λ n. n ≤ max_rows) (sym r.count) within.few;
          owners = λ owner. let r = replaces rules owner k (heard_at now h) found.old rows rising found.is same in subst (λ n. n ≤ max_octets_at_name) (sym r.size) (within.owners owner);
        }

    put_at : row_has_room rules 0 rows h.rr ≡ true → (owner : Labels) (b : Bool) → same_name owner k.owner ≡ b → size_under rules owner (put_row k (heard_at now h) rows) ≤ max_octets_at_name
    put_at room owner true is =
        let fits = (both_hold (nat_lt (length rows + 0) max_rows) (nat_le (size_under rules h.rr.owner rows + rr_size (renamed_rr local rules.domain h.rr)) max_octets_at_name) room).1 in
        let put = size-put rules owner k (heard_at now h) rows in
        let mine : size_if rules owner (k, heard_at now h) ≡ rr_size (renamed_rr local rules.domain h.rr) = ap (λ b. cond b (row_size rules (k, heard_at now h)) 0) is in
        let alike = size-alike rules owner h.rr.owner rows ((same_name-Decides owner k.owner).0 is ∙ lower-twice h.rr.owner) in
        let most : size_under rules h.rr.owner rows + rr_size (renamed_rr local rules.domain h.rr) ≤ max_octets_at_name = leb-true _ _ fits in
        omega arith
    put_at room owner false is =
        let put = size-put rules owner k (heard_at now h) rows in
        let mine : size_if rules owner (k, heard_at now h) ≡ 0 = ap (λ b. cond b (row_size rules (k, heard_at now h)) 0) is in
        let most = within.owners owner in
        omega arith

    new : row_has_room rules 0 rows h.rr ≡ true → IsWithin rules (put_row k (heard_at now h) rows)
    new room = record {
      few =
          let one = (both_hold (nat_lt (length rows + 0) max_rows) (nat_le (size_under rules h.rr.owner rows + rr_size (renamed_rr local rules.domain h.rr)) max_octets_at_name) room).0 in
          let less : suc (length rows + 0) ≤ max_rows = leb-true _ _ one in
          let put = length-put k (heard_at now h) rows in
          omega arith;
      owners = λ owner. put_at room owner (same_name owner k.owner) refl;
    }

    by : (t b c : Bool) → has_key k rows ≡ b → row_has_room rules 0 rows h.rr ≡ c
        → IsWithin rules (if t then map (λ row. cond (same_key k row.0) (ending_by (now + second) row) row) rows else if b || c then put_row k (heard_at now h) rows else rows)
    by true b c is has = within-ending rules (λ row. same_key k row.0) (now + second) rows within
    by false true c is has = there is
    by false false true is has = new has
    by false false false is has = within

within-first : (rules : LinkRules) (now : ℕ) (hs : List HeardRr) (rows : LinkRows) → AllByRecursion (λ h. is_used rules.domain rules.reverses h.rr ≡ true) hs → Rising rows → AreLinkRows rules rows → IsWithin rules rows → IsWithin rules (fold (put_heard rules now 0) rows hs)
within-first rules now [] rows usable rising sound within = within
within-first rules now (h ∷ hs) rows usable rising sound within =
    within-first rules now hs (put_heard rules now 0 rows h) usable.1 (rising-put_heard rules now 0 rows h rising) (sound-put rules now 0 rows h usable.0 sound) (within-put rules now rows h rising sound within)

within-second : (rules : LinkRules) (now : ℕ) (hs : List HeardRr) (rows : LinkRows) → IsWithin rules rows → IsWithin rules (fold (flushed_by now) rows hs)
within-second rules now [] rows within = within
within-second rules now (h ∷ hs) rows within =
    within-second rules now hs (flushed_by now rows h) (within-ending rules (λ row. is_of_set h.rr row && nat_lt (row.1.heard + second) now) (now + second) rows within)

pub within-heard : (rules : LinkRules) (now : ℕ) (hearing : List HeardRr) (rows : LinkRows) → Rising rows → AreLinkRows rules rows → IsWithin rules rows → IsWithin rules (heard rules rows now hearing)
within-heard rules now hearing rows rising sound within =
    let usable = usable_of rules hearing in
    within-second rules now (filter (λ h. h.flush) usable) (fold (put_heard rules now 0) rows usable) (within-first rules now usable rows (usable-of rules hearing) rising sound within)

pub within-reconfirmed : (rules : LinkRules) (key : Key) (now : ℕ) (rows : LinkRows) → IsWithin rules rows → IsWithin rules (reconfirmed rows key now)
within-reconfirmed rules key now rows within = within-ending rules (λ row. same_key key row.0) (now + reconfirmation) rows within
