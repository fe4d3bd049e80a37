-- Each row of a link stays one that the link shows, with its key, whatever is heard.
--     KeepsEnds P      P doesn't depend on when a row ends
--     kept-heard, kept-moment, kept-reconfirmed      what holds of each row, and of what a hearing brings, holds of each row afterwards
--     sound-heard, sound-moment, sound-reconfirmed      so each row stays one of a usable record
use Rattle.std.proofs.Common.{◌≡◌, ℕ, zero, suc, ◌<◌, length, get_or, arith, ◌+◌, Bool, true, false, cond, ◌&&◌, ◌||◌, List, [], ◌∷◌, map, filter, fold, nat_lt, refl, subst}
use Rattle.std.specs.Prelude.{◌==◌, if◌then◌else◌}
use Rattle.std.specs.List.{AllByRecursion}
use Rattle.std.specs.FinMap.Entries.{by_order}
use Rattle.std.specs.declared.cmp.Ordering.{Ordering}
use Rattle.std.specs.declared.cmp.Ordering.TheVariants.{Less, Equal, Greater}
use Rattle.rrset.specs.declared.record.Key.{Key}
use Rattle.rrset.specs.declared.record.HeardRr.{HeardRr}
use Rattle.rrset.specs.Records.{key_of, key_cmp, same_key}
use Rattle.rrset.proofs.KeyOrder.{key_cmp-IsAntisymmetric}
use Rattle.rrset.proofs.Places.{all_filter}
use Rattle.reversemap.specs.BothKinds.{is_used}
use Rattle.linkcache.specs.declared.row.HeardRow.{HeardRow}
use Rattle.rrset.specs.KeyedRows.{Rows, put_row}
use Rattle.linkcache.specs.Rows.{LinkRows, ttl_of, second, reconfirmation, ending_by, has_key, row_has_room, heard_at, put_heard, is_of_set, flushed_by, usable_of, heard_beside, heard, at_moment, reconfirmed}
use Rattle.linkcache.specs.Sound.{IsLinkRow, AreLinkRows}
use Rattle.linkcache.specs.declared.rules.LinkRules.{LinkRules}

pub all-put : {X : Type 0} (P : Key × X → Type 0) (k : Key) (v : X) (rows : Rows X) → P (k, v) → AllByRecursion P rows → AllByRecursion P (put_row k v rows)
all-put P k v [] one h = (one, tt)
all-put {X} P k v (e ∷ es) one h = by (key_cmp k e.0) refl (all-put P k v es one h.1)
  where
    by : (r : Ordering) → key_cmp k e.0 ≡ r → AllByRecursion P (put_row k v es) → AllByRecursion P (by_order r ((k, v) ∷ e ∷ es) ((e.0, v) ∷ es) (e ∷ put_row k v es))
    by Less is rest = (one, h)
    by Equal is rest = (subst (λ x. P (x, v)) (key_cmp-IsAntisymmetric k e.0 is) one, h.1)
    by Greater is rest = (h.0, rest)

-- what holds of all holds of the one with an index
pub all_at : (P : Key × HeardRow → Type 0) (rows : LinkRows) (i : ℕ) (d : Key × HeardRow) → AllByRecursion P rows → i < length rows → P (get_or rows i d)
all_at P [] i d all within = absurd (omega arith)
all_at P (e ∷ es) zero d all within = all.0
all_at P (e ∷ es) (suc i) d all within = all_at P es i d all.1 (omega arith)

-- ---- what holds of each row

abbrev pub KeepsEnds : (Key × HeardRow → Type 0) → Type 0
KeepsEnds P = (row : Key × HeardRow) (moment : ℕ) → P row → P (ending_by moment row)

-- it holds of the rows that records bring
abbrev pub Brings : (Key × HeardRow → Type 0) → ℕ → List HeardRr → Type 0
Brings P now hs = AllByRecursion (λ h. P (key_of h.rr, heard_at now h)) hs

module _ (P : Key × HeardRow → Type 0) (ends : KeepsEnds P) where
  pub kept-ending : (test : Key × HeardRow → Bool) (moment : ℕ) (rows : LinkRows) → AllByRecursion P rows → AllByRecursion P (map (λ row. cond (test row) (ending_by moment row) row) rows)
  kept-ending test moment [] h = tt
  kept-ending test moment (e ∷ es) h = (by (test e), kept-ending test moment es h.1)
    where
      by : (b : Bool) → P (cond b (ending_by moment e) e)
      by true = ends e moment h.0
      by false = h.0

  kept-put : (rules : LinkRules) (now others : ℕ) (rows : LinkRows) (h : HeardRr) → P (key_of h.rr, heard_at now h) → AllByRecursion P rows → AllByRecursion P (put_heard rules now others rows h)
  kept-put rules now others rows h one all = by (ttl_of h == 0) (has_key (key_of h.rr) rows || row_has_room rules others rows h.rr)
    where
      by : (t b : Bool) → AllByRecursion P (if t then map (λ row. cond (same_key (key_of h.rr) row.0) (ending_by (now + second) row) row) rows else if b then put_row (key_of h.rr) (heard_at now h) rows else rows)
      by true b = kept-ending (λ row. same_key (key_of h.rr) row.0) (now + second) rows all
      by false true = all-put P (key_of h.rr) (heard_at now h) rows one all
      by false false = all

  kept-first : (rules : LinkRules) (now others : ℕ) (hs : List HeardRr) (rows : LinkRows) → Brings P now hs → AllByRecursion P rows → AllByRecursion P (fold (put_heard rules now others) rows hs)
  kept-first rules now others [] rows brings all = all
  kept-first rules now others (h ∷ hs) rows brings all = kept-first rules now others hs (put_heard rules now others rows h) brings.1 (kept-put rules now others rows h brings.0 all)

  kept-second : (now : ℕ) (hs : List HeardRr) (rows : LinkRows) → AllByRecursion P rows → AllByRecursion P (fold (flushed_by now) rows hs)
  kept-second now [] rows all = all
  kept-second now (h ∷ hs) rows all = kept-second now hs (flushed_by now rows h) (kept-ending (λ row. is_of_set h.rr row && nat_lt (row.1.heard + second) now) (now + second) rows all)

  pub kept-beside : (rules : LinkRules) (now others : ℕ) (usable : List HeardRr) (rows : LinkRows) → Brings P now usable → AllByRecursion P rows → AllByRecursion P (heard_beside others rules rows now usable)
  kept-beside rules now others usable rows brings all = kept-second now (filter (λ h. h.flush) usable) (fold (put_heard rules now others) rows usable) (kept-first rules now others usable rows brings all)

  pub kept-heard : (rules : LinkRules) (now : ℕ) (hearing : List HeardRr) (rows : LinkRows) → Brings P now (usable_of rules hearing) → AllByRecursion P rows → AllByRecursion P (heard rules rows now hearing)
  kept-heard rules now hearing rows brings all = kept-beside rules now 0 (usable_of rules hearing) rows brings all

  pub kept-moment : (now : ℕ) (rows : LinkRows) → AllByRecursion P rows → AllByRecursion P (at_moment rows now)
  kept-moment now rows all = all_filter P (λ row. nat_lt now row.1.ends) rows all

  pub kept-reconfirmed : (key : Key) (now : ℕ) (rows : LinkRows) → AllByRecursion P rows → AllByRecursion P (reconfirmed rows key now)
  kept-reconfirmed key now rows all = kept-ending (λ row. same_key key row.0) (now + reconfirmation) rows all

-- ---- rows of usable records

sound-ends : (rules : LinkRules) → KeepsEnds (IsLinkRow rules)
sound-ends rules row moment h = record { usable = h.usable; key = h.key }

abbrev AreUsable : LinkRules → List HeardRr → Type 0
AreUsable rules hs = AllByRecursion (λ h. is_used rules.domain rules.reverses h.rr ≡ true) hs

pub usable-of : (rules : LinkRules) (hearing : List HeardRr) → AreUsable rules (usable_of rules hearing)
usable-of rules [] = tt
usable-of rules (h ∷ hs) = by (is_used rules.domain rules.reverses h.rr) refl (usable-of rules hs)
  where
    by : (b : Bool) → is_used rules.domain rules.reverses h.rr ≡ b → AreUsable rules (usable_of rules hs) → AreUsable rules (cond b (h ∷ usable_of rules hs) (usable_of rules hs))
    by true is rest = (is, rest)
    by false is rest = rest

sound-brings : (rules : LinkRules) (now : ℕ) (hs : List HeardRr) → AreUsable rules hs → Brings (IsLinkRow rules) now hs
sound-brings rules now [] usable = tt
sound-brings rules now (h ∷ hs) usable = (record { usable = usable.0; key = refl }, sound-brings rules now hs usable.1)

pub sound-ending : (rules : LinkRules) (test : Key × HeardRow → Bool) (moment : ℕ) (rows : LinkRows) → AreLinkRows rules rows → AreLinkRows rules (map (λ row. cond (test row) (ending_by moment row) row) rows)
sound-ending rules test moment rows sound = kept-ending (IsLinkRow rules) (sound-ends rules) test moment rows sound

pub sound-put : (rules : LinkRules) (now others : ℕ) (rows : LinkRows) (h : HeardRr) → is_used rules.domain rules.reverses h.rr ≡ true → AreLinkRows rules rows → AreLinkRows rules (put_heard rules now others rows h)
sound-put rules now others rows h usable sound = kept-put (IsLinkRow rules) (sound-ends rules) rules now others rows h (record { usable = usable; key = refl }) sound

pub sound-beside : (rules : LinkRules) (now others : ℕ) (usable : List HeardRr) (rows : LinkRows) → AreUsable rules usable → AreLinkRows rules rows → AreLinkRows rules (heard_beside others rules rows now usable)
sound-beside rules now others usable rows are sound = kept-beside (IsLinkRow rules) (sound-ends rules) rules now others usable rows (sound-brings rules now usable are) sound

pub sound-heard : (rules : LinkRules) (now : ℕ) (hearing : List HeardRr) (rows : LinkRows) → AreLinkRows rules rows → AreLinkRows rules (heard rules rows now hearing)
sound-heard rules now hearing rows sound = sound-beside rules now 0 (usable_of rules hearing) rows (usable-of rules hearing) sound

pub sound-moment : (rules : LinkRules) (now : ℕ) (rows : LinkRows) → AreLinkRows rules rows → AreLinkRows rules (at_moment rows now)
sound-moment rules now rows sound = kept-moment (IsLinkRow rules) (sound-ends rules) now rows sound

pub sound-reconfirmed : (rules : LinkRules) (key : Key) (now : ℕ) (rows : LinkRows) → AreLinkRows rules rows → AreLinkRows rules (reconfirmed rows key now)
sound-reconfirmed rules key now rows sound = kept-reconfirmed (IsLinkRow rules) (sound-ends rules) key now rows sound
