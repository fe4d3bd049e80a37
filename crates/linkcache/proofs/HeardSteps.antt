-- A hearing, record by record.
use Rattle.std.proofs.Common.{◌≡◌, ℕ, ◌+◌, ◌<◌, Bool, true, false, cond, ◌&&◌, ◌||◌, T, nat_lt, List, [], ◌∷◌, drop, filter, map, fold, length, get_or, Option, Some, None, is_some, refl, sym, ap, subst, ◌∙◌}
use Rattle.std.specs.Prelude.{◌==◌, if◌then◌else◌}
use Rattle.std.specs.Option.{MatchOption}
use Rattle.std.proofs.lemmas.List.{drop_more}
use Rattle.rrset.specs.declared.record.Key.{Key}
use Rattle.rrset.specs.declared.record.HeardRr.{HeardRr}
use Rattle.rrset.specs.Records.{key_of, same_key}
use Rattle.rrset.specs.Tables.{HasLowerOwner, HaveLowerOwners}
use Rattle.rrset.specs.KeyedRows.{is_rising, put_row, row_at}
use Rattle.reversemap.specs.BothKinds.{is_used}
use Rattle.linkcache.specs.declared.row.HeardRow.{HeardRow}
use Rattle.linkcache.specs.Rows.{LinkRows, ttl_of, second, ending_by, has_key, row_has_room, heard_at, put_heard, is_of_set, flushed_by, usable_of}
use Rattle.linkcache.specs.Sound.{AreLinkRows}
use Rattle.linkcache.proofs.KeyedParts.{Rising, KeepsKeys, rising-map, rising-put}
use Rattle.linkcache.proofs.SoundSteps.{sound-put}
use Rattle.linkcache.specs.declared.rules.LinkRules.{LinkRules}

-- a key has a row where one is found
pub has-found : (key : Key) (rows : LinkRows) → is_some (row_at key rows) ≡ has_key key rows
has-found key [] = refl
has-found key (e ∷ es) = by (same_key key e.0) (has-found key es)
  where
    by : (b : Bool) → is_some (row_at key es) ≡ has_key key es → is_some (cond b (Some e.1) (row_at key es)) ≡ (b || has_key key es)
    by true h = refl
    by false h = h

pub has-matched : {A : Type 0} (now : A → HeardRow) (key : Key) (rows : LinkRows) (o : Option A) → MatchOption o (row_at key rows ≡ None) (λ a. row_at key rows ≡ Some (now a)) → is_some o ≡ has_key key rows
has-matched now key rows None h = sym (ap is_some h) ∙ has-found key rows
has-matched now key rows (Some a) h = sym (ap is_some h) ∙ has-found key rows

-- ---- the records from a place on

module _ (rules : LinkRules) (hs : List HeardRr) (i : ℕ) (h : HeardRr) (within : i < length hs) (is : h ≡ get_or hs i h) where
  from : usable_of rules (drop i hs) ≡ cond (is_used rules.domain rules.reverses h.rr) (h ∷ usable_of rules (drop (i + 1) hs)) (usable_of rules (drop (i + 1) hs))
  from = ap (usable_of rules) (drop_more hs i h within) ∙ ap (λ x. usable_of rules (x ∷ drop (i + 1) hs)) (sym is)

  pub usable-more : is_used rules.domain rules.reverses h.rr ≡ true → usable_of rules (drop i hs) ≡ h ∷ usable_of rules (drop (i + 1) hs)
  usable-more e = from ∙ ap (λ b. cond b (h ∷ usable_of rules (drop (i + 1) hs)) (usable_of rules (drop (i + 1) hs))) e

  pub usable-skip : is_used rules.domain rules.reverses h.rr ≡ false → usable_of rules (drop i hs) ≡ usable_of rules (drop (i + 1) hs)
  usable-skip e = from ∙ ap (λ b. cond b (h ∷ usable_of rules (drop (i + 1) hs)) (usable_of rules (drop (i + 1) hs))) e

  abbrev pub flushing : List HeardRr → List HeardRr
  flushing xs = filter (λ h. h.flush) (usable_of rules xs)

  pub flushing-more : (h.flush && is_used rules.domain rules.reverses h.rr) ≡ true → flushing (drop i hs) ≡ h ∷ flushing (drop (i + 1) hs)
  flushing-more e = ap (λ (l : List HeardRr). filter (λ h. h.flush) l) from ∙ by h.flush (is_used rules.domain rules.reverses h.rr) refl e
    where
      by : (f u : Bool) → h.flush ≡ f → (f && u) ≡ true → filter (λ h. h.flush) (cond u (h ∷ usable_of rules (drop (i + 1) hs)) (usable_of rules (drop (i + 1) hs))) ≡ h ∷ flushing (drop (i + 1) hs)
      by true true f-is both = ap (λ b. cond b (h ∷ flushing (drop (i + 1) hs)) (flushing (drop (i + 1) hs))) f-is
      by true false f-is both = absurd cc
      by false u f-is both = absurd cc

  pub flushing-skip : (h.flush && is_used rules.domain rules.reverses h.rr) ≡ false → flushing (drop i hs) ≡ flushing (drop (i + 1) hs)
  flushing-skip e = ap (λ (l : List HeardRr). filter (λ h. h.flush) l) from ∙ by h.flush (is_used rules.domain rules.reverses h.rr) refl e
    where
      by : (f u : Bool) → h.flush ≡ f → (f && u) ≡ false → filter (λ h. h.flush) (cond u (h ∷ usable_of rules (drop (i + 1) hs)) (usable_of rules (drop (i + 1) hs))) ≡ flushing (drop (i + 1) hs)
      by true true f-is both = absurd cc
      by true false f-is both = refl
      by false true f-is both = ap (λ b. cond b (h ∷ flushing (drop (i + 1) hs)) (flushing (drop (i + 1) hs))) f-is
      by false false f-is both = refl

-- ---- the first pass, record by record

pub rising-put_heard : (rules : LinkRules) (now others : ℕ) (rows : LinkRows) (h : HeardRr) → Rising rows → Rising (put_heard rules now others rows h)
rising-put_heard rules now others rows h rising = by (ttl_of h == 0) (has_key k rows || row_has_room rules others rows h.rr)
  where
    k : Key
    k = key_of h.rr

    keeps : KeepsKeys (λ (row : Key × HeardRow). cond (same_key k row.0) (ending_by (now + second) row) row)
    keeps e = one (same_key k e.0)
      where
        one : (b : Bool) → (cond b (ending_by (now + second) e) e).0 ≡ e.0
        one true = refl
        one false = refl

    by : (t b : Bool) → Rising (if t then map (λ row. cond (same_key k row.0) (ending_by (now + second) row) row) rows else if b then put_row k (heard_at now h) rows else rows)
    by true b = rising-map (λ (row : Key × HeardRow). cond (same_key k row.0) (ending_by (now + second) row) row) keeps rows rising
    by false true = rising-put k (heard_at now h) rows rising
    by false false = rising

-- the rows so far, and what is left to be heard
pub record PutSoFar (rules : LinkRules) (now others : ℕ) (rows work : LinkRows) (left all : List HeardRr) : Type 0 where
  pub order : is_rising work ≡ true
  pub sound : AreLinkRows rules work
  pub rest : fold (put_heard rules now others) work (usable_of rules left) ≡ fold (put_heard rules now others) rows (usable_of rules all)

is_true : (b : Bool) → T b → b ≡ true
is_true true h = refl
is_true false h = absurd h

module _ (rules : LinkRules) (now others : ℕ) (rows : LinkRows) (hs : List HeardRr) (i : ℕ) (h : HeardRr) (within : i < length hs) (is : h ≡ get_or hs i h) where
  pub put_more : (work later : LinkRows) → is_used rules.domain rules.reverses h.rr ≡ true → PutSoFar rules now others rows work (drop i hs) hs → later ≡ put_heard rules now others work h → PutSoFar rules now others rows later (drop (i + 1) hs) hs
  put_more work later usable so_far later-is = record {
    order = is_true (is_rising later) (subst Rising (sym later-is) (rising-put_heard rules now others work h (subst T (sym so_far.order) tt)));
    sound = subst (AreLinkRows rules) (sym later-is) (sound-put rules now others work h usable so_far.sound);
    rest = ap (λ (l : LinkRows). fold (put_heard rules now others) l (usable_of rules (drop (i + 1) hs))) later-is ∙ ap (fold (put_heard rules now others) work) (sym (usable-more rules hs i h within is usable)) ∙ so_far.rest;
  }

  pub put_skip : (work : LinkRows) → is_used rules.domain rules.reverses h.rr ≡ false → PutSoFar rules now others rows work (drop i hs) hs → PutSoFar rules now others rows work (drop (i + 1) hs) hs
  put_skip work usable so_far = record {
    order = so_far.order;
    sound = so_far.sound;
    rest = ap (fold (put_heard rules now others) work) (sym (usable-skip rules hs i h within is usable)) ∙ so_far.rest;
  }

-- ---- keys stay in lower case

pub lower-map : (f : Key × HeardRow → Key × HeardRow) → KeepsKeys f → (rows : LinkRows) → HaveLowerOwners rows → HaveLowerOwners (map f rows)
lower-map f keeps [] h = tt
lower-map f keeps (e ∷ es) h = (subst HasLowerOwner (sym (keeps e)) h.0, lower-map f keeps es h.1)

-- ---- the second pass

abbrev flushes : ℕ → HeardRr → Key × HeardRow → Key × HeardRow
flushes now h row = cond (is_of_set h.rr row && nat_lt (row.1.heard + second) now) (ending_by (now + second) row) row

flushes-keep : (now : ℕ) (h : HeardRr) → KeepsKeys (flushes now h)
flushes-keep now h e = by (is_of_set h.rr e && nat_lt (e.1.heard + second) now)
  where
    by : (b : Bool) → (cond b (ending_by (now + second) e) e).0 ≡ e.0
    by true = refl
    by false = refl

pub flushed-order : (now : ℕ) (h : HeardRr) (rows later : LinkRows) → is_rising rows ≡ true → later ≡ flushed_by now rows h → is_rising later ≡ true
flushed-order now h rows later order is = ap is_rising is ∙ is_true (is_rising (flushed_by now rows h)) (rising-map (flushes now h) (flushes-keep now h) rows (subst T (sym order) tt))

pub flushed-lower : (now : ℕ) (h : HeardRr) (rows later : LinkRows) → HaveLowerOwners rows → later ≡ flushed_by now rows h → HaveLowerOwners later
flushed-lower now h rows later low is = subst (λ (l : LinkRows). HaveLowerOwners l) (sym is) (lower-map (flushes now h) (flushes-keep now h) rows low)
