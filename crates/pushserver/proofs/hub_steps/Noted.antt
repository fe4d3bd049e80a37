-- Old values of names that wait go through an entry.
--     CanBeKept c, can-be-kept      what a key showed before a change can be told; so it is with all changes of records that are told
--     Going cs w, going-fold      old values that tell what was sent once the changes that are left are kept, too; and all of them
use Rattle.std.proofs.Common.{◌≡◌, ℕ, ◌<◌, ◌≤◌, ◌+◌, Bool, true, false, cond, ◌||◌, List, [], ◌∷◌, map, length, Option, Some, None, is_some, refl, sym, ap, ◌∙◌, subst, arith}
use Rattle.std.specs.Prelude.{not, nat_le, IfSome, IsTrue}
use Rattle.std.specs.List.{list_all, AllByRecursion, IsDistinct}
use Rattle.std.specs.declared.cmp.Ordering.{Ordering}
use Rattle.std.specs.declared.cmp.Ordering.TheVariants.{Less, Equal, Greater}
use Rattle.std.specs.FinMap.Entries.{by_order, is_sorted-put}
use Rattle.dnsname.specs.Names.{Labels, same_name}
use Rattle.rrset.specs.KeyedRows.{Rows, row_at, put_row, is_rising}
use Rattle.rrset.specs.Records.{key_cmp, same_key}
use Rattle.rrset.specs.RecordSet.{RecordSet, only, at_name, union, shown_at, shows_its_key, shown_the_same, is_record_set, is_in_order, size_of, changes}
use Rattle.rrset.specs.declared.record.Key.{Key}
use Rattle.rrset.specs.declared.record.Shown.{Shown}
use Rattle.rrset.specs.declared.record.Changed.{Changed}
use Rattle.rrset.proofs.KeyOrder.{key_cmp_total, key_cmp-IsAntisymmetric}
use Rattle.rrset.proofs.OldValues.{told, keep, keep-told, first_before}
use Rattle.rrset.proofs.SameRows.{same_key-same}
use Rattle.zoneupdate.proofs.Filters.{holds, is_true, and-left, and-right, and-both}
use Rattle.zoneupdate.proofs.Owners.{same_name-itself, same_name-for, same_name-for_second}
use Rattle.history.specs.States.{State, records_at}
use Rattle.history.specs.declared.entry.Entry.{Entry}
use Rattle.subscr.specs.Asked.{Asked, wants}
use Rattle.coalesce.specs.Waiting.{WaitingName, OldValue, old_value, and_old_value, is_named, waits, values_of, with_old}
use Rattle.pushserver.specs.KeptHubs.{IsOldOf, queue_of}
use Rattle.push_base.specs.Limits.{max_octets_at_name}
use Rattle.dsotlv.specs.Notices.{last_ttl}
use Rattle.coalesce.specs.Laws.{is_sent_so, is_side}
use Rattle.pushserver.specs.Rows.{AreTold, is_tellable}
use Rattle.pushserver.proofs.session_steps.OldValues.{shown-there}
use Rattle.pushserver.proofs.session_steps.Names.{AreApart}

-- ---- one more old value

abbrev pub and_old : ℕ → Changed → WaitingName → WaitingName
and_old point c w = and_old_value (c.key, old_value point c) w

row_at-values : (k : Key) (values : Rows OldValue) → is_some (row_at k (values_of values)) ≡ is_some (row_at k values)
row_at-values k [] = refl
row_at-values k (e ∷ es) = by (same_key k e.0) (row_at-values k es)
  where
    by : (b : Bool) → is_some (row_at k (values_of es)) ≡ is_some (row_at k es) → is_some (cond b (Some e.1.before) (row_at k (values_of es))) ≡ is_some (cond b (Some e.1) (row_at k es))
    by true h = refl
    by false h = h

values-put : (k : Key) (v : OldValue) (values : Rows OldValue) → values_of (put_row k v values) ≡ put_row k v.before (values_of values)
values-put k v [] = refl
values-put k v (e ∷ es) = by (key_cmp k e.0) (values-put k v es)
  where
    by : (o : Ordering) → values_of (put_row k v es) ≡ put_row k v.before (values_of es)
        → values_of (by_order o ((k, v) ∷ e ∷ es) ((e.0, v) ∷ es) (e ∷ put_row k v es)) ≡ by_order o ((k, v.before) ∷ values_of (e ∷ es)) ((e.0, v.before) ∷ values_of es) ((e.0, e.1.before) ∷ put_row k v.before (values_of es))
    by Less h = refl
    by Equal h = refl
    by Greater h = ap (λ l. (e.0, e.1.before) ∷ l) h

values-kept : (point : ℕ) (c : Changed) (w : WaitingName) → values_of (and_old point c w).values ≡ keep c.key c.before (values_of w.values)
values-kept point c w = by (is_some (row_at c.key w.values)) ∙ ap (λ b. cond b (values_of w.values) (put_row c.key c.before (values_of w.values))) (sym (row_at-values c.key w.values))
  where
    by : (b : Bool) → values_of (cond b w.values (put_row c.key (old_value point c) w.values)) ≡ cond b (values_of w.values) (put_row c.key c.before (values_of w.values))
    by true = refl
    by false = values-put c.key (old_value point c) w.values

each-put : (P : Key × OldValue → Type 0) (k : Key) (v : OldValue) (values : Rows OldValue) → AllByRecursion P values → P (k, v) → AllByRecursion P (put_row k v values)
each-put P k v [] all new = (new, tt)
each-put P k v (e ∷ es) all new = by (key_cmp k e.0) refl (each-put P k v es all.1 new)
  where
    by : (o : Ordering) → key_cmp k e.0 ≡ o → AllByRecursion P (put_row k v es) → AllByRecursion P (by_order o ((k, v) ∷ e ∷ es) ((e.0, v) ∷ es) (e ∷ put_row k v es))
    by Less is rest = (new, all)
    by Equal is rest = (subst (λ (x : Key). P (x, v)) (key_cmp-IsAntisymmetric k e.0 is) new, all.1)
    by Greater is rest = (all.0, rest)

-- what holds of all old values, where it holds of a further one
each-kept : (P : Key × OldValue → Type 0) (point : ℕ) (c : Changed) (w : WaitingName) → AllByRecursion P w.values → P (c.key, old_value point c) → AllByRecursion P (and_old point c w).values
each-kept P point c w all new = by (is_some (row_at c.key w.values))
  where
    by : (b : Bool) → AllByRecursion P (cond b w.values (put_row c.key (old_value point c) w.values))
    by true = all
    by false = each-put P c.key (old_value point c) w.values all new

rising-kept : (point : ℕ) (c : Changed) (w : WaitingName) → is_rising w.values ≡ true → is_rising (and_old point c w).values ≡ true
rising-kept point c w rising = by (is_some (row_at c.key w.values))
  where
    by : (b : Bool) → is_rising (cond b w.values (put_row c.key (old_value point c) w.values)) ≡ true
    by true = rising
    by false = is_true _ (is_sorted-put key_cmp key_cmp_total c.key (old_value point c) w.values (holds _ rising))

-- ---- the changes of an entry

-- what a key showed before can be told
abbrev pub CanBeKept : Changed → Type 0
CanBeKept c = IfSome c.before (λ shown. IsTrue (is_tellable (c.key, shown)) × IsTrue (shows_its_key (c.key, shown)))

-- what is found among records of which each passes a test passes it
found-passes : (f : Key × Shown → Bool) (k : Key) (set : RecordSet) → list_all f set ≡ true → IfSome (shown_at k set) (λ shown. f (k, shown) ≡ true)
found-passes f k [] all = tt
found-passes f k (e ∷ es) all = by (same_key k e.0) refl (found-passes f k es (and-right (f e) (list_all f es) all))
  where
    by : (b : Bool) → same_key k e.0 ≡ b → IfSome (shown_at k es) (λ shown. f (k, shown) ≡ true) → IfSome (cond b (Some e.1) (shown_at k es)) (λ shown. f (k, shown) ≡ true)
    by true is rest = ap (λ (x : Key). f (x, e.1)) (same_key-same k e.0 is) ∙ and-left (f e) (list_all f es) all
    by false is rest = rest

found-told : (rows : RecordSet) → AreTold rows → (k : Key) → IfSome (shown_at k rows) (λ shown. IsTrue (is_tellable (k, shown)) × IsTrue (shows_its_key (k, shown)))
found-told rows are k = by (shown_at k rows) (shown-there k.owner k rows (same_name-itself k.owner))
  where
    there : RecordSet
    there = at_name k.owner rows

    side : is_side k.owner there ≡ true
    side = (are k.owner).0

    by : (o : Option Shown) → shown_at k there ≡ o → IfSome o (λ shown. IsTrue (is_tellable (k, shown)) × IsTrue (shows_its_key (k, shown)))
    by None is = tt
    by (Some shown) is = (
      and-both (is_sent_so k.owner (k, shown)) (nat_le shown.ttl last_ttl)
          (subst (λ (o : Option Shown). IfSome o (λ s. is_sent_so k.owner (k, s) ≡ true)) is (found-passes (is_sent_so k.owner) k there (and-right (is_record_set there) (list_all (is_sent_so k.owner) there) side)))
          (subst (λ (o : Option Shown). IfSome o (λ s. nat_le s.ttl last_ttl ≡ true)) is (found-passes (λ e. nat_le e.1.ttl last_ttl) k there (and-left (list_all (λ e. nat_le e.1.ttl last_ttl) there) (nat_le (size_of there) max_octets_at_name) (are k.owner).1))),
      subst (λ (o : Option Shown). IfSome o (λ s. shows_its_key (k, s) ≡ true)) is
          (found-passes shows_its_key k there (and-right (is_in_order there) (list_all shows_its_key there) (and-left (is_record_set there) (list_all (is_sent_so k.owner) there) side))),
    )

-- of records that are told each change can be kept
pub can-be-kept : (rows new : RecordSet) → AreTold rows → AllByRecursion CanBeKept (changes rows new)
can-be-kept rows new are = each (only (λ key. not (shown_the_same (shown_at key rows) (shown_at key new))) (union rows new))
  where
    each : (es : RecordSet) → AllByRecursion CanBeKept (map (λ e. record { key = e.0; before = shown_at e.0 rows; after = shown_at e.0 new }) es)
    each [] = tt
    each (e ∷ es) = (found-told rows are e.0, each es)

pub other_key : (name : Labels) (q k : Key) → same_name name q.owner ≡ true → same_name name k.owner ≡ false → same_key q k ≡ false
other_key name q k at away = by (same_key q k) refl
  where
    by : (b : Bool) → same_key q k ≡ b → b ≡ false
    by true is = let wrong : true ≡ false = sym at ∙ ap (λ (x : Key). same_name name x.owner) (same_key-same q k is) ∙ away in absurd cc
    by false is = refl

module _ (asked : Asked) (start : State) (history : List Entry) (new : RecordSet) where
  abbrev newest : ℕ
  newest = length history

  abbrev old : RecordSet
  old = records_at start history (length history)

  -- once these changes are kept, too, what is told of the name is what it had at its point
  pub record Going (cs : List Changed) (w : WaitingName) : Type 0 where
    pub rising : is_rising w.values ≡ true
    pub values : AllByRecursion (IsOldOf w.name) w.values
    pub older : AllByRecursion (λ e. e.1.point < newest + 1) w.values
    pub within : w.point ≤ newest
    pub leads : (q : Key) → wants q asked ≡ true → same_name w.name q.owner ≡ true → told q (values_of w.values) (first_before q cs (shown_at q new)) ≡ shown_at q (records_at start history w.point)

  -- of names that don't wait they lead back to the records before
  abbrev pub LeadBack : List Changed → List WaitingName → Type 0
  LeadBack cs queue = (q : Key) → wants q asked ≡ true → waits q.owner queue ≡ false → first_before q cs (shown_at q new) ≡ shown_at q old

  module _ (c : Changed) (cs : List Changed) (can : CanBeKept c) where
    -- a name at which the key is keeps its value
    going-here : (w : WaitingName) → is_named c.key.owner w ≡ true → Going (c ∷ cs) w → Going cs (and_old newest c w)
    going-here w named g = record {
      rising = rising-kept newest c w g.rising;
      values = each-kept (IsOldOf w.name) newest c w g.values (named, can);
      older = each-kept (λ e. e.1.point < newest + 1) newest c w g.older (omega arith);
      within = g.within;
      leads = λ q wanted at.
          ap (λ vs. told q vs (first_before q cs (shown_at q new))) (values-kept newest c w)
          ∙ keep-told q c.key c.before (values_of w.values) (first_before q cs (shown_at q new)) ∙ g.leads q wanted at;
    }

    -- any other stays
    going-other : (w : WaitingName) → is_named c.key.owner w ≡ false → Going (c ∷ cs) w → Going cs w
    going-other w other g = record {
      rising = g.rising;
      values = g.values;
      older = g.older;
      within = g.within;
      leads = λ q wanted at.
          ap (λ b. told q (values_of w.values) (cond b c.before (first_before q cs (shown_at q new)))) (sym (other_key w.name q c.key at other)) ∙ g.leads q wanted at;
    }

    -- a name that begins to wait
    going-fresh : ((q : Key) → wants q asked ≡ true → same_name c.key.owner q.owner ≡ true → first_before q (c ∷ cs) (shown_at q new) ≡ shown_at q old)
        → Going cs (record { name = c.key.owner; point = newest; values = (c.key, old_value newest c) ∷ [] })
    going-fresh back = record {
      rising = refl;
      values = ((same_name-itself c.key.owner, can), tt);
      older = (omega arith, tt);
      within = omega arith;
      leads = back;
    }

    others-stay : (w : WaitingName) (ws : List WaitingName) → is_named c.key.owner w ≡ true → AllByRecursion (λ e. same_name e.0 w.name ≡ false) (queue_of ws) → AllByRecursion (Going (c ∷ cs)) ws → AllByRecursion (Going cs) ws
    others-stay w [] named apart all = tt
    others-stay w (v ∷ ws) named apart all = (
      going-other v (sym (same_name-for_second v.name w.name c.key.owner named) ∙ apart.0) all.0,
      others-stay w ws named apart.1 all.1,
    )

    pub one-more : (ws : List WaitingName) → AllByRecursion (Going (c ∷ cs)) ws → AreApart (queue_of ws)
        → (waits c.key.owner ws ≡ false → (q : Key) → wants q asked ≡ true → same_name c.key.owner q.owner ≡ true → first_before q (c ∷ cs) (shown_at q new) ≡ shown_at q old)
        → AllByRecursion (Going cs) (with_old newest ws c)
    unfolding IsDistinct
    one-more [] all apart back = (going-fresh (back refl), tt)
    one-more (w ∷ ws) all apart back = by (is_named c.key.owner w) refl (λ b. one-more ws all.1 apart.1 b)
      where
        by : (b : Bool) → is_named c.key.owner w ≡ b
            → ((waits c.key.owner ws ≡ false → (q : Key) → wants q asked ≡ true → same_name c.key.owner q.owner ≡ true → first_before q (c ∷ cs) (shown_at q new) ≡ shown_at q old) → AllByRecursion (Going cs) (with_old newest ws c))
            → AllByRecursion (Going cs) (cond b (and_old newest c w ∷ ws) (w ∷ with_old newest ws c))
        by true named rest = (going-here w named all.0, others-stay w ws named apart.0 all.1)
        by false named rest = (going-other w named all.0, rest (λ none. back (ap (λ b. b || waits c.key.owner ws) named ∙ none)))

-- a name that doesn't wait after a change didn't before, and isn't that of the key
pub still-silent : (point : ℕ) (name : Labels) (c : Changed) (queue : List WaitingName) → waits name (with_old point queue c) ≡ false → (waits name queue ≡ false) × (same_name c.key.owner name ≡ false)
still-silent point name c [] none = (refl, by (same_name c.key.owner name) none)
  where
    by : (b : Bool) → (b || false) ≡ false → b ≡ false
    by true e = e
    by false e = refl
still-silent point name c (w ∷ ws) none = by (is_named c.key.owner w) refl none (λ h. still-silent point name c ws h)
  where
    parts : (a b : Bool) → (a || b) ≡ false → (a ≡ false) × (b ≡ false)
    parts true b e = absurd cc
    parts false b e = (refl, e)

    by : (b : Bool) → is_named c.key.owner w ≡ b → waits name (cond b (and_old point c w ∷ ws) (w ∷ with_old point ws c)) ≡ false
        → (waits name (with_old point ws c) ≡ false → (waits name ws ≡ false) × (same_name c.key.owner name ≡ false))
        → (waits name (w ∷ ws) ≡ false) × (same_name c.key.owner name ≡ false)
    by true named e rest = (e, sym (same_name-for w.name c.key.owner name named) ∙ (parts (is_named name w) (waits name ws) e).0)
    by false named e rest =
        let both = parts (is_named name w) (waits name (with_old point ws c)) e in
        let later = rest both.1 in (ap (λ b. b || waits name ws) both.0 ∙ later.0, later.1)
