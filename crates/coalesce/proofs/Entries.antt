-- A map in insertion order as the names that wait: what is found in it, and what changes of it do to them.
use Rattle.std.proofs.Common.{◌≡◌, ℕ, zero, suc, length, take, drop, Bool, true, false, cond, not, List, [], ◌∷◌, map, Some, None, refl, sym, ap, subst, ◌∙◌}
use Rattle.std.specs.Prelude.{Result, Ok, Err, OnOk, OnErr, find, filter, nat_lt, option_map, slice_get}
use Rattle.std.specs.List.{IsDistinct, AllByRecursion}
use Rattle.std.specs.Map.{keys_of, lookup, lookup_key, remove_entry, set_value}
use Rattle.std.specs.Map.Calls.{RetainsPairs}
use Rattle.indexmap.specs.IndexMap.{insert_entry}
use Rattle.dnsname.specs.Names.{Labels, same_name}
use Rattle.rrset.specs.RecordSet.{RecordSet}
use Rattle.rrset.specs.declared.record.Key.{Key}
use Rattle.coalesce.specs.Waiting.{WaitingName, OldValue, OldValues, waiting_of, names_waiting, is_named, since, first_point, without_name, and_value, and_old_value, with_old_value, values_before, old_before, before_point, CanBePacked}
use Rattle.coalesce.proofs.SameNames.{same_name-turned, same_name-joined, same_name-swapped}

abbrev pub Entry : Type 0
Entry = Labels × OldValues

-- ---- what is found

pub find-waiting : (name : Labels) (es : List Entry) (k : Labels) (v : OldValues) → lookup_key (same_name name) es ≡ Some k → lookup (same_name name) es ≡ Some v
    → find (is_named name) (names_waiting es) ≡ Some (waiting_of (k, v))
find-waiting name [] k v key value = absurd cc
find-waiting name (e ∷ es) k v key value =
    ap (λ (b : Bool). cond b (Some (waiting_of e)) (find (is_named name) (names_waiting es))) (same_name-turned e.0 name)
    ∙ by (same_name name e.0) (find-waiting name es k v) key value
  where
    by : (b : Bool) → (lookup_key (same_name name) es ≡ Some k → lookup (same_name name) es ≡ Some v → find (is_named name) (names_waiting es) ≡ Some (waiting_of (k, v)))
        → cond b (Some e.0) (lookup_key (same_name name) es) ≡ Some k → cond b (Some e.1) (lookup (same_name name) es) ≡ Some v
        → cond b (Some (waiting_of e)) (find (is_named name) (names_waiting es)) ≡ Some (waiting_of (k, v))
    by true rest key value =
        let keys : e.0 ≡ k = cc in
        let values : e.1 ≡ v = cc in
        λ i. Some (waiting_of (keys i, values i))
    by false rest key value = rest key value

pub none-waiting : (name : Labels) (es : List Entry) → lookup_key (same_name name) es ≡ None → find (is_named name) (names_waiting es) ≡ None
none-waiting name [] none = refl
none-waiting name (e ∷ es) none =
    ap (λ (b : Bool). cond b (Some (waiting_of e)) (find (is_named name) (names_waiting es))) (same_name-turned e.0 name)
    ∙ by (same_name name e.0) (none-waiting name es) none
  where
    by : (b : Bool) → (lookup_key (same_name name) es ≡ None → find (is_named name) (names_waiting es) ≡ None)
        → cond b (Some e.0) (lookup_key (same_name name) es) ≡ None → cond b (Some (waiting_of e)) (find (is_named name) (names_waiting es)) ≡ None
    by true rest none = absurd cc
    by false rest none = rest none

pub found-since : (name : Labels) (es : List Entry) → option_map (λ (v : OldValues). v.point) (lookup (same_name name) es) ≡ since (names_waiting es) name
found-since name [] = refl
found-since name (e ∷ es) =
    by (same_name name e.0) (found-since name es)
    ∙ sym (ap (λ (b : Bool). option_map (λ (w : WaitingName). w.point) (cond b (Some (waiting_of e)) (find (is_named name) (names_waiting es)))) (same_name-turned e.0 name))
  where
    by : (b : Bool) → option_map (λ (v : OldValues). v.point) (lookup (same_name name) es) ≡ since (names_waiting es) name
        → option_map (λ (v : OldValues). v.point) (cond b (Some e.1) (lookup (same_name name) es)) ≡ option_map (λ (w : WaitingName). w.point) (cond b (Some (waiting_of e)) (find (is_named name) (names_waiting es)))
    by true rest = refl
    by false rest = rest

-- ---- a name goes

-- where no entry has the name
unnamed : (name k : Labels) (es : List Entry) → same_name name k ≡ true → AllByRecursion (λ y. same_name k y ≡ false) (keys_of es) → without_name name (names_waiting es) ≡ names_waiting es
unnamed name k [] same apart = refl
unnamed name k (e ∷ es) same apart =
    ap (λ (b : Bool). cond (not b) (waiting_of e ∷ without_name name (names_waiting es)) (without_name name (names_waiting es))) other
    ∙ ap (λ (l : List WaitingName). waiting_of e ∷ l) (unnamed name k es same apart.1)
  where
    other : is_named name (waiting_of e) ≡ false
    other = same_name-turned e.0 name ∙ by (same_name name e.0) refl
      where
        by : (t : Bool) → same_name name e.0 ≡ t → t ≡ false
        by true g = sym (same_name-joined k name e.0 (same_name-swapped name k same) g) ∙ apart.0
        by false g = refl

pub removed : (name : Labels) (es : List Entry) → IsDistinct same_name (keys_of es) → names_waiting (remove_entry (same_name name) es) ≡ without_name name (names_waiting es)
unfolding IsDistinct
removed name [] apart = refl
removed name (e ∷ es) apart =
    by (same_name name e.0) refl (removed name es apart.1)
    ∙ sym (ap (λ (b : Bool). cond (not b) (waiting_of e ∷ without_name name (names_waiting es)) (without_name name (names_waiting es))) (same_name-turned e.0 name))
  where
    by : (b : Bool) → same_name name e.0 ≡ b → names_waiting (remove_entry (same_name name) es) ≡ without_name name (names_waiting es)
        → names_waiting (cond b es (e ∷ remove_entry (same_name name) es)) ≡ cond (not b) (waiting_of e ∷ without_name name (names_waiting es)) (without_name name (names_waiting es))
    by true same rest = sym (unnamed name e.0 es same apart.0)
    by false same rest = ap (λ (l : List WaitingName). waiting_of e ∷ l) rest

-- ---- an old value is kept

-- what is kept of a name, with one more old value
abbrev pub kept_with : Key × OldValue → OldValues → OldValues
kept_with old v = record { point = v.point; values = and_value old v.values }

pub note-there : (old : Key × OldValue) (es : List Entry) (v : OldValues) → lookup (same_name old.0.owner) es ≡ Some v
    → names_waiting (set_value (same_name old.0.owner) es (kept_with old v)) ≡ with_old_value (names_waiting es) old
note-there old [] v found = absurd cc
note-there old (e ∷ es) v found =
    by (same_name old.0.owner e.0) (note-there old es v) found
    ∙ sym (ap (λ (b : Bool). cond b (and_old_value old (waiting_of e) ∷ names_waiting es) (waiting_of e ∷ with_old_value (names_waiting es) old)) (same_name-turned e.0 old.0.owner))
  where
    by : (b : Bool) → (lookup (same_name old.0.owner) es ≡ Some v → names_waiting (set_value (same_name old.0.owner) es (kept_with old v)) ≡ with_old_value (names_waiting es) old)
        → cond b (Some e.1) (lookup (same_name old.0.owner) es) ≡ Some v
        → names_waiting (cond b ((e.0, kept_with old v) ∷ es) (e ∷ set_value (same_name old.0.owner) es (kept_with old v))) ≡ cond b (and_old_value old (waiting_of e) ∷ names_waiting es) (waiting_of e ∷ with_old_value (names_waiting es) old)
    by true rest found = let same : e.1 ≡ v = cc in ap (λ (x : OldValues). waiting_of (e.0, kept_with old x) ∷ names_waiting es) (sym same)
    by false rest found = ap (λ (l : List WaitingName). waiting_of e ∷ l) (rest found)

pub note-new : (old : Key × OldValue) (es : List Entry) → lookup (same_name old.0.owner) es ≡ None
    → names_waiting (insert_entry same_name es old.0.owner (record { point = old.1.point; values = old ∷ [] })) ≡ with_old_value (names_waiting es) old
note-new old [] none = refl
note-new old (e ∷ es) none =
    by (same_name old.0.owner e.0) (note-new old es) none
    ∙ sym (ap (λ (b : Bool). cond b (and_old_value old (waiting_of e) ∷ names_waiting es) (waiting_of e ∷ with_old_value (names_waiting es) old)) (same_name-turned e.0 old.0.owner))
  where
    first : OldValues
    first = record { point = old.1.point; values = old ∷ [] }

    by : (b : Bool) → (lookup (same_name old.0.owner) es ≡ None → names_waiting (insert_entry same_name es old.0.owner first) ≡ with_old_value (names_waiting es) old)
        → cond b (Some e.1) (lookup (same_name old.0.owner) es) ≡ None
        → names_waiting (cond b ((e.0, first) ∷ es) (e ∷ insert_entry same_name es old.0.owner first)) ≡ cond b (and_old_value old (waiting_of e) ∷ names_waiting es) (waiting_of e ∷ with_old_value (names_waiting es) old)
    by true rest none = absurd cc
    by false rest none = ap (λ (l : List WaitingName). waiting_of e ∷ l) (rest none)

-- a value that is written back as it was leaves the map
pub same-there : (test : Labels → Bool) (es : List Entry) (v : OldValues) → lookup test es ≡ Some v → set_value test es v ≡ es
same-there test [] v found = absurd cc
same-there test (e ∷ es) v found = by (test e.0) (same-there test es v) found
  where
    by : (b : Bool) → (lookup test es ≡ Some v → set_value test es v ≡ es) → cond b (Some e.1) (lookup test es) ≡ Some v → cond b ((e.0, v) ∷ es) (e ∷ set_value test es v) ≡ e ∷ es
    by true rest found = let same : e.1 ≡ v = cc in ap (λ (x : OldValues). (e.0, x) ∷ es) (sym same)
    by false rest found = ap (λ (l : List Entry). e ∷ l) (rest found)

pub on_ok : {A E P Q : Type 0} (r : Result A E) → (P → Q) → OnOk r P → OnOk r Q
on_ok (Ok x) f p = f p
on_ok (Err e) f p = tt

pub on_err : {A E P Q : Type 0} (r : Result A E) → (P → Q) → OnErr r P → OnErr r Q
on_err (Ok x) f p = tt
on_err (Err e) f p = f p

-- ---- what was kept at a point or a later one goes

pub retained : {F : Type 0} (T : F → Labels → OldValues → Bool → OldValues → F → Type 0) (point : ℕ) (f : F)
    → ((k : Labels) (v : OldValues) (b : Bool) (w : OldValues) (g : F) → T f k v b w g → (b ≡ nat_lt v.point point) × (w ≡ record { point = v.point; values = values_before point v.values }) × (g ≡ f))
    → (es kept : List Entry) → RetainsPairs T f es kept → names_waiting kept ≡ before_point point (names_waiting es)
retained T point f says [] kept h = ap names_waiting h
retained T point f says (e ∷ es) kept h =
    let s = says e.0 e.1 h.0 h.1 h.2 h.4 in
    let rest = retained T point f says es h.3 (subst (λ g. RetainsPairs T g es h.3) s.2 h.5) in
    ap names_waiting h.6
    ∙ by h.0 (nat_lt e.1.point point) s.0 h.1 s.1 h.3 rest
  where
    by : (b c : Bool) → b ≡ c → (w : OldValues) → w ≡ record { point = e.1.point; values = values_before point e.1.values } → (ds : List Entry) → names_waiting ds ≡ before_point point (names_waiting es)
        → names_waiting (cond b ((e.0, w) ∷ ds) ds) ≡ map (old_before point) (cond c (waiting_of e ∷ filter (λ v. nat_lt v.point point) (names_waiting es)) (filter (λ v. nat_lt v.point point) (names_waiting es)))
    by true true same w is ds rest = λ i. waiting_of (e.0, is i) ∷ rest i
    by true false same w is ds rest = absurd cc
    by false true same w is ds rest = absurd cc
    by false false same w is ds rest = rest

-- ---- the first of them

pub count-waiting : (es : List Entry) → length (names_waiting es) ≡ length es
count-waiting [] = refl
count-waiting (e ∷ es) = ap suc (count-waiting es)

pub names-taken : (n : ℕ) (es : List Entry) → names_waiting (take n es) ≡ take n (names_waiting es)
names-taken zero es = refl
names-taken (suc n) [] = refl
names-taken (suc n) (e ∷ es) = ap (λ (l : List WaitingName). waiting_of e ∷ l) (names-taken n es)

pub names-dropped : (n : ℕ) (es : List Entry) → names_waiting (drop n es) ≡ drop n (names_waiting es)
names-dropped zero es = refl
names-dropped (suc n) [] = refl
names-dropped (suc n) (e ∷ es) = names-dropped n es

pub can-first : (rows : RecordSet) (n : ℕ) (queue : List WaitingName) → CanBePacked rows queue → CanBePacked rows (take n queue)
can-first rows zero queue h = tt
can-first rows (suc n) [] h = tt
can-first rows (suc n) (w ∷ ws) h = (h.0, can-first rows n ws h.1)

-- the point of the first entry is that of the first name
pub first-waiting : (entries : List Entry) → option_map (λ (e : Entry). e.1.point) (slice_get entries 0) ≡ first_point (names_waiting entries)
first-waiting [] = refl
first-waiting (e ∷ es) = refl
