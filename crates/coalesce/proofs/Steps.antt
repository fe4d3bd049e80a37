-- A net is what is told record by record: its removals in the order of the records that were there, and its additions.
use Rattle.std.proofs.Common.{◌≡◌, ℕ, ◌<◌, ◌≤◌, Bool, true, false, cond, not, List, [], ◌∷◌, ◌++◌, map, Some, None, is_some, append_assoc, ◌≢◌, true≢false, subst, sym, ◌∙◌, ap, refl, arith}
use Rattle.std.specs.Prelude.{filter, flat_map, ◌==◌}
use Rattle.std.specs.List.{dedup_from, AllByRecursion}
use Rattle.std.proofs.lemmas.Bool.{eq-eqb, eqb-true}
use Rattle.push_base.specs.Cases.{is_empty}
use Rattle.dnsname.specs.Names.{Labels}
use Rattle.rrset.specs.Kinds.{in_class}
use Rattle.rrset.specs.Records.{rr_of}
use Rattle.rrset.specs.RecordSet.{RecordSet, shown_at, shown_the_same}
use Rattle.rrset.specs.declared.record.Key.{Key}
use Rattle.rrset.specs.declared.record.Shown.{Shown}
use Rattle.dsotlv.specs.Notices.{remove_one_ttl}
use Rattle.dsotlv.specs.declared.message.Notice.{Notice}
use Rattle.dsotlv.specs.declared.message.Notice.TheVariants.{Add, RemoveOne, RemoveSet}
use Rattle.coalesce.specs.Net.{of_kind, kinds_of, is_missing, removals_of_kind, additions, added_or_changed}
use Rattle.coalesce.specs.Steps.{removal_of, removal_notices, removals_behind, added, additions_to}
use Rattle.coalesce.specs.declared.removing.Removal.TheVariants.{Nothing, Set, One}

-- ---- additions

pub additions_to-is : (old new : RecordSet) → additions_to old new ≡ additions (added_or_changed old new)
additions_to-is old [] = refl
additions_to-is old (e ∷ es) = by (shown_the_same (shown_at e.0 old) (Some e.1)) (additions_to-is old es)
  where
    by : (b : Bool) → additions_to old es ≡ additions (added_or_changed old es)
        → cond b [] (added e) ++ additions_to old es ≡ additions (cond (not b) (e ∷ added_or_changed old es) (added_or_changed old es))
    by true rest = rest
    by false rest = ap (λ l. Add (rr_of e.0 e.1) ∷ l) rest

-- ---- kinds that rise

-- each kind is at least the one before it
abbrev pub RiseFrom : ℕ → RecordSet → Type 0
RiseFrom k [] = Unit {0}
RiseFrom k (e ∷ es) = (k ≤ e.0.kind) × RiseFrom e.0.kind es

pub rise_lower : (k l : ℕ) (es : RecordSet) → k ≤ l → RiseFrom l es → RiseFrom k es
rise_lower k l [] h r = tt
rise_lower k l (e ∷ es) h r = (omega arith, r.1)

-- numbers apart
above_not : (a b : ℕ) → a < b → (a == b) ≡ false
above_not a b h = by (a == b) refl
  where
    by : (t : Bool) → (a == b) ≡ t → t ≡ false
    by true e = let is = eqb-true a b e in absurd (omega arith)
    by false e = refl

below_not : (a b : ℕ) → b < a → (b == a) ≡ false
below_not a b h = above_not b a h

same_not : (a b : ℕ) → a < b → (b == a) ≡ false
same_not a b h = by (b == a) refl
  where
    by : (t : Bool) → (b == a) ≡ t → t ≡ false
    by true e = let is = eqb-true b a e in absurd (omega arith)
    by false e = refl

of_kind-above : (k l : ℕ) (es : RecordSet) → k < l → RiseFrom l es → of_kind k es ≡ []
of_kind-above k l [] h r = refl
of_kind-above k l (e ∷ es) h r =
    ap (λ (b : Bool). cond b (e ∷ of_kind k es) (of_kind k es)) (same_not k e.0.kind (omega arith))
    ∙ of_kind-above k e.0.kind es (omega arith) r.1

-- ---- removals of single records

abbrev singles : RecordSet → RecordSet → List Notice
singles new es = map (λ e. RemoveOne (record (rr_of e.0 e.1) { ttl = remove_one_ttl })) (filter (is_missing new) es)

-- what is told of the records of a kind behind the first
abbrev later : RecordSet → ℕ → RecordSet → List Notice
later new k es = cond (is_empty (of_kind k new)) [] (singles new (of_kind k es))

-- a record of the same kind
later-same : (name : Labels) (new : RecordSet) (k : ℕ) (e : Key × Shown) (es : RecordSet) → e.0.kind ≡ k
    → later new k (e ∷ es) ≡ removal_notices name e (removal_of new (Some k) e.0) ++ later new k es
later-same name new k e es same =
    ap (λ (b : Bool). cond (is_empty (of_kind k new)) [] (singles new (cond b (e ∷ of_kind k es) (of_kind k es)))) (eq-eqb e.0.kind k same)
    ∙ by (is_empty (of_kind k new)) (is_some (shown_at e.0 new))
    ∙ sym (ap (λ (b : Bool). removal_notices name e (cond (is_empty (of_kind e.0.kind new)) (cond b Nothing Set) (cond (is_some (shown_at e.0 new)) Nothing One)) ++ later new k es) (eq-eqb k e.0.kind (sym same))
    ∙ ap (λ (m : ℕ). removal_notices name e (cond (is_empty (of_kind m new)) Nothing (cond (is_some (shown_at e.0 new)) Nothing One)) ++ later new k es) same)
  where
    by : (gone there : Bool) → cond gone [] (map (λ e. RemoveOne (record (rr_of e.0 e.1) { ttl = remove_one_ttl })) (cond (not there) (e ∷ filter (is_missing new) (of_kind k es)) (filter (is_missing new) (of_kind k es))))
        ≡ removal_notices name e (cond gone Nothing (cond there Nothing One)) ++ cond gone [] (singles new (of_kind k es))
    by true there = refl
    by false true = refl
    by false false = refl

-- the first record of a kind
of_first : (name : Labels) (new : RecordSet) (e : Key × Shown) (es : RecordSet) (same : Bool) → same ≡ false
    → removals_of_kind name (e ∷ es) new e.0.kind
    ≡ removal_notices name e (cond (is_empty (of_kind e.0.kind new)) (cond same Nothing Set) (cond (is_some (shown_at e.0 new)) Nothing One)) ++ later new e.0.kind es
of_first name new e es same other =
    ap (λ (b : Bool). cond (is_empty (of_kind e.0.kind new)) (RemoveSet name in_class e.0.kind ∷ []) (singles new (cond b (e ∷ of_kind e.0.kind es) (of_kind e.0.kind es)))) (eq-eqb e.0.kind e.0.kind refl)
    ∙ by (is_empty (of_kind e.0.kind new)) (is_some (shown_at e.0 new))
    ∙ sym (ap (λ (b : Bool). removal_notices name e (cond (is_empty (of_kind e.0.kind new)) (cond b Nothing Set) (cond (is_some (shown_at e.0 new)) Nothing One)) ++ later new e.0.kind es) other)
  where
    by : (gone there : Bool) → cond gone (RemoveSet name in_class e.0.kind ∷ []) (map (λ e. RemoveOne (record (rr_of e.0 e.1) { ttl = remove_one_ttl })) (cond (not there) (e ∷ filter (is_missing new) (of_kind e.0.kind es)) (filter (is_missing new) (of_kind e.0.kind es))))
        ≡ removal_notices name e (cond gone Set (cond there Nothing One)) ++ cond gone [] (singles new (of_kind e.0.kind es))
    by true there = refl
    by false true = refl
    by false false = refl

-- ---- all kinds

abbrev kinds : RecordSet → List ℕ
kinds es = map (λ e. e.0.kind) es

-- the kinds behind k, without k itself
abbrev behind : ℕ → List ℕ → List ℕ
behind k [] = []
behind k (x ∷ xs) = cond (x == k) (behind k xs) (dedup_from (λ a b. a == b) x xs)

dedup_from-behind : (k : ℕ) (xs : List ℕ) → dedup_from (λ a b. a == b) k xs ≡ k ∷ behind k xs
dedup_from-behind k [] = refl
dedup_from-behind k (x ∷ xs) = by (x == k) (dedup_from-behind k xs)
  where
    by : (b : Bool) → dedup_from (λ a b. a == b) k xs ≡ k ∷ behind k xs → cond b (dedup_from (λ a b. a == b) k xs) (k ∷ dedup_from (λ a b. a == b) x xs) ≡ k ∷ cond b (behind k xs) (dedup_from (λ a b. a == b) x xs)
    by true rest = rest
    by false rest = refl

abbrev Above : ℕ → List ℕ → Type 0
Above k xs = AllByRecursion (λ x. k < x) xs

above-lower : (k l : ℕ) (xs : List ℕ) → k ≤ l → Above l xs → Above k xs
above-lower k l [] h a = tt
above-lower k l (x ∷ xs) h a = (below k l x h a.0, above-lower k l xs h a.1)
  where
    below : (k l x : ℕ) → k ≤ l → l < x → k < x
    below k l x h a = omega arith

-- a kind that is at least k and isn't k is above it
next_above : (k x : ℕ) → k ≤ x → (x == k) ≡ false → k < x
next_above k x h other = by (x == k) other refl
  where
    by : (b : Bool) → b ≡ false → (x == k) ≡ b → k < x
    by b other is = let apart : x ≢ k = λ same. absurd (true≢false (sym (eq-eqb x k same) ∙ is ∙ other)) in omega arith

behind-above : (k : ℕ) (es : RecordSet) → RiseFrom k es → Above k (behind k (kinds es))
behind-above k [] r = tt
behind-above k (e ∷ es) r = by (e.0.kind == k) refl (behind-above k es (rise_lower k e.0.kind es r.0 r.1)) (behind-above e.0.kind es r.1)
  where
    by : (b : Bool) → (e.0.kind == k) ≡ b → Above k (behind k (kinds es)) → Above e.0.kind (behind e.0.kind (kinds es))
        → Above k (cond b (behind k (kinds es)) (dedup_from (λ a b. a == b) e.0.kind (kinds es)))
    by true is here there = here
    by false is here there =
        subst (Above k) (sym (dedup_from-behind e.0.kind (kinds es)))
        (next_above k e.0.kind r.0 is, above-lower k e.0.kind (behind e.0.kind (kinds es)) r.0 there)

-- a record of a lower kind doesn't count for the kinds behind it
removals-above : (name : Labels) (new : RecordSet) (e : Key × Shown) (es : RecordSet) (ks : List ℕ) → Above e.0.kind ks
    → flat_map (removals_of_kind name (e ∷ es) new) ks ≡ flat_map (removals_of_kind name es new) ks
removals-above name new e es [] a = refl
removals-above name new e es (k ∷ ks) a =
    ap (λ (b : Bool). cond (is_empty (of_kind k new)) (RemoveSet name in_class k ∷ []) (singles new (cond b (e ∷ of_kind k es) (of_kind k es))) ++ flat_map (removals_of_kind name (e ∷ es) new) ks) (below_not k e.0.kind a.0)
    ∙ ap (λ l. removals_of_kind name es new k ++ l) (removals-above name new e es ks a.1)

-- the removals from the first record of a kind on
from_first : (name : Labels) (new : RecordSet) (e : Key × Shown) (es : RecordSet) (same : Bool) → same ≡ false → RiseFrom e.0.kind es
    → removals_behind name new (Some e.0.kind) es ≡ later new e.0.kind es ++ flat_map (removals_of_kind name es new) (behind e.0.kind (kinds es))
    → flat_map (removals_of_kind name (e ∷ es) new) (dedup_from (λ a b. a == b) e.0.kind (kinds es))
    ≡ removal_notices name e (cond (is_empty (of_kind e.0.kind new)) (cond same Nothing Set) (cond (is_some (shown_at e.0 new)) Nothing One)) ++ removals_behind name new (Some e.0.kind) es
from_first name new e es same other rise rest =
    ap (flat_map (removals_of_kind name (e ∷ es) new)) (dedup_from-behind e.0.kind (kinds es))
    ∙ ap (λ l. removals_of_kind name (e ∷ es) new e.0.kind ++ l) (removals-above name new e es (behind e.0.kind (kinds es)) (behind-above e.0.kind es rise))
    ∙ ap (λ l. l ++ flat_map (removals_of_kind name es new) (behind e.0.kind (kinds es))) (of_first name new e es same other)
    ∙ append_assoc (removal_notices name e (cond (is_empty (of_kind e.0.kind new)) (cond same Nothing Set) (cond (is_some (shown_at e.0 new)) Nothing One))) (later new e.0.kind es) (flat_map (removals_of_kind name es new) (behind e.0.kind (kinds es)))
    ∙ ap (λ l. removal_notices name e (cond (is_empty (of_kind e.0.kind new)) (cond same Nothing Set) (cond (is_some (shown_at e.0 new)) Nothing One)) ++ l) (sym rest)

later-above : (new : RecordSet) (k : ℕ) (es : RecordSet) → of_kind k es ≡ [] → later new k es ≡ []
later-above new k es none = ap (λ l. cond (is_empty (of_kind k new)) [] (singles new l)) none ∙ by (is_empty (of_kind k new))
  where
    by : (b : Bool) → cond {A = List Notice} b [] [] ≡ []
    by true = refl
    by false = refl

removals_behind-some : (name : Labels) (new : RecordSet) (k : ℕ) (es : RecordSet) → RiseFrom k es
    → removals_behind name new (Some k) es ≡ later new k es ++ flat_map (removals_of_kind name es new) (behind k (kinds es))
removals_behind-some name new k [] r = sym (ap (λ (l : List Notice). l ++ []) (later-above new k [] refl))
removals_behind-some name new k (e ∷ es) r = by (e.0.kind == k) refl (removals_behind-some name new e.0.kind es r.1)
  where
    by : (b : Bool) → (e.0.kind == k) ≡ b
        → removals_behind name new (Some e.0.kind) es ≡ later new e.0.kind es ++ flat_map (removals_of_kind name es new) (behind e.0.kind (kinds es))
        → removal_notices name e (removal_of new (Some k) e.0) ++ removals_behind name new (Some e.0.kind) es
        ≡ later new k (e ∷ es) ++ flat_map (removals_of_kind name (e ∷ es) new) (cond b (behind k (kinds es)) (dedup_from (λ a b. a == b) e.0.kind (kinds es)))
    by true is rest =
        let same = eqb-true e.0.kind k is in
        ap (λ l. removal_notices name e (removal_of new (Some k) e.0) ++ l) (rest ∙ ap (λ (m : ℕ). later new m es ++ flat_map (removals_of_kind name es new) (behind m (kinds es))) same)
        ∙ sym (append_assoc (removal_notices name e (removal_of new (Some k) e.0)) (later new k es) (flat_map (removals_of_kind name es new) (behind k (kinds es))))
        ∙ ap (λ l. l ++ flat_map (removals_of_kind name es new) (behind k (kinds es))) (sym (later-same name new k e es same))
        ∙ ap (λ l. later new k (e ∷ es) ++ l) (sym (removals-above name new e es (behind k (kinds es)) (subst (λ m. Above m (behind k (kinds es))) (sym same) (behind-above k es (subst (λ m. RiseFrom m es) same r.1)))))
    by false is rest =
        let above = next_above k e.0.kind r.0 is in
        sym (from_first name new e es (k == e.0.kind) (above_not k e.0.kind above) r.1 rest)
        ∙ sym (ap (λ l. l ++ flat_map (removals_of_kind name (e ∷ es) new) (dedup_from (λ a b. a == b) e.0.kind (kinds es))) (later-above new k (e ∷ es) (of_kind-above k e.0.kind (e ∷ es) above (omega arith, r.1))))

-- Record by record the removals are those of each kind.
pub removals_behind-is : (name : Labels) (new : RecordSet) (old : RecordSet) → RiseFrom 0 old
    → removals_behind name new None old ≡ flat_map (removals_of_kind name old new) (kinds_of old)
removals_behind-is name new [] r = refl
removals_behind-is name new (e ∷ es) r = sym (from_first name new e es false refl r.1 (removals_behind-some name new e.0.kind es r.1))
