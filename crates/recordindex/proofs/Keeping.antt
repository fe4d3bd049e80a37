-- What is kept stays sound: each place is a name's, and counts the names that end in it.
use Rattle.std.proofs.Common.{◌≡◌, ℕ, ◌+◌, ◌≤◌, Bool, true, false, cond, List, [], ◌∷◌, length, Option, Some, None, refl, sym, ap, ◌∙◌, arith, Vec, Global}
use Rattle.std.specs.Prelude.{is_some}
use Rattle.std.specs.BTreeMap.{insert_entry}
use Rattle.std.specs.List.{AllByRecursion, list_any}
use Rattle.std.specs.Ordering.{is_eq, match_ordering}
use Rattle.std.specs.declared.cmp.Ordering.{Ordering}
use Rattle.std.specs.declared.cmp.Ordering.TheVariants.{Less, Equal, Greater}
use Rattle.dnsname.specs.Names.{Labels, ends_in, lower, octets}
use Rattle.recordindex.specs.Endings.{Agrees, AreLow, AreLowerNames, Exceeds, IsLowerName, Kept, Lacks, Reserves, above_of, counted_at, ending_at, is_among, is_used, names_above, number_or, room_of, same_octets, times, used_at, using, weight}
use Rattle.recordindex.proofs.OctetTests.{false-not-true, same-is, same-refl}
use Rattle.recordindex.proofs.Changes.{among-some}
use Rattle.recordindex.proofs.Using.{above-cons, none-more, none-same}
use Rattle.recordindex.proofs.Ended.{Sorted, key_cmp, used-is-ended}
use Rattle.recordindex.proofs.Ends.{any-counted}

-- ---- whether one of the names ends in a name

pub answers : (name : Labels) (names : List Labels) (kept : Kept) (os : List ℕ) (found : Option ℕ) → Agrees names kept → AreLow names → AreLowerNames kept → Sorted kept → os ≡ octets (lower name) → found ≡ ending_at os kept
    → is_used (number_or found) ≡ list_any (λ other. ends_in other name) names
answers name names kept os found agrees low is sorted os-is found-is =
    ap (λ (o : Option ℕ). is_used (number_or o)) found-is
    ∙ ap (λ (o : List ℕ). used_at o kept) os-is
    ∙ used-is-ended (lower name) names kept agrees is sorted
    ∙ any-counted name names low

-- ---- owners and the names above them

pub above-few : (owners : List Labels) → length (names_above owners) ≤ length owners
above-few [] = omega arith
above-few ([] ∷ owners) = omega (arith, above-few owners)
above-few ((label ∷ name) ∷ owners) = omega (arith, above-few owners)

-- the owner's name above is missing, once the owner is among the owners
pub lacks-above : (owner : Labels) (owners : List Labels) (kept : Kept) → Agrees (names_above owners) kept → Lacks (above_of (octets owner)) (names_above (owner ∷ owners)) kept
lacks-above [] owners kept agrees os some = omega (arith, agrees os some, ap (λ (t : Bool). cond {A = ℕ} t 1 0) (none-same os (above_of (octets [])) some (omega arith)))
lacks-above (label ∷ name) owners kept agrees os some =
    omega (arith, agrees os some, ap (λ (o : List ℕ). cond {A = ℕ} (same_octets os o) 1 0) (above-cons label name))

pub exceeds-above : (owner : Labels) (owners : List Labels) (kept : Kept) → Agrees (names_above (owner ∷ owners)) kept → Exceeds (above_of (octets owner)) (names_above owners) kept
exceeds-above [] owners kept agrees os some = omega (arith, agrees os some, ap (λ (t : Bool). cond {A = ℕ} t 1 0) (none-same os (above_of (octets [])) some (omega arith)))
exceeds-above (label ∷ name) owners kept agrees os some =
    omega (arith, agrees os some, ap (λ (o : List ℕ). cond {A = ℕ} (same_octets os o) 1 0) (above-cons label name))

tails-low : (x y : List ℕ) (a b : Labels) → x ∷ a ≡ y ∷ b → a ≡ b
tails-low x y a b e = cc

-- the names above owners in lower case are in lower case
pub above-low : (owners : List Labels) → AreLow owners → AreLow (names_above owners)
above-low [] low = tt
above-low ([] ∷ owners) low = above-low owners low.1
above-low ((label ∷ name) ∷ owners) low = (tails-low _ label (lower name) name low.0, above-low owners low.1)

-- ---- a place more

absent-tail : (b : Bool) (x : ℕ) (o : Option ℕ) → cond b (Some x) o ≡ None → (b ≡ false) × (o ≡ None)
absent-tail true x o none = absurd cc
absent-tail false x o none = (refl, none)

module _ (key : Vec ℕ Global) (unused : ℕ) where
  pub found-inserted : (os : List ℕ) (kept : Kept) → ending_at key.items kept ≡ None
      → ending_at os (insert_entry key_cmp kept key unused) ≡ cond (same_octets os key.items) (Some unused) (ending_at os kept)
  found-inserted os [] none = refl
  found-inserted os (e ∷ es) none = by (key_cmp key e.0) refl (found-inserted os es (absent-tail (same_octets key.items e.0.items) e.1 (ending_at key.items es) none).1)
    where
      apart : same_octets key.items e.0.items ≡ false
      apart = (absent-tail (same_octets key.items e.0.items) e.1 (ending_at key.items es) none).0

      swap : (c d : Bool) → same_octets os e.0.items ≡ c → same_octets os key.items ≡ d
          → cond c (Some e.1) (cond d (Some unused) (ending_at os es)) ≡ cond d (Some unused) (cond c (Some e.1) (ending_at os es))
      swap true true c-is d-is = false-not-true (same_octets key.items e.0.items) apart (ap (same_octets key.items) (sym (sym (same-is os key.items d-is) ∙ same-is os e.0.items c-is)) ∙ same-refl key.items)
      swap true false c-is d-is = refl
      swap false true c-is d-is = refl
      swap false false c-is d-is = refl

      by : (o : Ordering) → key_cmp key e.0 ≡ o
          → ending_at os (insert_entry key_cmp es key unused) ≡ cond (same_octets os key.items) (Some unused) (ending_at os es)
          → ending_at os (match_ordering o ((key, unused) ∷ e ∷ es) ((e.0, unused) ∷ es) (e ∷ insert_entry key_cmp es key unused)) ≡ cond (same_octets os key.items) (Some unused) (ending_at os (e ∷ es))
      by Less is others = refl
      by Equal is others = false-not-true (same_octets key.items e.0.items) apart (ap is_eq is)
      by Greater is others =
          ap (λ (o : Option ℕ). cond (same_octets os e.0.items) (Some e.1) o) others
          ∙ swap (same_octets os e.0.items) (same_octets os key.items) refl refl

  pub names-inserted : (P : List ℕ → Type 0) → P key.items → (kept : Kept) → AllByRecursion P (room_of kept) → AllByRecursion P (room_of (insert_entry key_cmp kept key unused))
  names-inserted P p [] all = (p, tt)
  names-inserted P p (e ∷ es) all = by (key_cmp key e.0) (names-inserted P p es all.1)
    where
      by : (o : Ordering) → AllByRecursion P (room_of (insert_entry key_cmp es key unused)) → AllByRecursion P (room_of (match_ordering o ((key, unused) ∷ e ∷ es) ((e.0, unused) ∷ es) (e ∷ insert_entry key_cmp es key unused)))
      by Less others = (p, all)
      by Equal others = all
      by Greater others = (all.0, others)

  pub counted-inserted : (os : List ℕ) (kept : Kept) → unused ≡ 0 → ending_at key.items kept ≡ None → counted_at os (insert_entry key_cmp kept key unused) ≡ counted_at os kept
  counted-inserted os kept uncounted none =
      ap (λ (o : Option ℕ). number_or o) (found-inserted os kept none)
      ∙ by (same_octets os key.items) refl
    where
      by : (d : Bool) → same_octets os key.items ≡ d → number_or (cond d (Some unused) (ending_at os kept)) ≡ counted_at os kept
      by true is = uncounted ∙ sym (ap (λ (o : List ℕ). counted_at o kept) (same-is os key.items is) ∙ ap (λ (o : Option ℕ). number_or o) none)
      by false is = refl

  pub using-inserted : (os : List ℕ) → is_used unused ≡ false → (kept : Kept) → ending_at key.items kept ≡ None → using os (insert_entry key_cmp kept key unused) ≡ using os kept
  using-inserted os idle [] none = ap (λ (t : Bool). weight t (same_octets os (above_of key.items)) + 0) idle
  using-inserted os idle (e ∷ es) none =
      by (key_cmp key e.0) refl (using-inserted os idle es (absent-tail (same_octets key.items e.0.items) e.1 (ending_at key.items es) none).1)
    where
      by : (o : Ordering) → key_cmp key e.0 ≡ o → using os (insert_entry key_cmp es key unused) ≡ using os es
          → using os (match_ordering o ((key, unused) ∷ e ∷ es) ((e.0, unused) ∷ es) (e ∷ insert_entry key_cmp es key unused)) ≡ using os (e ∷ es)
      by Less is others = ap (λ (t : Bool). weight t (same_octets os (above_of key.items)) + using os (e ∷ es)) idle ∙ none-more (using os (e ∷ es))
      by Equal is others = false-not-true (same_octets key.items e.0.items) (absent-tail (same_octets key.items e.0.items) e.1 (ending_at key.items es) none).0 (ap is_eq is)
      by Greater is others = ap (λ (n : ℕ). weight (is_used e.1) (same_octets os (above_of e.0.items)) + n) others

  some-or : (d : Bool) (o : Option ℕ) → is_some o ≡ true → is_some (cond d (Some unused) o) ≡ true
  some-or true o is = refl
  some-or false o is = is

  pub among-inserted : (os : List ℕ) (kept : Kept) → ending_at key.items kept ≡ None → is_among os (room_of kept) ≡ true → is_among os (room_of (insert_entry key_cmp kept key unused)) ≡ true
  among-inserted os kept none there =
      among-some os (insert_entry key_cmp kept key unused)
      ∙ ap is_some (found-inserted os kept none)
      ∙ some-or (same_octets os key.items) (ending_at os kept) (sym (among-some os kept) ∙ there)

  pub place-inserted : (kept : Kept) → ending_at key.items kept ≡ None → is_among key.items (room_of (insert_entry key_cmp kept key unused)) ≡ true
  place-inserted kept none =
      among-some key.items (insert_entry key_cmp kept key unused)
      ∙ ap is_some (found-inserted key.items kept none)
      ∙ ap (λ (t : Bool). is_some (cond t (Some unused) (ending_at key.items kept))) (same-refl key.items)

  pub inserted : unused ≡ 0 → is_used unused ≡ false → (kept : Kept) → ending_at key.items kept ≡ None → IsLowerName key.items → Reserves kept (insert_entry key_cmp kept key unused)
  inserted uncounted idle kept none low = record {
    counts = λ os. counted-inserted os kept uncounted none;
    using = λ os. using-inserted os idle kept none;
    kept = λ os there. among-inserted os kept none there;
    names = λ names. names-inserted IsLowerName low kept names;
  }

pub none-there : (o : Option ℕ) → is_some o ≡ false → o ≡ None
none-there None is = refl
none-there (Some e) is = absurd cc

-- more places leave what is counted
pub reserves-agrees : (names : List Labels) (was now : Kept) → Agrees names was → Reserves was now → Agrees names now
reserves-agrees names was now agrees step os some = step.counts os ∙ agrees os some ∙ ap (λ (n : ℕ). times os names + n) (sym (step.using os))
