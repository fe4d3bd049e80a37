-- What a map by name holds at a name, but for case, behind each change of it.
use Rattle.std.proofs.Common.{◌≡◌, ℕ, Bool, true, false, cond, ◌&&◌, List, [], Option, Some, None, refl, sym, ap, ◌∙◌}
use Rattle.std.specs.Prelude.{◌==◌, Result, Ok, Err, OnOk, OnErr, is_some, unwrap_or}
use Rattle.std.specs.Map.{lookup}
use Rattle.std.specs.BTreeMap.{BTreeMap, UpdatesBy, WritesThrough, is_at}
use Rattle.dnsname.specs.Names.{Labels, same_name}
use Rattle.dnsname.specs.Caseless.{as_same_key, caseless_octets, name_order}
use Rattle.dnsname.proofs.CaselessOrder.{name_order-same}
use Rattle.std.specs.Str.{bytes_eq}
use Rattle.subscr.specs.ByName.{Renoted, noted_at}
use Rattle.subscr.specs.Watching.{KeptWatching, times, watching_of}

pub same_name-for : (a b other : Labels) → same_name a b ≡ true → same_name a other ≡ same_name b other
same_name-for a b other same = as_same_key (λ os. bytes_eq os (caseless_octets other)) a b same

pub on_ok : {A E P Q : Type 0} (r : Result A E) → (P → Q) → OnOk r P → OnOk r Q
on_ok (Ok x) f p = f p
on_ok (Err e) f p = tt

pub on_err : {A E P Q : Type 0} (r : Result A E) → (P → Q) → OnErr r P → OnErr r Q
on_err (Ok x) f p = tt
on_err (Err e) f p = f p

module _ {X : Type 0} where
  pub found : (name : Labels) (notes : List (Labels × List X)) → lookup (is_at (name_order name)) notes ≡ lookup (same_name name) notes
  found name notes = λ i. lookup (λ other. name_order-same name other i) notes

  pub noted : (name : Labels) (notes : List (Labels × List X)) (o : Option (List X)) → o ≡ lookup (is_at (name_order name)) notes → unwrap_or o [] ≡ noted_at name notes
  noted name notes o is = ap (λ (p : Option (List X)). unwrap_or p []) (is ∙ found name notes)

  pub noted-same : (name other : Labels) (notes : List (Labels × List X)) → same_name name other ≡ true → noted_at name notes ≡ noted_at other notes
  noted-same name other notes same = λ i. unwrap_or (lookup (λ third. same_name-for name other third same i) notes) []

  pub updated : (name : Labels) (m n : BTreeMap Labels (List X)) (w : Option (List X)) → UpdatesBy name_order (name_order name) m n w → Renoted name (unwrap_or w []) m.entries n.entries
  updated name m n w h other =
      ap (λ (p : Option (List X)). unwrap_or p []) (sym (found other n.entries) ∙ h.0 other)
      ∙ by (is_at (name_order name) other)
      ∙ ap (λ (b : Bool). cond b (unwrap_or w []) (noted_at other m.entries)) (name_order-same name other)
    where
      by : (b : Bool) → unwrap_or (cond b w (lookup (is_at (name_order other)) m.entries)) [] ≡ cond b (unwrap_or w []) (noted_at other m.entries)
      by true = refl
      by false = ap (λ (p : Option (List X)). unwrap_or p []) (found other m.entries)

  -- one change behind another
  pub twice : (name : Labels) (first last : List X) (old mid new : List (Labels × List X)) → Renoted name first old mid → Renoted name last mid new → Renoted name last old new
  twice name first last old mid new f g other = g other ∙ by (same_name name other) (f other)
    where
      by : (b : Bool) → noted_at other mid ≡ cond b first (noted_at other old) → cond b last (noted_at other mid) ≡ cond b last (noted_at other old)
      by true is = refl
      by false is = is

  -- what a look-up lends, written back as another list
  pub lent : (name : Labels) (m n : BTreeMap Labels (List X)) (was held : List X) → lookup (is_at (name_order name)) m.entries ≡ Some was → WritesThrough name_order (name_order name) m held n → Renoted name held m.entries n.entries
  lent name m n was held there writes = updated name m n (Some held) (writes.3 (ap is_some there))

  pub was_noted : (name : Labels) (m : BTreeMap Labels (List X)) (was : List X) → lookup (is_at (name_order name)) m.entries ≡ Some was → was ≡ noted_at name m.entries
  was_noted name m was there = noted name m.entries (Some was) (sym there)

  pub none_noted : (name : Labels) (m : BTreeMap Labels (List X)) → lookup (is_at (name_order name)) m.entries ≡ None → [] ≡ noted_at name m.entries
  none_noted name m none = noted name m.entries None (sym none)

  pub changed : (name : Labels) (f : List X → List X) (held : List X) (old now new : List (Labels × List X)) → old ≡ now → Renoted name held old new → held ≡ f (noted_at name old)
      → (other : Labels) → noted_at other new ≡ cond (same_name name other) (f (noted_at other now)) (noted_at other now)
  changed name f held old now new view is so other =
      is other ∙ by (same_name name other) refl ∙ ap (λ (notes : List (Labels × List X)). cond (same_name name other) (f (noted_at other notes)) (noted_at other notes)) view
    where
      by : (b : Bool) → same_name name other ≡ b → cond b held (noted_at other old) ≡ cond b (f (noted_at other old)) (noted_at other old)
      by true same = so ∙ ap f (noted-same name other old same)
      by false same = refl

  -- nothing is noted at the name, and nothing changes
  pub stays : (name : Labels) (notes : List (Labels × List X)) → [] ≡ noted_at name notes → Renoted name [] notes notes
  stays name notes none other = by (same_name name other) refl
    where
      by : (b : Bool) → same_name name other ≡ b → noted_at other notes ≡ cond b [] (noted_at other notes)
      by true same = sym (none ∙ noted-same name other notes same)
      by false same = refl

-- a session watches a name otherwise, and no other does
pub counted : (change : ℕ → ℕ) (name : Labels) (session : ℕ) (held : List ℕ) (old now new : KeptWatching) → old ≡ now → Renoted name held old new
    → ((another : ℕ) → times another held ≡ cond (session == another) (change (times another (noted_at name old))) (times another (noted_at name old)))
    → (other : Labels) (another : ℕ) → watching_of new other another ≡ cond (same_name name other && session == another) (change (watching_of now other another)) (watching_of now other another)
counted change name session held old now new view is so other another =
    ap (times another) (is other)
    ∙ by (same_name name other) refl
    ∙ ap (λ (notes : KeptWatching). cond (same_name name other && session == another) (change (watching_of notes other another)) (watching_of notes other another)) view
  where
    by : (b : Bool) → same_name name other ≡ b
        → times another (cond b held (noted_at other old)) ≡ cond (b && session == another) (change (watching_of old other another)) (watching_of old other another)
    by true same = so another ∙ ap (λ (l : List ℕ). cond (session == another) (change (times another l)) (times another l)) (noted-same name other old same)
    by false same = refl
