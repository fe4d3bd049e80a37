-- Who carries a name, behind a further client that carries one.
--     none-carries      no client carries any name
--     one-more      one more client
--     AreCarried      the clients so far that carry names, and those of the lines that are left
--     carried-begin, carried-more, carried-outside, carried-end      before the first line, with a further one, with one that is outside, and behind the last
use Rattle.std.proofs.Common.{◌≡◌, ℕ, Bool, true, false, not, cond, ◌&&◌, ◌||◌, Option, Some, None, List, [], ◌∷◌, ◌++◌, length, refl, sym, ◌∙◌, ap}
use Rattle.std.specs.Prelude.{option_to_list, string_bytes}
use Rattle.std.specs.Map.{lookup}
use Rattle.std.specs.Str.{bytes_eq}
use Rattle.std.specs.Cmp.Lexicographic.{bytes_decides}
use Rattle.std.specs.BTreeMap.{BTreeMap, UpdatesBy, get, is_at}
use Rattle.std.specs.declared.alloc.Global.{Global}
use Rattle.std.specs.declared.string.String.{String}
use Rattle.push_base.specs.Cases.{is_empty}
use Rattle.dnsname.specs.Names.{Labels, same_name}
use Rattle.dnsname.specs.Caseless.{as_same_key, caseless_octets, name_order}
use Rattle.dnsname.proofs.CaselessOrder.{name_order-same}
use Rattle.scripts.specs.declared.named.Carrying.{Carrying}
use Rattle.scripts.specs.declared.named.Carrying.TheVariants.{One, Several}
use Rattle.scripts.specs.Lines.{Word}
use Rattle.scripts.specs.Scripts.{lines_in}
use Rattle.scripts.specs.WholeScripts.{Carrier as Plain, is_other_or_own, carries_alone, carried_by, named_in}
use Rattle.scripts.specs.KeptWhole.{carrier_in}
use Rattle.scripts.specs.Carrying.{carried_too, is_alone, alone_by}
use Rattle.scripts.proofs.wholes.Named.{named-more, named-outside, named-none}

and_true : (b : Bool) → b ≡ (b && true)
and_true true = refl
and_true false = refl

and_assoc : (a b c : Bool) → ((a && b) && c) ≡ (a && (b && c))
and_assoc true b c = refl
and_assoc false b c = refl

-- ---- of one name

same-word : (a b : Word) → bytes_eq a b ≡ true → a ≡ b
same-word a b same = (bytes_decides a b).0 same

other-word : (b : Bool) (a c w : Word) → bytes_eq a c ≡ b → b ≡ false → false ≡ (bytes_eq a w && bytes_eq c w)
other-word b a c w is apart = by (bytes_eq a w) (bytes_eq c w) refl refl
  where
    by : (p q : Bool) → bytes_eq a w ≡ p → bytes_eq c w ≡ q → false ≡ (p && q)
    by false q e f = refl
    by true false e f = refl
    by true true e f =
        let one : a ≡ c = same-word a w e ∙ sym (same-word c w f) in
        let itself : bytes_eq a c ≡ true = (bytes_decides a c).1 one in
        absurd cc

pub joins : (w : Word) (carrying : Option Carrying) (word : String Global) → is_alone w (Some (carried_too carrying word)) ≡ (is_alone w carrying && bytes_eq (string_bytes word) w)
joins w None word = refl
joins w (Some (One other)) word = by (bytes_eq (string_bytes other) (string_bytes word)) refl
  where
    by : (b : Bool) → bytes_eq (string_bytes other) (string_bytes word) ≡ b → is_alone w (Some (cond {A = Carrying} b (One word) Several)) ≡ (bytes_eq (string_bytes other) w && bytes_eq (string_bytes word) w)
    by true same = twice (bytes_eq (string_bytes word) w) ∙ ap (λ (v : Word). bytes_eq v w && bytes_eq (string_bytes word) w) (sym (same-word (string_bytes other) (string_bytes word) same))
      where
        twice : (b : Bool) → b ≡ (b && b)
        twice true = refl
        twice false = refl
    by false apart = other-word false (string_bytes other) (string_bytes word) w apart refl
joins w (Some Several) word = refl

-- ---- of all

same-for : (a b other : Labels) → same_name a b ≡ true → same_name a other ≡ same_name b other
same-for a b other same = as_same_key (λ os. bytes_eq os (caseless_octets other)) a b same

found : (name : Labels) (names : BTreeMap Labels Carrying) → get name_order names name ≡ lookup (same_name name) names.entries
found name names = λ i. lookup (λ other. name_order-same name other i) names.entries

found-same : (a b : Labels) (names : BTreeMap Labels Carrying) → same_name a b ≡ true → get name_order names a ≡ get name_order names b
found-same a b names same = found a names ∙ (λ i. lookup (λ other. same-for a b other same i) names.entries) ∙ sym (found b names)

module _ (names later : BTreeMap Labels Carrying) (name : Labels) (word : String Global) where
  abbrev Carries : Type 0
  Carries = UpdatesBy name_order (name_order name) names later (Some (carried_too (get name_order names name) word))

  answer : Carries → (w : Word) (other : Labels) → is_alone w (get name_order later other) ≡ (is_alone w (get name_order names other) && is_other_or_own w other (string_bytes word, name))
  answer updates w other =
      ap (is_alone w) (updates.0 other ∙ ap (λ (b : Bool). cond {A = Option Carrying} b (Some (carried_too (get name_order names name) word)) (get name_order names other)) (name_order-same name other))
      ∙ by (same_name name other) refl
    where
      by : (b : Bool) → same_name name other ≡ b → is_alone w (cond {A = Option Carrying} b (Some (carried_too (get name_order names name) word)) (get name_order names other)) ≡ (is_alone w (get name_order names other) && (not b || bytes_eq (string_bytes word) w))
      by true same = joins w (get name_order names name) word ∙ ap (λ (o : Option Carrying). is_alone w o && bytes_eq (string_bytes word) w) (found-same name other names same)
      by false same = and_true (is_alone w (get name_order names other))

  all-more : (w : Word) (other : Labels) (c : Plain) (carriers : List Plain) → (carries_alone carriers w other && is_other_or_own w other c) ≡ carries_alone (carriers ++ c ∷ []) w other
  all-more w other c [] = and_true (is_other_or_own w other c)
  all-more w other c (d ∷ carriers) = and_assoc (is_other_or_own w other d) (carries_alone carriers w other) (is_other_or_own w other c) ∙ ap (λ (b : Bool). is_other_or_own w other d && b) (all-more w other c carriers)

  pub one-more : Carries → (carriers : List Plain) → alone_by names ≡ carries_alone carriers → alone_by later ≡ carries_alone (carriers ++ (string_bytes word, name) ∷ [])
  one-more updates carriers so = λ i w other. (answer updates w other ∙ ap (λ (f : Word → Labels → Bool). f w other && is_other_or_own w other (string_bytes word, name)) so ∙ all-more w other (string_bytes word, name) carriers) i

pub none-carries : (names : BTreeMap Labels Carrying) → names.entries ≡ [] → alone_by names ≡ carries_alone []
none-carries names none = λ i w name. is_alone w (lookup (is_at (name_order name)) (none i))

-- ---- line by line

-- the clients so far, by which of them carry names alone, and those of the lines that are left
pub record AreCarried (alone : Word → Labels → Bool) (too_long : Bool) (rest : List ℕ) (whole : List Plain) : Type 0 where
  pub so_far : List Plain
  pub are : alone ≡ carries_alone so_far
  pub all : so_far ++ named_in carried_by too_long (lines_in rest) ≡ whole

pub carried-begin : (too_long : Bool) (text : List ℕ) (alone : Word → Labels → Bool) → alone ≡ carries_alone [] → AreCarried alone too_long text (named_in carried_by too_long (lines_in text))
carried-begin too_long text alone none = record { so_far = []; are = none; all = refl }

module _ (too_long : Bool) (rest line after : List ℕ) where
  pub carried-more : (alone later : Word → Labels → Bool) (whole : List Plain) → lines_in rest ≡ line ∷ lines_in after → (too_long && is_empty after) ≡ false
      → ((before : List Plain) → alone ≡ carries_alone before → later ≡ carries_alone (before ++ option_to_list (carrier_in line)))
      → AreCarried alone too_long rest whole → AreCarried later too_long after whole
  carried-more alone later whole e inside adds held = record {
    so_far = held.so_far ++ option_to_list (carrier_in line);
    are = adds held.so_far held.are;
    all = named-more carried_by too_long rest line after held.so_far _ whole e inside refl held.all;
  }

  pub carried-outside : (alone : Word → Labels → Bool) (whole : List Plain) → lines_in rest ≡ line ∷ lines_in after → (too_long && is_empty after) ≡ true → AreCarried alone too_long rest whole → alone ≡ carries_alone whole
  carried-outside alone whole e outside held = held.are ∙ ap (λ (cs : List Plain). carries_alone cs) (named-outside carried_by too_long rest line after held.so_far whole e outside held.all)

pub carried-end : (too_long : Bool) (rest : List ℕ) (alone : Word → Labels → Bool) (whole : List Plain) → length rest ≡ 0 → AreCarried alone too_long rest whole → alone ≡ carries_alone whole
carried-end too_long rest alone whole none held = held.are ∙ ap (λ (cs : List Plain). carries_alone cs) (named-none carried_by too_long rest held.so_far whole none held.all)
