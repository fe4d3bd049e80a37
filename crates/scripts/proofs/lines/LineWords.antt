-- Words are ASCII text, and what a number says.
use Rattle.std.proofs.Common.{◌≡◌, ℕ, ◌+◌, ◌-◌, ◌*◌, ◌/◌, ◌%◌, ◌<◌, ◌≤◌, ◌^◌, Bool, true, false, cond, leb, ◌&&◌, not, ◌⊎◌, Option, Some, None, Result, Ok, Err, List, [], ◌∷◌, length, refl, sym, ap, subst, ◌∙◌, arith, rules, inl, inr}
use Rattle.std.specs.Prelude.{fold}
use Rattle.std.specs.List.{list_all}
use Rattle.std.specs.Result.{result_ok, OkIff}
use Rattle.std.specs.Char.{to_ascii_lowercase}
use Rattle.std.proofs.lemmas.List.{length-map}
use Rattle.std.specs.Str.{IsAscii, IsUtf8}
use Rattle.std.specs.Str.Parse.{ParsesUnsigned}
use Rattle.std.proofs.lemmas.Str.{IsUtf8-from_ascii, IsAscii-append}
use Rattle.std.proofs.lemmas.Str.Ascii.{IsAscii-nil, IsAscii-cons}
use Rattle.std.proofs.lemmas.Str.Parse.{IsDigitsTest, FoldsDigits, IsNumeralModel, numerals_by_fold, parse_digits}
use Rattle.std.proofs.lemmas.Bool.{cases_Bool, leb-true, le-leb}
use Rattle.std.proofs.lemmas.Bool.Decides.{nat_tests}
use Rattle.std.proofs.lemmas.Option.{cond_some}
use Rattle.push_base.specs.Hexadecimal.{SpellsOctets, hex_text}
use Rattle.dnsname.specs.Names.{Labels}
use Rattle.dnsname.specs.Text.{decimal, BeginsWithLabel, AreLabelTexts, SpellsText, name_of_text}
use Rattle.dnsname.proofs.Decisions.{and_true}
use Rattle.dnsname.proofs.TextUnique.{Shape, shape}
use Rattle.dnsname.proofs.TextUnique as unique
use Rattle.dnsname.proofs.TextFunctions.{name_found}
use Rattle.scripts.specs.Lines.{number, is_digit, begins_with_zero, has_form, is_word_octet}
use Rattle.push_base.specs.Limits.{max_number}

-- ---- a name's text is ASCII

one_ascii : (o : ℕ) → o < 128 → IsAscii (o ∷ [])
one_ascii o lt = IsAscii-cons o [] lt IsAscii-nil

decimal_ascii : (o : ℕ) → o < 256 → IsAscii (decimal o)
decimal_ascii o lt =
    let ones : 48 + o % 10 < 128 = omega arith in
    let tens : 48 + o / 10 % 10 < 128 = omega arith in
    let hundreds : 48 + o / 100 < 128 = omega arith in
    IsAscii-cons (48 + o / 100) ((48 + o / 10 % 10) ∷ (48 + o % 10) ∷ []) hundreds (IsAscii-cons (48 + o / 10 % 10) ((48 + o % 10) ∷ []) tens (one_ascii (48 + o % 10) ones))

special_small : (o : ℕ) → (o ≡ 46) ⊎ (o ≡ 92) → o < 128
special_small o (inl e) = omega arith
special_small o (inr e) = omega arith

slash_ascii : (text : List ℕ) → IsAscii text → IsAscii (92 ∷ text)
slash_ascii text h = IsAscii-cons 92 text (omega arith) h

shape_ascii : (text : List ℕ) (o : ℕ) → o < 256 → Shape text o → IsAscii text
shape_ascii text o lt (unique.plain e special visible) =
    let both = and_true (leb 33 o) (leb o 126) visible in
    let small : o < 128 = omega (arith, leb-true o 126 both.1) in
    subst IsAscii (sym e) (one_ascii o small)
shape_ascii text o lt (unique.escaped e special) = subst IsAscii (sym e) (slash_ascii (o ∷ []) (one_ascii o (special_small o special)))
shape_ascii text o lt (unique.digits e) = subst IsAscii (sym e) (slash_ascii (decimal o) (decimal_ascii o lt))

label_ascii : (text label rest : List ℕ) → BeginsWithLabel text label rest → IsAscii rest → IsAscii text
label_ascii text [] rest h ascii = subst IsAscii (sym h) (IsAscii-cons 46 rest (omega arith) ascii)
label_ascii text (o ∷ label) rest (first, more, e, octet, begins) ascii =
    subst IsAscii (sym e) (IsAscii-append first more (shape_ascii first o octet.0 (shape first o octet)) (label_ascii more label rest begins ascii))

labels_ascii : (text : List ℕ) (labels : Labels) → AreLabelTexts text labels → IsAscii text
labels_ascii text [] h = subst IsAscii (sym h) IsAscii-nil
labels_ascii text (label ∷ labels) (rest, begins, more) = label_ascii text label rest begins (labels_ascii rest labels more)

name_ascii : (text : List ℕ) (name : Labels) → SpellsText text name → IsAscii text
name_ascii text [] h = subst IsAscii (sym h) (one_ascii 46 (omega arith))
name_ascii text (label ∷ name) h = labels_ascii text (label ∷ name) h.1

-- what isn't UTF-8 is no name's text
pub no_name : (text : List ℕ) → (IsUtf8 text → ⊥) → None ≡ name_of_text text
no_name text not_text = by_result (name_of_text text) refl
  where
    by_result : (r : Option Labels) → name_of_text text ≡ r → None ≡ r
    by_result None e = refl
    by_result (Some name) e = absurd (not_text (IsUtf8-from_ascii text (name_ascii text name (name_found text name e))))

-- ---- words and numbers are ASCII

all_ascii : (p : ℕ → Bool) → ((c : ℕ) → p c ≡ true → c < 128) → (text : List ℕ) → list_all p text ≡ true → IsAscii text
all_ascii p small [] h = IsAscii-nil
all_ascii p small (c ∷ text) h = let both = and_true (p c) (list_all p text) h in IsAscii-cons c text (small c both.0) (all_ascii p small text both.1)

digit_small : (c : ℕ) → is_digit c ≡ true → c < 128
digit_small c h = let both = and_true (leb 48 c) (leb c 57) h in omega (arith, leb-true c 57 both.1)

word_octet_small : (c : ℕ) → is_word_octet c ≡ true → c < 128
word_octet_small c h = grind (arith, nat_tests)

pub word_utf8 : (text : List ℕ) → list_all is_word_octet text ≡ true → IsUtf8 text
word_utf8 text h = IsUtf8-from_ascii text (all_ascii is_word_octet word_octet_small text h)

form_digits : (text : List ℕ) → has_form text ≡ true → list_all is_digit text ≡ true
form_digits [] h = absurd cc
form_digits (c ∷ cs) h = (and_true (list_all is_digit (c ∷ cs)) (not (begins_with_zero (c ∷ cs))) h).0

pub number_utf8 : (text : List ℕ) → has_form text ≡ true → IsUtf8 text
number_utf8 text h = IsUtf8-from_ascii text (all_ascii is_digit digit_small text (form_digits text h))

-- ---- what a number says

abbrev digit_on : ℕ → ℕ → ℕ
digit_on n d = 10 * n + (d - 48)

tells : IsDigitsTest (λ ds. list_all is_digit ds ≡ true)
tells = search rules

folds : FoldsDigits (fold digit_on)
folds = record { empty = λ n. refl; more = λ n c cs h. ap (λ k. fold digit_on k cs) (omega arith) }

own : IsNumeralModel (λ ds. list_all is_digit ds ≡ true) (fold digit_on 0)
own = numerals_by_fold _ tells (fold digit_on) folds

value_read : {E : Type 0} (size value : ℕ) → 0 < size → (r : Result ℕ E) → OkIff r ((0 < size) × (value < 2 ^ 64)) value → result_ok r ≡ cond {A = Option ℕ} (leb value max_number) (Some value) None
value_read size value some (Ok x) h =
    let test : leb value max_number ≡ true = le-leb value max_number (omega (arith, h.0.1)) in
    ap Some h.1 ∙ sym (ap (λ (b : Bool). cond {A = Option ℕ} b (Some value) None) test)
value_read size value some (Err e) h = elim (cases_Bool (leb value max_number)) [
  | inl small ↦ absurd (h (some, omega (arith, leb-true value max_number small)))
  | inr large ↦ sym (ap (λ (b : Bool). cond {A = Option ℕ} b (Some value) None) large)
]

-- what is parsed of a word with the form of a number
pub number_read : {E : Type 0} (text : List ℕ) (r : Result ℕ E) → has_form text ≡ true → ParsesUnsigned 64 10 text r → result_ok r ≡ number max_number text
number_read [] r form h = absurd cc
number_read (c ∷ cs) r form h =
    let value = fold digit_on 0 (c ∷ cs) in
    let read = value_read (length (c ∷ cs)) value (omega arith) r (parse_digits own 64 (c ∷ cs) r h (form_digits (c ∷ cs) form)) in
    read ∙ sym (ap (λ (b : Bool). cond {A = Option ℕ} (b && leb value max_number) (Some value) None) form)

-- ---- a number that is no more than a greatest

-- by whether the word has the form of one, and its value
abbrev by_value : Bool → ℕ → ℕ → Option ℕ
by_value form value greatest = cond {A = Option ℕ} (form && leb value greatest) (Some value) None

record IsValue (form : Bool) (value n : ℕ) : Type 0 where
  good : form ≡ true
  is : value ≡ n

is_value : (form : Bool) (value most n : ℕ) → Some n ≡ by_value form value most → IsValue form value n
is_value form value most n h =
    let parts = cond_some (form && leb value most) value n (sym h) in
    record { good = (and_true form (leb value most) parts.0).0; is = parts.1 }

value_by_test : (form : Bool) (value greatest : ℕ) (test : Bool) → form ≡ true → leb value greatest ≡ test → by_value form value greatest ≡ cond {A = Option ℕ} test (Some value) None
value_by_test form value greatest test is tests =
    ap (λ (b : Bool). cond {A = Option ℕ} (b && leb value greatest) (Some value) None) is ∙ ap (λ (b : Bool). cond {A = Option ℕ} b (Some value) None) tests

within : (form : Bool) (value most greatest n : ℕ) → Some n ≡ by_value form value most → n ≤ greatest → Some n ≡ by_value form value greatest
within form value most greatest n h small =
    let v = is_value form value most n h in
    let test : leb value greatest ≡ true = le-leb value greatest (omega (arith, v.is, small)) in
    sym (value_by_test form value greatest true v.good test ∙ ap Some v.is)

beyond : (form : Bool) (value most greatest n : ℕ) → Some n ≡ by_value form value most → greatest < n → None ≡ by_value form value greatest
beyond form value most greatest n h large =
    let v = is_value form value most n h in
    elim (cases_Bool (leb value greatest)) [
      | inl small ↦ absurd (omega (arith, leb-true value greatest small, v.is, large))
      | inr test ↦ sym (value_by_test form value greatest false v.good test)
    ]

missing : (form : Bool) (value most greatest : ℕ) → None ≡ by_value form value most → greatest ≤ most → None ≡ by_value form value greatest
missing false value most greatest h below = refl
missing true value most greatest h below = elim (cases_Bool (leb value greatest)) [
  | inl small ↦
      let test : leb value most ≡ true = le-leb value most (omega (arith, leb-true value greatest small, below)) in
      let there : None ≡ Some value = h ∙ value_by_test true value most true refl test in
      absurd cc
  | inr test ↦ sym (value_by_test true value greatest false refl test)
]

pub number_within : (text : List ℕ) (most greatest n : ℕ) → Some n ≡ number most text → n ≤ greatest → Some n ≡ number greatest text
number_within [] most greatest n h small = absurd cc
number_within (c ∷ cs) most greatest n h small = within (has_form (c ∷ cs)) (fold digit_on 0 (c ∷ cs)) most greatest n h small

pub number_beyond : (text : List ℕ) (most greatest n : ℕ) → Some n ≡ number most text → greatest < n → None ≡ number greatest text
number_beyond [] most greatest n h large = refl
number_beyond (c ∷ cs) most greatest n h large = beyond (has_form (c ∷ cs)) (fold digit_on 0 (c ∷ cs)) most greatest n h large

pub number_missing : (text : List ℕ) (most greatest : ℕ) → None ≡ number most text → greatest ≤ most → None ≡ number greatest text
number_missing [] most greatest h below = refl
number_missing (c ∷ cs) most greatest h below = missing (has_form (c ∷ cs)) (fold digit_on 0 (c ∷ cs)) most greatest h below

-- ---- how many octets a word stands for

length-hex_text : (octets : List ℕ) → length (hex_text octets) ≡ 2 * length octets
length-hex_text [] = refl
length-hex_text (o ∷ os) = omega (arith, length-hex_text os)

pub digits_size : (text octets : List ℕ) → SpellsOctets text octets → 2 * length octets ≡ length text
digits_size text octets h = sym (length-hex_text octets) ∙ ap length (sym h) ∙ length-map text to_ascii_lowercase
