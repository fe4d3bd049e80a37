-- What is shown of a name is typed as its strict text, which is read as the name.
use Rattle.std.proofs.Common.{◌≡◌, ℕ, zero, suc, ◌+◌, ◌-◌, ◌<◌, ◌≤◌, ◌/◌, ◌%◌, Bool, true, false, cond, not, ◌&&◌, ◌||◌, List, [], ◌∷◌, ◌++◌, length, take, drop, Option, Some, None, arith, refl, sym, ap, ◌∙◌, append_assoc}
use Rattle.std.proofs.lemmas.Bool.Decides.{nat_tests}
use Rattle.std.specs.Prelude.{◌==◌, nat_le, nat_lt, max}
use Rattle.std.specs.List.{AllByRecursion, flat_map}
use Rattle.std.proofs.lemmas.Bool.{and_parts}
use Rattle.std.proofs.lemmas.Grind.{flat_map-append}
use Rattle.std.proofs.lemmas.List.{append-nil, take-append-drop, length-drop}
use Rattle.dnsname.specs.Names.{Labels, IsLabel, IsName}
use Rattle.dnsname.specs.Text.{dot, backslash, decimal, is_special, is_visible, octet_text, label_text, name_text, name_of_text}
use Rattle.dnsname.proofs.LawLemmas.{text_of_name}
use Rattle.dnsname.proofs.TextFunctions.{name_there}
use Rattle.readable.specs.declared.characters.Dots.TheVariants as dots
use Rattle.readable.specs.Shown.{octet_at, is_one, is_two, is_three, is_four, is_tail, is_within, plain_size, escape, first_size, first_piece, shown_characters, shown_label, shown_name}
use Rattle.readable.specs.Typed.{strict_octet, strict_from, strict, typed_name}
use Rattle.readable.specs.Laws.{ReadsBack}
use Rattle.readable.proofs.Octets.{digit_plain, digit_seen, hundreds, tens, ones, special_seen, high_plain, all-drop}

-- ---- octets

slash_no : (o : ℕ) → is_special o ≡ false → (o == backslash) ≡ false
slash_no o e = grind (arith, nat_tests, e)

-- an octet that isn't special is typed as it is written
plain_typed : (o : ℕ) (rest : List ℕ) → is_special o ≡ false → strict_from false (o ∷ rest) ≡ octet_text o ++ strict_from false rest
plain_typed o rest plain =
    ap (λ (b : Bool). cond b [] (strict_octet o) ++ strict_from b rest) (slash_no o plain)
    ∙ sym (ap (λ (b : Bool). cond b (backslash ∷ o ∷ []) (strict_octet o) ++ strict_from false rest) plain)

digit_typed : (d : ℕ) (rest : List ℕ) → 48 ≤ d → d ≤ 57 → strict_from false (d ∷ rest) ≡ d ∷ strict_from false rest
digit_typed d rest low high =
    plain_typed d rest (digit_plain d low high)
    ∙ ap (λ (b : Bool). cond b (backslash ∷ d ∷ []) (strict_octet d) ++ strict_from false rest) (digit_plain d low high)
    ∙ ap (λ (b : Bool). cond b (d ∷ []) (backslash ∷ decimal d) ++ strict_from false rest) (digit_seen d low high)

-- so is a digit behind a backslash
quoted_typed : (d : ℕ) (rest : List ℕ) → is_visible d ≡ true → strict_from true (d ∷ rest) ≡ backslash ∷ d ∷ strict_from false rest
quoted_typed d rest seen = ap (λ (b : Bool). cond b (backslash ∷ d ∷ []) (strict_octet d) ++ strict_from false rest) seen

digits_typed : (o : ℕ) (rest : List ℕ) → o < 256 → strict_from true (decimal o ++ rest) ≡ (backslash ∷ decimal o) ++ strict_from false rest
digits_typed o rest few =
    quoted_typed (48 + o / 100) ((48 + o / 10 % 10) ∷ (48 + o % 10) ∷ rest) (digit_seen (48 + o / 100) (omega arith) (hundreds o few))
    ∙ ap (λ (l : List ℕ). backslash ∷ (48 + o / 100) ∷ l)
    (digit_typed (48 + o / 10 % 10) ((48 + o % 10) ∷ rest) (omega arith) (tens o) ∙ ap (λ (l : List ℕ). (48 + o / 10 % 10) ∷ l) (digit_typed (48 + o % 10) rest (omega arith) (ones o)))

-- what stands behind a backslash is typed as it is written
escape_typed : (o : ℕ) (rest : List ℕ) → o < 256 → (is_special o ≡ false → is_visible o ≡ false) → strict_from false (escape o ++ rest) ≡ octet_text o ++ strict_from false rest
escape_typed o rest few unseen = by (is_special o) refl
  where
    by : (b : Bool) → is_special o ≡ b → strict_from false (escape o ++ rest) ≡ octet_text o ++ strict_from false rest
    by true e =
        ap (λ (b : Bool). strict_from false (cond b (backslash ∷ o ∷ []) (backslash ∷ decimal o) ++ rest)) e
        ∙ quoted_typed o rest (special_seen o e)
        ∙ sym (ap (λ (b : Bool). cond b (backslash ∷ o ∷ []) (strict_octet o) ++ strict_from false rest) e)
    by false e =
        ap (λ (b : Bool). strict_from false (cond b (backslash ∷ o ∷ []) (backslash ∷ decimal o) ++ rest)) e
        ∙ digits_typed o rest few
        ∙ sym (ap (λ (b : Bool). cond b (backslash ∷ o ∷ []) (strict_octet o) ++ strict_from false rest) e
        ∙ ap (λ (b : Bool). cond b (o ∷ []) (backslash ∷ decimal o) ++ strict_from false rest) (unseen e))

all_typed : (os rest : List ℕ) → AllByRecursion (λ o. is_special o ≡ false) os → strict_from false (os ++ rest) ≡ flat_map octet_text os ++ strict_from false rest
all_typed [] rest h = refl
all_typed (o ∷ os) rest h =
    plain_typed o (os ++ rest) h.0 ∙ ap (λ (l : List ℕ). octet_text o ++ l) (all_typed os rest h.1) ∙ sym (append_assoc (octet_text o) (flat_map octet_text os) (strict_from false rest))

-- ---- characters

abbrev IsTyped : ℕ → List ℕ → List ℕ → ℕ → Type 0
IsTyped o t rest n = strict_from false (cond (n == 0) (escape o) (take n (o ∷ t)) ++ rest) ≡ flat_map octet_text (take (max n 1) (o ∷ t)) ++ strict_from false rest

one_plain : (o : ℕ) → is_one dots.Escaped o ≡ true → is_special o ≡ false
one_plain o e = grind (arith, e)

none_unseen : (o : ℕ) → is_one dots.Escaped o ≡ false → is_special o ≡ false → is_visible o ≡ false
none_unseen o e f = grind (arith, e, f)

tail_plain : (o : ℕ) → is_tail o ≡ true → is_special o ≡ false
tail_plain o e = grind (arith, e)

lead_plain : (low high o : ℕ) → 128 ≤ low → is_within low high o ≡ true → is_special o ≡ false
lead_plain low high o from e = high_plain o (grind (arith, from, e))

-- the first octets of a text, where as many as are asked pass
fronts : (n : ℕ) (o : ℕ) (t : List ℕ) → is_special o ≡ false → (1 ≤ n → is_special (octet_at 0 t) ≡ false) → (2 ≤ n → is_special (octet_at 1 t) ≡ false) → (3 ≤ n → is_special (octet_at 2 t) ≡ false) → n ≤ 3
    → AllByRecursion (λ x. is_special x ≡ false) (take (suc n) (o ∷ t))
fronts zero o t a b c d few = (a, tt)
fronts (suc zero) o [] a b c d few = (a, tt)
fronts (suc zero) o (x ∷ t) a b c d few = (a, (b (omega arith), tt))
fronts (suc (suc zero)) o [] a b c d few = (a, tt)
fronts (suc (suc zero)) o (x ∷ []) a b c d few = (a, (b (omega arith), tt))
fronts (suc (suc zero)) o (x ∷ y ∷ t) a b c d few = (a, (b (omega arith), (c (omega arith), tt)))
fronts (suc (suc (suc zero))) o [] a b c d few = (a, tt)
fronts (suc (suc (suc zero))) o (x ∷ []) a b c d few = (a, (b (omega arith), tt))
fronts (suc (suc (suc zero))) o (x ∷ y ∷ []) a b c d few = (a, (b (omega arith), (c (omega arith), tt)))
fronts (suc (suc (suc zero))) o (x ∷ y ∷ z ∷ t) a b c d few = (a, (b (omega arith), (c (omega arith), (d (omega arith), tt))))
fronts (suc (suc (suc (suc n)))) o t a b c d few = absurd (omega (arith, few))

piece_typed : (o : ℕ) (t rest : List ℕ) → o < 256 → strict_from false (first_piece dots.Escaped (o ∷ t) ++ rest) ≡ flat_map octet_text (take (first_size dots.Escaped (o ∷ t)) (o ∷ t)) ++ strict_from false rest
piece_typed o t rest few = by1 (is_one dots.Escaped o) refl
  where
    by4 : (x : Bool) → is_four o (octet_at 0 t) (octet_at 1 t) (octet_at 2 t) ≡ x → is_one dots.Escaped o ≡ false → IsTyped o t rest (cond x 4 0)
    by4 true e plain =
        let p0 = and_parts _ _ e in
        let p1 = and_parts _ _ p0.0 in
        let p2 = and_parts _ _ p1.0 in
        let p3 = and_parts _ _ p2.0 in
        let p4 = and_parts _ _ p3.0 in
        let p5 = and_parts _ _ p4.0 in
        all_typed (take 4 (o ∷ t)) rest
        (fronts 3 o t (lead_plain 240 244 o (omega arith) p5.0) (λ h. tail_plain (octet_at 0 t) p5.1) (λ h. tail_plain (octet_at 1 t) p4.1) (λ h. tail_plain (octet_at 2 t) p3.1) (omega arith))
    by4 false e plain = escape_typed o rest few (none_unseen o plain) ∙ sym (ap (λ (l : List ℕ). l ++ strict_from false rest) (append-nil (octet_text o)))

    by3 : (x : Bool) → is_three o (octet_at 0 t) (octet_at 1 t) ≡ x → is_one dots.Escaped o ≡ false → IsTyped o t rest (cond x 3 (cond (is_four o (octet_at 0 t) (octet_at 1 t) (octet_at 2 t)) 4 0))
    by3 true e plain =
        let p0 = and_parts _ _ e in
        let p1 = and_parts _ _ p0.0 in
        let p2 = and_parts _ _ p1.0 in
        let p3 = and_parts _ _ p2.0 in
        let p4 = and_parts _ _ p3.0 in
        all_typed (take 3 (o ∷ t)) rest
        (fronts 2 o t (lead_plain 224 239 o (omega arith) p4.0) (λ h. tail_plain (octet_at 0 t) p4.1) (λ h. tail_plain (octet_at 1 t) p3.1) (λ h. absurd (omega (arith, h))) (omega arith))
    by3 false e plain = by4 (is_four o (octet_at 0 t) (octet_at 1 t) (octet_at 2 t)) refl plain

    by2 : (x : Bool) → is_two o (octet_at 0 t) ≡ x → is_one dots.Escaped o ≡ false
        → IsTyped o t rest (cond x 2 (cond (is_three o (octet_at 0 t) (octet_at 1 t)) 3 (cond (is_four o (octet_at 0 t) (octet_at 1 t) (octet_at 2 t)) 4 0)))
    by2 true e plain =
        let p0 = and_parts _ _ e in
        let p1 = and_parts _ _ p0.0 in
        let p2 = and_parts _ _ p1.0 in
        all_typed (take 2 (o ∷ t)) rest
        (fronts 1 o t (lead_plain 194 223 o (omega arith) p2.0) (λ h. tail_plain (octet_at 0 t) p2.1) (λ h. absurd (omega (arith, h))) (λ h. absurd (omega (arith, h))) (omega arith))
    by2 false e plain = by3 (is_three o (octet_at 0 t) (octet_at 1 t)) refl plain

    by1 : (x : Bool) → is_one dots.Escaped o ≡ x
        → IsTyped o t rest (cond x 1 (cond (is_two o (octet_at 0 t)) 2 (cond (is_three o (octet_at 0 t) (octet_at 1 t)) 3 (cond (is_four o (octet_at 0 t) (octet_at 1 t) (octet_at 2 t)) 4 0))))
    by1 true e = all_typed (o ∷ []) rest (one_plain o e, tt)
    by1 false e = by2 (is_two o (octet_at 0 t)) refl e

size_some : (text : List ℕ) → 1 ≤ first_size dots.Escaped text
size_some text = by (plain_size dots.Escaped text)
  where
    by : (n : ℕ) → 1 ≤ max n 1
    by zero = omega arith
    by (suc n) = grind (arith, nat_tests)

-- ---- texts

text_typed : (n : ℕ) (text rest : List ℕ) → length text ≤ n → AllByRecursion (λ o. o < 256) text
    → strict_from false (shown_characters n dots.Escaped text ++ rest) ≡ flat_map octet_text text ++ strict_from false rest
text_typed zero [] rest few h = refl
text_typed zero (o ∷ t) rest few h = absurd (omega (arith, few))
text_typed (suc n) [] rest few h = text_typed n [] rest (omega arith) tt
text_typed (suc n) (o ∷ t) rest few h =
    let k = first_size dots.Escaped (o ∷ t) in
    let some = size_some (o ∷ t) in
    let left = drop k (o ∷ t) in
    let fewer : length left ≤ n = let is = length-drop k (o ∷ t) in omega (arith, is, some, few) in
    ap (strict_from false) (append_assoc (first_piece dots.Escaped (o ∷ t)) (shown_characters n dots.Escaped left) rest)
    ∙ piece_typed o t (shown_characters n dots.Escaped left ++ rest) h.0
    ∙ ap (λ (l : List ℕ). flat_map octet_text (take k (o ∷ t)) ++ l) (text_typed n left rest fewer (all-drop (λ x. x < 256) k (o ∷ t) h))
    ∙ sym (append_assoc (flat_map octet_text (take k (o ∷ t))) (flat_map octet_text left) (strict_from false rest))
    ∙ ap (λ (l : List ℕ). l ++ strict_from false rest) (sym (flat_map-append octet_text (take k (o ∷ t)) left) ∙ ap (flat_map octet_text) (take-append-drop k (o ∷ t)))

label_typed : (label rest : List ℕ) → AllByRecursion (λ o. o < 256) label → strict_from false (shown_label label ++ rest) ≡ label_text label ++ strict_from false rest
label_typed label rest h =
    ap (strict_from false) (append_assoc (shown_characters (length label) dots.Escaped label) (dot ∷ []) rest)
    ∙ text_typed (length label) label (dot ∷ rest) (omega arith) h
    ∙ sym (append_assoc (flat_map octet_text label) (dot ∷ []) (strict_from false rest))

labels_typed : (name : Labels) → AllByRecursion IsLabel name → strict_from false (shown_name name) ≡ flat_map label_text name
labels_typed [] h = refl
labels_typed (label ∷ rest) h = label_typed label (shown_name rest) h.0.octets ∙ ap (λ (l : List ℕ). label_text label ++ l) (labels_typed rest h.1)

-- the name that a strict text is, or that it is with a dot behind it
abbrev read_or : Option Labels → List ℕ → Option Labels
read_or first text = elim first [ Some name ↦ Some name | None ↦ name_of_text (text ++ dot ∷ []) ]

pub reads_back : ReadsBack
reads_back [] is = refl
reads_back (label ∷ rest) is =
    let text = labels_typed (label ∷ rest) is.labels in
    ap (λ (t : List ℕ). read_or (name_of_text t) t) text
    ∙ ap (λ (o : Option Labels). read_or o (name_text (label ∷ rest))) (name_there (name_text (label ∷ rest)) (label ∷ rest) (text_of_name (label ∷ rest) is))
