-- Characters and labels, one behind the other.
use Rattle.std.proofs.Common.{◌≡◌, ℕ, zero, suc, ◌-◌, ◌<◌, ◌≤◌, List, ◌∷◌, [], ◌++◌, length, drop, arith, refl, sym, ◌∙◌, ap, append_assoc, length-append}
use Rattle.std.proofs.lemmas.List.{take_at, drop_at}
use Rattle.std.specs.List.{AllByRecursion}
use Rattle.dnsname.specs.Names.{Labels, IsLabel, IsName, octets, label_octets, labels_octets}
use Rattle.readable.specs.declared.characters.Dots.{Dots}
use Rattle.readable.specs.Shown.{first_piece, first_size, shown_characters, shown_parts, shown_before, shown_label, shown_labels, shown_name, label_front, label_rest}

pub one_fewer : (n : ℕ) → (n ≡ 0 → ⊥) → n ≡ suc (n - 1)
one_fewer n some = omega (arith, some)

pub character_more : (out now whole text rest : List ℕ) (left less : ℕ) (ds : Dots) → left ≡ suc less → now ≡ out ++ first_piece ds text → rest ≡ drop (first_size ds text) text
    → out ++ shown_characters left ds text ≡ whole → now ++ shown_characters less ds rest ≡ whole
character_more out now whole text rest left less ds is now_is rest_is so_far =
    ap (λ (t : List ℕ). t ++ shown_characters less ds rest) now_is
    ∙ append_assoc out (first_piece ds text) (shown_characters less ds rest)
    ∙ ap (λ (r : List ℕ). out ++ (first_piece ds text ++ shown_characters less ds r)) rest_is
    ∙ ap (λ (n : ℕ). out ++ shown_characters n ds text) (sym is)
    ∙ so_far

-- ---- labels

-- an empty label ends a name
pub before_some : (label rest : List ℕ) → 1 ≤ length label → shown_before label rest ≡ shown_label label ++ rest
before_some [] rest some = absurd (omega (arith, some))
before_some (o ∷ label) rest some = refl

pub octets_more : (label : List ℕ) (rest : Labels) → octets (label ∷ rest) ≡ length label ∷ (label ++ octets rest)
octets_more label rest = append_assoc (label_octets label) (labels_octets rest) (0 ∷ [])

fewer : (name : Labels) → length name < length (octets name)
fewer [] = omega arith
fewer (label ∷ rest) = omega (arith, fewer rest, ap length (octets_more label rest), length-append label (octets rest))

parts : (n : ℕ) (name : Labels) → length name < n → AllByRecursion IsLabel name → shown_parts n (octets name) ≡ shown_name name
parts zero name few labels = absurd (omega (arith, few))
parts (suc n) [] few labels = refl
parts (suc n) (label ∷ rest) few labels =
    ap (shown_parts (suc n)) (octets_more label rest)
    ∙ ap (λ (l : List ℕ). shown_before l (shown_parts n (drop (length label) (label ++ octets rest)))) (take_at label (octets rest) (length label) refl)
    ∙ ap (λ (r : List ℕ). shown_before label (shown_parts n r)) (drop_at label (octets rest) (length label) refl)
    ∙ ap (shown_before label) (parts n rest (omega (arith, few)) labels.1)
    ∙ before_some label (shown_name rest) labels.0.some

-- what is shown of a name's octets is what is shown of its labels
pub labels_shown : (name : Labels) → IsName name → shown_labels (octets name) ≡ shown_name name
labels_shown name is = parts (length (octets name)) name (fewer name) is.labels

pub label_more : (out now whole text rest label : List ℕ) (left less : ℕ) → left ≡ suc less → label ≡ label_front text → 1 ≤ length label → rest ≡ label_rest text → now ≡ out ++ shown_label label
    → out ++ shown_parts left text ≡ whole → now ++ shown_parts less rest ≡ whole
label_more out now whole text rest label left less is front some rest_is now_is so_far =
    ap (λ (t : List ℕ). t ++ shown_parts less rest) now_is
    ∙ append_assoc out (shown_label label) (shown_parts less rest)
    ∙ ap (λ (r : List ℕ). out ++ (shown_label label ++ shown_parts less r)) rest_is
    ∙ ap (λ (t : List ℕ). out ++ t) (sym (before_some label (shown_parts less (label_rest text)) some))
    ∙ ap (λ (l : List ℕ). out ++ shown_before l (shown_parts less (label_rest text))) front
    ∙ ap (λ (n : ℕ). out ++ shown_parts n text) (sym is)
    ∙ so_far
