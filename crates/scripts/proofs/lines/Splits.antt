-- Lines with too many words, or too few.
use Rattle.std.proofs.Common.{◌≡◌, ℕ, ◌+◌, ◌-◌, ◌<◌, ◌==◌, ◌⊎◌, Bool, cond, Option, Some, None, List, [], ◌∷◌, length, take, drop, refl, sym, subst, ◌∙◌, ap, arith, inl, inr}
use Rattle.std.specs.List.{position, onto_first}
use Rattle.std.proofs.lemmas.Bool.{cases_Bool}
use Rattle.scripts.specs.Lines.{words_in, Word, ScriptLine, hub_event, alone, line_behind}
use Rattle.scripts.specs.declared.line.HubEvent.TheVariants as hub_events
use Rattle.scripts.specs.declared.line.Kind.{Kind}
use Rattle.scripts.specs.declared.line.Kind.TheVariants as kinds
use Rattle.scripts.specs.KeptLines.{one_in, two_in, three_in, four_in, five_in}
use Rattle.scripts.proofs.lines.Pieces.{word_at}

abbrev point : ScriptLine
point = hub_event hub_events.Point

abbrev is_space : ℕ → Bool
is_space octet = octet == 32

onto_some : (x : ℕ) (ws : List Word) → 0 < length (onto_first x ws)
onto_some x [] = omega arith
onto_some x (w ∷ ws) = omega arith

-- there is a word
some_words : (octets : List ℕ) → 0 < length (words_in octets)
some_words [] = omega arith
some_words (x ∷ xs) = elim (cases_Bool (is_space x)) [
  | inl end ↦ subst (λ (b : Bool). 0 < length (cond b ([] ∷ words_in xs) (onto_first x (words_in xs)))) (sym end) (omega arith)
  | inr on ↦ subst (λ (b : Bool). 0 < length (cond b ([] ∷ words_in xs) (onto_first x (words_in xs)))) (sym on) (onto_some x (words_in xs))
]

-- where two words or more are too many
at_more : {X : Type 0} (f : List Word → Option X) → ((v w : Word) (ws : List Word) → f (v ∷ w ∷ ws) ≡ None) → (v : Word) (ws : List Word) → 0 < length ws → f (v ∷ ws) ≡ None
at_more f none v [] some = absurd (omega arith)
at_more f none v (w ∷ ws) some = none v w ws

pub two_parts : {X : Type 0} (f : List Word → Option X) → ((v w : Word) (ws : List Word) → f (v ∷ w ∷ ws) ≡ None) → (octets : List ℕ) (n : ℕ) → Some n ≡ position is_space octets → f (words_in octets) ≡ None
two_parts f none octets n h =
    let rest = take (length octets - (n + 1)) (drop (n + 1) octets) in
    ap f (word_at octets n h) ∙ at_more f none (take n octets) (words_in rest) (some_words rest)

-- more words than five, four, three, two or one
pub five_of_more : (a b c d text : List ℕ) (ws : List Word) (n : ℕ) → ws ≡ a ∷ b ∷ c ∷ d ∷ words_in text → Some n ≡ position is_space text → five_in ws ≡ None
five_of_more a b c d text ws n e h = ap five_in e ∙ two_parts (λ rest. five_in (a ∷ b ∷ c ∷ d ∷ rest)) (λ v w rest. refl) text n h

pub four_of_more : (a b c text : List ℕ) (ws : List Word) (n : ℕ) → ws ≡ a ∷ b ∷ c ∷ words_in text → Some n ≡ position is_space text → four_in ws ≡ None
four_of_more a b c text ws n e h = ap four_in e ∙ two_parts (λ rest. four_in (a ∷ b ∷ c ∷ rest)) (λ v w rest. refl) text n h

pub three_of_more : (a b text : List ℕ) (ws : List Word) (n : ℕ) → ws ≡ a ∷ b ∷ words_in text → Some n ≡ position is_space text → three_in ws ≡ None
three_of_more a b text ws n e h = ap three_in e ∙ two_parts (λ rest. three_in (a ∷ b ∷ rest)) (λ v w rest. refl) text n h

pub two_of_more : (a text : List ℕ) (ws : List Word) (n : ℕ) → ws ≡ a ∷ words_in text → Some n ≡ position is_space text → two_in ws ≡ None
two_of_more a text ws n e h = ap two_in e ∙ two_parts (λ rest. two_in (a ∷ rest)) (λ v w rest. refl) text n h

pub one_of_more : (text : List ℕ) (n : ℕ) → Some n ≡ position is_space text → one_in (words_in text) ≡ None
one_of_more text n h = two_parts one_in (λ v w ws. refl) text n h

-- a point line has no words behind its first
no_point : (ws : List Word) → 0 < length ws → alone point ws ≡ None
no_point [] some = absurd (omega arith)
no_point (w ∷ ws) some = refl

-- nor does a line outside the grammar say anything
pub nothing_behind : (kind : Kind) (text : List ℕ) → (kind ≡ kinds.Point) ⊎ (kind ≡ kinds.Other) → None ≡ line_behind kind (words_in text)
nothing_behind kind text (inl is_point) = sym (ap (λ (k : Kind). line_behind k (words_in text)) is_point ∙ no_point (words_in text) (some_words text))
nothing_behind kind text (inr other) = sym (ap (λ (k : Kind). line_behind k (words_in text)) other)
