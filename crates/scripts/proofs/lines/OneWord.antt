-- A text that is to be one word of hexadecimal digits.
--     digits_alone, none_alone      what such a text says, by the octets that it stands for
use Rattle.std.proofs.Common.{◌≡◌, ℕ, Bool, true, false, cond, eqb, ◌||◌, Option, Some, None, List, [], ◌∷◌, length, refl, sym, ◌∙◌, ap, subst, arith}
use Rattle.std.specs.Prelude.{option_map, codes, nat_lt}
use Rattle.std.specs.Char.{is_ascii_hexdigit}
use Rattle.std.specs.List.{AllByRecursion, onto_first, join_with_byte}
use Rattle.std.specs.Result.{result_ok}
use Rattle.std.specs.Str.{bytes_eq}
use Rattle.std.proofs.lemmas.Bool.Decides.{nat_tests}
use Rattle.std.proofs.lemmas.List.Splits.{join_with_byte-slice_split}
use Rattle.std.proofs.lemmas.Slice.Eq.{bytes_eq-Decides}
use Rattle.push_base.specs.Cases.{is_empty}
use Rattle.push_base.specs.Hexadecimal.{first_other, octets_of_digits, octets_or_fault, hex_octets}
use Rattle.push_base.proofs.HexLaws.{digits_all}
use Rattle.scripts.specs.Lines.{words_in, most_digits, Word, ScriptLine, of_octets, octets_written}

no_space : (c : ℕ) → is_ascii_hexdigit c ≡ true → eqb c 32 ≡ false
no_space c h = grind (arith, nat_tests)

digits_whole : (w : Word) → AllByRecursion (λ c. is_ascii_hexdigit c ≡ true) w → words_in w ≡ w ∷ []
digits_whole [] h = refl
digits_whole (c ∷ cs) h =
    ap (λ (b : Bool). cond b ([] ∷ words_in cs) (onto_first c (words_in cs))) (no_space c h.0) ∙ ap (onto_first c) (digits_whole cs h.1)

read_whole : (text o : List ℕ) → result_ok (hex_octets text) ≡ Some o → words_in text ≡ text ∷ []
read_whole text o e = by (first_other text) refl e
  where
    by : (other : Option ℕ) → first_other text ≡ other → result_ok (octets_or_fault other (octets_of_digits text)) ≡ Some o → words_in text ≡ text ∷ []
    by None none e = digits_whole text (digits_all text none)
    by (Some k) is e = absurd cc

written_whole : (text o : List ℕ) → octets_written text ≡ Some o → words_in text ≡ text ∷ []
written_whole text o e = by (bytes_eq text (codes "-")) (is_empty text || nat_lt most_digits (length text)) refl e
  where
    by : (none long : Bool) → bytes_eq text (codes "-") ≡ none → cond none (Some []) (cond long None (result_ok (hex_octets text))) ≡ Some o → words_in text ≡ text ∷ []
    by true long is e = subst (λ (t : List ℕ). words_in t ≡ t ∷ []) (sym ((bytes_eq-Decides text (codes "-")).0 is)) refl
    by false true is e = absurd cc
    by false false is e = read_whole text o e

pub digits_alone : (line : List ℕ → ScriptLine) (text o : List ℕ) → Some o ≡ octets_written text → Some (line o) ≡ of_octets line (words_in text)
digits_alone line text o e = ap (option_map line) e ∙ ap (of_octets line) (sym (written_whole text o (sym e)))

pub none_alone : (line : List ℕ → ScriptLine) (text : List ℕ) → None ≡ octets_written text → None ≡ of_octets line (words_in text)
none_alone line text e = by (words_in text) (join_with_byte-slice_split 32 text)
  where
    by : (ws : List Word) → join_with_byte 32 ws ≡ text → None ≡ of_octets line ws
    by [] h = refl
    by (w ∷ []) h = ap (option_map line) (e ∙ ap octets_written (sym h))
    by (w ∷ v ∷ ws) h = refl
