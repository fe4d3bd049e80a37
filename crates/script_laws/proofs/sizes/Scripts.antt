-- A script has no more lines than its text has octets.
--     few-lines      a text has no more lines than octets
--     scripts-are-short
use Rattle.std.proofs.Common.{◌≡◌, ℕ, suc, ◌+◌, ◌≤◌, ◌==◌, Bool, true, false, cond, List, [], ◌∷◌, map, length, Option, Some, None, Result, Ok, Err, nat_lt, refl, sym, ◌∙◌, ap, subst, arith}
use Rattle.std.specs.List.{onto_first}
use Rattle.std.proofs.lemmas.Bool.{ltb-false}
use Rattle.std.proofs.lemmas.List.{length-map}
use Rattle.scripts.specs.Lines.{Word, ScriptLine, line_of}
use Rattle.scripts.specs.Scripts.{Known, nothing_known, client_words, fits, with_line, lines_from, lines_in, onto_line, lines_read, last_is_outside, max_script}
use Rattle.scripts.proofs.lines.SentOctets.{done, lines_or}
use Rattle.script_laws.specs.Turns.{ScriptsAreShort}

-- ---- the lines of a text

first-longer : (octet : ℕ) (lines : List (List ℕ)) → length (onto_first octet lines) ≤ suc (length lines)
first-longer octet [] = omega arith
first-longer octet (l ∷ lines) = omega arith

line-longer : (octet : ℕ) (lines : List (List ℕ)) → length (onto_line octet lines) ≤ suc (length lines)
line-longer octet lines = by (octet == 10)
  where
    by : (b : Bool) → length (cond {A = List (List ℕ)} b ([] ∷ lines) (onto_first octet lines)) ≤ suc (length lines)
    by true = omega arith
    by false = first-longer octet lines

pub few-lines : (text : List ℕ) → length (lines_in text) ≤ length text
few-lines [] = omega arith
few-lines (o ∷ os) = let rest = few-lines os in let one = line-longer o (lines_in os) in omega (arith, rest, one)

-- ---- the lines that are read

-- as many as there are, and none of them is outside
all-read : (all : List Word) (known : Known) (n : ℕ) (os : List (Option ScriptLine)) (lines : List ScriptLine) → lines_from all known n os ≡ done lines → length lines ≡ length os
all-read all known n [] lines e = sym (ap (λ (r : Result (List ScriptLine) ℕ). length (lines_or [] r)) e)
all-read all known n (None ∷ os) lines e = absurd cc
all-read all known n (Some line ∷ os) lines e = by (λ later more f. all-read all later (n + 1) os more f) (fits all known line) e
  where
    Rest : Type 0
    Rest = (later : Known) (more : List ScriptLine) → lines_from all later (n + 1) os ≡ done more → length more ≡ length os

    behind : Rest → (later : Known) (r : Result (List ScriptLine) ℕ) → lines_from all later (n + 1) os ≡ r → with_line line r ≡ done lines → length lines ≡ suc (length os)
    behind rest later (Err m) is e = absurd cc
    behind rest later (Ok more) is e = sym (ap (λ (r : Result (List ScriptLine) ℕ). length (lines_or [] r)) e) ∙ ap (λ k. suc k) (rest later more is)

    by : Rest → (o : Option Known) → (elim o as (λ _. Result (List ScriptLine) ℕ) [ None ↦ Err n | Some later ↦ with_line line (lines_from all later (n + 1) os) ]) ≡ done lines → length lines ≡ suc (length os)
    by rest None e = absurd cc
    by rest (Some later) e = behind rest later (lines_from all later (n + 1) os) refl e

-- where the last line is outside none is a script but where there is no line
last-outside : (all : List Word) (known : Known) (n : ℕ) (os : List (Option ScriptLine)) (lines : List ScriptLine) → lines_from all known n (last_is_outside os) ≡ done lines → os ≡ []
last-outside all known n [] lines e = refl
last-outside all known n (o ∷ []) lines e = absurd cc
last-outside all known n (None ∷ p ∷ os) lines e = absurd cc
last-outside all known n (Some line ∷ p ∷ os) lines e = by (λ later more f. last-outside all later (n + 1) (p ∷ os) more f) (fits all known line) e
  where
    Rest : Type 0
    Rest = (later : Known) (more : List ScriptLine) → lines_from all later (n + 1) (last_is_outside (p ∷ os)) ≡ done more → p ∷ os ≡ []

    behind : Rest → (later : Known) (r : Result (List ScriptLine) ℕ) → lines_from all later (n + 1) (last_is_outside (p ∷ os)) ≡ r → with_line line r ≡ done lines → Some line ∷ p ∷ os ≡ []
    behind rest later (Err m) is e = absurd cc
    behind rest later (Ok more) is e = let wrong : p ∷ os ≡ [] = rest later more is in absurd cc

    by : Rest → (o : Option Known) → (elim o as (λ _. Result (List ScriptLine) ℕ) [ None ↦ Err n | Some later ↦ with_line line (lines_from all later (n + 1) (last_is_outside (p ∷ os))) ]) ≡ done lines → Some line ∷ p ∷ os ≡ []
    by rest None e = absurd cc
    by rest (Some later) e = behind rest later (lines_from all later (n + 1) (last_is_outside (p ∷ os))) refl e

-- ---- the script

pub scripts-are-short : ScriptsAreShort
scripts-are-short text script read = by (nat_lt max_script (length text)) refl (all-read (client_words (lines_read text)) nothing_known 1 (lines_read text) script read) read
  where
    lines : List (Option ScriptLine)
    lines = map line_of (lines_in text)

    as_many : length lines ≤ length text
    as_many = let same = length-map (lines_in text) line_of in let few = few-lines text in omega (arith, same, few)

    within : (script lines text : ℕ) → script ≡ lines → lines ≤ text → text ≤ max_script → script ≤ max_script
    within script lines text is few short = omega (arith, is, few, short)

    none : (os : List (Option ScriptLine)) → os ≡ [] → length (last_is_outside os) ≤ max_script
    none os is = subst (λ (ps : List (Option ScriptLine)). length (last_is_outside ps) ≤ max_script) (sym is) (omega arith)

    by : (b : Bool) → nat_lt max_script (length text) ≡ b → length script ≡ length (cond {A = List (Option ScriptLine)} b (last_is_outside lines) lines)
        → lines_from (client_words (lines_read text)) nothing_known 1 (cond {A = List (Option ScriptLine)} b (last_is_outside lines) lines) ≡ Ok script → length script ≤ max_script
    by true long same e = subst (λ n. n ≤ max_script) (sym same) (none lines (last-outside (client_words (lines_read text)) nothing_known 1 lines script e))
    by false short same e = within (length script) (length lines) (length text) same as_many (ltb-false max_script (length text) short)
