-- What is known of the lines of a script that was read.
--     read-script      each line may stand where it stands, is within bounds, and names no client but those of the script
--     read-words      the words of its clients are words
--     follow-front      so may the first ones
use Rattle.std.proofs.Common.{◌≡◌, ℕ, ◌+◌, Bool, true, false, cond, ◌||◌, List, [], ◌∷◌, ◌++◌, map, length, Option, Some, None, Result, Ok, Err, nat_lt, refl, sym, ◌∙◌, ap, subst}
use Rattle.std.specs.List.{AllByRecursion, cons_option}
use Rattle.std.specs.Str.{bytes_eq}
use Rattle.dsotlv.proofs.Results.{same_found}
use Rattle.pushserver.proofs.hub_steps.Pairs.{all-weaken}
use Rattle.pushserver.proofs.session_steps.Lists.{each-both}
use Rattle.scripts.specs.Lines.{Word, ScriptLine, joining, line_of}
use Rattle.scripts.specs.Scripts.{Known, nothing_known, client_word, client_words, is_among, fits, with_line, lines_from, lines_in, lines_read, last_is_outside, max_script, script_of}
use Rattle.scripts.proofs.lines.SentOctets.{done, lines_or}
use Rattle.scripts.proofs.lines.SameWords.{word_itself}
use Rattle.script_laws.specs.Lines.{IsWord, AreWithin, IsNamed, IsRead, Follow}
use Rattle.script_laws.proofs.lines.ReadLines.{line_within}

-- ---- lines that were read, or are outside

-- P of a line, if it was read
abbrev OfLine : (ScriptLine → Type 0) → Option ScriptLine → Type 0
OfLine P o = (line : ScriptLine) → o ≡ Some line → P line

module _ (P : ScriptLine → Type 0) (all : List Word) where
  abbrev Follows : Known → List ScriptLine → Type 0
  Follows known lines = Follow all known lines × AllByRecursion P lines

  each-follows : (known : Known) (n : ℕ) (os : List (Option ScriptLine)) (lines : List ScriptLine) → AllByRecursion (OfLine P) os → lines_from all known n os ≡ done lines → Follows known lines
  each-follows known n [] lines each e = subst (Follows known) (ap (lines_or []) e) (tt, tt)
  each-follows known n (None ∷ os) lines each e = absurd cc
  each-follows known n (Some line ∷ os) lines each e = by (λ later more f. each-follows later (n + 1) os more each.1 f) (fits all known line) refl e
    where
      Rest : Type 0
      Rest = (later : Known) (more : List ScriptLine) → lines_from all later (n + 1) os ≡ done more → Follows later more

      behind : Rest → (later : Known) → fits all known line ≡ Some later → (r : Result (List ScriptLine) ℕ) → lines_from all later (n + 1) os ≡ r → with_line line r ≡ done lines → Follows known lines
      behind rest later fit (Err m) is e = absurd cc
      behind rest later fit (Ok more) is e = (let r = rest later more is in subst (Follows known) (ap (lines_or []) e) ((later, fit, r.0), (each.0 line refl, r.1)))

      by : Rest → (o : Option Known) → fits all known line ≡ o → (elim o as (λ _. Result (List ScriptLine) ℕ) [ None ↦ Err n | Some later ↦ with_line line (lines_from all later (n + 1) os) ]) ≡ done lines → Follows known lines
      by rest None fit e = absurd cc
      by rest (Some later) fit e = behind rest later fit (lines_from all later (n + 1) os) refl e

-- ---- bounds

texts_within : (texts : List (List ℕ)) → AllByRecursion (OfLine AreWithin) (map line_of texts)
texts_within [] = tt
texts_within (t ∷ ts) = (line_within t, texts_within ts)

last_within : (os : List (Option ScriptLine)) → AllByRecursion (OfLine AreWithin) os → AllByRecursion (OfLine AreWithin) (last_is_outside os)
last_within [] all = tt
last_within (o ∷ []) all = ((λ line e. absurd cc), tt)
last_within (o ∷ p ∷ os) all = (all.0, last_within (p ∷ os) all.1)

read_within : (text : List ℕ) → AllByRecursion (OfLine AreWithin) (lines_read text)
read_within text = by (nat_lt max_script (length text))
  where
    by : (b : Bool) → AllByRecursion (OfLine AreWithin) (cond b (last_is_outside (map line_of (lines_in text))) (map line_of (lines_in text)))
    by true = last_within (map line_of (lines_in text)) (texts_within (lines_in text))
    by false = texts_within (lines_in text)

-- ---- words

abbrev Among : List Word → List Word → Type 0
Among words all = (w : Word) → is_among words w ≡ true → is_among all w ≡ true

or_true : (a b : Bool) → b ≡ true → (a || b) ≡ true
or_true true b h = refl
or_true false b h = h

all_named : (os : List (Option ScriptLine)) (all : List Word) → Among (client_words os) all → AllByRecursion (OfLine (IsNamed all)) os
all_named [] all h = tt
all_named (None ∷ os) all h = ((λ line e. absurd cc), all_named os all h)
all_named (Some l ∷ os) all h = by (client_word l) refl (λ k. all_named os all k) h
  where
    by : (o : Option Word) → client_word l ≡ o → (Among (client_words os) all → AllByRecursion (OfLine (IsNamed all)) os)
        → Among (cons_option o (client_words os)) all → AllByRecursion (OfLine (IsNamed all)) (Some l ∷ os)
    by None is rest h =
        let here : OfLine (IsNamed all) (Some l) = λ line e w f. (let wrong : None ≡ Some w = sym is ∙ ap client_word (same_found l line e) ∙ f in absurd cc) in
        (here, rest h)
    by (Some v) is rest h =
        let here : OfLine (IsNamed all) (Some l) = λ line e w f.
        let same : v ≡ w = same_found v w (sym is ∙ ap client_word (same_found l line e) ∙ f) in
        h w (subst (λ (u : Word). is_among (u ∷ client_words os) w ≡ true) (sym same) (ap (λ (b : Bool). b || is_among (client_words os) w) (word_itself w))) in
        (here, rest (λ w k. h w (or_true (bytes_eq w v) (is_among (client_words os) w) k)))

client_named : (line : ScriptLine) (w : Word) → client_word line ≡ Some w → AreWithin line → IsWord w
client_named (joining v is_lone) w e within = subst IsWord (same_found v w e) within
client_named _ w e within = absurd cc

all_words : (os : List (Option ScriptLine)) → AllByRecursion (OfLine AreWithin) os → AllByRecursion IsWord (client_words os)
all_words [] all = tt
all_words (None ∷ os) all = all_words os all.1
all_words (Some l ∷ os) all = by (client_word l) refl (all_words os all.1)
  where
    by : (o : Option Word) → client_word l ≡ o → AllByRecursion IsWord (client_words os) → AllByRecursion IsWord (cons_option o (client_words os))
    by None is rest = rest
    by (Some w) is rest = (client_named l w is (all.0 l refl), rest)

pub read-words : (text : List ℕ) → AllByRecursion IsWord (client_words (lines_read text))
read-words text = all_words (lines_read text) (read_within text)

-- ---- the script

pub read-script : (text : List ℕ) (script : List ScriptLine) → script_of text ≡ Ok script
    → Follow (client_words (lines_read text)) nothing_known script × AllByRecursion (IsRead (client_words (lines_read text))) script
read-script text script read =
    let all = client_words (lines_read text) in
    let both : AllByRecursion (OfLine (λ line. AreWithin line × IsNamed all line)) (lines_read text) =
    each-both (OfLine AreWithin) (OfLine (IsNamed all)) (OfLine (λ line. AreWithin line × IsNamed all line)) (λ o a b line e. (a line e, b line e)) (lines_read text) (read_within text) (all_named (lines_read text) all (λ w h. h)) in
    let follows = each-follows (λ line. AreWithin line × IsNamed all line) all nothing_known 1 (lines_read text) script both read in
    (follows.0, all-weaken (λ line. AreWithin line × IsNamed all line) (IsRead all) (λ line a. record { within = a.0; named = a.1 }) script follows.1)

pub follow-front : (all : List Word) (known : Known) (before after : List ScriptLine) → Follow all known (before ++ after) → Follow all known before
follow-front all known [] after f = tt
follow-front all known (line ∷ before) after f = (f.0, f.1, follow-front all f.0 before after f.2)
