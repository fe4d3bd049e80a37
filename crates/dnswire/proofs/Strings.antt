-- Counted strings, by their test and by what they are.
use Rattle.std.proofs.Common.{◌≡◌, ℕ, zero, suc, ◌<◌, true, List, [], ◌∷◌, ◌++◌, length, refl, sym, ap, ◌∙◌, arith}
use Rattle.std.specs.Prelude.{flat_map, All}
use Rattle.std.specs.List.{AllByRecursion}
use Rattle.std.proofs.lemmas.List.Elements.{All-nil, All-cons}
use Rattle.rrset.specs.Rdata.{are_strings}
use Rattle.rrset.specs.Spelling.{SpellsStrings}

abbrev pub counted : List ℕ → List ℕ
counted t = length t ∷ t

-- ---- what strings are passes the test

strings-behind : (t rest : List ℕ) → are_strings (length t) (t ++ rest) ≡ are_strings 0 rest
strings-behind [] rest = refl
strings-behind (c ∷ t) rest = strings-behind t rest

are_strings-texts : (texts : List (List ℕ)) → are_strings 0 (flat_map counted texts) ≡ true
are_strings-texts [] = refl
are_strings-texts (t ∷ texts) = strings-behind t (flat_map counted texts) ∙ are_strings-texts texts

pub are_strings-spelled : (bytes : List ℕ) → SpellsStrings bytes → are_strings 0 bytes ≡ true
are_strings-spelled bytes (texts, short, is) = ap (are_strings 0) is ∙ are_strings-texts texts

-- ---- what passes the test is strings

-- the rest of a string that has begun, and whole strings
record Begun (wanted : ℕ) (bytes : List ℕ) : Type 0 where
  pub front : List ℕ
  pub texts : List (List ℕ)
  pub long : length front ≡ wanted
  pub short : All (λ t. length t < 256) texts
  pub is : bytes ≡ front ++ flat_map counted texts

begun : (wanted : ℕ) (bytes : List ℕ) → AllByRecursion (λ o. o < 256) bytes → are_strings wanted bytes ≡ true → Begun wanted bytes
begun zero [] below e = record { front = []; texts = []; long = refl; short = All-nil (λ t. length t < 256); is = refl }
begun (suc wanted) [] below e = absurd cc
begun zero (c ∷ cs) below e =
    let rest = begun c cs below.1 e in
    let small : length rest.front < 256 = omega (arith, rest.long, below.0) in
    record {
      front = [];
      texts = rest.front ∷ rest.texts;
      long = refl;
      short = All-cons (λ t. length t < 256) rest.front rest.texts small rest.short;
      is = ap (λ (n : ℕ). n ∷ cs) (sym rest.long) ∙ ap (λ (x : List ℕ). length rest.front ∷ x) rest.is;
    }
begun (suc wanted) (c ∷ cs) below e =
    let rest = begun wanted cs below.1 e in
    record { front = c ∷ rest.front; texts = rest.texts; long = ap (λ (n : ℕ). suc n) rest.long; short = rest.short; is = ap (λ (x : List ℕ). c ∷ x) rest.is }

nothing_left : (front rest : List ℕ) → length front ≡ 0 → front ++ rest ≡ rest
nothing_left [] rest e = refl
nothing_left (c ∷ front) rest e = absurd (omega (arith, e))

pub strings_found : (bytes : List ℕ) → AllByRecursion (λ o. o < 256) bytes → are_strings 0 bytes ≡ true → SpellsStrings bytes
strings_found bytes below e =
    let all = begun 0 bytes below e in
    (all.texts, all.short, all.is ∙ nothing_left all.front (flat_map counted all.texts) all.long)
