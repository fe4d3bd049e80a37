-- What a peer sends in a line of a script has at most 65,537 octets.
--     sends-short      the law, over the lines of a script
use Rattle.std.proofs.Common.{◌≡◌, ℕ, ◌*◌, ◌≤◌, Bool, true, false, List, ◌∷◌, ◌++◌, length, Some, Ok, nat_le, nat_lt, arith}
use Rattle.std.proofs.lemmas.Bool.Decides.{nat_tests}
use Rattle.push_base.proofs.HexLaws.{read_is_spelled}
use Rattle.dnsname.specs.Names.{Labels, octets, is_name}
use Rattle.std.specs.List.{list_all}
use Rattle.dnsname.proofs.Decisions.{is_name-Decides, and_true}
use Rattle.scripts.specs.Lines.{Word, ScriptLine, send, octets_written}
use Rattle.scripts.specs.Scripts.{script_of}
use Rattle.replay.proofs.worlds.BetweenLines.{each-behind}
use Rattle.scripts.proofs.lines.LineWords.{digits_size}
use Rattle.scripts.proofs.lines.SentOctets.{sent_by, written-by, sends-pass}

abbrev pub are_few : List ℕ → Bool
are_few octets = nat_le (length octets) 65537

few_digits : (n m : ℕ) → 2 * n ≡ m → nat_lt 131074 m ≡ false → n ≤ 65537
few_digits n m e h = grind (arith, nat_tests)

is_le : (n : ℕ) → n ≤ 65537 → nat_le n 65537 ≡ true
is_le n h = grind (arith, nat_tests)

pub le_is : (n : ℕ) → nat_le n 65537 ≡ true → n ≤ 65537
le_is n h = grind (arith, nat_tests)

pub written_few : (h octets : List ℕ) → octets_written h ≡ Some octets → are_few octets ≡ true
written_few h octets e =
    is_le (length octets) (written-by (λ (o : List ℕ). length o ≤ 65537) h octets (omega arith) (λ o small read. few_digits (length o) (length h) (digits_size h o (read_is_spelled h o read)) small) e)

pub named_few : (name : Labels) → is_name name ≡ true → are_few (octets name) ≡ true
named_few name is = is_le (length (octets name)) (few (length (octets name)) ((is_name-Decides name).0 is).size)
  where
    few : (n : ℕ) → n ≤ 255 → n ≤ 65537
    few n h = omega arith

pub sends-short : (text : List ℕ) (before behind : List ScriptLine) (w : Word) (octets : List ℕ) → script_of text ≡ Ok (before ++ send w octets ∷ behind) → length octets ≤ 65537
sends-short text before behind w octets read =
    le_is (length octets) (and_true (are_few octets) true (each-behind (λ (line : ScriptLine). list_all are_few (sent_by line) ≡ true) before (send w octets ∷ behind) (sends-pass are_few written_few named_few text (before ++ send w octets ∷ behind) read)).0).0
