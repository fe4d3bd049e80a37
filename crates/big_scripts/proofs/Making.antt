-- A script, line by line.
use Rattle.std.proofs.Common.{◌≡◌, ℕ, zero, suc, ◌+◌, ◌*◌, ◌%◌, ◌==◌, ◌≤◌, Bool, true, false, List, [], ◌∷◌, ◌++◌, length, refl, sym, ◌∙◌, ap, arith, codes, length-append}
use Rattle.std.specs.Prelude.{if◌then◌else◌}
use Rattle.std.proofs.lemmas.List.{append_assoc}
use Rattle.std.proofs.lemmas.Grind.{flat_map-append}
use Rattle.scripts.specs.Words.{line, ended_lines}
use Rattle.big_scripts.specs.Scripts.{update_line, update_of_round, hear_of_round, opening_lines, closing_lines, round_lines, rounds_to, script_octets}

-- three pieces one behind another
pub appended : (before first second third one two three : List ℕ) → one ≡ before ++ first → two ≡ one ++ second → three ≡ two ++ third
    → (a b : List ℕ) → first ≡ a → second ≡ b → three ≡ before ++ (a ++ (b ++ third))
appended before first second third one two three first_on second_on third_on a b a_is b_is =
    third_on
    ∙ ap (λ l. l ++ third) (second_on ∙ ap (λ l. l ++ second) first_on)
    ∙ ap (λ l. before ++ l ++ second ++ third) a_is
    ∙ ap (λ l. before ++ a ++ l ++ third) b_is
    ∙ append_assoc (before ++ a) b third
    ∙ append_assoc before a (b ++ third)

ended-append : (front back : List (List ℕ)) → ended_lines (front ++ back) ≡ ended_lines front ++ ended_lines back
ended-append front back = flat_map-append (λ l. line l) front back

-- what a script has before a round
abbrev pub front_of : ℕ → List ℕ
front_of rounds = ended_lines (opening_lines ++ rounds_to rounds)

pub round_more : (n : ℕ) (before now : List ℕ) → before ≡ front_of n → now ≡ before ++ ended_lines (round_lines (n + 1)) → now ≡ front_of (n + 1)
round_more n before now so_far one =
    one
    ∙ ap (λ l. l ++ ended_lines (round_lines (n + 1))) so_far
    ∙ sym (ended-append (opening_lines ++ rounds_to n) (round_lines (n + 1)))
    ∙ ap ended_lines (append_assoc opening_lines (rounds_to n) (round_lines (n + 1)))
    ∙ ap front_of (let e : suc n ≡ n + 1 = omega arith in e)

pub closed : (n : ℕ) (before now : List ℕ) → before ≡ front_of n → now ≡ before ++ ended_lines closing_lines → now ≡ script_octets n
closed n before now so_far last =
    last
    ∙ ap (λ l. l ++ ended_lines closing_lines) so_far
    ∙ sym (ended-append (opening_lines ++ rounds_to n) closing_lines)

-- ---- a script is short

update_by : (first second : Bool) → length (if first then update_line (codes "0001") (codes "0001") (codes "0000003c") (codes "01")
    else if second then update_line (codes "0003") (codes "0001") (codes "0000003c") (codes "02")
    else update_line (codes "0002") (codes "00fe") (codes "00000000") (codes "01")) ≡ 101
update_by true second = refl
update_by false true = refl
update_by false false = refl

update_length : (i : ℕ) → length (update_of_round i) ≡ 101
update_length i = update_by (i % 3 == 1) (i % 3 == 2)

hear_length : (i : ℕ) → length (hear_of_round i) ≡ 79
hear_length i = refl

round_length : (i : ℕ) → length (ended_lines (round_lines i)) ≤ 210
round_length i =
    let rest = ended_lines (codes "emit c 100" ∷ codes "down c 60" ∷ []) in
    let few : length rest ≡ 21 = refl in
    omega (
      arith,
      length-append (line (update_of_round i)) (line (hear_of_round i) ++ rest),
      length-append (line (hear_of_round i)) rest,
      length-append (update_of_round i) (10 ∷ []),
      length-append (hear_of_round i) (10 ∷ []),
      update_length i,
      hear_length i,
      few,
    )

rounds_length : (n : ℕ) → length (ended_lines (rounds_to n)) ≤ 210 * n
rounds_length zero = omega arith
rounds_length (suc n) =
    let is : length (ended_lines (rounds_to n ++ round_lines (n + 1))) ≡ length (ended_lines (rounds_to n)) + length (ended_lines (round_lines (n + 1))) =
    ap length (ended-append (rounds_to n) (round_lines (n + 1))) ∙ length-append (ended_lines (rounds_to n)) (ended_lines (round_lines (n + 1))) in
    omega (arith, is, rounds_length n, round_length (n + 1))

pub script_length : (rounds : ℕ) → rounds ≤ 1000 → length (script_octets rounds) ≤ 211000
script_length rounds few =
    let front = ended_lines (opening_lines ++ rounds_to rounds) in
    let is : length (script_octets rounds) ≡ length front + length (ended_lines closing_lines) =
    ap length (ended-append (opening_lines ++ rounds_to rounds) closing_lines) ∙ length-append front (ended_lines closing_lines) in
    let front_is : length front ≡ length (ended_lines opening_lines) + length (ended_lines (rounds_to rounds)) =
    ap length (ended-append opening_lines (rounds_to rounds)) ∙ length-append (ended_lines opening_lines) (ended_lines (rounds_to rounds)) in
    let opening : length (ended_lines opening_lines) ≤ 200 = omega arith in
    let closing : length (ended_lines closing_lines) ≤ 200 = omega arith in
    omega (arith, is, front_is, opening, closing, rounds_length rounds, few)
