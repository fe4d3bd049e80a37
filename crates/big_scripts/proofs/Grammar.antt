-- The scripts of a number are within the grammar.
use Rattle.std.proofs.Common.{◌≡◌, inl, inr, ℕ, zero, suc, ◌+◌, ◌%◌, ◌==◌, ◌<◌, ◌≤◌, Bool, true, false, cond, Option, Some, None, Ok, List, [], ◌∷◌, ◌++◌, map, length, refl, sym, ◌∙◌, ap, subst, arith, codes}
use Rattle.std.specs.Prelude.{not, ◌&&◌, nat_lt, if◌then◌else◌, Result}
use Rattle.std.specs.List.{list_all, onto_first}
use Rattle.std.specs.Str.{bytes_eq}
use Rattle.std.proofs.lemmas.Bool.{cases_Bool, cases_order, and_from, ltb-true}
use Rattle.std.proofs.lemmas.List.{map-append, append_assoc}
use Rattle.std.proofs.lemmas.List.Folds.{list_all-append}
use Rattle.std.proofs.lemmas.List.Elements.{filter_map-append}
use Rattle.std.proofs.lemmas.Slice.Eq.{bytes_eq-Decides}
use Rattle.push_base.specs.Hexadecimal.{hex_text}
use Rattle.push_base.specs.Optional.{◌>>=◌}
use Rattle.dnsname.proofs.Decisions.{and_true}
use Rattle.dnsname.specs.Text.{name}
use Rattle.history.specs.declared.entry.HomeKind.TheVariants as of_home
use Rattle.scripts.specs.Lines.{Word, ScriptLine, silent, head_line, joining, hub_event, link_event, client_call, client_passing, client_event, session_event, line_of}
use Rattle.scripts.specs.declared.line.HubEvent.{HubEvent}
use Rattle.scripts.specs.declared.line.LinkEvent.{LinkEvent}
use Rattle.scripts.specs.declared.line.Way.TheVariants as ways
use Rattle.scripts.specs.Scripts.{Known, nothing_known, client_word, client_words, lines_in, lines_left, lines_read, lines_from, with_line, script_of}
use Rattle.scripts.specs.Words.{line, ended_lines}
use Rattle.big_scripts.specs.Scripts.{update_line, update_of_round, hear_of_round, opening_lines, closing_lines, round_lines, rounds_to, script_lines, script_octets}
use Rattle.big_scripts.proofs.Making.{script_length}

-- ---- the lines of a text

abbrev is_inside : ℕ → Bool
is_inside octet = not (octet == 10)

abbrev is_one : List ℕ → Bool
is_one text = list_all is_inside text

line_first : (text rest : List ℕ) → is_one text ≡ true → lines_in (line text ++ rest) ≡ text ∷ lines_in rest
line_first [] rest inside = refl
line_first (o ∷ os) rest inside =
    let both = and_true (is_inside o) (is_one os) inside in
    elim (cases_Bool (o == 10)) [
      | inl end ↦ let wrong : false ≡ true = sym (ap not end) ∙ both.0 in cc wrong
      | inr on ↦
          ap (λ b. cond b ([] ∷ lines_in (line os ++ rest)) (onto_first o (lines_in (line os ++ rest)))) on
          ∙ ap (onto_first o) (line_first os rest both.1)
    ]

lines_of : (texts : List (List ℕ)) → list_all is_one texts ≡ true → lines_in (ended_lines texts) ≡ texts
lines_of [] inside = refl
lines_of (text ∷ texts) inside =
    let both = and_true (is_one text) (list_all is_one texts) inside in
    line_first text (ended_lines texts) both.0 ∙ ap (λ (ls : List (List ℕ)). text ∷ ls) (lines_of texts both.1)

-- ---- what is heard in a round

abbrev heard : ℕ → List ℕ
heard last = codes "hear lan 0000840000000001000000000168056c6f63616c0000010001000000780004c00002" ++ hex_text (last ∷ [])

abbrev is_hear : Option ScriptLine → Bool
is_hear (Some (link_event w event)) = bytes_eq w (codes "lan")
is_hear _ = false

abbrev IsHear : Option ScriptLine → Type 0
IsHear read = (event : LinkEvent) × (read ≡ Some (link_event (codes "lan") event))

hear_is : (read : Option ScriptLine) → is_hear read ≡ true → IsHear read
hear_is (Some (link_event w event)) e = (event, ap (λ v. Some (link_event v event)) ((bytes_eq-Decides w (codes "lan")).0 e))
hear_is None e = cc e
hear_is (Some silent) e = cc e
hear_is (Some (head_line line)) e = cc e
hear_is (Some (joining w is_lone)) e = cc e
hear_is (Some (hub_event event)) e = cc e
hear_is (Some (client_call w call)) e = cc e
hear_is (Some (client_passing w way)) e = cc e
hear_is (Some (client_event w event)) e = cc e
hear_is (Some (session_event w event)) e = cc e

abbrev is_heard : ℕ → Bool
is_heard last = is_hear (line_of (heard last)) && is_one (heard last)

abbrev are_heard : ℕ → Bool
are_heard zero = true
are_heard (suc n) = is_heard n && are_heard n

-- whichever octet is the last one
all_heard : are_heard 256 ≡ true
all_heard = refl

heard_at : (n last : ℕ) → last < n → are_heard n ≡ true → is_heard last ≡ true
heard_at zero last small all = absurd (omega (arith, small))
heard_at (suc n) last small all =
    let both = and_true (is_heard n) (are_heard n) all in
    elim (cases_order last n) [
      | inl same ↦ ap is_heard same ∙ both.0
      | inr (inl less) ↦ heard_at n last less both.1
      | inr (inr more) ↦ absurd (omega (arith, small, more))
    ]

round_heard : (i : ℕ) → is_heard (i % 256) ≡ true
round_heard i = heard_at 256 (i % 256) (omega arith) all_heard

-- ---- a round

abbrev IsUpdate : List ℕ → Type 0
IsUpdate text = (is_one text ≡ true) × ((event : HubEvent) × (line_of text ≡ Some (hub_event event)))

update_by : (first second : Bool) → IsUpdate (if first then update_line (codes "0001") (codes "0001") (codes "0000003c") (codes "01")
    else if second then update_line (codes "0003") (codes "0001") (codes "0000003c") (codes "02")
    else update_line (codes "0002") (codes "00fe") (codes "00000000") (codes "01"))
update_by true second = (refl, (_, refl))
update_by false true = (refl, (_, refl))
update_by false false = (refl, (_, refl))

update_is : (i : ℕ) → IsUpdate (update_of_round i)
update_is i = update_by (i % 3 == 1) (i % 3 == 2)

round_one : (i : ℕ) → list_all is_one (round_lines i) ≡ true
round_one i =
    let heard_one = (and_true (is_hear (line_of (hear_of_round i))) (is_one (hear_of_round i)) (round_heard i)).1 in
    and_from (is_one (update_of_round i)) (is_one (hear_of_round i) && list_all is_one (codes "emit c 100" ∷ codes "down c 60" ∷ [])) (update_is i).0
    (and_from (is_one (hear_of_round i)) (list_all is_one (codes "emit c 100" ∷ codes "down c 60" ∷ [])) heard_one refl)

rounds_one : (n : ℕ) → list_all is_one (rounds_to n) ≡ true
rounds_one zero = refl
rounds_one (suc n) = list_all-append is_one (rounds_to n) (round_lines (n + 1)) ∙ and_from (list_all is_one (rounds_to n)) (list_all is_one (round_lines (n + 1))) (rounds_one n) (round_one (n + 1))

script_one : (n : ℕ) → list_all is_one (script_lines n) ≡ true
script_one n =
    let front = list_all-append is_one opening_lines (rounds_to n) ∙ and_from (list_all is_one opening_lines) (list_all is_one (rounds_to n)) refl (rounds_one n) in
    list_all-append is_one (opening_lines ++ rounds_to n) closing_lines ∙ and_from (list_all is_one (opening_lines ++ rounds_to n)) (list_all is_one closing_lines) front refl

-- ---- what the lines say

abbrev read_of : List (List ℕ) → List (Option ScriptLine)
read_of texts = map line_of texts

script_read : (n : ℕ) → n ≤ 1000 → lines_read (script_octets n) ≡ read_of (script_lines n)
script_read n few =
    let small : nat_lt 16777216 (length (script_octets n)) ≡ false = elim (cases_Bool (nat_lt 16777216 (length (script_octets n)))) [
      | inl long ↦ (let more : 16777216 < length (script_octets n) = ltb-true 16777216 (length (script_octets n)) long in absurd (omega (arith, script_length n few, more)))
      | inr short ↦ short
    ] in
    ap (λ b. lines_left b (script_octets n)) small ∙ ap read_of (lines_of (script_lines n) (script_one n))

no_clients : (n : ℕ) → client_words (read_of (rounds_to n)) ≡ []
no_clients zero = refl
no_clients (suc n) =
    let word_of : Option ScriptLine → Option Word = λ l. l >>= client_word in
    let of_round : (read : Option ScriptLine) (hearing : Option ScriptLine) → ((event : HubEvent) × (read ≡ Some (hub_event event))) → IsHear hearing → client_words (read ∷ hearing ∷ read_of (codes "emit c 100" ∷ codes "down c 60" ∷ [])) ≡ [] =
    λ read hearing first second. ap (λ (r : Option ScriptLine). client_words (r ∷ hearing ∷ read_of (codes "emit c 100" ∷ codes "down c 60" ∷ []))) first.1 ∙ ap (λ (h : Option ScriptLine). client_words (Some (hub_event first.0) ∷ h ∷ read_of (codes "emit c 100" ∷ codes "down c 60" ∷ []))) second.1 in
    let hearing = hear_is (line_of (hear_of_round (n + 1))) (and_true (is_hear (line_of (hear_of_round (n + 1)))) (is_one (hear_of_round (n + 1))) (round_heard (n + 1))).0 in
    ap client_words (map-append line_of (rounds_to n) (round_lines (n + 1)))
    ∙ filter_map-append word_of (read_of (rounds_to n)) (read_of (round_lines (n + 1)))
    ∙ ap (λ (ws : List Word). ws ++ client_words (read_of (round_lines (n + 1)))) (no_clients n)
    ∙ of_round (line_of (update_of_round (n + 1))) (line_of (hear_of_round (n + 1))) (update_is (n + 1)).1 hearing

script_clients : (n : ℕ) → client_words (read_of (script_lines n)) ≡ codes "c" ∷ []
script_clients n =
    let word_of : Option ScriptLine → Option Word = λ l. l >>= client_word in
    ap client_words (map-append line_of (opening_lines ++ rounds_to n) closing_lines)
    ∙ filter_map-append word_of (read_of (opening_lines ++ rounds_to n)) (read_of closing_lines)
    ∙ ap (λ (ws : List Word). ws ++ client_words (read_of closing_lines)) (
    ap client_words (map-append line_of opening_lines (rounds_to n))
    ∙ filter_map-append word_of (read_of opening_lines) (read_of (rounds_to n))
    ∙ ap (λ (ws : List Word). client_words (read_of opening_lines) ++ ws) (no_clients n)
    )

-- ---- each may stand where it does

abbrev all_words : List Word
all_words = codes "c" ∷ []

-- what is known behind the opening lines
abbrev known : Known
known = record { in_head = false; has_timers = false; homes = (name (codes "example.com."), of_home.Zone) ∷ (name (codes "lan.example.com."), of_home.Link) ∷ []; links = codes "lan" ∷ []; clients = (codes "c", false) ∷ [] }

abbrev IsRead : Result (List ScriptLine) ℕ → Type 0
IsRead read = (script : List ScriptLine) × (read ≡ Ok script)

onto : (l : ScriptLine) (read : Result (List ScriptLine) ℕ) → IsRead read → IsRead (with_line l read)
onto l read rest = (l ∷ rest.0, ap (with_line l) rest.1)

-- behind these lines what is known is the same
abbrev Passes : List (Option ScriptLine) → Type 0
Passes lines = (number : ℕ) (rest : List (Option ScriptLine)) → ((later : ℕ) → IsRead (lines_from all_words known later rest)) → IsRead (lines_from all_words known number (lines ++ rest))

round_by : (read hearing : Option ScriptLine) → ((event : HubEvent) × (read ≡ Some (hub_event event))) → IsHear hearing → Passes (read ∷ hearing ∷ read_of (codes "emit c 100" ∷ codes "down c 60" ∷ []))
round_by read hearing first second = subst (λ r. Passes (r ∷ hearing ∷ read_of (codes "emit c 100" ∷ codes "down c 60" ∷ []))) (sym first.1)
    (subst (λ h. Passes (Some (hub_event first.0) ∷ h ∷ read_of (codes "emit c 100" ∷ codes "down c 60" ∷ []))) (sym second.1)
    (λ number rest further. onto (hub_event first.0) _ (onto (link_event (codes "lan") second.0) _ (onto (client_passing (codes "c") (ways.Emit 100)) _ (onto (client_passing (codes "c") (ways.Down 60)) _ (further (number + 1 + 1 + 1 + 1)))))))

round_passes : (i : ℕ) → Passes (read_of (round_lines i))
round_passes i =
    round_by (line_of (update_of_round i)) (line_of (hear_of_round i)) (update_is i).1
    (hear_is (line_of (hear_of_round i)) (and_true (is_hear (line_of (hear_of_round i))) (is_one (hear_of_round i)) (round_heard i)).0)

rounds_pass : (n : ℕ) → Passes (read_of (rounds_to n))
rounds_pass zero = λ number rest further. further number
rounds_pass (suc n) = λ number rest further.
    let front = read_of (rounds_to n) in
    let round = read_of (round_lines (n + 1)) in
    let same : front ++ (round ++ rest) ≡ read_of (rounds_to (suc n)) ++ rest = sym (append_assoc front round rest) ∙ ap (λ (ls : List (Option ScriptLine)). ls ++ rest) (sym (map-append line_of (rounds_to n) (round_lines (n + 1)))) in
    subst (λ ls. IsRead (lines_from all_words known number ls)) same (rounds_pass n number (round ++ rest) (λ later. round_passes (n + 1) later rest further))

closing_is_read : (number : ℕ) → IsRead (lines_from all_words known number (read_of closing_lines))
closing_is_read number = (_, refl)

opening_is_read : (rest : List (Option ScriptLine)) → ((later : ℕ) → IsRead (lines_from all_words known later rest)) → IsRead (lines_from all_words nothing_known 1 (read_of opening_lines ++ rest))
opening_is_read rest further = onto _ _ (onto _ _ (onto _ _ (onto _ _ (onto _ _ (onto _ _ (onto _ _ (further 8)))))))

pub scripts_are_read : (n : ℕ) → n ≤ 1000 → (script : List ScriptLine) × (script_of (script_octets n) ≡ Ok script)
scripts_are_read n few =
    let rounds = read_of (rounds_to n) in
    let closing = read_of closing_lines in
    let lines = read_of opening_lines ++ (rounds ++ closing) in
    let same : read_of (script_lines n) ≡ lines =
    map-append line_of (opening_lines ++ rounds_to n) closing_lines
    ∙ ap (λ (ls : List (Option ScriptLine)). ls ++ closing) (map-append line_of opening_lines (rounds_to n))
    ∙ append_assoc (read_of opening_lines) rounds closing in
    let whole = opening_is_read (rounds ++ closing) (λ later. rounds_pass n later closing closing_is_read) in (
      whole.0,
      ap (λ (ls : List (Option ScriptLine)). lines_from (client_words ls) nothing_known 1 ls) (script_read n few)
          ∙ ap (λ (ws : List Word). lines_from ws nothing_known 1 (read_of (script_lines n))) (script_clients n)
          ∙ ap (lines_from all_words nothing_known 1) same
          ∙ whole.1,
    )
