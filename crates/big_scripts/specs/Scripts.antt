-- Large scripts that are made from a number.
--     update_of_round i, hear_of_round i, round_lines i      the lines of a round
--     script_lines rounds, script_octets rounds      one script, as lines and as octets
--     rounds_of number      how many rounds each of the scripts of a number has
--     EachIsAScript      each line of such a script is within the grammar and may stand where it does
use Rattle.std.specs.Prelude.{◌≡◌, ℕ, zero, suc, ◌+◌, ◌-◌, ◌%◌, ◌/◌, ◌≤◌, List, [], ◌∷◌, ◌++◌, Ok, replicate, codes, ◌==◌, if◌then◌else◌}
use Rattle.push_base.specs.Hexadecimal.{hex_text}
use Rattle.scripts.specs.Lines.{ScriptLine}
use Rattle.scripts.specs.Scripts.{script_of}
use Rattle.scripts.specs.Words.{ended_lines}
use Rattle.big_scripts.specs.declared.rounds.TheConstants as rounds

-- an address added to `a.example.com.` or deleted there (RFC 2136, 2.5): ID, class, TTL and last octet in hexadecimal
abbrev pub update_line : List ℕ → List ℕ → List ℕ → List ℕ → List ℕ
update_line id class ttl last = codes "update " ++ id ++ codes "28000001000000010000076578616d706c6503636f6d00000600010161c00c0001" ++ class ++ ttl ++ codes "0004c00002" ++ last

-- in turn 192.0.2.1 is added, 192.0.2.2 is added, and 192.0.2.1 is deleted
abbrev pub update_of_round : ℕ → List ℕ
update_of_round i =
    if i % 3 == 1 then update_line (codes "0001") (codes "0001") (codes "0000003c") (codes "01")
    else if i % 3 == 2 then update_line (codes "0003") (codes "0001") (codes "0000003c") (codes "02")
    else update_line (codes "0002") (codes "00fe") (codes "00000000") (codes "01")

-- the address of `h.local.` whose last octet is the round's number (RFC 6762, 18)
abbrev pub hear_of_round : ℕ → List ℕ
hear_of_round i = codes "hear lan 0000840000000001000000000168056c6f63616c0000010001000000780004c00002" ++ hex_text (i % 256 ∷ [])

abbrev pub round_lines : ℕ → List (List ℕ)
round_lines i = update_of_round i ∷ hear_of_round i ∷ codes "emit c 100" ∷ codes "down c 60" ∷ []

-- the rounds from the first to one
abbrev pub rounds_to : ℕ → List (List ℕ)
rounds_to zero = []
rounds_to (suc n) = rounds_to n ++ round_lines (n + 1)

-- a zone, a link, and a client that asks for a name of each
abbrev pub opening_lines : List (List ℕ)
opening_lines = codes "zone example.com. 1 open" ∷ codes "link lan lan.example.com." ∷ codes "client c" ∷ codes "ask c a.example.com. 1 1" ∷ codes "ask c h.lan.example.com. 1 1" ∷ codes "open c" ∷ codes "settle c" ∷ []

-- what the client holds at the end, and the newest point
abbrev pub closing_lines : List (List ℕ)
closing_lines = codes "settle c" ∷ codes "show c a.example.com. 1 1" ∷ codes "show c h.lan.example.com. 1 1" ∷ codes "point" ∷ []

abbrev pub script_lines : ℕ → List (List ℕ)
script_lines rounds = opening_lines ++ rounds_to rounds ++ closing_lines

abbrev pub script_octets : ℕ → List ℕ
script_octets rounds = ended_lines (script_lines rounds)

-- the most rounds of a script: a thousand
abbrev pub most_rounds : ℕ
most_rounds = rounds.MOST_ROUNDS

-- a thousand for each script but the last, which has the rest, at least one
abbrev pub rounds_of : ℕ → List ℕ
rounds_of number = replicate ((number - 1) / most_rounds) most_rounds ++ ((number - 1) % most_rounds + 1) ∷ []

abbrev pub EachIsAScript : Type 0
EachIsAScript = (rounds : ℕ) → rounds ≤ most_rounds → (script : List ScriptLine) × (script_of (script_octets rounds) ≡ Ok script)
