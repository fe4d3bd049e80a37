-- Worked scripts with a second hub, by computation.
use Rattle.std.proofs.Common.{◌≡◌, ℕ, List, [], ◌∷◌, ◌++◌, codes, refl}
use Rattle.std.specs.Fmt.{digits}
use Rattle.replay.specs.TextWords.{by_history, by_notices}
use Rattle.replay.specs.WholeTexts.{whole_text_with}
use Rattle.scripts.specs.Words.{ended_lines}

-- a script's lines give these lines, with status 0, told from the history
abbrev pub Gives : List (List ℕ) → List (List ℕ) → Type 0
Gives script text = whole_text_with by_history (ended_lines script) ≡ (0, ended_lines text)

-- and from the notices that clients took
abbrev pub GivesByNotices : List (List ℕ) → List (List ℕ) → Type 0
GivesByNotices script text = whole_text_with by_notices (ended_lines script) ≡ (0, ended_lines text)

-- the first line outside is told, with status 2
abbrev pub Refuses : List (List ℕ) → List (List ℕ) → Type 0
Refuses script text = whole_text_with by_history (ended_lines script) ≡ (2, ended_lines text)

abbrev u1 : List ℕ
u1 = codes "update 000128000001000000010000076578616d706c6503636f6d00000600010161c00c000100010000003c0004c0000201"

abbrev u3 : List ℕ
u3 = codes "update 000328000001000000010000076578616d706c6503636f6d00000600010161c00c000100010000003c0004c0000202"

-- a set carried to the second hub
abbrev first_part : List (List ℕ)
first_part = codes "zone example.com. 1 open" ∷ codes "far example.com. 1" ∷ codes "client c" ∷ codes "farclient d" ∷ u1 ∷ codes "ask c a.example.com. 255 1" ∷ codes "open c" ∷ codes "settle c"
    ∷ codes "carry c a.example.com." ∷ codes "ask d a.example.com. 1 1" ∷ codes "open d" ∷ codes "settle d" ∷ codes "show d a.example.com. 1 1" ∷ []

abbrev first_text : List (List ℕ)
first_text = codes "update 0" ∷ codes "asked c new" ∷ codes "open c" ∷ codes "settle c" ∷ codes "carry c a.example.com. 0" ∷ codes "asked d new" ∷ codes "open d" ∷ codes "settle d"
    ∷ codes "show d a.example.com. 1 1 held 1" ∷ codes "rr a.example.com. 60 1 1 c0000201" ∷ []

pub set_is_carried : Gives first_part first_text
unfolding digits
set_is_carried = refl

pub set_is_carried_by_notices : GivesByNotices first_part first_text
unfolding digits
set_is_carried_by_notices = refl

-- the second hub shows the old set until the new one is carried
abbrev second_part : List (List ℕ)
second_part = u3 ∷ codes "settle c" ∷ codes "settle d" ∷ codes "show d a.example.com. 1 1" ∷ codes "carry c a.example.com." ∷ codes "settle d" ∷ codes "show d a.example.com. 1 1" ∷ []

abbrev second_text : List (List ℕ)
second_text = codes "update 0" ∷ codes "settle c" ∷ codes "settle d" ∷ codes "show d a.example.com. 1 1 held 1" ∷ codes "rr a.example.com. 60 1 1 c0000201" ∷ codes "carry c a.example.com. 0" ∷ codes "settle d"
    ∷ codes "show d a.example.com. 1 1 held 2" ∷ codes "rr a.example.com. 60 1 1 c0000201" ∷ codes "rr a.example.com. 60 1 1 c0000202" ∷ []

pub set_is_carried_again : Gives (first_part ++ second_part) (first_text ++ second_text)
unfolding digits
set_is_carried_again = refl

-- the apex isn't carried, nor what a client without a connection held
abbrev third_part : List (List ℕ)
third_part = codes "ask c example.com. 255 1" ∷ codes "settle c" ∷ codes "carry c example.com." ∷ codes "cut c" ∷ codes "carry c a.example.com." ∷ codes "show d a.example.com. 1 1" ∷ []

abbrev third_text : List (List ℕ)
third_text = codes "asked c new" ∷ codes "settle c" ∷ codes "carry c example.com. apex" ∷ codes "cut c" ∷ codes "carry c a.example.com. off"
    ∷ codes "show d a.example.com. 1 1 held 2" ∷ codes "rr a.example.com. 60 1 1 c0000201" ∷ codes "rr a.example.com. 60 1 1 c0000202" ∷ []

pub apex_and_cut_client_carry_nothing : Gives (first_part ++ second_part ++ third_part) (first_text ++ second_text ++ third_text)
unfolding digits
apex_and_cut_client_carry_nothing = refl

-- clients of both hubs that close at one moment are told in the order of their lines
pub closes_in_order : Gives (codes "far example.com. 1" ∷ codes "zone example.com. 1 open" ∷ codes "farclient b" ∷ codes "client c" ∷ codes "farclient a" ∷ codes "open a" ∷ codes "open c" ∷ codes "open b" ∷ codes "at 15000" ∷ [])
    (codes "open a" ∷ codes "open c" ∷ codes "open b" ∷ codes "closed b idle" ∷ codes "closed c idle" ∷ codes "closed a idle" ∷ [])
unfolding digits
closes_in_order = refl

-- without a second hub there is none to carry to
pub no_far : Refuses (codes "zone example.com. 1 open" ∷ codes "client c" ∷ codes "carry c a.example.com." ∷ []) (codes "line 3" ∷ [])
unfolding digits
no_far = refl

pub no_far_client : Refuses (codes "zone example.com. 1 open" ∷ codes "farclient d" ∷ []) (codes "line 2" ∷ [])
unfolding digits
no_far_client = refl

pub carried_by_two : Refuses (codes "zone example.com. 1 open" ∷ codes "far example.com. 1" ∷ codes "client c" ∷ codes "client d" ∷ codes "carry c a.example.com." ∷ codes "carry d A.example.com." ∷ []) (codes "line 5" ∷ [])
unfolding digits
carried_by_two = refl

pub carried_by_a_far_client : Refuses (codes "far example.com. 1" ∷ codes "farclient d" ∷ codes "carry d a.example.com." ∷ []) (codes "line 3" ∷ [])
unfolding digits
carried_by_a_far_client = refl

pub word_of_a_far_client : Refuses (codes "far example.com. 1" ∷ codes "send d -" ∷ codes "farclient d" ∷ []) (codes "line 2" ∷ [])
unfolding digits
word_of_a_far_client = refl

pub far_behind_an_event : Refuses (codes "client c" ∷ codes "far example.com. 1" ∷ []) (codes "line 2" ∷ [])
unfolding digits
far_behind_an_event = refl

-- the words of clients are those of both hubs
pub two_of_one_word : Refuses (codes "far example.com. 1" ∷ codes "farclient d" ∷ codes "client d" ∷ []) (codes "line 3" ∷ [])
unfolding digits
two_of_one_word = refl

pub far_twice : Refuses (codes "far example.com. 1" ∷ codes "far example.org. 1" ∷ []) (codes "line 2" ∷ [])
unfolding digits
far_twice = refl

-- a head line behind an event of the second hub
pub head_behind_far_event : Refuses (codes "far example.com. 1" ∷ [] ∷ codes "farclient d" ∷ codes "zone example.com. 1 open" ∷ []) (codes "line 4" ∷ [])
unfolding digits
head_behind_far_event = refl

-- what links are asked is told of the first hub
pub asks_beside_a_far_hub : Gives (codes "link lan lan.example.com." ∷ codes "far example.com. 1" ∷ codes "asks lan" ∷ []) (codes "asks lan 0" ∷ [])
unfolding digits
asks_beside_a_far_hub = refl

-- a far client is stopped at its own hub, and a carry of what isn't held is off
pub stop_of_a_far_client : Gives (codes "far example.com. 1" ∷ codes "client c" ∷ codes "farclient d" ∷ codes "open d" ∷ codes "stop d 0 5" ∷ codes "settle d" ∷ codes "carry c a.example.com." ∷ [])
    (codes "open d" ∷ codes "stop d" ∷ codes "settle d" ∷ codes "end d stopped" ∷ codes "carry c a.example.com. off" ∷ [])
unfolding digits
stop_of_a_far_client = refl
