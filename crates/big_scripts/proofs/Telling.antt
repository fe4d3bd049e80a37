-- What a sink in memory took of a script's text.
use Rattle.std.proofs.Common.{◌≡◌, ◌⊎◌, inl, inr, ℕ, ◌+◌, ◌<◌, ◌≤◌, Some, IfSome, List, [], ◌∷◌, ◌++◌, take, length, sym, ◌∙◌, ap, subst, arith, codes}
use Rattle.std.specs.List.{concat}
use Rattle.std.proofs.lemmas.List.{append_assoc, append-nil, take_all}
use Rattle.scripts.specs.declared.outcome.Outcome.{Outcome}
use Rattle.scripts.specs.declared.outcome.Outcome.TheVariants.{Done, Outside}
use Rattle.scripts.specs.Outcomes.{status_of}
use Rattle.replay.specs.TextWords.{by_notices}
use Rattle.scripts.specs.Words.{spaced, line}
use Rattle.scripts.specs.Sources.{front_read}
use Rattle.replay.specs.ScriptReplies.{reply_to_script}
use Rattle.replay.specs.WholeTexts.{whole_reply}
use Rattle.replay.proofs.OneHub.{one-answered}
use Rattle.scripts.specs.Reply.{Reply, Tells, In_full, Unread, Starved, Answers}
use Rattle.push_base.specs.Written.{Took}
use Rattle.big_scripts.specs.Scripts.{script_octets}
use Rattle.big_scripts.proofs.Grammar.{scripts_are_read}
use Rattle.big_scripts.proofs.Making.{script_length}

-- with a status below those of faults it is the whole text
told_in_full : (cause : Type 0) (reply : Reply) (status : ℕ) (wrote : List ℕ) → status < 3 → Tells cause reply status wrote → wrote ≡ reply.text
told_in_full cause reply status wrote small (In_full s text) = text
told_in_full cause reply status wrote small (Unread came s text) = let three : status ≡ 3 = s in absurd (omega (arith, three, small))
told_in_full cause reply status wrote small (Starved front is s text) = let four : status ≡ 4 = s in absurd (omega (arith, four, small))

answered_in_full : (cause : Type 0) (reply : Reply) (status : ℕ) (wrote : List ℕ) → status < 3 → Answers cause reply status wrote → wrote ≡ reply.text
answered_in_full cause reply status wrote small (inl told) = told_in_full cause reply status wrote small told
answered_in_full cause reply status wrote small (inr cut) = let five : status ≡ 5 = cut.0 in absurd (omega (arith, five, small))

pub small_status : (outcome : Outcome) → (outcome ≡ Done) ⊎ (outcome ≡ Outside) → status_of outcome < 3
small_status outcome (inl is) = subst (λ o. status_of o < 3) (sym is) (omega arith)
small_status outcome (inr is) = subst (λ o. status_of o < 3) (sym is) (omega arith)

-- a script is read whole
read_whole : (items : List (List ℕ)) (rounds : ℕ) → rounds ≤ 1000 → items ≡ script_octets rounds ∷ [] → front_read (concat items) ≡ script_octets rounds
unfolding front_read
read_whole items rounds few is =
    let script = script_octets rounds in
    let one : concat (script ∷ []) ≡ script = append-nil script in
    let short : length script ≤ 16777217 = omega (arith, script_length rounds few) in
    ap (λ (l : List (List ℕ)). take 16777217 (concat l)) is ∙ ap (take 16777217) one ∙ take_all 16777217 script short

-- what was taken is the text of the script, which is one of one hub
pub taken_whole : (cause : Type 0) (items : List (List ℕ)) (rounds status : ℕ) (before now : List ℕ) → rounds ≤ 1000 → items ≡ script_octets rounds ∷ [] → before ≡ [] → status < 3
    → IfSome (Some (concat items)) (λ octets. Took (Some before) (Some now) (Answers cause (whole_reply by_notices (front_read octets)) status))
    → now ≡ (reply_to_script by_notices (script_octets rounds)).text
taken_whole cause items rounds status before now few is empty small took =
    let reply = whole_reply by_notices (front_read (concat items)) in
    let all : now ≡ before ++ took.0 = cc took.1 in
    let script = scripts_are_read rounds few in
    all
    ∙ ap (λ l. l ++ took.0) empty
    ∙ answered_in_full cause reply status took.0 small took.2
    ∙ ap (λ octets. (whole_reply by_notices octets).text) (read_whole items rounds few is)
    ∙ ap (λ (r : Reply). r.text) (one-answered by_notices (script_octets rounds) script.0 script.1)

-- the line with four numbers, piece by piece
pub line_is : (a b c d : List ℕ) → codes "big " ++ (a ++ (codes " points " ++ (b ++ (codes " held " ++ (c ++ (codes " lines " ++ (d ++ 10 ∷ [])))))))
    ≡ line (spaced (codes "big" ∷ a ∷ codes "points" ∷ b ∷ codes "held" ∷ c ∷ codes "lines" ∷ d ∷ []))
line_is a b c d =
    let end = 10 ∷ [] in
    let lines = codes " lines " ++ d in
    let held = codes " held " ++ (c ++ lines) in
    let points = codes " points " ++ (b ++ held) in
    sym (ap (λ l. codes "big " ++ l) (
    append_assoc a points end
    ∙ ap (λ l. a ++ (codes " points " ++ l)) (append_assoc b held end ∙ ap (λ l. b ++ (codes " held " ++ l)) (append_assoc c lines end))
    ))
