-- What one message more does to the notices since an answer, to the set after them, and to what was right before.
--     noted_records      the records of a question at the point that a note gives for its name
--     LeadsTo made note      what these messages lead a subscription to
--     EachIsRightAt      each message is right by its note, in terms of a start and a history
use Rattle.std.proofs.Common.{◌≡◌, ℕ, ◌+◌, ◌≤◌, true, false, cond, List, [], ◌∷◌, ◌++◌, length, sym, ◌∙◌, ap, subst, arith}
use Rattle.std.specs.List.{AllByRecursion}
use Rattle.std.proofs.lemmas.List.{append-nil, append_assoc}
use Rattle.std.proofs.lemmas.List.Sums.{sum_by-append, fold-append}
use Rattle.dnsname.specs.Names.{Labels}
use Rattle.rrset.specs.RecordSet.{RecordSet, matching}
use Rattle.rrset.specs.declared.record.Question.{Question}
use Rattle.dsotlv.specs.Notices.{applied, applied_all}
use Rattle.history.specs.States.{State, records_at}
use Rattle.history.specs.declared.entry.Entry.{Entry}
use Rattle.history.proofs.LongerHistory.{records_at-append}
use Rattle.pushserver.specs.PlainHubs.{Hub, Subscription, Made, Note, told, frame_of, size_of_made}
use Rattle.pushserver.proofs.hub_steps.Pairs.{all-weaken}
use Rattle.pushserver.specs.ToldMessages.{is_answer_to, notices_in, and_notices, notices_since, set_after, EachIsRight}

abbrev pub noted_records : State → List Entry → Note → Question → RecordSet
noted_records start history note question = matching question (records_at start history (told note question.name))

-- these messages lead a subscription to what a note gives for it; and so they do where its first answer is among them
abbrev pub LeadsTo : State → List Entry → List Made → Note → Subscription → Type 0
LeadsTo start history made note s = set_after made s ≡ noted_records start history note s.question

abbrev pub LeadsIfFilled : State → List Entry → List Made → Note → Subscription → Type 0
LeadsIfFilled start history made note s = s.filled ≤ size_of_made made → LeadsTo start history made note s

abbrev pub IsRightAt : State → List Entry → List Made → Made → Type 0
IsRightAt start history before m = AllByRecursion (LeadsIfFilled start history (before ++ m ∷ []) m.note) m.subscribed

abbrev pub EachIsRightAt : State → List Entry → List Made → List Made → Type 0
EachIsRightAt start history before [] = Unit {0}
EachIsRightAt start history before (m ∷ ms) = IsRightAt start history before m × EachIsRightAt start history (before ++ m ∷ []) ms

-- so it is for a hub
pub each_right-hub : (hub : Hub) (before ms : List Made) → EachIsRightAt hub.start hub.history before ms → EachIsRight hub before ms
each_right-hub hub before [] each = tt
each_right-hub hub before (m ∷ ms) each = (each.0, each_right-hub hub (before ++ m ∷ []) ms each.1)

-- ---- the notices since an answer

pub notices_since-more : (id : ℕ) (made : List Made) (m : Made) → notices_since id (made ++ m ∷ []) ≡ and_notices id (notices_since id made) m
notices_since-more id made m = fold-append (and_notices id) [] made (m ∷ [])

-- a message that isn't the answer adds its notices
pub notices_since-append : (id : ℕ) (made : List Made) (m : Made) → is_answer_to id m ≡ false → notices_since id (made ++ m ∷ []) ≡ notices_since id made ++ notices_in m.message
notices_since-append id made m other = notices_since-more id made m ∙ ap (λ b. cond b [] (notices_since id made ++ notices_in m.message)) other

-- after the answer itself there are none
pub notices_since-answer : (id : ℕ) (made : List Made) (m : Made) → is_answer_to id m ≡ true → notices_since id (made ++ m ∷ []) ≡ []
notices_since-answer id made m it = notices_since-more id made m ∙ ap (λ b. cond b [] (notices_since id made ++ notices_in m.message)) it

-- ---- the set after a message more

pub set_after-append : (made : List Made) (m : Made) (s : Subscription) → is_answer_to s.id m ≡ false → set_after (made ++ m ∷ []) s ≡ applied_all (notices_in m.message) s.question (set_after made s)
set_after-append made m s other = ap (λ ns. applied_all ns s.question []) (notices_since-append s.id made m other) ∙ fold-append (applied s.question) [] (notices_since s.id made) (notices_in m.message)

pub set_after-quiet : (made : List Made) (m : Made) (s : Subscription) → is_answer_to s.id m ≡ false → notices_in m.message ≡ [] → set_after (made ++ m ∷ []) s ≡ set_after made s
set_after-quiet made m s other none = set_after-append made m s other ∙ ap (λ ns. applied_all ns s.question (set_after made s)) none

pub set_after-answer : (made : List Made) (m : Made) (s : Subscription) → is_answer_to s.id m ≡ true → set_after (made ++ m ∷ []) s ≡ []
set_after-answer made m s it = ap (λ ns. applied_all ns s.question []) (notices_since-answer s.id made m it)

pub size_of_made-append : (made : List Made) (m : Made) → size_of_made (made ++ m ∷ []) ≡ size_of_made made + length (frame_of m)
size_of_made-append made m = sum_by-append (λ (x : Made). length (frame_of x)) made (m ∷ []) ∙ ap (λ n. size_of_made made + n) (omega arith)

-- ---- each message is right

-- a message more that is right after all before it
pub each_right-append : (start : State) (history : List Entry) (before ms : List Made) (m : Made)
    → EachIsRightAt start history before ms → IsRightAt start history (before ++ ms) m → EachIsRightAt start history before (ms ++ m ∷ [])
each_right-append start history before [] m each right = (subst (λ b. IsRightAt start history b m) (append-nil before) right, tt)
each_right-append start history before (x ∷ xs) m each right =
    (each.0, each_right-append start history (before ++ x ∷ []) xs m each.1 (subst (λ b. IsRightAt start history b m) (sym (append_assoc before (x ∷ []) xs)) right))

-- a message stays right when the history goes on
pub each_right-later : (start : State) (history more : List Entry) (before ms : List Made)
    → AllByRecursion (λ m. (name : Labels) → told m.note name ≤ length history) ms → EachIsRightAt start history before ms → EachIsRightAt start (history ++ more) before ms
each_right-later start history more before [] low each = tt
each_right-later start history more before (x ∷ xs) low each = (
  all-weaken (LeadsIfFilled start history (before ++ x ∷ []) x.note)
      (LeadsIfFilled start (history ++ more) (before ++ x ∷ []) x.note)
      (λ s right filled. right filled ∙ sym (ap (λ r. matching s.question r) (records_at-append start history more (told x.note s.question.name) (low.0 s.question.name)))) x.subscribed each.0,
  each_right-later start history more (before ++ x ∷ []) xs low.1 each.1,
)
