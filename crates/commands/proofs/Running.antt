-- What a run answers, by what is told of its source.
use Rattle.std.proofs.Common.{◌≡◌, ◌⊎◌, inl, inr, ⊎_elim, ℕ, ◌+◌, ◌-◌, ◌≤◌, drop, Option, Some, None, Err, List, [], ◌∷◌, ◌++◌, length, refl, sym, ◌∙◌, ap, subst, arith, length-append, length-drop}
use Rattle.std.proofs.lemmas.List.{append_cancel_left}
use Rattle.std.specs.Prelude.{fold}
use Rattle.push_base.specs.Causes.{Rose}
use Rattle.scripts.specs.declared.outcome.Outcome.{Outcome}
use Rattle.scripts.specs.declared.outcome.Outcome.TheVariants.{WriteFault}
use Rattle.replay.specs.TextWords.{by_history, by_notices}
use Rattle.scripts.specs.Scripts.{max_script}
use Rattle.scripts.specs.Sources.{front_read, Gave, LostAtMost}
use Rattle.scripts.specs.Outcomes.{status_of}
use Rattle.push_base.specs.Written.{IsFrontOf, Took}
use Rattle.scripts.specs.Reply.{Answers, In_full}
use Rattle.scripts.specs.Words.{line}
use Rattle.scripts.proofs.Written.{Replied, answers_with_cause}
use Rattle.script_laws.specs.Replies.{RepliesAreOne}
use Rattle.two_hubs.specs.WholeReplies.{WholeRepliesAreOne}
use Rattle.big_scripts.specs.Scripts.{script_octets, rounds_of}
use Rattle.big_scripts.specs.Sums.{sums_of_text, no_sums, added}
use Rattle.big_scripts.specs.Replies.{reply_to_number, summary_of}
use Rattle.push_outside.specs.declared.outside.OpenFault.{OpenFault}
use Rattle.push_outside.specs.declared.outside.OpenFault.TheVariants.{Failed}
use Rattle.commands.specs.declared.status.Status.{Status}
use Rattle.commands.specs.declared.status.Status.TheVariants.{Usage, Ended}
use Rattle.push_outside.specs.Opening.{CountsFailure}
use Rattle.push_outside.specs.Outside.{Used, AddsUse, IsFresh, RaisedBy}
use Rattle.commands.specs.Runs.{reply_to, MayBeOctets, MayHaveGiven, SourceRose, UsesAtMost}
use Rattle.commands.specs.Status.{code_of}
use Rattle.commands.specs.ScriptCommands.{task_reply}
use Rattle.commands.specs.Words.{Request, On_input, At_path, Big, usage}
use Rattle.commands.specs.declared.script_command.ScriptCommand.{ScriptCommand}
use Rattle.commands.specs.declared.script_command.ScriptCommand.TheVariants.{Replay, Check}

-- what is answered to a task on a script of these octets
abbrev pub RepliedTo : ScriptCommand → Type 0 → Option (List ℕ) → Option (List ℕ) → Outcome → List ℕ → Type 0
RepliedTo task cause taken taken_now result octets = Took taken taken_now (Answers cause (task_reply by_notices task (front_read octets)) (status_of result))

-- where the task is known
pub replied_to : (task known : ScriptCommand) (cause : Type 0) (left taken taken_now : Option (List ℕ)) (result : Outcome) → task ≡ known
    → Replied (task_reply by_notices known) cause left taken taken_now result → Replied (task_reply by_notices task) cause left taken taken_now result
replied_to task known cause left taken taken_now result is h = subst (λ (t : ScriptCommand). Replied (task_reply by_notices t) cause left taken taken_now result) (sym is) h

-- where one more was added at its end, a list isn't what it was, and the added one is known
pub one_added : (before now : List Used) (u : Used) (octets : List ℕ) → now ≡ before ++ u ∷ [] → MayHaveGiven (Some before) (Some now) octets → u.gave ++ u.left ≡ octets
one_added before now u octets is (inl same) = absurd (omega (arith, ap length (sym same ∙ is), length-append before (u ∷ [])))
one_added before now u octets is (inr other) =
    let one : u ∷ [] ≡ other.0 ∷ [] = append_cancel_left before _ _ (sym is ∙ other.1) in
    let u_is : u ≡ other.0 = cc one in
    ap (λ (v : Used). v.gave ++ v.left) u_is ∙ other.2

-- a new source had what it gave and has left
all_had : (left given : Option (List ℕ)) (gave rest : List ℕ) → IsFresh given → Gave left (Some rest) given (Some gave) → left ≡ Some (gave ++ rest)
all_had left None gave rest fresh h = cc h.2
all_had left (Some start) gave rest fresh h =
    let is : gave ≡ start ++ h.0 = cc h.2 in
    h.1 ∙ ap (λ l. Some (l ++ rest)) (sym (is ∙ ap (λ l. l ++ h.0) fresh))

-- a source that was opened, used and taken back
pub replied_back : (task : ScriptCommand) (cause wider : Type 0) (left left_now given given_now taken taken_now : Option (List ℕ)) (before now : Option (List Used)) (result : Outcome)
    → (cause → wider) → IsFresh given → Gave left left_now given given_now → Replied (task_reply by_notices task) cause left taken taken_now result → AddsUse before now given_now left_now
    → (octets : List ℕ) → MayHaveGiven before now octets → RepliedTo task wider taken taken_now result octets
replied_back task cause wider left left_now given given_now taken taken_now None now result brings fresh moved replied adds octets may = absurd may
replied_back task cause wider left left_now given given_now taken taken_now (Some before) None result brings fresh moved replied adds octets may = absurd may
replied_back task cause wider left left_now given None taken taken_now (Some before) (Some now) result brings fresh moved replied adds octets may = absurd adds
replied_back task cause wider left None given (Some gave) taken taken_now (Some before) (Some now) result brings fresh moved replied adds octets may = absurd adds
replied_back task cause wider left (Some rest) given (Some gave) taken taken_now (Some before) (Some now) result brings fresh moved replied adds octets may =
    let all = all_had left given gave rest fresh moved in
    let had : gave ++ rest ≡ octets = one_added before now (record { gave = gave; left = rest }) octets adds may in
    let told = subst (RepliedTo task cause taken taken_now result) had (subst (λ l. Replied (task_reply by_notices task) cause l taken taken_now result) all replied) in
    (told.0, told.1, answers_with_cause cause wider _ _ _ brings told.2)

-- how far it was read
pub used_most : (left left_now given given_now : Option (List ℕ)) (before now : Option (List Used)) → IsFresh given → Gave left left_now given given_now → LostAtMost (max_script + 1) left left_now → AddsUse before now given_now left_now → UsesAtMost before now
used_most left left_now given given_now None now fresh moved lost adds = tt
used_most left left_now given given_now (Some before) None fresh moved lost adds = tt
used_most left left_now given None (Some before) (Some now) fresh moved lost adds = absurd adds
used_most left None given (Some gave) (Some before) (Some now) fresh moved lost adds = absurd adds
used_most left (Some rest) given (Some gave) (Some before) (Some now) fresh moved lost adds =
    let front : (n : ℕ) × (n ≤ max_script + 1) × (Some rest ≡ Some (drop n (gave ++ rest))) = subst (λ (l : Option (List ℕ)). LostAtMost (max_script + 1) l (Some rest)) (all_had left given gave rest fresh moved) lost in
    let is : rest ≡ drop front.0 (gave ++ rest) = cc front.2 in
    inr (record { gave = gave; left = rest }, adds, most_of (length gave) (length rest) front.0 (max_script + 1) (ap length is ∙ length-drop front.0 (gave ++ rest) ∙ ap (λ (n : ℕ). n - front.0) (length-append gave rest)) front.1)
  where
    most_of : (gave rest n most : ℕ) → rest ≡ gave + rest - n → n ≤ most → gave ≤ most
    most_of gave rest n most is few = omega (arith, is, few)

-- where none was taken back
pub used_none : (o : Option (List Used)) → UsesAtMost o o
used_none None = tt
used_none (Some used) = inl refl

-- a fault of a source that was taken back
pub brought : (fault_before fault_now before opened now : ℕ) → fault_before ≡ 0 → opened ≡ before → RaisedBy fault_now opened now → Rose fault_before fault_now → Rose before now
brought fault_before fault_now before opened now none same raised rose = subst (λ n. Rose n now) same (raised.rose (omega (arith, none, rose)))

-- a count of an `open` that failed
pub failed_open : (A : Type 0) (before now : ℕ) (fault : OpenFault) → fault ≡ Failed → CountsFailure {A = A} before now (Err fault) → Rose before now
failed_open A before now fault is counts = (subst (λ f. CountsFailure {A = A} before now (Err f)) is counts).1

-- ---- what each request is answered, by its number

answers_by : (cause : Option Request → Type 0) (request asked : Option Request) (octets : List ℕ) (taken taken_now : Option (List ℕ)) (result : Outcome) (code : ℕ)
    → asked ≡ request → code ≡ status_of result → Took taken taken_now (Answers (cause asked) (reply_to asked octets) (status_of result))
    → Took taken taken_now (Answers (cause request) (reply_to request octets) code)
answers_by cause request asked octets taken taken_now result code is code_is h =
    subst (λ r. Took taken taken_now (Answers (cause r) (reply_to r octets) code)) is
    (subst (λ n. Took taken taken_now (Answers (cause asked) (reply_to asked octets) n)) (sym code_is) h)

-- what was written where the words ask for nothing
abbrev pub SaidUsage : Option (List ℕ) → Option (List ℕ) → Status → Type 0
SaidUsage before now result = Took before now (λ wrote. ((result ≡ Usage) × (wrote ≡ usage)) ⊎ ((result ≡ Ended WriteFault) × IsFrontOf wrote usage))

pub usage_answered : (input_rose outside_rose : Type 0) (request : Option Request) (octets : List ℕ) (taken taken_now : Option (List ℕ)) (result : Status) (code : ℕ)
    → None ≡ request → code ≡ code_of result → SaidUsage taken taken_now result → Took taken taken_now (Answers (SourceRose request input_rose outside_rose) (reply_to request octets) code)
usage_answered input_rose outside_rose request octets taken taken_now result code is code_is said =
    subst (λ r. Took taken taken_now (Answers (SourceRose r input_rose outside_rose) (reply_to r octets) code)) is (
      said.0,
      said.1,
      ⊎_elim
          (λ whole. inl (In_full (code_is ∙ ap code_of whole.0) whole.1))
          (λ cut. inr (code_is ∙ ap code_of cut.0, 1, usage, In_full refl refl, cut.1))
          said.2,
    )

-- told from the notices it is what is told from the history
as_history : WholeRepliesAreOne → (task : ScriptCommand) (cause : Type 0) (taken taken_now : Option (List ℕ)) (octets : List ℕ) (result : Outcome)
    → RepliedTo task cause taken taken_now result octets → Took taken taken_now (Answers cause (task_reply by_history task (front_read octets)) (status_of result))
as_history one Replay cause taken taken_now octets result h = subst (λ r. Took taken taken_now (Answers cause r (status_of result))) (one (front_read octets)) h
as_history one Check cause taken taken_now octets result h = h

pub input_answered : WholeRepliesAreOne → (input_rose outside_rose : Type 0) (request : Option Request) (task : ScriptCommand) (input taken taken_now : Option (List ℕ)) (before now : Option (List Used)) (octets : List ℕ) (result : Outcome) (code : ℕ)
    → Some (On_input task) ≡ request → code ≡ status_of result → Replied (task_reply by_notices task) input_rose input taken taken_now result → MayBeOctets request input before now octets
    → Took taken taken_now (Answers (SourceRose request input_rose outside_rose) (reply_to request octets) code)
input_answered one input_rose outside_rose request task input taken taken_now before now octets result code is code_is replied may =
    let told : input ≡ Some octets = subst (λ r. MayBeOctets r input before now octets) (sym is) may in
    answers_by (λ r. SourceRose r input_rose outside_rose) request (Some (On_input task)) octets taken taken_now result code is code_is
    (as_history one task input_rose taken taken_now octets result (subst (λ i. Replied (task_reply by_notices task) input_rose i taken taken_now result) told replied))

pub path_answered : WholeRepliesAreOne → (input_rose outside_rose : Type 0) (request : Option Request) (task : ScriptCommand) (path : List ℕ) (input taken taken_now : Option (List ℕ)) (before now : Option (List Used)) (octets : List ℕ) (result : Outcome) (code : ℕ)
    → Some (At_path task path) ≡ request → code ≡ status_of result → (MayHaveGiven before now octets → RepliedTo task outside_rose taken taken_now result octets) → MayBeOctets request input before now octets
    → Took taken taken_now (Answers (SourceRose request input_rose outside_rose) (reply_to request octets) code)
path_answered one input_rose outside_rose request task path input taken taken_now before now octets result code is code_is replied may =
    let told : MayHaveGiven before now octets = subst (λ r. MayBeOctets r input before now octets) (sym is) may in
    answers_by (λ r. SourceRose r input_rose outside_rose) request (Some (At_path task path)) octets taken taken_now result code is code_is
    (as_history one task outside_rose taken taken_now octets result (replied told))

numbers_as_history : RepliesAreOne → (number : ℕ) → reply_to_number by_notices number ≡ reply_to_number by_history number
numbers_as_history one number = λ i. record {
  status = 0;
  text = line (summary_of number (fold (λ sums rounds. added sums (sums_of_text (one (script_octets rounds) i).text)) no_sums (rounds_of number)));
}

pub number_answered : RepliesAreOne → (input_rose outside_rose : Type 0) (request : Option Request) (number : ℕ) (taken taken_now : Option (List ℕ)) (octets : List ℕ) (result : Outcome) (code : ℕ)
    → Some (Big number) ≡ request → code ≡ status_of result → Took taken taken_now (Answers ⊥ (reply_to_number by_notices number) (status_of result))
    → Took taken taken_now (Answers (SourceRose request input_rose outside_rose) (reply_to request octets) code)
number_answered one input_rose outside_rose request number taken taken_now octets result code is code_is replied =
    answers_by (λ r. SourceRose r input_rose outside_rose) request (Some (Big number)) octets taken taken_now result code is code_is
    (subst (λ r. Took taken taken_now (Answers ⊥ r (status_of result))) (numbers_as_history one number) replied)
