-- A subscriber that is followed.
--     conversed      what is told of a line, a wire and a clock that were taken back
--     unconnected      no connection was made
--     connected      one was made
--     follows-later, follows-read      the configuration was read before
--     followed, not-followed, none-known      what a run answers, by what its words ask for
use Rattle.std.proofs.Common.{◌≡◌, ◌⊎◌, inl, inr, ⊎_elim, ℕ, ◌≤◌, Option, Some, None, Result, Ok, Err, List, [], ◌∷◌, ◌++◌, refl, sym, ◌∙◌, ap, subst, arith}
use Rattle.std.specs.Io.KnownBytes.{append_known}
use Rattle.push_base.specs.Causes.{Rose}
use Rattle.push_base.specs.Line.{Read}
use Rattle.push_base.specs.Told.{TellsMore}
use Rattle.push_outside.specs.Outside.{Telling, Used, Adds, AddsTold, IsFresh, RaisedBy}
use Rattle.scripts.specs.declared.outcome.Outcome.{Outcome}
use Rattle.configurations.specs.Configurations.{Subscribing, subscribing_of}
use Rattle.subscriber.specs.Said.{Saying}
use Rattle.subscriber.specs.Subscribed.{Subscribed, TellsSaying, Whole, Unread, Starved, AnswersSaying}
use Rattle.scripts.specs.declared.outcome.Outcome.TheVariants as outcomes
use Rattle.scripts.specs.Outcomes.{status_of}
use Rattle.push_base.specs.Written.{IsFrontOf, Took}
use Rattle.scripts.specs.Words.{line}
use Rattle.std.specs.Prelude.{codes}
use Rattle.push_outside.specs.declared.outside.OpenFault.{OpenFault}
use Rattle.push_outside.specs.declared.outside.OpenFault.TheVariants.{Failed, NoMemory}
use Rattle.commands.specs.Runs.{MayBeOctets, MayHaveGiven}
use Rattle.commands.specs.Words.{Request, Subscribe}
use Rattle.commands.specs.Subscribing.{IsFollowed, Conversation, TellsUnconnected, Unread as Not_read, Starved as Not_enough, Outside, Unreached, IsUnconnected, Follows}
use Rattle.commands.specs.Observed.{Observed, TellsNumber}
use Rattle.push_outside.specs.Opening.{CountsFailure, TellsWords}
use Rattle.scripts.specs.Sources.{front_read}
use Rattle.commands.specs.Status.{code_of}
use Rattle.commands.specs.declared.status.Status.{Status}
use Rattle.commands.specs.declared.status.Status.TheVariants as statuses
use Rattle.commands.proofs.Running.{brought, failed_open}

-- what a new line or clock told is what is told of it once it was taken back
pub told-read : (A : Type 0) (start now : Option (List A)) (before after : Option (List (List A))) (more : List A)
    → IsFresh start → TellsMore start now more → AddsTold before after now → AddsTold before after (Some more)
told-read A start now None after more fresh tells adds = adds
told-read A start now (Some b) None more fresh tells adds = tt
told-read A start None (Some b) (Some a) more fresh tells adds = absurd adds
told-read A None (Some x) (Some b) (Some a) more fresh tells adds = absurd cc
told-read A (Some s) (Some x) (Some b) (Some a) more fresh tells adds = adds ∙ ap (λ (l : List A). b ++ l ∷ []) (tells ∙ ap (λ (l : List A). l ++ more) fresh)

-- and so it is of what a new wire took
told-taken : (start now : Option (List ℕ)) (before after : Option (List (List ℕ))) (wrote : List ℕ)
    → IsFresh start → now ≡ append_known start wrote → AddsTold before after now → AddsTold before after (Some wrote)
told-taken start now None after wrote fresh took adds = adds
told-taken start now (Some b) None wrote fresh took adds = tt
told-taken start None (Some b) (Some a) wrote fresh took adds = absurd adds
told-taken None (Some x) (Some b) (Some a) wrote fresh took adds = absurd cc
told-taken (Some s) (Some x) (Some b) (Some a) wrote fresh took adds =
    let is : x ≡ s ++ wrote = cc took in
    adds ∙ ap (λ (l : List ℕ). b ++ l ∷ []) (is ∙ ap (λ (l : List ℕ). l ++ wrote) fresh)

-- a count that rose behind another one rose behind one before it
pub rose-before : (r0 r1 r : ℕ) → r0 ≤ r1 → Rose r1 r → Rose r0 r
rose-before r0 r1 r later rose = omega (arith, later, rose)

same-later : (r0 r1 : ℕ) → r1 ≡ r0 → r0 ≤ r1
same-later r0 r1 same = omega (arith, same)

-- nothing was told between
pub still : (before now : Observed) → now.told ≡ before.told → IsUnconnected before.told now.told
still before now same = record { lines = ap (λ (t : Telling). t.lines) same; wires = ap (λ (t : Telling). t.wires) same; moments = ap (λ (t : Telling). t.moments) same }

-- a cause that brings another one
saying-with : (cause wider : Type 0) (s : Saying) (outcome : Outcome) (text : List ℕ) → (cause → wider) → TellsSaying cause s outcome text → TellsSaying wider s outcome text
saying-with cause wider s outcome text brings (Whole over is words) = Whole over is words
saying-with cause wider s outcome text brings (Unread came over is words) = Unread (brings came) over is words
saying-with cause wider s outcome text brings (Starved front is_front is words) = Starved front is_front is words

answers-with : (cause wider : Type 0) (s : Saying) (outcome : Outcome) (wrote : List ℕ) → (cause → wider) → AnswersSaying cause s outcome wrote → AnswersSaying wider s outcome wrote
answers-with cause wider s outcome wrote brings (inl told) = inl (saying-with cause wider s outcome wrote brings told)
answers-with cause wider s outcome wrote brings (inr (is, inl front)) = inr (is, inl front)
answers-with cause wider s outcome wrote brings (inr (is, inr (told, text, tells, front))) = inr (is, inr (told, text, saying-with cause wider s told text brings tells, front))

-- a line, a wire and a clock were made, used and taken back
pub conversed : (t0 t1 t2 t3 t4 : Telling) (printed printed_now : Option (List ℕ)) (r0 r1 r2 r3 r4 o0 o4 faults faults_now : ℕ) (configuration : Subscribing)
    (given given_now : Option (List Read)) (clock clock_now sent sent_now : Option (List ℕ)) (outcome : Outcome)
    → t1 ≡ t0 → t2 ≡ record t1 { lines = t2.lines } → t3 ≡ record t2 { wires = t3.wires } → t4 ≡ record t3 { moments = t4.moments }
    → AddsTold t1.lines t2.lines given_now → AddsTold t2.wires t3.wires sent_now → AddsTold t3.moments t4.moments clock_now
    → r1 ≡ r0 → RaisedBy faults_now r1 r2 → r3 ≡ r2 → r4 ≡ r3 → faults ≡ 0
    → IsFresh given → IsFresh sent → IsFresh clock
    → Subscribed (Rose faults faults_now) configuration given given_now clock clock_now printed printed_now sent sent_now outcome
    → Conversation (record { told = t0; printed = printed; reads = r0; others = o0 }) (record { told = t4; printed = printed_now; reads = r4; others = o4 }) configuration outcome
conversed t0 t1 t2 t3 t4 printed printed_now r0 r1 r2 r3 r4 o0 o4 faults faults_now configuration given given_now clock clock_now sent sent_now outcome
    e1 e2 e3 e4 lines wires moments f1 raised f3 f4 none fresh_line fresh_wire fresh_clock said =
    let lines_last : t2.lines ≡ t4.lines = sym (ap (λ (t : Telling). t.lines) e4 ∙ ap (λ (t : Telling). t.lines) e3) in
    let wires_first : t2.wires ≡ t0.wires = ap (λ (t : Telling). t.wires) e2 ∙ ap (λ (t : Telling). t.wires) e1 in
    let wires_last : t3.wires ≡ t4.wires = sym (ap (λ (t : Telling). t.wires) e4) in
    let moments_first : t3.moments ≡ t0.moments = ap (λ (t : Telling). t.moments) e3 ∙ ap (λ (t : Telling). t.moments) e2 ∙ ap (λ (t : Telling). t.moments) e1 in
    let rose : (Rose faults faults_now → Rose r0 r4) = λ h. subst (λ n. Rose r0 n) (sym (f4 ∙ f3)) (brought faults faults_now r0 r1 r2 none f1 raised h) in
    record {
      read = said.read;
      asked = said.asked;
      sent = said.wire.0;
      reads = subst (λ b. AddsTold b t4.lines (Some said.read)) (ap (λ (t : Telling). t.lines) e1)
          (subst (λ a. AddsTold t1.lines a (Some said.read)) lines_last (told-read Read given given_now t1.lines t2.lines said.read fresh_line said.reads lines));
      moments = subst (λ b. AddsTold b t4.moments (Some said.asked)) moments_first (told-read ℕ clock clock_now t3.moments t4.moments said.asked fresh_clock said.moments moments);
      wires = subst (λ b. AddsTold b t4.wires (Some said.wire.0)) wires_first
          (subst (λ a. AddsTold t2.wires a (Some said.wire.0)) wires_last (told-taken sent sent_now t2.wires t3.wires said.wire.0 fresh_wire said.wire.1 wires));
      open_before = said.open_before;
      often = said.often;
      out = (said.out.0, said.out.1, answers-with (Rose faults faults_now) (Rose r0 r4) _ outcome said.out.0 rose said.out.2);
      wire = said.wire.2;
    }

-- ---- no connection was made

-- a text was told, or a write of it failed
pub unconnected : (A : Type 0) (number_of : A → ℕ) (told cut result : A) (before now : Observed) (read : Result Subscribing ℕ) (text : List ℕ)
    → number_of cut ≡ status_of outcomes.WriteFault → IsUnconnected before.told now.told → TellsUnconnected before now read (number_of told) text
    → Took before.printed now.printed (λ wrote. ((result ≡ told) × (wrote ≡ text)) ⊎ ((result ≡ cut) × IsFrontOf wrote text))
    → Follows before now read (number_of result)
unfolding Follows
unconnected A number_of told cut result before now read text cut_is same is said = inl (
  same,
  (
    said.0,
    said.1,
    ⊎_elim
        (λ whole. inl (subst (λ (r : A). TellsUnconnected before now read (number_of r) said.0) (sym whole.0) (subst (λ (w : List ℕ). TellsUnconnected before now read (number_of told) w) (sym whole.1) is)))
        (λ short. inr (ap number_of short.0 ∙ cut_is, number_of told, text, is, short.1))
        said.2,
  ),
)

-- a line outside was told, or that memory ran out
pub numbered : (result : Outcome) (before now : Observed) (read : Result Subscribing ℕ) (number : ℕ) → now.told ≡ before.told → read ≡ Err number
    → TellsNumber before.printed now.printed number result → Follows before now read (status_of result)
numbered result before now read number same is (told, text, inl (told_is, text_is), took) =
    unconnected Outcome status_of told outcomes.WriteFault result before now read text refl (still before now same)
    (Outside number is (ap (λ (t : Telling). t.dialled) same) (ap status_of told_is) text_is) took
numbered result before now read number same is (told, text, inr (told_is, text_is), took) =
    unconnected Outcome status_of told outcomes.WriteFault result before now read text refl (still before now same)
    (Not_enough (ap (λ (t : Telling). t.dialled) same) (ap status_of told_is) text_is) took

-- what was told of a text
abbrev pub SaidText : {A : Type 0} → Option (List ℕ) → Option (List ℕ) → A → A → A → List ℕ → Type 0
SaidText before now told cut result text = Took before now (λ wrote. ((result ≡ told) × (wrote ≡ text)) ⊎ ((result ≡ cut) × IsFrontOf wrote text))

pub starved : (result : Outcome) (before now : Observed) (read : Result Subscribing ℕ)
    → now.told.dialled ≡ before.told.dialled → now.told.lines ≡ before.told.lines → now.told.wires ≡ before.told.wires → now.told.moments ≡ before.told.moments
    → SaidText before.printed now.printed outcomes.NoMemory outcomes.WriteFault result (line (codes "no memory")) → Follows before now read (status_of result)
starved result before now read dialled lines wires moments said =
    unconnected Outcome status_of outcomes.NoMemory outcomes.WriteFault result before now read (line (codes "no memory")) refl
    (record { lines = lines; wires = wires; moments = moments }) (Not_enough dialled refl refl) said

pub not-read : (result : Outcome) (before now : Observed) (read : Result Subscribing ℕ)
    → now.told.dialled ≡ before.told.dialled → now.told.lines ≡ before.told.lines → now.told.wires ≡ before.told.wires → now.told.moments ≡ before.told.moments → Rose before.reads now.reads
    → SaidText before.printed now.printed outcomes.ReadFault outcomes.WriteFault result (line (codes "read fault")) → Follows before now read (status_of result)
not-read result before now read dialled lines wires moments rose said =
    unconnected Outcome status_of outcomes.ReadFault outcomes.WriteFault result before now read (line (codes "read fault")) refl
    (record { lines = lines; wires = wires; moments = moments }) (Not_read rose dialled refl refl) said

-- the server wasn't reached
pub unreached : (A : Type 0) (fault : OpenFault) (t0 t1 : Telling) (printed printed_now : Option (List ℕ)) (r0 r1 o0 o1 : ℕ) (configuration : Subscribing) (word : List ℕ) (result : Status)
    → fault ≡ Failed → t1 ≡ record t0 { dialled = t1.dialled } → CountsFailure {A = A} o0 o1 (Err fault) → TellsWords {A = A} t0.dialled t1.dialled (Err fault) word → word ≡ configuration.server
    → SaidText printed printed_now statuses.OutsideFault (statuses.Ended outcomes.WriteFault) result (line (codes "outside fault"))
    → Follows (record { told = t0; printed = printed; reads = r0; others = o0 }) (record { told = t1; printed = printed_now; reads = r1; others = o1 }) (Ok configuration) (code_of result)
unreached A fault t0 t1 printed printed_now r0 r1 o0 o1 configuration word result is same counts tells word_is said =
    unconnected Status code_of statuses.OutsideFault (statuses.Ended outcomes.WriteFault) result _ _ (Ok configuration) (line (codes "outside fault")) refl
    (record { lines = ap (λ (t : Telling). t.lines) same; wires = ap (λ (t : Telling). t.wires) same; moments = ap (λ (t : Telling). t.moments) same })
    (Unreached configuration refl
    (subst (λ w. Adds t0.dialled t1.dialled w) word_is (subst (λ (f : OpenFault). TellsWords {A = A} t0.dialled t1.dialled (Err f) word) is tells))
    (failed_open A o0 o1 fault is counts) refl refl)
    said

-- it wasn't dialled, as memory ran out
pub undialled : (A : Type 0) (fault : OpenFault) (t0 t1 : Telling) (printed printed_now : Option (List ℕ)) (r0 r1 o0 o1 : ℕ) (read : Result Subscribing ℕ) (word : List ℕ) (result : Outcome)
    → fault ≡ NoMemory → t1 ≡ record t0 { dialled = t1.dialled } → TellsWords {A = A} t0.dialled t1.dialled (Err fault) word
    → SaidText printed printed_now outcomes.NoMemory outcomes.WriteFault result (line (codes "no memory"))
    → Follows (record { told = t0; printed = printed; reads = r0; others = o0 }) (record { told = t1; printed = printed_now; reads = r1; others = o1 }) read (status_of result)
undialled A fault t0 t1 printed printed_now r0 r1 o0 o1 read word result is same tells said =
    starved result _ _ read (subst (λ (f : OpenFault). TellsWords {A = A} t0.dialled t1.dialled (Err f) word) is tells)
    (ap (λ (t : Telling). t.lines) same) (ap (λ (t : Telling). t.wires) same) (ap (λ (t : Telling). t.moments) same) said

-- ---- one was made

-- behind what tells nothing of lines, wires and clocks
conversation-later : (t0 t1 t : Telling) (printed printed_now : Option (List ℕ)) (r0 r1 r o0 o1 o : ℕ) (configuration : Subscribing) (outcome : Outcome)
    → t1.lines ≡ t0.lines → t1.wires ≡ t0.wires → t1.moments ≡ t0.moments → r0 ≤ r1
    → Conversation (record { told = t1; printed = printed; reads = r1; others = o1 }) (record { told = t; printed = printed_now; reads = r; others = o }) configuration outcome
    → Conversation (record { told = t0; printed = printed; reads = r0; others = o0 }) (record { told = t; printed = printed_now; reads = r; others = o }) configuration outcome
conversation-later t0 t1 t printed printed_now r0 r1 r o0 o1 o configuration outcome lines wires moments later h = record {
  read = h.read;
  asked = h.asked;
  sent = h.sent;
  reads = subst (λ b. AddsTold b t.lines (Some h.read)) lines h.reads;
  moments = subst (λ b. AddsTold b t.moments (Some h.asked)) moments h.moments;
  wires = subst (λ b. AddsTold b t.wires (Some h.sent)) wires h.wires;
  open_before = h.open_before;
  often = h.often;
  out = (h.out.0, h.out.1, answers-with (Rose r1 r) (Rose r0 r) _ outcome h.out.0 (rose-before r0 r1 r later) h.out.2);
  wire = h.wire;
}

-- the server was dialled, and said so much
pub connected : (t0 t1 t : Telling) (printed printed_now : Option (List ℕ)) (r0 r1 r o0 o1 o : ℕ) (configuration : Subscribing) (outcome : Outcome) (word : List ℕ)
    → t1 ≡ record t0 { dialled = t1.dialled } → r1 ≡ r0 → word ≡ configuration.server → Adds t0.dialled t1.dialled word → t.dialled ≡ t1.dialled
    → Conversation (record { told = t1; printed = printed; reads = r1; others = o1 }) (record { told = t; printed = printed_now; reads = r; others = o }) configuration outcome
    → Follows (record { told = t0; printed = printed; reads = r0; others = o0 }) (record { told = t; printed = printed_now; reads = r; others = o }) (Ok configuration) (status_of outcome)
unfolding Follows
connected t0 t1 t printed printed_now r0 r1 r o0 o1 o configuration outcome word same reads_same is dialled last h = inr (
  configuration,
  refl,
  record {
    outcome = outcome;
    status_is = refl;
    dialled = subst (λ d. Adds t0.dialled d configuration.server) (sym last) (subst (λ w. Adds t0.dialled t1.dialled w) is dialled);
    conversation = conversation-later t0 t1 t printed printed_now r0 r1 r o0 o1 o configuration outcome
        (ap (λ (x : Telling). x.lines) same) (ap (λ (x : Telling). x.wires) same) (ap (λ (x : Telling). x.moments) same) (same-later r0 r1 reads_same) h;
  },
)

-- ---- the configuration was read before

unconnected-later : (t0 t1 t : Telling) (printed printed_now : Option (List ℕ)) (r0 r1 r o0 o1 o : ℕ) (read : Result Subscribing ℕ) (status : ℕ) (text : List ℕ)
    → t1.dialled ≡ t0.dialled → r0 ≤ r1 → o1 ≡ o0
    → TellsUnconnected (record { told = t1; printed = printed; reads = r1; others = o1 }) (record { told = t; printed = printed_now; reads = r; others = o }) read status text
    → TellsUnconnected (record { told = t0; printed = printed; reads = r0; others = o0 }) (record { told = t; printed = printed_now; reads = r; others = o }) read status text
unconnected-later t0 t1 t printed printed_now r0 r1 r o0 o1 o read status text same later others (Not_read came dialled is words) = Not_read (rose-before r0 r1 r later came) (dialled ∙ same) is words
unconnected-later t0 t1 t printed printed_now r0 r1 r o0 o1 o read status text same later others (Not_enough dialled is words) = Not_enough (dialled ∙ same) is words
unconnected-later t0 t1 t printed printed_now r0 r1 r o0 o1 o read status text same later others (Outside number read_is dialled is words) = Outside number read_is (dialled ∙ same) is words
unconnected-later t0 t1 t printed printed_now r0 r1 r o0 o1 o read status text same later others (Unreached configuration read_is dialled came is words) =
    Unreached configuration read_is (subst (λ d. Adds d t.dialled configuration.server) same dialled) (subst (λ n. Rose n o) others came) is words

pub follows-later : (t0 t1 t : Telling) (printed printed_now : Option (List ℕ)) (r0 r1 r o0 o1 o : ℕ) (read : Result Subscribing ℕ) (status : ℕ)
    → t1 ≡ record t0 { opened = t1.opened; used = t1.used } → r0 ≤ r1 → o1 ≡ o0
    → Follows (record { told = t1; printed = printed; reads = r1; others = o1 }) (record { told = t; printed = printed_now; reads = r; others = o }) read status
    → Follows (record { told = t0; printed = printed; reads = r0; others = o0 }) (record { told = t; printed = printed_now; reads = r; others = o }) read status
unfolding Follows
follows-later t0 t1 t printed printed_now r0 r1 r o0 o1 o read status e later others (inl (same, said)) = inl (
  record {
    lines = same.lines ∙ ap (λ (x : Telling). x.lines) e;
    wires = same.wires ∙ ap (λ (x : Telling). x.wires) e;
    moments = same.moments ∙ ap (λ (x : Telling). x.moments) e;
  },
  (
    said.0,
    said.1,
    ⊎_elim
        (λ whole. inl (unconnected-later t0 t1 t printed printed_now r0 r1 r o0 o1 o read status said.0 (ap (λ (x : Telling). x.dialled) e) later others whole))
        (λ short. inr (short.0, short.1, short.2, unconnected-later t0 t1 t printed printed_now r0 r1 r o0 o1 o read short.1 short.2 (ap (λ (x : Telling). x.dialled) e) later others short.3, short.4))
        said.2,
  ),
)
follows-later t0 t1 t printed printed_now r0 r1 r o0 o1 o read status e later others (inr (configuration, is, h)) = inr (
  configuration,
  is,
  record {
    outcome = h.outcome;
    status_is = h.status_is;
    dialled = subst (λ d. Adds d t.dialled configuration.server) (ap (λ (x : Telling). x.dialled) e) h.dialled;
    conversation = conversation-later t0 t1 t printed printed_now r0 r1 r o0 o1 o configuration h.outcome
        (ap (λ (x : Telling). x.lines) e) (ap (λ (x : Telling). x.wires) e) (ap (λ (x : Telling). x.moments) e) later h.conversation;
  },
)

-- the octets that were read are those of the source
pub follows-read : (t0 t1 t : Telling) (printed printed_now : Option (List ℕ)) (r0 r1 r o0 o1 o : ℕ) (had octets : List ℕ) (status : ℕ)
    → t1 ≡ record t0 { opened = t1.opened; used = t1.used } → r0 ≤ r1 → o1 ≡ o0 → had ≡ front_read octets
    → Follows (record { told = t1; printed = printed; reads = r1; others = o1 }) (record { told = t; printed = printed_now; reads = r; others = o }) (subscribing_of had) status
    → Follows (record { told = t0; printed = printed; reads = r0; others = o0 }) (record { told = t; printed = printed_now; reads = r; others = o }) (subscribing_of (front_read octets)) status
follows-read t0 t1 t printed printed_now r0 r1 r o0 o1 o had octets status e later others is h =
    follows-later t0 t1 t printed printed_now r0 r1 r o0 o1 o (subscribing_of (front_read octets)) status e later others
    (subst (λ l. Follows (record { told = t1; printed = printed; reads = r1; others = o1 }) (record { told = t; printed = printed_now; reads = r; others = o }) (subscribing_of l) status) is h)

-- ---- what a run answers, by what its words ask for

pub followed : (request : Option Request) (path : List ℕ) (before now : Observed) (number code : ℕ) (octets : List ℕ) → Some (Subscribe path) ≡ request → code ≡ number
    → (MayHaveGiven before.told.used now.told.used octets → Follows before now (subscribing_of (front_read octets)) number) → IsFollowed request before now code octets
followed request path before now number code octets is code_is h =
    subst (λ r. IsFollowed r before now code octets) is (subst (λ n. IsFollowed (Some (Subscribe path)) before now n octets) (sym code_is) h)

-- where something else is asked for, nothing is owed
pub not-followed : (request known : Option Request) (before now : Observed) (code : ℕ) (octets : List ℕ) → known ≡ request → IsFollowed known before now code octets → IsFollowed request before now code octets
not-followed request known before now code octets is h = subst (λ r. IsFollowed r before now code octets) is h

-- of a subscriber's source nothing is told by which a reply is named
pub none-known : (request : Option Request) (path : List ℕ) (input : Option (List ℕ)) (before now : Option (List Used)) (octets : List ℕ) → Some (Subscribe path) ≡ request → MayBeOctets request input before now octets → ⊥
none-known request path input before now octets is may = subst (λ r. MayBeOctets r input before now octets) (sym is) may
