-- Steps over the octets in the input are the steps over the whole messages in them.
--     Ran now start stream s      what was done is what is done with the whole messages of this stream, from this client on
--     on_messages-append, on_messages-closed      messages behind others; a client that has closed
--     ran-waits, ran-steps      where no message is whole; steps until none is
use Rattle.std.proofs.Common.{◌≡◌, ℕ, zero, suc, ◌≤◌, cond, Option, Some, None, List, [], ◌∷◌, ◌++◌, length, refl, sym, ◌∙◌, ap, subst, arith, append-nil}
use Rattle.std.specs.Prelude.{is_some}
use Rattle.dsotlv.specs.Laws.{AreOctets}
use Rattle.dsotlv.specs.Messages.{first_message, messages_in}
use Rattle.dsotlv.proofs.FrameLaws.{Split}
use Rattle.dsotlv.proofs.StreamLaws.{none_found, one_by_one}
use Rattle.dsosession.specs.declared.session.CloseReason.{CloseReason}
use Rattle.pushclient.specs.declared.client.Step.{Step}
use Rattle.pushclient.specs.declared.client.Step.TheVariants as steps
use Rattle.pushclient.specs.Clients.{Client, Connection, Wish, open_connection}
use Rattle.pushclient.specs.Steps.{step, reacted}
use Rattle.pushclient.specs.Pieces.{OnMessages, on_messages, OnOctets, leaves, steps_over}
use Rattle.pushclient.proofs.Reactions.{at, with_octets, Told, does-reacted}
use Rattle.pushclient.proofs.Streams.{behind-first}

abbrev pub bare : Connection → Connection
bare c = with_octets [] c

-- ---- a client that is open, and one that has closed

pub is-open : (ws : List Wish) (now : ℕ) (c : Connection) → c.closed ≡ None → open_connection (at ws now c) ≡ Some c
is-open ws now c unclosed = ap (λ (o : Option CloseReason). cond {A = Option Connection} (is_some o) None (Some c)) unclosed

pub is-closed : (ws : List Wish) (now : ℕ) (c : Connection) (reason : CloseReason) → c.closed ≡ Some reason → open_connection (at ws now c) ≡ None
is-closed ws now c reason closed = ap (λ (o : Option CloseReason). cond {A = Option Connection} (is_some o) None (Some c)) closed

-- ---- messages

abbrev behind_one : Step → OnMessages → OnMessages
behind_one answer later = record { steps = answer ∷ later.steps; client = later.client; left = later.left }

abbrev messages_by : List ℕ → List (List ℕ) → Client → Option Connection → OnMessages
messages_by message messages client None = record { steps = []; client = client; left = message ∷ messages }
messages_by message messages client (Some c) = behind_one (reacted message c client).0 (on_messages messages (reacted message c client).1)

abbrev stops : List (List ℕ) → Client → OnMessages
stops messages client = record { steps = []; client = client; left = messages }

pub on_messages-closed : (messages : List (List ℕ)) (client : Client) → open_connection client ≡ None → on_messages messages client ≡ stops messages client
on_messages-closed [] client closed = refl
on_messages-closed (m ∷ ms) client closed = ap (messages_by m ms client) closed

abbrev and_messages : List (List ℕ) → OnMessages → OnMessages
and_messages messages first = (let later = on_messages messages first.client in record { steps = first.steps ++ later.steps; client = later.client; left = first.left ++ later.left })

pub on_messages-append : (first second : List (List ℕ)) (client : Client) → on_messages (first ++ second) client ≡ and_messages second (on_messages first client)
on_messages-append [] second client = refl
on_messages-append (m ∷ ms) second client = by (on_messages-append ms second) (open_connection client) refl
  where
    by : ((later : Client) → on_messages (ms ++ second) later ≡ and_messages second (on_messages ms later)) → (o : Option Connection) → open_connection client ≡ o → messages_by m (ms ++ second) client o ≡ and_messages second (messages_by m ms client o)
    by others None closed = ap (λ (later : OnMessages). record { steps = later.steps; client = later.client; left = (m ∷ ms) ++ later.left }) (sym (on_messages-closed second client closed))
    by others (Some c) there = ap (behind_one (reacted m c client).0) (others (reacted m c client).1)

-- ---- what was done

-- What was done with these octets is what is done with the whole messages in them, from a start with nothing in its input. What is in
-- the input now and what wasn't taken are the messages left and the rest; while the client is open it waits, and all was taken.
pub record Ran (now : ℕ) (start : Client) (stream : List ℕ) (s : OnOctets) : Type 0 where
  pub wishes : List Wish
  pub later : Connection
  pub input : List ℕ
  pub left : List (List ℕ)
  pub answered : on_messages (messages_in stream).0 start ≡ record { steps = s.steps; client = at wishes now (bare later); left = left }
  pub client : s.client ≡ at wishes now (with_octets input later)
  pub below : AreOctets (input ++ s.left)
  pub messages : messages_in (input ++ s.left) ≡ (left, (messages_in stream).1)
  pub while_open : later.closed ≡ None → (s.left ≡ []) × (first_message input ≡ None)

-- no message is whole
pub ran-waits : (ws : List Wish) (now : ℕ) (c : Connection) (stream : List ℕ) → first_message stream ≡ None → AreOctets stream → Ran now (at ws now (bare c)) stream (leaves [] (at ws now (with_octets stream c)))
ran-waits ws now c stream none below =
    let split = none_found stream none in
    record {
      wishes = ws;
      later = c;
      input = stream;
      left = [];
      answered = ap (λ (s : Split). on_messages s.0 (at ws now (bare c))) split;
      client = refl;
      below = subst AreOctets (sym (append-nil stream)) below;
      messages = ap messages_in (append-nil stream) ∙ split ∙ ap (λ (s : Split). ([], s.1)) (sym split);
      while_open = λ unclosed. (refl, none);
    }

-- ---- steps

abbrev pub over : ℕ → Client → Step × Client → OnOctets
over turns client one = elim one.0 as (λ _. OnOctets) [
  | steps.Waiting ↦ leaves [] client
  | steps.Closed reason ↦ record { steps = one.0 ∷ []; client = one.1; left = [] }
  | _ ↦ (let later = steps_over turns one.1 in record { steps = one.0 ∷ later.steps; client = later.client; left = later.left })
]

abbrev pub step_by : Client → Connection → Option (List ℕ × List ℕ) → Step × Client
step_by client c None = (steps.Waiting, client)
step_by client c (Some found) = reacted found.0 c (record client { connection = Some (record c { input = found.1 }) })

abbrev pub unclosed_by : Client → Connection → Option CloseReason → Step × Client
unclosed_by client c (Some reason) = (steps.Closed reason, client)
unclosed_by client c None = step_by client c (first_message c.input)

pub step-first : (ws : List Wish) (now : ℕ) (c : Connection) (message rest : List ℕ) → c.closed ≡ None → first_message c.input ≡ Some (message, rest) → step (at ws now c) ≡ reacted message c (at ws now (with_octets rest c))
step-first ws now c message rest unclosed first = ap (unclosed_by (at ws now c) c) unclosed ∙ ap (step_by (at ws now c) c) first

pub step-closed : (ws : List Wish) (now : ℕ) (c : Connection) (reason : CloseReason) → c.closed ≡ Some reason → step (at ws now c) ≡ (steps.Closed reason, at ws now c)
step-closed ws now c reason closed = ap (unclosed_by (at ws now c) c) closed

pub step-waits : (ws : List Wish) (now : ℕ) (c : Connection) → c.closed ≡ None → first_message c.input ≡ None → step (at ws now c) ≡ (steps.Waiting, at ws now c)
step-waits ws now c unclosed none = ap (unclosed_by (at ws now c) c) unclosed ∙ ap (step_by (at ws now c) c) none

module _ (now : ℕ) (start : Client) (stream rest : List ℕ) (turns : ℕ) (client : Client) (below : AreOctets rest) (same : (messages_in rest).1 ≡ (messages_in stream).1) where
  -- behind one step
  abbrev later_messages : List Wish → Connection → OnMessages
  later_messages ws c = on_messages (messages_in rest).0 (at ws now (bare c))

  goes_on : (answer : Step) (ws : List Wish) (c : Connection) → on_messages (messages_in stream).0 start ≡ behind_one answer (later_messages ws c) → (s : OnOctets) → Ran now (at ws now (bare c)) rest s
      → Ran now start stream (record { steps = answer ∷ s.steps; client = s.client; left = s.left })
  goes_on answer ws c is s ran = record {
    wishes = ran.wishes;
    later = ran.later;
    input = ran.input;
    left = ran.left;
    answered = is ∙ ap (behind_one answer) ran.answered;
    client = ran.client;
    below = ran.below;
    messages = ran.messages ∙ ap (λ (r : List ℕ). (ran.left, r)) same;
    while_open = ran.while_open;
  }

  closes : (reason : CloseReason) (ws : List Wish) (c : Connection) → on_messages (messages_in stream).0 start ≡ behind_one (steps.Closed reason) (later_messages ws c) → c.closed ≡ Some reason
      → Ran now start stream (record { steps = steps.Closed reason ∷ []; client = at ws now (with_octets rest c); left = [] })
  closes reason ws c is closed = record {
    wishes = ws;
    later = c;
    input = rest;
    left = (messages_in rest).0;
    answered = is ∙ ap (behind_one (steps.Closed reason)) (on_messages-closed (messages_in rest).0 (at ws now (bare c)) (is-closed ws now (bare c) reason closed));
    client = refl;
    below = subst AreOctets (sym (append-nil rest)) below;
    messages = ap messages_in (append-nil rest) ∙ ap (λ (r : List ℕ). ((messages_in rest).0, r)) same;
    while_open = λ unclosed. absurd (both_closed (sym closed ∙ unclosed));
  }
    where
      both_closed : Some reason ≡ None → ⊥
      both_closed e = cc

  after_step : (answer : Step) (ws : List Wish) (c : Connection) → Told answer c → on_messages (messages_in stream).0 start ≡ behind_one answer (later_messages ws c)
      → (c.closed ≡ None → Ran now (at ws now (bare c)) rest (steps_over turns (at ws now (with_octets rest c)))) → Ran now start stream (over turns client (answer, at ws now (with_octets rest c)))
  after_step steps.Waiting ws c told is others = absurd told
  after_step (steps.Closed reason) ws c told is others = closes reason ws c is told
  after_step (steps.Answered id rcode) ws c told is others = goes_on (steps.Answered id rcode) ws c is (steps_over turns (at ws now (with_octets rest c))) (others told)
  after_step (steps.Kept inactivity keepalive) ws c told is others = goes_on (steps.Kept inactivity keepalive) ws c is (steps_over turns (at ws now (with_octets rest c))) (others told)
  after_step (steps.Pushed notices) ws c told is others = goes_on (steps.Pushed notices) ws c is (steps_over turns (at ws now (with_octets rest c))) (others told)
  after_step (steps.Typeless id) ws c told is others = goes_on (steps.Typeless id) ws c is (steps_over turns (at ws now (with_octets rest c))) (others told)

abbrev RunsFor : ℕ → ℕ → Type 0
RunsFor now turns = (ws : List Wish) (c : Connection) (stream : List ℕ) → c.closed ≡ None → AreOctets stream → length (messages_in stream).0 ≤ turns
    → Ran now (at ws now (bare c)) stream (steps_over turns (at ws now (with_octets stream c)))

waits_for : (now turns : ℕ) (ws : List Wish) (c : Connection) (stream : List ℕ) → c.closed ≡ None → first_message stream ≡ None → steps_over turns (at ws now (with_octets stream c)) ≡ leaves [] (at ws now (with_octets stream c))
waits_for now zero ws c stream unclosed none = refl
waits_for now (suc turns) ws c stream unclosed none = ap (over turns (at ws now (with_octets stream c))) (step-waits ws now (with_octets stream c) unclosed none)

runs-none : (now turns : ℕ) (ws : List Wish) (c : Connection) (stream : List ℕ) → c.closed ≡ None → AreOctets stream → first_message stream ≡ None
    → Ran now (at ws now (bare c)) stream (steps_over turns (at ws now (with_octets stream c)))
runs-none now turns ws c stream unclosed below none = subst (Ran now (at ws now (bare c)) stream) (sym (waits_for now turns ws c stream unclosed none)) (ran-waits ws now c stream none below)

runs-one : (now turns : ℕ) → RunsFor now turns → (ws : List Wish) (c : Connection) (stream message rest : List ℕ) → c.closed ≡ None → AreOctets stream → first_message stream ≡ Some (message, rest) → length (messages_in stream).0 ≤ suc turns
    → Ran now (at ws now (bare c)) stream (steps_over (suc turns) (at ws now (with_octets stream c)))
runs-one now turns others ws c stream message rest unclosed below first few =
    let here = with_octets stream c in
    let split = one_by_one stream message rest first in
    let does = does-reacted now message c ws c unclosed in
    let rest-below = behind-first stream message rest below first in
    let stepped : step (at ws now here) ≡ (does.answer, at does.wishes now (with_octets rest does.later)) = step-first ws now here message rest unclosed first ∙ does.is rest in
    let answered : on_messages (messages_in stream).0 (at ws now (bare c)) ≡ behind_one does.answer (on_messages (messages_in rest).0 (at does.wishes now (bare does.later))) =
    ap (λ (s : Split). on_messages s.0 (at ws now (bare c))) split
    ∙ ap (messages_by message (messages_in rest).0 (at ws now (bare c))) (is-open ws now (bare c) unclosed)
    ∙ ap (λ (one : Step × Client). behind_one one.0 (on_messages (messages_in rest).0 one.1)) (does.is []) in
    let fewer : length (messages_in rest).0 ≤ turns = omega (arith, few, ap (λ (s : Split). length s.0) split) in
    subst (λ (one : Step × Client). Ran now (at ws now (bare c)) stream (over turns (at ws now here) one)) (sym stepped)
    (after_step now (at ws now (bare c)) stream rest turns (at ws now here) rest-below (sym (ap (λ (s : Split). s.1) split)) does.answer does.wishes does.later does.told answered
    (λ still. others does.wishes does.later rest still rest-below fewer))

pub ran-steps : (now turns : ℕ) → RunsFor now turns
ran-steps now zero ws c stream unclosed below few = by (first_message stream) refl
  where
    by : (first : Option (List ℕ × List ℕ)) → first_message stream ≡ first → Ran now (at ws now (bare c)) stream (steps_over zero (at ws now (with_octets stream c)))
    by None e = runs-none now zero ws c stream unclosed below e
    by (Some (message, rest)) e = absurd (omega (arith, few, ap (λ (s : Split). length s.0) (one_by_one stream message rest e)))
ran-steps now (suc turns) ws c stream unclosed below few = by (ran-steps now turns) (first_message stream) refl
  where
    by : RunsFor now turns → (first : Option (List ℕ × List ℕ)) → first_message stream ≡ first → Ran now (at ws now (bare c)) stream (steps_over (suc turns) (at ws now (with_octets stream c)))
    by others None e = runs-none now (suc turns) ws c stream unclosed below e
    by others (Some (message, rest)) e = runs-one now turns others ws c stream message rest unclosed below e few
