-- Steps over octets that go in as they have room, and over pieces, are the steps over the whole messages in all of them.
--     ran-followed      what was done with the octets behind others
--     ran-pieces      pieces, one after the other
--     room-while-waiting      a client without a whole message in its input has room
use Rattle.std.proofs.Common.{◌≡◌, ℕ, zero, suc, ◌-◌, ◌<◌, ◌≤◌, Option, Some, None, List, [], ◌∷◌, ◌++◌, length, take, drop, refl, sym, ◌∙◌, ap, subst, arith, append-nil, append_assoc, length-append, length-drop}
use Rattle.std.specs.List.{concat}
use Rattle.std.proofs.lemmas.List.{take-append-drop}
use Rattle.dsotlv.specs.Laws.{AreOctets}
use Rattle.dsotlv.specs.Messages.{first_message, messages_in}
use Rattle.dsotlv.proofs.FrameLaws.{Split}
use Rattle.dsotlv.proofs.StreamLaws.{none_found, cut_anywhere}
use Rattle.dsosession.specs.declared.session.CloseReason.{CloseReason}
use Rattle.pushclient.specs.Clients.{Client, Connection, Wish, open_connection, room_of, take_octets}
use Rattle.pushclient.specs.Pieces.{OnMessages, on_messages, OnOctets, leaves, followed_by, steps_over, on_octets, on_pieces}
use Rattle.pushclient.proofs.Reactions.{at, with_octets}
use Rattle.pushclient.proofs.MessageSteps.{bare, is-open, is-closed, on_messages-append, on_messages-closed, Ran, ran-waits, ran-steps}
use Rattle.pushclient.proofs.Streams.{octets-front, octets-behind, octets-both, short-rest, length-rest, few-messages}

-- ---- octets behind others

module _ (now : ℕ) (start : Client) (stream behind : List ℕ) (first : OnOctets) (a : Ran now start stream first) where
  abbrev rest : List ℕ
  rest = (messages_in stream).1

  abbrev others : Split
  others = messages_in (rest ++ behind)

  abbrev between : Client
  between = at a.wishes now (bare a.later)

  -- the messages of both
  both_answered : on_messages (messages_in (stream ++ behind)).0 start
      ≡ (let later = on_messages others.0 between in record { steps = first.steps ++ later.steps; client = later.client; left = a.left ++ later.left })
  both_answered =
      ap (λ (s : Split). on_messages s.0 start) (cut_anywhere stream behind)
      ∙ on_messages-append (messages_in stream).0 others.0 start
      ∙ ap (λ (m : OnMessages). let later = on_messages others.0 m.client in record { steps = m.steps ++ later.steps; client = later.client; left = m.left ++ later.left }) a.answered

  last_rest : (messages_in (stream ++ behind)).1 ≡ others.1
  last_rest = ap (λ (s : Split). s.1) (cut_anywhere stream behind)

  -- a client that closed takes nothing more
  pub closed-followed : (reason : CloseReason) → a.later.closed ≡ Some reason → AreOctets behind → Ran now start (stream ++ behind) (followed_by first (leaves behind first.client))
  closed-followed reason closed below =
      let last = on_messages-closed others.0 between (is-closed a.wishes now (bare a.later) reason closed) in
      let same : a.input ++ (first.left ++ behind) ≡ a.input ++ first.left ++ behind = sym (append_assoc a.input first.left behind) in
      record {
        wishes = a.wishes;
        later = a.later;
        input = a.input;
        left = a.left ++ others.0;
        answered = both_answered ∙ ap (λ (later : OnMessages). record { steps = first.steps ++ later.steps; client = later.client; left = a.left ++ later.left }) last;
        client = a.client;
        below = subst AreOctets (sym same) (octets-both (a.input ++ first.left) behind a.below below);
        messages = ap messages_in same ∙ cut_anywhere (a.input ++ first.left) behind ∙ ap (λ (s : Split). (s.0 ++ (messages_in (s.1 ++ behind)).0, (messages_in (s.1 ++ behind)).1)) a.messages
            ∙ ap (λ (r : List ℕ). (a.left ++ others.0, r)) (sym last_rest);
        while_open = λ unclosed. absurd (not_both (sym closed ∙ unclosed));
      }
    where
      not_both : Some reason ≡ None → ⊥
      not_both e = cc

  -- what an open client left, and its input
  pub record AllTaken : Type 0 where
    pub input : a.input ≡ rest
    pub left : a.left ≡ []
    pub none : first.left ≡ []
    pub waits : first_message a.input ≡ None

  pub all-taken : a.later.closed ≡ None → AllTaken
  all-taken unclosed =
      let done = a.while_open unclosed in
      let whole : messages_in a.input ≡ (a.left, rest) = ap messages_in (sym (append-nil a.input) ∙ ap (λ (l : List ℕ). a.input ++ l) (sym done.0)) ∙ a.messages in
      let nothing : messages_in a.input ≡ ([], a.input) = none_found a.input done.1 in
      record {
        input = ap (λ (s : Split). s.1) (sym nothing ∙ whole);
        left = ap (λ (s : Split). s.0) (sym whole ∙ nothing);
        none = done.0;
        waits = done.1;
      }

  -- an open one goes on with its input and what is behind
  pub open-followed : a.later.closed ≡ None → (second : OnOctets) → Ran now between (a.input ++ behind) second → Ran now start (stream ++ behind) (followed_by first second)
  open-followed unclosed second b =
      let all = all-taken unclosed in
      let same : messages_in (a.input ++ behind) ≡ others = ap (λ (r : List ℕ). messages_in (r ++ behind)) all.input in
      record {
        wishes = b.wishes;
        later = b.later;
        input = b.input;
        left = b.left;
        answered = both_answered
            ∙ ap (λ (s : Split). let later = on_messages s.0 between in record { steps = first.steps ++ later.steps; client = later.client; left = a.left ++ later.left }) (sym same)
            ∙ ap (λ (later : OnMessages). record { steps = first.steps ++ later.steps; client = later.client; left = a.left ++ later.left }) b.answered
            ∙ ap (λ (l : List (List ℕ)). record { steps = first.steps ++ second.steps; client = at b.wishes now (bare b.later); left = l ++ b.left }) all.left;
        client = b.client;
        below = subst (λ (l : List ℕ). AreOctets (b.input ++ (l ++ second.left))) (sym all.none) b.below;
        messages = ap (λ (l : List ℕ). messages_in (b.input ++ (l ++ second.left))) all.none ∙ b.messages ∙ ap (λ (s : Split). (b.left, s.1)) same ∙ ap (λ (r : List ℕ). (b.left, r)) (sym last_rest);
        while_open = λ still. (let done = b.while_open still in (ap (λ (l : List ℕ). l ++ second.left) all.none ∙ done.0, done.1));
      }

-- ---- octets that go in as they have room

abbrev room_by : Connection → Option Connection → ℕ
room_by c None = 0
room_by c (Some d) = 69633 - length d.input

pub room-is : (ws : List Wish) (now : ℕ) (c : Connection) → c.closed ≡ None → room_of (at ws now c) ≡ 69633 - length c.input
room-is ws now c unclosed = ap (λ (o : Option Connection). room_by c o) (is-open ws now c unclosed)

pub room-while-waiting : (ws : List Wish) (now : ℕ) (c : Connection) → c.closed ≡ None → first_message c.input ≡ None → AreOctets c.input → 4097 ≤ room_of (at ws now c)
room-while-waiting ws now c unclosed none below = omega (arith, room-is ws now c unclosed, short-rest c.input below none)

abbrev pub offered : ℕ → ℕ → List ℕ → Client → List ℕ → OnOctets
offered turns times octets client [] = steps_over turns (take_octets octets client)
offered turns times octets client (o ∷ os) = (let first = steps_over turns (take_octets octets client) in followed_by first (on_octets turns times (o ∷ os) first.client))

abbrev pub takes_by : ℕ → ℕ → List ℕ → Client → Option Connection → OnOctets
takes_by turns times octets client None = leaves octets client
takes_by turns times octets client (Some c) = offered turns times octets client (drop (room_of client) octets)

pub takes-open : (turns times : ℕ) (octets : List ℕ) (ws : List Wish) (now : ℕ) (c : Connection) → c.closed ≡ None
    → on_octets turns (suc times) octets (at ws now c) ≡ offered turns times octets (at ws now c) (drop (room_of (at ws now c)) octets)
takes-open turns times octets ws now c unclosed = ap (takes_by turns times octets (at ws now c)) (is-open ws now c unclosed)

pub takes-closed : (turns times : ℕ) (octets : List ℕ) (client : Client) → open_connection client ≡ None → on_octets turns times octets client ≡ leaves octets client
takes-closed turns zero octets client closed = refl
takes-closed turns (suc times) octets client closed = ap (takes_by turns times octets client) closed

abbrev TakesFor : ℕ → ℕ → ℕ → Type 0
TakesFor now turns times = (octets : List ℕ) (ws : List Wish) (c : Connection) → c.closed ≡ None → first_message c.input ≡ None → AreOctets (c.input ++ octets) → length octets < times → length (c.input ++ octets) ≤ turns
    → Ran now (at ws now (bare c)) (c.input ++ octets) (on_octets turns times octets (at ws now c))

-- a stream, of which the octets behind are offered again
module _ (now turns times : ℕ) (again : TakesFor now turns times) (start : Client) (stream : List ℕ) (first : OnOctets) (a : Ran now start stream first) (octets : List ℕ) (below : AreOctets (stream ++ octets))
    (few : length octets < times) (enough : length (stream ++ octets) ≤ turns) where
  go_on : (closed : Option CloseReason) → a.later.closed ≡ closed → Ran now start (stream ++ octets) (followed_by first (on_octets turns times octets first.client))
  go_on (Some reason) closed =
      let last : on_octets turns times octets first.client ≡ leaves octets first.client =
      takes-closed turns times octets first.client (ap open_connection a.client ∙ is-closed a.wishes now (with_octets a.input a.later) reason closed) in
      subst (λ (s : OnOctets). Ran now start (stream ++ octets) (followed_by first s)) (sym last) (closed-followed now start stream octets first a reason closed (octets-behind stream octets below))
  go_on None unclosed =
      let all = all-taken now start stream octets first a unclosed in
      let stream-below = octets-front stream octets below in
      let input-below : AreOctets a.input = octets-front a.input first.left a.below in
      let short : length (a.input ++ octets) ≤ turns =
      omega (arith, enough, length-append stream octets, length-append a.input octets, ap (λ (l : List ℕ). length l) all.input, length-rest stream stream-below) in
      let later = again octets a.wishes (with_octets a.input a.later) unclosed all.waits (octets-both a.input octets input-below (octets-behind stream octets below)) few short in
      open-followed now start stream octets first a unclosed (on_octets turns times octets first.client)
      (subst (λ (client : Client). Ran now (at a.wishes now (bare a.later)) (a.input ++ octets) (on_octets turns times octets client)) (sym a.client) later)

-- what goes in, and what is left
module _ (now turns times : ℕ) (again : TakesFor now turns times) (octets : List ℕ) (ws : List Wish) (c : Connection) (unclosed : c.closed ≡ None) (none : first_message c.input ≡ None)
    (below : AreOctets (c.input ++ octets)) (few : length octets < suc times) (enough : length (c.input ++ octets) ≤ turns) where
  abbrev room : ℕ
  room = room_of (at ws now c)

  abbrev front : List ℕ
  front = c.input ++ take room octets

  whole : front ++ drop room octets ≡ c.input ++ octets
  whole = append_assoc c.input (take room octets) (drop room octets) ∙ ap (λ (l : List ℕ). c.input ++ l) (take-append-drop room octets)

  front-ran : Ran now (at ws now (bare c)) front (steps_over turns (at ws now (with_octets front c)))
  front-ran =
      let octets-there : AreOctets front = octets-front front (drop room octets) (subst AreOctets (sym whole) below) in
      ran-steps now turns ws c front unclosed octets-there
      (omega (arith, few-messages front octets-there, ap (λ (l : List ℕ). length l) whole, length-append front (drop room octets), enough))

  by_left : (left : List ℕ) → drop room octets ≡ left → Ran now (at ws now (bare c)) (front ++ left) (offered turns times octets (at ws now c) left)
  by_left [] e = subst (λ (stream : List ℕ). Ran now (at ws now (bare c)) stream (steps_over turns (at ws now (with_octets front c)))) (sym (append-nil front)) front-ran
  by_left (o ∷ os) e =
      let first = steps_over turns (at ws now (with_octets front c)) in
      let is : front ++ o ∷ os ≡ c.input ++ octets = ap (λ (l : List ℕ). front ++ l) (sym e) ∙ whole in
      let size : length (o ∷ os) ≡ length octets - room = ap (λ (l : List ℕ). length l) (sym e) ∙ length-drop room octets in
      let some : 0 < length (o ∷ os) = omega arith in
      let wide = room-while-waiting ws now c unclosed none (octets-front c.input octets below) in
      go_on now turns times again (at ws now (bare c)) front first front-ran (o ∷ os) (subst AreOctets (sym is) below)
      (omega (arith, few, size, wide, some)) (omega (arith, enough, ap (λ (l : List ℕ). length l) is)) front-ran.later.closed refl

  takes-one : Ran now (at ws now (bare c)) (c.input ++ octets) (on_octets turns (suc times) octets (at ws now c))
  takes-one = subst (Ran now (at ws now (bare c)) (c.input ++ octets)) (sym (takes-open turns times octets ws now c unclosed))
      (subst (λ (stream : List ℕ). Ran now (at ws now (bare c)) stream (offered turns times octets (at ws now c) (drop room octets))) whole (by_left (drop room octets) refl))

pub ran-takes : (now turns times : ℕ) → TakesFor now turns times
ran-takes now turns zero octets ws c unclosed none below few enough = absurd (omega (arith, few))
ran-takes now turns (suc times) octets ws c unclosed none below few enough = takes-one now turns times (ran-takes now turns times) octets ws c unclosed none below few enough

-- ---- pieces

pub pieces-closed : (turns : ℕ) (pieces : List (List ℕ)) (client : Client) → open_connection client ≡ None → on_pieces turns pieces client ≡ leaves (concat pieces) client
pieces-closed turns [] client closed = refl
pieces-closed turns (p ∷ ps) client closed =
    ap (λ (first : OnOctets). followed_by first (on_pieces turns ps first.client)) (takes-closed turns turns p client closed)
    ∙ ap (λ (second : OnOctets). followed_by (leaves p client) second) (pieces-closed turns ps client closed)

abbrev PiecesFor : ℕ → ℕ → List (List ℕ) → Type 0
PiecesFor now turns pieces = (ws : List Wish) (c : Connection) → c.closed ≡ None → first_message c.input ≡ None → AreOctets (c.input ++ concat pieces) → length (c.input ++ concat pieces) < turns
    → Ran now (at ws now (bare c)) (c.input ++ concat pieces) (on_pieces turns pieces (at ws now c))

module _ (now turns : ℕ) (pieces : List (List ℕ)) (others : PiecesFor now turns pieces) (start : Client) (stream : List ℕ) (first : OnOctets) (a : Ran now start stream first)
    (below : AreOctets (stream ++ concat pieces)) (enough : length (stream ++ concat pieces) < turns) where
  abbrev behind : List ℕ
  behind = concat pieces

  pieces-behind : (closed : Option CloseReason) → a.later.closed ≡ closed → Ran now start (stream ++ behind) (followed_by first (on_pieces turns pieces first.client))
  pieces-behind (Some reason) closed =
      let last : on_pieces turns pieces first.client ≡ leaves behind first.client =
      pieces-closed turns pieces first.client (ap open_connection a.client ∙ is-closed a.wishes now (with_octets a.input a.later) reason closed) in
      subst (λ (s : OnOctets). Ran now start (stream ++ behind) (followed_by first s)) (sym last) (closed-followed now start stream behind first a reason closed (octets-behind stream behind below))
  pieces-behind None unclosed =
      let all = all-taken now start stream behind first a unclosed in
      let input-below : AreOctets a.input = octets-front a.input first.left a.below in
      let short : length (a.input ++ behind) < turns =
      omega (arith, enough, length-append stream behind, length-append a.input behind, ap (λ (l : List ℕ). length l) all.input, length-rest stream (octets-front stream behind below)) in
      let later = others a.wishes (with_octets a.input a.later) unclosed all.waits (octets-both a.input behind input-below (octets-behind stream behind below)) short in
      open-followed now start stream behind first a unclosed (on_pieces turns pieces first.client)
      (subst (λ (client : Client). Ran now (at a.wishes now (bare a.later)) (a.input ++ behind) (on_pieces turns pieces client)) (sym a.client) later)

pub ran-pieces : (now turns : ℕ) (pieces : List (List ℕ)) → PiecesFor now turns pieces
ran-pieces now turns [] ws c unclosed none below enough =
    subst (λ (stream : List ℕ). Ran now (at ws now (bare c)) stream (leaves [] (at ws now c))) (sym (append-nil c.input)) (ran-waits ws now c c.input none (octets-front c.input [] below))
ran-pieces now turns (p ∷ ps) ws c unclosed none below enough =
    let is : c.input ++ p ++ concat ps ≡ c.input ++ (p ++ concat ps) = append_assoc c.input p (concat ps) in
    let all : AreOctets (c.input ++ p ++ concat ps) = subst AreOctets (sym is) below in
    let size : length (c.input ++ p ++ concat ps) < turns = omega (arith, enough, ap (λ (l : List ℕ). length l) is) in
    let few : length (c.input ++ p) < turns = omega (arith, size, length-append (c.input ++ p) (concat ps)) in
    let first = ran-takes now turns turns p ws c unclosed none (octets-front (c.input ++ p) (concat ps) all) (omega (arith, few, length-append c.input p)) (omega (arith, few)) in
    subst (λ (stream : List ℕ). Ran now (at ws now (bare c)) stream (on_pieces turns (p ∷ ps) (at ws now c))) is
    (pieces-behind now turns ps (ran-pieces now turns ps) (at ws now (bare c)) (c.input ++ p) (on_octets turns turns p (at ws now c)) first all size first.later.closed (refl {a = first.later.closed}))
