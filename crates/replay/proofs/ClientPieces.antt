-- What is delivered to a client is what it takes of pieces.
--     delivers-pieces, feeds-pieces      the laws
use Rattle.std.proofs.Common.{◌≡◌, ℕ, zero, suc, ◌+◌, ◌-◌, ◌<◌, ◌≤◌, Bool, true, false, ◌||◌, min, inl, inr, Option, Some, None, List, [], ◌∷◌, ◌++◌, length, take, drop, refl, sym, ◌∙◌, ap, subst, arith, append-nil, append_assoc, length-append, length-drop}
use Rattle.std.specs.Prelude.{◌==◌}
use Rattle.std.specs.List.{concat}
use Rattle.std.proofs.lemmas.Bool.{cases_lt}
use Rattle.std.proofs.lemmas.Bool.Decides.{nat_tests}
use Rattle.std.proofs.lemmas.List.{take-append-drop, take_all, drop_all, take-take}
use Rattle.dsotlv.specs.Laws.{AreOctets}
use Rattle.dsotlv.specs.Messages.{first_message}
use Rattle.dsosession.specs.declared.session.CloseReason.{CloseReason}
use Rattle.pushclient.specs.declared.client.Step.{Step}
use Rattle.pushclient.specs.declared.client.Step.TheVariants as steps
use Rattle.pushclient.specs.Clients as clients
use Rattle.pushclient.specs.Clients.{Client, Connection, Wish, open_connection, room_of, output_of, give_octets}
use Rattle.pushclient.specs.Steps.{step}
use Rattle.pushclient.specs.Pieces.{OnOctets, leaves, followed_by, steps_over, on_octets, on_pieces, says_to}
use Rattle.pushclient.proofs.EveryCut.{is-at}
use Rattle.pushclient.proofs.MessageSteps.{bare, is-closed, over, Ran, ran-steps, step-closed}
use Rattle.pushclient.proofs.PieceSteps.{all-taken, offered, takes-open, takes-closed, room-while-waiting, pieces-closed, ran-takes}
use Rattle.pushclient.proofs.Reactions.{at, with_octets}
use Rattle.pushclient.proofs.Streams.{octets-front, octets-behind, octets-both, few-messages, length-rest}
use Rattle.replay.specs.PassedOctets.{enough, stepped, Delivered, delivered}
use Rattle.replay.specs.ClientPieces.{delivered_all, DeliversPieces, fed_all, FeedsPieces}

-- ---- steps

abbrev pub stepped_by : ℕ → Client → Step × Client → Client
stepped_by turns client one = elim one.0 as (λ _. Client) [
  | steps.Waiting ↦ client
  | steps.Closed reason ↦ one.1
  | _ ↦ stepped turns one.1
]

-- the client after all steps; nothing is left of what went in
abbrev EndsAs : OnOctets → Client → Type 0
EndsAs s client = (client ≡ s.client) × (s.left ≡ [])

steps-end : (turns : ℕ) (client : Client) → EndsAs (steps_over turns client) (stepped turns client)
steps-end zero client = (refl, refl)
steps-end (suc turns) client = by (steps-end turns) (step client).0 (step client).1
  where
    by : ((later : Client) → EndsAs (steps_over turns later) (stepped turns later)) → (answer : Step) (later : Client) → EndsAs (over turns client (answer, later)) (stepped_by turns client (answer, later))
    by others steps.Waiting later = (refl, refl)
    by others (steps.Closed reason) later = (refl, refl)
    by others (steps.Answered id rcode) later = others later
    by others (steps.Kept inactivity keepalive) later = others later
    by others (steps.Pushed notices) later = others later
    by others (steps.Typeless id) later = others later

stepped-closed : (turns : ℕ) (ws : List Wish) (now : ℕ) (c : Connection) (reason : CloseReason) → c.closed ≡ Some reason → stepped turns (at ws now c) ≡ at ws now c
stepped-closed zero ws now c reason closed = refl
stepped-closed (suc turns) ws now c reason closed = ap (stepped_by turns (at ws now c)) (step-closed ws now c reason closed)

-- ---- one delivery

-- what was delivered is what was taken
abbrev IsDelivered : OnOctets → Delivered → Type 0
IsDelivered s d = (d.client ≡ s.client) × (d.left ≡ s.left)

abbrev pub later_of : List ℕ → Delivered → ℕ → Delivered
later_of octets so_far k = record { client = stepped enough (clients.take_octets (take k octets) so_far.client); count = so_far.count + k; left = drop k octets }

abbrev pub delivered_by : ℕ → List ℕ → Delivered → ℕ → Bool → Delivered
delivered_by times octets so_far k true = later_of octets so_far k
delivered_by times octets so_far k false = delivered times (drop k octets) (later_of octets so_far k)

abbrev pub stops_at : List ℕ → ℕ → Bool
stops_at octets k = k == 0 || k == length octets

pub one-delivered : (times : ℕ) (octets : List ℕ) (so_far : Delivered) (k : ℕ) (stops : Bool) → min (length octets) (room_of so_far.client) ≡ k → stops_at octets k ≡ stops → delivered (suc times) octets so_far ≡ delivered_by times octets so_far k stops
one-delivered times octets so_far k stops is test = ap (λ (n : ℕ). delivered_by times octets so_far n (stops_at octets n)) is ∙ ap (delivered_by times octets so_far k) test

abbrev begins : Client → ℕ → List ℕ → Delivered
begins client count left = record { client = client; count = count; left = left }

-- a client that has closed takes nothing
delivers-closed : (times : ℕ) (octets : List ℕ) (ws : List Wish) (now : ℕ) (c : Connection) (reason : CloseReason) (count : ℕ) → c.closed ≡ Some reason
    → IsDelivered (leaves octets (at ws now c)) (delivered times octets (begins (at ws now c) count octets))
delivers-closed zero octets ws now c reason count closed = (refl, refl)
delivers-closed (suc times) octets ws now c reason count closed =
    let client = at ws now c in
    let room : room_of client ≡ 0 = ap (λ (o : Option Connection). elim o as (λ _. ℕ) [ None ↦ 0 | Some d ↦ 69633 - length d.input ]) (is-closed ws now c reason closed) in
    let none : min (length octets) (room_of client) ≡ 0 = omega arith in
    let one = one-delivered times octets (begins client count octets) 0 true none refl in
    let same : c.input ++ take (room_of client) [] ≡ c.input = ap (λ (r : ℕ). c.input ++ take r []) room ∙ append-nil c.input in (
      ap (λ (d : Delivered). d.client) one ∙ ap (λ (input : List ℕ). stepped enough (at ws now (with_octets input c))) same ∙ stepped-closed enough ws now c reason closed,
      ap (λ (d : Delivered). d.left) one,
    )

abbrev DeliversFor : ℕ → ℕ → Type 0
DeliversFor now times = (octets : List ℕ) (ws : List Wish) (c : Connection) (count : ℕ) (left : List ℕ) → c.closed ≡ None → first_message c.input ≡ None → AreOctets (c.input ++ octets) → length octets < times → length (c.input ++ octets) ≤ enough
    → IsDelivered (on_octets enough times octets (at ws now c)) (delivered times octets (begins (at ws now c) count left))

-- octets that are offered again
module _ (now times : ℕ) (again : DeliversFor now times) (start : Client) (stream : List ℕ) (first : OnOctets) (a : Ran now start stream first) (octets : List ℕ) (below : AreOctets (stream ++ octets))
    (few : length octets < times) (short : length (stream ++ octets) ≤ enough) (count : ℕ) where
  go_on : (closed : Option CloseReason) → a.later.closed ≡ closed → IsDelivered (on_octets enough times octets first.client) (delivered times octets (begins first.client count octets))
  go_on (Some reason) closed =
      let last : on_octets enough times octets first.client ≡ leaves octets first.client =
      takes-closed enough times octets first.client (ap open_connection a.client ∙ is-closed a.wishes now (with_octets a.input a.later) reason closed) in
      let done = delivers-closed times octets a.wishes now (with_octets a.input a.later) reason count closed in
      subst (λ (s : OnOctets). IsDelivered s (delivered times octets (begins first.client count octets))) (sym last)
      (subst (λ (client : Client). IsDelivered (leaves octets client) (delivered times octets (begins client count octets))) (sym a.client) done)
  go_on None unclosed =
      let all = all-taken now start stream octets first a unclosed in
      let input-below : AreOctets a.input = octets-front a.input first.left a.below in
      let size : length (a.input ++ octets) ≤ enough =
      omega (arith, short, length-append stream octets, length-append a.input octets, ap (λ (l : List ℕ). length l) all.input, length-rest stream (octets-front stream octets below)) in
      let later = again octets a.wishes (with_octets a.input a.later) count octets unclosed all.waits (octets-both a.input octets input-below (octets-behind stream octets below)) few size in
      subst (λ (client : Client). IsDelivered (on_octets enough times octets client) (delivered times octets (begins client count octets))) (sym a.client) later

module _ (now times : ℕ) (again : DeliversFor now times) (octets : List ℕ) (ws : List Wish) (c : Connection) (count : ℕ) (left : List ℕ) (unclosed : c.closed ≡ None) (none : first_message c.input ≡ None)
    (below : AreOctets (c.input ++ octets)) (few : length octets < suc times) (short : length (c.input ++ octets) ≤ enough) where
  abbrev here : Client
  here = at ws now c

  abbrev room : ℕ
  room = room_of here

  abbrev so_far : Delivered
  so_far = begins here count left

  abbrev front : List ℕ
  front = c.input ++ take room octets

  abbrev first : OnOctets
  first = steps_over enough (at ws now (with_octets front c))

  -- so many go in
  goes_in : (k : ℕ) → take room (take k octets) ≡ take room octets → (later_of octets so_far k).client ≡ first.client
  goes_in k same = ap (λ (l : List ℕ). stepped enough (at ws now (with_octets (c.input ++ l) c))) same ∙ (steps-end enough (at ws now (with_octets front c))).0

  all_in : length octets ≤ room → IsDelivered (on_octets enough (suc times) octets here) (delivered (suc times) octets so_far)
  all_in fits =
      let k : min (length octets) room ≡ length octets = omega (arith, fits) in
      let test : stops_at octets (length octets) ≡ true = grind (arith, nat_tests) in
      let one = one-delivered times octets so_far (length octets) true k test in
      let gone : drop room octets ≡ [] = drop_all room octets fits in
      let taken : on_octets enough (suc times) octets here ≡ first = takes-open enough times octets ws now c unclosed ∙ ap (offered enough times octets here) gone in (
        ap (λ (d : Delivered). d.client) one ∙ goes_in (length octets) (ap (take room) (take_all (length octets) octets (omega arith))) ∙ ap (λ (s : OnOctets). s.client) (sym taken),
        ap (λ (d : Delivered). d.left) one ∙ drop_all (length octets) octets (omega arith) ∙ sym (steps-end enough (at ws now (with_octets front c))).1 ∙ ap (λ (s : OnOctets). s.left) (sym taken),
      )

  whole : front ++ drop room octets ≡ c.input ++ octets
  whole = append_assoc c.input (take room octets) (drop room octets) ∙ ap (λ (l : List ℕ). c.input ++ l) (take-append-drop room octets)

  front-ran : Ran now (at ws now (bare c)) front first
  front-ran =
      let octets-there : AreOctets front = octets-front front (drop room octets) (subst AreOctets (sym whole) below) in
      ran-steps now enough ws c front unclosed octets-there
      (omega (arith, few-messages front octets-there, ap (λ (l : List ℕ). length l) whole, length-append front (drop room octets), short))

  part_in : room < length octets → (rest : List ℕ) → drop room octets ≡ rest → IsDelivered (on_octets enough (suc times) octets here) (delivered (suc times) octets so_far)
  part_in more [] e = absurd (omega (arith, more, ap (λ (l : List ℕ). length l) e, length-drop room octets))
  part_in more (o ∷ os) e =
      let rest : List ℕ = o ∷ os in
      let wide : 4097 ≤ room = room-while-waiting ws now c unclosed none (octets-front c.input octets below) in
      let k : min (length octets) room ≡ room = omega (arith, more) in
      let test : stops_at octets room ≡ false = grind (arith, nat_tests, wide, more) in
      let one = one-delivered times octets so_far room false k test in
      let client : (later_of octets so_far room).client ≡ first.client = goes_in room (take-take room room octets (omega arith)) in
      let is : front ++ rest ≡ c.input ++ octets = ap (λ (l : List ℕ). front ++ l) (sym e) ∙ whole in
      let size : length rest ≡ length octets - room = ap (λ (l : List ℕ). length l) (sym e) ∙ length-drop room octets in
      let next = go_on now times again (at ws now (bare c)) front first front-ran rest (subst AreOctets (sym is) below) (omega (arith, few, size, wide, more)) (omega (arith, short, ap (λ (l : List ℕ). length l) is)) (count + room)
      front-ran.later.closed (refl {a = front-ran.later.closed}) in
      let same : delivered (suc times) octets so_far ≡ delivered times rest (begins first.client (count + room) rest) =
      one ∙ λ i. delivered times (e i) (begins (client i) (count + room) (e i)) in
      let taken : on_octets enough (suc times) octets here ≡ followed_by first (on_octets enough times rest first.client) = takes-open enough times octets ws now c unclosed ∙ ap (offered enough times octets here) e in (
        ap (λ (d : Delivered). d.client) same ∙ next.0 ∙ ap (λ (s : OnOctets). s.client) (sym taken),
        ap (λ (d : Delivered). d.left) same ∙ next.1 ∙ ap (λ (l : List ℕ). l ++ (on_octets enough times rest first.client).left) (sym (steps-end enough (at ws now (with_octets front c))).1) ∙ ap (λ (s : OnOctets). s.left) (sym taken),
      )

  delivers-one : IsDelivered (on_octets enough (suc times) octets here) (delivered (suc times) octets so_far)
  delivers-one = elim (cases_lt room (length octets)) [
    | inl more ↦ part_in more (drop room octets) refl
    | inr fits ↦ all_in fits
  ]

delivers : (now times : ℕ) → DeliversFor now times
delivers now zero octets ws c count left unclosed none below few short = absurd (omega (arith, few))
delivers now (suc times) octets ws c count left unclosed none below few short = delivers-one now times (delivers now times) octets ws c count left unclosed none below few short

-- ---- pieces

abbrev AllDelivered : OnOctets → Client × List ℕ → Type 0
AllDelivered s d = d ≡ (s.client, s.left)

delivered-closed : (pieces : List (List ℕ)) (ws : List Wish) (now : ℕ) (c : Connection) (reason : CloseReason) → c.closed ≡ Some reason → delivered_all pieces (at ws now c) ≡ (at ws now c, concat pieces)
delivered-closed [] ws now c reason closed = refl
delivered-closed (p ∷ ps) ws now c reason closed =
    let one = delivers-closed enough p ws now c reason 0 closed in
    (λ i. (let later = delivered_all ps (one.0 i) in (later.0, one.1 i ++ later.1)))
    ∙ ap (λ (later : Client × List ℕ). (later.0, p ++ later.1)) (delivered-closed ps ws now c reason closed)

abbrev DeliversAll : ℕ → List (List ℕ) → Type 0
DeliversAll now pieces = (ws : List Wish) (c : Connection) → c.closed ≡ None → first_message c.input ≡ None → AreOctets (c.input ++ concat pieces) → length (c.input ++ concat pieces) < enough
    → AllDelivered (on_pieces enough pieces (at ws now c)) (delivered_all pieces (at ws now c))

module _ (now : ℕ) (pieces : List (List ℕ)) (others : DeliversAll now pieces) (start : Client) (stream : List ℕ) (first : OnOctets) (a : Ran now start stream first)
    (below : AreOctets (stream ++ concat pieces)) (short : length (stream ++ concat pieces) < enough) where
  all-behind : (closed : Option CloseReason) → a.later.closed ≡ closed → AllDelivered (on_pieces enough pieces first.client) (delivered_all pieces first.client)
  all-behind (Some reason) closed =
      let last : on_pieces enough pieces first.client ≡ leaves (concat pieces) first.client =
      pieces-closed enough pieces first.client (ap open_connection a.client ∙ is-closed a.wishes now (with_octets a.input a.later) reason closed) in
      subst (λ (s : OnOctets). AllDelivered s (delivered_all pieces first.client)) (sym last)
      (subst (λ (client : Client). AllDelivered (leaves (concat pieces) client) (delivered_all pieces client)) (sym a.client) (delivered-closed pieces a.wishes now (with_octets a.input a.later) reason closed))
  all-behind None unclosed =
      let all = all-taken now start stream (concat pieces) first a unclosed in
      let input-below : AreOctets a.input = octets-front a.input first.left a.below in
      let size : length (a.input ++ concat pieces) < enough =
      omega (arith, short, length-append stream (concat pieces), length-append a.input (concat pieces), ap (λ (l : List ℕ). length l) all.input, length-rest stream (octets-front stream (concat pieces) below)) in
      let later = others a.wishes (with_octets a.input a.later) unclosed all.waits (octets-both a.input (concat pieces) input-below (octets-behind stream (concat pieces) below)) size in
      subst (λ (client : Client). AllDelivered (on_pieces enough pieces client) (delivered_all pieces client)) (sym a.client) later

delivers-all : (now : ℕ) (pieces : List (List ℕ)) → DeliversAll now pieces
delivers-all now [] ws c unclosed none below short = refl
delivers-all now (p ∷ ps) ws c unclosed none below short =
    let is : c.input ++ p ++ concat ps ≡ c.input ++ (p ++ concat ps) = append_assoc c.input p (concat ps) in
    let all : AreOctets (c.input ++ p ++ concat ps) = subst AreOctets (sym is) below in
    let size : length (c.input ++ p ++ concat ps) < enough = omega (arith, short, ap (λ (l : List ℕ). length l) is) in
    let few : length (c.input ++ p) < enough = omega (arith, size, length-append (c.input ++ p) (concat ps)) in
    let below-first : AreOctets (c.input ++ p) = octets-front (c.input ++ p) (concat ps) all in
    let short-first : length p < enough = omega (arith, few, length-append c.input p) in
    let most : length (c.input ++ p) ≤ enough = omega (arith, few) in
    let first = on_octets enough enough p (at ws now c) in
    let one = delivers now enough p ws c 0 p unclosed none below-first short-first most in
    let ran = ran-takes now enough enough p ws c unclosed none below-first short-first most in
    let rest = all-behind now ps (delivers-all now ps) (at ws now (bare c)) (c.input ++ p) first ran all size ran.later.closed (refl {a = ran.later.closed}) in
    (λ i. (let later = delivered_all ps (one.0 i) in (later.0, one.1 i ++ later.1)))
    ∙ ap (λ (later : Client × List ℕ). (later.0, first.left ++ later.1)) rest

pub delivers-pieces : DeliversPieces
delivers-pieces pieces client c waits below short =
    let is = is-at client c waits.there in
    subst (λ (x : Client). delivered_all pieces x ≡ ((on_pieces enough pieces x).client, (on_pieces enough pieces x).left)) (sym is.same)
    (delivers-all client.now pieces client.wishes c is.unclosed waits.waits below short)

-- ---- pieces, where what the client has to send is taken after each

abbrev Told : Type 0
Told = List ℕ × Client × List ℕ

abbrev told : List ℕ × OnOctets → Told
told r = (r.0, r.1.client, r.1.left)

-- behind one piece
abbrev fed_behind : List (List ℕ) → Client → List ℕ → Told
fed_behind pieces client left = (let later = fed_all pieces (give_octets (length (output_of client)) client) in (output_of client ++ later.0, later.1, left ++ later.2))

abbrev said_behind : List (List ℕ) → OnOctets → List ℕ × OnOctets
said_behind pieces first = (let later = says_to enough pieces (give_octets (length (output_of first.client)) first.client) in (output_of first.client ++ later.0, followed_by first later.1))

-- some octets were given away
abbrev given : ℕ → Connection → Connection
given n c = record c { output = drop n c.output }

feeds-closed : (pieces : List (List ℕ)) (ws : List Wish) (now : ℕ) (c : Connection) (reason : CloseReason) → c.closed ≡ Some reason → fed_all pieces (at ws now c) ≡ told (says_to enough pieces (at ws now c))
feeds-closed [] ws now c reason closed = refl
feeds-closed (p ∷ ps) ws now c reason closed =
    let one = delivers-closed enough p ws now c reason 0 closed in
    let first : on_octets enough enough p (at ws now c) ≡ leaves p (at ws now c) = takes-closed enough enough p (at ws now c) (is-closed ws now c reason closed) in
    (λ i. fed_behind ps (one.0 i) (one.1 i))
    ∙ ap (λ (later : Told). (c.output ++ later.0, later.1, p ++ later.2)) (feeds-closed ps ws now (given (length c.output) c) reason closed)
    ∙ sym (ap (λ (s : OnOctets). told (said_behind ps s)) first)

abbrev FeedsAll : ℕ → List (List ℕ) → Type 0
FeedsAll now pieces = (ws : List Wish) (c : Connection) → c.closed ≡ None → first_message c.input ≡ None → AreOctets (c.input ++ concat pieces) → length (c.input ++ concat pieces) < enough
    → fed_all pieces (at ws now c) ≡ told (says_to enough pieces (at ws now c))

module _ (now : ℕ) (pieces : List (List ℕ)) (others : FeedsAll now pieces) (start : Client) (stream : List ℕ) (first : OnOctets) (a : Ran now start stream first)
    (below : AreOctets (stream ++ concat pieces)) (short : length (stream ++ concat pieces) < enough) (n : ℕ) where
  abbrev FeedsAfter : Client → Type 0
  FeedsAfter client = fed_all pieces (give_octets n client) ≡ told (says_to enough pieces (give_octets n client))

  feeds-behind : (closed : Option CloseReason) → a.later.closed ≡ closed → FeedsAfter first.client
  feeds-behind (Some reason) closed = subst FeedsAfter (sym a.client) (feeds-closed pieces a.wishes now (given n (with_octets a.input a.later)) reason closed)
  feeds-behind None unclosed =
      let all = all-taken now start stream (concat pieces) first a unclosed in
      let input-below : AreOctets a.input = octets-front a.input first.left a.below in
      let size : length (a.input ++ concat pieces) < enough =
      omega (arith, short, length-append stream (concat pieces), length-append a.input (concat pieces), ap (λ (l : List ℕ). length l) all.input, length-rest stream (octets-front stream (concat pieces) below)) in
      subst FeedsAfter (sym a.client) (others a.wishes (given n (with_octets a.input a.later)) unclosed all.waits (octets-both a.input (concat pieces) input-below (octets-behind stream (concat pieces) below)) size)

feeds-all : (now : ℕ) (pieces : List (List ℕ)) → FeedsAll now pieces
feeds-all now [] ws c unclosed none below short = refl
feeds-all now (p ∷ ps) ws c unclosed none below short =
    let is : c.input ++ p ++ concat ps ≡ c.input ++ (p ++ concat ps) = append_assoc c.input p (concat ps) in
    let all : AreOctets (c.input ++ p ++ concat ps) = subst AreOctets (sym is) below in
    let size : length (c.input ++ p ++ concat ps) < enough = omega (arith, short, ap (λ (l : List ℕ). length l) is) in
    let few : length (c.input ++ p) < enough = omega (arith, size, length-append (c.input ++ p) (concat ps)) in
    let below-first : AreOctets (c.input ++ p) = octets-front (c.input ++ p) (concat ps) all in
    let short-first : length p < enough = omega (arith, few, length-append c.input p) in
    let most : length (c.input ++ p) ≤ enough = omega (arith, few) in
    let first = on_octets enough enough p (at ws now c) in
    let said = output_of first.client in
    let one = delivers now enough p ws c 0 p unclosed none below-first short-first most in
    let ran = ran-takes now enough enough p ws c unclosed none below-first short-first most in
    let rest = feeds-behind now ps (feeds-all now ps) (at ws now (bare c)) (c.input ++ p) first ran all size (length said) ran.later.closed (refl {a = ran.later.closed}) in
    (λ i. fed_behind ps (one.0 i) (one.1 i)) ∙ ap (λ (later : Told). (said ++ later.0, later.1, first.left ++ later.2)) rest

pub feeds-pieces : FeedsPieces
feeds-pieces pieces client c waits below short =
    let is = is-at client c waits.there in
    subst (λ (x : Client). fed_all pieces x ≡ told (says_to enough pieces x)) (sym is.same) (feeds-all client.now pieces client.wishes c is.unclosed waits.waits below short)
