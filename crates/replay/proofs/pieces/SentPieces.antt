-- A peer that sends its octets in pieces, with lines of others between: what is told of the first of them, together, answers the whole messages in these.
--     pieces-told      the reply of the script
--     runs-all      what its session makes of all messages
--     leaves-peer      how the peer is left
use Rattle.std.proofs.Common.{◌≡◌, ℕ, zero, suc, ◌-◌, ◌<◌, ◌≤◌, List, [], ◌∷◌, ◌++◌, length, take, Option, Some, None, option_map, refl, sym, ◌∙◌, ap, subst, arith, append_assoc, take_all}
use Rattle.std.proofs.lemmas.List.{length-map}
use Rattle.std.specs.Prelude.{IsSome}
use Rattle.std.specs.List.{concat}
use Rattle.dsosession.specs.declared.session.EndReason.{EndReason}
use Rattle.dsotlv.specs.Laws.{AreOctets}
use Rattle.dsotlv.specs.Messages.{messages_in}
use Rattle.dsotlv.proofs.FrameLaws.{Split}
use Rattle.history.specs.declared.entry.Entry.{Entry}
use Rattle.pushsession.specs.declared.session_status.SessionStatus.{SessionStatus}
use Rattle.pushsession.specs.Sessions.{without_first}
use Rattle.pushserver.specs.PlainHubs.{Session, Hub}
use Rattle.pushserver.specs.Hubs.{state_now}
use Rattle.scripts.specs.Lines.{Word, ScriptLine, send}
use Rattle.replay.specs.World.{World}
use Rattle.replay.specs.TextWords.{bytes_line, HeldRecords}
use Rattle.replay.specs.SessionPieces.{answers_to, standing_of}
use Rattle.replay.specs.Text.{Printed, end_lines, sends, world_after}
use Rattle.hubasking.specs.LinkAskings.{Askings}
use Rattle.replay.specs.Askings.{line_asks, lines_asks}
use Rattle.replay.specs.ScriptTexts.{printed_by}
use Rattle.replay.specs.ScriptPieces.{Turn, SentInPieces, pieces_of, lines_sent, sent_between, answered_to_first, messages_sent, answered_to_all, standing_with, SendsPieces, TellsInTurn, end_behind, printed_turns, pieces_reply, LeavesPeer}
use Rattle.replay.specs.Between.{lines_of, world_start, world_then, world_behind, askings_then}
use Rattle.replay.specs.ScriptReplies.{reply_to_script}
use Rattle.replay.proofs.turns.ZoneSizes.{IsBounded}
use Rattle.replay.proofs.rest.AtRest.{Core, Ran, core_of, resting, ran, At, Longer, EmitsAsRan}
use Rattle.replay.proofs.worlds.BetweenLines.{bounded-between, bounded-connected, between-replied}
use Rattle.replay.proofs.worlds.InputOctets.{HoldsOctets, found_octets, octets-lines, octets-connected}
use Rattle.replay.proofs.pieces.ApartWorlds.{IsApart, apart-start, apart-lines, apart-placed}
use Rattle.replay.proofs.pieces.GonePeers.{gone-none}
use Rattle.replay.proofs.pieces.PieceLines.{Makes, IsOverWith, LeavesWith, Waits, TellsTurns, lines_in, sends-known, turn-lines}
use Rattle.replay.proofs.pieces.Placing.{IsPlaced, asks-known, placed-is, placed-holds}
use Rattle.replay.proofs.rest.Turning.{turns-as-told}
use Rattle.replay.proofs.turns.TurnSizes.{writes-few}
use Rattle.replay.proofs.worlds.Longer.{stays-longer}
use Rattle.replay.proofs.rest.RanLaws.{followed_by, followed, ran-append}
use Rattle.replay.proofs.rest.RestingGives.{emits-as-ran}
use Rattle.replay.proofs.rest.RestingAnswers.{answers-as-ran}
use Rattle.replay.proofs.rest.RestingHubs.{rest-at}
use Rattle.replay.proofs.rest.RestingPieces.{OctetsAndHub, GivenBy, GivenAs}
use Rattle.replay.proofs.rest.RestingStreams.{first_part, second_part, cut_behind, octets-both}

-- ---- how a session stands that has answered

same-over : (first second : Option EndReason) → Some (standing_with first) ≡ Some (standing_with second) → first ≡ second
same-over None None e = refl
same-over None (Some reason) e = absurd cc
same-over (Some reason) None e = absurd cc
same-over (Some reason) (Some other) e = (let same : reason ≡ other = cc in ap Some same)

module _ (hub : Hub) (number : ℕ) (input : List ℕ) (a : OctetsAndHub) where
  standing-is : (r : Ran) (over : Option EndReason) → GivenBy hub number input a r over → standing_of a.1 number ≡ Some (standing_with over)
  standing-is r None given = ap (λ (o : Option Session). option_map (λ s. s.standing) o) given.at.there
  standing-is r (Some reason) given = ap (λ (o : Option Session). option_map (λ s. s.standing) o) given.over.at.there ∙ ap (λ (s : SessionStatus). Some s) given.over.standing

  -- what it made of the messages is over for the reason for which it stands
  over-is : (over : Option EndReason) → standing_of a.1 number ≡ Some (standing_with over) → (r : Ran) → GivenBy hub number input a r r.over → r.over ≡ over
  over-is over stands r given = same-over r.over over (sym (standing-is r r.over given) ∙ stands)

  octets-are : (r : Ran) (over : Option EndReason) → GivenBy hub number input a r over → a.0 ≡ r.octets
  octets-are r None given = given.octets
  octets-are r (Some reason) given = given.octets

-- what is made of messages is what is answered to them
made-answered : (hub : Hub) (number : ℕ) (input : List ℕ) (a : OctetsAndHub) (messages : List (List ℕ)) (core : Core) (octets : List ℕ) → Makes hub messages core octets → GivenAs hub number input a (ran hub messages core) → octets ≡ a.0
made-answered hub number input a messages core octets m given =
    sym m.octets_are ∙ sym (octets-are hub number input a m.made m.made.over (subst (λ (o : Option Ran). GivenAs hub number input a o) m.is given))

-- what is made of messages, which is what is answered to them
pub record RunsAll (hub : Hub) (messages : List (List ℕ)) (core : Core) (over : Option EndReason) (answers : List ℕ) : Type 0 where
  pub run : Ran
  pub is : ran hub messages core ≡ Some run
  pub over_is : run.over ≡ over
  pub answered : answers ≡ run.octets

-- ---- the first pieces of several

-- are those of the first of more
firsts-of : (n m : ℕ) (pieces : List (List ℕ)) → n ≤ m → (behind : List ℕ) × (concat (take n pieces) ++ behind ≡ concat (take m pieces))
firsts-of zero m [] le = (concat (take m []), refl)
firsts-of zero m (p ∷ ps) le = (concat (take m (p ∷ ps)), refl)
firsts-of (suc n) zero pieces le = absurd (omega (arith, le))
firsts-of (suc n) (suc m) [] le = ([], refl)
firsts-of (suc n) (suc m) (p ∷ ps) le = (let rest = firsts-of n m ps (omega (arith, le)) in (rest.0, append_assoc p (concat (take n ps)) rest.0 ∙ ap (λ (octets : List ℕ). p ++ octets) rest.1))

-- what goes on behind octets does so behind the former of them
goes-on-before : (hub : Hub) (core : Core) (input piece behind whole : List ℕ) → piece ++ behind ≡ whole → IsOverWith hub core None (messages_in (input ++ whole)).0 → IsOverWith hub core None (messages_in (input ++ piece)).0
goes-on-before hub core input piece behind whole is live = λ r made. by r made r.over refl
  where
    first : List (List ℕ)
    first = (first_part input piece).0

    second : List (List ℕ)
    second = (second_part input piece behind).0

    by : (r : Ran) → ran hub first core ≡ Some r → (over : Option EndReason) → r.over ≡ over → r.over ≡ None
    by r made None e = e
    by r made (Some reason) e =
        live r (ap (λ (s : Split). ran hub s.0 core) (cut_behind input piece behind whole is) ∙ ran-append hub first second core ∙ ap (followed hub second) made ∙ ap (followed_by hub second r) e)

-- ---- the first line, in the world before it

module _ (w : Word) (earlier : World) (number : ℕ) (world : World) (p : IsPlaced w earlier number world) where
  -- it does what it does in the world with the peer's session
  does-same : (octets : List ℕ) → sends w octets earlier ≡ sends w octets world
  does-same octets = p.does octets ∙ sym (sends-known w number octets world p.known)

  asks-same : (octets : List ℕ) (askings : Askings) → line_asks (send w octets) earlier askings ≡ line_asks (send w octets) world askings
  asks-same octets askings = p.asks octets askings ∙ sym (asks-known w world number p.known octets askings)

  -- so all lines print the same
  printed-placed : (records : HeldRecords) (turns : List Turn) (askings : Askings) → printed_by records (lines_in w turns) earlier askings ≡ printed_by records (lines_in w turns) world askings
  printed-placed records [] askings = refl
  printed-placed records (turn ∷ turns) askings =
      let behind : Printed → Askings → List (List ℕ) = λ one asked. one.1 ++ printed_by records (turn.1 ++ lines_in w turns) one.0 asked in
      λ i. behind (does-same turn.0 i) (asks-same turn.0 askings i)

  -- the same is told
  turns-placed : (records : HeldRecords) (over : Option EndReason) (turns : List Turn) (told : List (List ℕ)) (askings : Askings) → printed_turns records w over turns told earlier askings ≡ printed_turns records w over turns told world askings
  turns-placed records over [] told askings = refl
  turns-placed records over (turn ∷ turns) [] askings = refl
  turns-placed records over (turn ∷ turns) (octets ∷ told) askings =
      let behind : Printed → Askings → List (List ℕ) = λ one asked. bytes_line w octets ∷ (end_lines w (end_behind turns over) ++ (printed_by records turn.1 one.0 asked ++ printed_turns records w over turns told (world_after turn.1 one.0) (lines_asks turn.1 one.0 asked))) in
      λ i. behind (does-same turn.0 i) (asks-same turn.0 askings i)

  -- the world behind them is the same
  after-placed : (turns : List Turn) → 1 ≤ length turns → world_after (lines_in w turns) earlier ≡ world_after (lines_in w turns) world
  after-placed [] some = absurd (omega (arith, some))
  after-placed (turn ∷ turns) some = ap (λ (one : Printed). world_after (turn.1 ++ lines_in w turns) one.0) (does-same turn.0)

  -- and no entry is made
  entries-placed : (turns : List Turn) → (world_after (lines_in w turns) earlier).hub.history ≡ world.hub.history → (world_after (lines_in w turns) world).hub.history ≡ world.hub.history
  entries-placed [] same = refl
  entries-placed (turn ∷ turns) same = ap (λ (one : Printed). (world_after (turn.1 ++ lines_in w turns) one.0).hub.history) (sym (does-same turn.0)) ∙ same

-- ---- the text

-- ---- the law

emitting : EmitsAsRan
emitting = emits-as-ran turns-as-told writes-few stays-longer

-- a history that is the same is not longer
not_longer : (hub later : Hub) → later.history ≡ hub.history → Longer hub later → ⊥
not_longer hub later same longer = omega (arith, ap (λ (entries : List Entry). length entries) same, longer)

module _ (script : List ℕ) (sent : SentInPieces) (s : SendsPieces script sent) where
  abbrev behind : List ScriptLine
  behind = lines_sent sent ++ sent.behind

  abbrev hub : Hub
  hub = sent.world.hub

  abbrev core : Core
  core = core_of sent.session

  abbrev input : List ℕ
  input = sent.session.input

  place : IsPlaced sent.word (world_then (sent_between sent)) sent.number sent.world
  place = placed-is sent.word (world_then (sent_between sent)) sent.number sent.world s.place

  bounded : IsBounded (state_now hub)
  bounded =
      let before = bounded-between script sent.before behind s.read in
      placed-holds (λ (h : Hub). IsBounded (state_now h)) sent.word (world_then (sent_between sent)) sent.number sent.world place before (bounded-connected (world_then (sent_between sent)).hub before)

  held : HoldsOctets hub
  held =
      let before = octets-lines script sent.before behind s.read in
      placed-holds HoldsOctets sent.word (world_then (sent_between sent)) sent.number sent.world place before (octets-connected (world_then (sent_between sent)).hub before)

  apart : IsApart sent.world
  apart = apart-placed sent.word (world_then (sent_between sent)) sent.world sent.number s.place (apart-lines sent.before (world_start (sent_between sent)) (apart-start (lines_of (sent_between sent))))

  at : At hub sent.number hub (resting core input [])
  at = rest-at hub sent.number sent.session s.rest

  below : AreOctets (input ++ concat (pieces_of sent))
  below = octets-both input (concat (pieces_of sent)) (found_octets hub sent.number sent.session s.rest.there held) s.passable.0

  answered : (messages : List (List ℕ)) → GivenAs hub sent.number input (answers_to sent.number messages hub) (ran hub messages core)
  answered messages = answers-as-ran turns-as-told writes-few stays-longer hub sent.number bounded messages hub core input at

  abbrev pieces : List (List ℕ)
  pieces = pieces_of sent

  -- the whole messages in its input and the first pieces
  abbrev firsts : ℕ → List (List ℕ)
  firsts n = (messages_in (input ++ concat (take n pieces))).0

  over-all : IsOverWith hub core sent.over (messages_sent sent).0
  over-all r is = over-is hub sent.number input (answered_to_all sent) sent.over s.over r (subst (λ (o : Option Ran). GivenAs hub sent.number input (answered_to_all sent) o) is (answered (messages_sent sent).0))

  goes-on-first : (n m : ℕ) → n ≤ m → IsOverWith hub core None (firsts m) → IsOverWith hub core None (firsts n)
  goes-on-first n m le live = (let f = firsts-of n m pieces le in goes-on-before hub core input (concat (take n pieces)) f.0 (concat (take m pieces)) f.1 live)

  goes-on : (n : ℕ) → n < length sent.turns → IsOverWith hub core None (firsts n)
  goes-on n few = by sent.over refl
    where
      size : length pieces ≡ length sent.turns
      size = length-map sent.turns (λ (t : Turn). t.0)

      whole : take (length sent.turns) pieces ≡ pieces
      whole = take_all (length sent.turns) pieces (omega (arith, size))

      by : (over : Option EndReason) → sent.over ≡ over → IsOverWith hub core None (firsts n)
      by None is =
          let all : IsOverWith hub core None (messages_sent sent).0 = subst (λ (o : Option EndReason). IsOverWith hub core o (messages_sent sent).0) is over-all in
          goes-on-first n (length sent.turns) (omega (arith, few)) (subst (λ (ps : List (List ℕ)). IsOverWith hub core None (messages_in (input ++ concat ps)).0) (sym whole) all)
      by (Some reason) is =
          let live = s.not_before (subst IsSome (sym is) refl) in
          goes-on-first n (length sent.turns - 1) (omega (arith, few))
          (λ r made. over-is hub sent.number input (answered_to_first (length sent.turns - 1) sent) None live r (subst (λ (o : Option Ran). GivenAs hub sent.number input (answered_to_first (length sent.turns - 1) sent) o) made (answered (firsts (length sent.turns - 1)))))

  waits : Waits hub sent.number sent.word sent.over sent.turns sent.world core input
  waits = record {
    known = place.known;
    apart = apart;
    rest = at;
    none = s.rest.waits;
    below = below;
    few = s.passable.1;
    others = s.others;
    no_entry = not_longer hub (world_after (lines_sent sent) sent.world).hub (entries-placed sent.word (world_then (sent_between sent)) sent.number sent.world place sent.turns s.no_entry);
    ends = over-all;
    goes_on = goes-on;
  }

  tells : TellsTurns hub sent.number core input sent.word sent.over sent.turns sent.world
  tells = turn-lines stays-longer emitting hub sent.number bounded sent.word sent.over sent.turns sent.world core input waits

  in-turn : TellsInTurn sent tells.told
  in-turn = record {
    count = tells.count;
    turns = λ n.
        let first : List (List ℕ) = (messages_in (input ++ concat (take n (pieces_of sent)))).0 in
        made-answered hub sent.number input (answered_to_first n sent) first core (concat (take n tells.told)) (tells.in_turn n) (answered first);
  }

  pub pieces-told : (told : List (List ℕ)) × TellsInTurn sent told × ((records : HeldRecords) → reply_to_script records script ≡ pieces_reply records sent told)
  pieces-told =
      let lines : (records : HeldRecords) → printed_by records (lines_sent sent) (world_then (sent_between sent)) (askings_then (sent_between sent)) ≡ printed_turns records sent.word sent.over sent.turns tells.told (world_then (sent_between sent)) (askings_then (sent_between sent)) = λ records.
      let askings = askings_then (sent_between sent) in
      printed-placed sent.word (world_then (sent_between sent)) sent.number sent.world place records sent.turns askings
      ∙ tells.lines records askings
      ∙ sym (turns-placed sent.word (world_then (sent_between sent)) sent.number sent.world place records sent.over sent.turns tells.told askings) in
      (tells.told, in-turn, λ records. between-replied records script (sent_between sent) (printed_turns records sent.word sent.over sent.turns tells.told (world_then (sent_between sent)) (askings_then (sent_between sent))) s.read (lines records))

  left-by : (over : Option EndReason) → LeavesWith hub sent.number sent.word core (messages_sent sent) (world_behind (sent_between sent)) over → IsOverWith hub core over (messages_sent sent).0 → LeavesPeer sent over
  left-by None l ends =
      let given : GivenBy hub sent.number input (answered_to_all sent) l.made l.made.over = subst (λ (o : Option Ran). GivenAs hub sent.number input (answered_to_all sent) o) l.is (answered (messages_sent sent).0) in
      let live : GivenBy hub sent.number input (answered_to_all sent) l.made None = subst (GivenBy hub sent.number input (answered_to_all sent) l.made) (ends l.made l.is) given in
      (l.known, l.at.there ∙ sym (ap (λ (o : Option Session). option_map (without_first (messages_sent sent).1) o) live.at.there))
  left-by (Some reason) l ends = (l.known, gone-none sent.number (world_behind (sent_between sent)).hub l.gone)

  -- how the peer is left
  pub leaves-peer : 1 ≤ length sent.turns → LeavesPeer sent sent.over
  leaves-peer some =
      let same = after-placed sent.word (world_then (sent_between sent)) sent.number sent.world place sent.turns some in
      left-by sent.over (subst (λ (z : World). LeavesWith hub sent.number sent.word core (messages_sent sent) z sent.over) (sym same) tells.left) over-all

  -- what the session makes of all messages
  pub runs-all : RunsAll hub (messages_sent sent).0 core sent.over (answered_to_all sent).0
  runs-all =
      let n = length tells.told in
      let size : length pieces ≡ length sent.turns = length-map sent.turns (λ (t : Turn). t.0) in
      let all : Makes hub (messages_sent sent).0 core (concat (take n tells.told)) = subst (λ (ps : List (List ℕ)). Makes hub (messages_in (input ++ concat ps)).0 core (concat (take n tells.told))) (take_all n pieces (few-enough (length pieces) n (size ∙ sym tells.count))) (tells.in_turn n) in
      record {
        run = all.made;
        is = all.is;
        over_is = over-all all.made all.is;
        answered = octets-are hub sent.number input (answered_to_all sent) all.made all.made.over (subst (λ (o : Option Ran). GivenAs hub sent.number input (answered_to_all sent) o) all.is (answered (messages_sent sent).0));
      }
    where
      few-enough : (k n : ℕ) → k ≡ n → k ≤ n
      few-enough k n e = omega (arith, e)
