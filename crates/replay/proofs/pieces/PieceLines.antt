-- The lines of a peer whose session is at rest, and which sends its octets in pieces, with lines of others behind each of them. As long as no
-- entry is made and the session doesn't end before the last piece, one line is printed for each piece, with what is told of it, behind the last
-- the line of the end, if there is one, and then what the lines of others print.
--     Waits      the session, at rest before some turns
--     TellsTurns      the octets that are told of each piece, the lines, and how the peer is left
--     turn-lines      the law
use Rattle.std.proofs.Common.{◌≡◌, ◌⊎◌, inl, inr, ℕ, zero, suc, ◌+◌, ◌<◌, ◌≤◌, true, List, [], ◌∷◌, ◌++◌, map, take, length, flat_map, Option, Some, None, option_map, refl, sym, ◌∙◌, ap, subst, arith, append-nil, length-append}
use Rattle.std.specs.List.{concat, list_all, AllByRecursion}
use Rattle.dsosession.specs.declared.session.EndReason.{EndReason}
use Rattle.dsotlv.specs.Laws.{AreOctets}
use Rattle.dsotlv.specs.Messages.{first_message, messages_in}
use Rattle.dsotlv.proofs.FrameLaws.{Split}
use Rattle.dsotlv.proofs.StreamLaws.{none_found}
use Rattle.history.specs.declared.entry.Entry.{Entry}
use Rattle.pushserver.specs.Hubs.{state_now}
use Rattle.pushserver.specs.PlainHubs.{Session, Hub}
use Rattle.pushserver.proofs.Walks.{AnyMessage}
use Rattle.scripts.specs.Lines.{Word, ScriptLine, send}
use Rattle.replay.specs.World.{World, session_number, hub_without, cut_peer}
use Rattle.replay.specs.PassedOctets.{Exchanged, exchanged, enough}
use Rattle.replay.specs.TextWords.{bytes_line, HeldRecords, by_history}
use Rattle.replay.specs.Text.{Printed, end_lines, exchanges, sends, line_does, world_after}
use Rattle.hubasking.specs.LinkAskings.{Askings}
use Rattle.replay.specs.Askings.{line_asks, lines_asks}
use Rattle.replay.specs.ScriptTexts.{printed_by}
use Rattle.replay.specs.ScriptPieces.{is_of_others, Turn, end_behind, printed_turns}
use Rattle.replay.proofs.turns.ZoneSizes.{IsBounded}
use Rattle.replay.proofs.rest.AtRest.{Core, Ran, resting, ran, behind_octets, At, Longer, EmitsAsRan, StaysLonger}
use Rattle.replay.proofs.worlds.BetweenLines.{after-append, printed-append}
use Rattle.replay.proofs.worlds.Keeping.{any-parts, exchanged-keeps}
use Rattle.replay.proofs.worlds.Longer.{longer-lines}
use Rattle.replay.proofs.worlds.LinesDoing.{by_number}
use Rattle.replay.proofs.pieces.ApartWorlds.{IsApart, MadeFrom, apart-lines, made-kept, number-all}
use Rattle.replay.proofs.pieces.GonePeers.{IsGone, gone-cut, gone-lines, none-cut}
use Rattle.replay.proofs.pieces.OtherLines.{peer-stays-lines, others-leave}
use Rattle.replay.proofs.rest.RanLaws.{followed_by, followed, ran-append}
use Rattle.replay.proofs.rest.StreamCounts.{rest-has-none}
use Rattle.replay.proofs.rest.RestingStreams.{first_part, second_part, cut_behind, first-octets, second-octets}
use Rattle.replay.proofs.rest.RestingExchanges as resting_exchanges
use Rattle.replay.proofs.rest.RestingExchanges.{ExchangedBy, ExchangedAs}

-- ---- one line

module _ (w : Word) (number : ℕ) (piece : List ℕ) (world : World) where
  abbrev by_over : Exchanged → Option EndReason → Printed
  by_over x over = (elim over as (λ _. World) [ None ↦ record world { hub = x.hub } | Some reason ↦ cut_peer w (record world { hub = x.hub }) ], bytes_line w x.octets ∷ end_lines w over)

  abbrev exchange : Exchanged
  exchange = exchanged enough number piece world.hub []

  -- where the peer has its session, its line is an exchange with it
  pub sends-known : session_number world w ≡ Some number → sends w piece world ≡ exchanges w number piece world
  sends-known known = ap (by_number world w piece) known

  -- so one line is told, and the end, if there is one
  one-line : (over : Option EndReason) → session_number world w ≡ Some number → exchange.over ≡ over → line_does by_history (send w piece) world ≡ by_over exchange over
  one-line over known is = sends-known known ∙ ap (by_over exchange) is

  -- its end leaves the history
  line-history : session_number world w ≡ Some number → (line_does by_history (send w piece) world).0.hub.history ≡ exchange.hub.history
  line-history known = ap (λ (p : Printed). p.0.hub.history) (sends-known known) ∙ by exchange.over
    where
      dropped : (o : Option ℕ) → (hub_without o exchange.hub).history ≡ exchange.hub.history
      dropped None = refl
      dropped (Some n) = refl

      by : (over : Option EndReason) → (by_over exchange over).0.hub.history ≡ exchange.hub.history
      by None = refl
      by (Some reason) = dropped (session_number world w)

-- ---- the messages in a piece

-- what is made of them
record IsMade (hub : Hub) (number : ℕ) (rest : List ℕ) (over : Option EndReason) (x : Exchanged) (made : Option Ran) : Type 0 where
  run : Ran
  is : made ≡ Some run
  over_is : run.over ≡ over
  told : ExchangedBy hub number rest [] x run over

module _ (hub : Hub) (number : ℕ) (rest : List ℕ) (x : Exchanged) where
  is-made : (over : Option EndReason) (o : Option Ran) → (Longer hub x.hub → ⊥) → ExchangedAs hub number rest [] x o → ((r : Ran) → o ≡ Some r → r.over ≡ over) → IsMade hub number rest over x o
  is-made over None no_entry told ends = absurd (no_entry told)
  is-made over (Some r) no_entry told ends = record { run = r; is = refl; over_is = ends r refl; told = subst (ExchangedBy hub number rest [] x r) (ends r refl) told }

  told-octets : (over : Option EndReason) (r : Ran) → ExchangedBy hub number rest [] x r over → x.octets ≡ r.octets
  told-octets None r told = told.octets
  told-octets (Some reason) r told = told.octets

  told-over : (over : Option EndReason) (r : Ran) → ExchangedBy hub number rest [] x r over → x.over ≡ over
  told-over None r told = told.over
  told-over (Some reason) r told = told.told

-- ---- all turns

abbrev pub pieces_in : List Turn → List (List ℕ)
pieces_in turns = map (λ (t : Turn). t.0) turns

abbrev pub lines_in : Word → List Turn → List ScriptLine
lines_in w turns = flat_map (λ (t : Turn). send w t.0 ∷ t.1) turns

-- a session at rest makes these octets of the messages
pub record Makes (hub : Hub) (messages : List (List ℕ)) (core : Core) (octets : List ℕ) : Type 0 where
  pub made : Ran
  pub is : ran hub messages core ≡ Some made
  pub octets_are : made.octets ≡ octets

-- what is made of these messages is over for this reason, or goes on
abbrev pub IsOverWith : Hub → Core → Option EndReason → List (List ℕ) → Type 0
IsOverWith hub core over messages = (r : Ran) → ran hub messages core ≡ Some r → r.over ≡ over

-- A peer's session is at rest before some turns: no entry is made, and the messages in its input and the pieces end it so, or it goes on,
-- as it does behind those before the last.
pub record Waits (hub : Hub) (number : ℕ) (w : Word) (over : Option EndReason) (turns : List Turn) (world : World) (core : Core) (input : List ℕ) : Type 0 where
  pub known : session_number world w ≡ Some number
  pub apart : IsApart world
  pub rest : At hub number world.hub (resting core input [])
  pub none : first_message input ≡ None
  pub below : AreOctets (input ++ concat (pieces_in turns))
  pub few : length (concat (pieces_in turns)) ≤ enough
  pub others : AllByRecursion (λ (t : Turn). list_all (is_of_others w) t.1 ≡ true) turns
  pub no_entry : Longer hub (world_after (lines_in w turns) world).hub → ⊥
  pub ends : IsOverWith hub core over (messages_in (input ++ concat (pieces_in turns))).0
  pub goes_on : (n : ℕ) → n < length turns → IsOverWith hub core None (messages_in (input ++ concat (take n (pieces_in turns)))).0

-- the peer is left with the session that has made of the messages what is made of them, or with none
pub record IsLeft (hub : Hub) (number : ℕ) (w : Word) (core : Core) (split : Split) (last : World) : Type 0 where
  pub made : Ran
  pub is : ran hub split.0 core ≡ Some made
  pub known : session_number last w ≡ Some number
  pub at : At hub number last.hub (resting made.core split.1 [])

pub record HasNone (number : ℕ) (w : Word) (last : World) : Type 0 where
  pub known : session_number last w ≡ None
  pub gone : IsGone number last.hub

abbrev pub LeavesWith : Hub → ℕ → Word → Core → Split → World → Option EndReason → Type 0
LeavesWith hub number w core split last None = IsLeft hub number w core split last
LeavesWith hub number w core split last (Some reason) = HasNone number w last

-- what is told of each piece: of the first ones, together, what is made of the messages in them; the lines; and how the peer is left
pub record TellsTurns (hub : Hub) (number : ℕ) (core : Core) (input : List ℕ) (w : Word) (over : Option EndReason) (turns : List Turn) (world : World) : Type 0 where
  pub told : List (List ℕ)
  pub count : length told ≡ length turns
  pub in_turn : (n : ℕ) → Makes hub (messages_in (input ++ concat (take n (pieces_in turns)))).0 core (concat (take n told))
  pub lines : (records : HeldRecords) (askings : Askings) → printed_by records (lines_in w turns) world askings ≡ printed_turns records w over turns told world askings
  pub left : LeavesWith hub number w core (messages_in (input ++ concat (pieces_in turns))) (world_after (lines_in w turns) world) over

-- of no octets nothing is made
nothing-in : (input : List ℕ) → first_message input ≡ None → messages_in (input ++ []) ≡ ([], input)
nothing-in input none = ap messages_in (append-nil input) ∙ none_found input none

makes-nothing : (hub : Hub) (core : Core) (input : List ℕ) → first_message input ≡ None → Makes hub (messages_in (input ++ [])).0 core []
makes-nothing hub core input none = record { made = record { octets = []; over = None; core = core }; is = ap (λ (s : Split). ran hub s.0 core) (nothing-in input none); octets_are = refl }

-- octets of some messages before those of further ones
ran-both : (hub : Hub) (first second : List (List ℕ)) (core : Core) (r made : Ran) → ran hub first core ≡ Some r → r.over ≡ None → ran hub second r.core ≡ Some made → ran hub (first ++ second) core ≡ Some (behind_octets r.octets made)
ran-both hub first second core r made is live further =
    ran-append hub first second core ∙ ap (followed hub second) is ∙ ap (followed_by hub second r) live ∙ ap (λ (o : Option Ran). option_map (behind_octets r.octets) o) further

makes-both : (hub : Hub) (first second : List (List ℕ)) (core : Core) (r : Ran) (octets further : List ℕ) → ran hub first core ≡ Some r → r.over ≡ None → octets ≡ r.octets → Makes hub second r.core further → Makes hub (first ++ second) core (octets ++ further)
makes-both hub first second core r octets further is live same m = record {
  made = behind_octets r.octets m.made;
  is = ran-both hub first second core r m.made is live m.is;
  octets_are = ap (λ (o : List ℕ). r.octets ++ o) m.octets_are ∙ ap (λ (o : List ℕ). o ++ further) (sym same);
}

-- the first pieces, the first of which has these messages
turns_with : (hub : Hub) (piece : List ℕ) (pieces : List (List ℕ)) (core : Core) (input : List ℕ) → first_message input ≡ None → (r : Ran) (octets : List ℕ) (told : List (List ℕ)) → ran hub (first_part input piece).0 core ≡ Some r → r.over ≡ None → octets ≡ r.octets
    → ((n : ℕ) → Makes hub (messages_in ((first_part input piece).1 ++ concat (take n pieces))).0 r.core (concat (take n told)))
    → (n : ℕ) → Makes hub (messages_in (input ++ concat (take n (piece ∷ pieces)))).0 core (concat (take n (octets ∷ told)))
turns_with hub piece pieces core input none r octets told is live same turns zero = makes-nothing hub core input none
turns_with hub piece pieces core input none r octets told is live same turns (suc n) =
    let behind : List ℕ = concat (take n pieces) in
    subst (λ (s : Split). Makes hub s.0 core (octets ++ concat (take n told))) (sym (cut_behind input piece behind (piece ++ behind) refl))
    (makes-both hub (first_part input piece).0 (second_part input piece behind).0 core r octets (concat (take n told)) is live same (turns n))

-- the last piece
last_turn : (hub : Hub) (piece : List ℕ) (core : Core) (input : List ℕ) → first_message input ≡ None → (r : Ran) (octets : List ℕ) → ran hub (first_part input piece).0 core ≡ Some r → octets ≡ r.octets
    → (n : ℕ) → Makes hub (messages_in (input ++ concat (take n (piece ∷ [])))).0 core (concat (take n (octets ∷ [])))
last_turn hub piece core input none r octets is same = by
  where
    whole : Makes hub (messages_in (input ++ (piece ++ []))).0 core (octets ++ [])
    whole = record {
      made = r;
      is = ap (λ (p : List ℕ). ran hub (messages_in (input ++ p)).0 core) (append-nil piece) ∙ is;
      octets_are = sym same ∙ sym (append-nil octets);
    }

    by : (n : ℕ) → Makes hub (messages_in (input ++ concat (take n (piece ∷ [])))).0 core (concat (take n (octets ∷ [])))
    by zero = makes-nothing hub core input none
    by (suc zero) = whole
    by (suc (suc n)) = whole

-- the lines of a turn before those of others
turn-before : (records : HeldRecords) (w : Word) (over : Option EndReason) (turn : Turn) (turns : List Turn) (octets : List ℕ) (told : List (List ℕ)) (world : World)
    → (line_does by_history (send w turn.0) world).1 ≡ bytes_line w octets ∷ end_lines w (end_behind turns over)
    → ((askings : Askings) → printed_by records (lines_in w turns) (world_after turn.1 (line_does by_history (send w turn.0) world).0) askings ≡ printed_turns records w over turns told (world_after turn.1 (line_does by_history (send w turn.0) world).0) askings)
    → (askings : Askings) → printed_by records (lines_in w (turn ∷ turns)) world askings ≡ printed_turns records w over (turn ∷ turns) (octets ∷ told) world askings
turn-before records w over turn turns octets told world one rest askings =
    let later : World = (line_does by_history (send w turn.0) world).0 in
    let asked : Askings = line_asks (send w turn.0) world askings in
    ap (λ (lines : List (List ℕ)). lines ++ printed_by records (turn.1 ++ lines_in w turns) later asked) one
    ∙ ap (λ (lines : List (List ℕ)). bytes_line w octets ∷ (end_lines w (end_behind turns over) ++ lines))
    (printed-append records turn.1 (lines_in w turns) later asked ∙ ap (λ (lines : List (List ℕ)). printed_by records turn.1 later asked ++ lines) (rest (lines_asks turn.1 later asked)))

-- what is said of turns
abbrev pub PrintsTurns : Hub → ℕ → Word → Option EndReason → List Turn → Type 0
PrintsTurns hub number w over turns = (world : World) (core : Core) (input : List ℕ) → Waits hub number w over turns world core input → TellsTurns hub number core input w over turns world

no-turn : (hub : Hub) (number : ℕ) (w : Word) (over : Option EndReason) → PrintsTurns hub number w over []
no-turn hub number w over world core input h = record { told = []; count = refl; in_turn = first; lines = λ records askings. refl; left = by over (h.ends (silent_run core) nothing) }
  where
    silent_run : Core → Ran
    silent_run core = record { octets = []; over = None; core = core }

    nothing : ran hub (messages_in (input ++ [])).0 core ≡ Some (silent_run core)
    nothing = ap (λ (s : Split). ran hub s.0 core) (nothing-in input h.none)

    first : (n : ℕ) → Makes hub (messages_in (input ++ concat (take n []))).0 core (concat (take n []))
    first zero = makes-nothing hub core input h.none
    first (suc n) = makes-nothing hub core input h.none

    by : (over : Option EndReason) → None ≡ over → LeavesWith hub number w core (messages_in (input ++ [])) world over
    by None same = record {
      made = silent_run core;
      is = nothing;
      known = h.known;
      at = subst (λ (s : Split). At hub number world.hub (resting core s.1 [])) (sym (nothing-in input h.none)) h.rest;
    }
    by (Some reason) same = absurd cc

-- ---- one turn

module _ (hub : Hub) (number : ℕ) (w : Word) (over : Option EndReason) (turn : Turn) (turns : List Turn) (world : World) (core : Core) (input : List ℕ) (h : Waits hub number w over (turn ∷ turns) world core input) where
  abbrev piece : List ℕ
  piece = turn.0

  abbrev behind : List ℕ
  behind = concat (pieces_in turns)

  abbrev first : Split
  first = first_part input piece

  abbrev second : Split
  second = second_part input piece behind

  abbrev x : Exchanged
  x = exchanged enough number piece world.hub []

  -- the world behind the piece, and that behind the lines of others
  abbrev later : World
  later = (line_does by_history (send w piece) world).0

  abbrev last : World
  last = world_after turn.1 later

  all : length piece + length behind ≤ enough
  all = omega (arith, h.few, length-append piece behind)

  apart : IsApart later
  apart = apart-lines (send w piece ∷ []) world h.apart

  -- a history that was longer would be so behind all lines
  no_entry_last : Longer hub (world_after (lines_in w turns) last).hub → ⊥
  no_entry_last longer = h.no_entry (subst (λ (z : World). Longer hub z.hub) (sym (after-append turn.1 (lines_in w turns) later)) longer)

  no_entry_then : Longer hub last.hub → ⊥
  no_entry_then longer = no_entry_last (longer-lines hub (lines_in w turns) last longer)

  no_entry_piece : Longer hub x.hub → ⊥
  no_entry_piece longer = no_entry_then (longer-lines hub turn.1 later (subst (λ (entries : List Entry). length hub.history < length entries) (sym (line-history w number piece world h.known)) longer))

  -- what is made of messages behind the piece
  module _ (r : Ran) (is : ran hub first.0 core ≡ Some r) (live : r.over ≡ None) where
    behind-whole : (octets : List ℕ) (made : Ran) → ran hub (messages_in (first.1 ++ octets)).0 r.core ≡ Some made → ran hub (messages_in (input ++ (piece ++ octets))).0 core ≡ Some (behind_octets r.octets made)
    behind-whole octets made further =
        ap (λ (s : Split). ran hub s.0 core) (cut_behind input piece octets (piece ++ octets) refl) ∙ ran-both hub first.0 (second_part input piece octets).0 core r made is live further

    over-behind : (octets : List ℕ) (o : Option EndReason) → IsOverWith hub core o (messages_in (input ++ (piece ++ octets))).0 → IsOverWith hub r.core o (messages_in (first.1 ++ octets)).0
    over-behind octets o ends made further = ends (behind_octets r.octets made) (behind-whole octets made further)

    left-behind : (o : Option EndReason) (there : World) → LeavesWith hub number w r.core second there o → LeavesWith hub number w core (messages_in (input ++ (piece ++ behind))) there o
    left-behind None there l = record {
      made = behind_octets r.octets l.made;
      is = behind-whole behind l.made l.is;
      known = l.known;
      at = subst (λ (s : Split). At hub number there.hub (resting l.made.core s.1 [])) (sym (cut_behind input piece behind (piece ++ behind) refl)) l.at;
    }
    left-behind (Some reason) there l = record { known = l.known; gone = l.gone }

  -- a piece behind which the session goes on: it is at rest behind the lines of others
  module _ (m : IsMade hub number first.1 None x (ran hub first.0 core)) where
    one : line_does by_history (send w piece) world ≡ (record world { hub = x.hub }, bytes_line w x.octets ∷ [])
    one = one-line w number piece world None h.known m.told.over

    known : session_number later w ≡ Some number
    known = ap (λ (p : Printed). session_number p.0 w) one ∙ h.known

    abbrev left : Session
    left = resting m.run.core first.1 []

    still_there : At hub number last.hub left
    still_there = by (others-leave hub number left w turn.1 later h.others.0 apart known (subst (λ (p : Printed). At hub number p.0.hub left) (sym one) m.told.at))
      where
        by : At hub number last.hub left ⊎ Longer hub last.hub → At hub number last.hub left
        by (inl there) = there
        by (inr longer) = absurd (no_entry_then longer)

    known_last : session_number last w ≡ Some number
    known_last = peer-stays-lines w (Some number) turn.1 later h.others.0 known

    waits : Waits hub number w over turns last m.run.core first.1
    waits = record {
      known = known_last;
      apart = apart-lines turn.1 later apart;
      rest = still_there;
      none = rest-has-none (input ++ piece);
      below = second-octets input piece behind (piece ++ behind) refl h.below;
      few = omega (arith, all);
      others = h.others.1;
      no_entry = no_entry_last;
      ends = over-behind m.run m.is m.over_is behind over h.ends;
      goes_on = λ n few. over-behind m.run m.is m.over_is (concat (take n (pieces_in turns))) None (h.goes_on (suc n) (one_less n (length turns) few));
    }
      where
        one_less : (n k : ℕ) → n < k → suc n < suc k
        one_less n k l = omega (arith, l)

    with_turn : end_behind turns over ≡ None → TellsTurns hub number m.run.core first.1 w over turns last → TellsTurns hub number core input w over (turn ∷ turns) world
    with_turn no_end rest = record {
      told = x.octets ∷ rest.told;
      count = ap suc rest.count;
      in_turn = turns_with hub piece (pieces_in turns) core input h.none m.run x.octets rest.told m.is m.over_is m.told.octets rest.in_turn;
      lines = λ records. turn-before records w over turn turns x.octets rest.told world
          (ap (λ (p : Printed). p.1) one ∙ sym (ap (λ (o : Option EndReason). bytes_line w x.octets ∷ end_lines w o) no_end)) (rest.lines records);
      left = subst (λ (z : World). LeavesWith hub number w core (messages_in (input ++ (piece ++ behind))) z over) (sym (after-append turn.1 (lines_in w turns) later))
          (left-behind m.run m.is m.over_is over (world_after (lines_in w turns) last) rest.left);
    }

next_one : (n m : ℕ) → n < m → n + 1 ≤ m
next_one n m l = omega (arith, l)

below_one : (n m : ℕ) → n + 1 ≤ m → n < m
below_one n m l = omega (arith, l)

-- the last piece, which ends the session
module _ (hub : Hub) (number : ℕ) (w : Word) (reason : EndReason) (turn : Turn) (world : World) (core : Core) (input : List ℕ) (h : Waits hub number w (Some reason) (turn ∷ []) world core input) where
  abbrev ending : Exchanged
  ending = exchanged enough number turn.0 world.hub []

  abbrev ended : World
  ended = cut_peer w (record world { hub = ending.hub })

  module _ (m : IsMade hub number (first_part input turn.0).1 (Some reason) ending (ran hub (first_part input turn.0).0 core)) where
    end_is : line_does by_history (send w turn.0) world ≡ (ended, bytes_line w ending.octets ∷ end_lines w (Some reason))
    end_is = one-line w number turn.0 world (Some reason) h.known m.told.told

    -- the number was given before
    given : number < ending.hub.numbers_given
    given =
        let before = number-all (λ n. n < world.hub.numbers_given) w world.peers number h.apart.below h.known in
        let kept = exchanged-keeps AnyMessage (MadeFrom (number + 1)) (made-kept (number + 1)) any-parts enough number turn.0 world.hub [] tt (next_one number world.hub.numbers_given before) in
        below_one number ending.hub.numbers_given kept

    has-none : HasNone number w (world_after turn.1 ended)
    has-none = record {
      known = peer-stays-lines w None turn.1 ended h.others.0 (none-cut w (record world { hub = ending.hub }));
      gone = gone-lines number turn.1 ended (gone-cut number w (record world { hub = ending.hub }) h.known given);
    }

    last-lines : world_after (lines_in w (turn ∷ [])) world ≡ world_after turn.1 ended
    last-lines = after-append turn.1 [] (line_does by_history (send w turn.0) world).0 ∙ ap (λ (p : Printed). world_after turn.1 p.0) end_is

    with_end : TellsTurns hub number core input w (Some reason) (turn ∷ []) world
    with_end = record {
      told = ending.octets ∷ [];
      count = refl;
      in_turn = last_turn hub turn.0 core input h.none m.run ending.octets m.is m.told.octets;
      lines = λ records. turn-before records w (Some reason) turn [] ending.octets [] world (ap (λ (p : Printed). p.1) end_is) (λ askings. refl);
      left = subst (HasNone number w) (sym last-lines) has-none;
    }

module _ (stays-longer : (hub : Hub) → StaysLonger hub) (emits-as-ran : EmitsAsRan) (hub : Hub) (number : ℕ) (bounded : IsBounded (state_now hub)) (w : Word) where
  -- what a piece is told
  module _ (over : Option EndReason) (turn : Turn) (turns : List Turn) (world : World) (core : Core) (input : List ℕ) (h : Waits hub number w over (turn ∷ turns) world core input) where
    made-of : (o : Option EndReason) → IsOverWith hub core o (first_part input turn.0).0 → IsMade hub number (first_part input turn.0).1 o (exchanged enough number turn.0 world.hub []) (ran hub (first_part input turn.0).0 core)
    made-of o ends =
        let below = first-octets input turn.0 (concat (pieces_in turns)) (turn.0 ++ concat (pieces_in turns)) refl h.below in
        let told = resting_exchanges.exchanges stays-longer emits-as-ran hub number bounded enough turn.0 world.hub core input [] h.rest h.none below (omega (arith, all hub number w over turn turns world core input h)) in
        is-made hub number (first_part input turn.0).1 (exchanged enough number turn.0 world.hub []) o (ran hub (first_part input turn.0).0 core) (no_entry_piece hub number w over turn turns world core input h) told ends

    goes-on : end_behind turns over ≡ None → IsOverWith hub core None (first_part input turn.0).0 → PrintsTurns hub number w over turns → TellsTurns hub number core input w over (turn ∷ turns) world
    goes-on no_end ends further =
        let m = made-of None ends in
        with_turn hub number w over turn turns world core input h m no_end (further _ _ _ (waits hub number w over turn turns world core input h m))

  -- the messages in one piece alone
  alone : (core : Core) (input piece : List ℕ) (o : Option EndReason) → IsOverWith hub core o (messages_in (input ++ (piece ++ []))).0 → IsOverWith hub core o (first_part input piece).0
  alone core input piece o ends = subst (λ (p : List ℕ). IsOverWith hub core o (messages_in (input ++ p)).0) (append-nil piece) ends

  one-turn : (over : Option EndReason) (turn : Turn) (turns : List Turn) → PrintsTurns hub number w over turns → PrintsTurns hub number w over (turn ∷ turns)
  one-turn over turn (next ∷ turns) further world core input h =
      goes-on over turn (next ∷ turns) world core input h refl (alone core input turn.0 None (h.goes_on 1 (omega arith))) further
  one-turn None turn [] further world core input h = goes-on None turn [] world core input h refl (alone core input turn.0 None h.ends) further
  one-turn (Some reason) turn [] further world core input h = with_end hub number w reason turn world core input h (made-of (Some reason) turn [] world core input h (Some reason) (alone core input turn.0 (Some reason) h.ends))

  pub turn-lines : (over : Option EndReason) (turns : List Turn) → PrintsTurns hub number w over turns
  turn-lines over [] = no-turn hub number w over
  turn-lines over (turn ∷ turns) = one-turn over turn turns (turn-lines over turns)
