-- A settle comes to a round that is still, and leaves nothing under way where it prints its line alone.
--     few-rounds-end      what falls in each round that isn't still
--     settles-empty      rounds that come to an end
--     turns-suffice, settles-of-zones      settles of whole scripts
use Rattle.std.proofs.Common.{◌≡◌, ℕ, zero, suc, ◌<◌, ◌==◌, ◌&&◌, not, Bool, true, false, List, [], ◌∷◌, ◌++◌, length, Option, Some, None, is_some, refl, sym, ◌∙◌, ap, subst, arith, true≢false, codes}
use Rattle.std.specs.Prelude.{IsTrue, if◌then◌else◌}
use Rattle.std.specs.Str.{bytes_eq}
use Rattle.std.proofs.lemmas.Bool.{and_parts, eqb-true}
use Rattle.dsotlv.proofs.Results.{same_found}
use Rattle.dsosession.specs.declared.session.EndReason.{EndReason}
use Rattle.pushserver.specs.PlainHubs.{Session}
use Rattle.pushserver.specs.Hubs.{session_of}
use Rattle.pushclient.specs.Clients.{Connection, closed_as, is_connected}
use Rattle.replay.specs.HeldPoints.{settles_alone}
use Rattle.scripts.specs.Lines.{Word, settle}
use Rattle.replay.specs.Text.{Printed, quietly, end_lines, close_lines, finished, line_does, world_after}
use Rattle.replay.specs.TextWords.{by_history}
use Rattle.replay.specs.World.{World, Seat, seat_of, with_seat, start_world, is_over, world_cut_if}
use Rattle.replay.specs.PassedOctets.{is_still, Passed, passed, enough, round, settled}
use Rattle.replay.specs.Promises.{ShownPoints, IsQuiet, SeatIsQuiet}
use Rattle.replay.proofs.worlds.BetweenLines.{after-append}
use Rattle.script_laws.specs.Reached.{IsReached, ReachedOnesGoOn}
use Rattle.script_laws.specs.Joined.{IsJoined, StandsWith, PassesSo, ShownToEach, WorldStands}
use Rattle.script_laws.specs.Walk.{RoundsPass}
use Rattle.script_laws.specs.Whole.{StandsAfterEachLine}
use Rattle.script_laws.specs.Settling.{IsEmptied, QuietAtLast, ends_still, RoundsFall, FewRoundsEnd, SettlesEmpty, TurnsSuffice, IsLittleAtSettles, SettlesOfLines}
use Rattle.script_laws.proofs.emits.Passing.{reached-behind, settles-pass}
use Rattle.script_laws.proofs.lines.Cutting.{stands-with}
use Rattle.replay.proofs.worlds.SeatsFound.{put-found}
use Rattle.script_laws.proofs.lines.Passing.{told-none}
use Rattle.script_laws.proofs.settles.StillRounds.{no-over}
use Rattle.script_laws.proofs.texts.Along.{seat-stands}

module _ (reached-on : ReachedOnesGoOn) (rounds : RoundsPass) where
  module _ (number : ℕ) (world : World) (shown : ShownPoints) (seat : Seat) (session : Session) (c : Connection) (reached : IsReached world.hub) (j : IsJoined world.hub shown seat number session c) where
    abbrev one_round : Passed
    one_round = round number world seat

    pub passed-one : PassesSo number world shown seat c one_round
    passed-one = rounds number world shown seat session c reached j

    pub reached-one : IsReached one_round.world.hub
    reached-one = reached-behind reached-on number world shown seat c one_round reached passed-one

  -- ---- rounds come to an end

  pub few-rounds-end : (size : ℕ → World → Seat → ℕ) → RoundsFall size → FewRoundsEnd size
  few-rounds-end size fall zero number world shown seat session c reached j waits few = absurd (omega (arith, few))
  few-rounds-end size fall (suc turns) number world shown seat session c reached j waits few = by (is_still r) refl (few-rounds-end size fall turns number r.world shown r.seat one.later one.connection behind one.joined (one.waits waits))
    where
      r : Passed
      r = round number world seat

      one : PassesSo number world shown seat c r
      one = passed-one number world shown seat session c reached j

      behind : IsReached r.world.hub
      behind = reached-one number world shown seat session c reached j

      fewer : (a b turns : ℕ) → b < a → a < suc turns → b < turns
      fewer a b turns less few = omega (arith, less, few)

      by : (b : Bool) → is_still r ≡ b → (size number r.world r.seat < turns → ends_still turns number r.world r.seat ≡ true)
          → (elim b as (λ _. Bool) [ true ↦ true | false ↦ ends_still turns number r.world r.seat ]) ≡ true
      by true is others = refl
      by false is others = others (fewer (size number world seat) (size number r.world r.seat) turns (fall number world shown seat session c reached j waits is) few)

  -- ---- and leave nothing under way

  module _ (quiet : QuietAtLast) where
    pub settles-empty : SettlesEmpty
    settles-empty zero number over world shown seat session c reached j waits ends = absurd (true≢false (sym ends))
    settles-empty (suc turns) number over world shown seat session c reached j waits ends =
        by (is_still r) refl ends (settles-empty turns number so_far r.world shown r.seat one.later one.connection behind one.joined (one.waits waits))
      where
        r : Passed
        r = round number world seat

        one : PassesSo number world shown seat c r
        one = passed-one number world shown seat session c reached j

        behind : IsReached r.world.hub
        behind = reached-one number world shown seat session c reached j

        so_far : Option EndReason
        so_far = if is_some over then over else r.over

        Empties : Passed → Type 0
        Empties p = p.over ≡ None → closed_as p.seat.client ≡ None → IsEmptied p.world.hub p.seat number

        by : (b : Bool) → is_still r ≡ b → (elim b as (λ _. Bool) [ true ↦ true | false ↦ ends_still turns number r.world r.seat ]) ≡ true
            → (ends_still turns number r.world r.seat ≡ true → Empties (settled turns number r.world r.seat so_far))
            → Empties (elim b as (λ _. Passed) [ true ↦ record r { over = so_far } | false ↦ settled turns number r.world r.seat so_far ])
        by true is ends_so others = λ told closed. quiet number world shown seat session c reached j waits is (no-over over r.over told).1 closed
        by false is ends_so others = others ends_so

-- ---- the line

module _ (w : Word) (world : World) where
  abbrev settled_by : Seat → Option ℕ → Passed
  settled_by seat o = elim o as (λ _. Passed) [ None ↦ passed world seat 0 | Some number ↦ settled enough number world seat None ]

  abbrev settles_at : Option Seat → Printed
  settles_at o = elim o as (λ _. Printed) [ None ↦ quietly world | Some seat ↦ finished (codes "settle" ∷ w ∷ []) (settled_by seat seat.session) ]

  abbrev is_there : Option Seat → Bool
  is_there o = elim o as (λ _. Bool) [ None ↦ false | Some seat ↦ not seat.is_lone && is_connected seat.client ]

  -- the seat of the word is quiet then
  abbrev Quiets : Printed → Type 0
  Quiets p = (later : Seat) → seat_of p.0 w ≡ Some later → SeatIsQuiet p.0.hub later

  -- what is behind the line, where it was printed alone
  put-quiet : (p : Passed) → length (finished (codes "settle" ∷ w ∷ []) p).1 ≡ 1 → seat_of (with_seat p.seat p.world) w ≡ Some p.seat → (p.over ≡ None → closed_as p.seat.client ≡ None → SeatIsQuiet p.world.hub p.seat)
      → Quiets (finished (codes "settle" ∷ w ∷ []) p)
  put-quiet p alone found quiet =
      let ending : List (List ℕ) = end_lines p.seat.word p.over ++ close_lines p.seat.word (closed_as p.seat.client) in
      let none : length ending ≡ 0 = less (length ending) alone in
      let told = told-none p.seat.word p.over (closed_as p.seat.client) none in
      subst (λ (b : Bool). (later : Seat) → seat_of (world_cut_if b p.seat (with_seat p.seat p.world)) w ≡ Some later → SeatIsQuiet (world_cut_if b p.seat (with_seat p.seat p.world)).hub later) (λ i. is_over (sym told.0 i) (sym told.1 i))
      (λ later there. subst (λ (s : Seat). SeatIsQuiet p.world.hub s) (same_found p.seat later (sym found ∙ there)) (quiet told.0 told.1))
    where
      less : (n : ℕ) → suc n ≡ 1 → n ≡ 0
      less n is = omega (arith, is)

  module _ (reached-on : ReachedOnesGoOn) (rounds : RoundsPass) (quiet : QuietAtLast) (shown : ShownToEach) (stands : WorldStands shown world)
      (ends : (seat : Seat) (number : ℕ) → seat_of world w ≡ Some seat → seat.session ≡ Some number → ends_still enough number world seat ≡ true) where
    by-session : (seat : Seat) → seat_of world w ≡ Some seat → (o : Option ℕ) → seat.session ≡ o → length (finished (codes "settle" ∷ w ∷ []) (settled_by seat o)).1 ≡ 1 → Quiets (finished (codes "settle" ∷ w ∷ []) (settled_by seat o))
    by-session seat found None has alone =
        put-quiet (passed world seat 0) alone (put-found world w seat seat found refl) (λ told closed number session c has_one. let both : None ≡ Some number = sym has ∙ has_one in absurd cc)
    by-session seat found (Some number) has alone =
        let here : StandsWith world.hub (shown seat.word) seat number = stands-with world.hub (shown seat.word) seat number has (seat-stands shown world w seat stands found) in
        let p : Passed = settled enough number world seat None in
        let so : PassesSo number world (shown seat.word) seat here.connection p =
        settles-pass reached-on rounds enough number None (λ reason none. absurd cc) world (shown seat.word) seat here.session here.connection stands.reached here.joined in
        let there : seat_of p.world w ≡ Some seat = ap (λ (v : World). seat_of v w) so.world_is ∙ found in
        put-quiet p alone (put-found p.world w seat p.seat there so.word)
        (λ told closed other session c has_other session_there connected.
        let both : Some number ≡ Some other = sym has ∙ sym so.session ∙ has_other in
        let emptied : IsEmptied p.world.hub p.seat number =
        settles-empty reached-on rounds quiet enough number None world (shown seat.word) seat here.session here.connection stands.reached here.joined (λ unclosed. here.waits) (ends seat number found has) told closed in
        subst (λ (n : ℕ). (s : Session) (d : Connection) → session_of p.world.hub n ≡ Some s → p.seat.client.connection ≡ Some d → IsQuiet p.world.hub p.seat n s d) (same_found number other both) emptied session c session_there connected)

    by-seat : (o : Option Seat) → seat_of world w ≡ o → length (settles_at o).1 ≡ 1 → is_there o ≡ true → Quiets (settles_at o)
    by-seat None found alone is = absurd (true≢false (sym is))
    by-seat (Some seat) found alone is = by-session seat found seat.session refl alone

    pub line-quiet : IsTrue (settles_alone w (settle w) world) → Quiets (line_does by_history (settle w) world)
    line-quiet alone =
        let parts = and_parts (bytes_eq w w && length (line_does by_history (settle w) world).1 == 1) (is_there (seat_of world w)) alone in
        let first = and_parts (bytes_eq w w) (length (line_does by_history (settle w) world).1 == 1) parts.0 in
        by-seat (seat_of world w) refl (eqb-true (length (line_does by_history (settle w) world).1) 1 first.1) parts.1

-- ---- whole scripts

pub turns-suffice : ReachedOnesGoOn → RoundsPass → StandsAfterEachLine → (size : ℕ → World → Seat → ℕ) → RoundsFall size → IsLittleAtSettles size → TurnsSuffice
turns-suffice reached-on rounds stand size fall little script lines before after w seat number are found has =
    let world : World = world_after before (start_world script) in
    let stands = stand script before (settle w ∷ after) lines are in
    let here = stands-with world.hub _ seat number has (seat-stands _ world w seat stands found) in
    few-rounds-end reached-on rounds size fall enough number world _ seat here.session here.connection stands.reached here.joined (λ unclosed. here.waits)
    (little script before after w seat number lines are found has)

pub settles-of-zones : ReachedOnesGoOn → RoundsPass → QuietAtLast → StandsAfterEachLine → TurnsSuffice → SettlesOfLines
settles-of-zones reached-on rounds quiet stand suffice script lines before after w seat are alone =
    let world : World = world_after before (start_world script) in
    subst (λ (later : World). seat_of later w ≡ Some seat → SeatIsQuiet later.hub seat) (sym (after-append before (settle w ∷ []) (start_world script)))
    (line-quiet w world reached-on rounds quiet _ (stand script before (settle w ∷ after) lines are)
    (λ s number found has. suffice script lines before after w s number are found has) alone seat)
