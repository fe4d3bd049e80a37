-- Calls of give, one behind another, of a live session with an empty queue and nothing to write: they give what `ran` says of the whole messages in its input.
--     give-resting      one call: what follows a reaction to the first whole message, or nothing
--     give-ended, give-wrote, give-nothing      what it gives where the session has ended, where it wrote, and where no message is whole
--     emits-reaction      all calls, from one that reacts to a message
--     emits-as-ran      all calls, until nothing is to be said
use Rattle.std.proofs.Common.{◌≡◌, inl, inr, ℕ, zero, suc, ◌+◌, ◌*◌, ◌-◌, ◌<◌, ◌≤◌, true, false, ◌==◌, List, [], ◌∷◌, ◌++◌, min, length, drop, Option, Some, None, option_map, refl, sym, ap, subst, ◌∙◌, arith, take_all, drop_of_length-le, ne_eqb}
use Rattle.push_base.specs.Cases.{is_empty}
use Rattle.dsotlv.specs.Messages.{first_message, messages_in}
use Rattle.dsotlv.proofs.FrameLaws.{Split}
use Rattle.dsotlv.proofs.StreamLaws.{none_found, one_by_one}
use Rattle.dsosession.specs.declared.session.EndReason.{EndReason}
use Rattle.pushsession.specs.declared.session_status.SessionStatus.{SessionStatus}
use Rattle.pushserver.specs.declared.given.Given.{Given}
use Rattle.pushserver.specs.declared.given.Given.TheVariants.{Bytes, Worked, Nothing, Ending, End}
use Rattle.pushserver.specs.PlainHubs.{Session, Hub, Giving}
use Rattle.pushserver.specs.Hubs.{now, state_now, keeps_now, tells_now, session_of, in_session}
use Rattle.pushsession.specs.Subscribing.{with_next_push}
use Rattle.pushsession.specs.Sessions.{without_first}
use Rattle.pushserver.specs.Giving.{give, did, reacted, after_reaction, given_after}
use Rattle.livesessions.proofs.SessionLists.{found-in}
use Rattle.pushserver.proofs.hub_steps.Cases.{copies_as, found_as, works_as, give_as}
use Rattle.replay.specs.PassedOctets.{Emitted, emitted, nothing_emitted, with_giving, enough}
use Rattle.replay.proofs.turns.ZoneSizes.{IsBounded}
use Rattle.replay.proofs.turns.Turns.{turn, after_turn, emitted-turn}
use Rattle.replay.proofs.rest.StreamCounts.{Parts, first-shorter, stream-induction}
use Rattle.replay.proofs.rest.RestingHubs.{at-in_session}
use Rattle.replay.proofs.rest.RanLaws.{behind-none, behind-behind}
use Rattle.replay.proofs.rest.AtRest.{Core, resting, Turned, Ran, behind_octets, turned, ran_by, ran, At, Longer, IsOver, Follows, IsFew, TurnsAsTold, WritesFew, StaysLonger, EmittedAs, EmitsAsRan}

-- ---- one call

-- the names that wait are packed
abbrev packing : Hub → Session → Session
packing hub = with_next_push (keeps_now hub) (tells_now hub) (now hub)

module _ (number room : ℕ) (later : Hub) where
  -- a reaction to the first whole message follows, or else packing
  pub give-resting : (core : Core) (input : List ℕ) (first : Option Parts) → session_of later number ≡ Some (resting core input []) → first_message input ≡ first → give later number room ≡ works_as later number room first
  give-resting core input first there e = ap (give_as later number room) there ∙ ap (works_as later number room) e

  -- an empty queue packs nothing
  pub give-nothing : (core : Core) (input : List ℕ) → session_of later number ≡ Some (resting core input []) → first_message input ≡ None → give later number room ≡ did Nothing (in_session number (packing later) later)
  give-nothing core input there e =
      give-resting core input None there e
      ∙ ap (found_as (in_session number (packing later) later) number room Nothing (λ standing. Nothing)) (found-in number (packing later) later.sessions ∙ ap (λ (o : Option Session). option_map (packing later) o) there)

  -- what a session wrote, where it all has room
  abbrev pub wrote : List ℕ → Giving
  wrote [] = did Worked later
  wrote (o ∷ os) = record { octets = o ∷ os; given = Bytes (length (o ∷ os)); hub = in_session number (λ s. record s { output = drop room s.output }) later }

  pub give-wrote : (core : Core) (input octets : List ℕ) → session_of later number ≡ Some (resting core input octets) → length octets ≤ room → after_reaction number room later ≡ wrote octets
  give-wrote core input [] there fits = ap (found_as later number room Worked given_after) there
  give-wrote core input (o ∷ os) there fits =
      let octets = o ∷ os in
      let least : min room (length octets) ≡ length octets = omega (arith, fits) in
      ap (found_as later number room Worked given_after) there ∙ λ i. record { octets = take_all room octets fits i; given = Bytes (least i); hub = in_session number (λ s. record s { output = drop room s.output }) later }

-- an ended session with nothing to write
pub give-ended : (hub : Hub) (number room : ℕ) (later : Hub) (reason : EndReason) → IsOver hub number later reason → after_reaction number room later ≡ did (End reason) later
give-ended hub number room later reason o =
    ap (found_as later number room Worked given_after) o.at.there
    ∙ ap (λ (os : List ℕ). copies_as later number room o.session (given_after o.session.standing) (is_empty os)) o.output
    ∙ ap (λ (standing : SessionStatus). did (given_after standing) later) o.standing

-- ---- what several calls wrote

not_zero : (budget n : ℕ) → n < budget → (budget == 0) ≡ false
not_zero budget n h = ne_eqb budget 0 (omega (arith, h))

module _ (hub : Hub) (number : ℕ) where
  -- calls of give, from a session at rest with this input, write what it writes behind what was written
  abbrev pub Emits : List ℕ → Type 0
  Emits input = (turns budget : ℕ) (so_far : Emitted) (core : Core) → At hub number so_far.hub (resting core input []) → so_far.over ≡ None → length input < turns → 20000000 * length input < budget
      → EmittedAs hub number (messages_in input).1 (emitted turns number budget so_far) (option_map (behind_octets so_far.octets) (ran hub (messages_in input).0 core))

  -- no message is whole
  emits-none : (input : List ℕ) → first_message input ≡ None → Emits input
  emits-none input e zero budget so_far core a live few fits = absurd (omega (arith, few))
  emits-none input e (suc turns) budget so_far core a live few fits =
      let g = did Nothing (in_session number (packing so_far.hub) so_far.hub) in
      let once : emitted (suc turns) number budget so_far ≡ with_giving g number so_far =
      emitted-turn turns number budget so_far (not_zero budget (20000000 * length input) fits) g (give-nothing number budget so_far.hub core input a.there e) in
      let all : Ran = record { octets = so_far.octets ++ []; over = None; core = core } in
      let is : EmittedAs hub number input (with_giving g number so_far) (Some all) = record { octets = refl; over = live; at = at-in_session hub number so_far.hub (resting core input []) (packing so_far.hub) a } in
      subst (λ (x : Split). EmittedAs hub number x.1 (emitted (suc turns) number budget so_far) (option_map (behind_octets so_far.octets) (ran hub x.0 core))) (sym (none_found input e))
      (subst (λ (x : Emitted). EmittedAs hub number input x (Some all)) (sym once) is)

  module _ (stays-longer : StaysLonger hub) where
    -- entries that were made stay, whatever give does
    longer-turn : (turns budget : ℕ) (so_far : Emitted) (g : Giving) → Longer hub g.hub → Longer hub (after_turn turns number budget so_far g).hub
    longer-turn turns budget so_far g longer = by g.given
      where
        by : (given : Given) → Longer hub (turn (λ n. emitted turns number (budget - n) (with_giving g number so_far)) (emitted turns number budget (record (with_giving g number so_far) { reacted = true })) (with_giving g number so_far) given).hub
        by (Bytes n) = stays-longer.emitted turns number (budget - n) (with_giving g number so_far) longer
        by Worked = stays-longer.emitted turns number budget (record (with_giving g number so_far) { reacted = true }) longer
        by Nothing = longer
        by Ending = longer
        by (End reason) = longer

    -- one call that reacted to a message, and the calls for what is left
    module _ (left : List ℕ) (further : Emits left) (turns budget : ℕ) (so_far : Emitted) (core : Core) (later : Hub)
        (some : (budget == 0) ≡ false) (gives : give so_far.hub number budget ≡ after_reaction number budget later) (live : so_far.over ≡ None)
        (few : length left < turns) (fits : 20000000 * length left + 20000000 < budget) where
      abbrev Emitting : Option Ran → Type 0
      Emitting o = EmittedAs hub number (messages_in left).1 (emitted (suc turns) number budget so_far) (option_map (behind_octets so_far.octets) o)

      once : (g : Giving) → after_reaction number budget later ≡ g → emitted (suc turns) number budget so_far ≡ after_turn turns number budget so_far g
      once g is = emitted-turn turns number budget so_far some g (gives ∙ is)

      emits-longer : Longer hub later → Emitting None
      emits-longer longer =
          subst (λ (x : Emitted). Longer hub x.hub) (sym (once (after_reaction number budget later) refl))
          (longer-turn turns budget so_far (after_reaction number budget later) (stays-longer.after_reaction later number budget longer))

      emits-end : (reason : EndReason) → IsOver hub number later reason → Emitting (Some (record { octets = []; over = Some reason; core = core }))
      emits-end reason o =
          let all : Ran = record { octets = so_far.octets ++ []; over = Some reason; core = core } in
          let end : Emitted = record (with_giving (did (End reason) later) number so_far) { over = Some reason } in
          let is : EmittedAs hub number (messages_in left).1 end (Some all) = record { octets = refl; told = refl; over = o } in
          subst (λ (x : Emitted). EmittedAs hub number (messages_in left).1 x (Some all)) (sym (once (did (End reason) later) (give-ended hub number budget later reason o))) is

      -- behind octets that were written, or none
      emits-wrote : (next : Core) (octets : List ℕ) → At hub number later (resting next left octets) → length octets ≤ 20000000 → Emitting (option_map (behind_octets octets) (ran hub (messages_in left).0 next))
      emits-wrote next octets a small =
          subst (λ (x : Emitted). EmittedAs hub number (messages_in left).1 x (option_map (behind_octets so_far.octets) (option_map (behind_octets octets) others))) (sym (once (wrote number budget later octets) (give-wrote number budget later next left octets a.there (omega (arith, small, fits)))))
          (subst (λ (o : Option Ran). EmittedAs hub number (messages_in left).1 (after_turn turns number budget so_far (wrote number budget later octets)) o) (sym (behind-behind so_far.octets octets others)) (by octets a small))
        where
          others : Option Ran
          others = ran hub (messages_in left).0 next

          by : (octets : List ℕ) → At hub number later (resting next left octets) → length octets ≤ 20000000
              → EmittedAs hub number (messages_in left).1 (after_turn turns number budget so_far (wrote number budget later octets)) (option_map (behind_octets (so_far.octets ++ octets)) (ran hub (messages_in left).0 next))
          by [] a small = further turns budget (record (with_giving (did Worked later) number so_far) { reacted = true }) next a live few (omega (arith, fits))
          by (o ∷ os) a small =
              let octets = o ∷ os in
              let copied = at-in_session hub number later (resting next left octets) (λ s. record s { output = drop budget s.output }) a in
              let rests : At hub number (in_session number (λ s. record s { output = drop budget s.output }) later) (resting next left []) =
              subst (λ (out : List ℕ). At hub number (in_session number (λ s. record s { output = drop budget s.output }) later) (resting next left out)) (drop_of_length-le octets (omega (arith, small, fits))) copied in
              further turns (budget - length octets) (with_giving (wrote number budget later octets) number so_far) next rests live few (omega (arith, small, fits))

      pub emits-reaction : (t : Turned) → Follows hub number later left t → IsFew t → Emitting (ran_by hub (λ next. ran hub (messages_in left).0 next) core t)
      emits-reaction None longer small = emits-longer longer
      emits-reaction (Some (inl reason)) over small = emits-end reason over
      emits-reaction (Some (inr next)) at small = emits-wrote next.0 next.1 at small

module _ (turns-as-told : TurnsAsTold) (writes-few : WritesFew) (stays-longer : (hub : Hub) → StaysLonger hub) where
  module _ (hub : Hub) (number : ℕ) (bounded : IsBounded (state_now hub)) where
    -- a message is whole
    emits-some : (input message left : List ℕ) → first_message input ≡ Some (message, left) → Emits hub number left → Emits hub number input
    emits-some input message left e further zero budget so_far core a live few fits = absurd (omega (arith, few))
    emits-some input message left e further (suc turns) budget so_far core a live few fits =
        let shorter = first-shorter input (message, left) e in
        let taken = at-in_session hub number so_far.hub (resting core input []) (without_first left) a in
        let later = in_session number (without_first left) so_far.hub in
        subst (λ (x : Split). EmittedAs hub number x.1 (emitted (suc turns) number budget so_far) (option_map (behind_octets so_far.octets) (ran hub x.0 core))) (sym (one_by_one input message left e))
        (emits-reaction hub number (stays-longer hub) left further turns budget so_far core (reacted message number later)
        (not_zero budget (20000000 * length input) fits) (give-resting number budget so_far.hub core input (Some (message, left)) a.there e) live
        (omega (arith, few, shorter)) (omega (arith, fits, shorter))
        (turned hub message core) (turns-as-told hub number later message core left taken) (writes-few hub message core bounded))

    emits : (input : List ℕ) → Emits hub number input
    emits input = stream-induction (Emits hub number) (emits-none hub number) emits-some input

  pub emits-as-ran : EmitsAsRan
  emits-as-ran hub number later core input bounded a few =
      subst (λ (o : Option Ran). EmittedAs hub number (messages_in input).1 (emitted enough number enough (nothing_emitted later [])) o) (sym (behind-none (ran hub (messages_in input).0 core)))
      (emits hub number bounded input enough enough (nothing_emitted later []) core a refl (omega (arith, few)) (omega (arith, few)))
