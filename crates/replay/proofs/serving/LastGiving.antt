-- Two calls of give for the newest session: the whole reply, and then nothing; the other sessions stay as they are.
use Rattle.std.proofs.Common.{◌≡◌, ℕ, suc, ◌-◌, ◌≤◌, ◌<◌, false, ◌==◌, List, [], min, length, drop, Some, None, ◌∙◌, ap, append-nil, arith, take_all, drop_of_length-le, le_of_lt, ne_eqb}
use Rattle.push_base.specs.Cases.{is_empty}
use Rattle.dsotlv.specs.Messages.{first_message}
use Rattle.pushserver.specs.declared.given.Given.TheVariants.{Bytes, Worked, Nothing}
use Rattle.pushserver.specs.PlainHubs.{Session, Hub, Giving}
use Rattle.pushserver.specs.Hubs.{now, keeps_now, tells_now, in_session}
use Rattle.pushsession.specs.Subscribing.{with_next_push}
use Rattle.pushsession.specs.Sessions.{without_first}
use Rattle.pushserver.specs.Giving.{give, did, reacted, after_reaction, after_packing, given_after}
use Rattle.pushserver.proofs.Walks.{with_new}
use Rattle.pushserver.proofs.hub_steps.Cases.{copies_as, found_as, works_as, give_as}
use Rattle.replay.specs.PassedOctets.{Emitted, emitted, nothing_emitted, with_giving}
use Rattle.replay.proofs.turns.Turns.{emitted-turn}
use Rattle.replay.proofs.serving.LastSession.{IsBehind, hub_at, session_of-last, in_session-last}
use Rattle.replay.proofs.serving.Answering.{saying, waiting}
use Rattle.replay.proofs.serving.LastAnswering.{Says, IsAnswered}

-- calls of give have written this, and no end; the hub is one with a newest session
pub record Writes (hub : Hub) (e : Emitted) (reply : List ℕ) : Type 0 where
  pub octets : e.octets ≡ reply
  pub over : e.over ≡ None
  pub session : Session
  pub is : e.hub ≡ hub_at hub session

module _ (hub : Hub) (below : IsBehind hub) where
  -- the hub with a session that was waited with, or that has this to write
  abbrev pub waits : List ℕ → Hub
  waits input = hub_at hub (waiting hub input)

  abbrev pub writes : Session → List ℕ → Giving
  writes s reply = record { octets = reply; given = Bytes (length reply); hub = hub_at hub (saying s []) }

  -- a session that has a reply to write writes it whole
  pub after_reaction-writes : (room : ℕ) (later : Hub) (reply : List ℕ) (a : Says hub later reply) → is_empty reply ≡ false → length reply ≤ room
      → after_reaction hub.numbers_given room later ≡ writes a.session reply
  after_reaction-writes room later reply a some fits =
      let s = saying a.session reply in
      ap (after_reaction hub.numbers_given room) a.is
      ∙ ap (found_as (hub_at hub s) hub.numbers_given room Worked given_after) (session_of-last hub below s)
      ∙ ap (copies_as (hub_at hub s) hub.numbers_given room s Worked) some
      ∙ (λ i. record { octets = take_all room reply fits i; given = Bytes (least room (length reply) fits i); hub = dropped i })
    where
      least : (m n : ℕ) → n ≤ m → min m n ≡ n
      least m n h = omega arith

      dropped : in_session hub.numbers_given (λ s. record s { output = drop room s.output }) (hub_at hub (saying a.session reply)) ≡ hub_at hub (saying a.session [])
      dropped = in_session-last hub below (λ s. record s { output = drop room s.output }) (saying a.session reply) ∙ ap (λ o. hub_at hub (saying a.session o)) (drop_of_length-le reply fits)

  -- nothing is to be said
  pub give-nothing_more : (room : ℕ) (s : Session) → give (hub_at hub (saying s [])) hub.numbers_given room ≡ did Nothing (hub_at hub (saying s []))
  give-nothing_more room s =
      let later = hub_at hub (saying s []) in
      ap (give_as later hub.numbers_given room) (session_of-last hub below (saying s []))
      ∙ ap (after_packing hub.numbers_given room) (in_session-last hub below (with_next_push (keeps_now hub) (tells_now hub) (now hub)) (saying s []))
      ∙ ap (found_as later hub.numbers_given room Nothing (λ standing. Nothing)) (session_of-last hub below (saying s []))

  -- a whole message waits
  pub give-writes : (room : ℕ) (octets message reply : List ℕ) (a : IsAnswered hub below message reply) → first_message octets ≡ Some (message, []) → is_empty reply ≡ false → length reply ≤ room
      → give (waits octets) hub.numbers_given room ≡ writes a.session reply
  give-writes room octets message reply a found some fits =
      ap (give_as (waits octets) hub.numbers_given room) (session_of-last hub below (waiting hub octets))
      ∙ ap (works_as (waits octets) hub.numbers_given room) found
      ∙ ap (λ later. after_reaction hub.numbers_given room (reacted message hub.numbers_given later)) (in_session-last hub below (without_first []) (waiting hub octets))
      ∙ after_reaction-writes room (reacted message hub.numbers_given (with_new hub)) reply a some fits

  abbrev pub starts : List ℕ → Emitted
  starts octets = nothing_emitted (waits octets) []

  -- two turns write the reply and end
  pub emitted-writes : (turns budget : ℕ) (octets message reply : List ℕ) → IsAnswered hub below message reply → first_message octets ≡ Some (message, []) → is_empty reply ≡ false → length reply < budget
      → Writes hub (emitted (suc (suc turns)) hub.numbers_given budget (starts octets)) reply
  emitted-writes turns budget octets message reply a found some fits =
      let later = budget - length reply in
      let between = with_giving (writes a.session reply) hub.numbers_given (starts octets) in
      let first : emitted (suc (suc turns)) hub.numbers_given budget (starts octets) ≡ emitted (suc turns) hub.numbers_given later between =
      emitted-turn (suc turns) hub.numbers_given budget (starts octets) (not_zero budget (length reply) fits) (writes a.session reply) (give-writes budget octets message reply a found some (le_of_lt fits)) in
      let second : emitted (suc turns) hub.numbers_given later between ≡ with_giving (did Nothing (hub_at hub (saying a.session []))) hub.numbers_given between =
      emitted-turn turns hub.numbers_given later between (less budget (length reply) fits) (did Nothing (hub_at hub (saying a.session []))) (give-nothing_more later a.session) in
      record { octets = ap (λ e. e.octets) (first ∙ second) ∙ append-nil reply; over = ap (λ e. e.over) (first ∙ second); session = saying a.session []; is = ap (λ e. e.hub) (first ∙ second) }
    where
      not_zero : (m n : ℕ) → n < m → (m == 0) ≡ false
      not_zero m n h = ne_eqb m 0 (omega arith)

      less : (m n : ℕ) → n < m → (m - n == 0) ≡ false
      less m n h = ne_eqb (m - n) 0 (omega arith)
