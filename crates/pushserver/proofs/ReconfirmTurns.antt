-- The turn of a session whose first message reconfirms a record: the record is reconfirmed, and then the session takes the message up.
--     ready-request, ready-found      the session behind the reconfirmation: it is there, and its message waits still
--     reconfirm-gave      what `give` does
use Rattle.std.proofs.Common.{◌≡◌, ℕ, ◌≤◌, Bool, true, false, cond, ◌&&◌, List, [], length, Option, Some, None, refl, sym, ap, subst, ◌∙◌}
use Rattle.std.specs.List.{AllByRecursion}
use Rattle.rrset.specs.declared.record.Key.{Key}
use Rattle.rrset.specs.declared.record.Rr.{Rr}
use Rattle.dsotlv.specs.Messages.{first_message}
use Rattle.coalesce.specs.Waiting.{WaitingName}
use Rattle.dsosession.specs.Timing.{Clocks}
use Rattle.history.specs.States.{accepts, reconfirm_key}
use Rattle.history.specs.declared.entry.Entry.{Entry}
use Rattle.history.specs.declared.entry.Entry.TheVariants as entries
use Rattle.pushsession.specs.Kept.{KeptSession}
use Rattle.pushsession.specs.Requests.{request_of, reconfirmed, taken_up}
use Rattle.pushsession.specs.Reactions.{restarted_by}
use Rattle.pushsession.specs.declared.request.Request.TheVariants as requests
use Rattle.pushsession.specs.declared.session_status.SessionStatus.TheVariants.{Live}
use Rattle.livesessions.specs.NumberedSessions.{Numbered, session_in, in_sessions, AreApart}
use Rattle.pushserver.specs.Hubs.{now, state_now, in_session, entered_keeping, can_enter}
use Rattle.pushserver.specs.Giving.{given_after, after_reaction, copies_or, reconfirm, give}
use Rattle.pushserver.specs.KeptHubs.{KeptHub, Forgets}
use Rattle.pushserver.specs.HubState.{Gave}
use Rattle.pushserver.specs.declared.given.Given.{Given}
use Rattle.pushserver.proofs.hub_steps.Cases.{key_as}
use Rattle.pushserver.proofs.ForgottenEntries.{forgets-seat}
use Rattle.pushserver.proofs.JudgedTurns.{SameBut, Found, found-entered, found-same, found-later, found-is, found-none, lifted_to, entered-in}
use Rattle.pushserver.proofs.SessionTurns as turns
use Rattle.pushserver.proofs.SessionTurns.{HandsOn, gave-forgets}

-- ---- what a reconfirmation does to a session

found-behind : (k : KeptHub) (rr : Rr) (number : ℕ) (s : KeptSession) → session_in number k.sessions ≡ Some s → Found (reconfirm k rr) number s
found-behind k rr number s there = by (reconfirm_key (state_now k) rr)
  where
    by_room : (entry : Entry) (b : Bool) → Found (cond b (entered_keeping entry k) k) number s
    by_room entry true = found-entered entry k number s there
    by_room entry false = found-same k number s there

    by : (o : Option (ℕ × Key)) → Found (key_as k o) number s
    by None = found-same k number s there
    by (Some found) = by_room (entries.Reconfirm found.0 found.1) (accepts (state_now k) (entries.Reconfirm found.0 found.1) && can_enter k)

-- the message may leave the input before or after it
reconfirm-in : (number : ℕ) (rest : List ℕ) (clocks : Clocks) (k : KeptHub) (rr : Rr) → reconfirm (in_session number (lifted_to rest clocks) k) rr ≡ in_session number (lifted_to rest clocks) (reconfirm k rr)
reconfirm-in number rest clocks k rr = by (reconfirm_key (state_now k) rr)
  where
    by_room : (entry : Entry) (b : Bool) → cond b (entered_keeping entry (in_session number (lifted_to rest clocks) k)) (in_session number (lifted_to rest clocks) k) ≡ in_session number (lifted_to rest clocks) (cond b (entered_keeping entry k) k)
    by_room entry true = entered-in number rest clocks entry k
    by_room entry false = refl

    by : (o : Option (ℕ × Key)) → key_as (in_session number (lifted_to rest clocks) k) o ≡ in_session number (lifted_to rest clocks) (key_as k o)
    by None = refl
    by (Some found) = by_room (entries.Reconfirm found.0 found.1) (accepts (state_now k) (entries.Reconfirm found.0 found.1) && can_enter k)

-- ---- the session behind it

module _ (k : KeptHub) (number : ℕ) (s : KeptSession) (there : session_in number k.sessions ≡ Some s) (rr : Rr) (later : KeptHub) (forgets : Forgets (reconfirm k rr) later) where
  same_but : (s1 : KeptSession) → session_in number later.sessions ≡ Some s1 → SameBut s s1
  same_but s1 there1 = found-is later number s s1 there1 (found-later (reconfirm k rr) later number s forgets (found-behind k rr number s there))

  pub ready-request : (s1 : KeptSession) → session_in number later.sessions ≡ Some s1 → request_of s ≡ Some (requests.Reconfirm (Some rr)) → request_of s1 ≡ Some (requests.Reconfirm (Some rr))
  ready-request s1 there1 is = let (a, q, standing, same) = same_but s1 there1 in ap request_of same ∙ is

  pub ready-found : session_in number later.sessions ≡ None → ⊥
  ready-found none = found-none later number s none (found-later (reconfirm k rr) later number s forgets (found-behind k rr number s there))

  -- ---- the message is taken up

  module _ (live : s.standing ≡ Live) (silent : s.output ≡ []) (is : request_of s ≡ Some (requests.Reconfirm (Some rr))) (apart : AreApart k.sessions) (s1 : KeptSession) (there1 : session_in number later.sessions ≡ Some s1) (apart1 : AreApart later.sessions) where
    abbrev mid_hub : KeptHub
    mid_hub = reconfirm k rr

    there_mid : session_in number mid_hub.sessions ≡ Some s1
    there_mid = sym (ap (λ (h : KeptHub). session_in number h.sessions) forgets.is) ∙ there1

    apart_mid : AreApart mid_hub.sessions
    apart_mid = subst (λ (h : KeptHub). AreApart h.sessions) forgets.is apart1

    module _ (first : List ℕ × List ℕ) (waits : first_message s.input ≡ Some first) where
      abbrev lifted : KeptSession → KeptSession
      lifted x = lifted_to first.1 (restarted_by first.0 (now k) s).clocks x

      message-is : turns.after_message number k s there apart live silent first waits ≡ in_session number lifted mid_hub
      message-is =
          turns.after-request number k s there apart live silent first waits (requests.Reconfirm (Some rr)) is
          ∙ ap (λ h. reconfirm h rr) (ap (turns.becomes number k s there apart) (turns.taken-is number k s there apart live silent first waits (now k)) ∙ sym (turns.one number k s there apart lifted))
          ∙ reconfirm-in number first.1 (restarted_by first.0 (now k) s).clocks k rr

      taken-lifted : (t : ℕ) → t ≡ now k → SameBut s s1 → taken_up t s1 ≡ lifted s1
      taken-lifted t moment (a, q, standing, same) =
          subst (λ (x : KeptSession). taken_up t x ≡ lifted x) (sym same)
          ((λ i. record (turns.taken-is number k s there apart live silent first waits t i) { subscriptions = a; queue = q; standing = standing })
          ∙ (λ i. record s { input = first.1; clocks = (restarted_by first.0 (moment i) s).clocks; subscriptions = a; queue = q; standing = standing }))

      first-gave : (t : ℕ) (r : Given) (old new : List ℕ) (mid s_now : KeptSession) (xs : Numbered KeptSession) → t ≡ now k → mid ≡ reconfirmed true t s1 → HandsOn mid (given_after mid.standing) r old new s_now → xs ≡ in_sessions number (λ _. s_now) later.sessions
          → Gave (give k number (length old)) r old new (record later { sessions = xs })
      first-gave t r old new mid s_now xs moment step on lent =
          gave-forgets (give k number (length old)) (copies_or (given_after mid.standing) number (length old) mid (turns.becomes number mid_hub s1 there_mid apart_mid mid)) r old new (turns.becomes number mid_hub s1 there_mid apart_mid s_now) (record later { sessions = xs })
          (turns.give-live number k s there apart live silent (length old) (Some first) waits ∙ ap (after_reaction number (length old)) reconfirmed-is
          ∙ turns.reaction-is number mid_hub s1 there_mid apart_mid (length old) mid)
          (turns.hands number mid_hub s1 there_mid apart_mid (given_after mid.standing) r mid s_now old new on)
          (forgets-seat mid_hub later forgets number s1 s_now there1 (λ n since. subst (λ (q : List WaitingName). AllByRecursion (λ w. n ≤ w.point) q) (sym waits_on) since) xs lent)
        where
          reconfirmed-is : turns.after_message number k s there apart live silent first waits ≡ turns.becomes number mid_hub s1 there_mid apart_mid mid
          reconfirmed-is =
              message-is ∙ turns.one number mid_hub s1 there_mid apart_mid lifted
              ∙ ap (turns.becomes number mid_hub s1 there_mid apart_mid) (sym (step ∙ taken-lifted t moment (same_but s1 there1)))

          waits_on : s_now.queue ≡ s1.queue
          waits_on = ap (λ (x : KeptSession). x.queue) on.session ∙ ap (λ (x : KeptSession). x.queue) step

    pub reconfirm-gave : (t : ℕ) (r : Given) (old new : List ℕ) (mid s_now : KeptSession) (xs : Numbered KeptSession) → t ≡ now k → mid ≡ reconfirmed true t s1 → HandsOn mid (given_after mid.standing) r old new s_now → xs ≡ in_sessions number (λ _. s_now) later.sessions
        → Gave (give k number (length old)) r old new (record later { sessions = xs })
    reconfirm-gave t r old new mid s_now xs moment step on lent =
        let (first, waits) = turns.waiting number k s there apart live silent (requests.Reconfirm (Some rr)) is in
        first-gave first waits t r old new mid s_now xs moment step on lent
