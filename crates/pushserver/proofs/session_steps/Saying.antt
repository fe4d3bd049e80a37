-- A kept session and the plain one: what is written, what is granted, and what is taken up.
use Rattle.std.proofs.Common.{◌≡◌, ℕ, ◌+◌, ◌≤◌, ◌^◌, Bool, true, false, cond, not, List, [], ◌∷◌, ◌++◌, length, drop, min, Some, refl, ◌∙◌, sym, ap, subst, arith}
use Rattle.std.specs.Prelude.{filter, ◌-◌, ◌==◌}
use Rattle.std.specs.List.{IsDistinct}
use Rattle.std.proofs.lemmas.List.{length-append, length-drop}
use Rattle.std.proofs.lemmas.List.Sums.{sum_by_push}
use Rattle.push_base.specs.Limits.{max_number}
use Rattle.rrset.specs.Header.{two_octets}
use Rattle.rrset.proofs.Places.{all_filter}
use Rattle.dsotlv.specs.Messages.{frame, first_message, head_of}
use Rattle.dsotlv.specs.declared.message.Notice.{Notice}
use Rattle.coalesce.specs.Sides.{frame_octets}
use Rattle.coalesce.specs.Waiting.{WaitingName}
use Rattle.dsosession.specs.Timing.{Clocks, restarted}
use Rattle.dsosession.specs.declared.session.Timers.{Timers}
use Rattle.dsosession.specs.declared.session.EndReason.TheVariants as ends
use Rattle.subscr.specs.Asked.{AreAsked, is_id, without}
use Rattle.subscr.proofs.Asking.{left}
use Rattle.pushsession.specs.Kept.{KeptSession, keeping, without_filled}
use Rattle.dsotlv.specs.Answers.{stop_message, push_message}
use Rattle.pushsession.specs.Sessions.{SessionOf, Keeps, with_frame, answers, ended_with, says_stop, stopped, without_first}
use Rattle.pushsession.specs.Subscribing.{says_notices}
use Rattle.pushsession.specs.Reactions.{restarted_by, granted, unsubscribed}
use Rattle.pushserver.specs.PlainHubs.{Hub, Session, Subscription, Queue, frame_of, size_of_made, asked_of, plain_keeps}
use Rattle.pushserver.specs.Hubs.{state_now}
use Rattle.pushserver.proofs.WaitingNames.{ids-own, watched-let_go}
use Rattle.pushserver.proofs.session_steps.LettingGo.{let_go-waits}
use Rattle.pushserver.proofs.hub_steps.Cases.{clocks_as}
use Rattle.pushserver.proofs.session_steps.Standing.{ended-keeps}
use Rattle.pushserver.proofs.session_steps.Parts.{SessionFits, SessionKeeps, Asks, Reads, Writes, kept_asked, asks, waits, reads, writes, stands, asks_nothing, none_waits}
use Rattle.pushserver.proofs.session_steps.Lists.{filter-map}
use Rattle.pushserver.proofs.session_steps.Octets.{rest_is, rest_octets}

-- octets that are counted up to the last number, and more octets
counted_more : (kept all more sum : ℕ) → kept ≡ min all max_number → sum ≡ all + more → min (kept + more) (2 ^ 64 - 1) ≡ min sum max_number
counted_more kept all more sum is added = omega (arith, is, added)

-- ---- messages, where so many entries are made

module _ (hub : Hub) (n : ℕ) where
  pub with_frame-keeps : (is_keepalive : Bool) (now : ℕ) (message : List ℕ) (waiting : List WaitingName) (queue : Queue) (k : ℕ × KeptSession) (p : ℕ × Session) → length p.1.output + length (frame message) ≤ frame_octets
      → SessionFits hub k p → SessionFits hub (k.0, with_frame keeping is_keepalive now message waiting k.1) (p.0, with_frame (plain_keeps n) is_keepalive now message queue p.1)
  with_frame-keeps is_keepalive now message waiting queue k p fits s =
      stands hub k p s (with_frame keeping is_keepalive now message waiting k.1) (with_frame (plain_keeps n) is_keepalive now message queue p.1) (asks hub k p s) (waits hub k p s) s.sound.watched (reads hub k p s) more
      (ap (λ (c : Clocks). restarted is_keepalive now c) s.stands.clocks) s.stands.established s.stands.standing s.sound.rests
    where
      more : Writes (k.1.output ++ frame message) (p.1.output ++ frame message) (min (k.1.made + length (frame message)) (2 ^ 64 - 1)) (with_frame (plain_keeps n) is_keepalive now message queue p.1).made
      more = record {
        output = ap (λ o. o ++ frame message) s.stands.output;
        counted = counted_more k.1.made (size_of_made p.1.made) (length (frame message)) (size_of_made (with_frame (plain_keeps n) is_keepalive now message queue p.1).made) s.stands.written
            (sum_by_push (λ m. length (frame_of m)) p.1.made (record { message = message; note = record { queue = queue; newest = n }; subscribed = p.1.subscriptions }));
        fits = omega (arith, fits, length-append p.1.output (frame message));
      }

  -- a short answer where nothing waits to be written
  pub answers-keeps : (is_keepalive : Bool) (now : ℕ) (message : List ℕ) (k : ℕ × KeptSession) (p : ℕ × Session) → p.1.output ≡ [] → length message ≤ 65535
      → SessionFits hub k p → SessionFits hub (k.0, answers keeping is_keepalive now message k.1) (p.0, answers (plain_keeps n) is_keepalive now message p.1)
  answers-keeps is_keepalive now message k p silent short s = with_frame-keeps is_keepalive now message k.1.queue p.1.queue k p (omega (arith, ap length silent, short)) s

  -- a PUSH where there are notices
  pub says_notices-keeps : (t : ℕ) (notices : List Notice) (k : ℕ × KeptSession) (p : ℕ × Session) → length p.1.output + length (frame (push_message notices)) ≤ frame_octets
      → SessionFits hub k p → SessionFits hub (k.0, says_notices keeping t notices k.1) (p.0, says_notices (plain_keeps n) t notices p.1)
  says_notices-keeps t [] k p fits s = s
  says_notices-keeps t (x ∷ xs) k p fits s = with_frame-keeps false t (push_message (x ∷ xs)) k.1.queue p.1.queue k p fits s

  -- a session that was asked to stop, by whether it is established
  abbrev stops_as : {A Q M : Type 0} → Keeps A Q M → ℕ → ℕ → ℕ → SessionOf A Q M → Bool → SessionOf A Q M
  stops_as keeps rcode delay t session established = cond established (says_stop keeps rcode delay t session) (ended_with keeps ends.Stopped session)

  pub stops-keeps : (rcode delay now : ℕ) (k : ℕ × KeptSession) (p : ℕ × Session) → p.1.output ≡ []
      → SessionFits hub k p → SessionFits hub (k.0, stopped keeping rcode delay now k.1) (p.0, stopped (plain_keeps n) rcode delay now p.1)
  stops-keeps rcode delay now k p silent s =
      subst (λ (b : Bool). SessionFits hub (k.0, stops_as keeping rcode delay now k.1 b) (p.0, stopped (plain_keeps n) rcode delay now p.1)) (sym s.stands.established) (by p.1.established)
    where
      by : (b : Bool) → SessionFits hub (k.0, stops_as keeping rcode delay now k.1 b) (p.0, stops_as (plain_keeps n) rcode delay now p.1 b)
      by true =
          let said = answers-keeps false now (stop_message rcode delay) k p silent (omega arith) s in
          stands hub k p s (says_stop keeping rcode delay now k.1) (says_stop (plain_keeps n) rcode delay now p.1) asks_nothing none_waits tt (reads hub _ _ said) (writes hub _ _ said) said.stands.clocks said.stands.established refl (λ closed. refl)
      by false = ended-keeps hub n ends.Stopped k p s

  pub unsubscribes-keeps : (id : ℕ) → SessionKeeps hub (unsubscribed keeping id) (unsubscribed (plain_keeps n) id)
  unsubscribes-keeps id k p s = stands hub k p s (unsubscribed keeping id k.1) (unsubscribed (plain_keeps n) id p.1) fewer (let_go-waits hub k p s n id (filter (λ q. not (q.id == id)) p.1.subscriptions) is_less) (watched-let_go n id p.1.subscriptions p.1.queue own s.sound.watched) (reads hub k p s) (writes hub k p s) s.stands.clocks s.stands.established s.stands.standing (λ closed. ap (filter others) (s.sound.rests closed))
    where
      others : Subscription → Bool
      others q = not (q.id == id)

      own : IsDistinct (λ (q r : Subscription). q.id == r.id) p.1.subscriptions
      own = ids-own p.1.subscriptions s.sound.asked.ids

      is_less : without id k.1.subscriptions.asked ≡ asked_of (filter (λ q. not (q.id == id)) p.1.subscriptions)
      is_less = ap (λ a. without id a) s.stands.asked ∙ filter-map (λ (q : Subscription). (q.id, q.question)) (λ e. not (is_id id e)) p.1.subscriptions

      fewer : Asks (state_now hub) (keeping.without_id id k.1.subscriptions) (filter (λ q. not (q.id == id)) p.1.subscriptions)
      fewer = record {
        asked = is_less;
        filled = ap (λ f. without_filled id f) s.stands.filled ∙ filter-map (λ (q : Subscription). (q.id, min q.filled max_number)) (λ e. not (e.0 == id)) p.1.subscriptions;
        are_asked = subst AreAsked is_less (left id k.1.subscriptions.asked (kept_asked hub k p s));
        homes = all_filter _ others p.1.subscriptions s.sound.homes;
      }

-- ---- a message that is taken up

module _ (hub : Hub) where
  pub grants-keeps : (timers : Timers) → SessionKeeps hub (granted timers) (granted timers)
  grants-keeps timers k p s = stands hub k p s (granted timers k.1) (granted timers p.1) (asks hub k p s) (waits hub k p s) s.sound.watched (reads hub k p s) (writes hub k p s)
      (ap (λ (c : Clocks). record c { timers = timers }) s.stands.clocks) refl s.stands.standing s.sound.rests

  pub restarts-keeps : (message : List ℕ) (now : ℕ) → SessionKeeps hub (restarted_by message now) (restarted_by message now)
  restarts-keeps message now k p s = stands hub k p s (restarted_by message now k.1) (restarted_by message now p.1) (asks hub k p s) (waits hub k p s) s.sound.watched (reads hub k p s) (writes hub k p s)
      (ap (λ (c : Clocks). clocks_as now c (head_of message)) s.stands.clocks) s.stands.established s.stands.standing s.sound.rests

  pub without_first-keeps : (found : List ℕ × List ℕ) (k : ℕ × KeptSession) (p : ℕ × Session) → first_message p.1.input ≡ Some found → SessionFits hub k p
      → SessionFits hub (k.0, without_first found.1 k.1) (p.0, without_first found.1 p.1)
  without_first-keeps found k p is s = stands hub k p s (without_first found.1 k.1) (without_first found.1 p.1) (asks hub k p s) (waits hub k p s) s.sound.watched left (writes hub k p s) s.stands.clocks s.stands.established s.stands.standing s.sound.rests
    where
      rest : found.1 ≡ drop (2 + two_octets p.1.input 0) p.1.input
      rest = rest_is p.1.input found is

      left : Reads found.1 found.1
      left = record {
        input = refl;
        octets = rest_octets p.1.input found is s.sound.octets;
        fits = omega (arith, s.sound.input_fits, ap length rest, length-drop (2 + two_octets p.1.input 0) p.1.input);
      }
