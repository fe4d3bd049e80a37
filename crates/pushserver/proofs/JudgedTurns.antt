-- The turn of a session whose first message is an update: it is judged, and answered.
--     found-entered, judged-found      the session behind an entry, and behind the judging: it may be behind, and then it has ended, or more names wait
--     entered-in      a message may leave the input before an entry, or after it
--     update-gave      what `give` does
use Rattle.std.proofs.Common.{◌≡◌, ℕ, Bool, true, false, cond, ◌≤◌, List, [], ◌∷◌, length, Option, Some, None, Result, Ok, Err, refl, sym, ap, subst, ◌∙◌}
use Rattle.std.specs.Prelude.{◌==◌, option_map}
use Rattle.std.specs.List.{AllByRecursion}
use Rattle.rrset.specs.Header.{id_of}
use Rattle.dnswire.specs.declared.message.Update.{Update}
use Rattle.dsotlv.specs.Messages.{first_message, head_of}
use Rattle.dsotlv.specs.declared.message.DsoHead.{DsoHead}
use Rattle.coalesce.specs.Waiting.{WaitingName}
use Rattle.dsosession.specs.Timing.{Clocks, restarted}
use Rattle.history.specs.States.{verdict}
use Rattle.history.specs.declared.entry.Entry.{Entry}
use Rattle.history.specs.declared.entry.Entry.TheVariants as entries
use Rattle.dsotlv.specs.Answers.{answer_to_update}
use Rattle.dsosession.specs.declared.session.EndReason.TheVariants as ends
use Rattle.pushsession.specs.Sessions.{ended_where, noted, answers}
use Rattle.pushsession.specs.Kept.{KeptQuestions, KeptSession, keeping}
use Rattle.pushsession.specs.Requests.{message_of, request_of, updated}
use Rattle.pushsession.specs.Reactions.{restarted_by}
use Rattle.pushsession.specs.declared.request.Request.TheVariants as requests
use Rattle.pushsession.specs.declared.session_status.SessionStatus.{SessionStatus}
use Rattle.pushsession.specs.declared.session_status.SessionStatus.TheVariants.{Live}
use Rattle.livesessions.specs.NumberedSessions.{Numbered, session_in, in_sessions, all_sessions, AreApart}
use Rattle.pushserver.specs.Hubs.{newest, now, state_now, in_session, entry_changes, behind_at, ended_behind, entered_keeping, can_enter, update}
use Rattle.pushserver.specs.Giving.{given_after, after_reaction, copies_or, updates, give}
use Rattle.pushserver.specs.KeptHubs.{KeptHub, Forgets}
use Rattle.pushserver.specs.HubState.{Gave}
use Rattle.pushserver.specs.declared.given.Given.{Given}
use Rattle.livesessions.proofs.SessionLists.{found-all, in-fused}
use Rattle.pushserver.proofs.hub_steps.Cases.{enters_update, update_as, clocks_as}
use Rattle.pushserver.proofs.SessionTurns as turns
use Rattle.pushserver.proofs.SessionTurns.{HandsOn, gave-forgets}
use Rattle.pushserver.proofs.ForgottenEntries.{forgets-seat}

-- ---- what judging does to a session

-- an entry ends it where it is behind, or makes names wait, and changes nothing else of it
abbrev kept_by : Entry → KeptHub → KeptSession → KeptSession
kept_by entry k session = noted keeping (entry_changes entry k) (newest k) (ended_behind k entry session)

-- only what it asks, what waits and how it stands may be otherwise
abbrev pub SameBut : KeptSession → KeptSession → Type 0
SameBut s x = (a : KeptQuestions) × (q : List WaitingName) × (t : SessionStatus) × (x ≡ record s { subscriptions = a; queue = q; standing = t })

pub record Found (k : KeptHub) (number : ℕ) (s : KeptSession) : Type 0 where
  pub found : KeptSession
  pub there : session_in number k.sessions ≡ Some found
  pub same : SameBut s found

kept-same : (entry : Entry) (k : KeptHub) (s : KeptSession) → SameBut s (kept_by entry k s)
kept-same entry k s = by (behind_at k entry s)
  where
    by : (o : Option ℕ) → SameBut s (noted keeping (entry_changes entry k) (newest k) (ended_where keeping (option_map (λ p. ends.Behind p) o) s))
    by None = (_, _, _, refl)
    by (Some p) = (_, _, _, refl)

-- the session behind an entry
pub found-entered : (entry : Entry) (k : KeptHub) (number : ℕ) (s : KeptSession) → session_in number k.sessions ≡ Some s → Found (entered_keeping entry k) number s
found-entered entry k number s there = record {
  found = kept_by entry k s;
  there =
      found-all (noted keeping (entry_changes entry k) (newest k)) number (all_sessions (ended_behind k entry) k.sessions)
      ∙ ap (option_map (noted keeping (entry_changes entry k) (newest k))) (found-all (ended_behind k entry) number k.sessions ∙ ap (option_map (ended_behind k entry)) there);
  same = kept-same entry k s;
}

pub found-same : (k : KeptHub) (number : ℕ) (s : KeptSession) → session_in number k.sessions ≡ Some s → Found k number s
found-same k number s there = record { found = s; there = there; same = (_, _, _, refl) }

pub judged-found : (k : KeptHub) (message : List ℕ) (number : ℕ) (s : KeptSession) → session_in number k.sessions ≡ Some s → Found (update k message).1 number s
judged-found k message number s there = by (verdict (state_now k) message)
  where
    by_room : (u : Update) (b : Bool) → Found (enters_update k u b).1 number s
    by_room u true = found-entered (entries.Update u) k number s there
    by_room u false = found-same k number s there

    by : (r : Result Update ℕ) → Found (update_as k r).1 number s
    by (Err code) = found-same k number s there
    by (Ok u) = by_room u (can_enter k)

-- where the oldest entries are forgotten, the session is as it was
pub found-later : (k later : KeptHub) (number : ℕ) (s : KeptSession) → Forgets k later → Found k number s → Found later number s
found-later k later number s forgets f = record { found = f.found; there = ap (λ (h : KeptHub). session_in number h.sessions) forgets.is ∙ f.there; same = f.same }

pub found-is : (k : KeptHub) (number : ℕ) (s s1 : KeptSession) → session_in number k.sessions ≡ Some s1 → Found k number s → SameBut s s1
found-is k number s s1 there1 f = subst (SameBut s) (same (sym f.there ∙ there1)) f.same
  where
    same : Some f.found ≡ Some s1 → f.found ≡ s1
    same e = cc

pub found-none : (k : KeptHub) (number : ℕ) (s : KeptSession) → session_in number k.sessions ≡ None → Found k number s → ⊥
found-none k number s none f = let wrong : None ≡ Some f.found = sym none ∙ f.there in absurd cc

-- a step that leaves the questions, what waits and how it stands may be made before or after an entry
module _ (number : ℕ) (f g : KeptSession → KeptSession) (turned : (s : KeptSession) → g (f s) ≡ f (g s)) where
  all-in : (xs : Numbered KeptSession) → all_sessions g (in_sessions number f xs) ≡ in_sessions number f (all_sessions g xs)
  all-in [] = refl
  all-in (x ∷ xs) = λ i. by (x.0 == number) i ∷ all-in xs i
    where
      by : (b : Bool) → ◌≡◌ {A = ℕ × KeptSession} (x.0, g (cond b (f x.1) x.1)) (x.0, cond b (f (g x.1)) (g x.1))
      by true = ap (λ (s : KeptSession). (x.0, s)) (turned x.1)
      by false = refl

-- a message leaves the input, and restarts the timers
abbrev pub lifted_to : List ℕ → Clocks → KeptSession → KeptSession
lifted_to rest clocks x = record x { input = rest; clocks = clocks }

ended-lifted : (rest : List ℕ) (clocks : Clocks) (entry : Entry) (k : KeptHub) (s : KeptSession) → ended_behind k entry (lifted_to rest clocks s) ≡ lifted_to rest clocks (ended_behind k entry s)
ended-lifted rest clocks entry k s = by (behind_at k entry s)
  where
    by : (o : Option ℕ) → ended_where keeping (option_map (λ p. ends.Behind p) o) (lifted_to rest clocks s) ≡ lifted_to rest clocks (ended_where keeping (option_map (λ p. ends.Behind p) o) s)
    by None = refl
    by (Some p) = refl

pub entered-in : (number : ℕ) (rest : List ℕ) (clocks : Clocks) (entry : Entry) (k : KeptHub) → entered_keeping entry (in_session number (lifted_to rest clocks) k) ≡ in_session number (lifted_to rest clocks) (entered_keeping entry k)
entered-in number rest clocks entry k = λ i. record (entered_keeping entry k) { sessions = both i }
  where
    both : all_sessions (noted keeping (entry_changes entry k) (newest k)) (all_sessions (ended_behind k entry) (in_sessions number (lifted_to rest clocks) k.sessions))
        ≡ in_sessions number (lifted_to rest clocks) (all_sessions (noted keeping (entry_changes entry k) (newest k)) (all_sessions (ended_behind k entry) k.sessions))
    both =
        ap (all_sessions (noted keeping (entry_changes entry k) (newest k))) (all-in number (lifted_to rest clocks) (ended_behind k entry) (ended-lifted rest clocks entry k) k.sessions)
        ∙ all-in number (lifted_to rest clocks) (noted keeping (entry_changes entry k) (newest k)) (λ s. refl) (all_sessions (ended_behind k entry) k.sessions)

update-in : (number : ℕ) (rest : List ℕ) (clocks : Clocks) (k : KeptHub) (message : List ℕ) → update (in_session number (lifted_to rest clocks) k) message ≡ ((update k message).0, in_session number (lifted_to rest clocks) (update k message).1)
update-in number rest clocks k message = by (verdict (state_now k) message)
  where
    by_room : (u : Update) (b : Bool) → enters_update (in_session number (lifted_to rest clocks) k) u b ≡ ((enters_update k u b).0, in_session number (lifted_to rest clocks) (enters_update k u b).1)
    by_room u true = ap (λ (h : KeptHub). ((enters_update k u true).0, h)) (entered-in number rest clocks (entries.Update u) k)
    by_room u false = refl

    by : (r : Result Update ℕ) → update_as (in_session number (lifted_to rest clocks) k) r ≡ ((update_as k r).0, in_session number (lifted_to rest clocks) (update_as k r).1)
    by (Err code) = refl
    by (Ok u) = by_room u (can_enter k)

-- ---- the answer

module _ (number : ℕ) (k : KeptHub) (s : KeptSession) (there : session_in number k.sessions ≡ Some s) (apart : AreApart k.sessions) (live : s.standing ≡ Live) (silent : s.output ≡ []) (first : List ℕ × List ℕ) (waits : first_message s.input ≡ Some first) where
  -- the message leaves the input, and restarts the timers
  abbrev lifted : KeptSession → KeptSession
  lifted x = lifted_to first.1 (restarted_by first.0 (now k) s).clocks x

  abbrev answers_to : KeptHub → ℕ → KeptSession → KeptSession
  answers_to later code x = answers keeping false (now later) (answer_to_update (id_of first.0) code) x

  abbrev judged : ℕ × KeptHub
  judged = update k first.0

  updates-is : updates number first.0 (in_session number lifted k) ≡ in_session number (λ x. answers_to judged.1 judged.0 (lifted x)) judged.1
  updates-is =
      ap (λ (j : ℕ × KeptHub). in_session number (answers_to j.1 j.0) j.1) (update-in number first.1 (restarted_by first.0 (now k) s).clocks k first.0)
      ∙ ap (λ (xs : Numbered KeptSession). record judged.1 { sessions = xs }) (in-fused number (answers_to judged.1 judged.0) lifted judged.1.sessions)

  message-is : request_of s ≡ Some requests.Update → turns.after_message number k s there apart live silent first waits ≡ in_session number (λ x. answers_to judged.1 judged.0 (lifted x)) judged.1
  message-is is =
      turns.after-request number k s there apart live silent first waits requests.Update is
      ∙ ap (updates number first.0) (ap (turns.becomes number k s there apart) (turns.taken-is number k s there apart live silent first waits (now k)) ∙ sym (turns.one number k s there apart lifted))
      ∙ updates-is

  -- the session behind the judging
  module _ (later : KeptHub) (code : ℕ) (forgets : Forgets judged.1 later) (code_is : code ≡ judged.0) (s1 : KeptSession) (there1 : session_in number later.sessions ≡ Some s1) (apart1 : AreApart later.sessions) where
    there_judged : session_in number judged.1.sessions ≡ Some s1
    there_judged = sym (ap (λ (h : KeptHub). session_in number h.sessions) forgets.is) ∙ there1

    apart_judged : AreApart judged.1.sessions
    apart_judged = subst (λ (h : KeptHub). AreApart h.sessions) forgets.is apart1

    -- whenever the message restarted the timers, they are those that the answer restarts
    same_clocks : (t : ℕ) → restarted false t (restarted_by first.0 t s).clocks ≡ restarted false t (restarted_by first.0 (now k) s).clocks
    same_clocks t = by (head_of first.0)
      where
        by : (o : Option DsoHead) → restarted false t (clocks_as t s.clocks o) ≡ restarted false t (clocks_as (now k) s.clocks o)
        by None = refl
        by (Some head) = refl

    answered-is : (t : ℕ) → t ≡ now judged.1 → SameBut s s1 → updated code t s1 ≡ answers_to judged.1 code (lifted s1)
    answered-is t moment (a, q, standing, same) =
        subst (λ (x : KeptSession). updated code t x ≡ answers_to judged.1 code (lifted x)) (sym same)
        ((λ i. answers keeping false t (answer_to_update (id_of (turns.message-is number k s there apart live silent first waits i)) code) (record (turns.taken-is number k s there apart live silent first waits t i) { subscriptions = a; queue = q; standing = standing }))
        ∙ ap (λ (c : Clocks). record (answers keeping false t (answer_to_update (id_of first.0) code) (lifted (record s { subscriptions = a; queue = q; standing = standing }))) { clocks = c }) (same_clocks t)
        ∙ ap (λ n. answers keeping false n (answer_to_update (id_of first.0) code) (lifted (record s { subscriptions = a; queue = q; standing = standing }))) moment)

    pub judged-gave : (t : ℕ) (r : Given) (old new : List ℕ) (mid s_now : KeptSession) (xs : Numbered KeptSession) → request_of s ≡ Some requests.Update → t ≡ now later → mid ≡ updated code t s1 → HandsOn mid (given_after mid.standing) r old new s_now
        → xs ≡ in_sessions number (λ _. s_now) later.sessions → Gave (give k number (length old)) r old new (record later { sessions = xs })
    judged-gave t r old new mid s_now xs is moment step on lent =
        gave-forgets (give k number (length old)) (copies_or (given_after mid.standing) number (length old) mid (turns.becomes number judged.1 s1 there_judged apart_judged mid)) r old new (turns.becomes number judged.1 s1 there_judged apart_judged s_now) (record later { sessions = xs })
        (turns.give-live number k s there apart live silent (length old) (Some first) waits ∙ ap (after_reaction number (length old)) judged-is
        ∙ turns.reaction-is number judged.1 s1 there_judged apart_judged (length old) mid)
        (turns.hands number judged.1 s1 there_judged apart_judged (given_after mid.standing) r mid s_now old new on)
        (forgets-seat judged.1 later forgets number s1 s_now there1 (λ n since. subst (λ (q : List WaitingName). AllByRecursion (λ w. n ≤ w.point) q) (sym waits_on) since) xs lent)
      where
        judged-is : turns.after_message number k s there apart live silent first waits ≡ turns.becomes number judged.1 s1 there_judged apart_judged mid
        judged-is =
            message-is is
            ∙ (λ i. in_session number (λ x. answers_to judged.1 (sym code_is i) (lifted x)) judged.1)
            ∙ turns.one number judged.1 s1 there_judged apart_judged (λ x. answers_to judged.1 code (lifted x))
            ∙ ap (turns.becomes number judged.1 s1 there_judged apart_judged)
            (sym (step ∙ answered-is t (moment ∙ ap now forgets.is) (found-is judged.1 number s s1 there_judged (judged-found k first.0 number s there))))

        waits_on : s_now.queue ≡ s1.queue
        waits_on = ap (λ (x : KeptSession). x.queue) on.session ∙ ap (λ (x : KeptSession). x.queue) step

-- ---- by the message that waits

module _ (k : KeptHub) (number : ℕ) (s : KeptSession) (there : session_in number k.sessions ≡ Some s) where
  module _ (later : KeptHub) (forgets : Forgets (update k (message_of s)).1 later) where
    same_but : (s1 : KeptSession) → session_in number later.sessions ≡ Some s1 → SameBut s s1
    same_but s1 there1 = found-is later number s s1 there1 (found-later (update k (message_of s)).1 later number s forgets (judged-found k (message_of s) number s there))

    pub ready-output : (s1 : KeptSession) → session_in number later.sessions ≡ Some s1 → s.output ≡ [] → s1.output ≡ []
    ready-output s1 there1 silent = let (a, q, standing, same) = same_but s1 there1 in ap (λ (x : KeptSession). x.output) same ∙ silent

    pub ready-request : (s1 : KeptSession) → session_in number later.sessions ≡ Some s1 → request_of s ≡ Some requests.Update → request_of s1 ≡ Some requests.Update
    ready-request s1 there1 is = let (a, q, standing, same) = same_but s1 there1 in ap request_of same ∙ is

    pub ready-found : session_in number later.sessions ≡ None → ⊥
    ready-found none = found-none later number s none (found-later (update k (message_of s)).1 later number s forgets (judged-found k (message_of s) number s there))

  module _ (live : s.standing ≡ Live) (silent : s.output ≡ []) (is : request_of s ≡ Some requests.Update) (later : KeptHub) (code : ℕ) (forgets : Forgets (update k (message_of s)).1 later) (code_is : code ≡ (update k (message_of s)).0)
      (s1 : KeptSession) (there1 : session_in number later.sessions ≡ Some s1) (apart1 : AreApart later.sessions) where
    pub update-gave : (apart : AreApart k.sessions) (t : ℕ) (r : Given) (old new : List ℕ) (mid s_now : KeptSession) (xs : Numbered KeptSession) → t ≡ now later → mid ≡ updated code t s1 → HandsOn mid (given_after mid.standing) r old new s_now
        → xs ≡ in_sessions number (λ _. s_now) later.sessions → Gave (give k number (length old)) r old new (record later { sessions = xs })
    update-gave apart t r old new mid s_now xs moment step on lent =
        let (first, waits) = turns.waiting number k s there apart live silent requests.Update is in
        let message = turns.message-is number k s there apart live silent first waits in
        judged-gave number k s there apart live silent first waits later code (subst (λ m. Forgets (update k m).1 later) message forgets) (code_is ∙ ap (λ m. (update k m).0) message) s1 there1 apart1 t r old new mid s_now xs is moment step on lent
