-- One turn of a session that has its number in a hub: what `give` does is told by what the session becomes.
--     GaveExactly, gave-forgets, gave-as      what a call gave; where some was forgotten afterwards; where nothing was
--     becomes t      the hub with the session as it is then
--     output-gave, ended-gave, stopped-gave, stop-gave      octets wait; it has ended, is stopped, stops
--     packed-gave, itself-gave, subscribe-gave, query-gave, no_record-gave      it goes on: no message waits; by the request of its first one
use Rattle.std.proofs.Common.{◌≡◌, ℕ, Bool, true, false, cond, not, min, List, [], ◌∷◌, ◌++◌, length, take, drop, Option, Some, None, inl, inr, refl, sym, ap, subst, ◌∙◌, arith}
use Rattle.std.specs.Prelude.{option_map, unwrap_or}
use Rattle.std.proofs.lemmas.Bool.{cases_lt}
use Rattle.std.proofs.lemmas.List.{length-take, drop_all}
use Rattle.push_base.specs.Cases.{is_empty}
use Rattle.rrset.specs.Header.{id_of}
use Rattle.rrset.specs.RecordSet.{RecordSet}
use Rattle.rrset.specs.declared.record.Question.{Question}
use Rattle.dnsquery.specs.Replies.{reply_to}
use Rattle.dsotlv.specs.Messages.{first_message}
use Rattle.dsotlv.specs.TlvKinds.{reconfirm_tlv}
use Rattle.dsosession.specs.declared.session.EndReason.{EndReason}
use Rattle.dsosession.specs.declared.session.EndReason.TheVariants as ends
use Rattle.dsosession.specs.declared.session.Timers.{Timers}
use Rattle.history.specs.States.{State}
use Rattle.pushsession.specs.Sessions.{copied, ended_with, laid_over, stopped, without_first}
use Rattle.pushsession.specs.Subscribing.{answered, with_next_push}
use Rattle.pushsession.specs.Reactions.{restarted_by, request_in, reacts_itself, answers_query}
use Rattle.pushsession.specs.Kept.{KeptSession, keeping, telling}
use Rattle.pushsession.specs.Requests.{CanBeTold, message_of, taken_up, request_of, reacted, subscribed_by, replied, reconfirmed}
use Rattle.pushsession.specs.declared.request.Request.{Request}
use Rattle.pushsession.specs.declared.request.Request.TheVariants as requests
use Rattle.pushsession.specs.declared.session_status.SessionStatus.{SessionStatus}
use Rattle.pushsession.specs.declared.session_status.SessionStatus.TheVariants.{Live, AskedToStop, Stopped, Ended}
use Rattle.livesessions.specs.NumberedSessions.{Numbered, session_in, AreApart}
use Rattle.pushserver.specs.Hubs.{state_now, now, records_now, in_session}
use Rattle.pushserver.specs.Giving as giving
use Rattle.pushserver.specs.Giving.{has_home, known_at, by_request, bytes_of, given_of, did, copies, copies_or, given_after, after_reaction, after_packing, give}
use Rattle.pushserver.specs.KeptHubs.{KeptHub, KeptGiving, Forgets}
use Rattle.pushserver.specs.HubState.{Gave}
use Rattle.pushserver.specs.Rows.{AreTold}
use Rattle.pushserver.specs.declared.given.Given.{Given}
use Rattle.pushserver.specs.declared.given.Given.TheVariants.{Bytes, Worked, Nothing, Ending, End}
use Rattle.pushserver.proofs.ForgottenEntries.{forgets-same}
use Rattle.livesessions.proofs.SessionLists.{found-in, in-fused}
use Rattle.livesessions.proofs.NumberedSessions.{alike, itself}
use Rattle.pushserver.proofs.hub_steps.Cases.{session_as, found_as, works_as, output_as, give_as}

nothing_in : (xs : List ℕ) → is_empty xs ≡ true → xs ≡ []
nothing_in [] e = refl
nothing_in (x ∷ xs) e = cc

-- the octets behind those that were handed on
behind : (old out : List ℕ) → drop (length out) old ≡ drop (length (take (length old) out)) old
behind old out = elim (cases_lt (length out) (length old)) [
  | inl fits ↦ (let same : length (take (length old) out) ≡ length out = omega (arith, length-take (length old) out, fits) in ap (λ n. drop n old) (sym same))
  | inr long ↦ (let all : length (take (length old) out) ≡ length old = omega (arith, length-take (length old) out, long) in
      drop_all (length out) old (omega (arith, long)) ∙ sym (ap (λ n. drop n old) all ∙ drop_all (length old) old (omega arith)))
]

no_octets : (n : ℕ) (old : List ℕ) → take n [] ++ drop 0 old ≡ old
no_octets n old = grind arith

pub some_output : (s : KeptSession) (b : Bool) → b ≡ not (is_empty s.output) → b ≡ true → is_empty s.output ≡ false
some_output s b test is = by (is_empty s.output) (sym test ∙ is)
  where
    by : (c : Bool) → not c ≡ true → c ≡ false
    by false e = refl
    by true e = cc

pub no_output : (s : KeptSession) (b : Bool) → b ≡ not (is_empty s.output) → b ≡ false → is_empty s.output ≡ true
no_output s b test is = by (is_empty s.output) (sym test ∙ is)
  where
    by : (c : Bool) → not c ≡ false → c ≡ true
    by true e = refl
    by false e = cc

-- what was done, and octets in front of what was there, with nothing forgotten
pub record GaveExactly (giving : KeptGiving) (given : Given) (before after : List ℕ) (kept : KeptHub) : Type 0 where
  pub given_is : given ≡ giving.given
  pub octets : after ≡ giving.octets ++ drop (length giving.octets) before
  pub hub : kept ≡ giving.hub

pub gave-forgets : (g h : KeptGiving) (r : Given) (old new : List ℕ) (mid later : KeptHub) → g ≡ h → GaveExactly h r old new mid → Forgets mid later → Gave g r old new later
gave-forgets g h r old new mid later same gave forgets =
    subst (λ (g : KeptGiving). Gave g r old new later) (sym same) (record { given_is = gave.given_is; octets = gave.octets; hub = subst (λ (k : KeptHub). Forgets k later) gave.hub forgets })

pub gave-as : (g h : KeptGiving) (r : Given) (old new : List ℕ) (later : KeptHub) → g ≡ h → GaveExactly h r old new later → Gave g r old new later
gave-as g h r old new later same gave = gave-forgets g h r old new later later same gave (forgets-same later later refl)

-- what a session hands on of its output, or else did
pub record HandsOn (t : KeptSession) (otherwise r : Given) (old new : List ℕ) (t_now : KeptSession) : Type 0 where
  pub given_is : r ≡ given_of otherwise (length old) t
  pub octets : new ≡ laid_over t.output old
  pub session : t_now ≡ copied (length old) t

-- there is no such session
pub gone-gave : (k : KeptHub) (number : ℕ) (old : List ℕ) (ys : Numbered KeptSession) → session_in number k.sessions ≡ None → ys ≡ k.sessions → Gave (give k number (length old)) (End ends.Gone) old old (record k { sessions = ys })
gone-gave k number old ys none same = gave-as (give k number (length old)) (did (End ends.Gone) k) (End ends.Gone) old old (record k { sessions = ys }) (ap (give_as k number (length old)) none) (record {
  given_is = refl;
  octets = refl;
  hub = ap (λ (xs : Numbered KeptSession). record k { sessions = xs }) same;
})

-- the moment of a hub is that of its state
pub moment-is : (k : KeptHub) (state : State) (t : ℕ) → state_now k ≡ state → t ≡ state.now → t ≡ now k
moment-is k state t same is = is ∙ ap (λ (s : State). s.now) (sym same)

-- the records that a question with a home would be told
pub can_be_told : (question : Option Question) (has : Bool) (rows : RecordSet) → AreTold rows → CanBeTold question has rows
can_be_told None has rows told = tt
can_be_told (Some question) false rows told = tt
can_be_told (Some question) true rows told = let at = told question.name in ((question.name, at.0), at.1)

module _ (number : ℕ) (k : KeptHub) (s : KeptSession) (there : session_in number k.sessions ≡ Some s) (apart : AreApart k.sessions) where
  abbrev pub becomes : KeptSession → KeptHub
  becomes t = in_session number (λ _. t) k

  with_list : Numbered KeptSession → KeptHub
  with_list xs = record k { sessions = xs }

  -- a step of the session, and a further one
  pub one : (f : KeptSession → KeptSession) → in_session number f k ≡ becomes (f s)
  one f = ap (λ (xs : Numbered KeptSession). record k { sessions = xs }) (alike number f (λ _. f s) k.sessions s apart there refl)

  pub further : (f : KeptSession → KeptSession) (t : KeptSession) → in_session number f (becomes t) ≡ becomes (f t)
  further f t = ap (λ (xs : Numbered KeptSession). record k { sessions = xs }) (in-fused number f (λ _. t) k.sessions)

  found : (t : KeptSession) → session_in number (becomes t).sessions ≡ Some t
  found t = found-in number (λ _. t) k.sessions ∙ ap (option_map (λ _. t)) there

  stays : becomes s ≡ k
  stays = sym (one (λ t. t)) ∙ ap (λ (xs : Numbered KeptSession). record k { sessions = xs }) (itself number k.sessions)

  -- ---- octets that are handed on

  pub hands : (otherwise r : Given) (t t_now : KeptSession) (old new : List ℕ) → HandsOn t otherwise r old new t_now → GaveExactly (copies_or otherwise number (length old) t (becomes t)) r old new (becomes t_now)
  hands otherwise r t t_now old new on = by (is_empty t.output) refl on.given_is
    where
      by : (b : Bool) → is_empty t.output ≡ b → r ≡ cond b otherwise (Bytes (min (length old) (length t.output))) → GaveExactly (cond b (did otherwise (becomes t)) (copies number (length old) t (becomes t))) r old new (becomes t_now)
      by true none is =
          let nothing : t.output ≡ [] = nothing_in t.output none in
          let same : copied (length old) t ≡ t = ap (λ (o : List ℕ). record t { output = drop (length old) o }) nothing ∙ ap (λ (o : List ℕ). record t { output = o }) (drop_all (length old) [] (omega arith) ∙ sym nothing) in
          record {
            given_is = is;
            octets = on.octets ∙ ap (λ (o : List ℕ). take (length old) o ++ drop (length o) old) nothing ∙ no_octets (length old) old;
            hub = ap becomes (on.session ∙ same);
          }
      by false some is = record {
        given_is = is;
        octets = on.octets ∙ ap (λ o. take (length old) t.output ++ o) (behind old t.output);
        hub = ap becomes on.session ∙ sym (further (copied (length old)) t);
      }

  pub reaction-is : (room : ℕ) (t : KeptSession) → after_reaction number room (becomes t) ≡ copies_or (given_after t.standing) number room t (becomes t)
  reaction-is room t = ap (found_as (becomes t) number room Worked given_after) (found t)

  packing-is : (room : ℕ) (t : KeptSession) → after_packing number room (becomes t) ≡ copies_or Nothing number room t (becomes t)
  packing-is room t = ap (found_as (becomes t) number room Nothing (λ _. Nothing)) (found t)

  -- ---- the cases of a call

  give-output : (room : ℕ) (b : Bool) → is_empty s.output ≡ b → give k number room ≡ output_as k number room s b
  give-output room b output = ap (give_as k number room) there ∙ ap (output_as k number room s) output

  give-standing : (room : ℕ) (standing : SessionStatus) → is_empty s.output ≡ true → s.standing ≡ standing → give k number room ≡ giving.by_standing standing number room s k
  give-standing room standing output is = give-output room true output ∙ ap (λ t. giving.by_standing t number room s k) is

  pub output-gave : (r : Given) (old new : List ℕ) (s_now : KeptSession) → is_empty s.output ≡ false → r ≡ bytes_of (length old) s → new ≡ laid_over s.output old → s_now ≡ copied (length old) s
      → Gave (give k number (length old)) r old new (becomes s_now)
  output-gave r old new s_now some given_is octets session = gave-as (give k number (length old)) (copies number (length old) s k) r old new (becomes s_now) (give-output (length old) false some) (record {
    given_is = given_is;
    octets = octets ∙ ap (λ o. take (length old) s.output ++ o) (behind old s.output);
    hub = ap becomes session ∙ sym (one (copied (length old)));
  })

  did-gave : (r : Given) (old : List ℕ) → GaveExactly (did r k) r old old (becomes s)
  did-gave r old = record { given_is = refl; octets = refl; hub = stays }

  pub ended-gave : (reason : EndReason) (old : List ℕ) → is_empty s.output ≡ true → s.standing ≡ Ended reason → Gave (give k number (length old)) (End reason) old old (becomes s)
  ended-gave reason old output is = gave-as (give k number (length old)) (did (End reason) k) (End reason) old old (becomes s) (give-standing (length old) (Ended reason) output is) (did-gave (End reason) old)

  pub stopped-gave : (since : ℕ) (old : List ℕ) → is_empty s.output ≡ true → s.standing ≡ Stopped since → Gave (give k number (length old)) Ending old old (becomes s)
  stopped-gave since old output is = gave-as (give k number (length old)) (did Ending k) Ending old old (becomes s) (give-standing (length old) (Stopped since) output is) (did-gave Ending old)

  -- a stop that was asked for
  stop-is : (room rcode delay : ℕ) → is_empty s.output ≡ true → s.standing ≡ AskedToStop rcode delay → give k number room ≡ after_reaction number room (becomes (stopped keeping rcode delay (now k) s))
  stop-is room rcode delay output is = give-standing room (AskedToStop rcode delay) output is ∙ ap (after_reaction number room) (one (stopped keeping rcode delay (now k)))

  pub stop-gave : (rcode delay t : ℕ) (r : Given) (old new : List ℕ) (mid s_now : KeptSession) → is_empty s.output ≡ true → s.standing ≡ AskedToStop rcode delay → t ≡ now k → mid ≡ stopped keeping rcode delay t s → HandsOn mid (given_after mid.standing) r old new s_now
      → Gave (give k number (length old)) r old new (becomes s_now)
  stop-gave rcode delay t r old new mid s_now output is moment step on =
      gave-as (give k number (length old)) (copies_or (given_after mid.standing) number (length old) mid (becomes mid)) r old new (becomes s_now)
      (stop-is (length old) rcode delay output is ∙ ap (λ n. after_reaction number (length old) (becomes (stopped keeping rcode delay n s))) (sym moment) ∙ ap (λ m. after_reaction number (length old) (becomes m)) (sym step) ∙ reaction-is (length old) mid)
      (hands (given_after mid.standing) r mid s_now old new on)

  -- ---- it goes on, without output

  module _ (live : s.standing ≡ Live) (silent : s.output ≡ []) where
    pub give-live : (room : ℕ) (o : Option (List ℕ × List ℕ)) → first_message s.input ≡ o → give k number room ≡ works_as k number room o
    give-live room o first = give-standing room Live (ap is_empty silent) live ∙ ap (works_as k number room) first

    no_message : request_of s ≡ None → first_message s.input ≡ None
    no_message none = by (first_message s.input) none
      where
        by : (o : Option (List ℕ × List ℕ)) → option_map (λ message. request_in message s.established) (option_map (λ (f : List ℕ × List ℕ). f.0) o) ≡ None → o ≡ None
        by None e = refl
        by (Some f) e = cc

    pub packed-gave : (rows : RecordSet) (t : ℕ) (r : Given) (old new : List ℕ) (mid s_now : KeptSession) → request_of s ≡ None → rows ≡ records_now k → t ≡ now k → mid ≡ with_next_push keeping (telling rows) t s → HandsOn mid Nothing r old new s_now → Gave (give k number (length old)) r old new (becomes s_now)
    packed-gave rows t r old new mid s_now none shown moment step on =
        let f = with_next_push keeping (telling (records_now k)) (now k) in
        gave-as (give k number (length old)) (copies_or Nothing number (length old) mid (becomes mid)) r old new (becomes s_now)
        (give-live (length old) None (no_message none) ∙ ap (after_packing number (length old)) (one f ∙ ap becomes ((λ i. with_next_push keeping (telling (sym shown i)) (sym moment i) s) ∙ sym step)) ∙ packing-is (length old) mid)
        (hands Nothing r mid s_now old new on)

    -- ---- the message that it takes up

    module _ (first : List ℕ × List ℕ) (waits : first_message s.input ≡ Some first) where
      abbrev pub message : List ℕ
      message = first.0

      pub message-is : message_of s ≡ message
      message-is = ap (λ (o : Option (List ℕ × List ℕ)). unwrap_or (option_map (λ f. f.0) o) []) waits

      -- it leaves the input, and restarts the timers
      pub taken-is : (t : ℕ) → taken_up t s ≡ restarted_by message t (without_first first.1 s)
      taken-is t = λ i. restarted_by (unwrap_or (option_map (λ (f : List ℕ × List ℕ). f.0) (waits i)) []) t (without_first (unwrap_or (option_map (λ (f : List ℕ × List ℕ). f.1) (waits i)) s.input) s)

      pub request-is : (r : Request) → request_of s ≡ Some r → request_in message s.established ≡ r
      request-is r is = some_same (request_in message s.established) r (sym (ap (λ (o : Option (List ℕ × List ℕ)). option_map (λ m. request_in m s.established) (option_map (λ f. f.0) o)) waits) ∙ is)
        where
          some_same : (a b : Request) → Some a ≡ Some b → a ≡ b
          some_same a b e = cc

      abbrev pub left : KeptSession
      left = without_first first.1 s

      -- what the reaction to it makes of the hub
      abbrev pub after_message : KeptHub
      after_message = giving.reacted message number (in_session number (without_first first.1) k)

      -- by what is needed for it
      pub after-request : (r : Request) → request_of s ≡ Some r → after_message ≡ by_request r number message (becomes (taken_up (now k) s))
      after-request r is =
          ap (giving.reacted message number) (one (without_first first.1))
          ∙ ap (session_as (becomes left) number message) (found left)
          ∙ ap (by_request (request_in message s.established) number message) (further (restarted_by message (now k)) left ∙ ap becomes (sym (taken-is (now k))))
          ∙ ap (λ (q : Request). by_request q number message (becomes (taken_up (now k) s))) (request-is r is)

      itself-is : request_of s ≡ Some requests.Itself → after_message ≡ becomes (reacted k.timers (now k) s)
      itself-is is =
          after-request requests.Itself is
          ∙ further (reacts_itself keeping k.timers (now k) message) (taken_up (now k) s)
          ∙ ap (λ m. becomes (reacts_itself keeping k.timers (now k) m (taken_up (now k) s))) (sym message-is)

      subscribe-is : (question : Option Question) → request_of s ≡ Some (requests.Subscribe question) → after_message ≡ becomes (subscribed_by question (has_home k question) (records_now k) (now k) s)
      subscribe-is question is =
          after-request (requests.Subscribe question) is
          ∙ further (answered keeping (telling (records_now k)) (now k) (id_of message) question (has_home k question)) (taken_up (now k) s)
          ∙ ap (λ m. becomes (answered keeping (telling (records_now k)) (now k) (id_of m) question (has_home k question) (taken_up (now k) s))) (sym message-is)

      query-is : request_of s ≡ Some requests.Query → after_message ≡ becomes (replied (reply_to (known_at (state_now k)) (message_of s)) (now k) s)
      query-is is =
          after-request requests.Query is
          ∙ further (answers_query keeping (now k) (reply_to (known_at (state_now k)) message)) (taken_up (now k) s)
          ∙ ap (λ m. becomes (answers_query keeping (now k) (reply_to (known_at (state_now k)) m) (taken_up (now k) s))) (sym message-is)

      no_record-is : request_of s ≡ Some (requests.Reconfirm None) → after_message ≡ becomes (reconfirmed false (now k) s)
      no_record-is is = after-request (requests.Reconfirm None) is ∙ further (ended_with keeping (ends.BadData reconfirm_tlv)) (taken_up (now k) s)

      message-gave : (r : Given) (old new : List ℕ) (mid s_now : KeptSession) → after_message ≡ becomes mid → HandsOn mid (given_after mid.standing) r old new s_now → Gave (give k number (length old)) r old new (becomes s_now)
      message-gave r old new mid s_now is on =
          gave-as (give k number (length old)) (copies_or (given_after mid.standing) number (length old) mid (becomes mid)) r old new (becomes s_now)
          (give-live (length old) (Some first) waits ∙ ap (after_reaction number (length old)) is ∙ reaction-is (length old) mid)
          (hands (given_after mid.standing) r mid s_now old new on)

    pub waiting : (r : Request) → request_of s ≡ Some r → (first : List ℕ × List ℕ) × (first_message s.input ≡ Some first)
    waiting r is = by (first_message s.input) is
      where
        by : (o : Option (List ℕ × List ℕ)) → option_map (λ message. request_in message s.established) (option_map (λ (f : List ℕ × List ℕ). f.0) o) ≡ Some r → (first : List ℕ × List ℕ) × (o ≡ Some first)
        by None e = cc
        by (Some f) e = (f, refl)

    pub itself-gave : (timers : Timers) (t : ℕ) (r : Given) (old new : List ℕ) (mid s_now : KeptSession) → request_of s ≡ Some requests.Itself → k.timers ≡ timers → t ≡ now k → mid ≡ reacted timers t s → HandsOn mid (given_after mid.standing) r old new s_now
        → Gave (give k number (length old)) r old new (becomes s_now)
    itself-gave timers t r old new mid s_now is granted moment step on =
        let (first, waits) = waiting requests.Itself is in
        message-gave first waits r old new mid s_now (itself-is first waits is ∙ (λ i. becomes (reacted (granted i) (sym moment i) s)) ∙ sym (ap becomes step)) on

    pub subscribe-gave : (question : Option Question) (has : Bool) (rows : RecordSet) (t : ℕ) (r : Given) (old new : List ℕ) (mid s_now : KeptSession) → request_of s ≡ Some (requests.Subscribe question) → has ≡ has_home k question → rows ≡ records_now k → t ≡ now k
        → mid ≡ subscribed_by question has rows t s → HandsOn mid (given_after mid.standing) r old new s_now → Gave (give k number (length old)) r old new (becomes s_now)
    subscribe-gave question has rows t r old new mid s_now is home shown moment step on =
        let (first, waits) = waiting (requests.Subscribe question) is in
        message-gave first waits r old new mid s_now (subscribe-is first waits question is ∙ (λ i. becomes (subscribed_by question (sym home i) (sym shown i) (sym moment i) s)) ∙ sym (ap becomes step)) on

    pub query-gave : (state : State) (r : Given) (old new : List ℕ) (mid s_now : KeptSession) → request_of s ≡ Some requests.Query → state_now k ≡ state → mid ≡ replied (reply_to (known_at state) (message_of s)) state.now s
        → HandsOn mid (given_after mid.standing) r old new s_now → Gave (give k number (length old)) r old new (becomes s_now)
    query-gave state r old new mid s_now is same step on =
        let (first, waits) = waiting requests.Query is in
        message-gave first waits r old new mid s_now (query-is first waits is ∙ (λ i. becomes (replied (reply_to (known_at (same i)) (message_of s)) (same i).now s)) ∙ sym (ap becomes step)) on

    -- a RECONFIRM whose data is no record
    pub no_record-gave : (t : ℕ) (r : Given) (old new : List ℕ) (mid s_now : KeptSession) → request_of s ≡ Some (requests.Reconfirm None) → t ≡ now k → mid ≡ reconfirmed false t s → HandsOn mid (given_after mid.standing) r old new s_now
        → Gave (give k number (length old)) r old new (becomes s_now)
    no_record-gave t r old new mid s_now is moment step on =
        let (first, waits) = waiting (requests.Reconfirm None) is in
        message-gave first waits r old new mid s_now (no_record-is first waits is ∙ (λ i. becomes (reconfirmed false (sym moment i) s)) ∙ sym (ap becomes step)) on
