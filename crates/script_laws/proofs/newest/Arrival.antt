-- A client and its session with nothing under way, where the session has nothing to say: each question that is served is held, as it is now.
--     IsHeldNow      it is held, its first answer has arrived, and its notices lead to the records of the newest point
--     held-now      of each question
use Rattle.std.proofs.Common.{◌≡◌, ℕ, suc, ◌+◌, ◌≤◌, ◌==◌, Bool, true, false, not, List, [], ◌∷◌, ◌++◌, map, length, Option, Some, None, refl, sym, ◌∙◌, ap, ap₂, subst, arith, append-nil, true≢false}
use Rattle.std.specs.Prelude.{IsTrue, flat_map, nat_lt, option_to_list}
use Rattle.std.specs.List.{AllByRecursion}
use Rattle.std.proofs.lemmas.Bool.{eq-eqb, le-ltb}
use Rattle.rrset.proofs.Sets.{both_true}
use Rattle.rrset.specs.Records.{same_question}
use Rattle.rrset.specs.RecordSet.{matching}
use Rattle.rrset.specs.declared.record.Question.{Question}
use Rattle.dsotlv.specs.Messages.{frame}
use Rattle.dsotlv.specs.Notices.{applied_all}
use Rattle.pushsession.specs.Sessions.{is_open}
use Rattle.pushsession.specs.declared.session_status.SessionStatus.TheVariants.{Live}
use Rattle.pushserver.specs.Giving.{is_served_at}
use Rattle.pushserver.specs.Hubs.{state_now, records_now}
use Rattle.pushserver.specs.PlainHubs.{Hub, Session, Subscription, size_of_made, written}
use Rattle.pushserver.specs.SoundHubs.{IsSoundHub}
use Rattle.pushserver.specs.ToldMessages.{set_after, notices_since}
use Rattle.livesessions.proofs.SessionLists.{same-number}
use Rattle.pushserver.proofs.promises.AllTold.{nothing_where_all_is_told}
use Rattle.pushserver.proofs.promises.Shown.{nothing_means_all_is_shown}
use Rattle.pushserver.proofs.session_steps.Lists.{each-both}
use Rattle.pushclient.specs.Clients.{Connection, Wish, RequestState, not_asked, unanswered, refused, answered, wish_for}
use Rattle.pushclient.specs.SoundClients.{count_of, is_asked}
use Rattle.pushclient.specs.ServerMessages.{server_octets}
use Rattle.pushclient.proofs.SoundWishes.{all_found, find_holds}
use Rattle.inflight.specs.Messages.{message_octets, made_of, request_ids, answer_ids}
use Rattle.inflight.specs.Ends.{BothEnds, ends_of, unanswered_id, unanswered_ids, is_active_as, told_end, is_told}
use Rattle.inflight.specs.Flight.{Upward, TookNotices, is_homeless, is_held_active}
use Rattle.flight_laws.proofs.Alike.{matching-alike, applied-alike}
use Rattle.flight_laws.proofs.Counting.{count-append, count-one, count-unanswered, waiting_ids}
use Rattle.flight_laws.proofs.Holding.{picked}
use Rattle.flight_laws.proofs.Served.{hubs-serve-alike, homes-stay}
use Rattle.replay.specs.World.{Seat}
use Rattle.replay.specs.TextWords.{is_filling}
use Rattle.replay.specs.Promises.{ShownPoints, IsQuiet}
use Rattle.script_laws.specs.Joined.{IsJoined}
use Rattle.script_laws.specs.Reached.{SessionIsReached}
use Rattle.script_laws.proofs.settles.Fronts.{front-nil}

-- ---- no frames

-- where there are no octets there is no frame
no-frames : {A : Type 0} (octets : A → List ℕ) (xs : List A) → flat_map (λ x. frame (octets x)) xs ≡ [] → xs ≡ []
no-frames octets [] is = refl
no-frames octets (x ∷ xs) is =
    let none : suc (suc (length (octets x))) ≡ 0 = ap length (front-nil (frame (octets x)) (flat_map (λ y. frame (octets y)) xs) is) in
    absurd (omega (arith, none))

-- ---- IDs that wait

-- an ID that waits nowhere is that of no wish that waits
none-waits : (id : ℕ) (ws : List Wish) → count_of id (flat_map (λ w. unanswered_id w.standing) ws) ≡ 0 → AllByRecursion (λ w. w.standing ≡ unanswered id → ⊥) ws
none-waits id [] none = tt
none-waits id (w ∷ ws) none =
    let both = count-append id (unanswered_id w.standing) (flat_map (λ v. unanswered_id v.standing) ws) in (
      λ is. one (count_of id (unanswered_id w.standing)) (count_of id (flat_map (λ v. unanswered_id v.standing) ws)) none both (ap (λ s. count_of id (unanswered_id s)) is ∙ count-one id id true (eq-eqb id id refl)),
      none-waits id ws (other (count_of id (unanswered_id w.standing)) (count_of id (flat_map (λ v. unanswered_id v.standing) ws)) none both),
    )
  where
    one : (a b : ℕ) {whole : ℕ} → whole ≡ 0 → whole ≡ a + b → a ≡ 1 → ⊥
    one a b none both is = omega (arith, none, both, is)

    other : (a b : ℕ) {whole : ℕ} → whole ≡ 0 → whole ≡ a + b → b ≡ 0
    other a b none both = omega (arith, none, both)

-- ---- the end of a first answer

arrived-by : (filled reached : ℕ) (o : Option ℕ) → elim o as (λ _. Bool) [ None ↦ false | Some n ↦ n == filled ] ≡ true → filled ≤ reached → elim o as (λ _. Bool) [ None ↦ true | Some n ↦ nat_lt reached n ] ≡ false
arrived-by filled reached None told low = absurd (true≢false (sym told))
arrived-by filled reached (Some n) told low = le-ltb reached n (subst (λ m. m ≤ reached) (sym (same-number n filled told)) low)

-- ---- a client and its session

pub record IsHeldNow (hub : Hub) (seat : Seat) (w : Wish) : Type 0 where
  pub id : ℕ
  pub standing : w.standing ≡ answered id
  pub filled : is_filling seat id ≡ false
  pub set : applied_all w.notices w.question [] ≡ matching w.question (records_now hub)

module _ (hub : Hub) (shown : ShownPoints) (seat : Seat) (number : ℕ) (session : Session) (c : Connection)
    (sound : IsSoundHub hub) (one : SessionIsReached hub number session) (j : IsJoined hub shown seat number session c) (quiet : IsQuiet hub seat number session c) where
  abbrev ends_now : BothEnds
  ends_now = ends_of hub seat.filled session seat.client c

  going : IsTrue (is_open session.standing)
  going =
      let live : session.standing ≡ Live = ((nothing_where_all_is_told hub number 1 session sound j.there).1 quiet.nothing).0 in
      ap is_open live

  -- ---- nothing is under way

  no-flying : j.flight.flying ≡ []
  no-flying = no-frames (λ f. server_octets hub.timers f.says) j.flight.flying (sym j.flight.whole_down ∙ quiet.down)

  no-ups : j.flight.ups ≡ []
  no-ups = no-frames message_octets j.flight.ups (sym (j.flight.whole_up going) ∙ quiet.up)

  all-taken : session.made ≡ j.flight.taken
  all-taken = j.flight.made ∙ ap (λ fs. j.flight.taken ++ map (made_of hub.timers) fs) no-flying ∙ append-nil j.flight.taken

  upward : Upward ends_now j.flight.flying j.flight.ups
  upward = j.flight.fit.up going

  -- no request waits
  none-unanswered : (id : ℕ) → AllByRecursion (λ w. w.standing ≡ unanswered id → ⊥) seat.client.wishes
  none-unanswered id =
      let none : count_of id (unanswered_ids ends_now) ≡ 0 = upward.once id ∙ ap₂ (λ ups flying. count_of id (request_ids ups) + count_of id (answer_ids flying)) no-ups no-flying in
      let parts = count-unanswered id ends_now in
      none-waits id seat.client.wishes (first (count_of id (waiting_ids ends_now)) (count_of id (option_to_list c.keepalive_out)) none parts)
    where
      first : (a b : ℕ) {whole : ℕ} → whole ≡ 0 → whole ≡ a + b → a ≡ 0
      first a b none both = omega (arith, none, both)

  -- ---- what is held

  -- of an active subscription: the end of its first answer was told, that answer was made, and the messages made lead to the newest records
  record Leads (s : Subscription) : Type 0 where
    pub told : IsTrue (is_told seat.filled s)
    pub made : s.filled ≤ written session
    pub set : set_after session.made s ≡ matching s.question (records_now hub)

  all-lead : AllByRecursion Leads session.subscriptions
  all-lead =
      each-both (λ s. IsTrue (is_told seat.filled s)) (λ s. (s.filled ≤ written session) × (set_after session.made s ≡ matching s.question (records_now hub))) Leads
      (λ s told both. record { told = told; made = both.0; set = both.1 }) session.subscriptions j.flight.fit.down.told
      (each-both (λ s. s.filled ≤ written session) (λ s. set_after session.made s ≡ matching s.question (records_now hub)) (λ s. (s.filled ≤ written session) × (set_after session.made s ≡ matching s.question (records_now hub)))
      (λ s made set. (made, set)) session.subscriptions one.history.whole (nothing_means_all_is_shown hub number 1 session sound j.there one.history quiet.nothing))

  within : (n : ℕ) → n ≤ written session → n ≤ seat.reached
  within n low = under (size_of_made j.flight.taken) (length c.input) (subst (λ ms. n ≤ size_of_made ms) all-taken low) j.reached
    where
      under : (a b : ℕ) {m reached : ℕ} → m ≤ a → reached ≡ a + b → m ≤ reached
      under a b low is = omega (arith, low, is)

  module _ (w : Wish) (id : ℕ) (standing : w.standing ≡ answered id) where
    of-active : (s : Subscription) → is_active_as id w.question s ≡ true → Leads s → w.notices ≡ notices_since id j.flight.taken → IsHeldNow hub seat w
    of-active s active leads took =
        let both = both_true (id == s.id) (same_question w.question s.question) active in
        let own : id ≡ s.id = same-number id s.id both.0 in
        record {
          id = id;
          standing = standing;
          filled = subst (λ i. is_filling seat i ≡ false) (sym own) (arrived-by s.filled seat.reached (told_end seat.filled s.id) leads.told (within s.filled leads.made));
          set =
              ap (λ ns. applied_all ns w.question []) (took ∙ ap (notices_since id) (sym all-taken))
              ∙ applied-alike w.question s.question both.1 (notices_since id session.made) []
              ∙ ap (λ i. applied_all (notices_since i session.made) s.question []) own
              ∙ leads.set ∙ sym (matching-alike w.question s.question both.1 (records_now hub));
        }

    of-answered : TookNotices j.flight.taken w → IsTrue (is_held_active ends_now w) → IsHeldNow hub seat w
    of-answered took active =
        let found = picked (is_active_as id w.question) Leads session.subscriptions (subst (λ (s : RequestState). is_held_active ends_now (record w { standing = s }) ≡ true) standing active) all-lead in
        of-active found.0 found.1 found.2 (subst (λ (s : RequestState). TookNotices j.flight.taken (record w { standing = s })) standing took)

  -- ---- each question

  by-standing : (w : Wish) (s : RequestState) → w.standing ≡ s → is_asked s ≡ true → ((id : ℕ) → s ≡ unanswered id → ⊥) → is_homeless ends_now (record w { standing = s }) ≡ true → is_served_at hub.start w.question ≡ true
      → TookNotices j.flight.taken w → IsTrue (is_held_active ends_now w) → IsHeldNow hub seat w
  by-standing w not_asked is asked waits home served took active = absurd (true≢false (sym asked))
  by-standing w (unanswered id) is asked waits home served took active = absurd (waits id refl)
  by-standing w (refused rcode) is asked waits home served took active = absurd (true≢false (sym home ∙ ap not served))
  by-standing w (answered id) is asked waits home served took active = of-answered w id is took active

  pub held-now : (question : Question) (w : Wish) → wish_for seat.client question ≡ Some w → IsTrue (is_served_at (state_now hub) question) → IsHeldNow hub seat w
  held-now question w found served =
      let test : Wish → Bool = λ v. same_question v.question question in
      let alike : same_question w.question question ≡ true = find_holds test seat.client.wishes w found in
      let home : is_served_at hub.start w.question ≡ true =
      hubs-serve-alike hub seat.filled session seat.client c w.question question alike ∙ sym (homes-stay hub question ((sound.states 0 (omega arith)).home)) ∙ served in
      by-standing w w.standing refl
      (all_found (λ v. IsTrue (is_asked v.standing)) test seat.client.wishes w j.flight.fit.client.asked found)
      (λ id. all_found (λ v. v.standing ≡ unanswered id → ⊥) test seat.client.wishes w (none-unanswered id) found)
      (all_found (λ v. IsTrue (is_homeless ends_now v)) test seat.client.wishes w j.flight.fit.down.homeless found)
      home
      (all_found (TookNotices j.flight.taken) test seat.client.wishes w j.flight.fit.down.notices found)
      (all_found (λ v. IsTrue (is_held_active ends_now v)) test seat.client.wishes w upward.held found)
