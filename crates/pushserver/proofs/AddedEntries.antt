-- What a call adds to the entries of each group, and how many octets it hands on.
--     give-adds, hear-adds, gone-adds, moment-adds      at most one change; one hearing where the datagram was entered, and where a link's rows went; at most one moment
--     change-forgets, moment-forgets, hearing-forgets, going-forgets      the same where entries are forgotten then
--     give-within      no more octets than there is room for
--     connect-counts, connect-many      one session is made; where no seat is free, as many were made
use Rattle.std.proofs.Common.{◌≡◌, ℕ, suc, ◌+◌, ◌<◌, ◌≤◌, Bool, true, false, cond, not, ◌&&◌, ◌||◌, List, [], ◌∷◌, map, length, Option, Some, None, Result, Ok, Err, T, inl, inr, refl, sym, ap, subst, arith}
use Rattle.std.specs.Prelude.{◌==◌, nat_lt}
use Rattle.std.specs.List.{list_any, AllByRecursion, IsDistinct}
use Rattle.std.proofs.Math.Dec.{eqb, nltb→le}
use Rattle.std.proofs.lemmas.Map.Steps.{length-le_from_distinct_below}
use Rattle.push_base.specs.Cases.{is_empty}
use Rattle.push_base.specs.Limits.{max_number}
use Rattle.rrset.specs.declared.record.Hearing.{Hearing}
use Rattle.rrset.specs.declared.record.Key.{Key}
use Rattle.rrset.specs.declared.record.Rr.{Rr}
use Rattle.dnswire.specs.Reading.{hearing_of}
use Rattle.dnswire.specs.declared.message.HearFault.{HearFault}
use Rattle.dnswire.specs.declared.message.Update.{Update}
use Rattle.dsotlv.specs.Messages.{first_message}
use Rattle.history.specs.States.{accepts, reconfirm_key, verdict}
use Rattle.history.specs.declared.entry.Entry.TheVariants as entries
use Rattle.pushsession.specs.Kept.{KeptSession, keeping}
use Rattle.pushsession.specs.Sessions.{timed}
use Rattle.pushsession.specs.Reactions.{request_in}
use Rattle.pushsession.specs.declared.request.Request.{Request}
use Rattle.pushsession.specs.declared.request.Request.TheVariants as requests
use Rattle.pushsession.specs.declared.session_status.SessionStatus.{SessionStatus}
use Rattle.pushsession.specs.declared.session_status.SessionStatus.TheVariants.{Live, AskedToStop, Stopped, Ended}
use Rattle.pushserver.specs.Observing.{SaysWhy}
use Rattle.pushserver.specs.Counting.{AddsGoing, AddsHearing, MayAddChange, MayAddMoment, octets_of}
use Rattle.pushserver.specs.Giving.{reconfirms, by_request, reacted, after_reaction, by_standing, given_after, give}
use Rattle.livesessions.specs.NumberedSessions.{Numbered, AreApart, AreBelow}
use Rattle.pushserver.specs.Hubs.{state_now, session_of, each_session, entered_keeping, can_enter, update, hear, link_gone, moment, connect, max_sessions}
use Rattle.pushserver.specs.KeptHubs.{KeptHub, Forgets}
use Rattle.pushserver.specs.declared.given.Given.{Given}
use Rattle.pushserver.specs.declared.given.Given.TheVariants.{Worked, Nothing}
use Rattle.pushserver.specs.declared.fault.HubFault.{HubFault}
use Rattle.pushserver.specs.declared.given.Heard.{Heard}
use Rattle.pushserver.specs.declared.given.Heard.TheVariants.{Entered, Ignored}
use Rattle.livesessions.proofs.SessionLists.{same-number}
use Rattle.pushserver.proofs.Walks.{with_new}
use Rattle.pushserver.proofs.hub_steps.Cases.{enters_update, update_as, enters_hearing, hear_as, enters_going, key_as, session_as, copies_as, found_as, works_as, output_as, give_as}

-- ---- `give`, a datagram and a moment

ends_without : (s : SessionStatus) → octets_of (given_after s) ≡ 0
ends_without (Ended reason) = refl
ends_without (Stopped since) = refl
ends_without Live = refl
ends_without (AskedToStop rcode delay) = refl

module _ (number room : ℕ) where
  adds-update : (hub : KeptHub) (message : List ℕ) → MayAddChange hub (update hub message).1
  adds-update hub message = by (verdict (state_now hub) message)
    where
      by_room : (u : Update) (b : Bool) → MayAddChange hub (enters_update hub u b).1
      by_room u true = (refl, inr refl)
      by_room u false = (refl, inl refl)

      by : (r : Result Update ℕ) → MayAddChange hub (update_as hub r).1
      by (Err code) = (refl, inl refl)
      by (Ok u) = by_room u (can_enter hub)

  adds-reconfirm : (hub : KeptHub) (found : Option Rr) → MayAddChange hub (reconfirms found number hub)
  adds-reconfirm hub = by
    where
      by_room : (found : ℕ × Key) (b : Bool) → MayAddChange hub (cond b (entered_keeping (entries.Reconfirm found.0 found.1) hub) hub)
      by_room found true = (refl, inr refl)
      by_room found false = (refl, inl refl)

      by_key : (o : Option (ℕ × Key)) → MayAddChange hub (key_as hub o)
      by_key None = (refl, inl refl)
      by_key (Some found) = by_room found (accepts (state_now hub) (entries.Reconfirm found.0 found.1) && can_enter hub)

      by : (o : Option Rr) → MayAddChange hub (reconfirms o number hub)
      by None = (refl, inl refl)
      by (Some rr) = by_key (reconfirm_key (state_now hub) rr)

  adds-request : (hub : KeptHub) (message : List ℕ) (q : Request) → MayAddChange hub (by_request q number message hub)
  adds-request hub message requests.Update = adds-update hub message
  adds-request hub message (requests.Reconfirm rr) = adds-reconfirm hub rr
  adds-request hub message (requests.Subscribe question) = (refl, inl refl)
  adds-request hub message requests.Query = (refl, inl refl)
  adds-request hub message requests.Itself = (refl, inl refl)

  adds-message : (hub : KeptHub) (message : List ℕ) → MayAddChange hub (reacted message number hub)
  adds-message hub message = by (session_of hub number)
    where
      by : (o : Option (KeptSession)) → MayAddChange hub (session_as hub number message o)
      by None = (refl, inl refl)
      by (Some session) = adds-request _ message (request_in message session.established)

  -- octets that are handed on add nothing
  adds-found : (hub later : KeptHub) (none : Given) (given : SessionStatus → Given) (o : Option (KeptSession)) → MayAddChange hub later → MayAddChange hub (found_as later number room none given o).hub
  adds-found hub later none given None adds = adds
  adds-found hub later none given (Some session) adds = by (is_empty session.output)
    where
      by : (b : Bool) → MayAddChange hub (copies_as later number room session (given session.standing) b).hub
      by true = adds
      by false = adds

  adds-after : (hub later : KeptHub) → MayAddChange hub later → MayAddChange hub (after_reaction number room later).hub
  adds-after hub later adds = adds-found hub later Worked given_after (session_of later number) adds

  adds-works : (hub : KeptHub) (o : Option (List ℕ × List ℕ)) → MayAddChange hub (works_as hub number room o).hub
  adds-works hub None = adds-found hub _ Nothing (λ standing. Nothing) _ (refl, inl refl)
  adds-works hub (Some found) = adds-after hub _ (adds-message _ found.0)

  adds-standing : (hub : KeptHub) (session : KeptSession) (standing : SessionStatus) → MayAddChange hub (by_standing standing number room session hub).hub
  adds-standing hub session (Ended reason) = (refl, inl refl)
  adds-standing hub session (Stopped since) = (refl, inl refl)
  adds-standing hub session Live = adds-works hub (first_message session.input)
  adds-standing hub session (AskedToStop rcode delay) = adds-after hub _ (refl, inl refl)

  pub give-adds : (hub : KeptHub) → MayAddChange hub (give hub number room).hub
  give-adds hub = by (session_of hub number)
    where
      by_output : (session : KeptSession) (b : Bool) → MayAddChange hub (output_as hub number room session b).hub
      by_output session false = (refl, inl refl)
      by_output session true = adds-standing hub session session.standing

      by : (o : Option (KeptSession)) → MayAddChange hub (give_as hub number room o).hub
      by None = (refl, inl refl)
      by (Some session) = by_output session (is_empty session.output)

  -- ---- no more octets than there is room for

  within-found : (later : KeptHub) (none : Given) (given : SessionStatus → Given) → octets_of none ≡ 0 → ((s : SessionStatus) → octets_of (given s) ≡ 0) → (o : Option (KeptSession)) → octets_of (found_as later number room none given o).given ≤ room
  within-found later none given nothing given_nothing None = omega (arith, nothing)
  within-found later none given nothing given_nothing (Some session) = by (is_empty session.output)
    where
      by : (b : Bool) → octets_of (copies_as later number room session (given session.standing) b).given ≤ room
      by true = omega (arith, given_nothing session.standing)
      by false = omega arith

  within-after : (later : KeptHub) → octets_of (after_reaction number room later).given ≤ room
  within-after later = within-found later Worked given_after refl ends_without (session_of later number)

  within-standing : (hub : KeptHub) (session : KeptSession) (standing : SessionStatus) → octets_of (by_standing standing number room session hub).given ≤ room
  within-standing hub session (Ended reason) = omega arith
  within-standing hub session (Stopped since) = omega arith
  within-standing hub session Live = by (first_message session.input)
    where
      by : (o : Option (List ℕ × List ℕ)) → octets_of (works_as hub number room o).given ≤ room
      by None = within-found _ Nothing (λ standing. Nothing) refl (λ s. refl) _
      by (Some found) = within-after _
  within-standing hub session (AskedToStop rcode delay) = within-after _

  pub give-within : (hub : KeptHub) → octets_of (give hub number room).given ≤ room
  give-within hub = by (session_of hub number)
    where
      by_output : (session : KeptSession) (b : Bool) → octets_of (output_as hub number room session b).given ≤ room
      by_output session false = omega arith
      by_output session true = within-standing hub session session.standing

      by : (o : Option (KeptSession)) → octets_of (give_as hub number room o).given ≤ room
      by None = omega arith
      by (Some session) = by_output session (is_empty session.output)

pub hear-adds : (hub : KeptHub) (link : ℕ) (datagram : List ℕ) → AddsHearing (Ok (hear hub link datagram).0) hub (hear hub link datagram).1
hear-adds hub link datagram = by (hearing_of datagram)
  where
    by_room : (hearing : Hearing) (a b : Bool) → AddsHearing (Ok (enters_hearing hub link hearing a b).0) hub (enters_hearing hub link hearing a b).1
    by_room hearing false b = (refl, refl)
    by_room hearing true false = (refl, refl)
    by_room hearing true true = (refl, refl)

    by : (r : Result Hearing HearFault) → AddsHearing (Ok (hear_as hub link r).0) hub (hear_as hub link r).1
    by (Err fault) = (refl, refl)
    by (Ok hearing) = by_room hearing (accepts (state_now hub) (entries.Heard link hearing)) (can_enter hub)

-- what is said of a datagram
pub hear-says : (hub : KeptHub) (link : ℕ) (datagram : List ℕ) → SaysWhy (hear hub link datagram).0 (hearing_of datagram)
hear-says hub link datagram = by (hearing_of datagram)
  where
    by_room : (hearing : Hearing) (a b : Bool) → SaysWhy (enters_hearing hub link hearing a b).0 (Ok hearing)
    by_room hearing false b = inr (inl refl)
    by_room hearing true false = inr (inr refl)
    by_room hearing true true = inl refl

    by : (r : Result Hearing HearFault) → SaysWhy (hear_as hub link r).0 r
    by (Err fault) = refl
    by (Ok hearing) = by_room hearing (accepts (state_now hub) (entries.Heard link hearing)) (can_enter hub)

pub gone-adds : (hub : KeptHub) (link : ℕ) → AddsGoing (Ok (link_gone hub link).0) hub (link_gone hub link).1
gone-adds hub link = by (accepts (state_now hub) (entries.LinkGone link) && can_enter hub)
  where
    by : (b : Bool) → AddsGoing (Ok (enters_going hub link b).0) hub (enters_going hub link b).1
    by true = (refl, refl)
    by false = (refl, refl)

pub moment-adds : (hub : KeptHub) (t : ℕ) → MayAddMoment hub (moment hub t)
moment-adds hub t = by (accepts (state_now hub) (entries.Moment t) && can_enter hub)
  where
    by : (b : Bool) → MayAddMoment hub (cond b (each_session (timed keeping t) (entered_keeping (entries.Moment t) hub)) hub)
    by true = (refl, inr refl)
    by false = (refl, inl refl)

-- what is forgotten was counted
module _ (k mid later : KeptHub) (forgets : Forgets mid later) where
  pub change-forgets : MayAddChange k mid → MayAddChange k later
  change-forgets adds = subst (λ (h : KeptHub). MayAddChange k h) (sym forgets.is) adds

  pub moment-forgets : MayAddMoment k mid → MayAddMoment k later
  moment-forgets adds = subst (λ (h : KeptHub). MayAddMoment k h) (sym forgets.is) adds

  pub hearing-forgets : (heard : Result Heard HubFault) → AddsHearing heard k mid → AddsHearing heard k later
  hearing-forgets (Ok Entered) adds = subst (λ (h : KeptHub). AddsHearing (Ok Entered) k h) (sym forgets.is) adds
  hearing-forgets (Ok (Ignored why)) adds = subst (λ (h : KeptHub). AddsHearing (Ok (Ignored why)) k h) (sym forgets.is) adds
  hearing-forgets (Err fault) adds = subst (λ (h : KeptHub). AddsHearing (Err fault) k h) (sym forgets.is) adds

  pub going-forgets : (gone : Result Bool HubFault) → AddsGoing gone k mid → AddsGoing gone k later
  going-forgets (Ok true) adds = subst (λ (h : KeptHub). AddsGoing (Ok true) k h) (sym forgets.is) adds
  going-forgets (Ok false) adds = subst (λ (h : KeptHub). AddsGoing (Ok false) k h) (sym forgets.is) adds
  going-forgets (Err fault) adds = subst (λ (h : KeptHub). AddsGoing (Err fault) k h) (sym forgets.is) adds

-- ---- a session is made

abbrev connect_as : KeptHub → Bool → Option ℕ × KeptHub
connect_as hub b = cond b (Some hub.numbers_given, with_new hub) (None, hub)

pub connect-counts : (hub : KeptHub) (number : ℕ) → (connect hub).0 ≡ Some number → (number ≡ hub.numbers_given) × ((connect hub).1.numbers_given ≡ hub.numbers_given + 1) × ((connect hub).1.seen ≡ hub.seen)
connect-counts hub number = by (nat_lt (length hub.sessions) max_sessions && nat_lt hub.numbers_given max_number)
  where
    same_some : (a b : ℕ) → Some a ≡ Some b → a ≡ b
    same_some a b e = cc

    by : (b : Bool) → (connect_as hub b).0 ≡ Some number → (number ≡ hub.numbers_given) × ((connect_as hub b).1.numbers_given ≡ hub.numbers_given + 1) × ((connect_as hub b).1.seen ≡ hub.seen)
    by true e = (sym (same_some hub.numbers_given number e), refl, refl)
    by false e = cc

-- as many sessions as there are were made
numbers-distinct : (xs : Numbered KeptSession) → AreApart xs → IsDistinct eqb (map (λ e. e.0) xs)
unfolding IsDistinct
numbers-distinct [] apart = tt
numbers-distinct (x ∷ xs) apart = (by xs apart.0, numbers-distinct xs apart.1)
  where
    by : (ys : Numbered KeptSession) → AllByRecursion (λ (y : ℕ × KeptSession). (x.0 == y.0) ≡ false) ys → AllByRecursion (λ n. eqb x.0 n ≡ false) (map (λ e. e.0) ys)
    by [] all = tt
    by (y ∷ ys) all = (all.0, by ys all.1)

numbers-below : (made : ℕ) (xs : Numbered KeptSession) → AreBelow made xs → (q : ℕ) → list_any (eqb q) (map (λ e. e.0) xs) ≡ true → q < made
numbers-below made [] below q any = cc
numbers-below made (x ∷ xs) below q any = by (eqb q x.0) refl any (numbers-below made xs below.1 q)
  where
    by : (b : Bool) → eqb q x.0 ≡ b → (b || list_any (eqb q) (map (λ (e : ℕ × KeptSession). e.0) xs)) ≡ true → (list_any (eqb q) (map (λ (e : ℕ × KeptSession). e.0) xs) ≡ true → q < made) → q < made
    by true is e rest = subst (λ n. n < made) (sym (same-number q x.0 is)) below.0
    by false is e rest = rest e

fewer_than-made : (made : ℕ) (xs : Numbered KeptSession) → AreApart xs → AreBelow made xs → length xs ≤ made
fewer_than-made made xs apart below =
    let few = length-le_from_distinct_below (map (λ (e : ℕ × KeptSession). e.0) xs) made (numbers-distinct xs apart) (numbers-below made xs below) in
    let same : length (map (λ (e : ℕ × KeptSession). e.0) xs) ≡ length xs = as_many xs in
    omega (arith, few, same)
  where
    as_many : (ys : Numbered KeptSession) → length (map (λ (e : ℕ × KeptSession). e.0) ys) ≡ length ys
    as_many [] = refl
    as_many (y ∷ ys) = ap suc (as_many ys)

no_less : (a b : ℕ) → nat_lt a b ≡ false → b ≤ a
no_less a b is = nltb→le a b (subst (λ c. T (not c)) (sym is) tt)

pub connect-many : (k : KeptHub) → AreApart k.sessions → AreBelow k.numbers_given k.sessions → (connect k).0 ≡ None → max_sessions ≤ k.numbers_given
connect-many k apart below = by (nat_lt (length k.sessions) max_sessions) (nat_lt k.numbers_given max_number) refl refl
  where
    by : (a b : Bool) → nat_lt (length k.sessions) max_sessions ≡ a → nat_lt k.numbers_given max_number ≡ b → (connect_as k (a && b)).0 ≡ None → max_sessions ≤ k.numbers_given
    by true true few more e = cc
    by false b few more e = let many = no_less (length k.sessions) max_sessions few in omega (arith, fewer_than-made k.numbers_given k.sessions apart below, many)
    by true false few more e = let many = no_less k.numbers_given max_number more in omega (arith, many)
