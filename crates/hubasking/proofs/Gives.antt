-- What a turn leaves, as far as the reasons for asking rest on it.
--     turn-first      a session's turn, by the ID of its head
--     homes-turn, timely-turn, bounds-turn      homes, the moment and bounds behind it
--     counts      how many questions the session has
--     confirms-turn      the row that it reconfirms
use Rattle.std.proofs.Common.{◌≡◌, ◌⊎◌, inl, inr, ℕ, ◌+◌, ◌≤◌, ◌<◌, Bool, true, false, cond, ◌&&◌, List, [], ◌∷◌, ◌++◌, length, map, Option, Some, None, refl, sym, ap, subst, ◌∙◌, arith}
use Rattle.std.specs.Prelude.{option_map, unwrap_or, slice_get, nat_le, nat_lt, ◌==◌}
use Rattle.std.specs.List.{AllZip, AllByRecursion}
use Rattle.push_base.specs.Cases.{changed_at, is_empty}
use Rattle.push_base.specs.Limits.{max_moment}
use Rattle.rrset.specs.Header.{id_of}
use Rattle.rrset.specs.declared.record.Key.{Key}
use Rattle.rrset.specs.declared.record.Question.{Question}
use Rattle.subscr.specs.Asked.{Asked}
use Rattle.dsotlv.specs.Messages.{first_message, head_of}
use Rattle.dsotlv.specs.declared.message.DsoHead.{DsoHead}
use Rattle.linkcache.specs.Links.{LinkState}
use Rattle.linkask.specs.Laws.{ReconfirmingKeepsBounds}
use Rattle.linkreasons.specs.AllReasons.{AllReasons, ReasonsOfLink}
use Rattle.history.specs.States.{State, after, link_after}
use Rattle.history.specs.declared.entry.Entry.TheVariants as entries
use Rattle.pushsession.specs.Kept.{KeptSession}
use Rattle.pushsession.specs.Requests.{request_of}
use Rattle.pushsession.specs.Reactions.{request_in}
use Rattle.pushsession.specs.declared.request.Request.{Request}
use Rattle.pushsession.specs.declared.request.Request.TheVariants as requests
use Rattle.pushserver.specs.Giving.{give}
use Rattle.livesessions.specs.NumberedSessions.{Numbered, session_in}
use Rattle.pushserver.specs.Hubs.{newest, now, session_of, state_now}
use Rattle.pushserver.specs.KeptHubs.{KeptHub, Forgets, forgetting}
use Rattle.livesessions.proofs.SessionLists.{same-number}
use Rattle.pushserver.proofs.hub_steps.Cases.{request_as}
use Rattle.pushserver.proofs.hub_steps.Pairs.{zip-all}
use Rattle.hubasking.specs.KeptReasons.{HasBounds}
use Rattle.hubasking.specs.LinkAskings.{confirms, confirms_by_turn, is_live}
use Rattle.hubasking.specs.Turns.{count_of, first_id, turn_request}
use Rattle.hubasking.proofs.Calls.{same-links, same-now, zip-changed}
use Rattle.hubasking.proofs.Clearing.{AreFound}
use Rattle.hubasking.proofs.Resting.{SameHomes, homes-after, homes-itself}
use Rattle.hubasking.proofs.Settled.{Counts}
use Rattle.hubasking.proofs.Turning.{EntryTo, OwnTo, StateTo, Turn, TurnsTo, give-turn, head-id, id_as}

-- ---- the ID of the first message is that of its head

own-first : (o : Option KeptSession) (asked later : Asked) → OwnTo (turn_request o) (id_as o) asked later → OwnTo (turn_request o) (first_id o) asked later
own-first None asked later own = absurd own
own-first (Some s) asked later own = by (is_live s.standing && is_empty s.output) own
  where
    by_head : (f : List ℕ × List ℕ) (h : Option DsoHead) → head_of f.0 ≡ h → OwnTo (Some (request_as f.0 s.established h)) (Some (id_of f.0)) asked later → OwnTo (Some (request_as f.0 s.established h)) (option_map (λ (d : DsoHead). d.id) h) asked later
    by_head f None at own = own
    by_head f (Some head) at own = subst (λ (i : ℕ). OwnTo (Some (request_as f.0 s.established (Some head))) (Some i) asked later) (sym (head-id 0 f.0 head at)) own

    by_message : (o : Option (List ℕ × List ℕ)) → OwnTo (option_map (λ (m : List ℕ). request_in m s.established) (option_map (λ (f : List ℕ × List ℕ). f.0) o)) (option_map (λ (m : List ℕ). id_of m) (option_map (λ (f : List ℕ × List ℕ). f.0) o)) asked later
        → OwnTo (option_map (λ (m : List ℕ). request_in m s.established) (option_map (λ (f : List ℕ × List ℕ). f.0) o)) (option_map (λ (d : DsoHead). d.id) (head_of (unwrap_or (option_map (λ (f : List ℕ × List ℕ). f.0) o) []))) asked later
    by_message None own = absurd own
    by_message (Some f) own = by_head f (head_of f.0) refl own

    by : (b : Bool) → OwnTo (cond b (request_of s) None) (id_as (Some s)) asked later → OwnTo (cond b (request_of s) None) (first_id (Some s)) asked later
    by true own = by_message (first_message s.input) own
    by false own = absurd own

module _ (k : KeptHub) (number room : ℕ) where
  turns-first : (e d : ℕ × KeptSession) → TurnsTo number (turn_request (session_of k number)) (id_as (session_of k number)) e d → TurnsTo number (turn_request (session_of k number)) (first_id (session_of k number)) e d
  turns-first e d turns = (turns.0, by turns.1)
    where
      by : (d.1.subscriptions.asked ≡ []) ⊎ (d.1.subscriptions.asked ≡ e.1.subscriptions.asked) ⊎ (((e.0 == number) ≡ true) × OwnTo (turn_request (session_of k number)) (id_as (session_of k number)) e.1.subscriptions.asked d.1.subscriptions.asked)
          → (d.1.subscriptions.asked ≡ []) ⊎ (d.1.subscriptions.asked ≡ e.1.subscriptions.asked) ⊎ (((e.0 == number) ≡ true) × OwnTo (turn_request (session_of k number)) (first_id (session_of k number)) e.1.subscriptions.asked d.1.subscriptions.asked)
      by (inl none) = inl none
      by (inr (inl same)) = inr (inl same)
      by (inr (inr own)) = inr (inr (own.0, own-first (session_of k number) e.1.subscriptions.asked d.1.subscriptions.asked own.1))

  -- the turn, where the oldest entries may be forgotten
  pub turn-first : (later : KeptHub) → Forgets (give k number room).hub later → Turn k number (turn_request (session_of k number)) (first_id (session_of k number)) later
  turn-first later forgets = subst (λ (h : KeptHub). Turn k number (turn_request (session_of k number)) (first_id (session_of k number)) h) (sym forgets.is) (record {
    sessions = zip-all (TurnsTo number (turn_request (session_of k number)) (id_as (session_of k number))) (TurnsTo number (turn_request (session_of k number)) (first_id (session_of k number))) turns-first k.sessions given.sessions turn.sessions;
    state = moved (turn_request (session_of k number)) turn.state;
  })
    where
      given : KeptHub
      given = (give k number room).hub

      turn : Turn k number (turn_request (session_of k number)) (id_as (session_of k number)) given
      turn = give-turn number room k

      moved : (r : Option Request) → StateTo k r given → StateTo k r (forgetting forgets.count given)
      moved r (inl stays) = inl stays
      moved None (inr e) = absurd e
      moved (Some requests.Itself) (inr e) = absurd e
      moved (Some requests.Update) (inr e) = inr e
      moved (Some requests.Query) (inr e) = absurd e
      moved (Some (requests.Subscribe q)) (inr e) = absurd e
      moved (Some (requests.Reconfirm None)) (inr e) = absurd e
      moved (Some (requests.Reconfirm (Some rr))) (inr e) = inr e

-- ---- homes, bounds and the moment behind a turn

module _ (k later : KeptHub) where
  pub homes-turn : (q : Option Request) → StateTo k q later → SameHomes (state_now k) (state_now later)
  homes-turn q (inl stays) = subst (λ (s : State). SameHomes (state_now k) s) (sym stays.0) (homes-itself (state_now k))
  homes-turn None (inr e) = absurd e
  homes-turn (Some requests.Itself) (inr e) = absurd e
  homes-turn (Some requests.Query) (inr e) = absurd e
  homes-turn (Some requests.Update) (inr e) = subst (λ (s : State). SameHomes (state_now k) s) (sym e.1) (homes-after (state_now k) (entries.Update e.0))
  homes-turn (Some (requests.Subscribe q)) (inr e) = absurd e
  homes-turn (Some (requests.Reconfirm None)) (inr e) = absurd e
  homes-turn (Some (requests.Reconfirm (Some rr))) (inr e) = subst (λ (s : State). SameHomes (state_now k) s) (sym e.2) (homes-after (state_now k) (entries.Reconfirm e.0.0 e.0.1))

  pub timely-turn : (q : Option Request) → StateTo k q later → now k ≤ max_moment → now later ≤ max_moment
  timely-turn q (inl stays) timely = subst (λ (s : State). s.now ≤ max_moment) (sym stays.0) timely
  timely-turn None (inr e) timely = absurd e
  timely-turn (Some requests.Itself) (inr e) timely = absurd e
  timely-turn (Some requests.Query) (inr e) timely = absurd e
  timely-turn (Some requests.Update) (inr e) timely = subst (λ (s : State). s.now ≤ max_moment) (sym e.1) (subst (λ (n : ℕ). n ≤ max_moment) (sym (same-now (state_now k) e.0)) timely)
  timely-turn (Some (requests.Subscribe q)) (inr e) timely = absurd e
  timely-turn (Some (requests.Reconfirm None)) (inr e) timely = absurd e
  timely-turn (Some (requests.Reconfirm (Some rr))) (inr e) timely = subst (λ (s : State). s.now ≤ max_moment) (sym e.2) timely

  pub bounds-turn : ReconfirmingKeepsBounds → (q : Option Request) → StateTo k q later → (rs : List ReasonsOfLink) → AllZip HasBounds (state_now k).links rs → AllZip HasBounds (state_now later).links rs
  bounds-turn keeps q (inl stays) rs b = subst (λ (s : State). AllZip HasBounds s.links rs) (sym stays.0) b
  bounds-turn keeps None (inr e) rs b = absurd e
  bounds-turn keeps (Some requests.Itself) (inr e) rs b = absurd e
  bounds-turn keeps (Some requests.Query) (inr e) rs b = absurd e
  bounds-turn keeps (Some requests.Update) (inr e) rs b = subst (λ (s : State). AllZip HasBounds s.links rs) (sym e.1) (subst (λ (ls : List LinkState). AllZip HasBounds ls rs) (sym (same-links (state_now k) e.0)) b)
  bounds-turn keeps (Some (requests.Subscribe q)) (inr e) rs b = absurd e
  bounds-turn keeps (Some (requests.Reconfirm None)) (inr e) rs b = absurd e
  bounds-turn keeps (Some (requests.Reconfirm (Some rr))) (inr e) rs b = subst (λ (s : State). AllZip HasBounds s.links rs) (sym e.2)
      (zip-changed e.0.0 (link_after (entries.Reconfirm e.0.0 e.0.1) (state_now k).now) (λ l r h. keeps l.rows e.0.1 (state_now k).now r.kept h) (state_now k).links rs b)

-- ---- how many questions

count-at : (all : Numbered KeptSession) (number : ℕ) (e : ℕ × KeptSession) → session_in e.0 all ≡ Some e.1 → (e.0 == number) ≡ true → count_of (session_in number all) ≡ length e.1.subscriptions.asked
count-at all number e found mine = ap (λ (n : ℕ). count_of (session_in n all)) (sym (same-number e.0 number mine)) ∙ ap count_of found

pub counts : (R : ℕ → ℕ → Type 0) (all later_all : Numbered KeptSession) (number : ℕ) (q : Option Request) (id : Option ℕ) → R (count_of (session_in number all)) (count_of (session_in number later_all)) → (xs ys : Numbered KeptSession) → AreFound all xs → AreFound later_all ys → AllZip (TurnsTo number q id) xs ys → Counts R number xs ys
counts R all later_all number q id r [] [] found later_found zip = tt
counts R all later_all number q id r [] (y ∷ ys) found later_found zip = absurd zip
counts R all later_all number q id r (x ∷ xs) [] found later_found zip = absurd zip
counts R all later_all number q id r (x ∷ xs) (y ∷ ys) found later_found zip = (
  (λ mine. subst (λ (n : ℕ × ℕ). R n.0 n.1) (λ i. (count-at all number x found.0 mine i, count-at later_all number y later_found.0 (ap (λ (n : ℕ). n == number) (sym zip.0.0) ∙ mine) i)) r),
  counts R all later_all number q id r xs ys found.1 later_found.1 zip.1,
)

-- ---- the row that is reconfirmed

pub confirms-turn : (k : KeptHub) (o : Option KeptSession) → confirms_by_turn k o ≡ confirms k (turn_request o)
confirms-turn k None = refl
confirms-turn k (Some s) = by (is_live s.standing && is_empty s.output)
  where
    by : (b : Bool) → cond b (confirms k (request_of s)) None ≡ confirms k (cond b (request_of s) None)
    by true = refl
    by false = refl
