-- What calls leave of what is kept.
--     Leaves k later      homes, sessions, the moment and bounds behind a call
--     matched      the bounds that there were
--     update-leaves, going-leaves, moment-leaves, hear-leaves      behind these
--     leaves-forgetting      where the oldest entries are forgotten
--     bounds-lowered, lowered-same      lower bounds are bounds, and change nothing that is asked
use Rattle.std.proofs.Common.{◌≡◌, ℕ, zero, suc, ◌≤◌, Bool, true, false, cond, not, ltb, ◌&&◌, List, [], ◌∷◌, length, map, Option, Some, None, Result, Ok, Err, refl, sym, ap, subst, ◌∙◌}
use Rattle.std.specs.Prelude.{slice_get, IfSome, ◌==◌}
use Rattle.std.specs.List.{AllZip}
use Rattle.std.proofs.lemmas.List.{length-map}
use Rattle.push_base.specs.Cases.{◌>>=◌, changed_at, fault_as}
use Rattle.push_base.specs.Limits.{max_moment}
use Rattle.dnsname.specs.Names.{Labels}
use Rattle.rrset.specs.RecordSet.{RecordSet}
use Rattle.rrset.specs.declared.record.HeardRr.{HeardRr}
use Rattle.rrset.specs.declared.record.Question.{Question}
use Rattle.rrset.specs.declared.record.Hearing.{Hearing}
use Rattle.dnswire.specs.Reading.{hearing_of}
use Rattle.dnswire.specs.declared.message.Update.{Update}
use Rattle.dnswire.specs.declared.message.HearFault.{HearFault}
use Rattle.zoneupdate.specs.Updates.{judged}
use Rattle.zoneupdate.specs.Zones.{ZoneState}
use Rattle.linkcache.specs.Links.{LinkState}
use Rattle.linkcache.specs.Rows.{LinkRows, at_moment, heard}
use Rattle.linkask.specs.Bounds.{AreBounds, Kept, all_heard, heard_again, wanted_in}
use Rattle.linkask.specs.Asking.{Wanted}
use Rattle.linkask.specs.Reasons.{LinkAsking}
use Rattle.linkask.specs.Laws.{EndingKeepsBounds, GoingKeepsBounds}
use Rattle.linkask.specs.declared.asks.KeptAsks.{KeptAsks}
use Rattle.linkreasons.specs.AllReasons.{AllReasons, ReasonsOfLink, asking_of, askings_of}
use Rattle.history.specs.States.{State, accepts, after, home_names, link_after, link_at_moment, updated, verdict, with_rows, zone_asked, zone_of}
use Rattle.history.specs.declared.entry.Entry.{Entry}
use Rattle.history.specs.declared.entry.Entry.TheVariants as entries
use Rattle.history.proofs.UpdateSteps.{asked_step, zone_step, updated-steps}
use Rattle.pushserver.specs.Hubs.{can_enter, each_session, entered_keeping, hear, link_gone, moment, now, state_now, update, keeps_now, why_not}
use Rattle.pushserver.specs.KeptHubs.{KeptHub, Forgets}
use Rattle.pushserver.specs.declared.given.Why.{Why}
use Rattle.livesessions.proofs.SessionLists.{number-itself, same-number}
use Rattle.pushserver.proofs.hub_steps.Pairs.{zip-all}
use Rattle.pushserver.proofs.hub_steps.Cases.{enters_hearing, hear_as, enters_going, enters_update, update_as, moment_as}
use Rattle.hubasking.specs.KeptReasons.{HasBounds, Lowers, LowersFor, MatchesLink}
use Rattle.hubasking.proofs.Clearing.{bounds-kept, get-zip, zip-get, zip-length}
use Rattle.hubasking.proofs.Resting.{Rests, rests-entered, rests-itself, rests-timed}

pub record Leaves (k later : KeptHub) : Type 0 where
  pub rests : Rests k later
  pub timely : now k ≤ max_moment → now later ≤ max_moment
  pub bounds : (rs : List ReasonsOfLink) → AllZip HasBounds (state_now k).links rs → AllZip HasBounds (state_now later).links rs

leaves-itself : (k : KeptHub) → Leaves k k
leaves-itself k = record { rests = rests-itself k; timely = λ t. t; bounds = λ rs b. b }

-- the bounds that there were
pub matched : (ls : List LinkState) (rs : List ReasonsOfLink) → AllZip MatchesLink ls rs → AllZip HasBounds ls rs
matched ls rs all = zip-all MatchesLink HasBounds (λ l r m. m.bounds) ls rs all

pub leaves-forgetting : (k called later : KeptHub) → Forgets called later → Leaves k called → Leaves k later
leaves-forgetting k called later forgets leaves = subst (λ (h : KeptHub). Leaves k h) (sym forgets.is) (record {
  rests = record { homes = leaves.rests.homes; sessions = leaves.rests.sessions };
  timely = leaves.timely;
  bounds = leaves.bounds;
})

-- ---- updates change no link

pub same-links : (state : State) (update : Update) → (after state (entries.Update update)).links ≡ state.links
same-links state update = ap (λ (x : Result State ℕ). (made x).links) (updated-steps state update) ∙ asked (zone_asked update.zones)
  where
    made : Result State ℕ → State
    made r = elim r as (λ _. State) [ Err code ↦ state | Ok later ↦ later ]

    judged_so : (apex : Labels) (r : Result RecordSet ℕ) → (made (r >>= λ rows. Ok (with_rows state apex rows))).links ≡ state.links
    judged_so apex (Err code) = refl
    judged_so apex (Ok rows) = refl

    zone : (o : Option ZoneState) → (made (zone_step state update o)).links ≡ state.links
    zone None = refl
    zone (Some z) = judged_so z.apex (judged (home_names state) z update)

    asked : (r : Result Labels ℕ) → (made (asked_step state update r)).links ≡ state.links
    asked (Err code) = refl
    asked (Ok apex) = zone (zone_of state apex)

pub same-now : (state : State) (update : Update) → (after state (entries.Update update)).now ≡ state.now
same-now state update = ap (λ (x : Result State ℕ). (made x).now) (updated-steps state update) ∙ asked (zone_asked update.zones)
  where
    made : Result State ℕ → State
    made r = elim r as (λ _. State) [ Err code ↦ state | Ok later ↦ later ]

    judged_so : (apex : Labels) (r : Result RecordSet ℕ) → (made (r >>= λ rows. Ok (with_rows state apex rows))).now ≡ state.now
    judged_so apex (Err code) = refl
    judged_so apex (Ok rows) = refl

    zone : (o : Option ZoneState) → (made (zone_step state update o)).now ≡ state.now
    zone None = refl
    zone (Some z) = judged_so z.apex (judged (home_names state) z update)

    asked : (r : Result Labels ℕ) → (made (asked_step state update r)).now ≡ state.now
    asked (Err code) = refl
    asked (Ok apex) = zone (zone_of state apex)

pub updated-leaves : (k : KeptHub) (u : Update) → Leaves k (entered_keeping (entries.Update u) k)
updated-leaves k u = record {
  rests = rests-entered (entries.Update u) k;
  timely = subst (λ (n : ℕ). n ≤ max_moment) (sym (same-now (state_now k) u));
  bounds = λ rs b. subst (λ (ls : List LinkState). AllZip HasBounds ls rs) (sym (same-links (state_now k) u)) b;
}

pub update-leaves : (k : KeptHub) (message : List ℕ) → Leaves k (update k message).1
update-leaves k message = by (verdict (state_now k) message)
  where
    by_room : (u : Update) (b : Bool) → Leaves k (enters_update k u b).1
    by_room u true = updated-leaves k u
    by_room u false = leaves-itself k

    by : (r : Result Update ℕ) → Leaves k (update_as k r).1
    by (Err code) = leaves-itself k
    by (Ok u) = by_room u (can_enter k)

-- ---- a link goes, and a moment comes

pub zip-changed : (link : ℕ) (f : LinkState → LinkState) → ((l : LinkState) (r : ReasonsOfLink) → HasBounds l r → HasBounds (f l) r) → (ls : List LinkState) (rs : List ReasonsOfLink) → AllZip HasBounds ls rs → AllZip HasBounds (changed_at link f ls) rs
zip-changed link f step [] [] zip = tt
zip-changed link f step [] (r ∷ rs) zip = absurd zip
zip-changed link f step (l ∷ ls) [] zip = absurd zip
zip-changed zero f step (l ∷ ls) (r ∷ rs) zip = (step l r zip.0, zip.1)
zip-changed (suc link) f step (l ∷ ls) (r ∷ rs) zip = (zip.0, zip-changed link f step ls rs zip.1)

zip-each : (f : LinkState → LinkState) → ((l : LinkState) (r : ReasonsOfLink) → HasBounds l r → HasBounds (f l) r) → (ls : List LinkState) (rs : List ReasonsOfLink) → AllZip HasBounds ls rs → AllZip HasBounds (map f ls) rs
zip-each f step [] [] zip = tt
zip-each f step [] (r ∷ rs) zip = absurd zip
zip-each f step (l ∷ ls) [] zip = absurd zip
zip-each f step (l ∷ ls) (r ∷ rs) zip = (step l r zip.0, zip-each f step ls rs zip.1)

pub going-leaves : GoingKeepsBounds → (k : KeptHub) (link : ℕ) → Leaves k (link_gone k link).1
going-leaves going k link = by (accepts (state_now k) (entries.LinkGone link) && can_enter k)
  where
    by : (b : Bool) → Leaves k (enters_going k link b).1
    by true = record {
      rests = rests-entered (entries.LinkGone link) k;
      timely = λ t. t;
      bounds = λ rs b. zip-changed link (link_after (entries.LinkGone link) (state_now k).now) (λ l r h. going l.rows r.kept h) (state_now k).links rs b;
    }
    by false = leaves-itself k

-- the state at a later moment
later-links : (state : State) (t : ℕ) (rs : List ReasonsOfLink) → EndingKeepsBounds → AllZip HasBounds state.links rs → AllZip HasBounds (after state (entries.Moment t)).links rs
later-links state t rs ending zip = by (ltb state.now t)
  where
    by : (b : Bool) → AllZip HasBounds (cond b (record state { now = t; links = map (link_at_moment t) state.links }) state).links rs
    by true = zip-each (link_at_moment t) (λ l r h. ending l.rows t r.kept h) state.links rs zip
    by false = zip

later-now : (state : State) (t : ℕ) → t ≤ max_moment → state.now ≤ max_moment → (after state (entries.Moment t)).now ≤ max_moment
later-now state t timely before = by (ltb state.now t)
  where
    by : (b : Bool) → (cond b (record state { now = t; links = map (link_at_moment t) state.links }) state).now ≤ max_moment
    by true = timely
    by false = before

pub moment-leaves : EndingKeepsBounds → (k : KeptHub) (t : ℕ) → t ≤ max_moment → Leaves k (moment k t)
moment-leaves ending k t timely = by (accepts (state_now k) (entries.Moment t) && can_enter k)
  where
    by : (b : Bool) → Leaves k (moment_as k t b)
    by true = record {
      rests = rests-timed (entries.Moment t) k t;
      timely = later-now (state_now k) t timely;
      bounds = λ rs b. later-links (state_now k) t rs ending b;
    }
    by false = leaves-itself k

-- ---- a link is heard

changed-at : (place : ℕ) (f : LinkState → LinkState) (ls : List LinkState) (m : LinkState) → slice_get (changed_at place f ls) place ≡ Some m → (l : LinkState) × (slice_get ls place ≡ Some l) × (m ≡ f l)
changed-at place f [] m at = absurd cc
changed-at zero f (l ∷ ls) m at = (l, refl, (let one : f l ≡ m = cc in sym one))
changed-at (suc place) f (l ∷ ls) m at = changed-at place f ls m at

changed-beside : (place : ℕ) (f : LinkState → LinkState) (ls : List LinkState) (i : ℕ) → (i ≡ place → ⊥) → slice_get (changed_at place f ls) i ≡ slice_get ls i
changed-beside place f [] i apart = refl
changed-beside zero f (l ∷ ls) zero apart = absurd (apart refl)
changed-beside zero f (l ∷ ls) (suc i) apart = refl
changed-beside (suc place) f (l ∷ ls) zero apart = refl
changed-beside (suc place) f (l ∷ ls) (suc i) apart = changed-beside place f ls i (λ same. apart (ap (λ (n : ℕ). suc n) same))

changed-many : (place : ℕ) (f : LinkState → LinkState) (ls : List LinkState) → length (changed_at place f ls) ≡ length ls
changed-many place f [] = refl
changed-many zero f (l ∷ ls) = refl
changed-many (suc place) f (l ∷ ls) = ap (λ (n : ℕ). suc n) (changed-many place f ls)

-- bounds of a link that was heard, and of the others
heard-bounds : (link t : ℕ) (h : Hearing) (f : LinkState → LinkState) → ((l : LinkState) → (f l).rows ≡ heard l.rules l.rows t h.rrs) → (ls : List LinkState) (old new : AllReasons) → AllZip HasBounds ls old.links → LowersFor link t h old new → AllZip HasBounds (changed_at link f ls) new.links
heard-bounds link t h f rows ls old new zip lowers =
    get-zip HasBounds (changed_at link f ls) new.links
    (changed-many link f ls ∙ zip-length HasBounds ls old.links zip ∙ sym (length-map old.links asking_of) ∙ ap (λ (a : List LinkAsking). length a) (sym lowers.askings) ∙ length-map new.links asking_of)
    (λ i m at. one i m at (i == link) refl)
  where
    one : (i : ℕ) (m : LinkState) → slice_get (changed_at link f ls) i ≡ Some m → (b : Bool) → (i == link) ≡ b → IfSome (slice_get new.links i) (HasBounds m)
    one i m at true is =
        let same : i ≡ link = same-number i link is in
        let found = changed-at link f ls m (ap (slice_get (changed_at link f ls)) (sym same) ∙ at) in
        subst (λ (n : ℕ). IfSome (slice_get new.links n) (HasBounds m)) (sym same)
        (subst (λ (l : LinkState). IfSome (slice_get new.links link) (HasBounds l)) (sym found.2)
        (subst (λ (r : LinkRows). IfSome (slice_get new.links link) (λ (x : ReasonsOfLink). AreBounds r x.kept)) (sym (rows found.0)) (lowers.bounds found.0.rules found.0.rows (zip-get HasBounds ls old.links zip link found.0 found.1))))
    one i m at false is =
        let apart : i ≡ link → ⊥ = (λ same. (let wrong : true ≡ false = sym (number-itself link) ∙ ap (λ (n : ℕ). n == link) (sym same) ∙ is in absurd cc)) in
        subst (λ (o : Option ReasonsOfLink). IfSome o (HasBounds m)) (sym (lowers.others i is)) (zip-get HasBounds ls old.links zip i m (sym (changed-beside link f ls i apart) ∙ at))

-- bounds that are lowered stay bounds
pub bounds-lowered : (ls : List LinkState) (link t : ℕ) (read : Result Hearing Why) (r new : AllReasons) → Lowers link t read r new → AllZip HasBounds ls r.links → AllZip HasBounds ls new.links
bounds-lowered ls link t (Err why) r new same b = subst (λ (x : AllReasons). AllZip HasBounds ls x.links) (sym same) b
bounds-lowered ls link t (Ok h) r new lowers b = bounds-kept ls r new (ap (λ (a : List LinkAsking). length a) (sym lowers.askings)) lowers.keeps b

-- homes, sessions and the moment, and bounds where they were lowered
pub record LeavesHeard (k : KeptHub) (link : ℕ) (read : Result Hearing Why) (later : KeptHub) : Type 0 where
  pub rests : Rests k later
  pub timely : now later ≡ now k
  pub bounds : (r new : AllReasons) → AllZip HasBounds (state_now k).links r.links → Lowers link (now k) read r new → AllZip HasBounds (state_now later).links new.links

pub hear-leaves : (k : KeptHub) (link : ℕ) (datagram : List ℕ) (read : Result Hearing Why) → fault_as why_not (hearing_of datagram) ≡ read → LeavesHeard k link read (hear k link datagram).1
hear-leaves k link datagram read is = by (hearing_of datagram) is
  where
    stays : LeavesHeard k link read k
    stays = record { rests = rests-itself k; timely = refl; bounds = λ r new b lowers. bounds-lowered (state_now k).links link (now k) read r new lowers b }

    entered : (h : Hearing) → LeavesHeard k link (Ok h) (entered_keeping (entries.Heard link h) k)
    entered h = record {
      rests = rests-entered (entries.Heard link h) k;
      timely = refl;
      bounds = λ r new b lowers. heard-bounds link (now k) h (link_after (entries.Heard link h) (state_now k).now) (λ l. refl) (state_now k).links r new b lowers;
    }

    by_test : (h : Hearing) → Ok h ≡ read → (a b : Bool) → LeavesHeard k link read (enters_hearing k link h a b).1
    by_test h same true true = subst (λ (x : Result Hearing Why). LeavesHeard k link x (entered_keeping (entries.Heard link h) k)) same (entered h)
    by_test h same true false = stays
    by_test h same false b = stays

    by : (x : Result Hearing HearFault) → fault_as why_not x ≡ read → LeavesHeard k link read (hear_as k link x).1
    by (Err fault) same = stays
    by (Ok h) same = by_test h same (accepts (state_now k) (entries.Heard link h)) (can_enter k)

-- lower bounds change nothing that is asked
pub lowered-same : (link t : ℕ) (read : Result Hearing Why) (r new : AllReasons) → Lowers link t read r new → (new.sessions ≡ r.sessions) × (askings_of new ≡ askings_of r)
lowered-same link t (Err why) r new same = (ap (λ (x : AllReasons). x.sessions) same, ap (λ (x : AllReasons). askings_of x) same)
lowered-same link t (Ok hearing) r new lowers = (lowers.sessions, lowers.askings)
