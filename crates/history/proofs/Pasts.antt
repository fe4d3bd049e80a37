-- A past goes on by an entry, and forgets its oldest ones.
use Rattle.std.proofs.Common.{◌≡◌, ℕ, zero, suc, ◌+◌, ◌-◌, ◌<◌, ◌≤◌, Bool, true, false, cond, leb, ltb, List, [], ◌∷◌, ◌++◌, length, take, drop, map, fold, sum_by, Option, Some, None, Result, Ok, Err, refl, sym, ap, subst, ◌∙◌, arith, leb-true, ltb-true}
use Rattle.std.specs.List.{AllByRecursion}
use Rattle.std.proofs.lemmas.List.{length-append, length-drop, take_all, take-append-drop, drop-append-le}
use Rattle.std.proofs.lemmas.List.Sums.{fold-append}
use Rattle.push_base.specs.Limits.{max_moment, max_number}
use Rattle.push_base.specs.Cases.{◌>>=◌}
use Rattle.dnsname.specs.Names.{Labels}
use Rattle.dnswire.specs.declared.message.Update.{Update}
use Rattle.rrset.specs.RecordSet.{RecordSet}
use Rattle.rrset.specs.Tables.{counted}
use Rattle.zoneupdate.specs.Updates.{judged}
use Rattle.zoneupdate.specs.Zones.{ZoneState}
use Rattle.zoneupdate.proofs.Filters.{and-left, and-right}
use Rattle.history.specs.AtHome.{AreAtHome}
use Rattle.history.specs.Entries.{Concern, a_zone, a_link, all_links, concern, Group, as_change, as_hearing, as_moment, group}
use Rattle.history.specs.HeldPlans.{IsInTime, IsSoundPast, IsTimely}
use Rattle.history.specs.Kept.{Past, Appends, forgotten, longer, point_of, state_now}
use Rattle.history.specs.States.{State, after, after_by, entry_size, home_names, journal_has_room, link_at_moment, state_at, with_rows, zone_asked, zone_of}
use Rattle.history.specs.Totals.{and_one, and_one_of}
use Rattle.history.specs.declared.entry.Entry.{Entry}
use Rattle.history.specs.declared.entry.Entry.TheVariants as entries
use Rattle.history.specs.declared.entry.Totals.{Totals}
use Rattle.history.proofs.LongerHistory.{state_at-append}
use Rattle.history.proofs.StatesAtHome.{home-after}
use Rattle.history.proofs.UpdateSteps.{asked_step, zone_step, updated-steps}

whole : {X : Type 0} (xs : List X) → take (length xs) xs ≡ xs
whole xs = take_all (length xs) xs (omega arith)

pub state_now-longer : (past : Past) (entry : Entry) → state_now (longer entry past) ≡ after (state_now past) entry
state_now-longer past entry =
    ap (fold after past.start) (whole (past.history ++ entry ∷ [])) ∙ fold-append after past.start past.history (entry ∷ []) ∙ ap (λ h. after (fold after past.start h) entry) (sym (whole past.history))

-- what is forgotten is in the start
pub state_now-forgotten : (count : ℕ) (past : Past) → state_now (forgotten count past) ≡ state_now past
state_now-forgotten count past =
    ap (fold after (fold after past.start (take count past.history))) (whole (drop count past.history))
    ∙ sym (fold-append after past.start (take count past.history) (drop count past.history))
    ∙ ap (fold after past.start) (take-append-drop count past.history ∙ sym (whole past.history))

pub point_of-forgotten : (count : ℕ) (past : Past) → count ≤ length past.history → point_of (forgotten count past) ≡ point_of past
point_of-forgotten count past within = omega (arith, within, length-drop count past.history)

pub point_of-longer : (past : Past) (entry : Entry) → point_of (longer entry past) ≡ point_of past + 1
point_of-longer past entry = omega (arith, length-append past.history (entry ∷ []))

pub state-appended : (keep : ℕ) (old : Past) (entry : Entry) (new : Past) → Appends keep old entry new → state_now new ≡ after (state_now old) entry
state-appended keep old entry new is = ap state_now is.is ∙ state_now-forgotten is.count (longer entry old) ∙ state_now-longer old entry

pub point-appended : (keep : ℕ) (old : Past) (entry : Entry) (new : Past) → Appends keep old entry new → keep ≤ point_of old → point_of new ≡ point_of old + 1
point-appended keep old entry new is within =
    ap point_of is.is ∙ point_of-forgotten is.count (longer entry old) (omega (arith, is.within, within, length-append old.history (entry ∷ []))) ∙ point_of-longer old entry

-- ---- a state after entries

pub all-take : {X : Type 0} (P : X → Type 0) (xs : List X) (n : ℕ) → AllByRecursion P xs → AllByRecursion P (take n xs)
all-take P xs zero h = tt
all-take P [] (suc n) h = tt
all-take P (x ∷ xs) (suc n) h = (h.0, all-take P xs n h.1)

all-drop : {X : Type 0} (P : X → Type 0) (xs : List X) (n : ℕ) → AllByRecursion P xs → AllByRecursion P (drop n xs)
all-drop P xs zero h = h
all-drop P [] (suc n) h = tt
all-drop P (x ∷ xs) (suc n) h = all-drop P xs n h.1

all-last : {X : Type 0} (P : X → Type 0) (xs : List X) (x : X) → AllByRecursion P xs → P x → AllByRecursion P (xs ++ x ∷ [])
all-last P [] x h last = (last, tt)
all-last P (y ∷ xs) x h last = (h.0, all-last P xs x h.1 last)

pub home-since : (state : State) (entries : List Entry) → AreAtHome state → AreAtHome (fold after state entries)
home-since state [] home = home
home-since state (e ∷ es) home = home-since (after state e) es (home-after state home e)

-- an update leaves the moment
now-updated : (state : State) (update : Update) → (after state (entries.Update update)).now ≡ state.now
now-updated state update = ap (λ r. (made r).now) (updated-steps state update) ∙ asked (zone_asked update.zones)
  where
    made : Result State ℕ → State
    made r = elim r as (λ _. State) [ Err code ↦ state | Ok later ↦ later ]

    judged_so : (apex : Labels) (r : Result RecordSet ℕ) → (made (r >>= λ rows. Ok (with_rows state apex rows))).now ≡ state.now
    judged_so apex (Err code) = refl
    judged_so apex (Ok rows) = refl

    zone : (o : Option ZoneState) → (made (zone_step state update o)).now ≡ state.now
    zone None = refl
    zone (Some z) = judged_so z.apex (judged (home_names state) z update)

    asked : (r : Result Labels ℕ) → (made (asked_step state update r)).now ≡ state.now
    asked (Err code) = refl
    asked (Ok apex) = zone (zone_of state apex)

now-by : (entry : Entry) (state : State) (homes : Concern) → IsInTime homes → state.now ≤ max_moment → (after_by entry state homes).now ≤ max_moment
now-by entry state (a_zone update) timely h = subst (λ n. n ≤ max_moment) (sym (now-updated state update)) h
now-by entry state (a_link link) timely h = h
now-by entry state (all_links t) timely h = by (ltb state.now t)
  where
    by : (b : Bool) → (cond b (record state { now = t; links = map (link_at_moment t) state.links }) state).now ≤ max_moment
    by true = timely
    by false = h

pub now-after : (state : State) (entry : Entry) → IsTimely entry → state.now ≤ max_moment → (after state entry).now ≤ max_moment
now-after state entry timely h = now-by entry state (concern entry) timely h

pub now-since : (state : State) (entries : List Entry) → AllByRecursion IsTimely entries → state.now ≤ max_moment → (fold after state entries).now ≤ max_moment
now-since state [] timely h = h
now-since state (e ∷ es) timely h = now-since (after state e) es timely.1 (now-after state e timely.0 h)

-- ---- an entry is made, and the oldest are forgotten

counts-more : (entry : Entry) (counts : Totals) → (and_one entry counts).changes + (and_one entry counts).heard + (and_one entry counts).moments ≡ counts.changes + counts.heard + counts.moments + 1
counts-more entry counts = by (group entry)
  where
    by : (g : Group) → (and_one_of g counts).changes + (and_one_of g counts).heard + (and_one_of g counts).moments ≡ counts.changes + counts.heard + counts.moments + 1
    by as_change = omega arith
    by as_hearing = omega arith
    by as_moment = omega arith

-- what the room says
pub room-parts : (history : List Entry) (size : ℕ) → journal_has_room history size ≡ true → (length history < 65536) × (sum_by entry_size history + size ≤ 67108864)
room-parts history size room = (
  ltb-true (length history) 65536 (and-left (ltb (length history) 65536) (leb (sum_by entry_size history + size) 67108864) room),
  leb-true (sum_by entry_size history + size) 67108864 (and-right (ltb (length history) 65536) (leb (sum_by entry_size history + size) 67108864) room),
)

sum-last : (history : List Entry) (entry : Entry) → sum_by entry_size (history ++ entry ∷ []) ≡ sum_by entry_size history + entry_size entry
sum-last history entry = fold-append (λ a e. a + entry_size e) 0 history (entry ∷ [])

pub sound-appended : (past : Past) (octets now count : ℕ) (entry : Entry) → IsSoundPast past octets → IsTimely entry → point_of past < max_number → count ≤ length past.history → journal_has_room (drop count past.history) (entry_size entry) ≡ true
    → now ≡ sum_by entry_size (drop count (past.history ++ entry ∷ [])) → IsSoundPast (forgotten count (longer entry past)) now
sound-appended past octets now count entry is timely last within room size =
    let parts = room-parts (drop count past.history) (entry_size entry) room in
    let behind : drop count (past.history ++ entry ∷ []) ≡ drop count past.history ++ entry ∷ [] = drop-append-le count past.history (entry ∷ []) within in
    let all = all-last IsTimely past.history entry is.timely timely in
    record {
      start = home-since past.start (take count (past.history ++ entry ∷ [])) is.start;
      begun = now-since past.start (take count (past.history ++ entry ∷ [])) (all-take IsTimely (past.history ++ entry ∷ []) count all) is.begun;
      timely = all-drop IsTimely (past.history ++ entry ∷ []) count all;
      size = size;
      groups = counts-more entry past.counts ∙ ap (λ n. n + 1) is.groups ∙ sym (point-later past entry count within);
      last = omega (arith, last, point-later past entry count within);
      few = omega (arith, parts.0, ap length behind, length-append (drop count past.history) (entry ∷ []));
      within = omega (arith, parts.1, size, ap (sum_by entry_size) behind, sum-last (drop count past.history) entry);
    }
  where
    point-later : (past : Past) (entry : Entry) (count : ℕ) → count ≤ length past.history → point_of (forgotten count (longer entry past)) ≡ point_of past + 1
    point-later past entry count within = point_of-forgotten count (longer entry past) (omega (arith, within, length-append past.history (entry ∷ []))) ∙ point_of-longer past entry

-- what is kept then is such a past
pub made-past : (past : Past) (entry : Entry) (count : ℕ) (start : State) (items : List Entry) (counts : Totals) → count ≤ length past.history → start ≡ state_at past.start past.history count → items ≡ drop count (past.history ++ entry ∷ []) → counts ≡ and_one entry past.counts
    → ◌≡◌ {A = Past} (record { start = start; number = past.number + count; history = items; counts = counts }) (forgotten count (longer entry past))
made-past past entry count start items counts within start_is items_is counts_is =
    λ i. record { start = (start_is ∙ sym (state_at-append past.start past.history (entry ∷ []) count within)) i; number = past.number + count; history = items_is i; counts = counts_is i }

-- a size that has room is no greater than the greatest number
pub size-is : (history : List Entry) (size n : ℕ) → size ≡ counted n → journal_has_room history n ≡ true → size ≡ n
size-is history size n is room = let parts = room-parts history n room in omega (arith, is, parts.1)

-- the octets that are left
pub octets-left : (history all : List Entry) (entry : Entry) (octets size forgotten left : ℕ) → octets ≡ sum_by entry_size history → size ≡ entry_size entry → all ≡ history ++ entry ∷ [] → forgotten + left ≡ sum_by entry_size all → octets + size - forgotten ≡ left
octets-left history all entry octets size forgotten left octets_is size_is all_is sum = omega (arith, octets_is, size_is, sum, ap (sum_by entry_size) all_is, sum-last history entry)
