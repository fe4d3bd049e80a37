-- Which links a call touches: of all others no row that was reconfirmed was heard since, as before it.
--     update-still, end-still, hear-still, going-still, moment-still      behind these calls
--     Refreshed, refresh-none, refresh-one      where none is looked at, and where one is
--     stays-begin, stays-turn, stays-end, no-end, later-end      links none of whose rows ends by a moment
use Rattle.std.proofs.Common.{◌≡◌, ◌⊎◌, inl, inr, ℕ, zero, suc, ◌+◌, ◌≤◌, ◌<◌, Bool, true, false, cond, ltb, ◌&&◌, List, [], ◌∷◌, length, map, min, Option, Some, None, Result, Ok, Err, refl, sym, ap, subst, ◌∙◌, arith}
use Rattle.std.specs.Prelude.{fold, slice_get, nat_le, nat_lt}
use Rattle.std.specs.List.{AllZip, AllByRecursion}
use Rattle.std.proofs.lemmas.Bool.Decides.{nat_tests}
use Rattle.std.proofs.lemmas.List.{length-map}
use Rattle.push_base.specs.Cases.{changed_at, fault_as}
use Rattle.rrset.specs.declared.record.Hearing.{Hearing}
use Rattle.rrset.specs.declared.record.Key.{Key}
use Rattle.dnswire.specs.Reading.{hearing_of}
use Rattle.dnswire.specs.declared.message.HearFault.{HearFault}
use Rattle.dnswire.specs.declared.message.Update.{Update}
use Rattle.linkcache.specs.Links.{LinkState}
use Rattle.linkcache.specs.Rows.{LinkRows, at_moment, earlier, next_end}
use Rattle.linkcache.specs.declared.row.HeardRow.{HeardRow}
use Rattle.linkask.specs.Reasons.{LinkAsking, Reconfirmed, still_reconfirmed}
use Rattle.linkreasons.specs.AllReasons.{AllReasons, asking_of, askings_of, only_from, still_doubted}
use Rattle.linkreasons.specs.Laws.{FewerThenFewer}
use Rattle.history.specs.States.{State, accepts, after, link_after, link_at_moment, verdict}
use Rattle.history.specs.declared.entry.Entry.TheVariants as entries
use Rattle.pushserver.specs.Hubs.{can_enter, disconnect, hear, link_gone, moment, state_now, update, why_not}
use Rattle.pushserver.specs.KeptHubs.{KeptHub, Forgets}
use Rattle.pushserver.specs.declared.given.Why.{Why}
use Rattle.pushserver.proofs.hub_steps.Cases.{enters_going, enters_hearing, enters_update, hear_as, moment_as, update_as}
use Rattle.hubasking.specs.Following.{AreStill, EndsBut, HearsBut, LeadFrom, RefreshesFound, StaysAt, StillBeside, StillBut, doubts_in}
use Rattle.hubasking.specs.KeptReasons.{AreKept, HasBounds, Lowers, MatchesLink}
use Rattle.hubasking.specs.declared.following.Touched.{Touched}
use Rattle.hubasking.specs.declared.following.Touched.TheVariants.{Nothing, Link, Links}
use Rattle.hubasking.proofs.Calls.{lowered-same, same-links}
use Rattle.hubasking.proofs.Clearing.{bounds-length}
use Rattle.hubasking.proofs.Ending.{EndsWith}
use Rattle.hubasking.proofs.Leading.{Sessions, lead-itself}
use Rattle.hubasking.proofs.Refreshing.{refreshed-next}
use Rattle.hubasking.proofs.StillRows.{beside-changed, beside-here, beside-past, beside-to, doubts-at, doubts-only, from-pass, kept-still, match-still, pass-hearing, still-beside, to-pass}

-- ---- behind calls

-- an update changes no link
update-links : (k : KeptHub) (message : List ℕ) → (state_now (update k message).1).links ≡ (state_now k).links
update-links k message = by (verdict (state_now k) message)
  where
    by_room : (u : Update) (b : Bool) → (state_now (enters_update k u b).1).links ≡ (state_now k).links
    by_room u true = same-links (state_now k) u
    by_room u false = refl

    by : (r : Result Update ℕ) → (state_now (update_as k r).1).links ≡ (state_now k).links
    by (Err code) = refl
    by (Ok u) = by_room u (can_enter k)

pub update-still : (k later : KeptHub) (r : AllReasons) (message : List ℕ) → AreKept k r → Forgets (update k message).1 later → AreStill (state_now later).links (doubts_in (askings_of r))
update-still k later r message kept forgets =
    subst (λ (h : KeptHub). AreStill (state_now h).links (doubts_in (askings_of r))) (sym forgets.is)
    (subst (λ (ls : List LinkState). AreStill ls (doubts_in (askings_of r))) (sym (update-links k message)) (kept-still (state_now k).links r.links kept.links))

-- nor does a session that goes
pub end-still : (k later : KeptHub) (number : ℕ) (r new : AllReasons) → AreKept k r → later ≡ disconnect k number → EndsWith number r new → AreStill (state_now later).links (doubts_in (askings_of new))
end-still k later number r new kept is ends =
    subst (λ (h : KeptHub). AreStill (state_now h).links (doubts_in (askings_of new))) (sym is)
    (subst (λ (ds : List Reconfirmed). AreStill (state_now k).links ds) (sym (ap doubts_in ends.askings ∙ doubts-only 0 new.sessions (askings_of r))) (kept-still (state_now k).links r.links kept.links))

-- a hearing changes its own link, and nothing that was reconfirmed where it says nothing of it
module _ (k : KeptHub) (link : ℕ) (r : AllReasons) (kept : AreKept k r) where
  abbrev before : List Reconfirmed
  before = doubts_in (askings_of r)

  before-still : AreStill (state_now k).links before
  before-still = kept-still (state_now k).links r.links kept.links

  beside : (x : Result Hearing HearFault) → StillBeside link (state_now (hear_as k link x).1).links before
  beside (Err fault) = still-beside link (state_now k).links before before-still
  beside (Ok h) = by (accepts (state_now k) (entries.Heard link h)) (can_enter k)
    where
      by : (a b : Bool) → StillBeside link (state_now (enters_hearing k link h a b).1).links before
      by true true = beside-changed link (link_after (entries.Heard link h) (state_now k).now) (state_now k).links before before-still
      by true false = still-beside link (state_now k).links before before-still
      by false b = still-beside link (state_now k).links before before-still

  unnamed : (x : Result Hearing HearFault) → HearsBut Nothing link (fault_as why_not x) r → AreStill (state_now (hear_as k link x).1).links before
  unnamed (Err fault) none = before-still
  unnamed (Ok h) none = by (accepts (state_now k) (entries.Heard link h)) (can_enter k)
    where
      by : (a b : Bool) → AreStill (state_now (enters_hearing k link h a b).1).links before
      by true true =
          from-pass (changed_at link (link_after (entries.Heard link h) (state_now k).now) (state_now k).links) before
          (pass-hearing link (link_after (entries.Heard link h) (state_now k).now) (state_now k).now h.rrs (λ l. refl) (state_now k).links r.links none (to-pass (state_now k).links before before-still))
      by true false = before-still
      by false b = before-still

  touched-still : (datagram : List ℕ) (touched : Touched) → HearsBut touched link (fault_as why_not (hearing_of datagram)) r → StillBut touched (state_now (hear k link datagram).1).links before
  touched-still datagram Nothing none = unnamed (hearing_of datagram) none
  touched-still datagram (Link other) same = subst (λ (n : ℕ). StillBeside n (state_now (hear k link datagram).1).links before) (sym same) (beside (hearing_of datagram))
  touched-still datagram Links all = absurd all

pub hear-still : (k later : KeptHub) (r new : AllReasons) (link t : ℕ) (datagram : List ℕ) (read : Result Hearing Why) (touched : Touched) → AreKept k r → Forgets (hear k link datagram).1 later → fault_as why_not (hearing_of datagram) ≡ read
    → HearsBut touched link read r → Lowers link t read r new → StillBut touched (state_now later).links (doubts_in (askings_of new))
hear-still k later r new link t datagram read touched kept forgets is hears lowers =
    subst (λ (h : KeptHub). StillBut touched (state_now h).links (doubts_in (askings_of new))) (sym forgets.is)
    (subst (λ (asks : List LinkAsking). StillBut touched (state_now (hear k link datagram).1).links (doubts_in asks)) (sym (lowered-same link t read r new lowers).1)
    (touched-still k link r kept datagram touched (subst (λ (x : Result Hearing Why). HearsBut touched link x r) (sym is) hears)))

-- as one that goes does
gone-beside : (k : KeptHub) (link : ℕ) (ds : List Reconfirmed) → AreStill (state_now k).links ds → StillBeside link (state_now (link_gone k link).1).links ds
gone-beside k link ds still = by (accepts (state_now k) (entries.LinkGone link) && can_enter k)
  where
    by : (b : Bool) → StillBeside link (state_now (enters_going k link b).1).links ds
    by true = beside-changed link (link_after (entries.LinkGone link) (state_now k).now) (state_now k).links ds still
    by false = still-beside link (state_now k).links ds still

pub going-still : (k later : KeptHub) (r : AllReasons) (link : ℕ) → AreKept k r → Forgets (link_gone k link).1 later → StillBeside link (state_now later).links (doubts_in (askings_of r))
going-still k later r link kept forgets =
    subst (λ (h : KeptHub). StillBeside link (state_now h).links (doubts_in (askings_of r))) (sym forgets.is) (gone-beside k link (doubts_in (askings_of r)) (kept-still (state_now k).links r.links kept.links))

-- a moment changes links of which a row ends by it
ended-still : (t : ℕ) (ls : List LinkState) (ds : List Reconfirmed) → AllByRecursion (λ (l : LinkState). at_moment l.rows t ≡ l.rows) ls → AreStill ls ds → AreStill (map (link_at_moment t) ls) ds
ended-still t [] [] stay still = tt
ended-still t [] (d ∷ ds) stay still = absurd still
ended-still t (l ∷ ls) [] stay still = absurd still
ended-still t (l ∷ ls) (d ∷ ds) stay still = (subst (λ (rows : LinkRows). still_reconfirmed rows d ≡ d) (sym stay.0) still.0, ended-still t ls ds stay.1 still.1)

moment-links : (k : KeptHub) (t : ℕ) (ds : List Reconfirmed) → AllByRecursion (λ (l : LinkState). at_moment l.rows t ≡ l.rows) (state_now k).links → AreStill (state_now k).links ds → AreStill (state_now (moment k t)).links ds
moment-links k t ds stay still = by (accepts (state_now k) (entries.Moment t) && can_enter k)
  where
    later : (b : Bool) → AreStill (cond b (record (state_now k) { now = t; links = map (link_at_moment t) (state_now k).links }) (state_now k)).links ds
    later true = ended-still t (state_now k).links ds stay still
    later false = still

    by : (b : Bool) → AreStill (state_now (moment_as k t b)).links ds
    by true = later (ltb (state_now k).now t)
    by false = still

pub moment-still : (k later : KeptHub) (r : AllReasons) (t : ℕ) (touched : Touched) → AreKept k r → Forgets (moment k t) later → EndsBut touched t (state_now k).links → StillBut touched (state_now later).links (doubts_in (askings_of r))
moment-still k later r t Nothing kept forgets ends =
    subst (λ (h : KeptHub). AreStill (state_now h).links (doubts_in (askings_of r))) (sym forgets.is) (moment-links k t (doubts_in (askings_of r)) ends (kept-still (state_now k).links r.links kept.links))
moment-still k later r t (Link link) kept forgets ends = absurd ends
moment-still k later r t Links kept forgets ends = tt

-- ---- links are looked at

pub record Refreshed (links : List LinkState) (old new : AllReasons) : Type 0 where
  pub sessions : new.sessions ≡ old.sessions
  pub leads : LeadFrom 0 old.sessions links (askings_of old) (askings_of new)
  pub matched : AllZip MatchesLink links new.links

pub refresh-none : (links : List LinkState) (old : AllReasons) → AllZip HasBounds links old.links → AreStill links (doubts_in (askings_of old)) → Refreshed links old old
refresh-none links old bounds still = record {
  sessions = refl;
  leads = lead-itself 0 old.sessions links (askings_of old) (bounds-length links old.links bounds);
  matched = match-still links old.links bounds still;
}

pub refresh-one : FewerThenFewer → (links : List LinkState) (old new : AllReasons) (link : ℕ) → AllZip HasBounds links old.links → StillBeside link links (doubts_in (askings_of old)) → RefreshesFound link (slice_get links link) old new → Refreshed links old new
refresh-one fewer links old new link bounds beside step = by (slice_get links link) refl step
  where
    long : length links ≡ length (doubts_in (askings_of old))
    long = bounds-length links old.links bounds ∙ sym (length-map (askings_of old) (λ (a : LinkAsking). a.reconfirmed))

    by : (o : Option LinkState) → slice_get links link ≡ o → RefreshesFound link o old new → Refreshed links old new
    by None at same = subst (λ (r : AllReasons). Refreshed links old r) (sym same) (refresh-none links old bounds (beside-past link links (doubts_in (askings_of old)) at long beside))
    by (Some l) at one =
        let next = refreshed-next fewer links old new link l at bounds (beside-to link links (askings_of old) beside) one in
        let doubts : doubts_in (askings_of new) ≡ changed_at link (still_reconfirmed l.rows) (doubts_in (askings_of old)) =
        ap doubts_in one.askings ∙ doubts-only 0 new.sessions (changed_at link (still_doubted l.rows) (askings_of old)) ∙ doubts-at link (still_doubted l.rows) (still_reconfirmed l.rows) (λ a. refl) (askings_of old) in
        record {
          sessions = next.sessions;
          leads = next.leads;
          matched = match-still links new.links next.bounds (subst (λ (ds : List Reconfirmed). AreStill links ds) (sym doubts) (beside-here link l links (doubts_in (askings_of old)) at long beside));
        }

-- ---- rows that end by a moment

-- none of the first links
abbrev pub StayTo : ℕ → ℕ → List LinkState → Type 0
StayTo at place links = (i : ℕ) → i < place → StaysAt at (slice_get links i)

pub stays-begin : (at : ℕ) (links : List LinkState) → StayTo at 0 links
stays-begin at links i less = absurd (omega (arith, less))

pub stays-turn : (at place : ℕ) (links : List LinkState) → StayTo at place links → StaysAt at (slice_get links place) → StayTo at (place + 1) links
stays-turn at place links stay here i less = by (nat_lt i place) refl
  where
    by : (b : Bool) → nat_lt i place ≡ b → StaysAt at (slice_get links i)
    by true is = stay i (let low : i < place = grind (arith, nat_tests) in low)
    by false is = let same : place ≡ i = (let high : place ≤ i = grind (arith, nat_tests) in omega (arith, high, less)) in subst (λ (n : ℕ). StaysAt at (slice_get links n)) same here

pub stays-end : (at place : ℕ) (links : List LinkState) → length links ≤ place → StayTo at place links → AllByRecursion (λ (l : LinkState). at_moment l.rows at ≡ l.rows) links
stays-end at place [] long stay = tt
stays-end at zero (l ∷ ls) long stay = absurd (omega (arith, long))
stays-end at (suc place) (l ∷ ls) long stay = (stay 0 (omega arith), stays-end at place ls (omega (arith, long)) (λ i less. stay (suc i) (omega (arith, less))))

-- a moment before the least end
stay-all : (at : ℕ) (rows : LinkRows) → AllByRecursion (λ (row : Key × HeardRow). at < row.1.ends) rows → at_moment rows at ≡ rows
stay-all at [] all = refl
stay-all at (row ∷ rows) all =
    let ends : nat_lt at row.1.ends ≡ true = (let low : at < row.1.ends = all.0 in grind (arith, nat_tests)) in
    ap (λ (b : Bool). cond b (row ∷ at_moment rows at) (at_moment rows at)) ends ∙ ap (λ (l : LinkRows). row ∷ l) (stay-all at rows all.1)

-- nothing, or later than a moment
abbrev After : ℕ → Option ℕ → Type 0
After at None = Unit {0}
After at (Some moment) = at < moment

both-after : (at : ℕ) (least : Option ℕ) (row : Key × HeardRow) → After at (earlier least row) → After at least × (at < row.1.ends)
both-after at None row after = (tt, after)
both-after at (Some moment) row after = (omega (arith, after), omega (arith, after))

all-after : (at : ℕ) (least : Option ℕ) (rows : LinkRows) → After at (fold earlier least rows) → After at least × AllByRecursion (λ (row : Key × HeardRow). at < row.1.ends) rows
all-after at least [] after = (after, tt)
all-after at least (row ∷ rows) after =
    let rest = all-after at (earlier least row) rows after in
    let both = both-after at least row rest.0 in (both.0, (both.1, rest.1))

pub no-end : (at : ℕ) (rows : LinkRows) → next_end rows ≡ None → at_moment rows at ≡ rows
no-end at rows none = stay-all at rows (all-after at None rows (subst (After at) (sym none) tt)).1

less-than : (a b : ℕ) → nat_le a b ≡ false → b < a
less-than a b later = grind (arith, nat_tests)

pub later-end : (at end : ℕ) (rows : LinkRows) → next_end rows ≡ Some end → nat_le end at ≡ false → at_moment rows at ≡ rows
later-end at end rows least later = stay-all at rows (all-after at None rows (subst (After at) (sym least) (less-than end at later))).1
