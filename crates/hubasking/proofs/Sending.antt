-- A link is asked.
--     ask-none, ask-some      where there is no such link; where there is
--     still-asked, asked-length, asked-kept      what is kept then
--     link-at, bounds-at, asked-so, asked-not, sent-so      of a link in the homes of a hub
--     front-taken, front-so, rest-so, found-some      what stands in front of a buffer, and after it
use Rattle.std.proofs.Common.{◌≡◌, ℕ, zero, suc, ◌≤◌, Bool, true, false, cond, List, [], ◌∷◌, ◌++◌, take, drop, length, map, Option, Some, None, refl, sym, ap, subst, ◌∙◌, arith}
use Rattle.std.specs.Prelude.{slice_get, option_map, IfSome, ◌==◌}
use Rattle.std.specs.List.{AllZip}
use Rattle.std.proofs.lemmas.List.{length-map}
use Rattle.std.proofs.lemmas.Option.{slice_get-map}
use Rattle.std.proofs.lemmas.Slice.{drop-append-drop}
use Rattle.push_base.specs.Cases.{changed_at}
use Rattle.linkcache.specs.Links.{LinkKept, LinkState}
use Rattle.linkcache.specs.Rows.{LinkRows}
use Rattle.linkask.specs.Asking.{Wanted, next}
use Rattle.linkask.specs.Reasons.{LinkAsking, still_reconfirmed}
use Rattle.linkreasons.specs.AllReasons.{AllReasons, AreBoundsAt, ReasonsOfLink, asking_of, askings_of}
use Rattle.linkreasons.specs.Changing.{asked_on}
use Rattle.history.specs.Kept.{HomesKept, state_of}
use Rattle.history.specs.States.{State}
use Rattle.pushserver.specs.Hubs.{state_now}
use Rattle.pushserver.specs.KeptHubs.{KeptHub}
use Rattle.livesessions.proofs.SessionLists.{same-number}
use Rattle.hubasking.specs.KeptReasons.{AreKept, HasBounds, MatchesLink}
use Rattle.hubasking.specs.LinkAskings.{Askings, ask}
use Rattle.hubasking.proofs.Calls.{matched}
use Rattle.hubasking.proofs.Clearing.{get-zip, zip-get, zip-length}
use Rattle.hubasking.proofs.Refreshing.{changed-length, matched-still, matches}

abbrev ask_by : Option LinkState → State → Askings → ℕ → Option (List ℕ) × Askings
ask_by o state askings link = elim o as (λ _. Option (List ℕ) × Askings) [
  | None ↦ (None, askings)
  | Some l ↦ asked_on l.rows state.now link askings
]

pub ask-none : (state : State) (askings : Askings) (link : ℕ) → slice_get state.links link ≡ None → ask state askings link ≡ (None, askings)
ask-none state askings link none = ap (λ (o : Option LinkState). ask_by o state askings link) none

pub ask-some : (state : State) (askings : Askings) (link : ℕ) (l : LinkState) → slice_get state.links link ≡ Some l → ask state askings link ≡ asked_on l.rows state.now link askings
ask-some state askings link l at = ap (λ (o : Option LinkState). ask_by o state askings link) at

-- the rows that are reconfirmed stay
still-changed : (link : ℕ) (all : Wanted) (ls : List LinkState) (askings : Askings) → AllZip (λ l a. still_reconfirmed l.rows a.reconfirmed ≡ a.reconfirmed) ls askings
    → AllZip (λ l a. still_reconfirmed l.rows a.reconfirmed ≡ a.reconfirmed) ls (changed_at link (λ b. record b { wanted = all }) askings)
still-changed link all [] [] zip = tt
still-changed link all [] (a ∷ askings) zip = absurd zip
still-changed link all (l ∷ ls) [] zip = absurd zip
still-changed zero all (l ∷ ls) (a ∷ askings) zip = (zip.0, zip.1)
still-changed (suc link) all (l ∷ ls) (a ∷ askings) zip = (zip.0, still-changed link all ls askings zip.1)

pub still-asked : (rows : LinkRows) (t link : ℕ) (ls : List LinkState) (askings : Askings) → AllZip (λ l a. still_reconfirmed l.rows a.reconfirmed ≡ a.reconfirmed) ls askings → AllZip (λ l a. still_reconfirmed l.rows a.reconfirmed ≡ a.reconfirmed) ls (asked_on rows t link askings).1
still-asked rows t link ls askings zip = by (slice_get askings link)
  where
    by : (o : Option LinkAsking) → AllZip (λ l a. still_reconfirmed l.rows a.reconfirmed ≡ a.reconfirmed) ls (elim o as (λ _. Option (List ℕ) × Askings) [ None ↦ (None, askings) | Some a ↦ ((next rows t a.wanted).0, changed_at link (λ b. record b { wanted = (next rows t a.wanted).1 }) askings) ]).1
    by None = zip
    by (Some a) = still-changed link (next rows t a.wanted).1 ls askings zip

pub asked-length : (rows : LinkRows) (t link : ℕ) (askings : Askings) → length askings ≡ length (asked_on rows t link askings).1
asked-length rows t link askings = by (slice_get askings link)
  where
    by : (o : Option LinkAsking) → length askings ≡ length (elim o as (λ _. Option (List ℕ) × Askings) [ None ↦ (None, askings) | Some a ↦ ((next rows t a.wanted).0, changed_at link (λ b. record b { wanted = (next rows t a.wanted).1 }) askings) ]).1
    by None = refl
    by (Some a) = changed-length link (λ (b : LinkAsking). record b { wanted = (next rows t a.wanted).1 }) askings

-- what is kept then
pub asked-kept : (k : KeptHub) (old new : AllReasons) (link : ℕ) (l : LinkState) (askings : Askings) → slice_get (state_now k).links link ≡ Some l → AreKept k old → new.sessions ≡ old.sessions → askings_of new ≡ askings
    → length (askings_of old) ≡ length askings → (AllZip (λ m a. still_reconfirmed m.rows a.reconfirmed ≡ a.reconfirmed) (state_now k).links (askings_of old) → AllZip (λ m a. still_reconfirmed m.rows a.reconfirmed ≡ a.reconfirmed) (state_now k).links askings)
    → AreBoundsAt l.rows link new → ((other : ℕ) → (other == link) ≡ false → slice_get new.links other ≡ slice_get old.links other) → AreKept k new
asked-kept k old new link l askings at kept sessions asked many still bounds others = record {
  plain = kept.plain;
  stands = kept.stands;
  timely = kept.timely;
  sessions = sessions ∙ kept.sessions;
  links = matches (state_now k).links new.links bound (subst (λ (a : Askings). AllZip (λ (m : LinkState) (b : LinkAsking). still_reconfirmed m.rows b.reconfirmed ≡ b.reconfirmed) (state_now k).links a) (sym asked) (still (matched-still (state_now k).links old.links kept.links)));
}
  where
    before : AllZip HasBounds (state_now k).links old.links
    before = matched (state_now k).links old.links kept.links

    one : (i : ℕ) (m : LinkState) → slice_get (state_now k).links i ≡ Some m → (b : Bool) → (i == link) ≡ b → AreBoundsAt m.rows i new
    one i m there true is =
        let same : i ≡ link = same-number i link is in
        let found : Some m ≡ Some l = sym there ∙ ap (slice_get (state_now k).links) same ∙ at in
        let alike : m ≡ l = cc in
        subst (λ (p : ℕ × LinkState). AreBoundsAt p.1.rows p.0 new) (λ j. (sym same j, sym alike j)) bounds
    one i m there false is = subst (λ (o : Option ReasonsOfLink). IfSome o (HasBounds m)) (sym (others i is)) (zip-get HasBounds (state_now k).links old.links before i m there)

    bound : AllZip HasBounds (state_now k).links new.links
    bound = get-zip HasBounds (state_now k).links new.links
        (zip-length HasBounds (state_now k).links old.links before ∙ sym (length-map old.links asking_of) ∙ many ∙ ap (λ (a : Askings). length a) (sym asked) ∙ length-map new.links asking_of)
        (λ i m there. one i m there (i == link) refl)

pub front-taken : (octets rest : List ℕ) → take (length octets) (octets ++ rest) ≡ octets
front-taken [] rest = refl
front-taken (o ∷ os) rest = ap (λ (l : List ℕ). o ∷ l) (front-taken os rest)

-- a link in the homes of a hub
pub link-at : (k : KeptHub) (homes : HomesKept) (link : ℕ) (cache : LinkKept) → state_of homes ≡ record (state_now k) { now = 0 } → slice_get homes.links link ≡ Some cache → slice_get (state_now k).links link ≡ Some cache.state
link-at k homes link cache is at = ap (λ (s : State). slice_get s.links link) (sym is) ∙ slice_get-map (λ (l : LinkKept). l.state) homes.links link ∙ ap (option_map (λ (l : LinkKept). l.state)) at

pub bounds-at : (k : KeptHub) (r : AllReasons) (homes : HomesKept) (link : ℕ) (cache : LinkKept) → AreKept k r → state_of homes ≡ record (state_now k) { now = 0 } → slice_get homes.links link ≡ Some cache → AreBoundsAt cache.state.rows link r
bounds-at k r homes link cache kept is at = zip-get HasBounds (state_now k).links r.links (matched (state_now k).links r.links kept.links) link cache.state (link-at k homes link cache is at)

-- behind an answer
pub asked-so : (k : KeptHub) (old new : AllReasons) (homes : HomesKept) (link t : ℕ) (cache : LinkKept) (sent : Option (List ℕ)) → AreKept k old → state_of homes ≡ record (state_now k) { now = 0 } → slice_get homes.links link ≡ Some cache → new.sessions ≡ old.sessions
    → (sent, askings_of new) ≡ asked_on cache.state.rows t link (askings_of old) → AreBoundsAt cache.state.rows link new → ((other : ℕ) → (other == link) ≡ false → slice_get new.links other ≡ slice_get old.links other) → AreKept k new
asked-so k old new homes link t cache sent kept is at sessions asked bounds others =
    asked-kept k old new link cache.state (asked_on cache.state.rows t link (askings_of old)).1 (link-at k homes link cache is at) kept sessions (ap (λ (a : Option (List ℕ) × Askings). a.1) asked)
    (asked-length cache.state.rows t link (askings_of old)) (still-asked cache.state.rows t link (state_now k).links (askings_of old)) bounds others

-- where memory ran out
pub asked-not : (k : KeptHub) (old new : AllReasons) (homes : HomesKept) (link : ℕ) (cache : LinkKept) → AreKept k old → state_of homes ≡ record (state_now k) { now = 0 } → slice_get homes.links link ≡ Some cache → new.sessions ≡ old.sessions
    → askings_of new ≡ askings_of old → AreBoundsAt cache.state.rows link new → ((other : ℕ) → (other == link) ≡ false → slice_get new.links other ≡ slice_get old.links other) → AreKept k new
asked-not k old new homes link cache kept is at sessions asked bounds others = asked-kept k old new link cache.state (askings_of old) (link-at k homes link cache is at) kept sessions asked refl (λ still. still) bounds others

-- what is sent
pub sent-so : (k : KeptHub) (old new : AllReasons) (homes : HomesKept) (link t : ℕ) (cache : LinkKept) (sent : Option (List ℕ)) → state_of homes ≡ record (state_now k) { now = 0 } → slice_get homes.links link ≡ Some cache → t ≡ (state_now k).now
    → (sent, askings_of new) ≡ asked_on cache.state.rows t link (askings_of old) → (sent, askings_of new) ≡ ask (state_now k) (askings_of old) link
sent-so k old new homes link t cache sent is at now_is asked = asked ∙ ap (λ (n : ℕ). asked_on cache.state.rows n link (askings_of old)) now_is ∙ sym (ask-some (state_now k) (askings_of old) link cache.state (link-at k homes link cache is at))

pub front-so : (n : ℕ) (octets items buf rest : List ℕ) → n ≡ length octets → octets ≡ items → buf ≡ octets ++ rest → take n buf ≡ items
front-so n octets items buf rest many same is = (λ i. take (many i) (is i)) ∙ front-taken octets rest ∙ same

-- after it the buffer stays as it was
pub rest-so : (n : ℕ) (octets before after : List ℕ) → n ≡ length octets → after ≡ octets ++ drop (length octets) before → drop n after ≡ drop n before
rest-so n octets before after many is = ap (drop n) is ∙ drop-append-drop (length octets) before octets n (omega (arith, many)) refl

-- a datagram was found
pub found-some : {X : Type 0} (found : Bool) (octets : List ℕ) (x : X) (z : Option (List ℕ) × X) → found ≡ true → (cond found (Some octets) None, x) ≡ z → (Some octets, x) ≡ z
found-some true octets x z is asked = asked
found-some false octets x z is asked = absurd cc
