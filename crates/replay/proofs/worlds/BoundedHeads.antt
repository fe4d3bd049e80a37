-- The state with which a script starts is within the bounds.
--     bounded-script      the law
use Rattle.std.proofs.Common.{◌≡◌, ℕ, ◌+◌, ◌≤◌, ◌<◌, Bool, true, false, cond, not, ◌&&◌, List, [], ◌∷◌, ◌++◌, filter, fold, length, Option, Some, None, Result, Ok, Err, nat_le, refl, sym, ◌∙◌, ap, subst, arith, length-append, append-nil}
use Rattle.std.specs.Prelude.{is_none, map, nat_lt, position, unwrap_or}
use Rattle.std.specs.List.{AllByRecursion}
use Rattle.std.specs.Str.{bytes_eq}
use Rattle.std.proofs.lemmas.List.{length-map, map-append}
use Rattle.std.proofs.lemmas.Bool.Decides.{nat_tests}
use Rattle.std.proofs.lemmas.List.Elements.{filter-append}
use Rattle.dnsname.specs.Names.{Labels, octets}
use Rattle.rrset.proofs.Places.{all_filter}
use Rattle.rrset.proofs.Sets.{both_true}
use Rattle.reversemap.specs.BothKinds.{IsApart}
use Rattle.coalesce.proofs.ReadBack.{each-append}
use Rattle.pushserver.proofs.session_steps.Lists.{each-both}
use Rattle.zoneupdate.specs.Zones.{ZoneState, new_zone}
use Rattle.history.specs.Homes.{NamedHome, clashes, home_fault, same_kind}
use Rattle.history.specs.declared.entry.HomeKind.TheVariants as of_home
use Rattle.history.proofs.Distinct.{all-map}
use Rattle.history.proofs.Positions.{map-changed_at}
use Rattle.history.proofs.Starts.{reverse-apart}
use Rattle.history.proofs.Together.{IsAdded, IsFit, added-one}
use Rattle.history.specs.States.{LinkState, with_reverse}
use Rattle.history.specs.declared.entry.HomeFault.{HomeFault}
use Rattle.history.specs.declared.entry.HomeFault.TheVariants.{Many, Long}
use Rattle.scripts.specs.Lines.{Word, HeadLine, timers, zone, link, reverse, ScriptLine, silent, head_line, joining, hub_event, link_event, client_call, client_passing, client_event, session_event}
use Rattle.scripts.specs.Scripts.{Known, nothing_known, is_among, may_head, may_follow, known_in_head, with_client, in_events, fits, allowed, with_line, lines_from, lines_read, client_words, script_of}
use Rattle.scripts.specs.Heads.{Head, empty_head, reversed_at, with_head, with_head_line}
use Rattle.scripts.proofs.lines.ChangedPlaces.{length-changed, changed-each, changed-with}
use Rattle.replay.specs.World.{start_world}
use Rattle.scripts.proofs.lines.SentOctets.{done, lines_or}
use Rattle.replay.proofs.turns.StartSizes.{new_zone-small}
use Rattle.replay.proofs.turns.ZoneSizes.{IsSmall, IsBoundedLink, small-silent, IsBounded}

abbrev pub is_zone : NamedHome → Bool
is_zone h = same_kind h.1 of_home.Zone

abbrev pub is_link : NamedHome → Bool
is_link h = same_kind h.1 of_home.Link

-- a link by its domain
abbrev pub named_domain : LinkState → NamedHome
named_domain l = (l.rules.domain, of_home.Link)

abbrev pub HasNoRows : LinkState → Type 0
HasNoRows l = l.rows ≡ []

-- the head has a zone and a link for each that is known, and its state is within the bounds
pub record HeadIs (known : Known) (head : Head) : Type 0 where
  pub count : length head.start.zones ≡ length (filter is_zone known.homes)
  pub links_are : map named_domain head.start.links ≡ filter is_link known.homes
  pub no_rows : AllByRecursion HasNoRows head.start.links
  pub bounded : IsBounded head.start

some_is : (a b : Known) → Some a ≡ Some b → a ≡ b
some_is a b e = ap (λ o. unwrap_or o a) e

is_allowed : (b : Bool) (k later : Known) → allowed b k ≡ Some later → (b ≡ true) × (k ≡ later)
is_allowed true k later e = (refl, some_is k later e)
is_allowed false k later e = absurd cc

free : (b c : Bool) (rest : Option HomeFault) → is_none (cond b (Some Many) (cond c (Some Long) rest)) ≡ true → (b ≡ false) × (c ≡ false)
free true c rest h = absurd cc
free false true rest h = absurd cc
free false false rest h = (refl, refl)

few_below : (n : ℕ) → nat_le 16 n ≡ false → n < 16
few_below n h = grind (arith, nat_tests)

short_below : (n : ℕ) → nat_lt 200 n ≡ false → n ≤ 255
short_below n h = grind (arith, nat_tests)

sum : (whole n m : ℕ) → whole ≡ n + 1 → n ≡ m → m < 16 → whole ≤ 16
sum whole n m e f g = omega arith

-- a further zone
zone-turn : (known : Known) (head : Head) (apex : Labels) (serial : ℕ) (mode : Bool) → is_none (home_fault known.homes (apex, of_home.Zone)) ≡ true → HeadIs known head
    → HeadIs (record known { homes = known.homes ++ (apex, of_home.Zone) ∷ [] }) (with_head head (zone apex serial mode))
zone-turn known head apex serial mode none h =
    let no_fault = free (nat_le 16 (length (filter is_zone known.homes))) (nat_lt 200 (length (octets apex))) _ none in
    let few : length (filter is_zone known.homes) < 16 = few_below (length (filter is_zone known.homes)) no_fault.0 in
    let short : length (octets apex) ≤ 255 = short_below (length (octets apex)) no_fault.1 in
    let z : ZoneState = new_zone apex serial mode in
    let longer : length (head.start.zones ++ z ∷ []) ≡ length head.start.zones + 1 = length-append head.start.zones (z ∷ []) in
    let more : length (filter is_zone (known.homes ++ (apex, of_home.Zone) ∷ [])) ≡ length (filter is_zone known.homes) + 1 =
    ap length (filter-append is_zone known.homes ((apex, of_home.Zone) ∷ [])) ∙ length-append (filter is_zone known.homes) ((apex, of_home.Zone) ∷ []) in
    let same = h.count in
    record {
      count = longer ∙ ap (λ n. n + 1) same ∙ sym more;
      links_are = h.links_are ∙ sym (filter-append is_link known.homes ((apex, of_home.Zone) ∷ []) ∙ append-nil (filter is_link known.homes));
      no_rows = h.no_rows;
      bounded = record {
        few_links = h.bounded.few_links;
        links = h.bounded.links;
        few = sum _ _ _ longer same few;
        small = each-append (λ (y : ZoneState). IsSmall y.rows) head.start.zones (z ∷ []) h.bounded.small (new_zone-small apex serial mode short, tt);
      };
    }

-- a further link
link-turn : (known : Known) (head : Head) (w : Word) (domain : Labels) (most : ℕ) → is_none (home_fault known.homes (domain, of_home.Link)) ≡ true → HeadIs known head
    → HeadIs (known_in_head known (link w domain most)) (with_head head (link w domain most))
link-turn known head w domain most none h =
    let no_fault = free (nat_le 16 (length (filter is_link known.homes))) (nat_lt 200 (length (octets domain))) _ none in
    let few : length (filter is_link known.homes) < 16 = few_below (length (filter is_link known.homes)) no_fault.0 in
    let l : LinkState = record { rules = record { domain = domain; reverses = []; cap = most }; rows = [] } in
    let longer : length (head.start.links ++ l ∷ []) ≡ length head.start.links + 1 = length-append head.start.links (l ∷ []) in
    let count : length head.start.links ≡ length (filter is_link known.homes) = sym (length-map head.start.links named_domain) ∙ ap length h.links_are in
    record {
      count = h.count ∙ sym (ap length (filter-append is_zone known.homes ((domain, of_home.Link) ∷ []) ∙ append-nil (filter is_zone known.homes)));
      links_are = map-append named_domain head.start.links (l ∷ []) ∙ ap (λ ns. ns ++ named_domain l ∷ []) h.links_are ∙ sym (filter-append is_link known.homes (named_domain l ∷ []));
      no_rows = each-append HasNoRows head.start.links (l ∷ []) h.no_rows (refl, tt);
      bounded = record {
        few_links = sum _ _ _ longer count few;
        links = each-append IsBoundedLink head.start.links (l ∷ []) h.bounded.links (small-silent (record { domain = domain; reverses = []; cap = most }) tt, tt);
        few = h.bounded.few;
        small = h.bounded.small;
      };
    }

-- a further reverse domain: it stands apart from the domain of each link
abbrev Free : Labels → NamedHome → Type 0
Free domain home = clashes home (domain, of_home.Reverse) ≡ false

abbrev IsFree : Labels → LinkState → Type 0
IsFree domain l = HasNoRows l × Free domain (named_domain l)

reversed-link : (domain : Labels) → IsFit (domain, of_home.Reverse) → (l : LinkState) → IsBoundedLink l → IsFree domain l → IsBoundedLink (with_reverse domain l)
reversed-link domain fit l is other =
    let rules = (with_reverse domain l).rules in
    let apart = each-append (IsApart l.rules.domain) l.rules.reverses (domain ∷ []) is.apart (reverse-apart l.rules.domain domain other.1 fit, tt) in
    subst (λ rows. IsBoundedLink (record { rules = rules; rows = rows })) (sym other.0) (small-silent rules apart)

reverse-turn : (known : Known) (head : Head) (w : Word) (domain : Labels) → is_none (home_fault known.homes (domain, of_home.Reverse)) ≡ true → HeadIs known head
    → HeadIs (known_in_head known (reverse w domain)) (with_head head (reverse w domain))
reverse-turn known head w domain none h = by (position (bytes_eq w) head.links)
  where
    new : NamedHome
    new = (domain, of_home.Reverse)

    -- the homes of another kind are the same
    others : (test : NamedHome → Bool) → test new ≡ false → filter test (known.homes ++ new ∷ []) ≡ filter test known.homes
    others test is = filter-append test known.homes (new ∷ []) ∙ (λ i. filter test known.homes ++ cond (is i) (new ∷ []) []) ∙ append-nil (filter test known.homes)

    added : IsAdded known.homes new
    added = added-one known.homes new none

    each_free : AllByRecursion (IsFree domain) head.start.links
    each_free =
        each-both HasNoRows (λ l. Free domain (named_domain l)) (IsFree domain) (λ l rows apart. (rows, apart)) head.start.links h.no_rows
        (all-map named_domain (Free domain) head.start.links (subst (AllByRecursion (Free domain)) (sym h.links_are) (all_filter (Free domain) is_link known.homes added.apart)))

    by : (place : Option ℕ) → HeadIs (known_in_head known (reverse w domain)) (record head { start = reversed_at place domain head.start })
    by None = record { count = h.count ∙ sym (ap length (others is_zone refl)); links_are = h.links_are ∙ sym (others is_link refl); no_rows = h.no_rows; bounded = h.bounded }
    by (Some place) = record {
      count = h.count ∙ sym (ap length (others is_zone refl));
      links_are = map-changed_at named_domain (with_reverse domain) (λ l. refl) place head.start.links ∙ h.links_are ∙ sym (others is_link refl);
      no_rows = changed-each HasNoRows (with_reverse domain) (λ l rows. rows) place head.start.links h.no_rows;
      bounded = record {
        few_links = subst (λ n. n ≤ 16) (sym (length-changed place (with_reverse domain) head.start.links)) h.bounded.few_links;
        links = changed-with IsBoundedLink (IsFree domain) (with_reverse domain) (reversed-link domain added.fit) place head.start.links h.bounded.links each_free;
        few = h.bounded.few;
        small = h.bounded.small;
      };
    }

-- a further line of the head
head-turn : (known : Known) (head : Head) (line : HeadLine) → may_head known line ≡ true → HeadIs known head → HeadIs (known_in_head known line) (with_head head line)
head-turn known head (timers i k) may h = record { count = h.count; links_are = h.links_are; no_rows = h.no_rows; bounded = h.bounded }
head-turn known head (zone apex serial mode) may h = zone-turn known head apex serial mode may h
head-turn known head (link w domain most) may h = link-turn known head w domain most (both_true (not (is_among known.links w)) (is_none (home_fault known.homes (domain, of_home.Link))) may).1 h
head-turn known head (reverse w domain) may h = reverse-turn known head w domain (both_true (is_among known.links w) (is_none (home_fault known.homes (domain, of_home.Reverse))) may).1 h

-- and one that is none, behind which the same homes are known
event-turn : (test : Bool) (known behind later : Known) (head : Head) → behind.homes ≡ known.homes → allowed test behind ≡ Some later → HeadIs known head → HeadIs later head
event-turn test known behind later head same fit h = subst (λ n. HeadIs n head) (is_allowed test behind later fit).1 (record {
  count = h.count ∙ ap (λ homes. length (filter is_zone homes)) (sym same);
  links_are = h.links_are ∙ ap (λ homes. filter is_link homes) (sym same);
  no_rows = h.no_rows;
  bounded = h.bounded;
})

-- a further line
turn : (all : List Word) (known later : Known) (head : Head) (line : ScriptLine) → fits all known line ≡ Some later → HeadIs known head → HeadIs later (with_head_line head line)
turn all known later head silent fit h = event-turn true known known later head refl fit h
turn all known later head (head_line line) fit h =
    let a = is_allowed (known.in_head && may_head known line) (known_in_head known line) later fit in
    subst (λ n. HeadIs n (with_head head line)) a.1 (head-turn known head line (both_true known.in_head (may_head known line) a.0).1 h)
turn all known later head (joining w is_lone) fit h = event-turn (may_follow all known (joining w is_lone)) known (with_client w is_lone known) later head refl fit h
turn all known later head (hub_event event) fit h = event-turn (may_follow all known (hub_event event)) known (in_events known) later head refl fit h
turn all known later head (link_event w event) fit h = event-turn (may_follow all known (link_event w event)) known (in_events known) later head refl fit h
turn all known later head (client_call w call) fit h = event-turn (may_follow all known (client_call w call)) known (in_events known) later head refl fit h
turn all known later head (client_passing w way) fit h = event-turn (may_follow all known (client_passing w way)) known (in_events known) later head refl fit h
turn all known later head (client_event w event) fit h = event-turn (may_follow all known (client_event w event)) known (in_events known) later head refl fit h
turn all known later head (session_event w event) fit h = event-turn (may_follow all known (session_event w event)) known (in_events known) later head refl fit h

-- ---- all lines

abbrev pub Bounded : Head → List ScriptLine → Type 0
Bounded head lines = IsBounded (fold with_head_line head lines).start

abbrev Goes : List Word → List (Option ScriptLine) → Type 0
Goes all os = (known : Known) (n : ℕ) (lines : List ScriptLine) (head : Head) → lines_from all known n os ≡ done lines → HeadIs known head → Bounded head lines

step : (all : List Word) (line : ScriptLine) (os : List (Option ScriptLine)) → Goes all os → Goes all (Some line ∷ os)
step all line os rest known n lines head read h = by (fits all known line) refl read
  where
    behind : (later : Known) → fits all known line ≡ Some later → (r : Result (List ScriptLine) ℕ) → lines_from all later (n + 1) os ≡ r → with_line line r ≡ done lines → Bounded head lines
    behind later fit (Err m) e f = absurd cc
    behind later fit (Ok more) e f = subst (Bounded head) (ap (lines_or []) f) (rest later (n + 1) more (with_head_line head line) e (turn all known later head line fit h))

    by : (o : Option Known) → fits all known line ≡ o → (elim o as (λ _. Result (List ScriptLine) ℕ) [ None ↦ Err n | Some later ↦ with_line line (lines_from all later (n + 1) os) ]) ≡ done lines → Bounded head lines
    by None fit f = absurd cc
    by (Some later) fit f = behind later fit (lines_from all later (n + 1) os) refl f

goes : (all : List Word) (os : List (Option ScriptLine)) → Goes all os
goes all [] known n lines head read h = subst (Bounded head) (ap (lines_or []) read) h.bounded
goes all (None ∷ os) known n lines head read h = absurd cc
goes all (Some line ∷ os) known n lines head read h = step all line os (goes all os) known n lines head read h

empty-is : HeadIs nothing_known empty_head
empty-is = record { count = refl; links_are = refl; no_rows = tt; bounded = record { few_links = omega arith; links = tt; few = omega arith; small = tt } }

pub bounded-script : (text : List ℕ) (lines : List ScriptLine) → script_of text ≡ Ok lines → IsBounded (start_world lines).hub.start
bounded-script text lines read = goes (client_words (lines_read text)) (lines_read text) nothing_known 1 lines empty_head read empty-is
