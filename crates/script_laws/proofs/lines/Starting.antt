-- The world with which a script starts.
--     start-homes      its head has homes that stand apart
--     start-stands, start-fits      each client stands, as there is none, and what is known fits
use Rattle.std.proofs.Common.{◌≡◌, ℕ, ◌+◌, Bool, true, false, ◌&&◌, not, List, [], ◌∷◌, ◌++◌, fold, length, length-append, Option, Some, None, is_none, refl, sym, ◌∙◌, ap, subst, arith}
use Rattle.std.specs.Prelude.{IsTrue, position}
use Rattle.std.specs.List.{AllByRecursion, IsDistinct}
use Rattle.std.specs.Str.{bytes_eq}
use Rattle.std.proofs.lemmas.List.Elements.{All-from_recursion}
use Rattle.std.proofs.lemmas.List.Sorted.{IsPermutation-refl}
use Rattle.dnsname.specs.Names.{Labels, is_name}
use Rattle.rrset.proofs.Sets.{both_true}
use Rattle.dsotlv.proofs.Results.{same_found}
use Rattle.coalesce.proofs.ReadBack.{each-append}
use Rattle.zoneupdate.specs.Zones.{ZoneState, new_zone}
use Rattle.history.specs.Homes.{NamedHome, home_fault}
use Rattle.history.specs.States.{LinkState, with_reverse}
use Rattle.history.specs.Plans.{may_stand_together}
use Rattle.history.specs.AtHome.{homes_in, AreNamesOf}
use Rattle.history.specs.declared.entry.HomeFault.{HomeFault}
use Rattle.history.specs.declared.entry.HomeKind.TheVariants as of_home
use Rattle.history.proofs.Distinct.{all-permuted}
use Rattle.history.proofs.KeptHomes.{names-zone, names-link, names-reverse}
use Rattle.history.proofs.Together.{together-more, names-apart}
use Rattle.pushclient.specs.ServerMessages.{CanBeGranted}
use Rattle.pushtelling.specs.Laws.{IsStartOfHomes}
use Rattle.scripts.specs.Lines.{Word, HeadLine, timers, zone, link, reverse, ScriptLine, silent, head_line, joining, hub_event, link_event, client_call, client_passing, client_event, session_event}
use Rattle.scripts.specs.Scripts.{Known, nothing_known, is_among, may_head, known_in_head, fits, allowed, in_events, with_home, with_client}
use Rattle.scripts.specs.Heads.{Head, empty_head, reversed_at, with_head, with_head_line}
use Rattle.scripts.proofs.lines.ChangedPlaces.{length-changed, changed-each}
use Rattle.scripts.proofs.lines.NamedLinks.{link-there}
use Rattle.scripts.proofs.lines.Numbers.{none-any}
use Rattle.replay.specs.World.{start_world}
use Rattle.replay.specs.Promises.{NumbersFit}
use Rattle.script_laws.specs.Joined.{WorldStands}
use Rattle.script_laws.specs.Lines.{IsHeadWithin, IsRead, Follow, KnownFits}

-- ---- what a line that is allowed leaves known

pub is_allowed : (b : Bool) (k later : Known) → allowed b k ≡ Some later → (b ≡ true) × (k ≡ later)
is_allowed true k later e = (refl, same_found k later e)
is_allowed false k later e = absurd cc

-- ---- the head

abbrev IsNewZone : ZoneState → Type 0
IsNewZone z = (serial : ℕ) × (z ≡ new_zone z.apex serial z.writable)

abbrev HasNoRows : LinkState → Type 0
HasNoRows l = l.rows ≡ []

abbrev IsNamedWell : NamedHome → Type 0
IsNamedWell h = IsTrue (is_name h.0)

-- the homes known are those of the head, in the order of their lines, each of which was added without a fault
record HeadFits (known : Known) (head : Head) : Type 0 where
  homes : AreNamesOf known.homes head.start
  together : may_stand_together known.homes ≡ true
  names : AllByRecursion IsNamedWell known.homes
  zones : AllByRecursion IsNewZone head.start.zones
  links : AllByRecursion HasNoRows head.start.links
  words : head.links ≡ known.links
  each : length head.links ≡ length head.start.links
  now : head.start.now ≡ 0
  granted : CanBeGranted head.timers

no_fault : (o : Option HomeFault) → is_none o ≡ true → o ≡ None
no_fault None h = refl
no_fault (Some f) h = absurd cc

module _ (known : Known) (head : Head) (h : HeadFits known head) where
  -- the homes known, and one more
  abbrev one_more : NamedHome → List NamedHome
  one_more new = known.homes ++ new ∷ []

  together-then : (new : NamedHome) → is_none (home_fault known.homes new) ≡ true → may_stand_together (one_more new) ≡ true
  together-then new free = together-more known.homes new h.together (no_fault (home_fault known.homes new) free)

  head-zone : (apex : Labels) (serial : ℕ) (mode : Bool) → is_none (home_fault known.homes (apex, of_home.Zone)) ≡ true → IsTrue (is_name apex) → HeadFits (with_home (apex, of_home.Zone) known) (with_head head (zone apex serial mode))
  head-zone apex serial mode free name =
      let z : ZoneState = new_zone apex serial mode in
      record {
        homes = names-zone known.homes head.start z h.homes;
        together = together-then (apex, of_home.Zone) free;
        names = each-append IsNamedWell known.homes ((apex, of_home.Zone) ∷ []) h.names (name, tt);
        zones = each-append IsNewZone head.start.zones (z ∷ []) h.zones ((serial, refl), tt);
        links = h.links;
        words = h.words;
        each = h.each;
        now = h.now;
        granted = h.granted;
      }

  head-link : (w : Word) (domain : Labels) (most : ℕ) → is_none (home_fault known.homes (domain, of_home.Link)) ≡ true → IsTrue (is_name domain)
      → HeadFits (with_home (domain, of_home.Link) (record known { links = known.links ++ w ∷ [] })) (with_head head (link w domain most))
  head-link w domain most free name =
      let l : LinkState = record { rules = record { domain = domain; reverses = []; cap = most }; rows = [] } in
      record {
        homes = names-link known.homes head.start l refl h.homes;
        together = together-then (domain, of_home.Link) free;
        names = each-append IsNamedWell known.homes ((domain, of_home.Link) ∷ []) h.names (name, tt);
        zones = h.zones;
        links = each-append HasNoRows head.start.links (l ∷ []) h.links (refl, tt);
        words = ap (λ ws. ws ++ w ∷ []) h.words;
        each = length-append head.links (w ∷ []) ∙ ap (λ n. n + 1) h.each ∙ sym (length-append head.start.links (l ∷ []));
        now = h.now;
        granted = h.granted;
      }

  head-reverse : (w : Word) (domain : Labels) → is_among known.links w ≡ true → is_none (home_fault known.homes (domain, of_home.Reverse)) ≡ true → IsTrue (is_name domain)
      → HeadFits (with_home (domain, of_home.Reverse) known) (with_head head (reverse w domain))
  head-reverse w domain among free name = by (position (bytes_eq w) head.links) refl
    where
      by : (place : Option ℕ) → position (bytes_eq w) head.links ≡ place → HeadFits (with_home (domain, of_home.Reverse) known) (record head { start = reversed_at place domain head.start })
      by None none = (
          let known_too : is_among head.links w ≡ true = ap (λ ws. is_among ws w) h.words ∙ among in
          let unknown : is_among head.links w ≡ false = none-any (bytes_eq w) head.links none in
          let wrong : true ≡ false = sym known_too ∙ unknown in
          absurd cc)
      by (Some place) at = (
          let there = link-there head.links head.start.links w place h.each at in
          record {
            homes = names-reverse known.homes head.start place there.0 domain there.2 h.homes;
            together = together-then (domain, of_home.Reverse) free;
            names = each-append IsNamedWell known.homes ((domain, of_home.Reverse) ∷ []) h.names (name, tt);
            zones = h.zones;
            links = changed-each HasNoRows (with_reverse domain) (λ l none. none) place head.start.links h.links;
            words = h.words;
            each = h.each ∙ sym (length-changed place (with_reverse domain) head.start.links);
            now = h.now;
            granted = h.granted;
          })

-- a line that leaves the homes
head-stays : (known later : Known) (head : Head) → later.homes ≡ known.homes → later.links ≡ known.links → HeadFits known head → HeadFits later head
head-stays known later head same links h = record {
  homes = subst (λ (ns : List NamedHome). AreNamesOf ns head.start) (sym same) h.homes;
  together = ap may_stand_together same ∙ h.together;
  names = subst (AllByRecursion IsNamedWell) (sym same) h.names;
  zones = h.zones;
  links = h.links;
  words = h.words ∙ sym links;
  each = h.each;
  now = h.now;
  granted = h.granted;
}

module _ (all : List Word) (known later : Known) (head : Head) (h : HeadFits known head) where
  -- a line behind which this much is known, where it is allowed
  abbrev Goes : Option Known → Type 0
  Goes o = o ≡ Some later → HeadFits later head

  goes-allowed : (b : Bool) (k : Known) → k.homes ≡ known.homes → k.links ≡ known.links → Goes (allowed b k)
  goes-allowed b k same links e = subst (λ (n : Known). HeadFits n head) (is_allowed b k later e).1 (head-stays known k head same links h)

  -- a line of the head, where it may stand
  head-more : (line : HeadLine) → IsHeadWithin line → may_head known line ≡ true → HeadFits (known_in_head known line) (with_head head line)
  head-more (timers i k) within may = record { homes = h.homes; together = h.together; names = h.names; zones = h.zones; links = h.links; words = h.words; each = h.each; now = h.now; granted = within }
  head-more (zone apex serial mode) within may = head-zone known head h apex serial mode may within.0
  head-more (link w domain most) within may = head-link known head h w domain most (both_true (not (is_among known.links w)) (is_none (home_fault known.homes (domain, of_home.Link))) may).1 within
  head-more (reverse w domain) within may =
      let both = both_true (is_among known.links w) (is_none (home_fault known.homes (domain, of_home.Reverse))) may in
      head-reverse known head h w domain both.0 both.1 within

  head-line : (line : ScriptLine) → IsRead all line → fits all known line ≡ Some later → HeadFits later (with_head_line head line)
  head-line silent is e = goes-allowed true known refl refl e
  head-line (head_line line) is e =
      let a = is_allowed (known.in_head && may_head known line) (known_in_head known line) later e in
      subst (λ (n : Known). HeadFits n (with_head head line)) a.1 (head-more line is.within (both_true known.in_head (may_head known line) a.0).1)
  head-line (joining w is_lone) is e = goes-allowed _ (with_client w is_lone known) refl refl e
  head-line (hub_event event) is e = goes-allowed true (in_events known) refl refl e
  head-line (link_event w event) is e = goes-allowed _ (in_events known) refl refl e
  head-line (client_call w call) is e = goes-allowed _ (in_events known) refl refl e
  head-line (client_passing w way) is e = goes-allowed _ (in_events known) refl refl e
  head-line (client_event w event) is e = goes-allowed _ (in_events known) refl refl e
  head-line (session_event w event) is e = goes-allowed _ (in_events known) refl refl e

head-lines : (all : List Word) (known : Known) (head : Head) (lines : List ScriptLine) → Follow all known lines → AllByRecursion (IsRead all) lines → HeadFits known head
    → (later : Known) × HeadFits later (fold with_head_line head lines)
head-lines all known head [] f read h = (known, h)
head-lines all known head (line ∷ lines) f read h = head-lines all f.0 (with_head_line head line) lines f.2 read.1 (head-line all known f.0 head h line read.0 f.1)

begins : HeadFits nothing_known empty_head
begins = record { homes = IsPermutation-refl []; together = refl; names = tt; zones = tt; links = tt; words = refl; each = refl; now = refl; granted = (omega arith, omega arith, omega arith) }

-- ---- the world

module _ (all : List Word) (script : List ScriptLine) (f : Follow all nothing_known script) (read : AllByRecursion (IsRead all) script) where
  abbrev head : Head
  head = fold with_head_line empty_head script

  start_fits : (later : Known) × HeadFits later head
  start_fits = head-lines all nothing_known empty_head script f read begins

  start-homes : IsStartOfHomes head.start
  start-homes =
      let h = start_fits.1 in
      record {
        begins = record { zones = All-from_recursion IsNewZone head.start.zones h.zones; links = All-from_recursion HasNoRows head.start.links h.links; now = h.now };
        apart = names-apart start_fits.0.homes head.start h.together h.homes;
        names = all-permuted IsNamedWell start_fits.0.homes (homes_in head.start) h.homes h.names;
      }

  start-numbers : NumbersFit (start_world script)
  unfolding IsDistinct
  start-numbers = record { distinct = λ number. omega arith; below = tt; all = λ number. refl; words = tt }

  pub start-stands : WorldStands (λ w question. []) (start_world script)
  start-stands = record {
    reached = record { start = head.start; timers = head.timers; calls = []; homes = start-homes; granted = start_fits.1.granted; fit = tt; is = refl };
    numbers = start-numbers;
    seats = tt;
  }

  pub start-fits : KnownFits all nothing_known (start_world script)
  start-fits = record { clients = λ w. refl; named = λ w is_lone e. absurd cc; peers = tt }
