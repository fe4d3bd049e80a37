-- A further line behind others.
--     no_lines      before the first line
--     adds      what a line that may stand there makes of them
use Rattle.std.proofs.Common.{◌≡◌, ℕ, ◌+◌, Bool, true, false, cond, not, ◌||◌, ◌==◌, Option, Some, None, List, [], ◌∷◌, ◌++◌, find, length, zero, suc, refl, sym, ◌∙◌, ap, subst, arith, length-append, append_assoc}
use Rattle.std.specs.Prelude.{is_some, option_map, option_to_list, string_bytes, All, filter_map, position}
use Rattle.std.specs.List.{list_any}
use Rattle.std.specs.declared.alloc.Global.{Global}
use Rattle.std.specs.declared.string.String.{String}
use Rattle.std.specs.Str.{bytes_eq}
use Rattle.std.proofs.lemmas.Bool.Decides.{nat_tests}
use Rattle.std.proofs.lemmas.List.{append-nil, map-append}
use Rattle.std.proofs.lemmas.List.Elements.{All-append, filter-append, filter_map-append, All-from_recursion, recursion_from_All}
use Rattle.std.proofs.lemmas.List.Sums.{fold-append}
use Rattle.rrset.proofs.Distinct.{distinct_push, distinct_none}
use Rattle.dsosession.specs.declared.session.Timers.{Timers}
use Rattle.push_base.specs.Cases.{changed_at}
use Rattle.dnsname.specs.Names.{Labels}
use Rattle.dnsname.proofs.Decisions.{and_true}
use Rattle.zoneupdate.specs.Zones.{ZoneState, new_zone}
use Rattle.history.specs.Homes.{NamedHome}
use Rattle.history.specs.States.{LinkRules, State, LinkState, with_reverse}
use Rattle.history.specs.Plans.{IsStart}
use Rattle.history.specs.Kept.{HomesKept, state_of}
use Rattle.scripts.specs.Lines.{Word, ScriptLine, head_line, joining}
use Rattle.scripts.specs.Scripts.{Known, fits, may_follow, may_head, known_in_head, allowed, client_word, lone_in, is_head, happening, AreDistinct}
use Rattle.scripts.specs.Heads.{Head, empty_head, reversed_at, with_head, with_head_line, head_behind}
use Rattle.scripts.specs.declared.line.ZoneLine.{ZoneLine}
use Rattle.scripts.specs.declared.line.LinkLine.{LinkLine}
use Rattle.scripts.specs.declared.line.ReverseLine.{ReverseLine}
use Rattle.scripts.specs.declared.line.HeadLine.{HeadLine}
use Rattle.scripts.specs.declared.line.HeadLine.TheVariants as heads
use Rattle.scripts.specs.declared.line.EventLine.{EventLine}
use Rattle.scripts.specs.declared.line.EventLine.TheVariants as event_lines
use Rattle.scripts.specs.declared.event.Event.{Event}
use Rattle.scripts.specs.declared.event.Event.TheVariants as events
use Rattle.scripts.specs.declared.line.Line.{Line}
use Rattle.scripts.specs.declared.line.Line.TheVariants as lines
use Rattle.scripts.specs.KeptLines.{head_said, happening_said, said}
use Rattle.scripts.specs.Events.{words_known, client_at, event_said, each_said, IsNamed}
use Rattle.scripts.specs.HeadHomes.{no_homes}
use Rattle.scripts.specs.Drafts.{Taken, nothing_taken, head_of, head_taken, known_of, known_by, may_stand, StandsFor, with_zone, HasZone, with_link, HasLink, HasReverse, HeadGrowsBy, GrowsBy, AreEvents, HaveMade}
use Rattle.scripts.proofs.lines.ChangedPlaces.{changed-each}
use Rattle.scripts.proofs.lines.Numbers.{onto_words, named-more, follow-more, client-here, few-here}
use Rattle.scripts.proofs.lines.SameWords.{same_word, word_itself, other_way}

-- the lines that happen, and the head, behind a further line
happening-more : (lines : List ScriptLine) (line : ScriptLine) → happening (lines ++ line ∷ []) ≡ happening lines ++ happening (line ∷ [])
happening-more lines line = filter-append (λ (l : ScriptLine). not (is_head l)) lines (line ∷ [])

head-more : (head : Head) (lines : List ScriptLine) (line : ScriptLine) → head_behind head (lines ++ line ∷ []) ≡ with_head_line (head_behind head lines) line
head-more head lines line = fold-append with_head_line head lines (line ∷ [])

no_start : IsStart (state_of no_homes)
no_start = record { zones = λ k d before. absurd (omega (arith, before)); links = λ k d before. absurd (omega (arith, before)); now = refl }

pub no_lines : HaveMade [] nothing_taken
no_lines = record { events = λ more. record { happen = refl; named = refl; follow = tt }; head = refl; start = no_start; distinct = distinct_none bytes_eq }

-- what a line that may stand there makes of the head and the events
pub record Adds (all : List Word) (taken : Taken) (line : Line) (later : Taken) : Type 0 where
  pub fit : fits all (known_of taken) (said line) ≡ Some (known_of later)
  pub lines : (front : List ScriptLine) → HaveMade front taken → HaveMade (front ++ said line ∷ []) later

allowed_some : (b : Bool) (known : Known) → is_some (allowed b known) ≡ true → allowed b known ≡ Some known
allowed_some true known h = refl
allowed_some false known h = absurd cc

-- the head behind a further line
head-then : (front : List ScriptLine) (taken : Taken) (line : ScriptLine) → HaveMade front taken → head_behind empty_head (front ++ line ∷ []) ≡ with_head_line (head_taken taken) line
head-then front taken line are = head-more empty_head front line ∙ ap (λ (h : Head). with_head_line h line) are.head

pub some-allowed : (b : Bool) (known : Known) → is_some (allowed b known) ≡ b
some-allowed true known = refl
some-allowed false known = refl

-- a line that doesn't happen
quiet-line : (front : List ScriptLine) (line : ScriptLine) (links joined : List Word) (clients : List (Word × Bool)) (happened : List Event) → happening (line ∷ []) ≡ [] → AreEvents front links joined clients happened
    → AreEvents (front ++ line ∷ []) links joined clients happened
quiet-line front line links joined clients happened quiet are = record {
  happen = happening-more front line ∙ ap (λ (ls : List ScriptLine). happening front ++ ls) quiet ∙ append-nil (happening front) ∙ are.happen;
  named = are.named;
  follow = are.follow;
}

-- before all events the links are of no account
before-events : (front : List ScriptLine) (links links_then joined : List Word) (clients : List (Word × Bool)) (happened : List Event) → (length happened == 0) ≡ true → AreEvents front links joined clients happened
    → AreEvents front links_then joined clients happened
before-events front links links_then joined clients [] none are = record { happen = are.happen; named = are.named; follow = tt }
before-events front links links_then joined clients (e ∷ es) none are =
    let some : false ≡ (length (e ∷ es) == 0) = grind (arith, nat_tests) in
    let wrong : false ≡ true = some ∙ none in
    absurd cc

-- ---- a line that says nothing

silent_adds : (all : List Word) (taken : Taken) → Adds all taken lines.Silent taken
silent_adds all taken = record {
  fit = refl;
  lines = λ front are. record {
    events = λ more. quiet-line front _ taken.links (words_known taken.clients) (taken.clients ++ more) taken.events refl (are.events more);
    head = head-then front taken _ are;
    start = are.start;
    distinct = are.distinct;
  };
}

-- ---- the head

abbrev with_start : Taken → Option Timers → HomesKept → List Word → Taken
with_start taken timers homes links = record taken { timers = timers; homes = homes; links = links }

-- what a line of the head makes of it
record AddsHead (taken : Taken) (line : HeadLine) (timers : Option Timers) (homes : HomesKept) (links : List Word) : Type 0 where
  known : known_in_head (known_of taken) (head_said line) ≡ known_of (with_start taken timers homes links)
  head : with_head (head_taken taken) (head_said line) ≡ head_of timers (state_of homes) links
  start : IsStart (state_of taken.homes) → IsStart (state_of homes)

head_adds : (all : List Word) (taken : Taken) (line : HeadLine) (timers : Option Timers) (homes : HomesKept) (links : List Word) → may_stand all (known_of taken) (head_line (head_said line)) ≡ true
    → AddsHead taken line timers homes links → Adds all taken (lines.Head line) (with_start taken timers homes links)
head_adds all taken line timers homes links h added =
    let none : (length taken.events == 0) ≡ true = (and_true (length taken.events == 0) (may_head (known_of taken) (head_said line)) (sym (some-allowed _ _) ∙ h)).0 in
    record {
      fit = allowed_some _ _ h ∙ ap (λ (known : Known). Some known) added.known;
      lines = λ front are. record {
        events = λ more.
            before-events (front ++ head_line (head_said line) ∷ []) taken.links links (words_known taken.clients) (taken.clients ++ more) taken.events none
            (quiet-line front (head_line (head_said line)) taken.links (words_known taken.clients) (taken.clients ++ more) taken.events refl (are.events more));
        head = head-then front taken (head_line (head_said line)) are ∙ added.head;
        start = added.start are.start;
        distinct = are.distinct;
      };
    }

timers_added : (taken : Taken) (t : Timers) → AddsHead taken (heads.Timers t) (Some t) taken.homes taken.links
timers_added taken t = record { known = refl; head = refl; start = λ is. is }

-- ---- a zone

abbrev IsNew : ZoneState → Type 0
IsNew z = (serial : ℕ) × (z ≡ new_zone z.apex serial z.writable)

one_new : (apex : Labels) (serial : ℕ) (writable : Bool) → All IsNew (new_zone apex serial writable ∷ [])
one_new apex serial writable zero d before = (serial, refl)
one_new apex serial writable (suc k) d before = absurd (omega (arith, before))

-- a start with a further zone
pub start_more : (start : State) (apex : Labels) (serial : ℕ) (writable : Bool) → IsStart start → IsStart (with_zone start (new_zone apex serial writable))
start_more start apex serial writable is = record { zones = All-append IsNew start.zones (new_zone apex serial writable ∷ []) is.zones (one_new apex serial writable); links = is.links; now = is.now }

zone_added : (taken : Taken) (homes : HomesKept) (z : ZoneLine) → HasZone taken.homes z homes → AddsHead taken (heads.Zone z) taken.timers homes taken.links
zone_added taken homes z has = record {
  known = ap (λ (names : List NamedHome). record (known_of taken) { homes = names }) (sym has.named);
  head = ap (λ (s : State). head_of taken.timers s taken.links) (sym has.state);
  start = λ is. subst IsStart (sym has.state) (start_more (state_of taken.homes) z.apex z.serial z.writable is);
}

-- ---- a link

abbrev pub silent_link : LinkRules → LinkState
silent_link rules = record { rules = rules; rows = [] }

abbrev IsSilent : LinkState → Type 0
IsSilent l = l.rows ≡ []

one_silent : (rules : LinkRules) → All IsSilent (silent_link rules ∷ [])
one_silent rules zero d before = refl
one_silent rules (suc k) d before = absurd (omega (arith, before))

-- a start with a further link
pub start_linked : (start : State) (rules : LinkRules) → IsStart start → IsStart (with_link start (silent_link rules))
start_linked start rules is = record { zones = is.zones; links = All-append IsSilent start.links (silent_link rules ∷ []) is.links (one_silent rules); now = is.now }

link_added : (taken : Taken) (homes : HomesKept) (l : LinkLine) → HasLink taken.homes l homes → AddsHead taken (heads.Link l) taken.timers homes (taken.links ++ string_bytes l.word ∷ [])
link_added taken homes l has = record {
  known = ap (λ (names : List NamedHome). record (known_of taken) { homes = names; links = taken.links ++ string_bytes l.word ∷ [] }) (sym has.named);
  head = ap (λ (s : State). head_of taken.timers s (taken.links ++ string_bytes l.word ∷ [])) (sym has.state);
  start = λ is. subst IsStart (sym has.state) (start_linked (state_of taken.homes) (record { domain = l.domain; reverses = []; cap = l.cap }) is);
}

-- ---- a reverse domain

-- a start with a further reverse domain of a link
pub start_reversed : (start : State) (link : Option ℕ) (domain : Labels) → IsStart start → IsStart (reversed_at link domain start)
start_reversed start None domain is = is
start_reversed start (Some link) domain is = record { zones = is.zones; links = All-from_recursion IsSilent (changed_at link (with_reverse domain) start.links) (changed-each IsSilent (with_reverse domain) (λ l silent. silent) link start.links (recursion_from_All IsSilent start.links is.links)); now = is.now }

reverse_added : (taken : Taken) (homes : HomesKept) (r : ReverseLine) → HasReverse taken.homes taken.links r homes → AddsHead taken (heads.Reverse r) taken.timers homes taken.links
reverse_added taken homes r has = record {
  known = ap (λ (names : List NamedHome). record (known_of taken) { homes = names }) (sym has.named);
  head = ap (λ (s : State). head_of taken.timers s taken.links) (sym has.state);
  start = λ is. subst IsStart (sym has.state) (start_reversed (state_of taken.homes) (position (bytes_eq (string_bytes r.word)) taken.links) r.domain is);
}

-- ---- an event

abbrev with_events : Taken → List Event → List (Word × Bool) → Taken
with_events taken happened clients = record taken { events = happened; clients = clients }

not_empty : {X : Type 0} (xs : List X) (x : X) → false ≡ (length (xs ++ x ∷ []) == 0)
not_empty xs x = let size : length (xs ++ x ∷ []) ≡ length xs + 1 = length-append xs (x ∷ []) in grind (arith, nat_tests)

-- the head is over
abbrev known_with : Taken → List (Word × Bool) → Bool → Known
known_with taken clients head = record (known_of taken) { in_head = head; clients = clients }

known_then : (taken : Taken) (event : Event) (clients : List (Word × Bool)) → Some (known_with taken clients false) ≡ Some (known_of (with_events taken (taken.events ++ event ∷ []) clients))
known_then taken event clients = λ i. Some (known_with taken clients (not_empty taken.events event i))

-- an event may stand there as its word may
may-happen : (all : List Word) (taken : Taken) (e : EventLine) → may_stand all (known_of taken) (happening_said e) ≡ may_follow all (known_by taken.links taken.clients) (happening_said e)
may-happen all taken (event_lines.Hub event) = refl
may-happen all taken (event_lines.Link word event) = some-allowed _ _
may-happen all taken (event_lines.Call word call) = some-allowed _ _
may-happen all taken (event_lines.Passing word way) = some-allowed _ _
may-happen all taken (event_lines.Client word event) = some-allowed _ _
may-happen all taken (event_lines.Session word event) = some-allowed _ _

event_fits : (all : List Word) (taken : Taken) (e : EventLine) (x : Event) → may_stand all (known_of taken) (happening_said e) ≡ true
    → fits all (known_of taken) (happening_said e) ≡ Some (known_of (with_events taken (taken.events ++ x ∷ []) taken.clients))
event_fits all taken (event_lines.Hub event) x h = known_then taken x taken.clients
event_fits all taken (event_lines.Link word event) x h = allowed_some _ _ h ∙ known_then taken x taken.clients
event_fits all taken (event_lines.Call word call) x h = allowed_some _ _ h ∙ known_then taken x taken.clients
event_fits all taken (event_lines.Passing word way) x h = allowed_some _ _ h ∙ known_then taken x taken.clients
event_fits all taken (event_lines.Client word event) x h = allowed_some _ _ h ∙ known_then taken x taken.clients
event_fits all taken (event_lines.Session word event) x h = allowed_some _ _ h ∙ known_then taken x taken.clients

-- it happens, makes nothing of the head, and names no client that joins
event_happens : (e : EventLine) → happening (happening_said e ∷ []) ≡ happening_said e ∷ []
event_happens (event_lines.Hub event) = refl
event_happens (event_lines.Link word event) = refl
event_happens (event_lines.Call word call) = refl
event_happens (event_lines.Passing word way) = refl
event_happens (event_lines.Client word event) = refl
event_happens (event_lines.Session word event) = refl

event_heads : (head : Head) (e : EventLine) → with_head_line head (happening_said e) ≡ head
event_heads head (event_lines.Hub event) = refl
event_heads head (event_lines.Link word event) = refl
event_heads head (event_lines.Call word call) = refl
event_heads head (event_lines.Passing word way) = refl
event_heads head (event_lines.Client word event) = refl
event_heads head (event_lines.Session word event) = refl

pub none-joins : (e : EventLine) → client_word (happening_said e) ≡ None
none-joins (event_lines.Hub event) = refl
none-joins (event_lines.Link word event) = refl
none-joins (event_lines.Call word call) = refl
none-joins (event_lines.Passing word way) = refl
none-joins (event_lines.Client word event) = refl
none-joins (event_lines.Session word event) = refl

-- a line that happens, and its event
events-then : (front : List ScriptLine) (line : ScriptLine) (links joined : List Word) (clients : List (Word × Bool)) (happened : List Event) (x : Event) → event_said links clients x ≡ line → happening (line ∷ []) ≡ line ∷ []
    → IsNamed links clients joined x → AreEvents front links joined clients happened → AreEvents (front ++ line ∷ []) links (joined ++ option_to_list (client_word line)) clients (happened ++ x ∷ [])
events-then front line links joined clients happened x says happens named are =
    let more : each_said links clients (happened ++ x ∷ []) ≡ each_said links clients happened ++ line ∷ [] =
    map-append (event_said links clients) happened (x ∷ []) ∙ ap (λ (l : ScriptLine). each_said links clients happened ++ l ∷ []) says in
    record {
      happen =
          happening-more front line
          ∙ ap (λ (ls : List ScriptLine). happening front ++ ls) happens
          ∙ ap (λ (ls : List ScriptLine). ls ++ line ∷ []) are.happen
          ∙ sym more;
      named =
          ap (filter_map client_word) more
          ∙ filter_map-append client_word (each_said links clients happened) (line ∷ [])
          ∙ (λ i. are.named i ++ (onto_words (client_word line) [] ∙ append-nil (option_to_list (client_word line))) i);
      follow = follow-more links clients [] happened x are.follow (subst (λ (ws : List Word). IsNamed links clients ws x) (sym are.named) named);
    }

event_adds : (all : List Word) (taken : Taken) (e : EventLine) (x : Event) → may_stand all (known_of taken) (happening_said e) ≡ true → StandsFor taken.links taken.clients e x
    → Adds all taken (lines.Event e) (with_events taken (taken.events ++ x ∷ []) taken.clients)
event_adds all taken e x h stands =
    let joined = words_known taken.clients in
    let same : joined ++ option_to_list (client_word (happening_said e)) ≡ joined = ap (λ (o : Option Word). joined ++ option_to_list o) (none-joins e) ∙ append-nil joined in
    record {
      fit = event_fits all taken e x h;
      lines = λ front are. record {
        events = λ more. (
            let named = named-more taken.links joined taken.clients more x stands.1 in
            subst (λ (ws : List Word). AreEvents (front ++ happening_said e ∷ []) taken.links ws (taken.clients ++ more) (taken.events ++ x ∷ [])) same
            (events-then front (happening_said e) taken.links joined (taken.clients ++ more) taken.events x (named.0 ∙ stands.0) (event_happens e) named.1 (are.events more)));
        head = head-then front taken (happening_said e) are ∙ event_heads (head_taken taken) e;
        start = are.start;
        distinct = are.distinct;
      };
    }

-- ---- a client that joins

-- no client has the word of one that is new
among-known : (clients : List (Word × Bool)) (w : Word) → list_any (λ (v : Word). bytes_eq v w) (words_known clients) ≡ is_some (lone_in clients w)
among-known [] w = refl
among-known (e ∷ es) w = by (bytes_eq w e.0) refl (among-known es w)
  where
    either : (b : Bool) → bytes_eq w e.0 ≡ b → bytes_eq e.0 w ≡ b
    either true h = ap (bytes_eq e.0) (same_word w e.0 h) ∙ word_itself e.0
    either false h = other_way w e.0 h

    by : (b : Bool) → bytes_eq w e.0 ≡ b → list_any (λ (v : Word). bytes_eq v w) (words_known es) ≡ is_some (lone_in es w)
        → (bytes_eq e.0 w || list_any (λ (v : Word). bytes_eq v w) (words_known es)) ≡ is_some (option_map (λ (x : Word × Bool). x.1) (cond (bytes_eq w e.0) (Some e) (find (λ (x : Word × Bool). bytes_eq w x.0) es)))
    by true h rest = ap (λ (b : Bool). b || list_any (λ (v : Word). bytes_eq v w) (words_known es)) (either true h) ∙ ap (λ (b : Bool). is_some (option_map (λ (x : Word × Bool). x.1) (cond b (Some e) (find (λ (x : Word × Bool). bytes_eq w x.0) es)))) (sym h)
    by false h rest = ap (λ (b : Bool). b || list_any (λ (v : Word). bytes_eq v w) (words_known es)) (either false h) ∙ rest ∙ ap (λ (b : Bool). is_some (option_map (λ (x : Word × Bool). x.1) (cond b (Some e) (find (λ (x : Word × Bool). bytes_eq w x.0) es)))) (sym h)

not_true : (b : Bool) → not b ≡ true → b ≡ false
not_true true h = absurd cc
not_true false h = refl

distinct-new : (clients : List (Word × Bool)) (w : Word) → not (is_some (lone_in clients w)) ≡ true → AreDistinct (words_known clients) → AreDistinct (words_known clients ++ w ∷ [])
distinct-new clients w h d = distinct_push bytes_eq (words_known clients) w d (among-known clients w ∙ not_true (is_some (lone_in clients w)) h)

joining_adds : (all : List Word) (taken : Taken) (word : String Global) (is_lone : Bool) → may_stand all (known_of taken) (joining (string_bytes word) is_lone) ≡ true
    → Adds all taken (lines.Joining word is_lone) (with_events taken (taken.events ++ events.Joining (length taken.clients) ∷ []) (taken.clients ++ (string_bytes word, is_lone) ∷ []))
joining_adds all taken word is_lone h =
    let w = string_bytes word in
    let number = length taken.clients in
    let joined = words_known taken.clients in
    let then = taken.clients ++ (w, is_lone) ∷ [] in
    let words : words_known then ≡ joined ++ w ∷ [] = map-append (λ (e : Word × Bool). e.0) taken.clients ((w, is_lone) ∷ []) in
    record {
      fit = allowed_some _ _ h ∙ known_then taken (events.Joining number) then;
      lines = λ front are. record {
        events = λ more. (
            let whole = taken.clients ++ (w, is_lone) ∷ more in
            let same : whole ≡ then ++ more = sym (append_assoc taken.clients ((w, is_lone) ∷ []) more) in
            let here : client_at whole number ≡ (w, is_lone) = client-here taken.clients (w, is_lone) more in
            subst (λ (cs : List (Word × Bool)). AreEvents (front ++ joining w is_lone ∷ []) taken.links (words_known then) cs (taken.events ++ events.Joining number ∷ [])) same
            (subst (λ (ws : List Word). AreEvents (front ++ joining w is_lone ∷ []) taken.links ws whole (taken.events ++ events.Joining number ∷ [])) (sym words)
            (events-then front (joining w is_lone) taken.links joined whole taken.events (events.Joining number) (ap (λ (c : Word × Bool). joining c.0 c.1) here) refl (few-here taken.clients (w, is_lone) more) (are.events ((w, is_lone) ∷ more)))));
        head = head-then front taken (joining w is_lone) are;
        start = are.start;
        distinct = subst AreDistinct (sym words) (distinct-new taken.clients w (sym (some-allowed _ _) ∙ h) are.distinct);
      };
    }

-- ---- a line

moved : (all : List Word) (taken same later : Taken) (line : Line) → later ≡ same → Adds all taken line same → Adds all taken line later
moved all taken same later line e adds = subst (λ (t : Taken). Adds all taken line t) (sym e) adds

pub adds : (all : List Word) (taken later : Taken) (line : Line) → may_stand all (known_of taken) (said line) ≡ true → GrowsBy taken line later → Adds all taken line later
adds all taken later lines.Silent h grows = moved all taken taken later lines.Silent grows (silent_adds all taken)
adds all taken later (lines.Head line) h grows = by line h grows
  where
    by : (line : HeadLine) → may_stand all (known_of taken) (head_line (head_said line)) ≡ true → HeadGrowsBy taken line later → Adds all taken (lines.Head line) later
    by (heads.Timers t) h grows = moved all taken _ later (lines.Head (heads.Timers t)) grows (head_adds all taken (heads.Timers t) _ _ _ h (timers_added taken t))
    by (heads.Zone z) h grows = moved all taken _ later (lines.Head (heads.Zone z)) grows.1 (head_adds all taken (heads.Zone z) _ _ _ h (zone_added taken later.homes z grows.0))
    by (heads.Link l) h grows = moved all taken _ later (lines.Head (heads.Link l)) grows.1 (head_adds all taken (heads.Link l) _ _ _ h (link_added taken later.homes l grows.0))
    by (heads.Reverse r) h grows = moved all taken _ later (lines.Head (heads.Reverse r)) grows.1 (head_adds all taken (heads.Reverse r) _ _ _ h (reverse_added taken later.homes r grows.0))
adds all taken later (lines.Joining word is_lone) h grows = moved all taken _ later (lines.Joining word is_lone) grows (joining_adds all taken word is_lone h)
adds all taken later (lines.Event e) h grows = moved all taken _ later (lines.Event e) grows.2 (event_adds all taken e grows.0 h grows.1)
