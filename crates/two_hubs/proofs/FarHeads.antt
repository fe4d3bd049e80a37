-- The second hub begins with one zone, that of its line, and without a link.
--     far-head      the head of its lines
--     at-line      what is known at a line, which may stand there
--     far-among      the words of far clients are among those of all clients
use Rattle.std.proofs.Common.{◌≡◌, ℕ, ◌||◌, not, Bool, true, false, cond, List, [], ◌∷◌, ◌++◌, Some, None, refl, sym, ◌∙◌, ap, subst}
use Rattle.std.specs.List.{list_any, AllByRecursion}
use Rattle.std.specs.Str.{bytes_eq}
use Rattle.dnsname.specs.Names.{Labels}
use Rattle.dsotlv.proofs.Results.{same_found}
use Rattle.zoneupdate.specs.Zones.{new_zone}
use Rattle.zoneupdate.proofs.Filters.{and-right}
use Rattle.history.specs.States.{State}
use Rattle.scripts.specs.Heads.{Head, with_head_line, head_behind}
use Rattle.scripts.specs.Lines.{Word, ScriptLine, silent, timers, zone, link, reverse, head_line, joining, hub_event, link_event, client_call, client_passing, client_event, session_event}
use Rattle.scripts.specs.Scripts.{is_among}
use Rattle.scripts.specs.declared.line.HubEvent.TheVariants as hub_events
use Rattle.scripts.specs.WholeLines.{WholeLine, one, far_zone, far_client, carry, far_of, is_far_in, fars_behind}
use Rattle.scripts.specs.WholeScripts.{Carrier, BothKnown, fits_both, apex_in, fars_of, far_heads_from}
use Rattle.scripts.proofs.lines.SameWords.{same_word}
use Rattle.two_hubs.specs.HalfLaws.{FollowBoth, IsReadWhole}
use Rattle.two_hubs.proofs.Halved.{parts}

-- ---- the head

one-start : (is_far : Word → Bool) (head : Head) (line : ScriptLine) → (with_head_line head (far_of is_far (one line))).start ≡ head.start
one-start is_far head silent = refl
one-start is_far head (head_line (timers i k)) = refl
one-start is_far head (head_line (zone apex serial mode)) = refl
one-start is_far head (head_line (link w domain most)) = refl
one-start is_far head (head_line (reverse w domain)) = refl
one-start is_far head (joining w is_lone) = refl
one-start is_far head (hub_event (hub_events.At t)) = refl
one-start is_far head (hub_event (hub_events.Update message)) = refl
one-start is_far head (hub_event hub_events.Point) = refl
one-start is_far head (link_event w event) = refl
one-start is_far head (client_call w call) = by (is_far w || false)
  where
    by : (b : Bool) → (with_head_line head (cond b (client_call w call) silent)).start ≡ head.start
    by true = refl
    by false = refl
one-start is_far head (client_passing w way) = by (is_far w || false)
  where
    by : (b : Bool) → (with_head_line head (cond b (client_passing w way) silent)).start ≡ head.start
    by true = refl
    by false = refl
one-start is_far head (client_event w event) = by (is_far w || false)
  where
    by : (b : Bool) → (with_head_line head (cond b (client_event w event) silent)).start ≡ head.start
    by true = refl
    by false = refl
one-start is_far head (session_event w event) = by (is_far w || false)
  where
    by : (b : Bool) → (with_head_line head (cond b (session_event w event) silent)).start ≡ head.start
    by true = refl
    by false = refl

heads-none : (fars : List Word) (head : Head) (lines : List WholeLine) → apex_in lines ≡ None → (head_behind head (far_heads_from fars lines)).start ≡ head.start
heads-none fars head [] none = refl
heads-none fars head (one line ∷ lines) none = heads-none fars (with_head_line head (far_of (is_far_in fars) (one line))) lines none ∙ one-start (is_far_in fars) head line
heads-none fars head (far_zone apex serial ∷ lines) none = absurd cc
heads-none fars head (far_client w ∷ lines) none = heads-none (fars_behind fars (far_client w)) head lines none
heads-none fars head (carry w name written ∷ lines) none = heads-none fars head lines none

-- one zone more, that may be written
pub record IsFarHead (before later : State) (apex : Labels) : Type 0 where
  pub serial : ℕ
  pub zones : later.zones ≡ before.zones ++ new_zone apex serial true ∷ []
  pub links : later.links ≡ before.links

moved-head : (before middle later : State) (apex : Labels) → middle ≡ before → IsFarHead middle later apex → IsFarHead before later apex
moved-head before middle later apex same h = subst (λ (s : State). IsFarHead s later apex) same h

-- ---- lines that follow each other

pub record AtLine (all : List Word) (carriers : List Carrier) (fars : List Word) (line : WholeLine) : Type 0 where
  pub known : BothKnown
  pub later : BothKnown
  pub fits : fits_both all carriers known line ≡ Some later
  pub fars_are : known.fars ≡ fars

module _ (all : List Word) (carriers : List Carrier) where
  far-once : (known : BothKnown) (lines : List WholeLine) → FollowBoth all carriers known lines → known.has_far ≡ true → apex_in lines ≡ None
  far-once known [] f has = refl
  far-once known (one line ∷ lines) f has = far-once f.0 lines f.2 ((parts all carriers known f.0 (one line) f.1).has_far ∙ has)
  far-once known (far_zone apex serial ∷ lines) f has =
      let may : not known.has_far ≡ true = and-right known.in_head (not known.has_far) (parts all carriers known f.0 (far_zone apex serial) f.1).may in
      let wrong : false ≡ true = ap not (sym has) ∙ may in
      absurd cc
  far-once known (far_client w ∷ lines) f has = far-once f.0 lines f.2 ((parts all carriers known f.0 (far_client w) f.1).has_far ∙ has)
  far-once known (carry w name written ∷ lines) f has = far-once f.0 lines f.2 ((parts all carriers known f.0 (carry w name written) f.1).has_far ∙ has)

  pub far-head : (known : BothKnown) (fars : List Word) (head : Head) (lines : List WholeLine) (apex : Labels) → FollowBoth all carriers known lines → apex_in lines ≡ Some apex
      → IsFarHead head.start (head_behind head (far_heads_from fars lines)).start apex
  far-head known fars head [] apex f is = absurd cc
  far-head known fars head (one line ∷ lines) apex f is =
      let next : Head = with_head_line head (far_of (is_far_in fars) (one line)) in
      moved-head head.start next.start (head_behind next (far_heads_from fars lines)).start apex (one-start (is_far_in fars) head line) (far-head f.0 fars next lines apex f.2 is)
  far-head known fars head (far_zone name serial ∷ lines) apex f is =
      let next : Head = with_head_line head (head_line (zone name serial true)) in
      let start = heads-none fars next lines (far-once f.0 lines f.2 (parts all carriers known f.0 (far_zone name serial) f.1).has_far) in
      record {
        serial = serial;
        zones = ap (λ (s : State). s.zones) start ∙ ap (λ (n : Labels). head.start.zones ++ new_zone n serial true ∷ []) (same_found name apex is);
        links = ap (λ (s : State). s.links) start;
      }
  far-head known fars head (far_client w ∷ lines) apex f is = far-head f.0 (fars_behind fars (far_client w)) head lines apex f.2 is
  far-head known fars head (carry w name written ∷ lines) apex f is = far-head f.0 fars head lines apex f.2 is

  pub at-line : (known : BothKnown) (before : List WholeLine) (line : WholeLine) (after : List WholeLine) → FollowBoth all carriers known (before ++ line ∷ after) → AtLine all carriers (fars_of known.fars before) line
  at-line known [] line after f = record { known = known; later = f.0; fits = f.1; fars_are = refl }
  at-line known (l ∷ before) line after f =
      let p = parts all carriers known f.0 l f.1 in
      subst (λ (fars : List Word). AtLine all carriers (fars_of fars before) line) p.fars (at-line f.0 before line after f.2)

-- ---- words of far clients

abbrev AreAmong : List Word → List Word → Type 0
AreAmong all fars = AllByRecursion (λ w. is_among all w ≡ true) fars

among-more : (all fars : List Word) (w : Word) → AreAmong all fars → is_among all w ≡ true → AreAmong all (fars ++ w ∷ [])
among-more all [] w h there = (there, tt)
among-more all (v ∷ fars) w h there = (h.0, among-more all fars w h.1 there)

pub fars-among : (all fars : List Word) (lines : List WholeLine) → AreAmong all fars → AllByRecursion (IsReadWhole all) lines → AreAmong all (fars_of fars lines)
fars-among all fars [] h read = h
fars-among all fars (one line ∷ lines) h read = fars-among all fars lines h read.1
fars-among all fars (far_zone apex serial ∷ lines) h read = fars-among all fars lines h read.1
fars-among all fars (far_client w ∷ lines) h read = fars-among all (fars ++ w ∷ []) lines (among-more all fars w h (read.0.named w refl)) read.1
fars-among all fars (carry w name written ∷ lines) h read = fars-among all fars lines h read.1

-- one of these words is among all
pub far-among : (all fars : List Word) → AreAmong all fars → (w : Word) → is_far_in fars w ≡ true → is_among all w ≡ true
far-among all [] h w is = absurd cc
far-among all (v ∷ fars) h w is = by (bytes_eq w v) refl is (λ f. far-among all fars h.1 w f)
  where
    by : (b : Bool) → bytes_eq w v ≡ b → (b || list_any (bytes_eq w) fars) ≡ true → (list_any (bytes_eq w) fars ≡ true → is_among all w ≡ true) → is_among all w ≡ true
    by true same f others = subst (λ (x : Word). is_among all x ≡ true) (sym (same_word w v same)) h.0
    by false same f others = others f
