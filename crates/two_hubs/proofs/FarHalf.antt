-- The lines of the second half, with the updates that carries make, are those of a script.
--     far-lines
use Rattle.std.proofs.Common.{◌≡◌, ℕ, suc, ◌≤◌, Bool, true, false, cond, not, ◌&&◌, ◌||◌, List, [], ◌∷◌, length, Option, Some, None, refl, sym, ap, subst, ◌∙◌}
use Rattle.std.specs.List.{AllByRecursion}
use Rattle.dsotlv.proofs.Results.{same_found}
use Rattle.relay.specs.declared.relay.Relayed.{Relayed}
use Rattle.relay.specs.declared.relay.Relayed.TheVariants.{Apex, Outside, Unfit, Message}
use Rattle.scripts.specs.Lines.{Word, ScriptLine, silent, timers, zone, link, reverse, head_line, joining, hub_event}
use Rattle.scripts.specs.declared.line.HubEvent.TheVariants.{Update}
use Rattle.scripts.specs.Scripts.{Known, nothing_known, fits, is_head}
use Rattle.replay.specs.TextWords.{by_history}
use Rattle.script_laws.specs.Lines.{AreWritten, IsRead, Follow}
use Rattle.scripts.specs.WholeLines.{WholeLine, one, far_zone, far_client, carry, far_of, names_far, is_of_both, is_far_in, fars_behind}
use Rattle.scripts.specs.WholeScripts.{Carrier, BothKnown, none_known, is_whole_head}
use Rattle.replay.specs.TwoWorlds.{Worlds, start_worlds, lines_do, far_line_at, carry_of, line_of_relayed, far_lines_after}
use Rattle.two_hubs.specs.Carrying.{MakesWritten, CarriesAreWritten}
use Rattle.two_hubs.specs.HalfLaws.{FollowBoth, IsReadWhole, FarAreLines}
use Rattle.two_hubs.proofs.Halved.{Parts, parts, silent-read}

-- ---- behind an event

abbrev unhead : Known → Known
unhead k = record k { in_head = false }

-- an event may stand where it may, whether or not another one came before
event-fits : (all : List Word) (k : Known) (line : ScriptLine) → is_head line ≡ false → fits all (unhead k) line ≡ fits all k line
event-fits all k silent e = absurd cc
event-fits all k (head_line line) e = absurd cc
event-fits all k _ e = refl

-- what is known of the second hub's lines with the updates, and without them
data Stands (known : BothKnown) (k : Known) : Type 0 where
  same : k ≡ known.far → Stands known k
  behind : known.in_head ≡ false → k ≡ unhead known.far → Stands known k

-- ---- a line

record Leads (all : List Word) (k : Known) (line : ScriptLine) (later : BothKnown) : Type 0 where
  pub next : Known
  pub fits : fits all k line ≡ Some next
  pub stands : Stands later next

-- an event, a line that says nothing, and a head line where no event was
event-leads : (all : List Word) (known later : BothKnown) (k : Known) (line : ScriptLine) → Stands known k → fits all known.far line ≡ Some later.far → is_head line ≡ false → Leads all k line later
event-leads all known later k line (same is) f e = record { next = later.far; fits = subst (λ (x : Known). fits all x line ≡ Some later.far) (sym is) f; stands = same refl }
event-leads all known later k line (behind h is) f e = record { next = later.far; fits = subst (λ (x : Known). fits all x line ≡ Some later.far) (sym is) (event-fits all known.far line e ∙ f); stands = same refl }

head-leads : (all : List Word) (known later : BothKnown) (k : Known) (line : ScriptLine) → Stands known k → fits all known.far line ≡ Some later.far → known.in_head ≡ true → Leads all k line later
head-leads all known later k line (same is) f e = record { next = later.far; fits = subst (λ (x : Known). fits all x line ≡ Some later.far) (sym is) f; stands = same refl }
head-leads all known later k line (behind h is) f e = let wrong : true ≡ false = sym e ∙ h in absurd cc

silent-leads : (all : List Word) (known later : BothKnown) (k : Known) → Stands known k → Some known.far ≡ Some later.far → (known.in_head ≡ false → later.in_head ≡ false) → Leads all k silent later
silent-leads all known later k (same is) f stays = record { next = k; fits = refl; stands = same (is ∙ same_found known.far later.far f) }
silent-leads all known later k (behind h is) f stays = record { next = k; fits = refl; stands = behind (stays h) (is ∙ ap unhead (same_found known.far later.far f)) }

carry-leads : (all : List Word) (known later : BothKnown) (k : Known) (octets : List ℕ) → Stands known k → Some known.far ≡ Some later.far → later.in_head ≡ false → Leads all k (hub_event (Update octets)) later
carry-leads all known later k octets (same is) f e = record { next = unhead k; fits = refl; stands = behind e (ap unhead (is ∙ same_found known.far later.far f)) }
carry-leads all known later k octets (behind h is) f e = record { next = unhead k; fits = refl; stands = behind e (ap unhead is ∙ ap unhead (same_found known.far later.far f)) }

-- ---- each line

module _ (all : List Word) (carriers : List Carrier) (known later : BothKnown) (k : Known) (stands : Stands known k) where
  ends-head : (line : WholeLine) → Parts all carriers known later line → is_whole_head line ≡ false → later.in_head ≡ false
  ends-head line p event = p.in_head ∙ ap (λ (b : Bool). known.in_head && b) event ∙ by known.in_head
    where
      by : (b : Bool) → (b && false) ≡ false
      by true = refl
      by false = refl

  stays-out : (line : WholeLine) → Parts all carriers known later line → known.in_head ≡ false → later.in_head ≡ false
  stays-out line p out = p.in_head ∙ ap (λ (b : Bool). b && is_whole_head line) out

  -- of a line that one hub has
  event-of : (line : ScriptLine) → Parts all carriers known later (one line) → is_head line ≡ false → (b : Bool) → fits all known.far (cond b line silent) ≡ Some later.far → Leads all k (cond b line silent) later
  event-of line p event true f = event-leads all known later k line stands f event
  event-of line p event false f = silent-leads all known later k stands f (stays-out (one line) p)

  one-leads : (line : ScriptLine) → Parts all carriers known later (one line) → Leads all k (far_of (is_far_in known.fars) (one line)) later
  one-leads silent p = silent-leads all known later k stands p.far (stays-out (one silent) p)
  one-leads (head_line (timers i q)) p = head-leads all known later k (head_line (timers i q)) stands p.far p.may
  one-leads (head_line (zone apex serial mode)) p = silent-leads all known later k stands p.far (stays-out (one (head_line (zone apex serial mode))) p)
  one-leads (head_line (link w domain most)) p = silent-leads all known later k stands p.far (stays-out (one (head_line (link w domain most))) p)
  one-leads (head_line (reverse w domain)) p = silent-leads all known later k stands p.far (stays-out (one (head_line (reverse w domain))) p)
  one-leads line p = event-of line p refl (names_far (is_far_in known.fars) line || is_of_both line) p.far

  carry-of : (w : Word) (name : List (List ℕ)) (written : List ℕ) → Parts all carriers known later (carry w name written) → (o : Option Relayed) → Leads all k (line_of_relayed o) later
  carry-of w name written p None = silent-leads all known later k stands p.far (stays-out (carry w name written) p)
  carry-of w name written p (Some Apex) = silent-leads all known later k stands p.far (stays-out (carry w name written) p)
  carry-of w name written p (Some Outside) = silent-leads all known later k stands p.far (stays-out (carry w name written) p)
  carry-of w name written p (Some (Unfit kind)) = silent-leads all known later k stands p.far (stays-out (carry w name written) p)
  carry-of w name written p (Some (Message octets)) = carry-leads all known later k octets stands p.far (ends-head (carry w name written) p refl)

  far-zone : (apex : List (List ℕ)) (serial : ℕ) → Parts all carriers known later (far_zone apex serial) → Leads all k (head_line (zone apex serial true)) later
  far-zone apex serial p = head-leads all known later k (head_line (zone apex serial true)) stands p.far (first known.in_head (not known.has_far) p.may)
    where
      first : (a b : Bool) → (a && b) ≡ true → a ≡ true
      first true b e = refl
      first false b e = absurd cc

  step : (line : WholeLine) (worlds : Worlds) → worlds.fars ≡ known.fars → Parts all carriers known later line → Leads all k (far_line_at by_history worlds line) later
  step (one line) worlds fars p = subst (λ (f : List Word). Leads all k (far_of (is_far_in f) (one line)) later) (sym fars) (one-leads line p)
  step (far_zone apex serial) worlds fars p = far-zone apex serial p
  step (far_client w) worlds fars p = event-leads all known later k (joining w false) stands p.far refl
  step (carry w name written) worlds fars p = carry-of w name written p (carry_of by_history worlds w name)

far-follow : (all : List Word) (carriers : List Carrier) (known : BothKnown) (k : Known) (lines : List WholeLine) (worlds : Worlds) → Stands known k → worlds.fars ≡ known.fars → FollowBoth all carriers known lines
    → Follow all k (far_lines_after by_history lines worlds)
far-follow all carriers known k [] worlds stands fars f = tt
far-follow all carriers known k (line ∷ lines) worlds stands fars f =
    let p = parts all carriers known f.0 line f.1 in
    let l = step all carriers known f.0 k stands line worlds fars p in
    (l.next, l.fits, far-follow all carriers f.0 l.next lines (lines_do by_history line worlds).0 l.stands (ap (λ (ws : List Word). fars_behind ws line) fars ∙ sym p.fars) f.2)

-- ---- what was read

far-read : (all : List Word) (is_far : Word → Bool) (line : WholeLine) → IsReadWhole all line → IsRead all (far_of is_far line)
far-read all is_far (one line) h = by (names_far is_far line || is_of_both line)
  where
    by : (b : Bool) → IsRead all (cond b line silent)
    by true = record { within = h.within; named = h.named }
    by false = silent-read all
far-read all is_far (far_zone apex serial) h = record { within = h.within; named = λ w e. absurd cc }
far-read all is_far (far_client w) h = record { within = h.within; named = λ v e. h.named v e }
far-read all is_far (carry w name written) h = silent-read all

carry-read : (all : List Word) (o : Option Relayed) → ((octets : List ℕ) → o ≡ Some (Message octets) → AreWritten octets) → IsRead all (line_of_relayed o)
carry-read all None h = silent-read all
carry-read all (Some Apex) h = silent-read all
carry-read all (Some Outside) h = silent-read all
carry-read all (Some (Unfit kind)) h = silent-read all
carry-read all (Some (Message octets)) h = record { within = h octets refl; named = λ w e. absurd cc }

line-read : (all : List Word) (line : WholeLine) (worlds : Worlds) → IsReadWhole all line → MakesWritten worlds line → IsRead all (far_line_at by_history worlds line)
line-read all (one line) worlds h m = far-read all (is_far_in worlds.fars) (one line) h
line-read all (far_zone apex serial) worlds h m = far-read all (is_far_in worlds.fars) (far_zone apex serial) h
line-read all (far_client w) worlds h m = far-read all (is_far_in worlds.fars) (far_client w) h
line-read all (carry w name written) worlds h m = carry-read all (carry_of by_history worlds w name) m

lines-read : (all : List Word) (lines : List WholeLine) (worlds : Worlds) → AllByRecursion (IsReadWhole all) lines → CarriesAreWritten lines worlds → AllByRecursion (IsRead all) (far_lines_after by_history lines worlds)
lines-read all [] worlds h m = tt
lines-read all (line ∷ lines) worlds h m = (line-read all line worlds h.0 m.0, lines-read all lines (lines_do by_history line worlds).0 h.1 m.1)

far-length : (lines : List WholeLine) (worlds : Worlds) → length (far_lines_after by_history lines worlds) ≡ length lines
far-length [] worlds = refl
far-length (line ∷ lines) worlds = ap suc (far-length lines (lines_do by_history line worlds).0)

pub far-lines : FarAreLines
far-lines script are written = record {
  all = are.all;
  words = are.words;
  follow = far-follow are.all are.carriers none_known nothing_known script (start_worlds script) (same refl) refl are.follow;
  read = lines-read are.all script (start_worlds script) are.read written;
  few = subst (λ (n : ℕ). n ≤ 16777216) (sym (far-length script (start_worlds script))) are.few;
}
