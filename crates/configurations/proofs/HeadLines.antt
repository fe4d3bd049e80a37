-- A line of a head that the program takes or refuses.
--     draft_takes      what is held, behind it
--     takes, refuses      it is taken where it may stand there, and refused otherwise
--     unread, outside      a line that isn't read, and one of events
use Rattle.std.proofs.Common.{◌≡◌, ℕ, Bool, true, false, cond, Option, Some, None, Result, Ok, Err, List, [], ◌∷◌, ◌++◌, refl, sym, ◌∙◌, ap}
use Rattle.std.specs.Prelude.{IfOk, is_some, option_map, string_bytes}
use Rattle.push_base.specs.Optional.{◌>>=◌}
use Rattle.history.specs.States.{State}
use Rattle.scripts.specs.Lines.{ScriptLine, line_of}
use Rattle.scripts.specs.Scripts.{Known, is_head, fits}
use Rattle.scripts.specs.Heads.{Head, with_head as with_head_of, with_head_line}
use Rattle.scripts.specs.Drafts.{Taken, TakesLine, HeadGrowsBy, GrowsBy, head_of, head_taken, known_of, may_stand, taken_of}
use Rattle.scripts.specs.KeptLines.{head_said, happening_said, said}
use Rattle.scripts.specs.TextLines.{Takes}
use Rattle.scripts.specs.declared.line.HeadLine.{HeadLine}
use Rattle.scripts.specs.declared.line.HeadLine.TheVariants as heads
use Rattle.scripts.specs.declared.line.EventLine.{EventLine}
use Rattle.scripts.specs.declared.line.EventLine.TheVariants as event_lines
use Rattle.scripts.specs.declared.line.Line.{Line}
use Rattle.scripts.specs.declared.line.Line.TheVariants as lines
use Rattle.scripts.specs.declared.script.Draft.{Draft}
use Rattle.scripts.proofs.lines.MoreLines.{adds}
use Rattle.configurations.specs.Configurations.{ServingDraft, head_line}
use Rattle.configurations.specs.Kept.{serving_drafted}
use Rattle.configurations.specs.declared.server_config.ServeDraft.{ServeDraft}

-- an event is no line of a head
no_event : (e : EventLine) → is_head (happening_said e) ≡ true → ⊥
no_event (event_lines.Hub event) h = cc
no_event (event_lines.Link word event) h = cc
no_event (event_lines.Call word call) h = cc
no_event (event_lines.Passing word way) h = cc
no_event (event_lines.Client word event) h = cc
no_event (event_lines.Session word event) h = cc

-- the head with a further line
pub head_grows : (taken later : Taken) (line : Line) → is_head (said line) ≡ true → GrowsBy taken line later → with_head_line (head_taken taken) (said line) ≡ head_taken later
head_grows taken later lines.Silent head grows = ap head_taken (sym grows)
head_grows taken later (lines.Head line) head grows = by line grows
  where
    by : (line : HeadLine) → HeadGrowsBy taken line later → with_head_of (head_taken taken) (head_said line) ≡ head_taken later
    by (heads.Timers t) grows = ap head_taken (sym grows)
    by (heads.Zone z) grows = ap (λ (s : State). head_of taken.timers s taken.links) (sym grows.0.state) ∙ ap head_taken (sym grows.1)
    by (heads.Link l) grows = ap (λ (s : State). head_of taken.timers s (taken.links ++ string_bytes l.word ∷ [])) (sym grows.0.state) ∙ ap head_taken (sym grows.1)
    by (heads.Reverse r) grows = ap (λ (s : State). head_of taken.timers s taken.links) (sym grows.0.state) ∙ ap head_taken (sym grows.1)
head_grows taken later (lines.Joining word is_lone) head grows = absurd cc
head_grows taken later (lines.Event e) head grows = absurd (no_event e head)

-- ---- a draft with a further line

abbrev with_head : ServingDraft → Head → Known → ServingDraft
with_head d head known = record d { head = head; known = known }

abbrev by_fit : ServingDraft → ScriptLine → Option Known → Option ServingDraft
by_fit d line fit = option_map (λ k. with_head d (with_head_line d.head line) k) fit

abbrev by_head : ServingDraft → ScriptLine → Bool → Option ServingDraft
by_head d line head = cond head (by_fit d line (fits [] d.known line)) None

abbrev pub by_line : ServingDraft → Option ScriptLine → Option ServingDraft
by_line d line = line >>= λ l. by_head d l (is_head l)

pub unread : (d : ServingDraft) (text : List ℕ) → None ≡ line_of text → head_line d text ≡ None
unread d text none = ap (by_line d) (sym none)

pub outside : (d : ServingDraft) (text : List ℕ) (line : ScriptLine) → Some line ≡ line_of text → is_head line ≡ false → head_line d text ≡ None
outside d text line is event = ap (by_line d) (sym is) ∙ ap (by_head d line) event

module _ (d : ServingDraft) (text : List ℕ) (taken : Taken) (line : Line) (head_is : d.head ≡ head_taken taken) (known_is : d.known ≡ known_of taken) (is : Some (said line) ≡ line_of text) (head : is_head (said line) ≡ true) where
  here : head_line d text ≡ by_fit d (said line) (fits [] d.known (said line))
  here = ap (by_line d) (sym is) ∙ ap (by_head d (said line)) head

  pub refuses : may_stand [] (known_of taken) (said line) ≡ false → head_line d text ≡ None
  refuses refused = here ∙ ap (by_fit d (said line)) (none_of _ (ap (λ (k : Known). is_some (fits [] k (said line))) known_is ∙ refused))
    where
      none_of : (o : Option Known) → is_some o ≡ false → o ≡ None
      none_of None e = refl
      none_of (Some k) e = absurd cc

  pub takes : (later : Taken) → may_stand [] (known_of taken) (said line) ≡ true → GrowsBy taken line later → head_line d text ≡ Some (with_head d (head_taken later) (known_of later))
  takes later may grows =
      here
      ∙ ap (by_fit d (said line)) (ap (λ (k : Known). fits [] k (said line)) known_is ∙ (adds [] taken later line may grows).fit)
      ∙ ap (λ (h : Head). Some (with_head d h (known_of later))) (ap (λ (h : Head). with_head_line h (said line)) head_is ∙ head_grows taken later line head grows)

-- ---- what is held

abbrev with_draft : ServeDraft → Draft → ServeDraft
with_draft d head = record d { head = head }

-- the draft behind a line of a head
pub draft_takes : {E : Type 0} (d : ServeDraft) (text : List ℕ) (line : Line) → Some (said line) ≡ line_of text → is_head (said line) ≡ true → (head_then : Draft) (result : Result Bool E)
    → IfOk result (λ taken. TakesLine [] d.head line head_then taken) → IfOk result (λ taken. Takes (head_line (serving_drafted d) text) (serving_drafted (with_draft d head_then)) taken)
draft_takes d text line is head head_then (Err e) took = tt
draft_takes d text line is head head_then (Ok true) took = takes (serving_drafted d) text (taken_of d.head) line refl refl is head (taken_of head_then) took.0 took.1
draft_takes d text line is head head_then (Ok false) took = refuses (serving_drafted d) text (taken_of d.head) line refl refl is head took
