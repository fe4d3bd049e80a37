-- A script that may have a second hub, by the lines that were taken.
--     begun      before the first line
--     unread, read      a line outside the grammar, and one of it
--     told      how far the lines were taken
--     outside, ends      a line is outside; all were taken
use Rattle.std.proofs.Common.{◌≡◌, ℕ, ◌+◌, Bool, ◌==◌, Option, Some, None, Result, Ok, Err, IfOk, List, [], length, refl, sym, ◌∙◌, ap, subst, arith}
use Rattle.std.specs.Prelude.{filter_map, is_some}
use Rattle.std.proofs.lemmas.List.{append-nil}
use Rattle.push_base.specs.Optional.{◌>>=◌}
use Rattle.dsosession.specs.declared.session.Timers.{Timers}
use Rattle.history.specs.Kept.{HomesKept, state_of}
use Rattle.history.specs.Plans.{IsStart}
use Rattle.scripts.specs.Lines.{Word, ScriptLine}
use Rattle.scripts.specs.Scripts.{client_word, lines_in, AreDistinct}
use Rattle.scripts.specs.TextLines.{is_too_long, lines_taken, TakesHeld, TakesLines}
use Rattle.scripts.specs.Heads.{Head}
use Rattle.scripts.specs.declared.text_lines.TakenLines.{TakenLines}
use Rattle.scripts.specs.declared.script.Script.{Script}
use Rattle.scripts.specs.declared.whole_script.WholeDraft.{WholeDraft}
use Rattle.scripts.specs.declared.whole_script.WholeScript.{WholeScript}
use Rattle.scripts.specs.KeptLines.{words_of}
use Rattle.scripts.specs.Events.{known_clients, words_known, each_said, Follow}
use Rattle.scripts.specs.KeptScripts.{IsScript, events_said, head_kept}
use Rattle.scripts.specs.Drafts.{Taken, nothing_taken, taken_of, known_of, head_of, AreEvents, HaveMade}
use Rattle.scripts.specs.Carrying.{alone_in}
use Rattle.scripts.specs.WholeLines.{WholeLine, whole_line_of}
use Rattle.scripts.specs.WholeScripts.{all_made, all_carried, carries_alone, WholeSoFar, none_so_far, whole_next, whole_step, whole_script_of}
use Rattle.scripts.specs.KeptWhole.{IsOf, IsWholeScript, HoldsWhole, TakesWhole}
use Rattle.scripts.proofs.lines.LineByLine.{count}
use Rattle.scripts.proofs.lines.MoreLines.{no_lines}

-- ---- a draft

abbrev pub at_first : List ℕ → WholeSoFar
at_first octets = none_so_far (all_made octets) (all_carried octets)

-- a draft of no lines
pub record IsBegun (octets : List ℕ) (draft : WholeDraft) : Type 0 where
  pub clients : draft.clients ≡ all_made octets
  pub carriers : alone_in draft.carriers ≡ carries_alone (all_carried octets)
  pub near : taken_of draft.near ≡ nothing_taken
  pub far : taken_of draft.far ≡ nothing_taken
  pub apex : draft.apex ≡ None
  pub turns : draft.turns.items ≡ []

pub begun : (octets : List ℕ) (draft : WholeDraft) → IsBegun octets draft → HoldsWhole draft (at_first octets)
begun octets draft is = record {
  all = sym is.clients;
  carriers = sym is.carriers;
  known = λ i. record { in_head = length (sym is.turns i) == 0; near = known_of (sym is.near i); far = known_of (sym is.far i); has_far = is_some (sym is.apex i); fars = words_known (sym is.far i).clients };
  fars = refl;
  near = subst (HaveMade []) (sym is.near) no_lines;
  far = subst (HaveMade []) (sym is.far) no_lines;
  apex = sym is.apex;
  turns = sym is.turns;
}

-- a line outside the grammar
pub unread : (so_far : WholeSoFar) (text : List ℕ) → None ≡ whole_line_of text → whole_step so_far text ≡ None
unread so_far text none = ap (λ (o : Option WholeLine). o >>= whole_next so_far) (sym none)

-- one of it
pub read : {E : Type 0} (draft later : WholeDraft) (text : List ℕ) (line : WholeLine) (result : Result Bool E) → Some line ≡ whole_line_of text → IfOk result (λ taken. TakesWhole draft line later taken)
    → IfOk result (λ taken. (so_far : WholeSoFar) → HoldsWhole draft so_far → TakesHeld (whole_step so_far text) (HoldsWhole later) taken)
read draft later text line (Err e) is took = tt
read draft later text line (Ok taken) is took = λ so_far held. subst (λ (o : Option WholeLine). TakesHeld (o >>= whole_next so_far) (HoldsWhole later) taken) is (took so_far held)

-- ---- the end of the script

abbrev pub lines_made : Result (WholeSoFar × ℕ) ℕ → Result (List WholeLine) ℕ
lines_made (Err n) = Err n
lines_made (Ok all) = Ok all.0.lines

pub script_is : (octets : List ℕ) → whole_script_of octets ≡ lines_made (lines_taken whole_step (at_first octets) octets)
script_is octets = refl

pub outside : (octets : List ℕ) (n : ℕ) → lines_taken whole_step (at_first octets) octets ≡ Err n → whole_script_of octets ≡ Err n
outside octets n e = script_is octets ∙ ap lines_made e

abbrev head_by : Timers → HomesKept → List Word → Head
head_by t homes links = record { timers = t; start = state_of homes; links = links }

-- what is said to one hub
half : (lines_count : ℕ) (script : Script) (taken : Taken) (lines : List ScriptLine) → IsOf lines_count script taken → HaveMade lines taken → IsScript lines script
half lines_count script taken lines of made =
    let are = subst (λ (cs : List (Word × Bool)). AreEvents lines taken.links (words_known taken.clients) cs taken.events) (append-nil taken.clients) (made.events []) in
    let happen : each_said taken.links taken.clients taken.events ≡ events_said script = λ i. each_said (sym of.links i) (sym of.clients i) (sym of.events i) in
    let head : head_kept script ≡ head_of taken.timers (state_of taken.homes) taken.links = λ i. head_by (of.timers i) (of.homes i) (of.links i) in
    let same : taken ≡ record taken { links = words_of script.links.items; clients = known_clients script.clients.items; events = script.events.items } = λ i. record taken { links = sym of.links i; clients = sym of.clients i; events = sym of.events i } in
    record {
      head = head ∙ sym made.head;
      events = are.happen ∙ happen;
      start = subst (λ (hs : HomesKept). IsStart (state_of hs)) (sym of.homes) made.start;
      distinct = subst AreDistinct (sym are.named ∙ ap (filter_map client_word) happen) made.distinct;
      follow = subst (λ (t : Taken). Follow t.links t.clients [] t.events) same are.follow;
    }

-- all lines were taken, and what they have made is held
abbrev pub AllTaken : List ℕ → WholeDraft → ℕ → Type 0
AllTaken octets draft behind = (so_far : WholeSoFar) × HoldsWhole draft so_far × (lines_taken whole_step (at_first octets) octets ≡ Ok (so_far, behind))

-- what is told of the lines, from the first one on
pub told : (octets : List ℕ) (draft later : WholeDraft) (taken : TakenLines) → IsBegun octets draft
    → ((so_far : WholeSoFar) → HoldsWhole draft so_far → TakesLines (lines_taken whole_step so_far octets) (HoldsWhole later) taken)
    → (far : TakenLines) → taken ≡ far → TakesLines (lines_taken whole_step (at_first octets) octets) (HoldsWhole later) far
told octets draft later taken is took far same = subst (TakesLines (lines_taken whole_step (at_first octets) octets) (HoldsWhole later)) same (took (at_first octets) (begun octets draft is))

-- the number behind the last line
pub behind_is : (octets : List ℕ) (draft : WholeDraft) (behind : ℕ) → AllTaken octets draft behind → behind ≡ 1 + length (lines_in octets)
behind_is octets draft behind all = count whole_step (is_too_long octets) 1 (at_first octets) (lines_in octets) (all.0, behind) all.2

-- the script of what was taken
pub record Finishes (draft : WholeDraft) (lines_count : ℕ) (script : WholeScript) : Type 0 where
  pub near : IsOf lines_count script.near (taken_of draft.near)
  pub far : IsOf lines_count script.far (taken_of draft.far)
  pub apex : script.apex ≡ draft.apex
  pub turns : script.turns.items ≡ draft.turns.items

pub ends : (octets : List ℕ) (draft : WholeDraft) (behind lines_count : ℕ) (script : WholeScript) → Finishes draft lines_count script → lines_count + 1 ≡ behind → AllTaken octets draft behind → IsWholeScript octets script
ends octets draft behind lines_count script of lines all =
    let held = all.1 in
    let counted : lines_count ≡ length (lines_in octets) = (let number = behind_is octets draft behind all in omega (arith, lines, number)) in
    record {
      lines = all.0.lines;
      read = script_is octets ∙ ap lines_made all.2;
      count = of.near.lines ∙ counted;
      near = half lines_count script.near (taken_of draft.near) _ of.near held.near;
      far = half lines_count script.far (taken_of draft.far) _ of.far held.far;
      apex = held.apex ∙ sym of.apex;
      turns = held.turns ∙ sym of.turns;
    }
