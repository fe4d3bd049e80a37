-- A script of two hubs before its first turn, and behind its last.
--     plays-begin      before the first turn
--     play-comes, play-turns      the next turn
--     play-ended, text-played      what is told of it behind the last
--     of-made, if-made, is-staged      what holds of what was made, where it was
use Rattle.std.proofs.Common.{◌≡◌, ℕ, ◌+◌, ◌<◌, ◌≤◌, List, [], ◌∷◌, ◌++◌, length, drop, get_or, Result, Ok, Err, IfOk, Global, arith, string_bytes, sym, ◌∙◌, ap, subst, refl}
use Rattle.std.proofs.lemmas.List.{at_drop_more, drop_all}
use Rattle.std.specs.declared.string.String.{String}
use Rattle.history.specs.Kept.{state_of}
use Rattle.scripts.specs.Lines.{Word}
use Rattle.scripts.specs.KeptLines.{words_of}
use Rattle.scripts.specs.WholeLines.{WholeLine}
use Rattle.scripts.specs.WholeScripts.{near_lines, far_heads}
use Rattle.scripts.specs.declared.whole_script.Turn.{Turn}
use Rattle.scripts.specs.declared.whole_script.WholeScript.{WholeScript}
use Rattle.hubasking.specs.LinkAskings.{Askings}
use Rattle.replay.specs.World.{World, start_world}
use Rattle.replay.specs.TextWords.{by_notices}
use Rattle.replay.specs.Askings.{AreOrdered, lines_asks, start_askings}
use Rattle.replay.specs.TwoWorlds.{Worlds, start_worlds, worlds_after}
use Rattle.replay.specs.WholeTexts.{whole_text_by}
use Rattle.replay.specs.KeptScripts.{askings_at_start, world_at_start}
use Rattle.replay.specs.KeptWorlds.{IsWorld}
use Rattle.replay.specs.declared.two_worlds.Worlds as program
use Rattle.replay.specs.declared.script_text.Played.{Played}
use Rattle.replay.specs.declared.script_text.Stage.{Stage}
use Rattle.replay.specs.KeptStages.{HasPlayed, IsStaged}
use Rattle.scripts.specs.declared.script.Script.{Script}
use Rattle.replay.specs.KeptTwoWorlds.{AreLeft, AreWorlds, HasSameClients, TellsLines, TurnComes, TurnRuns}
use Rattle.replay.proofs.asking.Ordered.{start-ordered}
use Rattle.replay.proofs.worlds.Happening.{starts-so, asks-so}
use Rattle.replay.specs.KeptPlays.{IsHalf, IsPlayed, Last, Plays, last_from, last_of, whole_from}
use Rattle.replay.proofs.halves.HalfLines.{half-begins}
use Rattle.replay.proofs.halves.Played.{IsReady, ready, HasEnded, ended}
use Rattle.replay.proofs.halves.TurnsDone.{comes, plays}

-- what is left before the first turn
abbrev pub all_left : WholeScript → AreLeft
all_left script = record { near_clients = script.near.clients.items; near = script.near.events.items; far_clients = script.far.clients.items; far = script.far.events.items }

module _ (script : WholeScript) where
  pub plays-begin : (kept : program.Worlds) (left : AreLeft) (turns : List Turn) (text : List ℕ) → left ≡ all_left script → turns ≡ script.turns.items → text ≡ [] → IsWorld kept.near (world_at_start script.near) → IsWorld kept.far (world_at_start script.far)
      → kept.near.hub.askings ≡ askings_at_start script.near → kept.far.hub.askings ≡ askings_at_start script.far → kept.apex ≡ script.apex → kept.order.items ≡ [] → Plays script kept left turns text
  unfolding Plays
  plays-begin kept left turns text left_is turns_are none near far near_asks far_asks apex order lines tells =
      let near_start : world_at_start script.near ≡ start_world (near_lines lines) = starts-so (near_lines lines) script.near tells.near in
      let far_start : world_at_start script.far ≡ start_world (far_heads lines) = starts-so (far_heads lines) script.far tells.far in
      let asked : kept.near.hub.askings ≡ start_askings (near_lines lines) = near_asks ∙ asks-so (near_lines lines) script.near tells.near in
      record {
        lines = lines;
        played = record {
          worlds = start_worlds lines;
          stands = record { near = subst (IsWorld kept.near) near_start near; far = subst (IsWorld kept.far) far_start far; apex = apex ∙ sym tells.apex; order = order };
          near_half = subst (λ (l : AreLeft). IsHalf (words_of script.near.links.items) l.near_clients (start_world (near_lines lines)) (near_lines lines) l.near) (sym left_is)
              (subst (λ (v : World). IsHalf (words_of script.near.links.items) script.near.clients.items v (near_lines lines) script.near.events.items) near_start (half-begins (near_lines lines) script.near tells.near));
          far_half = subst (λ (l : AreLeft). IsHalf (words_of script.far.links.items) l.far_clients (start_world (far_heads lines)) (far_heads lines) l.far) (sym left_is)
              (subst (λ (v : World). IsHalf (words_of script.far.links.items) script.far.clients.items v (far_heads lines) script.far.events.items) far_start (half-begins (far_heads lines) script.far tells.far));
          come = tells.turns ∙ sym turns_are;
          near_ordered = subst AreOrdered (sym near_asks) (start-ordered (state_of script.near.homes));
          far_ordered = subst AreOrdered (sym far_asks) (start-ordered (state_of script.far.homes));
          said = ap (λ (t : List ℕ). t ++ whole_from (start_worlds lines) kept.near.hub.askings lines) none ∙ ap (λ (a : Askings). whole_from (start_worlds lines) a lines) asked;
          leads = ap (λ (a : Askings). last_from (start_worlds lines) a lines) asked;
        };
      }

  -- the turns from a place on
  at-place : (turns : List Turn) (i : ℕ) (turn : Turn) → i < length turns → turn ≡ get_or turns i turn → drop i turns ≡ turn ∷ drop (i + 1) turns
  at-place turns i turn within is = at_drop_more (λ (ts : List Turn). ts) turns i turn within ∙ ap (λ (t : Turn). t ∷ drop (i + 1) turns) (sym is)

  pub play-comes : (kept : program.Worlds) (left : AreLeft) (turns : List Turn) (i : ℕ) (turn : Turn) (text : List ℕ) → ((lines : List WholeLine) × TellsLines lines script) → i < length turns → turn ≡ get_or turns i turn
      → Plays script kept left (drop i turns) text → TurnComes turn kept left
  unfolding Plays
  play-comes kept left turns i turn text there within is play =
      let near_links = words_of script.near.links.items in
      let far_links = words_of script.far.links.items in
      let whole = whole_text_by by_notices there.0 in
      let last = last_of there.0 in
      let p = play there.0 there.1 in
      comes near_links far_links kept left turn (drop (i + 1) turns) text whole last
      (ready near_links far_links p.lines kept left turn (drop (i + 1) turns) text whole last
      (subst (λ (ts : List Turn). IsPlayed near_links far_links p.lines kept left ts text whole last) (at-place turns i turn within is) p.played))

  pub play-turns : (before after : program.Worlds) (left later : AreLeft) (turns : List Turn) (i : ℕ) (turn : Turn) (text now written : List ℕ) → i < length turns → turn ≡ get_or turns i turn → HasSameClients left later → TurnRuns turn before left written after later
      → now ≡ text ++ written → Plays script before left (drop i turns) text → Plays script after later (drop (i + 1) turns) now
  unfolding Plays
  play-turns before after left later turns i turn text now written within is same runs now_is play lines tells =
      let near_links = words_of script.near.links.items in
      let far_links = words_of script.far.links.items in
      let whole = whole_text_by by_notices lines in
      let last = last_of lines in
      let p = play lines tells in
      let r = ready near_links far_links p.lines before left turn (drop (i + 1) turns) text whole last
      (subst (λ (ts : List Turn). IsPlayed near_links far_links p.lines before left ts text whole last) (at-place turns i turn within is) p.played) in
      record { lines = r.lines; played = plays near_links far_links before after left later turn (drop (i + 1) turns) text now written whole last r same runs now_is }

  pub play-ended : (kept : program.Worlds) (left : AreLeft) (turns : List Turn) (i : ℕ) (text : List ℕ) → length turns ≤ i → Plays script kept left (drop i turns) text → (lines : List WholeLine) → TellsLines lines script
      → HasEnded kept text (whole_text_by by_notices lines) (last_of lines)
  unfolding Plays
  play-ended kept left turns i text all play lines tells =
      let near_links = words_of script.near.links.items in
      let far_links = words_of script.far.links.items in
      let p = play lines tells in
      ended near_links far_links p.lines kept left text (whole_text_by by_notices lines) (last_of lines)
      (subst (λ (ts : List Turn). IsPlayed near_links far_links p.lines kept left ts text (whole_text_by by_notices lines) (last_of lines)) (drop_all i turns all) p.played)

-- what is told where there is a text
pub text-played : {E : Type 0} (script : WholeScript) (kept : program.Worlds) (left : AreLeft) (text : Result (String Global) E) (r : Result Played E) → IfOk text (λ t. Plays script kept left [] (string_bytes t))
    → IfOk r (λ played. (text ≡ Ok played.text) × (played.worlds ≡ kept)) → (lines : List WholeLine) → TellsLines lines script → IfOk r (λ played. HasPlayed lines played)
text-played {E} script kept left text (Ok p) plays is lines tells =
    let last = play-ended script kept left [] 0 (string_bytes p.text) (omega arith) (subst (λ (t : Result (String Global) E). IfOk t (λ u. Plays script kept left [] (string_bytes u))) is.0 plays) lines tells in
    record {
      text = last.text_is;
      worlds = subst (λ (w : program.Worlds). AreWorlds w (worlds_after by_notices lines (start_worlds lines))) (sym is.1) last.worlds;
      asks = ap (λ (w : program.Worlds). w.near.hub.askings) is.1 ∙ last.asks;
    }
text-played script kept left text (Err e) plays is lines tells = tt

-- what holds of what was made
pub of-made : {A E : Type 0} (P : A → Type 0) (r : Result A E) (a : A) → r ≡ Ok a → IfOk r P → P a
of-made {A} {E} P r a is h = subst (λ (q : Result A E). IfOk q P) is h

pub if-made : {A E : Type 0} (P Q : A → Type 0) → ((a : A) → P a → Q a) → (r : Result A E) → IfOk r P → IfOk r Q
if-made P Q f (Ok a) h = f a h
if-made P Q f (Err e) h = tt

pub is-staged : {E : Type 0} (script : Script) (r : Result Stage E) (stage : Stage) → r ≡ Ok stage → IfOk r (λ s. IsWorld s.world (world_at_start script)) → IfOk r (λ s. s.world.hub.askings ≡ askings_at_start script) → IfOk r (λ s. s.clients ≡ script.clients)
    → IfOk r (λ s. s.events ≡ script.events) → IsStaged script stage
is-staged script r stage is world asks clients events = record {
  world = of-made (λ (s : Stage). IsWorld s.world (world_at_start script)) r stage is world;
  asks = of-made (λ (s : Stage). s.world.hub.askings ≡ askings_at_start script) r stage is asks;
  clients = of-made (λ (s : Stage). s.clients ≡ script.clients) r stage is clients;
  events = of-made (λ (s : Stage). s.events ≡ script.events) r stage is events;
}
