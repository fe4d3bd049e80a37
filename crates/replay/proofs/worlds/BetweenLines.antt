-- The text of a script in parts, what holds of the hub between two lines of a script, and its reply.
--     printed-append, lines-append      what is printed, and its text, part by part
--     after-append, each-behind      the world behind two parts, and what holds of each line of the latter
--     from-between, bounded-between      between two lines: the hub's start and its sessions' numbers, and the bounds of its state
--     bounded-connected      a session more leaves the state
--     reply-is, between-replied      the reply of a script, and by some of its lines
use Rattle.std.proofs.Common.{◌≡◌, ℕ, Bool, true, false, cond, ◌&&◌, List, [], ◌∷◌, ◌++◌, length, Option, Some, None, Result, Ok, Err, ◌∙◌, ap, sym, subst, refl, append_assoc}
use Rattle.std.specs.Prelude.{nat_lt}
use Rattle.std.specs.List.{AllByRecursion}
use Rattle.push_base.specs.Limits.{max_number}
use Rattle.pushserver.specs.PlainHubs.{Hub}
use Rattle.pushserver.specs.Hubs.{state_now, connect, max_sessions}
use Rattle.pushserver.proofs.Walks.{with_new}
use Rattle.scripts.specs.Lines.{ScriptLine}
use Rattle.scripts.specs.Scripts.{script_of}
use Rattle.replay.specs.World.{World, start_world}
use Rattle.replay.specs.TextWords.{HeldRecords, by_history}
use Rattle.replay.specs.Text.{line_does, world_after}
use Rattle.hubasking.specs.LinkAskings.{Askings}
use Rattle.replay.specs.Askings.{asked_lines, line_asks, lines_asks}
use Rattle.replay.specs.ScriptTexts.{printed_by, text_by, outside_text}
use Rattle.scripts.specs.Words.{ended_lines}
use Rattle.replay.specs.ScriptReplies.{reply_to_script}
use Rattle.replay.specs.Between.{Between, lines_of, world_start, world_then, world_behind, askings_start, askings_then, askings_behind, reply_between}
use Rattle.replay.proofs.worlds.OneWorld.{one-world}
use Rattle.replay.proofs.worlds.BoundedHeads.{bounded-script}
use Rattle.replay.proofs.worlds.Numbers.{IsFrom, from-lines}
use Rattle.replay.proofs.turns.ZoneSizes.{IsBounded, bounded-state}

-- ---- parts of a text

-- the text of lines is that of the first and that of the rest
pub lines-append : (xs ys : List (List ℕ)) → ended_lines (xs ++ ys) ≡ ended_lines xs ++ ended_lines ys
lines-append [] ys = refl
lines-append (x ∷ xs) ys = ap (λ (rest : List ℕ). (x ++ 10 ∷ []) ++ rest) (lines-append xs ys) ∙ sym (append_assoc (x ++ 10 ∷ []) (ended_lines xs) (ended_lines ys))

-- so is what they print
pub printed-append : (records : HeldRecords) (before behind : List ScriptLine) (world : World) (askings : Askings)
    → printed_by records (before ++ behind) world askings ≡ printed_by records before world askings ++ printed_by records behind (world_after before world) (lines_asks before world askings)
printed-append records [] behind world askings = refl
printed-append records (l ∷ ls) behind world askings =
    let one = line_does records l world in
    let asked = asked_lines l world askings in
    let then = line_asks l world askings in
    let first = printed_by records ls one.0 then in
    let rest : World → List (List ℕ) = λ later. printed_by records behind (world_after ls later) (lines_asks ls later then) in
    ap (λ (lines : List (List ℕ)). one.1 ++ (asked ++ lines)) (printed-append records ls behind one.0 then)
    ∙ ap (λ (lines : List (List ℕ)). one.1 ++ lines) (sym (append_assoc asked first (rest one.0)))
    ∙ sym (append_assoc one.1 (asked ++ first) (rest one.0))
    ∙ ap (λ (later : World). (one.1 ++ (asked ++ first)) ++ rest later) (one-world records l world)

-- the world behind both parts
pub after-append : (before behind : List ScriptLine) (world : World) → world_after (before ++ behind) world ≡ world_after behind (world_after before world)
after-append [] behind world = refl
after-append (l ∷ ls) behind world = after-append ls behind (line_does by_history l world).0

-- what holds of each holds of those behind
pub each-behind : {X : Type 0} (P : X → Type 0) (xs ys : List X) → AllByRecursion P (xs ++ ys) → AllByRecursion P ys
each-behind P [] ys all = all
each-behind P (x ∷ xs) ys all = each-behind P xs ys all.1

-- ---- between two lines of a script

abbrev pub world_between : List ScriptLine → List ScriptLine → World
world_between before behind = world_after before (start_world (before ++ behind))

module _ (script : List ℕ) (before behind : List ScriptLine) (read : script_of script ≡ Ok (before ++ behind)) where
  pub from-between : IsFrom (start_world (before ++ behind)).hub.start (world_between before behind).hub
  from-between =
      from-lines (start_world (before ++ behind)).hub.start before (start_world (before ++ behind)) (record { begins = refl; below = tt })

  pub bounded-between : IsBounded (state_now (world_between before behind).hub)
  bounded-between =
      let hub = (world_between before behind).hub in
      bounded-state hub.start hub.history (subst IsBounded (sym from-between.begins) (bounded-script script (before ++ behind) read))

-- a session more leaves the state
pub bounded-connected : (hub : Hub) → IsBounded (state_now hub) → IsBounded (state_now (connect hub).1)
bounded-connected hub bounded = by (nat_lt (length hub.sessions) max_sessions && nat_lt hub.numbers_given max_number)
  where
    by : (b : Bool) → IsBounded (state_now (cond {A = Option ℕ × Hub} b (Some hub.numbers_given, with_new hub) (None, hub)).1)
    by true = bounded
    by false = bounded

-- ---- the reply

-- the status and the text, by the lines
abbrev told_with : HeldRecords → Result (List ScriptLine) ℕ → ℕ × List ℕ
told_with records (Ok lines) = (0, text_by records lines)
told_with records (Err n) = (2, outside_text n)

pub reply-is : (records : HeldRecords) (script : List ℕ) (lines : List ScriptLine) (text : List ℕ) → script_of script ≡ Ok lines → text_by records lines ≡ text → reply_to_script records script ≡ record { status = 0; text = text }
unfolding reply_to_script
reply-is records script lines text read is =
    ap (λ (p : ℕ × List ℕ). record { status = p.0; text = p.1 }) (ap (told_with records) read)
    ∙ ap (λ (t : List ℕ). record { status = 0; text = t }) is

-- so it is with the lines before, some lines, and the lines behind
pub between-replied : (records : HeldRecords) (script : List ℕ) (between : Between) (told : List (List ℕ)) → script_of script ≡ Ok (lines_of between) → printed_by records between.lines (world_then between) (askings_then between) ≡ told
    → reply_to_script records script ≡ reply_between records between told
between-replied records script between told read is = reply-is records script (lines_of between) (reply_between records between told).text read (
    ap ended_lines (printed-append records between.before (between.lines ++ between.behind) (world_start between) (askings_start between))
    ∙ lines-append front (printed_by records (between.lines ++ between.behind) (world_then between) (askings_then between))
    ∙ ap (λ (lines : List (List ℕ)). ended_lines front ++ ended_lines lines) (printed-append records between.lines between.behind (world_then between) (askings_then between) ∙ ap (λ (lines : List (List ℕ)). lines ++ back) is)
    ∙ ap (λ (rest : List ℕ). ended_lines front ++ rest) (lines-append told back))
  where
    front : List (List ℕ)
    front = printed_by records between.before (world_start between) (askings_start between)

    back : List (List ℕ)
    back = printed_by records between.behind (world_behind between) (askings_behind between)
