-- A world that stands between the lines of a script tells the same, from the history or from the notices taken.
--     StandAlong lines world      it stands before each of some lines
--     lines-stand      so it is along a script
--     set-alike      what a client is shown to hold of a name
use Rattle.std.proofs.Common.{◌≡◌, Bool, true, false, List, [], ◌∷◌, ◌++◌, Option, Some, None, refl, ap, sym, subst, ◌∙◌, append_assoc}
use Rattle.std.specs.Prelude.{if◌then◌else◌}
use Rattle.dnsname.specs.Names.{Labels}
use Rattle.rrset.specs.RecordSet.{RecordSet}
use Rattle.pushclient.specs.Clients.{Held, off, asked_only, refused_with, set_held, held}
use Rattle.scripts.specs.Lines.{Word, ScriptLine}
use Rattle.scripts.specs.WholeLines.{all_at}
use Rattle.replay.specs.World.{World, Seat, seat_of, start_world}
use Rattle.replay.specs.TextWords.{ShowTold, HeldRecords, by_history, by_notices, is_filling, told_of, show_at}
use Rattle.replay.specs.Text.{line_does, world_after}
use Rattle.replay.specs.TwoWorlds.{set_of_held, held_of}
use Rattle.replay.proofs.worlds.BetweenLines.{after-append}
use Rattle.script_laws.specs.Lines.{AreLines}
use Rattle.script_laws.specs.Whole.{shown_by, StandsAfter}
use Rattle.script_laws.proofs.hubs.Sessions.{reached-sessions}
use Rattle.script_laws.proofs.texts.Along.{seat-stands}
use Rattle.script_laws.proofs.texts.Shows.{told_by, shows-alike}
use Rattle.script_laws.proofs.Scripts.{stands-after}
use Rattle.two_hubs.proofs.WorldsAlong.{IsStanding}

-- before each of these lines
abbrev pub StandAlong : List ScriptLine → World → Type 0
StandAlong [] world = Unit {0}
StandAlong (line ∷ lines) world = IsStanding world × StandAlong lines (line_does by_history line world).0

stand-along : (start : World) (before after : List ScriptLine) → ((front back : List ScriptLine) → before ++ after ≡ front ++ back → StandsAfter front start) → StandAlong after (world_after before start)
stand-along start before [] stands = tt
stand-along start before (line ∷ lines) stands = (
  (shown_by before start, stands before (line ∷ lines) refl),
  subst (StandAlong lines) (after-append before (line ∷ []) start) (stand-along start (before ++ line ∷ []) lines (λ front back split. stands front back (sym (append_assoc before (line ∷ []) lines) ∙ split))),
)

pub lines-stand : (script : List ScriptLine) → AreLines script → StandAlong script (start_world script)
lines-stand script are = stand-along (start_world script) [] script (λ front back split. stands-after script front back are split)

-- ---- what is held of a name

abbrev kept_by : Bool → Bool → RecordSet → Option RecordSet
kept_by lone filling set = if lone then None else if filling then None else Some set

kept-alike : (lone filling : Bool) (set x y : RecordSet) → told_by lone filling set x ≡ told_by lone filling set y → kept_by lone filling x ≡ kept_by lone filling y
kept-alike true filling set x y e = refl
kept-alike false true set x y e = refl
kept-alike false false set x y e = ap (λ (t : ShowTold). Some t.1) e

abbrev held_in : HeldRecords → World → Labels → Option Seat → Option RecordSet
held_in records world name o = elim o as (λ _. Option RecordSet) [ None ↦ None | Some seat ↦ set_of_held records world seat (all_at name) (held seat.client (all_at name)) ]

pub set-alike : (world : World) (w : Word) (name : Labels) → IsStanding world → held_of by_history world w name ≡ held_of by_notices world w name
set-alike world w name standing = by (seat_of world w) refl
  where
    at : (seat : Seat) → seat_of world w ≡ Some seat → (h : Held) → held seat.client (all_at name) ≡ h → set_of_held by_history world seat (all_at name) h ≡ set_of_held by_notices world seat (all_at name) h
    at seat is off e = refl
    at seat is asked_only e = refl
    at seat is (refused_with code) e = refl
    at seat is (set_held id set) e =
        let alike : show_at by_history world seat (all_at name) ≡ show_at by_notices world seat (all_at name) =
        shows-alike reached-sessions world (standing.0 seat.word) seat (all_at name) standing.1.reached (seat-stands standing.0 world w seat standing.1 is) in
        let told : told_of by_history (set_held id set) world.hub seat (all_at name) ≡ told_of by_notices (set_held id set) world.hub seat (all_at name) =
        ap (λ (h : Held). told_of by_history h world.hub seat (all_at name)) (sym e) ∙ alike ∙ ap (λ (h : Held). told_of by_notices h world.hub seat (all_at name)) e in
        kept-alike seat.is_lone (is_filling seat id) set (by_history world.hub seat (all_at name) set) set told

    by : (o : Option Seat) → seat_of world w ≡ o → held_in by_history world name o ≡ held_in by_notices world name o
    by None is = refl
    by (Some seat) is = at seat is (held seat.client (all_at name)) refl
