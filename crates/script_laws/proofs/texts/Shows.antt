-- Both ways of telling print the same, and the point that a `held` line shows.
--     shows-alike
--     shown-taken
use Rattle.std.proofs.Common.{◌≡◌, ℕ, Bool, true, false, [], Option, Some, None, refl, ap, sym, ◌∙◌}
use Rattle.std.specs.Prelude.{◌||◌, codes, is_some, is_none, option_map, IsTrue, if◌then◌else◌}
use Rattle.rrset.specs.RecordSet.{RecordSet}
use Rattle.rrset.specs.declared.record.Question.{Question}
use Rattle.pushserver.specs.PlainHubs.{Hub, Made, Note, told}
use Rattle.pushclient.specs.Clients.{Connection, Held, off, asked_only, refused_with, set_held, held}
use Rattle.replay.specs.World.{World, Seat, last_of}
use Rattle.replay.specs.TextWords.{ShowTold, with_records, by_history, by_notices, note_in, is_filling, told_of}
use Rattle.replay.specs.HeldPoints.{point_of_note, point_of_held}
use Rattle.replay.specs.Promises.{ShownPoints, point_taken, IsUnconnected}
use Rattle.script_laws.specs.Reached.{IsReached, ReachedSessions}
use Rattle.script_laws.specs.Joined.{SeatStands, StandsWith}
use Rattle.script_laws.specs.Texts.{ShowsAlike, ShownIsTaken}
use Rattle.script_laws.proofs.texts.HeldSets.{held-so, held-told, note-taken}

abbrev pub told_by : Bool → Bool → RecordSet → RecordSet → ShowTold
told_by lone filling set held_set = if lone then with_records (codes "answered") set else if filling then (codes "filling", []) else with_records (codes "held") held_set

alike : (lone filling : Bool) (set x y : RecordSet) → (lone ≡ false → filling ≡ false → x ≡ y) → told_by lone filling set x ≡ told_by lone filling set y
alike true filling set x y e = refl
alike false true set x y e = refl
alike false false set x y e = ap (with_records (codes "held")) (e refl refl)

lone-or : (lone : Bool) (c : Option Connection) → IsTrue (lone || is_none c) → lone ≡ false → is_some c ≡ true → ⊥
lone-or true c either lone some = absurd cc
lone-or false None either lone some = absurd cc
lone-or false (Some c) either lone some = absurd cc

abbrev pub stands_as : Hub → ShownPoints → Seat → Option ℕ → Type 0
stands_as hub shown seat number = elim number as (λ _. Type 0) [ None ↦ IsUnconnected hub shown seat | Some number ↦ StandsWith hub shown seat number ]

module _ (sessions : ReachedSessions) where
  set-alike : (world : World) (shown : ShownPoints) (seat : Seat) (question : Question) (id : ℕ) (set : RecordSet) → IsReached world.hub → SeatStands world.hub shown seat
      → held seat.client question ≡ set_held id set → seat.is_lone ≡ false → is_filling seat id ≡ false → by_history world.hub seat question set ≡ set
  set-alike world shown seat question id set reached stands e lone filling = by seat.session refl stands
    where
      by : (number : Option ℕ) → seat.session ≡ number → stands_as world.hub shown seat number → by_history world.hub seat question set ≡ set
      by None is apart = absurd (lone-or seat.is_lone seat.client.connection apart.client lone (held-so seat.client question id set e).joined)
      by (Some number) is with_session = sym (held-told sessions world.hub shown seat number id question set reached is with_session e filling)

  pub shows-alike : ShowsAlike
  shows-alike world shown seat question reached stands = by (held seat.client question) refl
    where
      by : (h : Held) → held seat.client question ≡ h → told_of by_history h world.hub seat question ≡ told_of by_notices h world.hub seat question
      by off is = refl
      by asked_only is = refl
      by (refused_with rcode) is = refl
      by (set_held id set) is = alike seat.is_lone (is_filling seat id) set (by_history world.hub seat question set) set (λ lone filling. set-alike world shown seat question id set reached stands is lone filling)

-- ---- the point that is shown

abbrev point_by : Bool → Question → Option Note → Option ℕ
point_by hidden question note = if hidden then None else point_of_note question note

pub shown-taken : ShownIsTaken
shown-taken world shown seat number point question reached is stands shows = by (held seat.client question) shows
  where
    of_last : (last : Option Made) → point_of_note question (option_map (λ (m : Made). m.note) last) ≡ Some point → elim last as (λ _. ℕ) [ None ↦ stands.joined.start | Some m ↦ told m.note question.name ] ≡ point
    of_last None e = absurd cc
    of_last (Some m) e = cc

    at : (hidden : Bool) → point_by hidden question (note_in world.hub seat) ≡ Some point → point_taken stands.joined.start stands.joined.flight.taken question ≡ point
    at true e = absurd cc
    at false e = of_last (last_of stands.joined.flight.taken) (ap (point_of_note question) (sym (note-taken world.hub shown seat number is stands)) ∙ e)

    by : (h : Held) → point_of_held h world seat question ≡ Some point → point_taken stands.joined.start stands.joined.flight.taken question ≡ point
    by off e = absurd cc
    by asked_only e = absurd cc
    by (refused_with rcode) e = absurd cc
    by (set_held id set) e = at (seat.is_lone || is_filling seat id) e
