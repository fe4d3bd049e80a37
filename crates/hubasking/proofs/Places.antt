-- The session in a place is the one of its number.
--     found-at      where there is one
--     rests-of, number-there      so it asks nothing where the session of its number asks nothing; its number
--     idle-there, idle-none      whether nothing waits for it
use Rattle.std.proofs.Common.{◌≡◌, ℕ, zero, suc, Bool, true, List, [], ◌∷◌, length, Option, Some, None, refl, sym, ap, subst, ◌∙◌}
use Rattle.std.specs.Prelude.{slice_get, option_map}
use Rattle.std.specs.List.{AllZip}
use Rattle.linkreasons.specs.AllReasons.{AllReasons}
use Rattle.linkreasons.specs.declared.reason.Reason.{Reason}
use Rattle.pushsession.specs.Kept.{KeptSession}
use Rattle.livesessions.specs.NumberedSessions.{Numbered, session_in}
use Rattle.pushserver.specs.KeptHubs.{KeptHub, StandsFor}
use Rattle.pushserver.specs.PlainHubs.{Hub}
use Rattle.hubasking.specs.Idle.{is_idle, is_idle_in, session_at}
use Rattle.hubasking.specs.KeptReasons.{CanFollow, StillAsks, rests, rests_in}
use Rattle.hubasking.proofs.Clearing.{AreFound, all-found, rests-as}
use Rattle.hubasking.proofs.Leading.{Sessions}

pub found-at : (all xs : Numbered KeptSession) → AreFound all xs → (place : ℕ) (e : ℕ × KeptSession) → slice_get xs place ≡ Some e → session_in e.0 all ≡ Some e.1
found-at all [] found place e at = absurd cc
found-at all (x ∷ xs) found zero e at = let same : x ≡ e = cc in subst (λ (y : ℕ × KeptSession). session_in y.0 all ≡ Some y.1) same found.0
found-at all (x ∷ xs) found (suc place) e at = found-at all xs found.1 place e at

-- ---- what it asks

-- the reasons in a place are those of the session there
rests-zip : (later : KeptHub) (es : Sessions) (ys : Numbered KeptSession) → AreFound later.sessions ys → AllZip (StillAsks later) es ys → (place : ℕ) (e : ℕ × List Reason) → slice_get es place ≡ Some e → rests_in (slice_get ys place) ≡ rests later e.0
rests-zip later [] ys found zip place e at = absurd cc
rests-zip later (d ∷ es) [] found zip place e at = absurd zip
rests-zip later (d ∷ es) (y ∷ ys) found zip zero e at =
    let same : d ≡ e = cc in sym (rests-as later y found.0) ∙ ap (rests later) (sym zip.0.0 ∙ ap (λ (x : ℕ × List Reason). x.0) same)
rests-zip later (d ∷ es) (y ∷ ys) found zip (suc place) e at = rests-zip later es ys found.1 zip.1 place e at

rests-at : (later : KeptHub) (plain : Hub) → StandsFor later plain → (es : Sessions) → AllZip (StillAsks later) es later.sessions → (place : ℕ) (e : ℕ × List Reason) → slice_get es place ≡ Some e → rests_in (slice_get later.sessions place) ≡ rests later e.0
rests-at later plain stands es zip place e at = rests-zip later es later.sessions (all-found later plain stands) zip place e at

number-of : (e : ℕ × List Reason) (number : ℕ) → Some e.0 ≡ Some number → e.0 ≡ number
number-of e number same = cc

pub rests-of : (later : KeptHub) (reasons : AllReasons) → CanFollow later reasons → (place number : ℕ) → option_map (λ (e : ℕ × List Reason). e.0) (slice_get reasons.sessions place) ≡ Some number → rests_in (slice_get later.sessions place) ≡ rests later number
rests-of later reasons can place number there = by (slice_get reasons.sessions place) refl there
  where
    by : (o : Option (ℕ × List Reason)) → slice_get reasons.sessions place ≡ o → option_map (λ (e : ℕ × List Reason). e.0) o ≡ Some number → rests_in (slice_get later.sessions place) ≡ rests later number
    by None at same = absurd cc
    by (Some e) at same = rests-at later can.plain can.stands reasons.sessions can.sessions place e at ∙ ap (rests later) (number-of e number same)

counted-of : (e : ℕ × List Reason) (number count : ℕ) → ◌≡◌ {A = Option (ℕ × ℕ)} (Some (e.0, length e.1)) (Some (number, count)) → Some e.0 ≡ Some number
counted-of e number count same = let both : (e.0, length e.1) ≡ (number, count) = cc in ap (λ (x : ℕ × ℕ). Some x.0) both

-- its number, where it is counted
pub number-there : (o : Option (ℕ × List Reason)) (number count : ℕ) → option_map {U = ℕ × ℕ} (λ (e : ℕ × List Reason). (e.0, length e.1)) o ≡ Some (number, count) → option_map (λ (e : ℕ × List Reason). e.0) o ≡ Some number
number-there None number count same = absurd cc
number-there (Some e) number count same = counted-of e number count same

-- ---- whether it is idle

idle-as : (hub : KeptHub) (e : ℕ × KeptSession) → session_in e.0 hub.sessions ≡ Some e.1 → is_idle_in hub e.0 ≡ is_idle e.1
idle-as hub e at = ap (λ (o : Option KeptSession). elim o as (λ _. Bool) [ None ↦ true | Some session ↦ is_idle session ]) at

pub idle-there : (hub : KeptHub) (plain : Hub) → StandsFor hub plain → (place : ℕ) (e : ℕ × KeptSession) → slice_get hub.sessions place ≡ Some e → Some (e.0, is_idle e.1) ≡ session_at hub place
idle-there hub plain stands place e at =
    ap (λ (b : Bool). Some (e.0, b)) (sym (idle-as hub e (found-at hub.sessions hub.sessions (all-found hub plain stands) place e at)))
    ∙ ap (λ (o : Option (ℕ × KeptSession)). option_map {U = ℕ × Bool} (λ (d : ℕ × KeptSession). (d.0, is_idle_in hub d.0)) o) (sym at)

pub idle-none : (hub : KeptHub) (place : ℕ) → slice_get hub.sessions place ≡ None → None ≡ session_at hub place
idle-none hub place at = ap (λ (o : Option (ℕ × KeptSession)). option_map {U = ℕ × Bool} (λ (d : ℕ × KeptSession). (d.0, is_idle_in hub d.0)) o) (sym at)
