-- A session that is lent to one turn, and given back.
use Rattle.std.proofs.Common.{◌≡◌, ℕ, min, List, length, Option, Some, None, Result, Ok, Err, refl, sym, ap, subst, ◌∙◌}
use Rattle.std.specs.List.{AllByRecursion}
use Rattle.std.specs.Prelude.{IfOk, OnErr}
use Rattle.rrset.specs.declared.record.Rr.{Rr}
use Rattle.dnswire.specs.declared.message.Update.{Update}
use Rattle.history.specs.AtHome.{AreAtHome}
use Rattle.history.specs.Kept.{Past, PointsKept, point_of, state_now as past_state}
use Rattle.history.specs.States.{records}
use Rattle.pushsession.specs.Kept.{KeptSession}
use Rattle.pushsession.specs.Sessions.{room_of}
use Rattle.pushsession.specs.Reactions.{TakesMemory}
use Rattle.pushserver.specs.Laws.{WantsMemoryFor, MayWantMemory}
use Rattle.livesessions.specs.NumberedSessions.{Numbered, session_in, in_sessions, AreApart, WaitBefore}
use Rattle.pushserver.specs.Hubs.{taken_by}
use Rattle.pushserver.specs.Giving.{give}
use Rattle.pushserver.specs.KeptHubs.{KeptHub, WaitSince}
use Rattle.pushserver.specs.HubState.{kept_of, IsSound, IsSeated, IsToJudge, IsToReconfirm, Gave, Turns}
use Rattle.pushserver.specs.declared.given.Given.{Given}
use Rattle.pushserver.specs.declared.hub_state.HubState.{HubState}
use Rattle.pushserver.specs.declared.turning.Turn.{Turn}
use Rattle.pushserver.specs.declared.turning.Turn.TheVariants as turnings
use Rattle.subscr.specs.Watching.{KeptWatching, watching_of}
use Rattle.livesessions.specs.Watched.{Watches}
use Rattle.livesessions.proofs.LentSessions.{as_before}

pub on_each_err : {A E : Type 0} {P : Type 0} (r : Result A E) → P → OnErr r P
on_each_err (Ok x) p = tt
on_each_err (Err e) p = p

pub on_each_ok : {A E : Type 0} {Q P : Type 0} (r : Result A E) → (Q → P) → IfOk r (λ _. Q) → IfOk r (λ _. P)
on_each_ok (Ok x) f q = f q
on_each_ok (Err e) f q = tt

-- ---- the session in its seat

pub seat-of : (keeping : HubState) (number : ℕ) (s : KeptSession) → IsSound keeping → session_in number keeping.sessions ≡ Some s → AreApart keeping.sessions → IsSeated (kept_of keeping) number s (past_state keeping.points.past) keeping.timers keeping.index.rows
seat-of keeping number s sound there apart = record { there = there; apart = apart; state_is = refl; timers_is = refl; rows_is = sound.index }

-- the sessions are as they were, and watch so
pub sound-later : (keeping : HubState) (watchers : KeptWatching) (xs : Numbered KeptSession) → xs ≡ keeping.sessions → Watches (watching_of watchers) xs → IsSound keeping → IsSound (record keeping { sessions = xs; watchers = watchers })
sound-later keeping watchers xs same w s = subst (λ (ys : Numbered KeptSession). Watches (watching_of watchers) ys → IsSound (record keeping { sessions = ys; watchers = watchers })) (sym same)
    (λ v. record { apart = s.apart; index = s.index; home = s.home; below = s.below; waiting = s.waiting; since = s.since; rises = s.rises; rests = s.rests; told = s.told; packable = s.packable; watched = v }) w

-- so it is behind a plan, which leaves the past
pub sound-planned : (keeping : HubState) (points : PointsKept) → points.past ≡ keeping.points.past → IsSound keeping → IsSound (record keeping { points = points })
sound-planned keeping points same s = record {
  apart = s.apart;
  index = s.index ∙ ap (λ (p : Past). records (past_state p)) (sym same);
  home = subst (λ (p : Past). AreAtHome (past_state p)) (sym same) s.home;
  below = s.below;
  waiting = subst (λ (p : Past). WaitBefore (point_of p) keeping.sessions) (sym same) s.waiting;
  since = subst (λ (p : Past). AllByRecursion (WaitSince p.number) keeping.sessions) (sym same) s.since;
  rises = s.rises;
  rests = s.rests;
  told = s.told;
  packable = s.packable;
  watched = s.watched;
}

-- ---- what the turn came to

pub did-gave : (keeping : HubState) (number : ℕ) (s t : KeptSession) (turn : Turn) (given : Given) (old new : List ℕ) (ys : Numbered KeptSession) → turn ≡ turnings.Did given → ys ≡ in_sessions number (λ _. t) keeping.sessions
    → Turns (kept_of keeping) number turn old new s t → Gave (give (kept_of keeping) number (length old)) given old new (record (kept_of keeping) { sessions = ys })
did-gave keeping number s t turn given old new ys is lent came =
    subst (λ (xs : Numbered KeptSession). Gave (give (kept_of keeping) number (length old)) given old new (record (kept_of keeping) { sessions = xs })) (sym lent)
    (subst (λ (u : Turn). Turns (kept_of keeping) number u old new s t) is came)

-- the hub is to go on with something: the octets and the sessions are as before
pub record ComesTo (old new : List ℕ) (xs ys : Numbered KeptSession) (Ready : Type 0) : Type 0 where
  pub octets : new ≡ old
  pub sessions : ys ≡ xs
  pub ready : Ready

comes-to : {Ready : Type 0} (number : ℕ) (xs ys : Numbered KeptSession) (s t : KeptSession) (old new : List ℕ) → session_in number xs ≡ Some s → AreApart xs → ys ≡ in_sessions number (λ _. t) xs → (new ≡ old) × (t ≡ s) × Ready → ComesTo old new xs ys Ready
comes-to number xs ys s t old new there apart lent (octets, same, ready) = record { octets = octets; sessions = as_before number xs ys s t there apart same lent; ready = ready }

pub to-judge : (keeping : HubState) (number : ℕ) (s t : KeptSession) (turn : Turn) (found : Option Update) (old new : List ℕ) (ys : Numbered KeptSession) → IsSound keeping → session_in number keeping.sessions ≡ Some s → AreApart keeping.sessions
    → turn ≡ turnings.Judge found → ys ≡ in_sessions number (λ _. t) keeping.sessions
    → ((kept : KeptHub) (number : ℕ) → IsSeated kept number s (past_state keeping.points.past) keeping.timers keeping.index.rows → Turns kept number turn old new s t) → ComesTo old new keeping.sessions ys (IsToJudge number found keeping.sessions)
to-judge keeping number s t turn found old new ys sound there apart is lent came =
    comes-to number keeping.sessions ys s t old new there apart lent (subst (λ (u : Turn). Turns (kept_of keeping) number u old new s t) is (came (kept_of keeping) number (seat-of keeping number s sound there apart)))

pub to-reconfirm : (keeping : HubState) (number : ℕ) (s t : KeptSession) (turn : Turn) (rr : Rr) (old new : List ℕ) (ys : Numbered KeptSession) → IsSound keeping → session_in number keeping.sessions ≡ Some s → AreApart keeping.sessions
    → turn ≡ turnings.Reconfirm rr → ys ≡ in_sessions number (λ _. t) keeping.sessions
    → ((kept : KeptHub) (number : ℕ) → IsSeated kept number s (past_state keeping.points.past) keeping.timers keeping.index.rows → Turns kept number turn old new s t) → ComesTo old new keeping.sessions ys (IsToReconfirm number rr keeping.sessions)
to-reconfirm keeping number s t turn rr old new ys sound there apart is lent came =
    comes-to number keeping.sessions ys s t old new there apart lent (subst (λ (u : Turn). Turns (kept_of keeping) number u old new s t) is (came (kept_of keeping) number (seat-of keeping number s sound there apart)))

-- a session of the hub wants memory
pub turn-wants : (k : KeptHub) (number : ℕ) (s : KeptSession) → session_in number k.sessions ≡ Some s → WantsMemoryFor s → MayWantMemory k number
turn-wants k number s there wants = record { session = s; there = there; wants = wants }

pub judge-wants : (k : KeptHub) (number : ℕ) (found : Option Update) → IsToJudge number found k.sessions → MayWantMemory k number
judge-wants k number found ready = turn-wants k number ready.session ready.there (record { live = ready.live; silent = ready.silent; reads = subst TakesMemory (sym ready.request) tt })

pub reconfirm-wants : (k : KeptHub) (number : ℕ) (rr : Rr) → IsToReconfirm number rr k.sessions → MayWantMemory k number
reconfirm-wants k number rr ready = turn-wants k number ready.session ready.there (record { live = ready.live; silent = ready.silent; reads = subst TakesMemory (sym ready.request) tt })

-- ---- a session that was changed, and one that isn't there

abbrev taken_as : List ℕ → Option KeptSession → ℕ
taken_as piece None = 0
taken_as piece (Some session) = min (length piece) (room_of session)

pub taken-some : (k : KeptHub) (number : ℕ) (s : KeptSession) (piece : List ℕ) → session_in number k.sessions ≡ Some s → min (length piece) (room_of s) ≡ taken_by k number piece
taken-some k number s piece there = sym (ap (taken_as piece) there)

pub taken-none : (k : KeptHub) (number : ℕ) (piece : List ℕ) → session_in number k.sessions ≡ None → 0 ≡ taken_by k number piece
taken-none k number piece there = sym (ap (taken_as piece) there)
