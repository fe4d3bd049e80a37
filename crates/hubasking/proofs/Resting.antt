-- What the calls leave of sessions and homes.
--     Rests, rests-entered, rests-moment, rests-gone      sessions ask as before or nothing any more, and homes keep their names
--     can-follow      so links can follow
use Rattle.std.proofs.Common.{◌≡◌, ◌⊎◌, inl, inr, ℕ, zero, suc, ◌≤◌, Bool, true, false, cond, List, [], ◌∷◌, ◌++◌, map, Option, Some, None, refl, sym, ap, subst, ◌∙◌}
use Rattle.std.specs.Prelude.{slice_get, option_map, flat_map}
use Rattle.std.specs.List.{AllZip}
use Rattle.push_base.specs.Limits.{max_moment}
use Rattle.rrset.specs.declared.record.Changed.{Changed}
use Rattle.rrset.specs.declared.record.Question.{Question}
use Rattle.subscr.specs.Asked.{Asked}
use Rattle.linkcache.specs.Links.{LinkState}
use Rattle.linkcache.specs.declared.rules.LinkRules.{LinkRules}
use Rattle.linkask.specs.Reasons.{question_on}
use Rattle.linkreasons.specs.AllReasons.{AllReasons}
use Rattle.linkreasons.specs.declared.reason.Reason.{Reason}
use Rattle.dsosession.specs.declared.session.EndReason.{EndReason}
use Rattle.dsosession.specs.declared.session.EndReason.TheVariants as ends
use Rattle.history.specs.States.{State, home_of, after}
use Rattle.history.specs.declared.entry.Entry.{Entry}
use Rattle.history.specs.declared.entry.Home.{Home}
use Rattle.history.specs.declared.entry.Home.TheVariants as homes
use Rattle.history.proofs.HomesStay.{apexes, home_of-same, same_names-after}
use Rattle.history.proofs.StatesAtHome.{rules_of}
use Rattle.pushsession.specs.Sessions.{ended_where, noted, timed, due}
use Rattle.pushsession.specs.Kept.{KeptSession, keeping}
use Rattle.livesessions.specs.NumberedSessions.{Numbered, all_sessions}
use Rattle.pushserver.specs.Hubs.{each_session, behind_at, ended_behind, ends_behind, entered_keeping, entry_changes, keeps_now, newest, now, state_now}
use Rattle.pushserver.specs.PlainHubs.{Hub}
use Rattle.pushserver.specs.KeptHubs.{KeptHub, StandsFor}
use Rattle.hubasking.specs.KeptReasons.{AreKept, CanFollow, HasBounds, StillAsks, reasons_at, reasons_for, reasons_of, session_reasons}

-- ---- homes keep their names

pub record SameHomes (old later : State) : Type 0 where
  pub zones : apexes later.zones ≡ apexes old.zones
  pub links : rules_of later.links ≡ rules_of old.links

pub homes-itself : (state : State) → SameHomes state state
homes-itself state = record { zones = refl; links = refl }

pub homes-after : (state : State) (entry : Entry) → SameHomes state (after state entry)
homes-after state entry = let names = same_names-after state entry in record { zones = names.0; links = names.1 }

-- the reasons at a link are told by what it shows by
abbrev at-rules : ℕ → Question → ℕ → Option LinkRules → List Reason
at-rules id question i o = elim o [ None ↦ [] | Some rules ↦ map (λ (q : Question). record { id = id; link = i; question = q }) (question_on rules.domain question) ]

by-rules : (id : ℕ) (question : Question) (i : ℕ) (ls : List LinkState) (place : ℕ)
    → elim (slice_get ls place) as (λ _. List Reason) [ None ↦ [] | Some l ↦ map (λ (q : Question). record { id = id; link = i; question = q }) (question_on l.rules.domain question) ] ≡ at-rules id question i (slice_get (rules_of ls) place)
by-rules id question i [] place = refl
by-rules id question i (l ∷ ls) zero = refl
by-rules id question i (l ∷ ls) (suc place) = by-rules id question i ls place

reasons-home : (id : ℕ) (question : Question) (ls ms : List LinkState) → rules_of ms ≡ rules_of ls → (h : Option Home) → reasons_at id question ls h ≡ reasons_at id question ms h
reasons-home id question ls ms same None = refl
reasons-home id question ls ms same (Some (homes.Zone i)) = refl
reasons-home id question ls ms same (Some (homes.Link i)) = by-rules id question i ls i ∙ ap (λ (rules : List LinkRules). at-rules id question i (slice_get rules i)) (sym same) ∙ sym (by-rules id question i ms i)

reasons-same : (old later : State) → SameHomes old later → (e : ℕ × Question) → reasons_for old e ≡ reasons_for later e
reasons-same old later same e = reasons-home e.0 e.1 old.links later.links same.links (home_of old e.1.name) ∙ ap (reasons_at e.0 e.1 later.links) (sym (home_of-same later old same.zones same.links e.1.name))

pub all-reasons-same : (old later : State) → SameHomes old later → (asked : Asked) → reasons_of old asked ≡ reasons_of later asked
all-reasons-same old later same [] = refl
all-reasons-same old later same (e ∷ es) = λ i. reasons-same old later same e i ++ all-reasons-same old later same es i

-- ---- sessions ask as before, or nothing any more

abbrev pub Asks : ℕ × KeptSession → ℕ × KeptSession → Type 0
Asks old later = (old.0 ≡ later.0) × ((later.1.subscriptions.asked ≡ []) ⊎ (later.1.subscriptions.asked ≡ old.1.subscriptions.asked))

abbrev AsksOn : (KeptSession → KeptSession) → Type 0
AsksOn f = (s : KeptSession) → ((f s).subscriptions.asked ≡ []) ⊎ ((f s).subscriptions.asked ≡ s.subscriptions.asked)

each-asks : (f : KeptSession → KeptSession) → AsksOn f → (xs : Numbered KeptSession) → AllZip Asks xs (all_sessions f xs)
each-asks f on [] = tt
each-asks f on (x ∷ xs) = ((refl, on x.1), each-asks f on xs)

pub asks-itself : (xs : Numbered KeptSession) → AllZip Asks xs xs
asks-itself [] = tt
asks-itself (x ∷ xs) = ((refl, inr refl), asks-itself xs)

asks-on : (a b c : ℕ × KeptSession) → Asks a b → Asks b c → Asks a c
asks-on a b c f g = (f.0 ∙ g.0, by f.1 g.1)
  where
    by : (b.1.subscriptions.asked ≡ []) ⊎ (b.1.subscriptions.asked ≡ a.1.subscriptions.asked) → (c.1.subscriptions.asked ≡ []) ⊎ (c.1.subscriptions.asked ≡ b.1.subscriptions.asked) → (c.1.subscriptions.asked ≡ []) ⊎ (c.1.subscriptions.asked ≡ a.1.subscriptions.asked)
    by x (inl none) = inl none
    by (inl none) (inr same) = inl (same ∙ none)
    by (inr first) (inr same) = inr (same ∙ first)

pub zip-on : (xs ys zs : Numbered KeptSession) → AllZip Asks xs ys → AllZip Asks ys zs → AllZip Asks xs zs
zip-on [] [] [] f g = tt
zip-on [] [] (z ∷ zs) f g = absurd g
zip-on [] (y ∷ ys) zs f g = absurd f
zip-on (x ∷ xs) [] zs f g = absurd f
zip-on (x ∷ xs) (y ∷ ys) [] f g = absurd g
zip-on (x ∷ xs) (y ∷ ys) (z ∷ zs) f g = (asks-on x y z f.0 g.0, zip-on xs ys zs f.1 g.1)

ends-asking : (reason : Option EndReason) → AsksOn (ended_where keeping reason)
ends-asking None s = inr refl
ends-asking (Some reason) s = inl refl

pub record Rests (old later : KeptHub) : Type 0 where
  pub homes : SameHomes (state_now old) (state_now later)
  pub sessions : AllZip Asks old.sessions later.sessions

pub rests-itself : (k : KeptHub) → Rests k k
rests-itself k = record { homes = homes-itself (state_now k); sessions = asks-itself k.sessions }

pub entered-asks : (entry : Entry) (k : KeptHub) → AllZip Asks k.sessions (entered_keeping entry k).sessions
entered-asks entry k =
    zip-on k.sessions (all_sessions (ended_behind k entry) k.sessions) (entered_keeping entry k).sessions
    (each-asks (ended_behind k entry) (λ s. ends-asking (option_map (λ p. ends.Behind p) (behind_at k entry s)) s) k.sessions)
    (each-asks (noted (keeps_now (ends_behind entry k)) (entry_changes entry (ends_behind entry k)) (newest (ends_behind entry k))) (λ s. inr refl) (all_sessions (ended_behind k entry) k.sessions))

pub rests-entered : (entry : Entry) (k : KeptHub) → Rests k (entered_keeping entry k)
rests-entered entry k = record { homes = homes-after (state_now k) entry; sessions = entered-asks entry k }

pub rests-timed : (entry : Entry) (k : KeptHub) (t : ℕ) → Rests k (each_session (timed (keeps_now (entered_keeping entry k)) t) (entered_keeping entry k))
rests-timed entry k t = record {
  homes = homes-after (state_now k) entry;
  sessions = zip-on k.sessions (entered_keeping entry k).sessions _ (entered-asks entry k) (each-asks (timed keeping t) (λ s. ends-asking (due keeping t s) s) (entered_keeping entry k).sessions);
}

-- ---- links can follow

pub still-ask : (later : KeptHub) (old : State) → SameHomes old (state_now later) → (xs ys : Numbered KeptSession) → AllZip Asks xs ys → AllZip (StillAsks later) (session_reasons old xs) ys
still-ask later old same [] [] zip = tt
still-ask later old same [] (y ∷ ys) zip = absurd zip
still-ask later old same (x ∷ xs) [] zip = absurd zip
still-ask later old same (x ∷ xs) (y ∷ ys) zip = ((zip.0.0, by zip.0.1), still-ask later old same xs ys zip.1)
  where
    by : (y.1.subscriptions.asked ≡ []) ⊎ (y.1.subscriptions.asked ≡ x.1.subscriptions.asked) → (y.1.subscriptions.asked ≡ []) ⊎ (reasons_of old x.1.subscriptions.asked ≡ reasons_of (state_now later) y.1.subscriptions.asked)
    by (inl none) = inl none
    by (inr as_before) = inr (all-reasons-same old (state_now later) same x.1.subscriptions.asked ∙ ap (reasons_of (state_now later)) (sym as_before))

pub can-follow : (k later : KeptHub) (r : AllReasons) (plain : Hub) → AreKept k r → StandsFor later plain → now later ≤ max_moment → Rests k later → AllZip HasBounds (state_now later).links r.links → CanFollow later r
can-follow k later r plain kept stands timely rests bounds = record {
  plain = plain;
  stands = stands;
  timely = timely;
  sessions = subst (λ (s : List (ℕ × List Reason)). AllZip (StillAsks later) s later.sessions) (sym kept.sessions) (still-ask later (state_now k) rests.homes k.sessions later.sessions rests.sessions);
  links = bounds;
}
