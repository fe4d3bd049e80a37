-- Each session watches the names that it asks for: what changes of sessions leave of that.
--     watched-all, watched-in      sessions that ask as before
--     watched-moved, watched-same      one that asks otherwise, and watches so; one that asks as before
--     watched-last, watched-gone      one that comes, and one that goes
--     watched-set, watched-entry      one that is changed in its seat
--     watched-new      nobody is there, and nobody watches
use Rattle.std.proofs.Common.{◌≡◌, ℕ, zero, suc, ◌<◌, Bool, true, false, cond, [], ◌∷◌, ◌++◌, length, get_or, set, Option, Some, None, refl, sym, ◌∙◌, ap, subst, arith}
use Rattle.std.specs.Prelude.{option_map, position, ◌==◌}
use Rattle.std.specs.List.{AllByRecursion, IsDistinct}
use Rattle.history.proofs.Positions.{position-cons}
use Rattle.livesessions.specs.NumberedSessions.{AreApart, Numbered, session_in, in_sessions, all_sessions, without_session}
use Rattle.livesessions.proofs.NumberedSessions.{changed-here, found-here, apart-in}
use Rattle.std.specs.Option.{option_or}
use Rattle.dnsname.specs.Names.{Labels}
use Rattle.subscr.specs.Watching.{KeptWatching, Watching, questions_of, watching_of}
use Rattle.pushsession.specs.Kept.{KeptSession}
use Rattle.pushsession.specs.Sessions.{asked_to_stop, is_open}
use Rattle.pushsession.specs.declared.session_status.SessionStatus.TheVariants.{AskedToStop}
use Rattle.pushsession.specs.Watched.{MovesWatches, Rewatches}
use Rattle.livesessions.specs.Watched.{Watches, watched_by}
use Rattle.livesessions.proofs.SessionLists.{same-number, number-itself, found-all, found-in, found-elsewhere, found-last, found-left}

not-same : (a b : ℕ) → (a == b) ≡ false → a ≡ b → ⊥
not-same a b is same = let wrong : true ≡ false = sym (ap (λ m. m == b) same ∙ number-itself b) ∙ is in absurd cc

-- a change that leaves what a session asks
abbrev pub AsksOn : (KeptSession → KeptSession) → Type 0
AsksOn f = (s : KeptSession) → (f s).subscriptions.asked ≡ s.subscriptions.asked

watched-alike : (f : KeptSession → KeptSession) → AsksOn f → (name : Labels) (o : Option KeptSession) → watched_by name (option_map f o) ≡ watched_by name o
watched-alike f same name None = refl
watched-alike f same name (Some s) = ap (questions_of name) (same s)

pub watched-all : (f : KeptSession → KeptSession) → AsksOn f → (watching : Watching) (xs : Numbered KeptSession) → Watches watching xs → Watches watching (all_sessions f xs)
watched-all f same watching xs w name number = w name number ∙ sym (ap (watched_by name) (found-all f number xs) ∙ watched-alike f same name (session_in number xs))

pub watched-in : (number : ℕ) (f : KeptSession → KeptSession) → AsksOn f → (watching : Watching) (xs : Numbered KeptSession) → Watches watching xs → Watches watching (in_sessions number f xs)
watched-in number f same watching xs w name n = w name n ∙ sym (by (n == number) refl)
  where
    by : (b : Bool) → (n == number) ≡ b → watched_by name (session_in n (in_sessions number f xs)) ≡ watched_by name (session_in n xs)
    by true is =
        ap (λ m. watched_by name (session_in m (in_sessions number f xs))) (same-number n number is)
        ∙ ap (watched_by name) (found-in number f xs) ∙ watched-alike f same name (session_in number xs)
        ∙ ap (λ m. watched_by name (session_in m xs)) (sym (same-number n number is))
    by false is = ap (watched_by name) (found-elsewhere number f n (not-same n number is) xs)

-- the session of a number asks otherwise, and watches so
pub watched-moved : (number : ℕ) (s new : KeptSession) (before after : Watching) (xs : Numbered KeptSession) → session_in number xs ≡ Some s → Rewatches number before after s new → Watches before xs
    → Watches after (in_sessions number (λ _. new) xs)
watched-moved number s new before after xs there moves w name n = by (n == number) refl
  where
    by : (b : Bool) → (n == number) ≡ b → after name n ≡ watched_by name (session_in n (in_sessions number (λ _. new) xs))
    by true is =
        ap (after name) (same-number n number is)
        ∙ moves.own (λ other. w other number ∙ ap (watched_by other) there) name
        ∙ sym (ap (watched_by name) (ap (λ m. session_in m (in_sessions number (λ _. new) xs)) (same-number n number is) ∙ found-in number (λ _. new) xs ∙ ap (option_map (λ _. new)) there))
    by false is = moves.others name n is ∙ w name n ∙ sym (ap (watched_by name) (found-elsewhere number (λ _. new) n (not-same n number is) xs))

-- where the session of a number asks as before, nothing moves
pub watched-same : (number : ℕ) (s new : KeptSession) (watching : Watching) (xs : Numbered KeptSession) → session_in number xs ≡ Some s → new.subscriptions.asked ≡ s.subscriptions.asked → Watches watching xs
    → Watches watching (in_sessions number (λ _. new) xs)
watched-same number s new watching xs there same w =
    watched-moved number s new watching watching xs there (record { own = λ h name. h name ∙ ap (questions_of name) (sym same); others = λ name another away. refl }) w

-- what a turn of the session that was lent leaves
pub turn-watched : (number : ℕ) (s new : KeptSession) (before after : Watching) (xs ys : Numbered KeptSession) → session_in number xs ≡ Some s → ys ≡ in_sessions number (λ _. new) xs → Rewatches number before after s new → Watches before xs → Watches after ys
turn-watched number s new before after xs ys there lent moves w = subst (Watches after) (sym lent) (watched-moved number s new before after xs there moves w)

-- a further change of it that leaves what it asks
pub moves-on : (number : ℕ) (s mid new : KeptSession) (before after : Watching) → Rewatches number before after s mid → new.subscriptions.asked ≡ mid.subscriptions.asked → Rewatches number before after s new
moves-on number s mid new before after moves same = subst (MovesWatches number before after s.subscriptions.asked) (sym same) moves

pub stop-asks : (rcode delay : ℕ) (s : KeptSession) → (asked_to_stop rcode delay s).subscriptions.asked ≡ s.subscriptions.asked
stop-asks rcode delay s = by (is_open s.standing)
  where
    by : (b : Bool) → (cond b (record s { standing = AskedToStop rcode delay }) s).subscriptions.asked ≡ s.subscriptions.asked
    by true = refl
    by false = refl

-- ---- one comes, and one goes

-- a session that asks nothing
pub watched-last : (number : ℕ) (s : KeptSession) → s.subscriptions.asked ≡ [] → (watching : Watching) (xs : Numbered KeptSession) → Watches watching xs → Watches watching (xs ++ (number, s) ∷ [])
watched-last number s silent watching xs w name n = w name n ∙ sym (ap (watched_by name) (found-last n xs (number, s)) ∙ by (session_in n xs) (number == n))
  where
    by : (o : Option KeptSession) (b : Bool) → watched_by name (option_or o (cond b (Some s) None)) ≡ watched_by name o
    by None true = ap (questions_of name) silent
    by None false = refl
    by (Some t) b = refl

-- one that watches nothing any more
pub watched-gone : (number : ℕ) (s : KeptSession) (before after : Watching) (xs : Numbered KeptSession) → session_in number xs ≡ Some s → MovesWatches number before after s.subscriptions.asked [] → Watches before xs
    → Watches after (without_session number xs)
watched-gone number s before after xs there moves w name n = by (n == number) refl
  where
    by : (b : Bool) → (n == number) ≡ b → after name n ≡ watched_by name (session_in n (without_session number xs))
    by true is =
        ap (after name) (same-number n number is) ∙ moves.own (λ other. w other number ∙ ap (watched_by other) there) name
        ∙ sym (ap (watched_by name) (found-left number n xs ∙ ap (λ b. cond b None (session_in n xs)) is))
    by false is = moves.others name n is ∙ w name n ∙ sym (ap (watched_by name) (found-left number n xs ∙ ap (λ b. cond b None (session_in n xs)) is))

-- where there is no such session none goes
pub watched-none : (number : ℕ) (watching : Watching) (xs : Numbered KeptSession) → session_in number xs ≡ None → Watches watching xs → Watches watching (without_session number xs)
watched-none number watching xs none w name n = w name n ∙ sym (ap (watched_by name) (found-left number n xs) ∙ by (n == number) refl)
  where
    by : (b : Bool) → (n == number) ≡ b → watched_by name (cond b None (session_in n xs)) ≡ watched_by name (session_in n xs)
    by true is = sym (ap (watched_by name) (ap (λ m. session_in m xs) (same-number n number is) ∙ none))
    by false is = refl

-- ---- a session in its seat

-- it is the first of its number
seat-first : (xs : Numbered KeptSession) (i : ℕ) (e : ℕ × KeptSession) → AreApart xs → i < length xs → e ≡ get_or xs i e → position (λ (d : ℕ × KeptSession). d.0 == e.0) xs ≡ Some i
unfolding IsDistinct
seat-first [] i e apart within is = absurd (omega (arith, within))
seat-first (x ∷ xs) zero e apart within is = position-cons (λ (d : ℕ × KeptSession). d.0 == e.0) x xs ∙ ap (λ b. cond b (Some 0) (option_map suc (position (λ (d : ℕ × KeptSession). d.0 == e.0) xs))) (ap (λ (d : ℕ × KeptSession). d.0 == e.0) (sym is) ∙ number-itself e.0)
seat-first (x ∷ xs) (suc i) e apart within is =
    position-cons (λ (d : ℕ × KeptSession). d.0 == e.0) x xs
    ∙ ap (λ b. cond b (Some 0) (option_map suc (position (λ (d : ℕ × KeptSession). d.0 == e.0) xs))) (away x xs i e (omega (arith, within)) is apart.0)
    ∙ ap (option_map suc) (seat-first xs i e apart.1 (omega (arith, within)) is)
  where
    away : (y : ℕ × KeptSession) (ys : Numbered KeptSession) (j : ℕ) (d : ℕ × KeptSession) → j < length ys → d ≡ get_or ys j d → AllByRecursion (λ z. (y.0 == z.0) ≡ false) ys → (y.0 == d.0) ≡ false
    away y [] j d short at all = absurd (omega (arith, short))
    away y (z ∷ ys) zero d short at all = ap (λ (u : ℕ × KeptSession). y.0 == u.0) at ∙ all.0
    away y (z ∷ ys) (suc j) d short at all = away y ys j d (omega (arith, short)) at all.1

module _ (xs : Numbered KeptSession) (i : ℕ) (e : ℕ × KeptSession) (new : KeptSession) (apart : AreApart xs) (within : i < length xs) (is : e ≡ get_or xs i e) where
  seat-set : set xs i (e.0, new) ≡ in_sessions e.0 (λ _. new) xs
  seat-set = changed-here e.0 (λ _. new) xs i e apart (seat-first xs i e apart within is) is

  pub apart-set : AreApart (set xs i (e.0, new))
  apart-set = subst AreApart (sym seat-set) (apart-in e.0 (λ _. new) xs apart)

  pub watched-set : (before after : Watching) → Rewatches e.0 before after e.1 new → Watches before xs → Watches after (set xs i (e.0, new))
  watched-set before after moves w =
      subst (Watches after) (sym seat-set) (watched-moved e.0 e.1 new before after xs (found-here e.0 xs i e (seat-first xs i e apart within is) is) moves w)

-- the same of an entry that keeps its number
module _ (xs : Numbered KeptSession) (i : ℕ) (d e : ℕ × KeptSession) (new : KeptSession) (apart : AreApart xs) (within : i < length xs) (is : d ≡ get_or xs i d) (entry : e ≡ (d.0, new)) where
  pub apart-entry : AreApart (set xs i e)
  apart-entry = subst (λ (x : ℕ × KeptSession). AreApart (set xs i x)) (sym entry) (apart-set xs i d new apart within is)

  pub watched-entry : (before after : Watching) → Rewatches d.0 before after d.1 e.1 → Watches before xs → Watches after (set xs i e)
  watched-entry before after =
      subst (λ (x : ℕ × KeptSession). Rewatches d.0 before after d.1 x.1 → Watches before xs → Watches after (set xs i x)) (sym entry) (watched-set xs i d new apart within is before after)

-- ---- nobody is there

pub watched-new : (noted : KeptWatching) (xs : Numbered KeptSession) → noted ≡ [] → xs ≡ [] → Watches (watching_of noted) xs
watched-new noted xs none empty = subst (λ (ns : KeptWatching). Watches (watching_of ns) xs) (sym none) (subst (λ (ys : Numbered KeptSession). Watches (watching_of []) ys) (sym empty) (λ name number. refl))
