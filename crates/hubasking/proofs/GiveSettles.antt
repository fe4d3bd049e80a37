-- Behind a call of `give`, whatever was made ready for it.
--     settles-ends      links can follow, and what is asked then is what is to be asked
use Rattle.std.proofs.Common.{◌≡◌, ◌⊎◌, inl, inr, ℕ, ◌+◌, ◌≤◌, ◌<◌, Bool, true, false, cond, ◌&&◌, List, [], ◌∷◌, Option, Some, None, refl, sym, ap, subst, ◌∙◌, arith}
use Rattle.std.specs.Prelude.{find, option_map, nat_le, nat_lt, unwrap_or, ◌==◌}
use Rattle.std.specs.List.{AllZip}
use Rattle.std.proofs.lemmas.Bool.Decides.{nat_tests}
use Rattle.rrset.specs.declared.record.Key.{Key}
use Rattle.rrset.specs.declared.record.Rr.{Rr}
use Rattle.linkask.specs.Laws.{ReconfirmingKeepsBounds}
use Rattle.linkreasons.specs.AllReasons.{AllReasons, AreFollowed, askings_of, but_last, with_those}
use Rattle.linkreasons.specs.Laws.{AnewCommutes, FewerThenFewer, FollowsReasons}
use Rattle.history.specs.States.{State, accepts, after}
use Rattle.history.specs.declared.entry.Entry.TheVariants as entries
use Rattle.pushsession.specs.Kept.{KeptSession}
use Rattle.pushsession.specs.declared.request.Request.{Request}
use Rattle.pushsession.specs.declared.request.Request.TheVariants as requests
use Rattle.pushserver.specs.Giving.{give}
use Rattle.livesessions.specs.NumberedSessions.{Numbered, session_in}
use Rattle.pushserver.specs.Hubs.{can_enter, newest, session_of, state_now}
use Rattle.pushserver.specs.KeptHubs.{KeptHub, Forgets, StandsFor}
use Rattle.pushserver.specs.PlainHubs.{Hub}
use Rattle.hubasking.specs.KeptReasons.{AreKept, CanFollow, followed}
use Rattle.hubasking.specs.LinkAskings.{behind, confirms, confirms_by_turn, confirms_key, kept_questions}
use Rattle.hubasking.specs.Turns.{Drops, HasReason, IsDoubted, IsReady, IsStill, KeepsLeft, Settles, SettlesDoubt, TakesBack, confirming, count_of, first_id, turn_request}
use Rattle.hubasking.specs.declared.giving.Ready.{Ready}
use Rattle.hubasking.specs.declared.giving.Ready.TheVariants as readies
use Rattle.hubasking.proofs.GiveEnds.{less-ends, stays-ends, turn}
use Rattle.hubasking.proofs.GiveMore.{gone-ends, more-ends, settled-ends, undoubted-ends}
use Rattle.hubasking.proofs.Gives.{confirms-turn}
use Rattle.hubasking.proofs.Turning.{EntryTo, StateTo, Turn, TurnsTo}

-- ---- numbers

not-less : (a b : ℕ) → nat_lt a b ≡ false → b ≤ a
not-less a b h = grind (arith, nat_tests)

is-less : (a b : ℕ) → nat_lt a b ≡ true → a < b
is-less a b h = grind (arith, nat_tests)

is-most : (a b : ℕ) → nat_le a b ≡ true → a ≤ b
is-most a b h = grind (arith, nat_tests)

not-most : (a b : ℕ) → nat_le a b ≡ false → b < a
not-most a b h = grind (arith, nat_tests)

-- ---- a session that isn't there wasn't there

none-there : (number : ℕ) (q : Option Request) (id : Option ℕ) (xs ys : Numbered KeptSession) → AllZip (TurnsTo number q id) xs ys → session_in number ys ≡ None → session_in number xs ≡ None
none-there number q id [] [] zip none = refl
none-there number q id [] (y ∷ ys) zip none = absurd zip
none-there number q id (x ∷ xs) [] zip none = absurd zip
none-there number q id (x ∷ xs) (y ∷ ys) zip none = by (x.0 == number) (y.0 == number) (ap (λ (n : ℕ). n == number) zip.0.0) (λ rest. none-there number q id xs ys zip.1 rest) none
  where
    by : (a b : Bool) → a ≡ b → (session_in number ys ≡ None → session_in number xs ≡ None)
        → option_map (λ (e : ℕ × KeptSession). e.1) (cond b (Some y) (find (λ (e : ℕ × KeptSession). e.0 == number) ys)) ≡ None → option_map (λ (e : ℕ × KeptSession). e.1) (cond a (Some x) (find (λ (e : ℕ × KeptSession). e.0 == number) xs)) ≡ None
    by true true same rest h = absurd cc
    by true false same rest h = absurd cc
    by false true same rest h = absurd cc
    by false false same rest h = rest h

module _ (fewer : FewerThenFewer) (follows : FollowsReasons) (commutes : AnewCommutes) (keeps : ReconfirmingKeepsBounds) (k later : KeptHub) (number room : ℕ) (plain : Hub) (before : AllReasons)
    (kept : AreKept k before) (told : AreFollowed before) (forgets : Forgets (give k number room).hub later) (stands : StandsFor later plain) where
  abbrev Ends : AllReasons → Option (ℕ × Key) → Type 0
  Ends new confirmed = CanFollow later new × (followed later (askings_of new) ≡ behind kept_questions confirmed later (askings_of before))

  abbrev its_turn : Turn k number (turn_request (session_of k number)) (first_id (session_of k number)) later
  its_turn = turn fewer follows keeps k later number room plain before kept told forgets stands

  -- nothing was made ready
  still-settles : (ready new : AllReasons) → IsStill k number before ready → (b : Bool) → nat_lt (count_of (session_of later number)) (count_of (session_of k number)) ≡ b → cond b (KeepsLeft (session_of later number) number ready new) (new ≡ ready) → Ends new None
  still-settles ready new still false many settles = subst (λ (r : AllReasons). Ends r None) (sym (settles ∙ still.same)) (stays-ends fewer follows keeps k later number room plain before kept told forgets stands still.coming (not-less (count_of (session_of later number)) (count_of (session_of k number)) many))
  still-settles ready new still true few settles = by (session_of later number) refl settles
    where
      by : (o : Option KeptSession) → session_of later number ≡ o → KeepsLeft o number ready new → Ends new None
      by None at same =
          let none : count_of (session_of k number) ≡ 0 = ap count_of (none-there number (turn_request (session_of k number)) (first_id (session_of k number)) k.sessions later.sessions its_turn.sessions at) in
          absurd (omega (arith, none, is-less (count_of (session_of later number)) (count_of (session_of k number)) few))
      by (Some session) at drops =
          less-ends fewer follows keeps k later number room plain before kept told forgets stands still.coming new session at (is-less (count_of (session_of later number)) (count_of (session_of k number)) few)
          (subst (λ (r : AllReasons). Drops number (with_those session.subscriptions.asked) r new) still.same drops)

  -- a reason was made ready
  reason-settles : (ready new : AllReasons) → HasReason k number before ready → (b : Bool) → nat_le (count_of (session_of later number)) (count_of (session_of k number)) ≡ b → cond b (Drops number but_last ready new) (new ≡ ready) → Ends new None
  reason-settles ready new has true few drops = gone-ends fewer follows keeps k later number room plain before kept told forgets stands ready new has (is-most (count_of (session_of later number)) (count_of (session_of k number)) few) drops
  reason-settles ready new has false many same = subst (λ (r : AllReasons). Ends r None) (sym same) (more-ends fewer follows keeps k later number room plain before kept told forgets stands ready has (not-most (count_of (session_of later number)) (count_of (session_of k number)) many))

  -- a row was doubted
  found-so : (link : ℕ) (key : Key) (found : ℕ × Key) → confirms_key k (Some (link, key)) ≡ Some found → (link, key) ≡ found
  found-so link key found is = by (accepts (state_now k) (entries.Reconfirm link key) && can_enter k) is
    where
      by : (b : Bool) → cond b (Some (link, key)) None ≡ Some found → (link, key) ≡ found
      by true e = ap (λ (o : Option (ℕ × Key)). unwrap_or o found) e
      by false e = absurd cc

  doubt-settles : (link : ℕ) (ready new : AllReasons) → IsDoubted k number link before ready → (b : Bool) → nat_lt (newest k) (newest later) ≡ b → cond b (SettlesDoubt link ready new) (TakesBack link ready new)
      → Ends new (confirming k number)
  doubt-settles link ready new doubts b risen settles =
      by b risen settles (subst (λ (q : Option Request). StateTo k q later) doubts.request its_turn.state)
    where
      confirmed : confirms k (Some (requests.Reconfirm (Some doubts.rr))) ≡ confirms_key k (Some (link, doubts.key))
      confirmed = ap (confirms k) (sym doubts.request) ∙ doubts.confirms

      by : (b : Bool) → nat_lt (newest k) (newest later) ≡ b → cond b (SettlesDoubt link ready new) (TakesBack link ready new) → StateTo k (Some (requests.Reconfirm (Some doubts.rr))) later → Ends new (confirming k number)
      by true risen settles (inl stays) = absurd (omega (arith, stays.1, is-less (newest k) (newest later) risen))
      by false risen takes (inr e) = absurd (omega (arith, e.3, not-less (newest k) (newest later) risen))
      by false risen takes (inl stays) =
          subst (λ (o : Option (ℕ × Key)). Ends new o) (sym (doubts.confirms ∙ sym confirmed ∙ stays.2)) (undoubted-ends fewer follows keeps k later number room plain before kept told forgets stands link ready new doubts takes)
      by true risen settles (inr e) =
          let same : (link, doubts.key) ≡ e.0 = found-so link doubts.key e.0 (sym confirmed ∙ e.1) in
          subst (λ (o : Option (ℕ × Key)). Ends new o) (sym (doubts.confirms ∙ sym confirmed ∙ e.1 ∙ ap (λ (f : ℕ × Key). Some f) (sym same)))
          (settled-ends fewer follows keeps k later number room plain before kept told forgets stands commutes link ready new doubts settles (e.2 ∙ ap (λ (f : ℕ × Key). after (state_now k) (entries.Reconfirm f.0 f.1)) (sym same)))

  pub settles-ends : (ready : Ready) (made new : AllReasons) → IsReady k number ready before made → Settles later number ready (count_of (session_of k number)) (newest k) made new → Ends new (confirms_by_turn k (session_of k number))
  settles-ends ready made new is settles = subst (λ (o : Option (ℕ × Key)). Ends new o) (sym (confirms-turn k (session_of k number))) (by ready is settles)
    where
      by : (r : Ready) → IsReady k number r before made → Settles later number r (count_of (session_of k number)) (newest k) made new → Ends new (confirming k number)
      by readies.Nothing still settles = subst (λ (o : Option (ℕ × Key)). Ends new o) (sym still.confirms) (still-settles made new still (nat_lt (count_of (session_of later number)) (count_of (session_of k number))) refl settles)
      by readies.Reason has settles = subst (λ (o : Option (ℕ × Key)). Ends new o) (sym has.confirms) (reason-settles made new has (nat_le (count_of (session_of later number)) (count_of (session_of k number))) refl settles)
      by (readies.Doubt link) doubts settles = doubt-settles link made new doubts (nat_lt (newest k) (newest later)) refl settles
