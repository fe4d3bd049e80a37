-- The reasons of sessions behind a turn.
--     IsMany, IsFew, IsMore      the session of a number has no fewer questions; fewer; more
--     still-follow      where no reason comes, and none goes
--     less-follow      where a question goes
--     more-follow      where a reason comes
--     gone-follow      where it didn't
use Rattle.std.proofs.Common.{◌≡◌, ◌⊎◌, inl, inr, ℕ, ◌+◌, ◌≤◌, ◌<◌, Bool, true, false, cond, List, [], ◌∷◌, ◌++◌, length, map, Option, Some, None, refl, sym, ap, subst, ◌∙◌, arith}
use Rattle.std.specs.Prelude.{flat_map, ◌==◌}
use Rattle.std.specs.List.{AllZip, AllByRecursion}
use Rattle.std.proofs.lemmas.List.{append-nil, append_assoc}
use Rattle.rrset.specs.declared.record.Question.{Question}
use Rattle.subscr.specs.Asked.{Asked, without}
use Rattle.linkreasons.specs.AllReasons.{in_session, with_reason, with_those}
use Rattle.linkreasons.specs.declared.reason.Reason.{Reason}
use Rattle.history.specs.States.{State}
use Rattle.pushsession.specs.Kept.{KeptSession}
use Rattle.pushsession.specs.declared.request.Request.{Request}
use Rattle.pushsession.specs.declared.request.Request.TheVariants as requests
use Rattle.livesessions.specs.NumberedSessions.{Numbered, session_in}
use Rattle.pushserver.specs.Hubs.{state_now}
use Rattle.pushserver.specs.KeptHubs.{KeptHub}
use Rattle.livesessions.proofs.SessionLists.{same-number}
use Rattle.hubasking.specs.KeptReasons.{StillAsks, reasons_for, reasons_of, session_reasons}
use Rattle.hubasking.specs.Turns.{coming_with}
use Rattle.hubasking.proofs.Leading.{Sessions}
use Rattle.hubasking.proofs.Clearing.{AreFound}
use Rattle.hubasking.proofs.Leaving.{all-reasons, kept-reasons, no-reasons, none-gone}
use Rattle.hubasking.proofs.Resting.{SameHomes, all-reasons-same}
use Rattle.hubasking.proofs.Turning.{OwnTo, TurnsTo}

-- of the sessions of a number, before and afterwards
abbrev pub Counts : (ℕ → ℕ → Type 0) → ℕ → Numbered KeptSession → Numbered KeptSession → Type 0
Counts R number xs ys = AllZip (λ e d. (e.0 == number) ≡ true → R (length e.1.subscriptions.asked) (length d.1.subscriptions.asked)) xs ys

longer : {X : Type 0} (xs : List X) (x : X) → length (xs ++ x ∷ []) ≡ length xs + 1
longer [] x = refl
longer (y ∷ ys) x = omega (arith, longer ys x)

-- the reasons of one question more
one-more : (state : State) (asked : Asked) (e : ℕ × Question) → reasons_of state (asked ++ e ∷ []) ≡ reasons_of state asked ++ reasons_for state e
one-more state [] e = append-nil (reasons_for state e)
one-more state (d ∷ ds) e = ap (λ (rs : List Reason). reasons_for state d ++ rs) (one-more state ds e) ∙ sym (append_assoc (reasons_for state d) (reasons_of state ds) (reasons_for state e))

module _ (k later : KeptHub) (homes : SameHomes (state_now k) (state_now later)) (number : ℕ) (request : Option Request) (id : Option ℕ) where
  abbrev old_reasons : Asked → List Reason
  old_reasons asked = reasons_of (state_now k) asked

  moved : (asked later_asked : Asked) → later_asked ≡ asked → reasons_of (state_now k) asked ≡ reasons_of (state_now later) later_asked
  moved asked later_asked same = all-reasons-same (state_now k) (state_now later) homes asked ∙ ap (reasons_of (state_now later)) (sym same)

  abbrev Outcome : List Reason → Asked → Type 0
  Outcome before later_asked = (later_asked ≡ []) ⊎ (before ≡ reasons_of (state_now later) later_asked)

  -- ---- no reason comes, and none goes

  stays-own : coming_with (state_now k) id request ≡ [] → (asked later_asked : Asked) → length asked ≤ length later_asked → OwnTo request id asked later_asked → Outcome (reasons_of (state_now k) asked) later_asked
  stays-own none asked later_asked many own = by request id none own
    where
      by : (q : Option Request) (i : Option ℕ) → coming_with (state_now k) i q ≡ [] → OwnTo q i asked later_asked → Outcome (reasons_of (state_now k) asked) later_asked
      by None i none own = absurd own
      by (Some requests.Update) i none own = absurd own
      by (Some requests.Query) i none own = absurd own
      by (Some (requests.Reconfirm rr)) i none own = absurd own
      by (Some (requests.Subscribe None)) i none own = absurd own
      by (Some (requests.Subscribe (Some q))) None none own = absurd own
      by (Some requests.Itself) i none own = inr (moved asked later_asked (own.1 ∙ none-gone own.0 asked (subst (λ (l : Asked). length asked ≤ length l) own.1 many)))
      by (Some (requests.Subscribe (Some q))) (Some i) none own = inr (
          sym (append-nil (reasons_of (state_now k) asked)) ∙ ap (λ (rs : List Reason). reasons_of (state_now k) asked ++ rs) (sym none) ∙ sym (one-more (state_now k) asked (i, q))
          ∙ moved (asked ++ (i, q) ∷ []) later_asked own)

  pub still-follow : coming_with (state_now k) id request ≡ [] → (xs ys : Numbered KeptSession) → Counts (λ n m. n ≤ m) number xs ys → AllZip (TurnsTo number request id) xs ys → AllZip (StillAsks later) (session_reasons (state_now k) xs) ys
  still-follow none [] [] many zip = tt
  still-follow none [] (y ∷ ys) many zip = absurd zip
  still-follow none (x ∷ xs) [] many zip = absurd zip
  still-follow none (x ∷ xs) (y ∷ ys) many zip = ((zip.0.0, by zip.0.1), still-follow none xs ys many.1 zip.1)
    where
      by : (y.1.subscriptions.asked ≡ []) ⊎ (y.1.subscriptions.asked ≡ x.1.subscriptions.asked) ⊎ (((x.0 == number) ≡ true) × OwnTo request id x.1.subscriptions.asked y.1.subscriptions.asked) → Outcome (reasons_of (state_now k) x.1.subscriptions.asked) y.1.subscriptions.asked
      by (inl empty) = inl empty
      by (inr (inl same)) = inr (moved x.1.subscriptions.asked y.1.subscriptions.asked same)
      by (inr (inr own)) = stays-own none x.1.subscriptions.asked y.1.subscriptions.asked (many.0 own.0) own.1

  -- ---- a question goes

  less-own : (asked later_asked : Asked) → length later_asked < length asked → OwnTo request id asked later_asked → Outcome (with_those later_asked (reasons_of (state_now k) asked)) later_asked
  less-own asked later_asked few own = by request id own
    where
      by : (q : Option Request) (i : Option ℕ) → OwnTo q i asked later_asked → Outcome (with_those later_asked (reasons_of (state_now k) asked)) later_asked
      by None i own = absurd own
      by (Some requests.Update) i own = absurd own
      by (Some requests.Query) i own = absurd own
      by (Some (requests.Reconfirm rr)) i own = absurd own
      by (Some (requests.Subscribe None)) i own = absurd own
      by (Some (requests.Subscribe (Some q))) None own = absurd own
      by (Some requests.Itself) i own = inr (ap (λ (l : Asked). with_those l (reasons_of (state_now k) asked)) own.1 ∙ kept-reasons (state_now k) asked own.0 ∙ moved (without own.0 asked) later_asked own.1)
      by (Some (requests.Subscribe (Some q))) (Some i) own = absurd (omega (arith, few, ap (λ (l : Asked). length l) own, longer asked (i, q)))

  -- the session's questions now
  pub less-follow : (left : Asked) → (xs ys : Numbered KeptSession) → AllByRecursion (λ (d : ℕ × KeptSession). (d.0 == number) ≡ true → d.1.subscriptions.asked ≡ left) ys → Counts (λ n m. m < n) number xs ys → AllZip (TurnsTo number request id) xs ys
      → AllZip (StillAsks later) (in_session number (with_those left) (session_reasons (state_now k) xs)) ys
  less-follow left [] [] is few zip = tt
  less-follow left [] (y ∷ ys) is few zip = absurd zip
  less-follow left (x ∷ xs) [] is few zip = absurd zip
  less-follow left (x ∷ xs) (y ∷ ys) is few zip = ((zip.0.0, by (x.0 == number) refl zip.0.1), less-follow left xs ys is.1 few.1 zip.1)
    where
      here : (x.0 == number) ≡ true → y.1.subscriptions.asked ≡ left
      here mine = is.0 (ap (λ (n : ℕ). n == number) (sym zip.0.0) ∙ mine)

      by : (b : Bool) → (x.0 == number) ≡ b → (y.1.subscriptions.asked ≡ []) ⊎ (y.1.subscriptions.asked ≡ x.1.subscriptions.asked) ⊎ (((x.0 == number) ≡ true) × OwnTo request id x.1.subscriptions.asked y.1.subscriptions.asked)
          → Outcome (cond b (with_those left (reasons_of (state_now k) x.1.subscriptions.asked)) (reasons_of (state_now k) x.1.subscriptions.asked)) y.1.subscriptions.asked
      by b mine (inl empty) = inl empty
      by true mine (inr (inl same)) = absurd (omega (arith, few.0 mine, ap (λ (l : Asked). length l) same))
      by true mine (inr (inr own)) = subst (λ (l : Asked). Outcome (with_those l (reasons_of (state_now k) x.1.subscriptions.asked)) y.1.subscriptions.asked) (here mine) (less-own x.1.subscriptions.asked y.1.subscriptions.asked (few.0 mine) own.1)
      by false mine (inr (inl same)) = inr (moved x.1.subscriptions.asked y.1.subscriptions.asked same)
      by false mine (inr (inr own)) = let wrong : true ≡ false = sym own.0 ∙ mine in absurd cc

  -- ---- a reason comes

  more-own : (reason : Reason) → coming_with (state_now k) id request ≡ reason ∷ [] → (asked later_asked : Asked) → OwnTo request id asked later_asked → Outcome (with_reason reason (reasons_of (state_now k) asked)) later_asked
  more-own reason comes asked later_asked own = by request id comes own
    where
      by : (q : Option Request) (i : Option ℕ) → coming_with (state_now k) i q ≡ reason ∷ [] → OwnTo q i asked later_asked → Outcome (with_reason reason (reasons_of (state_now k) asked)) later_asked
      by None i comes own = absurd own
      by (Some requests.Update) i comes own = absurd own
      by (Some requests.Query) i comes own = absurd own
      by (Some (requests.Reconfirm rr)) i comes own = absurd own
      by (Some (requests.Subscribe None)) i comes own = absurd own
      by (Some (requests.Subscribe (Some q))) None comes own = absurd own
      by (Some requests.Itself) None comes own = absurd cc
      by (Some requests.Itself) (Some i) comes own = absurd cc
      by (Some (requests.Subscribe (Some q))) (Some i) comes own = inr (ap (λ (rs : List Reason). reasons_of (state_now k) asked ++ rs) (sym comes) ∙ sym (one-more (state_now k) asked (i, q)) ∙ moved (asked ++ (i, q) ∷ []) later_asked own)

  pub more-follow : (reason : Reason) → coming_with (state_now k) id request ≡ reason ∷ [] → (xs ys : Numbered KeptSession) → Counts (λ n m. n < m) number xs ys → AllZip (TurnsTo number request id) xs ys
      → AllZip (StillAsks later) (in_session number (with_reason reason) (session_reasons (state_now k) xs)) ys
  more-follow reason comes [] [] more zip = tt
  more-follow reason comes [] (y ∷ ys) more zip = absurd zip
  more-follow reason comes (x ∷ xs) [] more zip = absurd zip
  more-follow reason comes (x ∷ xs) (y ∷ ys) more zip = ((zip.0.0, by (x.0 == number) refl zip.0.1), more-follow reason comes xs ys more.1 zip.1)
    where
      by : (b : Bool) → (x.0 == number) ≡ b → (y.1.subscriptions.asked ≡ []) ⊎ (y.1.subscriptions.asked ≡ x.1.subscriptions.asked) ⊎ (((x.0 == number) ≡ true) × OwnTo request id x.1.subscriptions.asked y.1.subscriptions.asked)
          → Outcome (cond b (with_reason reason (reasons_of (state_now k) x.1.subscriptions.asked)) (reasons_of (state_now k) x.1.subscriptions.asked)) y.1.subscriptions.asked
      by b mine (inl empty) = inl empty
      by true mine (inr (inl same)) = absurd (omega (arith, more.0 mine, ap (λ (l : Asked). length l) same))
      by true mine (inr (inr own)) = more-own reason comes x.1.subscriptions.asked y.1.subscriptions.asked own.1
      by false mine (inr (inl same)) = inr (moved x.1.subscriptions.asked y.1.subscriptions.asked same)
      by false mine (inr (inr own)) = let wrong : true ≡ false = sym own.0 ∙ mine in absurd cc

  -- ---- a reason didn't come

  gone-own : (reason : Reason) → coming_with (state_now k) id request ≡ reason ∷ [] → (asked later_asked : Asked) → length later_asked ≤ length asked → OwnTo request id asked later_asked → ⊥
  gone-own reason comes asked later_asked few own = by request id comes own
    where
      by : (q : Option Request) (i : Option ℕ) → coming_with (state_now k) i q ≡ reason ∷ [] → OwnTo q i asked later_asked → ⊥
      by None i comes own = own
      by (Some requests.Update) i comes own = own
      by (Some requests.Query) i comes own = own
      by (Some (requests.Reconfirm rr)) i comes own = own
      by (Some (requests.Subscribe None)) i comes own = own
      by (Some (requests.Subscribe (Some q))) None comes own = own
      by (Some requests.Itself) None comes own = absurd cc
      by (Some requests.Itself) (Some i) comes own = absurd cc
      by (Some (requests.Subscribe (Some q))) (Some i) comes own = omega (arith, few, ap (λ (l : Asked). length l) own, longer asked (i, q))

  pub gone-follow : (reason : Reason) → coming_with (state_now k) id request ≡ reason ∷ [] → (xs ys : Numbered KeptSession) → Counts (λ n m. m ≤ n) number xs ys → AllZip (TurnsTo number request id) xs ys → AllZip (StillAsks later) (session_reasons (state_now k) xs) ys
  gone-follow reason comes [] [] few zip = tt
  gone-follow reason comes [] (y ∷ ys) few zip = absurd zip
  gone-follow reason comes (x ∷ xs) [] few zip = absurd zip
  gone-follow reason comes (x ∷ xs) (y ∷ ys) few zip = ((zip.0.0, by zip.0.1), gone-follow reason comes xs ys few.1 zip.1)
    where
      by : (y.1.subscriptions.asked ≡ []) ⊎ (y.1.subscriptions.asked ≡ x.1.subscriptions.asked) ⊎ (((x.0 == number) ≡ true) × OwnTo request id x.1.subscriptions.asked y.1.subscriptions.asked) → Outcome (reasons_of (state_now k) x.1.subscriptions.asked) y.1.subscriptions.asked
      by (inl empty) = inl empty
      by (inr (inl same)) = inr (moved x.1.subscriptions.asked y.1.subscriptions.asked same)
      by (inr (inr own)) = absurd (gone-own reason comes x.1.subscriptions.asked y.1.subscriptions.asked (few.0 own.0) own.1)
