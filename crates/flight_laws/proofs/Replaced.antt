-- One wish that waits goes, or another stands in its place, which doesn't wait with its ID.
--     mid-all, mid-any, mid-none      what holds of the wishes then
use Rattle.std.proofs.Common.{◌≡◌, ℕ, ◌+◌, Bool, true, false, ◌||◌, List, [], ◌∷◌, ◌++◌, sym, ap, ◌∙◌, subst, refl, true≢false}
use Rattle.std.specs.Prelude.{flat_map}
use Rattle.std.specs.List.{list_any, AllByRecursion, IsDistinct}
use Rattle.std.proofs.lemmas.List.Folds.{list_any-append}
use Rattle.std.proofs.lemmas.Grind.{flat_map-append}
use Rattle.rrset.specs.Records.{same_question}
use Rattle.coalesce.proofs.ReadBack.{each-append}
use Rattle.coalesce.proofs.Packing.{each-front}
use Rattle.pushclient.specs.Clients.{Wish}
use Rattle.pushclient.specs.SoundClients.{count_of}
use Rattle.flight_laws.proofs.Counting.{count-append}
use Rattle.flight_laws.proofs.Writing.{each-behind}

still-one : (a b c m : Bool) → b ≡ false → (a || (b || c)) ≡ true → (a || (m || c)) ≡ true
still-one true b c m is h = refl
still-one false true c m is h = absurd (true≢false is)
still-one false false true true is h = refl
still-one false false true false is h = refl
still-one false false false m is h = absurd (true≢false (sym h))

still-none : (a b c m : Bool) → m ≡ false → (a || (b || c)) ≡ false → (a || (m || c)) ≡ false
still-none true b c m is h = absurd (true≢false h)
still-none false true c m is h = absurd (true≢false h)
still-none false false true m is h = absurd (true≢false h)
still-none false false false true is h = absurd (true≢false is)
still-none false false false false is h = refl

module _ (before : List Wish) (w : Wish) (mid behind : List Wish) where
  abbrev old_wishes : List Wish
  old_wishes = before ++ w ∷ behind

  abbrev new_wishes : List Wish
  new_wishes = before ++ (mid ++ behind)

  pub mid-all : (P : Wish → Type 0) → AllByRecursion P mid → AllByRecursion P (before ++ w ∷ behind) → AllByRecursion P (before ++ (mid ++ behind))
  mid-all P mids all = each-append P before (mid ++ behind) (each-front P before (w ∷ behind) all) (each-append P mid behind mids (each-behind P before (w ∷ behind) all).1)

  -- a test that the one which goes doesn't pass
  pub mid-any : (p : Wish → Bool) → p w ≡ false → list_any p (before ++ w ∷ behind) ≡ true → list_any p (before ++ (mid ++ behind)) ≡ true
  mid-any p other h =
      let old : (list_any p before || (p w || list_any p behind)) ≡ true = sym (list_any-append p before (w ∷ behind)) ∙ h in
      list_any-append p before (mid ++ behind) ∙ ap (λ b. list_any p before || b) (list_any-append p mid behind) ∙ still-one (list_any p before) (p w) (list_any p behind) (list_any p mid) other old

  -- a test that the one in its place doesn't pass
  pub mid-none : (p : Wish → Bool) → list_any p mid ≡ false → list_any p (before ++ w ∷ behind) ≡ false → list_any p (before ++ (mid ++ behind)) ≡ false
  mid-none p other h =
      let old : (list_any p before || (p w || list_any p behind)) ≡ false = sym (list_any-append p before (w ∷ behind)) ∙ h in
      list_any-append p before (mid ++ behind) ∙ ap (λ b. list_any p before || b) (list_any-append p mid behind) ∙ still-none (list_any p before) (p w) (list_any p behind) (list_any p mid) other old

  pub count-old : (ids : Wish → List ℕ) (n : ℕ) → count_of n (flat_map ids (before ++ w ∷ behind)) ≡ count_of n (flat_map ids before) + (count_of n (ids w) + count_of n (flat_map ids behind))
  count-old ids n = ap (count_of n) (flat_map-append ids before (w ∷ behind)) ∙ count-append n (flat_map ids before) (ids w ++ flat_map ids behind)
      ∙ ap (λ m. count_of n (flat_map ids before) + m) (count-append n (ids w) (flat_map ids behind))

  pub count-new : (ids : Wish → List ℕ) (n : ℕ) → count_of n (flat_map ids (before ++ (mid ++ behind))) ≡ count_of n (flat_map ids before) + (count_of n (flat_map ids mid) + count_of n (flat_map ids behind))
  count-new ids n = ap (count_of n) (flat_map-append ids before (mid ++ behind)) ∙ count-append n (flat_map ids before) (flat_map ids (mid ++ behind))
      ∙ ap (λ m. count_of n (flat_map ids before) + m) (ap (count_of n) (flat_map-append ids mid behind) ∙ count-append n (flat_map ids mid) (flat_map ids behind))

-- ---- questions that differ

abbrev pub Differ : List Wish → Type 0
Differ ws = IsDistinct (λ v w. same_question v.question w.question) ws

pub differ-left : (before : List Wish) (w : Wish) (behind : List Wish) → Differ (before ++ w ∷ behind) → Differ (before ++ behind)
unfolding IsDistinct
differ-left [] w behind h = h.1
differ-left (v ∷ before) w behind h =
    let P : Wish → Type 0 = λ y. same_question v.question y.question ≡ false in
    (each-append P before behind (each-front P before (w ∷ behind) h.0) (each-behind P before (w ∷ behind) h.0).1, differ-left before w behind h.1)

pub differ-replaced : (before : List Wish) (w v : Wish) (behind : List Wish) → v.question ≡ w.question → Differ (before ++ w ∷ behind) → Differ (before ++ v ∷ behind)
unfolding IsDistinct
differ-replaced [] w v behind is h = (subst (λ q. AllByRecursion (λ (y : Wish). same_question q y.question ≡ false) behind) (sym is) h.0, h.1)
differ-replaced (u ∷ before) w v behind is h =
    let P : Wish → Type 0 = λ y. same_question u.question y.question ≡ false in
    let rest = each-behind P before (w ∷ behind) h.0 in
    (each-append P before (v ∷ behind) (each-front P before (w ∷ behind) h.0) (ap (λ q. same_question u.question q) is ∙ rest.0, rest.1), differ-replaced before w v behind is h.1)
