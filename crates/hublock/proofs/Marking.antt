-- Marks of sessions, and that there is room for all that live.
use Rattle.std.proofs.Common.{◌≡◌, ℕ, ◌+◌, ◌<◌, ◌≤◌, Bool, true, false, cond, ◌&&◌, ◌||◌, List, [], ◌∷◌, ◌++◌, map, length, refl, sym, ap, ◌∙◌, subst, length-append, true≢false, arith}
use Rattle.std.specs.Prelude.{filter, find, is_some, option_map, None, Some, ◌==◌}
use Rattle.std.specs.List.{list_any, IsDistinct}
use Rattle.std.specs.Set.{is_member}
use Rattle.std.proofs.lemmas.Bool.{eqb-true, eq-eqb, or_left, or_right}
use Rattle.std.proofs.lemmas.Cmp.{nat_eq_equiv}
use Rattle.std.proofs.lemmas.List.{length-map}
use Rattle.std.proofs.lemmas.List.Folds.{list_any-append}
use Rattle.std.proofs.lemmas.Map.Made.{is_member-filter, length-le_from_is_member}
use Rattle.std.proofs.lemmas.Slice.Zip.{AllZip-long}
use Rattle.rrset.proofs.Distinct.{distinct_filter, distinct_push}
use Rattle.livesessions.specs.NumberedSessions.{Numbered, session_in}
use Rattle.pushserver.specs.Hubs.{max_sessions}
use Rattle.pushserver.specs.KeptHubs.{SessionStandsFor}
use Rattle.hubasking.specs.AskingHubs.{AskingHub}
use Rattle.hublock.specs.Inside.{AreMarks, has_mark, is_live}
use Rattle.hubloops.proofs.Answering.{StandsForOne}

abbrev numbers : {S : Type 0} → Numbered S → List ℕ
numbers sessions = map (λ e. e.0) sessions

-- a session that is found has its number in the list
found_in : {S : Type 0} (q : ℕ) (sessions : Numbered S) → is_some (session_in q sessions) ≡ true → is_member ◌==◌ (numbers sessions) q ≡ true
found_in q [] h = absurd (true≢false (sym h))
found_in q (e ∷ es) h = by (e.0 == q) refl (found_in q es) h
  where
    by : (b : Bool) → (e.0 == q) ≡ b → (is_some (session_in q es) ≡ true → is_member ◌==◌ (numbers es) q ≡ true)
        → is_some (option_map (λ d. d.1) (cond b (Some e) (find (λ d. d.0 == q) es))) ≡ true → ((q == e.0) || list_any (λ n. q == n) (numbers es)) ≡ true
    by true is rest h = or_left (q == e.0) (list_any (λ n. q == n) (numbers es)) (eq-eqb q e.0 (sym (eqb-true e.0 q is)))
    by false is rest h = or_right (q == e.0) (list_any (λ n. q == n) (numbers es)) (rest h)

second : (a b : Bool) → (a && b) ≡ true → b ≡ true
second true b h = h
second false b h = absurd (true≢false (sym h))

module _ (hub : AskingHub) (over : List ℕ) (session : ℕ) (live : is_live hub session ≡ true) where
  abbrev kept : List ℕ
  kept = filter (is_live hub) over

  -- each of the marks lives
  alive : (q : ℕ) → is_member ◌==◌ (kept ++ session ∷ []) q ≡ true → is_live hub q ≡ true
  alive q m = by (is_member ◌==◌ kept q) refl (sym (list_any-append (λ n. q == n) kept (session ∷ [])) ∙ m)
    where
      by : (b : Bool) → is_member ◌==◌ kept q ≡ b → (b || ((q == session) || false)) ≡ true → is_live hub q ≡ true
      by true is h =
          let both : (is_member ◌==◌ over q && is_live hub q) ≡ true =
          sym (is_member-filter nat_eq_equiv (is_live hub) q (λ x e. ap (λ (n : ℕ). is_live hub n) (eqb-true q x e)) over) ∙ is in
          second (is_member ◌==◌ over q) (is_live hub q) both
      by false is h = last (q == session) refl h
        where
          last : (b : Bool) → (q == session) ≡ b → (b || false) ≡ true → is_live hub q ≡ true
          last true same h = ap (λ (n : ℕ). is_live hub n) (eqb-true q session same) ∙ live
          last false same h = absurd (true≢false (sym h))

  pub marks_apart : AreMarks over → has_mark session kept ≡ false → AreMarks (kept ++ session ∷ [])
  marks_apart apart fresh = distinct_push ◌==◌ kept session (distinct_filter ◌==◌ (is_live hub) over apart) fresh

  pub marks_fit : StandsForOne hub → AreMarks over → has_mark session kept ≡ false → length kept < max_sessions
  marks_fit (plain, stands) apart fresh =
      let short = length-le_from_is_member nat_eq_equiv (kept ++ session ∷ []) (numbers hub.hub.sessions) (marks_apart apart fresh) (λ q m. found_in q hub.hub.sessions (alive q m)) in
      let as_many : length plain.sessions ≡ length hub.hub.sessions = AllZip-long (SessionStandsFor plain) hub.hub.sessions plain.sessions stands.sessions in
      omega (arith, short, length-append kept (session ∷ []), length-map hub.hub.sessions (λ e. e.0), as_many, stands.sound.few)
