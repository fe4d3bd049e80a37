-- What is asked behind a turn by which a reason came.
--     AskMore      sessions ask a link more
--     more-from      of each link
use Rattle.std.proofs.Common.{◌≡◌, ℕ, zero, suc, ◌+◌, Bool, true, false, cond, not, ◌||◌, List, [], ◌∷◌, ◌++◌, length, map, filter, Option, Some, None, refl, sym, ap, subst, ◌∙◌, arith}
use Rattle.std.specs.Prelude.{◌==◌, slice_get, if◌then◌else◌}
use Rattle.std.specs.List.{list_any}
use Rattle.std.proofs.lemmas.List.{append-nil}
use Rattle.std.proofs.lemmas.List.Folds.{list_any-append}
use Rattle.push_base.specs.Cases.{changed_at}
use Rattle.rrset.specs.Records.{same_key}
use Rattle.rrset.specs.KeyedRows.{row_at}
use Rattle.rrset.specs.declared.record.Key.{Key}
use Rattle.rrset.specs.declared.record.Question.{Question}
use Rattle.linkcache.specs.Links.{LinkState}
use Rattle.linkcache.specs.declared.row.HeardRow.{HeardRow}
use Rattle.linkask.specs.Asking.{Wanted, anew, same_asked, wanted}
use Rattle.linkask.specs.Reasons.{LinkAsking, Reconfirmed, asking_behind, is_doubted, question_for, reasons, still_reconfirmed, was_heard_at, with_doubted, with_reasons, with_reconfirmed}
use Rattle.linkreasons.specs.AllReasons.{WantsReasons, but_last, doubted_last, doubted_more, reasons_on, session_questions, with_any_of, with_wanted}
use Rattle.linkreasons.specs.Changing.{last_of, settled_last}
use Rattle.linkreasons.specs.Laws.{AreAmong, AreSpelledAs, FollowsReasons, IsPlain}
use Rattle.linkreasons.proofs.Spelling.{spelled-reasons}
use Rattle.pushserver.specs.Hubs.{state_now}
use Rattle.pushserver.specs.KeptHubs.{KeptHub}
use Rattle.livesessions.proofs.SessionLists.{number-itself, other-number}
use Rattle.hubasking.specs.KeptReasons.{followed_from, session_reasons}
use Rattle.hubasking.specs.LinkAskings.{confirmed_on, kept_questions, links_behind, questions_at, questions_in}
use Rattle.hubasking.proofs.Leading.{AskFewer, Sessions, WantFrom, among-append, among-both, among-filter}
use Rattle.hubasking.proofs.Followed.{StandFrom, asked-at, behind-from, reasons-same, stand-here, stand-next}
use Rattle.hubasking.proofs.TakenBack.{but-last-more}

or-first : (a b : Bool) → a ≡ true → (a || b) ≡ true
or-first true b is = refl
or-first false b is = absurd cc

or-second : (a b : Bool) → b ≡ true → (a || b) ≡ true
or-second true b is = refl
or-second false b is = is

-- sessions ask a link more, by one question at most
abbrev pub AskMore : ℕ → Question → Sessions → Sessions → Type 0
AskMore place question later before = (link : ℕ) → AreAmong (session_questions link later) (session_questions link before ++ cond (link == place) (question ∷ []) [])

module _ (follows : FollowsReasons) (later : KeptHub) (before : Sessions) where
  abbrev there : Sessions
  there = session_reasons (state_now later) later.sessions

  -- of a link that is asked more
  more-here : (link : ℕ) (l : LinkState) (a : LinkAsking) (question : Question) → IsPlain question → AreAmong (session_questions link there) (session_questions link before ++ question ∷ []) → slice_get (state_now later).links link ≡ Some l → WantsReasons (reasons_on link before a.reconfirmed) a.wanted
      → with_any_of (reasons_on link there (still_reconfirmed l.rows a.reconfirmed)) (wanted question a.wanted)
      ≡ with_reasons (reasons l.rules.domain (questions_at (state_now later) link (questions_in kept_questions later)) (still_reconfirmed l.rows a.reconfirmed)) a.wanted
  more-here link l a question plain among at wants =
      follows (reasons_on link before a.reconfirmed) (question ∷ []) (reasons_on link there (still_reconfirmed l.rows a.reconfirmed)) a.wanted wants by_question spelled
      ∙ ap (λ (qs : List Question). with_reasons qs a.wanted) (reasons-same (state_now later) later.sessions link l (still_reconfirmed l.rows a.reconfirmed) at)
    where
      some : (q : Question) (xs ys : List Question) → list_any (same_asked q) (xs ++ ys) ≡ (list_any (same_asked q) xs || list_any (same_asked q) ys)
      some q xs ys = list_any-append (same_asked q) xs ys

      by_parts : (a b c d e : Bool) → (a ≡ true → (c || e) ≡ true) → (b ≡ true → d ≡ true) → (a || b) ≡ true → ((c || d) || e) ≡ true
      by_parts a b true d e f g h = refl
      by_parts true b false true e f g h = refl
      by_parts true b false false e f g h = f refl
      by_parts false true false d e f g h = or-first d e (g refl)
      by_parts false false false d e f g h = absurd cc

      rows : List Question
      rows = map (λ (r : Key × ℕ). question_for r.0) a.reconfirmed

      left : List Question
      left = map (λ (r : Key × ℕ). question_for r.0) (still_reconfirmed l.rows a.reconfirmed)

      left-among : AreAmong left (reasons_on link before a.reconfirmed)
      left-among q h = some q (session_questions link before) rows ∙ or-second (list_any (same_asked q) (session_questions link before)) (list_any (same_asked q) rows) (among-filter (λ r. was_heard_at r.1 (row_at r.0 l.rows)) a.reconfirmed q h)

      spelled : AreSpelledAs (reasons_on link before a.reconfirmed) (question ∷ []) (reasons_on link there (still_reconfirmed l.rows a.reconfirmed))
      spelled = subst (λ (qs : List Question). AreSpelledAs (reasons_on link before a.reconfirmed) (question ∷ []) qs) (sym (reasons-same (state_now later) later.sessions link l (still_reconfirmed l.rows a.reconfirmed) at))
          (spelled-reasons l.rules.domain (questions_at (state_now later) link (questions_in kept_questions later)) (still_reconfirmed l.rows a.reconfirmed) (reasons_on link before a.reconfirmed) (question ∷ []) (plain, tt) left-among)

      by_question : (q : Question) → list_any (same_asked q) (reasons_on link there (still_reconfirmed l.rows a.reconfirmed)) ≡ true → (list_any (same_asked q) (reasons_on link before a.reconfirmed) || list_any (same_asked q) (question ∷ [])) ≡ true
      by_question q is =
          ap (λ (b : Bool). b || list_any (same_asked q) (question ∷ [])) (some q (session_questions link before) rows)
          ∙ by_parts (list_any (same_asked q) (session_questions link there)) (list_any (same_asked q) left) (list_any (same_asked q) (session_questions link before)) (list_any (same_asked q) rows) (list_any (same_asked q) (question ∷ []))
          (λ h. sym (some q (session_questions link before) (question ∷ [])) ∙ among q h)
          (among-filter (λ r. was_heard_at r.1 (row_at r.0 l.rows)) a.reconfirmed q)
          (sym (some q (session_questions link there) left) ∙ is)

  append-none : (link : ℕ) → AreAmong (session_questions link there) (session_questions link before ++ []) → AreAmong (session_questions link there) (session_questions link before)
  append-none link among question is = sym (ap (λ (qs : List Question). list_any (same_asked question) qs) (append-nil (session_questions link before))) ∙ among question is

  -- the links that are asked as before
  fewer-at : (place : ℕ) (question : Question) → AskMore place question there before → (link : ℕ) → (link ≡ place → ⊥) → AreAmong (session_questions link there) (session_questions link before)
  fewer-at place question more link apart =
      append-none link (subst (λ (b : Bool). AreAmong (session_questions link there) (session_questions link before ++ cond b (question ∷ []) [])) (other-number link place apart) (more link))

  one-at : (link : ℕ) (l : LinkState) (a : LinkAsking) → AreAmong (session_questions link there) (session_questions link before) → slice_get (state_now later).links link ≡ Some l → WantsReasons (reasons_on link before a.reconfirmed) a.wanted
      → with_any_of (reasons_on link there (still_reconfirmed l.rows a.reconfirmed)) a.wanted
      ≡ with_reasons (reasons l.rules.domain (questions_at (state_now later) link (questions_in kept_questions later)) (still_reconfirmed l.rows a.reconfirmed)) a.wanted
  one-at link l a among at wants =
      follows (reasons_on link before a.reconfirmed) [] (reasons_on link there (still_reconfirmed l.rows a.reconfirmed)) a.wanted wants
      (λ question is. or-first (list_any (same_asked question) (reasons_on link before a.reconfirmed)) (list_any (same_asked question) [])
      (among-append (session_questions link there) (map (λ (r : Key × ℕ). question_for r.0) (still_reconfirmed l.rows a.reconfirmed)) (session_questions link before) (map (λ (r : Key × ℕ). question_for r.0) a.reconfirmed) among
      (among-filter (λ r. was_heard_at r.1 (row_at r.0 l.rows)) a.reconfirmed) question is)) tt
      ∙ ap (λ (qs : List Question). with_reasons qs a.wanted) (reasons-same (state_now later) later.sessions link l (still_reconfirmed l.rows a.reconfirmed) at)

  -- links behind the one that is asked more
  rest-from : (place : ℕ) (question : Question) → AskMore place question there before → (link : ℕ) (ls : List LinkState) (asks : List LinkAsking) → ((i : ℕ) → link + i ≡ place → ⊥) → StandFrom link ls (state_now later).links → WantFrom link before asks
      → followed_from link there ls asks ≡ links_behind (state_now later) (questions_in kept_questions later) None link ls asks
  rest-from place question more link [] asks past stand want = refl
  rest-from place question more link (l ∷ ls) [] past stand want = refl
  rest-from place question more link (l ∷ ls) (a ∷ asks) past stand want =
      λ i. record { wanted = one-at link l a (fewer-at place question more link (λ same. past 0 ((let z : link + 0 ≡ link = omega arith in z) ∙ same))) (stand-here link l ls (state_now later).links stand) want.0 i; reconfirmed = still_reconfirmed l.rows a.reconfirmed }
      ∷ rest-from place question more (link + 1) ls asks (λ j same. past (suc j) ((let z : link + suc j ≡ link + 1 + j = omega arith in z) ∙ same)) (stand-next link l ls (state_now later).links stand) want.1 i

  pub more-from : (place : ℕ) (question : Question) → IsPlain question → AskMore place question there before → (link part : ℕ) → link + part ≡ place → (ls : List LinkState) (asks : List LinkAsking) → StandFrom link ls (state_now later).links → WantFrom link before asks
      → followed_from link there ls (with_wanted part question asks) ≡ links_behind (state_now later) (questions_in kept_questions later) None link ls asks
  more-from place question plain more link part is [] asks stand want = refl
  more-from place question plain more link part is (l ∷ ls) [] stand want = refl
  more-from place question plain more link zero is (l ∷ ls) (a ∷ asks) stand want =
      let here : link ≡ place = omega (arith, is) in
      let among : AreAmong (session_questions link there) (session_questions link before ++ question ∷ []) =
      subst (λ (b : Bool). AreAmong (session_questions link there) (session_questions link before ++ cond b (question ∷ []) [])) (ap (λ (n : ℕ). link == n) (sym here) ∙ number-itself link) (more link) in
      λ i. record { wanted = more-here link l a question plain among (stand-here link l ls (state_now later).links stand) want.0 i; reconfirmed = still_reconfirmed l.rows a.reconfirmed }
      ∷ rest-from place question more (link + 1) ls asks (λ j same. (let wrong : ⊥ = omega (arith, same, is) in wrong)) (stand-next link l ls (state_now later).links stand) want.1 i
  more-from place question plain more link (suc part) is (l ∷ ls) (a ∷ asks) stand want =
      λ i. record { wanted = one-at link l a (fewer-at place question more link (λ same. (let wrong : ⊥ = omega (arith, same, is) in wrong))) (stand-here link l ls (state_now later).links stand) want.0 i; reconfirmed = still_reconfirmed l.rows a.reconfirmed }
      ∷ more-from place question plain more (link + 1) part (omega (arith, is)) ls asks (stand-next link l ls (state_now later).links stand) want.1 i
