-- The reasons of sessions are what their questions ask of links.
--     asked-of-link      what all ask of one link
use Rattle.std.proofs.Common.{◌≡◌, ℕ, Bool, true, false, cond, List, [], ◌∷◌, ◌++◌, map, filter, Option, Some, None, refl, sym, ap, subst, ◌∙◌}
use Rattle.std.specs.Prelude.{slice_get, flat_map, ◌==◌}
use Rattle.std.proofs.lemmas.List.{append_assoc}
use Rattle.dnsname.specs.Names.{Labels}
use Rattle.rrset.specs.declared.record.Question.{Question}
use Rattle.subscr.specs.Asked.{Asked}
use Rattle.linkcache.specs.Links.{LinkState}
use Rattle.linkask.specs.Reasons.{question_on}
use Rattle.linkreasons.specs.AllReasons.{questions_for, session_questions}
use Rattle.linkreasons.specs.declared.reason.Reason.{Reason}
use Rattle.history.specs.States.{State, home_of}
use Rattle.history.specs.declared.entry.Home.{Home}
use Rattle.history.specs.declared.entry.Home.TheVariants as homes
use Rattle.pushsession.specs.Kept.{KeptSession}
use Rattle.livesessions.specs.NumberedSessions.{Numbered}
use Rattle.livesessions.proofs.SessionLists.{same-number}
use Rattle.hubasking.specs.KeptReasons.{reasons_at, reasons_for, reasons_of, session_reasons}
use Rattle.hubasking.specs.LinkAskings.{is_link, kept_questions, questions_at}

for-append : (link : ℕ) (xs ys : List Reason) → questions_for link (xs ++ ys) ≡ questions_for link xs ++ questions_for link ys
for-append link [] ys = refl
for-append link (x ∷ xs) ys = by (x.link == link) (for-append link xs ys)
  where
    by : (b : Bool) → questions_for link (xs ++ ys) ≡ questions_for link xs ++ questions_for link ys → map (λ (r : Reason). r.question) (cond b (x ∷ filter (λ (r : Reason). r.link == link) (xs ++ ys)) (filter (λ (r : Reason). r.link == link) (xs ++ ys)))
        ≡ map (λ (r : Reason). r.question) (cond b (x ∷ filter (λ (r : Reason). r.link == link) xs) (filter (λ (r : Reason). r.link == link) xs)) ++ questions_for link ys
    by true rest = ap (λ (qs : List Question). x.question ∷ qs) rest
    by false rest = rest

-- reasons of one link
of-link : (link id i : ℕ) (qs : List Question) (b : Bool) → (i == link) ≡ b → questions_for link (map (λ (q : Question). record { id = id; link = i; question = q }) qs) ≡ cond b qs []
of-link link id i [] true is = refl
of-link link id i [] false is = refl
of-link link id i (q ∷ qs) true is =
    ap (λ (b : Bool). map (λ (r : Reason). r.question) (cond b ((record { id = id; link = i; question = q }) ∷ filter (λ (r : Reason). r.link == link) (map (λ (q : Question). record { id = id; link = i; question = q }) qs)) (filter (λ (r : Reason). r.link == link) (map (λ (q : Question). record { id = id; link = i; question = q }) qs)))) is
    ∙ ap (λ (rest : List Question). q ∷ rest) (of-link link id i qs true is)
of-link link id i (q ∷ qs) false is =
    ap (λ (b : Bool). map (λ (r : Reason). r.question) (cond b ((record { id = id; link = i; question = q }) ∷ filter (λ (r : Reason). r.link == link) (map (λ (q : Question). record { id = id; link = i; question = q }) qs)) (filter (λ (r : Reason). r.link == link) (map (λ (q : Question). record { id = id; link = i; question = q }) qs)))) is
    ∙ of-link link id i qs false is

module _ (state : State) (link : ℕ) (l : LinkState) (at : slice_get state.links link ≡ Some l) where
  on_domain : Question → List Question
  on_domain question = question_on l.rules.domain question

  at-none : (id i : ℕ) (question : Question) (o : Option LinkState) → (i == link) ≡ false → questions_for link (elim o as (λ _. List Reason) [ None ↦ [] | Some k ↦ map (λ (q : Question). record { id = id; link = i; question = q }) (question_on k.rules.domain question) ]) ≡ []
  at-none id i question None is = refl
  at-none id i question (Some k) is = of-link link id i (question_on k.rules.domain question) false is

  at-link : (id i : ℕ) (question : Question) (b : Bool) → (i == link) ≡ b → questions_for link (reasons_at id question state.links (Some (homes.Link i))) ≡ cond b (question_on l.rules.domain question) []
  at-link id i question true is =
      ap (λ (o : Option LinkState). questions_for link (elim o as (λ _. List Reason) [ None ↦ [] | Some k ↦ map (λ (q : Question). record { id = id; link = i; question = q }) (question_on k.rules.domain question) ])) (ap (slice_get state.links) (same-number i link is) ∙ at)
      ∙ of-link link id i (question_on l.rules.domain question) true is
  at-link id i question false is = at-none id i question (slice_get state.links i) is

  at-home : (id : ℕ) (question : Question) (h : Option Home) → questions_for link (reasons_at id question state.links h) ≡ cond (is_link link h) (question_on l.rules.domain question) []
  at-home id question None = refl
  at-home id question (Some (homes.Zone i)) = refl
  at-home id question (Some (homes.Link i)) = at-link id i question (i == link) refl

  of-session : (asked : Asked) → questions_for link (reasons_of state asked) ≡ flat_map (question_on l.rules.domain) (questions_at state link (map (λ (e : ℕ × Question). e.1) asked))
  of-session [] = refl
  of-session (e ∷ es) =
      for-append link (reasons_for state e) (reasons_of state es)
      ∙ (λ i. at-home e.0 e.1 (home_of state e.1.name) i ++ of-session es i)
      ∙ by (is_link link (home_of state e.1.name))
    where
      by : (b : Bool) → cond b (question_on l.rules.domain e.1) [] ++ flat_map (question_on l.rules.domain) (questions_at state link (map (λ (e : ℕ × Question). e.1) es))
          ≡ flat_map (question_on l.rules.domain) (cond b (e.1 ∷ questions_at state link (map (λ (e : ℕ × Question). e.1) es)) (questions_at state link (map (λ (e : ℕ × Question). e.1) es)))
      by true = refl
      by false = refl

  at-append : (xs ys : List Question) → flat_map (question_on l.rules.domain) (questions_at state link (xs ++ ys)) ≡ flat_map (question_on l.rules.domain) (questions_at state link xs) ++ flat_map (question_on l.rules.domain) (questions_at state link ys)
  at-append [] ys = refl
  at-append (x ∷ xs) ys = by (is_link link (home_of state x.name)) (at-append xs ys)
    where
      by : (b : Bool) → flat_map (question_on l.rules.domain) (questions_at state link (xs ++ ys)) ≡ flat_map (question_on l.rules.domain) (questions_at state link xs) ++ flat_map (question_on l.rules.domain) (questions_at state link ys) → flat_map (question_on l.rules.domain) (cond b (x ∷ questions_at state link (xs ++ ys)) (questions_at state link (xs ++ ys)))
          ≡ flat_map (question_on l.rules.domain) (cond b (x ∷ questions_at state link xs) (questions_at state link xs)) ++ flat_map (question_on l.rules.domain) (questions_at state link ys)
      by true rest = ap (λ (qs : List Question). question_on l.rules.domain x ++ qs) rest ∙ sym (append_assoc (question_on l.rules.domain x) (flat_map (question_on l.rules.domain) (questions_at state link xs)) (flat_map (question_on l.rules.domain) (questions_at state link ys)))
      by false rest = rest

  pub asked-of-link : (sessions : Numbered KeptSession) → session_questions link (session_reasons state sessions) ≡ flat_map (question_on l.rules.domain) (questions_at state link (flat_map (λ (e : ℕ × KeptSession). kept_questions e.1.subscriptions) sessions))
  asked-of-link [] = refl
  asked-of-link (s ∷ ss) =
      (λ i. of-session s.1.subscriptions.asked i ++ asked-of-link ss i)
      ∙ sym (at-append (kept_questions s.1.subscriptions) (flat_map (λ (e : ℕ × KeptSession). kept_questions e.1.subscriptions) ss))
