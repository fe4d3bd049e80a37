-- Calls that take wishes out, and what is told of a question: the kept client's and the plain one's.
use Rattle.std.proofs.Common.{◌≡◌, ℕ, ◌+◌, ◌≤◌, arith, length, Bool, true, false, cond, not, ◌&&◌, List, [], ◌∷◌, ◌++◌, map, Option, Some, None, refl, sym, ap, subst, ◌∙◌}
use Rattle.std.specs.Prelude.{if◌then◌else◌, find, filter, option_map, is_some, fold}
use Rattle.std.specs.List.{IsDistinct}
use Rattle.push_base.specs.Limits.{max_questions}
use Rattle.dnsname.proofs.Decisions.{and_true}
use Rattle.rrset.specs.Records.{same_question}
use Rattle.rrset.specs.RecordSet.{RecordSet}
use Rattle.rrset.specs.declared.record.Question.{Question}
use Rattle.dsosession.specs.declared.session.CloseReason.{CloseReason}
use Rattle.dsotlv.specs.Notices.{applied_all}
use Rattle.mirror.specs.Held.{Held as Sets, is_of, set_of, ended}
use Rattle.pushclient.specs.Clients.{Client, Connection, Wish, RequestState, not_asked, unanswered, refused, answered, new_client, new_connection, asks, connected, cut, drops, unsubscribe, unasked, wish_for, without_wish, id_of, id_asked, Held, off, held, held_as, is_connected}
use Rattle.pushclient.specs.Rule.{KeptClient, StandsFor, BothAnswer, without_told, set_told, is_answered_for, dropped_wish}
use Rattle.pushclient.specs.Steps.{is_answered}
use Rattle.pushclient.specs.Kept.{ended_on, asked_wanted, kept_ask, kept_connected, kept_cut, kept_drop, kept_unsubscribe, kept_id_of, kept_held, kept_held_as}
use Rattle.pushclient.specs.SoundClients.{question_of}
use Rattle.pushclient.proofs.SoundWishes.{same_as, not_both, some_is, find_holds, found_own}
use Rattle.pushclient.proofs.SoundCalls.{new_sound, one_more_sound, fresh_client, fresh_sound, few_wanted, questions_left, drops_sound, cut_sound}
use Rattle.pushclient.proofs.Standing.{StandsIfSound, find_map, filter_map, ask_stands}

-- ---- lists

pub off_and : (t : Bool) → (t && false) ≡ false
off_and true = refl
off_and false = refl

find_both : {A : Type 0} (a b : A → Bool) (xs : List A) (y : A) → find b xs ≡ Some y → a y ≡ true → find (λ x. a x && b x) xs ≡ Some y
find_both a b [] y e h = absurd cc
find_both a b (x ∷ xs) y e h = by (b x) refl e (find_both a b xs y)
  where
    by : (t : Bool) → b x ≡ t → cond t (Some x) (find b xs) ≡ Some y → (find b xs ≡ Some y → a y ≡ true → find (λ z. a z && b z) xs ≡ Some y) → cond (a x && b x) (Some x) (find (λ z. a z && b z) xs) ≡ Some y
    by true is e rest =
        let one : x ≡ y = some_is x y e in
        let here : a x ≡ true = ap a one ∙ h in
        ap (λ (u : Bool). cond (u && b x) (Some x) (find (λ z. a z && b z) xs)) here ∙ ap (λ (u : Bool). cond u (Some x) (find (λ z. a z && b z) xs)) is ∙ e
    by false is e rest =
        ap (λ (u : Bool). cond (a x && u) (Some x) (find (λ z. a z && b z) xs)) is ∙ ap (λ (u : Bool). cond u (Some x) (find (λ z. a z && b z) xs)) (off_and (a x)) ∙ rest e h

pub find_left : {A : Type 0} (p q : A → Bool) → ((y : A) → p y ≡ true → q y ≡ true) → (xs : List A) → find p (filter q xs) ≡ find p xs
find_left p q stays [] = refl
find_left p q stays (x ∷ xs) = by (p x) (q x) refl refl (find_left p q stays xs)
  where
    by : (a b : Bool) → p x ≡ a → q x ≡ b → find p (filter q xs) ≡ find p xs → find p (cond b (x ∷ filter q xs) (filter q xs)) ≡ cond a (Some x) (find p xs)
    by true true is left rest = ap (λ (t : Bool). cond t (Some x) (find p (filter q xs))) is
    by false true is left rest = ap (λ (t : Bool). cond t (Some x) (find p (filter q xs))) is ∙ rest
    by false false is left rest = rest
    by true false is left rest = let other = stays x is in absurd cc

pub find_gone : {A : Type 0} (p q : A → Bool) → ((y : A) → p y ≡ true → q y ≡ false) → (xs : List A) → find p (filter q xs) ≡ None
find_gone p q goes [] = refl
find_gone p q goes (x ∷ xs) = by (p x) (q x) refl refl (find_gone p q goes xs)
  where
    by : (a b : Bool) → p x ≡ a → q x ≡ b → find p (filter q xs) ≡ None → find p (cond b (x ∷ filter q xs) (filter q xs)) ≡ None
    by a false is left rest = rest
    by false true is left rest = ap (λ (t : Bool). cond t (Some x) (find p (filter q xs))) is ∙ rest
    by true true is left rest = let other = goes x is in absurd cc

-- ---- the question's wish goes

without_same : (a b : Question) → same_question a b ≡ true → (ws : List Wish) → without_wish a ws ≡ without_wish b ws
without_same a b h [] = refl
without_same a b h (w ∷ ws) =
    ap (λ (t : Bool). cond (not t) (w ∷ without_wish a ws) (without_wish a ws)) (same_as a b w.question h)
    ∙ ap (λ (l : List Wish). cond (not (same_question w.question b)) (w ∷ l) l) (without_same a b h ws)

dropped_same : (a b : Question) → same_question a b ≡ true → (ws : List Wish) → map (dropped_wish a) ws ≡ map (dropped_wish b) ws
dropped_same a b h [] = refl
dropped_same a b h (w ∷ ws) =
    ap (λ (t : Bool). cond t (record w { wanted = false }) w ∷ map (dropped_wish a) ws) (same_as a b w.question h)
    ∙ ap (λ (l : List Wish). dropped_wish b w ∷ l) (dropped_same a b h ws)

dropped_told : (q : Question) (ws : List Wish) → map (dropped_wish q) (map without_told ws) ≡ map without_told (map (dropped_wish q) ws)
dropped_told q [] = refl
dropped_told q (w ∷ ws) = by (same_question w.question q) (dropped_told q ws)
  where
    by : (b : Bool) → map (dropped_wish q) (map without_told ws) ≡ map without_told (map (dropped_wish q) ws)
        → cond b (record w { wanted = false; notices = [] }) (without_told w) ∷ map (dropped_wish q) (map without_told ws) ≡ without_told (cond b (record w { wanted = false }) w) ∷ map without_told (map (dropped_wish q) ws)
    by true rest = ap (λ l. record w { wanted = false; notices = [] } ∷ l) rest
    by false rest = ap (λ l. without_told w ∷ l) rest

sets_dropped : (x q : Question) (ws : List Wish) → option_map set_told (find (is_answered_for x) (map (dropped_wish q) ws)) ≡ option_map set_told (find (is_answered_for x) ws)
sets_dropped x q [] = refl
sets_dropped x q (w ∷ ws) = by (same_question w.question q) (sets_dropped x q ws)
  where
    found : (a : Bool) (v : Wish) → set_told v ≡ set_told w → option_map set_told (find (is_answered_for x) (map (dropped_wish q) ws)) ≡ option_map set_told (find (is_answered_for x) ws)
        → option_map set_told (cond a (Some v) (find (is_answered_for x) (map (dropped_wish q) ws))) ≡ option_map set_told (cond a (Some w) (find (is_answered_for x) ws))
    found true v is rest = ap (λ e. Some e) is
    found false v is rest = rest

    by : (b : Bool) → option_map set_told (find (is_answered_for x) (map (dropped_wish q) ws)) ≡ option_map set_told (find (is_answered_for x) ws)
        → option_map set_told (find (is_answered_for x) (cond b (record w { wanted = false }) w ∷ map (dropped_wish q) ws)) ≡ option_map set_told (find (is_answered_for x) (w ∷ ws))
    by true rest = found (is_answered_for x w) (record w { wanted = false }) refl rest
    by false rest = found (is_answered_for x w) w refl rest

sets_left : (q : Question) (sets : Sets) (ws : List Wish) → ((x : Question) → find (is_of x) sets ≡ option_map set_told (find (is_answered_for x) ws)) → (x : Question) → find (is_of x) (ended q sets) ≡ option_map set_told (find (is_answered_for x) (without_wish q ws))
sets_left q sets ws are x = by (same_question q x) refl
  where
    by : (t : Bool) → same_question q x ≡ t → find (is_of x) (ended q sets) ≡ option_map set_told (find (is_answered_for x) (without_wish q ws))
    by true is =
        find_gone (is_of x) (λ e. not (is_of q e)) (λ e h. ap not (same_as q x e.0 is ∙ h)) sets
        ∙ sym (ap (option_map set_told) (find_gone (is_answered_for x) (λ w. not (same_question w.question q)) (λ w h. ap not (same_as q x w.question is ∙ (and_true (is_answered w.standing) (same_question w.question x) h).1)) ws))
    by false is =
        find_left (is_of x) (λ e. not (is_of q e)) (λ e h. ap not (not_both q x e.0 is h)) sets
        ∙ are x
        ∙ sym (ap (option_map set_told) (find_left (is_answered_for x) (λ w. not (same_question w.question q)) (λ w h. ap not (not_both q x w.question is (and_true (is_answered w.standing) (same_question w.question x) h).1)) ws))

drops_at : (p : Client) (w : Wish) (id : ℕ) (x : Option Connection) → drops (answered id) w (record p { connection = x }) ≡ record p { wishes = without_wish w.question p.wishes; connection = ended_on id p.now x }
drops_at p w id None = refl
drops_at p w id (Some c) = by c.closed
  where
    by : (y : Option CloseReason) → let x : Option Connection = Some (record c { closed = y }) in drops (answered id) w (record p { connection = x }) ≡ record p { wishes = without_wish w.question p.wishes; connection = ended_on id p.now x }
    by (Some reason) = refl
    by None = refl

-- ---- what is cut

cut_wishes : (ws : List Wish) → map (λ w. unasked w.question) (filter (λ w. w.wanted) (map without_told ws)) ≡ map without_told (map unasked (map (λ w. w.question) (filter (λ w. w.wanted) ws)))
cut_wishes [] = refl
cut_wishes (w ∷ ws) = by w.wanted (cut_wishes ws)
  where
    by : (b : Bool) → map (λ v. unasked v.question) (filter (λ v. v.wanted) (map without_told ws)) ≡ map without_told (map unasked (map (λ v. v.question) (filter (λ v. v.wanted) ws)))
        → map (λ (v : Wish). unasked v.question) (cond b (without_told w ∷ filter (λ v. v.wanted) (map without_told ws)) (filter (λ v. v.wanted) (map without_told ws)))
        ≡ map without_told (map unasked (map (λ (v : Wish). v.question) (cond b (w ∷ filter (λ v. v.wanted) ws) (filter (λ v. v.wanted) ws))))
    by true rest = ap (λ l. unasked w.question ∷ l) rest
    by false rest = rest

none_answered : (x : Question) (qs : List Question) → find (is_answered_for x) (map unasked qs) ≡ None
none_answered x [] = refl
none_answered x (q ∷ qs) = none_answered x qs

asked_stands : (ws : List Wish) (k : KeptClient) (p : Client) → StandsFor k p → length p.wishes + length (map question_of (filter (λ w. w.wanted) ws)) ≤ max_questions → IsDistinct same_question (map question_of p.wishes ++ map question_of (filter (λ w. w.wanted) ws))
    → StandsFor (asked_wanted (map without_told ws) k) (fold asks p (map question_of (filter (λ w. w.wanted) ws)))
asked_stands [] k p s room apart = s
asked_stands (w ∷ ws) k p s room apart = by w.wanted (asked_stands ws) room apart
  where
    by : (b : Bool) → ((k : KeptClient) (p : Client) → StandsFor k p → length p.wishes + length (map question_of (filter (λ w. w.wanted) ws)) ≤ max_questions → IsDistinct same_question (map question_of p.wishes ++ map question_of (filter (λ w. w.wanted) ws))
        → StandsFor (asked_wanted (map without_told ws) k) (fold asks p (map question_of (filter (λ v. v.wanted) ws))))
        → length p.wishes + length (map question_of (cond b (w ∷ filter (λ v. v.wanted) ws) (filter (λ v. v.wanted) ws))) ≤ max_questions
        → IsDistinct same_question (map question_of p.wishes ++ map question_of (cond b (w ∷ filter (λ v. v.wanted) ws) (filter (λ v. v.wanted) ws)))
        → StandsFor (asked_wanted (map without_told ws) (cond b (kept_ask w.question k) k)) (fold asks p (map question_of (cond b (w ∷ filter (λ v. v.wanted) ws) (filter (λ v. v.wanted) ws))))
    by true rest room apart =
        let more = one_more_sound p s.sound w.question (map question_of (filter (λ v. v.wanted) ws)) room apart in
        rest (kept_ask w.question k) (asks p w.question) (ask_stands k p s w.question more.0) more.1 more.2
    by false rest room apart = rest k p s room apart

pub new_stands : StandsFor (record { wishes = []; connection = None; now = 0; sets = [] }) new_client
new_stands = record { wishes = refl; connection = refl; now = refl; sets = λ x. refl; sound = new_sound }

module _ (k : KeptClient) (p : Client) (s : StandsFor k p) where
  pub connected_stands : (t : ℕ) → StandsFor (kept_connected t k) (connected t p)
  connected_stands t =
      let fresh : KeptClient = record { wishes = []; connection = Some (new_connection t); now = t; sets = [] } in
      subst (λ (ws : List Wish). StandsFor (asked_wanted ws fresh) (connected t p)) (sym s.wishes)
      (asked_stands p.wishes fresh (fresh_client t) (record { wishes = refl; connection = refl; now = refl; sets = λ x. refl; sound = fresh_sound t })
      (omega (arith, few_wanted p s.sound)) (questions_left (λ w. w.wanted) p.wishes s.sound.questions))

  pub found_told : (q : Question) → find (λ w. same_question w.question q) k.wishes ≡ option_map without_told (wish_for p q)
  found_told q = ap (find (λ w. same_question w.question q)) s.wishes ∙ find_map (λ w. same_question w.question q) without_told p.wishes

  -- a wish for the question goes, and its set
  gone_stands : (q : Question) (w : Wish) → same_question w.question q ≡ true → (x y : Option Connection) → x ≡ y
      → StandsIfSound (record k { wishes = without_wish q k.wishes; connection = x; sets = ended q k.sets }) (record p { wishes = without_wish w.question p.wishes; connection = y })
  gone_stands q w h x y same = subst (λ (ws : List Wish). StandsIfSound (record k { wishes = without_wish q k.wishes; connection = x; sets = ended q k.sets }) (record p { wishes = ws; connection = y })) (sym (without_same w.question q h p.wishes)) (λ sound. record {
    wishes = ap (without_wish q) s.wishes ∙ filter_map (λ w. not (same_question w.question q)) without_told p.wishes;
    connection = same;
    now = s.now;
    sets = sets_left q k.sets p.wishes s.sets;
    sound = sound;
  })

  drop_stands : (q : Question) (w : Wish) → same_question w.question q ≡ true → (standing : RequestState) → StandsIfSound (kept_drop q standing k) (drops standing w p)
  drop_stands q w h (answered id) = subst (StandsIfSound (kept_drop q (answered id) k)) (sym (drops_at p w id p.connection))
      (gone_stands q w h _ _ (ap (λ t. ended_on id t k.connection) s.now ∙ ap (ended_on id p.now) s.connection))
  drop_stands q w h (unanswered id) = subst (λ (ws : List Wish). StandsIfSound (kept_drop q (unanswered id) k) (record p { wishes = ws })) (sym (dropped_same w.question q h p.wishes)) (λ sound. record {
    wishes = ap (map (dropped_wish q)) s.wishes ∙ dropped_told q p.wishes;
    connection = s.connection;
    now = s.now;
    sets = λ x. s.sets x ∙ sym (sets_dropped x q p.wishes);
    sound = sound;
  })
  drop_stands q w h not_asked = gone_stands q w h _ _ s.connection
  drop_stands q w h (refused rcode) = gone_stands q w h _ _ s.connection

  abbrev unsubscribed_kept : Question → Option Wish → Bool × KeptClient
  unsubscribed_kept q o = elim o [ None ↦ (false, k) | Some wish ↦ if wish.wanted then (true, kept_drop q wish.standing k) else (false, k) ]

  abbrev unsubscribed_plain : Option Wish → Bool × Client
  unsubscribed_plain o = elim o [ None ↦ (false, p) | Some wish ↦ if wish.wanted then (true, drops wish.standing wish p) else (false, p) ]

  pub unsubscribe_stands : (q : Question) → BothAnswer (kept_unsubscribe k q) (unsubscribe p q)
  unsubscribe_stands q = subst (λ (o : Option Wish). BothAnswer (unsubscribed_kept q o) (unsubscribed_plain (wish_for p q))) (sym (found_told q)) (by (wish_for p q) refl)
    where
      tested : (t : Bool) (w : Wish) → same_question w.question q ≡ true → wish_for p q ≡ Some w → BothAnswer {X = Bool} (if t then (true, kept_drop q w.standing k) else (false, k)) (if t then (true, drops w.standing w p) else (false, p))
      tested true w h e = (refl, drop_stands q w h w.standing (drops_sound p s.sound w (found_own (λ v. same_question v.question q) p.wishes w s.sound.questions e) w.standing refl))
      tested false w h e = (refl, s)

      by : (u : Option Wish) → wish_for p q ≡ u → BothAnswer (unsubscribed_kept q (option_map without_told u)) (unsubscribed_plain u)
      by None e = (refl, s)
      by (Some w) e = tested w.wanted w (find_holds (λ w. same_question w.question q) p.wishes w e) e

  abbrev id_told : Option Wish → Option ℕ
  id_told o = elim o [ None ↦ None | Some wish ↦ id_asked wish.standing ]

  pub id_stands : (q : Question) → kept_id_of k q ≡ id_of p q
  id_stands q = ap id_told (found_told q) ∙ by (wish_for p q)
    where
      by : (u : Option Wish) → id_told (option_map without_told u) ≡ id_told u
      by None = refl
      by (Some w) = refl

  set_there : (q : Question) (w : Wish) → wish_for p q ≡ Some w → is_answered w.standing ≡ true → set_of q k.sets ≡ Some (applied_all w.notices w.question [])
  set_there q w found answered_is =
      ap (option_map (λ (e : Question × RecordSet). e.1)) (s.sets q ∙ ap (option_map set_told) (find_both (λ v. is_answered v.standing) (λ v. same_question v.question q) p.wishes w found answered_is))

  held_there : (q : Question) (w : Wish) → wish_for p q ≡ Some w → (standing : RequestState) → w.standing ≡ standing → kept_held_as standing (set_of q k.sets) ≡ held_as standing w
  held_there q w found not_asked is = refl
  held_there q w found (unanswered id) is = refl
  held_there q w found (refused rcode) is = refl
  held_there q w found (answered id) is = ap (kept_held_as (answered id)) (set_there q w found (ap is_answered is))

  abbrev told_kept : Question → Option Connection → Option Wish → Held
  told_kept q x o = elim o [ None ↦ off | Some wish ↦ if wish.wanted && is_some x then kept_held_as wish.standing (set_of q k.sets) else off ]

  abbrev told_plain : Option Wish → Held
  told_plain o = elim o [ None ↦ off | Some wish ↦ if wish.wanted && is_connected p then held_as wish.standing wish else off ]

  pub held_stands : (q : Question) → kept_held k q ≡ held p q
  held_stands q = ap (λ (x : Option Connection). told_kept q x (find (λ w. same_question w.question q) k.wishes)) s.connection ∙ ap (told_kept q p.connection) (found_told q) ∙ by (wish_for p q) refl
    where
      by : (u : Option Wish) → wish_for p q ≡ u → told_kept q p.connection (option_map without_told u) ≡ told_plain u
      by None e = refl
      by (Some w) e = ap (λ (h : Held). if w.wanted && is_some p.connection then h else off) (held_there q w e w.standing refl)

  pub cut_stands : StandsFor (kept_cut k) (cut p)
  cut_stands = record {
    wishes = ap (λ (ws : List Wish). map (λ w. unasked w.question) (filter (λ w. w.wanted) ws)) s.wishes ∙ cut_wishes p.wishes;
    connection = refl;
    now = s.now;
    sets = λ x. sym (ap (option_map set_told) (none_answered x (map (λ w. w.question) (filter (λ w. w.wanted) p.wishes))));
    sound = cut_sound p s.sound;
  }
