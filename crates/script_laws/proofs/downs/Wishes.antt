-- The questions of a client's wishes stay few, different and within bounds, and where it has no connection it gets none.
--     sound-asked, sound-dropped      behind a question that is asked, and one that is dropped
--     sound-cut      behind the end of a connection
--     few-wanted, wanted-differ, wanted-fit      of the questions that are wanted
--     asked_on, reconfirmed_on, moment_on      calls by the open connection
--     wishes-stay-sound      without a connection
use Rattle.std.proofs.Common.{◌≡◌, ℕ, ◌≤◌, ◌<◌, Bool, true, false, not, cond, List, [], ◌∷◌, ◌++◌, map, length, Option, Some, None, sym, ap, ◌∙◌, subst, refl, arith}
use Rattle.std.specs.Prelude.{IsTrue, ◌&&◌, is_some, nat_le, filter, if◌then◌else◌}
use Rattle.std.specs.List.{list_any, AllByRecursion, IsDistinct}
use Rattle.std.proofs.lemmas.Bool.{leb-false}
use Rattle.std.proofs.lemmas.List.{length-append, length-map}
use Rattle.std.proofs.lemmas.List.Sums.{length-filter, count_by-le-length}
use Rattle.push_base.specs.Limits.{max_questions}
use Rattle.rrset.specs.Records.{same_question}
use Rattle.rrset.specs.declared.record.Question.{Question}
use Rattle.rrset.specs.declared.record.Rr.{Rr}
use Rattle.rrset.proofs.Distinct.{any_found, distinct_filter, distinct_push}
use Rattle.rrset.proofs.Places.{all_filter}
use Rattle.dsosession.specs.Timing.{client_due}
use Rattle.pushclient.specs.declared.client.Asked.{Asked}
use Rattle.pushclient.specs.declared.client.Asked.TheVariants as asked
use Rattle.pushclient.specs.Clients.{Client, Connection, Wish, RequestState, not_asked, unanswered, refused, answered, unasked, open_connection, with_connection, writes, subscribe_message, unsubscribe_message, reconfirm_message, next_id, asks, cut, subscribe, unsubscribe, reconfirm, drops, wish_for, without_wish, wanted_questions, is_connected}
use Rattle.pushclient.specs.SoundClients.{question_of}
use Rattle.pushclient.specs.Steps.{is_active, does, at_later, moment}
use Rattle.pushclient.proofs.SoundCalls.{questions_left}
use Rattle.pushclient.proofs.SoundWishes.{Apart, apart, all_at, all_behind, all_map, all_moved, map_kept}
use Rattle.inflight.specs.Ends.{is_question}
use Rattle.inflight.specs.Flight.{AreSoundWishes}
use Rattle.flight_laws.proofs.Refusals.{questions-differ}
use Rattle.flight_laws.proofs.Replaced.{Differ, differ-left}
use Rattle.flight_laws.proofs.WantedAgain.{none-other}
use Rattle.scripts.specs.declared.line.Call.{Call}
use Rattle.scripts.specs.declared.line.Call.TheVariants as calls
use Rattle.replay.specs.Text.{called}
use Rattle.script_laws.specs.Lines.{IsCallWithin}
use Rattle.script_laws.specs.Walk.{WishesStaySound}
use Rattle.script_laws.proofs.downs.Connected.{subscribe-connected, unsubscribe-connected, moment-connected}

abbrev Fit : Wish → Type 0
Fit w = IsTrue (is_question w.question)

-- wishes whose questions differ
differ-wishes : (ws : List Wish) → IsDistinct same_question (map question_of ws) → Differ ws
unfolding IsDistinct
differ-wishes [] h = tt
differ-wishes (w ∷ ws) h = (others ws h.0, differ-wishes ws h.1)
  where
    others : (vs : List Wish) → AllByRecursion (λ q. same_question w.question q ≡ false) (map question_of vs) → AllByRecursion (λ (v : Wish). same_question w.question v.question ≡ false) vs
    others [] all = tt
    others (v ∷ vs) all = (all.0, others vs all.1)

length-left : (p : Wish → Bool) (ws : List Wish) → length (filter p ws) ≤ length ws
length-left p ws = omega (arith, length-filter p ws, count_by-le-length p ws)

sound-left : (p : Wish → Bool) (ws : List Wish) → AreSoundWishes ws → AreSoundWishes (filter p ws)
sound-left p ws h = record {
  few = omega (arith, h.few, length-left p ws);
  questions = distinct_filter (λ (v w : Wish). same_question v.question w.question) p ws h.questions;
  fit = all_filter Fit p ws h.fit;
}

-- wishes with the same questions
sound-mapped : (f : Wish → Wish) → ((w : Wish) → (f w).question ≡ w.question) → (ws : List Wish) → AreSoundWishes ws → AreSoundWishes (map f ws)
sound-mapped f same ws h = record {
  few = omega (arith, h.few, length-map ws f);
  questions = differ-wishes (map f ws) (subst (IsDistinct same_question) (sym (map_kept question_of f same ws)) (questions-differ ws h.questions));
  fit = all_map Fit Fit f (λ w fits. subst (λ q. IsTrue (is_question q)) (sym (same w)) fits) ws h.fit;
}

-- a wish for a question that none has
sound-more : (ws : List Wish) (w : Wish) → list_any (λ v. same_question v.question w.question) ws ≡ false → length ws < max_questions → Fit w → AreSoundWishes ws → AreSoundWishes (ws ++ w ∷ [])
sound-more ws w none room fits h = record {
  few = omega (arith, room, length-append ws (w ∷ []));
  questions = distinct_push (λ (v u : Wish). same_question v.question u.question) ws w h.questions none;
  fit = all_behind Fit ws w h.fit fits;
}

-- the wish for a question goes to the end, and is wanted
sound-again : (ws : List Wish) (question : Question) (w : Wish) → AreSoundWishes ws → Apart question w ws → AreSoundWishes (without_wish question ws ++ (record w { wanted = true }) ∷ [])
sound-again ws question w h others =
    let again : Wish = record w { wanted = true } in
    let before = subst AreSoundWishes others.is h in
    subst (λ l. AreSoundWishes (l ++ again ∷ [])) (sym others.left) (record {
      few = omega (arith, before.few, length-append others.before (w ∷ others.behind), length-append others.before others.behind, length-append (others.before ++ others.behind) (again ∷ []));
      questions = distinct_push (λ (v u : Wish). same_question v.question u.question) (others.before ++ others.behind) again (differ-left others.before w others.behind before.questions)
          (none-other others.before w others.behind before.questions);
      fit = all_moved Fit others.before w again others.behind (all_at Fit others.before w others.behind before.fit) before.fit;
    })

-- ---- calls by the open connection

module _ (client : Client) where
  abbrev pub asked_on : Question → Option Connection → Client
  asked_on question o = elim o as (λ _. Client) [
    | None ↦ record client { wishes = client.wishes ++ (record { question = question; wanted = true; standing = not_asked; notices = [] }) ∷ [] }
    | Some d ↦ (let id = next_id client.wishes d in record client {
      wishes = client.wishes ++ (record { question = question; wanted = true; standing = unanswered id; notices = [] }) ∷ [];
      connection = Some (writes false client.now (subscribe_message id question) (record d { last_id = id }));
    })
  ]

  abbrev pub reconfirmed_on : Rr → Option Connection → Bool × Client
  reconfirmed_on rr o = elim o as (λ _. Bool × Client) [
    | None ↦ (false, client)
    | Some c ↦ if c.established && nat_le (length (reconfirm_message rr)) 65535 then (true, with_connection (writes false client.now (reconfirm_message rr) c) client) else (false, client)
  ]

  abbrev pub moment_on : ℕ → Option Connection → Client
  moment_on t o = elim o as (λ _. Client) [
    | None ↦ at_later t client
    | Some c ↦ does (client_due c.clocks t (list_any (λ w. is_active w.standing) client.wishes) (is_some c.keepalive_out)) c (at_later t client)
  ]

-- ---- a question is asked, or dropped

module _ (client : Client) (sound : AreSoundWishes client.wishes) where
  module _ (question : Question) where
    abbrev Sound : Client → Type 0
    Sound later = AreSoundWishes later.wishes

    pub sound-asked : IsTrue (is_question question) → Sound (subscribe client question).1
    sound-asked fits = by (wish_for client question) refl
      where
        wanted : (b : Bool) (w : Wish) → wish_for client question ≡ Some w
            → (let r : Asked × Client = if b then (asked.Already, client) else (asked.New, record client { wishes = without_wish question client.wishes ++ (record w { wanted = true }) ∷ [] }) in Sound r.1)
        wanted true w found = sound
        wanted false w found = sound-again client.wishes question w sound (apart question w client.wishes (questions-differ client.wishes sound.questions) found)

        more : wish_for client question ≡ None → length client.wishes < max_questions → (o : Option Connection) → Sound (asked_on client question o)
        more new room None = sound-more client.wishes _ (any_found (λ w. same_question w.question question) client.wishes new) room fits sound
        more new room (Some d) = sound-more client.wishes _ (any_found (λ w. same_question w.question question) client.wishes new) room fits sound

        room : (b : Bool) → nat_le max_questions (length client.wishes) ≡ b → wish_for client question ≡ None
            → (let r : Asked × Client = if b then (asked.Many, client) else (asked.New, asks client question) in Sound r.1)
        room true is new = sound
        room false is new = more new (leb-false max_questions (length client.wishes) is) (open_connection client)

        by : (o : Option Wish) → wish_for client question ≡ o → (let r : Asked × Client = elim o as (λ _. Asked × Client) [
          | Some wish ↦ if wish.wanted then (asked.Already, client) else (asked.New, record client { wishes = without_wish question client.wishes ++ (record wish { wanted = true }) ∷ [] })
          | None ↦ if nat_le max_questions (length client.wishes) then (asked.Many, client) else (asked.New, asks client question)
        ] in Sound r.1)
        by (Some w) found = wanted w.wanted w found
        by None new = room (nat_le max_questions (length client.wishes)) refl new

    drops-sound : (w : Wish) (s : RequestState) → Sound (drops s w client)
    drops-sound w (answered id) = by (open_connection client)
      where
        gone : Client
        gone = record client { wishes = without_wish w.question client.wishes }

        left : Sound gone
        left = sound-left (λ v. not (same_question v.question w.question)) client.wishes sound

        by : (o : Option Connection) → Sound (elim o as (λ _. Client) [ None ↦ gone | Some c ↦ with_connection (writes false client.now (unsubscribe_message id) c) gone ])
        by None = left
        by (Some c) = left
    drops-sound w (unanswered id) = sound-mapped (λ v. cond (same_question v.question w.question) (record v { wanted = false }) v) (λ v. kept v (same_question v.question w.question)) client.wishes sound
      where
        kept : (v : Wish) (b : Bool) → (cond b (record v { wanted = false }) v).question ≡ v.question
        kept v true = refl
        kept v false = refl
    drops-sound w (refused rcode) = sound-left (λ v. not (same_question v.question w.question)) client.wishes sound
    drops-sound w not_asked = sound-left (λ v. not (same_question v.question w.question)) client.wishes sound

    pub sound-dropped : Sound (unsubscribe client question).1
    sound-dropped = by (wish_for client question)
      where
        wanted : (w : Wish) (b : Bool) → (let r : Bool × Client = if b then (true, drops w.standing w client) else (false, client) in Sound r.1)
        wanted w true = drops-sound w w.standing
        wanted w false = sound

        by : (o : Option Wish) → (let r : Bool × Client = elim o as (λ _. Bool × Client) [ None ↦ (false, client) | Some wish ↦ if wish.wanted then (true, drops wish.standing wish client) else (false, client) ] in Sound r.1)
        by None = sound
        by (Some w) = wanted w w.wanted

  -- ---- the questions that are wanted

  pub few-wanted : length (wanted_questions client) ≤ max_questions
  few-wanted = omega (arith, sound.few, length-map (filter (λ (w : Wish). w.wanted) client.wishes) question_of, length-left (λ w. w.wanted) client.wishes)

  pub wanted-differ : IsDistinct same_question (wanted_questions client)
  wanted-differ = questions_left (λ w. w.wanted) client.wishes (questions-differ client.wishes sound.questions)

  pub wanted-fit : AllByRecursion (λ q. IsTrue (is_question q)) (wanted_questions client)
  wanted-fit = all_map Fit (λ q. IsTrue (is_question q)) question_of (λ w fits. fits) (filter (λ w. w.wanted) client.wishes) (all_filter Fit (λ w. w.wanted) client.wishes sound.fit)

  pub sound-cut : AreSoundWishes (cut client).wishes
  sound-cut = record {
    few = omega (arith, few-wanted, length-map (wanted_questions client) unasked);
    questions = differ-wishes (map unasked (wanted_questions client)) (subst (IsDistinct same_question) (sym (questions-again (wanted_questions client))) wanted-differ);
    fit = all_map (λ q. IsTrue (is_question q)) Fit unasked (λ q fits. fits) (wanted_questions client) wanted-fit;
  }
    where
      questions-again : (qs : List Question) → map question_of (map unasked qs) ≡ qs
      questions-again [] = refl
      questions-again (q ∷ qs) = ap (λ l. q ∷ l) (questions-again qs)

-- ---- without a connection

none-is : (o : Option Connection) → is_some o ≡ false → o ≡ None
none-is None h = refl
none-is (Some c) h = absurd cc

module _ (client : Client) (none : client.connection ≡ None) where
  unopened : open_connection client ≡ None
  unopened = ap (λ (o : Option Connection). elim o as (λ _. Option Connection) [ None ↦ None | Some c ↦ cond (is_some c.closed) None (Some c) ]) none

  -- behind a call that leaves a client as connected as it was
  still-none : (later : Client) → is_connected later ≡ is_connected client → later.connection ≡ None
  still-none later same = none-is later.connection (same ∙ ap (λ (o : Option Connection). is_some o) none)

  -- a record that it doubts is told to nobody
  untold : (rr : Rr) → (reconfirm client rr).1 ≡ client
  untold rr = ap (λ (o : Option Connection). (reconfirmed_on client rr o).1) unopened

  unconnected : (call : Call) → (called call client).1.connection ≡ None
  unconnected (calls.Ask question) = still-none (subscribe client question).1 (subscribe-connected question client)
  unconnected (calls.Drop question) = still-none (unsubscribe client question).1 (unsubscribe-connected question client)
  unconnected (calls.Reconfirm rr) = ap (λ (later : Client). later.connection) (untold rr) ∙ none

  sound-called : (call : Call) → IsCallWithin call → AreSoundWishes client.wishes → AreSoundWishes (called call client).1.wishes
  sound-called (calls.Ask question) within sound = sound-asked client sound question within
  sound-called (calls.Drop question) within sound = sound-dropped client sound question
  sound-called (calls.Reconfirm rr) within sound = subst (λ (later : Client). AreSoundWishes later.wishes) (sym (untold rr)) sound

pub wishes-stay-sound : WishesStaySound
wishes-stay-sound = record {
  asked = λ call client none within sound. sound-called client none call within sound;
  unconnected = λ call client none. unconnected client none call;
  timed = λ t client none. (still-none client none (moment client t) (moment-connected t client), ap (λ (o : Option Connection). (moment_on client t o).wishes) (unopened client none));
}
