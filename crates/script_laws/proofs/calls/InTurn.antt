-- What is made for a session, call by call.
--     gives-made      what `give` makes for the session of which it is asked
--     made-in-turn      the law
use Rattle.std.proofs.Common.{◌≡◌, ℕ, ◌≤◌, ◌<◌, Bool, true, false, cond, List, [], ◌∷◌, ◌++◌, map, Option, Some, None, refl, sym, ◌∙◌, ap, subst, append_assoc, append-nil, arith}
use Rattle.std.specs.Prelude.{◌==◌, ◌&&◌, option_map}
use Rattle.std.specs.Option.{option_or}
use Rattle.std.proofs.lemmas.List.{map-append}
use Rattle.push_base.specs.Cases.{is_empty}
use Rattle.coalesce.specs.Net.{packed}
use Rattle.dsotlv.specs.Answers.{stop_message}
use Rattle.dsotlv.specs.Messages.{first_message}
use Rattle.dsotlv.specs.declared.message.Notice.{Notice}
use Rattle.dsosession.specs.declared.session.EndReason.{EndReason}
use Rattle.dsosession.specs.declared.session.EndReason.TheVariants as ends
use Rattle.history.specs.declared.entry.Entry.{Entry}
use Rattle.pushsession.specs.Sessions.{new_session, without_first, copied, with_piece, asked_to_stop, ended_where, ended_with, says_stop, stopped, is_open}
use Rattle.pushsession.specs.Subscribing.{with_next_push, says_notices}
use Rattle.pushsession.specs.declared.session_status.SessionStatus.{SessionStatus}
use Rattle.pushsession.specs.declared.session_status.SessionStatus.TheVariants.{Live, AskedToStop, Stopped, Ended}
use Rattle.pushserver.specs.declared.given.Given.{Given}
use Rattle.pushserver.specs.declared.given.Given.TheVariants.{Nothing, End, Ending}
use Rattle.pushserver.specs.PlainHubs.{Hub, Session, Made, Giving, plain_keeps, nets_of}
use Rattle.pushserver.specs.Hubs.{now, keeps_now, tells_now, session_of, in_session, entered, entered_keeping, disconnect}
use Rattle.pushserver.specs.Giving.{give, did, after_reaction, after_packing, by_standing}
use Rattle.pushserver.specs.Calls.{HubCall, updates, hears, goes, moves, connects, takes as taking, gives, stops, ends as ending, called, after_calls}
use Rattle.livesessions.proofs.SessionLists.{same-number, other-number, found-changed, found-last, found-left}
use Rattle.pushserver.proofs.Walks.{AnyMessage, EndsSome, Entering, Walks, entering-kept, timed-kept, walks-give, holds-update, holds-hear, holds-going, holds-moment, holds-connect, with_new}
use Rattle.pushserver.proofs.hub_steps.Cases.{found_as, works_as, output_as, give_as}
use Rattle.pushtelling.specs.Runs.{is_live, first_of}
use Rattle.pushtelling.proofs.OneSession.{OfOne, one-changed, one-last, one-left}
use Rattle.pushtelling.proofs.Tells.{by_entry}
use Rattle.script_laws.specs.EachMessage.{HasItsTurn, pushes, effect_of, messages_of}
use Rattle.script_laws.specs.InTurn.{says_itself, makes_for, makes_at, makes, made_in, MadeInTurn}
use Rattle.script_laws.proofs.calls.EachTurn.{in-found, Hands, hands-on, hands-after, turn-effect}

abbrev message_in : Made → List ℕ
message_in m = m.message

abbrev heads : Option (List ℕ × List ℕ) → List (List ℕ)
heads o = elim o as (λ _. List (List ℕ)) [ None ↦ [] | Some found ↦ found.0 ∷ [] ]

-- a session behind a call for which these messages were made
record Makes (number : ℕ) (s : Session) (more : List (List ℕ)) (h : Hub) : Type 0 where
  pub after : Session
  pub there : session_of h number ≡ Some after
  pub made : messages_of after ≡ messages_of s ++ more

-- ---- `give` of a session that is there

module _ (number room : ℕ) (hub : Hub) (s : Session) (there : session_of hub number ≡ Some s) where
  abbrev Gave : List (List ℕ) → Giving → Type 0
  Gave more g = Makes number s more g.hub

  handed : (t : Session) (more : List (List ℕ)) → messages_of t ≡ messages_of s ++ more → (g : Giving) → Hands number t g → Gave more g
  handed t more is g h = record { after = h.after; there = h.there; made = ap (map message_in) h.made ∙ is }

  stays : (h : Hub) (t : Session) → t.made ≡ s.made → session_of h number ≡ Some t → Makes number s [] h
  stays h t same at = record { after = t; there = at; made = ap (map message_in) same ∙ sym (append-nil (messages_of s)) }

  one-more : (t : Session) (m : Made) → t.made ≡ s.made ++ m ∷ [] → messages_of t ≡ messages_of s ++ m.message ∷ []
  one-more t m is = ap (map message_in) is ∙ map-append message_in s.made (m ∷ [])

  -- what it would make, by its standing, by whether output waits, and by its first message
  abbrev first_by : SessionStatus → List ℕ → Option (List ℕ × List ℕ) → List (List ℕ)
  first_by standing output o = cond (is_live standing && is_empty output) (heads o) []

  -- there is output
  gave-output : (x : ℕ) (xs : List ℕ) → s.output ≡ x ∷ xs → Gave (makes_for (first_of s) hub s) (give hub number room)
  gave-output x xs output =
      subst (λ (more : List (List ℕ)). Gave more (give hub number room)) (sym none)
      (subst (Gave []) (sym (ap (give_as hub number room) there ∙ ap (λ (os : List ℕ). output_as hub number room s (is_empty os)) output))
      (stays (in_session number (copied room) hub) (copied room s) refl (in-found number hub (copied room) s there)))
    where
      silent : (standing : SessionStatus) → first_by standing (x ∷ xs) (first_message s.input) ≡ []
      silent Live = refl
      silent (AskedToStop rcode delay) = refl
      silent (Stopped since) = refl
      silent (Ended reason) = refl

      none : makes_for (first_of s) hub s ≡ []
      none =
          ap (λ (ms : List (List ℕ)). makes_for ms hub s) (ap (λ (os : List ℕ). first_by s.standing os (first_message s.input)) output ∙ silent s.standing)
          ∙ ap (λ (os : List ℕ). cond (is_empty os) (says_itself s.standing hub s) []) output

  module _ (silent : s.output ≡ []) where
    -- by its standing
    given-by : (standing : SessionStatus) → s.standing ≡ standing → give hub number room ≡ by_standing standing number room s hub
    given-by standing is = ap (give_as hub number room) there ∙ ap (λ (os : List ℕ). output_as hub number room s (is_empty os)) silent ∙ ap (λ (st : SessionStatus). by_standing st number room s hub) is

    -- where no message is up, it makes what it says by itself
    itself : (standing : SessionStatus) → s.standing ≡ standing → first_by standing [] (first_message s.input) ≡ [] → makes_for (first_of s) hub s ≡ says_itself standing hub s
    itself standing is none =
        ap (λ (ms : List (List ℕ)). makes_for ms hub s)
        (ap (λ (os : List ℕ). first_by s.standing os (first_message s.input)) silent ∙ ap (λ (st : SessionStatus). first_by st [] (first_message s.input)) is ∙ none)
        ∙ ap (λ (os : List ℕ). cond (is_empty os) (says_itself s.standing hub s) []) silent
        ∙ ap (λ (st : SessionStatus). says_itself st hub s) is

    -- a message is up
    gave-message : s.standing ≡ Live → (found : List ℕ × List ℕ) → first_message s.input ≡ Some found → Gave (makes_for (first_of s) hub s) (give hub number room)
    gave-message live found first =
        let turn : HasItsTurn number (gives number room ∷ []) hub [] found.0 = record {
          first = [];
          room = room;
          last = [];
          calls_are = refl;
          before = refl;
          session = s;
          there = there;
          live = live;
          silent = silent;
          rest = found.1;
          stands_first = first;
          reacts = given-by Live live ∙ ap (works_as hub number room) first;
        } in
        let effect = turn-effect number (gives number room ∷ []) hub [] found.0 turn in
        subst (λ (more : List (List ℕ)). Gave more (give hub number room)) (sym up) (record { after = effect.after; there = effect.there; made = effect.made })
      where
        up : makes_for (first_of s) hub s ≡ (effect_of hub s found.0).messages
        up = ap (λ (ms : List (List ℕ)). makes_for ms hub s)
            (ap (λ (os : List ℕ). first_by s.standing os (first_message s.input)) silent ∙ ap (λ (st : SessionStatus). first_by st [] (first_message s.input)) live ∙ ap (first_by Live []) first)

    -- names that wait are packed
    abbrev notices : List Notice
    notices = (packed (nets_of hub.start hub.history s.subscriptions s.queue)).0

    abbrev packing : Session → Session
    packing = with_next_push (keeps_now hub) (tells_now hub) (now hub)

    packed-made : messages_of (packing s) ≡ messages_of s ++ pushes notices
    packed-made = by notices
      where
        by : (ns : List Notice) → messages_of (says_notices (keeps_now hub) (now hub) ns (record s { queue = ((tells_now hub).packed s.subscriptions s.queue).1 })) ≡ messages_of s ++ pushes ns
        by [] = sym (append-nil (messages_of s))
        by (n ∷ ns) = map-append message_in s.made (_ ∷ [])

    gave-packed : s.standing ≡ Live → first_message s.input ≡ None → Gave (makes_for (first_of s) hub s) (give hub number room)
    gave-packed live first =
        let later : Hub = in_session number packing hub in
        let at : session_of later number ≡ Some (packing s) = in-found number hub packing s there in
        subst (λ (more : List (List ℕ)). Gave more (give hub number room)) (sym (itself Live live (ap (first_by Live []) first)))
        (subst (Gave (pushes notices)) (sym (given-by Live live ∙ ap (works_as hub number room) first))
        (handed (packing s) (pushes notices) packed-made (after_packing number room later)
        (subst (Hands number (packing s)) (sym (ap (found_as later number room Nothing (λ _. Nothing)) at)) (hands-on number room Nothing later (packing s) at))))

    -- a stop was asked for
    gave-stop : (rcode delay : ℕ) → s.standing ≡ AskedToStop rcode delay → Gave (makes_for (first_of s) hub s) (give hub number room)
    gave-stop rcode delay asked =
        let later : Hub = in_session number f hub in
        subst (λ (more : List (List ℕ)). Gave more (give hub number room)) (sym (itself (AskedToStop rcode delay) asked refl))
        (subst (Gave (says_itself (AskedToStop rcode delay) hub s)) (sym (given-by (AskedToStop rcode delay) asked))
        (handed (f s) (says_itself (AskedToStop rcode delay) hub s) (made s.established) (after_reaction number room later) (hands-after number room later (f s) (in-found number hub f s there))))
      where
        f : Session → Session
        f = stopped (keeps_now hub) rcode delay (now hub)

        made : (b : Bool) → messages_of (cond b (says_stop (keeps_now hub) rcode delay (now hub) s) (ended_with (keeps_now hub) ends.Stopped s)) ≡ messages_of s ++ cond b (stop_message rcode delay ∷ []) []
        made true = map-append message_in s.made (_ ∷ [])
        made false = sym (append-nil (messages_of s))

    -- nothing is made behind the end, or while its moment is waited for
    gave-none : (standing : SessionStatus) (given : Given) → s.standing ≡ standing → first_by standing [] (first_message s.input) ≡ [] → says_itself standing hub s ≡ [] → by_standing standing number room s hub ≡ did given hub
        → Gave (makes_for (first_of s) hub s) (give hub number room)
    gave-none standing given is none quiet does =
        subst (λ (more : List (List ℕ)). Gave more (give hub number room)) (sym (itself standing is none ∙ quiet))
        (subst (Gave []) (sym (given-by standing is ∙ does)) (stays hub s refl there))

    gave-silent : (standing : SessionStatus) → s.standing ≡ standing → (o : Option (List ℕ × List ℕ)) → first_message s.input ≡ o → Gave (makes_for (first_of s) hub s) (give hub number room)
    gave-silent Live is None first = gave-packed is first
    gave-silent Live is (Some found) first = gave-message is found first
    gave-silent (AskedToStop rcode delay) is o first = gave-stop rcode delay is
    gave-silent (Stopped since) is o first = gave-none (Stopped since) Ending is refl refl refl
    gave-silent (Ended reason) is o first = gave-none (Ended reason) (End reason) is refl refl refl

  gives-made : Gave (makes_for (first_of s) hub s) (give hub number room)
  gives-made = by s.output refl
    where
      by : (os : List ℕ) → s.output ≡ os → Gave (makes_for (first_of s) hub s) (give hub number room)
      by [] silent = gave-silent silent s.standing refl (first_message s.input) refl
      by (x ∷ xs) output = gave-output x xs output

-- ---- any calls

made-asked : (rcode delay : ℕ) (s : Session) → (asked_to_stop rcode delay s).made ≡ s.made
made-asked rcode delay s = by (is_open s.standing)
  where
    by : (b : Bool) → (cond b (record s { standing = AskedToStop rcode delay }) s).made ≡ s.made
    by true = refl
    by false = refl

made-ended_where : (point : ℕ) (reason : Option EndReason) (s : Session) → (ended_where (plain_keeps point) reason s).made ≡ s.made
made-ended_where point None s = refl
made-ended_where point (Some reason) s = refl

module _ (number : ℕ) where
  -- so much was made so far; a session that isn't there yet would begin with nothing
  record Sofar (made : List (List ℕ)) (hub : Hub) : Type 0 where
    pub each : OfOne number (λ s. messages_of s ≡ made) hub.sessions
    pub fresh : hub.numbers_given ≤ number → (session_of hub number ≡ None) × (made ≡ [])

  module _ (made : List (List ℕ)) where
    abbrev Has : Session → Type 0
    Has s = messages_of s ≡ made

    changed : (g : ℕ → Session → Session) → ((s : Session) → (g number s).made ≡ s.made) → (hub : Hub) (history : List Entry) → Sofar made hub
        → Sofar made (record { start = hub.start; timers = hub.timers; history = history; seen = hub.seen; sessions = map (λ e. (e.0, g e.0 e.1)) hub.sessions; numbers_given = hub.numbers_given })
    changed g same hub history h = record {
      each = one-changed number Has Has g (λ s has. ap (map message_in) (same s) ∙ has) hub.sessions h.each;
      fresh = λ low. (found-changed g number hub.sessions ∙ ap (option_map (g number)) (h.fresh low).0, (h.fresh low).1);
    }

    in-changed : (hub : Hub) (other : ℕ) (f : Session → Session) → ((s : Session) → (f s).made ≡ s.made) → Sofar made hub → Sofar made (in_session other f hub)
    in-changed hub other f same h = changed (λ n s. cond (n == other) (f s) s) (λ s. by s (number == other)) hub hub.history h
      where
        by : (s : Session) (b : Bool) → (cond b (f s) s).made ≡ s.made
        by s true = same s
        by s false = refl

    other-changed : (hub : Hub) (other : ℕ) (f : Session → Session) → (number == other) ≡ false → Sofar made hub → Sofar made (in_session other f hub)
    other-changed hub other f apart h = changed (λ n s. cond (n == other) (f s) s) (λ s. ap (λ (b : Bool). (cond b (f s) s).made) apart) hub hub.history h

    enters : (hub : Hub) (entry : Entry) → Sofar made hub → Sofar made (entered entry hub)
    enters hub entry h = changed (λ n. by_entry hub.start hub.history entry) (λ s. refl) hub (hub.history ++ entry ∷ []) h

    -- some may end
    ends-some : EndsSome (Sofar made)
    ends-some hub point reason h = changed (λ n s. ended_where (plain_keeps point) (reason s) s) (λ s. made-ended_where point (reason s) s) hub hub.history h

    enters_keeping : (hub : Hub) (entry : Entry) → Entering AnyMessage hub entry → Sofar made hub → Sofar made (entered_keeping entry hub)
    enters_keeping = entering-kept AnyMessage (Sofar made) (Sofar made) ends-some (λ hub entry by h. enters hub entry h)

    comes : (hub : Hub) → Sofar made hub → Sofar made (with_new hub)
    comes hub h = record {
      each = one-last number Has hub.sessions (hub.numbers_given, new) (λ is. let same = same-number hub.numbers_given number is in sym (h.fresh (omega (arith, same))).1) h.each;
      fresh = λ low.
          let before : hub.numbers_given ≤ number = omega (arith, low) in
          let apart : (hub.numbers_given == number) ≡ false = other-number hub.numbers_given number (λ e. omega (arith, e, low)) in
          (found-last number hub.sessions (hub.numbers_given, new) ∙ ap (λ (b : Bool). option_or (session_of hub number) (cond b (Some new) None)) apart ∙ ap (λ (o : Option Session). option_or o None) (h.fresh before).0, (h.fresh before).1);
    }
      where
        new : Session
        new = new_session (keeps_now hub) (now hub)

    drops : (hub : Hub) (gone : ℕ) → Sofar made hub → Sofar made (disconnect hub gone)
    drops hub gone h = record {
      each = one-left number Has gone hub.sessions h.each;
      fresh = λ low. (found-left gone number hub.sessions ∙ ap (λ (o : Option Session). cond (number == gone) None o) (h.fresh low).0 ∙ none (number == gone), (h.fresh low).1);
    }
      where
        none : (b : Bool) → cond {A = Option Session} b None None ≡ None
        none true = refl
        none false = refl

    others : (other : ℕ) → (number == other) ≡ false → Walks AnyMessage other (Sofar made) (Sofar made)
    others other apart = record {
      reads = λ hub s found there is h. tt;
      takes_up = λ hub s found there is h. other-changed hub other (without_first found.1) apart h;
      changes = λ hub f step h. other-changed hub other f apart h;
      enters = enters_keeping;
      enters_none = λ hub h. h;
      changes_behind = λ hub f step h. other-changed hub other f apart h;
    }

    -- a call that makes nothing
    still : (later : Hub) → Sofar made later → Sofar (made ++ []) later
    still later h = subst (λ (ms : List (List ℕ)). Sofar ms later) (sym (append-nil made)) h

    -- no number is given
    given-same : (hub : Hub) (room : ℕ) → (give hub number room).hub.numbers_given ≡ hub.numbers_given
    given-same hub room = walks-give AnyMessage number Same Same (record {
      reads = λ h s found there is e. tt;
      takes_up = λ h s found there is e. e;
      changes = λ h f step e. e;
      enters = λ h entry by e. e;
      enters_none = λ h e. e;
      changes_behind = λ h f step e. e;
    }) hub room refl
      where
        Same : Hub → Type 0
        Same h = h.numbers_given ≡ hub.numbers_given

    gives-own : (hub : Hub) (room : ℕ) → Sofar made hub → Sofar (made ++ makes_at hub (session_of hub number)) (give hub number room).hub
    gives-own hub room h = by (session_of hub number) refl
      where
        by : (o : Option Session) → session_of hub number ≡ o → Sofar (made ++ makes_at hub o) (give hub number room).hub
        by None none = subst (λ (g : Giving). Sofar (made ++ []) g.hub) (sym (ap (give_as hub number room) none)) (still hub h)
        by (Some s) there =
            let m = gives-made number room hub s there in
            record {
              each = λ t found. let same : m.after ≡ t = is t (sym m.there ∙ found) in subst (λ (x : Session). messages_of x ≡ made ++ makes_at hub (Some s)) same (m.made ∙ ap (λ (ms : List (List ℕ)). ms ++ makes_at hub (Some s)) (h.each s there));
              fresh = λ low. let never : None ≡ Some s = sym (h.fresh (let e = given-same hub room in omega (arith, e, low))).0 ∙ there in absurd cc;
            }
          where
            is : {x : Session} (t : Session) → Some x ≡ Some t → x ≡ t
            is t e = cc

    gives-any : (hub : Hub) (other room : ℕ) → Sofar made hub → Sofar (made ++ makes number hub (gives other room)) (give hub other room).hub
    gives-any hub other room h = by (number == other) refl
      where
        by : (b : Bool) → (number == other) ≡ b → Sofar (made ++ cond b (makes_at hub (session_of hub number)) []) (give hub other room).hub
        by false apart = still (give hub other room).hub (walks-give AnyMessage other (Sofar made) (Sofar made) (others other apart) hub room h)
        by true alike = subst (λ (n : ℕ). Sofar (made ++ makes_at hub (session_of hub number)) (give hub n room).hub) (same-number number other alike) (gives-own hub room h)

    sofar-called : (call : HubCall) (hub : Hub) → Sofar made hub → Sofar (made ++ makes number hub call) (called call hub)
    sofar-called (updates message) hub h = still (called (updates message) hub) (holds-update AnyMessage (Sofar made) hub (λ entry by. enters_keeping hub entry by h) h message tt)
    sofar-called (hears link datagram) hub h = still (called (hears link datagram) hub) (holds-hear AnyMessage (Sofar made) hub (λ entry by. enters_keeping hub entry by h) h link datagram tt)
    sofar-called (goes link) hub h = still (called (goes link) hub) (holds-going AnyMessage (Sofar made) hub (λ entry by. enters_keeping hub entry by h) h link)
    sofar-called (moves t) hub h = still (called (moves t) hub) (holds-moment AnyMessage (Sofar made) hub (λ entry by. enters_keeping hub entry by h) h (timed-kept (Sofar made) ends-some) t)
    sofar-called connects hub h = still (called connects hub) (holds-connect (Sofar made) hub (comes hub h) h)
    sofar-called (taking other piece) hub h = still (called (taking other piece) hub) (in-changed hub other (with_piece piece) (λ s. refl) h)
    sofar-called (gives other room) hub h = gives-any hub other room h
    sofar-called (stops other rcode delay) hub h = still (called (stops other rcode delay) hub) (in-changed hub other (asked_to_stop rcode delay) (made-asked rcode delay) h)
    sofar-called (ending other) hub h = still (called (ending other) hub) (drops hub other h)

  sofar-calls : (calls : List HubCall) (made : List (List ℕ)) (hub : Hub) → Sofar made hub → Sofar (made ++ made_in number calls hub) (after_calls calls hub)
  sofar-calls [] made hub h = still made hub h
  sofar-calls (call ∷ calls) made hub h =
      subst (λ (ms : List (List ℕ)). Sofar ms (after_calls calls (called call hub))) (append_assoc made (makes number hub call) (made_in number calls (called call hub)))
      (sofar-calls calls (made ++ makes number hub call) (called call hub) (sofar-called made call hub h))

pub made-in-turn : MadeInTurn
made-in-turn hub calls number after there = (
  λ before low was. (sofar-calls number calls (messages_of before) hub (begins before low was)).each after there,
  λ none. (sofar-calls number calls [] hub (record { each = λ s found. (let never : None ≡ Some s = sym none ∙ found in absurd cc); fresh = λ low. (none, refl) })).each after there,
)
  where
    begins : (before : Session) → number < hub.numbers_given → session_of hub number ≡ Some before → Sofar number (messages_of before) hub
    begins before low was = record {
      each = λ s found. ap messages_of (is s (sym found ∙ was));
      fresh = λ high. absurd (omega (arith, low, high));
    }
      where
        is : (s : Session) → Some s ≡ Some before → s ≡ before
        is s e = cc
