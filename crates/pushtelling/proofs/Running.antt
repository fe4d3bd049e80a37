-- What calls hand out of one session, take into it and have it react to, beside what it made.
--     Ran handed taken reacted made output input      what holds of a session, whose octets these are
--     Runs .. hub      so it is of the session of a number, where it is there
--     runs-calls      any calls keep that, each with what it does
--     made_goes_out, each_is_reacted_to_once, give_reacts
use Rattle.std.proofs.Common.{◌≡◌, ℕ, ◌+◌, ◌≤◌, ◌<◌, Bool, true, false, cond, List, [], ◌∷◌, ◌++◌, map, length, take, drop, min, Option, Some, None, sym, ◌∙◌, ap, subst, refl, arith}
use Rattle.std.specs.Prelude.{option_map, flat_map, ◌==◌, ◌&&◌}
use Rattle.std.specs.List.{AllByRecursion}
use Rattle.std.specs.Option.{option_or}
use Rattle.std.proofs.lemmas.Grind.{flat_map-append}
use Rattle.std.proofs.lemmas.List.{append-nil, append_assoc, take-append-drop, take_min}
use Rattle.std.proofs.lemmas.List.Elements.{All-nil, All-append, All-take}
use Rattle.push_base.specs.Cases.{is_empty}
use Rattle.dsotlv.specs.Laws.{AreOctets}
use Rattle.dsotlv.specs.Messages.{first_message, frame, messages_in}
use Rattle.dsotlv.proofs.FrameLaws.{frames_found}
use Rattle.dsotlv.proofs.StreamLaws.{one_by_one}
use Rattle.history.specs.declared.entry.Entry.{Entry}
use Rattle.pushsession.specs.Sessions.{new_session, room_of, with_piece, copied, asked_to_stop, ended_where, without_first}
use Rattle.pushsession.specs.declared.session_status.SessionStatus.{SessionStatus}
use Rattle.pushsession.specs.declared.session_status.SessionStatus.TheVariants.{Live, AskedToStop, Stopped, Ended}
use Rattle.pushserver.specs.PlainHubs.{Hub, Giving, Session, Made, frame_of, plain_keeps}
use Rattle.pushserver.specs.Hubs.{now, keeps_now, session_of, in_session, entered, entered_keeping, taken_by, take_octets, disconnect}
use Rattle.pushserver.specs.Giving.{by_standing, give, reacted, after_reaction}
use Rattle.pushserver.specs.Calls.{HubCall, updates, hears, goes, moves, connects, takes as taking, gives, stops, ends as ending, called, after_calls, BringsOctets}
use Rattle.livesessions.proofs.SessionLists.{same-number, found-changed, found-in, found-last, found-left}
use Rattle.pushserver.proofs.hub_steps.Cases.{works_as, output_as, give_as}
use Rattle.pushserver.proofs.session_steps.Octets.{rest_octets}
use Rattle.pushserver.proofs.Walks.{AnyMessage, Entering, EndsSome, entering-kept, timed-kept, holds-update, holds-hear, holds-going, holds-moment, holds-connect, with_new, Reacts, Gives, hands_nothing, hands_front, TakesUp, reacts-give, Walks, walks-give}
use Rattle.pushtelling.specs.Runs.{hands_out, takes_in, is_live, first_of, message_up, reacts_to, handed_out, taken_in, reacted_to, MadeGoesOut, EachIsReactedToOnce, GiveReacts}
use Rattle.pushtelling.proofs.Tells.{by_entry}
use Rattle.pushtelling.proofs.OneSession.{one-changed, one-last, one-left}
use Rattle.pushtelling.proofs.Saying.{Said, said-none, said-step, said-ended_where, said-asked}

-- ---- the message that is taken up

-- of a session that may be there, the first of a message that may be found
abbrev first_in : Option Session → List (List ℕ)
first_in o = elim o as (λ _. List (List ℕ)) [ None ↦ [] | Some session ↦ first_of session ]

abbrev heads : Option (List ℕ × List ℕ) → List (List ℕ)
heads o = elim o as (λ _. List (List ℕ)) [ None ↦ [] | Some found ↦ found.0 ∷ [] ]

none_up : (hub : Hub) (number : ℕ) → ((session : Session) (found : List ℕ × List ℕ) → TakesUp hub number session found → ⊥) → message_up hub number ≡ []
none_up hub number none = by (session_of hub number) refl
  where
    by_first : (s : Session) → session_of hub number ≡ Some s → s.standing ≡ Live → s.output ≡ [] → (o : Option (List ℕ × List ℕ)) → first_message s.input ≡ o
        → heads o ≡ []
    by_first s there live silent None first = refl
    by_first s there live silent (Some found) first = absurd (none s found (record { there = there; live = live; silent = silent; first = first }))

    by_output : (s : Session) → session_of hub number ≡ Some s → s.standing ≡ Live → (output : List ℕ) → s.output ≡ output
        → cond (is_empty output) (heads (first_message s.input)) [] ≡ []
    by_output s there live [] silent = by_first s there live silent (first_message s.input) refl
    by_output s there live (o ∷ os) silent = refl

    by_state : (s : Session) → session_of hub number ≡ Some s → (standing : SessionStatus) → s.standing ≡ standing
        → cond (is_live standing && is_empty s.output) (heads (first_message s.input)) [] ≡ []
    by_state s there Live is = by_output s there is s.output refl
    by_state s there (AskedToStop rcode delay) is = refl
    by_state s there (Stopped since) is = refl
    by_state s there (Ended reason) is = refl

    by : (o : Option Session) → session_of hub number ≡ o → first_in o ≡ []
    by None there = refl
    by (Some s) there = by_state s there s.standing refl

one_up : (hub : Hub) (number : ℕ) (session : Session) (found : List ℕ × List ℕ) → TakesUp hub number session found → message_up hub number ≡ found.0 ∷ []
one_up hub number session found up =
    ap first_in up.there
    ∙ ap (λ s. cond (is_live s && is_empty session.output) (heads (first_message session.input)) []) up.live
    ∙ ap (λ (os : List ℕ). cond (is_empty os) (heads (first_message session.input)) []) up.silent
    ∙ ap heads up.first

-- what stands in front of the rest is the frame
frame_in_front : (stream : List ℕ) (found : List ℕ × List ℕ) → AreOctets stream → first_message stream ≡ Some found → stream ≡ frame found.0 ++ found.1
frame_in_front stream found octets is =
    let others = messages_in found.1 in
    let whole = frames_found stream (found.0 ∷ others.0) others.1 octets (one_by_one stream found.0 found.1 is) in
    let rest = frames_found found.1 others.0 others.1 (rest_octets stream found is octets) refl in
    whole.whole ∙ append_assoc (frame found.0) (flat_map frame others.0) others.1 ∙ ap (λ os. frame found.0 ++ os) (sym rest.whole)

-- how much of a piece a session takes that may be there
abbrev room_for : List ℕ → Option Session → ℕ
room_for piece o = elim o as (λ _. ℕ) [ None ↦ 0 | Some session ↦ min (length piece) (room_of session) ]

take-fewer : (n : ℕ) (xs : List ℕ) → take (min (length xs) n) xs ≡ take n xs
take-fewer n xs = ap (λ m. take m xs) (turned (length xs) n) ∙ take_min n xs
  where
    turned : (a b : ℕ) → min a b ≡ min b a
    turned a b = omega arith

-- ---- one session

-- `first` is the session before; of its input something is said where there are octets
module _ (Octets : Type 0) (number : ℕ) (first : Session) where
  pub record Ran (handed taken : List ℕ) (reacted : List (List ℕ)) (made : List Made) (output input : List ℕ) : Type 0 where
    pub more : List Made
    pub made_is : made ≡ first.made ++ more
    pub goes_out : handed ++ output ≡ first.output ++ flat_map frame_of more
    pub octets : Octets → AreOctets input
    pub goes_in : Octets → first.input ++ taken ≡ flat_map frame reacted ++ input

  abbrev RanTo : List ℕ → List ℕ → List (List ℕ) → Session → Type 0
  RanTo handed taken reacted s = Ran handed taken reacted s.made s.output s.input

  -- a session that isn't there yet would begin with nothing
  pub record Runs (handed taken : List ℕ) (reacted : List (List ℕ)) (hub : Hub) : Type 0 where
    pub each : (s : Session) → session_of hub number ≡ Some s → RanTo handed taken reacted s
    pub fresh : hub.numbers_given ≤ number → (session_of hub number ≡ None) × Ran handed taken reacted [] [] []

  ran-said : (handed taken : List ℕ) (reacted : List (List ℕ)) (s t : Session) → Said s t → RanTo handed taken reacted s → RanTo handed taken reacted t
  ran-said handed taken reacted s t said r = record {
    more = r.more ++ said.more;
    made_is = said.made ∙ ap (λ ms. ms ++ said.more) r.made_is ∙ append_assoc first.made r.more said.more;
    goes_out = ap (λ os. handed ++ os) said.output ∙ sym (append_assoc handed s.output (flat_map frame_of said.more)) ∙ ap (λ os. os ++ flat_map frame_of said.more) r.goes_out
        ∙ append_assoc first.output (flat_map frame_of r.more) (flat_map frame_of said.more) ∙ ap (λ os. first.output ++ os) (sym (flat_map-append frame_of r.more said.more));
    octets = λ o. subst AreOctets (sym said.input) (r.octets o);
    goes_in = λ o. r.goes_in o ∙ ap (λ os. flat_map frame reacted ++ os) (sym said.input);
  }

  ran-taken : (handed taken : List ℕ) (reacted : List (List ℕ)) (s : Session) (piece : List ℕ) → (Octets → AreOctets piece) → RanTo handed taken reacted s
      → RanTo handed (taken ++ take (room_of s) piece) reacted (with_piece piece s)
  ran-taken handed taken reacted s piece good r = record {
    more = r.more;
    made_is = r.made_is;
    goes_out = r.goes_out;
    octets = λ o. All-append (λ o. o < 256) s.input (take (room_of s) piece) (r.octets o) (All-take (λ o. o < 256) (room_of s) piece (good o));
    goes_in = λ o. sym (append_assoc first.input taken (take (room_of s) piece)) ∙ ap (λ os. os ++ take (room_of s) piece) (r.goes_in o)
        ∙ append_assoc (flat_map frame reacted) s.input (take (room_of s) piece);
  }

  ran-up : (handed taken : List ℕ) (reacted : List (List ℕ)) (s : Session) (found : List ℕ × List ℕ) → first_message s.input ≡ Some found → RanTo handed taken reacted s
      → RanTo handed taken (reacted ++ found.0 ∷ []) (without_first found.1 s)
  ran-up handed taken reacted s found is r = record {
    more = r.more;
    made_is = r.made_is;
    goes_out = r.goes_out;
    octets = λ o. rest_octets s.input found is (r.octets o);
    goes_in = λ o. r.goes_in o ∙ ap (λ os. flat_map frame reacted ++ os) (frame_in_front s.input found (r.octets o) is)
        ∙ sym (append_assoc (flat_map frame reacted) (frame found.0) found.1) ∙ ap (λ os. os ++ found.1) (one_more found.0);
  }
    where
      one_more : (m : List ℕ) → flat_map frame reacted ++ frame m ≡ flat_map frame (reacted ++ m ∷ [])
      one_more m = ap (λ os. flat_map frame reacted ++ os) (sym (append-nil (frame m))) ∙ sym (flat_map-append frame reacted (m ∷ []))

  ran-copied : (handed taken : List ℕ) (reacted : List (List ℕ)) (s : Session) (room : ℕ) → RanTo handed taken reacted s → RanTo (handed ++ take room s.output) taken reacted (copied room s)
  ran-copied handed taken reacted s room r = record {
    more = r.more;
    made_is = r.made_is;
    goes_out = append_assoc handed (take room s.output) (drop room s.output) ∙ ap (λ os. handed ++ os) (take-append-drop room s.output) ∙ r.goes_out;
    octets = r.octets;
    goes_in = r.goes_in;
  }

  -- nothing more
  still : (handed taken : List ℕ) (reacted : List (List ℕ)) (hub : Hub) → Runs handed taken reacted hub → Runs (handed ++ []) (taken ++ []) (reacted ++ []) hub
  still handed taken reacted hub r =
      subst (λ h. Runs h (taken ++ []) (reacted ++ []) hub) (sym (append-nil handed))
      (subst (λ t. Runs handed t (reacted ++ []) hub) (sym (append-nil taken)) (subst (λ m. Runs handed taken m hub) (sym (append-nil reacted)) r))

  -- ---- the hub

  module _ (handed taken : List ℕ) (reacted : List (List ℕ)) where
    -- sessions change, with any history; that of the number says no more than messages
    changed : (g : ℕ → Session → Session) → ((s : Session) → Said s (g number s)) → (hub : Hub) (history : List Entry) → Runs handed taken reacted hub
        → Runs handed taken reacted (record { start = hub.start; timers = hub.timers; history = history; seen = hub.seen; sessions = map (λ e. (e.0, g e.0 e.1)) hub.sessions; numbers_given = hub.numbers_given })
    changed g said hub history r = record {
      each = one-changed number (RanTo handed taken reacted) (RanTo handed taken reacted) g (λ s ran. ran-said handed taken reacted s (g number s) (said s) ran) hub.sessions r.each;
      fresh = λ low. (found-changed g number hub.sessions ∙ ap (option_map (g number)) (r.fresh low).0, (r.fresh low).1);
    }

    in-changed : (hub : Hub) (other : ℕ) (f : Session → Session) → ((s : Session) → Said s (f s)) → Runs handed taken reacted hub → Runs handed taken reacted (in_session other f hub)
    in-changed hub other f said r = changed (λ n s. cond (n == other) (f s) s) (λ s. by s (number == other)) hub hub.history r
      where
        by : (s : Session) (b : Bool) → Said s (cond b (f s) s)
        by s true = said s
        by s false = said-none s s refl refl refl

    -- another one changes in any way
    other-changed : (hub : Hub) (other : ℕ) (f : Session → Session) → (number == other) ≡ false → Runs handed taken reacted hub → Runs handed taken reacted (in_session other f hub)
    other-changed hub other f apart r = changed (λ n s. cond (n == other) (f s) s) (λ s. subst (λ b. Said s (cond b (f s) s)) (sym apart) (said-none s s refl refl refl)) hub hub.history r

    enters : (hub : Hub) (entry : Entry) → Runs handed taken reacted hub → Runs handed taken reacted (entered entry hub)
    enters hub entry r = changed (λ n. by_entry hub.start hub.history entry) (λ s. said-none s (by_entry hub.start hub.history entry s) refl refl refl) hub (hub.history ++ entry ∷ []) r

    -- some may end
    ends-some : EndsSome (Runs handed taken reacted)
    ends-some hub point reason r = changed (λ n s. ended_where (plain_keeps point) (reason s) s) (λ s. said-ended_where point (reason s) s) hub hub.history r

    enters_keeping : (hub : Hub) (entry : Entry) → Entering AnyMessage hub entry → Runs handed taken reacted hub → Runs handed taken reacted (entered_keeping entry hub)
    enters_keeping = entering-kept AnyMessage (Runs handed taken reacted) (Runs handed taken reacted) ends-some (λ hub entry by r. enters hub entry r)

    makes : (hub : Hub) → Runs handed taken reacted hub → Runs handed taken reacted (with_new hub)
    makes hub r = record {
      each = one-last number (RanTo handed taken reacted) hub.sessions (hub.numbers_given, new) (λ is. let same = same-number hub.numbers_given number is in (r.fresh (omega (arith, same))).1) r.each;
      fresh = λ low.
          let before : hub.numbers_given ≤ number = omega (arith, low) in
          let apart : (hub.numbers_given == number) ≡ false = other (hub.numbers_given == number) refl low in
          (found-last number hub.sessions (hub.numbers_given, new) ∙ ap (λ b. option_or (session_of hub number) (cond b (Some new) None)) apart ∙ ap (λ o. option_or o None) (r.fresh before).0, (r.fresh before).1);
    }
      where
        new : Session
        new = new_session (keeps_now hub) (now hub)

        other : (b : Bool) → (hub.numbers_given == number) ≡ b → hub.numbers_given + 1 ≤ number → (hub.numbers_given == number) ≡ false
        other true is low = let same = same-number hub.numbers_given number is in absurd (omega (arith, same, low))
        other false is low = is

    drops : (hub : Hub) (gone : ℕ) → Runs handed taken reacted hub → Runs handed taken reacted (disconnect hub gone)
    drops hub gone r = record {
      each = one-left number (RanTo handed taken reacted) gone hub.sessions r.each;
      fresh = λ low. (found-left gone number hub.sessions ∙ ap (λ o. cond (number == gone) None o) (r.fresh low).0 ∙ none (number == gone), (r.fresh low).1);
    }
      where
        none : (b : Bool) → cond {A = Option Session} b None None ≡ None
        none true = refl
        none false = refl

    -- octets come in
    takes-own : (hub : Hub) (piece : List ℕ) → (Octets → AreOctets piece) → Runs handed taken reacted hub → Runs handed (taken ++ take (taken_by hub number piece) piece) reacted (take_octets hub number piece)
    takes-own hub piece good r = record {
      each = λ s there. by s (session_of hub number) refl (sym (found-in number (with_piece piece) hub.sessions) ∙ there);
      fresh = λ low. (
        found-in number (with_piece piece) hub.sessions ∙ ap (option_map (with_piece piece)) (r.fresh low).0,
        subst (λ t. Ran handed t reacted [] [] []) (sym (append-nil taken) ∙ ap (λ (o : Option Session). taken ++ take (room_for piece o) piece) (sym (r.fresh low).0)) (r.fresh low).1,
      );
    }
      where
        by : (s : Session) (o : Option Session) → session_of hub number ≡ o → option_map (with_piece piece) o ≡ Some s → RanTo handed (taken ++ take (taken_by hub number piece) piece) reacted s
        by s None there is = absurd cc
        by s (Some t) there is =
            let same : with_piece piece t ≡ s = cc in
            let size : take (taken_by hub number piece) piece ≡ take (room_of t) piece = ap (λ (o : Option Session). take (room_for piece o) piece) there ∙ take-fewer (room_of t) piece in
            subst (λ os. RanTo handed (taken ++ os) reacted s) (sym size) (subst (RanTo handed (taken ++ take (room_of t) piece) reacted) same (ran-taken handed taken reacted t piece good (r.each t there)))

    -- ---- `give`

    -- what was handed out
    hands : {g : Giving} → Gives number (Runs handed taken reacted) g → Runs (handed ++ g.octets) taken reacted g.hub
    hands (hands_nothing given hub r) = subst (λ h. Runs h taken reacted hub) (sym (append-nil handed)) r
    hands (hands_front room s hub there r) = record {
      each = λ t found.
          let same : copied room s ≡ t = is t (sym (ap (option_map (copied room)) there) ∙ sym (found-in number (copied room) hub.sessions) ∙ found) in
          subst (RanTo (handed ++ take room s.output) taken reacted) same (ran-copied handed taken reacted s room (r.each s there));
      fresh = λ low. let never : None ≡ Some s = sym (r.fresh low).0 ∙ there in absurd cc;
    }
      where
        is : (t : Session) → Some (copied room s) ≡ Some t → copied room s ≡ t
        is t e = cc

    -- what keeps it in a reaction
    reacting : Reacts AnyMessage number (Runs handed taken reacted) (Runs handed taken reacted)
    reacting = record {
      changes = λ hub f step out r. in-changed hub number f (said-step hub step out) r;
      enters = enters_keeping;
      enters_none = λ hub r. r;
      changes_behind = λ hub f step out r. in-changed hub number f (said-step hub step out) r;
    }

    others : (other : ℕ) → (number == other) ≡ false → Walks AnyMessage other (Runs handed taken reacted) (Runs handed taken reacted)
    others other apart = record {
      reads = λ hub s found there is r. tt;
      takes_up = λ hub s found there is r. other-changed hub other (without_first found.1) apart r;
      changes = λ hub f step r. other-changed hub other f apart r;
      enters = enters_keeping;
      enters_none = λ hub r. r;
      changes_behind = λ hub f step r. other-changed hub other f apart r;
    }

  gives-own : (handed taken : List ℕ) (reacted : List (List ℕ)) (hub : Hub) (room : ℕ) → Runs handed taken reacted hub
      → Runs (handed ++ (give hub number room).octets) taken (reacted ++ message_up hub number) (give hub number room).hub
  gives-own handed taken reacted hub room r =
      hands handed taken (reacted ++ message_up hub number)
      (reacts-give AnyMessage number (Runs handed taken (reacted ++ message_up hub number)) (Runs handed taken (reacted ++ message_up hub number)) (reacting handed taken (reacted ++ message_up hub number)) hub room
      (λ none. subst (λ m. Runs handed taken m hub) (sym (append-nil reacted) ∙ ap (λ m. reacted ++ m) (sym (none_up hub number none))) r)
      (λ s found up. (tt, subst (λ m. Runs handed taken (reacted ++ m) (in_session number (without_first found.1) hub)) (sym (one_up hub number s found up)) (taken_up s found up))))
    where
      taken_up : (s : Session) (found : List ℕ × List ℕ) → TakesUp hub number s found → Runs handed taken (reacted ++ found.0 ∷ []) (in_session number (without_first found.1) hub)
      taken_up s found up = record {
        each = λ t there.
            let same : without_first found.1 s ≡ t = is t (sym (ap (option_map (without_first found.1)) up.there) ∙ sym (found-in number (without_first found.1) hub.sessions) ∙ there) in
            subst (RanTo handed taken (reacted ++ found.0 ∷ [])) same (ran-up handed taken reacted s found up.first (r.each s up.there));
        fresh = λ low. let never : None ≡ Some s = sym (r.fresh low).0 ∙ up.there in absurd cc;
      }
        where
          is : (t : Session) → Some (without_first found.1 s) ≡ Some t → without_first found.1 s ≡ t
          is t e = cc

  -- ---- the calls

  abbrev After : List ℕ → List ℕ → List (List ℕ) → Hub → HubCall → Type 0
  After handed taken reacted hub call = Runs (handed ++ hands_out number hub call) (taken ++ takes_in number hub call) (reacted ++ reacts_to number hub call) (called call hub)

  runs-takes : (handed taken : List ℕ) (reacted : List (List ℕ)) (hub : Hub) (other : ℕ) (piece : List ℕ) → (Octets → AreOctets piece) → Runs handed taken reacted hub → After handed taken reacted hub (taking other piece)
  runs-takes handed taken reacted hub other piece good r = by (number == other) refl
    where
      by : (b : Bool) → (number == other) ≡ b → Runs (handed ++ []) (taken ++ cond b (take (taken_by hub other piece) piece) []) (reacted ++ []) (take_octets hub other piece)
      by false apart = still handed taken reacted (take_octets hub other piece) (other-changed handed taken reacted hub other (with_piece piece) apart r)
      by true is =
          subst (λ h. Runs h (taken ++ take (taken_by hub other piece) piece) (reacted ++ []) (take_octets hub other piece)) (sym (append-nil handed))
          (subst (λ m. Runs handed (taken ++ take (taken_by hub other piece) piece) m (take_octets hub other piece)) (sym (append-nil reacted))
          (subst (λ n. Runs handed (taken ++ take (taken_by hub n piece) piece) reacted (take_octets hub n piece)) (same-number number other is) (takes-own handed taken reacted hub piece good r)))

  runs-gives : (handed taken : List ℕ) (reacted : List (List ℕ)) (hub : Hub) (other room : ℕ) → Runs handed taken reacted hub → After handed taken reacted hub (gives other room)
  runs-gives handed taken reacted hub other room r = by (number == other) refl
    where
      by : (b : Bool) → (number == other) ≡ b → Runs (handed ++ cond b (give hub other room).octets []) (taken ++ []) (reacted ++ cond b (message_up hub other) []) (give hub other room).hub
      by false apart =
          still handed taken reacted (give hub other room).hub
          (walks-give AnyMessage other (Runs handed taken reacted) (Runs handed taken reacted) (others handed taken reacted other apart) hub room r)
      by true is =
          subst (λ t. Runs (handed ++ (give hub other room).octets) t (reacted ++ message_up hub other) (give hub other room).hub) (sym (append-nil taken))
          (subst (λ n. Runs (handed ++ (give hub n room).octets) taken (reacted ++ message_up hub n) (give hub n room).hub) (same-number number other is) (gives-own handed taken reacted hub room r))

  runs-called : (handed taken : List ℕ) (reacted : List (List ℕ)) (call : HubCall) (hub : Hub) → (Octets → BringsOctets call) → Runs handed taken reacted hub → After handed taken reacted hub call
  runs-called handed taken reacted (updates message) hub good r =
      still handed taken reacted _ (holds-update AnyMessage (Runs handed taken reacted) hub (λ entry by. enters_keeping handed taken reacted hub entry by r) r message tt)
  runs-called handed taken reacted (hears link datagram) hub good r =
      still handed taken reacted _ (holds-hear AnyMessage (Runs handed taken reacted) hub (λ entry by. enters_keeping handed taken reacted hub entry by r) r link datagram tt)
  runs-called handed taken reacted (goes link) hub good r =
      still handed taken reacted _ (holds-going AnyMessage (Runs handed taken reacted) hub (λ entry by. enters_keeping handed taken reacted hub entry by r) r link)
  runs-called handed taken reacted (moves t) hub good r =
      still handed taken reacted _ (holds-moment AnyMessage (Runs handed taken reacted) hub (λ entry by. enters_keeping handed taken reacted hub entry by r) r (timed-kept (Runs handed taken reacted) (ends-some handed taken reacted)) t)
  runs-called handed taken reacted connects hub good r = still handed taken reacted _ (holds-connect (Runs handed taken reacted) hub (makes handed taken reacted hub r) r)
  runs-called handed taken reacted (taking other piece) hub good r = runs-takes handed taken reacted hub other piece good r
  runs-called handed taken reacted (gives other room) hub good r = runs-gives handed taken reacted hub other room r
  runs-called handed taken reacted (stops other rcode delay) hub good r = still handed taken reacted _ (in-changed handed taken reacted hub other (asked_to_stop rcode delay) (said-asked rcode delay) r)
  runs-called handed taken reacted (ending other) hub good r = still handed taken reacted _ (drops handed taken reacted hub other r)

  runs-calls : (calls : List HubCall) (handed taken : List ℕ) (reacted : List (List ℕ)) (hub : Hub) → (Octets → AllByRecursion BringsOctets calls) → Runs handed taken reacted hub
      → Runs (handed ++ handed_out number calls hub) (taken ++ taken_in number calls hub) (reacted ++ reacted_to number calls hub) (after_calls calls hub)
  runs-calls [] handed taken reacted hub good r = still handed taken reacted hub r
  runs-calls (call ∷ calls) handed taken reacted hub good r =
      let later = called call hub in
      let out = hands_out number hub call in
      let into = takes_in number hub call in
      let up = reacts_to number hub call in
      subst (λ h. Runs h (taken ++ (into ++ taken_in number calls later)) (reacted ++ (up ++ reacted_to number calls later)) (after_calls calls later)) (append_assoc handed out (handed_out number calls later))
      (subst (λ t. Runs ((handed ++ out) ++ handed_out number calls later) t (reacted ++ (up ++ reacted_to number calls later)) (after_calls calls later)) (append_assoc taken into (taken_in number calls later))
      (subst (λ m. Runs ((handed ++ out) ++ handed_out number calls later) ((taken ++ into) ++ taken_in number calls later) m (after_calls calls later)) (append_assoc reacted up (reacted_to number calls later))
      (runs-calls calls (handed ++ out) (taken ++ into) (reacted ++ up) later (λ o. (good o).1) (runs-called handed taken reacted call hub (λ o. (good o).0) r))))

-- ---- the laws

-- a session that was there
begins : (Octets : Type 0) (number : ℕ) (hub : Hub) (before : Session) → (Octets → AreOctets before.input) → number < hub.numbers_given → session_of hub number ≡ Some before → Runs Octets number before [] [] [] hub
begins Octets number hub before octets low there = record {
  each = λ s found. let same : before ≡ s = is s (sym there ∙ found) in subst (RanTo Octets number before [] [] []) same ran;
  fresh = λ high. absurd (omega (arith, low, high));
}
  where
    is : (s : Session) → Some before ≡ Some s → before ≡ s
    is s e = cc

    ran : RanTo Octets number before [] [] [] before
    ran = record { more = []; made_is = sym (append-nil before.made); goes_out = sym (append-nil before.output); octets = octets; goes_in = λ o. append-nil before.input }

-- a session that wasn't
abbrev blank : Session
blank = new_session (plain_keeps 0) 0

begins_anew : (Octets : Type 0) (number : ℕ) (hub : Hub) → session_of hub number ≡ None → Runs Octets number blank [] [] [] hub
begins_anew Octets number hub none = record {
  each = λ s found. let never : None ≡ Some s = sym none ∙ found in absurd cc;
  fresh = λ high. (none, record { more = []; made_is = refl; goes_out = refl; octets = λ o. All-nil (λ o. o < 256); goes_in = λ o. refl });
}

pub made_goes_out : MadeGoesOut
made_goes_out hub calls number after there = (
  λ before low was.
      let r = (runs-calls ⊥ number before calls [] [] [] hub (λ o. absurd o) (begins ⊥ number hub before (λ o. absurd o) low was)).each after there in
      record { more = r.more; made = r.made_is; octets = r.goes_out },
  λ none.
      let r = (runs-calls ⊥ number blank calls [] [] [] hub (λ o. absurd o) (begins_anew ⊥ number hub none)).each after there in
      r.goes_out ∙ ap (flat_map frame_of) (sym r.made_is),
)

pub each_is_reacted_to_once : EachIsReactedToOnce
each_is_reacted_to_once hub calls number after good there = (
  λ before low was octets. ((runs-calls (Unit {0}) number before calls [] [] [] hub (λ o. good) (begins (Unit {0}) number hub before (λ o. octets) low was)).each after there).goes_in tt,
  λ none. ((runs-calls (Unit {0}) number blank calls [] [] [] hub (λ o. good) (begins_anew (Unit {0}) number hub none)).each after there).goes_in tt,
)

-- ---- what counts as reacted to

abbrev ReactsTo : Hub → ℕ → ℕ → Session → List ℕ → Type 0
ReactsTo hub number room session message =
    (rest : List ℕ) × (first_message session.input ≡ Some (message, rest)) × (give hub number room ≡ after_reaction number room (reacted message number (in_session number (without_first rest) hub)))

pub give_reacts : GiveReacts
give_reacts hub number room session message there is = by_state session.standing refl session.output refl (first_message session.input) refl (sym (ap first_in there) ∙ is)
  where
    found-so : session.standing ≡ Live → session.output ≡ [] → (m rest : List ℕ) → first_message session.input ≡ Some (m, rest) → m ≡ message → ReactsTo hub number room session message
    found-so live silent m rest first same = (
      rest,
      first ∙ ap (λ m. Some (m, rest)) same,
      ap (give_as hub number room) there
          ∙ ap (λ (os : List ℕ). output_as hub number room session (is_empty os)) silent
          ∙ ap (λ (s : SessionStatus). by_standing s number room session hub) live
          ∙ ap (works_as hub number room) first
          ∙ ap (λ m. after_reaction number room (reacted m number (in_session number (without_first rest) hub))) same,
    )

    by_state : (s : SessionStatus) → session.standing ≡ s → (os : List ℕ) → session.output ≡ os → (o : Option (List ℕ × List ℕ)) → first_message session.input ≡ o
        → cond (is_live s && is_empty os) (heads o) [] ≡ message ∷ [] → ReactsTo hub number room session message
    by_state Live live [] silent (Some (m, rest)) first e = found-so live silent m rest first (same m e)
      where
        same : (m : List ℕ) → m ∷ [] ≡ message ∷ [] → m ≡ message
        same m e = cc
    by_state Live live [] silent None first e = absurd cc
    by_state Live live (x ∷ xs) silent o first e = absurd cc
    by_state (AskedToStop rcode delay) live os silent o first e = absurd cc
    by_state (Stopped since) live os silent o first e = absurd cc
    by_state (Ended reason) live os silent o first e = absurd cc
