-- An exchange with a session ends where nothing is left to be said, and all octets have gone in, or the session has come to its end.
--     emits-all      `give` is asked until it has nothing to say
--     exchanges-all      so it is of an exchange
use Rattle.std.proofs.Common.{◌≡◌, ◌⊎◌, inl, inr, ℕ, zero, suc, ◌+◌, ◌-◌, ◌<◌, ◌≤◌, ◌||◌, Bool, true, false, List, [], ◌∷◌, ◌++◌, length, take, drop, min, Option, Some, None, refl, sym, ◌∙◌, ap, subst, arith, ne_eqb, append_assoc, append-nil, take-append-drop, length-drop, true≢false}
use Rattle.std.specs.Prelude.{◌==◌, cond, option_map, nat_lt, IsSome}
use Rattle.std.specs.List.{AllByRecursion}
use Rattle.std.proofs.lemmas.Bool.{eqb-true, eqb-false, or_cases, or_parts, ltb-true, ltb-false}
use Rattle.std.proofs.lemmas.List.{take_all, drop_all, length-take}
use Rattle.dsotlv.specs.Laws.{AreOctets}
use Rattle.dsotlv.specs.Messages.{first_message}
use Rattle.dsotlv.proofs.Results.{same_found}
use Rattle.dsotlv.proofs.StreamLaws.{long_is_whole}
use Rattle.dsosession.specs.declared.session.EndReason.{EndReason}
use Rattle.pushsession.specs.Sessions.{is_open, room_of, with_piece}
use Rattle.pushsession.specs.declared.session_status.SessionStatus.{SessionStatus}
use Rattle.pushsession.specs.declared.session_status.SessionStatus.TheVariants.{Live, AskedToStop, Stopped, Ended}
use Rattle.pushserver.specs.declared.given.Given.{Given}
use Rattle.pushserver.specs.declared.given.Given.TheVariants.{Bytes, Worked, Nothing, Ending, End}
use Rattle.pushserver.specs.PlainHubs.{Hub, Session, Giving}
use Rattle.pushserver.specs.Hubs.{session_of, taken_by, take_octets}
use Rattle.push_base.specs.Cases.{is_empty}
use Rattle.pushserver.specs.Giving.{did, by_standing, give}
use Rattle.pushserver.proofs.hub_steps.Cases.{output_as, give_as}
use Rattle.replay.proofs.turns.Turns.{emitted-turn}
use Rattle.pushserver.specs.Calls.{HubCall, updates, hears, goes, moves, connects, takes as taking, gives, stops, ends, after_calls}
use Rattle.livesessions.proofs.SessionLists.{found-in, number-itself}
use Rattle.pushtelling.specs.Runs.{takes_in, handed_out, taken_in}
use Rattle.replay.specs.PassedOctets.{Emitted, Exchanged, emitted, nothing_emitted, with_giving, exchanged, enough}
use Rattle.replay.proofs.worlds.InputOctets.{octets-parts}
use Rattle.script_laws.specs.Reached.{FitsCall, IsReached}
use Rattle.replay.specs.LineCalls.{emit_calls, fed_calls, exchange_calls}
use Rattle.script_laws.specs.Sending.{IsDone, IsServed}
use Rattle.script_laws.proofs.hubs.Reaching.{reached-go-on}
use Rattle.script_laws.proofs.hubs.Sound.{reached-sound}
use Rattle.script_laws.proofs.turns.Giving.{sound-session}
use Rattle.script_laws.proofs.calls.Emitting.{feeds, in-append, all-emitted}
use Rattle.script_laws.proofs.calls.GivesOn.{work_of, Gave, GaveOn, gave-on, work-is-little}

-- ---- `give` again and again

pub record EndsSo (number : ℕ) (e : Emitted) : Type 0 where
  pub after : Session
  pub there : session_of e.hub number ≡ Some after
  pub silent : after.output ≡ []
  pub done : IsDone after.standing after e.over

done-by : (standing : SessionStatus) (s : Session) (over : Option EndReason) → s.standing ≡ standing → IsDone standing s over → IsDone s.standing s over
done-by standing s over is done = subst (λ (st : SessionStatus). IsDone st s over) (sym is) done

pub emits-all : (turns number budget : ℕ) (so_far : Emitted) (session : Session) → IsReached so_far.hub → session_of so_far.hub number ≡ Some session → so_far.over ≡ None → work_of session < turns → work_of session < budget
    → EndsSo number (emitted turns number budget so_far)
emits-all zero number budget so_far session reached there live few fits = absurd (omega (arith, few))
emits-all (suc turns) number budget so_far session reached there live few fits =
    by (λ n e s r at l f b. emits-all turns number n e s r at l f b) (budget == 0) (ne_eqb budget 0 (omega (arith, fits)))
  where
    g : Giving
    g = give so_far.hub number budget

    gave : GaveOn g number (work_of session)
    gave = gave-on so_far.hub number budget session reached there (omega (arith, fits))

    reached_then : IsReached g.hub
    reached_then = reached-go-on so_far.hub (gives number budget ∷ []) reached ((tt, tt), tt)

    Later : Type 0
    Later = (n : ℕ) (e : Emitted) (s : Session) → IsReached e.hub → session_of e.hub number ≡ Some s → e.over ≡ None → work_of s < turns → work_of s < n → EndsSo number (emitted turns number n e)

    As : Given → Emitted
    As given = elim given as (λ _. Emitted) [
      | Bytes n ↦ emitted turns number (budget - n) (with_giving g number so_far)
      | Worked ↦ emitted turns number budget (record (with_giving g number so_far) { reacted = true })
      | Nothing ↦ with_giving g number so_far
      | Ending ↦ with_giving g number so_far
      | End reason ↦ record (with_giving g number so_far) { over = Some reason }
    ]

    next : (w l n t : ℕ) → l + n < w → w < suc t → l < t
    next w l n t less few = omega (arith, less, few)

    left : (w l n b : ℕ) → l + n < w → w < b → l < b - n
    left w l n b less fits = omega (arith, less, fits)

    sooner : (w l t : ℕ) → l < w → w < suc t → l < t
    sooner w l t less few = omega (arith, less, few)

    same_budget : (w l b : ℕ) → l < w → w < b → l < b
    same_budget w l b less fits = omega (arith, less, fits)

    by_given : Later → (given : Given) → Gave (work_of session) gave.later given → EndsSo number (As given)
    by_given later (Bytes n) less =
        later (budget - n) (with_giving g number so_far) gave.later reached_then gave.there live (next (work_of session) (work_of gave.later) n turns less few) (left (work_of session) (work_of gave.later) n budget less fits)
    by_given later Worked less =
        later budget (record (with_giving g number so_far) { reacted = true }) gave.later reached_then gave.there live (sooner (work_of session) (work_of gave.later) turns less few)
        (same_budget (work_of session) (work_of gave.later) budget less fits)
    by_given later Nothing (silent, (is, none)) = record { after = gave.later; there = gave.there; silent = silent; done = done-by Live gave.later so_far.over is (live, none) }
    by_given later Ending (silent, (since, is)) = record { after = gave.later; there = gave.there; silent = silent; done = done-by (Stopped since) gave.later so_far.over is live }
    by_given later (End reason) (silent, is) = record { after = gave.later; there = gave.there; silent = silent; done = done-by (Ended reason) gave.later (Some reason) is refl }

    by : Later → (b : Bool) → b ≡ false → EndsSo number (elim b as (λ _. Emitted) [ true ↦ so_far | false ↦ As g.given ])
    by later true is = absurd (true≢false is)
    by later false is = by_given later g.given gave.gave

-- ---- an exchange

pub record TakesSo (number : ℕ) (octets : List ℕ) (hub : Hub) (x : Exchanged) (calls : List HubCall) : Type 0 where
  pub after : Session
  pub there : session_of x.hub number ≡ Some after
  pub silent : after.output ≡ []
  pub done : IsDone after.standing after x.over
  pub left : List ℕ
  pub taken : taken_in number calls hub ++ left ≡ octets
  pub all_taken : is_open after.standing ≡ true → left ≡ []

-- what is done is served
pub done-served : (s : Session) (over : Option EndReason) → s.output ≡ [] → IsDone s.standing s over → IsServed s
done-served s over silent done = record { silent = silent; waits = by s.standing done }
  where
    by : (standing : SessionStatus) → IsDone standing s over → is_open standing ≡ true → first_message s.input ≡ None
    by Live done opened = done.1
    by (AskedToStop rcode delay) done opened = absurd done
    by (Stopped since) done opened = absurd (true≢false (sym opened))
    by (Ended reason) done opened = absurd (true≢false (sym opened))

abbrev IsGive : HubCall → Type 0
IsGive (gives other room) = Unit {0}
IsGive _ = ⊥

module _ (number : ℕ) where
  takes-nothing : (turns budget : ℕ) (hub : Hub) → taken_in number (emit_calls turns number budget hub) hub ≡ []
  takes-nothing turns budget hub = of_all (emit_calls turns number budget hub) hub (all-emitted IsGive number (λ room. tt) turns budget hub)
    where
      of_all : (calls : List HubCall) (h : Hub) → AllByRecursion IsGive calls → taken_in number calls h ≡ []
      of_all [] h all = refl
      of_all (gives other room ∷ calls) h all = of_all calls (give h other room).hub all.1
      of_all (updates m ∷ calls) h all = absurd all.0
      of_all (hears l m ∷ calls) h all = absurd all.0
      of_all (goes l ∷ calls) h all = absurd all.0
      of_all (moves t ∷ calls) h all = absurd all.0
      of_all (connects ∷ calls) h all = absurd all.0
      of_all (taking other piece ∷ calls) h all = absurd all.0
      of_all (stops other rcode delay ∷ calls) h all = absurd all.0
      of_all (ends other ∷ calls) h all = absurd all.0

  -- from a session that has come to its end nothing comes
  closed-emits : (fed : Hub) (s : Session) → session_of fed number ≡ Some s → s.output ≡ [] → (standing : SessionStatus) → s.standing ≡ standing → is_open standing ≡ false
      → session_of (emitted enough number enough (nothing_emitted fed [])).hub number ≡ Some s
  closed-emits fed s there silent standing is closed = by standing is closed
    where
      reaches : (st : SessionStatus) → s.standing ≡ st → give fed number enough ≡ by_standing st number enough s fed
      reaches st is =
          ap (give_as fed number enough) there ∙ ap (λ (l : List ℕ). output_as fed number enough s (is_empty l)) silent ∙ ap (λ (st : SessionStatus). by_standing st number enough s fed) is

      by : (st : SessionStatus) → s.standing ≡ st → is_open st ≡ false → session_of (emitted enough number enough (nothing_emitted fed [])).hub number ≡ Some s
      by Live is closed = absurd (true≢false closed)
      by (AskedToStop rcode delay) is closed = absurd (true≢false closed)
      by (Stopped since) is closed = ap (λ (e : Emitted). session_of e.hub number) (emitted-turn 18446744073709551615 number enough (nothing_emitted fed []) refl (did Ending fed) (reaches (Stopped since) is)) ∙ there
      by (Ended reason) is closed = ap (λ (e : Emitted). session_of e.hub number) (emitted-turn 18446744073709551615 number enough (nothing_emitted fed []) refl (did (End reason) fed) (reaches (Ended reason) is)) ∙ there

  -- of a piece as long as there is room for
  fed-takes : (hub : Hub) (piece : List ℕ) (session : Session) → session_of hub number ≡ Some session → length piece ≤ room_of session → taken_in number (fed_calls number piece hub) hub ≡ piece
  fed-takes hub piece session there fits =
      ap (λ (os : List ℕ). takes_in number hub (taking number piece) ++ os) (takes-nothing enough enough (take_octets hub number piece)) ∙ append-nil (takes_in number hub (taking number piece))
      ∙ ap (λ (b : Bool). cond b (take (taken_by hub number piece) piece) []) (number-itself number)
      ∙ ap (λ (o : Option Session). take (elim o as (λ _. ℕ) [ None ↦ 0 | Some s ↦ min (length piece) (room_of s) ]) piece) there
      ∙ take_all (min (length piece) (room_of session)) piece (whole (length piece) (room_of session) fits)
    where
      whole : (n room : ℕ) → n ≤ room → n ≤ min n room
      whole n room fits = omega (arith, fits)

  taken-is : (hub : Hub) (octets : List ℕ) (session : Session) → session_of hub number ≡ Some session → taken_by hub number octets ≡ min (length octets) (room_of session)
  taken-is hub octets session there = ap (λ (o : Option Session). elim o as (λ _. ℕ) [ None ↦ 0 | Some s ↦ min (length octets) (room_of s) ]) there

  -- a served session that takes nothing has come to its end, or there is nothing
  none-taken : (octets : List ℕ) (session : Session) → IsServed session → AreOctets session.input → min (length octets) (room_of session) ≡ 0 → is_open session.standing ≡ true → length octets ≡ 0
  none-taken octets session served good none opened =
      no_room (length octets) (length session.input) (short (first_message session.input) (served.waits opened) refl)
      (sym (ap (λ (b : Bool). min (length octets) (cond b (69633 - length session.input) 0)) opened) ∙ none)
    where
      no_room : (n i : ℕ) → i < 65537 → min n (69633 - i) ≡ 0 → n ≡ 0
      no_room n i few none = omega (arith, few, none)

      short : (o : Option (List ℕ × List ℕ)) → first_message session.input ≡ None → first_message session.input ≡ o → length session.input < 65537
      short o none is = by (nat_lt (length session.input) 65537) refl
        where
          by : (b : Bool) → nat_lt (length session.input) 65537 ≡ b → length session.input < 65537
          by true less = ltb-true (length session.input) 65537 less
          by false less = absurd (subst (λ (o : Option (List ℕ × List ℕ)). IsSome o → ⊥) (sym none) (λ e. absurd cc) (long_is_whole session.input good (ltb-false (length session.input) 65537 less)))

  pub exchanges-all : (turns : ℕ) (octets : List ℕ) (hub : Hub) (so_far : List ℕ) (session : Session) → IsReached hub → session_of hub number ≡ Some session → IsServed session → AreOctets octets → length octets < turns
      → TakesSo number octets hub (exchanged turns number octets hub so_far) (exchange_calls turns number octets hub)
  exchanges-all zero octets hub so_far session reached there served good few = absurd (omega (arith, few))
  exchanges-all (suc turns) octets hub so_far session reached there served good few =
      by (λ os h front s r at v q f. exchanges-all turns os h front s r at v q f) (k == 0 || k == length octets) refl
    where
      k : ℕ
      k = taken_by hub number octets

      k_is : k ≡ min (length octets) (room_of session)
      k_is = taken-is hub octets session there

      piece : List ℕ
      piece = take k octets

      fed : Hub
      fed = take_octets hub number piece

      e : Emitted
      e = emitted enough number enough (nothing_emitted fed [])

      first : List HubCall
      first = fed_calls number piece hub

      behind : (e.hub ≡ after_calls first hub) × (e.octets ≡ handed_out number first hub)
      behind = feeds number piece hub []

      good_piece : AreOctets piece
      good_piece = octets-parts.front k octets good

      fed_reached : IsReached fed
      fed_reached = reached-go-on hub (taking number piece ∷ []) reached ((good_piece, tt), tt)

      fed_there : session_of fed number ≡ Some (with_piece piece session)
      fed_there = found-in number (with_piece piece) hub.sessions ∙ ap (option_map (with_piece piece)) there

      little : work_of (with_piece piece session) < 1000000000000000000
      little = work-is-little fed number (with_piece piece session) fed_reached fed_there served.silent

      within : (w : ℕ) → w < 1000000000000000000 → w < 18446744073709551616
      within w less = omega (arith, less)

      ended : EndsSo number e
      ended = emits-all enough number enough (nothing_emitted fed []) (with_piece piece session) fed_reached fed_there refl (within (work_of (with_piece piece session)) little) (within (work_of (with_piece piece session)) little)

      e_reached : IsReached e.hub
      e_reached = subst IsReached (sym behind.0) (reached-go-on hub first reached ((good_piece, tt), all-emitted (λ call. FitsCall call) number (λ room. (tt, tt)) enough enough fed))

      size_of_piece : (n room taken : ℕ) → taken ≡ min n room → min taken n ≤ room
      size_of_piece n room taken is = omega (arith, is)

      took : taken_in number first hub ≡ piece
      took = fed-takes hub piece session there (subst (λ (n : ℕ). n ≤ room_of session) (sym (length-take k octets)) (size_of_piece (length octets) (room_of session) k k_is))

      -- what is left behind the first piece
      whole : taken_in number first hub ++ drop k octets ≡ octets
      whole = ap (λ (os : List ℕ). os ++ drop k octets) took ∙ take-append-drop k octets

      -- where the exchange ends here
      ends_here : (k == 0 || k == length octets) ≡ true → is_open ended.after.standing ≡ true → drop k octets ≡ []
      ends_here test opened = by (or_cases (k == 0) (k == length octets) test)
        where
          -- one that is still opened was opened before
          was_open : is_open session.standing ≡ true
          was_open = is_so (is_open session.standing) refl
            where
              is_so : (b : Bool) → is_open session.standing ≡ b → b ≡ true
              is_so true is = refl
              is_so false is =
                  let same : ended.after ≡ with_piece piece session = same_found ended.after (with_piece piece session) (sym ended.there ∙ closed-emits fed (with_piece piece session) fed_there served.silent session.standing refl is) in
                  absurd (true≢false (sym opened ∙ ap (λ (s : Session). is_open s.standing) same ∙ is))

          none : (n : ℕ) → n ≡ 0 → n ≤ 0
          none n is = omega (arith, is)

          all : (n m : ℕ) → m ≡ n → n ≤ m
          all n m is = omega (arith, is)

          by : ((k == 0) ≡ true) ⊎ ((k == length octets) ≡ true) → drop k octets ≡ []
          by (inl zero_of) =
              drop_all k octets (at_most (length octets) k (none-taken octets session served (sound-session hub number session (reached-sound hub reached) there).1.octets (sym k_is ∙ eqb-true k 0 zero_of) was_open))
            where
              at_most : (n m : ℕ) → n ≡ 0 → n ≤ m
              at_most n m is = omega (arith, is)
          by (inr all_of) = drop_all k octets (all (length octets) k (eqb-true k (length octets) all_of))

      by : ((os : List ℕ) (h : Hub) (front : List ℕ) (s : Session) → IsReached h → session_of h number ≡ Some s → IsServed s → AreOctets os → length os < turns → TakesSo number os h (exchanged turns number os h front) (exchange_calls turns number os h))
          → (b : Bool) → (k == 0 || k == length octets) ≡ b → TakesSo number octets hub
          (elim b as (λ _. Exchanged) [ true ↦ record { hub = e.hub; octets = so_far ++ e.octets; over = e.over } | false ↦ exchanged turns number (drop k octets) e.hub (so_far ++ e.octets) ])
          (elim b as (λ _. List HubCall) [ true ↦ first | false ↦ first ++ exchange_calls turns number (drop k octets) (after_calls first hub) ])
      by later true test = record {
        after = ended.after;
        there = ended.there;
        silent = ended.silent;
        done = ended.done;
        left = drop k octets;
        taken = whole;
        all_taken = ends_here test;
      }
      by later false test =
          let x : Exchanged = exchanged turns number (drop k octets) e.hub (so_far ++ e.octets) in
          let rest = later (drop k octets) e.hub (so_far ++ e.octets) ended.after e_reached ended.there (done-served ended.after e.over ended.silent ended.done) (octets-parts.rest k octets good)
          (shorter k (length octets) (room_of session) (length (drop k octets)) turns k_is (length-drop k octets) (eqb-false k 0 (or_parts (k == 0) (k == length octets) test).0) few) in
          let more : List HubCall = exchange_calls turns number (drop k octets) (after_calls first hub) in
          let moved = subst (λ (h : Hub). TakesSo number (drop k octets) h x (exchange_calls turns number (drop k octets) h)) behind.0 rest in
          record {
            after = moved.after;
            there = moved.there;
            silent = moved.silent;
            done = moved.done;
            left = moved.left;
            taken = ap (λ (os : List ℕ). os ++ moved.left) (in-append (takes_in number) first more hub) ∙ append_assoc (taken_in number first hub) (taken_in number more (after_calls first hub)) moved.left
                ∙ ap (λ (os : List ℕ). taken_in number first hub ++ os) moved.taken ∙ whole;
            all_taken = moved.all_taken;
          }
        where
          shorter : (taken n room left t : ℕ) → taken ≡ min n room → left ≡ n - taken → (taken ≡ 0 → ⊥) → n < suc t → left < t
          shorter taken n room left t least is some few = omega (arith, least, is, some, few)
