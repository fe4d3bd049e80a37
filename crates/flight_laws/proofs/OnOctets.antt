-- The client's step on octets.
--     steps-taken, steps-wait      what is under way fits together behind it, and without a whole message nothing changes
--     grows-up      what is written goes to the end of what goes up
use Rattle.std.proofs.Common.{◌≡◌, ℕ, Bool, true, false, List, [], ◌∷◌, ◌++◌, map, Option, Some, None, sym, ap, ◌∙◌, subst, refl, true≢false, append_assoc, append-nil}
use Rattle.std.specs.Prelude.{IsTrue, ◌==◌, if◌then◌else◌}
use Rattle.std.specs.List.{IsDistinct}
use Rattle.std.proofs.lemmas.Grind.{flat_map-append}
use Rattle.rrset.specs.Rcodes.{noerror, notauth}
use Rattle.dsotlv.specs.Messages.{frame, first_message}
use Rattle.dsotlv.specs.declared.message.Notice.{Notice}
use Rattle.dsosession.specs.declared.session.CloseReason.{CloseReason}
use Rattle.pushsession.specs.Sessions.{is_open}
use Rattle.pushserver.specs.PlainHubs.{Session, Made, Note, Subscription, Hub}
use Rattle.pushclient.specs.declared.client.Step.{Step}
use Rattle.pushclient.specs.declared.client.Step.TheVariants as steps
use Rattle.pushclient.specs.Clients.{Client, Connection, Wish, refused, answered, without_wish, writes, unsubscribe_message, with_connection}
use Rattle.pushclient.specs.Rule.{stood_wish}
use Rattle.pushclient.specs.FittingMessages.{IsTaken, StepIs, behind_first, is_delay}
use Rattle.pushclient.specs.ServerMessages.{ServerMessage, accepts, refuses, grants, tells, delays}
use Rattle.pushclient.specs.Steps.{reacted, step, request_of}
use Rattle.pushclient.proofs.EveryCut.{is-at}
use Rattle.pushclient.proofs.Fitting.{meets-the-first, takes-what-fits}
use Rattle.pushclient.proofs.SoundWishes.{some_is}
use Rattle.inflight.specs.Messages.{ClientMessage, message_octets, unsubscribes, Flying, made_of, flying_octets}
use Rattle.inflight.specs.Ends.{BothEnds, ends_of}
use Rattle.inflight.specs.Flight.{FitsTogether, Upward, IsUnderWay}
use Rattle.flight_laws.specs.Laws.{flies, with_held, with_ended, with_refused}
use Rattle.flight_laws.specs.Taking.{written, ended_by, closed_by, TakesFirst, StepsAreTaken, StepsWait}
use Rattle.flight_laws.proofs.Taking.{delay-taken, grants-taken}
use Rattle.flight_laws.proofs.TakingPushes.{pushes-taken}
use Rattle.flight_laws.proofs.Refusals.{refusals-taken}
use Rattle.flight_laws.proofs.Accepting.{accepts-held, accepts-ended}
use Rattle.flight_laws.proofs.FirstFits.{first-fits}

-- ---- octets

-- behind the last of three lists
behind-last : (a b c d : List ℕ) → a ++ (b ++ (c ++ d)) ≡ (a ++ (b ++ c)) ++ d
behind-last a b c d = ap (λ x. a ++ x) (sym (append_assoc b c d)) ∙ sym (append_assoc a (b ++ c) d)

-- more messages are more octets at the end
pub grows-up : (input wire output later : List ℕ) (ups more : List ClientMessage) → later ≡ output ++ written more → input ++ (wire ++ output) ≡ written ups → input ++ (wire ++ later) ≡ written (ups ++ more)
grows-up input wire output later ups more is up =
    ap (λ x. input ++ (wire ++ x)) is ∙ behind-last input wire output (written more) ∙ ap (λ x. x ++ written more) up ∙ sym (flat_map-append (λ m. frame (message_octets m)) ups more)

-- a whole message is some octets
never-none : (input more whole rest : List ℕ) → input ++ more ≡ [] → first_message input ≡ Some (whole, rest) → ⊥
never-none [] more whole rest none there = absurd cc
never-none (o ∷ input) more whole rest none there = absurd cc

-- ---- the client behind a message

module _ (hub : Hub) (told : List (ℕ × ℕ)) (session : Session) (client : Client) (c : Connection) (up_wire down_wire : List ℕ) (before : IsUnderWay hub told session client c up_wire down_wire) where
  abbrev ends : BothEnds
  ends = ends_of hub told session client c

  module _ (f : Flying) (fs : List Flying) (comes : before.flying ≡ f ∷ fs) (rest : List ℕ) (down : rest ++ (down_wire ++ session.output) ≡ flying_octets hub.timers fs) where
    abbrev taken_now : List Made
    taken_now = before.taken ++ made_of hub.timers f ∷ []

    made-now : session.made ≡ taken_now ++ map (made_of hub.timers) fs
    made-now = before.made ∙ ap (λ l. before.taken ++ map (made_of hub.timers) l) comes ∙ sym (append_assoc before.taken (made_of hub.timers f ∷ []) (map (made_of hub.timers) fs))

    behind : (answer : Step) (wishes : List Wish) (d : Connection) (more : List ClientMessage) → StepIs client answer wishes d → d.input ≡ rest → more ≡ ended_by client f.says → d.output ≡ c.output ++ written more
        → d.closed ≡ closed_by f.says → (is_delay f.says ≡ true → is_open session.standing ≡ false)
        → FitsTogether (ends_of hub told session (record client { wishes = wishes; connection = Some d }) d) taken_now fs (before.ups ++ more)
        → TakesFirst hub told session client c up_wire down_wire before (step client).1
    behind answer wishes d more is input asked output closed stopped fit =
        let later : Client = record client { wishes = wishes; connection = Some d } in
        subst (λ (r : Step × Client). TakesFirst hub told session client c up_wire down_wire before r.1) (sym is) (record {
          first = f;
          others = fs;
          comes = comes;
          connection = d;
          there = refl;
          after = record {
            taken = taken_now;
            flying = fs;
            ups = before.ups ++ more;
            made = made-now;
            whole_down = ap (λ x. x ++ (down_wire ++ session.output)) input ∙ down;
            whole_up = λ goes_on. grows-up session.input up_wire c.output d.output before.ups more output (before.whole_up goes_on);
            fit = fit;
          };
          taken = refl;
          flying = refl;
          ups = ap (λ l. before.ups ++ l) asked;
          output = output ∙ ap (λ l. c.output ++ written l) asked;
          closed = closed;
          stopped = stopped;
        })

    -- nothing is written
    silent : (answer : Step) (wishes : List Wish) (d : Connection) → StepIs client answer wishes d → d.input ≡ rest → [] ≡ ended_by client f.says → d.output ≡ c.output
        → d.closed ≡ closed_by f.says → (is_delay f.says ≡ true → is_open session.standing ≡ false)
        → FitsTogether (ends_of hub told session (record client { wishes = wishes; connection = Some d }) d) taken_now fs before.ups
        → TakesFirst hub told session client c up_wire down_wire before (step client).1
    silent answer wishes d is input asked output closed stopped fit =
        behind answer wishes d [] is input asked (output ∙ sym (append-nil c.output)) closed stopped
        (subst (λ ups. FitsTogether (ends_of hub told session (record client { wishes = wishes; connection = Some d }) d) taken_now fs ups) (sym (append-nil before.ups)) fit)

  -- ---- by kinds

  isn't-delay : {A : Type 0} → false ≡ true → A
  isn't-delay h = absurd (true≢false (sym h))

  module _ (unclosed : c.closed ≡ None) (rest : List ℕ) (note : Note) (subscribed : List Subscription) (fs : List Flying) (down : rest ++ (down_wire ++ session.output) ≡ flying_octets hub.timers fs) where
    abbrev Taken : ServerMessage → Type 0
    Taken says = before.flying ≡ flies says note subscribed ∷ fs → FitsTogether ends before.taken (flies says note subscribed ∷ fs) before.ups → IsTaken hub.timers says client c rest
        → TakesFirst hub told session client c up_wire down_wire before (step client).1

    delay-behind : (rcode delay : ℕ) → Taken (delays rcode delay)
    delay-behind rcode delay comes fit is =
        silent (flies (delays rcode delay) note subscribed) fs comes rest down _ client.wishes _ is refl refl refl refl (λ h. stopped (is_open session.standing) fit.up)
        (delay-taken ends before.taken fs before.ups rcode delay note subscribed fit)
      where
        stopped : (b : Bool) → (IsTrue b → Upward ends (flies (delays rcode delay) note subscribed ∷ fs) before.ups) → b ≡ false
        stopped true up = absurd (true≢false (sym (up refl).no_delay.0))
        stopped false up = refl

    grant-behind : (id : ℕ) → Taken (grants id)
    grant-behind id comes fit is =
        silent (flies (grants id) note subscribed) fs comes rest down _ client.wishes _ is refl refl refl unclosed isn't-delay
        (grants-taken ends before.taken fs before.ups id note subscribed fit).1

    push-behind : (notices : List Notice) → Taken (tells notices)
    push-behind notices comes fit is =
        silent (flies (tells notices) note subscribed) fs comes rest down _ _ _ is refl refl refl unclosed isn't-delay
        (pushes-taken ends before.taken fs before.ups notices note subscribed fit)

    -- with the refusal, where its wish is wanted, and where it isn't
    abbrev as_wanted : Wish → Bool → BothEnds
    as_wanted wish b = record ends { wishes = if b then map (stood_wish wish.question (refused notauth)) client.wishes else without_wish wish.question client.wishes }

    abbrev refusal : ℕ → Flying
    refusal id = flies (refuses id) note subscribed

    abbrev answer : ℕ → Flying
    answer id = flies (accepts id) note subscribed

    -- behind an answer the client is established
    abbrev established : Connection
    established = record (behind_first false client.now rest c) { established = true }

    refusal-behind : (id : ℕ) → Taken (refuses id)
    refusal-behind id comes fit is =
        let one = refusals-taken ends before.taken fs before.ups id note subscribed fit in by one.0 (is one.0 one.1) one.2 one.0.wanted refl
      where
        by : (wish : Wish)
            → ((wish.wanted ≡ true → StepIs client (steps.Answered id notauth) (map (stood_wish wish.question (refused notauth)) client.wishes) (behind_first false client.now rest c))
            × (wish.wanted ≡ false → StepIs client (steps.Answered id notauth) (without_wish wish.question client.wishes) (behind_first false client.now rest c)))
            → FitsTogether (with_refused wish ends) (before.taken ++ made_of hub.timers (refusal id) ∷ []) fs before.ups → (b : Bool) → wish.wanted ≡ b → TakesFirst hub told session client c up_wire down_wire before (step client).1
        by wish step_is fit true wanted = silent (refusal id) fs comes rest down _ _ _ (step_is.0 wanted) refl refl refl unclosed isn't-delay
            (subst (λ b. FitsTogether (as_wanted wish b) (before.taken ++ made_of hub.timers (refusal id) ∷ []) fs before.ups) wanted fit)
        by wish step_is fit false wanted = silent (refusal id) fs comes rest down _ _ _ (step_is.1 wanted) refl refl refl unclosed isn't-delay
            (subst (λ b. FitsTogether (as_wanted wish b) (before.taken ++ made_of hub.timers (refusal id) ∷ []) fs before.ups) wanted fit)

    -- what the answer asks for, by the wish that waits for it
    abbrev asks_for : ℕ → Option Wish → List ClientMessage
    asks_for id o = elim o as (λ _. List ClientMessage) [ None ↦ [] | Some wish ↦ if wish.wanted then [] else unsubscribes id ∷ [] ]

    asked-for : (id : ℕ) (wish : Wish) (b : Bool) → request_of client id ≡ Some wish → wish.wanted ≡ b → (if b then [] else unsubscribes id ∷ []) ≡ ended_by client (accepts id)
    asked-for id wish b found wanted = ap (λ t. if t then [] else unsubscribes id ∷ []) (sym wanted) ∙ ap (asks_for id) (sym found)

    answer-behind : (id : ℕ) → IsDistinct (λ s t. s.id == t.id) session.subscriptions → Taken (accepts id)
    answer-behind id different comes fit is =
        let held = accepts-held ends before.taken fs before.ups id note subscribed different fit in
        let ended = accepts-ended ends before.taken fs before.ups id note subscribed different fit in
        by held.0 held.1 (is held.0 held.1) held.2
        (subst (λ w. FitsTogether (with_ended w ends) (before.taken ++ made_of hub.timers (answer id) ∷ []) fs (before.ups ++ unsubscribes id ∷ [])) (some_is ended.0 held.0 (sym ended.1 ∙ held.1)) ended.2) held.0.wanted refl
      where
        by : (wish : Wish) → request_of client id ≡ Some wish
            → ((wish.wanted ≡ true → StepIs client (steps.Answered id noerror) (map (stood_wish wish.question (answered id)) client.wishes) established)
            × (wish.wanted ≡ false → StepIs client (steps.Answered id noerror) (without_wish wish.question client.wishes) (writes false client.now (unsubscribe_message id) established)))
            → FitsTogether (with_held wish id ends) (before.taken ++ made_of hub.timers (answer id) ∷ []) fs before.ups
            → FitsTogether (with_ended wish ends) (before.taken ++ made_of hub.timers (answer id) ∷ []) fs (before.ups ++ unsubscribes id ∷ [])
            → (b : Bool) → wish.wanted ≡ b → TakesFirst hub told session client c up_wire down_wire before (step client).1
        by wish found step_is held ended true wanted = silent (answer id) fs comes rest down _ _ _ (step_is.0 wanted) refl (asked-for id wish true found wanted) refl unclosed isn't-delay held
        by wish found step_is held ended false wanted = behind (answer id) fs comes rest down _ _ _ (unsubscribes id ∷ []) (step_is.1 wanted) refl (asked-for id wish false found wanted)
            (ap (λ l. c.output ++ l) (sym (append-nil (frame (unsubscribe_message id))))) unclosed isn't-delay ended

    by-kind : IsDistinct (λ s t. s.id == t.id) session.subscriptions → (says : ServerMessage) → Taken says
    by-kind different (accepts id) = answer-behind id different
    by-kind different (refuses id) = refusal-behind id
    by-kind different (grants id) = grant-behind id
    by-kind different (tells notices) = push-behind notices
    by-kind different (delays rcode delay) = delay-behind rcode delay

-- ---- the first message

pub steps-taken : StepsAreTaken
steps-taken hub told session client c up_wire down_wire whole rest different there first before = by before.flying refl
  where
    by : (flying : List Flying) → before.flying ≡ flying → TakesFirst hub told session client c up_wire down_wire before (step client).1
    by [] is = absurd (never-none c.input (down_wire ++ session.output) whole rest (before.whole_down ∙ ap (flying_octets hub.timers) is) first)
    by (f ∷ fs) is =
        let fit = subst (λ l. FitsTogether (ends_of hub told session client c) before.taken l before.ups) is before.fit in
        let readable = fit.down.readable.0 in
        let meets = meets-the-first hub.timers f.says client c whole rest (down_wire ++ session.output) (flying_octets hub.timers fs) there first (before.whole_down ∙ ap (flying_octets hub.timers) is) readable.0 readable.1 in
        let fits = first-fits hub told session client c before.taken f fs before.ups fit in
        by-kind hub told session client c up_wire down_wire before (is-at client c there).unclosed rest f.note f.subscribed fs meets.1 different f.says is fit
        (takes-what-fits hub.timers f.says client c rest meets.0 fits)

pub steps-wait : StepsWait
steps-wait client c there none =
    let is = is-at client c there in
    ap (λ (x : Client). (step x).1) is.same ∙ ap (λ (o : Option CloseReason). (by_closed o).1) is.unclosed ∙ ap (λ (o : Option (List ℕ × List ℕ)). (by_first o).1) none ∙ sym is.same
  where
    here : Client
    here = record { wishes = client.wishes; connection = Some c; now = client.now }

    by_first : Option (List ℕ × List ℕ) → Step × Client
    by_first o = elim o [ None ↦ (steps.Waiting, here) | Some found ↦ reacted found.0 c (with_connection (record c { input = found.1 }) here) ]

    by_closed : Option CloseReason → Step × Client
    by_closed o = elim o [ Some reason ↦ (steps.Closed reason, here) | None ↦ by_first (first_message c.input) ]
