-- What a client owes: it falls as octets leave it, and no step makes it greater.
--     owes-at      with a connection
--     takes-owe, gives-owe      octets come in, and leave
--     step-owes      a message is taken
use Rattle.std.proofs.Common.{◌≡◌, ℕ, ◌+◌, ◌*◌, ◌<◌, ◌≤◌, Bool, true, false, cond, not, List, [], ◌∷◌, ◌++◌, map, length, drop, Option, Some, None, refl, sym, ◌∙◌, ap, subst, arith, take, ◌-◌}
use Rattle.std.specs.Prelude.{option_map}
use Rattle.std.proofs.lemmas.List.{length-append, length-drop, length-map}
use Rattle.rrset.specs.Records.{same_question}
use Rattle.rrset.specs.Rcodes.{noerror, notauth}
use Rattle.dsotlv.specs.Messages.{frame, first_message}
use Rattle.dsotlv.specs.declared.message.Notice.{Notice}
use Rattle.dsosession.specs.declared.session.Timers.{Timers}
use Rattle.pushserver.specs.PlainHubs.{Session, Hub}
use Rattle.pushclient.specs.declared.client.Step.{Step}
use Rattle.pushclient.specs.declared.client.Step.TheVariants as steps
use Rattle.pushclient.specs.Clients.{Client, Connection, Wish, RequestState, refused, answered, room_of, take_octets, give_octets, without_wish, unsubscribe_message, writes}
use Rattle.pushclient.specs.FittingMessages.{Fits, IsTaken, StepIs, behind_first}
use Rattle.pushclient.specs.Rule.{stood_wish}
use Rattle.pushclient.specs.ServerMessages.{ServerMessage, accepts, refuses, grants, tells, delays}
use Rattle.pushclient.specs.Steps.{step, request_of, is_unanswered, is_answered}
use Rattle.pushclient.proofs.Fitting.{meets-the-first, takes-what-fits}
use Rattle.pushclient.proofs.SoundWishes.{question_itself}
use Rattle.inflight.specs.Messages.{Flying, flying_octets}
use Rattle.inflight.specs.Ends.{ends_of}
use Rattle.inflight.specs.Flight.{FitsTogether, IsUnderWay}
use Rattle.flight_laws.proofs.FirstFits.{first-fits}
use Rattle.flight_laws.proofs.Opening.{still-open}
use Rattle.script_laws.specs.Turns.{owes}
use Rattle.script_laws.proofs.turns.Shorter.{filter-short, filter-less}

-- ---- octets come and go

abbrev output_in : Option Connection → List ℕ
output_in o = elim o as (λ _. List ℕ) [ None ↦ [] | Some d ↦ d.output ]

pub owes-at : (client : Client) (c : Connection) → client.connection ≡ Some c → owes client ≡ length c.output + 20 * length client.wishes
owes-at client c there = ap (λ (o : Option Connection). length (output_in o) + 20 * length client.wishes) there

pub takes-owe : (piece : List ℕ) (client : Client) → owes (take_octets piece client) ≡ owes client
takes-owe piece client = by client.connection
  where
    by : (o : Option Connection) → length (output_in (option_map (λ (c : Connection). record c { input = c.input ++ take (room_of client) piece }) o)) + 20 * length client.wishes ≡ length (output_in o) + 20 * length client.wishes
    by None = refl
    by (Some c) = refl

pub gives-owe : (n : ℕ) (client : Client) (c : Connection) → client.connection ≡ Some c → n ≤ length c.output → owes (give_octets n client) + n ≡ owes client
gives-owe n client c there within =
    let later : length (output_in (option_map (λ (d : Connection). record d { output = drop n d.output }) client.connection)) ≡ length (drop n c.output) =
    ap (λ (o : Option Connection). length (output_in (option_map (λ (d : Connection). record d { output = drop n d.output }) o))) there in
    sums (length (drop n c.output)) n (length c.output) (length client.wishes) (owes (give_octets n client)) (owes client) (length-drop n c.output) within
    (ap (λ m. m + 20 * length client.wishes) later) (owes-at client c there)
  where
    sums : (left n whole wishes later before : ℕ) → left ≡ whole - n → n ≤ whole → later ≡ left + 20 * wishes → before ≡ whole + 20 * wishes → later + n ≡ before
    sums left n whole wishes later before is within e f = omega (arith, is, within, e, f)

-- ---- a message is taken

-- a whole message is some octets
never-none : (input more whole rest : List ℕ) → input ++ more ≡ [] → first_message input ≡ Some (whole, rest) → ⊥
never-none [] more whole rest none there = absurd cc
never-none (o ∷ input) more whole rest none there = absurd cc

unsubscribe-size : (id : ℕ) → length (frame (unsubscribe_message id)) ≡ 20
unsubscribe-size id = refl

module _ (client : Client) (c : Connection) (rest : List ℕ) (there : client.connection ≡ Some c) where
  abbrev Owes : Client → Type 0
  Owes later = owes later ≤ owes client

  owes-as : (answer : Step) (wishes : List Wish) (d : Connection) → StepIs client answer wishes d → length d.output + 20 * length wishes ≤ length c.output + 20 * length client.wishes → Owes (step client).1
  owes-as answer wishes d is less =
      subst (λ (r : Step × Client). Owes r.1) (sym is) (subst (λ n. length d.output + 20 * length wishes ≤ n) (sym (owes-at client c there)) less)

  -- the same wishes, otherwise or fewer of them, and nothing written
  as-many : (answer : Step) (wishes : List Wish) (d : Connection) → StepIs client answer wishes d → d.output ≡ c.output → length wishes ≤ length client.wishes → Owes (step client).1
  as-many answer wishes d is same few = owes-as answer wishes d is (sums (length d.output) (length c.output) (length wishes) (length client.wishes) (ap length same) few)
    where
      sums : (a b n m : ℕ) → a ≡ b → n ≤ m → a + 20 * n ≤ b + 20 * m
      sums a b n m e h = omega (arith, e, h)

  -- one less, and an UNSUBSCRIBE
  one-less : (answer : Step) (id : ℕ) (wishes : List Wish) (d : Connection) → StepIs client answer wishes d → d.output ≡ c.output ++ frame (unsubscribe_message id) → length wishes < length client.wishes → Owes (step client).1
  one-less answer id wishes d is more few =
      owes-as answer wishes d is (sums (length d.output) (length c.output) (length (frame (unsubscribe_message id))) (length wishes) (length client.wishes)
      (ap length more ∙ length-append c.output (frame (unsubscribe_message id))) (unsubscribe-size id) few)
    where
      sums : (a b k n m : ℕ) → a ≡ b + k → k ≡ 20 → n < m → a + 20 * n ≤ b + 20 * m
      sums a b k n m e size h = omega (arith, e, size, h)

  -- the wish that was found isn't among those without its question
  found-goes : (id : ℕ) (wish : Wish) → request_of client id ≡ Some wish → length (without_wish wish.question client.wishes) < length client.wishes
  found-goes id wish found = filter-less (λ (w : Wish). not (same_question w.question wish.question)) (λ (w : Wish). is_unanswered id w.standing) wish client.wishes found (ap not (question_itself wish.question))

  stood-few : (wish : Wish) (standing : RequestState) → length (map (stood_wish wish.question standing) client.wishes) ≤ length client.wishes
  stood-few wish standing = let same = length-map client.wishes (stood_wish wish.question standing) in omega (arith, same)

  module _ (timers : Timers) where
    answered-owes : (id : ℕ) → Fits timers (accepts id) client c → IsTaken timers (accepts id) client c rest → Owes (step client).1
    answered-owes id fits is = by fits.1 fits.2 (is fits.1 fits.2) fits.1.wanted refl
      where
        established : Connection
        established = record (behind_first false client.now rest c) { established = true }

        by : (wish : Wish) → request_of client id ≡ Some wish
            → ((wish.wanted ≡ true → StepIs client (steps.Answered id noerror) (map (stood_wish wish.question (answered id)) client.wishes) established)
            × (wish.wanted ≡ false → StepIs client (steps.Answered id noerror) (without_wish wish.question client.wishes) (writes false client.now (unsubscribe_message id) established)))
            → (b : Bool) → wish.wanted ≡ b → Owes (step client).1
        by wish found is true wanted = as-many _ _ _ (is.0 wanted) refl (stood-few wish (answered id))
        by wish found is false wanted = one-less _ id _ _ (is.1 wanted) refl (found-goes id wish found)

    refused-owes : (id : ℕ) → Fits timers (refuses id) client c → IsTaken timers (refuses id) client c rest → Owes (step client).1
    refused-owes id fits is = by fits.1 fits.2 (is fits.1 fits.2) fits.1.wanted refl
      where
        by : (wish : Wish) → request_of client id ≡ Some wish
            → ((wish.wanted ≡ true → StepIs client (steps.Answered id notauth) (map (stood_wish wish.question (refused notauth)) client.wishes) (behind_first false client.now rest c))
            × (wish.wanted ≡ false → StepIs client (steps.Answered id notauth) (without_wish wish.question client.wishes) (behind_first false client.now rest c)))
            → (b : Bool) → wish.wanted ≡ b → Owes (step client).1
        by wish found is true wanted = as-many _ _ _ (is.0 wanted) refl (stood-few wish (refused notauth))
        by wish found is false wanted = as-many _ _ _ (is.1 wanted) refl (filter-short (λ (w : Wish). not (same_question w.question wish.question)) client.wishes)

    same-few : (wishes : List Wish) → length wishes ≤ length wishes
    same-few wishes = omega arith

    taken-owes : (says : ServerMessage) → Fits timers says client c → IsTaken timers says client c rest → Owes (step client).1
    taken-owes (accepts id) fits is = answered-owes id fits is
    taken-owes (refuses id) fits is = refused-owes id fits is
    taken-owes (grants id) fits is = as-many _ _ _ is refl (same-few client.wishes)
    taken-owes (tells notices) fits is = as-many _ _ _ is refl (told-few notices)
      where
        told : List Notice → Wish → Wish
        told notices w = cond (is_answered w.standing) (record w { notices = w.notices ++ notices }) w

        told-few : (notices : List Notice) → length (map (told notices) client.wishes) ≤ length client.wishes
        told-few notices = let same = length-map client.wishes (told notices) in omega (arith, same)
    taken-owes (delays rcode delay) fits is = as-many _ _ _ is refl (same-few client.wishes)

-- of what is under way, the first message
pub step-owes : (hub : Hub) (told : List (ℕ × ℕ)) (session : Session) (client : Client) (c : Connection) (up_wire down_wire whole rest : List ℕ) → client.connection ≡ Some c → c.closed ≡ None
    → first_message c.input ≡ Some (whole, rest) → IsUnderWay hub told session client c up_wire down_wire → owes (step client).1 ≤ owes client
step-owes hub told session client c up_wire down_wire whole rest there unclosed first before = by before.flying refl
  where
    by : (flying : List Flying) → before.flying ≡ flying → owes (step client).1 ≤ owes client
    by [] is = absurd (never-none c.input (down_wire ++ session.output) whole rest (before.whole_down ∙ ap (flying_octets hub.timers) is) first)
    by (f ∷ fs) is =
        let fit = subst (λ l. FitsTogether (ends_of hub told session client c) before.taken l before.ups) is before.fit in
        let readable = fit.down.readable.0 in
        let meets = meets-the-first hub.timers f.says client c whole rest (down_wire ++ session.output) (flying_octets hub.timers fs) (still-open client c there unclosed) first
        (before.whole_down ∙ ap (flying_octets hub.timers) is) readable.0 readable.1 in
        let fits = first-fits hub told session client c before.taken f fs before.ups fit in
        taken-owes client c rest there hub.timers f.says fits (takes-what-fits hub.timers f.says client c rest meets.0 fits)
