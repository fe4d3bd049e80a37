-- What is left to a session to do, whatever its messages say, falls in each call of `give` that hands octets out or reacts to one.
--     work_of s      what is left
--     Gave before later given      what a call leaves, by its answer
--     gave-on      so it is of each call
--     work-is-little      it is less than 2^64 between two exchanges
use Rattle.std.proofs.Common.{◌≡◌, ℕ, ◌+◌, ◌*◌, ◌<◌, ◌≤◌, Bool, true, false, List, [], ◌∷◌, ◌++◌, length, min, Option, Some, None, refl, sym, ◌∙◌, ap, subst, arith, suc, ◌-◌, drop, length-append, length-drop}
use Rattle.std.specs.Prelude.{if◌then◌else◌}
use Rattle.push_base.specs.Cases.{is_empty}
use Rattle.dsotlv.specs.Answers.{push_message, stop_message}
use Rattle.dsotlv.specs.Messages.{frame, first_message}
use Rattle.dsotlv.specs.declared.message.Notice.{Notice}
use Rattle.dsosession.specs.declared.session.EndReason.TheVariants as ends
use Rattle.pushsession.specs.Sessions.{copied, stopped, says_stop, ended_with, without_first}
use Rattle.pushsession.specs.Subscribing.{with_next_push, says_notices}
use Rattle.pushsession.specs.declared.session_status.SessionStatus.{SessionStatus}
use Rattle.pushsession.specs.declared.session_status.SessionStatus.TheVariants.{Live, AskedToStop, Stopped, Ended}
use Rattle.pushserver.specs.declared.given.Given.{Given}
use Rattle.pushserver.specs.declared.given.Given.TheVariants.{Bytes, Worked, Nothing, Ending, End}
use Rattle.pushserver.specs.PlainHubs.{Hub, Session, Queue, Giving}
use Rattle.pushserver.specs.Hubs.{now, keeps_now, tells_now, session_of, in_session}
use Rattle.pushserver.specs.Giving.{did, copies_or, given_after, by_standing, give, reacted}
use Rattle.pushserver.specs.SoundHubs.{IsSoundHub}
use Rattle.pushserver.specs.Calls.{gives}
use Rattle.pushserver.proofs.hub_steps.Cases.{copies_as, found_as, works_as, output_as, give_as}
use Rattle.script_laws.specs.Reached.{IsReached}
use Rattle.script_laws.specs.Turns.{asked_stops}
use Rattle.script_laws.specs.EachMessage.{effect_of}
use Rattle.script_laws.proofs.hubs.Reaching.{reached-go-on}
use Rattle.script_laws.proofs.hubs.Sound.{reached-sound}
use Rattle.script_laws.proofs.emits.Giving.{gives-short}
use Rattle.script_laws.proofs.sizes.Queues.{queues-are-short}
use Rattle.script_laws.proofs.turns.Giving.{sound-session}
use Rattle.script_laws.proofs.turns.Packing.{packs-no-more, packs-fewer}
use Rattle.script_laws.proofs.turns.Shorter.{rest-shorter}
use Rattle.script_laws.proofs.calls.EachTurn.{Says, says-reacted, Hands, hands-on, in-found}

-- ---- what is left to do

-- each octet that came may make as many names wait as there may be, and have a frame written
abbrev pub octet_cost : ℕ
octet_cost = 131075 * 1026

abbrev pub work_of : Session → ℕ
work_of session = 2 * length session.output + 131075 * (length session.queue + asked_stops session.standing) + octet_cost * length session.input

-- what is so of a session that has nothing to hand out, by the answer
abbrev pub AnswersSo : ℕ → Session → Given → Type 0
AnswersSo before s (Bytes n) = ⊥
AnswersSo before s Worked = work_of s < before
AnswersSo before s Nothing = (s.standing ≡ Live) × (first_message s.input ≡ None)
AnswersSo before s Ending = (since : ℕ) × (s.standing ≡ Stopped since)
AnswersSo before s (End reason) = s.standing ≡ Ended reason

abbrev pub Gave : ℕ → Session → Given → Type 0
Gave before later (Bytes n) = work_of later + n < before
Gave before later Worked = work_of later < before
Gave before later Nothing = (later.output ≡ []) × AnswersSo before later Nothing
Gave before later Ending = (later.output ≡ []) × AnswersSo before later Ending
Gave before later (End reason) = (later.output ≡ []) × AnswersSo before later (End reason)

pub record GaveOn (g : Giving) (number before : ℕ) : Type 0 where
  pub later : Session
  pub there : session_of g.hub number ≡ Some later
  pub gave : Gave before later g.given

-- ---- each call hands on what one session has to say

-- bounds of each session that a call leaves
pub record IsBound (s : Session) : Type 0 where
  pub output : length s.output ≤ 65537
  pub queue : length s.queue ≤ 1024

record Comes (hub : Hub) (number before : ℕ) : Type 0 where
  pub given : Given
  pub s : Session
  pub h : Hub
  pub there : session_of h number ≡ Some s
  pub is : (room : ℕ) → give hub number room ≡ copies_or given number room s h
  pub less : IsBound s → work_of s ≤ before
  pub answers : IsBound s → s.output ≡ [] → AnswersSo before s given

asked-few : (standing : SessionStatus) → asked_stops standing ≤ 1
asked-few Live = omega arith
asked-few (AskedToStop rcode delay) = omega arith
asked-few (Stopped since) = omega arith
asked-few (Ended reason) = omega arith

-- a session behind a reaction, or a stop
after-so : (before : ℕ) (s : Session) → work_of s < before → AnswersSo before s (given_after s.standing)
after-so before s less = by s.standing refl
  where
    by : (standing : SessionStatus) → s.standing ≡ standing → AnswersSo before s (given_after standing)
    by Live is = less
    by (AskedToStop rcode delay) is = less
    by (Stopped since) is = less
    by (Ended reason) is = is

lt-le : {a b : ℕ} → a < b → a ≤ b
lt-le less = omega arith

module _ (hub : Hub) (number : ℕ) (session : Session) (there : session_of hub number ≡ Some session) (sound : IsSoundHub hub) where
  abbrev before : ℕ
  before = work_of session

  -- what waits to go
  waits : (o : ℕ) (os : List ℕ) → session.output ≡ o ∷ os → Comes hub number before
  waits o os some = record {
    given = Worked;
    s = session;
    h = hub;
    there = there;
    is = λ room. ap (give_as hub number room) there ∙ ap (λ (l : List ℕ). output_as hub number room session (is_empty l)) some ∙ sym (ap (λ (l : List ℕ). copies_as hub number room session Worked (is_empty l)) some);
    less = λ b. omega arith;
    answers = λ b none. let never : [] ≡ o ∷ os = sym none ∙ some in absurd cc;
  }

  module _ (silent : session.output ≡ []) where
    reaches : (standing : SessionStatus) → session.standing ≡ standing → (room : ℕ) → give hub number room ≡ by_standing standing number room session hub
    reaches standing is room =
        ap (give_as hub number room) there ∙ ap (λ (l : List ℕ). output_as hub number room session (is_empty l)) silent ∙ ap (λ (st : SessionStatus). by_standing st number room session hub) is

    -- nothing is done
    rests : (standing : SessionStatus) (given : Given) → session.standing ≡ standing → ((room : ℕ) → by_standing standing number room session hub ≡ did given hub) → AnswersSo before session given → Comes hub number before
    rests standing given is same so = record {
      given = given;
      s = session;
      h = hub;
      there = there;
      is = λ room. reaches standing is room ∙ same room ∙ sym (ap (λ (l : List ℕ). copies_as hub number room session given (is_empty l)) silent);
      less = λ b. omega arith;
      answers = λ b none. so;
    }

    -- a stop
    module _ (rcode delay : ℕ) (asked : session.standing ≡ AskedToStop rcode delay) where
      abbrev stopping : Session → Session
      stopping = stopped (keeps_now hub) rcode delay (now hub)

      stop-there : session_of (in_session number stopping hub) number ≡ Some (stopping session)
      stop-there = in-found number hub stopping session there

      stop-less : IsBound (stopping session) → work_of (stopping session) < before
      stop-less bound = by session.established bound.output
        where
          costs : (out own i q a : ℕ) → out ≤ 65537 → a ≡ 1 → 2 * out + 131075 * (0 + 0) + 134482950 * i < 2 * own + 131075 * (q + a) + 134482950 * i
          costs out own i q a fits is = omega (arith, fits, is)

          by : (b : Bool) → let s : Session = if b then says_stop (keeps_now hub) rcode delay (now hub) session else ended_with (keeps_now hub) ends.Stopped session in length s.output ≤ 65537 → work_of s < before
          by true fits = costs (length (session.output ++ frame (stop_message rcode delay))) (length session.output) (length session.input) (length session.queue) (asked_stops session.standing) fits (ap asked_stops asked)
          by false fits = costs (length session.output) (length session.output) (length session.input) (length session.queue) (asked_stops session.standing) fits (ap asked_stops asked)

      stops : Comes hub number before
      stops = record {
        given = given_after (stopping session).standing;
        s = stopping session;
        h = in_session number stopping hub;
        there = stop-there;
        is = λ room. reaches (AskedToStop rcode delay) asked room ∙ ap (found_as (in_session number stopping hub) number room Worked given_after) stop-there;
        less = λ bound. lt-le (stop-less bound);
        answers = λ bound none. after-so before (stopping session) (stop-less bound);
      }

    -- names that wait
    module _ (live : session.standing ≡ Live) where
      abbrev packing : Session → Session
      packing = with_next_push (keeps_now hub) (tells_now hub) (now hub)

      abbrev packed_hub : Hub
      packed_hub = in_session number packing hub

      pack-there : session_of packed_hub number ≡ Some (packing session)
      pack-there = in-found number hub packing session there

      abbrev pack : List Notice × Queue
      pack = (tells_now hub).packed session.subscriptions session.queue

      record Packs (s : Session) : Type 0 where
        pub less : length s.output ≤ 65537 → work_of s ≤ before
        pub standing : s.standing ≡ session.standing
        pub input : s.input ≡ session.input

      packs-so : Packs (packing session)
      packs-so = by pack.0 refl
        where
          same : (out q r a i : ℕ) → q ≤ r → 2 * out + 131075 * (q + a) + 134482950 * i ≤ 2 * out + 131075 * (r + a) + 134482950 * i
          same out q r a i short = omega (arith, short)

          fewer : (out own q r a i : ℕ) → out ≤ 65537 → q < r → 2 * out + 131075 * (q + a) + 134482950 * i ≤ 2 * own + 131075 * (r + a) + 134482950 * i
          fewer out own q r a i fits short = omega (arith, fits, short)

          by : (notices : List Notice) → pack.0 ≡ notices → Packs (says_notices (keeps_now hub) (now hub) notices (record session { queue = pack.1 }))
          by [] none = record {
            less = λ fits. same (length session.output) (length pack.1) (length session.queue) (asked_stops session.standing) (length session.input) (packs-no-more hub session.subscriptions session.queue);
            standing = refl;
            input = refl;
          }
          by (n ∷ ns) some = record {
            less = λ fits. fewer (length (session.output ++ frame (push_message (n ∷ ns)))) (length session.output) (length pack.1) (length session.queue) (asked_stops session.standing) (length session.input) fits
                (packs-fewer hub session.subscriptions session.queue (sound-session hub number session sound there).1.names n ns some);
            standing = refl;
            input = refl;
          }

      packs-names : first_message session.input ≡ None → Comes hub number before
      packs-names none = record {
        given = Nothing;
        s = packing session;
        h = packed_hub;
        there = pack-there;
        is = λ room. reaches Live live room ∙ ap (works_as hub number room) none ∙ ap (found_as packed_hub number room Nothing (λ _. Nothing)) pack-there;
        less = λ bound. packs-so.less bound.output;
        answers = λ bound silent. (packs-so.standing ∙ live, ap first_message packs-so.input ∙ none);
      }

      -- a message
      module _ (found : List ℕ × List ℕ) (first : first_message session.input ≡ Some found) where
        abbrev taken : Hub
        taken = in_session number (without_first found.1) hub

        abbrev behind : Hub
        behind = reacted found.0 number taken

        said : Says number behind (without_first found.1 session) (effect_of taken (without_first found.1 session) found.0)
        said = says-reacted number taken (without_first found.1 session) found.0 (in-found number hub (without_first found.1) session there)

        reacts-less : IsBound said.after → work_of said.after < before
        reacts-less bound =
            costs (length said.after.output) (length session.output) (length said.after.queue) (length session.queue) (asked_stops said.after.standing) (asked_stops session.standing) (length said.after.input) (length session.input)
            bound.output bound.queue (asked-few said.after.standing) (subst (λ (os : List ℕ). length os < length session.input) (sym said.left.input) (rest-shorter session.input found.0 found.1 first))
          where
            costs : (out own q r a b i j : ℕ) → out ≤ 65537 → q ≤ 1024 → a ≤ 1 → i < j → 2 * out + 131075 * (q + a) + 134482950 * i < 2 * own + 131075 * (r + b) + 134482950 * j
            costs out own q r a b i j fits few once short = omega (arith, fits, few, once, short)

        reacts : Comes hub number before
        reacts = record {
          given = given_after said.after.standing;
          s = said.after;
          h = behind;
          there = said.there;
          is = λ room. reaches Live live room ∙ ap (works_as hub number room) first ∙ ap (found_as behind number room Worked given_after) said.there;
          less = λ bound. lt-le (reacts-less bound);
          answers = λ bound none. after-so before said.after (reacts-less bound);
        }

  comes : Comes hub number before
  comes = by session.output refl
    where
      by_first : session.output ≡ [] → session.standing ≡ Live → (o : Option (List ℕ × List ℕ)) → first_message session.input ≡ o → Comes hub number before
      by_first silent live None first = packs-names silent live first
      by_first silent live (Some found) first = reacts silent live found first

      by_kind : session.output ≡ [] → (standing : SessionStatus) → session.standing ≡ standing → Comes hub number before
      by_kind silent Live is = by_first silent is (first_message session.input) refl
      by_kind silent (AskedToStop rcode delay) is = stops silent rcode delay is
      by_kind silent (Stopped since) is = rests silent (Stopped since) Ending is (λ room. refl) (since, is)
      by_kind silent (Ended reason) is = rests silent (Ended reason) (End reason) is (λ room. refl) is

      by : (output : List ℕ) → session.output ≡ output → Comes hub number before
      by [] silent = by_kind silent session.standing refl
      by (o ∷ os) some = waits o os some

-- ---- bounds

queue-bound : (hub : Hub) (number : ℕ) (session : Session) → IsReached hub → session_of hub number ≡ Some session → length session.queue ≤ 1024
queue-bound hub number session reached there = queues-are-short hub number session reached there

module _ (hub : Hub) (number : ℕ) (reached : IsReached hub) (before : ℕ) (c : Comes hub number before) where
  reached-behind : (room : ℕ) → IsReached (give hub number room).hub
  reached-behind room = reached-go-on hub (gives number room ∷ []) reached ((tt, tt), tt)

  hands : (room : ℕ) → Hands number c.s (give hub number room)
  hands room = subst (Hands number c.s) (sym (c.is room)) (hands-on number room c.given c.h c.s c.there)

  bound : IsBound c.s
  bound =
      let h = hands 0 in
      let later : Hub = (give hub number 0).hub in
      let fits = (sound-session later number h.after (reached-sound later (reached-behind 0)) h.there).1.output_fits in
      record {
        output = none-out (length h.after.output) (length (give hub number 0).octets) (length c.s.output) (sym (length-append (give hub number 0).octets h.after.output) ∙ ap length h.octets) (gives-short hub number 0) fits;
        queue = subst (λ (q : Queue). length q ≤ 1024) h.queue (queue-bound later number h.after (reached-behind 0) h.there);
      }
    where
      none-out : (left front whole : ℕ) → front + left ≡ whole → front ≤ 0 → left ≤ 65537 → whole ≤ 65537
      none-out left front whole is none fits = omega (arith, is, none, fits)

  -- with room for an octet
  gave-by : (room : ℕ) → 0 < room → GaveOn (give hub number room) number before
  gave-by room some = subst (λ (g : Giving). GaveOn g number before) (sym (c.is room)) (by c.s.output refl)
    where
      none-given : (given : Given) → AnswersSo before c.s given → c.s.output ≡ [] → Gave before c.s given
      none-given (Bytes n) so none = absurd so
      none-given Worked so none = so
      none-given Nothing so none = (none, so)
      none-given Ending so none = (none, so)
      none-given (End reason) so none = (none, so)

      handed : (left front whole room q b i limit : ℕ) → front + left ≡ whole → front ≡ min room whole → 0 < room → 0 < whole → 2 * whole + 131075 * (q + b) + 134482950 * i ≤ limit
          → 2 * left + 131075 * (q + b) + 134482950 * i + front < limit
      handed left front whole room q b i limit is are some more less = omega (arith, is, are, some, more, less)

      by : (output : List ℕ) → c.s.output ≡ output → GaveOn (copies_or c.given number room c.s c.h) number before
      by [] none = subst (λ (g : Giving). GaveOn g number before) (sym (ap (λ (l : List ℕ). copies_as c.h number room c.s c.given (is_empty l)) none))
          (record { later = c.s; there = c.there; gave = none-given c.given (c.answers bound none) none })
      by (o ∷ os) more = subst (λ (g : Giving). GaveOn g number before) (sym (ap (λ (l : List ℕ). copies_as c.h number room c.s c.given (is_empty l)) more)) (
          record {
            later = copied room c.s;
            there = in-found number c.h (copied room) c.s c.there;
            gave = handed (length (drop room c.s.output)) (min room (length c.s.output)) (length c.s.output) room (length c.s.queue) (asked_stops c.s.standing) (length c.s.input) before
                (both room (length c.s.output) (length (drop room c.s.output)) (length-drop room c.s.output)) refl some (positive (length c.s.output) (length os) (ap length more)) (c.less bound);
          }
          )
        where
          both : (room whole left : ℕ) → left ≡ whole - room → min room whole + left ≡ whole
          both room whole left is = omega (arith, is)

          positive : (n m : ℕ) → n ≡ suc m → 0 < n
          positive n m is = omega (arith, is)

pub gave-on : (hub : Hub) (number room : ℕ) (session : Session) → IsReached hub → session_of hub number ≡ Some session → 0 < room → GaveOn (give hub number room) number (work_of session)
gave-on hub number room session reached there some = gave-by hub number reached (work_of session) (comes hub number session there (reached-sound hub reached)) room some

-- ---- between two exchanges

pub work-is-little : (hub : Hub) (number : ℕ) (session : Session) → IsReached hub → session_of hub number ≡ Some session → session.output ≡ [] → work_of session < 1000000000000000000
work-is-little hub number session reached there silent =
    little (length session.output) (length session.queue) (asked_stops session.standing) (length session.input) (ap length silent) (queue-bound hub number session reached there) (asked-few session.standing)
    (sound-session hub number session (reached-sound hub reached) there).1.input_fits
  where
    little : (out q a i : ℕ) → out ≡ 0 → q ≤ 1024 → a ≤ 1 → i ≤ 69633 → 2 * out + 131075 * (q + a) + 134482950 * i < 1000000000000000000
    little out q a i none few once fits = omega (arith, none, few, once, fits)
