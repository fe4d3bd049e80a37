-- The client reacts to one message after the other, and says the lines of each.
--     Reacting start messages turns kept messages_now text      so far
--     reacting-begins, reacting-more, reacts-waiting, reacts-closed, reacts-counted, reacts-used_up      its turns and exits
use Rattle.std.proofs.Common.{◌≡◌, ◌⊎◌, ⊎_elim, ℕ, suc, ◌-◌, ◌≤◌, length, arith, Bool, true, false, Option, None, List, [], ◌∷◌, ◌++◌, refl, sym, ◌∙◌, ap, subst, append_assoc, append-nil}
use Rattle.std.specs.Prelude.{codes}
use Rattle.dsotlv.specs.Messages.{messages_in}
use Rattle.dsotlv.proofs.FrameLaws.{Split}
use Rattle.dsotlv.proofs.StreamLaws.{none_found, one_by_one}
use Rattle.pushclient.specs.declared.client.Step.{Step}
use Rattle.pushclient.specs.declared.client.Step.TheVariants as steps
use Rattle.pushclient.specs.Clients.{Client, Connection}
use Rattle.pushclient.specs.Pieces.{with_input}
use Rattle.pushclient.specs.Rule.{KeptClient}
use Rattle.pushclient.specs.SoundClients.{IsSound}
use Rattle.pushclient.proofs.EveryCut.{is-at}
use Rattle.pushclient.proofs.Streams.{few-messages}
use Rattle.pushclient.proofs.MessageSteps.{bare, is-open}
use Rattle.pushclient.proofs.Reactions.{at, with_octets, Told}
use Rattle.scripts.specs.Words.{ended_lines}
use Rattle.subscriber.specs.Said.{Saying, text_of, is_used_up, ends_with, ends_at, one_less, counted, is_waiting, is_closed, step_lines, after_step, takes_messages, reacts_to}
use Rattle.subscriber.specs.Standing.{StandsAs, IsSaid, Reacts}
use Rattle.subscriber.proofs.Steps.{StepsAs, Waited, Took, one-step, over-stays, said-more}

-- the steps so far lead to the whole, and no more messages are left than turns
pub record IsReacting (s : Saying) (input : List ℕ) (turns : ℕ) (kept : KeptClient) (messages : Option ℕ) (spoken : List ℕ) : Type 0 where
  pub so_far : Saying
  pub left : List ℕ
  pub few : length (messages_in left).0 ≤ turns
  pub stands : StandsAs so_far left kept messages
  pub text : text_of s ++ spoken ≡ text_of so_far
  pub same : takes_messages (messages_in left).0 so_far ≡ takes_messages (messages_in input).0 s
  pub rest : (messages_in left).1 ≡ (messages_in input).1

unfoldable pub Reacting : KeptClient → Option ℕ → ℕ → KeptClient → Option ℕ → List ℕ → Type 0
Reacting start messages turns kept messages_now text = (s : Saying) (input : List ℕ) → StandsAs s input start messages → IsReacting s input turns kept messages_now text

-- no input has as many octets
few-in : (s : Saying) (input : List ℕ) (kept : KeptClient) (messages : Option ℕ) → StandsAs s input kept messages → length input ≤ 69633
few-in s input kept messages a =
    let is = is-at s.client a.connection a.there in
    let plain : with_input input s.client ≡ at s.client.wishes s.client.now (with_octets input a.connection) = ap (λ (x : Client). with_input input x) is.same in
    (subst IsSound plain a.stands.sound).stands.input

pub reacting-begins : (start : KeptClient) (messages : Option ℕ) (text : List ℕ) → text ≡ [] → Reacting start messages 18446744073709551615 start messages text
unfolding Reacting
reacting-begins start messages text none s input a = record { so_far = s; left = input; few = omega (arith, few-in s input start messages a, few-messages input a.octets); stands = a; text = ap (λ (t : List ℕ). text_of s ++ t) none ∙ append-nil (text_of s); same = refl; rest = refl }

pub one_fewer : (n : ℕ) → (n ≡ 0 → ⊥) → n ≡ suc (n - 1)
one_fewer n some = omega (arith, some)

-- ---- what a step says, by its kind

not_waiting : (told : Step) → is_waiting told ≡ false → told ≡ steps.Waiting → ⊥
not_waiting told e is = absurd (no (sym (ap is_waiting is) ∙ e))
  where
    no : true ≡ false → ⊥
    no h = absurd cc

still_waiting : (told : Step) (c : Connection) → is_waiting told ≡ true → Told told c → ⊥
still_waiting steps.Waiting c e tells = tells
still_waiting (steps.Answered id rcode) c e tells = absurd cc
still_waiting (steps.Kept inactivity keepalive) c e tells = absurd cc
still_waiting (steps.Pushed notices) c e tells = absurd cc
still_waiting (steps.Typeless id) c e tells = absurd cc
still_waiting (steps.Closed reason) c e tells = absurd cc

abbrev pub further : Step → Client → Saying → Saying
further told client s = record s { client = client; lines = s.lines ++ step_lines told; messages_left = one_less s.messages_left }

pub closed_says : (told : Step) (client : Client) (s : Saying) → is_closed told ≡ true → after_step told client s ≡ record s { client = client; lines = s.lines ++ step_lines told; over = true }
closed_says (steps.Closed reason) client s e = refl
closed_says steps.Waiting client s e = absurd cc
closed_says (steps.Answered id rcode) client s e = absurd cc
closed_says (steps.Kept inactivity keepalive) client s e = absurd cc
closed_says (steps.Pushed notices) client s e = absurd cc
closed_says (steps.Typeless id) client s e = absurd cc

pub open_says : (told : Step) (client : Client) (s : Saying) → is_closed told ≡ false → after_step told client s ≡ counted (further told client s)
open_says (steps.Closed reason) client s e = absurd cc
open_says steps.Waiting client s e = refl
open_says (steps.Answered id rcode) client s e = refl
open_says (steps.Kept inactivity keepalive) client s e = refl
open_says (steps.Pushed notices) client s e = refl
open_says (steps.Typeless id) client s e = refl

pub unclosed : (told : Step) (c : Connection) → is_closed told ≡ false → Told told c → c.closed ≡ None
unclosed (steps.Closed reason) c e tells = absurd cc
unclosed steps.Waiting c e tells = absurd tells
unclosed (steps.Answered id rcode) c e tells = tells
unclosed (steps.Kept inactivity keepalive) c e tells = tells
unclosed (steps.Pushed notices) c e tells = tells
unclosed (steps.Typeless id) c e tells = tells

abbrev pub by_left : List ℕ → Saying → Bool → Saying
by_left words s true = ends_with words s
by_left words s false = s

pub ends-at : (left : Option ℕ) (words : List ℕ) (s : Saying) (used : Bool) → is_used_up left ≡ used → ends_at left words s ≡ by_left words s used
ends-at left words s used e = ap (by_left words s) e

-- ---- one step more

module _ (s : Saying) (input : List ℕ) (turns : ℕ) (kept later : KeptClient) (messages : Option ℕ) (text : List ℕ) (told : Step) (r : IsReacting s input turns kept messages text) (steps-as : StepsAs kept told later) where
  abbrev whole : Saying
  whole = reacts_to input s

  stepped : Waited r.so_far r.left told later ⊎ Took r.so_far r.left told later
  stepped = one-step r.so_far r.left kept later messages told r.stands steps-as

  -- no message is whole
  waited : Waited r.so_far r.left told later → IsSaid s whole later messages text false
  waited w =
      let split = none_found r.left w.first in
      let all : takes_messages (messages_in input).0 s ≡ r.so_far = sym r.same ∙ ap (λ (sp : Split). takes_messages sp.0 r.so_far) split in
      let rest : (messages_in input).1 ≡ r.left = sym r.rest ∙ ap (λ (sp : Split). sp.1) split in
      let end : whole ≡ record r.so_far { left = r.left } = λ i. record (all i) { left = rest i } in
      subst (λ (e : Saying). IsSaid s e later messages text false) (sym end) (record {
        says = r.text;
        ends = sym r.stands.going;
        waits = λ still. record {
          stands = record { connection = r.stands.connection; there = r.stands.there; bare = r.stands.bare; stands = w.stands; octets = r.stands.octets; going = r.stands.going; messages_left = r.stands.messages_left };
          none = w.first;
        };
      })

  pub is-waiting : is_waiting told ≡ true → IsSaid s whole later messages text false
  is-waiting e = ⊎_elim waited (λ (t : Took r.so_far r.left told later). absurd (still_waiting told t.connection e t.tells)) stepped

  took : is_waiting told ≡ false → Took r.so_far r.left told later
  took e = ⊎_elim (λ (w : Waited r.so_far r.left told later). absurd (not_waiting told e w.nothing)) (λ t. t) stepped

  module _ (t : Took r.so_far r.left told later) where
    abbrev client : Client
    client = at t.wishes t.now (bare t.connection)

    split : messages_in r.left ≡ (t.message ∷ (messages_in t.rest).0, (messages_in t.rest).1)
    split = one_by_one r.left t.message t.rest t.first

    -- the messages left, behind what this one makes
    behind : (y : Saying) → after_step told client r.so_far ≡ y → takes_messages (messages_in t.rest).0 y ≡ takes_messages (messages_in input).0 s
    behind y is = sym (sym r.same ∙ ap (λ (sp : Split). takes_messages sp.0 r.so_far) split ∙ ap (takes_messages (messages_in t.rest).0) (t.takes ∙ is))

    -- an ending
    is-over : (y : Saying) (messages_now : Option ℕ) (now : List ℕ) → after_step told client r.so_far ≡ y → y.over ≡ true → text_of s ++ now ≡ text_of y → IsSaid s whole later messages_now now true
    is-over y messages_now now is over text_is =
        let all : takes_messages (messages_in input).0 s ≡ y = sym (behind y is) ∙ over-stays (messages_in t.rest).0 y over in
        let end : whole ≡ record y { left = (messages_in input).1 } = ap (λ (z : Saying). record z { left = (messages_in input).1 }) all in
        subst (λ (e : Saying). IsSaid s e later messages_now now true) (sym end) (record { says = text_is; ends = sym over; waits = λ still. absurd (both (sym over ∙ still)) })
      where
        both : true ≡ false → ⊥
        both h = absurd cc

  -- the text of what was said so far, and of one step
  text-more : (lines now : List ℕ) → lines ≡ ended_lines (step_lines told) → now ≡ text ++ lines → text_of s ++ now ≡ ended_lines (r.so_far.lines ++ step_lines told)
  text-more lines now are is =
      said-more r.so_far.lines (step_lines told) (text_of s ++ text) lines (text_of s ++ now) r.text are (ap (λ (l : List ℕ). text_of s ++ l) is ∙ sym (append_assoc (text_of s) text lines))

  pub is-closing : (messages_now : Option ℕ) (lines now : List ℕ) → is_waiting told ≡ false → is_closed told ≡ true → lines ≡ ended_lines (step_lines told) → now ≡ text ++ lines → IsSaid s whole later messages_now now true
  is-closing messages_now lines now w e are is =
      let t = took w in
      is-over t (record r.so_far { client = client t; lines = r.so_far.lines ++ step_lines told; over = true }) messages_now now (closed_says told (client t) r.so_far e) refl (text-more lines now are is)

  pub is-counted : (messages_now : Option ℕ) (lines between ending now : List ℕ) → is_waiting told ≡ false → is_closed told ≡ false → lines ≡ ended_lines (step_lines told) → between ≡ text ++ lines
      → messages_now ≡ one_less messages → is_used_up messages_now ≡ true → ending ≡ ended_lines (codes "ended messages" ∷ []) → now ≡ between ++ ending → IsSaid s whole later messages_now now true
  is-counted messages_now lines between ending now w e are is less used ending_is now_is =
      let t = took w in
      let y : Saying = further told (client t) r.so_far in
      let left : is_used_up y.messages_left ≡ true = ap (λ (m : Option ℕ). is_used_up (one_less m)) (sym r.stands.messages_left) ∙ ap is_used_up (sym less) ∙ used in
      let ends : after_step told (client t) r.so_far ≡ ends_with (codes "ended messages") y = open_says told (client t) r.so_far e ∙ ends-at y.messages_left (codes "ended messages") y true left in
      let spoken : text_of s ++ between ≡ ended_lines y.lines = text-more lines between are is in
      is-over t (ends_with (codes "ended messages") y) messages_now now ends refl
      (said-more y.lines (codes "ended messages" ∷ []) (text_of s ++ between) ending (text_of s ++ now) spoken ending_is (ap (λ (l : List ℕ). text_of s ++ l) now_is ∙ sym (append_assoc (text_of s) between ending)))

  pub is-more : (messages_now : Option ℕ) (lines now : List ℕ) → is_waiting told ≡ false → is_closed told ≡ false → lines ≡ ended_lines (step_lines told) → now ≡ text ++ lines
      → messages_now ≡ one_less messages → is_used_up messages_now ≡ false → (fewer : ℕ) → turns ≡ suc fewer → IsReacting s input fewer later messages_now now
  is-more messages_now lines now w e are is less unused fewer left_is =
      let t = took w in
      let y : Saying = further told (client t) r.so_far in
      let counted-is : messages_now ≡ y.messages_left = less ∙ ap one_less r.stands.messages_left in
      let still : after_step told (client t) r.so_far ≡ y = open_says told (client t) r.so_far e ∙ ends-at y.messages_left (codes "ended messages") y false (ap is_used_up (sym counted-is) ∙ unused) in
      record {
        so_far = y;
        left = t.rest;
        few = omega (arith, r.few, left_is, ap (λ (sp : Split). length sp.0) (split t));
        stands = record {
          connection = bare t.connection;
          there = is-open t.wishes t.now (bare t.connection) (unclosed told t.connection e t.tells);
          bare = refl;
          stands = t.stands;
          octets = t.octets;
          going = r.stands.going;
          messages_left = counted-is;
        };
        text = text-more lines now are is;
        same = behind t y still;
        rest = sym (ap (λ (sp : Split). sp.1) (split t)) ∙ r.rest;
      }

  -- a message that was taken was one of those left
  pub is-used_up : turns ≡ 0 → is_waiting told ≡ false → ⊥
  is-used_up none w = absurd (omega (arith, none, r.few, ap (λ (sp : Split). length sp.0) (split (took w))))

-- ---- the same of all that may have been said

module _ (start kept later : KeptClient) (messages messages_now : Option ℕ) (turns : ℕ) (text : List ℕ) (told : Step) (so : Reacting start messages turns kept messages_now text) (steps-as : StepsAs kept told later) where
  pub reacts-waiting : is_waiting told ≡ true → Reacts start messages later messages_now text false
  unfolding Reacting Reacts
  reacts-waiting e s input a = is-waiting s input turns kept later messages_now text told (so s input a) steps-as e

  pub reacts-closed : (lines now : List ℕ) → is_waiting told ≡ false → is_closed told ≡ true → lines ≡ ended_lines (step_lines told) → now ≡ text ++ lines → Reacts start messages later messages_now now true
  unfolding Reacting Reacts
  reacts-closed lines now w e are is s input a = is-closing s input turns kept later messages_now text told (so s input a) steps-as messages_now lines now w e are is

  pub reacts-counted : (messages_then : Option ℕ) (lines between ending now : List ℕ) → is_waiting told ≡ false → is_closed told ≡ false → lines ≡ ended_lines (step_lines told) → between ≡ text ++ lines
      → messages_then ≡ one_less messages_now → is_used_up messages_then ≡ true → ending ≡ ended_lines (codes "ended messages" ∷ []) → now ≡ between ++ ending → Reacts start messages later messages_then now true
  unfolding Reacting Reacts
  reacts-counted messages_then lines between ending now w e are is less used ending_is now_is s input a =
      is-counted s input turns kept later messages_now text told (so s input a) steps-as messages_then lines between ending now w e are is less used ending_is now_is

  pub reacting-more : (messages_then : Option ℕ) (lines now : List ℕ) → is_waiting told ≡ false → is_closed told ≡ false → lines ≡ ended_lines (step_lines told) → now ≡ text ++ lines
      → messages_then ≡ one_less messages_now → is_used_up messages_then ≡ false → (fewer : ℕ) → turns ≡ suc fewer → Reacting start messages fewer later messages_then now
  unfolding Reacting
  reacting-more messages_then lines now w e are is less unused fewer left_is s input a = is-more s input turns kept later messages_now text told (so s input a) steps-as messages_then lines now w e are is less unused fewer left_is

  pub reacts-used_up : turns ≡ 0 → is_waiting told ≡ false → (messages_then : Option ℕ) (now : List ℕ) (over : Bool) → Reacts start messages later messages_then now over
  unfolding Reacting Reacts
  reacts-used_up none w messages_then now over s input a = absurd (is-used_up s input turns kept later messages_now text told (so s input a) steps-as none w)
