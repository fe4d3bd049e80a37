-- What is read of each line is within bounds.
--     number_at_most, name_is_name, word_gives      what words give
--     line_within      of a line by itself
use Rattle.std.proofs.Common.{◌≡◌, ℕ, ◌+◌, ◌-◌, ◌*◌, ◌≤◌, ◌<◌, ◌^◌, Bool, true, false, cond, ◌&&◌, List, [], ◌∷◌, fold, length, Option, Some, None, IfSome, option_and_then, nat_le, refl, subst, arith}
use Rattle.std.specs.Prelude.{◌==◌, IsTrue}
use Rattle.std.specs.List.{list_all}
use Rattle.std.proofs.lemmas.Bool.Decides.{nat_tests}
use Rattle.push_base.specs.Limits.{max_moment}
use Rattle.push_base.specs.Optional.{◌>>=◌}
use Rattle.dnsname.specs.Names.{Labels, is_name}
use Rattle.dnsname.specs.Text.{labels_in_text, name_of_text}
use Rattle.dnsname.proofs.Decisions.{and_true}
use Rattle.dsotlv.proofs.Results.{same_found}
use Rattle.rrset.specs.declared.record.Question.{Question}
use Rattle.dsosession.specs.Timing.{least_keepalive}
use Rattle.inflight.specs.Ends.{is_question}
use Rattle.scripts.specs.Lines.{Word, ScriptLine, is_word_octet, joining, hub_event, link_event, client_call, session_event, ask, open_connection, send, feed, has_form, number, number16, max_u32, max_rcode, word, octets_written, question, line_of}
use Rattle.scripts.specs.declared.line.HubEvent.TheVariants as hub_events
use Rattle.scripts.specs.declared.line.LinkEvent.TheVariants as link_events
use Rattle.scripts.specs.declared.line.Call.TheVariants as calls
use Rattle.scripts.specs.declared.line.SessionEvent.TheVariants as session_events
use Rattle.scripts.proofs.lines.Readers.{OnEach, alone_reads, word_reads, octets_reads, word_octets_reads, word_question_reads, timers_reads, zone_reads, link_reads, reverse_reads, at_reads, reconfirm_reads, stop_reads, show_reads, way_reads, line-reads}
use Rattle.replay.proofs.worlds.ClientOutputs.{all_octets}
use Rattle.replay.proofs.worlds.InputOctets.{written_octets}
use Rattle.replay.proofs.turns.SendSizes.{le_is, written_few}
use Rattle.script_laws.specs.Lines.{AreWritten, IsWord, AreWithin}

-- ---- what is read

-- P of what an option gives, if it gives something
abbrev Gives : {X : Type 0} → (X → Type 0) → Option X → Type 0
Gives {X} P o = (x : X) → o ≡ Some x → P x

none_gives : {X : Type 0} (P : X → Type 0) → Gives P None
none_gives P x e = absurd cc

some_gives : {X : Type 0} (P : X → Type 0) (x : X) → P x → Gives P (Some x)
some_gives P x h y e = subst P (same_found x y e) h

bind_gives : {A X : Type 0} (P : X → Type 0) (o : Option A) (f : A → Option X) → ((a : A) → o ≡ Some a → Gives P (f a)) → Gives P (o >>= f)
bind_gives P None f h = none_gives P
bind_gives P (Some a) f h = h a refl

then_gives : {A X : Type 0} (P : X → Type 0) (f : A → Option X) (o : Option A) → ((a : A) → o ≡ Some a → Gives P (f a)) → Gives P (option_and_then f o)
then_gives P f None h = none_gives P
then_gives P f (Some a) h = h a refl

if_gives : {X : Type 0} (P : X → Type 0) (b : Bool) (x y : Option X) → (b ≡ true → Gives P x) → (b ≡ false → Gives P y) → Gives P (cond b x y)
if_gives P true x y h k = h refl
if_gives P false x y h k = k refl

-- ---- words

le_from : (n m : ℕ) → nat_le n m ≡ true → n ≤ m
le_from n m h = grind (arith, nat_tests)

pub number_at_most : (greatest : ℕ) (w : Word) → Gives (λ n. n ≤ greatest) (number greatest w)
number_at_most greatest [] = none_gives (λ n. n ≤ greatest)
number_at_most greatest (c ∷ cs) = by (has_form (c ∷ cs)) (fold (λ n d. 10 * n + (d - 48)) 0 (c ∷ cs))
  where
    by : (b : Bool) (m : ℕ) → Gives (λ n. n ≤ greatest) (cond (b && nat_le m greatest) (Some m) None)
    by b m = if_gives (λ n. n ≤ greatest) (b && nat_le m greatest) (Some m) None (λ is. some_gives (λ n. n ≤ greatest) m (le_from m greatest (and_true b (nat_le m greatest) is).1)) (λ is. none_gives (λ n. n ≤ greatest))

pub name_is_name : (w : Word) → Gives (λ name. IsTrue (is_name name)) (name_of_text w)
name_is_name [] = none_gives (λ name. IsTrue (is_name name))
name_is_name (c ∷ []) = if_gives (λ name. IsTrue (is_name name)) (c == 46) (Some []) None (λ is. some_gives (λ name. IsTrue (is_name name)) [] refl) (λ is. none_gives (λ name. IsTrue (is_name name)))
name_is_name (c ∷ d ∷ rest) =
    then_gives (λ name. IsTrue (is_name name)) (λ name. cond (is_name name) (Some name) None) (labels_in_text 128 (c ∷ d ∷ rest))
    (λ labels found. if_gives (λ name. IsTrue (is_name name)) (is_name labels) (Some labels) None (λ is. some_gives (λ name. IsTrue (is_name name)) labels is) (λ is. none_gives (λ name. IsTrue (is_name name))))

pub word_gives : (w : Word) → Gives IsWord (word w)
word_gives w =
    if_gives IsWord (nat_le 1 (length w) && nat_le (length w) 32 && list_all is_word_octet w) (Some w) None
    (λ is. some_gives IsWord w (last (nat_le 1 (length w)) (nat_le (length w) 32) (list_all is_word_octet w) is)) (λ is. none_gives IsWord)
  where
    last : (a b c : Bool) → (a && b && c) ≡ true → c ≡ true
    last true true c h = h
    last true false c h = absurd cc
    last false b c h = absurd cc

written_gives : (h : Word) → Gives AreWritten (octets_written h)
written_gives h octets e = (all_octets octets (written_octets h octets e), le_is (length octets) (written_few h octets e))

question_gives : (n k c : Word) → Gives (λ q. IsTrue (is_question q)) (question n k c)
question_gives n k c =
    bind_gives Q (name_of_text n) _ (λ name is_name. bind_gives Q (number16 k) _ (λ kind is_kind. bind_gives Q (number16 c) _ (λ class is_class.
    some_gives Q (record { name = name; kind = kind; class = class }) (all name kind class (name_is_name n name is_name) (number_at_most 65535 k kind is_kind) (number_at_most 65535 c class is_class)))))
  where
    Q : Question → Type 0
    Q q = IsTrue (is_question q)

    test : (a b c : Bool) → a ≡ true → b ≡ true → c ≡ true → (a && b && c) ≡ true
    test a b c h k l = λ i. h i && k i && l i

    to_le : (n : ℕ) → n ≤ 65535 → nat_le n 65535 ≡ true
    to_le n h = grind (arith, nat_tests)

    all : (name : Labels) (kind class : ℕ) → IsTrue (is_name name) → kind ≤ 65535 → class ≤ 65535 → Q (record { name = name; kind = kind; class = class })
    all name kind class h k l = test (is_name name) (nat_le kind 65535) (nat_le class 65535) h (to_le kind k) (to_le class l)

-- ---- lines by their words

pub below_max : (n : ℕ) → n ≤ max_u32 → n < 2 ^ 32
below_max n h = omega arith

small_rcode : (n : ℕ) → n ≤ max_rcode → n < 16
small_rcode n h = omega arith

-- the name of a question is a name
named : (a b c : Bool) → (a && b && c) ≡ true → a ≡ true
named true b c h = refl
named false b c h = absurd cc

each_within : (w : Word) (ws : List Word) → OnEach AreWithin w ws
each_within w ws = record {
  on_head = (
    timers_reads AreWithin (λ v i is x k at long. (below_max i (number_at_most max_u32 v i is), le_from least_keepalive k long, below_max k (number_at_most max_u32 x k at))) ws,
    (
      zone_reads AreWithin (λ v apex is x serial at mode. (name_is_name v apex is, below_max serial (number_at_most max_u32 x serial at))) ws,
      (link_reads AreWithin (λ v u is x domain at most. name_is_name x domain at) ws, (reverse_reads AreWithin (λ v u is x domain at. name_is_name x domain at) ws, tt)),
    ),
  );
  on_hub = (
    at_reads AreWithin (λ v t is. number_at_most max_moment v t is) ws,
    (octets_reads AreWithin (λ o. hub_event (hub_events.Update o)) (λ v o is. written_gives v o is) ws, (alone_reads AreWithin (hub_event hub_events.Point) tt ws, tt)),
  );
  on_link = (word_octets_reads AreWithin (λ u o. link_event u (link_events.Hear o)) (λ v u is x o at. written_gives x o at) ws, (word_reads AreWithin (λ u. link_event u link_events.Gone) (λ v u is. tt) ws, (word_reads AreWithin (λ u. link_event u link_events.Asks) (λ v u is. tt) ws, tt)));
  on_session = (
    word_octets_reads AreWithin send (λ v u is x o at. (word_gives v u is, written_gives x o at)) ws,
    (
      stop_reads AreWithin (λ v u is x rcode at y delay there. (small_rcode rcode (number_at_most max_rcode x rcode at), below_max delay (number_at_most max_u32 y delay there))) ws,
      (word_reads AreWithin (λ u. session_event u session_events.Cut) (λ v u is. tt) ws, tt),
    ),
  );
  on_joining = (word_reads AreWithin (λ u. joining u false) (λ v u is. word_gives v u is) ws, (word_reads AreWithin (λ u. joining u true) (λ v u is. word_gives v u is) ws, tt));
  on_call = (
    word_question_reads AreWithin ask (λ v u is n k c q at. question_gives n k c q at) ws,
    (
      word_question_reads AreWithin (λ u q. client_call u (calls.Drop q)) (λ v u is n k c q at. question_gives n k c q at) ws,
      (reconfirm_reads AreWithin (λ v u is n k c q at x rdata there. (named (is_name q.name) _ _ (question_gives n k c q at), written_gives x rdata there)) ws, tt),
    ),
  );
  on_way = way_reads AreWithin (λ u way. tt) w ws;
  on_client = (
    word_reads AreWithin open_connection (λ v u is. tt) ws,
    (word_octets_reads AreWithin feed (λ v u is x o at. written_gives x o at) ws, (show_reads AreWithin (λ v u is n k c q at. question_gives n k c q at) ws, tt)),
  );
}

pub line_within : (text : List ℕ) (line : ScriptLine) → line_of text ≡ Some line → AreWithin line
line_within text line read = subst (λ (o : Option ScriptLine). IfSome o AreWithin) read (line-reads AreWithin tt each_within text)
