-- What holds of the octets of every word of a script holds of those that each line brings to the hub.
--     sent_by line      the octets that a line brings to the hub or a client, piece by piece
--     read-name      the name that a word is read as is one
--     written-by      the octets that a word stands for are none, or those of its digits
--     sends-pass      the law: a test that the octets of every word pass
use Rattle.std.proofs.Common.{◌≡◌, ℕ, ◌+◌, Bool, true, false, cond, ◌&&◌, ◌||◌, List, [], ◌∷◌, map, length, Option, Some, None, IfSome, Result, Ok, Err, nat_lt, refl, sym, ◌∙◌, ap, subst, codes}
use Rattle.std.specs.Prelude.{option_and_then, unwrap_or, ◌==◌}
use Rattle.std.specs.List.{AllByRecursion, list_all}
use Rattle.std.specs.Result.{result_ok}
use Rattle.std.specs.Str.{bytes_eq}
use Rattle.push_base.specs.Cases.{is_empty}
use Rattle.push_base.specs.Optional.{◌>>=◌}
use Rattle.push_base.specs.Hexadecimal.{hex_octets}
use Rattle.push_base.specs.declared.hexadecimal.HexFault.{HexFault}
use Rattle.dnsname.specs.Names.{Labels, octets, is_name}
use Rattle.dnsname.specs.Text.{name_of_text, labels_in_text}
use Rattle.rrset.specs.declared.record.Question.{Question}
use Rattle.scripts.specs.Lines.{question, number16, Word, ScriptLine, hub_event, link_event, client_call, client_event, session_event, ask, open_connection, send, feed, octets_written, most_digits, line_of}
use Rattle.scripts.specs.declared.line.HubEvent.{HubEvent}
use Rattle.scripts.specs.declared.line.HubEvent.TheVariants as hub_events
use Rattle.scripts.specs.declared.line.LinkEvent.{LinkEvent}
use Rattle.scripts.specs.declared.line.LinkEvent.TheVariants as link_events
use Rattle.scripts.specs.declared.line.Call.{Call}
use Rattle.scripts.specs.declared.line.Call.TheVariants as calls
use Rattle.scripts.specs.declared.line.ClientEvent.{ClientEvent}
use Rattle.scripts.specs.declared.line.ClientEvent.TheVariants as client_events
use Rattle.scripts.specs.declared.line.SessionEvent.{SessionEvent}
use Rattle.scripts.specs.declared.line.SessionEvent.TheVariants as session_events
use Rattle.scripts.specs.Scripts.{Known, nothing_known, fits, with_line, lines_from, lines_in, lines_read, last_is_outside, client_words, max_script, script_of}
use Rattle.scripts.proofs.lines.Readers.{OnEach, alone_reads, word_reads, octets_reads, word_octets_reads, word_question_reads, at_reads, reconfirm_reads, stop_reads, show_reads, head_reads, joining_reads, way_reads, line-reads}

-- the octets of an update or a datagram, those that a peer sends or a client is fed, those of the name that a client asks for, or those of the record that it doubts
abbrev pub sent_to_hub : HubEvent → List (List ℕ)
sent_to_hub (hub_events.Update octets) = octets ∷ []
sent_to_hub _ = []

abbrev pub sent_on_link : LinkEvent → List (List ℕ)
sent_on_link (link_events.Hear octets) = octets ∷ []
sent_on_link link_events.Gone = []
sent_on_link link_events.Asks = []

abbrev pub sent_by_call : Call → List (List ℕ)
sent_by_call (calls.Ask question) = octets question.name ∷ []
sent_by_call (calls.Drop question) = []
sent_by_call (calls.Reconfirm rr) = octets rr.owner ∷ rr.rdata ∷ []

abbrev pub sent_to_client : ClientEvent → List (List ℕ)
sent_to_client (client_events.Feed octets) = octets ∷ []
sent_to_client _ = []

abbrev pub sent_to_session : SessionEvent → List (List ℕ)
sent_to_session (session_events.Send octets) = octets ∷ []
sent_to_session _ = []

abbrev pub sent_by : ScriptLine → List (List ℕ)
sent_by (hub_event event) = sent_to_hub event
sent_by (link_event w event) = sent_on_link event
sent_by (client_call w call) = sent_by_call call
sent_by (client_event w event) = sent_to_client event
sent_by (session_event w event) = sent_to_session event
sent_by _ = []

-- ---- the octets that a word stands for

pub some_octets : (a b : List ℕ) → Some a ≡ Some b → a ≡ b
some_octets a b e = ap (λ o. unwrap_or o a) e

abbrev some : List ℕ → Option (List ℕ)
some o = Some o

pub written-by : (Q : List ℕ → Type 0) (h octets : List ℕ) → Q [] → ((o : List ℕ) → nat_lt most_digits (length h) ≡ false → hex_octets h ≡ Ok o → Q o) → octets_written h ≡ Some octets → Q octets
written-by Q h octets nothing read e = by_dash (bytes_eq h (codes "-")) e
  where
    no_more : (a b : Bool) → (a || b) ≡ false → b ≡ false
    no_more true b e = absurd cc
    no_more false b e = e

    by_read : nat_lt most_digits (length h) ≡ false → (r : Result (List ℕ) HexFault) → hex_octets h ≡ r → result_ok r ≡ some octets → Q octets
    by_read small (Err f) is e = absurd cc
    by_read small (Ok o) is e = read octets small (is ∙ ap Ok (some_octets o octets e))

    by_size : (b : Bool) → (is_empty h || nat_lt most_digits (length h)) ≡ b → cond b None (result_ok (hex_octets h)) ≡ some octets → Q octets
    by_size true is e = absurd cc
    by_size false is e = by_read (no_more (is_empty h) (nat_lt most_digits (length h)) is) (hex_octets h) refl e

    by_dash : (b : Bool) → cond b (some []) (cond (is_empty h || nat_lt most_digits (length h)) None (result_ok (hex_octets h))) ≡ some octets → Q octets
    by_dash true e = subst Q (some_octets [] octets e) nothing
    by_dash false e = by_size (is_empty h || nat_lt most_digits (length h)) refl e

-- ---- the lines that were read

abbrev pub done : List ScriptLine → Result (List ScriptLine) ℕ
done lines = Ok lines

abbrev pub lines_or : List ScriptLine → Result (List ScriptLine) ℕ → List ScriptLine
lines_or other (Ok lines) = lines
lines_or other (Err n) = other

same_labels : (a b : Labels) → Some a ≡ Some b → a ≡ b
same_labels a b e = cc

abbrev question_as : Labels → ℕ → ℕ → Question
question_as name kind class = record { name = name; kind = kind; class = class }

-- a name that was read is one
pub read-name : (text : List ℕ) (name : Labels) → name_of_text text ≡ Some name → is_name name ≡ true
read-name [] name e = absurd cc
read-name (c ∷ []) name e = by (c == 46) e
  where
    by : (b : Bool) → cond {A = Option Labels} b (Some []) None ≡ Some name → is_name name ≡ true
    by true e = ap is_name (sym (same_labels [] name e))
    by false e = absurd cc
read-name (c ∷ d ∷ rest) name e = by (labels_in_text 128 (c ∷ d ∷ rest)) e
  where
    by_test : (n : Labels) (b : Bool) → is_name n ≡ b → cond {A = Option Labels} b (Some n) None ≡ Some name → is_name name ≡ true
    by_test n true is e = ap is_name (sym (same_labels n name e)) ∙ is
    by_test n false is e = absurd cc

    by : (o : Option Labels) → option_and_then (λ n. cond {A = Option Labels} (is_name n) (Some n) None) o ≡ Some name → is_name name ≡ true
    by None e = absurd cc
    by (Some n) e = by_test n (is_name n) refl e

module _ (test : List ℕ → Bool) (written : (h octets : List ℕ) → octets_written h ≡ Some octets → test octets ≡ true) (named : (name : Labels) → is_name name ≡ true → test (octets name) ≡ true) where
  abbrev Passes : ScriptLine → Type 0
  Passes line = list_all test (sent_by line) ≡ true

  one : (o : List ℕ) → test o ≡ true → list_all test (o ∷ []) ≡ true
  one o h = ap (λ b. b && true) h

  two : (a b : List ℕ) → test a ≡ true → test b ≡ true → list_all test (a ∷ b ∷ []) ≡ true
  two a b h k = λ i. h i && (k i && true)

  -- the name of a question that was read
  asked : (n k c : Word) (q : Question) → question n k c ≡ Some q → test (octets q.name) ≡ true
  asked n k c q e = subst (IfSomePasses) e (by (name_of_text n) refl (number16 k) (number16 c))
    where
      IfSomePasses : Option Question → Type 0
      IfSomePasses o = IfSome o (λ r. test (octets r.name) ≡ true)

      by : (o : Option Labels) → name_of_text n ≡ o → (a b : Option ℕ) → IfSomePasses (o >>= λ name. a >>= λ kind. b >>= λ class. Some (question_as name kind class))
      by None is a b = tt
      by (Some name) is None b = tt
      by (Some name) is (Some kind) None = tt
      by (Some name) is (Some kind) (Some class) = named name (read-name n name is)

  each_passes : (w : Word) (ws : List Word) → OnEach Passes w ws
  each_passes w ws = record {
    on_head = head_reads Passes (λ line. refl) w ws;
    on_hub = (at_reads Passes (λ v t is. refl) ws, (octets_reads Passes (λ o. hub_event (hub_events.Update o)) (λ v o is. one o (written v o is)) ws, (alone_reads Passes (hub_event hub_events.Point) refl ws, tt)));
    on_link = (word_octets_reads Passes (λ v o. link_event v (link_events.Hear o)) (λ v u is x o at. one o (written x o at)) ws, (word_reads Passes (λ v. link_event v link_events.Gone) (λ v u is. refl) ws, (word_reads Passes (λ v. link_event v link_events.Asks) (λ v u is. refl) ws, tt)));
    on_session = (
      word_octets_reads Passes send (λ v u is x o at. one o (written x o at)) ws,
      (stop_reads Passes (λ v u is x rcode at y delay there. refl) ws, (word_reads Passes (λ v. session_event v session_events.Cut) (λ v u is. refl) ws, tt)),
    );
    on_joining = joining_reads Passes (λ u is_lone. refl) w ws;
    on_call = (
      word_question_reads Passes ask (λ v u is n k c q at. one (octets q.name) (asked n k c q at)) ws,
      (
        word_question_reads Passes (λ v q. client_call v (calls.Drop q)) (λ v u is n k c q at. refl) ws,
        (reconfirm_reads Passes (λ v u is n k c q at x rdata there. two (octets q.name) rdata (asked n k c q at) (written x rdata there)) ws, tt),
      ),
    );
    on_way = way_reads Passes (λ u way. refl) w ws;
    on_client = (
      word_reads Passes open_connection (λ v u is. refl) ws,
      (word_octets_reads Passes feed (λ v u is x o at. one o (written x o at)) ws, (show_reads Passes (λ v u is n k c q at. refl) ws, tt)),
    );
  }

  abbrev IsFree : Option ScriptLine → Type 0
  IsFree o = IfSome o Passes

  -- ---- the lines of a script

  all_free : (texts : List (List ℕ)) → AllByRecursion IsFree (map line_of texts)
  all_free [] = tt
  all_free (t ∷ ts) = (line-reads Passes refl each_passes t, all_free ts)

  last_free : (os : List (Option ScriptLine)) → AllByRecursion IsFree os → AllByRecursion IsFree (last_is_outside os)
  last_free [] all = tt
  last_free (o ∷ []) all = (tt, tt)
  last_free (o ∷ p ∷ os) all = (all.0, last_free (p ∷ os) all.1)

  read_free : (text : List ℕ) → AllByRecursion IsFree (lines_read text)
  read_free text = by (nat_lt max_script (length text))
    where
      by : (b : Bool) → AllByRecursion IsFree (cond b (last_is_outside (map line_of (lines_in text))) (map line_of (lines_in text)))
      by true = last_free (map line_of (lines_in text)) (all_free (lines_in text))
      by false = all_free (lines_in text)

  from_free : (all : List Word) (known : Known) (n : ℕ) (os : List (Option ScriptLine)) (lines : List ScriptLine) → AllByRecursion IsFree os → lines_from all known n os ≡ done lines → AllByRecursion Passes lines
  from_free all known n [] lines free e = subst (AllByRecursion Passes) (ap (lines_or []) e) tt
  from_free all known n (None ∷ os) lines free e = absurd cc
  from_free all known n (Some line ∷ os) lines free e = by (λ later more f. from_free all later (n + 1) os more free.1 f) (fits all known line) e
    where
      Rest : Type 0
      Rest = (later : Known) (more : List ScriptLine) → lines_from all later (n + 1) os ≡ done more → AllByRecursion Passes more

      behind : Rest → (later : Known) (r : Result (List ScriptLine) ℕ) → lines_from all later (n + 1) os ≡ r → with_line line r ≡ done lines → AllByRecursion Passes lines
      behind rest later (Err m) is e = absurd cc
      behind rest later (Ok more) is e = subst (AllByRecursion Passes) (ap (lines_or []) e) (free.0, rest later more is)

      by : Rest → (o : Option Known) → (elim o as (λ _. Result (List ScriptLine) ℕ) [ None ↦ Err n | Some later ↦ with_line line (lines_from all later (n + 1) os) ]) ≡ done lines → AllByRecursion Passes lines
      by rest None e = absurd cc
      by rest (Some later) e = behind rest later (lines_from all later (n + 1) os) refl e

  pub sends-pass : (text : List ℕ) (lines : List ScriptLine) → script_of text ≡ Ok lines → AllByRecursion Passes lines
  sends-pass text lines read = from_free (client_words (lines_read text)) nothing_known 1 (lines_read text) lines (read_free text) read
