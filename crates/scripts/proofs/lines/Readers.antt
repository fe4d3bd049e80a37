-- What is known of a line that was read, by its reader.
--     word_reads, octets_reads ..      P of each line that a reader gives, of whose words it is known what they are
--     EachReads P words rows, OnEach P word words      P of each line of the kinds of a table, and of any kind
--     head_reads, hub_reads ..      P of each line of a class
--     line-reads      so P of each line
use Rattle.std.proofs.Common.{◌≡◌, ℕ, Bool, true, false, cond, Option, Some, None, IfSome, List, [], ◌∷◌, refl, sym, ◌∙◌, ap, inl, inr}
use Rattle.std.specs.Prelude.{option_map, nat_le, ◌==◌}
use Rattle.std.specs.Str.{is_utf8, IsUtf8}
use Rattle.std.proofs.lemmas.Str.{IsUtf8-from_is_utf8}
use Rattle.std.proofs.lemmas.Bool.{cases_Bool}
use Rattle.push_base.specs.Cases.{chosen}
use Rattle.push_base.specs.Limits.{max_moment}
use Rattle.push_base.specs.Optional.{◌>>=◌}
use Rattle.dsosession.specs.Timing.{least_keepalive}
use Rattle.history.specs.States.{no_cap}
use Rattle.dnsname.specs.Names.{Labels}
use Rattle.dnsname.specs.Text.{name_of_text}
use Rattle.rrset.specs.declared.record.Question.{Question}
use Rattle.rrset.specs.declared.record.Rr.{Rr}
use Rattle.scripts.specs.Lines.{words_in, Word, HeadLine, timers, zone, link, reverse, ScriptLine, silent, head_line, joining, hub_event, link_event, client_call, client_passing, client_event, session_event, ask, open_connection, feed, show, settle, send, number32, number, max_octets_passed, max_rcode, cap_written, word, octets_written, writable_of, question, alone, of_word, of_octets, of_word_and_octets, of_word_and_number, of_word_and_question, timers_line, zone_line, link_line, reverse_line, at_line, reconfirm_line, stop_line, show_line, head_kinds, hub_kinds, link_kinds, session_kinds, joining_kinds, call_kinds, way_kinds, client_kinds, kind_of, line_behind, of_words, line_of}
use Rattle.scripts.specs.declared.line.HubEvent.{HubEvent}
use Rattle.scripts.specs.declared.line.HubEvent.TheVariants as hub_events
use Rattle.scripts.specs.declared.line.LinkEvent.{LinkEvent}
use Rattle.scripts.specs.declared.line.LinkEvent.TheVariants as link_events
use Rattle.scripts.specs.declared.line.Call.{Call}
use Rattle.scripts.specs.declared.line.Call.TheVariants as calls
use Rattle.scripts.specs.declared.line.Way.{Way}
use Rattle.scripts.specs.declared.line.Way.TheVariants as ways
use Rattle.scripts.specs.declared.line.ClientEvent.{ClientEvent}
use Rattle.scripts.specs.declared.line.ClientEvent.TheVariants as client_events
use Rattle.scripts.specs.declared.line.SessionEvent.{SessionEvent}
use Rattle.scripts.specs.declared.line.SessionEvent.TheVariants as session_events
use Rattle.scripts.specs.declared.line.Kind.{Kind}
use Rattle.scripts.specs.declared.line.Kind.TheVariants as kinds
use Rattle.scripts.specs.KeptLines.{begins_silent}

-- ---- what steps give

bind_reads : {A X : Type 0} (P : X → Type 0) (o : Option A) (g : A → Option X) → ((a : A) → o ≡ Some a → IfSome (g a) P) → IfSome (o >>= g) P
bind_reads P None g h = tt
bind_reads P (Some a) g h = h a refl

map_reads : {A X : Type 0} (P : X → Type 0) (o : Option A) (g : A → X) → ((a : A) → o ≡ Some a → P (g a)) → IfSome (option_map g o) P
map_reads P None g h = tt
map_reads P (Some a) g h = h a refl

if_reads : {X : Type 0} (P : X → Type 0) (b : Bool) (x y : Option X) → (b ≡ true → IfSome x P) → (b ≡ false → IfSome y P) → IfSome (cond b x y) P
if_reads P true x y h k = h refl
if_reads P false x y h k = k refl

-- ---- P of each line that a reader gives

module _ (P : ScriptLine → Type 0) where
  pub alone_reads : (line : ScriptLine) → P line → (ws : List Word) → IfSome (alone line ws) P
  alone_reads line h [] = h
  alone_reads line h (v ∷ ws) = tt

  pub word_reads : (line : Word → ScriptLine) → ((v w : Word) → word v ≡ Some w → P (line w)) → (ws : List Word) → IfSome (of_word line ws) P
  word_reads line h [] = tt
  word_reads line h (v ∷ []) = map_reads P (word v) line (h v)
  word_reads line h (v ∷ x ∷ ws) = tt

  pub octets_reads : (line : List ℕ → ScriptLine) → ((v octets : Word) → octets_written v ≡ Some octets → P (line octets)) → (ws : List Word) → IfSome (of_octets line ws) P
  octets_reads line h [] = tt
  octets_reads line h (v ∷ []) = map_reads P (octets_written v) line (h v)
  octets_reads line h (v ∷ x ∷ ws) = tt

  pub word_octets_reads : (line : Word → List ℕ → ScriptLine) → ((v w : Word) → word v ≡ Some w → (x octets : Word) → octets_written x ≡ Some octets → P (line w octets)) → (ws : List Word) → IfSome (of_word_and_octets line ws) P
  word_octets_reads line h [] = tt
  word_octets_reads line h (v ∷ []) = tt
  word_octets_reads line h (v ∷ x ∷ []) = bind_reads P (word v) _ (λ w is. bind_reads P (octets_written x) _ (λ octets at. h v w is x octets at))
  word_octets_reads line h (v ∷ x ∷ y ∷ ws) = tt

  pub word_number_reads : (line : Word → ℕ → ScriptLine) → ((v w : Word) → word v ≡ Some w → (x : Word) (n : ℕ) → number max_octets_passed x ≡ Some n → P (line w n)) → (ws : List Word) → IfSome (of_word_and_number line ws) P
  word_number_reads line h [] = tt
  word_number_reads line h (v ∷ []) = tt
  word_number_reads line h (v ∷ x ∷ []) = bind_reads P (word v) _ (λ w is. bind_reads P (number max_octets_passed x) _ (λ n at. h v w is x n at))
  word_number_reads line h (v ∷ x ∷ y ∷ ws) = tt

  pub word_question_reads : (line : Word → Question → ScriptLine) → ((v w : Word) → word v ≡ Some w → (n k c : Word) (q : Question) → question n k c ≡ Some q → P (line w q)) → (ws : List Word) → IfSome (of_word_and_question line ws) P
  word_question_reads line h [] = tt
  word_question_reads line h (v ∷ []) = tt
  word_question_reads line h (v ∷ n ∷ []) = tt
  word_question_reads line h (v ∷ n ∷ k ∷ []) = tt
  word_question_reads line h (v ∷ n ∷ k ∷ c ∷ []) = bind_reads P (word v) _ (λ w is. bind_reads P (question n k c) _ (λ q at. h v w is n k c q at))
  word_question_reads line h (v ∷ n ∷ k ∷ c ∷ x ∷ ws) = tt

  pub timers_reads : ((v : Word) (i : ℕ) → number32 v ≡ Some i → (x : Word) (k : ℕ) → number32 x ≡ Some k → nat_le least_keepalive k ≡ true → P (head_line (timers i k))) → (ws : List Word) → IfSome (timers_line ws) P
  timers_reads h [] = tt
  timers_reads h (v ∷ []) = tt
  timers_reads h (v ∷ x ∷ []) =
      bind_reads P (number32 v) _ (λ i is. bind_reads P (number32 x) _ (λ k at. if_reads P (nat_le least_keepalive k) (Some (head_line (timers i k))) None (λ long. h v i is x k at long) (λ short. tt)))
  timers_reads h (v ∷ x ∷ y ∷ ws) = tt

  pub zone_reads : ((v : Word) (apex : Labels) → name_of_text v ≡ Some apex → (x : Word) (serial : ℕ) → number32 x ≡ Some serial → (mode : Bool) → P (head_line (zone apex serial mode))) → (ws : List Word) → IfSome (zone_line ws) P
  zone_reads h [] = tt
  zone_reads h (v ∷ []) = tt
  zone_reads h (v ∷ x ∷ []) = tt
  zone_reads h (v ∷ x ∷ y ∷ []) = bind_reads P (name_of_text v) _ (λ apex is. bind_reads P (number32 x) _ (λ serial at. map_reads P (writable_of y) (λ mode. head_line (zone apex serial mode)) (λ mode e. h v apex is x serial at mode)))
  zone_reads h (v ∷ x ∷ y ∷ z ∷ ws) = tt

  pub link_reads : ((v w : Word) → word v ≡ Some w → (x : Word) (domain : Labels) → name_of_text x ≡ Some domain → (most : ℕ) → P (head_line (link w domain most))) → (ws : List Word) → IfSome (link_line ws) P
  link_reads h [] = tt
  link_reads h (v ∷ []) = tt
  link_reads h (v ∷ x ∷ []) = bind_reads P (word v) _ (λ w is. bind_reads P (name_of_text x) _ (λ domain at. h v w is x domain at no_cap))
  link_reads h (v ∷ x ∷ y ∷ []) = bind_reads P (word v) _ (λ w is. bind_reads P (name_of_text x) _ (λ domain at. map_reads P (cap_written y) (λ most. head_line (link w domain most)) (λ most e. h v w is x domain at most)))
  link_reads h (v ∷ x ∷ y ∷ z ∷ ws) = tt

  pub reverse_reads : ((v w : Word) → word v ≡ Some w → (x : Word) (domain : Labels) → name_of_text x ≡ Some domain → P (head_line (reverse w domain))) → (ws : List Word) → IfSome (reverse_line ws) P
  reverse_reads h [] = tt
  reverse_reads h (v ∷ []) = tt
  reverse_reads h (v ∷ x ∷ []) = bind_reads P (word v) _ (λ w is. bind_reads P (name_of_text x) _ (λ domain at. h v w is x domain at))
  reverse_reads h (v ∷ x ∷ y ∷ ws) = tt

  pub at_reads : ((v : Word) (t : ℕ) → number max_moment v ≡ Some t → P (hub_event (hub_events.At t))) → (ws : List Word) → IfSome (at_line ws) P
  at_reads h [] = tt
  at_reads h (v ∷ []) = map_reads P (number max_moment v) (λ t. hub_event (hub_events.At t)) (h v)
  at_reads h (v ∷ x ∷ ws) = tt

  abbrev pub doubted : Question → List ℕ → Rr
  doubted q rdata = record { owner = q.name; class = q.class; kind = q.kind; ttl = 0; rdata = rdata }

  pub reconfirm_reads : ((v w : Word) → word v ≡ Some w → (n k c : Word) (q : Question) → question n k c ≡ Some q → (x rdata : Word) → octets_written x ≡ Some rdata → P (client_call w (calls.Reconfirm (doubted q rdata))))
      → (ws : List Word) → IfSome (reconfirm_line ws) P
  reconfirm_reads h [] = tt
  reconfirm_reads h (v ∷ []) = tt
  reconfirm_reads h (v ∷ n ∷ []) = tt
  reconfirm_reads h (v ∷ n ∷ k ∷ []) = tt
  reconfirm_reads h (v ∷ n ∷ k ∷ c ∷ []) = tt
  reconfirm_reads h (v ∷ n ∷ k ∷ c ∷ x ∷ []) = bind_reads P (word v) _ (λ w is. bind_reads P (question n k c) _ (λ q at. bind_reads P (octets_written x) _ (λ rdata there. h v w is n k c q at x rdata there)))
  reconfirm_reads h (v ∷ n ∷ k ∷ c ∷ x ∷ y ∷ ws) = tt

  pub stop_reads : ((v w : Word) → word v ≡ Some w → (x : Word) (rcode : ℕ) → number max_rcode x ≡ Some rcode → (y : Word) (delay : ℕ) → number32 y ≡ Some delay → P (session_event w (session_events.Stop rcode delay)))
      → (ws : List Word) → IfSome (stop_line ws) P
  stop_reads h [] = tt
  stop_reads h (v ∷ []) = tt
  stop_reads h (v ∷ x ∷ []) = tt
  stop_reads h (v ∷ x ∷ y ∷ []) = bind_reads P (word v) _ (λ w is. bind_reads P (number max_rcode x) _ (λ rcode at. bind_reads P (number32 y) _ (λ delay there. h v w is x rcode at y delay there)))
  stop_reads h (v ∷ x ∷ y ∷ z ∷ ws) = tt

  pub show_reads : ((v w : Word) → word v ≡ Some w → (n k c : Word) (q : Question) → question n k c ≡ Some q → P (show w q n)) → (ws : List Word) → IfSome (show_line ws) P
  show_reads h [] = tt
  show_reads h (v ∷ []) = tt
  show_reads h (v ∷ n ∷ []) = tt
  show_reads h (v ∷ n ∷ k ∷ []) = tt
  show_reads h (v ∷ n ∷ k ∷ c ∷ []) = bind_reads P (word v) _ (λ w is. bind_reads P (question n k c) _ (λ q at. h v w is n k c q at))
  show_reads h (v ∷ n ∷ k ∷ c ∷ x ∷ ws) = tt

-- ---- tables

-- P of each row of a table whose test holds, and so of what is chosen
abbrev pub AllSuch : {X : Type 0} → (X → Type 0) → List (Bool × X) → Type 0
AllSuch P [] = Unit {0}
AllSuch P (row ∷ rows) = (row.0 ≡ true → P row.1) × AllSuch P rows

pub chosen_such : {X : Type 0} (P : X → Type 0) (rows : List (Bool × X)) (otherwise : X) → AllSuch P rows → P otherwise → P (chosen rows otherwise)
chosen_such P [] otherwise all last = last
chosen_such P (row ∷ rows) otherwise all last = by row.0 all.0 (chosen_such P rows otherwise all.1 last)
  where
    by : (b : Bool) → (b ≡ true → P row.1) → P (chosen rows otherwise) → P (cond b row.1 (chosen rows otherwise))
    by true here rest = here refl
    by false here rest = rest

-- P of each line that the readers of a table of kinds give
abbrev pub EachReads : (ScriptLine → Type 0) → List Word → List (Bool × Kind) → Type 0
EachReads P ws [] = Unit {0}
EachReads P ws (row ∷ rows) = IfSome (line_behind row.1 ws) P × EachReads P ws rows

-- those for lines whose first word is w
pub record OnEach (P : ScriptLine → Type 0) (w : Word) (ws : List Word) : Type 0 where
  pub on_head : EachReads P ws (head_kinds w)
  pub on_hub : EachReads P ws (hub_kinds w)
  pub on_link : EachReads P ws (link_kinds w)
  pub on_session : EachReads P ws (session_kinds w)
  pub on_joining : EachReads P ws (joining_kinds w)
  pub on_call : EachReads P ws (call_kinds w)
  pub on_way : EachReads P ws (way_kinds w)
  pub on_client : EachReads P ws (client_kinds w)

-- ---- P of each line of a class

module _ (P : ScriptLine → Type 0) where
  pub head_reads : ((line : HeadLine) → P (head_line line)) → (w : Word) (ws : List Word) → EachReads P ws (head_kinds w)
  head_reads h w ws = (timers_reads P (λ v i is x k at long. h (timers i k)) ws, (zone_reads P (λ v apex is x serial at mode. h (zone apex serial mode)) ws, (link_reads P (λ v u is x domain at most. h (link u domain most)) ws, (reverse_reads P (λ v u is x domain at. h (reverse u domain)) ws, tt))))

  pub hub_reads : ((event : HubEvent) → P (hub_event event)) → (w : Word) (ws : List Word) → EachReads P ws (hub_kinds w)
  hub_reads h w ws = (at_reads P (λ v t is. h (hub_events.At t)) ws, (octets_reads P (λ o. hub_event (hub_events.Update o)) (λ v o is. h (hub_events.Update o)) ws, (alone_reads P (hub_event hub_events.Point) (h hub_events.Point) ws, tt)))

  pub on_link_reads : ((v : Word) (event : LinkEvent) → P (link_event v event)) → (w : Word) (ws : List Word) → EachReads P ws (link_kinds w)
  on_link_reads h w ws = (word_octets_reads P (λ v o. link_event v (link_events.Hear o)) (λ v u is x o at. h u (link_events.Hear o)) ws, (word_reads P (λ v. link_event v link_events.Gone) (λ v u is. h u link_events.Gone) ws, (word_reads P (λ v. link_event v link_events.Asks) (λ v u is. h u link_events.Asks) ws, tt)))

  pub session_reads : ((v : Word) (event : SessionEvent) → P (session_event v event)) → (w : Word) (ws : List Word) → EachReads P ws (session_kinds w)
  session_reads h w ws = (
    word_octets_reads P send (λ v u is x o at. h u (session_events.Send o)) ws,
    (stop_reads P (λ v u is x rcode at y delay there. h u (session_events.Stop rcode delay)) ws, (word_reads P (λ v. session_event v session_events.Cut) (λ v u is. h u session_events.Cut) ws, tt)),
  )

  pub joining_reads : ((v : Word) (is_lone : Bool) → P (joining v is_lone)) → (w : Word) (ws : List Word) → EachReads P ws (joining_kinds w)
  joining_reads h w ws = (word_reads P (λ v. joining v false) (λ v u is. h u false) ws, (word_reads P (λ v. joining v true) (λ v u is. h u true) ws, tt))

  pub call_reads : ((v : Word) (call : Call) → P (client_call v call)) → (w : Word) (ws : List Word) → EachReads P ws (call_kinds w)
  call_reads h w ws = (
    word_question_reads P ask (λ v u is n k c q at. h u (calls.Ask q)) ws,
    (word_question_reads P (λ v q. client_call v (calls.Drop q)) (λ v u is n k c q at. h u (calls.Drop q)) ws, (reconfirm_reads P (λ v u is n k c q at x rdata there. h u (calls.Reconfirm (doubted P q rdata))) ws, tt)),
  )

  pub way_reads : ((v : Word) (way : Way) → P (client_passing v way)) → (w : Word) (ws : List Word) → EachReads P ws (way_kinds w)
  way_reads h w ws = (by ways.Say, (by ways.Up, (by ways.Emit, (by ways.Down, (word_reads P settle (λ v u is. h u ways.Settle) ws, tt)))))
    where
      by : (way : ℕ → Way) → IfSome (of_word_and_number (λ v n. client_passing v (way n)) ws) P
      by way = word_number_reads P (λ v n. client_passing v (way n)) (λ v u is x n at. h u (way n)) ws

  pub client_reads : ((v : Word) (event : ClientEvent) → P (client_event v event)) → (w : Word) (ws : List Word) → EachReads P ws (client_kinds w)
  client_reads h w ws = (
    word_reads P open_connection (λ v u is. h u client_events.Open) ws,
    (word_octets_reads P feed (λ v u is x o at. h u (client_events.Feed o)) ws, (show_reads P (λ v u is n k c q at. h u (client_events.Show q n)) ws, tt)),
  )

  -- ---- P of each line

  on-rows : (ws : List Word) (rows : List (Bool × Kind)) → EachReads P ws rows → AllSuch (λ (kind : Kind). IfSome (line_behind kind ws) P) rows
  on-rows ws [] each = tt
  on-rows ws (row ∷ rows) each = (λ is. each.0, on-rows ws rows each.1)

  chosen_reads : (ws : List Word) (rows : List (Bool × Kind)) (otherwise : Kind) → EachReads P ws rows → IfSome (line_behind otherwise ws) P → IfSome (line_behind (chosen rows otherwise) ws) P
  chosen_reads ws rows otherwise each last = chosen_such (λ (kind : Kind). IfSome (line_behind kind ws) P) rows otherwise (on-rows ws rows each) last

  pub words-read : (w : Word) (ws : List Word) → OnEach P w ws → IfSome (of_words (w ∷ ws)) P
  words-read w ws each =
      chosen_reads ws (head_kinds w) _ each.on_head (chosen_reads ws (hub_kinds w) _ each.on_hub (chosen_reads ws (link_kinds w) _ each.on_link
      (chosen_reads ws (session_kinds w) _ each.on_session (chosen_reads ws (joining_kinds w) _ each.on_joining (chosen_reads ws (call_kinds w) _ each.on_call
      (chosen_reads ws (way_kinds w) _ each.on_way (chosen_reads ws (client_kinds w) kinds.Other each.on_client tt)))))))

  pub line-reads : P silent → ((w : Word) (ws : List Word) → OnEach P w ws) → (text : List ℕ) → IfSome (line_of text) P
  line-reads quiet each [] = quiet
  line-reads quiet each (c ∷ cs) =
      if_reads P (c == 35) (cond (is_utf8 cs) (Some silent) None) (of_words (words_in (c ∷ cs))) (λ hash. if_reads P (is_utf8 cs) (Some silent) None (λ good. quiet) (λ bad. tt)) (λ other. by (words_in (c ∷ cs)))
    where
      by : (words : List Word) → IfSome (of_words words) P
      by [] = tt
      by (w ∷ ws) = words-read w ws (each w ws)

-- ---- the kind of a line

-- what a line says, by its first word and those behind it
pub line_by_kind : (text w : List ℕ) (ws : List Word) → begins_silent text ≡ false → words_in text ≡ w ∷ ws → line_of text ≡ line_behind (kind_of w) ws
line_by_kind [] w ws speaks e = absurd cc
line_by_kind (c ∷ cs) w ws speaks e = ap (λ (b : Bool). cond b (cond (is_utf8 cs) (Some silent) None) (of_words (words_in (c ∷ cs)))) speaks ∙ ap of_words e

-- a line that begins with #
pub comment_inside : (cs : List ℕ) → is_utf8 cs ≡ true → Some silent ≡ line_of (35 ∷ cs)
comment_inside cs h = sym (ap (λ (b : Bool). cond b (Some silent) None) h)

pub comment_outside : (cs : List ℕ) → (IsUtf8 cs → ⊥) → None ≡ line_of (35 ∷ cs)
comment_outside cs never = elim (cases_Bool (is_utf8 cs)) [
  | inl is ↦ absurd (never (IsUtf8-from_is_utf8 cs is))
  | inr other ↦ sym (ap (λ (b : Bool). cond b (Some silent) None) other)
]
