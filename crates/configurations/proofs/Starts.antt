-- Every configuration of a server begins with homes and timers with which a hub can begin.
use Rattle.std.proofs.Common.{◌≡◌, ℕ, Bool, true, false, cond, Option, Some, None, Result, Ok, Err, List, [], ◌∷◌, refl, ◌∙◌, ap, subst, arith}
use Rattle.std.specs.Prelude.{option_map, unwrap_or}
use Rattle.std.specs.List.{position}
use Rattle.std.specs.Str.{bytes_eq}
use Rattle.push_base.specs.Optional.{◌>>=◌}
use Rattle.scripts.specs.Lines as script
use Rattle.scripts.specs.Lines.{Word, HeadLine, timers, zone, link, reverse, ScriptLine, silent, words_in, line_of}
use Rattle.scripts.specs.Scripts.{Known, is_head, fits}
use Rattle.scripts.specs.Heads.{empty_head, with_head, with_head_line}
use Rattle.scripts.specs.TextLines.{lines_taken}
use Rattle.scripts.proofs.lines.LineByLine.{kept}
use Rattle.scripts.proofs.lines.MoreLines.{start_more, start_linked, start_reversed}
use Rattle.configurations.specs.Configurations.{Serving, ServingDraft, no_serving, max_accepted, max_turns, address, number_once, once, is_fed, listen_line, sessions_line, turns_line, feed_line, head_line, serving_kind, serving_behind, serving_words, serving_line, serving_whole, serving_of, unless_missing}
use Rattle.configurations.specs.declared.server_config.ServingKind.{ServingKind}
use Rattle.configurations.specs.declared.server_config.ServingKind.TheVariants as of_server
use Rattle.configurations.specs.Kept.{CanServe}
use Rattle.configurations.proofs.Granted.{granted}
use Rattle.configurations.proofs.TakenLines.{or_missing}

-- ---- what may come

-- whatever comes of it meets P
abbrev Only : {A : Type 0} → (A → Type 0) → Option A → Type 0
Only {A} P o = (a : A) → o ≡ Some a → P a

some_is : {A : Type 0} (a b : A) → Some a ≡ Some b → a ≡ b
some_is {A} a b e = ap (λ (o : Option A). unwrap_or o a) e

only_none : {A : Type 0} (P : A → Type 0) → Only P None
only_none P a e = absurd cc

only_some : {A : Type 0} (P : A → Type 0) (x : A) → P x → Only P (Some x)
only_some P x p a e = subst P (some_is x a e) p

only_bind : {A B : Type 0} (P : B → Type 0) (o : Option A) (f : A → Option B) → ((a : A) → Only P (f a)) → Only P (o >>= f)
only_bind P None f h = only_none P
only_bind P (Some a) f h = h a

only_map : {A B : Type 0} (P : B → Type 0) (o : Option A) (f : A → B) → ((a : A) → P (f a)) → Only P (option_map f o)
only_map P None f h = only_none P
only_map P (Some a) f h = only_some P (f a) (h a)

only_once : {A B : Type 0} (P : B → Type 0) (o : Option A) (x : B) → P x → Only P (once o x)
only_once P None x p = only_some P x p
only_once P (Some a) x p = only_none P

only_unless : {A : Type 0} (P : A → Type 0) (b : Bool) (x : A) → P x → Only P (cond b None (Some x))
only_unless P true x p = only_none P
only_unless P false x p = only_some P x p

-- ---- a line

abbrev Serves : ServingDraft → Type 0
Serves d = CanServe d.head

listen_serves : (d : ServingDraft) (ws : List Word) → Serves d → Only Serves (listen_line d ws)
listen_serves d [] s = only_none Serves
listen_serves d (a ∷ []) s = only_bind Serves (address a) _ (λ w. only_once Serves d.listen (record d { listen = Some w }) s)
listen_serves d (a ∷ b ∷ ws) s = only_none Serves

sessions_serves : (d : ServingDraft) (ws : List Word) → Serves d → Only Serves (sessions_line d ws)
sessions_serves d ws s = only_map Serves (number_once 1 max_accepted d.sessions ws) (λ n. record d { sessions = n }) (λ n. s)

turns_serves : (d : ServingDraft) (ws : List Word) → Serves d → Only Serves (turns_line d ws)
turns_serves d ws s = only_map Serves (number_once 0 max_turns d.turns ws) (λ n. record d { turns = n }) (λ n. s)

feed_serves : (d : ServingDraft) (ws : List Word) → Serves d → Only Serves (feed_line d ws)
feed_serves d [] s = only_none Serves
feed_serves d (l ∷ []) s = only_none Serves
feed_serves d (l ∷ a ∷ []) s = only_bind Serves (position (bytes_eq l) d.known.links) _ (λ n. only_bind Serves (address a) _ (λ w. only_unless Serves (is_fed d.feeds n) _ s))
feed_serves d (l ∷ a ∷ b ∷ ws) s = only_none Serves

abbrev behind_line : ServingDraft → ScriptLine → Known → ServingDraft
behind_line d line k = record d { head = with_head_line d.head line; known = k }

abbrev with_line : ServingDraft → ScriptLine → Option ServingDraft
with_line d line = option_map (behind_line d line) (fits [] d.known line)

line_serves : (d : ServingDraft) (text : List ℕ) (line : ScriptLine) → line_of text ≡ Some line → Serves d → Only Serves (cond (is_head line) (with_line d line) None)
line_serves d text silent e s = only_map Serves (fits [] d.known silent) (behind_line d silent) (λ k. s)
line_serves d text (script.head_line line) e s = only_map Serves (fits [] d.known (script.head_line line)) (behind_line d (script.head_line line)) (λ k. by line e)
  where
    by : (line : HeadLine) → line_of text ≡ Some (script.head_line line) → CanServe (with_head d.head line)
    by (timers i m) e = record { start = s.start; keepalive = granted text i m e }
    by (zone apex serial mode) e = record { start = start_more d.head.start apex serial mode s.start; keepalive = s.keepalive }
    by (link w domain most) e = record { start = start_linked d.head.start (record { domain = domain; reverses = []; cap = most }) s.start; keepalive = s.keepalive }
    by (reverse w domain) e = record { start = start_reversed d.head.start (position (bytes_eq w) d.head.links) domain s.start; keepalive = s.keepalive }
line_serves d text _ e s = only_none Serves

head_serves : (d : ServingDraft) (text : List ℕ) → Serves d → Only Serves (head_line d text)
head_serves d text s = by (line_of text) refl
  where
    by : (o : Option ScriptLine) → line_of text ≡ o → Only Serves (o >>= λ line. cond (is_head line) (with_line d line) None)
    by None e = only_none Serves
    by (Some line) e = line_serves d text line e s

behind_serves : (kind : ServingKind) (d : ServingDraft) (text : List ℕ) (rest : List Word) → Serves d → Only Serves (serving_behind kind d text rest)
behind_serves of_server.Listen d text rest s = listen_serves d rest s
behind_serves of_server.Sessions d text rest s = sessions_serves d rest s
behind_serves of_server.Feed d text rest s = feed_serves d rest s
behind_serves of_server.Turns d text rest s = turns_serves d rest s
behind_serves of_server.Head d text rest s = head_serves d text s

words_serve : (ws : List Word) (d : ServingDraft) (text : List ℕ) → Serves d → Only Serves (serving_words d text ws)
words_serve [] d text s = only_none Serves
words_serve (w ∷ rest) d text s = behind_serves (serving_kind w) d text rest s

line_keeps : (d later : ServingDraft) (text : List ℕ) → Serves d → serving_line d text ≡ Some later → Serves later
line_keeps d later text s e = words_serve (words_in text) d text s later e

-- ---- all lines

whole_serves : (d : ServingDraft) (x : Serving) → Serves d → serving_whole d ≡ Some x → CanServe x.head
whole_serves d x s e = by d.listen d.sessions (λ w k. record { head = d.head; listen = w; sessions = k; feeds = d.feeds; turns = unwrap_or d.turns max_turns }) (λ w k. s) x e
  where
    by : (listen : Option Word) (sessions : Option ℕ) (f : Word → ℕ → Serving) → ((w : Word) (k : ℕ) → CanServe (f w k).head) → Only (λ (y : Serving). CanServe y.head) (listen >>= λ w. sessions >>= λ k. Some (f w k))
    by listen sessions f h = only_bind (λ (y : Serving). CanServe y.head) listen _ (λ w. only_bind (λ (y : Serving). CanServe y.head) sessions _ (λ k. only_some (λ (y : Serving). CanServe y.head) (f w k) (h w k)))

abbrev some_read : Result Serving ℕ → Option Serving
some_read (Ok x) = Some x
some_read (Err n) = None

no_start : CanServe empty_head
no_start = record { start = record { zones = λ k d before. absurd (omega (arith, before)); links = λ k d before. absurd (omega (arith, before)); now = refl }; keepalive = omega arith }

pub serves : (text : List ℕ) (x : Serving) → serving_of text ≡ Ok x → CanServe x.head
serves text x e = by (lines_taken serving_line no_serving text) refl e
  where
    at_end : (draft : ServingDraft) (behind : ℕ) → Serves draft → (o : Option Serving) → serving_whole draft ≡ o → or_missing behind o ≡ Ok x → CanServe x.head
    at_end draft behind s None none e = absurd cc
    at_end draft behind s (Some y) some e = whole_serves draft x s (some ∙ ap some_read e)

    by : (all : Result (ServingDraft × ℕ) ℕ) → lines_taken serving_line no_serving text ≡ all → unless_missing serving_whole all ≡ Ok x → CanServe x.head
    by (Err n) is e = absurd cc
    by (Ok (draft, behind)) is e = at_end draft behind (kept serving_line Serves line_keeps no_serving text no_start (draft, behind) is) (serving_whole draft) refl e
