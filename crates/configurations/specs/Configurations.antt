-- Configurations: texts of lines, as scripts are.
--     serving_of text, subscribing_of text      the configuration, or the number of the first line outside
--     serving_line draft text, subscribing_line draft text      what a further line makes of those before it
use Rattle.std.specs.Prelude.{ℕ, ◌==◌, Bool, not, ◌&&◌, ◌||◌, List, [], ◌∷◌, ◌++◌, length, Option, Some, None, Result, Ok, Err, nat_lt, codes, option_map, unwrap_or, if◌then◌else◌}
use Rattle.std.specs.List.{list_any, position}
use Rattle.std.specs.Str.{bytes_eq, is_utf8}
use Rattle.push_base.specs.Cases.{chosen, is_empty}
use Rattle.push_base.specs.Optional.{◌>>=◌}
use Rattle.push_base.specs.Limits.{max_number, max_questions}
use Rattle.rrset.specs.Records.{same_question}
use Rattle.rrset.specs.declared.record.Question.{Question}
use Rattle.scripts.specs.Lines.{Word, ScriptLine, silent, number_from, words_in, question, is, line_of}
use Rattle.scripts.specs.Scripts.{Known, nothing_known, is_head, fits}
use Rattle.scripts.specs.TextLines.{lines_taken}
use Rattle.scripts.specs.Heads.{Head, empty_head, with_head_line}
use Rattle.configurations.specs.declared.limits.TheConstants as limits
use Rattle.configurations.specs.declared.server_config.ServingKind.{ServingKind}
use Rattle.configurations.specs.declared.server_config.ServingKind.TheVariants as of_server
use Rattle.configurations.specs.declared.subscriber_config.SubscribingKind.{SubscribingKind}
use Rattle.configurations.specs.declared.subscriber_config.SubscribingKind.TheVariants as of_subscriber

-- ---- words and lines

-- the most sessions that are accepted, and the most turns
abbrev pub max_accepted : ℕ
max_accepted = limits.MAX_ACCEPTED

abbrev pub max_turns : ℕ
max_turns = limits.MAX_TURNS

-- one word that is handed on as it is
abbrev pub address : Word → Option Word
address w = if is_empty w || not (is_utf8 w) then None else Some w

-- each at most once
abbrev pub once : {X Y : Type 0} → Option X → Y → Option Y
once None y = Some y
once (Some x) y = None

-- the words of a line that is one number from one to another, where no line before has said it
abbrev pub number_once : ℕ → ℕ → Option ℕ → List Word → Option (Option ℕ)
number_once least greatest said (n ∷ []) = number_from least greatest n >>= λ k. once said (Some k)
number_once least greatest said _ = None

-- What is missing counts as the line behind the last.
abbrev pub unless_missing : {D X : Type 0} → (D → Option X) → Result (D × ℕ) ℕ → Result X ℕ
unless_missing whole (Err n) = Err n
unless_missing whole (Ok (draft, behind)) = elim (whole draft) [ None ↦ Err behind | Some x ↦ Ok x ]

abbrev pub read_lines : {D X : Type 0} → (D → List ℕ → Option D) → (D → Option X) → D → List ℕ → Result X ℕ
read_lines line whole draft text = unless_missing whole (lines_taken line draft text)

-- ---- of a server

-- what its head lines make, where it listens, how many sessions it accepts, the sockets of its links, each with the link's number, and the turns of each loop
pub record Serving : Type 0 where
  pub head : Head
  pub listen : Word
  pub sessions : ℕ
  pub feeds : List (ℕ × Word)
  pub turns : ℕ

-- the same of the lines so far, with what these have made
pub record ServingDraft : Type 0 where
  pub head : Head
  pub known : Known
  pub listen : Option Word
  pub sessions : Option ℕ
  pub feeds : List (ℕ × Word)
  pub turns : Option ℕ

abbrev pub no_serving : ServingDraft
no_serving = record { head = empty_head; known = nothing_known; listen = None; sessions = None; feeds = []; turns = None }

abbrev pub listen_line : ServingDraft → List Word → Option ServingDraft
listen_line d (a ∷ []) = address a >>= λ w. once d.listen (record d { listen = Some w })
listen_line d _ = None

abbrev pub sessions_line : ServingDraft → List Word → Option ServingDraft
sessions_line d words = option_map (λ n. record d { sessions = n }) (number_once 1 max_accepted d.sessions words)

abbrev pub turns_line : ServingDraft → List Word → Option ServingDraft
turns_line d words = option_map (λ n. record d { turns = n }) (number_once 0 max_turns d.turns words)

-- one socket for each link, which a line before it has named
abbrev pub is_fed : List (ℕ × Word) → ℕ → Bool
is_fed feeds link = list_any (λ f. link == f.0) feeds

abbrev pub feed_line : ServingDraft → List Word → Option ServingDraft
feed_line d (l ∷ a ∷ []) = position (bytes_eq l) d.known.links >>= λ link. address a >>= λ w. if is_fed d.feeds link then None else Some (record d { feeds = d.feeds ++ (link, w) ∷ [] })
feed_line d _ = None

-- a line that may stand there in the head of a script
abbrev pub head_line : ServingDraft → List ℕ → Option ServingDraft
head_line d text = line_of text >>= λ line. if is_head line then option_map (λ k. record d { head = with_head_line d.head line; known = k }) (fits [] d.known line) else None

-- by its first word
abbrev pub serving_kind : Word → ServingKind
serving_kind w = chosen (
    (is w (codes "listen"), of_server.Listen)
    ∷ (is w (codes "sessions"), of_server.Sessions)
    ∷ (is w (codes "feed"), of_server.Feed)
    ∷ (is w (codes "turns"), of_server.Turns)
    ∷ []
    ) of_server.Head

-- by the words behind the first
abbrev pub serving_behind : ServingKind → ServingDraft → List ℕ → List Word → Option ServingDraft
serving_behind of_server.Listen d text rest = listen_line d rest
serving_behind of_server.Sessions d text rest = sessions_line d rest
serving_behind of_server.Feed d text rest = feed_line d rest
serving_behind of_server.Turns d text rest = turns_line d rest
serving_behind of_server.Head d text rest = head_line d text

abbrev pub serving_words : ServingDraft → List ℕ → List Word → Option ServingDraft
serving_words d text [] = None
serving_words d text (w ∷ rest) = serving_behind (serving_kind w) d text rest

abbrev pub serving_line : ServingDraft → List ℕ → Option ServingDraft
serving_line d text = serving_words d text (words_in text)

-- where nothing is missing
abbrev pub serving_whole : ServingDraft → Option Serving
serving_whole d = d.listen >>= λ listen. d.sessions >>= λ sessions.
    Some (record { head = d.head; listen = listen; sessions = sessions; feeds = d.feeds; turns = unwrap_or d.turns max_turns })

abbrev pub serving_of : List ℕ → Result Serving ℕ
serving_of text = read_lines serving_line serving_whole no_serving text

-- ---- of a subscriber

-- the server, what is asked, after how many messages it ends, if they are counted, and after how many reads
pub record Subscribing : Type 0 where
  pub server : Word
  pub questions : List Question
  pub messages : Option ℕ
  pub turns : ℕ

pub record SubscribingDraft : Type 0 where
  pub server : Option Word
  pub questions : List Question
  pub messages : Option ℕ
  pub turns : Option ℕ

abbrev pub no_subscribing : SubscribingDraft
no_subscribing = record { server = None; questions = []; messages = None; turns = None }

abbrev pub server_line : SubscribingDraft → List Word → Option SubscribingDraft
server_line d (a ∷ []) = address a >>= λ w. once d.server (record d { server = Some w })
server_line d _ = None

-- all questions are different, and there are at most 1,024
abbrev pub may_ask : SubscribingDraft → Question → Bool
may_ask d q = not (list_any (same_question q) d.questions) && nat_lt (length d.questions) max_questions

abbrev pub question_line : SubscribingDraft → List Word → Option SubscribingDraft
question_line d (n ∷ k ∷ c ∷ []) = question n k c >>= λ q. if may_ask d q then Some (record d { questions = d.questions ++ q ∷ [] }) else None
question_line d _ = None

abbrev pub messages_line : SubscribingDraft → List Word → Option SubscribingDraft
messages_line d words = option_map (λ n. record d { messages = n }) (number_once 0 max_number d.messages words)

abbrev pub reads_line : SubscribingDraft → List Word → Option SubscribingDraft
reads_line d words = option_map (λ n. record d { turns = n }) (number_once 0 max_turns d.turns words)

-- a line that is empty or begins with # says nothing
abbrev pub unless_silent : SubscribingDraft → Option ScriptLine → Option SubscribingDraft
unless_silent d (Some silent) = Some d
unless_silent d _ = None

-- by its first word
abbrev pub subscribing_kind : Word → SubscribingKind
subscribing_kind w = chosen (
    (is w (codes "server"), of_subscriber.Server)
    ∷ (is w (codes "question"), of_subscriber.Question)
    ∷ (is w (codes "messages"), of_subscriber.Messages)
    ∷ (is w (codes "turns"), of_subscriber.Turns)
    ∷ []
    ) of_subscriber.Other

-- by the words behind the first
abbrev pub subscribing_behind : SubscribingKind → SubscribingDraft → List ℕ → List Word → Option SubscribingDraft
subscribing_behind of_subscriber.Server d text rest = server_line d rest
subscribing_behind of_subscriber.Question d text rest = question_line d rest
subscribing_behind of_subscriber.Messages d text rest = messages_line d rest
subscribing_behind of_subscriber.Turns d text rest = reads_line d rest
subscribing_behind of_subscriber.Other d text rest = unless_silent d (line_of text)

abbrev pub subscribing_words : SubscribingDraft → List ℕ → List Word → Option SubscribingDraft
subscribing_words d text [] = None
subscribing_words d text (w ∷ rest) = subscribing_behind (subscribing_kind w) d text rest

abbrev pub subscribing_line : SubscribingDraft → List ℕ → Option SubscribingDraft
subscribing_line d text = subscribing_words d text (words_in text)

-- where nothing is missing
abbrev pub subscribing_whole : SubscribingDraft → Option Subscribing
subscribing_whole d = d.server >>= λ server. if is_empty d.questions then None
    else Some (record { server = server; questions = d.questions; messages = d.messages; turns = unwrap_or d.turns max_turns })

abbrev pub subscribing_of : List ℕ → Result Subscribing ℕ
subscribing_of text = read_lines subscribing_line subscribing_whole no_subscribing text
