-- Configurations as the program holds them.
--     serving_kept configuration, serving_drafted draft      what is held stands for, of a server
--     subscribing_kept configuration, subscribing_drafted draft      and of a subscriber
--     CanServe head      a server can begin so
--     ReadsServing text read, ReadsSubscribing text read      what was read of a text
--     EndsServing draft number read, EndsSubscribing draft number read      nothing is missing behind the last line, or what is
use Rattle.std.specs.Prelude.{◌≡◌, ℕ, ◌≤◌, ◌==◌, Bool, true, false, List, map, Option, Some, None, Ok, Err, option_map, string_bytes}
use Rattle.std.specs.List.{list_any}
use Rattle.dsosession.specs.Timing.{least_keepalive}
use Rattle.history.specs.Kept.{state_of}
use Rattle.history.specs.Plans.{IsStart}
use Rattle.scripts.specs.Lines.{Word, ScriptLine, silent, line_of}
use Rattle.scripts.specs.Heads.{Head}
use Rattle.scripts.specs.KeptLines.{words_of}
use Rattle.scripts.specs.Drafts.{head_taken, known_of, taken_of}
use Rattle.configurations.specs.Configurations.{Serving, ServingDraft, serving_whole, serving_of, Subscribing, SubscribingDraft, subscribing_whole, subscribing_of}
use Rattle.configurations.specs.declared.server_config.FedLink.{FedLink}
use Rattle.configurations.specs.declared.server_config.ServeConfiguration.{ServeConfiguration}
use Rattle.configurations.specs.declared.server_config.ServeDraft.{ServeDraft}
use Rattle.configurations.specs.declared.server_config.ReadServe.{ReadServe}
use Rattle.configurations.specs.declared.server_config.ReadServe.TheVariants as serve
use Rattle.configurations.specs.declared.subscriber_config.SubscribeConfiguration.{SubscribeConfiguration}
use Rattle.configurations.specs.declared.subscriber_config.SubscribeDraft.{SubscribeDraft}
use Rattle.configurations.specs.declared.subscriber_config.ReadSubscribe.{ReadSubscribe}
use Rattle.configurations.specs.declared.subscriber_config.ReadSubscribe.TheVariants.{Whole, Outside}

-- ---- of a server

abbrev pub fed_links : List FedLink → List (ℕ × Word)
fed_links feeds = map (λ (f : FedLink). (f.link, string_bytes f.address)) feeds

-- whether one of those is of this link
abbrev pub is_any_fed : ℕ → List FedLink → Bool
is_any_fed link feeds = list_any (λ (f : FedLink). link == f.link) feeds

abbrev pub head_kept : ServeConfiguration → Head
head_kept c = record { timers = c.timers; start = state_of c.homes; links = words_of c.links.items }

abbrev pub serving_kept : ServeConfiguration → Serving
serving_kept c = record { head = head_kept c; listen = string_bytes c.listen; sessions = c.sessions; feeds = fed_links c.feeds.items; turns = c.turns }

abbrev pub serving_drafted : ServeDraft → ServingDraft
serving_drafted d = record {
  head = head_taken (taken_of d.head);
  known = known_of (taken_of d.head);
  listen = option_map (λ w. string_bytes w) d.listen;
  sessions = d.sessions;
  feeds = fed_links d.feeds.items;
  turns = d.turns;
}

-- a hub can begin with these homes, and such timers can be granted (RFC 8490, 6.5.2)
pub record CanServe (head : Head) : Type 0 where
  pub start : IsStart head.start
  pub keepalive : least_keepalive ≤ head.timers.keepalive

-- the configuration, with which a server can begin, or the number of the first line outside
abbrev pub ReadsServing : List ℕ → ReadServe → Type 0
ReadsServing text (serve.Whole c) = (serving_of text ≡ Ok (serving_kept c)) × CanServe (head_kept c)
ReadsServing text (serve.Outside n) = serving_of text ≡ Err n

-- nothing is missing behind the last line, or it counts as the line with this number
abbrev pub EndsServing : ServingDraft → ℕ → ReadServe → Type 0
EndsServing draft number (serve.Whole c) = serving_whole draft ≡ Some (serving_kept c)
EndsServing draft number (serve.Outside n) = (n ≡ number) × (serving_whole draft ≡ None)

-- ---- of a subscriber

abbrev pub subscribing_kept : SubscribeConfiguration → Subscribing
subscribing_kept c = record { server = string_bytes c.server; questions = c.questions.items; messages = c.messages; turns = c.turns }

abbrev pub subscribing_drafted : SubscribeDraft → SubscribingDraft
subscribing_drafted d = record { server = option_map (λ w. string_bytes w) d.server; questions = d.questions.items; messages = d.messages; turns = d.turns }

-- the configuration, or the number of the first line outside
abbrev pub ReadsSubscribing : List ℕ → ReadSubscribe → Type 0
ReadsSubscribing text (Whole c) = subscribing_of text ≡ Ok (subscribing_kept c)
ReadsSubscribing text (Outside n) = subscribing_of text ≡ Err n

-- nothing is missing behind the last line, or it counts as the line with this number
abbrev pub EndsSubscribing : SubscribingDraft → ℕ → ReadSubscribe → Type 0
EndsSubscribing draft number (Whole c) = subscribing_whole draft ≡ Some (subscribing_kept c)
EndsSubscribing draft number (Outside n) = (n ≡ number) × (subscribing_whole draft ≡ None)

-- whether a line says nothing
abbrev pub says_nothing : Option ScriptLine → Bool
says_nothing (Some silent) = true
says_nothing _ = false

abbrev pub is_silent : List ℕ → Bool
is_silent text = says_nothing (line_of text)
