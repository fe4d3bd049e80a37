-- The examples of texts with addresses and comments, of which each is UTF-8.
use Rattle.std.proofs.Common.{◌≡◌, ℕ, Bool, true, false, not, cond, Option, Some, None, Result, Ok, Err, List, [], ◌∷◌, ◌++◌, codes, refl, sym, ◌∙◌, ap}
use Rattle.std.specs.List.{position}
use Rattle.std.specs.Str.{bytes_eq, is_utf8}
use Rattle.std.proofs.lemmas.Str.{is_utf8-from_IsUtf8}
use Rattle.push_base.specs.Optional.{◌>>=◌}
use Rattle.dnsname.specs.Text.{name}
use Rattle.history.specs.States.{no_cap}
use Rattle.history.specs.declared.entry.HomeKind.TheVariants as of_home
use Rattle.scripts.specs.Lines.{Word, ScriptLine, head_line, link}
use Rattle.scripts.specs.Scripts.{nothing_known, known_behind}
use Rattle.scripts.specs.Heads.{empty_head, with_head_line}
use Rattle.scripts.proofs.lines.Readers.{comment_inside}
use Rattle.scripts.proofs.lines.LineByLine.{fits_by}
use Rattle.scripts.proofs.lines.LineWords.{word_utf8}
use Rattle.configurations.specs.Configurations.{Serving, ServingDraft, no_serving, address, once, is_fed, serving_line, serving_whole, serving_of, Subscribing, SubscribingDraft, no_subscribing, subscribing_line, subscribing_whole, subscribing_of, unless_missing}
use Rattle.configurations.specs.Worked.{text, served, serving, asking, soa, all_records, subscribing}
use Rattle.configurations.proofs.HeadLines.{by_line}

abbrev here : Word
here = codes "here"

is_text : is_utf8 here ≡ true
is_text = is_utf8-from_IsUtf8 here (word_utf8 here refl)

is_address : address here ≡ Some here
is_address = ap (λ (b : Bool). cond (not b) None (Some here)) is_text

-- ---- of a server

abbrev listening : ServingDraft → Option Word → Option ServingDraft
listening d a = a >>= λ w. once d.listen (record d { listen = Some w })

listens : (d : ServingDraft) → serving_line d (codes "listen here") ≡ listening d (Some here)
listens d = ap (listening d) is_address

abbrev feeding : ServingDraft → Option Word → Option ServingDraft
feeding d a = position (bytes_eq (codes "lan")) d.known.links >>= λ link. a >>= λ w. cond (is_fed d.feeds link) None (Some (record d { feeds = d.feeds ++ (link, w) ∷ [] }))

feeds : (d : ServingDraft) → serving_line d (codes "feed lan here") ≡ feeding d (Some here)
feeds d = ap (feeding d) is_address

-- behind a line, by what it made
abbrev serving_behind_line : ℕ → List (List ℕ) → Option ServingDraft → Result Serving ℕ
serving_behind_line n rest later = unless_missing serving_whole (fits_by serving_line false n rest later)

pub without_sessions : serving_of (text (codes "listen here" ∷ [])) ≡ Err 2
without_sessions = ap (serving_behind_line 1 []) (listens no_serving)

abbrev listened : ServingDraft
listened = record no_serving { listen = Some here }

pub listens_twice : serving_of (text (codes "listen here" ∷ codes "listen here" ∷ codes "sessions 1" ∷ [])) ≡ Err 2
listens_twice = ap (serving_behind_line 1 (codes "listen here" ∷ codes "sessions 1" ∷ [])) (listens no_serving) ∙ ap (serving_behind_line 2 (codes "sessions 1" ∷ [])) (listens listened)

abbrev lan : ScriptLine
lan = head_line (link (codes "lan") (name (codes "lan.example.com.")) no_cap)

abbrev linked : ServingDraft
linked = record no_serving { head = with_head_line empty_head lan; known = known_behind nothing_known lan }

pub feeds_twice : serving_of (text (codes "link lan lan.example.com." ∷ codes "feed lan here" ∷ codes "feed lan here" ∷ [])) ≡ Err 3
feeds_twice = ap (serving_behind_line 2 (codes "feed lan here" ∷ [])) (feeds linked) ∙ ap (serving_behind_line 3 []) (feeds (record linked { feeds = (0, here) ∷ [] }))

-- all lines but the last two
abbrev homes_named : ServingDraft
homes_named = record listened { head = serving.head; known = record nothing_known { has_timers = true; homes = (name (codes "example.com."), of_home.Zone) ∷ (name (codes "lan.example.com."), of_home.Link) ∷ (name (codes "2.0.192.in-addr.arpa."), of_home.Reverse) ∷ []; links = codes "lan" ∷ [] } }

abbrev heads : List (List ℕ)
heads = [] ∷ codes "timers 20000 10000" ∷ codes "zone example.com. 7 open" ∷ codes "link lan lan.example.com. 120" ∷ codes "reverse lan 2.0.192.in-addr.arpa." ∷ codes "feed lan here" ∷ codes "sessions 1000000" ∷ []

pub all_lines : serving_of served ≡ Ok serving
all_lines =
    ap (serving_behind_line 1 (codes "#here" ∷ heads)) (listens no_serving)
    ∙ ap (λ (o : Option ScriptLine). serving_behind_line 2 heads (by_line listened o)) (sym (comment_inside here is_text))
    ∙ ap (serving_behind_line 8 (codes "sessions 1000000" ∷ [])) (feeds homes_named)

-- ---- of a subscriber

abbrev named : SubscribingDraft → Option Word → Option SubscribingDraft
named d a = a >>= λ w. once d.server (record d { server = Some w })

names : (d : SubscribingDraft) → subscribing_line d (codes "server here") ≡ named d (Some here)
names d = ap (named d) is_address

abbrev subscribing_behind_line : ℕ → List (List ℕ) → Option SubscribingDraft → Result Subscribing ℕ
subscribing_behind_line n rest later = unless_missing subscribing_whole (fits_by subscribing_line false n rest later)

pub without_question : subscribing_of (text (codes "server here" ∷ [])) ≡ Err 2
without_question = ap (subscribing_behind_line 1 []) (names no_subscribing)

pub all_asked : subscribing_of asking ≡ Ok subscribing
all_asked = ap (subscribing_behind_line 4 (codes "turns 3" ∷ [])) (names (record no_subscribing { questions = soa ∷ all_records ∷ []; messages = Some 0 }))
