-- The line of what a link is asked, and lines that tell no such thing.
--     runs-act      a line that tells nothing of what links are asked
--     asks-act      a line that does
use Rattle.std.proofs.Common.{◌≡◌, ℕ, List, [], ◌∷◌, ◌++◌, map, length, Option, Some, Global, refl, sym, ◌∙◌, ap, subst, append_assoc, append-nil, codes, decimal, string_bytes, IfOk, Result, Ok, Err}
use Rattle.std.specs.Prelude.{position}
use Rattle.std.specs.Str.{bytes_eq}
use Rattle.std.specs.declared.string.String.{String}
use Rattle.pushserver.specs.Calls.{HubCall}
use Rattle.pushserver.specs.Hubs.{state_now}
use Rattle.pushserver.specs.KeptHubs.{KeptHub}
use Rattle.pushserver.specs.KeptHubs as kept_hubs
use Rattle.hubasking.specs.AskingHubs.{AskingHub}
use Rattle.hubasking.specs.LinkAskings.{Askings, asks_all}
use Rattle.history.specs.States.{State}
use Rattle.scripts.specs.Lines.{Word, ScriptLine, link_event}
use Rattle.scripts.specs.Words.{spaced, ended_lines}
use Rattle.scripts.specs.declared.line.LinkEvent.TheVariants as link_events
use Rattle.replay.specs.World.{World}
use Rattle.replay.specs.TextWords.{HeldRecords}
use Rattle.replay.specs.Text.{Printed, link_number, number_or_zero, line_does}
use Rattle.replay.specs.Askings.{AreOrdered, asked_words, asked_lines, calls_asks, line_asks}
use Rattle.replay.specs.KeptAsks.{out_lines, HasAsked, AsksAll}
use Rattle.replay.specs.KeptWorlds.{Parties, StandsForWorld, HasPrinted, Acts, Runs}
use Rattle.replay.proofs.worlds.Doing.{one_line, two_parts, worded}

-- ---- lines that tell nothing of it

pub runs-act : (records : HeldRecords) (line : ScriptLine) (calls : World → List HubCall) (kept later : AskingHub) (known known_later : Parties) (written : List ℕ)
    → ((world : World) (askings : Askings) → line_asks line world askings ≡ calls_asks (calls world) world.hub askings) → ((world : World) (askings : Askings) → asked_lines line world askings ≡ [])
    → Acts (line_does records line) calls kept known written later known_later → Runs records line kept known written later known_later
unfolding Acts Runs
runs-act records line calls kept later known known_later written asks tells does world s d ordered =
    let p = does world s d in
    let one = line_does records line world in
    record {
      text = p.text ∙ ap (λ (ls : List (List ℕ)). ended_lines ls) (sym (append-nil one.1)) ∙ ap (λ (ls : List (List ℕ)). ended_lines (one.1 ++ ls)) (sym (tells world kept.askings));
      stands = p.stands;
      asks = p.asks ∙ sym (asks world kept.askings);
    }

pub if_runs : {E : Type 0} (records : HeldRecords) (line : ScriptLine) (calls : World → List HubCall) (kept later : AskingHub) (known known_later : Parties) (r : Result (String Global) E)
    → ((world : World) (askings : Askings) → line_asks line world askings ≡ calls_asks (calls world) world.hub askings) → ((world : World) (askings : Askings) → asked_lines line world askings ≡ [])
    → IfOk r (λ text. Acts (line_does records line) calls kept known (string_bytes text) later known_later) → IfOk r (λ text. Runs records line kept known (string_bytes text) later known_later)
if_runs records line calls kept later known known_later (Ok text) asks tells does = runs-act records line calls kept later known known_later (string_bytes text) asks tells does
if_runs records line calls kept later known known_later (Err e) asks tells does = tt

-- ---- what a link is asked

-- the state is that of the plain hub
state-kept : (kept : KeptHub) (world : World) → kept_hubs.StandsFor kept world.hub → state_now kept ≡ state_now world.hub
state-kept kept world stands = stands.state

asked-text : (w : Word) (sent : List (List ℕ)) → (codes "asks " ++ two_parts w (decimal (length sent))) ++ ended_lines (out_lines sent) ≡ ended_lines (asked_words w sent)
asked-text w sent = ap (λ (l : List ℕ). l ++ ended_lines (out_lines sent)) (worded (codes "asks ") w (decimal (length sent)))

pub asks-act : (records : HeldRecords) (kept later : AskingHub) (known : Parties) (w : Word) (link count : ℕ) (told written : List ℕ) → link ≡ number_or_zero (position (bytes_eq w) known.links)
    → AsksAll kept link count told later → written ≡ (codes "asks " ++ two_parts w (decimal count)) ++ told → Runs records (link_event w link_events.Asks) kept known written later known
unfolding AsksAll Runs
asks-act records kept later known w link count told written at asked is world s d ordered =
    let there : link ≡ link_number w world = at ∙ ap (λ (ls : List Word). number_or_zero (position (bytes_eq w) ls)) s.links in
    let all : HasAsked (asks_all (state_now world.hub) kept.askings (link_number w world)) count told later.askings =
    subst (λ (t : State). HasAsked (asks_all t kept.askings (link_number w world)) count told later.askings) (state-kept kept.hub world s.hub)
    (subst (λ (n : ℕ). HasAsked (asks_all (state_now kept.hub) kept.askings n) count told later.askings) there (asked.1 ordered)) in
    let sent = (asks_all (state_now world.hub) kept.askings (link_number w world)).0 in
    record {
      text = is ∙ (λ i. (codes "asks " ++ two_parts w (decimal (all.number i))) ++ all.lines i) ∙ asked-text w sent;
      stands = record { hub = subst (λ (h : KeptHub). kept_hubs.StandsFor h world.hub) (sym asked.0) s.hub; peers = s.peers; seats = s.seats; links = s.links };
      asks = all.asks;
    }
