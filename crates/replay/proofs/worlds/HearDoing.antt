-- What a link prints, with a datagram and where it goes away, and the world behind it.
--     hears-act, goes-act      the laws
--     few-links, link-told      the word of the link of a number
use Rattle.std.proofs.Common.{◌≡◌, ◌<◌, ℕ, zero, suc, Bool, Global, List, [], ◌∷◌, ◌++◌, Some, ◌∙◌, ap, subst, arith, codes, get_or, length, string_bytes}
use Rattle.std.specs.Prelude.{position}
use Rattle.std.specs.declared.string.String.{String}
use Rattle.std.proofs.lemmas.List.{length-map}
use Rattle.std.specs.Str.{bytes_eq}
use Rattle.pushserver.specs.Hubs as hubs
use Rattle.pushserver.specs.PlainHubs.{Hub}
use Rattle.pushserver.specs.Calls as hub_calls
use Rattle.pushserver.specs.Calls.{HubCall}
use Rattle.hubasking.specs.AskingHubs.{AskingHub}
use Rattle.pushserver.specs.declared.given.Heard.{Heard}
use Rattle.scripts.specs.Lines.{Word}
use Rattle.replay.specs.World.{World}
use Rattle.scripts.specs.declared.line.LinkEvent.TheVariants as link_events
use Rattle.replay.specs.Text.{Printed, printing, heard_words, hears, goes, number_or_zero, yes_or_no, link_calls}
use Rattle.replay.specs.Askings.{calls_asks}
use Rattle.replay.specs.KeptAskings.{StandsFor}
use Rattle.replay.proofs.calls.Behind.{AsksOnce}
use Rattle.scripts.specs.Events.{link_at}
use Rattle.scripts.specs.KeptLines.{words_of}
use Rattle.scripts.specs.Words.{spaced, ended_lines}
use Rattle.scripts.proofs.lines.Numbers.{within-found}
use Rattle.replay.specs.KeptWorlds.{Parties, HasPrinted, Acts}
use Rattle.replay.proofs.worlds.Doing.{one_line, worded, with_hub}

-- a datagram on a link
abbrev heard_on : List ℕ → World → ℕ → Printed
heard_on datagram world link = (let r = hubs.hear world.hub link datagram in printing (heard_words r.0 ∷ []) (record world { hub = r.1 }))

pub hears-act : (kept later : AskingHub) (known : Parties) (w : Word) (link : ℕ) (datagram written : List ℕ) (answer : Heard)
    → link ≡ number_or_zero (position (bytes_eq w) known.links)
    → ((hub : Hub) → StandsFor kept hub → (answer ≡ (hubs.hear hub link datagram).0) × StandsFor later (hubs.hear hub link datagram).1)
    → AsksOnce (hub_calls.hears link datagram) kept later → written ≡ heard_words answer ++ 10 ∷ [] → Acts (hears w datagram) (link_calls (link_events.Hear datagram) w) kept known written later known
unfolding Acts
hears-act kept later known w link datagram written answer at does asks is world s d =
    let r = does world.hub s.hub in
    let there : link ≡ number_or_zero (position (bytes_eq w) world.links) = at ∙ ap (λ (ls : List Word). number_or_zero (position (bytes_eq w) ls)) s.links in
    subst (λ (n : ℕ). HasPrinted (calls_asks (hub_calls.hears n datagram ∷ []) world.hub kept.askings) later known written (heard_on datagram world n)) there
    (record {
      text = is ∙ one_line (heard_words answer) ∙ ap (λ (a : Heard). ended_lines (heard_words a ∷ [])) r.0;
      stands = with_hub later (hubs.hear world.hub link datagram).1 kept known world s r.1;
      asks = asks world.hub s.hub;
    })

-- ---- a link that goes away

abbrev gone_on : Word → World → ℕ → Printed
gone_on w world link = (let r = hubs.link_gone world.hub link in printing (codes "gone" ∷ w ∷ yes_or_no r.0 ∷ []) (record world { hub = r.1 }))

-- its line
abbrev pub gone_written : Word → Bool → List ℕ
gone_written w is_gone = codes "gone " ++ (w ++ 32 ∷ (yes_or_no is_gone ++ 10 ∷ []))

pub goes-act : (kept later : AskingHub) (known : Parties) (w : Word) (link : ℕ) (written : List ℕ) (answer : Bool)
    → link ≡ number_or_zero (position (bytes_eq w) known.links)
    → ((hub : Hub) → StandsFor kept hub → (answer ≡ (hubs.link_gone hub link).0) × StandsFor later (hubs.link_gone hub link).1)
    → AsksOnce (hub_calls.goes link) kept later → written ≡ gone_written w answer → Acts (goes w) (link_calls link_events.Gone w) kept known written later known
unfolding Acts
goes-act kept later known w link written answer at does asks is world s d =
    let r = does world.hub s.hub in
    let there : link ≡ number_or_zero (position (bytes_eq w) world.links) = at ∙ ap (λ (ls : List Word). number_or_zero (position (bytes_eq w) ls)) s.links in
    subst (λ (n : ℕ). HasPrinted (calls_asks (hub_calls.goes n ∷ []) world.hub kept.askings) later known written (gone_on w world n)) there
    (record {
      text = is ∙ worded (codes "gone ") w (yes_or_no answer) ∙ one_line (codes "gone " ++ (w ++ 32 ∷ yes_or_no answer)) ∙ ap (λ (b : Bool). ended_lines (spaced (codes "gone" ∷ w ∷ yes_or_no b ∷ []) ∷ [])) r.0;
      stands = with_hub later (hubs.link_gone world.hub link).1 kept known world s r.1;
      asks = asks world.hub s.hub;
    })

-- ---- the word of the link of a number

pub few-links : (links : List (String Global)) (w : Word) (number : ℕ) → position (bytes_eq w) (words_of links) ≡ Some number → number < length links
few-links links w number at = subst (λ (n : ℕ). number < n) (length-map links (λ (s : String Global). string_bytes s)) (within-found (bytes_eq w) (words_of links) number at)

pub link-told : (links : List (String Global)) (number : ℕ) (word : String Global) → number < length links → word ≡ get_or links number word → string_bytes word ≡ link_at (words_of links) number
link-told [] number word within is = absurd (omega (arith, within))
link-told (l ∷ ls) zero word within is = ap (λ (s : String Global). string_bytes s) is
link-told (l ∷ ls) (suc number) word within is = link-told ls number word (omega (arith, within)) is
