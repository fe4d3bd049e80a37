-- What each event prints, and the world behind it.
use Rattle.std.proofs.Common.{◌≡◌, ℕ, Bool, true, false, cond, List, [], ◌∷◌, ◌++◌, Option, Some, None, sym, ◌∙◌, ap, subst, refl, append_assoc, append-nil, codes, decimal, string_bytes, IfOk, Result, Ok, Err, Global}
use Rattle.std.specs.Result.{IsErrOf}
use Rattle.std.specs.declared.string.String.{String}
use Rattle.std.specs.Prelude.{find, get_or, position, nat_lt, option_map, ◌&&◌, length}
use Rattle.push_base.specs.Limits.{max_number}
use Rattle.std.specs.Str.{bytes_eq}
use Rattle.dsosession.specs.declared.session.EndReason.{EndReason}
use Rattle.pushserver.specs.Hubs as hubs
use Rattle.pushserver.specs.PlainHubs.{Hub}
use Rattle.pushserver.specs.Hubs.{newest, now}
use Rattle.pushserver.specs.Calls.{HubCall, connects as seating}
use Rattle.hubasking.specs.AskingHubs.{AskingHub}
use Rattle.hubasking.specs.LinkAskings.{Askings}
use Rattle.pushserver.proofs.Walks.{with_new}
use Rattle.scripts.specs.Lines.{Word}
use Rattle.replay.specs.World.{World, Seat, cut_peer, cut_connection, number_in, session_number, stopped_hub}
use Rattle.replay.specs.PassedOctets.{exchanged, enough}
use Rattle.scripts.specs.Words.{spaced, octets_text, ended_lines}
use Rattle.replay.specs.TextWords.{end_words}
use Rattle.replay.specs.Text.{Printed, printing, asked_to_stop, session_of_word, stops, cuts, exchanges, sends, end_lines}
use Rattle.scripts.specs.declared.line.SessionEvent.TheVariants as session_events
use Rattle.replay.specs.Askings.{calls_asks}
use Rattle.replay.specs.LineCalls.{stop_calls, session_calls, end_calls, exchange_calls, exchanges_calls, send_calls}
use Rattle.replay.specs.KeptAskings.{StandsFor, AsksAfter}
use Rattle.replay.specs.KeptExchanges.{Exchanges}
use Rattle.replay.specs.KeptWorlds.{KeptSeat, Parties, StandsForWorld, HasPrinted, Acts}
use Rattle.replay.specs.KeptSeats.{has_word}
use Rattle.replay.proofs.calls.Behind.{asks-on}
use Rattle.replay.proofs.calls.Emitted.{exchanges-by}
use Rattle.replay.proofs.worlds.Seats.{absent, IsSeated, is-seated}

-- ---- lines

pub one_line : (l : List ℕ) → l ++ 10 ∷ [] ≡ ended_lines (l ∷ [])
one_line l = sym (append-nil (l ++ 10 ∷ []))

-- ---- a world whose hub is another one

pub with_hub : (later : AskingHub) (hub : Hub) (kept : AskingHub) (known : Parties) (world : World) → StandsForWorld kept known world → StandsFor later hub → StandsForWorld later known (record world { hub = hub })
with_hub later hub kept known world w stands = record { hub = stands; peers = w.peers; seats = w.seats; links = w.links }

-- ---- points

pub points-act : (kept : AskingHub) (known : Parties) (written : List ℕ) (point moment : ℕ)
    → ((hub : Hub) → StandsFor kept hub → point ≡ newest hub) → ((hub : Hub) → StandsFor kept hub → moment ≡ now hub)
    → written ≡ codes "point " ++ (decimal point ++ 32 ∷ (decimal moment ++ 10 ∷ []))
    → Acts (λ world. printing (codes "point" ∷ decimal (newest world.hub) ∷ decimal (now world.hub) ∷ []) world) (λ world. []) kept known written kept known
unfolding Acts
points-act kept known written point moment tells_point tells_moment is world w d = record {
  text = is ∙ ap (λ t. codes "point " ++ t) (sym (append_assoc (decimal point) (32 ∷ decimal moment) (10 ∷ [])))
      ∙ one_line (codes "point " ++ (decimal point ++ 32 ∷ decimal moment))
      ∙ (λ i. ended_lines (spaced (codes "point" ∷ decimal (tells_point world.hub w.hub i) ∷ decimal (tells_moment world.hub w.hub i) ∷ []) ∷ []));
  stands = w;
  asks = refl;
}

-- ---- stops and cuts

number_known : (known : Parties) (w : Word) (kept : AskingHub) (world : World) → StandsForWorld kept known world → number_in known.peers w ≡ session_number world w
number_known known w kept world s = ap (λ p. number_in p w) s.peers

abbrev nobody : Option Seat
nobody = None

-- no client has the word
no_seat : (w : Word) (kept : AskingHub) (known : Parties) (world : World) → position (has_word w) known.seats ≡ None → StandsForWorld kept known world → find (λ s. bytes_eq s.word w) world.seats ≡ nobody
no_seat w kept known world none s = absent w known.seats world.seats s.seats none

-- the session of the word is known
pub stops-act : (kept later : AskingHub) (known : Parties) (w : Word) (rcode delay : ℕ) (session : Option ℕ) (written : List ℕ) → ((world : World) → StandsForWorld kept known world → session ≡ session_of_word world w)
    → ((hub : Hub) → StandsFor kept hub → StandsFor later (stopped_hub session rcode delay hub) × AsksAfter (stop_calls session rcode delay) hub kept.askings later.askings) → written ≡ codes "stop " ++ (w ++ 10 ∷ []) → Acts (stops w rcode delay) (session_calls (session_events.Stop rcode delay) w) kept known written later known
unfolding Acts
stops-act kept later known w rcode delay session written tells does is world s d =
    let done = does world.hub s.hub in
    subst (λ (o : Option ℕ). HasPrinted (calls_asks (stop_calls o rcode delay) world.hub kept.askings) later known written (printing (codes "stop" ∷ w ∷ []) (asked_to_stop o rcode delay world))) (tells world s)
    (record { text = is ∙ one_line (codes "stop " ++ w); stands = with_hub later (stopped_hub session rcode delay world.hub) kept known world s done.0; asks = done.1 })

abbrev session_by : World → Word → Option Seat → Option ℕ
session_by world w o = elim o as (λ _. Option ℕ) [ Some seat ↦ seat.session | None ↦ session_number world w ]

-- that of a client
pub client-session : (kept : AskingHub) (known : Parties) (w : Word) (place : ℕ) (k : KeptSeat) (session : Option ℕ) → position (has_word w) known.seats ≡ Some place → k ≡ get_or known.seats place k → session ≡ k.session
    → (world : World) → StandsForWorld kept known world → session ≡ session_of_word world w
client-session kept known w place k session at there session_is world s =
    let p : IsSeated w known.seats place world = is-seated w known.seats world place s.seats at in
    session_is ∙ (p.here k there).session ∙ sym (ap (session_by world w) p.found)

-- that of a peer
pub peer-session : (kept : AskingHub) (known : Parties) (w : Word) (session : Option ℕ) → position (has_word w) known.seats ≡ None → session ≡ number_in known.peers w
    → (world : World) → StandsForWorld kept known world → session ≡ session_of_word world w
peer-session kept known w session none is world s = is ∙ number_known known w kept world s ∙ sym (ap (session_by world w) (no_seat w kept known world none s))

-- what a cut leaves
abbrev pub CutsPeer : Word → AskingHub → Parties → AskingHub → Parties → Type 0
CutsPeer w kept known later known_later = (world : World) → StandsForWorld kept known world → StandsForWorld later known_later (cut_peer w world) × AsksAfter (end_calls (session_number world w)) world.hub kept.askings later.askings

pub cuts-act : (kept later : AskingHub) (known known_later : Parties) (w : Word) (written : List ℕ) → position (has_word w) known.seats ≡ None → CutsPeer w kept known later known_later → written ≡ codes "cut " ++ (w ++ 10 ∷ []) → Acts (cuts w) (session_calls session_events.Cut w) kept known written later known_later
unfolding Acts
cuts-act kept later known known_later w written none does is world s d =
    let done = does world s in
    let calls : Option Seat → List HubCall = λ o. elim o as (λ _. List HubCall) [ None ↦ end_calls (session_number world w) | Some seat ↦ end_calls seat.session ] in
    subst (λ (o : Option Seat). HasPrinted (calls_asks (calls o) world.hub kept.askings) later known_later written (printing (codes "cut" ∷ w ∷ []) (elim o as (λ _. World) [ None ↦ cut_peer w world | Some seat ↦ cut_connection seat world ]))) (sym (no_seat w kept known world none s))
    (record { text = is ∙ one_line (codes "cut " ++ w); stands = done.0; asks = done.1 })

-- ---- exchanges

abbrev pub two_parts : Word → List ℕ → List ℕ
two_parts w words = w ++ 32 ∷ (words ++ 10 ∷ [])

pub worded : (front w words : List ℕ) → front ++ two_parts w words ≡ (front ++ (w ++ 32 ∷ words)) ++ 10 ∷ []
worded front w words = ap (λ t. front ++ t) (sym (append_assoc w (32 ∷ words) (10 ∷ []))) ∙ sym (append_assoc front (w ++ 32 ∷ words) (10 ∷ []))

-- what was written of an exchange: a line, and behind an end one more
abbrev pub told_end : Word → Option EndReason → List ℕ
told_end w None = []
told_end w (Some reason) = codes "end " ++ two_parts w (end_words reason)

abbrev pub Follows : Word → Option EndReason → AskingHub → Parties → AskingHub → Parties → Type 0
Follows w None kept known later known_later = (later ≡ kept) × (known_later ≡ known)
Follows w (Some reason) kept known later known_later = CutsPeer w kept known later known_later

abbrev after_end : Word → Option EndReason → World → World
after_end w None world = world
after_end w (Some reason) world = cut_peer w world

ends-told : (w : Word) (over : Option EndReason) → told_end w over ≡ ended_lines (end_lines w over)
ends-told w None = refl
ends-told w (Some reason) = worded (codes "end ") w (end_words reason) ∙ one_line (codes "end " ++ (w ++ 32 ∷ end_words reason))

follows-stands : (w : Word) (over : Option EndReason) (kept later : AskingHub) (known known_later : Parties) (world : World) → StandsForWorld kept known world → Follows w over kept known later known_later → StandsForWorld later known_later (after_end w over world)
follows-stands w None kept later known known_later world s same = subst (λ (k : AskingHub). StandsForWorld k known_later world) (sym same.0) (subst (λ (p : Parties). StandsForWorld kept p world) (sym same.1) s)
follows-stands w (Some reason) kept later known known_later world s does = (does world s).0

-- where its end was told a session goes
abbrev ending : Word → World → Option EndReason → List HubCall
ending w world over = elim over as (λ _. List HubCall) [ None ↦ [] | Some reason ↦ end_calls (session_number world w) ]

follows-asks : (w : Word) (over : Option EndReason) (kept later : AskingHub) (known known_later : Parties) (world : World) → StandsForWorld kept known world → Follows w over kept known later known_later
    → later.askings ≡ calls_asks (ending w world over) world.hub kept.askings
follows-asks w None kept later known known_later world s same = ap (λ (k : AskingHub). k.askings) same.0
follows-asks w (Some reason) kept later known known_later world s does = (does world s).1

abbrev by_over : Word → World → Option EndReason → World
by_over w later over = elim over as (λ _. World) [ None ↦ later | Some reason ↦ cut_peer w later ]

over_alike : (w : Word) (later : World) (over : Option EndReason) → after_end w over later ≡ by_over w later over
over_alike w later None = refl
over_alike w later (Some reason) = refl

pub exchanges-act : (kept between later : AskingHub) (known known_later : Parties) (w : Word) (number : ℕ) (sent octets written : List ℕ) (over : Option EndReason)
    → Exchanges kept number sent between octets over → Follows w over between known later known_later
    → written ≡ (codes "bytes " ++ two_parts w (octets_text octets)) ++ told_end w over
    → Acts (exchanges w number sent) (exchanges_calls w number sent) kept known written later known_later
unfolding Acts Exchanges
exchanges-act kept between later known known_later w number sent octets written over made follows is world s d =
    let x = exchanged enough number sent world.hub [] in
    let m = made world.hub s.hub in
    let first = spaced (codes "bytes" ∷ w ∷ octets_text octets ∷ []) in
    record {
      text = is ∙ (λ i. worded (codes "bytes ") w (octets_text octets) i ++ ends-told w over i)
          ∙ (λ i. ended_lines (spaced (codes "bytes" ∷ w ∷ octets_text (m.written i) ∷ []) ∷ end_lines w (m.end_told i)));
      stands = subst (λ (o : Option EndReason). StandsForWorld later known_later (by_over w (record world { hub = x.hub }) o)) m.end_told
          (subst (StandsForWorld later known_later) (over_alike w (record world { hub = x.hub }) over)
          (follows-stands w over between later known known_later (record world { hub = x.hub }) (with_hub between x.hub kept known world s m.stands) follows));
      asks =
          asks-on (exchange_calls enough number sent world.hub) (ending w world x.over) world.hub x.hub kept.askings between.askings later.askings (exchanges-by enough number sent world.hub []) m.asks
          (follows-asks w over between later known known_later (record world { hub = x.hub }) (with_hub between x.hub kept known world s m.stands) follows ∙ ap (λ (o : Option EndReason). calls_asks (ending w world o) x.hub between.askings) m.end_told);
    }

abbrev pub bytes_written : Word → List ℕ → List ℕ
bytes_written w octets = codes "bytes " ++ two_parts w (octets_text octets)

pub exchanges-none : (kept later : AskingHub) (known : Parties) (w : Word) (number : ℕ) (sent octets slice written : List ℕ) (over : Option EndReason)
    → Exchanges kept number sent later octets over → over ≡ None → slice ≡ octets → written ≡ bytes_written w slice → Acts (exchanges w number sent) (exchanges_calls w number sent) kept known written later known
exchanges-none kept later known w number sent octets slice written over made none same is =
    exchanges-act kept later later known known w number sent octets written None (subst (Exchanges kept number sent later octets) none made) (refl, refl)
    (is ∙ ap (bytes_written w) same ∙ sym (append-nil (bytes_written w octets)))

pub exchanges-some : (kept between later : AskingHub) (known known_later : Parties) (w : Word) (number : ℕ) (sent octets slice line written : List ℕ) (over : Option EndReason) (reason : EndReason)
    → Exchanges kept number sent between octets over → over ≡ Some reason → CutsPeer w between known later known_later → slice ≡ octets → line ≡ bytes_written w slice
    → written ≡ line ++ (codes "end " ++ two_parts w (end_words reason)) → Acts (exchanges w number sent) (exchanges_calls w number sent) kept known written later known_later
exchanges-some kept between later known known_later w number sent octets slice line written over reason made some cut same line_is is =
    exchanges-act kept between later known known_later w number sent octets written (Some reason) (subst (Exchanges kept number sent between octets) some made) cut
    (is ∙ ap (λ l. l ++ told_end w (Some reason)) (line_is ∙ ap (bytes_written w) same))

-- ---- what peers send

-- a hub that has no seat stays as it is
pub refused-same : (hub : Hub) → (hubs.connect hub).0 ≡ None → (hubs.connect hub).1 ≡ hub
refused-same hub none = by (nat_lt (length hub.sessions) hubs.max_sessions && nat_lt hub.numbers_given max_number) none
  where
    made : Option ℕ × Hub
    made = (Some hub.numbers_given, with_new hub)

    by : (b : Bool) → (cond b made (None, hub)).0 ≡ None → (cond b made (None, hub)).1 ≡ hub
    by true e = absurd cc
    by false e = refl

abbrev new_place : Word → World → Option ℕ → Option (ℕ × World)
new_place w world o = option_map (λ number. (number, record world { hub = (hubs.connect world.hub).1; peers = world.peers ++ (w, number) ∷ [] })) o

abbrev placed_by : Word → List ℕ → World → Option (ℕ × World) → Printed
placed_by w octets world o = elim o as (λ _. Printed) [
  | None ↦ printing (codes "noseat" ∷ w ∷ []) world
  | Some place ↦ exchanges w place.0 octets place.1
]

abbrev sends_by : Word → List ℕ → World → Option ℕ → Printed
sends_by w octets world o =
    placed_by w octets world (elim o as (λ _. Option (ℕ × World)) [ Some number ↦ Some (number, world) | None ↦ new_place w world (hubs.connect world.hub).0 ])

abbrev connects_by : Word → List ℕ → World → Option ℕ → Printed
connects_by w octets world o = placed_by w octets world (new_place w world o)

-- the calls of a peer's octets, by the session that it has, and by the new one
abbrev connecting : Option ℕ → List HubCall
connecting o = elim o as (λ _. List HubCall) [ None ↦ [] | Some number ↦ seating ∷ [] ]

abbrev sending : Word → List ℕ → List HubCall → Option (ℕ × World) → List HubCall
sending w octets first o = elim o as (λ _. List HubCall) [ None ↦ [] | Some place ↦ first ++ exchanges_calls w place.0 octets place.1 ]

abbrev sends_calls_by : Word → List ℕ → World → Option ℕ → List HubCall
sends_calls_by w octets world o =
    sending w octets (elim o as (λ _. List HubCall) [ None ↦ connecting (hubs.connect world.hub).0 | Some number ↦ [] ])
    (elim o as (λ _. Option (ℕ × World)) [ Some number ↦ Some (number, world) | None ↦ new_place w world (hubs.connect world.hub).0 ])

abbrev connects_calls_by : Word → List ℕ → World → Option ℕ → List HubCall
connects_calls_by w octets world o = sending w octets (connecting o) (new_place w world o)

pub sends-known : (kept later : AskingHub) (known known_later : Parties) (w : Word) (number : ℕ) (octets written : List ℕ) → number_in known.peers w ≡ Some number
    → Acts (exchanges w number octets) (exchanges_calls w number octets) kept known written later known_later → Acts (sends w octets) (send_calls w octets) kept known written later known_later
unfolding Acts
sends-known kept later known known_later w number octets written found does world s d =
    subst (λ (o : Option ℕ). HasPrinted (calls_asks (sends_calls_by w octets world o) world.hub kept.askings) later known_later written (sends_by w octets world o)) (sym found ∙ number_known known w kept world s) (does world s d)

pub sends-new : (kept between later : AskingHub) (known known_later : Parties) (w : Word) (number : ℕ) (octets written : List ℕ) → number_in known.peers w ≡ None
    → ((hub : Hub) → StandsFor kept hub → ((hubs.connect hub).0 ≡ Some number) × StandsFor between (hubs.connect hub).1)
    → between.askings ≡ kept.askings
    → Acts (exchanges w number octets) (exchanges_calls w number octets) between (record known { peers = known.peers ++ (w, number) ∷ [] }) written later known_later → Acts (sends w octets) (send_calls w octets) kept known written later known_later
unfolding Acts
sends-new kept between later known known_later w number octets written found connects same does world s d =
    let r = connects world.hub s.hub in
    let next = record world { hub = (hubs.connect world.hub).1; peers = world.peers ++ (w, number) ∷ [] } in
    subst (λ (o : Option ℕ). HasPrinted (calls_asks (sends_calls_by w octets world o) world.hub kept.askings) later known_later written (sends_by w octets world o)) (sym found ∙ number_known known w kept world s)
    (subst (λ (o : Option ℕ). HasPrinted (calls_asks (connects_calls_by w octets world o) world.hub kept.askings) later known_later written (connects_by w octets world o)) (sym r.0)
    (subst (λ (a : Askings). HasPrinted (calls_asks (exchanges_calls w number octets next) next.hub a) later known_later written (exchanges w number octets next)) same
    (does next (record { hub = r.1; peers = ap (λ p. p ++ (w, number) ∷ []) s.peers; seats = s.seats; links = s.links }) d)))

pub sends-refused : (kept later : AskingHub) (known : Parties) (w : Word) (octets written : List ℕ) → number_in known.peers w ≡ None
    → ((hub : Hub) → StandsFor kept hub → ((hubs.connect hub).0 ≡ None) × StandsFor later (hubs.connect hub).1)
    → later.askings ≡ kept.askings → written ≡ codes "noseat " ++ (w ++ 10 ∷ []) → Acts (sends w octets) (send_calls w octets) kept known written later known
unfolding Acts
sends-refused kept later known w octets written found connects same is world s d =
    let r = connects world.hub s.hub in
    subst (λ (o : Option ℕ). HasPrinted (calls_asks (sends_calls_by w octets world o) world.hub kept.askings) later known written (sends_by w octets world o)) (sym found ∙ number_known known w kept world s)
    (subst (λ (o : Option ℕ). HasPrinted (calls_asks (connects_calls_by w octets world o) world.hub kept.askings) later known written (connects_by w octets world o)) (sym r.0)
    (record {
      text = is ∙ one_line (codes "noseat " ++ w);
      stands = record { hub = subst (StandsFor later) (refused-same world.hub r.0) r.1; peers = s.peers; seats = s.seats; links = s.links };
      asks = same;
    }))

-- ---- answers that are texts

-- a text that is made, or want of memory
pub if_acts : {E : Type 0} (act : World → Printed) (calls : World → List HubCall) (kept later : AskingHub) (known known_later : Parties) (line : List ℕ) (r : Result (String Global) E)
    → ((written : List ℕ) → written ≡ line → Acts act calls kept known written later known_later) → IfOk r (λ text. string_bytes text ≡ line) → IfOk r (λ text. Acts act calls kept known (string_bytes text) later known_later)
if_acts act calls kept later known known_later line (Ok text) does h = does (string_bytes text) h
if_acts act calls kept later known known_later line (Err e) does h = tt

pub if_then : {E : Type 0} (first act : World → Printed) (first_calls calls : World → List HubCall) (kept_then kept later : AskingHub) (known_then known known_later : Parties) (r : Result (String Global) E)
    → ((written : List ℕ) → Acts first first_calls kept_then known_then written later known_later → Acts act calls kept known written later known_later)
    → IfOk r (λ text. Acts first first_calls kept_then known_then (string_bytes text) later known_later) → IfOk r (λ text. Acts act calls kept known (string_bytes text) later known_later)
if_then first act first_calls calls kept_then kept later known_then known known_later (Ok text) does h = does (string_bytes text) h
if_then first act first_calls calls kept_then kept later known_then known known_later (Err e) does h = tt

-- so where it is known of a text that is made
pub if_each : {E : Type 0} (P Q : List ℕ → Type 0) (r : Result (String Global) E) → ((written : List ℕ) → P written → Q written) → IfOk r (λ text. P (string_bytes text)) → IfOk r (λ text. Q (string_bytes text))
if_each P Q (Ok text) does h = does (string_bytes text) h
if_each P Q (Err e) does h = tt

abbrev failed : {T E : Type 0} → E → Result T E
failed e = Err e

-- an error that is known
pub is_err : {T E : Type 0} (a b : E) → a ≡ b → IsErrOf {T = T} (Err a) b
is_err {T = T} a b e = ap (failed {T = T}) e
