-- Between two lines of a script each peer's session is served.
--     not-for-line      a line of others is no call for the session
--     served-line, served-lines      so it stays
use Rattle.std.proofs.Common.{◌≡◌, ℕ, not, List, [], ◌∷◌, Some, refl, sym, ◌∙◌, ap, subst}
use Rattle.std.specs.List.{AllByRecursion}
use Rattle.std.specs.Str.{bytes_eq}
use Rattle.rrset.proofs.Places.{all_filter}
use Rattle.pushserver.specs.PlainHubs.{Hub}
use Rattle.pushserver.specs.Hubs as hubs
use Rattle.pushserver.specs.Hubs.{now}
use Rattle.pushserver.proofs.Walks.{AnyMessage}
use Rattle.pushserver.proofs.hub_steps.Pairs.{all-weaken}
use Rattle.pushserver.proofs.session_steps.Lists.{each-both}
use Rattle.pushclient.specs.Clients.{closed_as}
use Rattle.scripts.specs.Lines.{Word, ScriptLine, silent, head_line, joining, hub_event, link_event, client_call, client_passing, client_event, session_event}
use Rattle.scripts.specs.declared.line.HubEvent.{HubEvent}
use Rattle.scripts.specs.declared.line.HubEvent.TheVariants as hub_events
use Rattle.scripts.specs.declared.line.Way.{Way}
use Rattle.scripts.specs.declared.line.ClientEvent.{ClientEvent}
use Rattle.scripts.specs.declared.line.ClientEvent.TheVariants as client_events
use Rattle.scripts.specs.declared.line.SessionEvent.TheVariants as session_events
use Rattle.replay.specs.World.{World, Seat, with_seat, cut_peer, is_over}
use Rattle.replay.specs.TextWords.{by_history}
use Rattle.replay.specs.Text.{passes_way, passes, cuts, feeds, hub_does, client_does, line_does}
use Rattle.replay.proofs.worlds.FedSeats.{fed, fed_over}
use Rattle.replay.proofs.worlds.Keeping.{any-parts}
use Rattle.replay.proofs.worlds.KeptByLines.{AnyClient, any-clients}
use Rattle.replay.proofs.worlds.LinesDoing.{cut-does, feed-does}
use Rattle.replay.proofs.worlds.OneWorld.{shows-leave}
use Rattle.replay.proofs.worlds.PassedWorlds.{passed-world, pass-does}
use Rattle.replay.proofs.worlds.SeatLines.{peers-asks, peers-opens}
use Rattle.replay.proofs.worlds.TimedSeats.{peers-timed, peers-cut_if}
use Rattle.replay.proofs.pieces.ApartWorlds.{IsSeatApart, IsApart}
use Rattle.replay.specs.LineCalls.{line_calls}
use Rattle.script_laws.specs.Lines.{AreWithin}
use Rattle.script_laws.specs.Sending.{ArePeersServed}
use Rattle.script_laws.proofs.calls.EachCall.{HoldsOfCalls, Ready, line-each}
use Rattle.script_laws.proofs.calls.Lines.{lines-are-calls}
use Rattle.script_laws.proofs.calls.Others.{NotFor, ServedAt, others-serve}

-- ---- calls of lines that aren't for a session

abbrev NotSeats : ℕ → List Seat → Type 0
NotSeats n seats = AllByRecursion (λ s. s.session ≡ Some n → ⊥) seats

abbrev pub IsNoSend : ScriptLine → Type 0
IsNoSend (session_event w (session_events.Send octets)) = ⊥
IsNoSend _ = Unit {0}

module _ (n : ℕ) where
  abbrev IsOther : ℕ → Type 0
  IsOther number = n ≡ number → ⊥

  apart-calls : HoldsOfCalls (NotFor n) AnyMessage IsOther
  apart-calls = record {
    updates = λ message good. tt;
    hears = λ link datagram good. tt;
    goes = λ link. tt;
    moves = λ t. tt;
    connects = tt;
    takes = λ number piece other good. other;
    gives = λ number room other. other;
    stops = λ number rcode delay small short. tt;
    ends = λ number. tt;
  }

  apart-seats : (seats : List Seat) → NotSeats n seats → AllByRecursion (Ready (NotFor n) AnyMessage IsOther apart-calls any-parts AnyClient any-clients) seats
  apart-seats [] far = tt
  apart-seats (seat ∷ seats) far = ((record { wire = tt; client = tt }, λ number has same. far.0 (has ∙ ap (λ (m : ℕ). Some m) (sym same))), apart-seats seats far.1)

  pub not-for-line : (line : ScriptLine) (world : World) → IsNoSend line → AreWithin line → NotSeats n world.seats → AllByRecursion (NotFor n) (line_calls line world)
  not-for-line line world other within far =
      line-each (NotFor n) AnyMessage IsOther apart-calls any-parts AnyClient any-clients line world within (apart-seats world.seats far) (λ w octets same. absurd (subst IsNoSend same other))

-- ---- peers behind a line

module _ (P : Word × ℕ → Type 0) where
  abbrev Each : World → Type 0
  Each world = AllByRecursion P world.peers

  cut-each : (w : Word) (world : World) → Each world → Each (cut_peer w world)
  cut-each w world all = all_filter P (λ (e : Word × ℕ). not (bytes_eq e.0 w)) world.peers all

  cuts-each : (w : Word) (world : World) → Each world → Each (cuts w world).0
  cuts-each w world all = cut-does world Each w (λ seat found. all) (cut-each w world all)

  passes-each : (way : Way) (w : Word) (world : World) → Each world → Each (passes way w world).0
  passes-each way w world all = pass-does Each way w world all (λ seat e.
      let p = passes_way way world seat in
      subst (λ (ps : List (Word × ℕ)). AllByRecursion P ps) (sym (peers-cut_if (is_over p.over (closed_as p.seat.client)) p.seat (with_seat p.seat p.world) ∙ ap (λ (x : World). x.peers) (passed-world way world seat))) all)

  feeds-each : (w : Word) (octets : List ℕ) (world : World) → Each world → Each (feeds w octets world).0
  feeds-each w octets world all = feed-does world Each w octets all (λ seat found connects.
      let p = fed octets world seat in
      subst (λ (ps : List (Word × ℕ)). AllByRecursion P ps) (sym (peers-cut_if (fed_over octets world seat) p.seat (with_seat p.seat world))) all)

  hub-each : (event : HubEvent) (world : World) → Each world → Each (hub_does event world).0
  hub-each (hub_events.At t) world all =
      let later = hubs.moment world.hub t in
      subst (λ (ps : List (Word × ℕ)). AllByRecursion P ps) (sym (peers-timed (now later) world.seats (record world { hub = later }, []))) all
  hub-each (hub_events.Update message) world all = all
  hub-each hub_events.Point world all = all

  client-each : (event : ClientEvent) (w : Word) (world : World) → Each world → Each (client_does by_history event w world).0
  client-each client_events.Open w world all = subst (λ (ps : List (Word × ℕ)). AllByRecursion P ps) (sym (peers-opens w world)) all
  client-each (client_events.Feed octets) w world all = feeds-each w octets world all
  client-each (client_events.Show question written) w world all = subst Each (sym (shows-leave by_history w question written world)) all

  pub each-peer : (line : ScriptLine) (world : World) → IsNoSend line → Each world → Each (line_does by_history line world).0
  each-peer silent world other all = all
  each-peer (head_line line) world other all = all
  each-peer (joining w is_lone) world other all = all
  each-peer (hub_event event) world other all = hub-each event world all
  each-peer (link_event w event) world other all = all
  each-peer (client_call w call) world other all = subst (λ (ps : List (Word × ℕ)). AllByRecursion P ps) (sym (peers-asks call w world)) all
  each-peer (client_passing w way) world other all = passes-each way w world all
  each-peer (client_event w event) world other all = client-each event w world all
  each-peer (session_event w (session_events.Send octets)) world other all = absurd other
  each-peer (session_event w (session_events.Stop rcode delay)) world other all = all
  each-peer (session_event w session_events.Cut) world other all = cuts-each w world all

-- no client has the session of a peer
apart-peers : (given : ℕ) (peers : List (Word × ℕ)) (seats : List Seat) → AllByRecursion (IsSeatApart given peers) seats → AllByRecursion (λ e. NotSeats e.1 seats) peers
apart-peers given [] seats all = tt
apart-peers given (e ∷ es) seats all = (
  all-weaken (IsSeatApart given (e ∷ es)) (λ (s : Seat). s.session ≡ Some e.1 → ⊥) (λ s apart is. (apart e.1 is).1.0 refl) seats all,
  apart-peers given es seats (all-weaken (IsSeatApart given (e ∷ es)) (IsSeatApart given es) (λ s apart n is. let both = apart n is in (both.0, both.1.1)) seats all),
)

-- ---- a line of others

pub served-line : (line : ScriptLine) (world : World) → IsNoSend line → AreWithin line → IsApart world → ArePeersServed world → ArePeersServed (line_does by_history line world).0
served-line line world other within apart served =
    let later : Hub = (line_does by_history line world).0.hub in
    each-peer (λ e. ServedAt e.1 later) line world other
    (each-both (λ (e : Word × ℕ). NotSeats e.1 world.seats) (λ (e : Word × ℕ). ServedAt e.1 world.hub) (λ (e : Word × ℕ). ServedAt e.1 later)
    (λ e far one. subst (ServedAt e.1) (sym (lines-are-calls line world)) (others-serve e.1 (line_calls line world) world.hub (not-for-line e.1 line world other within far) one))
    world.peers (apart-peers world.hub.numbers_given world.peers world.seats apart.seats) served)
