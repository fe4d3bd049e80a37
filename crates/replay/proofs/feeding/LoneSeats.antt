-- Between any two lines of a script each lone client has no session, and waits for octets.
--     LoneWaits seat      it is so of a lone client
--     FewOctets octets      octets, not too many
--     wait-found      a lone client that is found waits
--     all-wait, few-fed      before a line that feeds octets all do, and these are few octets
use Rattle.std.proofs.Common.{◌≡◌, ℕ, ◌≤◌, Bool, true, false, ◌&&◌, List, [], ◌∷◌, ◌++◌, fold, length, Option, Some, None, Ok, refl, sym, ◌∙◌, ap, subst, true≢false}
use Rattle.std.specs.List.{AllByRecursion, list_all}
use Rattle.std.specs.Str.{bytes_eq}
use Rattle.dnsname.specs.Names.{Labels, octets, is_name}
use Rattle.dnsname.proofs.Decisions.{and_true}
use Rattle.coalesce.proofs.Packing.{each-front}
use Rattle.coalesce.proofs.ReadBack.{each-append}
use Rattle.dsotlv.specs.Laws.{AreOctets}
use Rattle.dsosession.specs.declared.session.CloseReason.{CloseReason}
use Rattle.pushserver.specs.Hubs.{now}
use Rattle.pushserver.proofs.Walks.{with_new}
use Rattle.pushserver.proofs.hub_steps.Pairs.{all-weaken}
use Rattle.pushserver.proofs.session_steps.Lists.{found-each}
use Rattle.pushclient.specs.Clients.{Client, closed_as, connected, is_connected}
use Rattle.pushclient.specs.Steps as steps
use Rattle.pushclient.proofs.Reactions.{with_octets}
use Rattle.scripts.specs.Lines.{Word, ScriptLine, silent, head_line, joining, hub_event, link_event, client_call, client_passing, client_event, session_event, feed, octets_written}
use Rattle.scripts.specs.declared.line.HubEvent.{HubEvent}
use Rattle.scripts.specs.declared.line.HubEvent.TheVariants as hub_events
use Rattle.scripts.specs.declared.line.Call.{Call}
use Rattle.scripts.specs.declared.line.Call.TheVariants as calls
use Rattle.scripts.specs.declared.line.ClientEvent.{ClientEvent}
use Rattle.scripts.specs.declared.line.ClientEvent.TheVariants as client_events
use Rattle.scripts.specs.declared.line.SessionEvent.{SessionEvent}
use Rattle.scripts.specs.declared.line.SessionEvent.TheVariants as session_events
use Rattle.scripts.specs.Scripts.{script_of}
use Rattle.replay.specs.World.{Seat, World, start_world, seat_of, with_seat, new_seat, cut_seat, cut_connection, is_over, world_cut_if}
use Rattle.replay.specs.PassedOctets.{Passed, passed, fed_client}
use Rattle.pushclient.specs.HandedOut.{without_output}
use Rattle.replay.specs.TextWords.{by_history}
use Rattle.replay.specs.Text.{Printed, timed, called, exchanges, feeds, asks, opens, line_does, hub_does, client_does, session_does, world_after, seated, passes_way, passes}
use Rattle.scripts.specs.declared.line.Way.{Way}
use Rattle.scripts.proofs.lines.SentOctets.{sent_by, sends-pass}
use Rattle.replay.proofs.turns.SendSizes.{are_few, le_is, written_few, named_few}
use Rattle.replay.proofs.worlds.BetweenLines.{each-behind}
use Rattle.replay.proofs.worlds.ClientOutputs.{all_octets}
use Rattle.replay.proofs.worlds.FedSeats.{fed}
use Rattle.replay.proofs.worlds.LinesDoing.{with_peer, hub_timed, moment_now, cut-does, exchange-does, send-does, ask-does, open-does, feed-does}
use Rattle.replay.proofs.worlds.InputOctets.{are_octets, both, written_octets, named_octets}
use Rattle.replay.proofs.worlds.OneWorld.{shows-leave}
use Rattle.replay.proofs.worlds.PassedWorlds.{passed_as, passed-world, passed-names, pass-does}
use Rattle.replay.proofs.worlds.Seats.{put-put}
use Rattle.replay.proofs.pieces.ApartWorlds.{seats-put}
use Rattle.replay.proofs.feeding.WaitingCalls.{IsWaiting, MayWait, same, waits-subscribe, waits-unsubscribe, waits-reconfirm, waits-connected, waits-moment}
use Rattle.replay.proofs.feeding.FedClients.{fed-as}

abbrev pub LoneWaits : Seat → Type 0
LoneWaits seat = seat.is_lone ≡ true → (seat.session ≡ None) × IsWaiting seat.client

abbrev pub AllWait : World → Type 0
AllWait world = AllByRecursion LoneWaits world.seats

-- ---- what a line feeds

abbrev pub FewOctets : List ℕ → Type 0
FewOctets octets = AreOctets octets × (length octets ≤ 65537)

abbrev pub FeedsOctets : ScriptLine → Type 0
FeedsOctets line = AllByRecursion FewOctets (sent_by line)

abbrev are_few_octets : List ℕ → Bool
are_few_octets octets = are_octets octets && are_few octets

feeds-octets : (text : List ℕ) (lines : List ScriptLine) → script_of text ≡ Ok lines → AllByRecursion FeedsOctets lines
feeds-octets text lines read =
    all-weaken (λ (line : ScriptLine). list_all are_few_octets (sent_by line) ≡ true) FeedsOctets (λ line h. each (sent_by line) h) lines (sends-pass are_few_octets written named text lines read)
  where
    written : (h os : List ℕ) → octets_written h ≡ Some os → are_few_octets os ≡ true
    written h os e = both (are_octets os) (are_few os) (written_octets h os e) (written_few h os e)

    named : (name : Labels) → is_name name ≡ true → are_few_octets (octets name) ≡ true
    named name is = both (are_octets (octets name)) (are_few (octets name)) (named_octets name is) (named_few name is)

    each : (pieces : List (List ℕ)) → list_all are_few_octets pieces ≡ true → AllByRecursion FewOctets pieces
    each [] h = tt
    each (p ∷ ps) h =
        let parts = and_true (are_few_octets p) (list_all are_few_octets ps) h in
        let two = and_true (are_octets p) (are_few p) parts.0 in
        ((all_octets p two.0, le_is (length p) two.1), each ps parts.1)

-- ---- one client in its place

wait-put : (x : Seat) (world : World) → LoneWaits x → AllWait world → AllWait (with_seat x world)
wait-put x world new all = seats-put LoneWaits x.word x world.seats new all

pub wait-found : (w : Word) (world : World) (seat : Seat) → seat_of world w ≡ Some seat → AllWait world → LoneWaits seat
wait-found w world seat found all = (found-each LoneWaits (λ s. bytes_eq s.word w) world.seats seat all found).0

wait-cut : (seat : Seat) (world : World) → AllWait world → AllWait (cut_connection seat world)
wait-cut seat world all = seats-put LoneWaits seat.word (cut_seat seat) world.seats (λ is. (refl, tt)) all

wait-cut_if : (over : Bool) (x : Seat) (world : World) → AllWait world → AllWait (world_cut_if over x world)
wait-cut_if false x world all = all
wait-cut_if true x world all = wait-cut x world all

-- one that may have closed, and is cut then
wait-over : (closing : Option CloseReason) (x : Seat) (world : World) → (closing ≡ None → LoneWaits x) → AllWait world → AllWait (world_cut_if (is_over None closing) x (with_seat x world))
wait-over None x world new all = wait-put x world (new refl) all
wait-over (Some reason) x world new all =
    subst (AllByRecursion LoneWaits) (sym (put-put x.word x (cut_seat x) world.seats refl)) (seats-put LoneWaits x.word (cut_seat x) world.seats (λ is. (refl, tt)) all)

-- ---- lines

wait-exchanges : (w : Word) (number : ℕ) (octets : List ℕ) (world : World) → AllWait world → AllWait (exchanges w number octets world).0
wait-exchanges w number octets world all = exchange-does world AllWait w number octets all all

-- what calls keep
waits-call : (call : Call) (client : Client) → IsWaiting client → IsWaiting (called call client).1
waits-call (calls.Ask question) client v = waits-subscribe client question v
waits-call (calls.Drop question) client v = waits-unsubscribe client question v
waits-call (calls.Reconfirm rr) client v = waits-reconfirm client rr v

wait-asks : (call : Call) (w : Word) (world : World) → AllWait world → AllWait (asks call w world).0
wait-asks call w world all = ask-does world AllWait w call all (λ seat e. wait-put (record seat { client = (called call seat.client).1 }) world (λ is. (
    let one = wait-found w world seat e all is in (one.0, waits-call call seat.client one.1))) all)

wait-opens : (w : Word) (world : World) → AllWait world → AllWait (opens w world).0
wait-opens w world all =
    open-does world AllWait w all (λ seat e. wait-put (record seat { client = connected (now world.hub) seat.client }) world (λ is. ((wait-found w world seat e all is).0, waits-connected (now world.hub) seat.client)) all)
    (λ seat e hub. wait-put (record seat { client = connected (now world.hub) seat.client; session = Some world.hub.numbers_given }) (record world { hub = with_new world.hub }) (λ is. absurd (true≢false (sym is ∙ hub))) all)

-- with no session nothing passes
wait-passes : (way : Way) (w : Word) (world : World) → AllWait world → AllWait (passes way w world).0
wait-passes way w world all = pass-does AllWait way w world all (λ seat e. by_kind seat e seat.is_lone refl)
  where
    by_kind : (seat : Seat) → seat_of world w ≡ Some seat → (b : Bool) → seat.is_lone ≡ b
        → (let p = passes_way way world seat in AllWait (world_cut_if (is_over p.over (closed_as p.seat.client)) p.seat (with_seat p.seat p.world)))
    by_kind seat e true is =
        let one = wait-found w world seat e all is in
        let still : passes_way way world seat ≡ passed world seat 0 = ap (passed_as way world seat) one.0 in
        subst (λ (p : Passed). AllWait (world_cut_if (is_over p.over (closed_as p.seat.client)) p.seat (with_seat p.seat p.world))) (sym still) (wait-over (closed_as seat.client) seat world (λ unclosed lone. one) all)
    by_kind seat e false is =
        let p = passes_way way world seat in
        let there : AllWait p.world = subst AllWait (sym (passed-world way world seat)) all in
        wait-cut_if (is_over p.over (closed_as p.seat.client)) p.seat (with_seat p.seat p.world) (wait-put p.seat p.world (λ lone. absurd (true≢false (sym lone ∙ (passed-names way world seat).is_lone ∙ is))) there)

wait-timed : (t : ℕ) (seats : List Seat) (p : Printed) → AllByRecursion LoneWaits seats → AllWait p.0 → AllWait (fold (timed t) p seats).0
wait-timed t [] p all h = h
wait-timed t (seat ∷ seats) p all h =
    let later : Seat = record seat { client = steps.moment seat.client t } in
    wait-timed t seats (timed t p seat) all.1 (wait-over (closed_as later.client) later p.0 (λ unclosed is. (let one = all.0 is in (one.0, waits-moment seat.client t one.1 unclosed))) h)

-- what is fed
waits-fed : (octets : List ℕ) (p : Client) → FewOctets octets → IsWaiting p → is_connected p ≡ true → MayWait (fed_client octets p)
waits-fed octets p few w there unclosed =
    let f = fed-as octets p few.0 few.1 w there in
    let live = f.waits (sym (ap (λ (x : Client). closed_as (without_output x)) f.reached) ∙ unclosed) in
    subst (λ (x : Client). IsWaiting (without_output x)) (sym f.reached) (same (with_octets f.input f.connection) _ live.1 refl refl)

wait-feeds : (w : Word) (octets : List ℕ) (world : World) → FewOctets octets → AllWait world → AllWait (feeds w octets world).0
wait-feeds w octets world few all = feed-does world AllWait w octets all (λ seat e there.
    let p = fed octets world seat in
    wait-over (closed_as p.seat.client) p.seat world (λ unclosed is. (let one = wait-found w world seat e all is in (one.0, waits-fed octets seat.client few one.1 there unclosed))) all)

wait-seated : (w : Word) (is_lone : Bool) (world : World) → AllWait world → AllWait (seated w is_lone world).0
wait-seated w is_lone world all = each-append LoneWaits world.seats (new_seat w is_lone ∷ []) all (λ is. (refl, tt), tt)

wait-hub : (event : HubEvent) (world : World) → AllWait world → AllWait (hub_does event world).0
wait-hub (hub_events.At t) world all = wait-timed (moment_now world t) world.seats (hub_timed world t) all all
wait-hub (hub_events.Update message) world all = all
wait-hub hub_events.Point world all = all

wait-client : (event : ClientEvent) (w : Word) (world : World) → FeedsOctets (client_event w event) → AllWait world → AllWait (client_does by_history event w world).0
wait-client client_events.Open w world few all = wait-opens w world all
wait-client (client_events.Feed octets) w world few all = wait-feeds w octets world few.0 all
wait-client (client_events.Show question written) w world few all = subst AllWait (sym (shows-leave by_history w question written world)) all

wait-session : (event : SessionEvent) (w : Word) (world : World) → AllWait world → AllWait (session_does event w world).0
wait-session (session_events.Send octets) w world all =
    send-does world AllWait w octets (λ number is. wait-exchanges w number octets world all) (wait-exchanges w world.hub.numbers_given octets (with_peer w world) all) all
wait-session (session_events.Stop rcode delay) w world all = all
wait-session session_events.Cut w world all = cut-does world AllWait w (λ seat e. wait-cut seat world all) all

wait-line : (line : ScriptLine) (world : World) → FeedsOctets line → AllWait world → AllWait (line_does by_history line world).0
wait-line silent world few all = all
wait-line (head_line line) world few all = all
wait-line (joining w is_lone) world few all = wait-seated w is_lone world all
wait-line (hub_event event) world few all = wait-hub event world all
wait-line (link_event w event) world few all = all
wait-line (client_call w call) world few all = wait-asks call w world all
wait-line (client_passing w way) world few all = wait-passes way w world all
wait-line (client_event w event) world few all = wait-client event w world few all
wait-line (session_event w event) world few all = wait-session event w world all

wait-lines : (lines : List ScriptLine) (world : World) → AllByRecursion FeedsOctets lines → AllWait world → AllWait (world_after lines world)
wait-lines [] world few all = all
wait-lines (line ∷ lines) world few all = wait-lines lines (line_does by_history line world).0 few.1 (wait-line line world few.0 all)

-- ---- a script

module _ (text : List ℕ) (before : List ScriptLine) (w : Word) (octets : List ℕ) (behind : List ScriptLine) (read : script_of text ≡ Ok (before ++ feed w octets ∷ behind)) where
  abbrev lines : List ScriptLine
  lines = before ++ feed w octets ∷ behind

  few-lines : AllByRecursion FeedsOctets lines
  few-lines = feeds-octets text lines read

  -- all lone clients wait before the line, and it feeds octets, not too many
  pub all-wait : AllWait (world_after before (start_world lines))
  all-wait = wait-lines before (start_world lines) (each-front FeedsOctets before (feed w octets ∷ behind) few-lines) tt

  pub few-fed : FewOctets octets
  few-fed = (each-behind FeedsOctets before (feed w octets ∷ behind) few-lines).0.0
