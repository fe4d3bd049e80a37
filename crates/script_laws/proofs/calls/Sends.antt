-- What a peer sends in a line of a script is answered in it.
--     peer-there      the session of a peer
--     PeerStands, peer-stands      it is served when octets come, a new one too
--     peers-served      each peer's session is served between two lines
--     lines-sends-answered, sends-answered, asks-answered, each-brought-up      the laws
use Rattle.std.proofs.Common.{◌≡◌, ℕ, ◌+◌, ◌≤◌, Bool, true, false, cond, not, List, [], ◌∷◌, ◌++◌, map, find, length, Option, Some, None, option_map, refl, sym, ◌∙◌, ap, subst, arith, append_assoc, append-nil}
use Rattle.std.specs.Prelude.{◌==◌, flat_map, filter_map}
use Rattle.std.specs.List.{AllByRecursion}
use Rattle.std.specs.Str.{bytes_eq}
use Rattle.std.proofs.lemmas.Grind.{flat_map-append}
use Rattle.std.proofs.lemmas.List.{map-append}
use Rattle.coalesce.proofs.Packing.{each-front}
use Rattle.coalesce.proofs.ReadBack.{each-append}
use Rattle.rrset.proofs.Places.{all_filter}
use Rattle.dsotlv.specs.Laws.{AreOctets}
use Rattle.dsotlv.proofs.Results.{same_found}
use Rattle.dsosession.specs.declared.session.EndReason.{EndReason}
use Rattle.pushserver.specs.PlainHubs.{Hub, Session, Made, Giving, frame_of}
use Rattle.pushsession.specs.Sessions.{new_session}
use Rattle.livesessions.specs.NumberedSessions.{session_in}
use Rattle.pushserver.specs.Hubs.{now, keeps_now, session_of, connect}
use Rattle.pushserver.specs.Giving.{give}
use Rattle.pushserver.specs.Calls.{HubCall, connects, gives, ends, after_calls}
use Rattle.livesessions.proofs.SessionLists.{same-number, number-itself}
use Rattle.pushserver.proofs.hub_steps.Pairs.{all-weaken}
use Rattle.pushclient.specs.SoundClients.{count_of}
use Rattle.flight_laws.proofs.Counting.{count-append}
use Rattle.pushtelling.specs.Runs.{handed_out, WentOut}
use Rattle.pushtelling.proofs.Running.{made_goes_out}
use Rattle.scripts.specs.Lines.{Word, ScriptLine, silent, head_line, joining, hub_event, link_event, client_call, client_passing, client_event, session_event, send}
use Rattle.scripts.specs.declared.line.SessionEvent.TheVariants as session_events
use Rattle.replay.specs.World.{World, start_world, number_in, session_number, hub_without, cut_peer}
use Rattle.replay.specs.PassedOctets.{Exchanged, exchanged, enough}
use Rattle.replay.specs.Promises.{NumbersFit}
use Rattle.replay.specs.TextWords.{noseat_words, bytes_line, by_history, HeldRecords}
use Rattle.replay.specs.Text.{Printed, printing, placed, exchanges, end_lines, line_does, world_after}
use Rattle.replay.specs.Askings.{start_askings}
use Rattle.replay.specs.ScriptTexts.{printed_by, text_by}
use Rattle.scripts.specs.Words.{ended_lines}
use Rattle.replay.proofs.pieces.ApartWorlds.{IsApart, apart-start, apart-lines, number-all}
use Rattle.replay.proofs.worlds.BetweenLines.{printed-append, lines-append, after-append, each-behind, reply-is}
use Rattle.script_laws.specs.Reached.{FitsCall, FitCalls, IsReached}
use Rattle.script_laws.specs.Lines.{AreWithin, AreLines}
use Rattle.script_laws.specs.Whole.{StandsAfterEachLine}
use Rattle.replay.specs.LineCalls.{exchange_calls}
use Rattle.script_laws.specs.EachMessage.{HasItsTurn, IsAnswered, messages_of}
use Rattle.script_laws.specs.InTurn.{made_in}
use Rattle.script_laws.specs.Sending.{askings_behind, IsServed, ArePeersServed, made_messages, ExchangeSo, SendIsAnswered, AnswersSendsIn, SendsAreAnswered, Asks, lines_asked, world_asked, calls_asked, AsksAnywhere, octets_asked, lines_told, AskIsAnswered, AsksAreAnswered, EachIsBroughtUp}
use Rattle.script_laws.proofs.Reading.{are-lines}
use Rattle.script_laws.proofs.hubs.Counting.{one_where, counted-cons, one-itself}
use Rattle.script_laws.proofs.hubs.HubNumbers.{new-ones-are-found}
use Rattle.script_laws.proofs.hubs.Reaching.{reached-go-on, calls-append}
use Rattle.script_laws.proofs.hubs.Sessions.{reached-below}
use Rattle.script_laws.proofs.calls.Emitting.{all-exchanged}
use Rattle.script_laws.proofs.calls.EachTurn.{each-has-its-turn, subscribes-are-answered}
use Rattle.script_laws.proofs.calls.InTurn.{made-in-turn}
use Rattle.script_laws.proofs.calls.Exchanging.{done-served}
use Rattle.script_laws.proofs.calls.Exchanges.{exchange-so}
use Rattle.script_laws.proofs.calls.Fits.{are-within}
use Rattle.script_laws.proofs.calls.Others.{NotFor, ServedAt, others-serve}
use Rattle.script_laws.proofs.calls.Served.{served-line}
use Rattle.replay.proofs.worlds.InputOctets.{octets-parts}

-- ---- the session of a peer

abbrev Peers : Type 0
Peers = List (Word × ℕ)

counted-peer : (w : Word) (n : ℕ) (peers : Peers) → number_in peers w ≡ Some n → 1 ≤ count_of n (map (λ p. p.1) peers)
counted-peer w n [] known = absurd cc
counted-peer w n (e ∷ es) known = by (bytes_eq e.0 w) known (counted-peer w n es)
  where
    more : count_of n (e.1 ∷ map (λ (p : Word × ℕ). p.1) es) ≡ one_where e.1 n + count_of n (map (λ (p : Word × ℕ). p.1) es)
    more = counted-cons n e.1 (map (λ (p : Word × ℕ). p.1) es)

    itself : one_where e.1 n ≡ 1 → 1 ≤ count_of n (e.1 ∷ map (λ (p : Word × ℕ). p.1) es)
    itself one = omega (arith, more, one)

    others : 1 ≤ count_of n (map (λ (p : Word × ℕ). p.1) es) → 1 ≤ count_of n (e.1 ∷ map (λ (p : Word × ℕ). p.1) es)
    others rest = omega (arith, more, rest)

    by : (b : Bool) → option_map (λ (x : Word × ℕ). x.1) (cond b (Some e) (find (λ (x : Word × ℕ). bytes_eq x.0 w) es)) ≡ Some n → (number_in es w ≡ Some n → 1 ≤ count_of n (map (λ (p : Word × ℕ). p.1) es))
        → 1 ≤ count_of n (e.1 ∷ map (λ (p : Word × ℕ). p.1) es)
    by true known rest = (let same : e.1 ≡ n = same_found e.1 n known in itself (ap (λ (m : ℕ). one_where m n) same ∙ one-itself n))
    by false known rest = others (rest known)

abbrev Found : ℕ → List (ℕ × Session) → Type 0
Found n xs = (session : Session) × (session_in n xs ≡ Some session)

found-counted : (n : ℕ) (xs : List (ℕ × Session)) → 1 ≤ count_of n (map (λ e. e.0) xs) → Found n xs
found-counted n [] some = absurd (omega (arith, some))
found-counted n (x ∷ xs) some = by (x.0 == n) refl (found-counted n xs)
  where
    sought : Bool → Option Session
    sought b = option_map (λ (e : ℕ × Session). e.1) (cond b (Some x) (find (λ (e : ℕ × Session). e.0 == n) xs))

    more : count_of n (x.0 ∷ map (λ (e : ℕ × Session). e.0) xs) ≡ one_where x.0 n + count_of n (map (λ (e : ℕ × Session). e.0) xs)
    more = counted-cons n x.0 (map (λ (e : ℕ × Session). e.0) xs)

    left : one_where x.0 n ≡ 0 → 1 ≤ count_of n (map (λ (e : ℕ × Session). e.0) xs)
    left none = omega (arith, some, more, none)

    by : (b : Bool) → (x.0 == n) ≡ b → (1 ≤ count_of n (map (λ (e : ℕ × Session). e.0) xs) → Found n xs) → Found n (x ∷ xs)
    by true is rest = (x.1, ap sought is)
    by false is rest = (let one = rest (left (ap (λ (b : Bool). cond b 1 0) is)) in (one.0, ap sought is ∙ one.1))

peer-there : (world : World) (w : Word) (n : ℕ) → NumbersFit world → session_number world w ≡ Some n → Found n world.hub.sessions
peer-there world w n fits known =
    found-counted n world.hub.sessions (least (count_of n (map (λ e. e.0) world.hub.sessions)) (count_of n (filter_map (λ s. s.session) world.seats)) (count_of n (map (λ p. p.1) world.peers))
    (fits.all n ∙ count-append n (filter_map (λ s. s.session) world.seats) (map (λ p. p.1) world.peers)) (counted-peer w n world.peers known))
  where
    least : (all seats peers : ℕ) → all ≡ seats + peers → 1 ≤ peers → 1 ≤ all
    least all seats peers is some = omega (arith, is, some)

-- ---- when octets come

abbrev at_place : ℕ → World → Option (ℕ × World)
at_place number there = Some (number, there)

pub record PeerStands (number : ℕ) (there : World) : Type 0 where
  pub reached : IsReached there.hub
  pub session : Session
  pub found : session_of there.hub number ≡ Some session
  pub served : IsServed session
  pub each : ArePeersServed there

module _ (w : Word) (earlier : World) (reached : IsReached earlier.hub) (fits : NumbersFit earlier) (served : ArePeersServed earlier) where
  abbrev with_peer : ℕ → World
  with_peer number = record earlier { hub = (connect earlier.hub).1; peers = earlier.peers ++ (w, number) ∷ [] }

  stands-known : (n : ℕ) → session_number earlier w ≡ Some n → PeerStands n earlier
  stands-known n known =
      let (session, found) = peer-there earlier w n fits known in
      record {
        reached = reached;
        session = session;
        found = found;
        served = number-all (λ m. ServedAt m earlier.hub) w earlier.peers n served known session found;
        each = served;
      }

  stands-new : (n : ℕ) → (connect earlier.hub).0 ≡ Some n → PeerStands n (with_peer n)
  stands-new n made =
      let new = new-ones-are-found earlier.hub n reached made in
      let grown : (m : ℕ) → ServedAt m earlier.hub → ServedAt m (connect earlier.hub).1 = λ m h. others-serve m (connects ∷ []) earlier.hub (tt, tt) h in
      let nobody : ServedAt n earlier.hub = λ s there. (let never : None ≡ Some s = sym new.fresh ∙ there in absurd cc) in
      record {
        reached = reached-go-on earlier.hub (connects ∷ []) reached ((tt, tt), tt);
        session = new_session (keeps_now earlier.hub) (now earlier.hub);
        found = new.there;
        served = grown n nobody (new_session (keeps_now earlier.hub) (now earlier.hub)) new.there;
        each = each-append (λ (p : Word × ℕ). ServedAt p.1 (connect earlier.hub).1) earlier.peers ((w, n) ∷ [])
            (all-weaken (λ (p : Word × ℕ). ServedAt p.1 earlier.hub) (λ (p : Word × ℕ). ServedAt p.1 (connect earlier.hub).1) (λ p h. grown p.1 h) earlier.peers served) (grown n nobody, tt);
      }

  pub peer-stands : (number : ℕ) (there : World) → placed w earlier ≡ Some (number, there) → PeerStands number there
  peer-stands number there is = by (session_number earlier w) refl is
    where
      moved : (n : ℕ) (world : World) → at_place n world ≡ at_place number there → PeerStands n world → PeerStands number there
      moved n world same h = subst (λ (p : ℕ × World). PeerStands p.0 p.1) (same_found (n, world) (number, there) same) h

      by_made : (o : Option ℕ) → (connect earlier.hub).0 ≡ o → option_map (λ n. (n, with_peer n)) o ≡ at_place number there → PeerStands number there
      by_made None made same = absurd cc
      by_made (Some n) made same = moved n (with_peer n) same (stands-new n made)

      by : (o : Option ℕ) → session_number earlier w ≡ o → (elim o as (λ _. Option (ℕ × World)) [ Some n ↦ Some (n, earlier) | None ↦ option_map (λ n. (n, with_peer n)) (connect earlier.hub).0 ]) ≡ at_place number there → PeerStands number there
      by (Some n) known same = moved n earlier same (stands-known n known)
      by None none same = by_made (connect earlier.hub).0 refl same

-- ---- behind an exchange

module _ (w : Word) (number : ℕ) (octets : List ℕ) (there : World) (p : PeerStands number there) (good : AreOctets octets) (few : length octets ≤ 65537) where
  abbrev x : Exchanged
  x = exchanged enough number octets there.hub []

  pub peer-exchange : ExchangeSo number octets there.hub x p.session
  peer-exchange = exchange-so there.hub number octets p.session p.reached p.found p.served good few

  own-served : ServedAt number x.hub
  own-served s found =
      let so = peer-exchange in
      subst IsServed (same_found so.after s (sym so.there ∙ found)) (done-served so.after x.over so.silent so.done)

  one-served : (m : ℕ) → ServedAt m there.hub → ServedAt m x.hub
  one-served m h = by (m == number) refl
    where
      by : (b : Bool) → (m == number) ≡ b → ServedAt m x.hub
      by true is = subst (λ (k : ℕ). ServedAt k x.hub) (sym (same-number m number is)) own-served
      by false is =
          let apart : m ≡ number → ⊥ = λ same. (let wrong : true ≡ false = sym (number-itself number) ∙ ap (λ (k : ℕ). k == number) (sym same) ∙ is in absurd cc) in
          subst (ServedAt m) (sym peer-exchange.calls)
          (others-serve m (exchange_calls enough number octets there.hub) there.hub (all-exchanged (NotFor m) number (λ room. apart) AreOctets octets-parts (λ piece good. apart) enough octets there.hub good) h)

  cut-served : (o : Option ℕ) (m : ℕ) (hub : Hub) → ServedAt m hub → ServedAt m (hub_without o hub)
  cut-served None m hub h = h
  cut-served (Some gone) m hub h = others-serve m (ends gone ∷ []) hub (tt, tt) h

  pub exchanges-served : ArePeersServed (exchanges w number octets there).0
  exchanges-served = by x.over
    where
      later : World
      later = record there { hub = x.hub }

      behind : ArePeersServed later
      behind = all-weaken (λ (e : Word × ℕ). ServedAt e.1 there.hub) (λ (e : Word × ℕ). ServedAt e.1 x.hub) (λ e h. one-served e.1 h) there.peers p.each

      by : (o : Option EndReason) → ArePeersServed (elim o as (λ _. World) [ None ↦ later | Some reason ↦ cut_peer w later ])
      by None = behind
      by (Some reason) =
          let hub : Hub = hub_without (session_number later w) x.hub in
          all_filter (λ (e : Word × ℕ). ServedAt e.1 hub) (λ (e : Word × ℕ). not (bytes_eq e.0 w)) there.peers
          (all-weaken (λ (e : Word × ℕ). ServedAt e.1 x.hub) (λ (e : Word × ℕ). ServedAt e.1 hub) (λ e h. cut-served (session_number later w) e.1 x.hub h) there.peers behind)

-- ---- between two lines

sends-served : (w : Word) (octets : List ℕ) (world : World) → IsReached world.hub → NumbersFit world → AreOctets octets → length octets ≤ 65537 → ArePeersServed world → ArePeersServed (line_does by_history (send w octets) world).0
sends-served w octets world reached fits good few served = by (placed w world) refl
  where
    by : (o : Option (ℕ × World)) → placed w world ≡ o → ArePeersServed (elim o as (λ _. Printed) [
      | None ↦ printing (noseat_words w) world
      | Some place ↦ exchanges w place.0 octets place.1
    ]).0
    by None is = served
    by (Some (number, there)) is = exchanges-served w number octets there (peer-stands w world reached fits served number there is) good few

line-served : (line : ScriptLine) (world : World) → AreWithin line → IsReached world.hub → NumbersFit world → IsApart world → ArePeersServed world → ArePeersServed (line_does by_history line world).0
line-served (session_event w (session_events.Send octets)) world within reached fits apart served = sends-served w octets world reached fits within.1.0 within.1.1 served
line-served (session_event w (session_events.Stop rcode delay)) world within reached fits apart served = served-line (session_event w (session_events.Stop rcode delay)) world tt within apart served
line-served (session_event w session_events.Cut) world within reached fits apart served = served-line (session_event w session_events.Cut) world tt within apart served
line-served silent world within reached fits apart served = served-line silent world tt within apart served
line-served (head_line line) world within reached fits apart served = served-line (head_line line) world tt within apart served
line-served (joining w is_lone) world within reached fits apart served = served-line (joining w is_lone) world tt within apart served
line-served (hub_event event) world within reached fits apart served = served-line (hub_event event) world tt within apart served
line-served (link_event w event) world within reached fits apart served = served-line (link_event w event) world tt within apart served
line-served (client_call w call) world within reached fits apart served = served-line (client_call w call) world tt within apart served
line-served (client_passing w way) world within reached fits apart served = served-line (client_passing w way) world tt within apart served
line-served (client_event w event) world within reached fits apart served = served-line (client_event w event) world tt within apart served

module _ (stands : StandsAfterEachLine) (script : List ScriptLine) (are : AreLines script) where
  abbrev start : World
  start = start_world script

  lines-served : (lines done rest : List ScriptLine) → script ≡ done ++ (lines ++ rest) → AllByRecursion AreWithin lines → ArePeersServed (world_after done start) → ArePeersServed (world_after lines (world_after done start))
  lines-served [] done rest split within served = served
  lines-served (line ∷ lines) done rest split within served =
      let world : World = world_after done start in
      let all = stands script done (line ∷ (lines ++ rest)) are split in
      let next : ArePeersServed (line_does by_history line world).0 = line-served line world within.0 all.reached all.numbers (apart-lines done start (apart-start script)) served in
      let moved : world_after (done ++ line ∷ []) start ≡ (line_does by_history line world).0 = after-append done (line ∷ []) start in
      subst (λ (x : World). ArePeersServed (world_after lines x)) moved
      (lines-served lines (done ++ line ∷ []) rest (split ∙ sym (append_assoc done (line ∷ []) (lines ++ rest))) within.1 (subst ArePeersServed (sym moved) next))

  pub peers-served : (before behind : List ScriptLine) → script ≡ before ++ behind → ArePeersServed (world_after before start)
  peers-served before behind split =
      lines-served before [] behind split (each-front AreWithin before behind (subst (AllByRecursion AreWithin) split (are-within script are))) tt

-- ---- what is made in turn

-- what more messages there are
cancel_messages : (front more other : List (List ℕ)) → front ++ more ≡ front ++ other → more ≡ other
cancel_messages [] more other is = is
cancel_messages (m ∷ ms) more other is = (let tail : ms ++ more ≡ ms ++ other = cc in cancel_messages ms more other tail)

-- what a session has made behind some calls is what these make for it
more-in-turn : (hub : Hub) (calls : List HubCall) (number : ℕ) (before after : Session) (more : List Made) → IsReached hub → session_of hub number ≡ Some before → session_of (after_calls calls hub) number ≡ Some after
    → after.made ≡ before.made ++ more → made_messages more ≡ made_in number calls hub
more-in-turn hub calls number before after more reached was there made =
    cancel_messages (messages_of before) (made_messages more) (made_in number calls hub) (
    sym (map-append (λ (m : Made). m.message) before.made more) ∙ sym (ap made_messages made)
    ∙ (made-in-turn hub calls number after there).0 before (reached-below hub number before reached was) was
    )

-- ---- a peer's line

module _ (stands : StandsAfterEachLine) (before behind : List ScriptLine) (w : Word) (octets : List ℕ) (are : AreLines (before ++ send w octets ∷ behind)) where
  abbrev world : World
  world = world_after before (start_world (before ++ send w octets ∷ behind))

  written : AreWithin (send w octets)
  written = (each-behind AreWithin before (send w octets ∷ behind) (are-within (before ++ send w octets ∷ behind) are)).0

  pub stands-there : (number : ℕ) (there : World) → placed w world ≡ Some (number, there) → PeerStands number there
  stands-there number there place =
      let all = stands (before ++ send w octets ∷ behind) before (send w octets ∷ behind) are refl in
      peer-stands w world all.reached all.numbers (peers-served stands (before ++ send w octets ∷ behind) are before (send w octets ∷ behind) refl) number there place

  pub send-is-answered : (records : HeldRecords) (number : ℕ) (there : World) → placed w world ≡ Some (number, there) → SendIsAnswered records w octets world number there
  send-is-answered records number there place =
      let p = stands-there number there place in
      let so = peer-exchange w number octets there p written.1.0 written.1.1 in
      let x : Exchanged = exchanged enough number octets there.hub [] in
      record {
        before = p.session;
        found = p.found;
        silent = p.served.silent;
        waits = p.served.waits;
        so = so;
        in_turn = more-in-turn there.hub (exchange_calls enough number octets there.hub) number p.session so.after so.more p.reached p.found (ap (λ (h : Hub). session_of h number) (sym so.calls) ∙ so.there) so.made;
        printed = ap (λ (o : Option (ℕ × World)). (elim o as (λ _. Printed) [
          | None ↦ printing (noseat_words w) world
          | Some place ↦ exchanges w place.0 octets place.1
        ]).1) place ∙ ap (λ (os : List ℕ). bytes_line w os ∷ end_lines w x.over) so.octets_are;
      }

-- of lines, and of a text
pub lines-sends-answered : StandsAfterEachLine → (script : List ScriptLine) → AreLines script → AnswersSendsIn script
lines-sends-answered stands script are records before behind w octets number there split place =
    subst (λ (s : List ScriptLine). AreLines s → placed w (world_after before (start_world s)) ≡ Some (number, there) → SendIsAnswered records w octets (world_after before (start_world s)) number there)
    (sym split) (λ all at. send-is-answered stands before behind w octets all records number there at) are place

pub sends-answered : StandsAfterEachLine → SendsAreAnswered
sends-answered stands records text before behind w octets number there read place = send-is-answered stands before behind w octets (are-lines text (before ++ send w octets ∷ behind) read) records number there place

-- ---- a SUBSCRIBE anywhere

-- what more a session has made
cancel : (front more other : List Made) → front ++ more ≡ front ++ other → more ≡ other
cancel [] more other is = is
cancel (m ∷ ms) more other is = (let tail : ms ++ more ≡ ms ++ other = cc in cancel ms more other tail)

module _ (stands : StandsAfterEachLine) (records : HeldRecords) (text : List ℕ) (asked : Asks) (asks : AsksAnywhere text asked) where
  abbrev turn : HasItsTurn asked.number (calls_asked asked) asked.world.hub asked.front asked.message
  turn = asks.turn

  abbrev hub : Hub
  hub = asked.world.hub

  abbrev hub_at_turn : Hub
  hub_at_turn = after_calls turn.first hub

  abbrev given : Giving
  given = give hub_at_turn asked.number turn.room

  are : AreLines (lines_asked asked)
  are = are-lines text (lines_asked asked) asks.read

  sent : SendIsAnswered records asked.word asked.octets (world_asked asked) asked.number asked.world
  sent = send-is-answered stands asked.before asked.behind asked.word asked.octets are records asked.number asked.world asks.place

  reached : IsReached hub
  reached = (stands-there stands asked.before asked.behind asked.word asked.octets are asked.number asked.world asks.place).reached

  good : AreOctets asked.octets
  good = (written stands asked.before asked.behind asked.word asked.octets are).1.0

  fit : FitCalls (turn.first ++ gives asked.number turn.room ∷ turn.last)
  fit = subst FitCalls turn.calls_are (all-exchanged FitsCall asked.number (λ room. (tt, tt)) AreOctets octets-parts (λ piece good. (good, tt)) enough asked.octets hub good)

  reached_then : IsReached hub_at_turn
  reached_then = reached-go-on hub turn.first reached (each-front FitsCall turn.first (gives asked.number turn.room ∷ turn.last) fit)

  reached_given : IsReached given.hub
  reached_given = reached-go-on hub_at_turn (gives asked.number turn.room ∷ []) reached_then ((tt, tt), tt)

  -- before it, its own, and behind it
  first_made : WentOut (handed_out asked.number turn.first hub) sent.before turn.session
  first_made = (made_goes_out hub turn.first asked.number turn.session turn.there).0 sent.before (reached-below hub asked.number sent.before reached sent.found) sent.found

  one : IsAnswered hub_at_turn given.hub asked.number turn.session given.octets asked.message asked.question
  one = subscribes-are-answered asked.number (calls_asked asked) hub asked.front asked.message asked.question turn asks.acceptable

  own_made : WentOut (handed_out asked.number (gives asked.number turn.room ∷ []) hub_at_turn) turn.session one.after
  own_made = (made_goes_out hub_at_turn (gives asked.number turn.room ∷ []) asked.number one.after one.there).0 turn.session (reached-below hub_at_turn asked.number turn.session reached_then turn.there) turn.there

  last_there : session_of (after_calls turn.last given.hub) asked.number ≡ Some sent.so.after
  last_there =
      ap (λ (h : Hub). session_of h asked.number) (sym (calls-append turn.first (gives asked.number turn.room ∷ turn.last) hub) ∙ ap (λ (cs : List HubCall). after_calls cs hub) (sym turn.calls_are) ∙ sym sent.so.calls) ∙ sent.so.there

  last_made : WentOut (handed_out asked.number turn.last given.hub) one.after sent.so.after
  last_made = (made_goes_out given.hub turn.last asked.number sent.so.after last_there).0 one.after (reached-below given.hub asked.number one.after reached_given one.there) one.there

  all_made : sent.so.more ≡ first_made.more ++ (own_made.more ++ last_made.more)
  all_made = cancel sent.before.made sent.so.more (first_made.more ++ (own_made.more ++ last_made.more)) (
      sym sent.so.made ∙ last_made.made ∙ ap (λ (ms : List Made). ms ++ last_made.more) (own_made.made ∙ ap (λ (ms : List Made). ms ++ own_made.more) first_made.made)
      ∙ append_assoc (sent.before.made ++ first_made.more) own_made.more last_made.more ∙ append_assoc sent.before.made first_made.more (own_made.more ++ last_made.more)
      )

  own_octets : flat_map frame_of own_made.more ≡ octets_asked text asked asks
  own_octets =
      sym (own_made.octets ∙ ap (λ (os : List ℕ). os ++ flat_map frame_of own_made.more) turn.silent)
      ∙ ap (λ (os : List ℕ). os ++ one.after.output) (append-nil (cond (asked.number == asked.number) given.octets []) ∙ ap (λ (b : Bool). cond b given.octets []) (number-itself asked.number))
      ∙ one.octets_are

  abbrev told : List ℕ
  told = flat_map frame_of first_made.more ++ (octets_asked text asked asks ++ flat_map frame_of last_made.more)

  told_is : flat_map frame_of sent.so.more ≡ told
  told_is =
      ap (flat_map frame_of) all_made ∙ flat_map-append frame_of first_made.more (own_made.more ++ last_made.more)
      ∙ ap (λ (os : List ℕ). flat_map frame_of first_made.more ++ os) (flat_map-append frame_of own_made.more last_made.more ∙ ap (λ (os : List ℕ). os ++ flat_map frame_of last_made.more) own_octets)

  abbrev over : Option EndReason
  over = (exchanged enough asked.number asked.octets hub []).over

  abbrev line_told : List (List ℕ)
  line_told = lines_told text asked asks first_made.more last_made.more over

  printed_so : (line_does records (send asked.word asked.octets) (world_asked asked)).1 ≡ line_told
  printed_so = sent.printed ∙ ap (λ (os : List ℕ). bytes_line asked.word os ∷ end_lines asked.word over) told_is

  abbrev printed_then : List (List ℕ)
  printed_then = printed_by records asked.before (start_world (lines_asked asked)) (start_askings (lines_asked asked))

  abbrev printed_behind : List (List ℕ)
  printed_behind = printed_by records asked.behind (line_does by_history (send asked.word asked.octets) (world_asked asked)).0 (askings_behind asked)

  text_so : text_by records (lines_asked asked) ≡ ended_lines printed_then ++ (ended_lines line_told ++ ended_lines printed_behind)
  text_so =
      ap ended_lines (printed-append records asked.before (send asked.word asked.octets ∷ asked.behind) (start_world (lines_asked asked)) (start_askings (lines_asked asked)))
      ∙ ap (λ (lines : List (List ℕ)). ended_lines (printed_then ++ (lines ++ printed_behind))) printed_so
      ∙ lines-append printed_then (line_told ++ printed_behind)
      ∙ ap (λ (rest : List ℕ). ended_lines printed_then ++ rest) (lines-append line_told printed_behind)

  pub ask-is-answered : AskIsAnswered records text asked asks
  ask-is-answered = record {
    front = first_made.more;
    back = last_made.more;
    over = over;
    front_in_turn = more-in-turn hub turn.first asked.number sent.before turn.session first_made.more reached sent.found turn.there first_made.made;
    back_in_turn = more-in-turn given.hub turn.last asked.number one.after sent.so.after last_made.more reached_given one.there last_there last_made.made;
    comes_to = refl;
    made_before = λ session found. first_made.made ∙ ap (λ (s : Session). s.made ++ first_made.more) (same_found sent.before session (sym sent.found ∙ found));
    printed = printed_so;
    replied = reply-is records text (lines_asked asked) (ended_lines printed_then ++ (ended_lines line_told ++ ended_lines printed_behind)) asks.read text_so;
  }

pub asks-answered : StandsAfterEachLine → AsksAreAnswered
asks-answered stands records text asked asks = ask-is-answered stands records text asked asks

pub each-brought-up : StandsAfterEachLine → EachIsBroughtUp
each-brought-up stands records text asked back read place is =
    let own = each-has-its-turn asked.number (calls_asked asked) asked.world.hub asked.front asked.message back is in
    record {
      turn = own.0;
      effect = own.1;
      answered = λ acceptable. ask-is-answered stands records text asked (record { read = read; place = place; turn = own.0; acceptable = acceptable });
    }
