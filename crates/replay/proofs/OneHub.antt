-- A script of one hub is answered as it was: the second world is empty, and prints nothing.
--     one-answered, one-checked      what is told of it
--     one-leaves      what it leaves
use Rattle.std.proofs.Common.{◌≡◌, ℕ, Bool, true, false, List, [], ◌∷◌, ◌++◌, map, Option, Some, None, Result, Ok, Err, refl, ap, sym, subst, ◌∙◌, append_assoc}
use Rattle.std.specs.Prelude.{flat_map, fold, length, is_some}
use Rattle.std.specs.List.{AllZip}
use Rattle.std.proofs.lemmas.List.{append-nil}
use Rattle.dnsname.specs.Names.{Labels}
use Rattle.hubasking.specs.LinkAskings.{Askings}
use Rattle.pushserver.specs.Hubs as hubs
use Rattle.pushserver.specs.Hubs.{now}
use Rattle.pushserver.specs.PlainHubs.{Hub}
use Rattle.pushclient.specs.Clients.{closed_as}
use Rattle.pushclient.specs.Rule.{KeptClient}
use Rattle.pushclient.specs.Steps as steps
use Rattle.scripts.specs.Lines.{Word, timers, zone, link, reverse, ScriptLine, silent, head_line, joining, hub_event, link_event, client_call, client_passing, client_event, session_event}
use Rattle.scripts.specs.declared.line.HubEvent.TheVariants as hub_events
use Rattle.scripts.specs.Reply.{Reply}
use Rattle.scripts.specs.Scripts.{script_of, lines_in}
use Rattle.scripts.specs.Words.{ended_lines}
use Rattle.scripts.specs.WholeLines.{WholeLine, one, near_of, is_far_in}
use Rattle.scripts.specs.WholeScripts.{whole_script_of, apex_in, near_lines, far_heads}
use Rattle.scripts.proofs.wholes.OneHub.{whole-of-one, near-of-one, apex-of-one}
use Rattle.replay.specs.Askings.{asked_lines, line_asks, lines_asks, start_askings}
use Rattle.replay.specs.Checks.{checked, good_text}
use Rattle.replay.specs.KeptEnds.{AreEnds}
use Rattle.replay.specs.OneHub.{OneHubIsAnswered, OneHubIsChecked, OneHubLeaves}
use Rattle.replay.specs.Promises.{ClientStandsFor, EndsStandFor}
use Rattle.replay.specs.ScriptReplies.{reply_to_script}
use Rattle.replay.specs.ScriptTexts.{printed_by, text_by, text_with, outside_text}
use Rattle.replay.specs.Text.{Printed, quietly, close_lines, closes_of, timed, moments, line_does, world_after}
use Rattle.replay.specs.TextWords.{HeldRecords, by_notices}
use Rattle.replay.specs.TwoWorlds.{Worlds, start_worlds, woven, closes_at, closes_of_both, lines_do, worlds_after}
use Rattle.replay.specs.WholeTexts.{whole_printed, whole_text_by, whole_text_with, whole_reply, whole_checked}
use Rattle.replay.specs.World.{World, Seat, start_world}

-- ---- what is printed at a moment

woven-none : {X : Type 0} (order : List Bool) (xs : List X) → woven order xs [] ≡ xs
woven-none [] xs = append-nil xs
woven-none (true ∷ order) xs = woven-none order xs
woven-none (false ∷ order) [] = woven-none order []
woven-none (false ∷ order) (x ∷ xs) = ap (λ ys. x ∷ ys) (woven-none order xs)

abbrev all_lines : List (List (List ℕ)) → List (List ℕ)
all_lines closes = flat_map (λ (lines : List (List ℕ)). lines) closes

closes-are : (t : ℕ) (so_far : Printed) (seats : List Seat) → (fold (timed t) so_far seats).1 ≡ so_far.1 ++ all_lines (closes_of t seats)
closes-are t so_far [] = sym (append-nil so_far.1)
closes-are t so_far (seat ∷ seats) = closes-are t (timed t so_far seat) seats ∙ append_assoc so_far.1 (close_lines seat.word (closed_as (steps.moment seat.client t))) (all_lines (closes_of t seats))

moment-prints : (t : ℕ) (world : World) → (moments t world).1 ≡ all_lines (closes_at t world)
moment-prints t world = closes-are (now (hubs.moment world.hub t)) (quietly (record world { hub = hubs.moment world.hub t })) world.seats

-- ---- a line

-- the second world has a hub, and no clients and peers
abbrev of_one : Option Labels → World → Hub → List Word → List Bool → Worlds
of_one apex near hub links order = record { apex = apex; fars = []; near = near; far = record { hub = hub; links = links; seats = []; peers = [] }; order = order }

abbrev Both : Type 0
Both = Worlds × List (List ℕ)

abbrev beside : Worlds → List (List ℕ) → Both
beside worlds printed = (worlds, printed)

-- the first world does the line, and nothing else is printed
abbrev DoesAlone : HeldRecords → ScriptLine → Option Labels → World → Hub → List Word → List Bool → Type 0
DoesAlone records line apex near hub links order = (hub_then : Hub) × (order_then : List Bool)
    × (lines_do records (one line) (of_one apex near hub links order) ≡ (of_one apex (line_does records line near).0 hub_then links order_then, (line_does records line near).1))

module _ (records : HeldRecords) (apex : Option Labels) (near : World) (hub : Hub) (links : List Word) (order : List Bool) where
  -- what the first hub prints, and nothing behind it
  with_none : (line : ScriptLine) → beside (of_one apex (line_does records line near).0 hub links order) ((line_does records line near).1 ++ []) ≡ beside (of_one apex (line_does records line near).0 hub links order) (line_does records line near).1
  with_none line = ap (beside (of_one apex (line_does records line near).0 hub links order)) (append-nil (line_does records line near).1)

  moment-alone : (t : ℕ) → closes_of_both t (of_one apex near hub links order) ≡ (moments t near).1
  moment-alone t = ap all_lines (woven-none order (closes_at t near)) ∙ sym (moment-prints t near)

  does-alone : (line : ScriptLine) → DoesAlone records line apex near hub links order
  does-alone silent = (hub, order, refl)
  does-alone (head_line (timers i k)) = (hub, order, refl)
  does-alone (head_line (zone apex serial mode)) = (hub, order, refl)
  does-alone (head_line (link w domain most)) = (hub, order, refl)
  does-alone (head_line (reverse w domain)) = (hub, order, refl)
  does-alone (joining w is_lone) = (hub, order ++ false ∷ [], refl)
  does-alone (hub_event (hub_events.At t)) = (hubs.moment hub t, order, ap (beside (of_one apex (moments t near).0 (hubs.moment hub t) links order)) (moment-alone t))
  does-alone (hub_event (hub_events.Update message)) = (hub, order, with_none (hub_event (hub_events.Update message)))
  does-alone (hub_event hub_events.Point) = (hub, order, with_none (hub_event hub_events.Point))
  does-alone (link_event w event) = (hub, order, with_none (link_event w event))
  does-alone (client_call w call) = (hub, order, with_none (client_call w call))
  does-alone (client_passing w way) = (hub, order, with_none (client_passing w way))
  does-alone (client_event w event) = (hub, order, with_none (client_event w event))
  does-alone (session_event w event) = (hub, order, with_none (session_event w event))

-- ---- lines

abbrev ones : List ScriptLine → List WholeLine
ones lines = map (λ (l : ScriptLine). one l) lines

-- a line names no client of a second hub, as there is none
near-is : (l : ScriptLine) → near_of (is_far_in []) (one l) ≡ l
near-is silent = refl
near-is (head_line line) = refl
near-is (joining w is_lone) = refl
near-is (hub_event event) = refl
near-is (link_event w event) = refl
near-is (client_call w call) = refl
near-is (client_passing w way) = refl
near-is (client_event w event) = refl
near-is (session_event w event) = refl

printed-alone : (records : HeldRecords) (lines : List ScriptLine) (apex : Option Labels) (near : World) (hub : Hub) (links : List Word) (order : List Bool) (askings : Askings)
    → whole_printed records (ones lines) (of_one apex near hub links order) askings ≡ printed_by records lines near askings
printed-alone records [] apex near hub links order askings = refl
printed-alone records (line ∷ lines) apex near hub links order askings =
    let does : DoesAlone records line apex near hub links order = does-alone records apex near hub links order line in
    let near_line : ScriptLine = near_of (is_far_in []) (one line) in
    let later : World = (line_does records line near).0 in
    let printed : List (List ℕ) = (line_does records line near).1 in
    ap (λ (p : Both). p.1 ++ (asked_lines near_line near askings ++ whole_printed records (ones lines) p.0 (line_asks near_line near askings))) does.2
    ∙ ap (λ (l : ScriptLine). printed ++ (asked_lines l near askings ++ whole_printed records (ones lines) (of_one apex later does.0 links does.1) (line_asks l near askings))) (near-is line)
    ∙ ap (λ (ls : List (List ℕ)). printed ++ (asked_lines line near askings ++ ls)) (printed-alone records lines apex later does.0 links does.1 (line_asks line near askings))

text-alone : (records : HeldRecords) (script : List ScriptLine) → whole_text_by records (ones script) ≡ text_by records script
text-alone records script =
    let far : World = start_world (far_heads (ones script)) in
    ap ended_lines (printed-alone records script (apex_in (ones script)) (start_world (near_lines (ones script))) far.hub far.links [] (start_askings (near_lines (ones script))))
    ∙ ap (λ (lines : List ScriptLine). ended_lines (printed_by records script (start_world lines) (start_askings lines))) (near-of-one script)

-- ---- replies

abbrev whole_told : HeldRecords → Result (List WholeLine) ℕ → ℕ × List ℕ
whole_told records read = elim read as (λ _. ℕ × List ℕ) [ Ok script ↦ (0, whole_text_by records script) | Err n ↦ (2, outside_text n) ]

abbrev told : HeldRecords → Result (List ScriptLine) ℕ → ℕ × List ℕ
told records read = elim read as (λ _. ℕ × List ℕ) [ Ok script ↦ (0, text_by records script) | Err n ↦ (2, outside_text n) ]

texts-alone : (records : HeldRecords) (octets : List ℕ) (script : List ScriptLine) → script_of octets ≡ Ok script → whole_text_with records octets ≡ text_with records octets
texts-alone records octets script read =
    let whole : whole_text_with records octets ≡ (0, whole_text_by records (ones script)) = ap (whole_told records) (whole-of-one octets script read) in
    let alone : text_with records octets ≡ (0, text_by records script) = ap (told records) read in
    whole ∙ ap (λ (text : List ℕ). (0, text)) (text-alone records script) ∙ sym alone

pub one-answered : OneHubIsAnswered
unfolding whole_reply reply_to_script
one-answered records octets script read = ap (λ (p : ℕ × List ℕ). record { status = p.0; text = p.1 }) (texts-alone records octets script read)

abbrev whole_checked_as : List ℕ → Result (List WholeLine) ℕ → Reply
whole_checked_as octets read = elim read as (λ _. Reply) [ Ok script ↦ record { status = 0; text = good_text (length (lines_in octets)) } | Err n ↦ record { status = 2; text = outside_text n } ]

abbrev checked_as : List ℕ → Result (List ScriptLine) ℕ → Reply
checked_as octets read = elim read as (λ _. Reply) [ Ok script ↦ record { status = 0; text = good_text (length (lines_in octets)) } | Err n ↦ record { status = 2; text = outside_text n } ]

pub one-checked : OneHubIsChecked
unfolding whole_checked checked
one-checked octets script read =
    let whole : whole_checked_as octets (whole_script_of octets) ≡ whole_checked_as octets (Ok (ones script)) = ap (whole_checked_as octets) (whole-of-one octets script read) in
    let alone : checked_as octets (script_of octets) ≡ checked_as octets (Ok script) = ap (checked_as octets) read in
    whole ∙ sym alone

-- ---- what it leaves

worlds-alone : (records : HeldRecords) (lines : List ScriptLine) (apex : Option Labels) (near : World) (hub : Hub) (links : List Word) (order : List Bool)
    → (worlds_after records (ones lines) (of_one apex near hub links order)).far.seats ≡ []
worlds-alone records [] apex near hub links order = refl
worlds-alone records (line ∷ lines) apex near hub links order =
    let does : DoesAlone records line apex near hub links order = does-alone records apex near hub links order line in
    ap (λ (p : Both). (worlds_after records (ones lines) p.0).far.seats) does.2 ∙ worlds-alone records lines apex (line_does records line near).0 does.0 links does.1

none-for : (P : KeptClient → Seat → Type 0) (clients : List KeptClient) (seats : List Seat) → seats ≡ [] → AllZip P clients seats → clients ≡ []
none-for P [] seats none all = refl
none-for P (k ∷ ks) seats none all = absurd (subst (AllZip P (k ∷ ks)) none all)

no-hub : {X : Type 0} (o : Option X) → is_some o ≡ false → o ≡ None
no-hub None e = refl
no-hub (Some x) e = absurd cc

pub one-leaves : OneHubLeaves
unfolding AreEnds
one-leaves octets ends script are read =
    let all = are (ones script) (whole-of-one octets script read) in
    let lines : near_lines (ones script) ≡ script = near-of-one script in
    let far : World = start_world (far_heads (ones script)) in
    let empty : (worlds_after by_notices (ones script) (start_worlds (ones script))).far.seats ≡ [] =
    worlds-alone by_notices script (apex_in (ones script)) (start_world (near_lines (ones script))) far.hub far.links [] in
    let order : List Bool = (worlds_after by_notices (ones script) (start_worlds (ones script))).order in
    let none : all.0.far ≡ [] = none-for (ClientStandsFor by_notices (worlds_after by_notices (ones script) (start_worlds (ones script))).far) all.0.far _ empty all.0.others in
    let clients : ends.clients.items ≡ all.0.near = all.0.clients ∙ ap (woven order all.0.near) none ∙ woven-none order all.0.near in (
      no-hub ends.far (all.0.there ∙ ap (λ (o : Option Labels). is_some o) (apex-of-one script)),
      subst (λ (ls : List ScriptLine). EndsStandFor by_notices ends.hub.hub ends.clients.items (world_after ls (start_world ls))) lines
          (subst (λ (cs : List KeptClient). EndsStandFor by_notices ends.hub.hub cs (world_after (near_lines (ones script)) (start_world (near_lines (ones script))))) (sym clients) all.0.first),
      all.1 ∙ ap (λ (ls : List ScriptLine). lines_asks ls (start_world ls) (start_askings ls)) lines,
    )
