-- What links are asked stays in order.
--     start-ordered      where nothing was asked
--     calls-ordered, line-ordered      behind calls of the hub, and behind a line
use Rattle.std.proofs.Common.{◌≡◌, ℕ, ◌+◌, T, Bool, true, false, cond, not, ◌&&◌, List, [], ◌∷◌, ◌++◌, map, filter, fold, Option, Some, None, refl, sym, ◌∙◌, ap, subst}
use Rattle.std.specs.Prelude.{slice_get, IsTrue, is_some, if◌then◌else◌}
use Rattle.std.specs.List.{list_any}
use Rattle.std.specs.FinMap.{put as map_put}
use Rattle.std.specs.FinMap.Entries.{is_sorted-put, is_sorted-where_key}
use Rattle.push_base.specs.Cases.{changed_at}
use Rattle.rrset.specs.declared.record.Key.{Key}
use Rattle.rrset.specs.declared.record.Question.{Question}
use Rattle.rrset.specs.KeyedRows.{row_at}
use Rattle.linkcache.specs.Links.{LinkState}
use Rattle.linkcache.specs.Rows.{LinkRows}
use Rattle.linkcache.specs.declared.row.HeardRow.{HeardRow}
use Rattle.linkask.specs.Asking.{Asks, Wanted, all_asked, all_due, anew, asked_now, are_in_order, asked_cmp, asks_of, is_due, never_asked, same_asked, wanted}
use Rattle.linkask.specs.Reasons.{LinkAsking, Reconfirmed, asking_behind, is_doubted, question_for, reasons, with_doubted, with_reasons, noted, still_reconfirmed}
use Rattle.linkask.proofs.Order.{asked_cmp_total}
use Rattle.history.specs.States.{State}
use Rattle.pushserver.specs.Calls.{HubCall, updates, hears, goes, moves, connects, takes, gives, stops, ends, called}
use Rattle.pushserver.specs.Hubs.{state_now}
use Rattle.pushserver.specs.PlainHubs.{Hub}
use Rattle.hubasking.specs.LinkAskings.{Askings, new_askings, plain_questions, asking_after, behind, confirmed_by, links_behind, questions_at, confirmed_on, asks_all}
use Rattle.scripts.specs.Lines.{Word, ScriptLine, silent, head_line, joining, hub_event, link_event, client_call, client_passing, client_event, session_event}
use Rattle.scripts.specs.declared.line.LinkEvent.{LinkEvent}
use Rattle.scripts.specs.declared.line.LinkEvent.TheVariants as link_events
use Rattle.replay.specs.World.{World}
use Rattle.replay.specs.Text.{link_calls, link_number}
use Rattle.replay.specs.LineCalls.{line_calls}
use Rattle.replay.specs.Askings.{AreOrdered, calls_asks, link_asks, line_asks}
use Rattle.replay.proofs.asking.Places.{wanting, changed-ordered, ordered-there, ordered-changed}

abbrev unasked : LinkState → LinkAsking
unasked l = record { wanted = []; reconfirmed = [] }

links-ordered : (links : List LinkState) → AreOrdered (map unasked links)
links-ordered [] = tt
links-ordered (l ∷ links) = (refl, links-ordered links)

pub start-ordered : (start : State) → AreOrdered (new_askings start)
start-ordered start = links-ordered start.links

-- ---- one link

from_T : (b : Bool) → T b → b ≡ true
from_T true h = refl
from_T false h = absurd h

wanted-ordered : (q : Question) (all : Wanted) → IsTrue (are_in_order all) → IsTrue (are_in_order (wanted q all))
wanted-ordered q all h = by (is_some (asks_of q all))
  where
    by : (b : Bool) → IsTrue (are_in_order (if b then all else map_put asked_cmp q never_asked all))
    by true = h
    by false = from_T (are_in_order (map_put asked_cmp q never_asked all)) (is_sorted-put asked_cmp asked_cmp_total q never_asked all (subst T (sym h) tt))

gained-ordered : (questions : List Question) (all : Wanted) → IsTrue (are_in_order all) → IsTrue (are_in_order (fold (λ w q. wanted q w) all questions))
gained-ordered [] all h = h
gained-ordered (q ∷ questions) all h = gained-ordered questions (wanted q all) (wanted-ordered q all h)

kept-ordered : (questions : List Question) (all : Wanted) → IsTrue (are_in_order all) → IsTrue (are_in_order (filter (λ e. list_any (same_asked e.0) questions) all))
kept-ordered questions all h = from_T (are_in_order (filter (λ e. list_any (same_asked e.0) questions) all)) (is_sorted-where_key asked_cmp (λ (q : Question). list_any (same_asked q) questions) all (subst T (sym h) tt))

reasons-ordered : (questions : List Question) (all : Wanted) → IsTrue (are_in_order all) → IsTrue (are_in_order (with_reasons questions all))
reasons-ordered questions all h = gained-ordered questions (filter (λ e. list_any (same_asked e.0) questions) all) (kept-ordered questions all h)

doubted-ordered : (rows : LinkRows) (confirmed : Option Key) (before : Reconfirmed) (all : Wanted) → IsTrue (are_in_order all) → IsTrue (are_in_order (with_doubted rows confirmed before all))
doubted-ordered rows None before all h = h
doubted-ordered rows (Some key) before all h = by (row_at key rows)
  where
    by_test : (b : Bool) → IsTrue (are_in_order (if b then all else anew (question_for key) all))
    by_test true = h
    by_test false = changed-ordered (λ e. same_asked (question_for key) e.0) (λ e. never_asked) all ∙ h

    by : (o : Option HeardRow) → IsTrue (are_in_order (elim o as (λ _. Wanted) [ None ↦ all | Some row ↦ if is_doubted key row.heard before then all else anew (question_for key) all ]))
    by None = h
    by (Some row) = by_test (is_doubted key row.heard before)

-- ---- all links

links-behind : (state : State) (questions : List Question) (confirmed : Option (ℕ × Key)) (link : ℕ) (links : List LinkState) (askings : Askings) → AreOrdered askings → AreOrdered (links_behind state questions confirmed link links askings)
links-behind state questions confirmed link [] askings h = tt
links-behind state questions confirmed link (l ∷ links) [] h = tt
links-behind state questions confirmed link (l ∷ links) (a ∷ askings) h =
    let mine = questions_at state link questions in
    let key = confirmed_on link confirmed in
    let left = still_reconfirmed l.rows (noted l.rows key a.reconfirmed) in (
      doubted-ordered l.rows key a.reconfirmed (with_reasons (reasons l.rules.domain mine left) a.wanted) (reasons-ordered (reasons l.rules.domain mine left) a.wanted h.0),
      links-behind state questions confirmed (link + 1) links askings h.1,
    )

behind-ordered : (confirmed : Option (ℕ × Key)) (later : Hub) (askings : Askings) → AreOrdered askings → AreOrdered (behind plain_questions confirmed later askings)
behind-ordered confirmed later askings h = links-behind (state_now later) _ confirmed 0 (state_now later).links askings h

call-ordered : (call : HubCall) (hub : Hub) (askings : Askings) → AreOrdered askings → AreOrdered (asking_after plain_questions call hub askings)
call-ordered (updates message) hub askings h = behind-ordered (confirmed_by (updates message) hub) (called (updates message) hub) askings h
call-ordered (hears link datagram) hub askings h = behind-ordered (confirmed_by (hears link datagram) hub) (called (hears link datagram) hub) askings h
call-ordered (goes link) hub askings h = behind-ordered (confirmed_by (goes link) hub) (called (goes link) hub) askings h
call-ordered (moves t) hub askings h = behind-ordered (confirmed_by (moves t) hub) (called (moves t) hub) askings h
call-ordered connects hub askings h = h
call-ordered (takes number piece) hub askings h = h
call-ordered (gives number room) hub askings h = behind-ordered (confirmed_by (gives number room) hub) (called (gives number room) hub) askings h
call-ordered (stops number rcode delay) hub askings h = h
call-ordered (ends number) hub askings h = behind-ordered (confirmed_by (ends number) hub) (called (ends number) hub) askings h

-- ---- calls and lines

pub calls-ordered : (calls : List HubCall) (hub : Hub) (askings : Askings) → AreOrdered askings → AreOrdered (calls_asks calls hub askings)
calls-ordered [] hub askings h = h
calls-ordered (call ∷ calls) hub askings h = calls-ordered calls (called call hub) (asking_after plain_questions call hub askings) (call-ordered call hub askings h)

all-ordered : (state : State) (link : ℕ) (askings : Askings) → AreOrdered askings → AreOrdered (asks_all state askings link).1
all-ordered state link askings h = by (slice_get state.links link) (slice_get askings link) refl
  where
    by : (o : Option LinkState) (p : Option LinkAsking) → slice_get askings link ≡ p → AreOrdered (elim o as (λ _. List (List ℕ) × Askings) [
      | None ↦ ([], askings)
      | Some l ↦ elim p as (λ _. List (List ℕ) × Askings) [ None ↦ ([], askings) | Some a ↦ (all_due l.rows state.now a.wanted, changed_at link (wanting (all_asked l.rows state.now a.wanted)) askings) ]
    ]).1
    by None p there = h
    by (Some l) None there = h
    by (Some l) (Some a) there =
        ordered-changed link (all_asked l.rows state.now a.wanted) askings (changed-ordered (is_due l.rows state.now) (λ e. asked_now state.now e.1) a.wanted ∙ ordered-there link a askings h there) h

link-ordered : (event : LinkEvent) (w : Word) (world : World) (askings : Askings) → AreOrdered askings → AreOrdered (link_asks event w world askings)
link-ordered (link_events.Hear datagram) w world askings h = calls-ordered (link_calls (link_events.Hear datagram) w world) world.hub askings h
link-ordered link_events.Gone w world askings h = calls-ordered (link_calls link_events.Gone w world) world.hub askings h
link-ordered link_events.Asks w world askings h = all-ordered (state_now world.hub) (link_number w world) askings h

pub line-ordered : (line : ScriptLine) (world : World) (askings : Askings) → AreOrdered askings → AreOrdered (line_asks line world askings)
line-ordered silent world askings h = h
line-ordered (head_line line) world askings h = h
line-ordered (joining w is_lone) world askings h = h
line-ordered (hub_event event) world askings h = calls-ordered (line_calls (hub_event event) world) world.hub askings h
line-ordered (link_event w event) world askings h = link-ordered event w world askings h
line-ordered (client_call w call) world askings h = h
line-ordered (client_passing w way) world askings h = calls-ordered (line_calls (client_passing w way) world) world.hub askings h
line-ordered (client_event w event) world askings h = calls-ordered (line_calls (client_event w event) world) world.hub askings h
line-ordered (session_event w event) world askings h = calls-ordered (line_calls (session_event w event) world) world.hub askings h
