-- What each line of a script tells of a hub's client.
--     no-ends      no end and no close but those that come by themselves
use Rattle.std.proofs.Common.{◌≡◌, ℕ, Bool, true, false, cond, List, [], ◌∷◌, Option, Some, None, refl, sym, ◌∙◌}
use Rattle.std.specs.Prelude.{IsTrue, map, codes, decimal}
use Rattle.std.specs.List.{AllByRecursion}
use Rattle.rrset.specs.RecordSet.{RecordSet}
use Rattle.rrset.specs.declared.record.Question.{Question}
use Rattle.pushserver.specs.declared.given.Heard.{Heard}
use Rattle.pushserver.specs.declared.given.Heard.TheVariants.{Entered, Ignored}
use Rattle.pushserver.specs.Hubs as hubs
use Rattle.pushserver.specs.Hubs.{now, connect}
use Rattle.pushclient.specs.Clients.{is_connected, connected}
use Rattle.scripts.specs.Lines.{Word, ScriptLine, silent, head_line, joining, hub_event, link_event, client_call, client_passing, client_event, session_event}
use Rattle.scripts.specs.declared.line.HubEvent.{HubEvent}
use Rattle.scripts.specs.declared.line.HubEvent.TheVariants as hub_events
use Rattle.scripts.specs.declared.line.LinkEvent.{LinkEvent}
use Rattle.scripts.specs.declared.line.LinkEvent.TheVariants as link_events
use Rattle.scripts.specs.declared.line.Call.{Call}
use Rattle.scripts.specs.declared.line.Call.TheVariants as calls
use Rattle.scripts.specs.declared.line.ClientEvent.{ClientEvent}
use Rattle.scripts.specs.declared.line.ClientEvent.TheVariants as client_events
use Rattle.scripts.specs.declared.line.SessionEvent.{SessionEvent}
use Rattle.scripts.specs.declared.line.SessionEvent.TheVariants as session_events
use Rattle.scripts.specs.Scripts.{Known, lone_of, may_happen_to, may_meet, in_events, fits}
use Rattle.replay.specs.World.{World, Seat, seat_of, with_seat, start_world}
use Rattle.scripts.specs.Words.{spaced}
use Rattle.replay.specs.TextWords.{record_line, by_history, show_at}
use Rattle.replay.specs.Text.{Printed, quietly, printing, call_word, called, asks, heard_words, yes_or_no, link_number, opens_lone, opens_hub, opens, shows, hub_does, link_does, client_does, session_does, line_does, world_after}
use Rattle.replay.proofs.worlds.SeatLines.{asks_by}
use Rattle.script_laws.specs.Joined.{ShownToEach}
use Rattle.script_laws.specs.Lines.{IsWord, IsSessionWithin, IsRead}
use Rattle.script_laws.proofs.lines.Premises.{LineLaws}
use Rattle.script_laws.proofs.lines.Starting.{is_allowed}
use Rattle.script_laws.proofs.lines.Walking.{Walked, some_true}
use Rattle.script_laws.proofs.ends.Words.{TellsByItself, is_other, other-line, tells-no-other}
use Rattle.script_laws.specs.Whole.{NoMessageEndsLines}
use Rattle.script_laws.proofs.ends.Before.{nothing_shown, stands-before}
use Rattle.script_laws.proofs.ends.Passing.{passes-say, moments-say, sends-say, feeds-say}

-- ---- lines that tell neither

other-call : (call : Call) (v word : Word) → IsTrue (is_other (spaced (call_word call ∷ v ∷ word ∷ [])))
other-call (calls.Ask question) v word = refl
other-call (calls.Drop question) v word = refl
other-call (calls.Reconfirm rr) v word = refl

module _ (w : Word) where
  abbrev Say : List (List ℕ) → Type 0
  Say lines = AllByRecursion (TellsByItself w) lines

  one-line : (line : List ℕ) → IsTrue (is_other line) → Say (line ∷ [])
  one-line line other = (other-line w line other, tt)

  records-say : (set : RecordSet) → Say (map record_line set)
  records-say [] = tt
  records-say (r ∷ rs) = (other-line w (record_line r) refl, records-say rs)

  heard-say : (heard : Heard) → Say (spaced (heard_words heard ∷ []) ∷ [])
  heard-say Entered = one-line (codes "heard") refl
  heard-say (Ignored why) = one-line (heard_words (Ignored why)) refl

  gone-say : (v : Word) (is_gone : Bool) → Say (spaced (codes "gone" ∷ v ∷ yes_or_no is_gone ∷ []) ∷ [])
  gone-say v is_gone = one-line (spaced (codes "gone" ∷ v ∷ yes_or_no is_gone ∷ [])) refl

  module _ (world : World) where
    asks-say : (call : Call) (v : Word) → Say (asks call v world).1
    asks-say call v = by (seat_of world v)
      where
        by : (o : Option Seat) → Say (asks_by call v world o).1
        by None = tt
        by (Some seat) = one-line (spaced (call_word call ∷ v ∷ (called call seat.client).0 ∷ [])) (other-call call v (called call seat.client).0)

    opens-hub-say : (seat : Seat) → Say (opens_hub seat world).1
    opens-hub-say seat = by (connect world.hub).0
      where
        by : (o : Option ℕ) → Say (elim o as (λ _. Printed) [
          | None ↦ printing (codes "noseat" ∷ seat.word ∷ []) world
          | Some number ↦ printing (codes "open" ∷ seat.word ∷ []) (with_seat (record seat { client = connected (now world.hub) seat.client; session = Some number }) (record world { hub = (connect world.hub).1 }))
        ]).1
        by None = one-line (spaced (codes "noseat" ∷ seat.word ∷ [])) refl
        by (Some number) = one-line (spaced (codes "open" ∷ seat.word ∷ [])) refl

    opens-say : (v : Word) → Say (opens v world).1
    opens-say v = by (seat_of world v)
      where
        by_kind : (seat : Seat) (b : Bool) → Say (cond b (opens_lone seat world) (opens_hub seat world)).1
        by_kind seat true = one-line (spaced (codes "open" ∷ seat.word ∷ [])) refl
        by_kind seat false = opens-hub-say seat

        by_open : (seat : Seat) (b : Bool) → Say (cond b (printing (codes "already" ∷ v ∷ []) world) (cond seat.is_lone (opens_lone seat world) (opens_hub seat world))).1
        by_open seat true = one-line (spaced (codes "already" ∷ v ∷ [])) refl
        by_open seat false = by_kind seat seat.is_lone

        by : (o : Option Seat) → Say (elim o as (λ _. Printed) [
          | None ↦ quietly world
          | Some seat ↦ cond (is_connected seat.client) (printing (codes "already" ∷ v ∷ []) world) (cond seat.is_lone (opens_lone seat world) (opens_hub seat world))
        ]).1
        by None = tt
        by (Some seat) = by_open seat (is_connected seat.client)

    shows-say : (v : Word) (question : Question) (written : List ℕ) → Say (shows by_history v question written world).1
    shows-say v question written = by (seat_of world v)
      where
        by : (o : Option Seat) → Say (elim o as (λ _. Printed) [
          | None ↦ quietly world
          | Some seat ↦ (world, spaced (codes "show" ∷ v ∷ written ∷ decimal question.kind ∷ decimal question.class ∷ (show_at by_history world seat question).0 ∷ []) ∷ map record_line (show_at by_history world seat question).1)
        ]).1
        by None = tt
        by (Some seat) =
            let told = show_at by_history world seat question in
            (other-line w (spaced (codes "show" ∷ v ∷ written ∷ decimal question.kind ∷ decimal question.class ∷ told.0 ∷ [])) refl, records-say told.1)

-- ---- each line

module _ (laws : LineLaws) (all : List Word) (words : AllByRecursion IsWord all) (known next : Known) (shown : ShownToEach) (world : World) (h : Walked all known shown world) (w : Word) (own : Seat)
    (found : seat_of world w ≡ Some own) (joins : own.is_lone ≡ false) where
  hub-says : (event : HubEvent) → Say own.word (hub_does event world).1
  hub-says (hub_events.At t) = moments-say laws all words known shown world h.stands h.fits w own found joins t
  hub-says (hub_events.Update message) = one-line own.word (spaced (codes "update" ∷ decimal (hubs.update world.hub message).0 ∷ [])) refl
  hub-says hub_events.Point = one-line own.word (spaced (codes "point" ∷ decimal (hubs.newest world.hub) ∷ decimal (now world.hub) ∷ [])) refl

  link-says : (v : Word) (event : LinkEvent) → Say own.word (link_does event v world).1
  link-says v (link_events.Hear datagram) = heard-say own.word _
  link-says v link_events.Gone = gone-say own.word v (hubs.link_gone world.hub (link_number v world)).0
  link-says v link_events.Asks = tt

  client-says : (v : Word) (event : ClientEvent) → may_happen_to known.clients v event ≡ true → Say own.word (client_does by_history event v world).1
  client-says v client_events.Open may = opens-say own.word world v
  client-says v (client_events.Feed octets) may = feeds-say laws all words known shown world h.stands h.fits w own found joins v octets (sym (h.fits.clients v) ∙ some_true (lone_of known v) may)
  client-says v (client_events.Show question written) may = shows-say own.word world v question written

  session-says : (v : Word) (event : SessionEvent) → IsSessionWithin v event → may_meet all known.clients v event ≡ true → Say own.word (session_does event v world).1
  session-says v (session_events.Send octets) within may = sends-say laws all words known shown world h.stands h.fits w own found joins v octets may within.0
  session-says v (session_events.Stop rcode delay) within may = one-line own.word (spaced (codes "stop" ∷ v ∷ [])) refl
  session-says v session_events.Cut within may = one-line own.word (spaced (codes "cut" ∷ v ∷ [])) refl

  line-says : (line : ScriptLine) → IsRead all line → fits all known line ≡ Some next → Say own.word (line_does by_history line world).1
  line-says silent is e = tt
  line-says (head_line line) is e = tt
  line-says (joining v is_lone) is e = tt
  line-says (hub_event event) is e = hub-says event
  line-says (link_event v event) is e = link-says v event
  line-says (client_call v call) is e = asks-say own.word world call v
  line-says (client_passing v way) is e = passes-say laws all words known shown world h.stands h.fits w own found joins way v
  line-says (client_event v event) is e = client-says v event (is_allowed (may_happen_to known.clients v event) (in_events known) next e).0
  line-says (session_event v event) is e = session-says v event is.within (is_allowed (may_meet all known.clients v event) (in_events known) next e).0

pub no-ends : LineLaws → NoMessageEndsLines
no-ends laws script are before after line w seat split found joins =
    let b = stands-before laws script before after line are split in
    let world = world_after before (start_world script) in
    let says = line-says laws are.all are.words b.known b.next nothing_shown world b.walked w seat found joins line b.is b.fits in
    let tells = tells-no-other seat.word (line_does by_history line world).1 says in
    record { end = tells.end; close = tells.close }
