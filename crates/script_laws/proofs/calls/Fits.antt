-- What the calls of a script bring are octets, and the numbers of its stops fit.
--     line-brings      what each line brings are octets
--     are-within, lines-within      what is read of the lines of a script is within bounds
--     lines-calls-fit, script-calls-fit      the law, of lines within bounds, and of a text
use Rattle.std.proofs.Common.{◌≡◌, ℕ, Bool, true, false, ◌&&◌, List, [], ◌∷◌, Ok, refl, subst}
use Rattle.std.specs.Prelude.{nat_le, IsTrue}
use Rattle.std.specs.List.{AllByRecursion}
use Rattle.coalesce.proofs.ReadBack.{each-append}
use Rattle.dnsname.specs.Names.{is_name}
use Rattle.rrset.specs.declared.record.Question.{Question}
use Rattle.inflight.specs.Ends.{is_question}
use Rattle.dsotlv.specs.Laws.{AreOctets}
use Rattle.pushserver.proofs.hub_steps.Pairs.{all-weaken}
use Rattle.scripts.specs.Lines.{Word, ScriptLine, silent, head_line, joining, hub_event, link_event, client_call, client_passing, client_event, session_event}
use Rattle.scripts.specs.declared.line.HubEvent.{HubEvent}
use Rattle.scripts.specs.declared.line.HubEvent.TheVariants as hub_events
use Rattle.scripts.specs.declared.line.LinkEvent.{LinkEvent}
use Rattle.scripts.specs.declared.line.LinkEvent.TheVariants as link_events
use Rattle.scripts.specs.declared.line.Call.{Call}
use Rattle.scripts.specs.declared.line.Call.TheVariants as calls
use Rattle.scripts.specs.declared.line.ClientEvent.{ClientEvent}
use Rattle.scripts.specs.declared.line.ClientEvent.TheVariants as client_events
use Rattle.scripts.specs.declared.line.SessionEvent.{SessionEvent}
use Rattle.scripts.specs.declared.line.SessionEvent.TheVariants as session_events
use Rattle.scripts.specs.Scripts.{script_of, client_words, lines_read}
use Rattle.scripts.proofs.lines.SentOctets.{sent_by}
use Rattle.replay.specs.World.{World, start_world}
use Rattle.replay.specs.TextWords.{by_history}
use Rattle.replay.specs.Text.{line_does}
use Rattle.replay.proofs.worlds.ClientOutputs.{SaysOctets}
use Rattle.replay.proofs.worlds.InputOctets.{HoldsOctets, octets-kept, octets-parts, octets-clients}
use Rattle.replay.proofs.worlds.KeptByLines.{IsReady, Has, keeps-line}
use Rattle.script_laws.specs.Reached.{FitsCall, FitCalls}
use Rattle.script_laws.specs.Lines.{IsHubWithin, IsLinkWithin, IsCallWithin, IsClientWithin, IsSessionWithin, AreWithin, IsRead, AreLines}
use Rattle.replay.specs.LineCalls.{line_calls, script_calls}
use Rattle.script_laws.specs.EachMessage.{ScriptCallsFit}
use Rattle.script_laws.proofs.downs.Octets.{name-octets}
use Rattle.script_laws.proofs.lines.Following.{read-script}
use Rattle.script_laws.proofs.calls.EachCall.{HoldsOfCalls, Ready, sends-each, line-each}

-- ---- what lines bring

first-of : (a b c : Bool) → (a && b && c) ≡ true → a ≡ true
first-of true b c is = refl
first-of false b c is = absurd cc

named : (question : Question) → IsTrue (is_question question) → IsTrue (is_name question.name)
named question is = first-of (is_name question.name) (nat_le question.kind 65535) (nat_le question.class 65535) is

hub-brings : (event : HubEvent) → IsHubWithin event → AllByRecursion AreOctets (sent_by (hub_event event))
hub-brings (hub_events.At t) is = tt
hub-brings (hub_events.Update message) is = (is.0, tt)
hub-brings hub_events.Point is = tt

link-brings : (w : Word) (event : LinkEvent) → IsLinkWithin event → AllByRecursion AreOctets (sent_by (link_event w event))
link-brings w (link_events.Hear datagram) is = (is.0, tt)
link-brings w link_events.Gone is = tt
link-brings w link_events.Asks is = tt

call-brings : (w : Word) (call : Call) → IsCallWithin call → AllByRecursion AreOctets (sent_by (client_call w call))
call-brings w (calls.Ask question) is = (name-octets question.name (named question is), tt)
call-brings w (calls.Drop question) is = tt
call-brings w (calls.Reconfirm rr) is = (name-octets rr.owner is.0, (is.1.0, tt))

client-brings : (w : Word) (event : ClientEvent) → IsClientWithin event → AllByRecursion AreOctets (sent_by (client_event w event))
client-brings w client_events.Open is = tt
client-brings w (client_events.Feed octets) is = (is.0, tt)
client-brings w (client_events.Show question written) is = tt

session-brings : (w : Word) (event : SessionEvent) → IsSessionWithin w event → AllByRecursion AreOctets (sent_by (session_event w event))
session-brings w (session_events.Send octets) is = (is.1.0, tt)
session-brings w (session_events.Stop rcode delay) is = tt
session-brings w session_events.Cut is = tt

pub line-brings : (line : ScriptLine) → AreWithin line → AllByRecursion AreOctets (sent_by line)
line-brings silent is = tt
line-brings (head_line line) is = tt
line-brings (joining w is_lone) is = tt
line-brings (hub_event event) is = hub-brings event is
line-brings (link_event w event) is = link-brings w event is
line-brings (client_call w call) is = call-brings w call is
line-brings (client_passing w way) is = tt
line-brings (client_event w event) is = client-brings w event is
line-brings (session_event w event) is = session-brings w event is

-- ---- calls

abbrev Any : ℕ → Type 0
Any number = Unit {0}

fits-calls : HoldsOfCalls FitsCall AreOctets Any
fits-calls = record {
  updates = λ message good. (good, tt);
  hears = λ link datagram good. (good, tt);
  goes = λ link. (tt, tt);
  moves = λ t. (tt, tt);
  connects = (tt, tt);
  takes = λ number piece has good. (good, tt);
  gives = λ number room has. (tt, tt);
  stops = λ number rcode delay small short. (tt, (small, short));
  ends = λ number. (tt, tt);
}

line-fits : (line : ScriptLine) (world : World) → AreWithin line → AllByRecursion (IsReady AreOctets SaysOctets) world.seats → FitCalls (line_calls line world)
line-fits line world is ready =
    line-each FitsCall AreOctets Any fits-calls octets-parts SaysOctets octets-clients line world is
    (all-weaken (IsReady AreOctets SaysOctets) (Ready FitsCall AreOctets Any fits-calls octets-parts SaysOctets octets-clients) (λ seat own. (own, λ number has. tt)) world.seats ready)
    (λ w octets same. sends-each FitsCall AreOctets Any fits-calls octets-parts SaysOctets octets-clients (λ number. tt) w octets world (subst AreWithin same is).1.0)

-- ---- scripts

abbrev IsFit : World → Type 0
IsFit world = Has AreOctets HoldsOctets octets-kept octets-parts SaysOctets octets-clients world

lines-fit : (lines : List ScriptLine) (world : World) → AllByRecursion AreWithin lines → IsFit world → FitCalls (script_calls lines world)
lines-fit [] world within h = tt
lines-fit (line ∷ lines) world within h =
    let later : World = (line_does by_history line world).0 in
    each-append FitsCall (line_calls line world) (script_calls lines later) (line-fits line world within.0 h.seats)
    (lines-fit lines later within.1 (keeps-line AreOctets HoldsOctets octets-kept octets-parts SaysOctets octets-clients line world (line-brings line within.0) h))

pub are-within : (script : List ScriptLine) → AreLines script → AllByRecursion AreWithin script
are-within script are = all-weaken (IsRead are.all) AreWithin (λ line is. is.within) script are.read

pub lines-within : (text : List ℕ) (script : List ScriptLine) → script_of text ≡ Ok script → AllByRecursion AreWithin script
lines-within text script read = all-weaken (IsRead (client_words (lines_read text))) AreWithin (λ line is. is.within) script (read-script text script read).1

pub lines-calls-fit : (script : List ScriptLine) → AllByRecursion AreWithin script → FitCalls (script_calls script (start_world script))
lines-calls-fit script within = lines-fit script (start_world script) within (record { hub = tt; seats = tt })

pub script-calls-fit : ScriptCallsFit
script-calls-fit text script read = lines-calls-fit script (lines-within text script read)
