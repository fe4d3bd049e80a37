-- The cases of a hub's calls, whatever its sessions keep: what each does, as a function of what was found.
--     ends_as      a session ends
--     update_as, moment_as      by the verdict on an update; by the time and the journal's room
--     hear_as, enters_hearing      a datagram by what it says; a hearing by whether it is accepted, and by the journal's room
--     enters_going      a link's going, by whether it is entered
--     key_as, session_as      a RECONFIRM by the key of its record; a message by the session
--     request_as, clocks_as, itself_as      a message by its head: what is needed for it, the clocks behind it, what a session makes of it by itself
--     found_as, works_as, give_as      `give` by the session, by the first message, and by the output
use Rattle.std.specs.Prelude.{ℕ, Bool, true, false, not, cond, List, Option, Some, None, Result, Ok, Err, ◌&&◌}
use Rattle.push_base.specs.Cases.{is_empty}
use Rattle.rrset.specs.Rcodes.{noerror, servfail}
use Rattle.rrset.specs.declared.record.Key.{Key}
use Rattle.rrset.specs.declared.record.Hearing.{Hearing}
use Rattle.dnswire.specs.declared.message.HearFault.{HearFault}
use Rattle.dnswire.specs.declared.message.Update.{Update}
use Rattle.dsotlv.specs.declared.message.DsoHead.{DsoHead}
use Rattle.dsosession.specs.Reactions.{server_reaction, is_keepalive}
use Rattle.dsosession.specs.Timing.{Clocks, restarted}
use Rattle.dsosession.specs.declared.session.Timers.{Timers}
use Rattle.dsosession.specs.declared.session.EndReason.{EndReason}
use Rattle.dsosession.specs.declared.session.EndReason.TheVariants as ends
use Rattle.history.specs.States.{accepts}
use Rattle.history.specs.declared.entry.Entry.TheVariants as entries
use Rattle.pushsession.specs.declared.session_status.SessionStatus.{SessionStatus}
use Rattle.pushsession.specs.Sessions.{SessionOf, Keeps, ended_with, timed, without_first}
use Rattle.pushsession.specs.Subscribing.{with_next_push}
use Rattle.pushsession.specs.Reactions.{restarted_by, request_in, request_for, by_itself, ends_short}
use Rattle.pushsession.specs.declared.request.Request.{Request}
use Rattle.pushsession.specs.declared.request.Request.TheVariants as requests
use Rattle.pushserver.specs.declared.given.Given.{Given}
use Rattle.pushserver.specs.declared.given.Given.TheVariants.{End}
use Rattle.pushserver.specs.declared.given.Heard.{Heard}
use Rattle.pushserver.specs.declared.given.Heard.TheVariants.{Entered, Ignored}
use Rattle.pushserver.specs.declared.given.Why.TheVariants as whys
use Rattle.pushserver.specs.Hubs.{SessionKind, HubOf, now, state_now, keeps_now, tells_now, each_session, in_session, entered_keeping, can_enter, why_not}
use Rattle.pushserver.specs.Giving.{GivingOf, by_request, reacted, did, copies, copies_or, after_reaction, after_packing, by_standing}

-- ---- a message by its head

abbrev pub request_as : List ℕ → Bool → Option DsoHead → Request
request_as message established None = requests.Itself
request_as message established (Some head) = request_for (server_reaction head established) message

abbrev pub clocks_as : ℕ → Clocks → Option DsoHead → Clocks
clocks_as t clocks None = clocks
clocks_as t clocks (Some head) = restarted (is_keepalive head) t clocks

abbrev pub itself_as : {A Q M : Type 0} → Keeps A Q M → Timers → ℕ → List ℕ → SessionOf A Q M → Option DsoHead → SessionOf A Q M
itself_as keeps timers t message session None = ends_short keeps session
itself_as keeps timers t message session (Some head) = by_itself keeps (server_reaction head session.established) timers t message session

module _ {A Q M S : Type 0} {kind : SessionKind A Q M S} where
  -- a session ends
  abbrev pub ends_as : ℕ → EndReason → HubOf kind → HubOf kind
  ends_as number reason hub = in_session number (ended_with (keeps_now hub) reason) hub

  -- ---- an update, a moment

  abbrev pub enters_update : HubOf kind → Update → Bool → ℕ × HubOf kind
  enters_update hub u room = cond room (noerror, entered_keeping (entries.Update u) hub) (servfail, hub)

  abbrev pub update_as : HubOf kind → Result Update ℕ → ℕ × HubOf kind
  update_as hub (Err code) = (code, hub)
  update_as hub (Ok u) = enters_update hub u (can_enter hub)

  abbrev pub moment_as : HubOf kind → ℕ → Bool → HubOf kind
  moment_as hub t goes = cond goes (each_session (timed (keeps_now hub) t) (entered_keeping (entries.Moment t) hub)) hub

  -- ---- a datagram

  abbrev pub enters_hearing : HubOf kind → ℕ → Hearing → Bool → Bool → Heard × HubOf kind
  enters_hearing hub link hearing accepted room = cond (not accepted) (Ignored whys.Nothing, hub) (cond room (Entered, entered_keeping (entries.Heard link hearing) hub) (Ignored whys.Last, hub))

  abbrev pub hear_as : HubOf kind → ℕ → Result Hearing HearFault → Heard × HubOf kind
  hear_as hub link (Err fault) = (Ignored (why_not fault), hub)
  hear_as hub link (Ok hearing) = enters_hearing hub link hearing (accepts (state_now hub) (entries.Heard link hearing)) (can_enter hub)

  -- ---- a link that goes away

  abbrev pub enters_going : HubOf kind → ℕ → Bool → Bool × HubOf kind
  enters_going hub link goes = cond goes (true, entered_keeping (entries.LinkGone link) hub) (false, hub)

  -- ---- a message

  abbrev pub key_as : HubOf kind → Option (ℕ × Key) → HubOf kind
  key_as hub None = hub
  key_as hub (Some found) = cond (accepts (state_now hub) (entries.Reconfirm found.0 found.1) && can_enter hub) (entered_keeping (entries.Reconfirm found.0 found.1) hub) hub

  abbrev pub session_as : HubOf kind → ℕ → List ℕ → Option (SessionOf A Q M) → HubOf kind
  session_as hub number message None = hub
  session_as hub number message (Some session) = by_request (request_in message session.established) number message (in_session number (restarted_by message (now hub)) hub)

  -- ---- `give`

  abbrev pub copies_as : HubOf kind → ℕ → ℕ → SessionOf A Q M → Given → Bool → GivingOf kind
  copies_as hub number room session given silent = cond silent (did given hub) (copies number room session hub)

  -- what was done where the output is empty may depend on the standing
  abbrev pub found_as : HubOf kind → ℕ → ℕ → Given → (SessionStatus → Given) → Option (SessionOf A Q M) → GivingOf kind
  found_as hub number room none given None = did none hub
  found_as hub number room none given (Some session) = copies_or (given session.standing) number room session hub

  abbrev pub works_as : HubOf kind → ℕ → ℕ → Option (List ℕ × List ℕ) → GivingOf kind
  works_as hub number room None = after_packing number room (in_session number (with_next_push (keeps_now hub) (tells_now hub) (now hub)) hub)
  works_as hub number room (Some found) = after_reaction number room (reacted found.0 number (in_session number (without_first found.1) hub))

  abbrev pub output_as : HubOf kind → ℕ → ℕ → SessionOf A Q M → Bool → GivingOf kind
  output_as hub number room session false = copies number room session hub
  output_as hub number room session true = by_standing session.standing number room session hub

  abbrev pub give_as : HubOf kind → ℕ → ℕ → Option (SessionOf A Q M) → GivingOf kind
  give_as hub number room None = did (End ends.Gone) hub
  give_as hub number room (Some session) = output_as hub number room session (is_empty session.output)
