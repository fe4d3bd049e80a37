-- Worlds of one client from which a step would end the session, close the client, or leave it with other records than are
-- told: the tests of the rule on what is under way refuse each, by the sentences that are named and no other, by computation.
use Rattle.std.proofs.Common.{◌≡◌, ℕ, Bool, List, [], ◌∷◌, ◌++◌, map, codes, refl, true, false}
use Rattle.std.specs.Prelude.{Option, Some, None, flat_map}
use Rattle.rrset.specs.Header.{answer_octets}
use Rattle.rrset.specs.RecordSet.{matching}
use Rattle.rrset.specs.declared.record.Question.{Question}
use Rattle.dsotlv.specs.Messages.{frame, tlv_octets}
use Rattle.dsotlv.specs.TlvKinds.{push_tlv}
use Rattle.dsotlv.specs.declared.message.Notice.{Notice}
use Rattle.coalesce.specs.Net.{additions}
use Rattle.dsosession.specs.Timing.{default_timers}
use Rattle.dsosession.specs.declared.session.EndReason.TheVariants.{Gone}
use Rattle.history.specs.States.{records_at}
use Rattle.history.specs.Worked.{start, added_address}
use Rattle.history.specs.declared.entry.Entry.TheVariants.{Moment}
use Rattle.pushsession.specs.declared.session_status.SessionStatus.{SessionStatus}
use Rattle.pushsession.specs.declared.session_status.SessionStatus.TheVariants.{Live, Stopped, Ended}
use Rattle.pushsession.specs.Sessions.{new_session}
use Rattle.pushserver.specs.PlainHubs.{Session, plain_keeps, Made, Subscription, Queue, frame_of, size_of_made, Hub, new_hub}
use Rattle.pushclient.specs.Clients.{Wish, not_asked, unanswered, refused, answered, new_client, new_connection}
use Rattle.inflight.specs.RefusedWorlds.{address, elsewhere, wish, active, at_point, down, something}
use Rattle.inflight.specs.Messages.{ClientMessage, subscribes, unsubscribes, requests_keepalive, message_octets, Flying, made_of}
use Rattle.replay.specs.World.{World, Seat, new_seat}
use Rattle.replay.specs.Worked.{Observed, unmet_in}
use Rattle.pushclient.specs.ServerMessages.{accepts, refuses, grants, tells, delays}

-- a client and its session: what each knows, and the messages that were taken, that come down, and that go up
pub record Scene : Type 0 where
  pub hub : Hub
  pub standing : SessionStatus
  pub established : Bool
  pub subscriptions : List Subscription
  pub queue : Queue
  pub wishes : List Wish
  pub last_id : ℕ
  pub keepalive_out : Option ℕ
  pub client_established : Bool
  pub taken : List Flying
  pub flying : List Flying
  -- octets that are no message of the server
  pub strange : List Made
  pub ups : List ClientMessage
  pub told : List (ℕ × ℕ)
  pub start : ℕ
  pub shown : List (Question × ℕ)

-- both ends are established, and nothing was asked
abbrev pub idle : Scene
idle = record {
  hub = new_hub start default_timers;
  standing = Live;
  established = true;
  subscriptions = [];
  queue = [];
  wishes = [];
  last_id = 0;
  keepalive_out = None;
  client_established = true;
  taken = [];
  flying = [];
  strange = [];
  ups = [];
  told = [];
  start = 0;
  shown = [];
}

-- neither end is
abbrev pub begun : Scene
begun = record idle { established = false; client_established = false }

abbrev pub stopped : Scene
stopped = record idle { standing = Stopped 0 }

abbrev pub ended : Scene
ended = record idle { standing = Ended Gone }

abbrev pub session_in : Scene → Session
session_in s = record (new_session (plain_keeps 0) 0) {
  subscriptions = s.subscriptions;
  queue = s.queue;
  established = s.established;
  standing = s.standing;
  made = map (made_of default_timers) (s.taken ++ s.flying) ++ s.strange;
}

abbrev pub seat_in : Scene → Seat
seat_in s = record (new_seat (codes "c") false) {
  client = record new_client { wishes = s.wishes; connection = Some (record (new_connection 0) { last_id = s.last_id; established = s.client_established; keepalive_out = s.keepalive_out }) };
  session = Some 0;
  up_wire = flat_map (λ m. frame (message_octets m)) s.ups;
  down_wire = flat_map frame_of (map (made_of default_timers) s.flying ++ s.strange);
  reached = size_of_made (map (made_of default_timers) s.taken);
  filled = s.told;
}

abbrev pub world_in : Scene → World
world_in s = record { hub = record s.hub { sessions = (0, session_in s) ∷ []; numbers_given = 1 }; links = []; seats = seat_in s ∷ []; peers = [] }

abbrev pub observed_in : Scene → Observed
observed_in s = record { points = map (λ p. (codes "c", p.0, p.1)) s.shown; starts = (codes "c", s.start) ∷ [] }

-- the sentences that aren't so
abbrev pub unmet_at : Scene → List (List ℕ)
unmet_at s = unmet_in (observed_in s) (world_in s)

-- ---- words

-- a history of one entry: a moment; the address
abbrev pub one_moment : Hub
one_moment = record idle.hub { history = Moment 1 ∷ [] }

abbrev pub one_address : Hub
one_address = record idle.hub { history = added_address ∷ [] }

abbrev pub its_notices : List Notice
its_notices = additions (matching address (records_at start (added_address ∷ []) 1))

-- the subscription is held, and the answer was all that was made
abbrev pub holding : ℕ → Scene → Scene
holding id s = record s {
  subscriptions = active id 14 ∷ [];
  wishes = wish address (answered id) ∷ [];
  taken = down (accepts id) (active id 14 ∷ []) ∷ [];
  told = (id, 14) ∷ [];
}

-- ---- what holds

-- what is asked for goes up, is taken, is answered, and is held
pub asks : unmet_at (record begun { wishes = wish address (unanswered 7) ∷ []; ups = subscribes 7 address ∷ [] }) ≡ []
asks = refl

pub is_answered : unmet_at (record begun {
  established = true;
  subscriptions = active 7 14 ∷ [];
  wishes = wish address (unanswered 7) ∷ [];
  flying = down (accepts 7) (active 7 14 ∷ []) ∷ [];
  told = (7, 14) ∷ [];
}) ≡ []
is_answered = refl

pub holds_a_set : unmet_at (holding 7 idle) ≡ []
holds_a_set = refl

-- ---- what is refused

-- before the session is established only refusals come down

pub told_early : unmet_at (record begun { flying = down something [] ∷ [] }) ≡ codes "speaks" ∷ []
told_early = refl

pub accepted_early : unmet_at (record begun {
  standing = Ended Gone;
  wishes = wish address (unanswered 3) ∷ [];
  flying = down (accepts 3) (active 3 14 ∷ []) ∷ [];
  told = (3, 14) ∷ [];
}) ≡ codes "speaks" ∷ []
accepted_early = refl

pub granted_early : unmet_at (record begun { keepalive_out = Some 7; flying = down (grants 7) [] ∷ [] }) ≡ codes "speaks" ∷ []
granted_early = refl

pub told_before_the_answer : unmet_at (record begun {
  wishes = wish address (unanswered 3) ∷ [];
  flying = down something [] ∷ [];
  ups = subscribes 3 address ∷ [];
}) ≡ codes "speaks" ∷ []
told_before_the_answer = refl

-- what is held was answered
pub held_early : unmet_at (holding 1 begun) ≡ codes "begun" ∷ []
held_early = refl

pub queued_early : unmet_at (record (holding 1 begun) { queue = (address.name, 0) ∷ [] }) ≡ codes "begun" ∷ []
queued_early = refl

-- an answer of another kind than its request
pub keepalive_refused : unmet_at (record idle { keepalive_out = Some 1; flying = down (refuses 1) [] ∷ [] }) ≡ codes "fits" ∷ []
keepalive_refused = refl

pub keepalive_accepted : unmet_at (record ended { keepalive_out = Some 4; flying = down (accepts 4) [] ∷ [] }) ≡ codes "fits" ∷ []
keepalive_accepted = refl

pub question_granted : unmet_at (record idle { wishes = wish elsewhere (unanswered 3) ∷ []; flying = down (grants 3) [] ∷ [] }) ≡ codes "fits" ∷ []
question_granted = refl

-- a message that was made without a subscription which the client holds, or will by then; or with another end of its answer
pub told_without_it : unmet_at (record (holding 1 stopped) { subscriptions = []; flying = down something [] ∷ [] }) ≡ codes "seen" ∷ []
told_without_it = refl

pub accepted_without_it : unmet_at (record ended { wishes = wish address (unanswered 1) ∷ []; flying = down (accepts 1) [] ∷ [] }) ≡ codes "seen" ∷ []
accepted_without_it = refl

pub other_end : unmet_at (record stopped {
  wishes = wish address (unanswered 2) ∷ [];
  flying = down (accepts 2) (active 2 14 ∷ []) ∷ [];
  told = (2, 8) ∷ [];
}) ≡ codes "seen" ∷ []
other_end = refl

-- an active subscription of which another end was told
pub untold_end : unmet_at (record (holding 1 idle) {
  hub = one_address;
  subscriptions = active 1 61 ∷ [];
  wishes = record (wish address (answered 1)) { notices = its_notices } ∷ [];
  taken = down (accepts 1) (active 1 14 ∷ []) ∷ at_point 1 (tells its_notices) (active 1 14 ∷ []) ∷ [];
  keepalive_out = Some 2;
  ups = requests_keepalive 2 ∷ [];
}) ≡ codes "told" ∷ []
untold_end = refl

-- a first answer that ends inside a message
pub broken_end : unmet_at (record stopped {
  hub = one_address;
  wishes = wish address (answered 2) ∷ [];
  taken = down (accepts 2) (active 2 20 ∷ []) ∷ [];
  flying = at_point 1 (tells its_notices) (active 2 20 ∷ []) ∷ [];
  told = (2, 20) ∷ [];
}) ≡ codes "ends" ∷ []
broken_end = refl

-- an ID beyond all IDs
pub last_too_great : unmet_at (record idle { last_id = 65536 }) ≡ codes "last" ∷ []
last_too_great = refl

-- a question with a home that was refused; one that isn't asked on an open connection
pub refused_at_home : unmet_at (record idle { wishes = wish address (refused 9) ∷ [] }) ≡ codes "homeless" ∷ []
refused_at_home = refl

pub unasked : unmet_at (record idle { wishes = wish address not_asked ∷ [] }) ≡ codes "asked" ∷ []
unasked = refl

-- a client whose session the hub doesn't have
pub gone : unmet_in (observed_in idle) (record (world_in (holding 2 idle)) { hub = record idle.hub { numbers_given = 1 } }) ≡ codes "numbers all" ∷ codes "there" ∷ []
gone = refl

-- a note gives an earlier point than a line has shown, or than that of connecting
pub shown_later : unmet_at (record (holding 1 idle) { hub = one_moment; shown = (address, 1) ∷ [] }) ≡ codes "shown_before" ∷ []
shown_later = refl

pub earlier_note : unmet_at (record begun {
  hub = one_moment;
  wishes = wish elsewhere (unanswered 1) ∷ [];
  flying = down (refuses 1) [] ∷ [];
  start = 1;
  shown = (elsewhere, 1) ∷ [];
}) ≡ codes "since" ∷ []
earlier_note = refl

-- the Retry Delay of a session that goes on
pub delayed_early : unmet_at (record idle { flying = down (delays 0 7000) [] ∷ [] }) ≡ codes "no_delay" ∷ []
delayed_early = refl

-- one ID for two requests; one request that is refused twice
pub twins : unmet_at (record idle {
  wishes = wish elsewhere (unanswered 1) ∷ [];
  keepalive_out = Some 1;
  flying = down (refuses 1) [] ∷ [];
  ups = subscribes 1 elsewhere ∷ [];
}) ≡ codes "distinct" ∷ []
twins = refl

pub refused_twice : unmet_at (record ended {
  wishes = record (wish elsewhere (unanswered 1)) { wanted = false } ∷ [];
  flying = down (refuses 1) [] ∷ down (refuses 1) [] ∷ [];
}) ≡ codes "awaited" ∷ []
refused_twice = refl

-- UNSUBSCRIBE goes up before the session is established, and of a subscription that the client still holds
pub early : unmet_at (record begun { ups = unsubscribes 5 ∷ [] }) ≡ codes "let_go" ∷ codes "accepted" ∷ []
early = refl

pub let_go : unmet_at (record (holding 7 idle) { ups = unsubscribes 7 ∷ [] }) ≡ codes "let_go" ∷ []
let_go = refl

-- a stopped session answers what nobody waits for
pub stray : unmet_at (record stopped { flying = down (accepts 7) [] ∷ [] }) ≡ codes "fits" ∷ codes "awaited" ∷ []
stray = refl

-- an answer comes down to a question that isn't active
pub lost : unmet_at (record idle { wishes = wish address (unanswered 7) ∷ []; flying = down (accepts 7) [] ∷ [] }) ≡ codes "seen" ∷ codes "answers" ∷ []
lost = refl

-- a PUSH without data comes down
pub garbage : unmet_at (record idle {
  strange = (record { message = answer_octets 0 0x3000 ++ tlv_octets (record { kind = push_tlv; octets = [] }); note = record { queue = []; newest = 0 }; subscribed = [] }) ∷ [];
}) ≡ codes "made" ∷ codes "whole_down" ∷ []
garbage = refl

-- an ID of more than two octets
pub unnumbered : unmet_at (record begun { wishes = wish address (unanswered 65536) ∷ []; ups = subscribes 65536 address ∷ [] }) ≡ codes "ids" ∷ codes "once" ∷ codes "requests" ∷ codes "accepted" ∷ []
unnumbered = refl

-- while the session goes on: a frame goes up that no client writes, so it ends; and what goes up breaks off inside a frame, so
-- what the client writes next is taken for that frame's rest
pub strange_up : unmet_in (observed_in idle) (record (world_in idle) { seats = record (seat_in idle) { up_wire = 0 ∷ 1 ∷ 0 ∷ [] } ∷ [] }) ≡ codes "whole_up" ∷ []
strange_up = refl

pub broken_up : unmet_in (observed_in idle) (record (world_in idle) { seats = record (seat_in idle) { up_wire = 0 ∷ 12 ∷ [] } ∷ [] }) ≡ codes "whole_up" ∷ []
broken_up = refl
