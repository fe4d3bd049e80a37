-- Words for worlds that the rule on what is under way refuses, and for their neighbours.
--     idle, begun, holding      what both ends know, of small worlds
--     address, wish, active, down      their parts
use Rattle.std.specs.Prelude.{ℕ, zero, suc, List, [], ◌∷◌, codes, None, true, false}
use Rattle.rrset.specs.Records.{same_question}
use Rattle.rrset.specs.declared.record.Question.{Question}
use Rattle.dnsname.specs.Text.{name}
use Rattle.dsotlv.specs.declared.message.Notice.{Notice}
use Rattle.dsotlv.specs.declared.message.Notice.TheVariants as notices
use Rattle.dsosession.specs.Timing.{default_timers}
use Rattle.pushserver.specs.PlainHubs.{Subscription, Made}
use Rattle.pushclient.specs.Clients.{Wish, RequestState, refused, answered}
use Rattle.pushclient.specs.ServerMessages.{ServerMessage, tells}
use Rattle.inflight.specs.Messages.{Flying, made_of}
use Rattle.inflight.specs.Ends.{BothEnds}

-- ---- parts

abbrev pub address : Question
address = record { name = name (codes "a.example.com."); kind = 1; class = 1 }

-- a question that isn't served
abbrev pub elsewhere : Question
elsewhere = record { name = name (codes "x.other."); kind = 1; class = 1 }

abbrev pub wish : Question → RequestState → Wish
wish question standing = record { question = question; wanted = true; standing = standing; notices = [] }

abbrev pub active : ℕ → ℕ → Subscription
active id filled = record { id = id; question = address; filled = filled }

-- a message made at a point
abbrev pub at_point : ℕ → ServerMessage → List Subscription → Flying
at_point point says subscribed = record { says = says; note = record { queue = []; newest = point }; subscribed = subscribed }

abbrev pub down : ServerMessage → List Subscription → Flying
down = at_point 0

abbrev pub removal : Notice
removal = notices.RemoveAll address.name

abbrev pub something : ServerMessage
something = tells (removal ∷ [])

abbrev pub addition : Notice
addition = notices.Add (record { owner = address.name; class = 1; kind = 1; ttl = 60; rdata = 192 ∷ 0 ∷ 2 ∷ 1 ∷ [] })

abbrev pub added : ServerMessage
added = tells (addition ∷ [])

-- so many questions that were refused, each of another type
abbrev pub refusals : ℕ → List Wish
refusals zero = []
refusals (suc n) = wish (record { name = []; kind = n; class = 1 }) (refused 9) ∷ refusals n

-- ---- what both ends know

-- both are established, nothing was asked, and the address alone is served
abbrev pub idle : BothEnds
idle = record {
  timers = default_timers;
  serves = same_question address;
  made = [];
  subscriptions = [];
  established = true;
  goes_on = true;
  wishes = [];
  last_id = 0;
  keepalive_out = None;
  client_established = true;
  told = [];
}

-- the session is established, and the client isn't yet
abbrev pub begun : BothEnds
begun = record idle { client_established = false }

-- the subscription is active, and the end of its first answer was told
abbrev pub serving : ℕ → BothEnds
serving id = record idle { subscriptions = active id 14 ∷ []; told = (id, 14) ∷ [] }

-- the client holds it, too
abbrev pub holding : ℕ → BothEnds
holding id = record (serving id) { wishes = wish address (answered id) ∷ [] }

-- a message that the client took, made while the subscription was active
abbrev pub took : ℕ → ServerMessage → Made
took id says = made_of default_timers (down says (active id 14 ∷ []))
