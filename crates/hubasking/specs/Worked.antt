-- Words for examples: a hub with a zone and the link `lan.example.com.`, one session, and what it asks.
use Rattle.std.specs.Prelude.{ℕ, List, [], ◌∷◌, ◌++◌, map, fold, codes}
use Rattle.push_base.specs.Hexadecimal.{hex, hex_text}
use Rattle.dsotlv.specs.Messages.{frame, tlv_octets}
use Rattle.rrset.specs.Header.{answer_octets}
use Rattle.history.specs.Worked.{start}
use Rattle.pushserver.specs.Calls.{HubCall, hears, moves, takes, gives, ends, called}
use Rattle.pushserver.specs.Hubs.{state_now}
use Rattle.pushserver.specs.PlainHubs.{Hub}
use Rattle.pushserver.specs.Worked.{fresh, named, subscribe}
use Rattle.hubasking.specs.LinkAskings.{Askings, new_askings, plain_questions, asking_after, asks_all}

-- the session's message comes, and is reacted to; a host says its address with a TTL; it is a moment; what is due is asked; the session's connection is gone
pub data Event : Type 0 where
  sends : List ℕ → Event
  says : ℕ → ℕ → Event
  at : ℕ → Event
  asks : Event
  leaves : Event

-- what was sent, a list for each time
pub record Asking : Type 0 where
  pub hub : Hub
  pub links : Askings
  pub sent : List (List (List ℕ))

abbrev pub behind_call : HubCall → Asking → Asking
behind_call call a = record a { hub = called call a.hub; links = asking_after plain_questions call a.hub a.links }

-- its octets go in, and two calls of give
abbrev pub exchanged : List ℕ → Asking → Asking
exchanged message a = behind_call (gives 0 65536) (behind_call (gives 0 65536) (behind_call (takes 0 (frame message)) a))

abbrev pub host : ℕ → ℕ → List ℕ
host ttl last = hex (codes "0000840000000001000000000168056c6f63616c0000010001000000") ++ (ttl ∷ 0 ∷ 4 ∷ 0xc0 ∷ 0 ∷ 2 ∷ last ∷ [])

abbrev pub asks_due : Asking → Asking
asks_due a = (let r = asks_all (state_now a.hub) a.links 0 in record a { links = r.1; sent = a.sent ++ map hex_text r.0 ∷ [] })

abbrev pub step : Asking → Event → Asking
step a (sends message) = exchanged message a
step a (says ttl last) = behind_call (hears 0 (host ttl last)) a
step a (at t) = behind_call (moves t) a
step a asks = asks_due a
step a leaves = behind_call (ends 0) a

abbrev pub sent_after : List Event → List (List (List ℕ))
sent_after events = (fold step (record { hub = fresh; links = new_askings start; sent = [] }) events).sent

-- messages of the session: it subscribes to the host's address, unsubscribes, and reconfirms the address
abbrev pub subscribes : List ℕ
subscribes = subscribe 1 (named (codes "h.lan.example.com.")) 1

abbrev pub unsubscribes : List ℕ
unsubscribes = answer_octets 0 0x3000 ++ tlv_octets (record { kind = 66; octets = 0 ∷ 1 ∷ [] })

abbrev pub reconfirms : List ℕ
reconfirms = answer_octets 0 0x3000 ++ tlv_octets (record { kind = 67; octets = named (codes "h.lan.example.com.") ++ 0 ∷ 1 ∷ 0 ∷ 1 ∷ 0xc0 ∷ 0 ∷ 2 ∷ 1 ∷ [] })

-- the datagram without known answers, in hexadecimal
abbrev pub plain : List ℕ
plain = codes "0000000000010000000000000168056c6f63616c0000010001"
