-- Words for worked rows: a start with one zone, and one with a link, runs of calls, and what their session was told.
use Rattle.std.specs.Prelude.{ℕ, true, List, [], ◌∷◌, ◌++◌, map, length, Option, Some, None, codes}
use Rattle.std.specs.Int.{w32, to_be_bytes}
use Rattle.push_base.specs.Hexadecimal.{hex}
use Rattle.dnsname.specs.Names.{octets}
use Rattle.dnsname.specs.Text.{name}
use Rattle.rrset.specs.Header.{answer_octets}
use Rattle.dsotlv.specs.Messages.{frame, tlv_octets}
use Rattle.dsotlv.specs.TlvKinds.{keepalive_tlv, reconfirm_tlv}
use Rattle.dsosession.specs.Timing.{default_timers}
use Rattle.zoneupdate.specs.Zones.{new_zone}
use Rattle.history.specs.States.{State, no_cap}
use Rattle.pushserver.specs.PlainHubs.{Session, new_hub}
use Rattle.pushserver.specs.Hubs.{session_of}
use Rattle.pushserver.specs.Calls.{HubCall, connects, takes, gives, updates, hears, after_calls}
use Rattle.pushserver.specs.ToldMessages.{notices_in, set_after}
use Rattle.pushserver.specs.Worked.{named, subscribe}
use Rattle.pushtelling.specs.Runs.{handed_out, taken_in, reacted_to}

abbrev pub one_zone : State
one_zone = record { zones = new_zone (name (codes "example.com.")) 1 true ∷ []; links = []; now = 0 }

-- a link that has heard nothing yet
abbrev pub one_link : State
one_link = record { zones = []; links = (record { rules = record { domain = name (codes "lan.example.net."); reverses = []; cap = no_cap }; rows = [] }) ∷ []; now = 0 }

-- an address for `a.example.com.`
abbrev pub adds_address : HubCall
adds_address = updates (hex (codes "000128000001000000010000076578616d706c6503636f6d00000600010161c00c000100010000003c0004c0000201"))

abbrev pub asks_address : HubCall
asks_address = takes 0 (frame (subscribe 1 (named (codes "a.example.com.")) 1))

-- an address of `a.local.`, with this TTL (RFC 6762, 18); `a.lan.example.net.` is the name under which it is shown
abbrev pub hears_address : ℕ → HubCall
hears_address ttl = hears 0 (hex (codes "0000840000000001000000000161056c6f63616c0000010001") ++ to_be_bytes w32 ttl ++ hex (codes "0004c0000201"))

abbrev pub asks_shown : HubCall
asks_shown = takes 0 (frame (subscribe 1 (named (codes "a.lan.example.net.")) 1))

-- a RECONFIRM of that address (RFC 8765, 6.5.1)
abbrev pub reconfirms_address : HubCall
reconfirms_address = takes 0 (frame (answer_octets 0 0x3000 ++ tlv_octets (record { kind = reconfirm_tlv; octets = octets (name (codes "a.lan.example.net.")) ++ hex (codes "00010001c0000201") })))

-- a Keepalive with this ID
abbrev pub keeps_alive : ℕ → HubCall
keeps_alive id = takes 0 (frame (answer_octets id 0x3000 ++ tlv_octets (record { kind = keepalive_tlv; octets = to_be_bytes w32 15000 ++ to_be_bytes w32 15000 })))

abbrev pub works : HubCall
works = gives 0 65536

-- of each message its octets, the newest point of its note, and how many notices it has
abbrev pub messages_of : Session → List (ℕ × ℕ × ℕ)
messages_of session = map (λ m. (length m.message, m.note.newest, length (notices_in m.message))) session.made

-- how many records each subscription has been told
abbrev pub held_of : Session → List ℕ
held_of session = map (λ s. length (set_after session.made s)) session.subscriptions

abbrev pub told_in : Option Session → List (ℕ × ℕ × ℕ) × List ℕ
told_in None = ([], [])
told_in (Some session) = (messages_of session, held_of session)

-- what the first session was told in these calls, from a start on, and from one with a zone
abbrev pub told_from : State → List HubCall → List (ℕ × ℕ × ℕ) × List ℕ
told_from start calls = told_in (session_of (after_calls (connects ∷ calls) (new_hub start default_timers)) 0)

abbrev pub told_by : List HubCall → List (ℕ × ℕ × ℕ) × List ℕ
told_by calls = told_from one_zone calls

-- of the octets of the first session how many were handed out in these calls, and how many taken in; and how many messages were reacted to
abbrev pub octets_by : List HubCall → ℕ × ℕ × ℕ
octets_by calls =
    let start = new_hub one_zone default_timers in
    (length (handed_out 0 (connects ∷ calls) start), length (taken_in 0 (connects ∷ calls) start), length (reacted_to 0 (connects ∷ calls) start))
