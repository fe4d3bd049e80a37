-- Words for examples of sessions.
use Rattle.std.specs.Prelude.{ℕ, List, [], ◌∷◌, ◌++◌, Some, None, codes, true}
use Rattle.std.specs.Int.{w16, to_be_bytes}
use Rattle.push_base.specs.Hexadecimal.{hex}
use Rattle.dnsname.specs.Text.{name}
use Rattle.rrset.specs.RecordSet.{RecordSet, set_of}
use Rattle.rrset.specs.Records.{key_of}
use Rattle.rrset.specs.declared.record.Rr.{Rr}
use Rattle.rrset.specs.declared.record.Question.{Question}
use Rattle.rrset.specs.declared.record.Changed.{Changed}
use Rattle.dsosession.specs.declared.session.Timers.{Timers}
use Rattle.pushsession.specs.Sessions.{new_session, with_piece, copied}
use Rattle.pushsession.specs.Kept.{KeptSession, keeping}
use Rattle.pushsession.specs.Requests.{subscribed_by}

-- a SUBSCRIBE for addresses of x., behind its length
abbrev pub subscribe : ℕ → List ℕ
subscribe id = hex (codes "0017") ++ to_be_bytes w16 id ++ hex (codes "30000000000000000000") ++ hex (codes "0040000701780000010001")

-- a Keepalive with the ID 2, behind its length
abbrev pub keepalive : List ℕ
keepalive = hex (codes "0018000230000000000000000000") ++ hex (codes "000100080000000000000000")

abbrev pub question : Question
question = record { name = name (codes "x."); kind = 1; class = 1 }

abbrev pub address : Rr
address = record { owner = name (codes "x."); class = 1; kind = 1; ttl = 60; rdata = 1 ∷ 2 ∷ 3 ∷ 4 ∷ [] }

abbrev pub rows : RecordSet
rows = set_of (address ∷ [])

abbrev pub timers : Timers
timers = record { inactivity = 20000; keepalive = 30000 }

-- a session that asks for the addresses, whose output was handed on
abbrev pub asking : KeptSession
asking = copied 100 (subscribed_by (Some question) true rows 5 (with_piece (subscribe 1) (new_session keeping 0)))

-- the address goes
abbrev pub gone : List Changed
gone = (record { key = key_of address; before = Some (record { owner = address.owner; ttl = 60; rdata = address.rdata }); after = None }) ∷ []
