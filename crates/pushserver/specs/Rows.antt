-- Records as they are told to subscribers.
--     AreTold rows      at each name the records are such as nets are made of, and can be sent
--     IsTellable state      each record is at home, zones' records are as they are told, no name has too many octets, and links have what datagrams bring
use Rattle.std.specs.Prelude.{◌≤◌, ◌^◌, Bool, ◌&&◌, length, nat_le, nat_lt, IsTrue}
use Rattle.std.specs.List.{list_all, AllByRecursion}
use Rattle.push_base.specs.Limits.{max_octets_at_name}
use Rattle.dnsname.specs.Names.{Labels, is_name}
use Rattle.rrset.specs.Rdata.{shape_fits}
use Rattle.rrset.specs.RecordSet.{RecordSet, at_name, size_of}
use Rattle.rrset.specs.declared.record.Key.{Key}
use Rattle.rrset.specs.declared.record.Shown.{Shown}
use Rattle.dsotlv.specs.Notices.{last_ttl}
use Rattle.coalesce.specs.Laws.{is_sent_so, is_side, can_be_sent}
use Rattle.history.specs.States.{State}
use Rattle.linkcache.specs.declared.row.HeardRow.{HeardRow}
use Rattle.history.specs.AtHome.{AreAtHome}

abbrev pub AreTold : RecordSet → Type 0
AreTold rows = (name : Labels) → IsTrue (is_side name (at_name name rows)) × IsTrue (can_be_sent (at_name name rows))

-- such as nets are made of, and with a TTL without the top bit
abbrev pub is_tellable : Key × Shown → Bool
is_tellable e = is_sent_so e.0.owner e && nat_le e.1.ttl last_ttl

-- a row as a datagram brings it: an owner that is a name, fields as wide as a message's, rdata that fits, and a TTL without the top bit
abbrev pub is_heard_so : Key × HeardRow → Bool
is_heard_so row = is_name row.1.shown.owner && nat_lt row.0.kind (2 ^ 16) && shape_fits row.0.kind row.1.shown.rdata
    && nat_lt (length row.1.shown.rdata) (2 ^ 16) && nat_le row.1.shown.ttl last_ttl

pub record IsTellable (state : State) : Type 0 where
  pub home : AreAtHome state
  pub rows : AllByRecursion (λ z. IsTrue (list_all is_tellable z.rows)) state.zones
  pub sizes : AllByRecursion (λ z. (name : Labels) → size_of (at_name name z.rows) ≤ max_octets_at_name) state.zones
  pub heard : AllByRecursion (λ l. IsTrue (list_all is_heard_so l.rows)) state.links
