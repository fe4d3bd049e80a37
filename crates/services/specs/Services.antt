-- A list of services, made of what a client holds of each question (RFC 6763, 4 to 6; RFC 2782).
--     Known      what is known of each question
--     instances root known      the instances to which the root's PTR records point
--     server_in rows      the server that SRV records name
--     services root known      the services, one for each instance
--     needs root list      what such a list asks for
--     changes old new      how two lists differ
use Rattle.std.specs.Prelude.{ℕ, Bool, true, false, not, ◌&&◌, ◌||◌, List, [], ◌∷◌, ◌++◌, map, filter, find, fold, flat_map, take, drop, Option, Some, None, Ok, Err, option_to_list, option_and_then, nat_lt, ◌==◌, if◌then◌else◌}
use Rattle.std.specs.Int.{w16, from_be_bytes}
use Rattle.std.specs.Cmp.Lexicographic.{pointwise}
use Rattle.dnsname.specs.Names.{Labels, octets, same_name}
use Rattle.dnsname.specs.Reading.{plain_name_at}
use Rattle.rrset.specs.Kinds.{a_kind, aaaa_kind, ptr_kind, srv_kind, txt_kind, any_kind, in_class}
use Rattle.rrset.specs.Records.{same_octets}
use Rattle.rrset.specs.RecordSet.{RecordSet}
use Rattle.rrset.specs.declared.record.Key.{Key}
use Rattle.rrset.specs.declared.record.Shown.{Shown}
use Rattle.rrset.specs.declared.record.Question.{Question}
use Rattle.pushclient.specs.Clients.{Held, set_held}
use Rattle.services.specs.declared.service.Server.{Server}
use Rattle.services.specs.declared.service.Service.{Service}
use Rattle.services.specs.declared.service.Change.{Change}
use Rattle.services.specs.declared.service.Change.TheVariants as change

-- what is known of each question
abbrev pub Known : Type 0
Known = Question → Held

-- the records that are held, none while a question isn't answered
abbrev pub rows_held : Held → RecordSet
rows_held (set_held id rows) = rows
rows_held _ = []

-- All records of a name are one question: so an instance's SRV and TXT, and a host's addresses, come whole, at one point.
abbrev pub whole : Labels → Question
whole name = record { name = name; kind = any_kind; class = in_class }

-- the name that stands at a place of rdata, if one does
abbrev pub name_from : ℕ → List ℕ → Option Labels
name_from place rdata = elim (plain_name_at rdata place) [ Ok read ↦ Some read.0 | Err fault ↦ None ]

-- the instance to which a PTR record points (RFC 6763, 4.1)
abbrev pub instance_of : Key × Shown → Option Labels
instance_of row = if row.0.kind == ptr_kind then name_from 0 row.1.rdata else None

abbrev pub instances_in : RecordSet → List Labels
instances_in rows = flat_map (λ row. option_to_list (instance_of row)) rows

-- in key order; a record set has no key twice, so each instance is there once but for case
abbrev pub instances : Question → Known → List Labels
instances root known = instances_in (rows_held (known root))

-- priority, weight and port, of two octets each, and the host (RFC 2782)
abbrev pub server_to : List ℕ → Labels → Server
server_to rdata host = record { priority = from_be_bytes w16 (take 2 rdata); weight = from_be_bytes w16 (take 2 (drop 2 rdata)); port = from_be_bytes w16 (take 2 (drop 4 rdata)); host = host }

abbrev pub target_at : List ℕ → Option Server
target_at rdata = elim (name_from 6 rdata) [ None ↦ None | Some host ↦ Some (server_to rdata host) ]

abbrev pub server_of : Key × Shown → Option Server
server_of row = if row.0.kind == srv_kind then target_at row.1.rdata else None

-- the second comes before the first: a lower priority, or the same with a greater weight (RFC 2782)
abbrev pub is_before : Server → Server → Bool
is_before first second = nat_lt second.priority first.priority || (second.priority == first.priority && nat_lt first.weight second.weight)

abbrev pub better : Option Server → Option Server → Option Server
better None second = second
better (Some one) None = Some one
better (Some one) (Some other) = if is_before one other then Some other else Some one

-- least priority, then greatest weight, then the first key
abbrev pub server_in : RecordSet → Option Server
server_in rows = fold (λ best row. better best (server_of row)) None rows

-- the rdata of the records of a kind, in key order
abbrev pub rdata_of : ℕ → RecordSet → List (List ℕ)
rdata_of kind rows = map (λ row. row.1.rdata) (filter (λ row. row.0.kind == kind) rows)

abbrev pub host_addresses : Known → Labels → List (List ℕ)
host_addresses known host = let rows = rows_held (known (whole host)) in rdata_of a_kind rows ++ rdata_of aaaa_kind rows

abbrev pub addresses_of : Known → Option Server → List (List ℕ)
addresses_of known None = []
addresses_of known (Some server) = host_addresses known server.host

-- what is known of an instance: its server, the addresses of the server's host, and its TXT records (RFC 6763, 5 and 6)
abbrev pub service : Known → Labels → Service
service known instance =
    let rows = rows_held (known (whole instance)) in
    let server = server_in rows in
    record { instance = instance; server = server; addresses = addresses_of known server; texts = rdata_of txt_kind rows }

abbrev pub services : Question → Known → List Service
services root known = map (service known) (instances root known)

-- what a service asks for: its instance, and its host where that is known
abbrev pub asks_of : Service → List Question
asks_of s = whole s.instance ∷ map (λ server. whole server.host) (option_to_list s.server)

-- the root, and then what each service asks for, in the letters in which they came
abbrev pub needs : Question → List Service → List Question
needs root list = root ∷ flat_map asks_of list

-- ---- changes

abbrev pub same_rdatas : List (List ℕ) → List (List ℕ) → Bool
same_rdatas first second = pointwise same_octets first second

abbrev pub same_one : Server → Server → Bool
same_one a b = a.priority == b.priority && a.weight == b.weight && a.port == b.port && same_octets (octets a.host) (octets b.host)

abbrev pub same_server : Option Server → Option Server → Bool
same_server (Some a) (Some b) = same_one a b
same_server None None = true
same_server _ _ = false

-- all that is known of two services is one, to the letter
abbrev pub same_service : Service → Service → Bool
same_service a b = same_octets (octets a.instance) (octets b.instance) && same_server a.server b.server && same_rdatas a.addresses b.addresses && same_rdatas a.texts b.texts

-- a service is this instance's, but for upper and lower case
abbrev pub is_for : Labels → Service → Bool
is_for instance s = same_name s.instance instance

abbrev pub service_for : Labels → List Service → Option Service
service_for instance list = find (is_for instance) list

-- a service of the old list went where the new one has none for its instance
abbrev pub went_from : List Service → Service → Option Change
went_from new s = elim (service_for s.instance new) [ None ↦ Some (change.Went s) | Some now ↦ None ]

-- a service of the new list came where the old one has none for its instance, or differs from it
abbrev pub news_to : List Service → Service → Option Change
news_to old s = elim (service_for s.instance old) [ None ↦ Some (change.Came s) | Some before ↦ if same_service before s then None else Some (change.Differs before s) ]

abbrev pub gone_from : List Service → List Service → List Change
gone_from new old = flat_map (λ s. option_to_list (went_from new s)) old

abbrev pub news_of : List Service → List Service → List Change
news_of old new = flat_map (λ s. option_to_list (news_to old s)) new

-- who went, in the old list's order, and then who came or differs, in the new one's
abbrev pub changes : List Service → List Service → List Change
changes old new = gone_from new old ++ news_of old new
