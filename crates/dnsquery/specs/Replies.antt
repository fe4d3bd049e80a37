-- The reply to a unicast query (RFC 1034, 3.6.2 and 4.3.2; RFC 1035, 4.1.1; RFC 2308, 2).
--     Known      which names have a home, and all records
--     is_below known name      a record's owner ends in the name
--     walk known question      the answers along CNAMEs, and the RCODE
--     reply_to_query known query, reply_to known message      the reply to a query; to a message that is one or not
--     CanBeReplied set      records as replies are made of
use Rattle.std.specs.Prelude.{ℕ, zero, suc, ◌+◌, ◌≤◌, Bool, not, ◌&&◌, ◌||◌, List, [], ◌∷◌, ◌++◌, map, Ok, Err, ◌==◌, IsTrue, bit_and, if◌then◌else◌}
use Rattle.std.specs.List.{list_any, list_all}
use Rattle.push_base.specs.Cases.{chosen}
use Rattle.push_base.specs.Limits.{max_octets_at_name}
use Rattle.dnsname.specs.Names.{Labels, same_name, ends_in}
use Rattle.rrset.specs.Kinds.{cname_kind, any_kind, in_class, any_class, is_meta}
use Rattle.rrset.specs.Rcodes.{noerror, formerr, nxdomain, notimp, refused}
use Rattle.rrset.specs.Header.{id_of, flags_of, answer_octets}
use Rattle.rrset.specs.Rdata.{rdata_names, shape_fits}
use Rattle.rrset.specs.Records.{rr_of}
use Rattle.rrset.specs.RecordSet.{RecordSet, matching, size_at, is_record_set}
use Rattle.rrset.specs.declared.header.TheConstants as header
use Rattle.rrset.specs.declared.record.Key.{Key}
use Rattle.rrset.specs.declared.record.Shown.{Shown}
use Rattle.rrset.specs.declared.record.Question.{Question}
use Rattle.rrset.specs.declared.record.Rr.{Rr}
use Rattle.dnswire.specs.Writing.{message_octets}
use Rattle.dnsquery.specs.declared.replying.TheConstants as constants
use Rattle.dnsquery.specs.declared.walk.TheConstants as walking
use Rattle.dnsquery.specs.declared.query.Query.{Query}
use Rattle.dnsquery.specs.Queries.{query_of}

-- what a reply is made of
pub record Known : Type 0 where
  pub has_home : Labels → Bool
  pub records : RecordSet

abbrev pub is_below : Labels → RecordSet → Bool
is_below name records = list_any (λ e. ends_in e.0.owner name) records

abbrev pub rrs_of : RecordSet → List Rr
rrs_of set = map (λ e. rr_of e.0 e.1) set

-- ---- along CNAMEs (RFC 1034, 3.6.2)

-- records, and an RCODE
pub record Answered : Type 0 where
  pub rcode : ℕ
  pub answers : RecordSet

abbrev pub behind : Key × Shown → Answered → Answered
behind alias answered = record answered { answers = alias ∷ answered.answers }

-- a name without any of the records: there is none of that name where nothing stands under it either (RFC 2308, 2.1 and 2.2; RFC 8020)
abbrev pub nothing_at : Known → Labels → Answered
nothing_at known name = record { rcode = if known.has_home name && not (is_below name known.records) then nxdomain else noerror; answers = [] }

-- the name that a CNAME leads to
abbrev pub target_in : List ℕ → Labels
target_in rdata = elim (rdata_names cname_kind rdata) [ [] ↦ [] | n ∷ ns ↦ n ]

abbrev pub target_of : Key × Shown → Labels
target_of alias = target_in alias.1.rdata

-- at a name: the records asked for, or else its first CNAME and what its target leads to, or nothing
abbrev pub at_step : Known → Question → Labels → (Labels → Answered) → Answered
at_step known question name goes_on =
    elim (matching (record question { name = name }) known.records) [
      | e ∷ es ↦ record { rcode = noerror; answers = e ∷ es }
      | [] ↦ elim (matching (record { name = name; kind = cname_kind; class = in_class }) known.records) [
        | [] ↦ nothing_at known name
        | alias ∷ others ↦ behind alias (goes_on (target_of alias))
      ]
    ]

abbrev pub ends_here : Labels → Answered
ends_here target = record { rcode = noerror; answers = [] }

-- no walk goes to a target that was visited, or has no home
abbrev pub is_left_out : Known → List Labels → Labels → Bool
is_left_out known visited target = list_any (same_name target) visited || not (known.has_home target)

-- with so many targets to go to
abbrev pub walk_from : ℕ → Known → Question → List Labels → Labels → Answered
walk_from zero known question visited name = at_step known question name ends_here
walk_from (suc more) known question visited name =
    at_step known question name (λ target. if is_left_out known (visited ++ name ∷ []) target then ends_here target else walk_from more known question (visited ++ name ∷ []) target)

abbrev pub max_targets : ℕ
max_targets = walking.MAX_TARGETS

abbrev pub walk : Known → Question → Answered
walk known question = walk_from max_targets known question [] question.name

-- ---- the reply

-- QR, RD as asked, and an RCODE; AA where it is an answer of this server (RFC 1035, 4.1.1)
abbrev pub plain_flags : ℕ → ℕ → ℕ
plain_flags flags rcode = header.RESPONSE + bit_and flags constants.RECURSION_DESIRED + rcode

abbrev pub own_flags : ℕ → ℕ → ℕ
own_flags flags rcode = header.RESPONSE + constants.AUTHORITATIVE + bit_and flags constants.RECURSION_DESIRED + rcode

abbrev pub is_answerable : Known → Question → Bool
is_answerable known question = (question.class == in_class || question.class == any_class) && known.has_home question.name

abbrev pub is_unserved : ℕ → Bool
is_unserved kind = is_meta kind && not (kind == any_kind)

abbrev pub refuses_query : Query → ℕ → List ℕ
refuses_query query rcode = message_octets query.id (plain_flags query.flags rcode) query.question []

abbrev pub answers_query : Query → Answered → List ℕ
answers_query query answered = message_octets query.id (own_flags query.flags answered.rcode) query.question (rrs_of answered.answers)

-- the first case that applies
abbrev pub reply_to_query : Known → Query → List ℕ
reply_to_query known query = chosen (
    (not (is_answerable known query.question), refuses_query query refused)
    ∷ (is_unserved query.question.kind, refuses_query query notimp)
    ∷ []) (answers_query query (walk known query.question))

-- a header and a question, eight CNAMEs with their targets' records, or the records of a name (this project's own)
abbrev pub max_reply : ℕ
max_reply = constants.MAX_REPLY

-- a message that is no query gets its ID, OPCODE and RD back (RFC 1035, 4.1.1)
abbrev pub malformed_flags : ℕ → ℕ
malformed_flags flags = header.RESPONSE + bit_and flags header.KEPT_FLAGS + formerr

abbrev pub reply_to : Known → List ℕ → List ℕ
reply_to known message = elim (query_of message) [
  | Err fault ↦ answer_octets (id_of message) (malformed_flags (flags_of message))
  | Ok query ↦ reply_to_query known query
]

-- ---- what replies are made of

abbrev pub fits_its_kind : Key × Shown → Bool
fits_its_kind e = e.0.class == in_class && shape_fits e.0.kind e.1.rdata

-- in key order, each shown at its own key, of class IN, each rdata in the shape of its kind, and no name with too much
pub record CanBeReplied (records : RecordSet) : Type 0 where
  pub set : IsTrue (is_record_set records)
  pub fit : IsTrue (list_all fits_its_kind records)
  pub few : (name : Labels) → size_at name records ≤ max_octets_at_name
