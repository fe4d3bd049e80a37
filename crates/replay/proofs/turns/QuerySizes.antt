-- The reply to a query has far fewer octets than a script's turns.
--     replied-size      at most 18,000,000 octets, in a state that is within the bounds
use Rattle.std.proofs.Common.{◌≡◌, ℕ, zero, suc, ◌+◌, ◌*◌, ◌≤◌, Bool, true, false, cond, not, List, [], ◌∷◌, ◌++◌, length, Result, Ok, Err, sym, subst, arith, le_trans}
use Rattle.std.specs.Prelude.{IfOk, flat_map}
use Rattle.push_base.specs.Cases.{chosen}
use Rattle.dnsname.specs.Names.{Labels, octets}
use Rattle.rrset.specs.Header.{id_of, flags_of, answer_octets}
use Rattle.rrset.specs.Kinds.{cname_kind, in_class}
use Rattle.rrset.specs.Rcodes.{noerror, notimp, refused}
use Rattle.rrset.specs.Records.{rr_of, rr_size}
use Rattle.rrset.specs.RecordSet.{RecordSet, at_name, matching, size_at, size_of}
use Rattle.rrset.specs.declared.record.Question.{Question}
use Rattle.rrset.proofs.Sizes.{size_of-cons, size_of-only}
use Rattle.dnswire.specs.Writing.{message_octets, record_octets}
use Rattle.dnswire.proofs.RecordSizes.{records-size as written-size}
use Rattle.dnsquery.specs.Queries.{query_of}
use Rattle.dnsquery.specs.Replies.{Known, Answered, at_step, behind, ends_here, is_answerable, is_left_out, is_unserved, malformed_flags, max_targets, nothing_at, own_flags, plain_flags, refuses_query, answers_query, reply_to, reply_to_query, rrs_of, target_of, walk, walk_from}
use Rattle.dnsquery.specs.Steps.{asks_for}
use Rattle.dnsquery.specs.declared.query.Query.{Query}
use Rattle.dnsquery.specs.declared.query.QueryFault.{QueryFault}
use Rattle.dnsquery.proofs.ReplySizes.{message-size}
use Rattle.dnsquery.proofs.ShortNames.{AsksShort, asked-short}
use Rattle.dnsquery.proofs.Walking.{matching-part}
use Rattle.history.specs.States.{State, records}
use Rattle.pushserver.specs.Giving.{known_at}
use Rattle.replay.proofs.turns.ZoneSizes.{IsBounded, records-size}

-- ---- the records along a walk

abbrev AreSmall : RecordSet → Type 0
AreSmall records = (name : Labels) → size_at name records ≤ 1920000

part-size : (name : Labels) (kind class : ℕ) (records : RecordSet) → AreSmall records → size_of (matching (record { name = name; kind = kind; class = class }) records) ≤ 1920000
part-size name kind class records small =
    subst (λ (set : RecordSet). size_of set ≤ 1920000) (sym (matching-part name kind class records))
    (le_trans (size_of-only (asks_for kind class) (at_name name records)) (small name))

-- a CNAME, and what follows it
onto : (n whole rest one all others : ℕ) → whole ≡ one + rest → all ≡ one + others → all ≤ 1920000 → rest ≤ n → whole ≤ 1920000 + n
onto n whole rest one all others w o a r = omega (arith, w, o, a, r)

within : (n size : ℕ) → size ≤ 1920000 → size ≤ 1920000 + n
within n size h = omega (arith, h)

nothing-size : (n : ℕ) → 0 ≤ n
nothing-size n = omega arith

more-size : (more size : ℕ) → size ≤ 1920000 + (1920000 + 1920000 * more) → size ≤ 1920000 + 1920000 * suc more
more-size more size h = omega (arith, h)

module _ (known : Known) (question : Question) (small : AreSmall known.records) where
  step-size : (name : Labels) (goes_on : Labels → Answered) (n : ℕ) → ((target : Labels) → size_of (goes_on target).answers ≤ n) → size_of (at_step known question name goes_on).answers ≤ 1920000 + n
  step-size name goes_on n later =
      by (matching (record question { name = name }) known.records) (matching (record { name = name; kind = cname_kind; class = in_class }) known.records)
      (part-size name question.kind question.class known.records small) (part-size name cname_kind in_class known.records small)
    where
      by : (found aliases : RecordSet) → size_of found ≤ 1920000 → size_of aliases ≤ 1920000
          → size_of (elim found as (λ _. Answered) [
            | e ∷ es ↦ record { rcode = noerror; answers = e ∷ es }
            | [] ↦ elim aliases as (λ _. Answered) [ [] ↦ nothing_at known name | alias ∷ others ↦ behind alias (goes_on (target_of alias)) ]
          ]).answers ≤ 1920000 + n
      by (e ∷ es) aliases f a = within n (size_of (e ∷ es)) f
      by [] [] f a = nothing-size (1920000 + n)
      by [] (alias ∷ others) f a =
          let rest = (goes_on (target_of alias)).answers in
          onto n (size_of (alias ∷ rest)) (size_of rest) (rr_size (rr_of alias.0 alias.1)) (size_of (alias ∷ others)) (size_of others) (size_of-cons alias rest) (size_of-cons alias others) a (later (target_of alias))

  walk-size : (more : ℕ) (visited : List Labels) (name : Labels) → size_of (walk_from more known question visited name).answers ≤ 1920000 + 1920000 * more
  walk-size zero visited name = step-size name ends_here (1920000 * zero) (λ target. nothing-size (1920000 * zero))
  walk-size (suc more) visited name =
      more-size more (size_of (walk_from (suc more) known question visited name).answers)
      (step-size name (λ target. cond (is_left_out known (visited ++ name ∷ []) target) (ends_here target) (walk_from more known question (visited ++ name ∷ []) target)) (1920000 + 1920000 * more)
      (λ target. by target (is_left_out known (visited ++ name ∷ []) target) (walk-size more (visited ++ name ∷ []) target)))
    where
      by : (target : Labels) (gone : Bool) → size_of (walk_from more known question (visited ++ name ∷ []) target).answers ≤ 1920000 + 1920000 * more
          → size_of (cond gone (ends_here target) (walk_from more known question (visited ++ name ∷ []) target)).answers ≤ 1920000 + 1920000 * more
      by target true rest = nothing-size (1920000 + 1920000 * more)
      by target false rest = rest

  walked-size : size_of (walk known question).answers ≤ 17280000
  walked-size = walk-size max_targets [] question.name

-- ---- the reply

written-few : (id flags : ℕ) (question : Question) (set : RecordSet) → length (octets question.name) ≤ 255 → size_of set ≤ 17280000 → length (message_octets id flags question (rrs_of set)) ≤ 18000000
written-few id flags question set name few =
    sum (length (message_octets id flags question (rrs_of set))) (length (octets question.name)) (length (flat_map record_octets (rrs_of set))) (size_of set) (message-size id flags question (rrs_of set)) (written-size set) name few
  where
    sum : (whole name written size : ℕ) → whole ≡ 12 + (name + 2 + 2) + written → written ≡ size → name ≤ 255 → size ≤ 17280000 → whole ≤ 18000000
    sum whole name written size w s n f = omega (arith, w, s, n, f)

query-size : (known : Known) (query : Query) → AreSmall known.records → AsksShort query → length (reply_to_query known query) ≤ 18000000
query-size known query small name = by (not (is_answerable known query.question)) (is_unserved query.question.kind)
  where
    refused-size : (rcode : ℕ) → length (refuses_query query rcode) ≤ 18000000
    refused-size rcode = written-few query.id (plain_flags query.flags rcode) query.question [] name (omega arith)

    by : (a b : Bool) → length (chosen ((a, refuses_query query refused) ∷ (b, refuses_query query notimp) ∷ []) (answers_query query (walk known query.question))) ≤ 18000000
    by true b = refused-size refused
    by false true = refused-size notimp
    by false false =
        written-few query.id (own_flags query.flags (walk known query.question).rcode) query.question (walk known query.question).answers name (walked-size known query.question small)

reply-size : (known : Known) (message : List ℕ) → AreSmall known.records → length (reply_to known message) ≤ 18000000
reply-size known message small = by (query_of message) (asked-short message)
  where
    by : (r : Result Query QueryFault) → IfOk r AsksShort
        → length (elim r as (λ _. List ℕ) [ Err fault ↦ answer_octets (id_of message) (malformed_flags (flags_of message)) | Ok query ↦ reply_to_query known query ]) ≤ 18000000
    by (Err fault) short = omega arith
    by (Ok query) short = query-size known query small short

pub replied-size : (state : State) (message : List ℕ) → IsBounded state → length (reply_to (known_at state) message) ≤ 18000000
replied-size state message b = reply-size (known_at state) message (λ name. records-size state name b)
