-- What a link is asked, and when (RFC 6762, 5.2 and 7.1).
--     Asks, Wanted      how often a question was asked since it is wanted, and when last; the questions that are wanted
--     asked_for      the question for a name and a kind
--     asked_cmp, are_in_order, asks_of      their order; they stand in it; the asks of a question
--     is_due rows now e      a question is due
--     known_answers, datagram      the answers that are known; what is sent
--     wanted, unwanted, anew      a question comes, which was never asked; one goes; one begins anew
--     asked, first_due, next      those that pass a test are asked now; the first that is due, with what is sent for it
--     all_due, all_asked      what is sent for all that are due, in their order; they are asked now
use Rattle.std.specs.Prelude.{ℕ, ◌+◌, ◌-◌, ◌*◌, ◌/◌, ◌^◌, Bool, cond, not, ◌||◌, ◌&&◌, List, [], ◌∷◌, map, filter, find, min, Option, Some, None, is_some, nat_le, nat_lt, ◌==◌, if◌then◌else◌}
use Rattle.std.specs.List.{list_any}
use Rattle.std.specs.Ordering.{nat_cmp, ordering_then, is_eq}
use Rattle.std.specs.declared.cmp.Ordering.{Ordering}
use Rattle.std.specs.FinMap.{put as map_put, find as map_find, is_sorted as map_is_sorted}
use Rattle.push_base.specs.Causes.{next_count}
use Rattle.dnsname.specs.Names.{Labels, octets, lower}
use Rattle.rrset.specs.Kinds.{in_class}
use Rattle.rrset.specs.KeyedRows.{only_rows}
use Rattle.rrset.specs.Records.{matches, octets_cmp}
use Rattle.rrset.specs.declared.record.Key.{Key}
use Rattle.rrset.specs.declared.record.Question.{Question}
use Rattle.rrset.specs.declared.record.Rr.{Rr}
use Rattle.dnswire.specs.Writing.{query_octets}
use Rattle.linkcache.specs.Rows.{LinkRows, rr_of_row, second}
use Rattle.linkcache.specs.declared.row.HeardRow.{HeardRow}
use Rattle.linkask.specs.declared.asks.TheConstants as constants

-- how often since it is wanted, and the moment of the last time
pub record Asks : Type 0 where
  pub count : ℕ
  pub last : ℕ

-- questions of class IN, each once, in the order of names in lower case and then of kinds
abbrev pub Wanted : Type 0
Wanted = List (Question × Asks)

abbrev pub asked_for : Labels → ℕ → Question
asked_for name kind = record { name = name; kind = kind; class = in_class }

abbrev pub asked_cmp : Question → Question → Ordering
asked_cmp a b = ordering_then (octets_cmp (octets (lower a.name)) (octets (lower b.name))) (nat_cmp a.kind b.kind)

abbrev pub same_asked : Question → Question → Bool
same_asked a b = is_eq (asked_cmp a b)

abbrev pub are_in_order : Wanted → Bool
are_in_order all = map_is_sorted asked_cmp all

abbrev pub asks_of : Question → Wanted → Option Asks
asks_of question all = map_find asked_cmp question all

-- ---- when a question is due

-- after the first ask a second, then twice as long each time, an hour at most (RFC 6762, 5.2)
abbrev pub pause_after : ℕ → ℕ
pause_after count = min (second * 2 ^ (count - 1)) constants.LONGEST_PAUSE

-- a record is asked for anew when 80, 85, 90 and 95 hundredths of its TTL have passed since it was heard (RFC 6762, 5.2)
abbrev pub refreshes : HeardRow → List ℕ
refreshes row = map (λ part. row.heard + 10 * row.shown.ttl * part) (80 ∷ 85 ∷ 90 ∷ 95 ∷ [])

-- such a moment lies behind the last ask, and isn't to come
abbrev pub wants_refresh : ℕ → ℕ → HeardRow → Bool
wants_refresh last now row = list_any (λ moment. nat_lt last moment && nat_le moment now) (refreshes row)

abbrev pub rows_for : Question → LinkRows → LinkRows
rows_for question rows = only_rows (matches question) rows

-- it was never asked, or the pause is over, or a record that it matches grows old
abbrev pub is_due : LinkRows → ℕ → Question × Asks → Bool
is_due rows now e =
    e.1.count == 0
    || nat_le (e.1.last + pause_after e.1.count) now
    || list_any (λ row. wants_refresh e.1.last now row.1) (rows_for e.0 rows)

-- ---- what is sent

-- at least half of its TTL is left (RFC 6762, 7.1)
abbrev pub is_known : ℕ → Key × HeardRow → Bool
is_known now row = nat_le (second * row.1.shown.ttl) (2 * (row.1.ends - now))

-- with the time left, in whole seconds; that is no more than its TTL
abbrev pub known_rr : ℕ → Key × HeardRow → Rr
known_rr now row = record (rr_of_row row) { ttl = min ((row.1.ends - now) / second) row.1.shown.ttl }

abbrev pub known_answers : LinkRows → ℕ → Question → List Rr
known_answers rows now question = map (known_rr now) (filter (is_known now) (rows_for question rows))

abbrev pub datagram : LinkRows → ℕ → Question → List ℕ
datagram rows now question = query_octets question (known_answers rows now question)

-- ---- questions come, go, and are asked

abbrev pub never_asked : Asks
never_asked = record { count = 0; last = 0 }

abbrev pub wanted : Question → Wanted → Wanted
wanted question all = if is_some (asks_of question all) then all else map_put asked_cmp question never_asked all

abbrev pub unwanted : Question → Wanted → Wanted
unwanted question all = filter (λ e. not (same_asked question e.0)) all

-- as if it had never been asked
abbrev pub anew : Question → Wanted → Wanted
anew question all = map (λ e. cond (same_asked question e.0) (e.0, never_asked) e) all

abbrev pub asked_now : ℕ → Asks → Asks
asked_now now asks = record { count = next_count asks.count; last = now }

-- those that pass a test are asked now
abbrev pub asked : (Question × Asks → Bool) → ℕ → Wanted → Wanted
asked test now all = map (λ e. cond (test e) (e.0, asked_now now e.1) e) all

abbrev pub first_due : LinkRows → ℕ → Wanted → Option (Question × Asks)
first_due rows now all = find (is_due rows now) all

-- the first that is due is asked: what is sent for it, and what is wanted then
abbrev pub next : LinkRows → ℕ → Wanted → Option (List ℕ) × Wanted
next rows now all = elim (first_due rows now all) [
  | None ↦ (None, all)
  | Some e ↦ (Some (datagram rows now e.0), asked (λ f. same_asked e.0 f.0) now all)
]

-- what `next` sends again and again until none is due
abbrev pub all_due : LinkRows → ℕ → Wanted → List (List ℕ)
all_due rows now all = map (λ e. datagram rows now e.0) (filter (is_due rows now) all)

abbrev pub all_asked : LinkRows → ℕ → Wanted → Wanted
all_asked rows now all = asked (is_due rows now) now all
