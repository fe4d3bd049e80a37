-- What is kept beside the questions, so that not all are looked at: of each a moment before which it isn't due, and the least of these.
--     KeptAsks, Kept      how often a question was asked and when last, how many reasons there are for it, and its bound
--     wanted_in kept, are_kept kept, reasons_for question kept      what is wanted; in its order; the reasons for a question
--     IsAt, IsGapFor      where a question is, and where it would go
--     due_of rows asks, due_moment rows e      the least moment at which a question is due that matches these rows; of these rows
--     AreBounds rows kept      no bound is later than that
--     IsLeast least kept      no bound is earlier
--     unbounded kept, all_reasons kept      all but the bounds; the questions with the number of reasons for each
--     IsDueAt, IsFirstDue      whether the question at a place is due; where the first stands that is due
--     asked_at place now kept      the question at a place is asked now
--     lowered_due, heard_again, all_heard      a bound behind a record; bounds behind one, and behind several
--     with_asks, lowered_for      what is kept of one question changes; its bound is lowered
--     with_reason, without_reason, begun_anew      a reason comes; one goes; a question begins anew
use Rattle.std.specs.Prelude.{◌≡◌, ℕ, ◌+◌, ◌-◌, ◌*◌, ◌<◌, ◌≤◌, Bool, cond, not, ◌&&◌, ◌||◌, List, map, filter, fold, length, min, Option, Some, None, nat_lt, ◌==◌, if◌then◌else◌}
use Rattle.std.specs.List.{AllByRecursion, HoldsAt, flat_map}
use Rattle.std.specs.List.Sorted.{IsPartitionPoint}
use Rattle.std.specs.declared.cmp.Ordering.TheVariants.{Less, Equal, Greater}
use Rattle.std.specs.FinMap.{put as map_put, find as map_find, is_sorted as map_is_sorted}
use Rattle.push_base.specs.Cases.{changed_at}
use Rattle.push_base.specs.Causes.{next_count}
use Rattle.dnsname.specs.Names.{same_name}
use Rattle.rrset.specs.Kinds.{any_kind}
use Rattle.rrset.specs.declared.record.Question.{Question}
use Rattle.rrset.specs.declared.record.HeardRr.{HeardRr}
use Rattle.linkcache.specs.Rows.{LinkRows, ttl_of}
use Rattle.linkask.specs.Asking.{Asks, Wanted, asked_cmp, same_asked, pause_after, refreshes, rows_for, is_due, first_due}
use Rattle.linkask.specs.declared.asks.KeptAsks.{KeptAsks}

abbrev pub Kept : Type 0
Kept = List (Question × KeptAsks)

abbrev pub asks_in : KeptAsks → Asks
asks_in asks = record { count = asks.count; last = asks.last }

abbrev pub wanted_in : Kept → Wanted
wanted_in kept = map (λ e. (e.0, asks_in e.1)) kept

-- they stand in the order of questions
abbrev pub are_kept : Kept → Bool
are_kept kept = map_is_sorted asked_cmp kept

-- the question is that of the entry with this index
pub record IsAt (question : Question) (kept : Kept) (index : ℕ) : Type 0 where
  pub within : index < length kept
  pub equal : HoldsAt (λ e. asked_cmp e.0 question ≡ Equal) kept index

-- those before the index are less than the question, and those from there on are greater
pub record IsGapFor (question : Question) (kept : Kept) (index : ℕ) : Type 0 where
  pub within : index ≤ length kept
  pub between : IsPartitionPoint (λ e. asked_cmp e.0 question ≡ Less) (λ e. asked_cmp e.0 question ≡ Greater) kept index

abbrev pub reasons_of : Option KeptAsks → ℕ
reasons_of None = 0
reasons_of (Some asks) = asks.reasons

abbrev pub reasons_for : Question → Kept → ℕ
reasons_for question kept = reasons_of (map_find asked_cmp question kept)

-- ---- when a question is due

-- the end of the pause, or the first moment behind the last ask at which one of these rows is asked for anew
abbrev pub due_of : LinkRows → Asks → ℕ
due_of rows asks =
    if asks.count == 0 then 0
    else fold min (asks.last + pause_after asks.count) (filter (nat_lt asks.last) (flat_map (λ row. refreshes row.1) rows))

abbrev pub due_moment : LinkRows → Question × Asks → ℕ
due_moment rows e = due_of (rows_for e.0 rows) e.1

abbrev pub IsBound : LinkRows → Question × KeptAsks → Type 0
IsBound rows e = e.1.due ≤ due_moment rows (e.0, asks_in e.1)

abbrev pub AreBounds : LinkRows → Kept → Type 0
AreBounds rows kept = AllByRecursion (IsBound rows) kept

abbrev pub IsLeast : ℕ → Kept → Type 0
IsLeast least kept = AllByRecursion (λ e. least ≤ e.1.due) kept

-- ---- asking

abbrev pub unbounded : Kept → Kept
unbounded kept = map (λ e. (e.0, record e.1 { due = 0 })) kept

abbrev pub all_reasons : Kept → List (Question × ℕ)
all_reasons kept = map (λ e. (e.0, e.1.reasons)) kept

abbrev pub IsDueAt : LinkRows → ℕ → Wanted → ℕ → Bool → Type 0
IsDueAt rows now all place is = HoldsAt (λ e. is_due rows now e ≡ is) all place

abbrev pub IsFirstDue : LinkRows → ℕ → Wanted → Option ℕ → Type 0
IsFirstDue rows now all None = first_due rows now all ≡ None
IsFirstDue rows now all (Some place) = (place < length all) × HoldsAt (λ e. first_due rows now all ≡ Some e) all place

abbrev pub asked_at : ℕ → ℕ → Kept → Kept
asked_at place now kept = changed_at place (λ e. (e.0, record e.1 { count = next_count e.1.count; last = now })) kept

-- ---- what changes bounds

-- a record asks for a refresh first when 80 hundredths of its TTL have passed
abbrev pub first_refresh : ℕ → HeardRr → ℕ
first_refresh now h = now + 800 * ttl_of h

abbrev pub is_asked_for : Question → HeardRr → Bool
is_asked_for question h = same_name question.name h.rr.owner && (question.kind == h.rr.kind || question.kind == any_kind)

-- a bound behind a record that is asked for anew first at a moment
abbrev pub lowered_due : Question → ℕ → HeardRr → ℕ → ℕ
lowered_due question due h moment = cond (is_asked_for question h && not (ttl_of h == 0)) (min due moment) due

abbrev pub heard_again : ℕ → Kept → HeardRr → Kept
heard_again now kept h = map (λ e. (e.0, record e.1 { due = lowered_due e.0 e.1.due h (first_refresh now h) })) kept

abbrev pub all_heard : ℕ → List HeardRr → Kept → Kept
all_heard now hearing kept = fold (heard_again now) kept hearing

-- what is kept of one question changes
abbrev pub with_asks : Question → (KeptAsks → KeptAsks) → Kept → Kept
with_asks question f kept = map (λ e. cond (same_asked question e.0) (e.0, f e.1) e) kept

abbrev pub lowered_for : Question → ℕ → Kept → Kept
lowered_for question moment kept = with_asks question (λ asks. record asks { due = min asks.due moment }) kept

-- ---- reasons

abbrev pub one_reason : KeptAsks
one_reason = record { count = 0; last = 0; reasons = 1; due = 0 }

abbrev pub with_reason : Question → Kept → Kept
with_reason question kept = map_put asked_cmp question (elim (map_find asked_cmp question kept) [ None ↦ one_reason | Some asks ↦ record asks { reasons = next_count asks.reasons } ]) kept

abbrev pub without_reason : Question → Kept → Kept
without_reason question kept = elim (map_find asked_cmp question kept) [
  | None ↦ kept
  | Some asks ↦ if nat_lt 1 asks.reasons then map_put asked_cmp question (record asks { reasons = asks.reasons - 1 }) kept else filter (λ e. not (same_asked question e.0)) kept
]

-- as if it had never been asked, for the same reasons
abbrev pub begun_anew : Question → Kept → Kept
begun_anew question kept = with_asks question (λ asks. record asks { count = 0; last = 0; due = 0 }) kept
