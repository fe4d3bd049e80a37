-- When questions are due, and that what was asked isn't.
--     due_by_moment, due_within_a_second, not_due_at_once
use Rattle.std.proofs.Common.{◌≡◌, ℕ, ◌+◌, ◌<◌, ◌≤◌, Bool, true, false, cond, ◌&&◌, ◌||◌, List, [], ◌∷◌, length, drop, refl, sym, ◌∙◌, ap, arith}
use Rattle.std.specs.Prelude.{min, filter, fold, flat_map, nat_le, nat_lt, ◌==◌}
use Rattle.std.specs.List.{list_any}
use Rattle.push_base.specs.Causes.{next_count}
use Rattle.rrset.specs.declared.record.Key.{Key}
use Rattle.rrset.specs.declared.record.Question.{Question}
use Rattle.linkcache.specs.Rows.{LinkRows}
use Rattle.linkcache.specs.declared.row.HeardRow.{HeardRow}
use Rattle.linkask.specs.Asking.{Asks, pause_after, refreshes, rows_for, wants_refresh}
use Rattle.linkask.specs.Bounds.{asks_in, due_of}
use Rattle.linkask.specs.declared.asks.KeptAsks.{KeptAsks}
use Rattle.rrset.specs.Records.{matches}
use Rattle.rrset.specs.Tables.{counted}
use Rattle.std.proofs.lemmas.List.{length-drop}
use Rattle.linkask.specs.Laws.{DueByMoment, DueWithinASecond, NotDueAtOnce}
use Rattle.linkask.proofs.Pauses.{pause-second}
use Rattle.linkask.proofs.Tests.{fold-capped, fold-come, any-filter, any-flat, any-none}

zero-come : (now : ℕ) → nat_le 0 now ≡ true
zero-come now = grind arith

-- the moments at which rows are asked for anew, behind the last ask
refreshes-come : (last now : ℕ) (rows : LinkRows)
    → list_any (λ m. nat_le m now) (filter (nat_lt last) (flat_map (λ (row : Key × HeardRow). refreshes row.1) rows)) ≡ list_any (λ (row : Key × HeardRow). wants_refresh last now row.1) rows
refreshes-come last now rows =
    any-filter (λ m. nat_le m now) (nat_lt last) (flat_map (λ (row : Key × HeardRow). refreshes row.1) rows)
    ∙ any-flat (λ m. nat_lt last m && nat_le m now) (λ (row : Key × HeardRow). refreshes row.1) rows

pub due_by_moment : DueByMoment
due_by_moment rows now e = by (e.1.count == 0)
  where
    pause : ℕ
    pause = e.1.last + pause_after e.1.count

    later : List ℕ
    later = filter (nat_lt e.1.last) (flat_map (λ (row : Key × HeardRow). refreshes row.1) (rows_for e.0 rows))

    by : (b : Bool) → ((b || nat_le pause now) || list_any (λ (row : Key × HeardRow). wants_refresh e.1.last now row.1) (rows_for e.0 rows)) ≡ nat_le (cond b 0 (fold min pause later)) now
    by true = sym (zero-come now)
    by false = sym (fold-come pause later now ∙ ap (λ c. nat_le pause now || c) (refreshes-come e.1.last now (rows_for e.0 rows)))

-- ---- what was asked

asked-some : (count : ℕ) → (next_count count == 0) ≡ false
asked-some count = grind arith

not-between : (now moment : ℕ) → (nat_lt now moment && nat_le moment now) ≡ false
not-between now moment = grind arith

pause-to-come : (now pause moment : ℕ) → 1000 ≤ pause → moment < now + 1000 → nat_le (now + pause) moment ≡ false
pause-to-come now pause moment long soon = grind (arith, long, soon)

pub due_within_a_second : DueWithinASecond
due_within_a_second rows now moment question asks soon = λ i.
    (asked-some asks.count i || pause-to-come now (pause_after (next_count asks.count)) moment (pause-second (next_count asks.count)) soon i)
    || list_any (λ (row : Key × HeardRow). wants_refresh now moment row.1) (rows_for question rows)

pub not_due_at_once : NotDueAtOnce
not_due_at_once rows now question asks = due_within_a_second rows now now question asks (omega arith) ∙ none
  where
    none : list_any (λ (row : Key × HeardRow). wants_refresh now now row.1) (rows_for question rows) ≡ false
    none = any-none (λ (row : Key × HeardRow). wants_refresh now now row.1) (λ row. any-none (λ m. nat_lt now m && nat_le m now) (not-between now) (refreshes row.1)) (rows_for question rows)

-- ---- as it is computed

pub due-some : (rows : LinkRows) (asks : Asks) → (asks.count == 0) ≡ false
    → due_of rows asks ≡ fold min (asks.last + pause_after asks.count) (filter (nat_lt asks.last) (flat_map (λ (row : Key × HeardRow). refreshes row.1) rows))
due-some rows asks some = ap (λ b. cond b 0 (fold min (asks.last + pause_after asks.count) (filter (nat_lt asks.last) (flat_map (λ (row : Key × HeardRow). refreshes row.1) rows)))) some

no_rows : (rows : LinkRows) → length rows ≡ 0 → rows ≡ []
no_rows [] e = refl
no_rows (r ∷ rs) e = absurd (omega (arith, e))

pub due-ends : (rows : LinkRows) (question : Question) (asks : KeptAsks) (due index : ℕ) → (asks.count == 0) ≡ false → length rows ≤ index
    → fold min due (filter (nat_lt asks.last) (flat_map (λ (row : Key × HeardRow). refreshes row.1) (filter (λ (row : Key × HeardRow). matches question row.0) (drop index rows))))
    ≡ fold min (counted (asks.last + pause_after asks.count)) (filter (nat_lt asks.last) (flat_map (λ (row : Key × HeardRow). refreshes row.1) (filter (λ (row : Key × HeardRow). matches question row.0) rows)))
    → due ≡ counted (due_of (filter (λ (row : Key × HeardRow). matches question row.0) rows) (asks_in asks))
due-ends rows question asks due index some ended so_far =
    let past : drop index rows ≡ [] = no_rows (drop index rows) (omega (arith, length-drop index rows, ended)) in
    let all = filter (λ (row : Key × HeardRow). matches question row.0) rows in
    ap (λ (l : LinkRows). fold min due (filter (nat_lt asks.last) (flat_map (λ (row : Key × HeardRow). refreshes row.1) (filter (λ (row : Key × HeardRow). matches question row.0) l)))) (sym past)
    ∙ so_far
    ∙ fold-capped (asks.last + pause_after asks.count) 18446744073709551615 (filter (nat_lt asks.last) (flat_map (λ (row : Key × HeardRow). refreshes row.1) all))
    ∙ ap counted (sym (due-some all (asks_in asks) some))

pub count-some : (n : ℕ) → (n ≡ 0 → ⊥) → (n == 0) ≡ false
count-some n h = grind (arith, h)
