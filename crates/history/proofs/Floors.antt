-- From which place on entries and one more have room.
use Rattle.std.proofs.Common.{◌≡◌, ℕ, ◌+◌, ◌-◌, ◌<◌, ◌≤◌, Bool, true, false, leb, ltb, List, length, drop, sum_by, refl, sym, ap, ◌∙◌, arith, leb-true, leb-false, le-leb, lt-ltb}
use Rattle.std.specs.Prelude.{◌&&◌}
use Rattle.std.proofs.lemmas.List.{length-drop, drop-drop}
use Rattle.std.proofs.lemmas.List.Sums.{sum_by-take-drop}
use Rattle.history.specs.States.{entry_size, journal_has_room}
use Rattle.history.specs.declared.entry.Entry.{Entry}
use Rattle.history.proofs.Pasts.{room-parts}

both : (n m size : ℕ) → n < 65536 → m + size ≤ 67108864 → (ltb n 65536 && leb (m + size) 67108864) ≡ true
both n m size few small = ap (λ b. b && leb (m + size) 67108864) (lt-ltb n 65536 few) ∙ le-leb (m + size) 67108864 small

-- fewer entries have room, too
room-later : (entries : List Entry) (i n size : ℕ) → i ≤ n → journal_has_room (drop i entries) size ≡ true → journal_has_room (drop n entries) size ≡ true
room-later entries i n size later room =
    let parts = room-parts (drop i entries) size room in
    let rest : drop n entries ≡ drop (n - i) (drop i entries) = ap (λ k. drop k entries) (omega (arith, later)) ∙ sym (drop-drop (n - i) i entries) in
    both (length (drop n entries)) (sum_by entry_size (drop n entries)) size
    (omega (arith, parts.0, ap length rest, length-drop (n - i) (drop i entries)))
    (omega (arith, parts.1, ap (sum_by entry_size) rest, sum_by-take-drop entry_size (drop i entries) (n - i)))

-- the first place that has room
pub first-room : (entries : List Entry) (i size : ℕ) → journal_has_room (drop i entries) size ≡ true → ((n : ℕ) → n < i → journal_has_room (drop n entries) size ≡ false) → (n : ℕ) → journal_has_room (drop n entries) size ≡ leb i n
first-room entries i size room before n = by (leb i n) refl
  where
    by : (b : Bool) → leb i n ≡ b → journal_has_room (drop n entries) size ≡ b
    by true e = room-later entries i n size (leb-true i n e) room
    by false e = before n (leb-false i n e)

-- what is asked of the numbers that are kept
pub room-here : (entries : List Entry) (i count left size : ℕ) → count ≡ length entries - i → left ≡ sum_by entry_size (drop i entries) → (ltb count 65536 && leb (left + size) 67108864) ≡ true → journal_has_room (drop i entries) size ≡ true
room-here entries i count left size count_is left_is room =
    (λ k. ltb (sym (count_is ∙ sym (length-drop i entries)) k) 65536 && leb (sym left_is k + size) 67108864) ∙ room
