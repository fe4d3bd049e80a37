-- What entries hold: where a question begins, where it ends, and its set.
use Rattle.std.proofs.Common.{◌≡◌, ℕ, zero, suc, ◌<◌, Bool, true, false, cond, not, ◌||◌, List, [], ◌∷◌, ◌++◌, length, get_or, set, Some, refl, sym, ap, ◌∙◌, arith}
use Rattle.std.specs.List.{list_any, find, position}
use Rattle.std.specs.Option.{option_map}
use Rattle.std.proofs.lemmas.List.Quantifiers.{position-Some}
use Rattle.rrset.specs.RecordSet.{RecordSet}
use Rattle.rrset.specs.Tables.{TableState}
use Rattle.rrset.specs.declared.record.Shown.{Shown}
use Rattle.rrset.specs.declared.record.Question.{Question}
use Rattle.rrset.proofs.Distinct.{failing, or_false}
use Rattle.mirror.specs.Held.{Held, held_of, is_of, has, set_of, begun, ended}

abbrev Entries : Type 0
Entries = List (Question × TableState Shown)

module _ (question : Question) where
  pub held_any : (entries : Entries) → has question (held_of entries) ≡ list_any (is_of question) entries
  held_any [] = refl
  held_any (e ∷ entries) = ap (λ (b : Bool). is_of question e || b) (held_any entries)

  pub held_left : (entries : Entries) → ended question (held_of entries) ≡ held_of (failing (is_of question) entries)
  held_left [] = refl
  held_left (e ∷ entries) = by (is_of question e) (held_left entries)
    where
      by : (b : Bool) → ended question (held_of entries) ≡ held_of (failing (is_of question) entries)
          → cond (not b) ((e.0, e.1.rows) ∷ ended question (held_of entries)) (ended question (held_of entries)) ≡ held_of (cond (not b) (e ∷ failing (is_of question) entries) (failing (is_of question) entries))
      by true rest = rest
      by false rest = ap (λ (l : Held). (e.0, e.1.rows) ∷ l) rest

  pub held_found : (entries : Entries) → set_of question (held_of entries) ≡ option_map (λ e. e.1.rows) (find (is_of question) entries)
  held_found [] = refl
  held_found (e ∷ entries) = by (is_of question e) (held_found entries)
    where
      by : (b : Bool) → set_of question (held_of entries) ≡ option_map (λ e. e.1.rows) (find (is_of question) entries)
          → option_map (λ h. h.1) (cond b (Some (e.0, e.1.rows)) (find (is_of question) (held_of entries))) ≡ option_map (λ e. e.1.rows) (cond b (Some e) (find (is_of question) entries))
      by true rest = refl
      by false rest = rest

  -- behind the others
  pub begun_behind : (entries : Entries) (table : TableState Shown) → list_any (is_of question) entries ≡ false → table.rows ≡ [] → held_of (entries ++ (question, table) ∷ []) ≡ begun question (held_of entries)
  begun_behind [] table none empty = ap (λ (rows : RecordSet). (question, rows) ∷ []) empty
  begun_behind (e ∷ entries) table none empty =
      let both = or_false (is_of question e) (list_any (is_of question) entries) none in
      ap (λ (l : Held). (e.0, e.1.rows) ∷ l) (begun_behind entries table both.1 empty)
      ∙ sym (ap (λ (b : Bool). cond b ((e.0, []) ∷ held_of entries) ((e.0, e.1.rows) ∷ begun question (held_of entries))) both.0)

  -- in its place
  begun_at : (entries : Entries) (i : ℕ) (d : Question × TableState Shown) (table : TableState Shown) → i < length entries → is_of question (get_or entries i d) ≡ true
      → ((k : ℕ) → k < i → is_of question (get_or entries k d) ≡ false) → table.rows ≡ [] → held_of (set entries i ((get_or entries i d).0, table)) ≡ begun question (held_of entries)
  begun_at [] i d table within here before empty = absurd (omega arith)
  begun_at (e ∷ entries) zero d table within here before empty =
      ap (λ (rows : RecordSet). (e.0, rows) ∷ held_of entries) empty
      ∙ sym (ap (λ (b : Bool). cond b ((e.0, []) ∷ held_of entries) ((e.0, e.1.rows) ∷ begun question (held_of entries))) here)
  begun_at (e ∷ entries) (suc i) d table within here before empty =
      ap (λ (l : Held). (e.0, e.1.rows) ∷ l) (begun_at entries i d table (omega arith) here (λ k below. before (suc k) (omega arith)) empty)
      ∙ sym (ap (λ (b : Bool). cond b ((e.0, []) ∷ held_of entries) ((e.0, e.1.rows) ∷ begun question (held_of entries))) (before 0 (omega arith)))

  pub begun_there : (entries : Entries) (i : ℕ) (d : Question × TableState Shown) (table : TableState Shown) → position (is_of question) entries ≡ Some i → table.rows ≡ []
      → held_of (set entries i ((get_or entries i d).0, table)) ≡ begun question (held_of entries)
  begun_there entries i d table is empty = let at = position-Some (is_of question) entries i d is in begun_at entries i d table at.0 at.1 at.2 empty
