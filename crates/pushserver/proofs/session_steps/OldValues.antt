-- Old values of a name that waits, key by key.
--     SentAt start history asked w      what is told of a name by its old values is what it had at its point
--     sent-keys, sent-whole      that is what `KeepsSent` says of the whole name
--     keeps-fewer      it holds of questions that ask for fewer of the name's keys
use Rattle.std.proofs.Common.{◌≡◌, Bool, true, false, cond, List, [], ◌∷◌, length, Option, None, refl, sym, ap, ◌∙◌}
use Rattle.std.specs.List.{AllByRecursion}
use Rattle.dnsname.specs.Names.{Labels, same_name}
use Rattle.rrset.specs.KeyedRows.{Rows}
use Rattle.rrset.specs.Records.{same_key}
use Rattle.rrset.specs.RecordSet.{RecordSet, only, at_name, shown_at, with_values}
use Rattle.rrset.specs.declared.record.Key.{Key}
use Rattle.rrset.specs.declared.record.Shown.{Shown}
use Rattle.rrset.proofs.Apart.{shown_at-passed}
use Rattle.rrset.proofs.InOrder.{in_order-only}
use Rattle.rrset.proofs.OldValues.{told, shown_at-with_values, in_order-with_values}
use Rattle.rrset.proofs.SameRows.{same_key-same}
use Rattle.rrset.proofs.Sets.{shown_at-only, only_same}
use Rattle.history.specs.States.{State, records_at, state_at}
use Rattle.history.specs.declared.entry.Entry.{Entry}
use Rattle.subscr.specs.Asked.{Asked, wants}
use Rattle.coalesce.specs.Waiting.{WaitingName, OldValue, old_side, values_of}
use Rattle.pushserver.specs.KeptHubs.{KeepsSent, IsOldOf}
use Rattle.pushserver.proofs.Queues.{in_order-records}

-- at its name, as the questions ask
abbrev pub SentAt : State → List Entry → Asked → WaitingName → Type 0
SentAt start history asked w = (q : Key) → wants q asked ≡ true → same_name w.name q.owner ≡ true → told q (values_of w.values) (shown_at q (records_at start history (length history))) ≡ shown_at q (records_at start history w.point)

abbrev pub is_at : Labels → Key → Bool
is_at name key = same_name name key.owner

pub shown-there : (name : Labels) (q : Key) (rows : RecordSet) → is_at name q ≡ true → shown_at q (at_name name rows) ≡ shown_at q rows
shown-there name q rows at = shown_at-passed (is_at name) q rows at

shown-elsewhere : (name : Labels) (q : Key) (rows : RecordSet) → is_at name q ≡ false → shown_at q (at_name name rows) ≡ None
shown-elsewhere name q rows at = shown_at-only (is_at name) q rows ∙ ap (λ b. cond b (shown_at q rows) None) at

-- old values of a name tell nothing of keys elsewhere
told-elsewhere : (name : Labels) (q : Key) (values : Rows OldValue) (o : Option Shown) → is_at name q ≡ false → AllByRecursion (IsOldOf name) values → told q (values_of values) o ≡ o
told-elsewhere name q [] o away all = refl
told-elsewhere name q (e ∷ es) o away all = by (same_key q e.0) refl (told-elsewhere name q es o away all.1)
  where
    by : (b : Bool) → same_key q e.0 ≡ b → told q (values_of es) o ≡ o → told q (values_of es) (cond b e.1.before o) ≡ o
    by true is rest = let wrong : true ≡ false = sym all.0.0 ∙ ap (λ (k : Key). is_at name k) (sym (same_key-same q e.0 is)) ∙ away in absurd cc
    by false is rest = rest

module _ (start : State) (history : List Entry) (asked : Asked) (w : WaitingName) where
  abbrev now : RecordSet
  now = records_at start history (length history)

  abbrev before : RecordSet
  before = records_at start history w.point

  abbrev asks : Key → Bool
  asks key = wants key asked

  pub sent-keys : old_side asked now w ≡ only asks (at_name w.name before) → SentAt start history asked w
  sent-keys sent q wanted at =
      ap (told q (values_of w.values)) (sym (shown-there w.name q now at))
      ∙ sym (shown_at-with_values q (values_of w.values) (at_name w.name now))
      ∙ sym (shown_at-passed asks q (with_values (values_of w.values) (at_name w.name now)) wanted)
      ∙ ap (shown_at q) sent
      ∙ shown_at-passed asks q (at_name w.name before) wanted
      ∙ shown-there w.name q before at

  pub sent-whole : AllByRecursion (IsOldOf w.name) w.values → SentAt start history asked w → old_side asked now w ≡ only asks (at_name w.name before)
  sent-whole values sent =
      only_same asks (with_values (values_of w.values) (at_name w.name now)) (at_name w.name before)
      (in_order-with_values (values_of w.values) (at_name w.name now) (in_order-only (is_at w.name) now (in_order-records (state_at start history (length history))))) (in_order-only (is_at w.name) before (in_order-records (state_at start history w.point)))
      (λ q wanted. shown_at-with_values q (values_of w.values) (at_name w.name now) ∙ by q wanted (is_at w.name q) refl)
    where
      by : (q : Key) → asks q ≡ true → (b : Bool) → is_at w.name q ≡ b → told q (values_of w.values) (shown_at q (at_name w.name now)) ≡ shown_at q (at_name w.name before)
      by q wanted true at = ap (told q (values_of w.values)) (shown-there w.name q now at) ∙ sent q wanted at ∙ sym (shown-there w.name q before at)
      by q wanted false at =
          ap (told q (values_of w.values)) (shown-elsewhere w.name q now at) ∙ told-elsewhere w.name q w.values None at values ∙ sym (shown-elsewhere w.name q before at)

-- ---- other questions

pub keeps-fewer : (start : State) (history : List Entry) (asked later : Asked) (w : WaitingName) → ((q : Key) → wants q later ≡ true → is_at w.name q ≡ true → wants q asked ≡ true) → KeepsSent start history asked w → KeepsSent start history later w
keeps-fewer start history asked later w fewer k = record {
  rising = k.rising;
  values = k.values;
  older = k.older;
  sent = sent-whole start history later w k.values (λ q wanted at. sent-keys start history asked w k.sent q (fewer q wanted at) at);
}
