-- An entry of a reconfirmation changes no record (RFC 8765, 6.5): the rows end earlier, and are shown as before.
--     records-reconfirmed      the records behind it
use Rattle.std.proofs.Common.{◌≡◌, ℕ, zero, suc, ◌+◌, Bool, true, false, cond, List, [], ◌∷◌, ◌++◌, map, fold, refl, ap, ◌∙◌}
use Rattle.push_base.specs.Cases.{changed_at}
use Rattle.rrset.specs.RecordSet.{RecordSet, union}
use Rattle.rrset.specs.Records.{same_key}
use Rattle.rrset.specs.declared.record.Key.{Key}
use Rattle.linkcache.specs.Rows.{LinkRows, reconfirmation, ending_by, reconfirmed, put_shown, shown_rows}
use Rattle.history.specs.States.{State, LinkState, after, records}
use Rattle.history.specs.declared.entry.Entry.TheVariants as entries
use Rattle.linkcache.specs.declared.rules.LinkRules.{LinkRules}

-- a row that ends earlier is shown as it was
shown-behind : (rules : LinkRules) (key : Key) (now : ℕ) (set : RecordSet) (rows : LinkRows) → fold (put_shown rules) set (reconfirmed rows key now) ≡ fold (put_shown rules) set rows
shown-behind rules key now set [] = refl
shown-behind rules key now set (row ∷ rows) =
    ap (λ (s : RecordSet). fold (put_shown rules) s (reconfirmed rows key now)) (by (same_key key row.0)) ∙ shown-behind rules key now (put_shown rules set row) rows
  where
    by : (b : Bool) → put_shown rules set (cond b (ending_by (now + reconfirmation) row) row) ≡ put_shown rules set row
    by true = refl
    by false = refl

abbrev shown_of_link : LinkState → RecordSet
shown_of_link l = shown_rows l.rules l.rows

links-shown : (key : Key) (now link : ℕ) (ls : List LinkState) → map shown_of_link (changed_at link (λ (l : LinkState). record l { rows = reconfirmed l.rows key now }) ls) ≡ map shown_of_link ls
links-shown key now link [] = refl
links-shown key now zero (l ∷ ls) = λ i. shown-behind l.rules key now [] l.rows i ∷ map shown_of_link ls
links-shown key now (suc link) (l ∷ ls) = λ i. shown_of_link l ∷ links-shown key now link ls i

pub records-reconfirmed : (state : State) (link : ℕ) (key : Key) → records (after state (entries.Reconfirm link key)) ≡ records state
records-reconfirmed state link key = ap (λ (sets : List RecordSet). fold union [] (map (λ z. z.rows) state.zones ++ sets)) (links-shown key state.now link state.links)
