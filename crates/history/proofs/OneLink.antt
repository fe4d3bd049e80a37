-- What an entry makes of the one link that it concerns: for each kind of entry, all that any other proof asks of it.
--     kept-after      what holds of each row, and of what the entry brings, holds of each row afterwards
--     AreRows, rows-after, link-after      rows stay such as a link has, and a link stays one
--     rows-moment, link-moment      so they do at a later moment
--     same-after      a link that doesn't take it up keeps its rows
use Rattle.std.proofs.Common.{◌≡◌, ℕ, ◌+◌, Bool, true, false, cond, not, ◌||◌, List, [], ◌∷◌, nat_lt, refl, ap}
use Rattle.std.specs.List.{list_any, AllByRecursion}
use Rattle.push_base.specs.Cases.{is_empty}
use Rattle.rrset.specs.Records.{same_key}
use Rattle.rrset.specs.declared.record.HeardRr.{HeardRr}
use Rattle.rrset.specs.declared.record.Key.{Key}
use Rattle.zoneupdate.proofs.Filters.{holds, is_true}
use Rattle.linkcache.specs.declared.row.HeardRow.{HeardRow}
use Rattle.linkcache.specs.Links.{LinkState, IsLink}
use Rattle.linkcache.specs.Rows.{LinkRows, at_moment, ending_by, has_key, heard_beside, reconfirmation, reconfirmed, usable_of}
use Rattle.linkcache.specs.Sound.{AreLinkRows}
use Rattle.linkcache.specs.Within.{IsWithin}
use Rattle.linkcache.proofs.GoneRows.{none-within}
use Rattle.linkcache.proofs.KeyedParts.{Rising, rising-filter}
use Rattle.linkcache.proofs.OwnerSizes.{within-heard, within-moment, within-reconfirmed}
use Rattle.linkcache.proofs.SoundSteps.{Brings, KeepsEnds, kept-heard, kept-reconfirmed, sound-heard, sound-moment, sound-reconfirmed}
use Rattle.history.specs.Entries.{brought, is_taken, rows_after}
use Rattle.history.specs.States.{link_after, link_at_moment}
use Rattle.history.specs.declared.entry.Entry.{Entry}
use Rattle.history.specs.declared.entry.Entry.TheVariants as entries
use Rattle.history.proofs.LinkOrder.{rising-ending, rising-heard}

pub kept-after : (P : Key × HeardRow → Type 0) → KeepsEnds P → (entry : Entry) (now : ℕ) (l : LinkState) → Brings P now (usable_of l.rules (brought entry)) → AllByRecursion P l.rows → AllByRecursion P (rows_after entry now l)
kept-after P ends (entries.Heard link hearing) now l brings all = kept-heard P ends l.rules now hearing.rrs l.rows brings all
kept-after P ends (entries.Reconfirm link key) now l brings all = kept-reconfirmed P ends key now l.rows all
kept-after P ends (entries.LinkGone link) now l brings all = tt
kept-after P ends (entries.Update update) now l brings all = all
kept-after P ends (entries.Moment t) now l brings all = all

-- keys rise, each row is one of a usable record, and they are few enough and not too large
pub record AreRows (l : LinkState) : Type 0 where
  pub order : Rising l.rows
  pub sound : AreLinkRows l.rules l.rows
  pub within : IsWithin l.rules l.rows

pub rows-after : (entry : Entry) (now : ℕ) (l : LinkState) → AreRows l → AreRows (link_after entry now l)
rows-after (entries.Heard link hearing) now l are = record {
  order = rising-heard l.rules now hearing.rrs l.rows are.order;
  sound = sound-heard l.rules now hearing.rrs l.rows are.sound;
  within = within-heard l.rules now hearing.rrs l.rows are.order are.sound are.within;
}
rows-after (entries.Reconfirm link key) now l are = record {
  order = rising-ending (λ row. same_key key row.0) (now + reconfirmation) l.rows are.order;
  sound = sound-reconfirmed l.rules key now l.rows are.sound;
  within = within-reconfirmed l.rules key now l.rows are.within;
}
rows-after (entries.LinkGone link) now l are = record { order = tt; sound = tt; within = none-within l.rules }
rows-after (entries.Update update) now l are = are
rows-after (entries.Moment t) now l are = are

-- the same at a later moment, which all links come to
pub rows-moment : (t : ℕ) (l : LinkState) → AreRows l → AreRows (link_at_moment t l)
rows-moment t l are = record {
  order = rising-filter (λ row. nat_lt t row.1.ends) l.rows are.order;
  sound = sound-moment l.rules t l.rows are.sound;
  within = within-moment l.rules t l.rows are.within;
}

rows-of : (l : LinkState) → IsLink l → AreRows l
rows-of l is = record { order = holds _ is.order; sound = is.sound; within = is.within }

link-with : (l : LinkState) (rows : LinkRows) → IsLink l → AreRows (record l { rows = rows }) → IsLink (record l { rows = rows })
link-with l rows is are = record { name = is.name; reverses = is.reverses; apart = is.apart; order = is_true _ are.order; sound = are.sound; within = are.within }

pub link-after : (entry : Entry) (now : ℕ) (l : LinkState) → IsLink l → IsLink (link_after entry now l)
link-after entry now l is = link-with l (rows_after entry now l) is (rows-after entry now l (rows-of l is))

pub link-moment : (t : ℕ) (l : LinkState) → IsLink l → IsLink (link_at_moment t l)
link-moment t l is = link-with l (at_moment l.rows t) is (rows-moment t l (rows-of l is))

none-used : (hs : List HeardRr) → not (is_empty hs) ≡ false → hs ≡ []
none-used [] e = refl
none-used (h ∷ hs) e = cc

same-rows : (key : Key) (now : ℕ) (rows : LinkRows) → has_key key rows ≡ false → reconfirmed rows key now ≡ rows
same-rows key now [] e = refl
same-rows key now (row ∷ rows) e = by (same_key key row.0) e (same-rows key now rows)
  where
    by : (b : Bool) → (b || list_any (λ row. same_key key row.0) rows) ≡ false → (has_key key rows ≡ false → reconfirmed rows key now ≡ rows) → cond b (ending_by (now + reconfirmation) row) row ∷ reconfirmed rows key now ≡ row ∷ rows
    by true e rest = cc
    by false e rest = ap (λ l. row ∷ l) (rest e)

none-there : (rows : LinkRows) → not (is_empty rows) ≡ false → [] ≡ rows
none-there [] e = refl
none-there (row ∷ rows) e = cc

pub same-after : (entry : Entry) (now : ℕ) (l : LinkState) → is_taken entry l ≡ false → rows_after entry now l ≡ l.rows
same-after (entries.Heard link hearing) now l e = ap (λ (hs : List HeardRr). heard_beside 0 l.rules l.rows now hs) (none-used (usable_of l.rules hearing.rrs) e)
same-after (entries.Reconfirm link key) now l e = same-rows key now l.rows e
same-after (entries.LinkGone link) now l e = none-there l.rows e
same-after (entries.Update update) now l e = refl
same-after (entries.Moment t) now l e = refl
