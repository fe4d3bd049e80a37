-- The rows of a link and what changes them (RFC 6762, 10).
--     heard rules rows now hearing      the rows after a hearing, in two passes
--     at_moment rows now      the rows that have not ended
--     reconfirmed rows key now      a row that ends soon unless it is heard again
--     next_end rows      the least moment at which a row ends
--     shown_rows rules rows      the records that the link shows, no TTL being greater than the cap
--     keys_and_shown rows      the rows without their moments, of which what is shown doesn't depend
--     names_of rules      the names under which it shows them
--     heard_by rules rr      the record of the link that would be shown with this key, if there is one
use Rattle.std.specs.Prelude.{ℕ, ◌+◌, ◌*◌, Bool, ◌&&◌, ◌||◌, cond, List, [], ◌∷◌, map, length, filter, fold, sum_by, min, Option, Some, None, nat_lt, nat_le, ◌==◌, if◌then◌else◌}
use Rattle.std.specs.List.{list_any}
use Rattle.std.specs.FinMap.{put as map_put}
use Rattle.push_base.specs.Limits.{max_octets_at_name}
use Rattle.dnsname.specs.Names.{Labels, same_name}
use Rattle.rrset.specs.Records.{key_of, shown_of, rr_of, key_cmp, same_key, rr_size, counted_ttl}
use Rattle.rrset.specs.RecordSet.{RecordSet, is_of_rrset, put_rr}
use Rattle.rrset.specs.declared.record.Rr.{Rr}
use Rattle.rrset.specs.declared.record.Key.{Key}
use Rattle.rrset.specs.declared.record.HeardRr.{HeardRr}
use Rattle.linkcache.specs.declared.row.HeardRow.{HeardRow}
use Rattle.linkcache.specs.declared.row.TheConstants as constants
use Rattle.linkcache.specs.declared.rules.TheConstants as rules_constants
use Rattle.linkmap.specs.Translation.{local, renamed_rr}
use Rattle.reversemap.specs.BothKinds.{is_used, shown_of as shown_by, heard_of}
use Rattle.linkcache.specs.declared.rules.LinkRules.{LinkRules}

abbrev pub ttl_of : HeardRr → ℕ
ttl_of h = counted_ttl h.rr.ttl

-- the rows of a link: from each key what was heard, in key order, each key once
abbrev pub LinkRows : Type 0
LinkRows = List (Key × HeardRow)

abbrev pub rr_of_row : Key × HeardRow → Rr
rr_of_row row = rr_of row.0 row.1.shown

abbrev pub ending_by : ℕ → Key × HeardRow → Key × HeardRow
ending_by moment row = (row.0, record row.1 { ends = min row.1.ends moment })

abbrev pub has_key : Key → LinkRows → Bool
has_key key rows = list_any (λ row. same_key key row.0) rows

-- the octets of the rows of an owner under the domain, those counted too that aren't shown
abbrev pub size_under : LinkRules → Labels → LinkRows → ℕ
size_under rules owner rows = sum_by (λ row. rr_size (renamed_rr local rules.domain (rr_of_row row))) (filter (λ row. same_name owner row.0.owner) rows)

-- the most rows of a link (this project's own)
abbrev pub max_rows : ℕ
max_rows = constants.MAX_ROWS

-- few enough rows, with so many others that the link has, and few enough octets of an owner (this project's own)
abbrev pub row_has_room : LinkRules → ℕ → LinkRows → Rr → Bool
row_has_room rules others rows rr = nat_lt (length rows + others) max_rows && nat_le (size_under rules rr.owner rows + rr_size (renamed_rr local rules.domain rr)) max_octets_at_name

-- in milliseconds
abbrev pub second : ℕ
second = constants.SECOND

abbrev pub heard_at : ℕ → HeardRr → HeardRow
heard_at now h = record { shown = record (shown_of h.rr) { ttl = ttl_of h }; heard = now; ends = now + second * ttl_of h }

-- the first pass: a record is put with its TTL; a TTL of 0 lets the row go after a second (RFC 6762, 10 and 10.1)
abbrev pub put_heard : LinkRules → ℕ → ℕ → LinkRows → HeardRr → LinkRows
put_heard rules now others rows h =
    if ttl_of h == 0 then map (λ row. cond (same_key (key_of h.rr) row.0) (ending_by (now + second) row) row) rows
    else if has_key (key_of h.rr) rows || row_has_room rules others rows h.rr then map_put key_cmp (key_of h.rr) (heard_at now h) rows
    else rows

abbrev pub is_of_set : Rr → Key × HeardRow → Bool
is_of_set rr row = is_of_rrset rr.owner rr.class rr.kind row.0

-- the second pass: what was heard more than a second ago goes after a second (RFC 6762, 10.2)
abbrev pub flushed_by : ℕ → LinkRows → HeardRr → LinkRows
flushed_by now rows h = map (λ row. cond (is_of_set h.rr row && nat_lt (row.1.heard + second) now) (ending_by (now + second) row) row) rows

abbrev pub usable_of : LinkRules → List HeardRr → List HeardRr
usable_of rules hearing = filter (λ h. is_used rules.domain rules.reverses h.rr) hearing

-- both passes, on rows of a link that has so many others
abbrev pub heard_beside : ℕ → LinkRules → LinkRows → ℕ → List HeardRr → LinkRows
heard_beside others rules rows now usable = fold (flushed_by now) (fold (put_heard rules now others) rows usable) (filter (λ h. h.flush) usable)

abbrev pub heard : LinkRules → LinkRows → ℕ → List HeardRr → LinkRows
heard rules rows now hearing = heard_beside 0 rules rows now (usable_of rules hearing)

abbrev pub at_moment : LinkRows → ℕ → LinkRows
at_moment rows now = filter (λ row. nat_lt now row.1.ends) rows

-- in milliseconds (RFC 6762, 10.4)
abbrev pub reconfirmation : ℕ
reconfirmation = constants.RECONFIRMATION

-- a row that is reconfirmed and isn't heard goes after ten seconds (RFC 6762, 10.4)
abbrev pub reconfirmed : LinkRows → Key → ℕ → LinkRows
reconfirmed rows key now = map (λ row. cond (same_key key row.0) (ending_by (now + reconfirmation) row) row) rows

-- the cap of a link that shows each TTL as it was heard (this project's own)
abbrev pub no_cap : ℕ
no_cap = rules_constants.NO_CAP

abbrev pub put_shown : LinkRules → RecordSet → Key × HeardRow → RecordSet
put_shown rules set row = elim (shown_by rules.domain rules.cap (rr_of_row row)) [ None ↦ set | Some rr ↦ put_rr set rr ]

abbrev pub shown_rows : LinkRules → LinkRows → RecordSet
shown_rows rules rows = fold (put_shown rules) [] rows

-- the rows without the moments at which they were heard and end
abbrev pub keys_and_shown : LinkRows → RecordSet
keys_and_shown rows = map (λ row. (row.0, row.1.shown)) rows

-- the link's domain, and its reverse domains (RFC 8766, 5.4)
abbrev pub names_of : LinkRules → List Labels
names_of rules = rules.domain ∷ rules.reverses

abbrev pub heard_by : LinkRules → Rr → Option Rr
heard_by rules rr = heard_of rules.domain rules.reverses rr

abbrev pub earlier : Option ℕ → Key × HeardRow → Option ℕ
earlier None row = Some row.1.ends
earlier (Some moment) row = Some (min moment row.1.ends)

-- the least moment at which a row ends
abbrev pub next_end : LinkRows → Option ℕ
next_end rows = fold earlier None rows
