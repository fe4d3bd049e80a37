-- What a part of a link's rows tells of all of them.
--     HearingsKeepToTheirOwners      a hearing changes the rows of its owners alone, as if they were all but for a count of the others
--     PartsShowForThemselves      what is shown otherwise of rows that differ in a part is shown otherwise of the part
--     MovesReachTheLaterRows      the changes from one part to another make the later rows of the earlier ones
--     RowsStaySound      each row stays one of a usable record, with its key
--     RowsStayWithin      there stay few enough rows, and few enough octets of each owner
--     ShownFits      what is shown of a name has few enough octets, too
--     ShownIsUnderItsNames      what is shown lies under the domain or a reverse domain
use Rattle.std.specs.Prelude.{◌≡◌, ◌≤◌, ℕ, Bool, true, IsTrue, List, length}
use Rattle.std.specs.List.{AllByRecursion}
use Rattle.push_base.specs.Limits.{max_octets_at_name}
use Rattle.dnsname.specs.Names.{Labels, IsName}
use Rattle.rrset.specs.RecordSet.{changes, size_at}
use Rattle.rrset.specs.declared.record.Key.{Key}
use Rattle.rrset.specs.declared.record.HeardRr.{HeardRr}
use Rattle.rrset.specs.KeyedRows.{is_rising, only_rows}
use Rattle.reversemap.specs.Reverse.{is_under}
use Rattle.reversemap.specs.BothKinds.{AreApart}
use Rattle.linkcache.specs.Rows.{LinkRows, usable_of, heard_beside, heard, at_moment, reconfirmed, shown_rows, names_of}
use Rattle.linkcache.specs.Parts.{is_touched, fails}
use Rattle.linkcache.specs.Plans.{moves, with_row_changes}
use Rattle.linkcache.specs.Sound.{AreLinkRows}
use Rattle.linkcache.specs.Within.{IsWithin}
use Rattle.linkcache.specs.declared.rules.LinkRules.{LinkRules}

abbrev pub HearingsKeepToTheirOwners : Type 0
HearingsKeepToTheirOwners = (rules : LinkRules) (now : ℕ) (hearing : List HeardRr) (rows : LinkRows) → IsTrue (is_rising rows)
    → (let usable : List HeardRr = usable_of rules hearing in
    let p : Key → Bool = is_touched usable in
    (only_rows p (heard rules rows now hearing) ≡ heard_beside (length (only_rows (fails p) rows)) rules (only_rows p rows) now usable)
    × (only_rows (fails p) (heard rules rows now hearing) ≡ only_rows (fails p) rows))

abbrev pub PartsShowForThemselves : Type 0
PartsShowForThemselves = (rules : LinkRules) (p : Key → Bool) (rows later : LinkRows) → IsName rules.domain → AreApart rules.domain rules.reverses → AreLinkRows rules rows → AreLinkRows rules later → only_rows (fails p) rows ≡ only_rows (fails p) later
    → changes (shown_rows rules rows) (shown_rows rules later) ≡ changes (shown_rows rules (only_rows p rows)) (shown_rows rules (only_rows p later))

abbrev pub MovesReachTheLaterRows : Type 0
MovesReachTheLaterRows = (p : Key → Bool) (rows later : LinkRows) → IsTrue (is_rising rows) → IsTrue (is_rising later) → only_rows (fails p) rows ≡ only_rows (fails p) later
    → with_row_changes (moves (only_rows p rows) (only_rows p later)) rows ≡ later

abbrev pub RowsStaySound : Type 0
RowsStaySound = (rules : LinkRules) (now : ℕ) (rows : LinkRows) → AreLinkRows rules rows
    → ((hearing : List HeardRr) → AreLinkRows rules (heard rules rows now hearing)) × AreLinkRows rules (at_moment rows now) × ((key : Key) → AreLinkRows rules (reconfirmed rows key now))

abbrev pub RowsStayWithin : Type 0
RowsStayWithin = (rules : LinkRules) (now : ℕ) (rows : LinkRows) → IsTrue (is_rising rows) → AreLinkRows rules rows → IsWithin rules rows
    → ((hearing : List HeardRr) → IsWithin rules (heard rules rows now hearing)) × IsWithin rules (at_moment rows now) × ((key : Key) → IsWithin rules (reconfirmed rows key now))

abbrev pub ShownFits : Type 0
ShownFits = (rules : LinkRules) (rows : LinkRows) → AreApart rules.domain rules.reverses → AreLinkRows rules rows → IsWithin rules rows → (name : Labels) → size_at name (shown_rows rules rows) ≤ max_octets_at_name

abbrev pub ShownIsUnderItsNames : Type 0
ShownIsUnderItsNames = (rules : LinkRules) (rows : LinkRows) → AreLinkRows rules rows → AllByRecursion (λ e. is_under (names_of rules) e.0.owner ≡ true) (shown_rows rules rows)
