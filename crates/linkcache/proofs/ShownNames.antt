-- What a link shows lies under its domain or one of its reverse domains.
use Rattle.std.proofs.Common.{◌≡◌, true, [], ◌∷◌, fold, Option, Some, None, refl, ◌∙◌}
use Rattle.std.specs.List.{AllByRecursion}
use Rattle.dnsname.specs.Names.{lower}
use Rattle.rrset.specs.Records.{key_of, shown_of}
use Rattle.rrset.specs.RecordSet.{RecordSet, put_rr}
use Rattle.rrset.specs.declared.record.Rr.{Rr}
use Rattle.rrset.specs.declared.record.Key.{Key}
use Rattle.rrset.specs.declared.record.Shown.{Shown}
use Rattle.rrset.proofs.LowerNames.{lower-twice}
use Rattle.reversemap.specs.Reverse.{is_under}
use Rattle.reversemap.specs.BothKinds.{shown_of as shown_by}
use Rattle.reversemap.proofs.KindsApart.{under-alike}
use Rattle.reversemap.proofs.UsedRecords.{shown-names}
use Rattle.linkcache.specs.declared.row.HeardRow.{HeardRow}
use Rattle.linkcache.specs.declared.rules.LinkRules.{LinkRules}
use Rattle.linkcache.specs.Rows.{LinkRows, rr_of_row, put_shown, shown_rows, names_of}
use Rattle.linkcache.specs.Sound.{IsLinkRow, AreLinkRows}
use Rattle.linkcache.proofs.SoundSteps.{all-put}

module _ (rules : LinkRules) where
  abbrev AreUnder : RecordSet → Type 0
  AreUnder set = AllByRecursion (λ (e : Key × Shown). is_under (names_of rules) e.0.owner ≡ true) set

  under-put_shown : (set : RecordSet) (row : Key × HeardRow) → IsLinkRow rules row → AreUnder set → AreUnder (put_shown rules set row)
  under-put_shown set row sound all = by (shown_by rules.domain rules.cap (rr_of_row row)) refl
    where
      by : (o : Option Rr) → shown_by rules.domain rules.cap (rr_of_row row) ≡ o → AreUnder (elim o [ None ↦ set | Some rr ↦ put_rr set rr ])
      by None is = all
      by (Some rr) is =
          all-put (λ (e : Key × Shown). is_under (names_of rules) e.0.owner ≡ true) (key_of rr) (shown_of rr) set
          (under-alike (names_of rules) (lower rr.owner) rr.owner (lower-twice rr.owner) ∙ shown-names rules.domain rules.reverses rules.cap (rr_of_row row) rr sound.usable is) all

  under-fold : (rows : LinkRows) (set : RecordSet) → AreLinkRows rules rows → AreUnder set → AreUnder (fold (put_shown rules) set rows)
  under-fold [] set sound all = all
  under-fold (row ∷ rows) set sound all = under-fold rows (put_shown rules set row) sound.1 (under-put_shown set row sound.0 all)

  pub all-under : (rows : LinkRows) → AreLinkRows rules rows → AllByRecursion (λ (e : Key × Shown). is_under (names_of rules) e.0.owner ≡ true) (shown_rows rules rows)
  all-under rows sound = under-fold rows [] sound tt
