-- What a link shows of whole rows is whole, under its domain and its reverse domains.
--     IsWholeRow most row      the row's owner is a name, its kind has 16 bits, its rdata has the shape of its kind and fewer than 2^16 octets, and its TTL is at most this
--     IsShownWhole most e      the same of what is shown, of class IN and of no meta kind
--     all-shown      so is all that the link shows
use Rattle.std.proofs.Common.{◌≡◌, ℕ, ◌^◌, ◌<◌, ◌≤◌, true, false, [], ◌∷◌, fold, length, Option, Some, None, refl, subst, arith}
use Rattle.std.specs.Prelude.{◌==◌}
use Rattle.std.specs.List.{AllByRecursion}
use Rattle.dnsname.specs.Names.{IsName}
use Rattle.rrset.specs.Kinds.{in_class, is_meta}
use Rattle.rrset.specs.Rdata.{shape_fits}
use Rattle.rrset.specs.Records.{key_of, shown_of}
use Rattle.rrset.specs.RecordSet.{RecordSet, put_rr}
use Rattle.rrset.specs.declared.record.Rr.{Rr}
use Rattle.rrset.specs.declared.record.Key.{Key}
use Rattle.rrset.specs.declared.record.Shown.{Shown}
use Rattle.linkmap.specs.Translation.{local}
use Rattle.linkmap.proofs.WholeRecords.{renamed-name, renamed-fits, renamed-short}
use Rattle.reversemap.specs.BothKinds.{shown_of as shown_by}
use Rattle.reversemap.proofs.UsedRecords.{shown-one, used-fits}
use Rattle.linkcache.specs.declared.row.HeardRow.{HeardRow}
use Rattle.linkcache.specs.Rows.{LinkRows, rr_of_row, put_shown, shown_rows}
use Rattle.linkcache.specs.Sound.{IsLinkRow, AreLinkRows}
use Rattle.linkcache.proofs.SoundSteps.{all-put}
use Rattle.linkcache.specs.declared.rules.LinkRules.{LinkRules}

pub record IsWholeRow (most : ℕ) (row : Key × HeardRow) : Type 0 where
  pub owner : IsName row.1.shown.owner
  pub kind : row.0.kind < 2 ^ 16
  pub shape : shape_fits row.0.kind row.1.shown.rdata ≡ true
  pub short : length row.1.shown.rdata < 2 ^ 16
  pub ttl : row.1.shown.ttl ≤ most

pub record IsShownWhole (most : ℕ) (e : Key × Shown) : Type 0 where
  pub owner : IsName e.1.owner
  pub class : (e.0.class == in_class) ≡ true
  pub kind : e.0.kind < 2 ^ 16
  pub no_meta : is_meta e.0.kind ≡ false
  pub shape : shape_fits e.0.kind e.1.rdata ≡ true
  pub short : length e.1.rdata < 2 ^ 16
  pub ttl : e.1.ttl ≤ most

-- what a whole row shows is whole
row-whole : (most : ℕ) (rules : LinkRules) (row : Key × HeardRow) (rr : Rr) → IsName rules.domain → IsLinkRow rules row → IsWholeRow most row → shown_by rules.domain rules.cap (rr_of_row row) ≡ Some rr → IsShownWhole most (key_of rr, shown_of rr)
row-whole most rules row rr is sound whole e =
    let fits = used-fits rules.domain rules.reverses (rr_of_row row) sound.usable in
    subst (λ (shown : Rr). IsShownWhole most (key_of shown, shown_of shown)) (shown-one rules.domain rules.cap (rr_of_row row) rr e) (record {
      owner = renamed-name local rules.domain row.1.shown.owner is whole.owner fits.owner_fits;
      class = fits.class;
      kind = whole.kind;
      no_meta = fits.no_meta;
      shape = renamed-fits local rules.domain is row.0.kind row.1.shown.rdata fits.fit whole.shape;
      short = renamed-short local rules.domain is row.0.kind row.1.shown.rdata fits.fit whole.short;
      ttl = omega (arith, whole.ttl);
    })

module _ (most : ℕ) (rules : LinkRules) (is : IsName rules.domain) where
  all-put_shown : (set : RecordSet) (row : Key × HeardRow) → IsLinkRow rules row → IsWholeRow most row → AllByRecursion (IsShownWhole most) set → AllByRecursion (IsShownWhole most) (put_shown rules set row)
  all-put_shown set row sound whole h = by (shown_by rules.domain rules.cap (rr_of_row row)) refl
    where
      by : (o : Option Rr) → shown_by rules.domain rules.cap (rr_of_row row) ≡ o → AllByRecursion (IsShownWhole most) (elim o [ None ↦ set | Some rr ↦ put_rr set rr ])
      by None e = h
      by (Some rr) e = all-put (IsShownWhole most) (key_of rr) (shown_of rr) set (row-whole most rules row rr is sound whole e) h

  all-fold : (rows : LinkRows) (set : RecordSet) → AreLinkRows rules rows → AllByRecursion (IsWholeRow most) rows → AllByRecursion (IsShownWhole most) set → AllByRecursion (IsShownWhole most) (fold (put_shown rules) set rows)
  all-fold [] set sound whole h = h
  all-fold (row ∷ rows) set sound whole h = all-fold rows (put_shown rules set row) sound.1 whole.1 (all-put_shown set row sound.0 whole.0 h)

  pub all-shown : (rows : LinkRows) → AreLinkRows rules rows → AllByRecursion (IsWholeRow most) rows → AllByRecursion (IsShownWhole most) (shown_rows rules rows)
  all-shown rows sound whole = all-fold rows [] sound whole tt
