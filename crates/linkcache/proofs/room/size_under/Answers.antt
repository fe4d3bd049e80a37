use Rattle.std.proofs.Common.{◌≡◌, ◌∙◌, true, length, sym, subst, arith}
use Rattle.dnsname.specs.Names.{octets, same_name}
use Rattle.rrset.specs.declared.record.Key.{Key}
use Rattle.rrset.specs.Records.{rr_size}
use Rattle.linkmap.specs.Translation.{local, renamed, renamed_rr}
use Rattle.linkcache.specs.declared.row.HeardRow.{HeardRow}
use Rattle.linkcache.specs.Rows.{rr_of_row}
use Rattle.linkcache.specs.Sound.{IsLinkRow}
use Rattle.linkcache.proofs.Numbers.{size_done}
use Rattle.linkcache.proofs.SoundSteps.{all_at}
use Rattle.linkcache.proofs.OneOwner.{owner-octets}
use Rattle.linkcache.proofs.room.size_under.Goals as goal

pub size_of_row-requires-clause-row : goal.size_of_row-requires-clause-row
size_of_row-requires-clause-row c = subst (IsLinkRow c.args.rules.now) (sym c.rows-item.is) (all_at (IsLinkRow c.args.rules.now) c.args.rows.now c.rows.key-index c.rows-item.result c.requires.rows c.rows-test.true)

pub size_of_row-requires-clause-owner : goal.size_of_row-requires-clause-owner
size_of_row-requires-clause-owner c =
    let rules = c.args.rules.now in
    let owner = c.args.owner.now in
    let P : Key × HeardRow → Type 0 = λ row. length (octets (renamed local rules.domain owner)) ≡ length (octets (renamed local rules.domain row.1.shown.owner)) in
    c.renamed_octets-octets.ensures.octets
    ∙ subst P (sym c.rows-item.is)
    (owner-octets rules owner _ (all_at (IsLinkRow rules) c.args.rows.now c.rows.key-index c.rows-item.result c.requires.rows c.rows-test.true)
    (all_at (λ row. same_name owner row.0.owner ≡ true) c.args.rows.now c.rows.key-index c.rows-item.result c.requires.owner c.rows-test.true))

pub returns : goal.returns
returns c = size_done (λ row. rr_size (renamed_rr local c.args.rules.now.domain (rr_of_row row))) c.args.rows.now c.rows.key-index c.rows.size c.rows.invariant.0 (omega (arith, c.rows-test.false)) c.rows.invariant.1
