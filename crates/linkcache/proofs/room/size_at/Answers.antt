use Rattle.std.proofs.Common.{◌≡◌, ◌∙◌, T, true, not, is_some, sym, ap, subst}
use Rattle.std.specs.Prelude.{sum_by}
use Rattle.dnsname.specs.Names.{same_name}
use Rattle.rrset.specs.KeyedRows.{is_rising, only_rows, row_at}
use Rattle.rrset.specs.Tables.{counted}
use Rattle.rrset.proofs.Places.{all_filter}
use Rattle.linkcache.specs.Rows.{LinkRows}
use Rattle.linkcache.specs.Sound.{IsLinkRow, AreLinkRows}
use Rattle.linkcache.proofs.KeyedParts.{Rising}
use Rattle.linkcache.proofs.LaidRows.{over-sound}
use Rattle.linkcache.proofs.LaidSizes.{new_in, laid-size, size-both}
use Rattle.linkcache.proofs.OneOwner.{AreOf, all-of}
use Rattle.linkcache.proofs.OwnerSizes.{row_size}
use Rattle.linkcache.proofs.room.size_at.Goals as goal

pub size_under-requires-clause-rows : goal.size_under-requires-clause-rows
size_under-requires-clause-rows c = subst (AreLinkRows c.args.rules.now) (sym c.at.ensures) (all_filter (IsLinkRow c.args.rules.now) (λ e. same_name c.args.owner.now e.0.owner) c.args.rows.now.rows c.requires.rows)

pub size_under-requires-clause-owner : goal.size_under-requires-clause-owner
size_under-requires-clause-owner c = subst (AreOf c.args.owner.now) (sym c.at.ensures) (all-of c.args.owner.now c.args.rows.now.rows)

pub size_under-requires-2-clause-owner : goal.size_under-requires-2-clause-owner
size_under-requires-2-clause-owner c =
    let rows = c.args.rows.now.rows in
    let over = c.args.over.now.rows in
    let owner = c.args.owner.now in
    subst (AreOf owner) (sym (c.deref.ensures.value ∙ c.in_ok-new.ensures ∙ ap (new_in rows) c.at-2.ensures))
    (all_filter (λ row. same_name owner row.0.owner ≡ true) (λ e. not (is_some (row_at e.0 rows))) (only_rows (λ key. same_name owner key.owner) over) (all-of owner over))

pub size_under-requires-2-clause-rows : goal.size_under-requires-2-clause-rows
size_under-requires-2-clause-rows c =
    let rules = c.args.rules.now in
    let rows = c.args.rows.now.rows in
    let over = c.args.over.now.rows in
    let g : Rising over = subst T (sym (ap is_rising (sym c.entries.ensures.rows) ∙ c.entries.ensures.order)) tt in
    subst (AreLinkRows rules) (sym (c.deref.ensures.value ∙ c.in_ok-new.ensures ∙ ap (new_in rows) c.at-2.ensures))
    (all_filter (IsLinkRow rules) (λ e. not (is_some (row_at e.0 rows))) (only_rows (λ key. same_name c.args.owner.now key.owner) over)
    (all_filter (IsLinkRow rules) (λ e. same_name c.args.owner.now e.0.owner) over (over-sound rules rows over (subst T (sym c.requires.order) tt) g c.requires.later)))

pub returns : goal.returns
returns c =
    let rules = c.args.rules.now in
    let rows = c.args.rows.now.rows in
    let over = c.args.over.now.rows in
    let h : Rising rows = subst T (sym c.requires.order) tt in
    let g : Rising over = subst T (sym (ap is_rising (sym c.entries.ensures.rows) ∙ c.entries.ensures.order)) tt in
    size-both rules c.args.owner.now rows over c.in_ok-new.new.items c.saturating_add.result c.in_ok-there.there c.in_ok-added.added
    (laid-size rules c.args.owner.now rows h c.requires.rows over g (over-sound rules rows over h g c.requires.later))
    (c.in_ok-new.ensures ∙ ap (new_in rows) c.at-2.ensures) c.saturating_add.ensures
    (c.in_ok-there.ensures ∙ ap (λ (l : LinkRows). counted (sum_by (row_size rules) l)) c.at.ensures)
    (c.in_ok-added.ensures ∙ ap (λ (l : LinkRows). counted (sum_by (row_size rules) l)) c.deref.ensures.value)
